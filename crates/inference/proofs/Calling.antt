-- Function and argument of an application, once both are typed: the function's type, a product, is kept at `top`, and the
-- argument's type behind it.
use Prim.Native.Nat.{ℕ, suc, ◌+◌, ◌-◌, ◌*◌, ◌≤◌}
use mathlib.Core.List.{List}
use mathlib.Core.Logic.{◌≢◌}
use mathlib.Core.Path.{◌≡◌, sym, ap, subst, ◌∙◌}
use native.Mathlib.Omega.{arith}
use lib.ListN.{length, take, drop}
use lib.Seq.{take-take}
use Rattle.calculus.specs.Term.{Term, app, pi, size}
use Rattle.calculus.specs.Answer.{ok}
use Rattle.calculus.specs.Words.{emit, words, Scoped, longest, Worded}
use Rattle.calculus.specs.Meaning.{meaning, a_pi}
use Rattle.calculus.specs.Rules.{Context}
use Rattle.calculus.proofs.Scoping.{scoped_more}
use Rattle.term.specs.Kept.{kept, word_at}
use Rattle.inference.specs.Inference.{judge, Subject}
use Rattle.inference.specs.Moving.{Product}
use Rattle.inference.proofs.Nodes.{of_app}
use Rattle.inference.proofs.Subjects.{behind, part_words, first, second, replaced, place_first, place_second}
use Rattle.inference.proofs.Rooms.{subject_shallow}
use Rattle.inference.proofs.Types.{type_scoped, type_fits, type_worded}
use Rattle.inference.proofs.Passing.{Part}
use Rattle.inference.proofs.Heads.{Headed, type_headed, type_meaning}
use Rattle.inference.proofs.KeptTypes.{same_part}
use Rattle.book.specs.declared.Reader.{Reader}

-- Function `f` and argument `u` of an application at `p`.
pub record Called (who : Reader) (book : List ℕ) (L : ℕ) (Γ : Context) (p : ℕ) (f u : Term) (places : List ℕ) (depth : ℕ) (work : List ℕ) (top n more m own : ℕ) (after places' : List ℕ) : Type 0 where
  pub domain : Term
  pub codomain : Term
  pub type : Term
  pub function : judge who book L Γ (suc p) f ≡ ok (pi domain codomain)
  pub argument : judge who book L Γ (suc p + size f) u ≡ ok type
  pub read : n ≡ size f
  pub further : more ≡ size u
  pub long : m ≡ suc (size domain + size codomain)
  pub fits : m ≤ L
  pub own_fits : own ≤ L
  pub has_words : L ≤ longest → Worded (pi domain codomain) × Worded type
  pub scoped : Scoped (suc (length Γ)) codomain
  pub lies : take (2 * m) (drop (2 * top) after) ≡ kept (pi domain codomain)
  pub type_lies : take (2 * own) (drop (2 * (top + m)) after) ≡ kept type
  pub front : take (2 * top) after ≡ take (2 * top) work
  pub context : take depth places' ≡ take depth places
  pub wide : length places' ≡ length places

module _ {book : List ℕ} {Γ : Context} {f u : Term} {term sub places : List ℕ} {depth : ℕ} (S : Subject book Γ (app f u) term sub places depth) (who : Reader) (L : ℕ)
    {work : List ℕ} {top n m : ℕ} {between places₁ : List ℕ}
    (F : Part (judge who book L Γ (length term - length (behind 1 sub)) f) f places depth work top n m between places₁) where
  pub argument_subject : Subject book Γ u term (behind (1 + n) sub) places₁ depth
  argument_subject = second (replaced S F.context F.wide) (1 + n) of_app (ap (λ k. 1 + k) F.read)

  pub argument_words : {more : ℕ} → more ≡ size u → take (1 + n + more - (1 + n)) (drop (1 + n) sub) ≡ words u
  argument_words {more} x = part_words sub (1 + n) (1 + n + more - (1 + n)) argument_subject (omega arith)

  pub function_found : judge who book L Γ (suc (length term - length sub)) f ≡ ok F.type
  function_found = rw (← place_first S) F.found

  -- The first word decides whether its type is a product.
  pub other_type : meaning (word_at between top) ≢ a_pi → (a b : Term) → F.type ≢ pi a b
  unfolding emit meaning
  other_type n a b x = n (type_meaning F x)

  pub is_product : a_pi ≡ meaning (word_at between top) → (a : Term) × (b : Term) × (F.type ≡ pi a b)
  unfolding Headed
  is_product w = type_headed who L _ (first S of_app) F w

  pub function_product : (w : a_pi ≡ meaning (word_at between top))
      → judge who book L Γ (suc (length term - length sub)) f ≡ ok (pi (is_product w).0 (is_product w).1)
  function_product w = function_found ∙ ap ok (is_product w).2

  pub called : {more own : ℕ} {after places' : List ℕ}
      → a_pi ≡ meaning (word_at between top)
      → Part (judge who book L Γ (length term - length (behind (1 + n) sub)) u) u places₁ depth between (top + m) more own after places'
      → Called who book L Γ (length term - length sub) f u places depth work top n more m own after places'
  unfolding size Scoped
  called {after} w U =
      let x = (is_product w).2 in
      let nodes : 2 * top + 2 * m ≡ 2 * (top + m) = omega arith in
      record {
        domain = (is_product w).0;
        codomain = (is_product w).1;
        type = U.type;
        function = function_product w;
        argument = rw (← place_second S of_app (1 + n) (ap (λ k. 1 + k) F.read)) U.found;
        read = F.read;
        further = U.read;
        long = F.long ∙ ap size x;
        fits = omega (arith, F.long, type_fits (first S of_app) who L _ F.found);
        own_fits = omega (arith, U.long, type_fits argument_subject who L _ U.found);
        has_words = λ short.
            (subst Worded x (type_worded (first S of_app) who L _ F.found short), type_worded argument_subject who L _ U.found short);
        scoped = (subst (Scoped (length Γ)) x (type_scoped (first S of_app) who L _ F.found)).1;
        lies =
            same_part between after (2 * top) (2 * m)
            (ap (λ k. take k after) nodes ∙ U.front ∙ ap (λ k. take k between) (sym nodes))
            ∙ F.lies
            ∙ ap kept x;
        type_lies = U.lies;
        front =
            sym (take-take (2 * top) (2 * (top + m)) after (omega arith))
            ∙ ap (take (2 * top)) U.front
            ∙ take-take (2 * top) (2 * (top + m)) between (omega arith)
            ∙ F.front;
        context = U.context ∙ F.context;
        wide = U.wide ∙ F.wide;
      }

module _ {who : Reader} {book : List ℕ} {L : ℕ} {Γ : Context} {p : ℕ} {f u : Term} {places : List ℕ} {depth : ℕ} {work : List ℕ} {top n more m own : ℕ} {after places' : List ℕ}
    (C : Called who book L Γ p f u places depth work top n more m own after places') where
  -- What is asked of the function's type.
  pub called_product : {term sub : List ℕ}
      → Subject book Γ (app f u) term sub places depth
      → L ≤ longest
      → Product (take (2 * m) (drop (2 * top) after))
  unfolding size
  called_product S h =
      record {
        domain = C.domain;
        codomain = C.codomain;
        coded = C.lies;
        short = omega (arith, C.long, C.fits);
        scoped = scoped_more C.codomain (omega (arith, S.around, subject_shallow S)) C.scoped;
      }
