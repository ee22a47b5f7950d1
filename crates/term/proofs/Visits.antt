-- The tests of one word, in the order 5, 8, 9, by what the word means: the first that fails answers. The code knows the meaning as a
-- variant, at times only by the number of the variant, its tag.
use Prim.Native.Nat.{ℕ, suc, ◌<◌}
use mathlib.Core.Bool.{Bool, true, false, not, true≢false}
use mathlib.Core.Logic.{◌⊎◌, inl, inr}
use types.Run.{OneOf}
use denote.Enum.Declared.{tag_of}
use Rattle.term.specs.contracts.word.Meaning.{the_type}
use mathlib.Core.List.{List, [], ◌∷◌}
use mathlib.Core.Path.{◌≡◌, refl, sym, subst}
use borrow.Author.Tests.{lt-ltb}
use lib.Dec.{T, leb, ltb, eqb, ltb→lt}
use Rattle.calculus.specs.Answer.{ok, refused, ◌>>=◌, ◌>>◌, require, no_meaning, level_65, unbound}
use Rattle.calculus.specs.Meaning as calculus
use Rattle.calculus.specs.Meaning.{a_variable, binds}
use Rattle.calculus.specs.Scan.{means, bound, test, Pending}
use Rattle.calculus.proofs.Comparisons.{passed, both, gt_leb}
use Rattle.term.specs.declared.word.Meaning.{Meaning}
use Rattle.term.specs.declared.word.Meaning.TheVariants.{Star, CastDown, Application, CastUp, Abstraction, Product, Recursion, Variable, Nothing, Name}
use Rattle.term.specs.Word.{meaning_of, second}
use Rattle.term.specs.Subterms.{inside, pending}

module _ (m : calculus.Meaning) (room b p : ℕ) where
  pub meaningless : means m ≡ false → refused no_meaning p ≡ test m (pending room b) p
  unfolding test require ◌>>=◌ ◌>>◌
  meaningless h = rw h refl

  pub too_deep : T (means m) → room ≡ 0 → refused level_65 p ≡ test m (pending room b) p
  unfolding test require ◌>>=◌ ◌>>◌
  too_deep meant none = rw (passed (means m) meant, none) refl

  pub outside : T (means m) → 0 < room → inside m b ≡ false → refused unbound p ≡ test m (pending room b) p
  unfolding test require ◌>>=◌ ◌>>◌
  outside meant deep free =
      let free' : bound m b ≡ false = rw (passed (means m) meant) at free in
      rw (passed (means m) meant, lt-ltb 0 room deep, free') refl

  pub passes : inside m b ≡ true → 0 < room → ok tt ≡ test m (pending room b) p
  unfolding test require ◌>>=◌ ◌>>◌
  passes h deep =
      let (meant, scoped) = both (means m) (bound m b) (rw h tt) in
      rw (passed (means m) meant, lt-ltb 0 room deep, passed (bound m b) scoped) refl

-- The other way: a word that passes has a level.
level : (p : ℕ) (a b c : Bool)
    → ok tt ≡ (require no_meaning p a >> (require level_65 p b >> require unbound p c))
    → T b
unfolding require ◌>>=◌ ◌>>◌
level p true true c e = tt
level p true false c e = absurd (true≢false cc)
level p false b c e = absurd (true≢false cc)

pub has_level : (m : calculus.Meaning) (s : Pending) (p : ℕ) → ok tt ≡ test m s p → 0 < s.room
unfolding test
has_level m s p e = ltb→lt 0 s.room (level p (means m) (ltb 0 s.room) (bound m s.binders) e)

-- So many binders are needed: a word stands under them, and under no fewer.
pub variable_needs : {m : calculus.Meaning} (i n b : ℕ) → m ≡ a_variable i → n ≡ suc i → leb n b ≡ inside m b
unfolding means bound
variable_needs i n b e more = rw (e, more) refl

pub nothing_needs : (m : calculus.Meaning) (n b : ℕ) → means m ≡ false → b < n → leb n b ≡ inside m b
nothing_needs m n b e few = rw (e, gt_leb n b few) refl

-- Of two variants the words are not read: those that mean nothing, and names.
pub unread : (m : Meaning) → (m ≡ Nothing) ⊎ ((i : ℕ) × (m ≡ Name i)) → means (meaning_of m) ≡ false
unfolding means
unread m (inl e) = rw e refl
unread m (inr e) = rw e.1 refl

pub meant : (m : Meaning) → (m ≡ Nothing → ⊥) → ((i : ℕ) → m ≡ Name i → ⊥) → T (means (meaning_of m))
unfolding means
meant Star n f = tt
meant CastDown n f = tt
meant Application n f = tt
meant CastUp n f = tt
meant Abstraction n f = tt
meant Product n f = tt
meant Recursion n f = tt
meant (Variable i) n f = tt
meant Nothing n f = absurd (n refl)
meant (Name i) n f = absurd (f i refl)

-- A word of any variant but the variable is inside its binders, however many there are.
unbound_by_none : (m : Meaning) → ((i : ℕ) → m ≡ Variable i → ⊥) → (b : ℕ) → T (bound (meaning_of m) b)
unfolding bound
unbound_by_none Star f b = tt
unbound_by_none CastDown f b = tt
unbound_by_none Application f b = tt
unbound_by_none CastUp f b = tt
unbound_by_none Abstraction f b = tt
unbound_by_none Product f b = tt
unbound_by_none Recursion f b = tt
unbound_by_none (Variable i) f b = absurd (f i refl)
unbound_by_none Nothing f b = tt
unbound_by_none (Name i) f b = tt

-- A word of any variant that is read, but the variable, stands anywhere.
pub anywhere : (m : Meaning)
    → ((i : ℕ) → m ≡ Variable i → ⊥)
    → (m ≡ Nothing → ⊥)
    → ((i : ℕ) → m ≡ Name i → ⊥)
    → (b : ℕ)
    → inside (meaning_of m) b ≡ true
anywhere m v n f b = rw (passed (means (meaning_of m)) (meant m n f), passed (bound (meaning_of m) b) (unbound_by_none m v b)) refl

-- What each variant binds in a second part: the variants of three words bind one variable.
pub one_bound : (m : Meaning) → (m ≡ Abstraction) ⊎ ((m ≡ Product) ⊎ (m ≡ Recursion)) → 1 ≡ second (binds (meaning_of m))
unfolding binds
one_bound m (inl e) = rw e refl
one_bound m (inr (inl e)) = rw e refl
one_bound m (inr (inr e)) = rw e refl

pub none_bound : (m : Meaning)
    → (m ≡ Abstraction → ⊥)
    → (m ≡ Product → ⊥)
    → (m ≡ Recursion → ⊥)
    → 0 ≡ second (binds (meaning_of m))
unfolding binds
none_bound Star a p r = refl
none_bound CastDown a p r = refl
none_bound Application a p r = refl
none_bound CastUp a p r = refl
none_bound Abstraction a p r = absurd (a refl)
none_bound Product a p r = absurd (p refl)
none_bound Recursion a p r = absurd (r refl)
none_bound (Variable i) a p r = refl
none_bound Nothing a p r = refl
none_bound (Name i) a p r = refl

-- The place of a variant in its enum.
abbrev pub tag : Meaning → ℕ
tag = tag_of the_type

-- What holds at each of some numbers holds at one of them.
abbrev pub Each : (ℕ → Type 0) → List ℕ → Type 0
Each P [] = Unit
Each P (k ∷ ks) = P k × Each P ks

pub at_one : (P : ℕ → Type 0) (ks : List ℕ) → Each P ks → (x : ℕ) → OneOf ks x → P x
at_one P [] h x e = absurd e
at_one P (k ∷ []) h x e = subst P (sym e) h.0
at_one P (k ∷ k' ∷ ks) h x (inl e) = subst P (sym e) h.0
at_one P (k ∷ k' ∷ ks) h x (inr r) = at_one P (k' ∷ ks) h.1 x r

-- A word of any variant but the variable is inside its binders, however many there are.
bound_by_tag : (m : Meaning) → T (not (eqb (tag m) 7)) → (b : ℕ) → T (bound (meaning_of m) b)
unfolding bound
bound_by_tag Star h b = tt
bound_by_tag CastDown h b = tt
bound_by_tag Application h b = tt
bound_by_tag CastUp h b = tt
bound_by_tag Abstraction h b = tt
bound_by_tag Product h b = tt
bound_by_tag Recursion h b = tt
bound_by_tag (Variable i) h b = elim h [ ]
bound_by_tag Nothing h b = tt
bound_by_tag (Name i) h b = tt

pub no_variable : (m : Meaning) → OneOf (0 ∷ 1 ∷ 2 ∷ 3 ∷ 4 ∷ 5 ∷ 6 ∷ 8 ∷ 9 ∷ []) (tag m) → (b : ℕ) → T (bound (meaning_of m) b)
no_variable m one =
    bound_by_tag
    m
    (at_one
    (λ t. T (not (eqb t 7)))
    (0 ∷ 1 ∷ 2 ∷ 3 ∷ 4 ∷ 5 ∷ 6 ∷ 8 ∷ 9 ∷ [])
    (tt, (tt, (tt, (tt, (tt, (tt, (tt, (tt, (tt, tt)))))))))
    (tag m)
    one)
