-- The redex by the words alone. The down casts and applications that kept words begin with are counted; what the next node's word means
-- and the kind of the one before it decide. By induction on the term: one frame more moves the node by one, and where the part is no
-- frame itself the two nodes at its front are those that decide. It goes over the words of the nodes, without the lengths.
use Prim.Native.Nat.{ℕ, zero, suc, pred, ◌+◌, ◌*◌, ◌≤◌, ◌<◌}
use mathlib.Core.Bool.{Bool, true, false, cond, true≢false}
use mathlib.Core.List.{List, [], ◌∷◌, map}
use mathlib.Core.Option.{Option, none, some}
use Rattle.std.specs.Prelude.{Result, Ok, Err}
use mathlib.Core.Path.{◌≡◌, refl, sym, ap, ◌∙◌}
use native.Mathlib.Omega.{arith}
use lib.Dec.{eqb}
use lib.ListN.{length, get_or, drop, get_or-map}
use lib.Seq.{drop-cons}
use Rattle.calculus.specs.Term.{Term, var, star, app, lam, pi, castup, castdown, mu, name, size}
use Rattle.calculus.specs.Words.{Named, Worded}
use Rattle.calculus.specs.Book.{View, most}
use Rattle.calculus.specs.Meaning.{Meaning, a_star, a_castdown, an_app, a_castup, a_lam, a_pi, a_mu, a_variable, a_name, nothing, meaning}
use Rattle.calculus.proofs.Meanings.{word, Indexed, meaning_word}
use Rattle.term.specs.Kept.{keep, word_at}
use Rattle.term.proofs.Keeping.{spelled}
use Rattle.reduction.specs.Stepping.{deeper, at_application, at_castdown, at_name, locate, heads}
use Rattle.reduction.specs.declared.stepping.Redex.{Redex}
use Rattle.reduction.specs.declared.stepping.Redex.TheVariants.{Beta, Cancel, Unfold, Name}
use Rattle.reduction.specs.declared.stepping.Rest.{Rest}
use Rattle.reduction.specs.declared.stepping.Rest.TheVariants.{Value, Stuck}
use Rattle.reduction.proofs.Frames.{Frame, applied_to, cast_down, frame_word}
use Rattle.reduction.proofs.Redexes.{at_node}
use Rattle.reduction.proofs.WordKinds.{index, kind, framing, no_frame, framing_kind}

abbrev pub stands : Option Term → Bool
stands none = false
stands (some e) = true

-- Whether a word is a name that something stands for at a view.
abbrev pub visible : View → Meaning → Bool
visible v a_star = false
visible v a_castdown = false
visible v an_app = false
visible v a_castup = false
visible v a_lam = false
visible v a_pi = false
visible v a_mu = false
visible v (a_variable i) = false
visible v (a_name i) = stands (v i)
visible v nothing = false

-- What has no redex.
abbrev pub value : Result Redex Rest
value = Err Value

abbrev pub stuck : Result Redex Rest
stuck = Err Stuck

-- For each kind of word the redex, where `s` says whether the word is a visible name: at node 0, and behind frames, where `n` is the
-- node of the word, `b` the one before it and `p` the kind of that one's word.
abbrev pub outermost : Bool → List (Result Redex Rest)
outermost s = value ∷ stuck ∷ stuck ∷ value ∷ value ∷ Ok (Unfold 0) ∷ value ∷ stuck ∷ stuck ∷ cond s (Ok (Name 0)) stuck ∷ []

abbrev pub framed : Bool → ℕ → ℕ → ℕ → List (Result Redex Rest)
framed s n b p =
    stuck
    ∷ stuck
    ∷ stuck
    ∷ cond (eqb p 1) (Ok (Cancel b)) stuck
    ∷ cond (eqb p 2) (Ok (Beta b)) stuck
    ∷ Ok (Unfold n)
    ∷ stuck
    ∷ stuck
    ∷ stuck
    ∷ cond s (Ok (Name n)) stuck
    ∷ []

abbrev row : Bool → ℕ → ℕ → List (Result Redex Rest)
row s zero p = outermost s
row s (suc n) p = framed s (suc n) n p

abbrev pub decide : View → ℕ → Meaning → ℕ → Result Redex Rest
decide v n m p = get_or (row (visible v m) n p) (index m) stuck

-- The word behind the leading down casts and applications.
abbrev pub leader : List ℕ → ℕ
leader ws = get_or (spelled ws) (heads ws) 0

abbrev pub decided : View → List ℕ → Result Redex Rest
decided v ws = decide v (heads ws) (meaning (leader ws)) (kind (get_or (spelled ws) (pred (heads ws)) 0))

pub name_decide : (v : View) (n i p : ℕ) → decide v n (a_name i) p ≡ cond (stands (v i)) (Ok (Name n)) stuck
name_decide v zero i p = refl
name_decide v (suc n) i p = refl

-- A frame more around a frame.
deeper_cond : (b : Bool) (r : Result Redex Rest) → deeper (cond b r stuck) stuck ≡ cond b (deeper r stuck) stuck
unfolding deeper
deeper_cond true r = refl
deeper_cond false r = refl

deeper_row : (s : Bool) (n p : ℕ) → map (λ r. deeper r stuck) (row s (suc n) p) ≡ row s (suc (suc n)) p
unfolding deeper
deeper_row s n p =
    rw (deeper_cond (eqb p 1) (Ok (Cancel n)), deeper_cond (eqb p 2) (Ok (Beta n)), deeper_cond s (Ok (Name (suc n)))) refl

deeper_decide : (v : View) (n : ℕ) (m : Meaning) (p : ℕ) → deeper (decide v (suc n) m p) stuck ≡ decide v (suc (suc n)) m p
unfolding deeper
deeper_decide v n m p =
    let s = visible v m in
    sym (get_or-map (λ r. deeper r stuck) (row s (suc n) p) (index m) stuck) ∙ ap (λ l. get_or l (index m) stuck) (deeper_row s n p)

heads_frame : (f : Frame) (l : ℕ) (ws : List ℕ) → heads (frame_word f ∷ l ∷ ws) ≡ suc (heads ws)
unfolding frame_word heads
heads_frame (applied_to u) l ws = refl
heads_frame cast_down l ws = refl

frame_inside : (v : View) (f g : Frame) (l m : ℕ) (ws : List ℕ) {r : Result Redex Rest}
    → r ≡ decided v (frame_word g ∷ m ∷ ws)
    → deeper r stuck ≡ decided v (frame_word f ∷ l ∷ frame_word g ∷ m ∷ ws)
unfolding spelled
frame_inside v f g l m ws h =
    rw
    (h, heads_frame f l (frame_word g ∷ m ∷ ws), heads_frame g m ws)
    (deeper_decide v (heads ws) (meaning (leader ws)) (kind (get_or (frame_word g ∷ spelled ws) (heads ws) 0)))

heads_leaf : (w : ℕ) → 7 ≤ w → (k : List ℕ) → heads (w ∷ 1 ∷ k) ≡ 0
unfolding heads
heads_leaf w high k = rw (no_frame w high) refl

-- A word without parts, as that of a variable or of a name, by itself and in a frame.
module _ (w : ℕ) (high : 7 ≤ w) {m : Meaning} (known : meaning w ≡ m) (k : List ℕ) where
  leaf_leads : meaning (leader (w ∷ 1 ∷ k)) ≡ m
  unfolding spelled
  leaf_leads = rw (heads_leaf w high k) known

  leaf_decided : (v : View) → decide v 0 m (kind w) ≡ decided v (w ∷ 1 ∷ k)
  unfolding spelled
  leaf_decided v = rw (heads_leaf w high k, known) refl

  leaf_inside : (v : View) (f : Frame) (l : ℕ) → decide v 1 m (kind (frame_word f)) ≡ decided v (frame_word f ∷ l ∷ w ∷ 1 ∷ k)
  unfolding spelled
  leaf_inside v f l = rw (heads_frame f l (w ∷ 1 ∷ k), heads_leaf w high k, known) refl

-- A name, by what stands for it.
name_outermost : (o : Option Term) → at_name o ≡ cond (stands o) (Ok (Name 0)) stuck
unfolding at_name
name_outermost none = refl
name_outermost (some e) = refl

name_inside : (o : Option Term) → deeper (at_name o) stuck ≡ cond (stands o) (Ok (Name 1)) stuck
unfolding at_name deeper
name_inside none = refl
name_inside (some e) = refl

-- Of a term that names some of `n` definitions, as many as have a word.
module _ (n : ℕ) (few : n ≤ most) where
  variable_means : (i : ℕ) → i < 2032 → meaning (16 + i) ≡ a_variable i
  unfolding word Indexed
  variable_means i h = meaning_word (a_variable i) h

  pub name_means : (i : ℕ) → i < n → meaning (2048 + i) ≡ a_name i
  unfolding word Indexed
  name_means i h = meaning_word (a_name i) (omega arith)

  fill_decided : (v : View) (f : Frame) (l : ℕ) (t : Term) (k : List ℕ)
      → Worded t
      → Named n t
      → locate v t ≡ decided v (keep t k)
      → deeper (locate v t) (at_node f t) ≡ decided v (frame_word f ∷ l ∷ keep t k)
  unfolding keep spelled heads locate deeper at_node at_application at_castdown frame_word kind meaning Worded Named
  fill_decided v (applied_to u) l (var i) k has named h =
      leaf_inside (16 + i) (omega arith) (variable_means i has) k v (applied_to u) l
  fill_decided v (applied_to u) l star k has named h = refl
  fill_decided v (applied_to u) l (app g s) k has named h =
      frame_inside v (applied_to u) (applied_to s) l (size (app g s)) (keep g (keep s k)) h
  fill_decided v (applied_to u) l (lam a e) k has named h = refl
  fill_decided v (applied_to u) l (pi a b) k has named h = refl
  fill_decided v (applied_to u) l (castup a e) k has named h = refl
  fill_decided v (applied_to u) l (castdown e) k has named h =
      frame_inside v (applied_to u) cast_down l (size (castdown e)) (keep e k) h
  fill_decided v (applied_to u) l (mu a e) k has named h = refl
  fill_decided v (applied_to u) l (name i) k has named h =
      name_inside (v i) ∙ leaf_inside (2048 + i) (omega arith) (name_means i named) k v (applied_to u) l
  fill_decided v cast_down l (var i) k has named h =
      leaf_inside (16 + i) (omega arith) (variable_means i has) k v cast_down l
  fill_decided v cast_down l star k has named h = refl
  fill_decided v cast_down l (app g s) k has named h =
      frame_inside v cast_down (applied_to s) l (size (app g s)) (keep g (keep s k)) h
  fill_decided v cast_down l (lam a e) k has named h = refl
  fill_decided v cast_down l (pi a b) k has named h = refl
  fill_decided v cast_down l (castup a e) k has named h = refl
  fill_decided v cast_down l (castdown e) k has named h = frame_inside v cast_down cast_down l (size (castdown e)) (keep e k) h
  fill_decided v cast_down l (mu a e) k has named h = refl
  fill_decided v cast_down l (name i) k has named h =
      name_inside (v i) ∙ leaf_inside (2048 + i) (omega arith) (name_means i named) k v cast_down l

  pub located : (v : View) (t : Term) (k : List ℕ) → Worded t → Named n t → locate v t ≡ decided v (keep t k)
  unfolding keep spelled heads locate at_node frame_word kind meaning Worded Named
  located v (var i) k has named = leaf_decided (16 + i) (omega arith) (variable_means i has) k v
  located v star k has named = refl
  located v (app f u) k has named =
      fill_decided v (applied_to u) (size (app f u)) f (keep u k) has.0 named.0 (located v f (keep u k) has.0 named.0)
  located v (lam a e) k has named = refl
  located v (pi a b) k has named = refl
  located v (castup a e) k has named = refl
  located v (castdown e) k has named = fill_decided v cast_down (size (castdown e)) e k has named (located v e k has named)
  located v (mu a e) k has named = refl
  located v (name i) k has named = name_outermost (v i) ∙ leaf_decided (2048 + i) (omega arith) (name_means i named) k v

  -- A name behind the frames is one of the definitions.
  pub leader_named : (t : Term) (k : List ℕ) (i : ℕ) → Worded t → Named n t → meaning (leader (keep t k)) ≡ a_name i → i < n
  unfolding keep spelled heads meaning Worded Named
  leader_named (var j) k i has named h =
      absurd (true≢false (cc (leaf_leads (16 + j) (omega arith) (variable_means j has) k, h)))
  leader_named star k i has named h = absurd (true≢false (cc h))
  leader_named (app f u) k i has named h = leader_named f (keep u k) i has.0 named.0 h
  leader_named (lam a e) k i has named h = absurd (true≢false (cc h))
  leader_named (pi a b) k i has named h = absurd (true≢false (cc h))
  leader_named (castup a e) k i has named h = absurd (true≢false (cc h))
  leader_named (castdown e) k i has named h = leader_named e k i has named h
  leader_named (mu a e) k i has named h = absurd (true≢false (cc h))
  leader_named (name j) k i has named h =
      let same : j ≡ i = cc (leaf_leads (2048 + j) (omega arith) (name_means j named) k, h) in
      omega (arith, same, named)

-- There is a node behind the frames.
pub heads_inside : (t : Term) (k : List ℕ) → 2 * heads (keep t k) + 1 < length (keep t k)
unfolding keep heads
heads_inside (var i) k = omega (arith, heads_leaf (16 + i) (omega arith) k)
heads_inside star k = omega arith
heads_inside (app f u) k = omega (arith, heads_inside f (keep u k))
heads_inside (lam a e) k = omega arith
heads_inside (pi a b) k = omega arith
heads_inside (castup a e) k = omega arith
heads_inside (castdown e) k = omega (arith, heads_inside e k)
heads_inside (mu a e) k = omega arith
heads_inside (name i) k = omega (arith, heads_leaf (2048 + i) (omega arith) k)

-- The word of a node among the words of the nodes.
pub word_spelled : (ws : List ℕ) (n : ℕ) → 2 * n + 1 < length ws → get_or (spelled ws) n 0 ≡ word_at ws n
unfolding spelled
word_spelled [] n h = absurd (omega arith)
word_spelled (w ∷ []) n h = absurd (omega arith)
word_spelled (w ∷ l ∷ ws) zero h = refl
word_spelled (w ∷ l ∷ ws) (suc n) h =
    let twice : suc (suc (2 * n)) ≡ 2 * suc n = omega arith in
    word_spelled ws n (omega arith) ∙ ap (λ k. get_or (w ∷ l ∷ ws) k 0) twice

-- Counting goes on behind a frame and ends at any other node.
pub heads_at : (ws : List ℕ) (n : ℕ) {b : Bool}
    → 2 * n + 1 < length ws
    → framing (kind (word_at ws n)) ≡ b
    → heads (drop (2 * n) ws) ≡ cond b (suc (heads (drop (2 * (n + 1)) ws))) 0
unfolding heads
heads_at ws n h same =
    let twice : suc (suc (2 * n)) ≡ 2 * (n + 1) = omega arith in
    rw
    (drop-cons ws (2 * n) 0 (omega arith), drop-cons ws (suc (2 * n)) 0 (omega arith), twice, framing_kind (word_at ws n), same)
    refl
