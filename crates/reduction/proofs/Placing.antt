-- The redex in the kept words: where `locate` says, it lies. What it steps to, with all that stands around it, is the next state
-- of the whole, since the rest of the term stays as it is; and that takes more nodes than stand before the redex.
use Prim.Native.Nat.{ℕ, ◌+◌, ◌*◌, ◌-◌, ◌≤◌, ◌<◌}
use mathlib.Core.List.{List}
use Rattle.std.specs.Prelude.{Option, Result, Err}
use mathlib.Core.Path.{◌≡◌, refl, sym, ap, ◌∙◌, subst}
use native.Mathlib.Omega.{arith}
use lib.ListN.{length, take, drop}
use Rattle.calculus.specs.Term.{Term, app, lam, castup, castdown, mu, name, size, substitute}
use Rattle.calculus.specs.Words.{Scoped, Named, Worded, longest}
use Rattle.calculus.specs.Book.{View}
use Rattle.calculus.specs.Step.{next, step}
use Rattle.calculus.proofs.Coding.{size_positive}
use Rattle.term.specs.Kept.{Lies, kept}
use Rattle.term.proofs.Nodes.{two_app, two_castup, two_lam, two_mu, size_two}
use Rattle.term.proofs.Keeping.{kept_injective, lies_body, lies_first, lies_second, lies_taken, lies_within}
use Rattle.reduction.specs.declared.stepping.Kind.{Kind}
use Rattle.reduction.specs.declared.stepping.Redex.TheVariants as redex
use Rattle.reduction.specs.declared.stepping.Stepped.{Stepped}
use Rattle.reduction.specs.declared.stepping.Halt.{Halt}
use Rattle.reduction.specs.declared.stepping.Halt.TheVariants as halt
use Rattle.reduction.specs.declared.stepping.Rest.{Rest}
use Rattle.reduction.specs.declared.stepping.Rest.TheVariants as rest
use Rattle.kept.specs.Writing.{Puts}
use Rattle.reduction.specs.Stepping.{Around, Arrives, Located, PutIn, Steps, halt_of, kind_of, locate}
use Rattle.reduction.proofs.Frames.{step_around, named_inside, worded_inside}
use Rattle.reduction.proofs.Redexes.{Inside, splits_at}
use Rattle.reduction.proofs.Surrounding.{around_lies, around_length, lacks_room}

-- The words `ws` are those of a short term with `s` at the node `at` inside frames.
pub record Placed (ws : List ℕ) (at : ℕ) (s : Term) : Type 0 where
  pub term : Term
  pub coded : ws ≡ kept term
  pub has_words : Worded term
  pub short : size term ≤ longest
  pub put : Term → Term
  pub around : (x : Term) → Around term at s x (put x)

placed : {ws : List ℕ} {at : ℕ} {s : Term} (t : Term) → ws ≡ kept t → Worded t → size t ≤ longest → Inside t at s → Placed ws at s
placed t coded has short i = record { term = t; coded = coded; has_words = has; short = short; put = i.put; around = i.around }

pub beta_placed : {ws : List ℕ} {at : ℕ}
    → Located ws (redex.Beta at)
    → (a : Term) × (e : Term) × (u : Term) × Placed ws at (app (lam a e) u)
beta_placed (v, t, coded, has, short, there) =
    let (a, e, u, i) = splits_at v t there in
    (a, e, u, placed t coded has short i)

pub unfold_placed : {ws : List ℕ} {at : ℕ} → Located ws (redex.Unfold at) → (a : Term) × (e : Term) × Placed ws at (mu a e)
unfold_placed (v, t, coded, has, short, there) =
    let (a, e, i) = splits_at v t there in
    (a, e, placed t coded has short i)

pub cancel_placed : {ws : List ℕ} {at : ℕ}
    → Located ws (redex.Cancel at)
    → (a : Term) × (e : Term) × Placed ws at (castdown (castup a e))
cancel_placed (v, t, coded, has, short, there) =
    let (a, e, i) = splits_at v t there in
    (a, e, placed t coded has short i)

pub name_placed : {ws : List ℕ} {at : ℕ} → Located ws (redex.Name at) → (i : ℕ) × Placed ws at (name i)
name_placed (v, t, coded, has, short, there) =
    let (i, e, shown, inside) = splits_at v t there in
    (i, placed t coded has short inside)

module _ {ws : List ℕ} {at : ℕ} {s : Term} (p : Placed ws at s) where
  pub placed_lies : Lies s ws at
  placed_lies = around_lies (p.around s) p.coded

  pub placed_short : length ws ≤ 2 * longest
  placed_short = omega (arith, around_length (p.around s) p.coded, p.short)

  same : (t : Term) → ws ≡ kept t → Worded t → t ≡ p.term
  same t coded has = kept_injective t p.term has p.has_words (sym coded ∙ p.coded)

  pub placed_named : (t : Term) → ws ≡ kept t → Worded t → (n : ℕ) → Named n t → Named n s
  placed_named t coded has n h = named_inside (p.around s) n (subst (Named n) (same t coded has) h)

  pub placed_worded : Worded s
  placed_worded = worded_inside (p.around s) p.has_words

  module _ (K : Kind) (x : Term) where
    -- At a view where the redex steps to `x`, the whole steps to what has arrived.
    pub reaches_at : (v : View)
        → step v s ≡ next (kind_of K) x
        → {out after : List ℕ} {r : Result Stepped Halt}
        → Arrives K (p.put x) out r after
        → (t : Term)
        → ws ≡ kept t
        → Worded t
        → Steps (step v t) out r after
    unfolding Steps
    reaches_at v h {out} {after} {r} a t coded has =
        subst (λ n. Steps n out r after) (sym (ap (step v) (same t coded has) ∙ step_around v (p.around x) h)) (K, refl, a)

    module _ (h : (v : View) → step v s ≡ next (kind_of K) x) where
      pub reaches : {out after : List ℕ} {r : Result Stepped Halt}
          → Arrives K (p.put x) out r after
          → (v : View) (t : Term)
          → ws ≡ kept t
          → Worded t
          → Steps (step v t) out r after
      reaches a v = reaches_at v (h v) a

      pub no_room : (out : List ℕ)
          → length out < 2 * at
          → (v : View) (t : Term)
          → ws ≡ kept t
          → Worded t
          → Steps (step v t) out (Err halt.Full) out
      no_room out lacks = reaches (lacks_room (p.around x) p.coded out (omega arith))

-- Where there is no redex, the term is a value or stuck.
pub stays : (out : List ℕ) (v : View) (t : Term) (r : Rest) → locate v t ≡ Err r → Steps (step v t) out (Err (halt_of r)) out
unfolding Steps
stays out v t rest.Value h = rw (splits_at v t h) (refl, refl)
stays out v t rest.Stuck h = rw (splits_at v t h) (refl, refl)

-- A term that lies in a slice has a node there; the words from its node to its end are its own.
pub lies_node : {t : Term} {slice : List ℕ} {n : ℕ} → Lies t slice n → 2 * n + 1 < length slice
lies_node {t} l = omega (arith, lies_within l, size_positive t)

pub lies_part : {t : Term} {slice : List ℕ} {n end : ℕ}
    → Lies t slice n
    → end ≡ n + size t
    → take (2 * end - 2 * n) (drop (2 * n) slice) ≡ kept t
lies_part {t} {slice} {n} {end} l ends =
    let count : 2 * end - 2 * n ≡ 2 * size t = omega arith in
    ap (λ k. take k (drop (2 * n) slice)) count ∙ lies_taken l

-- Copied, they are the kept words of the term.
pub puts_part : {t : Term} {slice out after : List ℕ} {n end at : ℕ} {r : Option ℕ}
    → Lies t slice n
    → end ≡ n + size t
    → Puts (take (2 * end - 2 * n) (drop (2 * n) slice)) out at r after
    → Puts (kept t) out at r after
puts_part {out = out} {after} {at = at} {r} l ends = subst (λ e. Puts e out at r after) (lies_part l ends)

to : {t : Term} {slice : List ℕ} {m : ℕ} (n : ℕ) → m ≡ n → Lies t slice m → Lies t slice n
to {t} {slice} n h = subst (Lies t slice) h

-- The parts of each redex, by the places that the code computes.
module _ {slice : List ℕ} {at : ℕ} where
  pub function_annotation : {a e u : Term} → Lies (app (lam a e) u) slice at → Lies a slice (at + 2)
  function_annotation l = to (at + 2) (omega arith) (lies_first two_lam (lies_first two_app l))

  pub function_body : {a e u : Term} {n : ℕ} → Lies (app (lam a e) u) slice at → n ≡ size a → Lies e slice (at + 2 + n)
  function_body {n = n} l h = to (at + 2 + n) (omega arith) (lies_second two_lam (lies_first two_app l))

  pub argument : {a e u : Term} {n m : ℕ}
      → Lies (app (lam a e) u) slice at
      → n ≡ size a
      → m ≡ size e
      → Lies u slice (at + 2 + n + m)
  argument {a} {e} {n = n} {m} l h g = to (at + 2 + n + m) (omega (arith, size_two two_lam a e)) (lies_second two_app l)

  pub recursion_body : {a e : Term} {n : ℕ} → Lies (mu a e) slice at → n ≡ size a → Lies e slice (at + 1 + n)
  recursion_body {n = n} l h = to (at + 1 + n) (omega arith) (lies_second two_mu l)

  pub cast_annotation : {a e : Term} → Lies (castdown (castup a e)) slice at → Lies a slice (at + 2)
  cast_annotation l = to (at + 2) (omega arith) (lies_first two_castup (lies_body l))

  pub cast_body : {a e : Term} {n : ℕ} → Lies (castdown (castup a e)) slice at → n ≡ size a → Lies e slice (at + 2 + n)
  cast_body {n = n} l h = to (at + 2 + n) (omega arith) (lies_second two_castup (lies_body l))

-- The two rules that put a part of the redex in for a variable.
module _ {slice : List ℕ} {at : ℕ} where
  pub beta_puts : {a e u : Term} (p : Placed slice at (app (lam a e) u)) {n m : ℕ}
      → n ≡ size a
      → m ≡ size e
      → PutIn slice at (at + 2 + n) (at + 2 + n + m) (p.put (substitute 0 u e))
  unfolding Scoped Worded size
  beta_puts {a} {e} {u} p h g =
      record {
        term = p.term;
        redex = app (lam a e) u;
        inner = e;
        outer = u;
        coded = p.coded;
        has_words = p.has_words;
        short = p.short;
        around = p.around (substitute 0 u e);
        inner_lies = function_body (placed_lies p) h;
        inner_scoped = λ n s. s.0.1;
        inner_worded = (placed_worded p).0.1;
        outer_lies = argument (placed_lies p) h g;
        outer_ends = omega (arith, h, g);
        outer_scoped = λ n s. s.1;
        outer_worded = (placed_worded p).1;
      }

  pub unfold_puts : {a e : Term} (p : Placed slice at (mu a e)) {n : ℕ}
      → n ≡ size a
      → PutIn slice at (at + 1 + n) at (p.put (substitute 0 (mu a e) e))
  unfolding Scoped Worded
  unfold_puts {a} {e} p h =
      record {
        term = p.term;
        redex = mu a e;
        inner = e;
        outer = mu a e;
        coded = p.coded;
        has_words = p.has_words;
        short = p.short;
        around = p.around (substitute 0 (mu a e) e);
        inner_lies = recursion_body (placed_lies p) h;
        inner_scoped = λ n s. s.1;
        inner_worded = (placed_worded p).1;
        outer_lies = placed_lies p;
        outer_ends = refl;
        outer_scoped = λ n s. s;
        outer_worded = placed_worded p;
      }
