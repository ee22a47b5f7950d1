-- S_BETA and S_MU put a part of the redex in for the outermost variable of another. The state is short and its variables are few, so
-- both are as substitution asks, and any other part of it that lies there would be.
use Rattle.std.proofs.Common.{ℕ, suc, ◌+◌, ◌*◌, ◌-◌, ◌≤◌, ◌≡◌, sym, ◌∙◌, subst, Bool, List, take, drop, arith}
use Rattle.calculus.specs.Term.{Term, size}
use Rattle.calculus.specs.Words.{Scoped, Worded, longest, deepest}
use Rattle.calculus.proofs.Coding.{worded}
use Rattle.term.specs.Kept.{Lies, kept}
use Rattle.term.proofs.Keeping.{kept_injective, lies_within}
use Rattle.kept.specs.Rewriting.{Argument, Subject}
use Rattle.reduction.specs.Stepping.{Around, Within}
use Rattle.reduction.proofs.Frames.{scoped_inside}
use Rattle.reduction.proofs.Surrounding.{around_length}
use Rattle.reduction.proofs.Placing.{lies_part}

module _ {t s x y : Term} {ws : List ℕ} {at : ℕ} {closed : Bool} (r : Around t at s x y) (coded : ws ≡ kept t) (has_words : Worded t)
    (short : size t ≤ longest) (held : Within ws closed) where
  -- The indices of a state have words.
  same : held.term ≡ t
  same =
      kept_injective held.term t (worded deepest held.term held.scoped (omega (arith, held.short))) has_words
      (sym held.coded ∙ coded)

  redex_scoped : (n : ℕ) → Scoped n held.term → Scoped n s
  redex_scoped n h = scoped_inside r n (subst (Scoped n) same h)

  near : {e : Term} {n : ℕ} → Lies e ws n → n + size e ≤ longest
  near l = omega (arith, lies_within l, around_length r coded, short)

  pub body_fits : {e : Term} {n : ℕ}
      → Lies e ws n
      → ((m : ℕ) → Scoped m s → Scoped (suc m) e)
      → (e : Term) × Subject e ws n 0 × (n + size e ≤ longest)
  body_fits {e} l inside =
      let scoped = inside deepest (redex_scoped deepest held.scoped) in
      (e, record { lies = l; scoped = scoped; near = omega (arith, near l) }, near l)

  pub argument_fits : {u : Term} {n end : ℕ}
      → Lies u ws n
      → end ≡ n + size u
      → ((m : ℕ) → Scoped m s → Scoped m u)
      → (u : Term) × Argument u (take (2 * end - 2 * n) (drop (2 * n) ws)) closed
  argument_fits {u} l ends inside = (
    u,
    record {
      coded = lies_part l ends;
      fits = record { short = omega (arith, near l); scoped = inside deepest (redex_scoped deepest held.scoped) };
      shut = λ is-closed. inside 0 (redex_scoped 0 (held.shut is-closed));
    },
  )
