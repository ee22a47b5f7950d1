-- `apply` meets its contract. The length that is kept at the domain's node measures it, so that the two parts that are cut out
-- are domain and codomain.
use Prim.Native.Nat.{◌+◌, ◌-◌, ◌*◌, ◌≤◌}
use mathlib.Core.Logic.{◌≢◌}
use mathlib.Core.Path.{◌≡◌, ap, ◌∙◌}
use mathlib.Core.Bool.{true, false, not}
use native.Mathlib.Omega.{arith}
use lib.ListN.{length, take, drop}
use Rattle.calculus.specs.Term.{Term, pi, size}
use Rattle.calculus.specs.Words.{Worded}
use Rattle.term.specs.Kept.{kept}
use Rattle.inference.proofs.Compared.{compared}
use Rattle.inference.proofs.Domains.{product_long, domain_lies, domain_some, domain_cut, codomain_cut, codomain_extent, product_codomain, applies_wrong, applies_right}
use Rattle.inference.proofs.moving.apply.Goals as goal
use Rattle.inference.proofs.moving.apply.Goals.{After-length_at, After-same, Start}

inside : (s : goal.Start) → 2 * (s.args.top + s.args.count) ≤ length s.args.work.now
inside s = omega (arith, s.requires.2)

pub length_at-requires : goal.length_at-requires
length_at-requires c =
    let s = (goal.at.length_at-requires c).Start in
    let P = c.requires.3 in
    domain_some c.args.work.now c.args.top c.args.count (inside s) P.domain P.codomain P.coded

-- What is measured of the product.
module _ (c : goal.After-length_at) where
  whole : 2 * (c.args.top + c.args.count) ≤ length c.args.work.now
  whole = omega (arith, c.requires.2)

  measured : (a b : Term)
      → take (2 * c.args.count) (drop (2 * c.args.top) c.args.work.now) ≡ kept (pi a b)
      → c.length_at.result ≡ size a
  measured a b h =
      c.length_at.ensures.value_2 a (domain_lies c.args.work.now c.args.top c.args.count whole a b h)

  -- The codomain ends where the product does.
  reach : 2 * (c.args.top + 1 + c.length_at.result) ≤ length c.args.work.now
  reach =
      let g = c.args in
      let P = c.requires.3 in
      let long = product_long g.work.now g.top g.count whole P.domain P.codomain P.coded in
      omega (arith, whole, measured P.domain P.codomain P.coded)

-- The comparison of the argument's type with the domain, which is measured.
told : (c : goal.After-same) (a b σ : Term)
    → take (2 * c.args.count) (drop (2 * c.args.top) c.args.work.now) ≡ kept (pi a b)
    → c.length_at.result ≡ size a
    → Worded a
    → take (2 * c.args.own) (drop (2 * (c.args.top + c.args.count)) c.args.work.now) ≡ kept σ
    → Worded σ
    → (c.same.result ≡ false → σ ≢ a) × (c.same.result ≡ true → σ ≡ a)
told c a b σ h n ha k hk =
    let whole : 2 * (c.args.top + c.args.count) ≤ length c.args.work.now = omega (arith, c.requires.2) in
    let domain = c.args.top + 1 in
    let next = c.args.top + c.args.count in
    let words = 2 * (domain + c.length_at.result) - 2 * domain in
    let many : 2 * (next + c.args.own) - 2 * next ≡ 2 * c.args.own = omega arith in
    let both =
    compared σ a hk ha
    (domain_cut c.args.work.now c.args.top c.args.count whole a b h n words (omega arith))
    (ap (λ n. take n (drop (2 * next) c.args.work.now)) many ∙ k) c.same.ensures
    in (λ e. both.0 (ap not e), λ e. both.1 (ap not e))

pub returns-then-not-same : goal.returns-then-not-same
unfolding Worded
returns-then-not-same c = λ a b u σ h hp l hu k hk.
    let n = measured (goal.at.returns-then-not-same c).After-length_at a b h in
    applies_wrong ((told (goal.at.returns-then-not-same c).After-same a b σ h n hp.0 k hk).0 c.if-not-same.true)

pub put_in-requires : goal.put_in-requires
put_in-requires c =
    let m = (goal.at.put_in-requires c).After-length_at in
    let p = c.requires in
    let P = p.3 in
    let g = c.args in
    let same = measured m P.domain P.codomain P.coded in
    (p.0, p.1, product_codomain g.work.now g.top g.count (whole m) P same, p.4)

pub returns : goal.returns
unfolding Worded
returns c = λ a b u σ h hp l hu k hk.
    let m = (goal.at.returns c).After-length_at in
    let n = measured m a b h in
    applies_right ((told (goal.at.returns c).After-same a b σ h n hp.0 k hk).1 c.if-not-same.false)
    (c.put_in.ensures b u
    (codomain_cut c.args.work.now c.args.top c.args.count (whole m) a b h n) hp.1
    (codomain_extent c.args.work.now c.args.top c.args.count (whole m) a b h n) l hu)

pub overflow_add-codomain : goal.overflow_add-codomain
overflow_add-codomain c = omega (arith, reach (goal.at.overflow_add-codomain c).After-length_at)

pub overflow_mul-codomain : goal.overflow_mul-codomain
overflow_mul-codomain c = omega (arith, reach (goal.at.overflow_mul-codomain c).After-length_at)

pub slice_bounds-same-end : goal.slice_bounds-same-end
slice_bounds-same-end c = omega (arith, reach (goal.at.slice_bounds-same-end c).After-length_at)
