-- A product lies at a node of the working slice: its domain lies at the next node, and its codomain behind that. The argument's
-- type is the domain or not: so the application is the codomain with the argument put in, or it is refused.
use Prim.Native.Nat.{ℕ, suc, ◌+◌, ◌*◌, ◌≤◌, ◌<◌}
use mathlib.Core.List.{List}
use mathlib.Core.Logic.{◌≢◌}
use mathlib.Core.Path.{◌≡◌, refl, ap, ◌∙◌}
use native.Mathlib.Omega.{arith}
use lib.ListN.{length, take, drop}
use Rattle.calculus.specs.Term.{Term, pi, size}
use Rattle.calculus.proofs.Coding.{size_positive}
use Rattle.term.specs.Kept.{kept, Lies}
use Rattle.term.proofs.Nodes.{two_pi, size_two}
use Rattle.term.proofs.Keeping.{lies_first, lies_second, lies_taken, lies_within}
use Rattle.std.specs.Prelude.{Result, Err}
use Rattle.term.specs.declared.refusal.Reason.{Reason}
use Rattle.term.specs.declared.refusal.Reason.TheVariants.{WrongArgument}
use Rattle.inference.specs.Moving.{Applies, Codomain, Product, Puts}
use Rattle.inference.proofs.KeptTypes.{cut_lies, cut_size}

module _ (work : List ℕ) (top count : ℕ) (inside : 2 * (top + count) ≤ length work) (a b : Term)
    (h : take (2 * count) (drop (2 * top) work) ≡ kept (pi a b)) where
  pub product_long : count ≡ suc (size a + size b)
  product_long = cut_size (pi a b) work top count inside h ∙ size_two two_pi a b

  product_lies : Lies (pi a b) work top
  product_lies =
      let same = cut_size (pi a b) work top count inside h in
      cut_lies (pi a b) work top (rw (← same) h)

  pub domain_lies : Lies a work (top + 1)
  domain_lies = lies_first two_pi product_lies

  -- The domain has a first node.
  pub domain_some : 2 * (top + 1) + 1 < length work
  domain_some = omega (arith, lies_within domain_lies, size_positive a)

  module _ {n : ℕ} (measured : n ≡ size a) where
    pub domain_cut : (m : ℕ) → m ≡ 2 * n → take m (drop (2 * (top + 1)) work) ≡ kept a
    domain_cut m many =
        let all : m ≡ 2 * size a = omega arith in
        ap (λ k. take k (drop (2 * (top + 1)) work)) all ∙ lies_taken domain_lies

    pub codomain_cut : take (2 * size b) (drop (2 * (top + 1 + n)) work) ≡ kept b
    codomain_cut =
        ap (λ k. take (2 * size b) (drop (2 * (top + 1 + k)) work)) measured ∙ lies_taken (lies_second two_pi product_lies)

    pub codomain_extent : top + count ≡ top + 1 + n + size b
    codomain_extent = omega (arith, product_long)

-- What is asked of the codomain.
pub product_codomain : (work : List ℕ) (top count : ℕ) {n : ℕ}
    → 2 * (top + count) ≤ length work
    → (P : Product (take (2 * count) (drop (2 * top) work)))
    → n ≡ size P.domain
    → Codomain work (top + 1 + n) (top + count)
product_codomain work top count inside P measured =
    let a = P.domain in
    let b = P.codomain in
    record {
      term = b;
      coded = codomain_cut work top count inside a b P.coded measured;
      extent = codomain_extent work top count inside a b P.coded measured;
      within = inside;
      short = omega (arith, P.short, size_two two_pi a b);
      scoped = P.scoped;
    }

module _ {a b u σ : Term} {work : List ℕ} {top limit : ℕ} where
  pub applies_wrong : σ ≢ a → Applies a b u σ work top limit (Err WrongArgument) work
  applies_wrong n = record { wrong = λ _. (refl, refl); fits = λ h. absurd (n h); full = λ h. absurd (n h) }

  pub applies_right : {r : Result ℕ Reason} {after : List ℕ}
      → σ ≡ a
      → Puts b u work top limit r after
      → Applies a b u σ work top limit r after
  applies_right h P = record { wrong = λ n. absurd (n h); fits = λ _. P.fits; full = λ _. P.full }
