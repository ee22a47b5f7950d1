-- The cycle of calls that infers a type meets its contracts: each member's goals in turn. What is known of a node's parts is stated
-- from what the calls answered for them; why it holds is proved once, in the lemmas of the crate.
use Rattle.std.proofs.Common.{◌≡◌, ◌+◌, ◌*◌, ◌≤◌, length, ℕ, ◌-◌, ◌<◌, List, ◌∷◌, refl, sym, ap, ◌∙◌, arith}
use native.Mathlib.Nat.{le_refl}
use native.Mathlib.Numerals.{add-one}
use mathlib.Core.Bool.{Bool, true, false, not}
use mathlib.Core.Logic.{◌≢◌, ◌↔◌}
use borrow.Author.Tests.{eqb-true}
use lib.Dec.{eqb}
use lib.ListN.{take, drop, get_or, set, length-set}
use lib.Seq.{sets, length-sets}
use borrow.Rule.Slice.PartMut.{put_mid}
use Rattle.calculus.specs.Term.{Term, app, castup, lam, mu, pi, star, size, raise, substitute, var, name}
use Rattle.calculus.specs.Words.{longest, words, Named, Worded}
use Rattle.calculus.specs.Rules.{Context}
use Rattle.book.specs.Layout.{entries}
use Rattle.term.specs.Word.{meaning_of}
use Rattle.term.specs.Kept.{keep, kept}
use Rattle.kept.proofs.InPlace.{raise_size}
use Rattle.kept.proofs.Stores.{take_sets}
use Rattle.std.specs.Prelude.{Result, Ok}
use Rattle.reduction.specs.declared.stepping.Stepped.{Stepped}
use Rattle.reduction.specs.declared.stepping.Halt.{Halt}
use Rattle.term.specs.declared.refusal.Reason.{Reason}
use Rattle.inference.specs.Moving.{Applies, StepsInto, next_of}
use Rattle.calculus.specs.Infer as calculus
use Rattle.calculus.specs.Infer.{measure}
use Rattle.calculus.proofs.Testing.{fitting, over}
use Rattle.inference.specs.Inference.{judge, star_typed, Subject}
use Rattle.inference.proofs.Nodes.{of_app, of_castup, of_lam, of_pi, of_mu, two_levels}
use Rattle.inference.proofs.Subjects.{first, inside, renamed, subject_long, subject_some, subject_parts, place_first, place_second}
use Rattle.inference.proofs.Rooms.{room_two, subject_shallow, subject_worded, subject_fits, subject_codes, subject_within, raised_worded, next_worded, castdown_levels, roomy_renamed}
use Rattle.inference.proofs.KeptTypes.{written, raised_there}
use Rattle.inference.proofs.Compared.{longer, compared_behind}
use Rattle.inference.proofs.Written.{written_type}
use Rattle.inference.proofs.Passing.{passed, placed, ok_before, err_before, typed, turned, found, lying, starred}
use Rattle.inference.proofs.Products.{product_written}
use Rattle.inference.proofs.Binding.{lam_annotation, lam_body, lam_over, lam_typed, mu_annotation, mu_body, mu_other, mu_typed}
use Rattle.inference.proofs.Parts.{Both, annotation_found, annotation_asked, annotation_words, second_place, reaches, below, beside, both_below, both_beside, both_reach, below_context, below_wide}
use Rattle.inference.proofs.Heads.{Headed, subject_headed, not_star, not_product}
use Rattle.inference.proofs.Types.{type_fits, type_held, type_worded, type_named}
use Rattle.inference.proofs.Moved.{Moved, moved, moved_front, over_limit, rests}
use Rattle.inference.proofs.Casting.{down, down_rests, down_over, down_typed, up_annotation, up_body, up_rests, up_step_over, up_other, up_measured}
use Rattle.inference.proofs.Applied.{says_refused, says_typed}
use Rattle.inference.proofs.Applying.{by_function, no_function, by_argument, wrong, right}
use Rattle.inference.proofs.Calling.{Called, called, argument_subject, argument_words, function_found, function_product, other_type, called_product}
use Rattle.inference.proofs.Variables.{bound, annotated, infers_annotation}
use Rattle.inference.proofs.Named.{name_defined, infers_stored}
use Rattle.inference.proofs.Asked.{asked, answered}
use Rattle.inference.proofs.Measured.{part_asked}
use Rattle.inference.proofs.Starring.{of_star, of_no_star}
use Rattle.inference.proofs.Producing.{by_domain, by_codomain, by_both}
use Rattle.inference.proofs.+inferring.Goals as goal
use Rattle.inference.proofs.+inferring.Goals.{abstraction-then-front-check, abstraction-else-front-check, abstraction-In_ok-annotation, abstraction-Joined-front-check, abstraction-In_ok-body}
use Rattle.inference.proofs.+inferring.Goals.{recursion-In_ok-annotation, recursion-In_ok-body}
use Rattle.inference.proofs.+inferring.Goals.{application-In-Product, application-In_ok-argument}
use Rattle.inference.proofs.+inferring.Goals.{cast_up-In_ok-annotation, cast_up-In_ok-body, cast_up-In-Ok}
use Rattle.inference.proofs.+inferring.Goals.{product-In_ok-domain}
use Rattle.inference.proofs.+inferring.Goals.{infer-In-Variable, infer-In-Name}

-- `star_part` passes on what `infer` says, but for a type whose first word is not that of star.
pub star_part-returns-in_err-part : goal.star_part-returns-in_err-part
unfolding star_typed
star_part-returns-in_err-part t c Γ e S = passed _ (c.in_err-part.ensures Γ e S) c.from_residual.ensures.1 refl

pub star_part-returns-in_default : goal.star_part-returns-in_default
star_part-returns-in_default t c Γ e S =
    let part = typed (c.in_ok-part.ensures Γ e S) in
    turned
    (of_no_star _ _ _ Γ _ part λ x. not_star c.classify.result c.in_default.not-Star (c.classify.ensures ∙ x))
    c.refused.ensures

pub star_part-returns : goal.star_part-returns
star_part-returns t c Γ e S =
    let part = typed (c.in_ok-part.ensures Γ e S) in
    of_star _ _ _ S part (ap meaning_of (sym c.in-Star.is) ∙ c.classify.ensures)

-- `product` asks for domain and codomain by `star_part`, for the codomain under the domain, whose place was written; the type is star,
-- which the second answer has left at `top`.

-- The words reach beyond the domain.
pi_reach : (t : ℕ) (c : goal.product-In_ok-domain t) → (1 + c.in_ok-domain.domain.read < length c.args.sub.now) × (length c.args.sub.now ≤ longest)
pi_reach t c =
    let P = c.requires in
    let A = typed (c.in_ok-domain.ensures P.0 P.1 (first P.3 of_pi)) in
    reaches P.3 _ _ A (of_pi {b = P.2})

pub product-slice_bounds-star_part-count : goal.product-slice_bounds-star_part-count
product-slice_bounds-star_part-count t c = subject_some c.requires.3

pub product-slice_bounds-star_part-start : goal.product-slice_bounds-star_part-start
product-slice_bounds-star_part-start t c = subject_some c.requires.3

pub product-star_part-requires : goal.product-star_part-requires
product-star_part-requires t c =
    let P = c.requires in
    part_asked 0 2 (omega arith) c.decreases P.3 P.4 (first P.3 of_pi) (two_levels of_pi).0 refl (omega arith)

pub product-returns-in_err-domain : goal.product-returns-in_err-domain
product-returns-in_err-domain t c Γ a b S =
    passed _ (c.in_err-domain.ensures Γ a (first S of_pi)) c.from_residual.ensures.1 (by_domain _ _ _ Γ _ a b (place_first S))

pub product-bounds-memory-depth : goal.product-bounds-memory-depth
product-bounds-memory-depth t c = subject_shallow c.requires.3

pub product-overflow_add-front : goal.product-overflow_add-front
product-overflow_add-front t c = omega (arith, pi_reach t (goal.at.product-overflow_add-front t c).In_ok-domain)

pub product-offset_bounds-sub-front : goal.product-offset_bounds-sub-front
product-offset_bounds-sub-front t c = omega (arith, pi_reach t (goal.at.product-offset_bounds-sub-front t c).In_ok-domain)

pub product-slice_bounds-star_part-count-2 : goal.product-slice_bounds-star_part-count-2
product-slice_bounds-star_part-count-2 t c = omega (arith, pi_reach t (goal.at.product-slice_bounds-star_part-count-2 t c).In_ok-domain)

pub product-slice_bounds-star_part-start-2 : goal.product-slice_bounds-star_part-start-2
product-slice_bounds-star_part-start-2 t c = omega (arith, pi_reach t (goal.at.product-slice_bounds-star_part-start-2 t c).In_ok-domain)

pub product-star_part-requires-2 : goal.product-star_part-requires-2
product-star_part-requires-2 t c =
    let P = c.requires in
    let A = typed (c.in_ok-domain.ensures P.0 P.1 (first P.3 of_pi)) in
    let E = below P.3 _ _ A c.narrow.result (of_pi {b = P.2}) c.narrow.ensures in
    part_asked c.in_ok-domain.domain.read 2 (omega arith) c.decreases P.3 P.4 E (two_levels of_pi).1
    c.star_part.auto.work (omega arith)

pub product-returns-in_err-codomain : goal.product-returns-in_err-codomain
product-returns-in_err-codomain t c Γ a b S =
    let A = typed (c.in_ok-domain.ensures Γ a (first S of_pi)) in
    passed _
    (c.in_err-codomain.ensures (a ∷ Γ) b (below S _ _ A c.narrow.result of_pi c.narrow.ensures))
    c.from_residual-in_err-codomain.ensures.1 (by_codomain _ _ _ Γ _ a b (annotation_found S _ _ A) (second_place S _ _ A of_pi))

pub product-overflow_add-result : goal.product-overflow_add-result
product-overflow_add-result t c =
    let P = c.requires in
    let A = typed (c.in_ok-domain.ensures P.0 P.1 (first P.3 of_pi)) in
    let E = below P.3 _ _ A c.narrow.result (of_pi {b = P.2}) c.narrow.ensures in
    let B = typed (c.in_ok-codomain.ensures (P.1 ∷ P.0) P.2 E) in
    omega (arith, subject_parts P.3 of_pi, A.read, B.read, P.3.within, P.3.short)

pub product-returns : goal.product-returns
product-returns t c Γ a b S =
    let A = typed (c.in_ok-domain.ensures Γ a (first S of_pi)) in
    let E = below S _ _ A c.narrow.result (of_pi {b = b}) c.narrow.ensures in
    let B = typed (c.in_ok-codomain.ensures (a ∷ Γ) b E) in
    let is_star = starred _ _ _ (a ∷ Γ) _ b B.found in
    found
    (by_both _ _ _ Γ _ a b (annotation_found S _ _ A) (rw (← second_place S _ _ A (of_pi {b = b})) is_star.0)
    c.requires.4.some)
    (record {
      answer = unfold size in ap (λ n. Ok (record { read = n; length = 1 })) (omega (arith, A.read, B.read));
      lies = lying B is_star.1;
      front = B.front ∙ A.front;
      context = below_context S _ _ A _ B;
      wide = below_wide S _ _ A _ B;
    })

-- `abstraction`: the annotation is a subject one word further on, and the body one part further on under it. If the product can still
-- fit, the body's type is found behind room for the product's node and the annotation, which are then written.

-- The words reach beyond the annotation.
lam_reach : (t : ℕ) (c : goal.abstraction-In_ok-annotation t) → (1 + c.in_ok-annotation.annotation.read < length c.args.sub.now) × (length c.args.sub.now ≤ longest)
lam_reach t c =
    let P = c.requires in
    let A = typed (c.in_ok-annotation.ensures P.0 P.1 (first P.3 of_lam)) in
    reaches P.3 _ _ A (of_lam {e = P.2})

-- Where the body's type is to lie: behind room for the product's node and the annotation, if these fit.
lam_skips : (t : ℕ) (c : goal.abstraction-Joined-front-check t)
    → (c.if-front-check.skip ≤ c.args.check.now.limit) × (1 + c.in_ok-annotation.annotation.read ≤ c.args.check.now.limit → c.if-front-check.skip ≡ 1 + c.in_ok-annotation.annotation.read)
lam_skips t c =
    elim c.if-front-check.branch [
      | abstraction-then-front-check w ↦ (omega arith, λ _. w.skip-is)
      | abstraction-else-front-check w ↦ (omega arith, λ x. absurd (omega arith))
    ]

-- Both parts are typed.
lam_both : (t : ℕ) (c : goal.abstraction-In_ok-body t) (Γ : Context) (a e : Term)
    → Subject c.args.check.now.book.now Γ (lam a e) c.args.check.now.term.now c.args.sub.now c.args.memory.now.context c.args.depth
    → Both c.args.check.now.reader c.args.check.now.book.now c.args.check.now.limit Γ (a ∷ Γ) (length c.args.check.now.term.now - length c.args.sub.now) a e
    c.args.memory.now.context c.args.depth c.args.work.now c.args.top (c.args.top + c.if-front-check.skip) c.in_ok-annotation.annotation.read
    c.in_ok-body.body.read c.in_ok-body.body.length c.infer.new.work c.infer.new.memory.context
lam_both t c Γ a e S =
    let A = typed (c.in_ok-annotation.ensures Γ a (first S of_lam)) in
    let E = below S _ _ A c.narrow.result (of_lam {e = e}) c.narrow.ensures in
    both_below S _ _ A c.narrow.result of_lam c.narrow.ensures (omega arith)
    (typed (c.in_ok-body.ensures (a ∷ Γ) e E))

-- How long both parts and the body's type can be, and that there is room for two types.
lam_lengths : (t : ℕ) (c : goal.abstraction-In_ok-body t)
    → (1 + c.in_ok-annotation.annotation.read + c.in_ok-body.body.read ≤ longest)
    × (c.in_ok-body.body.length ≤ longest)
    × (2 * (c.args.top + (c.args.check.now.limit + c.args.check.now.limit)) ≤ length c.infer.new.work)
    × (1 ≤ c.args.check.now.limit)
lam_lengths t c =
    let P = c.requires in
    let B = lam_both t c P.0 P.1 P.2 P.3 in
    let long = c.infer.auto.work ∙ c.star_part.auto.work in
    omega (arith, both_reach P.3 of_lam B, B.long, B.fits, P.4.allowed, P.4.some, room_two P.4, long)

pub abstraction-slice_bounds-star_part-count : goal.abstraction-slice_bounds-star_part-count
abstraction-slice_bounds-star_part-count t c = subject_some c.requires.3

pub abstraction-slice_bounds-star_part-start : goal.abstraction-slice_bounds-star_part-start
abstraction-slice_bounds-star_part-start t c = subject_some c.requires.3

pub abstraction-star_part-requires : goal.abstraction-star_part-requires
abstraction-star_part-requires t c =
    let P = c.requires in
    part_asked 0 2 (omega arith) c.decreases P.3 P.4 (first P.3 of_lam) (two_levels of_lam).0 refl (omega arith)

pub abstraction-returns-in_err-annotation : goal.abstraction-returns-in_err-annotation
abstraction-returns-in_err-annotation t c Γ a e S =
    passed _ (c.in_err-annotation.ensures Γ a (first S of_lam)) c.from_residual.ensures.1
    (lam_annotation _ _ _ Γ _ _ a e (place_first S))

pub abstraction-bounds-memory-depth : goal.abstraction-bounds-memory-depth
abstraction-bounds-memory-depth t c = subject_shallow c.requires.3

pub abstraction-overflow_add-front : goal.abstraction-overflow_add-front
abstraction-overflow_add-front t c = omega (arith, lam_reach t (goal.at.abstraction-overflow_add-front t c).In_ok-annotation)

pub abstraction-offset_bounds-sub-front : goal.abstraction-offset_bounds-sub-front
abstraction-offset_bounds-sub-front t c = omega (arith, lam_reach t (goal.at.abstraction-offset_bounds-sub-front t c).In_ok-annotation)

pub abstraction-slice_bounds-infer-count : goal.abstraction-slice_bounds-infer-count
abstraction-slice_bounds-infer-count t c = omega (arith, lam_reach t (goal.at.abstraction-slice_bounds-infer-count t c).In_ok-annotation)

pub abstraction-slice_bounds-infer-start : goal.abstraction-slice_bounds-infer-start
abstraction-slice_bounds-infer-start t c = omega (arith, lam_reach t (goal.at.abstraction-slice_bounds-infer-start t c).In_ok-annotation)

pub abstraction-infer-requires : goal.abstraction-infer-requires
abstraction-infer-requires t c =
    let P = c.requires in
    let A = typed (c.in_ok-annotation.ensures P.0 P.1 (first P.3 of_lam)) in
    let E = below P.3 _ _ A c.narrow.result (of_lam {e = P.2}) c.narrow.ensures in
    part_asked c.in_ok-annotation.annotation.read 1 (omega arith) c.decreases P.3 P.4 E (two_levels of_lam).1
    c.star_part.auto.work
    (omega (arith, lam_skips t (goal.at.abstraction-infer-requires t c).Joined-front-check))

pub abstraction-returns-in_err-body : goal.abstraction-returns-in_err-body
abstraction-returns-in_err-body t c Γ a e S =
    let A = typed (c.in_ok-annotation.ensures Γ a (first S of_lam)) in
    passed _ (c.in_err-body.ensures (a ∷ Γ) e (below S _ _ A c.narrow.result of_lam c.narrow.ensures))
    c.from_residual-in_err-body.ensures.1 (lam_body _ _ _ Γ _ _ a e (annotation_found S _ _ A) (second_place S _ _ A (of_lam {e = e})))

pub abstraction-overflow_add-front-2 : goal.abstraction-overflow_add-front-2
abstraction-overflow_add-front-2 t c = omega (arith, lam_lengths t (goal.at.abstraction-overflow_add-front-2 t c).In_ok-body)

pub abstraction-returns-then-check-front : goal.abstraction-returns-then-check-front
unfolding size
abstraction-returns-then-check-front t c Γ a e S =
    let B = lam_both t (goal.at.abstraction-returns-then-check-front t c).In_ok-body Γ a e S in
    turned (lam_over B (omega (arith, B.read, B.long, c.if-check-front.true))) c.refused.ensures

pub abstraction-slice_bounds-note-end : goal.abstraction-slice_bounds-note-end
abstraction-slice_bounds-note-end t c = omega (arith, lam_reach t (goal.at.abstraction-slice_bounds-note-end t c).In_ok-annotation)

pub abstraction-note-requires : goal.abstraction-note-requires
abstraction-note-requires t c =
    let P = c.requires in
    let A = typed (c.in_ok-annotation.ensures P.0 P.1 (first P.3 of_lam)) in
    annotation_asked P.3 _ _ A (c.args.top + 1) (of_lam {e = P.2})
    (simp length-set (omega (arith, lam_lengths t (goal.at.abstraction-note-requires t c).In_ok-body, c.if-check-front.false)))

pub abstraction-overflow_add-result : goal.abstraction-overflow_add-result
abstraction-overflow_add-result t c = omega (arith, lam_lengths t (goal.at.abstraction-overflow_add-result t c).In_ok-body)

pub abstraction-returns : goal.abstraction-returns
unfolding size
abstraction-returns t c Γ a e S =
    let p = (goal.at.abstraction-returns t c).In_ok-body in
    let A = typed (c.in_ok-annotation.ensures Γ a (first S of_lam)) in
    let B = lam_both t p Γ a e S in
    let r = lam_lengths t p in
    let k = (lam_skips t (goal.at.abstraction-returns t c).Joined-front-check).1 (omega (arith, c.if-check-front.false)) in
    let w = c.infer.new.work in
    found
    (lam_typed B (omega (arith, B.read, B.long, c.if-check-front.false)))
    (product_written w a B.type c.narrow-2.result (omega (arith, B.read, B.further)) B.read B.long
    c.narrow-2.ensures (c.note.ensures a (annotation_words S _ _ A (of_lam {e = e})))
    (omega (arith, r, c.if-check-front.false))
    (ap (λ i. take (2 * c.in_ok-body.body.length) (drop (2 * (c.args.top + i)) w)) (sym k) ∙ B.lies) B.front
    B.context B.wide)

-- `recursion`: the annotation is a subject one word further on, and the body one part further on under it; the annotation, which the
-- words have, is noted behind the body's type, raised and compared with it there.

-- The words reach beyond the annotation.
mu_reach : (t : ℕ) (c : goal.recursion-In_ok-annotation t) → (1 + c.in_ok-annotation.annotation.read < length c.args.sub.now) × (length c.args.sub.now ≤ longest)
mu_reach t c =
    let P = c.requires in
    let A = typed (c.in_ok-annotation.ensures P.0 P.1 (first P.3 of_mu)) in
    reaches P.3 _ _ A (of_mu {e = P.2})

-- Both parts are typed.
mu_both : (t : ℕ) (c : goal.recursion-In_ok-body t) (Γ : Context) (a e : Term)
    → Subject c.args.check.now.book.now Γ (mu a e) c.args.check.now.term.now c.args.sub.now c.args.memory.now.context c.args.depth
    → Both c.args.check.now.reader c.args.check.now.book.now c.args.check.now.limit Γ (a ∷ Γ) (length c.args.check.now.term.now - length c.args.sub.now) a e
    c.args.memory.now.context c.args.depth c.args.work.now c.args.top c.args.top c.in_ok-annotation.annotation.read
    c.in_ok-body.body.read c.in_ok-body.body.length c.infer.new.work c.infer.new.memory.context
mu_both t c Γ a e S =
    let A = typed (c.in_ok-annotation.ensures Γ a (first S of_mu)) in
    let E = below S _ _ A c.narrow.result (of_mu {e = e}) c.narrow.ensures in
    both_below S _ _ A c.narrow.result of_mu c.narrow.ensures (le_refl c.args.top)
    (typed (c.in_ok-body.ensures (a ∷ Γ) e E))

-- There is room behind the body's type.
mu_room : (t : ℕ) (c : goal.recursion-In_ok-body t)
    → (2 * (c.args.top + (c.in_ok-body.body.length + c.args.check.now.limit)) ≤ length c.infer.new.work)
    × (c.in_ok-body.body.length ≤ c.args.check.now.limit)
    × (c.args.check.now.limit ≤ longest)
    × (1 + c.in_ok-annotation.annotation.read + c.in_ok-body.body.read ≤ longest)
mu_room t c =
    let P = c.requires in
    let B = mu_both t c P.0 P.1 P.2 P.3 in
    let long = c.infer.auto.work ∙ c.star_part.auto.work in
    omega (arith, B.long, B.fits, room_two P.4, P.4.allowed, long, both_reach P.3 of_mu B)

-- The annotation, noted there, fills the part that is raised; and what then lies behind the body's type is the raised annotation.
module _ (t : ℕ) (c : goal.recursion-In_ok-body t) (Γ : Context) (a e : Term)
    (S : Subject c.args.check.now.book.now Γ (mu a e) c.args.check.now.term.now c.args.sub.now c.args.memory.now.context c.args.depth)
    (as_long : c.in_ok-body.body.length ≡ c.in_ok-annotation.annotation.read) {noted : List ℕ}
    (x : noted ≡ sets c.infer.new.work (2 * (c.args.top + c.in_ok-body.body.length)) (kept a)) where
  mu_part : take (2 * (c.args.top + c.in_ok-body.body.length + c.in_ok-body.body.length) - 2 * (c.args.top + c.in_ok-body.body.length))
      (drop (2 * (c.args.top + c.in_ok-body.body.length)) noted) ≡ kept a
  mu_part =
      let m = c.in_ok-body.body.length in
      let next = c.args.top + m in
      let B = mu_both t c Γ a e S in
      let many : 2 * (next + m) - 2 * next ≡ 2 * size a = omega (arith, B.read, as_long) in
      ap (λ n. take n (drop (2 * next) noted)) many
      ∙ written c.infer.new.work next a x (omega (arith, mu_room t c, B.read, as_long))

  mu_raised : {part : List ℕ}
      → part ≡ kept (raise 1 0 a)
      → put_mid (2 * (c.args.top + c.in_ok-body.body.length))
      (2 * (c.args.top + c.in_ok-body.body.length + c.in_ok-body.body.length) - 2 * (c.args.top + c.in_ok-body.body.length)) noted part
      ≡ sets c.infer.new.work (2 * (c.args.top + c.in_ok-body.body.length)) (kept (raise 1 0 a))
  mu_raised y =
      let m = c.in_ok-body.body.length in
      let next = c.args.top + m in
      let B = mu_both t c Γ a e S in
      raised_there c.infer.new.work next 1 (2 * (next + m) - 2 * next) a (omega (arith, mu_room t c, B.read, as_long))
      (omega (arith, B.read, as_long)) x y

-- The raised annotation, as it then lies there, was compared with the body's type.
mu_compared : (t : ℕ) (c : goal.recursion-In_ok-body t) (Γ : Context) (a e : Term)
    (S : Subject c.args.check.now.book.now Γ (mu a e) c.args.check.now.term.now c.args.sub.now c.args.memory.now.context c.args.depth)
    (as_long : c.in_ok-body.body.length ≡ c.in_ok-annotation.annotation.read) {after : List ℕ} {r : Bool}
    → after ≡ sets c.infer.new.work (2 * (c.args.top + c.in_ok-body.body.length)) (kept (raise 1 0 a))
    → (r ≡ true)
    ↔ (take (2 * (c.args.top + c.in_ok-body.body.length) - 2 * c.args.top) (drop (2 * c.args.top) after)
    ≡ take (2 * (c.args.top + c.in_ok-body.body.length + c.in_ok-body.body.length) - 2 * (c.args.top + c.in_ok-body.body.length))
    (drop (2 * (c.args.top + c.in_ok-body.body.length)) after))
    → (not r ≡ true → raise 1 0 a ≢ (mu_both t c Γ a e S).type) × (not r ≡ false → raise 1 0 a ≡ (mu_both t c Γ a e S).type)
mu_compared t c Γ a e S as_long x told =
    let B = mu_both t c Γ a e S in
    compared_behind _ _ _ _ (raise 1 0 a) B.type (raised_worded (first S of_mu)) (B.has_words c.requires.4.allowed)
    B.lies x (as_long ∙ B.read ∙ sym (raise_size 1 0 a)) (omega (arith, mu_room t c)) told

pub recursion-slice_bounds-star_part-count : goal.recursion-slice_bounds-star_part-count
recursion-slice_bounds-star_part-count t c = subject_some c.requires.3

pub recursion-slice_bounds-star_part-start : goal.recursion-slice_bounds-star_part-start
recursion-slice_bounds-star_part-start t c = subject_some c.requires.3

pub recursion-star_part-requires : goal.recursion-star_part-requires
recursion-star_part-requires t c =
    let P = c.requires in
    part_asked 0 2 (omega arith) c.decreases P.3 P.4 (first P.3 of_mu) (two_levels of_mu).0 refl (omega arith)

pub recursion-returns-in_err-annotation : goal.recursion-returns-in_err-annotation
recursion-returns-in_err-annotation t c Γ a e S =
    passed _ (c.in_err-annotation.ensures Γ a (first S of_mu)) c.from_residual.ensures.1
    (mu_annotation _ _ _ Γ _ _ a e (place_first S))

pub recursion-bounds-memory-depth : goal.recursion-bounds-memory-depth
recursion-bounds-memory-depth t c = subject_shallow c.requires.3

pub recursion-overflow_add-front : goal.recursion-overflow_add-front
recursion-overflow_add-front t c = omega (arith, mu_reach t (goal.at.recursion-overflow_add-front t c).In_ok-annotation)

pub recursion-offset_bounds-sub-front : goal.recursion-offset_bounds-sub-front
recursion-offset_bounds-sub-front t c = omega (arith, mu_reach t (goal.at.recursion-offset_bounds-sub-front t c).In_ok-annotation)

pub recursion-slice_bounds-infer-count : goal.recursion-slice_bounds-infer-count
recursion-slice_bounds-infer-count t c = omega (arith, mu_reach t (goal.at.recursion-slice_bounds-infer-count t c).In_ok-annotation)

pub recursion-slice_bounds-infer-start : goal.recursion-slice_bounds-infer-start
recursion-slice_bounds-infer-start t c = omega (arith, mu_reach t (goal.at.recursion-slice_bounds-infer-start t c).In_ok-annotation)

pub recursion-infer-requires : goal.recursion-infer-requires
recursion-infer-requires t c =
    let P = c.requires in
    let A = typed (c.in_ok-annotation.ensures P.0 P.1 (first P.3 of_mu)) in
    let E = below P.3 _ _ A c.narrow.result (of_mu {e = P.2}) c.narrow.ensures in
    part_asked c.in_ok-annotation.annotation.read 1 (omega arith) c.decreases P.3 P.4 E (two_levels of_mu).1
    c.star_part.auto.work (omega arith)

pub recursion-returns-in_err-body : goal.recursion-returns-in_err-body
recursion-returns-in_err-body t c Γ a e S =
    let A = typed (c.in_ok-annotation.ensures Γ a (first S of_mu)) in
    passed _ (c.in_err-body.ensures (a ∷ Γ) e (below S _ _ A c.narrow.result of_mu c.narrow.ensures))
    c.from_residual-in_err-body.ensures.1 (mu_body _ _ _ Γ _ _ a e (annotation_found S _ _ A) (second_place S _ _ A (of_mu {e = e})))

pub recursion-returns-then-body-annotation : goal.recursion-returns-then-body-annotation
recursion-returns-then-body-annotation t c Γ a e S =
    let B = mu_both t (goal.at.recursion-returns-then-body-annotation t c).In_ok-body Γ a e S in
    turned (mu_other B (longer B.type (raise 1 0 a) B.long (B.read ∙ sym (raise_size 1 0 a)) c.if-body-annotation.true))
    c.refused.ensures

pub recursion-overflow_add-next : goal.recursion-overflow_add-next
recursion-overflow_add-next t c = omega (arith, mu_room t (goal.at.recursion-overflow_add-next t c).In_ok-body)

pub recursion-slice_bounds-note-end : goal.recursion-slice_bounds-note-end
recursion-slice_bounds-note-end t c = omega (arith, mu_reach t (goal.at.recursion-slice_bounds-note-end t c).In_ok-annotation)

pub recursion-note-requires : goal.recursion-note-requires
recursion-note-requires t c =
    let P = c.requires in
    let A = typed (c.in_ok-annotation.ensures P.0 P.1 (first P.3 of_mu)) in
    annotation_asked P.3 _ _ A (c.args.top + c.in_ok-body.body.length) (of_mu {e = P.2})
    (omega (arith, mu_room t (goal.at.recursion-note-requires t c).In_ok-body, c.if-body-annotation.false))

pub recursion-slice_bounds-raise-end : goal.recursion-slice_bounds-raise-end
recursion-slice_bounds-raise-end t c = omega (arith, mu_room t (goal.at.recursion-slice_bounds-raise-end t c).In_ok-body, c.note.auto.out)

pub recursion-raise-requires : goal.recursion-raise-requires
recursion-raise-requires t c =
    let P = c.requires in
    let A = typed (c.in_ok-annotation.ensures P.0 P.1 (first P.3 of_mu)) in
    let noted = c.note.ensures P.1 (annotation_words P.3 _ _ A (of_mu {e = P.2})) in
    ((P.1, mu_part t (goal.at.recursion-raise-requires t c).In_ok-body P.0 P.1 P.2 P.3 c.if-body-annotation.false noted, subject_fits (first P.3 of_mu)), omega arith)

pub recursion-returns-then-not-same : goal.recursion-returns-then-not-same
recursion-returns-then-not-same t c Γ a e S =
    let p = (goal.at.recursion-returns-then-not-same t c).In_ok-body in
    let A = typed (c.in_ok-annotation.ensures Γ a (first S of_mu)) in
    let B = mu_both t p Γ a e S in
    let noted = c.note.ensures a (annotation_words S _ _ A (of_mu {e = e})) in
    let part = mu_part t p Γ a e S c.if-body-annotation.false noted in
    let behind = mu_raised t p Γ a e S c.if-body-annotation.false noted (c.raise.ensures a part (subject_worded (first S of_mu))) in
    let same = mu_compared t p Γ a e S c.if-body-annotation.false behind c.same.ensures in
    turned (mu_other B (λ x. same.0 (ap not c.if-not-same.true) (sym x))) c.refused-then-not-same.ensures

pub recursion-slice_bounds-note-end-2 : goal.recursion-slice_bounds-note-end-2
recursion-slice_bounds-note-end-2 t c = omega (arith, mu_reach t (goal.at.recursion-slice_bounds-note-end-2 t c).In_ok-annotation)

pub recursion-note-requires-2 : goal.recursion-note-requires-2
recursion-note-requires-2 t c =
    let P = c.requires in
    let p = (goal.at.recursion-note-requires-2 t c).In_ok-body in
    let A = typed (c.in_ok-annotation.ensures P.0 P.1 (first P.3 of_mu)) in
    let noted = c.note.ensures P.1 (annotation_words P.3 _ _ A (of_mu {e = P.2})) in
    let part = mu_part t p P.0 P.1 P.2 P.3 c.if-body-annotation.false noted in
    let behind = mu_raised t p P.0 P.1 P.2 P.3 c.if-body-annotation.false noted
    (c.raise.ensures P.1 part (subject_worded (first P.3 of_mu))) in
    let long = ap length behind
    ∙ length-sets c.infer.new.work (2 * (c.args.top + c.in_ok-body.body.length)) (kept (raise 1 0 P.1)) in
    annotation_asked P.3 _ _ A c.args.top (of_mu {e = P.2}) (omega (arith, mu_room t p, long, c.if-body-annotation.false))

pub recursion-overflow_add-result : goal.recursion-overflow_add-result
recursion-overflow_add-result t c = omega (arith, mu_room t (goal.at.recursion-overflow_add-result t c).In_ok-body)

pub recursion-returns : goal.recursion-returns
unfolding size
recursion-returns t c Γ a e S =
    let p = (goal.at.recursion-returns t c).In_ok-body in
    let at = 2 * c.args.top in
    let next = c.args.top + c.in_ok-body.body.length in
    let A = typed (c.in_ok-annotation.ensures Γ a (first S of_mu)) in
    let B = mu_both t p Γ a e S in
    let own = annotation_words S _ _ A (of_mu {e = e}) in
    let noted = c.note.ensures a own in
    let part = mu_part t p Γ a e S c.if-body-annotation.false noted in
    let behind = mu_raised t p Γ a e S c.if-body-annotation.false noted (c.raise.ensures a part (subject_worded (first S of_mu))) in
    let same = mu_compared t p Γ a e S c.if-body-annotation.false behind c.same.ensures in
    let long = ap length behind ∙ length-sets c.infer.new.work (2 * next) (kept (raise 1 0 a)) in
    found
    (mu_typed B (sym (same.1 (ap not c.if-not-same.false))) (omega (arith, B.read, B.long, B.fits, c.if-body-annotation.false)))
    (written_type _ a (omega (arith, B.read, B.further)) B.read (c.note-2.ensures a own)
    (omega (arith, B.read, mu_room t p, long, c.if-body-annotation.false))
    (ap (take at) behind ∙ take_sets at c.infer.new.work (2 * next) (kept (raise 1 0 a)) (omega arith) ∙ B.front)
    B.context B.wide)

-- `cast_down`: the body is a subject one word further on, and its type lies at `top` in scope of the context, so that it can be stepped
-- there; a refusal of the body, no step, a step over the limit and the stepped type are what the calculus answers.
pub cast_down-slice_bounds-infer-count : goal.cast_down-slice_bounds-infer-count
cast_down-slice_bounds-infer-count t c = subject_some c.requires.2

pub cast_down-slice_bounds-infer-start : goal.cast_down-slice_bounds-infer-start
cast_down-slice_bounds-infer-start t c = subject_some c.requires.2

pub cast_down-infer-requires : goal.cast_down-infer-requires
cast_down-infer-requires t c =
    let P = c.requires in
    part_asked 0 1 (omega arith) c.decreases P.2 P.3 (inside P.2) (castdown_levels P.1) refl (omega arith)

pub cast_down-returns-in_err-body : goal.cast_down-returns-in_err-body
cast_down-returns-in_err-body t c Γ e S =
    passed _ (c.in_err-body.ensures Γ e (inside S)) c.from_residual.ensures.1 (down _ _ _ Γ _ _ e (place_first S))

pub cast_down-step_type-requires : goal.cast_down-step_type-requires
cast_down-step_type-requires t c =
    let P = c.requires in
    let B = typed (c.in_ok-body.ensures P.0 P.1 (inside P.2)) in
    let fits = type_fits (inside P.2) c.args.check.now.reader c.args.check.now.limit _ B.found in
    let two = room_two P.3 in
    let long = c.infer.auto.work in (
      omega (arith, two, long),
      P.3.allowed,
      omega (arith, B.long, fits, two, long),
      P.2.holds,
      type_held (inside P.2) _ _ _ B.found (eqb c.args.depth 0) P.3.allowed B.lies (eqb-true c.args.depth 0),
    )

pub cast_down-overflow_add-result : goal.cast_down-overflow_add-result
cast_down-overflow_add-result t c =
    let P = c.requires in
    let E = inside P.2 in
    let B = typed (c.in_ok-body.ensures P.0 P.1 E) in
    omega (arith, B.read, subject_long E, E.within, E.short)

pub cast_down-returns-in-Value : goal.cast_down-returns-in-Value
cast_down-returns-in-Value t c Γ e S =
    let B = typed (c.in_ok-body.ensures Γ e (inside S)) in
    let moves = c.step_type.ensures B.type B.lies (type_worded (inside S) _ _ _ B.found c.requires.3.allowed)
    (type_named (inside S) _ _ _ B.found) in
    turned
    (down_rests _ _ _ Γ _ _ e (place_first S) B.found (rests _ _ _ _ _ (next_of _ _ B.type) moves c.in-Err.is c.in-Value.is))
    c.refused.ensures

pub cast_down-returns-in-Full : goal.cast_down-returns-in-Full
cast_down-returns-in-Full t c Γ e S =
    let B = typed (c.in_ok-body.ensures Γ e (inside S)) in
    let moves = c.step_type.ensures B.type B.lies (type_worded (inside S) _ _ _ B.found c.requires.3.allowed)
    (type_named (inside S) _ _ _ B.found) in
    let o = over_limit _ _ _ _ (next_of _ _ B.type) moves c.in-Err.is c.in-Full.is in
    turned (down_over _ _ _ Γ _ _ e (place_first S) B.found o.1 o.2 o.3) c.refused-in-Full.ensures

pub cast_down-returns-in-Ok : goal.cast_down-returns-in-Ok
unfolding size
cast_down-returns-in-Ok t c Γ e S =
    let B = typed (c.in_ok-body.ensures Γ e (inside S)) in
    let moves = c.step_type.ensures B.type B.lies (type_worded (inside S) _ _ _ B.found c.requires.3.allowed)
    (type_named (inside S) _ _ _ B.found) in
    let m = moved _ _ _ _ (next_of _ _ B.type) moves c.in-Ok.is in
    found
    (down_typed _ _ _ Γ _ _ e (place_first S) B.found {k = m.kind} m.state m.steps m.fits)
    (written_type c.infer.new.work m.state (omega (arith, B.read)) m.long m.stored
    (omega (arith, m.fits, room_two c.requires.3, c.infer.auto.work)) B.front B.context B.wide)

-- `application`: what is asked of function and argument is what inference asks of them, and what the product answers when it is applied
-- is what inference answers.

-- The words and the room reach beyond the function.
app_reach : (t : ℕ) (c : goal.application-In-Product t)
    → (1 + c.in_ok-function.function.read ≤ length c.args.sub.now)
    × (length c.args.sub.now ≤ longest)
    × (c.in_ok-function.function.length ≤ c.args.check.now.limit)
    × (2 * (c.args.top + (c.args.check.now.limit + c.args.check.now.limit)) ≤ length c.args.work.now)
app_reach t c =
    let P = c.requires in
    let F = typed (c.in_ok-function.ensures P.0 P.1 (first P.3 of_app)) in
    let fits = type_fits (first P.3 of_app) c.args.check.now.reader c.args.check.now.limit _ F.found in
    omega (arith, subject_parts P.3 of_app, F.read, P.3.within, P.3.short, F.long, fits, room_two P.4)

-- Function and argument are typed.
app_calls : (t : ℕ) (c : goal.application-In_ok-argument t) (Γ : Context) (f u : Term)
    → Subject c.args.check.now.book.now Γ (app f u) c.args.check.now.term.now c.args.sub.now c.args.memory.now.context c.args.depth
    → Called c.args.check.now.reader c.args.check.now.book.now c.args.check.now.limit Γ (length c.args.check.now.term.now - length c.args.sub.now) f u
    c.args.memory.now.context c.args.depth c.args.work.now c.args.top c.in_ok-function.function.read c.in_ok-argument.argument.read c.in_ok-function.function.length
    c.in_ok-argument.argument.length c.infer-2.new.work c.infer-2.new.memory.context
app_calls t c Γ f u S =
    let F = typed (c.in_ok-function.ensures Γ f (first S of_app)) in
    called S _ _ F (ap meaning_of (sym c.in-Product.is) ∙ c.classify.ensures)
    (typed (c.in_ok-argument.ensures Γ u (argument_subject S _ _ F)))

-- The words reach to the end of the argument.
app_reach_both : (t : ℕ) (c : goal.application-In_ok-argument t)
    → (1 + c.in_ok-function.function.read + c.in_ok-argument.argument.read ≤ length c.args.sub.now) × (length c.args.sub.now ≤ longest)
app_reach_both t c =
    let P = c.requires in
    let C = app_calls t c P.0 P.1 P.2 P.3 in
    omega (arith, subject_parts P.3 of_app, C.read, C.further, P.3.within, P.3.short)

-- If the argument's type is the domain, the type is the codomain with the argument put in, measured.
app_measured : (t : ℕ) (c : goal.application-In_ok-argument t) (Γ : Context) (f u : Term)
    → (S : Subject c.args.check.now.book.now Γ (app f u) c.args.check.now.term.now c.args.sub.now c.args.memory.now.context c.args.depth)
    → (app_calls t c Γ f u S).type ≡ (app_calls t c Γ f u S).domain
    → let p = length c.args.check.now.term.now - length c.args.sub.now in
    judge c.args.check.now.reader c.args.check.now.book.now c.args.check.now.limit Γ p (app f u) ≡ measure c.args.check.now.limit p (substitute 0 u (app_calls t c Γ f u S).codomain)
app_measured t c Γ f u S alike = let C = app_calls t c Γ f u S in right _ _ _ Γ _ f u C.function C.argument alike

-- What `apply` tells of the application.
app_applies : (t : ℕ) (c : goal.application-In_ok-argument t) (Γ : Context) (f u : Term)
    (S : Subject c.args.check.now.book.now Γ (app f u) c.args.check.now.term.now c.args.sub.now c.args.memory.now.context c.args.depth)
    {r : Result ℕ Reason} {after : List ℕ}
    → ((a b u σ : Term)
    → take (2 * c.in_ok-function.function.length) (drop (2 * c.args.top) c.infer-2.new.work) ≡ kept (pi a b)
    → Worded (pi a b)
    → take (1 + c.in_ok-function.function.read + c.in_ok-argument.argument.read - (1 + c.in_ok-function.function.read)) (drop (1 + c.in_ok-function.function.read) c.args.sub.now) ≡ words u
    → Worded u
    → take (2 * c.in_ok-argument.argument.length) (drop (2 * (c.args.top + c.in_ok-function.function.length)) c.infer-2.new.work) ≡ kept σ
    → Worded σ
    → Applies a b u σ c.infer-2.new.work c.args.top c.args.check.now.limit r after)
    → Applies (app_calls t c Γ f u S).domain (app_calls t c Γ f u S).codomain u (app_calls t c Γ f u S).type
    c.infer-2.new.work c.args.top c.args.check.now.limit r after
app_applies t c Γ f u S told =
    let F = typed (c.in_ok-function.ensures Γ f (first S of_app)) in
    let C = app_calls t c Γ f u S in
    let has = C.has_words c.requires.4.allowed in
    told C.domain C.codomain u C.type C.lies has.0 (argument_words S _ _ F C.further)
    (subject_worded (argument_subject S _ _ F)) C.type_lies has.1

pub application-slice_bounds-infer-count : goal.application-slice_bounds-infer-count
application-slice_bounds-infer-count t c = subject_some c.requires.3

pub application-slice_bounds-infer-start : goal.application-slice_bounds-infer-start
application-slice_bounds-infer-start t c = subject_some c.requires.3

pub application-infer-requires : goal.application-infer-requires
application-infer-requires t c =
    let P = c.requires in
    part_asked 0 1 (omega arith) c.decreases P.3 P.4 (first P.3 of_app) (two_levels of_app).0 refl (omega arith)

pub application-returns-in_err-function : goal.application-returns-in_err-function
application-returns-in_err-function t c Γ f u S =
    passed _ (c.in_err-function.ensures Γ f (first S of_app)) c.from_residual.ensures.1 (by_function _ _ _ Γ _ f u (place_first S))

pub application-returns-in_default : goal.application-returns-in_default
application-returns-in_default t c Γ f u S =
    let F = typed (c.in_ok-function.ensures Γ f (first S of_app)) in
    turned
    (no_function _ _ _ Γ _ f u (function_found S _ _ F)
    (other_type S _ _ F λ x. not_product c.classify.result c.in_default.not-Product (c.classify.ensures ∙ x)))
    c.refused.ensures

pub application-overflow_add-from : goal.application-overflow_add-from
application-overflow_add-from t c = omega (arith, app_reach t (goal.at.application-overflow_add-from t c).In-Product)

pub application-overflow_add-next : goal.application-overflow_add-next
application-overflow_add-next t c = omega (arith, app_reach t (goal.at.application-overflow_add-next t c).In-Product)

pub application-offset_bounds-sub-from : goal.application-offset_bounds-sub-from
application-offset_bounds-sub-from t c = omega (arith, app_reach t (goal.at.application-offset_bounds-sub-from t c).In-Product)

pub application-slice_bounds-infer-count-2 : goal.application-slice_bounds-infer-count-2
application-slice_bounds-infer-count-2 t c = (app_reach t (goal.at.application-slice_bounds-infer-count-2 t c).In-Product).0

pub application-slice_bounds-infer-start-2 : goal.application-slice_bounds-infer-start-2
application-slice_bounds-infer-start-2 t c = (app_reach t (goal.at.application-slice_bounds-infer-start-2 t c).In-Product).0

pub application-infer-requires-2 : goal.application-infer-requires-2
application-infer-requires-2 t c =
    let P = c.requires in
    let F = typed (c.in_ok-function.ensures P.0 P.1 (first P.3 of_app)) in
    part_asked c.in_ok-function.function.read 1 (omega arith) c.decreases P.3 P.4 (argument_subject P.3 _ _ F) (two_levels of_app).1
    c.infer.auto.work (omega (arith, app_reach t (goal.at.application-infer-requires-2 t c).In-Product))

pub application-returns-in_err-argument : goal.application-returns-in_err-argument
application-returns-in_err-argument t c Γ f u S =
    let F = typed (c.in_ok-function.ensures Γ f (first S of_app)) in
    passed _ (c.in_err-argument.ensures Γ u (argument_subject S _ _ F)) c.from_residual-in_err-argument.ensures.1
    (by_argument _ _ _ Γ _ f u (function_product S _ _ F (ap meaning_of (sym c.in-Product.is) ∙ c.classify.ensures))
    (place_second S of_app _ (ap (λ k. 1 + k) F.read)))

pub application-overflow_add-to : goal.application-overflow_add-to
application-overflow_add-to t c = omega (arith, app_reach_both t (goal.at.application-overflow_add-to t c).In_ok-argument)

pub application-offset_bounds-sub-from-2 : goal.application-offset_bounds-sub-from-2
application-offset_bounds-sub-from-2 t c = omega (arith, app_reach_both t (goal.at.application-offset_bounds-sub-from-2 t c).In_ok-argument)

pub application-slice_bounds-apply-end : goal.application-slice_bounds-apply-end
application-slice_bounds-apply-end t c = (app_reach_both t (goal.at.application-slice_bounds-apply-end t c).In_ok-argument).0

pub application-apply-requires : goal.application-apply-requires
application-apply-requires t c =
    let P = c.requires in
    let F = typed (c.in_ok-function.ensures P.0 P.1 (first P.3 of_app)) in
    let C = app_calls t (goal.at.application-apply-requires t c).In_ok-argument P.0 P.1 P.2 P.3 in
    let room = room_two P.4 in
    let long = c.infer-2.auto.work ∙ c.infer.auto.work in (
      omega (arith, room, long),
      P.4.allowed,
      omega (arith, C.fits, C.own_fits, room, long),
      called_product C P.3 P.4.allowed,
      subject_codes (argument_subject P.3 _ _ F) _ (argument_words P.3 _ _ F C.further) (eqb-true c.args.depth 0),
    )

pub application-returns-in_err-length : goal.application-returns-in_err-length
application-returns-in_err-length t c Γ f u S =
    let p = (goal.at.application-returns-in_err-length t c).In_ok-argument in
    let C = app_calls t p Γ f u S in
    let q = err_before c.apply.result _ c.map_err.ensures.cases c.in_err-length.was in
    placed
    (says_refused (app_applies t p Γ f u S c.apply.ensures) _ (wrong _ _ _ Γ _ f u C.function C.argument)
    (λ h o. app_measured t p Γ f u S h ∙ over _ _ o) q.1)
    c.from_residual-in_err-length.ensures.1 (grind arith)

pub application-returns : goal.application-returns
application-returns t c Γ f u S =
    let p = (goal.at.application-returns t c).In_ok-argument in
    let C = app_calls t p Γ f u S in
    let I = says_typed (app_applies t p Γ f u S c.apply.ensures) (ok_before c.apply.result _ c.map_err.ensures.cases c.in_ok-length.was) in
    found
    (app_measured t p Γ f u S I.alike ∙ fitting _ _ I.fits)
    (written_type _ _ (unfold size in omega (arith, C.read, C.further)) I.long I.stored
    (omega (arith, I.fits, room_two c.requires.4, c.infer-2.auto.work ∙ c.infer.auto.work))
    C.front C.context C.wide)

-- `cast_up`: annotation and body are subjects beside one another; the annotation's next state is written behind the body's type and
-- compared with it there; the annotation, which the words have, is then noted as the type.

-- The words reach beyond the annotation.
up_reach : (t : ℕ) (c : goal.cast_up-In_ok-annotation t) → (1 + c.in_ok-annotation.annotation.read < length c.args.sub.now) × (length c.args.sub.now ≤ longest)
up_reach t c =
    let P = c.requires in
    let A = typed (c.in_ok-annotation.ensures P.0 P.1 (first P.3 of_castup)) in
    reaches P.3 _ _ A (of_castup {e = P.2})

-- Both parts are typed.
up_both : (t : ℕ) (c : goal.cast_up-In_ok-body t) (Γ : Context) (a e : Term)
    → Subject c.args.check.now.book.now Γ (castup a e) c.args.check.now.term.now c.args.sub.now c.args.memory.now.context c.args.depth
    → Both c.args.check.now.reader c.args.check.now.book.now c.args.check.now.limit Γ Γ (length c.args.check.now.term.now - length c.args.sub.now) a e
    c.args.memory.now.context c.args.depth c.args.work.now c.args.top c.args.top c.in_ok-annotation.annotation.read
    c.in_ok-body.body.read c.in_ok-body.body.length c.infer.new.work c.infer.new.memory.context
up_both t c Γ a e S =
    let A = typed (c.in_ok-annotation.ensures Γ a (first S of_castup)) in
    both_beside S _ _ A of_castup (typed (c.in_ok-body.ensures Γ e (beside S _ _ A of_castup)))

-- There is room behind the body's type.
up_room : (t : ℕ) (c : goal.cast_up-In_ok-body t)
    → (2 * (c.args.top + (c.in_ok-body.body.length + c.args.check.now.limit)) ≤ length c.infer.new.work)
    × (c.in_ok-body.body.length ≤ c.args.check.now.limit)
    × (c.args.check.now.limit ≤ longest)
    × (1 + c.in_ok-annotation.annotation.read + c.in_ok-body.body.read ≤ longest)
up_room t c =
    let P = c.requires in
    let B = up_both t c P.0 P.1 P.2 P.3 in
    let long = c.infer.auto.work ∙ c.star_part.auto.work in
    omega (arith, B.long, B.fits, room_two P.4, P.4.allowed, long, both_reach P.3 of_castup B)

-- What the step tells of the annotation.
up_steps : (t : ℕ) (c : goal.cast_up-In_ok-annotation t) (Γ : Context) (a e : Term)
    → Subject c.args.check.now.book.now Γ (castup a e) c.args.check.now.term.now c.args.sub.now c.args.memory.now.context c.args.depth
    → (work after : List ℕ) (at : ℕ) (r : Result Stepped Halt)
    → ((b : Term)
    → take (1 + c.in_ok-annotation.annotation.read - 1) (drop 1 c.args.sub.now) ≡ words b
    → Worded b
    → Named (entries c.args.check.now.book.now) b
    → StepsInto c.args.check.now.reader c.args.check.now.book.now b work at c.args.check.now.limit r after)
    → StepsInto c.args.check.now.reader c.args.check.now.book.now a work at c.args.check.now.limit r after
up_steps t c Γ a e S work after at r told =
    let F = first S of_castup in
    let A = typed (c.in_ok-annotation.ensures Γ a F) in
    told a (annotation_words S _ _ A (of_castup {e = e})) (subject_worded F) F.named

-- Its next state was written behind the body's type and compared with it.
up_compared : (t : ℕ) (c : goal.cast_up-In_ok-body t) (Γ : Context) (a e : Term)
    (S : Subject c.args.check.now.book.now Γ (castup a e) c.args.check.now.term.now c.args.sub.now c.args.memory.now.context c.args.depth)
    {k : ℕ} {after : List ℕ} {r : Bool}
    (m : Moved (next_of c.args.check.now.reader c.args.check.now.book.now a) c.infer.new.work (c.args.top + c.in_ok-body.body.length) c.args.check.now.limit k after)
    → (r ≡ true)
    ↔ (take (2 * (c.args.top + c.in_ok-body.body.length) - 2 * c.args.top) (drop (2 * c.args.top) after)
    ≡ take (2 * (c.args.top + c.in_ok-body.body.length + k) - 2 * (c.args.top + c.in_ok-body.body.length))
    (drop (2 * (c.args.top + c.in_ok-body.body.length)) after))
    → (not r ≡ true → m.state ≢ (up_both t c Γ a e S).type) × (not r ≡ false → m.state ≡ (up_both t c Γ a e S).type)
up_compared t c Γ a e S m told =
    let short = c.requires.4.allowed in
    let B = up_both t c Γ a e S in
    compared_behind _ _ _ _ m.state B.type (next_worded (first S of_castup) _ m.steps (omega (arith, m.fits, short)))
    (B.has_words short) B.lies m.stored m.long (omega (arith, up_room t c, m.long, m.fits)) told

-- The annotation's next state is within the limit.
up_few : (t : ℕ) (c : goal.cast_up-In-Ok t) → c.in-Ok.stepped.length ≤ c.args.check.now.limit
up_few t c =
    let P = c.requires in
    let F = first P.3 of_castup in
    let A = typed (c.in_ok-annotation.ensures P.0 P.1 F) in
    let moves = c.step_into.ensures P.1 (annotation_words P.3 _ _ A (of_castup {e = P.2})) (subject_worded F) F.named in
    let m = moved _ _ _ _ (next_of _ _ P.1) moves c.in-Ok.is in
    omega (arith, m.long, m.fits)

pub cast_up-slice_bounds-star_part-count : goal.cast_up-slice_bounds-star_part-count
cast_up-slice_bounds-star_part-count t c = subject_some c.requires.3

pub cast_up-slice_bounds-star_part-start : goal.cast_up-slice_bounds-star_part-start
cast_up-slice_bounds-star_part-start t c = subject_some c.requires.3

pub cast_up-star_part-requires : goal.cast_up-star_part-requires
cast_up-star_part-requires t c =
    let P = c.requires in
    part_asked 0 2 (omega arith) c.decreases P.3 P.4 (first P.3 of_castup) (two_levels of_castup).0 refl (omega arith)

pub cast_up-returns-in_err-annotation : goal.cast_up-returns-in_err-annotation
cast_up-returns-in_err-annotation t c Γ a e S =
    passed _ (c.in_err-annotation.ensures Γ a (first S of_castup)) c.from_residual.ensures.1
    (up_annotation _ _ _ Γ _ _ a e (place_first S))

pub cast_up-overflow_add-front : goal.cast_up-overflow_add-front
cast_up-overflow_add-front t c = omega (arith, up_reach t (goal.at.cast_up-overflow_add-front t c).In_ok-annotation)

pub cast_up-offset_bounds-sub-front : goal.cast_up-offset_bounds-sub-front
cast_up-offset_bounds-sub-front t c = omega (arith, up_reach t (goal.at.cast_up-offset_bounds-sub-front t c).In_ok-annotation)

pub cast_up-slice_bounds-infer-count : goal.cast_up-slice_bounds-infer-count
cast_up-slice_bounds-infer-count t c = omega (arith, up_reach t (goal.at.cast_up-slice_bounds-infer-count t c).In_ok-annotation)

pub cast_up-slice_bounds-infer-start : goal.cast_up-slice_bounds-infer-start
cast_up-slice_bounds-infer-start t c = omega (arith, up_reach t (goal.at.cast_up-slice_bounds-infer-start t c).In_ok-annotation)

pub cast_up-infer-requires : goal.cast_up-infer-requires
cast_up-infer-requires t c =
    let P = c.requires in
    let A = typed (c.in_ok-annotation.ensures P.0 P.1 (first P.3 of_castup)) in
    part_asked c.in_ok-annotation.annotation.read 1 (omega arith) c.decreases P.3 P.4 (beside P.3 _ _ A (of_castup {e = P.2})) (two_levels of_castup).1
    c.star_part.auto.work (omega arith)

pub cast_up-returns-in_err-body : goal.cast_up-returns-in_err-body
cast_up-returns-in_err-body t c Γ a e S =
    let A = typed (c.in_ok-annotation.ensures Γ a (first S of_castup)) in
    passed _ (c.in_err-body.ensures Γ e (beside S _ _ A of_castup)) c.from_residual-in_err-body.ensures.1
    (up_body _ _ _ Γ _ _ a e (annotation_found S _ _ A) (second_place S _ _ A (of_castup {e = e})))

pub cast_up-overflow_add-next : goal.cast_up-overflow_add-next
cast_up-overflow_add-next t c = omega (arith, up_room t (goal.at.cast_up-overflow_add-next t c).In_ok-body)

pub cast_up-slice_bounds-step_into-end : goal.cast_up-slice_bounds-step_into-end
cast_up-slice_bounds-step_into-end t c = omega (arith, up_reach t (goal.at.cast_up-slice_bounds-step_into-end t c).In_ok-annotation)

pub cast_up-step_into-requires : goal.cast_up-step_into-requires
cast_up-step_into-requires t c =
    let P = c.requires in
    let F = first P.3 of_castup in
    let A = typed (c.in_ok-annotation.ensures P.0 P.1 F) in (
      omega (arith, up_room t (goal.at.cast_up-step_into-requires t c).In_ok-body),
      P.4.allowed,
      P.3.holds,
      subject_within F (eqb c.args.depth 0) (annotation_words P.3 _ _ A (of_castup {e = P.2})) (eqb-true c.args.depth 0),
    )

pub cast_up-returns-in-Value : goal.cast_up-returns-in-Value
cast_up-returns-in-Value t c Γ a e S =
    let p = goal.at.cast_up-returns-in-Value t c in
    let moves = up_steps t p.In_ok-annotation Γ a e S _ _ _ _ c.step_into.ensures in
    turned
    (up_rests (up_both t p.In_ok-body Γ a e S) (rests _ _ _ _ _ (next_of _ _ a) moves c.in-Err.is c.in-Value.is))
    c.refused.ensures

pub cast_up-returns-in-Full : goal.cast_up-returns-in-Full
cast_up-returns-in-Full t c Γ a e S =
    let p = goal.at.cast_up-returns-in-Full t c in
    let moves = up_steps t p.In_ok-annotation Γ a e S _ _ _ _ c.step_into.ensures in
    let o = over_limit _ _ _ _ (next_of _ _ a) moves c.in-Err.is c.in-Full.is in
    turned (up_step_over (up_both t p.In_ok-body Γ a e S) o.1 o.2 o.3) c.refused-in-Full.ensures

pub cast_up-overflow_add-end : goal.cast_up-overflow_add-end
cast_up-overflow_add-end t c = omega (arith, up_room t (goal.at.cast_up-overflow_add-end t c).In_ok-body, up_few t c, c.step_into.auto.work)

pub cast_up-overflow_mul-next : goal.cast_up-overflow_mul-next
cast_up-overflow_mul-next t c = omega (arith, up_room t (goal.at.cast_up-overflow_mul-next t c).In_ok-body, up_few t c, c.step_into.auto.work)

pub cast_up-slice_bounds-same-end : goal.cast_up-slice_bounds-same-end
cast_up-slice_bounds-same-end t c = omega (arith, up_room t (goal.at.cast_up-slice_bounds-same-end t c).In_ok-body, up_few t c, c.step_into.auto.work)

pub cast_up-overflow_mul-end : goal.cast_up-overflow_mul-end
cast_up-overflow_mul-end t c = omega (arith, up_room t (goal.at.cast_up-overflow_mul-end t c).In_ok-body, up_few t (goal.at.cast_up-overflow_mul-end t c).In-Ok, c.step_into.auto.work)

pub cast_up-slice_bounds-same-end-2 : goal.cast_up-slice_bounds-same-end-2
cast_up-slice_bounds-same-end-2 t c = omega (arith, up_room t (goal.at.cast_up-slice_bounds-same-end-2 t c).In_ok-body, up_few t (goal.at.cast_up-slice_bounds-same-end-2 t c).In-Ok, c.step_into.auto.work)

pub cast_up-returns-then-not-same : goal.cast_up-returns-then-not-same
cast_up-returns-then-not-same t c Γ a e S =
    let p = (goal.at.cast_up-returns-then-not-same t c).In_ok-body in
    let B = up_both t p Γ a e S in
    let moves = up_steps t (goal.at.cast_up-returns-then-not-same t c).In_ok-annotation Γ a e S _ _ _ _ c.step_into.ensures in
    let m = moved _ _ _ _ (next_of _ _ a) moves c.in-Ok.is in
    let same = up_compared t p Γ a e S m c.same.ensures in
    turned (up_other B m.state m.steps m.fits (same.0 (ap not c.if-not-same.true))) c.refused-then-not-same.ensures

pub cast_up-returns-then-check-annotation : goal.cast_up-returns-then-check-annotation
cast_up-returns-then-check-annotation t c Γ a e S =
    let p = (goal.at.cast_up-returns-then-check-annotation t c).In_ok-body in
    let B = up_both t p Γ a e S in
    let moves = up_steps t (goal.at.cast_up-returns-then-check-annotation t c).In_ok-annotation Γ a e S _ _ _ _ c.step_into.ensures in
    let m = moved _ _ _ _ (next_of _ _ a) moves c.in-Ok.is in
    let same = up_compared t p Γ a e S m c.same.ensures in
    turned
    (up_measured B m.state m.steps m.fits (same.1 (ap not c.if-not-same.false)) ∙ over _ a (omega (arith, B.read, c.if-check-annotation.true)))
    c.refused-then-check-annotation.ensures

pub cast_up-slice_bounds-note-end : goal.cast_up-slice_bounds-note-end
cast_up-slice_bounds-note-end t c = omega (arith, up_reach t (goal.at.cast_up-slice_bounds-note-end t c).In_ok-annotation)

pub cast_up-note-requires : goal.cast_up-note-requires
cast_up-note-requires t c =
    let P = c.requires in
    let A = typed (c.in_ok-annotation.ensures P.0 P.1 (first P.3 of_castup)) in
    annotation_asked P.3 _ _ A c.args.top (of_castup {e = P.2})
    (omega (arith, up_room t (goal.at.cast_up-note-requires t c).In_ok-body, c.step_into.auto.work, c.if-check-annotation.false))

pub cast_up-overflow_add-result : goal.cast_up-overflow_add-result
cast_up-overflow_add-result t c = omega (arith, up_room t (goal.at.cast_up-overflow_add-result t c).In_ok-body)

pub cast_up-returns : goal.cast_up-returns
unfolding size
cast_up-returns t c Γ a e S =
    let p = (goal.at.cast_up-returns t c).In_ok-body in
    let A = typed (c.in_ok-annotation.ensures Γ a (first S of_castup)) in
    let B = up_both t p Γ a e S in
    let moves = up_steps t (goal.at.cast_up-returns t c).In_ok-annotation Γ a e S _ _ _ _ c.step_into.ensures in
    let m = moved _ _ _ _ (next_of _ _ a) moves c.in-Ok.is in
    let same = up_compared t p Γ a e S m c.same.ensures in
    let fits : size a ≤ c.args.check.now.limit = omega (arith, B.read, c.if-check-annotation.false) in
    found
    (up_measured B m.state m.steps m.fits (same.1 (ap not c.if-not-same.false)) ∙ fitting _ a fits)
    (written_type c.step_into.new.work a (omega (arith, B.read, B.further)) B.read (c.note.ensures a (annotation_words S _ _ A (of_castup {e = e})))
    (omega (arith, up_room t p, c.step_into.auto.work, fits))
    (moved_front c.args.top m (omega arith) ∙ B.front) B.context B.wide)

-- `infer`: the first word says which node it is, so that the node's own function is asked for what the contract says; star and
-- variables are typed here.

-- The subterm is the variable that its word says.
is_variable : (t : ℕ) (c : goal.infer-In-Variable t) {Γ : Context} {e : Term}
    → Subject c.args.check.now.book.now Γ e c.args.check.now.term.now c.args.sub.now c.args.memory.now.context c.args.depth
    → e ≡ var c.in-Variable.index
unfolding Headed
is_variable t c S = subject_headed S c.in-Variable.is c.classify.ensures

-- The subterm is the name that its word says.
is_name : (t : ℕ) (c : goal.infer-In-Name t) {Γ : Context} {e : Term}
    → Subject c.args.check.now.book.now Γ e c.args.check.now.term.now c.args.sub.now c.args.memory.now.context c.args.depth
    → e ≡ name c.in-Name.number
unfolding Headed
is_name t c S = subject_headed S c.in-Name.is c.classify.ensures

pub infer-bounds-sub-0 : goal.infer-bounds-sub-0
infer-bounds-sub-0 t c = subject_some c.requires.2

pub infer-overflow_sub-binder : goal.infer-overflow_sub-binder
infer-overflow_sub-binder t c =
    let S = c.requires.2 in
    omega (arith, bound (renamed S (is_variable t c S)))

pub infer-overflow_sub-binder-in-Variable : goal.infer-overflow_sub-binder-in-Variable
infer-overflow_sub-binder-in-Variable t c =
    let S = c.requires.2 in
    omega (arith, bound (renamed S (is_variable t (goal.at.infer-overflow_sub-binder-in-Variable t c).In-Variable S)))

pub infer-variable-requires : goal.infer-variable-requires
infer-variable-requires t c =
    let S = c.requires.2 in
    let R = c.requires.3 in
    let stands = c.from-from.ensures ∙ ap (λ k. get_or c.args.memory.now.context (c.args.depth - 1 - k) 0) c.from.ensures in (
      (_, annotated (renamed S (is_variable t (goal.at.infer-variable-requires t c).In-Variable S)) stands),
      omega (arith, room_two R),
      R.allowed,
    )

-- What the node's own functions are asked for.
pub infer-application-requires : goal.infer-application-requires
unfolding Headed
infer-application-requires t c =
    let S = c.requires.2 in
    let node = subject_headed S c.in-Application.is c.classify.ensures in
    asked app S node c.requires.3 c.decreases

pub infer-abstraction-requires : goal.infer-abstraction-requires
unfolding Headed
infer-abstraction-requires t c =
    let S = c.requires.2 in
    let node = subject_headed S c.in-Abstraction.is c.classify.ensures in
    asked lam S node c.requires.3 c.decreases

pub infer-product-requires : goal.infer-product-requires
unfolding Headed
infer-product-requires t c =
    let S = c.requires.2 in
    let node = subject_headed S c.in-Product.is c.classify.ensures in
    asked pi S node c.requires.3 c.decreases

pub infer-cast_up-requires : goal.infer-cast_up-requires
unfolding Headed
infer-cast_up-requires t c =
    let S = c.requires.2 in
    let node = subject_headed S c.in-CastUp.is c.classify.ensures in
    asked castup S node c.requires.3 c.decreases

pub infer-cast_down-requires : goal.infer-cast_down-requires
unfolding Headed
infer-cast_down-requires t c =
    let S = c.requires.2 in
    let node = subject_headed S c.in-CastDown.is c.classify.ensures in
    (omega (arith, c.decreases), (_, node.0, renamed S node.1, roomy_renamed c.requires.3 node.1))

pub infer-recursion-requires : goal.infer-recursion-requires
unfolding Headed
infer-recursion-requires t c =
    let S = c.requires.2 in
    let node = subject_headed S c.in-Recursion.is c.classify.ensures in
    asked mu S node c.requires.3 c.decreases

pub infer-definition-requires : goal.infer-definition-requires
infer-definition-requires t c =
    let P = c.requires in
    (omega (arith, room_two P.3), P.3.allowed, name_defined (renamed P.2 (is_name t (goal.at.infer-definition-requires t c).In-Name P.2)))

pub infer-returns-in-Star : goal.infer-returns-in-Star
unfolding Headed calculus.infer size kept keep
infer-returns-in-Star t c Γ e S =
    let R = c.requires.3 in
    let at = 2 * c.args.top in
    let stored = ap (λ i. set (set c.args.work.now at 0) i 1) (add-one at) in
    rw
    (subject_headed S c.in-Star.is c.classify.ensures)
    (found
    (fitting _ star R.some)
    (written_type c.args.work.now star refl refl stored (omega (arith, room_two R, R.some)) refl refl refl))

pub infer-returns-in-Variable : goal.infer-returns-in-Variable
infer-returns-in-Variable t c Γ e S =
    let x = is_variable t (goal.at.infer-returns-in-Variable t c).In-Variable S in
    let stands = c.from-from.ensures ∙ ap (λ k. get_or c.args.memory.now.context (c.args.depth - 1 - k) 0) c.from.ensures in
    rw
    x
    (infers_annotation (renamed S x) _ (omega (arith, room_two c.requires.3))
    (c.variable.ensures _ (annotated (renamed S x) stands)))

-- What they answer.
pub infer-returns-in-Application : goal.infer-returns-in-Application
unfolding Headed
infer-returns-in-Application t c Γ e S =
    let node = subject_headed S c.in-Application.is c.classify.ensures in
    answered app S node _ _ _ (c.application.ensures Γ)

pub infer-returns-in-Abstraction : goal.infer-returns-in-Abstraction
unfolding Headed
infer-returns-in-Abstraction t c Γ e S =
    let node = subject_headed S c.in-Abstraction.is c.classify.ensures in
    answered lam S node _ _ _ (c.abstraction.ensures Γ)

pub infer-returns-in-Product : goal.infer-returns-in-Product
unfolding Headed
infer-returns-in-Product t c Γ e S =
    let node = subject_headed S c.in-Product.is c.classify.ensures in
    answered pi S node _ _ _ (c.product.ensures Γ)

pub infer-returns-in-CastUp : goal.infer-returns-in-CastUp
unfolding Headed
infer-returns-in-CastUp t c Γ e S =
    let node = subject_headed S c.in-CastUp.is c.classify.ensures in
    answered castup S node _ _ _ (c.cast_up.ensures Γ)

pub infer-returns-in-CastDown : goal.infer-returns-in-CastDown
unfolding Headed
infer-returns-in-CastDown t c Γ e S =
    let node = subject_headed S c.in-CastDown.is c.classify.ensures in
    rw node.1 (c.cast_down.ensures Γ node.0 (renamed S node.1))

pub infer-returns-in-Recursion : goal.infer-returns-in-Recursion
unfolding Headed
infer-returns-in-Recursion t c Γ e S =
    let node = subject_headed S c.in-Recursion.is c.classify.ensures in
    answered mu S node _ _ _ (c.recursion.ensures Γ)

pub infer-returns-in-Name : goal.infer-returns-in-Name
infer-returns-in-Name t c Γ e S =
    let x = is_name t (goal.at.infer-returns-in-Name t c).In-Name S in
    rw
    x
    (infers_stored (renamed S x) _ (omega (arith, room_two c.requires.3)) (λ d h. c.definition.ensures d h))

pub infer-returns-in-Nothing : goal.infer-returns-in-Nothing
unfolding Headed
infer-returns-in-Nothing t c Γ e S = absurd (subject_headed S c.in-Nothing.is c.classify.ensures)
