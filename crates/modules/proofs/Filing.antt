-- The reply to a file's bytes, once it is known whether they are allowed, and the line of a path from its pieces.
use Prim.Native.Nat.{ℕ, ◌/◌}
use mathlib.Core.Bool.{true, false}
use mathlib.Core.List.{List, [], ◌∷◌}
use mathlib.Core.Path.{◌≡◌, refl, sym, ap, ◌∙◌}
use native.Mathlib.Omega.{arith}
use lib.ListN.{length, take}
use lib.Seq.{sets, take_all}
use Rattle.text.specs.Appending.{appended}
use Rattle.text.specs.Pairs.{pairs, allowed}
use Rattle.text.proofs.Appended.{appends}
use Rattle.text.proofs.Pairs.{length_pairs, all_stored}
use Rattle.protocol.specs.Answers.{Replies, refusal_line, reply}
use Rattle.protocol.specs.Requests.{keeping}
use Rattle.protocol.specs.declared.request.Request.{Request}
use Rattle.protocol.proofs.Requesting.{kept_alone}
use Rattle.modules.specs.Files.{file_reply, tabbed, Tells, tells}

module _ {N : ℕ} (q : Request) (bs W : List ℕ) {page page' : List ℕ} where
  pub not_allowed : allowed bs ≡ false → page' ≡ appended N page (refusal_line 4 0) → Replies N (file_reply q bs W) W page page'
  unfolding file_reply
  not_allowed e h = rw e (record { text = h; work = refl })

  -- The words are stored in the room of the longest term, and the request is for as many of them as half the bytes.
  pub are_words : {ws W' : List ℕ} (room : List ℕ)
      → length room ≡ 1024
      → allowed bs ≡ true
      → ws ≡ sets room 0 (pairs bs)
      → Replies N (reply (keeping q (length bs / 2)) ws W) W' page page'
      → Replies N (file_reply q bs W) W' page page'
  unfolding file_reply
  are_words {ws} room n e s h =
      let half = length_pairs bs in
      let found = ap (take (length bs / 2)) s ∙ all_stored bs room e n in
      let all = take_all (length (pairs bs)) (pairs bs) (omega arith) in
      let same = kept_alone (keeping q (length (pairs bs))) ws (pairs bs) W (ap (λ k. take k ws) half ∙ found ∙ sym all) in
      rw e (rw (← half, same) at h)

-- A path's answer with a tab, the path and a line feed behind it.
pub with_path : {N : ℕ} {q : Request} {W W' page p₁ p₂ p₃ p₄ path : List ℕ}
    → Tells N q (λ a. a) W W' page p₁
    → p₂ ≡ appended N p₁ (9 ∷ [])
    → p₃ ≡ appended N p₂ path
    → p₄ ≡ appended N p₃ (10 ∷ [])
    → Tells N q (tabbed path) W W' page p₄
with_path (tells t h) tab name feed =
    tells t (record { text = rw (feed, name, tab, h.text) (simp appends refl); work = h.work })
