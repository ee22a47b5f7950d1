-- Which answer a request gets: that of the request that the line is. Only the words that are kept count.
use Prim.Native.Nat.{ℕ}
use mathlib.Core.List.{List}
use mathlib.Core.Path.{◌≡◌, refl}
use lib.ListN.{take}
use Rattle.evaluation.specs.declared.Desk.{Desk}
use Rattle.std.proofs.Common.{Some}
use Rattle.protocol.specs.Answers.{reply_to, reply, Replies}
use Rattle.protocol.specs.Desks.{serving, served, Serves}
use Rattle.protocol.specs.Forms.{asked}
use Rattle.protocol.specs.declared.asked.Asked.{Asked}
use Rattle.protocol.specs.declared.request.Request.{Request}

pub kept_alone : (q : Request) (ws us W : List ℕ) → take q.count ws ≡ take q.count us → reply q ws W ≡ reply q us W
unfolding reply
kept_alone q ws us W e = rw e refl

module _ (q : Request) (ws W : List ℕ) {a b : Asked} (e : Some a ≡ asked q) (k : a ≡ b) where
  pub replies : {N : ℕ} {ts W' page page' : List ℕ}
      → ts ≡ take q.count ws
      → Replies N (reply_to (Some b) ts W) W' page page'
      → Replies N (reply q ws W) W' page page'
  unfolding reply
  replies t h = rw (← e, k) (rw t at h)

  pub serves : {N : ℕ} (desk : Desk) {W' page page' : List ℕ} {r : Desk}
      → Serves N (serving (Some b) desk.allowances (take q.count ws) W (reply q ws W)) W' page r page'
      → Serves N (served q desk.allowances ws W) W' page r page'
  unfolding served
  serves desk h = rw (← e, k) h
