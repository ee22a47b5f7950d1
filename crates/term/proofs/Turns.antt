-- The one loop of reading: where it stands, and what a turn makes of that. The subterm at hand comes first of those that are
-- pending. A refusal ends the reading; a word that passes leaves it to its parts and to what was pending, which are the entries that
-- count after the turn: where none does, the reading is at its end, and otherwise the last is the next subterm at hand.
use Prim.Native.Nat.{ℕ, suc, ◌+◌, ◌-◌, ◌≤◌, ◌<◌}
use mathlib.Core.List.{List, [], ◌∷◌, ◌++◌, map}
use mathlib.Core.Path.{◌≡◌, refl, sym, ap, ◌∙◌, subst}
use native.Mathlib.Omega.{arith}
use lib.Dec.{lit≤}
use lib.ListN.{length, get_or, drop}
use Rattle.calculus.specs.Words.{deepest}
use Rattle.calculus.specs.Answer.{Reason, ok, refused, ◌>>=◌, ◌>>◌, list_ends}
use Rattle.calculus.specs.Meaning.{meaning, binds}
use Rattle.calculus.specs.Scan.{Pending, test, below}
use Rattle.term.specs.Subterms.{pending, skim}
use Rattle.term.specs.Word.{arity, second}
use Rattle.term.proofs.Skimming.{skim_none, skim_word, skim_end}
use Rattle.term.proofs.Stacked.{stacked, stacked_length, two_rooms, two_scopes, length_two, parts_stored, taken}
use Rattle.term.proofs.Visits.{has_level}
use Rattle.term.proofs.Words.{Parted, no_part, one_part, two_parts, parted, few_binds}

-- A node takes a level where it leaves a part pending and where it binds a variable, so neither is done more than `deepest`
-- times.
pub record Fits (n room b : ℕ) : Type 0 where
  pub few : n + room ≤ deepest
  pub shallow : room + b ≤ deepest

-- Each of the pending subterms fits, with those behind it pending.
unfoldable pub Fitting : List Pending → Type 0
Fitting [] = Unit
Fitting (s ∷ ss) = Fits (length ss) s.room s.binders × Fitting ss

parts_fit : {ks : List ℕ} (s : Pending) (ss : List Pending)
    → 0 < s.room
    → Parted ks
    → Fitting (s ∷ ss)
    → Fitting (map (below s) ks ++ ss)
unfolding Fitting below
parts_fit s ss level no_part (fits, others) = others
parts_fit s ss level one_part (fits, others) =
    (record { few = omega (arith, fits.few); shallow = omega (arith, fits.shallow) }, others)
parts_fit s ss level (two_parts k h) (fits, others) =
    let second : Fits (length ss) (s.room - 1) (s.binders + k) = record { few = omega (arith, fits.few); shallow = omega (arith, fits.shallow) } in
    (record { few = omega (arith, fits.few); shallow = omega (arith, fits.shallow) }, (second, others))

-- The reading of all words stands at place `p`, with `n` subterms pending behind the one at hand.
pub record Stands (ws rooms scopes : List ℕ) (n p room b : ℕ) : Type 0 where
  pub within : p ≤ length ws
  pub many_rooms : length rooms ≡ suc deepest
  pub many_scopes : length scopes ≡ suc deepest
  pub fitting : Fitting (pending room b ∷ stacked rooms scopes n)
  pub same : skim ws (pending deepest 0 ∷ []) 0 ≡ skim (drop p ws) (pending room b ∷ stacked rooms scopes n) p

pub begins : (ws rooms scopes : List ℕ)
    → length rooms ≡ suc deepest
    → length scopes ≡ suc deepest
    → Stands ws rooms scopes 0 0 deepest 0
unfolding stacked Fitting
begins ws rooms scopes many_rooms many_scopes =
    record {
      within = omega arith;
      many_rooms = many_rooms;
      many_scopes = many_scopes;
      fitting = (record { few = lit≤ tt; shallow = lit≤ tt }, tt);
      same = refl;
    }

module _ {ws rooms scopes : List ℕ} {n p room b : ℕ} (s : Stands ws rooms scopes n p room b) where
  pub fits : Fits n room b
  unfolding Fitting
  fits = rw (stacked_length rooms scopes n) at s.fitting.0

  pub short : length ws ≤ p → refused list_ends (length ws) ≡ skim ws (pending deepest 0 ∷ []) 0
  short h =
      let at_end : length ws ≡ p = omega (arith, s.within) in
      ap (refused list_ends) at_end ∙ sym (s.same ∙ skim_end ws p (pending room b) (stacked rooms scopes n) h)

  module _ (inside : p < length ws) where
    pub turn_refused : {r : Reason}
        → refused r p ≡ test (meaning (get_or ws p 0)) (pending room b) p
        → refused r p ≡ skim ws (pending deepest 0 ∷ []) 0
    unfolding ◌>>=◌ ◌>>◌
    turn_refused e = rw (s.same, skim_word ws p (pending room b) (stacked rooms scopes n) inside, ← e) refl

    module _ (e : ok tt ≡ test (meaning (get_or ws p 0)) (pending room b) p) where
      abbrev parts : List ℕ
      parts = binds (meaning (get_or ws p 0))

      pub level : 0 < room
      level = has_level (meaning (get_or ws p 0)) (pending room b) p e

      -- A second part would fit: it is stored whether there is one or not.
      pub second_fits : Fits (n + 1) (room - 1) (b + second parts)
      second_fits =
          let some = level in
          let one = (few_binds (meaning (get_or ws p 0))).1 in
          record { few = omega (arith, fits.few); shallow = omega (arith, fits.shallow) }

      -- The word's parts come next, and then what was pending.
      abbrev next : List Pending
      next = map (below (pending room b)) parts ++ stacked rooms scopes n

      after_word : skim ws (pending deepest 0 ∷ []) 0 ≡ skim (drop (p + 1) ws) next (p + 1)
      unfolding ◌>>=◌ ◌>>◌
      after_word = rw (s.same, skim_word ws p (pending room b) (stacked rooms scopes n) inside, ← e) refl

      -- That is what the arrays hold after the turn.
      abbrev rooms' : List ℕ
      rooms' = two_rooms rooms n room

      abbrev scopes' : List ℕ
      scopes' = two_scopes scopes n b (second parts)

      after_stores : stacked rooms' scopes' (n + arity (get_or ws p 0)) ≡ next
      unfolding arity
      after_stores =
          parts_stored
          rooms scopes n room b
          (omega (arith, second_fits.few, s.many_rooms))
          (omega (arith, second_fits.few, s.many_scopes))
          (parted (meaning (get_or ws p 0)))

      pub turn_last : n + arity (get_or ws p 0) ≡ 0 → ok (p + 1) ≡ skim ws (pending deepest 0 ∷ []) 0
      unfolding stacked
      turn_last none = rw (after_word, ← after_stores, none) (sym (skim_none (drop (p + 1) ws) (p + 1)))

      pub turn_next : 0 < n + arity (get_or ws p 0)
          → let last = n + arity (get_or ws p 0) - 1 in
          Stands ws rooms' scopes' last (p + 1) (get_or rooms' last 0) (get_or scopes' last 0)
      turn_next some =
          let front = taken rooms' scopes' (n + arity (get_or ws p 0)) some in
          record {
            within = omega arith;
            many_rooms = length_two rooms n (room - 1) (room - 1) ∙ s.many_rooms;
            many_scopes = length_two scopes n (b + second parts) b ∙ s.many_scopes;
            fitting =
                subst Fitting (sym after_stores ∙ front) (parts_fit (pending room b) (stacked rooms scopes n) level (parted _) s.fitting);
            same = after_word ∙ ap (λ l. skim (drop (p + 1) ws) l (p + 1)) (sym after_stores ∙ front);
          }
