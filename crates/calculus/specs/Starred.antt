-- The starred terms of document 01 ("Terms at the edges"), in one table, with what each row claims, stated in the rules and in the
-- outcomes for all long enough slices. Further rows use what the starred terms leave out, so that every node, every rule, each of the
-- refusals 10–16 and every end stands in the table.
use Prim.Native.Nat.{ℕ, ◌≤◌}
use mathlib.Core.List.{List, [], ◌∷◌, ◌++◌}
use Rattle.std.specs.Prelude.{◌≡◌, ◌≢◌, replicate}
use Rattle.std.proofs.Math.ListN.{length}
use Rattle.calculus.specs.Term.{Term}
use Rattle.calculus.specs.Answer.{ok, refused, Reason, not_star, not_product, wrong_argument, no_step, wrong_cast, wrong_recursion, over_limit}
use Rattle.calculus.specs.Words.{words, Codes, longest}
use Rattle.calculus.specs.Book.{bodies, seen}
use Rattle.calculus.specs.Rules.{◌⊩◌⟶◌, ◌∣◌∣◌⊢◌⦂◌}
use Rattle.calculus.specs.Kinds.{by_unfolding, kind, Counts, counts, Counted}
use Rattle.calculus.specs.Limit.{◌∣◌∣◌⊢⟨◌⟩◌⦂◌}
use Rattle.calculus.specs.Failing.{Fails}
use Rattle.calculus.specs.Run.{State, End, at_value, at_stuck, spent, too_long, Ends}
use Rattle.calculus.specs.Outcomes.{check_room, run_room, begun, cleared, check, Desk, last_caller, allowance_of, lowered, grant, run}

-- A row of the table.
pub data Row : Type 0 where
  -- words and limit; the type's words, or the reason and the place
  types : List ℕ → ℕ → List ℕ → Row
  refuses : List ℕ → ℕ → Reason → ℕ → Row
  -- words and budget; the end, the steps, in all and by kind, and the last state's words
  ends : List ℕ → ℕ → End → ℕ → Counts → List ℕ → Row
  -- words of which "every run is spent, in the same state", and every step an unfolding
  spins : List ℕ → Row

-- What a row claims: by the rules first, and then of the call, for all long enough slices.
unfoldable pub Claim : Row → Type 0
Claim (types ws L out) = (t : Term) × (τ : Term) × Codes 0 ws t × (out ≡ words τ) × ([] ∣ seen 0 [] ∣ [] ⊢⟨ L ⟩ t ⦂ τ)
    × ((W O : List ℕ) → check_room L ≤ length W → L ≤ length O
    → check ws L W O ≡ record { answer = ok (length out); work = cleared (check_room L) W; output = begun out O })
Claim (refuses ws L r p) = (t : Term) × Codes 0 ws t × Fails [] (seen 0 []) L [] 0 t r p
    × (r ≢ over_limit → (τ : Term) → [] ∣ seen 0 [] ∣ [] ⊢ t ⦂ τ → ⊥)
    × ((W O : List ℕ) → check_room L ≤ length W → L ≤ length O
    → check ws L W O ≡ record { answer = refused r p; work = cleared (check_room L) W; output = O })
Claim (ends ws budget E n c out) =
    (t : Term) × (x : Term) × Codes 0 ws t × (out ≡ words x) × State (bodies []) t n x × Counted (bodies []) t c x × Ends (bodies []) budget n x E
    × ((caller : ℕ) (desk : Desk) (W S : List ℕ)
    → caller ≤ last_caller → budget ≤ allowance_of desk caller → run_room ≤ length W → longest ≤ length S
    → run ws budget caller desk W S ≡ record {
      answer = ok (record { end = E; steps = n; counts = c });
      desk = lowered desk caller n;
      work = cleared run_room W;
      state = begun out S;
    })
Claim (spins ws) = (t : Term) × Codes 0 ws t × ((s : bodies [] ⊩ t ⟶ t) × (kind s ≡ by_unfolding))
    × ((budget caller : ℕ) (desk : Desk) (W S : List ℕ) → caller ≤ last_caller → run_room ≤ length W → longest ≤ length S
    → run ws budget caller desk W S ≡ record {
      answer = ok (record { end = spent; steps = grant budget caller desk; counts = counts 0 (grant budget caller desk) 0 });
      desk = lowered desk caller (grant budget caller desk);
      work = cleared run_room W;
      state = begun ws S;
    })

-- Of a table, that each row holds.
unfoldable pub Claims : List Row → Type 0
Claims [] = Unit
Claims (r ∷ rs) = Claim r × Claims rs

-- A variable applied to itself again and again: 24 applications and 25 variables.
abbrev pub self_applied : List ℕ
self_applied = replicate 24 2 ++ replicate 25 16

-- "Starred ones are proved", in document 01's order; "L is 64 unless named".
abbrev pub starred : List Row
starred =
    types (0 ∷ []) 64 (0 ∷ [])
    ∷ refuses (1 ∷ 0 ∷ []) 64 no_step 0
    ∷ refuses (2 ∷ 0 ∷ 0 ∷ []) 64 not_product 0
    ∷ ends (2 ∷ 0 ∷ 0 ∷ []) 1 at_stuck 0 (counts 0 0 0) (2 ∷ 0 ∷ 0 ∷ [])
    ∷ types (4 ∷ 0 ∷ 16 ∷ []) 64 (5 ∷ 0 ∷ 0 ∷ [])
    ∷ types (6 ∷ 0 ∷ 16 ∷ []) 64 (0 ∷ [])
    ∷ spins (6 ∷ 0 ∷ 16 ∷ [])
    ∷ types (3 ∷ 2 ∷ 4 ∷ 0 ∷ 16 ∷ 0 ∷ 0 ∷ []) 64 (2 ∷ 4 ∷ 0 ∷ 16 ∷ 0 ∷ [])
    ∷ refuses (3 ∷ 2 ∷ 4 ∷ 0 ∷ 16 ∷ 0 ∷ 4 ∷ 0 ∷ 16 ∷ []) 64 wrong_cast 0
    ∷ refuses (3 ∷ 6 ∷ 0 ∷ 16 ∷ 0 ∷ []) 64 wrong_cast 0
    ∷ types (4 ∷ 0 ∷ 4 ∷ 16 ∷ 16 ∷ []) 5 (5 ∷ 0 ∷ 5 ∷ 16 ∷ 17 ∷ [])
    ∷ refuses (4 ∷ 0 ∷ 4 ∷ 16 ∷ 16 ∷ []) 4 over_limit 0
    ∷ types (2 ∷ 4 ∷ 0 ∷ 4 ∷ 16 ∷ 16 ∷ 0 ∷ []) 64 (5 ∷ 0 ∷ 0 ∷ [])
    ∷ refuses (2 ∷ 4 ∷ 0 ∷ 16 ∷ 4 ∷ 0 ∷ 16 ∷ []) 64 wrong_argument 0
    ∷ refuses (6 ∷ 0 ∷ 4 ∷ 0 ∷ 16 ∷ []) 64 wrong_recursion 0
    ∷ refuses (4 ∷ 4 ∷ 0 ∷ 16 ∷ 0 ∷ []) 64 not_star 1
    -- the product, T_PI, and its codomain refused by 10 at its own place
    ∷ types (5 ∷ 0 ∷ 16 ∷ []) 64 (0 ∷ [])
    ∷ refuses (5 ∷ 0 ∷ 4 ∷ 0 ∷ 16 ∷ []) 64 not_star 2
    -- T_CASTDOWN and S_CASTDOWNUP, and the end at a value: the report program's example
    ∷ types (1 ∷ 3 ∷ 2 ∷ 4 ∷ 0 ∷ 16 ∷ 0 ∷ 0 ∷ []) 32 (0 ∷ [])
    ∷ ends (1 ∷ 3 ∷ 2 ∷ 4 ∷ 0 ∷ 16 ∷ 0 ∷ 0 ∷ []) 1000 at_value 1 (counts 0 0 1) (0 ∷ [])
    -- S_APP, S_CASTDOWN and S_MU, and the end with the grant used: a recursion under a down cast, applied
    ∷ ends (2 ∷ 1 ∷ 6 ∷ 0 ∷ 16 ∷ 0 ∷ []) 3 spent 3 (counts 0 3 0) (2 ∷ 1 ∷ 6 ∷ 0 ∷ 16 ∷ 0 ∷ [])
    -- S_BETA, and the end before a state over 1,024 words: a recursion of 51 words whose next state would have 1,299
    ∷ ends (2 ∷ 4 ∷ 0 ∷ 6 ∷ 0 ∷ self_applied ++ 0 ∷ []) 1000 too_long 1 (counts 1 0 0) (6 ∷ 0 ∷ self_applied)
    -- every kind of step, so many times that no count is another's: a cancelled cast and two unfoldings under S_APP, a substitution,
    -- and a cancelled cast under S_CASTDOWN and one alone
    ∷ ends (2 ∷ 1 ∷ 3 ∷ 0 ∷ 6 ∷ 0 ∷ 6 ∷ 0 ∷ 4 ∷ 0 ∷ 1 ∷ 1 ∷ 3 ∷ 0 ∷ 3 ∷ 0 ∷ 0 ∷ 0 ∷ []) 1000 at_value 6 (counts 1 2 3) (0 ∷ [])
    -- ends with the grant used (document 02, 2.2): "`0` with budget 0 is now end 1"; the stuck term; a value after the
    -- last step; and spent where the next state would be over 1,024 words
    ∷ ends (0 ∷ []) 0 at_value 0 (counts 0 0 0) (0 ∷ [])
    ∷ ends (2 ∷ 0 ∷ 0 ∷ []) 0 at_stuck 0 (counts 0 0 0) (2 ∷ 0 ∷ 0 ∷ [])
    ∷ ends (1 ∷ 3 ∷ 2 ∷ 4 ∷ 0 ∷ 16 ∷ 0 ∷ 0 ∷ []) 1 at_value 1 (counts 0 0 1) (0 ∷ [])
    ∷ ends (2 ∷ 4 ∷ 0 ∷ 6 ∷ 0 ∷ self_applied ++ 0 ∷ []) 1 spent 1 (counts 1 0 0) (6 ∷ 0 ∷ self_applied)
    ∷ []

-- Every row of the table holds.
abbrev pub StarredTerms : Type 0
StarredTerms = Claims starred
