-- SHARES OF THE DESK (document 02, 2.9): what each caller has of it, over any sequence of runs, refused ones among them.
use Rattle.std.specs.Prelude.{ℕ, ◌+◌, cond, List, [], ◌∷◌, map, ◌≡◌, eqb}
use Rattle.calculus.specs.Answer.{Answer, ok, refused}
use Rattle.calculus.specs.Outcomes.{Desk, allowance_of, Stop, Ran, run}

-- A call of a run: all that is given to it but the desk.
pub record Call : Type 0 where
  pub caller : ℕ
  pub words : List ℕ
  pub budget : ℕ
  pub work : List ℕ
  pub state : List ℕ

-- What a call leaves, given the desk.
abbrev pub served : Desk → Call → Ran
served desk k = run k.words k.budget k.caller desk k.work k.state

-- A call with what it left.
pub record Entry : Type 0 where
  pub call : Call
  pub left : Ran

-- "Any sequence of calls, each given the desk that the one before returned",
unfoldable pub served_all : Desk → List Call → List Entry
served_all desk [] = []
served_all desk (k ∷ ks) = record { call = k; left = served desk k } ∷ served_all (served desk k).desk ks

-- and the desk that the last of them returned.
unfoldable pub desk_after : Desk → List Call → Desk
desk_after desk [] = desk
desk_after desk (k ∷ ks) = desk_after (served desk k).desk ks

-- Those of a list that are of the caller `c`; `caller` tells whose each is.
unfoldable pub of_caller : {A : Type 0} → (A → ℕ) → ℕ → List A → List A
of_caller caller c [] = []
of_caller caller c (x ∷ xs) = cond (eqb (caller x) c) (x ∷ of_caller caller c xs) (of_caller caller c xs)

abbrev pub own_calls : ℕ → List Call → List Call
own_calls = of_caller (λ k. k.caller)

abbrev pub own_entries : ℕ → List Entry → List Entry
own_entries = of_caller (λ e. e.call.caller)

-- The steps of a run; a refused one takes none.
unfoldable pub steps : Answer Stop → ℕ
steps (ok s) = s.steps
steps (refused r p) = 0

unfoldable pub all_steps : List Entry → ℕ
all_steps [] = 0
all_steps (e ∷ es) = steps e.left.answer + all_steps es

-- What a caller sees of a run of its own: end, steps and counts, or the refusal and its place; its own allowance afterwards; and the
-- two slices. Of the other seven allowances nothing is said.
pub record Seen : Type 0 where
  pub answer : Answer Stop
  pub allowance : ℕ
  pub work : List ℕ
  pub state : List ℕ

abbrev pub seen_by : ℕ → Ran → Seen
seen_by c r = record { answer = r.answer; allowance = allowance_of r.desk c; work = r.work; state = r.state }

-- Nothing of that is left out of it.
abbrev pub SeesAll : Type 0
SeesAll = (c : ℕ) (r s : Ran) → seen_by c r ≡ seen_by c s
    → (r.answer ≡ s.answer) × (allowance_of r.desk c ≡ allowance_of s.desk c) × (r.work ≡ s.work) × (r.state ≡ s.state)

abbrev pub all_seen : ℕ → Desk → List Call → List Seen
all_seen c desk ks = map (λ e. seen_by c e.left) (own_entries c (served_all desk ks))

-- "For each caller the first allowance equals what is left plus the steps of all its runs."
abbrev pub Conserved : ℕ → Desk → List Call → Type 0
Conserved c desk ks =
    allowance_of desk c ≡ allowance_of (desk_after desk ks) c + all_steps (own_entries c (served_all desk ks))

-- "Runs of others may be changed, added or dropped, and a caller's own ends, steps, states and allowance remain."
pub record Unmoved (c : ℕ) (desk desk' : Desk) (ks ks' : List Call) : Type 0 where
  pub seen : all_seen c desk ks ≡ all_seen c desk' ks'
  pub left : allowance_of (desk_after desk ks) c ≡ allowance_of (desk_after desk' ks') c

-- Of every desk, sequence and caller; one above 7 is refused, and no allowance is its own.
abbrev pub Shares : Type 0
Shares = (c : ℕ) (desk : Desk) (ks : List Call)
    → Conserved c desk ks
    × ((desk' : Desk) (ks' : List Call) → allowance_of desk c ≡ allowance_of desk' c → own_calls c ks ≡ own_calls c ks'
    → Unmoved c desk desk' ks ks')
