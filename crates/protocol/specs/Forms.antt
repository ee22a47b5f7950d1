-- Which request a line is (docs/FORMAT.md, The line protocol): its verb, how many numbers it has, and whether words follow behind a bar.
use Rattle.std.specs.Prelude.{ℕ, min, Bool, true, false, not, cond, ◌&&◌, Option, Some, None, eqb}
use Rattle.protocol.specs.Requests.{desk_topic, last, before_last}
use Rattle.protocol.specs.declared.asked.Asked.{Asked}
use Rattle.protocol.specs.declared.asked.Asked.TheVariants.{Check, Run, Kinds, Part, DeskNew, DeskRun, DeskShow}
use Rattle.protocol.specs.declared.request.Request.{Request}

-- The verbs, their letters as one number in base 256.
abbrev pub check_verb : ℕ
check_verb = 426953237355

abbrev pub run_verb : ℕ
run_verb = 7501166

-- A run with its counts by kind.
abbrev pub kinds_verb : ℕ
kinds_verb = 461330343027

abbrev pub part_verb : ℕ
part_verb = 1885434484

-- Of the desk.
abbrev pub new_verb : ℕ
new_verb = 7234935

abbrev pub show_verb : ℕ
show_verb = 1936224119

-- Nothing in the line was wrong, and it has this topic, this verb and so many numbers; in phase 2 words follow behind a bar, in phase 1
-- there is none.
unfoldable pub asks : Request → ℕ → ℕ → ℕ → ℕ → Bool
asks q topic verb numbers phase =
    not q.wrong && eqb q.topic topic && eqb q.verb verb && eqb q.numbers numbers && eqb q.phase phase

-- `check LIMIT | WORDS`.
abbrev pub asks_check : Request → Bool
asks_check q = asks q 0 check_verb 1 2

-- `run BUDGET ALLOWANCE | WORDS`.
abbrev pub asks_run : Request → Bool
asks_run q = asks q 0 run_verb 2 2

-- `kinds BUDGET ALLOWANCE | WORDS`.
abbrev pub asks_kinds : Request → Bool
asks_kinds q = asks q 0 kinds_verb 2 2

-- `part NUMBER | WORDS`.
abbrev pub asks_part : Request → Bool
asks_part q = asks q 0 part_verb 1 2

-- `desk new ALLOWANCE …`, with eight of them.
abbrev pub asks_desk_new : Request → Bool
asks_desk_new q = asks q desk_topic new_verb 8 1

-- `desk run CALLER BUDGET | WORDS`.
abbrev pub asks_desk_run : Request → Bool
asks_desk_run q = asks q desk_topic run_verb 2 2

-- `desk show`.
abbrev pub asks_desk_show : Request → Bool
asks_desk_show q = asks q desk_topic show_verb 0 1

-- The request that a line is, with its numbers, or none. No line is two of these: they differ in their topics or in their verbs.
unfoldable pub asked : Request → Option Asked
asked q =
    cond (asks_check q) (Some (Check (last q)))
    (cond (asks_run q) (Some (Run (before_last q) (last q)))
    (cond (asks_kinds q) (Some (Kinds (before_last q) (last q)))
    (cond (asks_part q) (Some (Part (last q)))
    (cond (asks_desk_new q) (Some (DeskNew q.values))
    (cond (asks_desk_run q) (Some (DeskRun (before_last q) (last q)))
    (cond (asks_desk_show q) (Some DeskShow) None))))))

-- Whether a line is a run that depends on no request before it; and the steps granted to it, 0 where it is none.
unfoldable pub is_run : Request → Bool
is_run q =
    elim (asked q) [
      | Some (Run budget allowance) ↦ true
      | Some (Kinds budget allowance) ↦ true
      | _ ↦ false
    ]

unfoldable pub granted : Request → ℕ
granted q =
    elim (asked q) [
      | Some (Run budget allowance) ↦ min budget allowance
      | Some (Kinds budget allowance) ↦ min budget allowance
      | _ ↦ 0
    ]

-- Whether a line is a request that depends on none before it.
unfoldable pub is_request : Request → Bool
is_request q =
    elim (asked q) [
      | Some (Check limit) ↦ true
      | Some (Part number) ↦ true
      | _ ↦ is_run q
    ]
