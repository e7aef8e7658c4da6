-- The ranges that the tables need of what is reached, and which instructions are calls or lead on.
-- No promise rests on this.
use Rattle.std.specs.Prelude.{◌≡◌, ◌≤◌, ◌+◌, ◌*◌, ℕ, Bool, true, false}
use Rattle.its_word.specs.Core.{Core}
use Rattle.its_word.specs.Limits.{budget}
use Rattle.its_word.specs.Opcode.{IsRow, instruction_of}
use Rattle.its_word.specs.declared.instruction.Instruction.{Instruction}
use Rattle.its_word.specs.declared.instruction.Instruction.TheVariants.{Xct, Iot, Call}
use Rattle.its_records.specs.declared.jobs.Job.{Job}
use Rattle.its_word.specs.declared.plan.Context.{Context}
use Rattle.its_word.specs.declared.plan.ChainStep.{ChainStep}
use Rattle.its_word.specs.declared.plan.ChainStep.TheVariants.{Found, Target}
use Rattle.its_plain.specs.Unit.{has_row, outcome_of, row_of, unit}
use Rattle.its_plain.specs.Unit.Plans.{ContextFits}
use Rattle.pdp_exec.specs.Answer.{IsCalled}

-- an instruction with the numbers of its row and of its context, or a word with some of the budget
-- used
abbrev pub IsReady : ChainStep → Type 0
IsReady (Found r) = IsRow r.instruction × ContextFits r.context
IsReady (Target w used) = used ≤ budget

-- so many places were read at most, by what is used of the budget
abbrev pub HasFew : ℕ → ChainStep → Type 0
HasFew n (Found r) = n ≤ 2 * r.context.used + 2
HasFew n (Target w used) = n ≤ 2 * used + 1

-- the calls of the monitor
abbrev pub is_call : Instruction → Bool
is_call Iot = true
is_call Call = true
is_call _ = false

-- XCT leads to another word
abbrev pub leads_on : Instruction → Bool
leads_on Xct = true
leads_on _ = false

-- the word at the PC of a job has this opcode, and its row finds this: so its unit does what the
-- row of the opcode plans, if that is no call and leads to no other word; and it is a call if its
-- row is one
pub record Stands (c : Core) (j : Job) (opcode : ℕ) (x : Context) : Type 0 where
  pub does : (i : Instruction) → instruction_of opcode ≡ i → has_row i x.a ≡ true → leads_on i ≡ false → is_call i ≡ false → outcome_of c j (row_of c x i) ≡ unit c j
  pub calls : (i : Instruction) → instruction_of opcode ≡ i → has_row i x.a ≡ true → leads_on i ≡ false → is_call i ≡ true → IsCalled (unit c j)
