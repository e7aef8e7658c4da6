-- The unit: one instruction, one word of BLT, or one half of ILDB or IDPB (processor reference
-- manual, "User operations"; docs/MACHINE.md, "Instructions").
-- A promise rests on this.
pub mod Plans
pub mod Trace
pub mod Moves
pub mod Arith
pub mod Jumps
pub mod Tests
pub mod Bytes
pub mod Interrupt
use Rattle.std.specs.Prelude.{if◌then◌else◌, ◌==◌, ◌||◌, ℕ, zero, suc, ◌+◌, ◌%◌, ◌^◌, Bool, true, false, List, [], Option, Some, None, Result, Ok, Err, nat_lt}
use Rattle.its_word.specs.Core.{Core}
use Rattle.its_word.specs.Stores.{first_fault, stored}
use Rattle.its_word.specs.Limits.{budget}
use Rattle.its_word.specs.Opcode.{opcode_of, ac_of, instruction_of}
use Rattle.its_word.specs.declared.access.Address.{Address}
use Rattle.its_word.specs.declared.access.Fault.{Fault}
use Rattle.its_word.specs.declared.access.Fault.TheVariants.{Ilo}
use Rattle.its_records.specs.declared.calls.Site.{Site}
use Rattle.its_records.specs.declared.jobs.Job.{Job}
use Rattle.its_word.specs.declared.instruction.BranchOp.TheVariants.{Jrst}
use Rattle.its_word.specs.declared.instruction.Instruction.{Instruction}
use Rattle.its_word.specs.declared.instruction.Instruction.TheVariants.{Move, Exch, Arithmetic, Shift, Branch, Xct, Stack, Compare, Boolean, Half, Test, Byte, Iot, Call, Break, Illegal}
use Rattle.its_word.specs.declared.plan.Context.{Context}
use Rattle.its_word.specs.declared.plan.Plan.{Plan}
use Rattle.its_word.specs.declared.plan.Reached.{Reached}
use Rattle.its_word.specs.declared.plan.ChainStep.{ChainStep}
use Rattle.its_word.specs.declared.plan.ChainStep.TheVariants.{Found, Target}
use Rattle.its_plain.specs.Machine.Registers.{BRK, named_flags, with_pending}
use Rattle.its_plain.specs.Unit.Plans.{Planned, next}
use Rattle.its_plain.specs.Unit.Trace.{Traced, plainly, gives, faults, also, word, located}
use Rattle.its_plain.specs.Unit.Moves.{move_row, exch_row, half_row}
use Rattle.its_plain.specs.Unit.Arith.{arithmetic_row, shift_row, boolean_row}
use Rattle.its_plain.specs.Unit.Jumps.{branch_row, stack_row}
use Rattle.its_plain.specs.Unit.Tests.{compare_row, test_row}
use Rattle.its_plain.specs.Unit.Bytes.{byte_row}

-- the result of a unit: the core and the registers after it; a fault, which leaves no part of it
-- done; or a call of the monitor
pub data Outcome : Type 0 where
  Changed : Core → Job → Outcome
  Faulted : Fault → Outcome
  Called : Site → Outcome

-- whether an instruction is in the tables with this A; any other is ILO, and its E is not looked at
abbrev pub has_row : Instruction → ℕ → Bool
has_row (Branch Jrst) a = a == 0 || a == 2
has_row Call a = a == 0
has_row Break a = a == 0o16
has_row Illegal a = false
has_row _ a = true

-- the instruction of a word
unfoldable pub decoded : ℕ → Result Instruction Fault
decoded w = if has_row (instruction_of (opcode_of w)) (ac_of w) then Ok (instruction_of (opcode_of w)) else Err Ilo

-- what the row of an instruction word finds, with its address and so much of the budget used
abbrev pub context_of : Job → ℕ → Address → ℕ → Context
context_of j w e used = record {
  pc = j.pc;
  flags = j.flags;
  a = ac_of w;
  e = e.e;
  flags_word = e.flags_word;
  used = used;
}

-- the target of an XCT, which counts against the budget; if nothing is left of the budget, that is
-- ILO
unfoldable pub target_of : Core → Context → Traced ChainStep
target_of c x = if nat_lt x.used budget then also (word c x.e) (λ w. gives (Target w (x.used + 1))) else faults Ilo

-- 256 XCT goes on with the word at E; A is not used. Any other instruction is found
unfoldable pub chain_step_at : Core → Instruction → Context → Traced ChainStep
chain_step_at c Xct x = target_of c x
chain_step_at c i x = gives (Found (record { instruction = i; context = x }))

-- an instruction word that is reached with so much of the budget used
unfoldable pub chain_step : Core → Job → ℕ → ℕ → Traced ChainStep
chain_step c j w used =
    also (plainly (decoded w)) (λ i. also (located c w used) (λ f. chain_step_at c i (context_of j w f.at f.used)))

abbrev pub followed : (ℕ → ℕ → Traced Reached) → ChainStep → Traced Reached
followed rest (Found r) = gives r
followed rest (Target w used) = rest w used

-- the instruction of a word, or at the end of its chain of fewer than n XCTs. PC is that of the
-- first
unfoldable pub chain : ℕ → Core → Job → ℕ → ℕ → Traced Reached
chain zero c j w used = faults Ilo
chain (suc n) c j w used = also (chain_step c j w used) (λ t. followed (λ v k. chain n c j v k) t)

-- the instruction of a job, which is fetched at its PC
unfoldable pub reached : Core → Job → Traced Reached
reached c j = also (word c j.pc) (λ w. chain (budget + 1) c j w 0)

-- 045 .BREAK 16, sets BRK
unfoldable pub break_row : Context → Planned
break_row x = Ok (record (next x [] 0) { pending = BRK })

-- the row of an instruction
unfoldable pub row_of : Core → Context → Instruction → Planned
row_of c x (Move op m) = move_row c x op m
row_of c x Exch = exch_row c x
row_of c x (Arithmetic op m) = arithmetic_row c x op m
row_of c x (Shift op) = shift_row c x op
row_of c x (Branch op) = branch_row c x op
row_of c x (Stack op) = stack_row c x op
row_of c x (Compare op k) = compare_row c x op k
row_of c x (Boolean k m) = boolean_row c x k m
row_of c x (Half k m) = half_row c x k m
row_of c x (Test m k change) = test_row c x m k change
row_of c x (Byte op) = byte_row c x op
row_of c x Break = break_row x
row_of c x Xct = Err Ilo
row_of c x Iot = Err Ilo
row_of c x Call = Err Ilo
row_of c x Illegal = Err Ilo

-- the registers after a plan: PC has 18 bits, and of the flags only the named ones are kept
abbrev pub after_plan : Job → Plan → Job
after_plan j p = with_pending (record j { pc = p.pc % 2 ^ 18; flags = named_flags p.flags }) p.pending

-- all stores are checked before any is made
abbrev pub made : Core → Job → Plan → Option Fault → Outcome
made c j p None = Changed (stored c p.stores.items) (after_plan j p)
made c j p (Some f) = Faulted f

abbrev pub outcome_of : Core → Job → Planned → Outcome
outcome_of c j (Ok p) = made c j p (first_fault c p.stores.items)
outcome_of c j (Err f) = Faulted f

-- the place of a call of the monitor, with the places of the words that were read to reach it. PC
-- is that of the call, or of the XCT that began the chain
abbrev pub site_of : Context → Option ℕ → List ℕ → Site
site_of x channel reads = record {
  pc = x.pc;
  e = x.e;
  channel = channel;
  used = x.used;
  decode = record { items = reads };
}

-- 040 `.IOT` with its channel in A, and 043 `.CALL`, call the monitor; any other instruction does
-- what its row plans
unfoldable pub done_by : Core → Job → List ℕ → Context → Instruction → Outcome
done_by c j reads x Iot = Called (site_of x (Some x.a) reads)
done_by c j reads x Call = Called (site_of x None reads)
done_by c j reads x i = outcome_of c j (row_of c x i)

abbrev pub outcome_at : Core → Job → List ℕ → Result Reached Fault → Outcome
outcome_at c j reads (Ok r) = done_by c j reads r.context r.instruction
outcome_at c j reads (Err f) = Faulted f

-- the unit of a job
unfoldable pub unit : Core → Job → Outcome
unit c j = outcome_at c j (reached c j).reads (reached c j).answer
