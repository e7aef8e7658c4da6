-- A call whose word is at the PC, with nothing else read on the way, and its site.
-- No promise rests on this.
use Rattle.std.specs.Prelude.{if◌then◌else◌, ◌==◌, ◌&&◌, not, ℕ, Bool, [], ◌∷◌, Option, Some, None, Result, Ok, Err}
use Rattle.its_word.specs.Address.{index_of, is_indirect}
use Rattle.its_word.specs.Core.{Core}
use Rattle.its_word.specs.Opcode.{ac_of}
use Rattle.its_word.specs.Word.{right_of}
use Rattle.its_word.specs.declared.access.Fault.{Fault}
use Rattle.its_word.specs.declared.instruction.Instruction.{Instruction}
use Rattle.its_word.specs.declared.instruction.Instruction.TheVariants.{Iot, Call}
use Rattle.its_records.specs.declared.calls.Site.{Site}
use Rattle.its_plain.specs.Unit.{decoded}
use Rattle.its_plain.specs.Unit.Plans.{read_of}
use Rattle.pdp_exec.specs.declared.near.Near.{Near}

abbrev pub near_site : ℕ → Near → Site
near_site pc n = record { pc = pc; e = n.e; channel = n.channel; used = 0; decode = record { items = pc ∷ [] } }

-- a word whose address is its right half, since its I and X are 0
abbrev pub is_direct : ℕ → Bool
is_direct w = not (is_indirect w) && index_of w == 0

-- the call of a direct word, by its instruction: `.IOT`, whose channel is in its AC field, or
-- `.CALL`, which has no channel. E is its right half
abbrev pub call_by : ℕ → Result Instruction Fault → Option Near
call_by w (Ok Iot) = Some (record { e = right_of w; channel = Some (ac_of w) })
call_by w (Ok Call) = Some (record { e = right_of w; channel = None })
call_by w _ = None

-- the call that a word is, if it is one and direct
abbrev pub call_in : Result ℕ Fault → Option Near
call_in (Ok w) = if is_direct w then call_by w (decoded w) else None
call_in (Err f) = None

-- the call at a PC, if the word there can be read, is direct, and is `.IOT` or `.CALL`
unfoldable pub near_call : Core → ℕ → Option Near
near_call c pc = call_in (read_of c pc)
