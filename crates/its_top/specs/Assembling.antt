-- The result of `its asm` (docs/ASM.md, "The command").
-- No promise rests on this.
use Rattle.std.specs.Prelude.{◌≡◌, ◌≢◌, ℕ, true, false, Option, IfSome, Result, Ok, Err, List, [], ◌++◌}
use Rattle.std.specs.Io.KnownBytes.{Appends, Consumes}
use Rattle.its_asm.specs.Assembly.{assembly}
use Rattle.its_asm.specs.declared.assembly.Image.{Image}
use Rattle.its_asm.specs.declared.reason.AsmFault.{AsmFault}
use Rattle.its_asm.specs.declared.reason.AsmFault.TheVariants.{Line}
use Rattle.its_asm.specs.declared.reason.AsmFault.TheVariants as faults
use Rattle.its_reader.specs.Limits.{WithinLimits}
use Rattle.its_asm_command.specs.Past.{runs_past}
use Rattle.its_asm_command.specs.Written.{assembly_text}
use Rattle.its_asm_command.specs.Made.{IsRefusal, IsSession}
use Rattle.its_top.specs.declared.commands.status.Status.{Status}
use Rattle.its_top.specs.declared.commands.status.Status.TheVariants as statuses

-- an assembly of the text of these bytes, of which some were read, has this status, and wrote w. If
-- the source failed, the bytes that were read decide nothing. Want of memory does not hide that the
-- text is too long
abbrev pub AsmOf : Status → List ℕ → List ℕ → List ℕ → Type 0
AsmOf statuses.Done bytes read w = (runs_past bytes ≡ false) × IsSession (assembly bytes) w × (read ≡ bytes)
AsmOf statuses.Refused bytes read w = (runs_past bytes ≡ false) × IsRefusal (assembly bytes) w
AsmOf statuses.TooLong bytes read w = (runs_past bytes ≡ true) × (w ≡ [])
AsmOf statuses.WriteFault bytes read w = (runs_past bytes ≡ false) × ((more : List ℕ) × (assembly_text (assembly bytes) ≡ w ++ more))
AsmOf statuses.ReadFault bytes read w = WithinLimits read × (w ≡ [])
AsmOf statuses.NoMemory bytes read w = (runs_past bytes ≡ false) × (w ≡ [])
AsmOf statuses.Usage bytes read w = ⊥

-- how an assembly ended, from what its source had left and has left now, and from what its sink was
-- given. If memory was refused, nothing was written
pub record Asm (status : Status) (left rest old new : Option (List ℕ)) : Type 0 where
  pub read : List ℕ
  pub wrote : List ℕ
  pub consumed : Consumes left rest read
  pub appended : Appends old new wrote
  pub ran : status ≢ statuses.Usage
  pub found : IfSome left (λ bytes. AsmOf status bytes read wrote)
  pub unwritten : status ≡ statuses.NoMemory → new ≡ old

-- the answer to a text that is assembled to this
abbrev pub answer_to : Result Image AsmFault → Status
answer_to (Ok i) = statuses.Done
answer_to (Err (Line n reason)) = statuses.Refused
answer_to (Err faults.NoMemory) = statuses.NoMemory
