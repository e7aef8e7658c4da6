-- The result of a text, from the lines that were kept.
use Rattle.std.specs.Prelude.{◌≡◌, ℕ, Option, Some, None, IfSome, Result, Ok, Err, List}
use Rattle.std.proofs.Common.{sym, subst}
use Rattle.arrayvec.specs.ArrayVec.{ArrayVec}
use Rattle.std.specs.Global.{Vec}
use Rattle.its_asm.specs.Assembly.{assembly}
use Rattle.its_asm.specs.Making.{IsFault}
use Rattle.its_asm.specs.declared.assembly.Image.{Image}
use Rattle.its_asm.specs.declared.reason.AsmFault.{AsmFault}
use Rattle.its_asm.specs.declared.reason.AsmFault.TheVariants.{Line}
use Rattle.its_asm.specs.declared.reason.AsmReason.{AsmReason}
use Rattle.its_asm_command.specs.declared.source.Made.{Made}
use Rattle.its_asm_command.specs.declared.source.Made.TheVariants as mades
use Rattle.its_asm_command.specs.declared.source.Unmade.{Unmade}
use Rattle.its_asm_command.specs.declared.source.Unmade.TheVariants as unmades
use Rattle.its_asm_command.specs.declared.text.Unread.TheVariants as unreads
use Rattle.its_asm_command.specs.Text.{Assembles, Gathered, StandsFor}
use Rattle.its_asm_command.specs.Made.{MadeFrom, EndsOf, IsSession, IsSessionOf, IsRefusal, MakesOf}
use Rattle.its_asm_command.specs.Written.{fault_line}

assembles : (r : Result Image AsmFault) (text : List ℕ) → IsSession r text → Assembles r
assembles (Ok i) text s = tt
assembles (Err e) text s = s

-- from the text that was kept to the bytes of the source
ends_by : (m : Result Made Unmade) (bytes text read : List ℕ) → MakesOf m (assembly text) → StandsFor (Ok tt) bytes text read → EndsOf m bytes read
ends_by (Ok (mades.Session t)) bytes text read m s =
    let session = subst (λ r. IsSession r t.items) s.1 m in (s.0, session, s.2 (assembles (assembly bytes) t.items session))
ends_by (Ok (mades.Refusal l)) bytes text read m s = (s.0, subst (λ r. IsRefusal r l.items) s.1 m)
ends_by (Err unmades.Failed) bytes text read m s = absurd m
ends_by (Err unmades.TooLong) bytes text read m s = absurd m
ends_by (Err unmades.NoMemory) bytes text read m s = s.0

if_then : (left : Option (List ℕ)) (P Q : List ℕ → Type 0) → ((b : List ℕ) → P b → Q b) → IfSome left P → IfSome left Q
if_then None P Q f h = tt
if_then (Some b) P Q f h = f b h

pub ends_made : (m : Result Made Unmade) (text : List ℕ) (left rest : Option (List ℕ)) → Gathered (Ok tt) text left rest
    → MakesOf m (assembly text) → MadeFrom m left rest
ends_made m text left rest g k = record { read = g.read; consumed = g.consumed; ends = if_then left _ _ (λ b s. ends_by m b text g.read k s) g.stands }

pub ends_failed : (text : List ℕ) (left rest : Option (List ℕ)) → Gathered (Err unreads.Failed) text left rest → MadeFrom (Err unmades.Failed) left rest
ends_failed text left rest g = record { read = g.read; consumed = g.consumed; ends = if_then left _ _ (λ b s. s) g.stands }

pub ends_beyond : (text : List ℕ) (left rest : Option (List ℕ)) → Gathered (Err unreads.TooLong) text left rest → MadeFrom (Err unmades.TooLong) left rest
ends_beyond text left rest g = record { read = g.read; consumed = g.consumed; ends = if_then left _ _ (λ b s. s) g.stands }

pub ends_refused : (text : List ℕ) (left rest : Option (List ℕ)) → Gathered (Err unreads.NoMemory) text left rest → MadeFrom (Err unmades.NoMemory) left rest
ends_refused text left rest g = record { read = g.read; consumed = g.consumed; ends = if_then left _ _ (λ b s. s) g.stands }

-- what is made of an assembly
pub makes_session : (i : Image) (t : Vec ℕ) (r : Result Image AsmFault) → r ≡ Ok i → IsSessionOf i t.items → MakesOf (Ok (mades.Session t)) r
makes_session i t r e s = subst (λ x. IsSession x t.items) (sym e) s

pub makes_refusal : (n : ℕ) (reason : AsmReason) (l : ArrayVec ℕ) (r : Result Image AsmFault) → IsFault r (Line n reason)
    → l.items ≡ fault_line n reason → MakesOf (Ok (mades.Refusal l)) r
makes_refusal n reason l r e s = subst (λ x. IsRefusal x l.items) (sym e) s

pub makes_nothing : (r : Result Image AsmFault) → MakesOf (Err unmades.NoMemory) r
makes_nothing r = tt
