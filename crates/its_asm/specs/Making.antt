-- Assemblies as the code has them.
-- No promise rests on this.
use Rattle.std.specs.Prelude.{◌≡◌, Result, Err}
use Rattle.its_asm.specs.declared.assembly.Image.{Image}
use Rattle.its_asm.specs.declared.reason.AsmFault.{AsmFault}
use Rattle.its_asm.specs.declared.reason.AsmFault.TheVariants.{Line, NoMemory}
use Rattle.its_asm.specs.Assembly as plain
use Rattle.its_asm.specs.declared.assembly.Assembly.{Assembly}

-- an assembly under way
abbrev pub seen : Assembly → plain.Assembly
seen a = record { layout = a.layout; u = a.u; j = a.j; console = a.console; cells = a.cells; literals = a.literals.keys; start = a.start }

-- a fault of an assembly: its first refused line, or no memory, which may come at any time
abbrev pub IsFault : Result Image AsmFault → AsmFault → Type 0
IsFault r NoMemory = Unit {0}
IsFault r (Line n reason) = r ≡ Err (Line n reason)
