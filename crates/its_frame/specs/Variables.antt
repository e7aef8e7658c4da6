-- The variables of a job by their names (docs/CALLS.md, "Variables").
-- A promise rests on this.
use Rattle.std.specs.Prelude.{if◌then◌else◌, ◌==◌, ℕ, Option, Some, None}
use Rattle.its_frame.specs.declared.variable.Variable.{Variable}
use Rattle.its_frame.specs.declared.variable.Variable.TheVariants.{Uname, Jname, Uind, Suppro, Cnsl, Pages, Upc, Ustp, Pirqc, Ifpir, Mask, Msk2, Df1, Df2}

-- the SIXBIT names of the variables
unfoldable pub variable_named : ℕ → Option Variable
variable_named w =
    if w == 0o655641554500 then Some Uname
    else (if w == 0o525641554500 then Some Jname
    else (if w == 0o655156440000 then Some Uind
    else (if w == 0o636560606257 then Some Suppro
    else (if w == 0o435663540000 then Some Cnsl
    else (if w == 0o604147456300 then Some Pages
    else (if w == 0o656043000000 then Some Upc
    else (if w == 0o656364600000 then Some Ustp
    else (if w == 0o605162614300 then Some Pirqc
    else (if w == 0o514660516200 then Some Ifpir
    else (if w == 0o554163530000 then Some Mask
    else (if w == 0o556353220000 then Some Msk2
    else (if w == 0o444621000000 then Some Df1
    else (if w == 0o444622000000 then Some Df2
    else None)))))))))))))
