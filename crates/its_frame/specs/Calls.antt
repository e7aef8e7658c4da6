-- The calls of the monitor, and what is asked of a call by its name alone (docs/CALLS.md, "The
-- calls").
-- A promise rests on this.
use Rattle.std.specs.Prelude.{◌==◌, ℕ, Bool, true, false, List, [], ◌∷◌, Option, Some, None}
use Rattle.std.specs.List.{find}
use Rattle.its_frame.specs.declared.name.CallName.{CallName}
use Rattle.its_frame.specs.declared.name.CallName.TheVariants.{Hang, Sleep, Dismis, Usrvar, Logout, Open, Close, Iot, Siot, Finish, Listen, Ttylnd, Access, Fillen, Delete, Rename, Usrmem, Uclose, Corblk, Realt}
use Rattle.its_frame.specs.declared.name.CallRow.{CallRow}
use Rattle.its_frame.specs.declared.name.OnFiles.TheVariants.{Never, ByDevice, ByChannel, Always}

-- a call of which nothing is asked but its SIXBIT name, its least and most inputs, and its least
-- and most outputs
abbrev pub takes : ℕ → ℕ → ℕ → ℕ → ℕ → CallRow
takes name least_in most_in least_out most_out = record {
  name = name;
  least_in = least_in;
  most_in = most_in;
  least_out = least_out;
  most_out = most_out;
  waits = false;
  owes = 0;
  reaches = None;
  files = Never;
  shows_a = None;
  shows_b = None;
  reserves = false;
}

-- the table of calls. Beside its name and its arguments: whether the call can be found not ready;
-- how many of its last inputs can be stale in core while it is in progress; the input that names
-- the channel through which it reaches into another job; when it is one on files; the inputs whose
-- words PEEK shows as a and as b; and whether it can reserve a page. `.IOT` has its channel as
-- input and E as output
abbrev pub call_row : CallName → CallRow
call_row Hang = record (takes 0o504156470000 0 1 0 0) { waits = true }
call_row Sleep = record (takes 0o635445456000 1 1 0 0) { waits = true; owes = 1; shows_a = Some 0 }
call_row Dismis = takes 0o445163555163 1 1 0 0
call_row Usrvar = record (takes 0o656362664162 2 3 0 1) { reaches = Some 0 }
call_row Logout = takes 0o545747576564 0 1 0 0
call_row Open = record (takes 0o576045560000 2 5 0 0) { files = ByDevice }
call_row Close = record (takes 0o435457634500 1 1 0 0) { files = ByChannel }
call_row Iot = record (takes 0o515764000000 1 1 1 1) { waits = true; reaches = Some 0; files = ByChannel }
call_row Siot = record (takes 0o635157640000 3 3 0 0) { waits = true; owes = 2; reaches = Some 0; files = ByChannel; shows_a = Some 1; shows_b = Some 2 }
call_row Finish = record (takes 0o465156516350 1 1 0 0) { waits = true }
call_row Listen = record (takes 0o545163644556 1 1 1 1) { waits = true }
call_row Ttylnd = takes 0o646471545644 1 1 0 0
call_row Access = record (takes 0o414343456363 2 2 0 0) { files = Always }
call_row Fillen = record (takes 0o465154544556 1 1 1 1) { files = Always }
call_row Delete = record (takes 0o444554456445 4 4 0 0) { files = Always }
call_row Rename = record (takes 0o624556415545 6 6 0 0) { files = Always }
call_row Usrmem = record (takes 0o656362554555 2 3 0 1) { reaches = Some 0 }
call_row Uclose = record (takes 0o654354576345 1 1 0 0) { reaches = Some 0 }
call_row Corblk = record (takes 0o435762425453 3 3 0 0) { reaches = Some 1; reserves = true }
call_row Realt = takes 0o624541546400 1 1 0 0

abbrev pub calls : List CallName
calls = Hang ∷ Sleep ∷ Dismis ∷ Usrvar ∷ Logout ∷ Open ∷ Close ∷ Iot ∷ Siot ∷ Finish ∷ Listen ∷ Ttylnd ∷ Access ∷ Fillen ∷ Delete ∷ Rename ∷ Usrmem ∷ Uclose ∷ Corblk ∷ Realt ∷ []

-- the SIXBIT name of a call, and the call of a name
unfoldable pub sixbit : CallName → ℕ
sixbit n = (call_row n).name

unfoldable pub call_named : ℕ → Option CallName
call_named w = find (λ n. sixbit n == w) calls

-- whether the call of a name is SIOT
abbrev pub is_siot : Option CallName → Bool
is_siot (Some Siot) = true
is_siot _ = false
