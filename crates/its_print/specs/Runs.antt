-- The letters of ticks, as runs.
-- No promise rests on this.
use Rattle.std.specs.Prelude.{List, [], ◌∷◌, ◌++◌, replicate}
use Rattle.its_records.specs.declared.calls.Pace.{Pace}
use Rattle.its_print.specs.declared.runs.Run.{Run}

-- the letters of runs, one after another
abbrev pub paces_in : List Run → List Pace
paces_in [] = []
paces_in (r ∷ rs) = r.pace ∷ (replicate r.more r.pace ++ paces_in rs)
