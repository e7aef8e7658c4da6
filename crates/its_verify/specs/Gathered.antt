-- Letters that are led together.
-- No promise rests on this.
use Rattle.std.specs.Prelude.{◌≡◌, ◌+◌, ◌^◌, ℕ, Option, None, List, [], ◌∷◌, ◌++◌, replicate, nat_le, nat_lt}
use Rattle.std.specs.Option.{option_map_or}
use Rattle.its_records.specs.declared.calls.Pace.{Pace}
use Rattle.its_records.specs.declared.calls.Pace.TheVariants.{Step, Work}
use Rattle.its_print.specs.declared.runs.Run.{Run}
use Rattle.its_print.specs.Runs.{paces_in}
use Rattle.its_plain.specs.Transcript.Licence.{most_dots}
use Rattle.its_plain.specs.Transcript.{Walk}
use Rattle.its_verify.specs.Letters.{if_so, paced}
use Rattle.its_verify.specs.declared.gathered.Gathered.{Gathered}

-- one run, with nothing after it
abbrev pub only_run : Run → Gathered
only_run r = record { run = r; dots = 0 }

-- a `*` and so many more are one run, if the number of those after the first fits in 32 bits
abbrev pub starred : ℕ → Option Gathered
starred more = if_so (nat_lt more (2 ^ 32)) (only_run (record { pace = Step; more = more }))

-- a run and so many `.` after it, if so many may come in a row
abbrev pub dotted : Run → ℕ → Option Gathered
dotted r dots = if_so (nat_le dots most_dots) (record { run = r; dots = dots })

-- what was gathered with one more run, if that may be led with it, by the letters of both: `*` and
-- `*`, or `*` and `.`. The `.` between two `*` are left out: they are licensed if the `*` after
-- them is, which sets their count to 0
abbrev pub joined_by : Pace → Pace → Gathered → ℕ → Option Gathered
joined_by Step Step g more = starred (g.run.more + more + 1)
joined_by Step Work g more = dotted g.run (g.dots + more + 1)
joined_by p q g more = None

abbrev pub joined : Gathered → Run → Option Gathered
joined g r = joined_by g.run.pace r.pace g r.more

-- what was gathered with as many more runs as may be led with it, one after another, and the runs
-- that are left
abbrev pub gathered_by : Gathered → List Run → Gathered × List Run
gathered_by g [] = (g, [])
gathered_by g (r ∷ rs) = option_map_or (λ h. gathered_by h rs) (joined g r) (g, r ∷ rs)

-- the letters of a run
abbrev pub letters_in : Run → List Pace
letters_in r = r.pace ∷ replicate r.more r.pace

-- the letters that were gathered
abbrev pub letters_of : Gathered → List Pace
letters_of g = letters_in g.run ++ replicate g.dots Work

-- what was gathered and the runs that are left lead to the same as a run with all that come after
-- it
abbrev pub Begins : Run → List Run → Gathered → List Run → Type 0
Begins first behind g rest = (v : Walk) (i : ℕ) → paced v i (paces_in (first ∷ behind)) ≡ paced v i (letters_of g ++ paces_in rest)
