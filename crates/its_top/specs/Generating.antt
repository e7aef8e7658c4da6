-- What `its gen N` counts in a generated session, and what it writes of it (docs/SESSION.md, "its
-- gen").
-- No promise rests on this.
use Rattle.std.specs.Prelude.{◌≡◌, ℕ, ◌+◌, Bool, true, false, Result, Ok, List, [], ◌∷◌, ◌++◌, map, length, codes}
use Rattle.its_records.specs.Item.{Item, Read}
use Rattle.its_records.specs.declared.calls.Pace.{Pace}
use Rattle.its_records.specs.declared.calls.Pace.TheVariants as paces
use Rattle.its_records.specs.declared.session.Event.{Event}
use Rattle.its_print.specs.Printing.{Line}
use Rattle.its_print.specs.Printing as printed
use Rattle.its_print.specs.Replies.{FewParts, line_of}
use Rattle.its_session.specs.Generated.{generated_session}
use Rattle.its_plain.specs.Operator.{Block}
use Rattle.its_plain.specs.Transcript.Turns.{highest}
use Rattle.its_stepped.specs.State.{State}
use Rattle.its_stepped.specs.Lines.{told, stepped}
use Rattle.its_top.specs.declared.commands.generating.Tally.{Tally}
use Rattle.its_top.specs.declared.commands.generating.Play.{Play}
use Rattle.its_top.specs.declared.sessions.shown.Over.{Over}
use Rattle.its_top.specs.declared.sessions.shown.Shown.{Shown}
use Rattle.its_top.specs.declared.sessions.shown.Shown.TheVariants as shows
use Rattle.its_top.specs.Answer.{block_of}
use Rattle.its_top.specs.Counts.{count_line}

abbrev pub nothing : Tally
nothing = record { steps = 0; drained = 0 }

abbrev pub plus : Tally → Tally → Tally
plus s t = record { steps = s.steps + t.steps; drained = s.drained + t.drained }

-- how many ticks are marked `*`
abbrev pub mark_of : Pace → ℕ
mark_of paces.Step = 1
mark_of _ = 0

abbrev pub marks : List Pace → ℕ
marks [] = 0
marks (p ∷ ps) = mark_of p + marks ps

-- what a line counts for: the ticks of a T line that are marked, and the bytes of a D line
abbrev pub tally_of : Line → Tally
tally_of (printed.Ticks s ps) = record { steps = marks ps; drained = 0 }
tally_of (printed.Drained c bytes) = record { steps = 0; drained = length bytes }
tally_of _ = nothing

unfoldable pub tally : List Line → Tally
tally [] = nothing
tally (l ∷ ls) = plus (tally_of l) (tally ls)

-- the events of a session, as its items
abbrev pub items_of : List Event → List Item
items_of es = map (λ e. Read e) es

-- the counts of the lines that the generated session of n rounds shows
unfoldable pub generated_tally : ℕ → Tally
generated_tally n = tally (stepped (items_of (generated_session n))).lines

-- three lines: how many lines a session has, how many ticks are marked, and how many bytes were
-- drained
abbrev pub tally_text : Tally → List ℕ
tally_text t = count_line (codes "STEPS") t.steps ++ count_line (codes "DRAINED") t.drained

abbrev pub counts_text : ℕ → Tally → List ℕ
counts_text lines t = count_line (codes "LINES") lines ++ tally_text t

-- those of the generated session of n rounds
unfoldable pub generated_text : ℕ → List ℕ
generated_text n = counts_text (length (generated_session n)) (generated_tally n)

-- what an event counts for, by its result
abbrev pub counted : Result Shown Over → Tally
counted (Ok (shows.Line reply)) = tally_of (line_of reply)
counted _ = nothing

-- a line that is shown has few parts
abbrev pub FewShown : Shown → Type 0
FewShown (shows.Line reply) = FewParts reply
FewShown _ = Unit {0}

-- what is counted so far, with what the events from line number n on count for, is all
abbrev pub LeftOf : Bool → Tally → ℕ → State → Block → List Event → Tally → Type 0
LeftOf true t n v b es all = t ≡ all
LeftOf false t n v b es all = plus t (tally (told n v b highest (items_of es)).lines) ≡ all

pub record PlaySo (play : Play) (n : ℕ) (v : State) (es : List Event) (all : Tally) : Type 0 where
  pub whole : LeftOf play.over play.tally n v (block_of play.progress.slot play.progress.file) es all

-- an event was performed
pub record PlayedOn (old new : Play) (v v' : State) (e : Event) : Type 0 where
  pub on : (n : ℕ) (es : List Event) (all : Tally) → PlaySo old n v (e ∷ es) all → PlaySo new (n + 1) v' es all
