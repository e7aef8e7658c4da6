-- The ledger of the links: no word is lost, doubled or out of its order (docs/MACHINE.md, "The
-- ledger").
-- A promise rests on this.
use Rattle.std.specs.Prelude.{if◌then◌else◌, ◌≡◌, ◌==◌, ◌&&◌, ℕ, Bool, true, false, is_some, List, [], ◌∷◌, ◌++◌, flat_map}
use Rattle.its_records.specs.Item.{Item}
use Rattle.its_records.specs.declared.calls.Pace.TheVariants.{Step}
use Rattle.its_records.specs.declared.session.Event.{Event}
use Rattle.its_records.specs.declared.session.Event.TheVariants as events
use Rattle.its_records.specs.declared.state_line.StateLine.TheVariants as states
use Rattle.its_print.specs.Printing.{Line}
use Rattle.its_plain.specs.Machine.{Machine}
use Rattle.its_plain.specs.Call.Link.{words_in}
use Rattle.its_plain.specs.Call.Step.{moves}
use Rattle.its_plain.specs.Transcript.Course.{Deed, Letter, Moment, Course, run_of}
use Rattle.its_plain.specs.Promise.Ledger.{at_line, is_same}
use Rattle.its_plain.specs.Call.Moves.{Way, Inward, Outward, Device, AtConsole, AtLink, Move}
use Rattle.its_plain.specs.Promise.Stretch.{machine_at, Section, begin_of, end_of}

-- the words of the moves of a moment at a link, one way
abbrev pub is_link : ℕ → Device → Bool
is_link l (AtLink k) = k == l
is_link l (AtConsole c) = false

abbrev pub word_moved : ℕ → Way → Move → List ℕ
word_moved l way v = if is_link l v.device && is_same v.way way then v.byte ∷ [] else []

abbrev pub linked_at : ℕ → Way → Moment → List ℕ
linked_at l way t = linked_doing t.deed
  where
    linked_doing : Deed → List ℕ
    linked_doing (Letter i Step) = flat_map (word_moved l way) (moves t.machine i)
    linked_doing _ = []

-- the words that a line SENT of the state part adds to a link: they were sent in the session that
-- was saved, and not received
abbrev pub sent_by : ℕ → Event → List ℕ
sent_by l (events.Restore (states.Sent k words)) = if k == l then words.items else []
sent_by l _ = []

-- the words that a moment adds to those in a link
abbrev pub put_in_at : ℕ → Moment → List ℕ
put_in_at l t = at_line (sent_by l) t.deed ++ linked_at l Outward t

-- some moments of a run that follow each other, after each of which link l exists. The first of
-- them may be the step, or the line, that makes the link
abbrev pub StandsAfter : ℕ → List Moment → Machine → Type 0
StandsAfter l [] n = Unit {0}
StandsAfter l (t ∷ ts) n = (is_some ((machine_at ts n).links l) ≡ true) × StandsAfter l ts n

pub record LinkStretch (u : Course) (l : ℕ) : Type 0 where
  pub section : Section u
  pub stands : StandsAfter l section.moments (end_of u section)

-- the words that were in the link at the beginning (none, if it is made in the stretch) and those
-- that were moved to it, or were in it in the system that was restored, are those that were moved
-- from it, in their order, and then those that are in it at the end
pub record LinkBalanced (u : Course) (l : ℕ) (x : LinkStretch u l) : Type 0 where
  pub words : words_in ((begin_of u x.section).links l) ++ flat_map (put_in_at l) x.section.moments
      ≡ flat_map (linked_at l Inward) x.section.moments ++ words_in ((end_of u x.section).links l)

pub record LinkLedger (es : List Item) (lines : List Line) : Type 0 where
  pub balanced : (l : ℕ) (x : LinkStretch (run_of es lines) l) → LinkBalanced (run_of es lines) l x
