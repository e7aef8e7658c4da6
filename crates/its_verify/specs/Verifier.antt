-- A verifier: a judge and the lines of a transcript together, along a session.
-- No promise rests on this.
use Rattle.std.specs.Prelude.{◌≡◌, ◌-◌, ℕ, false, Option, Some, None, Result, Ok, Err, List}
use Rattle.its_io.specs.declared.stream.Failed.{Failed}
use Rattle.its_records.specs.declared.session.Event.{Event}
use Rattle.its_records.specs.declared.session.Event.TheVariants as events
use Rattle.its_plain.specs.Operator.{Block}
use Rattle.its_plain.specs.Transcript.{Walk}
use Rattle.its_direct.specs.declared.plain.Spot.{Spot}
use Rattle.its_direct.specs.declared.plain.Spot.TheVariants as spots
use Rattle.its_verify.specs.TranscriptReader.{Failing, Forward, PassesOn, AtLine, Says}
use Rattle.its_verify.specs.Rulings.{Ruling, led, turned}
use Rattle.its_verify.specs.Letters.{ticked}
use Rattle.its_verify.specs.Sources.{IsTold}
use Rattle.its_verify.specs.JudgeState.{Sure, walk_of}
use Rattle.its_verify.specs.declared.outcome.Outcome.{Outcome}
use Rattle.its_verify.specs.declared.verifier.Verifier.{Verifier}

-- between two lines of a session
pub record AtItem (t : Verifier) (left : Option (List ℕ)) : Type 0 where
  pub at_line : AtLine t.reader left
  pub sure : Sure t.judge
  pub going : t.judge.ended ≡ false

-- if it goes on, all holds together
abbrev pub StaysAtItem : Result (Option Outcome) Failed → Verifier → Option (List ℕ) → Type 0
StaysAtItem (Ok None) new rest = AtItem new rest
StaysAtItem (Ok (Some f)) new rest = Unit {0}
StaysAtItem (Err e) new rest = Unit {0}

-- the turns of a RUN line are made outside any block of lines
abbrev pub RunsOutside : Event → Spot → Type 0
RunsOutside (events.Run n q) x = x ≡ spots.Plain
RunsOutside _ x = Unit {0}

-- a `T` line of so many letters of a slot led on, or all is said
abbrev pub TicksSay : Result (Option Outcome) Failed → Verifier → Verifier → Option (List ℕ) → Option (List ℕ) → ℕ → ℕ → Type 0
TicksSay (Ok o) old new left rest i k =
    (b : Block) (n : ℕ) (next : Walk → Ruling)
    → Says (Ok o) old.reader new.reader left rest (led (ticked (walk_of old.judge b n) i k) next) (next (walk_of new.judge b n))
TicksSay (Err e) old new left rest i k =
    (b : Block) (n : ℕ) (next : Walk → Ruling)
    → ((w : Walk) → Forward (next w)) → IsTold left → Failing old.reader left rest (led (ticked (walk_of old.judge b n) i k) next)

-- so many turns, each of q letters, led on, or all is said
abbrev pub TurnsSay : Result (Option Outcome) Failed → Verifier → Verifier → Option (List ℕ) → Option (List ℕ) → ℕ → ℕ → Type 0
TurnsSay (Ok o) old new left rest n q =
    (b : Block) (l : ℕ) (next : Walk → ℕ → Ruling)
    → Says (Ok o) old.reader new.reader left rest (turned n q (walk_of old.judge b l) old.last next) (next (walk_of new.judge b l) new.last)
TurnsSay (Err e) old new left rest n q =
    (b : Block) (l : ℕ) (next : Walk → ℕ → Ruling)
    → ((w : Walk) (s : ℕ) → Forward (next w s)) → IsTold left → Failing old.reader left rest (turned n q (walk_of old.judge b l) old.last next)

-- k of n turns were made, and the others are still to come
abbrev pub TurnsSo : Verifier → Verifier → ℕ → ℕ → ℕ → Option (List ℕ) → Option (List ℕ) → Type 0
TurnsSo old now n k q left rest =
    (b : Block) (l : ℕ) (next : Walk → ℕ → Ruling)
    → PassesOn old.reader now.reader left rest (turned n q (walk_of old.judge b l) old.last next)
    (turned (n - k) q (walk_of now.judge b l) now.last next)
