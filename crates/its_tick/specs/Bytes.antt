-- Bytes that SIOT moves, each by one tick.
-- No promise rests on this.
use Rattle.std.specs.Prelude.{◌≡◌, ◌&&◌, ◌<◌, ℕ, Bool, true, false, not, Option, Some, None, IfSome, is_none, is_some, replicate}
use Rattle.its_frame.specs.declared.frame.Frame.{Frame}
use Rattle.its_frame.specs.declared.frame.Frame.TheVariants as frames
use Rattle.its_frame.specs.declared.frame.Holding.{Holding}
use Rattle.its_jobs.specs.Table.{job_at}
use Rattle.its_plain.specs.Machine.{Whole}
use Rattle.its_records.specs.declared.jobs.Job.{Job}
use Rattle.its_commit.specs.Carried.{standing_of}
use Rattle.call_core.specs.Parts.{asks_siot, next_part}
use Rattle.its_records.specs.declared.calls.Pace.TheVariants.{Step}
use Rattle.its_stepped.specs.Lines.{paces_of, after_ticks}
use Rattle.its_stepped.specs.Tick.{tick, tick_in}
use Rattle.its_world.specs.Tidy.{Tidy}
use Rattle.its_world.specs.World.{state_of, call_in, raw_in}
use Rattle.its_world.specs.declared.world.World.{World}
use Rattle.its_tick.specs.Kept.{Kept}
use Rattle.its_tick.specs.Pages.{pages_in}
use Rattle.its_tick.specs.Ticks.{ticked}

-- the tick of the call of slot s keeps the frames of pages
abbrev pub Still : World → ℕ → Type 0
Still w s = IfSome (raw_in w s) (λ q. pages_in (state_of w) s q (call_in w s) w.core.frames ≡ w.core.frames)

-- a call that is held without a page is SIOT, and its decoding gave no error
abbrev pub holds_byte : Option Frame → Bool
holds_byte (Some (frames.Holding f)) = is_none f.page && asks_siot f.ask
holds_byte _ = false

-- the call of slot s has a part that is done next
abbrev pub has_part : World → ℕ → Option Holding → Option Whole → Bool
has_part w s (Some f) (Some q) = is_some (next_part w.files.mark (state_of w).raw s q f.ask)
has_part w s _ _ = false

abbrev pub part_due : World → ℕ → Bool
part_due w s = has_part w s (standing_of (call_in w s)) (raw_in w s)

-- the next tick of slot s moves a byte of SIOT by one change: its job runs, and such a call has
-- such a part
abbrev pub byte_due_of : World → ℕ → Option Job → Bool
byte_due_of w s (Some j) = not j.stopped && (holds_byte (call_in w s) && part_due w s)
byte_due_of w s None = false

abbrev pub byte_due : World → ℕ → Bool
byte_due w s = byte_due_of w s (job_at w.jobs s)

-- a byte is moved, as by a tick of a call
pub record Carried (old new : World) (s : ℕ) : Type 0 where
  pub row : IfSome (raw_in old s) (λ q. tick_in (state_of old) s q (call_in old s) ≡ ticked (state_of new) Step)
  pub frame : is_some (call_in new s) ≡ true
  pub pages : new.core.frames ≡ old.core.frames
  pub still : Still old s
  pub tidy : Tidy new

abbrev pub CarriedIf : Bool → World → World → ℕ → Type 0
CarriedIf true old new s = Carried old new s
CarriedIf false old new s = new ≡ old

-- a byte is moved, by a tick of slot s
pub record ByteMade (old new : World) (s : ℕ) : Type 0 where
  pub row : tick (state_of old) s ≡ ticked (state_of new) Step
  pub frame : is_some (call_in new s) ≡ true
  pub pages : new.core.frames ≡ old.core.frames
  pub still : Still old s
  pub kept : Kept new

abbrev pub ByteMadeIf : Bool → World → World → ℕ → Type 0
ByteMadeIf true old new s = ByteMade old new s
ByteMadeIf false old new s = new ≡ old

-- n bytes are moved, by n ticks of slot s
pub record BytesMade (old new : World) (s n : ℕ) : Type 0 where
  pub state : state_of new ≡ after_ticks (state_of old) s n
  pub paces : paces_of (state_of old) s n ≡ replicate n Step
  pub frame : is_some (call_in new s) ≡ true
  pub pages : new.core.frames ≡ old.core.frames
  pub still : 0 < n → Still old s
  pub kept : Kept new
  pub same : n ≡ 0 → new ≡ old
