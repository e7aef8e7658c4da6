-- What has to hold of a decision that is carried out, and of the frame of its call.
-- No promise rests on this.
use Rattle.std.specs.Prelude.{◌≡◌, ◌≤◌, ◌+◌, ℕ, Bool, true, false, Option, Some, None, length}
use Rattle.its_frame.specs.Left.{kept}
use Rattle.its_frame.specs.declared.change.Change.TheVariants.{Remove}
use Rattle.its_frame.specs.declared.decision.Decision.{Decision}
use Rattle.its_frame.specs.declared.decision.Decision.TheVariants.{Waits, Goes, Ends, Gone}
use Rattle.its_frame.specs.declared.decision.Held.{Held}
use Rattle.its_frame.specs.declared.frame.Frame.{Frame}
use Rattle.its_frame.specs.declared.frame.Frame.TheVariants as frames
use Rattle.its_frame.specs.declared.frame.Holding.{Holding}
use Rattle.its_plain.specs.Call.Arguments.{debts}
use Rattle.its_plain.specs.Call.Decide.{call_named}
use Rattle.its_records.specs.declared.calls.Ask.{Ask}
use Rattle.its_records.specs.declared.calls.Pace.{Pace}
use Rattle.its_records.specs.declared.calls.Pace.TheVariants.{Step, Wait}
use Rattle.its_stepped.specs.Commit.{effect_on, effects_on, owed_parts, sleeps}
use Rattle.its_stepped.specs.State.{State}
use Rattle.its_in_call.specs.declared.call.Next.{Next}
use Rattle.its_in_call.specs.declared.call.Next.TheVariants as next
use Rattle.its_commit.specs.Built.{CanMakeAll, Removable}

-- the call of a frame from which it can be committed; a call that waits holds no page
abbrev pub standing_of : Option Frame → Option Holding
standing_of (Some (frames.Holding f)) = Some f
standing_of (Some (frames.Waiting f)) = Some (record { site = f.site; ask = f.ask; page = None; owes = f.owes })
standing_of _ = None

-- there is room in its frame for what is pending of a call that ends, after its changes
pub record Endable (w : State) (s : ℕ) (f : Holding) (stores : ℕ) : Type 0 where
  pub read : length (debts f.ask f.owes) ≡ f.owes
  pub few : length (owed_parts w.mark s) + kept (w.reserved s) + f.owes + stores ≤ 3

-- the changes can be made, and the rest can be done
abbrev pub CanCommit : State → ℕ → Holding → Decision → Type 0
CanCommit w s f (Waits r) = Unit {0}
CanCommit w s f (Goes cs h vs) = CanMakeAll cs.items s w
CanCommit w s f (Ends cs ss e) = CanMakeAll cs.items s w × Endable (effects_on cs.items s w) s f (length ss.items)
CanCommit w s f (Gone cs) = CanMakeAll cs.items s (effect_on (Remove s) s w) × Removable w s

-- the next stage of a call of which a part is done
abbrev pub next_stays : Bool → ℕ → Next
next_stays true n = next.Waiting n
next_stays false n = next.Holding None n

abbrev pub next_of : Ask → ℕ → Option Held → Next
next_of a n (Some h) = next.Moving h
next_of a n None = next_stays (sleeps (call_named a.name)) n

abbrev pub awake_next : ℕ → Option Held → Next
awake_next n (Some h) = next.Moving h
awake_next n None = next.Holding None n

-- the letter of a trial with this decision
abbrev pub pace_of : Decision → Pace
pace_of (Waits r) = Wait
pace_of (Goes cs h vs) = Step
pace_of (Ends cs ss e) = Step
pace_of (Gone cs) = Step
