-- What the wait lists hold, in terms of the plain machine (docs/STEPS.md, "Wait lists").
-- No promise rests on this.
use Rattle.std.specs.Prelude.{◌≡◌, ◌<◌, ◌≤◌, ◌↔◌, ◌≢◌, ℕ, Some, List}
use Rattle.its_links.specs.Lists.{list_at, count}
use Rattle.its_frame.specs.declared.decision.Decision.TheVariants.{Waits}
use Rattle.its_frame.specs.declared.decision.Wait.{Wait}
use Rattle.its_frame.specs.declared.frame.Frame.TheVariants as frames
use Rattle.its_frame.specs.declared.frame.Waiting.{Waiting}
use Rattle.its_plain.specs.Call.Step.{decision}
use Rattle.its_plain.specs.Machine.{Whole}
use Rattle.its_plain.specs.Call.Reasons.{reason_in}
use Rattle.its_stepped.specs.State.{State, plain}
use Rattle.its_records.specs.Links.{most_links}
use Rattle.its_plain.specs.Call.Moves.{Device, AtConsole, AtLink}
use Rattle.its_world.specs.WaitLists.{list_for, post_of, awake_head, Within}
use Rattle.its_world.specs.World.{state_of}
use Rattle.its_world.specs.declared.world.World.{World}

-- slot k waits for a reason: its frame is Waiting, and in the plain machine its call is not ready,
-- for this reason
pub record WaitsFor (w : State) (k : ℕ) (r : Wait) : Type 0 where
  pub frame : Waiting
  pub job : Whole
  pub in_frame : w.frames k ≡ Some (frames.Waiting frame)
  pub there : (plain w).jobs k ≡ Some job
  pub waits : decision (plain w) k job frame.ask ≡ Waits r

-- slot k waits at a console or a link, and in the plain machine its call is ready
pub record CanGoOn (w : State) (k : ℕ) (d : Device) : Type 0 where
  pub frame : Waiting
  pub job : Whole
  pub in_frame : w.frames k ≡ Some (frames.Waiting frame)
  pub there : (plain w).jobs k ≡ Some job
  pub reason : Wait
  pub can_wait : reason_in job frame.ask ≡ Some reason
  pub here : post_of reason ≡ Some d
  pub ready : (r : Wait) → decision (plain w) k job frame.ask ≢ Waits r

-- a list holds just the slots of which this holds, each once
pub record HoldsJust (ks : List ℕ) (Holds : ℕ → Type 0) : Type 0 where
  pub once : (k : ℕ) → count k ks ≤ 1
  pub just : (k : ℕ) → (0 < count k ks) ↔ Holds k

-- the wait list of each reason holds exactly the slots that wait for it, the Awake list of each
-- console and of each link exactly those that wait there and can go on, and a slot is on one list
-- at most
pub record WaitListsHold (w : World) : Type 0 where
  pub wait_lists : (r : Wait) → Within r → HoldsJust (list_at w.wait_lists.lists (list_for r)) (λ k. WaitsFor (state_of w) k r)
  pub at_consoles : (c : ℕ) → c < 8 → HoldsJust (list_at w.wait_lists.lists (awake_head (AtConsole c))) (λ k. CanGoOn (state_of w) k (AtConsole c))
  pub at_links : (l : ℕ) → l < most_links → HoldsJust (list_at w.wait_lists.lists (awake_head (AtLink l))) (λ k. CanGoOn (state_of w) k (AtLink l))
  pub one : (k g h : ℕ) → 0 < count k (list_at w.wait_lists.lists g) → 0 < count k (list_at w.wait_lists.lists h) → g ≡ h
