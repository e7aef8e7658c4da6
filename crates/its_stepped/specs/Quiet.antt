-- When a change of a call in progress is the same on the stepped machine and on the plain one: what
-- it reaches has nothing pending, no close is half made if it looks at the directory, and a page of
-- zeros that it makes is the caller's reserved one (docs/STEPS.md, "Commit").
-- No promise rests on this.
use Rattle.std.specs.Prelude.{◌≡◌, ◌≢◌, ℕ, true, Option, Some, None, List, [], ◌∷◌}
use Rattle.its_frame.specs.declared.change.Change.{Change}
use Rattle.its_frame.specs.declared.change.Change.TheVariants as changes
use Rattle.its_frame.specs.declared.frame.Frame.{Frame}
use Rattle.its_frame.specs.declared.frame.Frame.TheVariants.{Entered, Parsed, Asked, Holding, Waiting, Moving, Ending}
use Rattle.its_plain.specs.Machine.Change.{superiors, is_gone}
use Rattle.its_stepped.specs.State.{State}
use Rattle.its_stepped.specs.Commit.{effect_on}
use Rattle.its_stepped.specs.Tick.{quarters}

-- a frame with no pending word: the job is the raw one
abbrev pub IsStill : Option Frame → Type 0
IsStill None = Unit {0}
IsStill (Some (Entered f)) = Unit {0}
IsStill (Some (Parsed f)) = Unit {0}
IsStill (Some (Asked f)) = Unit {0}
IsStill (Some (Holding f)) = f.owes ≡ 0
IsStill (Some (Waiting f)) = f.owes ≡ 0
IsStill (Some (Moving f)) = ⊥
IsStill (Some (Ending f)) = ⊥

-- a job that the call of slot j reaches: it has nothing pending, and another one than the caller is
-- in user mode
pub record Reached (w : State) (j s : ℕ) : Type 0 where
  pub still : IsStill (w.frames s)
  pub other : s ≢ j → w.frames s ≡ None

-- a page can be made for a job that the call of slot j reaches: all quarters of the page that slot
-- j has reserved are clear
pub record MakesPage (w : State) (j s : ℕ) : Type 0 where
  pub reached : Reached w j s
  pub page : w.reserved j ≡ Some quarters

abbrev pub Quiet : Change → ℕ → State → Type 0
Quiet (changes.Open n on) j w = Unit {0}
Quiet (changes.Shut n) j w = Unit {0}
Quiet (changes.Move n at) j w = Unit {0}
Quiet (changes.Append n x) j w = Unit {0}
Quiet (changes.Close n) j w = w.mark ≡ None
Quiet (changes.Take c) j w = Unit {0}
Quiet (changes.Put c b) j w = Unit {0}
Quiet (changes.Hold c s) j w = Unit {0}
Quiet (changes.Poke s a x) j w = Reached w j s
Quiet (changes.Set s v x) j w = Reached w j s
Quiet (changes.Map s k) j w = MakesPage w j s
Quiet (changes.Unmap s k) j w = Reached w j s
Quiet (changes.Protect s k on) j w = Reached w j s
Quiet (changes.Make s u n) j w = w.frames s ≡ None
Quiet (changes.Remove s) j w = (k : ℕ) → is_gone (superiors w.raw) s k ≡ true → k ≢ j → w.frames k ≡ None
Quiet (changes.Inform s) j w = Reached w j s
Quiet (changes.Arm alarm) j w = Unit {0}
Quiet (changes.Join n l write x y) j w = Unit {0}
Quiet (changes.CloseEnd n l write) j w = Unit {0}
Quiet (changes.Send l x) j w = Unit {0}
Quiet (changes.Receive l) j w = Unit {0}
Quiet (changes.Delete d x y) j w = w.mark ≡ None
Quiet (changes.Rename d x y u v) j w = w.mark ≡ None

-- several, each on the state after those before it
abbrev pub AllQuiet : List Change → ℕ → State → Type 0
AllQuiet [] j w = Unit {0}
AllQuiet (c ∷ cs) j w = Quiet c j w × AllQuiet cs j (effect_on c j w)
