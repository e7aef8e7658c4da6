-- What a call has to show of its decision. That its commit is the step of the plain machine, and
-- that it keeps the state sound, follows from this alone (docs/STEPS.md, "Commit").
-- No promise rests on this.
use Rattle.std.specs.Prelude.{◌≡◌, ◌≢◌, ◌≤◌, ◌⊎◌, ℕ, ◌+◌, ◌%◌, ◌^◌, true, false, Option, Some, None, IfSome, List, [], ◌∷◌, length, nat_lt}
use Rattle.its_word.specs.Byte.{has_size}
use Rattle.its_word.specs.Core.{Core, can_store}
use Rattle.its_records.specs.declared.calls.Ask.{Ask}
use Rattle.its_records.specs.declared.calls.Site.{Site}
use Rattle.its_word.specs.declared.plan.Store.{Store}
use Rattle.its_frame.specs.Left.{kept}
use Rattle.its_frame.specs.declared.change.Change.{Change}
use Rattle.its_frame.specs.declared.change.Change.TheVariants as changes
use Rattle.its_frame.specs.declared.decision.Decision.{Decision}
use Rattle.its_frame.specs.declared.decision.Decision.TheVariants.{Waits, Goes, Ends, Gone}
use Rattle.its_frame.specs.declared.decision.Held.{Held}
use Rattle.its_frame.specs.declared.frame.Frame.{Frame}
use Rattle.its_frame.specs.declared.frame.Frame.TheVariants.{Entered, Parsed, Asked, Holding, Waiting, Moving, Ending}
use Rattle.its_word.specs.Stores.{place}
use Rattle.its_plain.specs.Machine.{Whole}
use Rattle.its_plain.specs.Machine.Change.{superiors, is_gone}
use Rattle.its_plain.specs.Call.Arguments.{input, in_footprint, debts, with_new_values}
use Rattle.its_plain.specs.Call.Decide.{call_named, reach}
use Rattle.its_plain.specs.Call.Step.{after_moves, decision, among}
use Rattle.its_stepped.specs.State.{State, plain, seen}
use Rattle.its_stepped.specs.Commit.{effect_on}
use Rattle.its_stepped.specs.Tick.{reserves, with_preparation, quarters}
use Rattle.its_stepped.specs.Sound.{Stands, Stored, Debts, IsWaitable, Transfers}
use Rattle.its_stepped.specs.Quiet.{AllQuiet}

-- a change after which the caller is there with the registers that it had; its words and pages may
-- be others
abbrev pub Remains : Change → ℕ → State → Type 0
Remains (changes.Set s v x) j w = s ≢ j
Remains (changes.Make s u n) j w = s ≢ j
Remains (changes.Remove s) j w = is_gone (superiors w.raw) s j ≡ false
Remains (changes.Inform s) j w = s ≢ j
Remains _ j w = Unit {0}

-- a change that spares the caller's words and registers
abbrev pub Spares : Change → ℕ → State → Type 0
Spares (changes.Set s v x) j w = s ≢ j
Spares (changes.Make s u n) j w = s ≢ j
Spares (changes.Remove s) j w = is_gone (superiors w.raw) s j ≡ false
Spares (changes.Inform s) j w = s ≢ j
Spares (changes.Poke s a x) j w = s ≢ j
Spares (changes.Map s k) j w = s ≢ j
Spares (changes.Unmap s k) j w = s ≢ j
Spares (changes.Protect s k on) j w = s ≢ j
Spares _ j w = Unit {0}

abbrev pub AllRemain : List Change → ℕ → State → Type 0
AllRemain [] j w = Unit {0}
AllRemain (c ∷ cs) j w = Remains c j w × AllRemain cs j (effect_on c j w)

abbrev pub AllSpare : List Change → ℕ → State → Type 0
AllSpare [] j w = Unit {0}
AllSpare (c ∷ cs) j w = Spares c j w × AllSpare cs j (effect_on c j w)

-- how many parts the closes among some changes have pending at most
abbrev pub parts_in : List Change → ℕ
parts_in [] = 0
parts_in (changes.Close n ∷ cs) = 3 + parts_in cs
parts_in (c ∷ cs) = parts_in cs

-- a place is among those of some stores, or apart from them
abbrev pub AtSome : ℕ → List Store → Type 0
AtSome p [] = ⊥
AtSome p (s ∷ ss) = (place s ≡ p) ⊎ AtSome p ss

abbrev pub Apart : ℕ → List Store → Type 0
Apart p [] = Unit {0}
Apart p (s ∷ ss) = (place s ≢ p) × Apart p ss

-- the places of some stores are among those of others
abbrev pub Within : List Store → List Store → Type 0
Within [] news = Unit {0}
Within (s ∷ olds) news = AtSome (place s) news × Within olds news

-- a byte that is held can be stored, its word is distinct from the pending ones, and pointer and
-- count are pending with it
pub record HeldFits (c : Core) (owed : List Store) (count : ℕ) (h : Held) : Type 0 where
  pub two : count ≡ 2
  pub placed : h.place % 2 ^ 18 ≡ h.place
  pub can : can_store c h.place ≡ true
  pub apart : Apart h.place owed

-- a call that is found not ready has reserved no page, and is one that can be found so
pub record Waiting_by (v : State) (j : ℕ) (a : Ask) : Type 0 where
  pub page : v.reserved j ≡ None
  pub waitable : IsWaitable (call_named a.name)

-- a part of a call: its new words include those that were pending, and the call is still there
-- after they are stored
pub record Going (v : State) (j : ℕ) (own : Whole) (s : Site) (a : Ask) (n : ℕ) (cs : List Change) (h : Option Held) (vs : List ℕ) : Type 0 where
  pub quiet : AllQuiet cs j v
  pub spare : AllSpare cs j v
  pub closes : parts_in cs ≡ 0
  pub page : v.reserved j ≡ None
  pub within : Within (debts a n) (debts (with_new_values a vs) (length vs))
  pub held : IfSome h (λ b. HeldFits own.core (debts a n) (length vs) b)
  pub transfers : IfSome h (λ b. Transfers a)
  pub outside : IfSome h (λ b. in_footprint b.place a ≡ false)
  pub size : IfSome h (λ b. has_size (input (with_new_values a vs) 1) ≡ true)
  pub debts : Debts own.core (with_new_values a vs) (length vs)
  pub stands : Stands (after_moves a h vs own).core own.job s (with_new_values a vs)

-- the end of a call: either it spares its own words except for stores that are possible, or it
-- changes its own pages and stores no word; and its pending steps are at most four including the
-- last
pub record Ending_by (v : State) (j : ℕ) (own : Whole) (n : ℕ) (cs : List Change) (ss : List Store) : Type 0 where
  pub quiet : AllQuiet cs j v
  pub stores : (AllSpare cs j v × Stored own.core ss) ⊎ (AllRemain cs j v × (n ≡ 0) × (ss ≡ []))
  pub few : parts_in cs + kept (v.reserved j) + n + length ss ≤ 3

-- the caller's removal
pub record Leaving (v : State) (j : ℕ) (cs : List Change) : Type 0 where
  pub quiet : AllQuiet (changes.Remove j ∷ cs) j v
  pub closes : parts_in cs ≡ 0
  pub page : v.reserved j ≡ None

-- the duty of the call with this site and ask, of job own in slot j, over the state that its commit
-- finds, when its last n arguments are pending
abbrev pub Duty : State → ℕ → Whole → Site → Ask → ℕ → Decision → Type 0
Duty v j own s a n (Waits r) = Waiting_by v j a
Duty v j own s a n (Goes cs h vs) = Going v j own s a n cs.items h vs.items
Duty v j own s a n (Ends cs ss e) = Ending_by v j own n cs.items ss.items
Duty v j own s a n (Gone cs) = Leaving v j cs.items

-- a call that is tried reaches other jobs than its own alone, all quarters of the page that it
-- reserves are clear, and it does its duty
pub record Meets (w : State) (j : ℕ) (own : Whole) (s : Site) (a : Ask) (n : ℕ) : Type 0 where
  pub apart : among j (reach (plain w) j own a) ≡ false
  pub page : reserves a ≡ true → w.reserved j ≡ Some quarters
  pub duty : Duty (with_preparation w j own a) j own s a n (decision (plain w) j own a)

-- a call that is held is tried if it has no page, or if all quarters of its page are clear
abbrev pub IsTried : Option ℕ → Type 0
IsTried None = Unit {0}
IsTried (Some p) = nat_lt p quarters ≡ false

-- what the tick of a slot takes as given: the call does its duty if it is tried, and no job is its
-- own superior
abbrev pub GivenBy : State → ℕ → Whole → Option Frame → Type 0
GivenBy w j q None = q.superior ≢ Some j
GivenBy w j q (Some (Holding f)) = IsTried f.page → Meets w j (seen (Some (Holding f)) q) f.site f.ask f.owes
GivenBy w j q (Some (Waiting f)) = Meets w j (seen (Some (Waiting f)) q) f.site f.ask f.owes
GivenBy w j q (Some (Entered f)) = Unit {0}
GivenBy w j q (Some (Parsed f)) = Unit {0}
GivenBy w j q (Some (Asked f)) = Unit {0}
GivenBy w j q (Some (Moving f)) = Unit {0}
GivenBy w j q (Some (Ending f)) = Unit {0}

pub record Given (w : State) (j : ℕ) : Type 0 where
  pub by : (q : Whole) → w.raw.jobs j ≡ Some q → GivenBy w j q (w.frames j)
