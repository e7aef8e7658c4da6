-- What calls decide can be made on the stepped machine, if it can be made on its raw jobs: no close
-- is half made if a call is one on files, the page that it makes is clear, and the jobs that it
-- removes are in user mode.
use Rattle.std.specs.Prelude.{◌≡◌, ℕ, true, Option, None, Some, is_some, List, [], ◌∷◌, refl}
use Rattle.std.proofs.Common.{sym, subst}
use Rattle.its_frame.specs.declared.change.Change.{Change}
use Rattle.its_frame.specs.declared.change.Change.TheVariants as changes
use Rattle.its_frame.specs.declared.change.Opened.TheVariants as opened
use Rattle.its_frame.specs.declared.decision.Decision.{Decision}
use Rattle.its_frame.specs.declared.decision.Decision.TheVariants.{Waits, Goes, Ends, Gone}
use Rattle.its_plain.specs.Machine.Change.{channel_in, effect}
use Rattle.its_plain.specs.Machine.{Chan, Writes, Whole}
use Rattle.its_stepped.specs.Commit.{effect_on}
use Rattle.its_stepped.specs.State.{State}
use Rattle.its_world.specs.Storage.{chan_in, IsDraft, HasRoom, CanClose}
use Rattle.its_shared.specs.Can as plain
use Rattle.its_shared.proofs.CanLaws.{Beside, Needs, nothing, CanAll}
use Rattle.its_shared.proofs.CanLaws as parts
use Rattle.its_commit.specs.Built.{Removable, CanMake, CanMakeAll}

-- the changes of a decision of slot j's call can be made
abbrev pub DecisionCan : Decision → ℕ → State → Type 0
DecisionCan (Waits r) j v = Unit {0}
DecisionCan (Goes cs h vs) j v = CanMakeAll cs.items j v
DecisionCan (Ends cs ss e) j v = CanMakeAll cs.items j v
DecisionCan (Gone cs) j v = CanMakeAll cs.items j (effect_on (changes.Remove j) j v)

-- what changes ask beside the raw jobs is there
pub record Gives (b : Beside) (j : ℕ) (v : State) : Type 0 where
  pub files : b.files → v.mark ≡ None
  pub page : b.page → v.reserved j ≡ Some 4
  pub tree : (s : ℕ) → b.tree s → Removable v s

nothing_gives : (j : ℕ) (v : State) → Gives nothing j v
nothing_gives j v = record { files = λ h. absurd h; page = λ h. absurd h; tree = λ s h. absurd h }

-- a draft in a channel of a job
room_on : (v : State) (c : Chan) → plain.HasRoom v.raw c → HasRoom v c
room_on v (Writes f) h = h
room_on v _ h = absurd h

closes_on : (v : State) (c : Chan) → plain.CanClose v.raw c → IsDraft c × CanClose v c
closes_on v (Writes f) h = (tt, h)
closes_on v _ h = absurd h

drafts_job : (o : Option Whole) (n : ℕ) → IsDraft (channel_in o n) → is_some o ≡ true
drafts_job (Some q) n h = refl
drafts_job None n h = absurd h

-- one change, and several
can_on : (b : Beside) (c : Change) (j : ℕ) (v : State) → Gives b j v → plain.CanMake c j v.raw → Needs b c → CanMake c j v
can_on b (changes.Open n (opened.Reading d x y)) j v g h u = (h.0, h.1, h.2, (h.3, g.files u))
can_on b (changes.Open n (opened.Writing d x y)) j v g h u = (h.0, h.1, h.2, g.files u)
can_on b (changes.Open n opened.TtyIn) j v g h u = h
can_on b (changes.Open n opened.TtyOut) j v g h u = h
can_on b (changes.Open n (opened.Usr s write)) j v g h u = h
can_on b (changes.Append n w) j v g h u = (h.0, g.files u, room_on v (chan_in v j n) h.1)
can_on b (changes.Close n) j v g h u =
    let draft = closes_on v (chan_in v j n) h.1 in
    (h.0, drafts_job (v.raw.jobs j) n draft.0, g.files u, draft.0, draft.1)
can_on b (changes.Delete d x y) j v g h u = (g.files u, h.1)
can_on b (changes.Rename d x y z w) j v g h u = (g.files u, h.1, h.2)
can_on b (changes.Map s k) j v g h u = record { slot = h.slot; job = h.job; clear = g.page u; absent = h.absent; room = h.room }
can_on b (changes.Remove s) j v g h u = (h.0, h.1, h.2, g.tree s u)
can_on b (changes.Set s y x) j v g h u = tt
can_on b (changes.Inform s) j v g h u = tt
can_on b _ j v g h u = h

raw_on : (c : Change) (j : ℕ) (v : State) → Needs nothing c → (effect_on c j v).raw ≡ effect c j v.raw
unfolding effect_on
raw_on (changes.Close n) j v h = absurd h
raw_on _ j v h = refl

all_on : (b : Beside) (cs : List Change) (j : ℕ) (v : State) → Gives b j v → CanAll b cs j v.raw → CanMakeAll cs j v
all_on b [] j v g h = tt
all_on b (c ∷ []) j v g h = (can_on b c j v g h.0 h.1, tt)
all_on b (c ∷ d ∷ cs) j v g h =
    let w : State = effect_on c j v in
    let raw : effect c j v.raw ≡ w.raw = sym (raw_on c j v h.0.1) in
    (can_on nothing c j v (nothing_gives j v) h.0.0 h.0.1, all_on nothing (d ∷ cs) j w (nothing_gives j w) (subst (CanAll nothing (d ∷ cs) j) raw h.1))

removed_raw : (j : ℕ) (v : State) → effect (changes.Remove j) j v.raw ≡ (effect_on (changes.Remove j) j v).raw
unfolding effect_on
removed_raw j v = refl

pub decision_on : (b : Beside) (d : Decision) (j : ℕ) (v : State) → Gives b j v → parts.DecisionCan b d j v.raw → DecisionCan d j v
decision_on b (Waits r) j v g h = tt
decision_on b (Goes cs k vs) j v g h = all_on b cs.items j v g h
decision_on b (Ends cs ss e) j v g h = all_on b cs.items j v g h
decision_on b (Gone cs) j v g h =
    let w : State = effect_on (changes.Remove j) j v in
    all_on nothing cs.items j w (nothing_gives j w) (subst (CanAll nothing cs.items j) (removed_raw j v) h)
