-- The commit of a call: its changes on the stepped machine, and the frame that it leaves
-- (docs/STEPS.md, "Commit").
-- No promise rests on this.
use Rattle.std.specs.Prelude.{if◌then◌else◌, ◌==◌, ℕ, Bool, true, false, Option, Some, None, List, [], ◌∷◌, ◌++◌, map, length}
use Rattle.its_records.specs.declared.calls.Ask.{Ask}
use Rattle.its_records.specs.declared.calls.Exit.{Exit}
use Rattle.its_records.specs.declared.calls.Owed.{Owed}
use Rattle.its_records.specs.declared.calls.Owed.TheVariants.{GiveBack, Unlink, Link, Free, Leave}
use Rattle.its_records.specs.declared.calls.Owed.TheVariants as owed
use Rattle.its_records.specs.declared.calls.Site.{Site}
use Rattle.its_word.specs.declared.plan.Store.{Store}
use Rattle.its_frame.specs.declared.change.Change.{Change}
use Rattle.its_frame.specs.declared.change.Change.TheVariants as changes
use Rattle.its_frame.specs.declared.decision.Decision.{Decision}
use Rattle.its_frame.specs.declared.decision.Decision.TheVariants.{Waits, Goes, Ends, Gone}
use Rattle.its_frame.specs.declared.decision.Held.{Held}
use Rattle.its_frame.specs.declared.frame.Frame.{Frame}
use Rattle.its_frame.specs.declared.name.CallName.{CallName}
use Rattle.its_frame.specs.declared.name.CallName.TheVariants.{Sleep}
use Rattle.its_plain.specs.Machine.{Shut, changed}
use Rattle.its_plain.specs.Machine.Own.{on_channel}
use Rattle.its_plain.specs.Machine.Change.{in_job, channel_in, superiors, is_gone, effect}
use Rattle.its_plain.specs.Call.Arguments.{debts, with_new_values}
use Rattle.its_plain.specs.Call.Decide.{call_named}
use Rattle.its_stepped.specs.State.{Part, UnlinkOld, LinkNew, FreeOld, Mark, State, mark_of_close, with_slot, same, holding, waiting, moving, ending}

-- a change on the stepped machine: a close is marked, and its parts are pending; a page that is
-- made is the reserved one; a removed job has no frame
unfoldable pub effect_on : Change → ℕ → State → State
effect_on (changes.Close n) j w =
    record w { raw = in_job w.raw j (on_channel n (λ c. Shut)); mark = mark_of_close j (channel_in (w.raw.jobs j) n) w.raw.files }
effect_on (changes.Map s k) j w =
    record w { raw = effect (changes.Map s k) j w.raw; reserved = changed w.reserved j None }
effect_on (changes.Remove s) j w = record w {
  raw = effect (changes.Remove s) j w.raw;
  frames = λ k. if is_gone (superiors w.raw) s k then None else w.frames k;
}
effect_on c j w = record w { raw = effect c j w.raw }

abbrev pub effects_on : List Change → ℕ → State → State
effects_on [] j w = w
effects_on (c ∷ cs) j w = effects_on cs j (effect_on c j w)

-- after a part of a call: a held byte is still to be stored; a sleeper waits; else the job is at
-- the call again
abbrev pub sleeps : Option CallName → Bool
sleeps (Some Sleep) = true
sleeps _ = false

abbrev pub stays : Bool → Site → Ask → ℕ → Frame
stays true s a n = waiting s a n
stays false s a n = holding s a None n

abbrev pub after_going_on : Site → Ask → ℕ → Option Held → Frame
after_going_on s a n (Some h) = moving s a h
after_going_on s a n None = stays (sleeps (call_named a.name)) s a n

-- what is pending of a call that ends: the parts of its close, its reserved page, the words of its
-- arguments that are not in core, its own stores, and its registers
abbrev pub owed_part : Part → Owed
owed_part UnlinkOld = Unlink
owed_part LinkNew = Link
owed_part FreeOld = Free

abbrev pub owed_parts : Option Mark → ℕ → List Owed
owed_parts (Some m) j = if m.owner == j then map owed_part m.parts else []
owed_parts None j = []

abbrev pub given_up : Option ℕ → List Owed
given_up (Some n) = GiveBack ∷ []
given_up None = []

abbrev pub owed_store : Store → Owed
owed_store s = owed.Store s.at s.word

abbrev pub owed_by : State → ℕ → List Store → Exit → List Owed
owed_by v j ss e = owed_parts v.mark j ++ (given_up (v.reserved j) ++ (map owed_store ss ++ Leave e ∷ []))

-- a decision carried out, of a call with its last n arguments pending
unfoldable pub after_commit : State → ℕ → Site → Ask → ℕ → Decision → State
after_commit w j s a n (Waits r) = with_slot w j same (Some (waiting s a n))
after_commit w j s a n (Goes cs h vs) =
    with_slot (effects_on cs.items j w) j same (Some (after_going_on s (with_new_values a vs.items) (length vs.items) h))
after_commit w j s a n (Ends cs ss e) =
    let v = effects_on cs.items j w in with_slot v j same (Some (ending s a (owed_by v j (debts a n ++ ss.items) e)))
after_commit w j s a n (Gone cs) = effects_on (changes.Remove j ∷ cs.items) j w
