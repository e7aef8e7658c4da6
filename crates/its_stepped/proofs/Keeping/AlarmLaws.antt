-- Alarms are to come, through the steps of the plain machine and through its lines; and CLOCK makes
-- the same alarms go on the raw machine as on the plain one.
use Rattle.std.specs.Prelude.{if◌then◌else◌, ◌==◌, ◌≡◌, ◌≤◌, ◌<◌, ◌⊎◌, ℕ, ◌+◌, ◌-◌, ◌*◌, ◌/◌, ◌&&◌, Bool, true, false, Option, Some, None, IfSome, List, [], ◌∷◌, option_map, nat_lt, refl}
use Rattle.std.proofs.Common.{sym, ◌∙◌, ap, subst, inl, inr, arith}
use Rattle.std.proofs.Math.Nat.{add-mul, one-mul, lt-div-mul-add}
use Rattle.std.proofs.lemmas.Bool.{leb-true, leb-false, ltb-false}
use Rattle.its_word.specs.Limits.{slots}
use Rattle.its_records.specs.declared.calls.Ask.{Ask}
use Rattle.its_records.specs.declared.session.Event.{Event}
use Rattle.its_records.specs.declared.session.Event.TheVariants as events
use Rattle.its_records.specs.declared.state_line.StateLine.{StateLine}
use Rattle.its_records.specs.declared.state_line.StateLine.TheVariants as states
use Rattle.its_frame.specs.declared.change.Change.{Change}
use Rattle.its_frame.specs.declared.change.Change.TheVariants as changes
use Rattle.its_frame.specs.declared.decision.Decision.{Decision}
use Rattle.its_frame.specs.declared.decision.Decision.TheVariants.{Waits, Goes, Ends, Gone}
use Rattle.its_frame.specs.declared.decision.Held.{Held}
use Rattle.its_print.specs.Printing.{Line}
use Rattle.its_plain.specs.Call.Arguments.{with_new_values}
use Rattle.its_plain.specs.Call.Step.{with_held, acted, decision, informs, step}
use Rattle.its_plain.specs.Machine.Change.{in_job, is_gone, job_after_removal, after_removal, superiors, inferior, with_alarm, effect, effects}
use Rattle.its_plain.specs.Call.Decide.{reach}
use Rattle.its_plain.specs.Unit.Interrupt.{delivered}
use Rattle.its_plain.specs.Machine.{Chan, Shut, Reads, On, Linked, Whole, Machine, no_machine, with_new}
use Rattle.its_plain.specs.Operator.{Block, Does}
use Rattle.its_plain.specs.Operator.Lines.{Done, lined}
use Rattle.its_plain.specs.Machine.Alarm.{is_due, time_after, alarm_renewed}
use Rattle.its_plain.specs.Operator.Clock.{alarm_in, due, after_alarm_if, at_clock}
use Rattle.its_plain.specs.Machine.Own.{names_of, on_channel}
use Rattle.its_plain.specs.Operator.State.{on_tty, under}
use Rattle.its_plain.proofs.CallLineLaws.{AlarmsKept, Same, Went, Restores, job_keeps, Leaves, line_does}
use Rattle.its_plain.proofs.RestoredLaws.{Opens, empty_draft, words_appended}
use Rattle.its_plain.proofs.StepLaws.{AllOf, step_has}
use Rattle.its_stepped.specs.Alarmed.{Coming, Periodic, Alarmed}
use Rattle.its_stepped.specs.Forest.{Forest}
use Rattle.its_stepped.proofs.Duties.FitLaws.{decision_fits}
use Rattle.its_stepped.proofs.Keeping.ForestLaws.{forest_few, ChangeFits, AllFit, FitsAll, informs_fit}
use Rattle.its_stepped.proofs.Keeping.RestoredLaws.{opens_end, coming}

-- one job
abbrev pub AlarmedBy : ℕ → Option Whole → Type 0
AlarmedBy c o = IfSome (alarm_in o) (λ a. Coming c a)

-- at the start of a session
pub alarmed_starts : Alarmed no_machine
unfolding no_machine
alarmed_starts = record { each = λ k. tt }

-- a job that changes
mapped_alarmed : (c : ℕ) (f : Whole → Whole) (b : Bool) (o : Option Whole) → ((q : Whole) → AlarmedBy c (Some q) → AlarmedBy c (Some (f q))) → AlarmedBy c o
    → AlarmedBy c (if b then option_map f o else o)
mapped_alarmed c f true (Some q) h a = h q a
mapped_alarmed c f true None h a = tt
mapped_alarmed c f false o h a = a

changed_alarmed : (m : Machine) (s : ℕ) (f : Whole → Whole) → ((q : Whole) → AlarmedBy m.clock (Some q) → AlarmedBy m.clock (Some (f q)))
    → Alarmed m → Alarmed (in_job m s f)
changed_alarmed m s f h a = record { each = λ k. mapped_alarmed m.clock f (k == s) (m.jobs k) h (a.each k) }

pub job_alarmed : (m : Machine) (s : ℕ) (f : Whole → Whole) → ((q : Whole) → (f q).alarm ≡ q.alarm) → Alarmed m → Alarmed (in_job m s f)
job_alarmed m s f h a = changed_alarmed m s f (λ q x. subst (λ (o : Option (ℕ × ℕ)). IfSome o (λ a. Coming m.clock a)) (sym (h q)) x) a

-- another machine with the same jobs and clock
jobs_alarmed : (m n : Machine) → n.jobs ≡ m.jobs → n.clock ≡ m.clock → Alarmed m → Alarmed n
jobs_alarmed m n e t a = record {
  each = λ k. subst (λ (c : ℕ). AlarmedBy c (n.jobs k)) (sym t) (subst (λ (jobs : ℕ → Option Whole). AlarmedBy m.clock (jobs k)) (sym e) (a.each k));
}

-- a removal, and a job that is made
removed_job : (c : ℕ) (gone : ℕ → Bool) (b : Bool) (o : Option Whole) → AlarmedBy c o → AlarmedBy c (job_after_removal gone b o)
removed_job c gone true o a = tt
removed_job c gone false None a = tt
removed_job c gone false (Some q) a = a

removed_alarmed : (sup : ℕ → Option ℕ) (r : ℕ) (m : Machine) → Alarmed m → Alarmed (after_removal sup r m)
unfolding after_removal
removed_alarmed sup r m a = record { each = λ k. removed_job m.clock (is_gone sup r) (is_gone sup r k) (m.jobs k) (a.each k) }

either_alarmed : (c : ℕ) (b : Bool) (p o : Option Whole) → AlarmedBy c p → AlarmedBy c o → AlarmedBy c (if b then p else o)
either_alarmed c true p o x a = x
either_alarmed c false p o x a = a

made_alarmed : (m : Machine) (j s u n : ℕ) → Alarmed m → Alarmed (with_new m s (inferior j (m.jobs j) u n))
made_alarmed m j s u n a = record { each = λ k. either_alarmed m.clock (k == s) (Some (inferior j (m.jobs j) u n)) (m.jobs k) tt (a.each k) }

-- a change
effect_alarmed : (c : Change) (j : ℕ) (m : Machine) → ChangeFits c j m → Alarmed m → Alarmed (effect c j m)
unfolding effect
effect_alarmed (changes.Open n on) j m f a = job_alarmed m j _ (λ q. refl) a
effect_alarmed (changes.Shut n) j m f a = job_alarmed m j _ (λ q. refl) a
effect_alarmed (changes.Move n at) j m f a = job_alarmed m j _ (λ q. refl) a
effect_alarmed (changes.Append n w) j m f a = job_alarmed m j _ (λ q. refl) a
effect_alarmed (changes.Close n) j m f a = jobs_alarmed (in_job m j (on_channel n (λ c. Shut))) _ refl refl (job_alarmed m j _ (λ q. refl) a)
effect_alarmed (changes.Poke s p w) j m f a = job_alarmed m s _ (λ q. refl) a
effect_alarmed (changes.Set s v w) j m f a = job_alarmed m s _ (λ q. refl) a
effect_alarmed (changes.Map s k) j m f a = job_alarmed m s _ (λ q. refl) a
effect_alarmed (changes.Unmap s k) j m f a = job_alarmed m s _ (λ q. refl) a
effect_alarmed (changes.Protect s k on) j m f a = job_alarmed m s _ (λ q. refl) a
effect_alarmed (changes.Make s u n) j m f a = made_alarmed m j s u n a
effect_alarmed (changes.Remove s) j m f a = removed_alarmed (superiors m) s m a
effect_alarmed (changes.Inform s) j m f a = job_alarmed m s _ (λ q. refl) a
effect_alarmed (changes.Arm alarm) j m f a = changed_alarmed m j (with_alarm alarm) (λ q x. f) a
effect_alarmed (changes.Join n l write x y) j m f a =
    jobs_alarmed (in_job m j (on_channel n (λ c. Linked l write))) _ refl refl (job_alarmed m j _ (λ q. refl) a)
effect_alarmed (changes.CloseEnd n l write) j m f a = jobs_alarmed (in_job m j (on_channel n (λ c. Shut))) _ refl refl (job_alarmed m j _ (λ q. refl) a)
effect_alarmed _ j m f a = jobs_alarmed m _ refl refl a

effects_alarmed : (cs : List Change) (j : ℕ) (m : Machine) → AllFit cs j m → Alarmed m → Alarmed (effects cs j m)
effects_alarmed [] j m f a = a
effects_alarmed (c ∷ cs) j m f a = effects_alarmed cs j (effect c j m) f.1 (effect_alarmed c j m f.0 a)

-- a call
held_alarm : (a : Ask) (h : Option Held) (q : Whole) → (with_held a h q).alarm ≡ q.alarm
held_alarm a None q = refl
held_alarm a (Some b) q = refl

gone_alarmed : (m : Machine) (j : ℕ) → Alarmed m → Alarmed (effect (changes.Remove j) j m)
unfolding effect
gone_alarmed m j h = removed_alarmed (superiors m) j m h

acted_alarmed : (m : Machine) (j : ℕ) (a : Ask) (ks : List ℕ) (d : Decision) → FitsAll d j m → Alarmed m → AllOf (λ t. Alarmed t.machine) (acted m j a ks d)
unfolding acted
acted_alarmed m j a ks (Waits r) f h = tt
acted_alarmed m j a ks (Goes cs b vs) f h = job_alarmed (effects cs.items j m) j _ (λ q. held_alarm (with_new_values a vs.items) b q)
    (effects_alarmed cs.items j m f h)
acted_alarmed m j a ks (Ends cs ss e) f h = job_alarmed (effects cs.items j m) j _ (λ q. refl) (effects_alarmed cs.items j m f h)
acted_alarmed m j a ks (Gone cs) f h = effects_alarmed cs.items j (effect (changes.Remove j) j m) f.0 (gone_alarmed m j h)

-- a step leaves each alarm to come
pub step_alarmed : (m n : Machine) (j : ℕ) → Forest m → Alarmed m → step m j ≡ Some n → Alarmed n
step_alarmed m n j forest h e = step_has Alarmed m n j (λ q is.
    let d = delivered q.core q.job in
    let cs = informs d.stops q.superior in
    record {
      delivers = job_alarmed (effects cs j m) j _ (λ i. refl) (effects_alarmed cs j m (informs_fit d.stops q.superior j m) h);
      changes = λ c k u. job_alarmed m j _ (λ i. refl) h;
      faults = λ f. job_alarmed m j _ (λ i. refl) h;
      calls = λ a. acted_alarmed m j a (reach m j q a) (decision m j q a) (decision_fits m j q a forest is) h;
    }) e

pub coming_periodic : (c : ℕ) (o : Option (ℕ × ℕ)) → IfSome o (λ a. Coming c a) → IfSome o Periodic
coming_periodic c (Some a) h = record { some = h.some; most = h.most }
coming_periodic c None h = tt

-- the next time of an alarm that goes is above the clock
pub one_more : (k p : ℕ) → (k + 1) * p ≡ k * p + p
one_more k p = add-mul k 1 p ∙ ap (λ x. k * p + x) (one-mul p)

pub after_above : (c : ℕ) (a : ℕ × ℕ) → 1 ≤ a.0 → a.1 ≤ c → c < time_after c a
unfolding time_after
after_above c a some due =
    let p = a.0 in
    let far : c - a.1 < (c - a.1) / p * p + p = lt-div-mul-add some in
    let e : ((c - a.1) / p + 1) * p ≡ (c - a.1) / p * p + p = one_more ((c - a.1) / p) p in
    rw e (omega arith)

-- CLOCK: an alarm that goes is to come again, and one that does not go was to come later
goes_alarmed : (c d : ℕ) (o : Option (ℕ × ℕ)) → is_due d o ≡ true → IfSome o (λ a. Coming c a) → IfSome (alarm_renewed d o) (λ a. Coming d a)
goes_alarmed c d (Some a) due h = record { some = h.some; most = h.most; next = after_above d a h.some (leb-true a.1 d due) }
goes_alarmed c d None due h = tt

waits_alarmed : (c d : ℕ) (o : Option (ℕ × ℕ)) → is_due d o ≡ false → IfSome o (λ a. Coming c a) → IfSome o (λ a. Coming d a)
waits_alarmed c d (Some a) due h = record { some = h.some; most = h.most; next = leb-false a.1 d due }
waits_alarmed c d None due h = tt

went_by : (c d : ℕ) (o : Option Whole) (b : Bool) → is_due d (alarm_in o) ≡ b → AlarmedBy c o → AlarmedBy d (after_alarm_if d b o)
went_by c d (Some q) true due h = goes_alarmed c d q.alarm due h
went_by c d (Some q) false due h = waits_alarmed c d q.alarm due h
went_by c d None true due h = tt
went_by c d None false due h = tt

went_alarmed : (c d k : ℕ) (o : Option Whole) (there : Bool) → nat_lt k slots ≡ there → (slots ≤ k → o ≡ None) → AlarmedBy c o
    → AlarmedBy d (after_alarm_if d (there && is_due d (alarm_in o)) o)
went_alarmed c d k o true is few h = went_by c d o (is_due d (alarm_in o)) refl h
went_alarmed c d k o false is few h = subst (AlarmedBy d) (sym (few (ltb-false k slots is))) tt

clock_alarmed : (m : Machine) (c : ℕ) → Forest m → Alarmed m → Alarmed (at_clock c m)
clock_alarmed m c forest h = record { each = λ k. went_alarmed m.clock c k (m.jobs k) (nat_lt k slots) refl (forest_few m forest k) (h.each k) }

kept_alarmed : (c : ℕ) (o p : Option Whole) → (alarm_in p ≡ alarm_in o) ⊎ (alarm_in p ≡ None) → AlarmedBy c o → AlarmedBy c p
kept_alarmed c o p (inl e) h = subst (λ (x : Option (ℕ × ℕ)). IfSome x (λ a. Coming c a)) (sym e) h
kept_alarmed c o p (inr e) h = subst (λ (x : Option (ℕ × ℕ)). IfSome x (λ a. Coming c a)) (sym e) tt

alarms_alarmed : (m n : Machine) → AlarmsKept m n → Forest m → Alarmed m → Alarmed n
alarms_alarmed m n (Same clock kept) forest h = record {
  each = λ k. subst (λ (c : ℕ). AlarmedBy c (n.jobs k)) (sym clock) (kept_alarmed m.clock (m.jobs k) (n.jobs k) (kept k) (h.each k));
}
alarms_alarmed m n (Went c later is) forest h = subst Alarmed (sym is) (clock_alarmed m c forest h)

-- a line of the state part
opened_alarmed : (m n : Machine) (s i : ℕ) (x : Chan) → Opens m s i x n → Alarmed m → Alarmed n
opened_alarmed m n s i x f a = subst Alarmed (sym f.is) (job_alarmed m s (on_channel i (λ c. x)) (λ q. refl) a)

appended_alarmed : (m : Machine) (s i : ℕ) (ws : List ℕ) → Alarmed m → Alarmed (effects (words_appended i ws) s m)
appended_alarmed m s i [] a = a
appended_alarmed m s i (w ∷ ws) a =
    appended_alarmed (effect (changes.Append i w) s m) s i ws (effect_alarmed (changes.Append i w) s m tt a)

restored_alarmed : (m n : Machine) (line : StateLine) → Restores m line n → Forest m → Alarmed m → Alarmed n
restored_alarmed m n (states.Job s u j console) f d a = alarms_alarmed m n (job_keeps m n s u j console f).alarms d a
restored_alarmed m n (states.Alarm s period next) f d a =
    subst Alarmed (sym f.is) (effect_alarmed (changes.Arm (Some (period, next))) s m (coming m n s period next f) a)
restored_alarmed m n (states.Under s t) f d a = subst Alarmed (sym f.is) (job_alarmed m s (under t) (λ q. refl) a)
restored_alarmed m n (states.Tty s i write) f d a = opened_alarmed m n s i (on_tty write) f a
restored_alarmed m n (states.Disk s i d1 x y at) f d a = opened_alarmed m n s i (Reads (names_of d1 x y) at) f a
restored_alarmed m n (states.Draft s i d1 x y) f d a = opened_alarmed m n s i (empty_draft (names_of d1 x y)) f a
restored_alarmed m n (states.Usr s i t write at) f d a = opened_alarmed m n s i (On t write at) f a
restored_alarmed m n (states.Wrote s i words) f d a = subst Alarmed (sym f.is) (appended_alarmed m s i words.items a)
restored_alarmed m n (states.Join s i l write x y) f d a =
    subst Alarmed (sym f.is) (effect_alarmed (changes.Join i l write x y) s m (opens_end m n s i l write x y f) a)
restored_alarmed m n (states.Sent l words) f d a = subst Alarmed (sym f.is) (jobs_alarmed m _ refl refl a)
restored_alarmed m n (states.EndShut l write) f d a = subst Alarmed (sym f.is) (jobs_alarmed m _ refl refl a)
restored_alarmed m n (states.Input c bytes) f d a = subst Alarmed (sym f.is) (jobs_alarmed m _ refl refl a)
restored_alarmed m n (states.Output c bytes) f d a = subst Alarmed (sym f.is) (jobs_alarmed m _ refl refl a)
restored_alarmed m n (states.Hold c s) f d a = subst Alarmed (sym f.is) (effect_alarmed (changes.Hold c s) s m f.job a)
restored_alarmed m n line f d a = alarms_alarmed m n f.alarms d a

-- a line leaves each alarm to come
pub line_alarmed : (m n : Machine) (b c : Block) (e : Event) (out : List Line) (touched : ℕ → Bool) → Forest m → Alarmed m
    → lined m b e ≡ Done (Does n out touched c) → Alarmed n
line_alarmed m n b c e out touched forest h is = by e (line_does m n b c e out touched is)
  where
    by : (e : Event) → Leaves m e n → Alarmed n
    by (events.Restore line) x = restored_alarmed m n line x forest h
    by e x = alarms_alarmed m n x.alarms forest h
