-- The operator's lines on one job: the machine after each of them is what the line's definition
-- says.
use Rattle.std.specs.Prelude.{◌≡◌, ◌<◌, ◌^◌, ℕ, Bool, true, false, Option, Some, None, is_some, [], ◌∷◌, Ok, Err, option_map, refl}
use Rattle.std.proofs.Common.{ap, sym, subst, ◌∙◌, inl, inr}
use Rattle.std.proofs.lemmas.Bool.{cases_eq, eq-eqb, ne_eqb}
use Rattle.its_word.specs.Core.{Core, word_at, can_store, store, putting, put}
use Rattle.its_word.specs.Limits.{slots}
use Rattle.its_word.specs.declared.access.NoAccess.{NoAccess}
use Rattle.its_word.specs.declared.access.NoAccess.TheVariants.{Absent, ReadOnly}
use Rattle.its_records.specs.declared.jobs.Job.{Job}
use Rattle.its_records.specs.declared.session.Reason.TheVariants as reasons
use Rattle.its_records.specs.declared.session.Refusal.{Refusal}
use Rattle.its_core.specs.Cores.{core_at}
use Rattle.its_jobs.specs.Table.{job_at, superior_at}
use Rattle.its_plain.specs.Machine.Change.{in_job, on_slot}
use Rattle.its_plain.specs.Call.Footprint.{among}
use Rattle.its_plain.specs.Machine.{Whole, Machine, with_job, changed, words_at}
use Rattle.its_plain.specs.Operator.{only}
use Rattle.its_plain.specs.Operator.Jobs.{on_job, with_registers, on_registers, after_go, after_stop, after_cont, after_int, seen, examined, state_shown, shown, with_core, after_deposit_in, after_deposit}
use Rattle.its_plain.specs.Operator.Symbols.{symbol_shown}
use Rattle.its_plain.proofs.MachineLaws.{machine_is}
use Rattle.its_shared.specs.Parts.{bare, alarm_at}
use Rattle.its_shared.proofs.PartLaws.{raw_job, changed_only, on_slot_here, on_slot_other}
use Rattle.its_direct.specs.Plain.{machine_of, is_touched, no_slots, Tidy, CoreBecomes, JobBecomes}
use Rattle.its_records.specs.Refusals.{reason_of}
use Rattle.its_direct.specs.Lines.{refusal_of, one_slot, Operates, Rewritten}
use Rattle.its_direct.specs.declared.plain.Plain.{Plain}
use Rattle.its_direct.proofs.SlotLaws.{placed_at, core_machine, core_tidy, slot_machine, slot_tidy, touched_machine, touched_tidy}
use Rattle.its_direct.proofs.TouchLaws.{one_touched}
use Rattle.its_direct.proofs.UserLaws.{own_of, own_is, nobody_is}
use Rattle.its_direct.proofs.ContentsLaws.{place_as}

-- a job that is there, and another in its place
pub put_slot : (m : Machine) (s : ℕ) (q : Whole) (h : Whole → Whole) → m.jobs s ≡ Some q → in_job m s h ≡ with_job m s (h q)
put_slot m s q h is = machine_is _ _ (λ k. elim (cases_eq k s) [
  | inl e ↦
      ap (on_slot m.jobs s h) e ∙ on_slot_here m.jobs s h ∙ ap (option_map h) is
      ∙ sym (ap (changed m.jobs s (Some (h q))) e ∙ (changed_only m.jobs s (Some (h q))).here)
  | inr ne ↦ on_slot_other m.jobs s k h ne ∙ sym ((changed_only m.jobs s (Some (h q))).others k ne)
]) (λ k. refl) (λ k. refl) refl refl refl (λ k. refl) (λ k. refl)

-- one slot is touched
among_only : (s k : ℕ) → among k (s ∷ []) ≡ only s k
among_only s k = elim (cases_eq k s) [
  | inl e ↦ ap (λ (n : ℕ). among n (s ∷ [])) e ∙ rw (eq-eqb s s refl) refl ∙ sym (ap (only s) e ∙ eq-eqb s s refl)
  | inr ne ↦ rw (ne_eqb s k (λ e. ne (sym e))) refl ∙ sym (ne_eqb k s ne)
]

pub only_touched : (put new : Plain) (s : ℕ) → s < slots → new ≡ record put { touched = one_slot s } → (k : ℕ) → is_touched new k ≡ only s k
only_touched put new s l e k = one_touched new.touched no_slots s l (ap (λ (p : Plain). p.touched) e) refl k ∙ among_only s k

-- registers are written
pub rewritten : (old put new : Plain) (s : ℕ) (i k : Job) → s < slots → job_at old.jobs s ≡ Some i → k.channels ≡ i.channels
    → JobBecomes old put s k → new ≡ record put { touched = one_slot s }
    → Rewritten old new s k
rewritten old put new s i k l had same b e = record {
  machine = touched_machine put new (one_slot s) e ∙ slot_machine old put s (core_at old.core s) i k (λ q. record q { job = bare k }) b had
      (λ t. record (own_of old s i) {
        job = bare k;
        channels = λ n.
            (raw_job old.files (core_at old.core s) (record i { channels = sym same t }) (superior_at old.jobs s) (alarm_at old.alarms.items s)).channels n;
      });
  touched = only_touched put new s l e;
  place = ap (λ (p : Plain). p.place) e ∙ place_as b.aside.is;
}

pub rewritten_tidy : (old put new : Plain) (s : ℕ) (i k : Job) → job_at old.jobs s ≡ Some i → k.channels ≡ i.channels → k.pc < 2 ^ 18
    → JobBecomes old put s k → new ≡ record put { touched = one_slot s } → Tidy old → Tidy new
rewritten_tidy old put new s i k had same placed b e tidy = touched_tidy put new (one_slot s) e
    (slot_tidy old put s (core_at old.core s) i k b had same placed tidy)

-- PC, if it is kept
pub kept_placed : (p : Plain) (s : ℕ) (i k : Job) (o : Option Job) → o ≡ job_at p.jobs s → o ≡ Some i → k.pc ≡ i.pc → Tidy p → k.pc < 2 ^ 18
kept_placed p s i k o is some e tidy = subst (λ (n : ℕ). n < 2 ^ 18) (sym e) (placed_at p s o i is some tidy)

-- GO, STOP, CONT and INT
on_own : (m : Machine) (s : ℕ) (q : Whole) (f : Job → Job) → m.jobs s ≡ Some q → on_registers m s f ≡ Ok (with_job m s (record q { job = f q.job }))
unfolding on_registers
on_own m s q f is = ap (on_job m s (with_registers m s f)) is

pub registers_done : (old new : Plain) (s : ℕ) (i k : Job) (f : Job → Job) → job_at old.jobs s ≡ Some i → k ≡ f i → bare (f i) ≡ f (bare i)
    → Rewritten old new s k
    → Operates old new s (on_registers (machine_of old) s f)
registers_done old new s i k f had is same w = record {
  is = on_own (machine_of old) s (own_of old s i) f (own_is old s i had)
      ∙ ap (λ (j : Job). Ok (with_job (machine_of old) s (record (own_of old s i) { job = j }))) (sym (ap bare is ∙ same))
      ∙ ap Ok (sym (w.machine ∙ put_slot (machine_of old) s (own_of old s i) (λ q. record q { job = bare k }) (own_is old s i had)));
  touched = w.touched;
  place = w.place;
}

pub registers_refused : (p : Plain) (s : ℕ) (f : Job → Job) (o : Option Job) → o ≡ job_at p.jobs s → o ≡ None
    → on_registers (machine_of p) s f ≡ Err reasons.NoJob
unfolding on_registers
registers_refused p s f o is none = ap (on_job (machine_of p) s (with_registers (machine_of p) s f)) (nobody_is p s (sym is ∙ none))

pub go_done : (old new : Plain) (s a : ℕ) (i k : Job) (o : Option Job) → o ≡ job_at old.jobs s → o ≡ Some i → k ≡ after_go a i → Rewritten old new s k
    → Operates old new s (on_registers (machine_of old) s (after_go a))
go_done old new s a i k o is some e w = registers_done old new s i k (after_go a) (sym is ∙ some) e refl w

pub stop_done : (old new : Plain) (s : ℕ) (i k : Job) (o : Option Job) → o ≡ job_at old.jobs s → o ≡ Some i → k ≡ after_stop i → Rewritten old new s k
    → Operates old new s (on_registers (machine_of old) s after_stop)
stop_done old new s i k o is some e w = registers_done old new s i k after_stop (sym is ∙ some) e refl w

pub cont_done : (old new : Plain) (s : ℕ) (i k : Job) (o : Option Job) → o ≡ job_at old.jobs s → o ≡ Some i → k ≡ after_cont i → Rewritten old new s k
    → Operates old new s (on_registers (machine_of old) s after_cont)
cont_done old new s i k o is some e w = registers_done old new s i k after_cont (sym is ∙ some) e refl w

pub interrupt_done : (old new : Plain) (s v w : ℕ) (i k : Job) (o : Option Job) → o ≡ job_at old.jobs s → o ≡ Some i → k ≡ after_int v w i
    → Rewritten old new s k
    → Operates old new s (on_registers (machine_of old) s (after_int v w))
interrupt_done old new s v w i k o is some e r = registers_done old new s i k (after_int v w) (sym is ∙ some) e refl r

-- STATE
pub state_refused : (p : Plain) (s : ℕ) (o : Option Job) → o ≡ job_at p.jobs s → o ≡ None → state_shown (machine_of p) s ≡ Err reasons.NoJob
unfolding state_shown
state_refused p s o is none =
    ap (on_job (machine_of p) s (λ q. Ok (shown q.job q.superior (symbol_shown q.job.pc ((machine_of p).symbols s))))) (nobody_is p s (sym is ∙ none))

-- EXAM
pub examined_own : (p : Plain) (s a n : ℕ) (i : Job) → job_at p.jobs s ≡ Some i → examined (machine_of p) s a n ≡ seen (words_at (core_at p.core s) a n)
unfolding examined
examined_own p s a n i had = ap (on_job (machine_of p) s (λ q. seen (words_at q.core a n))) (own_is p s i had)

pub exam_refused : (p : Plain) (s a n : ℕ) (o : Option Job) → o ≡ job_at p.jobs s → o ≡ None → examined (machine_of p) s a n ≡ Err reasons.NoJob
unfolding examined
exam_refused p s a n o is none = ap (on_job (machine_of p) s (λ q. seen (words_at q.core a n))) (nobody_is p s (sym is ∙ none))

-- DEPOSIT
deposited_own : (p : Plain) (s a w : ℕ) (i : Job) → job_at p.jobs s ≡ Some i
    → after_deposit (machine_of p) s a w ≡ with_core (machine_of p) s (own_of p s i)
    (after_deposit_in (core_at p.core s) a w (can_store (core_at p.core s) a) (is_some (word_at (core_at p.core s) a)))
unfolding after_deposit
deposited_own p s a w i had =
    ap (on_job (machine_of p) s (λ q. with_core (machine_of p) s q
    (after_deposit_in q.core a w (can_store q.core a) (is_some (word_at q.core a))))) (own_is p s i had)

pub deposit_done : (old put new : Plain) (s a w : ℕ) (i : Job) → s < slots → job_at old.jobs s ≡ Some i → can_store (core_at old.core s) a ≡ true
    → CoreBecomes old put s (store (core_at old.core s) a w) → new ≡ record put { touched = one_slot s }
    → Operates old new s (after_deposit (machine_of old) s a w)
deposit_done old put new s a w i l had can b e = record {
  is = deposited_own old s a w i had
      ∙ ap (λ x. with_core (machine_of old) s (own_of old s i) (after_deposit_in (core_at old.core s) a w x (is_some (word_at (core_at old.core s) a)))) can
      ∙ ap Ok (sym (touched_machine put new (one_slot s) e ∙ core_machine old put s (store (core_at old.core s) a w) i b had
      ∙ put_slot (machine_of old) s (own_of old s i) (λ q. record q { core = store (core_at old.core s) a w }) (own_is old s i had)));
  touched = only_touched put new s l e;
  place = ap (λ (p : Plain). p.place) e ∙ place_as b.aside.is;
}

pub deposit_tidy : (old put new : Plain) (s : ℕ) (c : Core) (i : Job) → job_at old.jobs s ≡ Some i → CoreBecomes old put s c
    → new ≡ record put { touched = one_slot s } → Tidy old → Tidy new
deposit_tidy old put new s c i had b e tidy = touched_tidy put new (one_slot s) e (core_tidy old put s c i b had tidy)

barred : (m : Machine) (s : ℕ) (q : Whole) (c : Core) (a w : ℕ) (can : Bool) (o : Option ℕ) (e : NoAccess) → putting c a w can o ≡ Err e
    → with_core m s q (after_deposit_in c a w can (is_some o)) ≡ Err (reason_of (refusal_of e))
barred m s q c a w true o e h = cc
barred m s q c a w false (Some v) e h = let is : ReadOnly ≡ e = cc in ap (λ (x : NoAccess). Err (reason_of (refusal_of x))) is
barred m s q c a w false None e h = let is : Absent ≡ e = cc in ap (λ (x : NoAccess). Err (reason_of (refusal_of x))) is

pub deposit_barred : (p : Plain) (s a w : ℕ) (i : Job) (o : Option Job) (e : NoAccess) (r : Refusal) → o ≡ job_at p.jobs s → o ≡ Some i
    → put (core_at p.core s) a w ≡ Err e → r ≡ refusal_of e
    → after_deposit (machine_of p) s a w ≡ Err (reason_of r)
deposit_barred p s a w i o e r same some h is =
    deposited_own p s a w i (sym same ∙ some)
    ∙ barred (machine_of p) s (own_of p s i) (core_at p.core s) a w (can_store (core_at p.core s) a) (word_at (core_at p.core s) a) e h
    ∙ ap (λ (x : Refusal). Err (reason_of x)) (sym is)

pub deposit_refused : (p : Plain) (s a w : ℕ) (o : Option Job) → o ≡ job_at p.jobs s → o ≡ None → after_deposit (machine_of p) s a w ≡ Err reasons.NoJob
unfolding after_deposit
deposit_refused p s a w o is none =
    ap (on_job (machine_of p) s (λ q. with_core (machine_of p) s q
    (after_deposit_in q.core a w (can_store q.core a) (is_some (word_at q.core a))))) (nobody_is p s (sym is ∙ none))
