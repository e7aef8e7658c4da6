-- The integrity of a session, along the one run of its lines (docs/MACHINE.md, "Who may touch
-- what").
use Rattle.std.specs.Prelude.{option_map, ◌≡◌, ◌≢◌, ◌<◌, ℕ, true, false, Option, Some, None, is_some, unwrap_or, List, [], ◌∷◌, Result, Ok, Err, refl}
use Rattle.std.proofs.Common.{sym, ◌∙◌, ap, subst, inl, inr}
use Rattle.std.proofs.lemmas.Bool.{cases_eq, ne_eqb}
use Rattle.its_records.specs.Item.{Item}
use Rattle.its_word.specs.Limits.{slots}
use Rattle.its_records.specs.declared.calls.Pace.{Pace}
use Rattle.its_records.specs.declared.calls.Pace.TheVariants.{Step, Work, Wait, Off}
use Rattle.its_records.specs.declared.session.Event.{Event}
use Rattle.its_records.specs.declared.session.Event.TheVariants as events
use Rattle.its_records.specs.declared.session.Reason.{Reason}
use Rattle.its_records.specs.declared.state_line.StateLine.TheVariants as states
use Rattle.its_print.specs.Printing.{Line}
use Rattle.its_plain.specs.Call.File.{file_named}
use Rattle.its_plain.specs.Call.Step.{step}
use Rattle.its_plain.specs.Machine.Change.{channel_in, superiors, is_gone, job_after_removal, after_removal, with_inf}
use Rattle.its_plain.specs.Transcript.Course.{Lines, Letter, Moment, moment_at, machine_after, run_of}
use Rattle.its_security.specs.OperatorParts.{touched}
use Rattle.its_security.specs.Integrity.{with_inf_in, Removes, nobody, by_logout, by_uclose, JobMay, job_written, superior_informed, job_made, JobsMay, others_same, one_changes, MayStep, ReachesNobody, OnlyTells, tells_nothing, tells_stop, tells_end, makes_job}
use Rattle.its_plain.specs.Machine.{Names, File, Reads, Whole, Machine}
use Rattle.its_plain.specs.Operator.{Block, Does, Refuses, Ticks, Quits, quietly}
use Rattle.its_plain.specs.Operator.Lines.{Lined, Done, Peeks, lined, operate}
use Rattle.its_plain.specs.Machine.Own.{names_of}
use Rattle.its_plain.specs.Operator.State.{restored}
use Rattle.its_security.specs.RunIntegrity.{OwnStep, MayDo, EachMay, IsReader, ReadsOn, IsSpared, AllSpared, Integrity}
use Rattle.its_plain.specs.Promise.Stretch.{machine_at, end_of}
use Rattle.its_plain.specs.Transcript.{Walk, at_start}
use Rattle.its_plain.specs.Transcript.Turns.{highest}
use Rattle.its_security.proofs.PartsLaws.{PartsOf, line_parts}
use Rattle.its_stepped.specs.Forest.{Forest}
use Rattle.its_stepped.proofs.Running.CourseLaws.{Linked, EachMoment, run_course, linked_middle}
use Rattle.its_stepped.proofs.Keeping.ForestLaws.{forest_starts, job_few}
use Rattle.its_security.proofs.OthersLaws.{left_same, slot_other, here, superior_job, superior_of_gone}
use Rattle.its_security.proofs.IntegrityLaws.{nothing_may, step_may}
use Rattle.its_security.proofs.ReaderLaws.{FileKept, file_stays, file_made_stays, words_stay}

-- a job that reaches nobody: when it logs out, another job is as before, unless it is the superior
not_gone : (m : Machine) (j k : ℕ) → ReachesNobody m j → k ≢ j → is_gone (superiors m) j k ≡ false
not_gone m j k r ne = rw (ne_eqb k j ne, r.inferiors k) refl

left_others : (m : Machine) (j k : ℕ) → Forest m → ReachesNobody m j → k ≢ j → superiors m j ≢ Some k → (after_removal (superiors m) j m).jobs k ≡ m.jobs k
unfolding after_removal
left_others m j k d r ne up = ap (λ b. job_after_removal (is_gone (superiors m) j) b (m.jobs k)) (not_gone m j k r ne)
    ∙ left_same m j k (m.jobs k) refl d (not_gone m j k r ne) up

told_others : (m n : Machine) (j k : ℕ) (o : Option ℕ) → Forest m → ReachesNobody m j → k ≢ j → superiors m j ≡ o → n.jobs j ≡ None
    → n.jobs k ≡ (with_inf_in o (after_removal (superiors m) j m)).jobs k → OnlyTells m n j k
told_others m n j k None d r ne up gone e = tells_nothing (e ∙ left_others m j k d r ne (λ t. (let no : None ≡ Some k = sym up ∙ t in cc)))
told_others m n j k (Some s) d r ne up gone e =
    let l = after_removal (superiors m) j m in
    elim (cases_eq k s) [
      | inl at ↦ (
          let q = superior_job m j s d up in
          tells_end q.0 (up ∙ ap Some (sym at)) (ap m.jobs at ∙ q.1) gone
          (e ∙ here l.jobs s k with_inf at ∙ ap (λ (i : ℕ). option_map with_inf (l.jobs i)) at
          ∙ ap (option_map with_inf) (superior_of_gone m j s q.0 d up q.1))
          )
      | inr other ↦ tells_nothing (e ∙ slot_other l.jobs s k with_inf other ∙ left_others m j k d r ne (λ t. other (same k s (sym t ∙ up))))
    ]
  where
    same : (k s : ℕ) → Some k ≡ Some s → k ≡ s
    same k s e = cc

tells_left : (m n : Machine) (j k : ℕ) (l : Machine) → Forest m → ReachesNobody m j → k ≢ j → Removes m n j l → n.jobs k ≡ l.jobs k → OnlyTells m n j k
tells_left m n j k l d r ne nobody e = tells_nothing e
tells_left m n j k l d r ne (by_logout gone) e = told_others m n j k (superiors m j) d r ne refl gone e
tells_left m n j k l d r ne (by_uclose i s at write is up) e = absurd (r.channels i s at write is)

tells_one : (m n : Machine) (j k : ℕ) → ReachesNobody m j → JobMay m n j k → OnlyTells m n j k
tells_one m n j k r (job_written q p leave is at w) = absurd (r.channels leave.channel k leave.position true leave.is)
tells_one m n j k r (superior_informed q up over is at) = tells_stop q up over is at
tells_one m n j k r (job_made u x least free at) = makes_job u x least free at

tells : (m n : Machine) (j k : ℕ) (l : Machine) → Forest m → ReachesNobody m j → k ≢ j → Removes m n j l → JobsMay m l n j → OnlyTells m n j k
tells m n j k l d r ne h (others_same e) = tells_left m n j k l d r ne h (e k ne)
tells m n j k l d r ne h (one_changes s apart none may rest) = elim (cases_eq k s) [
  | inl at ↦ tells_one m n j k r (subst (JobMay m n j) (sym at) may)
  | inr other ↦ tells_nothing (rest k ne other)
]

own_step : (m n : Machine) (j : ℕ) → Forest m → MayStep m j n → OwnStep m j n
own_step m n j d h = record { may = h; stranger = λ r k ne. tells m n j k h.left d r ne h.removes h.jobs }

step_or_not : (m : Machine) (j : ℕ) (o : Option Machine) → step m j ≡ o → Forest m → MayStep m j (unwrap_or o m)
step_or_not m j (Some n) e forest = step_may m n j forest e
step_or_not m j None e forest = nothing_may m j forest

-- every moment changes what it may
abbrev May : Moment → Machine → Type 0
May t n = MayDo t.machine t.block t.deed n

letter_may : (v : Walk) (i : ℕ) (p : Pace) → Forest v.machine → May (moment_at v (Letter i p)) (machine_after v.machine i p)
letter_may v i Step forest = own_step v.machine _ i forest (step_or_not v.machine i (step v.machine i) refl forest)
letter_may v i Work forest = refl
letter_may v i Wait forest = refl
letter_may v i Off forest = refl

each_may : EachMoment May
each_may = record {
  letter = letter_may;
  turn = λ v s forest. refl;
  line = λ v e n out t c forest is. subst (PartsOf (touched v.machine v.block e) v.machine) is (line_parts v.machine v.block e);
}

all_may : (ts : List Moment) (n : Machine) → Linked May ts n → EachMay ts n
all_may [] n h = tt
all_may (t ∷ ts) n h = (h.0, all_may ts n h.1)

-- what a reader reads stays
abbrev Stays : Moment → Machine → Type 0
Stays t n = (k i : ℕ) (names : Names) (f : File) → i < 16 → IsReader t.machine k i names → IsSpared names t.block t.deed
    → file_named names t.machine.files ≡ Some f → file_named names n.files ≡ Some f

reader_slot : (m : Machine) (k i : ℕ) (names : Names) → Forest m → IsReader m k i names → k < slots
reader_slot m k i names forest r = job_few m forest k (there (m.jobs k) r.is)
  where
    there : (o : Option Whole) → channel_in o i ≡ Reads names r.position → is_some o ≡ true
    there (Some q) e = refl
    there None e = cc

letter_stays : (v : Walk) (i : ℕ) (p : Pace) → Forest v.machine → Stays (moment_at v (Letter i p)) (machine_after v.machine i p)
letter_stays v i Step forest = λ k c names f few r spared there.
    file_stays v.machine _ i k c r.position names f (reader_slot v.machine k c names forest r) few r.is
    (step_or_not v.machine i (step v.machine i) refl forest).files there
letter_stays v i Work forest = λ k c names f few r spared there. there
letter_stays v i Wait forest = λ k c names f few r spared there. there
letter_stays v i Off forest = λ k c names f few r spared there. there

-- a line leaves a file that it spares
abbrev LeavesOf : Names → File → Lined → Type 0
LeavesOf names f (Done (Does n out t c)) = file_named names n.files ≡ Some f
LeavesOf names f _ = Unit {0}

quiet_leaves : (names : Names) (f : File) (b : Block) (r : Result Machine Reason) → FileKept names f r → LeavesOf names f (Done (quietly b r))
quiet_leaves names f b (Ok n) h = h
quiet_leaves names f b (Err r) h = tt

-- the directory is no part that the line may change
by_parts : (m : Machine) (b : Block) (e : Event) (names : Names) (f : File) (l : Lined) → (touched m b e).files ≡ false
    → PartsOf (touched m b e) m l → file_named names m.files ≡ Some f → LeavesOf names f l
by_parts m b e names f (Done (Does n out t c)) none h there = ap (file_named names) (h.files none) ∙ there
by_parts m b e names f (Done (Refuses r)) none h there = tt
by_parts m b e names f (Done (Ticks s k)) none h there = tt
by_parts m b e names f (Done Quits) none h there = tt
by_parts m b e names f (Peeks s) none h there = tt

line_leaves : (m : Machine) (b : Block) (e : Event) (names : Names) (f : File) → IsSpared names b (Lines e)
    → file_named names m.files ≡ Some f → LeavesOf names f (lined m b e)
unfolding lined operate restored
line_leaves m b (events.File d x y) names f spared there = quiet_leaves names f _ _ (file_made_stays m (names_of d x y) names f there)
line_leaves m b (events.Append words) names f spared there = quiet_leaves names f b _ (words_stay words.items m b.file names f spared there)
line_leaves m b (events.Restore (states.File d x y)) names f spared there = quiet_leaves names f _ _ (file_made_stays m (names_of d x y) names f there)
line_leaves m b (events.Restore (states.FileWords words)) names f spared there =
    quiet_leaves names f b _ (words_stay words.items m b.file names f spared there)
line_leaves m b e names f spared there = by_parts m b e names f (lined m b e) refl (line_parts m b e) there

each_stays : EachMoment Stays
each_stays = record {
  letter = letter_stays;
  turn = λ v s forest. λ k i names f few r spared there. there;
  line = λ v e n out t c forest is. λ k i names f few r spared there. subst (LeavesOf names f) is (line_leaves v.machine v.block e names f spared there);
}

reading : (ts : List Moment) (n : Machine) (k i : ℕ) (names : Names) (f : File) → i < 16 → Linked Stays ts n → ReadsOn k i names ts
    → AllSpared names ts → file_named names (machine_at ts n).files ≡ Some f
    → file_named names n.files ≡ Some f
reading [] n k i names f few h r spared there = there
reading (t ∷ ts) n k i names f few h r spared there = reading ts n k i names f few h.1 r.1 spared.1 (h.0 k i names f few r.0 spared.0 there)

-- the run of any lines
pub integrity : (es : List Item) (lines : List Line) → Integrity es lines
integrity es lines = record {
  moments = all_may (run_of es lines).moments (run_of es lines).last (run_course each_may at_start highest es lines forest_starts).linked;
  readers = λ x.
      let u = run_of es lines in
      let linked = subst (λ (ts : List Moment). Linked Stays ts u.last) x.section.whole
      (run_course each_stays at_start highest es lines forest_starts).linked in
      reading x.section.moments (end_of u x.section) x.slot x.channel x.names x.file x.real
      (linked_middle Stays x.section.before x.section.moments x.section.after u.last linked) x.reads x.spared x.there;
}
