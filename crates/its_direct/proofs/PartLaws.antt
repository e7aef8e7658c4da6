-- A part of a call that disturbs nobody, and what the call asks for after it.
use Rattle.std.specs.Prelude.{◌≡◌, ◌<◌, ◌≤◌, ◌^◌, ◌+◌, ◌-◌, ◌++◌, ℕ, zero, suc, Bool, true, false, Option, Some, None, IfSome, option_map, List, [], ◌∷◌, length, slice_index_or, slice_set, take, drop, Result, Ok, refl}
use Rattle.std.specs.List.{list_any}
use Rattle.std.proofs.Common.{sym, ap, ◌∙◌, subst, arith}
use Rattle.std.proofs.lemmas.Bool.{false≢true}
use Rattle.std.proofs.lemmas.Option.{same_Some}
use Rattle.its_word.specs.ArrayVec.{ArrayVec}
use Rattle.its_word.specs.Core.{Core}
use Rattle.its_word.specs.declared.access.Fault.{Fault}
use Rattle.its_records.specs.declared.calls.Ask.{Ask}
use Rattle.its_records.specs.declared.calls.Operand.{Operand}
use Rattle.its_records.specs.declared.jobs.Job.{Job}
use Rattle.its_core.specs.Cores.{core_at}
use Rattle.its_jobs.specs.Table.{job_at}
use Rattle.its_frame.specs.declared.change.Change.{Change}
use Rattle.its_frame.specs.declared.decision.Decision.TheVariants.{Goes}
use Rattle.its_frame.specs.declared.decision.Held.{Held}
use Rattle.its_word.specs.Stores.{stored}
use Rattle.its_plain.specs.Call.Arguments.{debts, operands_with_values, with_new_values}
use Rattle.its_plain.specs.Call.Step.{Transition, acted, after_moves, decision, is_made, transition}
use Rattle.its_plain.specs.Machine.Change.{effects, in_job}
use Rattle.its_plain.specs.Call.Decide.{reach}
use Rattle.its_plain.specs.Call.Decode.{ask}
use Rattle.its_plain.specs.Call.Footprint.{Stands}
use Rattle.its_plain.specs.Unit.Interrupt.{deliverable}
use Rattle.its_plain.specs.Machine.{Machine, Whole}
use Rattle.its_plain.specs.Call.Moves.{moves_of_all}
use Rattle.its_plain.specs.Unit.{Called, unit}
use Rattle.its_plain.proofs.StepLaws.{transition_called}
use Rattle.its_shared.proofs.PartLaws.{on_slot_here}
use Rattle.its_stepped.specs.Commit.{effects_on}
use Rattle.its_stepped.specs.Duty.{Duty, Going}
use Rattle.its_stepped.specs.State.{State}
use Rattle.its_stepped.specs.Tick.{reserves}
use Rattle.its_stepped.proofs.Frame.DecodingLaws.{decoding}
use Rattle.its_stepped.proofs.Duties.GivenLaws.{decision_duty}
use Rattle.its_stepped.proofs.Frame.OwnLaws.{Sees, spared}
use Rattle.its_stepped.proofs.Frame.OwnLaws as owns
use Rattle.its_direct.specs.Effects.{Becomes}
use Rattle.its_direct.specs.Events.{Kept}
use Rattle.pdp_exec.specs.Near.{near_site}
use Rattle.pdp_exec.specs.declared.near.Near.{Near}
use Rattle.its_decide.specs.Moving.{moving}
use Rattle.its_decide.specs.Seen.{machine_seen, raw_with}
use Rattle.its_decide.specs.declared.caller.Seen.{Seen}
use Rattle.its_decide.specs.declared.moving.NextMove.{NextMove}
use Rattle.its_direct.specs.Parts.{AtCall, Decides, InParts, OnePart, PartIf, no_input, with_input}
use Rattle.its_direct.specs.Plain.{machine_of, no_slots, Tidy}
use Rattle.its_direct.specs.Ready.{CanCarryOut, held_in}
use Rattle.its_direct.specs.Steps.{Lent, SteppedBy, is_making, own_of}
use Rattle.its_direct.specs.Waiting.{AtHand}
use Rattle.its_direct.specs.declared.plain.Plain.{Plain}
use Rattle.its_direct.specs.declared.plain.Spot.TheVariants as spots
use Rattle.its_direct.proofs.CallingLaws.{all_alike, beginning, calling, nobody, page_for}
use Rattle.its_direct.proofs.CallStepLaws.{decision_seen, kept_after, lent_machine, lent_own}
use Rattle.its_direct.proofs.HandLaws.{hand_of}
use Rattle.its_direct.proofs.MadeLaws.{unmade_going}
use Rattle.its_direct.proofs.ReadyLaws.{addressed, ready}
use Rattle.its_direct.proofs.SlotLaws.{touched_machine}
use Rattle.its_direct.proofs.TouchLaws.{none_touched}
use Rattle.its_direct.proofs.UserLaws.{own_is, quiet_is, unit_is}

-- the last two of three inputs get new values
renewed_list : (xs : List Operand) (v w : ℕ) → length xs ≡ 3
    → slice_set (slice_set xs 1 (record (slice_index_or xs 1 no_input) { value = v })) 2
    (record (slice_index_or (slice_set xs 1 (record (slice_index_or xs 1 no_input) { value = v })) 2 no_input) { value = w })
    ≡ take (length xs - 2) xs ++ operands_with_values (drop (length xs - 2) xs) (v ∷ w ∷ [])
renewed_list (x ∷ y ∷ z ∷ []) v w l = refl
renewed_list [] v w l = absurd cc
renewed_list (x ∷ []) v w l = absurd (omega arith)
renewed_list (x ∷ y ∷ []) v w l = absurd (omega arith)
renewed_list (x ∷ y ∷ z ∷ u ∷ xs) v w l = absurd (omega arith)

pub renewed : (a : Ask) (v w : ℕ) → length a.inputs.items ≡ 3 → with_input (with_input a 1 v) 2 w ≡ with_new_values a (v ∷ w ∷ [])
unfolding with_new_values
renewed a v w l = ap (λ (os : List Operand). record a { inputs = record { items = os } }) (renewed_list a.inputs.items v w l)

-- parts, one after another
pub no_parts : (old : Plain) (s n : ℕ) → n ≡ 0 → InParts n (machine_of old) s (machine_of old)
no_parts old s n none = subst (λ k. InParts k (machine_of old) s (machine_of old)) (sym none) refl

one_more : (n : ℕ) (m p o : Machine) (j : ℕ) → InParts n m j p → OnePart p j o → InParts (suc n) m j o
one_more zero m p o j so one = (o, subst (λ (x : Machine). OnePart x j o) so one, refl)
one_more (suc n) m p o j so one = (so.0, so.1, one_more n so.0 p o j so.2 one)

pub parts_more : (old now new : Plain) (s n : ℕ) (a : Ask) (b : Bool) → b ≡ true → InParts n (machine_of old) s (machine_of now)
    → PartIf b now new s a → InParts (n + 1) (machine_of old) s (machine_of new)
parts_more old now new s n a true is so one = subst (λ k. InParts k (machine_of old) s (machine_of new)) (next n)
    (one_more n (machine_of old) (machine_of now) (machine_of new) s so one.0)
  where
    next : (k : ℕ) → suc k ≡ k + 1
    next k = omega arith
parts_more old now new s n a false is so one = absurd (false≢true is)

pub parts_at : (now new : Plain) (s : ℕ) (a : Ask) (b : Bool) → b ≡ true → PartIf b now new s a → AtCall (machine_of new) s a
parts_at now new s a true is one = one.1
parts_at now new s a false is one = absurd (false≢true is)

pub parts_end : (old now new : Plain) (s n : ℕ) (a : Ask) (b : Bool) → b ≡ false → InParts n (machine_of old) s (machine_of now)
    → PartIf b now new s a → InParts n (machine_of old) s (machine_of new)
parts_end old now new s n a false is so one = subst (λ (p : Plain). InParts n (machine_of old) s (machine_of p)) (sym one) so
parts_end old now new s n a true is so one = absurd (false≢true (sym is))

pub parts_all : (m o : Machine) (s k n : ℕ) → k ≤ n → n ≤ k → InParts k m s o → InParts n m s o
parts_all m o s k n few most so = subst (λ (i : ℕ). InParts i m s o) (le_antisym k n few most) so
  where
    le_antisym : (i j : ℕ) → i ≤ j → j ≤ i → i ≡ j
    le_antisym i j a b = omega arith

-- a job at a call
pub at_call : (p : Plain) (s : ℕ) (n : Near) (i : Job) (a : Ask) (r : Result Ask Fault) → AtHand p s n → job_at p.jobs s ≡ Some i
    → r ≡ ask (core_at p.core s) (near_site i.pc n) → r ≡ Ok a
    → AtCall (machine_of p) s a
at_call p s n i a r h had e got =
    let o = hand_of p s n i h had in
    record {
      own = own_of p s i;
      site = near_site i.pc n;
      had = own_is p s i had;
      runs = o.runs;
      quiet = quiet_is p s i false o.quiet;
      stands = record { unit_is = unit_is p s i (Called (near_site i.pc n)) o.unit; ask_is = sym e ∙ got };
    }

pub decides : (p : Plain) (v : Seen) (s : ℕ) (i : Job) (a : Ask) (o : Option NextMove) → Lent p v → job_at p.jobs s ≡ Some i
    → IfSome o (λ m. moving m ≡ decision (machine_seen v) s (raw_with v s i) a)
    → IfSome o (λ m. reach (machine_seen v) s (raw_with v s i) a ≡ []) → IfSome o (λ m. Decides (machine_of p) s a (moving m))
decides p v s i a None h had e alone = tt
decides p v s i a (Some m) h had e alone = record {
  own = own_of p s i;
  had = own_is p s i had;
  is = sym (e ∙ decision_seen p v s i a h);
  alone = sym (λ t. reach (lent_machine p v h t) s (lent_own p v s i h t) a) ∙ alone;
}

-- the words and the registers of a job after a part
moved_job : (a : Ask) (h : Option Held) (vs : List ℕ) (q : Whole) → (after_moves a h vs q).job ≡ q.job
moved_job a (Some b) vs q = refl
moved_job a None vs q = refl

moved_core : (a : Ask) (h : Option Held) (vs : List ℕ) (q : Whole)
    → (after_moves a h vs q).core ≡ stored (held_in q.core (with_new_values a vs) h) (debts (with_new_values a vs) (length vs))
moved_core a (Some b) vs q = refl
moved_core a None vs q = refl

abbrev going_step : Machine → ℕ → Ask → List Change → Option Held → List ℕ → Transition
going_step m j a cs h vs = record { machine = in_job (effects cs j m) j (after_moves a h vs); moves = moves_of_all cs j m; disturbs = []; part = true }

going_is : (m : Machine) (j : ℕ) (a : Ask) (cs : ArrayVec Change) (h : Option Held) (vs : ArrayVec ℕ)
    → acted m j a [] (Goes cs h vs) ≡ Some (going_step m j a cs.items h vs.items)
unfolding acted
going_is m j a cs h vs = refl

-- a part that is decided
module _ (old : Plain) (s : ℕ) (a : Ask) (cs : ArrayVec Change) (h : Option Held) (vs : ArrayVec ℕ) (kept : Kept old)
    (at : AtCall (machine_of old) s a) (dec : Decides (machine_of old) s a (Goes cs h vs)) where
  abbrev m : Machine
  m = machine_of old

  abbrev begun : State
  begun = beginning m nobody (page_for (reserves a))

  same_own : dec.own ≡ at.own
  same_own = same_Some dec.own at.own (sym dec.had ∙ at.had)

  decided_is : decision m s at.own a ≡ Goes cs h vs
  decided_is = ap (λ (q : Whole). decision m s q a) (sym same_own) ∙ dec.is

  alone_is : reach m s at.own a ≡ []
  alone_is = ap (λ (q : Whole). reach m s q a) (sym same_own) ∙ dec.alone

  duty : Going begun s at.own at.site a 0 cs.items h vs.items
  duty = subst (Duty begun s at.own at.site a 0) decided_is
      (decision_duty decoding m begun s at.own at.site a 0 (calling m s at.own at.site a nobody kept.forest at.had at.stands tt (λ k e. refl) (λ k e. refl)))

  pub part_can : CanCarryOut m s a (Goes cs h vs)
  part_can = subst (CanCarryOut m s a) decided_is
      (ready m s at.own at.site a kept.forest kept.consoled at.had
      (subst (λ (w : Option Whole). IfSome w (λ q. q.job.pc < 2 ^ 18)) at.had ((addressed old kept.tidy).each s)) at.stands)

  step_is : transition m s ≡ Some (going_step m s a cs.items h vs.items)
  step_is = transition_called m s at.own at.site (Ok a) at.had at.runs at.quiet at.stands.unit_is at.stands.ask_is
      ∙ (λ t. acted m s a (alone_is t) (decided_is t)) ∙ going_is m s a cs h vs

  -- the job after it
  sees : Sees owns.own_of ((effects_on cs.items s begun).raw.jobs s) (owns.own_of at.own)
  sees = spared cs.items s begun at.own duty.spare at.had

  behind_is : (effects cs.items s m).jobs s ≡ Some sees.whole
  behind_is = sym (ap (λ (jobs : ℕ → Option Whole). jobs s) (all_alike cs.items s begun m refl)) ∙ sees.is

  job_is : (after_moves a h vs.items sees.whole).job ≡ at.own.job
  job_is = moved_job a h vs.items sees.whole ∙ ap (λ (p : Core × Job). p.1) sees.same

  core_is : (after_moves a h vs.items at.own).core ≡ (after_moves a h vs.items sees.whole).core
  core_is = moved_core a h vs.items at.own
      ∙ ap (λ (c : Core). stored (held_in c (with_new_values a vs.items) h) (debts (with_new_values a vs.items) (length vs.items)))
      (sym (ap (λ (p : Core × Job). p.0) sees.same))
      ∙ sym (moved_core a h vs.items sees.whole)

  at_after : AtCall (in_job (effects cs.items s m) s (after_moves a h vs.items)) s (with_new_values a vs.items)
  at_after = record {
    own = after_moves a h vs.items sees.whole;
    site = at.site;
    had = on_slot_here (effects cs.items s m).jobs s (after_moves a h vs.items) ∙ ap (option_map (after_moves a h vs.items)) behind_is;
    runs = ap (λ (j : Job). j.stopped) job_is ∙ at.runs;
    quiet = ap deliverable job_is ∙ at.quiet;
    stands = subst (λ (c : Core). Stands c (after_moves a h vs.items sees.whole).job at.site (with_new_values a vs.items)) core_is
        (subst (λ (j : Job). Stands (after_moves a h vs.items at.own).core j at.site (with_new_values a vs.items)) (sym job_is) duty.stands);
  }

  module _ (mid new : Plain) (b : Ask) (none : list_any is_making cs.items ≡ false)
      (row : Becomes old mid (in_job (effects cs.items s m) s (after_moves a h vs.items)))
      (e : new ≡ record mid { touched = no_slots }) (renewed_is : b ≡ with_new_values a vs.items) where
    new_is : machine_of new ≡ in_job (effects cs.items s m) s (after_moves a h vs.items)
    new_is = touched_machine mid new no_slots e ∙ row.machine

    unmade_is : (k : ℕ) → is_made m (in_job (effects cs.items s m) s (after_moves a h vs.items)) k ≡ false
    unmade_is k = unmade_going m s a cs h vs k none

    pub part_place : new.place ≡ old.place
    part_place = ap (λ (p : Plain). p.place) e ∙ row.place

    stepped : SteppedBy old new (transition m s)
    stepped = record {
      transition = going_step m s a cs.items h vs.items;
      is = step_is;
      steps = record {
        machine = new_is;
        touched = λ k. none_touched new.touched (ap (λ (p : Plain). p.touched) e) k ∙ sym (unmade_is k);
        place = part_place;
      };
    }

    pub part_row : PartIf true old new s b
    part_row = (
      record {
        step = going_step m s a cs.items h vs.items;
        is = step_is;
        machine = new_is;
        part = refl;
        alone = refl;
        unmade = λ k. ap (λ (n : Machine). is_made m n k) new_is ∙ unmade_is k;
      },
      subst (λ (n : Machine). AtCall n s b) (sym new_is) (subst (AtCall (in_job (effects cs.items s m) s (after_moves a h vs.items)) s)
          (sym renewed_is) at_after),
    )

    pub part_kept : old.place ≡ spots.Plain → Tidy new → Kept new
    part_kept outside tidy = kept_after old new s true outside kept stepped tidy
