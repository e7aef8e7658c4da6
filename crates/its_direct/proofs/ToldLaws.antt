-- What an event that was obeyed leaves: what holds between two events, the place of the next line,
-- and the jobs that there were.
use Rattle.std.specs.Prelude.{◌≡◌, true, Option, Some, None, is_some, IfOk, OnErr, Result, Ok, Err, refl}
use Rattle.std.proofs.Common.{ap, sym, subst, ◌∙◌}
use Rattle.std.proofs.lemmas.Bool.{false≢true}
use Rattle.its_records.specs.declared.session.Event.{Event}
use Rattle.its_records.specs.declared.session.Refusal.{Refusal}
use Rattle.its_session.specs.Events.{place_after}
use Rattle.its_session.specs.Fits.{EventFits}
use Rattle.its_plain.specs.Machine.{Whole, Machine, no_machine}
use Rattle.its_plain.specs.Operator.{Block, no_block, Does, Refuses, Ticks, Quits}
use Rattle.its_plain.specs.Operator.Lines.{Lined, Done, Peeks, lined}
use Rattle.its_plain.proofs.CallLineLaws.{line_stays}
use Rattle.its_stepped.specs.Alarmed.{Alarmed}
use Rattle.its_stepped.specs.Consoled.{Consoled}
use Rattle.its_stepped.specs.Forest.{Forest}
use Rattle.its_stepped.proofs.Keeping.AlarmLaws.{alarmed_starts, line_alarmed}
use Rattle.its_stepped.proofs.Keeping.ConsoledLaws.{consoled_starts}
use Rattle.its_stepped.proofs.Keeping.ForestLaws.{forest_starts}
use Rattle.its_stepped.proofs.Running.WrittenLaws.{line_forest}
use Rattle.its_direct.specs.Events.{SpotFits, Kept, MayStand, spot_place, Speaks, Obeys, Told, JobsStay}
use Rattle.its_direct.specs.Plain.{machine_of, Tidy}
use Rattle.its_direct.specs.declared.lines.events.Answer.{Answer}
use Rattle.its_direct.specs.declared.plain.Plain.{Plain}
use Rattle.its_direct.specs.declared.plain.Spot.{Spot}
use Rattle.its_direct.specs.declared.plain.Spot.TheVariants as spots
use Rattle.its_direct.proofs.HousedLineLaws.{line_consoled}
use Rattle.its_direct.proofs.PlacedLaws.{Placed, PlacedBy, line_placed, placed_block, spot_placed}

-- what holds at the start of a session
pub alarmed_open : (p : Plain) → machine_of p ≡ no_machine → Alarmed (machine_of p)
alarmed_open p start = subst Alarmed (sym start) alarmed_starts

pub kept_starts : (p : Plain) → Tidy p → machine_of p ≡ no_machine → p.place ≡ spots.Plain → Kept p
kept_starts p tidy start place = record {
  tidy = tidy;
  forest = subst Forest (sym start) forest_starts;
  alarmed = subst Alarmed (sym start) alarmed_starts;
  consoled = subst Consoled (sym start) consoled_starts;
  placed = subst (SpotFits (machine_of p)) (sym place) tt;
}

-- a block of which a place speaks
abbrev block_at : Spot → Block
block_at spots.Plain = no_block
block_at (spots.System s names) = record { slot = s; file = names }
block_at (spots.Load s) = record no_block { slot = s }
block_at (spots.File names) = record no_block { file = names }

speaks_at : (x : Spot) → Speaks x (block_at x)
speaks_at spots.Plain = tt
speaks_at (spots.System s names) = (refl, refl)
speaks_at (spots.Load s) = refl
speaks_at (spots.File names) = refl

-- what an event leaves that was obeyed
obeyed_kept : (e : Event) (a : Answer) (old new : Plain) (b : Block) (l : Lined) → EventFits 2 e → MayStand (spot_place old.place) e
    → Speaks old.place b → spot_place new.place ≡ place_after (spot_place old.place) e
    → lined (machine_of old) b e ≡ l → Obeys a old new l → Kept old → Tidy new → Kept new
obeyed_kept e a old new b (Done (Does n out touched c)) ranged stands speaks leads is o kept tidy = record {
  tidy = tidy;
  forest = subst Forest (sym o.0) (line_forest (machine_of old) n b c e out touched kept.forest is);
  alarmed = subst Alarmed (sym o.0) (line_alarmed (machine_of old) n b c e out touched kept.forest kept.alarmed is);
  consoled = subst Consoled (sym o.0) (line_consoled 2 (machine_of old) n b c e out touched ranged kept.consoled is);
  placed = spot_placed (machine_of new) new.place c (place_after (spot_place old.place) e) leads o.2
      (subst (λ (m : Machine). Placed m c (place_after (spot_place old.place) e)) (sym o.0)
      (subst (PlacedBy (place_after (spot_place old.place) e)) is
      (line_placed (machine_of old) b (spot_place old.place) e stands (placed_block (machine_of old) old.place b speaks kept.placed))));
}
obeyed_kept e a old new b (Done (Refuses r)) ranged stands speaks leads is o kept tidy = absurd o
obeyed_kept e a old new b (Done (Ticks s k)) ranged stands speaks leads is o kept tidy = absurd o
obeyed_kept e a old new b (Done Quits) ranged stands speaks leads is o kept tidy = absurd o
obeyed_kept e a old new b (Peeks s) ranged stands speaks leads is o kept tidy = record {
  tidy = tidy;
  forest = subst Forest (sym o.0) kept.forest;
  alarmed = subst Alarmed (sym o.0) kept.alarmed;
  consoled = subst Consoled (sym o.0) kept.consoled;
  placed = subst (SpotFits (machine_of new)) (sym o.2) (subst (λ (m : Machine). SpotFits m old.place) (sym o.0) kept.placed);
}

-- a line leaves each job in its slot
none_before : (o p : Option Whole) → (is_some o ≡ true → is_some p ≡ true) → p ≡ None → o ≡ None
none_before None p stays e = refl
none_before (Some q) p stays e = absurd (false≢true (sym (ap is_some e) ∙ stays refl))

obeyed_jobs : (e : Event) (a : Answer) (old new : Plain) (b : Block) (l : Lined) → lined (machine_of old) b e ≡ l → Obeys a old new l → JobsStay old new
obeyed_jobs e a old new b (Done (Does n out touched c)) is o k h =
    none_before ((machine_of old).jobs k) (n.jobs k) (line_stays (machine_of old) n b c e out touched is k) (sym (ap (λ (m : Machine). m.jobs k) o.0) ∙ h)
obeyed_jobs e a old new b (Peeks s) is o k h = sym (ap (λ (m : Machine). m.jobs k) o.0) ∙ h
obeyed_jobs e a old new b _ is o k h = absurd o

-- what holds after an event, obeyed or refused
pub told_kept : (e : Event) (old new : Plain) (r : Result Answer Refusal) → EventFits 2 e → MayStand (spot_place old.place) e
    → Told e old new r → OnErr r (new ≡ old) → Tidy new → Kept old → Kept new
told_kept e old new (Ok a) ranged stands told same tidy kept =
    let o = told (block_at old.place) (speaks_at old.place) in
    obeyed_kept e a old new (block_at old.place) o.comes ranged stands (speaks_at old.place) o.leads o.is o.obeys kept tidy
told_kept e old new (Err z) ranged stands told same tidy kept = subst Kept (sym same) kept

pub told_place : (e : Event) (old new : Plain) (r : Result Answer Refusal) → Told e old new r
    → IfOk r (λ a. spot_place new.place ≡ place_after (spot_place old.place) e)
told_place e old new (Ok a) told = (told (block_at old.place) (speaks_at old.place)).leads
told_place e old new (Err z) told = tt

pub told_jobs : (e : Event) (old new : Plain) (r : Result Answer Refusal) → Told e old new r → OnErr r (new ≡ old) → JobsStay old new
told_jobs e old new (Ok a) told same = let o = told (block_at old.place) (speaks_at old.place) in obeyed_jobs e a old new
    (block_at old.place) o.comes o.is o.obeys
told_jobs e old new (Err z) told same = λ k h. sym (ap (λ (p : Plain). (machine_of p).jobs k) same) ∙ h
