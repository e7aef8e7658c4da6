-- VERSION and SYSTEM come at the start of a session alone: there no line was taken yet.
use Rattle.std.specs.Prelude.{◌≡◌, ℕ, false, None, refl}
use Rattle.std.proofs.Common.{sym, ◌∙◌, ap}
use Rattle.its_records.specs.declared.session.Event.{Event}
use Rattle.its_records.specs.declared.session.Event.TheVariants as events
use Rattle.its_records.specs.declared.state_line.StateLine.{StateLine}
use Rattle.its_records.specs.declared.state_line.StateLine.TheVariants as states
use Rattle.its_records.specs.declared.session.Place.{Place}
use Rattle.its_records.specs.declared.session.Place.TheVariants as places
use Rattle.its_session.specs.Events.{place_after}
use Rattle.its_reader.specs.declared.items.Found.{Found}
use Rattle.its_reader.specs.declared.items.Found.TheVariants as founds
use Rattle.its_reader.specs.Items.{found_fits, found_stands, is_last, place_found}
use Rattle.its_session.proofs.FitsLaws.{later_fits}
use Rattle.its_plain.specs.Machine.{no_machine}
use Rattle.its_stepped.specs.State.{State, no_state}
use Rattle.its_top.specs.Answer.{FindsStart, FoundStart}

no_jobs : (v : State) → v ≡ no_state no_machine → (k : ℕ) → v.raw.jobs k ≡ None
unfolding no_machine no_state
no_jobs v e k = ap (λ (x : State). x.raw.jobs k) e

event_start : (p : Place) (e : Event) (v : State) → found_stands p (founds.Line e) → (p ≡ places.First → v ≡ no_state no_machine) → FindsStart e v
event_start places.First (events.Version k) v h s = no_jobs v (s refl)
event_start places.Plain (events.Version k) v h s = cc
event_start places.System (events.Version k) v h s = cc
event_start places.Load (events.Version k) v h s = cc
event_start places.File (events.Version k) v h s = cc
event_start places.First (events.Restore (states.System k)) v h s = no_jobs v (s refl)
event_start places.Plain (events.Restore (states.System k)) v h s = cc
event_start places.System (events.Restore (states.System k)) v h s = cc
event_start places.Load (events.Restore (states.System k)) v h s = cc
event_start places.File (events.Restore (states.System k)) v h s = cc
event_start p _ v h s = tt

pub found_start : (p : Place) (f : Found) (v : State) → found_stands p f → (p ≡ places.First → v ≡ no_state no_machine) → FoundStart f v
found_start p (founds.Line e) v h s = event_start p e v h s
found_start p _ v h s = tt

-- after a line the start is over
restored_first : (p : Place) (l : StateLine) → place_after p (events.Restore l) ≡ places.First → ⊥
restored_first places.First (states.System v) h = cc
restored_first places.First states.Ready h = cc
restored_first places.First _ h = cc
restored_first places.Plain (states.System v) h = cc
restored_first places.Plain states.Ready h = cc
restored_first places.Plain _ h = cc
restored_first places.System (states.System v) h = cc
restored_first places.System states.Ready h = cc
restored_first places.System _ h = cc
restored_first places.Load (states.System v) h = cc
restored_first places.Load states.Ready h = cc
restored_first places.Load _ h = cc
restored_first places.File (states.System v) h = cc
restored_first places.File states.Ready h = cc
restored_first places.File _ h = cc

not_first : (p : Place) (e : Event) → place_after p e ≡ places.First → ⊥
not_first places.First (events.Restore l) h = restored_first places.First l h
not_first places.First (events.Load u j c) h = cc
not_first places.First (events.Go a) h = cc
not_first places.First (events.File d x y) h = cc
not_first places.First events.EndFile h = cc
not_first places.First _ h = cc
not_first places.Plain (events.Restore l) h = restored_first places.Plain l h
not_first places.Plain (events.Load u j c) h = cc
not_first places.Plain (events.Go a) h = cc
not_first places.Plain (events.File d x y) h = cc
not_first places.Plain events.EndFile h = cc
not_first places.Plain _ h = cc
not_first places.System (events.Restore l) h = restored_first places.System l h
not_first places.System (events.Load u j c) h = cc
not_first places.System (events.Go a) h = cc
not_first places.System (events.File d x y) h = cc
not_first places.System events.EndFile h = cc
not_first places.System _ h = cc
not_first places.Load (events.Restore l) h = restored_first places.Load l h
not_first places.Load (events.Load u j c) h = cc
not_first places.Load (events.Go a) h = cc
not_first places.Load (events.File d x y) h = cc
not_first places.Load events.EndFile h = cc
not_first places.Load _ h = cc
not_first places.File (events.Restore l) h = restored_first places.File l h
not_first places.File (events.Load u j c) h = cc
not_first places.File (events.Go a) h = cc
not_first places.File (events.File d x y) h = cc
not_first places.File events.EndFile h = cc
not_first places.File _ h = cc

pub start_over : (p q : Place) (f : Found) (v : State) → q ≡ place_found p f → is_last f ≡ false → q ≡ places.First → v ≡ no_state no_machine
start_over p q (founds.Line e) v h l s = absurd (not_first p e (sym h ∙ s))
start_over p q _ v h l s = cc

pub found_later : (v : ℕ) (f : Found) → found_fits v f → found_fits 2 f
found_later v (founds.Line e) h = later_fits v e h
found_later v _ h = tt
