-- TYPE and DRAIN, byte by byte.
use Rattle.std.specs.Prelude.{◌≡◌, ◌<◌, ◌↔◌, ◌^◌, ℕ, Bool, Option, IfSome, List, [], ◌∷◌, Ok, IsTrue, length, take, slice_get, refl}
use Rattle.std.proofs.Common.{sym, ◌∙◌, ap, subst}
use Rattle.its_word.specs.Console.{Console, most_waiting}
use Rattle.its_records.specs.declared.session.Event.{Event}
use Rattle.its_records.specs.declared.session.Event.TheVariants as events
use Rattle.its_print.specs.Printing.{Line}
use Rattle.its_print.specs.Printing as printed
use Rattle.its_plain.specs.Machine.{Machine}
use Rattle.its_plain.specs.Machine.Change.{on_console}
use Rattle.its_plain.specs.Operator.{Block, no_block, Does, nobody}
use Rattle.its_plain.specs.Operator.Consoles.{with_typed, dropped, after_drain}
use Rattle.its_plain.specs.Operator.Lines.{operate, Done, lined}
use Rattle.its_stepped.specs.State.{State, plain}
use Rattle.its_stepped.specs.Lines.{after_calm, with_raw}
use Rattle.its_world.specs.World.{console_at, state_of, typed_at, drained_at, ConsoleBecomes}
use Rattle.its_world.specs.declared.world.World.{World}
use Rattle.its_world.proofs.StateLaws.{console_state}
use Rattle.its_commit.proofs.TidyLaws.{tidy_alike}
use Rattle.its_monitor.specs.Kept.{Kept, Lands}
use Rattle.its_monitor.proofs.KeptLaws.{Made, made_sound, made_plain, made_forest, made_timed, made_alarmed}
use Rattle.its_tick.proofs.WaitsLaws.{kept_is}
use Rattle.its_world.proofs.ContentsLaws.{core_as, jobs_as, files_as, clock_as, symbols_as, alarms_as}

-- a console of the state is that of the world
pub type_room : (w : World) (c : ℕ) (r : Bool) → (IsTrue r ↔ (length (console_at w.consoles.items c).input < most_waiting))
    → (IsTrue r ↔ (length ((state_of w).raw.consoles c).input < most_waiting))
unfolding state_of
type_room w c r h = h

pub drain_first : (w : World) (c : ℕ) (r : Option ℕ) → r ≡ slice_get (console_at w.consoles.items c).output 0
    → r ≡ slice_get ((state_of w).raw.consoles c).output 0
unfolding state_of
drain_first w c r h = h

-- a line that changes one console alone
machine_done : (m n : Machine) (out front : List Line) (t u : ℕ → Bool) (a b : Block) → Done (Does m out t a) ≡ Done (Does n front u b) → m ≡ n
machine_done m n out front t u a b h = cc

module _ (old new : World) (c : ℕ) (f : Console → Console) (e : Event) (out : Machine → List Line)
    (line : (m : Machine) → lined m no_block e ≡ Done (Does (on_console m c f) (out m) nobody no_block))
    (calm : after_calm (state_of old) no_block e ≡ state_of old)
    (b : ConsoleBecomes old new c (f (console_at old.consoles.items c))) where
  lands : Lands (state_of old) (state_of new) (Ok (on_console (state_of old).raw c f))
  lands =
      let is = console_state old new c f b in
      record { is = ap (λ (v : State). Ok v.raw) (sym is); rest = is ∙ ap (λ (v : State). with_raw (state_of old) v.raw) (sym is) }

  made : Made (state_of old) (state_of new) no_block e
  made = record {
    out = out (state_of old).raw;
    touched = nobody;
    block = no_block;
    is = ap (λ (v : State). lined v.raw no_block e) calm ∙ line (state_of old).raw
        ∙ ap (λ (v : State). Done (Does v.raw (out (state_of old).raw) nobody no_block)) (sym (console_state old new c f b));
    rest = lands.rest ∙ ap (λ (v : State). with_raw v (state_of new).raw) (sym calm);
  }

  plain_done : Kept old → plain (state_of new) ≡ on_console (plain (state_of old)) c f
  plain_done kept =
      let m = made in
      machine_done (plain (state_of new)) (on_console (plain (state_of old)) c f) m.out (out (plain (state_of old))) m.touched nobody m.block no_block
      (sym (made_plain (state_of old) (state_of new) no_block e kept.sound m) ∙ line (plain (state_of old)))

  kept_done : Kept old → Kept new
  kept_done kept =
      kept_is new
      (made_sound (state_of old) (state_of new) no_block e kept.sound made)
      (made_forest (state_of old) (state_of new) no_block e kept.sound kept.forest made)
      (tidy_alike old new (core_as b.rest) (jobs_as b.rest) (files_as b.rest) (alarms_as b.rest) (clock_as b.rest) (symbols_as b.rest) b.on_lists kept.tidy)
      (λ k. subst (λ (m : Machine). IfSome (m.jobs k) (λ q. q.job.pc < 2 ^ 18)) (sym (plain_done kept)) (kept.addressed k))
      (λ k. subst (λ (m : Machine). IfSome (m.jobs k) (λ q. IfSome q.job.console (λ c. c < 8))) (sym (plain_done kept)) (kept.consoled k))
      (made_timed (state_of old) (state_of new) no_block e kept.sound kept.timed made)
      (made_alarmed (state_of old) (state_of new) no_block e kept.sound kept.forest kept.alarmed made)

-- TYPE
module _ (old new : World) (c x : ℕ) (b : ConsoleBecomes old new c (typed_at x (console_at old.consoles.items c))) where
  abbrev type_event : Event
  type_event = events.TypeIn c (record { items = x ∷ [] })

  abbrev type_out : Machine → List Line
  type_out m = printed.Typed c (dropped (m.consoles c) (x ∷ [])) ∷ []

  type_line : (m : Machine) → lined m no_block type_event ≡ Done (Does (on_console m c (typed_at x)) (type_out m) nobody no_block)
  unfolding lined operate
  type_line m = refl

  type_calm : after_calm (state_of old) no_block type_event ≡ state_of old
  unfolding after_calm
  type_calm = refl

  pub type_lands : Lands (state_of old) (state_of new) (Ok (with_typed c (x ∷ []) (state_of old).raw))
  type_lands = lands old new c (typed_at x) type_event type_out type_line type_calm b

  pub type_plain : Kept old → plain (state_of new) ≡ with_typed c (x ∷ []) (plain (state_of old))
  type_plain kept = plain_done old new c (typed_at x) type_event type_out type_line type_calm b kept

  pub type_kept : Kept old → Kept new
  type_kept kept = kept_done old new c (typed_at x) type_event type_out type_line type_calm b kept

-- DRAIN
module _ (old new : World) (c : ℕ) (b : ConsoleBecomes old new c (drained_at (console_at old.consoles.items c))) where
  abbrev drain_out : Machine → List Line
  drain_out m = printed.Drained c (take 1 (m.consoles c).output) ∷ []

  drain_line : (m : Machine) → lined m no_block (events.Drain c 1) ≡ Done (Does (on_console m c drained_at) (drain_out m) nobody no_block)
  unfolding lined operate
  drain_line m = refl

  drain_calm : after_calm (state_of old) no_block (events.Drain c 1) ≡ state_of old
  unfolding after_calm
  drain_calm = refl

  pub drain_lands : Lands (state_of old) (state_of new) (Ok (after_drain c 1 (state_of old).raw))
  drain_lands = lands old new c drained_at (events.Drain c 1) drain_out drain_line drain_calm b

  pub drain_plain : Kept old → plain (state_of new) ≡ after_drain c 1 (plain (state_of old))
  drain_plain kept = plain_done old new c drained_at (events.Drain c 1) drain_out drain_line drain_calm b kept

  pub drain_kept : Kept old → Kept new
  drain_kept kept = kept_done old new c drained_at (events.Drain c 1) drain_out drain_line drain_calm b kept
