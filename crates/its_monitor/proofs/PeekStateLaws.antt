-- PEEK of a world is that of its state.
use Rattle.std.specs.Prelude.{◌≡◌, ◌<◌, ℕ, true, false, Option, Some, None, IfSome, slice_index_or, is_some, refl}
use Rattle.std.proofs.Common.{sym, ◌∙◌, ap}
use Rattle.std.proofs.lemmas.List.{get_or_read_under}
use Rattle.its_word.specs.Core.{Core}
use Rattle.its_records.specs.declared.show.Peek.{Peek}
use Rattle.its_frame.specs.Left.{Few}
use Rattle.its_frame.specs.declared.frame.Frame.{Frame}
use Rattle.its_core.specs.Cores.{core_at}
use Rattle.its_jobs.specs.Table.{job_at}
use Rattle.its_plain.specs.Machine.{core_of}
use Rattle.its_stepped.specs.State.{plain, mine}
use Rattle.its_stepped.specs.Unwind.{left_by, left}
use Rattle.its_stepped.specs.Lines.{state_shown, name_shown, first_shown, second_shown, word_shown, ask_in, byte_shown, peeked}
use Rattle.its_stepped.proofs.Unwinding.UnwindLaws.{few_frame}
use Rattle.its_world.specs.World.{state_of, raw_at, frame_at, mark_of}
use Rattle.its_world.specs.declared.world.World.{World}
use Rattle.its_world.proofs.StateLaws.{job_of, raw_some}
use Rattle.its_monitor.specs.Kept.{Kept}
use Rattle.its_monitor.specs.Peeking.{Shows}
use Rattle.its_monitor.proofs.KeptLaws.{plain_has}
use Rattle.its_world.proofs.StorageLaws.{raw_has}
use Rattle.its_word.specs.Limits.{slots}
use Rattle.its_records.proofs.FreeLaws.{none_is}

pub peek_absent : (w : World) (s : ℕ) → is_some (job_at w.jobs s) ≡ false → ((state_of w).raw.jobs s ≡ None) × ((plain (state_of w)).jobs s ≡ None)
peek_absent w s h = (none_is ((state_of w).raw.jobs s) (raw_has w s ∙ h), none_is ((plain (state_of w)).jobs s) (plain_has w s ∙ h))

pub peek_some : (w : World) (s : ℕ) → is_some (job_at w.jobs s) ≡ true → is_some ((state_of w).raw.jobs s) ≡ true
peek_some w s h = raw_has w s ∙ h

-- the frame of a slot, read by index
frame_read : (w : World) (s : ℕ) (x o : Option Frame) → x ≡ slice_index_or w.frames.items s x → s < slots → x ≡ o → frame_at w.frames.items s ≡ o
frame_read w s x o read lt is = sym (get_or_read_under w.frames.items s slots x None read lt (sym w.slots ∙ w.frames.ok.0)) ∙ is

pub peek_few : (w : World) (s : ℕ) (x : Option Frame) → Kept w → x ≡ slice_index_or w.frames.items s x → s < slots → IfSome x Few
unfolding state_of
peek_few w s x kept read lt = go x (frame_read w s x x read lt refl)
  where
    go : (o : Option Frame) → frame_at w.frames.items s ≡ o → IfSome o Few
    go (Some f) e = few_frame (state_of w) s f kept.sound e
    go None e = tt

-- the parts of what is shown
peek_is : (w : World) (s : ℕ) (o : Option Frame) (c : Core) (p : Peek) → frame_at w.frames.items s ≡ o
    → core_of (raw_at w.files w.core w.jobs w.alarms.items s) ≡ c
    → p ≡ record {
      state = state_shown o;
      name = name_shown o;
      left = left_by (mine (state_of w).mark s) o;
      a = word_shown c first_shown (ask_in o);
      b = word_shown c second_shown (ask_in o);
      h = byte_shown o;
    }
    → p ≡ peeked (state_of w) s
unfolding peeked left state_of
peek_is w s o c p f k is = is ∙ (λ t. record {
  state = state_shown (sym f t);
  name = name_shown (sym f t);
  left = left_by (mine (mark_of w.files) s) (sym f t);
  a = word_shown (sym k t) first_shown (ask_in (sym f t));
  b = word_shown (sym k t) second_shown (ask_in (sym f t));
  h = byte_shown (sym f t);
})

core_there : (w : World) (s : ℕ) → is_some (job_at w.jobs s) ≡ true → core_of (raw_at w.files w.core w.jobs w.alarms.items s) ≡ core_at w.core s
core_there w s some = let j = job_of (job_at w.jobs s) some in ap core_of (raw_some w s j.0 j.1)

pub peek_call : (w : World) (s n : ℕ) (x : Option Frame) (p : Peek) → is_some (job_at w.jobs s) ≡ true → x ≡ slice_index_or w.frames.items s x → s < slots
    → n ≡ left_by (mine (state_of w).mark s) x → Shows (core_at w.core s) n x p → p ≡ peeked (state_of w) s
peek_call w s n x p some read lt e m = peek_is w s x (core_at w.core s) p (frame_read w s x x read lt refl) (core_there w s some)
    (λ t. record { state = m.state t; name = m.name t; left = (m.left_is ∙ e) t; a = m.a t; b = m.b t; h = m.h t })
