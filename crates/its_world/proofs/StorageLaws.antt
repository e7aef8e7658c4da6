-- A channel of a job set, with the store that it is on: what the state and the facts on numbers are
-- then.
use Rattle.std.specs.Prelude.{◌≡◌, ◌≢◌, ◌<◌, ℕ, true, false, Option, Some, None, is_some, length, slice_set, refl}
use Rattle.std.proofs.Common.{sym, ◌∙◌, ap, subst}
use Rattle.its_records.specs.declared.jobs.Channel.{Channel}
use Rattle.its_records.specs.declared.jobs.Channel.TheVariants.{Closed}
use Rattle.its_records.specs.declared.jobs.Job.{Job}
use Rattle.its_core.specs.Cores.{core_at, clear_at}
use Rattle.its_jobs.specs.Table.{job_at, superior_at}
use Rattle.its_files.specs.Files.{Store, directory}
use Rattle.its_plain.specs.Machine.{Chan, Shut}
use Rattle.its_plain.specs.Machine.Own.{on_channel}
use Rattle.its_plain.specs.Machine.Change.{in_job}
use Rattle.its_plain.specs.Operator.Files.{channels_of}
use Rattle.its_plain.proofs.MachineLaws.{machine_is}
use Rattle.its_stepped.specs.State.{State}
use Rattle.its_world.specs.World.{chan_of, alarm_at, raw_at, frame_at, console_at, holder_at, mark_of, state_of, in_raw, symbols_at}
use Rattle.its_plain.specs.Operator.Clock.{clock_end}
use Rattle.its_world.specs.Tidy.{channel_at, Across, Tidy}
use Rattle.its_world.specs.Contents.{contents}
use Rattle.its_world.specs.Storage.{HasJob, chan_in, ChannelBecomes, ChannelWritten, OnlyStore}
use Rattle.its_world.specs.Filed.{Refiled, SlotWritten}
use Rattle.its_word.specs.Only.{Only}
use Rattle.its_pipes.specs.Pipes.{piped}
use Rattle.its_world.specs.declared.world.World.{World}
use Rattle.its_shared.specs.Channels.{OnlyChannel, Shows}
use Rattle.its_shared.proofs.ChanLaws.{raw_alike, job_by, chan_by, shut_by}
use Rattle.its_shared.proofs.KeptLaws.{Kept, Stays}
use Rattle.its_shared.proofs.SetLaws.{channel_put, channel_absent, channel_same, none_before, raw_channel}
use Rattle.its_world.proofs.MarkLaws.{mark_none, none_marked}
use Rattle.its_world.proofs.PlaceLaws.{doors_in, on_lists_alike, slot_on_lists}
use Rattle.its_world.proofs.WorldLaws.{alike}
use Rattle.its_world.proofs.StateLaws.{state_is}
use Rattle.its_world.proofs.ContentsLaws.{core_as, jobs_as, frames_as, consoles_as, holders_as, files_as, clock_as, lists_as, version_as, symbols_as, alarms_as, pipes_as}

-- a channel written, and its slot put on the list to which it belongs
pub channel_written : (old new : World) (s n : ℕ) (x : Channel) (j : Job) → job_at old.jobs s ≡ Some j → n < length j.channels
    → Only (job_at old.jobs) (job_at new.jobs) s (Some (record j { channels = slice_set j.channels n x })) → new.jobs.superiors ≡ old.jobs.superiors
    → contents new ≡ record (contents old) { jobs = new.jobs } → ChannelWritten old new s n x
channel_written old new s n x j was lt job superiors rest = record { jobs = channel_put old.jobs new.jobs s n x j was lt job superiors; rest = rest }

slot_of : (old mid : World) (s n : ℕ) (x : Channel) → ChannelWritten old mid s n x → SlotWritten old mid s (job_at mid.jobs s) (frame_at old.frames.items s)
slot_of old mid s n x w = record {
  job = record { here = refl; others = w.jobs.rows };
  superiors = w.jobs.superiors;
  frame = alike _ _ s (λ k. ap (λ t. frame_at t.items k) (frames_as w.rest));
  rest = λ t. record (w.rest t) { frames = mid.frames };
}

pub channel_becomes : (old mid new : World) (s n : ℕ) (x : Channel) → ChannelWritten old mid s n x → Refiled mid new s
    → ChannelBecomes old new s n x old.files
channel_becomes old mid new s n x w r =
    let core : new.core ≡ old.core = core_as r.rest.is ∙ core_as w.rest in
    record {
      jobs = subst (λ j. OnlyChannel old.jobs j s n x) (sym (jobs_as r.rest.is)) w.jobs;
      core = record { each = λ k. ap (λ c. core_at c k) core };
      reserved = record { each = λ k. ap (λ c. clear_at c k) core };
      pages = ap (λ c. c.frames) core;
      frames = record { each = λ k. ap (λ l. frame_at l.items k) (frames_as r.rest.is ∙ frames_as w.rest) };
      rest =
          (λ t. record (r.rest.is t) { core = new.core; jobs = new.jobs; frames = new.frames })
          ∙ (λ t. record (w.rest t) { core = new.core; jobs = new.jobs; frames = new.frames; wait_lists = new.wait_lists });
      on_lists = slot_on_lists old mid new s (job_at mid.jobs s) (frame_at old.frames.items s) (slot_of old mid s n x w) r;
    }

-- a slot that has no job
pub job_missing : (w : World) (s : ℕ) → is_some (job_at w.jobs s) ≡ false → job_at w.jobs s ≡ None
job_missing w s h = none_by (job_at w.jobs s) h
  where
    none_by : (o : Option Job) → is_some o ≡ false → o ≡ None
    none_by (Some j) h = cc
    none_by None h = refl

pub channel_missing : (w : World) (s n : ℕ) (x : Channel) → job_at w.jobs s ≡ None → ChannelBecomes w w s n x w.files
channel_missing w s n x none = record {
  jobs = channel_absent w.jobs s n x none;
  core = record { each = λ k. refl };
  reserved = record { each = λ k. refl };
  pages = refl;
  frames = record { each = λ k. refl };
  rest = refl;
  on_lists = λ r. r;
}

-- a channel is set after the store, or left as it is
pub store_first : (old mid new : World) (s n : ℕ) (x : Channel) (t : Store) → OnlyStore old mid t → ChannelBecomes mid new s n x t
    → ChannelBecomes old new s n x t
store_first old mid new s n x t o b = record {
  jobs = subst (λ j. OnlyChannel j new.jobs s n x) (jobs_as o.is) b.jobs;
  core = record { each = λ k. b.core.each k ∙ ap (λ c. core_at c k) (core_as o.is) };
  reserved = record { each = λ k. b.reserved.each k ∙ ap (λ c. clear_at c k) (core_as o.is) };
  pages = b.pages ∙ ap (λ c. c.frames) (core_as o.is);
  frames = record { each = λ k. b.frames.each k ∙ ap (λ l. frame_at l.items k) (frames_as o.is) };
  rest = b.rest ∙ (λ i. record (o.is i) { core = new.core; jobs = new.jobs; frames = new.frames; files = t; wait_lists = new.wait_lists });
  on_lists = λ r. b.on_lists (on_lists_alike old mid (jobs_as o.is) (frames_as o.is) (ap doors_in o.is) (lists_as o.is) r);
}

pub channel_still : (old new : World) (s n : ℕ) (t : Store) → OnlyStore old new t → ChannelBecomes old new s n (channel_at old.jobs s n) t
channel_still old new s n t o = record {
  jobs = channel_same old.jobs new.jobs s n (jobs_as o.is);
  core = record { each = λ k. ap (λ c. core_at c k) (core_as o.is) };
  reserved = record { each = λ k. ap (λ c. clear_at c k) (core_as o.is) };
  pages = ap (λ c. c.frames) (core_as o.is);
  frames = record { each = λ k. ap (λ l. frame_at l.items k) (frames_as o.is) };
  rest = λ i. record (o.is i) { core = new.core; jobs = new.jobs; frames = new.frames; wait_lists = new.wait_lists };
  on_lists = on_lists_alike old new (jobs_as o.is) (frames_as o.is) (ap doors_in o.is) (lists_as o.is);
}

module _ (old new : World) (s n : ℕ) (x : Channel) (t : Store) (b : ChannelBecomes old new s n x t) where
  -- the state, if all other channels are on what they were on
  pub filed_state : (g : Chan → Chan) → ((k m : ℕ) → (k ≡ s → m ≢ n) → chan_of t (channel_at new.jobs k m) ≡ chan_of old.files (channel_at old.jobs k m))
      → (is_some (job_at old.jobs s) ≡ true → chan_of t x ≡ g (chan_of old.files (channel_at old.jobs s n)))
      → state_of new ≡ record (state_of old) { raw = record (in_job (state_of old).raw s (on_channel n g)) { files = directory t }; mark = mark_of t }
  unfolding state_of
  filed_state g others here = state_is _ _
      (machine_is _ _
      (λ k. (λ i. raw_at (files_as b.rest i) new.core new.jobs (alarms_as b.rest i).items k)
      ∙ raw_channel old.jobs new.jobs s n x b.jobs old.files t old.core new.core old.alarms.items g b.core others here k)
      (λ k. ap (λ l. console_at l.items k) (consoles_as b.rest)) (λ k. ap (λ l. holder_at l k) (holders_as b.rest))
      (ap directory (files_as b.rest)) (clock_as b.rest) (version_as b.rest) (λ k. ap (λ l. symbols_at l.items k) (symbols_as b.rest))
      (λ k. ap (λ p. piped p k) (pipes_as b.rest)))
      (λ k. b.frames.each k) (λ k. b.reserved.each k) (ap mark_of (files_as b.rest))

  -- and if the directory and the mark are the same
  pub channel_state : (g : Chan → Chan) → ((k m : ℕ) → (k ≡ s → m ≢ n) → chan_of t (channel_at new.jobs k m) ≡ chan_of old.files (channel_at old.jobs k m))
      → (is_some (job_at old.jobs s) ≡ true → chan_of t x ≡ g (chan_of old.files (channel_at old.jobs s n)))
      → directory t ≡ directory old.files → mark_of t ≡ mark_of old.files → state_of new ≡ in_raw (state_of old) s (on_channel n g)
  unfolding state_of
  channel_state g others here files mark =
      filed_state g others here
      ∙ (λ i. record (state_of old) { raw = record (in_job (state_of old).raw s (on_channel n g)) { files = files i }; mark = mark i })

  pub filed_tidy : Tidy old → Across t new.jobs → Tidy new
  filed_tidy tidy a = record {
    blank = λ k none. b.core.each k ∙ tidy.blank k (none_before old.jobs new.jobs s n x b.jobs k none);
    quiet = λ k none. ap (λ l. alarm_at l.items k) (alarms_as b.rest) ∙ tidy.quiet k (none_before old.jobs new.jobs s n x b.jobs k none);
    timed = subst (λ t. t < clock_end) (sym (clock_as b.rest)) tidy.timed;
    across = subst (λ f. Across f new.jobs) (sym (files_as b.rest)) a;
    on_lists = b.on_lists tidy.on_lists;
    nameless = λ k none. ap (λ l. symbols_at l.items k) (symbols_as b.rest) ∙ tidy.nameless k (none_before old.jobs new.jobs s n x b.jobs k none);
  }

-- the result for a world: its state, and that it is tidy
pub record Comes (new : World) (w : State) : Type 0 where
  pub row : state_of new ≡ w
  pub tidy : Tidy new

pub channel_comes : (old new : World) (s n : ℕ) (x : Channel) (t : Store) → ChannelBecomes old new s n x t → Tidy old
    → Kept old.files t old.jobs new.jobs s n → (g : Chan → Chan)
    → (is_some (job_at old.jobs s) ≡ true → chan_of t x ≡ g (chan_of old.files (channel_at old.jobs s n)))
    → directory t ≡ directory old.files → mark_of t ≡ mark_of old.files → Comes new (in_raw (state_of old) s (on_channel n g))
channel_comes old new s n x t b tidy kept g here files mark = record {
  row = channel_state old new s n x t b g kept.chans here files mark;
  tidy = filed_tidy old new s n x t b tidy kept.across;
}

pub still_state : (w : World) (s n : ℕ) (g : Chan → Chan) → chan_of w.files (channel_at w.jobs s n) ≡ g
    (chan_of w.files (channel_at w.jobs s n)) → state_of w ≡ in_raw (state_of w) s (on_channel n g)
still_state w s n g e =
    let b = channel_still w w s n w.files (record { is = refl }) in
    channel_state w w s n (channel_at w.jobs s n) w.files b g (λ k m apart. refl) (λ some. e) refl refl

-- a store that shows the same to all channels
pub store_state : (old new : World) (t : Store) → OnlyStore old new t → Stays old.files t old.jobs
    → state_of new ≡ record (state_of old) { raw = record (state_of old).raw { files = directory t }; mark = mark_of t }
unfolding state_of
store_state old new t o stays = state_is _ _
    (machine_is _ _
    (λ k. (λ i. raw_at (o.is i).files (o.is i).core (o.is i).jobs (o.is i).alarms.items k)
    ∙ raw_alike old.files t (core_at old.core k) (superior_at old.jobs k) (alarm_at old.alarms.items k) (job_at old.jobs k) (stays.chans k))
    (λ k. ap (λ l. console_at l.items k) (consoles_as o.is)) (λ k. ap (λ l. holder_at l k) (holders_as o.is)) (ap directory (files_as o.is))
    (clock_as o.is) (version_as o.is) (λ k. ap (λ l. symbols_at l.items k) (symbols_as o.is)) (λ k. ap (λ p. piped p k) (pipes_as o.is)))
    (λ k. ap (λ l. frame_at l.items k) (frames_as o.is)) (λ k. ap (λ c. clear_at c k) (core_as o.is)) (ap mark_of (files_as o.is))

pub store_tidy : (old new : World) (t : Store) → OnlyStore old new t → Stays old.files t old.jobs → Tidy old → Tidy new
store_tidy old new t o stays tidy = record {
  blank = λ k none. ap (λ c. core_at c k) (core_as o.is) ∙ tidy.blank k (sym (ap (λ j. job_at j k) (jobs_as o.is)) ∙ none);
  quiet = λ k none. ap (λ l. alarm_at l.items k) (alarms_as o.is) ∙ tidy.quiet k (sym (ap (λ j. job_at j k) (jobs_as o.is)) ∙ none);
  timed = subst (λ t. t < clock_end) (sym (clock_as o.is)) tidy.timed;
  across = subst (λ f. Across f new.jobs) (sym (files_as o.is)) (subst (λ j. Across t j) (sym (jobs_as o.is)) stays.across);
  on_lists = on_lists_alike old new (jobs_as o.is) (frames_as o.is) (ap doors_in o.is) (lists_as o.is) tidy.on_lists;
  nameless = λ k none. ap (λ l. symbols_at l.items k) (symbols_as o.is) ∙ tidy.nameless k (sym (ap (λ j. job_at j k) (jobs_as o.is)) ∙ none);
}

-- what the state says of a world
pub raw_has : (w : World) (s : ℕ) → is_some ((state_of w).raw.jobs s) ≡ is_some (job_at w.jobs s)
unfolding state_of
raw_has w s = job_by w.files (core_at w.core s) (superior_at w.jobs s) (alarm_at w.alarms.items s) (job_at w.jobs s)

pub has_job : (w : World) (s : ℕ) → HasJob (state_of w) s → is_some (job_at w.jobs s) ≡ true
has_job w s h = sym (raw_has w s) ∙ h

pub chan_is : (w : World) (s n : ℕ) → chan_in (state_of w) s n ≡ chan_of w.files (channel_at w.jobs s n)
unfolding state_of
chan_is w s n = chan_by w.files (core_at w.core s) (superior_at w.jobs s) (alarm_at w.alarms.items s) (job_at w.jobs s) n

pub chans_are : (w : World) → channels_of (state_of w).raw ≡ (λ k n. chan_of w.files (channel_at w.jobs k n))
chans_are w = λ i k n. chan_is w k n i

pub frame_is : (w : World) (s : ℕ) → (state_of w).frames s ≡ frame_at w.frames.items s
unfolding state_of
frame_is w s = refl

pub marks_are : (w : World) → (state_of w).mark ≡ mark_of w.files
unfolding state_of
marks_are w = refl

pub chan_shut : (w : World) (s n : ℕ) → chan_in (state_of w) s n ≡ Shut → channel_at w.jobs s n ≡ Closed
chan_shut w s n e = shut_by w.files (channel_at w.jobs s n) (sym (chan_is w s n) ∙ e)

pub store_unmarked : (w : World) → (state_of w).mark ≡ None → w.files.mark ≡ None
unfolding state_of
store_unmarked w e = mark_none w.files e

pub still_unmarked : (w : World) (t : Store) → (state_of w).mark ≡ None → t.mark ≡ w.files.mark → mark_of t ≡ mark_of w.files
still_unmarked w t unmarked e = let none = store_unmarked w unmarked in none_marked t (e ∙ none) ∙ sym (none_marked w.files none)

pub files_are : (w : World) → (state_of w).raw.files ≡ directory w.files
unfolding state_of
files_are w = refl

pub shows : (w : World) → Shows (state_of w).raw w.files w.jobs
shows w = record { files = files_are w; chans = chans_are w }
