-- A link changed, and an end of one opened or closed with its channel: the state is that after the
-- change, and the world is tidy.
use Rattle.std.specs.Prelude.{◌≡◌, ◌<◌, ℕ, Bool, Option, Some}
use Rattle.std.proofs.Common.{sym, ◌∙◌, ap, subst}
use Rattle.its_records.specs.declared.jobs.Channel.{Channel}
use Rattle.its_records.specs.declared.jobs.Channel.TheVariants.{Closed, Reading, Writing, Link}
use Rattle.its_core.specs.Cores.{core_at}
use Rattle.its_files.specs.Files.{Store}
use Rattle.its_frame.specs.declared.change.Change.TheVariants.{Join, CloseEnd}
use Rattle.its_jobs.specs.Table.{Table, job_at}
use Rattle.its_pipes.specs.Pipes.{piped}
use Rattle.its_plain.specs.Machine.Change.{effect, after_end_close, link_or_new, with_end_opened}
use Rattle.its_plain.specs.Machine.{Shut, Linked, Pipe}
use Rattle.its_plain.specs.Operator.Clock.{clock_end}
use Rattle.its_plain.specs.Machine.Own.{on_channel}
use Rattle.its_stepped.specs.Commit.{effect_on}
use Rattle.its_world.specs.Storage.{chan_in, IsElsewhere}
use Rattle.its_world.specs.Tidy.{channel_at, Across, Tidy}
use Rattle.its_world.specs.World.{alarm_at, chan_of, state_of, in_raw, symbols_at, LinkBecomes}
use Rattle.its_world.specs.declared.world.World.{World}
use Rattle.its_world.proofs.StateLaws.{link_state}
use Rattle.its_world.proofs.StorageLaws.{chan_is, chan_shut}
use Rattle.its_world.proofs.ContentsLaws.{core_as, jobs_as, files_as, clock_as, symbols_as, alarms_as}

-- a channel on a link is on no file and on no draft
linked_elsewhere : (s : Store) (c : Channel) (l : ℕ) (write : Bool) → chan_of s c ≡ Linked l write → IsElsewhere c
linked_elsewhere s (Reading f at) l write h = cc
linked_elsewhere s (Writing d) l write h = cc
linked_elsewhere s _ l write h = tt

module _ (old mid : World) (l : ℕ) (p : Option Pipe) (b : LinkBecomes old mid l p) where
  pub link_tidy : Tidy old → Tidy mid
  link_tidy tidy = record {
    blank = λ k h. ap (λ c. core_at c k) (core_as b.rest) ∙ tidy.blank k (sym (ap (λ t. job_at t k) (jobs_as b.rest)) ∙ h);
    quiet = λ k h. ap (λ a. alarm_at a.items k) (alarms_as b.rest) ∙ tidy.quiet k (sym (ap (λ t. job_at t k) (jobs_as b.rest)) ∙ h);
    timed = subst (λ t. t < clock_end) (sym (clock_as b.rest)) tidy.timed;
    across = subst (λ (x : Store). Across x mid.jobs) (sym (files_as b.rest)) (subst (Across old.files) (sym (jobs_as b.rest)) tidy.across);
    on_lists = b.on_lists tidy.on_lists;
    nameless = λ k h. ap (λ s. symbols_at s.items k) (symbols_as b.rest) ∙ tidy.nameless k (sym (ap (λ t. job_at t k) (jobs_as b.rest)) ∙ h);
  }

  elsewhere_after : (s n : ℕ) → IsElsewhere (channel_at old.jobs s n) → IsElsewhere (channel_at mid.jobs s n)
  elsewhere_after s n h = subst (λ (t : Table). IsElsewhere (channel_at t s n)) (sym (jobs_as b.rest)) h

  pub shut_elsewhere : (s n : ℕ) → chan_in (state_of old) s n ≡ Shut → IsElsewhere (channel_at mid.jobs s n)
  shut_elsewhere s n h = elsewhere_after s n (subst IsElsewhere (sym (chan_shut old s n h)) tt)

  pub link_elsewhere : (s n r : ℕ) (write : Bool) → chan_in (state_of old) s n ≡ Linked r write → IsElsewhere (channel_at mid.jobs s n)
  link_elsewhere s n r write h = elsewhere_after s n (linked_elsewhere old.files (channel_at old.jobs s n) r write (sym (chan_is old s n) ∙ h))

pub joined_row : (old mid new : World) (s n l x y : ℕ) (write : Bool)
    → LinkBecomes old mid l (Some (with_end_opened write s n (link_or_new x y (piped old.pipes l))))
    → state_of new ≡ in_raw (state_of mid) s (on_channel n (λ c. chan_of mid.files (Link l write)))
    → state_of new ≡ effect_on (Join n l write x y) s (state_of old)
unfolding effect_on effect
joined_row old mid new s n l x y write b put =
    put ∙ ap (λ w. in_raw w s (on_channel n (λ c. Linked l write))) (link_state old mid l (λ o. Some (with_end_opened write s n (link_or_new x y o))) b)

pub parted_row : (old mid new : World) (s n l : ℕ) (write : Bool) → LinkBecomes old mid l (after_end_close write (piped old.pipes l))
    → state_of new ≡ in_raw (state_of mid) s (on_channel n (λ c. chan_of mid.files Closed)) → state_of new ≡ effect_on (CloseEnd n l write) s (state_of old)
unfolding effect_on effect
parted_row old mid new s n l write b put =
    put ∙ ap (λ w. in_raw w s (on_channel n (λ c. Shut))) (link_state old mid l (after_end_close write) b)
