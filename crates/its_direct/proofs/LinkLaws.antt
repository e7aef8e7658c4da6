-- Ends of links opened and closed, and words sent and received: the machine after it, and what
-- holds of that machine.
use Rattle.std.specs.Prelude.{◌≡◌, ◌<◌, ℕ, Bool, true, Option, Some, is_some, length, option_map}
use Rattle.std.proofs.Common.{ap, sym, subst, ◌∙◌}
use Rattle.its_records.specs.Links.{most_link_words}
use Rattle.its_records.specs.declared.jobs.Channel.{Channel}
use Rattle.its_records.specs.declared.jobs.Channel.TheVariants.{Link}
use Rattle.its_frame.specs.declared.change.Change.TheVariants as changes
use Rattle.its_core.specs.Cores.{core_at, clear_at}
use Rattle.its_files.specs.Files.{Store, directory}
use Rattle.its_jobs.specs.Table.{job_at}
use Rattle.its_pipes.specs.Pipes.{piped}
use Rattle.its_plain.specs.Call.Link.{words_in}
use Rattle.its_plain.specs.Machine.Change.{effect, after_end_close, in_job, link_or_new, on_link, with_end_opened, with_received, with_sent}
use Rattle.its_plain.specs.Machine.{Linked, Pipe, Shut, Machine}
use Rattle.its_plain.specs.Operator.Clock.{clock_end}
use Rattle.its_plain.specs.Operator.State.{has_unopened, with_end_closed}
use Rattle.its_plain.specs.Machine.Own.{on_channel}
use Rattle.its_plain.proofs.MachineLaws.{machine_is}
use Rattle.its_shared.specs.Across.{channel_at, Across, IsElsewhere}
use Rattle.its_shared.specs.Can.{chan_in}
use Rattle.its_shared.specs.Parts.{alarm_at, chan_of, console_at, holder_at, raw_at, symbols_at}
use Rattle.its_shared.proofs.PartLaws.{changed_at}
use Rattle.its_direct.specs.Effects.{Becomes, LinkBecomes}
use Rattle.its_direct.specs.Plain.{machine_of, Tidy}
use Rattle.its_direct.specs.declared.plain.Plain.{Plain}
use Rattle.its_direct.proofs.ChannelLaws.{chan_is, chan_shut}
use Rattle.its_direct.proofs.SlotLaws.{IsPlaced}
use Rattle.its_direct.proofs.ContentsLaws.{core_as, jobs_as, consoles_as, holders_as, files_as, clock_as, alarms_as, version_as, symbols_as, place_as, touched_as}

link_machine : (old new : Plain) (l : ℕ) (f : Option Pipe → Option Pipe) → LinkBecomes old new l (f (piped old.pipes l))
    → machine_of new ≡ on_link (machine_of old) l f
unfolding machine_of
link_machine old new l f b = machine_is _ _
    (λ k t. raw_at (b.rest t).files (b.rest t).core (b.rest t).jobs (b.rest t).alarms.items k) (λ k. ap (λ c. console_at c.items k) (consoles_as b.rest))
    (λ k. ap (λ h. holder_at h k) (holders_as b.rest)) (ap directory (files_as b.rest)) (clock_as b.rest) (version_as b.rest)
    (λ k. ap (λ s. symbols_at s.items k) (symbols_as b.rest))
    (changed_at _ _ l _ b.links.here b.links.others)

pub link_tidy : (old new : Plain) (l : ℕ) (o : Option Pipe) → LinkBecomes old new l o → Tidy old → Tidy new
link_tidy old new l o b tidy = record {
  unreserved = λ k. ap (λ m. clear_at m k) (core_as b.rest) ∙ tidy.unreserved k;
  unmarked = ap (λ (s : Store). s.mark) (files_as b.rest) ∙ tidy.unmarked;
  across = subst (λ (s : Store). Across s new.jobs) (sym (files_as b.rest)) (subst (Across old.files) (sym (jobs_as b.rest)) tidy.across);
  blank = λ k h. ap (λ m. core_at m k) (core_as b.rest) ∙ tidy.blank k (sym (ap (λ t. job_at t k) (jobs_as b.rest)) ∙ h);
  quiet = λ k h. ap (λ a. alarm_at a.items k) (alarms_as b.rest) ∙ tidy.quiet k (sym (ap (λ t. job_at t k) (jobs_as b.rest)) ∙ h);
  nameless = λ k h. ap (λ s. symbols_at s.items k) (symbols_as b.rest) ∙ tidy.nameless k (sym (ap (λ t. job_at t k) (jobs_as b.rest)) ∙ h);
  addressed = λ k. subst IsPlaced (sym (ap (λ t. job_at t k) (jobs_as b.rest))) (tidy.addressed k);
  timed = subst (λ t. t < clock_end) (sym (clock_as b.rest)) tidy.timed;
}

-- words
link_changed : (old new : Plain) (l : ℕ) (f : Option Pipe → Option Pipe) → LinkBecomes old new l (f (piped old.pipes l))
    → Becomes old new (on_link (machine_of old) l f)
link_changed old new l f b = record { machine = link_machine old new l f b; place = place_as b.rest; touched = touched_as b.rest }

pub word_sent : (old new : Plain) (l w : ℕ) → LinkBecomes old new l (option_map (with_sent w) (piped old.pipes l))
    → Becomes old new (on_link (machine_of old) l (option_map (with_sent w)))
word_sent old new l w b = link_changed old new l (option_map (with_sent w)) b

pub word_received : (old new : Plain) (l : ℕ) → LinkBecomes old new l (option_map with_received (piped old.pipes l))
    → Becomes old new (on_link (machine_of old) l (option_map with_received))
word_received old new l b = link_changed old new l (option_map with_received) b

-- an end that nobody has opened
pub link_unopened : (p : Plain) (l : ℕ) (write : Bool) → has_unopened write ((machine_of p).links l) ≡ true → has_unopened write (piped p.pipes l) ≡ true
unfolding machine_of
link_unopened p l write h = h

pub end_shut : (old new : Plain) (l : ℕ) (write : Bool) → LinkBecomes old new l (option_map (with_end_closed write) (piped old.pipes l))
    → Becomes old new (on_link (machine_of old) l (option_map (with_end_closed write)))
end_shut old new l write b = link_changed old new l (option_map (with_end_closed write)) b

pub link_there : (p : Plain) (l : ℕ) → is_some ((machine_of p).links l) ≡ true → is_some (piped p.pipes l) ≡ true
unfolding machine_of
link_there p l h = h

pub link_room : (p : Plain) (l : ℕ) → length (words_in ((machine_of p).links l)) < most_link_words → length (words_in (piped p.pipes l)) < most_link_words
unfolding machine_of
link_room p l h = h

-- ends, with the channels on them
pub still_closed : (old mid : Plain) (s n l : ℕ) (o : Option Pipe) → LinkBecomes old mid l o → chan_in (machine_of old) s n ≡ Shut
    → IsElsewhere (channel_at mid.jobs s n)
still_closed old mid s n l o b e = subst IsElsewhere (sym (ap (λ t. channel_at t s n) (jobs_as b.rest) ∙ chan_shut old s n e)) tt

linked_elsewhere : (x : Store) (l : ℕ) (write : Bool) (c : Channel) → chan_of x c ≡ Linked l write → IsElsewhere c
linked_elsewhere x l write (Link k w) e = tt
linked_elsewhere x l write c e = cc

pub still_linked : (old mid : Plain) (s n l k : ℕ) (write : Bool) (o : Option Pipe) → LinkBecomes old mid l o
    → chan_in (machine_of old) s n ≡ Linked k write → IsElsewhere (channel_at mid.jobs s n)
still_linked old mid s n l k write o b e = subst IsElsewhere (sym (ap (λ t. channel_at t s n) (jobs_as b.rest)))
    (linked_elsewhere old.files k write (channel_at old.jobs s n) (sym (chan_is old s n) ∙ e))

pub joined_row : (old mid new : Plain) (s n l x y : ℕ) (write : Bool)
    → LinkBecomes old mid l (Some (with_end_opened write s n (link_or_new x y (piped old.pipes l))))
    → Becomes mid new (in_job (machine_of mid) s (on_channel n (λ c. Linked l write)))
    → Becomes old new (effect (changes.Join n l write x y) s (machine_of old))
unfolding effect
joined_row old mid new s n l x y write b c = record {
  machine = c.machine ∙ ap (λ (m : Machine). in_job m s (on_channel n (λ c. Linked l write)))
      (link_machine old mid l (λ o. Some (with_end_opened write s n (link_or_new x y o))) b);
  place = c.place ∙ place_as b.rest;
  touched = c.touched ∙ touched_as b.rest;
}

pub parted_row : (old mid new : Plain) (s n l : ℕ) (write : Bool) → LinkBecomes old mid l (after_end_close write (piped old.pipes l))
    → Becomes mid new (in_job (machine_of mid) s (on_channel n (λ c. Shut))) → Becomes old new (effect (changes.CloseEnd n l write) s (machine_of old))
unfolding effect
parted_row old mid new s n l write b c = record {
  machine = c.machine ∙ ap (λ (m : Machine). in_job m s (on_channel n (λ c. Shut))) (link_machine old mid l (after_end_close write) b);
  place = c.place ∙ place_as b.rest;
  touched = c.touched ∙ touched_as b.rest;
}
