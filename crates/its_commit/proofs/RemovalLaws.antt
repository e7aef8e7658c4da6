-- A tree of jobs that is swept slot by slot, and then removed, is the removal of the plain machine.
use Rattle.std.specs.Prelude.{if◌then◌else◌, ◌≡◌, ◌≤◌, ◌<◌, ◌+◌, ◌==◌, ℕ, suc, Bool, true, false, Option, Some, None, List, [], ◌++◌, is_some, is_none, option_map, slice_index_or, refl}
use Rattle.its_word.specs.Console.{Console}
use Rattle.std.proofs.Common.{sym, ◌∙◌, ap, subst, arith, inl, inr}
use Rattle.std.proofs.lemmas.Bool.{cases_Bool, cases_eq, cases_lt, ne_eqb}
use Rattle.std.proofs.lemmas.List.{get_or_past}
use Rattle.its_word.specs.ArrayVec.{ArrayVec}
use Rattle.its_word.specs.Core.{Core, no_core}
use Rattle.its_word.specs.Limits.{slots}
use Rattle.its_records.specs.Links.{most_links}
use Rattle.its_records.specs.Tree.{is_below}
use Rattle.its_records.specs.declared.jobs.Channel.TheVariants as channels
use Rattle.its_records.specs.declared.jobs.Job.{Job}
use Rattle.its_core.specs.Cores.{core_at, clear_at}
use Rattle.its_core.specs.Frames.{Frames, frames_drop_all}
use Rattle.its_commit.specs.Pages.{pages_swept}
use Rattle.its_world.proofs.WorldLaws.{frames_still}
use Rattle.its_files.specs.Files.{Store, directory}
use Rattle.its_frame.specs.declared.change.Change.TheVariants as changes
use Rattle.its_frame.specs.declared.frame.Frame.{Frame}
use Rattle.its_jobs.specs.Table.{Table, job_at, superior_at, in_tree, IsTree, Without}
use Rattle.its_jobs.proofs.TreeLaws.{past_none}
use Rattle.its_pipes.specs.Pipes.{piped}
use Rattle.its_plain.specs.Machine.{Shut, Symbol, Pipe, Whole}
use Rattle.its_plain.specs.Machine.Own.{on_channel}
use Rattle.its_plain.specs.Machine.Change.{with_alarm, on_slot, channel_in, after_shut, job_after_removal, superior_in, superiors, is_gone, holder_after_removal, symbols_after_removal, ends_after_removal, after_removal, effect}
use Rattle.its_plain.specs.Operator.Clock.{alarm_in, clock_end}
use Rattle.its_plain.proofs.MachineLaws.{machine_is}
use Rattle.its_stepped.specs.Commit.{effect_on}
use Rattle.its_stepped.specs.SlotSame.{SlotSame}
use Rattle.its_stepped.specs.Sound.{Sound}
use Rattle.its_stepped.specs.State.{State}
use Rattle.its_stepped.proofs.Frame.FrameLaws.{on_slot_here, on_slot_other}
use Rattle.its_stepped.proofs.Unwinding.UnwindLaws.{slot_same, slot_then}
use Rattle.its_commit.specs.Removal.{channel_left, Shared, Alone, Closes, Bare, Empties, SlotSwept, Sweeps, Swept}
use Rattle.its_commit.proofs.TidyLaws.{tidy_becomes}
use Rattle.its_world.specs.WaitLists.{lists_to, link_lists_to}
use Rattle.its_world.specs.Filed.{OnLists, Resettled}
use Rattle.its_world.proofs.PlaceLaws.{removed_on_lists}
use Rattle.its_world.specs.Storage.{chan_in}
use Rattle.its_shared.specs.Across.{channel_by, channel_at, Across}
use Rattle.its_world.specs.Tidy.{Tidy}
use Rattle.its_world.specs.World.{chan_of, mark_of, bare, alarm_at, AlarmBecomes, raw_of, raw_at, frame_at, console_at, holder_at, symbols_at, state_of, in_raw, with_frames, Becomes, CoreBecomes, FrameBecomes, JobBecomes}
use Rattle.its_world.specs.declared.world.World.{World}
use Rattle.its_world.proofs.StateLaws.{state_is, raw_others, changed_state, absent_state, frames_state, frames_core}
use Rattle.its_world.proofs.AlarmLaws.{alarm_state}
use Rattle.its_world.proofs.MappedLaws.{frames_tidy}
use Rattle.its_world.proofs.StorageLaws.{chan_is, chan_shut, frame_is}
use Rattle.its_shared.proofs.AcrossLaws.{across_alike, across_table, same_alike}
use Rattle.its_shared.proofs.LeftLaws.{left_alike, left_chan, raw_superior, shut_here, shut_there}
use Rattle.its_records.proofs.ClimbLaws.{or_second}
use Rattle.its_stepped.proofs.Lining.KeptLaws.{user_page}
use Rattle.its_world.proofs.ContentsLaws.{core_as, jobs_as, frames_as, consoles_as, holders_as, files_as, clock_as, version_as, symbols_as, alarms_as, pipes_as}

-- lists of symbols of which those of slots without a job are emptied
abbrev Forgotten : Table → List (ArrayVec Symbol) → List (ArrayVec Symbol) → Type 0
Forgotten t old new = (k : ℕ) → symbols_at new k ≡ symbols_after_removal (is_none (job_at t k)) (symbols_at old k)

-- the superiors of the raw machine are those of the jobs
pub superiors_are : (w : World) → IsTree w.jobs.jobs w.jobs.superiors → superiors (state_of w).raw ≡ superior_at w.jobs
unfolding state_of
superiors_are w t = λ i k. raw_superior w.files w.core w.jobs w.alarms.items k t i

tree_gone : (w : World) (r : ℕ) → IsTree w.jobs.jobs w.jobs.superiors → in_tree (superior_at w.jobs) r ≡ is_gone (superiors (state_of w).raw) r
tree_gone w r t = ap (λ sup. in_tree sup r) (sym (superiors_are w t))

-- what slots share, and what one slot alone does
shared_same : (w : State) → Shared w w
shared_same w = record {
  superiors = λ k. refl;
  consoles = refl;
  holders = refl;
  files = refl;
  clock = refl;
  version = refl;
  symbols = refl;
  links = refl;
  mark = refl;
}

shared_then : (w v u : State) → Shared w v → Shared v u → Shared w u
shared_then w v u a b = record {
  superiors = λ k. b.superiors k ∙ a.superiors k;
  consoles = b.consoles ∙ a.consoles;
  holders = b.holders ∙ a.holders;
  files = b.files ∙ a.files;
  clock = b.clock ∙ a.clock;
  version = b.version ∙ a.version;
  symbols = b.symbols ∙ a.symbols;
  links = b.links ∙ a.links;
  mark = b.mark ∙ a.mark;
}

alone_same : (w : State) (s : ℕ) → Alone w w s
alone_same w s = record { others = λ k ne. slot_same w k; page = refl; shared = shared_same w }

alone_then : (w v u : State) (s : ℕ) → Alone w v s → Alone v u s → Alone w u s
alone_then w v u s a b = record {
  others = λ k ne. slot_then w v u k (a.others k ne) (b.others k ne);
  page = b.page ∙ a.page;
  shared = shared_then w v u a.shared b.shared;
}

-- a job is changed that keeps its superior
superior_kept : (h : Whole → Whole) (o : Option Whole) → ((q : Whole) → (h q).superior ≡ q.superior) → superior_in (option_map h o) ≡ superior_in o
superior_kept h (Some q) same = same q
superior_kept h None same = refl

in_raw_alone : (w : State) (s : ℕ) (h : Whole → Whole) → ((q : Whole) → (h q).superior ≡ q.superior) → Alone w (in_raw w s h) s
in_raw_alone w s h same = record {
  others = λ k ne. record { job = on_slot_other w.raw.jobs s k h ne; frame = refl; page = refl };
  page = refl;
  shared = record {
    superiors = λ k. elim (cases_eq k s) [
      | inl e ↦ ap (λ i. superior_in (on_slot w.raw.jobs s h i)) e ∙ ap superior_in (on_slot_here w.raw.jobs s h)
          ∙ superior_kept h (w.raw.jobs s) same ∙ ap (λ i. superior_in (w.raw.jobs i)) (sym e)
      | inr ne ↦ ap superior_in (on_slot_other w.raw.jobs s k h ne)
    ];
    consoles = refl;
    holders = refl;
    files = refl;
    clock = refl;
    version = refl;
    symbols = refl;
    links = refl;
    mark = refl;
  };
}

-- the core, the registers or the frame of a slot are written
superior_same : (t u : Store) (c d : Core) (s : Option ℕ) (x y : Option (ℕ × ℕ)) (o p : Option Job) → is_some p ≡ is_some o
    → superior_in (raw_of u d s y p) ≡ superior_in (raw_of t c s x o)
superior_same t u c d s x y (Some j) (Some i) e = refl
superior_same t u c d s x y None None e = refl
superior_same t u c d s x y (Some j) None e = cc
superior_same t u c d s x y None (Some i) e = cc

becomes_alone : (old new : World) (s : ℕ) (c : Core) (j : Option Job) (f : Option Frame) → Becomes old new s c j f (clear_at old.core s)
    → is_some j ≡ is_some (job_at old.jobs s)
    → Alone (state_of old) (state_of new) s
unfolding state_of
becomes_alone old new s c j f b some = record {
  others = λ k ne. record { job = raw_others old new s c j f (clear_at old.core s) b k ne; frame = b.frame.others k ne; page = b.reserved.others k ne };
  page = b.reserved.here;
  shared = record {
    superiors = λ k. elim (cases_eq k s) [
      | inl e ↦
          ap (λ i. superior_in (raw_at new.files new.core new.jobs new.alarms.items i)) e
          ∙ ap (λ xs. superior_in (raw_of new.files (core_at new.core s) (slice_index_or xs s None) (alarm_at new.alarms.items s)
          (job_at new.jobs s))) b.superiors
          ∙ superior_same old.files new.files (core_at old.core s) (core_at new.core s) (superior_at old.jobs s)
          (alarm_at old.alarms.items s) (alarm_at new.alarms.items s) (job_at old.jobs s) (job_at new.jobs s) (ap is_some b.job.here ∙ some)
          ∙ ap (λ i. superior_in (raw_at old.files old.core old.jobs old.alarms.items i)) (sym e)
      | inr ne ↦ ap superior_in (raw_others old new s c j f (clear_at old.core s) b k ne)
    ];
    consoles = ap (λ cs c. console_at cs.items c) (consoles_as b.rest);
    holders = ap (λ hs c. holder_at hs c) (holders_as b.rest);
    files = ap directory (files_as b.rest);
    clock = clock_as b.rest;
    version = version_as b.rest;
    symbols = ap (λ l k. symbols_at l.items k) (symbols_as b.rest);
    links = ap (λ p l. piped p l) (pipes_as b.rest);
    mark = ap mark_of (files_as b.rest);
  };
}

-- the channels of a job are closed, one after another
shut_row : (w : State) (s n : ℕ) → effect_on (changes.Shut n) s w ≡ in_raw w s (on_channel n (λ c. Shut))
unfolding effect_on effect
shut_row w s n = refl

pub closing_start : (w : State) (s : ℕ) → Closes w w s 0
closing_start w s = record { alone = alone_same w s; frame = refl; closed = λ n l. absurd (omega arith) }

closing_next : (w v : State) (s n : ℕ) → Closes w v s n → Closes w (in_raw v s (on_channel n (λ c. Shut))) s (n + 1)
closing_next w v s n a = record {
  alone = alone_then w v _ s a.alone (in_raw_alone v s (on_channel n (λ c. Shut)) (λ q. refl));
  frame = a.frame;
  closed = λ m l. ap (λ o. channel_in o m) (on_slot_here v.raw.jobs s (on_channel n (λ c. Shut))) ∙ elim (cases_eq m n) [
    | inl e ↦ ap (λ i. channel_in (option_map (on_channel n (λ c. Shut)) (v.raw.jobs s)) i) e ∙ shut_here (v.raw.jobs s) n
    | inr ne ↦ shut_there (v.raw.jobs s) n m ne ∙ a.closed m (omega arith)
  ];
}

pub closing_more : (w v u : State) (s n : ℕ) → Closes w v s n → u ≡ effect_on (changes.Shut n) s v → Closes w u s (n + 1)
closing_more w v u s n a e = subst (λ x. Closes w x s (n + 1)) (sym (e ∙ shut_row v s n)) (closing_next w v s n a)

-- then all that the slot has is given up
closed_all : (w : World) (s : ℕ) → Tidy w → ((n : ℕ) → n < 16 → chan_in (state_of w) s n ≡ Shut) → (n : ℕ) → channel_at w.jobs s n ≡ channels.Closed
closed_all w s tidy h n = elim (cases_lt n 16) [
  | inl l ↦ chan_shut w s n (h n l)
  | inr ge ↦ tidy.across.past_numbers s n (omega arith)
]

-- an alarm is taken away
alarm_alone : (old new : World) (s : ℕ) (a : Option (ℕ × ℕ)) → AlarmBecomes old new s a → Alone (state_of old) (state_of new) s
alarm_alone old new s a b = subst (λ w. Alone (state_of old) w s) (sym (alarm_state old new s a b)) (in_raw_alone (state_of old) s (with_alarm a) (λ q. refl))

pub slot_emptied : (old mid low off new : World) (s : ℕ) → Closes (state_of old) (state_of mid) s 16 → Tidy mid
    → CoreBecomes mid (with_frames low mid.core.frames) s no_core → FrameBecomes low off s None
    → AlarmBecomes off new s None → mid.core.frames ≡ old.core.frames → low.core.frames ≡ frames_drop_all s mid.core.frames → Empties old new s
slot_emptied old mid low off new s a tidy b d e same dropped = record {
  alone =
      alone_then (state_of old) (state_of mid) (state_of new) s a.alone
      (alone_then (state_of mid) (state_of low) (state_of new) s
      (subst (λ v. Alone (state_of mid) v s) (frames_state low mid.core.frames)
      (becomes_alone mid (with_frames low mid.core.frames) s no_core (job_at mid.jobs s) (frame_at mid.frames.items s) b refl))
      (alone_then (state_of low) (state_of off) (state_of new) s
      (becomes_alone low off s (core_at low.core s) (job_at low.jobs s) None d refl) (alarm_alone off new s None e)));
  frame = frame_is new s ∙ ap (λ l. frame_at l.items s) (frames_as e.rest) ∙ d.frame.here;
  bare = record {
    core = ap (λ c. core_at c s) (core_as e.rest) ∙ d.core.here ∙ sym (frames_core low mid.core.frames s) ∙ b.core.here;
    channels = λ n. ap (λ t. channel_at t s n) (jobs_as e.rest) ∙ ap (λ j. channel_by j n) (d.job.here ∙ b.job.here) ∙ closed_all mid s tidy a.closed n;
    alarm = e.alarms.here;
  };
  pages = ap (λ c. c.frames) (core_as e.rest) ∙ d.pages ∙ frames_still (clear_at low.core s) s low.core.frames ∙ dropped ∙ ap (frames_drop_all s) same;
}

pub tidy_bare : (old new : World) (s : ℕ) → CoreBecomes old (with_frames new old.core.frames) s no_core → Tidy old → Tidy new
tidy_bare old new s b tidy =
    frames_tidy new old.core.frames
    (tidy_becomes old (with_frames new old.core.frames) s no_core (job_at old.jobs s) (frame_at old.frames.items s) (clear_at old.core s) b
    (λ h. refl) (λ h. h) (λ n. refl) tidy)

-- the channels of a job that stays
pub shut_some : (gone : ℕ → Bool) (old new : World) (s : ℕ) (j i : Job) → job_at old.jobs s ≡ Some j → bare i ≡ bare j
    → ((n : ℕ) → slice_index_or i.channels n channels.Closed ≡ channel_left gone (slice_index_or j.channels n channels.Closed))
    → JobBecomes old new s i → state_of new ≡ in_raw (state_of old) s (after_shut gone)
shut_some gone old new s j i is e h b = changed_state old new s (core_at old.core s) i j (after_shut gone) b is (λ t. record {
  core = core_at old.core s;
  job = sym e t;
  superior = superior_at old.jobs s;
  alarm = alarm_at old.alarms.items s;
  channels = λ n. sym (ap (chan_of old.files) (h n) ∙ left_chan old.files gone (slice_index_or j.channels n channels.Closed)) t;
})

pub shut_none : (gone : ℕ → Bool) (w : World) (s : ℕ) → job_at w.jobs s ≡ None → state_of w ≡ in_raw (state_of w) s (after_shut gone)
shut_none gone w s none = absent_state w s (after_shut gone) none

pub shut_tidy : (gone : ℕ → Bool) (old new : World) (s : ℕ) (j i : Job) → job_at old.jobs s ≡ Some j
    → ((n : ℕ) → slice_index_or i.channels n channels.Closed ≡ channel_left gone (slice_index_or j.channels n channels.Closed))
    → JobBecomes old new s i → Tidy old → Tidy new
shut_tidy gone old new s j i is h b tidy = record {
  blank = λ k none. elim (cases_eq k s) [
    | inl e ↦ let wrong : None ≡ Some i = sym none ∙ ap (job_at new.jobs) e ∙ b.job.here in absurd cc
    | inr ne ↦ b.core.others k ne ∙ tidy.blank k (sym (b.job.others k ne) ∙ none)
  ];
  quiet = λ k none. ap (λ l. alarm_at l.items k) (alarms_as b.rest) ∙ elim (cases_eq k s) [
    | inl e ↦ let wrong : None ≡ Some i = sym none ∙ ap (job_at new.jobs) e ∙ b.job.here in absurd cc
    | inr ne ↦ tidy.quiet k (sym (b.job.others k ne) ∙ none)
  ];
  timed = subst (λ t. t < clock_end) (sym (clock_as b.rest)) tidy.timed;
  across = subst (λ (t : Store). Across t new.jobs) (sym (files_as b.rest))
      (across_alike old.files old.jobs new.jobs tidy.across (λ k n. elim (cases_eq k s) [
        | inl e ↦
            left_alike gone (channel_at old.jobs k n) (channel_at new.jobs k n)
            (ap (λ m. channel_at new.jobs m n) e ∙ ap (λ o. channel_by o n) b.job.here ∙ h n
            ∙ ap (λ o. channel_left gone (channel_by o n)) (sym is) ∙ ap (λ m. channel_left gone (channel_at old.jobs m n)) (sym e))
        | inr ne ↦ same_alike (channel_at old.jobs k n) (channel_at new.jobs k n) (ap (λ o. channel_by o n) (b.job.others k ne))
      ]));
  nameless = λ k none. ap (λ l. symbols_at l.items k) (symbols_as b.rest) ∙ tidy.nameless k (elim (cases_eq k s) [
    | inl e ↦ let wrong : None ≡ Some i = sym none ∙ ap (job_at new.jobs) e ∙ b.job.here in absurd cc
    | inr ne ↦ sym (b.job.others k ne) ∙ none
  ]);
  on_lists = b.on_lists tidy.on_lists;
}

-- one slot swept
swept_gone : (gone : ℕ → Bool) (old new : World) (s : ℕ) → gone s ≡ true → Empties old new s → Sweeps gone old new s
swept_gone gone old new s g e = record {
  here = record {
    job = λ f. absurd (let wrong : true ≡ false = sym g ∙ f in cc);
    frame = e.frame ∙ sym (ap (λ (b : Bool). if b then None else (state_of old).frames s) g);
    page = e.alone.page;
  };
  bare = λ t. e.bare;
  alone = e.alone;
  pages = e.pages ∙ sym (ap (λ (b : Bool). if b then frames_drop_all s old.core.frames else old.core.frames) g);
}

swept_left : (gone : ℕ → Bool) (old new : World) (s : ℕ) → gone s ≡ false → state_of new ≡ in_raw (state_of old) s (after_shut gone)
    → new.core.frames ≡ old.core.frames → Sweeps gone old new s
swept_left gone old new s g e same = record {
  here = record {
    job = λ f. ap (λ (w : State). w.raw.jobs s) e ∙ on_slot_here (state_of old).raw.jobs s (after_shut gone);
    frame = ap (λ (w : State). w.frames s) e ∙ sym (ap (λ (b : Bool). if b then None else (state_of old).frames s) g);
    page = ap (λ (w : State). w.reserved s) e;
  };
  bare = λ t. absurd (let wrong : true ≡ false = sym t ∙ g in cc);
  alone = subst (λ w. Alone (state_of old) w s) (sym e) (in_raw_alone (state_of old) s (after_shut gone) (λ q. refl));
  pages = same ∙ sym (ap (λ (b : Bool). if b then frames_drop_all s old.core.frames else old.core.frames) g);
}

pub sweeps_gone : (old new : World) (r s : ℕ) (b : Bool) → IsTree old.jobs.jobs old.jobs.superiors → b ≡ in_tree (superior_at old.jobs) r s
    → b ≡ true → Empties old new s
    → Sweeps (is_gone (superiors (state_of old).raw) r) old new s
sweeps_gone old new r s b t e g h = swept_gone _ old new s (ap (λ (f : ℕ → Bool). f s) (sym (tree_gone old r t)) ∙ sym e ∙ g) h

pub sweeps_left : (old new : World) (r s : ℕ) (b : Bool) → IsTree old.jobs.jobs old.jobs.superiors → b ≡ in_tree (superior_at old.jobs) r s → b ≡ false
    → state_of new ≡ in_raw (state_of old) s (after_shut (in_tree (superior_at old.jobs) r)) → new.core.frames ≡ old.core.frames
    → Sweeps (is_gone (superiors (state_of old).raw) r) old new s
sweeps_left old new r s b t e g h same =
    swept_left _ old new s (ap (λ (f : ℕ → Bool). f s) (sym (tree_gone old r t)) ∙ sym e ∙ g)
    (h ∙ ap (λ f. in_raw (state_of old) s (after_shut f)) (tree_gone old r t)) same

-- slot after slot
kept_then : (gone : ℕ → Bool) (w v u : State) (k : ℕ) → SlotSame w v k → SlotSwept gone v u k → SlotSwept gone w u k
kept_then gone w v u k a b = record {
  job = λ g. b.job g ∙ ap (option_map (after_shut gone)) a.job;
  frame = b.frame ∙ ap (λ f. if gone k then None else f) a.frame;
  page = b.page ∙ a.page;
}

then_kept : (gone : ℕ → Bool) (w v u : State) (k : ℕ) → SlotSwept gone w v k → SlotSame v u k → SlotSwept gone w u k
then_kept gone w v u k a b = record { job = λ g. b.job ∙ a.job g; frame = b.frame ∙ a.frame; page = b.page ∙ a.page }

-- a slot that has been emptied stays so
abbrev core_in : Option Whole → Core
core_in (Some q) = q.core
core_in None = no_core

core_there : (t : Store) (c : Core) (u : Option ℕ) (a : Option (ℕ × ℕ)) (o : Option Job) → (o ≡ None → c ≡ no_core) → c ≡ core_in (raw_of t c u a o)
core_there t c u a (Some j) h = refl
core_there t c u a None h = h refl

core_none : (t : Store) (c : Core) (u : Option ℕ) (a : Option (ℕ × ℕ)) (o : Option Job) → c ≡ no_core → core_in (raw_of t c u a o) ≡ no_core
core_none t c u a (Some j) h = h
core_none t c u a None h = refl

alarm_there : (t : Store) (c : Core) (u : Option ℕ) (a : Option (ℕ × ℕ)) (o : Option Job) → (o ≡ None → a ≡ None) → a ≡ alarm_in (raw_of t c u a o)
alarm_there t c u a (Some j) h = refl
alarm_there t c u a None h = h refl

alarm_none : (t : Store) (c : Core) (u : Option ℕ) (a : Option (ℕ × ℕ)) (o : Option Job) → a ≡ None → alarm_in (raw_of t c u a o) ≡ None
alarm_none t c u a (Some j) h = h
alarm_none t c u a None h = refl

pub alarm_shown : (w : World) (k : ℕ) → Tidy w → alarm_at w.alarms.items k ≡ alarm_in ((state_of w).raw.jobs k)
unfolding state_of
alarm_shown w k tidy = alarm_there w.files (core_at w.core k) (superior_at w.jobs k) (alarm_at w.alarms.items k) (job_at w.jobs k) (tidy.quiet k)

alarm_bare : (w : World) (k : ℕ) → alarm_at w.alarms.items k ≡ None → alarm_in ((state_of w).raw.jobs k) ≡ None
unfolding state_of
alarm_bare w k h = alarm_none w.files (core_at w.core k) (superior_at w.jobs k) (alarm_at w.alarms.items k) (job_at w.jobs k) h

core_shown : (w : World) (k : ℕ) → Tidy w → core_at w.core k ≡ core_in ((state_of w).raw.jobs k)
unfolding state_of
core_shown w k tidy = core_there w.files (core_at w.core k) (superior_at w.jobs k) (alarm_at w.alarms.items k) (job_at w.jobs k) (tidy.blank k)

core_bare : (w : World) (k : ℕ) → core_at w.core k ≡ no_core → core_in ((state_of w).raw.jobs k) ≡ no_core
unfolding state_of
core_bare w k h = core_none w.files (core_at w.core k) (superior_at w.jobs k) (alarm_at w.alarms.items k) (job_at w.jobs k) h

bare_kept : (mid new : World) (k : ℕ) → Bare mid k → (state_of new).raw.jobs k ≡ (state_of mid).raw.jobs k → Tidy new → Bare new k
bare_kept mid new k b e tidy = record {
  core = core_shown new k tidy ∙ ap core_in e ∙ core_bare mid k b.core;
  channels = λ n. chan_shut new k n (ap (λ o. channel_in o n) e ∙ chan_is mid k n ∙ ap (chan_of mid.files) (b.channels n));
  alarm = alarm_shown new k tidy ∙ ap alarm_in e ∙ alarm_bare mid k b.alarm;
}

none_swept : (gone : ℕ → Bool) (f : Frames) → pages_swept gone 0 f ≡ f
unfolding pages_swept
none_swept gone f = refl

one_swept : (gone : ℕ → Bool) (n : ℕ) (f : Frames) → pages_swept gone (suc n)
    f ≡ (if gone n then frames_drop_all n (pages_swept gone n f) else pages_swept gone n f)
unfolding pages_swept
one_swept gone n f = refl

more_swept : (gone : ℕ → Bool) (n : ℕ) (f : Frames) → pages_swept gone (n + 1)
    f ≡ (if gone n then frames_drop_all n (pages_swept gone n f) else pages_swept gone n f)
more_swept gone n f = let e : n + 1 ≡ suc n = omega arith in ap (λ k. pages_swept gone k f) e ∙ one_swept gone n f

pub swept_start : (gone : ℕ → Bool) (w : World) → Swept gone w w 0
swept_start gone w = record {
  done = λ k l. absurd (omega arith);
  bare = λ k l g. absurd (omega arith);
  rest = λ k l. slot_same (state_of w) k;
  shared = shared_same (state_of w);
  pages = sym (none_swept gone w.core.frames);
}

swept_next : (gone : ℕ → Bool) (old mid new : World) (n : ℕ) → Swept gone old mid n → Sweeps gone mid new n → Tidy new → Swept gone old new (n + 1)
swept_next gone old mid new n a b tidy = record {
  done = λ k l. elim (cases_eq k n) [
    | inl e ↦ rw e (kept_then gone (state_of old) (state_of mid) (state_of new) n (a.rest n (omega arith)) b.here)
    | inr ne ↦ then_kept gone (state_of old) (state_of mid) (state_of new) k (a.done k (omega arith)) (b.alone.others k ne)
  ];
  bare = λ k l g. elim (cases_eq k n) [
    | inl e ↦ subst (Bare new) (sym e) (b.bare (ap gone (sym e) ∙ g))
    | inr ne ↦ bare_kept mid new k (a.bare k (omega arith) g) (b.alone.others k ne).job tidy
  ];
  rest = λ k l. slot_then (state_of old) (state_of mid) (state_of new) k (a.rest k (omega arith)) (b.alone.others k (λ e. omega arith));
  shared = shared_then (state_of old) (state_of mid) (state_of new) a.shared b.alone.shared;
  pages = b.pages ∙ ap (λ (f : Frames). if gone n then frames_drop_all n f else f) a.pages ∙ sym (more_swept gone n old.core.frames);
}

pub swept_more : (old mid new : World) (r n : ℕ) → Swept (is_gone (superiors (state_of old).raw) r) old mid n
    → Sweeps (is_gone (superiors (state_of mid).raw) r) mid new n → Tidy new
    → Swept (is_gone (superiors (state_of old).raw) r) old new (n + 1)
swept_more old mid new r n a b tidy =
    let same : superiors (state_of mid).raw ≡ superiors (state_of old).raw = λ i k. a.shared.superiors k i in
    swept_next (is_gone (superiors (state_of old).raw) r) old mid new n a (subst (λ sup. Sweeps (is_gone sup r) mid new n) same b) tidy

-- a slot past the last has no job, and is not gone
none_there : (w : World) (k : ℕ) → IsTree w.jobs.jobs w.jobs.superiors → slots ≤ k → (state_of w).raw.jobs k ≡ None
unfolding state_of
none_there w k t past =
    let none : job_at w.jobs k ≡ None = get_or_past w.jobs.jobs k None (let n = t.job_count in omega arith) in
    ap (raw_of w.files (core_at w.core k) (superior_at w.jobs k) (alarm_at w.alarms.items k)) none

past_left : (w : World) (r k : ℕ) → r < slots → IsTree w.jobs.jobs w.jobs.superiors → slots ≤ k → is_gone (superiors (state_of w).raw) r k ≡ false
past_left w r k l t past = ap (λ (f : ℕ → Bool). f k) (sym (tree_gone w r t)) ∙ past_none w.jobs.superiors r k t.superior_count l past

-- symbols are left by what job each slot has
pub forgotten_along : (t u : Table) (xs ys zs : List (ArrayVec Symbol)) → t ≡ u → ys ≡ zs → Forgotten u xs zs → Forgotten t xs ys
forgotten_along t u xs ys zs jobs lists f = subst (λ l. Forgotten t xs l) (sym lists) (subst (λ x. Forgotten x xs zs) (sym jobs) f)

-- then all slots are swept, and the jobs are removed
module _ (old mid : World) (r : ℕ) (low : r < slots) (tree : IsTree old.jobs.jobs old.jobs.superiors)
    (swept : Swept (is_gone (superiors (state_of old).raw) r) old mid slots) where
  past_swept : (k : ℕ) → slots ≤ k → SlotSame (state_of old) (state_of mid) k
      → SlotSwept (is_gone (superiors (state_of old).raw) r) (state_of old) (state_of mid) k
  past_swept k past s =
      let stays : is_gone (superiors (state_of old).raw) r k ≡ false = past_left old r k low tree past in
      let none : (state_of old).raw.jobs k ≡ None = none_there old k tree past in
      record {
        job = λ g. s.job ∙ none ∙ sym (ap (option_map (after_shut (is_gone (superiors (state_of old).raw) r))) none);
        frame = s.frame ∙ sym (ap (λ (b : Bool). if b then None else (state_of old).frames k) stays);
        page = s.page;
      }

  all_swept : (k : ℕ) → SlotSwept (is_gone (superiors (state_of old).raw) r) (state_of old) (state_of mid) k
  all_swept k = elim (cases_lt k slots) [
    | inl l ↦ swept.done k l
    | inr ge ↦ past_swept k (omega arith) (swept.rest k (omega arith))
  ]

  all_bare : (k : ℕ) → is_gone (superiors (state_of old).raw) r k ≡ true → Bare mid k
  all_bare k g = elim (cases_lt k slots) [
    | inl l ↦ swept.bare k l g
    | inr ge ↦ let no : is_gone (superiors (state_of old).raw) r k ≡ false =
        past_left old r k low tree (omega arith) in absurd (let wrong : true ≡ false = sym g ∙ no in cc)
  ]

  pub cores_left : (k : ℕ) → is_gone (superiors (state_of old).raw) r k ≡ true → core_at mid.core k ≡ no_core
  cores_left k g = (all_bare k g).core

  module _ (new : World) (shrub : IsTree mid.jobs.jobs mid.jobs.superiors)
      (job : Without (in_tree (superior_at mid.jobs) r) (job_at mid.jobs) (job_at new.jobs)) where
    superiors_same : superiors (state_of mid).raw ≡ superiors (state_of old).raw
    superiors_same = λ i k. swept.shared.superiors k i

    gone_same : in_tree (superior_at mid.jobs) r ≡ is_gone (superiors (state_of old).raw) r
    gone_same = tree_gone mid r shrub ∙ ap (λ sup. is_gone sup r) superiors_same

    heir_same : superior_at mid.jobs r ≡ superiors (state_of old).raw r
    heir_same = sym (λ i. superiors_are mid shrub i r) ∙ swept.shared.superiors r

    job_gone : (k : ℕ) → is_gone (superiors (state_of old).raw) r k ≡ true → job_at new.jobs k ≡ None
    job_gone k g = job.each k ∙ ap (λ (b : Bool). if b then None else job_at mid.jobs k) (ap (λ (f : ℕ → Bool). f k) gone_same ∙ g)

    job_left : (k : ℕ) → is_gone (superiors (state_of old).raw) r k ≡ false → job_at new.jobs k ≡ job_at mid.jobs k
    job_left k g = job.each k ∙ ap (λ (b : Bool). if b then None else job_at mid.jobs k) (ap (λ (f : ℕ → Bool). f k) gone_same ∙ g)

    -- the jobs that are gone have no frame; so if consoles have other holders, and links other
    -- ends, all slots that wait are put on the lists to which they belong
    frame_gone : (k : ℕ) → is_gone (superiors (state_of old).raw) r k ≡ true → frame_at mid.frames.items k ≡ None
    frame_gone k g = sym (frame_is mid k) ∙ (all_swept k).frame ∙ ap (λ (b : Bool). if b then None else (state_of old).frames k) g

    pub on_lists_removed : (low : World) → new.jobs ≡ low.jobs → low.frames ≡ mid.frames → low.consoles ≡ mid.consoles
        → low.clock ≡ mid.clock → low.wait_lists ≡ mid.wait_lists → Resettled low new (lists_to 8 ++ link_lists_to most_links)
        → OnLists mid → OnLists new
    on_lists_removed low jobs frames consoles clock wait_lists settled =
        removed_on_lists mid low new (λ k. elim (cases_Bool (is_gone (superiors (state_of old).raw) r k)) [
          | inl g ↦ inr (frame_gone k g)
          | inr g ↦ inl (ap (λ t. job_at t k) (sym jobs) ∙ job_left k g)
        ]) frames consoles clock wait_lists settled

    -- and their symbols with them: what is left of those of a slot, by whether it is gone, and by
    -- what job it has
    symbols_by : (k : ℕ) (b : Bool) (o : Option Job) → is_gone (superiors (state_of old).raw) r k ≡ b → job_at new.jobs k ≡ o → Tidy mid
        → symbols_after_removal (is_none o) (symbols_at mid.symbols.items k) ≡ symbols_after_removal b (symbols_at mid.symbols.items k)
    symbols_by k true None g is tidy = refl
    symbols_by k true (Some j) g is tidy = let wrong : Some j ≡ None = sym is ∙ job_gone k g in absurd cc
    symbols_by k false None g is tidy = sym (tidy.nameless k (sym (job_left k g) ∙ is))
    symbols_by k false (Some j) g is tidy = refl

    symbols_gone : Forgotten new.jobs mid.symbols.items new.symbols.items → Tidy mid
        → (k : ℕ) → symbols_at new.symbols.items k ≡ symbols_after_removal (is_gone (superiors (state_of old).raw) r k) (symbols_at mid.symbols.items k)
    symbols_gone forgets tidy k = forgets k ∙ symbols_by k (is_gone (superiors (state_of old).raw) r k) (job_at new.jobs k) refl refl tidy

    none_left : (o : Option Job) (ss : List Symbol) → o ≡ None → symbols_after_removal (is_none o) ss ≡ []
    none_left None ss e = refl
    none_left (Some j) ss e = cc

    pub tidy_removed : new.core ≡ mid.core → new.files ≡ mid.files → new.alarms ≡ mid.alarms → new.clock ≡ mid.clock
        → Forgotten new.jobs mid.symbols.items new.symbols.items → (OnLists mid → OnLists new) → Tidy mid → Tidy new
    tidy_removed core files alarms clock forgets on_lists tidy = record {
      blank = λ k none. ap (λ c. core_at c k) core ∙ elim (cases_Bool (is_gone (superiors (state_of old).raw) r k)) [
        | inl g ↦ cores_left k g
        | inr g ↦ tidy.blank k (sym (job_left k g) ∙ none)
      ];
      quiet = λ k none. ap (λ l. alarm_at l.items k) alarms ∙ elim (cases_Bool (is_gone (superiors (state_of old).raw) r k)) [
        | inl g ↦ (all_bare k g).alarm
        | inr g ↦ tidy.quiet k (sym (job_left k g) ∙ none)
      ];
      timed = subst (λ t. t < clock_end) (sym clock) tidy.timed;
      across = subst (λ (t : Store). Across t new.jobs) (sym files)
          (across_table mid.files mid.jobs new.jobs tidy.across (λ k n. elim (cases_Bool (is_gone (superiors (state_of old).raw) r k)) [
            | inl g ↦ ap (λ o. channel_by o n) (job_gone k g) ∙ sym ((all_bare k g).channels n)
            | inr g ↦ ap (λ o. channel_by o n) (job_left k g)
          ]));
      nameless = λ k none. forgets k ∙ none_left (job_at new.jobs k) (symbols_at mid.symbols.items k) none;
      on_lists = on_lists tidy.on_lists;
    }

    module _ (superior : Without (in_tree (superior_at mid.jobs) r) (superior_at mid.jobs) (superior_at new.jobs))
        (core : new.core ≡ mid.core) (files : new.files ≡ mid.files) (alarms : new.alarms ≡ mid.alarms) where
      raw_left : (k : ℕ) (b : Bool) → is_gone (superiors (state_of old).raw) r k ≡ b
          → raw_at new.files new.core new.jobs new.alarms.items k ≡ job_after_removal (is_gone (superiors (state_of old).raw) r) b ((state_of old).raw.jobs k)
      unfolding state_of
      raw_left k true g = ap (raw_of new.files (core_at new.core k) (superior_at new.jobs k) (alarm_at new.alarms.items k)) (job_gone k g)
      raw_left k false g =
          let above : superior_at new.jobs k ≡ superior_at mid.jobs k =
          superior.each k ∙ ap (λ (b : Bool). if b then None else superior_at mid.jobs k) (ap (λ (f : ℕ → Bool). f k) gone_same ∙ g) in
          ap (raw_of new.files (core_at new.core k) (superior_at new.jobs k) (alarm_at new.alarms.items k)) (job_left k g)
          ∙ ap (λ t. raw_of t (core_at new.core k) (superior_at new.jobs k) (alarm_at new.alarms.items k) (job_at mid.jobs k)) files
          ∙ ap (λ c. raw_of mid.files (core_at c k) (superior_at new.jobs k) (alarm_at new.alarms.items k) (job_at mid.jobs k)) core
          ∙ ap (λ s. raw_of mid.files (core_at mid.core k) s (alarm_at new.alarms.items k) (job_at mid.jobs k)) above
          ∙ ap (λ l. raw_of mid.files (core_at mid.core k) (superior_at mid.jobs k) (alarm_at l.items k) (job_at mid.jobs k)) alarms
          ∙ (all_swept k).job g

      pub tree_removed : new.frames ≡ mid.frames → new.consoles ≡ mid.consoles
          → ((c : ℕ) → holder_at new.holders c ≡ holder_after_removal (in_tree (superior_at mid.jobs) r) (superior_at mid.jobs r)
          (holder_at mid.holders c)) → new.clock ≡ mid.clock → new.version ≡ mid.version → Forgotten new.jobs mid.symbols.items new.symbols.items
          → ((l : ℕ) → piped new.pipes l ≡ ends_after_removal (in_tree (superior_at mid.jobs) r) (piped mid.pipes l)) → Tidy mid
          → (j : ℕ) → state_of new ≡ effect_on (changes.Remove r) j (state_of old)
      unfolding state_of effect_on effect after_removal
      tree_removed frames consoles holders clock version forgets links tidy j = state_is _ _
          (machine_is _ _ (λ k. raw_left k (is_gone (superiors (state_of old).raw) r k) refl)
          (λ c. ap (λ l. console_at l.items c) consoles ∙ ap (λ (f : ℕ → Console). f c) swept.shared.consoles)
          (λ c.
          holders c
          ∙ (λ i. holder_after_removal (gone_same i) (heir_same i) (holder_at mid.holders c))
          ∙ ap (λ (f : ℕ → Option ℕ). holder_after_removal (is_gone (superiors (state_of old).raw) r) (superiors (state_of old).raw r)
          (f c)) swept.shared.holders)
          (ap directory files ∙ swept.shared.files) (clock ∙ swept.shared.clock) (version ∙ swept.shared.version)
          (λ k. symbols_gone forgets tidy k ∙ ap (λ (f : ℕ → List Symbol). symbols_after_removal
          (is_gone (superiors (state_of old).raw) r k) (f k)) swept.shared.symbols)
          (λ l.
          links l
          ∙ ap (λ (g : ℕ → Bool). ends_after_removal g (piped mid.pipes l)) gone_same
          ∙ ap (λ (f : ℕ → Option Pipe). ends_after_removal (is_gone (superiors (state_of old).raw) r) (f l)) swept.shared.links))
          (λ k. ap (λ f. frame_at f.items k) frames ∙ (all_swept k).frame)
          (λ k. ap (λ c. clear_at c k) core ∙ (all_swept k).page)
          (ap mark_of files ∙ swept.shared.mark)

pub no_page : (w : State) (k : ℕ) → Sound w → w.frames k ≡ None → w.reserved k ≡ None
no_page w k s e = user_page (w.raw.jobs k) (w.frames k) (w.reserved k) e (s.each k).by

page_kept : (r j k : ℕ) (w v : State) → v ≡ effect_on (changes.Remove r) j w → v.reserved k ≡ w.reserved k
unfolding effect_on
page_kept r j k w v e = ap (λ x. x.reserved k) e

pub pages_left : (w v : State) (r k : ℕ) → Sound w → ((i : ℕ) → is_below (superiors w.raw) r i ≡ true → w.frames i ≡ None) → w.reserved r ≡ None
    → ((j : ℕ) → v ≡ effect_on (changes.Remove r) j w) → is_gone (superiors w.raw) r k ≡ true → v.reserved k ≡ None
pages_left w v r k s quiet page after_removal gone = page_kept r 0 k w v (after_removal 0) ∙ elim (cases_eq k r) [
  | inl e ↦ ap w.reserved e ∙ page
  | inr ne ↦ no_page w k s (quiet k (or_second (k == r) (is_below (superiors w.raw) r k) gone (ne_eqb k r ne)))
]
