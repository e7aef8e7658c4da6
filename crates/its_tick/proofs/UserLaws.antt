-- A tick in user mode: what a unit or a delivery makes of a world is its row on the state of the
-- world.
use Rattle.std.specs.Prelude.{◌≡◌, ◌≢◌, ◌<◌, ◌≤◌, ◌^◌, ◌⊎◌, ℕ, Bool, true, false, Option, Some, None, IfSome, is_some, List, [], ◌∷◌, length, slice_index_or, slice_set, vec_len, refl}
use Rattle.std.proofs.Common.{sym, ◌∙◌, ap, subst, inl, inr}
use Rattle.std.proofs.Math.Bridge.{le_prop}
use Rattle.std.proofs.Math.Nat.{ℕ_set}
use Rattle.std.proofs.lemmas.Bool.{cases_eq, cases_lt, ne_eqb}
use Rattle.std.proofs.lemmas.List.{get_or-set_same, get_or-set_other, get_or_past, set-get_or}
use Rattle.its_word.specs.Limits.{slots, limit_of}
use Rattle.its_word.specs.Only.{Only}
use Rattle.its_word.specs.Core.{Core}
use Rattle.its_records.specs.declared.calls.Pace.TheVariants.{Step, Work}
use Rattle.its_records.specs.declared.calls.Site.{Site}
use Rattle.its_records.specs.declared.jobs.Channel.{Channel}
use Rattle.its_records.specs.declared.jobs.Channel.TheVariants as channels
use Rattle.its_records.specs.declared.jobs.Job.{Job}
use Rattle.its_core.specs.Cores.{Cores, core_at, clear_at}
use Rattle.its_files.specs.Files.{Store, directory}
use Rattle.its_jobs.specs.Table.{Table, job_at, superior_at}
use Rattle.its_frame.specs.declared.change.Change.TheVariants as changes
use Rattle.its_frame.specs.declared.frame.Frame.{Frame}
use Rattle.its_plain.specs.Call.Step.{among, with_core_and_job, with_fault, informs, informed_slots}
use Rattle.its_plain.specs.Machine.Change.{effect, with_inf}
use Rattle.its_plain.specs.Unit.Interrupt.{Delivered, delivered}
use Rattle.its_plain.specs.Machine.Registers.{bit_of, with_pending}
use Rattle.its_plain.specs.Machine.{Whole}
use Rattle.its_plain.specs.Unit.{Outcome, Changed, Faulted, Called, unit}
use Rattle.its_pipes.specs.Pipes.{piped}
use Rattle.its_plain.proofs.MachineLaws.{machine_is}
use Rattle.its_stepped.specs.Commit.{effect_on, effects_on}
use Rattle.its_stepped.specs.Duty.{GivenBy}
use Rattle.its_stepped.specs.SlotSame.{SlotSame}
use Rattle.its_stepped.specs.Sound.{Sound}
use Rattle.its_stepped.specs.State.{State, entered, same, with_slot}
use Rattle.its_stepped.specs.Tick.{after_delivery, steps, unit_on, works}
use Rattle.its_stepped.specs.Unwind.{all_unwound, unwound}
use Rattle.its_stepped.proofs.Frame.DecodingLaws.{decoding}
use Rattle.its_stepped.proofs.Frame.FrameLaws.{on_slot_other}
use Rattle.its_stepped.proofs.Duties.GivenLaws.{given}
use Rattle.its_stepped.proofs.Ticking.TickLaws.{seen_at, seen_none}
use Rattle.its_stepped.proofs.Unwinding.UnwindLaws.{all_unwound_others, slot_same, slot_then}
use Rattle.its_world.specs.Contents.{contents}
use Rattle.its_world.specs.Tidy.{Tidy}
use Rattle.its_world.specs.World.{symbols_at, alarm_at, bare, chan_of, chans_of, mark_of, raw_of, raw_at, frame_at, state_of, Becomes, CoreBecomes, FrameBecomes, JobBecomes, console_at, holder_at}
use Rattle.its_world.specs.declared.world.World.{World}
use Rattle.its_shared.proofs.BareLaws.{bare_delivered, bare_outcome, delivered_bare, delivered_channels, delivered_stops, unit_bare, unit_channels}
use Rattle.its_world.proofs.StateLaws.{kept_slot, raw_job, raw_some, state_is, turned_state}
use Rattle.its_world.proofs.WorldLaws.{in_slot, then_becomes, alike, frames_still}
use Rattle.its_world.proofs.PlaceLaws.{doors_in, user_on_lists}
use Rattle.its_world.specs.WaitLists.{heads}
use Rattle.its_commit.proofs.TidyLaws.{tidy_put}
use Rattle.its_tick.specs.Kept.{Kept}
use Rattle.its_tick.proofs.WaitsLaws.{raw_is}
use Rattle.its_tick.specs.Ticks.{Made, ticked, with_channels}
use Rattle.pdp_exec.specs.Near.{near_site}
use Rattle.pdp_exec.specs.Units.{Left, after_outcome}
use Rattle.pdp_exec.specs.declared.near.Near.{Near}
use Rattle.its_world.proofs.StorageLaws.{frame_is}
use Rattle.its_world.proofs.ContentsLaws.{core_as, frames_as, consoles_as, holders_as, files_as, clock_as, lists_as, version_as, symbols_as, alarms_as, pipes_as}

raw_addressed : (w : World) (s : ℕ) (q : Whole) → Kept w → frame_at w.frames.items s ≡ None → (state_of w).raw.jobs s ≡ Some q → q.job.pc < 2 ^ 18
raw_addressed w s q kept none is =
    subst (λ (p : Whole). p.job.pc < 2 ^ 18) (seen_none q)
    (subst (λ (o : Option Whole). IfSome o (λ p. p.job.pc < 2 ^ 18)) (seen_at (state_of w) s q None is (frame_is w s ∙ none)) (kept.addressed s))

pub user_addressed : (w : World) (s : ℕ) → Kept w → frame_at w.frames.items s ≡ None → IfSome (job_at w.jobs s) (λ j. j.pc < 2 ^ 18)
user_addressed w s kept none = go (job_at w.jobs s) refl
  where
    go : (o : Option Job) → job_at w.jobs s ≡ o → IfSome o (λ j. j.pc < 2 ^ 18)
    go (Some j) is = raw_addressed w s (raw_job w.files (core_at w.core s) j (superior_at w.jobs s) (alarm_at w.alarms.items s)) kept none (raw_is w s j is)
    go None is = tt

superior_apart : (w : World) (s : ℕ) (j : Job) → Kept w → frame_at w.frames.items s ≡ None → job_at w.jobs s ≡ Some j → superior_at w.jobs s ≢ Some s
superior_apart w s j kept none is =
    let q : Whole = raw_job w.files (core_at w.core s) j (superior_at w.jobs s) (alarm_at w.alarms.items s) in
    subst (λ (o : Option Frame). GivenBy (state_of w) s q o) (frame_is w s ∙ none)
    ((given decoding (state_of w) s kept.forest kept.sound).by q (raw_is w s j is))

-- what holds of the raw job of a slot
pub raw_fact : (P : Whole → Type 0) (w : World) (s : ℕ) (j : Job) → job_at w.jobs s ≡ Some j
    → P (raw_job w.files (core_at w.core s) j (superior_at w.jobs s) (alarm_at w.alarms.items s)) → IfSome (raw_at w.files w.core w.jobs w.alarms.items s) P
raw_fact P w s j is h = subst (λ (x : Option Whole). IfSome x P) (sym (raw_some w s j is)) h

-- the core of a slot is written, and then its registers
pub put_then : (old mid new : World) (s : ℕ) (c : Core) (j : Job) → CoreBecomes old mid s c → JobBecomes mid new s j
    → Becomes old new s c (Some j) (frame_at old.frames.items s) (clear_at old.core s)
put_then old mid new s c j a b = then_becomes old mid new s c c (job_at old.jobs s) (Some j) (frame_at old.frames.items s)
    (frame_at old.frames.items s) (clear_at old.core s) a
    (subst (λ (x : Core). Becomes mid new s x (Some j) (frame_at old.frames.items s) (clear_at old.core s)) a.core.here
    (subst (λ (x : Option Frame). Becomes mid new s (core_at mid.core s) (Some j) x (clear_at old.core s)) a.frame.here
    (subst (λ (x : Option ℕ). Becomes mid new s (core_at mid.core s) (Some j) (frame_at mid.frames.items s) x) a.reserved.here b)))

-- a job that is in no call is written, and waits in no list
pub user_becomes : (old new : World) (s : ℕ) (j : Job) → frame_at old.frames.items s ≡ None
    → Only (job_at old.jobs) (job_at new.jobs) s (Some j) → new.jobs.superiors ≡ old.jobs.superiors
    → contents new ≡ record (contents old) { jobs = new.jobs } → JobBecomes old new s j
user_becomes old new s j none job superiors e =
    let core : new.core ≡ old.core = core_as e in
    record {
      core = alike _ _ s (λ k. ap (λ t. core_at t k) core);
      job = job;
      superiors = superiors;
      frame = alike _ _ s (λ k. ap (λ t. frame_at t.items k) (frames_as e));
      reserved = alike _ _ s (λ k. ap (λ t. clear_at t k) core);
      pages = ap (λ t. t.frames) core ∙ sym (frames_still (clear_at old.core s) s old.core.frames);
      rest = in_slot new e;
      on_lists = user_on_lists old new s job.others none (frames_as e) (ap doors_in e) (lists_as e);
    }

-- a unit, on the core and the registers in place
pub job_put : (t : Table) (s : ℕ) (i j : Job) → job_at t s ≡ Some i → Only (job_at t) (job_at (record t { jobs = slice_set t.jobs s (Some j) })) s (Some j)
job_put t s i j h = record {
  here = get_or-set_same t.jobs s (Some j) None (within (cases_lt s (length t.jobs)));
  others = λ k ne. get_or-set_other t.jobs s k (Some j) None ne;
}
  where
    within : (s < length t.jobs) ⊎ (length t.jobs ≤ s) → s < length t.jobs
    within (inl lt) = lt
    within (inr ge) = let n : slice_index_or t.jobs s None ≡ None = get_or_past t.jobs s None ge in cc

put_back : (t : Table) (s : ℕ) (j : Job) → job_at t s ≡ Some j → slice_set t.jobs s (Some j) ≡ t.jobs
put_back t s j h = ap (slice_set t.jobs s) (sym h) ∙ set-get_or t.jobs s None

-- the version of a world is 1 or 2 in one way
numbers_are : {v : ℕ} (a b : (1 ≤ v) × (v ≤ 2)) → a ≡ b
numbers_are a b = λ t. (le_prop a.0 b.0 t, le_prop a.1 b.1 t)

pub put_same : (w : World) (s : ℕ) (c : Cores) (i j : Job) (named : vec_len w.symbols ≡ slots) (places : vec_len w.alarms ≡ slots)
    (size : vec_len w.frames ≡ slots) (count : vec_len w.consoles ≡ 8) (nodes : w.wait_lists.nodes ≡ vec_len w.frames)
    (heads_are : length w.wait_lists.lists ≡ heads) (limit : w.jobs.limit ≡ limit_of w.version) (number : (1 ≤ w.version) × (w.version ≤ 2))
    → job_at w.jobs s ≡ Some i
    → c ≡ w.core → j ≡ i
    → record w {
      core = c;
      jobs = record w.jobs { jobs = slice_set w.jobs.jobs s (Some j) };
      lists = named;
      alarm_places = places;
      slots = size;
      consoles_count = count;
      wait_lists_nodes = nodes;
      wait_lists_heads = heads_are;
      limited = limit;
      numbered = number;
    } ≡ w
put_same w s c i j named places size count nodes heads_are limit number had core job =
    ap (λ (x : vec_len w.symbols ≡ slots). record w {
      core = c;
      jobs = record w.jobs { jobs = slice_set w.jobs.jobs s (Some j) };
      lists = x;
      alarm_places = places;
      slots = size;
      consoles_count = count;
      wait_lists_nodes = nodes;
      wait_lists_heads = heads_are;
      limited =
          limit;
      numbered = number;
    })
    (ℕ_set (vec_len w.symbols) slots named w.lists)
    ∙ ap (λ (x : vec_len w.alarms ≡ slots). record w {
      core = c;
      jobs = record w.jobs { jobs = slice_set w.jobs.jobs s (Some j) };
      alarm_places = x;
      slots = size;
      consoles_count = count;
      wait_lists_nodes = nodes;
      wait_lists_heads = heads_are;
      limited = limit;
      numbered = number;
    })
    (ℕ_set (vec_len w.alarms) slots places w.alarm_places)
    ∙ ap (λ (x : vec_len w.frames ≡ slots). record w {
      core = c;
      jobs = record w.jobs { jobs = slice_set w.jobs.jobs s (Some j) };
      slots = x;
      consoles_count = count;
      wait_lists_nodes = nodes;
      wait_lists_heads = heads_are;
      limited = limit;
      numbered = number;
    })
    (ℕ_set (vec_len w.frames) slots size w.slots)
    ∙ ap (λ (x : vec_len w.consoles ≡ 8). record w {
      core = c;
      jobs = record w.jobs { jobs = slice_set w.jobs.jobs s (Some j) };
      consoles_count = x;
      wait_lists_nodes = nodes;
      wait_lists_heads = heads_are;
      limited = limit;
      numbered = number;
    })
    (ℕ_set (vec_len w.consoles) 8 count w.consoles_count)
    ∙ ap (λ (x : w.wait_lists.nodes ≡ vec_len w.frames). record w {
      core = c;
      jobs = record w.jobs { jobs = slice_set w.jobs.jobs s (Some j) };
      wait_lists_nodes = x;
      wait_lists_heads = heads_are;
      limited = limit;
      numbered = number;
    })
    (ℕ_set w.wait_lists.nodes (vec_len w.frames) nodes w.wait_lists_nodes)
    ∙ ap (λ (x : length w.wait_lists.lists ≡ heads). record w
    { core = c; jobs = record w.jobs { jobs = slice_set w.jobs.jobs s (Some j) }; wait_lists_heads = x; limited = limit; numbered = number })
    (ℕ_set (length w.wait_lists.lists) heads heads_are w.wait_lists_heads)
    ∙ ap (λ (x : w.jobs.limit ≡ limit_of w.version). record w
    { core = c; jobs = record w.jobs { jobs = slice_set w.jobs.jobs s (Some j) }; limited = x; numbered = number })
    (ℕ_set w.jobs.limit (limit_of w.version) limit w.limited)
    ∙ ap (λ (x : (1 ≤ w.version) × (w.version ≤ 2)). record w { core = c; jobs = record w.jobs { jobs = slice_set w.jobs.jobs s (Some j) }; numbered = x })
    (numbers_are number w.numbered)
    ∙ (λ t. record w { core = core t; jobs = record w.jobs { jobs = put_back w.jobs s j (had ∙ ap Some (sym job)) t } })

-- what a unit leaves of a job is its row
pub becomes_raw : (s : Store) (c d : Core) (superior : Option ℕ) (a : Option (ℕ × ℕ)) (i k : Job) → k.channels ≡ i.channels
    → with_core_and_job d (bare k) (raw_job s c i superior a) ≡ raw_job s d k superior a
becomes_raw s c d superior a i k h = λ t. record {
  core = d;
  job = bare k;
  superior = superior;
  channels = λ n. chan_of s (slice_index_or (sym h t) n channels.Closed);
  alarm = a;
}

left_becomes : (old new : World) (s : ℕ) (l m : Left) → l ≡ m → frame_at old.frames.items s ≡ None
    → Becomes old new s m.core (Some m.job) (frame_at old.frames.items s) (clear_at old.core s)
    → Becomes old new s l.core (Some l.job) None (clear_at old.core s)
left_becomes old new s l m e none b =
    subst (λ (f : Option Frame). Becomes old new s l.core (Some l.job) f (clear_at old.core s)) none
    (subst (λ (x : Left). Becomes old new s x.core (Some x.job) (frame_at old.frames.items s) (clear_at old.core s)) (sym e) b)

left_row : (old new : World) (s : ℕ) (i : Job) (o : Outcome) (l : Left) → job_at old.jobs s ≡ Some i → frame_at old.frames.items s ≡ None
    → unit (core_at old.core s) i ≡ o
    → after_outcome o (core_at old.core s) i ≡ Some l → Becomes old new s l.core (Some l.job) (frame_at old.frames.items s) (clear_at old.core s)
    → unit_on (state_of old) s (bare_outcome o) ≡ ticked (state_of new) Step
left_row old new s i (Changed d k) l had none u is b =
    let e : record { core = d; job = k } ≡ l = cc in
    ap steps (sym (turned_state old new s d k i None (with_core_and_job d (bare k)) (left_becomes old new s (record { core = d; job = k }) l e none b) had
    (becomes_raw old.files (core_at old.core s) d (superior_at old.jobs s) (alarm_at old.alarms.items s) i k (unit_channels (core_at old.core s) d i k u))))
left_row old new s i (Faulted f) l had none u is b =
    let e : record { core = core_at old.core s; job = with_pending i (bit_of f) } ≡ l = cc in
    ap steps (sym (turned_state old new s (core_at old.core s) (with_pending i (bit_of f)) i None (with_fault f)
    (left_becomes old new s (record { core = core_at old.core s; job = with_pending i (bit_of f) }) l e none b) had refl))
left_row old new s i (Called x) l had none u is b = absurd cc

pub unit_row : (old new : World) (s : ℕ) → Made old new s (λ j. unit (core_at old.core s) j) → frame_at old.frames.items s ≡ None
    → IfSome (raw_at old.files old.core old.jobs old.alarms.items s) (λ q. unit_on (state_of old) s (unit q.core q.job) ≡ ticked (state_of new) Step)
unit_row old new s m none =
    raw_fact (λ q. unit_on (state_of old) s (unit q.core q.job) ≡ ticked (state_of new) Step) old s m.job m.had
    (ap (unit_on (state_of old) s) (unit_bare (core_at old.core s) m.job)
    ∙ left_row old new s m.job (unit (core_at old.core s) m.job) m.left m.had none refl m.is m.becomes)

-- the channels of the job are as they were
left_channels : (c : Core) (i : Job) (o : Outcome) (l : Left) → unit c i ≡ o → after_outcome o c i ≡ Some l → l.job.channels ≡ i.channels
left_channels c i (Changed d k) l u is =
    let e : record { core = d; job = k } ≡ l = cc in
    ap (λ (x : Left). x.job.channels) (sym e) ∙ unit_channels c d i k u
left_channels c i (Faulted f) l u is =
    let e : record { core = c; job = with_pending i (bit_of f) } ≡ l = cc in
    ap (λ (x : Left). x.job.channels) (sym e)
left_channels c i (Called x) l u is = absurd cc

pub unit_tidy : (old new : World) (s : ℕ) → Made old new s (λ j. unit (core_at old.core s) j) → Tidy old → Tidy new
unit_tidy old new s m tidy =
    tidy_put old new s m.left.core m.job m.left.job (frame_at old.frames.items s) (clear_at old.core s) m.had
    (left_channels (core_at old.core s) m.job (unit (core_at old.core s) m.job) m.left refl m.is) m.becomes tidy

-- the job enters the monitor
pub call_row : (old new : World) (s : ℕ) (x : Site) → is_some (job_at old.jobs s) ≡ true
    → IfSome (job_at old.jobs s) (λ j. unit (core_at old.core s) j ≡ Called x)
    → FrameBecomes old new s (Some (entered x)) → IfSome (raw_at old.files old.core old.jobs old.alarms.items s)
    (λ q. unit_on (state_of old) s (unit q.core q.job) ≡ ticked (state_of new) Work)
call_row old new s x some h b = go (job_at old.jobs s) refl h
  where
    row : state_of new ≡ with_slot (state_of old) s same (Some (entered x))
    row = kept_slot old new s (Some (entered x)) some b

    go : (o : Option Job) → job_at old.jobs s ≡ o → IfSome o (λ j. unit (core_at old.core s) j ≡ Called x)
        → IfSome (raw_of old.files (core_at old.core s) (superior_at old.jobs s) (alarm_at old.alarms.items s) o)
        (λ q. unit_on (state_of old) s (unit q.core q.job) ≡ ticked (state_of new) Work)
    go (Some j) is u = ap (unit_on (state_of old) s) (unit_bare (core_at old.core s) j ∙ ap bare_outcome u) ∙ ap works (sym row)
    go None is u = tt

-- the same of a call whose word is at the PC
pub near_row : (old new : World) (s : ℕ) (n : Near) (pc : ℕ) → is_some (job_at old.jobs s) ≡ true
    → IfSome (job_at old.jobs s) (λ j. unit (core_at old.core s) j ≡ Called (near_site j.pc n))
    → IfSome (job_at old.jobs s) (λ j. pc ≡ j.pc) → FrameBecomes old new s (Some (entered (near_site pc n)))
    → IfSome (raw_at old.files old.core old.jobs old.alarms.items s) (λ q. unit_on (state_of old) s (unit q.core q.job) ≡ ticked (state_of new) Work)
near_row old new s n pc some h p b = call_row old new s (near_site pc n) some (at_pc (job_at old.jobs s) h p) b
  where
    at_pc : (o : Option Job) → IfSome o (λ j. unit (core_at old.core s) j ≡ Called (near_site j.pc n)) → IfSome o (λ j. pc ≡ j.pc)
        → IfSome o (λ j. unit (core_at old.core s) j ≡ Called (near_site pc n))
    at_pc (Some j) u is = u ∙ ap (λ x. Called (near_site x n)) (sym is)
    at_pc None u is = tt

-- the registers that a delivery leaves, with the channels that a job has
channels_kept : (c : Core) (i : Job) → with_channels i.channels (delivered c i).job ≡ (delivered c i).job
channels_kept c i = ap (λ (cs : List Channel). with_channels cs (delivered c i).job) (sym (delivered_channels c i))

-- registers are written, and the job keeps its channels
pub written_back : (old new : World) (s : ℕ) (o : Option Job) (j k : Job) → o ≡ job_at old.jobs s → o ≡ Some k
    → JobBecomes old new s (with_channels k.channels j)
    → IfSome (job_at old.jobs s) (λ i. JobBecomes old new s (with_channels i.channels j))
written_back old new s o j k e is b = subst (λ (r : Option Job). IfSome r (λ i. JobBecomes old new s (with_channels i.channels j))) (sym is ∙ e) b

put_at : (old new : World) (s : ℕ) (j k : Job) → job_at old.jobs s ≡ Some k
    → IfSome (job_at old.jobs s) (λ i. JobBecomes old new s (with_channels i.channels j)) → JobBecomes old new s (with_channels k.channels j)
put_at old new s j k is h = subst (λ (r : Option Job). IfSome r (λ i. JobBecomes old new s (with_channels i.channels j))) is h

-- a delivery that does not stop the job
delivered_by : (w : State) (s : ℕ) (q : Whole) (b : Bool) (d : Delivered) → d.stops ≡ b
    → with_slot (effects_on (informs b q.superior) s (all_unwound (informed_slots b q.superior) w)) s (with_core_and_job d.core d.job)
    None ≡ after_delivery w s q d
delivered_by w s q b d e = ap (λ (x : Bool). with_slot (effects_on (informs x q.superior) s (all_unwound (informed_slots x q.superior) w)) s
    (with_core_and_job d.core d.job) None) (sym e)

nobody_unwound : (w : State) (o : Option ℕ) → all_unwound (informed_slots false o) w ≡ w
unfolding all_unwound
nobody_unwound w o = refl

pub delivery_done : (old mid new : World) (s : ℕ) (i j : Job) → job_at old.jobs s ≡ Some i → frame_at old.frames.items s ≡ None
    → CoreBecomes old mid s (delivered (core_at old.core s) i).core → j ≡ (delivered (core_at old.core s) i).job
    → IfSome (job_at mid.jobs s) (λ k. JobBecomes mid new s (with_channels k.channels j)) → (delivered (core_at old.core s) i).stops ≡ false
    → IfSome (raw_at old.files old.core old.jobs old.alarms.items s) (λ q. state_of new ≡ after_delivery (state_of old) s q (delivered q.core q.job))
delivery_done old mid new s i j had none a e b quiet =
    let d : Delivered = delivered (core_at old.core s) i in
    let q : Whole = raw_job old.files (core_at old.core s) i (superior_at old.jobs s) (alarm_at old.alarms.items s) in
    let put : JobBecomes mid new s d.job = subst (JobBecomes mid new s)
    (ap (with_channels i.channels) e ∙ channels_kept (core_at old.core s) i) (put_at mid new s j i (a.job.here ∙ had) b) in
    raw_fact (λ q. state_of new ≡ after_delivery (state_of old) s q (delivered q.core q.job)) old s i had
    (turned_state old new s d.core d.job i None (with_core_and_job d.core (bare d.job))
    (subst (λ (f : Option Frame). Becomes old new s d.core (Some d.job) f (clear_at old.core s)) none (put_then old mid new s d.core d.job a put)) had
    (becomes_raw old.files (core_at old.core s) d.core (superior_at old.jobs s) (alarm_at old.alarms.items s) i d.job
    (delivered_channels (core_at old.core s) i))
    ∙ ap (λ (v : State). with_slot v s (with_core_and_job d.core (bare d.job)) None) (sym (nobody_unwound (state_of old) (superior_at old.jobs s)))
    ∙ delivered_by (state_of old) s q false (bare_delivered d) quiet
    ∙ ap (after_delivery (state_of old) s q) (sym (delivered_bare (core_at old.core s) i)))

-- a delivery that stops the job leaves its core
all_same : {X : Type 0} (f g : ℕ → X) (s : ℕ) → Only f g s (f s) → (k : ℕ) → g k ≡ f k
all_same f g s o k = elim (cases_eq k s) [
  | inl e ↦ ap g e ∙ o.here ∙ ap f (sym e)
  | inr ne ↦ o.others k ne
]

core_same : (old mid : World) (s : ℕ) (c : Core) → CoreBecomes old mid s c → c ≡ core_at old.core s → state_of mid ≡ state_of old
unfolding state_of
core_same old mid s c b e =
    let cores : (k : ℕ) → core_at mid.core k ≡ core_at old.core k =
    all_same (core_at old.core) (core_at mid.core) s (subst (λ (x : Core). Only (core_at old.core) (core_at mid.core) s x) e b.core) in
    let jobs : (k : ℕ) → job_at mid.jobs k ≡ job_at old.jobs k = all_same (job_at old.jobs) (job_at mid.jobs) s b.job in
    state_is _ _
    (machine_is _ _ (λ k t. raw_of (files_as b.rest t) (cores k t) (slice_index_or (b.superiors t) k None)
    (alarm_at (alarms_as b.rest t).items k) (jobs k t)) (λ c. ap (λ l. console_at l.items c) (consoles_as b.rest))
    (λ c. ap (λ l. holder_at l c) (holders_as b.rest))
    (ap directory (files_as b.rest)) (clock_as b.rest) (version_as b.rest) (λ k. ap (λ l. symbols_at l.items k) (symbols_as b.rest))
    (λ k. ap (λ p. piped p k) (pipes_as b.rest)))
    (all_same (frame_at old.frames.items) (frame_at mid.frames.items) s b.frame)
    (all_same (clear_at old.core) (clear_at mid.core) s b.reserved)
    (ap mark_of (files_as b.rest))

pub stop_same : (old mid : World) (s : ℕ) (i : Job) → CoreBecomes old mid s (delivered (core_at old.core s) i).core
    → (delivered (core_at old.core s) i).stops ≡ true → state_of mid ≡ state_of old
stop_same old mid s i b stops = core_same old mid s (delivered (core_at old.core s) i).core b (delivered_stops (core_at old.core s) i stops)

pub stop_sound : (old mid : World) (s : ℕ) (i : Job) → CoreBecomes old mid s (delivered (core_at old.core s) i).core
    → (delivered (core_at old.core s) i).stops ≡ true → Kept old → Sound (state_of mid)
stop_sound old mid s i b stops kept = subst Sound (sym (stop_same old mid s i b stops)) kept.sound

-- the report to the superior
abbrev told_on : State → ℕ → Option ℕ → State
told_on w s superior = effects_on (informs true superior) s (all_unwound (informed_slots true superior) w)

told_row : (w : State) (s k : ℕ) → effects_on (changes.Inform k ∷ []) s (unwound w k) ≡ told_on w s (Some k)
unfolding all_unwound
told_row w s k = refl

untold_row : (w : State) (s : ℕ) → w ≡ told_on w s None
unfolding all_unwound
untold_row w s = refl

pub superior_told : (old mid new : World) (s k : ℕ) (o : Option ℕ) → o ≡ superior_at old.jobs s → o ≡ Some k → state_of mid ≡ unwound (state_of old) k
    → state_of new ≡ effects_on (changes.Inform k ∷ []) s (state_of mid)
    → state_of new ≡ told_on (state_of old) s (superior_at old.jobs s)
superior_told old mid new s k o e is calmed set =
    set ∙ ap (effects_on (changes.Inform k ∷ []) s) calmed ∙ told_row (state_of old) s k
    ∙ ap (λ (x : Option ℕ). told_on (state_of old) s x) (sym is ∙ e)

pub nobody_told : (w : World) (s : ℕ) (o : Option ℕ) → o ≡ superior_at w.jobs s → o ≡ None
    → state_of w ≡ told_on (state_of w) s (superior_at w.jobs s)
nobody_told w s o e is =
    untold_row (state_of w) s ∙ ap (λ (x : Option ℕ). told_on (state_of w) s x) (sym is ∙ e)

-- the slot of the job itself is as it was then
among_not : (s k : ℕ) → s ≢ k → among k (s ∷ []) ≡ false
among_not s k ne = rw (ne_eqb s k ne) refl

inform_apart : (w : State) (j s k : ℕ) → k ≢ s → SlotSame w (effects_on (changes.Inform s ∷ []) j w) k
unfolding effect_on effect
inform_apart w j s k ne = record { job = on_slot_other w.raw.jobs s k with_inf ne; frame = refl; page = refl }

told_apart : (w : State) (j : ℕ) (o : Option ℕ) → o ≢ Some j → SlotSame w (told_on w j o) j
unfolding all_unwound
told_apart w j (Some s) ne =
    slot_then w (all_unwound (s ∷ []) w) (effects_on (changes.Inform s ∷ []) j (all_unwound (s ∷ []) w)) j
    (all_unwound_others (s ∷ []) w j (among_not s j (λ e. ne (ap Some e))))
    (inform_apart (all_unwound (s ∷ []) w) j s j (λ e. ne (ap Some (sym e))))
told_apart w j None ne = slot_same w j

-- what a world then has in that slot
record Still (w : World) (s : ℕ) (q : Whole) : Type 0 where
  job : Job
  had : job_at w.jobs s ≡ Some job
  raw : raw_job w.files (core_at w.core s) job (superior_at w.jobs s) (alarm_at w.alarms.items s) ≡ q

still_by : (w : World) (s : ℕ) (q : Whole) (o : Option Job) → job_at w.jobs s ≡ o
    → raw_of w.files (core_at w.core s) (superior_at w.jobs s) (alarm_at w.alarms.items s) o ≡ Some q → Still w s q
still_by w s q (Some k) had is = record { job = k; had = had; raw = cc }
still_by w s q None had is = absurd cc

still : (w : World) (s : ℕ) (q : Whole) → (state_of w).raw.jobs s ≡ Some q → Still w s q
unfolding state_of
still w s q is = still_by w s q (job_at w.jobs s) refl is

-- a job that was stopped, after this was reported to its superior
record StillAt (old after : World) (s : ℕ) (i : Job) : Type 0 where
  still : Still after s (raw_job old.files (core_at old.core s) i (superior_at old.jobs s) (alarm_at old.alarms.items s))
  frame : frame_at after.frames.items s ≡ None
  row : state_of after ≡ told_on (state_of old) s (superior_at old.jobs s)

stop_still : (old mid after : World) (s : ℕ) (i : Job) → job_at old.jobs s ≡ Some i → frame_at old.frames.items s ≡ None → Kept old
    → CoreBecomes old mid s (delivered (core_at old.core s) i).core → (delivered (core_at old.core s) i).stops ≡ true
    → state_of after ≡ told_on (state_of mid) s (superior_at mid.jobs s)
    → StillAt old after s i
stop_still old mid after s i had none kept b stops row =
    let sup : Option ℕ = superior_at old.jobs s in
    let e : state_of after ≡ told_on (state_of old) s sup = row
    ∙ (λ t. told_on (stop_same old mid s i b stops t) s (slice_index_or (b.superiors t) s None)) in
    let alike : SlotSame (state_of old) (state_of after) s =
    subst (λ (v : State). SlotSame (state_of old) v s) (sym e) (told_apart (state_of old) s sup (superior_apart old s i kept none had)) in
    record {
      still = still after s (raw_job old.files (core_at old.core s) i sup (alarm_at old.alarms.items s)) (alike.job ∙ raw_is old s i had);
      frame = sym (frame_is after s) ∙ alike.frame ∙ frame_is old s ∙ none;
      row = e;
    }

pub some_is : {X : Type 0} (o : Option X) (x : X) → o ≡ Some x → is_some o ≡ true
some_is o x e = ap is_some e

pub stop_stands : (old mid after : World) (s : ℕ) (i : Job) → job_at old.jobs s ≡ Some i → frame_at old.frames.items s ≡ None → Kept old
    → CoreBecomes old mid s (delivered (core_at old.core s) i).core → (delivered (core_at old.core s) i).stops ≡ true
    → state_of after ≡ told_on (state_of mid) s (superior_at mid.jobs s)
    → is_some (job_at after.jobs s) ≡ true
stop_stands old mid after s i had none kept b stops row = let h = stop_still old mid after s i had none kept b stops row in some_is _ _ h.still.had

-- its registers are written then. (Files have no numbers in a state, so what unwinding says of a
-- state does not say that its channels have the same ones: they are those of the world)
still_becomes : (w : World) (s : ℕ) (q : Whole) (d : Delivered) (h : Still w s q) → d.core ≡ q.core
    → with_core_and_job d.core (bare d.job) (raw_job w.files (core_at w.core s) h.job (superior_at w.jobs s) (alarm_at w.alarms.items s))
    ≡ raw_job w.files (core_at w.core s) (with_channels h.job.channels d.job) (superior_at w.jobs s) (alarm_at w.alarms.items s)
still_becomes w s q d h e =
    let core : d.core ≡ core_at w.core s = e ∙ sym (ap (λ (p : Whole). p.core) h.raw) in
    λ t. record { core = core t; job = bare d.job; superior = superior_at w.jobs s; channels = chans_of w.files h.job; alarm = alarm_at w.alarms.items s }

pub stop_done : (old mid after new : World) (s : ℕ) (i j : Job) → job_at old.jobs s ≡ Some i → frame_at old.frames.items s ≡ None → Kept old
    → CoreBecomes old mid s (delivered (core_at old.core s) i).core → (delivered (core_at old.core s) i).stops ≡ true
    → state_of after ≡ told_on (state_of mid) s (superior_at mid.jobs s)
    → j ≡ (delivered (core_at old.core s) i).job → IfSome (job_at after.jobs s) (λ k. JobBecomes after new s (with_channels k.channels j))
    → IfSome (raw_at old.files old.core old.jobs old.alarms.items s) (λ q. state_of new ≡ after_delivery (state_of old) s q (delivered q.core q.job))
stop_done old mid after new s i j had none kept b stops row e put =
    let c : Core = core_at old.core s in
    let d : Delivered = delivered c i in
    let q : Whole = raw_job old.files c i (superior_at old.jobs s) (alarm_at old.alarms.items s) in
    let h = stop_still old mid after s i had none kept b stops row in
    let k : Job = with_channels h.still.job.channels d.job in
    let written : JobBecomes after new s k = subst (λ (x : Job). JobBecomes after new s (with_channels h.still.job.channels x)) e
    (put_at after new s j h.still.job h.still.had put) in
    raw_fact (λ q. state_of new ≡ after_delivery (state_of old) s q (delivered q.core q.job)) old s i had
    (turned_state after new s (core_at after.core s) k h.still.job None (with_core_and_job d.core (bare d.job))
    (subst (λ (f : Option Frame). Becomes after new s (core_at after.core s) (Some k) f (clear_at after.core s)) h.frame written) h.still.had
    (still_becomes after s q d h.still (delivered_stops c i stops))
    ∙ ap (λ (v : State). with_slot v s (with_core_and_job d.core (bare d.job)) None) h.row
    ∙ delivered_by (state_of old) s q true (bare_delivered d) stops
    ∙ ap (after_delivery (state_of old) s q) (sym (delivered_bare c i)))
