-- What a change of one slot of a world does to its state.
use Rattle.std.specs.Prelude.{if◌then◌else◌, ◌≡◌, ◌≢◌, ◌==◌, ℕ, Bool, true, false, Option, Some, None, option_map, refl, is_some, slice_index_or, List}
use Rattle.std.proofs.Common.{sym, ◌∙◌, ap, subst, arith, inl, inr}
use Rattle.std.proofs.lemmas.Bool.{cases_Bool}
use Rattle.std.proofs.lemmas.Bool.Decides.{nat_tests}
use Rattle.its_word.specs.Console.{Console}
use Rattle.its_word.specs.Core.{Core}
use Rattle.its_records.specs.declared.jobs.Job.{Job}
use Rattle.its_records.specs.declared.calls.Exit.{Exit}
use Rattle.its_word.specs.declared.plan.Store.{Store}
use Rattle.its_core.specs.Cores.{core_at, reserved_at, clear_at}
use Rattle.its_core.specs.Frames.{Frames}
use Rattle.its_plain.specs.Machine.Own.{with_stores, after_exit, after_leave}
use Rattle.its_word.specs.Stores.{stored}
use Rattle.its_files.specs.Files.{directory}
use Rattle.its_jobs.specs.Table.{job_at, superior_at}
use Rattle.its_frame.specs.declared.frame.Frame.{Frame}
use Rattle.its_plain.specs.Machine.{Pipe, Whole, changed}
use Rattle.its_plain.specs.Machine.Change.{on_console, on_link}
use Rattle.its_plain.proofs.MachineLaws.{machine_is}
use Rattle.its_stepped.specs.Lines.{with_raw}
use Rattle.its_stepped.specs.State.{State, with_slot, same, reserving}
use Rattle.its_world.specs.World.{mark_of, alarm_at, raw_of, raw_at, frame_at, console_at, holder_at, state_of, in_raw, with_frames, Becomes, FrameBecomes, ConsoleBecomes, HolderBecomes, LinkBecomes, symbols_at}
use Rattle.its_pipes.specs.Pipes.{piped}
use Rattle.its_world.specs.declared.world.World.{World}
pub use Rattle.its_shared.proofs.PartLaws.{raw_job, changed_at, slot_at}
use Rattle.its_world.proofs.ContentsLaws.{core_as, jobs_as, frames_as, consoles_as, holders_as, files_as, clock_as, version_as, symbols_as, alarms_as, pipes_as}

pub state_is : (a b : State) → a.raw ≡ b.raw → ((k : ℕ) → a.frames k ≡ b.frames k) → ((k : ℕ) → a.reserved k ≡ b.reserved k) → a.mark ≡ b.mark → a ≡ b
state_is a b raw frames reserved mark = λ t. record {
  raw = raw t;
  frames = λ k. frames k t;
  reserved = λ k. reserved k t;
  mark = mark t;
}

pub raw_some : (w : World) (s : ℕ) (j : Job) → job_at w.jobs s ≡ Some j
    → raw_at w.files w.core w.jobs w.alarms.items s ≡ Some (raw_job w.files (core_at w.core s) j (superior_at w.jobs s) (alarm_at w.alarms.items s))
raw_some w s j h = ap (raw_of w.files (core_at w.core s) (superior_at w.jobs s) (alarm_at w.alarms.items s)) h

pub raw_none : (w : World) (s : ℕ) → job_at w.jobs s ≡ None → raw_at w.files w.core w.jobs w.alarms.items s ≡ None
raw_none w s h = ap (raw_of w.files (core_at w.core s) (superior_at w.jobs s) (alarm_at w.alarms.items s)) h

pub raw_others : (old new : World) (s : ℕ) (c : Core) (j : Option Job) (f : Option Frame) (r : Option ℕ) → Becomes old new s c j f r
    → (k : ℕ) → k ≢ s → raw_at new.files new.core new.jobs new.alarms.items k ≡ raw_at old.files old.core old.jobs old.alarms.items k
raw_others old new s c j f r b k n =
    ap (λ x. raw_of x (core_at new.core k) (superior_at new.jobs k) (alarm_at new.alarms.items k) (job_at new.jobs k)) (files_as b.rest)
    ∙ ap (λ x. raw_of old.files x (superior_at new.jobs k) (alarm_at new.alarms.items k) (job_at new.jobs k)) (b.core.others k n)
    ∙ ap (λ x. raw_of old.files (core_at old.core k) (slice_index_or x k None) (alarm_at new.alarms.items k) (job_at new.jobs k)) b.superiors
    ∙ ap (λ x. raw_of old.files (core_at old.core k) (superior_at old.jobs k) (alarm_at x.items k) (job_at new.jobs k)) (alarms_as b.rest)
    ∙ ap (raw_of old.files (core_at old.core k) (superior_at old.jobs k) (alarm_at old.alarms.items k)) (b.job.others k n)

raw_here : (old new : World) (s : ℕ) (c : Core) (i j : Job) (f : Option Frame) (r : Option ℕ) (h : Whole → Whole) → Becomes old new s c (Some i) f r
    → job_at old.jobs s ≡ Some j → h (raw_job old.files (core_at old.core s) j (superior_at old.jobs s) (alarm_at old.alarms.items s)) ≡
    raw_job old.files c i (superior_at old.jobs s) (alarm_at old.alarms.items s)
    → raw_at new.files new.core new.jobs new.alarms.items s ≡ option_map h (raw_at old.files old.core old.jobs old.alarms.items s)
raw_here old new s c i j f r h b job e =
    ap (λ x. raw_of x (core_at new.core s) (superior_at new.jobs s) (alarm_at new.alarms.items s) (job_at new.jobs s)) (files_as b.rest)
    ∙ ap (λ x. raw_of old.files x (superior_at new.jobs s) (alarm_at new.alarms.items s) (job_at new.jobs s)) b.core.here
    ∙ ap (λ x. raw_of old.files c (slice_index_or x s None) (alarm_at new.alarms.items s) (job_at new.jobs s)) b.superiors
    ∙ ap (λ x. raw_of old.files c (superior_at old.jobs s) (alarm_at x.items s) (job_at new.jobs s)) (alarms_as b.rest)
    ∙ ap (raw_of old.files c (superior_at old.jobs s) (alarm_at old.alarms.items s)) b.job.here
    ∙ ap Some (sym e)
    ∙ ap (option_map h) (sym (raw_some old s j job))

-- the job of a slot is changed by h, its frame is f, and of its reserved page r quarters are clear
pub written_state : (old new : World) (s : ℕ) (c : Core) (i j : Job) (f : Option Frame) (r : Option ℕ) (h : Whole → Whole) → Becomes old new s c (Some i) f r
    → job_at old.jobs s ≡ Some j → h (raw_job old.files (core_at old.core s) j (superior_at old.jobs s) (alarm_at old.alarms.items s)) ≡
    raw_job old.files c i (superior_at old.jobs s) (alarm_at old.alarms.items s)
    → state_of new ≡ reserving (with_slot (state_of old) s h f) s r
unfolding state_of
written_state old new s c i j f r h b job e = state_is _ _
    (machine_is _ _ (slot_at _ _ s h (raw_here old new s c i j f r h b job e) (raw_others old new s c (Some i) f r b))
    (λ k. ap (λ l. console_at l.items k) (consoles_as b.rest)) (λ k. ap (λ l. holder_at l k) (holders_as b.rest))
    (ap directory (files_as b.rest)) (clock_as b.rest) (version_as b.rest) (λ k. ap (λ l. symbols_at l.items k) (symbols_as b.rest))
    (λ k. ap (λ p. piped p k) (pipes_as b.rest)))
    (changed_at _ _ s f b.frame.here b.frame.others)
    (changed_at _ _ s r b.reserved.here b.reserved.others)
    (ap mark_of (files_as b.rest))

pub turned_state : (old new : World) (s : ℕ) (c : Core) (i j : Job) (f : Option Frame) (h : Whole → Whole)
    → Becomes old new s c (Some i) f (clear_at old.core s)
    → job_at old.jobs s ≡ Some j → h (raw_job old.files (core_at old.core s) j (superior_at old.jobs s) (alarm_at old.alarms.items s)) ≡
    raw_job old.files c i (superior_at old.jobs s) (alarm_at old.alarms.items s)
    → state_of new ≡ with_slot (state_of old) s h f
unfolding state_of
turned_state old new s c i j f h b job e = state_is _ _
    (machine_is _ _ (slot_at _ _ s h (raw_here old new s c i j f _ h b job e) (raw_others old new s c (Some i) f _ b))
    (λ k. ap (λ l. console_at l.items k) (consoles_as b.rest)) (λ k. ap (λ l. holder_at l k) (holders_as b.rest))
    (ap directory (files_as b.rest)) (clock_as b.rest) (version_as b.rest) (λ k. ap (λ l. symbols_at l.items k) (symbols_as b.rest))
    (λ k. ap (λ p. piped p k) (pipes_as b.rest)))
    (changed_at _ _ s f b.frame.here b.frame.others)
    (λ k. elim (cases_Bool (k == s)) [
      | inl t ↦ let n : k ≡ s = grind (arith, nat_tests) in ap (clear_at new.core) n ∙ b.reserved.here ∙ ap (clear_at old.core) (sym n)
      | inr t ↦ let n : k ≢ s = grind (arith, nat_tests) in b.reserved.others k n
    ])
    (ap mark_of (files_as b.rest))

-- the frames of pages are no part of the state
pub frames_state : (w : World) (f : Frames) → state_of (with_frames w f) ≡ state_of w
unfolding state_of core_at reserved_at
frames_state w f = refl

pub frames_core : (w : World) (f : Frames) (k : ℕ) → core_at (with_frames w f).core k ≡ core_at w.core k
unfolding core_at
frames_core w f k = refl

-- the changes of one slot that rows are made of
pub job_of : (o : Option Job) → is_some o ≡ true → (j : Job) × (o ≡ Some j)
job_of (Some j) h = (j, refl)
job_of None h = cc

pub kept_state : (old new : World) (s : ℕ) (f : Option Frame) (r : Option ℕ) → is_some (job_at old.jobs s) ≡ true
    → Becomes old new s (core_at old.core s) (job_at old.jobs s) f r → state_of new ≡ reserving (with_slot (state_of old) s same f) s r
kept_state old new s f r h b =
    let j = job_of (job_at old.jobs s) h in
    written_state old new s (core_at old.core s) j.0 j.0 f r same (subst (λ o. Becomes old new s (core_at old.core s) o f r) j.1 b) j.1 refl

pub kept_slot : (old new : World) (s : ℕ) (f : Option Frame) → is_some (job_at old.jobs s) ≡ true → FrameBecomes old new s f
    → state_of new ≡ with_slot (state_of old) s same f
kept_slot old new s f h b =
    let j = job_of (job_at old.jobs s) h in
    turned_state old new s (core_at old.core s) j.0 j.0 f same (subst (λ o. Becomes old new s (core_at old.core s) o f (clear_at old.core s)) j.1 b) j.1 refl

pub stored_slot : (old new : World) (s : ℕ) (ss : List Store) (f : Option Frame) → is_some (job_at old.jobs s) ≡ true
    → Becomes old new s (stored (core_at old.core s) ss) (job_at old.jobs s) f (clear_at old.core s)
    → state_of new ≡ with_slot (state_of old) s (with_stores ss) f
stored_slot old new s ss f h b =
    let j = job_of (job_at old.jobs s) h in
    turned_state old new s (stored (core_at old.core s) ss) j.0 j.0 f (with_stores ss)
    (subst (λ o. Becomes old new s (stored (core_at old.core s) ss) o f (clear_at old.core s)) j.1 b) j.1 refl

pub left_slot : (old new : World) (s : ℕ) (j : Job) (e : Exit) (f : Option Frame) → job_at old.jobs s ≡ Some j
    → Becomes old new s (core_at old.core s) (Some (after_exit e j)) f (clear_at old.core s) → state_of new ≡ with_slot (state_of old) s (after_leave e) f
left_slot old new s j e f h b = turned_state old new s (core_at old.core s) (after_exit e j) j f (after_leave e) b h refl

-- a frame that was taken out and another put in its place
pub retaken : (w : State) (s : ℕ) (f g : Option Frame) (h : Whole → Whole) → with_slot (with_slot w s same f) s h g ≡ with_slot w s h g
retaken w s f g h = state_is _ _ (machine_is _ _ (λ k. twice (k == s) (w.raw.jobs k)) (λ k. refl) (λ k. refl) refl refl refl (λ k. refl)
    (λ k. refl)) (λ k. over (k == s) (w.frames k)) (λ k. refl) refl
  where
    twice : (b : Bool) (o : Option Whole) → (if b then option_map h (if b then option_map same o else o) else
        (if b then option_map same o else o)) ≡ (if b then option_map h o else o)
    twice true (Some q) = refl
    twice true None = refl
    twice false o = refl

    over : (b : Bool) (o : Option Frame) → (if b then g else (if b then f else o)) ≡ (if b then g else o)
    over true o = refl
    over false o = refl

pub changed_state : (old new : World) (s : ℕ) (c : Core) (i j : Job) (h : Whole → Whole)
    → Becomes old new s c (Some i) (frame_at old.frames.items s) (clear_at old.core s)
    → job_at old.jobs s ≡ Some j → h (raw_job old.files (core_at old.core s) j (superior_at old.jobs s) (alarm_at old.alarms.items s)) ≡
    raw_job old.files c i (superior_at old.jobs s) (alarm_at old.alarms.items s)
    → state_of new ≡ in_raw (state_of old) s h
unfolding state_of
changed_state old new s c i j h b job e =
    turned_state old new s c i j (frame_at old.frames.items s) h b job e
    ∙ state_is (with_slot (state_of old) s h (frame_at old.frames.items s)) (in_raw (state_of old) s h) refl
    (λ k. elim (cases_Bool (k == s)) [
      | inl t ↦ let n : k ≡ s = grind (arith, nat_tests) in rw t (ap (frame_at old.frames.items) (sym n))
      | inr t ↦ rw t refl
    ])
    (λ k. refl) refl

-- a slot without a job
pub absent_state : (w : World) (s : ℕ) (h : Whole → Whole) → job_at w.jobs s ≡ None → state_of w ≡ in_raw (state_of w) s h
unfolding state_of
absent_state w s h none = state_is _ _
    (machine_is _ _ (λ k. elim (cases_Bool (k == s)) [
      | inl t ↦ let n : k ≡ s = grind (arith, nat_tests) in
          let e : raw_at w.files w.core w.jobs w.alarms.items k ≡ None = ap (raw_at w.files w.core w.jobs w.alarms.items) n ∙ raw_none w s none in
          rw t (e ∙ ap (option_map h) (sym e))
      | inr t ↦ rw t refl
    ]) (λ k. refl) (λ k. refl) refl refl refl (λ k. refl) (λ k. refl))
    (λ k. refl) (λ k. refl) refl

-- if store, cores, jobs and alarms are alike, so are raw jobs
pub raw_same : (old new : World) → new.files ≡ old.files → new.core ≡ old.core → new.jobs ≡ old.jobs → new.alarms ≡ old.alarms
    → (k : ℕ) → raw_at new.files new.core new.jobs new.alarms.items k ≡ raw_at old.files old.core old.jobs old.alarms.items k
raw_same old new files core jobs alarms k =
    ap (λ t. raw_at t new.core new.jobs new.alarms.items k) files
    ∙ ap (λ t. raw_at old.files t new.jobs new.alarms.items k) core
    ∙ ap (λ t. raw_at old.files old.core t new.alarms.items k) jobs
    ∙ ap (λ t. raw_at old.files old.core old.jobs t.items k) alarms

-- a console changed, another holder of one, and a link changed
pub console_state : (old new : World) (c : ℕ) (f : Console → Console) → ConsoleBecomes old new c (f (console_at old.consoles.items c))
    → state_of new ≡ with_raw (state_of old) (on_console (state_of old).raw c f)
unfolding state_of
console_state old new c f b = state_is _ _
    (machine_is _ _ (raw_same old new (files_as b.rest) (core_as b.rest) (jobs_as b.rest) (alarms_as b.rest))
    (changed_at _ _ c _ b.consoles.here b.consoles.others) (λ k. ap (λ l. holder_at l k) (holders_as b.rest))
    (ap directory (files_as b.rest)) (clock_as b.rest) (version_as b.rest) (λ k. ap (λ l. symbols_at l.items k) (symbols_as b.rest))
    (λ k. ap (λ p. piped p k) (pipes_as b.rest)))
    (λ k. ap (λ l. frame_at l.items k) (frames_as b.rest)) (λ k. ap (λ t. clear_at t k) (core_as b.rest)) (ap mark_of (files_as b.rest))

pub holder_state : (old new : World) (c : ℕ) (h : Option ℕ) → HolderBecomes old new c h
    → state_of new ≡ with_raw (state_of old) (record (state_of old).raw { holders = changed (state_of old).raw.holders c h })
unfolding state_of
holder_state old new c h b = state_is _ _
    (machine_is _ _ (raw_same old new (files_as b.rest) (core_as b.rest) (jobs_as b.rest) (alarms_as b.rest))
    (λ k. ap (λ l. console_at l.items k) (consoles_as b.rest)) (changed_at _ _ c _ b.holders.here b.holders.others)
    (ap directory (files_as b.rest)) (clock_as b.rest) (version_as b.rest) (λ k. ap (λ l. symbols_at l.items k) (symbols_as b.rest))
    (λ k. ap (λ p. piped p k) (pipes_as b.rest)))
    (λ k. ap (λ l. frame_at l.items k) (frames_as b.rest)) (λ k. ap (λ t. clear_at t k) (core_as b.rest)) (ap mark_of (files_as b.rest))

pub link_state : (old new : World) (l : ℕ) (f : Option Pipe → Option Pipe) → LinkBecomes old new l (f (piped old.pipes l))
    → state_of new ≡ with_raw (state_of old) (on_link (state_of old).raw l f)
unfolding state_of
link_state old new l f b = state_is _ _
    (machine_is _ _ (raw_same old new (files_as b.rest) (core_as b.rest) (jobs_as b.rest) (alarms_as b.rest))
    (λ k. ap (λ l. console_at l.items k) (consoles_as b.rest)) (λ k. ap (λ l. holder_at l k) (holders_as b.rest))
    (ap directory (files_as b.rest)) (clock_as b.rest) (version_as b.rest) (λ k. ap (λ l. symbols_at l.items k) (symbols_as b.rest))
    (changed_at _ _ l _ b.links.here b.links.others))
    (λ k. ap (λ l. frame_at l.items k) (frames_as b.rest)) (λ k. ap (λ t. clear_at t k) (core_as b.rest)) (ap mark_of (files_as b.rest))
