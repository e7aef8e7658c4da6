-- LOAD, and a world that is opened.
use Rattle.std.specs.Prelude.{◌≡◌, ◌<◌, ◌^◌, ℕ, Bool, Option, Some, None, IfSome, List, [], ◌∷◌, option_map, Result, Ok, Err, refl}
use Rattle.std.proofs.Common.{sym, ◌∙◌, ap, subst, inl, inr, lit<}
use Rattle.std.proofs.lemmas.Bool.{cases_eq}
use Rattle.its_word.specs.Console.{quiet_console}
use Rattle.its_word.specs.Core.{no_core}
use Rattle.its_records.specs.Tree.{least_free, fresh_job}
use Rattle.its_records.proofs.FreeLaws.{least_empty}
use Rattle.its_records.specs.declared.session.Event.TheVariants as events
use Rattle.its_records.specs.declared.session.Reason.{Reason}
use Rattle.its_records.specs.declared.session.Refusal.TheVariants as refusals
use Rattle.its_print.specs.Printing.{Line}
use Rattle.its_print.specs.Printing as printed
use Rattle.its_core.specs.Cores.{Reserved, core_at, IsEmpty}
use Rattle.its_jobs.specs.Table.{job_at, superior_at, NoJobs}
use Rattle.its_files.specs.Files.{directory, no_files}
use Rattle.its_plain.specs.Machine.{Machine, changed, with_job, no_machine, limit, with_new, Whole}
use Rattle.its_plain.specs.Operator.{Block, no_block, Does, only, quietly}
use Rattle.its_plain.specs.Operator.Jobs.{new_job, held_by, with_holder, after_load_in, after_load}
use Rattle.its_plain.specs.Operator.Lines.{by_load, operate, Done, lined}
use Rattle.its_plain.specs.Operator.Clock.{clock_end}
use Rattle.its_pipes.specs.Pipes.{piped}
use Rattle.its_plain.proofs.MachineLaws.{machine_is}
use Rattle.its_stepped.specs.State.{State, plain, no_state}
use Rattle.its_stepped.specs.Sound.{Sound}
use Rattle.its_stepped.specs.Alarmed.{Alarmed}
use Rattle.its_stepped.specs.Forest.{Forest}
use Rattle.its_stepped.specs.Lines.{after_calm, with_raw}
use Rattle.its_stepped.proofs.Keeping.AlarmLaws.{alarmed_starts}
use Rattle.its_stepped.proofs.Keeping.ForestLaws.{forest_starts}
use Rattle.its_stepped.proofs.Frame.FrameLaws.{changed_only}
use Rattle.its_stepped.proofs.Lining.LineLaws.{least_plain}
use Rattle.its_stepped.proofs.Lining.StartLaws.{no_state_plain, no_state_sound}
use Rattle.its_world.specs.Filed.{OnLists}
use Rattle.its_world.specs.World.{alarm_at, frame_at, console_at, holder_at, symbols_at, raw_of, mark_of, state_of, HolderBecomes}
use Rattle.its_world.specs.Tidy.{Across}
use Rattle.its_world.specs.declared.world.World.{World}
use Rattle.its_world.proofs.StateLaws.{state_is, holder_state}
use Rattle.its_shared.proofs.AcrossLaws.{no_across}
use Rattle.its_commit.proofs.TidyLaws.{tidy_alike}
use Rattle.its_monitor.specs.Kept.{Kept, Loads, Refused, Alters}
use Rattle.its_monitor.proofs.KeptLaws.{Made, made_sound, made_plain, made_forest, made_timed, made_alarmed, Lasts, kept_lasts, put_lasts}
use Rattle.its_monitor.proofs.RegisterLaws.{block_of}
use Rattle.its_world.proofs.MadeLaws.{least_raw, made_state, made_tidy, least_nameless}
use Rattle.its_world.specs.Made.{JobMade}
use Rattle.its_tick.proofs.WaitsLaws.{kept_is}
use Rattle.its_world.proofs.ContentsLaws.{core_as, jobs_as, files_as, clock_as, symbols_as, alarms_as, pipes_as}

loaded_by : (r : Result (Machine × ℕ) Reason) (n : Machine) (s : ℕ) (out : List Line) (touched : ℕ → Bool)
    → Done (by_load no_block r) ≡ Done (Does n out touched (block_of s)) → r ≡ Ok (n, s)
loaded_by (Ok (m, i)) n s out touched h = let a : m ≡ n = cc in let b : block_of i ≡ block_of s = cc in ap (λ (x : Machine). Ok (x, i)) a
    ∙ ap (λ (k : Block). Ok (n, k.slot)) b
loaded_by (Err x) n s out touched h = absurd cc

abbrev machine_in : Machine → Result (Machine × ℕ) Reason → Machine
machine_in d (Ok (m, i)) = m
machine_in d (Err x) = d

-- the console of a new job
same_holder : (holders : ℕ → Option ℕ) (c s h k : ℕ) → holders c ≡ Some h → holders k ≡ changed holders c (held_by s (holders c)) k
same_holder holders c s h k e = elim (cases_eq k c) [
  | inl is ↦ ap holders is ∙ e ∙ sym (ap (changed holders c (held_by s (holders c))) is
      ∙ (changed_only holders c (held_by s (holders c))).here ∙ ap (held_by s) e)
  | inr ne ↦ sym ((changed_only holders c (held_by s (holders c))).others k ne)
]

pub console_held : (w : World) (c s h : ℕ) (o : Option ℕ) → o ≡ holder_at w.holders c → o ≡ Some h → Alters w w (with_holder (state_of w).raw s (Some c))
unfolding state_of
console_held w c s h o i f = record {
  state = state_is _ _ (machine_is _ _ (λ k. refl) (λ k. refl) (λ k. same_holder (holder_at w.holders) c s h k (sym i ∙ f)) refl refl refl
      (λ k. refl) (λ k. refl)) (λ k. refl) (λ k. refl) refl;
  core = refl;
  jobs = refl;
  files = refl;
  clock = refl;
  alarms = refl;
  symbols = refl;
  pipes = refl;
  on_lists = λ r. r;
}

pub console_given : (old new : World) (c s : ℕ) (o : Option ℕ) → o ≡ holder_at old.holders c → o ≡ None → HolderBecomes old new c (Some s)
    → Alters old new (with_holder (state_of old).raw s (Some c))
unfolding state_of
console_given old new c s o i f b = record {
  state = holder_state old new c (Some s) b
      ∙ ap (λ (o : Option ℕ). with_raw (state_of old) (record (state_of old).raw { holders = changed (state_of old).raw.holders c o }))
      (sym (ap (held_by s) (sym i ∙ f)));
  core = core_as b.rest;
  jobs = jobs_as b.rest;
  files = files_as b.rest;
  clock = clock_as b.rest;
  alarms = alarms_as b.rest;
  symbols = symbols_as b.rest;
  pipes = pipes_as b.rest;
  on_lists = b.on_lists;
}

pub console_some : (old new : World) (s c : ℕ) (console : Option ℕ) → console ≡ Some c → Alters old new (with_holder (state_of old).raw s (Some c))
    → Alters old new (with_holder (state_of old).raw s console)
console_some old new s c console e h = subst (λ (o : Option ℕ). Alters old new (with_holder (state_of old).raw s o)) (sym e) h

pub console_none : (w : World) (s : ℕ) (console : Option ℕ) → console ≡ None → Alters w w (with_holder (state_of w).raw s console)
console_none w s console e =
    subst (λ (o : Option ℕ). Alters w w (with_holder (state_of w).raw s o)) (sym e)
    (record { state = refl; core = refl; jobs = refl; files = refl; clock = refl; alarms = refl; symbols = refl; pipes = refl; on_lists = λ r. r })

held_lasts : (m : Machine) (s : ℕ) (console : Option ℕ) → Lasts m → Lasts (with_holder m s console)
held_lasts m s (Some c) a = record { addressed = a.addressed; consoled = a.consoled }
held_lasts m s None a = a

-- a new job also has no symbols
new_lasts : (m : Machine) (s : ℕ) (q : Whole) → Lasts (with_job m s q) → Lasts (with_new m s q)
new_lasts m s q a = record { addressed = a.addressed; consoled = a.consoled }

-- LOAD
module _ (old mid new : World) (s u j : ℕ) (console : Option ℕ) where
  blank_at : Kept old → least_free old.jobs.limit (job_at old.jobs) ≡ Some s → core_at old.core s ≡ no_core
  blank_at kept e = kept.tidy.blank s (least_empty old.jobs.limit (job_at old.jobs) s e)

  load_state : Kept old → least_free old.jobs.limit (job_at old.jobs) ≡ Some s → JobMade old mid s u j None console
      → Alters mid new (with_holder (state_of mid).raw s console)
      → state_of new ≡ with_raw (state_of old) (with_holder (with_new (state_of old).raw s (new_job u j console)) s console)
  load_state kept e f h = h.state ∙ ap (λ (v : State). with_raw v (with_holder v.raw s console))
      (made_state old mid s u j None console f (blank_at kept e) (kept.tidy.quiet s (least_empty old.jobs.limit (job_at old.jobs) s e))
      (least_nameless old s kept.tidy e))

  pub load_done : Kept old → least_free old.jobs.limit (job_at old.jobs) ≡ Some s → JobMade old mid s u j None console
      → Alters mid new (with_holder (state_of mid).raw s console)
      → Loads (state_of old) (state_of new) (after_load (state_of old).raw u j console) s
  unfolding after_load
  load_done kept e f h =
      let is = load_state kept e f h in
      record {
        is = ap (after_load_in (state_of old).raw u j console) (least_raw old ∙ e) ∙ ap (λ (v : State). Ok (v.raw, s)) (sym is);
        rest = is ∙ ap (λ (v : State). with_raw (state_of old) v.raw) (sym is);
      }

  load_line : Kept old → least_free old.jobs.limit (job_at old.jobs) ≡ Some s → JobMade old mid s u j None console
      → Alters mid new (with_holder (state_of mid).raw s console)
      → Made (state_of old) (state_of new) no_block (events.Load u j console)
  unfolding after_calm lined operate
  load_line kept e f h =
      let l = load_done kept e f h in
      record { out = printed.Loaded s ∷ []; touched = only s; block = block_of s; is = ap (λ r. Done (by_load no_block r)) l.is; rest = l.rest }

  pub load_plain : Kept old → least_free old.jobs.limit (job_at old.jobs) ≡ Some s → JobMade old mid s u j None console
      → Alters mid new (with_holder (state_of mid).raw s console)
      → after_load (plain (state_of old)) u j console ≡ Ok (plain (state_of new), s)
  unfolding lined operate load_line
  load_plain kept e f h =
      let m = load_line kept e f h in
      loaded_by (after_load (plain (state_of old)) u j console) (plain (state_of new)) s (printed.Loaded s ∷ []) (only s)
      (made_plain (state_of old) (state_of new) no_block (events.Load u j console) kept.sound m)

  load_machine : Kept old → least_free old.jobs.limit (job_at old.jobs) ≡ Some s → JobMade old mid s u j None console
      → Alters mid new (with_holder (state_of mid).raw s console)
      → with_holder (with_new (plain (state_of old)) s (new_job u j console)) s console ≡ plain (state_of new)
  unfolding after_load
  load_machine kept e f h =
      first_is (with_holder (with_new (plain (state_of old)) s (new_job u j console)) s console) (plain (state_of new))
      (after_load_in (plain (state_of old)) u j console (least_free (limit (plain (state_of old))) (plain (state_of old)).jobs))
      (ap (after_load_in (plain (state_of old)) u j console) (least_plain (state_of old) ∙ least_raw old ∙ e)) (load_plain kept e f h)
    where
      first_is : (m n : Machine) (r : Result (Machine × ℕ) Reason) → r ≡ Ok (m, s) → r ≡ Ok (n, s) → m ≡ n
      first_is m n r a b = ap (machine_in m) (sym a ∙ b)

  fresh_pc : (new_job u j console).job.pc < 2 ^ 18
  unfolding fresh_job
  fresh_pc = lit< tt

  fresh_console : IfSome console (λ c. c < 8) → IfSome (new_job u j console).job.console (λ c. c < 8)
  unfolding fresh_job
  fresh_console fits = fits

  load_lasts : IfSome console (λ c. c < 8) → Kept old → least_free old.jobs.limit (job_at old.jobs) ≡ Some s
      → JobMade old mid s u j None console → Alters mid new (with_holder (state_of mid).raw s console)
      → Lasts (plain (state_of new))
  load_lasts fits kept e f h =
      subst Lasts (load_machine kept e f h)
      (held_lasts _ s console (new_lasts (plain (state_of old)) s (new_job u j console)
      (put_lasts (plain (state_of old)) s (new_job u j console) fresh_pc (fresh_console fits) (kept_lasts old kept))))

  pub load_kept : IfSome console (λ c. c < 8) → Kept old → least_free old.jobs.limit (job_at old.jobs) ≡ Some s
      → JobMade old mid s u j None console → Alters mid new (with_holder (state_of mid).raw s console) → Kept new
  load_kept fits kept e f h =
      kept_is new
      (made_sound (state_of old) (state_of new) no_block (events.Load u j console) kept.sound (load_line kept e f h))
      (made_forest (state_of old) (state_of new) no_block (events.Load u j console) kept.sound kept.forest (load_line kept e f h))
      (tidy_alike mid new h.core h.jobs h.files h.alarms h.clock h.symbols h.on_lists
      (made_tidy old mid s u j None console f (least_empty old.jobs.limit (job_at old.jobs) s e) kept.tidy))
      ((load_lasts fits kept e f h).addressed)
      ((load_lasts fits kept e f h).consoled)
      (made_timed (state_of old) (state_of new) no_block (events.Load u j console) kept.sound kept.timed (load_line kept e f h))
      (made_alarmed (state_of old) (state_of new) no_block (events.Load u j console) kept.sound kept.forest kept.alarmed (load_line kept e f h))

pub load_full : (w : World) (u j : ℕ) (console : Option ℕ) → least_free w.jobs.limit (job_at w.jobs) ≡ None
    → Refused (state_of w) (state_of w) (λ m. after_load m u j console) refusals.Full
unfolding after_load
load_full w u j console e = record {
  plain = ap (after_load_in (plain (state_of w)) u j console) (least_plain (state_of w) ∙ least_raw w ∙ e);
  raw = ap (after_load_in (state_of w).raw u j console) (least_raw w ∙ e);
  calmed = ap (after_load_in (state_of w).raw u j console) (least_raw w ∙ e);
}

-- a line of a block
pub quiet_by : (r : Result Machine Reason) (n : Machine) (out : List Line) (touched : ℕ → Bool) (b c : Block)
    → Done (quietly b r) ≡ Done (Does n out touched c) → r ≡ Ok n
quiet_by (Ok m) n out touched b c h = let a : m ≡ n = cc in ap Ok a
quiet_by (Err x) n out touched b c h = absurd cc

-- a world that is opened
nothing_marked : mark_of no_files ≡ None
unfolding mark_of
nothing_marked = refl

pub open_state : (w : World) → IsEmpty w.core → NoJobs w.jobs → ((k : ℕ) → frame_at w.frames.items k ≡ None)
    → ((c : ℕ) → console_at w.consoles.items c ≡ quiet_console) → ((c : ℕ) → holder_at w.holders c ≡ None) → w.files ≡ no_files
    → w.clock ≡ 0 → w.version ≡ 1 → ((k : ℕ) → symbols_at w.symbols.items k ≡ []) → ((l : ℕ) → piped w.pipes l ≡ None) → state_of w ≡ no_state no_machine
unfolding state_of no_state no_machine
open_state w e n f consoles holders files c v symbols links = state_is _ _
    (machine_is _ _ (λ k. ap (raw_of w.files (core_at w.core k) (superior_at w.jobs k) (alarm_at w.alarms.items k)) (n.jobs k)) consoles
    holders (ap directory files) c v symbols links)
    f (λ k. ap (option_map (λ (r : Reserved). r.clear)) (e.reserved k)) (ap mark_of files ∙ nothing_marked)

pub open_kept : (w : World) → IsEmpty w.core → NoJobs w.jobs → ((k : ℕ) → frame_at w.frames.items k ≡ None)
    → ((c : ℕ) → console_at w.consoles.items c ≡ quiet_console) → ((c : ℕ) → holder_at w.holders c ≡ None) → w.files ≡ no_files
    → w.clock ≡ 0 → ((k : ℕ) → alarm_at w.alarms.items k ≡ None) → w.version ≡ 1 → ((k : ℕ) → symbols_at w.symbols.items k ≡ [])
    → ((l : ℕ) → piped w.pipes l ≡ None) → OnLists w → Kept w
unfolding no_machine
open_kept w e n f consoles holders files c alarms v symbols links on_lists =
    let is = open_state w e n f consoles holders files c v symbols links in
    let machine : plain (state_of w) ≡ no_machine = ap plain is ∙ no_state_plain no_machine in
    kept_is w
    (subst Sound (sym is) no_state_sound)
    (subst Forest (sym machine) forest_starts)
    (record {
      blank = λ k h. e.cores k;
      quiet = λ k h. alarms k;
      timed = subst (λ t. t < clock_end) (sym c) (lit< tt);
      across = subst (λ s. Across s w.jobs) (sym files) (no_across w.jobs n);
      nameless = λ k h. symbols k;
      on_lists = on_lists;
    })
    (λ k. subst (λ (m : Machine). IfSome (m.jobs k) (λ q. q.job.pc < 2 ^ 18)) (sym machine) (nobody_there k))
    (λ k. subst (λ (m : Machine). IfSome (m.jobs k) (λ q. IfSome q.job.console (λ c. c < 8))) (sym machine) (none_there k))
    (subst (λ (m : Machine). m.clock < clock_end) (sym machine) (lit< tt))
    (subst Alarmed (sym machine) alarmed_starts)
  where
    nobody_there : (k : ℕ) → IfSome (no_machine.jobs k) (λ q. q.job.pc < 2 ^ 18)
    nobody_there k = tt

    none_there : (k : ℕ) → IfSome (no_machine.jobs k) (λ q. IfSome q.job.console (λ c. c < 8))
    none_there k = tt
