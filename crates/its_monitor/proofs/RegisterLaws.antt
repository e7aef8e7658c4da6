-- GO, STOP, CONT, INT and STATE: the registers of a job that was unwound are written, or shown.
use Rattle.std.specs.Prelude.{◌≡◌, ◌<◌, ◌^◌, ℕ, Bool, Option, Some, None, IfSome, List, [], Result, Ok, Err, option_map, refl}
use Rattle.std.proofs.Common.{sym, ◌∙◌, ap, subst, inl, inr}
use Rattle.std.proofs.lemmas.Bool.{cases_eq}
use Rattle.its_word.specs.Core.{Core}
use Rattle.its_records.specs.declared.jobs.Job.{Job}
use Rattle.its_records.specs.declared.session.Event.{Event}
use Rattle.its_records.specs.declared.session.Event.TheVariants as events
use Rattle.its_records.specs.declared.session.Reason.{Reason}
use Rattle.its_records.specs.declared.session.Reason.TheVariants as reasons
use Rattle.its_records.specs.declared.session.Refusal.{Refusal}
use Rattle.its_records.specs.declared.session.Refusal.TheVariants as refusals
use Rattle.its_records.specs.declared.show.JobShow.{JobShow}
use Rattle.its_core.specs.Cores.{core_at}
use Rattle.its_files.specs.Files.{Store}
use Rattle.its_jobs.specs.Table.{job_at, superior_at}
use Rattle.its_plain.specs.Machine.{Symbol, Whole, Machine, changed, with_job}
use Rattle.its_plain.specs.Machine.Change.{on_slot, in_job}
use Rattle.its_plain.specs.Machine.Own as own
use Rattle.its_plain.specs.Operator.{Block, no_block, Does, only, disturbs}
use Rattle.its_plain.specs.Operator.Jobs.{on_job, with_registers, on_registers, after_go, after_int, after_stop, after_cont, shown, state_shown}
use Rattle.its_plain.specs.Operator.Symbols.{symbol_shown}
use Rattle.its_plain.specs.Operator.Lines.{operate, Done, lined}
use Rattle.its_plain.proofs.MachineLaws.{machine_is}
use Rattle.its_stepped.specs.State.{State, plain}
use Rattle.its_stepped.specs.Unwind.{unwound}
use Rattle.its_stepped.specs.Lines.{after_calm, with_raw}
use Rattle.its_stepped.proofs.Frame.FrameLaws.{changed_only, on_slot_here, on_slot_other}
use Rattle.its_stepped.proofs.Lining.LineLaws.{state_plain as calm_state_plain}
use Rattle.its_stepped.proofs.Lining.RefusalLaws.{registers_alike, shown_alike}
use Rattle.its_stepped.proofs.Unwinding.UnwindLaws.{unwound_plain, unwound_none}
use Rattle.its_world.specs.World.{alarm_at, symbols_at, state_of, in_raw, JobBecomes}
use Rattle.its_world.specs.declared.world.World.{World}
use Rattle.its_world.proofs.StateLaws.{raw_job, changed_state}
use Rattle.its_commit.proofs.TidyLaws.{tidy_put}
use Rattle.its_records.specs.Refusals.{reason_of}
use Rattle.its_monitor.specs.Kept.{Kept, Lands, Refused, Calm}
use Rattle.its_monitor.proofs.KeptLaws.{refused_by, Made, made_sound, made_plain, made_forest, made_timed, made_alarmed, Lasts, kept_lasts, put_lasts, lasts_address, lasts_console}
use Rattle.its_tick.proofs.WaitsLaws.{kept_is, raw_is, raw_is_none}

-- a change of a job is another job in its place
in_place : (m : Machine) (s k : ℕ) (q : Whole) (h : Whole → Whole) → m.jobs s ≡ Some q → on_slot m.jobs s h k ≡ changed m.jobs s (Some (h q)) k
in_place m s k q h e = elim (cases_eq k s) [
  | inl is ↦ ap (on_slot m.jobs s h) is ∙ on_slot_here m.jobs s h ∙ ap (option_map h) e ∙ sym (changed_only m.jobs s (Some (h q))).here
      ∙ sym (ap (changed m.jobs s (Some (h q))) is)
  | inr ne ↦ on_slot_other m.jobs s k h ne ∙ sym ((changed_only m.jobs s (Some (h q))).others k ne)
]

pub job_placed : (m : Machine) (s : ℕ) (q : Whole) (h : Whole → Whole) → m.jobs s ≡ Some q → in_job m s h ≡ with_job m s (h q)
job_placed m s q h e = machine_is _ _ (λ k. in_place m s k q h e) (λ k. refl) (λ k. refl) refl refl refl (λ k. refl) (λ k. refl)

-- a change of a slot's job by h results in the state in which that job is put
pub placed_lands : (v new : State) (s : ℕ) (q : Whole) (h : Whole → Whole) (r : Result Machine Reason) → v.raw.jobs s ≡ Some q
    → new ≡ in_raw v s h → r ≡ Ok (with_job v.raw s (h q)) → Lands v new r
placed_lands v new s q h r job e is = record {
  is = is ∙ ap Ok (sym (job_placed v.raw s q h job)) ∙ ap (λ (x : State). Ok x.raw) (sym e);
  rest = e ∙ ap (λ (x : State). with_raw v x.raw) (sym e);
}

pub registers_land : (f : Job → Job) (old mid new : World) (s : ℕ) (j : Job)
    → ((x : Store) (c : Core) (sup : Option ℕ) (a : Option (ℕ × ℕ)) → own.with_registers f (raw_job x c j sup a) ≡ raw_job x c (f j) sup a) → Calm old mid s j
    → JobBecomes mid new s (f j) → Lands (unwound (state_of old) s) (state_of new) (on_registers (unwound (state_of old) s).raw s f)
unfolding on_registers
registers_land f old mid new s j fits c b =
    subst (λ (v : State). Lands v (state_of new) (on_job v.raw s (with_registers v.raw s f) (v.raw.jobs s))) c.unwinds
    (placed_lands (state_of mid) (state_of new) s (raw_job mid.files (core_at mid.core s) j (superior_at mid.jobs s)
    (alarm_at mid.alarms.items s)) (own.with_registers f) _ (raw_is mid s j c.job)
    (changed_state mid new s (core_at mid.core s) (f j) j (own.with_registers f) b c.job
    (fits mid.files (core_at mid.core s) (superior_at mid.jobs s) (alarm_at mid.alarms.items s)))
    (ap (on_job (state_of mid).raw s (with_registers (state_of mid).raw s f)) (raw_is mid s j c.job)))

-- registers under another name
pub put_as : (mid new : World) (s : ℕ) (i j : Job) → i ≡ j → JobBecomes mid new s i → JobBecomes mid new s j
put_as mid new s i j e b = subst (λ (k : Job). JobBecomes mid new s k) e b

-- the result of a line that disturbs its slot
pub disturbed : (s : ℕ) (b : Block) (r : Result Machine Reason) (n : Machine) (out : List _) (touched : ℕ → Bool) (c : Block)
    → Done (disturbs s b r) ≡ Done (Does n out touched c) → r ≡ Ok n
disturbed s b (Ok m) n out touched c h = let is : m ≡ n = cc in ap Ok is
disturbed s b (Err x) n out touched c h = absurd cc

registers_lasts : (m n : Machine) (s : ℕ) (f : Job → Job) → on_registers m s f ≡ Ok n → ((j : Job) → j.pc < 2 ^ 18 → (f j).pc < 2 ^ 18)
    → ((j : Job) → (f j).console ≡ j.console)
    → Lasts m → Lasts n
unfolding on_registers
registers_lasts m n s f is keeps same a = go (m.jobs s) refl is
  where
    go : (o : Option Whole) → m.jobs s ≡ o → on_job m s (with_registers m s f) o ≡ Ok n → Lasts n
    go (Some q) at h =
        let e : with_job m s (record q { job = f q.job }) ≡ n = cc in
        subst Lasts e
        (put_lasts m s (record q { job = f q.job }) (keeps q.job (lasts_address m s q at a))
        (subst (λ (o : Option ℕ). IfSome o (λ c. c < 8)) (sym (same q.job)) (lasts_console m s q at a)) a)
    go None at h = absurd cc

-- what is kept if a line writes the registers of its slot
registers_kept : (f : Job → Job) (e : Event) (b : Block) (old mid new : World) (s : ℕ) (j : Job) → Kept old → Calm old mid s j → JobBecomes mid new s (f j)
    → Made (state_of old) (state_of new) b e → on_registers (plain (state_of old)) s f ≡ Ok (plain (state_of new))
    → ((i : Job) → i.pc < 2 ^ 18 → (f i).pc < 2 ^ 18)
    → ((i : Job) → (f i).console ≡ i.console) → ((i : Job) → (f i).channels ≡ i.channels) → Kept new
registers_kept f e b old mid new s j kept c r made is keeps same shut =
    kept_is new
    (made_sound (state_of old) (state_of new) b e kept.sound made)
    (made_forest (state_of old) (state_of new) b e kept.sound kept.forest made)
    (tidy_put mid new s _ j (f j) _ _ c.job (shut j) r c.kept.tidy)
    ((registers_lasts (plain (state_of old)) (plain (state_of new)) s f is keeps same (kept_lasts old kept)).addressed)
    ((registers_lasts (plain (state_of old)) (plain (state_of new)) s f is keeps same (kept_lasts old kept)).consoled)
    (made_timed (state_of old) (state_of new) b e kept.sound kept.timed made)
    (made_alarmed (state_of old) (state_of new) b e kept.sound kept.forest kept.alarmed made)

-- the slot is empty
empty_registers : (m : Machine) (s : ℕ) (f : Job → Job) → m.jobs s ≡ None → on_registers m s f ≡ Err reasons.NoJob
unfolding on_registers
empty_registers m s f h = ap (on_job m s (with_registers m s f)) h

pub registers_refused : (w : World) (s : ℕ) (f : Job → Job) (x : Refusal) → (x ≡ refusals.NoJob) × (job_at w.jobs s ≡ None) → Kept w
    → Refused (state_of w) (unwound (state_of w) s) (λ m. on_registers m s f) x
registers_refused w s f x h kept = refused_by (λ m. on_registers m s f) (state_of w) s x (λ u. registers_alike u s f) kept.sound (none h.0)
  where
    none : x ≡ refusals.NoJob → on_registers (state_of w).raw s f ≡ Err (reason_of x)
    none e = empty_registers (state_of w).raw s f (raw_is_none w s h.1) ∙ ap (λ y. Err (reason_of y)) (sym e)

-- the block of a job
abbrev pub block_of : ℕ → Block
block_of s = record no_block { slot = s }

-- the four calls
module _ (old mid new : World) (s : ℕ) (j : Job) where
  pub go_done : (a : ℕ) → a < 2 ^ 18 → Kept old → Calm old mid s j → JobBecomes mid new s (after_go a j)
      → Lands (unwound (state_of old) s) (state_of new) (on_registers (unwound (state_of old) s).raw s (after_go a))
  go_done a p kept c r = registers_land (after_go a) old mid new s j (λ x c sup a. refl) c r

  go_made : (a : ℕ) → a < 2 ^ 18 → Kept old → Calm old mid s j → JobBecomes mid new s (after_go a j)
      → Made (state_of old) (state_of new) (block_of s) (events.Go a)
  unfolding after_calm lined operate
  go_made a p kept c r =
      let l = go_done a p kept c r in
      record { out = []; touched = only s; block = block_of s; is = ap (λ m. Done (disturbs s (block_of s) m)) l.is; rest = l.rest }

  pub go_plain : (a : ℕ) → a < 2 ^ 18 → Kept old → Calm old mid s j → JobBecomes mid new s (after_go a j)
      → on_registers (plain (state_of old)) s (after_go a) ≡ Ok (plain (state_of new))
  unfolding lined operate
  go_plain a p kept c r =
      let m = go_made a p kept c r in
      disturbed s (block_of s) (on_registers (plain (state_of old)) s (after_go a)) (plain (state_of new)) m.out m.touched m.block
      (made_plain (state_of old) (state_of new) (block_of s) (events.Go a) kept.sound m)

  pub go_kept : (a : ℕ) → a < 2 ^ 18 → Kept old → Calm old mid s j → JobBecomes mid new s (after_go a j) → Kept new
  go_kept a p kept c r = registers_kept (after_go a) (events.Go a) (block_of s) old mid new s j kept c r (go_made a p kept c r)
      (go_plain a p kept c r) (λ i l. p) (λ i. refl) (λ i. refl)

  pub stop_done : Kept old → Calm old mid s j → JobBecomes mid new s (after_stop j)
      → Lands (unwound (state_of old) s) (state_of new) (on_registers (unwound (state_of old) s).raw s after_stop)
  stop_done kept c r = registers_land after_stop old mid new s j (λ x c sup a. refl) c r

  stop_made : Kept old → Calm old mid s j → JobBecomes mid new s (after_stop j) → Made (state_of old) (state_of new) no_block (events.Stop s)
  unfolding after_calm lined operate
  stop_made kept c r =
      let l = stop_done kept c r in
      record { out = []; touched = only s; block = no_block; is = ap (λ m. Done (disturbs s no_block m)) l.is; rest = l.rest }

  pub stop_plain : Kept old → Calm old mid s j → JobBecomes mid new s (after_stop j)
      → on_registers (plain (state_of old)) s after_stop ≡ Ok (plain (state_of new))
  unfolding lined operate
  stop_plain kept c r =
      let m = stop_made kept c r in
      disturbed s no_block (on_registers (plain (state_of old)) s after_stop) (plain (state_of new)) m.out m.touched m.block
      (made_plain (state_of old) (state_of new) no_block (events.Stop s) kept.sound m)

  pub stop_kept : Kept old → Calm old mid s j → JobBecomes mid new s (after_stop j) → Kept new
  stop_kept kept c r = registers_kept after_stop (events.Stop s) no_block old mid new s j kept c r (stop_made kept c r)
      (stop_plain kept c r) (λ i l. l) (λ i. refl) (λ i. refl)

  pub cont_done : Kept old → Calm old mid s j → JobBecomes mid new s (after_cont j)
      → Lands (unwound (state_of old) s) (state_of new) (on_registers (unwound (state_of old) s).raw s after_cont)
  cont_done kept c r = registers_land after_cont old mid new s j (λ x c sup a. refl) c r

  cont_made : Kept old → Calm old mid s j → JobBecomes mid new s (after_cont j) → Made (state_of old) (state_of new) no_block (events.Cont s)
  unfolding after_calm lined operate
  cont_made kept c r =
      let l = cont_done kept c r in
      record { out = []; touched = only s; block = no_block; is = ap (λ m. Done (disturbs s no_block m)) l.is; rest = l.rest }

  pub cont_plain : Kept old → Calm old mid s j → JobBecomes mid new s (after_cont j)
      → on_registers (plain (state_of old)) s after_cont ≡ Ok (plain (state_of new))
  unfolding lined operate
  cont_plain kept c r =
      let m = cont_made kept c r in
      disturbed s no_block (on_registers (plain (state_of old)) s after_cont) (plain (state_of new)) m.out m.touched m.block
      (made_plain (state_of old) (state_of new) no_block (events.Cont s) kept.sound m)

  pub cont_kept : Kept old → Calm old mid s j → JobBecomes mid new s (after_cont j) → Kept new
  cont_kept kept c r = registers_kept after_cont (events.Cont s) no_block old mid new s j kept c r (cont_made kept c r)
      (cont_plain kept c r) (λ i l. l) (λ i. refl) (λ i. refl)

  pub interrupt_done : (x y : ℕ) → Kept old → Calm old mid s j → JobBecomes mid new s (after_int x y j)
      → Lands (unwound (state_of old) s) (state_of new) (on_registers (unwound (state_of old) s).raw s (after_int x y))
  interrupt_done x y kept c r = registers_land (after_int x y) old mid new s j (λ x c sup a. refl) c r

  interrupt_made : (x y : ℕ) → Kept old → Calm old mid s j → JobBecomes mid new s (after_int x y j)
      → Made (state_of old) (state_of new) no_block (events.Int s x y)
  unfolding after_calm lined operate
  interrupt_made x y kept c r =
      let l = interrupt_done x y kept c r in
      record { out = []; touched = only s; block = no_block; is = ap (λ m. Done (disturbs s no_block m)) l.is; rest = l.rest }

  pub interrupt_plain : (x y : ℕ) → Kept old → Calm old mid s j → JobBecomes mid new s (after_int x y j)
      → on_registers (plain (state_of old)) s (after_int x y) ≡ Ok (plain (state_of new))
  unfolding lined operate
  interrupt_plain x y kept c r =
      let m = interrupt_made x y kept c r in
      disturbed s no_block (on_registers (plain (state_of old)) s (after_int x y)) (plain (state_of new)) m.out m.touched m.block
      (made_plain (state_of old) (state_of new) no_block (events.Int s x y) kept.sound m)

  pub interrupt_kept : (x y : ℕ) → Kept old → Calm old mid s j → JobBecomes mid new s (after_int x y j) → Kept new
  interrupt_kept x y kept c r = registers_kept (after_int x y) (events.Int s x y) no_block old mid new s j kept c r
      (interrupt_made x y kept c r) (interrupt_plain x y kept c r) (λ i l. l) (λ i. refl) (λ i. refl)

-- STATE
symbols_raw : (w : World) (s : ℕ) → (state_of w).raw.symbols s ≡ symbols_at w.symbols.items s
unfolding state_of
symbols_raw w s = refl

pub state_found : (old mid : World) (s : ℕ) (j : Job) (x : JobShow) (o : Option ℕ) (y : Option Symbol) → Calm old mid s j → o ≡ superior_at mid.jobs s
    → y ≡ symbol_shown j.pc (symbols_at mid.symbols.items s) → x ≡ shown j o y → state_shown (unwound (state_of old) s).raw s ≡ Ok x
unfolding state_shown
state_found old mid s j x o y c e f is =
    ap (λ (v : State). on_job v.raw s (λ q. Ok (shown q.job q.superior (symbol_shown q.job.pc (v.raw.symbols s)))) (v.raw.jobs s)) (sym c.unwinds)
    ∙ ap (on_job (state_of mid).raw s (λ q. Ok (shown q.job q.superior (symbol_shown q.job.pc ((state_of mid).raw.symbols s))))) (raw_is mid s j c.job)
    ∙ ap (λ (ss : List Symbol). Ok (shown j (superior_at mid.jobs s) (symbol_shown j.pc ss))) (symbols_raw mid s)
    ∙ ap (λ i. Ok (shown j i (symbol_shown j.pc (symbols_at mid.symbols.items s)))) (sym e) ∙ ap (λ i. Ok (shown j o i)) (sym f) ∙ ap Ok (sym is)

pub state_plain : (old mid : World) (s : ℕ) (j : Job) (x : JobShow) (o : Option ℕ) (y : Option Symbol) → Kept old → Calm old mid s j
    → o ≡ superior_at mid.jobs s
    → y ≡ symbol_shown j.pc (symbols_at mid.symbols.items s) → x ≡ shown j o y → state_shown (plain (state_of old)) s ≡ Ok x
state_plain old mid s j x o y kept c e f is =
    ap (λ m. state_shown m s) (sym (unwound_plain (state_of old) s kept.sound))
    ∙ calm_state_plain (unwound (state_of old) s) s (unwound_none (state_of old) s kept.sound) ∙ state_found old mid s j x o y c e f is

pub state_refused : (w : World) (s : ℕ) (x : Refusal) → (x ≡ refusals.NoJob) × (job_at w.jobs s ≡ None) → Kept w
    → Refused (state_of w) (unwound (state_of w) s) (λ m. state_shown m s) x
unfolding state_shown
state_refused w s x h kept = refused_by (λ m. state_shown m s) (state_of w) s x (λ u. shown_alike u s) kept.sound
    (ap (on_job (state_of w).raw s (λ q. Ok (shown q.job q.superior (symbol_shown q.job.pc ((state_of w).raw.symbols s)))))
    (raw_is_none w s h.1) ∙ ap (λ y. Err (reason_of y)) (sym h.0))
