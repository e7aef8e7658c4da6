-- What holds between calls, through unwinding and through a line.
use Rattle.std.specs.Prelude.{if◌then◌else◌, ◌==◌, ◌≡◌, ◌<◌, ◌^◌, ℕ, Bool, true, false, Option, Some, None, IfSome, List, Result, Ok, Err, option_map, is_some, refl}
use Rattle.std.proofs.Common.{sym, ◌∙◌, ap, subst}
use Rattle.its_records.specs.declared.session.Event.{Event}
use Rattle.its_records.specs.declared.session.Reason.{Reason}
use Rattle.its_records.specs.declared.session.Refusal.{Refusal}
use Rattle.its_records.specs.declared.jobs.Job.{Job}
use Rattle.its_frame.specs.declared.frame.Frame.{Frame}
use Rattle.its_print.specs.Printing.{Line}
use Rattle.its_word.specs.Core.{Core}
use Rattle.its_core.specs.Frames.{Frames}
use Rattle.its_jobs.specs.Table.{job_at}
use Rattle.its_plain.specs.Machine.{Whole, Machine, with_job}
use Rattle.its_plain.specs.Operator.{Block, Does}
use Rattle.its_plain.specs.Operator.Lines.{Done, lined}
use Rattle.its_plain.specs.Operator.Clock.{clock_end}
use Rattle.its_stepped.specs.State.{State, plain, seen}
use Rattle.its_stepped.specs.Sound.{Sound}
use Rattle.its_stepped.specs.Alarmed.{Alarmed}
use Rattle.its_stepped.specs.Forest.{Forest}
use Rattle.its_stepped.specs.Unwind.{unwound}
use Rattle.its_stepped.specs.Tick.{after_help_if}
use Rattle.its_stepped.specs.Lines.{looks_at_files, after_calm, with_raw, state_after, after_line, lifted_line}
use Rattle.its_stepped.proofs.Keeping.AlarmLaws.{line_alarmed}
use Rattle.its_stepped.proofs.Keeping.ClockLaws.{line_timed}
use Rattle.its_stepped.proofs.Unwinding.UnwindLaws.{unwound_plain, unwound_sound}
use Rattle.its_stepped.proofs.Lining.LineLaws.{line_plain}
use Rattle.its_stepped.proofs.Lining.AfterLaws.{after_sound}
use Rattle.its_stepped.proofs.Lining.RefusalLaws.{error_of}
use Rattle.its_stepped.proofs.Running.WrittenLaws.{line_forest}
use Rattle.its_world.specs.World.{state_of, with_frames, CoreBecomes, JobBecomes}
use Rattle.its_world.specs.Tidy.{Tidy}
use Rattle.its_world.specs.declared.world.World.{World}
use Rattle.its_records.specs.Refusals.{reason_of}
use Rattle.its_monitor.specs.Kept.{Kept, Refused, Calm, Calmed}
use Rattle.its_world.proofs.StateLaws.{job_of, frames_state}
use Rattle.its_world.proofs.MappedLaws.{frames_tidy}
use Rattle.its_pclsr.specs.Apart.{CoresOff}
use Rattle.its_pclsr.proofs.ApartLaws.{off_one, off_then}
use Rattle.its_world.proofs.StorageLaws.{raw_has}
use Rattle.its_records.proofs.FreeLaws.{none_is}
use Rattle.its_tick.proofs.WaitsLaws.{kept_is}

some_seen : (f : Option Frame) (o : Option Whole) → is_some (option_map (seen f) o) ≡ is_some o
some_seen f (Some q) = refl
some_seen f None = refl

plain_has_raw : (v : State) (k : ℕ) → is_some ((plain v).jobs k) ≡ is_some (v.raw.jobs k)
unfolding plain
plain_has_raw v k = some_seen (v.frames k) (v.raw.jobs k)

pub plain_has : (w : World) (k : ℕ) → is_some ((plain (state_of w)).jobs k) ≡ is_some (job_at w.jobs k)
plain_has w k = plain_has_raw (state_of w) k ∙ raw_has w k

none_by : {X Y : Type 0} (o : Option X) (p : Option Y) → is_some p ≡ is_some o → o ≡ None → p ≡ None
none_by o p e h = none_is p (e ∙ ap is_some h)

-- the same plain machine has jobs in the same slots
alike_has : (old new : World) (k : ℕ) → plain (state_of new) ≡ plain (state_of old) → is_some (job_at new.jobs k) ≡ is_some (job_at old.jobs k)
alike_has old new k e = sym (plain_has new k) ∙ ap (λ (m : Machine). is_some (m.jobs k)) e ∙ plain_has old k

-- a slot is unwound that has a job
unwound_same : (old new : World) (s : ℕ) → Kept old → state_of new ≡ unwound (state_of old) s → plain (state_of new) ≡ plain (state_of old)
unwound_same old new s kept e = ap plain e ∙ unwound_plain (state_of old) s kept.sound

pub unwound_has : (old new : World) (s : ℕ) → Kept old → state_of new ≡ unwound (state_of old) s → is_some (job_at new.jobs s) ≡ is_some (job_at old.jobs s)
unwound_has old new s kept e = alike_has old new s (unwound_same old new s kept e)

-- the same plain machine, and what else holds between calls
pub alike_kept : (old new : World) → Kept old → plain (state_of new) ≡ plain (state_of old) → Sound (state_of new) → Tidy new → Kept new
alike_kept old new kept same sound tidy =
    kept_is new
    sound
    (subst Forest (sym same) kept.forest)
    tidy
    (λ k. subst (λ (m : Machine). IfSome (m.jobs k) (λ q. q.job.pc < 2 ^ 18)) (sym same) (kept.addressed k))
    (λ k. subst (λ (m : Machine). IfSome (m.jobs k) (λ q. IfSome q.job.console (λ c. c < 8))) (sym same) (kept.consoled k))
    (subst (λ (m : Machine). m.clock < clock_end) (sym same) kept.timed)
    (subst Alarmed (sym same) kept.alarmed)

pub unwound_kept : (old new : World) (s : ℕ) → Kept old → state_of new ≡ unwound (state_of old) s → Tidy new → Kept new
unwound_kept old new s kept e tidy = alike_kept old new kept (unwound_same old new s kept e)
    (subst Sound (sym e) (unwound_sound (state_of old) s kept.sound)) tidy

-- a slot that was unwound leaves the plain machine as it was
pub calm_same : (old mid : World) (s : ℕ) (j : Job) → Kept old → Calm old mid s j → plain (state_of mid) ≡ plain (state_of old)
calm_same old mid s j kept c = unwound_same old mid s kept c.unwinds

pub calmed_same : (old mid : World) (s : ℕ) → Kept old → Calmed old mid s → plain (state_of mid) ≡ plain (state_of old)
calmed_same old mid s kept c = calm_same old mid s c.job kept c.calm

-- the cores of all others, and the frames of pages, if a slot was unwound and then written
pub calm_off : (old mid : World) (s : ℕ) (j : Job) → Calm old mid s j → CoresOff old mid s
calm_off old mid s j c = c.cores

pub calmed_off : (old mid : World) (s : ℕ) → Calmed old mid s → CoresOff old mid s
calmed_off old mid s c = c.calm.cores

pub registers_off : (old mid new : World) (s : ℕ) (j i : Job) → Calm old mid s j → JobBecomes mid new s i → CoresOff old new s
registers_off old mid new s j i c b = off_then old mid new s c.cores (off_one mid new s _ _ _ b)

pub stored_off : (old mid new : World) (s : ℕ) (d : Core) → Calmed old mid s → CoreBecomes mid new s d → CoresOff old new s
stored_off old mid new s d c b = off_then old mid new s c.calm.cores (off_one mid new s _ _ _ b)

-- the frames of pages do not matter to it
pub frames_kept : (w : World) (f : Frames) → Kept (with_frames w f) → Kept w
frames_kept w f k =
    let e = frames_state w f in
    kept_is w
    (subst Sound e k.sound)
    (subst (λ (v : State). Forest (plain v)) e k.forest)
    (frames_tidy w f k.tidy)
    (λ i. subst (λ (v : State). IfSome ((plain v).jobs i) (λ q. q.job.pc < 2 ^ 18)) e (k.addressed i))
    (λ i. subst (λ (v : State). IfSome ((plain v).jobs i) (λ q. IfSome q.job.console (λ c. c < 8))) e (k.consoled i))
    (subst (λ (v : State). (plain v).clock < clock_end) e k.timed)
    (subst (λ (v : State). Alarmed (plain v)) e k.alarmed)

-- a line that is done: the state v that it finds has another raw machine then
pub record Made (w new : State) (b : Block) (e : Event) : Type 0 where
  pub out : List Line
  pub touched : ℕ → Bool
  pub block : Block
  pub is : lined (after_calm w b e).raw b e ≡ Done (Does new.raw out touched block)
  pub rest : new ≡ with_raw (after_calm w b e) new.raw

made_after : (w new : State) (b : Block) (e : Event) → Made w new b e → after_line w b e ≡ new
unfolding after_line
made_after w new b e h = ap (state_after (after_help_if (looks_at_files e) w) (after_calm w b e)) h.is ∙ sym h.rest

pub made_sound : (w new : State) (b : Block) (e : Event) → Sound w → Made w new b e → Sound new
made_sound w new b e sound h = subst Sound (made_after w new b e h) (after_sound w b e sound)

pub made_plain : (w new : State) (b : Block) (e : Event) → Sound w → (h : Made w new b e)
    → lined (plain w) b e ≡ Done (Does (plain new) h.out h.touched h.block)
made_plain w new b e sound h =
    line_plain w b e sound ∙ ap (lifted_line (after_calm w b e)) h.is ∙ ap (λ (x : State). Done (Does (plain x) h.out h.touched h.block)) (sym h.rest)

pub made_forest : (w new : State) (b : Block) (e : Event) → Sound w → Forest (plain w) → Made w new b e → Forest (plain new)
made_forest w new b e sound d h = line_forest (plain w) (plain new) b h.block e h.out h.touched d (made_plain w new b e sound h)

pub made_timed : (w new : State) (b : Block) (e : Event) → Sound w → (plain w).clock < clock_end → Made w new b e → (plain new).clock < clock_end
made_timed w new b e sound below h = line_timed (plain w) (plain new) b h.block e h.out h.touched below (made_plain w new b e sound h)

pub made_alarmed : (w new : State) (b : Block) (e : Event) → Sound w → Forest (plain w) → Alarmed (plain w) → Made w new b e → Alarmed (plain new)
made_alarmed w new b e sound d a h = line_alarmed (plain w) (plain new) b h.block e h.out h.touched d a (made_plain w new b e sound h)

-- what a line keeps of each job: its PC is an address, and its console is one of eight
pub record Lasts (m : Machine) : Type 0 where
  pub addressed : (k : ℕ) → IfSome (m.jobs k) (λ q. q.job.pc < 2 ^ 18)
  pub consoled : (k : ℕ) → IfSome (m.jobs k) (λ q. IfSome q.job.console (λ c. c < 8))

pub kept_lasts : (w : World) → Kept w → Lasts (plain (state_of w))
kept_lasts w kept = record { addressed = kept.addressed; consoled = kept.consoled }

put_each : (P : Whole → Type 0) (b : Bool) (q : Whole) (o : Option Whole) → P q → IfSome o P → IfSome (if b then Some q else o) P
put_each P true q o x a = x
put_each P false q o x a = a

pub put_lasts : (m : Machine) (s : ℕ) (q : Whole) → q.job.pc < 2 ^ 18 → IfSome q.job.console (λ c. c < 8) → Lasts m → Lasts (with_job m s q)
put_lasts m s q p h a = record {
  addressed = λ k. put_each (λ (q : Whole). q.job.pc < 2 ^ 18) (k == s) q (m.jobs k) p (a.addressed k);
  consoled = λ k. put_each (λ (q : Whole). IfSome q.job.console (λ c. c < 8)) (k == s) q (m.jobs k) h (a.consoled k);
}

-- of a job that is there
pub lasts_address : (m : Machine) (s : ℕ) (q : Whole) → m.jobs s ≡ Some q → Lasts m → q.job.pc < 2 ^ 18
lasts_address m s q at a = subst (λ (o : Option Whole). IfSome o (λ q. q.job.pc < 2 ^ 18)) at (a.addressed s)

pub lasts_console : (m : Machine) (s : ℕ) (q : Whole) → m.jobs s ≡ Some q → Lasts m → IfSome q.job.console (λ c. c < 8)
lasts_console m s q at a = subst (λ (o : Option Whole). IfSome o (λ q. IfSome q.job.console (λ c. c < 8))) at (a.consoled s)

-- what is refused of the raw machine is refused of all three
pub error_is : {X : Type 0} (p q : Result X Reason) (r : Reason) → error_of p ≡ error_of q → q ≡ Err r → p ≡ Err r
error_is (Ok x) q r e h = let none : None ≡ Some r = e ∙ ap error_of h in absurd cc
error_is (Err y) q r e h = let some : Some y ≡ Some r = e ∙ ap error_of h in let is : y ≡ r = cc in ap Err is

pub refused_by : {X : Type 0} (f : Machine → Result X Reason) (w : State) (s : ℕ) (x : Refusal)
    → ((u : State) → error_of (f (plain u)) ≡ error_of (f u.raw)) → Sound w
    → f w.raw ≡ Err (reason_of x) → Refused w (unwound w s) f x
refused_by f w s x alike sound h =
    let first : f (plain w) ≡ Err (reason_of x) = error_is (f (plain w)) (f w.raw) (reason_of x) (alike w) h in
    record {
      plain = first;
      raw = h;
      calmed = error_is (f (unwound w s).raw) (f (plain w)) (reason_of x)
          (sym (alike (unwound w s)) ∙ ap (λ m. error_of (f m)) (unwound_plain w s sound)) first;
    }

pub unwound_missing : (old mid : World) (s : ℕ) → Kept old → is_some (job_at old.jobs s) ≡ true → state_of mid ≡ unwound (state_of old) s
    → job_at mid.jobs s ≡ None → ⊥
unwound_missing old mid s kept some e none =
    let has : is_some (job_at mid.jobs s) ≡ true = unwound_has old mid s kept e ∙ some in
    let no : is_some (job_at mid.jobs s) ≡ false = ap is_some none in absurd cc

pub unwound_calm : (old mid : World) (s : ℕ) → Kept old → is_some (job_at old.jobs s) ≡ true → state_of mid ≡ unwound (state_of old) s
    → CoresOff old mid s → Tidy mid → Calmed old mid s
unwound_calm old mid s kept some e cores tidy =
    let j = job_of (job_at mid.jobs s) (unwound_has old mid s kept e ∙ some) in
    record { job = j.0; calm = record { kept = unwound_kept old mid s kept e tidy; cores = cores; unwinds = e; job = j.1 } }
