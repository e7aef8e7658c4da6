-- The machine at the start of a session is narrow, and each step keeps it: a unit, the delivery of
-- an interrupt, and a call.
use Rattle.std.specs.Prelude.{if◌then◌else◌, ◌==◌, ◌≡◌, ◌<◌, ◌^◌, ℕ, Bool, true, false, Option, Some, None, IfSome, List, [], ◌∷◌, ◌++◌, option_map, refl}
use Rattle.std.proofs.Common.{sym, subst}
use Rattle.its_word.specs.Console.{Console}
use Rattle.its_records.specs.declared.calls.Ask.{Ask}
use Rattle.its_frame.specs.declared.change.Change.{Change}
use Rattle.its_frame.specs.declared.change.Change.TheVariants as changes
use Rattle.its_frame.specs.declared.decision.Decision.{Decision}
use Rattle.its_frame.specs.declared.decision.Decision.TheVariants.{Waits, Goes, Ends, Gone}
use Rattle.its_frame.specs.declared.decision.Held.{Held}
use Rattle.its_plain.specs.Call.Arguments.{with_new_values}
use Rattle.its_plain.specs.Call.Decide.{reach}
use Rattle.its_plain.specs.Call.Step.{with_held, acted, decision, informs, step}
use Rattle.its_plain.specs.Machine.{Shut, Linked, Symbol, Whole, Machine, no_machine, with_new}
use Rattle.its_plain.specs.Machine.Change.{rest_of, after_take, after_put, on_console, in_job, is_gone, symbols_after_removal, job_after_removal, after_removal, superiors, inferior, with_alarm, effect, effects}
use Rattle.its_plain.specs.Machine.Own.{on_channel}
use Rattle.its_plain.specs.Operator.Clock.{alarm_in, clock_end}
use Rattle.its_plain.specs.Unit.Interrupt.{delivered}
use Rattle.its_plain.proofs.StepLaws.{AllOf, step_has}
use Rattle.its_saved.specs.Narrow.{AreAddressed, Narrow}
use Rattle.its_saved.specs.Readable.{AllBelow, BytesWorded}
use Rattle.its_saved.proofs.NarrowCallLaws.{NarrowChange, AllNarrow, NarrowAll, decision_narrow}

pub narrow_starts : Narrow no_machine
unfolding no_machine
narrow_starts = record { symbols = λ k. tt; alarms = λ k. tt; bytes = λ c. record { input = tt; output = tt } }

-- numbers below a bound
pub all_append : (n : ℕ) (xs ys : List ℕ) → AllBelow n xs → AllBelow n ys → AllBelow n (xs ++ ys)
all_append n [] ys h r = r
all_append n (x ∷ xs) ys h r = (h.0, all_append n xs ys h.1 r)

rest_below : (n : ℕ) (xs : List ℕ) → AllBelow n xs → AllBelow n (rest_of xs)
rest_below n [] h = tt
rest_below n (x ∷ xs) h = h.1

-- an alarm, and that of the job of a slot
abbrev pub Timely : Option (ℕ × ℕ) → Type 0
Timely o = IfSome o (λ a. a.1 < 2 ^ 36)

abbrev pub TimelyIn : Option Whole → Type 0
TimelyIn o = IfSome (alarm_in o) (λ a. a.1 < 2 ^ 36)

-- a job that changes
abbrev pub KeepsAlarm : (Whole → Whole) → Type 0
KeepsAlarm f = (q : Whole) → Timely q.alarm → Timely (f q).alarm

pub mapped_timely : (f : Whole → Whole) (b : Bool) (o : Option Whole) → KeepsAlarm f → TimelyIn o → TimelyIn (if b then option_map f o else o)
mapped_timely f true (Some q) h a = h q a
mapped_timely f true None h a = tt
mapped_timely f false o h a = a

pub job_narrow : (m : Machine) (s : ℕ) (f : Whole → Whole) → KeepsAlarm f → Narrow m → Narrow (in_job m s f)
job_narrow m s f h a = record { symbols = a.symbols; alarms = λ k. mapped_timely f (k == s) (m.jobs k) h (a.alarms k); bytes = a.bytes }

-- a job that is made has no symbols
pub nameless : (b : Bool) (xs : List Symbol) → AreAddressed xs → AreAddressed (if b then [] else xs)
nameless true xs h = tt
nameless false xs h = h

pub either_timely : (b : Bool) (q : Whole) (o : Option Whole) → Timely q.alarm → TimelyIn o → TimelyIn (if b then Some q else o)
either_timely true q o x a = x
either_timely false q o x a = a

pub new_narrow : (m : Machine) (s : ℕ) (q : Whole) → Timely q.alarm → Narrow m → Narrow (with_new m s q)
new_narrow m s q h a = record {
  symbols = λ k. nameless (k == s) (m.symbols k) (a.symbols k);
  alarms = λ k. either_timely (k == s) q (m.jobs k) h (a.alarms k);
  bytes = a.bytes;
}

-- a console that changes
pub either_worded : (b : Bool) (x y : Console) → BytesWorded x → BytesWorded y → BytesWorded (if b then x else y)
either_worded true x y h a = h
either_worded false x y h a = a

pub console_narrow : (m : Machine) (c : ℕ) (f : Console → Console) → (BytesWorded (m.consoles c) → BytesWorded (f (m.consoles c)))
    → Narrow m → Narrow (on_console m c f)
console_narrow m c f h a = record {
  symbols = a.symbols;
  alarms = a.alarms;
  bytes = λ k. either_worded (k == c) (f (m.consoles c)) (m.consoles k) (h (a.bytes c)) (a.bytes k);
}

taken_worded : (x : Console) → BytesWorded x → BytesWorded (after_take x)
taken_worded x h = record { input = rest_below 128 x.input h.input; output = h.output }

put_worded : (b : ℕ) (x : Console) → b < 128 → BytesWorded x → BytesWorded (after_put b x)
put_worded b x few h = record { input = h.input; output = all_append 128 x.output (b ∷ []) h.output (few, tt) }

-- a removal
left_addressed : (b : Bool) (xs : List Symbol) → AreAddressed xs → AreAddressed (symbols_after_removal b xs)
left_addressed true xs h = tt
left_addressed false xs h = h

left_timely : (gone : ℕ → Bool) (b : Bool) (o : Option Whole) → TimelyIn o → TimelyIn (job_after_removal gone b o)
left_timely gone true o a = tt
left_timely gone false None a = tt
left_timely gone false (Some q) a = a

removed_narrow : (sup : ℕ → Option ℕ) (r : ℕ) (m : Machine) → Narrow m → Narrow (after_removal sup r m)
unfolding after_removal
removed_narrow sup r m a = record {
  symbols = λ k. left_addressed (is_gone sup r k) (m.symbols k) (a.symbols k);
  alarms = λ k. left_timely (is_gone sup r) (is_gone sup r k) (m.jobs k) (a.alarms k);
  bytes = a.bytes;
}

-- a machine that differs in its holders, files and links alone
pub elsewhere : (m n : Machine) → n.symbols ≡ m.symbols → n.jobs ≡ m.jobs → n.consoles ≡ m.consoles → Narrow m → Narrow n
elsewhere m n e f g a = record {
  symbols = λ k. subst (λ (symbols : ℕ → List Symbol). AreAddressed (symbols k)) (sym e) (a.symbols k);
  alarms = λ k. subst (λ (jobs : ℕ → Option Whole). TimelyIn (jobs k)) (sym f) (a.alarms k);
  bytes = λ c. subst (λ (consoles : ℕ → Console). BytesWorded (consoles c)) (sym g) (a.bytes c);
}

-- a change
pub effect_narrow : (c : Change) (j : ℕ) (m : Machine) → NarrowChange c → Narrow m → Narrow (effect c j m)
unfolding effect
effect_narrow (changes.Close n) j m l a = elsewhere (in_job m j (on_channel n (λ c. Shut))) _ refl refl refl (job_narrow m j _ (λ q x. x) a)
effect_narrow (changes.Take c) j m l a = console_narrow m c after_take (taken_worded (m.consoles c)) a
effect_narrow (changes.Put c b) j m l a = console_narrow m c (after_put b) (put_worded b (m.consoles c) l) a
effect_narrow (changes.Hold c s) j m l a = elsewhere m _ refl refl refl a
effect_narrow (changes.Poke s p w) j m l a = job_narrow m s _ (λ q x. x) a
effect_narrow (changes.Set s v w) j m l a = job_narrow m s _ (λ q x. x) a
effect_narrow (changes.Map s k) j m l a = job_narrow m s _ (λ q x. x) a
effect_narrow (changes.Unmap s k) j m l a = job_narrow m s _ (λ q x. x) a
effect_narrow (changes.Protect s k on) j m l a = job_narrow m s _ (λ q x. x) a
effect_narrow (changes.Make s u n) j m l a = new_narrow m s (inferior j (m.jobs j) u n) tt a
effect_narrow (changes.Remove s) j m l a = removed_narrow (superiors m) s m a
effect_narrow (changes.Inform s) j m l a = job_narrow m s _ (λ q x. x) a
effect_narrow (changes.Arm alarm) j m l a = job_narrow m j (with_alarm alarm) (λ q x. l) a
effect_narrow (changes.Join n i write x y) j m l a =
    elsewhere (in_job m j (on_channel n (λ c. Linked i write))) _ refl refl refl (job_narrow m j _ (λ q x. x) a)
effect_narrow (changes.CloseEnd n i write) j m l a =
    elsewhere (in_job m j (on_channel n (λ c. Shut))) _ refl refl refl (job_narrow m j _ (λ q x. x) a)
effect_narrow (changes.Send i w) j m l a = elsewhere m _ refl refl refl a
effect_narrow (changes.Receive i) j m l a = elsewhere m _ refl refl refl a
effect_narrow (changes.Delete x y z) j m l a = elsewhere m _ refl refl refl a
effect_narrow (changes.Rename x y z u v) j m l a = elsewhere m _ refl refl refl a
effect_narrow _ j m l a = job_narrow m j _ (λ q x. x) a

pub effects_narrow : (cs : List Change) (j : ℕ) (m : Machine) → AllNarrow cs → Narrow m → Narrow (effects cs j m)
effects_narrow [] j m l a = a
effects_narrow (c ∷ cs) j m l a = effects_narrow cs j (effect c j m) l.1 (effect_narrow c j m l.0 a)

-- a call
held_timely : (a : Ask) (h : Option Held) → KeepsAlarm (with_held a h)
held_timely a (Some h) q x = x
held_timely a None q x = x

acted_narrow : (m : Machine) (j : ℕ) (a : Ask) (ks : List ℕ) (d : Decision) → NarrowAll d → Narrow m → AllOf (λ t. Narrow t.machine) (acted m j a ks d)
unfolding acted
acted_narrow m j a ks (Waits r) l h = tt
acted_narrow m j a ks (Goes cs b vs) l h =
    job_narrow (effects cs.items j m) j _ (λ q x. held_timely (with_new_values a vs.items) b q x) (effects_narrow cs.items j m l h)
acted_narrow m j a ks (Ends cs ss e) l h = job_narrow (effects cs.items j m) j _ (λ q x. x) (effects_narrow cs.items j m l h)
acted_narrow m j a ks (Gone cs) l h = effects_narrow (changes.Remove j ∷ cs.items) j m (tt, l) h

-- a delivery informs a superior at most
informs_narrow : (b : Bool) (o : Option ℕ) → AllNarrow (informs b o)
informs_narrow true (Some s) = (tt, tt)
informs_narrow true None = tt
informs_narrow false o = tt

-- a step, while the clock is below its end
pub step_narrow : (m n : Machine) (j : ℕ) → m.clock < clock_end → Narrow m → step m j ≡ Some n → Narrow n
step_narrow m n j below h e = step_has Narrow m n j (λ q is.
    let d = delivered q.core q.job in
    let cs = informs d.stops q.superior in
    record {
      delivers = job_narrow (effects cs j m) j _ (λ i x. x) (effects_narrow cs j m (informs_narrow d.stops q.superior) h);
      changes = λ c k u. job_narrow m j _ (λ i x. x) h;
      faults = λ f. job_narrow m j _ (λ i x. x) h;
      calls = λ a. acted_narrow m j a (reach m j q a) (decision m j q a) (decision_narrow m j q a below) h;
    }) e
