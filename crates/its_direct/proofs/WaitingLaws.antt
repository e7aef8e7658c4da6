-- A job whose `.IOT` from its console waits has no step.
use Rattle.std.specs.Prelude.{if◌then◌else◌, ◌≡◌, ◌==◌, ◌&&◌, ◌||◌, ℕ, Bool, true, false, not, Option, Some, None, is_none, is_some, List, [], ◌∷◌, Ok, length, unwrap_or, refl}
use Rattle.std.proofs.Common.{sym, ap, ◌∙◌}
use Rattle.std.proofs.lemmas.Bool.{and_parts, ne_eqb}
use Rattle.its_word.specs.Core.{Core, can_store, word_at}
use Rattle.its_word.specs.declared.access.Fault.{Fault}
use Rattle.its_word.specs.declared.access.Fault.TheVariants.{Mpv, Wro}
use Rattle.its_records.specs.declared.calls.Site.{Site}
use Rattle.its_records.specs.declared.jobs.Channel.{Channel}
use Rattle.its_records.specs.declared.jobs.Channel.TheVariants.{TtyIn as InChannel}
use Rattle.its_records.specs.declared.jobs.Job.{Job}
use Rattle.its_core.specs.Cores.{core_at}
use Rattle.its_frame.specs.declared.decision.Decision.{Decision}
use Rattle.its_frame.specs.declared.decision.Decision.TheVariants.{Waits}
use Rattle.its_frame.specs.declared.decision.Wait.{Wait}
use Rattle.its_frame.specs.declared.decision.Wait.TheVariants.{Input}
use Rattle.its_frame.specs.declared.name.CallName.TheVariants.{Iot}
use Rattle.its_frame.proofs.NameLaws.{named}
use Rattle.its_jobs.specs.Table.{job_at}
use Rattle.its_plain.specs.Call.Basic.{channel_at}
use Rattle.its_plain.specs.Call.Device.{iot_call, iot_on}
use Rattle.its_plain.specs.Call.Step.{acted, decision, transition}
use Rattle.its_plain.specs.Call.Tty.{is_empty, is_other}
use Rattle.its_plain.specs.Call.Decide.{decided, decided_by, reach, target}
use Rattle.its_plain.specs.Call.Decode.{ask, ask_by, iot_ask}
use Rattle.its_plain.specs.Unit.Interrupt.{deliverable}
use Rattle.its_plain.specs.Machine.{TtyIn}
use Rattle.its_plain.specs.Call.Tests.{◌⇒◌, first}
use Rattle.its_plain.specs.Unit.{Called, unit}
use Rattle.its_plain.specs.Machine.View.{View, view}
use Rattle.its_plain.proofs.StepLaws.{transition_called}
use Rattle.its_shared.specs.Called.{bar_of, channel_under}
use Rattle.its_shared.specs.Parts.{chan_of}
use Rattle.its_shared.proofs.NumberLaws.{under}
use Rattle.pdp_exec.specs.Near.{near_site}
use Rattle.pdp_exec.specs.declared.near.Near.{Near}
use Rattle.its_direct.specs.Plain.{machine_of}
use Rattle.its_direct.specs.Steps.{own_of}
use Rattle.its_direct.specs.Waiting.{AtHand, is_input, is_silent, lacks, lacks_near}
use Rattle.its_direct.specs.declared.plain.Plain.{Plain}
use Rattle.its_direct.proofs.HandLaws.{hand_of}
use Rattle.its_direct.proofs.UserLaws.{own_is, quiet_is, unit_is}

-- whether a word can be stored, by whether it is there
can_by : (b : Bool) → b ≡ is_none (if not b then Some Wro else None)
can_by true = refl
can_by false = refl

pub stores : (c : Core) (a w : ℕ) (b : Bool) → word_at c a ≡ Some w → b ≡ can_store c a → b ≡ is_none (bar_of c a)
stores c a w b has is = is ∙ can_by (can_store c a) ∙ sym (ap
    (λ (o : Option ℕ). is_none (if not (is_some o) then Some Mpv else (if not (can_store c a) then Some Wro else None))) has)

pub stores_not : (c : Core) (a : ℕ) → word_at c a ≡ None → false ≡ is_none (bar_of c a)
stores_not c a none = sym (ap (λ (o : Option ℕ). is_none (if not (is_some o) then Some Mpv else (if not (can_store c a) then Some Wro else None))) none)

-- channel n of slot s's job, with these registers, is for input of its console, the word at E can
-- be stored, and the console gives no byte
record Lacks (p : Plain) (s : ℕ) (j : Job) (e n : ℕ) : Type 0 where
  pub on : channel_under j n ≡ InChannel
  pub clear : bar_of (core_at p.core s) e ≡ None
  pub waits : is_silent p s (unwrap_or j.console 0) ≡ true

on_input : (c : Channel) → is_input c ≡ true → c ≡ InChannel
on_input InChannel e = refl
on_input _ e = absurd cc

not_barred : (o : Option Fault) → is_none o ≡ true → o ≡ None
not_barred None e = refl
not_barred (Some f) e = absurd cc

lacking : (p : Plain) (s : ℕ) (j : Job) (e n : ℕ) → lacks p s j e n ≡ true → Lacks p s j e n
lacking p s j e n h =
    let t = and_parts (is_input (channel_under j n)) (is_none (bar_of (core_at p.core s) e) && is_silent p s (unwrap_or j.console 0)) h in
    let u = and_parts (is_none (bar_of (core_at p.core s) e)) (is_silent p s (unwrap_or j.console 0)) t.1 in
    record { on = on_input (channel_under j n) t.0; clear = not_barred (bar_of (core_at p.core s) e) u.0; waits = u.1 }

-- what the call asks for
asked : (c : Core) (x : Site) (n : ℕ) → x.channel ≡ Some n → ask c x ≡ Ok (iot_ask x n)
unfolding ask
asked c x n e = ap (ask_by c x) e

-- no byte
empty_is : (xs : List ℕ) → is_empty xs ≡ (length xs == 0)
empty_is [] = refl
empty_is (x ∷ xs) = sym (ne_eqb (length (x ∷ xs)) 0 (λ e. cc))

-- the tests of a call whose word can be stored, before it waits
first_waits : (a b w : Bool) (x y d : Decision) (r : Wait) → (if a then Some Mpv else (if b then Some Wro else None)) ≡ None → w ≡ true
    → first (a ⇒ x ∷ b ⇒ y ∷ w ⇒ Waits r ∷ []) d ≡ Waits r
first_waits true b w x y d r h e = absurd cc
first_waits false true w x y d r h e = absurd cc
first_waits false false w x y d r h e = ap (λ (t : Bool). if t then Waits r else d) e

waits_decided : (p : Plain) (s : ℕ) (j : Job) (x : Site) (n : ℕ) → Lacks p s j x.e n
    → decision (machine_of p) s (own_of p s j) (iot_ask x n) ≡ Waits (Input (unwrap_or j.console 0))
unfolding decision decided view iot_call iot_ask machine_of
waits_decided p s j x n h =
    let a = iot_ask x n in
    let v : View = view (machine_of p) s (own_of p s j) (target (own_of p s j) a) in
    let on : channel_at v.own.channels n ≡ TtyIn = sym (under p.files j n) ∙ ap (chan_of p.files) h.on in
    ap (decided_by v a) (named Iot)
    ∙ ap (iot_on v x.e n) on
    ∙ first_waits _ _ _ _ _ _ (Input (unwrap_or j.console 0)) h.clear
    (ap (λ (b : Bool). b || is_other s (v.holders (unwrap_or j.console 0))) (empty_is (v.consoles (unwrap_or j.console 0)).input) ∙ h.waits)

waits_by : (p : Plain) (s : ℕ) (j : Job) (x : Site) (n : ℕ) → Lacks p s j x.e n
    → acted (machine_of p) s (iot_ask x n) (reach (machine_of p) s (own_of p s j) (iot_ask x n))
    (decision (machine_of p) s (own_of p s j) (iot_ask x n)) ≡ None
unfolding acted
waits_by p s j x n h = ap (acted (machine_of p) s (iot_ask x n) (reach (machine_of p) s (own_of p s j) (iot_ask x n))) (waits_decided p s j x n h)

lacks_none : (p : Plain) (s : ℕ) (i : Job) (x : Site) (o : Option ℕ) → x.channel ≡ o → job_at p.jobs s ≡ Some i → i.stopped ≡ false → deliverable i ≡ false
    → unit (core_at p.core s) i ≡ Called x → lacks_near p s i x.e o ≡ true → transition (machine_of p) s ≡ None
lacks_none p s i x (Some n) is had runs quiet u h =
    transition_called (machine_of p) s (own_of p s i) x (Ok (iot_ask x n)) (own_is p s i had) runs (quiet_is p s i false quiet)
    (unit_is p s i (Called x) u) (asked (core_at p.core s) x n is)
    ∙ waits_by p s i x n (lacking p s i x.e n h)
lacks_none p s i x None is had runs quiet u h = absurd cc

pub no_step : (p : Plain) (s : ℕ) (i : Job) (n : Near) → AtHand p s n → job_at p.jobs s ≡ Some i → lacks_near p s i n.e n.channel ≡ true
    → transition (machine_of p) s ≡ None
no_step p s i n h had lacks =
    let o = hand_of p s n i h had in
    lacks_none p s i (near_site i.pc n) n.channel refl had o.runs o.quiet o.unit lacks
