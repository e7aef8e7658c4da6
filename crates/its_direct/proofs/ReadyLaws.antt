-- What a call decides can be carried out: its changes can be made, and after them its stores and
-- its registers.
use Rattle.std.specs.Prelude.{◌≡◌, ◌≤◌, ◌<◌, ◌-◌, ◌^◌, ℕ, suc, true, Option, Some, None, IfSome, is_some, List, [], ◌∷◌, Ok, drop, length, refl}
use Rattle.std.proofs.Common.{sym, ◌∙◌, ap, subst, inl, inr, arith}
use Rattle.std.proofs.lemmas.List.{length-drop}
use Rattle.std.proofs.lemmas.Nat.{mod_below}
use Rattle.its_word.specs.Byte.{has_size}
use Rattle.its_word.specs.Core.{Core}
use Rattle.its_word.specs.Stores.{first_fault, place}
use Rattle.its_records.specs.declared.calls.Ask.{Ask}
use Rattle.its_records.specs.declared.calls.Operand.{Operand}
use Rattle.its_records.specs.declared.calls.Site.{Site}
use Rattle.its_records.specs.declared.jobs.Job.{Job}
use Rattle.its_word.specs.declared.plan.Store.{Store}
use Rattle.its_word.proofs.StoreLaws.{fault_of_none, fault_stored}
use Rattle.its_frame.specs.declared.change.Change.{Change}
use Rattle.its_frame.specs.declared.change.Change.TheVariants as changes
use Rattle.its_frame.specs.declared.decision.Decision.{Decision}
use Rattle.its_frame.specs.declared.decision.Decision.TheVariants.{Waits, Goes, Ends, Gone}
use Rattle.its_frame.specs.declared.decision.Held.{Held}
use Rattle.its_jobs.specs.Table.{job_at}
use Rattle.its_plain.specs.Call.Arguments.{input, store_of, stores_of, debts, with_new_values}
use Rattle.its_plain.specs.Call.Decode.{ask}
use Rattle.its_plain.specs.Call.Step.{Transition, decision, deposited}
use Rattle.its_plain.specs.Machine.Change.{effect, effects}
use Rattle.its_plain.specs.Call.Footprint.{Stands}
use Rattle.its_plain.specs.Machine.{Whole, Machine, core_of}
use Rattle.its_stepped.specs.Address.{Addressed}
use Rattle.its_stepped.specs.Commit.{effects_on}
use Rattle.its_stepped.specs.Consoled.{Consoled}
use Rattle.its_stepped.specs.Duty.{Going, Ending_by, Duty}
use Rattle.its_stepped.specs.Duty as duties
use Rattle.its_stepped.specs.Forest.{Forest}
use Rattle.its_stepped.specs.Sound.{Stored}
use Rattle.its_stepped.specs.State.{State}
use Rattle.its_stepped.specs.Tick.{reserves}
use Rattle.its_stepped.proofs.Keeping.AddressLaws.{LeavesAddress, decision_leaves}
use Rattle.its_stepped.proofs.Frame.DecodingLaws.{decoding}
use Rattle.its_stepped.proofs.Frame.FrameLaws.{stored_one}
use Rattle.its_stepped.proofs.Duties.GivenLaws.{decision_duty}
use Rattle.its_stepped.proofs.Frame.OwnLaws.{spared, job_kept}
use Rattle.its_stepped.proofs.Unwinding.UnwindLaws.{most_few}
use Rattle.its_shared.specs.Can.{HasJob}
use Rattle.its_direct.specs.Plain.{machine_of, Tidy}
use Rattle.its_direct.specs.Ready.{HeldFits, held_in, GoesOn, core_behind, CanCarryOut}
use Rattle.its_direct.specs.Steps.{CallsAt}
use Rattle.its_direct.specs.declared.plain.Plain.{Plain}
use Rattle.its_shared.proofs.CanLaws.{Beside, nothing, all_can, DecisionCan}
use Rattle.its_shared.proofs.CallCanLaws.{Grants, decision_can}
use Rattle.its_direct.proofs.CallingLaws.{page_for, beginning, nobody, calling, all_alike}
use Rattle.its_direct.proofs.UserLaws.{own_is, nobody_is}

-- its changes can be made: the plain machine has nothing beside that they could ask
abbrev pub free : Beside
free = record { files = Unit {0}; page = Unit {0}; tree = λ s. Unit {0} }

granted : (q : Whole) (a : Ask) → Grants free q a
granted q a = record { files = λ h. tt; page = λ h. tt; tree = λ z e s at write is. tt }

-- stores that can be made
none_refused : (c : Core) (ss : List Store) → Stored c ss → first_fault c ss ≡ None
unfolding first_fault
none_refused c [] h = refl
none_refused c (s ∷ ss) h = rw (h.0, none_refused c ss h.1) refl

held_fault : (c : Core) (a : Ask) (h : Option Held) (ss : List Store) → first_fault c ss ≡ None → first_fault (held_in c a h) ss ≡ None
held_fault c a None ss e = e
held_fault c a (Some b) ss e =
    let s : Store = deposited c (input a 1) b in
    ap (λ (d : Core). first_fault d ss) (stored_one c s) ∙ fault_stored c (place s) s.word ss ∙ e

-- as many arguments as are pending
stores_few : (os : List Operand) → length (stores_of os) ≤ length os
stores_few [] = omega arith
stores_few (o ∷ os) = by o.place o.value (stores_few os)
  where
    by : (p : Option ℕ) (v : ℕ) → length (stores_of os) ≤ length os → length (store_of (record { value = v; place = p }) (stores_of os)) ≤ suc (length os)
    by (Some p) v h = omega arith
    by None v h = omega arith

owes_many : (a : Ask) (n : ℕ) → length (debts a n) ≡ n → n ≤ length a.inputs.items
unfolding debts
owes_many a n e =
    let xs = a.inputs.items in
    let few = stores_few (drop (length xs - n) xs) in
    let all = length-drop (length xs - n) xs in
    omega arith

-- a part of a call
held_goes : (c : Core) (a : Ask) (vs : List ℕ) (h : Option Held) (olds : List Store) → length (debts (with_new_values a vs) (length vs)) ≡ length vs
    → IfSome h (λ b. duties.HeldFits c olds (length vs) b) → IfSome h (λ b. has_size (input (with_new_values a vs) 1) ≡ true)
    → IfSome h (HeldFits c (with_new_values a vs))
held_goes c a vs None olds read f size = tt
held_goes c a vs (Some b) olds read f size = record {
  many = (let n = owes_many (with_new_values a vs) (length vs) read in let two = f.two in omega arith);
  below = (let l = mod_below b.place (2 ^ 18) (omega arith) in let e = f.placed in omega arith);
  can = f.can;
  size = size;
}

goes_on : (v : State) (j : ℕ) (q : Whole) (s : Site) (a : Ask) (n : ℕ) (cs : List Change) (h : Option Held) (vs : List ℕ)
    → Going v j q s a n cs h vs → GoesOn q.core a h vs
goes_on v j q s a n cs h vs g = record {
  few = (let l = g.debts.few in let most = most_few (with_new_values a vs) in omega arith);
  held = held_goes q.core a vs h (debts a n) g.debts.read g.held g.size;
  read = g.debts.read;
  debts = held_fault q.core (with_new_values a vs) h (debts (with_new_values a vs) (length vs))
      (none_refused q.core (debts (with_new_values a vs) (length vs)) g.debts.stored);
}

-- the caller's job after the changes
module _ (m : Machine) (r : Option ℕ) (j : ℕ) (q : Whole) (cs : List Change) (here : m.jobs j ≡ Some q) where
  behind : (effects_on cs j (beginning m nobody r)).raw.jobs j ≡ (effects cs j m).jobs j
  behind = ap (λ (jobs : ℕ → Option Whole). jobs j) (all_alike cs j (beginning m nobody r) m refl)

  spared_has : duties.AllSpare cs j (beginning m nobody r) → HasJob (effects cs j m) j
  spared_has h = let sees = spared cs j (beginning m nobody r) q h here in ap is_some (sym behind ∙ sees.is)

  spared_core : duties.AllSpare cs j (beginning m nobody r) → core_behind m j cs ≡ q.core
  spared_core h = let sees = spared cs j (beginning m nobody r) q h here in ap core_of (sym behind ∙ sees.is) ∙ ap (λ (p : Core × Job). p.0) sees.same

  kept_has : duties.AllRemain cs j (beginning m nobody r) → HasJob (effects cs j m) j
  kept_has h = let sees = job_kept cs j (beginning m nobody r) q h here in ap is_some (sym behind ∙ sees.is)

  ends_has : (ss : List Store) → Ending_by (beginning m nobody r) j q 0 cs ss → HasJob (effects cs j m) j
  ends_has ss d = elim d.stores [ inl h ↦ spared_has h.0 | inr h ↦ kept_has h.0 ]

  ends_stores : (ss : List Store) → Ending_by (beginning m nobody r) j q 0 cs ss → first_fault (core_behind m j cs) ss ≡ None
  ends_stores ss d = elim d.stores [
    | inl h ↦ ap (λ (c : Core). first_fault c ss) (spared_core h.0) ∙ none_refused q.core ss h.1
    | inr h ↦ ap (first_fault (core_behind m j cs)) h.2 ∙ fault_of_none (core_behind m j cs)
  ]

-- a decision that does its duty
ready_by : (m : Machine) (r : Option ℕ) (j : ℕ) (q : Whole) (s : Site) (a : Ask) (d : Decision) → m.jobs j ≡ Some q → DecisionCan free d j m
    → Duty (beginning m nobody r) j q s a 0 d → LeavesAddress d
    → CanCarryOut m j a d
ready_by m r j q s a (Waits w) here can duty leaves = tt
ready_by m r j q s a (Goes cs h vs) here can duty leaves = (
  record { can = all_can free cs.items j m can; job = spared_has m r j q cs.items here duty.spare },
  subst (λ (c : Core). GoesOn c a h vs.items) (sym (spared_core m r j q cs.items here duty.spare))
      (goes_on (beginning m nobody r) j q s a 0 cs.items h vs.items duty),
)
ready_by m r j q s a (Ends cs ss e) here can duty leaves = (
  record { can = all_can free cs.items j m can; job = ends_has m r j q cs.items here ss.items duty },
  ends_stores m r j q cs.items here ss.items duty,
  leaves,
)
ready_by m r j q s a (Gone cs) here can duty leaves = all_can nothing cs.items j (effect (changes.Remove j) j m) can

console_few : (m : Machine) (j : ℕ) (q : Whole) → m.jobs j ≡ Some q → Consoled m → IfSome q.job.console (λ c. c < 8)
console_few m j q here c = subst (λ (o : Option Whole). IfSome o (λ p. IfSome p.job.console (λ c. c < 8))) here (c.each j)

pub ready : (m : Machine) (j : ℕ) (q : Whole) (s : Site) (a : Ask) → Forest m → Consoled m → m.jobs j ≡ Some q → q.job.pc < 2 ^ 18
    → Stands q.core q.job s a → CanCarryOut m j a (decision m j q a)
ready m j q s a forest consoled here placed st =
    let r = page_for (reserves a) in
    ready_by m r j q s a (decision m j q a) here (decision_can free m j q a forest here (granted q a) (console_few m j q here consoled))
    (decision_duty decoding m (beginning m nobody r) j q s a 0 (calling m j q s a nobody forest here st tt (λ k h. refl) (λ k h. refl)))
    (decision_leaves m j q a placed)

-- what a step decides on the second machine, at the call to which its step comes, can be carried
-- out
placed_at : (p : Plain) (k : ℕ) (o : Option Job) → job_at p.jobs k ≡ o → IfSome o (λ i. i.pc < 2 ^ 18)
    → IfSome ((machine_of p).jobs k) (λ q. q.job.pc < 2 ^ 18)
placed_at p k (Some i) e h = subst (λ (w : Option Whole). IfSome w (λ q. q.job.pc < 2 ^ 18)) (sym (own_is p k i e)) h
placed_at p k None e h = subst (λ (w : Option Whole). IfSome w (λ q. q.job.pc < 2 ^ 18)) (sym (nobody_is p k e)) tt

pub addressed : (p : Plain) → Tidy p → Addressed (machine_of p)
addressed p tidy = record { each = λ k. placed_at p k (job_at p.jobs k) refl (tidy.addressed k) }

pub plain_ready : (p : Plain) (j : ℕ) (s : Site) (a : Ask) (o : Option Transition) → Tidy p → Forest (machine_of p) → Consoled (machine_of p)
    → (c : CallsAt (machine_of p) j s o) → ask c.own.core s ≡ Ok a → CanCarryOut (machine_of p) j a (decision (machine_of p) j c.own a)
plain_ready p j s a o tidy forest consoled c e =
    ready (machine_of p) j c.own s a forest consoled c.had (subst (λ (w : Option Whole). IfSome w (λ q. q.job.pc < 2 ^ 18)) c.had ((addressed p tidy).each j))
    (record { unit_is = c.unit; ask_is = e })
