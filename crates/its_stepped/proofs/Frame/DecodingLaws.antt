-- What the decoding of a call that is still there has looked at.
use Rattle.std.specs.Prelude.{◌≡◌, ◌≢◌, ◌≤◌, ◌<◌, ◌==◌, ◌||◌, ℕ, zero, suc, ◌+◌, ◌%◌, ◌^◌, Bool, true, false, Option, Some, None, IfSome, List, [], ◌∷◌, length, slice_get, slice_index_or, Result, Ok, Err, refl}
use Rattle.std.specs.List.{All}
use Rattle.std.proofs.Common.{cond, arith, sym, ap, ◌∙◌, subst}
use Rattle.std.proofs.lemmas.Bool.{eq-eqb}
use Rattle.its_word.specs.Core.{Core, can_store, word_at}
use Rattle.its_word.specs.declared.access.Fault.{Fault}
use Rattle.its_records.specs.declared.calls.Ask.{Ask}
use Rattle.its_records.specs.declared.calls.Operand.{Operand}
use Rattle.its_records.specs.declared.calls.Site.{Site}
use Rattle.its_word.specs.declared.instruction.Instruction.{Instruction}
use Rattle.its_word.specs.declared.instruction.Instruction.TheVariants as instructions
use Rattle.its_records.specs.declared.jobs.Job.{Job}
use Rattle.its_word.specs.declared.plan.Context.{Context}
use Rattle.its_word.specs.declared.plan.Reached.{Reached}
use Rattle.its_frame.specs.declared.name.CallName.{CallName}
use Rattle.its_frame.specs.declared.name.CallName.TheVariants.{Sleep, Iot, Siot}
use Rattle.its_frame.proofs.NameLaws.{named}
use Rattle.its_plain.specs.Call.Arguments.{value_in, place_in, input, place_of_input}
use Rattle.its_plain.specs.Call.Decide.{call_row, call_named}
use Rattle.its_plain.specs.Call.Decode.{ask, iot_ask, row_by, row_named}
use Rattle.its_plain.specs.Call.Footprint.{among, times, in_footprint, variable, Stands}
use Rattle.its_plain.specs.Call.Tests.{number_at, out}
use Rattle.its_plain.specs.Unit.{Called, done_by, outcome_at, reached, row_of, site_of, unit}
use Rattle.its_plain.proofs.AskFacts.{Storable, HasWord, AskFits, ask_fits, ask_counts}
use Rattle.its_plain.proofs.AskLaws.{iot_of}
use Rattle.its_plain.proofs.FitsLaws.{reached_ends, site_used}
use Rattle.its_plain.proofs.SiteLaws.{never_planned}
use Rattle.its_plain.proofs.StandLaws.{inputs_at, inputs_at_cons, inputs_few, is_at, stands_outside, times_cons, times_none}
use Rattle.its_plain.proofs.TransferLaws.{among_inputs, counted_stands, first_at, more_at, once_from, outside_from, sleep_stands}
use Rattle.its_stepped.specs.Sound.{Stored}
use Rattle.its_stepped.specs.Calling.{Transfer, Decoding}

-- an address allows a store
stored_at : (c : Core) (p w : ℕ) → Storable c p → Stored c (record { at = p; word = w } ∷ [])
stored_at c p w h =
    let e : p % 2 ^ 18 ≡ p = let b = h.below in omega arith in
    (ap (can_store c) e ∙ h.can, tt)

error_stored : (c : Core) (o : Option ℕ) (w : ℕ) → IfSome o (Storable c) → Stored c (number_at o w)
error_stored c (Some p) w h = stored_at c p w h
error_stored c None w h = tt

out_stored : (c : Core) (ps : List ℕ) (w : ℕ) → All (Storable c) ps → Stored c (out ps w)
out_stored c [] w h = tt
out_stored c (p ∷ ps) w h = stored_at c p w (h 0 p (omega arith))

fitted : (c : Core) (j : Job) (s : Site) (a : Ask) → Stands c j s a → AskFits c s a
fitted c j s a h = ask_fits c s a (site_used c j s h.unit_is) h.ask_is

-- a call of the name of `.IOT` is one by the instruction alone
iot_named : (c : Core) (s : Site) (a : Ask) (n : ℕ) → s.channel ≡ Some n → ask c s ≡ Ok a → call_named a.name ≡ Some Iot
unfolding iot_ask
iot_named c s a n h e = ap (λ (k : Ask). call_named k.name) (sym (iot_of c s n a h e)) ∙ named Iot

by_block : (c : Core) (s : Site) (a : Ask) → call_named a.name ≢ Some Iot → ask c s ≡ Ok a → s.channel ≡ None
by_block c s a n e = go s.channel refl
  where
    go : (o : Option ℕ) → s.channel ≡ o → s.channel ≡ None
    go (Some k) h = absurd (n (iot_named c s a k h e))
    go None h = h

-- places of inputs are addresses, and contain their values
abbrev WordAt : Core → ℕ → ℕ → Type 0
WordAt c p v = (p < 2 ^ 18) × (word_at c p ≡ Some v)

placed : (c : Core) (o : Operand) (p : ℕ) → HasWord c o → o.place ≡ Some p → WordAt c p o.value
placed c o p h e = go o.place h e
  where
    go : (q : Option ℕ) → IfSome q (λ x. WordAt c x o.value) → q ≡ Some p → WordAt c p o.value
    go (Some x) g i = let k : x ≡ p = cc in subst (λ (y : ℕ). WordAt c y o.value) k g
    go None g i = cc

input_placed : (c : Core) (os : List Operand) (k p : ℕ) → All (HasWord c) os → place_in (slice_get os k) ≡ Some p → WordAt c p (value_in (slice_get os k))
input_placed c [] k p h e = cc
input_placed c (o ∷ os) zero p h e = placed c o p (h 0 o (omega arith)) e
input_placed c (o ∷ os) (suc k) p h e = input_placed c os k p (λ i d l. h (suc i) d (omega arith)) e

-- the value of an argument that has a place is the word there
pub input_word : (c : Core) (j : Job) (s : Site) (a : Ask) (k p : ℕ) → Stands c j s a → place_of_input a k ≡ Some p → word_at c p ≡ Some (input a k)
input_word c j s a k p h e = (input_placed c a.inputs.items k p (fitted c j s a h).inputs e).1

-- the row of a call that a block names
row_is : (w : ℕ) (n : CallName) → n ≢ Iot → call_named w ≡ Some n → row_named w ≡ Some (call_row n)
unfolding row_named
row_is w n ne e = ap row_by e ∙ by n ne
  where
    by : (n : CallName) → n ≢ Iot → row_by (Some n) ≡ Some (call_row n)
    by Iot ne = absurd (ne refl)
    by _ ne = refl

-- the one argument of SLEEP
one_input : (os : List Operand) (p : ℕ) → 1 ≤ length os → length os ≤ 1 → place_in (slice_get os 0) ≡ Some p → (v : ℕ) × (os ≡ variable v p ∷ [])
one_input [] p l m e = absurd (omega arith)
one_input (o ∷ []) p l m e = (o.value, λ t. record { value = o.value; place = e t } ∷ [])
one_input (o ∷ x ∷ os) p l m e = absurd (omega arith)

sleeper : (c : Core) (s : Site) (a : Ask) (p : ℕ) → ask c s ≡ Ok a → call_named a.name ≡ Some Sleep → a.fail ≡ 0 → place_of_input a 0 ≡ Some p
    → (v : ℕ) × (a.inputs.items ≡ variable v p ∷ [])
sleeper c s a p e n z h =
    let block = by_block c s a (λ i. let k : Some Iot ≡ Some Sleep = sym i ∙ n in cc) e in
    let counts = ask_counts c s a (call_row Sleep) block e (row_is a.name Sleep (λ i. cc) n) z in
    one_input a.inputs.items p counts.least_in counts.most_in h

-- the three arguments of SIOT
three_inputs : (a : Ask) (os : List Operand) (p q : ℕ) → a.inputs.items ≡ os → length os ≡ 3 → place_in (slice_get os 1) ≡ Some p
    → place_in (slice_get os 2) ≡ Some q → Transfer a p q
three_inputs a [] p q is l e f = absurd (omega arith)
three_inputs a (x ∷ []) p q is l e f = absurd (omega arith)
three_inputs a (x ∷ y ∷ []) p q is l e f = absurd (omega arith)
three_inputs a (x ∷ y ∷ z ∷ []) p q is l e f = record {
  channel = x;
  pointer = y.value;
  count = z.value;
  inputs = is ∙ (λ t. x ∷ record { value = y.value; place = e t } ∷ record { value = z.value; place = f t } ∷ []);
}
three_inputs a (x ∷ y ∷ z ∷ o ∷ os) p q is l e f = absurd (omega arith)

pub siot_inputs : (c : Core) (s : Site) (a : Ask) → ask c s ≡ Ok a → call_named a.name ≡ Some Siot → a.fail ≡ 0 → length a.inputs.items ≡ 3
siot_inputs c s a e n z =
    let block = by_block c s a (λ t. let k : Some Iot ≡ Some Siot = sym t ∙ n in cc) e in
    let counts = ask_counts c s a (call_row Siot) block e (row_is a.name Siot (λ t. cc) n) z in
    let least : 3 ≤ length a.inputs.items = counts.least_in in
    let most : length a.inputs.items ≤ 3 = counts.most_in in
    omega arith

mover : (c : Core) (s : Site) (a : Ask) (p q : ℕ) → ask c s ≡ Ok a → call_named a.name ≡ Some Siot → a.fail ≡ 0
    → place_of_input a 1 ≡ Some p → place_of_input a 2 ≡ Some q → Transfer a p q
mover c s a p q e n z h i = three_inputs a a.inputs.items p q refl (siot_inputs c s a e n z) h i

-- the output address of `.IOT` is that of its site
done_placed : (c : Core) (j : Job) (reads : List ℕ) (x : Context) (i : Instruction) (s : Site) → x.e < 2 ^ 18
    → done_by c j reads x i ≡ Called s → s.e < 2 ^ 18
unfolding done_by
done_placed c j reads x instructions.Iot s h e = let is : site_of x (Some x.a) reads ≡ s = cc in subst (λ (t : Site). t.e < 2 ^ 18) is h
done_placed c j reads x instructions.Call s h e = let is : site_of x None reads ≡ s = cc in subst (λ (t : Site). t.e < 2 ^ 18) is h
done_placed c j reads x i s h e = absurd (never_planned c j (row_of c x i) s e)

outcome_placed : (c : Core) (j : Job) (reads : List ℕ) (r : Result Reached Fault) (s : Site)
    → ((q : Reached) → r ≡ Ok q → q.context.e < 2 ^ 18) → outcome_at c j reads r ≡ Called s → s.e < 2 ^ 18
outcome_placed c j reads (Ok r) s h e = done_placed c j reads r.context r.instruction s (h r refl) e
outcome_placed c j reads (Err f) s h e = cc

site_placed : (c : Core) (j : Job) (s : Site) → unit c j ≡ Called s → s.e < 2 ^ 18
unfolding unit
site_placed c j s e = outcome_placed c j (reached c j).reads (reached c j).answer s (λ q h. (reached_ends c j q h).e) e

abbrev AtAddress : Ask → Type 0
AtAddress a = slice_index_or a.outputs.items 0 0 % 2 ^ 18 ≡ slice_index_or a.outputs.items 0 0

iot_address : (s : Site) (n : ℕ) → s.e < 2 ^ 18 → AtAddress (iot_ask s n)
unfolding iot_ask
iot_address s n h = omega arith

first_address : (c : Core) (ps : List ℕ) → All (Storable c) ps → slice_index_or ps 0 0 % 2 ^ 18 ≡ slice_index_or ps 0 0
first_address c [] h = refl
first_address c (p ∷ ps) h = let b = (h 0 p (omega arith)).below in omega arith

out_address : (c : Core) (j : Job) (s : Site) (a : Ask) → Stands c j s a → AtAddress a
out_address c j s a h = go s.channel refl
  where
    go : (o : Option ℕ) → s.channel ≡ o → AtAddress a
    go (Some n) e = subst AtAddress (iot_of c s n a e h.ask_is) (iot_address s n (site_placed c j s h.unit_is))
    go None e = first_address c a.outputs.items ((fitted c j s a h).outputs e)

-- places of inputs are words of the footprint
at_here : (p : ℕ) (o : Operand) → o.place ≡ Some p → is_at p o.place ≡ true
at_here p o e = ap (is_at p) e ∙ eq-eqb p p refl

at_input : (os : List Operand) (k p : ℕ) → place_in (slice_get os k) ≡ Some p → 1 ≤ inputs_at p os
at_input [] k p e = cc
at_input (o ∷ os) zero p e = let i = inputs_at_cons p o os in let r = rw (at_here p o e) at i in omega arith
at_input (o ∷ os) (suc k) p e = let r = at_input os k p e in let m = more_at p o os in omega arith

among_times : (p : ℕ) (ps : List ℕ) → 1 ≤ times p ps → among p ps ≡ true
among_times p [] h = absurd (let z = times_none p in omega arith)
among_times p (q ∷ qs) h = go (q == p) (times_cons p q qs) (λ l. among_times p qs l)
  where
    go : (b : Bool) → times p (q ∷ qs) ≡ cond b 1 0 + times p qs → (1 ≤ times p qs → among p qs ≡ true) → (b || among p qs) ≡ true
    go true e rest = refl
    go false e rest = rest (omega (arith, e, h))

or_true : (b c : Bool) → c ≡ true → (b || c) ≡ true
or_true true c h = refl
or_true false c h = h

known : (c : Core) (s : Site) (a : Ask) (k p : ℕ) → ask c s ≡ Ok a → place_of_input a k ≡ Some p → in_footprint p a ≡ true
unfolding in_footprint
known c s a k p e h =
    let one = at_input a.inputs.items k p h in
    let few = inputs_few c s a p e in
    or_true (among p a.decode.items) (among p a.operand.items) (among_times p a.operand.items (omega arith))

pub decoding : Decoding
decoding = record {
  fetched = λ c j s a h. let f = fitted c j s a h in record {
    error = λ w. error_stored c a.error w f.error;
    output = λ n w. out_stored c a.outputs.items w (f.outputs (by_block c s a n h.ask_is));
    address = out_address c j s a h;
    input = λ k p e. let b = (input_placed c a.inputs.items k p f.inputs e).0 in omega arith;
    known = λ k p e. known c s a k p h.ask_is e;
    sleeper = λ p n z e. sleeper c s a p h.ask_is n z e;
    mover = λ p q n z e i. mover c s a p q h.ask_is n z e i;
  };
  slept = λ c j s a p v w h one alone can.
      sleep_stands c j s a v p w h one
      (once_from c s a p h.ask_is (let l = ap (inputs_at p) one ∙ first_at p v [] in omega arith) alone) can;
  spared = λ c j s a p w h out. stands_outside c j s a p w h (outside_from p a out);
  moved = λ c j s a x v p k q w n h is first second can write.
      counted_stands c j s a x v p k q w n h is
      (once_from c s a p h.ask_is (let i = ap (inputs_at p) is in let l = among_inputs p v (x ∷ []) (variable k q ∷ []) in omega arith) first)
      (once_from c s a q h.ask_is (let i = ap (inputs_at q) is in let l = among_inputs q k (x ∷ variable v p ∷ []) [] in omega arith) second) can write;
}
