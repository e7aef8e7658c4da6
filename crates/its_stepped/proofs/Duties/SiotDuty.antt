-- SIOT does its duty: pointer and count are pending with each byte, and the byte's word is outside
-- the footprint.
use Rattle.std.specs.Prelude.{◌||◌, ◌≡◌, ◌≤◌, ℕ, zero, suc, ◌+◌, ◌-◌, ◌%◌, ◌^◌, Bool, true, false, not, Option, Some, None, IfSome, List, [], ◌∷◌, ◌++◌, length, take, drop, slice_get, is_some, unwrap_or, refl}
use Rattle.std.proofs.Common.{◌∙◌, ap, subst, sym, arith, inl, inr}
use Rattle.std.proofs.lemmas.Bool.{cases_eq, not-false, or_parts}
use Rattle.its_word.specs.Byte.{has_size, load_of}
use Rattle.its_word.specs.Core.{Core, can_store, store}
use Rattle.its_word.specs.Word.{right_of}
use Rattle.its_word.proofs.CoreLaws.{can_store-store}
use Rattle.its_word.specs.declared.access.Fault.TheVariants.{Mpv, Wro}
use Rattle.its_records.specs.declared.calls.Ask.{Ask}
use Rattle.its_records.specs.declared.calls.Operand.{Operand}
use Rattle.its_records.specs.declared.calls.Site.{Site}
use Rattle.its_word.specs.declared.plan.Store.{Store}
use Rattle.its_frame.specs.declared.change.Change.{Change}
use Rattle.its_frame.specs.declared.change.Change.TheVariants as changes
use Rattle.its_frame.specs.declared.decision.Decision.{Decision}
use Rattle.its_frame.specs.declared.decision.Decision.TheVariants.{Waits}
use Rattle.its_frame.specs.declared.decision.Held.{Held}
use Rattle.its_frame.specs.declared.decision.Wait.TheVariants.{Input, Output}
use Rattle.its_frame.specs.declared.name.CallName.{CallName}
use Rattle.its_frame.specs.declared.name.CallName.TheVariants.{Siot}
use Rattle.its_plain.specs.Call.Arguments.{store_of, stores_of, operands_with_values, input, place_in, place_of_input, in_footprint, is_shared, debts, with_new_values}
use Rattle.its_plain.specs.Call.Basic.{shared_place, read_only}
use Rattle.its_plain.specs.Call.Step.{with_held}
use Rattle.its_plain.specs.Call.Tty.{view_console, input_waits, output_waits, first_typed, shown_byte, siot_in, siot_out}
use Rattle.its_plain.specs.Call.Transfer.{store_tests, read_tests, word_of, is_indexed, next_pointer, siot_tests, siot_by}
use Rattle.its_plain.specs.Call.File.{is_full, channels_in, siot_read, siot_reads, siot_write, siot_writes}
use Rattle.its_plain.specs.Call.Decide.{call_named}
use Rattle.its_plain.specs.Call.Footprint.{variable, with_inputs}
use Rattle.its_plain.specs.Machine.{File, Whole, Machine}
use Rattle.its_plain.specs.Call.Tests.{Test, ◌⇒◌, first, fails, goes}
use Rattle.its_plain.specs.Machine.View.{View}
use Rattle.its_word.specs.Stores.{stored}
use Rattle.its_stepped.specs.State.{State}
use Rattle.its_stepped.specs.Tick.{makes_page}
use Rattle.its_stepped.specs.Sound.{Stands, Stored, most_owed_by, most_owed, Transfers}
use Rattle.its_stepped.specs.Quiet.{AllQuiet}
use Rattle.its_stepped.specs.Duty.{AllSpare, parts_in, Apart, Within, HeldFits, Going, Duty}
use Rattle.its_stepped.specs.Calling.{Transfer, Fetched, Decoding, Calling}
use Rattle.its_stepped.proofs.Frame.DebtLaws.{debts_none}
use Rattle.its_stepped.proofs.Committing.TestLaws.{EachStops, first_holds, no_page, fails_duty, faults_duty, nothing_duty}
use Rattle.its_stepped.proofs.Duties.TtyDuty.{named_waits}
use Rattle.its_stepped.proofs.Duties.CallDuties.{named_same}
use Rattle.its_plain.proofs.SizeLaws.{next_sized}

-- a word outside the footprint is apart from the words that are pending
abbrev KnownIn : Ask → List Operand → Type 0
KnownIn a os = (k p : ℕ) → place_in (slice_get os k) ≡ Some p → (p % 2 ^ 18 ≡ p) × (in_footprint p a ≡ true)

apart_here : (a : Ask) (b : ℕ) (o : Option ℕ) (v : ℕ) (ss : List Store) → in_footprint b a ≡ false
    → ((p : ℕ) → o ≡ Some p → (p % 2 ^ 18 ≡ p) × (in_footprint p a ≡ true))
    → Apart b ss → Apart b (store_of (record { value = v; place = o }) ss)
apart_here a b (Some p) v ss out h rest = (
  λ e. let k = h p refl in let same : p ≡ b = sym k.0
      ∙ e in let t : in_footprint b a ≡ true = subst (λ (i : ℕ). in_footprint i a ≡ true) same k.1 in cc,
  rest,
)
apart_here a b None v ss out h rest = rest

apart_of : (a : Ask) (b : ℕ) (os : List Operand) → in_footprint b a ≡ false → KnownIn a os → Apart b (stores_of os)
apart_of a b [] out h = tt
apart_of a b (o ∷ os) out h = apart_here a b o.place o.value (stores_of os) out (λ p e. h 0 p e) (apart_of a b os out (λ k p e. h (suc k) p e))

known_dropped : (a : Ask) (i : ℕ) (os : List Operand) → KnownIn a os → KnownIn a (drop i os)
known_dropped a zero os h = h
known_dropped a (suc i) [] h = h
known_dropped a (suc i) (o ∷ os) h = known_dropped a i os (λ k p e. h (suc k) p e)

pub debts_apart : (c : Core) (a : Ask) (n b : ℕ) → Fetched c a → in_footprint b a ≡ false → Apart b (debts a n)
unfolding debts
debts_apart c a n b f out =
    let i = length a.inputs.items - n in
    apart_of a b (drop i a.inputs.items) out (known_dropped a i a.inputs.items (λ k p e. (f.input k p e, f.known k p e)))

-- pointer and count as they are pending
abbrev two : ℕ → ℕ → ℕ → ℕ → List Store
two p v q k = record { at = p; word = v } ∷ record { at = q; word = k } ∷ []

debts_two : (a : Ask) (x : Operand) (p v q k : ℕ) → a.inputs.items ≡ x ∷ variable v p ∷ variable k q ∷ [] → debts a 2 ≡ two p v q k
unfolding debts
debts_two a x p v q k e = ap (λ xs. stores_of (drop (length xs - 2) xs)) e

debts_one : (a : Ask) (x : Operand) (p v q k : ℕ) → a.inputs.items ≡ x ∷ variable v p ∷ variable k q ∷ [] → debts a 1 ≡ record { at = q; word = k } ∷ []
unfolding debts
debts_one a x p v q k e = ap (λ xs. stores_of (drop (length xs - 1) xs)) e

two_valued : (a : Ask) (x : Operand) (p v q k w n : ℕ) → a.inputs.items ≡ x ∷ variable v p ∷ variable k q ∷ []
    → with_new_values a (w ∷ n ∷ []) ≡ with_inputs a (x ∷ variable w p ∷ variable n q ∷ [])
unfolding with_new_values
two_valued a x p v q k w n e = ap (λ xs. record a {
  inputs = record
      { items = take (length xs - 2) xs ++ operands_with_values (drop (length xs - 2) xs) (w ∷ n ∷ []) };
}) e

siot_owes : (a : Ask) → call_named a.name ≡ Some Siot → most_owed a ≡ 2
unfolding most_owed
siot_owes a e = ap most_owed_by e

within_two : (a : Ask) (x : Operand) (n p v q k w i : ℕ) → n ≤ 2 → a.inputs.items ≡ x ∷ variable v p ∷ variable k q ∷ [] → Within (debts a n) (two p w q i)
within_two a x n p v q k w i few e = elim (cases_eq n 0) [
  | inl z ↦ subst (λ (ss : List Store). Within ss (two p w q i)) (sym (ap (debts a) z ∙ debts_none a)) tt
  | inr ne ↦ elim (cases_eq n 1) [
    | inl one ↦ subst (λ (ss : List Store). Within ss (two p w q i)) (sym (ap (debts a) one ∙ debts_one a x p v q k e)) (inr (inl refl), tt)
    | inr more ↦
        let both : n ≡ 2 = omega arith in
        subst (λ (ss : List Store). Within ss (two p w q i)) (sym (ap (debts a) both ∙ debts_two a x p v q k e)) (inl refl, (inr (inl refl), tt))
  ]
]

stored_two : (c : Core) (p v q k : ℕ) → p % 2 ^ 18 ≡ p → q % 2 ^ 18 ≡ q → stored c (two p v q k) ≡ store (store c p v) q k
unfolding stored
stored_two c p v q k e f = ap (λ (i : ℕ). store (store c i v) (q % 2 ^ 18) k) e ∙ ap (λ (i : ℕ). store (store c p v) i k) f

-- what its tests say of pointer and count, if its decoding gave no error
pub record Moving (c : Core) (a : Ask) : Type 0 where
  p : ℕ
  q : ℕ
  args : Transfer a p q
  pointer_at : p % 2 ^ 18 ≡ p
  count_at : q % 2 ^ 18 ≡ q
  pointer_alone : is_shared p a ≡ false
  count_alone : is_shared q a ≡ false
  pointer_can : can_store c p ≡ true
  count_can : can_store c q ≡ true
  no_error : a.fail ≡ 0

moving_by : (c : Core) (a : Ask) (o r : Option ℕ) → Fetched c a → call_named a.name ≡ Some Siot → a.fail ≡ 0 → place_of_input a 1 ≡ o → place_of_input a 2 ≡ r
    → (shared_place a o || shared_place a r) ≡ false → (read_only c o || read_only c r) ≡ false → Moving c a
moving_by c a None r f e z i k alone can = absurd cc
moving_by c a (Some p) None f e z i k alone can = let n = (or_parts (is_shared p a) true alone).1 in absurd cc
moving_by c a (Some p) (Some q) f e z i k alone can =
    let apart = or_parts (is_shared p a) (is_shared q a) alone in
    let write = or_parts (not (can_store c p)) (not (can_store c q)) can in
    record {
      p = p;
      q = q;
      args = f.mover p q e z i k;
      pointer_at = f.input 1 p i;
      count_at = f.input 2 q k;
      pointer_alone = apart.0;
      count_alone = apart.1;
      pointer_can = not-false (can_store c p) write.0;
      count_can = not-false (can_store c q) write.1;
      no_error = z;
    }

-- a held byte's word is outside the footprint, and allows a store
record HeldOutside (c : Core) (a : Ask) (b : Held) : Type 0 where
  placed : b.place % 2 ^ 18 ≡ b.place
  outside : in_footprint b.place a ≡ false
  can : can_store c b.place ≡ true

held_fits : (c : Core) (a : Ask) (n : ℕ) (h : Option Held) → Fetched c a → IfSome h (HeldOutside c a) → IfSome h (λ b. HeldFits c (debts a n) 2 b)
held_fits c a n None f o = tt
held_fits c a n (Some b) f o = record { two = refl; placed = o.placed; can = o.can; apart = debts_apart c a n b.place f o.outside }

-- the core with a held byte stored
record Behind (c d : Core) (q : Whole) (s : Site) (a : Ask) : Type 0 where
  stands : Stands d q.job s a
  can : (p : ℕ) → can_store d p ≡ can_store c p

behind_store : (d : Decoding) (q : Whole) (s : Site) (a : Ask) (b w : ℕ) → Stands q.core q.job s a → b % 2 ^ 18 ≡ b → in_footprint b a ≡ false
    → Behind q.core (stored q.core (record { at = b; word = w } ∷ [])) q s a
unfolding stored
behind_store d q s a b w h e out = record {
  stands = subst (λ (i : ℕ). Stands (store q.core i w) q.job s a) (sym e) (d.spared q.core q.job s a b w h out);
  can = λ p. can_store-store q.core (b % 2 ^ 18) p w;
}

behind_held : (d : Decoding) (q : Whole) (s : Site) (a k : Ask) (h : Option Held) → Stands q.core q.job s a
    → IfSome h (HeldOutside q.core a) → Behind q.core (with_held k h q).core q s a
behind_held d q s a k None st o = record { stands = st; can = λ p. refl }
behind_held d q s a k (Some b) st o = behind_store d q s a b.place _ st o.placed o.outside

-- the part of a call
siot_goes : (d : Decoding) (m : Machine) (v : State) (j : ℕ) (x : View) (s : Site) (a : Ask) (n : ℕ) (cs : List Change) (h : Option Held)
    (w i : ℕ) → Calling m v j x.own s a n
    → call_named a.name ≡ Some Siot → Moving x.own.core a → AllQuiet cs j v → AllSpare cs j v → parts_in cs ≡ 0
    → IfSome h (HeldOutside x.own.core a) → has_size w ≡ true
    → Going v j x.own s a n cs h (w ∷ i ∷ [])
siot_goes d m v j x s a n cs h w i c e t quiet spare parts o sized =
    let g = t.args in
    let operands_with_values : with_new_values a (w ∷ i ∷ []) ≡ with_inputs a (g.channel ∷ variable w t.p ∷ variable i t.q ∷ []) =
    two_valued a g.channel t.p g.pointer t.q g.count w i g.inputs in
    let owed : debts (with_new_values a (w ∷ i ∷ [])) 2 ≡ two t.p w t.q i =
    ap (λ (k : Ask). debts k 2) operands_with_values ∙ debts_two (with_inputs a (g.channel ∷ variable w t.p ∷ variable i t.q ∷ []))
    g.channel t.p w t.q i refl in
    let few : n ≤ 2 = (let f = c.debts.few in let l = siot_owes a e in omega arith) in
    let same : most_owed (with_new_values a (w ∷ i ∷ [])) ≡ 2 = siot_owes (with_new_values a (w ∷ i ∷ [])) (ap call_named (named_same a (w ∷ i ∷ [])) ∙ e) in
    let base : Core = (with_held (with_new_values a (w ∷ i ∷ [])) h x.own).core in
    let behind : Behind x.own.core base x.own s a = behind_held d x.own s a (with_new_values a (w ∷ i ∷ [])) h c.stands o in
    record {
      quiet = quiet;
      spare = spare;
      closes = parts;
      page = no_page m v j x.own s a n c (ap (λ (k : Option CallName). makes_page k (input a 0)) e);
      within = subst (λ (ss : List Store). Within (debts a n) ss) (sym owed) (within_two a g.channel n t.p g.pointer t.q g.count w i few g.inputs);
      held = held_fits x.own.core a n h c.fetched o;
      transfers = transfers_with h;
      outside = outside_of h o;
      size = sized_by h (ap (λ (k : Ask). has_size (input k 1)) operands_with_values ∙ sized);
      debts = record {
        few = omega arith;
        read = ap (λ (ss : List Store). length ss) owed;
        stored = subst (λ (ss : List Store). Stored x.own.core ss) (sym owed)
            (ap (can_store x.own.core) t.pointer_at ∙ t.pointer_can, (ap (can_store x.own.core) t.count_at ∙ t.count_can, tt));
      };
      stands = subst (λ (k : Core). Stands k x.own.job s (with_new_values a (w ∷ i ∷ [])))
          (sym (ap (stored base) owed ∙ stored_two base t.p w t.q i t.pointer_at t.count_at))
          (subst (λ (k : Ask). Stands (store (store base t.p w) t.q i) x.own.job s k) (sym operands_with_values)
          (d.moved base x.own.job s a g.channel g.pointer t.p g.count t.q w i behind.stands g.inputs t.pointer_alone t.count_alone
          (behind.can t.p ∙ t.pointer_can) (behind.can t.q ∙ t.count_can)));
    }
  where
    sized_by : (h : Option Held) → has_size (input (with_new_values a (w ∷ i ∷ [])) 1) ≡ true
        → IfSome h (λ b. has_size (input (with_new_values a (w ∷ i ∷ [])) 1) ≡ true)
    sized_by None k = tt
    sized_by (Some b) k = k

    transfers_with : (h : Option Held) → IfSome h (λ b. Transfers a)
    transfers_with None = tt
    transfers_with (Some b) = record { siot = e; no_error = t.no_error }

    outside_of : (h : Option Held) → IfSome h (HeldOutside x.own.core a) → IfSome h (λ b. in_footprint b.place a ≡ false)
    outside_of None k = tt
    outside_of (Some b) k = k.outside

-- a byte is stored after the tests of its word and those of its device, or is loaded after them
pub siot_stores : (d : Decoding) (m : Machine) (v : State) (j : ℕ) (x : View) (s : Site) (a : Ask) (n : ℕ) (ts : List Test)
    (cs : List Change) (w b i : ℕ) → Calling m v j x.own s a n
    → call_named a.name ≡ Some Siot → Moving x.own.core a → has_size w ≡ true → in_footprint (right_of w) a ≡ false → AllQuiet cs j v
    → AllSpare cs j v → parts_in cs ≡ 0
    → EachStops (Duty v j x.own s a n) ts
    → Duty v j x.own s a n (first (store_tests x (right_of w) ++ ts) (goes cs (Some (record { place = right_of w; byte = b })) (w ∷ i ∷ [])))
siot_stores d m v j x s a n ts cs w b i c e t sized out quiet spare parts each =
    first_holds (Duty v j x.own s a n) (store_tests x (right_of w) ++ ts) (goes cs (Some (record { place = right_of w; byte = b })) (w ∷ i ∷ []))
    (λ t. faults_duty m v j x s a n Mpv c, (λ t. faults_duty m v j x s a n Wro c, each))
    (λ r. siot_goes d m v j x s a n cs (Some (record { place = right_of w; byte = b })) w i c e t quiet spare parts
    (record { placed = omega arith; outside = out; can = not-false (can_store x.own.core (right_of w)) r.1.0 }) sized)

pub siot_loads : (d : Decoding) (m : Machine) (v : State) (j : ℕ) (x : View) (s : Site) (a : Ask) (n : ℕ) (ts : List Test)
    (cs : List Change) (w i : ℕ) → Calling m v j x.own s a n
    → call_named a.name ≡ Some Siot → Moving x.own.core a → has_size w ≡ true → AllQuiet cs j v → AllSpare cs j v → parts_in cs ≡ 0
    → EachStops (Duty v j x.own s a n) ts
    → Duty v j x.own s a n (first (read_tests x (right_of w) ++ ts) (goes cs None (w ∷ i ∷ [])))
siot_loads d m v j x s a n ts cs w i c e t sized quiet spare parts each =
    first_holds (Duty v j x.own s a n) (read_tests x (right_of w) ++ ts) (goes cs None (w ∷ i ∷ [])) (λ t. faults_duty m v j x s a n Mpv c, each)
    (λ r. siot_goes d m v j x s a n cs None w i c e t quiet spare parts tt sized)

-- after the tests of its arguments: whether words alone are moved, and whether there is none left,
-- depends on the device
pub siot_by_duty : (m : Machine) (v : State) (j : ℕ) (x : View) (s : Site) (a : Ask) (n : ℕ) (words ended : Bool) (moves : Decision)
    → Calling m v j x.own s a n
    → call_named a.name ≡ Some Siot → a.fail ≡ 0
    → (Moving x.own.core a → has_size (next_pointer (input a 1)) ≡ true → in_footprint (right_of (next_pointer (input a 1))) a ≡ false
    → Duty v j x.own s a n moves)
    → Duty v j x.own s a n (siot_by x a words ended moves)
siot_by_duty m v j x s a n words ended moves c e z h =
    let fails = λ (k : ℕ). fails_duty m v j x s a n k c in
    let nothing = nothing_duty m v j x s a n c in
    first_holds (Duty v j x.own s a n) (siot_tests x a (input a 1) (input a 2) words ended) moves (
      λ t. fails 0o17,
      (
        λ t. faults_duty m v j x s a n Wro c,
        (λ t. fails 0o21, (λ t. fails 0o21, (λ t. fails 0o22, (λ t. nothing, (λ t. nothing, (λ t. fails 0o20, tt)))))),
      ),
    )
    (λ t. h (moving_by x.own.core a (place_of_input a 1) (place_of_input a 2) c.fetched e z refl refl t.0 t.1.0)
    (next_sized (input a 1) (not-false (has_size (input a 1)) (or_parts (not (has_size (input a 1))) (is_indexed (input a 1)) t.1.1.0).0))
    t.1.1.1.1.1.1.1.0)

-- a console
pub siot_in_duty : (d : Decoding) (m : Machine) (v : State) (j : ℕ) (x : View) (s : Site) (a : Ask) (n : ℕ) → Calling m v j x.own s a n
    → call_named a.name ≡ Some Siot → a.fail ≡ 0
    → let moves = siot_in x a (next_pointer (input a 1)) (input a 2) (view_console x) in Duty v j x.own s a n (siot_by x a false false moves)
siot_in_duty d m v j x s a n c e z =
    let i = view_console x in
    siot_by_duty m v j x s a n false false (siot_in x a (next_pointer (input a 1)) (input a 2) i) c e z
    (λ t sized out. siot_stores d m v j x s a n (input_waits x i ⇒ Waits (Input i) ∷ []) (changes.Take i ∷ []) (next_pointer (input a 1))
    (first_typed x i) (input a 2 - 1) c e t sized out (tt, tt) (tt, tt)
    refl (λ t. named_waits m v j x s a n Siot c e refl tt, tt))

pub siot_out_duty : (d : Decoding) (m : Machine) (v : State) (j : ℕ) (x : View) (s : Site) (a : Ask) (n : ℕ) → Calling m v j x.own s a n
    → call_named a.name ≡ Some Siot → a.fail ≡ 0
    → let moves = siot_out x a (next_pointer (input a 1)) (input a 2) (view_console x) in Duty v j x.own s a n (siot_by x a false false moves)
siot_out_duty d m v j x s a n c e z =
    let i = view_console x in
    siot_by_duty m v j x s a n false false (siot_out x a (next_pointer (input a 1)) (input a 2) i) c e z
    (λ t sized out. siot_loads d m v j x s a n (output_waits x i ⇒ Waits (Output i) ∷ [])
    (changes.Put i (shown_byte (load_of (next_pointer (input a 1)) (word_of x (right_of (next_pointer (input a 1)))))) ∷ [])
    (next_pointer (input a 1)) (input a 2 - 1) c e t sized (tt, tt) (tt, tt) refl (λ t. named_waits m v j x s a n Siot c e refl tt, tt))

-- a file and a draft
pub siot_reads_duty : (d : Decoding) (m : Machine) (v : State) (j : ℕ) (x : View) (s : Site) (a : Ask) (n i at : ℕ) (o : Option ℕ) → Calling m v j x.own s a n
    → call_named a.name ≡ Some Siot → a.fail ≡ 0 → Duty v j x.own s a n (siot_reads x a i at o)
siot_reads_duty d m v j x s a n i at o c e z =
    siot_by_duty m v j x s a n true (not (is_some o)) (siot_read x (next_pointer (input a 1)) (input a 2) i at (unwrap_or o 0)) c e z
    (λ t sized out. siot_stores d m v j x s a n [] (changes.Move i (at + 1) ∷ []) (next_pointer (input a 1)) (unwrap_or o 0) (input a 2 - 1)
    c e t sized out (tt, tt) (tt, tt) refl tt)

pub siot_writes_duty : (d : Decoding) (m : Machine) (v : State) (j : ℕ) (x : View) (s : Site) (a : Ask) (n i : ℕ) (f : File)
    → Calling m v j x.own s a n → call_named a.name ≡ Some Siot
    → a.fail ≡ 0 → Duty v j x.own s a n (siot_writes x a i f)
siot_writes_duty d m v j x s a n i f c e z =
    siot_by_duty m v j x s a n true false (siot_write x a (next_pointer (input a 1)) (input a 2) i f) c e z
    (λ t sized out. siot_loads d m v j x s a n (is_full x.files (channels_in x) f.words ⇒ fails x a 0o10 ∷ [])
    (changes.Append i (load_of (next_pointer (input a 1)) (word_of x (right_of (next_pointer (input a 1))))) ∷ [])
    (next_pointer (input a 1)) (input a 2 - 1) c e t sized (tt, tt) (tt, tt) refl
    (λ t. fails_duty m v j x s a n 0o10 c, tt))
