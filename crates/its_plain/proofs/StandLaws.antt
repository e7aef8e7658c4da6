-- What a store leaves of a call that is still there. At the word of an input that is no other word
-- of the call it renews the value of that input; outside the footprint it leaves the call as it is.
use Rattle.std.proofs.Common.{◌≡◌, ◌≢◌, ◌<◌, ◌≤◌, ◌+◌, ◌==◌, ℕ, zero, suc, cond, Bool, true, false, List, [], ◌∷◌, ◌++◌, length, map, Option, Some, None, Ok, refl, sym, ◌∙◌, ap, inl, inr, slice_index_or, unwrap_or, arith}
use Rattle.std.specs.List.{Contains, count_by, filter_map}
use Rattle.std.proofs.lemmas.Bool.{cases_Bool, eqb-true, eq-eqb}
use Rattle.std.proofs.lemmas.List.{length-map}
use Rattle.std.proofs.lemmas.List.Sums.{sum_by-append, sum_by-cons}
use Rattle.its_word.specs.Core.{Core, word_at, can_store, store}
use Rattle.its_word.proofs.CoreLaws.{word_at-store_same, word_at-store_other, is_some-store, can_store-store}
use Rattle.its_records.specs.declared.calls.Arg.{Arg}
use Rattle.its_records.specs.declared.calls.Arg.TheVariants.{Input, Output, ErrorAt, Control}
use Rattle.its_records.specs.declared.calls.Ask.{Ask}
use Rattle.its_records.specs.declared.calls.Operand.{Operand}
use Rattle.its_records.specs.declared.calls.Site.{Site}
use Rattle.its_records.specs.declared.calls.Source.TheVariants.{Held, Immediate}
use Rattle.its_records.specs.declared.jobs.Job.{Job}
use Rattle.its_plain.specs.Call.Decode.{Shape, ask, ask_of, control_of, input_of, iot_ask, operand_of, held_place, shaped}
use Rattle.its_plain.specs.Call.Footprint.{Stands, times, with_inputs}
use Rattle.its_plain.proofs.Locality.{Agree, Alike, Words}
use Rattle.its_plain.proofs.SiteLaws.{site_same}
use Rattle.its_plain.proofs.AskLaws.{ask_of_is, ask_same, ask_with, asked_by_block, asked_by_iot, block_agrees, decode_iot, decode_of, decoded_of, inputs_is, iot_of, operand_is}

-- whether a place is p, and how many inputs have their word at p
abbrev pub is_at : ℕ → Option ℕ → Bool
is_at p (Some q) = q == p
is_at p None = false

unfoldable pub inputs_at : ℕ → List Operand → ℕ
inputs_at p xs = count_by (λ x. is_at p x.place) xs

pub inputs_at_none : (p : ℕ) → inputs_at p [] ≡ 0
unfolding inputs_at
inputs_at_none p = refl

pub inputs_at_cons : (p : ℕ) (x : Operand) (xs : List Operand) → inputs_at p (x ∷ xs) ≡ cond (is_at p x.place) 1 0 + inputs_at p xs
unfolding inputs_at
inputs_at_cons p x xs = sum_by-cons (λ x. cond (is_at p x.place) 1 0) x xs

pub inputs_at_append : (p : ℕ) (xs ys : List Operand) → inputs_at p (xs ++ ys) ≡ inputs_at p xs + inputs_at p ys
unfolding inputs_at
inputs_at_append p xs ys = sum_by-append (λ x. cond (is_at p x.place) 1 0) xs ys

pub times_none : (p : ℕ) → times p [] ≡ 0
unfolding times
times_none p = refl

pub times_cons : (p q : ℕ) (qs : List ℕ) → times p (q ∷ qs) ≡ cond (q == p) 1 0 + times p qs
unfolding times
times_cons p q qs = sum_by-cons (λ q. cond (q == p) 1 0) q qs

pub times_append : (p : ℕ) (xs ys : List ℕ) → times p (xs ++ ys) ≡ times p xs + times p ys
unfolding times
times_append p xs ys = sum_by-append (λ q. cond (q == p) 1 0) xs ys

-- an input whose value is renewed if its word is at p
abbrev pub renewed_value : ℕ → ℕ → ℕ → Option ℕ → ℕ
renewed_value p v old (Some q) = cond (q == p) v old
renewed_value p v old None = old

abbrev pub renew : ℕ → ℕ → Operand → Operand
renew p v x = record x { value = renewed_value p v x.value x.place }

abbrev pub renewed : ℕ → ℕ → Ask → Ask
renewed p v k = with_inputs k (map (renew p v) k.inputs.items)

-- a place that is no decode word and no control's word, so that only inputs have their word there
pub record Free (p : ℕ) (k : Ask) : Type 0 where
  pub decode : times p k.decode.items ≡ 0
  pub operand : times p k.operand.items ≤ inputs_at p k.inputs.items

-- a place outside the footprint, and one that is an operand's word once and no decode word
pub record Outside (p : ℕ) (k : Ask) : Type 0 where
  pub decode : times p k.decode.items ≡ 0
  pub operand : times p k.operand.items ≡ 0

pub record Once (p : ℕ) (k : Ask) : Type 0 where
  pub decode : times p k.decode.items ≡ 0
  pub operand : times p k.operand.items ≡ 1

-- a place that is not in a list
pub not_first : (p q : ℕ) (qs : List ℕ) → times p (q ∷ qs) ≡ 0 → (q ≢ p) × (times p qs ≡ 0)
not_first p q qs t =
    let c = times_cons p q qs in
    (λ e. let d : times p (q ∷ qs) ≡ 1 + times p qs = rw (eq-eqb q p e) at c in absurd (omega arith), omega arith)

pub apart : (p q : ℕ) (ps : List ℕ) → times p ps ≡ 0 → Contains ps q → q ≢ p
apart p q [] t i = λ e. absurd (omega (arith, i.1))
apart p q (x ∷ xs) t i = go (apart p q xs (not_first p x xs t).1) i.0 i.1 i.2
  where
    go : (Contains xs q → q ≢ p) → (k : ℕ) → k < length (x ∷ xs) → slice_index_or (x ∷ xs) k q ≡ q → q ≢ p
    go rest zero l h = λ e. (not_first p x xs t).0 (h ∙ e)
    go rest (suc k) l h = rest (k, omega (arith, l), h)

-- a store changes no test, and no word at another place
stored_alike : (c : Core) (p v q : ℕ) → Alike c (store c p v) q
stored_alike c p v q = record { there = is_some-store c p q v; stores = can_store-store c p q v }

pub stored_words : (c : Core) (p v : ℕ) (ps : List ℕ) → times p ps ≡ 0 → Words ps c (store c p v)
stored_words c p v ps t = record { same = λ q i. word_at-store_other c p q v (apart p q ps t i) }

pub stored_agrees : (c : Core) (p v : ℕ) (reads tests : List ℕ) → times p reads ≡ 0 → Agree reads tests c (store c p v)
stored_agrees c p v reads tests t = record { words = λ q i. word_at-store_other c p q v (apart p q reads t i); marks = λ q i. stored_alike c p v q }

-- the operand words are those of the inputs and those of the controls
is_control_at : ℕ → Arg → Bool
is_control_at p (Control s) = is_at p (held_place s)
is_control_at p _ = false

controls_at : ℕ → List Arg → ℕ
controls_at p xs = count_by (is_control_at p) xs

controls_at_none : (p : ℕ) → controls_at p [] ≡ 0
unfolding controls_at
controls_at_none p = refl

controls_at_cons : (p : ℕ) (x : Arg) (xs : List Arg) → controls_at p (x ∷ xs) ≡ cond (is_control_at p x) 1 0 + controls_at p xs
unfolding controls_at
controls_at_cons p x xs = sum_by-cons (λ x. cond (is_control_at p x) 1 0) x xs

counted : (c : Core) (p : ℕ) (xs : List Arg) → times p (filter_map operand_of xs) ≡ inputs_at p (filter_map (input_of c) xs) + controls_at p xs
unfolding is_control_at
counted c p [] = let t = times_none p in let i = inputs_at_none p in let n = controls_at_none p in omega arith
counted c p (Input (Held q) ∷ xs) =
    let r = counted c p xs in
    let t = times_cons p q (filter_map operand_of xs) in
    let i = inputs_at_cons p (record { value = unwrap_or (word_at c q) 0; place = Some q }) (filter_map (input_of c) xs) in
    let n = controls_at_cons p (Input (Held q)) xs in
    omega arith
counted c p (Input (Immediate v) ∷ xs) =
    let r = counted c p xs in
    let i = inputs_at_cons p (record { value = v; place = None }) (filter_map (input_of c) xs) in
    let n = controls_at_cons p (Input (Immediate v)) xs in
    omega arith
counted c p (Output q ∷ xs) = let r = counted c p xs in let n = controls_at_cons p (Output q) xs in omega arith
counted c p (ErrorAt q ∷ xs) = let r = counted c p xs in let n = controls_at_cons p (ErrorAt q) xs in omega arith
counted c p (Control (Held q) ∷ xs) =
    let r = counted c p xs in
    let t = times_cons p q (filter_map operand_of xs) in
    let n = controls_at_cons p (Control (Held q)) xs in
    omega arith
counted c p (Control (Immediate v) ∷ xs) = let r = counted c p xs in let n = controls_at_cons p (Control (Immediate v)) xs in omega arith

-- the values after a store at p
held_stored : (c : Core) (p v q : ℕ) → can_store c p ≡ true → unwrap_or (word_at (store c p v) q) 0 ≡ cond (q == p) v (unwrap_or (word_at c q) 0)
held_stored c p v q h = elim (cases_Bool (q == p)) [
  | inl t ↦ rw (eqb-true q p t) (let r : (p == p) ≡ true = eq-eqb p p refl in rw r (ap (λ o. unwrap_or o 0) (word_at-store_same c p v h)))
  | inr t ↦ rw t (ap (λ o. unwrap_or o 0) (word_at-store_other c p q v (λ e. let r = eq-eqb q p e in cc)))
]

inputs_stored : (c : Core) (p v : ℕ) (xs : List Arg) → can_store c p ≡ true
    → filter_map (input_of (store c p v)) xs ≡ map (renew p v) (filter_map (input_of c) xs)
inputs_stored c p v [] h = refl
inputs_stored c p v (Input (Held q) ∷ xs) h =
    ap (λ w. record { value = w; place = Some q } ∷ filter_map (input_of (store c p v)) xs) (held_stored c p v q h)
    ∙ ap (λ ys. record { value = cond (q == p) v (unwrap_or (word_at c q) 0); place = Some q } ∷ ys) (inputs_stored c p v xs h)
inputs_stored c p v (Input (Immediate w) ∷ xs) h = ap (λ ys. record { value = w; place = None } ∷ ys) (inputs_stored c p v xs h)
inputs_stored c p v (Output q ∷ xs) h = inputs_stored c p v xs h
inputs_stored c p v (ErrorAt q ∷ xs) h = inputs_stored c p v xs h
inputs_stored c p v (Control s ∷ xs) h = inputs_stored c p v xs h

no_control : (p : ℕ) (x : Arg) (xs : List Arg) → controls_at p (x ∷ xs) ≡ 0 → (is_control_at p x ≡ false) × (controls_at p xs ≡ 0)
no_control p x xs t =
    let n = controls_at_cons p x xs in
    (go (is_control_at p x) n, omega arith)
  where
    go : (b : Bool) → controls_at p (x ∷ xs) ≡ cond b 1 0 + controls_at p xs → b ≡ false
    go true n = absurd (omega (arith, n, t))
    go false n = refl

not_eqb : (q p : ℕ) → (q == p) ≡ false → q ≢ p
not_eqb q p b e = let r = eq-eqb q p e in cc

controls_stored : (c : Core) (p v : ℕ) (xs : List Arg) → controls_at p xs ≡ 0 → filter_map (control_of (store c p v)) xs ≡ filter_map (control_of c) xs
unfolding is_control_at
controls_stored c p v [] t = refl
controls_stored c p v (Input s ∷ xs) t = controls_stored c p v xs (no_control p (Input s) xs t).1
controls_stored c p v (Output q ∷ xs) t = controls_stored c p v xs (no_control p (Output q) xs t).1
controls_stored c p v (ErrorAt q ∷ xs) t = controls_stored c p v xs (no_control p (ErrorAt q) xs t).1
controls_stored c p v (Control (Held q) ∷ xs) t =
    let n = no_control p (Control (Held q)) xs t in
    ap (λ o. unwrap_or o 0 ∷ filter_map (control_of (store c p v)) xs) (word_at-store_other c p q v (not_eqb q p n.0))
    ∙ ap (λ ys. unwrap_or (word_at c q) 0 ∷ ys) (controls_stored c p v xs n.1)
controls_stored c p v (Control (Immediate w) ∷ xs) t = ap (λ ys. w ∷ ys) (controls_stored c p v xs (no_control p (Control (Immediate w)) xs t).1)

renew_ask : (d : List ℕ) (h : Shape) (p v : ℕ) (inputs : List Operand) (controls : List ℕ)
    → ask_with d h (map (renew p v) inputs) controls ≡ renewed p v (ask_with d h inputs controls)
unfolding ask_with
renew_ask d h p v inputs controls = rw length-map refl

iot_renewed : (s : Site) (n p v : ℕ) → iot_ask s n ≡ renewed p v (iot_ask s n)
unfolding iot_ask
iot_renewed s n p v = refl

iot_inputs : (s : Site) (n p : ℕ) → inputs_at p (iot_ask s n).inputs.items ≡ 0
unfolding iot_ask
iot_inputs s n p =
    let i = inputs_at_cons p (record { value = n; place = None }) [] in
    let z = inputs_at_none p in
    omega arith

-- what a call asks for after a store at a free place
ask_of_stored : (c : Core) (d : List ℕ) (h : Shape) (p v : ℕ) → can_store c p ≡ true → controls_at p h.arguments ≡ 0
    → ask_of (store c p v) d h ≡ renewed p v (ask_of c d h)
unfolding ask_with
ask_of_stored c d h p v s t =
    ask_of_is (store c p v) d h
    ∙ ap (λ xs. ask_with d h (filter_map (input_of (store c p v)) h.arguments) xs) (controls_stored c p v h.arguments t)
    ∙ ap (λ xs. ask_with d h xs (filter_map (control_of c) h.arguments)) (inputs_stored c p v h.arguments s)
    ∙ renew_ask d h p v (filter_map (input_of c) h.arguments) (filter_map (control_of c) h.arguments)
    ∙ ap (renewed p v) (sym (ask_of_is c d h))

-- the decode words of a call begin with those of its site
pub site_words : (c : Core) (s : Site) (k : Ask) (p : ℕ) → ask c s ≡ Ok k → times p k.decode.items ≡ 0 → times p s.decode.items ≡ 0
site_words c s k p a t = go s.channel refl
  where
    go : (o : Option ℕ) → s.channel ≡ o → times p s.decode.items ≡ 0
    go None n =
        let d = decoded_of c s k n a in
        let e : k.decode.items ≡ s.decode.items ++ (shaped c s).reads = ap (λ (x : Ask). x.decode.items) d.asks
        ∙ decode_of c (s.decode.items ++ (shaped c s).reads) d.shape in
        let f = times_append p s.decode.items (shaped c s).reads in
        let g = ap (times p) e in
        omega arith
    go (Some ch) n =
        let e = iot_of c s ch k n a in
        let g : times p k.decode.items ≡ times p s.decode.items = ap (λ (x : Ask). times p x.decode.items) (sym e) ∙ ap (times p) (decode_iot s ch) in
        omega arith

-- how often a place is the word of an operand, and how often that of an input
pub inputs_few : (c : Core) (s : Site) (k : Ask) (p : ℕ) → ask c s ≡ Ok k → inputs_at p k.inputs.items ≤ times p k.operand.items
inputs_few c s k p a = go s.channel refl
  where
    go : (o : Option ℕ) → s.channel ≡ o → inputs_at p k.inputs.items ≤ times p k.operand.items
    go None n =
        let d = decoded_of c s k n a in
        let ds = s.decode.items ++ (shaped c s).reads in
        let o : times p k.operand.items ≡ times p (filter_map operand_of d.shape.arguments) =
        ap (λ (x : Ask). times p x.operand.items) d.asks ∙ ap (times p) (operand_is c ds d.shape) in
        let i : inputs_at p k.inputs.items ≡ inputs_at p (filter_map (input_of c) d.shape.arguments) =
        ap (λ (x : Ask). inputs_at p x.inputs.items) d.asks ∙ ap (inputs_at p) (inputs_is c ds d.shape) in
        let r = counted c p d.shape.arguments in
        omega arith
    go (Some ch) n =
        let e = iot_of c s ch k n a in
        let i : inputs_at p k.inputs.items ≡ 0 = ap (λ (x : Ask). inputs_at p x.inputs.items) (sym e) ∙ iot_inputs s ch p in
        omega arith

ask_stored : (c : Core) (s : Site) (k : Ask) (p v : ℕ) → ask c s ≡ Ok k → can_store c p ≡ true → Free p k → ask (store c p v) s ≡ Ok (renewed p v k)
ask_stored c s k p v a can f = go s.channel refl
  where
    go : (o : Option ℕ) → s.channel ≡ o → ask (store c p v) s ≡ Ok (renewed p v k)
    go None n =
        let d = decoded_of c s k n a in
        let ds = s.decode.items ++ (shaped c s).reads in
        let e = block_agrees c (store c p v) s k d (stored_agrees c p v k.decode.items (shaped c s).tests f.decode) in
        let o : times p k.operand.items ≡ times p (filter_map operand_of d.shape.arguments) =
        ap (λ (x : Ask). times p x.operand.items) d.asks ∙ ap (times p) (operand_is c ds d.shape) in
        let i : inputs_at p k.inputs.items ≡ inputs_at p (filter_map (input_of c) d.shape.arguments) =
        ap (λ (x : Ask). inputs_at p x.inputs.items) d.asks ∙ ap (inputs_at p) (inputs_is c ds d.shape) in
        let r = counted c p d.shape.arguments in
        let few = f.operand in
        let none : controls_at p d.shape.arguments ≡ 0 = omega arith in
        asked_by_block (store c p v) s d.shape n (ap (λ t. t.answer) e ∙ d.shaped_is)
        ∙ ap (λ t. Ok (ask_of (store c p v) (s.decode.items ++ t.reads) d.shape)) e
        ∙ ap Ok (ask_of_stored c ds d.shape p v can none ∙ ap (renewed p v) (sym d.asks))
    go (Some ch) n =
        let e = iot_of c s ch k n a in
        asked_by_iot (store c p v) s ch n ∙ ap Ok (iot_renewed s ch p v ∙ ap (renewed p v) e)

-- a store at the word of an input, if it is no other word of the call
pub stands_stored : (c : Core) (j : Job) (s : Site) (k : Ask) (p v : ℕ) → Stands c j s k → can_store c p ≡ true → Free p k
    → Stands (store c p v) j s (renewed p v k)
stands_stored c j s k p v h can f = record {
  unit_is = site_same c (store c p v) j s h.unit_is (stored_words c p v s.decode.items (site_words c s k p h.ask_is f.decode));
  ask_is = ask_stored c s k p v h.ask_is can f;
}

-- a store outside the footprint
pub stands_outside : (c : Core) (j : Job) (s : Site) (k : Ask) (p v : ℕ) → Stands c j s k → Outside p k → Stands (store c p v) j s k
stands_outside c j s k p v h o = record {
  unit_is = site_same c (store c p v) j s h.unit_is (stored_words c p v s.decode.items (site_words c s k p h.ask_is o.decode));
  ask_is = ask_same c (store c p v) s k h.ask_is (stored_agrees c p v k.decode.items (shaped c s).tests o.decode)
      (stored_words c p v k.operand.items o.operand);
}

-- the footprint does not depend on the values of the inputs
pub once_inputs : (k : Ask) (p : ℕ) (xs : List Operand) → Once p k → Once p (with_inputs k xs)
once_inputs k p xs o = record { decode = o.decode; operand = o.operand }
