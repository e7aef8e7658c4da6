-- TYPE and DRAIN, byte by byte.
use Rattle.std.specs.Prelude.{◌≡◌, ◌==◌, ◌↔◌, ◌<◌, ◌≤◌, ◌+◌, ◌-◌, ℕ, zero, suc, Bool, true, false, Some, None, IsTrue, Ok, List, [], ◌∷◌, ◌++◌, length, take, drop, slice_get, slice_index, refl}
use Rattle.std.proofs.Common.{sym, ◌∙◌, ap, arith, append_assoc, append-nil, inl, inr}
use Rattle.std.proofs.lemmas.Bool.{cases_Bool, cases_eq, cases_lt, eq-eqb, ne_eqb}
use Rattle.std.proofs.lemmas.List.{drop-drop, length-append, length-take-le, take-append-le, take_all}
use Rattle.its_word.specs.Console.{Console, most_waiting}
use Rattle.its_plain.specs.Machine.{Machine, changed}
use Rattle.its_plain.specs.Machine.Change.{on_console}
use Rattle.its_plain.specs.Operator.Consoles.{with_typed, dropped, after_drain}
use Rattle.its_plain.proofs.MachineLaws.{machine_is}
use Rattle.its_stepped.specs.State.{State}
use Rattle.its_stepped.specs.Lines.{with_raw}
use Rattle.its_monitor.specs.Kept.{Lands}
use Rattle.its_top.specs.Answer.{TypedSo, DrainedSo}
use Rattle.its_top.proofs.LoadingLaws.{front}
use Rattle.its_top.proofs.PerformLaws.{landed}

-- one console, changed once, twice, or not at all
changed_here : {X : Type 0} (f : ℕ → X) (i : ℕ) (x : X) → changed f i x i ≡ x
changed_here f i x = rw (eq-eqb i i refl) refl

changed_twice : {X : Type 0} (f : ℕ → X) (i : ℕ) (x y : X) (k : ℕ) → changed (changed f i x) i y k ≡ changed f i y k
changed_twice f i x y k = elim (cases_Bool (k == i)) [
  | inl t ↦ rw t refl
  | inr t ↦ rw t refl
]

changed_not : {X : Type 0} (f : ℕ → X) (i k : ℕ) → changed f i (f i) k ≡ f k
changed_not f i k = elim (cases_eq k i) [
  | inl at ↦ rw (at, eq-eqb i i refl) refl
  | inr ne ↦ rw (ne_eqb k i ne) refl
]

console_here : (m : Machine) (c : ℕ) (f : Console → Console) → (on_console m c f).consoles c ≡ f (m.consoles c)
console_here m c f = changed_here m.consoles c (f (m.consoles c))

on_then : (m : Machine) (c : ℕ) (f g h : Console → Console) → ((x : Console) → g (f x) ≡ h x) → on_console (on_console m c f) c g ≡ on_console m c h
on_then m c f g h e = machine_is _ _ (λ k. refl)
    (λ k. changed_twice m.consoles c _ _ k ∙ ap (λ x. changed m.consoles c (g x) k) (console_here m c f)
    ∙ ap (λ x. changed m.consoles c x k) (e (m.consoles c)))
    (λ k. refl) refl refl refl (λ k. refl) (λ k. refl)

on_same : (m : Machine) (c : ℕ) → on_console m c (λ x. x) ≡ m
on_same m c = machine_is _ _ (λ k. refl) (λ k. changed_not m.consoles c k) (λ k. refl) refl refl refl (λ k. refl) (λ k. refl)

-- the state stays that of v, except for its raw machine
still : (v now next : State) (m : Machine) → now ≡ with_raw v now.raw → Lands now next (Ok m) → next ≡ with_raw v next.raw
still v now next m e h = h.rest ∙ ap (λ x. with_raw x next.raw) e

-- bytes that are typed one after another
abbrev typed_by : List ℕ → Console → Console
typed_by bytes x = record x { input = take most_waiting (x.input ++ bytes) }

take_front : (n : ℕ) (xs ys : List ℕ) → take n (take n xs ++ ys) ≡ take n (xs ++ ys)
take_front zero xs ys = refl
take_front (suc n) [] ys = refl
take_front (suc n) (x ∷ xs) ys = ap (λ zs. x ∷ zs) (take_front n xs ys)

typed_then : (m : Machine) (c : ℕ) (xs ys : List ℕ) → with_typed c ys (with_typed c xs m) ≡ with_typed c (xs ++ ys) m
typed_then m c xs ys =
    on_then m c (typed_by xs) (typed_by ys) (typed_by (xs ++ ys))
    (λ x. ap (λ bs. record x { input = bs }) (take_front most_waiting (x.input ++ xs) ys ∙ ap (take most_waiting) (append_assoc x.input xs ys)))

-- how many bytes wait after one more, and what is dropped of those after it
waits_room : (x : Console) (b : ℕ) → length x.input < most_waiting → length (take most_waiting (x.input ++ b ∷ [])) ≡ length x.input + 1
waits_room x b h =
    let s = length-append x.input (b ∷ []) in
    let all : length (x.input ++ b ∷ []) ≤ most_waiting = omega arith in
    ap length (take_all most_waiting (x.input ++ b ∷ []) all) ∙ s

waits_full : (x : Console) (b : ℕ) → most_waiting ≤ length x.input → length (take most_waiting (x.input ++ b ∷ [])) ≡ most_waiting
waits_full x b h = ap length (take-append-le most_waiting x.input (b ∷ []) h) ∙ length-take-le most_waiting x.input h

pub typing_start : (v : State) (c : ℕ) (bytes : List ℕ) → TypedSo v v c 0 0 bytes (drop 0 bytes)
typing_start v c bytes = record {
  raw = refl;
  whole = refl;
  count = omega arith;
  reached = λ h. absurd (omega arith);
}

-- byte k, which is b, was typed in state `now`, and gave state `next`
typing_next : (v now next : State) (c k n i b : ℕ) (bytes : List ℕ) → k < length bytes → b ≡ slice_index bytes k → TypedSo v now c k n bytes (drop k bytes)
    → Lands now next (Ok (with_typed c (b ∷ []) now.raw)) → i + dropped (next.raw.consoles c) (drop (k + 1) bytes) ≡ n + dropped
    (now.raw.consoles c) (drop k bytes)
    → TypedSo v next c (k + 1) i bytes (drop (k + 1) bytes)
typing_next v now next c k n i b bytes h e so d f =
    let is : with_typed c (b ∷ []) now.raw ≡ next.raw = landed now next _ d in
    let rest : b ∷ drop (k + 1) bytes ≡ drop k bytes = ap (λ x. x ∷ drop (k + 1) bytes) e ∙ sym (front bytes k h) in
    record {
      raw = still v now next _ so.raw d;
      whole = ap (with_typed c (drop (k + 1) bytes)) (sym is) ∙ typed_then now.raw c (b ∷ []) (drop (k + 1) bytes)
          ∙ ap (λ l. with_typed c l now.raw) rest ∙ so.whole;
      count = f ∙ so.count;
      reached = λ z. ap (with_typed c []) (sym is) ∙ typed_then now.raw c (b ∷ []) [] ∙ is;
    }

-- what waits then
waits_now : (now next : State) (c b : ℕ) → Lands now next (Ok (with_typed c (b ∷ []) now.raw))
    → length (next.raw.consoles c).input ≡ length (take most_waiting ((now.raw.consoles c).input ++ b ∷ []))
waits_now now next c b d =
    ap (λ m. length (m.consoles c).input) (sym (landed now next _ d)) ∙ ap (λ x. length x.input) (console_here now.raw c (typed_by (b ∷ [])))

pub typing_room : (v now next : State) (c k n i b : ℕ) (r : Bool) (bytes : List ℕ) → k < length bytes → b ≡ slice_index bytes k
    → TypedSo v now c k n bytes (drop k bytes)
    → Lands now next (Ok (with_typed c (b ∷ []) now.raw)) → (IsTrue r ↔ (length (now.raw.consoles c).input < most_waiting)) → r ≡ true → i ≡ n
    → TypedSo v next c (k + 1) i bytes (drop (k + 1) bytes)
typing_room v now next c k n i b r bytes h e so d w t f =
    let room : length (now.raw.consoles c).input < most_waiting = w.0 t in
    let more : length (next.raw.consoles c).input ≡ length (now.raw.consoles c).input + 1 = waits_now now next c b d
    ∙ waits_room (now.raw.consoles c) b room in
    let l : length (drop k bytes) ≡ suc (length (drop (k + 1) bytes)) = ap length (front bytes k h) in
    typing_next v now next c k n i b bytes h e so d (omega arith)

pub typing_full : (v now next : State) (c k n i b : ℕ) (r : Bool) (bytes : List ℕ) → k < length bytes → b ≡ slice_index bytes k
    → TypedSo v now c k n bytes (drop k bytes)
    → Lands now next (Ok (with_typed c (b ∷ []) now.raw)) → (IsTrue r ↔ (length (now.raw.consoles c).input < most_waiting)) → r ≡ false → i ≡ n + 1
    → TypedSo v next c (k + 1) i bytes (drop (k + 1) bytes)
typing_full v now next c k n i b r bytes h e so d w t f =
    let full : most_waiting ≤ length (now.raw.consoles c).input = elim (cases_lt (length (now.raw.consoles c).input) most_waiting) [
      | inl l ↦ absurd (let z : false ≡ true = sym t ∙ w.1 l in cc)
      | inr l ↦ l
    ] in
    let more : length (next.raw.consoles c).input ≡ most_waiting = waits_now now next c b d ∙ waits_full (now.raw.consoles c) b full in
    let l : length (drop k bytes) ≡ suc (length (drop (k + 1) bytes)) = ap length (front bytes k h) in
    typing_next v now next c k n i b bytes h e so d (omega arith)

pub typing_end : (v now : State) (c k n : ℕ) (bytes rest : List ℕ) → 0 < k → rest ≡ [] → TypedSo v now c k n bytes rest
    → (n ≡ dropped (v.raw.consoles c) bytes) × Lands v now (Ok (with_typed c bytes v.raw))
typing_end v now c k n bytes rest h e so = (
  let z : length rest ≡ 0 = ap length e in omega (arith, z, so.count),
  record { is = ap Ok (sym so.whole ∙ ap (λ l. with_typed c l now.raw) e ∙ so.reached h); rest = so.raw },
)

-- bytes that are drained one after another
abbrev drained_by : ℕ → Console → Console
drained_by n x = record x { output = drop n x.output }

drained_then : (m : Machine) (c j : ℕ) → after_drain c j (after_drain c 1 m) ≡ after_drain c (1 + j) m
drained_then m c j = on_then m c (drained_by 1) (drained_by j) (drained_by (1 + j)) (λ x. ap (λ bs. record x { output = bs }) (drop-drop j 1 x.output))

taken_some : (j b : ℕ) (xs : List ℕ) → Some b ≡ slice_get xs 0 → b ∷ take j (drop 1 xs) ≡ take (suc j) xs
taken_some j b [] h = cc
taken_some j b (x ∷ xs) h = let e : b ≡ x = cc in ap (λ y. y ∷ take j xs) e

pub draining_start : (v : State) (c n : ℕ) → DrainedSo v v c n 0 []
draining_start v c n = let e : n - 0 ≡ n = omega arith in record {
  raw = refl;
  whole = ap (λ k. after_drain c k v.raw) e;
  taken = ap (λ k. take k (v.raw.consoles c).output) e;
}

draining_next : (v now next : State) (c n k : ℕ) (bytes more : List ℕ) → k < n → DrainedSo v now c n k bytes → Lands now next (Ok (after_drain c 1 now.raw))
    → more ++ take (n - (k + 1)) (drop 1 (now.raw.consoles c).output) ≡ bytes ++ take (suc (n - (k + 1))) (now.raw.consoles c).output
    → DrainedSo v next c n (k + 1) more
draining_next v now next c n k bytes more h so d f =
    let is : after_drain c 1 now.raw ≡ next.raw = landed now next _ d in
    let e : suc (n - (k + 1)) ≡ n - k = omega arith in
    let left : 1 + (n - (k + 1)) ≡ n - k = omega arith in
    record {
      raw = still v now next _ so.raw d;
      whole = ap (after_drain c (n - (k + 1))) (sym is) ∙ drained_then now.raw c (n - (k + 1)) ∙ ap (λ j. after_drain c j now.raw) left ∙ so.whole;
      taken = ap (λ m. more ++ take (n - (k + 1)) (m.consoles c).output) (sym is)
          ∙ ap (λ x. more ++ take (n - (k + 1)) x.output) (console_here now.raw c (drained_by 1))
          ∙ f ∙ ap (λ j. bytes ++ take j (now.raw.consoles c).output) e ∙ so.taken;
    }

pub draining_some : (v now next : State) (c n k b : ℕ) (bytes more : List ℕ) → k < n → DrainedSo v now c n k bytes
    → Lands now next (Ok (after_drain c 1 now.raw))
    → Some b ≡ slice_get (now.raw.consoles c).output 0 → more ≡ bytes ++ b ∷ [] → DrainedSo v next c n (k + 1) more
draining_some v now next c n k b bytes more h so d e f =
    let j = n - (k + 1) in
    draining_next v now next c n k bytes more h so d
    (ap (λ l. l ++ take j (drop 1 (now.raw.consoles c).output)) f ∙ append_assoc bytes (b ∷ []) (take j (drop 1 (now.raw.consoles c).output))
    ∙ ap (λ l. bytes ++ l) (taken_some j b (now.raw.consoles c).output e))

-- no byte waits
no_first : (xs : List ℕ) → None ≡ slice_get xs 0 → xs ≡ []
no_first [] h = refl
no_first (x ∷ xs) h = cc

drop_none : (i j : ℕ) (xs : List ℕ) → xs ≡ [] → drop i xs ≡ drop j xs
drop_none zero zero [] h = refl
drop_none zero (suc j) [] h = refl
drop_none (suc i) zero [] h = refl
drop_none (suc i) (suc j) [] h = refl
drop_none i j (x ∷ xs) h = cc

take_none : (j : ℕ) (xs : List ℕ) → xs ≡ [] → take j xs ≡ []
take_none zero [] h = refl
take_none (suc j) [] h = refl
take_none j (x ∷ xs) h = cc

drained_empty : (m : Machine) (c i j : ℕ) → (m.consoles c).output ≡ [] → after_drain c i m ≡ after_drain c j m
drained_empty m c i j e =
    ap (λ bs. record m { consoles = changed m.consoles c (record (m.consoles c) { output = bs }) }) (drop_none i j (m.consoles c).output e)

pub draining_stop : (v now next : State) (c n k : ℕ) (bytes : List ℕ) → DrainedSo v now c n k bytes → Lands now next (Ok (after_drain c 1 now.raw))
    → None ≡ slice_get (now.raw.consoles c).output 0 → (bytes ≡ take n (v.raw.consoles c).output) × Lands v next (Ok (after_drain c n v.raw))
draining_stop v now next c n k bytes so d f =
    let e : (now.raw.consoles c).output ≡ [] = no_first (now.raw.consoles c).output f in (
      sym (ap (λ x. bytes ++ x) (take_none (n - k) (now.raw.consoles c).output e) ∙ append-nil bytes) ∙ so.taken,
      record { is = ap Ok (sym so.whole ∙ drained_empty now.raw c (n - k) 1 e ∙ landed now next _ d); rest = still v now next _ so.raw d },
    )

pub draining_end : (v now : State) (c n k : ℕ) (bytes : List ℕ) → k ≡ n → DrainedSo v now c n k bytes
    → (bytes ≡ take n (v.raw.consoles c).output) × Lands v now (Ok (after_drain c n v.raw))
draining_end v now c n k bytes e so =
    let z : n - k ≡ 0 = omega arith in (
      sym (ap (λ j. bytes ++ take j (now.raw.consoles c).output) z ∙ append-nil bytes) ∙ so.taken,
      record { is = ap Ok (sym so.whole ∙ ap (λ j. after_drain c j now.raw) z ∙ on_same now.raw c); rest = so.raw },
    )
