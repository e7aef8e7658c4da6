-- What is known of a call that is decoded: the places of its arguments, and how many arguments it
-- has.
use Rattle.std.proofs.Common.{if◌then◌else◌, ◌≡◌, ◌<◌, ◌≤◌, ◌^◌, ◌||◌, ℕ, Bool, true, false, List, [], ◌∷◌, ◌++◌, length, Option, Some, None, Ok, refl, sym, ◌∙◌, ap, subst, is_some, nat_lt, slice_get, unwrap_or, arith}
use Rattle.std.specs.List.{All, cons_option, filter_map}
use Rattle.std.specs.Option.{IfSome}
use Rattle.std.proofs.lemmas.Bool.Decides.{nat_tests}
use Rattle.std.proofs.lemmas.List.Elements.{All-nil, All-cons}
use Rattle.its_word.specs.ArrayVec.{ArrayVec}
use Rattle.its_word.specs.Core.{Core, word_at, can_store}
use Rattle.its_word.specs.Limits.{budget}
use Rattle.its_word.specs.Stores.{refusal}
use Rattle.its_word.specs.Word.{pair_of}
use Rattle.its_records.specs.declared.calls.Arg.{Arg}
use Rattle.its_records.specs.declared.calls.Arg.TheVariants.{Input, Output, ErrorAt, Control}
use Rattle.its_records.specs.declared.calls.Ask.{Ask}
use Rattle.its_records.specs.declared.calls.Kind.{Kind}
use Rattle.its_records.specs.declared.calls.Kind.TheVariants as kinds
use Rattle.its_records.specs.declared.calls.Operand.{Operand}
use Rattle.its_records.specs.declared.calls.Placed.{Placed}
use Rattle.its_records.specs.declared.calls.Site.{Site}
use Rattle.its_records.specs.declared.calls.Source.{Source}
use Rattle.its_records.specs.declared.calls.Source.TheVariants.{Held, Immediate}
use Rattle.its_frame.specs.declared.name.CallRow.{CallRow}
use Rattle.its_plain.specs.Unit.Trace.{Located, also, gives, located}
use Rattle.its_plain.specs.Call.Decode.{Shape, allowed, argument, argument_at, arguments, ask, ask_of, control_of, error_at_of, error_by, exceeds, held, input_of, iot_ask, kind_of, name_of, output_of, parsed, held_place, row_named, shaped, storable, there, value_of, words_of}
use Rattle.its_plain.proofs.AskLaws.{decoded_of, iot_of}
use Rattle.its_plain.proofs.FitsLaws.{located_finds}
use Rattle.its_plain.proofs.ReadLaws.{went}
use Rattle.its_records.proofs.ClimbLaws.{or_none}

-- a place that is an address at which a word can be stored, or one that has a word
pub record Storable (c : Core) (p : ℕ) : Type 0 where
  pub below : p < 2 ^ 18
  pub can : can_store c p ≡ true

pub record There (c : Core) (p : ℕ) : Type 0 where
  pub below : p < 2 ^ 18
  pub there : is_some (word_at c p) ≡ true

abbrev FineSource : Core → Source → Type 0
FineSource c (Held p) = There c p
FineSource c (Immediate v) = v < 2 ^ 18

abbrev Fine : Core → Arg → Type 0
Fine c (Input s) = FineSource c s
Fine c (Output p) = Storable c p
Fine c (ErrorAt p) = Storable c p
Fine c (Control s) = FineSource c s

there_is : (p q : ℕ) (o : Option ℕ) → there p o ≡ Ok q → (p ≡ q) × (is_some o ≡ true)
there_is p q (Some w) h = (cc, refl)
there_is p q None h = cc

allowed_is : (p q : ℕ) (b : Bool) (o : Option ℕ) → allowed p (refusal b o) ≡ Ok q → (p ≡ q) × (b ≡ true)
allowed_is p q true o h = (cc, refl)
allowed_is p q false None h = cc
allowed_is p q false (Some w) h = cc

held_fine : (c : Core) (e p : ℕ) → e < 2 ^ 18 → (held c e).answer ≡ Ok p → There c p
unfolding held
held_fine c e p b h = let t = there_is e p (word_at c e) h in subst (There c) t.0 (record { below = b; there = t.1 })

storable_fine : (c : Core) (e p : ℕ) → e < 2 ^ 18 → (storable c e).answer ≡ Ok p → Storable c p
unfolding storable
storable_fine c e p b h = let t = allowed_is e p (can_store c e) (word_at c e) h in subst (Storable c) t.0 (record { below = b; can = t.1 })

given_fine : (c : Core) (x y : Arg) → (gives x).answer ≡ Ok y → Fine c x → Fine c y
given_fine c x y h f = let e : x ≡ y = cc in subst (Fine c) e f

argument_at_fine : (k : Kind) (c : Core) (e : ℕ) (x : Arg) → e < 2 ^ 18 → (argument_at k c e).answer ≡ Ok x → Fine c x
unfolding argument_at
argument_at_fine kinds.Input c e x b h = let w = went (held c e) (λ p. gives (Input (Held p))) x h in given_fine c (Input (Held w.value)) x
    w.last (held_fine c e w.value b w.first)
argument_at_fine kinds.Immediate c e x b h = given_fine c (Input (Immediate (pair_of 0 e))) x h (omega arith)
argument_at_fine kinds.Output c e x b h = let w = went (storable c e) (λ p. gives (Output p)) x h in given_fine c (Output w.value) x w.last
    (storable_fine c e w.value b w.first)
argument_at_fine kinds.ErrorAt c e x b h = let w = went (storable c e) (λ p. gives (ErrorAt p)) x h in given_fine c (ErrorAt w.value) x
    w.last (storable_fine c e w.value b w.first)
argument_at_fine kinds.Control c e x b h = let w = went (held c e) (λ p. gives (Control (Held p))) x h in given_fine c
    (Control (Held w.value)) x w.last (held_fine c e w.value b w.first)
argument_at_fine kinds.ImmediateControl c e x b h = given_fine c (Control (Immediate (pair_of 0 e))) x h (omega arith)
argument_at_fine kinds.Other c e x b h = cc

pub record FinePlaced (c : Core) (x : Placed) : Type 0 where
  fine : Fine c x.argument
  most : x.used ≤ budget

argument_fine : (c : Core) (w used : ℕ) (x : Placed) → used ≤ budget → (argument c w used).answer ≡ Ok x → FinePlaced c x
unfolding argument
argument_fine c w used x u h =
    let placed = λ (f : Located). also (argument_at (kind_of w) c f.at.e) (λ a. gives (record { argument = a; used = f.used })) in
    let f = went (located c w used) placed x h in
    let a = went (argument_at (kind_of w) c f.value.at.e) (λ a. gives (record { argument = a; used = f.value.used })) x f.last in
    let g = located_finds c w used f.value u f.first in
    let e : record { argument = a.value; used = f.value.used } ≡ x = let l = a.last in cc in
    subst (FinePlaced c) e (record { fine = argument_at_fine (kind_of w) c f.value.at.e a.value g.below a.first; most = g.most })

-- a predicate of each item of a list
abbrev Each : {X : Type 0} → (X → Type 0) → List X → Type 0
Each P [] = Unit {0}
Each P (x ∷ xs) = P x × Each P xs

each_push : {X : Type 0} (P : X → Type 0) (xs : List X) (x : X) → Each P xs → P x → Each P (xs ++ x ∷ [])
each_push P [] x e h = (h, tt)
each_push P (y ∷ ys) x e h = (e.0, each_push P ys x e.1 h)

arguments_fine : (ws : List ℕ) (c : Core) (used : ℕ) (seen : List Arg) (xs : ArrayVec Arg) → used ≤ budget → Each (Fine c) seen
    → (arguments ws c used seen).answer ≡ Ok xs → Each (Fine c) xs.items
unfolding arguments
arguments_fine [] c used seen xs u s h = let e : record { items = seen } ≡ xs = cc in subst (λ (v : ArrayVec Arg). Each (Fine c) v.items) e s
arguments_fine (w ∷ ws) c used seen xs u s h =
    let t = went (argument c w used) (λ x. arguments ws c x.used (seen ++ x.argument ∷ [])) xs h in
    let f = argument_fine c w used t.value u t.first in
    arguments_fine ws c t.value.used (seen ++ t.value.argument ∷ []) xs f.most (each_push (Fine c) seen t.value.argument s f.fine) t.last

shape_fine : (c : Core) (s : Site) (h : Shape) → s.used ≤ budget → (shaped c s).answer ≡ Ok h → Each (Fine c) h.arguments
unfolding shaped
shape_fine c s h u e =
    let rest = λ (block : ArrayVec ℕ). also (arguments (words_of block.items) c s.used []) (λ xs. gives (shape block xs)) in
    let b = went (parsed c s.e) rest h e in
    let a = went (arguments (words_of b.value.items) c s.used []) (λ xs. gives (shape b.value xs)) h b.last in
    let is : shape b.value a.value ≡ h = let l = a.last in cc in
    subst (λ (x : Shape). Each (Fine c) x.arguments) is (arguments_fine (words_of b.value.items) c s.used [] a.value u tt a.first)
  where
    shape : ArrayVec ℕ → ArrayVec Arg → Shape
    shape block xs = record { block = block.items; arguments = xs.items }

-- of some arguments, what is taken of them
cons_all : {X : Type 0} (P : X → Type 0) (o : Option X) (ys : List X) → IfSome o P → All P ys → All P (cons_option o ys)
cons_all P (Some x) ys h a = All-cons P x ys h a
cons_all P None ys h a = a

filtered : {X : Type 0} (c : Core) (h : Arg → Option X) (P : X → Type 0) → ((x : Arg) → Fine c x → IfSome (h x) P) → (xs : List Arg)
    → Each (Fine c) xs → All P (filter_map h xs)
filtered c h P f [] e = All-nil P
filtered c h P f (x ∷ xs) e = cons_all P (h x) (filter_map h xs) (f x e.0) (filtered c h P f xs e.1)

first_all : {X : Type 0} (P : X → Type 0) (ys : List X) → All P ys → IfSome (slice_get ys 0) P
first_all P [] a = tt
first_all P (y ∷ ys) a = a 0 y (omega arith)

-- an input whose value is that of the word at its place
abbrev pub HasWord : Core → Operand → Type 0
HasWord c x = IfSome x.place (λ p. (p < 2 ^ 18) × (word_at c p ≡ Some x.value))

word_there : (o : Option ℕ) → is_some o ≡ true → o ≡ Some (unwrap_or o 0)
word_there (Some w) h = refl
word_there None h = cc

source_word : (c : Core) (s : Source) → FineSource c s → HasWord c (record { value = value_of c s; place = held_place s })
source_word c (Held p) f = (f.below, word_there (word_at c p) f.there)
source_word c (Immediate v) f = tt

input_word : (c : Core) (x : Arg) → Fine c x → IfSome (input_of c x) (HasWord c)
input_word c (Input s) f = source_word c s f
input_word c _ f = tt

output_stores : (c : Core) (x : Arg) → Fine c x → IfSome (output_of x) (Storable c)
output_stores c (Output p) f = f
output_stores c _ f = tt

error_stores : (c : Core) (x : Arg) → Fine c x → IfSome (error_at_of x) (Storable c)
error_stores c (ErrorAt p) f = f
error_stores c _ f = tt

-- 1, 2 or 3 if the decoding has an error
error_few : (o : Option CallRow) (i n : ℕ) (b : Bool) → error_by o i n b ≤ 3
unfolding error_by
error_few None i n b = omega arith
error_few (Some r) i n b = go (nat_lt i r.least_in || nat_lt n r.least_out) (nat_lt r.most_in i || nat_lt r.most_out n || b)
  where
    go : (x y : Bool) → (if x then 2 else (if y then 3 else 0)) ≤ 3
    go true y = omega arith
    go false true = omega arith
    go false false = omega arith

-- the arguments of a call that is decoded: an input has the value of its word, and an output or
-- error address of a block allows a store
pub record AskFits (c : Core) (s : Site) (k : Ask) : Type 0 where
  pub inputs : All (HasWord c) k.inputs.items
  pub outputs : s.channel ≡ None → All (Storable c) k.outputs.items
  pub error : IfSome k.error (Storable c)
  pub fail : k.fail ≤ 3

ask_of_fits : (c : Core) (s : Site) (d : List ℕ) (h : Shape) → Each (Fine c) h.arguments → AskFits c s (ask_of c d h)
unfolding ask_of
ask_of_fits c s d h f = record {
  inputs = filtered c (input_of c) (HasWord c) (input_word c) h.arguments f;
  outputs = λ n. filtered c output_of (Storable c) (output_stores c) h.arguments f;
  error = first_all (Storable c) (filter_map error_at_of h.arguments) (filtered c error_at_of (Storable c) (error_stores c) h.arguments f);
  fail = error_few (row_named (name_of h.block)) _ _ _;
}

iot_fits : (c : Core) (s : Site) (n : ℕ) → s.channel ≡ Some n → AskFits c s (iot_ask s n)
unfolding iot_ask
iot_fits c s n e = record {
  inputs = All-cons (HasWord c) (record { value = n; place = None }) [] tt (All-nil (HasWord c));
  outputs = λ m. absurd (let x = sym e ∙ m in cc);
  error = tt;
  fail = omega arith;
}

pub ask_fits : (c : Core) (s : Site) (k : Ask) → s.used ≤ budget → ask c s ≡ Ok k → AskFits c s k
ask_fits c s k u a = go s.channel refl
  where
    go : (o : Option ℕ) → s.channel ≡ o → AskFits c s k
    go None n =
        let d = decoded_of c s k n a in
        subst (AskFits c s) (sym d.asks) (ask_of_fits c s (s.decode.items ++ (shaped c s).reads) d.shape (shape_fine c s d.shape u d.shaped_is))
    go (Some ch) n = subst (AskFits c s) (iot_of c s ch k n a) (iot_fits c s ch n)

-- a call without error has as many arguments as its row says
pub record Counts (r : CallRow) (k : Ask) : Type 0 where
  pub least_in : r.least_in ≤ length k.inputs.items
  pub most_in : length k.inputs.items ≤ r.most_in
  pub least_out : r.least_out ≤ length k.outputs.items
  pub most_out : length k.outputs.items ≤ r.most_out

not_below : (a b : ℕ) → nat_lt a b ≡ false → b ≤ a
not_below a b h = grind (arith, nat_tests)

-- what the two tests of the counts give
abbrev error_of : Bool → Bool → ℕ
error_of x y = if x then 2 else (if y then 3 else 0)

error_none : (x y : Bool) → error_of x y ≡ 0 → (x ≡ false) × (y ≡ false)
error_none true y h = absurd (omega (arith, h))
error_none false true h = absurd (omega (arith, h))
error_none false false h = (refl, refl)

pub record Within (r : CallRow) (i n : ℕ) : Type 0 where
  least_in : r.least_in ≤ i
  most_in : i ≤ r.most_in
  least_out : r.least_out ≤ n
  most_out : n ≤ r.most_out

within_by : (r : CallRow) (i n : ℕ) (b : Bool) → error_by (Some r) i n b ≡ 0 → Within r i n
unfolding error_by
within_by r i n b h =
    let e = error_none (nat_lt i r.least_in || nat_lt n r.least_out) (nat_lt r.most_in i || nat_lt r.most_out n || b) h in
    let l = or_none (nat_lt i r.least_in) (nat_lt n r.least_out) e.0 in
    let m = or_none (nat_lt r.most_in i || nat_lt r.most_out n) b e.1 in
    let o = or_none (nat_lt r.most_in i) (nat_lt r.most_out n) m.0 in
    record {
      least_in = not_below i r.least_in l.0;
      most_in = not_below r.most_in i o.0;
      least_out = not_below n r.least_out l.1;
      most_out = not_below r.most_out n o.1;
    }

ask_of_counts : (c : Core) (d : List ℕ) (h : Shape) (r : CallRow) → row_named (ask_of c d h).name ≡ Some r → (ask_of c d h).fail ≡ 0 → Counts r (ask_of c d h)
unfolding ask_of
ask_of_counts c d h r e z =
    let inputs = filter_map (input_of c) h.arguments in
    let outputs = filter_map output_of h.arguments in
    let excess = exceeds (length (filter_map error_at_of h.arguments)) (length (filter_map (control_of c) h.arguments)) (words_of h.block) in
    let w = within_by r (length inputs) (length outputs) excess (ap (λ o. error_by o (length inputs) (length outputs) excess) (sym e) ∙ z) in
    record { least_in = w.least_in; most_in = w.most_in; least_out = w.least_out; most_out = w.most_out }

pub ask_counts : (c : Core) (s : Site) (k : Ask) (r : CallRow) → s.channel ≡ None → ask c s ≡ Ok k → row_named k.name ≡ Some r → k.fail ≡ 0 → Counts r k
ask_counts c s k r n a e z =
    let d = decoded_of c s k n a in
    let ds = s.decode.items ++ (shaped c s).reads in
    subst (Counts r) (sym d.asks)
    (ask_of_counts c ds d.shape r (ap (λ (x : Ask). row_named x.name) (sym d.asks) ∙ e) (ap (λ (x : Ask). x.fail) (sym d.asks) ∙ z))
