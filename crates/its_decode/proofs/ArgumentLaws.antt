-- The arguments of a call, one by one.
use Rattle.std.proofs.Common.{◌≡◌, ◌<◌, ◌≤◌, ◌+◌, ◌%◌, ◌^◌, ℕ, suc, List, [], ◌∷◌, ◌++◌, length, drop, map, get_or, slice_get, Option, Some, None, Ok, Err, refl, sym, ◌∙◌, ap, subst, arith}
use Rattle.std.specs.List.{cons_option, filter_map, range_with_len}
use Rattle.std.specs.Option.{option_or}
use Rattle.std.proofs.lemmas.List.{append-nil, append_assoc, drop_more, length-append}
use Rattle.std.proofs.lemmas.List.Elements.{filter_map-append}
use Rattle.std.proofs.lemmas.List.FromFn.{map-range_with_len_more}
use Rattle.std.proofs.Math.ListN.{drop_of_length-le}
use Rattle.its_word.specs.Core.{Core}
use Rattle.its_word.specs.declared.access.Fault.{Fault}
use Rattle.its_records.specs.declared.calls.Arg.{Arg}
use Rattle.its_records.specs.declared.calls.Ask.{Ask}
use Rattle.its_records.specs.declared.calls.Kind.{Kind}
use Rattle.its_records.specs.declared.calls.Placed.{Placed}
use Rattle.its_word.specs.Address.{address}
use Rattle.its_word.specs.declared.access.Address.{Address}
use Rattle.its_plain.specs.Unit.Trace.{Located, also, gives, goes_on, located, located_by}
use Rattle.its_plain.specs.Call.Decode.{argument, argument_at, arguments, control_of, error_at_of, input_of, kind_of, operand_of, output_of}
use Rattle.its_decode.specs.declared.arguments.Progress.{Progress}
use Rattle.its_decode.specs.Gathering.{Added, Fetched, First, Gathered, HasRoom, Holds, Longer}

-- an argument whose address is found, and which is one
pub argument_ok : (c : Core) (w used after : ℕ) (k : Kind) (a : Address) (x : Arg) → k ≡ kind_of w → Ok a ≡ (address c w used).answer
    → after ≡ (address c w used).used
    → (argument_at k c a.e).answer ≡ Ok x → Ok (record { argument = x; used = after }) ≡ (argument c w used).answer
unfolding argument also located
argument_ok c w used after k a x of h u is =
    let n = (address c w used).used in
    let m = located c w used in
    let placed = λ (v : ℕ) (y : Arg). gives {X = Placed} (record { argument = y; used = v }) in
    let rest = λ (k : Kind) (f : Located). goes_on (argument_at k c f.at.e).reads (argument_at k c f.at.e).tests
    (argument_at k c f.at.e).answer (placed f.used) in
    ap (λ (v : ℕ). (placed v x).answer) u
    ∙ sym (ap (λ r. (goes_on (argument_at k c a.e).reads (argument_at k c a.e).tests r (placed n)).answer) is)
    ∙ ap (λ r. (goes_on m.reads m.tests (located_by r n) (rest k)).answer) h
    ∙ ap (λ v. (goes_on m.reads m.tests m.answer (rest v)).answer) of

-- what is left of the arguments, after some words
pub record Finding (c : Core) (words : List ℕ) (used : ℕ) (reads rest : List ℕ) (now : ℕ) (found : List Arg) (seen : List ℕ) : Type 0 where
  pub answer : (arguments rest c now found).answer ≡ (arguments words c used []).answer
  pub places : seen ++ (arguments rest c now found).reads ≡ reads ++ (arguments words c used []).reads

arguments_ok : (c : Core) (w : ℕ) (ws : List ℕ) (used : ℕ) (found : List Arg) (x : Placed) → (argument c w used).answer ≡ Ok x
    → arguments (w ∷ ws) c used found ≡ goes_on (argument c w used).reads (argument c w used).tests (Ok x)
    (λ (y : Placed). arguments ws c y.used (found ++ y.argument ∷ []))
unfolding arguments also
arguments_ok c w ws used found x h = ap (λ r. goes_on (argument c w used).reads (argument c w used).tests r
    (λ (y : Placed). arguments ws c y.used (found ++ y.argument ∷ []))) h

arguments_err : (c : Core) (w : ℕ) (ws : List ℕ) (used : ℕ) (found : List Arg) (f : Fault) → (argument c w used).answer ≡ Err f
    → arguments (w ∷ ws) c used found ≡ goes_on (argument c w used).reads (argument c w used).tests (Err f)
    (λ (y : Placed). arguments ws c y.used (found ++ y.argument ∷ []))
unfolding arguments also
arguments_err c w ws used found f h = ap (λ r. goes_on (argument c w used).reads (argument c w used).tests r
    (λ (y : Placed). arguments ws c y.used (found ++ y.argument ∷ []))) h

arguments_none : (c : Core) (used : ℕ) (found : List Arg) → arguments [] c used found ≡ gives (record { items = found })
unfolding arguments
arguments_none c used found = refl

finding_more : (c : Core) (words : List ℕ) (used : ℕ) (reads : List ℕ) (i now w after : ℕ) (found : List Arg) (seen new : List ℕ) (x : Placed)
    → Finding c words used reads (drop i words) now found seen → w ≡ get_or words i w → i < length words → Ok x ≡ (argument c w now).answer → after ≡ x.used
    → new ≡ seen ++ (argument c w now).reads → Finding c words used reads (drop (i + 1) words) after (found ++ x.argument ∷ []) new
finding_more c words used reads i now w after found seen new x f is l h a n =
    let e = ap (λ ws. arguments ws c now found) (drop_more words i w l ∙ ap (λ v. v ∷ drop (i + 1) words) (sym is))
    ∙ arguments_ok c w (drop (i + 1) words) now found x (sym h) in
    subst (λ (u : ℕ). Finding c words used reads (drop (i + 1) words) u (found ++ x.argument ∷ []) new) (sym a)
    (record {
      answer = ap (λ t. t.answer) (sym e) ∙ f.answer;
      places =
          ap (λ ps. ps ++ (arguments (drop (i + 1) words) c x.used (found ++ x.argument ∷ [])).reads) n
          ∙ append_assoc seen (argument c w now).reads (arguments (drop (i + 1) words) c x.used (found ++ x.argument ∷ [])).reads
          ∙ ap (λ t. seen ++ t.reads) (sym e)
          ∙ f.places;
    })

-- a list, and the first of some values and their number, with one argument more
all_more : {X : Type 0} (h : Arg → Option X) (xs : List Arg) (x : Arg) (o : Option X) → h x ≡ o
    → filter_map h (xs ++ x ∷ []) ≡ filter_map h xs ++ cons_option o []
all_more h xs x o e = filter_map-append h xs (x ∷ []) ∙ ap (λ y. filter_map h xs ++ cons_option y []) e

longer : {X : Type 0} (h : Arg → Option X) (xs : List Arg) (x : Arg) (o : Option X) (old new : List X) → h x ≡ o → Longer o old new → old ≡ filter_map h xs
    → new ≡ filter_map h (xs ++ x ∷ [])
longer h xs x None old new e l is = l ∙ is ∙ sym (all_more h xs x None e ∙ append-nil (filter_map h xs))
longer h xs x (Some y) old new e l is = l ∙ ap (λ ys. ys ++ y ∷ []) is ∙ sym (all_more h xs x (Some y) e)

first_more : {X : Type 0} (ys : List X) (y : X) → option_or (slice_get ys 0) (Some y) ≡ slice_get (ys ++ y ∷ []) 0
first_more [] y = refl
first_more (x ∷ ys) y = refl

firsts : {X : Type 0} (h : Arg → Option X) (xs : List Arg) (x : Arg) (o old new : Option X) (n m : ℕ) → h x ≡ o → First o old new n m
    → old ≡ slice_get (filter_map h xs) 0
    → n ≡ length (filter_map h xs) → (new ≡ slice_get (filter_map h (xs ++ x ∷ [])) 0) × (m ≡ length (filter_map h (xs ++ x ∷ [])))
firsts h xs x None old new n m e f is number =
    let all = sym (all_more h xs x None e ∙ append-nil (filter_map h xs)) in
    (f.0 ∙ is ∙ ap (λ ys. slice_get ys 0) all, f.1 ∙ number ∙ ap length all)
firsts h xs x (Some y) old new n m e f is number =
    let all = sym (all_more h xs x (Some y) e) in (
      f.0 ∙ ap (λ p. option_or p (Some y)) is ∙ first_more (filter_map h xs) y ∙ ap (λ ys. slice_get ys 0) all,
      f.1 ∙ ap (λ k. k + 1) number ∙ sym (length-append (filter_map h xs) (y ∷ [])) ∙ ap length all,
    )

holds_more : (c : Core) (xs : List Arg) (x : Arg) (a b : Ask) (p q : Progress) → Holds c xs a p → Added c x a b p q → Holds c (xs ++ x ∷ []) b q
holds_more c xs x a b p q h n =
    let e = firsts error_at_of xs x _ _ _ _ _ refl n.errors h.error h.errors in
    let k = firsts (control_of c) xs x _ _ _ _ _ refl n.controls h.control h.controls in
    record {
      inputs = longer (input_of c) xs x _ _ _ refl n.inputs h.inputs;
      outputs = longer output_of xs x _ _ _ refl n.outputs h.outputs;
      error = e.0;
      errors = e.1;
      control = k.0;
      controls = k.1;
      operand = longer operand_of xs x _ _ _ refl n.operand h.operand;
    }

-- there are no more of a sort than arguments
few_more : {X : Type 0} (o : Option X) (ys : List X) (n : ℕ) → length ys ≤ n → length (cons_option o ys) ≤ suc n
few_more None ys n l = omega arith
few_more (Some y) ys n l = omega arith

few : {X : Type 0} (h : Arg → Option X) (xs : List Arg) → length (filter_map h xs) ≤ length xs
few h [] = omega arith
few h (x ∷ xs) = few_more (h x) (filter_map h xs) (length xs) (few h xs)

holds_room : (c : Core) (xs : List Arg) (a : Ask) (p : Progress) → Holds c xs a p → length xs < 8 → HasRoom a p
holds_room c xs a p h l = record {
  inputs = let e = ap length h.inputs in let f = few (input_of c) xs in omega arith;
  outputs = let e = ap length h.outputs in let f = few output_of xs in omega arith;
  operand = let e = ap length h.operand in let f = few operand_of xs in omega arith;
  errors = let e = h.errors in let f = few error_at_of xs in omega arith;
  controls = let e = h.controls in let f = few (control_of c) xs in omega arith;
}

-- with so many arguments found
pub record Gathering (c : Core) (words : List ℕ) (used : ℕ) (reads : List ℕ) (i : ℕ) (a : Ask) (p : Progress) : Type 0 where
  pub found : List Arg
  pub number : length found ≡ i
  pub same : Finding c words used reads (drop i words) p.used found a.decode.items
  pub holds : Holds c found a p

pub gathering_begins : (c : Core) (words : List ℕ) (used : ℕ) (a : Ask) (p : Progress) → p.used ≡ used → Holds c [] a p
    → Gathering c words used a.decode.items 0 a p
gathering_begins c words used a p u h = record {
  found = [];
  number = refl;
  same = subst (λ (n : ℕ). Finding c words used a.decode.items words n [] a.decode.items) (sym u) (record { answer = refl; places = refl });
  holds = h;
}

pub gathering_room : (c : Core) (words : List ℕ) (used : ℕ) (reads : List ℕ) (i : ℕ) (a : Ask) (p : Progress)
    → Gathering c words used reads i a p → i < 8 → HasRoom a p
gathering_room c words used reads i a p g l = let n = g.number in holds_room c g.found a p g.holds (omega arith)

pub gathering_more : (c : Core) (words : List ℕ) (used : ℕ) (reads : List ℕ) (i w : ℕ) (a b : Ask) (p q : Progress) → Gathering c words used reads i a p
    → w ≡ get_or words i w → i < length words → Fetched c w a b p q → b.decode.items ≡ a.decode.items ++ (argument c w p.used).reads
    → Gathering c words used reads (i + 1) b q
gathering_more c words used reads i w a b p q g is l f r = record {
  found = g.found ++ f.placed.argument ∷ [];
  number = length-append g.found (f.placed.argument ∷ []) ∙ ap (λ k. k + 1) g.number;
  same = finding_more c words used reads i p.used w q.used g.found a.decode.items b.decode.items f.placed g.same is l f.answer f.used r;
  holds = holds_more c g.found f.placed.argument a b p q g.holds f.added;
}

pub gathering_fails : (c : Core) (words : List ℕ) (used : ℕ) (reads : List ℕ) (i w : ℕ) (a : Ask) (p : Progress) (f : Fault)
    → Gathering c words used reads i a p
    → w ≡ get_or words i w → i < length words → Err f ≡ (argument c w p.used).answer → (arguments words c used []).answer ≡ Err f
gathering_fails c words used reads i w a p f g is l h =
    let e =
    ap (λ ws. arguments ws c p.used g.found) (drop_more words i w l ∙ ap (λ v. v ∷ drop (i + 1) words) (sym is))
    ∙ arguments_err c w (drop (i + 1) words) p.used g.found f (sym h)
    in
    sym g.same.answer ∙ ap (λ t. t.answer) e

pub gathering_ends : (c : Core) (words : List ℕ) (used : ℕ) (i : ℕ) (old new : Ask) (p : Progress)
    → Gathering c words used old.decode.items i new p → length words ≤ i
    → Gathered c words used old new p
gathering_ends c words used i old new p g l =
    let e = ap (λ ws. arguments ws c p.used g.found) (drop_of_length-le words l) ∙ arguments_none c p.used g.found in
    record {
      found = g.found;
      answer = sym g.same.answer ∙ ap (λ t. t.answer) e;
      reads = sym (append-nil new.decode.items) ∙ ap (λ t. new.decode.items ++ t.reads) (sym e) ∙ g.same.places;
      holds = g.holds;
    }

-- one place more of a block
pub noted_more : (e k : ℕ) (old all new : List ℕ) → all ≡ old ++ map (λ n. n % 2 ^ 18) (range_with_len e k) → new ≡ all ++ (e + k) % 2 ^ 18 ∷ []
    → new ≡ old ++ map (λ n. n % 2 ^ 18) (range_with_len e (k + 1))
noted_more e k old all new h n =
    n
    ∙ ap (λ ps. ps ++ (e + k) % 2 ^ 18 ∷ []) h
    ∙ append_assoc old (map (λ n. n % 2 ^ 18) (range_with_len e k)) ((e + k) % 2 ^ 18 ∷ [])
    ∙ ap (λ ps. old ++ ps) (sym (map-range_with_len_more (λ n. n % 2 ^ 18) e k (e + k) refl))
