-- The decoding of a call in one pass: what is left of it at each place of the code is what is left
-- of the definition.
use Rattle.std.specs.Prelude.{◌≡◌, ◌<◌, ◌≤◌, ◌%◌, ◌^◌, ℕ, suc, ◌+◌, ◌-◌, Bool, true, false, Option, Some, None, List, [], ◌∷◌, ◌++◌, Result, Ok, Err, drop, length, slice_get, refl}
use Rattle.std.specs.List.{cons_option, filter_map}
use Rattle.std.proofs.Common.{ap, sym, ◌∙◌, arith, get_or}
use Rattle.std.proofs.lemmas.List.{append-nil, append_assoc, length-append, drop_more}
use Rattle.std.proofs.lemmas.List.Elements.{filter_map-append}
use Rattle.std.proofs.Math.ListN.{drop_of_length-le}
use Rattle.its_word.specs.Address.{address}
use Rattle.its_word.specs.ArrayVec.{ArrayVec}
use Rattle.its_word.specs.Core.{Core}
use Rattle.its_word.specs.declared.access.Address.{Address}
use Rattle.its_word.specs.declared.access.Fault.{Fault}
use Rattle.its_word.specs.declared.access.Fault.TheVariants.{Ilo}
use Rattle.its_records.specs.declared.calls.Arg.{Arg}
use Rattle.its_records.specs.declared.calls.Arg.TheVariants.{Input, Output, ErrorAt, Control}
use Rattle.its_records.specs.declared.calls.Ask.{Ask}
use Rattle.its_records.specs.declared.calls.Placed.{Placed}
use Rattle.its_records.specs.declared.calls.Site.{Site}
use Rattle.its_plain.specs.Unit.Plans.{given}
use Rattle.its_plain.specs.Unit.Trace.{Traced, Located, also, gives, located, located_by, word}
use Rattle.its_plain.specs.Call.Decode.{Shape, argument, argument_at, argument_words, arguments, ask, ask_by, ask_of, block_at, checked, control_of, error_at_of, has_bit_0, input_of, is_legal, kind_of, operand_of, output_of, parsed, held_place, iot_ask, shaped, up_to_last, value_of, words_of}
use Rattle.its_plain.proofs.ReadLaws.{also_err, also_ok, unread}
use Rattle.pdp_exec.specs.Near.{near_site}
use Rattle.pdp_exec.specs.declared.near.Near.{Near}
use Rattle.its_direct.specs.Asking.{Reads, Sorts, ask_from, block_site, first_error, iot_asked, no_parts, parts_of, put_as, sorted_by, with_argument}
use Rattle.its_direct.specs.declared.step.sorting.Parts.{Parts}

-- what is left of a reading, after what was read so far
pub record Left {X : Type 0} (rest whole : Traced X) (seen start : List ℕ) : Type 0 where
  pub answer : rest.answer ≡ whole.answer
  pub places : seen ++ rest.reads ≡ start ++ whole.reads

pub begins : {X : Type 0} (t : Traced X) (start : List ℕ) → Left t t start start
begins t start = record { answer = refl; places = refl }

pub left_as : {X : Type 0} (a b whole : Traced X) (seen start : List ℕ) → a ≡ b → Left b whole seen start → Left a whole seen start
left_as a b whole seen start e l = record { answer = ap (λ t. t.answer) e ∙ l.answer; places = ap (λ t. seen ++ t.reads) e ∙ l.places }

-- a part is read, and has a value or a fault
pub goes : {X Y : Type 0} (m : Traced X) (k : X → Traced Y) (x : X) (whole : Traced Y) (seen start new : List ℕ)
    → Left (also m k) whole seen start → Reads m (Ok x) seen new
    → Left (k x) whole new start
goes m k x whole seen start new l r =
    let e = also_ok m k x (sym r.answer) in
    record {
      answer = ap (λ t. t.answer) (sym e) ∙ l.answer;
      places = ap (λ ps. ps ++ (k x).reads) r.places ∙ append_assoc seen m.reads (k x).reads ∙ ap (λ t. seen ++ t.reads) (sym e) ∙ l.places;
    }

pub fails : {X Y : Type 0} (m : Traced X) (k : X → Traced Y) (f : Fault) (whole : Traced Y) (seen start new : List ℕ)
    → Left (also m k) whole seen start → Reads m (Err f) seen new
    → Reads whole (Err f) start new
fails m k f whole seen start new l r =
    let e = also_err m k f (sym r.answer) in
    record {
      answer = ap (λ t. t.answer) (sym e) ∙ l.answer;
      places = r.places ∙ ap (λ t. seen ++ t.reads) (sym e) ∙ l.places;
    }

-- the end
pub ends : {X : Type 0} (r : Result X Fault) (whole : Traced X) (seen start : List ℕ)
    → Left (record { answer = r; reads = []; tests = [] }) whole seen start → Reads whole r start seen
ends r whole seen start l = record { answer = l.answer; places = sym (append-nil seen) ∙ l.places }

pub passes : {X : Type 0} (t whole : Traced X) (r : Result X Fault) (seen start new : List ℕ) → Left t whole seen start → Reads t r seen new
    → Reads whole r start new
passes t whole r seen start new l x = record { answer = x.answer ∙ l.answer; places = x.places ∙ l.places }

-- the argument words of a block
words_of_suc : (n m : ℕ) (c : Core) (a : ℕ) (seen : List ℕ) → n ≡ suc m
    → argument_words n c a seen ≡ also (word c (a % 2 ^ 18)) (λ w. up_to_last (has_bit_0 w) (λ ws. argument_words m c (a + 1) ws) (seen ++ w ∷ []))
unfolding argument_words
words_of_suc n m c a seen h = rw h refl

words_of_zero : (n : ℕ) (c : Core) (a : ℕ) (seen : List ℕ) → n ≡ 0 → argument_words n c a seen ≡ gives (record { items = seen })
unfolding argument_words
words_of_zero n c a seen h = rw h refl

abbrev words_left : Core → ℕ → ℕ → List ℕ → Traced (ArrayVec ℕ)
words_left c a k block = argument_words (8 - k) c (a + k) block

abbrev next_word : Core → ℕ → ℕ → List ℕ → ℕ → Traced (ArrayVec ℕ)
next_word c a k block w = up_to_last (has_bit_0 w) (λ ws. argument_words (8 - (k + 1)) c (a + k + 1) ws) (block ++ w ∷ [])

words_step : (c : Core) (a k : ℕ) (block : List ℕ) → k < 8 → words_left c a k block ≡ also (word c ((a + k) % 2 ^ 18)) (next_word c a k block)
words_step c a k block l = words_of_suc (8 - k) (8 - (k + 1)) c (a + k) block (omega arith)

module _ (c : Core) (a k : ℕ) (block : List ℕ) (whole : Traced (ArrayVec ℕ)) (seen start new : List ℕ)
    (l : Left (words_left c a k block) whole seen start) where
  pub word_fails : (f : Fault) → k < 8 → Reads (word c ((a + k) % 2 ^ 18)) (Err f) seen new → Reads whole (Err f) start new
  word_fails f less r =
      fails (word c ((a + k) % 2 ^ 18)) (next_word c a k block) f whole seen start new
      (left_as (also (word c ((a + k) % 2 ^ 18)) (next_word c a k block)) (words_left c a k block) whole seen start (sym (words_step c a k block less)) l) r

  word_read : (w : ℕ) → k < 8 → Reads (word c ((a + k) % 2 ^ 18)) (Ok w) seen new → Left (next_word c a k block w) whole new start
  word_read w less r =
      goes (word c ((a + k) % 2 ^ 18)) (next_word c a k block) w whole seen start new
      (left_as (also (word c ((a + k) % 2 ^ 18)) (next_word c a k block)) (words_left c a k block) whole seen start (sym (words_step c a k block less)) l) r

  pub word_last : (w : ℕ) (more : List ℕ) → k < 8 → Reads (word c ((a + k) % 2 ^ 18)) (Ok w) seen new → more ≡ block ++ w ∷ []
      → has_bit_0 w ≡ true → Reads whole (Ok (record { items = more })) start new
  word_last w more less r e b =
      ends (Ok (record { items = more })) whole new start
      (left_as (gives (record { items = more })) (next_word c a k block w) whole new start
      (ap (λ (xs : List ℕ). gives (record { items = xs })) e
      ∙ sym (ap (λ t. up_to_last t (λ ws. argument_words (8 - (k + 1)) c (a + k + 1) ws) (block ++ w ∷ [])) b))
      (word_read w less r))

  pub word_more : (w : ℕ) (more : List ℕ) → k < 8 → Reads (word c ((a + k) % 2 ^ 18)) (Ok w) seen new → more ≡ block ++ w ∷ [] → has_bit_0 w ≡ false
      → Left (words_left c a (k + 1) more) whole new start
  word_more w more less r e b =
      let d : a + (k + 1) ≡ a + k + 1 = omega arith in
      left_as (words_left c a (k + 1) more) (next_word c a k block w) whole new start
      (ap (argument_words (8 - (k + 1)) c (a + (k + 1))) e ∙ ap (λ x. argument_words (8 - (k + 1)) c x (block ++ w ∷ [])) d
      ∙ sym (ap (λ t. up_to_last t (λ ws. argument_words (8 - (k + 1)) c (a + k + 1) ws) (block ++ w ∷ [])) b))
      (word_read w less r)

  pub words_over : 8 ≤ k → Reads whole (Ok (record { items = block })) start seen
  words_over past =
      ends (Ok (record { items = block })) whole seen start
      (left_as (gives (record { items = block })) (words_left c a k block) whole seen start (sym (words_of_zero (8 - k) c (a + k) block (omega arith))) l)

pub words_begin : (c : Core) (a : ℕ) (block start : List ℕ) → Left (argument_words (8 - 0) c (a + 0) block) (argument_words 8 c a block) start start
words_begin c a block start = let d : a + 0 ≡ a = omega arith in left_as (argument_words 8 c (a + 0) block) (argument_words 8 c a block)
    (argument_words 8 c a block) start start (ap (λ x. argument_words 8 c x block) d) (begins (argument_words 8 c a block) start)

-- the block
abbrev after_name : Core → ℕ → ℕ → ℕ → Traced (ArrayVec ℕ)
after_name c e first name = argument_words 8 c (e + 2) (first ∷ name ∷ [])

abbrev after_first : Core → ℕ → ℕ → Traced (ArrayVec ℕ)
after_first c e first = also (word c ((e + 1) % 2 ^ 18)) (after_name c e first)

block_begins : (c : Core) (e : ℕ) (start : List ℕ) → Left (also (word c (e % 2 ^ 18)) (after_first c e)) (block_at c e) start start
unfolding block_at
block_begins c e start = begins (block_at c e) start

pub first_fails : (c : Core) (e : ℕ) (f : Fault) (start new : List ℕ) → Reads (word c (e % 2 ^ 18)) (Err f) start new → Reads (block_at c e) (Err f) start new
first_fails c e f start new r = fails (word c (e % 2 ^ 18)) (after_first c e) f (block_at c e) start start new (block_begins c e start) r

first_goes : (c : Core) (e first : ℕ) (start mid : List ℕ) → Reads (word c (e % 2 ^ 18)) (Ok first) start mid
    → Left (after_first c e first) (block_at c e) mid start
first_goes c e first start mid r = goes (word c (e % 2 ^ 18)) (after_first c e) first (block_at c e) start start mid (block_begins c e start) r

pub name_fails : (c : Core) (e first : ℕ) (f : Fault) (start mid new : List ℕ) → Reads (word c (e % 2 ^ 18)) (Ok first) start mid
    → Reads (word c ((e + 1) % 2 ^ 18)) (Err f) mid new
    → Reads (block_at c e) (Err f) start new
name_fails c e first f start mid new r s = fails (word c ((e + 1) % 2 ^ 18)) (after_name c e first) f (block_at c e) mid start new
    (first_goes c e first start mid r) s

pub block_read : (c : Core) (e first name : ℕ) (seen : List ℕ) (r : Result (ArrayVec ℕ) Fault) (start mid more new : List ℕ)
    → Reads (word c (e % 2 ^ 18)) (Ok first) start mid
    → Reads (word c ((e + 1) % 2 ^ 18)) (Ok name) mid more → seen ≡ first ∷ name ∷ [] → Reads (argument_words 8 c (e + 2) seen) r more new
    → Reads (block_at c e) r start new
block_read c e first name seen r start mid more new x y is z =
    passes (argument_words 8 c (e + 2) seen) (block_at c e) r more start new
    (left_as (argument_words 8 c (e + 2) seen) (after_name c e first name) (block_at c e) more start (ap (argument_words 8 c (e + 2)) is)
    (goes (word c ((e + 1) % 2 ^ 18)) (after_name c e first) name (block_at c e) mid start more (first_goes c e first start mid x) y))
    z

abbrev tested : ArrayVec ℕ → Traced (ArrayVec ℕ)
tested block = checked (is_legal block.items) block

parsed_begins : (c : Core) (e : ℕ) (start : List ℕ) → Left (also (block_at c e) tested) (parsed c e) start start
unfolding parsed
parsed_begins c e start = begins (parsed c e) start

pub block_fails : (c : Core) (e : ℕ) (f : Fault) (start new : List ℕ) → Reads (block_at c e) (Err f) start new → Reads (parsed c e) (Err f) start new
block_fails c e f start new r = fails (block_at c e) tested f (parsed c e) start start new (parsed_begins c e start) r

checked_answer : (c : Core) (e : ℕ) (block : ArrayVec ℕ) (b : Bool) (r : Result (ArrayVec ℕ) Fault) (start new : List ℕ)
    → Reads (block_at c e) (Ok block) start new → is_legal block.items ≡ b
    → checked b block ≡ record { answer = r; reads = []; tests = [] } → Reads (parsed c e) r start new
checked_answer c e block b r start new x is same =
    ends r (parsed c e) new start
    (left_as (record { answer = r; reads = []; tests = [] }) (tested block) (parsed c e) new start (sym (ap (λ t. checked t block) is ∙ same))
    (goes (block_at c e) tested block (parsed c e) start start new (parsed_begins c e start) x))

pub block_legal : (c : Core) (e : ℕ) (block : ArrayVec ℕ) (start new : List ℕ) → Reads (block_at c e) (Ok block) start new
    → is_legal block.items ≡ true → Reads (parsed c e) (Ok block) start new
block_legal c e block start new x is = checked_answer c e block true (Ok block) start new x is refl

pub block_illegal : (c : Core) (e : ℕ) (block : ArrayVec ℕ) (start new : List ℕ) → Reads (block_at c e) (Ok block) start new
    → is_legal block.items ≡ false → Reads (parsed c e) (Err Ilo) start new
block_illegal c e block start new x is = checked_answer c e block false (Err Ilo) start new x is refl

-- an argument: if its address is found, nothing more is read
located_ok : (c : Core) (w used : ℕ) (a : Address) (after : ℕ) (old mid : List ℕ) → Ok a ≡ (address c w used).answer
    → mid ≡ old ++ (address c w used).reads → after ≡ (address c w used).used
    → Reads (located c w used) (Ok (record { at = a; used = after })) old mid
unfolding located
located_ok c w used a after old mid e places u = record {
  answer = ap (λ (n : ℕ). located_by (Ok a) n) u ∙ ap (λ (r : Result Address Fault). located_by r (address c w used).used) e;
  places = places;
}

located_err : (c : Core) (w used : ℕ) (f : Fault) (old mid : List ℕ) → Err f ≡ (address c w used).answer
    → mid ≡ old ++ (address c w used).reads → Reads (located c w used) (Err f) old mid
unfolding located
located_err c w used f old mid e places = record {
  answer = ap (λ (r : Result Address Fault). located_by r (address c w used).used) e;
  places = places;
}

abbrev with_used : ℕ → Arg → Traced Placed
with_used after x = gives (record { argument = x; used = after })

abbrev after_address : Core → ℕ → Located → Traced Placed
after_address c w f = also (argument_at (kind_of w) c f.at.e) (with_used f.used)

argument_begins : (c : Core) (w used : ℕ) (start : List ℕ) → Left (also (located c w used) (after_address c w)) (argument c w used) start start
unfolding argument
argument_begins c w used start = begins (argument c w used) start

pub address_fails : (c : Core) (w used : ℕ) (f : Fault) (old mid : List ℕ) → Err f ≡ (address c w used).answer
    → mid ≡ old ++ (address c w used).reads → Reads (argument c w used) (Err f) old mid
address_fails c w used f old mid e places =
    fails (located c w used) (after_address c w) f (argument c w used) old old mid (argument_begins c w used old) (located_err c w used f old mid e places)

module _ (c : Core) (w used : ℕ) (a : Address) (after : ℕ) (old mid : List ℕ) (e : Ok a ≡ (address c w used).answer)
    (places : mid ≡ old ++ (address c w used).reads) (u : after ≡ (address c w used).used) where
  addressed : Left (also (argument_at (kind_of w) c a.e) (with_used after)) (argument c w used) mid old
  addressed = goes (located c w used) (after_address c w) (record { at = a; used = after }) (argument c w used) old old mid
      (argument_begins c w used old) (located_ok c w used a after old mid e places u)

  nothing_read : (r : Result Arg Fault) → r ≡ (argument_at (kind_of w) c a.e).answer → Reads (argument_at (kind_of w) c a.e) r mid mid
  nothing_read r is = record { answer = is; places = sym (append-nil mid) ∙ ap (λ ps. mid ++ ps) (sym (unread (kind_of w) c a.e)) }

  pub place_fails : (f : Fault) → Err f ≡ (argument_at (kind_of w) c a.e).answer → Reads (argument c w used) (Err f) old mid
  place_fails f is = fails (argument_at (kind_of w) c a.e) (with_used after) f (argument c w used) mid old mid addressed (nothing_read (Err f) is)

  pub argument_found : (x : Arg) → Ok x ≡ (argument_at (kind_of w) c a.e).answer
      → Reads (argument c w used) (Ok (record { argument = x; used = after })) old mid
  argument_found x is =
      ends (Ok (record { argument = x; used = after })) (argument c w used) mid old
      (goes (argument_at (kind_of w) c a.e) (with_used after) x (argument c w used) mid old mid addressed (nothing_read (Ok x) is))

-- arguments, sorted
not_noted_by : (xs : List ℕ) → xs ≡ xs ++ []
not_noted_by xs = sym (append-nil xs)

pub not_noted : (p : Parts) (place : Option ℕ) → place ≡ None → p ≡ record p { operand = record { items = p.operand.items ++ cons_option place [] } }
not_noted p place e = λ t. record p { operand = record { items = (not_noted_by p.operand.items ∙ ap (λ o. p.operand.items ++ cons_option o []) (sym e)) t } }

one_more : {X : Type 0} (f : Arg → Option X) (xs : List Arg) (x : Arg) (ys : List X) → filter_map f (x ∷ []) ≡ ys
    → filter_map f xs ++ ys ≡ filter_map f (xs ++ x ∷ [])
one_more f xs x ys e = ap (λ zs. filter_map f xs ++ zs) (sym e) ∙ sym (filter_map-append f xs (x ∷ []))

none_more : {X : Type 0} (f : Arg → Option X) (xs : List Arg) (x : Arg) → filter_map f (x ∷ []) ≡ [] → filter_map f xs ≡ filter_map f (xs ++ x ∷ [])
none_more f xs x e = sym (append-nil (filter_map f xs)) ∙ one_more f xs x [] e

first_more : (ys : List ℕ) (y : ℕ) → first_error (slice_get ys 0) y ≡ slice_get (ys ++ y ∷ []) 0
first_more [] y = refl
first_more (z ∷ zs) y = refl

count_more : {X : Type 0} (ys : List X) (y : X) → length ys + 1 ≡ length (ys ++ y ∷ [])
count_more ys y = sym (length-append ys (y ∷ []))

pub parts_more : (c : Core) (xs : List Arg) (x : Arg) → with_argument c x (parts_of c xs) ≡ parts_of c (xs ++ x ∷ [])
unfolding parts_of
parts_more c xs (Input s) = λ t. record {
  inputs = record { items = one_more (input_of c) xs (Input s) (record { value = value_of c s; place = held_place s } ∷ []) refl t };
  outputs = record { items = none_more output_of xs (Input s) refl t };
  errors = length (none_more error_at_of xs (Input s) refl t);
  error = slice_get (none_more error_at_of xs (Input s) refl t) 0;
  controls = length (none_more (control_of c) xs (Input s) refl t);
  control = slice_get (none_more (control_of c) xs (Input s) refl t) 0;
  operand = record { items = one_more operand_of xs (Input s) (cons_option (held_place s) []) refl t };
}
parts_more c xs (Output a) = λ t. record {
  inputs = record { items = none_more (input_of c) xs (Output a) refl t };
  outputs = record { items = one_more output_of xs (Output a) (a ∷ []) refl t };
  errors = length (none_more error_at_of xs (Output a) refl t);
  error = slice_get (none_more error_at_of xs (Output a) refl t) 0;
  controls = length (none_more (control_of c) xs (Output a) refl t);
  control = slice_get (none_more (control_of c) xs (Output a) refl t) 0;
  operand = record { items = none_more operand_of xs (Output a) refl t };
}
parts_more c xs (ErrorAt a) = λ t. record {
  inputs = record { items = none_more (input_of c) xs (ErrorAt a) refl t };
  outputs = record { items = none_more output_of xs (ErrorAt a) refl t };
  errors = (count_more (filter_map error_at_of xs) a ∙ ap length (one_more error_at_of xs (ErrorAt a) (a ∷ []) refl)) t;
  error = (first_more (filter_map error_at_of xs) a ∙ ap (λ ys. slice_get ys 0) (one_more error_at_of xs (ErrorAt a) (a ∷ []) refl)) t;
  controls = length (none_more (control_of c) xs (ErrorAt a) refl t);
  control = slice_get (none_more (control_of c) xs (ErrorAt a) refl t) 0;
  operand = record { items = none_more operand_of xs (ErrorAt a) refl t };
}
parts_more c xs (Control s) = λ t. record {
  inputs = record { items = none_more (input_of c) xs (Control s) refl t };
  outputs = record { items = none_more output_of xs (Control s) refl t };
  errors = length (none_more error_at_of xs (Control s) refl t);
  error = slice_get (none_more error_at_of xs (Control s) refl t) 0;
  controls = (count_more (filter_map (control_of c) xs) (value_of c s) ∙ ap length (one_more (control_of c) xs (Control s) (value_of c s ∷ []) refl)) t;
  control = (first_more (filter_map (control_of c) xs) (value_of c s)
      ∙ ap (λ ys. slice_get ys 0) (one_more (control_of c) xs (Control s) (value_of c s ∷ []) refl)) t;
  operand = record { items = one_more operand_of xs (Control s) (cons_option (held_place s) []) refl t };
}

-- there are no more of a sort than arguments
option_few : {X : Type 0} (o : Option X) (ys : List X) → length (cons_option o ys) ≤ length ys + 1
option_few (Some y) ys = omega arith
option_few None ys = omega arith

sort_few : {X : Type 0} (f : Arg → Option X) (xs : List Arg) → length (filter_map f xs) ≤ length xs
sort_few f [] = omega arith
sort_few f (x ∷ xs) = let a = option_few (f x) (filter_map f xs) in let b = sort_few f xs in omega arith

pub record Few (p : Parts) (n : ℕ) : Type 0 where
  pub inputs : length p.inputs.items ≤ n
  pub outputs : length p.outputs.items ≤ n
  pub errors : p.errors ≤ n
  pub controls : p.controls ≤ n
  pub operand : length p.operand.items ≤ n

pub parts_few : (c : Core) (xs : List Arg) → Few (parts_of c xs) (length xs)
unfolding parts_of
parts_few c xs = record {
  inputs = sort_few (input_of c) xs;
  outputs = sort_few output_of xs;
  errors = sort_few error_at_of xs;
  controls = sort_few (control_of c) xs;
  operand = sort_few operand_of xs;
}

-- arguments are found one by one: so many are, and these, which are sorted so
pub record Finding (c : Core) (words : List ℕ) (i used first_used : ℕ) (p : Parts) (seen start : List ℕ) : Type 0 where
  pub found : List Arg
  pub number : length found ≡ i
  pub parts : p ≡ parts_of c found
  pub left : Left (arguments (drop i words) c used found) (arguments words c first_used []) seen start

abbrev next_argument : Core → List ℕ → List Arg → Placed → Traced (ArrayVec Arg)
next_argument c ws found x = arguments ws c x.used (found ++ x.argument ∷ [])

arguments_suc : (c : Core) (w : ℕ) (ws : List ℕ) (used : ℕ) (found : List Arg)
    → arguments (w ∷ ws) c used found ≡ also (argument c w used) (next_argument c ws found)
unfolding arguments
arguments_suc c w ws used found = refl

arguments_none : (c : Core) (used : ℕ) (found : List Arg) → arguments [] c used found ≡ gives (record { items = found })
unfolding arguments
arguments_none c used found = refl

pub finding_begins : (c : Core) (words : List ℕ) (used : ℕ) (p : Parts) (start : List ℕ) → p ≡ no_parts → Finding c words 0 used used p start start
unfolding parts_of
finding_begins c words used p start e = record { found = []; number = refl; parts = e; left = begins (arguments words c used []) start }

module _ (c : Core) (words : List ℕ) (i w used first_used : ℕ) (p : Parts) (seen start new : List ℕ)
    (f : Finding c words i used first_used p seen start) (is : w ≡ get_or words i w) (l : i < length words) where
  here : Left (also (argument c w used) (next_argument c (drop (i + 1) words) f.found)) (arguments words c first_used []) seen start
  here = left_as (also (argument c w used) (next_argument c (drop (i + 1) words) f.found)) (arguments (drop i words) c used f.found)
      (arguments words c first_used []) seen start
      (sym (ap (λ ws. arguments ws c used f.found) (drop_more words i w l ∙ ap (λ v. v ∷ drop (i + 1) words) (sym is))
      ∙ arguments_suc c w (drop (i + 1) words) used f.found))
      f.left

  pub finding_fails : (x : Fault) → Reads (argument c w used) (Err x) seen new → Sorts c (arguments words c first_used []) (Err x) start new
  finding_fails x r =
      let e = fails (argument c w used) (next_argument c (drop (i + 1) words) f.found) x (arguments words c first_used []) seen start new here r in
      record { answer = ap (sorted_by c) e.answer; places = e.places }

  pub finding_more : (x : Placed) (q : Parts) → Reads (argument c w used) (Ok x) seen new → q ≡ with_argument c x.argument p
      → Finding c words (i + 1) x.used first_used q new start
  finding_more x q r e = record {
    found = f.found ++ x.argument ∷ [];
    number = sym (count_more f.found x.argument) ∙ ap (λ n. n + 1) f.number;
    parts = e ∙ ap (with_argument c x.argument) f.parts ∙ parts_more c f.found x.argument;
    left = goes (argument c w used) (next_argument c (drop (i + 1) words) f.found) x (arguments words c first_used []) seen start new here r;
  }

pub finding_ends : (c : Core) (words : List ℕ) (i used first_used : ℕ) (p : Parts) (seen start : List ℕ)
    → Finding c words i used first_used p seen start → length words ≤ i
    → Sorts c (arguments words c first_used []) (Ok p) start seen
finding_ends c words i used first_used p seen start f l =
    let e = ends (Ok (record { items = f.found })) (arguments words c first_used []) seen start
    (left_as (gives (record { items = f.found })) (arguments (drop i words) c used f.found) (arguments words c first_used []) seen start
    (sym (ap (λ ws. arguments ws c used f.found) (drop_of_length-le words l) ∙ arguments_none c used f.found)) f.left) in
    record { answer = ap Ok f.parts ∙ ap (sorted_by c) e.answer; places = e.places }

pub finding_few : (c : Core) (words : List ℕ) (i used first_used : ℕ) (p : Parts) (seen start : List ℕ)
    → Finding c words i used first_used p seen start → Few p i
finding_few c words i used first_used p seen start f = few_by p (parts_of c f.found) (length f.found) i f.parts f.number (parts_few c f.found)
  where
    few_by : (p q : Parts) (n i : ℕ) → p ≡ q → n ≡ i → Few q n → Few p i
    few_by p q n i e same h = record {
      inputs = let a = ap (λ x. length x.inputs.items) e in let b = h.inputs in omega arith;
      outputs = let a = ap (λ x. length x.outputs.items) e in let b = h.outputs in omega arith;
      errors = let a = ap (λ x. x.errors) e in let b = h.errors in omega arith;
      controls = let a = ap (λ x. x.controls) e in let b = h.controls in omega arith;
      operand = let a = ap (λ x. length x.operand.items) e in let b = h.operand in omega arith;
    }

-- the whole of it
abbrev shape_of : ArrayVec ℕ → ArrayVec Arg → Traced Shape
shape_of block xs = gives (record { block = block.items; arguments = xs.items })

abbrev after_block : Core → Site → ArrayVec ℕ → Traced Shape
after_block c s block = also (arguments (words_of block.items) c s.used []) (shape_of block)

shaped_begins : (c : Core) (s : Site) (start : List ℕ) → Left (also (parsed c s.e) (after_block c s)) (shaped c s) start start
unfolding shaped
shaped_begins c s start = begins (shaped c s) start

ask_is : (c : Core) (s : Site) (r : Result Shape Fault) (start new : List ℕ) → s.channel ≡ None → start ≡ s.decode.items → Reads (shaped c s) r start new
    → given r (λ h. Ok (ask_of c new h)) ≡ ask c s
unfolding ask
ask_is c s r start new none is x =
    ap (λ (y : Result Shape Fault). given y (λ h. Ok (ask_of c new h))) x.answer
    ∙ ap (λ (ps : List ℕ). given (shaped c s).answer (λ h. Ok (ask_of c ps h))) (x.places ∙ ap (λ ps. ps ++ (shaped c s).reads) is)
    ∙ sym (ap (ask_by c s) none)

pub block_faulted : (c : Core) (s : Site) (f : Fault) (start new : List ℕ) → s.channel ≡ None → start ≡ s.decode.items
    → Reads (parsed c s.e) (Err f) start new → Err f ≡ ask c s
block_faulted c s f start new none is r = ask_is c s (Err f) start new none is
    (fails (parsed c s.e) (after_block c s) f (shaped c s) start start new (shaped_begins c s start) r)

block_left : (c : Core) (s : Site) (block : ArrayVec ℕ) (start mid : List ℕ) → Reads (parsed c s.e) (Ok block) start mid
    → Left (after_block c s block) (shaped c s) mid start
block_left c s block start mid r = goes (parsed c s.e) (after_block c s) block (shaped c s) start start mid (shaped_begins c s start) r

sorted_err : (c : Core) (f : Fault) (r : Result (ArrayVec Arg) Fault) → Err f ≡ sorted_by c r → Err f ≡ r
sorted_err c f (Ok xs) e = cc
sorted_err c f (Err g) e = let is : f ≡ g = cc in ap Err is

pub arguments_faulted : (c : Core) (s : Site) (block : ArrayVec ℕ) (f : Fault) (start mid new : List ℕ) → s.channel ≡ None
    → start ≡ s.decode.items → Reads (parsed c s.e) (Ok block) start mid
    → Sorts c (arguments (words_of block.items) c s.used []) (Err f) mid new → Err f ≡ ask c s
arguments_faulted c s block f start mid new none is r x =
    ask_is c s (Err f) start new none is
    (fails (arguments (words_of block.items) c s.used []) (shape_of block) f (shaped c s) mid start new (block_left c s block start mid r)
    (record { answer = sorted_err c f (arguments (words_of block.items) c s.used []).answer x.answer; places = x.places }))

record SortedOk (c : Core) (p : Parts) (r : Result (ArrayVec Arg) Fault) : Type 0 where
  items : ArrayVec Arg
  is : Ok items ≡ r
  parts : p ≡ parts_of c items.items

sorted_ok : (c : Core) (p : Parts) (r : Result (ArrayVec Arg) Fault) → Ok p ≡ sorted_by c r → SortedOk c p r
sorted_ok c p (Ok xs) e = record { items = xs; is = refl; parts = let h : p ≡ parts_of c xs.items = cc in h }
sorted_ok c p (Err g) e = absurd cc

from_parts : (c : Core) (decode block : List ℕ) (xs : List Arg)
    → ask_from decode block (parts_of c xs) ≡ ask_of c decode (record { block = block; arguments = xs })
unfolding ask_from ask_of parts_of
from_parts c decode block xs = refl

pub asked_is : (c : Core) (s : Site) (block : ArrayVec ℕ) (p : Parts) (a : Ask) (start mid new : List ℕ) → s.channel ≡ None
    → start ≡ s.decode.items → Reads (parsed c s.e) (Ok block) start mid
    → Sorts c (arguments (words_of block.items) c s.used []) (Ok p) mid new → a ≡ ask_from new block.items p → Ok a ≡ ask c s
asked_is c s block p a start mid new none is r x e =
    let h = sorted_ok c p (arguments (words_of block.items) c s.used []).answer x.answer in
    ap Ok (e ∙ ap (ask_from new block.items) h.parts ∙ from_parts c new block.items h.items.items)
    ∙ ask_is c s (Ok (record { block = block.items; arguments = h.items.items })) start new none is
    (ends (Ok (record { block = block.items; arguments = h.items.items })) (shaped c s) new start
    (goes (arguments (words_of block.items) c s.used []) (shape_of block) h.items (shaped c s) mid start new (block_left c s block start mid r)
    (record { answer = h.is; places = x.places })))

-- of its PC nothing is asked
same_ask : (c : Core) (s : Site) → s.channel ≡ None → ask c (block_site s.e s.used s.decode.items) ≡ ask c s
unfolding ask shaped
same_ask c s none = sym (ap (ask_by c s) none)

-- what is asked was put into a place
pub block_put : {X : Type 0} (c : Core) (s : Site) (seen : List ℕ) (r q : Result X Fault) (a : Ask) → s.channel ≡ None
    → seen ≡ s.decode.items → r ≡ q → put_as r a ≡ ask c (block_site s.e s.used seen)
    → put_as q a ≡ ask c s
block_put c s seen r q a none is out h = ap (λ x. put_as x a) (sym out) ∙ h ∙ ap (λ ps. ask c (block_site s.e s.used ps)) is ∙ same_ask c s none

pub iot_put : (s : Site) (n : ℕ) (seen : List ℕ) (a : Ask) → a ≡ iot_asked s.e n seen → seen ≡ s.decode.items → a ≡ iot_ask s n
unfolding iot_ask
iot_put s n seen a h is = h ∙ ap (iot_asked s.e n) is

pub near_iot_put : (c : Core) (pc : ℕ) (n : Near) (channel : ℕ) (seen : List ℕ) (a : Ask) → n.channel ≡ Some channel → seen ≡ pc ∷ []
    → a ≡ iot_asked n.e channel seen → Ok a ≡ ask c (near_site pc n)
unfolding ask
near_iot_put c pc n channel seen a is noted h = ap Ok (iot_put (near_site pc n) channel seen a h noted) ∙ sym (ap (ask_by c (near_site pc n)) is)

pub near_block_put : (c : Core) (pc : ℕ) (n : Near) (seen : List ℕ) (r : Result Ask Fault) → n.channel ≡ None → seen ≡ pc ∷ []
    → r ≡ ask c (block_site n.e 0 seen) → r ≡ ask c (near_site pc n)
near_block_put c pc n seen r is noted h = h ∙ ap (λ ps. ask c (block_site n.e 0 ps)) noted ∙ same_ask c (near_site pc n) is
