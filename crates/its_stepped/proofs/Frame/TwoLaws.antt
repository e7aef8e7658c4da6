-- A call by a block is decoded in two parts: its block is read, and then its arguments are found.
use Rattle.std.proofs.Common.{◌≡◌, ◌+◌, ◌%◌, ◌^◌, ℕ, zero, suc, Bool, true, false, List, [], ◌∷◌, ◌++◌, length, map, Option, Some, None, Result, Ok, Err, refl, sym, ◌∙◌, ap, arith}
use Rattle.std.specs.List.{range_with_len}
use Rattle.std.proofs.lemmas.List.{append-nil, append_assoc, length-append}
use Rattle.its_word.specs.ArrayVec.{ArrayVec}
use Rattle.its_word.specs.Core.{Core}
use Rattle.its_word.specs.declared.access.Fault.{Fault}
use Rattle.its_records.specs.declared.calls.Arg.{Arg}
use Rattle.its_records.specs.declared.calls.Ask.{Ask}
use Rattle.its_records.specs.declared.calls.Site.{Site}
use Rattle.its_stepped.specs.TwoParts.{items_of as block_of, parse, fetch, block_places, fetch_by, fetch_of, fetched, fetched_by, parse_by, parse_of}
use Rattle.its_plain.specs.Unit.Plans.{given}
use Rattle.its_plain.specs.Unit.Trace.{Traced, also, gives, word}
use Rattle.its_plain.proofs.AskLaws.{asked_by_iot}
use Rattle.its_plain.proofs.ReadLaws.{also_err, also_ok, went}
use Rattle.its_plain.specs.Call.Decode.{Shape, argument_words, arguments, ask, ask_by, ask_of, block_at, checked, has_bit_0, is_legal, parsed, shaped, up_to_last, words_of}

-- the words of a block that is read from an address on, after some that were read already
record Read (t : Traced (ArrayVec ℕ)) (a seen : ℕ) (block : ArrayVec ℕ) : Type 0 where
  pub number : ℕ
  pub long : length block.items ≡ seen + number
  pub places : t.reads ≡ map (λ k. k % 2 ^ 18) (range_with_len a number)

items_of : (seen : List ℕ) (b : ArrayVec ℕ) (t : Traced (ArrayVec ℕ)) → t ≡ gives (record { items = seen }) → t.answer ≡ Ok b → seen ≡ b.items
items_of seen b t e h = let x = ap (λ u. u.answer) (sym e) ∙ h in let y : record { items = seen } ≡ b = cc in ap (λ v. v.items) y

-- one more word, the last one or not
one_read : (n : ℕ) (c : Core) (a : ℕ) (seen : List ℕ) (b : ArrayVec ℕ) (w : ℕ) (t : Bool)
    → ((argument_words n c (a + 1) (seen ++ w ∷ [])).answer ≡ Ok b → Read (argument_words n c (a + 1) (seen ++ w ∷ [])) (a + 1) (length (seen ++ w ∷ [])) b)
    → (up_to_last t (λ ws. argument_words n c (a + 1) ws) (seen ++ w ∷ [])).answer ≡ Ok b
    → (all : Traced (ArrayVec ℕ)) → all.reads ≡ a % 2 ^ 18 ∷ (up_to_last t (λ ws. argument_words n c (a + 1) ws) (seen ++ w ∷ [])).reads
    → Read all a (length seen) b
one_read n c a seen b w true rest h all reads =
    let i = items_of (seen ++ w ∷ []) b (gives (record { items = seen ++ w ∷ [] })) refl h in
    let l = length-append seen (w ∷ []) in
    record {
      number = 1;
      long = ap length (sym i) ∙ l;
      places = reads;
    }
one_read n c a seen b w false rest h all reads =
    let r = rest h in
    let l = length-append seen (w ∷ []) in
    let long = r.long in
    record {
      number = suc r.number;
      long = omega arith;
      places = reads ∙ ap (λ ps. a % 2 ^ 18 ∷ ps) r.places;
    }

word_reads : (c : Core) (p : ℕ) → (word c p).reads ≡ p ∷ []
unfolding word
word_reads c p = refl

words_read : (n : ℕ) (c : Core) (a : ℕ) (seen : List ℕ) (b : ArrayVec ℕ) → (argument_words n c a seen).answer ≡ Ok b
    → Read (argument_words n c a seen) a (length seen) b
unfolding argument_words
words_read zero c a seen b h = let i = items_of seen b (gives (record { items = seen })) refl h in record {
  number = 0;
  long = ap length (sym i) ∙ omega arith;
  places = refl;
}
words_read (suc n) c a seen b h =
    let rest = λ (w : ℕ). up_to_last (has_bit_0 w) (λ ws. argument_words n c (a + 1) ws) (seen ++ w ∷ []) in
    let w = went (word c (a % 2 ^ 18)) rest b h in
    one_read n c a seen b w.value (has_bit_0 w.value) (words_read n c (a + 1) (seen ++ w.value ∷ []) b) w.last (also (word c (a % 2 ^ 18)) rest)
    (w.reads ∙ ap (λ ps. ps ++ (rest w.value).reads) (word_reads c (a % 2 ^ 18)))

-- the places of a block that is read are known from its address
places_long : (e n m : ℕ) → n ≡ m → map (λ k. k % 2 ^ 18) (range_with_len e n) ≡ map (λ k. k % 2 ^ 18) (range_with_len e m)
places_long e n m h = ap (λ x. map (λ k. k % 2 ^ 18) (range_with_len e x)) h

block_read : (c : Core) (e : ℕ) (b : ArrayVec ℕ) → (block_at c e).answer ≡ Ok b → (block_at c e).reads ≡ block_places e b.items
unfolding block_at
block_read c e b h =
    let after = λ (first : ℕ). also (word c ((e + 1) % 2 ^ 18)) (λ name. argument_words 8 c (e + 2) (first ∷ name ∷ [])) in
    let f = went (word c (e % 2 ^ 18)) after b h in
    let n = went (word c ((e + 1) % 2 ^ 18)) (λ name. argument_words 8 c (e + 2) (f.value ∷ name ∷ [])) b f.last in
    let r = words_read 8 c (e + 2) (f.value ∷ n.value ∷ []) b n.last in
    let long = r.long in
    let two : e + 1 + 1 ≡ e + 2 = omega arith in
    let all : suc (suc r.number) ≡ length b.items = omega arith in
    f.reads
    ∙ ap (λ ps. ps ++ (after f.value).reads) (word_reads c (e % 2 ^ 18))
    ∙ ap (λ ps. e % 2 ^ 18 ∷ ps) (n.reads ∙ ap (λ ps. ps ++ (argument_words 8 c (e + 2) (f.value ∷ n.value ∷ [])).reads) (word_reads c ((e + 1) % 2 ^ 18)))
    ∙ ap (λ ps. e % 2 ^ 18 ∷ (e + 1) % 2 ^ 18 ∷ ps) (r.places ∙ ap (λ x. map (λ k. k % 2 ^ 18) (range_with_len x r.number)) (sym two))
    ∙ places_long e (suc (suc r.number)) (length b.items) all

checked_block : (t : Bool) (b d : ArrayVec ℕ) → (checked t b).answer ≡ Ok d → (b ≡ d) × (t ≡ true)
checked_block true b d h = (cc, refl)
checked_block false b d h = cc

checked_reads : (t : Bool) (b : ArrayVec ℕ) → (checked t b).reads ≡ []
checked_reads true b = refl
checked_reads false b = refl

parsed_block : (c : Core) (e : ℕ) (b : ArrayVec ℕ) → (parsed c e).answer ≡ Ok b → (parsed c e).reads ≡ block_places e b.items
unfolding parsed
parsed_block c e b h =
    let check = λ (block : ArrayVec ℕ). checked (is_legal block.items) block in
    let w = went (block_at c e) check b h in
    let s = checked_block (is_legal w.value.items) w.value b w.last in
    w.reads
    ∙ ap (λ ps. (block_at c e).reads ++ ps) (checked_reads (is_legal w.value.items) w.value)
    ∙ append-nil (block_at c e).reads
    ∙ block_read c e b (w.first ∙ ap Ok s.0)

-- the two parts
abbrev shape_of : ArrayVec ℕ → ArrayVec Arg → Shape
shape_of block xs = record { block = block.items; arguments = xs.items }

arguments_asked : (c : Core) (d : List ℕ) (p : List ℕ) (block : ArrayVec ℕ) (t : Traced (ArrayVec Arg))
    → given (also t (λ xs. gives (shape_of block xs))).answer
    (λ h. Ok (ask_of c (d ++ (p ++ (also t (λ xs. gives (shape_of block xs))).reads)) h))
    ≡ fetched_by c (d ++ p) block.items t
arguments_asked c d p block t = go t.answer refl
  where
    go : (r : Result (ArrayVec Arg) Fault) → t.answer ≡ r
        → given (also t (λ xs. gives (shape_of block xs))).answer
        (λ h. Ok (ask_of c (d ++ (p ++ (also t (λ xs. gives (shape_of block xs))).reads)) h)) ≡ fetched_by c (d ++ p) block.items t
    go (Ok xs) e =
        ap (λ u. given u.answer (λ h. Ok (ask_of c (d ++ (p ++ u.reads)) h))) (also_ok t (λ xs. gives (shape_of block xs)) xs e)
        ∙ ap (λ ps. Ok (ask_of c ps (shape_of block xs))) (ap (λ ps. d ++ (p ++ ps)) (append-nil t.reads) ∙ sym (append_assoc d p t.reads))
        ∙ sym (ap (λ r. given r (λ xs. Ok (ask_of c (d ++ p ++ t.reads) (shape_of block xs)))) e)
    go (Err f) e =
        ap (λ u. given u.answer (λ h. Ok (ask_of c (d ++ (p ++ u.reads)) h))) (also_err t (λ xs. gives (shape_of block xs)) f e)
        ∙ sym (ap (λ r. given r (λ xs. Ok (ask_of c (d ++ p ++ t.reads) (shape_of block xs)))) e)

pub ask_in_two : (c : Core) (s : Site) → s.channel ≡ None → ask c s ≡ given (parsed c s.e).answer (λ b. fetched c s b)
unfolding ask shaped fetched
ask_in_two c s n = ap (ask_by c s) n ∙ go (parsed c s.e).answer refl
  where
    rest : ArrayVec ℕ → Traced Shape
    rest block = also (arguments (words_of block.items) c s.used []) (λ xs. gives (shape_of block xs))

    go : (r : Result (ArrayVec ℕ) Fault) → (parsed c s.e).answer ≡ r
        → given (also (parsed c s.e) rest).answer (λ h. Ok (ask_of c (s.decode.items ++ (also (parsed c s.e) rest).reads) h)) ≡ given
        (parsed c s.e).answer (λ b. fetched c s b)
    go (Ok b) e =
        ap (λ u. given u.answer (λ h. Ok (ask_of c (s.decode.items ++ u.reads) h))) (also_ok (parsed c s.e) rest b e)
        ∙ ap (λ ps. given (rest b).answer (λ h. Ok (ask_of c (s.decode.items ++ (ps ++ (rest b).reads)) h))) (parsed_block c s.e b e)
        ∙ arguments_asked c s.decode.items (block_places s.e b.items) b (arguments (words_of b.items) c s.used [])
        ∙ sym (ap (λ r. given r (λ b. fetched c s b)) e)
    go (Err f) e =
        ap (λ u. given u.answer (λ h. Ok (ask_of c (s.decode.items ++ u.reads) h))) (also_err (parsed c s.e) rest f e)
        ∙ sym (ap (λ r. given r (λ b. fetched c s b)) e)

-- the two parts of any call
pub ask_in_parts : (c : Core) (s : Site) → ask c s ≡ given (parse_of c s) (λ b. fetch_of c s b)
unfolding parse_of fetch_of
ask_in_parts c s = go s.channel refl
  where
    go : (o : Option ℕ) → s.channel ≡ o → ask c s ≡ given (parse_by c s s.channel) (λ b. fetch_by c s b s.channel)
    go None n = ask_in_two c s n ∙ sym (ap (λ o. given (parse_by c s o) (λ b. fetch_by c s b o)) n)
    go (Some ch) n = asked_by_iot c s ch n ∙ sym (ap (λ o. given (parse_by c s o) (λ b. fetch_by c s b o)) n)

-- what follows the first part, if it is done
pub ask_after_parse : (c : Core) (s : Site) (b : ArrayVec ℕ) → parse_of c s ≡ Ok b → ask c s ≡ fetch_of c s b
ask_after_parse c s b h = ask_in_parts c s ∙ ap (λ r. given r (λ b. fetch_of c s b)) h

pub ask_fetched : (c : Core) (s : Site) (b : ArrayVec ℕ) (r : Result Ask Fault) → r ≡ fetch_of c s b → parse_of c s ≡ Ok b → r ≡ ask c s
ask_fetched c s b r e h = e ∙ sym (ask_after_parse c s b h)

-- and if it ends with a fault
pub ask_unparsed : (c : Core) (s : Site) (r : Result (ArrayVec ℕ) Fault) (f : Fault) → r ≡ parse_of c s → r ≡ Err f → ask c s ≡ Err f
ask_unparsed c s r f e h = ask_in_parts c s ∙ ap (λ r. given r (λ b. fetch_of c s b)) (sym e ∙ h)

-- the second part of the decoding, over the words of the block
items_given : (c : Core) (s : Site) (r : Result (ArrayVec ℕ) Fault)
    → given r (λ b. fetch_of c s b) ≡ given (block_of r) (λ b. fetch_of c s (record { items = b }))
items_given c s (Ok b) = refl
items_given c s (Err f) = refl

pub in_two : (c : Core) (s : Site) → ask c s ≡ given (parse c s) (λ b. fetch c s b)
unfolding parse fetch
in_two c s = ask_in_parts c s ∙ items_given c s (parse_of c s)
