-- What a call asks for depends on its decode words, on its operand words, and on what its arguments
-- test.
use Rattle.std.proofs.Common.{◌≡◌, ℕ, List, [], ◌∷◌, ◌++◌, length, Option, Some, None, Result, Ok, Err, refl, sym, ◌∙◌, ap, subst, slice_get, unwrap_or, arith}
use Rattle.std.specs.List.{Contains, filter_map}
use Rattle.std.proofs.lemmas.List.Elements.{Contains-append_right}
use Rattle.its_word.specs.Core.{Core, word_at}
use Rattle.its_word.specs.declared.access.Fault.{Fault}
use Rattle.its_records.specs.declared.calls.Arg.{Arg}
use Rattle.its_records.specs.declared.calls.Arg.TheVariants.{Input, Output, ErrorAt, Control}
use Rattle.its_records.specs.declared.calls.Ask.{Ask}
use Rattle.its_records.specs.declared.calls.Operand.{Operand}
use Rattle.its_records.specs.declared.calls.Site.{Site}
use Rattle.its_records.specs.declared.calls.Source.TheVariants.{Held, Immediate}
use Rattle.its_plain.specs.Unit.Plans.{given}
use Rattle.its_plain.specs.Call.Decode.{Shape, ask, ask_by, ask_of, control_of, error_at_of, error_by, exceeds, input_of, iot_ask, name_of, operand_of, output_of, row_named, shaped, words_of}
use Rattle.its_plain.proofs.Locality.{Agree, Words}
use Rattle.its_plain.proofs.DecodeLocality.{local_shaped}

-- the values of a call are its inputs and its controls; all else is its shape
unfoldable pub ask_with : List ℕ → Shape → List Operand → List ℕ → Ask
ask_with decode h inputs controls =
    let outputs = filter_map output_of h.arguments in
    let errors = filter_map error_at_of h.arguments in
    record {
      name = name_of h.block;
      fail = error_by (row_named (name_of h.block)) (length inputs) (length outputs) (exceeds (length errors) (length controls) (words_of h.block));
      inputs = record { items = inputs };
      outputs = record { items = outputs };
      error = slice_get errors 0;
      control = slice_get controls 0;
      decode = record { items = decode };
      operand = record { items = filter_map operand_of h.arguments };
    }

pub ask_of_is : (c : Core) (decode : List ℕ) (h : Shape) → ask_of c decode h ≡ ask_with decode h (filter_map (input_of c) h.arguments)
    (filter_map (control_of c) h.arguments)
unfolding ask_of ask_with
ask_of_is c decode h = refl

-- the result of a block's call, if it is decoded
pub record Decoded (c : Core) (s : Site) (k : Ask) : Type 0 where
  pub shape : Shape
  pub shaped_is : (shaped c s).answer ≡ Ok shape
  pub asks : k ≡ ask_of c (s.decode.items ++ (shaped c s).reads) shape

decoded_by : (c : Core) (s : Site) (k : Ask) (r : Result Shape Fault) → (shaped c s).answer ≡ r
    → given r (λ h. Ok (ask_of c (s.decode.items ++ (shaped c s).reads) h)) ≡ Ok k → Decoded c s k
decoded_by c s k (Ok h) e a = record { shape = h; shaped_is = e; asks = cc }
decoded_by c s k (Err f) e a = cc

pub decoded_of : (c : Core) (s : Site) (k : Ask) → s.channel ≡ None → ask c s ≡ Ok k → Decoded c s k
unfolding ask
decoded_of c s k n a = decoded_by c s k (shaped c s).answer refl (sym (ap (ask_by c s) n) ∙ a)

pub asked_by_block : (c : Core) (s : Site) (h : Shape) → s.channel ≡ None → (shaped c s).answer ≡ Ok h
    → ask c s ≡ Ok (ask_of c (s.decode.items ++ (shaped c s).reads) h)
unfolding ask
asked_by_block c s h n e = ap (ask_by c s) n ∙ ap (λ r. given r (λ h. Ok (ask_of c (s.decode.items ++ (shaped c s).reads) h))) e

pub asked_by_iot : (c : Core) (s : Site) (n : ℕ) → s.channel ≡ Some n → ask c s ≡ Ok (iot_ask s n)
unfolding ask
asked_by_iot c s n e = ap (ask_by c s) e

pub iot_of : (c : Core) (s : Site) (n : ℕ) (k : Ask) → s.channel ≡ Some n → ask c s ≡ Ok k → iot_ask s n ≡ k
iot_of c s n k e a = let x = sym (asked_by_iot c s n e) ∙ a in cc

-- the fields of an ask that its decoding fixes
pub decode_of : (c : Core) (d : List ℕ) (h : Shape) → (ask_of c d h).decode.items ≡ d
unfolding ask_of
decode_of c d h = refl

pub operand_is : (c : Core) (d : List ℕ) (h : Shape) → (ask_of c d h).operand.items ≡ filter_map operand_of h.arguments
unfolding ask_of
operand_is c d h = refl

pub inputs_is : (c : Core) (d : List ℕ) (h : Shape) → (ask_of c d h).inputs.items ≡ filter_map (input_of c) h.arguments
unfolding ask_of
inputs_is c d h = refl

pub decode_iot : (s : Site) (n : ℕ) → (iot_ask s n).decode.items ≡ s.decode.items
unfolding iot_ask
decode_iot s n = refl

-- values are the same if the operand words are
word_here : (q : ℕ) (ps : List ℕ) (a b : Core) → Words (q ∷ ps) a b → word_at b q ≡ word_at a q
word_here q ps a b w = w.same q (0, omega arith, refl)

words_after : (q : ℕ) (ps : List ℕ) (a b : Core) → Words (q ∷ ps) a b → Words ps a b
words_after q ps a b w = record { same = λ p i. w.same p (Contains-append_right (q ∷ []) ps p i) }

pub inputs_same : (a b : Core) (xs : List Arg) → Words (filter_map operand_of xs) a b → filter_map (input_of b) xs ≡ filter_map (input_of a) xs
inputs_same a b [] w = refl
inputs_same a b (Input (Held q) ∷ xs) w =
    ap (λ o. record { value = unwrap_or o 0; place = Some q } ∷ filter_map (input_of b) xs) (word_here q _ a b w)
    ∙ ap (λ ys. record { value = unwrap_or (word_at a q) 0; place = Some q } ∷ ys) (inputs_same a b xs (words_after q _ a b w))
inputs_same a b (Input (Immediate v) ∷ xs) w = ap (λ ys. record { value = v; place = None } ∷ ys) (inputs_same a b xs w)
inputs_same a b (Output p ∷ xs) w = inputs_same a b xs w
inputs_same a b (ErrorAt p ∷ xs) w = inputs_same a b xs w
inputs_same a b (Control (Held q) ∷ xs) w = inputs_same a b xs (words_after q _ a b w)
inputs_same a b (Control (Immediate v) ∷ xs) w = inputs_same a b xs w

pub controls_same : (a b : Core) (xs : List Arg) → Words (filter_map operand_of xs) a b → filter_map (control_of b) xs ≡ filter_map (control_of a) xs
controls_same a b [] w = refl
controls_same a b (Input (Held q) ∷ xs) w = controls_same a b xs (words_after q _ a b w)
controls_same a b (Input (Immediate v) ∷ xs) w = controls_same a b xs w
controls_same a b (Output p ∷ xs) w = controls_same a b xs w
controls_same a b (ErrorAt p ∷ xs) w = controls_same a b xs w
controls_same a b (Control (Held q) ∷ xs) w =
    ap (λ o. unwrap_or o 0 ∷ filter_map (control_of b) xs) (word_here q _ a b w)
    ∙ ap (λ ys. unwrap_or (word_at a q) 0 ∷ ys) (controls_same a b xs (words_after q _ a b w))
controls_same a b (Control (Immediate v) ∷ xs) w = ap (λ ys. v ∷ ys) (controls_same a b xs w)

pub ask_of_same : (a b : Core) (d : List ℕ) (h : Shape) → Words (filter_map operand_of h.arguments) a b → ask_of b d h ≡ ask_of a d h
ask_of_same a b d h w =
    ask_of_is b d h
    ∙ ap (λ xs. ask_with d h xs (filter_map (control_of b) h.arguments)) (inputs_same a b h.arguments w)
    ∙ ap (λ xs. ask_with d h (filter_map (input_of a) h.arguments) xs) (controls_same a b h.arguments w)
    ∙ sym (ask_of_is a d h)

-- the places that a block's call reads are decode words of its ask
pub block_agrees : (a b : Core) (s : Site) (k : Ask) → Decoded a s k → Agree k.decode.items (shaped a s).tests a b → shaped b s ≡ shaped a s
block_agrees a b s k d g =
    let e : k.decode.items ≡ s.decode.items ++ (shaped a s).reads = ap (λ (x : Ask). x.decode.items) d.asks
    ∙ decode_of a (s.decode.items ++ (shaped a s).reads) d.shape in
    (local_shaped s).same a b (record {
      words = λ p i. g.words p (subst (λ ps. Contains ps p) (sym e) (Contains-append_right s.decode.items (shaped a s).reads p i));
      marks = g.marks;
    })

ask_same_block : (a b : Core) (s : Site) (k : Ask) → s.channel ≡ None → Decoded a s k → Agree k.decode.items (shaped a s).tests a b
    → Words k.operand.items a b → ask b s ≡ Ok k
ask_same_block a b s k n d g w =
    let e = block_agrees a b s k d g in
    let o : k.operand.items ≡ filter_map operand_of d.shape.arguments = ap (λ (x : Ask). x.operand.items) d.asks
    ∙ operand_is a (s.decode.items ++ (shaped a s).reads) d.shape in
    asked_by_block b s d.shape n (ap (λ t. t.answer) e ∙ d.shaped_is)
    ∙ ap (λ t. Ok (ask_of b (s.decode.items ++ t.reads) d.shape)) e
    ∙ ap Ok (ask_of_same a b (s.decode.items ++ (shaped a s).reads) d.shape (subst (λ ps. Words ps a b) o w) ∙ sym d.asks)

-- a call asks for the same in two cores that agree in its decode words, in its operand words and in
-- what is tested
pub ask_same : (a b : Core) (s : Site) (k : Ask) → ask a s ≡ Ok k → Agree k.decode.items (shaped a s).tests a b → Words k.operand.items a b → ask b s ≡ Ok k
ask_same a b s k e g w = go s.channel refl
  where
    go : (o : Option ℕ) → s.channel ≡ o → ask b s ≡ Ok k
    go None n = ask_same_block a b s k n (decoded_of a s k n e) g w
    go (Some ch) n = asked_by_iot b s ch n ∙ sym (asked_by_iot a s ch n) ∙ e
