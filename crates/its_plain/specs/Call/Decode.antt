-- The decoding of a symbolic call (docs/CALLS.md, "Decoding"): its block, its arguments one by one,
-- and what is asked.
-- A promise rests on this.
use Rattle.std.specs.Prelude.{if◌then◌else◌, ◌==◌, ◌||◌, ◌&&◌, ℕ, zero, suc, ◌+◌, ◌/◌, ◌%◌, ◌^◌, Bool, true, false, List, [], ◌∷◌, ◌++◌, length, drop, not, Option, Some, None, Result, Ok, Err, nat_lt, slice_get, slice_index, unwrap_or}
use Rattle.std.specs.List.{filter_map, list_all, list_any}
use Rattle.its_word.specs.ArrayVec.{ArrayVec}
use Rattle.its_word.specs.Word.{pair_of}
use Rattle.its_word.specs.Core.{Core, word_at}
use Rattle.its_word.specs.Stores.{refused}
use Rattle.its_word.specs.declared.access.Fault.{Fault}
use Rattle.its_word.specs.declared.access.Fault.TheVariants.{Mpv, Ilo}
use Rattle.its_records.specs.declared.calls.Arg.{Arg}
use Rattle.its_records.specs.declared.calls.Arg.TheVariants.{Input, Output, ErrorAt, Control}
use Rattle.its_records.specs.declared.calls.Ask.{Ask}
use Rattle.its_records.specs.declared.calls.Kind.{Kind}
use Rattle.its_records.specs.declared.calls.Kind.TheVariants as kinds
use Rattle.its_records.specs.declared.calls.Operand.{Operand}
use Rattle.its_records.specs.declared.calls.Placed.{Placed}
use Rattle.its_records.specs.declared.calls.Site.{Site}
use Rattle.its_records.specs.declared.calls.Source.{Source}
use Rattle.its_records.specs.declared.calls.Source.TheVariants.{Held, Immediate}
use Rattle.its_frame.specs.declared.name.CallName.{CallName}
use Rattle.its_frame.specs.declared.name.CallName.TheVariants.{Iot}
use Rattle.its_frame.specs.declared.name.CallRow.{CallRow}
use Rattle.its_frame.specs.Calls.{call_row, sixbit, call_named}
use Rattle.its_frame.specs.Errors as error
use Rattle.its_plain.specs.Unit.Plans.{given}
use Rattle.its_plain.specs.Unit.Trace.{Traced, gives, faults, also, word, located}

-- a place that must have a word, which is not read yet; MPV if it is absent
abbrev pub there : ℕ → Option ℕ → Result ℕ Fault
there p (Some w) = Ok p
there p None = Err Mpv

unfoldable pub held : Core → ℕ → Traced ℕ
held c p = record { answer = there p (word_at c p); reads = []; tests = p ∷ [] }

-- a place at which a word can be stored; MPV if it is absent, WRO if it is read only
abbrev pub allowed : ℕ → Option Fault → Result ℕ Fault
allowed p None = Ok p
allowed p (Some f) = Err f

unfoldable pub storable : Core → ℕ → Traced ℕ
storable c p = record { answer = allowed p (refused c p); reads = []; tests = p ∷ [] }

-- bit 0, and the type of an argument, bits 6 to 8
abbrev pub has_bit_0 : ℕ → Bool
has_bit_0 w = w / 2 ^ 35 == 1

abbrev pub type_of : ℕ → ℕ
type_of w = w / 2 ^ 27 % 8

-- the first word of a block, its name, and its argument words
abbrev pub first_word : List ℕ → ℕ
first_word block = slice_index block 0

abbrev pub name_of : List ℕ → ℕ
name_of block = slice_index block 1

abbrev pub words_of : List ℕ → List ℕ
words_of block = drop 2 block

-- argument words go on up to the first with bit 0 on
abbrev pub up_to_last : Bool → (List ℕ → Traced (ArrayVec ℕ)) → List ℕ → Traced (ArrayVec ℕ)
up_to_last true rest seen = gives (record { items = seen })
up_to_last false rest seen = rest seen

-- the block whose words so far are these, with the argument words from an address on, of which at
-- most n are read. Addresses have 18 bits
unfoldable pub argument_words : ℕ → Core → ℕ → List ℕ → Traced (ArrayVec ℕ)
argument_words zero c a seen = gives (record { items = seen })
argument_words (suc n) c a seen =
    also (word c (a % 2 ^ 18)) (λ w. up_to_last (has_bit_0 w) (λ ws. argument_words n c (a + 1) ws) (seen ++ w ∷ []))

-- the block at an address, with at most 8 argument words
unfoldable pub block_at : Core → ℕ → Traced (ArrayVec ℕ)
block_at c e =
    also (word c (e % 2 ^ 18)) (λ first. also (word c ((e + 1) % 2 ^ 18)) (λ name. argument_words 8 c (e + 2) (first ∷ name ∷ [])))

-- bit 0 of the first word is on, and no argument has type 6 or 7
unfoldable pub is_legal : List ℕ → Bool
is_legal block = has_bit_0 (first_word block) && list_all (λ w. nat_lt (type_of w) 6) (words_of block)

abbrev pub checked : Bool → ArrayVec ℕ → Traced (ArrayVec ℕ)
checked true block = gives block
checked false block = faults Ilo

-- the block of a call: it is read whole, and ILO if it is not legal
unfoldable pub parsed : Core → ℕ → Traced (ArrayVec ℕ)
parsed c e = also (block_at c e) (λ block. checked (is_legal block.items) block)

-- the types of arguments: 0 input, 1 immediate input, 2 output, 3 error, 4 control, 5 immediate
-- control
unfoldable pub kind_of : ℕ → Kind
kind_of w =
    if type_of w == 0 then kinds.Input
    else (if type_of w == 1 then kinds.Immediate
    else (if type_of w == 2 then kinds.Output
    else (if type_of w == 3 then kinds.ErrorAt
    else (if type_of w == 4 then kinds.Control
    else (if type_of w == 5 then kinds.ImmediateControl else kinds.Other)))))

-- an argument of a kind whose address is e. An output or error address must allow a store
unfoldable pub argument_at : Kind → Core → ℕ → Traced Arg
argument_at kinds.Input c e = also (held c e) (λ p. gives (Input (Held p)))
argument_at kinds.Immediate c e = gives (Input (Immediate (pair_of 0 e)))
argument_at kinds.Output c e = also (storable c e) (λ p. gives (Output p))
argument_at kinds.ErrorAt c e = also (storable c e) (λ p. gives (ErrorAt p))
argument_at kinds.Control c e = also (held c e) (λ p. gives (Control (Held p)))
argument_at kinds.ImmediateControl c e = gives (Control (Immediate (pair_of 0 e)))
argument_at kinds.Other c e = faults Ilo

-- the argument of an argument word, when so much of the budget is used
unfoldable pub argument : Core → ℕ → ℕ → Traced Placed
argument c w used =
    also (located c w used) (λ f. also (argument_at (kind_of w) c f.at.e) (λ x. gives (record { argument = x; used = f.used })))

-- the arguments of argument words, one by one, after those that are found already
unfoldable pub arguments : List ℕ → Core → ℕ → List Arg → Traced (ArrayVec Arg)
arguments [] c used seen = gives (record { items = seen })
arguments (w ∷ ws) c used seen = also (argument c w used) (λ x. arguments ws c x.used (seen ++ x.argument ∷ []))

-- what a decoding finds before any value is taken: the block, and its arguments
pub record Shape : Type 0 where
  pub block : List ℕ
  pub arguments : List Arg

unfoldable pub shaped : Core → Site → Traced Shape
shaped c s =
    also (parsed c s.e)
    (λ block. also (arguments (words_of block.items) c s.used []) (λ xs. gives (record { block = block.items; arguments = xs.items })))

-- the value that a source has, and the place of its word, if there is one
abbrev pub value_of : Core → Source → ℕ
value_of c (Held p) = unwrap_or (word_at c p) 0
value_of c (Immediate v) = v

abbrev pub held_place : Source → Option ℕ
held_place (Held p) = Some p
held_place (Immediate v) = None

-- what an argument is as an input, an output, an error address and a control; and the word that it
-- takes its value from
abbrev pub input_of : Core → Arg → Option Operand
input_of c (Input s) = Some (record { value = value_of c s; place = held_place s })
input_of c _ = None

abbrev pub output_of : Arg → Option ℕ
output_of (Output p) = Some p
output_of _ = None

abbrev pub error_at_of : Arg → Option ℕ
error_at_of (ErrorAt p) = Some p
error_at_of _ = None

abbrev pub control_of : Core → Arg → Option ℕ
control_of c (Control s) = Some (value_of c s)
control_of c _ = None

abbrev pub operand_of : Arg → Option ℕ
operand_of (Input s) = held_place s
operand_of (Control s) = held_place s
operand_of _ = None

-- the row of a call that a block can name: any but `.IOT`, which has none
abbrev pub row_by : Option CallName → Option CallRow
row_by (Some Iot) = None
row_by (Some n) = Some (call_row n)
row_by None = None

unfoldable pub row_named : ℕ → Option CallRow
row_named name = row_by (call_named name)

-- no call has the name; else there are too few inputs or outputs; else there are too many of these,
-- or something else is too much
unfoldable pub error_by : Option CallRow → ℕ → ℕ → Bool → ℕ
error_by None inputs outputs excess = error.NO_CALL
error_by (Some r) inputs outputs excess =
    if nat_lt inputs r.least_in || nat_lt outputs r.least_out then error.TOO_FEW
    else (if nat_lt r.most_in inputs || nat_lt r.most_out outputs || excess then error.TOO_MANY else 0)

-- what else is too much: a second error address, a second control, or no end of the argument words
unfoldable pub exceeds : ℕ → ℕ → List ℕ → Bool
exceeds errors controls words = nat_lt 1 errors || nat_lt 1 controls || not (list_any has_bit_0 words)

-- what a call asks for, with the places of its decode words: the values are taken now. The first
-- error address counts, and the first control
unfoldable pub ask_of : Core → List ℕ → Shape → Ask
ask_of c decode h =
    let inputs = filter_map (input_of c) h.arguments in
    let outputs = filter_map output_of h.arguments in
    let errors = filter_map error_at_of h.arguments in
    let controls = filter_map (control_of c) h.arguments in
    record {
      name = name_of h.block;
      fail =
          error_by (row_named (name_of h.block)) (length inputs) (length outputs) (exceeds (length errors) (length controls) (words_of h.block));
      inputs = record { items = inputs };
      outputs = record { items = outputs };
      error = slice_get errors 0;
      control = slice_get controls 0;
      decode = record { items = decode };
      operand = record { items = filter_map operand_of h.arguments };
    }

-- `.IOT` has no block: its channel is its one input, which has no place, and E its one output
-- address, at which nothing is looked for yet
unfoldable pub iot_ask : Site → ℕ → Ask
iot_ask s channel = record {
  name = sixbit Iot;
  fail = 0;
  inputs = record { items = record { value = channel; place = None } ∷ [] };
  outputs = record { items = s.e ∷ [] };
  error = None;
  control = None;
  decode = s.decode;
  operand = record { items = [] };
}

abbrev pub ask_by : Core → Site → Option ℕ → Result Ask Fault
ask_by c s (Some channel) = Ok (iot_ask s channel)
ask_by c s None = given (shaped c s).answer (λ h. Ok (ask_of c (s.decode.items ++ (shaped c s).reads) h))

-- what a call asks for, or the fault of its decoding. Of a call by a block the decode words are
-- those of the site, those of the block, and those of the arguments' addresses, in the order of
-- reading
unfoldable pub ask : Core → Site → Result Ask Fault
ask c s = ask_by c s s.channel
