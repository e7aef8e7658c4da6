-- The decoding of a call in one pass: what each part reads is noted as it is read, and the
-- arguments are sorted as they are found.
-- No promise rests on this.
use Rattle.std.specs.Prelude.{◌≡◌, ℕ, ◌+◌, ◌++◌, [], ◌∷◌, List, Option, Some, None, Result, Ok, Err, length, slice_get}
use Rattle.std.specs.List.{cons_option, filter_map}
use Rattle.its_word.specs.ArrayVec.{ArrayVec}
use Rattle.its_word.specs.Core.{Core}
use Rattle.its_word.specs.declared.access.Fault.{Fault}
use Rattle.its_records.specs.declared.calls.Arg.{Arg}
use Rattle.its_records.specs.declared.calls.Arg.TheVariants.{Input, Output, ErrorAt, Control}
use Rattle.its_records.specs.declared.calls.Ask.{Ask}
use Rattle.its_records.specs.declared.calls.Site.{Site}
use Rattle.its_plain.specs.Call.Decode.{input_of, output_of, error_at_of, control_of, operand_of, value_of, held_place, iot_ask, row_named, error_by, exceeds, name_of, words_of}
use Rattle.its_plain.specs.Unit.Trace.{Traced}
use Rattle.its_direct.specs.declared.step.sorting.Parts.{Parts}

-- a part of a decoding has this answer, and the places that it reads are noted after those noted
-- before
pub record Reads {X : Type 0} (t : Traced X) (r : Result X Fault) (old new : List ℕ) : Type 0 where
  pub answer : r ≡ t.answer
  pub places : new ≡ old ++ t.reads

-- arguments by what they are: inputs, outputs, how many error addresses and the first, how many
-- controls and the first, and the places of the words of inputs and controls
unfoldable pub parts_of : Core → List Arg → Parts
parts_of c xs = record {
  inputs = record { items = filter_map (input_of c) xs };
  outputs = record { items = filter_map output_of xs };
  errors = length (filter_map error_at_of xs);
  error = slice_get (filter_map error_at_of xs) 0;
  controls = length (filter_map (control_of c) xs);
  control = slice_get (filter_map (control_of c) xs) 0;
  operand = record { items = filter_map operand_of xs };
}

-- those of no argument
abbrev pub no_parts : Parts
no_parts = record {
  inputs = record { items = [] };
  outputs = record { items = [] };
  errors = 0;
  error = None;
  controls = 0;
  control = None;
  operand = record { items = [] };
}

abbrev pub first_error : Option ℕ → ℕ → Option ℕ
first_error (Some x) y = Some x
first_error None y = Some y

-- one more
abbrev pub with_argument : Core → Arg → Parts → Parts
with_argument c (Input s) p = record p {
  inputs = record { items = p.inputs.items ++ record { value = value_of c s; place = held_place s } ∷ [] };
  operand = record { items = p.operand.items ++ cons_option (held_place s) [] };
}
with_argument c (Output a) p = record p { outputs = record { items = p.outputs.items ++ a ∷ [] } }
with_argument c (ErrorAt a) p = record p { errors = p.errors + 1; error = first_error p.error a }
with_argument c (Control s) p = record p {
  controls = p.controls + 1;
  control = first_error p.control (value_of c s);
  operand = record { items = p.operand.items ++ cons_option (held_place s) [] };
}

abbrev pub sorted_by : Core → Result (ArrayVec Arg) Fault → Result Parts Fault
sorted_by c (Ok xs) = Ok (parts_of c xs.items)
sorted_by c (Err f) = Err f

-- arguments are found and sorted so, and the places that are read are noted
pub record Sorts (c : Core) (t : Traced (ArrayVec Arg)) (r : Result Parts Fault) (old new : List ℕ) : Type 0 where
  pub answer : r ≡ sorted_by c t.answer
  pub places : new ≡ old ++ t.reads

-- what is asked with these decode words, in a block with such arguments
unfoldable pub ask_from : List ℕ → List ℕ → Parts → Ask
ask_from decode block p = record {
  name = name_of block;
  fail = error_by (row_named (name_of block)) (length p.inputs.items) (length p.outputs.items) (exceeds p.errors p.controls (words_of block));
  inputs = p.inputs;
  outputs = p.outputs;
  error = p.error;
  control = p.control;
  decode = record { items = decode };
  operand = p.operand;
}

-- what `.IOT` asks for through a channel, with this E and these decode words
abbrev pub iot_asked : ℕ → ℕ → List ℕ → Ask
iot_asked e channel decode = iot_ask (record { pc = 0; e = e; channel = Some channel; used = 0; decode = record { items = decode } }) channel

-- a site of a call by the block at E: of its PC nothing is asked
abbrev pub block_site : ℕ → ℕ → List ℕ → Site
block_site e used decode = record { pc = 0; e = e; channel = None; used = used; decode = record { items = decode } }

-- what is asked was put into a place, or there is a fault
abbrev pub put_as : {X : Type 0} → Result X Fault → Ask → Result Ask Fault
put_as (Ok x) a = Ok a
put_as (Err f) a = Err f
