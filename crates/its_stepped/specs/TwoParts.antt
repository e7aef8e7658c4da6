-- The decoding of a call in two parts, which the stepped machine performs at two ticks: at one the
-- words of the block, at the other addresses and values. `.IOT` has no block. The law
-- `TwoLaws.in_two` says that both together give what one pass gives.
-- No promise rests on this.
use Rattle.std.specs.Prelude.{ℕ, ◌%◌, ◌^◌, List, [], ◌++◌, length, map, Option, Some, None, Result, Ok, Err}
use Rattle.std.specs.List.{range_with_len}
use Rattle.its_word.specs.ArrayVec.{ArrayVec}
use Rattle.its_word.specs.Core.{Core}
use Rattle.its_word.specs.declared.access.Fault.{Fault}
use Rattle.its_records.specs.declared.calls.Arg.{Arg}
use Rattle.its_records.specs.declared.calls.Ask.{Ask}
use Rattle.its_records.specs.declared.calls.Site.{Site}
use Rattle.its_plain.specs.Unit.Plans.{given}
use Rattle.its_plain.specs.Call.Decode.{arguments, ask_of, iot_ask, parsed, words_of}
use Rattle.its_plain.specs.Unit.Trace.{Traced}

-- the second half of the decoding of a call by a block, when the block is read already: the places
-- of its words are known
abbrev pub block_places : ℕ → List ℕ → List ℕ
block_places e block = map (λ k. k % 2 ^ 18) (range_with_len e (length block))

abbrev pub fetched_by : Core → List ℕ → List ℕ → Traced (ArrayVec Arg) → Result Ask Fault
fetched_by c decode block t =
    given t.answer (λ xs. Ok (ask_of c (decode ++ t.reads) (record { block = block; arguments = xs.items })))

unfoldable pub fetched : Core → Site → ArrayVec ℕ → Result Ask Fault
fetched c s block =
    fetched_by c (s.decode.items ++ block_places s.e block.items) block.items (arguments (words_of block.items) c s.used [])

-- the two parts of the decoding of any call: for `.IOT` no block is read
abbrev pub parse_by : Core → Site → Option ℕ → Result (ArrayVec ℕ) Fault
parse_by c s (Some channel) = Ok (record { items = [] })
parse_by c s None = (parsed c s.e).answer

unfoldable pub parse_of : Core → Site → Result (ArrayVec ℕ) Fault
parse_of c s = parse_by c s s.channel

abbrev pub fetch_by : Core → Site → ArrayVec ℕ → Option ℕ → Result Ask Fault
fetch_by c s block (Some channel) = Ok (iot_ask s channel)
fetch_by c s block None = fetched c s block

unfoldable pub fetch_of : Core → Site → ArrayVec ℕ → Result Ask Fault
fetch_of c s block = fetch_by c s block s.channel

abbrev pub items_of : Result (ArrayVec ℕ) Fault → Result (List ℕ) Fault
items_of (Ok b) = Ok b.items
items_of (Err f) = Err f

-- the words of the block, or the fault of reading it
unfoldable pub parse : Core → Site → Result (List ℕ) Fault
parse c s = items_of (parse_of c s)

-- what is asked for, of a block that is read already
unfoldable pub fetch : Core → Site → List ℕ → Result Ask Fault
fetch c s b = fetch_of c s (record { items = b })
