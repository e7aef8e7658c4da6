-- Worked examples of the decoding, evaluated: sites of calls, blocks that are as they should be,
-- and each way in which a block is not. Numbers are octal if they begin with 0o.
use Rattle.std.specs.Prelude.{◌≡◌, ℕ, ◌-◌, true, false, Bool, List, [], ◌∷◌, ◌++◌, length, replicate, Option, Some, None, Result, Ok, Err, refl, codes}
use Rattle.its_word.specs.Address.{calculation, index_places, indexed, last_used}
use Rattle.its_word.specs.Core.{Core, Page, can_store, page_of, word_at}
use Rattle.its_word.specs.Opcode.{branch_opcode, full_word_opcode, instruction_of, monitor_opcode}
use Rattle.its_word.specs.Text.{sixbit_of}
use Rattle.its_word.specs.declared.access.Fault.{Fault}
use Rattle.its_word.specs.declared.access.Fault.TheVariants.{Mpv, Wro, Ilo}
use Rattle.its_records.specs.declared.calls.Ask.{Ask}
use Rattle.its_records.specs.declared.calls.Site.{Site}
use Rattle.its_records.specs.declared.jobs.Channel.TheVariants.{Closed}
use Rattle.its_records.specs.declared.jobs.Job.{Job}
use Rattle.its_frame.specs.declared.name.CallName.TheVariants.{Access, Close, Corblk, Delete, Dismis, Fillen, Finish, Hang, Iot, Listen, Logout, Open, Rename, Siot, Sleep, Ttylnd, Uclose, Usrmem, Usrvar}
use Rattle.its_frame.specs.Calls.{sixbit, call_named}
use Rattle.its_plain.specs.Unit.Plans.{read_of}
use Rattle.its_plain.specs.Unit.Trace.{also, located, word}
use Rattle.its_plain.specs.Unit.{Called, Faulted, chain, decoded, done_by, reached, target_of, chain_step, chain_step_at, unit}
use Rattle.its_plain.specs.Call.Decode.{argument, argument_at, argument_words, arguments, ask, ask_of, block_at, error_by, exceeds, held, iot_ask, is_legal, kind_of, parsed, row_named, shaped, storable}

-- words of a page, with some more from an address on
abbrev with_words : List ℕ → ℕ → List ℕ → List ℕ
with_words before a words = before ++ replicate (a - length before) 0 ++ words

abbrev page : Bool → List ℕ → Option Page
page writable words = Some (record { words = words; writable = writable })

-- a core with accumulators of 0, these words in page 0, and words 2000 and 2001 in page 1, which is
-- read only
abbrev core_of : List ℕ → Core
core_of words = record { accs = replicate 16 0; pages = page true words ∷ page false (7 ∷ 7 ∷ []) ∷ [] }

-- a job at a PC
abbrev job_at : ℕ → Job
job_at pc = record {
  pc = pc;
  flags = 0;
  stopped = false;
  pend1 = 0;
  pend2 = 0;
  mask1 = 0;
  mask2 = 0;
  defer1 = 0;
  defer2 = 0;
  uname = 0;
  jname = 0;
  console = None;
  channels = replicate 16 Closed;
}

-- the image of a job that types: an sixbit Open at 100, a sixbit Siot at 102 with its block at 130
-- and its pointer and count at 200
abbrev siot_core : Core
siot_core =
    core_of
    (with_words
    (with_words
    (with_words [] 0o100 (0o043000000120 ∷ 0o045700000000 ∷ 0o043000000130 ∷ 0o045700000000 ∷ 0o045700000000 ∷ [])) 0o130
    (0o400000000000 ∷ 0o635157640000 ∷ 0o001000000001 ∷ 0o000000000200 ∷ 0o400000000201 ∷ [])) 0o200
    (0o440700001000 ∷ 5 ∷ []))

abbrev siot_site : Site
siot_site = record { pc = 0o102; e = 0o130; channel = None; used = 0; decode = record { items = 0o102 ∷ [] } }

siot_called : unit siot_core (job_at 0o102) ≡ Called siot_site
unfolding unit reached also word read_of word_at page_of chain chain_step decoded instruction_of monitor_opcode located calculation
    index_places indexed last_used chain_step_at done_by
siot_called = refl

siot_decoded : ask siot_core siot_site ≡ Ok (record {
  name = sixbit Siot;
  fail = 0;
  inputs = record {
    items =
        record { value = 1; place = None }
        ∷ record { value = 0o440700001000; place = Some 0o200 }
        ∷ record { value = 5; place = Some 0o201 }
        ∷ [];
  };
  outputs = record { items = [] };
  error = None;
  control = None;
  decode = record { items = 0o102 ∷ 0o130 ∷ 0o131 ∷ 0o132 ∷ 0o133 ∷ 0o134 ∷ [] };
  operand = record { items = 0o200 ∷ 0o201 ∷ [] };
})
unfolding ask shaped parsed block_at argument_words also word read_of word_at page_of is_legal arguments argument located calculation
    index_places indexed last_used kind_of argument_at held storable can_store ask_of row_named call_named sixbit error_by exceeds
siot_decoded = refl

-- 100 is XCT @101(1), 101 has 200, and 200 is `.sixbit Iot 4,0(1)` with accumulator 1 = 0: the
-- words are read in this order
abbrev iot_site : Site
iot_site = record {
  pc = 0o100;
  e = 0;
  channel = Some 4;
  used = 2;
  decode = record { items = 0o100 ∷ 1 ∷ 0o101 ∷ 0o200 ∷ 1 ∷ [] };
}

iot_called : unit (core_of (with_words (with_words [] 0o100 (0o256021000101 ∷ 0o200 ∷ [])) 0o200 (0o040201000000 ∷ []))) (job_at 0o100) ≡ Called iot_site
unfolding unit reached also word read_of word_at page_of chain chain_step decoded instruction_of monitor_opcode full_word_opcode
    branch_opcode located calculation index_places indexed last_used chain_step_at target_of done_by
iot_called = refl

iot_decoded : (c : Core) → ask c iot_site ≡ Ok (record {
  name = sixbit Iot;
  fail = 0;
  inputs = record { items = record { value = 4; place = None } ∷ [] };
  outputs = record { items = 0 ∷ [] };
  error = None;
  control = None;
  decode = iot_site.decode;
  operand = record { items = [] };
})
unfolding ask iot_ask
iot_decoded c = refl

-- `.CALL 1,` is ILO at once; so is the 65th indirect word of `.CALL @101`, if 101 has 20000101
not_called :
    (unit (core_of (with_words [] 0o100 (0o043040000130 ∷ []))) (job_at 0o100) ≡ Faulted Ilo)
    × (unit (core_of (with_words [] 0o100 (0o043020000101 ∷ 0o000020000101 ∷ []))) (job_at 0o100) ≡ Faulted Ilo)
unfolding unit reached also word read_of word_at page_of chain chain_step decoded instruction_of monitor_opcode located calculation
    index_places indexed last_used chain_step_at done_by
not_called = (refl, refl)

-- the number of the error of a block at 120, its error address and its control; or its fault
pub record Told : Type 0 where
  pub fail : ℕ
  pub error : Option ℕ
  pub control : Option ℕ

abbrev told_by : Result Ask Fault → Result Told Fault
told_by (Ok k) = Ok (record { fail = k.fail; error = k.error; control = k.control })
told_by (Err f) = Err f

abbrev block_told : List ℕ → Result Told Fault
block_told block =
    told_by
    (ask (core_of (with_words [] 0o120 block)) (record { pc = 0o100; e = 0o120; channel = None; used = 0; decode = record { items = 0o100 ∷ [] } }))

abbrev tells : ℕ → Option ℕ → Option ℕ → Result Told Fault
tells fail error control = Ok (record { fail = fail; error = error; control = control })

-- blocks with an error: in turn no such call, also if a block names sixbit Iot; too few inputs, too
-- few outputs; too many inputs, too many outputs, two error addresses, two controls, no end within
-- 8 words
errors_told :
    (block_told (0o400000000000 ∷ 0o414141000000 ∷ 0o403000000120 ∷ []) ≡ tells 1 (Some 0o120) None)
    × (block_told (0o400000000000 ∷ sixbit Iot ∷ 0o401000000004 ∷ []) ≡ tells 1 None None)
    × (block_told (0o400000000000 ∷ sixbit Corblk ∷ 0o001000000001 ∷ 0o401000777777 ∷ []) ≡ tells 2 None None)
    × (block_told (0o400000000000 ∷ sixbit Listen ∷ 0o401000000001 ∷ []) ≡ tells 2 None None)
    × (block_told (0o400000000000 ∷ sixbit Close ∷ 0o001000000001 ∷ 0o401000000002 ∷ []) ≡ tells 3 None None)
    × (block_told (0o400000000000 ∷ sixbit Close ∷ 0o001000000001 ∷ 0o402000000002 ∷ []) ≡ tells 3 None None)
    × (block_told (0o400000000000 ∷ sixbit Close ∷ 0o001000000001 ∷ 0o003000000120 ∷ 0o403000000121 ∷ []) ≡ tells 3 (Some 0o120) None)
    × (block_told (0o400000000000 ∷ sixbit Open ∷ 0o001000000001 ∷ 0o001000000002 ∷ 0o005000000001 ∷ 0o404000000120 ∷ []) ≡ tells 3 None (Some 1))
    × (block_told (0o400000000000 ∷ sixbit Rename ∷ 0o001000000001 ∷ 0o001000000002 ∷ 0o001000000003 ∷ 0o001000000004 ∷ 0o001000000005
    ∷ 0o001000000006 ∷ 0o003000000121 ∷ 0o005000000007 ∷ 0o400000000000 ∷ [])
    ≡ tells 3 (Some 0o121) (Some 7))
    × (block_told (0o400000000000 ∷ sixbit Rename ∷ 0o001000000001 ∷ 0o001000000002 ∷ 0o001000000003 ∷ 0o001000000004 ∷ 0o001000000005
    ∷ 0o001000000006 ∷ 0o003000000121 ∷ 0o405000000007 ∷ [])
    ≡ tells 0 (Some 0o121) (Some 7))
unfolding ask shaped parsed block_at argument_words also word read_of word_at page_of is_legal arguments argument located calculation
    index_places indexed last_used kind_of argument_at held storable can_store ask_of row_named call_named sixbit error_by exceeds
errors_told = (refl, refl, refl, refl, refl, refl, refl, refl, refl, refl)

-- blocks with a fault: bit 0 of the first word off; type 6; type 6 in the last word, after an
-- argument that would fault; a word of the block absent; an input absent; an output that is read
-- only; an error address absent; a second error address that is read only; an argument that is an
-- indirect word of itself
faults_told :
    (block_told (0o000000000000 ∷ sixbit Close ∷ 0o401000000001 ∷ []) ≡ Err Ilo)
    × (block_told (0o400000000000 ∷ sixbit Close ∷ 0o406000000001 ∷ []) ≡ Err Ilo)
    × (block_told (0o400000000000 ∷ sixbit Close ∷ 0o000000004000 ∷ 0o407000000001 ∷ []) ≡ Err Ilo)
    × (block_told (0o400000000000 ∷ sixbit Close ∷ 0o001000000001 ∷ []) ≡ Err Mpv)
    × (block_told (0o400000000000 ∷ sixbit Close ∷ 0o400000004000 ∷ []) ≡ Err Mpv)
    × (block_told (0o400000000000 ∷ sixbit Close ∷ 0o402000002001 ∷ []) ≡ Err Wro)
    × (block_told (0o400000000000 ∷ sixbit Close ∷ 0o403000004000 ∷ []) ≡ Err Mpv)
    × (block_told (0o400000000000 ∷ sixbit Close ∷ 0o003000000120 ∷ 0o403000002000 ∷ []) ≡ Err Wro)
    × (block_told (0o400000000000 ∷ sixbit Close ∷ 0o400020000122 ∷ []) ≡ Err Ilo)
unfolding ask shaped parsed block_at argument_words also word read_of word_at page_of is_legal arguments argument located calculation
    index_places indexed last_used kind_of argument_at held storable can_store ask_of row_named call_named sixbit error_by exceeds
faults_told = (refl, refl, refl, refl, refl, refl, refl, refl, refl)

-- a block at 777776 goes on at 0, which is accumulator 0
abbrev wrapped_core : Core
wrapped_core = record {
  accs = 0o401000000003 ∷ replicate 15 0;
  pages = replicate 255 None ++ page true (with_words [] 0o1776 (0o400000000000 ∷ sixbit Close ∷ [])) ∷ [];
}

wrapped_decoded : ask wrapped_core (record { pc = 0o17; e = 0o777776; channel = None; used = 0; decode = record { items = 0o17 ∷ [] } }) ≡ Ok (record {
  name = sixbit Close;
  fail = 0;
  inputs = record { items = record { value = 3; place = None } ∷ [] };
  outputs = record { items = [] };
  error = None;
  control = None;
  decode = record { items = 0o17 ∷ 0o777776 ∷ 0o777777 ∷ 0 ∷ [] };
  operand = record { items = [] };
})
unfolding ask shaped parsed block_at argument_words also word read_of word_at page_of is_legal arguments argument located calculation
    index_places indexed last_used kind_of argument_at held storable can_store ask_of row_named call_named sixbit error_by exceeds
wrapped_decoded = refl

-- the names of the table are what they say
names_spelled :
    (sixbit Hang ≡ sixbit_of (codes "HANG")) × (sixbit Sleep ≡ sixbit_of (codes "SLEEP")) × (sixbit Dismis ≡ sixbit_of (codes "DISMIS"))
    × (sixbit Usrvar ≡ sixbit_of (codes "USRVAR"))
    × (sixbit Logout ≡ sixbit_of (codes "LOGOUT")) × (sixbit Open ≡ sixbit_of (codes "OPEN")) × (sixbit Close ≡ sixbit_of (codes "CLOSE"))
    × (sixbit Siot ≡ sixbit_of (codes "SIOT"))
    × (sixbit Finish ≡ sixbit_of (codes "FINISH")) × (sixbit Listen ≡ sixbit_of (codes "LISTEN"))
    × (sixbit Ttylnd ≡ sixbit_of (codes "TTYLND")) × (sixbit Access ≡ sixbit_of (codes "ACCESS"))
    × (sixbit Fillen ≡ sixbit_of (codes "FILLEN")) × (sixbit Delete ≡ sixbit_of (codes "DELETE"))
    × (sixbit Rename ≡ sixbit_of (codes "RENAME")) × (sixbit Usrmem ≡ sixbit_of (codes "USRMEM"))
    × (sixbit Uclose ≡ sixbit_of (codes "UCLOSE")) × (sixbit Corblk ≡ sixbit_of (codes "CORBLK")) × (sixbit Iot ≡ sixbit_of (codes "IOT"))
unfolding sixbit_of sixbit
names_spelled = (refl, refl, refl, refl, refl, refl, refl, refl, refl, refl, refl, refl, refl, refl, refl, refl, refl, refl, refl)
