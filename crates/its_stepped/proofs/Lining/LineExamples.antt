-- Worked examples of the lines of a session, evaluated.
use Rattle.std.specs.Prelude.{◌≡◌, ℕ, false, Option, Some, None, List, [], ◌∷◌, ◌++◌, refl}
use Rattle.its_word.specs.Core.{no_core, word_at}
use Rattle.its_word.specs.Directory.{File, same_names}
use Rattle.its_records.specs.Item.{Read}
use Rattle.its_word.specs.Limits.{limit_of}
use Rattle.its_records.specs.Tree.{free_from, least_free, fresh_job, climbs_to}
use Rattle.its_records.specs.declared.calls.Ask.{Ask}
use Rattle.its_records.specs.declared.calls.Operand.{Operand}
use Rattle.its_records.specs.declared.calls.Owed.TheVariants.{Link, Free, Leave}
use Rattle.its_records.specs.declared.calls.Pace.TheVariants.{Off}
use Rattle.its_records.specs.declared.calls.Site.{Site}
use Rattle.its_records.specs.declared.session.Event.TheVariants as events
use Rattle.its_records.specs.declared.session.Reason.TheVariants as reasons
use Rattle.its_records.specs.declared.show.Peek.{Peek}
use Rattle.its_records.specs.declared.show.PeekState.TheVariants as states
use Rattle.its_records.specs.declared.state_line.StateLine.TheVariants as state_lines
use Rattle.its_frame.specs.declared.frame.Frame.{Frame}
use Rattle.its_print.specs.Printing as printed
use Rattle.its_plain.specs.Operator.{no_block, Does}
use Rattle.its_plain.specs.Operator.Jobs.{after_load, on_registers}
use Rattle.its_plain.specs.Operator.Clock.{due_slots, after_clock}
use Rattle.its_plain.specs.Operator.Lines.{operate, Lined, Done, lined}
use Rattle.its_plain.specs.Operator.State.{with_job_made, with_superior_set, with_tty, with_bytes_waiting, restored}
use Rattle.its_plain.specs.Machine.{no_machine, with_jobs, whole}
use Rattle.its_frame.specs.Calls.{sixbit, call_named}
use Rattle.its_plain.specs.Machine.Own.{names_of, exit_of}
use Rattle.its_plain.specs.Call.File.{blocks_of_drafts}
use Rattle.its_plain.specs.Operator.Files.{with_file_made, with_word_added, files_in, file_shown}
use Rattle.its_plain.specs.Transcript.{Ended, Open, Refused}
use Rattle.its_stepped.specs.State.{LinkNew, FreeOld, State, after_help, no_state, parsed, waiting, moving, ending}
use Rattle.its_stepped.specs.Unwind.{help, left, unwound, all_unwound, unwind_times}
use Rattle.its_stepped.specs.Tick.{tick}
use Rattle.its_stepped.specs.Lines.{peeked, after_calm, told, stepped}

-- a job is made, looked at, ticked while it is stopped, and stopped again
idle : stepped (Read (events.Load 1 2 None) ∷ Read (events.Peek 0) ∷ Read (events.Clock 5) ∷ Read (events.Tick 0 2) ∷ Read (events.Stop 0)
    ∷ Read events.End ∷ []) ≡ record {
      lines = printed.Loaded 0
          ∷ printed.Peeked 0 (record { state = states.User; name = None; left = 0; a = None; b = None; h = None })
          ∷ printed.Ticks 0 (Off ∷ Off ∷ [])
          ∷ [];
      fate = Ended;
    }
unfolding lined operate after_load least_free limit_of free_from after_calm tick unwound unwind_times all_unwound left on_registers
    due_slots after_clock peeked no_state no_machine fresh_job
idle = refl

-- an empty slot, and a clock that would reach its end
empty : stepped (Read (events.Peek 3) ∷ []) ≡ record { lines = printed.Refused 1 reasons.NoJob ∷ []; fate = Refused }
unfolding lined operate after_calm no_state no_machine
empty = refl

late : stepped (Read (events.Clock 0o177777777777) ∷ Read (events.Clock 1) ∷ []) ≡ record { lines = printed.Refused 2 reasons.Range ∷ []; fate = Refused }
unfolding lined operate after_calm due_slots all_unwound after_clock no_state no_machine
late = refl

-- a console of a job: bytes that wait as input, as many as have room, and no output
abbrev long : List ℕ
long = 1 ∷ 2 ∷ 3 ∷ 4 ∷ 5 ∷ 6 ∷ 7 ∷ 8 ∷ 9 ∷ 10 ∷ 11 ∷ 12 ∷ 13 ∷ 14 ∷ 15 ∷ 16 ∷ 17 ∷ 18 ∷ 19 ∷ 20 ∷ 21 ∷ 22 ∷ 23 ∷ 24 ∷ 25 ∷ 26 ∷ 27 ∷ 28 ∷ 29
    ∷ 30 ∷ 31 ∷ 32 ∷ 33 ∷ []

talk : stepped (Read (events.Load 1 2 (Some 3)) ∷ Read (events.TypeIn 3 (record { items = long }))
    ∷ Read (events.TypeIn 3 (record { items = long })) ∷ Read (events.Drain 3 5) ∷ Read events.End ∷ []) ≡ record {
      lines = printed.Loaded 0 ∷ printed.Typed 3 0 ∷ printed.Typed 3 2 ∷ printed.Drained 3 [] ∷ [];
      fate = Ended;
    }
unfolding lined operate after_load least_free limit_of free_from after_calm no_state no_machine fresh_job
talk = refl

-- the first job that LOAD makes with a console holds it, and one that it makes later does not
abbrev holder_after : Lined → ℕ → Option ℕ
holder_after (Done (Does m out touched b)) c = m.holders c
holder_after l c = None

first_load : holder_after (lined no_machine no_block (events.Load 1 2 (Some 3))) 3 ≡ Some 0
unfolding lined operate after_load least_free limit_of free_from no_machine
first_load = refl

later_load : holder_after (lined (record no_machine { holders = λ c. Some 7 }) no_block (events.Load 1 2 (Some 3))) 3 ≡ Some 7
unfolding lined operate after_load least_free limit_of free_from no_machine
later_load = refl

-- OUT: bytes wait as output, and DRAIN shows them
waits : stepped (Read (events.Restore (state_lines.Output 3 (record { items = 72 ∷ 73 ∷ [] }))) ∷ Read (events.Drain 3 5) ∷ [])
    ≡ record { lines = printed.Drained 3 (72 ∷ 73 ∷ []) ∷ []; fate = Open }
unfolding lined operate restored with_bytes_waiting after_calm no_state no_machine
waits = refl

-- JOB makes a job in the slot that it names, which cannot be its own superior, and has no console
-- for a channel
own : stepped (Read (events.Restore (state_lines.Job 5 1 2 None)) ∷ Read (events.Restore (state_lines.Under 5 5)) ∷ [])
    ≡ record { lines = printed.Refused 2 reasons.Unfit ∷ []; fate = Refused }
unfolding lined operate restored with_job_made with_superior_set limit_of climbs_to after_calm unwound unwind_times left no_state no_machine fresh_job
own = refl

bare : stepped (Read (events.Restore (state_lines.Job 5 1 2 None)) ∷ Read (events.Restore (state_lines.Tty 5 3 false)) ∷ [])
    ≡ record { lines = printed.Refused 2 reasons.Unfit ∷ []; fate = Refused }
unfolding lined operate restored with_job_made with_tty limit_of after_calm unwound unwind_times left no_state no_machine fresh_job
bare = refl

-- what is drained is shown, and only the rest waits
abbrev drained_of : Lined → List ℕ
drained_of (Done (Does m (printed.Drained c bytes ∷ out) touched b)) = bytes ++ 0 ∷ (m.consoles c).output
drained_of l = []

drain : drained_of (lined (record no_machine { consoles = λ c. record { input = []; output = 72 ∷ 73 ∷ 74 ∷ [] } }) no_block
    (events.Drain 3 2)) ≡ 72 ∷ 73 ∷ 0 ∷ 74 ∷ []
unfolding lined operate no_machine
drain = refl

-- a state whose slot 0 has three accumulators and a frame
site : Option ℕ → Site
site channel = record { pc = 0; e = 0; channel = channel; used = 0; decode = record { items = [] } }

call : ℕ → List Operand → Ask
call name inputs = record {
  name = name;
  fail = 0;
  inputs = record { items = inputs };
  outputs = record { items = [] };
  error = None;
  control = None;
  decode = record { items = [] };
  operand = record { items = [] };
}

at_place : ℕ → ℕ → Operand
at_place p v = record { value = v; place = Some p }

standing : Frame → State
standing f = record {
  raw = with_jobs (λ k. Some (whole (record { accs = 5 ∷ 6 ∷ 7 ∷ []; pages = [] }) (fresh_job 1 2 None) None));
  frames = λ k. Some f;
  reserved = λ k. None;
  mark = None;
}

-- SLEEP after its partial step: its argument in core is still the old one
sleeper : peeked (standing (waiting (site None) (call 0o635445456000 (at_place 1 9 ∷ [])) 1)) 0
    ≡ record { state = states.Waiting; name = Some 0o635445456000; left = 2; a = Some 6; b = None; h = None }
unfolding peeked standing site call at_place call_named sixbit left word_at
sleeper = refl

-- SIOT with a byte that is taken: pointer and count in core are still the old ones
mover : peeked (standing (moving (site None) (call 0o635157640000 (at_place 1 9 ∷ at_place 0 8 ∷ at_place 2 3 ∷ [])) (record { place = 2; byte = 65 }))) 0
    ≡ record { state = states.Moving; name = Some 0o635157640000; left = 4; a = Some 5; b = Some 7; h = Some 65 }
unfolding peeked standing site call at_place call_named sixbit left word_at
mover = refl

-- a block that is read, and `.IOT`, which has none
reader : peeked (standing (parsed (site None) (0o400000000000 ∷ 0o504156470000 ∷ []))) 0
    ≡ record { state = states.Parsed; name = Some 0o504156470000; left = 1; a = None; b = None; h = None }
unfolding peeked standing site left
reader = refl

iot : peeked (standing (parsed (site (Some 3)) [])) 0 ≡ record { state = states.Parsed; name = Some 0o515764000000; left = 1; a = None; b = None; h = None }
unfolding peeked standing site sixbit left
iot = refl

-- a file of two words, seen in its directory and on its own; a second one with its names is refused
filed : stepped (Read (events.File 1 2 3) ∷ Read (events.Append (record { items = 4 ∷ 5 ∷ [] })) ∷ Read events.EndFile ∷ Read (events.Dir 1)
    ∷ Read (events.Show 1 2 3)
    ∷ Read (events.File 1 2 3) ∷ []) ≡ record {
      lines = printed.Dir 1 1 ∷ printed.Filed (record { x = 2; y = 3; length = 2 }) ∷ printed.Shown 1 2 3 2 ∷ printed.Row (4 ∷ 5 ∷ [])
          ∷ printed.Refused 6 reasons.Exists ∷ [];
      fate = Refused;
    }
unfolding lined operate after_calm help after_help with_file_made with_word_added blocks_of_drafts same_names files_in file_shown no_state no_machine
filed = refl

-- a job that is inside a CLOSE: the old file left the directory, and the draft is still to become
-- its last file. DIR shows the directory whole; of the job, which it does not disturb, the
-- registers alone are pending
file_of : ℕ → List ℕ → File
file_of x words = record { names = names_of 1 x 3; words = words }

closing : State
closing = record {
  raw = record (with_jobs (λ k. Some (whole no_core (fresh_job 1 2 None) None))) { files = file_of 8 [] ∷ [] };
  frames = λ k. Some (ending (site None) (call 0o435457634500 []) (Link ∷ Free ∷ Leave (exit_of (fresh_job 1 2 None)) ∷ []));
  reserved = λ k. None;
  mark = Some (record { owner = 0; draft = file_of 2 (9 ∷ []); parts = LinkNew ∷ FreeOld ∷ [] });
}

inside : ℕ → Peek
inside n = record { state = states.Ending; name = Some 0o435457634500; left = n; a = None; b = None; h = None }

between : told 1 closing no_block 95 (Read (events.Peek 0) ∷ Read (events.Dir 1) ∷ Read (events.Peek 0) ∷ []) ≡ record {
  lines = printed.Peeked 0 (inside 3)
      ∷ printed.Dir 1 2
      ∷ printed.Filed (record { x = 8; y = 3; length = 0 })
      ∷ printed.Filed (record { x = 2; y = 3; length = 1 })
      ∷ printed.Peeked 0 (inside 1)
      ∷ [];
  fate = Open;
}
unfolding lined operate after_calm help after_help peeked left site call call_named sixbit same_names files_in fresh_job file_of closing inside
between = refl
