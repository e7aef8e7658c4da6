-- Each line of a session, and its effect on the plain machine (docs/SESSION.md, "The lines").
-- A promise rests on this.
use Rattle.std.specs.Prelude.{ℕ, Option, Some, None, List, [], ◌∷◌, Result, Ok, Err, take}
use Rattle.its_records.specs.declared.session.Event.{Event}
use Rattle.its_records.specs.declared.session.Event.TheVariants as events
use Rattle.its_records.specs.declared.session.Event.TheVariants.{Nothing, Version, Load, Words, ReadOnly, Symbol, Go, File, Append, EndFile, Tick, Run, TypeIn, Drain, Clock, Int, Exam, State, Deposit, Stop, Cont, Peek, Dir, Show, Restore, End}
use Rattle.its_records.specs.declared.session.Reason.{Reason}
use Rattle.its_records.specs.declared.session.Reason.TheVariants.{NoJob}
use Rattle.its_records.specs.declared.show.JobShow.{JobShow}
use Rattle.its_print.specs.Printing.{Line}
use Rattle.its_print.specs.Printing as printed
use Rattle.its_plain.specs.Machine.{Whole, Machine}
use Rattle.its_plain.specs.Machine.Own.{names_of}
use Rattle.its_plain.specs.Operator.{Block, Operated, Refuses, Does, Ticks, Quits, nobody, only, disturbs, quietly}
use Rattle.its_plain.specs.Operator.Clock.{after_clock}
use Rattle.its_plain.specs.Operator.Symbols.{with_symbol_kept}
use Rattle.its_plain.specs.Operator.Version.{with_version}
use Rattle.its_plain.specs.Operator.Consoles.{with_typed, dropped, after_drain}
use Rattle.its_plain.specs.Operator.Files.{with_file_made, with_words_added, files_in, listing, file_shown}
pub use Rattle.its_plain.specs.Operator.State.{by_clock}
use Rattle.its_plain.specs.Operator.State.{restored}
use Rattle.its_plain.specs.Operator.Jobs.{after_load, with_words_loaded, with_page_protected, after_go, after_int, after_stop, after_cont, on_registers, examined, state_shown, after_deposit}

-- lines that show something of a job
abbrev pub by_load : Block → Result (Machine × ℕ) Reason → Operated
by_load b (Ok (m, s)) = Does m (printed.Loaded s ∷ []) (only s) (record b { slot = s })
by_load b (Err r) = Refuses r

-- EXAM and LIST find the same words and refuse alike; each shows them in lines of its own
abbrev pub by_exam : Machine → Block → ℕ → (List ℕ → List Line) → Result (List ℕ) Reason → Operated
by_exam m b s show (Ok ws) = Does m (show ws) (only s) b
by_exam m b s show (Err r) = Refuses r

-- EXAM shows them in one line
abbrev pub in_a_line : ℕ → ℕ → List ℕ → List Line
in_a_line s a ws = printed.Words s a ws ∷ []

abbrev pub by_state : Machine → Block → ℕ → Result JobShow Reason → Operated
by_state m b s (Ok show) = Does m (printed.State m.version s show ∷ []) (only s) b
by_state m b s (Err r) = Refuses r

-- lines that only show something
abbrev pub shows : Machine → Block → Result (List Line) Reason → Operated
shows m b (Ok out) = Does m out nobody b
shows m b (Err r) = Refuses r

-- the effect of each line; a RUN line does nothing itself: its turns follow it. The lines of a LOAD
-- block disturb the job that LOAD has just made: no `.` came for it, so for a session this says no
-- more than that LOAD disturbs it. PEEK does nothing to the machine
unfoldable pub operate : Machine → Block → Event → Operated
operate m b Nothing = Does m [] nobody b
operate m b (Version v) = Does (with_version m v) [] nobody b
operate m b (Load u j console) = by_load b (after_load m u j console)
operate m b (Words a words) = disturbs b.slot b (with_words_loaded m b.slot a words.items)
operate m b (ReadOnly page) = disturbs b.slot b (with_page_protected m b.slot page)
operate m b (Symbol name a) = quietly b (with_symbol_kept m b.slot name a)
operate m b (Go a) = disturbs b.slot b (on_registers m b.slot (after_go a))
operate m b (File d x y) = quietly (record b { file = names_of d x y }) (with_file_made m (names_of d x y))
operate m b (Append words) = quietly b (with_words_added m b.file words.items)
operate m b EndFile = Does m [] nobody b
operate m b (Tick s n) = Ticks s n
operate m b (Run n q) = Does m [] nobody b
operate m b (TypeIn c bytes) =
    Does (with_typed c bytes.items m) (printed.Typed c (dropped (m.consoles c) bytes.items) ∷ []) nobody b
operate m b (Drain c n) = Does (after_drain c n m) (printed.Drained c (take n (m.consoles c).output) ∷ []) nobody b
operate m b (Clock n) = by_clock m b n (after_clock m n)
operate m b (Int s v w) = disturbs s b (on_registers m s (after_int v w))
operate m b (Exam s a n) = by_exam m b s (in_a_line s a) (examined m s a n)
operate m b (events.List s a n) = by_exam m b s (printed.listed s a) (examined m s a n)
operate m b (State s) = by_state m b s (state_shown m s)
operate m b (Deposit s a w) = disturbs s b (after_deposit m s a w)
operate m b (Stop s) = disturbs s b (on_registers m s after_stop)
operate m b (Cont s) = disturbs s b (on_registers m s after_cont)
operate m b (Peek s) = Does m [] nobody b
operate m b (Dir d) = Does m (listing d (files_in d m.files)) nobody b
operate m b (Show d x y) = shows m b (file_shown m d x y)
operate m b (Restore line) = restored m b line
operate m b End = Quits

-- PEEK shows how far a job is inside a call. The plain machine has no calls in progress, so the
-- line is passed over
pub data Lined : Type 0 where
  Done : Operated → Lined
  Peeks : ℕ → Lined

abbrev pub peeked_at : ℕ → Option Whole → Lined
peeked_at s (Some q) = Peeks s
peeked_at s None = Done (Refuses NoJob)

unfoldable pub lined : Machine → Block → Event → Lined
lined m b (Peek s) = peeked_at s (m.jobs s)
lined m b e = Done (operate m b e)
