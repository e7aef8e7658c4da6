-- The console of each job stays one of eight through each line of a session.
use Rattle.std.specs.Prelude.{◌≡◌, ◌<◌, ◌+◌, ℕ, Bool, Option, Some, None, IfSome, List, Result, Ok, Err, nat_lt, refl}
use Rattle.std.proofs.Common.{subst, arith}
use Rattle.std.proofs.lemmas.Option.{IfSome_then}
use Rattle.its_records.specs.declared.session.Event.{Event}
use Rattle.its_records.specs.declared.session.Event.TheVariants as events
use Rattle.its_records.specs.declared.session.Reason.{Reason}
use Rattle.its_records.specs.declared.show.JobShow.{JobShow}
use Rattle.its_records.specs.declared.state_line.StateLine.{StateLine}
use Rattle.its_records.specs.declared.state_line.StateLine.TheVariants as states
use Rattle.its_print.specs.Printing.{Line, listed}
use Rattle.its_session.specs.Fits.{EventFits}
use Rattle.its_plain.specs.Machine.{Machine, Whole}
use Rattle.its_plain.specs.Operator.{Block, Does}
use Rattle.its_plain.specs.Operator.Clock.{clock_end, after_clock}
use Rattle.its_plain.specs.Operator.Consoles.{after_drain, with_typed}
use Rattle.its_plain.specs.Operator.Files.{with_file_made, file_shown, with_words_added}
use Rattle.its_plain.specs.Operator.Jobs.{after_cont, after_deposit, examined, after_int, after_load, on_registers, with_page_protected, after_go, state_shown, after_stop, with_words_loaded}
use Rattle.its_plain.specs.Operator.Lines.{Done, by_exam, by_load, by_state, in_a_line, lined, operate, peeked_at, shows}
use Rattle.its_plain.specs.Operator.Symbols.{with_symbol_kept}
use Rattle.its_plain.specs.Machine.Own.{names_of}
use Rattle.its_plain.proofs.CallLineLaws.{added_files, made_files}
use Rattle.its_stepped.specs.Consoled.{Consoled}
use Rattle.its_stepped.proofs.Keeping.ConsoledLaws.{jobs_consoled, loaded_consoled}
use Rattle.its_direct.proofs.HousedLaws.{LinedConsoled, clock_consoled, clocking, deposited_consoled, disturbing, files_consoled, page_consoled, quiet, registers_consoled, symbol_consoled, version_consoled, words_consoled}
use Rattle.its_direct.proofs.HousedStateLaws.{HousesLine, restored_consoled}

-- the result of a line
loading : (m : Machine) (b : Block) (u j : ℕ) (console : Option ℕ) (r : Result (Machine × ℕ) Reason) → after_load m u j console ≡ r
    → IfSome console (λ c. c < 8) → Consoled m
    → LinedConsoled (Done (by_load b r))
loading m b u j console (Ok (n, s)) is fits h = loaded_consoled m n u j s console fits h is
loading m b u j console (Err r) is fits h = tt

examining : (m : Machine) (b : Block) (s : ℕ) (show : List ℕ → List Line) (r : Result (List ℕ) Reason) → Consoled m
    → LinedConsoled (Done (by_exam m b s show r))
examining m b s show (Ok ws) h = h
examining m b s show (Err r) h = tt

stating : (m : Machine) (b : Block) (s : ℕ) (r : Result JobShow Reason) → Consoled m → LinedConsoled (Done (by_state m b s r))
stating m b s (Ok show) h = h
stating m b s (Err r) h = tt

showing : (m : Machine) (b : Block) (r : Result (List Line) Reason) → Consoled m → LinedConsoled (Done (shows m b r))
showing m b (Ok out) h = h
showing m b (Err r) h = tt

peeking : (s : ℕ) (o : Option Whole) → LinedConsoled (peeked_at s o)
peeking s (Some q) = tt
peeking s None = tt

-- the console of a line of the state part that can be read
line_houses : (v : ℕ) (line : StateLine) → EventFits v (events.Restore line) → HousesLine line
line_houses v (states.Job s u j c) fits = IfSome_then c fits.1 (λ k l. omega arith)
line_houses v _ fits = tt

each_line : (v : ℕ) (m : Machine) (b : Block) (e : Event) → EventFits v e → Consoled m → LinedConsoled (lined m b e)
unfolding lined operate after_clock
each_line v m b (events.Version x) fits h = version_consoled m x h
each_line v m b (events.Load u j console) fits h = loading m b u j console (after_load m u j console) refl (IfSome_then console fits.2 (λ c l. omega arith)) h
each_line v m b (events.Words a words) fits h = disturbing b.slot b (with_words_loaded m b.slot a words.items) (words_consoled m b.slot a words.items h)
each_line v m b (events.ReadOnly page) fits h = disturbing b.slot b (with_page_protected m b.slot page) (page_consoled m b.slot page h)
each_line v m b (events.Symbol name a) fits h = quiet b (with_symbol_kept m b.slot name a) (symbol_consoled m b.slot name a h)
each_line v m b (events.Go a) fits h = disturbing b.slot b (on_registers m b.slot (after_go a)) (registers_consoled m b.slot (after_go a) (λ j. refl) h)
each_line v m b (events.File d x y) fits h = quiet (record b { file = names_of d x y }) (with_file_made m (names_of d x y))
    (files_consoled m (with_file_made m (names_of d x y)) (made_files m (names_of d x y)) h)
each_line v m b (events.Append words) fits h = quiet b (with_words_added m b.file words.items)
    (files_consoled m (with_words_added m b.file words.items) (added_files m b.file words.items) h)
each_line v m b (events.Tick s n) fits h = tt
each_line v m b (events.TypeIn c bytes) fits h = jobs_consoled m (with_typed c bytes.items m) refl h
each_line v m b (events.Drain c n) fits h = jobs_consoled m (after_drain c n m) refl h
each_line v m b (events.Clock n) fits h = clocking m b n (after_clock m n) (clock_consoled m n (nat_lt (m.clock + n) clock_end) h)
each_line v m b (events.Int s x y) fits h = disturbing s b (on_registers m s (after_int x y)) (registers_consoled m s (after_int x y) (λ j. refl) h)
each_line v m b (events.Exam s a n) fits h = examining m b s (in_a_line s a) (examined m s a n) h
each_line v m b (events.List s a n) fits h = examining m b s (listed s a) (examined m s a n) h
each_line v m b (events.State s) fits h = stating m b s (state_shown m s) h
each_line v m b (events.Deposit s a w) fits h = disturbing s b (after_deposit m s a w) (deposited_consoled m s a w h)
each_line v m b (events.Stop s) fits h = disturbing s b (on_registers m s after_stop) (registers_consoled m s after_stop (λ j. refl) h)
each_line v m b (events.Cont s) fits h = disturbing s b (on_registers m s after_cont) (registers_consoled m s after_cont (λ j. refl) h)
each_line v m b (events.Peek s) fits h = peeking s (m.jobs s)
each_line v m b (events.Show d x y) fits h = showing m b (file_shown m d x y) h
each_line v m b (events.Restore line) fits h = restored_consoled m b line (line_houses v line fits) h
each_line v m b events.End fits h = tt
each_line v m b _ fits h = h

pub line_consoled : (v : ℕ) (m n : Machine) (b c : Block) (e : Event) (out : List Line) (touched : ℕ → Bool) → EventFits v e → Consoled m
    → lined m b e ≡ Done (Does n out touched c) → Consoled n
line_consoled v m n b c e out touched fits h is = subst LinedConsoled is (each_line v m b e fits h)
