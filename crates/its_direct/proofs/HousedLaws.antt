-- The console of each job stays one of eight through the lines of a session.
use Rattle.std.specs.Prelude.{if◌then◌else◌, ◌≡◌, ◌<◌, ◌+◌, ℕ, Bool, true, false, Option, Some, None, IfSome, is_some, List, [], ◌∷◌, Result, Ok, Err, length, nat_lt, refl}
use Rattle.std.proofs.Common.{sym, subst}
use Rattle.its_records.specs.Tree.{no_job}
use Rattle.its_word.specs.Core.{Core, Page, can_store, page_of, word_at}
use Rattle.its_word.specs.Limits.{most_symbols}
use Rattle.its_records.specs.declared.jobs.Job.{Job}
use Rattle.its_records.specs.declared.session.Reason.{Reason}
use Rattle.its_plain.specs.Machine.Change.{with_protection}
use Rattle.its_plain.specs.Machine.{Machine, Whole, mapped, with_job}
use Rattle.its_plain.specs.Operator.{Block, Does, Quits, Refuses, Ticks, and_then, disturbs, quietly}
use Rattle.its_plain.specs.Operator.Clock.{after_clock_if, due, after_alarm_if}
use Rattle.its_plain.specs.Operator.Files.{with_files}
use Rattle.its_plain.specs.Operator.Jobs.{after_deposit, after_deposit_in, on_job, on_registers, with_page_protected, with_page_protected_in, with_stored, with_core, with_registers, with_word_loaded, with_word_loaded_of, words_barred, with_words_loaded, with_words_loaded_if, with_words_stored}
use Rattle.its_plain.specs.Operator.Lines.{Done, Lined, Peeks, by_clock}
use Rattle.its_plain.specs.Operator.Symbols.{with_symbol_kept, with_symbol_kept_if, with_symbol_kept_of}
use Rattle.its_plain.specs.Operator.Version.{with_version}
use Rattle.its_plain.proofs.CallLineLaws.{FilesAlone}
use Rattle.its_stepped.specs.Consoled.{Consoled}
use Rattle.its_stepped.proofs.Keeping.ConsoledLaws.{HousedBy, jobs_consoled, put_consoled}

abbrev pub ConsoledBy : Result Machine Reason → Type 0
ConsoledBy (Ok n) = Consoled n
ConsoledBy (Err r) = Unit {0}

-- a job with the console that it had
put_back : (m : Machine) (s : ℕ) (q p : Whole) → Consoled m → m.jobs s ≡ Some q → p.job.console ≡ q.job.console → Consoled (with_job m s p)
put_back m s q p h is same = put_consoled m s p (subst (λ (o : Option ℕ). IfSome o (λ c. c < 8)) (sym same) (subst HousedBy is (h.each s))) h

core_consoled : (m : Machine) (s : ℕ) (q : Whole) (r : Result Core Reason) → Consoled m → m.jobs s ≡ Some q → ConsoledBy (with_core m s q r)
core_consoled m s q (Ok c) h is = put_back m s q (record q { core = c }) h is refl
core_consoled m s q (Err r) h is = tt

pub registers_consoled : (m : Machine) (s : ℕ) (f : Job → Job) → ((j : Job) → (f j).console ≡ j.console) → Consoled m → ConsoledBy (on_registers m s f)
unfolding on_registers
registers_consoled m s f same h = go (m.jobs s) refl
  where
    go : (o : Option Whole) → m.jobs s ≡ o → ConsoledBy (on_job m s (with_registers m s f) o)
    go (Some q) is = put_back m s q (record q { job = f q.job }) h is (same q.job)
    go None is = tt

pub deposited_consoled : (m : Machine) (s a w : ℕ) → Consoled m → ConsoledBy (after_deposit m s a w)
unfolding after_deposit
deposited_consoled m s a w h = go (m.jobs s) refl
  where
    go : (o : Option Whole) → m.jobs s ≡ o → ConsoledBy (on_job m s
        (λ q. with_core m s q (after_deposit_in q.core a w (can_store q.core a) (is_some (word_at q.core a)))) o)
    go (Some q) is = core_consoled m s q (after_deposit_in q.core a w (can_store q.core a) (is_some (word_at q.core a))) h is
    go None is = tt

-- an a/ line
word_consoled_of : (m : Machine) (s a w : ℕ) (o : Option Whole) → Consoled m → m.jobs s ≡ o → ConsoledBy (with_word_loaded_of m s a w o)
word_consoled_of m s a w (Some q) h is = core_consoled m s q (with_stored (mapped m) q.core a w) h is
word_consoled_of m s a w None h is = tt

word_consoled : (m : Machine) (s a w : ℕ) → Consoled m → ConsoledBy (with_word_loaded m s a w)
unfolding with_word_loaded
word_consoled m s a w h = word_consoled_of m s a w (m.jobs s) h refl

stored_consoled : (m : Machine) (s a : ℕ) (ws : List ℕ) → Consoled m → ConsoledBy (with_words_stored m s a ws)
stored_consoled m s a [] h = h
stored_consoled m s a (w ∷ ws) h = go (with_word_loaded m s a w) (word_consoled m s a w h) (λ n first. stored_consoled n s (a + 1) ws first)
  where
    go : (r : Result Machine Reason) → ConsoledBy r → ((n : Machine) → Consoled n → ConsoledBy (with_words_stored n s (a + 1) ws))
        → ConsoledBy (and_then r (λ n. with_words_stored n s (a + 1) ws))
    go (Ok n) first rest = rest n first
    go (Err r) first rest = tt

words_consoled_if : (m : Machine) (s a : ℕ) (ws : List ℕ) (barred : Bool) → Consoled m → ConsoledBy (with_words_loaded_if m s a ws barred)
words_consoled_if m s a ws true h = tt
words_consoled_if m s a ws false h = stored_consoled m s a ws h

pub words_consoled : (m : Machine) (s a : ℕ) (ws : List ℕ) → Consoled m → ConsoledBy (with_words_loaded m s a ws)
unfolding with_words_loaded
words_consoled m s a ws h = words_consoled_if m s a ws (words_barred m s a (length ws)) h

-- RO and SYM
pub page_consoled : (m : Machine) (s k : ℕ) → Consoled m → ConsoledBy (with_page_protected m s k)
unfolding with_page_protected
page_consoled m s k h = go (m.jobs s) refl
  where
    put : (q : Whole) (o : Option Page) → m.jobs s ≡ Some q → ConsoledBy (with_page_protected_in m s k q o)
    put q (Some p) is = put_back m s q (with_protection k false q) h is refl
    put q None is = tt

    go : (o : Option Whole) → m.jobs s ≡ o → ConsoledBy (on_job m s (λ q. with_page_protected_in m s k q (page_of q.core k)) o)
    go (Some q) is = put q (page_of q.core k) is
    go None is = tt

pub symbol_consoled : (m : Machine) (s name a : ℕ) → Consoled m → ConsoledBy (with_symbol_kept m s name a)
unfolding with_symbol_kept
symbol_consoled m s name a h = go (m.jobs s)
  where
    put : (room : Bool) → ConsoledBy (with_symbol_kept_if m s (name, a) room)
    put true = jobs_consoled m _ refl h
    put false = tt

    go : (o : Option Whole) → ConsoledBy (with_symbol_kept_of m s (name, a) o)
    go (Some q) = put (nat_lt (length (m.symbols s)) most_symbols)
    go None = tt

-- files
pub files_consoled : (m : Machine) (r : Result Machine Reason) → FilesAlone m r → Consoled m → ConsoledBy r
files_consoled m (Ok n) alone h = subst Consoled (sym alone) (jobs_consoled m (with_files m n.files) refl h)
files_consoled m (Err r) alone h = tt

-- VERSION, and CLOCK
pub version_consoled : (m : Machine) (v : ℕ) → Consoled m → Consoled (with_version m v)
unfolding with_version
version_consoled m v h = go (no_job m.jobs)
  where
    go : (b : Bool) → Consoled (if b then record m { version = v } else m)
    go true = jobs_consoled m (record m { version = v }) refl h
    go false = h

rung_housed : (c : ℕ) (b : Bool) (o : Option Whole) → HousedBy o → HousedBy (after_alarm_if c b o)
rung_housed c true (Some q) h = h
rung_housed c true None h = h
rung_housed c false o h = h

pub clock_consoled : (m : Machine) (n : ℕ) (fits : Bool) → Consoled m → ConsoledBy (after_clock_if m n fits)
clock_consoled m n true h = record { each = λ k. rung_housed (m.clock + n) (due (m.clock + n) m.jobs k) (m.jobs k) (h.each k) }
clock_consoled m n false h = tt

-- the result of a line
abbrev pub LinedConsoled : Lined → Type 0
LinedConsoled (Done (Does n out touched b)) = Consoled n
LinedConsoled (Done (Refuses r)) = Unit {0}
LinedConsoled (Done (Ticks s k)) = Unit {0}
LinedConsoled (Done Quits) = Unit {0}
LinedConsoled (Peeks s) = Unit {0}

pub disturbing : (s : ℕ) (b : Block) (r : Result Machine Reason) → ConsoledBy r → LinedConsoled (Done (disturbs s b r))
disturbing s b (Ok n) h = h
disturbing s b (Err r) h = tt

pub quiet : (b : Block) (r : Result Machine Reason) → ConsoledBy r → LinedConsoled (Done (quietly b r))
quiet b (Ok n) h = h
quiet b (Err r) h = tt

pub clocking : (m : Machine) (b : Block) (n : ℕ) (r : Result Machine Reason) → ConsoledBy r → LinedConsoled (Done (by_clock m b n r))
clocking m b n (Ok k) h = h
clocking m b n (Err r) h = tt
