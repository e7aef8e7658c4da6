-- What the session of an image says, and the job that it makes (docs/ASM.md, "The command").
-- A promise rests on this.
use Rattle.std.specs.Prelude.{◌≡◌, ◌<◌, ◌/◌, ◌^◌, ◌&&◌, ◌||◌, ℕ, Bool, true, false, Option, Some, None, List, [], ◌∷◌, map, nat_eq, nat_le, nat_lt}
use Rattle.std.specs.List.{list_any}
use Rattle.std.specs.Map.{lookup}
use Rattle.its_word.specs.Core.{word_at}
use Rattle.its_records.specs.Item.{Read}
use Rattle.its_records.specs.Tree.{fresh_job}
use Rattle.its_print.specs.Printing as printed
use Rattle.its_session.specs.Events.{events_of}
use Rattle.its_plain.specs.Machine.{Machine, Whole}
use Rattle.its_plain.specs.Operator.Jobs.{after_go}
use Rattle.its_plain.specs.Transcript.{Ended, Transcript}
use Rattle.its_plain.specs.Transcript.Course.{run_of}
use Rattle.its_asm.specs.declared.assembly.Image.{Image}
use Rattle.its_asm_command.specs.Written.{image_events, lines_text}

-- a word is on this page; the accumulators are on none
abbrev pub on_page : ℕ → ℕ × ℕ → Bool
on_page k c = nat_le 16 c.0 && nat_eq k (c.0 / 1024)

-- one of the words does
abbrev pub has_page : List (ℕ × ℕ) → ℕ → Bool
has_page cells k = list_any (on_page k) cells

-- the contents of a core at an address: the word that was given there, and else 0 in an accumulator
-- and on a page on which words were given
abbrev pub word_by : Option ℕ → Bool → Option ℕ
word_by (Some w) b = Some w
word_by None true = Some 0
word_by None false = None

abbrev pub image_word : List (ℕ × ℕ) → ℕ → Option ℕ
image_word cells a = word_by (lookup (nat_eq a) cells) (nat_lt a 16 || has_page cells (a / 1024))

-- slot 0 has a job with the image's core, names, console and symbols, started at its start
pub record Loads (i : Image) (m : Machine) : Type 0 where
  pub job : Whole
  pub stands : m.jobs 0 ≡ Some job
  pub words : (a : ℕ) → a < 2 ^ 18 → word_at job.core a ≡ image_word i.words a
  pub registers : job.job ≡ after_go i.start (fresh_job i.u i.j i.console)
  pub symbols : m.symbols 0 ≡ i.symbols

-- the grammar reads the session of an image whole; its transcript is that slot 0 got the job, and
-- after its GO the plain machine has that job
pub record IsWhole (i : Image) : Type 0 where
  pub read : events_of (lines_text (image_events i)) ≡ map Read (image_events i)
  pub transcript : Transcript (map Read (image_events i)) (printed.Loaded 0 ∷ []) Ended
  pub loads : Loads i (run_of (map Read (image_events i)) (printed.Loaded 0 ∷ [])).last
