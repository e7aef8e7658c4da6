-- The constants of the code are the numbers of the definitions.
use Rattle.std.specs.Prelude.{if◌then◌else◌, ◌≡◌, ◌∷◌, ◌+◌, ◌%◌, ◌^◌, ◌==◌, [], ℕ, not, nat_lt, refl}
use Rattle.its_word.specs.Core.{Core}
use Rattle.its_word.specs.Word.{left_of}
use Rattle.its_word.specs.declared.pointer.TheConstants as pointer
use Rattle.its_records.specs.declared.jobs.TheConstants as jobs
use Rattle.its_plain.specs.Machine.{Chan, Shut}
use Rattle.its_plain.specs.Call.Basic.{longest_sleep, longest_period, channel_at}
use Rattle.its_plain.specs.Call.Core.{highest_operation, highest_page}
use Rattle.its_plain.specs.Call.Decode.{argument_words, block_at}
use Rattle.its_plain.specs.Unit.Trace.{also, word}
use Rattle.its_plain.specs.Call.File.{disk_device, end_of_file}
use Rattle.its_plain.specs.Call.Link.{link_device}
use Rattle.its_plain.specs.Call.Transfer.{is_indexed, word_bits}
use Rattle.its_plain.specs.Call.Tty.{tty_device, shown_byte}
use Rattle.its_plain.specs.Call.Usr.{usr_device}
use Rattle.its_plain.specs.Operator.Clock.{clock_end}
use Rattle.its_plain.specs.declared.numbers.TheConstants as numbers

pub devices_are : (numbers.DSK ≡ disk_device) × (numbers.TTY ≡ tty_device) × (numbers.USR ≡ usr_device) × (numbers.LNK ≡ link_device)
devices_are = (refl, refl, refl, refl)

pub times_are : (numbers.LONGEST_SLEEP ≡ longest_sleep) × (numbers.LONGEST_PERIOD ≡ longest_period) × (numbers.CLOCK_END ≡ clock_end)
times_are = (refl, refl, refl)

pub numbers_are :
    (numbers.END_OF_FILE ≡ end_of_file) × (numbers.HIGHEST_OPERATION ≡ highest_operation) × (numbers.HIGHEST_PAGE ≡ highest_page)
    × (pointer.WORD_BITS ≡ word_bits)
numbers_are = (refl, refl, refl, refl)

-- a console shows the bits of SHOWN, and I and X of a pointer are its left half modulo INDEXED
pub shown_is : (w : ℕ) → shown_byte w ≡ w % (numbers.SHOWN + 1)
shown_is w = refl

pub indexed_is : (p : ℕ) → is_indexed p ≡ not (left_of p % pointer.INDEXED == 0)
indexed_is p = refl

-- a job has so many channels
pub channels_are : (channels : ℕ → Chan) (n : ℕ) → channel_at channels n ≡ (if nat_lt n jobs.CHANNELS then channels n else Shut)
channels_are channels n = refl

-- the block of a call has so many argument words at most
pub arguments_are : (c : Core) (e : ℕ)
    → block_at c e ≡ also (word c (e % 2 ^ 18)) (λ first. also (word c ((e + 1) % 2 ^ 18)) (λ name. argument_words numbers.ARGUMENTS c (e + 2) (first ∷ name ∷ [])))
unfolding block_at
arguments_are c e = refl
