-- What a call sees of files and of the channels that read them, by their numbers.
use Rattle.std.specs.Prelude.{◌≡◌, ◌+◌, ℕ, Bool, true, false, Option, Some, None, length, refl}
use Rattle.std.proofs.Common.{sym, ◌∙◌, ap, arith}
use Rattle.its_files.specs.Blocks.{blocks, free_blocks, is_full, blocks_used}
use Rattle.its_records.specs.declared.calls.Ask.{Ask}
use Rattle.its_records.specs.declared.jobs.Job.{Job}
use Rattle.its_files.specs.Files.{IsStore, directory, found, words_at}
use Rattle.its_plain.specs.Machine.{Names}
use Rattle.its_plain.specs.Call.File.{channels_in, is_full as has_no_room, is_read}
use Rattle.its_plain.specs.Machine.View.{view}
use Rattle.its_world.specs.Tidy.{Tidy, channel_at}
use Rattle.its_world.specs.World.{chan_of, state_of}
use Rattle.its_world.specs.declared.world.World.{World}
use Rattle.its_shared.proofs.StandLaws.{read_is, reader_found}
use Rattle.its_shared.proofs.RoomLaws.{full_on}
use Rattle.its_shared.proofs.SeenLaws.{chan_seen}
use Rattle.call_basic.specs.Seen.{seen_by}
use Rattle.call_file.specs.Held.{has_readers}

-- the channels of all jobs
pub seen_channels : (w : World) (s : ℕ) (j : Job) (a : Ask) → channels_in (seen_by w s j a) ≡ (λ k n. chan_of w.files (channel_at w.jobs k n))
unfolding view state_of
seen_channels w s j a = λ i k n. chan_seen w.files w.core w.jobs w.alarms.items k n i

-- whether a channel reads the file with some names
read_by : (w : World) (names : Names) (o : Option ℕ) → Tidy w → IsStore w.files → found w.files names ≡ o
    → is_read names (λ k n. chan_of w.files (channel_at w.jobs k n)) ≡ has_readers w.files o
read_by w names (Some f) t whole e = read_is w.files w.jobs whole t.across names f e
read_by w names None t whole e = none (is_read names (λ k n. chan_of w.files (channel_at w.jobs k n))) refl
  where
    none : (b : Bool) → is_read names (λ k n. chan_of w.files (channel_at w.jobs k n)) ≡ b → b ≡ false
    none false h = refl
    none true h = let r = reader_found w.files w.jobs whole t.across names h in cc

pub seen_read : (w : World) (s : ℕ) (j : Job) (a : Ask) (names : Names) → Tidy w → IsStore w.files
    → is_read names (channels_in (seen_by w s j a)) ≡ has_readers w.files (found w.files names)
seen_read w s j a names t whole = ap (is_read names) (seen_channels w s j a) ∙ read_by w names (found w.files names) t whole refl

-- whether there is no room for a word more, if no close is marked
pub seen_full : (w : World) (s : ℕ) (j : Job) (a : Ask) (d : ℕ) → Tidy w → IsStore w.files
    → length (free_blocks w.files.stored.chains) + blocks_used w.files.stored ≡ blocks → w.files.mark ≡ None
    → is_full w.files.stored d ≡ has_no_room (directory w.files) (channels_in (seen_by w s j a)) (words_at w.files d)
seen_full w s j a d t whole sum none =
    full_on w.files whole none w.jobs d t.across (omega arith)
    ∙ sym (ap (λ cs. has_no_room (directory w.files) cs (words_at w.files d)) (seen_channels w s j a))
