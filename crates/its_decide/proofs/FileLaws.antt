-- What a call sees of files and of the channels on them, by their numbers.
use Rattle.std.specs.Prelude.{◌≡◌, ◌+◌, ℕ, Bool, true, false, Option, Some, None, length, refl}
use Rattle.std.proofs.Common.{sym, ◌∙◌, arith}
use Rattle.its_records.specs.declared.jobs.Channel.TheVariants.{Reading, Writing}
use Rattle.its_files.specs.Blocks.{blocks, free_blocks, is_full, blocks_used}
use Rattle.its_files.specs.Files.{Store, IsStore, directory, entry_at, found, is_file, is_draft, words_at}
use Rattle.its_plain.specs.Call.File.{channels_in, is_full as has_no_room, is_read}
use Rattle.its_plain.specs.Machine.{Names}
use Rattle.its_plain.specs.Machine.View.{view}
use Rattle.its_shared.specs.Across.{channel_at}
use Rattle.its_shared.specs.Parts.{chan_of}
use Rattle.its_shared.proofs.RoomLaws.{full_on}
use Rattle.its_shared.proofs.StandLaws.{read_is, reader_found}
use Rattle.its_shared.proofs.StandLaws as stands
use Rattle.its_shared.specs.Called.{channel_under}
use Rattle.its_decide.specs.Called.{looks}
use Rattle.its_decide.specs.Directory.{has_readers}
use Rattle.its_decide.specs.Fits.{SeenFits}
use Rattle.its_decide.specs.declared.caller.Caller.{Caller}
use Rattle.its_shared.proofs.NumberLaws.{held, reading_number, writing_number}
use Rattle.its_shared.proofs.SeenLaws.{chan_seen}

module _ (c : Caller) where
  abbrev files : Store
  files = c.seen.now.files.now

  pub seen_channel : (k n : ℕ) → channels_in (looks c) k n ≡ chan_of files (channel_at c.seen.now.jobs.now k n)
  unfolding view
  seen_channel = chan_seen files c.seen.now.core.now c.seen.now.jobs.now c.seen.now.alarms.now.items

  -- whether a channel reads the file with some names
  read_by : (names : Names) (o : Option ℕ) → SeenFits c.seen.now → IsStore files → found files names ≡ o
      → is_read names (λ k n. chan_of files (channel_at c.seen.now.jobs.now k n)) ≡ has_readers files o
  read_by names (Some f) fits whole e = read_is files c.seen.now.jobs.now whole fits.across names f e
  read_by names None fits whole e = none (is_read names (λ k n. chan_of files (channel_at c.seen.now.jobs.now k n))) refl
    where
      none : (b : Bool) → is_read names (λ k n. chan_of files (channel_at c.seen.now.jobs.now k n)) ≡ b → b ≡ false
      none false h = refl
      none true h = let r = reader_found files c.seen.now.jobs.now whole fits.across names h in cc

  pub seen_read : (names : Names) → SeenFits c.seen.now → IsStore files → is_read names (channels_in (looks c)) ≡ has_readers files (found files names)
  seen_read names fits whole = (λ i. is_read names (λ k n. seen_channel k n i)) ∙ read_by names (found files names) fits whole refl

  -- what a channel of the caller is on exists
  pub reading_file : (n f at : ℕ) → SeenFits c.seen.now → channel_under c.job.now n ≡ Reading f at → is_file (entry_at files f) ≡ true
  reading_file n f at fits e = stands.reading_file files c.seen.now.jobs.now fits.across c.slot n f at
      (held c.seen.now.jobs.now c.slot n c.job.now (Reading f at) c.stands e (λ z. cc))

  pub writing_draft : (n d : ℕ) → SeenFits c.seen.now → channel_under c.job.now n ≡ Writing d → is_draft (entry_at files d) ≡ true
  writing_draft n d fits e = stands.writing_draft files c.seen.now.jobs.now fits.across c.slot n d
      (held c.seen.now.jobs.now c.slot n c.job.now (Writing d) c.stands e (λ z. cc))

  -- whether there is no room for a word more
  pub seen_full : (d : ℕ) → SeenFits c.seen.now → IsStore files → length (free_blocks files.stored.chains) + blocks_used files.stored ≡ blocks
      → is_full files.stored d ≡ has_no_room (directory files) (channels_in (looks c)) (words_at files d)
  seen_full d fits whole sum =
      full_on files whole fits.unmarked c.seen.now.jobs.now d fits.across (omega arith)
      ∙ sym (λ i. has_no_room (directory files) (λ k n. seen_channel k n i) (words_at files d))

-- what a call needs of its channel
pub ruleset reading = (reading_number, reading_file)

pub ruleset writing = (writing_number, writing_draft)
