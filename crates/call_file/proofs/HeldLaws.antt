-- What the channels of a job are on that read a file or write a draft.
use Rattle.std.specs.Prelude.{◌≡◌, ℕ, true, Some}
use Rattle.its_records.specs.declared.jobs.Channel.TheVariants.{Reading, Writing}
use Rattle.its_records.specs.declared.jobs.Job.{Job}
use Rattle.its_files.specs.Files.{entry_at, is_file, is_draft}
use Rattle.its_jobs.specs.Table.{job_at}
use Rattle.its_world.specs.Tidy.{Tidy}
use Rattle.its_world.specs.declared.world.World.{World}
use Rattle.its_shared.proofs.StandLaws as across
use Rattle.its_shared.specs.Called.{channel_under}
use Rattle.its_shared.proofs.NumberLaws.{held, reading_number, under, writing_number}

pub reading_file : (w : World) (s : ℕ) (j : Job) (n f at : ℕ) → Tidy w → job_at w.jobs s ≡ Some j → channel_under j n ≡ Reading f at
    → is_file (entry_at w.files f) ≡ true
reading_file w s j n f at t h e = across.reading_file w.files w.jobs t.across s n f at (held w.jobs s n j (Reading f at) h e (λ z. cc))

pub writing_draft : (w : World) (s : ℕ) (j : Job) (n d : ℕ) → Tidy w → job_at w.jobs s ≡ Some j → channel_under j n ≡ Writing d
    → is_draft (entry_at w.files d) ≡ true
writing_draft w s j n d t h e = across.writing_draft w.files w.jobs t.across s n d (held w.jobs s n j (Writing d) h e (λ z. cc))

-- what a call needs of its channel
pub ruleset reading = (under, reading_number, reading_file)

pub ruleset writing = (under, writing_number, writing_draft)
