-- What the channel under a number is on.
use Rattle.std.specs.Prelude.{if◌then◌else◌, ◌≡◌, ◌≢◌, ◌<◌, ℕ, Bool, true, false, Some, nat_lt, refl, slice_index_or}
use Rattle.std.proofs.Common.{sym, ◌∙◌, ap}
use Rattle.std.proofs.lemmas.Bool.{ltb-true}
use Rattle.its_records.specs.declared.jobs.Channel.{Channel}
use Rattle.its_records.specs.declared.jobs.Channel.TheVariants.{Closed, Reading, Writing, TtyIn, TtyOut, Usr, Link}
use Rattle.its_records.specs.declared.jobs.Job.{Job}
use Rattle.its_files.specs.Files.{Store}
use Rattle.its_jobs.specs.Table.{Table, job_at}
use Rattle.its_plain.specs.Call.Basic.{channel_at}
use Rattle.its_plain.specs.Machine.{Shut, On, Linked}
use Rattle.its_shared.specs.Across.{channel_by, channel_at as channel_of}
use Rattle.its_shared.specs.Called.{channel_under}
use Rattle.its_shared.specs.Parts.{chan_of, chans_of}

under_by : (s : Store) (j : Job) (n : ℕ) (b : Bool) → chan_of s
    (if b then slice_index_or j.channels n Closed else Closed) ≡ (if b then chans_of s j n else Shut)
under_by s j n true = refl
under_by s j n false = refl

pub under : (s : Store) (j : Job) (n : ℕ) → chan_of s (channel_under j n) ≡ channel_at (chans_of s j) n
under s j n = under_by s j n (nat_lt n 16)

pub usr_on : (s : Store) (j : Job) (n k at : ℕ) (b : Bool) → channel_under j n ≡ Usr k b at → channel_at (chans_of s j) n ≡ On k b at
usr_on s j n k at b e = sym (under s j n) ∙ ap (chan_of s) e

pub link_on : (s : Store) (j : Job) (n l : ℕ) (b : Bool) → channel_under j n ≡ Link l b → channel_at (chans_of s j) n ≡ Linked l b
link_on s j n l b e = sym (under s j n) ∙ ap (chan_of s) e

-- an open channel has a number below 16, and is one of those of its job
record Open (j : Job) (n : ℕ) (c : Channel) : Type 0 where
  pub below : n < 16
  pub here : slice_index_or j.channels n Closed ≡ c

open_by : (j : Job) (n : ℕ) (c : Channel) (b : Bool) → nat_lt n 16 ≡ b → (if b then slice_index_or j.channels n Closed else Closed) ≡ c
    → Closed ≢ c → Open j n c
open_by j n c true t e ne = record { below = ltb-true n 16 t; here = e }
open_by j n c false t e ne = absurd (ne e)

is_open : (j : Job) (n : ℕ) (c : Channel) → channel_under j n ≡ c → Closed ≢ c → Open j n c
is_open j n c e ne = open_by j n c (nat_lt n 16) refl e ne

pub held : (t : Table) (k n : ℕ) (j : Job) (c : Channel) → job_at t k ≡ Some j → channel_under j n ≡ c → Closed ≢ c → channel_of t k n ≡ c
held t k n j c h e ne = ap (λ o. channel_by o n) h ∙ (is_open j n c e ne).here

pub reading_number : (j : Job) (n f at : ℕ) → channel_under j n ≡ Reading f at → n < 16
reading_number j n f at e = (is_open j n (Reading f at) e (λ z. cc)).below

pub writing_number : (j : Job) (n d : ℕ) → channel_under j n ≡ Writing d → n < 16
writing_number j n d e = (is_open j n (Writing d) e (λ z. cc)).below

pub typed_number : (j : Job) (n : ℕ) → channel_under j n ≡ TtyIn → n < 16
typed_number j n e = (is_open j n TtyIn e (λ z. cc)).below

pub shown_number : (j : Job) (n : ℕ) → channel_under j n ≡ TtyOut → n < 16
shown_number j n e = (is_open j n TtyOut e (λ z. cc)).below

pub usr_number : (j : Job) (n k at : ℕ) (b : Bool) → channel_under j n ≡ Usr k b at → n < 16
usr_number j n k at b e = (is_open j n (Usr k b at) e (λ z. cc)).below

pub linked_number : (j : Job) (n l : ℕ) (b : Bool) → channel_under j n ≡ Link l b → n < 16
linked_number j n l b e = (is_open j n (Link l b) e (λ z. cc)).below

-- the number of an open channel
pub ruleset numbers = (reading_number, writing_number, typed_number, shown_number, usr_number, linked_number)
