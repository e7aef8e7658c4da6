-- Channels of the plain machine by those of jobs: if files and drafts are the same to them, and if
-- one channel is set.
use Rattle.std.specs.Prelude.{◌≡◌, ◌≢◌, ℕ, zero, suc, Bool, true, false, nat_lt, Option, Some, None, is_some, option_map, Ok, Err, length, refl}
use Rattle.std.proofs.Common.{sym, ◌∙◌, ap}
use Rattle.its_word.specs.Core.{Core}
use Rattle.its_records.specs.declared.jobs.Channel.{Channel}
use Rattle.its_records.specs.declared.jobs.Channel.TheVariants.{Closed, Reading, Writing, Usr}
use Rattle.its_records.specs.declared.jobs.Job.{Job}
use Rattle.its_files.specs.Files.{Store, readers_at, found, names_at, marked_draft, with_mark, close, close_by, close_old, close_new}
use Rattle.its_files.specs.declared.entry.CloseFault.{CloseFault}
use Rattle.its_files.specs.declared.entry.Parts.TheVariants.{Replace, Link}
use Rattle.its_plain.specs.Machine.Change.{channel_in}
use Rattle.its_plain.specs.Machine.{Chan, Shut}
use Rattle.its_plain.specs.Machine.Own.{at_position, on_channel}
use Rattle.its_shared.specs.Across.{channel_by, reads_file, writes_draft, IsElsewhere}
use Rattle.its_shared.specs.Parts.{chan_of, chans_of, bare, raw_of}
use Rattle.its_shared.proofs.PartLaws.{changed_at}

pub raw_alike : (s t : Store) (c : Core) (u : Option ℕ) (a : Option (ℕ × ℕ)) (o : Option Job)
    → ((m : ℕ) → chan_of t (channel_by o m) ≡ chan_of s (channel_by o m)) → raw_of t c u a o ≡ raw_of s c u a o
raw_alike s t c u a (Some j) h = λ i. Some (record { core = c; job = bare j; superior = u; channels = λ m. h m i; alarm = a })
raw_alike s t c u a None h = refl

pub raw_set : (s t : Store) (c : Core) (u : Option ℕ) (a : Option (ℕ × ℕ)) (n : ℕ) (g : Chan → Chan) (i j : Option Job)
    → option_map bare i ≡ option_map bare j
    → ((m : ℕ) → m ≢ n → chan_of t (channel_by i m) ≡ chan_of s (channel_by j m))
    → (is_some j ≡ true → chan_of t (channel_by i n) ≡ g (chan_of s (channel_by j n)))
    → raw_of t c u a i ≡ option_map (on_channel n g) (raw_of s c u a j)
raw_set s t c u a n g (Some i) (Some j) same others here =
    let b : bare i ≡ bare j = cc in
    let at = changed_at (chans_of t i) (chans_of s j) n (g (chans_of s j n)) (here refl) others in
    λ k. Some (record { core = c; job = b k; superior = u; channels = λ m. at m k; alarm = a })
raw_set s t c u a n g None None same others here = refl
raw_set s t c u a n g (Some i) None same others here = cc
raw_set s t c u a n g None (Some j) same others here = cc

pub job_by : (s : Store) (c : Core) (u : Option ℕ) (a : Option (ℕ × ℕ)) (o : Option Job) → is_some (raw_of s c u a o) ≡ is_some o
job_by s c u a (Some j) = refl
job_by s c u a None = refl

pub chan_by : (s : Store) (c : Core) (u : Option ℕ) (a : Option (ℕ × ℕ)) (o : Option Job) (n : ℕ)
    → channel_in (raw_of s c u a o) n ≡ chan_of s (channel_by o n)
chan_by s c u a (Some j) n = refl
chan_by s c u a None n = refl

pub shut_by : (s : Store) (c : Channel) → chan_of s c ≡ Shut → c ≡ Closed
shut_by s Closed e = refl
shut_by s _ e = cc

pub elsewhere_unread : (c : Channel) → IsElsewhere c → (f : ℕ) → reads_file f c ≡ 0
elsewhere_unread (Reading g at) h f = absurd h
elsewhere_unread (Writing d) h f = absurd h
elsewhere_unread _ h f = refl

pub elsewhere_unwritten : (c : Channel) → IsElsewhere c → (d : ℕ) → writes_draft d c ≡ 0
elsewhere_unwritten (Reading g at) h d = absurd h
elsewhere_unwritten (Writing e) h d = absurd h
elsewhere_unwritten _ h d = refl

pub elsewhere_of : (c : Channel) → ((f at : ℕ) → c ≡ Reading f at → ⊥) → ((d : ℕ) → c ≡ Writing d → ⊥) → IsElsewhere c
elsewhere_of (Reading f at) read written = read f at refl
elsewhere_of (Writing d) read written = written d refl
elsewhere_of _ read written = tt

-- a position that is set, and a word that is appended, if a channel is on nothing of the kind
pub still_moved : (s : Store) (at : ℕ) (c : Channel) → ((f p : ℕ) → c ≡ Reading f p → ⊥)
    → ((k : ℕ) (write : Bool) (p : ℕ) → c ≡ Usr k write p → ⊥) → chan_of s c ≡ at_position at (chan_of s c)
still_moved s at (Reading f p) read usr = absurd (read f p refl)
still_moved s at (Usr k write p) read usr = absurd (usr k write p refl)
still_moved s at _ read usr = refl

-- a close that is begun marks its draft, and can be begun
close_marks_by : (s t : Store) (k slot : ℕ) (o : Option ℕ) → close_by o s slot k ≡ Ok t → marked_draft t.mark ≡ Some k
close_marks_by s t k slot (Some f) e = by_readers (readers_at s f) e
  where
    by_readers : (m : ℕ) → close_old m s slot k f ≡ Ok t → marked_draft t.mark ≡ Some k
    by_readers zero e = let same : t ≡ with_mark s slot (Replace f k) = cc in ap (λ (x : Store). marked_draft x.mark) same
    by_readers (suc m) e = cc
close_marks_by s t k slot None e = by_room (nat_lt (length s.order) 256) e
  where
    by_room : (b : Bool) → close_new b s slot k ≡ Ok t → marked_draft t.mark ≡ Some k
    by_room true e = let same : t ≡ with_mark s slot (Link None k) = cc in ap (λ (x : Store). marked_draft x.mark) same
    by_room false e = cc

pub close_marks : (s t : Store) (k slot : ℕ) → close s k slot ≡ Ok t → marked_draft t.mark ≡ Some k
close_marks s t k slot e = close_marks_by s t k slot (found s (names_at s k)) e

pub close_unread : (s : Store) (f k slot : ℕ) → readers_at s f ≡ 0 → (e : CloseFault) → close_old (readers_at s f) s slot k f ≡ Err e → ⊥
close_unread s f k slot none e h = let z : close_old 0 s slot k f ≡ Err e = sym (ap (λ m. close_old m s slot k f) none) ∙ h in cc
