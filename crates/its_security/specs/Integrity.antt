-- Who may touch what: all that one step of the job of slot j can change (docs/MACHINE.md, "Who may
-- touch what"). The policy is the tree of jobs: a job changes itself, and an inferior on which it
-- has a channel with leave to write. What is not named below is unchanged.
-- A promise rests on this.
use Rattle.std.specs.Prelude.{◌≡◌, ◌≢◌, ℕ, Bool, true, false, Option, Some, None, is_some, option_map, [], ◌∷◌, ◌++◌}
use Rattle.its_word.specs.Core.{zero_page, can_store}
use Rattle.its_records.specs.Links.{most_links, link_end}
use Rattle.its_records.specs.Tree.{is_below, least_free}
use Rattle.its_records.specs.declared.link.End.TheVariants.{Opened}
use Rattle.its_frame.specs.declared.variable.Variable.{Variable}
use Rattle.its_plain.specs.Call.Basic.{by_superior}
use Rattle.its_plain.specs.Call.Core.{has_page}
use Rattle.its_plain.specs.Call.File.{has_file, is_read}
use Rattle.its_plain.specs.Call.Link.{has_link_names, link_named, can_open}
use Rattle.its_plain.specs.Call.Tty.{is_other}
use Rattle.its_plain.specs.Call.Usr.{has_names}
use Rattle.its_plain.specs.Machine.Change.{channel_in, superiors, console_in, with_file, without_file, with_new_names, after_take, after_put, is_gone, in_job, after_shut, after_removal, inferior, with_page_at, with_protection, poke, with_inf, link_or_new, with_end_opened, after_end_close, with_sent, with_received}
use Rattle.its_plain.specs.Machine.{Names, File, Pipe, Chan, Shut, TtyIn, TtyOut, Reads, Writes, On, Linked, Whole, Machine, limit}
use Rattle.its_plain.specs.Operator.Files.{channels_of}
use Rattle.its_plain.specs.Machine.Own.{names_of, with_stores, with_registers, with_variable}
use Rattle.its_plain.specs.Machine.View.{outline}

-- job j has leave to write in job k: that is an inferior of its own, on which it has a channel that
-- was opened with leave to write
pub record MayWrite (m : Machine) (j k : ℕ) : Type 0 where
  pub channel : ℕ
  pub position : ℕ
  pub is : channel_in (m.jobs j) channel ≡ On k true position
  pub up : superiors m k ≡ Some j

-- what one call through such a channel makes of a job: a word is stored, if one can be stored
-- there; a variable is set that a superior may set; a page of zeros is made if there is none; or a
-- page is dropped, or its protection is set
pub data Written (q : Whole) : Whole → Type 0 where
  word_stored : (a w : ℕ) → can_store q.core a ≡ true → Written q (with_stores (poke a w ∷ []) q)
  variable_set : (x : Variable) (w : ℕ) → by_superior x ≡ true → Written q (with_registers (with_variable x w) q)
  page_made : (k : ℕ) → has_page q.core k ≡ false → Written q (with_page_at k (Some zero_page) q)
  page_dropped : (k : ℕ) → Written q (with_page_at k None q)
  page_marked : (k : ℕ) (w : Bool) → Written q (with_protection k w q)

-- INF is set in the job of a slot, if a slot is given
abbrev pub with_inf_in : Option ℕ → Machine → Machine
with_inf_in (Some s) m = in_job m s with_inf
with_inf_in None m = m

-- whom the step of job j removes, and the machine that is left: nobody; itself with all jobs below
-- it, and INF is set in its superior, as LOGOUT does; or with all jobs below it an inferior that a
-- channel of j is on, as UCLOSE does
pub data Removes (m n : Machine) (j : ℕ) : Machine → Type 0 where
  nobody : Removes m n j m
  by_logout : n.jobs j ≡ None → Removes m n j (with_inf_in (superiors m j) (after_removal (superiors m) j m))
  by_uclose : (channel s position : ℕ) (write : Bool) → channel_in (m.jobs j) channel ≡ On s write position → superiors m s ≡ Some j
      → Removes m n j (after_removal (superiors m) s m)

-- the job is there and is stopped
abbrev pub IsStopped : Option Whole → Type 0
IsStopped (Some q) = q.job.stopped ≡ true
IsStopped None = ⊥

-- no job has these names
abbrev pub NoJobNamed : Machine → ℕ → ℕ → Type 0
NoJobNamed m u x = (k : ℕ) → has_names u x (option_map outline (m.jobs k)) ≡ false

-- how job j may change another job k, from machine m to machine n
pub data JobMay (m n : Machine) (j k : ℕ) : Type 0 where
  -- j writes in it
  job_written : (q r : Whole) → MayWrite m j k → m.jobs k ≡ Some q → n.jobs k ≡ Some r → Written q r → JobMay m n j k
  -- it is the superior of j, which is stopped afterwards, and INF is set in it
  superior_informed : (q : Whole) → superiors m j ≡ Some k → IsStopped (n.jobs j) → m.jobs k ≡ Some q → n.jobs k ≡ Some (with_inf q) → JobMay m n j k
  -- it is a new inferior of j in the least empty slot, as OPEN makes one
  job_made : (u x : ℕ) → least_free (limit m) m.jobs ≡ Some k → NoJobNamed m u x → n.jobs k ≡ Some (inferior j (m.jobs j) u x) → JobMay m n j k

-- what may become of the other jobs, if machine l is left: they are as they are in l; or nobody is
-- removed, and one of them changes
pub data JobsMay (m l n : Machine) (j : ℕ) : Type 0 where
  others_same : ((k : ℕ) → k ≢ j → n.jobs k ≡ l.jobs k) → JobsMay m l n j
  one_changes : (s : ℕ) → s ≢ j → l ≡ m → JobMay m n j s → ((k : ℕ) → k ≢ j → k ≢ s → n.jobs k ≡ m.jobs k) → JobsMay m l n j

-- an end of a link is open at channel i of job j
abbrev pub IsOpenAt : ℕ → ℕ → Bool → Option Pipe → Type 0
IsOpenAt j i write (Some p) = link_end write p.link ≡ Opened j i
IsOpenAt j i write None = ⊥

-- what channel i of job j may be on: the job's own console, an inferior of its own, an end of a
-- link that is open at this channel, and any file or draft
abbrev pub MayBeOn : Machine → ℕ → ℕ → Chan → Type 0
MayBeOn m j i TtyIn = is_some (console_in (m.jobs j)) ≡ true
MayBeOn m j i TtyOut = is_some (console_in (m.jobs j)) ≡ true
MayBeOn m j i (On s write position) = superiors m s ≡ Some j
MayBeOn m j i (Linked k write) = IsOpenAt j i write (m.links k)
MayBeOn m j i _ = Unit {0}

-- what an opened channel is on. A draft has no words yet
abbrev pub IsFresh : Chan → Type 0
IsFresh (Writes f) = f.words ≡ []
IsFresh _ = Unit {0}

-- what may become of a channel of the job itself: it stays, its position moves, its draft gets a
-- word, it is closed; or it was closed and is opened
pub data ChannelMay : Chan → Chan → Type 0 where
  channel_same : (c : Chan) → ChannelMay c c
  file_moves : (x : Names) (from to : ℕ) → ChannelMay (Reads x from) (Reads x to)
  inferior_moves : (s : ℕ) (write : Bool) (from to : ℕ) → ChannelMay (On s write from) (On s write to)
  word_added : (f : File) (w : ℕ) → ChannelMay (Writes f) (Writes (record f { words = f.words ++ w ∷ [] }))
  channel_closed : (c : Chan) → ChannelMay c Shut
  channel_opened : (c : Chan) → IsFresh c → ChannelMay Shut c

-- what a job keeps: its names, its superior and its console; what each of its channels may be on;
-- and each end of a link that is open at one of its channels, that channel is on. Its words,
-- registers and alarm are its own affair
pub record Keeps (n : Machine) (j : ℕ) (q r : Whole) : Type 0 where
  pub uname : r.job.uname ≡ q.job.uname
  pub jname : r.job.jname ≡ q.job.jname
  pub console : r.job.console ≡ q.job.console
  pub superior : r.superior ≡ q.superior
  pub channels : (i : ℕ) → ChannelMay (q.channels i) (r.channels i)
  pub reach : (i : ℕ) → MayBeOn n j i (r.channels i)
  pub ends : (i k : ℕ) (write : Bool) → IsOpenAt j i write (n.links k) → r.channels i ≡ Linked k write

-- what may become of job j itself: it changes and keeps these, or it is gone with what is removed
pub data OwnMay (m l n : Machine) (j : ℕ) : Type 0 where
  own_kept : (q r : Whole) → m.jobs j ≡ Some q → n.jobs j ≡ Some r → Keeps n j q r → OwnMay m l n j
  own_gone : l.jobs j ≡ None → n.jobs j ≡ None → OwnMay m l n j

-- console c is job j's own, and nobody else holds it
pub record Uses (m : Machine) (j c : ℕ) : Type 0 where
  pub own : console_in (m.jobs j) ≡ Some c
  pub free : is_other j (m.holders c) ≡ false

-- what may become of the bytes at a console: one leaves the front of its input, or one is added to
-- its output
pub data ConsoleMay (m n : Machine) (j c : ℕ) : Type 0 where
  bytes_same : n.consoles c ≡ m.consoles c → ConsoleMay m n j c
  byte_taken : Uses m j c → n.consoles c ≡ after_take (m.consoles c) → ConsoleMay m n j c
  byte_put : (b : ℕ) → Uses m j c → n.consoles c ≡ after_put b (m.consoles c) → ConsoleMay m n j c

-- job j may take its console: nobody holds it, or itself, or an inferior
pub data CanTake (m : Machine) (j c : ℕ) : Type 0 where
  from_nobody : m.holders c ≡ None → CanTake m j c
  from_itself : m.holders c ≡ Some j → CanTake m j c
  from_inferior : (h : ℕ) → m.holders c ≡ Some h → superiors m h ≡ Some j → CanTake m j c

-- what may become of the holder of a console, if machine l is left: it is as in l, which passes the
-- consoles of removed jobs on; or nobody is removed, and j takes its console, or gives it to an
-- inferior
pub data HolderMay (m l n : Machine) (j c : ℕ) : Type 0 where
  holder_same : n.holders c ≡ l.holders c → HolderMay m l n j c
  console_taken : l ≡ m → console_in (m.jobs j) ≡ Some c → CanTake m j c → n.holders c ≡ Some j → HolderMay m l n j c
  console_given : (s : ℕ) → l ≡ m → console_in (m.jobs j) ≡ Some c → m.holders c ≡ Some j → superiors m s ≡ Some j → n.holders c ≡ Some s → HolderMay m l n j c

-- no channel of any job reads the file with these names
abbrev pub IsUnread : Machine → Names → Type 0
IsUnread m x = is_read x (channels_of m) ≡ false

-- what may become of the directory: j closes its own draft, which becomes the last file in place of
-- one with its names, or deletes or renames a file. No channel reads a file that goes or gets other
-- names
pub data FilesMay (m n : Machine) (j : ℕ) : Type 0 where
  files_same : n.files ≡ m.files → FilesMay m n j
  draft_closed : (channel : ℕ) (f : File) → channel_in (m.jobs j) channel ≡ Writes f → IsUnread m f.names → n.files ≡ with_file f m.files → FilesMay m n j
  file_deleted : (x : Names) → IsUnread m x → n.files ≡ without_file x m.files → FilesMay m n j
  file_renamed : (d x y u v : ℕ) → IsUnread m (names_of d x y) → has_file (names_of d u v) m.files ≡ false → n.files ≡ with_new_names (names_of d x y) u v m.files → FilesMay m n j

-- link k is the one to open by these names: it has them; or no link has them, and k is the least
-- free number of a link
pub data LinkFor (links : ℕ → Option Pipe) (x y k : ℕ) : Type 0 where
  is_there : has_link_names x y (links k) ≡ true → LinkFor links x y k
  is_new : link_named links x y ≡ None → least_free most_links links ≡ Some k → LinkFor links x y k

-- channel i of job j is on an end of link k, which is open there
pub record AtEnd (m : Machine) (j i k : ℕ) (write : Bool) : Type 0 where
  pub is : channel_in (m.jobs j) i ≡ Linked k write
  pub end : IsOpenAt j i write (m.links k)

-- how job j may change link k: it opens an end that nobody has opened, at a channel of its own that
-- was closed, and makes the link if there is none; it sends a word or receives the first, through
-- its own channel on that end; or it closes its own end
pub data LinkMay (m n : Machine) (j k : ℕ) : Type 0 where
  end_opened : (i x y : ℕ) (write : Bool) → channel_in (m.jobs j) i ≡ Shut → can_open write (m.links k) ≡ true → LinkFor m.links x y k
      → n.links k ≡ Some (with_end_opened write j i (link_or_new x y (m.links k))) → LinkMay m n j k
  word_sent : (i w : ℕ) → AtEnd m j i k true → n.links k ≡ option_map (with_sent w) (m.links k) → LinkMay m n j k
  word_received : (i : ℕ) → AtEnd m j i k false → n.links k ≡ option_map with_received (m.links k) → LinkMay m n j k
  end_shut : (i : ℕ) (write : Bool) → AtEnd m j i k write → n.links k ≡ after_end_close write (m.links k) → LinkMay m n j k

-- what may become of the links, if machine l is left: they are as they are in l, which closes the
-- ends of removed jobs; or nobody is removed, and one link changes
pub data LinksMay (m l n : Machine) (j : ℕ) : Type 0 where
  links_same : ((k : ℕ) → n.links k ≡ l.links k) → LinksMay m l n j
  one_link_changes : (s : ℕ) → l ≡ m → LinkMay m n j s → ((k : ℕ) → k ≢ s → n.links k ≡ m.links k) → LinksMay m l n j

-- what may become of the symbols of a slot, if machine l is left: they are as they are in l, in
-- which removed jobs have none; and a new job has none
pub data SymbolsMay (m l n : Machine) (k : ℕ) : Type 0 where
  symbols_same : n.symbols k ≡ l.symbols k → SymbolsMay m l n k
  symbols_none : m.jobs k ≡ None → is_some (n.jobs k) ≡ true → n.symbols k ≡ [] → SymbolsMay m l n k

-- what a step of job j from machine m to machine n may change: it removes a tree of jobs, or none;
-- of what is left then, it changes this
pub record MayStep (m : Machine) (j : ℕ) (n : Machine) : Type 0 where
  pub left : Machine
  pub removes : Removes m n j left
  pub own : OwnMay m left n j
  pub jobs : JobsMay m left n j
  pub consoles : (c : ℕ) → ConsoleMay m n j c
  pub holders : (c : ℕ) → HolderMay m left n j c
  pub files : FilesMay m n j
  pub symbols : (k : ℕ) → SymbolsMay m left n k
  pub links : LinksMay m left n j
  pub clock : n.clock ≡ m.clock
  pub version : n.version ≡ m.version

-- a job that reaches nobody: it has no channel on another job, and no job is below it
pub record ReachesNobody (m : Machine) (j : ℕ) : Type 0 where
  pub channels : (n s position : ℕ) (write : Bool) → channel_in (m.jobs j) n ≢ On s write position
  pub inferiors : (k : ℕ) → is_below (superiors m) j k ≡ false

-- what such a job may do to another job k: nothing, except that its superior gets INF when the job
-- is stopped or gone, and loses its channels on the job when it is gone; and the least empty slot
-- may get a new inferior of the job
pub data OnlyTells (m n : Machine) (j k : ℕ) : Type 0 where
  tells_nothing : n.jobs k ≡ m.jobs k → OnlyTells m n j k
  tells_stop : (q : Whole) → superiors m j ≡ Some k → IsStopped (n.jobs j) → m.jobs k ≡ Some q → n.jobs k ≡ Some (with_inf q) → OnlyTells m n j k
  tells_end : (q : Whole) → superiors m j ≡ Some k → m.jobs k ≡ Some q → n.jobs j ≡ None
      → n.jobs k ≡ Some (with_inf (after_shut (is_gone (superiors m) j) q)) → OnlyTells m n j k
  makes_job : (u x : ℕ) → least_free (limit m) m.jobs ≡ Some k → NoJobNamed m u x → n.jobs k ≡ Some (inferior j (m.jobs j) u x) → OnlyTells m n j k
