-- What a decision promises: its changes, its stores and its registers can be carried out.
-- No promise rests on this.
use Rattle.std.specs.Prelude.{◌≡◌, ◌<◌, ◌^◌, ◌||◌, ℕ, true, false, Some, None, is_some, List, [], ◌∷◌, length, nat_lt}
use Rattle.its_word.specs.Console.{most_waiting}
use Rattle.its_word.specs.Core.{can_store, page_of}
use Rattle.its_word.specs.Limits.{slots, most_pages}
use Rattle.its_records.specs.Links.{most_links, most_link_words}
use Rattle.its_records.specs.Tree.{least_free}
use Rattle.its_frame.specs.declared.change.Change.{Change}
use Rattle.its_frame.specs.declared.change.Change.TheVariants as changes
use Rattle.its_frame.specs.declared.change.Opened.{Opened}
use Rattle.its_frame.specs.declared.change.Opened.TheVariants as opened
use Rattle.its_plain.specs.Call.File.{most_files, is_full, has_file, is_read}
use Rattle.its_plain.specs.Call.Link.{words_in}
use Rattle.its_plain.specs.Machine.Change.{channel_in, effect, is_gone, superiors}
use Rattle.its_plain.specs.Machine.{Names, Chan, Shut, Writes, Linked, Machine, core_of, limit, mapped}
use Rattle.its_plain.specs.Operator.Files.{channels_of}
use Rattle.its_plain.specs.Machine.Own.{names_of}

-- a slot has a job
abbrev pub HasJob : Machine → ℕ → Type 0
HasJob m s = is_some (m.jobs s) ≡ true

-- what channel n of the job of slot s is on
abbrev pub chan_in : Machine → ℕ → ℕ → Chan
chan_in m s n = channel_in (m.jobs s) n

-- no channel reads a file with these names
abbrev pub Unread : Machine → Names → Type 0
Unread m names = is_read names (channels_of m) ≡ false

-- a channel is on a draft that has room for a word more
abbrev pub HasRoom : Machine → Chan → Type 0
HasRoom m (Writes f) = is_full m.files (channels_of m) f.words ≡ false
HasRoom m _ = ⊥

-- a channel is on a draft that can become a file: in place of one that no channel reads, or of none
-- if there are fewer files than the most
abbrev pub CanClose : Machine → Chan → Type 0
CanClose m (Writes f) = Unread m f.names × ((has_file f.names m.files || nat_lt (length m.files) most_files) ≡ true)
CanClose m _ = ⊥

-- a channel can be opened on this: a file is one that there is
abbrev pub CanOpen : Opened → Machine → Type 0
CanOpen (opened.Reading d x y) m = has_file (names_of d x y) m.files ≡ true
CanOpen _ m = Unit {0}

-- a word of the job of slot s can be stored
pub record Pokes (m : Machine) (s a : ℕ) : Type 0 where
  pub slot : s < slots
  pub address : a < 2 ^ 18
  pub job : HasJob m s
  pub can : can_store (core_of (m.jobs s)) a ≡ true

-- page k of the job of slot s is there
pub record HasPage (m : Machine) (s k : ℕ) : Type 0 where
  pub slot : s < slots
  pub job : HasJob m s
  pub there : is_some (page_of (core_of (m.jobs s)) k) ≡ true

-- it is not there, and there is room for a page more
pub record Maps (m : Machine) (s k : ℕ) : Type 0 where
  pub slot : s < slots
  pub job : HasJob m s
  pub absent : page_of (core_of (m.jobs s)) k ≡ None
  pub room : mapped m < most_pages

-- a change of slot j's call is possible: channels, consoles and links are numbers that exist; a
-- byte that is put out, a word that is appended and one that is sent have room; files are ones that
-- exist, and that no channel reads if they change; a job is made in the least empty slot; one that
-- is removed is neither the caller nor above it; a page exists, or is possible; and an end of a
-- link is opened at a closed channel, and closed with the channel that is on it
abbrev pub CanMake : Change → ℕ → Machine → Type 0
CanMake (changes.Open n on) j m = (n < 16) × HasJob m j × (chan_in m j n ≡ Shut) × CanOpen on m
CanMake (changes.Shut n) j m = n < 16
CanMake (changes.Move n at) j m = n < 16
CanMake (changes.Append n w) j m = (n < 16) × HasRoom m (chan_in m j n)
CanMake (changes.Close n) j m = (n < 16) × CanClose m (chan_in m j n)
CanMake (changes.Take c) j m = c < 8
CanMake (changes.Put c b) j m = (c < 8) × (length (m.consoles c).output < most_waiting)
CanMake (changes.Hold c s) j m = c < 8
CanMake (changes.Poke s a w) j m = Pokes m s a
CanMake (changes.Set s v w) j m = s < slots
CanMake (changes.Map s k) j m = Maps m s k
CanMake (changes.Unmap s k) j m = HasPage m s k
CanMake (changes.Protect s k on) j m = HasPage m s k
CanMake (changes.Make s u n) j m = HasJob m j × (least_free (limit m) m.jobs ≡ Some s)
CanMake (changes.Remove s) j m = (s < slots) × HasJob m s × (is_gone (superiors m) s j ≡ false)
CanMake (changes.Inform s) j m = s < slots
CanMake (changes.Arm alarm) j m = Unit {0}
CanMake (changes.Delete d x y) j m = (has_file (names_of d x y) m.files ≡ true) × Unread m (names_of d x y)
CanMake (changes.Rename d x y u v) j m =
    (has_file (names_of d x y) m.files ≡ true) × Unread m (names_of d x y) × (has_file (names_of d u v) m.files ≡ false)
CanMake (changes.Join n l write x y) j m = (n < 16) × (l < most_links) × HasJob m j × (chan_in m j n ≡ Shut)
CanMake (changes.CloseEnd n l write) j m = (n < 16) × (l < most_links) × (chan_in m j n ≡ Linked l write)
CanMake (changes.Send l w) j m = (l < most_links) × (is_some (m.links l) ≡ true) × (length (words_in (m.links l)) < most_link_words)
CanMake (changes.Receive l) j m = l < most_links

-- each of several can be made, after those before it
abbrev pub CanMakeAll : List Change → ℕ → Machine → Type 0
CanMakeAll [] j m = Unit {0}
CanMakeAll (c ∷ cs) j m = CanMake c j m × CanMakeAll cs j (effect c j m)
