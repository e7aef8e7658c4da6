-- The changes that can be made.
-- No promise rests on this.
use Rattle.std.specs.Prelude.{◌≡◌, ◌<◌, ℕ, Bool, true, false, Some, None, is_some, List, [], ◌∷◌, length}
use Rattle.its_word.specs.Console.{most_waiting}
use Rattle.its_word.specs.Core.{page_of}
use Rattle.its_word.specs.Limits.{slots, most_pages}
use Rattle.its_records.specs.Links.{most_links, most_link_words}
use Rattle.its_records.specs.Tree.{least_free, is_below}
use Rattle.its_records.specs.declared.calls.Owed.{Owed}
use Rattle.its_records.specs.declared.calls.Owed.TheVariants.{GiveBack}
use Rattle.its_frame.specs.declared.change.Change.{Change}
use Rattle.its_frame.specs.declared.change.Change.TheVariants as changes
use Rattle.its_frame.specs.declared.change.Opened.{Opened}
use Rattle.its_frame.specs.declared.change.Opened.TheVariants as opened
use Rattle.its_plain.specs.Call.File.{has_file}
use Rattle.its_plain.specs.Call.Link.{words_in}
use Rattle.its_plain.specs.Machine.Change.{superiors, is_gone}
use Rattle.its_plain.specs.Machine.{Shut, Linked, core_of, mapped, limit}
use Rattle.its_plain.specs.Machine.Own.{names_of}
use Rattle.its_shared.specs.Can.{Pokes, HasPage}
use Rattle.its_stepped.specs.Commit.{effect_on}
use Rattle.its_stepped.specs.Sound.{Sound}
use Rattle.its_stepped.specs.State.{State}
use Rattle.its_world.specs.Storage.{HasJob, chan_in, IsDraft, Unread, HasRoom, CanClose}

-- a closed channel of slot j's job can be opened: on a console or on another job, or, if no close
-- is half made, on a file that exists or on a new draft
abbrev pub CanOpen : Opened → State → Type 0
CanOpen opened.TtyIn w = Unit {0}
CanOpen opened.TtyOut w = Unit {0}
CanOpen (opened.Reading d x y) w = (has_file (names_of d x y) w.raw.files ≡ true) × (w.mark ≡ None)
CanOpen (opened.Writing d x y) w = w.mark ≡ None
CanOpen (opened.Usr s write) w = Unit {0}

-- the job of slot s can be removed with all below it: those are in user mode, and it has reserved
-- no page
pub record Removable (w : State) (s : ℕ) : Type 0 where
  pub sound : Sound w
  pub unwound : (k : ℕ) → is_below (superiors w.raw) s k ≡ true → w.frames k ≡ None
  pub page : w.reserved s ≡ None

-- the page that slot j has reserved, of which four quarters are clear, can be mapped: it is not
-- there yet, and there is room
pub record Maps (w : State) (j s k : ℕ) : Type 0 where
  pub slot : s < slots
  pub job : HasJob w s
  pub clear : w.reserved j ≡ Some 4
  pub absent : page_of (core_of (w.raw.jobs s)) k ≡ None
  pub room : mapped w.raw < most_pages

-- a change of slot j's call is possible: its channel, its console and its link are numbers that
-- exist, a byte that is put out or a word that is appended or sent has room, an end of a link is
-- opened at a closed channel, and closed with the channel that is on it, and no close is half made
-- if it looks at the directory; a job is made in the least empty slot; a removed one and those
-- below it are in user mode and are not the caller; and a page exists, or is possible
abbrev pub CanMake : Change → ℕ → State → Type 0
CanMake (changes.Open n on) j w = (n < 16) × HasJob w j × (chan_in w j n ≡ Shut) × CanOpen on w
CanMake (changes.Shut n) j w = n < 16
CanMake (changes.Move n at) j w = n < 16
CanMake (changes.Append n x) j w = (n < 16) × (w.mark ≡ None) × HasRoom w (chan_in w j n)
CanMake (changes.Close n) j w =
    (n < 16) × HasJob w j × (w.mark ≡ None) × IsDraft (chan_in w j n) × CanClose w (chan_in w j n)
CanMake (changes.Delete d x y) j w = (w.mark ≡ None) × Unread w (names_of d x y)
CanMake (changes.Rename d x y u v) j w = (w.mark ≡ None) × Unread w (names_of d x y) × (has_file (names_of d u v) w.raw.files ≡ false)
CanMake (changes.Take c) j w = c < 8
CanMake (changes.Put c b) j w = (c < 8) × (length (w.raw.consoles c).output < most_waiting)
CanMake (changes.Hold c s) j w = c < 8
CanMake (changes.Inform s) j w = Unit {0}
CanMake (changes.Arm alarm) j w = Unit {0}
CanMake (changes.Join n l write x y) j w = (n < 16) × (l < most_links) × HasJob w j × (chan_in w j n ≡ Shut)
CanMake (changes.CloseEnd n l write) j w = (n < 16) × (l < most_links) × (chan_in w j n ≡ Linked l write)
CanMake (changes.Send l x) j w = (l < most_links) × (is_some (w.raw.links l) ≡ true) × (length (words_in (w.raw.links l)) < most_link_words)
CanMake (changes.Receive l) j w = l < most_links
CanMake (changes.Set s v x) j w = Unit {0}
CanMake (changes.Poke s a x) j w = Pokes w.raw s a
CanMake (changes.Make s u n) j w = HasJob w j × (least_free (limit w.raw) w.raw.jobs ≡ Some s)
CanMake (changes.Remove s) j w = (s < slots) × HasJob w s × (is_gone (superiors w.raw) s j ≡ false) × Removable w s
CanMake (changes.Map s k) j w = Maps w j s k
CanMake (changes.Unmap s k) j w = HasPage w.raw s k
CanMake (changes.Protect s k on) j w = HasPage w.raw s k

-- each of several can be made, of slot j's call, after those before it
abbrev pub CanMakeAll : List Change → ℕ → State → Type 0
CanMakeAll [] j w = Unit {0}
CanMakeAll (c ∷ cs) j w = CanMake c j w × CanMakeAll cs j (effect_on c j w)

-- the step of giving a page back, if one is reserved
abbrev pub backed : Bool → List Owed
backed true = GiveBack ∷ []
backed false = []
