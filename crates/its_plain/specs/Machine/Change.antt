-- What a change that a call makes outside its caller's own words and registers does to the plain
-- machine (docs/CALLS.md).
-- A promise rests on this.
use Rattle.std.specs.Prelude.{if◌then◌else◌, ◌==◌, ◌||◌, ℕ, Bool, true, false, Option, Some, None, List, [], ◌∷◌, ◌++◌, option_map, slice_index_or}
use Rattle.its_word.specs.Core.{Page, no_core, zero_page, page_of, with_page, marked}
pub use Rattle.its_word.specs.Directory.{same_names}
use Rattle.its_word.specs.Directory.{without_names, with_changed, named}
use Rattle.its_records.specs.Links.{with_end, is_alive, new_link, link_left}
use Rattle.its_records.specs.declared.link.End.TheVariants.{Opened, Closed}
use Rattle.its_records.specs.Tree.{fresh_job, is_below}
use Rattle.its_word.specs.declared.plan.Store.{Store}
use Rattle.its_frame.specs.declared.change.Change.{Change}
use Rattle.its_frame.specs.declared.change.Change.TheVariants as changes
use Rattle.its_plain.specs.Machine.Registers.{INF, with_pending}
use Rattle.its_plain.specs.Machine.{Symbol, Names, File, Pipe, Chan, Shut, Writes, On, Linked, Whole, Console, Machine, changed, with_new, all_shut}
use Rattle.its_plain.specs.Machine.Own.{with_stores, with_registers, names_of, opened_on, at_position, with_word, on_channel, with_variable}

-- the job of slot s changed, if there is one
abbrev pub on_slot : {X : Type 0} → (ℕ → Option X) → ℕ → (X → X) → ℕ → Option X
on_slot jobs s f k = if k == s then option_map f (jobs k) else jobs k

abbrev pub in_job : Machine → ℕ → (Whole → Whole) → Machine
in_job m s f = record m { jobs = on_slot m.jobs s f }

-- the directory: files are distinguished by their three names
unfoldable pub without_file : Names → List File → List File
without_file n fs = without_names n fs

-- a draft becomes the last file, in place of one with its names
abbrev pub with_file : File → List File → List File
with_file f fs = without_file f.names fs ++ f ∷ []

-- a file gets other names in its directory, and keeps its place
unfoldable pub with_new_names : Names → ℕ → ℕ → List File → List File
with_new_names n x y fs = with_changed n (named (names_of (slice_index_or n 0 0) x y)) fs

abbrev pub channel_in : Option Whole → ℕ → Chan
channel_in (Some q) n = q.channels n
channel_in None n = Shut

abbrev pub files_after_close : Chan → List File → List File
files_after_close (Writes f) fs = with_file f fs
files_after_close _ fs = fs

-- consoles
abbrev pub rest_of : List ℕ → List ℕ
rest_of (b ∷ bs) = bs
rest_of [] = []

abbrev pub after_take : Console → Console
after_take c = record c { input = rest_of c.input }

abbrev pub after_put : ℕ → Console → Console
after_put b c = record c { output = c.output ++ b ∷ [] }

abbrev pub on_console : Machine → ℕ → (Console → Console) → Machine
on_console m c f = record m { consoles = changed m.consoles c (f (m.consoles c)) }

-- links: an end is opened, of the link that is there or else of a new one; an end is closed; a word
-- is added, or the first is taken. A link exists as long as one of its ends is open, and is gone
-- with its words after that
abbrev pub link_or_new : ℕ → ℕ → Option Pipe → Pipe
link_or_new x y (Some p) = p
link_or_new x y None = record { link = new_link x y; words = [] }

abbrev pub with_end_opened : Bool → ℕ → ℕ → Pipe → Pipe
with_end_opened write j n p = record p { link = with_end write (Opened j n) p.link }

abbrev pub standing_if : Bool → Pipe → Option Pipe
standing_if true p = Some p
standing_if false p = None

abbrev pub if_alive : Pipe → Option Pipe
if_alive p = standing_if (is_alive p.link) p

abbrev pub after_end_close : Bool → Option Pipe → Option Pipe
after_end_close write (Some p) = if_alive (record p { link = with_end write Closed p.link })
after_end_close write None = None

abbrev pub with_sent : ℕ → Pipe → Pipe
with_sent w p = record p { words = p.words ++ w ∷ [] }

abbrev pub with_received : Pipe → Pipe
with_received p = record p { words = rest_of p.words }

abbrev pub on_link : Machine → ℕ → (Option Pipe → Option Pipe) → Machine
on_link m l f = record m { links = changed m.links l (f (m.links l)) }

-- the slot of the superior of each job
abbrev pub superior_in : Option Whole → Option ℕ
superior_in (Some q) = q.superior
superior_in None = None

abbrev pub superiors : Machine → ℕ → Option ℕ
superiors m k = superior_in (m.jobs k)

-- a removal: a job and all below it are gone, and their symbols with them; channels on them are
-- closed; a console that one of them held passes to the nearest superior that is not removed, else
-- to nobody; an end of a link that was open at one of them is closed
abbrev pub is_gone : (ℕ → Option ℕ) → ℕ → ℕ → Bool
is_gone sup r k = (k == r) || is_below sup r k

abbrev pub chan_after_removal : (ℕ → Bool) → Chan → Chan
chan_after_removal gone (On s write at) = if gone s then Shut else On s write at
chan_after_removal gone c = c

abbrev pub after_shut : (ℕ → Bool) → Whole → Whole
after_shut gone q = record q { channels = λ n. chan_after_removal gone (q.channels n) }

abbrev pub job_after_removal : (ℕ → Bool) → Bool → Option Whole → Option Whole
job_after_removal gone true o = None
job_after_removal gone false o = option_map (after_shut gone) o

abbrev pub holder_after_removal : (ℕ → Bool) → Option ℕ → Option ℕ → Option ℕ
holder_after_removal gone heir (Some h) = if gone h then heir else Some h
holder_after_removal gone heir None = None

abbrev pub symbols_after_removal : Bool → List Symbol → List Symbol
symbols_after_removal true ss = []
symbols_after_removal false ss = ss

abbrev pub ends_after_removal : (ℕ → Bool) → Option Pipe → Option Pipe
ends_after_removal gone (Some p) = if_alive (record p { link = link_left gone p.link })
ends_after_removal gone None = None

unfoldable pub after_removal : (ℕ → Option ℕ) → ℕ → Machine → Machine
after_removal sup r m = record m {
  jobs = λ k. job_after_removal (is_gone sup r) (is_gone sup r k) (m.jobs k);
  holders = λ c. holder_after_removal (is_gone sup r) (sup r) (m.holders c);
  symbols = λ k. symbols_after_removal (is_gone sup r k) (m.symbols k);
  links = λ l. ends_after_removal (is_gone sup r) (m.links l);
}

-- an inferior as OPEN makes it: stopped, with no page, closed channels, no alarm and no symbols,
-- and with its maker's console
abbrev pub console_in : Option Whole → Option ℕ
console_in (Some q) = q.job.console
console_in None = None

abbrev pub inferior : ℕ → Option Whole → ℕ → ℕ → Whole
inferior j o u n =
    record { core = no_core; job = fresh_job u n (console_in o); superior = Some j; channels = all_shut; alarm = None }

-- pages
abbrev pub with_page_at : ℕ → Option Page → Whole → Whole
with_page_at k p q = record q { core = with_page q.core k p }

abbrev pub with_protection : ℕ → Bool → Whole → Whole
with_protection k w q = record q { core = with_page q.core k (marked (page_of q.core k) w) }

abbrev pub poke : ℕ → ℕ → Store
poke a w = record { at = a; word = w }

abbrev pub with_inf : Whole → Whole
with_inf q = with_registers (λ j. with_pending j INF) q

-- alarms
abbrev pub with_alarm : Option (ℕ × ℕ) → Whole → Whole
with_alarm alarm q = record q { alarm = alarm }

-- what a change of slot j's call does
unfoldable pub effect : Change → ℕ → Machine → Machine
effect (changes.Open n on) j m = in_job m j (on_channel n (λ c. opened_on on))
effect (changes.Shut n) j m = in_job m j (on_channel n (λ c. Shut))
effect (changes.Move n at) j m = in_job m j (on_channel n (at_position at))
effect (changes.Append n w) j m = in_job m j (on_channel n (with_word w))
effect (changes.Close n) j m =
    record (in_job m j (on_channel n (λ c. Shut))) { files = files_after_close (channel_in (m.jobs j) n) m.files }
effect (changes.Take c) j m = on_console m c after_take
effect (changes.Put c b) j m = on_console m c (after_put b)
effect (changes.Hold c s) j m = record m { holders = changed m.holders c (Some s) }
effect (changes.Poke s a w) j m = in_job m s (with_stores (poke a w ∷ []))
effect (changes.Set s v w) j m = in_job m s (with_registers (with_variable v w))
effect (changes.Map s k) j m = in_job m s (with_page_at k (Some zero_page))
effect (changes.Unmap s k) j m = in_job m s (with_page_at k None)
effect (changes.Protect s k w) j m = in_job m s (with_protection k w)
effect (changes.Make s u n) j m = with_new m s (inferior j (m.jobs j) u n)
effect (changes.Remove s) j m = after_removal (superiors m) s m
effect (changes.Inform s) j m = in_job m s with_inf
effect (changes.Arm alarm) j m = in_job m j (with_alarm alarm)
effect (changes.Join n l write x y) j m =
    on_link (in_job m j (on_channel n (λ c. Linked l write))) l (λ o. Some (with_end_opened write j n (link_or_new x y o)))
effect (changes.CloseEnd n l write) j m = on_link (in_job m j (on_channel n (λ c. Shut))) l (after_end_close write)
effect (changes.Send l w) j m = on_link m l (option_map (with_sent w))
effect (changes.Receive l) j m = on_link m l (option_map with_received)
effect (changes.Delete d x y) j m = record m { files = without_file (names_of d x y) m.files }
effect (changes.Rename d x y u v) j m = record m { files = with_new_names (names_of d x y) u v m.files }

-- several, in their order
abbrev pub effects : List Change → ℕ → Machine → Machine
effects [] j m = m
effects (c ∷ cs) j m = effects cs j (effect c j m)
