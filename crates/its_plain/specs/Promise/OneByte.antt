-- Each byte once: what one step of a transfer does (docs/CALLS.md, "Each byte once").
-- A promise rests on this.
use Rattle.std.specs.Prelude.{◌≡◌, ◌≢◌, ℕ, ◌+◌, ◌-◌, true, false, Option, Some, None, IfSome, List, [], ◌∷◌, slice_get}
use Rattle.its_word.specs.Word.{right_of}
use Rattle.its_word.specs.Byte.{load_of, deposit_of}
use Rattle.its_word.specs.Core.{Core, word_at}
use Rattle.its_records.specs.declared.calls.Ask.{Ask}
use Rattle.its_records.specs.declared.calls.Site.{Site}
use Rattle.its_frame.specs.declared.change.Change.{Change}
use Rattle.its_frame.specs.declared.change.Change.TheVariants as changes
use Rattle.its_frame.specs.declared.decision.Decision.{Decision}
use Rattle.its_frame.specs.declared.decision.Decision.TheVariants.{Waits, Goes, Ends, Gone}
use Rattle.its_frame.specs.declared.decision.Held.{Held}
use Rattle.its_frame.specs.declared.name.CallName.TheVariants.{Siot}
use Rattle.its_plain.specs.Unit.Interrupt.{deliverable}
use Rattle.its_plain.specs.Machine.{Chan, Shut, TtyIn, TtyOut, Reads, Writes, On, Linked, Whole, Machine}
use Rattle.its_plain.specs.Machine.Change.{in_job, effects}
use Rattle.its_plain.specs.Call.Arguments.{input, with_new_values}
use Rattle.its_plain.specs.Call.Footprint.{Stands}
use Rattle.its_plain.specs.Machine.View.{View, view}
use Rattle.its_plain.specs.Call.Basic.{channel_at}
use Rattle.its_plain.specs.Call.Tty.{view_console, shown_byte}
use Rattle.its_plain.specs.Call.Transfer.{next_pointer}
use Rattle.its_plain.specs.Call.File.{words_of}
use Rattle.its_plain.specs.Call.Usr.{other_core}
use Rattle.its_plain.specs.Call.Link.{words_in}
use Rattle.its_plain.specs.Call.Decide.{call_named, target}
use Rattle.its_plain.specs.Call.Step.{after_moves, decision}

-- a byte or word that comes in: there is one, these changes take it, and it is for the word that
-- the pointer names
pub record ComesIn (pointer : ℕ) (first : Option ℕ) (takes cs : List Change) (h : Option Held) : Type 0 where
  pub byte : ℕ
  pub there : first ≡ Some byte
  pub taken : cs ≡ takes
  pub held : h ≡ Some (record { place = right_of pointer; byte = byte })

-- a byte that came in is in its word, which existed
pub record Deposited (before after : Core) (pointer : ℕ) (b : Held) : Type 0 where
  pub word : ℕ
  pub was : word_at before b.place ≡ Some word
  pub is : word_at after b.place ≡ Some (deposit_of pointer word b.byte)

-- a byte that goes out: the word that the pointer names is there, and these changes put the byte at
-- the pointer in it
pub record GoesOut (pointer : ℕ) (named : Option ℕ) (puts : ℕ → List Change) (cs : List Change) (h : Option Held) : Type 0 where
  pub word : ℕ
  pub there : named ≡ Some word
  pub put : cs ≡ puts (load_of pointer word)
  pub none_held : h ≡ None

-- the word at a pointer, if it exists
abbrev pub word_named : View → ℕ → Option ℕ
word_named v pointer = word_at v.own.core (right_of pointer)

-- what is moved through channel n, by what the channel is on: from a console the first byte that
-- waits, and from a file or an inferior the word at the channel's position; to a console the low 7
-- bits of the byte at the pointer, to a draft that byte, and into an inferior also that byte, at
-- the channel's position. A position is then one more. From a link the first of its words, and to a
-- link the byte at the pointer. Nothing is moved through a closed channel
abbrev pub Bears : View → ℕ → ℕ → Chan → List Change → Option Held → Type 0
Bears v pointer n TtyIn cs h =
    ComesIn pointer (slice_get (v.consoles (view_console v)).input 0) (changes.Take (view_console v) ∷ []) cs h
Bears v pointer n TtyOut cs h =
    GoesOut pointer (word_named v pointer) (λ b. changes.Put (view_console v) (shown_byte b) ∷ []) cs h
Bears v pointer n (Reads names at) cs h =
    ComesIn pointer (slice_get (words_of v names) at) (changes.Move n (at + 1) ∷ []) cs h
Bears v pointer n (Writes f) cs h = GoesOut pointer (word_named v pointer) (λ b. changes.Append n b ∷ []) cs h
Bears v pointer n (On s false at) cs h =
    ComesIn pointer (word_at (other_core v) at) (changes.Move n (at + 1) ∷ []) cs h
Bears v pointer n (On s true at) cs h =
    GoesOut pointer (word_named v pointer) (λ b. changes.Poke s at b ∷ changes.Move n (at + 1) ∷ []) cs h
Bears v pointer n (Linked l false) cs h =
    ComesIn pointer (slice_get (words_in (v.links l)) 0) (changes.Receive l ∷ []) cs h
Bears v pointer n (Linked l true) cs h = GoesOut pointer (word_named v pointer) (λ b. changes.Send l b ∷ []) cs h
Bears v pointer n Shut cs h = ⊥

-- the rest of a transfer: its pointer is incremented, and its count is one less
abbrev pub new_arguments : Ask → List ℕ
new_arguments a = next_pointer (input a 1) ∷ (input a 2 - 1) ∷ []

abbrev pub rest_of_transfer : Ask → Ask
rest_of_transfer a = with_new_values a (new_arguments a)

-- one byte of the SIOT of job q in slot j, at this site and with these arguments, after which the
-- machine is n: the byte is moved at the pointer incremented; one that comes in is there
-- afterwards; and the job, whose registers are as they were, is at the same call with the rest.
-- Machine n differs by the change that moves the byte, and by the words of byte, pointer and count,
-- and by nothing else
pub record OneByte (m : Machine) (j : ℕ) (q : Whole) (s : Site) (a : Ask) (cs : List Change) (h : Option Held) (n : Machine)
    : Type 0 where
  pub after : Whole
  pub there : n.jobs j ≡ Some after
  pub borne :
      Bears (view m j q (target q a)) (next_pointer (input a 1)) (input a 0) (channel_at q.channels (input a 0)) cs h
  pub deposited : IfSome h (Deposited q.core after.core (next_pointer (input a 1)))
  pub registers : after.job ≡ q.job
  pub counted : input a 2 ≢ 0
  pub stands : Stands after.core after.job s (rest_of_transfer a)
  pub others : n ≡ in_job (effects cs j m) j (after_moves a h (new_arguments a))

-- a step moves one byte, or it ends the call and moves none: it makes no change. A SIOT that waits
-- has no step, and none removes its job
abbrev pub ByteBy : Machine → ℕ → Whole → Site → Ask → Decision → Machine → Type 0
ByteBy m j q s a (Goes cs h vs) n = OneByte m j q s a cs.items h n
ByteBy m j q s a (Waits r) n = ⊥
ByteBy m j q s a (Ends cs ss e) n = cs.items ≡ []
ByteBy m j q s a (Gone cs) n = ⊥

-- a step of the job of slot j takes machine m to n: if the job is at a SIOT, it is one byte or the
-- end
pub record EachByte (m : Machine) (j : ℕ) (n : Machine) : Type 0 where
  pub byte : (q : Whole) (s : Site) (a : Ask)
      → m.jobs j ≡ Some q → deliverable q.job ≡ false → Stands q.core q.job s a → call_named a.name ≡ Some Siot
      → ByteBy m j q s a (decision m j q a) n
