-- The lines that the monitor writes are a transcript of the plain machine, if the decoding of calls
-- looks at what it has to.
use Rattle.std.specs.Prelude.{◌≡◌, ◌≤◌, ℕ, Bool, true, Option, Some, None, IfSome, List, option_map, is_some, refl}
use Rattle.std.proofs.Common.{sym, ◌∙◌, ap, subst, inl, inr, arith}
use Rattle.std.proofs.lemmas.Option.{IfSome_then}
use Rattle.std.proofs.lemmas.Bool.{cases_lt}
use Rattle.its_records.specs.Item.{Item}
use Rattle.its_records.specs.declared.session.Event.{Event}
use Rattle.its_records.specs.declared.session.Event.TheVariants as events
use Rattle.its_print.specs.Printing.{Line}
use Rattle.its_plain.specs.Machine.Change.{channel_in, superior_in, console_in}
use Rattle.its_plain.specs.Machine.{Chan, Shut, Pipe, Whole, Machine, limit}
use Rattle.its_plain.specs.Operator.Lines.{Done, lined}
use Rattle.its_plain.specs.Transcript.{Transcript}
use Rattle.its_plain.specs.Operator.{Block, Does}
use Rattle.its_plain.proofs.CallLineLaws.{Face, face, SlotKept, Stays, Made, HolderKept, Keeps, Takes, LineKeeps, Leaves, line_does, slot_some}
use Rattle.its_stepped.specs.Calling.{Decoding}
use Rattle.its_stepped.specs.Forest.{OnInferior, OnConsole, end_at, Forest}
use Rattle.its_stepped.specs.Lines.{stepped}
use Rattle.its_stepped.proofs.Keeping.ForestLaws.{forest_starts, same_forest}
use Rattle.its_stepped.proofs.Duties.FitLaws.{forest_steps}
use Rattle.its_stepped.proofs.Duties.GivenLaws.{given}
use Rattle.its_stepped.proofs.Keeping.JoinedLaws.{same_link, joined_same}
use Rattle.its_stepped.proofs.Keeping.RestoredLaws.{restored_forest}
use Rattle.its_stepped.proofs.Running.UpkeepLaws.{Lasting, session_transcript}
use Rattle.its_word.specs.Limits.{slots, limit_of}
use Rattle.its_records.proofs.FreeLaws.{limit_few}

-- lines keep how jobs lie to each other: a job that LOAD makes has no superior and no channel
abbrev face_superior : Option Face → Option ℕ
face_superior (Some f) = f.superior
face_superior None = None

abbrev face_channel : Option Face → ℕ → Chan
face_channel (Some f) i = f.channels i
face_channel None i = Shut

superior_faced : (o : Option Whole) → superior_in o ≡ face_superior (option_map face o)
superior_faced (Some q) = refl
superior_faced None = refl

channel_faced : (o : Option Whole) (i : ℕ) → channel_in o i ≡ face_channel (option_map face o) i
channel_faced (Some q) i = refl
channel_faced None i = refl

abbrev face_console : Option Face → Option ℕ
face_console (Some f) = f.console
face_console None = None

console_faced : (o : Option Whole) → console_in o ≡ face_console (option_map face o)
console_faced (Some q) = refl
console_faced None = refl

slot_superior : (o p : Option Whole) → SlotKept o p → superior_in p ≡ superior_in o
slot_superior o p (Stays e) = superior_faced p ∙ ap face_superior e ∙ sym (superior_faced o)
slot_superior o p (Made u j console none is) = ap superior_in is ∙ sym (ap superior_in none)

slot_channel : (m : Machine) (k i : ℕ) (o p : Option Whole) → SlotKept o p → OnInferior m k (channel_in o i) → OnInferior m k (channel_in p i)
slot_channel m k i o p (Stays e) h = subst (OnInferior m k) (channel_faced o i ∙ sym (ap (λ (f : Option Face). face_channel f i) e)
    ∙ sym (channel_faced p i)) h
slot_channel m k i o p (Made u j console none is) h = subst (λ (x : Option Whole). OnInferior m k (channel_in x i)) (sym is) tt

slot_console : (i : ℕ) (o p : Option Whole) → SlotKept o p → OnConsole (console_in o) (channel_in o i) → OnConsole (console_in p) (channel_in p i)
slot_console i o p (Stays e) h =
    subst (OnConsole (console_in p)) (channel_faced o i ∙ sym (ap (λ (f : Option Face). face_channel f i) e) ∙ sym (channel_faced p i))
    (subst (λ (c : Option ℕ). OnConsole c (channel_in o i)) (console_faced o ∙ sym (ap face_console e) ∙ sym (console_faced p)) h)
slot_console i o p (Made u j console none is) h = subst (λ (x : Option Whole). OnConsole (console_in x) (channel_in x i)) (sym is) tt

-- each channel is on what it was on
slot_same : (i : ℕ) (o p : Option Whole) → SlotKept o p → channel_in p i ≡ channel_in o i
slot_same i o p (Stays e) = channel_faced p i ∙ ap (λ (f : Option Face). face_channel f i) e ∙ sym (channel_faced o i)
slot_same i o p (Made u j console none is) = ap (λ (x : Option Whole). channel_in x i) is ∙ sym (ap (λ (x : Option Whole). channel_in x i) none)

-- and a job that it makes may hold its console
holder_kept : (m n : Machine) (c : ℕ) → LineKeeps m n → HolderKept m n c → IfSome (m.holders c) (λ s. is_some (m.jobs s) ≡ true)
    → IfSome (n.holders c) (λ s. is_some (n.jobs s) ≡ true)
holder_kept m n c h (Keeps e) d =
    subst (λ (o : Option ℕ). IfSome o (λ s. is_some (n.jobs s) ≡ true)) (sym e)
    (IfSome_then (m.holders c) d (λ s x. slot_some (m.jobs s) (n.jobs s) (h.slots s) x))
holder_kept m n c h (Takes s u j none free is e) d = subst (λ (o : Option ℕ). IfSome o (λ s. is_some (n.jobs s) ≡ true)) (sym e) (ap is_some is)

-- no slot past the number of jobs that there can be has a job: if that number changes, no slot has
-- one
keeps_few : (m n : Machine) (k : ℕ) → LineKeeps m n → Forest m → limit n ≤ k → n.jobs k ≡ None
keeps_few m n k h d l = elim h.version [
  | inl same ↦ let past : limit m ≤ k = subst (λ (i : ℕ). limit_of i ≤ k) same l in h.few k past (d.few k past)
  | inr nobody ↦ elim (cases_lt k slots) [
    | inl below ↦ nobody k below
    | inr above ↦ let few = limit_few m.version in let past : limit m ≤ k = omega arith in h.few k past (d.few k past)
  ]
]

keeps_forest : (m n : Machine) → LineKeeps m n → Forest m → Forest n
keeps_forest m n h d = same_forest m n
    (record {
      few = λ k l. keeps_few m n k h d l;
      tree = λ k. slot_superior (m.jobs k) (n.jobs k) (h.slots k);
      jobs = λ k x. slot_some (m.jobs k) (n.jobs k) (h.slots k) x;
      channels = λ k i. slot_channel m k i (m.jobs k) (n.jobs k) (h.slots k) (d.channels k i);
      consoles = λ k i. slot_console i (m.jobs k) (n.jobs k) (h.slots k) (d.consoles k i);
      holders = λ c. holder_kept m n c h (h.holders c) (d.holders c);
      links = joined_same m n (λ k i. same_link _ _ (slot_same i (m.jobs k) (n.jobs k) (h.slots k)))
          (λ l write. ap (λ (ls : ℕ → Option Pipe). end_at write (ls l)) h.links) d.links;
    })
    d

pub line_forest : (m n : Machine) (b c : Block) (e : Event) (out : List Line) (touched : ℕ → Bool) → Forest m
    → lined m b e ≡ Done (Does n out touched c) → Forest n
line_forest m n b c e out touched d is = by e (line_does m n b c e out touched is)
  where
    by : (e : Event) → Leaves m e n → Forest n
    by (events.Restore line) h = restored_forest keeps_forest m n line h d
    by e h = keeps_forest m n h d

-- what lasts through a session
pub lasting : Decoding → Lasting Forest
lasting d = record {
  starts = forest_starts;
  steps = λ m n j placed e. forest_steps m n j placed e;
  lines = λ m n b c e out touched placed is. line_forest m n b c e out touched placed is;
  duties = λ w j sound placed. given d w j placed sound;
}

pub written_transcript : Decoding → (es : List Item) → Transcript es (stepped es).lines (stepped es).fate
written_transcript d es = session_transcript (lasting d) es
