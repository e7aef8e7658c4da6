-- The effect of a line of a session, and of any of its items, on a verifier.
-- No promise rests on this.
use Rattle.std.specs.Prelude.{◌≡◌, ℕ, ◌+◌, Bool, true, false, Option, Some, None, Result, Ok, Err, List, [], ◌∷◌}
use Rattle.its_io.specs.declared.stream.Failed.{Failed}
use Rattle.its_records.specs.Item.{Item, Read, Unread}
use Rattle.its_records.specs.Item as items
use Rattle.its_records.specs.declared.session.Event.{Event}
use Rattle.its_records.specs.declared.session.Event.TheVariants as events
use Rattle.its_records.specs.declared.session.Place.{Place}
use Rattle.its_records.specs.declared.session.Place.TheVariants as places
use Rattle.its_reader.specs.declared.items.Found.{Found}
use Rattle.its_reader.specs.declared.items.Found.TheVariants.{Line, Bad, Beyond, End}
use Rattle.its_reader.specs.declared.items.Items.{Items}
use Rattle.its_reader.specs.Items.{is_last}
use Rattle.its_plain.specs.Operator.{Block}
use Rattle.its_plain.specs.Operator.Lines.{lined}
use Rattle.its_plain.specs.Transcript.{Walk}
use Rattle.its_direct.specs.Plain.{machine_of}
use Rattle.its_direct.specs.Events.{MayStand, Speaks}
use Rattle.its_verify.specs.TranscriptReader.{Concludes, Failing, Forward, PassesOn}
use Rattle.its_verify.specs.Rulings.{Ruling, gone, judged}
use Rattle.its_verify.specs.Sources.{IsTold, items_of}
use Rattle.its_verify.specs.JudgeState.{walk_of}
use Rattle.its_verify.specs.declared.outcome.Outcome.{Outcome}
use Rattle.its_verify.specs.declared.transcript_reader.TranscriptReader.{TranscriptReader}
use Rattle.its_verify.specs.declared.verifier.Verifier.{Verifier}

-- what the judge says of line n, event e, in block b, and how it goes on
abbrev pub line_ruling : Verifier → Block → ℕ → Event → (Walk → Ruling) → Ruling
line_ruling t b n e next = gone (walk_of t.judge b n) (lined (machine_of t.judge.plain) b e) next

-- the line led on, to the next block
pub record LedOn (old new : Verifier) (left rest : Option (List ℕ)) (b : Block) (n : ℕ) (e : Event) : Type 0 where
  pub after : Block
  pub speaks : Speaks new.judge.plain.place after
  pub goes : (next : Walk → Ruling)
      → PassesOn old.reader new.reader left rest (line_ruling old b n e next) (next (walk_of new.judge after (n + 1)))

-- line n led on, or all is said
abbrev pub LineSays : Result (Option Outcome) Failed → Verifier → Verifier → Option (List ℕ) → Option (List ℕ) → ℕ → Event → Type 0
LineSays (Ok None) old new left rest n e = (b : Block) → Speaks old.judge.plain.place b → LedOn old new left rest b n e
LineSays (Ok (Some f)) old new left rest n e =
    (b : Block) → Speaks old.judge.plain.place b
    → (next : Walk → Ruling) → Concludes (Ok f) old.reader left rest (line_ruling old b n e next)
LineSays (Err x) old new left rest n e =
    (b : Block) → Speaks old.judge.plain.place b
    → (next : Walk → Ruling) → ((w : Walk) → Forward (next w)) → IsTold left → Failing old.reader left rest (line_ruling old b n e next)

-- all is said by a judge
abbrev pub SaysEnd : Result (Option Outcome) Failed → TranscriptReader → Option (List ℕ) → Option (List ℕ) → Ruling → Type 0
SaysEnd (Ok None) old left rest ruling = ⊥
SaysEnd (Ok (Some f)) old left rest ruling = Concludes (Ok f) old left rest ruling
SaysEnd (Err x) old left rest ruling = Concludes (Err x) old left rest ruling

abbrev pub is_end : Event → Bool
is_end events.End = true
is_end e = false

-- the place after the first line, and so the place of the machine
abbrev pub machine_place : Place → Place
machine_place places.First = places.Plain
machine_place places.Plain = places.Plain
machine_place places.System = places.System
machine_place places.Load = places.Load
machine_place places.File = places.File

-- an item may occur at a place
abbrev pub FoundStands : Place → Found → Type 0
FoundStands place (Line e) = MayStand place e
FoundStands place (Bad r) = Unit {0}
FoundStands place Beyond = Unit {0}
FoundStands place End = Unit {0}

-- an item was found, and these follow it
abbrev pub items_by : Found → List Item → List Item
items_by (Line e) es = Read e ∷ es
items_by (Bad r) es = Unread r ∷ es
items_by Beyond es = items.Beyond ∷ es
items_by End es = []

-- what the judge says from line n on
abbrev pub judge_from : Verifier → Block → ℕ → List Item → Ruling
judge_from t b n es = judged (walk_of t.judge b n) t.last es

-- an item led on
pub record ItemLed (old new : Verifier) (left rest : Option (List ℕ)) (b : Block) (n : ℕ) (f : Found) : Type 0 where
  pub after : Block
  pub speaks : Speaks new.judge.plain.place after
  pub goes : (es : List Item)
      → PassesOn old.reader new.reader left rest (judge_from old b n (items_by f es)) (judge_from new after (n + 1) es)

-- it led on, or all is said
abbrev pub ItemSays : Result (Option Outcome) Failed → Verifier → Verifier → Option (List ℕ) → Option (List ℕ) → ℕ → Found → Type 0
ItemSays (Ok None) old new left rest n f = (b : Block) → Speaks old.judge.plain.place b → ItemLed old new left rest b n f
ItemSays (Ok (Some x)) old new left rest n f =
    (b : Block) → Speaks old.judge.plain.place b
    → (es : List Item) → Concludes (Ok x) old.reader left rest (judge_from old b n (items_by f es))
ItemSays (Err x) old new left rest n f =
    (b : Block) → Speaks old.judge.plain.place b
    → (es : List Item) → Concludes (Err x) old.reader left rest (judge_from old b n (items_by f es))

-- so far: the items that were found led on
pub record GoneSo (old now : Verifier) (ruling : Ruling) (r : Items) (session left rest : Option (List ℕ)) : Type 0 where
  pub block : Block
  pub speaks : Speaks now.judge.plain.place block
  pub goes :
      PassesOn old.reader now.reader left rest ruling (judge_from now block (r.lines.number + 1) (items_of r session))

-- the items that are left, if this was found: it is the first one, and others come after it if it
-- is not the last
pub record Split (f : Found) (before : List Item) (after : List Item) : Type 0 where
  pub behind : List Item
  pub is : before ≡ items_by f behind
  pub on : is_last f ≡ false → behind ≡ after
