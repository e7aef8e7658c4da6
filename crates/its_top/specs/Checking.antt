-- What `its check` finds in a session: it looks at its lines by the grammar alone (docs/SESSION.md,
-- "its check").
-- No promise rests on this.
use Rattle.std.specs.Prelude.{if◌then◌else◌, ◌≡◌, ℕ, ◌+◌, ◌-◌, true, false, Option, Some, None, IfSome, IfOk, Result, Ok, Err, List, [], ◌∷◌, ◌++◌, codes}
use Rattle.std.specs.Io.KnownBytes.{Appends, Consumes}
use Rattle.its_io.specs.declared.stream.Failed.{Failed}
use Rattle.its_records.specs.Item.{Item, Read, Unread}
use Rattle.its_records.specs.Item as items
use Rattle.its_print.specs.Printing.{text_of_line}
use Rattle.its_print.specs.Printing as printed
use Rattle.its_session.specs.Events.{events_of, whole_events_of}
use Rattle.its_reader.specs.declared.items.Found.{Found}
use Rattle.its_reader.specs.declared.items.Items.{Items}
use Rattle.its_reader.specs.Limits.{WithinLimits}
use Rattle.its_reader.specs.Items.{is_last, last_items, FoundSoFar, ReadOut}
use Rattle.its_top.specs.declared.commands.checking.Checked.{Checked}
use Rattle.its_top.specs.declared.commands.checking.Checked.TheVariants.{Ended, Open, Refused, TooLong}
use Rattle.its_top.specs.declared.commands.status.Status.{Status}
use Rattle.its_top.specs.declared.commands.status.Status.TheVariants as statuses
use Rattle.its_top.specs.Counts.{count_line}
use Rattle.its_top.specs.Telling.{goes_on_after}
use Rattle.its_top.specs.Conclusion.{WasRun}

-- the items from line number n on
abbrev pub checked_from : ℕ → List Item → Checked
checked_from n [] = Open (n - 1)
checked_from n (Read e ∷ es) = if goes_on_after e then checked_from (n + 1) es else Ended n
checked_from n (Unread r ∷ es) = Refused n r
checked_from n (items.Beyond ∷ es) = TooLong

-- the items of a session
unfoldable pub checked : List Item → Checked
checked es = checked_from 1 es

-- what is written of a check: `OK n` with the number of lines up to END, or `? n reason`
abbrev pub checked_text : Checked → List ℕ
checked_text (Ended n) = count_line (codes "OK") n
checked_text (Open n) = count_line (codes "OK") n
checked_text (Refused n r) = text_of_line (printed.Refused n r)
checked_text TooLong = []

-- no line is refused, and none past the most begins before END
abbrev pub Passes : Checked → Type 0
Passes (Ended n) = Unit {0}
Passes (Open n) = Unit {0}
Passes (Refused n r) = ⊥
Passes TooLong = ⊥

-- a line is refused
abbrev pub Fails : Checked → Type 0
Fails (Refused n r) = Unit {0}
Fails (Ended n) = ⊥
Fails (Open n) = ⊥
Fails TooLong = ⊥

-- no line is refused or is END
abbrev pub GoesOn : Checked → Type 0
GoesOn (Open n) = Unit {0}
GoesOn (Ended n) = ⊥
GoesOn (Refused n r) = ⊥
GoesOn TooLong = ⊥

-- the result of what was found: nothing yet, or the end of the check
abbrev pub CheckedBy : Option Checked → ℕ → Found → Type 0
CheckedBy None n f = (is_last f ≡ false) × ((behind : List Item) → checked_from n (last_items f ++ behind) ≡ checked_from (n + 1) behind)
CheckedBy (Some c) n f = (is_last f ≡ true) × (checked_from n (last_items f) ≡ c)

-- a check so far: the items that were found, before line number n is looked at
pub record CheckSoFar (r : Items) (n : ℕ) (left rest : Option (List ℕ)) : Type 0 where
  pub items : List Item
  pub found : FoundSoFar items r left rest
  pub checks : (behind : List Item) → checked (items ++ behind) ≡ checked_from n behind

-- what was found in the bytes of a source, or in those that were read before it failed, which
-- decide nothing
abbrev pub FoundIn : Result Checked Failed → List ℕ → List ℕ → Type 0
FoundIn (Ok c) bytes read = checked (events_of bytes) ≡ c
FoundIn (Err e) bytes read = GoesOn (checked (whole_events_of read)) × WithinLimits read

pub record Finding (result : Result Checked Failed) (left rest : Option (List ℕ)) : Type 0 where
  pub read : List ℕ
  pub consumed : Consumes left rest read
  pub found : IfSome left (λ bytes. FoundIn result bytes read)
  pub input : IfOk result (λ c. Passes c → IfSome left (λ bytes. ReadOut bytes rest))

-- these bytes were to be written, after which the status would have been `good`
abbrev pub StatusFor : Status → Status → List ℕ → List ℕ → Type 0
StatusFor statuses.WriteFault good bytes wrote = (more : List ℕ) × (bytes ≡ wrote ++ more)
StatusFor status good bytes wrote = (status ≡ good) × (bytes ≡ wrote)

pub record WroteText (status good : Status) (bytes : List ℕ) (old new : Option (List ℕ)) : Type 0 where
  pub wrote : List ℕ
  pub appended : Appends old new wrote
  pub complete : StatusFor status good bytes wrote

-- a check that found this, and wrote w, has this status
abbrev pub CheckedAs : Status → Checked → List ℕ → Type 0
CheckedAs statuses.Done c w = Passes c × (checked_text c ≡ w)
CheckedAs statuses.Refused c w = Fails c × (checked_text c ≡ w)
CheckedAs statuses.TooLong c w = (c ≡ TooLong) × (w ≡ [])
CheckedAs statuses.WriteFault c w = (more : List ℕ) × (checked_text c ≡ w ++ more)
CheckedAs statuses.Usage c w = ⊥
CheckedAs statuses.ReadFault c w = ⊥
CheckedAs statuses.NoMemory c w = ⊥

pub record Reported (status : Status) (c : Checked) (old new : Option (List ℕ)) : Type 0 where
  pub ran : WasRun status
  pub wrote : List ℕ
  pub appended : Appends old new wrote
  pub reported : CheckedAs status c wrote

-- a check of these bytes, of which some were read, has this status, and wrote w
abbrev pub CheckOf : Status → List ℕ → List ℕ → List ℕ → Type 0
CheckOf statuses.ReadFault bytes read w = GoesOn (checked (whole_events_of read)) × WithinLimits read × (w ≡ [])
CheckOf status bytes read w = CheckedAs status (checked (events_of bytes)) w

-- how a check ended, from what its source had left and had left then, and from what its sink was
-- given
pub record Check (status : Status) (left rest old new : Option (List ℕ)) : Type 0 where
  pub read : List ℕ
  pub wrote : List ℕ
  pub consumed : Consumes left rest read
  pub appended : Appends old new wrote
  pub ran : WasRun status
  pub found : IfSome left (λ bytes. CheckOf status bytes read wrote)
  pub input : status ≡ statuses.Done → IfSome left (λ bytes. ReadOut bytes rest)
