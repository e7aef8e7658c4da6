-- What was written to a sink, and whether a write failed: of a text, and of lines as their text.
-- No promise rests on this.
use Rattle.std.specs.Prelude.{◌≡◌, ◌≤◌, ℕ, Option, Result, Ok, Err, List}
use Rattle.std.specs.Io.KnownBytes.{Appends}
use Rattle.its_io.specs.Bytes.{Wrote, next_fault}
use Rattle.its_saved.specs.StateLine.{StateLine}
use Rattle.its_saved.specs.Text.{lines_of, state_text}

-- a sink has so many bytes, and so many of its writes failed. This text was written, and no write
-- failed
pub record Put {S : Type 0} (bytes : S → Option (List ℕ)) (faults : S → ℕ) (old new : S) (text : List ℕ) : Type 0 where
  pub appended : Appends (bytes old) (bytes new) text
  pub unfailed : faults new ≡ faults old

-- a write failed: what was written is the first part of this text
pub record Cut {S : Type 0} (bytes : S → Option (List ℕ)) (faults : S → ℕ) (old new : S) (text : List ℕ) : Type 0 where
  pub wrote : List ℕ
  pub part : Wrote (bytes old) (bytes new) wrote text
  pub later : faults old ≤ faults new
  pub failed : faults new ≡ next_fault (faults old)

abbrev pub PutsBy : {S T E : Type 0} → (S → Option (List ℕ)) → (S → ℕ) → S → S → Result T E → List ℕ → Type 0
PutsBy bytes faults old new (Ok x) text = Put bytes faults old new text
PutsBy bytes faults old new (Err e) text = Cut bytes faults old new text

-- one or the other, by a result
pub record Puts {S T E : Type 0} (bytes : S → Option (List ℕ)) (faults : S → ℕ) (old new : S) (r : Result T E) (text : List ℕ) : Type 0 where
  pub so : PutsBy bytes faults old new r text

-- the same of the text of lines
unfoldable pub text_of : List StateLine → List ℕ
text_of ls = state_text (lines_of ls)

pub record Written {S : Type 0} (bytes : S → Option (List ℕ)) (faults : S → ℕ) (old new : S) (ls : List StateLine) : Type 0 where
  pub put : Put bytes faults old new (text_of ls)

pub record Broken {S : Type 0} (bytes : S → Option (List ℕ)) (faults : S → ℕ) (old new : S) (ls : List StateLine) : Type 0 where
  pub cut : Cut bytes faults old new (text_of ls)

abbrev pub WritesBy : {S T E : Type 0} → (S → Option (List ℕ)) → (S → ℕ) → S → S → Result T E → List StateLine → Type 0
WritesBy bytes faults old new (Ok x) ls = Written bytes faults old new ls
WritesBy bytes faults old new (Err e) ls = Broken bytes faults old new ls

pub record Writes {S T E : Type 0} (bytes : S → Option (List ℕ)) (faults : S → ℕ) (old new : S) (r : Result T E) (ls : List StateLine) : Type 0 where
  pub so : WritesBy bytes faults old new r ls
