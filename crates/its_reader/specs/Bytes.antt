-- The bytes of a source, one by one.
-- No promise rests on this.
use Rattle.std.specs.Prelude.{◌≡◌, ◌≤◌, ◌==◌, ℕ, Bool, true, false, not, Option, Some, None, Result, Ok, Err, List, [], ◌∷◌, ◌++◌, length, take, drop}
use Rattle.std.specs.Io.KnownBytes.{Consumes, Keeps, IsAtEnd}
use Rattle.std.specs.List.{list_all}
use Rattle.its_io.specs.declared.stream.Failed.{Failed}
use Rattle.its_reader.specs.declared.buffer.Buffer.{Buffer}

-- the bytes that were read and are not taken
abbrev pub pending : Buffer → List ℕ
pending b = drop b.start (take b.stop b.bytes)

abbrev pub BufferFits : Buffer → Type 0
BufferFits b = (b.start ≤ b.stop) × (b.stop ≤ length b.bytes) × (length b.bytes ≡ 512)

-- the first of some bytes, and those after it; none if there is none
abbrev pub Given : Option ℕ → List ℕ → List ℕ → Type 0
Given (Some b) before after = before ≡ b ∷ after
Given None before after = (before ≡ []) × (after ≡ [])

-- bytes were read after those that were pending, and none only at the end of the source
pub record FilledOn (old new : Buffer) (left rest : Option (List ℕ)) : Type 0 where
  pub read : List ℕ
  pub consumed : Consumes left rest read
  pub behind : pending new ≡ pending old ++ read
  pub empty : pending new ≡ [] → IsAtEnd rest

-- the source failed, and none was pending
pub record Broke (old new : Buffer) (left rest : Option (List ℕ)) : Type 0 where
  pub kept : Keeps left rest
  pub none : pending old ≡ []

abbrev pub Filled : Result (Unit {0}) Failed → Buffer → Buffer → Option (List ℕ) → Option (List ℕ) → Type 0
Filled (Ok x) old new left rest = FilledOn old new left rest
Filled (Err e) old new left rest = Broke old new left rest

-- the next byte of the source, after those that were pending; none only at its end
pub record Taken (b : Option ℕ) (old new : Buffer) (left rest : Option (List ℕ)) : Type 0 where
  pub read : List ℕ
  pub consumed : Consumes left rest read
  pub given : Given b (pending old ++ read) (pending new)
  pub end : b ≡ None → IsAtEnd rest

abbrev pub Took : Result (Option ℕ) Failed → Buffer → Buffer → Option (List ℕ) → Option (List ℕ) → Type 0
Took (Ok b) old new left rest = Taken b old new left rest
Took (Err e) old new left rest = Broke old new left rest

-- a source is read until it ends, and not after that
abbrev pub Onward : Bool → Bool → Type 0
Onward ended readable = ended ≡ false → readable ≡ true

-- a byte other than LF
abbrev pub is_plain : ℕ → Bool
is_plain b = not (b == 10)

-- bytes other than LF were taken from those that were pending, and this line now ends with them
pub record TookPlain (line now : List ℕ) (old new : Buffer) : Type 0 where
  pub bytes : List ℕ
  pub plain : list_all is_plain bytes ≡ true
  pub given : pending old ≡ bytes ++ pending new
  pub kept : now ≡ line ++ bytes
