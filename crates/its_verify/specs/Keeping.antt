-- The first part of an input, while it is read.
-- No promise rests on this.
use Rattle.std.specs.Prelude.{◌≡◌, ◌≤◌, ℕ, ◌+◌, Bool, true, false, Option, Result, Ok, Err, List, [], ◌∷◌, ◌++◌, length}
use Rattle.std.specs.List.{list_all, list_any}
use Rattle.its_reader.specs.Bytes.{pending}
use Rattle.its_reader.specs.declared.texts.Texts.{Texts}
use Rattle.its_verify.specs.Lines.{is_whole}
use Rattle.its_verify.specs.Sources.{IsTold, texts_of}
use Rattle.its_verify.specs.Went.{Fell, Went}
use Rattle.its_verify.specs.Verified.{Parts, Both, LongLine, NoEnd, TooMany, is_end_line, most_session_bytes, parts_from}
use Rattle.its_verify.specs.declared.keeping.Broken.{Broken}
use Rattle.its_verify.specs.declared.keeping.Broken.TheVariants.{Source, Memory}
use Rattle.its_verify.specs.declared.keeping.Part.{Part}
use Rattle.its_verify.specs.declared.keeping.Part.TheVariants.{Session, Long, Cut, Beyond}

-- the input, by its first part: if that is a session, with its bytes, how many lines they are, and
-- those after them
abbrev pub parts_by : Part → List ℕ → ℕ → List (List ℕ) → Parts
parts_by Session session n texts = Both session n texts
parts_by (Long k) session n texts = LongLine k
parts_by (Cut k) session n texts = NoEnd k
parts_by Beyond session n texts = TooMany

-- some lines were read, and one of them is an END line or none is
pub record Kept (end : Bool) (old new : Texts) (left rest : Option (List ℕ)) : Type 0 where
  pub lines : List (List ℕ)
  pub went : Went lines old new left rest
  pub ends : list_any is_end_line lines ≡ end

-- the last line that was given, which has its LF with it, and those before it: these are whole, and
-- none of them is an END line. The bytes that were read and are not taken fit into a buffer
pub record KeptTo (old new : Texts) (left rest : Option (List ℕ)) : Type 0 where
  pub before : List (List ℕ)
  pub went : Went (before ++ new.text.items ∷ []) old new left rest
  pub whole : list_all is_whole before ≡ true
  pub none : list_any is_end_line before ≡ false
  pub short : length new.text.items ≤ most_session_bytes + 1
  pub fits : length (pending new.buffer) ≤ 512

-- a session was read: one of its lines is an END line, and none before the last
pub record KeptSession (old new : Texts) (left rest : Option (List ℕ)) : Type 0 where
  pub kept : Kept true old new left rest
  pub to : KeptTo old new left rest

-- if the first part is a session, the last of the lines that were read is its only END line
abbrev pub KeptAll : Part → Texts → Texts → Option (List ℕ) → Option (List ℕ) → Type 0
KeptAll Session old new left rest = KeptSession old new left rest
KeptAll part old new left rest = Unit {0}

-- the source failed, and no line was an END line
pub record KeepFails (old : Texts) (left rest : Option (List ℕ)) : Type 0 where
  pub at : Texts
  pub mid : Option (List ℕ)
  pub session : List ℕ
  pub kept : Kept false old at left mid
  pub fell : Fell most_session_bytes at mid rest
  pub parts : parts_from 1 [] (texts_of old left) ≡ parts_from (at.number + 1) session (texts_of at mid)

-- memory was refused for the last line that was given: the session has the lines before it, and
-- lacks this one
pub record KeepLacks (old new : Texts) (session : List ℕ) (left rest : Option (List ℕ)) : Type 0 where
  pub told : IsTold rest
  pub to : KeptTo old new left rest
  pub lacks : parts_from 1 [] (texts_of old left) ≡ parts_from new.number session (new.text.items ∷ texts_of new rest)

-- if the bytes are known
abbrev pub Keeps : Result Part Broken → Texts → Texts → List ℕ → Option (List ℕ) → Option (List ℕ) → Type 0
Keeps (Ok part) old new session left rest =
    IsTold left
    → (parts_from 1 [] (texts_of old left) ≡ parts_by part session new.number (texts_of new rest))
    × IsTold rest
    × KeptAll part old new left rest
Keeps (Err Source) old new session left rest = IsTold left → KeepFails old left rest
Keeps (Err Memory) old new session left rest = IsTold left → KeepLacks old new session left rest

-- so far: no line is END
abbrev pub KeptSo : Texts → Texts → List ℕ → Option (List ℕ) → Option (List ℕ) → Type 0
KeptSo old now session left rest =
    IsTold left
    → (parts_from 1 [] (texts_of old left) ≡ parts_from (now.number + 1) session (texts_of now rest))
    × IsTold rest
    × Kept false old now left rest
