-- The bytes that a reader took from a source whose bytes are known: whole lines, and perhaps bytes
-- of a line that had begun.
-- No promise rests on this.
use Rattle.std.specs.Prelude.{◌≡◌, ◌≤◌, ◌<◌, ℕ, ◌+◌, true, false, Option, List, ◌++◌, length}
use Rattle.std.specs.List.{concat, list_all}
use Rattle.its_session.specs.Events.{most_lines}
use Rattle.its_reader.specs.declared.texts.Texts.{Texts}
use Rattle.its_reader.specs.Bytes.{pending}
use Rattle.its_reader.specs.Texts.{is_inside}
use Rattle.its_verify.specs.Lines.{is_whole}
use Rattle.its_verify.specs.Sources.{IsTold, bytes_of}

-- these lines were given
pub record Went (lines : List (List ℕ)) (old new : Texts) (left rest : Option (List ℕ)) : Type 0 where
  pub bytes : pending old.buffer ++ bytes_of left ≡ concat lines ++ (pending new.buffer ++ bytes_of rest)
  pub number : new.number ≡ old.number + length lines
  pub over : old.ended ≡ true → new.ended ≡ true
  pub whole : new.ended ≡ false → list_all is_whole lines ≡ true

-- the source failed when a line of at most so many bytes was asked for
pub record Fell (most : ℕ) (r : Texts) (left rest : Option (List ℕ)) : Type 0 where
  pub told : IsTold rest
  pub runs : r.ended ≡ false
  pub begun : List ℕ
  pub bytes : pending r.buffer ++ bytes_of left ≡ begun ++ bytes_of rest
  pub inside : list_all is_inside begun ≡ true
  pub short : length begun ≤ most
  pub few : 0 < length begun → r.number + 1 ≤ most_lines
  pub within : r.number ≤ most_lines
