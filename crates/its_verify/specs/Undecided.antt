-- What had been read of an input when its source failed: it decides nothing.
-- No promise rests on this.
use Rattle.std.specs.Prelude.{◌≡◌, ◌≤◌, ◌<◌, ◌==◌, ℕ, ◌+◌, Bool, true, false, not, List, [], ◌++◌, length}
use Rattle.std.specs.List.{concat, list_all, list_any}
use Rattle.its_session.specs.Events.{most_lines}
use Rattle.its_reader.specs.TextLines.{lines_in}
use Rattle.its_verify.specs.Rulings.{Yes, No}
use Rattle.its_verify.specs.Lines.{is_whole, most_bytes}
use Rattle.its_verify.specs.Verified.{Answer, Judged, Long, Cut, TooLong, Parts, Both, LongLine, NoEnd, TooMany, IsYes, is_end_line, most_session_bytes, parts_from, verified}

-- how many lines of an input its session has, if there is an END line
abbrev pub count_in : Parts → ℕ
count_in (Both session count texts) = count
count_in (LongLine n) = 0
count_in (NoEnd n) = 0
count_in TooMany = 0

-- the line of an input that an answer is about: the one that is not licensed or is too long, the
-- first one past the most, or the one that would be next at the end of the input
abbrev pub decisive : ℕ → Answer → ℕ
decisive count (Judged (Yes n)) = count + (n + 1)
decisive count (Judged (No n)) = count + n
decisive count (Long n) = n
decisive count (Cut n) = n
decisive count TooLong = most_lines + 1

-- the most bytes of a line before its LF, by whether an END line is before it
abbrev pub most_behind : Bool → ℕ
most_behind false = most_session_bytes
most_behind true = most_bytes

-- of an input of these bytes, those that were read are some whole lines, and perhaps bytes of a
-- line that had begun. The line that the answer is about is none of the whole ones. The line that
-- had begun is not too long, and not past the most. If the whole lines are a session and all of its
-- transcript, no line had begun: one byte more decides
pub record Undecided (bytes read : List ℕ) : Type 0 where
  pub lines : List (List ℕ)
  pub begun : List ℕ
  pub are : read ≡ concat lines ++ begun
  pub whole : list_all is_whole lines ≡ true
  pub inside : list_all (λ b. not (b == 10)) begun ≡ true
  pub undecided : length lines < decisive (count_in (parts_from 1 [] (lines_in bytes))) (verified bytes)
  pub short : length begun ≤ most_behind (list_any is_end_line lines)
  pub few : 0 < length begun → length lines < most_lines
  pub ended : IsYes (verified (concat lines)) → begun ≡ []
