-- The line that a value means.
-- No promise rests on this.
use Rattle.std.specs.Prelude.{◌≤◌, length}
use Rattle.its_print.specs.declared.replies.Reply.{Reply}
use Rattle.its_print.specs.declared.replies.Reply.TheVariants as replies
use Rattle.its_print.specs.Printing.{Line, Loaded, Ticks, Typed, Drained, Words, Listed, State, Peeked, Dir, Filed, Shown, Row, Refused}
use Rattle.its_print.specs.Runs.{paces_in}

abbrev pub line_of : Reply → Line
line_of (replies.Loaded s) = Loaded s
line_of (replies.Ticks s runs) = Ticks s (paces_in runs.now)
line_of (replies.Typed c dropped) = Typed c dropped
line_of (replies.Drained c bytes) = Drained c bytes.now
line_of (replies.Words s a words) = Words s a words.now
line_of (replies.Listed s a word) = Listed s a word
line_of (replies.State version s show) = State version s show.now
line_of (replies.Peeked s peek) = Peeked s peek.now
line_of (replies.Dir d n) = Dir d n
line_of (replies.Filed show) = Filed show.now
line_of (replies.Shown d x y k) = Shown d x y k
line_of (replies.Row words) = Row words.now
line_of (replies.Refused n reason) = Refused n reason

-- at most 512 letters, 64 bytes or 8 words
abbrev pub FewParts : Reply → Type 0
FewParts (replies.Ticks s runs) = length (paces_in runs.now) ≤ 512
FewParts (replies.Drained c bytes) = length bytes.now ≤ 64
FewParts (replies.Words s a words) = length words.now ≤ 8
FewParts (replies.Row words) = length words.now ≤ 8
FewParts r = Unit {0}
