-- The lines of a transcript and their text (docs/SESSION.md). Characters are their ASCII codes.
-- A promise rests on this.
use Rattle.std.specs.Prelude.{if◌then◌else◌, ℕ, ◌+◌, ◌==◌, Bool, true, false, Option, Some, None, List, [], ◌∷◌, ◌++◌, map, flat_map, codes}
use Rattle.its_word.specs.Text.{octal12_of, octal6_of, digits_of, spaced}
use Rattle.its_records.specs.declared.calls.Pace.{Pace}
use Rattle.its_records.specs.declared.calls.Pace.TheVariants.{Step, Work, Wait, Off}
use Rattle.its_records.specs.declared.session.Reason.{Reason}
use Rattle.its_records.specs.declared.session.Reason.TheVariants as reasons
use Rattle.its_records.specs.declared.show.FileShow.{FileShow}
use Rattle.its_records.specs.declared.show.JobShow.{JobShow}
use Rattle.its_records.specs.declared.show.Peek.{Peek}
use Rattle.its_records.specs.declared.show.PeekState.{PeekState}
use Rattle.its_records.specs.declared.show.PeekState.TheVariants.{User, Entered, Parsed, Asked, Holding, Waiting, Moving, Ending}
use Rattle.its_chart.specs.TypeOut.{typed}

-- a line of a transcript
pub data Line : Type 0 where
  -- LOAD made a job in slot s
  Loaded : (s : ℕ) → Line
  -- what each tick of slot s did
  Ticks : (s : ℕ) (paces : List Pace) → Line
  -- TYPE on console c, when some bytes were dropped
  Typed : (c dropped : ℕ) → Line
  -- the bytes that DRAIN took from console c
  Drained : (c : ℕ) (bytes : List ℕ) → Line
  -- the words that EXAM found in slot s from address a on
  Words : (s a : ℕ) (words : List ℕ) → Line
  -- the word that LIST found in slot s at address a
  Listed : (s a word : ℕ) → Line
  -- what STATE shows of slot s in a session of version v
  State : (v s : ℕ) (show : JobShow) → Line
  -- what PEEK shows of slot s
  Peeked : (s : ℕ) (peek : Peek) → Line
  -- DIR found n files in directory d
  Dir : (d n : ℕ) → Line
  -- one of these files
  Filed : (show : FileShow) → Line
  -- SHOW found the file d x y, of k words
  Shown : (d x y k : ℕ) → Line
  -- up to eight of its words
  Row : (words : List ℕ) → Line
  -- line number n of the session is refused
  Refused : (n : ℕ) (reason : Reason) → Line

abbrev pub letter_of : Pace → ℕ
letter_of Step = 42
letter_of Work = 46
letter_of Wait = 119
letter_of Off = 45

-- a run of so many of one letter
abbrev pub run_of : ℕ → ℕ → List ℕ
run_of n letter = digits_of n ++ letter ∷ []

-- the runs of some paces, before which came n of one letter
abbrev pub runs_from : ℕ → ℕ → List Pace → List (List ℕ)
runs_from n letter [] = run_of n letter ∷ []
runs_from n letter (p ∷ ps) =
    if letter_of p == letter then runs_from (n + 1) letter ps
    else run_of n letter ∷ runs_from 1 (letter_of p) ps

-- the runs of equal letters
unfoldable pub runs_of : List Pace → List (List ℕ)
runs_of [] = []
runs_of (p ∷ ps) = runs_from 1 (letter_of p) ps

-- a word of 12 digits, or `-`
abbrev pub word_or_dash : Option ℕ → List ℕ
word_or_dash (Some w) = octal12_of w
word_or_dash None = codes "-"

-- a slot or a console, or `-`
abbrev pub number_or_dash : Option ℕ → List ℕ
number_or_dash (Some n) = digits_of n
number_or_dash None = codes "-"

abbrev pub run_or_stop : Bool → List ℕ
run_or_stop true = codes "RUN"
run_or_stop false = codes "STOP"

abbrev pub state_name : PeekState → List ℕ
state_name User = codes "USER"
state_name Entered = codes "ENTERED"
state_name Parsed = codes "PARSED"
state_name Asked = codes "ASKED"
state_name Holding = codes "HOLDING"
state_name Waiting = codes "WAITING"
state_name Moving = codes "MOVING"
state_name Ending = codes "ENDING"

abbrev pub reason_name : Reason → List ℕ
reason_name reasons.Long = codes "LONG"
reason_name reasons.Syntax = codes "SYNTAX"
reason_name reasons.Range = codes "RANGE"
reason_name reasons.NoCons = codes "NOCONS"
reason_name reasons.NoJob = codes "NOJOB"
reason_name reasons.NoPage = codes "NOPAGE"
reason_name reasons.ReadOnly = codes "READONLY"
reason_name reasons.NoFile = codes "NOFILE"
reason_name reasons.Exists = codes "EXISTS"
reason_name reasons.Full = codes "FULL"
reason_name reasons.Unfit = codes "UNFIT"
reason_name reasons.Cut = codes "CUT"

-- the fields of a job after its slot: names, superior, console, RUN or STOP, PC word, pending
-- words, masks and deferrals
abbrev pub job_fields : JobShow → List (List ℕ)
job_fields j =
    octal12_of j.u ∷ octal12_of j.j ∷ number_or_dash j.sup ∷ number_or_dash j.con ∷ run_or_stop j.run ∷ octal12_of j.pc
    ∷ octal12_of j.p1 ∷ octal12_of j.p2 ∷ octal12_of j.m1 ∷ octal12_of j.m2 ∷ octal12_of j.d1 ∷ octal12_of j.d2 ∷ []

-- the name of a symbol and how far the PC is past it, or two `-`
abbrev pub symbol_or_dashes : Option (ℕ × ℕ) → List (List ℕ)
symbol_or_dashes (Some x) = octal12_of x.0 ∷ digits_of x.1 ∷ []
symbol_or_dashes None = codes "-" ∷ codes "-" ∷ []

-- version 2 shows it, after the other fields of a job
abbrev pub symbol_fields : ℕ → Option (ℕ × ℕ) → List (List ℕ)
symbol_fields v symbol = if v == 2 then symbol_or_dashes symbol else []

-- the fields of a peek after its slot: state, call, unwinding steps, two words at arguments and the
-- held byte
abbrev pub peek_fields : Peek → List (List ℕ)
peek_fields p = state_name p.state ∷ word_or_dash p.name ∷ digits_of p.left ∷ word_or_dash p.a ∷ word_or_dash p.b ∷ word_or_dash p.h ∷ []

-- the words of a line after the first
abbrev pub fields_of : Line → List (List ℕ)
fields_of (Loaded s) = digits_of s ∷ []
fields_of (Ticks s paces) = digits_of s ∷ runs_of paces
fields_of (Typed c dropped) = digits_of c ∷ digits_of dropped ∷ []
fields_of (Drained c bytes) = digits_of c ∷ map digits_of bytes
fields_of (Words s a words) = digits_of s ∷ octal6_of a ∷ map octal12_of words
fields_of (Listed s a word) = digits_of s ∷ octal6_of a ∷ typed word ∷ []
fields_of (State v s show) = digits_of s ∷ job_fields show ++ symbol_fields v show.symbol
fields_of (Peeked s peek) = digits_of s ∷ peek_fields peek
fields_of (Dir d n) = octal12_of d ∷ digits_of n ∷ []
fields_of (Filed show) = octal12_of show.x ∷ octal12_of show.y ∷ digits_of show.length ∷ []
fields_of (Shown d x y k) = octal12_of d ∷ octal12_of x ∷ octal12_of y ∷ digits_of k ∷ []
fields_of (Row words) = map octal12_of words
fields_of (Refused n reason) = digits_of n ∷ reason_name reason ∷ []

-- its first word
abbrev pub keyword : Line → List ℕ
keyword (Loaded s) = codes "J"
keyword (Ticks s paces) = codes "T"
keyword (Typed c dropped) = codes "Y"
keyword (Drained c bytes) = codes "D"
keyword (Words s a words) = codes "E"
keyword (Listed s a word) = codes "L"
keyword (State v s show) = codes "S"
keyword (Peeked s peek) = codes "P"
keyword (Dir d n) = codes "R"
keyword (Filed show) = codes "F"
keyword (Shown d x y k) = codes "W"
keyword (Row words) = codes "/"
keyword (Refused n reason) = codes "?"

-- a line's words with one space between two, and LF
unfoldable pub text_of_line : Line → List ℕ
text_of_line line = spaced (keyword line) (fields_of line) ++ 10 ∷ []

-- the text of a transcript
unfoldable pub text : List Line → List ℕ
text lines = flat_map text_of_line lines

-- a line for each of the words that LIST found in slot s from address a on
abbrev pub listed : ℕ → ℕ → List ℕ → List Line
listed s a [] = []
listed s a (word ∷ words) = Listed s a word ∷ listed s (a + 1) words
