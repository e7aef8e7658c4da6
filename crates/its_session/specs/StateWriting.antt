-- The line that is written for a line of the state part.
-- A promise rests on this.
use Rattle.std.specs.Prelude.{if◌then◌else◌, ◌==◌, ◌&&◌, not, ℕ, ◌^◌, ◌<◌, Bool, true, false, List, [], ◌∷◌, ◌++◌, length, map, codes, slice_index}
use Rattle.its_word.specs.Text.{digits_of, octal6_of, octal12_of, sixbit_of, spaced}
use Rattle.its_records.specs.declared.state_line.Registers.{Registers}
use Rattle.its_records.specs.declared.state_line.StateLine.{StateLine}
use Rattle.its_records.specs.declared.state_line.StateLine.TheVariants as states
use Rattle.its_session.specs.Names.{name_of, console_text}

-- the word of a name: no character of it is a blank, except after the last
abbrev pub is_name_word : ℕ → Bool
is_name_word w = not (w == 0) && (sixbit_of (name_of w) == w)

-- a tag: the name, if the word is that of one, else the digits of the word
abbrev pub tag_of : ℕ → List ℕ
tag_of w = if is_name_word w then name_of w else octal12_of w

abbrev pub flag_text : Bool → List ℕ
flag_text true = codes "1"
flag_text false = codes "0"

abbrev pub run_text : Bool → List ℕ
run_text true = codes "RUN"
run_text false = codes "STOP"

-- the words of a REGS line after the first
abbrev pub registers_text : Registers → List (List ℕ)
registers_text r =
    run_text r.run ∷ octal12_of r.pc ∷ octal12_of r.p1 ∷ octal12_of r.p2 ∷ octal12_of r.m1 ∷ octal12_of r.m2 ∷ octal12_of r.d1 ∷ octal12_of r.d2 ∷ []

-- an address has six digits, a machine word twelve, and any other number no leading zeros
abbrev pub text_of_state_line : StateLine → List ℕ
text_of_state_line (states.System v) = spaced (codes "SYSTEM") (digits_of v ∷ [])
text_of_state_line (states.Clock n) = spaced (codes "CLOCK") (digits_of n ∷ [])
text_of_state_line (states.File d x y) = spaced (codes "FILE") (tag_of d ∷ tag_of x ∷ tag_of y ∷ [])
text_of_state_line (states.FileWords ws) = spaced (codes "/") (map octal12_of ws.items)
text_of_state_line (states.Job s u j c) = spaced (codes "JOB") (digits_of s ∷ tag_of u ∷ tag_of j ∷ console_text c ∷ [])
text_of_state_line (states.CoreWords a ws) = spaced (octal6_of a ++ codes "/") (map octal12_of ws.items)
text_of_state_line (states.ReadOnly p) = spaced (codes "RO") (digits_of p ∷ [])
text_of_state_line (states.Symbol x a) = spaced (codes "SYM") (tag_of x ∷ octal6_of a ∷ [])
text_of_state_line (states.Regs r) = spaced (codes "REGS") (registers_text r)
text_of_state_line (states.Alarm s p n) = spaced (codes "ALARM") (digits_of s ∷ digits_of p ∷ digits_of n ∷ [])
text_of_state_line (states.Under s t) = spaced (codes "UNDER") (digits_of s ∷ digits_of t ∷ [])
text_of_state_line (states.Tty s n w) = spaced (codes "TTY") (digits_of s ∷ digits_of n ∷ flag_text w ∷ [])
text_of_state_line (states.Disk s n d x y at) = spaced (codes "DSK") (digits_of s ∷ digits_of n ∷ tag_of d ∷ tag_of x ∷ tag_of y ∷ digits_of at ∷ [])
text_of_state_line (states.Draft s n d x y) = spaced (codes "DRAFT") (digits_of s ∷ digits_of n ∷ tag_of d ∷ tag_of x ∷ tag_of y ∷ [])
text_of_state_line (states.Wrote s n ws) = spaced (codes "WROTE") (digits_of s ∷ digits_of n ∷ map octal12_of ws.items)
text_of_state_line (states.Usr s n t w at) = spaced (codes "USR") (digits_of s ∷ digits_of n ∷ digits_of t ∷ flag_text w ∷ digits_of at ∷ [])
text_of_state_line (states.Join s n l w x y) = spaced (codes "LNK") (digits_of s ∷ digits_of n ∷ digits_of l ∷ flag_text w ∷ tag_of x ∷ tag_of y ∷ [])
text_of_state_line (states.Sent l ws) = spaced (codes "SENT") (digits_of l ∷ map octal12_of ws.items)
text_of_state_line (states.EndShut l w) = spaced (codes "SHUT") (digits_of l ∷ flag_text w ∷ [])
text_of_state_line (states.Input c bs) = spaced (codes "IN") (digits_of c ∷ map digits_of bs.items)
text_of_state_line (states.Output c bs) = spaced (codes "OUT") (digits_of c ∷ map digits_of bs.items)
text_of_state_line (states.Hold c s) = spaced (codes "HOLD") (digits_of c ∷ digits_of s ∷ [])
text_of_state_line (states.Turn s) = spaced (codes "TURN") (digits_of s ∷ [])
text_of_state_line states.Ready = codes "READY"

-- the words of a line have 36 bits, as all words do
abbrev pub AreWords : List ℕ → Type 0
AreWords ws = (k : ℕ) → k < length ws → slice_index ws k < 2 ^ 36

abbrev pub RegistersAreWords : Registers → Type 0
RegistersAreWords r =
    (r.pc < 2 ^ 36) × (r.p1 < 2 ^ 36) × (r.p2 < 2 ^ 36) × (r.m1 < 2 ^ 36) × (r.m2 < 2 ^ 36) × (r.d1 < 2 ^ 36) × (r.d2 < 2 ^ 36)

abbrev pub StateHasWords : StateLine → Type 0
StateHasWords (states.File d x y) = (d < 2 ^ 36) × (x < 2 ^ 36) × (y < 2 ^ 36)
StateHasWords (states.FileWords ws) = AreWords ws.items
StateHasWords (states.Job s u j c) = (u < 2 ^ 36) × (j < 2 ^ 36)
StateHasWords (states.CoreWords a ws) = AreWords ws.items
StateHasWords (states.Symbol x a) = x < 2 ^ 36
StateHasWords (states.Regs r) = RegistersAreWords r
StateHasWords (states.Disk s n d x y at) = (d < 2 ^ 36) × (x < 2 ^ 36) × (y < 2 ^ 36)
StateHasWords (states.Draft s n d x y) = (d < 2 ^ 36) × (x < 2 ^ 36) × (y < 2 ^ 36)
StateHasWords (states.Wrote s n ws) = AreWords ws.items
StateHasWords (states.Join s n l w x y) = (x < 2 ^ 36) × (y < 2 ^ 36)
StateHasWords (states.Sent l ws) = AreWords ws.items
StateHasWords _ = Unit {0}
