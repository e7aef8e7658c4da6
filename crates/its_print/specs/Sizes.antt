-- The sizes of the parts of a line that is printed.
-- No promise rests on this.
use Rattle.std.specs.Prelude.{ℕ, ◌<◌, ◌≤◌, ◌^◌, length, IfSome}
use Rattle.std.specs.List.{AllByRecursion}
use Rattle.its_print.specs.Printing.{Line, Loaded, Ticks, Typed, Drained, Words, Listed, State, Peeked, Dir, Filed, Shown, Row, Refused}

-- a number of so many bits
abbrev pub Fits8 : ℕ → Type 0
Fits8 n = n < 2 ^ 8

abbrev pub Fits32 : ℕ → Type 0
Fits32 n = n < 2 ^ 32

-- slots, consoles and bytes have 8 bits, counts 32, words 36; at most 512 paces, 64 bytes, 8 words
abbrev pub IsPrinted : Line → Type 0
IsPrinted (Loaded s) = Fits8 s
IsPrinted (Ticks s paces) = Fits8 s × (length paces ≤ 512)
IsPrinted (Typed c dropped) = Fits8 c × Fits32 dropped
IsPrinted (Drained c bytes) = Fits8 c × (length bytes ≤ 64) × AllByRecursion Fits8 bytes
IsPrinted (Words s a words) = Fits8 s × (length words ≤ 8)
IsPrinted (Listed s a word) = Fits8 s × (word < 2 ^ 36)
IsPrinted (State v s show) = Fits8 s × IfSome show.sup Fits8 × IfSome show.con Fits8 × IfSome show.symbol (λ x. Fits32 x.1)
IsPrinted (Peeked s peek) = Fits8 s × Fits8 peek.left
IsPrinted (Dir d n) = Fits32 n
IsPrinted (Filed show) = Fits32 show.length
IsPrinted (Shown d x y k) = Fits32 k
IsPrinted (Row words) = length words ≤ 8
IsPrinted (Refused n reason) = Fits32 n
