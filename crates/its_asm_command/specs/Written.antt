-- What is written of an assembled text: the session of its image, or the line that is refused
-- (docs/ASM.md, "The command").
-- A promise rests on this.
use Rattle.std.specs.Prelude.{if◌then◌else◌, ◌==◌, ◌&&◌, ℕ, Bool, ◌+◌, Result, Ok, Err, List, [], ◌∷◌, ◌++◌, length, map, nat_lt, codes}
use Rattle.its_word.specs.Text.{digits_of, spaced}
use Rattle.its_records.specs.declared.session.Event.{Event}
use Rattle.its_records.specs.declared.session.Event.TheVariants as events
pub use Rattle.its_session.specs.Writing.{event_line}
unfoldable pub use Rattle.its_session.specs.Writing.{lines_text}
use Rattle.its_asm.specs.declared.assembly.Image.{Image}
use Rattle.its_asm.specs.declared.reason.AsmFault.{AsmFault}
use Rattle.its_asm.specs.declared.reason.AsmFault.TheVariants.{Line, NoMemory}
use Rattle.its_asm.specs.declared.reason.AsmReason.{AsmReason}
use Rattle.its_asm.specs.declared.reason.AsmReason.TheVariants as reasons

-- the `a/` lines of words at rising addresses: each is as long as consecutive words allow, at most
-- 16. Here the words ws from address a on are in the line that is open
abbrev pub goes_on : ℕ → List ℕ → ℕ → Bool
goes_on a ws b = b == a + length ws && nat_lt (length ws) 16

abbrev pub rows_from : ℕ → List ℕ → List (ℕ × ℕ) → List Event
rows_from a ws [] = events.Words a (record { items = ws }) ∷ []
rows_from a ws (c ∷ cells) =
    if goes_on a ws c.0 then rows_from a (ws ++ c.1 ∷ []) cells
    else events.Words a (record { items = ws }) ∷ rows_from c.0 (c.1 ∷ []) cells

abbrev pub rows : List (ℕ × ℕ) → List Event
rows [] = []
rows (c ∷ cells) = rows_from c.0 (c.1 ∷ []) cells

-- a SYM line for each symbol
abbrev pub symbol_lines : List (ℕ × ℕ) → List Event
symbol_lines symbols = map (λ s. events.Symbol s.0 s.1) symbols

-- the session of an image, of version 2: one job, its words in rising order of address, and its
-- symbols in order of definition
abbrev pub image_events : Image → List Event
image_events i =
    events.Version 2 ∷ events.Load i.u i.j i.console ∷ (rows i.words ++ (symbol_lines i.symbols ++ (events.Go i.start ∷ events.End ∷ [])))

abbrev pub reason_word : AsmReason → List ℕ
reason_word reasons.Long = codes "LONG"
reason_word reasons.Syntax = codes "SYNTAX"
reason_word reasons.Range = codes "RANGE"
reason_word reasons.Undef = codes "UNDEF"
reason_word reasons.Twice = codes "TWICE"
reason_word reasons.Full = codes "FULL"
reason_word reasons.Cut = codes "CUT"

-- `? n reason`
abbrev pub fault_line : ℕ → AsmReason → List ℕ
fault_line n reason = spaced (codes "?") (digits_of n ∷ reason_word reason ∷ []) ++ 10 ∷ []

-- what is written of an assembly
abbrev pub assembly_text : Result Image AsmFault → List ℕ
assembly_text (Ok image) = lines_text (image_events image)
assembly_text (Err (Line n reason)) = fault_line n reason
assembly_text (Err NoMemory) = []
