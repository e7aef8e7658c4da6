-- What holds of each image: its numbers and names are such as lines of a session may have.
-- No promise rests on this.
use Rattle.std.specs.Prelude.{◌≡◌, ◌≤◌, ◌<◌, ◌^◌, ◌&&◌, ℕ, Bool, true, IfSome, List, [], ◌∷◌, All, length, nat_lt}
use Rattle.its_asm.specs.declared.assembly.Image.{Image}
use Rattle.its_session.specs.Fits.{IsNameWord}

-- a word at its address
abbrev pub CellFits : ℕ × ℕ → Type 0
CellFits c = c.0 < 2 ^ 18

-- a symbol
abbrev pub SymbolFits : ℕ × ℕ → Type 0
SymbolFits s = IsNameWord s.0 × (s.1 < 2 ^ 18)

-- addresses rise from one word to the next
abbrev pub rises_from : ℕ → List (ℕ × ℕ) → Bool
rises_from a [] = true
rises_from a (c ∷ cells) = nat_lt a c.0 && rises_from c.0 cells

abbrev pub rises : List (ℕ × ℕ) → Bool
rises [] = true
rises (c ∷ cells) = rises_from c.0 cells

pub record ImageFits (i : Image) : Type 0 where
  pub uname : IsNameWord i.u
  pub jname : IsNameWord i.j
  pub console : IfSome i.console (λ k. k ≤ 7)
  pub cells : All CellFits i.words
  pub rise : rises i.words ≡ true
  pub symbols : All SymbolFits i.symbols
  pub few : length i.symbols ≤ 512
  pub start : i.start < 2 ^ 18
