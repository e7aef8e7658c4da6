-- What contracts see of the pages of all jobs: for each slot its core, and the page that it has
-- reserved; and the page frames of the pages.
-- No promise rests on this.
use Rattle.std.specs.Prelude.{if◌then◌else◌, ◌≡◌, ℕ, ◌+◌, ◌*◌, ◌==◌, Bool, Option, None, List, ◌++◌, take, drop, replicate, slice_index_or, option_map}
use Rattle.its_word.specs.Core.{Core, Page, no_core}
use Rattle.its_core.specs.Frames.{Frames, NoFrames}

-- a reserved page: how many of its quarters are clear, from the first on, and its words
pub record Reserved : Type 0 where
  pub clear : ℕ
  pub words : List ℕ

pub record Cores : Type 0 where
  pub cores : List Core
  pub reserved : List (Option Reserved)
  pub frames : Frames

-- the core of a slot
unfoldable pub core_at : Cores → ℕ → Core
core_at m k = slice_index_or m.cores k no_core

-- the page that a slot has reserved
unfoldable pub reserved_at : Cores → ℕ → Option Reserved
reserved_at m k = slice_index_or m.reserved k None

-- how many quarters of it are clear
abbrev pub clear_at : Cores → ℕ → Option ℕ
clear_at m k = option_map (λ r. r.clear) (reserved_at m k)

-- how many quarters are clear, of which the first n were, after quarter q was cleared
abbrev pub clear_with : ℕ → ℕ → ℕ
clear_with q n = if n == q then n + 1 else n

-- a list with n of its numbers cleared, from place i on
unfoldable pub zeroed : ℕ → ℕ → List ℕ → List ℕ
zeroed i n ws = take i ws ++ replicate n 0 ++ drop (i + n) ws

-- a reserved page with words 256q to 256q + 255 cleared
abbrev pub cleared : ℕ → Reserved → Reserved
cleared q r = record { clear = clear_with q r.clear; words = zeroed (256 * q) 256 r.words }

-- whether page k of a core can be stored to, if it is present
abbrev pub mark_of : Option Page → Option Bool
mark_of p = option_map (λ q. q.writable) p

-- no slot has a page, a reserved page or a word that is not 0, and each frame is free
pub record IsEmpty (m : Cores) : Type 0 where
  pub cores : (k : ℕ) → core_at m k ≡ no_core
  pub reserved : (k : ℕ) → reserved_at m k ≡ None
  pub frames : NoFrames m.frames
