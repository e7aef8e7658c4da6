-- A page that is mapped.
-- No promise rests on this.
use Rattle.std.specs.Prelude.{◌≡◌, ℕ, None}
use Rattle.its_word.specs.Core.{Core}
use Rattle.its_word.specs.Only.{Only}
use Rattle.its_core.specs.Cores.{core_at, clear_at}
use Rattle.its_core.specs.Frames.{frames_map}
use Rattle.its_world.specs.Contents.{contents}
use Rattle.its_world.specs.declared.world.World.{World}

-- of the world only the core of slot t changes, and the page that slot s had reserved, which is
-- gone: its frame is that of page k of slot t
pub record PageMapped (old new : World) (s t k : ℕ) (c : Core) : Type 0 where
  pub core : Only (core_at old.core) (core_at new.core) t c
  pub reserved : Only (clear_at old.core) (clear_at new.core) s None
  pub pages : new.core.frames ≡ frames_map s t k old.core.frames
  pub rest : contents new ≡ record (contents old) { core = new.core }
