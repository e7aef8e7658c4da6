-- Who may hold a console, in the forms that code answers.
-- No promise rests on this.
use Rattle.std.specs.Prelude.{◌==◌, ◌||◌, ℕ, Bool, true, false, Option, Some, None}
use Rattle.its_plain.specs.Call.Basic.{is_superior}
use Rattle.its_world.specs.declared.world.World.{World}
use Rattle.call_basic.specs.Seen.{outline_at}

-- whether job j may take a console for itself
abbrev pub may_take : World → ℕ → Option ℕ → Bool
may_take w j None = true
may_take w j (Some h) = (h == j) || is_superior j (outline_at w h)

-- whether job j holds it
abbrev pub holds : ℕ → Option ℕ → Bool
holds j None = false
holds j (Some h) = h == j
