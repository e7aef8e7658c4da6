-- Which page frames are free after jobs are unwound.
-- No promise rests on this.
use Rattle.std.specs.Prelude.{ℕ, None, List, [], ◌∷◌}
use Rattle.its_core.specs.Frames.{Frames}
use Rattle.its_stepped.specs.State.{State}
use Rattle.its_stepped.specs.Unwind.{unwound}
use Rattle.its_world.specs.World.{frames_after}

-- the jobs of some slots are unwound, one after another: the frame of each page that they had
-- reserved becomes the last of the free ones
abbrev pub pages_unwound : List ℕ → State → Frames → Frames
pages_unwound [] w f = f
pages_unwound (k ∷ ks) w f = pages_unwound ks (unwound w k) (frames_after (w.reserved k) None k f)
