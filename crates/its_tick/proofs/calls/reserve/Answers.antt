-- The core alone is another.
use Rattle.std.specs.Prelude.{Some, refl}
use Rattle.std.proofs.Common.{sym, ◌∙◌}
use Rattle.its_tick.proofs.PageLaws.{frames_reserved}
use Rattle.its_world.proofs.WorldLaws.{page_becomes}
use Rattle.its_tick.proofs.calls.reserve.Goals as goal

pub returns : goal.returns
returns c = page_becomes c.args.w.now _ c.args.slot (Some 0) c.reserve.ensures.quarters c.reserve.ensures.cores
    (c.reserve.ensures.frames ∙ sym (frames_reserved _ 0 _ _ c.requires.none)) refl
