-- The core alone is another.
use Rattle.std.specs.Prelude.{◌+◌, Some, refl}
use Rattle.std.proofs.Common.{subst, sym, ◌∙◌}
use Rattle.its_word.specs.Only.{Only}
use Rattle.its_core.specs.Cores.{clear_at}
use Rattle.its_world.proofs.WorldLaws.{page_becomes}
use Rattle.its_tick.proofs.PageLaws.{quarter_cleared, frames_cleared}
use Rattle.its_tick.proofs.calls.clear_quarter.Goals as goal

pub returns : goal.returns
returns c =
    page_becomes c.args.w.now _ c.args.slot (Some (c.args.q + 1))
    (subst (λ r. Only (clear_at c.args.w.now.core) (clear_at c.clear_quarter.new.self) c.args.slot r)
    (quarter_cleared c.args.w.now.core c.args.slot c.args.q c.requires.page) c.clear_quarter.ensures.quarters)
    c.clear_quarter.ensures.cores (c.clear_quarter.ensures.frames ∙ sym (frames_cleared _ _ (c.args.q + 1) _ _ c.requires.page)) refl
