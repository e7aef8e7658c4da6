use Rattle.std.proofs.Common.{subst, sym, ◌∙◌, ◌+◌}
use Rattle.its_core.specs.Cores.{core_at}
use Rattle.its_direct.proofs.RoomLaws.{Counting, counting_there, counting_absent, counting_ends}
use Rattle.its_direct.proofs.lines.words.pages_absent.Goals as goal
use Rattle.its_direct.proofs.lines.words.pages_absent.Goals.{then-not-has_page, else-not-has_page}

pub loop-k-preserved : goal.loop-k-preserved
loop-k-preserved c =
    let core = core_at c.args.core.now c.args.slot in
    elim c.if-not-has_page.branch [
      | then-not-has_page w ↦ record {
        counting = subst (Counting core c.args.first c.args.n (c.loop-k.k + 1)) (sym w.absent-is)
            (counting_absent core c.args.first c.args.n c.loop-k.k c.loop-k.absent c.loop-k.invariant.counting c.loop-k-test.true
            (sym c.has_page.ensures ∙ w.if-not-has_page.true));
      }
      | else-not-has_page w ↦ record {
        counting = subst (Counting core c.args.first c.args.n (c.loop-k.k + 1)) (sym w.absent-is)
            (counting_there core c.args.first c.args.n c.loop-k.k c.loop-k.absent c.loop-k.invariant.counting c.loop-k-test.true
            (sym c.has_page.ensures ∙ w.if-not-has_page.false));
      }
    ]

pub returns-clause-number : goal.returns-clause-number
returns-clause-number c = counting_ends (core_at c.args.core.now c.args.slot) c.args.first c.args.n c.loop-k.k c.loop-k.absent
    c.loop-k.invariant.counting c.loop-k-test.false
