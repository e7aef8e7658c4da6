use Rattle.std.proofs.Common.{arith, refl}
use Rattle.its_pipes.specs.Pipes.{piped}
use Rattle.its_saved.specs.Saving.{link_lines}
use Rattle.its_saving.proofs.WritingLaws.{each_all, each_cut, each_next, none_written}
use Rattle.its_saving.proofs.links.write_links.Goals as goal

pub loop-l-init : goal.loop-l-init
loop-l-init g c = none_written _ _ _

pub loop-l-preserved : goal.loop-l-preserved
loop-l-preserved g c = each_next _ _ (λ n. link_lines n (piped c.args.pipes.now n)) _ _ _ _ _ _ _ refl c.loop-l.invariant c.in_ok-write_link.was
    c.write_link.ensures

pub returns : goal.returns
returns g c = each_all _ _ (λ n. link_lines n (piped c.args.pipes.now n)) _ _ _ c.loop-l.l 16 c.loop-l.invariant (omega (arith, c.loop-l-test.false))
    (omega (arith, c.loop-l.auto.l-end))

pub returns-in_err-write_link : goal.returns-in_err-write_link
returns-in_err-write_link g c = each_cut _ _ (λ n. link_lines n (piped c.args.pipes.now n)) _ _ _ _ _ _ _ _ 16 refl c.loop-l.invariant
    c.in_err-write_link.was c.write_link.ensures (omega (arith, c.loop-l-test.true)) c.from_residual.ensures.0
