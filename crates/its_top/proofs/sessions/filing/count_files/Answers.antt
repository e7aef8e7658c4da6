use Rattle.std.proofs.Common.{◌≡◌, ◌≤◌, ◌∙◌, sym, arith, length}
use Rattle.its_top.proofs.FilingLaws.{looking_next, counting_some, counting_end}
use Rattle.its_top.proofs.sessions.filing.count_files.Goals as goal

pub loop-k-preserved : goal.loop-k-preserved
loop-k-preserved c = record {
  sound = c.dir.ensures.kept;
  looked = looking_next _ _ _ _ c.loop-k.invariant.looked c.dir.ensures.state c.dir.ensures.files;
  some = counting_some _ _ _ _ _ c.loop-k.invariant.looked (sym c.in-Some.is ∙ c.dir.ensures.shown);
}

pub returns-clause-count : goal.returns-clause-count
returns-clause-count c =
    let all : c.loop-k.k ≡ 256 = omega (arith, c.loop-k-test.false, c.loop-k.auto.k-end) in
    let few : length c.loop-k.m.world.files.order ≤ c.loop-k.k = omega (arith, all, c.seen.ensures.files) in
    sym all ∙ counting_end _ _ _ _ (omega (arith, all)) c.loop-k.invariant.looked few c.loop-k.invariant.some
