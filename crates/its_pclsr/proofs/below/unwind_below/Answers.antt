use Rattle.std.proofs.Common.{◌<◌, arith}
use Rattle.its_word.specs.Limits.{slots}
use Rattle.its_pclsr.proofs.BelowLaws.{within_below, unwinding_more, unwinding_end, unwinding_pages, below_same}
use Rattle.its_pclsr.proofs.below.unwind_below.Goals as goal

pub overflow_add-k : goal.overflow_add-k
overflow_add-k c =
    let few : c.loop-inferior.k < slots = within_below _ _ _ _ c.in-Some.ensures.job in
    omega arith

pub loop-inferior-smaller : goal.loop-inferior-smaller
loop-inferior-smaller c =
    let few : c.loop-inferior.k < slots = within_below _ _ _ _ c.in-Some.ensures.job in
    omega arith

pub loop-inferior-preserved : goal.loop-inferior-preserved
loop-inferior-preserved c = record {
  unwinding = unwinding_more _ _ _ _ _ _ c.loop-inferior.invariant.unwinding c.below.ensures.tree c.in-Some.ensures.job
      c.unwind.ensures.unwinds c.unwind.ensures.same c.unwind.ensures.sound
      c.unwind.ensures.pages;
  tidy = c.unwind.ensures.tidy;
}

pub returns-clause-unwinds : goal.returns-clause-unwinds
returns-clause-unwinds c = unwinding_end _ _ _ _ c.loop-inferior.invariant.unwinding c.below.ensures.tree c.in_default.ensures.job

pub returns-clause-same : goal.returns-clause-same
returns-clause-same c = below_same _ _ _ c.requires.sound (returns-clause-unwinds c)

pub returns-clause-pages : goal.returns-clause-pages
returns-clause-pages c = unwinding_pages _ _ _ _ c.loop-inferior.invariant.unwinding c.below.ensures.tree c.in_default.ensures.job
