use Rattle.std.proofs.Common.{◌∙◌, ◌≡◌, ◌+◌, ◌*◌, ◌/◌, ◌%◌, Some, None, slice_index_or, arith}
use Rattle.its_core.proofs.ReadLaws.{place_words}
use Rattle.its_core.proofs.StoreLaws.{acc_only, acc_pool, page_only, page_pool, page_reserved, acc_reserved, refused_read_only, acc_frames, word_frames}
use Rattle.its_core.proofs.cores.Core.put.Goals as goal

pub invariant_of-self : goal.invariant_of-self
invariant_of-self c = (
  rw c.acc_index.ensures (acc_pool _ _ _ _ _ _ c.self.invariant.0 c.args.slot c.args.a c.args.w c.within.ensures
      c.if-a-lt16.true),
  c.self.invariant.1,
)

pub returns-then-a-lt16-clause-stored : goal.returns-then-a-lt16-clause-stored
returns-then-a-lt16-clause-stored c = rw (c.acc_index.ensures, ← c.self.view_is)
    (acc_only _ _ _ _ _ _ c.self.invariant.0 c.args.slot c.args.a c.args.w c.within.ensures c.if-a-lt16.true)

pub returns-then-a-lt16-clause-reserved : goal.returns-then-a-lt16-clause-reserved
returns-then-a-lt16-clause-reserved c = rw (← c.self.view_is) (acc_reserved _ _ _ _ _ _ c.self.invariant.0 c.acc_index.result c.args.w)

pub set-requires : goal.set-requires
set-requires c =
    let e : slice_index_or c.self.inside.places.items (256 * c.args.slot + c.args.a / 1024) None ≡ Some c.in-Some.m = cc in
    let long = place_words _ _ _ _ _ _ c.self.invariant.0 _ _ e in
    omega arith

pub invariant_of-self-then-m : goal.invariant_of-self-then-m
invariant_of-self-then-m c =
    let e : slice_index_or c.self.inside.places.items (256 * c.args.slot + c.args.a / 1024) None ≡ Some c.in-Some.m = cc in (
      rw (c.set.ensures.words, c.word_index.ensures) (page_pool _ _ _ _ _ _ c.self.invariant.0 c.args.slot c.args.a c.args.w c.in-Some.m
          c.within.ensures (omega arith) c.requires.address e),
      c.set.ensures.most ∙ c.self.invariant.1,
    )

pub returns-in-Some-clause-stored : goal.returns-in-Some-clause-stored
returns-in-Some-clause-stored c =
    let e : slice_index_or c.self.inside.places.items (256 * c.args.slot + c.args.a / 1024) None ≡ Some c.in-Some.m = cc in
    rw (c.set.ensures.words, c.word_index.ensures, ← c.self.view_is)
    (page_only _ _ _ _ _ _ c.self.invariant.0 c.args.slot c.args.a c.args.w c.in-Some.m c.within.ensures (omega arith) c.requires.address e)

pub returns-in-Some-clause-reserved : goal.returns-in-Some-clause-reserved
returns-in-Some-clause-reserved c =
    let e : slice_index_or c.self.inside.places.items (256 * c.args.slot + c.args.a / 1024) None ≡ Some c.in-Some.m = cc in
    rw (c.set.ensures.words, c.word_index.ensures, ← c.self.view_is)
    (page_reserved _ _ _ _ _ _ c.self.invariant.0 (256 * c.args.slot + c.args.a / 1024) (c.args.a % 1024) c.args.w c.in-Some.m e (omega arith))

pub returns-in-Some-2-clause-refused : goal.returns-in-Some-2-clause-refused
returns-in-Some-2-clause-refused c =
    let e : slice_index_or c.self.inside.places.items (256 * c.args.slot + c.args.a / 1024) None ≡ Some c.in-Some.m = cc in
    rw (← c.self.view_is) (refused_read_only _ _ _ _ _ _ c.self.invariant.0 c.args.slot c.args.a c.args.w c.in-Some.m c.within.ensures
    (omega arith) c.requires.address e c.if-m.false)

pub returns-then-a-lt16-clause-frames : goal.returns-then-a-lt16-clause-frames
returns-then-a-lt16-clause-frames c = rw (← c.self.view_is) (acc_frames _ _ _ _ _ _ c.self.invariant.0 c.acc_index.result c.args.w)

pub returns-in-Some-clause-frames : goal.returns-in-Some-clause-frames
returns-in-Some-clause-frames c = rw (c.set.ensures.words, ← c.self.view_is) (word_frames _ _ _ _ _ _ c.self.invariant.0 c.word_index.result c.args.w)
