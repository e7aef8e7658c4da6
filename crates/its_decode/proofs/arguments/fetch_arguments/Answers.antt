use Rattle.std.proofs.Common.{arith}
use Rattle.std.proofs.lemmas.Result.{err_from_is_err_and}
use Rattle.its_decode.proofs.ArgumentLaws.{gathering_ends, gathering_fails, gathering_more, gathering_room}
use Rattle.its_decode.proofs.arguments.fetch_arguments.Goals as goal

pub fetch_argument-requires-clause-room : goal.fetch_argument-requires-clause-room
fetch_argument-requires-clause-room c =
    gathering_room _ _ _ _ _ _ _ c.loop-w.invariant.gathering (let l = c.loop-w-test.true in let w = c.requires.words in omega arith)

pub returns-in_err-fetch_argument-clause-fault : goal.returns-in_err-fetch_argument-clause-fault
returns-in_err-fetch_argument-clause-fault c =
    let p = err_from_is_err_and c.from_residual.result c.from_residual.ensures.1 in
    rw (p.1, p.2)
    (gathering_fails _ _ _ _ _ _ _ _ _ c.loop-w.invariant.gathering c.w-item.is c.loop-w-test.true c.in_err-fetch_argument.ensures.fault)

pub loop-w-preserved : goal.loop-w-preserved
loop-w-preserved c = record {
  used = c.fetch_argument.ensures.more.1;
  room = let f = c.fetch_argument.ensures.few in let r = c.loop-w.invariant.room in omega arith;
  gathering = gathering_more _ _ _ _ _ _ _ _ _ _ c.loop-w.invariant.gathering c.w-item.is c.loop-w-test.true
      c.in_ok-fetch_argument.ensures.fetched c.fetch_argument.ensures.reads;
}

pub returns-clause-gathered : goal.returns-clause-gathered
returns-clause-gathered c = gathering_ends _ _ _ _ _ _ _ c.loop-w.invariant.gathering c.loop-w-test.false
