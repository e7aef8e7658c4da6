use Rattle.std.proofs.Common.{◌≡◌, ◌*◌, ◌%◌, ◌^◌, append_assoc, arith}
use Rattle.std.proofs.lemmas.List.{append-nil}
use Rattle.its_session.proofs.PutLaws.{characters_end, characters_turn, no_more}
use Rattle.its_session.proofs.put.name.Goals as goal

pub loop-turn-preserved : goal.loop-turn-preserved
loop-turn-preserved c =
    let turn = characters_turn c.loop-turn._turn c.loop-turn.rest (omega arith) (omega arith) in
    let next : c.new-rest.result ≡ c.loop-turn.rest * 2 ^ 6 % 2 ^ 36 = omega arith in
    record {
      told = rw (c.push.ensures.items, next, c.value.ensures.value, append_assoc, ← turn) c.loop-turn.invariant.told;
      len = omega arith;
    }

pub returns-after-loop-turn : goal.returns-after-loop-turn
returns-after-loop-turn c =
    let last : c.loop-turn._turn ≡ 6 = omega arith in
    rw (last, no_more, append-nil) at c.loop-turn.invariant.told

pub returns-then-code-eq0 : goal.returns-then-code-eq0
returns-then-code-eq0 c =
    let end = characters_end c.loop-turn._turn c.loop-turn.rest (omega arith) in
    rw (end, append-nil) at c.loop-turn.invariant.told
