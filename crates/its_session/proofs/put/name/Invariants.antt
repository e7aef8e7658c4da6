use Rattle.std.proofs.Common.{◌≡◌, ◌-◌, ◌++◌, length}
use Rattle.its_session.specs.Writing.{characters}
use Rattle.its_session.proofs.put.name.Given as goal

abbrev pub invariant-loop-turn : goal.invariant-loop-turn
invariant-loop-turn l = record {
  told : l.characters.items ++ characters (6 - l._turn) l.rest ≡ characters 6 l.fn.w;
  len : length l.characters.items ≡ l._turn;
}
