use Rattle.std.proofs.Common.{◌≡◌, ◌≤◌, ◌+◌, ◌-◌}
use Rattle.its_records.specs.declared.session.Place.TheVariants as places
use Rattle.its_session.specs.Events.{most_lines}
use Rattle.its_plain.specs.Machine.{no_machine}
use Rattle.its_stepped.specs.State.{no_state}
use Rattle.its_reader.specs.Bytes.{Onward}
use Rattle.its_reader.specs.Lines.{BetweenLines}
use Rattle.its_monitor.specs.Kept.{Kept}
use Rattle.its_world.specs.World.{state_of}
use Rattle.its_top.specs.Answer.{block_of}
use Rattle.its_top.specs.Silent.{SilentSo}
use Rattle.its_top.proofs.sessions.silent.obey_all.Given as goal

abbrev pub invariant-loop-found : goal.invariant-loop-found
invariant-loop-found g l = record {
  sound : Kept l.m.world;
  few : l.items.lines.number ≤ most_lines;
  ready : BetweenLines l.items.lines (g.S.Source.left l.src);
  onward : Onward l.items.lines.ended (g.S.Source.readable l.src);
  begun : l.items.place ≡ places.First → state_of l.m.world ≡ no_state no_machine;
  so_far : SilentSo l.items (l.items.lines.number + 1) (state_of l.m.world) (block_of l.p.slot l.p.file) l.last (g.S.Source.left l.fn.src)
      (g.S.Source.left l.src);
  read_unfailed : g.S.Source.faults l.src ≡ g.S.Source.faults l.fn.src;
}

abbrev pub decreases-loop-found : goal.decreases-loop-found
decreases-loop-found g l = most_lines + 2 - l.items.lines.number
