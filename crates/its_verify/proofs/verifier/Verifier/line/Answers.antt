use Rattle.std.proofs.Common.{subst}
use Rattle.its_direct.specs.Events.{MayStand, spot_place}
use Rattle.its_verify.proofs.OutLaws.{tick_out}
use Rattle.its_verify.proofs.VerifierLaws.{outside_tick}
use Rattle.its_verify.proofs.verifier.Verifier.line.Goals as goal

pub ticks-requires-clause-outside : goal.ticks-requires-clause-outside
ticks-requires-clause-outside g c =
    outside_tick c.args.self.now.judge.plain.place c.in-Tick.s c.in-Tick.n
    (subst (MayStand (spot_place c.args.self.now.judge.plain.place)) c.in-Tick.is c.requires.stands)

pub returns-in-Tick-clause-out : goal.returns-in-Tick-clause-out
returns-in-Tick-clause-out g c =
    tick_out c.in-Tick.s c.in-Tick.n c.ticks.result c.args.self.now c.ticks.new.self (g.S.Source.left c.args.src.now)
    (g.S.Source.left c.ticks.new.src) c.ticks.ensures.says
