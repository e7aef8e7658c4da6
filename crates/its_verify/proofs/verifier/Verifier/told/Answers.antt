use Rattle.std.proofs.Common.{refl}
use Rattle.its_verify.specs.declared.verifier.Verifier.{Verifier}
use Rattle.its_verify.proofs.GoingLaws.{told_can, told_says}
use Rattle.its_verify.proofs.OutLaws.{shown_out}
use Rattle.its_verify.proofs.verifier.Verifier.told.Goals as goal

pub shown-requires-clause-can : goal.shown-requires-clause-can
shown-requires-clause-can g c = told_can c.args.event.now c.in-Ok.answer c.args.self.now.judge c.event.new.self c.in-Ok.ensures.told c.in-Ok.ensures.dots

pub returns-in-Ok-clause-says : goal.returns-in-Ok-clause-says
returns-in-Ok-clause-says g c =
    let mid : Verifier = record { judge = c.event.new.self; reader = c.args.self.now.reader; last = c.args.self.now.last; room = c.args.self.now.room } in
    told_says c.args.event.now c.in-Ok.answer c.shown.result c.args.self.now mid c.shown.new.self (g.S.Source.left c.args.src.now)
    (g.S.Source.left c.shown.new.src) c.args.number c.in-Ok.ensures.told c.in-Ok.ensures.dots refl
    c.shown.ensures.judge c.shown.ensures.says

pub returns-in-Ok-clause-out : goal.returns-in-Ok-clause-out
returns-in-Ok-clause-out g c =
    shown_out c.in-Ok.answer c.event.new.self.plain c.shown.result c.args.self.now.reader c.shown.new.self.reader
    (g.S.Source.left c.args.src.now) (g.S.Source.left c.shown.new.src) c.shown.ensures.says
