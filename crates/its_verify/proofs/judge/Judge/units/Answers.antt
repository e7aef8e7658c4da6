use Rattle.std.proofs.Common.{◌<◌, ℕ, ap, length, rules, slice_set}
use Rattle.its_verify.proofs.SeriesLaws.{units_some}
use Rattle.its_verify.proofs.judge.Judge.units.Goals as goal

pub returns-clause-led : goal.returns-clause-led
returns-clause-led c =
    let room : c.args.slot < length c.args.self.now.dots = search rules in
    units_some c.args.self.now (record {
      plain = c.steps-made.new.self;
      dots = slice_set c.args.self.now.dots c.index.result 0;
      ended = c.args.self.now.ended;
    }) c.args.slot c.steps-made.result c.if-made-eq0.false c.steps-made.ensures.series
    (ap (λ (x : ℕ). slice_set c.args.self.now.dots x 0) c.index.ensures.value) room
