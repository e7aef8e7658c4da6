use Rattle.std.proofs.Common.{◌<◌, ℕ, ap, length, rules, slice_set}
use Rattle.its_verify.proofs.SeriesLaws.{parts_some}
use Rattle.its_verify.proofs.judge.Judge.parts.Goals as goal

pub returns-clause-led : goal.returns-clause-led
returns-clause-led c =
    let room : c.args.slot < length c.args.self.now.dots = search rules in
    parts_some c.args.self.now (record {
      plain = c.parts-made.new.self;
      dots = slice_set c.args.self.now.dots c.index.result 0;
      ended = c.args.self.now.ended;
    }) c.args.slot c.parts-made.result c.if-made-eq0.false c.parts-made.ensures.parts
    (ap (λ (x : ℕ). slice_set c.args.self.now.dots x 0) c.index.ensures.value) room
