use Rattle.std.proofs.Common.{codes, subst, ◌∙◌, ap}
use Rattle.std.specs.Io.KnownBytes.{Appends}
use Rattle.its_top.specs.Counts.{count_line}
use Rattle.its_top.specs.Generating.{tally_text}
use Rattle.its_top.proofs.TallyLaws.{begun_then}
use Rattle.its_top.proofs.commands.generating.write_counts.Goals as goal

pub returns-in-Ok-clause-begun : goal.returns-in-Ok-clause-begun
returns-in-Ok-clause-begun g c =
    begun_then c.write_tally.result (count_line (codes "LINES") c.args.lines) (tally_text c.args.tally)
    (g.K.Sink.written c.args.out.now) (g.K.Sink.written c.write_all.new.out) (g.K.Sink.written c.write_tally.new.out)
    (subst (λ b. Appends (g.K.Sink.written c.args.out.now) (g.K.Sink.written c.write_all.new.out) b)
    (c.deref.ensures.0 ∙ c.count_line.ensures ∙ ap (count_line (codes "LINES")) c.from.ensures) c.in-Ok.ensures.all) c.write_tally.ensures.begun
