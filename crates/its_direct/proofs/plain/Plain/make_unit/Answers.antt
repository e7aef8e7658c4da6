use Rattle.std.proofs.Common.{ap}
use Rattle.its_direct.specs.declared.plain.Plain.{Plain}
use Rattle.its_direct.proofs.SeriesLaws.{none_made}
use Rattle.its_direct.proofs.UserLaws.{calls_at}
use Rattle.its_direct.proofs.plain.Plain.make_unit.Goals as goal

pub returns-else-units-eq1-clause-row : goal.returns-else-units-eq1-clause-row
returns-else-units-eq1-clause-row c =
    let same = c.units.ensures.same (none_made c.units.result c.units.ensures.few c.if-units-eq1.false) in (
      calls_at c.args.self.now c.units.new.self.core c.args.slot c.args.job c.site.result c.requires.job c.requires.runs c.requires.quiet
          (ap (λ (p : Plain). p.core) same) c.site.ensures,
      same,
    )
