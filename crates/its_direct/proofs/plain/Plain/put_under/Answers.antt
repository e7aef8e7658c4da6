use Rattle.std.specs.Prelude.{Some}
use Rattle.std.proofs.Common.{refl, sym, ◌∙◌}
use Rattle.its_word.specs.Limits.{slots}
use Rattle.its_records.specs.Tree.{climbs_to}
use Rattle.its_direct.proofs.ChannelLaws.{has_job}
use Rattle.its_direct.proofs.EffectLaws.{has_own}
use Rattle.its_direct.proofs.RemovalLaws.{superiors_are}
use Rattle.its_direct.proofs.RestoringLaws.{under_row, under_tidy}
use Rattle.its_direct.proofs.plain.Plain.put_under.Goals as goal

pub set_superior-requires : goal.set_superior-requires
set_superior-requires c =
    let p = c.args.self.now in
    let up = superiors_are p c.tree.ensures in
    record {
      job = has_job p c.args.s c.requires.job;
      standing = has_job p c.args.t c.requires.above;
      none = (λ i. sym up i c.args.s) ∙ c.requires.none;
      apart = (λ i. climbs_to (sym up i) c.args.s slots (Some c.args.t)) ∙ c.requires.apart;
    }

pub returns-clause-row : goal.returns-clause-row
returns-clause-row c =
    let i = has_own c.args.self.now c.args.s c.requires.job in
    under_row c.args.self.now _ c.args.s c.args.t i.0 i.1 c.set_superior.ensures.superior c.set_superior.ensures.jobs refl

pub returns-clause-tidy : goal.returns-clause-tidy
returns-clause-tidy c =
    let i = has_own c.args.self.now c.args.s c.requires.job in
    under_tidy c.args.self.now _ c.args.s c.args.t i.0 i.1 c.set_superior.ensures.superior c.set_superior.ensures.jobs refl c.requires.tidy
