use Rattle.std.specs.Prelude.{None}
use Rattle.std.proofs.Common.{refl}
use Rattle.its_direct.proofs.LoadLaws.{made_machine_at, made_tidy_at}
use Rattle.its_direct.proofs.RestoringLaws.{no_superior}
use Rattle.its_direct.proofs.plain.Plain.place_job.Goals as goal

pub returns-clause-made : goal.returns-clause-made
returns-clause-made c =
    let h = c.create_at.ensures in
    let up = no_superior c.args.self.now.jobs c.create_at.new.self c.args.s c.tree.ensures c.requires.empty h.superiors in
    made_machine_at c.args.self.now _ c.args.s c.args.u c.args.j None c.args.console c.requires.tidy c.requires.empty h.job up refl (record { is = refl })

pub returns-clause-tidy : goal.returns-clause-tidy
returns-clause-tidy c =
    let h = c.create_at.ensures in
    let up = no_superior c.args.self.now.jobs c.create_at.new.self c.args.s c.tree.ensures c.requires.empty h.superiors in
    made_tidy_at c.args.self.now _ c.args.s c.args.u c.args.j None c.args.console c.requires.tidy c.requires.empty h.job up refl (record { is = refl })
