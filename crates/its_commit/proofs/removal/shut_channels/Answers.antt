use Rattle.std.proofs.Common.{sym, ◌∙◌, refl}
use Rattle.its_jobs.specs.Table.{superior_at, in_tree}
use Rattle.its_commit.proofs.RemovalLaws.{shut_some, shut_none, shut_tidy}
use Rattle.its_commit.proofs.removal.shut_channels.Goals as goal

pub returns-in-Some-clause-row : goal.returns-in-Some-clause-row
returns-in-Some-clause-row c =
    shut_some (in_tree (superior_at c.args.w.now.jobs) c.args.root) c.args.w.now _ c.args.slot c.in-Some.job _
    (sym c.registers.ensures ∙ c.in-Some.is) refl c.leave_each.ensures c.put_registers.ensures

pub returns-in-Some-clause-tidy : goal.returns-in-Some-clause-tidy
returns-in-Some-clause-tidy c =
    shut_tidy (in_tree (superior_at c.args.w.now.jobs) c.args.root) c.args.w.now _ c.args.slot c.in-Some.job _
    (sym c.registers.ensures ∙ c.in-Some.is) c.leave_each.ensures c.put_registers.ensures c.requires.tidy

pub returns-in_default-clause-row : goal.returns-in_default-clause-row
returns-in_default-clause-row c = shut_none (in_tree (superior_at c.args.w.now.jobs) c.args.root) c.args.w.now c.args.slot
    (sym c.registers.ensures ∙ c.in_default.is)
