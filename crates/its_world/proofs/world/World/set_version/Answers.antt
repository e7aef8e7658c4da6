use Rattle.std.proofs.Common.{refl, ap}
use Rattle.its_jobs.specs.Table.{job_at}
use Rattle.its_world.proofs.SymbolLaws.{version_becomes}
use Rattle.its_world.proofs.world.World.set_version.Goals as goal

pub returns : goal.returns
returns c =
    version_becomes c.args.self.now _ c.args.v (record { each = λ k. ap (λ t. job_at t k) c.set_limit.ensures })
    (ap (λ t. t.superiors) c.set_limit.ensures) refl
