use Rattle.std.proofs.Common.{arith, subst}
use Rattle.its_direct.specs.Plain.{JobBecomes}
use Rattle.its_direct.proofs.ChannelLaws.{channel_becomes}
use Rattle.its_direct.proofs.plain.Plain.set_channel.Goals as goal

pub returns-in-Some : goal.returns-in-Some
returns-in-Some c = channel_becomes c.args.self.now _ c.args.slot c.args.n c.args.channel _ _ c.job.ensures c.in-Some.is (omega arith)
    (subst (JobBecomes c.args.self.now c.put_job.new.self c.args.slot) c.with_channel.ensures c.put_job.ensures)
