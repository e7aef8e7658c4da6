use Rattle.std.proofs.Common.{subst, sym}
use Rattle.its_records.specs.declared.jobs.Channel.{Channel}
use Rattle.its_shared.specs.Parts.{chan_of}
use Rattle.its_world.specs.World.{state_of}
use Rattle.its_saved.specs.Saving.{channel_lines}
use Rattle.its_saving.specs.Writable.{Stands}
use Rattle.its_saving.proofs.WritingLaws.{writes_at}
use Rattle.its_saving.proofs.channels.write_channel_at.Goals as goal

pub write_channel-requires : goal.write_channel-requires
write_channel-requires g c = record { stands = subst (Stands c.args.w.now.files) (sym c.channel.ensures) (c.requires.writable.channels c.args.s c.args.n) }

pub returns : goal.returns
returns g c = writes_at _ _ (λ (x : Channel). channel_lines (state_of c.args.w.now).raw c.args.s c.args.n (chan_of c.args.w.now.files x)) _ _ _ _ _
    c.channel.ensures c.write_channel.ensures
