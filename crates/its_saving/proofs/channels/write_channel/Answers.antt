use Rattle.std.proofs.Common.{refl, subst, sym}
use Rattle.its_records.specs.declared.jobs.Channel.TheVariants as channels
use Rattle.its_records.specs.declared.jobs.Channel.{Channel}
use Rattle.its_shared.specs.Parts.{chan_of}
use Rattle.its_world.specs.World.{state_of}
use Rattle.its_saved.specs.Saving.{channel_lines}
use Rattle.its_saving.specs.Writable.{Stands}
use Rattle.its_saving.proofs.WritingLaws.{none_at, writes_at}
use Rattle.its_saving.proofs.channels.write_channel.Goals as goal

pub returns-in-Closed : goal.returns-in-Closed
returns-in-Closed g c = none_at _ _ (λ (x : Channel). channel_lines (state_of c.args.w.now).raw c.args.s c.args.n (chan_of c.args.w.now.files x)) _ _
    channels.Closed _ (sym c.in-Closed.is) refl

pub returns-in-TtyIn : goal.returns-in-TtyIn
returns-in-TtyIn g c = writes_at _ _ (λ (x : Channel). channel_lines (state_of c.args.w.now).raw c.args.s c.args.n (chan_of c.args.w.now.files x)) _
    _ _ channels.TtyIn _ (sym c.in-TtyIn.is) c.write_tty.ensures

pub returns-in-TtyOut : goal.returns-in-TtyOut
returns-in-TtyOut g c = writes_at _ _ (λ (x : Channel). channel_lines (state_of c.args.w.now).raw c.args.s c.args.n (chan_of c.args.w.now.files x)) _
    _ _ channels.TtyOut _ (sym c.in-TtyOut.is) c.write_tty-in-TtyOut.ensures

pub write_disk-requires : goal.write_disk-requires
write_disk-requires g c = record { some = subst (Stands c.args.w.now.files) c.in-Reading.is c.requires.stands }

pub returns-in-Reading : goal.returns-in-Reading
returns-in-Reading g c = writes_at _ _ (λ (x : Channel). channel_lines (state_of c.args.w.now).raw c.args.s c.args.n (chan_of c.args.w.now.files x))
    _ _ _ (channels.Reading c.in-Reading.file c.in-Reading.at) _ (sym c.in-Reading.is) c.write_disk.ensures

pub write_draft-requires : goal.write_draft-requires
write_draft-requires g c = record { some = subst (Stands c.args.w.now.files) c.in-Writing.is c.requires.stands }

pub returns-in-Writing : goal.returns-in-Writing
returns-in-Writing g c = writes_at _ _ (λ (x : Channel). channel_lines (state_of c.args.w.now).raw c.args.s c.args.n (chan_of c.args.w.now.files x))
    _ _ _ (channels.Writing c.in-Writing.draft) _ (sym c.in-Writing.is) c.write_draft.ensures

pub write_usr-requires : goal.write_usr-requires
write_usr-requires g c = record { inferior = subst (Stands c.args.w.now.files) c.in-Usr.is c.requires.stands }

pub returns-in-Usr : goal.returns-in-Usr
returns-in-Usr g c = writes_at _ _ (λ (x : Channel). channel_lines (state_of c.args.w.now).raw c.args.s c.args.n (chan_of c.args.w.now.files x)) _ _
    _ (channels.Usr c.in-Usr.slot c.in-Usr.write c.in-Usr.at) _ (sym c.in-Usr.is) c.write_usr.ensures

pub returns-in-Link : goal.returns-in-Link
returns-in-Link g c = writes_at _ _ (λ (x : Channel). channel_lines (state_of c.args.w.now).raw c.args.s c.args.n (chan_of c.args.w.now.files x)) _ _
    _ (channels.Link c.in-Link.link c.in-Link.write) _ (sym c.in-Link.is) c.write_join.ensures
