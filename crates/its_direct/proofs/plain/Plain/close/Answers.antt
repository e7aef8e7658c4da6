use Rattle.std.proofs.Common.{refl, sym}
use Rattle.its_shared.proofs.StandLaws.{writing_stands}
use Rattle.its_direct.proofs.ChannelLaws.{close_comes, begin_can, no_close, store_first}
use Rattle.its_direct.proofs.plain.Plain.close.Goals as goal

pub begin_close-requires : goal.begin_close-requires
begin_close-requires c =
    let p = c.args.self.now in
    let stands = writing_stands p.files p.jobs c.requires.tidy.across c.args.slot c.args.n c.in-Writing.draft (sym c.in-Writing.ensures) in
    record { draft = stands.draft; unmarked = c.requires.tidy.unmarked }

pub unreachable-requires : goal.unreachable-requires
unreachable-requires c =
    let p = c.args.self.now in
    begin_can p p c.args.slot c.args.n (rw c.number.ensures.value at c.number.ensures.below) c.requires.channel c.requires.tidy
    c.in-Writing.draft c.in-Writing.ensures c.seen.ensures.whole c.requires.closes c.in-Err.field-0 (rw c.number.ensures.value at c.in-Err.ensures.fault)

pub returns-in-Ok : goal.returns-in-Ok
returns-in-Ok c =
    let e = c.in-Ok.ensures in
    let h = c.help.ensures in
    let b = store_first c.args.self.now _ _ c.args.slot c.args.n _ _ (record { is = refl }) c.set_channel.ensures in
    let k = close_comes c.args.self.now c.set_channel.new.self c.args.slot c.args.n (rw c.number.ensures.value at c.number.ensures.below)
    c.requires.channel c.requires.tidy c.begin_close.new.self c.help.new.self c.in-Writing.draft b c.in-Writing.ensures
    (rw c.number.ensures.value at e.ok) e.plain e.entry e.words c.seen-in-Writing.ensures.whole h.made h.unmarked h.directory in
    record { row = k.row; tidy = k.tidy }

pub returns-in_default : goal.returns-in_default
returns-in_default c = absurd (no_close c.args.self.now c.args.slot c.args.n c.channel.result c.channel.ensures c.in_default.not-Writing c.requires.closes)
