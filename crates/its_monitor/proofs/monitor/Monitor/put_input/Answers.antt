use Rattle.std.specs.Prelude.{false}
use Rattle.its_monitor.proofs.ByteLineLaws.{bytes_land, bytes_plain, bytes_kept, bytes_full, bytes_room}
use Rattle.its_monitor.proofs.monitor.Monitor.put_input.Goals as goal

pub returns-then-not-fits_input-clause-refused : goal.returns-then-not-fits_input-clause-refused
returns-then-not-fits_input-clause-refused c = bytes_full c.args.self.now.world c.args.c false c.args.bytes.now _ c.fits_input.ensures
    c.if-not-fits_input.true

pub type_all-requires-clause-room : goal.type_all-requires-clause-room
type_all-requires-clause-room c = bytes_room c.args.self.now.world c.args.c false c.args.bytes.now _ c.fits_input.ensures c.if-not-fits_input.false

pub returns-clause-done : goal.returns-clause-done
returns-clause-done c = bytes_land c.args.self.now.world c.type_all.new.w c.args.c false c.args.bytes.now _ c.fits_input.ensures
    c.if-not-fits_input.false c.type_all.ensures.done

pub returns-clause-plain : goal.returns-clause-plain
returns-clause-plain c = bytes_plain c.args.self.now.world c.type_all.new.w c.args.c false c.args.bytes.now _ c.fits_input.ensures
    c.if-not-fits_input.false c.type_all.ensures.done

pub returns-clause-kept : goal.returns-clause-kept
returns-clause-kept c = bytes_kept c.args.self.now.world c.type_all.new.w c.args.c false c.args.bytes.now _ c.fits_input.ensures
    c.if-not-fits_input.false c.type_all.ensures.done c.requires.kept c.type_all.ensures.tidy
