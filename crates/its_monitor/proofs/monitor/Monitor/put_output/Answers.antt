use Rattle.std.specs.Prelude.{true}
use Rattle.its_monitor.proofs.ByteLineLaws.{bytes_land, bytes_plain, bytes_kept, bytes_full, bytes_room}
use Rattle.its_monitor.proofs.monitor.Monitor.put_output.Goals as goal

pub returns-then-not-fits_output-clause-refused : goal.returns-then-not-fits_output-clause-refused
returns-then-not-fits_output-clause-refused c = bytes_full c.args.self.now.world c.args.c true c.args.bytes.now _ c.fits_output.ensures
    c.if-not-fits_output.true

pub put_all-requires-clause-room : goal.put_all-requires-clause-room
put_all-requires-clause-room c = bytes_room c.args.self.now.world c.args.c true c.args.bytes.now _ c.fits_output.ensures c.if-not-fits_output.false

pub returns-clause-done : goal.returns-clause-done
returns-clause-done c = bytes_land c.args.self.now.world c.put_all.new.w c.args.c true c.args.bytes.now _ c.fits_output.ensures
    c.if-not-fits_output.false c.put_all.ensures.done

pub returns-clause-plain : goal.returns-clause-plain
returns-clause-plain c = bytes_plain c.args.self.now.world c.put_all.new.w c.args.c true c.args.bytes.now _ c.fits_output.ensures
    c.if-not-fits_output.false c.put_all.ensures.done

pub returns-clause-kept : goal.returns-clause-kept
returns-clause-kept c = bytes_kept c.args.self.now.world c.put_all.new.w c.args.c true c.args.bytes.now _ c.fits_output.ensures
    c.if-not-fits_output.false c.put_all.ensures.done c.requires.kept c.put_all.ensures.tidy
