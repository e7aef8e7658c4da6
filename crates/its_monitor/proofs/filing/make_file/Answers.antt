use Rattle.std.proofs.Common.{refl}
use Rattle.its_monitor.proofs.FileLaws.{made_lands, made_tidy}
use Rattle.its_monitor.proofs.filing.make_file.Goals as goal

pub returns-clause-done : goal.returns-clause-done
returns-clause-done c =
    let h = c.new_file.ensures in
    made_lands c.args.w.now _ _ c.args.d c.args.x c.args.y c.requires.kept c.requires.unmarked c.requires.few c.requires.fresh h.free h.made
    h.entry h.words h.directory (record { is = refl })

pub returns-clause-tidy : goal.returns-clause-tidy
returns-clause-tidy c =
    let h = c.new_file.ensures in
    made_tidy c.args.w.now _ _ c.args.d c.args.x c.args.y c.requires.kept c.requires.unmarked c.requires.few c.requires.fresh h.free h.made
    h.entry h.words h.directory (record { is = refl })
