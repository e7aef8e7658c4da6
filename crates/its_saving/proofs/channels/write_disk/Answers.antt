use Rattle.its_files.specs.Files.{names_at}
use Rattle.its_saved.specs.StateLine as state
use Rattle.its_saving.proofs.WritingLaws.{writes_line}
use Rattle.its_saving.proofs.channels.write_disk.Goals as goal

pub returns : goal.returns
returns g c = writes_line _ _ _ _ _ (state.Disk c.args.s c.args.n (names_at c.args.files.now c.args.file) c.args.at) _ c.disk_of.ensures
    c.write_line.ensures
