use Rattle.std.proofs.Common.{refl}
use Rattle.its_direct.proofs.FileLaws.{made_row, made_tidy, store_becomes}
use Rattle.its_direct.proofs.plain.Plain.new_file.Goals as goal

pub returns-clause-row : goal.returns-clause-row
returns-clause-row c =
    let h = c.new_file.ensures in
    made_row c.args.self.now _ _ _ c.requires.tidy c.requires.few c.requires.fresh h.free
    (store_becomes c.args.self.now _ _ h.made refl) h.entry h.words h.directory

pub returns-clause-tidy : goal.returns-clause-tidy
returns-clause-tidy c =
    let h = c.new_file.ensures in
    made_tidy c.args.self.now _ _ _ c.requires.tidy c.requires.few c.requires.fresh h.free
    (store_becomes c.args.self.now _ _ h.made refl) h.entry h.words h.directory
