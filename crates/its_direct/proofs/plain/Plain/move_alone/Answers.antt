use Rattle.its_direct.proofs.MovingLaws.{moved_kept, moved_row}
use Rattle.its_direct.proofs.PartLaws.{part_can}
use Rattle.its_direct.proofs.plain.Plain.move_alone.Goals as goal

pub move_one-requires-clause-carries : goal.move_one-requires-clause-carries
move_one-requires-clause-carries c =
    let can = part_can c.args.self.now c.args.slot c.args.ask.now _ _ _ c.requires.kept c.requires.at c.requires.decides in
    can.0

pub move_one-requires-clause-part : goal.move_one-requires-clause-part
move_one-requires-clause-part c =
    let can = part_can c.args.self.now c.args.slot c.args.ask.now _ _ _ c.requires.kept c.requires.at c.requires.decides in
    can.1

pub returns-clause-row : goal.returns-clause-row
returns-clause-row c =
    moved_row c.args.self.now c.move_one.new.self c.args.slot c.args.ask.now c.renew.new.ask c.args.moved.now.shift c.args.moved.now.held
    c.args.moved.now.next c.args.moved.now.left c.requires.kept c.requires.at
    c.requires.decides c.move_one.ensures.row c.renew.ensures

pub returns-clause-kept : goal.returns-clause-kept
returns-clause-kept c =
    moved_kept c.args.self.now c.move_one.new.self c.args.slot c.args.ask.now c.renew.new.ask c.args.moved.now.shift c.args.moved.now.held
    c.args.moved.now.next c.args.moved.now.left c.requires.kept c.requires.at
    c.requires.decides c.move_one.ensures.row c.renew.ensures c.requires.outside c.move_one.ensures.tidy
