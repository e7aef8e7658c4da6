use Rattle.its_direct.proofs.RestoringLaws.{sent_done, sent_room}
use Rattle.its_direct.proofs.plain.Plain.restore_sent.Goals as goal

pub returns-clause-done : goal.returns-clause-done
returns-clause-done c =
    let room = sent_room c.args.self.now c.args.l _ c.has_link.ensures c.if-not-has_link.false c.args.words.now _ c.words_waiting.ensures.count
    c.if-words_waiting-words-gt-LINK_WORDS.false in
    sent_done c.args.self.now c.args.l _ c.has_link.ensures c.if-not-has_link.false c.send_each.new.self c.touch_none.new.self c.args.words.now
    room c.send_each.ensures.row c.touch_none.ensures
