use Rattle.std.proofs.Common.{arith}
use Rattle.its_records.specs.declared.session.Refusal.TheVariants as refusals
use Rattle.its_world.specs.World.{state_of}
use Rattle.its_monitor.proofs.LinkLineLaws.{sent_can, sent_full, sent_rejoins, sent_unfit}
use Rattle.its_monitor.proofs.RestoresLaws.{link_kept, link_plain, link_refused}
use Rattle.its_monitor.proofs.monitor.Monitor.send_words.Goals as goal

pub returns-then-not-has_link-clause-refused : goal.returns-then-not-has_link-clause-refused
returns-then-not-has_link-clause-refused c =
    let a = c.args in
    link_refused _ (sent_rejoins a.l a.words.now) (state_of a.self.now.world) refusals.Unfit
    (sent_unfit a.self.now.world a.l a.words.now _ c.has_link.ensures c.if-not-has_link.true)

pub returns-then-words_waiting-words-gt-LINK_WORDS-clause-refused : goal.returns-then-words_waiting-words-gt-LINK_WORDS-clause-refused
returns-then-words_waiting-words-gt-LINK_WORDS-clause-refused c =
    let a = c.args in
    let more = c.if-words_waiting-words-gt-LINK_WORDS.true in
    link_refused _ (sent_rejoins a.l a.words.now) (state_of a.self.now.world) refusals.Full
    (sent_full a.self.now.world a.l a.words.now _ c.has_link.ensures c.if-not-has_link.false c.words_waiting.result c.words_waiting.ensures.count
    (omega arith))

pub send_all-requires-clause-can : goal.send_all-requires-clause-can
send_all-requires-clause-can c =
    let a = c.args in
    let less = c.if-words_waiting-words-gt-LINK_WORDS.false in
    sent_can a.self.now.world a.l a.words.now _ c.has_link.ensures c.if-not-has_link.false c.words_waiting.result c.words_waiting.ensures.count
    (omega arith)

pub returns-clause-plain : goal.returns-clause-plain
returns-clause-plain c =
    let a = c.args in
    link_plain _ (sent_rejoins a.l a.words.now) a.self.now.world c.send_all.new.w c.send_all.ensures.done

pub returns-clause-kept : goal.returns-clause-kept
returns-clause-kept c =
    let a = c.args in
    link_kept _ (sent_rejoins a.l a.words.now) a.self.now.world c.send_all.new.w c.send_all.ensures.done c.requires.kept c.send_all.ensures.tidy
