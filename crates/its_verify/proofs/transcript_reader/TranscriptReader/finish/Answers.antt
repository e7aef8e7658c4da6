use Rattle.std.proofs.Common.{Ok, refl, subst, rules}
use Rattle.its_reader.specs.Texts.{ReadsText}
use Rattle.its_reader.specs.declared.lines.Next.{Next}
use Rattle.its_verify.proofs.TranscriptReaderLaws.{finish_line}
use Rattle.its_verify.proofs.transcript_reader.TranscriptReader.finish.Goals as goal

pub returns-in-Line-clause-ends : goal.returns-in-Line-clause-ends
returns-in-Line-clause-ends g c =
    finish_line c.args.self.now (record (c.args.self.now.texts) { most = 0 }) c.next.new.self _ _ _ refl
    (subst (λ (x : Next). ReadsText (Ok x) (record (c.args.self.now.texts) { most = 0 }) c.next.new.self (g.S.Source.left c.args.src.now)
    (g.S.Source.left c.next.new.src)) c.in-Line.is c.in_ok-next.ensures.reads)
    (search rules) (search rules) (search rules) refl c.requires.at_line
