use Rattle.std.proofs.Common.{Ok, refl, subst, rules}
use Rattle.its_reader.specs.Texts.{ReadsText}
use Rattle.its_reader.specs.declared.lines.Next.{Next}
use Rattle.its_verify.proofs.TranscriptReaderLaws.{read_line}
use Rattle.its_verify.proofs.transcript_reader.TranscriptReader.read.Goals as goal

pub returns-in-Line-clause-reads : goal.returns-in-Line-clause-reads
returns-in-Line-clause-reads g c =
    read_line c.args.self.now (record { texts = c.next.new.self; passed = c.args.self.now.passed; room = c.args.self.now.room }) _ _
    (subst (λ (x : Next). ReadsText (Ok x) c.args.self.now.texts c.next.new.self (g.S.Source.left c.args.src.now)
    (g.S.Source.left c.next.new.src)) c.in-Line.is c.in_ok-next.ensures.reads)
    (search rules) (search rules) (search rules) (search rules) refl refl c.requires.at_line
