use Rattle.std.proofs.Common.{rules, refl, ◌-◌}
use Rattle.its_session.specs.Events.{most_lines}
use Rattle.its_verify.specs.declared.verifier.Verifier.{Verifier}
use Rattle.its_verify.proofs.VerifyLaws.{judges_fail}
use Rattle.its_verify.proofs.walk.judge_transcript.Goals as goal

pub returns-clause-judged : goal.returns-clause-judged
returns-clause-judged g c =
    let t : Verifier = record {
      judge = c.in-Ok.judge;
      reader = record
          { texts = record (c.args.texts) { most = 1543 }; passed = 0; room = most_lines - c.args.texts.number };
      last = 95;
      room = c.new-lines.result;
    } in
    judges_fail c.in-Err.field-0 t c.args.texts c.args.session.items (g.S.Source.left c.args.src.now) (g.S.Source.left c.go.new.src)
    (search rules) (search rules) refl (search rules) refl (search rules) refl refl refl (search rules)
