use Rattle.std.proofs.Common.{Ok, subst, rules}
use Rattle.its_reader.specs.Texts.{ReadsText}
use Rattle.its_reader.specs.declared.lines.Next.{Next}
use Rattle.its_verify.proofs.KeepLaws.{kept_on, keeps_lacking, keeps_session}
use Rattle.its_verify.proofs.keeping.keep.Goals as goal

pub returns-then-is_end_line-clause-keeps : goal.returns-then-is_end_line-clause-keeps
returns-then-is_end_line-clause-keeps g c =
    keeps_session c.args.texts.now c.loop-session.texts c.next.new.self c.loop-session.session.items _ _ _ _ c.is_end_line.result
    c.loop-session.invariant.so_far c.loop-session.invariant.ready
    (subst (λ (x : Next). ReadsText (Ok x) c.loop-session.texts c.next.new.self (g.S.Source.left c.loop-session.src)
    (g.S.Source.left c.next.new.src)) c.in-Ok-Line.field-0-is c.in-Ok-Line.ensures.reads)
    (search rules) (search rules) (search rules) (search rules) (search rules) (search rules) (search rules) (search rules) (search rules)

pub returns-then-is_err-clause-keeps : goal.returns-then-is_err-clause-keeps
returns-then-is_err-clause-keeps g c =
    keeps_lacking c.args.texts.now c.loop-session.texts c.next.new.self c.loop-session.session.items _ _ _ _ c.loop-session.invariant.so_far
    c.loop-session.invariant.ready
    (subst (λ (x : Next). ReadsText (Ok x) c.loop-session.texts c.next.new.self (g.S.Source.left c.loop-session.src)
    (g.S.Source.left c.next.new.src)) c.in-Ok-Line.field-0-is c.in-Ok-Line.ensures.reads)
    (search rules) (search rules) (search rules) (search rules) (search rules)

pub loop-session-preserved : goal.loop-session-preserved
loop-session-preserved g c = record {
  ready = search rules;
  onward = search rules;
  few = search rules;
  most = search rules;
  so_far = kept_on c.args.texts.now c.loop-session.texts c.next.new.self c.loop-session.session.items _ _ _ _ c.is_end_line.result
      c.loop-session.invariant.so_far
      (subst (λ (x : Next). ReadsText (Ok x) c.loop-session.texts c.next.new.self (g.S.Source.left c.loop-session.src)
      (g.S.Source.left c.next.new.src)) c.in-Ok-Line.field-0-is c.in-Ok-Line.ensures.reads)
      (search rules) (search rules) (search rules) (search rules) (search rules) (search rules) (search rules);
  unfailed = search rules;
}
