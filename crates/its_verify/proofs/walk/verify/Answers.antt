use Rattle.std.proofs.Common.{Ok, Err, ap, subst, sym, ◌∙◌}
use Rattle.std.proofs.lemmas.Result.{err_from_is_err_and}
use Rattle.its_verify.specs.Finds.{Found}
use Rattle.its_verify.specs.Keeping.{Keeps}
use Rattle.its_verify.proofs.VerifyLaws.{finds_beyond, finds_cut, finds_err, finds_long}
use Rattle.its_verify.proofs.OutLaws.{kept_out}
use Rattle.its_verify.proofs.walk.verify.Goals as goal

pub returns-in-Long-clause-finds : goal.returns-in-Long-clause-finds
returns-in-Long-clause-finds g c =
    finds_long c.in-Long.n c.new-texts.result c.keep.new.texts c.keep.new.session.items (g.S.Source.left c.args.src.now)
    (g.S.Source.left c.keep.new.src) (g.S.Source.left c.keep.new.src) c.new-texts.ensures.pending
    (subst (λ r. Keeps r c.new-texts.result c.keep.new.texts c.keep.new.session.items (g.S.Source.left c.args.src.now)
    (g.S.Source.left c.keep.new.src)) (c.in_ok-keep.was ∙ ap Ok c.in-Long.is) c.keep.ensures.keeps)

pub returns-in-Cut-clause-finds : goal.returns-in-Cut-clause-finds
returns-in-Cut-clause-finds g c =
    finds_cut c.in-Cut.n c.new-texts.result c.keep.new.texts c.keep.new.session.items (g.S.Source.left c.args.src.now)
    (g.S.Source.left c.keep.new.src) (g.S.Source.left c.keep.new.src) c.new-texts.ensures.pending
    (subst (λ r. Keeps r c.new-texts.result c.keep.new.texts c.keep.new.session.items (g.S.Source.left c.args.src.now)
    (g.S.Source.left c.keep.new.src)) (c.in_ok-keep.was ∙ ap Ok c.in-Cut.is) c.keep.ensures.keeps)

pub returns-in-Beyond-clause-finds : goal.returns-in-Beyond-clause-finds
returns-in-Beyond-clause-finds g c =
    finds_beyond c.new-texts.result c.keep.new.texts c.keep.new.session.items (g.S.Source.left c.args.src.now)
    (g.S.Source.left c.keep.new.src) (g.S.Source.left c.keep.new.src) c.new-texts.ensures.pending
    (subst (λ r. Keeps r c.new-texts.result c.keep.new.texts c.keep.new.session.items (g.S.Source.left c.args.src.now)
    (g.S.Source.left c.keep.new.src)) (c.in_ok-keep.was ∙ ap Ok c.in-Beyond.is) c.keep.ensures.keeps)

pub returns-in-Session-clause-input : goal.returns-in-Session-clause-input
returns-in-Session-clause-input g c =
    kept_out c.judge_transcript.result c.new-texts.result c.keep.new.texts c.keep.new.session.items (g.S.Source.left c.args.src.now)
    (g.S.Source.left c.keep.new.src) (g.S.Source.left c.judge_transcript.new.src)
    (subst (λ r. Keeps r c.new-texts.result c.keep.new.texts c.keep.new.session.items (g.S.Source.left c.args.src.now)
    (g.S.Source.left c.keep.new.src)) (c.in_ok-keep.was ∙ ap Ok c.in-Session.is) c.keep.ensures.keeps)
    c.judge_transcript.ensures.out

pub returns-in_err-keep-clause-finds : goal.returns-in_err-keep-clause-finds
returns-in_err-keep-clause-finds g c =
    let p = err_from_is_err_and c.from_residual.result c.from_residual.ensures.1 in
    let left = g.S.Source.left c.args.src.now in
    let rest = g.S.Source.left c.keep.new.src in
    subst (λ r. Found r left rest) (sym (p.1 ∙ ap Err p.2))
    (finds_err c.in_err-keep.field-0.0 c.new-texts.result c.keep.new.texts c.keep.new.session.items left rest c.new-texts.ensures.pending
    c.new-texts.ensures.number
    (subst (λ r. Keeps r c.new-texts.result c.keep.new.texts c.keep.new.session.items left rest) c.in_err-keep.was c.keep.ensures.keeps))
