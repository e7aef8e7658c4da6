use Rattle.std.proofs.Common.{false, refl, replicate}
use Rattle.its_direct.proofs.ToldLaws.{kept_starts}
use Rattle.its_verify.proofs.JudgeStateLaws.{no_dots, sure_is}
use Rattle.its_verify.proofs.judge.Judge.open.Goals as goal

pub returns-clause-dots : goal.returns-clause-dots
returns-clause-dots c = no_dots (replicate 96 0) refl

pub returns-clause-sure : goal.returns-clause-sure
returns-clause-sure c = sure_is (record { plain = c.in_ok-plain.plain; dots = replicate 96 0; ended = false })
    c.in_ok-plain.plain (kept_starts c.in_ok-plain.plain c.in_ok-plain.ensures.tidy c.in_ok-plain.ensures.machine c.in_ok-plain.ensures.place) refl
