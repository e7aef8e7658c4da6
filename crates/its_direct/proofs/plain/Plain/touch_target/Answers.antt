use Rattle.std.proofs.Common.{◌<◌, ℕ, Option, IfSome, sym, ap, ◌∙◌, subst}
use Rattle.its_word.specs.Limits.{slots}
use Rattle.its_plain.specs.Call.Decide.{listed}
use Rattle.its_plain.specs.Call.Footprint.{among}
use Rattle.its_direct.specs.declared.plain.Plain.{Plain}
use Rattle.its_direct.proofs.TouchLaws.{none_touched, one_touched}
use Rattle.its_direct.proofs.plain.Plain.touch_target.Goals as goal

pub returns-in-Some-clause-touched : goal.returns-in-Some-clause-touched
returns-in-Some-clause-touched c = λ k.
    one_touched c.touch.new.self.touched c.touch_none.new.self.touched c.in-Some.t
    (subst (λ (o : Option ℕ). IfSome o (λ t. t < slots)) c.in-Some.is c.requires)
    (ap (λ (p : Plain). p.touched) (rw c.new.ensures at c.touch.ensures)) (ap (λ (p : Plain). p.touched) c.touch_none.ensures) k
    ∙ ap (λ (o : Option ℕ). among k (listed o)) (sym c.in-Some.is)

pub returns-in_default-clause-touched : goal.returns-in_default-clause-touched
returns-in_default-clause-touched c = λ k.
    none_touched c.touch_none.new.self.touched (ap (λ (p : Plain). p.touched) c.touch_none.ensures) k
    ∙ ap (λ (o : Option ℕ). among k (listed o)) (sym c.in_default.is)
