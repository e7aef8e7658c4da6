use Rattle.std.proofs.Common.{ap, subst, sym, ◌∙◌, List}
use Rattle.its_word.specs.Stores.{first_fault}
use Rattle.its_word.specs.declared.plan.Store.{Store}
use Rattle.its_plain.specs.Machine.Change.{in_job}
use Rattle.its_plain.specs.Machine.{core_of}
use Rattle.its_plain.specs.Machine.Own.{with_stores}
use Rattle.its_direct.specs.Effects.{Becomes}
use Rattle.its_direct.specs.Plain.{machine_of}
use Rattle.its_direct.proofs.MovingLaws.{two_debts}
use Rattle.its_direct.proofs.plain.Plain.store_two.Goals as goal

pub store-requires-clause-can : goal.store-requires-clause-can
store-requires-clause-can c =
    ap (λ (ss : List Store). first_fault (core_of ((machine_of c.args.self.now).jobs c.args.slot)) ss)
    (sym (two_debts c.args.ask.now c.args.next c.args.left c.in-Some-Some.p c.in-Some-Some.k c.requires.inputs
    (sym c.place_of.ensures ∙ c.in-Some-Some.is-0) (sym c.place_of-2.ensures ∙ c.in-Some-Some.is-1)))
    ∙ c.requires.can

pub returns-in-Some-Some-clause-row : goal.returns-in-Some-Some-clause-row
returns-in-Some-Some-clause-row c =
    subst (λ (ss : List Store). Becomes c.args.self.now c.store.new.self (in_job (machine_of c.args.self.now) c.args.slot (with_stores ss)))
    (sym (two_debts c.args.ask.now c.args.next c.args.left c.in-Some-Some.p c.in-Some-Some.k c.requires.inputs
    (sym c.place_of.ensures ∙ c.in-Some-Some.is-0) (sym c.place_of-2.ensures ∙ c.in-Some-Some.is-1)))
    c.store.ensures.row
