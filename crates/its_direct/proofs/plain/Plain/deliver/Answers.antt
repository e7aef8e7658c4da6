use Rattle.std.proofs.Common.{ap, sym, ◌∙◌, refl}
use Rattle.its_jobs.specs.Table.{superior_at}
use Rattle.its_direct.specs.declared.plain.Plain.{Plain}
use Rattle.its_direct.proofs.SlotLaws.{core_becomes}
use Rattle.its_direct.proofs.UserLaws.{delivery_machine, delivery_tidy, delivery_superior, delivery_place, delivery_step, still_touched, superior_apart, told_machine, told_slots}
use Rattle.its_direct.proofs.plain.Plain.deliver.Goals as goal

pub inform_superior-requires-clause-tidy : goal.inform_superior-requires-clause-tidy
inform_superior-requires-clause-tidy c =
    let a = core_becomes c.args.self.now _ _ _ c.deliver-stops.ensures.core c.deliver-stops.ensures.reserved refl (record { is = refl }) in
    delivery_tidy _ _ _ _ _ _ _ c.requires.job a c.put_job.ensures c.deliver-stops.ensures.job c.touch_none.ensures c.requires.tidy

pub returns-then-stops-clause-row : goal.returns-then-stops-clause-row
returns-then-stops-clause-row c =
    let a = core_becomes c.args.self.now _ _ _ c.deliver-stops.ensures.core c.deliver-stops.ensures.reserved refl (record { is = refl }) in
    let b = c.put_job.ensures in
    let is = c.deliver-stops.ensures.job in
    let e = c.touch_none.ensures in
    let up = delivery_superior _ _ _ _ _ _ _ c.requires.job a b is e in
    delivery_step c.args.self.now c.inform_superior.new.self c.args.slot c.args.job c.requires.job c.requires.runs c.requires.due _
    (sym c.deliver-stops.ensures.stops ∙ c.if-stops.true)
    (told_machine c.args.self.now c.touch_none.new.self c.inform_superior.new.self c.args.slot _ up
    (superior_apart c.args.self.now.jobs c.args.slot c.tree.ensures) (delivery_machine _ _ _ _ _ _ _ c.requires.job a b is e)
    c.inform_superior.ensures.row)
    (λ k. c.inform_superior.ensures.touched k ∙ told_slots k up)
    (c.inform_superior.ensures.place ∙ delivery_place _ _ _ _ _ _ _ c.requires.job a b is e)

pub returns-else-stops-clause-row : goal.returns-else-stops-clause-row
returns-else-stops-clause-row c =
    let a = core_becomes c.args.self.now _ _ _ c.deliver-stops.ensures.core c.deliver-stops.ensures.reserved refl (record { is = refl }) in
    let b = c.put_job.ensures in
    let is = c.deliver-stops.ensures.job in
    let e = c.touch_none.ensures in
    delivery_step c.args.self.now c.touch_none.new.self c.args.slot c.args.job c.requires.job c.requires.runs c.requires.due _
    (sym c.deliver-stops.ensures.stops ∙ c.if-stops.false)
    (delivery_machine _ _ _ _ _ _ _ c.requires.job a b is e)
    (still_touched c.touch_none.new.self.touched (superior_at c.args.self.now.jobs c.args.slot) (ap (λ (p : Plain). p.touched) e))
    (delivery_place _ _ _ _ _ _ _ c.requires.job a b is e)

pub returns-else-stops-clause-tidy : goal.returns-else-stops-clause-tidy
returns-else-stops-clause-tidy c =
    let a = core_becomes c.args.self.now _ _ _ c.deliver-stops.ensures.core c.deliver-stops.ensures.reserved refl (record { is = refl }) in
    delivery_tidy _ _ _ _ _ _ _ c.requires.job a c.put_job.ensures c.deliver-stops.ensures.job c.touch_none.ensures c.requires.tidy
