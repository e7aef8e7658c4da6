use Rattle.std.specs.Prelude.{false, is_some, refl, true}
use Rattle.std.proofs.Common.{◌∙◌, ap}
use Rattle.call_basic.specs.Parts.{going}
use Rattle.its_tick.proofs.ByteLaws.{can_make, moved_pages, pages_still, part_carried, part_pages, still_framed}
use Rattle.its_tick.proofs.PartLaws.{part_awake, part_decides, part_makes, part_reach, part_readies}
use Rattle.its_tick.proofs.TrialLaws.{stands_job, trial_made, trial_pages}
use Rattle.its_tick.proofs.DueLaws.{found_due}
use Rattle.its_tick.proofs.bytes.moves.Goals as goal

pub carry_part-requires-clause-awake : goal.carry_part-requires-clause-awake
carry_part-requires-clause-awake c = part_awake c.args.w.now c.args.slot _ _ _ _ c.standing.ensures c.in-Some.is c.part.ensures.name

pub carry_part-requires-clause-ready : goal.carry_part-requires-clause-ready
carry_part-requires-clause-ready c =
    can_make _ c.in-Some.part.moved _ _ c.change_of.ensures
    (part_makes c.args.w.now c.args.slot _ _ _ _ c.standing.ensures c.in-Some.is c.requires.kept c.requires.stands c.requires.clear
    c.part.ensures.unmarked c.part.ensures.alone c.part.ensures.goes)

pub returns-in-Some-clause-carried : goal.returns-in-Some-clause-carried
returns-in-Some-clause-carried c =
    let readies = part_readies c.args.w.now c.args.slot _ _ _ _ c.standing.ensures c.in-Some.is c.part.ensures.unmarked c.part.ensures.alone in
    let decides = part_decides c.args.w.now c.args.slot _ _ _ _ c.standing.ensures c.in-Some.is c.part.ensures.goes in
    let carried = part_carried c.args.w.now c.carry_part.new.w c.args.slot _ c.in-Some.part c.change_of.ensures c.carry_part.ensures.row in
    let pages = part_pages c.args.w.now c.carry_part.new.w c.args.slot _ c.in-Some.part.moved c.change_of.ensures c.carry_part.ensures.pages in
    let same = pages ∙ moved_pages c.in-Some.part.moved c.args.slot _ _ in
    record {
      row = trial_made c.args.w.now c.args.w.now c.args.slot c.requires.kept c.requires.stands c.requires.clear readies c.carry_part.new.w
          (going c.in-Some.part) _ decides carried refl;
      frame = still_framed c.args.w.now c.carry_part.new.w c.args.slot c.in-Some.part c.requires.stands carried;
      pages = same;
      still = pages_still c.args.w.now c.carry_part.new.w c.args.slot same
          (trial_pages c.args.w.now c.args.w.now c.args.slot c.requires.kept c.requires.stands c.requires.clear readies c.carry_part.new.w
          (going c.in-Some.part) decides
          (part_reach c.args.w.now c.args.slot _ _ _ _ c.standing.ensures c.in-Some.is c.part.ensures.alone) pages);
      tidy = c.carry_part.ensures.tidy;
    }

pub returns-in-Some-clause-due : goal.returns-in-Some-clause-due
returns-in-Some-clause-due c =
    found_due c.args.w.now c.args.slot _ _ c.part.result true (ap is_some c.in-Some.is) c.requires.stands
    (stands_job c.args.w.now c.args.slot c.requires.kept.sound c.requires.stands) c.standing.ensures
    c.part.ensures.next

pub returns-in-None-clause-due : goal.returns-in-None-clause-due
returns-in-None-clause-due c =
    found_due c.args.w.now c.args.slot _ _ c.part.result false (ap is_some c.in-None.is) c.requires.stands
    (stands_job c.args.w.now c.args.slot c.requires.kept.sound c.requires.stands) c.standing.ensures
    c.part.ensures.next
