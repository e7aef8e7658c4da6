use Rattle.std.proofs.Common.{Some, IfSome, length, ◌≡◌, sym, ap, ◌∙◌, subst}
use Rattle.its_frame.specs.declared.decision.Decision.{Decision}
use Rattle.its_plain.specs.Call.Arguments.{with_new_values}
use Rattle.its_stepped.specs.Commit.{effects_on, after_commit, after_going_on}
use Rattle.its_stepped.specs.State.{ending}
use Rattle.its_world.specs.World.{state_of, frame_at, FrameBecomes}
use Rattle.its_commit.specs.Pages.{all_pages_changed, pages_carried}
use Rattle.its_commit.specs.Carried.{standing_of, Endable}
use Rattle.its_commit.proofs.CommittingLaws.{ready_for, ends_built, ends_room, whole_part, stands_kept, room_kept, wait_committed, goes_committed, ends_committed, gone_committed, owed_at}
use Rattle.its_commit.proofs.committing.carry_out.Goals as goal

pub go_on-requires-clause-stands : goal.go_on-requires-clause-stands
go_on-requires-clause-stands c =
    stands_kept c.args.w.now c.apply.new.w c.args.slot c.in-Goes.changes.items
    (c.apply.ensures.row ∙ ap (λ cs. effects_on cs c.args.slot (state_of c.args.w.now)) c.deref.ensures.0)
    (whole_part _ c.requires.stands (ready_for _ _ _ _ _ c.in-Goes.is c.requires.ready)) c.requires.stands

pub end-requires-clause-stands : goal.end-requires-clause-stands
end-requires-clause-stands c =
    stands_kept c.args.w.now c.apply-in-Ends.new.w c.args.slot c.in-Ends.changes.items
    (c.apply-in-Ends.ensures.row ∙ ap (λ cs. effects_on cs c.args.slot (state_of c.args.w.now)) c.deref-in-Ends.ensures.0)
    (ends_built _ _ _ _ _ c.requires.stands (ready_for _ _ _ _ _ c.in-Ends.is c.requires.ready)) c.requires.stands

pub end-requires-clause-room : goal.end-requires-clause-room
end-requires-clause-room c =
    subst (λ ss. IfSome (standing_of (frame_at c.apply-in-Ends.new.w.frames.items c.args.slot))
    (λ f. Endable (state_of c.apply-in-Ends.new.w) c.args.slot f (length ss))) (sym c.deref-in-Ends-2.ensures.0)
    (room_kept c.args.w.now c.apply-in-Ends.new.w c.args.slot c.in-Ends.changes.items _
    (c.apply-in-Ends.ensures.row ∙ ap (λ cs. effects_on cs c.args.slot (state_of c.args.w.now)) c.deref-in-Ends.ensures.0)
    (ends_built _ _ _ _ _ c.requires.stands (ready_for _ _ _ _ _ c.in-Ends.is c.requires.ready))
    (ends_room _ _ _ _ _ (ready_for _ _ _ _ _ c.in-Ends.is c.requires.ready)))

pub returns-in-Waits-clause-row : goal.returns-in-Waits-clause-row
returns-in-Waits-clause-row c =
    subst (λ (d : Decision). IfSome (standing_of (frame_at c.args.w.now.frames.items c.args.slot))
    (λ f. state_of c.wait.new.w ≡ after_commit (state_of c.args.w.now) c.args.slot f.site f.ask f.owes d)) (sym c.in-Waits.is)
    (wait_committed c.args.w.now c.wait.new.w c.args.slot c.in-Waits.field-0 c.requires.job c.wait.ensures.row)

pub returns-in-Goes-clause-row : goal.returns-in-Goes-clause-row
returns-in-Goes-clause-row c =
    subst (λ (d : Decision). IfSome (standing_of (frame_at c.args.w.now.frames.items c.args.slot))
    (λ f. state_of c.go_on.new.w ≡ after_commit (state_of c.args.w.now) c.args.slot f.site f.ask f.owes d)) (sym c.in-Goes.is)
    (goes_committed c.args.w.now c.apply.new.w c.go_on.new.w c.args.slot c.in-Goes.changes.items c.in-Goes.held c.in-Goes.values.items
    (c.apply.ensures.row ∙ ap (λ cs. effects_on cs c.args.slot (state_of c.args.w.now)) c.deref.ensures.0)
    (whole_part _ c.requires.stands (ready_for _ _ _ _ _ c.in-Goes.is c.requires.ready)) c.requires.job
    (subst (λ vs. IfSome (standing_of (frame_at c.apply.new.w.frames.items c.args.slot))
    (λ f. FrameBecomes c.apply.new.w c.go_on.new.w c.args.slot
    (Some (after_going_on f.site (with_new_values f.ask vs) (length vs) c.in-Goes.held)))) c.deref-in-Goes.ensures.0 c.go_on.ensures.row))

pub returns-in-Ends-clause-row : goal.returns-in-Ends-clause-row
returns-in-Ends-clause-row c =
    subst (λ (d : Decision). IfSome (standing_of (frame_at c.args.w.now.frames.items c.args.slot))
    (λ f. state_of c.end.new.w ≡ after_commit (state_of c.args.w.now) c.args.slot f.site f.ask f.owes d)) (sym c.in-Ends.is)
    (ends_committed c.args.w.now c.apply-in-Ends.new.w c.end.new.w c.args.slot c.in-Ends.changes.items c.in-Ends.stores.items c.in-Ends.exit
    (c.apply-in-Ends.ensures.row ∙ ap (λ cs. effects_on cs c.args.slot (state_of c.args.w.now)) c.deref-in-Ends.ensures.0)
    (ends_built _ _ _ _ _ c.requires.stands (ready_for _ _ _ _ _ c.in-Ends.is c.requires.ready)) c.requires.job
    (subst (λ ss. IfSome (standing_of (frame_at c.apply-in-Ends.new.w.frames.items c.args.slot))
    (λ f. FrameBecomes c.apply-in-Ends.new.w c.end.new.w c.args.slot
    (Some (ending f.site f.ask (owed_at (state_of c.apply-in-Ends.new.w) c.args.slot ss c.in-Ends.exit f)))))
    c.deref-in-Ends-2.ensures.0 c.end.ensures.row))

pub returns-in-Gone-clause-row : goal.returns-in-Gone-clause-row
returns-in-Gone-clause-row c =
    subst (λ (d : Decision). IfSome (standing_of (frame_at c.args.w.now.frames.items c.args.slot))
    (λ f. state_of c.apply-in-Gone.new.w ≡ after_commit (state_of c.args.w.now) c.args.slot f.site f.ask f.owes d)) (sym c.in-Gone.is)
    (gone_committed c.args.w.now c.remove_tree.new.w c.apply-in-Gone.new.w c.args.slot c.in-Gone.changes.items (c.remove_tree.ensures.removed c.args.slot)
    (c.apply-in-Gone.ensures.row ∙ ap (λ cs. effects_on cs c.args.slot (state_of c.remove_tree.new.w)) c.deref-in-Gone.ensures.0))

pub returns-in-Goes-clause-pages : goal.returns-in-Goes-clause-pages
returns-in-Goes-clause-pages c =
    c.go_on.ensures.pages ∙ c.apply.ensures.pages
    ∙ ap (λ cs. all_pages_changed cs c.args.slot (state_of c.args.w.now) c.args.w.now.core.frames) c.deref.ensures.0
    ∙ ap (λ (d : Decision). pages_carried d c.args.slot (state_of c.args.w.now) c.args.w.now.core.frames) (sym c.in-Goes.is)

pub returns-in-Ends-clause-pages : goal.returns-in-Ends-clause-pages
returns-in-Ends-clause-pages c =
    c.end.ensures.pages ∙ c.apply-in-Ends.ensures.pages
    ∙ ap (λ cs. all_pages_changed cs c.args.slot (state_of c.args.w.now) c.args.w.now.core.frames) c.deref-in-Ends.ensures.0
    ∙ ap (λ (d : Decision). pages_carried d c.args.slot (state_of c.args.w.now) c.args.w.now.core.frames) (sym c.in-Ends.is)

pub returns-in-Gone-clause-pages : goal.returns-in-Gone-clause-pages
returns-in-Gone-clause-pages c =
    c.apply-in-Gone.ensures.pages
    ∙ ap (λ cs. all_pages_changed cs c.args.slot (state_of c.remove_tree.new.w) c.remove_tree.new.w.core.frames) c.deref-in-Gone.ensures.0
    ∙ (λ t. all_pages_changed c.in-Gone.changes.items c.args.slot (c.remove_tree.ensures.removed c.args.slot t) (c.remove_tree.ensures.frames t))
    ∙ ap (λ (d : Decision). pages_carried d c.args.slot (state_of c.args.w.now) c.args.w.now.core.frames) (sym c.in-Gone.is)
