use Rattle.std.proofs.Common.{refl, sym, ◌∙◌, inl, inr}
use Rattle.its_world.specs.Filed.{Blocked}
use Rattle.its_tick.proofs.BesideLaws.{all_beside}
use Rattle.its_tick.proofs.TickLaws.{state_ticked, pace_ticked, tick_licensed}
use Rattle.its_tick.proofs.WaitingLaws.{tick_blocked, pages_blocked, waits_blocked}
use Rattle.its_tick.proofs.ticks.tick.Goals as goal

-- a slot that is on a wait list
stands : (c : goal.Then-waits_on) → Blocked c.args.w.now c.args.slot
stands c = (c.waits_on.ensures.yes c.if-waits_on.true).stands

pub returns-then-waits_on-clause-state : goal.returns-then-waits_on-clause-state
returns-then-waits_on-clause-state c = λ k. state_ticked _ _ _ (tick_blocked c.args.w.now c.args.slot k (stands c))

pub returns-then-waits_on-clause-pace : goal.returns-then-waits_on-clause-pace
returns-then-waits_on-clause-pace c = λ k. pace_ticked _ _ _ (tick_blocked c.args.w.now c.args.slot k (stands c))

pub returns-then-waits_on-clause-licensed : goal.returns-then-waits_on-clause-licensed
returns-then-waits_on-clause-licensed c = λ k. tick_licensed c.args.w.now c.args.w.now c.args.slot _ k (tick_blocked c.args.w.now c.args.slot k (stands c))

pub returns-then-waits_on-clause-others : goal.returns-then-waits_on-clause-others
returns-then-waits_on-clause-others c = λ k. all_beside c.args.w.now c.args.w.now c.args.slot _ k (tick_blocked c.args.w.now c.args.slot k (stands c))

pub returns-then-waits_on-clause-pages : goal.returns-then-waits_on-clause-pages
returns-then-waits_on-clause-pages c = λ k. pages_blocked c.args.w.now c.args.slot k (stands c)

pub returns-then-waits_on-clause-kept : goal.returns-then-waits_on-clause-kept
returns-then-waits_on-clause-kept c = λ k. k

pub returns-then-waits_on-clause-list : goal.returns-then-waits_on-clause-list
returns-then-waits_on-clause-list c = λ r. (refl, refl)

pub returns-then-waits_on-clause-waits : goal.returns-then-waits_on-clause-waits
returns-then-waits_on-clause-waits c = λ h. ((λ e. stands c), (λ b. refl))

-- one that does not
pub go_on-requires : goal.go_on-requires
go_on-requires c = record {
  kept = elim c.requires.can [
    | inl k ↦ k
    | inr r ↦ absurd (c.waits_on.ensures.no c.if-waits_on.false r)
  ];
}

pub returns-clause-state : goal.returns-clause-state
returns-clause-state c = λ k. c.go_on.ensures.state

pub returns-clause-pace : goal.returns-clause-pace
returns-clause-pace c = λ k. c.go_on.ensures.pace

pub returns-clause-licensed : goal.returns-clause-licensed
returns-clause-licensed c = λ k. c.go_on.ensures.licensed

pub returns-clause-others : goal.returns-clause-others
returns-clause-others c = λ k. c.go_on.ensures.others

pub returns-clause-pages : goal.returns-clause-pages
returns-clause-pages c = λ k. c.go_on.ensures.pages

pub returns-clause-kept : goal.returns-clause-kept
returns-clause-kept c = λ k. c.go_on.ensures.kept

pub returns-clause-list : goal.returns-clause-list
returns-clause-list c = λ r. absurd (c.waits_on.ensures.no c.if-waits_on.false r)

pub returns-clause-waits : goal.returns-clause-waits
returns-clause-waits c = λ h. (
  λ e. elim c.requires.can [
    | inl k ↦ waits_blocked c.args.w.now c.args.slot k h (sym c.go_on.ensures.pace ∙ e)
    | inr r ↦ r.stands
  ],
  λ b. absurd (c.waits_on.ensures.no c.if-waits_on.false (record { waits = h; stands = b })),
)
