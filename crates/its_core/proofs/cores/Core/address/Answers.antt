use Rattle.std.proofs.Common.{◌≡◌, ◌+◌, true, false, None, Some, Ok, Err, arith, sym, ◌∙◌, ap, length, length-append}
use Rattle.its_word.specs.Address.{is_indirect, index_places}
use Rattle.its_word.specs.Core.{word_at}
use Rattle.its_word.specs.declared.access.Fault.TheVariants.{Mpv, Ilo}
use Rattle.its_core.specs.Cores.{core_at}
use Rattle.its_word.proofs.CoreLaws.{got_some, got_none}
use Rattle.its_word.proofs.AddressLaws.{Ended, along_direct, along_spent, along_absent, along_more, index_places_few}
use Rattle.its_core.proofs.cores.Core.address.Goals as goal

-- the three ways out
direct : (c : goal.Then-not-is_indirect) → Ended (core_at c.args.self.now c.args.slot) c.args.w c.args.used.now c.args.reads.now.items
    (Ok (record { e = c.indexed-e.result.0; flags_word = c.indexed-e.result.1 })) c.loop-slot.used c.note_index.new.reads.items
direct c =
    let i : is_indirect c.loop-slot.word ≡ false = sym c.is_indirect.ensures ∙ c.if-not-is_indirect.true in
    rw (c.indexed-e.ensures.e, c.indexed-e.ensures.last, c.note_index.ensures) (along_direct _ _ _ _ _ _ _ _ c.loop-slot.invariant i)

spent : (c : goal.Then-used-eq-BUDGET) → Ended (core_at c.args.self.now c.args.slot) c.args.w c.args.used.now c.args.reads.now.items
    (Err Ilo) c.loop-slot.used c.note_index.new.reads.items
spent c =
    let i : is_indirect c.loop-slot.word ≡ true = sym c.is_indirect.ensures ∙ c.if-not-is_indirect.false in
    rw c.note_index.ensures (along_spent _ _ _ _ _ _ _ _ c.loop-slot.invariant i c.if-used-eq-BUDGET.true)

absent : (c : goal.In_default) → Ended (core_at c.args.self.now c.args.slot) c.args.w c.args.used.now c.args.reads.now.items (Err Mpv)
    (c.loop-slot.used + 1) c.push.new.self.items
absent c =
    let i : is_indirect c.loop-slot.word ≡ true = sym c.is_indirect.ensures ∙ c.if-not-is_indirect.false in
    let none : word_at (core_at c.args.self.now c.args.slot) c.indexed-e.result.0 ≡ None = got_none _ _ (sym c.get.ensures.word ∙ c.in_default.is) in
    rw (c.push.ensures.items, c.note_index.ensures, c.indexed-e.ensures.e)
    (along_absent _ _ _ _ _ _ _ _ c.loop-slot.invariant i c.if-used-eq-BUDGET.false (rw c.indexed-e.ensures.e at none))

pub returns-then-not-is_indirect-clause-answer : goal.returns-then-not-is_indirect-clause-answer
returns-then-not-is_indirect-clause-answer c = (direct c).answer_is

pub returns-then-not-is_indirect-clause-reads : goal.returns-then-not-is_indirect-clause-reads
returns-then-not-is_indirect-clause-reads c = (direct c).reads_is

pub returns-then-not-is_indirect-clause-used : goal.returns-then-not-is_indirect-clause-used
returns-then-not-is_indirect-clause-used c = (direct c).used_is

pub returns-then-not-is_indirect-clause-few : goal.returns-then-not-is_indirect-clause-few
returns-then-not-is_indirect-clause-few c = (direct c).few

pub returns-then-used-eq-BUDGET-clause-answer : goal.returns-then-used-eq-BUDGET-clause-answer
returns-then-used-eq-BUDGET-clause-answer c = (spent c).answer_is

pub returns-then-used-eq-BUDGET-clause-reads : goal.returns-then-used-eq-BUDGET-clause-reads
returns-then-used-eq-BUDGET-clause-reads c = (spent c).reads_is

pub returns-then-used-eq-BUDGET-clause-used : goal.returns-then-used-eq-BUDGET-clause-used
returns-then-used-eq-BUDGET-clause-used c = (spent c).used_is

pub returns-then-used-eq-BUDGET-clause-few : goal.returns-then-used-eq-BUDGET-clause-few
returns-then-used-eq-BUDGET-clause-few c = (spent c).few

pub push-requires : goal.push-requires
push-requires c =
    let i = index_places_few c.loop-slot.word in
    let l = length-append c.loop-slot.reads.items (index_places c.loop-slot.word) in
    let e = ap (λ xs. length xs) c.note_index.ensures in
    let few = c.loop-slot.invariant.few in
    let most = c.loop-slot.invariant.most in
    let room = c.requires.room in
    (omega arith, omega arith)

pub returns-in_default-clause-answer : goal.returns-in_default-clause-answer
returns-in_default-clause-answer c = (absent c).answer_is

pub returns-in_default-clause-reads : goal.returns-in_default-clause-reads
returns-in_default-clause-reads c = (absent c).reads_is

pub returns-in_default-clause-used : goal.returns-in_default-clause-used
returns-in_default-clause-used c = (absent c).used_is

pub returns-in_default-clause-few : goal.returns-in_default-clause-few
returns-in_default-clause-few c = (absent c).few

pub loop-slot-preserved : goal.loop-slot-preserved
loop-slot-preserved c =
    let i : is_indirect c.loop-slot.word ≡ true = sym c.is_indirect.ensures ∙ c.if-not-is_indirect.false in
    let some : word_at (core_at c.args.self.now c.args.slot) c.indexed-e.result.0 ≡ Some c.in-Ok.next = got_some _ _ (sym c.get.ensures.word ∙ c.in-Ok.is) in
    rw (c.push.ensures.items, c.note_index.ensures, c.indexed-e.ensures.e)
    (along_more _ _ _ _ _ _ _ _ _ c.loop-slot.invariant i c.if-used-eq-BUDGET.false (rw c.indexed-e.ensures.e at some))
