use Rattle.std.proofs.Common.{◌≡◌, ◌+◌, ◌*◌, Option, true, false, arith, ap, ◌∙◌, sym, subst, slice_index_or, take, is_some, count_by}
use Rattle.its_core.specs.Frames.{row, emptied}
use Rattle.its_core.specs.declared.cores.Mapped.{Mapped}
use Rattle.its_core.proofs.EmptyLaws.{emptied_none, emptied_more, count_step, count_all}
use Rattle.its_core.proofs.cores.vacate.Goals as goal
use Rattle.its_core.proofs.cores.vacate.Goals.{then-is_some, else-is_some}

pub loop-page-init : goal.loop-page-init
loop-page-init c = (sym (emptied_none (256 * c.args.slot) c.args.places.now.items), omega arith)

pub loop-page-preserved : goal.loop-page-preserved
loop-page-preserved c =
    let P : Option Mapped → Type 0 = λ o. o ≡ slice_index_or (emptied (256 * c.args.slot) c.loop-page.page c.args.places.now.items)
    (256 * c.args.slot + c.loop-page.page) o in
    let read = subst P (sym c.take.ensures.value) (rw (c.loop-page.invariant.0, c.place_index.ensures) at c.index_mut.ensures.value) in (
      rw (c.loop-page.invariant.0, c.place_index.ensures, c.take.ensures.after)
          (emptied_more (256 * c.args.slot) c.loop-page.page c.args.places.now.items (omega arith)),
      elim c.if-is_some.branch [
        | then-is_some w ↦
            w.number-is ∙ count_step c.args.places.now.items c.args.slot c.loop-page.page c.take.result true c.loop-page.number c.requires
            (omega arith) read (sym c.is_some.ensures ∙ w.if-is_some.true) c.loop-page.invariant.1
        | else-is_some w ↦
            let n = count_step c.args.places.now.items c.args.slot c.loop-page.page c.take.result false c.loop-page.number c.requires
            (omega arith) read (sym c.is_some.ensures ∙ w.if-is_some.false) c.loop-page.invariant.1 in
            omega arith
      ],
    )

pub returns-after-is_some-clause-number : goal.returns-after-is_some-clause-number
returns-after-is_some-clause-number c =
    let P : Option Mapped → Type 0 = λ o. o ≡ slice_index_or (emptied (256 * c.args.slot) c.loop-page.page c.args.places.now.items)
    (256 * c.args.slot + c.loop-page.page) o in
    let read = subst P (sym c.take.ensures.value) (rw (c.loop-page.invariant.0, c.place_index.ensures) at c.index_mut.ensures.value) in
    let last : c.loop-page.page + 1 ≡ 256 = omega arith in
    let counted : c.if-is_some.number ≡ count_by is_some (take (c.loop-page.page + 1) (row c.args.places.now.items c.args.slot)) = elim c.if-is_some.branch [
      | then-is_some w ↦
          w.number-is ∙ count_step c.args.places.now.items c.args.slot c.loop-page.page c.take.result true c.loop-page.number c.requires
          (omega arith) read (sym c.is_some.ensures ∙ w.if-is_some.true) c.loop-page.invariant.1
      | else-is_some w ↦
          let n = count_step c.args.places.now.items c.args.slot c.loop-page.page c.take.result false c.loop-page.number c.requires
          (omega arith) read (sym c.is_some.ensures ∙ w.if-is_some.false) c.loop-page.invariant.1 in
          omega arith
    ] in
    counted ∙ ap (λ n. count_by is_some (take n (row c.args.places.now.items c.args.slot))) last ∙ count_all c.args.places.now.items c.args.slot c.requires

pub returns-after-is_some-clause-emptied : goal.returns-after-is_some-clause-emptied
returns-after-is_some-clause-emptied c =
    let last : c.loop-page.page + 1 ≡ 256 = omega arith in
    rw (c.loop-page.invariant.0, c.place_index.ensures, c.take.ensures.after)
    (emptied_more (256 * c.args.slot) c.loop-page.page c.args.places.now.items (omega arith)
    ∙ ap (λ n. emptied (256 * c.args.slot) n c.args.places.now.items) last)
