use Rattle.std.proofs.Common.{◌∙◌, sym, arith, refl}
use Rattle.std.proofs.lemmas.List.{get_or_read_under}
use Rattle.its_top.proofs.FilingLaws.{writes_next, writes_cut}
use Rattle.its_top.proofs.ListingLaws.{listing_next, listing_end}
use Rattle.its_top.proofs.ConclusionLaws.{not_fault}
use Rattle.its_top.proofs.sessions.listing.list_words.Goals as goal

pub returns-then-not-goes_on-clause-told : goal.returns-then-not-goes_on-clause-told
returns-then-not-goes_on-clause-told g c =
    writes_cut _ _ _ _ _ _ _ (sym c.goes_on.ensures ∙ c.if-not-goes_on.true)
    (listing_next _ _ _ _ _ _ _ _ c.loop-w-test.true (get_or_read_under _ _ _ _ 0 c.w-item.is c.loop-w-test.true refl)
    c.loop-w.invariant.so_far) c.list_word-flow.ensures.told

pub loop-w-preserved : goal.loop-w-preserved
loop-w-preserved g c =
    let on = sym c.goes_on.ensures ∙ c.if-not-goes_on.false in
    record {
      place = omega (arith, c.loop-w.invariant.place);
      so_far = writes_next _ _ _ _ _ _ _ on
          (listing_next _ _ _ _ _ _ _ _ c.loop-w-test.true (get_or_read_under _ _ _ _ 0 c.w-item.is c.loop-w-test.true refl)
          c.loop-w.invariant.so_far) c.list_word-flow.ensures.told;
      unfailed = c.list_word-flow.ensures.cause.unfailed (not_fault _ on) ∙ c.loop-w.invariant.unfailed;
    }

pub returns-clause-told : goal.returns-clause-told
returns-clause-told g c =
    listing_end _ _ c.loop-w.w-index c.args.words.now _ _ _ (omega (arith, c.loop-w-test.false, c.loop-w.auto.w-index-end)) c.loop-w.invariant.so_far
