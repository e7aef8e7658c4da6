use Rattle.std.proofs.Common.{◌+◌, ℕ, subst, sym}
use Rattle.its_word.specs.ArrayVec.{ArrayVec}
use Rattle.its_shared.proofs.DirLaws.{order_within}
use Rattle.its_direct.proofs.DirectoryLaws.{Listing, listing_more, listing_skips}
use Rattle.its_direct.proofs.lines.directory.listed.Goals.{in-Some+then-is_in, in-Some+else-is_in, in_default}
use Rattle.its_direct.proofs.lines.directory.listed.Goals as goal

pub loop-k-preserved : goal.loop-k-preserved
loop-k-preserved c = record {
  listing = elim c.match-file_at.branch [
    | in-Some+then-is_in w ↦ subst (λ (v : ArrayVec ℕ). Listing c.args.files.now c.args.d (c.loop-k.k + 1) v.items) (sym w.ids-is)
        (subst (Listing c.args.files.now c.args.d (c.loop-k.k + 1)) (sym w.push.ensures.items)
        (listing_more c.args.files.now c.args.d c.loop-k.k _ _ _ _ c.loop-k.invariant.listing c.file_at.ensures.number w.in-Some.is
        w.is_in.ensures w.in-Some.ensures.file w.if-is_in.true))
    | in-Some+else-is_in w ↦ subst (λ (v : ArrayVec ℕ). Listing c.args.files.now c.args.d (c.loop-k.k + 1) v.items) (sym w.ids-is)
        (listing_skips c.args.files.now c.args.d c.loop-k.k _ _ _ _ c.loop-k.invariant.listing c.file_at.ensures.number w.in-Some.is
        w.is_in.ensures w.if-is_in.false)
    | in_default w ↦ absurd (order_within c.args.files.now c.loop-k.k _ _ c.file_at.ensures.number w.in_default.is c.count-k-end.ensures c.loop-k-test.true)
  ];
}
