use Rattle.std.proofs.Common.{List, [], ap, arith, drop, length, sym, take, ℕ, ◌*◌, ◌++◌, ◌+◌, ◌∙◌, ◌∷◌, ◌≡◌}
use Rattle.std.proofs.lemmas.List.{length_push}
use Rattle.std.proofs.lemmas.Option.{slice_get_within}
use Rattle.its_saving.specs.Parts.{bytes_of}
use Rattle.its_saving.proofs.RowLaws.{take_end, take_next}
use Rattle.its_saving.proofs.consoles.bytes_from.Goals as goal

pub loop-k-preserved : goal.loop-k-preserved
loop-k-preserved c = let e = sym c.byte_at.ensures ∙ c.in-Some.is in
    let l = slice_get_within (bytes_of c.args.output c.args.console.now) ((c.args.row * 32) + c.loop-k.k) c.in-Some.b e in
    record {
      front = c.push.ensures.items ∙ ap (λ (ys : List ℕ). ys ++ c.in-Some.b ∷ []) c.loop-k.invariant.front ∙ sym
          (take_next (bytes_of c.args.output c.args.console.now) (c.args.row * 32) c.loop-k.k c.in-Some.b e);
      long = omega (arith, c.loop-k.invariant.long, ap (λ (ys : List ℕ). length ys) c.push.ensures.items, length_push c.loop-k.bytes.items c.in-Some.b);
      within = omega (arith, l);
    }

pub returns-in-None : goal.returns-in-None
returns-in-None c = c.loop-k.invariant.front ∙ take_end (bytes_of c.args.output c.args.console.now) (c.args.row * 32) 32 c.loop-k.k
    (omega (arith, c.loop-k-test.true)) (sym c.byte_at.ensures ∙ c.in-None.is)

pub returns : goal.returns
returns c = let e : c.loop-k.k ≡ 32 = omega (arith, c.loop-k-test.false, c.loop-k.auto.k-end) in c.loop-k.invariant.front ∙ ap
    (λ n. take n (drop (c.args.row * 32) (bytes_of c.args.output c.args.console.now))) e
