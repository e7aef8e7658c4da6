use Rattle.std.proofs.Common.{List, [], ap, arith, drop, length, sym, take, ℕ, ◌++◌, ◌+◌, ◌∙◌, ◌∷◌, ◌≡◌}
use Rattle.std.proofs.lemmas.List.{length_push}
use Rattle.std.proofs.lemmas.Option.{slice_get_within}
use Rattle.its_files.specs.Files.{words_at}
use Rattle.its_saving.proofs.RowLaws.{take_end, take_next}
use Rattle.its_saving.proofs.files.words_from.Goals as goal

pub loop-k-preserved : goal.loop-k-preserved
loop-k-preserved c = let e = sym c.word_at.ensures ∙ c.in-Some.is in
    let l = slice_get_within (words_at c.args.files.now c.args.id) (c.args.from + c.loop-k.k) c.in-Some.word e in
    record {
      front = c.push.ensures.items ∙ ap (λ (ys : List ℕ). ys ++ c.in-Some.word ∷ []) c.loop-k.invariant.front ∙ sym
          (take_next (words_at c.args.files.now c.args.id) c.args.from c.loop-k.k c.in-Some.word e);
      long = omega (arith, c.loop-k.invariant.long, ap (λ (ys : List ℕ). length ys) c.push.ensures.items, length_push c.loop-k.words.items c.in-Some.word);
      within = omega (arith, l);
    }

pub returns-in-None : goal.returns-in-None
returns-in-None c = c.loop-k.invariant.front ∙ take_end (words_at c.args.files.now c.args.id) c.args.from 16 c.loop-k.k
    (omega (arith, c.loop-k-test.true)) (sym c.word_at.ensures ∙ c.in-None.is)

pub returns : goal.returns
returns c = let e : c.loop-k.k ≡ 16 = omega (arith, c.loop-k-test.false, c.loop-k.auto.k-end) in c.loop-k.invariant.front ∙ ap
    (λ n. take n (drop c.args.from (words_at c.args.files.now c.args.id))) e
