use Rattle.std.proofs.Common.{◌+◌, ◌-◌, ◌*◌, ◌/◌, ◌%◌, ◌^◌, ◌<◌, ◌≡◌, ℕ, get_or, length, arith, rules}
use Rattle.std.proofs.lemmas.List.Edits.{fill_by_more}
use Rattle.std.proofs.lemmas.List.FromFn.{fill_by_all}
use Rattle.its_word.specs.Text.{octal12_of}
use Rattle.its_word.proofs.word.Word.octal12.Goals as goal

pub loop-i-preserved : goal.loop-i-preserved
loop-i-preserved c = record {
  twelve = search rules;
  before =
      (let room : c.loop-i.i < length c.loop-i.digits = omega arith in
      rw c.value.ensures.value
      (fill_by_more (λ k. 48 + c.args.self / 2 ^ (33 - 3 * k) % 8) c.loop-i.digits c.loop-i.i 0 room c.loop-i.invariant.before));
}

pub returns : goal.returns
unfolding octal12_of
returns c =
    let all : (k : ℕ) → k < 12 → get_or c.loop-i.digits k 0 ≡ 48 + c.args.self / 2 ^ (33 - 3 * k) % 8 =
    λ k below. c.loop-i.invariant.before k (omega arith) in
    fill_by_all (λ k. 48 + c.args.self / 2 ^ (33 - 3 * k) % 8) c.loop-i.digits 12 0 c.loop-i.invariant.twelve all
