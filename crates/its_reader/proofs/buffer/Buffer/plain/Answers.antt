use Rattle.std.proofs.Common.{◌≡◌, ◌+◌, ◌-◌, true, take, drop, sym, ◌∙◌, subst, arith}
use Rattle.std.proofs.lemmas.List.{length-drop}
use Rattle.std.specs.List.{list_all}
use Rattle.its_reader.specs.Bytes.{is_plain}
use Rattle.its_reader.proofs.BufferLaws.{plain_none, plain_some}
use Rattle.its_reader.proofs.buffer.Buffer.plain.Goals as goal

pub returns-in-Some-clause-plain : goal.returns-in-Some-clause-plain
returns-in-Some-clause-plain c =
    let b = c.args.self.now in
    (plain_some (drop b.start b.bytes) _ _ (sym c.first_lf.ensures ∙ c.in-Some.is)
    (omega (arith, length-drop b.start b.bytes, c.min-count.ensures, c.requires.fits.0, c.requires.fits.1))).0

pub returns-in-None-clause-plain : goal.returns-in-None-clause-plain
returns-in-None-clause-plain c =
    let b = c.args.self.now in
    let count : (b.start + c.min-count.result) - b.start ≡ c.min-count.result = omega arith in
    subst (λ k. list_all is_plain (take k (drop b.start b.bytes)) ≡ true) count (plain_none (drop b.start b.bytes) _ (sym c.first_lf.ensures ∙ c.in-None.is))
