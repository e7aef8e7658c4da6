use Rattle.std.proofs.Common.{◌∙◌, arith}
use Rattle.std.proofs.lemmas.Bool.Decides.{nat_tests}
use Rattle.its_word.proofs.TextLaws.{name_read}
use Rattle.its_word.proofs.text.read_sixbit.Goals as goal

pub returns : goal.returns
returns c =
    let read = name_read c.args.text.now c.loop-byte.byte-index c.loop-byte.codes (grind (arith, nat_tests)) (omega arith) (omega arith)
    c.loop-byte.invariant.value c.loop-byte.invariant.below c.loop-byte.invariant.characters in
    (read.0, c.new-2.ensures ∙ read.1)
