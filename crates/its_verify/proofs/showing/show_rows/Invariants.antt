use Rattle.std.proofs.Common.{◌≡◌, ◌+◌, ◌-◌, ◌*◌, ◌/◌, drop}
use Rattle.its_files.specs.Files.{words_at}
use Rattle.its_plain.specs.Operator.Files.{rows}
use Rattle.its_reader.specs.Bytes.{Onward}
use Rattle.its_verify.specs.TranscriptReader.{AtLine}
use Rattle.its_verify.specs.Showing.{LinesSo}
use Rattle.its_verify.proofs.showing.show_rows.Given as goal

abbrev pub invariant-loop-k : goal.invariant-loop-k
invariant-loop-k g l = record {
  at_line : AtLine l.reader (g.S.Source.left l.src);
  onward : Onward l.reader.texts.ended (g.S.Source.readable l.src);
  unfailed : g.S.Source.faults l.src ≡ g.S.Source.faults l.fn.src;
  so_far :
      LinesSo l.fn.reader l.reader (g.S.Source.left l.fn.src) (g.S.Source.left l.src) (rows ((l.count + 7) / 8) (words_at l.plain.files l.id))
      (rows ((l.count + 7) / 8 - l.k) (drop (8 * l.k) (words_at l.plain.files l.id)));
}
