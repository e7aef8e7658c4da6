use Rattle.std.proofs.Common.{◌≡◌, drop, map}
use Rattle.its_files.specs.Files.{file_at as file_of}
use Rattle.its_plain.specs.Operator.Files.{filed_line}
use Rattle.its_reader.specs.Bytes.{Onward}
use Rattle.its_verify.specs.TranscriptReader.{AtLine}
use Rattle.its_verify.specs.Showing.{LinesSo}
use Rattle.its_verify.proofs.showing.show_each.Given as goal

abbrev pub invariant-loop-id : goal.invariant-loop-id
invariant-loop-id g l = record {
  at_line : AtLine l.reader (g.S.Source.left l.src);
  onward : Onward l.reader.texts.ended (g.S.Source.readable l.src);
  unfailed : g.S.Source.faults l.src ≡ g.S.Source.faults l.fn.src;
  so_far : LinesSo l.fn.reader l.reader (g.S.Source.left l.fn.src) (g.S.Source.left l.src)
      (map filed_line (map (file_of l.plain.files) l.ids)) (map filed_line (map (file_of l.plain.files) (drop l.id-index l.ids)));
}
