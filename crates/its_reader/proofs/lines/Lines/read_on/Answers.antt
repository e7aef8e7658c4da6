use Rattle.std.proofs.Common.{refl, sym, ◌∙◌}
use Rattle.its_reader.proofs.LinesLaws.{reads_broken, reads_last_by, reads_push_by, so_next_by, so_plain}
use Rattle.its_reader.proofs.lines.Lines.read_on.Goals as goal

pub returns-in-Err-clause-reads : goal.returns-in-Err-clause-reads
returns-in-Err-clause-reads g c = reads_broken _ _ c.take_plain.new.self _ _ _ _ c.requires.open c.take_plain.ensures.short
    c.take_plain.ensures.begun (so_plain _ c.loop-e.self _ _ _ c.loop-e.invariant.so_far c.take_plain.ensures.plain) c.in-Err.ensures.took

pub returns-in-Ok-None-clause-reads : goal.returns-in-Ok-None-clause-reads
returns-in-Ok-None-clause-reads g c =
    reads_last_by _ _ _ _ c.take_plain.new.self _ _ _ _ c.last.ensures c.deref.ensures.0 c.in-Ok-None.field-0-is c.requires.open refl refl
    (so_plain _ c.loop-e.self _ _ _ c.loop-e.invariant.so_far c.take_plain.ensures.plain) c.in-Ok-None.ensures.took

pub returns-in-Some-clause-reads : goal.returns-in-Some-clause-reads
returns-in-Some-clause-reads g c =
    reads_push_by _ _ _ c.take_plain.new.self _ _ _ _ _ c.in-Ok-Some.field-0-is c.requires.open
    (so_plain _ c.loop-e.self _ _ _ c.loop-e.invariant.so_far c.take_plain.ensures.plain) c.in-Ok-Some.ensures.took c.in-Some.ensures.pushed

pub loop-e-preserved : goal.loop-e-preserved
loop-e-preserved g c =
    let p = c.in_default.ensures.pushed in
    record {
      fits = c.next.ensures.fits;
      short = p.2;
      number = c.take_plain.ensures.number ∙ c.loop-e.invariant.number;
      running = c.take_plain.ensures.ended ∙ c.loop-e.invariant.running;
      readable = c.in-Ok-Some.ensures.readable (λ none. let e = sym c.in-Ok-Some.field-0-is ∙ none in cc);
      begun = λ some. p.3;
      so_far =
          so_next_by _ _ c.take_plain.new.self _ _ _ _ _ c.in-Ok-Some.field-0-is
          (so_plain _ c.loop-e.self _ _ _ c.loop-e.invariant.so_far c.take_plain.ensures.plain)
          c.in-Ok-Some.ensures.took p;
      unfailed = c.in-Ok-Some.ensures.cause.kept ∙ c.loop-e.invariant.unfailed;
    }
