use Rattle.std.proofs.Common.{refl, sym, ◌∙◌}
use Rattle.its_decode.specs.Gathering.{argument_for}
use Rattle.its_decode.proofs.ArgumentLaws.{argument_ok}
use Rattle.its_decode.proofs.arguments.fetch_argument.Goals as goal

pub returns-clause-fetched : goal.returns-clause-fetched
returns-clause-fetched c =
    let h = c.in_ok-add_argument.ensures.added in
    record {
      placed = record { argument = argument_for c.kind_of.result c.in_ok-e.field-0.e; used = c.add_argument.new.progress.used };
      answer =
          argument_ok _ _ _ _ _ _ _ c.kind_of.ensures (sym c.in_ok-e.was ∙ c.address.ensures.answer) (c.add_argument.ensures.used ∙ c.address.ensures.used)
          c.in_ok-add_argument.ensures.answer;
      used = refl;
      added = record {
        inputs = h.inputs;
        outputs = h.outputs;
        errors = h.errors;
        controls = h.controls;
        operand = h.operand;
      };
    }
