use Rattle.std.proofs.Common.{◌≡◌, take}
use Rattle.its_asm.specs.Layout.{labelled}
use Rattle.its_asm.specs.Assembly.{any_defined}
use Rattle.its_asm.proofs.layout.Layout.define_labels.Given as goal

abbrev pub invariant-loop-name : goal.invariant-loop-name
invariant-loop-name l = record {
  symbols : l.self.symbols ≡ labelled l.initial.self.symbols l.value (take l.name-index l.labels);
  twice : l.twice ≡ any_defined l.initial.self.symbols l.value (take l.name-index l.labels);
  location : l.self.location ≡ l.initial.self.location;
  stage : l.self.stage ≡ l.initial.self.stage;
}
