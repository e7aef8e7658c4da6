use Rattle.its_chart.proofs.TableLaws.{table_named}
use Rattle.its_chart.proofs.mnemonic.each_opcode_named.Goals as goal

pub returns : goal.returns
returns c = λ op below. table_named op below
