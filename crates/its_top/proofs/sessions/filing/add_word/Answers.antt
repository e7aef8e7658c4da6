use Rattle.std.proofs.Common.{◌≡◌, Err, OnOk, IfErr, subst, arith}
use Rattle.its_plain.specs.Operator.Files.{with_word_added}
use Rattle.its_stepped.specs.Unwind.{help}
use Rattle.its_world.specs.World.{state_of}
use Rattle.its_records.specs.Refusals.{reason_of}
use Rattle.its_monitor.specs.Kept.{Lands}
use Rattle.its_top.proofs.FilingLaws.{three, adds_done, adds_refused, adds_nothing}
use Rattle.its_top.proofs.sessions.filing.add_word.Goals as goal

pub returns-in-Ok-clause-done : goal.returns-in-Ok-clause-done
returns-in-Ok-clause-done c =
    let names = three c.args.names _ _ _ (omega arith) in
    let v = help (state_of c.args.m.now.world) in
    subst (λ n. OnOk c.file_add.result (Lands v (state_of c.file_add.new.self.world) (with_word_added v.raw n c.args.w))) names
    (adds_done c.args.m.now.world c.file.new.self.world c.file.ensures.state c.file.ensures.files _ _ _ _ _ c.in-Ok.ensures.found c.file_add.ensures.done)

pub returns-in-Ok-clause-refused : goal.returns-in-Ok-clause-refused
returns-in-Ok-clause-refused c =
    let names = three c.args.names _ _ _ (omega arith) in
    let v = help (state_of c.args.m.now.world) in
    subst (λ n. IfErr c.file_add.result (λ r. with_word_added v.raw n c.args.w ≡ Err (reason_of r))) names
    (adds_refused c.args.m.now.world c.file.new.self.world c.file.ensures.state c.file.ensures.files _ _ _ _ c.in-Ok.ensures.found c.file_add.ensures.refused)

pub returns-in-Err-clause-refused : goal.returns-in-Err-clause-refused
returns-in-Err-clause-refused c =
    let names = three c.args.names _ _ _ (omega arith) in
    let v = help (state_of c.args.m.now.world) in
    subst (λ n. with_word_added v.raw n c.args.w ≡ Err (reason_of c.in-Err.e)) names
    (adds_nothing c.args.m.now.world c.file.new.self.world c.file.ensures.state c.file.ensures.files _ _ _ c.in-Err.ensures.refused.0
    c.in-Err.ensures.refused.1)
