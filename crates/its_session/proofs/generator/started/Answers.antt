use Rattle.std.proofs.Common.{◌≡◌, codes, refl}
use Rattle.its_word.specs.Text.{sixbit_of}
use Rattle.its_session.specs.Generated.{started}
use Rattle.its_session.proofs.generator.started.Goals as goal

pub returns-in-0 : goal.returns-in-0
unfolding started sixbit_of
returns-in-0 c =
    let user : c.new.result ≡ sixbit_of (codes "U") = c.new.ensures in
    let name : c.new-in-0.result ≡ sixbit_of (codes "E") = c.new-in-0.ensures in
    rw (c.in-0.is, user, name) refl
