-- When two machines are one: their jobs are compared slot by slot, and nowhere else.
use Rattle.std.specs.Prelude.{◌≡◌, ℕ}
use Rattle.std.proofs.Common.{◌∙◌}
use Rattle.its_plain.specs.Machine.{Machine}

pub machine_is : (m n : Machine) → ((k : ℕ) → m.jobs k ≡ n.jobs k) → ((k : ℕ) → m.consoles k ≡ n.consoles k) → ((k : ℕ) → m.holders k ≡ n.holders k)
    → m.files ≡ n.files → m.clock ≡ n.clock → m.version ≡ n.version → ((k : ℕ) → m.symbols k ≡ n.symbols k) → ((k : ℕ) → m.links k ≡ n.links k)
    → m ≡ n
machine_is m n jobs consoles holders files clock version symbols links = λ t. record {
  jobs = λ k. jobs k t;
  consoles = λ k. consoles k t;
  holders = λ k. holders k t;
  files = files t;
  clock = clock t;
  version = version t;
  symbols = λ k. symbols k t;
  links = λ k. links k t;
}

-- two machines are one if their jobs are, and all but their jobs is alike
pub jobs_are : (m n : Machine) → ((k : ℕ) → m.jobs k ≡ n.jobs k) → m ≡ record n { jobs = m.jobs } → m ≡ n
jobs_are m n jobs rest = rest ∙ (λ t. record n { jobs = λ k. jobs k t })
