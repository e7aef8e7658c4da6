-- The parts of equal contents are equal.
use Rattle.std.specs.Prelude.{◌≡◌}
use Rattle.its_world.specs.Contents.{Contents}

module _ {p q : Contents} (e : p ≡ q) where
  pub core_as : p.core ≡ q.core
  core_as = λ t. (e t).core

  pub jobs_as : p.jobs ≡ q.jobs
  jobs_as = λ t. (e t).jobs

  pub frames_as : p.frames ≡ q.frames
  frames_as = λ t. (e t).frames

  pub consoles_as : p.consoles ≡ q.consoles
  consoles_as = λ t. (e t).consoles

  pub holders_as : p.holders ≡ q.holders
  holders_as = λ t. (e t).holders

  pub files_as : p.files ≡ q.files
  files_as = λ t. (e t).files

  pub clock_as : p.clock ≡ q.clock
  clock_as = λ t. (e t).clock

  pub lists_as : p.wait_lists ≡ q.wait_lists
  lists_as = λ t. (e t).wait_lists

  pub version_as : p.version ≡ q.version
  version_as = λ t. (e t).version

  pub symbols_as : p.symbols ≡ q.symbols
  symbols_as = λ t. (e t).symbols

  pub alarms_as : p.alarms ≡ q.alarms
  alarms_as = λ t. (e t).alarms

  pub pipes_as : p.pipes ≡ q.pipes
  pipes_as = λ t. (e t).pipes
