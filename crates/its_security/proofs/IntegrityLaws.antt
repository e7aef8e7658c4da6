-- What a step of a job may change it changes (docs/MACHINE.md, "Who may touch what").
use Rattle.std.specs.Prelude.{◌≡◌, ℕ, Bool, true, false, Option, Some, None, is_some, refl}
use Rattle.std.proofs.Common.{sym, ◌∙◌, ap, subst, inl, inr}
use Rattle.its_records.specs.declared.link.End.TheVariants.{Opened}
use Rattle.its_plain.specs.Call.Step.{step}
use Rattle.its_plain.specs.Machine.Change.{console_in, channel_in}
use Rattle.its_plain.specs.Machine.{Chan, Shut, TtyIn, TtyOut, Reads, Writes, On, Linked, Pipe, Whole, Machine}
use Rattle.its_stepped.specs.Forest.{OnInferior, OnConsole, OnLink, end_at, Forest}
use Rattle.its_stepped.proofs.Duties.FitLaws.{forest_steps}
use Rattle.its_security.specs.Integrity.{Removes, nobody, IsOpenAt, MayBeOn, Keeps, OwnMay, own_kept, own_gone, MayStep}
use Rattle.its_security.proofs.OthersLaws.{open_at, Fate, Others, no_others, step_others}
use Rattle.its_security.proofs.OwnJobLaws.{Stays, StaysBy, unchanged, step_stays}

-- what a channel is on in a forest
may_be_on : (n : Machine) (j i : ℕ) (c : Chan) → OnConsole (console_in (n.jobs j)) c → OnInferior n j c → OnLink n j i c → MayBeOn n j i c
may_be_on n j i Shut has up end = tt
may_be_on n j i TtyIn has up end = has
may_be_on n j i TtyOut has up end = has
may_be_on n j i (Reads x at) has up end = tt
may_be_on n j i (Writes f) has up end = tt
may_be_on n j i (On s write at) has up end = up
may_be_on n j i (Linked k write) has up end = open_at j i write (n.links k) end.1

at_open_end : (j i : ℕ) (write : Bool) (o : Option Pipe) → IsOpenAt j i write o → end_at write o ≡ Opened j i
at_open_end j i write (Some p) e = e
at_open_end j i write None e = absurd e

keeps : (n : Machine) (j : ℕ) (q r : Whole) → Forest n → n.jobs j ≡ Some r → Stays q r → Keeps n j q r
keeps n j q r d at h = record {
  uname = h.names.uname;
  jname = h.names.jname;
  console = h.names.console;
  superior = h.superior;
  channels = h.channels;
  reach = λ i. subst (λ (o : Option Whole). MayBeOn n j i (channel_in o i)) at
      (may_be_on n j i (channel_in (n.jobs j) i) (d.consoles j i) (d.channels j i) (d.links.channels j i));
  ends = λ i k write open_. ap (λ (o : Option Whole). channel_in o i) (sym at) ∙ d.links.ends k j i write (at_open_end j i write (n.links k) open_);
}

own_may : (m l n : Machine) (j : ℕ) (q : Whole) (o : Option Whole) → Forest n → m.jobs j ≡ Some q → n.jobs j ≡ o → StaysBy q o → Fate m l n j → OwnMay m l n j
own_may m l n j q (Some r) d is at h fate = own_kept q r is at (keeps n j q r d at h)
own_may m l n j q None d is at h (inl e) = absurd (let no : false ≡ true = sym (ap (λ (p : Option Whole). is_some p) at) ∙ e
    ∙ ap (λ (p : Option Whole). is_some p) is in cc)
own_may m l n j q None d is at h (inr gone) = own_gone gone at

may_step : (m l n : Machine) (j : ℕ) → Removes m n j l → Others m l j n → OwnMay m l n j → MayStep m j n
may_step m l n j removes others own = record {
  left = l;
  removes = removes;
  own = own;
  jobs = others.jobs;
  consoles = others.consoles;
  holders = others.holders;
  files = others.files;
  symbols = others.symbols;
  links = others.links;
  clock = others.clock;
  version = others.version;
}

-- no step
pub nothing_may : (m : Machine) (j : ℕ) → Forest m → MayStep m j m
nothing_may m j d = may_step m m m j nobody (no_others m j) (go (m.jobs j) refl)
  where
    go : (o : Option Whole) → m.jobs j ≡ o → OwnMay m m m j
    go (Some q) is = own_kept q q is is (keeps m j q q d is (unchanged q))
    go None is = own_gone is is

-- a step
pub step_may : (m n : Machine) (j : ℕ) → Forest m → step m j ≡ Some n → MayStep m j n
step_may m n j d e =
    let h = step_others m n j d e in
    let s = step_stays m n j e in
    may_step m h.left n j h.removes h.others (own_may m h.left n j s.0 (n.jobs j) (forest_steps m n j d e) s.1.0 refl s.1.1 h.others.fate)
