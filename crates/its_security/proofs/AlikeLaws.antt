-- Looking alike to a job is an equivalence; and which lines of the operator leave it.
use Rattle.std.specs.Prelude.{◌≡◌, ℕ, Option, Some, None, refl}
use Rattle.std.proofs.Common.{sym, ◌∙◌, ap, subst}
use Rattle.its_plain.specs.Machine.Change.{channel_in, console_in}
use Rattle.its_plain.specs.Machine.{Chan, Shut, TtyIn, TtyOut, Reads, Writes, On, Linked, Whole, Machine}
use Rattle.its_plain.specs.Call.File.{file_named}
use Rattle.its_security.specs.Alike.{SameThrough, SameAt, Alike}
use Rattle.its_security.specs.OperatorParts.{Parts, OnlyParts}
use Rattle.its_security.specs.Respect.{Unseen}

through_self : (m : Machine) (c : Chan) → SameThrough m m c
through_self m (On s write at) = refl
through_self m (Reads x at) = refl
through_self m (Linked k write) = refl
through_self m Shut = tt
through_self m TtyIn = tt
through_self m TtyOut = tt
through_self m (Writes f) = tt

through_back : (m n : Machine) (c : Chan) → SameThrough m n c → SameThrough n m c
through_back m n (On s write at) e = sym e
through_back m n (Reads x at) e = sym e
through_back m n (Linked k write) e = sym e
through_back m n Shut e = tt
through_back m n TtyIn e = tt
through_back m n TtyOut e = tt
through_back m n (Writes f) e = tt

through_then : (l m n : Machine) (c : Chan) → SameThrough l m c → SameThrough m n c → SameThrough l n c
through_then l m n (On s write at) e f = f ∙ e
through_then l m n (Reads x at) e f = f ∙ e
through_then l m n (Linked k write) e f = f ∙ e
through_then l m n Shut e f = tt
through_then l m n TtyIn e f = tt
through_then l m n TtyOut e f = tt
through_then l m n (Writes d) e f = tt

at_self : (m : Machine) (o : Option ℕ) → SameAt m m o
at_self m (Some c) = (refl, refl)
at_self m None = tt

at_back : (m n : Machine) (o : Option ℕ) → SameAt m n o → SameAt n m o
at_back m n (Some c) e = (sym e.0, sym e.1)
at_back m n None e = tt

at_then : (l m n : Machine) (o : Option ℕ) → SameAt l m o → SameAt m n o → SameAt l n o
at_then l m n (Some c) e f = (f.0 ∙ e.0, f.1 ∙ e.1)
at_then l m n None e f = tt

pub alike_self : (j : ℕ) (m : Machine) → Alike j m m
alike_self j m = record { own = refl; channels = λ i. through_self m (channel_in (m.jobs j) i); console = at_self m (console_in (m.jobs j)); clock = refl }

pub alike_back : (j : ℕ) (m n : Machine) → Alike j m n → Alike j n m
alike_back j m n h = record {
  own = sym h.own;
  channels = λ i. subst (λ (o : Option Whole). SameThrough n m (channel_in o i)) (sym h.own) (through_back m n (channel_in (m.jobs j) i) (h.channels i));
  console = subst (λ (o : Option Whole). SameAt n m (console_in o)) (sym h.own) (at_back m n (console_in (m.jobs j)) h.console);
  clock = sym h.clock;
}

pub alike_then : (j : ℕ) (l m n : Machine) → Alike j l m → Alike j m n → Alike j l n
alike_then j l m n h k = record {
  own = k.own ∙ h.own;
  channels = λ i. through_then l m n (channel_in (l.jobs j) i) (h.channels i)
      (subst (λ (o : Option Whole). SameThrough m n (channel_in o i)) h.own (k.channels i));
  console = at_then l m n (console_in (l.jobs j)) h.console (subst (λ (o : Option Whole). SameAt m n (console_in o)) h.own k.console);
  clock = k.clock ∙ h.clock;
}

-- a line of the operator that changes nothing that the job sees
pub parts_alike : (j : ℕ) (m n : Machine) (p : Parts) → OnlyParts p m n → Unseen p m j → Alike j m n
parts_alike j m n p h u = record {
  own = h.jobs j u.own;
  channels = λ i. through i (channel_in (m.jobs j) i) refl;
  console = at (console_in (m.jobs j)) refl;
  clock = h.clock u.clock;
}
  where
    through : (i : ℕ) (c : Chan) → channel_in (m.jobs j) i ≡ c → SameThrough m n c
    through i (On s write at) on = h.jobs s (u.inferiors i s at write on)
    through i (Reads x at) on = ap (file_named x) (h.files u.files)
    through i (Linked k write) on = h.links k (u.links i k write on)
    through i Shut on = tt
    through i TtyIn on = tt
    through i TtyOut on = tt
    through i (Writes f) on = tt

    at : (o : Option ℕ) → console_in (m.jobs j) ≡ o → SameAt m n o
    at (Some c) own = (h.consoles c (u.console c own), h.holders c (u.holder c own))
    at None own = tt
