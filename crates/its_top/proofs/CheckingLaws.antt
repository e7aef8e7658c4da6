-- What a check finds in lines and bytes.
use Rattle.std.specs.Prelude.{◌≡◌, ◌≢◌, ◌+◌, ℕ, true, false, Option, Some, None, IfSome, Ok, Err, List, [], ◌++◌, refl}
use Rattle.std.proofs.Common.{sym, ◌∙◌, ap, subst, append_assoc, append-nil}
use Rattle.std.specs.Io.KnownBytes.{Appends}
use Rattle.std.proofs.KnownBytes.{Appends-nil}
use Rattle.its_io.specs.Bytes.{Wrote}
use Rattle.its_io.specs.declared.stream.Failed.{Failed}
use Rattle.its_records.specs.Item.{Item}
use Rattle.its_records.specs.declared.session.Event.{Event}
use Rattle.its_records.specs.declared.session.Event.TheVariants as events
use Rattle.its_records.specs.declared.session.Place.TheVariants as places
use Rattle.its_session.specs.Events.{events_of}
use Rattle.its_reader.specs.declared.items.Found.{Found}
use Rattle.its_reader.specs.declared.items.Found.TheVariants.{Line, Bad}
use Rattle.its_reader.specs.declared.items.Found.TheVariants as founds
use Rattle.its_reader.specs.declared.items.Items.{Items}
use Rattle.its_reader.specs.Bytes.{pending}
use Rattle.its_reader.specs.Lines.{BetweenLines}
use Rattle.its_reader.specs.Items.{is_last, is_end, last_items, Finds, FoundSoFar, AllFound}
use Rattle.its_reader.proofs.ItemsLaws as reader
use Rattle.its_top.specs.declared.commands.checking.Checked.{Checked}
use Rattle.its_top.specs.declared.commands.checking.Checked.TheVariants.{Ended, TooLong}
use Rattle.its_top.specs.Checking.{checked_from, checked, CheckedBy, CheckSoFar, FoundIn, Finding, GoesOn, Passes, Fails, checked_text, StatusFor, WroteText, CheckedAs, Reported, CheckOf, Check}
use Rattle.its_top.specs.declared.commands.status.Status.{Status}
use Rattle.its_top.specs.declared.commands.status.Status.TheVariants as statuses
use Rattle.its_top.specs.Telling.{goes_on_after}
use Rattle.its_top.specs.Conclusion.{WasRun}

-- the result of each item
pub line_goes_on : (n : ℕ) (f : Found) (e : Event) → f ≡ Line e → goes_on_after e ≡ true → CheckedBy None n f
line_goes_on n f e h g = subst (CheckedBy None n) (sym h) (by e g)
  where
    by : (x : Event) → goes_on_after x ≡ true → CheckedBy None n (Line x)
    by events.End g = cc
    by _ g = (refl, λ behind. refl)

pub line_ends : (n : ℕ) (f : Found) (e : Event) → f ≡ Line e → goes_on_after e ≡ false → CheckedBy (Some (Ended n)) n f
line_ends n f e h g = subst (CheckedBy (Some (Ended n)) n) (sym h) (by e g)
  where
    by : (x : Event) → goes_on_after x ≡ false → CheckedBy (Some (Ended n)) n (Line x)
    by events.End g = (refl, refl)
    by _ g = cc

-- the start of a check
pub so_start : (r : Items) (left : Option (List ℕ)) → r.lines.number ≡ 0 → r.lines.ended ≡ false → pending r.lines.buffer ≡ []
    → r.place ≡ places.First → r.version ≡ 1 → CheckSoFar r (r.lines.number + 1) left left
unfolding checked
so_start r left n o p q v = record { items = []; found = reader.so_start r left n o p q v; checks = λ behind. ap (λ k. checked_from (k + 1) behind) (sym n) }

-- the check goes on
found_on : (f : Found) (es : List Item) (old new : Items) (left mid rest : Option (List ℕ)) → is_last f ≡ false → FoundSoFar es old left mid
    → Finds (Ok f) old new mid rest → FoundSoFar (es ++ last_items f) new left rest
found_on (Line e) es old new left mid rest l s f = reader.so_next es e old new left mid rest l s f
found_on _ es old new left mid rest l s f = cc

pub so_next : (f : Found) (n k : ℕ) (r r' : Items) (left mid rest : Option (List ℕ)) → k ≡ n → CheckSoFar r k left mid
    → Finds (Ok f) r r' mid rest → CheckedBy None n f → CheckSoFar r' (n + 1) left rest
so_next f n k r r' left mid rest e s t c = record {
  items = s.items ++ last_items f;
  found = found_on f s.items r r' left mid rest c.0 s.found t;
  checks = λ behind. ap checked (append_assoc s.items (last_items f) behind) ∙ s.checks (last_items f ++ behind)
      ∙ ap (λ x. checked_from x (last_items f ++ behind)) e ∙ c.1 behind;
}

-- the check is over
told_over : (c : Checked) (f : Found) (n : ℕ) (es : List Item) (left : Option (List ℕ)) (read : List ℕ)
    → ((behind : List Item) → checked (es ++ behind) ≡ checked_from n behind) → checked_from n (last_items f) ≡ c
    → IfSome left (λ bytes. AllFound (Ok f) es bytes read) → IfSome left (λ bytes. FoundIn (Ok c) bytes read)
told_over c f n es None read s e a = tt
told_over c f n es (Some bytes) read s e a = ap checked a ∙ s (last_items f) ∙ e

passes_end : (f : Found) (n : ℕ) → is_last f ≡ true → Passes (checked_from n (last_items f)) → is_end f ≡ true
passes_end (Line e) n l p = l
passes_end (Bad r) n l p = absurd p
passes_end founds.Beyond n l p = absurd p
passes_end founds.End n l p = refl

pub check_over : (c : Checked) (f : Found) (n k : ℕ) (r r' : Items) (left mid rest : Option (List ℕ)) → k ≡ n → BetweenLines r'.lines rest
    → CheckSoFar r k left mid → Finds (Ok f) r r' mid rest → CheckedBy (Some c) n f
    → Finding (Ok c) left rest
check_over c f n k r r' left mid rest e y s t h =
    let d = reader.ended_by f s.items r r' left mid rest h.0 y s.found t in
    record {
      read = d.read;
      consumed = d.consumed;
      found = told_over c f n s.items left d.read (λ behind. s.checks behind ∙ ap (λ x. checked_from x behind) e) h.1 d.all;
      input = λ p. d.out (passes_end f n h.0 (subst Passes (sym h.1) p));
    }

-- the source failed
told_fault : (x : Failed) (n : ℕ) (es : List Item) (left : Option (List ℕ)) (read : List ℕ)
    → ((behind : List Item) → checked (es ++ behind) ≡ checked_from n behind)
    → IfSome left (λ bytes. AllFound (Err x) es bytes read) → IfSome left (λ bytes. FoundIn (Err x) bytes read)
told_fault x n es None read s a = tt
told_fault x n es (Some bytes) read s a = (subst GoesOn (sym (ap checked (a.0 ∙ sym (append-nil es)) ∙ s [])) tt, a.1)

pub check_fault : (x y : Failed) (n : ℕ) (r r' : Items) (left mid rest : Option (List ℕ)) → CheckSoFar r n left mid
    → Finds (Err x) r r' mid rest → Finding (Err y) left rest
check_fault x y n r r' left mid rest s t =
    let d = reader.ended_broken x s.items r r' left mid rest s.found t in
    record { read = d.read; consumed = d.consumed; found = told_fault x n s.items left d.read s.checks d.all; input = tt }

-- what was written
pub wrote_all : (good : Status) (bytes : List ℕ) (old new : Option (List ℕ)) → good ≢ statuses.WriteFault → Appends old new bytes
    → WroteText good good bytes old new
wrote_all good bytes old new n a = record { wrote = bytes; appended = a; complete = by good n }
  where
    by : (st : Status) → st ≢ statuses.WriteFault → StatusFor st st bytes bytes
    by statuses.WriteFault n = absurd (n refl)
    by statuses.Done n = (refl, refl)
    by statuses.Usage n = (refl, refl)
    by statuses.Refused n = (refl, refl)
    by statuses.ReadFault n = (refl, refl)
    by statuses.NoMemory n = (refl, refl)
    by statuses.TooLong n = (refl, refl)

pub wrote_begun : (good : Status) (bytes : List ℕ) (old new : Option (List ℕ)) → (wrote : List ℕ) × Wrote old new wrote bytes
    → WroteText statuses.WriteFault good bytes old new
wrote_begun good bytes old new w = record { wrote = w.0; appended = w.1.appended; complete = w.1.rest }

ran_by : (st good : Status) (bytes w : List ℕ) → WasRun good → StatusFor st good bytes w → WasRun st
ran_by statuses.Usage good bytes w r f = subst WasRun (sym f.0) r
ran_by statuses.NoMemory good bytes w r f = subst WasRun (sym f.0) r
ran_by _ good bytes w r f = tt

done_by : (st : Status) (c : Checked) (bytes w : List ℕ) → Passes c → bytes ≡ checked_text c → StatusFor st statuses.Done bytes w → CheckedAs st c w
done_by statuses.Done c bytes w p e f = (p, sym e ∙ f.1)
done_by statuses.WriteFault c bytes w p e f = (f.0, sym e ∙ f.1)
done_by statuses.Usage c bytes w p e f = absurd (let k : statuses.Usage ≡ statuses.Done = f.0 in cc)
done_by statuses.Refused c bytes w p e f = absurd (let k : statuses.Refused ≡ statuses.Done = f.0 in cc)
done_by statuses.ReadFault c bytes w p e f = absurd (let k : statuses.ReadFault ≡ statuses.Done = f.0 in cc)
done_by statuses.NoMemory c bytes w p e f = absurd (let k : statuses.NoMemory ≡ statuses.Done = f.0 in cc)
done_by statuses.TooLong c bytes w p e f = absurd (let k : statuses.TooLong ≡ statuses.Done = f.0 in cc)

refused_as : (st : Status) (c : Checked) (bytes w : List ℕ) → Fails c → bytes ≡ checked_text c → StatusFor st statuses.Refused bytes w → CheckedAs st c w
refused_as statuses.Refused c bytes w p e f = (p, sym e ∙ f.1)
refused_as statuses.WriteFault c bytes w p e f = (f.0, sym e ∙ f.1)
refused_as statuses.Usage c bytes w p e f = absurd (let k : statuses.Usage ≡ statuses.Refused = f.0 in cc)
refused_as statuses.Done c bytes w p e f = absurd (let k : statuses.Done ≡ statuses.Refused = f.0 in cc)
refused_as statuses.ReadFault c bytes w p e f = absurd (let k : statuses.ReadFault ≡ statuses.Refused = f.0 in cc)
refused_as statuses.NoMemory c bytes w p e f = absurd (let k : statuses.NoMemory ≡ statuses.Refused = f.0 in cc)
refused_as statuses.TooLong c bytes w p e f = absurd (let k : statuses.TooLong ≡ statuses.Refused = f.0 in cc)

pub reported_ok : (st : Status) (c : Checked) (bytes : List ℕ) (old new : Option (List ℕ)) → Passes c → bytes ≡ checked_text c
    → WroteText st statuses.Done bytes old new → Reported st c old new
reported_ok st c bytes old new p e t = record {
  ran = ran_by st statuses.Done bytes t.wrote tt t.complete;
  wrote = t.wrote;
  appended = t.appended;
  reported = done_by st c bytes t.wrote p e t.complete;
}

pub reported_refused : (st : Status) (c : Checked) (bytes : List ℕ) (old new : Option (List ℕ)) → Fails c → bytes ≡ checked_text c
    → WroteText st statuses.Refused bytes old new → Reported st c old new
reported_refused st c bytes old new p e t = record {
  ran = ran_by st statuses.Refused bytes t.wrote tt t.complete;
  wrote = t.wrote;
  appended = t.appended;
  reported = refused_as st c bytes t.wrote p e t.complete;
}

pub reported_beyond : (out : Option (List ℕ)) → Reported statuses.TooLong TooLong out out
reported_beyond out = record { ran = tt; wrote = []; appended = Appends-nil out; reported = (refl, refl) }

-- the end of a check
as_check : (st : Status) (c : Checked) (bytes read w : List ℕ) → checked (events_of bytes) ≡ c → CheckedAs st c w → CheckOf st bytes read w
as_check statuses.Done c bytes read w e f = subst (λ x. CheckedAs statuses.Done x w) (sym e) f
as_check statuses.Refused c bytes read w e f = subst (λ x. CheckedAs statuses.Refused x w) (sym e) f
as_check statuses.TooLong c bytes read w e f = subst (λ x. CheckedAs statuses.TooLong x w) (sym e) f
as_check statuses.WriteFault c bytes read w e f = subst (λ x. CheckedAs statuses.WriteFault x w) (sym e) f
as_check _ c bytes read w e f = absurd f

told_check : (st : Status) (c : Checked) (left : Option (List ℕ)) (read w : List ℕ) → IfSome left (λ bytes. FoundIn (Ok c) bytes read) → CheckedAs st c w
    → IfSome left (λ bytes. CheckOf st bytes read w)
told_check st c None read w f r = tt
told_check st c (Some bytes) read w f r = as_check st c bytes read w f r

pub checks : (st : Status) (c : Checked) (left rest old new : Option (List ℕ)) → Finding (Ok c) left rest → Reported st c old new → Check st left rest old new
checks st c left rest old new f r = record {
  read = f.read;
  wrote = r.wrote;
  consumed = f.consumed;
  appended = r.appended;
  ran = r.ran;
  found = told_check st c left f.read r.wrote f.found r.reported;
  input = λ e. f.input ((subst (λ x. CheckedAs x c r.wrote) e r.reported).0);
}

told_broken : (e : Failed) (left : Option (List ℕ)) (read : List ℕ) → IfSome left (λ bytes. FoundIn (Err e) bytes read)
    → IfSome left (λ bytes. CheckOf statuses.ReadFault bytes read [])
told_broken e None read f = tt
told_broken e (Some bytes) read f = (f.0, f.1, refl)

pub check_breaks : (e : Failed) (left rest out : Option (List ℕ)) → Finding (Err e) left rest → Check statuses.ReadFault left rest out out
check_breaks e left rest out f = record {
  read = f.read;
  wrote = [];
  consumed = f.consumed;
  appended = Appends-nil out;
  ran = tt;
  found = told_broken e left f.read f.found;
  input = λ k. cc;
}
