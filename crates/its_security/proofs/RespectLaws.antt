-- A step of a stranger leaves what a job sees, except at a link or console at which the two meet.
use Rattle.std.specs.Prelude.{if◌then◌else◌, ◌==◌, ◌||◌, ◌≡◌, ◌≢◌, ◌⊎◌, ◌<◌, ℕ, zero, suc, Bool, true, false, not, Option, Some, None, IfSome, is_some, refl}
use Rattle.std.proofs.Common.{sym, ◌∙◌, ap, subst, arith, inl, inr}
use Rattle.std.proofs.lemmas.Bool.{cases_Bool, cases_eq, eq-eqb, ne_eqb, eqb-true, and_parts}
use Rattle.its_word.specs.Limits.{slots}
use Rattle.its_records.specs.Links.{link_end, link_left, end_left, is_alive, is_open}
use Rattle.its_records.specs.Tree.{climbs_to, is_below}
use Rattle.its_records.specs.declared.link.Link.{Link}
use Rattle.its_records.specs.declared.link.End.{End}
use Rattle.its_records.specs.declared.link.End.TheVariants.{Unopened, Opened, Closed}
use Rattle.its_records.proofs.ClimbLaws.{enough}
use Rattle.its_records.proofs.FreeLaws.{least_empty}
use Rattle.its_records.proofs.TreeLaws.{below_superior}
use Rattle.its_plain.specs.Call.File.{file_named}
use Rattle.its_plain.specs.Call.Step.{step}
use Rattle.its_plain.specs.Machine.Change.{channel_in, superiors, console_in, is_gone, job_after_removal, holder_after_removal, ends_after_removal, after_removal, with_inf, if_alive, standing_if}
use Rattle.its_plain.specs.Machine.{File, Pipe, Chan, Shut, TtyIn, TtyOut, Reads, Writes, On, Linked, Whole, Machine, limit}
use Rattle.its_stepped.specs.Forest.{OnInferior, end_at, Forest}
use Rattle.its_stepped.proofs.Keeping.ForestLaws.{forest_below, job_few, inferior_stands}
use Rattle.its_stepped.proofs.Keeping.JoinedLaws.{linked_at}
use Rattle.its_security.proofs.ReaderLaws.{file_stays}
use Rattle.its_security.specs.Alike.{SameThrough, SameAt, Alike}
use Rattle.its_security.specs.Respect.{Strangers, MeetsAtLink, by_end, by_name, by_removal, MeetsAtConsole, by_console, by_holder, StaysThrough, StaysAt, Respects, Unmet}
use Rattle.its_security.specs.Integrity.{with_inf_in, Removes, nobody, by_logout, by_uclose, JobMay, job_written, superior_informed, job_made, JobsMay, others_same, one_changes, ConsoleMay, bytes_same, byte_taken, byte_put, HolderMay, holder_same, console_taken, console_given, LinkMay, end_opened, word_sent, word_received, end_shut, LinksMay, links_same, one_link_changes, MayStep}
use Rattle.its_security.proofs.IntegrityLaws.{step_may}
use Rattle.its_security.proofs.OthersLaws.{open_at, left_same, slot_other, stays_below}

same_slot : (i s : ℕ) → Some i ≡ Some s → i ≡ s
same_slot i s e = cc

-- what a step of job k makes of another job, and of a link: it is as in what is left, or it changes
abbrev pub OtherJob : Machine → Machine → Machine → ℕ → ℕ → Type 0
OtherJob m l n k i = (n.jobs i ≡ l.jobs i) ⊎ ((l ≡ m) × JobMay m n k i)

abbrev pub OtherLink : Machine → Machine → Machine → ℕ → ℕ → Type 0
OtherLink m l n k i = (n.links i ≡ l.links i) ⊎ ((l ≡ m) × LinkMay m n k i)

other_job : (m l n : Machine) (k : ℕ) → JobsMay m l n k → (i : ℕ) → i ≢ k → OtherJob m l n k i
other_job m l n k (others_same e) i ne = inl (e i ne)
other_job m l n k (one_changes s apart none may rest) i ne = elim (cases_eq i s) [
  | inl at ↦ inr (none, subst (JobMay m n k) (sym at) may)
  | inr other ↦ inl (rest i ne other ∙ ap (λ (x : Machine). x.jobs i) (sym none))
]

other_link : (m l n : Machine) (k : ℕ) → LinksMay m l n k → (i : ℕ) → OtherLink m l n k i
other_link m l n k (links_same e) i = inl (e i)
other_link m l n k (one_link_changes s none may rest) i = elim (cases_eq i s) [
  | inl at ↦ inr (none, subst (LinkMay m n k) (sym at) may)
  | inr other ↦ inl (rest i other ∙ ap (λ (x : Machine). x.links i) (sym none))
]

-- who is below an inferior of k is below k
climb_up : (sup : ℕ → Option ℕ) (r k n : ℕ) (o : Option ℕ) → sup r ≡ Some k → climbs_to sup r n o ≡ true → climbs_to sup k (suc n) o ≡ true
unfolding climbs_to
climb_up sup r k zero o up h = cc
climb_up sup r k (suc n) None up h = cc
climb_up sup r k (suc n) (Some i) up h = go (i == r) refl h (climb_up sup r k n (sup i) up)
  where
    or_true : (b : Bool) → (b || true) ≡ true
    or_true true = refl
    or_true false = refl

    go : (b : Bool) → (i == r) ≡ b → (b || climbs_to sup r n (sup i)) ≡ true → (climbs_to sup r n (sup i) ≡ true → climbs_to sup k (suc n) (sup i) ≡ true)
        → ((i == k) || climbs_to sup k (suc n) (sup i)) ≡ true
    go true e h more =
        ap (λ (o : Option ℕ). (i == k) || climbs_to sup k (suc n) o) (ap sup (eqb-true i r e) ∙ up)
        ∙ ap (λ b. (i == k) || (b || climbs_to sup k n (sup k))) (eq-eqb k k refl) ∙ or_true (i == k)
    go false e h more = ap (λ b. (i == k) || b) (more h) ∙ or_true (i == k)

slots_few : (m : Machine) → Forest m → (k : ℕ) → IfSome (superiors m k) (λ s. s < slots)
slots_few m d k = go (superiors m k) (d.standing k)
  where
    go : (o : Option ℕ) → IfSome o (λ s. is_some (m.jobs s) ≡ true) → IfSome o (λ s. s < slots)
    go None h = tt
    go (Some s) h = job_few m d s h

climbs_few : (m : Machine) (k : ℕ) (o : Option ℕ) → Forest m → IfSome o (λ s. s < slots) → climbs_to (superiors m) k (suc slots) o ≡ true
    → climbs_to (superiors m) k slots o ≡ true
unfolding climbs_to
climbs_few m k None d few h = cc
climbs_few m k (Some i) d few h = enough (superiors m) k slots i (slots_few m d) few (omega arith) h

climbs_of : (sup : ℕ → Option ℕ) (r i : ℕ) → is_below sup r i ≡ true → climbs_to sup r slots (sup i) ≡ true
unfolding is_below
climbs_of sup r i h = (and_parts (not (i == r)) (climbs_to sup r slots (sup i)) h).1

below_of : (sup : ℕ → Option ℕ) (k i : ℕ) → i ≢ k → climbs_to sup k slots (sup i) ≡ true → is_below sup k i ≡ true
unfolding is_below
below_of sup k i ne h = rw (ne_eqb i k ne, h) refl

below_above : (m : Machine) (r k i : ℕ) → Forest m → superiors m r ≡ Some k → i ≢ k → is_below (superiors m) r i ≡ true → is_below (superiors m) k i ≡ true
below_above m r k i d up ne h =
    below_of (superiors m) k i ne (climbs_few m k (superiors m i) d (slots_few m d i)
    (climb_up (superiors m) r k slots (superiors m i) up (climbs_of (superiors m) r i h)))

-- two jobs that are strangers to each other
module _ (m : Machine) (j k : ℕ) (d : Forest m) (ne : j ≢ k) (apart : Strangers m j k) where
  no_inferior : superiors m j ≢ Some k
  no_inferior up = let no : false ≡ true = sym apart.not_below ∙ below_superior (superiors m) k j ne up in cc

  no_superior : superiors m k ≢ Some j
  no_superior up = let no : false ≡ true = sym apart.not_above ∙ below_superior (superiors m) j k (λ e. ne (sym e)) up in cc

  not_removed : (r : ℕ) → superiors m r ≡ Some k → is_gone (superiors m) r j ≡ false
  not_removed r up = go (j == r) (is_below (superiors m) r j) refl refl
    where
      go : (b c : Bool) → (j == r) ≡ b → is_below (superiors m) r j ≡ c → (b || c) ≡ false
      go true c e f = absurd (no_inferior (ap (superiors m) (eqb-true j r e) ∙ up))
      go false true e f = absurd (let no : false ≡ true = sym apart.not_below ∙ below_above m r k j d up ne f in cc)
      go false false e f = refl

  not_with : is_gone (superiors m) k j ≡ false
  not_with = rw (ne_eqb j k ne, apart.not_below) refl

  told_apart : (o : Option ℕ) (i : ℕ) (l : Machine) → superiors m k ≡ o → superiors m k ≢ Some i → (with_inf_in o l).jobs i ≡ l.jobs i
  told_apart None i l up far = refl
  told_apart (Some s) i l up far = slot_other l.jobs s i with_inf (λ e. far (up ∙ ap Some (sym e)))

  gone_job : (r i : ℕ) → is_gone (superiors m) r i ≡ false → superiors m r ≢ Some i → (after_removal (superiors m) r m).jobs i ≡ m.jobs i
  unfolding after_removal
  gone_job r i stays root = ap (λ b. job_after_removal (is_gone (superiors m) r) b (m.jobs i)) stays ∙ left_same m r i (m.jobs i) refl d stays root

  -- the job itself, in what is left
  own_left : (n l : Machine) → Removes m n k l → l.jobs j ≡ m.jobs j
  own_left n l nobody = refl
  own_left n l (by_logout gone) = told_apart (superiors m k) j _ refl no_superior ∙ gone_job k j not_with no_superior
  own_left n l (by_uclose i s at write is up) = gone_job s j (not_removed s up) (λ e. ne (sym (same_slot k j (sym up ∙ e))))

  -- and an inferior of its
  inferior_left : (n l : Machine) (s : ℕ) → superiors m s ≡ Some j → Removes m n k l → l.jobs s ≡ m.jobs s
  inferior_left n l s up nobody = refl
  inferior_left n l s up (by_logout gone) =
      told_apart (superiors m k) s _ refl (no_second s up) ∙ gone_job k s (stays_below (superiors m) k s j up not_with no_superior) (no_second s up)
    where
      no_second : (s : ℕ) → superiors m s ≡ Some j → superiors m k ≢ Some s
      no_second s up e = (let no : false ≡ true = sym apart.not_above
          ∙ below_above m s j k d up (λ e. ne (sym e)) (below_superior (superiors m) s k (λ i. no_superior (ap (superiors m) i ∙ up)) e) in cc)
  inferior_left n l s up (by_uclose i r at write is above) =
      gone_job r s (stays_below (superiors m) r s j up (not_removed r above) (λ e. ne (sym (same_slot k j (sym above ∙ e)))))
      (λ e. no_superior (subst (λ (i : ℕ). superiors m i ≡ Some j) (same_slot s k (sym e ∙ above)) up))

  not_changed : (n : Machine) (i : ℕ) → superiors m i ≢ Some k → superiors m k ≢ Some i → is_some (m.jobs i) ≡ true → JobMay m n k i → ⊥
  not_changed n i no_up no_down there (job_written q r leave is at w) = no_up leave.up
  not_changed n i no_up no_down there (superior_informed q up over is at) = no_down up
  not_changed n i no_up no_down there (job_made u x least none at) =
      let no : false ≡ true = sym (ap (λ (o : Option Whole). is_some o) (least_empty (limit m) m.jobs i least)) ∙ there in cc

  job_stays : (n l : Machine) (i : ℕ) → superiors m i ≢ Some k → superiors m k ≢ Some i → is_some (m.jobs i) ≡ true → l.jobs i ≡ m.jobs i
      → OtherJob m l n k i → n.jobs i ≡ m.jobs i
  job_stays n l i no_up no_down there e (inl f) = f ∙ e
  job_stays n l i no_up no_down there e (inr may) = absurd (not_changed n i no_up no_down there may.1)

-- a job that is not in what is left is gone
some_not_none : (o : Option Whole) → is_some o ≡ true → o ≢ None
some_not_none (Some q) h e = cc
some_not_none None h e = cc

some_left : (m : Machine) (s k : ℕ) → is_gone (superiors m) s k ≡ false → is_some (m.jobs k) ≡ true → (after_removal (superiors m) s m).jobs k ≢ None
unfolding after_removal
some_left m s k e there none = go (m.jobs k) there (sym (ap (λ b. job_after_removal (is_gone (superiors m) s) b (m.jobs k)) e) ∙ none)
  where
    go : (o : Option Whole) → is_some o ≡ true → job_after_removal (is_gone (superiors m) s) false o ≡ None → ⊥
    go (Some q) h e = cc
    go None h e = cc

gone_by : (m n l : Machine) (k g : ℕ) → is_some (m.jobs g) ≡ true → l.jobs g ≡ None → OtherJob m l n k g → n.jobs g ≡ None
gone_by m n l k g there none (inl e) = e ∙ none
gone_by m n l k g there none (inr may) = absurd (some_not_none (m.jobs g) there (ap (λ (x : Machine). x.jobs g) (sym may.0) ∙ none))

gone_now : (m n : Machine) (k g : ℕ) (l : Machine) → Forest m → is_some (m.jobs g) ≡ true → Removes m n k l → l.jobs g ≡ None
    → ((g ≢ k) → OtherJob m l n k g) → n.jobs g ≡ None
gone_now m n k g l d there nobody none may = absurd (some_not_none (m.jobs g) there none)
gone_now m n k g l d there (by_logout gone) none may = elim (cases_eq g k) [
  | inl at ↦ ap n.jobs at ∙ gone
  | inr other ↦ gone_by m n _ k g there none (may other)
]
gone_now m n k g l d there (by_uclose i s at write is up) none may = elim (cases_eq g k) [
  | inl same ↦ absurd (some_left m s k (forest_below m s k d up) (subst (λ (i : ℕ). is_some (m.jobs i) ≡ true) same there)
      (subst (λ (i : ℕ). (after_removal (superiors m) s m).jobs i ≡ None) same none))
  | inr other ↦ gone_by m n _ k g there none (may other)
]

-- what of a removal is seen at a link whose end is open at a job that stays
removed_jobs : (m : Machine) (r g : ℕ) → is_gone (superiors m) r g ≡ true → (after_removal (superiors m) r m).jobs g ≡ None
unfolding after_removal
removed_jobs m r g e = ap (λ b. job_after_removal (is_gone (superiors m) r) b (m.jobs g)) e

told_none : (o : Option ℕ) (g : ℕ) (l : Machine) → l.jobs g ≡ None → (with_inf_in o l).jobs g ≡ None
told_none None g l e = e
told_none (Some s) g l e = elim (cases_Bool (g == s)) [ inl t ↦ rw (t, e) refl | inr f ↦ rw f e ]

told_links : (o : Option ℕ) (l : Machine) → (with_inf_in o l).links ≡ l.links
told_links None l = refl
told_links (Some s) l = refl

told_holders : (o : Option ℕ) (l : Machine) → (with_inf_in o l).holders ≡ l.holders
told_holders None l = refl
told_holders (Some s) l = refl

removed_links : (m : Machine) (r l : ℕ) → (after_removal (superiors m) r m).links l ≡ ends_after_removal (is_gone (superiors m) r) (m.links l)
unfolding after_removal
removed_links m r l = refl

removed_holders : (m : Machine) (r c : ℕ) → (after_removal (superiors m) r m).holders c ≡ holder_after_removal (is_gone (superiors m) r)
    (superiors m r) (m.holders c)
unfolding after_removal
removed_holders m r c = refl

-- an end of a link stays, or its job is gone
pub data EndLeft (gone : ℕ → Bool) (e : End) : Type 0 where
  end_stays : end_left gone e ≡ e → EndLeft gone e
  end_goes : (g i : ℕ) → e ≡ Opened g i → gone g ≡ true → EndLeft gone e

end_by : (gone : ℕ → Bool) (e : End) → EndLeft gone e
end_by gone (Opened g i) = elim (cases_Bool (gone g)) [ inl t ↦ end_goes g i refl t | inr f ↦ end_stays (rw f refl) ]
end_by gone Unopened = end_stays refl
end_by gone Closed = end_stays refl

or_true : (b : Bool) → (b || true) ≡ true
or_true true = refl
or_true false = refl

open_alive : (write : Bool) (k : Link) (j i : ℕ) → link_end write k ≡ Opened j i → is_alive k ≡ true
open_alive true k j i e = ap (λ (x : End). is_open k.reader || is_open x) e ∙ or_true (is_open k.reader)
open_alive false k j i e = ap (λ (x : End). is_open x || is_open k.writer) e

link_by : (gone : ℕ → Bool) (p : Pipe) (j i : ℕ) (write : Bool) → link_end write p.link ≡ Opened j i → EndLeft gone p.link.reader → EndLeft gone p.link.writer
    → (if_alive (record p { link = link_left gone p.link }) ≡ Some p)
    ⊎ ((g : ℕ) × ((h : ℕ) × ((w : Bool) × ((link_end w p.link ≡ Opened g h) × (gone g ≡ true)))))
link_by gone p j i write open_ (end_stays a) (end_stays b) =
    let same : record p { link = link_left gone p.link } ≡ p = λ t. record p { link = record p.link { reader = a t; writer = b t } } in
    inl (ap if_alive same ∙ ap (λ b. standing_if b p) (open_alive write p.link j i open_))
link_by gone p j i write open_ (end_goes g h e t) b = inr (g, (h, (false, (e, t))))
link_by gone p j i write open_ a (end_goes g h e t) = inr (g, (h, (true, (e, t))))

module _ (m n : Machine) (j k : ℕ) (d : Forest m) (may : MayStep m k n) where
  end_there : (l g i : ℕ) (write : Bool) → end_at write (m.links l) ≡ Opened g i → is_some (m.jobs g) ≡ true
  end_there l g i write e = go (m.jobs g) (d.links.ends l g i write e)
    where
      go : (o : Option Whole) → channel_in o i ≡ Linked l write → is_some o ≡ true
      go (Some q) e = refl
      go None e = cc

  link_cut : (r l i : ℕ) (write : Bool) (o : Option Pipe) → m.links l ≡ o → end_at write o ≡ Opened j i
      → n.links l ≡ ends_after_removal (is_gone (superiors m) r) o
      → ((g : ℕ) → is_gone (superiors m) r g ≡ true → is_some (m.jobs g) ≡ true → n.jobs g ≡ None) → (n.links l ≡ m.links l) ⊎ MeetsAtLink m n k l
  link_cut r l i write None is open_ e out = cc
  link_cut r l i write (Some p) is open_ e out =
      go (link_by (is_gone (superiors m) r) p j i write open_ (end_by (is_gone (superiors m) r) p.link.reader)
      (end_by (is_gone (superiors m) r) p.link.writer))
    where
      go : (if_alive (record p { link = link_left (is_gone (superiors m) r) p.link }) ≡ Some p)
          ⊎ ((g : ℕ) × ((h : ℕ) × ((w : Bool) × ((link_end w p.link ≡ Opened g h) × (is_gone (superiors m) r g ≡ true)))))
          → (n.links l ≡ m.links l) ⊎ MeetsAtLink m n k l
      go (inl same) = inl (e ∙ same ∙ sym is)
      go (inr x) =
          let at : end_at x.1.1.0 (m.links l) ≡ Opened x.0 x.1.0 = ap (end_at x.1.1.0) is ∙ x.1.1.1.0 in
          inr (by_removal x.0 x.1.0 x.1.1.0 (open_at x.0 x.1.0 x.1.1.0 (m.links l) at) (out x.0 x.1.1.1.1 (end_there l x.0 x.1.0 x.1.1.0 at)))

  link_left_by : (l i : ℕ) (write : Bool) (o : Machine) → Removes m n k o → end_at write (m.links l) ≡ Opened j i → n.links l ≡ o.links l
      → ((g : ℕ) → g ≢ k → OtherJob m o n k g)
      → (n.links l ≡ m.links l) ⊎ MeetsAtLink m n k l
  link_left_by l i write o nobody open_ e jobs = inl e
  link_left_by l i write o (by_logout gone) open_ e jobs =
      link_cut k l i write (m.links l) refl open_ (e ∙ ap (λ (f : ℕ → Option Pipe). f l) (told_links (superiors m k) _) ∙ removed_links m k l)
      (λ g out there. gone_now m n k g _ d there (by_logout gone) (told_none (superiors m k) g _ (removed_jobs m k g out)) (jobs g))
  link_left_by l i write o (by_uclose x s at leave is up) open_ e jobs =
      link_cut s l i write (m.links l) refl open_ (e ∙ removed_links m s l)
      (λ g out there. gone_now m n k g _ d there (by_uclose x s at leave is up) (removed_jobs m s g out) (jobs g))

  link_respected : (l i : ℕ) (write : Bool) → end_at write (m.links l) ≡ Opened j i → OtherLink m may.left n k l → (n.links l ≡ m.links l)
      ⊎ MeetsAtLink m n k l
  link_respected l i write open_ (inl e) = link_left_by l i write may.left may.removes open_ e (other_job m may.left n k may.jobs)
  link_respected l i write open_ (inr (none, end_opened c x y w shut free named e)) = inr (by_name w free)
  link_respected l i write open_ (inr (none, word_sent c w at e)) = inr (by_end c true at)
  link_respected l i write open_ (inr (none, word_received c at e)) = inr (by_end c false at)
  link_respected l i write open_ (inr (none, end_shut c w at e)) = inr (by_end c w at)

  bytes_respected : (c : ℕ) → ConsoleMay m n k c → (n.consoles c ≡ m.consoles c) ⊎ (console_in (m.jobs k) ≡ Some c)
  bytes_respected c (bytes_same e) = inl e
  bytes_respected c (byte_taken u e) = inr u.own
  bytes_respected c (byte_put b u e) = inr u.own

  holder_cut : (r c : ℕ) (o : Option ℕ) → m.holders c ≡ o → n.holders c ≡ holder_after_removal (is_gone (superiors m) r) (superiors m r) o
      → ((g : ℕ) → is_gone (superiors m) r g ≡ true → is_some (m.jobs g) ≡ true → n.jobs g ≡ None) → (n.holders c ≡ m.holders c) ⊎ MeetsAtConsole m n k c
  holder_cut r c None is e out = inl (e ∙ sym is)
  holder_cut r c (Some h) is e out = elim (cases_Bool (is_gone (superiors m) r h)) [
    | inl t ↦ inr (by_holder h is (out h t (subst (λ (o : Option ℕ). IfSome o (λ s. is_some (m.jobs s) ≡ true)) is (d.holders c))))
    | inr f ↦ inl (e ∙ ap (λ b. if b then superiors m r else Some h) f ∙ sym is)
  ]

  holder_left_by : (c : ℕ) (o : Machine) → Removes m n k o → n.holders c ≡ o.holders c → ((g : ℕ) → g ≢ k → OtherJob m o n k g)
      → (n.holders c ≡ m.holders c) ⊎ MeetsAtConsole m n k c
  holder_left_by c o nobody e jobs = inl e
  holder_left_by c o (by_logout gone) e jobs =
      holder_cut k c (m.holders c) refl (e ∙ ap (λ (f : ℕ → Option ℕ). f c) (told_holders (superiors m k) _) ∙ removed_holders m k c)
      (λ g out there. gone_now m n k g _ d there (by_logout gone) (told_none (superiors m k) g _ (removed_jobs m k g out)) (jobs g))
  holder_left_by c o (by_uclose x s at leave is up) e jobs =
      holder_cut s c (m.holders c) refl (e ∙ removed_holders m s c)
      (λ g out there. gone_now m n k g _ d there (by_uclose x s at leave is up) (removed_jobs m s g out) (jobs g))

  holder_respected : (c : ℕ) → HolderMay m may.left n k c → (n.holders c ≡ m.holders c) ⊎ MeetsAtConsole m n k c
  holder_respected c (holder_same e) = holder_left_by c may.left may.removes e (other_job m may.left n k may.jobs)
  holder_respected c (console_taken none own take e) = inr (by_console own)
  holder_respected c (console_given s none own has up e) = inr (by_console own)

  console_respected : (o : Option ℕ) → StaysAt m n k o
  console_respected (Some c) = (bytes_respected c (may.consoles c), holder_respected c (may.holders c))
  console_respected None = tt

module _ (m n : Machine) (j k : ℕ) (d : Forest m) (may : MayStep m k n) (ne : j ≢ k) (apart : Strangers m j k) (there : is_some (m.jobs j) ≡ true) where
  not_one : (s : ℕ) → superiors m s ≡ Some j → s ≢ k
  not_one s up e = no_superior m j k d ne apart (ap (superiors m) (sym e) ∙ up)

  not_inferior : (s : ℕ) → superiors m s ≡ Some j → superiors m s ≢ Some k
  not_inferior s up e = ne (same_slot j k (sym up ∙ e))

  not_second : (s : ℕ) → superiors m s ≡ Some j → superiors m k ≢ Some s
  not_second s up e =
      let no : false ≡ true = sym apart.not_above ∙ below_above m s j k d up (λ e. ne (sym e))
      (below_superior (superiors m) s k (λ i. not_one s up (sym i)) e) in cc

  seen_respected : (i : ℕ) → i < 16 → (c : Chan) → channel_in (m.jobs j) i ≡ c → OnInferior m j c → StaysThrough m n k c
  seen_respected i few (On s write at) on up =
      job_stays m j k d ne apart n may.left s (not_inferior s up) (not_second s up) (inferior_stands m s j up)
      (inferior_left m j k d ne apart n may.left s up may.removes) (other_job m may.left n k may.jobs s (not_one s up))
  seen_respected i few (Reads x at) on up =
      λ f is. file_stays m n k j i at x f (job_few m d j there) few on may.files is
  seen_respected i few (Linked l write) on up =
      link_respected m n j k d may l i write (linked_at m j i l write d.links on).1 (other_link m may.left n k may.links l)
  seen_respected i few Shut on up = tt
  seen_respected i few TtyIn on up = tt
  seen_respected i few TtyOut on up = tt
  seen_respected i few (Writes f) on up = tt

  respected : Respects m n j k
  respected = record {
    own = job_stays m j k d ne apart n may.left j (no_inferior m j k d ne apart) (no_superior m j k d ne apart) there
        (own_left m j k d ne apart n may.left may.removes) (other_job m may.left n k may.jobs j ne);
    channels = λ i few. seen_respected i few (channel_in (m.jobs j) i) refl (d.channels j i);
    console = console_respected m n j k d may (console_in (m.jobs j));
    clock = may.clock;
  }

  -- if they meet nowhere
  module _ (u : Unmet m n j k) where
    seen_alike : (i : ℕ) (c : Chan) → channel_in (m.jobs j) i ≡ c → OnInferior m j c → SameThrough m n c
    seen_alike i (On s write at) on up =
        job_stays m j k d ne apart n may.left s (not_inferior s up) (not_second s up) (inferior_stands m s j up)
        (inferior_left m j k d ne apart n may.left s up may.removes) (other_job m may.left n k may.jobs s (not_one s up))
    seen_alike i (Reads x at) on up =
        let file = u.files i at x on in
        there_still (file_named x m.files) refl file.1 (λ f is. file_stays m n k j i at x f (job_few m d j there) file.0 on may.files is)
      where
        there_still : (o : Option File) → file_named x m.files ≡ o → is_some o ≡ true
            → ((f : File) → file_named x m.files ≡ Some f → file_named x n.files ≡ Some f) → file_named x n.files ≡ file_named x m.files
        there_still (Some f) is some h = h f is ∙ sym is
        there_still None is some h = cc
    seen_alike i (Linked l write) on up = go (link_respected m n j k d may l i write (linked_at m j i l write d.links on).1
        (other_link m may.left n k may.links l))
      where
        go : (n.links l ≡ m.links l) ⊎ MeetsAtLink m n k l → n.links l ≡ m.links l
        go (inl e) = e
        go (inr meets) = absurd (u.links i l write on meets)
    seen_alike i Shut on up = tt
    seen_alike i TtyIn on up = tt
    seen_alike i TtyOut on up = tt
    seen_alike i (Writes f) on up = tt

    console_alike : (o : Option ℕ) → console_in (m.jobs j) ≡ o → SameAt m n o
    console_alike (Some c) own = (bytes (bytes_respected m n j k d may c (may.consoles c)), holder (holder_respected m n j k d may c (may.holders c)))
      where
        bytes : (n.consoles c ≡ m.consoles c) ⊎ (console_in (m.jobs k) ≡ Some c) → n.consoles c ≡ m.consoles c
        bytes (inl e) = e
        bytes (inr also) = absurd (u.console c own also)

        holder : (n.holders c ≡ m.holders c) ⊎ MeetsAtConsole m n k c → n.holders c ≡ m.holders c
        holder (inl e) = e
        holder (inr meets) = absurd (u.holder c own meets)
    console_alike None own = tt

    unmet : Alike j m n
    unmet = record {
      own = respected.own;
      channels = λ i. seen_alike i (channel_in (m.jobs j) i) refl (d.channels j i);
      console = console_alike (console_in (m.jobs j)) refl;
      clock = may.clock;
    }

-- the theorems
pub step_apart : (m n : Machine) (j k : ℕ) → Forest m → step m k ≡ Some n → j ≢ k → Strangers m j k → is_some (m.jobs j) ≡ true → Unmet m n j k → Alike j m n
step_apart m n j k d e ne apart there u = unmet m n j k d (step_may m n k d e) ne apart there u

pub step_respects : (m n : Machine) (j k : ℕ) → Forest m → step m k ≡ Some n → j ≢ k → Strangers m j k → is_some (m.jobs j) ≡ true → Respects m n j k
step_respects m n j k d e ne apart there = respected m n j k d (step_may m n k d e) ne apart there
