-- The lines of the state part keep how jobs lie to each other.
use Rattle.std.specs.Prelude.{if◌then◌else◌, ◌==◌, ◌≡◌, ℕ, Bool, true, false, Option, Some, None, IfSome, is_some, option_map, List, [], ◌∷◌, refl}
use Rattle.std.proofs.Common.{sym, ◌∙◌, ap, subst}
use Rattle.std.proofs.lemmas.Bool.{and_parts, eqb-true}
use Rattle.std.proofs.lemmas.Option.{IfSome_then}
use Rattle.its_word.specs.Limits.{slots}
use Rattle.its_records.specs.Links.{link_end, is_unopened, is_link_named}
use Rattle.its_records.specs.Tree.{climbs_to}
use Rattle.its_records.specs.declared.link.End.{End}
use Rattle.its_records.specs.declared.link.End.TheVariants.{Unopened, Opened, Closed}
use Rattle.its_records.specs.declared.state_line.StateLine.{StateLine}
use Rattle.its_records.specs.declared.state_line.StateLine.TheVariants as states
use Rattle.its_records.proofs.CircleLaws.{edges, no_new_circle}
use Rattle.its_frame.specs.declared.change.Change.TheVariants as changes
use Rattle.its_plain.specs.Machine.{Chan, Shut, TtyIn, TtyOut, Reads, On, Linked, Pipe, Whole, Machine}
use Rattle.its_plain.specs.Machine.Change.{in_job, superior_in, superiors, channel_in, console_in, effect, effects}
use Rattle.its_plain.specs.Machine.Own.{names_of}
use Rattle.its_plain.specs.Operator.State.{under, on_tty, can_join, with_words_in}
use Rattle.its_plain.proofs.CallLineLaws.{LineKeeps, Restores, job_keeps, job_stays}
use Rattle.its_plain.proofs.RestoredLaws.{FitsOn, Opens, empty_draft, words_appended, Joins, SetsAlarm}
use Rattle.its_stepped.specs.Alarmed.{Coming}
use Rattle.its_stepped.specs.Forest.{OnInferior, OnConsole, end_at, Forest}
use Rattle.its_stepped.proofs.Keeping.ForestLaws.{jobs_forest, links_forest, slot_few, put_forest, effect_forest}
use Rattle.its_stepped.proofs.Keeping.JoinedLaws as joined
use Rattle.its_stepped.proofs.Keeping.JoinedLaws.{IsUnlinked, same_link, job_joined, words_joined, shut_joined}

-- a channel that is opened is shut before, and fits the job
shut_unlinked : (c : Chan) → c ≡ Shut → IsUnlinked c
shut_unlinked c e = subst IsUnlinked (sym e) tt

fits_unlinked : (m : Machine) (s : ℕ) (x : Chan) → FitsOn m s x → IsUnlinked x
fits_unlinked m s (Linked l write) h = h
fits_unlinked m s _ h = tt

fits_inferior : (m : Machine) (s : ℕ) (x : Chan) → FitsOn m s x → OnInferior m s x
fits_inferior m s (On t write at) h = h
fits_inferior m s _ h = tt

fits_console : (m : Machine) (s : ℕ) (x : Chan) → FitsOn m s x → OnConsole (console_in (m.jobs s)) x
fits_console m s TtyIn h = h
fits_console m s TtyOut h = h
fits_console m s _ h = tt

opened_forest : (m n : Machine) (s i : ℕ) (x : Chan) → Opens m s i x n → Forest m → Forest n
opened_forest m n s i x f d =
    subst Forest (sym f.is) (put_forest m s i x (shut_unlinked (channel_in (m.jobs s) i) f.shut) (fits_unlinked m s x f.fits)
    (fits_inferior m s x f.fits) (fits_console m s x f.fits) d)

-- words are added to a draft
appended_forest : (m : Machine) (s i : ℕ) (ws : List ℕ) → Forest m → Forest (effects (words_appended i ws) s m)
appended_forest m s i [] d = d
appended_forest m s i (w ∷ ws) d =
    appended_forest (effect (changes.Append i w) s m) s i ws (effect_forest (changes.Append i w) s m tt d)

-- an end of a link that nobody has opened is opened
unopened : (e : End) → is_unopened e ≡ true → e ≡ Unopened
unopened Unopened h = refl
unopened (Opened s i) h = cc
unopened Closed h = cc

joins_unopened : (x y : ℕ) (write : Bool) (o : Option Pipe) → can_join x y write o ≡ true → end_at write o ≡ Unopened
joins_unopened x y write (Some p) h =
    unopened (link_end write p.link) (and_parts (is_link_named x y p.link) (is_unopened (link_end write p.link)) h).1
joins_unopened x y write None h = refl

pub opens_end : (m n : Machine) (s i l : ℕ) (write : Bool) (x y : ℕ) → Joins m s i l write x y n → joined.Opens l i s write m
opens_end m n s i l write x y f = record {
  few = f.link;
  maker = f.job;
  free = shut_unlinked (channel_in (m.jobs s) i) f.shut;
  unopened = joins_unopened x y write (m.links l) f.fits;
}

-- a job gets a superior: it had none, so that no channel was on it
module _ (m : Machine) (s t : ℕ) (job : is_some (m.jobs s) ≡ true) (superior : is_some (m.jobs t) ≡ true) (top : superiors m s ≡ None)
    (apart : climbs_to (superiors m) s slots (Some t) ≡ false) (d : Forest m) where
  abbrev after : Machine
  after = in_job m s (under t)

  raised : (k : ℕ) → superiors after k ≡ edges (superiors m) s t top apart k
  raised k = by (k == s) refl
    where
      here : (o : Option Whole) → is_some o ≡ true → superior_in (option_map (under t) o) ≡ Some t
      here (Some q) h = refl
      here None h = cc

      by : (b : Bool) → (k == s) ≡ b
          → superior_in (if b then option_map (under t) (m.jobs k) else m.jobs k) ≡ (if b then Some t else superiors m k)
      by true e = here (m.jobs k) (subst (λ (i : ℕ). is_some (m.jobs i) ≡ true) (sym (eqb-true k s e)) job)
      by false e = refl

  raised_standing : (k : ℕ) → IfSome (superiors after k) (λ i. is_some (after.jobs i) ≡ true)
  raised_standing k = subst (λ (o : Option ℕ). IfSome o (λ i. is_some (after.jobs i) ≡ true)) (sym (raised k)) (by (k == s))
    where
      by : (b : Bool) → IfSome (if b then Some t else superiors m k) (λ i. is_some (after.jobs i) ≡ true)
      by true = job_stays m s (under t) t superior
      by false = IfSome_then (superiors m k) (d.standing k) (λ i h. job_stays m s (under t) i h)

  raised_circle : (k : ℕ) → climbs_to (superiors after) k slots (superiors after k) ≡ false
  raised_circle k = subst (λ (sup : ℕ → Option ℕ). climbs_to sup k slots (sup k) ≡ false) (λ x i. sym (raised i) x)
      (no_new_circle (superiors m) s t top apart d.circle k)

  raised_channel : (k i : ℕ) → channel_in (after.jobs k) i ≡ channel_in (m.jobs k) i
  raised_channel k i = by (k == s) (m.jobs k)
    where
      by : (b : Bool) (o : Option Whole) → channel_in (if b then option_map (under t) o else o) i ≡ channel_in o i
      by true (Some q) = refl
      by true None = refl
      by false o = refl

  raised_console : (k : ℕ) → console_in (after.jobs k) ≡ console_in (m.jobs k)
  raised_console k = by (k == s) (m.jobs k)
    where
      by : (b : Bool) (o : Option Whole) → console_in (if b then option_map (under t) o else o) ≡ console_in o
      by true (Some q) = refl
      by true None = refl
      by false o = refl

  raised_inferior : (x k : ℕ) → superiors m x ≡ Some k → superiors after x ≡ Some k
  raised_inferior x k h = raised x ∙ by (x == s) refl
    where
      by : (b : Bool) → (x == s) ≡ b → (if b then Some t else superiors m x) ≡ Some k
      by true e = absurd (let no : None ≡ Some k = sym top ∙ ap (superiors m) (sym (eqb-true x s e)) ∙ h in cc)
      by false e = h

  raised_on : (k : ℕ) (c : Chan) → OnInferior m k c → OnInferior after k c
  raised_on k (On x write at) h = raised_inferior x k h
  raised_on k _ h = tt

  raised_forest : Forest after
  raised_forest = record {
    few = λ k l. slot_few m.jobs s k (under t) (d.few k l);
    standing = raised_standing;
    circle = raised_circle;
    channels = λ k i. subst (OnInferior after k) (sym (raised_channel k i)) (raised_on k (channel_in (m.jobs k) i) (d.channels k i));
    consoles = λ k i. subst (λ (o : Option ℕ). OnConsole o (channel_in (after.jobs k) i)) (sym (raised_console k))
        (subst (OnConsole (console_in (m.jobs k))) (sym (raised_channel k i)) (d.consoles k i));
    holders = λ c. IfSome_then (m.holders c) (d.holders c) (λ i h. job_stays m s (under t) i h);
    links = job_joined m s (under t) (λ q is i. same_link _ _ refl) d.links;
  }

pub coming : (m n : Machine) (s period next : ℕ) → SetsAlarm m s period next n → Coming m.clock (period, next)
coming m n s period next f = record { some = f.some; most = f.most; next = f.later }

-- every line of the state part keeps how jobs lie to each other, if each other line does
module _ (line_forest : (m n : Machine) → LineKeeps m n → Forest m → Forest n) where
  pub restored_forest : (m n : Machine) (line : StateLine) → Restores m line n → Forest m → Forest n
  restored_forest m n (states.Job s u j console) f d = line_forest m n (job_keeps m n s u j console f) d
  restored_forest m n (states.Alarm s period next) f d =
      subst Forest (sym f.is) (effect_forest (changes.Arm (Some (period, next))) s m (coming m n s period next f) d)
  restored_forest m n (states.Under s t) f d = subst Forest (sym f.is) (raised_forest m s t f.job f.superior f.top f.apart d)
  restored_forest m n (states.Tty s i write) f d = opened_forest m n s i (on_tty write) f d
  restored_forest m n (states.Disk s i d1 x y at) f d = opened_forest m n s i (Reads (names_of d1 x y) at) f d
  restored_forest m n (states.Draft s i d1 x y) f d = opened_forest m n s i (empty_draft (names_of d1 x y)) f d
  restored_forest m n (states.Usr s i t write at) f d = opened_forest m n s i (On t write at) f d
  restored_forest m n (states.Wrote s i words) f d = subst Forest (sym f.is) (appended_forest m s i words.items d)
  restored_forest m n (states.Join s i l write x y) f d =
      subst Forest (sym f.is) (effect_forest (changes.Join i l write x y) s m (opens_end m n s i l write x y f) d)
  restored_forest m n (states.Sent l words) f d =
      subst Forest (sym f.is) (links_forest m _ (words_joined m l (with_words_in words.items) (λ p. refl) d.links) d)
  restored_forest m n (states.EndShut l write) f d = subst Forest (sym f.is) (links_forest m _ (shut_joined m l write f.unopened d.links) d)
  restored_forest m n (states.Input c bytes) f d = subst Forest (sym f.is) (jobs_forest m _ refl refl refl refl d)
  restored_forest m n (states.Output c bytes) f d = subst Forest (sym f.is) (jobs_forest m _ refl refl refl refl d)
  restored_forest m n (states.Hold c s) f d = subst Forest (sym f.is) (effect_forest (changes.Hold c s) s m f.job d)
  restored_forest m n line f d = line_forest m n f d
