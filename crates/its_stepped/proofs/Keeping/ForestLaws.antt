-- How jobs lie to each other: what it says of one job, and that the steps of the plain machine keep
-- it.
use Rattle.std.specs.Prelude.{if◌then◌else◌, ◌==◌, ◌≡◌, ◌≢◌, ◌≤◌, ◌<◌, ◌||◌, nat_lt, ℕ, suc, Bool, true, false, Option, Some, None, IfSome, is_some, option_map, List, [], ◌∷◌, refl}
use Rattle.std.proofs.Common.{sym, ◌∙◌, ap, subst, inl, inr, arith, eq-eqb}
use Rattle.std.proofs.lemmas.Bool.{cases_Bool, cases_eq, cases_lt, ne_eqb, or_parts}
use Rattle.std.proofs.lemmas.Option.{IfSome_then}
use Rattle.its_word.specs.Limits.{slots, limit_of}
use Rattle.its_records.specs.Tree.{climbs_to, is_below}
use Rattle.its_records.specs.declared.calls.Ask.{Ask}
use Rattle.its_records.proofs.TreeLaws.{climb_end}
use Rattle.its_records.proofs.FreeLaws.{limit_few}
use Rattle.its_records.proofs.ClimbLaws.{circle_cut, never, unpassed, enough, below_through}
use Rattle.its_frame.specs.declared.change.Change.{Change}
use Rattle.its_frame.specs.declared.change.Change.TheVariants as changes
use Rattle.its_frame.specs.declared.change.Opened.{Opened}
use Rattle.its_frame.specs.declared.change.Opened.TheVariants as opened
use Rattle.its_frame.specs.declared.decision.Decision.{Decision}
use Rattle.its_frame.specs.declared.decision.Decision.TheVariants.{Waits, Goes, Ends, Gone}
use Rattle.its_frame.specs.declared.decision.Held.{Held}
use Rattle.its_frame.specs.declared.frame.Frame.{Frame}
use Rattle.its_plain.specs.Call.Arguments.{with_new_values}
use Rattle.its_plain.specs.Call.Basic.{told_superior, channel_at}
use Rattle.its_plain.specs.Call.Step.{with_held, acted, decision, informs, step}
use Rattle.its_plain.specs.Machine.Change.{on_slot, in_job, is_gone, chan_after_removal, after_shut, job_after_removal, holder_after_removal, after_removal, channel_in, superior_in, superiors, inferior, effect, effects, console_in, with_inf, with_sent, with_received}
use Rattle.its_plain.specs.Unit.Interrupt.{delivered}
use Rattle.its_plain.specs.Machine.{Chan, Shut, TtyIn, TtyOut, Reads, Writes, On, Linked, Pipe, Whole, Machine, changed, no_machine, limit, with_new}
use Rattle.its_plain.specs.Machine.Own.{opened_on, at_position, with_word, on_channel}
use Rattle.its_stepped.specs.Alarmed.{Coming}
use Rattle.its_stepped.specs.Forest.{OnInferior, Forest, OnConsole, end_at, Joined}
use Rattle.its_stepped.specs.State.{State, seen, plain}
use Rattle.its_stepped.proofs.Frame.FrameLaws.{changed_only, on_slot_here, on_slot_other}
use Rattle.its_stepped.proofs.Committing.EffectLaws.{channel_seen, superiors_plain, console_seen}
use Rattle.its_stepped.proofs.Keeping.JoinedLaws.{IsUnlinked, SameLink, same_link, unlinked, joined_same, job_joined, joined_starts, words_joined, Opens, join_joined, part_joined, removed_joined}
use Rattle.its_plain.proofs.StepLaws.{AllOf, step_has}
use Rattle.its_plain.specs.Call.Decide.{reach}
use Rattle.its_stepped.proofs.Keeping.ConsoledLaws.{variable_console, held_console, unit_console, delivered_console}

-- a job is not its own superior, and has no channel on itself
pub record ApartJob (j : ℕ) (q : Whole) : Type 0 where
  pub superior : q.superior ≢ Some j
  pub channel : (n s at : ℕ) (write : Bool) → q.channels n ≡ On s write at → s ≢ j

-- no job has a slot past those that there are
pub forest_few : (m : Machine) → Forest m → (k : ℕ) → slots ≤ k → m.jobs k ≡ None
forest_few m d k l = let few = limit_few m.version in d.few k (omega arith)

-- a superior has one of the slots that there are
pub job_few : (m : Machine) → Forest m → (s : ℕ) → is_some (m.jobs s) ≡ true → s < slots
job_few m d s h = elim (cases_lt s slots) [
  | inl t ↦ t
  | inr f ↦ absurd (let none : false ≡ true = ap is_some (sym (forest_few m d s f)) ∙ h in cc)
]

superior_few : (m : Machine) → Forest m → (k : ℕ) → IfSome (superiors m k) (λ s. s < slots)
superior_few m d k = go (superiors m k) (d.standing k)
  where
    go : (o : Option ℕ) → IfSome o (λ s. is_some (m.jobs s) ≡ true) → IfSome o (λ s. s < slots)
    go None h = tt
    go (Some s) h = job_few m d s h

-- a job from which s is not reached in one step more is not s, and s is not reached from its
-- superior
unreached : (sup : ℕ → Option ℕ) (s n k : ℕ) → climbs_to sup s (suc n) (Some k) ≡ false → (k ≢ s) × (climbs_to sup s n (sup k) ≡ false)
unfolding climbs_to
unreached sup s n k h =
    let both = or_parts (k == s) (climbs_to sup s n (sup k)) h in
    ((λ e. let t : false ≡ true = sym both.0 ∙ eq-eqb k s e in cc), both.1)

-- one step more reaches no other job
unreached_more : (m : Machine) → Forest m → (s k : ℕ) → k < slots → climbs_to (superiors m) s slots (Some k) ≡ false
    → climbs_to (superiors m) s (suc slots) (Some k) ≡ false
unreached_more m d s k l h = elim (cases_Bool (climbs_to (superiors m) s (suc slots) (Some k))) [
  | inl t ↦ absurd (let no : false ≡ true = sym h ∙ enough (superiors m) s slots k (superior_few m d) l (omega arith) t in cc)
  | inr f ↦ f
]

not_gone : (sup : ℕ → Option ℕ) (s k : ℕ) → k ≢ s → climbs_to sup s slots (sup k) ≡ false → is_gone sup s k ≡ false
unfolding is_below
not_gone sup s k ne h = rw (ne_eqb k s ne, h) refl

-- a job is neither its inferior nor below it
pub forest_below : (m : Machine) (s j : ℕ) → Forest m → superiors m s ≡ Some j → is_gone (superiors m) s j ≡ false
forest_below m s j d e =
    let few : j < slots = subst (λ o. IfSome o (λ i. i < slots)) e (superior_few m d s) in
    let circle : climbs_to (superiors m) s slots (Some j) ≡ false = subst (λ o. climbs_to (superiors m) s slots o ≡ false) e (d.circle s) in
    let both = unreached (superiors m) s slots j (unreached_more m d s j few circle) in
    not_gone (superiors m) s j both.0 both.1

not_own : (m : Machine) (j : ℕ) → Forest m → superiors m j ≢ Some j
not_own m j d e = let no : false ≡ true = sym (forest_below m j j d e) ∙ ap (λ b. b || is_below (superiors m) j j) (eq-eqb j j refl) in cc

-- a channel on a job is on an inferior
each_on : (m : Machine) (j : ℕ) (q : Whole) (n : ℕ) → Forest m → m.jobs j ≡ Some q → OnInferior m j (q.channels n)
each_on m j q n d is = subst (λ (o : Option Whole). OnInferior m j (channel_in o n)) is (d.channels j n)

pub channel_of : (m : Machine) (j : ℕ) (q : Whole) (n : ℕ) → Forest m → m.jobs j ≡ Some q → OnInferior m j (channel_at q.channels n)
channel_of m j q n d is = go (nat_lt n 16)
  where
    go : (b : Bool) → OnInferior m j (if b then q.channels n else Shut)
    go true = each_on m j q n d is
    go false = tt

pub on_inferior : (m : Machine) (j : ℕ) (q : Whole) (n s at : ℕ) (write : Bool) → Forest m → m.jobs j ≡ Some q
    → channel_at q.channels n ≡ On s write at → superiors m s ≡ Some j
on_inferior m j q n s at write d is e = subst (OnInferior m j) e (channel_of m j q n d is)

-- an inferior is a job
pub inferior_stands : (m : Machine) (s j : ℕ) → superiors m s ≡ Some j → is_some (m.jobs s) ≡ true
inferior_stands m s j h = go (m.jobs s) h
  where
    go : (o : Option Whole) → superior_in o ≡ Some j → is_some o ≡ true
    go (Some q) e = refl
    go None e = cc

-- a job is apart from its superior and from those that it has channels on
pub apart_job : (m : Machine) (j : ℕ) (q : Whole) → Forest m → m.jobs j ≡ Some q → ApartJob j q
apart_job m j q d is = record {
  superior = λ e. not_own m j d (ap superior_in is ∙ e);
  channel = λ n s at write e same. not_own m j d (subst (λ (i : ℕ). superiors m i ≡ Some j) same (subst (OnInferior m j) e (each_on m j q n d is)));
}

-- at the start of a session
pub forest_starts : Forest no_machine
unfolding no_machine
forest_starts = record {
  few = λ k h. refl;
  standing = λ k. tt;
  circle = λ k. climb_end (λ i. None) k slots;
  channels = λ k n. tt;
  consoles = λ k n. tt;
  holders = λ c. tt;
  links = joined_starts;
}

-- a machine with the superiors of another and with all its jobs, whose channels are on inferiors
-- and on the consoles of their jobs, whose holders are jobs, and whose links and channels agree
pub record SameTree (m n : Machine) : Type 0 where
  pub few : (k : ℕ) → limit n ≤ k → n.jobs k ≡ None
  pub tree : (k : ℕ) → superiors n k ≡ superiors m k
  pub jobs : (k : ℕ) → is_some (m.jobs k) ≡ true → is_some (n.jobs k) ≡ true
  pub channels : (k i : ℕ) → OnInferior m k (channel_in (n.jobs k) i)
  pub consoles : (k i : ℕ) → OnConsole (console_in (n.jobs k)) (channel_in (n.jobs k) i)
  pub holders : (c : ℕ) → IfSome (n.holders c) (λ s. is_some (n.jobs s) ≡ true)
  pub links : Joined n

on_alike : (m n : Machine) (k : ℕ) (c : Chan) → ((s : ℕ) → superiors m s ≡ Some k → superiors n s ≡ Some k) → OnInferior m k c → OnInferior n k c
on_alike m n k (On s write at) h o = h s o
on_alike m n k _ h o = tt

pub same_forest : (m n : Machine) → SameTree m n → Forest m → Forest n
same_forest m n h d = record {
  few = h.few;
  standing = λ k. subst (λ (o : Option ℕ). IfSome o (λ s. is_some (n.jobs s) ≡ true)) (sym (h.tree k))
      (IfSome_then (superiors m k) (d.standing k) (λ s x. h.jobs s x));
  circle = λ k. subst (λ (sup : ℕ → Option ℕ). climbs_to sup k slots (sup k) ≡ false) (λ t i. sym (h.tree i) t) (d.circle k);
  channels = λ k i. on_alike m n k (channel_in (n.jobs k) i) (λ s e. h.tree s ∙ e) (h.channels k i);
  consoles = h.consoles;
  holders = h.holders;
  links = h.links;
}

-- another machine with the same jobs, holders and links
pub jobs_forest : (m n : Machine) → n.jobs ≡ m.jobs → n.holders ≡ m.holders → n.version ≡ m.version → n.links ≡ m.links → Forest m → Forest n
jobs_forest m n e f v g d = same_forest m n
    (record {
      few = λ k l. ap (λ (jobs : ℕ → Option Whole). jobs k) e ∙ d.few k (subst (λ (i : ℕ). limit_of i ≤ k) v l);
      tree = λ k. ap (λ (jobs : ℕ → Option Whole). superior_in (jobs k)) e;
      jobs = λ k h. ap (λ (jobs : ℕ → Option Whole). is_some (jobs k)) e ∙ h;
      channels = λ k i. subst (λ (jobs : ℕ → Option Whole). OnInferior m k (channel_in (jobs k) i)) (sym e) (d.channels k i);
      consoles = λ k i. subst (λ (jobs : ℕ → Option Whole). OnConsole (console_in (jobs k)) (channel_in (jobs k) i)) (sym e) (d.consoles k i);
      holders = λ c. subst (λ (o : Option ℕ). IfSome o (λ s. is_some (n.jobs s) ≡ true)) (sym (ap (λ (h : ℕ → Option ℕ). h c) f))
          (IfSome_then (m.holders c) (d.holders c) (λ s h. ap (λ (jobs : ℕ → Option Whole). is_some (jobs s)) e ∙ h));
      links = joined_same m n (λ k i. same_link _ _ (ap (λ (jobs : ℕ → Option Whole). channel_in (jobs k) i) e))
          (λ l write. ap (λ (ls : ℕ → Option Pipe). end_at write (ls l)) g) d.links;
    })
    d

-- a channel of the same job under other names
on_console : {c e : Option ℕ} {a b : Chan} → c ≡ e → a ≡ b → OnConsole c a → OnConsole e b
on_console {e = e} {a = a} h g o = subst (OnConsole e) g (subst (λ (x : Option ℕ). OnConsole x a) h o)

-- the raw machine
seen_none : (f : Option Frame) (o : Option Whole) → option_map (seen f) o ≡ None → o ≡ None
seen_none f None e = refl
seen_none f (Some q) e = cc

seen_some : (f : Option Frame) (o : Option Whole) → is_some (option_map (seen f) o) ≡ true → is_some o ≡ true
seen_some f None e = e
seen_some f (Some q) e = refl

pub forest_raw : (w : State) → Forest (plain w) → Forest w.raw
unfolding plain
forest_raw w d = same_forest (plain w) w.raw
    (record {
      few = λ k l. seen_none (w.frames k) (w.raw.jobs k) (d.few k l);
      tree = λ k. ap (λ (sup : ℕ → Option ℕ). sup k) (sym (superiors_plain w));
      jobs = λ k h. seen_some (w.frames k) (w.raw.jobs k) h;
      channels = λ k i. subst (OnInferior (plain w) k) (channel_seen (w.frames k) (w.raw.jobs k) i) (d.channels k i);
      consoles = λ k i. on_console (console_seen (w.frames k) (w.raw.jobs k)) (channel_seen (w.frames k) (w.raw.jobs k) i) (d.consoles k i);
      holders = λ c. IfSome_then (w.raw.holders c) (d.holders c) (λ s h. seen_some (w.frames s) (w.raw.jobs s) h);
      links = joined_same (plain w) w.raw (λ k i. same_link _ _ (sym (channel_seen (w.frames k) (w.raw.jobs k) i))) (λ l write. refl) d.links;
    })
    d

-- one job changed: its superior stays, and its channels are on inferiors and on its console
record Lies (m : Machine) (s : ℕ) (f : Whole → Whole) : Type 0 where
  superior : (q : Whole) → (f q).superior ≡ q.superior
  channels : (q : Whole) → ((i : ℕ) → OnInferior m s (q.channels i)) → (i : ℕ) → OnInferior m s ((f q).channels i)
  consoles : (q : Whole) → m.jobs s ≡ Some q → ((i : ℕ) → OnConsole q.job.console (q.channels i)) → (i : ℕ) → OnConsole (f q).job.console ((f q).channels i)

-- and its channels are on the links that they were on
record Keeps (m : Machine) (s : ℕ) (f : Whole → Whole) : Type 0 where
  lies : Lies m s f
  links : (q : Whole) → m.jobs s ≡ Some q → (i : ℕ) → SameLink (q.channels i) ((f q).channels i)

pub slot_few : (jobs : ℕ → Option Whole) (s k : ℕ) (f : Whole → Whole) → jobs k ≡ None → on_slot jobs s f k ≡ None
slot_few jobs s k f h = elim (cases_eq k s) [
  | inl e ↦ subst (λ (i : ℕ). jobs i ≡ None → on_slot jobs s f i ≡ None) (sym e) (λ none. on_slot_here jobs s f ∙ ap (option_map f) none) h
  | inr ne ↦ on_slot_other jobs s k f ne ∙ h
]

slot_superior : (f : Whole → Whole) (b : Bool) (o : Option Whole) → ((q : Whole) → (f q).superior ≡ q.superior)
    → superior_in (if b then option_map f o else o) ≡ superior_in o
slot_superior f true (Some q) h = h q
slot_superior f true None h = refl
slot_superior f false o h = refl

slot_some : (f : Whole → Whole) (b : Bool) (o : Option Whole) → is_some o ≡ true → is_some (if b then option_map f o else o) ≡ true
slot_some f true (Some q) h = refl
slot_some f true None h = h
slot_some f false o h = h

job_channels : (m : Machine) (s : ℕ) (f : Whole → Whole) → Lies m s f → (o : Option Whole) → ((i : ℕ) → OnInferior m s (channel_in o i)) → (i : ℕ)
    → OnInferior m s (channel_in (option_map f o) i)
job_channels m s f h (Some q) on i = h.channels q on i
job_channels m s f h None on i = tt

slot_channels : (m : Machine) (s k i : ℕ) (f : Whole → Whole) → Lies m s f → Forest m → OnInferior m k (channel_in (on_slot m.jobs s f k) i)
slot_channels m s k i f h d = elim (cases_eq k s) [
  | inl e ↦ subst (λ (x : ℕ). OnInferior m x (channel_in (on_slot m.jobs s f x) i)) (sym e)
      (subst (λ (o : Option Whole). OnInferior m s (channel_in o i)) (sym (on_slot_here m.jobs s f)) (job_channels m s f h (m.jobs s) (d.channels s) i))
  | inr ne ↦ subst (λ (o : Option Whole). OnInferior m k (channel_in o i)) (sym (on_slot_other m.jobs s k f ne)) (d.channels k i)
]

job_consoles : (m : Machine) (s : ℕ) (f : Whole → Whole) → Lies m s f → (o : Option Whole) → m.jobs s ≡ o
    → ((i : ℕ) → OnConsole (console_in o) (channel_in o i))
    → (i : ℕ) → OnConsole (console_in (option_map f o)) (channel_in (option_map f o) i)
job_consoles m s f h (Some q) is on i = h.consoles q is on i
job_consoles m s f h None is on i = tt

slot_consoles : (m : Machine) (s k i : ℕ) (f : Whole → Whole) → Lies m s f → Forest m
    → OnConsole (console_in (on_slot m.jobs s f k)) (channel_in (on_slot m.jobs s f k) i)
slot_consoles m s k i f h d = elim (cases_eq k s) [
  | inl e ↦ subst (λ (x : ℕ). OnConsole (console_in (on_slot m.jobs s f x)) (channel_in (on_slot m.jobs s f x) i)) (sym e)
      (subst (λ (o : Option Whole). OnConsole (console_in o) (channel_in o i)) (sym (on_slot_here m.jobs s f))
      (job_consoles m s f h (m.jobs s) refl (d.consoles s) i))
  | inr ne ↦ subst (λ (o : Option Whole). OnConsole (console_in o) (channel_in o i)) (sym (on_slot_other m.jobs s k f ne)) (d.consoles k i)
]

-- the links may be others, if they agree with its channels
placed_forest : (m : Machine) (s : ℕ) (f : Whole → Whole) (ls : ℕ → Option Pipe) → Lies m s f → Joined (record (in_job m s f) { links = ls })
    → Forest m
    → Forest (record (in_job m s f) { links = ls })
placed_forest m s f ls h joined d = same_forest m (record (in_job m s f) { links = ls })
    (record {
      few = λ k l. slot_few m.jobs s k f (d.few k l);
      tree = λ k. slot_superior f (k == s) (m.jobs k) h.superior;
      jobs = λ k x. slot_some f (k == s) (m.jobs k) x;
      channels = λ k i. slot_channels m s k i f h d;
      consoles = λ k i. slot_consoles m s k i f h d;
      holders = λ c. IfSome_then (m.holders c) (d.holders c) (λ i x. slot_some f (i == s) (m.jobs i) x);
      links = joined;
    })
    d

job_forest : (m : Machine) (s : ℕ) (f : Whole → Whole) → Keeps m s f → Forest m → Forest (in_job m s f)
job_forest m s f h d = placed_forest m s f m.links h.lies (job_joined m s f h.links d.links) d

-- the links alone changed
pub links_forest : (m : Machine) (ls : ℕ → Option Pipe) → Joined (record m { links = ls }) → Forest m → Forest (record m { links = ls })
links_forest m ls joined d = same_forest m (record m { links = ls })
    (record { few = d.few; tree = λ k. refl; jobs = λ k x. x; channels = d.channels; consoles = d.consoles; holders = d.holders; links = joined }) d

-- a change of a slot that leaves superior, channels and console keeps how jobs are related
calm : (m : Machine) (s : ℕ) (f : Whole → Whole) → ((q : Whole) → (f q).superior ≡ q.superior) → ((q : Whole) → (f q).channels ≡ q.channels)
    → ((q : Whole) → m.jobs s ≡ Some q → (f q).job.console ≡ q.job.console) → Keeps m s f
calm m s f e g h = record {
  lies = record {
    superior = e;
    channels = λ q on i. subst (λ (c : ℕ → Chan). OnInferior m s (c i)) (sym (g q)) (on i);
    consoles = λ q is on i. on_console (sym (h q is)) (ap (λ (c : ℕ → Chan). c i) (sym (g q))) (on i);
  };
  links = λ q is i. same_link _ _ (ap (λ (c : ℕ → Chan). c i) (g q));
}

-- a channel
record KeepsOn (m : Machine) (j : ℕ) (g : Chan → Chan) : Type 0 where
  inferior : (c : Chan) → OnInferior m j c → OnInferior m j (g c)
  console : (c : Chan) → OnConsole (console_in (m.jobs j)) c → OnConsole (console_in (m.jobs j)) (g c)

either_on : (m : Machine) (j : ℕ) (b : Bool) (c e : Chan) → OnInferior m j c → OnInferior m j e → OnInferior m j (if b then c else e)
either_on m j true c e x y = x
either_on m j false c e x y = y

either_console : (o : Option ℕ) (b : Bool) (c e : Chan) → OnConsole o c → OnConsole o e → OnConsole o (if b then c else e)
either_console o true c e x y = x
either_console o false c e x y = y

channel_lies : (m : Machine) (j n : ℕ) (g : Chan → Chan) → KeepsOn m j g → Lies m j (on_channel n g)
channel_lies m j n g h = record {
  superior = λ q. refl;
  channels = λ q on i. either_on m j (i == n) (g (q.channels n)) (q.channels i) (h.inferior (q.channels n) (on n)) (on i);
  consoles = λ q is on i. either_console q.job.console (i == n) (g (q.channels n)) (q.channels i)
      (subst (λ (o : Option Whole). OnConsole (console_in o) (q.channels n) → OnConsole (console_in o) (g (q.channels n))) is
      (h.console (q.channels n)) (on n)) (on i);
}

-- and on links
either_link : (i n : ℕ) (c e : Chan) (cs : ℕ → Chan) → cs n ≡ c → SameLink c e → SameLink (cs i) (if i == n then e else cs i)
either_link i n c e cs is h = elim (cases_eq i n) [
  | inl at ↦ rw (at, eq-eqb n n refl) (subst (λ (x : Chan). SameLink x e) (sym is) h)
  | inr ne ↦ rw (ne_eqb i n ne) (same_link _ _ refl)
]

channel_keeps : (m : Machine) (j n : ℕ) (g : Chan → Chan) → KeepsOn m j g → SameLink (channel_in (m.jobs j) n) (g (channel_in (m.jobs j) n))
    → Keeps m j (on_channel n g)
channel_keeps m j n g h k = record {
  lies = channel_lies m j n g h;
  links = λ q is i. either_link i n (q.channels n) (g (q.channels n)) q.channels refl
      (subst (λ (o : Option Whole). SameLink (channel_in o n) (g (channel_in o n))) is k);
}

shut_keeps : (m : Machine) (j : ℕ) → KeepsOn m j (λ c. Shut)
shut_keeps m j = record { inferior = λ c h. tt; console = λ c h. tt }

-- a channel that is on no link is put to another that fits the job
pub put_forest : (m : Machine) (s i : ℕ) (x : Chan) → IsUnlinked (channel_in (m.jobs s) i) → IsUnlinked x → OnInferior m s x
    → OnConsole (console_in (m.jobs s)) x → Forest m
    → Forest (in_job m s (on_channel i (λ c. x)))
put_forest m s i x was now inferior console d =
    job_forest m s _ (channel_keeps m s i (λ c. x) (record { inferior = λ c h. inferior; console = λ c h. console }) (unlinked _ _ was now)) d

-- a change that keeps jobs as they lie: a channel on a job is opened on an inferior, one on a
-- console if the job has one, a job that exists makes another in a free slot, an inferior is
-- removed, and a console is held by a job; a channel that is opened or closed is on no link; an end
-- of a link is opened that nobody has opened, and one is closed with its channel; and an alarm that
-- is set is to come
abbrev pub CanOpen : Opened → ℕ → Machine → Type 0
CanOpen (opened.Usr s write) j m = superiors m s ≡ Some j
CanOpen opened.TtyIn j m = is_some (console_in (m.jobs j)) ≡ true
CanOpen opened.TtyOut j m = is_some (console_in (m.jobs j)) ≡ true
CanOpen _ j m = Unit {0}

pub record MakesInferior (s j : ℕ) (m : Machine) : Type 0 where
  pub few : s < limit m
  pub free : m.jobs s ≡ None
  pub maker : is_some (m.jobs j) ≡ true

abbrev pub ChangeFits : Change → ℕ → Machine → Type 0
ChangeFits (changes.Open n on) j m = CanOpen on j m × IsUnlinked (channel_in (m.jobs j) n)
ChangeFits (changes.Shut n) j m = IsUnlinked (channel_in (m.jobs j) n)
ChangeFits (changes.Close n) j m = IsUnlinked (channel_in (m.jobs j) n)
ChangeFits (changes.Join n l write x y) j m = Opens l n j write m
ChangeFits (changes.CloseEnd n l write) j m = channel_in (m.jobs j) n ≡ Linked l write
ChangeFits (changes.Make s u n) j m = MakesInferior s j m
ChangeFits (changes.Remove s) j m = superiors m s ≡ Some j
ChangeFits (changes.Hold c s) j m = is_some (m.jobs s) ≡ true
ChangeFits (changes.Arm alarm) j m = IfSome alarm (λ a. Coming m.clock a)
ChangeFits _ j m = Unit {0}

abbrev pub AllFit : List Change → ℕ → Machine → Type 0
AllFit [] j m = Unit {0}
AllFit (c ∷ cs) j m = ChangeFits c j m × AllFit cs j (effect c j m)

opened_keeps : (m : Machine) (j : ℕ) (on : Opened) → CanOpen on j m → KeepsOn m j (λ c. opened_on on)
opened_keeps m j opened.TtyIn f = record { inferior = λ c h. tt; console = λ c h. f }
opened_keeps m j opened.TtyOut f = record { inferior = λ c h. tt; console = λ c h. f }
opened_keeps m j (opened.Reading d x y) f = record { inferior = λ c h. tt; console = λ c h. tt }
opened_keeps m j (opened.Writing d x y) f = record { inferior = λ c h. tt; console = λ c h. tt }
opened_keeps m j (opened.Usr s write) f = record { inferior = λ c h. f; console = λ c h. tt }

opened_free : (on : Opened) → IsUnlinked (opened_on on)
opened_free opened.TtyIn = tt
opened_free opened.TtyOut = tt
opened_free (opened.Reading d x y) = tt
opened_free (opened.Writing d x y) = tt
opened_free (opened.Usr s write) = tt

linked_keeps : (m : Machine) (j l : ℕ) (write : Bool) → KeepsOn m j (λ c. Linked l write)
linked_keeps m j l write = record { inferior = λ c h. tt; console = λ c h. tt }

moved_link : (at : ℕ) (c : Chan) → SameLink c (at_position at c)
moved_link at (Reads f p) = unlinked _ _ tt tt
moved_link at (On k w p) = unlinked _ _ tt tt
moved_link at Shut = same_link _ _ refl
moved_link at TtyIn = same_link _ _ refl
moved_link at TtyOut = same_link _ _ refl
moved_link at (Writes f) = same_link _ _ refl
moved_link at (Linked l write) = same_link _ _ refl

word_link : (x : ℕ) (c : Chan) → SameLink c (with_word x c)
word_link x (Writes f) = unlinked _ _ tt tt
word_link x (Reads f p) = same_link _ _ refl
word_link x (On k w p) = same_link _ _ refl
word_link x Shut = same_link _ _ refl
word_link x TtyIn = same_link _ _ refl
word_link x TtyOut = same_link _ _ refl
word_link x (Linked l write) = same_link _ _ refl

moved_keeps : (m : Machine) (j at : ℕ) → KeepsOn m j (at_position at)
moved_keeps m j at = record { inferior = inferior; console = console }
  where
    inferior : (c : Chan) → OnInferior m j c → OnInferior m j (at_position at c)
    inferior (On k w p) h = h
    inferior _ h = tt

    console : (c : Chan) → OnConsole (console_in (m.jobs j)) c → OnConsole (console_in (m.jobs j)) (at_position at c)
    console TtyIn h = h
    console TtyOut h = h
    console _ h = tt

word_keeps : (m : Machine) (j x : ℕ) → KeepsOn m j (with_word x)
word_keeps m j x = record { inferior = inferior; console = console }
  where
    inferior : (c : Chan) → OnInferior m j c → OnInferior m j (with_word x c)
    inferior (On k w p) h = h
    inferior _ h = tt

    console : (c : Chan) → OnConsole (console_in (m.jobs j)) c → OnConsole (console_in (m.jobs j)) (with_word x c)
    console TtyIn h = h
    console TtyOut h = h
    console _ h = tt

-- a console is held
either_some : (b : Bool) (s : ℕ) (o : Option ℕ) (P : ℕ → Type 0) → P s → IfSome o P → IfSome (if b then Some s else o) P
either_some true s o P x y = x
either_some false s o P x y = y

held_forest : (m : Machine) (c s : ℕ) → is_some (m.jobs s) ≡ true → Forest m → Forest (record m { holders = changed m.holders c (Some s) })
held_forest m c s h d = same_forest m _
    (record {
      few = d.few;
      tree = λ k. refl;
      jobs = λ k x. x;
      channels = d.channels;
      consoles = d.consoles;
      holders = λ k. either_some (k == c) s (m.holders k) (λ i. is_some (m.jobs i) ≡ true) h (d.holders k);
      links = joined_same m _ (λ k i. same_link _ _ refl) (λ l write. refl) d.links;
    })
    d

-- a job that is made: no job had its slot as superior, so none is reached through it
record Made (m n : Machine) (s j : ℕ) : Type 0 where
  tree : superiors n s ≡ Some j
  full : is_some (n.jobs s) ≡ true
  shut : (i : ℕ) → channel_in (n.jobs s) i ≡ Shut
  others : (k : ℕ) → k ≢ s → n.jobs k ≡ m.jobs k
  holders : (c : ℕ) → n.holders c ≡ m.holders c
  version : n.version ≡ m.version
  links : n.links ≡ m.links

module _ (m n : Machine) (s j : ℕ) (made : Made m n s j) (fits : MakesInferior s j m) (d : Forest m) where
  other_slot : (k : ℕ) → is_some (m.jobs k) ≡ true → k ≢ s
  other_slot k h e = let no : false ≡ true = ap is_some (sym fits.free) ∙ ap (λ (i : ℕ). is_some (m.jobs i)) (sym e) ∙ h in cc

  still_job : (k : ℕ) → is_some (m.jobs k) ≡ true → is_some (n.jobs k) ≡ true
  still_job k h = ap is_some (made.others k (other_slot k h)) ∙ h

  same_superior : (k : ℕ) → k ≢ s → superiors n k ≡ superiors m k
  same_superior k ne = ap superior_in (made.others k ne)

  nobody : (k : ℕ) → superiors m k ≢ Some s
  nobody k e = other_slot s (subst (λ (o : Option ℕ). IfSome o (λ i. is_some (m.jobs i) ≡ true)) e (d.standing k)) refl

  maker_apart : Some j ≢ Some s
  maker_apart e = other_slot j fits.maker (let same : j ≡ s = cc in same)

  nobody_then : (k : ℕ) → superiors n k ≢ Some s
  nobody_then k e = elim (cases_eq k s) [
    | inl at ↦ maker_apart (sym made.tree ∙ ap (λ (i : ℕ). superiors n i) (sym at) ∙ e)
    | inr ne ↦ nobody k (sym (same_superior k ne) ∙ e)
  ]

  made_standing : (k : ℕ) → IfSome (superiors n k) (λ i. is_some (n.jobs i) ≡ true)
  made_standing k = elim (cases_eq k s) [
    | inl at ↦ subst (λ (o : Option ℕ). IfSome o (λ i. is_some (n.jobs i) ≡ true)) (sym (ap (λ (i : ℕ). superiors n i) at ∙ made.tree))
        (still_job j fits.maker)
    | inr ne ↦ subst (λ (o : Option ℕ). IfSome o (λ i. is_some (n.jobs i) ≡ true)) (sym (same_superior k ne))
        (IfSome_then (superiors m k) (d.standing k) (λ i h. still_job i h))
  ]

  made_circle : (k : ℕ) → climbs_to (superiors n) k slots (superiors n k) ≡ false
  made_circle k = elim (cases_eq k s) [
    | inl at ↦ subst (λ (i : ℕ). climbs_to (superiors n) i slots (superiors n i) ≡ false) (sym at)
        (never (superiors n) s slots (superiors n s) nobody_then (nobody_then s))
    | inr ne ↦
        ap (λ (o : Option ℕ). climbs_to (superiors n) k slots o) (same_superior k ne)
        ∙ unpassed (superiors m) (superiors n) s k slots (superiors m k) same_superior nobody (nobody k)
        ∙ d.circle k
  ]

  kept_superior : (i k : ℕ) → superiors m i ≡ Some k → superiors n i ≡ Some k
  kept_superior i k h = same_superior i (λ at. let no : None ≡ Some k = sym (ap superior_in fits.free) ∙ ap (λ (x : ℕ). superiors m x) (sym at) ∙ h in cc) ∙ h

  made_channels : (k i : ℕ) → OnInferior n k (channel_in (n.jobs k) i)
  made_channels k i = elim (cases_eq k s) [
    | inl at ↦ subst (λ (x : ℕ). OnInferior n x (channel_in (n.jobs x) i)) (sym at) (subst (OnInferior n s) (sym (made.shut i)) tt)
    | inr ne ↦
        subst (λ (o : Option Whole). OnInferior n k (channel_in o i)) (sym (made.others k ne))
        (on_alike m n k (channel_in (m.jobs k) i) (λ x e. kept_superior x k e) (d.channels k i))
  ]

  made_consoles : (k i : ℕ) → OnConsole (console_in (n.jobs k)) (channel_in (n.jobs k) i)
  made_consoles k i = elim (cases_eq k s) [
    | inl at ↦ subst (λ (x : ℕ). OnConsole (console_in (n.jobs x)) (channel_in (n.jobs x) i)) (sym at)
        (subst (OnConsole (console_in (n.jobs s))) (sym (made.shut i)) tt)
    | inr ne ↦ subst (λ (o : Option Whole). OnConsole (console_in o) (channel_in o i)) (sym (made.others k ne)) (d.consoles k i)
  ]

  made_same : (k i : ℕ) → channel_in (n.jobs k) i ≡ channel_in (m.jobs k) i
  made_same k i = elim (cases_eq k s) [
    | inl at ↦ ap (λ (x : ℕ). channel_in (n.jobs x) i) at ∙ made.shut i
        ∙ sym (ap (λ (x : ℕ). channel_in (m.jobs x) i) at ∙ ap (λ (o : Option Whole). channel_in o i) fits.free)
    | inr ne ↦ ap (λ (o : Option Whole). channel_in o i) (made.others k ne)
  ]

  made_forest : Forest n
  made_forest = record {
    few = λ k l.
        let past : limit m ≤ k = subst (λ (i : ℕ). limit_of i ≤ k) made.version l in
        made.others k (λ at. let few = fits.few in omega (arith, few)) ∙ d.few k past;
    standing = made_standing;
    circle = made_circle;
    channels = made_channels;
    consoles = made_consoles;
    holders = λ c. subst (λ (o : Option ℕ). IfSome o (λ i. is_some (n.jobs i) ≡ true)) (sym (made.holders c))
        (IfSome_then (m.holders c) (d.holders c) (λ i h. still_job i h));
    links = joined_same m n (λ k i. same_link _ _ (made_same k i)) (λ l write. ap (λ (ls : ℕ → Option Pipe). end_at write (ls l)) made.links) d.links;
  }

makes : (m : Machine) (s j u n : ℕ) → Made m (with_new m s (inferior j (m.jobs j) u n)) s j
makes m s j u n =
    let only = changed_only m.jobs s (Some (inferior j (m.jobs j) u n)) in
    record {
      tree = ap superior_in only.here;
      full = ap is_some only.here;
      shut = λ i. ap (λ (o : Option Whole). channel_in o i) only.here;
      others = only.others;
      holders = λ c. refl;
      version = refl;
      links = refl;
    }

-- what OPEN makes is an inferior of the caller
pub made_inferior : (m : Machine) (s j u n : ℕ) → superiors (effect (changes.Make s u n) j m) s ≡ Some j
unfolding effect
made_inferior m s j u n = (makes m s j u n).tree

-- a removal: what is above a job that stays stays too, and so does the superior of the job that is
-- removed
left_few : (gone : ℕ → Bool) (b : Bool) (o : Option Whole) → o ≡ None → job_after_removal gone b o ≡ None
left_few gone true o h = refl
left_few gone false o h = ap (option_map (after_shut gone)) h

left_superior : (gone : ℕ → Bool) (b : Bool) (o : Option Whole) → superior_in (job_after_removal gone b o) ≡ (if b then None else superior_in o)
left_superior gone true o = refl
left_superior gone false None = refl
left_superior gone false (Some q) = refl

pub left_some : (gone : ℕ → Bool) (b : Bool) (o : Option Whole) → b ≡ false → is_some o ≡ true → is_some (job_after_removal gone b o) ≡ true
left_some gone true o e h = cc
left_some gone false None e h = h
left_some gone false (Some q) e h = refl

-- the superior of a job that stays stays
stays_above : (m : Machine) (r k i : ℕ) → Forest m → is_gone (superiors m) r k ≡ false → superiors m k ≡ Some i → is_gone (superiors m) r i ≡ false
stays_above m r k i d stays e =
    let both = or_parts (k == r) (is_below (superiors m) r k) stays in
    let apart : k ≢ r = λ at. let no : false ≡ true = sym both.0 ∙ eq-eqb k r at in cc in
    elim (cases_Bool (is_gone (superiors m) r i)) [
      | inl t ↦ absurd (let no : false ≡ true = sym both.1 ∙ below_through (superiors m) r k i (superior_few m d) apart e t in cc)
      | inr f ↦ f
    ]

module _ (m : Machine) (r : ℕ) (d : Forest m) where
  left_tree : (k : ℕ) → superiors (after_removal (superiors m) r m) k ≡ (if is_gone (superiors m) r k then None else superiors m k)
  unfolding after_removal
  left_tree k = left_superior (is_gone (superiors m) r) (is_gone (superiors m) r k) (m.jobs k)

  left_job_some : (k : ℕ) → is_gone (superiors m) r k ≡ false → is_some (m.jobs k) ≡ true → is_some ((after_removal (superiors m) r m).jobs k) ≡ true
  unfolding after_removal
  left_job_some k e h = left_some (is_gone (superiors m) r) (is_gone (superiors m) r k) (m.jobs k) e h

  left_standing : (k : ℕ) → IfSome (superiors (after_removal (superiors m) r m) k) (λ i. is_some ((after_removal (superiors m) r m).jobs i) ≡ true)
  left_standing k =
      subst (λ (o : Option ℕ). IfSome o (λ i. is_some ((after_removal (superiors m) r m).jobs i) ≡ true)) (sym (left_tree k))
      (go (is_gone (superiors m) r k) (superiors m k) refl refl (d.standing k))
    where
      go : (b : Bool) (o : Option ℕ) → is_gone (superiors m) r k ≡ b → superiors m k ≡ o → IfSome o (λ i. is_some (m.jobs i) ≡ true)
          → IfSome (if b then None else o) (λ i. is_some ((after_removal (superiors m) r m).jobs i) ≡ true)
      go true o e is h = tt
      go false None e is h = tt
      go false (Some i) e is h = left_job_some i (stays_above m r k i d e is) h

  left_on : (k : ℕ) (c : Chan) → OnInferior m k c → OnInferior (after_removal (superiors m) r m) k (chan_after_removal (is_gone (superiors m) r) c)
  left_on k (On s write at) h = go (is_gone (superiors m) r s) refl
    where
      go : (b : Bool) → is_gone (superiors m) r s ≡ b → OnInferior (after_removal (superiors m) r m) k (if b then Shut else On s write at)
      go true e = tt
      go false e = left_tree s ∙ ap (λ (b : Bool). if b then None else superiors m s) e ∙ h
  left_on k _ h = tt

  left_channel : (k i : ℕ) (b : Bool) (o : Option Whole) → OnInferior m k (channel_in o i)
      → OnInferior (after_removal (superiors m) r m) k (channel_in (job_after_removal (is_gone (superiors m) r) b o) i)
  left_channel k i true o h = tt
  left_channel k i false None h = tt
  left_channel k i false (Some q) h = left_on k (q.channels i) h

  left_open : (o : Option ℕ) (c : Chan) → OnConsole o c → OnConsole o (chan_after_removal (is_gone (superiors m) r) c)
  left_open o (On s write at) h = go (is_gone (superiors m) r s)
    where
      go : (b : Bool) → OnConsole o (if b then Shut else On s write at)
      go true = tt
      go false = tt
  left_open o TtyIn h = h
  left_open o TtyOut h = h
  left_open o _ h = tt

  left_console : (i : ℕ) (b : Bool) (o : Option Whole) → OnConsole (console_in o) (channel_in o i)
      → OnConsole (console_in (job_after_removal (is_gone (superiors m) r) b o)) (channel_in (job_after_removal (is_gone (superiors m) r) b o) i)
  left_console i true o h = tt
  left_console i false None h = tt
  left_console i false (Some q) h = left_open q.job.console (q.channels i) h

  heir_stays : (o : Option ℕ) → superiors m r ≡ o → IfSome o (λ i. is_some (m.jobs i) ≡ true)
      → IfSome o (λ i. is_some ((after_removal (superiors m) r m).jobs i) ≡ true)
  heir_stays (Some i) e h = left_job_some i (forest_below m r i d e) h
  heir_stays None e h = tt

  left_holder : (o : Option ℕ) → IfSome o (λ i. is_some (m.jobs i) ≡ true)
      → IfSome (holder_after_removal (is_gone (superiors m) r) (superiors m r) o) (λ i. is_some ((after_removal (superiors m) r m).jobs i) ≡ true)
  left_holder (Some s) h = go (is_gone (superiors m) r s) refl
    where
      go : (b : Bool) → is_gone (superiors m) r s ≡ b → IfSome (if b then superiors m r else Some s)
          (λ i. is_some ((after_removal (superiors m) r m).jobs i) ≡ true)
      go true e = heir_stays (superiors m r) refl (d.standing r)
      go false e = left_job_some s e h
  left_holder None h = tt

  removed_forest : Forest (after_removal (superiors m) r m)
  unfolding after_removal
  removed_forest = record {
    few = λ k l. left_few (is_gone (superiors m) r) (is_gone (superiors m) r k) (m.jobs k) (d.few k l);
    standing = left_standing;
    circle = circle_cut (superiors m) (superiors (after_removal (superiors m) r m)) (is_gone (superiors m) r) left_tree d.circle;
    channels = λ k i. left_channel k i (is_gone (superiors m) r k) (m.jobs k) (d.channels k i);
    consoles = λ k i. left_console i (is_gone (superiors m) r k) (m.jobs k) (d.consoles k i);
    holders = λ c. left_holder (m.holders c) (d.holders c);
    links = removed_joined m r d.links;
  }

-- a change
pub effect_forest : (c : Change) (j : ℕ) (m : Machine) → ChangeFits c j m → Forest m → Forest (effect c j m)
unfolding effect
effect_forest (changes.Open n on) j m f d =
    job_forest m j _ (channel_keeps m j n (λ c. opened_on on) (opened_keeps m j on f.0) (unlinked _ _ f.1 (opened_free on))) d
effect_forest (changes.Shut n) j m f d = job_forest m j _ (channel_keeps m j n (λ c. Shut) (shut_keeps m j) (unlinked _ _ f tt)) d
effect_forest (changes.Move n at) j m f d = job_forest m j _ (channel_keeps m j n (at_position at) (moved_keeps m j at) (moved_link at _)) d
effect_forest (changes.Append n x) j m f d = job_forest m j _ (channel_keeps m j n (with_word x) (word_keeps m j x) (word_link x _)) d
effect_forest (changes.Close n) j m f d =
    jobs_forest (in_job m j (on_channel n (λ c. Shut))) _ refl refl refl refl
    (job_forest m j _ (channel_keeps m j n (λ c. Shut) (shut_keeps m j) (unlinked _ _ f tt)) d)
effect_forest (changes.Hold c s) j m f d = held_forest m c s f d
effect_forest (changes.Poke s a x) j m f d = job_forest m s _ (calm m s _ (λ q. refl) (λ q. refl) (λ q is. refl)) d
effect_forest (changes.Set s v x) j m f d = job_forest m s _ (calm m s _ (λ q. refl) (λ q. refl) (λ q is. variable_console v x q.job)) d
effect_forest (changes.Map s k) j m f d = job_forest m s _ (calm m s _ (λ q. refl) (λ q. refl) (λ q is. refl)) d
effect_forest (changes.Unmap s k) j m f d = job_forest m s _ (calm m s _ (λ q. refl) (λ q. refl) (λ q is. refl)) d
effect_forest (changes.Protect s k on) j m f d = job_forest m s _ (calm m s _ (λ q. refl) (λ q. refl) (λ q is. refl)) d
effect_forest (changes.Make s u n) j m f d = made_forest m _ s j (makes m s j u n) f d
effect_forest (changes.Remove s) j m f d = removed_forest m s d
effect_forest (changes.Inform s) j m f d = job_forest m s _ (calm m s _ (λ q. refl) (λ q. refl) (λ q is. refl)) d
effect_forest (changes.Arm alarm) j m f d = job_forest m j _ (calm m j _ (λ q. refl) (λ q. refl) (λ q is. refl)) d
effect_forest (changes.Join n l write x y) j m f d =
    placed_forest m j (on_channel n (λ c. Linked l write)) _ (channel_lies m j n (λ c. Linked l write) (linked_keeps m j l write))
    (join_joined m l n j x y write f d.links) d
effect_forest (changes.CloseEnd n l write) j m f d =
    placed_forest m j (on_channel n (λ c. Shut)) _ (channel_lies m j n (λ c. Shut) (shut_keeps m j)) (part_joined m l n j write f d.links) d
effect_forest (changes.Send l x) j m f d = links_forest m _ (words_joined m l (with_sent x) (λ p. refl) d.links) d
effect_forest (changes.Receive l) j m f d = links_forest m _ (words_joined m l with_received (λ p. refl) d.links) d
effect_forest _ j m f d = jobs_forest m _ refl refl refl refl d

effects_forest : (cs : List Change) (j : ℕ) (m : Machine) → AllFit cs j m → Forest m → Forest (effects cs j m)
effects_forest [] j m f d = d
effects_forest (c ∷ cs) j m f d = effects_forest cs j (effect c j m) f.1 (effect_forest c j m f.0 d)

pub gone_forest : (m : Machine) (s j : ℕ) → Forest m → Forest (effect (changes.Remove s) j m)
unfolding effect
gone_forest m s j d = removed_forest m s d

-- a decision whose changes keep jobs as they lie; a job that goes reports to its superior
abbrev pub FitsAll : Decision → ℕ → Machine → Type 0
FitsAll (Waits r) j m = Unit {0}
FitsAll (Goes cs h vs) j m = AllFit cs.items j m
FitsAll (Ends cs ss e) j m = AllFit cs.items j m
FitsAll (Gone cs) j m = AllFit cs.items j (effect (changes.Remove j) j m) × (cs.items ≡ told_superior (superiors m j))

held_superior : (a : Ask) (h : Option Held) (q : Whole) → (with_held a h q).superior ≡ q.superior
held_superior a None q = refl
held_superior a (Some b) q = refl

held_channels : (a : Ask) (h : Option Held) (q : Whole) → (with_held a h q).channels ≡ q.channels
held_channels a None q = refl
held_channels a (Some b) q = refl

acted_forest : (m : Machine) (j : ℕ) (a : Ask) (ks : List ℕ) (e : Decision) → FitsAll e j m → Forest m → AllOf (λ t. Forest t.machine) (acted m j a ks e)
unfolding acted
acted_forest m j a ks (Waits r) f d = tt
acted_forest m j a ks (Goes cs h vs) f d =
    let n = effects cs.items j m in
    job_forest n j _ (calm n j _ (λ q. held_superior (with_new_values a vs.items) h q) (λ q. held_channels (with_new_values a vs.items) h q)
    (λ q is. held_console (with_new_values a vs.items) h q)) (effects_forest cs.items j m f d)
acted_forest m j a ks (Ends cs ss e) f d =
    let n = effects cs.items j m in
    job_forest n j _ (calm n j _ (λ q. refl) (λ q. refl) (λ q is. refl)) (effects_forest cs.items j m f d)
acted_forest m j a ks (Gone cs) f d = effects_forest cs.items j (effect (changes.Remove j) j m) f.0 (gone_forest m j j d)

-- a step
pub informs_fit : (b : Bool) (o : Option ℕ) (j : ℕ) (m : Machine) → AllFit (informs b o) j m
informs_fit true (Some s) j m = (tt, tt)
informs_fit true None j m = tt
informs_fit false o j m = tt

slot_console : (f : Whole → Whole) (b : Bool) (o : Option Whole) → ((q : Whole) → (f q).job.console ≡ q.job.console)
    → console_in (if b then option_map f o else o) ≡ console_in o
slot_console f true (Some q) h = h q
slot_console f true None h = refl
slot_console f false o h = refl

informs_console : (b : Bool) (o : Option ℕ) (j k : ℕ) (m : Machine) → console_in ((effects (informs b o) j m).jobs k) ≡ console_in (m.jobs k)
unfolding effect
informs_console true (Some s) j k m = slot_console with_inf (k == s) (m.jobs k) (λ q. refl)
informs_console true None j k m = refl
informs_console false o j k m = refl

-- if each decision keeps jobs as they lie, so does a step
pub steps_where : ((m : Machine) (j : ℕ) (q : Whole) (a : Ask) → Forest m → m.jobs j ≡ Some q → FitsAll (decision m j q a) j m)
    → (m n : Machine) (j : ℕ) → Forest m → step m j ≡ Some n → Forest n
steps_where fits m n j h e = step_has Forest m n j (λ q is.
    let cs = informs (delivered q.core q.job).stops q.superior in
    let informed = effects cs j m in
    record {
      delivers =
          job_forest informed j _
          (calm informed j _ (λ p. refl) (λ p. refl)
          (λ p at. delivered_console q.core q.job ∙ sym (ap console_in is)
          ∙ sym (informs_console (delivered q.core q.job).stops q.superior j j m) ∙ ap console_in at))
          (effects_forest cs j m (informs_fit _ _ j m) h);
      changes = λ c k u.
          job_forest m j _ (calm m j _ (λ p. refl) (λ p. refl) (λ p at. unit_console q.core q.job c k u ∙ ap console_in (sym is ∙ at))) h;
      faults = λ f. job_forest m j _ (calm m j _ (λ p. refl) (λ p. refl) (λ p at. refl)) h;
      calls = λ a. acted_forest m j a (reach m j q a) (decision m j q a) (fits m j q a h is) h;
    }) e
