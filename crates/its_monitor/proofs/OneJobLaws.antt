-- A change of one job that is in user mode, or of a console or its holder: the plain machine has it
-- too, the state stays sound, jobs lie to each other as they did, and alarms are to come.
use Rattle.std.specs.Prelude.{if◌then◌else◌, ◌==◌, ◌≡◌, ◌≢◌, ◌<◌, ◌&&◌, ℕ, Bool, true, false, Option, Some, None, IfSome, [], is_some, option_map, nat_le, nat_lt, refl}
use Rattle.std.proofs.Common.{sym, ◌∙◌, ap, subst, inl, inr, arith}
use Rattle.std.proofs.lemmas.Bool.{cases_eq, eqb-true, ne_eqb, and_parts, leb-true, ltb-true}
use Rattle.std.proofs.lemmas.Option.{IfSome_then}
use Rattle.its_word.specs.Limits.{slots}
use Rattle.its_records.specs.Tree.{climbs_to}
use Rattle.its_records.proofs.CircleLaws.{edges, no_new_circle}
use Rattle.its_frame.specs.declared.change.Change.TheVariants as changes
use Rattle.its_frame.specs.declared.change.Opened.TheVariants as opened
use Rattle.its_frame.specs.declared.frame.Frame.{Frame}
use Rattle.its_plain.specs.Call.Basic.{longest_period}
use Rattle.its_plain.specs.Machine.{Chan, Shut, On, Console, Whole, Machine, changed, with_new, limit}
use Rattle.its_plain.specs.Machine.Change.{in_job, channel_in, superior_in, superiors, console_in, on_console, with_alarm, effect}
use Rattle.its_plain.specs.Machine.Own.{on_channel}
use Rattle.its_plain.specs.Operator.Clock.{alarm_in}
use Rattle.its_plain.specs.Operator.State.{may_come, on_tty, under}
use Rattle.its_plain.proofs.MachineLaws.{jobs_are}
use Rattle.its_stepped.specs.Alarmed.{Coming, Alarmed}
use Rattle.its_stepped.specs.Forest.{OnInferior, OnConsole, Forest}
use Rattle.its_stepped.specs.Lines.{with_raw}
use Rattle.its_stepped.specs.Sound.{SoundBy, Sound}
use Rattle.its_stepped.specs.State.{State, seen, plain}
use Rattle.its_stepped.proofs.Committing.CommitSound.{user_sound}
use Rattle.its_stepped.proofs.Frame.FrameLaws.{changed_only, on_slot_other, jobs_is}
use Rattle.its_stepped.proofs.Keeping.ForestLaws.{same_forest, jobs_forest, effect_forest}
use Rattle.its_stepped.proofs.Keeping.JoinedLaws.{IsUnlinked, same_link, job_joined, joined_same}
use Rattle.its_stepped.proofs.Lining.KeptLaws.{user_page}
use Rattle.its_stepped.proofs.Lining.LiftLaws.{put_plain, free_frame}

-- the state stays sound: a slot in user mode may have any job, or none
pub one_sound : (v : State) (m : Machine) (s : ℕ) → Sound v → v.frames s ≡ None → ((k : ℕ) → k ≢ s → m.jobs k ≡ v.raw.jobs k) → Sound (with_raw v m)
one_sound v m s sound none others = record {
  each = λ k. elim (cases_eq k s) [
    | inl is ↦ rw is (user_sound (m.jobs s) (v.frames s) (v.reserved s) none (user_page (v.raw.jobs s) (v.frames s) (v.reserved s) none (sound.each s).by))
    | inr ne ↦ record { by = subst (λ (o : Option Whole). SoundBy o (v.frames k) (v.reserved k)) (sym (others k ne)) (sound.each k).by }
  ];
  mark = sound.mark;
}

pub job_sound : (v : State) (s : ℕ) (h : Whole → Whole) → Sound v → v.frames s ≡ None → Sound (with_raw v (in_job v.raw s h))
job_sound v s h sound none = one_sound v (in_job v.raw s h) s sound none (λ k ne. on_slot_other v.raw.jobs s k h ne)

pub new_sound : (v : State) (s : ℕ) (q : Whole) → Sound v → v.raw.jobs s ≡ None → Sound (with_raw v (with_new v.raw s q))
new_sound v s q sound none = one_sound v (with_new v.raw s q) s sound (free_frame v s sound none) (changed_only v.raw.jobs s (Some q)).others

pub same_sound : (v : State) (m : Machine) → Sound v → m.jobs ≡ v.raw.jobs → Sound (with_raw v m)
same_sound v m sound e = record {
  each = λ k. record { by = subst (λ (jobs : ℕ → Option Whole). SoundBy (jobs k) (v.frames k) (v.reserved k)) (sym e) (sound.each k).by };
  mark = sound.mark;
}

-- the plain machine has the same change
user_seen : (h : Whole → Whole) (f : Option Frame) (q : Whole) → f ≡ None → seen f (h q) ≡ h (seen f q)
unfolding seen
user_seen h f q e = ap (λ (g : Option Frame). seen g (h q)) e ∙ ap (λ (g : Option Frame). h (seen g q)) (sym e)

pub job_plain : (v : State) (s : ℕ) (h : Whole → Whole) → v.frames s ≡ None → plain (with_raw v (in_job v.raw s h)) ≡ in_job (plain v) s h
unfolding plain
job_plain v s h none = jobs_are _ _ (jobs_is v.frames v.frames v.raw.jobs s h h (λ k ne. refl) (λ q is. user_seen h (v.frames s) q none)) refl

pub new_plain : (v : State) (s : ℕ) (q : Whole) → v.frames s ≡ None → plain (with_raw v (with_new v.raw s q)) ≡ with_new (plain v) s q
unfolding plain
new_plain v s q none = ap (λ (m : Machine). record m { symbols = changed m.symbols s [] }) (put_plain v s q none)

pub console_plain : (v : State) (c : ℕ) (f : Console → Console) → plain (with_raw v (on_console v.raw c f)) ≡ on_console (plain v) c f
unfolding plain
console_plain v c f = refl

pub hold_plain : (v : State) (c s : ℕ) → plain (with_raw v (effect (changes.Hold c s) s v.raw)) ≡ effect (changes.Hold c s) s (plain v)
unfolding plain effect
hold_plain v c s = refl

-- what is read of a slot whose job changes
pub slot_read : {X : Type 0} (g : Option Whole → X) (h : Whole → Whole) (b : Bool) (o : Option Whole) → ((q : Whole) → g (Some (h q)) ≡ g (Some q))
    → g (if b then option_map h o else o) ≡ g o
slot_read g h true (Some q) e = e q
slot_read g h true None e = refl
slot_read g h false o e = refl

slot_none : (h : Whole → Whole) (b : Bool) (o : Option Whole) → o ≡ None → (if b then option_map h o else o) ≡ None
slot_none h true (Some q) e = cc
slot_none h true None e = refl
slot_none h false o e = e

pub slot_each : (P : Whole → Type 0) (h : Whole → Whole) (b : Bool) (o : Option Whole) → ((q : Whole) → P q → P (h q)) → IfSome o P
    → IfSome (if b then option_map h o else o) P
slot_each P h true (Some q) keeps x = keeps q x
slot_each P h true None keeps x = tt
slot_each P h false o keeps x = x

-- jobs lie to each other as they did: its superior, its channels and its console stay
on_console_as : (c e : Option ℕ) (a b : Chan) → c ≡ e → a ≡ b → OnConsole e b → OnConsole c a
on_console_as c e a b h g o = subst (λ (x : Option ℕ). OnConsole x a) (sym h) (subst (OnConsole e) (sym g) o)

pub calm_forest : (m : Machine) (s : ℕ) (h : Whole → Whole) → ((q : Whole) → (h q).superior ≡ q.superior) → ((q : Whole) → (h q).channels ≡ q.channels)
    → ((q : Whole) → (h q).job.console ≡ q.job.console) → Forest m → Forest (in_job m s h)
calm_forest m s h sup chans console d = same_forest m (in_job m s h)
    (record {
      few = λ k l. slot_none h (k == s) (m.jobs k) (d.few k l);
      tree = λ k. slot_read superior_in h (k == s) (m.jobs k) sup;
      jobs = λ k x. slot_read is_some h (k == s) (m.jobs k) (λ q. refl) ∙ x;
      channels = λ k i. subst (OnInferior m k)
          (sym (slot_read (λ o. channel_in o i) h (k == s) (m.jobs k) (λ q. ap (λ (c : ℕ → Chan). c i) (chans q)))) (d.channels k i);
      consoles = λ k i. on_console_as _ _ _ _ (slot_read console_in h (k == s) (m.jobs k) console)
          (slot_read (λ o. channel_in o i) h (k == s) (m.jobs k) (λ q. ap (λ (c : ℕ → Chan). c i) (chans q))) (d.consoles k i);
      holders = λ c. IfSome_then (m.holders c) (d.holders c) (λ i x. slot_read is_some h (i == s) (m.jobs i) (λ q. refl) ∙ x);
      links = job_joined m s h (λ q is i. same_link _ _ (ap (λ (c : ℕ → Chan). c i) (chans q))) d.links;
    })
    d

-- a console changes
pub console_forest : (m : Machine) (c : ℕ) (f : Console → Console) → Forest m → Forest (on_console m c f)
console_forest m c f d = jobs_forest m (on_console m c f) refl refl refl refl d

-- a job is made in an empty slot, without a superior and with closed channels
put_read : {X : Type 0} (g : Option Whole → X) (jobs : ℕ → Option Whole) (s k : ℕ) (p : Option Whole) → g p ≡ g (jobs s) → g (changed jobs s p k) ≡ g (jobs k)
put_read g jobs s k p e = elim (cases_eq k s) [
  | inl is ↦ rw is (ap g (changed_only jobs s p).here ∙ e)
  | inr ne ↦ ap g ((changed_only jobs s p).others k ne)
]

put_some : (q : Whole) (b : Bool) (o : Option Whole) → is_some o ≡ true → is_some (if b then Some q else o) ≡ true
put_some q true o h = refl
put_some q false o h = h

put_on_console : (q : Whole) (b : Bool) (o : Option Whole) (i : ℕ) → q.channels i ≡ Shut → OnConsole (console_in o) (channel_in o i)
    → OnConsole (console_in (if b then Some q else o)) (channel_in (if b then Some q else o) i)
put_on_console q true o i shut h = subst (OnConsole q.job.console) (sym shut) tt
put_on_console q false o i shut h = h

pub new_forest : (m : Machine) (s : ℕ) (q : Whole) → s < limit m → m.jobs s ≡ None → q.superior ≡ None → ((i : ℕ) → q.channels i ≡ Shut) → Forest m
    → Forest (with_new m s q)
new_forest m s q below free alone shut d = same_forest m (with_new m s q)
    (record {
      few = λ k l. (changed_only m.jobs s (Some q)).others k (λ at. omega arith) ∙ d.few k l;
      tree = λ k. put_read superior_in m.jobs s k (Some q) (alone ∙ sym (ap superior_in free));
      jobs = λ k x. put_some q (k == s) (m.jobs k) x;
      channels = λ k i. subst (OnInferior m k)
          (sym (put_read (λ o. channel_in o i) m.jobs s k (Some q) (shut i ∙ sym (ap (λ (o : Option Whole). channel_in o i) free)))) (d.channels k i);
      consoles = λ k i. put_on_console q (k == s) (m.jobs k) i (shut i) (d.consoles k i);
      holders = λ c. IfSome_then (m.holders c) (d.holders c) (λ i x. put_some q (i == s) (m.jobs i) x);
      links = joined_same m (with_new m s q)
          (λ k i. same_link _ _ (put_read (λ o. channel_in o i) m.jobs s k (Some q) (shut i ∙ sym (ap (λ (o : Option Whole). channel_in o i) free))))
          (λ l write. refl) d.links;
    })
    d

pub new_alarmed : (m : Machine) (s : ℕ) (q : Whole) → q.alarm ≡ None → Alarmed m → Alarmed (with_new m s q)
new_alarmed m s q quiet a = record { each = λ k. by (k == s) (m.jobs k) (a.each k) }
  where
    by : (b : Bool) (o : Option Whole) → IfSome (alarm_in o) (λ x. Coming m.clock x) → IfSome (alarm_in (if b then Some q else o)) (λ x. Coming m.clock x)
    by true o x = subst (λ (o : Option (ℕ × ℕ)). IfSome o (λ x. Coming m.clock x)) (sym quiet) tt
    by false o x = x

-- an alarm is set that is to come
pub coming_of : (clock period next : ℕ) → may_come clock period next ≡ true → Coming clock (period, next)
coming_of clock period next h =
    let last = and_parts (nat_le 1 period && nat_le period longest_period) (nat_lt clock next) h in
    let first = and_parts (nat_le 1 period) (nat_le period longest_period) last.0 in
    record { some = leb-true 1 period first.0; most = leb-true period longest_period first.1; next = ltb-true clock next last.1 }

pub armed_alarmed : (m : Machine) (s : ℕ) (a : ℕ × ℕ) → Coming m.clock a → Alarmed m → Alarmed (in_job m s (with_alarm (Some a)))
armed_alarmed m s a coming h = record { each = λ k. by (k == s) (m.jobs k) (h.each k) }
  where
    by : (b : Bool) (o : Option Whole) → IfSome (alarm_in o) (λ x. Coming m.clock x)
        → IfSome (alarm_in (if b then option_map (with_alarm (Some a)) o else o)) (λ x. Coming m.clock x)
    by true (Some q) x = coming
    by true None x = tt
    by false o x = x

-- a job that has no superior gets one, which is a job that is neither the job itself nor below it
module _ (m : Machine) (s t : ℕ) (job : is_some (m.jobs s) ≡ true) (standing : is_some (m.jobs t) ≡ true) (none : superiors m s ≡ None)
    (apart : climbs_to (superiors m) s slots (Some t) ≡ false) where
  given_by : (b : Bool) (o : Option Whole) → (b ≡ true → is_some o ≡ true)
      → superior_in (if b then option_map (under t) o else o) ≡ (if b then Some t else superior_in o)
  given_by true (Some q) h = refl
  given_by true None h = let no = h refl in cc
  given_by false o h = refl

  here : (k : ℕ) → (k == s) ≡ true → is_some (m.jobs k) ≡ true
  here k e = ap (λ (i : ℕ). is_some (m.jobs i)) (eqb-true k s e) ∙ job

  given_tree : superiors (in_job m s (under t)) ≡ edges (superiors m) s t none apart
  given_tree = λ i k. given_by (k == s) (m.jobs k) (here k) i

  still : (k : ℕ) → is_some (m.jobs k) ≡ true → is_some ((in_job m s (under t)).jobs k) ≡ true
  still k h = slot_read is_some (under t) (k == s) (m.jobs k) (λ q. refl) ∙ h

  stands_by : (b : Bool) (o : Option ℕ) → IfSome o (λ i. is_some (m.jobs i) ≡ true)
      → IfSome (if b then Some t else o) (λ i. is_some ((in_job m s (under t)).jobs i) ≡ true)
  stands_by true o h = still t standing
  stands_by false (Some i) h = still i h
  stands_by false None h = tt

  -- an inferior is no job without superior
  kept_inferior : (i k : ℕ) → superiors m i ≡ Some k → superiors (in_job m s (under t)) i ≡ Some k
  kept_inferior i k h = ap (λ (f : ℕ → Option ℕ). f i) given_tree ∙ elim (cases_eq i s) [
    | inl is ↦ absurd (let no : None ≡ Some k = sym none ∙ ap (superiors m) (sym is) ∙ h in cc)
    | inr ne ↦ ap (λ (b : Bool). if b then Some t else superiors m i) (ne_eqb i s ne) ∙ h
  ]

  on_kept : (k : ℕ) (c : Chan) → OnInferior m k c → OnInferior (in_job m s (under t)) k c
  on_kept k (On i write at) h = kept_inferior i k h
  on_kept k _ h = tt

  pub under_forest : Forest m → Forest (in_job m s (under t))
  under_forest d = record {
    few = λ k l. slot_none (under t) (k == s) (m.jobs k) (d.few k l);
    standing = λ k. subst (λ (f : ℕ → Option ℕ). IfSome (f k) (λ i. is_some ((in_job m s (under t)).jobs i) ≡ true)) (sym given_tree)
        (stands_by (k == s) (superiors m k) (d.standing k));
    circle = subst (λ (f : ℕ → Option ℕ). (k : ℕ) → climbs_to f k slots (f k) ≡ false) (sym given_tree)
        (no_new_circle (superiors m) s t none apart d.circle);
    channels = λ k i. on_kept k (channel_in ((in_job m s (under t)).jobs k) i)
        (subst (OnInferior m k) (sym (slot_read (λ o. channel_in o i) (under t) (k == s) (m.jobs k) (λ q. refl))) (d.channels k i));
    consoles = λ k i. on_console_as _ _ _ _ (slot_read console_in (under t) (k == s) (m.jobs k) (λ q. refl))
        (slot_read (λ o. channel_in o i) (under t) (k == s) (m.jobs k) (λ q. refl)) (d.consoles k i);
    holders = λ c. IfSome_then (m.holders c) (d.holders c) still;
    links = job_joined m s (under t) (λ q is i. same_link _ _ refl) d.links;
  }

-- a channel that was closed is opened on the console of its job
pub tty_forest : (m : Machine) (s n : ℕ) (write : Bool) → is_some (console_in (m.jobs s)) ≡ true → channel_in (m.jobs s) n ≡ Shut → Forest m
    → Forest (in_job m s (on_channel n (λ c. on_tty write)))
unfolding effect
tty_forest m s n true console shut d = effect_forest (changes.Open n opened.TtyOut) s m (console, subst IsUnlinked (sym shut) tt) d
tty_forest m s n false console shut d = effect_forest (changes.Open n opened.TtyIn) s m (console, subst IsUnlinked (sym shut) tt) d
