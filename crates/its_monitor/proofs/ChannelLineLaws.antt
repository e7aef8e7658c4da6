-- DSK, DRAFT, USR and LNK: when each can be done, and what it leaves.
use Rattle.std.specs.Prelude.{◌==◌, ◌≡◌, ◌<◌, ◌&&◌, ℕ, Bool, true, false, Option, Some, None, List, [], ◌∷◌, ◌++◌, nat_lt, Result, Ok, Err, IsOk, is_ok, is_some, refl, if◌then◌else◌, option_map}
use Rattle.std.proofs.Common.{sym, ◌∙◌, ap, subst}
use Rattle.std.proofs.lemmas.Bool.{eqb-true, lt-ltb, ltb-true}
use Rattle.its_records.specs.Links.{most_links, link_end, is_unopened, is_link_named}
use Rattle.its_records.specs.Refusals.{reason_of}
use Rattle.its_records.specs.declared.jobs.Channel.{Channel}
use Rattle.its_records.specs.declared.jobs.Channel.TheVariants as channels
use Rattle.its_records.specs.declared.link.End.{End}
use Rattle.its_records.specs.declared.link.End.TheVariants.{Unopened, Opened, Closed}
use Rattle.its_records.specs.declared.session.Reason.{Reason}
use Rattle.its_records.specs.declared.session.Reason.TheVariants.{Range, NoJob, NoFile, Exists, Unfit}
use Rattle.its_records.specs.declared.session.Refusal.{Refusal}
use Rattle.its_records.specs.declared.session.Refusal.TheVariants as refusals
use Rattle.its_files.specs.Files.{Store, found}
use Rattle.its_jobs.specs.Table.{IsTree, job_at, superior_at}
use Rattle.its_frame.specs.declared.change.Change.TheVariants as changes
use Rattle.its_frame.specs.declared.change.Opened.TheVariants as opened
use Rattle.its_plain.specs.Call.Basic.{is_shut}
use Rattle.its_plain.specs.Call.File.{has_file}
use Rattle.its_pipes.specs.Pipes.{piped}
use Rattle.its_plain.specs.Machine.{Names, Chan, Shut, Reads, Writes, On, Linked, Pipe, Whole, Machine, changed}
use Rattle.its_plain.specs.Machine.Change.{channel_in, superiors, in_job, effect}
use Rattle.its_plain.specs.Machine.Own.{names_of, at_position, on_channel}
use Rattle.its_plain.specs.Operator.State.{provided_if, provided, has_job, can_open, channel_opened, with_disk, with_draft, is_slot, with_usr, can_join, with_link}
use Rattle.its_plain.proofs.MachineLaws.{machine_is}
use Rattle.its_plain.proofs.ProvidedLaws.{AllHold, provided_ok, provided_holds}
use Rattle.its_stepped.specs.Commit.{effect_on}
use Rattle.its_stepped.specs.Forest.{Forest, end_at}
use Rattle.its_stepped.specs.Lines.{with_raw}
use Rattle.its_stepped.specs.State.{State}
use Rattle.its_stepped.proofs.Frame.FrameLaws.{changed_only, on_slot_other}
use Rattle.its_stepped.proofs.Keeping.ForestLaws.{effect_forest}
use Rattle.its_stepped.proofs.Keeping.JoinedLaws.{IsUnlinked, Opens}
use Rattle.its_stepped.proofs.Lining.KeptLaws.{Off}
use Rattle.its_stepped.proofs.Lining.RestoredLaws.{disk_lifted, draft_lifted, link_lifted, usr_lifted}
use Rattle.its_world.specs.Storage.{HasJob, chan_in}
use Rattle.its_world.specs.Tidy.{channel_at}
use Rattle.its_world.specs.World.{chan_of, in_raw, state_of}
use Rattle.its_world.specs.declared.world.World.{World}
use Rattle.its_shared.proofs.StoreLaws.{has_named}
use Rattle.its_world.proofs.StorageLaws.{chan_is, files_are, raw_has}
use Rattle.its_commit.proofs.RemovalLaws.{superiors_are}
use Rattle.its_tick.proofs.WaitsLaws.{raw_is_none}
use Rattle.its_monitor.specs.Kept.{Lands}
use Rattle.its_monitor.proofs.RestoresLaws.{Holds, channel_holds, Restores}

-- tests that a machine passes
pub ok_of : (r : Result Machine Reason) → IsOk r → (m : Machine) × (r ≡ Ok m)
ok_of (Ok m) h = (m, refl)
ok_of (Err e) h = cc

pub passed : (ts : List (Bool × Reason)) (m : Machine) → IsOk (provided ts m) → AllHold ts
passed ts m h = let x = ok_of (provided ts m) h in (provided_holds ts m x.0 x.1).0

pub passes : (ts : List (Bool × Reason)) (m : Machine) → AllHold ts → IsOk (provided ts m)
passes ts m h = ap is_ok (provided_ok ts m h)

-- a test that fails before others
pub fails_first : (ts us : List (Bool × Reason)) (m : Machine) (r : Reason) → ((n : Machine) → provided ts n ≡ Err r) → provided (ts ++ us) m ≡ Err r
fails_first [] us m r h = let no = h m in absurd cc
fails_first (t ∷ ts) us m r h = by t.0 refl (λ later. fails_first ts us m r later)
  where
    by : (b : Bool) → t.0 ≡ b → (((n : Machine) → provided ts n ≡ Err r) → provided (ts ++ us) m ≡ Err r)
        → provided_if b t.1 (provided (ts ++ us) m) ≡ Err r
    by true e rest = rest (λ n. sym (ap (λ b. provided_if b t.1 (provided ts n)) e) ∙ h n)
    by false e rest = sym (ap (λ b. provided_if b t.1 (provided ts m)) e) ∙ h m

-- what is landed on by tests that pass
pub tested_lands : (v new : State) (ts : List (Bool × Reason)) (m : Machine) → IsOk (provided ts m) → new ≡ with_raw v m → Lands v new (provided ts m)
tested_lands v new ts m h e = record {
  is = provided_ok ts m (passed ts m h) ∙ ap (λ (x : State). Ok x.raw) (sym e);
  rest = e ∙ ap (λ (x : State). with_raw v x.raw) (sym e);
}

-- a channel that is put twice
put_twice : (n : ℕ) (f g : Chan → Chan) (q : Whole) → on_channel n g (on_channel n f q) ≡ on_channel n (λ c. g (f c)) q
put_twice n f g q = λ t. record q { channels = λ k. by (k == n) (q.channels k) t }
  where
    x : Chan
    x = f (q.channels n)

    by : (b : Bool) (c : Chan) → (if b then g (changed q.channels n x n) else (if b then x else c)) ≡ (if b then g x else c)
    by true c = ap g (changed_only q.channels n x).here
    by false c = refl

in_twice : (m : Machine) (s n : ℕ) (f g : Chan → Chan) → in_job (in_job m s (on_channel n f)) s (on_channel n g) ≡ in_job m s (on_channel n (λ c. g (f c)))
in_twice m s n f g = machine_is _ _ (λ k. by (k == s) (m.jobs k)) (λ k. refl) (λ k. refl) refl refl refl (λ k. refl) (λ k. refl)
  where
    by : (b : Bool) (o : Option Whole) → (if b then option_map (on_channel n g) (if b then option_map (on_channel n f) o else o) else
        (if b then option_map (on_channel n f) o else o)) ≡ (if b then option_map (on_channel n (λ c. g (f c))) o else o)
    by true (Some q) = ap Some (put_twice n f g q)
    by true None = refl
    by false o = refl

-- a line that opens a channel changes the job of one slot, and keeps what holds between calls
channel_off : (m : Machine) (s : ℕ) (f : Whole → Whole) → Off m (in_job m s f) s
channel_off m s f = record { others = λ k ne. on_slot_other m.jobs s k f ne }

opened_off : (ts : List (Bool × Reason)) (m n : Machine) (s i : ℕ) (x : Chan) → provided ts (channel_opened m s i x) ≡ Ok n → Off m n s
opened_off ts m n s i x e = subst (λ k. Off m k s) (provided_holds ts (channel_opened m s i x) n e).1 (channel_off m s (on_channel i (λ c. x)))

opened_holds : (ts : List (Bool × Reason)) (m n : Machine) (s i : ℕ) (x : Chan) → (AllHold ts → Forest m → Forest (channel_opened m s i x))
    → provided ts (channel_opened m s i x) ≡ Ok n → Holds m → Holds n
opened_holds ts m n s i x forest e h =
    let p = provided_holds ts (channel_opened m s i x) n e in
    subst Holds p.1 (channel_holds m s i (λ c. x) m.links (forest p.0 h.forest) h)

shut_is : (c : Chan) → is_shut c ≡ true → c ≡ Shut
shut_is Shut h = refl
shut_is _ h = cc

shut_free : (c : Chan) → is_shut c ≡ true → IsUnlinked c
shut_free c h = subst IsUnlinked (sym (shut_is c h)) tt

-- a channel opened on a file or on an inferior, from any position on, and one on a draft
read_forest : (m : Machine) (s n d x y at : ℕ) → IsUnlinked (channel_in (m.jobs s) n) → Forest m → Forest (channel_opened m s n (Reads (names_of d x y) at))
unfolding effect
read_forest m s n d x y at free forest =
    subst Forest (in_twice m s n (λ c. Reads (names_of d x y) 0) (at_position at))
    (effect_forest (changes.Move n at) s (effect (changes.Open n (opened.Reading d x y)) s m) tt
    (effect_forest (changes.Open n (opened.Reading d x y)) s m (tt, free) forest))

draft_forest : (m : Machine) (s n d x y : ℕ) → IsUnlinked (channel_in (m.jobs s) n) → Forest m
    → Forest (channel_opened m s n (Writes (record { names = names_of d x y; words = [] })))
unfolding effect
draft_forest m s n d x y free forest = effect_forest (changes.Open n (opened.Writing d x y)) s m (tt, free) forest

usr_forest : (m : Machine) (s n t : ℕ) (w : Bool) (at : ℕ) → IsUnlinked (channel_in (m.jobs s) n) → superiors m t ≡ Some s → Forest m
    → Forest (channel_opened m s n (On t w at))
unfolding effect
usr_forest m s n t w at free under forest =
    subst Forest (in_twice m s n (λ c. On t w 0) (at_position at))
    (effect_forest (changes.Move n at) s (effect (changes.Open n (opened.Usr t w)) s m) tt
    (effect_forest (changes.Open n (opened.Usr t w)) s m (under, free) forest))

-- DSK
pub disk_restores : (s n d x y at : ℕ) → Restores true s (λ m. with_disk m s n (names_of d x y) at)
unfolding with_disk
disk_restores s n d x y at =
    let names = names_of d x y in
    record {
      lifts = λ v whole. disk_lifted v s n names at (whole refl);
      off = λ m k e. opened_off (can_open m s n ++ (has_file names m.files, NoFile) ∷ []) m k s n (Reads names at) e;
      holds = λ m k e h. opened_holds (can_open m s n ++ (has_file names m.files, NoFile) ∷ []) m k s n (Reads names at)
          (λ all forest. read_forest m s n d x y at (shut_free (channel_in (m.jobs s) n) all.1.1.0) forest) e h;
    }

-- what it needs, and what it leaves
pub record Shuts (v : State) (s n : ℕ) : Type 0 where
  pub job : HasJob v s
  pub closed : chan_in v s n ≡ Shut

pub disk_shut : (v : State) (s n d x y at : ℕ) → IsOk (with_disk v.raw s n (names_of d x y) at) → Shuts v s n
unfolding with_disk
disk_shut v s n d x y at h =
    let all = passed (can_open v.raw s n ++ (has_file (names_of d x y) v.raw.files, NoFile) ∷ []) (channel_opened v.raw s n (Reads (names_of d x y) at)) h in
    record { job = all.1.0; closed = shut_is (chan_in v s n) all.1.1.0 }

pub disk_file : (v : State) (s n d x y at : ℕ) → IsOk (with_disk v.raw s n (names_of d x y) at) → has_file (names_of d x y) v.raw.files ≡ true
unfolding with_disk
disk_file v s n d x y at h =
    (passed (can_open v.raw s n ++ (has_file (names_of d x y) v.raw.files, NoFile) ∷ []) (channel_opened v.raw s n (Reads (names_of d x y) at)) h).1.1.1.0

disk_state : (v : State) (s n d x y at : ℕ) → effect_on (changes.Move n at) s (effect_on (changes.Open n (opened.Reading d x y)) s v) ≡ with_raw v
    (channel_opened v.raw s n (Reads (names_of d x y) at))
unfolding effect_on effect
disk_state v s n d x y at = ap (with_raw v) (in_twice v.raw s n (λ c. Reads (names_of d x y) 0) (at_position at))

pub disk_lands : (v mid new : State) (s n d x y at : ℕ) → IsOk (with_disk v.raw s n (names_of d x y) at)
    → mid ≡ effect_on (changes.Open n (opened.Reading d x y)) s v → new ≡ effect_on (changes.Move n at) s mid
    → Lands v new (with_disk v.raw s n (names_of d x y) at)
unfolding with_disk
disk_lands v mid new s n d x y at h a b =
    tested_lands v new (can_open v.raw s n ++ (has_file (names_of d x y) v.raw.files, NoFile) ∷ []) (channel_opened v.raw s n (Reads (names_of d x y) at)) h
    (b ∙ ap (effect_on (changes.Move n at) s) a ∙ disk_state v s n d x y at)

-- DRAFT
pub draft_restores : (s n d x y : ℕ) → Restores true s (λ m. with_draft m s n (names_of d x y))
unfolding with_draft
draft_restores s n d x y =
    let new = Writes (record { names = names_of d x y; words = [] }) in
    record {
      lifts = λ v whole. draft_lifted v s n (names_of d x y);
      off = λ m k e. opened_off (can_open m s n) m k s n new e;
      holds = λ m k e h. opened_holds (can_open m s n) m k s n new
          (λ all forest. draft_forest m s n d x y (shut_free (channel_in (m.jobs s) n) all.1.1.0) forest) e h;
    }

pub draft_shut : (v : State) (s n : ℕ) (names : Names) → IsOk (with_draft v.raw s n names) → Shuts v s n
unfolding with_draft
draft_shut v s n names h =
    let all = passed (can_open v.raw s n) (channel_opened v.raw s n (Writes (record { names = names; words = [] }))) h in
    record { job = all.1.0; closed = shut_is (chan_in v s n) all.1.1.0 }

draft_state : (v : State) (s n d x y : ℕ) → effect_on (changes.Open n (opened.Writing d x y)) s v ≡ with_raw v
    (channel_opened v.raw s n (Writes (record { names = names_of d x y; words = [] })))
unfolding effect_on effect
draft_state v s n d x y = refl

pub draft_lands : (v new : State) (s n d x y : ℕ) → IsOk (with_draft v.raw s n (names_of d x y))
    → new ≡ effect_on (changes.Open n (opened.Writing d x y)) s v → Lands v new (with_draft v.raw s n (names_of d x y))
unfolding with_draft
draft_lands v new s n d x y h a =
    tested_lands v new (can_open v.raw s n) (channel_opened v.raw s n (Writes (record { names = names_of d x y; words = [] }))) h
    (a ∙ draft_state v s n d x y)

-- USR
slot_is : (s : ℕ) (o : Option ℕ) → is_slot s o ≡ true → o ≡ Some s
slot_is s (Some k) h = ap Some (eqb-true k s h)
slot_is s None h = cc

pub usr_restores : (s n t : ℕ) (w : Bool) (at : ℕ) → Restores false s (λ m. with_usr m s n t w at)
unfolding with_usr
usr_restores s n t w at = record {
  lifts = λ v whole. usr_lifted v s n t w at;
  off = λ m k e. opened_off (can_open m s n ++ (is_slot s (superiors m t), Unfit) ∷ []) m k s n (On t w at) e;
  holds = λ m k e h. opened_holds (can_open m s n ++ (is_slot s (superiors m t), Unfit) ∷ []) m k s n (On t w at)
      (λ all forest. usr_forest m s n t w at (shut_free (channel_in (m.jobs s) n) all.1.1.0) (slot_is s (superiors m t) all.1.1.1.0) forest) e h;
}

pub usr_shut : (v : State) (s n t : ℕ) (w : Bool) (at : ℕ) → IsOk (with_usr v.raw s n t w at) → Shuts v s n
unfolding with_usr
usr_shut v s n t w at h =
    let all = passed (can_open v.raw s n ++ (is_slot s (superiors v.raw t), Unfit) ∷ []) (channel_opened v.raw s n (On t w at)) h in
    record { job = all.1.0; closed = shut_is (chan_in v s n) all.1.1.0 }

pub usr_lands : (v new : State) (s n t : ℕ) (w : Bool) (at : ℕ) → IsOk (with_usr v.raw s n t w at)
    → new ≡ in_raw v s (on_channel n (λ c. On t w at)) → Lands v new (with_usr v.raw s n t w at)
unfolding with_usr
usr_lands v new s n t w at h a =
    tested_lands v new (can_open v.raw s n ++ (is_slot s (superiors v.raw t), Unfit) ∷ []) (channel_opened v.raw s n (On t w at)) h a

-- LNK
unopened_is : (e : End) → is_unopened e ≡ true → e ≡ Unopened
unopened_is Unopened h = refl
unopened_is (Opened s n) h = cc
unopened_is Closed h = cc

and_last : (a b : Bool) → (a && b) ≡ true → b ≡ true
and_last true b h = h
and_last false b h = cc

free_end : (x y : ℕ) (w : Bool) (o : Option Pipe) → can_join x y w o ≡ true → end_at w o ≡ Unopened
free_end x y w (Some p) h = unopened_is (link_end w p.link) (and_last (is_link_named x y p.link) (is_unopened (link_end w p.link)) h)
free_end x y w None h = refl

joins : (m : Machine) (s n l : ℕ) (w : Bool) (x y : ℕ) → nat_lt l most_links ≡ true → has_job m s ≡ true → is_shut (channel_in (m.jobs s) n) ≡ true
    → can_join x y w (m.links l) ≡ true → Opens l n s w m
joins m s n l w x y few job shut can = record {
  few = ltb-true l most_links few;
  maker = job;
  free = shut_free (channel_in (m.jobs s) n) shut;
  unopened = free_end x y w (m.links l) can;
}

join_off : (m : Machine) (s n l : ℕ) (w : Bool) (x y : ℕ) → Off m (effect (changes.Join n l w x y) s m) s
unfolding effect
join_off m s n l w x y = record { others = λ k ne. on_slot_other m.jobs s k (on_channel n (λ c. Linked l w)) ne }

join_holds : (m : Machine) (s n l : ℕ) (w : Bool) (x y : ℕ) → Opens l n s w m → Holds m → Holds (effect (changes.Join n l w x y) s m)
unfolding effect
join_holds m s n l w x y opens h =
    channel_holds m s n (λ c. Linked l w) _ (effect_forest (changes.Join n l w x y) s m opens h.forest) h

pub link_restores : (s n l : ℕ) (w : Bool) (x y : ℕ) → Restores false s (λ m. with_link m s n l w x y)
unfolding with_link
link_restores s n l w x y = record {
  lifts = λ v whole. link_lifted v s n l w x y;
  off = λ m k e.
      let p = provided_holds ((nat_lt l most_links, Range) ∷ can_open m s n ++ (can_join x y w (m.links l), Exists) ∷ [])
      (effect (changes.Join n l w x y) s m) k e in
      subst (λ i. Off m i s) p.1 (join_off m s n l w x y);
  holds = λ m k e h.
      let p = provided_holds ((nat_lt l most_links, Range) ∷ can_open m s n ++ (can_join x y w (m.links l), Exists) ∷ [])
      (effect (changes.Join n l w x y) s m) k e in
      let all = p.0 in
      subst Holds p.1 (join_holds m s n l w x y (joins m s n l w x y all.0 all.1.1.0 all.1.1.1.0 all.1.1.1.1.0) h);
}

pub link_shut : (v : State) (s n l : ℕ) (w : Bool) (x y : ℕ) → IsOk (with_link v.raw s n l w x y) → Shuts v s n
unfolding with_link
link_shut v s n l w x y h =
    let all = passed ((nat_lt l most_links, Range) ∷ can_open v.raw s n ++ (can_join x y w (v.raw.links l), Exists) ∷ [])
    (effect (changes.Join n l w x y) s v.raw) h in
    record { job = all.1.1.0; closed = shut_is (chan_in v s n) all.1.1.1.0 }

join_state : (v : State) (s n l : ℕ) (w : Bool) (x y : ℕ) → effect_on (changes.Join n l w x y) s v ≡ with_raw v (effect (changes.Join n l w x y) s v.raw)
unfolding effect_on
join_state v s n l w x y = refl

pub link_lands : (v new : State) (s n l : ℕ) (w : Bool) (x y : ℕ) → IsOk (with_link v.raw s n l w x y)
    → new ≡ effect_on (changes.Join n l w x y) s v → Lands v new (with_link v.raw s n l w x y)
unfolding with_link
link_lands v new s n l w x y h a =
    tested_lands v new ((nat_lt l most_links, Range) ∷ can_open v.raw s n ++ (can_join x y w (v.raw.links l), Exists) ∷ [])
    (effect (changes.Join n l w x y) s v.raw) h (a ∙ join_state v s n l w x y)

-- the tests of a channel that is to be opened, in the world
not_shut : (files : Store) (c : Channel) → (c ≡ channels.Closed → ⊥) → is_shut (chan_of files c) ≡ false
not_shut files channels.Closed other = absurd (other refl)
not_shut files channels.TtyIn other = refl
not_shut files channels.TtyOut other = refl
not_shut files (channels.Reading f at) other = refl
not_shut files (channels.Writing d) other = refl
not_shut files (channels.Usr k w at) other = refl
not_shut files (channels.Link l w) other = refl

module _ (w : World) (s n : ℕ) (few : n < 16) where
  pub open_missing : (e : Refusal) → (e ≡ refusals.NoJob) × (job_at w.jobs s ≡ None) → (m : Machine)
      → provided (can_open (state_of w).raw s n) m ≡ Err (reason_of e)
  open_missing e h m =
      (λ t. provided ((lt-ltb n 16 few t, Range) ∷ (ap is_some (raw_is_none w s h.1) t, NoJob)
      ∷ (is_shut (channel_in ((state_of w).raw.jobs s) n), Exists) ∷ []) m)
      ∙ ap (λ r. Err (reason_of r)) (sym h.0)

  pub open_taken : (c : Channel) → is_some (job_at w.jobs s) ≡ true → c ≡ channel_at w.jobs s n → (c ≡ channels.Closed → ⊥) → (m : Machine)
      → provided (can_open (state_of w).raw s n) m ≡ Err Exists
  open_taken c some is other m =
      let taken : is_shut (channel_in ((state_of w).raw.jobs s) n) ≡ false =
      ap is_shut (chan_is w s n ∙ ap (chan_of w.files) (sym is)) ∙ not_shut w.files c other in
      λ t. provided ((lt-ltb n 16 few t, Range) ∷ ((raw_has w s ∙ some) t, NoJob) ∷ (taken t, Exists) ∷ []) m

  -- it is closed
  pub open_passes : is_some (job_at w.jobs s) ≡ true → chan_in (state_of w) s n ≡ Shut → AllHold (can_open (state_of w).raw s n)
  open_passes some shut = (lt-ltb n 16 few, (raw_has w s ∙ some, (ap is_shut shut, tt)))

pub job_there : (w : World) (s : ℕ) → is_some (job_at w.jobs s) ≡ true → HasJob (state_of w) s
job_there w s some = raw_has w s ∙ some

pub shut_there : (w : World) (s n : ℕ) → channels.Closed ≡ channel_at w.jobs s n → chan_in (state_of w) s n ≡ Shut
shut_there w s n e = chan_is w s n ∙ ap (chan_of w.files) (sym e)

-- an inferior
pub under_is : (w : World) (s t : ℕ) (o : Option ℕ) → IsTree w.jobs.jobs w.jobs.superiors → o ≡ superior_at w.jobs t
    → is_slot s o ≡ is_slot s (superiors (state_of w).raw t)
under_is w s t o tree e = ap (is_slot s) (e ∙ ap (λ (f : ℕ → Option ℕ). f t) (sym (superiors_are w tree)))

-- the links of the state are those of the world
pub links_are : (w : World) (l : ℕ) → (state_of w).raw.links l ≡ piped w.pipes l
unfolding state_of
links_are w l = refl

-- one test more
one_more : (ts : List (Bool × Reason)) (t : Bool × Reason) → AllHold ts → t.0 ≡ true → AllHold (ts ++ t ∷ [])
one_more [] t h e = (e, tt)
one_more (u ∷ ts) t h e = (h.0, one_more ts t h.1 e)

one_fails : (ts : List (Bool × Reason)) (t : Bool × Reason) (m : Machine) → AllHold ts → t.0 ≡ false → provided (ts ++ t ∷ []) m ≡ Err t.1
one_fails [] t m h e = ap (λ b. provided_if b t.1 (Ok m)) e
one_fails (u ∷ ts) t m h e = ap (λ b. provided_if b u.1 (provided (ts ++ t ∷ []) m)) h.0 ∙ one_fails ts t m h.1 e

module _ (w : World) (s n : ℕ) (few : n < 16) (some : is_some (job_at w.jobs s) ≡ true) (shut : chan_in (state_of w) s n ≡ Shut) where
  file_there : (names : Names) → has_file names (state_of w).raw.files ≡ is_some (found w.files names)
  file_there names = ap (has_file names) (files_are w) ∙ has_named w.files names

  pub disk_can : (d x y at : ℕ) → is_some (found w.files (names_of d x y)) ≡ true → IsOk (with_disk (state_of w).raw s n (names_of d x y) at)
  unfolding with_disk
  disk_can d x y at there =
      let t : Bool × Reason = (has_file (names_of d x y) (state_of w).raw.files, NoFile) in
      passes (can_open (state_of w).raw s n ++ t ∷ []) (channel_opened (state_of w).raw s n (Reads (names_of d x y) at))
      (one_more (can_open (state_of w).raw s n) t (open_passes w s n few some shut)
      (file_there (names_of d x y) ∙ there))

  pub disk_gone : (d x y at : ℕ) → is_some (found w.files (names_of d x y)) ≡ false → with_disk (state_of w).raw s n (names_of d x y) at ≡ Err NoFile
  unfolding with_disk
  disk_gone d x y at gone = one_fails (can_open (state_of w).raw s n) (has_file (names_of d x y) (state_of w).raw.files, NoFile)
      (channel_opened (state_of w).raw s n (Reads (names_of d x y) at)) (open_passes w s n few some shut)
      (file_there (names_of d x y) ∙ gone)

  pub draft_can : (names : Names) → IsOk (with_draft (state_of w).raw s n names)
  unfolding with_draft
  draft_can names = passes (can_open (state_of w).raw s n) (channel_opened (state_of w).raw s n (Writes (record { names = names; words = [] })))
      (open_passes w s n few some shut)

  pub usr_can : (t : ℕ) (write : Bool) (at : ℕ) → is_slot s (superiors (state_of w).raw t) ≡ true → IsOk (with_usr (state_of w).raw s n t write at)
  unfolding with_usr
  usr_can t write at under =
      let e : Bool × Reason = (is_slot s (superiors (state_of w).raw t), Unfit) in
      passes (can_open (state_of w).raw s n ++ e ∷ []) (channel_opened (state_of w).raw s n (On t write at))
      (one_more (can_open (state_of w).raw s n) e (open_passes w s n few some shut) under)

  pub usr_unfit : (t : ℕ) (write : Bool) (at : ℕ) → is_slot s (superiors (state_of w).raw t) ≡ false → with_usr (state_of w).raw s n t write at ≡ Err Unfit
  unfolding with_usr
  usr_unfit t write at other = one_fails (can_open (state_of w).raw s n) (is_slot s (superiors (state_of w).raw t), Unfit)
      (channel_opened (state_of w).raw s n (On t write at)) (open_passes w s n few some shut) other

  pub link_can : (l : ℕ) (write : Bool) (x y : ℕ) (b : Bool) → l < most_links → b ≡ can_join x y write (piped w.pipes l) → b ≡ true
      → IsOk (with_link (state_of w).raw s n l write x y)
  unfolding with_link
  link_can l write x y b less is t =
      let test : Bool × Reason = (can_join x y write ((state_of w).raw.links l), Exists) in
      passes ((nat_lt l most_links, Range) ∷ can_open (state_of w).raw s n ++ test ∷ []) (effect (changes.Join n l write x y) s (state_of w).raw) (
        lt-ltb l most_links less,
        one_more (can_open (state_of w).raw s n) test (open_passes w s n few some shut)
            (ap (can_join x y write) (links_are w l) ∙ sym is ∙ t),
      )

  pub link_exists : (l : ℕ) (write : Bool) (x y : ℕ) (b : Bool) → l < most_links → b ≡ can_join x y write (piped w.pipes l) → b ≡ false
      → with_link (state_of w).raw s n l write x y ≡ Err Exists
  unfolding with_link
  link_exists l write x y b less is f =
      let test : Bool × Reason = (can_join x y write ((state_of w).raw.links l), Exists) in
      let m = effect (changes.Join n l write x y) s (state_of w).raw in
      ap (λ c. provided_if c Range (provided (can_open (state_of w).raw s n ++ test ∷ []) m)) (lt-ltb l most_links less)
      ∙ one_fails (can_open (state_of w).raw s n) test m (open_passes w s n few some shut) (ap (can_join x y write) (links_are w l) ∙ sym is ∙ f)

-- a channel that cannot be opened stops each line
module _ (m : Machine) (s n : ℕ) (r : Reason) (h : (k : Machine) → provided (can_open m s n) k ≡ Err r) where
  pub disk_stops : (names : Names) (at : ℕ) → with_disk m s n names at ≡ Err r
  unfolding with_disk
  disk_stops names at = fails_first (can_open m s n) ((has_file names m.files, NoFile) ∷ []) (channel_opened m s n (Reads names at)) r h

  pub draft_stops : (names : Names) → with_draft m s n names ≡ Err r
  unfolding with_draft
  draft_stops names = h (channel_opened m s n (Writes (record { names = names; words = [] })))

  pub usr_stops : (t : ℕ) (w : Bool) (at : ℕ) → with_usr m s n t w at ≡ Err r
  unfolding with_usr
  usr_stops t w at = fails_first (can_open m s n) ((is_slot s (superiors m t), Unfit) ∷ []) (channel_opened m s n (On t w at)) r h

  pub link_stops : (l : ℕ) (w : Bool) (x y : ℕ) → l < most_links → with_link m s n l w x y ≡ Err r
  unfolding with_link
  link_stops l w x y less =
      ap (λ b. provided_if b Range (provided (can_open m s n ++ (can_join x y w (m.links l), Exists) ∷ []) (effect (changes.Join n l w x y) s m)))
      (lt-ltb l most_links less)
      ∙ fails_first (can_open m s n) ((can_join x y w (m.links l), Exists) ∷ []) (effect (changes.Join n l w x y) s m) r h
