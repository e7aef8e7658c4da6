-- Links and channels agree: an end is open at a slot and channel exactly if that channel is on that
-- link in that direction. What a change leaves of that: opening an end, closing one, words that
-- come and go, and a removal.
use Rattle.std.specs.Prelude.{if◌then◌else◌, ◌≡◌, ◌≢◌, ◌<◌, ◌⊎◌, ℕ, Bool, true, false, Option, Some, None, option_map, is_some, refl}
use Rattle.std.proofs.Common.{sym, ◌∙◌, ap, subst, inl, inr}
use Rattle.std.proofs.lemmas.Bool.{cases_eq, eq-eqb, ne_eqb, or_parts}
use Rattle.its_records.specs.Links.{most_links, link_end, with_end, is_unopened, is_open, is_alive, end_left, link_left}
use Rattle.its_records.specs.declared.link.End.{End}
use Rattle.its_records.specs.declared.link.End.TheVariants.{Unopened, Opened, Closed}
use Rattle.its_records.specs.declared.link.Link.{Link}
use Rattle.its_plain.specs.Call.Basic.{channel_at}
use Rattle.its_plain.specs.Machine.Change.{channel_in, superiors, is_gone, chan_after_removal, job_after_removal, after_removal, on_slot, in_job, link_or_new, with_end_opened, standing_if, after_end_close, on_link, ends_after_removal}
use Rattle.its_plain.specs.Machine.{Chan, Shut, TtyIn, TtyOut, Reads, Writes, On, Linked, Pipe, Whole, Machine, changed, no_machine}
use Rattle.its_plain.specs.Machine.Own.{on_channel}
use Rattle.its_plain.specs.Operator.State.{has_unopened, with_end_closed}
use Rattle.its_stepped.specs.Forest.{end_at, OnLink, Joined}
use Rattle.its_stepped.proofs.Committing.ChannelLaws.{at_open}
use Rattle.its_stepped.proofs.Frame.FrameLaws.{changed_only, on_slot_here, on_slot_other}

-- channel i of the job of slot k, if it is on an end of a link
pub linked_at : (m : Machine) (k i l : ℕ) (write : Bool) → Joined m → channel_in (m.jobs k) i ≡ Linked l write
    → (l < most_links) × (end_at write (m.links l) ≡ Opened k i)
linked_at m k i l write d e = subst (OnLink m k i) e (d.channels k i)

on_link_by : (m : Machine) (k i : ℕ) (c : Chan)
    → ((l : ℕ) (write : Bool) → c ≡ Linked l write → (l < most_links) × (end_at write (m.links l) ≡ Opened k i)) → OnLink m k i c
on_link_by m k i (Linked l write) h = h l write refl
on_link_by m k i _ h = tt

-- a channel that is on no link
abbrev pub IsUnlinked : Chan → Type 0
IsUnlinked (Linked l write) = ⊥
IsUnlinked _ = Unit {0}

-- two channels on the same end of a link, or on none
pub record SameLink (c d : Chan) : Type 0 where
  pub to : (l : ℕ) (write : Bool) → c ≡ Linked l write → d ≡ Linked l write
  pub from : (l : ℕ) (write : Bool) → d ≡ Linked l write → c ≡ Linked l write

pub same_link : (c d : Chan) → d ≡ c → SameLink c d
same_link c d e = record { to = λ l write is. e ∙ is; from = λ l write is. sym e ∙ is }

pub unlinked : (c d : Chan) → IsUnlinked c → IsUnlinked d → SameLink c d
unlinked c d x y = record { to = λ l write is. absurd (subst IsUnlinked is x); from = λ l write is. absurd (subst IsUnlinked is y) }

-- two ends that are open at the same slot and channel, or at none
record SameEnd (x y : End) : Type 0 where
  to : (k i : ℕ) → x ≡ Opened k i → y ≡ Opened k i
  from : (k i : ℕ) → y ≡ Opened k i → x ≡ Opened k i

same_end : (x y : End) → y ≡ x → SameEnd x y
same_end x y e = record { to = λ k i is. e ∙ is; from = λ k i is. sym e ∙ is }

ends_then : (x y z : End) → SameEnd x y → SameEnd y z → SameEnd x z
ends_then x y z a b = record { to = λ k i is. b.to k i (a.to k i is); from = λ k i is. a.from k i (b.from k i is) }

not_opened : (e : End) (k i : ℕ) → is_open e ≡ false → e ≢ Opened k i
not_opened e k i h is = let no : false ≡ true = sym h ∙ ap is_open is in cc

neither : (x y : End) → is_open x ≡ false → is_open y ≡ false → SameEnd x y
neither x y h g = record { to = λ k i is. absurd (not_opened x k i h is); from = λ k i is. absurd (not_opened y k i g is) }

-- the link that a channel of a call is on is one of those that there can be, and exists
stands_by : (write : Bool) (o : Option Pipe) (k i : ℕ) → end_at write o ≡ Opened k i → is_some o ≡ true
stands_by write (Some p) k i h = refl
stands_by write None k i h = absurd (not_opened Unopened k i refl h)

pub link_stands : (m : Machine) (j n l : ℕ) (write : Bool) (q : Whole) → Joined m → m.jobs j ≡ Some q → channel_at q.channels n ≡ Linked l write
    → (l < most_links) × (is_some (m.links l) ≡ true)
link_stands m j n l write q d is on =
    let open_ : channel_in (m.jobs j) n ≡ Linked l write =
    ap (λ (o : Option Whole). channel_in o n) is ∙ at_open q.channels n (Linked l write) on (λ e. cc) in
    let at = linked_at m j n l write d open_ in
    (at.0, stands_by write (m.links l) j n at.1)

-- a machine whose channels and ends are as they were
pub joined_same : (m n : Machine) → ((k i : ℕ) → SameLink (channel_in (m.jobs k) i) (channel_in (n.jobs k) i))
    → ((l : ℕ) (write : Bool) → end_at write (n.links l) ≡ end_at write (m.links l)) → Joined m → Joined n
joined_same m n h e d = record {
  channels = λ k i. on_link_by n k i (channel_in (n.jobs k) i)
      (λ l write is. let was = linked_at m k i l write d ((h k i).from l write is) in (was.0, e l write ∙ was.1));
  ends = λ l k i write is. (h k i).to l write (d.ends l k i write (sym (e l write) ∙ is));
}

-- a machine with the same jobs, and with each end open at the same slot and channel, or at none
ends_joined : (m : Machine) (ls : ℕ → Option Pipe) → ((l : ℕ) (write : Bool) → SameEnd (end_at write (m.links l)) (end_at write (ls l))) → Joined m
    → Joined (record m { links = ls })
ends_joined m ls h d = record {
  channels = λ k i. on_link_by (record m { links = ls }) k i (channel_in (m.jobs k) i)
      (λ l write is. let was = linked_at m k i l write d is in (was.0, (h l write).to k i was.1));
  ends = λ l k i write is. d.ends l k i write ((h l write).from k i is);
}

-- one job changed, whose channels are on the links that they were on
pub job_joined : (m : Machine) (s : ℕ) (f : Whole → Whole)
    → ((q : Whole) → m.jobs s ≡ Some q → (i : ℕ) → SameLink (q.channels i) ((f q).channels i)) → Joined m → Joined (in_job m s f)
job_joined m s f h d = joined_same m (in_job m s f) slot (λ l write. refl) d
  where
    here : (o : Option Whole) → m.jobs s ≡ o → (i : ℕ) → SameLink (channel_in o i) (channel_in (option_map f o) i)
    here (Some q) is i = h q is i
    here None is i = same_link _ _ refl

    slot : (k i : ℕ) → SameLink (channel_in (m.jobs k) i) (channel_in (on_slot m.jobs s f k) i)
    slot k i = elim (cases_eq k s) [
      | inl at ↦ rw at (subst (λ (o : Option Whole). SameLink (channel_in (m.jobs s) i) (channel_in o i)) (sym (on_slot_here m.jobs s f))
          (here (m.jobs s) refl i))
      | inr ne ↦ same_link _ _ (ap (λ (o : Option Whole). channel_in o i) (on_slot_other m.jobs s k f ne))
    ]

-- at the start of a session
pub joined_starts : Joined no_machine
unfolding no_machine
joined_starts = record { channels = λ k i. tt; ends = λ l k i write is. absurd (not_opened Unopened k i refl (sym (no_end write) ∙ is)) }
  where
    no_end : (write : Bool) → end_at write None ≡ Unopened
    no_end true = refl
    no_end false = refl

-- words come and go, and ends stay
words_end : (f : Pipe → Pipe) (write : Bool) (o : Option Pipe) → ((p : Pipe) → (f p).link ≡ p.link) → end_at write (option_map f o) ≡ end_at write o
words_end f write (Some p) h = ap (link_end write) (h p)
words_end f write None h = refl

on_link_end : (m : Machine) (l r : ℕ) (f : Pipe → Pipe) (write : Bool) → ((p : Pipe) → (f p).link ≡ p.link)
    → end_at write ((on_link m l (option_map f)).links r) ≡ end_at write (m.links r)
on_link_end m l r f write h = elim (cases_eq r l) [
  | inl at ↦ rw at (ap (end_at write) (changed_only m.links l (option_map f (m.links l))).here ∙ words_end f write (m.links l) h)
  | inr ne ↦ ap (end_at write) ((changed_only m.links l (option_map f (m.links l))).others r ne)
]

pub words_joined : (m : Machine) (l : ℕ) (f : Pipe → Pipe) → ((p : Pipe) → (f p).link ≡ p.link) → Joined m → Joined (on_link m l (option_map f))
words_joined m l f h d = joined_same m (on_link m l (option_map f)) (λ k i. same_link _ _ refl) (λ r write. on_link_end m l r f write h) d

-- an end that nobody has opened is closed
unopened_is : (e : End) → is_unopened e ≡ true → is_open e ≡ false
unopened_is Unopened h = refl
unopened_is (Opened s i) h = cc
unopened_is Closed h = cc

shut_end : (write w : Bool) (o : Option Pipe) → has_unopened write o ≡ true → SameEnd (end_at w o) (end_at w (option_map (with_end_closed write) o))
shut_end true true (Some p) h = neither _ _ (unopened_is p.link.writer h) refl
shut_end false false (Some p) h = neither _ _ (unopened_is p.link.reader h) refl
shut_end true false (Some p) h = same_end _ _ refl
shut_end false true (Some p) h = same_end _ _ refl
shut_end write w None h = cc

pub shut_joined : (m : Machine) (l : ℕ) (write : Bool) → has_unopened write (m.links l) ≡ true → Joined m
    → Joined (on_link m l (option_map (with_end_closed write)))
shut_joined m l write h d = ends_joined m _ ends d
  where
    ends : (r : ℕ) (w : Bool) → SameEnd (end_at w (m.links r)) (end_at w (changed m.links l (option_map (with_end_closed write) (m.links l)) r))
    ends r w = elim (cases_eq r l) [
      | inl at ↦ rw at (subst (λ (o : Option Pipe). SameEnd (end_at w (m.links l)) (end_at w o))
          (sym (changed_only m.links l (option_map (with_end_closed write) (m.links l))).here) (shut_end write w (m.links l) h))
      | inr ne ↦ same_end _ _ (ap (end_at w) ((changed_only m.links l (option_map (with_end_closed write) (m.links l))).others r ne))
    ]

-- a channel of job j is put to something else
put_other : (o : Option Whole) (i e : ℕ) (c : Chan) → e ≢ i → channel_in (option_map (on_channel i (λ x. c)) o) e ≡ channel_in o e
put_other (Some q) i e c ne = rw (ne_eqb e i ne) refl
put_other None i e c ne = refl

put_here : (o : Option Whole) (i : ℕ) (c : Chan) → is_some o ≡ true → channel_in (option_map (on_channel i (λ x. c)) o) i ≡ c
put_here (Some q) i c h = rw (eq-eqb i i refl) refl
put_here None i c h = cc

shut_here : (o : Option Whole) (i : ℕ) → channel_in (option_map (on_channel i (λ x. Shut)) o) i ≡ Shut
shut_here (Some q) i = rw (eq-eqb i i refl) refl
shut_here None i = refl

put_elsewhere : (jobs : ℕ → Option Whole) (j i k e : ℕ) (c : Chan)
    → ((k ≡ j) × (e ≡ i)) ⊎ (channel_in (on_slot jobs j (on_channel i (λ x. c)) k) e ≡ channel_in (jobs k) e)
put_elsewhere jobs j i k e c = elim (cases_eq k j) [
  | inl at ↦ elim (cases_eq e i) [
    | inl same ↦ inl (at, same)
    | inr ne ↦ inr (rw at (ap (λ (o : Option Whole). channel_in o e) (on_slot_here jobs j (on_channel i (λ x. c))) ∙ put_other (jobs j) i e c ne))
  ]
  | inr other ↦ inr (ap (λ (o : Option Whole). channel_in o e) (on_slot_other jobs j k (on_channel i (λ x. c)) other))
]

-- an end of link l is changed, and others are as they were
EndsBut : ℕ → Bool → Machine → Machine → Type 0
EndsBut l write m n = (r : ℕ) (w : Bool) → ((r ≡ l) × (w ≡ write)) ⊎ SameEnd (end_at w (m.links r)) (end_at w (n.links r))

other_link : (m : Machine) (l r : ℕ) (f : Option Pipe → Option Pipe) (write w : Bool)
    → ((w ≡ write) ⊎ SameEnd (end_at w (m.links l)) (end_at w (f (m.links l))))
    → ((r ≡ l) × (w ≡ write)) ⊎ SameEnd (end_at w (m.links r)) (end_at w (changed m.links l (f (m.links l)) r))
other_link m l r f write w h = elim (cases_eq r l) [
  | inl at ↦ elim h [
    | inl same ↦ inl (at, same)
    | inr keeps ↦ inr (rw at
        (subst (λ (o : Option Pipe). SameEnd (end_at w (m.links l)) (end_at w o)) (sym (changed_only m.links l (f (m.links l))).here) keeps))
  ]
  | inr ne ↦ inr (same_end _ _ (ap (end_at w) ((changed_only m.links l (f (m.links l))).others r ne)))
]

-- Join: an end that nobody has opened is opened at a channel that is on no link
pub record Opens (l i j : ℕ) (write : Bool) (m : Machine) : Type 0 where
  pub few : l < most_links
  pub maker : is_some (m.jobs j) ≡ true
  pub free : IsUnlinked (channel_in (m.jobs j) i)
  pub unopened : end_at write (m.links l) ≡ Unopened

abbrev pub opened_link : Bool → ℕ → ℕ → ℕ → ℕ → Option Pipe → Option Pipe
opened_link write j i x y o = Some (with_end_opened write j i (link_or_new x y o))

opened_here : (write : Bool) (j i x y : ℕ) (o : Option Pipe) → end_at write (opened_link write j i x y o) ≡ Opened j i
opened_here true j i x y (Some p) = refl
opened_here true j i x y None = refl
opened_here false j i x y (Some p) = refl
opened_here false j i x y None = refl

opened_other : (write w : Bool) (j i x y : ℕ) (o : Option Pipe) → (w ≡ write) ⊎ SameEnd (end_at w o) (end_at w (opened_link write j i x y o))
opened_other true true j i x y o = inl refl
opened_other false false j i x y o = inl refl
opened_other true false j i x y (Some p) = inr (same_end _ _ refl)
opened_other true false j i x y None = inr (same_end _ _ refl)
opened_other false true j i x y (Some p) = inr (same_end _ _ refl)
opened_other false true j i x y None = inr (same_end _ _ refl)

same_opened : (j i k e : ℕ) → Opened j i ≡ Opened k e → (k ≡ j) × (e ≡ i)
same_opened j i k e h = (cc, cc)

same_linked : (l r : ℕ) (write w : Bool) → Linked l write ≡ Linked r w → (r ≡ l) × (w ≡ write)
same_linked l r write w h = (cc, cc)

module _ (m n : Machine) (l i j : ℕ) (write : Bool) (opens : Opens l i j write m) (d : Joined m) (here : end_at write (n.links l) ≡ Opened j i)
    (on : channel_in (n.jobs j) i ≡ Linked l write)
    (channels : (k e : ℕ) → ((k ≡ j) × (e ≡ i)) ⊎ (channel_in (n.jobs k) e ≡ channel_in (m.jobs k) e)) (others : EndsBut l write m n) where
  opened_end : (k e r : ℕ) (w : Bool) → end_at w (m.links r) ≡ Opened k e → end_at w (n.links r) ≡ Opened k e
  unfolding EndsBut
  opened_end k e r w is = elim (others r w) [
    | inl at ↦ absurd (not_opened Unopened k e refl
        (sym opens.unopened ∙ ap (λ (b : Bool). end_at b (m.links l)) (sym at.1) ∙ ap (λ (x : ℕ). end_at w (m.links x)) (sym at.0) ∙ is))
    | inr keeps ↦ keeps.to k e is
  ]

  opened_channel : (k e : ℕ) → OnLink n k e (channel_in (n.jobs k) e)
  opened_channel k e = elim (channels k e) [
    | inl at ↦ rw (at.0, at.1) (subst (OnLink n j i) (sym on) (opens.few, here))
    | inr same ↦ on_link_by n k e (channel_in (n.jobs k) e)
        (λ r w is. let was = linked_at m k e r w d (sym same ∙ is) in (was.0, opened_end k e r w was.1))
  ]

  not_here : (k e r : ℕ) (w : Bool) → channel_in (m.jobs k) e ≡ Linked r w → channel_in (n.jobs k) e ≡ Linked r w
  not_here k e r w is = elim (channels k e) [
    | inl at ↦ absurd (subst IsUnlinked (ap (λ (x : ℕ). channel_in (m.jobs x) i) (sym at.0) ∙ ap (channel_in (m.jobs k)) (sym at.1) ∙ is) opens.free)
    | inr same ↦ same ∙ is
  ]

  opened_ends : (r k e : ℕ) (w : Bool) → end_at w (n.links r) ≡ Opened k e → channel_in (n.jobs k) e ≡ Linked r w
  unfolding EndsBut
  opened_ends r k e w is = elim (others r w) [
    | inl at ↦
        let now : Opened j i ≡ Opened k e =
        sym here ∙ ap (λ (b : Bool). end_at b (n.links l)) (sym at.1) ∙ ap (λ (x : ℕ). end_at w (n.links x)) (sym at.0) ∙ is in
        let spot = same_opened j i k e now in
        ap (λ (x : ℕ). channel_in (n.jobs x) e) spot.0 ∙ ap (channel_in (n.jobs j)) spot.1 ∙ on ∙ ap (λ (b : Bool). Linked l b) (sym at.1)
        ∙ ap (λ (x : ℕ). Linked x w) (sym at.0)
    | inr keeps ↦ not_here k e r w (d.ends r k e w (keeps.from k e is))
  ]

  opened_joined : Joined n
  opened_joined = record { channels = opened_channel; ends = opened_ends }

pub join_joined : (m : Machine) (l i j x y : ℕ) (write : Bool) → Opens l i j write m → Joined m
    → Joined (on_link (in_job m j (on_channel i (λ c. Linked l write))) l (opened_link write j i x y))
unfolding EndsBut
join_joined m l i j x y write opens d =
    opened_joined m _ l i j write opens d
    (ap (end_at write) (changed_only m.links l (opened_link write j i x y (m.links l))).here ∙ opened_here write j i x y (m.links l))
    (ap (λ (o : Option Whole). channel_in o i) (on_slot_here m.jobs j (on_channel i (λ c. Linked l write)))
    ∙ put_here (m.jobs j) i (Linked l write) opens.maker)
    (λ k e. put_elsewhere m.jobs j i k e (Linked l write))
    (λ r w. other_link m l r (opened_link write j i x y) write w (opened_other write w j i x y (m.links l)))

-- Part: an end is closed with its channel
open_end : (w : Bool) (k : Link) → is_alive k ≡ false → is_open (link_end w k) ≡ false
open_end true k h = (or_parts (is_open k.reader) (is_open k.writer) h).1
open_end false k h = (or_parts (is_open k.reader) (is_open k.writer) h).0

unopened_none : (w : Bool) → is_open (end_at w None) ≡ false
unopened_none true = refl
unopened_none false = refl

-- a link that is gone had no open end
alive_end : (w b : Bool) (p : Pipe) → is_alive p.link ≡ b → SameEnd (link_end w p.link) (end_at w (standing_if b p))
alive_end w true p h = same_end _ _ refl
alive_end w false p h = neither _ _ (open_end w p.link h) (unopened_none w)

closed_here : (write : Bool) (o : Option Pipe) (k i : ℕ) → end_at write (after_end_close write o) ≢ Opened k i
closed_here true (Some p) k i is = not_opened Closed k i refl ((alive_end true _ (record p { link = with_end true Closed p.link }) refl).from k i is)
closed_here false (Some p) k i is =
    not_opened Closed k i refl ((alive_end false _ (record p { link = with_end false Closed p.link }) refl).from k i is)
closed_here write None k i is = not_opened (end_at write None) k i (unopened_none write) is

closed_other : (write w : Bool) (o : Option Pipe) → (w ≡ write) ⊎ SameEnd (end_at w o) (end_at w (after_end_close write o))
closed_other true true o = inl refl
closed_other false false o = inl refl
closed_other true false (Some p) = inr (alive_end false _ (record p { link = with_end true Closed p.link }) refl)
closed_other false true (Some p) = inr (alive_end true _ (record p { link = with_end false Closed p.link }) refl)
closed_other true false None = inr (same_end _ _ refl)
closed_other false true None = inr (same_end _ _ refl)

module _ (m n : Machine) (l i j : ℕ) (write : Bool) (d : Joined m) (was : channel_in (m.jobs j) i ≡ Linked l write)
    (here : (k e : ℕ) → end_at write (n.links l) ≢ Opened k e) (shut : channel_in (n.jobs j) i ≡ Shut)
    (channels : (k e : ℕ) → ((k ≡ j) × (e ≡ i)) ⊎ (channel_in (n.jobs k) e ≡ channel_in (m.jobs k) e)) (others : EndsBut l write m n) where
  closed_channel : (k e : ℕ) → OnLink n k e (channel_in (n.jobs k) e)
  unfolding EndsBut
  closed_channel k e = on_link_by n k e (channel_in (n.jobs k) e) (λ r w is. elim (channels k e) [
    | inl at ↦ absurd (let no : Shut ≡ Linked r w = sym shut ∙ ap (λ (x : ℕ). channel_in (n.jobs x) i) (sym at.0)
        ∙ ap (channel_in (n.jobs k)) (sym at.1) ∙ is in cc)
    | inr same ↦
        let on : channel_in (m.jobs k) e ≡ Linked r w = sym same ∙ is in
        let open_ = linked_at m k e r w d on in (
          open_.0,
          elim (others r w) [
            | inl at ↦
                let mine = (linked_at m j i l write d was).1 in
                let now : Opened j i ≡ Opened k e =
                sym mine ∙ ap (λ (b : Bool). end_at b (m.links l)) (sym at.1) ∙ ap (λ (x : ℕ). end_at w (m.links x)) (sym at.0) ∙ open_.1 in
                let spot = same_opened j i k e now in
                absurd (let no : Shut ≡ Linked r w = sym shut ∙ ap (λ (x : ℕ). channel_in (n.jobs x) i) (sym spot.0)
                ∙ ap (channel_in (n.jobs k)) (sym spot.1) ∙ is in cc)
            | inr keeps ↦ keeps.to k e open_.1
          ],
        )
  ])

  closed_ends : (r k e : ℕ) (w : Bool) → end_at w (n.links r) ≡ Opened k e → channel_in (n.jobs k) e ≡ Linked r w
  unfolding EndsBut
  closed_ends r k e w is = elim (others r w) [
    | inl at ↦ absurd (here k e (ap (λ (b : Bool). end_at b (n.links l)) (sym at.1) ∙ ap (λ (x : ℕ). end_at w (n.links x)) (sym at.0) ∙ is))
    | inr keeps ↦
        let open_ = keeps.from k e is in
        let on = d.ends r k e w open_ in
        elim (channels k e) [
          | inl at ↦
              let now : Linked l write ≡ Linked r w =
              sym was ∙ ap (λ (x : ℕ). channel_in (m.jobs x) i) (sym at.0) ∙ ap (channel_in (m.jobs k)) (sym at.1) ∙ on in
              let same = same_linked l r write w now in
              absurd (here k e (ap (λ (b : Bool). end_at b (n.links l)) (sym same.1) ∙ ap (λ (x : ℕ). end_at w (n.links x)) (sym same.0) ∙ is))
          | inr same ↦ same ∙ on
        ]
  ]

  closed_joined : Joined n
  closed_joined = record { channels = closed_channel; ends = closed_ends }

pub part_joined : (m : Machine) (l i j : ℕ) (write : Bool) → channel_in (m.jobs j) i ≡ Linked l write → Joined m
    → Joined (on_link (in_job m j (on_channel i (λ c. Shut))) l (after_end_close write))
unfolding EndsBut
part_joined m l i j write was d =
    closed_joined m _ l i j write d was
    (λ k e is. closed_here write (m.links l) k e (sym (ap (end_at write) (changed_only m.links l (after_end_close write (m.links l))).here) ∙ is))
    (ap (λ (o : Option Whole). channel_in o i) (on_slot_here m.jobs j (on_channel i (λ c. Shut))) ∙ shut_here (m.jobs j) i)
    (λ k e. put_elsewhere m.jobs j i k e Shut)
    (λ r w. other_link m l r (after_end_close write) write w (closed_other write w (m.links l)))

-- a removal: a channel that stays keeps its end, and an end at a job that goes is closed
end_kept : (gone : ℕ → Bool) (e : End) (k i : ℕ) → e ≡ Opened k i → gone k ≡ false → end_left gone e ≡ Opened k i
end_kept gone e k i is stays = ap (end_left gone) is ∙ rw stays refl

end_was : (gone : ℕ → Bool) (e : End) (k i : ℕ) → end_left gone e ≡ Opened k i → (e ≡ Opened k i) × (gone k ≡ false)
end_was gone Unopened k i is = absurd (not_opened Unopened k i refl is)
end_was gone Closed k i is = absurd (not_opened Closed k i refl is)
end_was gone (Opened s e) k i is = go (gone s) refl is
  where
    go : (b : Bool) → gone s ≡ b → (if b then Closed else Opened s e) ≡ Opened k i → (Opened s e ≡ Opened k i) × (gone k ≡ false)
    go true g is = absurd (not_opened Closed k i refl is)
    go false g is = (is, ap gone (same_opened s e k i is).0 ∙ g)

left_end : (gone : ℕ → Bool) (w : Bool) (k : Link) → link_end w (link_left gone k) ≡ end_left gone (link_end w k)
left_end gone true k = refl
left_end gone false k = refl

left_stays : (gone : ℕ → Bool) (w : Bool) (o : Option Pipe) (k i : ℕ) → end_at w o ≡ Opened k i → gone k ≡ false
    → end_at w (ends_after_removal gone o) ≡ Opened k i
left_stays gone w (Some p) k i is stays =
    (alive_end w _ (record p { link = link_left gone p.link }) refl).to k i (left_end gone w p.link ∙ end_kept gone (link_end w p.link) k i is stays)
left_stays gone w None k i is stays = absurd (not_opened (end_at w None) k i (unopened_none w) is)

left_was : (gone : ℕ → Bool) (w : Bool) (o : Option Pipe) (k i : ℕ) → end_at w (ends_after_removal gone o) ≡ Opened k i
    → (end_at w o ≡ Opened k i) × (gone k ≡ false)
left_was gone w (Some p) k i is =
    end_was gone (link_end w p.link) k i (sym (left_end gone w p.link) ∙ (alive_end w _ (record p { link = link_left gone p.link }) refl).from k i is)
left_was gone w None k i is = absurd (not_opened (end_at w None) k i (unopened_none w) is)

chan_was : (gone : ℕ → Bool) (c : Chan) (l : ℕ) (w : Bool) → chan_after_removal gone c ≡ Linked l w → c ≡ Linked l w
chan_was gone (On s write at) l w is = go (gone s) is
  where
    go : (b : Bool) → (if b then Shut else On s write at) ≡ Linked l w → On s write at ≡ Linked l w
    go true is = cc
    go false is = is
chan_was gone Shut l w is = is
chan_was gone TtyIn l w is = is
chan_was gone TtyOut l w is = is
chan_was gone (Reads f at) l w is = is
chan_was gone (Writes f) l w is = is
chan_was gone (Linked r v) l w is = is

job_was : (gone : ℕ → Bool) (b : Bool) (o : Option Whole) (i l : ℕ) (w : Bool) → channel_in (job_after_removal gone b o) i ≡ Linked l w
    → (b ≡ false) × (channel_in o i ≡ Linked l w)
job_was gone true o i l w is = cc
job_was gone false None i l w is = (refl, is)
job_was gone false (Some q) i l w is = (refl, chan_was gone (q.channels i) l w is)

job_left : (gone : ℕ → Bool) (b : Bool) (o : Option Whole) (i l : ℕ) (w : Bool) → b ≡ false → channel_in o i ≡ Linked l w
    → channel_in (job_after_removal gone b o) i ≡ Linked l w
job_left gone true o i l w h is = cc
job_left gone false None i l w h is = is
job_left gone false (Some q) i l w h is = ap (chan_after_removal gone) is

pub removed_joined : (m : Machine) (r : ℕ) → Joined m → Joined (after_removal (superiors m) r m)
unfolding after_removal
removed_joined m r d =
    let gone = is_gone (superiors m) r in
    record {
      channels = λ k i. on_link_by (after_removal (superiors m) r m) k i (channel_in (job_after_removal gone (gone k) (m.jobs k)) i) (λ l w is.
          let was = job_was gone (gone k) (m.jobs k) i l w is in
          let on = linked_at m k i l w d was.1 in
          (on.0, left_stays gone w (m.links l) k i on.1 was.0));
      ends = λ l k i w is.
          let was = left_was gone w (m.links l) k i is in
          job_left gone (gone k) (m.jobs k) i l w was.1 (d.ends l k i w was.0);
    }
