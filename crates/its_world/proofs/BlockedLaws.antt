-- A slot is on a wait list if it is on a list, and not on the Awake list of its console or link.
use Rattle.std.specs.Prelude.{◌≡◌, ◌≢◌, ◌<◌, ◌≤◌, ◌↔◌, ◌⊎◌, ◌+◌, ℕ, Bool, true, false, IsTrue, not, Option, Some, None, List, [], length, unwrap_or, refl}
use Rattle.std.proofs.Common.{sym, ◌∙◌, ap, subst, inl, inr, arith}
use Rattle.std.proofs.lemmas.Bool.{cases_Bool, both_ways, lt-ltb}
use Rattle.its_links.specs.Lists.{list_at, count, times}
use Rattle.its_links.proofs.CountLaws.{hit_same, count-le-times, two-le-times}
use Rattle.its_records.specs.declared.jobs.Channel.{Channel}
use Rattle.its_records.specs.declared.jobs.Job.{Job}
use Rattle.its_jobs.specs.Table.{job_at}
use Rattle.its_frame.specs.declared.decision.Wait.{Wait}
use Rattle.its_frame.specs.declared.decision.Wait.TheVariants.{Hang, Clock, Input, Output, Drained, Empty, Room}
use Rattle.its_frame.specs.declared.frame.Frame.{Frame}
use Rattle.its_frame.specs.declared.frame.Frame.TheVariants.{Waiting}
use Rattle.its_frame.specs.declared.frame.Waiting.{Waiting as Waits}
use Rattle.its_frame.specs.declared.name.CallName.{CallName}
use Rattle.its_frame.specs.declared.name.CallName.TheVariants as calls
use Rattle.its_records.specs.Links.{most_links}
use Rattle.its_plain.specs.Call.Arguments.{input}
use Rattle.its_plain.specs.Call.Decide.{call_named}
use Rattle.its_plain.specs.Machine.{Chan, TtyIn, TtyOut, Linked}
use Rattle.its_plain.specs.Call.Reasons.{Doors, held_up, of_transfer, of_finish, of_listen, reason_by}
use Rattle.its_world.specs.WaitLists.{heads, IsWaitList, awake_of, is_within, Within, place_at, StandsIn, IsIn}
use Rattle.its_world.specs.Filed.{frame_at, kind_of, channel_of, wait_reason, if_within, place_for, place_by, doors_of, wait_list_of, awake_for, awake_by, awake_at, Blocked}
use Rattle.its_world.proofs.PlaceLaws.{within_is}
use Rattle.its_world.proofs.WaitListLaws.{times_none}
use Rattle.its_world.specs.declared.world.World.{World}

-- the lists to which a slot can belong: none, a wait list, or the Awake list of its console or link
abbrev pub Belongs : Option ℕ → Option ℕ → Type 0
Belongs p awake = (p ≡ None) ⊎ (((g : ℕ) × ((p ≡ Some g) × IsWaitList g)) ⊎ (p ≡ awake))

belongs_at : (r : Wait) (b : Bool) → Within r → Belongs (place_at r b) (awake_of r)
belongs_at Hang true l = inr (inl (0, (refl, inl (omega arith))))
belongs_at Clock true l = inr (inl (1, (refl, inl (omega arith))))
belongs_at (Input c) true l = inr (inl (2 + c, (refl, inl (omega arith))))
belongs_at (Output c) true l = inr (inl (10 + c, (refl, inl (omega arith))))
belongs_at (Drained c) true l = inr (inl (18 + c, (refl, inl (omega arith))))
belongs_at (Empty n) true l = inr (inl (34 + n, (refl, inr (omega arith, omega arith))))
belongs_at (Room n) true l = inr (inl (50 + n, (refl, inr (omega arith, omega arith))))
belongs_at r false l = inr (inr refl)

belongs_if : (r : Wait) (b t : Bool) → (t ≡ true → Within r) → Belongs (if_within t (place_at r b)) (if_within t (awake_of r))
belongs_if r b true l = belongs_at r b (l refl)
belongs_if r b false l = inl refl

belongs_for : (d : Doors) (k n : ℕ) (o : Option Wait) → Belongs (place_for d k n o) (awake_for o)
belongs_for d k n (Some r) = belongs_if r (held_up d k n r) (is_within r) (within_is r)
belongs_for d k n None = inl refl

belongs_by : (d : Doors) (k : ℕ) (o : Option Job) (f : Option Frame) → Belongs (place_by d k o f) (awake_by o f)
belongs_by d k o (Some (Waiting f)) = belongs_for d k (input f.ask 0) (wait_reason o f.ask)
belongs_by d k o _ = inl refl

pub belongs : (w : World) (k : ℕ) → Belongs (wait_list_of w k) (awake_at w k)
unfolding wait_list_of awake_at
belongs w k = belongs_by (doors_of w) k (job_at w.jobs k) (frame_at w.frames.items k)

-- an Awake list is no wait list, and is one of the lists
record IsAwakeList (h : ℕ) : Type 0 where
  no_list : IsWaitList h → ⊥
  below : h < heads

console_list : (c h : ℕ) → Some (26 + c) ≡ Some h → c < 8 → IsAwakeList h
console_list c h e l =
    let q : 26 + c ≡ h = cc in
    record { no_list = λ r. elim r [ inl low ↦ omega arith | inr high ↦ let a = high.0 in omega arith ]; below = omega arith }

link_list : (l h : ℕ) → Some (66 + l) ≡ Some h → l < most_links → IsAwakeList h
link_list l h e lt =
    let q : 66 + l ≡ h = cc in
    record { no_list = λ r. elim r [ inl low ↦ omega arith | inr high ↦ let a = high.1 in omega arith ]; below = omega arith }

awake_list : (r : Wait) (h : ℕ) → Within r → awake_of r ≡ Some h → IsAwakeList h
awake_list Hang h l e = cc
awake_list Clock h l e = cc
awake_list (Input c) h l e = console_list c h e l
awake_list (Output c) h l e = console_list c h e l
awake_list (Drained c) h l e = console_list c h e l
awake_list (Empty n) h l e = link_list n h e l
awake_list (Room n) h l e = link_list n h e l

list_if : (r : Wait) (t : Bool) (h : ℕ) → (t ≡ true → Within r) → if_within t (awake_of r) ≡ Some h → IsAwakeList h
list_if r true h l e = awake_list r h (l refl) e
list_if r false h l e = cc

list_for : (o : Option Wait) (h : ℕ) → awake_for o ≡ Some h → IsAwakeList h
list_for (Some r) h e = list_if r (is_within r) h (within_is r) e
list_for None h e = cc

list_by : (o : Option Job) (f : Option Frame) (h : ℕ) → awake_by o f ≡ Some h → IsAwakeList h
list_by o (Some (Waiting f)) h e = list_for (wait_reason o f.ask) h e
list_by o _ h e = cc

awake_wait_list : (w : World) (k h : ℕ) → awake_at w k ≡ Some h → IsWaitList h → ⊥
unfolding awake_at
awake_wait_list w k h e = (list_by (job_at w.jobs k) (frame_at w.frames.items k) h e).no_list

pub awake_within : (w : World) (k h : ℕ) (p : Option ℕ) → p ≡ awake_at w k → p ≡ Some h → h < length w.wait_lists.lists
unfolding awake_at
awake_within w k h p e q = let l = w.wait_lists_heads in let b = (list_by (job_at w.jobs k) (frame_at w.frames.items k) h (sym e ∙ q)).below in omega arith

-- a slot on a wait list and on its Awake list at once would be on two lists
in_two : (lists : List (List ℕ)) (k g : ℕ) (p : Option ℕ) → times k lists ≤ 1 → IsWaitList g → 0 < count k (list_at lists g)
    → ((h : ℕ) → p ≡ Some h → IsWaitList h → ⊥) → IsIn lists k p → ⊥
in_two lists k g None once less here past is = is
in_two lists k g (Some h) once less here past is = let t = two-le-times k lists g h (λ e. past h refl (subst IsWaitList e less)) in omega arith

in_mark : (lists : List (List ℕ)) (k : ℕ) (p : Option ℕ) → StandsIn lists k p → 0 < times k lists → IsIn lists k p
in_mark lists k None s some = let z = times_none k lists s.at in absurd (omega arith)
in_mark lists k (Some h) s some = let a = s.at h in let b = hit_same h in omega arith

pub blocked_found : (w : World) (k : ℕ) → (Blocked w k ⊎ StandsIn w.wait_lists.lists k (wait_list_of w k)) → 0 < times k w.wait_lists.lists
    → (IsIn w.wait_lists.lists k (awake_at w k) → ⊥) → Blocked w k
blocked_found w k (inl b) some awake = b
blocked_found w k (inr s) some awake = elim (belongs w k) [
  | inl none ↦ absurd (let i = in_mark w.wait_lists.lists k (wait_list_of w k) s some in subst (IsIn w.wait_lists.lists k) none i)
  | inr p ↦ elim p [
    | inl list ↦ let i = subst (IsIn w.wait_lists.lists k) list.1.0 (in_mark w.wait_lists.lists k (wait_list_of w k) s some) in record
        { list = list.0; within = list.1.1; here = i }
    | inr is ↦ absurd (awake (subst (IsIn w.wait_lists.lists k) is (in_mark w.wait_lists.lists k (wait_list_of w k) s some)))
  ]
]

pub blocked_linked : (w : World) (k : ℕ) → Blocked w k → 0 < times k w.wait_lists.lists
blocked_linked w k b = let h = b.here in let t = count-le-times k w.wait_lists.lists b.list in omega arith

pub blocked_asleep : (w : World) (k : ℕ) → times k w.wait_lists.lists ≤ 1 → Blocked w k → IsIn w.wait_lists.lists k (awake_at w k) → ⊥
blocked_asleep w k once b is = in_two w.wait_lists.lists k b.list (awake_at w k) once b.within b.here (awake_wait_list w k) is

-- what the test says
not_true : (b : Bool) → IsTrue (not b) → b ≡ false
not_true false h = refl
not_true true h = cc

pub blocked_when : (w : World) (k i : ℕ) (linked awake : Bool) → i ≡ k → times k w.wait_lists.lists ≤ 1
    → (Blocked w k ⊎ StandsIn w.wait_lists.lists k (wait_list_of w k)) → linked ≡ true
    → (IsTrue linked ↔ (0 < times i w.wait_lists.lists)) → (IsTrue awake ↔ IsIn w.wait_lists.lists k (awake_at w k)) → IsTrue (not awake) ↔ Blocked w k
blocked_when w k i linked awake is once stands link linked_is awake_is = (
  (λ h. blocked_found w k stands (subst (λ n. 0 < times n w.wait_lists.lists) is (linked_is.0 link))
      (λ a. both_ways awake (not_true awake h) (awake_is.1 a))),
  (λ b. elim (cases_Bool awake) [
    | inl t ↦ absurd (blocked_asleep w k once b (awake_is.0 t))
    | inr f ↦ ap not f
  ]),
)

pub blocked_not : (w : World) (k i : ℕ) (linked : Bool) → i ≡ k → linked ≡ false → (IsTrue linked ↔ (0 < times i w.wait_lists.lists))
    → IsTrue linked ↔ Blocked w k
blocked_not w k i linked is no_link linked_is = (
  (λ h. absurd (both_ways linked no_link h)),
  (λ b. linked_is.1 (subst (λ n. 0 < times n w.wait_lists.lists) (sym is) (blocked_linked w k b))),
)

-- a call at no link: the Awake list is that of its job's console, or there is none
abbrev AtConsole : ℕ → Option ℕ → Type 0
AtConsole c p = (p ≡ None) ⊎ (p ≡ Some (26 + c))

transfer_at : (c : ℕ) (on : Chan) → ((l : ℕ) (w : Bool) → on ≢ Linked l w) → c < 8 → AtConsole c (awake_for (of_transfer c on))
transfer_at c TtyIn none l = inr (ap (λ b. if_within b (Some (26 + c))) (lt-ltb c 8 l))
transfer_at c TtyOut none l = inr (ap (λ b. if_within b (Some (26 + c))) (lt-ltb c 8 l))
transfer_at c (Linked n w) none l = absurd (none n w refl)
transfer_at c _ none l = inl refl

finish_at : (c : ℕ) (on : Chan) → c < 8 → AtConsole c (awake_for (of_finish c on))
finish_at c TtyOut l = inr (ap (λ b. if_within b (Some (26 + c))) (lt-ltb c 8 l))
finish_at c _ l = inl refl

listen_at : (c : ℕ) (on : Chan) → c < 8 → AtConsole c (awake_for (of_listen c on))
listen_at c TtyIn l = inr (ap (λ b. if_within b (Some (26 + c))) (lt-ltb c 8 l))
listen_at c TtyOut l = inr (ap (λ b. if_within b (Some (26 + c))) (lt-ltb c 8 l))
listen_at c _ l = inl refl

reason_at : (c : ℕ) (on : Chan) (o : Option CallName) → ((l : ℕ) (w : Bool) → on ≢ Linked l w) → c < 8 → AtConsole c (awake_for (reason_by c on o))
reason_at c on (Some calls.Iot) none l = transfer_at c on none l
reason_at c on (Some calls.Siot) none l = transfer_at c on none l
reason_at c on (Some calls.Finish) none l = finish_at c on l
reason_at c on (Some calls.Listen) none l = listen_at c on l
reason_at c on _ none l = inl refl

no_one : (lists : List (List ℕ)) (k c : ℕ) (p : Option ℕ) → AtConsole c p → list_at lists (26 + c) ≡ [] → IsIn lists k p → ⊥
no_one lists k c p (inl none) still is = subst (IsIn lists k) none is
no_one lists k c p (inr at) still is = let h : 0 < count k (list_at lists (26 + c)) =
    subst (IsIn lists k) at is in let e : count k (list_at lists (26 + c)) ≡ 0 = ap (count k) still in omega arith

pub asleep : (w : World) (k c : ℕ) (j : Job) (f : Waits) (g : Channel) → job_at w.jobs k ≡ Some j → frame_at w.frames.items k ≡ Some (Waiting f)
    → g ≡ channel_of j (input f.ask 0) → ((l : ℕ) (b : Bool) → kind_of g ≢ Linked l b) → c ≡ unwrap_or j.console 0 → c < 8
    → list_at w.wait_lists.lists (26 + c) ≡ []
    → IsIn w.wait_lists.lists k (awake_at w k) → ⊥
unfolding awake_at
asleep w k c j f g job fr on none at l still is =
    let name = call_named f.ask.name in
    let seen : IsIn w.wait_lists.lists k (awake_by (Some j) (Some (Waiting f))) =
    subst (λ (o : Option Frame). IsIn w.wait_lists.lists k (awake_by (Some j) o)) fr
    (subst (λ (o : Option Job). IsIn w.wait_lists.lists k (awake_by o (frame_at w.frames.items k))) job is) in
    let held : IsIn w.wait_lists.lists k (awake_for (reason_by (unwrap_or j.console 0) (kind_of g) name)) =
    subst (λ (x : Channel). IsIn w.wait_lists.lists k (awake_for (reason_by (unwrap_or j.console 0) (kind_of x) name))) (sym on) seen in
    no_one w.wait_lists.lists k c (awake_for (reason_by c (kind_of g) name)) (reason_at c (kind_of g) name none l) still
    (subst (λ n. IsIn w.wait_lists.lists k (awake_for (reason_by n (kind_of g) name))) (sym at) held)

pub not_awake : {P : Type 0} → (P → ⊥) → IsTrue false ↔ P
not_awake never = ((λ h. cc), (λ p. absurd (never p)))
