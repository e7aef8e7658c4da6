-- The lists to which slots belong, as parts of a world are written; all else keeps each slot on the
-- list to which it belongs. No other file reasons on places.
use Rattle.std.specs.Prelude.{◌≡◌, ◌≢◌, ◌<◌, ◌⊎◌, ◌&&◌, ◌+◌, ℕ, zero, suc, Bool, true, false, Option, Some, None, IfSome, List, [], ◌∷◌, ◌++◌, length, nat_lt, unwrap_or, refl}
use Rattle.std.proofs.Common.{sym, ◌∙◌, ap, subst, inl, inr, arith}
use Rattle.std.proofs.lemmas.Bool.{cases_eq, cases_Bool, ltb-true, lt-ltb}
use Rattle.std.proofs.lemmas.Bool.Decides.{nat_tests}
use Rattle.its_links.specs.Lists.{list_at, count}
use Rattle.its_links.proofs.CountLaws.{hit_same}
use Rattle.its_word.specs.Only.{Only, Same}
use Rattle.its_records.specs.Tree.{fresh_job}
use Rattle.its_records.specs.declared.calls.Ask.{Ask}
use Rattle.its_records.specs.declared.jobs.Channel.TheVariants as channels
use Rattle.its_records.specs.declared.jobs.Job.{Job}
use Rattle.its_jobs.specs.Table.{job_at}
use Rattle.its_frame.specs.declared.decision.Wait.{Wait}
use Rattle.its_frame.specs.declared.decision.Wait.TheVariants.{Hang, Clock, Input, Output, Drained, Empty, Room}
use Rattle.its_frame.specs.declared.frame.Frame.{Frame}
use Rattle.its_frame.specs.declared.name.CallName.{CallName}
use Rattle.its_frame.specs.declared.name.CallName.TheVariants as calls
use Rattle.its_plain.specs.Call.Link.{is_dry, is_crowded}
use Rattle.its_plain.specs.Machine.{Shut}
use Rattle.its_plain.specs.Call.Moves.{Device, AtConsole, AtLink}
use Rattle.its_plain.specs.Call.Decide.{call_named}
use Rattle.its_frame.specs.declared.frame.Frame.TheVariants.{Waiting}
use Rattle.its_plain.specs.Call.Arguments.{input}
use Rattle.its_plain.specs.Call.Reasons.{Doors, held_up, reason_by}
use Rattle.its_records.specs.Links.{most_links}
use Rattle.its_pipes.specs.Pipes.{piped}
use Rattle.its_shared.proofs.PartLaws.{all_closed}
use Rattle.its_world.specs.WaitLists.{heads, post_of, is_within, Within, place_at, mark, StandsIn, AwayFrom, input_lists, output_lists, lists_at, lists_to, link_lists, link_lists_to, lists_of}
use Rattle.its_world.specs.Filed.{frame_at, console_at, holder_at, kind_of, channel_of, wait_reason, if_within, place_for, place_by, doors_of, wait_list_of, OnLists, OnlyWaitLists, Refiled, Resettled, SlotWritten}
use Rattle.its_world.specs.Contents.{Contents, contents}
use Rattle.its_world.proofs.ContentsLaws.{jobs_as, frames_as, consoles_as, holders_as, clock_as, pipes_as, lists_as}
use Rattle.its_world.specs.declared.world.World.{World}

-- a slot without a frame belongs in no list
pub place_none : (w : World) (k : ℕ) → frame_at w.frames.items k ≡ None → wait_list_of w k ≡ None
unfolding wait_list_of
place_none w k none = ap (place_by (doors_of w) k (job_at w.jobs k)) none

-- what a place looks at: the job and the frame of its slot, and the doors
abbrev pub doors_in : Contents → Doors
doors_in p = record { consoles = console_at p.consoles.items; holders = holder_at p.holders; clock = p.clock; links = piped p.pipes }

pub place_alike : (old new : World) (k : ℕ) → job_at new.jobs k ≡ job_at old.jobs k
    → frame_at new.frames.items k ≡ frame_at old.frames.items k → doors_of new ≡ doors_of old → wait_list_of new k ≡ wait_list_of old k
unfolding wait_list_of
place_alike old new k job frame doors = λ t. place_by (doors t) k (job t) (frame t)

pub place_wait_lists : (old new : World) → OnlyWaitLists old new → (k : ℕ) → wait_list_of new k ≡ wait_list_of old k
place_wait_lists old new o k = place_alike old new k (ap (λ t. job_at t k) (jobs_as o.is)) (ap (λ f. frame_at f.items k) (frames_as o.is)) (ap doors_in o.is)

-- a place is the head of a list
within_at : (r : Wait) (b : Bool) → Within r → IfSome (place_at r b) (λ h. h < heads)
within_at Hang true l = omega arith
within_at Hang false l = tt
within_at Clock true l = omega arith
within_at Clock false l = tt
within_at (Input c) true l = omega arith
within_at (Input c) false l = omega arith
within_at (Output c) true l = omega arith
within_at (Output c) false l = omega arith
within_at (Drained c) true l = omega arith
within_at (Drained c) false l = omega arith
within_at (Empty n) true l = omega arith
within_at (Empty n) false l = omega arith
within_at (Room n) true l = omega arith
within_at (Room n) false l = omega arith

-- a reason is at a console or a link that there is
pub within_is : (r : Wait) → is_within r ≡ true → Within r
within_is Hang h = tt
within_is Clock h = tt
within_is (Input c) h = ltb-true c 8 h
within_is (Output c) h = ltb-true c 8 h
within_is (Drained c) h = ltb-true c 8 h
within_is (Empty l) h = ltb-true l most_links h
within_is (Room l) h = ltb-true l most_links h

pub is_within_so : (r : Wait) → Within r → is_within r ≡ true
is_within_so Hang h = refl
is_within_so Clock h = refl
is_within_so (Input c) h = lt-ltb c 8 h
is_within_so (Output c) h = lt-ltb c 8 h
is_within_so (Drained c) h = lt-ltb c 8 h
is_within_so (Empty l) h = lt-ltb l most_links h
is_within_so (Room l) h = lt-ltb l most_links h

within_if : (b : Bool) (p : Option ℕ) → (b ≡ true → IfSome p (λ h. h < heads)) → IfSome (if_within b p) (λ h. h < heads)
within_if true p h = h refl
within_if false p h = tt

within_for : (d : Doors) (k n : ℕ) (r : Option Wait) → IfSome (place_for d k n r) (λ h. h < heads)
within_for d k n (Some r) = within_if (is_within r) (place_at r (held_up d k n r)) (λ t. within_at r (held_up d k n r) (within_is r t))
within_for d k n None = tt

within_by : (d : Doors) (k : ℕ) (o : Option Job) (f : Option Frame) → IfSome (place_by d k o f) (λ h. h < heads)
within_by d k o (Some (Waiting f)) = within_for d k (input f.ask 0) (wait_reason o f.ask)
within_by d k o _ = tt

pub place_within : (w : World) (k : ℕ) → IfSome (wait_list_of w k) (λ h. h < heads)
unfolding wait_list_of
place_within w k = within_by (doors_of w) k (job_at w.jobs k) (frame_at w.frames.items k)

pub place_lists : (w : World) (k : ℕ) (p : Option ℕ) → p ≡ wait_list_of w k → IfSome p (λ h. h < length w.wait_lists.lists)
place_lists w k p e = subst (λ o. IfSome o (λ h. h < length w.wait_lists.lists)) (sym e)
    (subst (λ n. IfSome (wait_list_of w k) (λ h. h < n)) (sym w.wait_lists_heads) (place_within w k))

-- a slot at the same place as before
pub stands_on : (old new : List (List ℕ)) (k : ℕ) (p q : Option ℕ) → ((h : ℕ) → count k (list_at new h) ≡ count k (list_at old h)) → q ≡ p
    → StandsIn old k p → StandsIn new k q
stands_on old new k p q same e s = record { at = λ h. same h ∙ s.at h ∙ ap (λ o. mark o h) (sym e) }

-- no job waits if none has a frame
pub idle_on_lists : (old new : World) → OnLists old → ((k : ℕ) → frame_at old.frames.items k ≡ None) → new.frames ≡ old.frames
    → new.wait_lists ≡ old.wait_lists → OnLists new
idle_on_lists old new r none frames wait_lists = record {
  each = λ k. stands_on old.wait_lists.lists new.wait_lists.lists k (wait_list_of old k) (wait_list_of new k)
      (λ h. ap (λ l. count k (list_at l.lists h)) wait_lists)
      (place_none new k (ap (λ f. frame_at f.items k) frames ∙ none k) ∙ sym (place_none old k (none k))) (r.each k);
}

-- the table of jobs is another, with the same jobs, or is the same; and nothing else that a place
-- looks at is written
pub on_lists_jobs : (old new : World) → Same (job_at old.jobs) (job_at new.jobs) → new.frames ≡ old.frames → doors_of new ≡ doors_of old
    → new.wait_lists ≡ old.wait_lists → OnLists old → OnLists new
on_lists_jobs old new jobs frames doors wait_lists r = record {
  each = λ k. stands_on old.wait_lists.lists new.wait_lists.lists k (wait_list_of old k) (wait_list_of new k)
      (λ h. ap (λ l. count k (list_at l.lists h)) wait_lists)
      (place_alike old new k (jobs.each k) (ap (λ f. frame_at f.items k) frames) doors) (r.each k);
}

pub on_lists_alike : (old new : World) → new.jobs ≡ old.jobs → new.frames ≡ old.frames → doors_of new ≡ doors_of old
    → new.wait_lists ≡ old.wait_lists → OnLists old → OnLists new
on_lists_alike old new jobs = on_lists_jobs old new (record { each = λ k. ap (λ t. job_at t k) jobs })

-- the job or the frame of one slot is written, and the slot is put on the list to which it belongs
pub slot_on_lists : (old mid new : World) (s : ℕ) (j : Option Job) (f : Option Frame) → SlotWritten old mid s j f → Refiled mid new s
    → OnLists old → OnLists new
slot_on_lists old mid new s j f w filed r = record {
  each = λ k. elim (cases_eq k s) [
    | inl e ↦ subst (λ i. StandsIn new.wait_lists.lists i (wait_list_of new i)) (sym e) filed.here
    | inr ne ↦ stands_on old.wait_lists.lists new.wait_lists.lists k (wait_list_of old k) (wait_list_of new k)
        (λ h. filed.others k ne h ∙ ap (λ l. count k (list_at l.lists h)) (lists_as w.rest))
        (place_wait_lists mid new filed.rest k ∙ place_alike old mid k (w.job.others k ne) (w.frame.others k ne) (ap doors_in w.rest))
        (r.each k)
  ];
}

-- the job of a slot without a frame is written
pub user_on_lists : (old new : World) (s : ℕ) → ((k : ℕ) → k ≢ s → job_at new.jobs k ≡ job_at old.jobs k) → frame_at old.frames.items s ≡ None
    → new.frames ≡ old.frames → doors_of new ≡ doors_of old → new.wait_lists ≡ old.wait_lists → OnLists old → OnLists new
user_on_lists old new s others none frames doors wait_lists r = record {
  each = λ k. stands_on old.wait_lists.lists new.wait_lists.lists k (wait_list_of old k) (wait_list_of new k)
      (λ h. ap (λ l. count k (list_at l.lists h)) wait_lists) (elim (cases_eq k s) [
        | inl e ↦ place_none new k (ap (λ f. frame_at f.items k) frames ∙ ap (frame_at old.frames.items) e ∙ none)
            ∙ sym (place_none old k (ap (frame_at old.frames.items) e ∙ none))
        | inr ne ↦ place_alike old new k (others k ne) (ap (λ f. frame_at f.items k) frames) doors
      ]) (r.each k);
}

-- a job is made: it can wait for nothing that an empty slot cannot wait for
shut_by : (c : ℕ) (n : CallName) → reason_by c Shut (Some n) ≡ reason_by 0 Shut (Some n)
shut_by c calls.Hang = refl
shut_by c _ = refl

shut_reason : (c : ℕ) (o : Option CallName) → reason_by c Shut o ≡ reason_by 0 Shut o
shut_reason c (Some n) = shut_by c n
shut_reason c None = refl

fresh_channel : (u n : ℕ) (console : Option ℕ) (i : ℕ) → channel_of (fresh_job u n console) i ≡ channels.Closed
unfolding fresh_job
fresh_channel u n console i = elim (cases_Bool (nat_lt i 16)) [ inl t ↦ rw t (all_closed 16 i) | inr t ↦ rw t refl ]

fresh_reason : (u n : ℕ) (console : Option ℕ) (a : Ask) → wait_reason (Some (fresh_job u n console)) a ≡ wait_reason None a
fresh_reason u n console a =
    let c = unwrap_or (fresh_job u n console).console 0 in
    ap (λ x. reason_by c (kind_of x) (call_named a.name)) (fresh_channel u n console (input a 0)) ∙ shut_reason c (call_named a.name)

fresh_place : (d : Doors) (k u n : ℕ) (console : Option ℕ) (f : Option Frame) → place_by d k (Some (fresh_job u n console)) f ≡ place_by d k None f
fresh_place d k u n console (Some (Waiting f)) = ap (place_for d k (input f.ask 0)) (fresh_reason u n console f.ask)
fresh_place d k u n console _ = refl

pub made_on_lists : (old new : World) (s u n : ℕ) (console : Option ℕ) → job_at old.jobs s ≡ None
    → Only (job_at old.jobs) (job_at new.jobs) s (Some (fresh_job u n console))
    → new.frames ≡ old.frames → doors_of new ≡ doors_of old → new.wait_lists ≡ old.wait_lists → OnLists old → OnLists new
unfolding wait_list_of
made_on_lists old new s u n console none job frames doors wait_lists r = record {
  each = λ k. stands_on old.wait_lists.lists new.wait_lists.lists k (wait_list_of old k) (wait_list_of new k)
      (λ h. ap (λ l. count k (list_at l.lists h)) wait_lists) (elim (cases_eq k s) [
        | inl e ↦
            ap (λ i. place_by (doors_of new) k (job_at new.jobs i) (frame_at new.frames.items k)) e
            ∙ ap (λ o. place_by (doors_of new) k o (frame_at new.frames.items k)) job.here
            ∙ fresh_place (doors_of new) k u n console (frame_at new.frames.items k)
            ∙ ap (λ d. place_by d k None (frame_at new.frames.items k)) doors
            ∙ ap (λ f. place_by (doors_of old) k None (frame_at f.items k)) frames
            ∙ ap (λ o. place_by (doors_of old) k o (frame_at old.frames.items k)) (sym (ap (job_at old.jobs) e ∙ none))
        | inr ne ↦ place_alike old new k (job.others k ne) (ap (λ f. frame_at f.items k) frames) doors
      ]) (r.each k);
}

-- a slot that is not on a list does not belong to it
away : (lists : List (List ℕ)) (k g : ℕ) → StandsIn lists k (Some g) → count k (list_at lists g) ≡ 0 → ⊥
away lists k g s none = let a = s.at g in let b = hit_same g in omega arith

same_post : (lists : List (List ℕ)) (k : ℕ) (q p : Device) → Some q ≡ Some p → AwayFrom lists k (lists_of p) → AwayFrom lists k (lists_of q)
same_post lists k q p e none = let same : q ≡ p = cc in subst (λ d. AwayFrom lists k (lists_of d)) (sym same) none

away_at : (lists : List (List ℕ)) (k : ℕ) (p : Device) (r : Wait) (b : Bool) → post_of r ≡ Some p → AwayFrom lists k (lists_of p)
    → StandsIn lists k (place_at r b) → ⊥
away_at lists k p Hang b e none s = cc
away_at lists k p Clock b e none s = cc
away_at lists k p (Input c) true e none s = away lists k (2 + c) s (same_post lists k (AtConsole c) p e none).0
away_at lists k p (Output c) true e none s = away lists k (10 + c) s (same_post lists k (AtConsole c) p e none).1.0
away_at lists k p (Drained c) true e none s = away lists k (18 + c) s (same_post lists k (AtConsole c) p e none).1.1.0
away_at lists k p (Empty l) true e none s = away lists k (34 + l) s (same_post lists k (AtLink l) p e none).0
away_at lists k p (Room l) true e none s = away lists k (50 + l) s (same_post lists k (AtLink l) p e none).1.0
away_at lists k p (Input c) false e none s = away lists k (26 + c) s (same_post lists k (AtConsole c) p e none).1.1.1.0
away_at lists k p (Output c) false e none s = away lists k (26 + c) s (same_post lists k (AtConsole c) p e none).1.1.1.0
away_at lists k p (Drained c) false e none s = away lists k (26 + c) s (same_post lists k (AtConsole c) p e none).1.1.1.0
away_at lists k p (Empty l) false e none s = away lists k (66 + l) s (same_post lists k (AtLink l) p e none).1.1.0
away_at lists k p (Room l) false e none s = away lists k (66 + l) s (same_post lists k (AtLink l) p e none).1.1.0

-- a slot keeps its place: it is held up as before, or it cannot have been at the place that it had
-- before
abbrev pub Keeps : Doors → Doors → List (List ℕ) → ℕ → ℕ → Wait → Type 0
Keeps d e lists k n r = (held_up e k n r ≡ held_up d k n r) ⊎ (StandsIn lists k (place_at r (held_up d k n r)) → ⊥)

kept_if : (d e : Doors) (lists : List (List ℕ)) (k n : ℕ) (r : Wait) (b : Bool) → (b ≡ true → Keeps d e lists k n r)
    → StandsIn lists k (if_within b (place_at r (held_up d k n r)))
    → if_within b (place_at r (held_up e k n r)) ≡ if_within b (place_at r (held_up d k n r))
kept_if d e lists k n r true keeps s = elim (keeps refl) [ inl same ↦ ap (place_at r) same | inr wrong ↦ absurd (wrong s) ]
kept_if d e lists k n r false keeps s = refl

kept_for : (d e : Doors) (lists : List (List ℕ)) (k n : ℕ) (o : Option Wait) → ((r : Wait) → Within r → Keeps d e lists k n r)
    → StandsIn lists k (place_for d k n o) → place_for e k n o ≡ place_for d k n o
kept_for d e lists k n (Some r) keeps s = kept_if d e lists k n r (is_within r) (λ t. keeps r (within_is r t)) s
kept_for d e lists k n None keeps s = refl

kept_by : (d e : Doors) (lists : List (List ℕ)) (k : ℕ) (o : Option Job) (f : Option Frame)
    → ((n : ℕ) (r : Wait) → Within r → Keeps d e lists k n r) → StandsIn lists k (place_by d k o f) → place_by e k o f ≡ place_by d k o f
kept_by d e lists k o (Some (Waiting f)) keeps s = kept_for d e lists k (input f.ask 0) (wait_reason o f.ask) (keeps (input f.ask 0)) s
kept_by d e lists k o _ keeps s = refl

-- consoles, holders, links or the clock are written, jobs without frames too, and each slot of
-- these lists is put on the list to which it belongs
settled_on_lists : (old mid new : World) (hs : List ℕ) → ((k : ℕ) → (job_at mid.jobs k ≡ job_at old.jobs k)
    ⊎ (frame_at old.frames.items k ≡ None)) → mid.frames ≡ old.frames → mid.wait_lists ≡ old.wait_lists
    → ((k n : ℕ) (r : Wait) → Within r → AwayFrom old.wait_lists.lists k hs → Keeps (doors_of old) (doors_of mid) old.wait_lists.lists k n r)
    → Resettled mid new hs → OnLists old → OnLists new
unfolding wait_list_of
settled_on_lists old mid new hs jobs frames wait_lists keeps settled r = record {
  each = λ k. elim (settled.each k) [
    | inl right ↦ right
    | inr p ↦
        let none : AwayFrom old.wait_lists.lists k hs = subst (λ l. AwayFrom l.lists k hs) wait_lists p.0 in
        stands_on old.wait_lists.lists new.wait_lists.lists k (wait_list_of old k) (wait_list_of new k)
        (λ h. p.1 h ∙ ap (λ l. count k (list_at l.lists h)) wait_lists)
        (place_wait_lists mid new settled.rest k ∙ elim (jobs k) [
          | inl job ↦ ap (λ o. place_by (doors_of mid) k o (frame_at mid.frames.items k)) job
              ∙ ap (λ f. place_by (doors_of mid) k (job_at old.jobs k) (frame_at f.items k)) frames
              ∙ kept_by (doors_of old) (doors_of mid) old.wait_lists.lists k (job_at old.jobs k) (frame_at old.frames.items k)
              (λ n x l. keeps k n x l none) (r.each k)
          | inr empty ↦ place_none mid k (ap (λ f. frame_at f.items k) frames ∙ empty) ∙ sym (place_none old k empty)
        ])
        (r.each k)
  ];
}

-- two posts are the same or not
cases_post : (p q : Device) → (p ≡ q) ⊎ (p ≢ q)
cases_post (AtConsole c) (AtConsole d) = elim (cases_eq c d) [ inl e ↦ inl (ap AtConsole e) | inr ne ↦ inr (λ h. ne cc) ]
cases_post (AtLink l) (AtLink m) = elim (cases_eq l m) [ inl e ↦ inl (ap AtLink e) | inr ne ↦ inr (λ h. ne cc) ]
cases_post (AtConsole c) (AtLink l) = inr (λ h. cc)
cases_post (AtLink l) (AtConsole c) = inr (λ h. cc)

-- the consoles, their holders or the links are others, and all else, the lists too, is as it was
abbrev pub DoorsWritten : World → World → Type 0
DoorsWritten old mid = contents mid ≡ record (contents old) { consoles = mid.consoles; holders = mid.holders; pipes = mid.pipes }

pub doors_written : (mid : World) {q : Contents} → contents mid ≡ q
    → contents mid ≡ record q { consoles = mid.consoles; holders = mid.holders; pipes = mid.pipes }
doors_written mid e = λ t. record (e t) { consoles = mid.consoles; holders = mid.holders; pipes = mid.pipes }

-- of one console or one link
pub post_on_lists : (old mid new : World) (p : Device) → ((c : ℕ) → AtConsole c ≢ p
    → console_at mid.consoles.items c ≡ console_at old.consoles.items c) → ((c : ℕ) → AtConsole c ≢ p → holder_at mid.holders c ≡ holder_at old.holders c)
    → ((l : ℕ) → AtLink l ≢ p → piped mid.pipes l ≡ piped old.pipes l) → DoorsWritten old mid → Resettled mid new (lists_of p) → OnLists old → OnLists new
post_on_lists old mid new p consoles holders links w = settled_on_lists old mid new (lists_of p)
    (λ k. inl (ap (λ t. job_at t k) (jobs_as w))) (frames_as w) (lists_as w) keeps
  where
    at_post : (k n : ℕ) (r : Wait) (q : Device) → post_of r ≡ Some q → (q ≢ p → held_up (doors_of mid) k n r ≡ held_up (doors_of old) k n r)
        → AwayFrom old.wait_lists.lists k (lists_of p)
        → Keeps (doors_of old) (doors_of mid) old.wait_lists.lists k n r
    at_post k n r q is same none = elim (cases_post q p) [
      | inl e ↦ inr (away_at old.wait_lists.lists k p r (held_up (doors_of old) k n r) (is ∙ ap Some e) none)
      | inr ne ↦ inl (same ne)
    ]

    keeps : (k n : ℕ) (r : Wait) → Within r → AwayFrom old.wait_lists.lists k (lists_of p) → Keeps (doors_of old) (doors_of mid) old.wait_lists.lists k n r
    keeps k n Hang l none = inl refl
    keeps k n Clock l none = inl (ap (λ t. held_up (record (doors_of old) { clock = t }) k n Clock) (clock_as w))
    keeps k n (Input i) l none = at_post k n (Input i) (AtConsole i) refl
        (λ ne. λ t. held_up (record { consoles = λ _. consoles i ne t; holders = λ _. holders i ne t; clock = 0; links = λ _. None }) k n (Input 0)) none
    keeps k n (Output i) l none = at_post k n (Output i) (AtConsole i) refl
        (λ ne. λ t. held_up (record { consoles = λ _. consoles i ne t; holders = λ _. holders i ne t; clock = 0; links = λ _. None }) k n (Output 0)) none
    keeps k n (Drained i) l none = at_post k n (Drained i) (AtConsole i) refl
        (λ ne. λ t. held_up (record { consoles = λ _. consoles i ne t; holders = λ _. holders i ne t; clock = 0; links = λ _. None }) k n (Drained 0)) none
    keeps k n (Empty i) l none = at_post k n (Empty i) (AtLink i) refl (λ ne. ap is_dry (links i ne)) none
    keeps k n (Room i) l none = at_post k n (Room i) (AtLink i) refl (λ ne. ap is_crowded (links i ne)) none

-- of the input of one console, or of its output
off_input : (lists : List (List ℕ)) (k c i : ℕ) (b : Bool) → i ≡ c → AwayFrom lists k (input_lists c) → StandsIn lists k (place_at (Input i) b) → ⊥
off_input lists k c i true e none s = away lists k (2 + i) s (ap (λ x. count k (list_at lists (2 + x))) e ∙ none.0)
off_input lists k c i false e none s = away lists k (26 + i) s (ap (λ x. count k (list_at lists (26 + x))) e ∙ none.1.0)

off_output : (lists : List (List ℕ)) (k c i : ℕ) (b : Bool) → i ≡ c → AwayFrom lists k (output_lists c) → StandsIn lists k (place_at (Output i) b) → ⊥
off_output lists k c i true e none s = away lists k (10 + i) s (ap (λ x. count k (list_at lists (10 + x))) e ∙ none.0)
off_output lists k c i false e none s = away lists k (26 + i) s (ap (λ x. count k (list_at lists (26 + x))) e ∙ none.1.1.0)

off_drained : (lists : List (List ℕ)) (k c i : ℕ) (b : Bool) → i ≡ c → AwayFrom lists k (output_lists c) → StandsIn lists k (place_at (Drained i) b) → ⊥
off_drained lists k c i true e none s = away lists k (18 + i) s (ap (λ x. count k (list_at lists (18 + x))) e ∙ none.1.0)
off_drained lists k c i false e none s = away lists k (26 + i) s (ap (λ x. count k (list_at lists (26 + x))) e ∙ none.1.1.0)

pub heard_on_lists : (old mid new : World) (c : ℕ) → ((i : ℕ) → i ≢ c → console_at mid.consoles.items i ≡ console_at old.consoles.items i)
    → ((i : ℕ) → (console_at mid.consoles.items i).output ≡ (console_at old.consoles.items i).output)
    → contents mid ≡ record (contents old) { consoles = mid.consoles } → Resettled mid new (input_lists c) → OnLists old → OnLists new
heard_on_lists old mid new c consoles outputs w = settled_on_lists old mid new (input_lists c) (λ k. inl (ap (λ t. job_at t k) (jobs_as w)))
    (frames_as w) (lists_as w) keeps
  where
    keeps : (k n : ℕ) (r : Wait) → Within r → AwayFrom old.wait_lists.lists k (input_lists c) → Keeps (doors_of old) (doors_of mid) old.wait_lists.lists k n r
    keeps k n Hang l none = inl refl
    keeps k n Clock l none = inl (ap (λ t. held_up (record (doors_of old) { clock = t }) k n Clock) (clock_as w))
    keeps k n (Input i) l none = elim (cases_eq i c) [
      | inl e ↦ inr (off_input old.wait_lists.lists k c i (held_up (doors_of old) k n (Input i)) e none)
      | inr ne ↦ inl (λ t. held_up (record {
        consoles = λ _. consoles i ne t;
        holders = λ _. holder_at (holders_as w t) i;
        clock = 0;
        links = λ _. None;
      }) k n (Input 0))
    ]
    keeps k n (Output i) l none = inl (λ t. held_up (record {
      consoles = λ _. record { input = []; output = outputs i t };
      holders = λ _. holder_at (holders_as w t) i;
      clock = 0;
      links = λ _. None;
    }) k n (Output 0))
    keeps k n (Drained i) l none = inl (λ t. held_up (record
        { consoles = λ _. record { input = []; output = outputs i t }; holders = λ _. None; clock = 0; links = λ _. None }) k n (Drained 0))
    keeps k n (Empty i) l none = inl (ap (λ p. is_dry (piped p i)) (pipes_as w))
    keeps k n (Room i) l none = inl (ap (λ p. is_crowded (piped p i)) (pipes_as w))

pub spoken_on_lists : (old mid new : World) (c : ℕ) → ((i : ℕ) → i ≢ c → console_at mid.consoles.items i ≡ console_at old.consoles.items i)
    → ((i : ℕ) → (console_at mid.consoles.items i).input ≡ (console_at old.consoles.items i).input)
    → contents mid ≡ record (contents old) { consoles = mid.consoles } → Resettled mid new (output_lists c) → OnLists old → OnLists new
spoken_on_lists old mid new c consoles inputs w = settled_on_lists old mid new (output_lists c)
    (λ k. inl (ap (λ t. job_at t k) (jobs_as w))) (frames_as w) (lists_as w) keeps
  where
    keeps : (k n : ℕ) (r : Wait) → Within r → AwayFrom old.wait_lists.lists k (output_lists c)
        → Keeps (doors_of old) (doors_of mid) old.wait_lists.lists k n r
    keeps k n Hang l none = inl refl
    keeps k n Clock l none = inl (ap (λ t. held_up (record (doors_of old) { clock = t }) k n Clock) (clock_as w))
    keeps k n (Input i) l none = inl (λ t. held_up (record {
      consoles = λ _. record { input = inputs i t; output = [] };
      holders = λ _. holder_at (holders_as w t) i;
      clock = 0;
      links = λ _. None;
    }) k n (Input 0))
    keeps k n (Output i) l none = elim (cases_eq i c) [
      | inl e ↦ inr (off_output old.wait_lists.lists k c i (held_up (doors_of old) k n (Output i)) e none)
      | inr ne ↦ inl (λ t. held_up (record {
        consoles = λ _. consoles i ne t;
        holders = λ _. holder_at (holders_as w t) i;
        clock = 0;
        links = λ _. None;
      }) k n (Output 0))
    ]
    keeps k n (Drained i) l none = elim (cases_eq i c) [
      | inl e ↦ inr (off_drained old.wait_lists.lists k c i (held_up (doors_of old) k n (Drained i)) e none)
      | inr ne ↦ inl (λ t. held_up (record { consoles = λ _. consoles i ne t; holders = λ _. None; clock = 0; links = λ _. None }) k n (Drained 0))
    ]
    keeps k n (Empty i) l none = inl (ap (λ p. is_dry (piped p i)) (pipes_as w))
    keeps k n (Room i) l none = inl (ap (λ p. is_crowded (piped p i)) (pipes_as w))

-- the clock, which gains: a sleeper whose time has come is on no list
later_up : (a : Bool) (c m t : ℕ) → (a && nat_lt c t) ≡ false → (a && nat_lt (c + m) t) ≡ false
later_up false c m t h = refl
later_up true c m t h = grind (arith, nat_tests)

pub clock_on_lists : (old mid new : World) (m : ℕ) → contents mid ≡ record (contents old) { clock = old.clock + m }
    → Resettled mid new (1 ∷ []) → OnLists old → OnLists new
clock_on_lists old mid new m w = settled_on_lists old mid new (1 ∷ []) (λ k. inl (ap (λ t. job_at t k) (jobs_as w))) (frames_as w) (lists_as w) keeps
  where
    sleeper : (k n : ℕ) (b : Bool) → held_up (doors_of old) k n Clock ≡ b → count k (list_at old.wait_lists.lists 1) ≡ 0
        → Keeps (doors_of old) (doors_of mid) old.wait_lists.lists k n Clock
    sleeper k n true e none = inr (λ s. away old.wait_lists.lists k 1 (subst (λ b. StandsIn old.wait_lists.lists k (place_at Clock b)) e s) none)
    sleeper k n false e none = inl (ap (λ t. held_up (record (doors_of old) { clock = t }) k n Clock) (clock_as w) ∙ later_up _ old.clock m _ e ∙ sym e)

    keeps : (k n : ℕ) (r : Wait) → Within r → AwayFrom old.wait_lists.lists k (1 ∷ []) → Keeps (doors_of old) (doors_of mid) old.wait_lists.lists k n r
    keeps k n Hang l none = inl refl
    keeps k n Clock l none = sleeper k n (held_up (doors_of old) k n Clock) refl none.0
    keeps k n (Input i) l none = inl (λ t. held_up (record {
      consoles = console_at (consoles_as w t).items;
      holders = holder_at (holders_as w t);
      clock = 0;
      links = λ _. None;
    }) k n (Input i))
    keeps k n (Output i) l none = inl (λ t. held_up (record {
      consoles = console_at (consoles_as w t).items;
      holders = holder_at (holders_as w t);
      clock = 0;
      links = λ _. None;
    }) k n (Output i))
    keeps k n (Drained i) l none = inl (λ t. held_up (record
        { consoles = console_at (consoles_as w t).items; holders = holder_at (holders_as w t); clock = 0; links = λ _. None }) k n (Drained i))
    keeps k n (Empty i) l none = inl (ap (λ p. is_dry (piped p i)) (pipes_as w))
    keeps k n (Room i) l none = inl (ap (λ p. is_crowded (piped p i)) (pipes_as w))

-- of all consoles
away_append : (lists : List (List ℕ)) (k : ℕ) (a b : List ℕ) → AwayFrom lists k (a ++ b) → AwayFrom lists k a × AwayFrom lists k b
away_append lists k [] b h = (tt, h)
away_append lists k (x ∷ a) b h = let r = away_append lists k a b h.1 in ((h.0, r.0), r.1)

away_to : (lists : List (List ℕ)) (k n c : ℕ) → c < n → AwayFrom lists k (lists_to n) → AwayFrom lists k (lists_at c)
away_to lists k zero c l none = absurd (omega arith)
away_to lists k (suc n) c l none =
    let p = away_append lists k (lists_to n) (lists_at n) none in
    elim (cases_eq c n) [
      | inl e ↦ subst (λ i. AwayFrom lists k (lists_at i)) (sym e) p.1
      | inr ne ↦ away_to lists k n c (omega arith) p.0
    ]

away_link : (lists : List (List ℕ)) (k n l : ℕ) → l < n → AwayFrom lists k (link_lists_to n) → AwayFrom lists k (link_lists l)
away_link lists k zero l lt none = absurd (omega arith)
away_link lists k (suc n) l lt none =
    let p = away_append lists k (link_lists_to n) (link_lists n) none in
    elim (cases_eq l n) [
      | inl e ↦ subst (λ i. AwayFrom lists k (link_lists i)) (sym e) p.1
      | inr ne ↦ away_link lists k n l (omega arith) p.0
    ]

-- some jobs without frames are gone, consoles have other holders, and links have other ends or are
-- gone
pub removed_on_lists : (old mid new : World) → ((k : ℕ) → (job_at mid.jobs k ≡ job_at old.jobs k) ⊎ (frame_at old.frames.items k ≡ None))
    → mid.frames ≡ old.frames → mid.consoles ≡ old.consoles → mid.clock ≡ old.clock → mid.wait_lists ≡ old.wait_lists
    → Resettled mid new (lists_to 8 ++ link_lists_to most_links) → OnLists old → OnLists new
removed_on_lists old mid new jobs frames consoles clock wait_lists =
    settled_on_lists old mid new (lists_to 8 ++ link_lists_to most_links) jobs frames wait_lists keeps
  where
    at_console : (k c : ℕ) → c < 8 → AwayFrom old.wait_lists.lists k (lists_to 8 ++ link_lists_to most_links) → AwayFrom old.wait_lists.lists k (lists_at c)
    at_console k c l none = away_to old.wait_lists.lists k 8 c l (away_append old.wait_lists.lists k (lists_to 8) (link_lists_to most_links) none).0

    at_link : (k l : ℕ) → l < most_links → AwayFrom old.wait_lists.lists k (lists_to 8 ++ link_lists_to most_links)
        → AwayFrom old.wait_lists.lists k (link_lists l)
    at_link k l lt none = away_link old.wait_lists.lists k most_links l lt (away_append old.wait_lists.lists k (lists_to 8) (link_lists_to most_links) none).1

    keeps : (k n : ℕ) (r : Wait) → Within r → AwayFrom old.wait_lists.lists k (lists_to 8 ++ link_lists_to most_links)
        → Keeps (doors_of old) (doors_of mid) old.wait_lists.lists k n r
    keeps k n Hang l none = inl refl
    keeps k n Clock l none = inl (ap (λ t. held_up (record (doors_of old) { clock = t }) k n Clock) clock)
    keeps k n (Input i) l none = inr (away_at old.wait_lists.lists k (AtConsole i) (Input i) (held_up (doors_of old) k n (Input i)) refl
        (at_console k i l none))
    keeps k n (Output i) l none = inr (away_at old.wait_lists.lists k (AtConsole i) (Output i) (held_up (doors_of old) k n (Output i)) refl
        (at_console k i l none))
    keeps k n (Drained i) l none = inr (away_at old.wait_lists.lists k (AtConsole i) (Drained i) (held_up (doors_of old) k n (Drained i))
        refl (at_console k i l none))
    keeps k n (Empty i) l none = inr (away_at old.wait_lists.lists k (AtLink i) (Empty i) (held_up (doors_of old) k n (Empty i)) refl (at_link k i l none))
    keeps k n (Room i) l none = inr (away_at old.wait_lists.lists k (AtLink i) (Room i) (held_up (doors_of old) k n (Room i)) refl (at_link k i l none))
