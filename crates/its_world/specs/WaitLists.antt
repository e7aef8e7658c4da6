-- The lists of the slots whose calls wait: a list for each reason to wait, and for each console and
-- each link a list of those that wait there and can go on (docs/STEPS.md, "Wait lists").
-- No promise rests on this.
use Rattle.std.specs.Prelude.{◌≡◌, ◌≢◌, ◌<◌, ◌≤◌, ◌⊎◌, ℕ, ◌+◌, Bool, true, false, Option, Some, None, List, [], ◌∷◌, ◌++◌, length, nat_lt, zero, suc}
use Rattle.its_links.specs.Lists.{Linked, list_at, count, hit, first}
use Rattle.its_frame.specs.declared.decision.Wait.{Wait}
use Rattle.its_frame.specs.declared.decision.Wait.TheVariants.{Hang, Clock, Input, Output, Drained, Empty, Room}
use Rattle.its_plain.specs.Call.Moves.{Device, AtConsole, AtLink}
use Rattle.its_records.specs.Links.{most_links}

-- one list for HANG, one for CLOCK, of each of the eight consoles one each for Input, Output and
-- Drained, and its Awake list, and of each of the sixteen links one each for Empty and Room, and
-- its Awake list. All but the Awake lists are wait lists
abbrev pub heads : ℕ
heads = 82

abbrev pub IsWaitList : ℕ → Type 0
IsWaitList h = (h < 26) ⊎ ((34 ≤ h) × (h < 66))

abbrev pub list_for : Wait → ℕ
list_for Hang = 0
list_for Clock = 1
list_for (Input c) = 2 + c
list_for (Output c) = 10 + c
list_for (Drained c) = 18 + c
list_for (Empty l) = 34 + l
list_for (Room l) = 50 + l

-- the Awake list of the console or the link; a sleeper whose time has come is on no list
abbrev pub awake_of : Wait → Option ℕ
awake_of Hang = None
awake_of Clock = None
awake_of (Input c) = Some (26 + c)
awake_of (Output c) = Some (26 + c)
awake_of (Drained c) = Some (26 + c)
awake_of (Empty l) = Some (66 + l)
awake_of (Room l) = Some (66 + l)

-- where a call waits: at a console, at a link, or at neither
abbrev pub post_of : Wait → Option Device
post_of Hang = None
post_of Clock = None
post_of (Input c) = Some (AtConsole c)
post_of (Output c) = Some (AtConsole c)
post_of (Drained c) = Some (AtConsole c)
post_of (Empty l) = Some (AtLink l)
post_of (Room l) = Some (AtLink l)

abbrev pub awake_head : Device → ℕ
awake_head (AtConsole c) = 26 + c
awake_head (AtLink l) = 66 + l

-- the console of a reason is one of the eight, or its link one of the sixteen, if it is at one
abbrev pub is_within : Wait → Bool
is_within Hang = true
is_within Clock = true
is_within (Input c) = nat_lt c 8
is_within (Output c) = nat_lt c 8
is_within (Drained c) = nat_lt c 8
is_within (Empty l) = nat_lt l most_links
is_within (Room l) = nat_lt l most_links

abbrev pub Within : Wait → Type 0
Within Hang = Unit {0}
Within Clock = Unit {0}
Within (Input c) = c < 8
Within (Output c) = c < 8
Within (Drained c) = c < 8
Within (Empty l) = l < most_links
Within (Room l) = l < most_links

-- the list in which a slot belongs that waits for this reason, by whether it is held up
abbrev pub place_at : Wait → Bool → Option ℕ
place_at r true = Some (list_for r)
place_at r false = awake_of r

-- a slot is once on the list of this head and on no other, or on none
abbrev pub mark : Option ℕ → ℕ → ℕ
mark (Some g) h = hit h g
mark None h = 0

pub record StandsIn (lists : List (List ℕ)) (k : ℕ) (p : Option ℕ) : Type 0 where
  pub at : (h : ℕ) → count k (list_at lists h) ≡ mark p h

-- it is on the list of this head, if one is given
abbrev pub IsIn : List (List ℕ) → ℕ → Option ℕ → Type 0
IsIn lists k (Some h) = 0 < count k (list_at lists h)
IsIn lists k None = ⊥

-- a list was searched for slot s up to its place i, if `at` is given, and the slot was not found
pub record Looked (lists : List (List ℕ)) (h s : ℕ) (at : Option ℕ) (i : ℕ) : Type 0 where
  pub before : List ℕ
  pub after : List ℕ
  pub is : list_at lists h ≡ before ++ after
  pub at_is : at ≡ first after
  pub none : count s before ≡ 0
  pub long : length before ≡ i

-- each slot is on the list to which it belongs
pub record Filed (lists : List (List ℕ)) (place : ℕ → Option ℕ) : Type 0 where
  pub each : (k : ℕ) → StandsIn lists k (place k)

-- slot s was put on the list of this head, or on none, and the others are on the same lists as
-- before
pub record Put (old new : Linked) (s : ℕ) (p : Option ℕ) : Type 0 where
  pub nodes : new.nodes ≡ old.nodes
  pub heads : length new.lists ≡ length old.lists
  pub here : StandsIn new.lists s p
  pub others : (k : ℕ) → k ≢ s → (h : ℕ) → count k (list_at new.lists h) ≡ count k (list_at old.lists h)

-- a slot is on none of these lists
abbrev pub AwayFrom : List (List ℕ) → ℕ → List ℕ → Type 0
AwayFrom lists k [] = Unit {0}
AwayFrom lists k (h ∷ hs) = (count k (list_at lists h) ≡ 0) × AwayFrom lists k hs

-- the lists of console c, and those of the consoles below n
abbrev pub lists_at : ℕ → List ℕ
lists_at c = (2 + c) ∷ (10 + c) ∷ (18 + c) ∷ (26 + c) ∷ []

-- of these the lists of those that wait for input or can go on, and of those that wait for output
-- or can go on
abbrev pub input_lists : ℕ → List ℕ
input_lists c = (2 + c) ∷ (26 + c) ∷ []

abbrev pub output_lists : ℕ → List ℕ
output_lists c = (10 + c) ∷ (18 + c) ∷ (26 + c) ∷ []

abbrev pub lists_to : ℕ → List ℕ
lists_to zero = []
lists_to (suc n) = lists_to n ++ lists_at n

-- the lists of link l, and those of the links below n
abbrev pub link_lists : ℕ → List ℕ
link_lists l = (34 + l) ∷ (50 + l) ∷ (66 + l) ∷ []

abbrev pub link_lists_to : ℕ → List ℕ
link_lists_to zero = []
link_lists_to (suc n) = link_lists_to n ++ link_lists n

-- those of a console or a link
abbrev pub lists_of : Device → List ℕ
lists_of (AtConsole c) = lists_at c
lists_of (AtLink l) = link_lists l
