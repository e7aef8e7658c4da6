-- SENT and SHUT: words after those of a link, and an end of one closed that nobody has opened.
use Rattle.std.specs.Prelude.{◌≡◌, ◌≤◌, ◌<◌, ◌+◌, ℕ, Bool, true, false, Option, Some, None, List, [], ◌∷◌, ◌++◌, length, nat_le, Ok, Err, IsOk, is_some, refl, option_map}
use Rattle.std.proofs.Common.{sym, ◌∙◌, ap, subst, inl, inr, arith, drop, get_or}
use Rattle.std.proofs.Math.ListN.{drop_of_length-le}
use Rattle.std.proofs.lemmas.Bool.{cases_eq, le-leb, leb-true, lt-leb}
use Rattle.std.proofs.lemmas.List.{append-nil, append_assoc, drop_more, length-append}
use Rattle.its_records.specs.Links.{most_link_words}
use Rattle.its_records.specs.declared.session.Reason.{Reason}
use Rattle.its_records.specs.declared.session.Reason.TheVariants.{Exists, Full, Unfit}
use Rattle.its_pipes.specs.Pipes.{piped}
use Rattle.its_plain.specs.Call.Link.{words_in}
use Rattle.its_plain.specs.Machine.{Pipe, Machine}
use Rattle.its_plain.specs.Machine.Change.{on_link, with_sent}
use Rattle.its_plain.specs.Operator.State.{provided, has_room, with_words_in, with_words_sent, has_unopened, with_end_closed, with_end_shut}
use Rattle.its_plain.proofs.MachineLaws.{machine_is}
use Rattle.its_plain.proofs.ProvidedLaws.{AllHold, provided_ok, provided_holds}
use Rattle.its_stepped.specs.Lines.{with_raw}
use Rattle.its_stepped.specs.State.{State}
use Rattle.its_stepped.proofs.Frame.FrameLaws.{changed_only, changed_same}
use Rattle.its_stepped.proofs.Keeping.ForestLaws.{links_forest}
use Rattle.its_stepped.proofs.Keeping.JoinedLaws.{words_joined, shut_joined}
use Rattle.its_stepped.proofs.Lining.RestoredLaws.{sent_lifted, shut_lifted}
use Rattle.its_world.specs.World.{state_of, LinkBecomes}
use Rattle.its_world.specs.declared.world.World.{World}
use Rattle.its_world.proofs.StateLaws.{link_state}
use Rattle.its_monitor.specs.Kept.{Lands}
use Rattle.its_monitor.proofs.RestoresLaws.{Holds, links_hold, Rejoins}
use Rattle.its_monitor.proofs.ChannelLineLaws.{links_are, passed, passes, tested_lands}

-- SENT
sent_holds : (m : Machine) (l : ℕ) (ws : List ℕ) → Holds m → Holds (on_link m l (option_map (with_words_in ws)))
sent_holds m l ws h = links_hold m _ (links_forest m _ (words_joined m l (with_words_in ws) (λ p. refl) h.forest.links) h.forest) h

pub sent_rejoins : (l : ℕ) (ws : List ℕ) → Rejoins (λ m. with_words_sent m l ws)
unfolding with_words_sent
sent_rejoins l ws = record {
  lifts = λ v. sent_lifted v l ws;
  jobs = λ m k e.
      let p = provided_holds ((is_some (m.links l), Unfit) ∷ (has_room ws (m.links l), Full) ∷ []) (on_link m l (option_map (with_words_in ws))) k e in
      ap (λ (i : Machine). i.jobs) (sym p.1);
  holds = λ m k e h.
      let p = provided_holds ((is_some (m.links l), Unfit) ∷ (has_room ws (m.links l), Full) ∷ []) (on_link m l (option_map (with_words_in ws))) k e in
      subst Holds p.1 (sent_holds m l ws h);
}

-- SHUT
shut_holds : (m : Machine) (l : ℕ) (w : Bool) → has_unopened w (m.links l) ≡ true → Holds m → Holds (on_link m l (option_map (with_end_closed w)))
shut_holds m l w free h = links_hold m _ (links_forest m _ (shut_joined m l w free h.forest.links) h.forest) h

pub shut_rejoins : (l : ℕ) (w : Bool) → Rejoins (λ m. with_end_shut m l w)
unfolding with_end_shut
shut_rejoins l w = record {
  lifts = λ v. shut_lifted v l w;
  jobs = λ m k e.
      let p = provided_holds ((is_some (m.links l), Unfit) ∷ (has_unopened w (m.links l), Exists) ∷ []) (on_link m l (option_map (with_end_closed w))) k e in
      ap (λ (i : Machine). i.jobs) (sym p.1);
  holds = λ m k e h.
      let p = provided_holds ((is_some (m.links l), Unfit) ∷ (has_unopened w (m.links l), Exists) ∷ []) (on_link m l (option_map (with_end_closed w))) k e in
      subst Holds p.1 (shut_holds m l w p.0.1.0 h);
}

-- SHUT in the world
module _ (w : World) (l : ℕ) (write : Bool) where
  pub shut_unfit : (b : Bool) → b ≡ is_some (piped w.pipes l) → b ≡ false → with_end_shut (state_of w).raw l write ≡ Err Unfit
  unfolding with_end_shut
  shut_unfit b is f = none ((state_of w).raw.links l) (ap is_some (links_are w l) ∙ sym is ∙ f)
    where
      none : (o : Option Pipe) → is_some o ≡ false → provided ((is_some o, Unfit) ∷ (has_unopened write o, Exists) ∷ [])
          (on_link (state_of w).raw l (option_map (with_end_closed write))) ≡ Err Unfit
      none (Some p) h = cc
      none None h = refl

  pub shut_exists : (b c : Bool) → b ≡ is_some (piped w.pipes l) → b ≡ true → c ≡ has_unopened write (piped w.pipes l) → c ≡ false
      → with_end_shut (state_of w).raw l write ≡ Err Exists
  unfolding with_end_shut
  shut_exists b c is t at f =
      λ i. provided (((ap is_some (links_are w l) ∙ sym is ∙ t) i, Unfit) ∷ ((ap (has_unopened write) (links_are w l) ∙ sym at ∙ f) i, Exists) ∷ [])
      (on_link (state_of w).raw l (option_map (with_end_closed write)))

  pub shut_lands : (new : World) (b c : Bool) → b ≡ is_some (piped w.pipes l) → b ≡ true → c ≡ has_unopened write (piped w.pipes l) → c ≡ true
      → LinkBecomes w new l (option_map (with_end_closed write) (piped w.pipes l)) → Lands (state_of w) (state_of new) (with_end_shut (state_of w).raw l write)
  unfolding with_end_shut
  shut_lands new b c is t at can becomes =
      let ts : List (Bool × Reason) = (is_some ((state_of w).raw.links l), Unfit) ∷ (has_unopened write ((state_of w).raw.links l), Exists) ∷ [] in
      tested_lands (state_of w) (state_of new) ts (on_link (state_of w).raw l (option_map (with_end_closed write)))
      (passes ts (on_link (state_of w).raw l (option_map (with_end_closed write)))
      (ap is_some (links_are w l) ∙ sym is ∙ t, (ap (has_unopened write) (links_are w l) ∙ sym at ∙ can, tt)))
      (link_state w new l (option_map (with_end_closed write)) becomes)

-- SENT in the world: there is such a link, and it has room for the words
none_unfit : (m : Machine) (l : ℕ) (ws : List ℕ) (o : Option Pipe) → is_some o ≡ false
    → provided ((is_some o, Unfit) ∷ (has_room ws o, Full) ∷ []) (on_link m l (option_map (with_words_in ws))) ≡ Err Unfit
none_unfit m l ws (Some p) h = cc
none_unfit m l ws None h = refl

room_by : (ws : List ℕ) (o : Option Pipe) → is_some o ≡ true → length (words_in o) + length ws ≤ most_link_words → has_room ws o ≡ true
room_by ws (Some p) h le = le-leb (length (p.words ++ ws)) most_link_words (let n = length-append p.words ws in omega arith)
room_by ws None h le = cc

full_by : (ws : List ℕ) (o : Option Pipe) → is_some o ≡ true → most_link_words < length (words_in o) + length ws → has_room ws o ≡ false
full_by ws (Some p) h lt = lt-leb (length (p.words ++ ws)) most_link_words (let n = length-append p.words ws in omega arith)
full_by ws None h lt = cc

module _ (w : World) (l : ℕ) (ws : List ℕ) (b : Bool) (is : b ≡ is_some (piped w.pipes l)) where
  pub sent_unfit : b ≡ false → with_words_sent (state_of w).raw l ws ≡ Err Unfit
  unfolding with_words_sent
  sent_unfit f = none_unfit (state_of w).raw l ws ((state_of w).raw.links l) (ap is_some (links_are w l) ∙ sym is ∙ f)

  module _ (t : b ≡ true) (k : ℕ) (count : k ≡ length (words_in (piped w.pipes l))) where
    stands : is_some ((state_of w).raw.links l) ≡ true
    stands = ap is_some (links_are w l) ∙ sym is ∙ t

    waiting : k ≡ length (words_in ((state_of w).raw.links l))
    waiting = count ∙ ap (λ o. length (words_in o)) (sym (links_are w l))

    pub sent_full : most_link_words < k + length ws → with_words_sent (state_of w).raw l ws ≡ Err Full
    unfolding with_words_sent
    sent_full lt =
        let full = full_by ws ((state_of w).raw.links l) stands (let e = waiting in omega arith) in
        λ i. provided ((stands i, Unfit) ∷ (full i, Full) ∷ []) (on_link (state_of w).raw l (option_map (with_words_in ws)))

    pub sent_can : k + length ws ≤ most_link_words → IsOk (with_words_sent (state_of w).raw l ws)
    unfolding with_words_sent
    sent_can le =
        let room = room_by ws ((state_of w).raw.links l) stands (let e = waiting in omega arith) in
        passes ((is_some ((state_of w).raw.links l), Unfit) ∷ (has_room ws ((state_of w).raw.links l), Full) ∷ [])
        (on_link (state_of w).raw l (option_map (with_words_in ws))) (stands, (room, tt))

-- the words one by one: those before place i are sent
pub record Sending (old now : State) (l : ℕ) (ws : List ℕ) (i : ℕ) : Type 0 where
  pub rest : on_link now.raw l (option_map (with_words_in (drop i ws))) ≡ on_link old.raw l (option_map (with_words_in ws))
  pub alone : now ≡ with_raw old now.raw
  pub stands : is_some (now.raw.links l) ≡ true
  pub room : has_room (drop i ws) (now.raw.links l) ≡ true

pub sending_starts : (v : State) (l : ℕ) (ws : List ℕ) → IsOk (with_words_sent v.raw l ws) → Sending v v l ws 0
unfolding with_words_sent
sending_starts v l ws h =
    let all = passed ((is_some (v.raw.links l), Unfit) ∷ (has_room ws (v.raw.links l), Full) ∷ []) (on_link v.raw l (option_map (with_words_in ws))) h in
    record { rest = refl; alone = refl; stands = all.0; room = all.1.0 }

one_fits : (x : ℕ) (ws : List ℕ) (o : Option Pipe) → has_room (x ∷ ws) o ≡ true → length (words_in o) < most_link_words
one_fits x ws (Some p) h =
    let le = leb-true (length (p.words ++ x ∷ ws)) most_link_words h in
    let n = length-append p.words (x ∷ ws) in
    omega arith
one_fits x ws None h = cc

sent_first : (x : ℕ) (ws : List ℕ) (o : Option Pipe) → option_map (with_words_in ws) (option_map (with_sent x) o) ≡ option_map (with_words_in (x ∷ ws)) o
sent_first x ws (Some p) = λ t. Some (record p { words = append_assoc p.words (x ∷ []) ws t })
sent_first x ws None = refl

sent_room : (x : ℕ) (ws : List ℕ) (o : Option Pipe) → has_room ws (option_map (with_sent x) o) ≡ has_room (x ∷ ws) o
sent_room x ws (Some p) = ap (λ xs. nat_le (length xs) most_link_words) (append_assoc p.words (x ∷ []) ws)
sent_room x ws None = refl

sent_stands : (x : ℕ) (o : Option Pipe) → is_some (option_map (with_sent x) o) ≡ is_some o
sent_stands x (Some p) = refl
sent_stands x None = refl

link_twice : (m : Machine) (l : ℕ) (f g h : Option Pipe → Option Pipe) → g (f (m.links l)) ≡ h (m.links l) → on_link (on_link m l f) l g ≡ on_link m l h
link_twice m l f g h e = machine_is _ _ (λ k. refl) (λ k. refl) (λ k. refl) refl refl refl (λ k. refl) (λ k. elim (cases_eq k l) [
  | inl at ↦ rw at ((changed_only (on_link m l f).links l (g ((on_link m l f).links l))).here
      ∙ ap g (changed_only m.links l (f (m.links l))).here ∙ e ∙ sym (changed_only m.links l (h (m.links l))).here)
  | inr ne ↦ (changed_only (on_link m l f).links l (g ((on_link m l f).links l))).others k ne
      ∙ (changed_only m.links l (f (m.links l))).others k ne ∙ sym ((changed_only m.links l (h (m.links l))).others k ne)
])

no_words : (o : Option Pipe) → option_map (with_words_in []) o ≡ o
no_words (Some p) = λ t. Some (record p { words = append-nil p.words t })
no_words None = refl

link_still : (m : Machine) (l : ℕ) → on_link m l (option_map (with_words_in [])) ≡ m
link_still m l = machine_is _ _ (λ k. refl) (λ k. refl) (λ k. refl) refl refl refl (λ k. refl)
    (λ k. sym (changed_same m.links l k (option_map (with_words_in []) (m.links l)) (sym (no_words (m.links l)))))

next_words : (ws : List ℕ) (i x d : ℕ) → i < length ws → x ≡ get_or ws i d → drop i ws ≡ x ∷ drop (i + 1) ws
next_words ws i x d l is = drop_more ws i d l ∙ ap (λ y. y ∷ drop (i + 1) ws) (sym is)

module _ (old now : State) (l i x d : ℕ) (ws : List ℕ) (s : Sending old now l ws i) (lt : i < length ws) (is : x ≡ get_or ws i d) where
  room_left : has_room (x ∷ drop (i + 1) ws) (now.raw.links l) ≡ true
  room_left = ap (λ xs. has_room xs (now.raw.links l)) (sym (next_words ws i x d lt is)) ∙ s.room

  pub sending_room : length (words_in (now.raw.links l)) < most_link_words
  sending_room = one_fits x (drop (i + 1) ws) (now.raw.links l) room_left

  pub sending_next : (new : State) → new ≡ with_raw now (on_link now.raw l (option_map (with_sent x))) → Sending old new l ws (i + 1)
  sending_next new made =
      let there : new.raw.links l ≡ option_map (with_sent x) (now.raw.links l) =
      ap (λ (v : State). v.raw.links l) made ∙ (changed_only now.raw.links l (option_map (with_sent x) (now.raw.links l))).here in
      record {
        rest = ap (λ (v : State). on_link v.raw l (option_map (with_words_in (drop (i + 1) ws)))) made
            ∙ link_twice now.raw l (option_map (with_sent x)) (option_map (with_words_in (drop (i + 1) ws))) (option_map (with_words_in (x ∷ drop (i + 1) ws)))
            (sent_first x (drop (i + 1) ws) (now.raw.links l))
            ∙ ap (λ xs. on_link now.raw l (option_map (with_words_in xs))) (sym (next_words ws i x d lt is)) ∙ s.rest;
        alone = made ∙ ap (λ (v : State). with_raw v (on_link now.raw l (option_map (with_sent x)))) s.alone
            ∙ ap (λ (v : State). with_raw old v.raw) (sym made);
        stands = ap is_some there ∙ sent_stands x (now.raw.links l) ∙ s.stands;
        room = ap (has_room (drop (i + 1) ws)) there ∙ sent_room x (drop (i + 1) ws) (now.raw.links l) ∙ room_left;
      }

pub sending_ends : (old now : State) (l i k : ℕ) (ws : List ℕ) → IsOk (with_words_sent old.raw l ws) → Sending old now l ws i → k ≡ length ws → k ≤ i
    → Lands old now (with_words_sent old.raw l ws)
unfolding with_words_sent
sending_ends old now l i k ws h s is le =
    let ts : List (Bool × Reason) = (is_some (old.raw.links l), Unfit) ∷ (has_room ws (old.raw.links l), Full) ∷ [] in
    let m = on_link old.raw l (option_map (with_words_in ws)) in
    let all : AllHold ts = passed ts m h in
    let left : drop i ws ≡ [] = drop_of_length-le ws (omega arith) in
    record {
      is = provided_ok ts m all ∙ ap Ok (sym s.rest ∙ ap (λ xs. on_link now.raw l (option_map (with_words_in xs))) left ∙ link_still now.raw l);
      rest = s.alone;
    }
