-- Words of a draft and of a link, and bytes of a console, one after another, if there is room for
-- all of them.
use Rattle.std.specs.Prelude.{◌≡◌, ◌==◌, ◌<◌, ◌≤◌, ◌+◌, ◌++◌, ℕ, suc, Bool, true, false, not, Option, Some, None, is_some, IsOk, List, [], ◌∷◌, drop, take, length, option_map, nat_le, Result, Ok, Err, refl}
use Rattle.std.proofs.Common.{ap, sym, subst, ◌∙◌, arith, get_or, inl, inr}
use Rattle.std.proofs.Math.ListN.{drop_of_length-le}
use Rattle.std.proofs.lemmas.Bool.{cases_Bool, cases_eq, eq-eqb, ne_eqb, eqb-true, leb-true}
use Rattle.std.proofs.lemmas.List.{append-nil, append_assoc, drop_more, length-append, take_all}
use Rattle.its_word.specs.Console.{Console, most_waiting}
use Rattle.its_word.specs.Limits.{slots}
use Rattle.its_records.specs.Links.{most_link_words}
use Rattle.its_records.specs.declared.jobs.Channel.TheVariants.{Writing}
use Rattle.its_records.specs.declared.session.Reason.{Reason}
use Rattle.its_records.specs.declared.session.Reason.TheVariants as reasons
use Rattle.its_files.specs.Blocks.{blocks_used, is_full as store_is_full, room_behind}
use Rattle.its_files.specs.Files.{IsStore, entry_at, file_at, with_word, words_at}
use Rattle.its_files.proofs.DirectoryLaws.{with_word_draft}
use Rattle.its_files.proofs.EntryLaws.{draft_stands}
use Rattle.its_files.proofs.RoomBehindLaws.{most_appended, no_room, room_appended}
use Rattle.its_plain.specs.Call.File.{is_full}
use Rattle.its_plain.specs.Call.Link.{words_in}
use Rattle.its_plain.specs.Machine.{Chan, Machine, Pipe, Writes, changed}
use Rattle.its_plain.specs.Machine.Change.{effect, in_job, on_console, on_link, after_put, with_sent}
use Rattle.its_plain.specs.Machine.Own.{on_channel, with_word as longer_on}
use Rattle.its_plain.specs.Operator.{and_then}
use Rattle.its_plain.specs.Operator.Files.{channels_of}
use Rattle.its_plain.specs.Operator.State.{has_room, provided_if, with_all_written, with_bytes, with_word_to, with_words_in}
use Rattle.its_plain.proofs.MachineLaws.{machine_is}
use Rattle.its_shared.specs.Across.{channel_at}
use Rattle.its_shared.specs.Can.{HasRoom, chan_in}
use Rattle.its_shared.specs.Parts.{chan_of, console_at}
use Rattle.its_shared.proofs.RoomLaws.{full_on}
use Rattle.its_shared.proofs.StandLaws.{writing_draft}
use Rattle.its_direct.specs.Effects.{Becomes}
use Rattle.its_direct.specs.Lines.{ConsoleBecomes, Operates, one_slot}
use Rattle.its_direct.specs.Plain.{Tidy, machine_of}
use Rattle.its_direct.specs.declared.plain.Plain.{Plain}
use Rattle.its_direct.proofs.ChannelLaws.{append_comes, chan_is, shows}
use Rattle.its_direct.proofs.ConsoleLaws.{console_machine}
use Rattle.its_direct.proofs.ContentsLaws.{place_as, touched_as}
use Rattle.its_direct.proofs.FileLaws.{long, longer_only, longer_store, with_longer, words_longer}
use Rattle.its_direct.proofs.LineLaws.{only_touched}
use Rattle.its_direct.proofs.LoadedLaws.{first_ok}
use Rattle.its_direct.proofs.RoomLaws.{Within, within_full, within_ok}
use Rattle.its_direct.proofs.SlotLaws.{touched_machine}

-- a function changed twice at one place, or not at all
pub changed_here : {X : Type 0} (f : ℕ → X) (i : ℕ) (x : X) → changed f i x i ≡ x
changed_here f i x = rw (eq-eqb i i refl) refl

pub changed_again : {X : Type 0} (f : ℕ → X) (i : ℕ) (x y : X) (k : ℕ) → changed (changed f i x) i y k ≡ changed f i y k
changed_again f i x y k = elim (cases_Bool (k == i)) [
  | inl t ↦ rw t refl
  | inr t ↦ rw t refl
]

changed_not : {X : Type 0} (f : ℕ → X) (i k : ℕ) (x : X) → x ≡ f i → changed f i x k ≡ f k
changed_not f i k x e = elim (cases_eq k i) [
  | inl at ↦ rw (at, eq-eqb i i refl) e
  | inr ne ↦ rw (ne_eqb k i ne) refl
]

-- the first of the words or bytes that are left
next_is : (ws : List ℕ) (k w d : ℕ) → k < length ws → w ≡ get_or ws k d → drop k ws ≡ w ∷ drop (k + 1) ws
next_is ws k w d l is = drop_more ws k d l ∙ ap (λ x. x ∷ drop (k + 1) ws) (sym is)

-- a draft: one word more, if there is a block for it
if_room : (b : Bool) (x : Result Machine Reason) → IsOk (provided_if (not b) reasons.Full x) → b ≡ false
if_room false x h = refl
if_room true x h = cc

room_by : (m : Machine) (s n w : ℕ) (c : Chan) → IsOk (with_word_to m s n w c) → HasRoom m c
room_by m s n w (Writes f) h = if_room (is_full m.files (channels_of m) f.words) _ h
room_by m s n w c h = cc

word_to : (m : Machine) (s n w : ℕ) (c : Chan) → HasRoom m c → with_word_to m s n w c ≡ Ok (in_job m s (on_channel n (longer_on w)))
unfolding effect
word_to m s n w (Writes f) h = ap (λ (b : Bool). provided_if (not b) reasons.Full (Ok (in_job m s (on_channel n (longer_on w))))) h
word_to m s n w c h = absurd h

-- how many words there is room for
module _ (s n k : ℕ) (ls : s < slots) (ln : n < 16) where
  on_draft : (p : Plain) → Writing k ≡ channel_at p.jobs s n → chan_in (machine_of p) s n ≡ Writes (file_at p.files k)
  on_draft p was = chan_is p s n ∙ ap (chan_of p.files) (sym was)

  full_is : (p : Plain) → IsStore p.files → Tidy p → blocks_used p.files.stored ≤ 2048
      → is_full (machine_of p).files (channels_of (machine_of p)) (words_at p.files k) ≡ store_is_full p.files.stored k
  full_is p whole tidy most =
      let sees = shows p in
      (λ i. is_full (sees.files i) (sees.chans i) (words_at p.files k)) ∙ sym (full_on p.files whole tidy.unmarked p.jobs k tidy.across most)

  to_draft : (p : Plain) (w : ℕ) (b : Bool) → IsStore p.files → Tidy p → blocks_used p.files.stored ≤ 2048 → Writing k ≡ channel_at p.jobs s n
      → store_is_full p.files.stored k ≡ b
      → with_word_to (machine_of p) s n w (chan_in (machine_of p) s n)
      ≡ provided_if (not b) reasons.Full (Ok (in_job (machine_of p) s (on_channel n (longer_on w))))
  unfolding effect
  to_draft p w b whole tidy most was full =
      ap (with_word_to (machine_of p) s n w) (on_draft p was)
      ∙ ap (λ (x : Bool). provided_if (not x) reasons.Full (Ok (in_job (machine_of p) s (on_channel n (longer_on w)))))
      (full_is p whole tidy most ∙ full)

  room_for : (p : Plain) (ws : List ℕ) → IsStore p.files → Tidy p → Writing k ≡ channel_at p.jobs s n → blocks_used p.files.stored ≤ 2048
      → Within (room_behind p.files.stored k) (length ws) (with_all_written (machine_of p) s n ws)
  room_for p [] whole tidy was most = omega arith
  room_for p (w ∷ ws) whole tidy was most = elim (cases_Bool (store_is_full p.files.stored k)) [
    | inl t ↦
        let none : room_behind p.files.stored k ≡ 0 = eqb-true (room_behind p.files.stored k) 0 (sym (no_room p.files.stored k most) ∙ t) in
        subst (Within (room_behind p.files.stored k) (suc (length ws)))
        (sym (ap (λ r. and_then r (λ m. with_all_written m s n ws)) (to_draft p w true whole tidy most was t))) (refl, omega arith)
    | inr f ↦
        let draft = writing_draft p.files p.jobs tidy.across s n k (sym was) in
        let stands = draft_stands (entry_at p.files k) draft in
        let q = with_longer p k w in
        let comes = append_comes p q s n ls ln tidy (with_word p.files k w) k w was refl (with_word_draft p.files whole k w draft)
        (record { each = λ i. refl }) (words_longer p.files whole k w stands) (longer_only p k w) in
        let lt = long p.files whole k w stands in
        let rest = room_for q ws (longer_store p.files whole k w stands) comes.tidy was (most_appended p.files.stored k w lt most f) in
        subst (Within (room_behind p.files.stored k) (suc (length ws)))
        (sym (ap (λ r. and_then r (λ m. with_all_written m s n ws))
        (to_draft p w false whole tidy most was f ∙ ap Ok (sym comes.row.machine))))
        (one_more (room_behind q.files.stored k) (room_behind p.files.stored k) (length ws)
        (with_all_written (machine_of q) s n ws) (room_appended p.files.stored k w lt most f) rest)
  ]
    where
      one_more : (x y l : ℕ) (r : Result Machine Reason) → x + 1 ≡ y → Within x l r → Within y (suc l) r
      one_more x y l (Ok m) e h = omega arith
      one_more x y l (Err z) e h = let u = h.1 in (h.0, omega arith)

  module _ (p : Plain) (room : ℕ) (ws : List ℕ) (whole : IsStore p.files) (tidy : Tidy p) (was : Writing k ≡ channel_at p.jobs s n)
      (most : blocks_used p.files.stored ≤ 2048) (room_is : room ≡ room_behind p.files.stored k) where
    fits : Within room (length ws) (with_all_written (machine_of p) s n ws)
    fits = subst (λ i. Within i (length ws) (with_all_written (machine_of p) s n ws)) (sym room_is) (room_for p ws whole tidy was most)

    pub writing_room : length ws ≤ room → IsOk (with_all_written (machine_of p) s n ws)
    writing_room le = within_ok room (length ws) (with_all_written (machine_of p) s n ws) fits le

    pub writing_full : room < length ws → with_all_written (machine_of p) s n ws ≡ Err reasons.Full
    writing_full lt = within_full room (length ws) (with_all_written (machine_of p) s n ws) fits lt

pub writing_stands : (p : Plain) (s n k : ℕ) → Tidy p → Writing k ≡ channel_at p.jobs s n → is_some (entry_at p.files k) ≡ true
writing_stands p s n k tidy was = draft_stands (entry_at p.files k) (writing_draft p.files p.jobs tidy.across s n k (sym was))

-- the words in their order: those before place k are at the end of the draft
pub record Appending (old now : Plain) (s n : ℕ) (ws : List ℕ) (k : ℕ) : Type 0 where
  pub rest : with_all_written (machine_of now) s n (drop k ws) ≡ with_all_written (machine_of old) s n ws
  pub place : now.place ≡ old.place
  pub tidy : Tidy now

pub appending_starts : (p : Plain) (s n : ℕ) (ws : List ℕ) → Tidy p → Appending p p s n ws 0
appending_starts p s n ws tidy = record { rest = refl; place = refl; tidy = tidy }

module _ (old now : Plain) (s n k w d : ℕ) (ws : List ℕ) (h : Appending old now s n ws k) (l : k < length ws) (is : w ≡ get_or ws k d)
    (ok : IsOk (with_all_written (machine_of old) s n ws)) where
  appended_next : and_then (with_word_to (machine_of now) s n w (chan_in (machine_of now) s n)) (λ m. with_all_written m s n (drop (k + 1) ws))
      ≡ with_all_written (machine_of old) s n ws
  appended_next = ap (with_all_written (machine_of now) s n) (sym (next_is ws k w d l is)) ∙ h.rest

  pub appending_room : HasRoom (machine_of now) (chan_in (machine_of now) s n)
  appending_room = room_by (machine_of now) s n w (chan_in (machine_of now) s n)
      (first_ok (with_word_to (machine_of now) s n w (chan_in (machine_of now) s n)) (λ m. with_all_written m s n (drop (k + 1) ws))
      (subst (λ (r : Result Machine Reason). IsOk r) (sym appended_next) ok))

  pub appending_more : (new : Plain) → Becomes now new (in_job (machine_of now) s (on_channel n (longer_on w))) → Tidy new
      → Appending old new s n ws (k + 1)
  appending_more new b tidy = record {
    rest =
        sym (ap (λ (r : Result Machine Reason). and_then r (λ m. with_all_written m s n (drop (k + 1) ws)))
        (word_to (machine_of now) s n w (chan_in (machine_of now) s n) appending_room ∙ ap Ok (sym b.machine))) ∙ appended_next;
    place = b.place ∙ h.place;
    tidy = tidy;
  }

pub appending_ends : (old now : Plain) (s n k i : ℕ) (ws : List ℕ) → Appending old now s n ws k → i ≡ length ws → i ≤ k
    → with_all_written (machine_of old) s n ws ≡ Ok (machine_of now)
appending_ends old now s n k i ws h is l = sym h.rest ∙ ap (with_all_written (machine_of now) s n) (drop_of_length-le ws (omega arith))

pub all_written : (old put new : Plain) (s n : ℕ) (ws : List ℕ) → s < slots → with_all_written (machine_of old) s n ws ≡ Ok (machine_of put)
    → put.place ≡ old.place → new ≡ record put { touched = one_slot s } → Operates old new s (with_all_written (machine_of old) s n ws)
all_written old put new s n ws l made place e = record {
  is = made ∙ ap Ok (sym (touched_machine put new (one_slot s) e));
  touched = only_touched put new s l e;
  place = ap (λ (p : Plain). p.place) e ∙ place;
}

-- a link, changed twice, or not at all
link_then : (m : Machine) (l : ℕ) (f g h : Option Pipe → Option Pipe) → ((o : Option Pipe) → g (f o) ≡ h o) → on_link (on_link m l f) l g ≡ on_link m l h
link_then m l f g h e = machine_is _ _ (λ k. refl) (λ k. refl) (λ k. refl) refl refl refl (λ k. refl)
    (λ k. changed_again m.links l _ _ k ∙ ap (λ x. changed m.links l (g x) k) (changed_here m.links l (f (m.links l)))
    ∙ ap (λ x. changed m.links l x k) (e (m.links l)))

link_same : (m : Machine) (l : ℕ) (f : Option Pipe → Option Pipe) → f (m.links l) ≡ m.links l → on_link m l f ≡ m
link_same m l f e = machine_is _ _ (λ k. refl) (λ k. refl) (λ k. refl) refl refl refl (λ k. refl) (λ k. changed_not m.links l k (f (m.links l)) e)

sent_then : (w : ℕ) (ws : List ℕ) (o : Option Pipe)
    → option_map (with_words_in ws) (option_map (with_sent w) o) ≡ option_map (with_words_in (w ∷ ws)) o
sent_then w ws (Some p) = ap (λ xs. Some (record p { words = xs })) (append_assoc p.words (w ∷ []) ws)
sent_then w ws None = refl

sent_none : (o : Option Pipe) → option_map (with_words_in []) o ≡ o
sent_none (Some p) = ap (λ xs. Some (record p { words = xs })) (append-nil p.words)
sent_none None = refl

room_stands : (ws : List ℕ) (o : Option Pipe) → has_room ws o ≡ true → is_some o ≡ true
room_stands ws (Some p) h = refl
room_stands ws None h = h

room_one : (w : ℕ) (ws : List ℕ) (o : Option Pipe) → has_room (w ∷ ws) o ≡ true → length (words_in o) < most_link_words
room_one w ws (Some p) h =
    let n = length-append p.words (w ∷ ws) in
    let few = leb-true (length (p.words ++ w ∷ ws)) most_link_words h in
    omega arith
room_one w ws None h = cc

room_then : (w : ℕ) (ws : List ℕ) (o : Option Pipe) → has_room (w ∷ ws) o ≡ true → has_room ws (option_map (with_sent w) o) ≡ true
room_then w ws (Some p) h = ap (λ xs. nat_le (length xs) most_link_words) (append_assoc p.words (w ∷ []) ws) ∙ h
room_then w ws None h = h

-- the words in their order: those before place k are in the link
pub record Sending (old now : Plain) (l : ℕ) (ws : List ℕ) (k : ℕ) : Type 0 where
  pub rest : on_link (machine_of now) l (option_map (with_words_in (drop k ws))) ≡ on_link (machine_of old) l (option_map (with_words_in ws))
  pub room : has_room (drop k ws) ((machine_of now).links l) ≡ true
  pub place : now.place ≡ old.place
  pub touched : now.touched ≡ old.touched
  pub tidy : Tidy now

pub sending_starts : (p : Plain) (l : ℕ) (ws : List ℕ) → has_room ws ((machine_of p).links l) ≡ true → Tidy p → Sending p p l ws 0
sending_starts p l ws room tidy = record { rest = refl; room = room; place = refl; touched = refl; tidy = tidy }

module _ (old now : Plain) (l k w d : ℕ) (ws : List ℕ) (h : Sending old now l ws k) (in_range : k < length ws) (is : w ≡ get_or ws k d) where
  room_now : has_room (w ∷ drop (k + 1) ws) ((machine_of now).links l) ≡ true
  room_now = ap (λ xs. has_room xs ((machine_of now).links l)) (sym (next_is ws k w d in_range is)) ∙ h.room

  pub sending_stands : is_some ((machine_of now).links l) ≡ true
  sending_stands = room_stands (w ∷ drop (k + 1) ws) ((machine_of now).links l) room_now

  pub sending_room : length (words_in ((machine_of now).links l)) < most_link_words
  sending_room = room_one w (drop (k + 1) ws) ((machine_of now).links l) room_now

  pub sending_more : (new : Plain) → Becomes now new (on_link (machine_of now) l (option_map (with_sent w))) → Tidy new → Sending old new l ws (k + 1)
  sending_more new b tidy = record {
    rest =
        ap (λ (m : Machine). on_link m l (option_map (with_words_in (drop (k + 1) ws)))) b.machine
        ∙ link_then (machine_of now) l (option_map (with_sent w)) (option_map (with_words_in (drop (k + 1) ws)))
        (option_map (with_words_in (w ∷ drop (k + 1) ws))) (sent_then w (drop (k + 1) ws))
        ∙ ap (λ xs. on_link (machine_of now) l (option_map (with_words_in xs))) (sym (next_is ws k w d in_range is)) ∙ h.rest;
    room =
        ap (λ (m : Machine). has_room (drop (k + 1) ws) (m.links l)) b.machine
        ∙ ap (has_room (drop (k + 1) ws)) (changed_here (machine_of now).links l (option_map (with_sent w) ((machine_of now).links l)))
        ∙ room_then w (drop (k + 1) ws) ((machine_of now).links l) room_now;
    place = b.place ∙ h.place;
    touched = b.touched ∙ h.touched;
    tidy = tidy;
  }

pub sending_ends : (old now : Plain) (l k i : ℕ) (ws : List ℕ) → Sending old now l ws k → i ≡ length ws → i ≤ k
    → Becomes old now (on_link (machine_of old) l (option_map (with_words_in ws)))
sending_ends old now l k i ws h is le = record {
  machine =
      sym (link_same (machine_of now) l (option_map (with_words_in [])) (sent_none ((machine_of now).links l)))
      ∙ ap (λ xs. on_link (machine_of now) l (option_map (with_words_in xs))) (sym (drop_of_length-le ws (omega arith))) ∙ h.rest;
  place = h.place;
  touched = h.touched;
}

-- a console, changed twice, or not at all
console_then : (m : Machine) (c : ℕ) (f g h : Console → Console) → ((x : Console) → g (f x) ≡ h x) → on_console (on_console m c f) c g ≡ on_console m c h
console_then m c f g h e = machine_is _ _ (λ k. refl)
    (λ k. changed_again m.consoles c _ _ k ∙ ap (λ x. changed m.consoles c (g x) k) (changed_here m.consoles c (f (m.consoles c)))
    ∙ ap (λ x. changed m.consoles c x k) (e (m.consoles c)))
    (λ k. refl) refl refl refl (λ k. refl) (λ k. refl)

console_same : (m : Machine) (c : ℕ) (f : Console → Console) → f (m.consoles c) ≡ m.consoles c → on_console m c f ≡ m
console_same m c f e = machine_is _ _ (λ k. refl) (λ k. changed_not m.consoles c k (f (m.consoles c)) e) (λ k. refl) refl refl refl (λ k. refl) (λ k. refl)

put_then : (b : ℕ) (bs : List ℕ) (x : Console) → with_bytes true bs (after_put b x) ≡ with_bytes true (b ∷ bs) x
put_then b bs x = ap (λ xs. record x { output = xs }) (append_assoc x.output (b ∷ []) bs)

put_none : (x : Console) → with_bytes true [] x ≡ x
put_none x = ap (λ xs. record x { output = xs }) (append-nil x.output)

-- the bytes in their order: those before place k are put out
pub record Putting (old now : Plain) (c : ℕ) (bs : List ℕ) (k : ℕ) : Type 0 where
  pub rest : on_console (machine_of now) c (with_bytes true (drop k bs)) ≡ on_console (machine_of old) c (with_bytes true bs)
  pub room : length (((machine_of now).consoles c).output ++ drop k bs) ≤ most_waiting
  pub place : now.place ≡ old.place
  pub touched : now.touched ≡ old.touched
  pub tidy : Tidy now

pub putting_starts : (p : Plain) (c : ℕ) (bs : List ℕ) → length (((machine_of p).consoles c).output ++ bs) ≤ most_waiting → Tidy p → Putting p p c bs 0
putting_starts p c bs room tidy = record { rest = refl; room = room; place = refl; touched = refl; tidy = tidy }

module _ (old now : Plain) (c k b d : ℕ) (bs : List ℕ) (h : Putting old now c bs k) (in_range : k < length bs) (is : b ≡ get_or bs k d) where
  put_next : length (((machine_of now).consoles c).output ++ b ∷ drop (k + 1) bs) ≤ most_waiting
  put_next = subst (λ (xs : List ℕ). length (((machine_of now).consoles c).output ++ xs) ≤ most_waiting) (next_is bs k b d in_range is) h.room

  pub putting_room : length ((machine_of now).consoles c).output < most_waiting
  putting_room =
      let few = put_next in
      let n = length-append ((machine_of now).consoles c).output (b ∷ drop (k + 1) bs) in
      omega arith

  pub putting_more : (new : Plain) → Becomes now new (on_console (machine_of now) c (after_put b)) → Tidy new → Putting old new c bs (k + 1)
  putting_more new a tidy = record {
    rest =
        ap (λ (m : Machine). on_console m c (with_bytes true (drop (k + 1) bs))) a.machine
        ∙ console_then (machine_of now) c (after_put b) (with_bytes true (drop (k + 1) bs)) (with_bytes true (b ∷ drop (k + 1) bs)) (put_then b (drop (k + 1) bs))
        ∙ ap (λ xs. on_console (machine_of now) c (with_bytes true xs)) (sym (next_is bs k b d in_range is)) ∙ h.rest;
    room = subst (λ (xs : List ℕ). length xs ≤ most_waiting)
        (sym (ap (λ (m : Machine). (m.consoles c).output ++ drop (k + 1) bs) a.machine
        ∙ ap (λ (x : Console). x.output ++ drop (k + 1) bs) (changed_here (machine_of now).consoles c (after_put b ((machine_of now).consoles c)))
        ∙ append_assoc ((machine_of now).consoles c).output (b ∷ []) (drop (k + 1) bs))) put_next;
    place = a.place ∙ h.place;
    touched = a.touched ∙ h.touched;
    tidy = tidy;
  }

pub putting_ends : (old now : Plain) (c k i : ℕ) (bs : List ℕ) → Putting old now c bs k → i ≡ length bs → i ≤ k
    → Becomes old now (on_console (machine_of old) c (with_bytes true bs))
putting_ends old now c k i bs h is le = record {
  machine =
      sym (console_same (machine_of now) c (with_bytes true []) (put_none ((machine_of now).consoles c)))
      ∙ ap (λ xs. on_console (machine_of now) c (with_bytes true xs)) (sym (drop_of_length-le bs (omega arith))) ∙ h.rest;
  place = h.place;
  touched = h.touched;
}

-- bytes that all find room are typed
pub typed_all : (old new : Plain) (c : ℕ) (bs : List ℕ) → length (((machine_of old).consoles c).input ++ bs) ≤ most_waiting
    → ConsoleBecomes old new c (record (console_at old.consoles.items c) { input = take most_waiting ((console_at old.consoles.items c).input ++ bs) })
    → Becomes old new (on_console (machine_of old) c (with_bytes false bs))
typed_all old new c bs few b = record {
  machine =
      console_machine old new c (λ x. record x { input = take most_waiting (x.input ++ bs) }) b
      ∙ ap (λ (xs : List ℕ). record (machine_of old) { consoles = changed (machine_of old).consoles c (record ((machine_of old).consoles c) { input = xs }) })
      (take_all most_waiting (((machine_of old).consoles c).input ++ bs) few);
  place = place_as b.rest;
  touched = touched_as b.rest;
}
