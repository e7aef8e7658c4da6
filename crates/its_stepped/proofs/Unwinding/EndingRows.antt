-- The row of a call that has ended: its next pending step.
use Rattle.std.specs.Prelude.{◌==◌, ◌≡◌, ◌≤◌, ℕ, suc, ◌+◌, Bool, true, false, cond, Option, Some, None, IfSome, List, [], ◌∷◌, count_by, length, refl}
use Rattle.std.proofs.Common.{sym, ◌∙◌, ap, subst, arith}
use Rattle.std.proofs.lemmas.Bool.{eqb-true}
use Rattle.std.proofs.lemmas.List.Sums.{sum_by-cons}
use Rattle.its_word.specs.Core.{Core, store}
use Rattle.its_records.specs.declared.calls.Ask.{Ask}
use Rattle.its_records.specs.declared.calls.Owed.{Owed}
use Rattle.its_records.specs.declared.calls.Owed.TheVariants.{Store, GiveBack, Unlink, Link, Free, Leave}
use Rattle.its_records.specs.declared.calls.Site.{Site}
use Rattle.its_word.proofs.CoreLaws.{can_store-store}
use Rattle.its_frame.specs.Left.{is_made_by, kept}
use Rattle.its_frame.specs.declared.frame.Frame.{Frame}
use Rattle.its_plain.specs.Unit.Interrupt.{deliverable}
use Rattle.its_plain.specs.Machine.{File, Whole, changed}
use Rattle.its_plain.specs.Machine.Own.{with_stores, after_leave}
use Rattle.its_plain.specs.Machine.Change.{poke}
use Rattle.its_word.specs.Stores.{place}
use Rattle.its_stepped.specs.State.{Part, UnlinkOld, LinkNew, FreeOld, Mark, State, after_part, after_help, mine, after_owed, seen, with_slot, same, ending}
use Rattle.its_stepped.specs.Unwind.{rest_marked, with_part, due, after_settling}
use Rattle.its_stepped.specs.Sound.{Owes, backs, SoundFrame, MarkBy, file_parts, FilesFirst, parts_in_frame}
use Rattle.its_stepped.specs.OneChange.{OneWord, OnePart, Registers}
use Rattle.its_stepped.proofs.Frame.FrameLaws.{stored_one, changed_only}
use Rattle.its_stepped.proofs.Frame.OwedLaws.{none_first}
use Rattle.its_stepped.proofs.Unwinding.RowLaws.{Rowed, job_only, same_job, slot_row, page_row}
use Rattle.its_stepped.proofs.Unwinding.UnwindRows.{At}

left_more : (b : Bool) (o : Owed) (os : List Owed) → count_by (is_made_by b) (o ∷ os) ≡ cond (is_made_by b o) 1 0 + count_by (is_made_by b) os
left_more b o os = sum_by-cons (λ x. cond (is_made_by b x) 1 0) o os

-- a store leaves what can be stored as it was
pub owes_behind : (c : Core) (b w : ℕ) (os : List Owed) → Owes c os → Owes (store c b w) os
owes_behind c b w [] h = h
owes_behind c b w (Leave e ∷ []) h = tt
owes_behind c b w (Leave e ∷ o ∷ os) h = h
owes_behind c b w (Store p v ∷ os) h = (can_store-store c b (place (poke p v)) w ∙ h.0, owes_behind c b w os h.1)
owes_behind c b w (GiveBack ∷ os) h = owes_behind c b w os h
owes_behind c b w (Unlink ∷ os) h = owes_behind c b w os h
owes_behind c b w (Link ∷ os) h = owes_behind c b w os h
owes_behind c b w (Free ∷ os) h = owes_behind c b w os h

-- the steps that are due, of those that are pending
abbrev pub HeadDue : Bool → List Owed → Type 0
HeadDue b [] = Unit {0}
HeadDue b (o ∷ os) = is_made_by b o ≡ true

pub record Due (c : Core) (b : Bool) (os xs : List Owed) : Type 0 where
  pub head : HeadDue b xs
  pub owes : Owes c xs
  pub few : length xs ≤ length os
  pub backs : backs xs ≡ backs os
  pub made : (q : Whole) → after_owed xs q ≡ after_owed os q
  pub count : count_by (is_made_by b) xs ≡ count_by (is_made_by b) os
  pub parts : b ≡ true → file_parts xs ≡ file_parts os
  pub first : FilesFirst xs

all_due : (c : Core) (b : Bool) (os : List Owed) → HeadDue b os → Owes c os → FilesFirst os → Due c b os os
all_due c b os head h first = record {
  head = head;
  owes = h;
  few = omega arith;
  backs = refl;
  made = λ q. refl;
  count = refl;
  parts = λ e. refl;
  first = first;
}

head_true : (o : Owed) → is_made_by true o ≡ true
head_true (Store a w) = refl
head_true GiveBack = refl
head_true Unlink = refl
head_true Link = refl
head_true Free = refl
head_true (Leave e) = refl

-- a file step that another call has made is passed over
passed : (c : Core) (o : Owed) (os xs : List Owed) → is_made_by false o ≡ false → backs (o ∷ os) ≡ backs os
    → ((q : Whole) → after_owed (o ∷ os) q ≡ after_owed os q)
    → Due c false os xs → Due c false (o ∷ os) xs
passed c o os xs skip same made d = record {
  head = d.head;
  owes = d.owes;
  few = let few = d.few in omega arith;
  backs = d.backs ∙ sym same;
  made = λ q. d.made q ∙ sym (made q);
  count = d.count ∙ sym (left_more false o os ∙ ap (λ t. cond t 1 0 + count_by (is_made_by false) os) skip ∙ omega arith);
  parts = λ e. cc;
  first = d.first;
}

pub due_is : (c : Core) (b : Bool) (os : List Owed) → Owes c os → FilesFirst os → Due c b os (due b os)
due_is c b [] h f = absurd h
due_is c true (o ∷ os) h f = all_due c true (o ∷ os) (head_true o) h f
due_is c false (Store a w ∷ os) h f = all_due c false (Store a w ∷ os) refl h f
due_is c false (GiveBack ∷ os) h f = all_due c false (GiveBack ∷ os) refl h f
due_is c false (Leave e ∷ os) h f = all_due c false (Leave e ∷ os) refl h f
due_is c false (Unlink ∷ os) h f = passed c Unlink os (due false os) refl refl (λ q. refl) (due_is c false os h f)
due_is c false (Link ∷ os) h f = passed c Link os (due false os) refl refl (λ q. refl) (due_is c false os h f)
due_is c false (Free ∷ os) h f = passed c Free os (due false os) refl refl (λ q. refl) (due_is c false os h f)

-- an ended call with the steps that are left
ending_sound : (p q : Whole) (s : Site) (a : Ask) (os xs : List Owed) (r t : Option ℕ) → SoundFrame q (ending s a os) r → p.job ≡ q.job
    → Owes p.core xs → length xs ≤ length os
    → backs xs ≡ kept t → FilesFirst xs → SoundFrame p (ending s a xs) t
ending_sound p q s a os xs r t h job owes few page first = record {
  runs = ap (λ k. k.stopped) job ∙ h.runs;
  quiet = ap deliverable job ∙ h.quiet;
  standing = tt;
  pays = record { owes = owes; few = let most = h.pays.few in omega arith; page_is = page; files_first = first };
  stuck = tt;
}

kept_none : (r : Option ℕ) → 0 ≡ kept r → r ≡ None
kept_none None e = refl
kept_none (Some n) e = absurd (omega arith)

kept_few : (r : Option ℕ) (n : ℕ) → 1 + n ≡ kept r → n ≡ 0
kept_few None n e = omega arith
kept_few (Some k) n e = omega arith

-- a part of the marked close
helped_rest : (owner : ℕ) (draft : File) (p : Part) (ps : List Part) (fs : List File)
    → after_help (rest_marked (record { owner = owner; draft = draft; parts = p ∷ ps }) ps) (after_part draft p fs) ≡ after_help
    (Some (record { owner = owner; draft = draft; parts = p ∷ ps })) fs
unfolding after_help
helped_rest owner draft p [] fs = refl
helped_rest owner draft p (x ∷ xs) fs = refl

no_files : (b : Bool) (os : List Owed) → file_parts os ≡ [] → count_by (is_made_by b) os ≡ count_by (is_made_by true) os
no_files b [] e = refl
no_files b (Store a w ∷ os) e = left_more b (Store a w) os ∙ ap (λ n. 1 + n) (no_files b os e) ∙ sym (left_more true (Store a w) os)
no_files b (GiveBack ∷ os) e = left_more b GiveBack os ∙ ap (λ n. 1 + n) (no_files b os e) ∙ sym (left_more true GiveBack os)
no_files b (Leave x ∷ os) e = left_more b (Leave x) os ∙ ap (λ n. 1 + n) (no_files b os e) ∙ sym (left_more true (Leave x) os)
no_files b _ e = cc

mark_rest : (owner : ℕ) (draft : File) (p : Part) (ps : List Part) (frames : ℕ → Option Frame) → parts_in_frame (frames owner) ≡ ps
    → IfSome (rest_marked (record { owner = owner; draft = draft; parts = p ∷ ps }) ps) (λ m. MarkBy m frames)
mark_rest owner draft p [] frames e = tt
mark_rest owner draft p (x ∷ xs) frames e = record { some = λ n. cc; parts = e }

left_rest : (owner j : ℕ) (draft : File) (p : Part) (ps : List Part) (os : List Owed) → (owner == j) ≡ true → file_parts os ≡ ps
    → count_by (is_made_by (mine (rest_marked (record { owner = owner; draft = draft; parts = p ∷ ps }) ps) j)) os ≡ count_by (is_made_by true) os
left_rest owner j draft p [] os own e = no_files false os e
left_rest owner j draft p (x ∷ xs) os own e = ap (λ b. count_by (is_made_by b) os) own

part_row : (w : State) (j : ℕ) (q : Whole) (s : Site) (a : Ask) (os ys : List Owed) (owner : ℕ) (draft : File) (p : Part) (ps : List Part)
    → w.mark ≡ Some (record { owner = owner; draft = draft; parts = p ∷ ps }) → (owner == j) ≡ true → file_parts ys ≡ ps → At w j q (ending s a os)
    → after_owed os q ≡ after_owed ys q → SoundFrame q (ending s a ys) (w.reserved j) → 1 + count_by (is_made_by true) ys ≡ count_by (is_made_by true) os
    → Rowed w (with_part w.mark (with_slot w j same (Some (ending s a ys)))) j
unfolding seen
part_row w j q s a os ys owner draft p ps mark own files at made fits count =
    let m : Mark = record { owner = owner; draft = draft; parts = p ∷ ps } in
    let f = Some (ending s a ys) in
    let o = changed_only w.frames j f in
    let r : Rowed w (with_part (Some m) (with_slot w j same f)) j = record {
      job = q;
      frame = f;
      page = w.reserved j;
      jobs = job_only w.raw.jobs j q same at.job;
      frames = o;
      pages = record { here = refl; others = λ k ne. refl };
      shares = record {
        consoles = refl;
        holders = refl;
        clock = refl;
        version = refl;
        symbols = refl;
        links = refl;
        files = rw mark (helped_rest owner draft p ps w.raw.files);
      };
      seen_as = rw (at.job, at.frame) (ap Some made);
      fits = fits;
      mark = mark_rest owner draft p ps (changed w.frames j f)
          (ap (λ k. parts_in_frame (changed w.frames j f k)) (eqb-true owner j own) ∙ ap parts_in_frame o.here ∙ files);
      fewer = rw (mark, own, at.frame) (let l = left_rest owner j draft p ps ys own files in omega arith);
      one = OnePart m p ps mark refl (λ t. record (with_part (Some m) (with_slot w j same f))
          { raw = record (same_job w.raw j t) { files = after_part draft p w.raw.files } });
    } in
    subst (λ o. Rowed w (with_part o (with_slot w j same f)) j) (sym mark) r

marked_row : (w : State) (j : ℕ) (q : Whole) (s : Site) (a : Ask) (os ys : List Owed) (p : Part) (o : Option Mark)
    → w.mark ≡ o → mine o j ≡ true → IfSome o (λ m. MarkBy m w.frames) → p ∷ file_parts ys ≡ file_parts os → At w j q (ending s a os)
    → after_owed os q ≡ after_owed ys q → SoundFrame q (ending s a ys) (w.reserved j) → 1 + count_by (is_made_by true) ys ≡ count_by (is_made_by true) os
    → Rowed w (with_part w.mark (with_slot w j same (Some (ending s a ys)))) j
marked_row w j q s a os ys p None mark own h files at made fits count = cc
marked_row w j q s a os ys p (Some m) mark own h files at made fits count =
    let parts : m.parts ≡ p ∷ file_parts ys =
    sym h.parts ∙ ap (λ k. parts_in_frame (w.frames k)) (eqb-true m.owner j own) ∙ ap parts_in_frame at.frame ∙ sym files in
    part_row w j q s a os ys m.owner m.draft p (file_parts ys) (mark ∙ (λ t. Some (record m { parts = parts t }))) own refl at made fits count

file_row : (w : State) (j : ℕ) (q : Whole) (s : Site) (a : Ask) (os ys : List Owed) (o : Owed) (p : Part) → mine w.mark j ≡ true → At w j q (ending s a os)
    → p ∷ file_parts ys ≡ file_parts os → Owes q.core ys → suc (length ys) ≤ length os → backs ys ≡ backs os → after_owed ys q ≡ after_owed os q
    → count_by (is_made_by (mine w.mark j)) (o ∷ ys) ≡ count_by (is_made_by (mine w.mark j)) os → FilesFirst ys
    → Rowed w (with_part w.mark (with_slot w j same (Some (ending s a ys)))) j
file_row w j q s a os ys o p own at files owes few back made count first =
    let same_count : count_by (is_made_by true) (o ∷ ys) ≡ count_by (is_made_by true) os =
    subst (λ b. count_by (is_made_by b) (o ∷ ys) ≡ count_by (is_made_by b) os) own count in
    marked_row w j q s a os ys p w.mark refl own at.mark files at (sym made)
    (ending_sound q q s a os ys (w.reserved j) (w.reserved j) at.sound refl owes (omega arith) (back ∙ at.sound.pays.page_is) first)
    (sym (left_more true o ys ∙ ap (λ b. cond b 1 0 + count_by (is_made_by true) ys) (head_true o)) ∙ same_count)

settled_row : (w : State) (j : ℕ) (q : Whole) (s : Site) (a : Ask) (os xs : List Owed) → At w j q (ending s a os)
    → Due q.core (mine w.mark j) os xs → Rowed w (after_settling w j s a xs) j
unfolding seen
settled_row w j q s a os [] at d = absurd d.owes
settled_row w j q s a os (Store p v ∷ ys) at d =
    slot_row w j q (with_stores (poke p v ∷ [])) (Some (ending s a ys)) at.job (rw at.frame (sym (d.made q)))
    (ending_sound (with_stores (poke p v ∷ []) q) q s a os ys (w.reserved j) (w.reserved j) at.sound refl
    (rw (stored_one q.core (poke p v)) (owes_behind q.core (place (poke p v)) v ys d.owes.1)) (let few = d.few in omega arith)
    (d.backs ∙ at.sound.pays.page_is)
    (none_first ys d.first))
    at.mark (λ own. rw at.frame (d.parts own)) (rw at.frame (let l = left_more (mine w.mark j) (Store p v) ys in let c = d.count in omega
    arith)) (OneWord (poke p v) refl)
settled_row w j q s a os (GiveBack ∷ ys) at d =
    page_row w j q (Some (ending s a ys)) at.job (rw at.frame (sym (d.made q)))
    (ending_sound q q s a os ys (w.reserved j) None at.sound refl d.owes (let few = d.few in omega arith)
    (kept_few (w.reserved j) (backs ys) (d.backs ∙ at.sound.pays.page_is))
    (none_first ys d.first))
    at.mark (λ own. rw at.frame (d.parts own)) (rw at.frame (let l = left_more (mine w.mark j) GiveBack ys in let c = d.count in omega arith))
settled_row w j q s a os (Leave e ∷ []) at d =
    slot_row w j q (after_leave e) None at.job (rw at.frame (sym (d.made q))) (kept_none (w.reserved j) (d.backs ∙ at.sound.pays.page_is)) at.mark
    (λ own. rw at.frame (d.parts own)) (rw at.frame (let l = left_more (mine w.mark j) (Leave e) [] in let c = d.count in omega arith)) (Registers e refl)
settled_row w j q s a os (Leave e ∷ o ∷ ys) at d = absurd d.owes
settled_row w j q s a os (Unlink ∷ ys) at d = file_row w j q s a os ys Unlink UnlinkOld d.head at (d.parts d.head) d.owes d.few d.backs
    (d.made q) d.count d.first
settled_row w j q s a os (Link ∷ ys) at d = file_row w j q s a os ys Link LinkNew d.head at (d.parts d.head) d.owes d.few d.backs (d.made q) d.count d.first
settled_row w j q s a os (Free ∷ ys) at d = file_row w j q s a os ys Free FreeOld d.head at (d.parts d.head) d.owes d.few d.backs (d.made q) d.count d.first

pub ending_row : (w : State) (j : ℕ) (q : Whole) (s : Site) (a : Ask) (os : List Owed) → At w j q (ending s a os)
    → Rowed w (after_settling w j s a (due (mine w.mark j) os)) j
ending_row w j q s a os at = settled_row w j q s a os (due (mine w.mark j) os) at
    (due_is q.core (mine w.mark j) os at.sound.pays.owes at.sound.pays.files_first)
