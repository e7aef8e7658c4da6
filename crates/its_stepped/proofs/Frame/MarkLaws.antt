-- The mark of a close that is half made, through a commit.
use Rattle.std.specs.Prelude.{if◌then◌else◌, ◌≡◌, ◌≢◌, ◌≤◌, ◌⊎◌, ℕ, ◌+◌, Bool, true, false, Option, Some, None, IfSome, List, [], ◌∷◌, map, length, refl}
use Rattle.std.proofs.Common.{sym, ◌∙◌, ap, inl, inr, arith}
use Rattle.std.proofs.lemmas.Bool.{cases_Bool, ne_eqb}
use Rattle.its_records.specs.declared.calls.Ask.{Ask}
use Rattle.its_records.specs.declared.calls.Exit.{Exit}
use Rattle.its_records.specs.declared.calls.Owed.{Owed}
use Rattle.its_records.specs.declared.calls.Site.{Site}
use Rattle.its_word.specs.declared.plan.Store.{Store}
use Rattle.its_frame.specs.declared.change.Change.{Change}
use Rattle.its_frame.specs.declared.change.Change.TheVariants as changes
use Rattle.its_frame.specs.declared.frame.Frame.{Frame}
use Rattle.its_plain.specs.Machine.{File, Chan, Shut, TtyIn, TtyOut, Reads, Writes, On, Linked, changed}
use Rattle.its_plain.specs.Machine.Change.{is_gone, superiors, channel_in}
use Rattle.its_plain.specs.Call.File.{has_file}
use Rattle.its_stepped.specs.State.{Part, Mark, State, parts_of, mark_of_close, ending}
use Rattle.its_stepped.specs.Commit.{effect_on, effects_on, owed_part, owed_parts, owed_by}
use Rattle.its_stepped.specs.Sound.{parts_in_frame, MarkBy}
use Rattle.its_stepped.specs.Quiet.{Quiet, AllQuiet}
use Rattle.its_stepped.specs.Duty.{parts_in}
use Rattle.its_stepped.proofs.Frame.FrameLaws.{changed_only}
use Rattle.its_stepped.proofs.Frame.OwedLaws.{parts_owned, owed_files}

-- while changes are made a mark is the caller's and has a pending part, or it is another's, whose
-- frame has its parts; and at most so many parts are pending for the caller
abbrev pub MarkedAt : ℕ → (ℕ → Option Frame) → Mark → Type 0
MarkedAt j frames m = ((m.owner ≡ j) × (m.parts ≢ [])) ⊎ ((m.owner ≢ j) × MarkBy m frames)

pub record Marking (j : ℕ) (mark : Option Mark) (frames : ℕ → Option Frame) (most : ℕ) : Type 0 where
  pub at : IfSome mark (MarkedAt j frames)
  pub few : length (owed_parts mark j) ≤ most

-- as a commit begins
not_owned : (m : Mark) (j : ℕ) → m.owner ≢ j → owed_parts (Some m) j ≡ []
not_owned m j ne = rw (ne_eqb m.owner j ne) refl

pub marking_begins : (j : ℕ) (mark : Option Mark) (frames : ℕ → Option Frame) → IfSome mark (λ m. MarkBy m frames)
    → parts_in_frame (frames j) ≡ [] → Marking j mark frames 0
marking_begins j None frames h e = record { at = tt; few = omega arith }
marking_begins j (Some m) frames h e =
    let other : m.owner ≢ j = λ t. h.some (sym h.parts ∙ ap (λ (k : ℕ). parts_in_frame (frames k)) t ∙ e) in
    let none : length (owed_parts (Some m) j) ≡ 0 = ap (λ (os : List Owed). length os) (not_owned m j other) in
    record { at = inr (other, h); few = omega arith }

-- through a change
parts_of_some : (b : Bool) → parts_of b ≢ []
parts_of_some true e = cc
parts_of_some false e = cc

parts_of_few : (b : Bool) → length (map owed_part (parts_of b)) ≤ 3
parts_of_few true = omega arith
parts_of_few false = omega arith

closing_few : (j : ℕ) (m : Mark) (b : Bool) → m.owner ≡ j → m.parts ≡ parts_of b → length (owed_parts (Some m) j) ≤ 3
closing_few j m b e p =
    let f = parts_of_few b in
    let same : length (owed_parts (Some m) j) ≡ length (map owed_part (parts_of b)) = ap (λ (os : List Owed). length os) (parts_owned m j e)
    ∙ ap (λ (ps : List Part). length (map owed_part ps)) p in
    omega arith

closing : (j : ℕ) (frames : ℕ → Option Frame) (c : Chan) (fs : List File) (most : ℕ) → Marking j (mark_of_close j c fs) frames (3 + most)
closing j frames Shut fs most = record { at = tt; few = omega arith }
closing j frames TtyIn fs most = record { at = tt; few = omega arith }
closing j frames TtyOut fs most = record { at = tt; few = omega arith }
closing j frames (Reads f at) fs most = record { at = tt; few = omega arith }
closing j frames (On s w at) fs most = record { at = tt; few = omega arith }
closing j frames (Linked l write) fs most = record { at = tt; few = omega arith }
closing j frames (Writes f) fs most = record {
  at = inl (refl, parts_of_some (has_file f.names fs));
  few = let k = closing_few j (record { owner = j; draft = f; parts = parts_of (has_file f.names fs) }) (has_file f.names fs) refl refl in omega arith;
}

-- if frames of gone jobs are dropped, no owner of a mark is among them
removing_at : (j : ℕ) (frames : ℕ → Option Frame) (gone : ℕ → Bool) (m : Mark) → ((k : ℕ) → gone k ≡ true → k ≢ j → frames k ≡ None) → MarkedAt j frames m
    → MarkedAt j (λ k. if gone k then None else frames k) m
removing_at j frames gone m h (inl x) = inl x
removing_at j frames gone m h (inr x) = elim (cases_Bool (gone m.owner)) [
  | inl t ↦ absurd (x.1.some (sym x.1.parts ∙ ap parts_in_frame (h m.owner t x.0)))
  | inr t ↦ inr (x.0, record { some = x.1.some; parts = ap parts_in_frame (ap (λ (b : Bool). if b then None else frames m.owner) t) ∙ x.1.parts })
]

removing : (j : ℕ) (mark : Option Mark) (frames : ℕ → Option Frame) (gone : ℕ → Bool) (most : ℕ) → ((k : ℕ) → gone k ≡ true → k ≢ j → frames k ≡ None)
    → Marking j mark frames most → Marking j mark (λ k. if gone k then None else frames k) (0 + most)
removing j None frames gone most h m = record { at = tt; few = let k = m.few in omega arith }
removing j (Some k) frames gone most h m = record { at = removing_at j frames gone k h m.at; few = let f = m.few in omega arith }

marking_one : (c : Change) (j : ℕ) (w : State) (most : ℕ) → Quiet c j w → Marking j w.mark w.frames most
    → Marking j (effect_on c j w).mark (effect_on c j w).frames (parts_in (c ∷ []) + most)
unfolding effect_on
marking_one (changes.Close n) j w most q m = closing j w.frames (channel_in (w.raw.jobs j) n) w.raw.files most
marking_one (changes.Remove s) j w most q m = removing j w.mark w.frames (is_gone (superiors w.raw) s) most q m
marking_one _ j w most q m = record { at = m.at; few = let k = m.few in omega arith }

parts_first : (c : Change) (cs : List Change) → parts_in (c ∷ cs) ≡ parts_in (c ∷ []) + parts_in cs
parts_first (changes.Close n) cs = omega arith
parts_first _ cs = omega arith

pub marking_within : (j : ℕ) (mark : Option Mark) (frames : ℕ → Option Frame) (a b : ℕ) → a ≡ b → Marking j mark frames a → Marking j mark frames b
marking_within j mark frames a b e m = record { at = m.at; few = let k = m.few in omega arith }

pub marking_all : (cs : List Change) (j : ℕ) (w : State) (most : ℕ) → AllQuiet cs j w → Marking j w.mark w.frames most
    → Marking j (effects_on cs j w).mark (effects_on cs j w).frames (parts_in cs + most)
marking_all [] j w most q m = record { at = m.at; few = let k = m.few in omega arith }
marking_all (c ∷ cs) j w most q m =
    let first : parts_in (c ∷ cs) ≡ parts_in (c ∷ []) + parts_in cs = parts_first c cs in
    marking_within j _ _ (parts_in cs + (parts_in (c ∷ []) + most)) (parts_in (c ∷ cs) + most) (omega arith)
    (marking_all cs j (effect_on c j w) (parts_in (c ∷ []) + most) q.1 (marking_one c j w most q.0 m))

-- as a commit ends: the parts of its own close are pending in the frame that the caller then has
other_marked : (j : ℕ) (frames : ℕ → Option Frame) (f : Option Frame) (m : Mark) → m.owner ≢ j → MarkBy m frames → MarkBy m (changed frames j f)
other_marked j frames f m ne h = record { some = h.some; parts = ap parts_in_frame ((changed_only frames j f).others m.owner ne) ∙ h.parts }

own_marked : (j : ℕ) (frames : ℕ → Option Frame) (f : Option Frame) (m : Mark) → m.owner ≡ j → m.parts ≢ [] → parts_in_frame f ≡ m.parts
    → MarkBy m (changed frames j f)
own_marked j frames f m e some parts = record {
  some = some;
  parts = ap (λ (k : ℕ). parts_in_frame (changed frames j f k)) e ∙ ap parts_in_frame (changed_only frames j f).here ∙ parts;
}

pub mark_ended : (v : State) (j : ℕ) (most : ℕ) (s : Site) (a : Ask) (ss : List Store) (e : Exit) (o : Option Mark) → v.mark ≡ o → Marking j o v.frames most
    → IfSome o (λ m. MarkBy m (changed v.frames j (Some (ending s a (owed_by v j ss e)))))
mark_ended v j most s a ss e None is m = tt
mark_ended v j most s a ss e (Some k) is m = elim m.at [
  | inl x ↦ own_marked j v.frames _ k x.0 x.1 (owed_files v j k ss e is x.0)
  | inr x ↦ other_marked j v.frames _ k x.0 x.1
]

-- one with no pending part leaves the marks of others
part_some : (m : Mark) (j : ℕ) (ps : List Part) → m.owner ≡ j → m.parts ≡ ps → length (owed_parts (Some m) j) ≤ 0 → ps ≡ []
part_some m j [] e p h = refl
part_some m j (x ∷ ps) e p h =
    let same : length (owed_parts (Some m) j) ≡ length (map owed_part (x ∷ ps)) = ap (λ (os : List Owed). length os) (parts_owned m j e)
    ∙ ap (λ (ts : List Part). length (map owed_part ts)) p in
    absurd (omega arith)

marked_other : (m : Mark) (j : ℕ) (frames : ℕ → Option Frame) → Marking j (Some m) frames 0 → (m.owner ≢ j) × MarkBy m frames
marked_other m j frames h = elim h.at [
  | inl x ↦ absurd (x.1 (part_some m j m.parts x.0 refl h.few))
  | inr x ↦ x
]

pub mark_gone_on : (j : ℕ) (frames : ℕ → Option Frame) (f : Option Frame) (o : Option Mark) → Marking j o frames 0
    → IfSome o (λ m. MarkBy m (changed frames j f))
mark_gone_on j frames f None h = tt
mark_gone_on j frames f (Some m) h = let x = marked_other m j frames h in other_marked j frames f m x.0 x.1

pub mark_left : (j : ℕ) (frames : ℕ → Option Frame) (o : Option Mark) → Marking j o frames 0 → IfSome o (λ m. MarkBy m frames)
mark_left j frames None h = tt
mark_left j frames (Some m) h = (marked_other m j frames h).1
