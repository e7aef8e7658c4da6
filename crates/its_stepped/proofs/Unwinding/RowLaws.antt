-- A row of unwinding, whole: the contents of the slot afterwards, that its plain job is the same,
-- that it is sound, and that user mode is one step nearer.
use Rattle.std.specs.Prelude.{◌==◌, ◌≡◌, ℕ, ◌+◌, true, Option, Some, None, IfSome, option_map, refl}
use Rattle.std.proofs.Common.{sym, ◌∙◌, ap, inl, inr}
use Rattle.std.proofs.lemmas.Bool.{cases_eq, eq-eqb}
use Rattle.its_word.specs.Only.{Only}
use Rattle.its_frame.specs.declared.frame.Frame.{Frame}
use Rattle.its_plain.specs.Machine.{Whole, Machine, changed}
use Rattle.its_plain.specs.Machine.Change.{on_slot, in_job}
use Rattle.its_plain.proofs.MachineLaws.{jobs_are}
use Rattle.its_stepped.specs.State.{Mark, State, after_help, mine, seen, with_slot, same, reserving}
use Rattle.its_stepped.specs.Unwind.{left_by}
use Rattle.its_stepped.specs.Sound.{MarkBy, SoundBy, parts_in_frame}
use Rattle.its_stepped.specs.OneChange.{OneChange, FrameAlone, OnePage}
use Rattle.its_stepped.proofs.Frame.FrameLaws.{changed_only, on_slot_here, on_slot_other, on_slot_same}

-- what all slots share is the same, except for a file part that was pending
pub record Shares (w v : State) : Type 0 where
  pub consoles : v.raw.consoles ≡ w.raw.consoles
  pub holders : v.raw.holders ≡ w.raw.holders
  pub clock : v.raw.clock ≡ w.raw.clock
  pub version : v.raw.version ≡ w.raw.version
  pub symbols : v.raw.symbols ≡ w.raw.symbols
  pub links : v.raw.links ≡ w.raw.links
  pub files : after_help v.mark v.raw.files ≡ after_help w.mark w.raw.files

pub record Rowed (w v : State) (j : ℕ) : Type 0 where
  pub job : Whole
  pub frame : Option Frame
  pub page : Option ℕ
  pub jobs : Only w.raw.jobs v.raw.jobs j (Some job)
  pub frames : Only w.frames v.frames j frame
  pub pages : Only w.reserved v.reserved j page
  pub shares : Shares w v
  pub seen_as : option_map (seen (w.frames j)) (w.raw.jobs j) ≡ Some (seen frame job)
  pub fits : SoundBy (Some job) frame page
  pub mark : IfSome v.mark (λ m. MarkBy m v.frames)
  pub fewer : left_by (mine v.mark j) frame + 1 ≡ left_by (mine w.mark j) (w.frames j)
  pub one : OneChange w v j

-- one job of many
pub job_only : (jobs : ℕ → Option Whole) (j : ℕ) (q : Whole) (h : Whole → Whole) → jobs j ≡ Some q → Only jobs (on_slot jobs j h) j (Some (h q))
job_only jobs j q h is = record { here = on_slot_here jobs j h ∙ ap (option_map h) is; others = λ k ne. on_slot_other jobs j k h ne }

pub same_job : (m : Machine) (j : ℕ) → in_job m j same ≡ m
same_job m j = jobs_are _ _ (on_slot_same m.jobs j) refl

-- two changes of a job that are alike at the job of this slot
pub alike_at : (h g : Whole → Whole) (o : Option Whole) → ((q : Whole) → o ≡ Some q → h q ≡ g q) → option_map h o ≡ option_map g o
alike_at h g None e = refl
alike_at h g (Some q) e = ap Some (e q refl)

pub job_alike : (m : Machine) (j : ℕ) (h g : Whole → Whole) → ((q : Whole) → m.jobs j ≡ Some q → h q ≡ g q) → in_job m j h ≡ in_job m j g
job_alike m j h g e = jobs_are _ _ (λ k. elim (cases_eq k j) [
  | inl is ↦ rw is (on_slot_here m.jobs j h ∙ alike_at h g (m.jobs j) e ∙ sym (on_slot_here m.jobs j g))
  | inr ne ↦ on_slot_other m.jobs j k h ne ∙ sym (on_slot_other m.jobs j k g ne)
]) refl

-- a mark stays true if the frame of its owner has the same pending parts
marked_frames : (m : Mark) (frames after : ℕ → Option Frame) (j : ℕ) (f : Option Frame) → Only frames after j f
    → ((m.owner == j) ≡ true → parts_in_frame f ≡ parts_in_frame (frames j)) → MarkBy m frames → MarkBy m after
marked_frames m frames after j f o e h = record {
  some = h.some;
  parts = elim (cases_eq m.owner j) [
    | inl is ↦ ap (λ k. parts_in_frame (after k)) is ∙ ap parts_in_frame o.here ∙ e (eq-eqb m.owner j is)
        ∙ ap (λ k. parts_in_frame (frames k)) (sym is) ∙ h.parts
    | inr ne ↦ ap parts_in_frame (o.others m.owner ne) ∙ h.parts
  ];
}

pub mark_kept : (o : Option Mark) (frames after : ℕ → Option Frame) (j : ℕ) (f : Option Frame) → Only frames after j f
    → (mine o j ≡ true → parts_in_frame f ≡ parts_in_frame (frames j)) → IfSome o (λ m. MarkBy m frames) → IfSome o (λ m. MarkBy m after)
mark_kept None frames after j f o e h = tt
mark_kept (Some m) frames after j f o e h = marked_frames m frames after j f o e h

-- a turn of the slot
pub slot_row : (w : State) (j : ℕ) (q : Whole) (h : Whole → Whole) (f : Option Frame) → w.raw.jobs j ≡ Some q → seen (w.frames j) q ≡ seen f (h q)
    → SoundBy (Some (h q)) f (w.reserved j) → IfSome w.mark (λ m. MarkBy m w.frames) → (mine w.mark j ≡ true → parts_in_frame f ≡ parts_in_frame (w.frames j))
    → left_by (mine w.mark j) f + 1 ≡ left_by (mine w.mark j) (w.frames j) → OneChange w (with_slot w j h f) j → Rowed w (with_slot w j h f) j
slot_row w j q h f is alike fits mark parts fewer one = record {
  job = h q;
  frame = f;
  page = w.reserved j;
  jobs = job_only w.raw.jobs j q h is;
  frames = changed_only w.frames j f;
  pages = record { here = refl; others = λ k ne. refl };
  shares = record { consoles = refl; holders = refl; clock = refl; version = refl; symbols = refl; links = refl; files = refl };
  seen_as = ap (option_map (seen (w.frames j))) is ∙ ap Some alike;
  fits = fits;
  mark = mark_kept w.mark w.frames (changed w.frames j f) j f (changed_only w.frames j f) parts mark;
  fewer = fewer;
  one = one;
}

frame_alone : (w : State) (j : ℕ) (f : Option Frame) → OneChange w (with_slot w j same f) j
frame_alone w j f = FrameAlone (λ t. record (with_slot w j same f) { raw = same_job w.raw j t })

-- a turn that changes the frame alone
pub frame_row : (w : State) (j : ℕ) (q : Whole) (f : Option Frame) → w.raw.jobs j ≡ Some q → seen (w.frames j) q ≡ seen f q
    → SoundBy (Some q) f (w.reserved j) → IfSome w.mark (λ m. MarkBy m w.frames) → (mine w.mark j ≡ true → parts_in_frame f ≡ parts_in_frame (w.frames j))
    → left_by (mine w.mark j) f + 1 ≡ left_by (mine w.mark j) (w.frames j) → Rowed w (with_slot w j same f) j
frame_row w j q f is alike fits mark parts fewer = slot_row w j q same f is alike fits mark parts fewer (frame_alone w j f)

-- a turn that gives the reserved page up
pub page_row : (w : State) (j : ℕ) (q : Whole) (f : Option Frame) → w.raw.jobs j ≡ Some q → seen (w.frames j) q ≡ seen f q
    → SoundBy (Some q) f None → IfSome w.mark (λ m. MarkBy m w.frames) → (mine w.mark j ≡ true → parts_in_frame f ≡ parts_in_frame (w.frames j))
    → left_by (mine w.mark j) f + 1 ≡ left_by (mine w.mark j) (w.frames j) → Rowed w (reserving (with_slot w j same f) j None) j
page_row w j q f is alike fits mark parts fewer = record {
  job = q;
  frame = f;
  page = None;
  jobs = job_only w.raw.jobs j q same is;
  frames = changed_only w.frames j f;
  pages = changed_only w.reserved j None;
  shares = record { consoles = refl; holders = refl; clock = refl; version = refl; symbols = refl; links = refl; files = refl };
  seen_as = ap (option_map (seen (w.frames j))) is ∙ ap Some alike;
  fits = fits;
  mark = mark_kept w.mark w.frames (changed w.frames j f) j f (changed_only w.frames j f) parts mark;
  fewer = fewer;
  one = OnePage (λ t. record (reserving (with_slot w j same f) j None) { raw = same_job w.raw j t });
}
