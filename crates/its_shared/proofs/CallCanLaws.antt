-- What a call decides can be made, in a forest of jobs whose consoles are among the eight.
use Rattle.std.specs.Prelude.{◌==◌, ◌≡◌, ◌<◌, ℕ, Bool, true, false, Some, Option, None, IfSome, is_some, refl}
use Rattle.std.proofs.Common.{sym, ◌∙◌, ap, subst}
use Rattle.std.proofs.lemmas.Bool.{eqb-true}
use Rattle.std.proofs.lemmas.Option.{IfSome_then}
use Rattle.its_word.specs.Limits.{slots}
use Rattle.its_records.specs.Links.{most_links}
use Rattle.its_records.specs.declared.link.End.TheVariants.{Opened}
use Rattle.its_records.specs.declared.calls.Ask.{Ask}
use Rattle.its_frame.specs.declared.change.Change.TheVariants as changes
use Rattle.its_frame.specs.declared.name.CallName.{CallName}
use Rattle.its_frame.specs.declared.name.CallName.TheVariants.{Uclose, Corblk}
use Rattle.its_plain.specs.Call.Arguments.{input}
use Rattle.its_plain.specs.Call.Basic.{channel_at}
use Rattle.its_plain.specs.Call.Step.{decision}
use Rattle.its_plain.specs.Machine.Change.{superiors, superior_in}
use Rattle.its_plain.specs.Call.Decide.{call_named, decided, target, reaching}
use Rattle.its_plain.specs.Machine.{On, Linked, Pipe, Whole, Machine, core_of}
use Rattle.its_plain.specs.Machine.View.{View, view, job_at}
use Rattle.its_stepped.specs.Forest.{end_at, Forest}
use Rattle.its_stepped.specs.Tick.{helps_by, helps, reserves}
use Rattle.its_stepped.proofs.Duties.CoreDuty.{makes_reserves}
use Rattle.its_stepped.proofs.Keeping.JoinedLaws.{linked_at}
use Rattle.its_stepped.proofs.Keeping.ForestLaws.{job_few, forest_below, on_inferior, inferior_stands}
use Rattle.its_plain.proofs.TargetLaws.{target_on}
use Rattle.its_shared.specs.Can.{HasJob, chan_in, CanMake}
use Rattle.its_shared.proofs.CanLaws.{Beside, DecisionCan, Can, Sees}
use Rattle.its_shared.proofs.UsrCanLaws.{Aim, Finds}
use Rattle.its_shared.proofs.CoreCanLaws.{FindsPages}
use Rattle.its_shared.proofs.DecidedCanLaws.{call_can}

-- every call
decided_can : (v : Beside) (j : ℕ) (m : Machine) (x : View) (a : Ask) (z : Bool) → (a.fail == 0) ≡ z → Sees x m j → (helps x.own a ≡ true → v.files)
    → (a.fail ≡ 0 → Finds v x m j a (call_named a.name)) → (a.fail ≡ 0 → call_named a.name ≡ Some Corblk → FindsPages v x m j a) → Can v j m (decided x a)
unfolding decided helps
decided_can v j m x a true z s u f g =
    let none : a.fail ≡ 0 = eqb-true a.fail 0 z in
    let e : helps x.own a ≡ helps_by x.own a (call_named a.name) = rw z refl in
    rw z (call_can v j m x a (call_named a.name) s (λ h. u (e ∙ h)) (f none) (g none))
decided_can v j m x a false z s u f g = rw z tt

-- what its changes ask beside the machine is there: for a call on files; for one that makes a page;
-- and for the job that UCLOSE removes
pub record Grants (v : Beside) (q : Whole) (a : Ask) : Type 0 where
  pub files : helps q a ≡ true → v.files
  pub page : reserves a ≡ true → v.page
  pub tree : a.fail ≡ 0 → call_named a.name ≡ Some Uclose → (s at : ℕ) (write : Bool) → channel_at q.channels (input a 0) ≡ On s write at → v.tree s

-- a link with an open end exists
end_stands : (o : Option Pipe) (write : Bool) (k n : ℕ) → end_at write o ≡ Opened k n → is_some o ≡ true
end_stands (Some p) write k n h = refl
end_stands None true k n h = cc
end_stands None false k n h = cc

module _ (v : Beside) (m : Machine) (j : ℕ) (q : Whole) (a : Ask) (forest : Forest m) (here : m.jobs j ≡ Some q) (grants : Grants v q a) where
  -- an inferior that it reaches is there
  inferior_there : (n s at : ℕ) (write : Bool) → channel_at q.channels n ≡ On s write at → (superiors m s ≡ Some j) × HasJob m s × (s < slots)
  inferior_there n s at write is =
      let above = on_inferior m j q n s at write forest here is in
      let there = inferior_stands m s j above in
      (above, there, job_few m forest s there)

  aimed : (i s : ℕ) (n : CallName) (at : ℕ) (write : Bool) → a.fail ≡ 0 → call_named a.name ≡ Some n → reaching n ≡ Some i
      → channel_at q.channels (input a i) ≡ On s write at
      → Aim (view m j q (target q a)) m s
  unfolding view
  aimed i s n at write z e names is =
      let h = inferior_there (input a i) s at write is in
      record { slot = h.2; job = h.1; other = ap (job_at m) (target_on q a n i s at write z e names is) }

  -- UCLOSE removes an inferior, which is neither the caller nor above it
  tree_can : (s at : ℕ) (write : Bool) → channel_at q.channels (input a 0) ≡ On s write at → CanMake (changes.Remove s) j m
  tree_can s at write is = let h = inferior_there (input a 0) s at write is in (h.2, h.1, forest_below m s j forest h.0)

  finds : a.fail ≡ 0 → Finds v (view m j q (target q a)) m j a (call_named a.name)
  unfolding view aimed
  finds z = record {
    inferior = λ n e first s at write is. aimed 0 s n at write z e first is;
    tree = λ e s at write is. (tree_can s at write is, grants.tree z e s at write is);
  }

  finds_pages : a.fail ≡ 0 → call_named a.name ≡ Some Corblk → FindsPages v (view m j q (target q a)) m j a
  unfolding view aimed
  finds_pages z e =
      let there : HasJob m j = ap is_some here in
      record {
        own = record { slot = job_few m forest j there; job = there; core = ap core_of here };
        inferior = λ s at write is.
            let aim = aimed 1 s Corblk at write z e refl is in
            record { slot = aim.slot; job = aim.job; core = ap core_of (sym aim.other) };
        pages = refl;
        clear = λ one. grants.page (makes_reserves a e z one);
      }

  superior_few : IfSome q.superior (λ s. s < slots)
  superior_few = IfSome_then q.superior (subst (λ (o : Option Whole). IfSome (superior_in o) (λ s. is_some (m.jobs s) ≡ true)) here
      (forest.standing j)) (λ s h. job_few m forest s h)

  link_stands : (n l : ℕ) (write : Bool) → chan_in m j n ≡ Linked l write → (l < most_links) × (is_some (m.links l) ≡ true)
  link_stands n l write is = let on = linked_at m j n l write forest.links is in (on.0, end_stands (m.links l) write j n on.1)

  pub decision_can : IfSome q.job.console (λ c. c < 8) → DecisionCan v (decision m j q a) j m
  unfolding decision view finds finds_pages
  decision_can housed =
      decided_can v j m (view m j q (target q a)) a (a.fail == 0) refl
      (record {
        consoles = refl;
        own = housed;
        job = here;
        files = refl;
        outlines = refl;
        limit = refl;
        superior = superior_few;
        links = refl;
        linked = link_stands;
      }) grants.files finds finds_pages
