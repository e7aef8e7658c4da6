-- The pending parts of a half made close are performed in the store of a world, if a call on files
-- is tried.
use Rattle.std.specs.Prelude.{◌≡◌, Bool, true, false, Option, Some, None, refl}
use Rattle.std.proofs.Common.{sym, ◌∙◌, ap}
use Rattle.its_files.specs.Files.{IsStore, after_help, directory}
use Rattle.its_stepped.specs.State.{State, Mark, after_help as left_by}
use Rattle.its_stepped.specs.Tick.{after_help_if}
use Rattle.its_stepped.specs.Unwind.{help}
use Rattle.its_world.specs.Storage.{OnlyStore}
use Rattle.its_world.specs.Tidy.{Tidy}
use Rattle.its_world.specs.World.{mark_of, state_of}
use Rattle.its_world.specs.declared.world.World.{World}
use Rattle.its_shared.proofs.KeptLaws.{Stays, helped_stays}
use Rattle.its_world.proofs.MarkLaws.{help_step, none_marked}
use Rattle.its_world.proofs.StorageLaws.{files_are, marks_are, store_state, store_tidy}

module _ (old new : World) (whole : IsStore old.files) (tidy : Tidy old) (files : new.files ≡ after_help old.files) (o : OnlyStore old new new.files) where
  stays : Stays old.files new.files old.jobs
  stays = helped_stays old.files new.files old.jobs whole tidy.across files

  pub help_tidy : Tidy new
  help_tidy = store_tidy old new new.files o stays tidy

  pub help_state : state_of new ≡ help (state_of old)
  help_state =
      store_state old new new.files o stays
      ∙ ap (λ t. record (state_of old) { raw = record (state_of old).raw { files = directory t }; mark = mark_of t }) files
      ∙ sym (help_step old.files whole (state_of old) (marks_are old) (files_are old))

-- with no close half made nothing is performed
nothing_left : (v : State) (m : Option Mark) → m ≡ None → left_by m v.raw.files ≡ v.raw.files
unfolding left_by
nothing_left v None e = refl
nothing_left v (Some m) e = cc

not_marked : (v : State) → v.mark ≡ None → v ≡ help v
unfolding help
not_marked v e = λ t. record v { raw = record v.raw { files = sym (nothing_left v v.mark e) t }; mark = e t }

pub help_spared : (w : World) (b : Bool) → w.files.mark ≡ None → state_of w ≡ after_help_if b (state_of w)
help_spared w true e = not_marked (state_of w) (marks_are w ∙ none_marked w.files e)
help_spared w false e = refl
