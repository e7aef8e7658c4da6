use Rattle.std.proofs.Common.{sym, subst, ℕ, [], ◌∷◌, refl}
use Rattle.its_word.specs.Text.{is_name, sixbit_of}
use Rattle.its_session.specs.Fits.{IsNameWord}
use Rattle.test_judge.proofs.steps.steps.Goals as goal

-- the name A
named : IsNameWord 0o410000000000
unfolding is_name sixbit_of
named = record { text = 65 ∷ []; formed = refl; coded = refl }

pub tell-requires-clause-fits : goal.tell-requires-clause-fits
tell-requires-clause-fits g c = subst (λ (w : ℕ). IsNameWord w × IsNameWord w × Unit {0}) (sym c.new-name.ensures) (named, named, tt)
