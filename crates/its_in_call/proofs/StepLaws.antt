-- File steps at the head of a list of pending steps are passed over.
use Rattle.std.specs.Prelude.{◌≡◌, ◌<◌, Bool, true, false, List, [], ◌∷◌, length, refl}
use Rattle.std.specs.List.{remove}
use Rattle.std.proofs.Common.{arith, sym}
use Rattle.its_records.specs.declared.calls.Owed.{Owed}
use Rattle.its_records.specs.declared.calls.Owed.TheVariants.{Unlink, Link, Free}
use Rattle.its_stepped.specs.Unwind.{due}
use Rattle.its_in_call.specs.Steps.{begins_with_file}

pub due_more : (os : List Owed) → begins_with_file os ≡ true → due false (remove os 0) ≡ due false os
due_more (Unlink ∷ os) h = refl
due_more (Link ∷ os) h = refl
due_more (Free ∷ os) h = refl
due_more _ h = cc

pub due_over : (os : List Owed) → begins_with_file os ≡ false → due false os ≡ os
due_over (Unlink ∷ os) h = cc
due_over (Link ∷ os) h = cc
due_over (Free ∷ os) h = cc
due_over _ h = refl

pub some_first : (os : List Owed) → begins_with_file os ≡ true → 0 < length os
some_first [] h = cc
some_first (o ∷ os) h = omega arith

-- nothing is passed over if the close is marked
pub due_all : (os : List Owed) → due true os ≡ os
due_all [] = refl
due_all (o ∷ os) = refl

pub due_whole : (b : Bool) (os : List Owed) → true ≡ b → os ≡ due b os
due_whole true os e = sym (due_all os)
due_whole false os e = cc
