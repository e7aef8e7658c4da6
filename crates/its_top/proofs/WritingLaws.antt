-- What was written of a line.
use Rattle.std.specs.Prelude.{◌≡◌, ℕ, Option, List, [], ◌∷◌, refl}
use Rattle.std.proofs.Common.{sym, subst, append-nil}
use Rattle.std.specs.Io.KnownBytes.{Appends}
use Rattle.std.proofs.KnownBytes.{Appends-nil}
use Rattle.its_io.specs.Bytes.{Wrote}
use Rattle.its_print.specs.Printing.{Line, text_of_line, text}
use Rattle.its_top.specs.declared.sessions.flow.Flow.{Flow}
use Rattle.its_top.specs.declared.sessions.flow.Flow.TheVariants as flows
use Rattle.its_top.specs.Answer.{WroteFor, Tells}
use Rattle.its_top.proofs.EventLaws.{text_one}

all_for : (good : Flow) (bytes : List ℕ) → WroteFor good good bytes bytes
all_for flows.Fault bytes = ([], sym (append-nil bytes))
all_for _ bytes = (refl, refl)

pub told_all : (good : Flow) (bytes : List ℕ) (old new : Option (List ℕ)) → Appends old new bytes → Tells good good bytes old new
told_all good bytes old new a = record { wrote = bytes; appended = a; complete = all_for good bytes }

pub told_begun : (good : Flow) (bytes wrote : List ℕ) (old new : Option (List ℕ)) → Wrote old new wrote bytes → Tells flows.Fault good bytes old new
told_begun good bytes wrote old new w = record { wrote = wrote; appended = w.appended; complete = w.rest }

pub told_as : (flow good : Flow) (bytes line : List ℕ) (old new : Option (List ℕ)) → bytes ≡ line → Tells flow good bytes old new
    → Tells flow good line old new
told_as flow good bytes line old new e t = subst (λ b. Tells flow good b old new) e t

-- no line, and one
pub tells_nothing : (good : Flow) (out : Option (List ℕ)) → Tells good good (text []) out out
unfolding text
tells_nothing good out = told_all good [] out out (Appends-nil out)

pub tells_one : (flow good : Flow) (l : Line) (old new : Option (List ℕ)) → Tells flow good (text_of_line l) old new → Tells flow good (text (l ∷ [])) old new
tells_one flow good l old new t = told_as flow good (text_of_line l) (text (l ∷ [])) old new (sym (text_one l)) t
