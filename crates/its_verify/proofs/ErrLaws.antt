-- What is said if the source failed does not depend on the failure.
use Rattle.std.proofs.Common.{ℕ, Option, Result, Ok, Err, List}
use Rattle.std.specs.Prelude.{IsErr}
use Rattle.std.proofs.lemmas.Bool.{false≢true}
use Rattle.its_io.specs.declared.stream.Failed.{Failed}
use Rattle.its_reader.specs.declared.items.Found.{Found}
use Rattle.its_verify.specs.Going.{ItemSays}
use Rattle.its_verify.specs.TranscriptReader.{Concludes, Says}
use Rattle.its_verify.specs.Rulings.{Ruling}
use Rattle.its_verify.specs.Verifier.{TicksSay, TurnsSay}
use Rattle.its_verify.specs.declared.outcome.Outcome.{Outcome}
use Rattle.its_verify.specs.declared.transcript_reader.TranscriptReader.{TranscriptReader}
use Rattle.its_verify.specs.declared.verifier.Verifier.{Verifier}

pub err_says : (o : Result (Option Outcome) Failed) (e : Failed) (old new : TranscriptReader) (left rest : Option (List ℕ))
    (ruling next : Ruling) → IsErr o → Says (Err e) old new left rest ruling next → Says o old new left rest ruling next
err_says (Ok x) e old new left rest ruling next is says = absurd (false≢true is)
err_says (Err y) e old new left rest ruling next is says = says

pub err_concludes : (o : Result Outcome Failed) (e : Failed) (old : TranscriptReader) (left rest : Option (List ℕ)) (ruling : Ruling)
    → IsErr o → Concludes (Err e) old left rest ruling → Concludes o old left rest ruling
err_concludes (Ok x) e old left rest ruling is ends = absurd (false≢true is)
err_concludes (Err y) e old left rest ruling is ends = ends

pub err_ticks : (o : Result (Option Outcome) Failed) (e : Failed) (old new : Verifier) (left rest : Option (List ℕ)) (i k : ℕ) → IsErr o
    → TicksSay (Err e) old new left rest i k → TicksSay o old new left rest i k
err_ticks (Ok x) e old new left rest i k is says = absurd (false≢true is)
err_ticks (Err y) e old new left rest i k is says = says

pub err_turns : (o : Result (Option Outcome) Failed) (e : Failed) (old new : Verifier) (left rest : Option (List ℕ)) (n q : ℕ) → IsErr o
    → TurnsSay (Err e) old new left rest n q → TurnsSay o old new left rest n q
err_turns (Ok x) e old new left rest n q is says = absurd (false≢true is)
err_turns (Err y) e old new left rest n q is says = says

pub err_item : (o : Result (Option Outcome) Failed) (e : Failed) (old new : Verifier) (left rest : Option (List ℕ)) (n : ℕ) (f : Found)
    → IsErr o → ItemSays (Err e) old new left rest n f → ItemSays o old new left rest n f
err_item (Ok x) e old new left rest n f is says = absurd (false≢true is)
err_item (Err y) e old new left rest n f is says = says
