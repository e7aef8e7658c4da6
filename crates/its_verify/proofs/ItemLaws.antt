-- The items of a session, if the bytes of its source are known.
use Rattle.std.proofs.Common.{◌≡◌, ℕ, Bool, true, false, Option, Ok, List, [], ◌∷◌, ◌++◌, refl, sym, ap, subst, ◌∙◌}
use Rattle.its_records.specs.Item.{Unread}
use Rattle.its_records.specs.Item as items
use Rattle.its_records.specs.declared.session.Event.{Event}
use Rattle.its_records.specs.declared.session.Reason.{Reason}
use Rattle.its_session.specs.Events.{item_then}
use Rattle.its_reader.specs.declared.items.Found.TheVariants.{Line, Bad, Beyond, End}
use Rattle.its_reader.specs.declared.items.Items.{Items}
use Rattle.its_reader.specs.Items.{Finds, items_ahead}
use Rattle.its_reader.specs.Lines.{Facing, BetweenLines}
use Rattle.its_verify.specs.Sources.{IsTold, bytes_of, items_of}
use Rattle.its_verify.proofs.SourceLaws.{at_its_end, told_on}

faced_whole : (b : Bool) (Q : Bool → List ℕ → Type 0) (more : List ℕ) → Facing b Q → (b ≡ true → more ≡ []) → Q true more
faced_whole false Q more f h = f true more
faced_whole true Q more f h = subst (Q true) (sym (h refl)) f

over : (r : Items) (rest : Option (List ℕ)) → BetweenLines r.lines rest → r.lines.ended ≡ true → bytes_of rest ≡ []
over r rest ready e = at_its_end rest (ready.over e).1

pub found_line : (old new : Items) (left rest : Option (List ℕ)) (e : Event) → Finds (Ok (Line e)) old new left rest
    → BetweenLines new.lines rest → IsTold left
    → (items_of old left ≡ item_then (Ok e) (λ _. items_of new rest)) × IsTold rest
found_line old new left rest e f ready t =
    let told = told_on left rest f.read t f.consumed in (
      ap (items_ahead true old) told.bytes
          ∙ faced_whole new.lines.ended (λ whole more. items_ahead whole old (f.read ++ more) ≡ item_then (Ok e)
          (λ _. items_ahead whole new more)) (bytes_of rest) f.found (over new rest ready),
      told.told,
    )

pub found_bad : (old new : Items) (left rest : Option (List ℕ)) (r : Reason) → Finds (Ok (Bad r)) old new left rest
    → BetweenLines new.lines rest → IsTold left → items_of old left ≡ Unread r ∷ []
found_bad old new left rest r f ready t =
    let told = told_on left rest f.read t f.consumed in
    ap (items_ahead true old) told.bytes
    ∙ faced_whole new.lines.ended (λ whole more. items_ahead true old (f.read ++ more) ≡ Unread r ∷ []) (bytes_of rest) f.found (over new rest ready)

pub found_beyond : (old new : Items) (left rest : Option (List ℕ)) → Finds (Ok Beyond) old new left rest → BetweenLines new.lines rest
    → IsTold left → items_of old left ≡ items.Beyond ∷ []
found_beyond old new left rest f ready t =
    let told = told_on left rest f.read t f.consumed in
    ap (items_ahead true old) told.bytes
    ∙ faced_whole new.lines.ended (λ whole more. items_ahead true old (f.read ++ more) ≡ items.Beyond ∷ []) (bytes_of rest) f.found (over new rest ready)

pub found_end : (old new : Items) (left rest : Option (List ℕ)) → Finds (Ok End) old new left rest → BetweenLines new.lines rest
    → IsTold left → items_of old left ≡ []
found_end old new left rest f ready t =
    let told = told_on left rest f.read t f.consumed in
    ap (items_ahead true old) told.bytes
    ∙ faced_whole new.lines.ended (λ whole more. items_ahead true old (f.read ++ more) ≡ []) (bytes_of rest) f.found.1 (over new rest ready)
