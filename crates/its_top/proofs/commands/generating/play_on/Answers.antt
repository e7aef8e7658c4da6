use Rattle.std.proofs.Common.{refl}
use Rattle.its_top.proofs.TallyLaws.{few_performed, played}
use Rattle.its_top.proofs.commands.generating.play_on.Goals as goal

pub counted-more-requires : goal.counted-more-requires
counted-more-requires c = record { few = few_performed _ _ _ _ _ _ c.perform-performed.ensures.performed }

pub returns-clause-played : goal.returns-clause-played
returns-clause-played c =
    played _ _ _ _ _ _ c.counted-more.result c.if-play.false c.is_err-play.ensures.value refl c.counted-more.ensures.counted
    c.requires.kind c.perform-performed.ensures.performed
