use Rattle.std.proofs.Common.{refl, rules}
use Rattle.its_plain.specs.Transcript.Turns.{turns_asked, ticks_asked}
use Rattle.its_verify.proofs.VerifierLaws.{no_turns}
use Rattle.its_verify.proofs.verifier.Verifier.turns_of.Goals as goal

pub returns-in_default : goal.returns-in_default
returns-in_default g c = record {
  says = no_turns c.args.self.now (g.S.Source.left c.args.src.now) (turns_asked c.args.event.now) (ticks_asked c.args.event.now) (search rules);
  stays = c.requires.at_item;
  onward = λ on. c.requires.onward;
  place = refl;
  cause = search rules;
}
