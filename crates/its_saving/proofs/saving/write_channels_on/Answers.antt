use Rattle.its_saving.proofs.WritingLaws.{first_broken, first_then}
use Rattle.its_saving.proofs.saving.write_channels_on.Goals as goal

pub returns : goal.returns
returns g c = (first_then _ _ _ _ _ _ _ _ _ _ c.in_ok-write_channels.was c.write_channels.ensures
    (first_then _ _ _ _ _ _ _ _ _ _ c.in_ok-write_links.was c.write_links.ensures
    (first_then _ _ _ _ _ _ _ _ _ _ c.in_ok-write_consoles.was c.write_consoles.ensures
    c.write_holders.ensures)))

pub returns-in_err-write_channels : goal.returns-in_err-write_channels
returns-in_err-write_channels g c = (first_broken _ _ _ _ _ _ _ _ _ c.in_err-write_channels.was c.write_channels.ensures c.from_residual.ensures.0)

pub returns-in_err-write_links : goal.returns-in_err-write_links
returns-in_err-write_links g c = (first_then _ _ _ _ _ _ _ _ _ _ c.in_ok-write_channels.was c.write_channels.ensures
    (first_broken _ _ _ _ _ _ _ _ _ c.in_err-write_links.was c.write_links.ensures c.from_residual-in_err-write_links.ensures.0))

pub returns-in_err-write_consoles : goal.returns-in_err-write_consoles
returns-in_err-write_consoles g c = (first_then _ _ _ _ _ _ _ _ _ _ c.in_ok-write_channels.was c.write_channels.ensures
    (first_then _ _ _ _ _ _ _ _ _ _ c.in_ok-write_links.was c.write_links.ensures
    (first_broken _ _ _ _ _ _ _ _ _ c.in_err-write_consoles.was c.write_consoles.ensures c.from_residual-in_err-write_consoles.ensures.0)))
