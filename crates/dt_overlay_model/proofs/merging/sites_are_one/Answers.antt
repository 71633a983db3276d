use Rattle.dt_overlay_model.proofs.OneSites.{sites_are_one}
use Rattle.dt_overlay_model.proofs.merging.sites_are_one.Goals as goal

pub returns : goal.returns
returns c = sites_are_one
