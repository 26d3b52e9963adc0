use Rattle.registry_inception.specs.InceptionFolds.{threshold_fits}
use Rattle.registry_inception.proofs.registry.threshold_fits.Goals as goal

pub returns : goal.returns
unfolding threshold_fits
returns c = rw (c.accept_if.ensures, c.is_exact-exact.ensures)
