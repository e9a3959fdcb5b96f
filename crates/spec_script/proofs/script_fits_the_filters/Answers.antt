use Rattle.spec_script.proofs.Fits.{script-fits}
use Rattle.spec_script.proofs.script_fits_the_filters.Goals as goal

pub returns : goal.returns
returns c = script-fits
