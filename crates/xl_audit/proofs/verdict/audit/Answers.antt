use Rattle.spec_audit.proofs.Fits.{fits_few}
use Rattle.xl_audit.proofs.verdict.audit.Goals as goal

pub read_shaped-requires : goal.read_shaped-requires
read_shaped-requires g c = fits_few _ _ c.requires.fits
