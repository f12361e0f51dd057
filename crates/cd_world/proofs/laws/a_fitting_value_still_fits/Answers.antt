use Rattle.cd_world.proofs.FitsStays.{fits_stay}
use Rattle.cd_world.proofs.laws.a_fitting_value_still_fits.Goals as goal

pub returns : goal.returns
returns g c = fits_stay g.H.Hash32.digest_of
