use Rattle.cd_lanes.proofs.FreeLaws.{leaves_free}
use Rattle.cd_lanes.proofs.laws.a_done_feed_leaves_no_pin.Goals as goal

pub returns : goal.returns
returns g c = leaves_free g.H.Hash32.digest_of _
