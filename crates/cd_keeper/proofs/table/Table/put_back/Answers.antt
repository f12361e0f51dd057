use Rattle.cd_keeper.proofs.TableLaws.{put_back-there, put_back-absent}
use Rattle.cd_keeper.proofs.table.Table.put_back.Goals as goal

pub returns : goal.returns
returns g c =
    rw (← c.self.view_is, (c.get_mut.follows.holds c.args.value).0)
    (put_back-there g.K.Ord.cmp g.K.Key.bytes g.met.K.Key.ordered c.args.key.now c.args.value c.in-Some.place.now c.self.inside.tree.entries c.in-Some.ensures.value)

pub returns-in_default : goal.returns-in_default
returns-in_default g c =
    rw (← c.self.view_is, c.get_mut.follows.holds-at-none)
    (put_back-absent g.K.Ord.cmp g.K.Key.bytes g.met.K.Key.ordered c.args.key.now c.args.value.items c.self.inside.tree.entries c.in_default.ensures.value)
