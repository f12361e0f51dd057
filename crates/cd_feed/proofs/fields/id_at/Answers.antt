use Rattle.cd_feed.proofs.FeedFields.{part_shortens}
use Rattle.cd_feed.proofs.fields.id_at.Goals as goal

pub returns-clause-rest : goal.returns-clause-rest
returns-clause-rest c = part_shortens c.cut.result 80 c.args.bytes.now (c.in_ok-key.key.now, c.in_ok-key.rest.now) c.in_ok-key.ensures.exact
