use Rattle.std.proofs.Common.{refl, rules}
use Rattle.std.proofs.lemmas.Fn.{always_returns_same}
use Rattle.cd_restart.specs.RowView.{RowView}
use Rattle.cd_restart.proofs.RowLists.{place-found}
use Rattle.cd_restart.proofs.rows.place_of.Goals as goal

pub returns-clause-found : goal.returns-clause-found
returns-clause-found c = λ rising.
    let searched = c.binary_search_by_key.ensures.position (λ (r : RowView). r.hash) (always_returns_same _ _ _ (λ a r q k. (search (rules, k), refl))) in
    place-found c.args.rows.now c.args.hash.now c.binary_search_by_key.result c.ok.result rising c.binary_search_by_key.ensures.bound searched c.ok.ensures.value
