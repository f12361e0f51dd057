use Rattle.cd_core.specs.Cores.{told_start}
use Rattle.std.specs.Option.{option_map}
use Rattle.cd_export.proofs.PinTrees.{its-tree}
use Rattle.cd_export.proofs.ServeRuns.{begun-answer, serve-answers, serve-end}
use Rattle.cd_export.specs.Serving.{pins_of}
use Rattle.cd_export.proofs.serving.serve.Goals as goal

pub returns-clause-end : goal.returns-clause-end
returns-clause-end g c =
    let H = g.H.Hash32.digest_of in
    let core = c.serve_on-answer.new.core in
    let answers = c.serve_on-answer.ensures.served.answers in
    let pins = pins_of H g.K.Keeper.held core in
    let told = told_start g.K.Keeper.held core.start in
    serve-end H c.args.id (option_map (λ u. u.state c.args.id) told) core.journal c.serve_on-answer.result
    (serve-answers H c.args.id (option_map (λ u. u.state c.args.id) told) pins
    (λ n m at. its-tree g.row.H.Denot H c.args.id core.start.world.value told n m core.journal (begun-answer H c.args.id pins c.args.max core.journal c.serve_on-answer.result answers) at)
    core.start.world.value c.args.max core.journal c.serve_on-answer.result c.close-keeper.ensures.kept.follow answers)
