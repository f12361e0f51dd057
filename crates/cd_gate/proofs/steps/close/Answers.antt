use Rattle.std.proofs.Common.{rules, ◌<◌, Option, ap, sym, ◌∙◌, subst, unwrap_or, IsSome, arith}
use Rattle.cd_gate.proofs.Keeps.{closed_value}
use Rattle.cd_gate.proofs.steps.close.Goals as goal

pub unwrap-requires : goal.unwrap-requires
unwrap-requires g c =
    let t = g.T.Journaled in
    let key = c.args.table.shared.key in
    let p = c.args.seat in
    let some : 0 < key.workers = (let wide = c.requires.rests.some in let end = c.requires.end in omega arith) in
    let got = closed_value t.number t.entries t.start (t.start key.first.value) key.workers p.id p.me.0 _ _ c.take-value.result c.close_with-closed.ensures.values.2 c.take-value.ensures.value c.requires.rests.idle c.requires.lowest c.requires.end some in
    subst IsSome (sym got.1) (search rules)

pub returns : goal.returns
returns g c =
    let t = g.T.Journaled in
    let key = c.args.table.shared.key in
    let p = c.args.seat in
    let some : 0 < key.workers = (let wide = c.requires.rests.some in let end = c.requires.end in omega arith) in
    let got = closed_value t.number t.entries t.start (t.start key.first.value) key.workers p.id p.me.0 _ _ c.take-value.result c.close_with-closed.ensures.values.2 c.take-value.ensures.value c.requires.rests.idle c.requires.lowest c.requires.end some in
    let same = sym c.unwrap.ensures ∙ got.1 in
    (ap (λ (o : Option g.row.T.Denot). t.entries (unwrap_or o got.0)) same ∙ got.2, ap (λ (o : Option g.row.T.Denot). t.start (unwrap_or o got.0)) same ∙ got.3)
