use Rattle.std.proofs.Common.{rules, ◌≡◌, ◌<◌, ◌^◌, ◌∷◌, [], List, Option, Some, ap, sym, subst}
use Rattle.atomic_table.specs.Table.{opening}
use Rattle.cd_gate.specs.TurnRule.{IsGateState, first_seat}
use Rattle.cd_gate.proofs.Keeps.{opens}
use Rattle.cd_gate.proofs.gate.Gate.new.Goals as goal

pub new-requires-2 : goal.new-requires-2
new-requires-2 g c =
    let t = g.T.Journaled in
    let x = c.args.value in
    let b = t.start c.of.result.value in
    let same : t.start x ≡ b = ap t.start (sym c.of.ensures) in
    let items : c.push.new.self.items ≡ Some x ∷ [] = search rules in
    let few : c.args.workers < 2 ^ 64 = search rules in
    subst (λ (xs : List (Option g.row.T.Denot)). IsGateState t.number t.entries t.start b c.args.workers (opening (0 ∷ 0 ∷ []) xs (first_seat b c.args.workers))) (sym items)
    (opens t.number t.entries t.start b c.args.workers x c.requires.empty same c.requires.some few)
