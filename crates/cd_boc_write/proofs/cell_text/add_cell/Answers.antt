use Rattle.std.proofs.Common.{rules, ◌≡◌, ◌++◌, List, ℕ, length, take, refl, ap, ◌∙◌, sym, arith}
use Rattle.std.proofs.lemmas.List.{take-take, take_at, length-append}
use Rattle.cd_boc_write.proofs.TextLaws.{cell_text-joined}
use Rattle.cd_boc_write.proofs.cell_text.add_cell.Goals as goal

-- what stood in front still stands there
front : (out piece new : List ℕ) → take (length (out ++ piece)) new ≡ out ++ piece → take (length out) new ≡ out
front out piece new kept =
    sym (take-take (length out) (length (out ++ piece)) new (omega (arith, length-append out piece)))
    ∙ ap (take (length out)) kept ∙ take_at out piece (length out) refl

pub returns-clause-ok : goal.returns-clause-ok
returns-clause-ok c =
    let joined = cell_text-joined c.args.out.now.items c.args.size c.args.face.now c.args.refs.now c.requires.counted in
    search rules

pub returns-clause-err : goal.returns-clause-err
returns-clause-err c = search (rules, front)
