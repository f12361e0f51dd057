-- Faces as values.
use Rattle.std.proofs.Common.{◌∙◌, ◌≤◌, List, ◌++◌, length, drop, replicate, ap, sym, refl}
use Rattle.std.proofs.lemmas.List.{take_at, drop-replicate}
use Rattle.cd_cell.specs.declared.info.ChildInfo.{ChildInfo}
use Rattle.cd_cell.specs.FaceKids.{no_kid, four_kids, AreKids}

-- children that were written into an array of fillers
pub AreKids-put : (kids : List ChildInfo) → length kids ≤ 4 → AreKids (length kids) (kids ++ drop (length kids) (replicate 4 no_kid))
AreKids-put kids few =
    let front = take_at kids (drop (length kids) (replicate 4 no_kid)) (length kids) refl in
    record {
      few = few;
      counted = ap length front;
      rest = ap (λ xs. kids ++ xs) (drop-replicate (length kids) 4 no_kid) ∙ ap four_kids (sym front);
    }
