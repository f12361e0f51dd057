use Rattle.std.proofs.Common.{◌≡◌, ◌<◌, length, get_or, Some, None, refl, ap, ◌∙◌, get_or-set_same}
use Rattle.std.proofs.Math.ListN.{set}
use Rattle.cd_restart.specs.RowView.{RowView}
use Rattle.cd_restart.proofs.RowLists.{row-of_place, absent-more, raised-more}
use Rattle.cd_restart.proofs.rows.refer.Goals as goal

pub returns-in_default-clause-row : goal.returns-in_default-clause-row
returns-in_default-clause-row c = λ H cells hashes of.
    row-of_place H hashes cells c.args.rows.now c.args.hash.now None of.are (c.in_default.ensures.found of.rising)

pub returns-in_default-clause-counted : goal.returns-in_default-clause-counted
returns-in_default-clause-counted c = λ H cells hashes of.
    absent-more H hashes cells c.args.rows.now c.args.hash.now of
    (row-of_place H hashes cells c.args.rows.now c.args.hash.now None of.are (c.in_default.ensures.found of.rising))

pub returns-clause-row : goal.returns-clause-row
returns-clause-row c = λ H cells hashes of.
    let rows = c.args.rows.now in
    let place = c.in-Some.place in
    let old = c.index-rows-place.result in
    let row = row-of_place H hashes cells rows c.args.hash.now (Some place) of.are (c.in-Some.ensures.found of.rising) in (
      row.0,
      row.1,
      λ d.
          let within : place < length rows = c.in-Some.ensures.within in
          let there : get_or (set rows place c.raise.new.self) place d ≡ c.raise.new.self = rw get_or-set_same refl in
          ap (λ (r : RowView). r.shown) (there ∙ c.in_ok-raise.ensures) ∙ row.2 old,
    )

pub returns-clause-counted : goal.returns-clause-counted
returns-clause-counted c = λ H cells hashes of.
    raised-more H hashes cells c.args.rows.now c.args.hash.now c.in-Some.place c.index-rows-place.result c.raise.new.self of (c.in-Some.ensures.found of.rising) c.in-Some.ensures.within c.in_ok-raise.ensures
