use Rattle.std.proofs.Common.{◌≡◌, ◌∷◌, [], List, length, take, subst}
use Rattle.cd_cell.specs.declared.info.ChildInfo.{ChildInfo}
use Rattle.cd_cell.specs.Infos.{rep_of_info}
use Rattle.cd_boc_write.specs.Exports.{place_among, refs_among}
use Rattle.cd_slices.proofs.PlanLaws.{four-refs}
use Rattle.cd_slices.proofs.numbering.planned_cell.Goals as goal

pub returns-clause-refs : goal.returns-clause-refs
returns-clause-refs c = λ cells are.
    subst (λ (ks : List ChildInfo). take (length ks) (c.number_of.result ∷ c.number_of-2.result ∷ c.number_of-3.result ∷ c.number_of-4.result ∷ []) ≡ refs_among cells ks) c.kids-kids.ensures.value
    (four-refs (λ kid. place_among cells (rep_of_info kid)) c.kids-kids.result.now c.number_of.result c.number_of-2.result c.number_of-3.result c.number_of-4.result c.kids-kids.ensures.few
    (λ e in'. c.number_of.ensures.value cells e are in') (λ e in'. c.number_of-2.ensures.value cells e are in') (λ e in'. c.number_of-3.ensures.value cells e are in') (λ e in'. c.number_of-4.ensures.value cells e are in'))
