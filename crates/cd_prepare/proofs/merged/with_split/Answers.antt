-- What the cell more shows stands beside it.
use Rattle.std.proofs.Common.{◌≡◌, List, [], ◌∷◌, ◌++◌, map, Result, Ok, Err, ap, ap₂, sym, ◌∙◌}
use Rattle.std.specs.Prelude.{IfOk}
use Rattle.std.proofs.lemmas.List.{map-append}
use Rattle.cd_cell.specs.declared.info.ChildInfo.{ChildInfo}
use Rattle.cd_cell.specs.FaceView.{FaceView}
use Rattle.cd_cell.specs.Levels.{info_of_face}
use Rattle.cd_update.specs.declared.grafting.Grafted.{Grafted}
use Rattle.cd_prepare.proofs.merged.with_split.Goals as goal

grown : {E : Type 0} (f : FaceView → ChildInfo) (cells : List FaceView) (infos : List ChildInfo) (top : FaceView) (info : ChildInfo) (r : Result Grafted E) → infos ≡ map f cells → info ≡ f top → IfOk r (λ all. all.cells ≡ cells ++ top ∷ []) → IfOk r (λ all. all.infos ≡ infos ++ info ∷ []) → IfOk r (λ all. all.infos ≡ map f all.cells)
grown f cells infos top info (Ok all) are is made told =
    told ∙ ap₂ (λ is i. is ++ i ∷ []) are is ∙ sym (map-append f cells (top ∷ [])) ∙ ap (map f) (sym made)
grown f cells infos top info (Err e) are is made told = told

pub returns-in-Ok-true-clause-infos : goal.returns-in-Ok-true-clause-infos
returns-in-Ok-true-clause-infos g c =
    grown (info_of_face g.H.Hash32.digest_of) c.args.new.cells c.args.new.infos c.args.split.now.face c.args.split.now.info c.with_cell.result c.requires.infos c.requires.info c.with_cell.ensures.cells c.with_cell.ensures.infos
