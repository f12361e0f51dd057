-- What is asked of the visits behind the first one of an old half, or of any visit of a half, is asked of its places.
use Rattle.std.proofs.Common.{◌≡◌, List, [], ◌∷◌, drop, Bool, true, false, Option, Some, None, refl, ap, ap₂, sym, ◌∙◌, ℕ}
use Rattle.std.specs.Prelude.{if◌then◌else◌, is_some, ◌||◌}
use Rattle.std.specs.List.{list_any}
use Rattle.std.specs.Option.{option_or}
use Rattle.cd_base.specs.declared.hash.Hash256.{Hash256}
use Rattle.cd_cell.specs.declared.info.ChildInfo.{ChildInfo}
use Rattle.cd_cell.specs.FaceView.{FaceView}
use Rattle.cd_cell.specs.BagView.{BagView}
use Rattle.cd_cell.specs.Tree.{Tree}
use Rattle.cd_cell.specs.Updates.{half_of}
use Rattle.cd_update.specs.declared.visit.Visit.{Visit}
use Rattle.cd_update.specs.EachOnce.{first_of}
use Rattle.cd_cell.specs.Places.{Place, places}
use Rattle.cd_update.specs.Visits.{place_of, visited, IsWalked, IsHalf}
use Rattle.cd_update.specs.Pairing.{beside, misfit_at, misfit_among, wanted_hashes_below}
use Rattle.cd_update.specs.PairingBelow.{misfit_under}
use Rattle.cd_update.specs.Hides.{hides_at, hides}
use Rattle.cd_update.proofs.BagNodes.{first_of-below}
use Rattle.cd_update.proofs.HalfVisits.{half-places, first_of-half, wanted-below-half}

module _ {H : List ℕ → Hash256} {bag : BagView} {start : Visit} {visits : List Visit} {numbers : List (Option ℕ)} {u : Tree} (walked : IsWalked H bag start visits numbers) (half : IsHalf bag start u 0) where
  pub misfit-below-half : (top : FaceView) (faces : List (Option FaceView)) {read : List Visit} → read ≡ drop 1 visits → option_or (misfit_at H (λ hash. Some top) (place_of bag start.node)) (misfit_among H (visited bag read) faces) ≡ misfit_under H top (beside (wanted_hashes_below H u) faces) (half_of u 0)
  misfit-below-half top faces same =
      let look = beside (wanted_hashes_below H u) faces in
      ap₂ option_or
      (ap₂ (λ t d. misfit_at H (λ hash. Some top) (record { tree = t; depth = d })) half.cell half.depth)
      (ap (λ vs. misfit_among H (visited bag vs) faces) same
      ∙ ap (λ ws. first_of (misfit_at H (beside ws faces)) (visited bag (drop 1 visits))) (wanted-below-half walked half)
      ∙ first_of-below H bag walked.is_bag visits start.node walked.first.entry walked.nodes (misfit_at H look)
      ∙ ap (λ ps. first_of (misfit_at H look) (drop 1 ps)) (half-places walked half))

-- one of some items passes a test exactly where a first one does

any-step : {A : Type 0} (b rest : Bool) (x : A) (o : Option A) → rest ≡ is_some o → (b || rest) ≡ is_some (option_or (if b then Some x else None) o)
any-step true rest x o e = refl
any-step false rest x o e = e

pub any-first : {A : Type 0} (f : A → Bool) (xs : List A) → list_any f xs ≡ is_some (first_of (λ x. if f x then Some x else None) xs)
any-first f [] = refl
any-first f (x ∷ xs) = any-step (f x) (list_any f xs) x (first_of (λ y. if f y then Some y else None) xs) (any-first f xs)

module _ {H : List ℕ → Hash256} {bag : BagView} {start : Visit} {visits : List Visit} {numbers : List (Option ℕ)} {u : Tree} {place : ℕ} (walked : IsWalked H bag start visits numbers) (half : IsHalf bag start u place) (known : ChildInfo) where
  pub hides-half : {read : List Visit} → read ≡ visits → list_any (hides_at H known) (visited bag read) ≡ hides H known (half_of u place)
  hides-half same =
      let ask : Place → Option Place = λ p. if hides_at H known p then Some p else None in
      ap (λ vs. list_any (hides_at H known) (visited bag vs)) same
      ∙ any-first (hides_at H known) (visited bag visits)
      ∙ ap is_some (first_of-half walked half ask)
      ∙ sym (any-first (hides_at H known) (places H (half_of u place) 0))
