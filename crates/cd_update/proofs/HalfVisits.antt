-- The visits of a half of an update are its places, each once.
use Rattle.std.proofs.Common.{◌≡◌, ℕ, List, flat_map, Bool, Option, Some, None, refl, ap, ap₂, sym, ◌∙◌, inl, inr, ◌⊎◌, drop, ◌<◌, length}
use Rattle.std.specs.Bool.{Decides}
use Rattle.std.specs.Option.{option_or}
use Rattle.cd_base.specs.declared.hash.Hash256.{Hash256}
use Rattle.cd_cell.specs.declared.kind.Kind.TheVariants.{Update}
use Rattle.cd_cell.specs.declared.info.ChildInfo.{ChildInfo}
use Rattle.cd_cell.specs.FaceView.{FaceView}
use Rattle.cd_cell.specs.BagView.{BagView}
use Rattle.cd_cell.specs.Levels.{kind_of_face}
use Rattle.cd_cell.specs.Tree.{Tree, kind_of, mask_of, IsWellFormed}
use Rattle.cd_cell.specs.Equality.{same_hash, same_hash-Decides}
use Rattle.cd_cell.specs.Updates.{UpdateRefusal, half_of}
use Rattle.cd_cell.specs.Bags.{bag_tree, IsBag}
use Rattle.cd_cell.proofs.BagLaws.{face_of-bag, info_of-bag, well_formed-bag}
use Rattle.cd_update.specs.declared.visit.Visit.{Visit}
use Rattle.cd_update.specs.declared.pair_fault.PairFault.{PairFault}
use Rattle.cd_update.specs.declared.pair_fault.PairFault.TheVariants.{OldHash, OldDepth, OldHalf, Memory}
use Rattle.cd_update.specs.EachOnce.{each_once, first_of}
use Rattle.cd_cell.specs.Places.{Place, places}
use Rattle.cd_update.specs.Visits.{visited, IsWalked, IsHalf}
use Rattle.cd_update.specs.Pairing.{beside, wanted_at, misfit_at, misfit_among, first_misfit, wanted_hashes, wanted_hashes_below}
use Rattle.cd_update.specs.Grafts.{foreign_at, foreign_hash}
use Rattle.cd_update.specs.Answers.{refusal_of_pairing}
use Rattle.cd_update.specs.UpdateFaults.{IsUpdateEntry}
use Rattle.cd_update.proofs.BagNodes.{each_once-visited, first_of-visited, each_once-below, some-visits}
use Rattle.cd_update.proofs.PlaceLaws.{wanted-places}

-- a refusal comes first
pub or-refused : (fault : PairFault) (o p : Option UpdateRefusal) → (fault ≡ Memory) ⊎ (refusal_of_pairing fault ≡ o) → (fault ≡ Memory) ⊎ (refusal_of_pairing fault ≡ option_or o p)
or-refused (OldHash stated real) o p (inl e) = inl e
or-refused (OldHash stated real) o p (inr e) = inr (ap (λ q. option_or q p) e)
or-refused (OldDepth stated real) o p (inl e) = inl e
or-refused (OldDepth stated real) o p (inr e) = inr (ap (λ q. option_or q p) e)
or-refused (OldHalf hash stored shown) o p (inl e) = inl e
or-refused (OldHalf hash stored shown) o p (inr e) = inr (ap (λ q. option_or q p) e)
or-refused Memory o p e = inl refl

-- and one behind nothing
pub refused-later : (fault : PairFault) (o p : Option UpdateRefusal) → o ≡ None → (fault ≡ Memory) ⊎ (refusal_of_pairing fault ≡ p) → (fault ≡ Memory) ⊎ (refusal_of_pairing fault ≡ option_or o p)
refused-later fault o p none (inl e) = inl e
refused-later fault o p none (inr e) = inr (e ∙ ap (λ q. option_or q p) (sym none))

pub refused-as : (fault : PairFault) (p q : Option UpdateRefusal) → p ≡ q → (fault ≡ Memory) ⊎ (refusal_of_pairing fault ≡ p) → (fault ≡ Memory) ⊎ (refusal_of_pairing fault ≡ q)
refused-as fault p q same (inl e) = inl e
refused-as fault p q same (inr e) = inr (e ∙ same)

-- a well-formed Merkle update of mask 0
pub record IsUpdateTree (H : List ℕ → Hash256) (u : Tree) : Type 0 where
  pub well : IsWellFormed H u
  pub kind : kind_of H u ≡ Some Update
  pub plain : mask_of H u ≡ 0

-- the tree of an update
pub update-tree : (H : List ℕ → Hash256) (bag : BagView) (root : ℕ) → IsBag H bag.cells bag.refs bag.roots → IsUpdateEntry bag.cells root → IsUpdateTree H (bag_tree bag root)
update-tree H bag root is_bag entry = record {
  well = well_formed-bag H bag.cells bag.refs bag.roots is_bag root entry.there;
  kind = ap kind_of_face (face_of-bag H bag.cells bag.refs bag.roots is_bag root) ∙ entry.kind;
  plain = ap (λ k. k.mask) (info_of-bag H bag.cells bag.refs bag.roots is_bag root) ∙ entry.plain;
}

module _ {H : List ℕ → Hash256} {bag : BagView} {start : Visit} {visits : List Visit} {numbers : List (Option ℕ)} {u : Tree} {place : ℕ} (walked : IsWalked H bag start visits numbers) (half : IsHalf bag start u place) where
  pub half-places : places H (bag_tree bag start.node.entry) start.node.depth ≡ places H (half_of u place) 0
  half-places = ap₂ (places H) half.cell half.depth

  pub each_once-half : {B : Type 0} (like : B → B → Bool) (tell : (a b : B) → Decides (like a b) (a ≡ b)) (f : Place → List B) → each_once like (flat_map f (visited bag visits)) ≡ each_once like (flat_map f (places H (half_of u place) 0))
  each_once-half like tell f = each_once-visited H bag walked.is_bag visits start.node walked.first.entry walked.nodes like tell f ∙ ap (λ ps. each_once like (flat_map f ps)) half-places

  pub first_of-half : {B : Type 0} (ask : Place → Option B) → first_of ask (visited bag visits) ≡ first_of ask (places H (half_of u place) 0)
  first_of-half ask = first_of-visited H bag walked.is_bag visits start.node walked.first.entry walked.nodes ask ∙ ap (first_of ask) half-places

  pub foreign-half : (known : List ChildInfo) {read : List Visit} {first : Option Hash256} → read ≡ visits → first ≡ first_of (foreign_at H known) (visited bag read) → first ≡ foreign_hash H known (half_of u place)
  foreign-half known same is = is ∙ ap (λ vs. first_of (foreign_at H known) (visited bag vs)) same ∙ first_of-half (foreign_at H known)

module _ {H : List ℕ → Hash256} {bag : BagView} {start : Visit} {visits : List Visit} {numbers : List (Option ℕ)} {u : Tree} (walked : IsWalked H bag start visits numbers) (half : IsHalf bag start u 0) where
  pub wanted-half : each_once same_hash (flat_map (wanted_at H) (visited bag visits)) ≡ wanted_hashes H u
  wanted-half =
      each_once-half walked half same_hash same_hash-Decides (wanted_at H)
      ∙ ap (each_once same_hash) (sym (wanted-places H (half_of u 0) 0))

  pub wanted-below-half : each_once same_hash (flat_map (wanted_at H) (visited bag (drop 1 visits))) ≡ wanted_hashes_below H u
  wanted-below-half =
      each_once-below H bag walked.is_bag visits start.node walked.first.entry walked.nodes same_hash same_hash-Decides (wanted_at H)
      ∙ ap (λ ps. each_once same_hash (flat_map (wanted_at H) (drop 1 ps))) (half-places walked half)

  pub half-visits : 0 < length visits
  half-visits = some-visits H bag walked.is_bag visits start.node walked.first.entry walked.nodes

  pub misfit-half : (faces : List (Option FaceView)) {read : List Visit} → read ≡ visits → misfit_among H (visited bag read) faces ≡ first_misfit H (beside (wanted_hashes H u) faces) (half_of u 0)
  misfit-half faces same =
      ap (λ vs. misfit_among H (visited bag vs) faces) same
      ∙ ap (λ ws. first_of (misfit_at H (beside ws faces)) (visited bag visits)) wanted-half
      ∙ first_of-half walked half (misfit_at H (beside (wanted_hashes H u) faces))
