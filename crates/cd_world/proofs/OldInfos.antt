-- A world knows what the root of a merge's old tree shows.
use Rattle.std.proofs.Common.{◌≡◌, ℕ, ◌<◌, ◌≤◌, ◌^◌, List, [], ◌∷◌, map, Option, Some, None, refl, sym, ap, ap₂, ◌∙◌, subst, arith}
use Rattle.std.specs.Prelude.{IsSome}
use Rattle.std.proofs.lemmas.Bool.{true≢false}
use Rattle.std.proofs.lemmas.List.Elements.{All-contains, All-head, All-tail}
use Rattle.cd_base.specs.declared.hash.Hash256.{Hash256}
use Rattle.cd_block.specs.declared.block.BlockId.{BlockId}
use Rattle.cd_block.specs.declared.description.Descr.{Descr}
use Rattle.cd_cell.specs.declared.info.ChildInfo.{ChildInfo}
use Rattle.cd_cell.specs.Infos.{info_hash, info_depth}
use Rattle.cd_cell.specs.Levels.{info_of_face}
use Rattle.cd_cell.specs.Joined.{joined_face}
use Rattle.cd_cell.specs.Tree.{Tree, cell, info_of, rep_of, height_of, mask_of, IsWellFormed}
use Rattle.cd_cell.proofs.Heights.{IsSteady-info_of}
use Rattle.cd_cell.proofs.Wanted.{hash-flat, depth-flat}
use Rattle.cd_world.specs.Standing.{has_id, block_at}
use Rattle.cd_world.specs.Machine.{plain_info, root_info, old_info}
use Rattle.cd_world.specs.Told.{ToldWorld, IsSoundBlock, IsSound}
use Rattle.cd_world.specs.OldTrees.{OldTreeIsKnown}
use Rattle.cd_world.proofs.Searches.{find-passes, find-contains}
use Rattle.cd_world.proofs.PinsStay.{same_id-Decides}

module _ (H : List ℕ → Hash256) where
  -- the root of a tree of mask 0 shows its hash and its depth at each level
  plain-shown : (s : Tree) → IsWellFormed H s → mask_of H s ≡ 0 → plain_info (rep_of H s) (height_of H s) ≡ info_of H s
  plain-shown (cell exotic bits ts) good plain =
      let s = cell exotic bits ts in
      let k = info_of H s in
      let steady = IsSteady-info_of H s good in
      let small : k.mask < 2 ^ 0 = subst (λ m. m < 2 ^ 0) (sym plain) (omega arith) in
      let hash : (l : ℕ) → l ≤ 3 → info_hash k 3 ≡ info_hash k l = λ l low. hash-flat k 0 3 steady small (omega arith) (omega arith) ∙ sym (hash-flat k 0 l steady small (omega arith) low) in
      let depth : (l : ℕ) → l ≤ 3 → info_depth k 3 ≡ info_depth k l = λ l low. depth-flat k 0 3 steady small (omega arith) (omega arith) ∙ sym (depth-flat k 0 l steady small (omega arith) low) in
      let h0 = hash 0 (omega arith) in
      let h1 = hash 1 (omega arith) in
      let h2 = hash 2 (omega arith) in
      let d0 = depth 0 (omega arith) in
      let d1 = depth 1 (omega arith) in
      let d2 = depth 2 (omega arith) in
      λ i. record {
        mask = sym plain i;
        hashes = h0 i ∷ h1 i ∷ h2 i ∷ info_hash k 3 ∷ [];
        depths = d0 i ∷ d1 i ∷ d2 i ∷ info_depth k 3 ∷ [];
      }

  known-root : (t : ToldWorld) → IsSound H t → (q : BlockId) → IsSome (block_at t.world q) → (d : Descr) × (block_at t.world q ≡ Some d) × (root_info d ≡ info_of H (t.state q))
  known-root t sound q some = by (block_at t.world q) refl some
    where
      by : (o : Option Descr) → block_at t.world q ≡ o → IsSome o → (d : Descr) × (block_at t.world q ≡ Some d) × (root_info d ≡ info_of H (t.state q))
      by None at there = absurd (true≢false (sym there))
      by (Some d) at there =
          let block = All-contains (IsSoundBlock H t.state) t.world.blocks d sound.blocks (find-contains (has_id q) t.world.blocks d at) in
          let same : d.id ≡ q = (same_id-Decides d.id q).0 (find-passes (has_id q) t.world.blocks d at) in
          (d, at, ap₂ plain_info (sym block.root) (sym block.depth) ∙ plain-shown (t.state d.id) block.good block.plain ∙ ap (λ (id : BlockId). info_of H (t.state id)) same)

  pub old_tree-known : OldTreeIsKnown H
  old_tree-known t [] sound there = refl
  old_tree-known t (q ∷ []) sound there =
      let known = known-root t sound q (All-head (λ q. IsSome (block_at t.world q)) q [] there) in
      ap (λ (o : Option Descr). old_info H (o ∷ [])) known.1 ∙ ap (λ (k : ChildInfo). Some k) known.2
  old_tree-known t (q ∷ r ∷ []) sound there =
      let left = known-root t sound q (All-head (λ q. IsSome (block_at t.world q)) q (r ∷ []) there) in
      let right = known-root t sound r (All-head (λ q. IsSome (block_at t.world q)) r [] (All-tail (λ q. IsSome (block_at t.world q)) q (r ∷ []) there)) in
      ap₂ (λ (o p : Option Descr). old_info H (o ∷ p ∷ [])) left.1 right.1
      ∙ ap₂ (λ (k l : ChildInfo). Some (info_of_face H (joined_face k l))) left.2 right.2
  old_tree-known t (q ∷ r ∷ s ∷ more) sound there =
      let left = known-root t sound q (All-head (λ q. IsSome (block_at t.world q)) q (r ∷ s ∷ more) there) in
      let right = known-root t sound r (All-head (λ q. IsSome (block_at t.world q)) r (s ∷ more) (All-tail (λ q. IsSome (block_at t.world q)) q (r ∷ s ∷ more) there)) in
      ap₂ (λ (o p : Option Descr). old_info H (o ∷ p ∷ map (block_at t.world) (s ∷ more))) left.1 right.1
