-- Laws of what the cells of a full tree show, and of its halves.
use Rattle.std.proofs.Common.{◌≡◌, ℕ, ◌+◌, ◌-◌, ◌*◌, ◌^◌, ◌<◌, List, length, sym, ap, ◌∙◌, arith}
use Rattle.cd_cell.specs.declared.info.ChildInfo.{ChildInfo}
use Rattle.cd_cell.specs.Tree.{Tree, info_of}
use Rattle.cd_gen.specs.States.{sha, over, full}
use Rattle.cd_gen.specs.Listing.{infos_of}
use Rattle.cd_gen.proofs.ListingLaws.{turned-some, length-infos_of}
use Rattle.cd_gen.proofs.WriterLaws.{full-over, twice-half}

module _ (number chain seqno levels first : ℕ) (infos : List ChildInfo) (are : infos ≡ infos_of (full number chain seqno levels first)) where
  pub infos-some : 0 < length infos
  infos-some =
      let long = ap length are in
      omega (arith, long, turned-some (info_of sha) (full number chain seqno levels first))

  pub infos-long : 0 < levels → length infos + 1 ≡ 2 ^ (levels - 1) * 4
  infos-long some =
      let long = ap length are in
      omega (arith, long, length-infos_of number chain seqno levels first, twice-half levels some)

  -- what is cut out of the list as the halves of any such tree
  pub infos-halves : 0 < levels → (leaves : ℕ) → leaves ≡ 2 ^ (levels - 1) → (right left : List ChildInfo)
      → ((l r : Tree) → length (infos_of l) + 1 ≡ 2 ^ (levels - 1) * 2 → length (infos_of r) + 1 ≡ 2 ^ (levels - 1) * 2 → infos ≡ infos_of (over l r) → (right ≡ infos_of r) × (left ≡ infos_of l))
      → (right ≡ infos_of (full number chain seqno (levels - 1) (first + leaves))) × (left ≡ infos_of (full number chain seqno (levels - 1) first))
  infos-halves some leaves is right left cut =
      let half : ℕ → Tree = full number chain seqno (levels - 1) in
      let long : (k : ℕ) → length (infos_of (half k)) + 1 ≡ 2 ^ (levels - 1) * 2 = length-infos_of number chain seqno (levels - 1) in
      let both = cut (half first) (half (first + 2 ^ (levels - 1))) (long first) (long (first + 2 ^ (levels - 1))) (are ∙ ap infos_of (full-over number chain seqno levels first some)) in
      (both.0 ∙ ap (λ (k : ℕ). infos_of (half (first + k))) (sym is), both.1)
