use Rattle.std.proofs.Common.{◌≡◌, ◌<◌, List, length, ap, sym, ◌∙◌, arith}
use Rattle.std.specs.List.Sorted.{IsPermutation, IsSorted}
use Rattle.std.proofs.lemmas.List.Sorted.{IsPermutation-sym, Contains-permutation}
use Rattle.cd_cell.specs.declared.new_cell.NewCell.{NewCell}
use Rattle.cd_cell.specs.Listings.{listed_at}
use Rattle.cd_boc_write.specs.declared.placed_hash.PlacedHash.{PlacedHash}
use Rattle.cd_boc_write.specs.Keys.{placed_cmp, placed_at, AreKeysOf}
use Rattle.cd_boc_write.proofs.places.keys_of.Invariants.{AreMade}
use Rattle.cd_boc_write.proofs.places.keys_of.Goals as goal

-- keys that were made in turn, sorted
keys_are : (cells : List NewCell) (made keys : List PlacedHash) → AreMade cells made (length cells) → IsPermutation made keys → IsSorted placed_cmp keys → AreKeysOf cells keys
keys_are cells made keys are moved sorted = record {
  sorted = sorted;
  whole =
      λ place in'.
      Contains-permutation made keys (placed_at cells place) moved (place, omega (arith, are.counted), are.made place (placed_at cells place) in');
  within =
      λ key in'.
      let old = Contains-permutation keys made key (IsPermutation-sym made keys moved) in' in
      let inside : old.0 < length cells = omega (arith, old.1, are.counted) in
      let is : key ≡ placed_at cells old.0 = sym old.2 ∙ are.made old.0 key inside in
      let place : key.place ≡ old.0 = ap (λ k. k.place) is in
      (omega (arith, inside, place), ap (λ n. (listed_at cells n).hash) place ∙ sym (ap (λ k. k.hash) is));
}

pub returns : goal.returns
returns c =
    let count : c.loop-place.place ≡ length c.args.cells.now = omega arith in
    keys_are c.args.cells.now c.loop-place.keys.items c.sort_unstable.new.self.items
    (rw count at c.loop-place.invariant) c.sort_unstable.ensures.permutation c.sort_unstable.ensures.sorted
