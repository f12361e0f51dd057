-- What a well-formed cell shows has hashes of 32 bytes and depths of two.
use Rattle.std.proofs.Common.{◌≡◌, ℕ, zero, suc, ◌+◌, ◌*◌, ◌<◌, ◌≤◌, ◌^◌, Bool, true, false, List, length, drop, Some, refl, sym, ap, subst, ⊎_elim, arith, length-take-le, length-drop}
use Rattle.std.specs.Prelude.{nat_lt, if◌then◌else◌}
use Rattle.std.proofs.lemmas.Bool.{ltb-true}
use Rattle.cd_base.specs.declared.hash.Hash256.{Hash256}
use Rattle.cd_cell.specs.declared.kind.Kind.TheVariants.{Pruned}
use Rattle.cd_cell.specs.BitText.{data_of}
use Rattle.cd_cell.specs.FaceView.{FaceView}
use Rattle.cd_cell.specs.Infos.{info_hash, info_depth}
use Rattle.cd_cell.specs.Fit.{IsFaceFit}
use Rattle.cd_cell.specs.Masks.{bit_count, is_significant}
use Rattle.cd_cell.specs.Levels.{kind_of_face, is_pruned, mask_of_face, stated_hash, pruned_place, plain_hash, pruned_hash, hash_of_face, info_of_face, representation}
use Rattle.cd_cell.specs.Tree.{Tree, cell, info_of, infos_of, IsWellFormed}
use Rattle.cd_cell.proofs.FitLemmas.{length-pruned_data}
use Rattle.cd_cell.proofs.Heights.{pruned-cases}
use Rattle.cd_record.specs.Records.{IsInfo}

length-stated_hash : (f : FaceView) (at : ℕ) → at + 32 ≤ length (data_of f.bits) → length (let h = stated_hash f at in h.0) ≡ 32
length-stated_hash f at room = length-take-le 32 (drop at (data_of f.bits)) (omega (arith, length-drop at (data_of f.bits), room))

module _ (H : List ℕ → Hash256) (long : (m : List ℕ) → length (let h = H m in h.0) ≡ 32) where
  abbrev IsLong : Hash256 → Type 0
  IsLong h = length h.0 ≡ 32

  either-long : (b : Bool) (h g : Hash256) → IsLong h → IsLong g → IsLong (if b then h else g)
  either-long true h g x y = x
  either-long false h g x y = y

  plain_hash-long : (f : FaceView) (l : ℕ) → IsLong (plain_hash H f l)
  unfolding plain_hash
  plain_hash-long f zero = long _
  plain_hash-long f (suc l) = either-long (is_significant (mask_of_face f) (suc l)) _ (plain_hash H f l) (long _) (plain_hash-long f l)

  pruned_hash-long : (f : FaceView) (l : ℕ) → kind_of_face f ≡ Some Pruned → IsFaceFit f → IsLong (pruned_hash H f l)
  pruned_hash-long f l kind fit = by (nat_lt (pruned_place f l) (bit_count (mask_of_face f))) refl
    where
      by : (b : Bool) → nat_lt (pruned_place f l) (bit_count (mask_of_face f)) ≡ b
          → length (let h : Hash256 = if b then stated_hash f (2 + 32 * pruned_place f l) else H (representation f (mask_of_face f) (data_of f.bits) l) in h.0) ≡ 32
      by true e =
          let place : pruned_place f l < bit_count (mask_of_face f) = ltb-true _ _ e in
          length-stated_hash f (2 + 32 * pruned_place f l) (omega (arith, place, length-pruned_data f (mask_of_face f) refl kind (fit.pruned kind)))
      by false e = long _

  hash_of_face-long : (f : FaceView) (l : ℕ) → IsFaceFit f → IsLong (hash_of_face H f l)
  hash_of_face-long f l fit =
      ⊎_elim
      (λ kind. subst IsLong (sym (ap (λ k. if is_pruned k then pruned_hash H f l else plain_hash H f l) kind)) (pruned_hash-long f l kind fit))
      (λ other. subst IsLong (sym (ap (λ b. if b then pruned_hash H f l else plain_hash H f l) other)) (plain_hash-long f l))
      (pruned-cases (kind_of_face f))

  pub IsInfo-info_of : (t : Tree) → IsWellFormed H t → IsInfo (info_of H t)
  IsInfo-info_of (cell exotic bits ts) good =
      let f : FaceView = record { exotic = exotic; bits = bits; kids = infos_of H ts } in
      record { hashes = refl; depths = refl; bytes = bytes f good.2; numbers = numbers f good.2 }
    where
      bytes : (f : FaceView) → IsFaceFit f → (l : ℕ) → IsLong (info_hash (info_of_face H f) l)
      bytes f fit zero = hash_of_face-long f 0 fit
      bytes f fit (suc zero) = hash_of_face-long f 1 fit
      bytes f fit (suc (suc zero)) = hash_of_face-long f 2 fit
      bytes f fit (suc (suc (suc zero))) = hash_of_face-long f 3 fit
      bytes f fit (suc (suc (suc (suc l)))) = refl

      numbers : (f : FaceView) → IsFaceFit f → (l : ℕ) → info_depth (info_of_face H f) l < 2 ^ 16
      numbers f fit zero = omega (arith, fit.depths 0 (omega arith))
      numbers f fit (suc zero) = omega (arith, fit.depths 1 (omega arith))
      numbers f fit (suc (suc zero)) = omega (arith, fit.depths 2 (omega arith))
      numbers f fit (suc (suc (suc zero))) = omega (arith, fit.depths 3 (omega arith))
      numbers f fit (suc (suc (suc (suc l)))) = omega arith
