-- What a cell of mask 0 shows is one hash and one depth at all levels.
use Rattle.std.proofs.Common.{◌≡◌, ℕ, ◌+◌, false, List, [], ◌∷◌, length, get_or, refl, sym, ap, ap₂, ◌∙◌, arith}
use Rattle.cd_base.specs.declared.hash.Hash256.{Hash256}
use Rattle.cd_cell.specs.declared.info.ChildInfo.{ChildInfo}
use Rattle.cd_cell.specs.Infos.{no_hash, info_hash, info_depth, rep_of_info, height_of_info}
use Rattle.cd_cell.specs.Masks.{is_significant}
use Rattle.cd_cell.specs.Steady.{IsFlat}
use Rattle.cd_world.specs.Machine.{plain_info}

four : {A : Type 0} (xs : List A) (d : A) → length xs ≡ 4 → get_or xs 0 d ∷ get_or xs 1 d ∷ get_or xs 2 d ∷ get_or xs 3 d ∷ [] ≡ xs
four [] d e = absurd (omega arith)
four (a ∷ []) d e = absurd (omega arith)
four (a ∷ b ∷ []) d e = absurd (omega arith)
four (a ∷ b ∷ c ∷ []) d e = absurd (omega arith)
four (a ∷ b ∷ c ∷ x ∷ []) d e = refl
four (a ∷ b ∷ c ∷ x ∷ y ∷ xs) d e = absurd (omega arith)

pub plain-info : (k : ChildInfo) → length k.hashes ≡ 4 → length k.depths ≡ 4 → IsFlat k → k.mask ≡ 0 → plain_info (rep_of_info k) (height_of_info k) ≡ k
plain-info k four_hashes four_depths flat plain =
    let off : (l : ℕ) → is_significant 0 (l + 1) ≡ false → is_significant k.mask (l + 1) ≡ false = λ l e. ap (λ m. is_significant m (l + 1)) plain ∙ e in
    let h2 = flat.hashes 2 (omega arith) (off 2 refl) in
    let h1 = flat.hashes 1 (omega arith) (off 1 refl) in
    let h0 = flat.hashes 0 (omega arith) (off 0 refl) in
    let d2 = flat.depths 2 (omega arith) (off 2 refl) in
    let d1 = flat.depths 1 (omega arith) (off 1 refl) in
    let d0 = flat.depths 0 (omega arith) (off 0 refl) in
    let hashes : rep_of_info k ∷ rep_of_info k ∷ rep_of_info k ∷ rep_of_info k ∷ [] ≡ k.hashes =
    ap₂ (λ (a b : Hash256). a ∷ b ∷ rep_of_info k ∷ rep_of_info k ∷ []) (h2 ∙ (h1 ∙ h0)) (h2 ∙ h1)
    ∙ ap (λ (a : Hash256). info_hash k 0 ∷ info_hash k 1 ∷ a ∷ rep_of_info k ∷ []) h2
    ∙ four k.hashes no_hash four_hashes in
    let depths : height_of_info k ∷ height_of_info k ∷ height_of_info k ∷ height_of_info k ∷ [] ≡ k.depths =
    ap₂ (λ (a b : ℕ). a ∷ b ∷ height_of_info k ∷ height_of_info k ∷ []) (d2 ∙ (d1 ∙ d0)) (d2 ∙ d1)
    ∙ ap (λ (a : ℕ). info_depth k 0 ∷ info_depth k 1 ∷ a ∷ height_of_info k ∷ []) d2
    ∙ four k.depths 0 four_depths in
    λ i. record { mask = sym plain i; hashes = hashes i; depths = depths i }
