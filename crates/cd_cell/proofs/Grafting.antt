-- The law of the applied update: a graft keeps what the new half shows up to its Merkle depth, so the new tree is
-- well-formed, has mask 0, and its rep is the stated new hash.
use Rattle.std.proofs.Common.{◌≡◌, ℕ, zero, suc, ◌+◌, ◌-◌, ◌*◌, ◌/◌, ◌%◌, ◌^◌, ◌≤◌, ◌<◌, max, List, [], ◌∷◌, ◌++◌, length, get_or, fold, flat_map, All, Bool, true, false, true≢false, ◌&&◌, ◌||◌, ◌==◌, bit_or, if◌then◌else◌, Option, Some, None, refl, ap, ap₂, sym, ◌∙◌, subst, ⊎_elim, add-one, le_refl, mul-zero, zero-add, le_trans, lt_of_le_of_lt, mod-lt, mod-eq_of_lt, pow_pos, eq-or-lt_of_le, arith}
use Rattle.std.specs.Int.{w16, to_be_bytes, bit_at}
use Rattle.std.proofs.lemmas.Nat.Bits.{bit_at_above}
use Rattle.std.proofs.lemmas.Bool.{cases_lt}
use Rattle.std.proofs.Math.Pow.{mod-mod-pow}
use Rattle.std.proofs.Math.Nat.{div-add-mod}
use Rattle.std.specs.Option.{unwrap_or}
use Rattle.std.proofs.lemmas.Nat.{or_mod, le_or_l, le_or_r}
use Rattle.std.proofs.lemmas.List.Elements.{All-nil, All-cons, All-head, All-tail}
use Rattle.std.proofs.lemmas.List.{nil_from_length}
use Rattle.cd_base.specs.declared.hash.Hash256.{Hash256}
use Rattle.cd_cell.specs.declared.info.ChildInfo.{ChildInfo}
use Rattle.cd_cell.specs.declared.kind.Kind.{Kind}
use Rattle.cd_cell.specs.declared.kind.Kind.TheVariants.{Ordinary, Pruned, Library, Proof, Update}
use Rattle.cd_cell.specs.Masks.{lowest_bits, is_significant, level_of_mask}
use Rattle.cd_cell.specs.BitText.{data_of}
use Rattle.cd_cell.specs.Infos.{info_hash, info_depth, all_masks, depth_above}
use Rattle.cd_cell.specs.FaceView.{FaceView}
use Rattle.cd_cell.specs.Levels.{kind_of_face, mask_by_kind, mask_of_face, kid_level, stated_depth, representation, is_pruned, is_merkle, level_below, plain_depth, depth_of_face, plain_hash, hash_of_face, info_of_face}
use Rattle.cd_cell.specs.CellFaults.{no_info, second_byte}
use Rattle.cd_cell.specs.Fit.{IsFaceFit, IsPrunedFace, StatesKid}
use Rattle.cd_cell.specs.Tree.{Tree, cell, Trees, no_trees, tree_and, list_of, info_of, infos_of, face_of, mask_of, hash_at, IsWellFormed, AreWellFormed}
use Rattle.cd_cell.specs.Updates.{is_hidden, Matches, missing, first_foreign, foreign_of_all, grafted, grafted_all}
use Rattle.cd_cell.specs.Unfolding.{no_tree}
use Rattle.cd_cell.proofs.Heights.{pruned-cases, clear-bit, joined-small, IsSteady-infos_of, depth_of_face-same, if_pruned-no, no_kids-pruned}
use Rattle.cd_cell.proofs.LevelRecursions.{hash_of_info, depth_of_info, level_below-low}
use Rattle.cd_cell.proofs.Showing.{no_option}

-- what a grafted cell shows, beside what the cell of the new half shows: the mask up to level d, and hashes and depths there
pub record IsKept (d : ℕ) (old new : ChildInfo) : Type 0 where
  pub mask : new.mask ≡ lowest_bits old.mask d
  pub hashes : (l : ℕ) → l ≤ d → info_hash new l ≡ info_hash old l
  pub depths : (l : ℕ) → l ≤ d → info_depth new l ≡ info_depth old l

-- the same of children in their places
abbrev pub AreKept : ℕ → List ChildInfo → List ChildInfo → Type 0
AreKept d [] [] = Unit {0}
AreKept d [] (g ∷ gs) = ⊥
AreKept d (k ∷ ks) [] = ⊥
AreKept d (k ∷ ks) (g ∷ gs) = IsKept d k g × AreKept d ks gs

pub length-kept : (d : ℕ) (ks gs : List ChildInfo) → AreKept d ks gs → length gs ≡ length ks
length-kept d [] [] kept = refl
length-kept d [] (g ∷ gs) kept = absurd kept
length-kept d (k ∷ ks) [] kept = absurd kept
length-kept d (k ∷ ks) (g ∷ gs) kept = ap suc (length-kept d ks gs kept.1)

-- ---- masks up to a level

pub lowest-lowest : (m l d : ℕ) → l ≤ d → lowest_bits (lowest_bits m d) l ≡ lowest_bits m l
lowest-lowest m l d low =
    ap (λ e. m % 2 ^ e % 2 ^ l) (let parts : d ≡ (d - l) + l = omega arith in parts) ∙ mod-mod-pow m (d - l) l

bit-lowest : (m k d : ℕ) → k < d → d ≤ 3 → m % 2 ^ d / 2 ^ k % 2 ≡ m / 2 ^ k % 2
bit-lowest m k zero below top = absurd (omega arith)
bit-lowest m zero (suc zero) below top = omega arith
bit-lowest m zero (suc (suc zero)) below top = omega arith
bit-lowest m zero (suc (suc (suc zero))) below top = omega arith
bit-lowest m (suc zero) (suc zero) below top = absurd (omega arith)
bit-lowest m (suc zero) (suc (suc zero)) below top = omega arith
bit-lowest m (suc zero) (suc (suc (suc zero))) below top = omega arith
bit-lowest m (suc (suc zero)) (suc zero) below top = absurd (omega arith)
bit-lowest m (suc (suc zero)) (suc (suc zero)) below top = absurd (omega arith)
bit-lowest m (suc (suc zero)) (suc (suc (suc zero))) below top = omega arith
bit-lowest m (suc (suc (suc k))) (suc zero) below top = absurd (omega arith)
bit-lowest m (suc (suc (suc k))) (suc (suc zero)) below top = absurd (omega arith)
bit-lowest m (suc (suc (suc k))) (suc (suc (suc zero))) below top = absurd (omega arith)
bit-lowest m k (suc (suc (suc (suc d)))) below top = absurd (omega arith)

pub lowest-significant : (m l d : ℕ) → l ≤ d → d ≤ 3 → is_significant (lowest_bits m d) l ≡ is_significant m l
lowest-significant m zero d low top = refl
lowest-significant m (suc l) d low top =
    let k : suc l - 1 ≡ l = omega arith in
    ap (λ e. suc l == 0 || m % 2 ^ d / 2 ^ e % 2 == 1) k
    ∙ ap (λ b. suc l == 0 || b == 1) (bit-lowest m l d (omega arith) top)
    ∙ sym (ap (λ e. suc l == 0 || m / 2 ^ e % 2 == 1) k)

joined-kept : (d acc : ℕ) (ks gs : List ChildInfo) → AreKept d ks gs → fold (λ m k. bit_or m k.mask) (lowest_bits acc d) gs ≡ lowest_bits (fold (λ m k. bit_or m k.mask) acc ks) d
joined-kept d acc [] [] kept = refl
joined-kept d acc [] (g ∷ gs) kept = absurd kept
joined-kept d acc (k ∷ ks) [] kept = absurd kept
joined-kept d acc (k ∷ ks) (g ∷ gs) kept =
    ap (λ m. fold (λ m k. bit_or m k.mask) (bit_or (lowest_bits acc d) m) gs) kept.0.mask
    ∙ ap (λ m. fold (λ m k. bit_or m k.mask) m gs) (sym (or_mod acc k.mask d))
    ∙ joined-kept d (bit_or acc k.mask) ks gs kept.1

-- ---- one cell whose children are kept

depth_above-kept : (d l acc : ℕ) (ks gs : List ChildInfo) → l ≤ d → AreKept d ks gs → fold (λ d k. max d (info_depth k l + 1)) acc gs ≡ fold (λ d k. max d (info_depth k l + 1)) acc ks
depth_above-kept d l acc [] [] low kept = refl
depth_above-kept d l acc [] (g ∷ gs) low kept = absurd kept
depth_above-kept d l acc (k ∷ ks) [] low kept = absurd kept
depth_above-kept d l acc (k ∷ ks) (g ∷ gs) low kept =
    ap (λ n. fold (λ d k. max d (info_depth k l + 1)) (max acc (n + 1)) gs) (kept.0.depths l low)
    ∙ depth_above-kept d l (max acc (info_depth k l + 1)) ks gs low kept.1

depth_bytes-kept : (d l : ℕ) (ks gs : List ChildInfo) → l ≤ d → AreKept d ks gs → flat_map (λ k. to_be_bytes w16 (info_depth k l)) gs ≡ flat_map (λ k. to_be_bytes w16 (info_depth k l)) ks
depth_bytes-kept d l [] [] low kept = refl
depth_bytes-kept d l [] (g ∷ gs) low kept = absurd kept
depth_bytes-kept d l (k ∷ ks) [] low kept = absurd kept
depth_bytes-kept d l (k ∷ ks) (g ∷ gs) low kept = ap₂ (λ n rest. to_be_bytes w16 n ++ rest) (kept.0.depths l low) (depth_bytes-kept d l ks gs low kept.1)

hash_bytes-kept : (d l : ℕ) (ks gs : List ChildInfo) → l ≤ d → AreKept d ks gs → flat_map (λ k. (info_hash k l).0) gs ≡ flat_map (λ k. (info_hash k l).0) ks
hash_bytes-kept d l [] [] low kept = refl
hash_bytes-kept d l [] (g ∷ gs) low kept = absurd kept
hash_bytes-kept d l (k ∷ ks) [] low kept = absurd kept
hash_bytes-kept d l (k ∷ ks) (g ∷ gs) low kept = ap₂ (λ n rest. n.0 ++ rest) (kept.0.hashes l low) (hash_bytes-kept d l ks gs low kept.1)

kid-kept : (d : ℕ) (ks gs : List ChildInfo) (place : ℕ) → AreKept d ks gs → place < length ks → IsKept d (get_or ks place no_info) (get_or gs place no_info)
kid-kept d [] gs place kept in' = absurd (omega arith)
kid-kept d (k ∷ ks) [] place kept in' = absurd kept
kid-kept d (k ∷ ks) (g ∷ gs) zero kept in' = kept.0
kid-kept d (k ∷ ks) (g ∷ gs) (suc place) kept in' = kid-kept d ks gs place kept.1 (omega arith)

module _ (H : List ℕ → Hash256) (exotic : Bool) (bits : List Bool) (ks gs : List ChildInfo) (d : ℕ) (top : d ≤ 3) where
  abbrev pub before : FaceView
  before = record { exotic = exotic; bits = bits; kids = ks }

  abbrev pub after : FaceView
  after = record { exotic = exotic; bits = bits; kids = gs }

  -- no level up to d is taken from children above their Merkle depth
  kid_level-low : (l : ℕ) → l ≤ d → kid_level before l ≤ kid_level before d
  kid_level-low l low = go (is_merkle (kind_of_face before))
    where
      go : (merkle : Bool) → level_below merkle l ≤ level_below merkle d
      go true = omega arith
      go false = low

  module _ (kept : AreKept (kid_level before d) ks gs) (mask : mask_of_face after ≡ lowest_bits (mask_of_face before) d) where
    same_refs : length gs ≡ length ks
    same_refs = length-kept (kid_level before d) ks gs kept

    representation-kept : (m : ℕ) (contents : List ℕ) (l : ℕ) → l ≤ d → representation after m contents (kid_level after l) ≡ representation before m contents (kid_level before l)
    representation-kept m contents l low =
        let refs = same_refs in
        let depths = depth_bytes-kept (kid_level before d) (kid_level before l) ks gs (kid_level-low l low) kept in
        let hashes = hash_bytes-kept (kid_level before d) (kid_level before l) ks gs (kid_level-low l low) kept in
        cc

    lowest-kept : (l : ℕ) → l ≤ d → lowest_bits (mask_of_face after) l ≡ lowest_bits (mask_of_face before) l
    lowest-kept l low = ap (λ m. lowest_bits m l) mask ∙ lowest-lowest (mask_of_face before) l d low

    significant-kept : (l : ℕ) → l ≤ d → is_significant (mask_of_face after) l ≡ is_significant (mask_of_face before) l
    significant-kept l low = ap (λ m. is_significant m l) mask ∙ lowest-significant (mask_of_face before) l d low top

    plain_depth-kept : (l : ℕ) → l ≤ d → plain_depth after l ≡ plain_depth before l
    unfolding plain_depth
    plain_depth-kept zero low = depth_above-kept (kid_level before d) (kid_level before 0) 0 ks gs (kid_level-low 0 low) kept
    plain_depth-kept (suc l) low =
        ap (λ b. if b then depth_above (kid_level after (suc l)) gs else plain_depth after l) (significant-kept (suc l) low)
        ∙ ap₂
        (λ here below. if is_significant (mask_of_face before) (suc l) then here else below)
        (depth_above-kept (kid_level before d) (kid_level before (suc l)) 0 ks gs (kid_level-low (suc l) low) kept)
        (plain_depth-kept l (omega arith))

    plain_hash-kept : (l : ℕ) → l ≤ d → plain_hash H after l ≡ plain_hash H before l
    unfolding plain_hash
    plain_hash-kept zero low = ap H (representation-kept 0 (data_of bits) 0 low)
    plain_hash-kept (suc l) low =
        let below = plain_hash-kept l (omega arith) in
        let text =
        ap (λ m. representation after m (plain_hash H after l).0 (kid_level after (suc l))) (lowest-kept (suc l) low)
        ∙ ap (λ h. representation after (lowest_bits (mask_of_face before) (suc l)) h.0 (kid_level after (suc l))) below
        ∙ representation-kept (lowest_bits (mask_of_face before) (suc l)) (plain_hash H before l).0 (suc l) low
        in
        ap (λ b. if b then H (representation after (lowest_bits (mask_of_face after) (suc l)) (plain_hash H after l).0 (kid_level after (suc l))) else plain_hash H after l) (significant-kept (suc l) low)
        ∙ ap₂ (λ here below. if is_significant (mask_of_face before) (suc l) then here else below) (ap H text) below

    module _ (fit : IsFaceFit before) where
      -- a pruned branch has no children, before and after
      same_pruned : kind_of_face before ≡ Some Pruned → after ≡ before
      same_pruned e =
          let none = no_kids-pruned before fit e in
          let none_after : gs ≡ [] = nil_from_length gs (same_refs ∙ ap length none) in
          ap (λ kids. record { exotic = exotic; bits = bits; kids = kids }) (none_after ∙ sym none)

      hash_of_face-kept : (l : ℕ) → l ≤ d → hash_of_face H after l ≡ hash_of_face H before l
      hash_of_face-kept l low =
          ⊎_elim
          (λ e. ap (λ f. hash_of_face H f l) (same_pruned e))
          (λ e. if_pruned-no after e _ _ ∙ plain_hash-kept l low ∙ sym (if_pruned-no before e _ _))
          (pruned-cases (kind_of_face before))

      depth_of_face-kept : (l : ℕ) → l ≤ d → depth_of_face after l ≡ depth_of_face before l
      depth_of_face-kept l low =
          ⊎_elim
          (λ e. ap (λ f. depth_of_face f l) (same_pruned e))
          (λ e. if_pruned-no after e _ _ ∙ plain_depth-kept l low ∙ sym (if_pruned-no before e _ _))
          (pruned-cases (kind_of_face before))

      pub IsKept-info : IsKept d (info_of_face H before) (info_of_face H after)
      IsKept-info =
          record {
            mask = mask;
            hashes = λ l low. hash_of_info H after l (omega arith) ∙ hash_of_face-kept l low ∙ sym (hash_of_info H before l (omega arith));
            depths = λ l low. depth_of_info H after l (omega arith) ∙ depth_of_face-kept l low ∙ sym (depth_of_info H before l (omega arith));
          }

      -- what a Merkle cell states of a child is still the child's
      states-kept : (place : ℕ) → place < length ks → StatesKid before place → StatesKid after place
      states-kept place in' states =
          let kid = kid-kept (kid_level before d) ks gs place kept in' in
          record {
            hash = states.hash ∙ sym (kid.hashes 0 (omega arith));
            depth = ap (λ refs. stated_depth before (1 + 32 * refs + 2 * place)) same_refs ∙ states.depth ∙ sym (kid.depths 0 (omega arith));
          }

      -- no level above d is significant
      above-clear : (l : ℕ) → d ≤ l → l < 3 → is_significant (mask_of_face after) (l + 1) ≡ false
      above-clear l from below =
          clear-bit (mask_of_face after) l below
          (ap (λ m. bit_at m l) mask ∙ bit_at_above (lowest_bits (mask_of_face before) d) d l (mod-lt (mask_of_face before) (pow_pos d)) from)

      depth-above : (l : ℕ) → d ≤ l → l ≤ 3 → depth_of_face after l ≡ depth_of_face after d
      depth-above zero from low = ap (depth_of_face after) (let same : 0 ≡ d = omega arith in same)
      depth-above (suc l) from low =
          ⊎_elim
          (λ same. ap (depth_of_face after) (sym same))
          (λ above.
          let more : d ≤ l = omega arith in
          ap (depth_of_face after) (sym (add-one l)) ∙ depth_of_face-same after l (omega arith) (above-clear l more (omega arith)) ∙ depth-above l more (omega arith))
          (eq-or-lt_of_le from)

      depths-low : (l : ℕ) → l ≤ 3 → depth_of_face after l ≤ 1024
      depths-low l low =
          ⊎_elim
          (λ above. omega (arith, depth-above l (omega arith) low, depth_of_face-kept d (le_refl d), fit.depths d top))
          (λ below. omega (arith, depth_of_face-kept l below, fit.depths l low))
          (cases_lt d l)

      -- the cell is fit again
      pub IsFaceFit-kept : IsFaceFit after
      IsFaceFit-kept =
          record {
            known = fit.known;
            pruned = λ e. subst IsPrunedFace (sym (same_pruned e)) (fit.pruned e);
            library = λ e. record { refs = same_refs ∙ (fit.library e).refs; bits = (fit.library e).bits };
            proof = λ e. record { refs = same_refs ∙ (fit.proof e).refs; bits = (fit.proof e).bits; kid = states-kept 0 (omega (arith, (fit.proof e).refs)) (fit.proof e).kid };
            update =
                λ e. record {
                  refs = same_refs ∙ (fit.update e).refs;
                  bits = (fit.update e).bits;
                  before = states-kept 0 (omega (arith, (fit.update e).refs)) (fit.update e).before;
                  after = states-kept 1 (omega (arith, (fit.update e).refs)) (fit.update e).after;
                };
            depths = depths-low;
          }

-- ---- the mask of a cell whose children are kept

-- a mask below the next level that isn't of that level
level-below : (m d : ℕ) → m ≤ 7 → d ≤ 3 → m < 2 ^ (d + 1) → (level_of_mask m == d + 1) ≡ false → m < 2 ^ d
level-below zero zero small top low other = omega arith
level-below (suc zero) zero small top low other = absurd (true≢false other)
level-below (suc (suc m)) zero small top low other = absurd (omega arith)
level-below zero (suc zero) small top low other = omega arith
level-below (suc zero) (suc zero) small top low other = omega arith
level-below (suc (suc zero)) (suc zero) small top low other = absurd (true≢false other)
level-below (suc (suc (suc zero))) (suc zero) small top low other = absurd (true≢false other)
level-below (suc (suc (suc (suc m)))) (suc zero) small top low other = absurd (omega arith)
level-below zero (suc (suc zero)) small top low other = omega arith
level-below (suc zero) (suc (suc zero)) small top low other = omega arith
level-below (suc (suc zero)) (suc (suc zero)) small top low other = omega arith
level-below (suc (suc (suc zero))) (suc (suc zero)) small top low other = omega arith
level-below (suc (suc (suc (suc zero)))) (suc (suc zero)) small top low other = absurd (true≢false other)
level-below (suc (suc (suc (suc (suc zero))))) (suc (suc zero)) small top low other = absurd (true≢false other)
level-below (suc (suc (suc (suc (suc (suc zero)))))) (suc (suc zero)) small top low other = absurd (true≢false other)
level-below (suc (suc (suc (suc (suc (suc (suc zero))))))) (suc (suc zero)) small top low other = absurd (true≢false other)
level-below (suc (suc (suc (suc (suc (suc (suc (suc m)))))))) (suc (suc zero)) small top low other = absurd (omega arith)
level-below m (suc (suc (suc zero))) small top low other = omega arith
level-below m (suc (suc (suc (suc d)))) small top low other = absurd (omega arith)

-- the masks of children up to the level at which they are taken
merkle_mask : (m d : ℕ) → m ≤ 7 → d ≤ 3 → lowest_bits m (level_below true d) / 2 ≡ lowest_bits (m / 2) d
merkle_mask m zero small top = omega arith
merkle_mask m (suc zero) small top = omega arith
merkle_mask m (suc (suc zero)) small top = omega arith
merkle_mask m (suc (suc (suc zero))) small top = omega arith
merkle_mask m (suc (suc (suc (suc d)))) small top = absurd (omega arith)

merkle_low : (m d : ℕ) → m ≤ 7 → d ≤ 3 → m / 2 < 2 ^ (d + 1) → m < 2 ^ (level_below true d + 1)
merkle_low m zero small top low = omega arith
merkle_low m (suc zero) small top low = omega arith
merkle_low m (suc (suc zero)) small top low = omega arith
merkle_low m (suc (suc (suc zero))) small top low = omega arith
merkle_low m (suc (suc (suc (suc d)))) small top low = absurd (omega arith)

-- no child has a bit that the joined mask doesn't have
joined-from : (acc : ℕ) (ks : List ChildInfo) → acc ≤ fold (λ m k. bit_or m k.mask) acc ks
joined-from acc [] = le_refl acc
joined-from acc (k ∷ ks) = le_trans (le_or_l acc k.mask) (joined-from (bit_or acc k.mask) ks)

pub joined-bound : (acc : ℕ) (ks : List ChildInfo) → All (λ k. k.mask ≤ fold (λ m k. bit_or m k.mask) acc ks) ks
joined-bound acc [] = All-nil _
joined-bound acc (k ∷ ks) =
    All-cons (λ x. x.mask ≤ fold (λ m k. bit_or m k.mask) (bit_or acc k.mask) ks) k ks (le_trans (le_or_r acc k.mask) (joined-from (bit_or acc k.mask) ks)) (joined-bound (bit_or acc k.mask) ks)

module _ (exotic : Bool) (bits : List Bool) (ks gs : List ChildInfo) (d : ℕ) (top : d ≤ 3) (small : All (λ k. k.mask ≤ 7) ks) (fit : IsFaceFit (record { exotic = exotic; bits = bits; kids = ks })) (low : mask_of_face (record { exotic = exotic; bits = bits; kids = ks }) < 2 ^ (d + 1)) where
  abbrev pub face : FaceView
  face = record { exotic = exotic; bits = bits; kids = ks }

  all_small : all_masks ks ≤ 7
  all_small = joined-small 0 ks (omega arith) small

  none_lowest : (l : ℕ) → 0 ≡ lowest_bits 0 l
  none_lowest l = sym (mod-eq_of_lt (pow_pos l))

  merkle_kept : (l : ℕ) → AreKept l ks gs → lowest_bits (all_masks ks) l / 2 ≡ lowest_bits (all_masks ks / 2) d → all_masks gs / 2 ≡ lowest_bits (all_masks ks / 2) d
  merkle_kept l kept e = ap (λ m. m / 2) (ap (λ m. fold (λ m k. bit_or m k.mask) m gs) (none_lowest l) ∙ joined-kept l 0 ks gs kept) ∙ e

  pub mask_of_face-kept : is_hidden d face ≡ false → AreKept (kid_level face d) ks gs → mask_of_face (record { exotic = exotic; bits = bits; kids = gs }) ≡ lowest_bits (mask_of_face face) d
  mask_of_face-kept shown kept = go (kind_of_face face) refl shown low kept
    where
      go : (kind : Option Kind) → kind_of_face face ≡ kind → (is_pruned kind && (level_of_mask (mask_by_kind kind (data_of bits) ks) == d + 1)) ≡ false → mask_by_kind kind (data_of bits) ks < 2 ^ (d + 1) → AreKept (level_below (is_merkle kind) d) ks gs → mask_by_kind kind (data_of bits) gs ≡ lowest_bits (mask_by_kind kind (data_of bits) ks) d
      go None e shown low kept = absurd (fit.known e)
      go (Some Ordinary) e shown low kept = ap (λ m. fold (λ m k. bit_or m k.mask) m gs) (none_lowest d) ∙ joined-kept d 0 ks gs kept
      go (Some Pruned) e shown low kept =
          sym (mod-eq_of_lt (level-below (second_byte face) d (fit.pruned e).three_levels top low shown))
      go (Some Library) e shown low kept = none_lowest d
      go (Some Proof) e shown low kept = merkle_kept (level_below true d) kept (merkle_mask (all_masks ks) d all_small top)
      go (Some Update) e shown low kept = merkle_kept (level_below true d) kept (merkle_mask (all_masks ks) d all_small top)

  pub kids-low : All (λ k. k.mask < 2 ^ (kid_level face d + 1)) ks
  kids-low = go (kind_of_face face) refl low
    where
      go : (kind : Option Kind) → kind_of_face face ≡ kind → mask_by_kind kind (data_of bits) ks < 2 ^ (d + 1) → All (λ k. k.mask < 2 ^ (level_below (is_merkle kind) d + 1)) ks
      go None e low = absurd (fit.known e)
      go (Some Ordinary) e low = λ k x in'. lt_of_le_of_lt (joined-bound 0 ks k x in') low
      go (Some Pruned) e low = λ k x in'. omega (arith, (fit.pruned e).refs, in')
      go (Some Library) e low = λ k x in'. omega (arith, (fit.library e).refs, in')
      go (Some Proof) e low = λ k x in'. lt_of_le_of_lt (joined-bound 0 ks k x in') (merkle_low (all_masks ks) d all_small top low)
      go (Some Update) e low = λ k x in'. lt_of_le_of_lt (joined-bound 0 ks k x in') (merkle_low (all_masks ks) d all_small top low)

-- ---- whole trees

-- a tree that was found for a hidden cell
pub record IsFound (H : List ℕ → Hash256) (n : Tree) (d : ℕ) (known : Tree) : Type 0 where
  pub well : IsWellFormed H known
  pub low : mask_of H known / 2 ^ d ≡ 0
  pub same : Matches d (info_of H known) (info_of H n)

-- a number below a power has no part above it
pub low-whole : (m d : ℕ) → m / 2 ^ d ≡ 0 → m ≡ lowest_bits m d
low-whole m d e =
    sym (div-add-mod m (2 ^ d)) ∙ ap (λ q. 2 ^ d * q + m % 2 ^ d) e ∙ ap (λ z. z + m % 2 ^ d) (mul-zero (2 ^ d)) ∙ zero-add (m % 2 ^ d)

IsKept-found : (H : List ℕ → Hash256) (n : Tree) (d : ℕ) (known : Tree) → IsFound H n d known → IsKept d (info_of H n) (info_of H known)
IsKept-found H n d known found =
    record {
      mask = low-whole (mask_of H known) d found.low ∙ found.same.masks;
      hashes = found.same.hashes;
      depths = found.same.depths;
    }

module _ (H : List ℕ → Hash256) (search : Tree → ℕ → Option Tree) (finds : (n : Tree) (d : ℕ) (known : Tree) → search n d ≡ Some known → IsFound H n d known) where
  pub record IsGraft (d : ℕ) (n g : Tree) : Type 0 where
    pub well : IsWellFormed H g
    pub kept : IsKept d (info_of H n) (info_of H g)

  record AreGrafts (d : ℕ) (ns gs : Trees) : Type 0 where
    well : AreWellFormed H gs
    refs : length (list_of gs) ≡ length (list_of ns)
    kept : AreKept d (infos_of H ns) (infos_of H gs)

  -- what is found in the place of a hidden cell
  found-step : (n : Tree) (d : ℕ) (o : Option Tree) → ((known : Tree) → o ≡ Some known → IsFound H n d known) → missing o (hash_at H n d) ≡ None → IsGraft d n (unwrap_or o no_tree)
  found-step n d None found e = absurd (cc e)
  found-step n d (Some known) found e = let is = found known refl in record { well = is.well; kept = IsKept-found H n d known is }

  -- a cell that keeps its flag and bits
  cell-step : (exotic : Bool) (bits : List Bool) (ns gs : Trees) (d : ℕ) → d ≤ 3 → IsWellFormed H (cell exotic bits ns) → mask_of H (cell exotic bits ns) < 2 ^ (d + 1) → is_hidden d (face_of H (cell exotic bits ns)) ≡ false → AreGrafts (kid_level (face_of H (cell exotic bits ns)) d) ns gs → IsGraft d (cell exotic bits ns) (cell exotic bits gs)
  cell-step exotic bits ns gs d top good low shown grafts =
      let small : All (λ k. k.mask ≤ 7) (infos_of H ns) = λ k x in'. (IsSteady-infos_of H ns good.3 k x in').small in
      let mask = mask_of_face-kept exotic bits (infos_of H ns) (infos_of H gs) d top small good.2 low shown grafts.kept in
      record {
        well = (good.0, omega (arith, good.1, grafts.refs), IsFaceFit-kept H exotic bits (infos_of H ns) (infos_of H gs) d top grafts.kept mask good.2, grafts.well);
        kept = IsKept-info H exotic bits (infos_of H ns) (infos_of H gs) d top grafts.kept mask good.2;
      }

  graft-step : (n : Tree) (d : ℕ) (hidden : Bool) (whole : Tree) (rest : Option Hash256) → (missing (search n d) (hash_at H n d) ≡ None → hidden ≡ true → IsGraft d n (unwrap_or (search n d) no_tree)) → (rest ≡ None → hidden ≡ false → IsGraft d n whole) → (if hidden then missing (search n d) (hash_at H n d) else rest) ≡ None → IsGraft d n (if hidden then unwrap_or (search n d) no_tree else whole)
  graft-step n d true whole rest hides shows e = hides e refl
  graft-step n d false whole rest hides shows e = shows e refl

  mutual
    pub grafted-is : (n : Tree) (d : ℕ) → d ≤ 3 → IsWellFormed H n → mask_of H n < 2 ^ (d + 1) → first_foreign H search n d ≡ None → IsGraft d n (grafted H search n d)
    grafted-is (cell exotic bits ns) d top good low none =
        let n = cell exotic bits ns in
        let shown = face_of H n in
        let kd = kid_level shown d in
        let small : All (λ k. k.mask ≤ 7) (infos_of H ns) = λ k x in'. (IsSteady-infos_of H ns good.3 k x in').small in
        graft-step n d (is_hidden d shown) (cell exotic bits (grafted_all H search ns kd)) (foreign_of_all H search ns kd)
        (λ e h. found-step n d (search n d) (finds n d) e)
        (λ e h.
        cell-step exotic bits ns (grafted_all H search ns kd) d top good low h
        (grafts-are ns kd (level_below-low (is_merkle (kind_of_face shown)) d top) good.3 (kids-low exotic bits (infos_of H ns) (infos_of H ns) d top small good.2 low) e))
        none

    grafts-are : (ns : Trees) (d : ℕ) → d ≤ 3 → AreWellFormed H ns → All (λ k. k.mask < 2 ^ (d + 1)) (infos_of H ns) → foreign_of_all H search ns d ≡ None → AreGrafts d ns (grafted_all H search ns d)
    grafts-are no_trees d top good low none = record { well = tt; refs = refl; kept = tt }
    grafts-are (tree_and n ns) d top good low none =
        let both = no_option (first_foreign H search n d) (foreign_of_all H search ns d) none in
        let first = grafted-is n d top good.0 (All-head (λ k. k.mask < 2 ^ (d + 1)) (info_of H n) (infos_of H ns) low) both.0 in
        let rest = grafts-are ns d top good.1 (All-tail (λ k. k.mask < 2 ^ (d + 1)) (info_of H n) (infos_of H ns) low) both.1 in
        record { well = (first.well, rest.well); refs = ap suc rest.refs; kept = (first.kept, rest.kept) }
