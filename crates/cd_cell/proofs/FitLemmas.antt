-- What well-formed cells' faces are, kind by kind.
use Rattle.std.proofs.Common.{◌≡◌, ◌≢◌, ℕ, zero, suc, ◌+◌, ◌*◌, ◌<◌, ◌≤◌, Bool, true, false, not, ◌||◌, ◌&&◌, length, max, Option, Some, None, nat_lt, nat_le, if◌then◌else◌, ap, refl, ◌==◌, ◌⊎◌, inl, inr, ⊎_elim, arith, eq-eqb}
use Rattle.std.specs.Option.{option_or}
use Rattle.std.proofs.lemmas.Bool.{eqb-true, leb-true, le-leb, ltb-true, or_cases, or_right, and_parts, and_from}
use Rattle.cd_cell.specs.declared.kind.Kind.{Kind}
use Rattle.cd_cell.specs.declared.kind.Kind.TheVariants.{Ordinary, Pruned, Library, Proof, Update}
use Rattle.cd_cell.specs.declared.cell_fault.CellFault.{CellFault}
use Rattle.cd_cell.specs.declared.cell_fault.CellFault.TheVariants.{Short, Refs, Length, PrunedMask, MerkleHash, MerkleDepth, DepthBig}
use Rattle.cd_cell.specs.Masks.{bit_count}
use Rattle.cd_cell.specs.BitText.{data_of}
use Rattle.cd_cell.specs.Infos.{info_hash, info_depth}
use Rattle.cd_cell.specs.FaceView.{FaceView}
use Rattle.cd_cell.specs.Levels.{exotic_kind, kind_of_face, mask_by_kind, mask_of_face, stated_hash, depth_of_face}
use Rattle.cd_cell.specs.Equality.{same_hash-Decides}
use Rattle.cd_cell.specs.CellFaults.{first_byte, second_byte, unless, kid_at, stated_depth_of_kid, states_hash, hash_fault, depth_fault, refs_fault, bits_fault, mask_fault, exotic_fault, fault_of_kind, form_fault, greatest_depth, face_fault}
use Rattle.cd_cell.specs.Fit.{IsPrunedFace, IsLibraryFace, IsProofFace, IsUpdateFace, StatesKid, IsFaceFit}
use Rattle.cd_cell.proofs.BitLemmas.{length-data_of}

pub mask_of_face-pruned : (f : FaceView) → kind_of_face f ≡ Some Pruned → mask_of_face f ≡ second_byte f
mask_of_face-pruned f kind = ap (λ k. mask_by_kind k (data_of f.bits) f.kids) kind

-- the data of a pruned branch: the type, the mask, and 34 bytes for each level that it states
pub length-pruned_data : (f : FaceView) (mask : ℕ) → mask_of_face f ≡ mask → kind_of_face f ≡ Some Pruned → IsPrunedFace f → length (data_of f.bits) ≡ 2 + 34 * bit_count mask
length-pruned_data f mask is kind fit =
    let second : second_byte f ≡ mask = rw (mask_of_face-pruned f kind) at is in
    let bits : length f.bits ≡ 16 + 272 * bit_count mask = rw second at fit.bits in
    omega (arith, bits, length-data_of f.bits)

-- ---- no fault and fit are one

or_none : (a b : Option CellFault) → option_or a b ≡ None → (a ≡ None) × (b ≡ None)
or_none None b h = (refl, h)
or_none (Some fault) b h = absurd cc

none_or : (a b : Option CellFault) → a ≡ None → b ≡ None → option_or a b ≡ None
none_or None b h k = k
none_or (Some fault) b h k = absurd cc

holds_from_unless : (holds : Bool) (fault : CellFault) → unless holds fault ≡ None → holds ≡ true
holds_from_unless true fault h = refl
holds_from_unless false fault h = absurd cc

unless_holds : (holds : Bool) (fault : CellFault) → holds ≡ true → unless holds fault ≡ None
unless_holds true fault h = refl
unless_holds false fault h = absurd cc

-- an exotic cell without a fault of form, by its flag, whether it is short, and its type
exotic_none_by : (f : FaceView) (exotic short : Bool) (named : Option Kind) →
    (if not exotic then None else if short then Some Short else fault_of_kind named f) ≡ None →
    (kind : Kind) → (if exotic then (if short then None else named) else Some Ordinary) ≡ Some kind → kind ≢ Ordinary → exotic_fault kind f ≡ None
exotic_none_by f false short named h kind is other = absurd (other cc)
exotic_none_by f true true named h kind is other = absurd cc
exotic_none_by f true false None h kind is other = absurd cc
exotic_none_by f true false (Some k) h kind is other =
    let same : k ≡ kind = cc in rw (← same) h

exotic_none : (f : FaceView) → form_fault f ≡ None → (kind : Kind) → kind_of_face f ≡ Some kind → kind ≢ Ordinary → exotic_fault kind f ≡ None
exotic_none f h kind is other = exotic_none_by f f.exotic (nat_lt (length f.bits) 8) (exotic_kind (first_byte f)) h kind is other

known_by : (f : FaceView) (exotic short : Bool) (named : Option Kind) →
    (if not exotic then None else if short then Some Short else fault_of_kind named f) ≡ None →
    (if exotic then (if short then None else named) else Some Ordinary) ≢ None
known_by f false short named h = λ is. absurd cc
known_by f true true named h = absurd cc
known_by f true false None h = absurd cc
known_by f true false (Some kind) h = λ is. absurd cc

-- what no fault tells of the tests
refs_from_none : (due : ℕ) (f : FaceView) → refs_fault due f ≡ None → length f.kids ≡ due
refs_from_none due f h = eqb-true _ _ (holds_from_unless (length f.kids == due) (Refs (length f.kids)) h)

bits_from_none : (due : ℕ) (f : FaceView) → bits_fault due f ≡ None → length f.bits ≡ due
bits_from_none due f h = eqb-true _ _ (holds_from_unless (length f.bits == due) (Length (length f.bits)) h)

StatesKid_from_none : (f : FaceView) (place : ℕ) → hash_fault f place ≡ None → depth_fault f place ≡ None → StatesKid f place
StatesKid_from_none f place h d =
    let same = same_hash-Decides (stated_hash f (1 + 32 * place)) (info_hash (kid_at f place) 0) in
    record {
      hash = same.0 (holds_from_unless (states_hash f place) (MerkleHash place) h);
      depth = eqb-true _ _ (holds_from_unless (stated_depth_of_kid f place == info_depth (kid_at f place) 0) (MerkleDepth place) d);
    }

mask_from_none : (f : FaceView) → mask_fault Pruned f ≡ None → (length f.bits < 16) ⊎ ((1 ≤ second_byte f) × (second_byte f ≤ 7))
mask_from_none f h =
    ⊎_elim (λ short. inl (ltb-true _ _ short))
    (λ both. let parts = and_parts _ _ both in inr (leb-true _ _ parts.0, leb-true _ _ parts.1))
    (or_cases (nat_lt (length f.bits) 16) _ (holds_from_unless _ (PrunedMask (second_byte f)) h))

IsPrunedFace_from_none : (f : FaceView) → exotic_fault Pruned f ≡ None → IsPrunedFace f
IsPrunedFace_from_none f h =
    let refs = or_none (refs_fault 0 f) _ h in
    let mask = or_none (mask_fault Pruned f) _ refs.1 in
    let bits = or_none (bits_fault (16 + 272 * bit_count (second_byte f)) f) _ mask.1 in
    let counted = bits_from_none (16 + 272 * bit_count (second_byte f)) f bits.0 in
    let levels : (1 ≤ second_byte f) × (second_byte f ≤ 7) = ⊎_elim (λ short. absurd (omega (arith, short, counted))) (λ both. both) (mask_from_none f mask.0) in
    record { refs = refs_from_none 0 f refs.0; some_level = levels.0; three_levels = levels.1; bits = counted }

IsLibraryFace_from_none : (f : FaceView) → exotic_fault Library f ≡ None → IsLibraryFace f
IsLibraryFace_from_none f h =
    let refs = or_none (refs_fault 0 f) _ h in
    let bits = or_none (bits_fault 264 f) _ refs.1 in
    record { refs = refs_from_none 0 f refs.0; bits = bits_from_none 264 f bits.0 }

IsProofFace_from_none : (f : FaceView) → exotic_fault Proof f ≡ None → IsProofFace f
IsProofFace_from_none f h =
    let refs = or_none (refs_fault 1 f) _ h in
    let bits = or_none (bits_fault 280 f) _ refs.1 in
    let kid = or_none (hash_fault f 0) (depth_fault f 0) bits.1 in
    record { refs = refs_from_none 1 f refs.0; bits = bits_from_none 280 f bits.0; kid = StatesKid_from_none f 0 kid.0 kid.1 }

IsUpdateFace_from_none : (f : FaceView) → exotic_fault Update f ≡ None → IsUpdateFace f
IsUpdateFace_from_none f h =
    let refs = or_none (refs_fault 2 f) _ h in
    let bits = or_none (bits_fault 552 f) _ refs.1 in
    let both = or_none (option_or (hash_fault f 0) (hash_fault f 1)) (option_or (depth_fault f 0) (depth_fault f 1)) bits.1 in
    let hashes = or_none (hash_fault f 0) (hash_fault f 1) both.0 in
    let depths = or_none (depth_fault f 0) (depth_fault f 1) both.1 in
    record {
      refs = refs_from_none 2 f refs.0;
      bits = bits_from_none 552 f bits.0;
      before = StatesKid_from_none f 0 hashes.0 depths.0;
      after = StatesKid_from_none f 1 hashes.1 depths.1;
    }

greatest-le : (a b c d m : ℕ) → max (max a b) (max c d) ≤ m → (a ≤ m) × (b ≤ m) × (c ≤ m) × (d ≤ m)
greatest-le a b c d m h = (omega arith, omega arith, omega arith, omega arith)

depths_from_greatest : (f : FaceView) → greatest_depth f ≤ 1024 → (l : ℕ) → l ≤ 3 → depth_of_face f l ≤ 1024
depths_from_greatest f h zero below = (greatest-le (depth_of_face f 0) (depth_of_face f 1) (depth_of_face f 2) (depth_of_face f 3) 1024 h).0
depths_from_greatest f h (suc zero) below = (greatest-le (depth_of_face f 0) (depth_of_face f 1) (depth_of_face f 2) (depth_of_face f 3) 1024 h).1
depths_from_greatest f h (suc (suc zero)) below = (greatest-le (depth_of_face f 0) (depth_of_face f 1) (depth_of_face f 2) (depth_of_face f 3) 1024 h).2
depths_from_greatest f h (suc (suc (suc zero))) below = (greatest-le (depth_of_face f 0) (depth_of_face f 1) (depth_of_face f 2) (depth_of_face f 3) 1024 h).3
depths_from_greatest f h (suc (suc (suc (suc l)))) below = absurd (omega arith)

-- a face without a fault of form, and of no depth over 1024
pub IsFaceFit_from : (f : FaceView) → form_fault f ≡ None → greatest_depth f ≤ 1024 → IsFaceFit f
IsFaceFit_from f h deep = record {
  known = known_by f f.exotic (nat_lt (length f.bits) 8) (exotic_kind (first_byte f)) h;
  pruned = λ is. IsPrunedFace_from_none f (exotic_none f h Pruned is (λ e. absurd cc));
  library = λ is. IsLibraryFace_from_none f (exotic_none f h Library is (λ e. absurd cc));
  proof = λ is. IsProofFace_from_none f (exotic_none f h Proof is (λ e. absurd cc));
  update = λ is. IsUpdateFace_from_none f (exotic_none f h Update is (λ e. absurd cc));
  depths = depths_from_greatest f deep;
}

exotic_kind-ordinary : (byte : ℕ) → exotic_kind byte ≢ Some Ordinary
exotic_kind-ordinary byte = by_tests (byte == 1) (byte == 2) (byte == 3) (byte == 4)
  where
    by_tests : (a b c d : Bool) → (if a then Some Pruned else if b then Some Library else if c then Some Proof else if d then Some Update else None) ≢ Some Ordinary
    by_tests true b c d = λ is. absurd cc
    by_tests false true c d = λ is. absurd cc
    by_tests false false true d = λ is. absurd cc
    by_tests false false false true = λ is. absurd cc
    by_tests false false false false = λ is. absurd cc

refs_none : (due : ℕ) (f : FaceView) → length f.kids ≡ due → refs_fault due f ≡ None
refs_none due f h = unless_holds (length f.kids == due) (Refs (length f.kids)) (eq-eqb _ _ h)

bits_none : (due : ℕ) (f : FaceView) → length f.bits ≡ due → bits_fault due f ≡ None
bits_none due f h = unless_holds (length f.bits == due) (Length (length f.bits)) (eq-eqb _ _ h)

hash_none : (f : FaceView) (place : ℕ) → StatesKid f place → hash_fault f place ≡ None
hash_none f place kid =
    let same = same_hash-Decides (stated_hash f (1 + 32 * place)) (info_hash (kid_at f place) 0) in
    unless_holds (states_hash f place) (MerkleHash place) (same.1 kid.hash)

depth_none : (f : FaceView) (place : ℕ) → StatesKid f place → depth_fault f place ≡ None
depth_none f place kid = unless_holds (stated_depth_of_kid f place == info_depth (kid_at f place) 0) (MerkleDepth place) (eq-eqb _ _ kid.depth)

-- a face that is fit has no fault of its kind
exotic_fault-fit : (f : FaceView) (kind : Kind) → kind_of_face f ≡ Some kind → kind ≢ Ordinary → IsFaceFit f → exotic_fault kind f ≡ None
exotic_fault-fit f Ordinary is exotic fit = absurd (exotic refl)
exotic_fault-fit f Pruned is exotic fit =
    let p = fit.pruned is in
    let mask : (nat_lt (length f.bits) 16 || (nat_le 1 (second_byte f) && nat_le (second_byte f) 7)) ≡ true =
    or_right _ _ (and_from _ _ (le-leb _ _ p.some_level) (le-leb _ _ p.three_levels)) in
    none_or (refs_fault 0 f) _ (refs_none 0 f p.refs)
    (none_or (mask_fault Pruned f) _ (unless_holds _ (PrunedMask (second_byte f)) mask)
    (none_or (bits_fault (16 + 272 * bit_count (second_byte f)) f) None (bits_none _ f p.bits) refl))
exotic_fault-fit f Library is exotic fit =
    let p = fit.library is in
    none_or (refs_fault 0 f) _ (refs_none 0 f p.refs) (none_or (bits_fault 264 f) None (bits_none 264 f p.bits) refl)
exotic_fault-fit f Proof is exotic fit =
    let p = fit.proof is in
    none_or (refs_fault 1 f) _ (refs_none 1 f p.refs)
    (none_or (bits_fault 280 f) _ (bits_none 280 f p.bits) (none_or (hash_fault f 0) (depth_fault f 0) (hash_none f 0 p.kid) (depth_none f 0 p.kid)))
exotic_fault-fit f Update is exotic fit =
    let p = fit.update is in
    none_or (refs_fault 2 f) _ (refs_none 2 f p.refs)
    (none_or (bits_fault 552 f) _ (bits_none 552 f p.bits)
    (none_or (option_or (hash_fault f 0) (hash_fault f 1)) (option_or (depth_fault f 0) (depth_fault f 1))
    (none_or (hash_fault f 0) (hash_fault f 1) (hash_none f 0 p.before) (hash_none f 1 p.after))
    (none_or (depth_fault f 0) (depth_fault f 1) (depth_none f 0 p.before) (depth_none f 1 p.after))))

form_none_by : (f : FaceView) (exotic short : Bool) (named : Option Kind) → named ≢ Some Ordinary →
    (if exotic then (if short then None else named) else Some Ordinary) ≢ None →
    ((kind : Kind) → (if exotic then (if short then None else named) else Some Ordinary) ≡ Some kind → kind ≢ Ordinary → exotic_fault kind f ≡ None) →
    (if not exotic then None else if short then Some Short else fault_of_kind named f) ≡ None
form_none_by f false short named other known fits = refl
form_none_by f true true named other known fits = absurd (known refl)
form_none_by f true false None other known fits = absurd (known refl)
form_none_by f true false (Some kind) other known fits = fits kind refl (λ e. other (ap Some e))

greatest-max : (a b c d m : ℕ) → a ≤ m → b ≤ m → c ≤ m → d ≤ m → max (max a b) (max c d) ≤ m
greatest-max a b c d m ha hb hc hd = omega arith

pub face_fault-fit : (f : FaceView) → IsFaceFit f → face_fault f ≡ None
face_fault-fit f fit =
    let form : form_fault f ≡ None =
    form_none_by f f.exotic (nat_lt (length f.bits) 8) (exotic_kind (first_byte f)) (exotic_kind-ordinary (first_byte f)) fit.known
    (λ kind is exotic. exotic_fault-fit f kind is exotic fit) in
    let deep : greatest_depth f ≤ 1024 =
    greatest-max (depth_of_face f 0) (depth_of_face f 1) (depth_of_face f 2) (depth_of_face f 3) 1024 (fit.depths 0 (omega arith)) (fit.depths 1 (omega arith)) (fit.depths 2 (omega arith)) (fit.depths 3 (omega arith)) in
    none_or (form_fault f) _ form (unless_holds (nat_le (greatest_depth f) 1024) (DepthBig (greatest_depth f)) (le-leb _ _ deep))

pub fit_from_no_fault : (f : FaceView) → face_fault f ≡ None → IsFaceFit f
fit_from_no_fault f h =
    let both = or_none (form_fault f) (unless (nat_le (greatest_depth f) 1024) (DepthBig (greatest_depth f))) h in
    IsFaceFit_from f both.0 (leb-true _ _ (holds_from_unless (nat_le (greatest_depth f) 1024) (DepthBig (greatest_depth f)) both.1))
