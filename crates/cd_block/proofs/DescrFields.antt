-- A field that is read is the field that was written, and what was written is read again.
use Rattle.std.proofs.Common.{◌≡◌, ℕ, zero, suc, ◌≤◌, Bool, true, false, cond, ltb, eqb, List, [], ◌∷◌, ◌++◌, length, subst, take, drop, Result, Ok, Err, refl, sym, ap, ◌∙◌, append_assoc, arith}
use Rattle.std.specs.List.{flat_map, AllByRecursion}
use Rattle.std.specs.Int.{w16, to_be_bytes, from_be_bytes}
use Rattle.std.proofs.lemmas.Bool.{eqb-true, ltb-false, le-ltb}
use Rattle.std.proofs.lemmas.List.{take_at, drop_at, take-append-drop, length-append, length-take}
use Rattle.std.proofs.lemmas.List.Concat.{flat_map-cons}
use Rattle.std.proofs.lemmas.Nat.{be_bytes_2, from_be_bytes-to_be_bytes_2}
use Rattle.cd_block.specs.declared.block.BlockId.{BlockId}
use Rattle.cd_block.specs.declared.description.DescrFault.{DescrFault}
use Rattle.cd_block.specs.declared.description.DescrFault.TheVariants.{Version, Cut, Form}
use Rattle.cd_block.specs.Block.{IsBlockId, key_of, id_of}
use Rattle.cd_block.specs.Reading.{version_at, small_at, depth_at, id_at}
use Rattle.cd_base.specs.Numbers.{IsBytes}
use Rattle.cd_base.specs.Reading.{part_at, each_at}
use Rattle.cd_base.proofs.ReadingLaws.{by_ok, ok_is, no_fault, kept_by_test, Takes, Takes-same, part_takes, part_again, each_takes, each_again}
use Rattle.cd_block.proofs.Keys.{length-key_of, key_of-id_of, id_of-key_of, IsBlockId-id_of}

-- ---- the version

pub version_takes : (bytes rest : List ℕ) → version_at bytes ≡ Ok rest → bytes ≡ 1 ∷ rest
unfolding version_at
version_takes [] rest e = absurd cc
version_takes (v ∷ others) rest e =
    let g = kept_by_test (eqb v 1) Version others rest e in
    rw (eqb-true v 1 g.0, g.1) refl

pub version_again : (rest : List ℕ) → version_at (1 ∷ rest) ≡ Ok rest
unfolding version_at
version_again rest = refl

-- ---- a byte

pub small_takes : (most : ℕ) (bytes : List ℕ) (x : ℕ × List ℕ) → small_at most bytes ≡ Ok x → (bytes ≡ x.0 ∷ x.1) × (x.0 ≤ most)
unfolding small_at
small_takes most [] x e = absurd cc
small_takes most (b ∷ rest) x e =
    let g = no_fault (ltb most b) Form (b, rest) x e in
    rw (← g.1) (refl, ltb-false most b g.0)

pub small_again : (most byte : ℕ) (rest : List ℕ) → byte ≤ most → small_at most (byte ∷ rest) ≡ Ok (byte, rest)
unfolding small_at
small_again most byte rest le = rw (le-ltb most byte le) refl

-- ---- the depth

pub depth_takes : (bytes : List ℕ) (x : ℕ × List ℕ) → IsBytes bytes → depth_at bytes ≡ Ok x → Takes bytes (to_be_bytes w16 x.0) x.1 × (x.0 ≤ 1024)
unfolding depth_at
depth_takes bytes x fits e =
    by_ok (part_at Cut 2 bytes) _ x e (λ part e0 k0.
    let t = part_takes Cut 2 bytes part fits e0 in
    let g = no_fault (ltb 1024 (from_be_bytes w16 part.0)) Form (from_be_bytes w16 part.0, part.1) x k0 in
    let text : to_be_bytes w16 (from_be_bytes w16 part.0) ≡ part.0 = be_bytes_2 part.0 (from_be_bytes w16 part.0) t.1 t.0.text_fits refl in
    let taken : Takes bytes (to_be_bytes w16 (from_be_bytes w16 part.0)) part.1 = subst (λ (w : List ℕ). Takes bytes w part.1) (sym text) t.0 in
    subst (λ (y : ℕ × List ℕ). Takes bytes (to_be_bytes w16 y.0) y.1 × (y.0 ≤ 1024)) g.1 (taken, ltb-false 1024 (from_be_bytes w16 part.0) g.0))

depth_read : (depth : ℕ) (part rest : List ℕ) → depth ≤ 1024 → length part ≡ 2 → from_be_bytes w16 part ≡ depth → depth_at (part ++ rest) ≡ Ok (depth, rest)
unfolding depth_at
depth_read depth part rest le len is = rw (part_again Cut 2 part rest len, is, le-ltb 1024 depth le) refl

pub depth_again : (depth : ℕ) (rest : List ℕ) → depth ≤ 1024 → depth_at (to_be_bytes w16 depth ++ rest) ≡ Ok (depth, rest)
depth_again depth rest le = depth_read depth (to_be_bytes w16 depth) rest le refl (from_be_bytes-to_be_bytes_2 depth (omega arith))

-- ---- ids

id_takes : (bytes : List ℕ) (x : BlockId × List ℕ) → IsBytes bytes → id_at bytes ≡ Ok x → Takes bytes (key_of x.0) x.1 × IsBlockId x.0
unfolding id_at
id_takes bytes x fits e =
    by_ok (part_at Cut 80 bytes) _ x e (λ key e0 k0.
    let t = part_takes Cut 80 bytes key fits e0 in
    let taken : Takes bytes (key_of (id_of key.0)) key.1 = Takes-same bytes key.0 (key_of (id_of key.0)) key.1 (sym (key_of-id_of key.0 t.1 t.0.text_fits)) t.0 in
    subst (λ (y : BlockId × List ℕ). Takes bytes (key_of y.0) y.1 × IsBlockId y.0) (ok_is (id_of key.0, key.1) x k0)
    (taken, IsBlockId-id_of key.0 t.1 t.0.text_fits))

id_again : (id : BlockId) (rest : List ℕ) → IsBlockId id → id_at (key_of id ++ rest) ≡ Ok (id, rest)
unfolding id_at
id_again id rest known = rw (part_again Cut 80 (key_of id) rest (length-key_of id known), id_of-key_of id known) refl

pub ids_take : (count : ℕ) (bytes : List ℕ) (x : List BlockId × List ℕ) → IsBytes bytes → each_at id_at count bytes ≡ Ok x
    → Takes bytes (flat_map key_of x.0) x.1 × (length x.0 ≡ count) × AllByRecursion IsBlockId x.0
ids_take = each_takes id_at key_of IsBlockId id_takes

pub ids_again : (ids : List BlockId) (rest : List ℕ) → AllByRecursion IsBlockId ids → each_at id_at (length ids) (flat_map key_of ids ++ rest) ≡ Ok (ids, rest)
ids_again = each_again id_at key_of IsBlockId id_again
