-- The keys of blocks: what to_key writes, and that a key has one id.
use Rattle.std.proofs.Common.{FitsSigned, rules, ◌≤◌, ◌+◌, ◌≡◌, ℕ, ℤ, ◌^◌, ◌<◌, ap, List, [], ◌++◌, length, take, drop, refl, sym, ◌∙◌, append_assoc, arith}
use Rattle.std.specs.Int.{w32, w64, to_be_bytes, from_be_bytes, cast_unsigned, cast_signed}
use Rattle.std.proofs.lemmas.Int.{of_z-to_z, to_z-of_z, ints}
use Rattle.std.proofs.lemmas.Nat.{be_bytes_4, be_bytes_8, from_be_bytes-to_be_bytes_4, from_be_bytes-to_be_bytes_8}
use Rattle.std.proofs.lemmas.List.{take_at, drop_at, length-append, length-take, length-drop, nil_from_length, append-nil, take_all}
use Rattle.std.proofs.Math.Seq.{take-add}
use Rattle.cd_block.specs.declared.block.BlockId.{BlockId}
use Rattle.cd_block.specs.Block.{IsHash, IsBlockId, key_of, shard_key, id_of}
use Rattle.cd_base.specs.Numbers.{IsBytes}
use Rattle.cd_base.proofs.NumberLaws.{IsBytes-take, IsBytes-drop}
use Rattle.cd_block.proofs.Bytes.{below_32, below_64}
use borrow.Rule.Slice.PartMut.{put_mid}

-- a write behind the front
put_mid-append : (a k : ℕ) (front rest part : List ℕ) → length front ≡ a → put_mid a k (front ++ rest) part ≡ (front ++ part) ++ drop k rest
put_mid-append a k front rest part len =
    rw (take_at front rest a len, drop_at front rest a len) (sym (append_assoc front part (drop k rest)))

-- what to_key writes, five fields one behind the other
pub key_of-written : (id : BlockId) (rest a b c d e : List ℕ) → length rest ≡ 76 → length a ≡ 4 → length b ≡ 8 → length c ≡ 4 → length d ≡ 32 → length e ≡ 32
    → a ≡ to_be_bytes w32 (cast_unsigned w32 id.shard_id.workchain) → b ≡ to_be_bytes w64 id.shard_id.shard → c ≡ to_be_bytes w32 id.seqno → d ≡ id.root.0 → e ≡ id.file.0
    → put_mid 48 32 (put_mid 16 32 (put_mid 12 4 (put_mid 4 8 (a ++ rest) b) c) d) e ≡ key_of id
unfolding key_of shard_key
key_of-written id rest a b c d e len la lb lc ld le ea eb ec ed ee =
    let two : put_mid 4 8 (a ++ rest) b ≡ (a ++ b) ++ drop 8 rest = put_mid-append 4 8 a rest b la in
    let three : put_mid 12 4 ((a ++ b) ++ drop 8 rest) c ≡ ((a ++ b) ++ c) ++ drop 4 (drop 8 rest) =
    put_mid-append 12 4 (a ++ b) (drop 8 rest) c (omega (arith, length-append a b)) in
    let four : put_mid 16 32 (((a ++ b) ++ c) ++ drop 4 (drop 8 rest)) d ≡ (((a ++ b) ++ c) ++ d) ++ drop 32 (drop 4 (drop 8 rest)) =
    put_mid-append 16 32 ((a ++ b) ++ c) (drop 4 (drop 8 rest)) d (omega (arith, length-append (a ++ b) c, length-append a b)) in
    let five : put_mid 48 32 ((((a ++ b) ++ c) ++ d) ++ drop 32 (drop 4 (drop 8 rest))) e ≡ ((((a ++ b) ++ c) ++ d) ++ e) ++ drop 32 (drop 32 (drop 4 (drop 8 rest))) =
    put_mid-append 48 32 (((a ++ b) ++ c) ++ d) (drop 32 (drop 4 (drop 8 rest))) e (omega (arith, length-append ((a ++ b) ++ c) d, length-append (a ++ b) c, length-append a b)) in
    let none : drop 32 (drop 32 (drop 4 (drop 8 rest))) ≡ [] = nil_from_length (drop 32 (drop 32 (drop 4 (drop 8 rest)))) (simp length-drop (omega arith)) in
    let all : put_mid 48 32 (put_mid 16 32 (put_mid 12 4 (put_mid 4 8 (a ++ rest) b) c) d) e ≡ (((a ++ b) ++ c) ++ d) ++ e =
    rw (two, three, four, five, none) (append-nil ((((a ++ b) ++ c) ++ d) ++ e)) in
    all ∙ rw (ea, eb, ec, ed, ee) refl

pub length-key_of : (id : BlockId) → IsBlockId id → length (key_of id) ≡ 80
unfolding key_of shard_key
length-key_of id h = omega (arith, length-append (shard_key id.shard_id ++ to_be_bytes w32 id.seqno ++ id.root.0) id.file.0, length-append (shard_key id.shard_id ++ to_be_bytes w32 id.seqno) id.root.0, h.root.len, h.file.len)

same_parts : (a a' b b' c c' d e : List ℕ) → a ≡ a' → b ≡ b' → c ≡ c' → (((a ++ b) ++ c) ++ d) ++ e ≡ (((a' ++ b') ++ c') ++ d) ++ e
same_parts a a' b b' c c' d e ea eb ec = rw (ea, eb, ec) refl

-- the key of the id that some bytes name is those bytes
pub key_of-id_of : (key : List ℕ) → length key ≡ 80 → IsBytes key → key_of (id_of key) ≡ key
unfolding key_of shard_key id_of
key_of-id_of key len bytes =
    let wc = from_be_bytes w32 (take 4 key) in
    let small : wc < 2 ^ 32 = below_32 (take 4 key) (IsBytes-take 4 key bytes) in
    let a : to_be_bytes w32 (cast_unsigned w32 (cast_signed w32 wc)) ≡ take 4 key = ap (to_be_bytes w32) (of_z-to_z w32 wc small) ∙ be_bytes_4 (take 4 key) wc (omega (arith, length-take 4 key)) (IsBytes-take 4 key bytes) refl in
    let b : to_be_bytes w64 (from_be_bytes w64 (take 8 (drop 4 key))) ≡ take 8 (drop 4 key) = be_bytes_8 (take 8 (drop 4 key)) _ (omega (arith, length-take 8 (drop 4 key), length-drop 4 key)) (IsBytes-take 8 (drop 4 key) (IsBytes-drop 4 key bytes)) refl in
    let c : to_be_bytes w32 (from_be_bytes w32 (take 4 (drop 12 key))) ≡ take 4 (drop 12 key) = be_bytes_4 (take 4 (drop 12 key)) _ (omega (arith, length-take 4 (drop 12 key), length-drop 12 key)) (IsBytes-take 4 (drop 12 key) (IsBytes-drop 12 key bytes)) refl in
    let parts : ((((take 4 key ++ take 8 (drop 4 key)) ++ take 4 (drop 12 key)) ++ take 32 (drop 16 key)) ++ take 32 (drop 48 key)) ≡ key =
    rw (← take-add 4 8 key, ← take-add 12 4 key, ← take-add 16 32 key, ← take-add 48 32 key) (take_all 80 key (omega (arith, len))) in
    same_parts _ _ _ _ _ _ (take 32 (drop 16 key)) (take 32 (drop 48 key)) a b c ∙ parts

abbrev made : ℤ → ℕ → ℕ → List ℕ → List ℕ → BlockId
made workchain shard seqno root file = record {
  shard_id = record { workchain = workchain; shard = shard };
  seqno = seqno;
  root = record { 0 = root };
  file = record { 0 = file };
}

same_made : (w w' : ℤ) (s s' n n' : ℕ) (r r' f f' : List ℕ) → w ≡ w' → s ≡ s' → n ≡ n' → r ≡ r' → f ≡ f' → made w s n r f ≡ made w' s' n' r' f'
same_made w w' s s' n n' r r' f f' ew es en er ef = rw (ew, es, en, er, ef) refl

-- the id that the key of an id names is that id
pub id_of-key_of : (id : BlockId) → IsBlockId id → id_of (key_of id) ≡ id
unfolding key_of shard_key id_of
id_of-key_of id h =
    let bits = cast_unsigned w32 id.shard_id.workchain in
    let small : bits < 2 ^ 32 = omega (arith, ints) in
    let workchain : cast_signed w32 (from_be_bytes w32 (to_be_bytes w32 bits)) ≡ id.shard_id.workchain =
    ap (cast_signed w32) (from_be_bytes-to_be_bytes_4 bits small) ∙ to_z-of_z w32 id.shard_id.workchain h.shard_id.workchain in
    same_made _ _ _ _ _ _ _ _ _ _ workchain (from_be_bytes-to_be_bytes_8 id.shard_id.shard h.shard_id.shard) (from_be_bytes-to_be_bytes_4 id.seqno h.seqno)
    (take_at id.root.0 id.file.0 32 h.root.len) (ap (take 32) (drop_at id.root.0 id.file.0 32 h.root.len) ∙ take_all 32 id.file.0 (omega (arith, h.file.len)))

-- a key has one id
pub key_of_injective : (a b : BlockId) → IsBlockId a → IsBlockId b → key_of a ≡ key_of b → a ≡ b
key_of_injective a b ha hb e = sym (id_of-key_of a ha) ∙ ap id_of e ∙ id_of-key_of b hb

-- the number that four bytes stand for in two's complement
fits_signed_32 : (n : ℕ) → n < 2 ^ 32 → FitsSigned w32 (cast_signed w32 n)
fits_signed_32 n small = search (rules, ints)

IsHash-part : (key : List ℕ) (n : ℕ) → n + 32 ≤ length key → IsBytes key → IsHash (record { 0 = take 32 (drop n key) })
IsHash-part key n len bytes = record {
  len = omega (arith, length-take 32 (drop n key), length-drop n key);
  bytes = IsBytes-take 32 (drop n key) (IsBytes-drop n key bytes);
}

-- what 80 bytes name is an id
pub IsBlockId-id_of : (key : List ℕ) → length key ≡ 80 → IsBytes key → IsBlockId (id_of key)
unfolding id_of
IsBlockId-id_of key len bytes = record {
  shard_id = record {
    workchain = fits_signed_32 (from_be_bytes w32 (take 4 key)) (below_32 (take 4 key) (IsBytes-take 4 key bytes));
    shard = below_64 (take 8 (drop 4 key)) (IsBytes-take 8 (drop 4 key) (IsBytes-drop 4 key bytes));
  };
  seqno = below_32 (take 4 (drop 12 key)) (IsBytes-take 4 (drop 12 key) (IsBytes-drop 12 key bytes));
  root = IsHash-part key 16 (omega (arith, len)) bytes;
  file = IsHash-part key 48 (omega (arith, len)) bytes;
}
