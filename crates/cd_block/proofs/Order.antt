-- Ids in order are keys in order.
use Rattle.std.proofs.Common.{append_assoc, ◌≡◌, ℕ, ℤ, pos, negsuc, zero, suc, ◌+◌, ◌-◌, ◌*◌, ◌/◌, ◌%◌, ◌^◌, ◌<◌, List, [], ◌∷◌, ◌++◌, length, refl, sym, ap, ◌∙◌, arith, true, false}
use Rattle.std.specs.declared.cmp.Ordering.{Ordering}
use Rattle.std.specs.declared.cmp.Ordering.TheVariants.{Less, Equal, Greater}
use Rattle.std.specs.Ordering.{nat_cmp, int_cmp, bool_cmp, ordering_then, MatchOrdering}
use Rattle.std.specs.Cmp.{nat_cmp_is}
use Rattle.std.specs.Cmp.Lexicographic.{slice_cmp}
use Rattle.std.specs.Int.{w32, w64, to_be_bytes, cast_unsigned, is_negative, bytes_high_first, byte_at}
use Rattle.std.specs.Prelude.{FitsSigned}
use Rattle.cd_block.specs.declared.block.BlockId.{BlockId}
use Rattle.cd_block.specs.declared.shard.ShardId.{ShardId}
use Rattle.cd_block.specs.Shard.{shard_cmp}
use Rattle.cd_block.specs.Block.{IsShardId, IsBlockId, key_of, shard_key, id_cmp}
use Rattle.std.proofs.lemmas.Bool.Decides.{nat_tests}
use Rattle.std.proofs.lemmas.Cmp.{ranked}
use Rattle.std.proofs.lemmas.Int.{ints}
use Rattle.std.proofs.lemmas.Nat.{mul-le, div-add-mod', mod-mul-add, mod_below, mul-add-lt}
use Rattle.std.proofs.Math.Nat.{pow-suc, one-le-pow}

same_shard_len : (a b : ShardId) → length (shard_key a) ≡ length (shard_key b)
unfolding shard_key
same_shard_len a b = refl

then_assoc : (o p q : Ordering) → ordering_then (ordering_then o p) q ≡ ordering_then o (ordering_then p q)
then_assoc Less p q = refl
then_assoc Equal p q = refl
then_assoc Greater p q = refl

-- lists of one length in front are compared first
slice_cmp-append : (xs ys xs' ys' : List ℕ) → length xs ≡ length ys → slice_cmp nat_cmp (xs ++ xs') (ys ++ ys') ≡ ordering_then (slice_cmp nat_cmp xs ys) (slice_cmp nat_cmp xs' ys')
slice_cmp-append [] [] xs' ys' len = refl
slice_cmp-append [] (y ∷ ys) xs' ys' len = absurd cc
slice_cmp-append (x ∷ xs) [] xs' ys' len = absurd cc
slice_cmp-append (x ∷ xs) (y ∷ ys) xs' ys' len =
    ap (ordering_then (nat_cmp x y)) (slice_cmp-append xs ys xs' ys' (omega (arith, len))) ∙ sym (then_assoc (nat_cmp x y) (slice_cmp nat_cmp xs ys) (slice_cmp nat_cmp xs' ys'))

-- of two places in rows of w, the row decides, and then the column
places : (o p : Ordering) (a b c d w : ℕ) → MatchOrdering o (a < c) (a ≡ c) (c < a) → MatchOrdering p (b < d) (b ≡ d) (d < b) → b < w → d < w
    → MatchOrdering (ordering_then o p) (a * w + b < c * w + d) (a * w + b ≡ c * w + d) (c * w + d < a * w + b)
places Less p a b c d w h k lb ld = let m = mul-le (suc a) w c w h (omega arith) in omega (arith, m)
places Greater p a b c d w h k lb ld = let m = mul-le (suc c) w a w h (omega arith) in omega (arith, m)
places Equal Less a b c d w h k lb ld = rw h (omega arith)
places Equal Equal a b c d w h k lb ld = rw h (omega arith)
places Equal Greater a b c d w h k lb ld = rw h (omega arith)

nat_cmp-places : (a b c d w : ℕ) → b < w → d < w → nat_cmp (a * w + b) (c * w + d) ≡ ordering_then (nat_cmp a c) (nat_cmp b d)
nat_cmp-places a b c d w lb ld =
    sym (nat_cmp_is (a * w + b) (c * w + d) (ordering_then (nat_cmp a c) (nat_cmp b d)) (places (nat_cmp a c) (nat_cmp b d) a b c d w (ranked a c _ refl) (ranked b d _ refl) lb ld))

spread : (a b w r : ℕ) → (a * 256 + b) * w + r ≡ a * (w * 256) + (b * w + r)
spread a b w r = omega arith

-- one more byte above w: the lowest 256 w of a number
mod-block : (n w : ℕ) → 0 < w → n % (w * 256) ≡ n / w % 256 * w + n % w
mod-block n w pos-w =
    let q = n / w in
    let low : n % w < w = mod_below n w pos-w in
    let digit : q % 256 < 256 = omega arith in
    let n-is : n ≡ q / 256 * (w * 256) + (q % 256 * w + n % w) =
    let whole : q ≡ q / 256 * 256 + q % 256 = omega arith in
    sym (div-add-mod' n w) ∙ ap (λ (x : ℕ). x * w + n % w) whole ∙ spread (q / 256) (q % 256) w (n % w) in
    let below : q % 256 * w + n % w < w * 256 = mul-add-lt (q % 256) w (n % w) 256 digit low in
    ap (λ (x : ℕ). x % (w * 256)) n-is ∙ mod-mul-add (q / 256) (w * 256) (q % 256 * w + n % w) below

-- the lowest k + 1 bytes of a number are byte k and those below it
mod-byte : (k n : ℕ) → n % 256 ^ suc k ≡ byte_at k n * 256 ^ k + n % 256 ^ k
mod-byte zero n = omega arith
mod-byte (suc k) n = ap (λ (x : ℕ). n % x) (pow-suc 256 (suc k)) ∙ mod-block n (256 ^ suc k) (omega (arith, one-le-pow (suc k) 256 (omega arith)))

byte_at-lt : (k n : ℕ) → byte_at k n < 256
byte_at-lt zero n = omega arith
byte_at-lt (suc k) n = mod_below (n / 256 ^ suc k) 256 (omega arith)

bytes-cmp : (k m n : ℕ) → slice_cmp nat_cmp (bytes_high_first k m) (bytes_high_first k n) ≡ nat_cmp (m % 256 ^ k) (n % 256 ^ k)
bytes-cmp zero m n = nat_cmp_is (m % 1) (n % 1) Equal (omega arith)
bytes-cmp (suc k) m n =
    let w = 256 ^ k in
    let pos-w : 0 < w = omega (arith, one-le-pow k 256 (omega arith)) in
    ap (ordering_then (nat_cmp (byte_at k m) (byte_at k n))) (bytes-cmp k m n)
    ∙ sym (nat_cmp-places (byte_at k m) (m % w) (byte_at k n) (n % w) w (mod_below m w pos-w) (mod_below n w pos-w))
    ∙ sym (rw (mod-byte k m, mod-byte k n) refl)

-- numbers that fit are in the order of their bytes
be_bytes-cmp_32 : (m n : ℕ) → m < 2 ^ 32 → n < 2 ^ 32 → slice_cmp nat_cmp (to_be_bytes w32 m) (to_be_bytes w32 n) ≡ nat_cmp m n
be_bytes-cmp_32 m n hm hn =
    let em : m % 256 ^ 4 ≡ m = omega arith in
    let en : n % 256 ^ 4 ≡ n = omega arith in
    bytes-cmp 4 m n ∙ rw (em, en) refl

be_bytes-cmp_64 : (m n : ℕ) → m < 2 ^ 64 → n < 2 ^ 64 → slice_cmp nat_cmp (to_be_bytes w64 m) (to_be_bytes w64 n) ≡ nat_cmp m n
be_bytes-cmp_64 m n hm hn =
    let em : m % 256 ^ 8 ≡ m = omega arith in
    let en : n % 256 ^ 8 ≡ n = omega arith in
    bytes-cmp 8 m n ∙ rw (em, en) refl

not_negative : (n : ℕ) → is_negative (pos n) ≡ false
not_negative n = grind (arith, nat_tests)

-- in two's complement the negative numbers come last
signed-cmp : (y z : ℤ) → FitsSigned w32 y → FitsSigned w32 z → ordering_then (bool_cmp (is_negative y) (is_negative z)) (int_cmp y z) ≡ nat_cmp (cast_unsigned w32 y) (cast_unsigned w32 z)
signed-cmp (pos a) (pos b) hy hz = grind (arith, nat_tests)
signed-cmp (pos a) (negsuc b) hy hz =
    ap (λ sign. ordering_then (bool_cmp sign true) Greater) (not_negative a) ∙ nat_cmp_is a (2 ^ 32 - suc b) Less (omega (arith, hy.sfits, hz.sfits))
signed-cmp (negsuc a) (pos b) hy hz =
    ap (λ sign. ordering_then (bool_cmp true sign) Less) (not_negative b) ∙ nat_cmp_is (2 ^ 32 - suc a) b Greater (omega (arith, hy.sfits, hz.sfits))
signed-cmp (negsuc a) (negsuc b) hy hz =
    let small-a : a < 2 ^ 31 = hy.sfits in
    let small-b : b < 2 ^ 31 = hz.sfits in
    grind (arith, nat_tests)

then_same : (o o' p p' : Ordering) → o ≡ o' → p ≡ p' → ordering_then o p ≡ ordering_then o' p'
then_same o o' p p' e f = rw (e, f) refl

shard_cmp_is : (a b : ShardId) → IsShardId a → IsShardId b → shard_cmp a b ≡ slice_cmp nat_cmp (shard_key a) (shard_key b)
unfolding shard_key
shard_cmp_is a b ha hb =
    let m = cast_unsigned w32 a.workchain in
    let n = cast_unsigned w32 b.workchain in
    let small-m : m < 2 ^ 32 = omega (arith, ints) in
    let small-n : n < 2 ^ 32 = omega (arith, ints) in
    let signs = bool_cmp (is_negative a.workchain) (is_negative b.workchain) in
    let chains : ordering_then signs (int_cmp a.workchain b.workchain) ≡ slice_cmp nat_cmp (to_be_bytes w32 m) (to_be_bytes w32 n) =
    signed-cmp a.workchain b.workchain ha.workchain hb.workchain ∙ sym (be_bytes-cmp_32 m n small-m small-n) in
    sym (then_assoc signs (int_cmp a.workchain b.workchain) (nat_cmp a.shard b.shard))
    ∙ then_same _ _ _ _ chains (sym (be_bytes-cmp_64 a.shard b.shard ha.shard hb.shard))
    ∙ sym (slice_cmp-append (to_be_bytes w32 m) (to_be_bytes w32 n) (to_be_bytes w64 a.shard) (to_be_bytes w64 b.shard) refl)

-- lists of four parts, of which the first three have one length on both sides
four_parts : (s q r f s' q' r' f' : List ℕ) → length s ≡ length s' → length q ≡ length q' → length r ≡ length r'
    → slice_cmp nat_cmp (((s ++ q) ++ r) ++ f) (((s' ++ q') ++ r') ++ f') ≡ ordering_then (slice_cmp nat_cmp s s') (ordering_then (slice_cmp nat_cmp q q') (ordering_then (slice_cmp nat_cmp r r') (slice_cmp nat_cmp f f')))
four_parts s q r f s' q' r' f' ls lq lr =
    let regrouped : (a b c d : List ℕ) → ((a ++ b) ++ c) ++ d ≡ a ++ (b ++ (c ++ d)) = λ a b c d. simp append_assoc in
    rw (regrouped s q r f, regrouped s' q' r' f')
    (slice_cmp-append s s' (q ++ (r ++ f)) (q' ++ (r' ++ f')) ls
    ∙ ap (ordering_then (slice_cmp nat_cmp s s')) (slice_cmp-append q q' (r ++ f) (r' ++ f') lq
    ∙ ap (ordering_then (slice_cmp nat_cmp q q')) (slice_cmp-append r r' f f' lr)))

pub id_cmp_is : (a b : BlockId) → IsBlockId a → IsBlockId b → id_cmp a b ≡ slice_cmp nat_cmp (key_of a) (key_of b)
unfolding key_of
id_cmp_is a b ha hb =
    then_same _ _ _ _ (shard_cmp_is a.shard_id b.shard_id ha.shard_id hb.shard_id)
    (ap (λ q. ordering_then q (ordering_then (slice_cmp nat_cmp a.root.0 b.root.0) (slice_cmp nat_cmp a.file.0 b.file.0))) (sym (be_bytes-cmp_32 a.seqno b.seqno ha.seqno hb.seqno)))
    ∙ sym (four_parts (shard_key a.shard_id) (to_be_bytes w32 a.seqno) a.root.0 a.file.0 (shard_key b.shard_id) (to_be_bytes w32 b.seqno) b.root.0 b.file.0 (same_shard_len a.shard_id b.shard_id) refl (ha.root.len ∙ sym hb.root.len))
