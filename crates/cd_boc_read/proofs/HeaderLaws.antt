-- The header of a bag that is read is the header that was written, and what was written is read again.
use Rattle.std.proofs.Common.{◌≡◌, ℕ, zero, suc, ◌+◌, ◌*◌, ◌/◌, ◌%◌, ◌^◌, ◌<◌, ◌≤◌, Bool, true, false, not, ◌&&◌, ◌||◌, cond, eqb, leb, ltb, List, [], ◌∷◌, ◌++◌, length, get_or, subst, Ok, Err, refl, sym, ap, ◌∙◌, append_assoc, arith}
use Rattle.std.proofs.lemmas.Bool.{eqb-true, leb-true, le-leb, ltb-true, lt-ltb}
use Rattle.cd_base.specs.Numbers.{IsBytes, big}
use Rattle.cd_boc_write.specs.declared.shape.Shape.{Shape}
use Rattle.cd_boc_write.specs.Frames.{flags_of, numbers_text, shape_text, counts_text}
use Rattle.cd_boc_read.specs.declared.bag_fault.BagFault.{BagFault}
use Rattle.cd_boc_read.specs.declared.bag_fault.BagFault.TheVariants.{Magic, Flags, Sizes, Roots, Absent, Limit, RootIndex}
use Rattle.cd_boc_read.specs.declared.counts.Counts.{Counts}
use Rattle.cd_boc_read.specs.Grammar.{IsShape}
use Rattle.cd_boc_read.specs.Reading.{numbers_at, shape_of, are_flags, are_sizes, shape_at, counts_at, are_cells, roots_at}
use Rattle.cd_base.specs.Reading.{number_at, byte_at}
use Rattle.cd_boc_read.proofs.NumberFields.{both, shape_is}
use Rattle.cd_boc_read.proofs.FlagBits.{flag_value, bit, bit-lt, bit-back, bit-times}
use Rattle.cd_boc_read.proofs.FieldLaws.{numbers_take, numbers_again}
use Rattle.cd_base.proofs.ReadingLaws.{ok_is, by_ok, by_test, Takes, Takes-then, Takes-same, byte_takes, byte_again, Takes-byte, big-one, number_takes, number_again}

-- ---- the flag byte

flags_sum : (flags : ℕ) → flags < 256 → flags / 8 % 4 ≡ 0 → flags % 8 + 32 * (flags / 32 % 2) + 64 * (flags / 64 % 2) + 128 * (flags / 128 % 2) ≡ flags
flags_sum flags small zeros = omega arith

pub flags_of-shape_of : (flags off_bytes : ℕ) → flags < 256 → are_flags flags ≡ true → flags_of (shape_of flags off_bytes) ≡ flags
unfolding are_flags shape_of
flags_of-shape_of flags off_bytes small known =
    let f = both (eqb (flags / 8 % 4) 0) (not (eqb (flags / 32 % 2) 1) || eqb (flags / 128 % 2) 1) known in
    rw (flag_value (flags / 32 % 2) 32 (omega arith), flag_value (flags / 64 % 2) 64 (omega arith), flag_value (flags / 128 % 2) 128 (omega arith))
    (flags_sum flags small (eqb-true (flags / 8 % 4) 0 f.0))

flags_is : (s : Shape) → flags_of s ≡ s.size + 32 * bit s.has_cache_bits + 64 * bit s.has_crc + 128 * bit s.has_index
flags_is s = rw (bit-times s.has_cache_bits 32, bit-times s.has_crc 64, bit-times s.has_index 128) refl

record AreParts (flags size cache crc index : ℕ) : Type 0 where
  small : flags < 256
  size_is : flags % 8 ≡ size
  zeros : flags / 8 % 4 ≡ 0
  cache_is : flags / 32 % 2 ≡ cache
  crc_is : flags / 64 % 2 ≡ crc
  index_is : flags / 128 % 2 ≡ index

parts_of : (size cache crc index : ℕ) → size < 8 → cache < 2 → crc < 2 → index < 2 → AreParts (size + 32 * cache + 64 * crc + 128 * index) size cache crc index
parts_of size cache crc index a b c d = record {
  small = omega arith;
  size_is = omega arith;
  zeros = omega arith;
  cache_is = omega arith;
  crc_is = omega arith;
  index_is = omega arith;
}

flags_parts : (s : Shape) → IsShape s → AreParts (flags_of s) s.size (bit s.has_cache_bits) (bit s.has_crc) (bit s.has_index)
flags_parts s h =
    rw flags_is (parts_of s.size (bit s.has_cache_bits) (bit s.has_crc) (bit s.has_index) (omega (arith, h.most_size)) (bit-lt s.has_cache_bits) (bit-lt s.has_crc) (bit-lt s.has_index))

pub shape_of-flags_of : (s : Shape) → IsShape s → shape_of (flags_of s) s.off_bytes ≡ s
unfolding shape_of
shape_of-flags_of s h =
    let p = flags_parts s h in
    rw (p.size_is, p.cache_is, p.crc_is, p.index_is, bit-back s.has_cache_bits, bit-back s.has_crc, bit-back s.has_index) refl

implied : (cache index : Bool) → (cache ≡ true → index ≡ true) → (not cache || index) ≡ true
implied true index h = h refl
implied false index h = refl

joined : (a b : Bool) → a ≡ true → b ≡ true → (a && b) ≡ true
joined a b p q = rw (p, q) refl

pub flags_known : (s : Shape) → IsShape s → are_flags (flags_of s) ≡ true
unfolding are_flags
flags_known s h =
    let p = flags_parts s h in
    rw (p.zeros, p.cache_is, p.index_is, bit-back s.has_cache_bits, bit-back s.has_index) (implied s.has_cache_bits s.has_index h.cache)

pub sizes_known : (s : Shape) → IsShape s → are_sizes (flags_of s % 8) s.off_bytes ≡ true
unfolding are_sizes
sizes_known s h =
    let p = flags_parts s h in
    rw (p.size_is, le-leb 1 s.size h.some_size, le-leb s.size 4 h.most_size, le-leb 1 s.off_bytes h.some_off_bytes, le-leb s.off_bytes 8 h.most_off_bytes) refl

-- ---- the shape

pub shape_takes : (cut : BagFault) (bytes : List ℕ) (x : Shape × List ℕ) → IsBytes bytes → shape_at cut bytes ≡ Ok x → Takes bytes (shape_text x.0) x.1 × IsShape x.0
unfolding shape_at shape_of
shape_takes cut bytes x fits e =
    by_ok (number_at cut 4 bytes) _ x e (λ magic e0 k0.
    by_test (eqb magic.0 0xb5ee9c72) (Magic magic.0) _ x k0 (λ is_magic k1.
    by_ok (byte_at cut magic.1) _ x k1 (λ flags e2 k2.
    by_ok (byte_at cut flags.1) _ x k2 (λ off_bytes e3 k3.
    by_test (are_flags flags.0) (Flags flags.0) _ x k3 (λ known k4.
    by_test (are_sizes (flags.0 % 8) off_bytes.0) (Sizes (flags.0 % 8) off_bytes.0) _ x k4 (λ sized k5.
    let t0 = number_takes cut 4 bytes magic fits e0 in
    let b1 = byte_takes cut magic.1 flags t0.0.rest_fits e2 in
    let t1 = Takes-byte magic.1 flags.0 flags.1 b1 in
    let t2 = Takes-byte flags.1 off_bytes.0 off_bytes.1 (byte_takes cut flags.1 off_bytes b1.rest_fits e3) in
    let first : Takes bytes (big 4 0xb5ee9c72) magic.1 = Takes-same bytes (big 4 magic.0) (big 4 0xb5ee9c72) magic.1 (ap (big 4) (eqb-true magic.0 0xb5ee9c72 is_magic)) t0.0 in
    let second : Takes magic.1 (big 1 (flags_of (shape_of flags.0 off_bytes.0))) flags.1 =
    Takes-same magic.1 (big 1 flags.0) (big 1 (flags_of (shape_of flags.0 off_bytes.0))) flags.1 (ap (big 1) (sym (flags_of-shape_of flags.0 off_bytes.0 b1.small known))) t1
    in
    let two = Takes-then bytes (big 4 0xb5ee9c72) magic.1 (big 1 (flags_of (shape_of flags.0 off_bytes.0))) flags.1 first second in
    let all : Takes bytes (shape_text (shape_of flags.0 off_bytes.0)) off_bytes.1 =
    Takes-then bytes (big 4 0xb5ee9c72 ++ big 1 (flags_of (shape_of flags.0 off_bytes.0))) flags.1 (big 1 off_bytes.0) off_bytes.1 two t2
    in
    subst (λ (y : Shape × List ℕ). Takes bytes (shape_text y.0) y.1 × IsShape y.0) (ok_is (shape_of flags.0 off_bytes.0, off_bytes.1) x k5)
    (all, shape_is flags.0 off_bytes.0 known sized)))))))

three : (a b c rest : List ℕ) → (a ++ b ++ c) ++ rest ≡ a ++ (b ++ (c ++ rest))
three a b c rest = simp append_assoc

magic_fits : 0xb5ee9c72 < 256 ^ 4
magic_fits = omega arith

shape_read : (cut : BagFault) (flags off_bytes : ℕ) (rest : List ℕ) → flags < 256 → off_bytes < 256 → are_flags flags ≡ true → are_sizes (flags % 8) off_bytes ≡ true
    → shape_at cut (big 4 0xb5ee9c72 ++ (big 1 flags ++ (big 1 off_bytes ++ rest))) ≡ Ok (shape_of flags off_bytes, rest)
unfolding shape_at
shape_read cut flags off_bytes rest fl fo known sized =
    rw (
      number_again cut 4 0xb5ee9c72 (big 1 flags ++ (big 1 off_bytes ++ rest)) magic_fits,
      big-one flags fl,
      byte_again cut flags (big 1 off_bytes ++ rest),
      big-one off_bytes fo,
      byte_again cut off_bytes rest,
      known,
      sized,
    ) refl

pub shape_again : (cut : BagFault) (s : Shape) (rest : List ℕ) → IsShape s → shape_at cut (shape_text s ++ rest) ≡ Ok (s, rest)
shape_again cut s rest h =
    ap (shape_at cut) (three (big 4 0xb5ee9c72) (big 1 (flags_of s)) (big 1 s.off_bytes) rest)
    ∙ shape_read cut (flags_of s) s.off_bytes rest (omega (arith, (flags_parts s h).small)) (omega (arith, h.most_off_bytes)) (flags_known s h) (sizes_known s h)
    ∙ ap (λ (shape : Shape). Ok (shape, rest)) (shape_of-flags_of s h)

-- ---- the counts

pub record AreCounts (s : Shape) (cells roots total : ℕ) : Type 0 where
  pub cells_fit : cells < 256 ^ s.size
  pub few_cells : cells ≤ 1048576
  pub some_roots : 1 ≤ roots
  pub few_roots : roots ≤ cells
  pub total_fits : total < 256 ^ s.off_bytes

pub counts_take : (cut : BagFault) (s : Shape) (bytes : List ℕ) (x : Counts × List ℕ) → IsBytes bytes → counts_at cut s bytes ≡ Ok x
    → Takes bytes (counts_text s x.0.cells x.0.roots x.0.total) x.1 × AreCounts s x.0.cells x.0.roots x.0.total
unfolding counts_at
counts_take cut s bytes x fits e =
    by_ok (number_at cut s.size bytes) _ x e (λ cells e0 k0.
    by_ok (number_at cut s.size cells.1) _ x k0 (λ roots e1 k1.
    by_ok (number_at cut s.size roots.1) _ x k1 (λ absent e2 k2.
    by_ok (number_at cut s.off_bytes absent.1) _ x k2 (λ total e3 k3.
    by_test (leb 1 roots.0 && leb roots.0 cells.0) (Roots roots.0 cells.0) _ x k3 (λ rooted k4.
    by_test (eqb absent.0 0) (Absent absent.0) _ x k4 (λ none k5.
    by_test (leb cells.0 1048576) (Limit cells.0) _ x k5 (λ few k6.
    let t0 = number_takes cut s.size bytes cells fits e0 in
    let t1 = number_takes cut s.size cells.1 roots t0.0.rest_fits e1 in
    let t2 = number_takes cut s.size roots.1 absent t1.0.rest_fits e2 in
    let t3 = number_takes cut s.off_bytes absent.1 total t2.0.rest_fits e3 in
    let third : Takes roots.1 (big s.size 0) absent.1 = Takes-same roots.1 (big s.size absent.0) (big s.size 0) absent.1 (ap (big s.size) (eqb-true absent.0 0 none)) t2.0 in
    let two = Takes-then bytes (big s.size cells.0) cells.1 (big s.size roots.0) roots.1 t0.0 t1.0 in
    let three = Takes-then bytes (big s.size cells.0 ++ big s.size roots.0) roots.1 (big s.size 0) absent.1 two third in
    let all : Takes bytes (counts_text s cells.0 roots.0 total.0) total.1 =
    Takes-then bytes (big s.size cells.0 ++ big s.size roots.0 ++ big s.size 0) absent.1 (big s.off_bytes total.0) total.1 three t3.0
    in
    let r = both (leb 1 roots.0) (leb roots.0 cells.0) rooted in
    let counted : AreCounts s cells.0 roots.0 total.0 = record {
      cells_fit = t0.1;
      few_cells = leb-true cells.0 1048576 few;
      some_roots = leb-true 1 roots.0 r.0;
      few_roots = leb-true roots.0 cells.0 r.1;
      total_fits = t3.1;
    } in
    subst (λ (y : Counts × List ℕ). Takes bytes (counts_text s y.0.cells y.0.roots y.0.total) y.1 × AreCounts s y.0.cells y.0.roots y.0.total)
    (ok_is (record { cells = cells.0; roots = roots.0; total = total.0 }, total.1) x k6) (all, counted))))))))

four : (a b c d rest : List ℕ) → (a ++ b ++ c ++ d) ++ rest ≡ a ++ (b ++ (c ++ (d ++ rest)))
four a b c d rest = simp append_assoc

pub counts_again : (cut : BagFault) (s : Shape) (cells roots total : ℕ) (rest : List ℕ) → AreCounts s cells roots total
    → counts_at cut s (counts_text s cells roots total ++ rest) ≡ Ok (record { cells = cells; roots = roots; total = total }, rest)
unfolding counts_at
counts_again cut s cells roots total rest h =
    ap (counts_at cut s) (four (big s.size cells) (big s.size roots) (big s.size 0) (big s.off_bytes total) rest)
    ∙ rw (
      number_again cut s.size cells (big s.size roots ++ (big s.size 0 ++ (big s.off_bytes total ++ rest))) h.cells_fit,
      number_again cut s.size roots (big s.size 0 ++ (big s.off_bytes total ++ rest)) (omega (arith, h.few_roots, h.cells_fit)),
      number_again cut s.size 0 (big s.off_bytes total ++ rest) (omega (arith, h.cells_fit)),
      number_again cut s.off_bytes total rest h.total_fits,
      le-leb 1 roots h.some_roots,
      le-leb roots cells h.few_roots,
      le-leb cells 1048576 h.few_cells,
    ) refl

-- ---- the roots

abbrev pub AreBelow : ℕ → List ℕ → Type 0
AreBelow most ns = (p : ℕ) → p < length ns → get_or ns p 0 < most

below_more : (most n : ℕ) (ns : List ℕ) → n < most → AreBelow most ns → AreBelow most (n ∷ ns)
below_more most n ns lt h zero in' = lt
below_more most n ns lt h (suc p) in' = h p (omega arith)

first_below : (cells place n : ℕ) (ns : List ℕ) (u : Unit {0}) (b : Bool) → ltb n cells ≡ b → cond b (are_cells cells (place + 1) ns) (Err (RootIndex place)) ≡ Ok u
    → (are_cells cells (place + 1) ns ≡ Ok u → AreBelow cells ns) → AreBelow cells (n ∷ ns)
first_below cells place n ns u true is read more = below_more cells n ns (ltb-true n cells is) (more read)
first_below cells place n ns u false is read more = absurd cc

pub cells_below : (cells place : ℕ) (ns : List ℕ) (u : Unit {0}) → are_cells cells place ns ≡ Ok u → AreBelow cells ns
unfolding are_cells
cells_below cells place [] u e = λ p in'. absurd (omega arith)
cells_below cells place (n ∷ ns) u e = first_below cells place n ns u (ltb n cells) refl e (cells_below cells (place + 1) ns u)

pub below_cells : (cells place : ℕ) (ns : List ℕ) → AreBelow cells ns → are_cells cells place ns ≡ Ok tt
unfolding are_cells
below_cells cells place [] h = refl
below_cells cells place (n ∷ ns) h =
    let first : n < cells = h 0 (omega arith) in
    rw (lt-ltb n cells first) (below_cells cells (place + 1) ns (λ p in'. h (suc p) (omega arith)))

pub roots_take : (cut : BagFault) (size : ℕ) (counts : Counts) (bytes : List ℕ) (x : List ℕ × List ℕ) → IsBytes bytes → roots_at cut size counts bytes ≡ Ok x
    → Takes bytes (numbers_text size x.0) x.1 × (length x.0 ≡ counts.roots) × AreBelow counts.cells x.0
unfolding roots_at
roots_take cut size counts bytes x fits e =
    by_ok (numbers_at cut size counts.roots bytes) _ x e (λ roots e0 k0.
    by_ok (are_cells counts.cells 0 roots.0) _ x k0 (λ u e1 k1.
    let t = numbers_take cut size counts.roots bytes roots fits e0 in
    subst (λ (y : List ℕ × List ℕ). Takes bytes (numbers_text size y.0) y.1 × (length y.0 ≡ counts.roots) × AreBelow counts.cells y.0) (ok_is roots x k1)
    (t.0, t.1, cells_below counts.cells 0 roots.0 u e1)))

pub roots_again : (cut : BagFault) (size : ℕ) (counts : Counts) (roots rest : List ℕ) → length roots ≡ counts.roots → counts.cells ≤ 256 ^ size → AreBelow counts.cells roots
    → roots_at cut size counts (numbers_text size roots ++ rest) ≡ Ok (roots, rest)
unfolding roots_at
roots_again cut size counts roots rest counted fit below =
    rw (
      sym counted,
      numbers_again cut size roots rest (λ p in'. omega (arith, below p in', fit)),
      below_cells counts.cells 0 roots below,
    ) refl
