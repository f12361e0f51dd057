-- The frame that is read is the frame that was written, and what was written is read again.
use Rattle.std.proofs.Common.{◌≡◌, ℕ, zero, suc, ◌+◌, ◌-◌, ◌*◌, ◌/◌, ◌%◌, ◌^◌, ◌<◌, Bool, true, false, cond, eqb, List, [], ◌∷◌, ◌++◌, length, take, subst, fold, bit_xor, Ok, refl, sym, ap, ap₂, ◌∙◌, append_assoc, arith}
use Rattle.std.proofs.lemmas.Bool.{eqb-true, eq-eqb}
use Rattle.std.proofs.lemmas.List.{take_at, append-nil, length-append, nil_from_length}
use Rattle.std.proofs.lemmas.Nat.{xor_lt}
use Rattle.cd_base.specs.Numbers.{IsBytes, little, from_little}
use Rattle.cd_base.specs.Checksum.{crc32c, crc_bits, crc_bit, crc_byte}
use Rattle.cd_base.proofs.NumberLaws.{length-little, from_little-little, little-from_little}
use Rattle.cd_boc_write.specs.Frames.{numbers_text, shape_text, counts_text}
use Rattle.cd_boc_read.specs.declared.bag_fault.BagFault.{BagFault}
use Rattle.cd_boc_read.specs.declared.bag_fault.BagFault.TheVariants.{Cut, Extra, Crc}
use Rattle.cd_boc_read.specs.declared.counts.Counts.{Counts}
use Rattle.cd_boc_read.specs.Grammar.{IsShape}
use Rattle.cd_boc_read.specs.Reading.{shape_at, counts_at, roots_at, index_len, end_at, FrameParts, frame_at}
use Rattle.cd_base.specs.Reading.{part_at}
use Rattle.cd_base.proofs.ReadingLaws.{ok_is, by_ok, by_test, test_holds, Takes-then, Takes-same, part_takes, part_again}
use Rattle.cd_boc_read.proofs.HeaderLaws.{AreCounts, AreBelow, shape_takes, shape_again, counts_take, counts_again, roots_take, roots_again}

-- ---- the checksum

crc_bit-lt : (register : ℕ) → register < 2 ^ 32 → crc_bit register < 2 ^ 32
crc_bit-lt register lt = xor_lt 32 (register / 2) (register % 2 * 0x82f63b78) (omega arith) (omega arith)

crc_bits-lt : (n register : ℕ) → register < 2 ^ 32 → crc_bits n register < 2 ^ 32
unfolding crc_bits
crc_bits-lt zero register lt = lt
crc_bits-lt (suc n) register lt = crc_bits-lt n (crc_bit register) (crc_bit-lt register lt)

crc_bytes-lt : (register : ℕ) (bytes : List ℕ) → IsBytes bytes → register < 2 ^ 32 → fold crc_byte register bytes < 2 ^ 32
crc_bytes-lt register [] fits lt = lt
crc_bytes-lt register (byte ∷ bytes) fits lt =
    crc_bytes-lt (crc_byte register byte) bytes (λ i. fits (suc i)) (crc_bits-lt 8 (bit_xor register byte) (xor_lt 32 register byte lt (omega (arith, fits 0))))

pub crc32c-lt : (bytes : List ℕ) → IsBytes bytes → crc32c bytes < 256 ^ 4
crc32c-lt bytes fits = xor_lt 32 (fold crc_byte 0xffffffff bytes) 0xffffffff (crc_bytes-lt 0xffffffff bytes fits (omega arith)) (omega arith)

-- what stands behind a front
abbrev pub crc_text : Bool → List ℕ → List ℕ
crc_text has_crc front = cond has_crc (little 4 (crc32c front)) []

spelt : (bytes : List ℕ) → IsBytes bytes → length bytes ≡ 4 → little 4 (from_little bytes) ≡ bytes
spelt bytes fits is = ap (λ n. little n (from_little bytes)) (sym is) ∙ little-from_little bytes fits

pub end_takes : (cut : BagFault) (has_crc : Bool) (front bytes : List ℕ) (u : Unit {0}) → IsBytes bytes → end_at cut has_crc front bytes ≡ Ok u → bytes ≡ crc_text has_crc front
unfolding end_at
end_takes cut true front bytes u fits e =
    by_ok (part_at cut 4 bytes) _ u e (λ crc e0 k0.
    by_test (eqb (length crc.1) 0) (Extra (length front + 4)) _ u k0 (λ none k1.
    let t = part_takes cut 4 bytes crc fits e0 in
    let same = eqb-true (from_little crc.0) (crc32c front) (test_holds (eqb (from_little crc.0) (crc32c front)) (Crc (from_little crc.0) (crc32c front)) u k1) in
    let nothing : crc.1 ≡ [] = nil_from_length crc.1 (eqb-true (length crc.1) 0 none) in
    t.0.parts ∙ ap (λ (w : List ℕ). crc.0 ++ w) nothing ∙ append-nil crc.0 ∙ sym (spelt crc.0 t.0.text_fits t.1) ∙ ap (little 4) same))
end_takes cut false front bytes u fits e =
    nil_from_length bytes (eqb-true (length bytes) 0 (test_holds (eqb (length bytes) 0) (Extra (length front)) u e))

part_all : (cut : BagFault) (len : ℕ) (part : List ℕ) → length part ≡ len → part_at cut len part ≡ Ok (part, [])
part_all cut len part is = ap (part_at cut len) (sym (append-nil part)) ∙ part_again cut len part [] is

pub end_again : (cut : BagFault) (has_crc : Bool) (front : List ℕ) → IsBytes front → end_at cut has_crc front (crc_text has_crc front) ≡ Ok tt
unfolding end_at
end_again cut true front fits =
    let crc = crc32c front in
    rw (part_all cut 4 (little 4 crc) (length-little 4 crc), from_little-little 4 crc (crc32c-lt front fits), eq-eqb crc crc refl) refl
end_again cut false front fits = refl

-- ---- the frame

-- all but the checksum
abbrev pub parts_body : FrameParts → List ℕ
parts_body p =
    shape_text p.shape ++ counts_text p.shape p.cells (length p.roots) (length p.cell_data) ++ numbers_text p.shape.size p.roots ++ p.index ++ p.cell_data

pub record AreFrame (p : FrameParts) : Type 0 where
  pub shape : IsShape p.shape
  pub counts : AreCounts p.shape p.cells (length p.roots) (length p.cell_data)
  pub rooted : AreBelow p.cells p.roots
  pub index_counted : length p.index ≡ index_len p.shape p.cells
  pub index_fits : IsBytes p.index
  pub data_fits : IsBytes p.cell_data

front_is : (bytes body rest : List ℕ) → bytes ≡ body ++ rest → take (length bytes - length rest) bytes ≡ body
front_is bytes body rest e = rw e (take_at body rest (length (body ++ rest) - length rest) (omega (arith, length-append body rest)))

pub frame_takes : (bytes : List ℕ) (p : FrameParts) → IsBytes bytes → frame_at bytes ≡ Ok p → AreFrame p × (bytes ≡ parts_body p ++ crc_text p.shape.has_crc (parts_body p))
unfolding frame_at
frame_takes bytes p fits e =
    let cut = Cut (length bytes) in
    by_ok (shape_at cut bytes) _ p e (λ shape e0 k0.
    by_ok (counts_at cut shape.0 shape.1) _ p k0 (λ counts e1 k1.
    by_ok (roots_at cut shape.0.size counts.0 counts.1) _ p k1 (λ roots e2 k2.
    by_ok (part_at cut (index_len shape.0 counts.0.cells) roots.1) _ p k2 (λ index e3 k3.
    by_ok (part_at cut counts.0.total index.1) _ p k3 (λ cell_data e4 k4.
    by_ok (end_at cut shape.0.has_crc (take (length bytes - length cell_data.1) bytes) cell_data.1) _ p k4 (λ u e5 k5.
    let t0 = shape_takes cut bytes shape fits e0 in
    let t1 = counts_take cut shape.0 shape.1 counts t0.0.rest_fits e1 in
    let t2 = roots_take cut shape.0.size counts.0 counts.1 roots t1.0.rest_fits e2 in
    let t3 = part_takes cut (index_len shape.0 counts.0.cells) roots.1 index t2.0.rest_fits e3 in
    let t4 = part_takes cut counts.0.total index.1 cell_data t3.0.rest_fits e4 in
    let counted : counts_text shape.0 counts.0.cells counts.0.roots counts.0.total ≡ counts_text shape.0 counts.0.cells (length roots.0) (length cell_data.0) =
    ap₂ (counts_text shape.0 counts.0.cells) (sym t2.1) (sym t4.1)
    in
    let a = shape_text shape.0 in
    let b = counts_text shape.0 counts.0.cells (length roots.0) (length cell_data.0) in
    let c = numbers_text shape.0.size roots.0 in
    let second = Takes-same shape.1 (counts_text shape.0 counts.0.cells counts.0.roots counts.0.total) b counts.1 counted t1.0 in
    let two = Takes-then bytes a shape.1 b counts.1 t0.0 second in
    let three = Takes-then bytes (a ++ b) counts.1 c roots.1 two t2.0 in
    let four = Takes-then bytes (a ++ b ++ c) roots.1 index.0 index.1 three t3.0 in
    let five = Takes-then bytes (a ++ b ++ c ++ index.0) index.1 cell_data.0 cell_data.1 four t4.0 in
    let body : List ℕ = a ++ b ++ c ++ index.0 ++ cell_data.0 in
    let front : take (length bytes - length cell_data.1) bytes ≡ body = front_is bytes body cell_data.1 five.parts in
    let ended : cell_data.1 ≡ crc_text shape.0.has_crc body =
    end_takes cut shape.0.has_crc (take (length bytes - length cell_data.1) bytes) cell_data.1 u five.rest_fits e5 ∙ ap (crc_text shape.0.has_crc) front
    in
    let read : FrameParts = record { shape = shape.0; cells = counts.0.cells; roots = roots.0; index = index.0; cell_data = cell_data.0 } in
    let good : AreFrame read = record {
      shape = t0.1;
      counts = subst (λ (n : ℕ). AreCounts shape.0 counts.0.cells n (length cell_data.0)) (sym t2.1) (subst (λ (n : ℕ). AreCounts shape.0 counts.0.cells counts.0.roots n) (sym t4.1) t1.1);
      rooted = t2.2;
      index_counted = t3.1;
      index_fits = t3.0.text_fits;
      data_fits = t4.0.text_fits;
    } in
    subst (λ (q : FrameParts). AreFrame q × (bytes ≡ parts_body q ++ crc_text q.shape.has_crc (parts_body q))) (ok_is read p k5)
    (good, five.parts ∙ ap (λ (w : List ℕ). body ++ w) ended)))))))

five : (a b c d e f : List ℕ) → (a ++ b ++ c ++ d ++ e) ++ f ≡ a ++ (b ++ (c ++ (d ++ (e ++ f))))
five a b c d e f = simp append_assoc

frame_read : (bytes crc : List ℕ) (p : FrameParts) → AreFrame p
    → bytes ≡ shape_text p.shape ++ (counts_text p.shape p.cells (length p.roots) (length p.cell_data) ++ (numbers_text p.shape.size p.roots ++ (p.index ++ (p.cell_data ++ crc))))
    → take (length bytes - length crc) bytes ≡ parts_body p → end_at (Cut (length bytes)) p.shape.has_crc (parts_body p) crc ≡ Ok tt → frame_at bytes ≡ Ok p
unfolding frame_at
frame_read bytes crc p h is front ended =
    let cut = Cut (length bytes) in
    let counts : Counts = record { cells = p.cells; roots = length p.roots; total = length p.cell_data } in
    let behind_index = p.cell_data ++ crc in
    let behind_roots = p.index ++ behind_index in
    let behind_counts = numbers_text p.shape.size p.roots ++ behind_roots in
    let behind_shape = counts_text p.shape p.cells (length p.roots) (length p.cell_data) ++ behind_counts in
    let shape : shape_at cut bytes ≡ Ok (p.shape, behind_shape) = ap (shape_at cut) is ∙ shape_again cut p.shape behind_shape h.shape in
    rw (
      shape,
      counts_again cut p.shape p.cells (length p.roots) (length p.cell_data) behind_counts h.counts,
      roots_again cut p.shape.size counts p.roots behind_roots refl (omega (arith, h.counts.cells_fit)) h.rooted,
      part_again cut (index_len p.shape p.cells) p.index behind_index h.index_counted,
      part_again cut (length p.cell_data) p.cell_data crc refl,
      front,
      ended,
    ) refl

pub frame_again : (p : FrameParts) → AreFrame p → IsBytes (parts_body p) → frame_at (parts_body p ++ crc_text p.shape.has_crc (parts_body p)) ≡ Ok p
frame_again p h fits =
    let body = parts_body p in
    let crc = crc_text p.shape.has_crc body in
    frame_read (body ++ crc) crc p h
    (five (shape_text p.shape) (counts_text p.shape p.cells (length p.roots) (length p.cell_data)) (numbers_text p.shape.size p.roots) p.index p.cell_data crc)
    (front_is (body ++ crc) body crc refl) (end_again (Cut (length (body ++ crc))) p.shape.has_crc body fits)
