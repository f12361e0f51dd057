-- The texts of all cells that are read are those that were written, and what was written is read again.
use Rattle.std.proofs.Common.{◌≡◌, ℕ, zero, suc, ◌+◌, ◌-◌, ◌^◌, ◌<◌, ◌≤◌, true, false, eqb, List, [], ◌∷◌, ◌++◌, length, get_or, take, drop, map, subst, Ok, refl, sym, ap, ap₂, ◌∙◌, arith}
use Rattle.std.proofs.lemmas.Bool.{eqb-true, eq-eqb}
use Rattle.std.proofs.lemmas.List.{nil_from_length, length-append}
use Rattle.std.proofs.lemmas.List.Concat.{flat_map-cons}
use Rattle.cd_base.specs.Numbers.{IsBytes, from_big, big}
use Rattle.cd_base.proofs.NumberLaws.{from_big-front, drop-big_front}
use Rattle.cd_boc_write.specs.declared.shape.Shape.{Shape}
use Rattle.cd_boc_write.specs.Frames.{numbers_text}
use Rattle.cd_boc_write.specs.CellTexts.{Text, cell_text, texts_text, ends_from}
use Rattle.cd_boc_read.specs.declared.bag_fault.BagFault.TheVariants.{Length, Index}
use Rattle.cd_boc_read.specs.Grammar.{IsText, end_of_entry}
use Rattle.cd_boc_read.specs.Reading.{numbers_in, text_at, is_end, texts_at}
use Rattle.cd_base.proofs.ReadingLaws.{ok_is, by_ok, by_test}
use Rattle.cd_boc_read.proofs.HeaderLaws.{AreBelow}
use Rattle.cd_boc_read.proofs.TextLaws.{text_takes, text_again}

-- each text is that of the cell with its number, of which the first has this one
abbrev pub AreTexts : ℕ → ℕ → List Text → Type 0
AreTexts cells number ts = (k : ℕ) (d : Text) → k < length ts → IsText cells (number + k) (get_or ts k d)

texts_more : (cells number : ℕ) (t : Text) (ts : List Text) → IsText cells number t → AreTexts cells (number + 1) ts → AreTexts cells number (t ∷ ts)
texts_more cells number t ts first others zero d in' = let at : number ≡ number + 0 = omega arith in subst (λ n. IsText cells n t) at first
texts_more cells number t ts first others (suc k) d in' =
    let at : number + 1 + k ≡ number + suc k = omega arith in
    subst (λ n. IsText cells n (get_or ts k d)) at (others k d (omega arith))

first_text : (cells number : ℕ) (t : Text) (ts : List Text) → AreTexts cells number (t ∷ ts) → IsText cells number t
first_text cells number t ts h = let at : number + 0 ≡ number = omega arith in subst (λ n. IsText cells n t) at (h 0 t (omega arith))

other_texts : (cells number : ℕ) (t : Text) (ts : List Text) → AreTexts cells number (t ∷ ts) → AreTexts cells (number + 1) ts
other_texts cells number t ts h = λ k d in'.
    let at : number + suc k ≡ number + 1 + k = omega arith in
    subst (λ n. IsText cells n (get_or ts k d)) at (h (suc k) d (omega arith))

-- ---- what is read

pub record AreReadTexts (s : Shape) (cells left number start : ℕ) (index bytes : List ℕ) (ts : List Text) : Type 0 where
  pub counted : length ts ≡ left
  pub text : bytes ≡ texts_text s.size ts
  pub texts : AreTexts cells number ts
  pub ends : s.has_index ≡ true → map (end_of_entry s) (numbers_in s.off_bytes left index) ≡ ends_from s.size start ts

end_stated : (s : Shape) (index : List ℕ) (end : ℕ) → is_end s index end ≡ true → s.has_index ≡ true → end_of_entry s (from_big (take s.off_bytes index)) ≡ end
unfolding is_end
end_stated s index end h has = eqb-true (end_of_entry s (from_big (take s.off_bytes index))) end (rw has at h)

used_so_far : (start total : ℕ) (text rest bytes : List ℕ) → bytes ≡ text ++ rest → start + length bytes ≡ total → start + length text + length rest ≡ total
used_so_far start total text rest bytes e is = omega (arith, ap length e, length-append text rest)

end_here : (start total : ℕ) (text rest : List ℕ) → start + length text + length rest ≡ total → total - length rest ≡ start + length text
end_here start total text rest is = omega arith

pub texts_take : (s : Shape) (cells total left number start : ℕ) (index bytes : List ℕ) (ts : List Text) → IsBytes bytes → start + length bytes ≡ total
    → texts_at s cells total left number index bytes ≡ Ok ts → AreReadTexts s cells left number start index bytes ts
unfolding texts_at numbers_in ends_from
texts_take s cells total zero number start index bytes ts fits is e =
    by_test (eqb (length bytes) 0) (Length total (total - length bytes) number) _ ts e (λ none k.
    subst (AreReadTexts s cells zero number start index bytes) (ok_is [] ts k)
    (record { counted = refl; text = nil_from_length bytes (eqb-true (length bytes) 0 none); texts = λ p d in'. absurd (omega arith); ends = λ _. refl }))
texts_take s cells total (suc left) number start index bytes ts fits is e =
    by_ok (text_at (Length total (total - length bytes) number) s.size cells number bytes) _ ts e (λ text e0 k0.
    by_test (is_end s index (total - length text.1)) (Index number) _ ts k0 (λ ended k1.
    by_ok (texts_at s cells total left (number + 1) (drop s.off_bytes index) text.1) _ ts k1 (λ others e2 k2.
    let t = text_takes (Length total (total - length bytes) number) s.size cells number bytes text fits e0 in
    let used = used_so_far start total (cell_text s.size text.0) text.1 bytes t.0.parts is in
    let end = end_here start total (cell_text s.size text.0) text.1 used in
    let more = texts_take s cells total left (number + 1) (start + length (cell_text s.size text.0)) (drop s.off_bytes index) text.1 others t.0.rest_fits used e2 in
    let read : AreReadTexts s cells (suc left) number start index bytes (text.0 ∷ others) = record {
      counted = ap suc more.counted;
      text = t.0.parts ∙ ap (λ (w : List ℕ). cell_text s.size text.0 ++ w) more.text ∙ sym (flat_map-cons (cell_text s.size) text.0 others);
      texts = texts_more cells number text.0 others t.1 more.texts;
      ends = λ has. ap₂ (λ (a : ℕ) (b : List ℕ). a ∷ b) (end_stated s index (total - length text.1) ended has ∙ end) (more.ends has);
    } in
    subst (AreReadTexts s cells (suc left) number start index bytes) (ok_is (text.0 ∷ others) ts k2) read)))

-- ---- what is written

-- the index states the ends of the texts, if there is an index
abbrev pub HoldEnds : Shape → ℕ → List ℕ → List Text → Type 0
HoldEnds s start index [] = Unit {0}
HoldEnds s start index (t ∷ ts) =
    let end = start + length (cell_text s.size t) in (is_end s index end ≡ true) × HoldEnds s end (drop s.off_bytes index) ts

pub ends_none : (s : Shape) (start : ℕ) (index : List ℕ) (ts : List Text) → s.has_index ≡ false → HoldEnds s start index ts
unfolding is_end
ends_none s start index [] none = tt
ends_none s start index (t ∷ ts) none = (rw none refl, ends_none s (start + length (cell_text s.size t)) (drop s.off_bytes index) ts none)

head_is : (a b : ℕ) (xs ys : List ℕ) → ◌≡◌ {A = List ℕ} (a ∷ xs) (b ∷ ys) → a ≡ b
head_is a b xs ys e = cc

tail_is : (a b : ℕ) (xs ys : List ℕ) → ◌≡◌ {A = List ℕ} (a ∷ xs) (b ∷ ys) → xs ≡ ys
tail_is a b xs ys e = cc

end_written : (s : Shape) (entry end : ℕ) (rest : List ℕ) → s.has_index ≡ true → entry < 256 ^ s.off_bytes → end_of_entry s entry ≡ end → is_end s (big s.off_bytes entry ++ rest) end ≡ true
unfolding is_end
end_written s entry end rest has fit is = rw (has, from_big-front s.off_bytes entry rest fit) (eq-eqb _ _ is)

pub ends_some : (s : Shape) (start : ℕ) (entries : List ℕ) (ts : List Text) → s.has_index ≡ true → AreBelow (256 ^ s.off_bytes) entries → map (end_of_entry s) entries ≡ ends_from s.size start ts
    → HoldEnds s start (numbers_text s.off_bytes entries) ts
unfolding ends_from
ends_some s start entries [] has fit is = tt
ends_some s start [] (t ∷ ts) has fit is = absurd cc
ends_some s start (entry ∷ entries) (t ∷ ts) has fit is =
    let end : ℕ = start + length (cell_text s.size t) in
    let split : numbers_text s.off_bytes (entry ∷ entries) ≡ big s.off_bytes entry ++ numbers_text s.off_bytes entries = flat_map-cons (big s.off_bytes) entry entries in
    let first : end_of_entry s entry ≡ end = head_is (end_of_entry s entry) end (map (end_of_entry s) entries) (ends_from s.size end ts) is in
    let others = tail_is (end_of_entry s entry) end (map (end_of_entry s) entries) (ends_from s.size end ts) is in
    rw (split, drop-big_front s.off_bytes entry (numbers_text s.off_bytes entries))
    (end_written s entry end (numbers_text s.off_bytes entries) has (fit 0 (omega arith)) first, ends_some s end entries ts has (λ p in'. fit (suc p) (omega arith)) others)

pub texts_again : (s : Shape) (cells total number start : ℕ) (index : List ℕ) (ts : List Text) → cells ≤ 256 ^ s.size → AreTexts cells number ts → start + length (texts_text s.size ts) ≡ total
    → HoldEnds s start index ts → texts_at s cells total (length ts) number index (texts_text s.size ts) ≡ Ok ts
unfolding texts_at
texts_again s cells total number start index [] fit texts is ends = refl
texts_again s cells total number start index (t ∷ ts) fit texts is ends =
    let text = cell_text s.size t in
    let rest = texts_text s.size ts in
    let split : texts_text s.size (t ∷ ts) ≡ text ++ rest = flat_map-cons (cell_text s.size) t ts in
    let used = used_so_far start total text rest (texts_text s.size (t ∷ ts)) split is in
    let end = end_here start total text rest used in
    let more = texts_again s cells total (number + 1) (start + length text) (drop s.off_bytes index) ts fit (other_texts cells number t ts texts) used ends.1 in
    rw (
      split,
      text_again (Length total (total - length (text ++ rest)) number) s.size cells number t rest fit (first_text cells number t ts texts),
      end,
      ends.0,
      more,
    ) refl
