-- What is read of a bag's bytes is in the grammar and spelt so, and what is spelt so is read again.
use Rattle.std.proofs.Common.{◌≡◌, ℕ, zero, suc, ◌+◌, ◌*◌, ◌^◌, ◌<◌, Bool, true, false, cond, List, [], ◌∷◌, ◌++◌, length, get_or, map, subst, Ok, refl, sym, ap, ap₂, ◌∙◌, zero-add, arith}
use Rattle.std.proofs.lemmas.List.{nil_from_length, length-map}
use Rattle.cd_base.specs.Numbers.{IsBytes}
use Rattle.cd_boc_write.specs.Frames.{Frame, numbers_text, shape_text, counts_text, body_text, frame_text}
use Rattle.cd_boc_write.specs.CellTexts.{Text, cell_text, texts_text, ends_from}
use Rattle.cd_boc_read.specs.Grammar.{IsText, IsBagOf, end_of_entry}
use Rattle.cd_boc_read.specs.Reading.{numbers_in, FrameParts, frame_at, texts_at, frame_of, bag_at}
use Rattle.cd_boc_read.proofs.FieldLaws.{numbers_of, numbers_in-text, length-numbers_text}
use Rattle.cd_base.proofs.ReadingLaws.{ok_is, by_ok}
use Rattle.cd_boc_read.proofs.HeaderLaws.{AreBelow}
use Rattle.cd_boc_read.proofs.PartLaws.{crc_text, AreFrame, parts_body, frame_takes, frame_again}
use Rattle.cd_boc_read.proofs.TextListLaws.{AreTexts, AreReadTexts, HoldEnds, texts_take, texts_again, ends_none, ends_some}

-- ---- the index

-- the entries that an index has as bytes
abbrev entries_in : Bool → ℕ → ℕ → List ℕ → List ℕ
entries_in has off_bytes cells index = cond has (numbers_in off_bytes cells index) []

index_text : (has : Bool) (off_bytes cells : ℕ) (index : List ℕ) → IsBytes index → length index ≡ cond has (cells * off_bytes) 0 → numbers_text off_bytes (entries_in has off_bytes cells index) ≡ index
index_text true off_bytes cells index fits is = (numbers_of off_bytes cells index fits is).text
index_text false off_bytes cells index fits is = sym (nil_from_length index is)

index_below : (has : Bool) (off_bytes cells : ℕ) (index : List ℕ) → IsBytes index → length index ≡ cond has (cells * off_bytes) 0 → AreBelow (256 ^ off_bytes) (entries_in has off_bytes cells index)
index_below true off_bytes cells index fits is = (numbers_of off_bytes cells index fits is).fit
index_below false off_bytes cells index fits is = λ p in'. absurd (omega arith)

-- ---- what is read is spelt

same_body : (p : FrameParts) → AreFrame p → body_text (frame_of p) ≡ parts_body p
same_body p h =
    ap (λ (w : List ℕ). shape_text p.shape ++ counts_text p.shape p.cells (length p.roots) (length p.cell_data) ++ numbers_text p.shape.size p.roots ++ w ++ p.cell_data)
    (index_text p.shape.has_index p.shape.off_bytes p.cells p.index h.index_fits h.index_counted)

bag_of_parts : (p : FrameParts) (ts : List Text) → AreFrame p → AreReadTexts p.shape p.cells p.cells 0 0 p.index p.cell_data ts → IsBagOf (frame_of p) ts
bag_of_parts p ts h t =
    let same : p.cells ≡ length ts = sym t.counted in
    record {
      shape = h.shape;
      counted = same;
      few_cells = omega (arith, same, h.counts.few_cells);
      cells_fit = subst (λ n. n < 256 ^ p.shape.size) same h.counts.cells_fit;
      some_roots = h.counts.some_roots;
      few_roots = omega (arith, same, h.counts.few_roots);
      rooted = λ q in'. omega (arith, h.rooted q in', same);
      texts = λ k d in'. subst (λ n. IsText n k (get_or ts k d)) same (subst (λ n. IsText p.cells n (get_or ts k d)) (zero-add k) (t.texts k d in'));
      cell_data = t.text;
      data_fits = h.counts.total_fits;
      index = λ has. ap (λ b. map (end_of_entry p.shape) (entries_in b p.shape.off_bytes p.cells p.index)) has ∙ t.ends has;
      index_fits = index_below p.shape.has_index p.shape.off_bytes p.cells p.index h.index_fits h.index_counted;
      no_index = λ none. ap (λ b. entries_in b p.shape.off_bytes p.cells p.index) none;
    }

abbrev pub Found : List ℕ → Frame × List Text → Type 0
Found bytes x = IsBagOf x.0 x.1 × (bytes ≡ frame_text x.0)

pub bag_at-found : (bytes : List ℕ) (f : Frame) (ts : List Text) → IsBytes bytes → bag_at bytes ≡ Ok (f, ts) → IsBagOf f ts × (bytes ≡ frame_text f)
unfolding bag_at
bag_at-found bytes f ts fits e =
    by_ok (frame_at bytes) _ (f, ts) e (λ p e0 k0.
    by_ok (texts_at p.shape p.cells (length p.cell_data) p.cells 0 p.index p.cell_data) _ (f, ts) k0 (λ texts e1 k1.
    let h = frame_takes bytes p fits e0 in
    let t = texts_take p.shape p.cells (length p.cell_data) p.cells 0 0 p.index p.cell_data texts h.0.data_fits (zero-add (length p.cell_data)) e1 in
    let text : bytes ≡ frame_text (frame_of p) = h.1 ∙ ap (λ (w : List ℕ). w ++ crc_text p.shape.has_crc w) (sym (same_body p h.0)) in
    subst (Found bytes) (ok_is (frame_of p, texts) (f, ts) k1) (bag_of_parts p texts h.0 t, text)))

-- ---- what is spelt is read

-- the frame with its index as bytes
abbrev parts_of : Frame → FrameParts
parts_of f = record { shape = f.shape; cells = f.cells; roots = f.roots; index = numbers_text f.shape.off_bytes f.index; cell_data = f.cell_data }

IsBytes-left : (xs ys : List ℕ) → IsBytes (xs ++ ys) → IsBytes xs
IsBytes-left [] ys h i = omega arith
IsBytes-left (x ∷ xs) ys h zero = h 0
IsBytes-left (x ∷ xs) ys h (suc i) = IsBytes-left xs ys (λ k. h (suc k)) i

IsBytes-right : (xs ys : List ℕ) → IsBytes (xs ++ ys) → IsBytes ys
IsBytes-right [] ys h = h
IsBytes-right (x ∷ xs) ys h = IsBytes-right xs ys (λ k. h (suc k))

length-ends_from : (size start : ℕ) (ts : List Text) → length (ends_from size start ts) ≡ length ts
unfolding ends_from
length-ends_from size start [] = refl
length-ends_from size start (t ∷ ts) = ap suc (length-ends_from size (start + length (cell_text size t)) ts)

index_counted : (f : Frame) (ts : List Text) (has : Bool) → IsBagOf f ts → f.shape.has_index ≡ has → length (numbers_text f.shape.off_bytes f.index) ≡ cond has (f.cells * f.shape.off_bytes) 0
index_counted f ts true h is =
    let same : length f.index ≡ f.cells = sym (length-map f.index (end_of_entry f.shape)) ∙ ap length (h.index is) ∙ length-ends_from f.shape.size 0 ts ∙ sym h.counted in
    length-numbers_text f.shape.off_bytes f.index ∙ ap (λ n. n * f.shape.off_bytes) same
index_counted f ts false h is = ap (λ (w : List ℕ). length (numbers_text f.shape.off_bytes w)) (h.no_index is)

index_again : (f : Frame) (ts : List Text) (has : Bool) → IsBagOf f ts → f.shape.has_index ≡ has → entries_in has f.shape.off_bytes f.cells (numbers_text f.shape.off_bytes f.index) ≡ f.index
index_again f ts true h is =
    let same : length f.index ≡ f.cells = sym (length-map f.index (end_of_entry f.shape)) ∙ ap length (h.index is) ∙ length-ends_from f.shape.size 0 ts ∙ sym h.counted in
    ap (λ n. numbers_in f.shape.off_bytes n (numbers_text f.shape.off_bytes f.index)) (sym same) ∙ numbers_in-text f.shape.off_bytes f.index h.index_fits
index_again f ts false h is = sym (h.no_index is)

ends_hold : (f : Frame) (ts : List Text) (has : Bool) → IsBagOf f ts → f.shape.has_index ≡ has → HoldEnds f.shape 0 (numbers_text f.shape.off_bytes f.index) ts
ends_hold f ts true h is = ends_some f.shape 0 f.index ts is h.index_fits (h.index is)
ends_hold f ts false h is = ends_none f.shape 0 (numbers_text f.shape.off_bytes f.index) ts is

frame_of_bag : (f : Frame) (ts : List Text) → IsBytes (body_text f) → IsBagOf f ts → AreFrame (parts_of f)
frame_of_bag f ts fits h =
    let s = f.shape in
    let front = shape_text s ++ counts_text s f.cells (length f.roots) (length f.cell_data) ++ numbers_text s.size f.roots in
    let index = numbers_text s.off_bytes f.index in
    record {
      shape = h.shape;
      counts = record {
        cells_fit = subst (λ n. n < 256 ^ s.size) (sym h.counted) h.cells_fit;
        few_cells = omega (arith, h.counted, h.few_cells);
        some_roots = h.some_roots;
        few_roots = omega (arith, h.counted, h.few_roots);
        total_fits = h.data_fits;
      };
      rooted = λ q in'. omega (arith, h.rooted q in', h.counted);
      index_counted = index_counted f ts s.has_index h refl;
      index_fits = IsBytes-right front index (IsBytes-left (front ++ index) f.cell_data fits);
      data_fits = IsBytes-right (front ++ index) f.cell_data fits;
    }

texts_of_bag : (f : Frame) (ts : List Text) → IsBagOf f ts → texts_at f.shape f.cells (length f.cell_data) f.cells 0 (numbers_text f.shape.off_bytes f.index) f.cell_data ≡ Ok ts
texts_of_bag f ts h =
    let s = f.shape in
    let index = numbers_text s.off_bytes f.index in
    let texts : AreTexts f.cells 0 ts = λ k d in'. subst (λ n. IsText n (0 + k) (get_or ts k d)) (sym h.counted) (subst (λ n. IsText (length ts) n (get_or ts k d)) (sym (zero-add k)) (h.texts k d in')) in
    let all : 0 + length (texts_text s.size ts) ≡ length f.cell_data = zero-add (length (texts_text s.size ts)) ∙ ap length (sym h.cell_data) in
    let read = texts_again s f.cells (length f.cell_data) 0 0 index ts (omega (arith, h.counted, h.cells_fit)) texts all (ends_hold f ts s.has_index h refl) in
    ap₂ (λ n (w : List ℕ). texts_at s f.cells (length f.cell_data) n 0 index w) h.counted h.cell_data ∙ read

bag_read : (f : Frame) (ts : List Text) → frame_at (frame_text f) ≡ Ok (parts_of f) → frame_of (parts_of f) ≡ f
    → texts_at f.shape f.cells (length f.cell_data) f.cells 0 (numbers_text f.shape.off_bytes f.index) f.cell_data ≡ Ok ts → bag_at (frame_text f) ≡ Ok (f, ts)
unfolding bag_at
bag_read f ts frame same texts = rw (frame, texts) (ap (λ (g : Frame). Ok (g, ts)) same)

pub bag_at-again : (f : Frame) (ts : List Text) → IsBytes (frame_text f) → IsBagOf f ts → bag_at (frame_text f) ≡ Ok (f, ts)
bag_at-again f ts fits h =
    let body = IsBytes-left (body_text f) (crc_text f.shape.has_crc (body_text f)) fits in
    bag_read f ts (frame_again (parts_of f) (frame_of_bag f ts body h) body) (ap (λ (w : List ℕ). record f { index = w }) (index_again f ts f.shape.has_index h refl)) (texts_of_bag f ts h)
