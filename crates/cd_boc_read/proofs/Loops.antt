-- Going over the numbers of a list and the texts of cells, as loops do.
use Rattle.std.proofs.Common.{◌≡◌, ℕ, suc, ◌-◌, ◌+◌, ◌≤◌, ◌<◌, true, false, cond, eqb, List, [], ◌∷◌, ◌++◌, length, get_or, take, drop, Result, Ok, Err, refl, sym, ap, ◌∙◌, append_assoc, arith}
use Rattle.std.specs.Result.{is_ok, is_err}
use Rattle.std.proofs.lemmas.Bool.{lt-ltb, le-ltb, false≢true}
use Rattle.std.proofs.lemmas.List.{append-nil, drop_more, drop_all}
use Rattle.cd_base.specs.Numbers.{from_big}
use Rattle.cd_boc_write.specs.declared.shape.Shape.{Shape}
use Rattle.cd_boc_write.specs.CellTexts.{Text}
use Rattle.cd_boc_read.specs.declared.bag_fault.BagFault.{BagFault}
use Rattle.cd_boc_read.specs.declared.bag_fault.BagFault.TheVariants.{RootIndex, Length, Index}
use Rattle.cd_boc_read.specs.Reading.{numbers_in, are_cells, text_at, texts_at, is_end}
use Rattle.cd_base.specs.Reading.{◌>>=◌}

-- ---- numbers

pub numbers_more : (front : List ℕ) (len count i : ℕ) (bytes : List ℕ) (total : List ℕ) → i < count
    → front ++ numbers_in len (count - i) bytes ≡ total → (front ++ from_big (take len bytes) ∷ []) ++ numbers_in len (count - (i + 1)) (drop len bytes) ≡ total
unfolding numbers_in
numbers_more front len count i bytes total lt so_far =
    let k : count - i ≡ suc (count - (i + 1)) = omega arith in
    append_assoc front (from_big (take len bytes) ∷ []) (numbers_in len (count - (i + 1)) (drop len bytes))
    ∙ sym (ap (λ n. front ++ numbers_in len n bytes) k)
    ∙ so_far

pub numbers_done : (front : List ℕ) (len count i : ℕ) (bytes : List ℕ) (total : List ℕ) → count ≤ i → front ++ numbers_in len (count - i) bytes ≡ total → front ≡ total
unfolding numbers_in
numbers_done front len count i bytes total le so_far =
    let k : count - i ≡ 0 = omega arith in
    sym (append-nil front) ∙ sym (ap (λ n. front ++ numbers_in len n bytes) k) ∙ so_far

-- ---- roots

pub cells_more : (cells i : ℕ) (numbers : List ℕ) → i < length numbers → get_or numbers i 0 < cells → are_cells cells i (drop i numbers) ≡ are_cells cells (i + 1) (drop (i + 1) numbers)
unfolding are_cells
cells_more cells i numbers lt below = rw (drop_more numbers i 0 lt, lt-ltb (get_or numbers i 0) cells below) refl

pub cells_stop : (cells i : ℕ) (numbers : List ℕ) → i < length numbers → cells ≤ get_or numbers i 0 → are_cells cells i (drop i numbers) ≡ Err (RootIndex i)
unfolding are_cells
cells_stop cells i numbers lt over = rw (drop_more numbers i 0 lt, le-ltb (get_or numbers i 0) cells over) refl

pub cells_done : (cells i : ℕ) (numbers : List ℕ) → length numbers ≤ i → are_cells cells i (drop i numbers) ≡ Ok tt
unfolding are_cells
cells_done cells i numbers le = rw (drop_all i numbers le) refl

-- ---- texts

-- what a call that didn't fail made
pub on_ok : {A E X : Type 0} (r : Result A E) (x y z : X) → x ≡ cond (is_ok r) y z → false ≡ is_err r → x ≡ y
on_ok (Ok o) x y z h e = h
on_ok (Err d) x y z h e = absurd (false≢true e)

-- what was read before, and what is still read
abbrev pub with_front : List Text → Result (List Text) BagFault → Result (List Text) BagFault
with_front front read = read >>= λ ts. Ok (front ++ ts)

regroup : (front : List Text) (t : Text) (read : Result (List Text) BagFault) → with_front front (read >>= λ ts. Ok (t ∷ ts)) ≡ with_front (front ++ t ∷ []) read
regroup front t (Ok ts) = ap Ok (sym (append_assoc front (t ∷ []) ts))
regroup front t (Err f) = refl

module _ (shape : Shape) (cells total : ℕ) where
  abbrev pub left_at : ℕ → List ℕ → List ℕ → Result (List Text) BagFault
  left_at number index bytes = texts_at shape cells total (cells - number) number index bytes

  -- what the next text is read as
  abbrev pub next_at : ℕ → List ℕ → Result (Text × List ℕ) BagFault
  next_at number bytes = text_at (Length total (total - length bytes) number) shape.size cells number bytes

  module _ (front : List Text) (number : ℕ) (index bytes : List ℕ) (all : Result (List Text) BagFault) (so_far : with_front front (left_at number index bytes) ≡ all) where
    pub texts_more : number < cells → (t : Text) (after : List ℕ) → next_at number bytes ≡ Ok (t, after) → is_end shape index (total - length after) ≡ true
        → with_front (front ++ t ∷ []) (left_at (number + 1) (drop shape.off_bytes index) after) ≡ all
    unfolding texts_at
    texts_more lt t after read end =
        let k : cells - number ≡ suc (cells - (number + 1)) = omega arith in
        let one : with_front front (left_at number index bytes) ≡ with_front (front ++ t ∷ []) (left_at (number + 1) (drop shape.off_bytes index) after) =
        rw (k, read, end) (regroup front t (left_at (number + 1) (drop shape.off_bytes index) after))
        in
        sym one ∙ so_far

    pub texts_fail : number < cells → (e : BagFault) → next_at number bytes ≡ Err e → all ≡ Err e
    unfolding texts_at
    texts_fail lt e failed =
        let k : cells - number ≡ suc (cells - (number + 1)) = omega arith in
        let one : with_front front (left_at number index bytes) ≡ Err e = rw (k, failed) refl in
        sym so_far ∙ one

    pub texts_index : number < cells → (t : Text) (after : List ℕ) → next_at number bytes ≡ Ok (t, after) → is_end shape index (total - length after) ≡ false → all ≡ Err (Index number)
    unfolding texts_at
    texts_index lt t after read end =
        let k : cells - number ≡ suc (cells - (number + 1)) = omega arith in
        let one : with_front front (left_at number index bytes) ≡ Err (Index number) = rw (k, read, end) refl in
        sym so_far ∙ one

    pub texts_left : number ≡ cells → eqb (length bytes) 0 ≡ false → all ≡ Err (Length total (total - length bytes) cells)
    unfolding texts_at
    texts_left at some =
        let k : cells - number ≡ 0 = omega arith in
        let one : with_front front (left_at number index bytes) ≡ Err (Length total (total - length bytes) number) = rw (k, some) refl in
        sym so_far ∙ one ∙ ap (λ n. Err (Length total (total - length bytes) n)) at

    pub texts_done : number ≡ cells → eqb (length bytes) 0 ≡ true → all ≡ Ok front
    unfolding texts_at
    texts_done at none =
        let k : cells - number ≡ 0 = omega arith in
        let one : with_front front (left_at number index bytes) ≡ Ok front = rw (k, none) (ap Ok (append-nil front)) in
        sym so_far ∙ one
