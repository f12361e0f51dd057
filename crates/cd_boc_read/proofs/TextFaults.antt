-- A fault of the texts of the cells is a row that holds of the bytes.
use Rattle.std.proofs.Common.{◌≡◌, ◌≢◌, ℕ, zero, suc, ◌+◌, ◌-◌, ◌*◌, ◌/◌, ◌%◌, ◌<◌, ◌≤◌, ◌⊎◌, ◌||◌, not, Bool, true, false, cond, eqb, leb, ltb, List, [], ◌∷◌, length, get_or, subst, take, drop, Ok, Err, refl, sym, ap, ap₂, ◌∙◌, inl, inr, arith}
use Rattle.std.specs.List.{list_all}
use Rattle.std.proofs.lemmas.Bool.{ltb-false, eqb-false, cases_lt, true≢false}
use Rattle.std.proofs.lemmas.Bool.Decides.{nat_tests}
use Rattle.std.proofs.lemmas.List.{drop-drop, length-drop, length-take-le, get_or-drop, get_or-take}
use Rattle.cd_base.specs.Numbers.{IsBytes, from_big}
use Rattle.cd_base.specs.declared.hash.Hash256.{Hash256}
use Rattle.cd_boc_write.specs.declared.shape.Shape.{Shape}
use Rattle.cd_boc_write.specs.CellTexts.{Text}
use Rattle.cd_boc_read.specs.declared.bag_fault.BagFault.{BagFault}
use Rattle.cd_boc_read.specs.declared.bag_fault.BagFault.TheVariants.{Descriptor, Length, Completion, Order, Index}
use Rattle.cd_boc_read.specs.Grammar.{end_of_entry}
use Rattle.cd_boc_read.specs.Reading.{numbers_at, stored_bytes, is_completed, is_later, text_of, parts_at, text_at, is_end, texts_at}
use Rattle.cd_base.specs.Reading.{part_at}
use Rattle.cd_boc_read.specs.Places.{number_in, stated_shape, stated_cells, stated_total, stated_data, text_len, text_start, stated_start, stated_first, stated_second, held_end, stated_last, stated_ref, stated_entry}
use Rattle.cd_boc_read.specs.FaultRows.{IsHeaderRight, Holds}
use Rattle.cd_base.proofs.ReadingLaws.{ok_is, by_ok, by_test}
use Rattle.cd_boc_read.proofs.PlaceLaws.{Stands, Stands-at, length-standing, part_found}
use Rattle.cd_boc_read.proofs.FrameFaults.{err_is, by_err, by_fail, not_both, part_fails, numbers_fail, numbers_found}

pub text_start-first : (size : ℕ) (cell_data : List ℕ) → text_start size cell_data 0 ≡ 0
unfolding text_start
text_start-first size cell_data = refl

text_start-next : (size : ℕ) (cell_data : List ℕ) (cell : ℕ) → text_start size cell_data (cell + 1) ≡ text_start size cell_data cell + text_len size (drop (text_start size cell_data cell) cell_data)
unfolding text_start
text_start-next size cell_data cell = ap (text_start size cell_data) (let next : cell + 1 ≡ suc cell = omega arith in next)

not_completed : (second last : ℕ) → ((eqb (second % 2) 0) || not (eqb (last % 128) 0)) ≡ false → (second % 2 ≡ 1) × (last % 128 ≡ 0)
not_completed second last wrong = grind (arith, nat_tests)

no_bit : (last : ℕ) → last < 256 → last % 128 ≡ 0 → (last ≡ 0) ⊎ (last ≡ 0x80)
no_bit last small none = elim (cases_lt last 128) [ inl low ↦ inl (omega (arith, low, none)) | inr high ↦ inr (omega (arith, high, none, small)) ]

not_later : (cells number r : ℕ) → is_later cells number r ≡ false → (r ≤ number) ⊎ (cells ≤ r)
unfolding is_later
not_later cells number r wrong = elim (not_both (ltb number r) (ltb r cells) wrong) [ inl low ↦ inl (ltb-false number r low) | inr high ↦ inr (ltb-false r cells high) ]

-- a reference that leads to no cell behind
record IsWrongRef (cells number : ℕ) (refs : List ℕ) : Type 0 where
  place : ℕ
  within : place < length refs
  wrong : (get_or refs place 0 ≤ number) ⊎ (cells ≤ get_or refs place 0)

wrong_ref : (cells number : ℕ) (refs : List ℕ) → list_all (is_later cells number) refs ≡ false → IsWrongRef cells number refs
wrong_ref cells number [] wrong = absurd (true≢false wrong)
wrong_ref cells number (r ∷ refs) wrong =
    elim (not_both (is_later cells number r) (list_all (is_later cells number) refs) wrong) [
      | inl first ↦ record { place = 0; within = omega arith; wrong = not_later cells number r first }
      | inr others ↦ (let w = wrong_ref cells number refs others in record { place = suc w.place; within = omega (arith, w.within); wrong = w.wrong })
    ]

-- a number further on in what is left of the bytes
number_in-drop : (start place len : ℕ) (bytes : List ℕ) → number_in place len (drop start bytes) ≡ number_in (start + place) len bytes
unfolding number_in
number_in-drop start place len bytes = ap (λ (w : List ℕ). from_big (take len w)) (drop-drop place start bytes)

module _ (H : List ℕ → Hash256) (bytes : List ℕ) (counted : length (stated_data bytes) ≡ stated_total bytes) (fit : IsBytes (stated_data bytes)) (header : IsHeaderRight bytes) where
  abbrev s : Shape
  s = stated_shape bytes

  abbrev cell_data : List ℕ
  cell_data = stated_data bytes

  abbrev cells : ℕ
  cells = stated_cells bytes

  abbrev total : ℕ
  total = stated_total bytes

  module _ (number : ℕ) (in' : number < cells) where
    abbrev start : ℕ
    start = stated_start bytes number

    abbrev first : ℕ
    first = stated_first bytes number

    abbrev second : ℕ
    second = stated_second bytes number

    abbrev fault : BagFault
    fault = Length total start number

    next : stated_start bytes (number + 1) ≡ start + (2 + stored_bytes first + (second + 1) / 2 + first % 8 * s.size)
    next = text_start-next s.size cell_data number

    -- a text that passes the end of the cell data
    too_long : (e : BagFault) (end : ℕ) → fault ≡ e → total < end → end ≤ stated_start bytes (number + 1) → Holds H bytes e
    too_long e end same short long = subst (Holds H bytes) same (record { before = header; stated_is = refl; used_is = refl; wrong = inl (in', omega (arith, short, long)) })

    parts_fail : (rest : List ℕ) (e : BagFault) → Stands cell_data (start + 2) rest → parts_at fault s.size cells number first second rest ≡ Err e → Holds H bytes e
    unfolding parts_at is_completed
    parts_fail rest e at is =
        by_err (part_at fault (stored_bytes first) rest) _ e is
        (λ none. let g = part_fails fault cell_data (start + 2) rest at (stored_bytes first) e none in too_long e (start + 2 + stored_bytes first) g.0 (omega (arith, g.1, counted)) (omega (arith, next))) (λ stored e0 k0.
        let f0 = part_found fault cell_data (start + 2) rest at (stored_bytes first) stored e0 in
        let held_at : ℕ = start + 2 + stored_bytes first in
        let held_len : ℕ = (second + 1) / 2 in
        by_err (part_at fault held_len stored.1) _ e k0
        (λ none. let g = part_fails fault cell_data held_at stored.1 f0.1 held_len e none in too_long e (held_at + held_len) g.0 (omega (arith, g.1, counted)) (omega (arith, next))) (λ held e1 k1.
        let f1 = part_found fault cell_data held_at stored.1 f0.1 held_len held e1 in
        by_err (numbers_at fault s.size (first % 8) held.1) _ e k1
        (λ none. let g = numbers_fail fault cell_data (held_at + held_len) held.1 f1.1 s.size (first % 8) e none in too_long e (held_at + held_len + first % 8 * s.size) g.0 (omega (arith, g.1, counted)) (omega (arith, next))) (λ refs e2 k2.
        let f2 = numbers_found fault cell_data (held_at + held_len) held.1 f1.1 s.size (first % 8) refs e2 in
        let there : stated_start bytes (number + 1) ≤ total = omega (arith, next, f2.2.within, counted) in
        let long : length held.0 ≡ held_len = ap length f1.0 ∙ length-take-le held_len (drop held_at cell_data) (omega (arith, length-drop held_at cell_data, f1.1.within)) in
        by_fail (is_completed second held.0) (Completion number) _ e k2
        (λ wrong same.
        let w = not_completed second (get_or held.0 (length held.0 - 1) 0) wrong in
        let last : get_or held.0 (length held.0 - 1) 0 ≡ stated_last bytes number =
        ap₂ (λ (xs : List ℕ) (n : ℕ). get_or xs (n - 1) 0) f1.0 long
        ∙ get_or-take held_len (drop held_at cell_data) (held_len - 1) 0 (omega (arith, w.0))
        ∙ get_or-drop held_at cell_data (held_len - 1) 0
        ∙ ap (λ n. get_or cell_data n 0) (let same-place : held_at + (held_len - 1) ≡ start + (held_end bytes number - 1) = omega (arith, w.0) in same-place)
        ∙ sym (get_or-drop start cell_data (held_end bytes number - 1) 0)
        in
        let small : stated_last bytes number < 256 = subst (λ n. n < 256) (sym (get_or-drop start cell_data (held_end bytes number - 1) 0)) (fit (start + (held_end bytes number - 1))) in
        subst (Holds H bytes) same (record { before = header; number = in'; there = there; cut = w.0; none = no_bit (stated_last bytes number) small (sym (ap (λ n. n % 128) last) ∙ w.1) })) (λ completed k3.
        by_fail (list_all (is_later cells number) refs.0) (Order number) _ e k3
        (λ wrong same.
        let w = wrong_ref cells number refs.0 wrong in
        let named : w.place < first % 8 = omega (arith, w.within, f2.1) in
        let ref : get_or refs.0 w.place 0 ≡ stated_ref bytes number w.place =
        f2.0 w.place named
        ∙ ap (λ n. number_in n s.size cell_data) (let same-place : held_at + held_len + w.place * s.size ≡ start + (held_end bytes number + w.place * s.size) = omega arith in same-place)
        ∙ sym (number_in-drop start (held_end bytes number + w.place * s.size) s.size cell_data)
        in
        subst (Holds H bytes) same (record { before = header; number = in'; there = there; place = w.place; counted = named; wrong = subst (λ n. (n ≤ number) ⊎ (cells ≤ n)) ref w.wrong })) (λ later k4.
        absurd cc)))))

    parts_end : (rest : List ℕ) (x : Text × List ℕ) → Stands cell_data (start + 2) rest → parts_at fault s.size cells number first second rest ≡ Ok x → Stands cell_data (stated_start bytes (number + 1)) x.1
    unfolding parts_at
    parts_end rest x at is =
        by_ok (part_at fault (stored_bytes first) rest) _ x is (λ stored e0 k0.
        let f0 = part_found fault cell_data (start + 2) rest at (stored_bytes first) stored e0 in
        by_ok (part_at fault ((second + 1) / 2) stored.1) _ x k0 (λ held e1 k1.
        let f1 = part_found fault cell_data (start + 2 + stored_bytes first) stored.1 f0.1 ((second + 1) / 2) held e1 in
        by_ok (numbers_at fault s.size (first % 8) held.1) _ x k1 (λ refs e2 k2.
        let f2 = numbers_found fault cell_data (start + 2 + stored_bytes first + (second + 1) / 2) held.1 f1.1 s.size (first % 8) refs e2 in
        by_test (is_completed second held.0) (Completion number) _ x k2 (λ completed k3.
        by_test (list_all (is_later cells number) refs.0) (Order number) _ x k3 (λ later k4.
        subst (λ (y : Text × List ℕ). Stands cell_data (stated_start bytes (number + 1)) y.1) (ok_is (text_of first second stored.0 held.0 refs.0, refs.1) x k4)
        (Stands-at cell_data (start + 2 + stored_bytes first + (second + 1) / 2 + first % 8 * s.size) (stated_start bytes (number + 1)) refs.1 (omega (arith, next)) f2.2))))))

    behind_two : (a b : ℕ) (more : List ℕ) → Stands cell_data start (a ∷ b ∷ more) → Stands cell_data (start + 2) more
    behind_two a b more at = record { is = ap (drop 2) at.is ∙ drop-drop 2 start cell_data; within = omega (arith, length-standing cell_data start (a ∷ b ∷ more) at) }

    text_fails : (rest : List ℕ) (e : BagFault) → Stands cell_data start rest → text_at fault s.size cells number rest ≡ Err e → Holds H bytes e
    unfolding text_at
    text_fails [] e at is = too_long e (start + 1) (err_is {A = Text × List ℕ} fault e is) (omega (arith, length-standing cell_data start [] at, counted)) (omega (arith, next))
    text_fails (a ∷ []) e at is = too_long e (start + 2) (err_is {A = Text × List ℕ} fault e is) (omega (arith, length-standing cell_data start (a ∷ []) at, counted)) (omega (arith, next))
    text_fails (a ∷ b ∷ more) e at is =
        let is-first : a ≡ first = ap (λ (w : List ℕ). get_or w 0 0) at.is in
        let is-second : b ≡ second = ap (λ (w : List ℕ). get_or w 1 0) at.is in
        by_fail (leb (a % 8) 4) (Descriptor number) _ e is
        (λ many same. subst (Holds H bytes) same (record { before = header; number = in'; there = omega (arith, length-standing cell_data start (a ∷ b ∷ more) at, counted); many = subst (λ n. 4 < n % 8) is-first (over_four (a % 8) many) })) (λ few k.
        parts_fail more e (behind_two a b more at) (sym (ap₂ (λ m n. parts_at fault s.size cells number m n more) is-first is-second) ∙ k))
      where
        over_four : (n : ℕ) → leb n 4 ≡ false → 4 < n
        over_four n over = grind (arith, nat_tests)

    text_end : (rest : List ℕ) (x : Text × List ℕ) → Stands cell_data start rest → text_at fault s.size cells number rest ≡ Ok x → Stands cell_data (stated_start bytes (number + 1)) x.1
    unfolding text_at
    text_end [] x at is = absurd cc
    text_end (a ∷ []) x at is = absurd cc
    text_end (a ∷ b ∷ more) x at is =
        let is-first : a ≡ first = ap (λ (w : List ℕ). get_or w 0 0) at.is in
        let is-second : b ≡ second = ap (λ (w : List ℕ). get_or w 1 0) at.is in
        by_test (leb (a % 8) 4) (Descriptor number) _ x is (λ few k.
        parts_end more x (behind_two a b more at) (sym (ap₂ (λ m n. parts_at fault s.size cells number m n more) is-first is-second) ∙ k))

  -- ---- all texts

  -- what is left of an index
  abbrev index_from : List ℕ → ℕ → List ℕ
  index_from index number = drop (number * s.off_bytes) index

  index_next : (index : List ℕ) (number : ℕ) → drop s.off_bytes (index_from index number) ≡ index_from index (number + 1)
  index_next index number = drop-drop s.off_bytes (number * s.off_bytes) index ∙ ap (λ n. drop n index) (let next : number * s.off_bytes + s.off_bytes ≡ (number + 1) * s.off_bytes = omega arith in next)

  used_here : (number : ℕ) (rest : List ℕ) → Stands cell_data (stated_start bytes number) rest → total - length rest ≡ stated_start bytes number
  used_here number rest at = omega (arith, length-standing cell_data (stated_start bytes number) rest at, counted)

  module _ (index : List ℕ) (entries : s.has_index ≡ true → (number : ℕ) → number < cells → from_big (take s.off_bytes (index_from index number)) ≡ stated_entry bytes number) where
    wrong_end : (number end : ℕ) → number < cells → is_end s (index_from index number) end ≡ false → (s.has_index ≡ true) × (end_of_entry s (stated_entry bytes number) ≢ end)
    unfolding is_end
    wrong_end number end in' wrong =
        by_index s.has_index refl wrong
      where
        by_index : (has : Bool) → s.has_index ≡ has → cond has (eqb (end_of_entry s (from_big (take s.off_bytes (index_from index number)))) end) true ≡ false → (s.has_index ≡ true) × (end_of_entry s (stated_entry bytes number) ≢ end)
        by_index true is other = (is, subst (λ n. end_of_entry s n ≢ end) (entries is number in') (eqb-false (end_of_entry s (from_big (take s.off_bytes (index_from index number)))) end other))
        by_index false is other = absurd (true≢false other)

    pub texts_fail : (left number : ℕ) (rest : List ℕ) (e : BagFault) → number + left ≡ cells → Stands cell_data (stated_start bytes number) rest → texts_at s cells total left number (index_from index number) rest ≡ Err e → Holds H bytes e
    unfolding texts_at
    texts_fail zero number rest e all at is =
        let used = used_here number rest at in
        by_fail (eqb (length rest) 0) (Length total (total - length rest) number) _ e is
        (λ left same.
        subst (Holds H bytes) (ap (λ n. Length total n number) (sym used) ∙ same)
        (record { before = header; stated_is = refl; used_is = refl; wrong = inr ((let last : number ≡ cells = omega arith in last), omega (arith, length-standing cell_data (stated_start bytes number) rest at, counted, eqb-false (length rest) 0 left)) })) (λ none k. absurd cc)
    texts_fail (suc left) number rest e all at is =
        let used = used_here number rest at in
        let in' : number < cells = omega arith in
        let fault = Length total (total - length rest) number in
        let same : fault ≡ Length total (stated_start bytes number) number = ap (λ n. Length total n number) used in
        by_err (text_at fault s.size cells number rest) _ e is
        (λ wrong. text_fails number in' rest e at (sym (ap (λ f. text_at f s.size cells number rest) same) ∙ wrong)) (λ text e0 k0.
        let next-at = text_end number in' rest text at (sym (ap (λ f. text_at f s.size cells number rest) same) ∙ e0) in
        let end = used_here (number + 1) text.1 next-at in
        by_fail (is_end s (index_from index number) (total - length text.1)) (Index number) _ e k0
        (λ wrong same-fault.
        let w = wrong_end number (total - length text.1) in' wrong in
        subst (Holds H bytes) same-fault (record { before = header; number = in'; there = omega (arith, next-at.within, counted); announced = w.0; differ = subst (λ n. end_of_entry s (stated_entry bytes number) ≢ n) end w.1 })) (λ ended k1.
        by_err (texts_at s cells total left (number + 1) (drop s.off_bytes (index_from index number)) text.1) _ e k1
        (λ wrong. texts_fail left (number + 1) text.1 e (omega arith) next-at (ap (λ (w : List ℕ). texts_at s cells total left (number + 1) w text.1) (sym (index_next index number)) ∙ wrong)) (λ others e2 k2. absurd cc)))
