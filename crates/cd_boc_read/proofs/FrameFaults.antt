-- A fault of the frame is a row that holds of the bytes.
use Rattle.std.proofs.Common.{sym, ap₂, leb-true, ◌≡◌, ◌≢◌, ℕ, zero, suc, ◌+◌, ◌-◌, ◌*◌, ◌/◌, ◌%◌, ◌<◌, ◌≤◌, ◌⊎◌, ◌&&◌, ◌||◌, not, Bool, true, false, cond, eqb, leb, ltb, List, [], ◌∷◌, length, get_or, subst, take, drop, Result, Ok, Err, refl, ap, ◌∙◌, inl, inr, add-zero, arith}
use Rattle.std.proofs.lemmas.Bool.{ltb-true, ltb-false, eqb-true, eqb-false, true≢false}
use Rattle.std.proofs.lemmas.Bool.Decides.{nat_tests}
use Rattle.std.proofs.lemmas.List.{drop-drop, drop-take, take-take, take_all, length-drop, length-take-le}
use Rattle.std.proofs.Math.Nat.{mul-le-mul_right}
use Rattle.cd_base.specs.Numbers.{from_big, from_little}
use Rattle.cd_base.specs.Checksum.{crc32c}
use Rattle.cd_base.specs.declared.hash.Hash256.{Hash256}
use Rattle.cd_boc_write.specs.declared.shape.Shape.{Shape}
use Rattle.cd_boc_write.specs.Frames.{Frame}
use Rattle.cd_boc_write.specs.CellTexts.{Text}
use Rattle.cd_boc_read.specs.declared.bag_fault.BagFault.{BagFault}
use Rattle.cd_boc_read.specs.declared.bag_fault.BagFault.TheVariants.{Magic, Flags, Sizes, Cut, Roots, Absent, Limit, RootIndex, Extra, Crc}
use Rattle.cd_boc_read.specs.declared.counts.Counts.{Counts}
use Rattle.cd_boc_read.specs.Reading.{numbers_in, numbers_at, shape_of, shape_at, are_flags, are_sizes, counts_at, are_cells, roots_at, index_len, end_at, FrameParts, texts_at, frame_of, frame_at, bag_at}
use Rattle.cd_base.specs.Reading.{◌>>=◌, require, part_at, byte_at, number_at}
use Rattle.cd_boc_read.specs.Places.{stated_root, number_in, stated_shape, stated_cells, stated_roots, stated_total, roots_start, index_start, data_start, data_end, bag_end, stated_data}
use Rattle.cd_boc_read.specs.FaultRows.{IsShapeRight, AreRootsCounted, AreCountsRight, IsHeaderRight, Holds}
use Rattle.cd_base.proofs.ReadingLaws.{by_test, ok_is, by_ok}
use Rattle.cd_boc_read.proofs.PlaceLaws.{Stands, Stands-start, Stands-at, length-standing, part_found, byte_found, number_found}
use Rattle.cd_boc_read.proofs.NumberFields.{both, length-numbers_in}
use Rattle.cd_boc_read.proofs.HeaderLaws.{cells_below}

-- ---- steps that fail

failed : {A : Type 0} → BagFault → Result A BagFault
failed e = Err e

pub err_is : {A : Type 0} (d e : BagFault) → ◌≡◌ {A = Result A BagFault} (Err d) (Err e) → d ≡ e
err_is d e is = cc

pub by_err : {A B P : Type 0} (r : Result A BagFault) (f : A → Result B BagFault) (e : BagFault) → (r >>= f) ≡ Err e → (r ≡ Err e → P) → ((x : A) → r ≡ Ok x → f x ≡ Err e → P) → P
by_err {A} {B} (Err d) f e is here later = here (ap (λ (fault : BagFault). Err fault) (err_is {A = B} d e is))
by_err (Ok x) f e is here later = later x refl is

pub by_fail : {B P : Type 0} (b : Bool) (fault : BagFault) (f : Unit {0} → Result B BagFault) (e : BagFault) → (require b fault >>= f) ≡ Err e → (b ≡ false → fault ≡ e → P) → (b ≡ true → f tt ≡ Err e → P) → P
by_fail {B} false fault f e is here later = here refl (err_is {A = B} fault e is)
by_fail true fault f e is here later = later refl is

pub test_fails : (b : Bool) (fault e : BagFault) → require b fault ≡ Err e → (b ≡ false) × (fault ≡ e)
test_fails false fault e is = (refl, err_is {A = Unit {0}} fault e is)
test_fails true fault e is = absurd cc

short_part : {A : Type 0} (b : Bool) (d : BagFault) (x : A) (e : BagFault) → cond b (Err d) (Ok x) ≡ Err e → (b ≡ true) × (d ≡ e)
short_part {A} true d x e is = (refl, err_is {A = A} d e is)
short_part false d x e is = absurd cc

module _ (fault : BagFault) (bytes : List ℕ) (place : ℕ) (rest : List ℕ) (s : Stands bytes place rest) where
  pub part_fails : (len : ℕ) (e : BagFault) → part_at fault len rest ≡ Err e → (fault ≡ e) × (length bytes < place + len)
  unfolding part_at
  part_fails len e is =
      let g = short_part (ltb (length rest) len) fault (take len rest, drop len rest) e is in
      let short : length rest < len = ltb-true (length rest) len g.0 in
      (g.1, omega (arith, length-standing bytes place rest s))

  pub number_fails : (len : ℕ) (e : BagFault) → number_at fault len rest ≡ Err e → (fault ≡ e) × (length bytes < place + len)
  unfolding number_at
  number_fails len e is = by_err (part_at fault len rest) _ e is (λ none. part_fails len e none) (λ x found is'. absurd cc)

  pub numbers_fail : (len count : ℕ) (e : BagFault) → numbers_at fault len count rest ≡ Err e → (fault ≡ e) × (length bytes < place + count * len)
  unfolding numbers_at
  numbers_fail len count e is = by_err (part_at fault (count * len) rest) _ e is (λ none. part_fails (count * len) e none) (λ x found is'. absurd cc)

pub byte_fails : (fault : BagFault) (bytes : List ℕ) (place : ℕ) (rest : List ℕ) → Stands bytes place rest → (e : BagFault) → byte_at fault rest ≡ Err e → (fault ≡ e) × (length bytes < place + 1)
unfolding byte_at
byte_fails fault bytes place [] s e is = (err_is {A = ℕ × List ℕ} fault e is, omega (arith, length-standing bytes place [] s))
byte_fails fault bytes place (b ∷ rest) s e is = absurd cc

-- ---- tests that fail

pub not_both : (a b : Bool) → (a && b) ≡ false → (a ≡ false) ⊎ (b ≡ false)
not_both true b e = inr e
not_both false b e = inl refl

not_either : (a b : Bool) → (not a || b) ≡ false → (a ≡ true) × (b ≡ false)
not_either true b e = (refl, e)
not_either false b e = absurd (true≢false e)

wrong_flags : (flags : ℕ) → are_flags flags ≡ false → (flags / 8 % 4 ≢ 0) ⊎ ((flags / 32 % 2 ≡ 1) × (flags / 128 % 2 ≢ 1))
unfolding are_flags
wrong_flags flags wrong =
    elim (not_both (eqb (flags / 8 % 4) 0) (not (eqb (flags / 32 % 2) 1) || eqb (flags / 128 % 2) 1) wrong) [
      | inl set ↦ inl (eqb-false (flags / 8 % 4) 0 set)
      | inr cache ↦ (let c = not_either (eqb (flags / 32 % 2) 1) (eqb (flags / 128 % 2) 1) cache in inr (eqb-true (flags / 32 % 2) 1 c.0, eqb-false (flags / 128 % 2) 1 c.1))
    ]

pub wrong_sizes : (size off_bytes : ℕ) → are_sizes size off_bytes ≡ false → (size ≡ 0) ⊎ (4 < size) ⊎ (off_bytes ≡ 0) ⊎ (8 < off_bytes)
unfolding are_sizes
wrong_sizes size off_bytes wrong = grind (arith, nat_tests)

-- ---- the header

pub shape_fails : (H : List ℕ → Hash256) (bytes : List ℕ) (e : BagFault) → shape_at (Cut (length bytes)) bytes ≡ Err e → Holds H bytes e
unfolding shape_at
shape_fails H bytes e is =
    let cut = Cut (length bytes) in
    let short : (at : ℕ) → length bytes < at → at ≤ 6 → (fault : BagFault) → cut ≡ fault → Holds H bytes fault = λ at lt few fault same. subst (Holds H bytes) same (record { end = refl; short = omega arith }) in
    by_err (number_at cut 4 bytes) _ e is (λ none. let g = number_fails cut bytes 0 bytes (Stands-start bytes) 4 e none in short (0 + 4) g.1 (omega arith) e g.0) (λ magic e0 k0.
    let f0 = number_found cut bytes 0 bytes (Stands-start bytes) 4 magic e0 in
    by_fail (eqb magic.0 0xb5ee9c72) (Magic magic.0) _ e k0
    (λ other same. subst (Holds H bytes) same (record { there = omega (arith, f0.1.within); stated = f0.0; other = eqb-false magic.0 0xb5ee9c72 other })) (λ is_magic k1.
    by_err (byte_at cut magic.1) _ e k1 (λ none. let g = byte_fails cut bytes 4 magic.1 f0.1 e none in short (4 + 1) g.1 (omega arith) e g.0) (λ flags e2 k2.
    let f1 = byte_found cut bytes 4 magic.1 f0.1 flags e2 in
    by_err (byte_at cut flags.1) _ e k2 (λ none. let g = byte_fails cut bytes 5 flags.1 f1.1 e none in short (5 + 1) g.1 (omega arith) e g.0) (λ off_bytes e3 k3.
    let f2 = byte_found cut bytes 5 flags.1 f1.1 off_bytes e3 in
    by_fail (are_flags flags.0) (Flags flags.0) _ e k3
    (λ wrong same. subst (Holds H bytes) same (record { before = sym f0.0 ∙ eqb-true magic.0 0xb5ee9c72 is_magic; there = omega (arith, f2.1.within); stated = f1.0; wrong = wrong_flags flags.0 wrong })) (λ known k4.
    by_fail (are_sizes (flags.0 % 8) off_bytes.0) (Sizes (flags.0 % 8) off_bytes.0) _ e k4
    (λ wrong same. subst (Holds H bytes) same (record { before = (sym f0.0 ∙ eqb-true magic.0 0xb5ee9c72 is_magic, ap are_flags (sym f1.0) ∙ known); there = omega (arith, f2.1.within); size_is = ap (λ n. n % 8) f1.0; off_bytes_is = f2.0; wrong = wrong_sizes (flags.0 % 8) off_bytes.0 wrong })) (λ sized k5.
    absurd cc))))))

-- what the first six bytes give that are read
pub record IsShapeFound (bytes : List ℕ) (x : Shape × List ℕ) : Type 0 where
  pub is : x.0 ≡ stated_shape bytes
  pub rest : Stands bytes 6 x.1
  pub right : IsShapeRight bytes

pub shape_found : (bytes : List ℕ) (x : Shape × List ℕ) → shape_at (Cut (length bytes)) bytes ≡ Ok x → IsShapeFound bytes x
unfolding shape_at stated_shape
shape_found bytes x e =
    let cut = Cut (length bytes) in
    by_ok (number_at cut 4 bytes) _ x e (λ magic e0 k0.
    by_test (eqb magic.0 0xb5ee9c72) (Magic magic.0) _ x k0 (λ is_magic k1.
    by_ok (byte_at cut magic.1) _ x k1 (λ flags e2 k2.
    by_ok (byte_at cut flags.1) _ x k2 (λ off_bytes e3 k3.
    by_test (are_flags flags.0) (Flags flags.0) _ x k3 (λ known k4.
    by_test (are_sizes (flags.0 % 8) off_bytes.0) (Sizes (flags.0 % 8) off_bytes.0) _ x k4 (λ sized k5.
    let f0 = number_found cut bytes 0 bytes (Stands-start bytes) 4 magic e0 in
    let f1 = byte_found cut bytes 4 magic.1 f0.1 flags e2 in
    let f2 = byte_found cut bytes 5 flags.1 f1.1 off_bytes e3 in
    subst (IsShapeFound bytes) (ok_is (shape_of flags.0 off_bytes.0, off_bytes.1) x k5) (record {
      is = ap₂ shape_of f1.0 f2.0;
      rest = f2.1;
      right = record {
        magic = sym f0.0 ∙ eqb-true magic.0 0xb5ee9c72 is_magic;
        flags = ap are_flags (sym f1.0) ∙ known;
        sizes = ap₂ (λ m n. are_sizes (m % 8) n) (sym f1.0) (sym f2.0) ∙ sized;
      };
    })))))))

roots_counted : (roots cells : ℕ) → (leb 1 roots && leb roots cells) ≡ true → (1 ≤ roots) × (roots ≤ cells)
roots_counted roots cells rooted = let r = both (leb 1 roots) (leb roots cells) rooted in (leb-true 1 roots r.0, leb-true roots cells r.1)

roots_as : {r r' c c' : ℕ} → r ≡ r' → c ≡ c' → (1 ≤ r) × (r ≤ c) → (1 ≤ r') × (r' ≤ c')
roots_as {r} {r'} {c} {c'} same-r same-c h = (omega (arith, same-r, h.0), omega (arith, same-r, same-c, h.1))

wrong_roots : (roots cells : ℕ) → (leb 1 roots && leb roots cells) ≡ false → (roots ≡ 0) ⊎ (cells < roots)
wrong_roots roots cells wrong = grind (arith, nat_tests)

over_limit : (cells : ℕ) → leb cells 1048576 ≡ false → 1048576 < cells
over_limit cells over = grind (arith, nat_tests)

pub counts_fail : (H : List ℕ → Hash256) (bytes rest : List ℕ) (e : BagFault) → IsShapeRight bytes → Stands bytes 6 rest → counts_at (Cut (length bytes)) (stated_shape bytes) rest ≡ Err e → Holds H bytes e
unfolding counts_at
counts_fail H bytes rest e shape at is =
    let cut = Cut (length bytes) in
    let s = stated_shape bytes in
    let short : (at : ℕ) → length bytes < at → at ≤ roots_start bytes → (fault : BagFault) → cut ≡ fault → Holds H bytes fault = λ at lt few fault same. subst (Holds H bytes) same (record { end = refl; short = omega arith }) in
    by_err (number_at cut s.size rest) _ e is (λ none. let g = number_fails cut bytes 6 rest at s.size e none in short (6 + s.size) g.1 (omega arith) e g.0) (λ cells e0 k0.
    let f0 = number_found cut bytes 6 rest at s.size cells e0 in
    by_err (number_at cut s.size cells.1) _ e k0 (λ none. let g = number_fails cut bytes (6 + s.size) cells.1 f0.1 s.size e none in short (6 + s.size + s.size) g.1 (omega arith) e g.0) (λ roots e1 k1.
    let f1 = number_found cut bytes (6 + s.size) cells.1 f0.1 s.size roots e1 in
    by_err (number_at cut s.size roots.1) _ e k1 (λ none. let g = number_fails cut bytes (6 + s.size + s.size) roots.1 f1.1 s.size e none in short (6 + s.size + s.size + s.size) g.1 (omega arith) e g.0) (λ absent e2 k2.
    let f2 = number_found cut bytes (6 + 2 * s.size) roots.1 (Stands-at bytes (6 + s.size + s.size) (6 + 2 * s.size) roots.1 (omega arith) f1.1) s.size absent e2 in
    let third = Stands-at bytes (6 + 2 * s.size + s.size) (6 + 3 * s.size) absent.1 (omega arith) f2.1 in
    by_err (number_at cut s.off_bytes absent.1) _ e k2 (λ none. let g = number_fails cut bytes (6 + 3 * s.size) absent.1 third s.off_bytes e none in short (6 + 3 * s.size + s.off_bytes) g.1 (omega arith) e g.0) (λ total e3 k3.
    let f3 = number_found cut bytes (6 + 3 * s.size) absent.1 third s.off_bytes total e3 in
    let there : roots_start bytes ≤ length bytes = f3.1.within in
    by_fail (leb 1 roots.0 && leb roots.0 cells.0) (Roots roots.0 cells.0) _ e k3
    (λ wrong same. subst (Holds H bytes) same (record { before = shape; there = there; roots_are = f1.0; cells_are = f0.0; wrong = wrong_roots roots.0 cells.0 wrong })) (λ rooted k4.
    let counted : AreRootsCounted bytes = roots_as f1.0 f0.0 (roots_counted roots.0 cells.0 rooted) in
    by_fail (eqb absent.0 0) (Absent absent.0) _ e k4
    (λ some same. subst (Holds H bytes) same (record { before = (shape, counted); there = there; stated = f2.0; some = eqb-false absent.0 0 some })) (λ none k5.
    by_fail (leb cells.0 1048576) (Limit cells.0) _ e k5
    (λ over same. subst (Holds H bytes) same (record { before = (shape, counted, sym f2.0 ∙ eqb-true absent.0 0 none); there = there; stated = f0.0; over = over_limit cells.0 over })) (λ few k6.
    absurd cc)))))))

-- the counts of the header, as they stand at their places
abbrev pub counts_stated : List ℕ → Counts
counts_stated bytes = record { cells = stated_cells bytes; roots = stated_roots bytes; total = stated_total bytes }

counts_are : {c c' r r' t t' : ℕ} → c ≡ c' → r ≡ r' → t ≡ t' → ◌≡◌ {A = Counts} (record { cells = c; roots = r; total = t }) (record { cells = c'; roots = r'; total = t' })
counts_are {c} {c'} {r} {r'} {t} {t'} cells roots total =
    ap (λ n. record { cells = n; roots = r; total = t }) cells ∙ ap (λ n. record { cells = c'; roots = n; total = t }) roots ∙ ap (λ n. record { cells = c'; roots = r'; total = n }) total

-- what the numbers behind them give
pub record AreCountsFound (bytes : List ℕ) (x : Counts × List ℕ) : Type 0 where
  pub are : x.0 ≡ counts_stated bytes
  pub rest : Stands bytes (roots_start bytes) x.1
  pub right : AreCountsRight bytes

pub counts_found : (bytes rest : List ℕ) (x : Counts × List ℕ) → IsShapeRight bytes → Stands bytes 6 rest → counts_at (Cut (length bytes)) (stated_shape bytes) rest ≡ Ok x → AreCountsFound bytes x
unfolding counts_at
counts_found bytes rest x shape at e =
    let cut = Cut (length bytes) in
    let s = stated_shape bytes in
    by_ok (number_at cut s.size rest) _ x e (λ cells e0 k0.
    by_ok (number_at cut s.size cells.1) _ x k0 (λ roots e1 k1.
    by_ok (number_at cut s.size roots.1) _ x k1 (λ absent e2 k2.
    by_ok (number_at cut s.off_bytes absent.1) _ x k2 (λ total e3 k3.
    by_test (leb 1 roots.0 && leb roots.0 cells.0) (Roots roots.0 cells.0) _ x k3 (λ rooted k4.
    by_test (eqb absent.0 0) (Absent absent.0) _ x k4 (λ none k5.
    by_test (leb cells.0 1048576) (Limit cells.0) _ x k5 (λ few k6.
    let f0 = number_found cut bytes 6 rest at s.size cells e0 in
    let f1 = number_found cut bytes (6 + s.size) cells.1 f0.1 s.size roots e1 in
    let f2 = number_found cut bytes (6 + 2 * s.size) roots.1 (Stands-at bytes (6 + s.size + s.size) (6 + 2 * s.size) roots.1 (omega arith) f1.1) s.size absent e2 in
    let f3 = number_found cut bytes (6 + 3 * s.size) absent.1 (Stands-at bytes (6 + 2 * s.size + s.size) (6 + 3 * s.size) absent.1 (omega arith) f2.1) s.off_bytes total e3 in
    subst (AreCountsFound bytes) (ok_is (record { cells = cells.0; roots = roots.0; total = total.0 }, total.1) x k6) (record {
      are = counts_are f0.0 f1.0 f3.0;
      rest = f3.1;
      right = record {
        shape = shape;
        rooted = roots_as f1.0 f0.0 (roots_counted roots.0 cells.0 rooted);
        none = sym f2.0 ∙ eqb-true absent.0 0 none;
        few = subst (λ n. n ≤ 1048576) f0.0 (leb-true cells.0 1048576 few);
      };
    }))))))))

-- ---- the roots

-- what stands within the first bytes stands in all of them
pub within_front : (n m k : ℕ) (xs : List ℕ) → n + m ≤ k → take m (drop n (take k xs)) ≡ take m (drop n xs)
within_front n m k xs fits =
    let split : k ≡ n + (k - n) = omega arith in
    ap (λ j. take m (drop n (take j xs))) split
    ∙ ap (take m) (drop-take n (k - n) xs)
    ∙ take-take m (k - n) (drop n xs) (let room : m ≤ k - n = omega arith in room)

numbers_in-at : (len count p : ℕ) (xs : List ℕ) → p < count → get_or (numbers_in len count xs) p 0 ≡ from_big (take len (drop (p * len) xs))
unfolding numbers_in
numbers_in-at len zero p xs in' = absurd (omega arith)
numbers_in-at len (suc count) zero xs in' = ap (λ n. from_big (take len (drop n xs))) (let none : 0 ≡ 0 * len = omega arith in none)
numbers_in-at len (suc count) (suc p) xs in' =
    numbers_in-at len count p (drop len xs) (omega arith)
    ∙ ap (λ (w : List ℕ). from_big (take len w)) (drop-drop (p * len) len xs ∙ ap (λ n. drop n xs) (let next : len + p * len ≡ suc p * len = omega arith in next))

pub numbers_found : (fault : BagFault) (bytes : List ℕ) (place : ℕ) (rest : List ℕ) → Stands bytes place rest → (len count : ℕ) (x : List ℕ × List ℕ) → numbers_at fault len count rest ≡ Ok x
    → ((p : ℕ) → p < count → get_or x.0 p 0 ≡ number_in (place + p * len) len bytes) × (length x.0 ≡ count) × Stands bytes (place + count * len) x.1
unfolding numbers_at number_in
numbers_found fault bytes place rest s len count x e =
    by_ok (part_at fault (count * len) rest) _ x e (λ part e0 k0.
    let f = part_found fault bytes place rest s (count * len) part e0 in
    let each : (p : ℕ) → p < count → get_or (numbers_in len count part.0) p 0 ≡ from_big (take len (drop (place + p * len) bytes)) = λ p in'.
    let room : p * len + len ≤ count * len = omega (arith, mul-le-mul_right len (let next : p + 1 ≤ count = omega arith in next)) in
    numbers_in-at len count p part.0 in'
    ∙ ap (λ (w : List ℕ). from_big (take len (drop (p * len) w))) f.0
    ∙ ap from_big (within_front (p * len) len (count * len) (drop place bytes) room)
    ∙ ap (λ (w : List ℕ). from_big (take len w)) (drop-drop (p * len) place bytes)
    in
    subst (λ (y : List ℕ × List ℕ). ((p : ℕ) → p < count → get_or y.0 p 0 ≡ from_big (take len (drop (place + p * len) bytes))) × (length y.0 ≡ count) × Stands bytes (place + count * len) y.1)
    (ok_is (numbers_in len count part.0, part.1) x k0) (each, length-numbers_in len count part.0, f.1))

-- the first number that names no cell
record IsFirstOver (cells place : ℕ) (ns : List ℕ) (e : BagFault) : Type 0 where
  at : ℕ
  within : at < length ns
  fault : RootIndex (place + at) ≡ e
  over : cells ≤ get_or ns at 0
  first : (earlier : ℕ) → earlier < at → get_or ns earlier 0 < cells

over_more : (cells place n : ℕ) (ns : List ℕ) (e : BagFault) → n < cells → IsFirstOver cells (place + 1) ns e → IsFirstOver cells place (n ∷ ns) e
over_more cells place n ns e low more = record {
  at = suc more.at;
  within = omega (arith, more.within);
  fault = ap RootIndex (let next : place + suc more.at ≡ place + 1 + more.at = omega arith in next) ∙ more.fault;
  over = more.over;
  first = before more.at more.first;
}
  where
    before : (at : ℕ) → ((earlier : ℕ) → earlier < at → get_or ns earlier 0 < cells) → (earlier : ℕ) → earlier < suc at → get_or (n ∷ ns) earlier 0 < cells
    before at h zero lt = low
    before at h (suc k) lt = h k (omega arith)

over_by : (cells place n : ℕ) (ns : List ℕ) (e : BagFault) (b : Bool) → ltb n cells ≡ b → cond b (are_cells cells (place + 1) ns) (Err (RootIndex place)) ≡ Err e
    → (are_cells cells (place + 1) ns ≡ Err e → IsFirstOver cells (place + 1) ns e) → IsFirstOver cells place (n ∷ ns) e
over_by cells place n ns e true low is more = over_more cells place n ns e (ltb-true n cells low) (more is)
over_by cells place n ns e false high is more = record {
  at = 0;
  within = omega arith;
  fault = ap RootIndex (add-zero place) ∙ err_is {A = Unit {0}} (RootIndex place) e is;
  over = ltb-false n cells high;
  first = λ k none. absurd (omega arith);
}

first_over : (cells place : ℕ) (ns : List ℕ) (e : BagFault) → are_cells cells place ns ≡ Err e → IsFirstOver cells place ns e
unfolding are_cells
first_over cells place [] e is = absurd cc
first_over cells place (n ∷ ns) e is = over_by cells place n ns e (ltb n cells) refl is (first_over cells (place + 1) ns e)

roots_fail : (H : List ℕ → Hash256) (bytes rest : List ℕ) (counts : Counts) (e : BagFault) → AreCountsRight bytes → counts.cells ≡ stated_cells bytes → counts.roots ≡ stated_roots bytes → Stands bytes (roots_start bytes) rest
    → roots_at (Cut (length bytes)) (stated_shape bytes).size counts rest ≡ Err e → Holds H bytes e
unfolding roots_at
roots_fail H bytes rest counts e before cells roots at is =
    let cut = Cut (length bytes) in
    let size = (stated_shape bytes).size in
    let place = roots_start bytes in
    let ends : place + counts.roots * size ≡ index_start bytes = ap (λ n. place + n * size) roots in
    by_err (numbers_at cut size counts.roots rest) _ e is
    (λ none. let g = numbers_fail cut bytes place rest at size counts.roots e none in subst (Holds H bytes) g.0 (record { end = refl; short = omega (arith, g.1, ends) })) (λ ns e0 k0.
    let f = numbers_found cut bytes place rest at size counts.roots ns e0 in
    by_err (are_cells counts.cells 0 ns.0) _ e k0 (λ wrong.
    let o = first_over counts.cells 0 ns.0 e wrong in
    let named : o.at < stated_roots bytes = omega (arith, o.within, f.1, roots) in
    subst (Holds H bytes) (ap RootIndex (let same : o.at ≡ 0 + o.at = omega arith in same) ∙ o.fault) (record {
      before = before;
      there = omega (arith, f.2.within, ends);
      named = named;
      none = omega (arith, o.over, f.0 o.at (omega (arith, o.within, f.1)), cells);
      first = λ earlier lt. omega (arith, o.first earlier lt, f.0 earlier (omega (arith, lt, o.within, f.1)), cells);
    })) (λ u e1 k1. absurd cc))

pub roots_found : (cut : BagFault) (bytes rest : List ℕ) (size : ℕ) (counts : Counts) → {place : ℕ} → Stands bytes place rest → (x : List ℕ × List ℕ) → roots_at cut size counts rest ≡ Ok x → Stands bytes (place + counts.roots * size) x.1
unfolding roots_at
roots_found cut bytes rest size counts {place} at x e =
    by_ok (numbers_at cut size counts.roots rest) _ x e (λ roots e0 k0.
    by_ok (are_cells counts.cells 0 roots.0) _ x k0 (λ u e1 k1.
    let f = numbers_found cut bytes place rest at size counts.roots roots e0 in
    subst (λ (y : List ℕ × List ℕ). Stands bytes (place + counts.roots * size) y.1) (ok_is roots x k1) f.2))

roots_right : (bytes rest : List ℕ) (counts : Counts) (x : List ℕ × List ℕ) → counts.cells ≡ stated_cells bytes → counts.roots ≡ stated_roots bytes → Stands bytes (roots_start bytes) rest
    → roots_at (Cut (length bytes)) (stated_shape bytes).size counts rest ≡ Ok x → (root : ℕ) → root < stated_roots bytes → stated_root bytes root < stated_cells bytes
unfolding roots_at
roots_right bytes rest counts x cells roots at e =
    let cut = Cut (length bytes) in
    let size = (stated_shape bytes).size in
    let place = roots_start bytes in
    by_ok (numbers_at cut size counts.roots rest) _ x e (λ ns e0 k0.
    by_ok (are_cells counts.cells 0 ns.0) _ x k0 (λ u e1 k1.
    let f = numbers_found cut bytes place rest at size counts.roots ns e0 in
    let below = cells_below counts.cells 0 ns.0 u e1 in
    λ root named. omega (arith, below root (omega (arith, named, f.1, roots)), f.0 root (omega (arith, named, roots)), cells)))

-- ---- the end

module _ (H : List ℕ → Hash256) (bytes rest : List ℕ) (header : IsHeaderRight bytes) (at : Stands bytes (data_end bytes) rest) (e : BagFault) where
  front_is : take (length bytes - length rest) bytes ≡ take (data_end bytes) bytes
  front_is = ap (λ n. take n bytes) (let same : length bytes - length rest ≡ data_end bytes = omega (arith, length-standing bytes (data_end bytes) rest at) in same)

  front_len : length (take (data_end bytes) bytes) ≡ data_end bytes
  front_len = length-take-le (data_end bytes) bytes at.within

  end_fails : (has : Bool) → (stated_shape bytes).has_crc ≡ has → end_at (Cut (length bytes)) has (take (data_end bytes) bytes) rest ≡ Err e → Holds H bytes e
  unfolding end_at
  end_fails true has is =
      let cut = Cut (length bytes) in
      let front = take (data_end bytes) bytes in
      let ends : bag_end bytes ≡ data_end bytes + 4 = ap (λ b. data_end bytes + cond b 4 0) has in
      by_err (part_at cut 4 rest) _ e is
      (λ none. let g = part_fails cut bytes (data_end bytes) rest at 4 e none in subst (Holds H bytes) g.0 (record { end = refl; short = omega (arith, g.1, ends) })) (λ crc e0 k0.
      let f = part_found cut bytes (data_end bytes) rest at 4 crc e0 in
      by_fail (eqb (length crc.1) 0) (Extra (length front + 4)) _ e k0
      (λ left same. subst (Holds H bytes) same (record { before = header; end = omega (arith, ends, front_len); left = omega (arith, ends, length-standing bytes (data_end bytes + 4) crc.1 f.1, eqb-false (length crc.1) 0 left) })) (λ none k1.
      let g = test_fails (eqb (from_little crc.0) (crc32c front)) (Crc (from_little crc.0) (crc32c front)) e k1 in
      let behind : length crc.1 ≡ 0 = eqb-true (length crc.1) 0 none in
      let whole : crc.0 ≡ drop (data_end bytes) bytes = f.0 ∙ take_all 4 (drop (data_end bytes) bytes) (omega (arith, length-drop (data_end bytes) bytes, length-standing bytes (data_end bytes + 4) crc.1 f.1)) in
      subst (Holds H bytes) g.1 (record {
        before = header;
        announced = has;
        whole = omega (arith, ends, length-standing bytes (data_end bytes + 4) crc.1 f.1);
        stated_is = ap from_little whole;
        real_is = refl;
        differ = eqb-false (from_little crc.0) (crc32c front) g.0;
      })))
  end_fails false has is =
      let ends : bag_end bytes ≡ data_end bytes + 0 = ap (λ b. data_end bytes + cond b 4 0) has in
      let g = test_fails (eqb (length rest) 0) (Extra (length (take (data_end bytes) bytes))) e is in
      subst (Holds H bytes) g.1 (record { before = header; end = omega (arith, ends, front_len); left = omega (arith, ends, length-standing bytes (data_end bytes) rest at, eqb-false (length rest) 0 g.0) })

-- ---- the frame

-- reading behind the shape, and behind the counts
abbrev behind_counts : List ℕ → Counts → List ℕ → Result FrameParts BagFault
behind_counts bytes counts rest = do
  roots ← roots_at (Cut (length bytes)) (stated_shape bytes).size counts rest
  index ← part_at (Cut (length bytes)) (index_len (stated_shape bytes) counts.cells) roots.1
  cell_data ← part_at (Cut (length bytes)) counts.total index.1
  _ ← end_at (Cut (length bytes)) (stated_shape bytes).has_crc (take (length bytes - length cell_data.1) bytes) cell_data.1
  Ok (record { shape = stated_shape bytes; cells = counts.cells; roots = roots.0; index = index.0; cell_data = cell_data.0 })

abbrev behind_shape : List ℕ → Shape → List ℕ → Result FrameParts BagFault
behind_shape bytes s rest = do
  counts ← counts_at (Cut (length bytes)) s rest
  roots ← roots_at (Cut (length bytes)) s.size counts.0 counts.1
  index ← part_at (Cut (length bytes)) (index_len s counts.0.cells) roots.1
  cell_data ← part_at (Cut (length bytes)) counts.0.total index.1
  _ ← end_at (Cut (length bytes)) s.has_crc (take (length bytes - length cell_data.1) bytes) cell_data.1
  Ok (record { shape = s; cells = counts.0.cells; roots = roots.0; index = index.0; cell_data = cell_data.0 })

behind_fails : (H : List ℕ → Hash256) (bytes rest : List ℕ) (e : BagFault) → AreCountsRight bytes → Stands bytes (roots_start bytes) rest → behind_counts bytes (counts_stated bytes) rest ≡ Err e → Holds H bytes e
behind_fails H bytes rest e before at is =
    let cut = Cut (length bytes) in
    let s = stated_shape bytes in
    let counts = counts_stated bytes in
    by_err (roots_at cut s.size counts rest) _ e is (λ wrong. roots_fail H bytes rest counts e before refl refl at wrong) (λ roots e0 k0.
    let header : IsHeaderRight bytes = record { counts = before; roots = roots_right bytes rest counts roots refl refl at e0 } in
    let f0 = roots_found cut bytes rest s.size counts at roots e0 in
    by_err (part_at cut (index_len s counts.cells) roots.1) _ e k0
    (λ none. let g = part_fails cut bytes (index_start bytes) roots.1 f0 (index_len s counts.cells) e none in subst (Holds H bytes) g.0 (record { end = refl; short = omega (arith, g.1) })) (λ index e1 k1.
    let f1 = part_found cut bytes (index_start bytes) roots.1 f0 (index_len s counts.cells) index e1 in
    by_err (part_at cut counts.total index.1) _ e k1
    (λ none. let g = part_fails cut bytes (data_start bytes) index.1 f1.1 counts.total e none in subst (Holds H bytes) g.0 (record { end = refl; short = omega (arith, g.1) })) (λ cell_data e2 k2.
    let f2 = part_found cut bytes (data_start bytes) index.1 f1.1 counts.total cell_data e2 in
    let front = front_is H bytes cell_data.1 header f2.1 e in
    by_err (end_at cut s.has_crc (take (length bytes - length cell_data.1) bytes) cell_data.1) _ e k2
    (λ wrong. end_fails H bytes cell_data.1 header f2.1 e s.has_crc refl (subst (λ (w : List ℕ). end_at cut s.has_crc w cell_data.1 ≡ Err e) front wrong)) (λ u e3 k3. absurd cc))))

pub frame_fails : (H : List ℕ → Hash256) (bytes : List ℕ) (e : BagFault) → frame_at bytes ≡ Err e → Holds H bytes e
unfolding frame_at
frame_fails H bytes e is =
    let cut = Cut (length bytes) in
    by_err (shape_at cut bytes) _ e is (λ wrong. shape_fails H bytes e wrong) (λ shape e0 k0.
    let f0 = shape_found bytes shape e0 in
    let k1 : behind_shape bytes (stated_shape bytes) shape.1 ≡ Err e = subst (λ (s : Shape). behind_shape bytes s shape.1 ≡ Err e) f0.is k0 in
    by_err (counts_at cut (stated_shape bytes) shape.1) _ e k1 (λ wrong. counts_fail H bytes shape.1 e f0.right f0.rest wrong) (λ counts e1 k2.
    let f1 = counts_found bytes shape.1 counts f0.right f0.rest e1 in
    behind_fails H bytes counts.1 e f1.right f1.rest (subst (λ (c : Counts). behind_counts bytes c counts.1 ≡ Err e) f1.are k2)))

-- the parts of a frame that was read are those at their places
pub record IsFrameFound (bytes : List ℕ) (p : FrameParts) : Type 0 where
  pub shape : p.shape ≡ stated_shape bytes
  pub cells : p.cells ≡ stated_cells bytes
  pub index : p.index ≡ take (index_len (stated_shape bytes) (stated_cells bytes)) (drop (index_start bytes) bytes)
  pub cell_data : p.cell_data ≡ stated_data bytes
  pub within : data_end bytes ≤ length bytes
  pub header : IsHeaderRight bytes

behind_found : (bytes rest : List ℕ) (p : FrameParts) → AreCountsRight bytes → Stands bytes (roots_start bytes) rest → behind_counts bytes (counts_stated bytes) rest ≡ Ok p → IsFrameFound bytes p
behind_found bytes rest p before at is =
    let cut = Cut (length bytes) in
    let s = stated_shape bytes in
    let counts = counts_stated bytes in
    by_ok (roots_at cut s.size counts rest) _ p is (λ roots e0 k0.
    let f0 = roots_found cut bytes rest s.size counts at roots e0 in
    by_ok (part_at cut (index_len s counts.cells) roots.1) _ p k0 (λ index e1 k1.
    let f1 = part_found cut bytes (index_start bytes) roots.1 f0 (index_len s counts.cells) index e1 in
    by_ok (part_at cut counts.total index.1) _ p k1 (λ cell_data e2 k2.
    let f2 = part_found cut bytes (data_start bytes) index.1 f1.1 counts.total cell_data e2 in
    by_ok (end_at cut s.has_crc (take (length bytes - length cell_data.1) bytes) cell_data.1) _ p k2 (λ u e3 k3.
    subst (IsFrameFound bytes) (ok_is (record { shape = s; cells = counts.cells; roots = roots.0; index = index.0; cell_data = cell_data.0 }) p k3)
    (record { shape = refl; cells = refl; index = f1.0; cell_data = f2.0; within = f2.1.within; header = record { counts = before; roots = roots_right bytes rest counts roots refl refl at e0 } })))))

pub frame_found : (bytes : List ℕ) (p : FrameParts) → frame_at bytes ≡ Ok p → IsFrameFound bytes p
unfolding frame_at
frame_found bytes p is =
    let cut = Cut (length bytes) in
    by_ok (shape_at cut bytes) _ p is (λ shape e0 k0.
    let f0 = shape_found bytes shape e0 in
    let k1 : behind_shape bytes (stated_shape bytes) shape.1 ≡ Ok p = subst (λ (s : Shape). behind_shape bytes s shape.1 ≡ Ok p) f0.is k0 in
    by_ok (counts_at cut (stated_shape bytes) shape.1) _ p k1 (λ counts e1 k2.
    let f1 = counts_found bytes shape.1 counts f0.right f0.rest e1 in
    behind_found bytes counts.1 p f1.right f1.rest (subst (λ (c : Counts). behind_counts bytes c counts.1 ≡ Ok p) f1.are k2)))

-- the number of cells is the one that the header states
pub bag_counted : (bytes : List ℕ) (f : Frame) (ts : List Text) → bag_at bytes ≡ Ok (f, ts) → f.cells ≡ stated_cells bytes
unfolding bag_at
bag_counted bytes f ts e =
    by_ok (frame_at bytes) _ (f, ts) e (λ p e0 k0.
    by_ok (texts_at p.shape p.cells (length p.cell_data) p.cells 0 p.index p.cell_data) _ (f, ts) k0 (λ texts e1 k1.
    subst (λ (y : Frame × List Text). y.0.cells ≡ stated_cells bytes) (ok_is (frame_of p, texts) (f, ts) k1) (let found = frame_found bytes p e0 in found.cells)))
