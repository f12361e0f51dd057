-- Laws of the blocks that wrote leaves last, and of trees over the same leaves.
use Rattle.std.proofs.Common.{◌≡◌, ℕ, zero, suc, ◌+◌, ◌-◌, ◌*◌, ◌%◌, ◌^◌, ◌<◌, ◌≤◌, ◌==◌, Bool, true, false, ◌||◌, refl, sym, ap, ap₂, ◌∙◌, subst, ⊎_elim, arith}
use Rattle.std.specs.Prelude.{if◌then◌else◌}
use Rattle.std.specs.List.{list_any, range_with_len}
use Rattle.std.proofs.Math.Nat.{pow-suc}
use Rattle.std.proofs.lemmas.Bool.{eqb-true, ne_eqb, or_cases, cases_lt}
use Rattle.cd_gen.specs.States.{is_written, writer_of, some_written, leaf, over, full, pruned, shown}

-- ---- the writer of a leaf

pub writer_of-written : (number seqno j : ℕ) → 0 < seqno → is_written number seqno j ≡ true → writer_of number seqno j ≡ seqno
unfolding writer_of
writer_of-written number zero j some written = absurd (omega arith)
writer_of-written number (suc seqno) j some written = ap (λ b. if b then suc seqno else writer_of number seqno j) written

pub writer_of-other : (number seqno j : ℕ) → is_written number seqno j ≡ false → writer_of number seqno j ≡ writer_of number (seqno - 1) j
unfolding writer_of
writer_of-other number zero j other = refl
writer_of-other number (suc seqno) j other =
    let before : seqno ≡ suc seqno - 1 = omega arith in
    ap (λ b. if b then suc seqno else writer_of number seqno j) other ∙ ap (λ k. writer_of number k j) before

-- no block writes a leaf again within fifteen blocks
not_again : (number j seqno k : ℕ) → k < seqno → seqno ≤ k + 15 → is_written number seqno j ≡ true → is_written number k j ≡ false
not_again number j seqno k before near written =
    let at : j % 16 ≡ (seqno + number) % 16 = eqb-true (j % 16) ((seqno + number) % 16) written in
    ne_eqb (j % 16) ((k + number) % 16) (λ same. apart k (seqno - k) number (omega arith) (omega arith) (sym same ∙ at ∙ ap (λ s. (s + number) % 16) (let e : seqno ≡ k + (seqno - k) = omega arith in e)))
  where
    apart : (k d number : ℕ) → 0 < d → d ≤ 15 → (k + number) % 16 ≡ (k + d + number) % 16 → ⊥
    apart k d number some near same = omega (arith, same)

writer_of-before : (number j seqno d : ℕ) → d ≤ 15 → is_written number seqno j ≡ true → writer_of number (seqno - 1) j ≡ writer_of number (seqno - 1 - d) j
writer_of-before number j seqno zero near written = let e : seqno - 1 ≡ seqno - 1 - 0 = omega arith in ap (λ k. writer_of number k j) e
writer_of-before number j seqno (suc d) near written =
    writer_of-before number j seqno d (omega arith) written ∙ step (seqno - 1 - d) (omega arith)
  where
    step : (k : ℕ) → k ≡ seqno - 1 - d → writer_of number k j ≡ writer_of number (seqno - 1 - suc d) j
    step zero is = let e : 0 ≡ seqno - 1 - suc d = omega arith in ap (λ k. writer_of number k j) e
    step (suc k) is =
        let e : suc k - 1 ≡ seqno - 1 - suc d = omega arith in
        writer_of-other number (suc k) j (not_again number j seqno (suc k) (omega arith) (omega arith) written) ∙ ap (λ n. writer_of number n j) e

-- before the block of a seqno its leaves were written sixteen blocks ago, or by none
pub writer_of-sixteen_before : (number seqno j : ℕ) → is_written number seqno j ≡ true → writer_of number (seqno - 1) j ≡ seqno - 16
unfolding writer_of
writer_of-sixteen_before number seqno j written =
    let e : seqno - 1 - 15 ≡ seqno - 16 = omega arith in
    writer_of-before number j seqno 15 (omega arith) written ∙ ap (λ k. writer_of number k j) e ∙ at (seqno - 16) refl
  where
    at : (k : ℕ) → seqno - 16 ≡ k → writer_of number k j ≡ k
    at zero is = refl
    at (suc k) is =
        let again : is_written number (suc k) j ≡ true = subst (λ r. (j % 16 == r) ≡ true) (rest (omega arith)) written in
        writer_of-written number (suc k) j (omega arith) again
      where
        rest : seqno ≡ suc k + 16 → (seqno + number) % 16 ≡ (suc k + number) % 16
        rest e = omega (arith, e)

-- ---- leaves that a block doesn't write

or-false : (a b : Bool) → (a || b) ≡ false → (a ≡ false) × (b ≡ false)
or-false false b e = (refl, e)
or-false true b e = (e, absurd cc)

pub none_written : (p : ℕ → Bool) (first count : ℕ) → list_any p (range_with_len first count) ≡ false → (j : ℕ) → first ≤ j → j < first + count → p j ≡ false
none_written p first zero none j low high = absurd (omega arith)
none_written p first (suc count) none j low high =
    let both = or-false (p first) (list_any p (range_with_len (first + 1) count)) none in
    ⊎_elim
    (λ later. none_written p (first + 1) count both.1 j (omega arith) (omega arith))
    (λ here. let e : first ≡ j = omega arith in subst (λ k. p k ≡ false) e both.0)
    (cases_lt first j)

pub one_written : (p : ℕ → Bool) (first : ℕ) → list_any p (range_with_len first 1) ≡ true → p first ≡ true
one_written p first some = ⊎_elim (λ here. here) (λ none. absurd cc) (or_cases (p first) false some)

-- what a block was asked
pub asked : (number seqno first count n : ℕ) (answer value : Bool) → answer ≡ some_written number seqno first n → n ≡ count → answer ≡ value → some_written number seqno first count ≡ value
asked number seqno first count n answer value is same e = ap (λ k. some_written number seqno first k) (sym same) ∙ sym is ∙ e

-- ---- trees over the same leaves

pub full-same : (number chain a b levels first : ℕ) → ((j : ℕ) → first ≤ j → j < first + 2 ^ levels → writer_of number a j ≡ writer_of number b j) → full number chain a levels first ≡ full number chain b levels first
unfolding full
full-same number chain a b zero first same = ap (λ w. leaf number chain first w) (same first (omega arith) (omega arith))
full-same number chain a b (suc levels) first same =
    let twice : 2 ^ suc levels ≡ 2 ^ levels * 2 = pow-suc 2 levels in
    ap₂ over
    (full-same number chain a b levels first (λ j low high. same j low (omega (arith, twice, high))))
    (full-same number chain a b levels (first + 2 ^ levels) (λ j low high. same j (omega (arith, low)) (omega (arith, twice, high))))

-- ---- trees by their levels

pub full-leaf : (number chain seqno levels first : ℕ) → levels ≡ 0 → full number chain seqno levels first ≡ leaf number chain first (writer_of number seqno first)
unfolding full
full-leaf number chain seqno zero first none = refl
full-leaf number chain seqno (suc levels) first none = absurd (omega arith)

pub full-zero_leaf : (number chain levels first : ℕ) → levels ≡ 0 → full number chain 0 levels first ≡ leaf number chain first 0
unfolding full writer_of
full-zero_leaf number chain zero first none = refl
full-zero_leaf number chain (suc levels) first none = absurd (omega arith)

pub full-over : (number chain seqno levels first : ℕ) → 0 < levels → full number chain seqno levels first ≡ over (full number chain seqno (levels - 1) first) (full number chain seqno (levels - 1) (first + 2 ^ (levels - 1)))
unfolding full
full-over number chain seqno zero first some = absurd (omega arith)
full-over number chain seqno (suc below) first some = let e : suc below - 1 ≡ below = omega arith in rw e refl

pub twice-half : (levels : ℕ) → 0 < levels → 2 ^ levels ≡ 2 ^ (levels - 1) * 2
twice-half zero some = absurd (omega arith)
twice-half (suc below) some = let e : suc below - 1 ≡ below = omega arith in rw e (pow-suc 2 below)

pub shown-hidden : (number chain block seqno levels first : ℕ) → some_written number block first (2 ^ levels) ≡ false → shown number chain block seqno levels first ≡ pruned (full number chain seqno levels first)
unfolding shown
shown-hidden number chain block seqno zero first none = ap (λ b. if b then full number chain seqno 0 first else pruned (full number chain seqno 0 first)) none
shown-hidden number chain block seqno (suc levels) first none =
    ap (λ b. if b then over (shown number chain block seqno levels first) (shown number chain block seqno levels (first + 2 ^ levels)) else pruned (full number chain seqno (suc levels) first)) none

pub shown-leaf : (number chain block seqno levels first : ℕ) → levels ≡ 0 → some_written number block first (2 ^ levels) ≡ true → shown number chain block seqno levels first ≡ leaf number chain first (writer_of number seqno first)
unfolding shown full
shown-leaf number chain block seqno zero first is some = ap (λ b. if b then full number chain seqno 0 first else pruned (full number chain seqno 0 first)) some
shown-leaf number chain block seqno (suc levels) first is some = absurd (omega arith)

pub shown-over : (number chain block seqno levels first : ℕ) → 0 < levels → some_written number block first (2 ^ levels) ≡ true
    → shown number chain block seqno levels first ≡ over (shown number chain block seqno (levels - 1) first) (shown number chain block seqno (levels - 1) (first + 2 ^ (levels - 1)))
unfolding shown
shown-over number chain block seqno zero first is some = absurd (omega arith)
shown-over number chain block seqno (suc below) first is some =
    let e : suc below - 1 ≡ below = omega arith in
    rw e (ap (λ b. if b then over (shown number chain block seqno below first) (shown number chain block seqno below (first + 2 ^ below)) else pruned (full number chain seqno (suc below) first)) some)
