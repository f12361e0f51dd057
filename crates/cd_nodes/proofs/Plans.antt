-- A plan's batch is the difference of two images, and changes nothing that stays.
use Rattle.std.proofs.Common.{◌≡◌, inl, inr, ℕ, zero, suc, ◌+◌, ◌≤◌, List, true, cond, refl, sym, ap, ap₂, ◌∙◌, subst, arith, Option, Some, None, true≢false, eqb-true}
use Rattle.std.specs.Option.{option_map, option_map_or}
use Rattle.std.specs.FinMap as finite
use Rattle.cd_cell.proofs.ListTests.{true_or_false}
use Rattle.cd_nodes.specs.Graphs.{Graph, IsGraph, occurrences, references, held, held_at, count, AreClashFree, AreTogether, AreNew, AreDead, records}
use Rattle.cd_nodes.specs.Plans.{Row, dropped, is_stored, written, change_at, changed, IsPlan, AreRows}
use Rattle.cd_nodes.proofs.Lists.{option_cases, not_both}
use Rattle.cd_nodes.proofs.Held.{held_in}
use Rattle.cd_nodes.proofs.Counts.{count-grown, new-dead, clash_free-few, held_at-kept}
use Rattle.cd_nodes.proofs.Records.{count-held, count-not_held, get-records}

stored_is : (o : Option ℕ) (n : ℕ) → is_stored o n ≡ true → o ≡ Some n
stored_is None n e = cc
stored_is (Some m) n e = ap Some (eqb-true m n e)

stored_yes : (n : ℕ) → is_stored (Some n) n ≡ true
stored_yes n = grind arith

module _ {N K : Type 0} (G : Graph N K) (laws : IsGraph G) {F X : Type 0} (face : N → F) (text : ℕ → F → X) where
  module _ (old new : List N) (clear_old : AreClashFree G old) (clear_new : AreClashFree G new) (plan : K → Option (Row F)) (so : IsPlan G face old new plan) where
    abbrev record_old : K → Option X
    record_old q = finite.get (records G face text old) q

    abbrev record_new : K → Option X
    record_new q = finite.get (records G face text new) q

    abbrev made_old : K → Option N → Option X
    made_old q o = option_map (λ c. text (count G old q) (face c)) o

    abbrev made_new : K → Option N → Option X
    made_new q o = option_map (λ c. text (count G new q) (face c)) o

    old_is : (q : K) → record_old q ≡ made_old q (held_at G old q)
    old_is q = get-records G laws face text old q

    new_is : (q : K) → record_new q ≡ made_new q (held_at G new q)
    new_is q = get-records G laws face text new q

    new_some : (q : K) (n : ℕ) → suc n ≡ count G new q → (c : N) × (held_at G new q ≡ Some c)
    new_some q n e = elim (option_cases (held_at G new q)) [
      | inl none ↦ let z = count-not_held G laws new clear_new q none in absurd (omega arith)
      | inr c ↦ c
    ]

    new_none : (q : K) → 0 ≡ count G new q → held_at G new q ≡ None
    new_none q e = elim (option_cases (held_at G new q)) [
      | inl none ↦ none
      | inr c ↦
          let h = held_in G laws new q c.0 c.1 in
          let z = count-held G laws new clear_new c.0 h.0 in
          let y : count G new (G.key c.0) ≡ count G new q = ap (count G new) h.1 in
          absurd (omega arith)
    ]

    drop_case : (q : K) (row : Row F) → plan q ≡ Some row → 0 ≡ count G new q → record_new q ≡ changed (dropped row.stored) (record_old q)
    drop_case q row is e =
        let a : record_new q ≡ None = new_is q ∙ ap (made_new q) (new_none q e) in
        elim (option_cases (held_at G old q)) [
          | inl none ↦
              let s : row.stored ≡ None = so.stored q row is ∙ ap (option_map (λ _. count G old q)) none in
              let b : record_old q ≡ None = old_is q ∙ ap (made_old q) none in
              a ∙ sym b ∙ ap (λ o. changed (dropped o) (record_old q)) (sym s)
          | inr c ↦
              let s : row.stored ≡ Some (count G old q) = so.stored q row is ∙ ap (option_map (λ _. count G old q)) c.1 in
              a ∙ ap (λ o. changed (dropped o) (record_old q)) (sym s)
        ]

    stored_some : (o : Option N) (m n : ℕ) → option_map (λ _. m) o ≡ Some n → (c : N) × (o ≡ Some c) × (m ≡ n)
    stored_some None m n e = cc
    stored_some (Some c) m n e = (c, refl, cc)

    put_case : (q : K) (row : Row F) (n : ℕ) → plan q ≡ Some row → suc n ≡ count G new q
        → record_new q ≡ changed (cond (is_stored row.stored (suc n)) None (Some (Some (text (suc n) row.face)))) (record_old q)
    put_case q row n is e =
        let c = new_some q n e in
        let f = so.face_new q row c.0 is c.1 in
        let a : record_new q ≡ Some (text (suc n) row.face) = new_is q ∙ ap (made_new q) c.1 ∙ ap₂ (λ m g. Some (text m g)) (sym e) (sym f) in
        elim (true_or_false (is_stored row.stored (suc n))) [
          | inr not_so ↦ a ∙ ap (λ b. changed (cond b None (Some (Some (text (suc n) row.face)))) (record_old q)) (sym not_so)
          | inl was ↦
              let s = stored_is row.stored (suc n) was in
              let d = stored_some (held_at G old q) (count G old q) (suc n) (sym (so.stored q row is) ∙ s) in
              let g = so.face_old q row d.0 is d.1 in
              let b : record_old q ≡ Some (text (suc n) row.face) = old_is q ∙ ap (made_old q) d.1 ∙ ap₂ (λ m z. Some (text m z)) d.2 (sym g) in
              a ∙ sym b ∙ ap (λ t. changed (cond t None (Some (Some (text (suc n) row.face)))) (record_old q)) (sym was)
        ]

    row_case : (q : K) (row : Row F) (now : ℕ) → plan q ≡ Some row → now ≡ count G new q
        → record_new q ≡ changed (written text (record { stored = row.stored; now = row.now; face = row.face }) now) (record_old q)
    row_case q row zero is e = drop_case q row is e
    row_case q row (suc n) is e = put_case q row n is e

    -- the batch of a plan leads from the one image to the other
    pub planned : (q : K) → record_new q ≡ changed (change_at text (plan q)) (record_old q)
    planned q = elim (option_cases (plan q)) [
      | inl n ↦
          let r = so.rest q n in
          new_is q ∙ ap₂ (λ m o. option_map (λ c. text m (face c)) o) r.1 r.0 ∙ sym (old_is q) ∙ ap (λ o. changed (change_at text o) (record_old q)) (sym n)
      | inr w ↦ row_case q w.0 w.0.now w.1 (so.now q w.0 w.1) ∙ ap (λ o. changed (change_at text o) (record_old q)) (sym w.1)
    ]

    -- and changes nothing that stays
    module _ (most : ℕ) (tells : (a b : ℕ) (f g : F) → a ≤ most → b ≤ most → text a f ≡ text b g → a ≡ b)
        (old_few : (q : K) → count G old q ≤ most) (new_few : (q : K) → count G new q ≤ most) where
      exact_drop : (q : K) (row : Row F) (new_value : Option X) → plan q ≡ Some row → dropped row.stored ≡ Some new_value → new_value ≡ record_old q → ⊥
      exact_drop q row v is e same_value = elim (option_cases (held_at G old q)) [
        | inl none ↦
            let s : row.stored ≡ None = so.stored q row is ∙ ap (option_map (λ _. count G old q)) none in
            let d : dropped {X = X} row.stored ≡ None = ap (dropped {X = X}) s in
            not_both v (dropped row.stored) d e
        | inr c ↦
            let s : row.stored ≡ Some (count G old q) = so.stored q row is ∙ ap (option_map (λ _. count G old q)) c.1 in
            let d : dropped {X = X} row.stored ≡ Some None = ap (dropped {X = X}) s in
            let b : record_old q ≡ Some (text (count G old q) (face c.0)) = old_is q ∙ ap (made_old q) c.1 in
            let u : v ≡ None = cc in
            not_both (text (count G old q) (face c.0)) v u (same_value ∙ b)
      ]

      exact_put : (q : K) (row : Row F) (n : ℕ) (new_value : Option X) → plan q ≡ Some row → suc n ≡ count G new q → cond (is_stored row.stored (suc n)) None (Some (Some (text (suc n) row.face))) ≡ Some new_value → new_value ≡ record_old q → ⊥
      exact_put q row n v is now e same_value = elim (true_or_false (is_stored row.stored (suc n))) [
        | inl was ↦
            let d : cond (is_stored row.stored (suc n)) None (Some (Some (text (suc n) row.face))) ≡ None = ap (λ b. cond b None (Some (Some (text (suc n) row.face)))) was in
            not_both v (cond (is_stored row.stored (suc n)) None (Some (Some (text (suc n) row.face)))) d e
        | inr not_so ↦
            let d : cond (is_stored row.stored (suc n)) None (Some (Some (text (suc n) row.face))) ≡ Some (Some (text (suc n) row.face)) = ap (λ b. cond b None (Some (Some (text (suc n) row.face)))) not_so in
            let u : v ≡ Some (text (suc n) row.face) = cc in
            elim (option_cases (held_at G old q)) [
              | inl none ↦
                  let b : record_old q ≡ None = old_is q ∙ ap (made_old q) none in
                  not_both (text (suc n) row.face) (record_old q) b (sym same_value ∙ u)
              | inr c ↦
                  let s : row.stored ≡ Some (count G old q) = so.stored q row is ∙ ap (option_map (λ _. count G old q)) c.1 in
                  let b : record_old q ≡ Some (text (count G old q) (face c.0)) = old_is q ∙ ap (made_old q) c.1 in
                  let t : text (suc n) row.face ≡ text (count G old q) (face c.0) = cc in
                  let m : suc n ≡ count G old q = tells _ _ _ _ (subst (λ m. m ≤ most) (sym now) (new_few q)) (old_few q) t in
                  let y : is_stored row.stored (suc n) ≡ true = ap (λ o. is_stored o (suc n)) s ∙ ap (λ z. is_stored (Some z) (suc n)) (sym m) ∙ stored_yes (suc n) in
                  true≢false (sym y ∙ not_so)
            ]
      ]

      exact_row : (q : K) (row : Row F) (now : ℕ) (v : Option X) → plan q ≡ Some row → now ≡ count G new q → written text (record { stored = row.stored; now = row.now; face = row.face }) now ≡ Some v → v ≡ record_old q → ⊥
      exact_row q row zero v is now e s = exact_drop q row v is e s
      exact_row q row (suc n) v is now e s = exact_put q row n v is now e s

      pub exact : (q : K) (v : Option X) → change_at text (plan q) ≡ Some v → v ≡ record_old q → ⊥
      exact q v e s = elim (option_cases (plan q)) [
        | inl n ↦ not_both v (change_at text (plan q)) (ap (change_at text) n) e
        | inr w ↦ exact_row q w.0 w.0.now v w.1 (so.now q w.0 w.1) (sym (ap (change_at text) w.1) ∙ e) s
      ]

  -- rows that count what comes and what goes are a plan
  module _ (old more grown gone left : List N)
      (came : AreTogether G old more grown) (went : AreTogether G left gone grown) (clear : AreClashFree G grown)
      (news dead : List N) (new : AreNew G old grown news) (ended : AreDead G grown gone dead)
      (plan : K → Option (Row F)) where
    pub plan_is : AreRows G face old more grown gone news dead plan → IsPlan G face old left plan
    plan_is rows =
        let dn = new-dead G laws left gone grown went clear dead ended in
        let up = λ (q : K). count-grown G laws old more grown came clear news new q in
        let down = λ (q : K). count-grown G laws left gone grown went clear dead dn q in
        record {
          stored = rows.stored;
          now = λ q row is. let a : row.now + (occurrences G gone q + references G dead q) ≡ count G old q + (occurrences G more q + references G news q) = sym (ap (λ o. now_is q o + (occurrences G gone q + references G dead q)) is) ∙ rows.now q in let b = up q in let c = down q in omega arith;
          face_old = λ q row c is e. rows.faces q row c is (kept old more came q c e);
          face_new = λ q row c is e. rows.faces q row c is (kept left gone went q c e);
          rest = λ q none.
              let a : count G old q + (occurrences G gone q + references G dead q) ≡ count G old q + (occurrences G more q + references G news q) = sym (ap (λ o. now_is q o + (occurrences G gone q + references G dead q)) none) ∙ rows.now q in
              let b = up q in let c = down q in
              let e : count G left q ≡ count G old q = omega arith in
              (same_held q e, e);
        }
      where
        now_is : K → Option (Row F) → ℕ
        now_is q o = option_map_or (λ (row : Row F). row.now) o (count G old q)

        kept : (few further : List N) → AreTogether G few further grown → (q : K) (c : N) → finite.get (held G few) q ≡ Some c → finite.get (held G grown) q ≡ Some c
        kept few further sum q c e = held_at-kept G laws few further grown sum clear q c e

        counted : (few further : List N) → AreTogether G few further grown → (q : K) (c : N) → finite.get (held G few) q ≡ Some c → 1 ≤ count G few q
        counted few further sum q c e =
            let h = held_in G laws few q c e in
            subst (λ k. 1 ≤ count G few k) h.1 (count-held G laws few (clash_free-few G laws few further grown sum clear) c h.0)

        same_held : (q : K) → count G left q ≡ count G old q → held_at G left q ≡ held_at G old q
        same_held q e = elim (option_cases (held_at G old q)) [
          | inl n ↦ elim (option_cases (held_at G left q)) [
            | inl m ↦ m ∙ sym n
            | inr d ↦
                let y = count-not_held G laws old (clash_free-few G laws old more grown came clear) q n in
                let z = counted left gone went q d.0 d.1 in
                absurd (omega arith)
          ]
          | inr c ↦ elim (option_cases (held_at G left q)) [
            | inl m ↦
                let y = count-not_held G laws left (clash_free-few G laws left gone grown went clear) q m in
                let z = counted old more came q c.0 c.1 in
                absurd (omega arith)
            | inr d ↦ d.1 ∙ sym (kept left gone went q d.0 d.1) ∙ kept old more came q c.0 c.1 ∙ sym c.1
          ]
        ]
