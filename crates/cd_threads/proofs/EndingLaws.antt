-- The lanes of a phase at its end: the last one, and what all ended with.
use Rattle.std.proofs.Common.{◌≡◌, ℕ, zero, suc, ◌+◌, List, [], ◌++◌, length, map, get_or, drop, sym, ap, subst, ◌∙◌, arith, append-nil, length-drop}
use Rattle.std.proofs.lemmas.List.{get_or_default, get_or-drop}
use Rattle.std.proofs.lemmas.List.Elements.{All-nil}
use Rattle.std.proofs.lemmas.Simd.{map-map}
use Rattle.cd_gate.specs.Histories.{GrewByOthers}

module _ {L E : Type 0} (number : E → ℕ) (end_of : L → ℕ) (seen_of : L → List E) (lanes rest : List L) (first : L) (is : rest ≡ drop 1 lanes) (head : first ≡ get_or lanes 0 first) (end : ℕ) (seen : List E) where
  abbrev IsLast : ℕ → L → Type 0
  IsLast k l = (end ≡ end_of l) × GrewByOthers number k (end_of l) (seen_of l) seen

  -- the last one of all is the last one behind the first, or the first one itself
  pub last_of : (length rest ≡ 0 → (end ≡ end_of first) × (seen ≡ seen_of first)) → ((d : L) (k : ℕ) → length rest ≡ k + 1 → IsLast (k + 1) (get_or rest k d))
      → (d : L) (k : ℕ) → length lanes ≡ k + 1 → IsLast k (get_or lanes k d)
  last_of alone last d zero count =
      let it = alone (ap length is ∙ (length-drop 1 lanes ∙ omega arith)) in
      let here : get_or lanes 0 d ≡ first = get_or_default lanes 0 d first (omega arith) ∙ sym head in
      subst (IsLast 0) (sym here) (it.0, ([], it.1 ∙ sym (append-nil (seen_of first)), All-nil _))
  last_of alone last d (suc k) count =
      let more : length rest ≡ k + 1 = ap length is ∙ (length-drop 1 lanes ∙ omega arith) in
      let next : 1 + k ≡ suc k = omega arith in
      let same : suc k ≡ k + 1 = omega arith in
      let here : get_or rest k d ≡ get_or lanes (suc k) d = ap (λ l. get_or l k d) is ∙ (get_or-drop 1 lanes k d ∙ ap (λ n. get_or lanes n d) next) in
      subst (IsLast (suc k)) here (subst (λ n. IsLast n (get_or rest k d)) (sym same) (last d k more))

-- the ends of all lanes, behind none
pub ends_of_lanes : {L W O : Type 0} (outcomes : L → W) (items : W → List O) (ends none : List W) (lanes : List L) → ends ≡ none ++ map outcomes lanes → none ≡ [] → map items ends ≡ map (λ l. items (outcomes l)) lanes
ends_of_lanes outcomes items ends none lanes are empty = ap (map items) (are ∙ ap (λ l. l ++ map outcomes lanes) empty) ∙ map-map items outcomes lanes
