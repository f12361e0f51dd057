-- Laws of the places of ranks: one more, and what is known then.
use Rattle.std.proofs.Common.{◌≡◌, ℕ, ◌⊎◌, inl, inr, ⊎_elim, Bool, true, false, Equal, Ordering, nat_cmp, refl, sym, ap, subst, ◌∙◌, arith}
use Rattle.std.specs.Prelude.{Option, Some, None, IsSome, is_some, if◌then◌else◌}
use Rattle.std.specs.BTreeMap.{BTreeMap, get}
use Rattle.std.specs.Ordering.{is_eq}
use Rattle.std.proofs.lemmas.Bool.{true≢false}
use Rattle.std.proofs.lemmas.Cmp.{tied_itself}
use Rattle.std.proofs.lemmas.Map.Lookups.{exact_unsigned, exact_pairs}
use Rattle.std.proofs.lemmas.Option.{same_Some}
use Rattle.cd_base.specs.declared.hash.Hash256.{Hash256}
use Rattle.cd_cell.specs.declared.info.ChildInfo.{ChildInfo}
use Rattle.cd_cell.specs.Export.{hash_cmp}
use Rattle.cd_cell.proofs.ExportOrder.{hash_cmp-ties}
use Rattle.cd_cell.specs.declared.export_key.ExportRank.{ExportRank}
use Rattle.cd_cell.specs.Keys.{rank_cmp}
use Rattle.cd_cell.proofs.KeyLaws.{rank_cmp-total}
use Rattle.cd_slices.specs.Ranks.{rank_of_info, IsPlaced, IsKnown}
use Rattle.cd_slices.specs.Gathering.{AddsOnly}

-- equal ranks alone tie
pub rank_cmp-ties : (a b : ExportRank) → rank_cmp a b ≡ Equal → a ≡ b
rank_cmp-ties a b tie =
    let both : (a.lowness, a.hash) ≡ (b.lowness, b.hash) = exact_pairs nat_cmp hash_cmp exact_unsigned hash_cmp-ties (a.lowness, a.hash) (b.lowness, b.hash) tie in
    ap (λ (p : ℕ × Hash256). let r : ExportRank = record { lowness = p.0; hash = p.1 } in r) both

pub is_eq-true : (o : Ordering) → is_eq o ≡ true → o ≡ Equal
is_eq-true o e = grind arith

pub known-place : (places : BTreeMap ExportRank ℕ) (rank : ExportRank) → IsKnown places rank → (place : ℕ) × IsPlaced places rank place
known-place places rank known = go (get rank_cmp places rank) refl known
  where
    go : (o : Option ℕ) → get rank_cmp places rank ≡ o → IsSome o → (place : ℕ) × IsPlaced places rank place
    go (Some place) e some = (place, e)
    go None e none = absurd (true≢false (sym none))

pub absent : (o : Option ℕ) → is_some o ≡ false → o ≡ None
absent (Some place) there = absurd (true≢false there)
absent None none = refl

pub place-known : (places : BTreeMap ExportRank ℕ) (rank : ExportRank) (place : ℕ) → IsPlaced places rank place → IsKnown places rank
place-known places rank place e = subst IsSome (sym e) refl

module _ (old new : BTreeMap ExportRank ℕ) (rank : ExportRank) (place : ℕ) (puts : (q : ExportRank) → get rank_cmp new q ≡ (if is_eq (rank_cmp rank q) then Some place else get rank_cmp old q)) where
  -- the new rank has its place, and each other the one it had
  pub place-there : IsPlaced new rank place
  place-there = puts rank ∙ ap (λ o. if is_eq o then Some place else get rank_cmp old rank) (tied_itself rank_cmp-total rank)

  pub place-cases : (q : ExportRank) (p : ℕ) → IsPlaced new q p → ((q ≡ rank) × (p ≡ place)) ⊎ IsPlaced old q p
  place-cases q p there = go (is_eq (rank_cmp rank q)) refl (sym (puts q) ∙ there)
    where
      go : (b : Bool) → is_eq (rank_cmp rank q) ≡ b → (if b then Some place else get rank_cmp old q) ≡ Some p → ((q ≡ rank) × (p ≡ place)) ⊎ IsPlaced old q p
      go true e same = inl (sym (rank_cmp-ties rank q (is_eq-true (rank_cmp rank q) e)), sym (same_Some place p same))
      go false e before = inr before

  pub known-cases : (q : ExportRank) → IsKnown new q → (q ≡ rank) ⊎ IsKnown old q
  known-cases q known =
      let there = known-place new q known in
      ⊎_elim (λ here. inl here.0) (λ before. inr (place-known old q there.0 before)) (place-cases q there.0 there.1)

  pub place-stays : get rank_cmp old rank ≡ None → (q : ExportRank) (p : ℕ) → IsPlaced old q p → IsPlaced new q p
  place-stays fresh q p before = go (is_eq (rank_cmp rank q)) refl
    where
      go : (b : Bool) → is_eq (rank_cmp rank q) ≡ b → IsPlaced new q p
      go true e =
          let same : rank ≡ q = rank_cmp-ties rank q (is_eq-true (rank_cmp rank q) e) in
          absurd (let none : None ≡ Some p = sym fresh ∙ (ap (get rank_cmp old) same ∙ before) in cc)
      go false e = puts q ∙ (ap (λ (b : Bool). if b then Some place else get rank_cmp old q) e ∙ before)

  pub known-stays : (q : ExportRank) → IsKnown old q → IsKnown new q
  known-stays q known = go (is_eq (rank_cmp rank q)) refl
    where
      go : (b : Bool) → is_eq (rank_cmp rank q) ≡ b → IsKnown new q
      go true e = subst IsSome (sym (puts q ∙ ap (λ (b : Bool). if b then Some place else get rank_cmp old q) e)) refl
      go false e = subst IsSome (sym (puts q ∙ ap (λ (b : Bool). if b then Some place else get rank_cmp old q) e)) known

  -- the rank that came is this one alone
  pub adds-one : (info : ChildInfo) → rank ≡ rank_of_info info → AddsOnly (λ i. i ≡ info) old new
  adds-one info is q known = ⊎_elim (λ same. inr (info, refl, sym is ∙ sym same)) inl (known-cases q known)

-- ---- which ranks came

pub adds-nothing : (from : ChildInfo → Type 0) (old new : BTreeMap ExportRank ℕ) → new.entries ≡ old.entries → AddsOnly from old new
adds-nothing from old new same rank known = inl (subst IsSome (let e : get rank_cmp new rank ≡ get rank_cmp old rank = rw same in e) known)

pub adds-more : (from more : ChildInfo → Type 0) (old mid new : BTreeMap ExportRank ℕ) → ((info : ChildInfo) → more info → from info) → AddsOnly from old mid → AddsOnly more mid new → AddsOnly from old new
adds-more from more old mid new within first next rank known =
    ⊎_elim (λ before. first rank before) (λ came. inr (came.0, within came.0 came.1, came.2)) (next rank known)

pub adds-wider : (from more : ChildInfo → Type 0) (old new : BTreeMap ExportRank ℕ) → ((info : ChildInfo) → from info → more info) → AddsOnly from old new → AddsOnly more old new
adds-wider from more old new within adds rank known = ⊎_elim inl (λ came. inr (came.0, within came.0 came.1, came.2)) (adds rank known)
