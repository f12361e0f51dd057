-- What a listed cell does to the rows of a plan.
use Rattle.std.proofs.Common.{◌≡◌, ℕ, zero, suc, ◌<◌, Bool, true, false, cond, drop, get_or, length, List, [], ◌∷◌, Contains, Option, Some, None, IsSome, refl, sym, ap, ◌∙◌, subst, inl, inr, ◌⊎◌, arith}
use Rattle.std.specs.Option.{option_map}
use Rattle.std.specs.Str.{bytes_eq}
use Rattle.std.specs.Ordering.{is_eq}
use Rattle.std.specs.BTreeMap as tree
use Rattle.std.proofs.lemmas.Option.{none-some, same_Some}
use Rattle.std.proofs.lemmas.Slice.Eq.{bytes_eq-Decides}
use Rattle.cd_cell.specs.declared.new_cell.NewCell.{NewCell}
use Rattle.cd_cell.specs.Export.{hash_cmp}
use Rattle.cd_cell.proofs.Subtrees.{Contains-first, Contains-later, Contains-cases}
use Rattle.cd_record.specs.declared.record.Record.{Record}
use Rattle.cd_count.specs.declared.rows.Row.{Row}
use Rattle.cd_count.specs.PlanSteps.{RowMap, first_row, row_at, count_of_row}
use Rattle.cd_count.specs.PlanGiving.{listed_row, IsListed, IsRowRight, AreListed}
use Rattle.cd_count.proofs.Steps.{row_at-set, same_is}

module _ (stored : List ℕ → Option Record) (cells : List NewCell) (c : NewCell) (rows rows' : RowMap) (so : AreListed stored cells rows) (one : IsListed stored rows c rows') where
  abbrev row : Row
  row = listed_row (stored c.hash.0) c.face

  row_at-now : (q : List ℕ) → row_at stored rows' q ≡ cond (bytes_eq c.hash.0 q) (Some row) (row_at stored rows q)
  row_at-now q = row_at-set stored rows rows' c.hash row one.updates q

  same_key : (q : List ℕ) → bytes_eq c.hash.0 q ≡ true → c.hash.0 ≡ q
  same_key q e = (bytes_eq-Decides c.hash.0 q).0 e

  count-row : (o : Option Record) → (listed_row o c.face).count ≡ count_of_row stored (option_map first_row o)
  count-row None = refl
  count-row (Some r) = refl

  right-row : (o : Option Record) → stored c.hash.0 ≡ o → IsRowRight stored (c ∷ cells) c.hash.0 (listed_row o c.face)
  right-row None at = record {
    count = sym (ap (option_map (λ (x : Record). x.count)) at);
    face = λ x is. absurd (none-some x (sym at ∙ is));
    new = λ none. (c, Contains-first c cells, refl, refl);
  }
  right-row (Some r) at = record {
    count = sym (ap (option_map (λ (x : Record). x.count)) at);
    face = λ x is. ap (λ (y : Record). y.face) (same_Some r x (sym at ∙ is));
    new = λ none. absurd (none-some r (sym none ∙ at));
  }

  right-later : (q : List ℕ) (r : Row) → IsRowRight stored cells q r → IsRowRight stored (c ∷ cells) q r
  right-later q r was = record {
    count = was.count;
    face = was.face;
    new = λ none. let found = was.new none in (found.0, Contains-later c cells found.0 found.1, found.2, found.3);
  }

  pub listed-more : AreListed stored (c ∷ cells) rows'
  listed-more = record {
    counts = λ q. ap (count_of_row stored) (row_at-now q) ∙ counted q (bytes_eq c.hash.0 q) refl;
    right = λ q r is. righted q r (bytes_eq c.hash.0 q) refl (sym (row_at-now q) ∙ is);
    present = λ x h. one-present x (is_eq (hash_cmp c.hash x.hash)) refl (Contains-cases c cells x h);
  }
    where
      counted : (q : List ℕ) (b : Bool) → bytes_eq c.hash.0 q ≡ b → count_of_row stored (cond b (Some row) (row_at stored rows q)) ≡ count_of_row stored (option_map first_row (stored q))
      counted q true e = count-row (stored c.hash.0) ∙ ap (λ (k : List ℕ). count_of_row stored (option_map first_row (stored k))) (same_key q e)
      counted q false e = so.counts q

      righted : (q : List ℕ) (r : Row) (b : Bool) → bytes_eq c.hash.0 q ≡ b → cond b (Some row) (row_at stored rows q) ≡ Some r → IsRowRight stored (c ∷ cells) q r
      righted q r true e is = subst (λ (x : Row). IsRowRight stored (c ∷ cells) q x) (same_Some row r is) (subst (λ (k : List ℕ). IsRowRight stored (c ∷ cells) k row) (same_key q e) (right-row (stored c.hash.0) refl))
      righted q r false e is = right-later q r (so.right q r is)

      there : (x : NewCell) (b : Bool) → is_eq (hash_cmp c.hash x.hash) ≡ b → IsSome (tree.get hash_cmp rows x.hash) ⊎ (b ≡ true) → IsSome (cond b (Some row) (tree.get hash_cmp rows x.hash))
      there x true e h = refl
      there x false e (inl h) = h
      there x false e (inr s) = absurd cc

      one-present : (x : NewCell) (b : Bool) → is_eq (hash_cmp c.hash x.hash) ≡ b → (c ≡ x) ⊎ Contains cells x → IsSome (tree.get hash_cmp rows' x.hash)
      one-present x b e (inl same) =
          let equal : is_eq (hash_cmp c.hash x.hash) ≡ true = sym (same_is c.hash.0 x.hash.0) ∙ (bytes_eq-Decides c.hash.0 x.hash.0).1 (ap (λ (y : NewCell). y.hash.0) same) in
          subst IsSome (sym (one.updates x.hash)) (there x (is_eq (hash_cmp c.hash x.hash)) refl (inr equal))
      one-present x b e (inr later) = subst IsSome (sym (one.updates x.hash)) (there x (is_eq (hash_cmp c.hash x.hash)) refl (inl (so.present x later)))

pub drop-at : (xs : List NewCell) (i : ℕ) (x : NewCell) → i < length xs → drop i xs ≡ get_or xs i x ∷ drop (suc i) xs
drop-at [] i x l = absurd (omega arith)
drop-at (y ∷ ys) zero x l = refl
drop-at (y ∷ ys) (suc i) x l = drop-at ys i x (omega arith)
