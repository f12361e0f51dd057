-- The export text of a tree is a bag of that tree.
use Rattle.std.proofs.Common.{◌≡◌, ℕ, zero, suc, ◌<◌, ◌≤◌, ◌^◌, true, false, List, [], ◌∷◌, length, get_or, map, Option, Some, None, IfSome, refl, sym, ap, subst, ◌∙◌, arith}
use Rattle.std.proofs.lemmas.Bool.{true≢false}
use Rattle.std.proofs.lemmas.List.{length-map}
use Rattle.cd_base.specs.declared.hash.Hash256.{Hash256}
use Rattle.cd_cell.specs.declared.new_cell.NewCell.{NewCell}
use Rattle.cd_cell.specs.Tree.{Tree, mask_of, IsWellFormed}
use Rattle.cd_cell.specs.Unfolding.{unfolding_of}
use Rattle.cd_cell.specs.Export.{distinct_cells, AreClashFree, IsClashFree}
use Rattle.cd_cell.specs.Listings.{new_cell_of}
use Rattle.cd_boc_write.specs.Frames.{Frame}
use Rattle.cd_boc_write.specs.CellTexts.{Text, entries_of_texts, texts_text, ends_from}
use Rattle.cd_boc_write.specs.Exports.{text_of_cell, export_texts, export_frame, bag_of}
use Rattle.cd_boc_write.proofs.ExportBags.{unfold_from-bag, unfolding_of-bag, unfolding_of-bag_root, refs-bag, well_formed-bag, good-bag, some-bag, few_bits-bag, few_refs-bag, mask-bag, small_mask-bag, stored-bag, clear-bag, some_size, most_size, some_off_bytes, most_off_bytes, cells_fit, data_fits, index_fits}
use Rattle.cd_boc_read.specs.Grammar.{end_of_entry, stored_len, IsText, IsBagOf, IsStated, Spells}

map-itself : (xs : List ℕ) → map (λ x. x) xs ≡ xs
map-itself [] = refl
map-itself (x ∷ xs) = ap (λ ys. x ∷ ys) (map-itself xs)

none-stored : {A : Type 0} (o : Option A) (P : A → Type 0) → o ≡ None → IfSome o P
none-stored None P e = tt
none-stored (Some x) P e = absurd cc

first_only : (n : ℕ) → 0 < n → (p : ℕ) → p < 1 → get_or (0 ∷ []) p 0 < n
first_only n some zero in' = some
first_only n some (suc p) in' = absurd (omega arith)

module _ (cells : List NewCell) where
  ends-exported : map (end_of_entry (export_frame cells).shape) (export_frame cells).index ≡ ends_from (export_frame cells).shape.size 0 (export_texts cells)
  unfolding export_frame
  ends-exported = map-itself (export_frame cells).index

  cache-exported : (export_frame cells).shape.has_cache_bits ≡ false
  unfolding export_frame
  cache-exported = refl

  index-exported : (export_frame cells).shape.has_index ≡ true
  unfolding export_frame
  index-exported = refl

  cells-exported : (export_frame cells).cells ≡ length cells
  unfolding export_frame
  cells-exported = refl

  roots-exported : (export_frame cells).roots ≡ 0 ∷ []
  unfolding export_frame
  roots-exported = refl

  data-exported : (export_frame cells).cell_data ≡ texts_text (export_frame cells).shape.size (export_texts cells)
  unfolding export_frame
  data-exported = refl

module _ (H : List ℕ → Hash256) (t : Tree) (good : IsWellFormed H t) (clear : IsClashFree H t) (few : length (distinct_cells H t) ≤ 1048576) where
  abbrev listed : List Tree
  listed = distinct_cells H t

  abbrev cells : List NewCell
  cells = map (new_cell_of H) listed

  abbrev texts : List Text
  texts = export_texts cells

  abbrev frame : Frame
  frame = export_frame cells

  count-cells : length cells ≡ length listed
  count-cells = length-map listed (new_cell_of H)

  count : length texts ≡ length listed
  count = length-map cells (text_of_cell cells) ∙ count-cells

  few-cells : length cells ≤ 1048576
  few-cells = omega (arith, few, count-cells)

  text-exported : (k : ℕ) (d : Text) → k < length texts → IsText (length texts) k (get_or texts k d)
  text-exported k d in' =
      let below : k < length listed = omega (arith, in', count) in
      record {
        few_bits = few_bits-bag H t good clear k d below;
        few_refs = few_refs-bag H t good clear k d below;
        mask = small_mask-bag H t good clear k d below;
        stored = none-stored (get_or texts k d).stored (λ bytes. length bytes ≡ stored_len (get_or texts k d).mask) (stored-bag H t good clear k d below);
        later = λ p in-refs. (refs-bag H t good clear k p d below in-refs).0;
        there = λ p in-refs. omega (arith, (refs-bag H t good clear k p d below in-refs).1, count);
      }

  bag-exported : IsBagOf frame texts
  bag-exported =
      let some : 0 < length texts = omega (arith, some-bag H t good clear, count) in
      let roots = roots-exported cells in
      record {
        shape = record {
          some_size = some_size cells few-cells (good-bag H t good clear);
          most_size = most_size cells few-cells (good-bag H t good clear);
          some_off_bytes = some_off_bytes cells few-cells (good-bag H t good clear);
          most_off_bytes = most_off_bytes cells few-cells (good-bag H t good clear);
          cache = λ e. absurd (true≢false (sym e ∙ cache-exported cells));
        };
        counted = cells-exported cells ∙ sym (length-map cells (text_of_cell cells));
        few_cells = omega (arith, few, count);
        cells_fit = subst (λ n. n < 256 ^ frame.shape.size) (sym (length-map cells (text_of_cell cells))) (cells_fit cells few-cells (good-bag H t good clear));
        some_roots = omega (arith, ap length roots);
        few_roots = omega (arith, ap length roots, some);
        rooted =
            λ p in'.
            let one : p < 1 = omega (arith, in', ap length roots) in
            omega (arith, ap (λ rs. get_or rs p 0) roots, first_only (length texts) some p one);
        texts = text-exported;
        cell_data = data-exported cells;
        data_fits = data_fits cells few-cells (good-bag H t good clear);
        index = λ _. ends-exported cells;
        index_fits = index_fits cells few-cells (good-bag H t good clear);
        no_index = λ e. absurd (true≢false (sym (index-exported cells) ∙ e));
      }

  stated-exported : (k : ℕ) (d : Text) → k < length texts → IsStated H (get_or texts k d) (unfolding_of (entries_of_texts texts) k)
  stated-exported k d in' =
      let below : k < length listed = omega (arith, in', count) in
      let tree = unfolding_of-bag H t good clear k in
      record {
        mask = ap (mask_of H) tree ∙ mask-bag H t good clear k d below;
        stored = none-stored (get_or texts k d).stored _ (stored-bag H t good clear k d below);
      }

  -- the export text of a well-formed tree free of clashes is a bag of that tree
  pub spells-bag : Spells H (bag_of H t) (t ∷ [])
  spells-bag = record {
    frame = frame;
    texts = texts;
    bag = bag-exported;
    text = refl;
    good = λ k in'. subst (IsWellFormed H) (sym (unfolding_of-bag H t good clear k)) (well_formed-bag H t good clear k (omega (arith, in', count)));
    stated = stated-exported;
    clear = subst (AreClashFree H) (sym (unfold_from-bag H t good clear)) (clear-bag H t good clear);
    are = ap (λ x. x ∷ []) (sym (unfolding_of-bag_root H t good clear)) ∙ ap (map (unfolding_of (entries_of_texts texts))) (sym (roots-exported cells));
  }
