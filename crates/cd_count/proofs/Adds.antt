-- What the rows of a plan say once a block came.
use Rattle.std.proofs.Common.{◌≡◌, inl, inr, ℕ, ◌+◌, Bool, true, false, cond, is_some, is_none, List, [], ◌∷◌, ◌++◌, map, Contains, Option, Some, None, IsSome, refl, sym, ap, ◌∙◌, subst, arith, ⊎_elim}
use Rattle.std.specs.Option.{option_map, option_or, option_map_or}
use Rattle.std.specs.Str.{bytes_eq}
use Rattle.std.specs.BTreeMap as tree
use Rattle.std.proofs.lemmas.Option.{same_Some}
use Rattle.std.proofs.lemmas.List.Sums.{sum_by-cons}
use Rattle.cd_base.specs.declared.hash.Hash256.{Hash256}
use Rattle.cd_cell.specs.declared.new_cell.NewCell.{NewCell}
use Rattle.cd_cell.specs.FaceView.{FaceView}
use Rattle.cd_cell.specs.Export.{hash_cmp}
use Rattle.cd_cell.specs.Infos.{rep_of_info}
use Rattle.cd_cell.specs.Listings.{new_cell_of}
use Rattle.cd_cell.specs.Tree.{Tree, children, subtrees, face_of, rep_of}
use Rattle.cd_cell.proofs.Subtrees.{kids-face_of, Contains-nil, Contains-cases, Contains-first, Contains-later, Contains-map, Contains-mapped, subtree-itself}
use Rattle.cd_keeper.specs.Contents.{Contents}
use Rattle.cd_keeper.specs.Shown.{hash_bytes}
use Rattle.cd_record.specs.declared.record.Record.{Record}
use Rattle.cd_nodes.specs.Graphs as nodes
use Rattle.cd_nodes.specs.Plans as plans
use Rattle.cd_nodes.proofs.Lists.{option_cases, Contains-flat_map}
use Rattle.cd_nodes.proofs.Held.{held_of}
use Rattle.cd_nodes.proofs.Counts.{clash_free-few, held_at-kept}
use Rattle.cd_nodes.proofs.Records.{count-not_held}
use Rattle.cd_world.specs.World.{Block, World, count_of}
use Rattle.cd_count.specs.declared.rows.Row.{Row}
use Rattle.cd_count.specs.Changes.{states, row_in, rep_bytes, cell_graph, held_under}
use Rattle.cd_count.specs.Bringing.{unheld, IsBrought}
use Rattle.cd_count.specs.PlanRows.{row_of, rows_of}
use Rattle.cd_count.specs.PlanSteps.{RowMap, first_row, fixed_part, row_at, count_of_row, count_at, fixed_at, kid_bytes}
use Rattle.cd_count.specs.PlanGiving.{give_one, give_known, give_all, known_in, due_kids, due_of, IsRowRight, AreListed, AreGiven}
use Rattle.cd_count.specs.PlanWorlds.{record_of_cell, IsReadable}
use Rattle.cd_count.specs.Reading.{stored_in}
use Rattle.cd_count.proofs.CellGraph.{is_graph, clash_free, held_at-states, count-states}
use Rattle.cd_count.proofs.Drops.{row_in-at, unmapped, fixed-of, kid_bytes-children}

module _ (H : List ℕ → Hash256) where
  abbrev G : nodes.Graph Tree (List ℕ)
  G = cell_graph H

  -- references to hashes that are all known
  give_one-is : (f : List ℕ → ℕ) (k : Tree) (q : List ℕ) → give_one f (rep_bytes H k) q ≡ f q + cond {A = ℕ} (bytes_eq (rep_bytes H k) q) 1 0
  give_one-is f k q = elim (bytes_eq (rep_bytes H k) q) as (λ b. cond b (f q + 1) (f q) ≡ f q + cond {A = ℕ} b 1 0) [ true ↦ refl | false ↦ omega arith ]

  give_all-is : (known : List ℕ → Bool) (ks : List Tree) → ((k : Tree) → Contains ks k → known (rep_bytes H k) ≡ true) → (f : List ℕ → ℕ) (q : List ℕ)
      → give_all known f (map (rep_bytes H) ks) q ≡ f q + nodes.occurrences G ks q
  give_all-is known [] all f q = omega arith
  give_all-is known (k ∷ ks) all f q =
      let one : give_known known f (rep_bytes H k) ≡ give_one f (rep_bytes H k) = ap (λ b. cond b (give_one f (rep_bytes H k)) f) (all k (Contains-first k ks)) in
      let step : give_all known (give_known known f (rep_bytes H k)) (map (rep_bytes H) ks) q ≡ give_all known (give_one f (rep_bytes H k)) (map (rep_bytes H) ks) q = ap (λ g. give_all known g (map (rep_bytes H) ks) q) one in
      let a = give_all-is known ks (λ x h. all x (Contains-later k ks x h)) (give_one f (rep_bytes H k)) q in
      let b = give_one-is f k q in
      let c = sum_by-cons (λ n. cond {A = ℕ} (bytes_eq (rep_bytes H n) q) 1 0) k ks in
      omega arith

  give_all-more : (known : List ℕ → Bool) (xs ys : List (List ℕ)) (f : List ℕ → ℕ) → give_all known f (xs ++ ys) ≡ give_all known (give_all known f xs) ys
  give_all-more known [] ys f = refl
  give_all-more known (x ∷ xs) ys f = give_all-more known xs ys (give_known known f x)

  module _ (contents : Contents) (old grown : World) (block : Block) (cells : List NewCell) (listed : List Tree) (readable : IsReadable H old contents) (so : IsBrought H old grown block cells listed) where
    abbrev S : List ℕ → Option Record
    S = stored_in contents

    free_grown : nodes.AreClashFree G (states grown.blocks)
    free_grown = clash_free H (states grown.blocks) so.clear

    free_old : nodes.AreClashFree G (states old.blocks)
    free_old = clash_free-few G (is_graph H) (states old.blocks) (states (block ∷ [])) (states grown.blocks) so.came free_grown

    stored-is : (q : List ℕ) → S q ≡ option_map (record_of_cell H old q) (nodes.held_at G (states old.blocks) q)
    stored-is q = readable q ∙ ap (option_map (record_of_cell H old q)) (sym (held_at-states H old q))

    -- before anything changes, the count is that of the old world
    count-first : (q : List ℕ) → count_of_row S (option_map first_row (S q)) ≡ nodes.count G (states old.blocks) q
    count-first q = elim (option_cases (nodes.held_at G (states old.blocks) q)) [
      | inl none ↦ ap (λ (o : Option Record). count_of_row S (option_map first_row o)) (stored-is q ∙ ap (option_map (record_of_cell H old q)) none) ∙ sym (count-not_held G (is_graph H) (states old.blocks) free_old q none)
      | inr t ↦ ap (λ (o : Option Record). count_of_row S (option_map first_row o)) (stored-is q ∙ ap (option_map (record_of_cell H old q)) t.1) ∙ sym (count-states H old q)
    ]

    count-now : (rows : RowMap) (q : List ℕ) → count_at S rows q ≡ plans.now_at G (face_of H) (states old.blocks) (row_in (rows_of rows.entries)) q
    count-now rows q =
        by (tree.get hash_cmp rows (record { 0 = q })) (count-first q)
        ∙ ap (λ (o : Option (plans.Row FaceView)). option_map_or (λ (row : plans.Row FaceView). row.now) o (nodes.count G (states old.blocks) q)) (sym (row_in-at rows q))
      where
        by : (o : Option Row) → count_of_row S (option_map first_row (S q)) ≡ nodes.count G (states old.blocks) q
            → count_of_row S (option_or o (option_map first_row (S q))) ≡ option_map_or (λ (row : plans.Row FaceView). row.now) (option_map row_of o) (nodes.count G (states old.blocks) q)
        by None e = e
        by (Some r) e = refl

    module _ (rows : RowMap) (at_first : AreListed S cells rows) where
      -- what is listed or held is known
      known-listed : (c : Tree) → Contains listed c → known_in S rows (rep_bytes H c) ≡ true
      known-listed c h = by (tree.get hash_cmp rows (rep_of H c)) (at_first.present (new_cell_of H c) (subst (λ (xs : List NewCell). Contains xs (new_cell_of H c)) so.named (Contains-mapped (new_cell_of H) listed c h)))
        where
          by : (o : Option Row) → IsSome o → is_some (option_map fixed_part (option_or o (option_map first_row (S (rep_bytes H c))))) ≡ true
          by None some = absurd cc
          by (Some r) some = refl

      known-held : (q : List ℕ) → IsSome (held_under H old q) → known_in S rows q ≡ true
      known-held q some = by (tree.get hash_cmp rows (record { 0 = q })) (held_under H old q) some (readable q)
        where
          last : (s : Option Record) (h : Option Tree) → IsSome h → s ≡ option_map (record_of_cell H old q) h → is_some (option_map fixed_part (option_map first_row s)) ≡ true
          last s None some is = absurd cc
          last s (Some t) some is = ap (λ (o : Option Record). is_some (option_map fixed_part (option_map first_row o))) is

          by : (o : Option Row) (h : Option Tree) → IsSome h → S q ≡ option_map (record_of_cell H old q) h → is_some (option_map fixed_part (option_or o (option_map first_row (S q)))) ≡ true
          by (Some r) h some is = refl
          by None h some is = last (S q) h some is

      known-cell : (c : Tree) → Contains (subtrees block.state) c → known_in S rows (rep_bytes H c) ≡ true
      known-cell c h = ⊎_elim (known-listed c) (known-held (rep_bytes H c)) (so.every c h)

      -- the children to which a listed cell gives references
      due-is : (c : Tree) → Contains listed c → due_kids (fixed_at S rows (rep_bytes H c)) (face_of H c) ≡ cond (is_none (held_under H old (rep_bytes H c))) (map (rep_bytes H) (children c)) []
      due-is c h = by (row_at S rows (rep_bytes H c)) refl (known-listed c h)
        where
          kids : kid_bytes (face_of H c) ≡ map (rep_bytes H) (children c)
          kids = ap (λ ks. map hash_bytes (map rep_of_info ks)) (kids-face_of H c) ∙ kid_bytes-children H (children c)

          either : (h : Option Tree) → cond (is_some (option_map (λ (x : Record). x.count) (option_map (record_of_cell H old (rep_bytes H c)) h))) [] (kid_bytes (face_of H c)) ≡ cond (is_none h) (map (rep_bytes H) (children c)) []
          either None = kids
          either (Some t) = refl

          by : (o : Option Row) → row_at S rows (rep_bytes H c) ≡ o → is_some (option_map fixed_part o) ≡ true → due_kids (option_map fixed_part o) (face_of H c) ≡ cond (is_none (held_under H old (rep_bytes H c))) (map (rep_bytes H) (children c)) []
          by None at some = absurd cc
          by (Some r) at some =
              let right = at_first.right (rep_bytes H c) r at in
              ap (λ (o : Option ℕ). cond (is_some o) [] (kid_bytes (face_of H c))) (right.count ∙ ap (option_map (λ (x : Record). x.count)) (readable (rep_bytes H c)))
              ∙ either (held_under H old (rep_bytes H c))

      given-cells : (ts : List Tree) → ((c : Tree) → Contains ts c → Contains listed c) → (f : List ℕ → ℕ) (q : List ℕ)
          → give_all (known_in S rows) f (due_of S rows (map (new_cell_of H) ts)) q ≡ f q + nodes.references G (unheld H old ts) q
      given-cells [] within f q = omega arith
      given-cells (c ∷ ts) within f q =
          let here = within c (Contains-first c ts) in
          let due = due_kids (fixed_at S rows (rep_bytes H c)) (face_of H c) in
          let rest = due_of S rows (map (new_cell_of H) ts) in
          let a : give_all (known_in S rows) f (due ++ rest) q ≡ give_all (known_in S rows) (give_all (known_in S rows) f due) rest q = ap (λ g. g q) (give_all-more (known_in S rows) due rest f) in
          let b = given-cells ts (λ x h. within x (Contains-later c ts x h)) (give_all (known_in S rows) f due) q in
          a ∙ b ∙ elim (is_none (held_under H old (rep_bytes H c))) as (λ n. due ≡ cond n (map (rep_bytes H) (children c)) [] → give_all (known_in S rows) f due q + nodes.references G (unheld H old ts) q ≡ f q + nodes.references G (cond n (c ∷ unheld H old ts) (unheld H old ts)) q) [
            | true ↦ λ e.
                let u : give_all (known_in S rows) f due q ≡ give_all (known_in S rows) f (map (rep_bytes H) (children c)) q = ap (λ ks. give_all (known_in S rows) f ks q) e in
                let v = give_all-is (known_in S rows) (children c) (λ k h. known-cell k (below_block c here k h)) f q in
                let w = sum_by-cons (λ n. nodes.occurrences G (children n) q) c (unheld H old ts) in
                omega arith
            | false ↦ λ e.
                let u : give_all (known_in S rows) f due q ≡ f q = ap (λ ks. give_all (known_in S rows) f ks q) e in
                omega arith
          ] (due-is c here)
        where
          below_block : (c : Tree) → Contains listed c → (k : Tree) → Contains (children c) k → Contains (subtrees block.state) k
          below_block c h k kid = let laws = is_graph H in laws.below block.state c k (so.within c h) kid

      -- the counts once the block came
      module _ (rows' : RowMap) (given : AreGiven S rows (due_of S rows cells ++ rep_bytes H block.state ∷ []) rows') where
        given-sum : (q : List ℕ) → count_at S rows' q ≡ nodes.count G (states old.blocks) q + (nodes.occurrences G (states (block ∷ [])) q + nodes.references G (unheld H old listed) q)
        given-sum q =
            let a : count_at S rows' q ≡ give_all (known_in S rows) (count_at S rows) (due_of S rows cells ++ rep_bytes H block.state ∷ []) q = ap (λ g. g q) given.counts in
            let b : give_all (known_in S rows) (count_at S rows) (due_of S rows cells ++ rep_bytes H block.state ∷ []) q ≡ give_all (known_in S rows) (give_all (known_in S rows) (count_at S rows) (due_of S rows cells)) (rep_bytes H block.state ∷ []) q = ap (λ g. g q) (give_all-more (known_in S rows) (due_of S rows cells) (rep_bytes H block.state ∷ []) (count_at S rows)) in
            let c = give_all-is (known_in S rows) (block.state ∷ []) (λ k h. root-known k h) (give_all (known_in S rows) (count_at S rows) (due_of S rows cells)) q in
            let d : give_all (known_in S rows) (count_at S rows) (due_of S rows cells) q ≡ give_all (known_in S rows) (count_at S rows) (due_of S rows (map (new_cell_of H) listed)) q = ap (λ cs. give_all (known_in S rows) (count_at S rows) (due_of S rows cs) q) (sym so.named) in
            let e = given-cells listed (λ x h. h) (count_at S rows) q in
            let f = at_first.counts q in
            let g = count-first q in
            omega arith
          where
            root-known : (k : Tree) → Contains (block.state ∷ []) k → known_in S rows (rep_bytes H k) ≡ true
            root-known k h = ⊎_elim (λ (same : block.state ≡ k). subst (λ (x : Tree). known_in S rows (rep_bytes H x) ≡ true) same (known-cell block.state (subtree-itself block.state))) (λ no. absurd (Contains-nil k no)) (Contains-cases block.state [] k h)

        -- the rows
        right : (q : List ℕ) (r : Row) → row_at S rows' q ≡ Some r → IsRowRight S cells q r
        right q r e =
            let was = fixed-of (row_at S rows q) (fixed_part r) (sym (given.fixed q) ∙ ap (option_map fixed_part) e) in
            let so_was = at_first.right q was.0 was.1 in
            let face : r.face ≡ (was.0).face = ap (λ (p : Option ℕ × FaceView). p.1) (sym was.2) in
            record {
              count = ap (λ (p : Option ℕ × FaceView). p.0) (sym was.2) ∙ so_was.count;
              face = λ x is. face ∙ so_was.face x is;
              new = λ none. let found = so_was.new none in (found.0, found.1, found.2, face ∙ found.3);
            }

        row-there : (q : List ℕ) (p : plans.Row FaceView) → row_in (rows_of rows'.entries) q ≡ Some p → (r : Row) × (row_at S rows' q ≡ Some r) × (row_of r ≡ p)
        row-there q p is =
            let r = unmapped (tree.get hash_cmp rows' (record { 0 = q })) p (sym (row_in-at rows' q) ∙ is) in
            (r.0, ap (λ (o : Option Row). option_or o (option_map first_row (S q))) r.1, r.2)

        mapped : (q : List ℕ) (o : Option Tree) → option_map (λ (x : Record). x.count) (option_map (record_of_cell H old q) o) ≡ option_map (λ (c : Tree). count_of H old q) o
        mapped q None = refl
        mapped q (Some t) = refl

        right-stored : (q : List ℕ) (r : Row) → row_at S rows' q ≡ Some r → r.stored ≡ plans.stored_count G (face_of H) (states old.blocks) q
        right-stored q r e =
            let so_right = right q r e in
            so_right.count ∙ ap (option_map (λ (x : Record). x.count)) (stored-is q) ∙ mapped q (nodes.held_at G (states old.blocks) q)
            ∙ ap (λ n. option_map (λ (c : Tree). n) (nodes.held_at G (states old.blocks) q)) (sym (count-states H old q))

        right-face : (q : List ℕ) (r : Row) → row_at S rows' q ≡ Some r → (c : Tree) → nodes.held_at G (states grown.blocks) q ≡ Some c → r.face ≡ face_of H c
        right-face q r e c held = elim (option_cases (nodes.held_at G (states old.blocks) q)) [
          | inr t ↦
              let kept = held_at-kept G (is_graph H) (states old.blocks) (states (block ∷ [])) (states grown.blocks) so.came free_grown q t.0 t.1 in
              so_right.face (record_of_cell H old q t.0) (stored-is q ∙ ap (option_map (record_of_cell H old q)) t.1) ∙ ap (face_of H) (same_Some t.0 c (sym kept ∙ held))
          | inl none ↦
              let new = so_right.new (stored-is q ∙ ap (option_map (record_of_cell H old q)) none) in
              let from = Contains-map (new_cell_of H) listed new.0 (subst (λ (xs : List NewCell). Contains xs new.0) (sym so.named) new.1) in
              let key : rep_bytes H from.0 ≡ q = ap (λ (x : NewCell). x.hash.0) from.2 ∙ new.2 in
              let there = held_of G (is_graph H) (states grown.blocks) free_grown from.0 (reached-listed from.0 from.1) in
              let same = same_Some from.0 c (sym (subst (λ (k : List ℕ). nodes.held_at G (states grown.blocks) k ≡ Some from.0) key there) ∙ held) in
              new.3 ∙ sym (ap (λ (x : NewCell). x.face) from.2) ∙ ap (face_of H) same
        ]
          where
            so_right : IsRowRight S cells q r
            so_right = right q r e

            reached-listed : (t : Tree) → Contains listed t → Contains (nodes.reached G (states grown.blocks)) t
            reached-listed t h = let came = so.came in Contains-flat_map subtrees (states grown.blocks) block.state t (came.second block.state (Contains-first block.state [])) (so.within t h)

        pub added-rows : plans.AreRows G (face_of H) (states old.blocks) (states (block ∷ [])) (states grown.blocks) [] (unheld H old listed) [] (row_in (rows_of rows'.entries))
        added-rows = record {
          stored = λ q p is.
              let r = row-there q p is in
              ap (λ (x : plans.Row FaceView). x.stored) (sym r.2) ∙ right-stored q r.0 r.1;
          faces = λ q p c is held.
              let r = row-there q p is in
              ap (λ (x : plans.Row FaceView). x.face) (sym r.2) ∙ right-face q r.0 r.1 c held;
          now = λ q. let a = count-now rows' q in let b = given-sum q in omega arith;
        }
