-- The worklist over the rows of a plan, and what the rows say when it ends.
use Rattle.std.proofs.Common.{◌≡◌, inl, inr, ℕ, zero, suc, ◌+◌, ◌<◌, ◌≤◌, Bool, true, false, cond, List, [], ◌∷◌, ◌++◌, map, take, get_or, length, length-append, Contains, Option, Some, None, refl, sym, ap, ◌∙◌, subst, arith, nat_eq}
use Rattle.std.specs.Option.{option_map, option_or, option_map_or}
use Rattle.std.specs.Str.{bytes_eq}
use Rattle.std.specs.Map.{lookup}
use Rattle.std.specs.Ordering.{nat_cmp, is_eq}
use Rattle.std.specs.Cmp.Lexicographic.{slice_cmp}
use Rattle.std.specs.BTreeMap as tree
use Rattle.std.specs.FinMap as finite
use Rattle.std.proofs.lemmas.List.Elements.{Contains-get_or}
use Rattle.cd_base.specs.declared.hash.Hash256.{Hash256}
use Rattle.cd_cell.specs.FaceView.{FaceView}
use Rattle.cd_cell.specs.Infos.{rep_of_info}
use Rattle.cd_cell.specs.Tree.{Tree, children, face_of, info_of}
use Rattle.cd_cell.specs.Export.{hash_cmp}
use Rattle.cd_cell.proofs.Subtrees.{kids-face_of}
use Rattle.cd_keeper.specs.Contents.{Contents}
use Rattle.cd_keeper.specs.Shown.{hash_bytes}
use Rattle.cd_record.specs.declared.record.Record.{Record}
use Rattle.cd_nodes.specs.Graphs as nodes
use Rattle.cd_nodes.specs.Plans as plans
use Rattle.cd_nodes.specs.Worklists.{Left, take_one, take_all, IsUnderWay}
use Rattle.cd_nodes.proofs.Lists.{option_cases, take_all_of}
use Rattle.cd_nodes.proofs.Held.{held_in, held_of}
use Rattle.cd_nodes.proofs.Counts.{count-grown, clash_free-few, held_at-kept}
use Rattle.cd_nodes.proofs.Records.{count-held, count-not_held}
use Rattle.cd_nodes.proofs.Worklists.{underway-begun, underway-next, underway-ended, underway-few}
use Rattle.cd_world.specs.World.{Block, World}
use Rattle.cd_count.specs.declared.rows.Row.{Row}
use Rattle.cd_count.specs.Changes.{states, row_in, rep_bytes, cell_graph, AreTogether, AreCounted, AreAdded, AreDeadCells}
use Rattle.cd_count.specs.PlanRows.{row_of, rows_of}
use Rattle.cd_count.specs.PlanSteps.{RowMap, first_row, fixed_part, row_at, count_of_row, count_at, fixed_at, left_in, kid_bytes, AreTaken}
use Rattle.cd_count.specs.PlanWorlds.{record_of_cell, IsReadable, IsDropped}
use Rattle.cd_count.specs.Reading.{stored_in}
use Rattle.cd_count.proofs.CellGraph.{is_graph, clash_free, held_at-states, count-states}

-- ---- lists

longer : (b : Bool) (xs : List (List ℕ)) (k : List ℕ) → length xs ≤ length (cond b (xs ++ k ∷ []) xs)
longer true xs k = let e = length-append xs (k ∷ []) in omega arith
longer false xs k = omega arith

take_all-long : (ks : List (List ℕ)) (s : Left (List ℕ)) → length s.dead ≤ length (take_all bytes_eq s ks).dead
take_all-long [] s = omega arith
take_all-long (k ∷ ks) s =
    let a = longer (nat_eq (s.counts k) 1) s.dead k in
    let b = take_all-long ks (take_one bytes_eq s k) in
    omega arith

element : {X : Type 0} (xs : List X) (i : ℕ) → i < length xs → (x : X) × (get_or xs i x ≡ x)
element [] i l = absurd (omega arith)
element (x ∷ xs) zero l = (x, refl)
element (x ∷ xs) (suc i) l = element xs i (omega arith)

get_or-map : {X Y : Type 0} (f : X → Y) (xs : List X) (i : ℕ) (d : X) → get_or (map f xs) i (f d) ≡ f (get_or xs i d)
get_or-map f [] i d = refl
get_or-map f (x ∷ xs) zero d = refl
get_or-map f (x ∷ xs) (suc i) d = get_or-map f xs i d

pub length-map : {X Y : Type 0} (f : X → Y) (xs : List X) → length (map f xs) ≡ length xs
length-map f [] = refl
length-map f (x ∷ xs) = ap suc (length-map f xs)

same_place : {X : Type 0} (xs : List X) (i : ℕ) (c d : X) → i < length xs → get_or xs i c ≡ get_or xs i d
same_place [] i c d l = absurd (omega arith)
same_place (x ∷ xs) zero c d l = refl
same_place (x ∷ xs) (suc i) c d l = same_place xs i c d (omega arith)

-- ---- rows as a list

find-rows : (h : Hash256) (es : List (Hash256 × Row)) → finite.find (slice_cmp nat_cmp) h.0 (rows_of es) ≡ option_map row_of (lookup (tree.is_at (hash_cmp h)) es)
find-rows h [] = refl
find-rows h (e ∷ es) =
    elim (is_eq (hash_cmp h e.0)) as (λ b. cond b (Some (row_of e.1)) (finite.find (slice_cmp nat_cmp) h.0 (rows_of es)) ≡ option_map row_of (cond b (Some e.1) (lookup (tree.is_at (hash_cmp h)) es))) [
      | true ↦ refl
      | false ↦ find-rows h es
    ]

pub row_in-at : (rows : RowMap) (q : List ℕ) → row_in (rows_of rows.entries) q ≡ option_map row_of (tree.get hash_cmp rows (record { 0 = q }))
row_in-at rows q = find-rows (record { 0 = q }) rows.entries

pub unmapped : (o : Option Row) (p : plans.Row FaceView) → option_map row_of o ≡ Some p → (r : Row) × (o ≡ Some r) × (row_of r ≡ p)
unmapped None p e = cc
unmapped (Some r) p e = (r, refl, cc)

pub fixed-of : (o : Option Row) (p : Option ℕ × FaceView) → option_map fixed_part o ≡ Some p → (r : Row) × (o ≡ Some r) × (fixed_part r ≡ p)
fixed-of None p e = cc
fixed-of (Some r) p e = (r, refl, cc)

pub kid_bytes-children : (H : List ℕ → Hash256) (ts : List Tree) → map hash_bytes (map rep_of_info (map (info_of H) ts)) ≡ map (rep_bytes H) ts
kid_bytes-children H [] = refl
kid_bytes-children H (t ∷ ts) = ap (λ ks. rep_bytes H t ∷ ks) (kid_bytes-children H ts)

module _ (H : List ℕ → Hash256) (contents : Contents) (old grown left : World) (come gone : List Block) (news : List Tree) (readable : IsReadable H old contents)
    (rows0 : RowMap) (added : AreAdded H old grown come news (rows_of rows0.entries)) (went : AreTogether H left.blocks gone grown.blocks) where
  abbrev G : nodes.Graph Tree (List ℕ)
  G = cell_graph H

  abbrev S : List ℕ → Option Record
  S = stored_in contents

  free_grown : nodes.AreClashFree G (states grown.blocks)
  free_grown = clash_free H (states grown.blocks) added.clash_free

  free_old : nodes.AreClashFree G (states old.blocks)
  free_old = clash_free-few G (is_graph H) (states old.blocks) (states come) (states grown.blocks) added.came free_grown

  -- what is stored under a hash
  stored-none : (q : List ℕ) → nodes.held_at G (states old.blocks) q ≡ None → S q ≡ None
  stored-none q none = readable q ∙ ap (option_map (record_of_cell H old q)) (sym (held_at-states H old q) ∙ none)

  stored-some : (q : List ℕ) (t : Tree) → nodes.held_at G (states old.blocks) q ≡ Some t → S q ≡ Some (record_of_cell H old q t)
  stored-some q t some = readable q ∙ ap (option_map (record_of_cell H old q)) (sym (held_at-states H old q) ∙ some)

  -- without a row, the count is that of the old world
  count-first : (q : List ℕ) → count_of_row S (option_map first_row (S q)) ≡ nodes.count G (states old.blocks) q
  count-first q = elim (option_cases (nodes.held_at G (states old.blocks) q)) [
    | inl none ↦ ap (λ (o : Option Record). count_of_row S (option_map first_row o)) (stored-none q none) ∙ sym (count-not_held G (is_graph H) (states old.blocks) free_old q none)
    | inr t ↦ ap (λ (o : Option Record). count_of_row S (option_map first_row o)) (stored-some q t.0 t.1) ∙ sym (count-states H old q)
  ]

  count-now : (rows : RowMap) (q : List ℕ) → count_at S rows q ≡ plans.now_at G (face_of H) (states old.blocks) (row_in (rows_of rows.entries)) q
  count-now rows q =
      by (tree.get hash_cmp rows (record { 0 = q })) (count-first q)
      ∙ ap (λ (o : Option (plans.Row FaceView)). option_map_or (λ (row : plans.Row FaceView). row.now) o (nodes.count G (states old.blocks) q)) (sym (row_in-at rows q))
    where
      by : (o : Option Row) → count_of_row S (option_map first_row (S q)) ≡ nodes.count G (states old.blocks) q
          → count_of_row S (option_or o (option_map first_row (S q))) ≡ option_map_or (λ (row : plans.Row FaceView). row.now) (option_map row_of o) (nodes.count G (states old.blocks) q)
      by None e = e
      by (Some r) e = refl

  -- at first the counts are those of the grown world
  pub count-first_grown : (q : List ℕ) → count_at S rows0 q ≡ nodes.count G (states grown.blocks) q
  count-first_grown q =
      let a = count-now rows0 q in
      let b = added.rows_are.now q in
      let c = count-grown G (is_graph H) (states old.blocks) (states come) (states grown.blocks) added.came free_grown news added.new q in
      omega arith

  -- ---- what doesn't change

  record IsRight (q : List ℕ) (r : Row) : Type 0 where
    stored : r.stored ≡ plans.stored_count G (face_of H) (states old.blocks) q
    face : (c : Tree) → nodes.held_at G (states grown.blocks) q ≡ Some c → r.face ≡ face_of H c

  right-row : (q : List ℕ) (r : Row) → tree.get hash_cmp rows0 (record { 0 = q }) ≡ Some r → IsRight q r
  right-row q r e =
      let there : row_in (rows_of rows0.entries) q ≡ Some (row_of r) = row_in-at rows0 q ∙ ap (option_map row_of) e in
      record {
        stored = added.rows_are.stored q (row_of r) there;
        face = λ c held. added.rows_are.faces q (row_of r) c there held;
      }

  some_one : {X : Type 0} (o : Option X) (x y : X) → o ≡ Some x → o ≡ Some y → x ≡ y
  some_one o x y a b = cc

  right-first : (q : List ℕ) (r : Row) → option_map first_row (S q) ≡ Some r → IsRight q r
  right-first q r e = elim (option_cases (nodes.held_at G (states old.blocks) q)) [
    | inl none ↦ absurd (no (option_map first_row (S q)) (ap (option_map first_row) (stored-none q none)) e)
    | inr t ↦
        let is : r ≡ first_row (record_of_cell H old q t.0) = some_one (option_map first_row (S q)) r (first_row (record_of_cell H old q t.0)) e (ap (option_map first_row) (stored-some q t.0 t.1)) in
        record {
          stored = ap (λ (x : Row). x.stored) is ∙ ap (λ n. Some n) (sym (count-states H old q)) ∙ sym (ap (option_map (λ (c : Tree). nodes.count G (states old.blocks) q)) t.1);
          face = λ c held.
              let same = some_one (nodes.held_at G (states grown.blocks) q) t.0 c (held_at-kept G (is_graph H) (states old.blocks) (states come) (states grown.blocks) added.came free_grown q t.0 t.1) held in
              ap (λ (x : Row). x.face) is ∙ ap (face_of H) same;
        }
  ]
    where
      no : (o : Option Row) → o ≡ None → o ≡ Some r → ⊥
      no o a b = cc

  right-at_first : (q : List ℕ) (r : Row) → row_at S rows0 q ≡ Some r → IsRight q r
  right-at_first q r e = by (tree.get hash_cmp rows0 (record { 0 = q })) refl e
    where
      by : (o : Option Row) → tree.get hash_cmp rows0 (record { 0 = q }) ≡ o → option_or o (option_map first_row (S q)) ≡ Some r → IsRight q r
      by None at s = right-first q r s
      by (Some x) at s = right-row q r (at ∙ s)

  -- no step changes a row's stored count and face
  right-at : (rows : RowMap) → ((h : List ℕ) → fixed_at S rows h ≡ fixed_at S rows0 h) → (q : List ℕ) (r : Row) → row_at S rows q ≡ Some r → IsRight q r
  right-at rows fixed q r e =
      let was = fixed-of (row_at S rows0 q) (fixed_part r) (sym (fixed q) ∙ ap (option_map fixed_part) e) in
      let so = right-at_first q was.0 was.1 in
      record {
        stored = ap (λ (p : Option ℕ × FaceView). p.0) (sym was.2) ∙ so.stored;
        face = λ c held. ap (λ (p : Option ℕ × FaceView). p.1) (sym was.2) ∙ so.face c held;
      }

  -- ---- the steps

  pub record IsGoing (rows : RowMap) (dead : List Hash256) (next : ℕ) : Type 0 where
    pub fixed : (h : List ℕ) → fixed_at S rows h ≡ fixed_at S rows0 h
    pub work : IsUnderWay G (states grown.blocks) (states gone) (left_in S rows dead) next

  pub going-begun : (roots : List Hash256) (rows : RowMap) (dead : List Hash256) → map (rep_bytes H) (states gone) ≡ map hash_bytes roots
      → AreTaken S rows0 [] (map hash_bytes roots) rows dead → IsGoing rows dead 0
  going-begun roots rows dead named taken = record {
    fixed = taken.fixed;
    work = subst (λ (s : Left (List ℕ)). IsUnderWay G (states grown.blocks) (states gone) s 0)
        (ap (take_all bytes_eq (left_in S rows0 [])) named ∙ sym taken.left)
        (underway-begun G (is_graph H) (states grown.blocks) free_grown (states left.blocks) (states gone) went (count_at S rows0) count-first_grown);
  }

  module _ (rows : RowMap) (dead : List Hash256) (next : ℕ) (so : IsGoing rows dead next) (within : next < length dead) (hash : Hash256) (is : hash ≡ get_or dead next hash) where
    as_many : length so.work.nodes ≡ length dead
    as_many = sym (length-map (rep_bytes H) so.work.nodes) ∙ ap length so.work.named ∙ length-map hash_bytes dead

    within_nodes : next < length so.work.nodes
    within_nodes = let n = as_many in omega arith

    node : (t : Tree) × (get_or so.work.nodes next t ≡ t)
    node = element so.work.nodes next within_nodes

    node-key : rep_bytes H node.0 ≡ hash.0
    node-key =
        ap (rep_bytes H) (sym node.1) ∙ sym (get_or-map (rep_bytes H) so.work.nodes next node.0) ∙ ap (λ ks. get_or ks next (rep_bytes H node.0)) so.work.named
        ∙ same_place (map hash_bytes dead) next (rep_bytes H node.0) hash.0 (let n = length-map hash_bytes dead in omega arith)
        ∙ get_or-map hash_bytes dead next hash ∙ ap hash_bytes (sym is)

    node-listed : Contains so.work.nodes node.0
    node-listed = subst (Contains so.work.nodes) node.1 (Contains-get_or so.work.nodes next node.0 within_nodes)

    node-reached : Contains (nodes.reached G (states grown.blocks)) node.0
    node-reached = so.work.emptied.held_now node.0 node-listed

    node-held : nodes.held_at G (states grown.blocks) hash.0 ≡ Some node.0
    node-held = subst (λ k. nodes.held_at G (states grown.blocks) k ≡ Some node.0) node-key (held_of G (is_graph H) (states grown.blocks) free_grown node.0 node-reached)

    count-zero : count_at S rows hash.0 ≡ 0
    count-zero = ap (count_at S rows) (sym node-key) ∙ so.work.emptied.unnamed node.0 node-listed

    counted : 1 ≤ nodes.count G (states grown.blocks) hash.0
    counted = subst (λ k. 1 ≤ nodes.count G (states grown.blocks) k) node-key (count-held G (is_graph H) (states grown.blocks) free_grown node.0 node-reached)

    -- a dead cell has a row
    has_row : (row : Row) × (tree.get hash_cmp rows hash ≡ Some row)
    has_row = elim (option_cases (tree.get hash_cmp rows hash)) [
      | inr there ↦ there
      | inl none ↦
          let first : row_at S rows hash.0 ≡ option_map first_row (S hash.0) = ap (λ (o : Option Row). option_or o (option_map first_row (S hash.0))) none in
          let c : count_at S rows hash.0 ≡ nodes.count G (states old.blocks) hash.0 = ap (count_of_row S) first ∙ count-first hash.0 in
          let z = count-zero in
          elim (option_cases (nodes.held_at G (states old.blocks) hash.0)) [
            | inr t ↦
                let h = held_old t.0 t.1 in
                absurd (omega arith)
            | inl not_held ↦
                let gone_now : fixed_at S rows hash.0 ≡ None = ap (option_map fixed_part) (first ∙ ap (option_map first_row) (stored-none hash.0 not_held)) in
                let none_first : row_at S rows0 hash.0 ≡ None = unfixed (row_at S rows0 hash.0) (sym (so.fixed hash.0) ∙ gone_now) in
                let zero_first : count_at S rows0 hash.0 ≡ 0 = ap (count_of_row S) none_first in
                let g = count-first_grown hash.0 in
                let one = counted in
                absurd (omega arith)
          ]
    ]
      where
        unfixed : (o : Option Row) → option_map fixed_part o ≡ None → o ≡ None
        unfixed None e = refl
        unfixed (Some x) e = cc

        held_old : (t : Tree) → nodes.held_at G (states old.blocks) hash.0 ≡ Some t → 1 ≤ nodes.count G (states old.blocks) hash.0
        held_old t e =
            let h = held_in G (is_graph H) (states old.blocks) hash.0 t e in
            subst (λ k. 1 ≤ nodes.count G (states old.blocks) k) h.1 (count-held G (is_graph H) (states old.blocks) free_old t h.0)

    pub going-next : (rows' : RowMap) (dead' : List Hash256) → ((row : Row) → tree.get hash_cmp rows hash ≡ Some row → AreTaken S rows dead (kid_bytes row.face) rows' dead')
        → IsGoing rows' dead' (next + 1)
    going-next rows' dead' step =
        let taken = step has_row.0 has_row.1 in
        let right = right-at rows so.fixed hash.0 has_row.0 (ap (λ (o : Option Row). option_or o (option_map first_row (S hash.0))) has_row.1) in
        let kids : kid_bytes has_row.0.face ≡ map (rep_bytes H) (children node.0) =
        ap kid_bytes (right.face node.0 node-held) ∙ ap (λ ks. map hash_bytes (map rep_of_info ks)) (kids-face_of H node.0) ∙ kid_bytes-children H (children node.0) in
        record {
          fixed = λ h. taken.fixed h ∙ so.fixed h;
          work = subst (λ (s : Left (List ℕ)). IsUnderWay G (states grown.blocks) (states gone) s (next + 1))
              (ap (take_all bytes_eq (left_in S rows dead)) (sym kids) ∙ sym taken.left)
              (underway-next G (is_graph H) (states grown.blocks) free_grown (states left.blocks) (states gone) went (left_in S rows dead) next so.work node.0 within_nodes node.1);
        }

  -- no more are dead so far than in the end
  pub going-few : (rows : RowMap) (dead : List Hash256) (next : ℕ) → IsGoing rows dead next → (all : List Tree) → AreDeadCells H grown.blocks gone all → length dead ≤ length all
  going-few rows dead next so all are =
      let n : length so.work.nodes ≡ length dead = sym (length-map (rep_bytes H) so.work.nodes) ∙ ap length so.work.named ∙ length-map hash_bytes dead in
      let m = underway-few G (is_graph H) (states grown.blocks) free_grown (states left.blocks) (states gone) went (left_in S rows dead) next so.work all are in
      omega arith

  pub going-ended : (rows : RowMap) (dead : List Hash256) (next : ℕ) → IsGoing rows dead next → length dead ≤ next → IsDropped H old grown come gone news rows dead
  going-ended rows dead next so over =
      let n : length so.work.nodes ≡ length dead = sym (length-map (rep_bytes H) so.work.nodes) ∙ ap length so.work.named ∙ length-map hash_bytes dead in
      record {
        cells = so.work.nodes;
        named = so.work.named;
        ended = underway-ended G (is_graph H) (states grown.blocks) free_grown (states left.blocks) (states gone) went (left_in S rows dead) next so.work (omega arith);
        rows_are = record {
          stored = λ q p is.
              let r = unmapped (tree.get hash_cmp rows (record { 0 = q })) p (sym (row_in-at rows q) ∙ is) in
              let right = right-at rows so.fixed q r.0 (ap (λ (o : Option Row). option_or o (option_map first_row (S q))) r.1) in
              ap (λ (x : plans.Row FaceView). x.stored) (sym r.2) ∙ right.stored;
          faces = λ q p c is held.
              let r = unmapped (tree.get hash_cmp rows (record { 0 = q })) p (sym (row_in-at rows q) ∙ is) in
              let right = right-at rows so.fixed q r.0 (ap (λ (o : Option Row). option_or o (option_map first_row (S q))) r.1) in
              ap (λ (x : plans.Row FaceView). x.face) (sym r.2) ∙ right.face c held;
          now = λ q.
              let a = count-now rows q in
              let b = so.work.sums q in
              let c = count-grown G (is_graph H) (states old.blocks) (states come) (states grown.blocks) added.came free_grown news added.new q in
              let t : nodes.references G (take next so.work.nodes) q ≡ nodes.references G so.work.nodes q = ap (λ ns. nodes.references G ns q) (take_all_of next so.work.nodes (omega arith)) in
              omega arith;
        };
      }

  -- with the hashes in order, the rows are those of a plan, and there are as many dead cells as hashes
  pub dropped-counted : (rows : RowMap) (dead : List Hash256) → plans.HasNoKeyTwice (slice_cmp nat_cmp) (rows_of rows.entries)
      → (so : IsDropped H old grown come gone news rows dead) → AreCounted H old grown left come gone news so.cells (rows_of rows.entries) × (length so.cells ≡ length dead)
  dropped-counted rows dead once so = (
    record {
      came = added.came;
      went = went;
      clash_free = added.clash_free;
      new = added.new;
      ended = so.ended;
      rows_are = so.rows_are;
      once = once;
    },
    sym (length-map (rep_bytes H) so.cells) ∙ ap length so.named ∙ length-map hash_bytes dead,
  )
