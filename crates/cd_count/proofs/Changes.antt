-- How what worlds hold changes with their blocks, and what a plan's batch makes of contents.
use Rattle.std.proofs.Common.{◌≡◌, ℕ, zero, suc, ◌≤◌, List, [], ◌∷◌, ◌++◌, take, Bool, true, false, cond, filter, Contains, ◌⊎◌, refl, sym, ap, ap₂, ◌∙◌, subst, subst₂, arith, IsSome, is_none, Option, Some, None, is_some}
use Rattle.std.specs.Option.{option_or, option_map}
use Rattle.std.specs.List.{cons_option}
use Rattle.std.specs.Cmp.Lexicographic.{nat_list_cmp_total}
use Rattle.std.specs.FinMap as finite
use Rattle.cd_base.specs.declared.hash.Hash256.{Hash256}
use Rattle.cd_base.specs.Numbers.{from_big}
use Rattle.cd_base.proofs.NumberLaws.{from_big-front}
use Rattle.cd_cell.specs.FaceView.{FaceView}
use Rattle.cd_cell.specs.Tree.{Tree, face_of}
use Rattle.cd_keeper.specs.Contents.{Table, Contents, Change, changed, put_all, drop_all}
use Rattle.cd_record.specs.declared.limits.TheConstants.{GREATEST_COUNT}
use Rattle.cd_record.specs.RecordText.{record_text, face_text}
use Rattle.cd_nodes.specs.Graphs as nodes
use Rattle.cd_nodes.specs.Plans as plans
use Rattle.cd_nodes.proofs.Counts.{held_at-grown, count-grown, new-dead, clash_free-few}
use Rattle.cd_nodes.proofs.Records.{held_at-less, get-records}
use Rattle.cd_nodes.proofs.Batches.{after_batch-records}
use Rattle.cd_nodes.proofs.Plans.{plan_is, exact}
use Rattle.cd_nodes.proofs.Together.{together-insert, together-filter}
use Rattle.cd_nodes.proofs.Listed.{new-listed}
use Rattle.cd_world.specs.World.{Block, World, CellMap}
use Rattle.cd_world.specs.Image.{image_of, plain_record, IsContentsOf}
use Rattle.cd_world.proofs.Plain.{plain_record-text, ArePlain, image-cell, contents-changed}
use Rattle.cd_count.specs.Changes.{states, rep_bytes, Rows, row_in, IsCellBatch, cell_graph, HasFewReferences, AreCounted, DescsLead}
use Rattle.cd_count.specs.Laws.{ABlockComes, SomeBlocksGo, NewCellsAreListed, CountsGrow, CountsFall}
use Rattle.cd_count.proofs.CellGraph.{is_graph, clash_free, held-states, held_at-states, count-states}

-- records of version 2 tell their counts
pub texts_tell : (a b : ℕ) (f g : FaceView) → a ≤ GREATEST_COUNT → b ≤ GREATEST_COUNT → record_text a f ≡ record_text b g → a ≡ b
unfolding record_text
texts_tell a b f g few few' same =
    sym (from_big-front 8 a (face_text f) (omega arith))
    ∙ ap (λ (text : List ℕ). from_big (take 8 (rest text))) same
    ∙ from_big-front 8 b (face_text g) (omega arith)
  where
    rest : List ℕ → List ℕ
    rest [] = []
    rest (x ∷ xs) = xs

-- what rows put is of version 2
abbrev IsPlainPut : Option (List ℕ) → Type 0
IsPlainPut None = Unit {0}
IsPlainPut (Some text) = plain_record text ≡ text

drop_plain : (stored : Option ℕ) → IsPlainPut (plans.put_of (plans.dropped stored))
drop_plain None = tt
drop_plain (Some n) = tt

put_plain : (same : Bool) (n : ℕ) (f : FaceView) → IsPlainPut (plans.put_of (cond same None (Some (Some (record_text n f)))))
put_plain true n f = tt
put_plain false n f = plain_record-text n f

written_plain : (row : plans.Row FaceView) (n : ℕ) → IsPlainPut (plans.put_of (plans.written record_text row n))
written_plain row zero = drop_plain row.stored
written_plain row (suc n) = put_plain (plans.is_stored row.stored (suc n)) (suc n) row.face

with_put : (k : List ℕ) (o : Option (List ℕ)) (puts : List (List ℕ × List ℕ)) → IsPlainPut o → ArePlain puts → ArePlain (cons_option (option_map (λ (x : List ℕ). (k, x)) o) puts)
with_put k None puts plain rest = rest
with_put k (Some text) puts plain rest = (plain, rest)

puts_plain : (rows : Rows) → ArePlain (plans.puts record_text rows)
puts_plain [] = tt
puts_plain (e ∷ rows) = with_put e.0 (plans.put_of (plans.change_at record_text (Some e.1))) (plans.puts record_text rows) (written_plain e.1 e.1.now) (puts_plain rows)

states-append : (xs ys : List Block) → states (xs ++ ys) ≡ states xs ++ states ys
states-append [] ys = refl
states-append (b ∷ bs) ys = ap (λ (ts : List Tree). b.state ∷ ts) (states-append bs ys)

module _ (H : List ℕ → Hash256) where
  pub block_comes : ABlockComes H
  block_comes lower higher block =
      subst₂ (λ (few many : List Tree). nodes.AreTogether (cell_graph H) few (block.state ∷ []) many)
      (sym (states-append lower higher)) (sym (states-append lower (block ∷ higher)))
      (together-insert (cell_graph H) (states lower) (states higher) block.state)

  pub blocks_go : SomeBlocksGo H
  blocks_go stays blocks = together-filter (cell_graph H) (λ (b : Block). b.state) stays blocks

  pub new_cells_listed : NewCellsAreListed H
  new_cells_listed before come after listed sum distinct within every =
      subst (λ (m : CellMap). nodes.AreNew (cell_graph H) (states before.blocks) (states after) (filter (λ (c : Tree). is_none (finite.get m (rep_bytes H c))) listed))
      (held-states H before.blocks)
      (new-listed (cell_graph H) (is_graph H) (states before.blocks) (states come) (states after) listed sum distinct within
      (λ c h. subst (λ (m : CellMap). Contains listed c ⊎ IsSome (finite.get m (rep_bytes H c))) (sym (held-states H before.blocks)) (every c h)))

  pub counts_grow : CountsGrow H
  counts_grow before after come news sum free new hash =
      let clear = clash_free H (states after.blocks) free in
      let held = held_at-grown (cell_graph H) (is_graph H) (states before.blocks) (states come) (states after.blocks) sum clear news new hash in
      let grown = count-grown (cell_graph H) (is_graph H) (states before.blocks) (states come) (states after.blocks) sum clear news new hash in
      let a = count-states H before hash in
      let b = count-states H after hash in
      (sym (held_at-states H after hash) ∙ held ∙ ap (option_or (nodes.find (cell_graph H) hash news)) (held_at-states H before hash), omega arith)

  pub counts_fall : CountsFall H
  counts_fall before after gone dead sum free ended hash =
      let clear = clash_free H (states before.blocks) free in
      let new = new-dead (cell_graph H) (is_graph H) (states after.blocks) (states gone) (states before.blocks) sum clear dead ended in
      let held = held_at-less (cell_graph H) (is_graph H) (states after.blocks) (states gone) (states before.blocks) sum clear dead new hash in
      let grown = count-grown (cell_graph H) (is_graph H) (states after.blocks) (states gone) (states before.blocks) sum clear dead new hash in
      let a = count-states H before hash in
      let b = count-states H after hash in
      (sym (held_at-states H after hash) ∙ held ∙ ap (cond (is_some (nodes.find (cell_graph H) hash dead)) None) (held_at-states H before hash), omega arith)

  -- the records of the cells of blocks are those of the world's image
  pub image-records : (world : World) → let image = image_of H world in nodes.records (cell_graph H) (face_of H) record_text (states world.blocks) ≡ image.cells
  image-records world = finite.same_map nat_list_cmp_total (finite.slice_cmp-IsAntisymmetric finite.nat_cmp-IsAntisymmetric) _ _ (λ hash.
      get-records (cell_graph H) (is_graph H) (face_of H) record_text (states world.blocks) hash
      ∙ ap₂ (λ n o. option_map (λ (t : Tree). record_text n (face_of H t)) o) (count-states H world hash) (held_at-states H world hash)
      ∙ sym (image-cell H world hash))

  module _ (old grown left : World) (come gone : List Block) (news dead : List Tree) (rows : Rows) (are : AreCounted H old grown left come gone news dead rows) where
    abbrev states_old : List Tree
    states_old = states old.blocks

    abbrev states_left : List Tree
    states_left = states left.blocks

    free_grown : nodes.AreClashFree (cell_graph H) (states grown.blocks)
    free_grown = clash_free H (states grown.blocks) are.clash_free

    free_old : nodes.AreClashFree (cell_graph H) states_old
    free_old = clash_free-few (cell_graph H) (is_graph H) states_old (states come) (states grown.blocks) are.came free_grown

    free_left : nodes.AreClashFree (cell_graph H) states_left
    free_left = clash_free-few (cell_graph H) (is_graph H) states_left (states gone) (states grown.blocks) are.went free_grown

    pub is_plan : plans.IsPlan (cell_graph H) (face_of H) states_old states_left (row_in rows)
    is_plan =
        plan_is (cell_graph H) (is_graph H) (face_of H) record_text states_old (states come) (states grown.blocks) (states gone) states_left are.came are.went free_grown news dead are.new are.ended (row_in rows) are.rows_are

    cells_lead : let before = image_of H old in let after = image_of H left in plans.after_batch record_text before.cells rows ≡ after.cells
    cells_lead =
        ap (λ (m : Table). plans.after_batch record_text m rows) (sym (image-records old))
        ∙ after_batch-records (cell_graph H) (is_graph H) (face_of H) record_text states_old states_left free_old free_left rows are.once is_plan
        ∙ image-records left

    pub leads : (change : Change) → IsCellBatch rows change → DescsLead H change old left → (contents : Contents) → IsContentsOf H old contents → IsContentsOf H left (changed change contents)
    leads change batch descs contents is =
        let before = image_of H old in
        let after = image_of H left in
        let cells : put_all (drop_all before.cells change.drop_cells) change.put_cells ≡ after.cells =
        ap₂ (λ (drops : List (List ℕ)) (puts : List (List ℕ × List ℕ)). put_all (drop_all before.cells drops) puts) batch.drops batch.puts ∙ cells_lead in
        contents-changed H old contents is change left (subst ArePlain (sym batch.puts) (puts_plain rows)) (λ i. record { cells = cells i; descs = descs i })

    pub exactly : HasFewReferences H old → HasFewReferences H left → (hash : List ℕ) (value : Option (List ℕ)) → plans.change_at record_text (row_in rows hash) ≡ Some value
        → let image = image_of H old in value ≡ finite.get image.cells hash → ⊥
    exactly counted_old counted_left hash value is stays =
        exact (cell_graph H) (is_graph H) (face_of H) record_text states_old states_left free_old free_left (row_in rows) is_plan GREATEST_COUNT texts_tell
        (λ q. subst (λ n. n ≤ GREATEST_COUNT) (sym (count-states H old q)) (counted_old q))
        (λ q. subst (λ n. n ≤ GREATEST_COUNT) (sym (count-states H left q)) (counted_left q))
        hash value is (stays ∙ ap (λ m. finite.get m hash) (sym (image-records old)))
