use Rattle.std.proofs.Common.{◌≡◌, ℕ, List, ◌++◌, map, Vec, Global, ap, sym, ◌∙◌, subst₂}
use Rattle.std.specs.List.{IsDistinct}
use Rattle.std.specs.Map.{keys_of}
use Rattle.cd_base.specs.declared.hash.Hash256.{Hash256}
use Rattle.cd_block.specs.declared.block.BlockId.{BlockId}
use Rattle.cd_block.specs.declared.description.Descr.{Descr}
use Rattle.cd_block.specs.Block.{key_of}
use Rattle.cd_keeper.specs.NoKeyTwice.{same_key}
use Rattle.cd_keeper.specs.Shown.{entries_of, hash_bytes}
use Rattle.cd_nodes.specs.Plans as plans
use Rattle.cd_record.specs.RecordText.{record_text}
use Rattle.cd_count.specs.PlanRows.{rows_of, descr_puts}
use Rattle.cd_count.proofs.BatchKeys.{distinct-keys}
use Rattle.cd_count.proofs.plan.Plan.into_batch.Goals as goal

pub from_parts-requires : goal.from_parts-requires
from_parts-requires c =
    let rows = rows_of c.self.inside.rows.entries in
    let puts : entries_of hash_bytes c.change_cells.new.puts.items ≡ plans.puts record_text rows =
    c.in_ok-change_cells.ensures.puts ∙ ap (λ (es : List (Hash256 × Vec ℕ Global)). entries_of hash_bytes es ++ plans.puts record_text rows) c.new-puts.ensures.items in
    let drops : map hash_bytes c.change_cells.new.drops.items ≡ plans.drops record_text rows =
    c.in_ok-change_cells.ensures.drops ∙ ap (λ (hs : List Hash256). map hash_bytes hs ++ plans.drops record_text rows) c.new-drops.ensures.items in
    let put = c.in_ok-put.ensures ∙ ap (λ (ds : List Descr). descr_puts ds) c.as_slice.ensures.value in
    let drop = c.in_ok-drop.ensures ∙ ap (λ (ids : List BlockId). map key_of ids) c.as_slice-2.ensures.value in
    record {
      cells = subst₂ (λ (ds : List (List ℕ)) (ps : List (List ℕ × List ℕ)). IsDistinct same_key (ds ++ keys_of ps)) (sym drops) (sym puts) (distinct-keys rows c.in_ok-change_cells.ensures.once);
      descs = subst₂ (λ (ds : List (List ℕ)) (ps : List (List ℕ × List ℕ)). IsDistinct same_key (ds ++ keys_of ps)) (sym drop) (sym put) c.requires.once;
    }
