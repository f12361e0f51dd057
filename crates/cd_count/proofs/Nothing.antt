-- The empty plan is that of a world to which nothing comes.
use Rattle.std.proofs.Common.{◌≡◌, inl, ℕ, List, [], Some, None, refl, arith}
use Rattle.std.specs.Str.{bytes_eq}
use Rattle.std.specs.List.{IsDistinct}
use Rattle.cd_base.specs.declared.hash.Hash256.{Hash256}
use Rattle.cd_cell.specs.Tree.{Tree}
use Rattle.cd_cell.specs.Export.{AreClashFree}
use Rattle.cd_cell.specs.FaceView.{FaceView}
use Rattle.cd_cell.proofs.Subtrees.{Contains-nil}
use Rattle.cd_nodes.specs.Graphs as nodes
use Rattle.cd_nodes.specs.Plans as plans
use Rattle.cd_nodes.proofs.Lists.{not_both}
use Rattle.cd_nodes.proofs.Held.{held_of}
use Rattle.cd_nodes.proofs.Records.{count-held}
use Rattle.cd_world.specs.World.{World}
use Rattle.cd_count.specs.Changes.{states, rep_bytes, cell_graph, AreTogether, AreNewCells, AreDeadCells, AreAdded}
use Rattle.cd_count.proofs.CellGraph.{is_graph, clash_free}

no_pairs : IsDistinct bytes_eq []
unfolding IsDistinct
no_pairs = tt

no_row : (row : plans.Row FaceView) → None ≡ Some row → ⊥
no_row row e = cc

module _ (H : List ℕ → Hash256) (world : World) (clear : AreClashFree H (states world.blocks)) where
  abbrev G : nodes.Graph Tree (List ℕ)
  G = cell_graph H

  abbrev roots : List Tree
  roots = states world.blocks

  free : nodes.AreClashFree G roots
  free = clash_free H roots clear

  pub same : AreTogether H world.blocks [] world.blocks
  same = record {
    has = λ t h. inl h;
    first = λ t h. h;
    second = λ t h. absurd (Contains-nil t h);
    sums = λ h. omega arith;
  }

  none-new : AreNewCells H world.blocks world.blocks []
  none-new = record {
    distinct = no_pairs;
    held_now = λ c h. absurd (Contains-nil c h);
    held_not = λ c h. absurd (Contains-nil c h);
    every = λ c h none. absurd (not_both c (nodes.held_at G roots (rep_bytes H c)) none (held_of G (is_graph H) roots free c h));
  }

  pub none-dead : AreDeadCells H world.blocks [] []
  none-dead = record {
    distinct = no_pairs;
    held_now = λ c h. absurd (Contains-nil c h);
    unnamed = λ c h. absurd (Contains-nil c h);
    every = λ c h (loses : nodes.count G roots (rep_bytes H c) ≡ 0). absurd (let some = count-held G (is_graph H) roots free c h in omega (arith, some, loses));
  }

  pub nothing-added : AreAdded H world world [] [] []
  nothing-added = record {
    came = same;
    went = same;
    clash_free = clear;
    new = none-new;
    ended = none-dead;
    rows_are = record {
      stored = λ h row e. absurd (no_row row e);
      faces = λ h row c e held. absurd (no_row row e);
      now = λ h. refl;
    };
    once = tt;
  }
