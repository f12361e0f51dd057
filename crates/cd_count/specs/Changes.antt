-- Trusted: cells as nodes whose keys are their hashes, and blocks that come and go.
use Rattle.std.specs.Prelude.{◌≡◌, ℕ, ◌≤◌, List, [], map, Option}
use Rattle.std.specs.Ordering.{nat_cmp}
use Rattle.std.specs.Cmp.Lexicographic.{slice_cmp}
use Rattle.std.specs.Str.{bytes_eq}
use Rattle.std.specs.FinMap as finite
use Rattle.cd_base.specs.declared.hash.Hash256.{Hash256}
use Rattle.cd_cell.specs.FaceView.{FaceView}
use Rattle.cd_cell.specs.Tree.{Tree, children, subtrees, face_of, rep_of}
use Rattle.cd_cell.specs.Export.{AreClashFree}
use Rattle.cd_keeper.specs.Contents.{Change, put_all, drop_all}
use Rattle.cd_record.specs.declared.limits.TheConstants.{GREATEST_COUNT}
use Rattle.cd_record.specs.RecordText.{record_text}
use Rattle.cd_nodes.specs.Graphs as nodes
use Rattle.cd_nodes.specs.Plans as plans
use Rattle.cd_world.specs.World.{Block, World, held_cells, count_of}
use Rattle.cd_world.specs.Image.{image_of}

-- the states of blocks
abbrev pub states : List Block → List Tree
states blocks = map (λ b. b.state) blocks

-- what a plan has of each hash, as a list
abbrev pub Rows : Type 0
Rows = List (List ℕ × plans.Row FaceView)

abbrev pub row_in : Rows → List ℕ → Option (plans.Row FaceView)
row_in rows hash = finite.find (slice_cmp nat_cmp) hash rows

-- the batch puts and drops the records that the rows say
pub record IsCellBatch (rows : Rows) (change : Change) : Type 0 where
  pub puts : change.put_cells ≡ plans.puts record_text rows
  pub drops : change.drop_cells ≡ plans.drops record_text rows

module _ (H : List ℕ → Hash256) where
  abbrev pub rep_bytes : Tree → List ℕ
  rep_bytes t = let rep = rep_of H t in rep.0

  -- cells are nodes: their keys are their hashes, and each reaches the cells below it
  abbrev pub cell_graph : nodes.Graph Tree (List ℕ)
  cell_graph = record {
    order = slice_cmp nat_cmp;
    same = bytes_eq;
    key = rep_bytes;
    children = children;
    reach = subtrees;
  }

  -- the held cell under a hash
  abbrev pub held_under : World → List ℕ → Option Tree
  held_under world hash = finite.get (held_cells H world) hash

  -- how many of the cells have the hash
  abbrev pub cells_with : List Tree → List ℕ → ℕ
  cells_with ts hash = nodes.occurrences cell_graph ts hash

  -- in how many places of the cells a child has the hash
  abbrev pub places_in : List Tree → List ℕ → ℕ
  places_in ts hash = nodes.references cell_graph ts hash

  -- the states of many are those of few and those of more, in any order
  abbrev pub AreTogether : List Block → List Block → List Block → Type 0
  AreTogether few more many = nodes.AreTogether cell_graph (states few) (states more) (states many)

  -- the cells that many hold and few don't, once for each hash
  abbrev pub AreNewCells : List Block → List Block → List Tree → Type 0
  AreNewCells few many news = nodes.AreNew cell_graph (states few) (states many) news

  -- the cells of many all of whose references come from states that go or from dead cells, once for each hash
  abbrev pub AreDeadCells : List Block → List Block → List Tree → Type 0
  AreDeadCells many gone dead = nodes.AreDead cell_graph (states many) (states gone) dead

  -- no count is over the greatest that a record may have
  abbrev pub HasFewReferences : World → Type 0
  HasFewReferences world = (hash : List ℕ) → count_of H world hash ≤ GREATEST_COUNT

  -- old grows to grown by the blocks of come and the cells of news; then the blocks of gone go, and with them the
  -- cells of dead, and left stays. The rows have the references that come and those that go.
  pub record AreCounted (old grown left : World) (come gone : List Block) (news dead : List Tree) (rows : Rows)
      : Type 0 where
    pub came : AreTogether old.blocks come grown.blocks
    pub went : AreTogether left.blocks gone grown.blocks
    pub clash_free : AreClashFree H (states grown.blocks)
    pub new : AreNewCells old.blocks grown.blocks news
    pub ended : AreDeadCells grown.blocks gone dead
    pub rows_are : plans.AreRows cell_graph (face_of H) (states old.blocks) (states come) (states grown.blocks)
        (states gone) news dead (row_in rows)
    pub once : plans.HasNoKeyTwice (slice_cmp nat_cmp) rows

  -- the rows have the references of the blocks that come, and nothing goes
  abbrev pub AreAdded : World → World → List Block → List Tree → Rows → Type 0
  AreAdded old grown come news rows = AreCounted old grown grown come [] news [] rows

  -- the batch leads from the descriptions of one world to those of another
  abbrev pub DescsLead : Change → World → World → Type 0
  DescsLead change old new =
      let before = image_of H old in let after = image_of H new in
      put_all (drop_all before.descs change.drop_descs) change.put_descs ≡ after.descs
