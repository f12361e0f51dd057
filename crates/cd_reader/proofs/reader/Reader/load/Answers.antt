use Rattle.std.proofs.Common.{◌≡◌, Some, None, Option, sym, ap, ◌∙◌, subst}
use Rattle.std.specs.Prelude.{All}
use Rattle.cd_base.specs.declared.hash.Hash256.{Hash256}
use Rattle.cd_cell.specs.FaceView.{FaceView}
use Rattle.cd_cell.specs.GoodFace.{IsGoodFace}
use Rattle.cd_cell.specs.Tree.{Tree}
use Rattle.cd_looks.specs.Answers.{IsRootOf, IsFaceAt}
use Rattle.cd_reader.specs.Held.{AreCellsOf, AreGoodCells, held_at}
use Rattle.cd_reader.proofs.HeldLaws.{All-held_at, All-held_after, All-after_load, found_face}
use Rattle.cd_reader.proofs.reader.Reader.load.Goals as goal

-- what is found among the held cells
pub returns-in-Some-clause-face : goal.returns-in-Some-clause-face
returns-in-Some-clause-face g c = λ t s is here same.
    let P : Hash256 × FaceView → Type 0 = λ e. IsFaceAt g.L.Hash.Hash32.digest_of (g.L.LookUp.tree c.args.self.now.look) e.0 e.1 in
    ap (λ f. Some f) (All-held_at c.args.hash.now c.in-Some.face c.args.self.now.held.cap c.args.self.now.held.entries P c.args.self.now.cells (sym c.in-Some.ensures.value) t s is here same)

pub returns-in-Some-clause-good : goal.returns-in-Some-clause-good
returns-in-Some-clause-good g c =
    All-held_at c.args.hash.now c.in-Some.face c.args.self.now.held.cap c.args.self.now.held.entries (λ e. IsGoodFace e.1) c.args.self.now.good (sym c.in-Some.ensures.value)

-- and then stands first
pub invariant_of-self : goal.invariant_of-self
invariant_of-self g c =
    let P : Hash256 × FaceView → Type 0 = λ e. IsFaceAt g.L.Hash.Hash32.digest_of (g.L.LookUp.tree c.args.self.now.look) e.0 e.1 in
    let Q : Hash256 × FaceView → Type 0 = λ e. IsGoodFace e.1 in
    let now = c.args.self.now in
    let found = sym c.in-Some.ensures.value in
    record {
      rooted = now.rooted;
      cells = subst (All P) (sym c.in-Some.ensures.held) (All-held_after c.args.hash.now c.in-Some.face now.held.cap now.held.entries P
          (All-held_at c.args.hash.now c.in-Some.face now.held.cap now.held.entries P now.cells found) now.cells);
      good = subst (All Q) (sym c.in-Some.ensures.held) (All-held_after c.args.hash.now c.in-Some.face now.held.cap now.held.entries Q
          (All-held_at c.args.hash.now c.in-Some.face now.held.cap now.held.entries Q now.good found) now.good);
    }

-- what a look finds
pub invariant_of-self-in-None : goal.invariant_of-self-in-None
invariant_of-self-in-None g c =
    let P : Hash256 × FaceView → Type 0 = λ e. IsFaceAt g.L.Hash.Hash32.digest_of (g.L.LookUp.tree c.args.self.now.look) e.0 e.1 in
    let Q : Hash256 × FaceView → Type 0 = λ e. IsGoodFace e.1 in
    let now = c.args.self.now in
    let looked = c.look_and_hold.ensures in
    let told = λ (told : Option Tree). AreCellsOf g.L.Hash.Hash32.digest_of told c.look_and_hold.new.held.entries in
    record {
      rooted = subst (λ (told : Option Tree). IsRootOf g.L.Hash.Hash32.digest_of told now.root) (sym looked.tree) now.rooted;
      cells = subst told (sym looked.tree) (All-after_load P c.args.hash.now _ c.recall.new.held.entries _ c.look_and_hold.result looked.held looked.err
          (found_face g.L.Hash.Hash32.digest_of _ c.args.hash.now c.look_and_hold.result looked.face) (subst (All P) (sym c.in-None.ensures.held) now.cells));
      good = All-after_load Q c.args.hash.now _ c.recall.new.held.entries _ c.look_and_hold.result looked.held looked.err looked.good (subst (All Q) (sym c.in-None.ensures.held) now.good);
    }
