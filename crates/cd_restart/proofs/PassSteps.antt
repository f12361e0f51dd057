-- The steps of the passes: what was read and what is left are all.
use Rattle.std.proofs.Common.{◌≡◌, ℕ, List, [], ◌∷◌, ◌++◌, map, Option, Some, None, refl, sym, ap, ap₂, ◌∙◌, subst, append_assoc, append-nil}
use Rattle.std.specs.List.{filter_map, cons_option, AllByRecursion}
use Rattle.std.specs.Option.{option_or}
use Rattle.std.proofs.lemmas.Option.{none-some}
use Rattle.cd_base.specs.declared.hash.Hash256.{Hash256}
use Rattle.cd_block.specs.declared.description.Descr.{Descr}
use Rattle.cd_block.specs.Block.{key_of}
use Rattle.cd_cell.specs.Infos.{rep_of_info}
use Rattle.cd_restart.specs.declared.scan_fault.ScanFault.{ScanFault}
use Rattle.cd_restart.specs.Answers.{Refuses}
use Rattle.cd_restart.specs.Lists.{first_of}
use Rattle.cd_restart.specs.RowView.{RowView}
use Rattle.cd_restart.specs.Rows.{row_after, rows_of, kid_references, AreRowsOf}
use Rattle.cd_restart.specs.ScanFaults.{desc_fault, record_fault, key_fault, missing_fault, kid_fault, cells_fault, kids_fault}
use Rattle.cd_restart.specs.Stored.{Entry, Stored, descr_of, cell_of, IsDescEntry, IsCellEntry}
use Rattle.cd_restart.specs.Walks.{IsCellNext, IsBlockNext, AreBlocksRead, AreCellsRead, AreKidsRead}
use Rattle.cd_world.specs.Walks.{above}
use Rattle.cd_restart.proofs.Faults.{or-assoc}
use Rattle.cd_restart.proofs.Loops.{refused}
use Rattle.cd_world.proofs.Walks.{above-all}

or_nothing : {F : Type 0} (o : Option F) → option_or o None ≡ o
or_nothing None = refl
or_nothing (Some e) = refl

-- a fault of nothing is one of the outside
pub of_nothing : (a b : Option ScanFault) (e : ScanFault) → a ≡ None → Refuses a e → Refuses b e
of_nothing a b e none is = refused a b e (λ x some. absurd (none-some x (sym none ∙ some))) is

-- the entry that is met is passed
passed : (fault : Entry → Option ScanFault) (es left rest : List Entry) (e : Entry) → left ≡ e ∷ rest → fault e ≡ None → first_of fault left ≡ first_of fault es → first_of fault rest ≡ first_of fault es
passed fault es left rest e is none so = sym (ap (first_of fault) is ∙ ap (λ o. option_or o (first_of fault rest)) none) ∙ so

told-next : {B : Type 0} (h : Entry → Option B) (left rest : List Entry) (e : Entry) (x : B) → left ≡ e ∷ rest → h e ≡ Some x → filter_map h left ≡ x ∷ filter_map h rest
told-next h left rest e x is told = ap (filter_map h) is ∙ ap (λ o. cons_option o (filter_map h rest)) told

-- ---- blocks

module _ (es : List Entry) where
  pub blocks-start : AreBlocksRead es None []
  blocks-start = record {
    faults = ap (first_of desc_fault) (above-all es);
    blocks_are = ap (filter_map descr_of) (above-all es);
    fit = subst (AllByRecursion IsDescEntry) (above-all es);
  }

  module _ (after : Option (List ℕ)) (blocks : List Descr) (so : AreBlocksRead es after blocks) where
    pub blocks-more : (d : Descr) → IsBlockNext es after d → AreBlocksRead es (Some (key_of d.id)) (blocks ++ d ∷ [])
    blocks-more d next = record {
      faults = passed desc_fault es (above after es) (above (Some (key_of d.id)) es) next.entry next.rest next.read so.faults;
      blocks_are =
          append_assoc blocks (d ∷ []) (filter_map descr_of (above (Some (key_of d.id)) es))
          ∙ ap (λ ds. blocks ++ ds) (sym (told-next descr_of (above after es) (above (Some (key_of d.id)) es) next.entry d next.rest next.told))
          ∙ so.blocks_are;
      fit = λ left. so.fit (subst (AllByRecursion IsDescEntry) (sym next.rest) (next.fit, left));
    }

    pub blocks-end : above after es ≡ [] → (first_of desc_fault es ≡ None) × (blocks ≡ filter_map descr_of es) × AllByRecursion IsDescEntry es
    blocks-end is = (
      sym so.faults ∙ ap (first_of desc_fault) is,
      sym (append-nil blocks) ∙ ap (λ ls. blocks ++ filter_map descr_of ls) (sym is) ∙ so.blocks_are,
      so.fit (subst (AllByRecursion IsDescEntry) (sym is) tt),
    )

    pub blocks-refused : (e : ScanFault) → Refuses (first_of desc_fault (above after es)) e → Refuses (first_of desc_fault es) e
    blocks-refused e is = subst (λ o. Refuses o e) so.faults is

-- ---- cells

module _ (H : List ℕ → Hash256) (es : List Entry) where
  pub cells-start : AreCellsRead H es None None []
  cells-start = record {
    faults = ap (first_of record_fault) (above-all es);
    keys = ap (λ ls. first_of (key_fault H) (filter_map cell_of ls)) (above-all es);
    rows_are = ap (λ ls. rows_of H (filter_map cell_of ls) []) (above-all es);
    fit = subst (AllByRecursion IsCellEntry) (above-all es);
  }

  module _ (after : Option (List ℕ)) (wrong : Option ScanFault) (rows : List RowView) (so : AreCellsRead H es after wrong rows) where
    pub cells-more : (c : Stored) → IsCellNext es after c → (found : Option ScanFault) (row : RowView) → found ≡ key_fault H c → row ≡ row_after H [] c
        → AreCellsRead H es (Some (let hash = c.0 in hash.0)) (option_or wrong found) (rows ++ row ∷ [])
    cells-more c next found row is-found is-row =
        let hash = c.0 in
        let left = above (Some hash.0) es in
        let cells = filter_map cell_of left in
        let told = told-next cell_of (above after es) left next.entry c next.rest next.told in
        record {
          faults = passed record_fault es (above after es) left next.entry next.rest next.read so.faults;
          keys =
              or-assoc wrong found (first_of (key_fault H) cells)
              ∙ ap (λ o. option_or wrong (option_or o (first_of (key_fault H) cells))) is-found
              ∙ ap (λ cs. option_or wrong (first_of (key_fault H) cs)) (sym told)
              ∙ so.keys;
          rows_are =
              append_assoc rows (row ∷ []) (rows_of H cells [])
              ∙ ap (λ (r : RowView). rows ++ r ∷ rows_of H cells []) is-row
              ∙ ap (λ cs. rows ++ rows_of H cs []) (sym told)
              ∙ so.rows_are;
          fit = λ all. so.fit (subst (AllByRecursion IsCellEntry) (sym next.rest) (next.fit, all));
        }

    pub cells-end : above after es ≡ [] → (first_of record_fault es ≡ None) × (first_of (key_fault H) (filter_map cell_of es) ≡ wrong) × (rows ≡ rows_of H (filter_map cell_of es) []) × AllByRecursion IsCellEntry es
    cells-end is = (
      sym so.faults ∙ ap (first_of record_fault) is,
      sym so.keys ∙ ap (λ ls. option_or wrong (first_of (key_fault H) (filter_map cell_of ls))) is ∙ or_nothing wrong,
      sym (append-nil rows) ∙ ap (λ ls. rows ++ rows_of H (filter_map cell_of ls) []) (sym is) ∙ so.rows_are,
      so.fit (subst (AllByRecursion IsCellEntry) (sym is) tt),
    )

    pub cells-refused : (e : ScanFault) → Refuses (first_of record_fault (above after es)) e → Refuses (cells_fault H es (filter_map cell_of es)) e
    cells-refused e is =
        refused (first_of record_fault (above after es)) (cells_fault H es (filter_map cell_of es)) e
        (λ x some. ap (λ o. option_or o (first_of (key_fault H) (filter_map cell_of es))) (sym so.faults ∙ some)) is

-- ---- kids

module _ (H : List ℕ → Hash256) (all : List Stored) (es : List Entry) (none : first_of record_fault es ≡ None) where
  pub kids-start : (rows : List RowView) → AreRowsOf H all [] rows → AreKidsRead H all es None None rows
  kids-start rows of = record {
    missing = ap (λ ls. first_of (missing_fault H all) (filter_map cell_of ls)) (above-all es);
    others = ap (λ ls. first_of (kid_fault H all) (filter_map cell_of ls)) (above-all es);
    hashes = [];
    rows_are = of;
    hashes_are = ap (λ ls. kid_references (filter_map cell_of ls)) (above-all es);
    records = ap (first_of record_fault) (above-all es);
  }

  module _ (after : Option (List ℕ)) (other : Option ScanFault) (rows : List RowView) (so : AreKidsRead H all es after other rows) where
    pub kids-more : (c : Stored) → IsCellNext es after c → missing_fault H all c ≡ None → (found : Option ScanFault) → found ≡ kid_fault H all c
        → (new : List RowView) → ((hashes : List Hash256) → AreRowsOf H all hashes rows → AreRowsOf H all (hashes ++ map rep_of_info c.1.face.kids) new)
        → AreKidsRead H all es (Some (let hash = c.0 in hash.0)) (option_or other found) new
    kids-more c next there found is-found new counted =
        let hash = c.0 in
        let left = above (Some hash.0) es in
        let cells = filter_map cell_of left in
        let told = told-next cell_of (above after es) left next.entry c next.rest next.told in
        record {
          missing =
              sym (ap (first_of (missing_fault H all)) told ∙ ap (λ o. option_or o (first_of (missing_fault H all) cells)) there) ∙ so.missing;
          others =
              or-assoc other found (first_of (kid_fault H all) cells)
              ∙ ap (λ o. option_or other (option_or o (first_of (kid_fault H all) cells))) is-found
              ∙ ap (λ cs. option_or other (first_of (kid_fault H all) cs)) (sym told)
              ∙ so.others;
          hashes = so.hashes ++ map rep_of_info c.1.face.kids;
          rows_are = counted so.hashes so.rows_are;
          hashes_are =
              append_assoc so.hashes (map rep_of_info c.1.face.kids) (kid_references cells)
              ∙ ap (λ cs. so.hashes ++ kid_references cs) (sym told)
              ∙ so.hashes_are;
          records = passed record_fault es (above after es) left next.entry next.rest next.read so.records;
        }

    pub kids-end : above after es ≡ [] → (kids_fault H all (filter_map cell_of es) ≡ other) × AreRowsOf H all (kid_references (filter_map cell_of es)) rows
    kids-end is =
        let missing : first_of (missing_fault H all) (filter_map cell_of es) ≡ None = sym so.missing ∙ ap (λ ls. first_of (missing_fault H all) (filter_map cell_of ls)) is in
        let others : first_of (kid_fault H all) (filter_map cell_of es) ≡ other = sym so.others ∙ ap (λ ls. option_or other (first_of (kid_fault H all) (filter_map cell_of ls))) is ∙ or_nothing other in
        let hashes : so.hashes ≡ kid_references (filter_map cell_of es) =
        sym (append-nil so.hashes) ∙ ap (λ ls. so.hashes ++ kid_references (filter_map cell_of ls)) (sym is) ∙ so.hashes_are in
        (ap₂ (λ a b. option_or a b) missing others, subst (λ hs. AreRowsOf H all hs rows) hashes so.rows_are)

    pub kids-refused : (c : Stored) → IsCellNext es after c → (e : ScanFault) → Refuses (missing_fault H all c) e → Refuses (kids_fault H all (filter_map cell_of es)) e
    kids-refused c next e is =
        let hash = c.0 in
        let left = above (Some hash.0) es in
        let told = told-next cell_of (above after es) left next.entry c next.rest next.told in
        refused (missing_fault H all c) (kids_fault H all (filter_map cell_of es)) e
        (λ x some. ap (λ o. option_or o (first_of (kid_fault H all) (filter_map cell_of es)))
        (sym so.missing ∙ ap (first_of (missing_fault H all)) told ∙ ap (λ o. option_or o (first_of (missing_fault H all) (filter_map cell_of left))) some)) is

    pub kids-unread : (e : ScanFault) → Refuses (first_of record_fault (above after es)) e → Refuses (kids_fault H all (filter_map cell_of es)) e
    kids-unread e is = of_nothing (first_of record_fault (above after es)) (kids_fault H all (filter_map cell_of es)) e (so.records ∙ none) is
