-- From what was read to what is opened.
use Rattle.std.proofs.Common.{◌≡◌, ℕ, suc, ◌+◌, ◌-◌, ◌^◌, cond, List, [], ◌∷◌, ◌++◌, map, length, Option, Some, None, Result, Ok, Err, IfSome, refl, sym, ap, ap₂, ◌∙◌, subst, add_comm}
use Rattle.std.specs.Prelude.{min, IfOk, IfErr}
use Rattle.std.specs.List.{sum_by, count_by}
use Rattle.std.specs.Option.{option_or}
use Rattle.std.specs.FinMap as finite
use Rattle.std.proofs.lemmas.List.Sums.{sum_by-append, sum_by-cons}
use Rattle.std.proofs.lemmas.Option.{none-some}
use Rattle.cd_base.specs.declared.hash.Hash256.{Hash256}
use Rattle.cd_block.specs.declared.description.Descr.{Descr}
use Rattle.cd_cell.specs.Equality.{same_hash}
use Rattle.cd_cell.specs.FaceView.{FaceView}
use Rattle.cd_cell.specs.Infos.{rep_of_info}
use Rattle.cd_cell.specs.Tree.{Tree, face_of}
use Rattle.cd_keeper.specs.Contents.{Contents}
use Rattle.cd_world.specs.Told.{held, count}
use Rattle.cd_world.specs.Unfolded.{told_in}
use Rattle.cd_world.proofs.CountLaws.{sum_by-map}
use Rattle.cd_restart.specs.declared.opened.Opened.{Opened}
use Rattle.cd_restart.specs.declared.scan_fault.ScanFault.{ScanFault}
use Rattle.cd_restart.specs.declared.scan_fault.ScanFault.TheVariants as refusal
use Rattle.cd_restart.specs.Answers.{Answers, Refuses}
use Rattle.cd_restart.specs.Lists.{first_of}
use Rattle.cd_restart.specs.Opened.{world_of, all_counts, IsRead, IsOpened, IsDamaged, AreNoStore}
use Rattle.cd_restart.specs.RowView.{RowView}
use Rattle.cd_restart.specs.Rows.{row_after, rows_of, kid_references, root_references}
use Rattle.cd_restart.specs.ScanFaults.{unless, places_in, references, row_fault, count_fault, scan_fault}
use Rattle.cd_restart.specs.Stored.{Stored, blocks_in, cells_in}
use Rattle.cd_restart.proofs.FreeOfFaults.{no_fault}
use Rattle.std.proofs.Common.{eqb}
use Rattle.cd_restart.proofs.Matching.{sum_by-each, faces-match, counts-match}
use Rattle.cd_restart.proofs.SoundStores.{no_scan_fault}
use Rattle.cd_restart.proofs.StoredWorlds as stored
use Rattle.cd_restart.proofs.ToldContents.{if_some-map, if_some-both}

-- ---- counts

first_of-map : {A B : Type 0} (f : B → Option ScanFault) (g : A → B) (h : A → Option ScanFault) → ((x : A) → f (g x) ≡ h x) → (xs : List A) → first_of f (map g xs) ≡ first_of h xs
first_of-map f g h same [] = refl
first_of-map f g h same (x ∷ xs) = ap₂ (λ a b. option_or a b) (same x) (first_of-map f g h same xs)

one : Hash256 → Hash256 → ℕ
one hash h = cond {A = ℕ} (same_hash h hash) 1 0

kids-counted : (hash : Hash256) (cells : List Stored) → count_by (λ h. same_hash h hash) (kid_references cells) ≡ sum_by (places_in hash) cells
kids-counted hash [] = refl
kids-counted hash (c ∷ cells) =
    sum_by-append (λ (h : Hash256). cond {A = ℕ} (same_hash h hash) 1 0) (map rep_of_info c.1.face.kids) (kid_references cells)
    ∙ ap₂ (λ a b. a + b) (sum_by-map (λ (h : Hash256). cond {A = ℕ} (same_hash h hash) 1 0) rep_of_info c.1.face.kids) (kids-counted hash cells)
    ∙ sym (sum_by-cons (places_in hash) c cells)

references-counted : (blocks : List Descr) (cells : List Stored) (hash : Hash256) → count_by (λ h. same_hash h hash) (kid_references cells ++ root_references blocks) ≡ references blocks cells hash
references-counted blocks cells hash =
    sum_by-append (λ (h : Hash256). cond {A = ℕ} (same_hash h hash) 1 0) (kid_references cells) (root_references blocks)
    ∙ ap₂ (λ a b. a + b) (kids-counted hash cells) (sum_by-map (λ (h : Hash256). cond {A = ℕ} (same_hash h hash) 1 0) (λ (d : Descr). d.root) blocks)
    ∙ add_comm (sum_by (places_in hash) cells) (count_by (λ (d : Descr). same_hash d.root hash) blocks)

module _ (H : List ℕ → Hash256) (blocks : List Descr) (cells : List Stored) where
  -- the rows after all references have the faults of counts
  pub rows-faults : first_of row_fault (rows_of H cells (kid_references cells ++ root_references blocks)) ≡ first_of (count_fault blocks cells) cells
  rows-faults = first_of-map row_fault (row_after H (kid_references cells ++ root_references blocks)) (count_fault blocks cells)
      (λ c. ap (λ n. unless (eqb c.1.count n) (refusal.Count c.0 c.1.count n)) (references-counted blocks cells c.0)) cells

  pub rows-sum : (hashes : List Hash256) → sum_by (λ (r : RowView). r.stored) (rows_of H cells hashes) ≡ sum_by (λ (c : Stored). c.1.count) cells
  rows-sum hashes = sum_by-map (λ (r : RowView). r.stored) (row_after H hashes) cells

mapped : {A B : Type 0} (f : A → B) (xs : List A) → length (map f xs) ≡ length xs
mapped f [] = refl
mapped f (x ∷ xs) = ap suc (mapped f xs)

-- ---- what is opened

module _ (H : List ℕ → Hash256) (long : (m : List ℕ) → length (let h = H m in h.0) ≡ 32) (contents : Contents) where
  -- a refusal is not met by a store
  refuted : (e : ScanFault) → scan_fault H contents ≡ Some e → AreNoStore H contents
  refuted e is fits t store = absurd (none-some e (sym (no_scan_fault H long contents t fits store.sound store.are) ∙ is))

  pub damaged : (e : ScanFault) → Refuses (scan_fault H contents) e → IsDamaged H contents e
  damaged (refusal.Desc key) is = refuted (refusal.Desc key) is
  damaged (refusal.Lineage key) is = refuted (refusal.Lineage key) is
  damaged (refusal.Record hash fault) is = refuted (refusal.Record hash fault) is
  damaged (refusal.WrongKey hash real) is = refuted (refusal.WrongKey hash real) is
  damaged (refusal.Missing parent child) is = refuted (refusal.Missing parent child) is
  damaged (refusal.ChildInfo parent child) is = refuted (refusal.ChildInfo parent child) is
  damaged (refusal.RootMissing key root) is = refuted (refusal.RootMissing key root) is
  damaged (refusal.RootDepth key stated real) is = refuted (refusal.RootDepth key stated real) is
  damaged (refusal.Count hash stated counted) is = refuted (refusal.Count hash stated counted) is
  damaged refusal.Keeper is = tt
  damaged refusal.Memory is = tt

  pub opened : (o : Opened) → scan_fault H contents ≡ None → IsRead contents o → IsOpened H contents o
  opened o none read =
      let each = no_fault H contents none in
      let fits = read.fit in
      let t = told_in contents (world_of (blocks_in contents)) in
      let matching = stored.matching H contents fits each in
      let cells = cells_in contents in
      let same_length : length cells ≡ finite.len (held H t) =
      sym (mapped (λ (c : Stored). (let h = c.0 in h.0, c.1.face)) cells)
      ∙ sym (ap length (faces-match H t cells matching))
      ∙ mapped (λ (e : List ℕ × Tree). (e.0, face_of H e.1)) (finite.entries (held H t))
      ∙ sym (finite.len-entries (held H t)) in
      let counted : List ℕ × FaceView → ℕ = λ e. count H t e.0 in
      let same_sum : sum_by (λ (c : Stored). c.1.count) cells ≡ all_counts H t =
      sum_by-each (λ (c : Stored). c.1.count) (λ (c : Stored). count H t (let h = c.0 in h.0)) cells
      (λ c h. stored.count-is H contents fits each c h ∙ sym (counts-match H t cells matching (let k = c.0 in k.0)))
      ∙ sym (sum_by-map counted (λ (c : Stored). (let h = c.0 in h.0, c.1.face)) cells)
      ∙ sym (ap (sum_by counted) (faces-match H t cells matching))
      ∙ sum_by-map counted (λ (e : List ℕ × Tree). (e.0, face_of H e.1)) (finite.entries (held H t)) in
      let whole = λ (bs : List Descr). IsOpened H contents (record { blocks = bs; cells = o.cells; counts = o.counts }) in
      subst whole (sym read.blocks_are) (record {
        store = record {
          sound = stored.sound H contents fits each;
          alone = refl;
          are = stored.contents-are H contents fits each;
        };
        cells = read.cells_are ∙ same_length;
        counts = read.counts_are ∙ ap (λ n. min n (2 ^ 64 - 1)) same_sum;
      })

module _ (H : List ℕ → Hash256) (long : (m : List ℕ) → length (let h = H m in h.0) ≡ 32) (o : Option Contents) where
  pub all-opened : (r : Result Opened ScanFault) → IfSome o (λ contents. Answers (scan_fault H contents) r) → IfOk r (λ x. IfSome o (λ contents. IsRead contents x))
      → IfOk r (λ x. IfSome o (λ contents. IsOpened H contents x))
  all-opened (Ok x) answered read = if_some-both (λ contents. scan_fault H contents ≡ None) (λ contents. IsRead contents x) (λ contents. IsOpened H contents x) o answered read
      (λ contents none is. opened H long contents x none is)
  all-opened (Err e) answered read = tt

  pub all-damaged : (r : Result Opened ScanFault) → IfSome o (λ contents. Answers (scan_fault H contents) r) → IfErr r (λ e. IfSome o (λ contents. IsDamaged H contents e))
  all-damaged (Ok x) answered = tt
  all-damaged (Err e) answered = if_some-map (λ contents. Refuses (scan_fault H contents) e) (λ contents. IsDamaged H contents e) o answered (λ contents is. damaged H long contents e is)
