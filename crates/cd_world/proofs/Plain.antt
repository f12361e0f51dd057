-- Contents that are a world's: what is under a hash, that they tell the image, and how a batch leads from one to another.
use Rattle.std.proofs.Common.{◌≡◌, ℕ, List, [], ◌∷◌, Bool, true, false, cond, Some, None, map, refl, sym, ap, subst, ◌∙◌}
use Rattle.std.specs.List.{AllByRecursion}
use Rattle.std.specs.Option.{option_map}
use Rattle.std.specs.Ordering.{nat_cmp, eq_by_cmp}
use Rattle.std.specs.Cmp.Lexicographic.{slice_cmp, nat_list_cmp_total}
use Rattle.std.specs.FinMap as finite
use Rattle.std.specs.FinMap.{find, slice_cmp-IsAntisymmetric, nat_cmp-IsAntisymmetric}
use Rattle.cd_base.specs.declared.hash.Hash256.{Hash256}
use Rattle.cd_base.proofs.ListLaws.{tie}
use Rattle.cd_cell.specs.FaceView.{FaceView}
use Rattle.cd_cell.specs.Tree.{Tree, face_of}
use Rattle.cd_record.specs.RecordText.{record_text}
use Rattle.cd_keeper.specs.Contents.{Table, Contents, Change, changed, no_contents, put_all, drop_all}
use Rattle.cd_world.specs.World.{Block, World, held_cells, count_of}
use Rattle.cd_world.specs.Image.{plain_record, plain_cells, plain, record_entry, image_of, change_of, IsContentsOf, IsPlain}
use Rattle.cd_world.proofs.Puts.{changed-change_of}

-- what version 2 writes is plain
pub plain_record-text : (count : ℕ) (face : FaceView) → plain_record (record_text count face) ≡ record_text count face
unfolding record_text
plain_record-text count face = refl

-- ---- tables

abbrev same_tables : (s t : Table) → ((q : List ℕ) → finite.get s q ≡ finite.get t q) → s ≡ t
same_tables s t at = finite.same_map nat_list_cmp_total (slice_cmp-IsAntisymmetric nat_cmp-IsAntisymmetric) s t at

find-mapped : {X Y : Type 0} (f : X → Y) (q : List ℕ) (es : List (List ℕ × X)) → find (slice_cmp nat_cmp) q (map (λ e. (e.0, f e.1)) es) ≡ option_map f (find (slice_cmp nat_cmp) q es)
find-mapped f q [] = refl
find-mapped f q (e ∷ es) = by (eq_by_cmp (slice_cmp nat_cmp) q e.0) (find-mapped f q es)
  where
    by : (b : Bool) → find (slice_cmp nat_cmp) q (map (λ e. (e.0, f e.1)) es) ≡ option_map f (find (slice_cmp nat_cmp) q es)
        → cond b (Some (f e.1)) (find (slice_cmp nat_cmp) q (map (λ e. (e.0, f e.1)) es)) ≡ option_map f (cond b (Some e.1) (find (slice_cmp nat_cmp) q es))
    by true rest = refl
    by false rest = rest

-- the record under a hash, in version 2
pub get-plain_cells : (t : Table) (q : List ℕ) → finite.get (plain_cells t) q ≡ option_map plain_record (finite.get t q)
get-plain_cells t q =
    finite.get-from_entries nat_list_cmp_total (map (λ e. (e.0, plain_record e.1)) (finite.entries t)) q
    ∙ find-mapped plain_record q (finite.entries t)
    ∙ ap (option_map plain_record) (sym (finite.get-entries t q))

-- the puts are of version 2, or of nothing that is read
abbrev pub ArePlain : List (List ℕ × List ℕ) → Type 0
ArePlain puts = AllByRecursion (λ e. plain_record e.1 ≡ e.1) puts

plain-insert : (t : Table) (key value : List ℕ) → plain_record value ≡ value → plain_cells (finite.insert t key value) ≡ finite.insert (plain_cells t) key value
plain-insert t key value is = same_tables _ _ (λ q.
    get-plain_cells (finite.insert t key value) q
    ∙ ap (option_map plain_record) (finite.get-insert nat_list_cmp_total t key value q)
    ∙ by q (eq_by_cmp (slice_cmp nat_cmp) q key)
    ∙ sym (finite.get-insert nat_list_cmp_total (plain_cells t) key value q))
  where
    by : (q : List ℕ) (b : Bool) → option_map plain_record (cond b (Some value) (finite.get t q)) ≡ cond b (Some value) (finite.get (plain_cells t) q)
    by q true = ap Some is
    by q false = sym (get-plain_cells t q)

plain-remove : (t : Table) (key : List ℕ) → plain_cells (finite.remove t key) ≡ finite.remove (plain_cells t) key
plain-remove t key = same_tables _ _ (λ q.
    get-plain_cells (finite.remove t key) q
    ∙ ap (option_map plain_record) (finite.get-remove nat_list_cmp_total t key q)
    ∙ by q (eq_by_cmp (slice_cmp nat_cmp) q key)
    ∙ sym (finite.get-remove nat_list_cmp_total (plain_cells t) key q))
  where
    by : (q : List ℕ) (b : Bool) → option_map plain_record (cond b None (finite.get t q)) ≡ cond b None (finite.get (plain_cells t) q)
    by q true = refl
    by q false = sym (get-plain_cells t q)

plain-put_all : (t : Table) (puts : List (List ℕ × List ℕ)) → ArePlain puts → plain_cells (put_all t puts) ≡ put_all (plain_cells t) puts
plain-put_all t [] are = refl
plain-put_all t (e ∷ puts) are = plain-put_all (finite.insert t e.0 e.1) puts are.1 ∙ ap (λ (s : Table). put_all s puts) (plain-insert t e.0 e.1 are.0)

plain-drop_all : (t : Table) (keys : List (List ℕ)) → plain_cells (drop_all t keys) ≡ drop_all (plain_cells t) keys
plain-drop_all t [] = refl
plain-drop_all t (key ∷ keys) = plain-drop_all (finite.remove t key) keys ∙ ap (λ (s : Table). drop_all s keys) (plain-remove t key)

-- a batch whose records are of version 2 does to plain contents what it does to contents
pub plain-changed : (change : Change) (contents : Contents) → ArePlain change.put_cells → plain (changed change contents) ≡ changed change (plain contents)
plain-changed change contents are =
    let cells = plain-put_all (drop_all contents.cells change.drop_cells) change.put_cells are ∙ ap (λ (s : Table). put_all s change.put_cells) (plain-drop_all contents.cells change.drop_cells) in
    ap (λ (t : Table). record { cells = t; descs = put_all (drop_all contents.descs change.drop_descs) change.put_descs }) cells

-- ---- worlds

module _ (H : List ℕ → Hash256) where
  abbrev pub record_value : World → List ℕ → Tree → List ℕ
  record_value world hash t = record_text (count_of H world hash) (face_of H t)

  find-plain : (world : World) (q : List ℕ) (held : List (List ℕ × Tree)) → option_map plain_record (find (slice_cmp nat_cmp) q (map (record_entry H world) held)) ≡ find (slice_cmp nat_cmp) q (map (record_entry H world) held)
  find-plain world q [] = refl
  find-plain world q (e ∷ held) = by (eq_by_cmp (slice_cmp nat_cmp) q e.0) (find-plain world q held)
    where
      by : (b : Bool) → option_map plain_record (find (slice_cmp nat_cmp) q (map (record_entry H world) held)) ≡ find (slice_cmp nat_cmp) q (map (record_entry H world) held)
          → option_map plain_record (cond b (Some (record_text (count_of H world e.0) (face_of H e.1))) (find (slice_cmp nat_cmp) q (map (record_entry H world) held)))
          ≡ cond b (Some (record_text (count_of H world e.0) (face_of H e.1))) (find (slice_cmp nat_cmp) q (map (record_entry H world) held))
      by true rest = ap Some (plain_record-text (count_of H world e.0) (face_of H e.1))
      by false rest = rest

  -- a world's image is its contents
  pub image-is : (world : World) → IsContentsOf H world (image_of H world)
  image-is world =
      let es = map (record_entry H world) (finite.entries (held_cells H world)) in
      let cells : plain_cells (finite.from_entries es) ≡ finite.from_entries es = same_tables _ _ (λ q.
      get-plain_cells (finite.from_entries es) q
      ∙ ap (option_map plain_record) (finite.get-from_entries nat_list_cmp_total es q)
      ∙ find-plain world q (finite.entries (held_cells H world))
      ∙ sym (finite.get-from_entries nat_list_cmp_total es q)) in
      let image = image_of H world in
      record { plainly = ap (λ (t : Table). record { cells = t; descs = image.descs }) cells }

  -- and its records are of version 2
  pub image-plain : (world : World) → IsPlain (image_of H world)
  image-plain world = let is = image-is world in record { same = is.plainly }

  module _ (world : World) (contents : Contents) (are : IsContentsOf H world contents) where
    -- contents of version 2 alone are the image itself
    pub contents-plain : IsPlain contents → contents ≡ image_of H world
    contents-plain plain_too = sym plain_too.same ∙ are.plainly

    -- the record under a hash is that of the image, in version 2
    pub contents-cell : (q : List ℕ) → let image = image_of H world in option_map plain_record (finite.get contents.cells q) ≡ finite.get image.cells q
    contents-cell q = sym (get-plain_cells contents.cells q) ∙ ap (λ (c : Contents). finite.get c.cells q) are.plainly

    -- and the description under a key is
    pub contents-desc : (q : List ℕ) → let image = image_of H world in finite.get contents.descs q ≡ finite.get image.descs q
    contents-desc q = ap (λ (c : Contents). finite.get c.descs q) are.plainly

    -- contents tell the image of their world
    pub contents-image : (other : World) → IsContentsOf H other contents → image_of H world ≡ image_of H other
    contents-image other others = sym are.plainly ∙ others.plainly

    -- a batch of version 2 that leads from image to image leads from contents to contents
    pub contents-changed : (change : Change) (next : World) → ArePlain change.put_cells → changed change (image_of H world) ≡ image_of H next → IsContentsOf H next (changed change contents)
    contents-changed change next plainly leads = record { plainly = plain-changed change contents plainly ∙ ap (changed change) are.plainly ∙ leads }

  -- what is under the hash of a held cell in the image
  pub image-cell : (world : World) (q : List ℕ) → let image = image_of H world in finite.get image.cells q ≡ option_map (record_value world q) (finite.get (held_cells H world) q)
  image-cell world q =
      finite.get-from_entries nat_list_cmp_total (map (record_entry H world) (finite.entries (held_cells H world))) q
      ∙ found (finite.entries (held_cells H world))
      ∙ ap (option_map (record_value world q)) (sym (finite.get-entries (held_cells H world) q))
    where
      found : (held : List (List ℕ × Tree)) → find (slice_cmp nat_cmp) q (map (record_entry H world) held) ≡ option_map (record_value world q) (find (slice_cmp nat_cmp) q held)
      found [] = refl
      found (e ∷ held) = by (eq_by_cmp (slice_cmp nat_cmp) q e.0) refl (found held)
        where
          by : (b : Bool) → eq_by_cmp (slice_cmp nat_cmp) q e.0 ≡ b → find (slice_cmp nat_cmp) q (map (record_entry H world) held) ≡ option_map (record_value world q) (find (slice_cmp nat_cmp) q held)
              → cond b (Some (record_text (count_of H world e.0) (face_of H e.1))) (find (slice_cmp nat_cmp) q (map (record_entry H world) held)) ≡ option_map (record_value world q) (cond b (Some e.1) (find (slice_cmp nat_cmp) q held))
          by true same rest =
              let key : q ≡ e.0 = slice_cmp-IsAntisymmetric nat_cmp-IsAntisymmetric q e.0 (tie _ same) in
              ap (λ (hash : List ℕ). Some (record_text (count_of H world hash) (face_of H e.1))) (sym key)
          by false other rest = rest

  -- what stores a world of one block in an empty keeper leaves its contents
  pub stored-contents : (b : Block) (world : World) → world.blocks ≡ b ∷ [] → IsContentsOf H world (changed (change_of H world) no_contents)
  stored-contents b world one = subst (IsContentsOf H world) (sym (changed-change_of H b world one)) (image-is world)
