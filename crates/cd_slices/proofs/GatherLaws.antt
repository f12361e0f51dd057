-- Laws of the cells that a plan finds, step by step.
use Rattle.std.proofs.Common.{◌≡◌, ℕ, ◌+◌, ◌-◌, ◌<◌, ◌≤◌, ⊎_elim, false, List, ◌∷◌, [], ◌++◌, length, get_or, map, take, drop, refl, sym, ap, subst, ◌∙◌, arith, append_assoc, length-append, length-drop}
use Rattle.std.specs.Prelude.{Option, Some, None, Result, Ok, Err, All, Contains, IfSome, IfErr, slice_get, if◌then◌else◌}
use Rattle.std.specs.BTreeMap.{BTreeMap, get, btree_map_len, IsOrdered}
use Rattle.std.specs.Ordering.{is_eq}
use Rattle.std.proofs.lemmas.Bool.{cases_lt}
use Rattle.std.proofs.lemmas.List.{length-map, length-take, length_push, map-append, take_more, get_or-map, get_or_push, get_or_default, get_or_append_left, get_or-append_right, get_or-take, get_or-drop}
use Rattle.std.proofs.lemmas.List.Elements.{All-push}
use Rattle.std.proofs.lemmas.Option.{MatchOption-at_some, slice_get-get_or, get_or_from_slice_get}
use Rattle.cd_base.specs.declared.hash.Hash256.{Hash256}
use Rattle.cd_cell.specs.declared.info.ChildInfo.{ChildInfo}
use Rattle.cd_cell.specs.declared.limits.TheConstants.{MOST_CELLS}
use Rattle.cd_cell.specs.Bags.{no_face, face_at}
use Rattle.cd_cell.specs.FaceView.{FaceView}
use Rattle.cd_cell.specs.GoodFace.{IsGoodFace}
use Rattle.cd_cell.specs.Infos.{no_hash}
use Rattle.cd_cell.specs.Tree.{Tree, children, subtrees, face_of, info_of, rep_of}
use Rattle.cd_cell.proofs.Subtrees.{Contains-map, child-is-subtree, kids-face_of, subtree-itself, subtrees-subtree}
use Rattle.cd_event.specs.Turning.{AreFacesOf, counted}
use Rattle.cd_looks.specs.Answers.{IsRootOf, face_or_empty}
use Rattle.cd_slices.specs.declared.faults.PlanFault.{PlanFault}
use Rattle.cd_slices.specs.declared.faults.PlanFault.TheVariants as plan
use Rattle.cd_slices.specs.Faults.{is_plan_failed}
use Rattle.cd_slices.specs.declared.gather.Gathered.{Gathered}
use Rattle.cd_cell.specs.declared.export_key.ExportRank.{ExportRank}
use Rattle.cd_cell.specs.Keys.{rank_cmp}
use Rattle.cd_slices.specs.Ranks.{rank_of_info, IsPlaced, IsKnown}
use Rattle.cd_slices.specs.Gathering.{hash_at, found_at, IsGathered, Grows, AddsOnly, IsKidOf, given_faces, AreRanksOf, AreTold, TakesKids, TakesFaces, IsTakingFault, IsGatherFault}
use Rattle.cd_slices.proofs.PlaceLaws.{place-there, place-cases, place-stays, place-known, known-place, known-stays, adds-more}

-- ---- nothing yet

pub gathered-none : (all : Gathered) → all.hashes.items ≡ [] → all.places.entries ≡ [] → IsOrdered rank_cmp all.places → all.faces.items ≡ [] → IsGathered all
gathered-none all hashes places ordered faces =
    let none : length all.hashes.items ≡ 0 = ap length hashes in
    let unseen : length all.faces.items ≡ 0 = ap length faces in
    record {
      few = omega arith;
      ordered = ordered;
      counted = ap length places ∙ sym none;
      ranked = λ place in'. absurd (omega arith);
      placed = λ rank place there. absurd (let empty : get rank_cmp all.places rank ≡ None = rw places refl in cc);
      seen = omega arith;
      good = λ k d in'. absurd (omega arith);
      closed = λ place kid in' shown. absurd (omega arith);
    }

-- ---- faults of taking in

pub not_failed : {A : Type 0} (result : Result A PlanFault) (places : BTreeMap ExportRank ℕ) → IfErr result (λ fault. IsTakingFault fault places) → is_plan_failed result ≡ false
not_failed (Ok done) places fault = refl
not_failed (Err (plan.TooMany limit)) places fault = refl
not_failed (Err (plan.Look at)) places fault = absurd fault
not_failed (Err plan.Memory) places fault = refl

pub taking-gathers : (fault : PlanFault) (places : BTreeMap ExportRank ℕ) → IsTakingFault fault places → IsGatherFault fault places
taking-gathers (plan.TooMany most) places found = found
taking-gathers (plan.Look fault) places found = absurd found
taking-gathers plan.Memory places found = tt

-- the limit that too many cells are answered with
pub at_too_many : (fault : PlanFault) (places : BTreeMap ExportRank ℕ) → IsGatherFault fault places → (limit : ℕ) → fault ≡ plan.TooMany limit → (limit ≡ MOST_CELLS) × (MOST_CELLS < btree_map_len places) × IsOrdered rank_cmp places
at_too_many (plan.TooMany most) places found limit is = let same : most ≡ limit = cc in (sym same ∙ found.0, found.1, found.2)
at_too_many (plan.Look fault) places found limit is = absurd cc
at_too_many plan.Memory places found limit is = absurd cc

-- ---- one known cell more

module _ (old new : Gathered) (rank : ExportRank) (is : IsGathered old) (fresh : get rank_cmp old.places rank ≡ None)
    (puts : (q : ExportRank) → get rank_cmp new.places q ≡ (if is_eq (rank_cmp rank q) then Some (length old.hashes.items) else get rank_cmp old.places q))
    (hashes : new.hashes.items ≡ old.hashes.items ++ rank.hash ∷ []) where
  longer : length new.hashes.items ≡ length old.hashes.items + 1
  longer = ap length hashes ∙ length_push old.hashes.items rank.hash

  hash_stays : (place : ℕ) → place < length old.hashes.items → hash_at new place ≡ hash_at old place
  hash_stays place in' = ap (λ (hs : List Hash256). get_or hs place no_hash) hashes ∙ get_or_append_left old.hashes.items (rank.hash ∷ []) no_hash place in'

  last_hash : (place : ℕ) → place ≡ length old.hashes.items → hash_at new place ≡ rank.hash
  last_hash place at = ap (λ (hs : List Hash256). get_or hs place no_hash) hashes ∙ get_or_push old.hashes.items rank.hash no_hash place (sym at)

  pub grows-more : Grows old new
  grows-more = record {
    longer = omega (arith, longer);
    hashes = hash_stays;
    known = known-stays old.places new.places rank (length old.hashes.items) puts;
  }

  pub gathered-more : btree_map_len new.places ≡ btree_map_len old.places + 1 → IsOrdered rank_cmp new.places → new.faces.items ≡ old.faces.items → length old.hashes.items < MOST_CELLS → IsGathered new
  gathered-more count ordered faces room = record {
    few = omega (arith, longer);
    ordered = ordered;
    counted = omega (arith, count, is.counted, longer);
    ranked = λ place in'.
        ⊎_elim
        (λ below.
        let before = is.ranked place below in
        (before.0, place-stays old.places new.places rank (length old.hashes.items) puts fresh before.0 place before.1, before.2 ∙ sym (hash_stays place below)))
        (λ behind.
        let at : place ≡ length old.hashes.items = omega (arith, longer, in', behind) in
        (rank, subst (IsPlaced new.places rank) (sym at) (place-there old.places new.places rank (length old.hashes.items) puts), sym (last_hash place at)))
        (cases_lt place (length old.hashes.items));
    placed = λ q place there.
        ⊎_elim
        (λ here. (omega (arith, longer, here.1), last_hash place here.1 ∙ ap (λ (r : ExportRank). r.hash) (sym here.0)))
        (λ before. let at = is.placed q place before in (omega (arith, longer, at.0), hash_stays place at.0 ∙ at.1))
        (place-cases old.places new.places rank (length old.hashes.items) puts q place there);
    seen = omega (arith, longer, ap length faces, is.seen);
    good = subst (All IsGoodFace) (sym faces) is.good;
    closed = λ place kid in' shown.
        known-stays old.places new.places rank (length old.hashes.items) puts (rank_of_info kid)
        (is.closed place kid (omega (arith, ap length faces)) (subst (λ (fs : List FaceView). Contains (face_at fs place).kids kid) faces shown));
  }

-- ---- what grew

pub grows-itself : (all : Gathered) → Grows all all
grows-itself all = record { longer = omega arith; hashes = λ place in'. refl; known = λ rank known. known }

pub grows-further : (a b c : Gathered) → Grows a b → Grows b c → Grows a c
grows-further a b c first next = record {
  longer = omega (arith, first.longer, next.longer);
  hashes = λ place in'. next.hashes place (omega (arith, first.longer)) ∙ first.hashes place in';
  known = λ rank known. next.known rank (first.known rank known);
}

-- ---- one face more

module _ (old new : Gathered) (face : FaceView) (hashes : new.hashes ≡ old.hashes) (places : new.places ≡ old.places) (faces : new.faces.items ≡ old.faces.items ++ face ∷ []) where
  pub grows-face : (before : Gathered) → Grows before old → Grows before new
  grows-face before grows = record {
    longer = subst (λ (hs : _). length before.hashes.items ≤ length hs.items) (sym hashes) grows.longer;
    hashes = λ place in'. ap (λ (hs : _). get_or hs.items place no_hash) hashes ∙ grows.hashes place in';
    known = λ rank known. subst (λ (ps : BTreeMap ExportRank ℕ). IsKnown ps rank) (sym places) (grows.known rank known);
  }

  pub gathered-face : IsGathered old → length old.faces.items < length old.hashes.items → IsGoodFace face → ((kid : ChildInfo) → Contains face.kids kid → IsKnown old.places (rank_of_info kid)) → IsGathered new
  gathered-face is next good kids =
      let count = ap length faces ∙ length_push old.faces.items face in
      let same_count : length new.hashes.items ≡ length old.hashes.items = ap (λ hs. length hs.items) hashes in
      record {
        few = omega (arith, same_count, is.few);
        ordered = subst (IsOrdered rank_cmp) (sym places) is.ordered;
        counted = ap btree_map_len places ∙ (is.counted ∙ sym same_count);
        ranked = λ place in'.
            let before = is.ranked place (omega (arith, same_count)) in
            (before.0, subst (λ (ps : BTreeMap ExportRank ℕ). IsPlaced ps before.0 place) (sym places) before.1, before.2 ∙ sym (ap (λ hs. get_or hs.items place no_hash) hashes));
        placed = λ rank place there.
            let before = is.placed rank place (subst (λ (ps : BTreeMap ExportRank ℕ). IsPlaced ps rank place) places there) in
            (omega (arith, same_count, before.0), ap (λ hs. get_or hs.items place no_hash) hashes ∙ before.1);
        seen = omega (arith, count, same_count, next);
        good = subst (All IsGoodFace) (sym faces) (All-push IsGoodFace old.faces.items face is.good good);
        closed = λ place kid in' shown.
            let all-shown = subst (λ (fs : List FaceView). Contains (face_at fs place).kids kid) faces shown in
            subst (λ (ps : BTreeMap ExportRank ℕ). IsKnown ps (rank_of_info kid)) (sym places)
            (⊎_elim
            (λ below. is.closed place kid below (subst (λ (f : FaceView). Contains f.kids kid) (get_or_append_left old.faces.items (face ∷ []) no_face place below) all-shown))
            (λ behind. kids kid (subst (λ (f : FaceView). Contains f.kids kid) (get_or_push old.faces.items face no_face place (let at : length old.faces.items ≡ place = omega (arith, count, behind, in') in at)) all-shown))
            (cases_lt place (length old.faces.items)));
      }

-- ---- the children of a face, and the faces of a look, one by one

pub kids-more : (old mid new : Gathered) (kids : List ChildInfo) (count : ℕ) (kid : ChildInfo) → TakesKids old mid kids count → count < length kids → kid ≡ get_or kids count kid
    → IsGathered new → Grows mid new → new.faces.items ≡ mid.faces.items → IsKnown new.places (rank_of_info kid) → AddsOnly (λ i. i ≡ kid) mid.places new.places → TakesKids old new kids (count + 1)
kids-more old mid new kids count kid so_far in' is whole grows faces known adds = record {
  whole = whole;
  grows = grows-further old mid new so_far.grows grows;
  faces = faces ∙ so_far.faces;
  known = λ place d low.
      ⊎_elim
      (λ below. grows.known (rank_of_info (get_or kids place d)) (so_far.known place d below))
      (λ behind.
      let at : place ≡ count = omega arith in
      subst (λ (info : ChildInfo). IsKnown new.places (rank_of_info info)) (is ∙ (get_or_default kids count kid d in' ∙ ap (λ (k : ℕ). get_or kids k d) (sym at))) known)
      (cases_lt place count);
  adds = adds-more (Contains kids) (λ i. i ≡ kid) old.places mid.places new.places (λ info same. (count, in', get_or_default kids count info kid in' ∙ (sym is ∙ sym same))) so_far.adds adds;
}

pub kids-known : (old new : Gathered) (kids shown : List ChildInfo) (count : ℕ) → TakesKids old new kids count → length kids ≤ count → kids ≡ shown → (kid : ChildInfo) → Contains shown kid → IsKnown new.places (rank_of_info kid)
kids-known old new kids shown count taken all same kid there =
    let among : Contains kids kid = subst (λ (ks : List ChildInfo). Contains ks kid) (sym same) there in
    subst (λ (info : ChildInfo). IsKnown new.places (rank_of_info info)) among.2 (taken.known among.0 kid (omega (arith, all, among.1)))

-- what a child of a face shows that a look gave
pub kid-of-given : (found : List (Option FaceView)) (place : ℕ) (item : Option FaceView) (face : FaceView) → place < length found → item ≡ get_or found place item → face ≡ face_or_empty item
    → (info : ChildInfo) → Contains face.kids info → IsKidOf (given_faces found) info
kid-of-given found place item face in' is is_face info there =
    let at : face_at (given_faces found) place ≡ face = get_or-map face_or_empty found place item no_face in' ∙ (ap face_or_empty (sym is) ∙ sym is_face) in
    (place, omega (arith, in', length-map found face_or_empty), subst (λ (f : FaceView). Contains f.kids info) (sym at) there)

pub faces-more : (old mid new : Gathered) (found : List (Option FaceView)) (count : ℕ) (item : Option FaceView) (face : FaceView) → TakesFaces old mid found count → count < length found
    → item ≡ get_or found count item → face ≡ face_or_empty item → IsGathered new → Grows mid new → new.faces.items ≡ mid.faces.items ++ face ∷ [] → AddsOnly (Contains face.kids) mid.places new.places → TakesFaces old new found (count + 1)
faces-more old mid new found count item face so_far in' is is_face whole grows faces adds = record {
  whole = whole;
  grows = grows-further old mid new so_far.grows grows;
  faces =
      let more : given_faces (take (count + 1) found) ≡ given_faces (take count found) ++ face ∷ [] =
      ap (map face_or_empty) (take_more found count item in' ∙ ap (λ (o : Option FaceView). take count found ++ o ∷ []) (sym is))
      ∙ (map-append face_or_empty (take count found) (item ∷ []) ∙ ap (λ (f : FaceView). given_faces (take count found) ++ f ∷ []) (sym is_face)) in
      faces ∙ (ap (λ (fs : List FaceView). fs ++ face ∷ []) so_far.faces ∙ (append_assoc old.faces.items (given_faces (take count found)) (face ∷ []) ∙ ap (λ (fs : List FaceView). old.faces.items ++ fs) (sym more)));
  adds = adds-more (IsKidOf (given_faces found)) (Contains face.kids) old.places mid.places new.places (kid-of-given found count item face in' is is_face) so_far.adds adds;
}

-- ---- what a look tells

pub counted-more : (before m n : ℕ) → m ≤ n → counted (counted before m) (n - m) ≡ counted before n
counted-more before m n more = omega arith

-- before the first look
pub told-first : (H : List ℕ → Hash256) (told : Option Tree) (root : ChildInfo) (old new : Gathered) → IsGathered old → old.hashes.items ≡ [] → new.faces.items ≡ [] → AddsOnly (λ i. i ≡ root) old.places new.places → IsRootOf H told root → AreTold H told new
told-first H told root old new is none unseen adds is_root = record {
  ranks = λ t is_told rank known.
      ⊎_elim
      (λ before.
      let place = known-place old.places rank before in
      let at = is.placed rank place.0 place.1 in
      absurd (let empty : length old.hashes.items ≡ 0 = ap length none in omega (arith, at.0, empty)))
      (λ came. (t, subtree-itself t, ap rank_of_info (sym (is_root t is_told) ∙ sym came.1) ∙ came.2))
      (adds rank known);
  faces = λ place in'. absurd (let empty : length new.faces.items ≡ 0 = ap length unseen in omega (arith, in', empty));
}

-- a face that is given for a cell's hash
pub given-face : (H : List ℕ → Hash256) (t s : Tree) (hashes part : List Hash256) (found : List (Option FaceView)) (at k : ℕ)
    → AreFacesOf H t part found → length found ≡ length part → ((j : ℕ) → j < length part → get_or part j no_hash ≡ get_or hashes (at + j) no_hash)
    → k < length found → Contains (subtrees t) s → rep_of H s ≡ get_or hashes (at + k) no_hash → face_at (given_faces found) k ≡ face_of H s
given-face H t s hashes part found at k faces long is_part in' inside hash =
    let in-part : k < length part = omega (arith, long) in
    let asked : slice_get part k ≡ Some (rep_of H s) = slice_get-get_or part k no_hash in-part ∙ ap Some (is_part k in-part ∙ sym hash) in
    get_or-map face_or_empty found k None no_face in' ∙ ap face_or_empty (get_or_from_slice_get found k (Some (face_of H s)) None (faces k s inside asked))

-- the part of the hashes that is asked
asked-part : (hashes : List Hash256) (at count j : ℕ) → j < length (take count (drop at hashes)) → get_or (take count (drop at hashes)) j no_hash ≡ get_or hashes (at + j) no_hash
asked-part hashes at count j low =
    let less : j < count = omega (arith, length-take count (drop at hashes)) in
    get_or-take count (drop at hashes) j no_hash less ∙ get_or-drop at hashes j no_hash

-- the next faces, where the tree is told
pub record AreGiven (H : List ℕ → Hash256) (told : Option Tree) (old : Gathered) (given : List FaceView) : Type 0 where
  pub fits : length old.faces.items + length given ≤ length old.hashes.items
  pub are : (t s : Tree) (k : ℕ) → told ≡ Some t → k < length given → Contains (subtrees t) s → rep_of H s ≡ hash_at old (length old.faces.items + k) → face_at given k ≡ face_of H s

pub are_given : (H : List ℕ → Hash256) (told : Option Tree) (old : Gathered) (hashes : List Hash256) (at count : ℕ) (found shown : List (Option FaceView)) → IsGathered old
    → hashes ≡ old.hashes.items → at ≡ length old.faces.items → length found ≡ length (take count (drop at hashes)) → shown ≡ found → IfSome told (λ t. AreFacesOf H t (take count (drop at hashes)) found)
    → AreGiven H told old (given_faces shown)
are_given H told old hashes at count found shown is hashes_are at_is long same faces =
    let part = take count (drop at hashes) in
    let all = ap length hashes_are in
    let given_long = length-map shown face_or_empty ∙ ap length same in
    record {
      fits = omega (arith, given_long, long, length-take count (drop at hashes), length-drop at hashes, all, at_is, is.seen);
      are = λ t s k is_told in' inside hash.
          let hash_is : rep_of H s ≡ get_or hashes (at + k) no_hash = hash ∙ sym (ap (λ (hs : List Hash256). get_or hs (at + k) no_hash) hashes_are ∙ ap (λ (n : ℕ). get_or old.hashes.items (n + k) no_hash) at_is) in
          ap (λ (os : List (Option FaceView)). face_at (given_faces os) k) same
          ∙ given-face H t s hashes part found at k (MatchOption-at_some _ _ t is_told faces) long (asked-part hashes at count) (omega (arith, in', given_long)) inside hash_is;
    }

module _ (H : List ℕ → Hash256) (told : Option Tree) (old : Gathered) (is : IsGathered old) (cells : AreTold H told old) (given : List FaceView) (next : AreGiven H told old given) where
  -- the ranks that come with the faces that were given are those of cells of the tree
  pub ranks-on : (new : BTreeMap ExportRank ℕ) → AddsOnly (IsKidOf given) old.places new → (t : Tree) → told ≡ Some t → AreRanksOf H t new
  ranks-on new adds t is_told rank known =
      ⊎_elim
      (cells.ranks t is_told rank)
      (λ came.
      let kid = came.1 in
      let place = length old.faces.items + kid.0 in
      let named = is.ranked place (omega (arith, next.fits, kid.1)) in
      let found = cells.ranks t is_told named.0 (place-known old.places named.0 place named.1) in
      let s = found.0 in
      let hash : rep_of H s ≡ hash_at old place = ap (λ (r : ExportRank). r.hash) found.2 ∙ named.2 in
      let face = next.are t s kid.0 is_told kid.1 found.1 hash in
      let shown : Contains (map (info_of H) (children s)) came.0 = subst (λ (ks : List ChildInfo). Contains ks came.0) (kids-face_of H s) (subst (λ (f : FaceView). Contains f.kids came.0) face kid.2) in
      let child = Contains-map (info_of H) (children s) came.0 shown in
      (child.0, subtrees-subtree t s child.0 found.1 (child-is-subtree s child.0 child.1), ap rank_of_info child.2 ∙ came.2))
      (adds rank known)

  pub told-on : (new : Gathered) → Grows old new → new.faces.items ≡ old.faces.items ++ given → AddsOnly (IsKidOf given) old.places new.places → AreTold H told new
  told-on new grows faces adds = record {
    ranks = ranks-on new.places adds;
    faces = λ place in' t s is_told inside hash.
        let count = length old.faces.items in
        let whole = ap length faces ∙ length-append old.faces.items given in
        let face : found_at new place ≡ face_at (old.faces.items ++ given) place = ap (λ (fs : List FaceView). face_at fs place) faces in
        let kept : hash_at new place ≡ hash_at old place = grows.hashes place (omega (arith, whole, next.fits)) in
        ⊎_elim
        (λ below. face ∙ (get_or_append_left old.faces.items given no_face place below ∙ cells.faces place below t s is_told inside (hash ∙ kept)))
        (λ behind.
        let at : count + (place - count) ≡ place = omega (arith, behind) in
        face ∙ (get_or-append_right old.faces.items given count place no_face refl behind
        ∙ next.are t s (place - count) is_told (omega (arith, whole, behind)) inside (hash ∙ (kept ∙ ap (hash_at old) (sym at)))))
        (cases_lt place count);
  }
