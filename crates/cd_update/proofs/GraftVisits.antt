-- Laws of grafts visit by visit.
use Rattle.std.proofs.Common.{◌≡◌, ℕ, ◌+◌, ◌<◌, ◌≤◌, List, [], ◌∷◌, length, get_or, set, map, flat_map, All, Contains, Bool, true, false, Option, Some, None, refl, ap, ap₂, sym, ◌∙◌, subst, ⊎_elim, get_or-set_same, get_or-set_other, arith}
use Rattle.std.specs.Prelude.{if◌then◌else◌, is_some}
use Rattle.std.specs.List.{list_any}
use Rattle.std.specs.Option.{unwrap_or}
use Rattle.std.proofs.lemmas.Bool.{cases_eq}
use Rattle.std.proofs.lemmas.List.{length-set, length-map, get_or-map}
use Rattle.std.proofs.lemmas.List.Elements.{All-contains, Contains-get_or}
use Rattle.cd_base.specs.declared.hash.Hash256.{Hash256}
use Rattle.cd_cell.specs.declared.info.ChildInfo.{ChildInfo}
use Rattle.cd_cell.specs.FaceView.{FaceView}
use Rattle.cd_cell.specs.BagView.{BagView}
use Rattle.cd_cell.specs.CellFaults.{no_info}
use Rattle.cd_cell.specs.Levels.{kid_level, info_of_face}
use Rattle.cd_cell.specs.Tree.{Tree, cell, Trees, no_trees, tree_and, list_of, children, info_of, face_of, hash_at}
use Rattle.cd_cell.specs.Unfolding.{no_tree}
use Rattle.cd_cell.specs.Equality.{same_info}
use Rattle.cd_cell.specs.Updates.{is_hidden, some_unless}
use Rattle.cd_cell.specs.Bags.{bag_tree, face_at, refs_at}
use Rattle.cd_cell.proofs.Subtrees.{Contains-mapped}
use Rattle.cd_cell.proofs.BagLaws.{well_formed-bag}
use Rattle.cd_update.specs.declared.visit.Node.{Node}
use Rattle.cd_update.specs.declared.visit.Visit.{Visit}
use Rattle.cd_update.specs.EachOnce.{first_of}
use Rattle.cd_cell.specs.Places.{Place, places}
use Rattle.cd_update.specs.Nodes.{same_node, node, next_nodes, nodes_from, IsShown}
use Rattle.cd_update.specs.Visits.{spot, nodes_of, no_visit, visit_at, place_of, IsWalked}
use Rattle.cd_update.specs.Pairing.{upto, IsOldInfo}
use Rattle.cd_update.specs.Grafts.{known_for, grafted_info, grafted_infos, grafted_face, foreign_at}
use Rattle.cd_update.specs.GraftSteps.{IsGrafting, AreGrafted}
use Rattle.cd_update.proofs.EachOnceLaws.{Contains-each_once, Contains-each_once_cases}
use Rattle.cd_cell.proofs.ListTests.{true_or_false, any-contains, contains-any}
use Rattle.cd_update.proofs.Walks.{whole-next, whole-below, whole-itself}
use Rattle.cd_update.proofs.VisitLaws.{same_node-Decides}
use Rattle.cd_update.proofs.BagNodes.{next-rises, places-nodes, places-step}
use Rattle.cd_update.proofs.Walking.{next_nodes-shown}
use Rattle.cd_update.proofs.OldInfos.{known-as}
use Rattle.cd_update.proofs.GraftInfos.{or_parts, IsReady, all-ready}

-- ---- one cell

module _ (H : List ℕ → Hash256) (known : List ChildInfo) (old : All IsOldInfo known) (p : Place) (top : p.depth ≤ 3) where
  abbrev info : ChildInfo
  info = info_of H p.tree

  known-here : (b : Bool) → list_any (same_info (upto p.depth info)) known ≡ b → known_for known info p.depth ≡ (if b then Some (upto p.depth info) else None)
  known-here b e = known-as info p.depth top known old ∙ ap (λ x. if x then Some (upto p.depth info) else None) e

  pub foreign-known : is_hidden p.depth (face_of H p.tree) ≡ true → list_any (same_info (upto p.depth info)) known ≡ true → foreign_at H known p ≡ None
  foreign-known e there =
      ap (λ b. if b then some_unless (is_some (known_for known info p.depth)) (hash_at H p.tree p.depth) else None) e
      ∙ ap (λ o. some_unless (is_some o) (hash_at H p.tree p.depth)) (known-here true there)

  pub foreign-unknown : is_hidden p.depth (face_of H p.tree) ≡ true → list_any (same_info (upto p.depth info)) known ≡ false → foreign_at H known p ≡ Some (hash_at H p.tree p.depth)
  foreign-unknown e none =
      ap (λ b. if b then some_unless (is_some (known_for known info p.depth)) (hash_at H p.tree p.depth) else None) e
      ∙ ap (λ o. some_unless (is_some o) (hash_at H p.tree p.depth)) (known-here false none)

module _ (H : List ℕ → Hash256) (known : List ChildInfo) where
  grafted_infos-children : (ts : Trees) (d : ℕ) → grafted_infos H known ts d ≡ map (λ c. grafted_info H known c d) (list_of ts)
  grafted_infos-children no_trees d = refl
  grafted_infos-children (tree_and t ts) d = ap (λ ks. grafted_info H known t d ∷ ks) (grafted_infos-children ts d)

  -- the face of a cell that stays, by its children
  pub grafted_face-children : (t : Tree) (d : ℕ) → grafted_face H known t d ≡ record { exotic = (face_of H t).exotic; bits = (face_of H t).bits; kids = map (λ c. grafted_info H known c (kid_level (face_of H t) d)) (children t) }
  grafted_face-children (cell exotic bits ts) d = ap (λ ks. record { exotic = exotic; bits = bits; kids = ks }) (grafted_infos-children ts (kid_level (face_of H (cell exotic bits ts)) d))

abbrev faced : Bool → List Bool → List ChildInfo → FaceView
faced a xs ks = record { exotic = a; bits = xs; kids = ks }

map-map : {A B C : Type 0} (f : B → C) (g : A → B) (xs : List A) → map f (map g xs) ≡ map (λ x. f (g x)) xs
map-map f g [] = refl
map-map f g (x ∷ xs) = ap (λ ys. f (g x) ∷ ys) (map-map f g xs)

joined : {a b : Bool} {xs ys : List Bool} {ks gs : List ChildInfo} → a ≡ b → xs ≡ ys → ks ≡ gs → faced a xs ks ≡ faced b ys gs
joined e f g = cc

-- ---- the visits of a half

module _ {H : List ℕ → Hash256} {known : List ChildInfo} {bag : BagView} {start : Visit} {visits : List Visit} {numbers : List (Option ℕ)} (grafting : IsGrafting H known bag start visits numbers) where
  abbrev walked : IsWalked H bag start visits numbers
  walked = grafting.walked

  hidden-info : (t : Tree) (d : ℕ) → is_hidden d (face_of H t) ≡ true → grafted_info H known t d ≡ unwrap_or (known_for known (info_of H t) d) (info_of H no_tree)
  hidden-info (cell exotic bits ts) d e =
      let t = cell exotic bits ts in
      ap (λ b. if b then unwrap_or (known_for known (info_of H t) d) (info_of H no_tree) else info_of_face H (record { exotic = exotic; bits = bits; kids = grafted_infos H known ts (kid_level (face_of H t) d) })) e

  visited-node : (v : Visit) → Contains visits v → Contains (nodes_from bag start.node) v.node
  visited-node v in' =
      Contains-each_once_cases same_node same_node-Decides (nodes_from bag start.node) v.node
      (subst (λ ns. Contains ns v.node) walked.nodes (Contains-mapped (λ (w : Visit). w.node) visits v in'))

  visited-place : (v : Visit) → Contains visits v → Contains (places H (bag_tree bag start.node.entry) start.node.depth) (place_of bag v.node)
  visited-place v in' =
      subst (λ ps. Contains ps (place_of bag v.node)) (sym (places-nodes H bag walked.is_bag start.node walked.first.entry))
      (Contains-mapped (place_of bag) (nodes_from bag start.node) v.node (visited-node v in'))

  pub visit-ready : (v : Visit) → Contains visits v → IsReady H known grafting.old (place_of bag v.node)
  visit-ready v in' =
      all-ready H known grafting.old (bag_tree bag start.node.entry) start.node.depth (place_of bag v.node)
      (record { well = well_formed-bag H bag.cells bag.refs bag.roots walked.is_bag start.node.entry walked.first.entry; depth = walked.first.depth; low = grafting.low; none = grafting.found })
      (visited-place v in')

  pub visit-shown : (v : Visit) → Contains visits v → IsShown H bag v
  visit-shown v in' = All-contains (IsShown H bag) visits v walked.shown in'

  -- the children of a visit were visited
  pub visited-next : (v : Visit) (m : Node) → Contains visits v → Contains (next_nodes bag v.node) m → list_any (same_node m) (nodes_of visits) ≡ true
  visited-next v m in' next =
      let rank : Node → ℕ = λ n. n.entry in
      let rises = next-rises H bag walked.is_bag in
      let below = whole-next rank (length bag.cells) (next_nodes bag) rises v.node m (visit-shown v in').entry next in
      let from = whole-below rank (length bag.cells) (next_nodes bag) rises start.node v.node m walked.first.entry (visited-node v in') below in
      any-contains same_node same_node-Decides m (nodes_of visits)
      (subst (λ ns. Contains ns m) (sym walked.nodes) (Contains-each_once same_node same_node-Decides (nodes_from bag start.node) m from))

  pub start-visited : list_any (same_node start.node) (nodes_of visits) ≡ true
  start-visited =
      any-contains same_node same_node-Decides start.node (nodes_of visits)
      (subst (λ ns. Contains ns start.node) (sym walked.nodes)
      (Contains-each_once same_node same_node-Decides (nodes_from bag start.node) start.node
      (whole-itself (λ (n : Node). n.entry) (length bag.cells) (next_nodes bag) (next-rises H bag walked.is_bag) start.node walked.first.entry)))

  -- a visited node is an entry at a depth
  pub visited-shown : (n : Node) → list_any (same_node n) (nodes_of visits) ≡ true → (n.depth ≤ 3) × (n.entry < length bag.cells)
  visited-shown n seen =
      let place = contains-any same_node same_node-Decides n (nodes_of visits) seen in
      let k = place.0 in
      let in' : k < length visits = omega (arith, place.1, length-map visits (λ (v : Visit). v.node)) in
      let at : (visit_at visits k).node ≡ n = sym (get_or-map (λ (v : Visit). v.node) visits k no_visit n in') ∙ place.2 in
      let shown = visit-shown (visit_at visits k) (Contains-get_or visits k no_visit in') in
      subst (λ (m : Node). (m.depth ≤ 3) × (m.entry < length bag.cells)) at (shown.depth, shown.entry)

  -- what was worked out of a visited node
  pub info-done : (infos : List ChildInfo) (n : Node) (k : ℕ) (result : ChildInfo) → k < length visits → (visit_at visits k).node ≡ n → result ≡ get_or infos k no_info → (from : ℕ) → from ≤ spot n → AreGrafted H known bag visits from infos → result ≡ grafted_info H known (bag_tree bag n.entry) n.depth
  info-done infos n k result in' at is from above grafted =
      is
      ∙ grafted.done k in' (omega (arith, above, ap spot at))
      ∙ ap (λ (m : Node). grafted_info H known (bag_tree bag m.entry) m.depth) at

  -- a hidden visit is known: its graft shows what it shows up to its depth
  pub info-hidden : (v : Visit) → Contains visits v → is_hidden v.node.depth (face_of H (bag_tree bag v.node.entry)) ≡ true → grafted_info H known (bag_tree bag v.node.entry) v.node.depth ≡ upto v.node.depth (info_of H (bag_tree bag v.node.entry))
  info-hidden v in' e =
      let p = place_of bag v.node in
      let ready = visit-ready v in' in
      let t = p.tree in
      let d = p.depth in
      let here : foreign_at H known p ≡ None =
      (or_parts (foreign_at H known p) (first_of (foreign_at H known) (if is_hidden d (face_of H t) then [] else flat_map (λ c. places H c (kid_level (face_of H t) d)) (children t)))
      (sym (ap (first_of (foreign_at H known)) (places-step H t d)) ∙ ready.none)).0
      in
      hidden-info t d e
      ∙ ⊎_elim
      (λ there. ap (λ o. unwrap_or o (info_of H no_tree)) (known-here H known grafting.old p ready.depth true there))
      (λ none. absurd (cc (foreign-unknown H known grafting.old p ready.depth e none, here)))
      (true_or_false (list_any (same_info (upto d (info_of H t))) known))

  -- a child of a visit comes behind it
  pub child-behind : (v : Visit) (children : List ℕ) (depth place : ℕ) → Contains visits v → All (λ r. (v.node.entry < r) × (r < length bag.cells)) children → place < length children → spot v.node + 1 ≤ spot (node depth (get_or children place 0))
  child-behind v children depth place in' behind below = omega (arith, (behind place 0 below).0, (visit-shown v in').depth)

  -- and it was visited
  pub child-visited : (v : Visit) (children : List ℕ) (depth place : ℕ) → Contains visits v → is_hidden v.node.depth (face_at bag.cells v.node.entry) ≡ false → depth ≡ kid_level (face_at bag.cells v.node.entry) v.node.depth → children ≡ refs_at bag v.node.entry → place < length children → list_any (same_node (node depth (get_or children place 0))) (nodes_of visits) ≡ true
  child-visited v children depth place in' shown level are below =
      visited-next v (node depth (get_or children place 0)) in'
      (subst (λ ns. Contains ns (node depth (get_or children place 0)))
      (ap₂ (λ d xs. map (node d) xs) level are ∙ sym (next_nodes-shown bag v.node shown))
      (Contains-mapped (node depth) children (get_or children place 0) (Contains-get_or children place 0 below)))

  -- the face that is made of what was worked out of the children
  pub face-made : (t : Tree) (numbered : List ℕ) (d depth : ℕ) (exotic : Bool) (bits : List Bool) (kids : List ChildInfo) → children t ≡ map (bag_tree bag) numbered → depth ≡ kid_level (face_of H t) d → kids ≡ map (λ r. grafted_info H known (bag_tree bag r) depth) numbered → exotic ≡ (face_of H t).exotic → bits ≡ (face_of H t).bits → record { exotic = exotic; bits = bits; kids = kids } ≡ grafted_face H known t d
  face-made t numbered d depth exotic bits kids are level made flag same =
      let each : map (λ c. grafted_info H known c (kid_level (face_of H t) d)) (children t) ≡ kids =
      ap (map (λ c. grafted_info H known c (kid_level (face_of H t) d))) are
      ∙ map-map (λ c. grafted_info H known c (kid_level (face_of H t) d)) (bag_tree bag) numbered
      ∙ ap (λ l. map (λ r. grafted_info H known (bag_tree bag r) l) numbered) (sym level)
      ∙ sym made
      in
      joined flag same (sym each) ∙ sym (grafted_face-children H known t d)

  -- a face stays as it is exactly where its kids do
  pub face-kept : (t : Tree) (numbered : List ℕ) (d depth : ℕ) (face : FaceView) → face_of H t ≡ face → children t ≡ map (bag_tree bag) numbered → depth ≡ kid_level face d → map (λ r. grafted_info H known (bag_tree bag r) depth) numbered ≡ face.kids → grafted_face H known t d ≡ face
  face-kept t numbered d depth face is are level same = sym (face-made t numbered d depth face.exotic face.bits face.kids are (level ∙ ap (λ f. kid_level f d) (sym is)) (sym same) (ap (λ f. f.exotic) (sym is)) (ap (λ f. f.bits) (sym is)))

  pub kids-kept : (t : Tree) (numbered : List ℕ) (d depth : ℕ) (face : FaceView) → face_of H t ≡ face → children t ≡ map (bag_tree bag) numbered → depth ≡ kid_level face d → grafted_face H known t d ≡ face → map (λ r. grafted_info H known (bag_tree bag r) depth) numbered ≡ face.kids
  kids-kept t numbered d depth face is are level same =
      let kids = map (λ r. grafted_info H known (bag_tree bag r) depth) numbered in
      ap (λ (f : FaceView). f.kids) (face-made t numbered d depth face.exotic face.bits kids are (level ∙ ap (λ f. kid_level f d) (sym is)) refl (ap (λ f. f.exotic) (sym is)) (ap (λ f. f.bits) (sym is)) ∙ same)

  -- one visit more
  module _ (infos : List ChildInfo) (left : ℕ) (done : AreGrafted H known bag visits (left + 1) infos) where
    pub grafted-skip : get_or numbers left None ≡ None → AreGrafted H known bag visits left infos
    grafted-skip none = record {
      counted = done.counted;
      done =
          λ k in' above.
          done.done k in'
          (⊎_elim
          (λ same. absurd (cc (walked.numbered.there k in', ap (λ s. get_or numbers s None) same, none)))
          (λ other. omega (arith, other, above))
          (cases_eq (spot (visit_at visits k).node) left));
    }

    pub grafted-more : (number : ℕ) (info : ChildInfo) → get_or numbers left None ≡ Some number → info ≡ grafted_info H known (bag_tree bag (visit_at visits number).node.entry) (visit_at visits number).node.depth → AreGrafted H known bag visits left (set infos number info)
    grafted-more number info some is =
        let back = walked.numbered.back left number some in
        let in-infos : number < length infos = omega (arith, done.counted, back.0) in
        record {
          counted = length-set infos number info ∙ done.counted;
          done =
              λ k in' above.
              ⊎_elim
              (λ same. ap (λ j. get_or (set infos number info) j no_info) same ∙ get_or-set_same infos number info no_info in-infos ∙ is ∙ ap (λ j. grafted_info H known (bag_tree bag (visit_at visits j).node.entry) (visit_at visits j).node.depth) (sym same))
              (λ other.
              get_or-set_other infos number k info no_info other
              ∙ done.done k in'
              (⊎_elim
              (λ here. absurd (other (let one : k ≡ number = cc (walked.numbered.there k in', ap (λ s. get_or numbers s None) here, some) in one)))
              (λ apart. omega (arith, apart, above))
              (cases_eq (spot (visit_at visits k).node) left)))
              (cases_eq k number);
        }

  pub grafted-start : (infos : List ChildInfo) (from : ℕ) → length infos ≡ length visits → from ≡ length numbers → AreGrafted H known bag visits from infos
  grafted-start infos from counted e = record {
    counted = counted;
    done =
        λ k in' above.
        let shown = visit-shown (visit_at visits k) (Contains-get_or visits k no_visit in') in
        absurd (omega (arith, shown.entry, shown.depth, walked.wide, e, above));
  }

pub grafted-weaker : {H : List ℕ → Hash256} {known : List ChildInfo} {bag : BagView} {visits : List Visit} {infos : List ChildInfo} (from : ℕ) → AreGrafted H known bag visits 0 infos → AreGrafted H known bag visits from infos
grafted-weaker from all = record { counted = all.counted; done = λ k in' above. all.done k in' (omega arith) }
