-- Nodes of a bag: their children stand behind them, and their preorder is that of the places of their cells.
use Rattle.std.proofs.Common.{◌≡◌, ℕ, zero, suc, ◌+◌, ◌<◌, ◌≤◌, List, [], ◌∷◌, ◌++◌, length, get_or, take, map, flat_map, Contains, Bool, true, false, Option, refl, ap, sym, ◌∙◌, arith, length-take-le, get_or-take, drop}
use Rattle.std.specs.Prelude.{if◌then◌else◌}
use Rattle.std.specs.Bool.{Decides}
use Rattle.std.specs.Option.{option_or}
use Rattle.std.proofs.lemmas.List.{map-append, get_or_default}
use Rattle.cd_base.specs.declared.hash.Hash256.{Hash256}
use Rattle.cd_cell.specs.BagView.{BagView}
use Rattle.cd_cell.specs.Levels.{kid_level}
use Rattle.cd_cell.specs.Tree.{Tree, cell, Trees, no_trees, tree_and, list_of, children, face_of}
use Rattle.cd_cell.specs.Updates.{is_hidden}
use Rattle.cd_cell.specs.Bags.{bag_tree, face_at, ref_at, IsBag}
use Rattle.cd_cell.proofs.Subtrees.{Contains-nil, Contains-map}
use Rattle.cd_cell.proofs.BagLaws.{face_of-bag, children-bag, enough-bag}
use Rattle.cd_update.specs.declared.visit.Node.{Node}
use Rattle.cd_update.specs.declared.visit.Visit.{Visit}
use Rattle.cd_update.specs.EachOnce.{each_once, first_of, walk_within}
use Rattle.cd_cell.specs.Places.{Place, places, places_of_all}
use Rattle.cd_update.specs.Nodes.{same_node, node, next_nodes, nodes_from}
use Rattle.cd_update.specs.Visits.{nodes_of, place_of, visited}
use Rattle.cd_update.proofs.EachOnceLaws.{flat_map-same, each_once-flat_map, first_of-each_once, each_once-front}
use Rattle.cd_update.proofs.VisitLaws.{same_node-Decides}
use Rattle.cd_update.proofs.Walks.{whole-step, below-behind}

pub flat_map-map : {A B C : Type 0} (f : B → List C) (g : A → B) (xs : List A) → flat_map f (map g xs) ≡ flat_map (λ x. f (g x)) xs
flat_map-map f g [] = refl
flat_map-map f g (x ∷ xs) = ap (λ zs. f (g x) ++ zs) (flat_map-map f g xs)

map-flat_map : {A B C : Type 0} (g : B → C) (f : A → List B) (xs : List A) → map g (flat_map f xs) ≡ flat_map (λ x. map g (f x)) xs
map-flat_map g f [] = refl
map-flat_map g f (x ∷ xs) = map-append g (f x) (flat_map f xs) ∙ ap (λ zs. map g (f x) ++ zs) (map-flat_map g f xs)

first_of-map : {A B C : Type 0} (ask : B → Option C) (g : A → B) (xs : List A) → first_of ask (map g xs) ≡ first_of (λ x. ask (g x)) xs
first_of-map ask g [] = refl
first_of-map ask g (x ∷ xs) = ap (option_or (ask (g x))) (first_of-map ask g xs)

some-of : (vs : List Visit) (m : Node) (ms : List Node) → nodes_of vs ≡ m ∷ ms → 0 < length vs
some-of [] m ms e = absurd (cc e)
some-of (v ∷ vs) m ms e = omega arith

nodes-behind : (vs : List Visit) (m : Node) (ms : List Node) → nodes_of vs ≡ m ∷ ms → nodes_of (drop 1 vs) ≡ ms
nodes-behind [] m ms e = absurd (cc e)
nodes-behind (v ∷ vs) m ms e = cc e

module _ (H : List ℕ → Hash256) where
  pub places_of_all-children : (ts : Trees) (d : ℕ) → places_of_all H ts d ≡ flat_map (λ c. places H c d) (list_of ts)
  places_of_all-children no_trees d = refl
  places_of_all-children (tree_and t ts) d = ap (λ ps. places H t d ++ ps) (places_of_all-children ts d)

  pub places-step : (t : Tree) (d : ℕ) → places H t d ≡ record { tree = t; depth = d } ∷ (if is_hidden d (face_of H t) then [] else flat_map (λ c. places H c (kid_level (face_of H t) d)) (children t))
  places-step (cell exotic bits ts) d =
      let f = face_of H (cell exotic bits ts) in
      ap (λ ps. record { tree = cell exotic bits ts; depth = d } ∷ (if is_hidden d f then [] else ps)) (places_of_all-children ts (kid_level f d))

module _ (H : List ℕ → Hash256) (bag : BagView) (is_bag : IsBag H bag.cells bag.refs bag.roots) where
  abbrev numbers : ℕ → List ℕ
  numbers k = take (length (face_at bag.cells k).kids) (get_or bag.refs k [])

  numbers-rise : (k d : ℕ) (b : Node) → k < length bag.cells → Contains (map (node d) (numbers k)) b → (k < b.entry) × (b.entry < length bag.cells)
  numbers-rise k d b in' h =
      let face = face_at bag.cells k in
      let named = Contains-map (node d) (numbers k) b h in
      let r = named.0 in
      let p = named.1.0 in
      let long = length-take-le (length face.kids) (get_or bag.refs k []) (enough-bag H bag.cells bag.refs bag.roots is_bag k in') in
      let in-kids : p < length face.kids = omega (arith, named.1.1, long) in
      let number : r ≡ ref_at bag.refs k p = sym named.1.2 ∙ get_or_default (numbers k) p r 0 named.1.1 ∙ get_or-take (length face.kids) (get_or bag.refs k []) p 0 in-kids in
      let same : b.entry ≡ r = ap (λ (n : Node). n.entry) (sym named.2) in
      (omega (arith, number, same, is_bag.later k p in' in-kids), omega (arith, number, same, is_bag.there k p in' in-kids))

  in_if : (hidden : Bool) (xs : List Node) (b : Node) → Contains (if hidden then [] else xs) b → Contains xs b
  in_if true xs b h = absurd (Contains-nil b h)
  in_if false xs b h = h

  pub next-rises : (a b : Node) → a.entry < length bag.cells → Contains (next_nodes bag a) b → (a.entry < b.entry) × (b.entry < length bag.cells)
  next-rises a b in' h =
      let face = face_at bag.cells a.entry in
      numbers-rise a.entry (kid_level face a.depth) b in' (in_if (is_hidden a.depth face) (map (node (kid_level face a.depth)) (numbers a.entry)) b h)

  below_if : (down : Node → List Node) (hidden : Bool) (ps : List Place) (ms : List Node) → ps ≡ flat_map (λ m. map (place_of bag) (down m)) ms → (if hidden then [] else ps) ≡ map (place_of bag) (flat_map down (if hidden then [] else ms))
  below_if down true ps ms e = refl
  below_if down false ps ms e = e ∙ sym (map-flat_map (place_of bag) down ms)

  -- the places of an entry's cell
  places-within : (steps : ℕ) (n : Node) → n.entry < length bag.cells → length bag.cells ≤ steps + n.entry → places H (bag_tree bag n.entry) n.depth ≡ map (place_of bag) (walk_within (next_nodes bag) steps n)
  unfolding walk_within
  places-within zero n in' fuel = absurd (omega arith)
  places-within (suc steps) n in' fuel =
      let t = bag_tree bag n.entry in
      let face = face_at bag.cells n.entry in
      let d = kid_level face n.depth in
      let down : Node → List Node = walk_within (next_nodes bag) steps in
      let each : flat_map (λ c. places H c d) (children t) ≡ flat_map (λ m. map (place_of bag) (down m)) (map (node d) (numbers n.entry)) =
      ap (flat_map (λ c. places H c d)) (children-bag H bag.cells bag.refs bag.roots is_bag n.entry in')
      ∙ flat_map-map (λ c. places H c d) (bag_tree bag) (numbers n.entry)
      ∙ sym (flat_map-map (λ m. places H (bag_tree bag m.entry) m.depth) (node d) (numbers n.entry))
      ∙ flat_map-same (λ m. places H (bag_tree bag m.entry) m.depth) (λ m. map (place_of bag) (down m)) (map (node d) (numbers n.entry))
      (λ m h. let up = numbers-rise n.entry d m in' h in places-within steps m up.1 (omega (arith, up.0)))
      in
      places-step H t n.depth
      ∙ ap (λ f. record { tree = t; depth = n.depth } ∷ (if is_hidden n.depth f then [] else flat_map (λ c. places H c (kid_level f n.depth)) (children t))) (face_of-bag H bag.cells bag.refs bag.roots is_bag n.entry)
      ∙ ap (λ ps. place_of bag n ∷ ps) (below_if down (is_hidden n.depth face) (flat_map (λ c. places H c d) (children t)) (map (node d) (numbers n.entry)) each)

  pub places-nodes : (n : Node) → n.entry < length bag.cells → places H (bag_tree bag n.entry) n.depth ≡ map (place_of bag) (nodes_from bag n)
  places-nodes n in' = places-within (length bag.cells) n in' (omega arith)

  module _ (visits : List Visit) (n : Node) (in' : n.entry < length bag.cells) (all : nodes_of visits ≡ each_once same_node (nodes_from bag n)) where
    -- what is made of each visit, is made of each place
    pub each_once-visited : {B : Type 0} (like : B → B → Bool) (tell : (a b : B) → Decides (like a b) (a ≡ b)) (f : Place → List B) → each_once like (flat_map f (visited bag visits)) ≡ each_once like (flat_map f (places H (bag_tree bag n.entry) n.depth))
    each_once-visited like tell f =
        let at = place_of bag in
        ap (each_once like) (flat_map-map f at (nodes_of visits) ∙ ap (flat_map (λ m. f (at m))) all)
        ∙ each_once-flat_map same_node same_node-Decides like tell (λ m. f (at m)) (nodes_from bag n)
        ∙ ap (each_once like) (sym (flat_map-map f at (nodes_from bag n)) ∙ ap (flat_map f) (sym (places-nodes n in')))

    pub first_of-visited : {B : Type 0} (ask : Place → Option B) → first_of ask (visited bag visits) ≡ first_of ask (places H (bag_tree bag n.entry) n.depth)
    first_of-visited ask =
        let at = place_of bag in
        first_of-map ask at (nodes_of visits)
        ∙ ap (first_of (λ m. ask (at m))) all
        ∙ first_of-each_once same_node same_node-Decides (λ m. ask (at m)) (nodes_from bag n)
        ∙ sym (first_of-map ask at (nodes_from bag n))
        ∙ ap (first_of ask) (sym (places-nodes n in'))

    -- ---- the places below the first one

    abbrev below : List Node
    below = flat_map (nodes_from bag) (next_nodes bag n)

    whole-nodes : nodes_from bag n ≡ n ∷ below
    whole-nodes = whole-step (λ (m : Node). m.entry) (length bag.cells) (next_nodes bag) next-rises n in'

    front-nodes : nodes_of visits ≡ n ∷ each_once same_node below
    front-nodes =
        all ∙ ap (each_once same_node) whole-nodes
        ∙ each_once-front same_node same_node-Decides n below
        (λ m h same.
        let behind = below-behind (λ (k : Node). k.entry) (length bag.cells) (next_nodes bag) next-rises n m in' h in
        let entry : m.entry ≡ n.entry = ap (λ (k : Node). k.entry) same in
        absurd (omega (arith, behind, entry)))

    pub some-visits : 0 < length visits
    some-visits = some-of visits n (each_once same_node below) front-nodes

    pub each_once-below : {B : Type 0} (like : B → B → Bool) (tell : (a b : B) → Decides (like a b) (a ≡ b)) (f : Place → List B) → each_once like (flat_map f (visited bag (drop 1 visits))) ≡ each_once like (flat_map f (drop 1 (places H (bag_tree bag n.entry) n.depth)))
    each_once-below like tell f =
        let at = place_of bag in
        ap (each_once like) (flat_map-map f at (nodes_of (drop 1 visits)) ∙ ap (flat_map (λ m. f (at m))) (nodes-behind visits n (each_once same_node below) front-nodes))
        ∙ each_once-flat_map same_node same_node-Decides like tell (λ m. f (at m)) below
        ∙ ap (each_once like) (sym (flat_map-map f at below))
        ∙ ap (λ ps. each_once like (flat_map f (drop 1 ps))) (sym (places-nodes n in' ∙ ap (map at) whole-nodes))

    pub first_of-below : {B : Type 0} (ask : Place → Option B) → first_of ask (visited bag (drop 1 visits)) ≡ first_of ask (drop 1 (places H (bag_tree bag n.entry) n.depth))
    first_of-below ask =
        let at = place_of bag in
        first_of-map ask at (nodes_of (drop 1 visits))
        ∙ ap (first_of (λ m. ask (at m))) (nodes-behind visits n (each_once same_node below) front-nodes)
        ∙ first_of-each_once same_node same_node-Decides (λ m. ask (at m)) below
        ∙ sym (first_of-map ask at below)
        ∙ ap (λ ps. first_of ask (drop 1 ps)) (sym (places-nodes n in' ∙ ap (map at) whole-nodes))
