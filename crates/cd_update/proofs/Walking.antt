-- The walk over the nodes of a bag, step by step.
use Rattle.std.proofs.Common.{◌≡◌, ℕ, ◌+◌, ◌<◌, ◌≤◌, List, [], ◌∷◌, ◌++◌, length, get_or, take, drop, map, reverse, flat_map, fold, All, Contains, Bool, true, false, true≢false, refl, ap, ap₂, sym, ◌∙◌, subst, append_assoc, get_or-take, arith}
use Rattle.std.specs.Prelude.{if◌then◌else◌, not}
use Rattle.std.specs.List.{list_any}
use Rattle.std.proofs.lemmas.List.{map-append, append-nil, reverse-append, reverse-reverse, get_or_append_left, length_push, drop_more}
use Rattle.std.proofs.lemmas.List.Elements.{All-nil, All-cons, All-push, All-contains, Contains-push}
use Rattle.cd_base.specs.declared.hash.Hash256.{Hash256}
use Rattle.cd_cell.specs.BagView.{BagView}
use Rattle.cd_cell.specs.Levels.{kid_level, info_of_face}
use Rattle.cd_cell.specs.Updates.{is_hidden}
use Rattle.cd_cell.specs.Bags.{face_at, ref_at, IsBag}
use Rattle.cd_update.specs.declared.visit.Node.{Node}
use Rattle.cd_update.specs.declared.visit.Visit.{Visit}
use Rattle.cd_update.specs.EachOnce.{with_new, each_once}
use Rattle.cd_update.specs.Nodes.{same_node, node, next_nodes, nodes_from, IsShown}
use Rattle.cd_update.specs.Visits.{nodes_of}
use Rattle.cd_cell.proofs.ListTests.{contains-any}
use Rattle.cd_update.proofs.Walks.{IsSettled, settled-start, settled-seen, settled-new, left-seen, left-new, fewer-seen, fewer-new}
use Rattle.cd_update.proofs.VisitLaws.{same_node-Decides}
use Rattle.cd_update.proofs.BagNodes.{next-rises}

-- what was visited, and what is pending, the last one first
pub record IsWalking (H : List ℕ → Hash256) (bag : BagView) (start : Node) (visits pending : List Visit) : Type 0 where
  pub left : fold (with_new same_node) (nodes_of visits) (flat_map (nodes_from bag) (reverse (nodes_of pending))) ≡ each_once same_node (nodes_from bag start)
  pub settled : IsSettled (λ (n : Node). n.entry) (length bag.cells) (next_nodes bag) (nodes_of visits) (reverse (nodes_of pending))
  pub visits_shown : All (IsShown H bag) visits
  pub pending_shown : All (IsShown H bag) pending

-- the places that are left
abbrev pub places_left : BagView → List Visit → ℕ
places_left bag pending = length (flat_map (nodes_from bag) (reverse (nodes_of pending)))

top-pending : (rest : List Visit) (v : Visit) (pending : List Visit) → pending ≡ rest ++ v ∷ [] → reverse (nodes_of pending) ≡ v.node ∷ reverse (nodes_of rest)
top-pending rest v pending e =
    ap (λ vs. reverse (nodes_of vs)) e
    ∙ ap reverse (map-append (λ (w : Visit). w.node) rest (v ∷ []))
    ∙ reverse-append (nodes_of rest) (v.node ∷ [])

module _ (H : List ℕ → Hash256) (bag : BagView) (is_bag : IsBag H bag.cells bag.refs bag.roots) where
  abbrev rank : Node → ℕ
  rank n = n.entry

  pub IsWalking-start : (v : Visit) → IsShown H bag v → IsWalking H bag v.node [] (v ∷ [])
  IsWalking-start v shown = record {
    left = ap (each_once same_node) (append-nil (nodes_from bag v.node));
    settled = settled-start rank (length bag.cells) (next_nodes bag) (next-rises H bag is_bag) v.node shown.entry;
    visits_shown = All-nil (IsShown H bag);
    pending_shown = All-cons (IsShown H bag) v [] shown (All-nil (IsShown H bag));
  }

  module _ (start : Node) (visits pending rest : List Visit) (v : Visit) (walking : IsWalking H bag start visits pending) (top : pending ≡ rest ++ v ∷ []) where
    stack : reverse (nodes_of pending) ≡ v.node ∷ reverse (nodes_of rest)
    stack = top-pending rest v pending top

    settled : IsSettled rank (length bag.cells) (next_nodes bag) (nodes_of visits) (v.node ∷ reverse (nodes_of rest))
    settled = subst (IsSettled rank (length bag.cells) (next_nodes bag) (nodes_of visits)) stack walking.settled

    left : fold (with_new same_node) (nodes_of visits) (flat_map (nodes_from bag) (v.node ∷ reverse (nodes_of rest))) ≡ each_once same_node (nodes_from bag start)
    left = ap (λ s. fold (with_new same_node) (nodes_of visits) (flat_map (nodes_from bag) s)) (sym stack) ∙ walking.left

    pub top-shown : IsShown H bag v
    top-shown = All-contains (IsShown H bag) pending v walking.pending_shown (subst (λ vs. Contains vs v) (sym top) (Contains-push rest v))

    rest_shown : All (IsShown H bag) rest
    rest_shown = λ k d in'. subst (IsShown H bag) (get_or_append_left rest (v ∷ []) d k in') (subst (All (IsShown H bag)) top walking.pending_shown k d (omega (arith, length_push rest v)))

    pub IsWalking-seen : list_any (same_node v.node) (nodes_of visits) ≡ true → IsWalking H bag start visits rest
    IsWalking-seen seen =
        let there = contains-any same_node same_node-Decides v.node (nodes_of visits) seen in
        let rises = next-rises H bag is_bag in
        record {
          left = sym (left-seen rank (length bag.cells) (next_nodes bag) rises same_node same_node-Decides (nodes_of visits) (reverse (nodes_of rest)) v.node settled there) ∙ left;
          settled = settled-seen rank (length bag.cells) (next_nodes bag) rises (nodes_of visits) (reverse (nodes_of rest)) v.node settled there;
          visits_shown = walking.visits_shown;
          pending_shown = rest_shown;
        }

    pub places_left-seen : places_left bag rest < places_left bag pending
    places_left-seen =
        omega (arith, fewer-seen rank (length bag.cells) (next_nodes bag) (next-rises H bag is_bag) (reverse (nodes_of rest)) v.node top-shown.entry, ap (λ s. length (flat_map (nodes_from bag) s)) stack)

    module _ (now : List Visit) (pushed : nodes_of now ≡ nodes_of rest ++ reverse (next_nodes bag v.node)) where
      pushed_stack : reverse (nodes_of now) ≡ next_nodes bag v.node ++ reverse (nodes_of rest)
      pushed_stack = ap reverse pushed ∙ reverse-append (nodes_of rest) (reverse (next_nodes bag v.node)) ∙ ap (λ ns. ns ++ reverse (nodes_of rest)) (reverse-reverse (next_nodes bag v.node))

      pub IsWalking-new : list_any (same_node v.node) (nodes_of visits) ≡ false → (All (IsShown H bag) rest → All (IsShown H bag) now) → IsWalking H bag start (visits ++ v ∷ []) now
      IsWalking-new new shown =
          let rises = next-rises H bag is_bag in
          let nodes = sym (map-append (λ (w : Visit). w.node) visits (v ∷ [])) in
          record {
            left =
                ap₂ (λ there s. fold (with_new same_node) there (flat_map (nodes_from bag) s)) (sym nodes) pushed_stack
                ∙ sym (left-new rank (length bag.cells) (next_nodes bag) rises same_node same_node-Decides (nodes_of visits) (reverse (nodes_of rest)) v.node top-shown.entry new)
                ∙ left;
            settled =
                subst (λ s. IsSettled rank (length bag.cells) (next_nodes bag) (nodes_of (visits ++ v ∷ [])) s) (sym pushed_stack)
                (subst (λ there. IsSettled rank (length bag.cells) (next_nodes bag) there (next_nodes bag v.node ++ reverse (nodes_of rest))) nodes
                (settled-new rank (length bag.cells) (next_nodes bag) rises (nodes_of visits) (reverse (nodes_of rest)) v.node settled));
            visits_shown = All-push (IsShown H bag) visits v walking.visits_shown top-shown;
            pending_shown = shown rest_shown;
          }

      pub places_left-new : places_left bag now < places_left bag pending
      places_left-new =
          omega (arith, fewer-new rank (length bag.cells) (next_nodes bag) (next-rises H bag is_bag) (reverse (nodes_of rest)) v.node top-shown.entry, ap (λ s. length (flat_map (nodes_from bag) s)) stack, ap (λ s. length (flat_map (nodes_from bag) s)) pushed_stack)

-- ---- the children of an entry, put behind what is pending

pub pushed-more : (initial before : List Visit) (v : Visit) (children : List ℕ) (depth left next : ℕ) → left < length children → next ≡ left + 1 → v.node ≡ node depth (get_or children left 0) → nodes_of before ≡ nodes_of initial ++ reverse (map (node depth) (drop next children)) → nodes_of (before ++ v ∷ []) ≡ nodes_of initial ++ reverse (map (node depth) (drop left children))
pushed-more initial before v children depth left next in' step here there =
    let later = reverse (map (node depth) (drop next children)) in
    let whole : reverse (map (node depth) (drop left children)) ≡ later ++ v.node ∷ [] =
    ap (λ xs. reverse (map (node depth) xs)) (drop_more children left 0 in')
    ∙ reverse-append (node depth (get_or children left 0) ∷ []) (map (node depth) (drop (left + 1) children))
    ∙ ap₂ (λ n m. reverse (map (node depth) (drop n children)) ++ m ∷ []) (sym step) (sym here)
    in
    map-append (λ (w : Visit). w.node) before (v ∷ [])
    ∙ ap (λ ns. ns ++ v.node ∷ []) there
    ∙ append_assoc (nodes_of initial) later (v.node ∷ [])
    ∙ ap (λ ns. nodes_of initial ++ ns) (sym whole)

pub next_nodes-shown : (bag : BagView) (n : Node) → is_hidden n.depth (face_at bag.cells n.entry) ≡ false → next_nodes bag n ≡ map (node (kid_level (face_at bag.cells n.entry) n.depth)) (take (length (face_at bag.cells n.entry).kids) (get_or bag.refs n.entry []))
next_nodes-shown bag n e = ap (λ b. if b then [] else map (node (kid_level (face_at bag.cells n.entry) n.depth)) (take (length (face_at bag.cells n.entry).kids) (get_or bag.refs n.entry []))) e

pub IsShown-child : (H : List ℕ → Hash256) (bag : BagView) (is_bag : IsBag H bag.cells bag.refs bag.roots) (k p depth child : ℕ) → k < length bag.cells → p < length (face_at bag.cells k).kids → depth ≤ 3 → child ≡ get_or (take (length (face_at bag.cells k).kids) (get_or bag.refs k [])) p 0 → IsShown H bag (record { node = node depth child; parent = k; place = p })
IsShown-child H bag is_bag k p depth child in' in-kids low e =
    let number : child ≡ ref_at bag.refs k p = e ∙ get_or-take (length (face_at bag.cells k).kids) (get_or bag.refs k []) p 0 in-kids in
    record {
      entry = omega (arith, number, is_bag.there k p in' in-kids);
      depth = low;
      parent = in';
      place = in-kids;
      shown = is_bag.shown k p in' in-kids ∙ ap (λ r. info_of_face H (face_at bag.cells r)) (sym number);
    }

pub not-true : (b : Bool) → not b ≡ true → b ≡ false
not-true true e = absurd (true≢false (sym e))
not-true false e = refl

pub not-false : (b : Bool) → not b ≡ false → b ≡ true
not-false true e = refl
not-false false e = absurd (true≢false e)
