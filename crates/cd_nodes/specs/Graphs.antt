-- Trusted: nodes with keys and children, the nodes that roots reach, and how often each key is referred to.
use Rattle.std.specs.Prelude.{◌≡◌, ℕ, ◌+◌, ◌<◌, ◌⊎◌, Bool, List, map, flat_map, sum_by, count_by, Contains, Option, None}
use Rattle.std.specs.Bool.{Decides}
use Rattle.std.specs.List.{IsDistinct}
use Rattle.std.specs.Cmp.{IsTotalOrder}
use Rattle.std.specs.declared.cmp.Ordering.{Ordering}
use Rattle.std.specs.FinMap as finite

-- what nodes are: the key of each, its children, and what is reached from it, itself among them; and how keys are
-- told apart, by an order and by a test
pub record Graph (N K : Type 0) : Type 0 where
  pub order : K → K → Ordering
  pub same : K → K → Bool
  pub key : N → K
  pub children : N → List N
  pub reach : N → List N

-- the order and the test tell keys apart, what is reached is what is reached by children, and some size falls from a
-- node to its children
pub record IsGraph {N K : Type 0} (G : Graph N K) : Type 0 where
  pub total : IsTotalOrder G.order
  pub tells : finite.IsAntisymmetric G.order
  pub decides : (x y : K) → Decides (G.same x y) (x ≡ y)
  pub itself : (t : N) → Contains (G.reach t) t
  pub below : (t s k : N) → Contains (G.reach t) s → Contains (G.children s) k → Contains (G.reach t) k
  pub above : (t s : N) → Contains (G.reach t) s
      → (t ≡ s) ⊎ ((p : N) × Contains (G.reach t) p × Contains (G.children p) s)
  pub size : N → ℕ
  pub falls : (s k : N) → Contains (G.children s) k → size k < size s

module _ {N K : Type 0} (G : Graph N K) where
  -- how many of the nodes have the key
  abbrev pub occurrences : List N → K → ℕ
  occurrences ns h = count_by (λ n. G.same (G.key n) h) ns

  -- in how many child places of the nodes a child with the key stands
  abbrev pub references : List N → K → ℕ
  references ns h = sum_by (λ n. occurrences (G.children n) h) ns

  -- each node under its key
  abbrev pub keyed : List N → List (K × N)
  keyed ns = map {B = K × N} (λ n. (G.key n, n)) ns

  -- the node of a list with the key, the first where there are several
  abbrev pub find : K → List N → Option N
  find h ns = finite.find G.order h (keyed ns)

  -- all that the roots reach, as often as it is reached
  abbrev pub reached : List N → List N
  reached roots = flat_map G.reach roots

  -- one node for each key among all that the roots reach
  abbrev pub held : List N → finite.FinMap G.order N
  held roots = finite.from_entries (keyed (reached roots))

  -- the held node with the key
  abbrev pub held_at : List N → K → Option N
  held_at roots h = finite.get (held roots) h

  -- the references to a key: one for each root that has it, and one for each child place of a held node
  abbrev pub count : List N → K → ℕ
  count roots h = occurrences roots h + references (finite.values (held roots)) h

  -- nodes that the roots reach and that have one key are one node
  abbrev pub AreClashFree : List N → Type 0
  AreClashFree roots = (s t : N) → Contains (reached roots) s → Contains (reached roots) t
      → G.key s ≡ G.key t → s ≡ t

  -- many has the roots of few and those of more, in any order
  pub record AreTogether (few more many : List N) : Type 0 where
    pub has : (t : N) → Contains many t → Contains few t ⊎ Contains more t
    pub first : (t : N) → Contains few t → Contains many t
    pub second : (t : N) → Contains more t → Contains many t
    pub sums : (h : K) → occurrences many h ≡ occurrences few h + occurrences more h

  -- news has each node that many hold and few don't, once for each key
  pub record AreNew (few many news : List N) : Type 0 where
    pub distinct : IsDistinct G.same (map G.key news)
    pub held_now : (c : N) → Contains news c → Contains (reached many) c
    pub held_not : (c : N) → Contains news c → held_at few (G.key c) ≡ None
    pub every : (c : N) → Contains (reached many) c → held_at few (G.key c) ≡ None → Contains news c

  -- all references to the key in many come from the roots of gone and the child places of dead
  abbrev pub LosesAll : List N → List N → List N → K → Type 0
  LosesAll many gone dead h = count many h ≡ occurrences gone h + references dead h

  -- dead has, once for each key, exactly the nodes of many that lose all their references as gone and dead go
  pub record AreDead (many gone dead : List N) : Type 0 where
    pub distinct : IsDistinct G.same (map G.key dead)
    pub held_now : (d : N) → Contains dead d → Contains (reached many) d
    pub unnamed : (d : N) → Contains dead d → LosesAll many gone dead (G.key d)
    pub every : (c : N) → Contains (reached many) c → LosesAll many gone dead (G.key c) → Contains dead c

  module _ {F X : Type 0} (face : N → F) (text : ℕ → F → X) where
    -- the record of a held node: the text of its count and face, under its key
    abbrev pub record_entry : List N → K × N → K × X
    record_entry roots e = (e.0, text (count roots e.0) (face e.1))

    abbrev pub records : List N → finite.FinMap G.order X
    records roots = finite.from_entries (map (record_entry roots) (finite.entries (held roots)))
