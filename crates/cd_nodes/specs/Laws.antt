-- Trusted: how what roots hold changes as roots come and go, and what a plan's batch does.
use Rattle.std.specs.Prelude.{◌≡◌, ℕ, ◌+◌, ◌<◌, ◌≤◌, ◌⊎◌, Bool, cond, not, is_some, is_none, IsSome, Contains, List, [], ◌∷◌, ◌++◌, map, filter, length, get_or, Option, Some, None}
use Rattle.std.specs.Option.{option_or, option_map}
use Rattle.std.specs.List.{IsDistinct}
use Rattle.std.specs.FinMap as finite
use Rattle.cd_nodes.specs.Graphs.{Graph, occurrences, references, find, reached, held_at, count, AreClashFree, AreTogether, AreNew, AreDead, records}
use Rattle.cd_nodes.specs.Plans.{Row, change_at, after_batch, HasNoKeyTwice, IsPlan, AreRows}
use Rattle.cd_nodes.specs.Worklists.{Left, take_all, IsUnderWay}

module _ {N K : Type 0} (G : Graph N K) where
  -- one root comes, at any place among the others
  abbrev pub ARootComes : Type 0
  ARootComes = (lower higher : List N) (root : N)
      → AreTogether G (lower ++ higher) (root ∷ []) (lower ++ root ∷ higher)

  -- some roots stay, and the others go
  abbrev pub SomeRootsGo : {B : Type 0} → (B → N) → Type 0
  SomeRootsGo {B} root = (stays : B → Bool) (bs : List B)
      → AreTogether G (map root (filter stays bs)) (map root (filter (λ b. not (stays b)) bs)) (map root bs)

  -- where each node that further roots reach is listed or held already, the new ones are the listed that aren't held
  abbrev pub NewAreListed : Type 0
  NewAreListed = (few more many listed : List N) → AreTogether G few more many
      → IsDistinct G.same (map G.key listed)
      → ((c : N) → Contains listed c → Contains (reached G more) c)
      → ((c : N) → Contains (reached G more) c → Contains listed c ⊎ IsSome (held_at G few (G.key c)))
      → AreNew G few many (filter (λ c. is_none (held_at G few (G.key c))) listed)

  -- as roots come, the new nodes are held besides, and counts grow by the references that come with them
  abbrev pub CountsGrow : Type 0
  CountsGrow = (few more many news : List N) → AreTogether G few more many → AreClashFree G many
      → AreNew G few many news → (h : K)
      → (held_at G many h ≡ option_or (find G h news) (held_at G few h))
      × (count G many h ≡ count G few h + occurrences G more h + references G news h)

  -- as roots go, the dead nodes are held no more, and counts fall by the references that go with them
  abbrev pub CountsFall : Type 0
  CountsFall = (few gone many dead : List N) → AreTogether G few gone many → AreClashFree G many
      → AreDead G many gone dead → (h : K)
      → (held_at G few h ≡ cond (is_some (find G h dead)) None (held_at G many h))
      × (count G few h + (occurrences G gone h + references G dead h) ≡ count G many h)

  -- ---- a worklist over the counts of many roots, of which gone go and few stay

  -- the references of the roots are taken away first
  abbrev pub WorkBegins : Type 0
  WorkBegins = (few gone many : List N) → AreTogether G few gone many → AreClashFree G many
      → (counts : K → ℕ) → ((h : K) → counts h ≡ count G many h)
      → IsUnderWay G many gone (take_all G.same (record { counts = counts; dead = [] }) (map G.key gone)) 0

  -- then those of the next dead node
  abbrev pub WorkGoesOn : Type 0
  WorkGoesOn = (few gone many : List N) → AreTogether G few gone many → AreClashFree G many
      → (s : Left K) (next : ℕ) (so : IsUnderWay G many gone s next) (d : N)
      → next < length so.nodes → get_or so.nodes next d ≡ d
      → IsUnderWay G many gone (take_all G.same s (map G.key (G.children d))) (next + 1)

  -- and in the end the dead are collected
  abbrev pub WorkEnds : Type 0
  WorkEnds = (few gone many : List N) → AreTogether G few gone many → AreClashFree G many
      → (s : Left K) (next : ℕ) (so : IsUnderWay G many gone s next) → length so.nodes ≤ next
      → AreDead G many gone so.nodes

  -- and before it no more than those
  abbrev pub WorkStaysWithin : Type 0
  WorkStaysWithin = (few gone many : List N) → AreTogether G few gone many → AreClashFree G many
      → (s : Left K) (next : ℕ) (so : IsUnderWay G many gone s next) (dead : List N) → AreDead G many gone dead
      → length so.nodes ≤ length dead

  module _ {F X : Type 0} (face : N → F) (text : ℕ → F → X) where
    -- a key has a record exactly where it is held, of its count and face
    abbrev pub RecordsAreCounted : Type 0
    RecordsAreCounted = (roots : List N) (h : K)
        → finite.get (records G face text roots) h
        ≡ option_map (λ c. text (count G roots h) (face c)) (held_at G roots h)

    -- where rows count what comes and what goes, their batch leads from the old records to those that are left
    abbrev pub PlansLead : Type 0
    PlansLead = (old more grown gone left news dead : List N) (rows : List (K × Row F))
        → AreTogether G old more grown → AreTogether G left gone grown → AreClashFree G grown
        → AreNew G old grown news → AreDead G grown gone dead
        → AreRows G face old more grown gone news dead (λ h. finite.find G.order h rows)
        → HasNoKeyTwice G.order rows
        → after_batch text (records G face text old) rows ≡ records G face text left

    -- where texts tell their counts, up to a greatest one, a plan changes nothing that stays
    abbrev pub PlansAreExact : Type 0
    PlansAreExact = (most : ℕ) → ((a b : ℕ) (f g : F) → a ≤ most → b ≤ most → text a f ≡ text b g → a ≡ b)
        → (old new : List N) (plan : K → Option (Row F)) → AreClashFree G old → AreClashFree G new
        → ((h : K) → count G old h ≤ most) → ((h : K) → count G new h ≤ most)
        → IsPlan G face old new plan → (h : K) (value : Option X)
        → change_at text (plan h) ≡ Some value → value ≡ finite.get (records G face text old) h → ⊥
