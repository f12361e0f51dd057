-- Trusted: references that are taken away one by one, and the keys that lose their last.
use Rattle.std.specs.Prelude.{◌≡◌, ℕ, ◌+◌, ◌-◌, Bool, false, cond, nat_eq, fold, List, [], ◌∷◌, ◌++◌, map, take, Contains}
use Rattle.std.specs.List.{IsDistinct}
use Rattle.cd_nodes.specs.Graphs.{Graph, occurrences, references, reached, count, AreDead}

-- what is left of the references to each key, and the keys that have none left, those first that came first
pub record Left (K : Type 0) : Type 0 where
  pub counts : K → ℕ
  pub dead : List K

module _ {K : Type 0} (same : K → K → Bool) where
  abbrev pub take_one : Left K → K → Left K
  take_one s k = record {
    counts = λ h. cond (same k h) (s.counts h - 1) (s.counts h);
    dead = cond (nat_eq (s.counts k) 1) (s.dead ++ k ∷ []) s.dead;
  }

  abbrev pub take_all : Left K → List K → Left K
  take_all s ks = fold take_one s ks

module _ {N K : Type 0} (G : Graph N K) where
  -- dead has, once for each key, exactly the nodes that the roots reach and that have no reference left
  pub record AreEmptied (roots : List N) (counts : K → ℕ) (dead : List N) : Type 0 where
    pub distinct : IsDistinct G.same (map G.key dead)
    pub held_now : (d : N) → Contains dead d → Contains (reached G roots) d
    pub unnamed : (d : N) → Contains dead d → counts (G.key d) ≡ 0
    pub every : (c : N) → Contains (reached G roots) c → counts (G.key c) ≡ 0 → Contains dead c

  -- one reference to a key goes
  pub record IsOneLess (k : K) (before after : K → ℕ) : Type 0 where
    pub here : after k + 1 ≡ before k
    pub elsewhere : (h : K) → G.same k h ≡ false → after h ≡ before h

  -- of the roots some go: their references are taken away, and those of the first dead nodes
  pub record IsUnderWay (roots gone : List N) (s : Left K) (next : ℕ) : Type 0 where
    pub nodes : List N
    pub named : map G.key nodes ≡ s.dead
    pub emptied : AreEmptied roots s.counts nodes
    pub sums : (h : K) → s.counts h + (occurrences G gone h + references G (take next nodes) h) ≡ count G roots h
    -- each of them is dead in the end
    pub within : (all : List N) → AreDead G roots gone all → (d : N) → Contains nodes d → Contains all d
