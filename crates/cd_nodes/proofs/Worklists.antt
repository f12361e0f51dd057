-- A worklist collects exactly what is held no more.
use Rattle.std.proofs.Common.{◌≡◌, inl, inr, ℕ, ◌+◌, ◌-◌, ◌<◌, ◌≤◌, List, [], ◌∷◌, ◌++◌, map, take, get_or, length, append_assoc, append-nil, true, false, cond, ◌||◌, nat_eq, eqb-true, Contains, refl, sym, ap, ◌∙◌, subst, arith}
use Rattle.std.specs.List.{IsDistinct, list_any}
use Rattle.std.specs.Cmp.{IsEquivalence, eq_by_cmp_equiv}
use Rattle.std.proofs.lemmas.List.{map_push}
use Rattle.std.proofs.lemmas.List.Elements.{Contains-get_or, Contains-push, Contains-push_cases, Contains-append_left}
use Rattle.std.proofs.lemmas.List.Sums.{sum_by-cons, sum_by_more, sum_by-take-le}
use Rattle.std.proofs.lemmas.Map.Keys.{IsDistinct-push}
use Rattle.cd_cell.proofs.ListTests.{true_or_false}
use Rattle.cd_cell.proofs.Subtrees.{Contains-first, Contains-later, Contains-nil}
use Rattle.cd_nodes.specs.Graphs.{Graph, IsGraph, occurrences, references, reached, count, AreClashFree, AreTogether, AreDead}
use Rattle.cd_nodes.specs.Worklists.{Left, take_one, take_all, AreEmptied, IsOneLess, IsUnderWay}
use Rattle.cd_nodes.proofs.Lists.{take_all_of, take-prefix, Contains-taken, taken-within}
use Rattle.cd_nodes.proofs.Held.{same_by_order}
use Rattle.cd_nodes.proofs.Counts.{reached-child, reached-root, references-within}
use Rattle.cd_nodes.proofs.Records.{count-held}

one_is : (n : ℕ) → nat_eq n 1 ≡ true → n ≡ 1
one_is n e = eqb-true n 1 e

more_is : (n : ℕ) → nat_eq n 1 ≡ false → 1 ≤ n → 2 ≤ n
more_is n e l = grind arith

module _ {N K : Type 0} (G : Graph N K) (laws : IsGraph G) where
  same_equiv : IsEquivalence G.same
  same_equiv = record {
    refl = λ x. (laws.decides x x).1 refl;
    symm = λ x y. same_by_order G laws x y ∙ (eq_by_cmp_equiv laws.total).symm x y ∙ sym (same_by_order G laws y x);
    congr = λ x y z e. ap (λ k. G.same k z) ((laws.decides x y).0 e);
  }

  -- a key that no node of a list has
  no_key : (ns : List N) (k : K) → ((n : N) → Contains ns n → G.key n ≡ k → ⊥) → list_any (G.same k) (map G.key ns) ≡ false
  no_key [] k h = refl
  no_key (n ∷ ns) k h = elim (true_or_false (G.same k (G.key n))) [
    | inl e ↦ absurd (h n (Contains-first n ns) (sym ((laws.decides k (G.key n)).0 e)))
    | inr e ↦ ap (λ b. b || list_any (G.same k) (map G.key ns)) e ∙ no_key ns k (λ x g. h x (Contains-later n ns x g))
  ]

  module _ (roots : List N) (clear : AreClashFree G roots) where
    -- at first each held node has a reference
    emptied_none : AreEmptied G roots (count G roots) []
    unfolding IsDistinct
    emptied_none = record {
      distinct = tt;
      held_now = λ d h. absurd (Contains-nil d h);
      unnamed = λ d h. absurd (Contains-nil d h);
      every = λ c h e. let a = count-held G laws roots clear c h in absurd (omega arith);
    }

    module _ (before after : K → ℕ) (dead : List N) (so : AreEmptied G roots before dead) (k : N) (here : Contains (reached G roots) k) (less : IsOneLess G (G.key k) before after) where
      apart : (d : N) → Contains dead d → G.key d ≡ G.key k → ⊥
      apart d h e =
          let u = so.unnamed d h in
          let v = less.here in
          let w : before (G.key d) ≡ before (G.key k) = ap before e in
          omega arith

      apart_same : (d : N) → Contains dead d → G.same (G.key k) (G.key d) ≡ false
      apart_same d h = elim (true_or_false (G.same (G.key k) (G.key d))) [
        | inl e ↦ absurd (apart d h (sym ((laws.decides (G.key k) (G.key d)).0 e)))
        | inr e ↦ e
      ]

      -- the last reference to k goes
      emptied_last : after (G.key k) ≡ 0 → AreEmptied G roots after (dead ++ k ∷ [])
      emptied_last last = record {
        distinct = subst (IsDistinct G.same) (sym (map_push G.key dead k)) (IsDistinct-push same_equiv (map G.key dead) (G.key k) so.distinct (no_key dead (G.key k) apart));
        held_now = λ d h. elim (Contains-push_cases dead k d h) [
          | inl g ↦ so.held_now d g
          | inr e ↦ subst (Contains (reached G roots)) e here
        ];
        unnamed = λ d h. elim (Contains-push_cases dead k d h) [
          | inl g ↦ less.elsewhere (G.key d) (apart_same d g) ∙ so.unnamed d g
          | inr e ↦ subst (λ z. after (G.key z) ≡ 0) e last
        ];
        every = λ c h e. elim (true_or_false (G.same (G.key k) (G.key c))) [
          | inl s ↦ subst (Contains (dead ++ k ∷ [])) (clear k c here h ((laws.decides (G.key k) (G.key c)).0 s)) (Contains-push dead k)
          | inr s ↦ Contains-append_left dead (k ∷ []) c (so.every c h (sym (less.elsewhere (G.key c) s) ∙ e))
        ];
      }

      -- a reference to k goes that is not the last
      emptied_more : 1 ≤ after (G.key k) → AreEmptied G roots after dead
      emptied_more more = record {
        distinct = so.distinct;
        held_now = so.held_now;
        unnamed = λ d g. less.elsewhere (G.key d) (apart_same d g) ∙ so.unnamed d g;
        every = λ c h e. elim (true_or_false (G.same (G.key k) (G.key c))) [
          | inl s ↦
              let f : after (G.key k) ≡ after (G.key c) = ap after ((laws.decides (G.key k) (G.key c)).0 s) in
              absurd (omega arith)
          | inr s ↦ so.every c h (sym (less.elsewhere (G.key c) s) ∙ e)
        ];
      }

    -- at the end every reference of the roots of gone and of the dead is taken away
    emptied_all : (gone dead : List N) (left : K → ℕ) → AreEmptied G roots left dead
        → ((q : K) → left q + (occurrences G gone q + references G dead q) ≡ count G roots q) → AreDead G roots gone dead
    emptied_all gone dead left so is = record {
      distinct = so.distinct;
      held_now = so.held_now;
      unnamed = λ d h. let a = so.unnamed d h in let b = is (G.key d) in omega arith;
      every = λ c h e. so.every c h (let b = is (G.key c) in omega arith);
    }

    -- what a run of references leaves
    record IsRun (s : Left K) (ns ks : List N) (t : Left K) : Type 0 where
      more : List N
      named : map G.key (ns ++ more) ≡ t.dead
      emptied : AreEmptied G roots t.counts (ns ++ more)
      sums : (q : K) → t.counts q + occurrences G ks q ≡ s.counts q

    one_less : (s : Left K) (k : N) → 1 ≤ s.counts (G.key k) → IsOneLess G (G.key k) s.counts (take_one G.same s (G.key k)).counts
    one_less s k l = record {
      here = let a : cond {A = ℕ} (G.same (G.key k) (G.key k)) (s.counts (G.key k) - 1) (s.counts (G.key k)) ≡ s.counts (G.key k) - 1 = ap (λ b. cond {A = ℕ} b (s.counts (G.key k) - 1) (s.counts (G.key k))) ((laws.decides (G.key k) (G.key k)).1 refl) in omega arith;
      elsewhere = λ q e. ap (λ b. cond {A = ℕ} b (s.counts q - 1) (s.counts q)) e;
    }

    one_sum : (s : Left K) (k : N) (q : K) → 1 ≤ s.counts (G.key k) → (take_one G.same s (G.key k)).counts q + cond {A = ℕ} (G.same (G.key k) q) 1 0 ≡ s.counts q
    one_sum s k q l = elim (true_or_false (G.same (G.key k) q)) [
      | inl e ↦
          let a : cond {A = ℕ} (G.same (G.key k) q) (s.counts q - 1) (s.counts q) ≡ s.counts q - 1 = ap (λ b. cond {A = ℕ} b (s.counts q - 1) (s.counts q)) e in
          let b : cond {A = ℕ} (G.same (G.key k) q) 1 0 ≡ 1 = ap (λ b. cond {A = ℕ} b 1 0) e in
          let c : s.counts (G.key k) ≡ s.counts q = ap s.counts ((laws.decides (G.key k) q).0 e) in
          omega arith
      | inr e ↦
          let a : cond {A = ℕ} (G.same (G.key k) q) (s.counts q - 1) (s.counts q) ≡ s.counts q = ap (λ b. cond {A = ℕ} b (s.counts q - 1) (s.counts q)) e in
          let b : cond {A = ℕ} (G.same (G.key k) q) 1 0 ≡ 0 = ap (λ b. cond {A = ℕ} b 1 0) e in
          omega arith
    ]

    -- references that are there can be taken away in any order
    run : (ks : List N) (s : Left K) (ns : List N) → map G.key ns ≡ s.dead → AreEmptied G roots s.counts ns
        → ((k : N) → Contains ks k → Contains (reached G roots) k) → ((q : K) → occurrences G ks q ≤ s.counts q)
        → IsRun s ns ks (take_all G.same s (map G.key ks))
    run [] s ns named emptied held room = record {
      more = [];
      named = ap (map G.key) (append-nil ns) ∙ named;
      emptied = subst (AreEmptied G roots s.counts) (sym (append-nil ns)) emptied;
      sums = λ q. omega arith;
    }
    run (k ∷ ks) s ns named emptied held room =
        let t = take_one G.same s (G.key k) in
        let first = sum_by-cons (λ n. cond {A = ℕ} (G.same (G.key n) (G.key k)) 1 0) k ks in
        let yes_one : cond {A = ℕ} (G.same (G.key k) (G.key k)) 1 0 ≡ 1 = ap (λ b. cond {A = ℕ} b 1 0) ((laws.decides (G.key k) (G.key k)).1 refl) in
        let r = room (G.key k) in
        let l : 1 ≤ s.counts (G.key k) = omega arith in
        let less = one_less s k l in
        let here = held k (Contains-first k ks) in
        let held_on = λ (x : N) (h : Contains ks x). held x (Contains-later k ks x h) in
        let room_on = λ (q : K).
        let a = one_sum s k q l in
        let b = sum_by-cons (λ n. cond {A = ℕ} (G.same (G.key n) q) 1 0) k ks in
        let c = room q in
        let d : occurrences G ks q ≤ t.counts q = omega arith in d in
        elim (true_or_false (nat_eq (s.counts (G.key k)) 1)) [
          | inl e ↦
              let u = one_is (s.counts (G.key k)) e in
              let z = less.here in
              let dead_is : map G.key (ns ++ k ∷ []) ≡ t.dead = map_push G.key ns k ∙ ap (λ ds. ds ++ G.key k ∷ []) named ∙ ap (λ b. cond b (s.dead ++ G.key k ∷ []) s.dead) (sym e) in
              let last = emptied_last s.counts t.counts ns emptied k here less (omega arith) in
              let rest = run ks t (ns ++ k ∷ []) dead_is last held_on room_on in
              let joined : (ns ++ k ∷ []) ++ rest.more ≡ ns ++ (k ∷ rest.more) = append_assoc ns (k ∷ []) rest.more in
              record {
                more = k ∷ rest.more;
                named = ap (map G.key) (sym joined) ∙ rest.named;
                emptied = subst (AreEmptied G roots (take_all G.same s (map G.key (k ∷ ks))).counts) joined rest.emptied;
                sums = λ q. let a = rest.sums q in let b = one_sum s k q l in let c = sum_by-cons (λ n. cond {A = ℕ} (G.same (G.key n) q) 1 0) k ks in omega arith;
              }
          | inr e ↦
              let u = more_is (s.counts (G.key k)) e l in
              let z = less.here in
              let dead_is : map G.key ns ≡ t.dead = named ∙ ap (λ b. cond b (s.dead ++ G.key k ∷ []) s.dead) (sym e) in
              let still = emptied_more s.counts t.counts ns emptied k here less (omega arith) in
              let rest = run ks t ns dead_is still held_on room_on in
              record {
                more = rest.more;
                named = rest.named;
                emptied = rest.emptied;
                sums = λ q. let a = rest.sums q in let b = one_sum s k q l in let c = sum_by-cons (λ n. cond {A = ℕ} (G.same (G.key n) q) 1 0) k ks in omega arith;
              }
        ]

    module _ (few gone : List N) (sum : AreTogether G few gone roots) where
      -- a node whose last reference is a root's that goes, or one of those dead first, is dead in the end, where these are
      within_all : (counts : K → ℕ) (next : ℕ) (nodes : List N) → AreEmptied G roots counts nodes
          → ((q : K) → counts q + (occurrences G gone q + references G (take next nodes) q) ≡ count G roots q)
          → (all : List N) → AreDead G roots gone all → ((d : N) → Contains (take next nodes) d → Contains all d) → (d : N) → Contains nodes d → Contains all d
      within_all counts next nodes emptied is all dead inside d h =
          let q = G.key d in
          let a = is q in
          let z = emptied.unnamed d h in
          let b = (taken-within G.same (λ k. (laws.decides k k).1 refl) G.key next nodes all emptied.distinct inside).1 (λ x. occurrences G (G.children x) q) in
          let c = references-within G laws few gone roots sum clear all dead.distinct dead.held_now q in
          let t = sum.sums q in
          let e : count G roots q ≡ occurrences G gone q + references G all q = omega arith in
          dead.every d (emptied.held_now d h) e

      -- first the roots that go
      pub underway-begun : (left : K → ℕ) → ((q : K) → left q ≡ count G roots q)
          → IsUnderWay G roots gone (take_all G.same (record { counts = left; dead = [] }) (map G.key gone)) 0
      underway-begun left is =
          let e = emptied_none in
          let first : AreEmptied G roots left [] = record { distinct = e.distinct; held_now = e.held_now; unnamed = λ d h. is (G.key d) ∙ e.unnamed d h; every = λ c h z. e.every c h (sym (is (G.key c)) ∙ z) } in
          let r = run gone (record { counts = left; dead = [] }) [] refl first
          (λ k h. reached-root G laws roots k (sum.second k h))
          (λ q. let t = sum.sums q in let i = is q in omega arith) in
          let so = λ (q : K).
          let a = r.sums q in
          let i = is q in
          let e : (take_all G.same (record { counts = left; dead = [] }) (map G.key gone)).counts q + (occurrences G gone q + references G (take 0 r.more) q) ≡ count G roots q = omega arith in e
          in
          record {
            nodes = r.more;
            named = r.named;
            emptied = r.emptied;
            sums = so;
            within = λ all dead. within_all (take_all G.same (record { counts = left; dead = [] }) (map G.key gone)).counts 0 r.more r.emptied so all dead (λ d h. absurd (Contains-nil d h));
          }

      -- then the child places of the next dead node
      pub underway-next : (s : Left K) (next : ℕ) (so : IsUnderWay G roots gone s next) (d : N) → next < length so.nodes → get_or so.nodes next d ≡ d
          → IsUnderWay G roots gone (take_all G.same s (map G.key (G.children d))) (next + 1)
      underway-next s next so d l is =
          let here = subst (Contains so.nodes) is (Contains-get_or so.nodes next d l) in
          let one = λ (q : K).
          let f = λ (x : N). occurrences G (G.children x) q in
          let a = sum_by_more f so.nodes next d l in
          let b : f (get_or so.nodes next d) ≡ f d = ap f is in
          let c : references G (take (next + 1) so.nodes) q ≡ references G (take next so.nodes) q + occurrences G (G.children d) q = omega arith in c in
          let room = λ (q : K).
          let a = one q in
          let b = sum.sums q in
          let c = references-within G laws few gone roots sum clear so.nodes so.emptied.distinct so.emptied.held_now q in
          let e = sum_by-take-le (λ x. occurrences G (G.children x) q) so.nodes (next + 1) in
          let g = so.sums q in
          let h : occurrences G (G.children d) q ≤ s.counts q = omega arith in h in
          let r = run (G.children d) s so.nodes so.named so.emptied (λ k h. reached-child G laws roots d k (so.emptied.held_now d here) h) room in
          let n : next + 1 ≤ length so.nodes = omega arith in
          let t = take_all G.same s (map G.key (G.children d)) in
          let before = take-prefix (next + 1) so.nodes r.more n in
          let left_now = λ (q : K).
          let a = r.sums q in let b = so.sums q in let c = one q in
          let p : references G (take (next + 1) (so.nodes ++ r.more)) q ≡ references G (take (next + 1) so.nodes) q = ap (λ ns. references G ns q) before in
          let e : t.counts q + (occurrences G gone q + references G (take (next + 1) (so.nodes ++ r.more)) q) ≡ count G roots q = omega arith in e
          in
          record {
            nodes = so.nodes ++ r.more;
            named = r.named;
            emptied = r.emptied;
            sums = left_now;
            within = λ all dead. within_all t.counts (next + 1) (so.nodes ++ r.more) r.emptied left_now all dead
                (λ x h. so.within all dead x (Contains-taken (next + 1) so.nodes x (subst (λ ns. Contains ns x) before h)));
          }

      -- no more are dead so far than in the end
      pub underway-few : (s : Left K) (next : ℕ) (so : IsUnderWay G roots gone s next) (all : List N) → AreDead G roots gone all → length so.nodes ≤ length all
      underway-few s next so all dead =
          let whole : take (length so.nodes) so.nodes ≡ so.nodes = take_all_of (length so.nodes) so.nodes (omega arith) in
          subst (λ ns. length ns ≤ length all) whole
          (taken-within G.same (λ k. (laws.decides k k).1 refl) G.key (length so.nodes) so.nodes all so.emptied.distinct
          (λ d h. so.within all dead d (subst (λ ns. Contains ns d) whole h))).0

      -- at the end the dead are collected
      pub underway-ended : (s : Left K) (next : ℕ) (so : IsUnderWay G roots gone s next) → length so.nodes ≤ next
          → AreDead G roots gone so.nodes
      underway-ended s next so l = emptied_all gone so.nodes s.counts so.emptied
          (λ q. let a = so.sums q in let b : references G (take next so.nodes) q ≡ references G so.nodes q = ap (λ ns. references G ns q) (take_all_of next so.nodes l) in omega arith)
