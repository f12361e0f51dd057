-- Seats among lanes.
use Rattle.std.proofs.Common.{◌≡◌, ◌⊎◌, ⊎_elim, inl, inr, ℕ, ◌+◌, ◌<◌, ◌≤◌, ◌==◌, Bool, false, if◌then◌else◌, ne_eqb, eq-eqb, List, [], ◌∷◌, ◌++◌, length, map, get_or, take, drop, refl, sym, ap, subst, ◌∙◌, arith, length-append, append_assoc}
use Rattle.std.specs.Prelude.{Option}
use Rattle.std.proofs.lemmas.Bool.{cases_lt}
use Rattle.std.proofs.lemmas.List.{get_or_append_left, get_or_push, get_or_default, get_or-drop, drop-drop, take_more, map-append}
use Rattle.cd_base.specs.declared.hash.Hash256.{Hash256}
use Rattle.cd_event.specs.declared.entry.Entry.{Entry}
use Rattle.cd_gate.specs.Gates.{GateView, SeatView, IsSeatOf, below_part, upper_part, joined_seat}
use Rattle.cd_gate.specs.Histories.{GrewByOthers}
use Rattle.cd_core.specs.declared.start.CoreStart.{CoreStart}
use Rattle.cd_keeper.specs.Contents.{Contents}
use Rattle.cd_run.proofs.Lists.{All-map}
use Rattle.cd_shared.specs.SharedTurns.{worker_of}
use Rattle.cd_shared.proofs.AsSeen.{made-before, named-before}
use Rattle.cd_threads.specs.Seats.{KnowsSame, part_of}

pub each_push : {X : Type 0} (P : ℕ → X → Type 0) (xs : List X) (x : X) → ((k : ℕ) (d : X) → k < length xs → P k (get_or xs k d)) → P (length xs) x
    → (k : ℕ) (d : X) → k < length (xs ++ x ∷ []) → P k (get_or (xs ++ x ∷ []) k d)
each_push P xs x each here k d lt = ⊎_elim
    (λ (low : k < length xs). subst (P k) (sym (get_or_append_left xs (x ∷ []) d k low)) (each k d low))
    (λ (high : length xs ≤ k).
    let same : length xs ≡ k = let l = length-append xs (x ∷ []) in omega arith in
    subst (P k) (sym (get_or_push xs x d k same)) (subst (λ m. P m x) same here))
    (cases_lt k (length xs))

module _ {E D : Type 0} (gate : GateView D) (s : SeatView E D) (of : IsSeatOf gate s) (t : SeatView E D) where
  pub of_upper : (at : ℕ) → t ≡ upper_part at s → IsSeatOf gate t
  of_upper at is = subst (IsSeatOf gate) (sym is) (record { name = of.name; start = of.start; workers = of.workers })

  pub of_joined : (o : SeatView E D) → t ≡ joined_seat s o → IsSeatOf gate t
  of_joined o is = subst (IsSeatOf gate) (sym is) (record { name = of.name; start = of.start; workers = of.workers })

-- ---- what a worker knows

module _ {K X : Type 0} (digest : List ℕ → Hash256) (held : K → Option Contents) (start : CoreStart K) where
  narrow : (lowest end n : ℕ) → lowest ≤ n → n < end → (xs ys : List (Entry X)) → GrewByOthers worker_of lowest end xs ys → GrewByOthers worker_of n (n + 1) xs ys
  narrow lowest end n a b xs ys (added, is, out) = (
    added,
    is,
    All-map (λ e. (worker_of e < lowest) ⊎ (end ≤ worker_of e)) (λ e. (worker_of e < n) ⊎ (n + 1 ≤ worker_of e)) added
        (λ e o. ⊎_elim (λ (low : worker_of e < lowest). inl (omega arith)) (λ (high : end ≤ worker_of e). inr (omega arith)) o) out,
  )

  -- entries of others change nothing that a worker of the range knows
  pub knows : (lowest end n : ℕ) → lowest ≤ n → n < end → (xs ys : List (Entry X)) → GrewByOthers worker_of lowest end xs ys → KnowsSame digest held start n xs ys
  knows lowest end n a b xs ys grew = record {
    made = made-before digest n (n + 1) (omega arith) xs ys (narrow lowest end n a b xs ys grew);
    named = named-before digest n (n + 1) (omega arith) held start xs ys (narrow lowest end n a b xs ys grew);
  }

  pub knows_itself : (n : ℕ) (xs : List (Entry X)) → KnowsSame digest held start n xs xs
  knows_itself n xs = record { made = refl; named = refl }

  pub knows_then : (n : ℕ) (xs ys zs : List (Entry X)) → KnowsSame digest held start n xs ys → KnowsSame digest held start n ys zs → KnowsSame digest held start n xs zs
  knows_then n xs ys zs a b = record { made = b.made ∙ a.made; named = b.named ∙ a.named }

-- ---- parts of a seat

module _ {E D : Type 0} (s rest : SeatView E D) (k : ℕ) (is : rest ≡ upper_part k s) where
  abbrev ending : ℕ → SeatView E D
  ending e = record s { lowest = k; end = e }

  -- a worker's part, and what is left above it
  pub part_below : (workers next : ℕ) (t : SeatView E D) → t ≡ below_part next rest → k + 1 ≡ next → next < workers → t ≡ part_of workers k s
  part_below workers next t cut step lt =
      let no : (k + 1 == workers) ≡ false = ne_eqb (k + 1) workers (λ same. let g : ⊥ = omega (arith, step) in g) in
      cut ∙ (ap (below_part next) is ∙ ap ending (sym step ∙ sym (ap (λ (b : Bool). if b then s.end else k + 1) no)))

  pub part_last : (workers : ℕ) → k + 1 ≡ workers → rest ≡ part_of workers k s
  part_last workers step = is ∙ ap ending (sym (ap (λ (b : Bool). if b then s.end else k + 1) (eq-eqb (k + 1) workers step)))

  pub rest_above : (next : ℕ) (t : SeatView E D) → t ≡ upper_part next rest → t ≡ upper_part next s
  rest_above next t cut = cut ∙ ap (upper_part next) is

-- ---- the next of some elements

module _ {X : Type 0} (all rest : List X) (n : ℕ) (are : rest ≡ drop n all) where
  pub next_at : (x : X) → n < length all → x ≡ get_or rest 0 x → (d : X) → get_or all n d ≡ x
  next_at x lt is d =
      let same : n ≡ n + 0 = omega arith in
      get_or_default all n d x lt ∙ (ap (λ m. get_or all m x) same ∙ (sym (get_or-drop n all 0 x) ∙ (ap (λ l. get_or l 0 x) (sym are) ∙ sym is)))

  pub rest_next : (new : List X) → new ≡ drop 1 rest → new ≡ drop (n + 1) all
  rest_next new is = is ∙ (ap (drop 1) are ∙ drop-drop 1 n all)

  -- what holds of the ones before it, and of it, holds of all up to it
  pub each_next : (P : ℕ → X → Type 0) (x : X) → ((d : X) → get_or all n d ≡ x) → ((k : ℕ) (d : X) → k < n → P k (get_or all k d)) → P n x
      → (k : ℕ) (d : X) → k < n + 1 → P k (get_or all k d)
  each_next P x next each here k d lt = ⊎_elim
      (λ (low : k < n). each k d low)
      (λ (high : n ≤ k).
      let same : n ≡ k = omega arith in
      subst (λ m. P m (get_or all m d)) same (subst (P n) (sym (next d)) here))
      (cases_lt k n)

  pub more_taken : {Y : Type 0} (f : X → Y) (x : X) → n < length all → get_or all n x ≡ x → (old new before : List Y)
      → before ≡ old ++ map f (take n all) → new ≡ before ++ f x ∷ [] → new ≡ old ++ map f (take (n + 1) all)
  more_taken {Y = Y} f x lt next old new before was is =
      is ∙ ap (λ (ys : List Y). ys ++ f x ∷ []) was ∙ append_assoc old (map f (take n all)) (f x ∷ [])
      ∙ ap (λ (ys : List Y). old ++ ys)
      (sym (map-append f (take n all) (x ∷ [])) ∙ ap (map f) (ap (λ y. take n all ++ y ∷ []) (sym next) ∙ sym (take_more all n x lt)))

-- ---- a lane more is joined, and the seat of all is `now`

module _ {K X L : Type 0} (digest : List ℕ → Hash256) (held : K → Option Contents) (start : CoreStart K) (seat : L → SeatView (Entry X) (CoreStart K))
    (all : List L) (n : ℕ) (x : L) (next : (d : L) → get_or all n d ≡ x) (now o : SeatView (Entry X) (CoreStart K))
    (taken : o ≡ seat x) (lowest : (let s = seat x in s.lowest) ≡ n + 1)
    (theirs : GrewByOthers worker_of o.lowest o.end o.seen now.seen) where
  grown : let s = seat x in GrewByOthers worker_of (n + 1) s.end s.seen now.seen
  grown = subst (λ (v : SeatView (Entry X) (CoreStart K)). GrewByOthers worker_of (n + 1) v.end v.seen now.seen) taken
      (subst (λ m. GrewByOthers worker_of m o.end o.seen now.seen) (ap (λ (v : SeatView (Entry X) (CoreStart K)). v.lowest) taken ∙ lowest) theirs)

  pub last_joined : now.end ≡ o.end → (d : L) (k : ℕ) → n + 1 ≡ k + 1
      → let s = seat (get_or all k d) in (now.end ≡ s.end) × GrewByOthers worker_of (k + 1) s.end s.seen now.seen
  last_joined end d k step =
      let same : n ≡ k = omega arith in
      subst (λ m. let s = seat (get_or all m d) in (now.end ≡ s.end) × GrewByOthers worker_of (m + 1) s.end s.seen now.seen) same
      (subst (λ l. let s = seat l in (now.end ≡ s.end) × GrewByOthers worker_of (n + 1) s.end s.seen now.seen) (sym (next d))
      (end ∙ ap (λ (v : SeatView (Entry X) (CoreStart K)). v.end) taken, grown))

  pub it_knows : (let s = seat x in s.lowest < s.end) → let s = seat x in KnowsSame digest held start (n + 1) s.seen now.seen
  it_knows some = let s = seat x in knows digest held start (n + 1) s.end (n + 1) (omega arith) (omega (arith, some, lowest)) s.seen now.seen grown

module _ {K X : Type 0} (digest : List ℕ → Hash256) (held : K → Option Contents) (start : CoreStart K)
    (whole now : SeatView (Entry X) (CoreStart K)) (mine : GrewByOthers worker_of whole.lowest whole.end whole.seen now.seen) (lowest : whole.lowest ≡ 0) where
  -- what one of the numbers knew by the seat so far, it knows by the seat now
  pub still_knows : (n worker : ℕ) → whole.end ≡ n + 1 → worker ≤ n → (seen : List (Entry X))
      → KnowsSame digest held start worker seen whole.seen → KnowsSame digest held start worker seen now.seen
  still_knows n worker end le seen knew = knows_then digest held start worker seen whole.seen now.seen knew
      (knows digest held start whole.lowest whole.end worker (omega (arith, lowest)) (omega (arith, end, le)) whole.seen now.seen mine)
