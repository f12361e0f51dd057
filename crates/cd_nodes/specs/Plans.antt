-- Trusted: what a plan has of each key, and the batch that it makes.
use Rattle.std.specs.Prelude.{◌≡◌, ℕ, zero, suc, ◌+◌, Bool, true, false, cond, nat_eq, List, [], ◌∷◌, fold, filter_map, Option, Some, None}
use Rattle.std.specs.Option.{option_map, option_map_or}
use Rattle.std.specs.declared.cmp.Ordering.{Ordering}
use Rattle.std.specs.FinMap as finite
use Rattle.cd_nodes.specs.Graphs.{Graph, occurrences, references, held_at, count}

-- of a key: the count that is stored, where there is one, the count to be, and the face
pub record Row (F : Type 0) : Type 0 where
  pub stored : Option ℕ
  pub now : ℕ
  pub face : F

-- ---- what a batch does at a key: nothing, a drop, or a text that is put

abbrev pub dropped : {X : Type 0} → Option ℕ → Option (Option X)
dropped None = None
dropped (Some n) = Some None

abbrev pub is_stored : Option ℕ → ℕ → Bool
is_stored None n = false
is_stored (Some m) n = nat_eq m n

-- a count of 0 drops what is stored; another count is put, unless it is the one that is stored
abbrev pub written : {F X : Type 0} → (ℕ → F → X) → Row F → ℕ → Option (Option X)
written text row zero = dropped row.stored
written text row (suc n) = cond (is_stored row.stored (suc n)) None (Some (Some (text (suc n) row.face)))

abbrev pub change_at : {F X : Type 0} → (ℕ → F → X) → Option (Row F) → Option (Option X)
change_at text None = None
change_at text (Some row) = written text row row.now

-- the value at a key after a change
abbrev pub changed : {X : Type 0} → Option (Option X) → Option X → Option X
changed None old = old
changed (Some new) old = new

-- ---- the batch of some rows

abbrev pub put_of : {X : Type 0} → Option (Option X) → Option X
put_of None = None
put_of (Some o) = o

abbrev pub is_drop : {X : Type 0} → Option (Option X) → Bool
is_drop None = false
is_drop (Some None) = true
is_drop (Some (Some x)) = false

-- no key stands twice
abbrev pub HasNoKeyTwice : {K V : Type 0} → (K → K → Ordering) → List (K × V) → Type 0
HasNoKeyTwice order [] = Unit {0}
HasNoKeyTwice order (e ∷ es) = (finite.find order e.0 es ≡ None) × HasNoKeyTwice order es

module _ {K F X : Type 0} (text : ℕ → F → X) where
  abbrev pub put_entry : K × Row F → Option (K × X)
  put_entry e = option_map (λ x. (e.0, x)) (put_of (change_at text (Some e.1)))

  abbrev pub drop_entry : K × Row F → Option K
  drop_entry e = cond (is_drop (change_at text (Some e.1))) (Some e.0) None

  -- what the rows put, and what they drop
  abbrev pub puts : List (K × Row F) → List (K × X)
  puts rows = filter_map put_entry rows

  abbrev pub drops : List (K × Row F) → List K
  drops rows = filter_map drop_entry rows

module _ {K X : Type 0} {order : K → K → Ordering} where
  abbrev pub put_all : finite.FinMap order X → List (K × X) → finite.FinMap order X
  put_all m es = fold (λ t e. finite.insert t e.0 e.1) m es

  abbrev pub drop_all : finite.FinMap order X → List K → finite.FinMap order X
  drop_all m ks = fold (λ t k. finite.remove t k) m ks

  -- a map after the batch of some rows
  abbrev pub after_batch : {F : Type 0} → (ℕ → F → X) → finite.FinMap order X → List (K × Row F)
      → finite.FinMap order X
  after_batch text m rows = put_all (drop_all m (drops text rows)) (puts text rows)

-- ---- plans

module _ {N K F : Type 0} (G : Graph N K) (face : N → F) where
  -- the stored count of a key: that of a held node, and none of another
  abbrev pub stored_count : List N → K → Option ℕ
  stored_count roots h = option_map (λ _. count G roots h) (held_at G roots h)

  -- the plan leads from what old roots hold to what new roots hold
  pub record IsPlan (old new : List N) (plan : K → Option (Row F)) : Type 0 where
    pub stored : (h : K) (row : Row F) → plan h ≡ Some row → row.stored ≡ stored_count old h
    pub now : (h : K) (row : Row F) → plan h ≡ Some row → row.now ≡ count G new h
    pub face_old : (h : K) (row : Row F) (c : N) → plan h ≡ Some row → held_at G old h ≡ Some c
        → row.face ≡ face c
    pub face_new : (h : K) (row : Row F) (c : N) → plan h ≡ Some row → held_at G new h ≡ Some c
        → row.face ≡ face c
    pub rest : (h : K) → plan h ≡ None
        → (held_at G new h ≡ held_at G old h) × (count G new h ≡ count G old h)

  -- the count to be of a key: what its row says, else the count as it is
  abbrev pub now_at : List N → (K → Option (Row F)) → K → ℕ
  now_at old plan h = option_map_or (λ (row : Row F). row.now) (plan h) (count G old h)

  -- from old the roots grow by more, so that news are held besides, to grown; of these gone go, and dead with them.
  -- The rows have the references that come and those that go.
  pub record AreRows (old more grown gone news dead : List N) (plan : K → Option (Row F)) : Type 0 where
    pub stored : (h : K) (row : Row F) → plan h ≡ Some row → row.stored ≡ stored_count old h
    pub faces : (h : K) (row : Row F) (c : N) → plan h ≡ Some row → held_at G grown h ≡ Some c
        → row.face ≡ face c
    pub now : (h : K) → now_at old plan h + (occurrences G gone h + references G dead h)
        ≡ count G old h + (occurrences G more h + references G news h)
