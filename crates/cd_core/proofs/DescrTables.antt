-- What puts and drops of descriptions make of a table, key by key.
use Rattle.std.proofs.Common.{◌≡◌, ℕ, Bool, true, false, cond, not, List, [], ◌∷◌, map, Option, Some, None, Contains, refl, sym, ap, ap₂, ◌∙◌}
use Rattle.std.specs.Prelude.{◌||◌}
use Rattle.std.specs.Option.{option_or}
use Rattle.std.specs.List.{filter, list_any, AllByRecursion, IsDistinct}
use Rattle.std.specs.Map.{keys_of}
use Rattle.std.specs.Ordering.{nat_cmp, is_lt}
use Rattle.std.specs.Cmp.Lexicographic.{slice_cmp, nat_list_cmp_total}
use Rattle.std.specs.FinMap as finite
use Rattle.std.specs.FinMap.{find, get, get-insert, get-remove, get-from_entries, same_map, slice_cmp-IsAntisymmetric, nat_cmp-IsAntisymmetric}
use Rattle.std.proofs.lemmas.Bool.{true≢false}
use Rattle.cd_base.specs.declared.hash.Hash256.{Hash256}
use Rattle.cd_block.specs.declared.description.Descr.{Descr}
use Rattle.cd_block.specs.Block.{key_of, id_cmp}
use Rattle.cd_block.specs.Description.{descr_text, IsDescr}
use Rattle.cd_block.proofs.Keys.{key_of_injective}
use Rattle.cd_cell.proofs.Subtrees.{Contains-first, Contains-later}
use Rattle.cd_keeper.specs.Contents.{Table, Change, put_all, drop_all}
use Rattle.cd_keeper.specs.NoKeyTwice.{same_key}
use Rattle.cd_world.specs.Image.{image_of, descr_of, descr_entry}
use Rattle.cd_world.specs.Changes.{placed}
use Rattle.cd_world.specs.Told.{ToldWorld, block_of, shown, IsSoundBlock}
use Rattle.cd_world.proofs.Held.{same_bytes, bytes_tie}
use Rattle.cd_world.proofs.Orders.{Contains-filter}
use Rattle.cd_count.specs.Changes.{DescsLead}
use Rattle.cd_count.specs.PlanRows.{descr_puts}

-- ---- tables

-- a key is found in a list that drops it
pub get-drop_all : (keys : List (List ℕ)) (table : Table) (q : List ℕ) → get (drop_all table keys) q ≡ cond (list_any (same_key q) keys) None (get table q)
get-drop_all [] table q = refl
get-drop_all (k ∷ ks) table q =
    get-drop_all ks (finite.remove table k) q
    ∙ ap (λ (o : Option (List ℕ)). cond (list_any (same_key q) ks) None o) (get-remove nat_list_cmp_total table k q)
    ∙ by (same_key q k) (list_any (same_key q) ks)
  where
    by : (a b : Bool) → cond b None (cond a None (get table q)) ≡ cond (a || b) None (get table q)
    by true true = refl
    by true false = refl
    by false b = refl

-- what has another key isn't found
find-other : (q k : List ℕ) (es : List (List ℕ × List ℕ)) → same_key q k ≡ true → AllByRecursion (λ y. same_key k y ≡ false) (keys_of es) → find (slice_cmp nat_cmp) q es ≡ None
find-other q k [] same apart = refl
find-other q k (e ∷ es) same apart =
    let other : same_key q e.0 ≡ false = ap (λ (x : List ℕ). same_key x e.0) (same_bytes q k same) ∙ apart.0 in
    ap (λ b. cond b (Some e.1) (find (slice_cmp nat_cmp) q es)) other ∙ find-other q k es same apart.1

pub get-put_all : (es : List (List ℕ × List ℕ)) (table : Table) (q : List ℕ) → IsDistinct same_key (keys_of es) → get (put_all table es) q ≡ option_or (find (slice_cmp nat_cmp) q es) (get table q)
unfolding IsDistinct
get-put_all [] table q distinct = refl
get-put_all (e ∷ es) table q distinct =
    get-put_all es (finite.insert table e.0 e.1) q distinct.1
    ∙ ap (λ (o : Option (List ℕ)). option_or (find (slice_cmp nat_cmp) q es) o) (get-insert nat_list_cmp_total table e.0 e.1 q)
    ∙ by (same_key q e.0) refl
  where
    by : (b : Bool) → same_key q e.0 ≡ b → option_or (find (slice_cmp nat_cmp) q es) (cond b (Some e.1) (get table q)) ≡ option_or (cond b (Some e.1) (find (slice_cmp nat_cmp) q es)) (get table q)
    by true same = ap (λ (o : Option (List ℕ)). option_or o (Some e.1)) (find-other q e.0 es same distinct.0)
    by false same = refl

-- ---- blocks

-- the text under a key
abbrev pub look : List Descr → List ℕ → Option (List ℕ)
look ds q = find (slice_cmp nat_cmp) q (descr_puts ds)

abbrev pub key : Descr → List ℕ
key d = key_of d.id

-- no two blocks have one key
abbrev pub HaveKeysApart : List Descr → Type 0
HaveKeysApart [] = Unit {0}
HaveKeysApart (d ∷ ds) = ((x : Descr) → Contains ds x → same_key (key d) (key x) ≡ false) × HaveKeysApart ds

-- no such block has the key
pub look-none : (q : List ℕ) (ds : List Descr) → ((x : Descr) → Contains ds x → same_key q (key x) ≡ false) → look ds q ≡ None
look-none q [] apart = refl
look-none q (d ∷ ds) apart =
    ap (λ b. cond b (Some (descr_text d)) (look ds q)) (apart d (Contains-first d ds)) ∙ look-none q ds (λ x h. apart x (Contains-later d ds x h))

pub none-dropped : (q : List ℕ) (ds : List Descr) → ((x : Descr) → Contains ds x → same_key q (key x) ≡ false) → list_any (same_key q) (map key ds) ≡ false
none-dropped q [] apart = refl
none-dropped q (d ∷ ds) apart =
    ap₂ (λ a b. a || b) (apart d (Contains-first d ds)) (none-dropped q ds (λ x h. apart x (Contains-later d ds x h)))

-- a key that ties with another is told apart from what that one is
pub other-of : (q k y : List ℕ) → same_key q k ≡ true → same_key k y ≡ false → same_key q y ≡ false
other-of q k y same apart = ap (λ (x : List ℕ). same_key x y) (same_bytes q k same) ∙ apart

-- keys are told apart either way
pub symmetric : (a b : List ℕ) → same_key a b ≡ false → same_key b a ≡ false
symmetric a b e = by (same_key b a) refl
  where
    by : (c : Bool) → same_key b a ≡ c → same_key b a ≡ false
    by true f = absurd (true≢false (sym (bytes_tie a b (sym (same_bytes b a f))) ∙ e))
    by false f = f

-- a block in its place
pub look-placed : (d : Descr) (xs : List Descr) (q : List ℕ) → ((x : Descr) → Contains xs x → same_key (key d) (key x) ≡ false) → look (placed d xs) q ≡ option_or (look (d ∷ []) q) (look xs q)
look-placed d [] q apart = by (same_key q (key d))
  where
    by : (b : Bool) → cond b (Some (descr_text d)) None ≡ option_or (cond b (Some (descr_text d)) None) None
    by true = refl
    by false = refl
look-placed d (x ∷ xs) q apart = by (look-placed d xs q (λ y h. apart y (Contains-later x xs y h))) (is_lt (id_cmp d.id x.id))
  where
    first : (b : Bool) → cond b (Some (descr_text d)) (look (x ∷ xs) q) ≡ option_or (cond b (Some (descr_text d)) None) (look (x ∷ xs) q)
    first true = refl
    first false = refl

    swap : (a b : Bool) → same_key q (key d) ≡ a → same_key q (key x) ≡ b
        → cond b (Some (descr_text x)) (option_or (cond a (Some (descr_text d)) None) (look xs q)) ≡ option_or (cond a (Some (descr_text d)) None) (cond b (Some (descr_text x)) (look xs q))
    swap true true e f = absurd (true≢false (sym f ∙ other-of q (key d) (key x) e (apart x (Contains-first x xs))))
    swap true false e f = refl
    swap false b e f = refl

    by : look (placed d xs) q ≡ option_or (look (d ∷ []) q) (look xs q) → (b : Bool) → look (cond b (d ∷ x ∷ xs) (x ∷ placed d xs)) q ≡ option_or (look (d ∷ []) q) (look (x ∷ xs) q)
    by rest true = first (same_key q (key d))
    by rest false =
        ap (λ (o : Option (List ℕ)). cond (same_key q (key x)) (Some (descr_text x)) o) rest
        ∙ swap (same_key q (key d)) (same_key q (key x)) refl refl

-- blocks that go
pub look-filtered : (goes : Descr → Bool) (xs : List Descr) (q : List ℕ) → HaveKeysApart xs
    → look (filter (λ d. not (goes d)) xs) q ≡ cond (list_any (same_key q) (map key (filter goes xs))) None (look xs q)
look-filtered goes [] q apart = refl
look-filtered goes (x ∷ xs) q apart = by (goes x) (same_key q (key x)) refl (look-filtered goes xs q apart.1)
  where
    sub : (p : Descr → Bool) (y : Descr) → Contains (filter p xs) y → Contains xs y
    sub p y h = let found = Contains-filter p xs y h in found.0

    by : (g b : Bool) → same_key q (key x) ≡ b
        → look (filter (λ d. not (goes d)) xs) q ≡ cond (list_any (same_key q) (map key (filter goes xs))) None (look xs q)
        → look (cond (not g) (x ∷ filter (λ d. not (goes d)) xs) (filter (λ d. not (goes d)) xs)) q
        ≡ cond (list_any (same_key q) (map key (cond g (x ∷ filter goes xs) (filter goes xs)))) None (cond (same_key q (key x)) (Some (descr_text x)) (look xs q))
    by true true e rest =
        look-none q (filter (λ d. not (goes d)) xs) (λ y h. other-of q (key x) (key y) e (apart.0 y (sub (λ d. not (goes d)) y h)))
        ∙ sym (ap (λ b. cond (b || list_any (same_key q) (map key (filter goes xs))) None (cond (same_key q (key x)) (Some (descr_text x)) (look xs q))) e)
    by true false e rest =
        rest ∙ sym (ap (λ b. cond (b || list_any (same_key q) (map key (filter goes xs))) None (cond b (Some (descr_text x)) (look xs q))) e)
    by false true e rest =
        ap (λ b. cond b (Some (descr_text x)) (look (filter (λ d. not (goes d)) xs) q)) e
        ∙ sym (ap₂ (λ b c. cond b None (cond c (Some (descr_text x)) (look xs q))) (none-dropped q (filter goes xs) (λ y h. other-of q (key x) (key y) e (apart.0 y (sub goes y h)))) e)
    by false false e rest =
        ap (λ b. cond b (Some (descr_text x)) (look (filter (λ d. not (goes d)) xs) q)) e ∙ rest
        ∙ sym (ap (λ b. cond (list_any (same_key q) (map key (filter goes xs))) None (cond b (Some (descr_text x)) (look xs q))) e)

-- ---- worlds

-- the ids of described blocks that differ have keys that differ
pub keys-apart : (a b : Descr) → IsDescr a → IsDescr b → (a.id ≡ b.id → ⊥) → same_key (key a) (key b) ≡ false
keys-apart a b is_a is_b apart = by (same_key (key a) (key b)) refl
  where
    by : (b' : Bool) → same_key (key a) (key b) ≡ b' → same_key (key a) (key b) ≡ false
    by true e = absurd (apart (key_of_injective a.id b.id is_a.id is_b.id (same_bytes (key a) (key b) e)))
    by false e = e

module _ (H : List ℕ → Hash256) where
  entry-is : (t : ToldWorld) (d : Descr) → IsSoundBlock H t.state d → descr_entry H (block_of t d) ≡ (key_of d.id, descr_text d)
  entry-is t d sound =
      let same : descr_of H (block_of t d) ≡ d = λ i. record { id = d.id; parents = d.parents; root = sound.root i; depth = sound.depth i; tops = d.tops; leaving = d.leaving } in
      ap (λ (x : Descr). (key_of d.id, descr_text x)) same

  entries-are : (t : ToldWorld) (ds : List Descr) → ((d : Descr) → Contains ds d → IsSoundBlock H t.state d) → map (descr_entry H) (map (block_of t) ds) ≡ descr_puts ds
  entries-are t [] sound = refl
  entries-are t (d ∷ ds) sound =
      ap₂ (λ (x : List ℕ × List ℕ) (xs : List (List ℕ × List ℕ)). x ∷ xs) (entry-is t d (sound d (Contains-first d ds))) (entries-are t ds (λ x h. sound x (Contains-later d ds x h)))

  -- the descriptions of a sound world
  pub get-descs : (t : ToldWorld) → ((d : Descr) → Contains t.world.blocks d → IsSoundBlock H t.state d) → (q : List ℕ) → let image = image_of H (shown t) in get image.descs q ≡ look t.world.blocks q
  get-descs t sound q =
      get-from_entries nat_list_cmp_total (map (descr_entry H) (map (block_of t) t.world.blocks)) q
      ∙ ap (λ (es : List (List ℕ × List ℕ)). find (slice_cmp nat_cmp) q es) (entries-are t t.world.blocks sound)

  -- a batch leads from the descriptions of one world to those of another, where it does so key by key
  pub descs-lead : (t u : ToldWorld) (change : Change) (puts : List Descr) (drops : List (List ℕ))
      → ((d : Descr) → Contains t.world.blocks d → IsSoundBlock H t.state d) → ((d : Descr) → Contains u.world.blocks d → IsSoundBlock H u.state d)
      → change.put_descs ≡ descr_puts puts → change.drop_descs ≡ drops → IsDistinct same_key (keys_of (descr_puts puts))
      → ((q : List ℕ) → look u.world.blocks q ≡ option_or (look puts q) (cond (list_any (same_key q) drops) None (look t.world.blocks q)))
      → DescsLead H change (shown t) (shown u)
  descs-lead t u change puts drops sound_t sound_u puts_are drops_are distinct each =
      let before = image_of H (shown t) in
      let after = image_of H (shown u) in
      ap₂ (λ (ps : List (List ℕ × List ℕ)) (ks : List (List ℕ)). put_all (drop_all before.descs ks) ps) puts_are drops_are
      ∙ same_map nat_list_cmp_total (slice_cmp-IsAntisymmetric nat_cmp-IsAntisymmetric) _ _ (λ q.
      get-put_all (descr_puts puts) (drop_all before.descs drops) q distinct
      ∙ ap (λ (o : Option (List ℕ)). option_or (look puts q) o) (get-drop_all drops before.descs q ∙ ap (λ (o : Option (List ℕ)). cond (list_any (same_key q) drops) None o) (get-descs t sound_t q))
      ∙ sym (each q) ∙ sym (get-descs u sound_u q))
