-- Pins that end one after another: the blocks that go with them, and the descriptions before and after.
use Rattle.std.proofs.Common.{◌≡◌, ℕ, Bool, true, false, cond, not, List, [], ◌∷◌, ◌++◌, map, Option, Some, None, Contains, refl, sym, ap, ap₂, ◌∙◌, subst, ⊎_elim}
use Rattle.std.specs.Prelude.{◌||◌, ◌&&◌}
use Rattle.std.specs.Option.{option_or, option_to_list}
use Rattle.std.specs.List.{filter, list_any, AllByRecursion, IsDistinct}
use Rattle.std.specs.Ordering.{is_lt}
use Rattle.std.proofs.lemmas.Bool.{true≢false}
use Rattle.std.proofs.lemmas.List.Elements.{All-contains}
use Rattle.cd_block.specs.declared.description.Descr.{Descr}
use Rattle.cd_block.specs.Block.{id_cmp, key_of}
use Rattle.cd_block.specs.Description.{descr_text, IsDescr, IsDescrFit}
use Rattle.cd_cell.proofs.Subtrees.{Contains-first, Contains-later, Contains-nil}
use Rattle.cd_keeper.specs.NoKeyTwice.{same_key}
use Rattle.cd_world.specs.declared.world.World.{World}
use Rattle.cd_world.specs.declared.world.PinRow.{PinRow}
use Rattle.cd_world.specs.Standing.{is_pin, names_block, has_id}
use Rattle.cd_world.specs.Changes.{placed, goes_with, without_pin, without_pins}
use Rattle.cd_world.proofs.Orders.{All-from_Contains, Contains-filter, Contains-placed}
use Rattle.cd_world.proofs.TidyWorlds.{tidy-without_pin}
use Rattle.cd_core.specs.Cores.{IsWritable}
use Rattle.cd_core.specs.Effects.{goes_in_turn}
use Rattle.cd_core.specs.Merging.{is_pinned_besides}
use Rattle.cd_core.proofs.Unpinned.{any-filtered}
use Rattle.cd_core.proofs.DescrTables.{key, look, look-placed, look-filtered, none-dropped, other-of, symmetric, HaveKeysApart}

filter-both : {A : Type 0} (p q : A → Bool) (xs : List A) → filter (λ x. not (q x)) (filter (λ x. not (p x)) xs) ≡ filter (λ x. not (p x || q x)) xs
filter-both p q [] = refl
filter-both p q (x ∷ xs) = by (p x) (filter-both p q xs)
  where
    by : (b : Bool) → filter (λ x. not (q x)) (filter (λ x. not (p x)) xs) ≡ filter (λ x. not (p x || q x)) xs
        → filter (λ x. not (q x)) (cond (not b) (x ∷ filter (λ x. not (p x)) xs) (filter (λ x. not (p x)) xs)) ≡ cond (not (b || q x)) (x ∷ filter (λ x. not (p x || q x)) xs) (filter (λ x. not (p x || q x)) xs)
    by true rest = rest
    by false rest = ap (λ ys. cond (not (q x)) (x ∷ ys) ys) rest

filter-none : {A : Type 0} (xs : List A) → xs ≡ filter (λ x. not false) xs
filter-none [] = refl
filter-none (x ∷ xs) = ap (λ ys. x ∷ ys) (filter-none xs)

-- which blocks go rests on the pins alone
pub goes-by_pins : (w : World) (blocks : List Descr) (rows : List PinRow) (d : Descr) → goes_in_turn (record w { blocks = blocks }) rows d ≡ goes_in_turn w rows d
goes-by_pins w blocks [] d = refl
goes-by_pins w blocks (row ∷ rows) d =
    ap (λ b. goes_with w row d || b) (goes-by_pins (without_pin w row) (filter (λ x. not (goes_with w row x)) blocks) rows d)

-- the blocks that are left
pub left-in-turn : (w : World) (rows : List PinRow) → (let v = without_pins w rows in v.blocks) ≡ filter (λ d. not (goes_in_turn w rows d)) w.blocks
left-in-turn w [] = filter-none w.blocks
left-in-turn w (row ∷ rows) = left-in-turn (without_pin w row) rows ∙ filter-both (goes_with w row) (goes_in_turn (without_pin w row) rows) w.blocks

-- a block that doesn't go is none of those that go, where it is put into its place
pub filter-placed : (p : Descr → Bool) (d : Descr) (xs : List Descr) → p d ≡ false → filter p (placed d xs) ≡ filter p xs
filter-placed p d [] stays = ap (λ b. cond b (d ∷ []) []) stays
filter-placed p d (x ∷ xs) stays = by (is_lt (id_cmp d.id x.id)) (filter-placed p d xs stays)
  where
    by : (b : Bool) → filter p (placed d xs) ≡ filter p xs → filter p (cond b (d ∷ x ∷ xs) (x ∷ placed d xs)) ≡ filter p (x ∷ xs)
    by true rest = ap (λ b. cond b (d ∷ filter p (x ∷ xs)) (filter p (x ∷ xs))) stays
    by false rest = ap (λ ys. cond (p x) (x ∷ ys) ys) rest

pub apart-placed : (d : Descr) (xs : List Descr) → ((x : Descr) → Contains xs x → same_key (key d) (key x) ≡ false) → HaveKeysApart xs → HaveKeysApart (placed d xs)
apart-placed d [] new apart = (λ x h. absurd (Contains-nil x h), tt)
apart-placed d (x ∷ xs) new apart = by (is_lt (id_cmp d.id x.id)) (apart-placed d xs (λ y h. new y (Contains-later x xs y h)) apart.1)
  where
    by : (b : Bool) → HaveKeysApart (placed d xs) → HaveKeysApart (cond b (d ∷ x ∷ xs) (x ∷ placed d xs))
    by true rest = (new, apart)
    by false rest = (
      λ y h. ⊎_elim
          (λ (same : d ≡ y). subst (λ (z : Descr). same_key (key x) (key z) ≡ false) same (symmetric (key d) (key x) (new x (Contains-first x xs))))
          (λ old. apart.0 y old)
          (Contains-placed d xs y h),
      rest,
    )

-- what is left where a block came and others went
pub look-in-turn : (goes : Descr → Bool) (d : Descr) (xs : List Descr) (q : List ℕ) → goes d ≡ false → ((x : Descr) → Contains xs x → same_key (key d) (key x) ≡ false) → HaveKeysApart (placed d xs)
    → look (filter (λ x. not (goes x)) (placed d xs)) q ≡ option_or (look (d ∷ []) q) (cond (list_any (same_key q) (map key (filter goes xs))) None (look xs q))
look-in-turn goes d xs q stays new apart =
    look-filtered goes (placed d xs) q apart
    ∙ ap₂ (λ (ys : List Descr) (o : Option (List ℕ)). cond (list_any (same_key q) (map key ys)) None o) (filter-placed goes d xs stays) (look-placed d xs q new)
    ∙ by (same_key q (key d)) refl
  where
    by : (b : Bool) → same_key q (key d) ≡ b
        → cond (list_any (same_key q) (map key (filter goes xs))) None (option_or (cond b (Some (descr_text d)) None) (look xs q)) ≡ option_or (cond b (Some (descr_text d)) None) (cond (list_any (same_key q) (map key (filter goes xs))) None (look xs q))
    by true e =
        ap (λ b. cond b None (Some (descr_text d))) (none-dropped q (filter goes xs) (λ y h. let there = Contains-filter goes xs y h in other-of q (key d) (key y) e (new y there.0)))
    by false e = refl

-- the keys of blocks that go, and that of one that comes, are each another
pub once-going : (p : Descr → Bool) (d : Descr) (xs : List Descr) → HaveKeysApart xs → ((x : Descr) → Contains xs x → same_key (key d) (key x) ≡ false)
    → IsDistinct same_key (map key_of (map (λ x. x.id) (filter p xs)) ++ key d ∷ [])
unfolding IsDistinct
once-going p d [] apart new = (tt, tt)
once-going p d (x ∷ xs) apart new = by (p x) (once-going p d xs apart.1 (λ y h. new y (Contains-later x xs y h)))
  where
    off-all : (ys : List Descr) → ((y : Descr) → Contains ys y → same_key (key x) (key y) ≡ false) → AllByRecursion (λ k. same_key (key x) k ≡ false) (map key_of (map (λ (y : Descr). y.id) ys) ++ key d ∷ [])
    off-all [] off = (symmetric (key d) (key x) (new x (Contains-first x xs)), tt)
    off-all (y ∷ ys) off = (off y (Contains-first y ys), off-all ys (λ z h. off z (Contains-later y ys z h)))

    by : (b : Bool) → IsDistinct same_key (map key_of (map (λ (y : Descr). y.id) (filter p xs)) ++ key d ∷ []) → IsDistinct same_key (map key_of (map (λ (y : Descr). y.id) (cond b (x ∷ filter p xs) (filter p xs))) ++ key d ∷ [])
    by true rest = (off-all (filter p xs) (λ y h. let there = Contains-filter p xs y h in apart.0 y there.0), rest)
    by false rest = rest

-- none goes
pub filter-off : {A : Type 0} (p : A → Bool) (xs : List A) → list_any p xs ≡ false → filter p xs ≡ []
filter-off p [] none = refl
filter-off p (x ∷ xs) none = by (filter-off p xs) (p x) none
  where
    by : (list_any p xs ≡ false → filter p xs ≡ []) → (b : Bool) → (b || list_any p xs) ≡ false → cond b (x ∷ filter p xs) (filter p xs) ≡ []
    by rest true off = absurd (true≢false off)
    by rest false off = rest off

-- ---- whether a block goes

any-same : {A : Type 0} (p q : A → Bool) → ((x : A) → p x ≡ q x) → (xs : List A) → list_any p xs ≡ list_any q xs
any-same p q same [] = refl
any-same p q same (x ∷ xs) = ap₂ (λ a b. a || b) (same x) (any-same p q same xs)

and-regroup : (a b c : Bool) → (a && (b && c)) ≡ ((a && b) && c)
and-regroup true b c = refl
and-regroup false b c = refl

and-twice : (a b : Bool) → (a && b) ≡ ((a && a) && b)
and-twice true b = refl
and-twice false b = refl

module _ (w : World) (first : PinRow) (d : Descr) where
  abbrev off : PinRow → PinRow → Bool
  off row r = not (is_pin row.worker row.pin r)

  -- the first pin's block
  pub first-goes : goes_with w first d ≡ ((has_id first.block d && d.leaving) && not (is_pinned_besides first first first.block w.pins))
  first-goes = ap (λ b. (has_id first.block d && d.leaving) && not b)
      (any-filtered (off first) (names_block first.block) w.pins ∙ any-same (λ r. off first r && names_block first.block r) (λ r. (off first r && off first r) && names_block first.block r) (λ r. and-twice (off first r) (names_block first.block r)) w.pins)

  -- the second one's, once the first has ended
  pub second-goes : (second : PinRow) → goes_with (without_pin w first) second d ≡ ((has_id second.block d && d.leaving) && not (is_pinned_besides first second second.block w.pins))
  second-goes second = ap (λ b. (has_id second.block d && d.leaving) && not b)
      (any-filtered (off second) (names_block second.block) (filter (off first) w.pins)
      ∙ any-filtered (off first) (λ r. off second r && names_block second.block r) w.pins
      ∙ any-same (λ r. off first r && (off second r && names_block second.block r)) (λ r. (off first r && off second r) && names_block second.block r) (λ r. and-regroup (off first r) (off second r) (names_block second.block r)) w.pins)

or-off : (b : Bool) → (b || false) ≡ b
or-off true = refl
or-off false = refl

-- what is answered for one pin and for two
pub goes-first : (w : World) (first : PinRow) (rest : List PinRow) (d : Descr) → goes_with w first d ≡ true → true ≡ goes_in_turn w (first ∷ rest) d
goes-first w first rest d goes = sym (ap (λ b. b || goes_in_turn (without_pin w first) rest d) goes)

pub goes-second : (w : World) (first second : PinRow) (other : Option PinRow) (d : Descr) (b : Bool) → goes_with w first d ≡ false → other ≡ Some second → b ≡ goes_with (without_pin w first) second d → b ≡ goes_in_turn w (first ∷ option_to_list other) d
goes-second w first second other d b off is given =
    given ∙ sym (or-off (goes_with (without_pin w first) second d))
    ∙ sym (ap₂ (λ a (o : Option PinRow). a || goes_in_turn (without_pin w first) (option_to_list o) d) off is)

pub goes-none : (w : World) (first : PinRow) (other : Option PinRow) (d : Descr) → goes_with w first d ≡ false → other ≡ None → false ≡ goes_in_turn w (first ∷ option_to_list other) d
goes-none w first other d off is = sym (ap₂ (λ a (o : Option PinRow). a || goes_in_turn (without_pin w first) (option_to_list o) d) off is)

-- ---- a pin ends in the world

pub writable-without : (w : World) (row : PinRow) → IsWritable w → IsWritable (without_pin w row)
writable-without w row ready =
    let stays : Descr → Bool = λ d. not (goes_with w row d) in
    record {
      tidy = tidy-without_pin w ready.tidy row;
      fit = All-from_Contains IsDescrFit (filter stays w.blocks) (λ d h. let there = Contains-filter stays w.blocks d h in All-contains IsDescrFit w.blocks d ready.fit there.0);
      are = All-from_Contains IsDescr (filter stays w.blocks) (λ d h. let there = Contains-filter stays w.blocks d h in All-contains IsDescr w.blocks d ready.are there.0);
    }
