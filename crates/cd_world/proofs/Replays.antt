-- Replays of one list after another.
use Rattle.std.proofs.Common.{◌≡◌, List, [], ◌∷◌, ◌++◌, ℕ, refl, sym, ap, ◌∙◌, append_assoc, map}
use Rattle.std.specs.Prelude.{if◌then◌else◌, Option, Some, None, find}
use Rattle.std.specs.List.{filter}
use Rattle.std.specs.Option.{option_map, option_or, option_and_then}
use Rattle.std.specs.FinMap as finite
use Rattle.cd_cell.specs.Tree.{Tree}
use Rattle.cd_cell.specs.declared.new_cell.NewCell.{NewCell}
use Rattle.std.proofs.lemmas.List.{map-append}
use Rattle.cd_base.specs.declared.hash.Hash256.{Hash256}
use Rattle.cd_event.specs.declared.entry.Entry.{Entry}
use Rattle.cd_world.specs.declared.world.World.{World}
use Rattle.cd_event.specs.declared.event.Event.{Event}
use Rattle.cd_event.specs.declared.event.Event.TheVariants.{Zero, Pin, Look, Merge, Unpin, Expire}
use Rattle.cd_event.specs.declared.refusal.Refusal.{Refusal}
use Rattle.cd_event.specs.declared.refusal.Refusal.TheVariants as refusal
use Rattle.cd_world.specs.Machine.{replay, after, makes_batch, blocks_of, merge_rows}
use Rattle.cd_world.specs.Following.{IsOfCells, IsStoring, MayRefuse, Follows, AllFollow}
use Rattle.cd_world.specs.Told.{ToldWorld, held, count, seen, with_stored, least, is_other, clash_with, first_overflow, storing_refusal, cell_refusal, told_after, told_replay, FollowsTold, AllFollowTold, image}
use Rattle.cd_world.specs.Trail.{worlds_after, images}

module _ {X : Type 0} where
  pub replay-append : (w : World) (xs ys : List (Entry X)) → replay w (xs ++ ys) ≡ replay (replay w xs) ys
  replay-append w [] ys = refl
  replay-append w (x ∷ xs) ys = replay-append (after w x) xs ys

  module _ (H : List ℕ → Hash256) where
    pub all_follow-join : (w : World) (xs ys : List (Entry X)) → AllFollow H w xs → AllFollow H (replay w xs) ys → AllFollow H w (xs ++ ys)
    all_follow-join w [] ys f g = g
    all_follow-join w (x ∷ xs) ys f g = (f.0, all_follow-join (after w x) xs ys f.1 g)

    pub all_follow-first : (w : World) (xs ys : List (Entry X)) → AllFollow H w (xs ++ ys) → AllFollow H w xs
    all_follow-first w [] ys f = tt
    all_follow-first w (x ∷ xs) ys f = (f.0, all_follow-first (after w x) xs ys f.1)

    pub all_follow-later : (w : World) (xs ys : List (Entry X)) → AllFollow H w (xs ++ ys) → AllFollow H (replay w xs) ys
    all_follow-later w [] ys f = f
    all_follow-later w (x ∷ xs) ys f = all_follow-later (after w x) xs ys f.1

    pub told_replay-append : (t : ToldWorld) (xs ys : List (Entry X)) → told_replay H t (xs ++ ys) ≡ told_replay H (told_replay H t xs) ys
    told_replay-append t [] ys = refl
    told_replay-append t (x ∷ xs) ys = told_replay-append (told_after H t x) xs ys

    -- the told world's plain part is the plain replay
    pub told_replay-world : (t : ToldWorld) (es : List (Entry X)) → (told_replay H t es).world ≡ replay t.world es
    told_replay-world t [] = refl
    told_replay-world t (e ∷ es) = told_replay-world (told_after H t e) es

    pub told_follow-join : (limit : ℕ) (t : ToldWorld) (xs ys : List (Entry X)) → AllFollowTold H limit t xs → AllFollowTold H limit (told_replay H t xs) ys → AllFollowTold H limit t (xs ++ ys)
    told_follow-join limit t [] ys f g = g
    told_follow-join limit t (x ∷ xs) ys f g = (f.0, told_follow-join limit (told_after H t x) xs ys f.1 g)

    pub told_follow-first : (limit : ℕ) (t : ToldWorld) (xs ys : List (Entry X)) → AllFollowTold H limit t (xs ++ ys) → AllFollowTold H limit t xs
    told_follow-first limit t [] ys f = tt
    told_follow-first limit t (x ∷ xs) ys f = (f.0, told_follow-first limit (told_after H t x) xs ys f.1)

    pub told_follow-later : (limit : ℕ) (t : ToldWorld) (xs ys : List (Entry X)) → AllFollowTold H limit t (xs ++ ys) → AllFollowTold H limit (told_replay H t xs) ys
    told_follow-later limit t [] ys f = f
    told_follow-later limit t (x ∷ xs) ys f = told_follow-later limit (told_after H t x) xs ys f.1

    pub worlds_after-append : (t : ToldWorld) (xs ys : List (Entry X)) → worlds_after H t (xs ++ ys) ≡ worlds_after H t xs ++ worlds_after H (told_replay H t xs) ys
    worlds_after-append t [] ys = refl
    worlds_after-append t (x ∷ xs) ys = ap (λ rest. (if makes_batch x.reply then told_after H t x ∷ [] else []) ++ rest) (worlds_after-append (told_after H t x) xs ys)
        ∙ sym (append_assoc (if makes_batch x.reply then told_after H t x ∷ [] else []) (worlds_after H (told_after H t x) xs) (worlds_after H (told_replay H (told_after H t x) xs) ys))

    pub images-append : (t : ToldWorld) (xs ys : List (Entry X)) → images H t (xs ++ ys) ≡ images H t xs ++ images H (told_replay H t xs) ys
    images-append t xs ys = ap (map (image H)) (worlds_after-append t xs ys) ∙ map-append (image H) (worlds_after H t xs) (worlds_after H (told_replay H t xs) ys)

    -- ---- entries that follow with the trees follow without

    refuses-by : (event : Event X) → IsStoring event → (limit : ℕ) (t v : ToldWorld) (cells : List NewCell) → MayRefuse event (storing_refusal H limit t v cells)
    refuses-by event storing limit t v cells =
        by (option_and_then (clash_with H t) (least H (filter (λ c. is_other H (seen H t c.hash) c.face) cells))) (clashes-by (least H (filter (λ c. is_other H (seen H t c.hash) c.face) cells)))
        (first_overflow H limit t v) (overflows-by (find _ (finite.entries (held H v))))
      where
        IsCells : Option Refusal → Type 0
        IsCells None = Unit {0}
        IsCells (Some r) = IsOfCells r

        clashes-by : (o : Option NewCell) → IsCells (option_and_then (clash_with H t) o)
        clashes-by None = tt
        clashes-by (Some c) = elim (seen H t c.hash) as (λ o. IsCells (option_map (λ face. refusal.Clash c.hash face c.face) o)) [ None ↦ tt | Some face ↦ tt ]

        overflows-by : (o : Option (List ℕ × Tree)) → IsCells (option_map (λ e. refusal.CountFull (record { 0 = e.0 }) (count H v e.0)) o)
        overflows-by None = tt
        overflows-by (Some e) = tt

        by : (o : Option Refusal) → IsCells o → (p : Option Refusal) → IsCells p → MayRefuse event (option_or o p)
        by (Some r) of_cells p of_cells' = (storing, of_cells)
        by None of_cells (Some r) of_cells' = (storing, of_cells')
        by None of_cells None of_cells' = tt

    may_refuse : (limit : ℕ) (t : ToldWorld) (worker : ℕ) (event : Event X) → MayRefuse event (cell_refusal H limit t worker event)
    may_refuse limit t worker (Zero id tops p) = refuses-by (Zero id tops p) tt limit t (with_stored H t id [] tops p) p.cells
    may_refuse limit t worker (Pin id) = tt
    may_refuse limit t worker (Look pin asked) = tt
    may_refuse limit t worker (Merge pin other id tops p) =
        refuses-by (Merge pin other id tops p) tt limit t (with_stored H t id (blocks_of (merge_rows t.world worker pin other)) tops p) p.cells
    may_refuse limit t worker (Unpin pin) = tt
    may_refuse limit t worker (Expire id) = tt

    pub follows-told : (limit : ℕ) (t : ToldWorld) (e : Entry X) → FollowsTold H limit t e → Follows H t.world e
    follows-told limit t e follows = (cell_refusal H limit t e.who.worker e.event, may_refuse limit t e.who.worker e.event, follows)

    pub all_follow-told : (limit : ℕ) (t : ToldWorld) (es : List (Entry X)) → AllFollowTold H limit t es → AllFollow H t.world es
    all_follow-told limit t [] follow = tt
    all_follow-told limit t (e ∷ es) follow = (follows-told limit t e follow.0, all_follow-told limit (told_after H t e) es follow.1)
