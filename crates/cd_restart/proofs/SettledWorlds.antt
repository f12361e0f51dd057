-- The worlds on the way from a stop to the settled world, one step at a time.
use Rattle.std.proofs.Common.{◌≡◌, Bool, true, false, cond, not, List, [], ◌∷◌, ◌++◌, map, Some, None, refl, sym, ap, ◌∙◌, append_assoc, append-nil}
use Rattle.std.specs.Prelude.{find}
use Rattle.std.specs.List.{filter}
use Rattle.std.proofs.lemmas.Option.{none-some}
use Rattle.cd_block.specs.declared.description.Descr.{Descr}
use Rattle.cd_world.specs.declared.world.World.{World}
use Rattle.cd_world.specs.Changes.{settling, settled, blocks_settling}
use Rattle.cd_core.specs.Cores.{opened}
use Rattle.cd_core.specs.Settling.{is_leaving, without_first, first_leaving, without_leaving}
use Rattle.cd_restart.specs.Settled.{IsOnTheWay}

-- the first step is without the first leaving block
steps : (over bs : List Descr) (d : Descr) → find is_leaving bs ≡ Some d
    → blocks_settling over bs ≡ (over ++ without_first is_leaving bs) ∷ blocks_settling over (without_first is_leaving bs)
steps over [] d found = absurd (none-some d found)
steps over (b ∷ bs) d found = by b.leaving refl found (λ later. steps (over ++ b ∷ []) bs d later)
  where
    by : (x : Bool) → b.leaving ≡ x → cond x (Some b) (find is_leaving bs) ≡ Some d
        → (find is_leaving bs ≡ Some d → blocks_settling (over ++ b ∷ []) bs ≡ ((over ++ b ∷ []) ++ without_first is_leaving bs) ∷ blocks_settling (over ++ b ∷ []) (without_first is_leaving bs))
        → cond b.leaving ((over ++ bs) ∷ blocks_settling over bs) (blocks_settling (over ++ b ∷ []) bs)
        ≡ (over ++ cond b.leaving bs (b ∷ without_first is_leaving bs)) ∷ blocks_settling over (cond b.leaving bs (b ∷ without_first is_leaving bs))
    by true is at more =
        ap (λ x. cond x ((over ++ bs) ∷ blocks_settling over bs) (blocks_settling (over ++ b ∷ []) bs)) is
        ∙ sym (ap (λ x. (over ++ cond x bs (b ∷ without_first is_leaving bs)) ∷ blocks_settling over (cond x bs (b ∷ without_first is_leaving bs))) is)
    by false is at more =
        let left = without_first is_leaving bs in
        let later : blocks_settling over (b ∷ left) ≡ blocks_settling (over ++ b ∷ []) left =
        ap (λ x. cond x ((over ++ left) ∷ blocks_settling over left) (blocks_settling (over ++ b ∷ []) left)) is in
        ap (λ x. cond x ((over ++ bs) ∷ blocks_settling over bs) (blocks_settling (over ++ b ∷ []) bs)) is
        ∙ more at
        ∙ ap (λ ds. ds ∷ blocks_settling (over ++ b ∷ []) left) (append_assoc over (b ∷ []) left)
        ∙ ap (λ rest. (over ++ b ∷ left) ∷ rest) (sym later)
        ∙ sym (ap (λ x. (over ++ cond x bs (b ∷ left)) ∷ blocks_settling over (cond x bs (b ∷ left))) is)

-- and there is none without one
stays : (over bs : List Descr) → find is_leaving bs ≡ None → blocks_settling over bs ≡ []
stays over [] none = refl
stays over (b ∷ bs) none = by b.leaving refl none (λ later. stays (over ++ b ∷ []) bs later)
  where
    by : (x : Bool) → b.leaving ≡ x → cond x (Some b) (find is_leaving bs) ≡ None → (find is_leaving bs ≡ None → blocks_settling (over ++ b ∷ []) bs ≡ [])
        → cond b.leaving ((over ++ bs) ∷ blocks_settling over bs) (blocks_settling (over ++ b ∷ []) bs) ≡ []
    by true is none more = absurd (none-some b (sym none))
    by false is none more = ap (λ x. cond x ((over ++ bs) ∷ blocks_settling over bs) (blocks_settling (over ++ b ∷ []) bs)) is ∙ more none

-- the blocks that stay are the same
kept-still : (bs : List Descr) → filter (λ d. not d.leaving) (without_first is_leaving bs) ≡ filter (λ d. not d.leaving) bs
kept-still [] = refl
kept-still (b ∷ bs) = by b.leaving refl (kept-still bs)
  where
    by : (x : Bool) → b.leaving ≡ x → filter (λ d. not d.leaving) (without_first is_leaving bs) ≡ filter (λ d. not d.leaving) bs
        → filter (λ d. not d.leaving) (cond b.leaving bs (b ∷ without_first is_leaving bs)) ≡ filter (λ d. not d.leaving) (b ∷ bs)
    by true is rest =
        ap (λ x. filter (λ d. not d.leaving) (cond x bs (b ∷ without_first is_leaving bs))) is
        ∙ sym (ap (λ x. cond (not x) (b ∷ filter (λ d. not d.leaving) bs) (filter (λ d. not d.leaving) bs)) is)
    by false is rest =
        ap (λ x. filter (λ d. not d.leaving) (cond x bs (b ∷ without_first is_leaving bs))) is
        ∙ ap (λ ds. cond (not b.leaving) (b ∷ ds) ds) rest

all-kept : (bs : List Descr) → find is_leaving bs ≡ None → filter (λ d. not d.leaving) bs ≡ bs
all-kept [] none = refl
all-kept (b ∷ bs) none = by b.leaving refl none (all-kept bs)
  where
    by : (x : Bool) → b.leaving ≡ x → cond x (Some b) (find is_leaving bs) ≡ None → (find is_leaving bs ≡ None → filter (λ d. not d.leaving) bs ≡ bs)
        → filter (λ d. not d.leaving) (b ∷ bs) ≡ b ∷ bs
    by true is none more = absurd (none-some b (sym none))
    by false is none more =
        ap (λ x. cond (not x) (b ∷ filter (λ d. not d.leaving) bs) (filter (λ d. not d.leaving) bs)) is ∙ ap (λ ds. b ∷ ds) (more none)

-- ---- worlds

pub settling-step : (w : World) (d : Descr) → first_leaving w ≡ Some d → settling w ≡ without_leaving w ∷ settling (without_leaving w)
settling-step w d found = ap (map opened) (steps [] w.blocks d found)

pub settling-end : (w : World) → first_leaving w ≡ None → settling w ≡ []
settling-end w none = ap (map opened) (stays [] w.blocks none)

pub settled-step : (w : World) → settled (without_leaving w) ≡ settled w
settled-step w = ap opened (kept-still w.blocks)

pub settled-end : (w : World) → w ≡ opened w.blocks → first_leaving w ≡ None → settled w ≡ w
settled-end w bare none = ap opened (all-kept w.blocks none) ∙ sym bare

-- ---- the way

pub way-start : (w : World) → IsOnTheWay w w []
way-start w = record { rest = refl; end = refl }

pub way-step : (first left : World) (passed : List World) (d : Descr) → IsOnTheWay first left passed → first_leaving left ≡ Some d
    → IsOnTheWay first (without_leaving left) (passed ++ without_leaving left ∷ [])
way-step first left passed d way found = record {
  rest = way.rest ∙ ap (λ ws. passed ++ ws) (settling-step left d found) ∙ sym (append_assoc passed (without_leaving left ∷ []) (settling (without_leaving left)));
  end = settled-step left ∙ way.end;
}

-- nothing is left to settle
pub way-end : (first left : World) (passed : List World) → IsOnTheWay first left passed → left ≡ opened left.blocks → first_leaving left ≡ None
    → (left ≡ settled first) × (passed ≡ settling first)
way-end first left passed way bare none = (
  sym (settled-end left bare none) ∙ way.end,
  sym (way.rest ∙ ap (λ ws. passed ++ ws) (settling-end left none) ∙ append-nil passed),
)
