-- Blocks that are read in the order of their keys stand in the order of their ids.
use Rattle.std.proofs.Common.{◌≡◌, ℕ, List, [], ◌∷◌, ◌++◌, Option, Some, None, All, Contains, subst, ◌∙◌, ⊎_elim, arith}
use Rattle.std.proofs.lemmas.List.Elements.{Contains-append_cases}
use Rattle.cd_block.specs.declared.description.Descr.{Descr}
use Rattle.cd_block.specs.Block.{key_of}
use Rattle.cd_block.specs.Description.{IsDescr, IsDescrFit}
use Rattle.cd_block.proofs.Order.{id_cmp_is}
use Rattle.cd_cell.proofs.Subtrees.{Contains-cases}
use Rattle.cd_world.specs.Standing.{IsBeforeBlock}
use Rattle.cd_world.proofs.Orders.{id_cmp-total, InOrder-push, AllPairs-from_order, order_from_AllPairs, All-from_Contains}
use Rattle.cd_world.proofs.Tables.{less_of}
use Rattle.cd_restart.specs.Walks.{IsBlockAbove, AreBlocksTo}

nothing-in : {A : Type 0} (x : A) → Contains [] x → ⊥
nothing-in x h = let below = h.1 in omega (arith, below)

only-in : {A : Type 0} (x y : A) → Contains (x ∷ []) y → x ≡ y
only-in x y h = ⊎_elim (λ same. same) (λ later. absurd (nothing-in y later)) (Contains-cases x [] y h)

pub none-to : AreBlocksTo None []
none-to = record {
  are = λ d h. absurd (nothing-in d h);
  ordered = λ i j d below within. absurd (omega arith);
  below = λ d next h above. absurd (nothing-in d h);
}

-- a block above another's key has the greater id
above-before : (d next : Descr) → IsDescr d → IsBlockAbove (Some (key_of d.id)) next → IsBeforeBlock d next
above-before d next is above = let named = above.is in id_cmp_is d.id next.id is.id named.id ∙ less_of _ above.above

module _ (after : Option (List ℕ)) (blocks : List Descr) where
  pub more-to : (d : Descr) → AreBlocksTo after blocks → IsBlockAbove after d → AreBlocksTo (Some (key_of d.id)) (blocks ++ d ∷ [])
  more-to d so above = record {
    are = λ x h. ⊎_elim (so.are x) (λ last. subst (λ (y : Descr). IsDescr y × IsDescrFit y) (only-in d x last) (above.is, above.fit)) (Contains-append_cases blocks (d ∷ []) x h);
    ordered = AllPairs-from_order IsBeforeBlock _ (InOrder-push IsBeforeBlock blocks d (order_from_AllPairs IsBeforeBlock blocks so.ordered) (λ x h. so.below x d h above));
    below = λ x next h later.
        let last = above-before d next above.is later in
        ⊎_elim (λ there. id_cmp-total.trans x.id d.id next.id (so.below x d there above) last)
        (λ here. subst (λ (y : Descr). IsBeforeBlock y next) (only-in d x here) last) (Contains-append_cases blocks (d ∷ []) x h);
  }

  pub fit-to : AreBlocksTo after blocks → All IsDescrFit blocks
  fit-to so = All-from_Contains IsDescrFit blocks (λ d h. let both = so.are d h in both.1)
