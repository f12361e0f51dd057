-- Pairing compares the old root first, and then the cells of the old half with what was found for them.
use Rattle.std.proofs.Common.{◌≡◌, Option, None, Result, Ok, Err, ap, sym, ◌∙◌, inl, ◌⊎◌, List, ℕ}
use Rattle.std.specs.Prelude.{IfErr}
use Rattle.std.specs.Option.{option_or, option_map}
use Rattle.cd_base.specs.declared.hash.Hash256.{Hash256}
use Rattle.cd_cell.specs.declared.info.ChildInfo.{ChildInfo}
use Rattle.cd_cell.specs.Levels.{stated_hash}
use Rattle.cd_cell.specs.CellFaults.{stated_depth_of_kid}
use Rattle.cd_cell.specs.Tree.{Tree, face_of}
use Rattle.cd_cell.specs.Updates.{Misfit, UpdateRefusal, old_half, half_of}
use Rattle.cd_update.specs.declared.pair_fault.PairFault.{PairFault}
use Rattle.cd_update.specs.declared.pair_fault.PairFault.TheVariants.{Memory}
use Rattle.cd_update.specs.Answers.{refusal_of_pairing, PairAnswers}
use Rattle.cd_update.specs.Pairing.{root_refusal, half_root_refusal}
use Rattle.cd_update.proofs.HalfVisits.{IsUpdateTree, or-refused, refused-later, refused-as}
use Rattle.cd_update.proofs.OldTrees.{refusal-half}

-- nothing but want of memory is left
pub paired-end : {A : Type 0} (r : Result A PairFault) (o : Option UpdateRefusal) → o ≡ None → IfErr r (λ fault. fault ≡ Memory) → PairAnswers o r
paired-end (Ok x) o none memory = none
paired-end (Err fault) o none memory = inl memory

module _ {H : List ℕ → Hash256} {u : Tree} (update : IsUpdateTree H u) (root : ChildInfo) (found : Option Misfit) where
  abbrev pub refusal : Option UpdateRefusal
  refusal = option_or (root_refusal (stated_hash (face_of H u) 1) (stated_depth_of_kid (face_of H u) 0) root) (option_map (λ x. old_half x) found)

  split : refusal ≡ option_or (half_root_refusal H (half_of u 0) root) (option_map (λ x. old_half x) found)
  split = refusal-half H u update.well update.kind root found

  pub refused-root : (fault : PairFault) → (fault ≡ Memory) ⊎ (refusal_of_pairing fault ≡ half_root_refusal H (half_of u 0) root) → (fault ≡ Memory) ⊎ (refusal_of_pairing fault ≡ refusal)
  refused-root fault h =
      let here = half_root_refusal H (half_of u 0) root in
      let later = option_map (λ x. old_half x) found in
      refused-as fault (option_or here later) refusal (sym split) (or-refused fault here later h)

  module _ (stated : half_root_refusal H (half_of u 0) root ≡ None) where
    pub refused-cell : (fault : PairFault) → (fault ≡ Memory) ⊎ (refusal_of_pairing fault ≡ option_map (λ x. old_half x) found) → (fault ≡ Memory) ⊎ (refusal_of_pairing fault ≡ refusal)
    refused-cell fault h =
        let here = half_root_refusal H (half_of u 0) root in
        let later = option_map (λ x. old_half x) found in
        refused-as fault (option_or here later) refusal (sym split) (refused-later fault here later stated h)

    pub not-refused : option_map (λ x. old_half x) found ≡ None → refusal ≡ None
    not-refused none = split ∙ ap (λ o. option_or o (option_map (λ x. old_half x) found)) stated ∙ none
