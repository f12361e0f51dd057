-- A bag that is no state's is refused.
use Rattle.std.proofs.Common.{◌≡◌, ◌≤◌, ℕ, List, [], ◌∷◌, Bool, true, false, cond, Option, Some, None, length, nat_eq, refl, sym, ap, subst, ◌∙◌, ◌⊎◌, ⊎_elim, arith}
use Rattle.std.proofs.lemmas.Bool.{true≢false}
use Rattle.std.proofs.lemmas.Bool.Decides.{Decides-eqb}
use Rattle.std.proofs.lemmas.List.{length-map}
use Rattle.std.proofs.lemmas.Option.{same_Some}
use Rattle.cd_base.specs.declared.hash.Hash256.{Hash256}
use Rattle.cd_cell.specs.Tree.{Tree, mask_of}
use Rattle.cd_boc_read.specs.Grammar.{Spells}
use Rattle.cd_prepare.specs.declared.prepare_fault.PrepareFault.{PrepareFault}
use Rattle.cd_prepare.specs.declared.prepare_fault.PrepareFault.TheVariants as prepare
use Rattle.cd_prepare.specs.States.{root_count, state_fault}
use Rattle.cd_zero.specs.Zero.{status_of}
use Rattle.cd_zero.specs.ZeroCall.{IsRefusal}

module _ (H : List ℕ → Hash256) where
  few-trees : (bytes : List ℕ) (trees : List Tree) → Spells H bytes trees → length trees ≤ 1048576
  few-trees bytes trees s =
      let roots = simp length-map at (ap length s.are) in
      omega (arith, roots, s.bag.few_roots, s.bag.few_cells)

  level-fault : (bytes : List ℕ) (t : Tree) (b : Bool) (fault : PrepareFault) → Spells H bytes (t ∷ []) → nat_eq (mask_of H t) 0 ≡ b
      → cond {A = Option PrepareFault} b None (Some (prepare.Level (mask_of H t))) ≡ Some fault → IsRefusal H bytes (status_of fault)
  level-fault bytes t true fault s test e = absurd (let no : None ≡ Some fault = e in cc)
  level-fault bytes t false fault s test e =
      subst (λ f. IsRefusal H bytes (status_of f)) (same_Some (prepare.Level (mask_of H t)) fault e)
      (t, s, refl, λ none. true≢false (sym ((Decides-eqb (mask_of H t) 0).1 none) ∙ test))

  pub refused-bag : (bytes : List ℕ) (trees : List Tree) (fault : PrepareFault) → Spells H bytes trees → (fault ≡ prepare.Memory) ⊎ (state_fault H trees ≡ Some fault) → IsRefusal H bytes (status_of fault)
  refused-bag bytes trees fault s told = ⊎_elim (λ memory. subst (λ f. IsRefusal H bytes (status_of f)) (sym memory) tt) (by trees s) told
    where
      by : (trees : List Tree) → Spells H bytes trees → state_fault H trees ≡ Some fault → IsRefusal H bytes (status_of fault)
      by [] s e = subst (λ f. IsRefusal H bytes (status_of f)) (same_Some (prepare.Roots 0) fault e) ([], s, refl, λ one. omega (arith, one))
      by (t ∷ []) s e = level-fault bytes t (nat_eq (mask_of H t) 0) fault s refl e
      by (t ∷ u ∷ ts) s e =
          let few = few-trees bytes (t ∷ u ∷ ts) s in
          subst (λ f. IsRefusal H bytes (status_of f)) (same_Some (prepare.Roots (root_count (t ∷ u ∷ ts))) fault e)
          (t ∷ u ∷ ts, s, omega (arith, few), λ one. omega (arith, few, one))
