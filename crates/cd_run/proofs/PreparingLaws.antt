-- What bags give to prepare.
use Rattle.std.proofs.Common.{◌≡◌, ◌≢◌, ◌⊎◌, ⊎_elim, ℕ, List, [], ◌∷◌, Option, Some, None, Err, refl, sym, subst}
use Rattle.cd_base.specs.declared.hash.Hash256.{Hash256}
use Rattle.cd_cell.specs.PreparedView.{PreparedView}
use Rattle.cd_cell.specs.Tree.{Tree}
use Rattle.cd_boc_read.specs.declared.bag_fault.BagFault.{BagFault}
use Rattle.cd_boc_read.specs.declared.bag_fault.BagFault.TheVariants as bag
use Rattle.cd_boc_read.specs.Grammar.{Spells}
use Rattle.cd_prepare.specs.declared.prepare_fault.PrepareFault.{PrepareFault}
use Rattle.cd_prepare.specs.declared.prepare_fault.PrepareFault.TheVariants as prepare
use Rattle.cd_prepare.specs.States.{state_fault, IsWhole}
use Rattle.cd_run.specs.declared.outcome.TaskRefusal.{TaskRefusal}
use Rattle.cd_run.specs.declared.outcome.TaskRefusal.TheVariants as word
use Rattle.cd_run.specs.declared.words.Stop.{Stop}
use Rattle.cd_run.specs.declared.words.Stop.TheVariants as stop
use Rattle.cd_run.specs.Words.{prepare_word}
use Rattle.cd_run.specs.Ends.{stopped, IsBagStop}
use Rattle.cd_run.specs.Prepared.{IsStateOf, no_state}
use Rattle.cd_run.specs.Stages.{StateBy}

-- a fault's word, where there is one
pub by_word : (P : Stop → Type 0) (o : Option TaskRefusal) → P stop.Memory → ((why : TaskRefusal) → o ≡ Some why → P (stop.Refused why)) → P (stopped o)
by_word P None none some = none
by_word P (Some why) none some = some why refl

-- a bag's fault is its word, or want of memory
pub by_bag : (P : Stop → Type 0) (fault : BagFault) (found : Option BagFault) (why : Stop) → IsBagStop fault why → (fault ≡ bag.Memory) ⊎ (found ≡ Some fault)
    → P stop.Memory → (found ≡ Some fault → P (stop.Refused word.Bag)) → P why
by_bag P fault found why stopped is none some = ⊎_elim
    (λ (memory : (fault ≡ bag.Memory) × (why ≡ stop.Memory)). subst P (sym memory.1) none)
    (λ (other : (fault ≢ bag.Memory) × (why ≡ stop.Refused word.Bag)). subst P (sym other.1)
    (⊎_elim (λ (e : fault ≡ bag.Memory). absurd (other.0 e)) (λ (e : found ≡ Some fault). some e) is))
    stopped

module _ (digest : List ℕ → Hash256) (bytes : List ℕ) where
  one_tree : (trees : List Tree) → state_fault digest trees ≡ None → (t : Tree) × (trees ≡ t ∷ [])
  one_tree [] none = cc
  one_tree (t ∷ []) none = (t, refl)
  one_tree (t ∷ u ∷ ts) none = cc

  pub state_is : (trees : List Tree) (p : PreparedView) → Spells digest bytes trees → state_fault digest trees ≡ None → p.old ≡ None
      → ((t : Tree) → trees ≡ t ∷ [] → IsWhole digest t p.root p.cells) → IsStateOf digest bytes p
  state_is trees p spelled none old whole =
      let t = one_tree trees none in
      record {
        state = t.0;
        spelled = subst (Spells digest bytes) t.1 spelled;
        no_fault = subst (λ ts. state_fault digest ts ≡ None) t.1 none;
        no_old = old;
        whole = whole t.0 t.1;
      }

  pub no_state_is : (trees : List Tree) (fault : PrepareFault) → Spells digest bytes trees → (fault ≡ prepare.Memory) ⊎ (state_fault digest trees ≡ Some fault)
      → StateBy digest bytes (Err (stopped (prepare_word fault)))
  no_state_is trees fault spelled is = ⊎_elim
      (λ (e : fault ≡ prepare.Memory). subst (λ f. StateBy digest bytes (Err (stopped (prepare_word f)))) (sym e) tt)
      (λ (e : state_fault digest trees ≡ Some fault).
      by_word (λ s. StateBy digest bytes (Err s)) (prepare_word fault) tt (λ why word_is. no_state trees fault spelled e word_is))
      is
