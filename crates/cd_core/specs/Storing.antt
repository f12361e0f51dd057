-- Inner: a state's block that is stored: why it isn't, and what a plan's batch does.
use Rattle.std.specs.Prelude.{◌≡◌, ℕ, List, [], ◌∷◌, map, Option, Some, None, Result, Ok, Err}
use Rattle.cd_block.specs.declared.block.BlockId.{BlockId}
use Rattle.cd_block.specs.declared.description.Descr.{Descr}
use Rattle.cd_block.specs.Block.{key_of}
use Rattle.cd_keeper.specs.Contents.{Contents, Change}
use Rattle.cd_keeper.specs.Keeping.{IsApplied}
use Rattle.cd_event.specs.declared.faults.ZeroFault.{ZeroFault}
use Rattle.cd_event.specs.declared.faults.ZeroFault.TheVariants as zero
use Rattle.cd_event.specs.declared.faults.MergeFault.{MergeFault}
use Rattle.cd_event.specs.declared.faults.MergeFault.TheVariants as merge
use Rattle.cd_event.specs.declared.refusal.Refusal.{Refusal}
use Rattle.cd_event.specs.declared.refusal.Refusal.TheVariants as refusal
use Rattle.cd_count.specs.declared.count_fault.CountFault.{CountFault}
use Rattle.cd_count.specs.declared.count_fault.CountFault.TheVariants as count
use Rattle.cd_count.specs.Changes.{Rows, IsCellBatch}
use Rattle.cd_count.specs.PlanRows.{descr_puts, AreOfBytes}

-- ---- refusals

-- what the world alone refuses of a zero state
abbrev pub IsOfWorld : ZeroFault → Type 0
IsOfWorld zero.Known = Unit {0}
IsOfWorld (zero.Lineage fault) = Unit {0}
IsOfWorld (zero.ZeroHash stated real) = Unit {0}
IsOfWorld _ = ⊥

-- a plan's fault as that of a call
abbrev pub zero_of : CountFault → ZeroFault
zero_of (count.Clash hash stored offered) = zero.Clash hash stored offered
zero_of (count.CountFull hash n) = zero.CountFull hash n
zero_of count.Keeper = zero.Keeper
zero_of count.Memory = zero.Memory

abbrev pub merge_of : CountFault → MergeFault
merge_of (count.Clash hash stored offered) = merge.Clash hash stored offered
merge_of (count.CountFull hash n) = merge.CountFull hash n
merge_of count.Keeper = merge.Keeper
merge_of count.Memory = merge.Memory

-- the cells refuse exactly what the plan does, unless the keeper fails or memory is wanting
abbrev pub IsJudged : {T : Type 0} → Option Refusal → Result T CountFault → Type 0
IsJudged cells (Ok plan) = cells ≡ None
IsJudged cells (Err (count.Clash hash stored offered)) = cells ≡ Some (refusal.Clash hash stored offered)
IsJudged cells (Err (count.CountFull hash n)) = cells ≡ Some (refusal.CountFull hash n)
IsJudged cells (Err count.Keeper) = Unit {0}
IsJudged cells (Err count.Memory) = Unit {0}

-- ---- batches

module _ {K : Type 0} (held : K → Option Contents) (trail : K → Option (List Contents)) (batches : K → ℕ) where
  -- a plan's batch was made, with the description of one block, and without those of some others
  pub record IsPlanMade (plan : Rows) (put : Descr) (gone : List BlockId) (k k' : K) : Type 0 where
    pub change : Change
    pub cells : IsCellBatch plan change
    pub puts : change.put_descs ≡ descr_puts (put ∷ [])
    pub drops : change.drop_descs ≡ map key_of gone
    pub bytes : AreOfBytes change.put_cells
    pub applied : IsApplied held trail batches change k k'
