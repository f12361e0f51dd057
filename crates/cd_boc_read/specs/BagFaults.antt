-- Trusted: the first fault of bytes that are no bag, and what a reader answers.
use Rattle.std.specs.Prelude.{◌≡◌, ℕ, ◌<◌, ◌⊎◌, List, length, slice_index_or, Option, Some, None, Result, Ok, Err}
use Rattle.cd_base.specs.declared.hash.Hash256.{Hash256}
use Rattle.cd_boc_write.specs.Frames.{Frame}
use Rattle.cd_boc_write.specs.CellTexts.{Text}
use Rattle.cd_boc_read.specs.declared.bag_fault.BagFault.{BagFault}
use Rattle.cd_boc_read.specs.declared.bag_fault.BagFault.TheVariants.{Memory}
use Rattle.cd_boc_read.specs.Grammar.{IsText}
use Rattle.cd_boc_read.specs.Reading.{bag_at}
use Rattle.cd_boc_read.specs.CellFaults.{fault_of_texts}

-- each text is that of a cell with its number
abbrev pub AreTexts : List Text → Type 0
AreTexts ts = (k : ℕ) (d : Text) → k < length ts → IsText (length ts) k (slice_index_or ts k d)

module _ (H : List ℕ → Hash256) where
  -- the fault of the frame and the texts, or else the first fault of the cells
  abbrev pub fault_in : Result (Frame × List Text) BagFault → Option BagFault
  fault_in (Ok bag) = fault_of_texts H bag.1
  fault_in (Err e) = Some e

  -- the first fault of these bytes, if they are no bag
  abbrev pub bag_fault : List ℕ → Option BagFault
  bag_fault bytes = fault_in (bag_at bytes)

-- the answer is Ok exactly where there is no fault, and else that fault, but for want of memory
abbrev pub Answers : {A : Type 0} → Option BagFault → Result A BagFault → Type 0
Answers fault (Ok x) = fault ≡ None
Answers fault (Err e) = (e ≡ Memory) ⊎ (fault ≡ Some e)
