-- Trusted: what the calls on an update answer: Ok exactly where nothing is refused, and else the refusal. Want of memory
-- says nothing of the update.
use Rattle.std.specs.Prelude.{◌≡◌, ◌⊎◌, Option, Some, None, Result, Ok, Err}
use Rattle.std.specs.Option.{option_map}
use Rattle.cd_base.specs.declared.hash.Hash256.{Hash256}
use Rattle.cd_cell.specs.Updates.{UpdateRefusal, old_hash, old_depth, old_half}
use Rattle.cd_update.specs.declared.graft_fault.GraftFault.{GraftFault}
use Rattle.cd_update.specs.declared.graft_fault.GraftFault.TheVariants as graft
use Rattle.cd_update.specs.declared.pair_fault.PairFault.{PairFault}
use Rattle.cd_update.specs.declared.pair_fault.PairFault.TheVariants.{OldHash, OldDepth, OldHalf, Memory}

abbrev pub refusal_of_pairing : PairFault → Option UpdateRefusal
refusal_of_pairing (OldHash stated real) = Some (old_hash stated real)
refusal_of_pairing (OldDepth stated real) = Some (old_depth stated real)
refusal_of_pairing (OldHalf hash stored shown) = Some (old_half (record { hash = hash; stored = stored; shown = shown }))
refusal_of_pairing Memory = None

abbrev pub PairAnswers : {A : Type 0} → Option UpdateRefusal → Result A PairFault → Type 0
PairAnswers refusal (Ok x) = refusal ≡ None
PairAnswers refusal (Err fault) = (fault ≡ Memory) ⊎ (refusal_of_pairing fault ≡ refusal)

-- refused is the hash of a hidden cell that isn't known
abbrev pub GraftAnswers : {A : Type 0} → Option Hash256 → Result A GraftFault → Type 0
GraftAnswers hash (Ok x) = hash ≡ None
GraftAnswers hash (Err fault) = (fault ≡ graft.Memory) ⊎ (option_map graft.Foreign hash ≡ Some fault)
