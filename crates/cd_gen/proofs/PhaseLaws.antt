-- The limits of the phases of a generated feed, and phases one after another.
use Rattle.std.proofs.Common.{◌≡◌, ℕ, ◌+◌, ◌-◌, ◌*◌, ◌/◌, ◌%◌, ◌^◌, ◌≤◌, ◌==◌, nat_lt, Bool, true, false, List, [], ◌∷◌, ◌++◌, length, map, refl, sym, ap, ◌∙◌, arith}
use Rattle.std.specs.Prelude.{if◌then◌else◌}
use Rattle.std.specs.List.{range_with_len, sum_by, AllByRecursion}
use Rattle.std.proofs.lemmas.Bool.{ltb-false}
use Rattle.std.proofs.lemmas.List.{length-map}
use Rattle.std.proofs.lemmas.List.FromFn.{map-range_with_len_more, length-range_with_len}
use Rattle.std.proofs.lemmas.List.Sums.{sum_by-append}
use Rattle.cd_block.specs.Shard.{is_master}
use Rattle.cd_block.specs.declared.block.BlockId.{BlockId}
use Rattle.cd_feed.specs.declared.feed.Task.TheVariants.{Expire, Read, Slice}
use Rattle.cd_feed.specs.declared.feed.Phase.{Phase}
use Rattle.cd_feed.specs.Feeds.{IsTopsFit, IsBagFit, IsPathFit, IsTaskFit, IsWorkerFit, IsPhaseFit, IsFeedFit, is_serve, worker_serves, phase_serves, feed_serves}
use Rattle.cd_gen.specs.Generated.{zero_bag, update_bag, block_id, shard_blocks, block_task, zero_phase, path_of, master_tasks, reading_tasks, expiring_tasks, block_phase, feed_of}

-- ---- within the limits

no_tops : (id : BlockId) → IsTopsFit id []
no_tops id = record { few = omega arith; on_master = λ some. absurd (omega (arith, some)) }

shard_tops : (number seqno : ℕ) → IsTopsFit (block_id number 0 seqno) (shard_blocks number seqno)
unfolding block_id is_master
shard_tops number seqno = record { few = omega arith; on_master = λ some. refl }

-- the bags of the zero states, and those of the blocks of a seqno
pub record AreZerosFit (number : ℕ) : Type 0 where
  pub master : IsBagFit (zero_bag number 0)
  pub left : IsBagFit (zero_bag number 1)
  pub right : IsBagFit (zero_bag number 2)

pub record AreBlocksFit (number seqno : ℕ) : Type 0 where
  pub master : seqno ≤ 66 → IsBagFit (update_bag number 0 seqno)
  pub left : IsBagFit (update_bag number 1 seqno)
  pub right : IsBagFit (update_bag number 2 seqno)

zero_fits : (number : ℕ) → AreZerosFit number → IsPhaseFit (zero_phase number)
unfolding zero_phase IsTaskFit
zero_fits number fit = record {
  some = omega arith;
  few = omega arith;
  workers = (record { few = omega arith; tasks = ((shard_tops number 0, fit.master), ((no_tops (block_id number 1 0), fit.left), ((no_tops (block_id number 2 0), fit.right), tt))) }, tt);
}

steps_fit : (leaf : ℕ) (steps : List ℕ) → AllByRecursion (λ step. step ≤ 3) (map (λ step. (leaf / 2 ^ (8 - step)) % 2) steps)
steps_fit leaf [] = tt
steps_fit leaf (step ∷ steps) = (omega arith, steps_fit leaf steps)

path_fits : (leaf : ℕ) → IsPathFit (path_of leaf)
path_fits leaf =
    let nine = length-map (range_with_len 0 9) (λ step. (leaf / 2 ^ (8 - step)) % 2) ∙ length-range_with_len 0 9 in
    record { short = omega (arith, nine); steps = steps_fit leaf (range_with_len 0 9) }

master_fits : (number seqno : ℕ) (last : Bool) → (last ≡ false → IsBagFit (update_bag number 0 seqno)) → IsWorkerFit (if last then [] else block_task number 0 seqno (shard_blocks number seqno) ∷ [])
unfolding IsTaskFit
master_fits number seqno true fits = record { few = omega arith; tasks = tt }
master_fits number seqno false fits = record { few = omega arith; tasks = ((shard_tops number seqno, fits refl), tt) }

reading_fits : (number seqno : ℕ) (test : Bool) → IsWorkerFit (Read (block_id number 1 (seqno - 1)) (path_of ((7 * seqno) % 512)) ∷ (if test then Slice (block_id number 2 (seqno - 1)) 4096 ∷ [] else []))
unfolding IsTaskFit
reading_fits number seqno true = record { few = omega arith; tasks = (path_fits ((7 * seqno) % 512), (record { some = omega arith; most = omega arith }, tt)) }
reading_fits number seqno false = record { few = omega arith; tasks = (path_fits ((7 * seqno) % 512), tt) }

expiring_fits : (number seqno : ℕ) (test : Bool) → IsWorkerFit (if test then Expire (block_id number 0 (seqno - 1)) ∷ [] else [])
unfolding IsTaskFit
expiring_fits number seqno true = record { few = omega arith; tasks = (tt, tt) }
expiring_fits number seqno false = record { few = omega arith; tasks = tt }

block_fits : (number chain seqno : ℕ) → IsBagFit (update_bag number chain seqno) → IsWorkerFit (block_task number chain seqno [] ∷ [])
unfolding IsTaskFit
block_fits number chain seqno fits = record { few = omega arith; tasks = ((no_tops (block_id number chain seqno), fits), tt) }

phase_fits : (number seqno : ℕ) → AreBlocksFit number seqno → IsPhaseFit (block_phase number seqno)
unfolding block_phase master_tasks reading_tasks expiring_tasks
phase_fits number seqno fit = record {
  some = omega arith;
  few = omega arith;
  workers = (
    block_fits number 1 seqno fit.left,
    (
      block_fits number 2 seqno fit.right,
      (
        master_fits number seqno (nat_lt 66 seqno) (λ e. fit.master (ltb-false 66 seqno e)),
        (reading_fits number seqno (seqno % 16 == 0), (expiring_fits number seqno (seqno % 8 == 0), tt)),
      ),
    ),
  );
}

-- ---- no task is a Serve

zero_serves : (number : ℕ) → phase_serves (zero_phase number) ≡ 0
unfolding phase_serves worker_serves is_serve zero_phase
zero_serves number = refl

serves_of : (number seqno : ℕ) (last sliced expired : Bool)
    → phase_serves (record {
      workers = (block_task number 1 seqno [] ∷ []) ∷ (block_task number 2 seqno [] ∷ [])
          ∷ (if last then [] else block_task number 0 seqno (shard_blocks number seqno) ∷ [])
          ∷ (Read (block_id number 1 (seqno - 1)) (path_of ((7 * seqno) % 512)) ∷ (if sliced then Slice (block_id number 2 (seqno - 1)) 4096 ∷ [] else []))
          ∷ (if expired then Expire (block_id number 0 (seqno - 1)) ∷ [] else []) ∷ [];
    }) ≡ 0
unfolding phase_serves worker_serves is_serve
serves_of number seqno true true true = refl
serves_of number seqno true true false = refl
serves_of number seqno true false true = refl
serves_of number seqno true false false = refl
serves_of number seqno false true true = refl
serves_of number seqno false true false = refl
serves_of number seqno false false true = refl
serves_of number seqno false false false = refl

block_serves : (number seqno : ℕ) → phase_serves (block_phase number seqno) ≡ 0
unfolding block_phase master_tasks reading_tasks expiring_tasks
block_serves number seqno = serves_of number seqno (nat_lt 66 seqno) (seqno % 16 == 0) (seqno % 8 == 0)

-- ---- phases one after another

-- the phases with the blocks of so many seqnos
pub record AreSoFar (number : ℕ) (phases : List Phase) (count : ℕ) : Type 0 where
  pub made : phases ≡ zero_phase number ∷ map (block_phase number) (range_with_len 1 count)
  pub fit : AllByRecursion IsPhaseFit phases
  pub unserved : sum_by phase_serves phases ≡ 0

fits_push : {X : Type 0} (P : X → Type 0) (xs : List X) (x : X) → AllByRecursion P xs → P x → AllByRecursion P (xs ++ x ∷ [])
fits_push P [] x all one = (one, tt)
fits_push P (y ∷ xs) x all one = (all.0, fits_push P xs x all.1 one)

pub first_phase : (number : ℕ) → AreZerosFit number → AreSoFar number (zero_phase number ∷ []) 0
first_phase number fit = record {
  made = refl;
  fit = (zero_fits number fit, tt);
  unserved = rw (zero_serves number) refl;
}

pub next_phase : (number : ℕ) (phases : List Phase) (count seqno : ℕ) → 1 + count ≡ seqno → AreBlocksFit number seqno → AreSoFar number phases count → AreSoFar number (phases ++ block_phase number seqno ∷ []) (count + 1)
next_phase number phases count seqno next fit before = record {
  made = ap (λ ps. ps ++ block_phase number seqno ∷ []) before.made ∙ ap (λ ps. zero_phase number ∷ ps) (sym (map-range_with_len_more (block_phase number) 1 count seqno next));
  fit = fits_push IsPhaseFit phases (block_phase number seqno) before.fit (phase_fits number seqno fit);
  unserved =
      sum_by-append phase_serves phases (block_phase number seqno ∷ [])
      ∙ rw (before.unserved, block_serves number seqno) refl;
}

pub all_made : (number : ℕ) (phases : List Phase) → AreSoFar number phases 67 → record { phases = phases } ≡ feed_of number
unfolding feed_of
all_made number phases all = ap (λ ps. record { phases = ps }) all.made

pub all_fit : (number : ℕ) (phases : List Phase) → AreSoFar number phases 67 → IsFeedFit (record { phases = phases })
unfolding feed_serves
all_fit number phases all =
    let len = ap length all.made ∙ ap (λ n. 1 + n) (length-map (range_with_len 1 67) (block_phase number) ∙ length-range_with_len 1 67) in
    record { few = omega (arith, len); phases = all.fit; serves = omega (arith, all.unserved) }
