-- Trusted: keepers in memory, as contracts see them.
use Rattle.std.specs.Prelude.{◌≡◌, ◌↔◌, ℕ, List, [], ◌∷◌, Vec, Result, Ok, Err, IsErrOf, Contains, fold, refl}
use Rattle.std.specs.Global.{Global}
use Rattle.std.specs.Coded.{Coded, coded_ℕ, coded_list, coded×, code_by}
use Rattle.std.specs.FinMap as finite
use Rattle.cd_base.specs.Counts.{one_more}
use Rattle.cd_keeper.specs.declared.fault.KeepFault.{KeepFault}
use Rattle.cd_keeper.specs.declared.fault.KeepFault.TheVariants.{Failed, Memory}
use Rattle.cd_base.specs.declared.hash.Hash256.{Hash256}
use Rattle.cd_keeper.specs.Contents.{Contents, Change, coded_contents, put_all, changed}
use Rattle.cd_keeper.specs.Shown.{entries_of, hash_bytes, desc_bytes}

-- what a keeper holds that never fails, and how many batches and reads it had
pub record SteadyView : Type 0 where
  pub contents : Contents
  pub batches : ℕ
  pub reads : ℕ

abbrev pub coded_steady : Coded SteadyView
coded_steady = code_by (Contents × (ℕ × ℕ)) (coded× coded_contents (coded× coded_ℕ coded_ℕ)) (λ s. (s.contents, (s.batches, s.reads))) (λ p. record { contents = p.0; batches = p.1.0; reads = p.1.1 }) (λ _. refl)

-- what a keeper held before its first batch and after each batch, the numbers of the calls that fail, the number of the next call, and how many faults and reads it had
pub record MemoryView : Type 0 where
  pub start : Contents
  pub trail : List Contents
  pub fails : List ℕ
  pub calls : ℕ
  pub faults : ℕ
  pub reads : ℕ

abbrev pub coded_memory : Coded MemoryView
coded_memory = code_by (Contents × (List Contents × (List ℕ × (ℕ × (ℕ × ℕ))))) (coded× coded_contents (coded× (coded_list coded_contents) (coded× (coded_list coded_ℕ) (coded× coded_ℕ (coded× coded_ℕ coded_ℕ))))) (λ m. (m.start, (m.trail, (m.fails, (m.calls, (m.faults, m.reads)))))) (λ p. record { start = p.0; trail = p.1.0; fails = p.1.1.0; calls = p.1.1.1.0; faults = p.1.1.1.1.0; reads = p.1.1.1.1.1 }) (λ _. refl)

-- the last contents of a trail, or those before it
abbrev pub last_of : Contents → List Contents → Contents
last_of contents [] = contents
last_of contents (next ∷ trail) = last_of next trail

-- what a keeper holds
abbrev pub held_by : MemoryView → Contents
held_by m = last_of m.start m.trail

-- the contents after each of some changes
abbrev pub trail_of : Contents → List Change → List Contents
trail_of contents [] = []
trail_of contents (change ∷ changes) = changed change contents ∷ trail_of (changed change contents) changes

-- the contents after all of some changes
abbrev pub after_all : Contents → List Change → Contents
after_all contents changes = fold (λ c change. changed change c) contents changes

-- the contents that raw puts make
abbrev pub raw_contents : List (Hash256 × Vec ℕ Global) → List (List ℕ × Vec ℕ Global) → Contents
raw_contents cells descs = record { cells = put_all finite.empty (entries_of hash_bytes cells); descs = put_all finite.empty (entries_of desc_bytes descs) }

-- contents with raw bytes under a key
abbrev pub with_cell : Contents → List ℕ → List ℕ → Contents
with_cell contents key value = record contents { cells = finite.insert contents.cells key value }

abbrev pub with_desc : Contents → List ℕ → List ℕ → Contents
with_desc contents key value = record contents { descs = finite.insert contents.descs key value }

-- the count of faults after a call with this result
abbrev pub faults_after : {T : Type 0} → ℕ → Result T KeepFault → ℕ
faults_after faults (Ok x) = faults
faults_after faults (Err Failed) = one_more faults
faults_after faults (Err Memory) = faults

-- a reading call, which fails exactly where its number is among those that fail
pub record IsRead {T : Type 0} (old new : MemoryView) (result : Result T KeepFault) : Type 0 where
  pub fails : IsErrOf result Failed ↔ Contains old.fails old.calls
  pub counted : new ≡ record old { calls = one_more old.calls; faults = faults_after old.faults result; reads = one_more old.reads }

-- a keeper that never fails and was just made with these contents
abbrev pub steady_of : Contents → SteadyView
steady_of contents = record { contents = contents; batches = 0; reads = 0 }
