-- Trusted: what a worker's calls do, whichever core they are made on.
use Rattle.std.specs.Prelude.{◌≡◌, ℕ, ◌+◌, ◌-◌, ◌^◌, ◌≤◌, ◌<◌, max, min, Bool, true, false, IsTrue, List, ◌++◌, length, All, Contains, slice_get, Option, Some, IfSome, Result, Ok, Err}
use Rattle.cd_base.specs.declared.hash.Hash256.{Hash256}
use Rattle.cd_base.specs.Counts.{Rose}
use Rattle.cd_block.specs.declared.block.BlockId.{BlockId}
use Rattle.cd_block.specs.Shard.{is_master}
use Rattle.cd_cell.specs.FaceView.{FaceView}
use Rattle.cd_cell.specs.GoodFace.{IsGoodFace}
use Rattle.cd_cell.specs.Infos.{rep_of_info}
use Rattle.cd_cell.specs.PreparedView.{PreparedView}
use Rattle.cd_cell.specs.Tree.{Tree, subtrees, rep_of, face_of}
use Rattle.cd_event.specs.declared.names.At.{At}
use Rattle.cd_event.specs.declared.answers.Stored.{Stored}
use Rattle.cd_event.specs.declared.event.Event.{Event}
use Rattle.cd_event.specs.declared.entry.Entry.{Entry}
use Rattle.cd_event.specs.declared.entry.Reply.{Reply}
use Rattle.cd_event.specs.declared.entry.Reply.TheVariants as reply
use Rattle.cd_event.specs.declared.refusal.Refusal.TheVariants as refusal
use Rattle.cd_event.specs.Replies.{who_of, entries_of}
use Rattle.cd_event.specs.Pins.{Named, Holds}

-- ---- every call

-- whether the keeper failed
abbrev pub is_keeper : Option Reply → Bool
is_keeper (Some (reply.Refused refusal.Keeper)) = true
is_keeper _ = false

-- a count of faults over a call: it rose where the call failed by it, or stands at its end, and else it stands
pub record RisesOnly (failed : Bool) (before now : ℕ) : Type 0 where
  pub later : before ≤ now
  pub steady : failed ≡ false → now ≡ before
  pub rose : failed ≡ true → Rose before now

module _ {S H : Type 0} (worker faults : S → ℕ) (made : S → List (Entry H)) (goes : S → S → Type 0) where
  -- a call of this worker, under this name, was answered so: it made its own entry, or none where it found no memory
  pub record Turned (old new : S) (at : At) (event : Event H) (answer : Option Reply) : Type 0 where
    pub same_worker : worker new ≡ worker old
    pub went : goes old new
    pub entry : made new ≡ made old ++ entries_of (who_of at (worker old)) event answer
    pub caused : RisesOnly (is_keeper answer) (faults old) (faults new)

-- ---- zero and merge

-- at most 64 tops, and none of a block that is none of the masterchain
pub record MayName (id : BlockId) (tops : List BlockId) : Type 0 where
  pub few : length tops ≤ 64
  pub on_master : 0 < length tops → IsTrue (is_master id.shard_id)

-- a stored value: its root hash, and how many cells it lists
pub record IsStored (prepared : PreparedView) (stored : Stored) : Type 0 where
  pub root : stored.root ≡ rep_of_info prepared.root
  pub cells : stored.cells ≡ length prepared.cells

-- ---- looks

-- each face that is found passes the check
abbrev pub AreGood : List (Option FaceView) → Type 0
AreGood found = All (λ face. IfSome face IsGoodFace) found

module _ (digest : List ℕ → Hash256) where
  -- beside each hash of a cell of the tree, that cell's face
  abbrev pub AreFacesOf : Tree → List Hash256 → List (Option FaceView) → Type 0
  AreFacesOf t hashes found = (k : ℕ) (s : Tree) → Contains (subtrees t) s → slice_get hashes k ≡ Some (rep_of digest s)
      → slice_get found k ≡ Some (Some (face_of digest s))

  -- so of the state of each live pin that is told
  abbrev pub AreHeldFaces : {H : Type 0} → List (Entry H) → List Named → List Hash256 → List (Option FaceView) → Type 0
  AreHeldFaces made named hashes found = (n : ℕ) (t : Tree) → Holds made named n t → AreFacesOf t hashes found

-- a count of hashes after some more; it stands still at the last u64
abbrev pub counted : ℕ → ℕ → ℕ
counted before more = max before (min (before + more) (2 ^ 64 - 1))

-- the count after a look for so many: by all of them where it was answered, and by at most as many else
abbrev pub AskedAfter : {A E : Type 0} → Result A E → ℕ → ℕ → ℕ → Type 0
AskedAfter (Ok found) count before now = now ≡ counted before count
AskedAfter (Err fault) count before now = (before ≤ now) × (now ≤ counted before count)

-- an object goes on, or, where its keeper failed, has failed
abbrev pub HandsOn : {S : Type 0} → (S → S → Type 0) → (S → S → Type 0) → Bool → S → S → Type 0
HandsOn goes fails false old new = goes old new
HandsOn goes fails true old new = fails old new
