-- Trusted: a worker's pins by its own entries: which were given, which are live, and what they hold.
use Rattle.std.specs.Prelude.{◌≡◌, ◌≢◌, ℕ, ◌≤◌, ◌==◌, Bool, true, false, not, ◌&&◌, ◌||◌, List, [], ◌∷◌, ◌++◌, fold, find, replicate, Option, Some, None, IfSome}
use Rattle.std.specs.Option.{option_and_then}
use Rattle.cd_base.specs.declared.hash.Hash256.{Hash256}
use Rattle.cd_cell.specs.declared.info.ChildInfo.{ChildInfo}
use Rattle.cd_cell.specs.declared.limits.TheConstants.{GREATEST_DEPTH}
use Rattle.cd_cell.specs.Infos.{rep_of_info, height_of_info}
use Rattle.cd_cell.specs.Levels.{info_of_face}
use Rattle.cd_cell.specs.Tree.{Tree, info_of, mask_of, rep_of, IsWellFormed}
use Rattle.cd_cell.specs.Export.{AreClashFree, IsClashFree}
use Rattle.cd_cell.specs.Joined.{joined_tree, joined_face}
use Rattle.cd_cell.specs.Listings.{Fits}
use Rattle.cd_cell.specs.PreparedView.{PreparedView}
use Rattle.cd_event.specs.declared.answers.Pinned.{Pinned}
use Rattle.cd_event.specs.declared.entry.Entry.{Entry}
use Rattle.cd_event.specs.declared.entry.Reply.{Reply}
use Rattle.cd_event.specs.declared.entry.Reply.TheVariants as reply
use Rattle.cd_event.specs.declared.event.Event.{Event}
use Rattle.cd_event.specs.declared.event.Event.TheVariants as event

-- ---- live pins

-- whether a reply gave the pin of this number
abbrev pub gives : Reply → ℕ → Bool
gives (reply.Pinned pin) number = pin == number
gives _ number = false

-- whether a pin that may be there has this number
abbrev pub is_other : Option ℕ → ℕ → Bool
is_other None number = false
is_other (Some pin) number = pin == number

module _ {H : Type 0} where
  -- whether an event so answered ended it: a merge ends its pin, and the other one where there is one
  abbrev pub ends : Event H → Reply → ℕ → Bool
  ends (event.Merge pin other id tops prepared) reply.Stored number = pin == number || is_other other number
  ends (event.Unpin pin) (reply.Unpinned collected) number = pin == number
  ends _ _ number = false

  abbrev pub live_after : ℕ → Bool → Entry H → Bool
  live_after number live e = gives e.reply number || (live && not (ends e.event e.reply number))

  -- whether a worker's pin is live, by the worker's own entries
  abbrev pub is_live : ℕ → List (Entry H) → Bool
  is_live number made = fold (live_after number) false made

  -- whether the pins of a merge are live, and two different ones
  abbrev pub are_live : ℕ → Option ℕ → List (Entry H) → Bool
  are_live pin None made = is_live pin made
  are_live pin (Some other) made = not (pin == other) && is_live pin made && is_live other made

-- ---- what pins hold

-- a pin that was given: its number, what the root of its block's state shows, and that state, where it is told
pub record Named : Type 0 where
  pub number : ℕ
  pub root : ChildInfo
  pub tree : Option Tree

abbrev pub find_pin : List Named → ℕ → Option Named
find_pin pins number = find (λ m. m.number == number) pins

-- the state of a pin's block, where it is told
abbrev pub state_of : List Named → ℕ → Option Tree
state_of pins number = option_and_then (λ m. m.tree) (find_pin pins number)

-- a live pin holds this state, as is told
pub record Holds {H : Type 0} (made : List (Entry H)) (named : List Named) (number : ℕ) (t : Tree) : Type 0 where
  pub live : is_live number made ≡ true
  pub told : state_of named number ≡ Some t

-- the root of a state: its mask is 0, so it has one hash and one depth at all levels
pub record IsPlain (root : ChildInfo) : Type 0 where
  pub mask : root.mask ≡ 0
  pub hashes : root.hashes ≡ replicate 4 (rep_of_info root)
  pub depths : root.depths ≡ replicate 4 (height_of_info root)
  pub shallow : height_of_info root ≤ GREATEST_DEPTH

module _ (digest : List ℕ → Hash256) where
  -- the tree of a state
  pub record IsState (t : Tree) : Type 0 where
    pub good : IsWellFormed digest t
    pub clear : IsClashFree digest t
    pub plain : mask_of digest t ≡ 0

  -- the states of the live pins are together free of clashes
  pub record AreStates {H : Type 0} (made : List (Entry H)) (named : List Named) : Type 0 where
    pub each : (n : ℕ) (t : Tree) → Holds made named n t → IsState t
    pub together : (m n : ℕ) (a b : Tree) → Holds made named m a → Holds made named n b → AreClashFree digest (a ∷ b ∷ [])

  -- one pin came, under a number that no earlier one has, with its root, and with its state, where that is told
  pub record AddsPin (old new : List Named) (pinned : Pinned) : Type 0 where
    pub tree : Option Tree
    pub added : new ≡ old ++ (record { number = pinned.pin; root = pinned.root; tree = tree }) ∷ []
    pub fresh : find_pin old pinned.pin ≡ None
    pub plain : IsPlain pinned.root
    pub state : IfSome tree (λ t. IsState t × (info_of digest t ≡ pinned.root))

  -- ---- what a merge is over

  -- what the root of both states shows, as a block has it that follows two merged shards
  abbrev pub joined_root : ChildInfo → ChildInfo → ChildInfo
  joined_root left right = info_of_face digest (joined_face left right)

  -- a value that was prepared over the states of live pins fits them, where they are told
  abbrev pub MayMerge : {H : Type 0} → List (Entry H) → List Named → ℕ → Option ℕ → PreparedView → Type 0
  MayMerge made named pin None p =
      (t : Tree) → Holds made named pin t → p.old ≡ Some (rep_of digest t) → Fits digest p.root p.cells (t ∷ [])
  MayMerge made named pin (Some other) p =
      (a b : Tree) → Holds made named pin a → Holds made named other b → p.old ≡ Some (rep_of digest (joined_tree a b)) → Fits digest p.root p.cells (a ∷ b ∷ [])

  -- no value that was prepared over the roots of these pins is called one over another state
  abbrev pub IsOfOther : List Named → ℕ → Option ℕ → Option Hash256 → Type 0
  IsOfOther named pin None old = (m : Named) → find_pin named pin ≡ Some m → old ≢ Some (rep_of_info m.root)
  IsOfOther named pin (Some other) old =
      (m n : Named) → find_pin named pin ≡ Some m → find_pin named other ≡ Some n
      → height_of_info (joined_root m.root n.root) ≤ GREATEST_DEPTH → old ≢ Some (rep_of_info (joined_root m.root n.root))
