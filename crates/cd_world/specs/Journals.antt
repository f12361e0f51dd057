-- Trusted: what holds of journals: one after another they are one, and a world that they lead to is tidy.
use Rattle.std.specs.Prelude.{◌≡◌, ◌↔◌, ℕ, List, ◌++◌}
use Rattle.cd_base.specs.declared.hash.Hash256.{Hash256}
use Rattle.cd_event.specs.declared.entry.Entry.{Entry}
use Rattle.cd_world.specs.declared.world.World.{World}
use Rattle.cd_world.specs.Standing.{IsTidy}
use Rattle.cd_world.specs.Machine.{replay}
use Rattle.cd_world.specs.Following.{AllFollow}
use Rattle.cd_world.specs.Told.{ToldWorld, told_replay, AllFollowTold}
use Rattle.cd_world.specs.Trail.{images}

-- the world after two journals is that after the second, from where the first one leads
abbrev pub ReplayGoesOn : Type 0 → Type 0
ReplayGoesOn X = (w : World) (first second : List (Entry X))
    → replay w (first ++ second) ≡ replay (replay w first) second

module _ (H : List ℕ → Hash256) (X : Type 0) where
  -- two journals follow, one after the other, where the second follows from where the first one leads
  abbrev pub FollowingGoesOn : Type 0
  FollowingGoesOn = (w : World) (first second : List (Entry X))
      → AllFollow H w (first ++ second) ↔ (AllFollow H w first × AllFollow H (replay w first) second)

  abbrev pub ToldReplayGoesOn : Type 0
  ToldReplayGoesOn = (t : ToldWorld) (first second : List (Entry X))
      → told_replay H t (first ++ second) ≡ told_replay H (told_replay H t first) second

  abbrev pub ToldFollowingGoesOn : Type 0
  ToldFollowingGoesOn = (limit : ℕ) (t : ToldWorld) (first second : List (Entry X))
      → AllFollowTold H limit t (first ++ second)
      ↔ (AllFollowTold H limit t first × AllFollowTold H limit (told_replay H t first) second)

  -- and so does the trail
  abbrev pub TrailGoesOn : Type 0
  TrailGoesOn = (t : ToldWorld) (first second : List (Entry X))
      → images H t (first ++ second) ≡ images H t first ++ images H (told_replay H t first) second

  -- a world with its trees moves as the world alone
  abbrev pub WorldIsReplayed : Type 0
  WorldIsReplayed = (t : ToldWorld) (journal : List (Entry X))
      → (told_replay H t journal).world ≡ replay t.world journal

  -- entries that follow a world with its trees follow the world alone
  abbrev pub ToldFollow : Type 0
  ToldFollow = (limit : ℕ) (t : ToldWorld) (journal : List (Entry X))
      → AllFollowTold H limit t journal → AllFollow H t.world journal

  -- what is plain of a sound world stays so, for every keeper
  abbrev pub StaysTidy : Type 0
  StaysTidy = (w : World) (journal : List (Entry X)) → IsTidy w → AllFollow H w journal → IsTidy (replay w journal)
