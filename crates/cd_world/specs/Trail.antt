-- Trusted: what a keeper holds after each batch.
use Rattle.std.specs.Prelude.{ℕ, if◌then◌else◌, List, [], ◌∷◌, ◌++◌, map}
use Rattle.cd_base.specs.declared.hash.Hash256.{Hash256}
use Rattle.cd_keeper.specs.Contents.{Contents}
use Rattle.cd_event.specs.declared.entry.Entry.{Entry}
use Rattle.cd_world.specs.Image.{IsContentsOf}
use Rattle.cd_world.specs.Changes.{settling, settled}
use Rattle.cd_world.specs.Machine.{makes_batch}
use Rattle.cd_world.specs.Told.{ToldWorld, shown, image, told_after}

module _ (H : List ℕ → Hash256) where
  module _ {X : Type 0} where
    -- the worlds after the entries that make a batch
    abbrev pub worlds_after : ToldWorld → List (Entry X) → List ToldWorld
    worlds_after t [] = []
    worlds_after t (e ∷ es) =
        let next = told_after H t e in (if makes_batch e.reply then next ∷ [] else []) ++ worlds_after next es

    -- the trail of a journal, with all records of version 2: one content for each entry that makes a batch
    abbrev pub images : ToldWorld → List (Entry X) → List Contents
    images t es = map (image H) (worlds_after t es)

  -- the same world with its leaving blocks dropped
  abbrev pub told_settled : ToldWorld → ToldWorld
  told_settled t = record { world = settled t.world; state = t.state }

  -- the worlds on the way there, one for each leaving block, the least id first
  abbrev pub worlds_settling : ToldWorld → List ToldWorld
  worlds_settling t = map (λ w. record { world = w; state = t.state }) (settling t.world)

  -- the trail of settling, with all records of version 2
  abbrev pub settling_images : ToldWorld → List Contents
  settling_images t = map (image H) (worlds_settling t)

  -- some contents are those of some worlds, one after another
  abbrev pub AreContentsOf : List ToldWorld → List Contents → Type 0
  AreContentsOf [] [] = Unit {0}
  AreContentsOf [] (c ∷ cs) = ⊥
  AreContentsOf (t ∷ ts) [] = ⊥
  AreContentsOf (t ∷ ts) (c ∷ cs) = IsContentsOf H (shown t) c × AreContentsOf ts cs
