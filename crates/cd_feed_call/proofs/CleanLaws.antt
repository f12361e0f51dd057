-- A feed that was done over an opened store leaves no pin and no leaving block, where the keeper failed no entry.
use Rattle.std.proofs.Common.{◌≡◌, ℕ, Bool, true, false, not, if◌then◌else◌, List, [], ◌∷◌, filter, Option, Some, None, refl, sym, subst}
use Rattle.std.specs.Prelude.{All, IfSome}
use Rattle.std.proofs.lemmas.Bool.{false≢true}
use Rattle.std.proofs.lemmas.List.Elements.{All-nil, All-cons}
use Rattle.cd_base.specs.declared.hash.Hash256.{Hash256}
use Rattle.cd_base.specs.declared.sink.Sink.{Ghosts as SinkGhosts}
use Rattle.cd_block.specs.declared.description.Descr.{Descr}
use Rattle.cd_keeper.specs.declared.keeper.Keeper.{Ghosts as KeeperGhosts}
use Rattle.cd_keeper.specs.Contents.{Contents}
use Rattle.cd_event.specs.declared.entry.Entry.{Entry}
use Rattle.cd_world.specs.declared.world.World.{World}
use Rattle.cd_world.specs.Changes.{settled}
use Rattle.cd_world.specs.Machine.{replay}
use Rattle.cd_world.specs.Standing.{IsTidy}
use Rattle.cd_core.specs.declared.start.CoreStart.{CoreStart}
use Rattle.cd_feed.specs.declared.feed.Feed.{Feed}
use Rattle.cd_run.specs.declared.outcome.Outcome.{Outcome}
use Rattle.cd_run.specs.Runs.{has_failed}
use Rattle.cd_lanes.specs.NoPins.{IsFree}
use Rattle.cd_lanes.proofs.FreeLaws.{leaves_free}
use Rattle.cd_lanes.proofs.PhaseRuns.{cut_of_phases}
use Rattle.cd_restart.specs.Opened.{world_of}
use Rattle.cd_restart.specs.Stored.{blocks_in}
use Rattle.cd_command.specs.declared.status.Status.{Status}
use Rattle.cd_command.specs.declared.status.Status.TheVariants as status
use Rattle.cd_command.specs.Opening.{IsOpening, LeadOn}
use Rattle.cd_feed_call.specs.Told.{pins, AreDone, FeedEnds}
use Rattle.cd_feed_call.specs.Replaying.{is_clean}

-- a settled world has no leaving block
kept-or-not : (d : Descr) (rest : List Descr) (b : Bool) → d.leaving ≡ b → All (λ x. x.leaving ≡ false) rest → All (λ x. x.leaving ≡ false) (if not d.leaving then d ∷ rest else rest)
kept-or-not d rest true is all = subst (λ b. All (λ x. x.leaving ≡ false) (if not b then d ∷ rest else rest)) (sym is) all
kept-or-not d rest false is all = subst (λ b. All (λ x. x.leaving ≡ false) (if not b then d ∷ rest else rest)) (sym is) (All-cons (λ x. x.leaving ≡ false) d rest is all)

not-leaving : (ds : List Descr) → All (λ d. d.leaving ≡ false) (filter (λ d. not d.leaving) ds)
not-leaving [] = All-nil (λ d. d.leaving ≡ false)
not-leaving (d ∷ ds) = kept-or-not d (filter (λ x. not x.leaving) ds) d.leaving refl (not-leaving ds)

settled-free : (w : World) → IsFree (settled w)
settled-free w = record { no_pins = refl; none_leaving = not-leaving w.blocks }

if-told : {P Q : Contents → Type 0} (o : Option Contents) → ((contents : Contents) → P contents → Q contents) → IfSome o P → IfSome o Q
if-told None on told = tt
if-told (Some contents) on told = on contents told

module _ (H : List ℕ → Hash256) {K X C O : Type 0} (k : KeeperGhosts K) (got : C → Option (List ℕ)) (steady : C → Bool)
    (start : CoreStart K) (journal : List (Entry X)) (feed : Feed) (clients left : List C) (o : SinkGhosts O) (out out_after : O) (Stands : ℕ → ℕ → Type 0) (before now : ℕ) where
  clean-done : (end : Status) → FeedEnds H k.held got steady start journal feed clients left o out out_after Stands before now end → is_clean end ≡ true
      → ((ends : List (List (List Outcome))) × AreDone H k.held got steady start journal feed clients left ends) × (has_failed journal ≡ false)
  clean-done status.Ok done clean = let reported = done.0 in ((reported.ends, reported.done), done.1)
  clean-done status.WriteFault done clean = let reported = done.0 in ((reported.ends, reported.done), done.1)
  clean-done status.ClientFault done clean = let reported = done.0 in ((reported.ends, reported.done), done.1)
  clean-done status.KeeperFault done clean = absurd (false≢true clean)
  clean-done status.Memory done clean = absurd (false≢true clean)
  clean-done (status.Usage fault) done clean = absurd done
  clean-done (status.BadInput fault) done clean = absurd done
  clean-done (status.Damaged fault) done clean = absurd done
  clean-done status.ReadFault done clean = absurd done
  clean-done (status.Refused why) done clean = absurd done

  pub free-of : (keeper new : K) (end : Status) → IsOpening H k start.world.value keeper start.keeper.value → LeadOn H k start.world.value journal start.keeper.value new → IsTidy start.world.value
      → FeedEnds H k.held got steady start journal feed clients left o out out_after Stands before now end
      → IfSome (k.held keeper) (λ contents. is_clean end ≡ true → IsFree (replay start.world.value journal))
  free-of keeper new end opened on tidy done = if-told (k.held keeper) (λ contents told clean.
      let all = clean-done end done clean in
      let runs = (let d = all.0.1 in d.runs) in
      let free = subst IsFree (sym told.0) (settled-free (world_of (blocks_in contents))) in
      leaves_free H X (pins H k.held got steady start journal feed clients left) feed.phases start.world.value journal tidy free on.follow
      (cut_of_phases H (pins H k.held got steady start journal feed clients left) 0 feed.phases journal all.0.0 runs) all.1) opened.told
