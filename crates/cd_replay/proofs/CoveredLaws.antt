-- The journal of a core that did a feed covers the feed.
use Rattle.std.proofs.Common.{◌≡◌, ℕ, ◌==◌, cond, false, All, List, [], ◌∷◌, ◌++◌, Option, Some, None, refl, sym, ap, ap₂, ◌∙◌, subst}
use Rattle.std.proofs.lemmas.Option.{none-some, same_Some}
use Rattle.std.specs.Option.{option_map}
use Rattle.cd_base.specs.declared.hash.Hash256.{Hash256}
use Rattle.cd_keeper.specs.Contents.{Contents}
use Rattle.cd_event.specs.declared.entry.Entry.{Entry}
use Rattle.cd_event.specs.declared.entry.Reply.{Reply}
use Rattle.cd_event.specs.declared.entry.Reply.TheVariants as reply
use Rattle.cd_event.specs.declared.event.Event.{Event}
use Rattle.cd_event.specs.declared.event.Event.TheVariants as event
use Rattle.cd_event.specs.Pins.{Named}
use Rattle.cd_world.specs.declared.world.World.{World}
use Rattle.cd_world.specs.Standing.{IsTidy}
use Rattle.cd_world.specs.Told.{ToldWorld, told_after}
use Rattle.cd_world.specs.Unfolded.{told_in}
use Rattle.cd_core.specs.declared.start.CoreStart.{CoreStart}
use Rattle.cd_core.specs.Cores.{CoreView, told_start, world_after, world_of}
use Rattle.cd_core.specs.Workers.{named_from}
use Rattle.cd_core.specs.Workers.{given as given_in}
use Rattle.cd_run.specs.Covers.{given_by, given, CoversBy, CoversPrefixBy}
use Rattle.cd_run.proofs.CoverLaws.{covers-cut}
use Rattle.cd_run.proofs.EarlyLaws.{covers_prefix-cut}
use Rattle.cd_lanes.proofs.FreeLaws.{leaves_free}
use Rattle.cd_lanes.proofs.PhaseRuns.{cut_of_phases}
use Rattle.cd_replay.specs.Ran.{Grew, pins_in}
use Rattle.cd_replay.specs.Covered.{DoneCovers, DoneCoversTold, DoneLeavesFree, StoppedCovers, StoppedCoversTold}

module _ {X : Type 0} where
  -- the pin that an entry gives, by the world and its trees, or by both in one
  same_given : (t : ToldWorld) (e : Event X) (r : Reply) → given_in t.world (Some t) e r ≡ given_by t e r
  same_given t (event.Pin id) (reply.Pinned number) = refl
  same_given t (event.Pin id) reply.Stored = refl
  same_given t (event.Pin id) reply.Looked = refl
  same_given t (event.Pin id) (reply.Unpinned collected) = refl
  same_given t (event.Pin id) (reply.Expired gone) = refl
  same_given t (event.Pin id) (reply.Refused why) = refl
  same_given t (event.Zero id tops p) r = refl
  same_given t (event.Look pin asked) r = refl
  same_given t (event.Merge pin other id tops p) r = refl
  same_given t (event.Unpin pin) r = refl
  same_given t (event.Expire id) r = refl

  -- and all pins of a worker
  same_pins : (digest : List ℕ → Hash256) (worker : ℕ) (es : List (Entry X)) (t : ToldWorld) → named_from digest worker t.world (Some t) es ≡ given digest t es worker
  same_pins digest worker [] t = refl
  same_pins digest worker (e ∷ es) t =
      ap₂ (λ (a b : List Named). a ++ b) (ap (λ (g : List Named). cond (e.who.worker == worker) g []) (same_given t e.event e.reply)) (same_pins digest worker es (told_after digest t e))

module _ {K X : Type 0} (digest : List ℕ → Hash256) (held : K → Option Contents) (faults : K → ℕ) where
  -- the told world at the start is the world at the start
  start_is : (core : CoreView K X) (t : ToldWorld) → told_start held core.start ≡ Some t → t.world ≡ (let s = core.start in s.world.value)
  start_is core t is = by (held (let s = core.start in s.keeper.value)) is
    where
      by : (o : Option Contents) → option_map (λ contents. told_in contents (let s = core.start in s.world.value)) o ≡ Some t → t.world ≡ (let s = core.start in s.world.value)
      by None e = absurd (none-some t e)
      by (Some contents) e = ap (λ (u : ToldWorld). u.world) (sym (same_Some (told_in contents (let s = core.start in s.world.value)) t e))

  told_pins : (core : CoreView K X) (t : ToldWorld) → told_start held core.start ≡ Some t → (worker : ℕ) → pins_in digest held core worker ≡ given digest t core.journal worker
  told_pins core t is worker =
      ap₂ (λ (w : World) (o : Option ToldWorld). named_from digest worker w o core.journal) (sym (start_is core t is)) is
      ∙ same_pins digest worker core.journal t

  module _ (Are : List (Entry X) → Type 0) (old new : CoreView K X) (grew : Grew faults Are old new) (none : old.journal ≡ []) where
    all_new : new.journal ≡ grew.entries
    all_new = grew.journal ∙ ap (λ (l : List (Entry X)). l ++ grew.entries) none

    are_all : Are new.journal
    are_all = subst Are (sym all_new) grew.are

  pub done_covers : DoneCovers digest held faults X
  done_covers feed ends old new did none =
      let pins = pins_in digest held new in
      covers-cut digest pins feed new.journal (cut_of_phases digest pins 0 feed.phases new.journal ends (are_all _ old new did none))

  pub done_covers_told : DoneCoversTold digest held faults X
  done_covers_told feed ends old new t did none is =
      subst (λ (pins : ℕ → List Named). CoversBy digest pins feed new.journal) (λ i worker. told_pins new t is worker i) (done_covers feed ends old new did none)

  pub stopped_covers : StoppedCovers digest held faults X
  stopped_covers feed old new did none = covers_prefix-cut digest (pins_in digest held new) feed new.journal (are_all _ old new did none)

  pub stopped_covers_told : StoppedCoversTold digest held faults X
  stopped_covers_told feed old new t did none is =
      subst (λ (pins : ℕ → List Named). CoversPrefixBy digest pins feed new.journal) (λ i worker. told_pins new t is worker i) (stopped_covers feed old new did none)

-- ---- no pin is left

pub done_leaves_free : {K : Type 0} (digest : List ℕ → Hash256) (held : K → Option Contents) (trail : K → Option (List Contents)) (batches faults : K → ℕ) (X : Type 0) → DoneLeavesFree digest held trail batches faults X
done_leaves_free digest held trail batches faults X feed ends old new before now did none kept good =
    let w = (let s = new.start in s.world.value) in
    let at_start : world_of old ≡ w = ap (world_after old.start) none ∙ ap (λ (s : CoreStart _). s.world.value) (sym did.start) in
    let pins = pins_in digest held new in
    leaves_free digest X pins feed.phases w new.journal (subst IsTidy at_start (let is = before.writable in is.tidy))
    (record { no_pins = now.no_pins; none_leaving = subst (λ (v : World). All (λ d. d.leaving ≡ false) v.blocks) at_start kept }) now.follow
    (cut_of_phases digest pins 0 feed.phases new.journal ends (are_all digest held faults _ old new did none)) good
