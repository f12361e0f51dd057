-- Each way that the work of a call ends, as what it did.
use Rattle.std.proofs.Common.{◌≡◌, ℕ, ◌≤◌, Bool, true, false, cond, List, [], ◌∷◌, Option, Some, None, refl, sym, ap, ◌∙◌, subst, inl, inr, arith}
use Rattle.std.proofs.lemmas.Bool.{true≢false}
use Rattle.std.specs.Option.{option_map, option_or}
use Rattle.cd_base.specs.declared.hash.Hash256.{Hash256}
use Rattle.cd_base.specs.Counts.{one_more, Rose}
use Rattle.cd_keeper.specs.Contents.{Contents, Change, changed}
use Rattle.cd_keeper.specs.Keeping.{KeepsHeld, IsApplied, longer}
use Rattle.cd_record.specs.declared.limits.TheConstants.{GREATEST_COUNT}
use Rattle.cd_event.specs.declared.names.Who.{Who}
use Rattle.cd_event.specs.declared.event.Event.{Event}
use Rattle.cd_event.specs.declared.entry.Reply.{Reply}
use Rattle.cd_event.specs.declared.entry.Reply.TheVariants as reply
use Rattle.cd_event.specs.declared.refusal.Refusal.{Refusal}
use Rattle.cd_event.specs.declared.refusal.Refusal.TheVariants as refusal
use Rattle.cd_event.specs.Replies.{entry_of}
use Rattle.cd_event.specs.Turning.{is_keeper, RisesOnly}
use Rattle.cd_world.specs.declared.world.World.{World}
use Rattle.cd_world.specs.World as trees
use Rattle.cd_world.specs.Machine.{answered, is_refused, makes_batch, reply_of, moved, after, refusal_of}
use Rattle.cd_world.specs.Following.{MayRefuse, Follows, FollowsBy, asks_keeper}
use Rattle.cd_world.specs.Told.{ToldWorld, shown, stated, told_after, cell_refusal, IsSound, FollowsTold}
use Rattle.cd_world.specs.Image.{image_of, IsContentsOf}
use Rattle.cd_world.specs.Soundness.{IsAsked}
use Rattle.cd_world.specs.ToldTrees.{HasBytes}
use Rattle.cd_world.proofs.SoundWorlds.{stays_sound}
use Rattle.cd_count.specs.SoundContents.{AreSoundContents}
use Rattle.cd_core.specs.Cores.{IsWritable, Holds}
use Rattle.cd_core.specs.Steps.{Did}
use Rattle.cd_core.proofs.Writable.{IsAskedPlainly, writable-after}

-- contents are those of any world with the same blocks
pub contents-blocks : (H : List ℕ → Hash256) (a b : trees.World) (contents : Contents) → a.blocks ≡ b.blocks → IsContentsOf H a contents → IsContentsOf H b contents
contents-blocks H a b contents same is = record { plainly = is.plainly ∙ ap (λ bs. image_of H (record a { blocks = bs })) same }

stands : {f g : ℕ} (answer : Bool) → answer ≡ false → g ≡ f → RisesOnly answer f g
stands {f} {g} answer other same = record {
  later = omega (arith, same);
  steady = λ _. same;
  rose = λ e. absurd (true≢false (sym e ∙ other));
}

-- no entry that isn't refused says that the keeper failed
unfailed : (answer : Reply) → is_refused answer ≡ false → is_keeper (Some answer) ≡ false
unfailed (reply.Refused r) e = absurd (true≢false e)
unfailed reply.Stored e = refl
unfailed (reply.Pinned pin) e = refl
unfailed reply.Looked e = refl
unfailed (reply.Unpinned collected) e = refl
unfailed (reply.Expired gone) e = refl

module _ {K : Type 0} (held : K → Option Contents) (H : List ℕ → Hash256) (trail : K → Option (List Contents)) (batches faults : K → ℕ) where
  -- what is held stays
  pub holds-still : (t : ToldWorld) (k k' : K) → KeepsHeld held trail batches k k' → Holds held H t k → Holds held H t k'
  holds-still t k k' keeps h = record { contents = h.contents; is_held = keeps.same_held ∙ h.is_held; are = h.are }

  still-silent : (k k' : K) → KeepsHeld held trail batches k k' → held k ≡ None → held k' ≡ None
  still-silent k k' keeps none = keeps.same_held ∙ none

  module _ {X : Type 0} where
    module _ (limit : ℕ) (w : World) (k k' : K) (who : Who) (event : Event X) where
      -- memory ran out
      pub memory-did : IsWritable w → KeepsHeld held trail batches k k' → faults k' ≡ faults k → Did held H trail batches faults limit w k who event None w k'
      memory-did ready keeps same = record {
        world = refl;
        follows = tt;
        writable = ready;
        batched = keeps.same_batches;
        caused = stands false refl same;
        silent = still-silent k k' keeps;
        told = λ t is h. record { follows = tt; holds = holds-still t k k' keeps h; trailed = keeps.same_trail };
      }

      -- the world refuses, whatever its trees are
      pub refused-did : (r : Refusal) → IsWritable w → refusal_of H w who.worker event ≡ Some r → is_keeper (Some (reply.Refused r)) ≡ false
          → KeepsHeld held trail batches k k' → faults k' ≡ faults k → Did held H trail batches faults limit w k who event (Some (reply.Refused r)) w k'
      refused-did r ready refused other keeps same =
          let by : (v : World) → v ≡ w → (cells : Option Refusal) → FollowsBy H v cells (entry_of who event (reply.Refused r)) =
          λ v is cells. subst (λ (x : World). FollowsBy H x cells (entry_of who event (reply.Refused r))) (sym is)
          (inl (ap (λ o. answered (option_or o cells) (reply_of w who.worker event)) (sym refused))) in
          record {
            world = refl;
            follows = (None, tt, by w refl None);
            writable = ready;
            batched = keeps.same_batches;
            caused = stands _ other same;
            silent = still-silent k k' keeps;
            told = λ t is h. record {
              follows = by t.world is (cell_refusal H limit t who.worker event);
              holds = holds-still t k k' keeps h;
              trailed = keeps.same_trail;
            };
          }

      -- the keeper failed
      pub failed-did : IsWritable w → refusal_of H w who.worker event ≡ None → asks_keeper w who.worker event ≡ true
          → KeepsHeld held trail batches k k' → faults k ≤ faults k' → Rose (faults k) (faults k')
          → Did held H trail batches faults limit w k who event (Some (reply.Refused refusal.Keeper)) w k'
      failed-did ready free asks keeps later rose =
          let by : (v : World) → v ≡ w → (cells : Option Refusal) → FollowsBy H v cells (entry_of who event (reply.Refused refusal.Keeper)) =
          λ v is cells. subst (λ (x : World). FollowsBy H x cells (entry_of who event (reply.Refused refusal.Keeper))) (sym is)
          (inr (record { reply = refl; allowed = free; asks = asks })) in
          record {
            world = refl;
            follows = (None, tt, by w refl None);
            writable = ready;
            batched = keeps.same_batches;
            caused = record { later = later; steady = λ e. absurd (true≢false e); rose = λ _. rose };
            silent = still-silent k k' keeps;
            told = λ t is h. record {
              follows = by t.world is (cell_refusal H limit t who.worker event);
              holds = holds-still t k k' keeps h;
              trailed = keeps.same_trail;
            };
          }

      -- the cells refuse
      pub clashed-did : (r : Refusal) → IsWritable w → refusal_of H w who.worker event ≡ None → is_keeper (Some (reply.Refused r)) ≡ false
          → MayRefuse event (Some r) → KeepsHeld held trail batches k k' → faults k' ≡ faults k
          → ((t : ToldWorld) → t.world ≡ w → Holds held H t k → cell_refusal H limit t who.worker event ≡ Some r)
          → Did held H trail batches faults limit w k who event (Some (reply.Refused r)) w k'
      clashed-did r ready free other may keeps same cells =
          let by : (v : World) → v ≡ w → FollowsBy H v (Some r) (entry_of who event (reply.Refused r)) =
          λ v is. subst (λ (x : World). FollowsBy H x (Some r) (entry_of who event (reply.Refused r))) (sym is)
          (inl (ap (λ o. answered (option_or o (Some r)) (reply_of w who.worker event)) (sym free))) in
          record {
            world = refl;
            follows = (Some r, may, by w refl);
            writable = ready;
            batched = keeps.same_batches;
            caused = stands _ other same;
            silent = still-silent k k' keeps;
            told = λ t is h. record {
              follows = subst (λ o. FollowsBy H t.world o (entry_of who event (reply.Refused r))) (sym (cells t is h)) (by t.world is);
              holds = holds-still t k k' keeps h;
              trailed = keeps.same_trail;
            };
          }

    -- the world with its trees that an event leads to where nothing refuses it
    abbrev pub moved_told : ToldWorld → ℕ → Event X → ToldWorld
    moved_told t worker event = record { world = moved t.world worker event; state = stated H t worker event }

    told-moved : (t : ToldWorld) (who : Who) (event : Event X) (answer : Reply) → is_refused answer ≡ false → told_after H t (entry_of who event answer) ≡ moved_told t who.worker event
    told-moved t who event answer unlike =
        ap {B = ToldWorld} (λ b. record { world = cond b t.world (moved t.world who.worker event); state = cond b t.state (stated H t who.worker event) }) unlike

    module _ (limit : ℕ) (low : limit ≤ GREATEST_COUNT) (w w' : World) (k k' : K) (who : Who) (event : Event X) (answer : Reply)
        (ready : IsWritable w) (asked : IsAskedPlainly H w who.worker event) (free : refusal_of H w who.worker event ≡ None)
        (is : answer ≡ reply_of w who.worker event) (unlike : is_refused answer ≡ false) (went : w' ≡ moved w who.worker event) where
      followed : (v : World) → v ≡ w → FollowsBy H v None (entry_of who event answer)
      followed v same = subst (λ (x : World). FollowsBy H x None (entry_of who event answer)) (sym same)
          (inl (is ∙ ap (λ o. answered (option_or o None) (reply_of w who.worker event)) (sym free)))

      plainly : Follows H w (entry_of who event answer)
      plainly = (None, tt, followed w refl)

      arrived : w' ≡ after w (entry_of who event answer)
      arrived = went ∙ ap (λ b. cond b w (moved w who.worker event)) (sym unlike)

      -- what comes of a told world
      told-sound : (t : ToldWorld) → t.world ≡ w → cell_refusal H limit t who.worker event ≡ None → IsAsked H t who.worker event → IsSound H t
          → FollowsTold H limit t (entry_of who event answer) × IsSound H (told_after H t (entry_of who event answer))
      told-sound t same none asks sound =
          let follows : FollowsTold H limit t (entry_of who event answer) = subst (λ o. FollowsBy H t.world o (entry_of who event answer)) (sym none) (followed t.world same) in
          (follows, stays_sound H limit t (entry_of who event answer ∷ []) low sound (follows, tt) (asks, tt))

      told-holds : (t : ToldWorld) (contents now : Contents) (k″ : K) → IsSound H (told_after H t (entry_of who event answer)) → AreSoundContents H t contents → held k″ ≡ Some now
          → IsContentsOf H (shown (moved_told t who.worker event)) now → HasBytes now → Holds held H (told_after H t (entry_of who event answer)) k″
      told-holds t contents now k″ sound so is_now are bytes = record {
        contents = now;
        is_held = is_now;
        are = record {
          sound = sound;
          are = subst (λ (u : ToldWorld). IsContentsOf H (shown u) now) (sym (told-moved t who event answer unlike)) are;
          bytes = bytes;
          wide = so.wide;
        };
      }

      -- nothing changes that the keeper holds
      pub quiet-did : makes_batch answer ≡ false → KeepsHeld held trail batches k k' → faults k' ≡ faults k
          → ((t : ToldWorld) → t.world ≡ w → (cell_refusal H limit t who.worker event ≡ None) × IsAsked H t who.worker event
          × (let all = shown t in let now = shown (moved_told t who.worker event) in all.blocks ≡ now.blocks))
          → Did held H trail batches faults limit w k who event (Some answer) w' k'
      quiet-did none keeps same of_told = record {
        world = arrived;
        follows = plainly;
        writable = subst IsWritable (sym arrived) (writable-after H w (entry_of who event answer) ready plainly asked);
        batched = keeps.same_batches ∙ ap (λ b. cond b (one_more (batches k)) (batches k)) (sym none);
        caused = stands _ (unfailed answer unlike) same;
        silent = still-silent k k' keeps;
        told = λ t at h.
            let facts = of_told t at in
            let so = h.are in
            let both = told-sound t at facts.0 facts.1 so.sound in
            record {
              follows = both.0;
              holds = told-holds t h.contents h.contents k' both.1 h.are (keeps.same_held ∙ h.is_held) (contents-blocks H (shown t) (shown (moved_told t who.worker event)) h.contents facts.2 so.are) so.bytes;
              trailed = keeps.same_trail ∙ ap (λ b. cond b (longer (trail k) (held k')) (trail k)) (sym none);
            };
      }

      -- one batch was made
      pub batch-did : makes_batch answer ≡ true → (change : Change) → IsApplied held trail batches change k k' → faults k' ≡ faults k
          → ((t : ToldWorld) (contents : Contents) → t.world ≡ w → held k ≡ Some contents → AreSoundContents H t contents → (cell_refusal H limit t who.worker event ≡ None)
          × IsAsked H t who.worker event × IsContentsOf H (shown (moved_told t who.worker event)) (changed change contents) × HasBytes (changed change contents))
          → Did held H trail batches faults limit w k who event (Some answer) w' k'
      batch-did one change applied same of_told = record {
        world = arrived;
        follows = plainly;
        writable = subst IsWritable (sym arrived) (writable-after H w (entry_of who event answer) ready plainly asked);
        batched = applied.counted ∙ ap (λ b. cond b (one_more (batches k)) (batches k)) (sym one);
        caused = stands _ (unfailed answer unlike) same;
        silent = λ none. applied.made ∙ ap (option_map (changed change)) none;
        told = λ t at h.
            let so = h.are in
            let facts = of_told t h.contents at h.is_held h.are in
            let both = told-sound t at facts.0 facts.1 so.sound in
            record {
              follows = both.0;
              holds = told-holds t h.contents (changed change h.contents) k' both.1 h.are (applied.made ∙ ap (option_map (changed change)) h.is_held) facts.2 facts.3;
              trailed = applied.trailed ∙ ap (λ b. cond b (longer (trail k) (held k')) (trail k)) (sym one);
            };
      }
