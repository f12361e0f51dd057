-- A zero state's block comes: what its batch leads to, and what a plan's fault does.
use Rattle.std.proofs.Common.{◌≡◌, ℕ, ◌≤◌, false, List, [], ◌∷◌, Contains, None, sym, ap, ap₂, ◌∙◌, inl}
use Rattle.std.specs.Prelude.{is_some}
use Rattle.std.specs.Option.{option_or}
use Rattle.std.specs.List.{IsDistinct}
use Rattle.std.specs.Map.{keys_of}
use Rattle.std.proofs.lemmas.Bool.{true≢false}
use Rattle.std.proofs.lemmas.List.Elements.{All-contains}
use Rattle.cd_base.specs.declared.hash.Hash256.{Hash256}
use Rattle.cd_block.specs.declared.block.BlockId.{BlockId}
use Rattle.cd_block.specs.declared.description.Descr.{Descr}
use Rattle.cd_block.specs.Description.{IsDescr}
use Rattle.cd_cell.specs.PreparedView.{PreparedView}
use Rattle.cd_cell.specs.Tree.{Tree}
use Rattle.cd_keeper.specs.Contents.{Contents, Change, changed}
use Rattle.cd_keeper.specs.NoKeyTwice.{same_key}
use Rattle.cd_record.specs.declared.limits.TheConstants.{GREATEST_COUNT}
use Rattle.cd_event.specs.declared.names.Who.{Who}
use Rattle.cd_event.specs.declared.event.Event.{Event}
use Rattle.cd_event.specs.declared.entry.Reply.TheVariants as reply
use Rattle.cd_event.specs.Replies.{entry_of}
use Rattle.cd_world.specs.declared.world.World.{World}
use Rattle.cd_world.specs.Image.{IsContentsOf}
use Rattle.cd_world.specs.Standing.{block_at}
use Rattle.cd_world.specs.Changes.{stored}
use Rattle.cd_world.specs.Machine.{answered, refusal_of, reply_of}
use Rattle.cd_world.specs.Told.{ToldWorld, shown, block_of, with_stored, cell_refusal, IsSound, IsSoundBlock, FollowsTold, told_after}
use Rattle.cd_world.specs.Soundness.{IsAsked}
use Rattle.cd_world.proofs.SoundWorlds.{stays_sound}
use Rattle.cd_world.proofs.Orders.{Contains-placed_new}
use Rattle.cd_world.proofs.TidyWorlds.{found-there}
use Rattle.cd_count.specs.Changes.{Rows, IsCellBatch, AreAdded, DescsLead}
use Rattle.cd_count.specs.PlanRows.{descr_puts}
use Rattle.cd_count.proofs.Changes.{leads}
use Rattle.cd_core.proofs.DescrTables.{key, look-placed, keys-apart, descs-lead}

-- one key stands once
pub one-key : (d : Descr) → IsDistinct same_key (keys_of (descr_puts (d ∷ [])))
unfolding IsDistinct
one-key d = (tt, tt)

module _ (H : List ℕ → Hash256) where
  -- blocks that are there have other keys than a new one
  pub fresh-keys : (w : World) (d : Descr) → block_at w d.id ≡ None → IsDescr d → ((x : Descr) → Contains w.blocks x → IsDescr x) → (x : Descr) → Contains w.blocks x → same_key (key d) (key x) ≡ false
  fresh-keys w d fresh is are x h = keys-apart d x is (are x h) (λ same. true≢false (sym (found-there w d.id (x, h, sym same)) ∙ ap is_some fresh))

  pub sound-block : (t : ToldWorld) → IsSound H t → (d : Descr) → Contains t.world.blocks d → IsSoundBlock H t.state d
  sound-block t sound d h = All-contains (IsSoundBlock H t.state) t.world.blocks d sound.blocks h

  -- a block comes, and none goes
  pub stored-leads : (t : ToldWorld) (id : BlockId) (parents tops : List BlockId) (p : PreparedView) → IsSound H t → IsSound H (with_stored H t id parents tops p) → block_at t.world id ≡ None
      → (news : List Tree) (plan : Rows)
      → (let v = with_stored H t id parents tops p in AreAdded H (shown t) (shown v) (block_of v (stored id parents tops p) ∷ []) news plan)
      → (change : Change) → IsCellBatch plan change → change.put_descs ≡ descr_puts (stored id parents tops p ∷ []) → change.drop_descs ≡ []
      → (contents : Contents) → IsContentsOf H (shown t) contents → IsContentsOf H (shown (with_stored H t id parents tops p)) (changed change contents)
  stored-leads t id parents tops p sound sound_v fresh news plan added change cells puts drops contents are =
      leads H (shown t) (shown v) (shown v) (block_of v d ∷ []) [] news [] plan added change cells descs contents are
    where
      v : ToldWorld
      v = with_stored H t id parents tops p

      d : Descr
      d = stored id parents tops p

      descs : DescsLead H change (shown t) (shown v)
      descs = descs-lead H t v change (d ∷ []) [] (sound-block t sound) (sound-block v sound_v) puts drops (one-key d) (λ q. look-placed d t.world.blocks q (fresh-keys t.world d fresh (let block = sound-block v sound_v d (Contains-placed_new d t.world.blocks) in block.is) (λ x h. let block = sound-block t sound x h in block.is)))

  -- what is asked of a stored state leads from a sound world to a sound one
  pub sound-next : {X : Type 0} (limit : ℕ) → limit ≤ GREATEST_COUNT → (t : ToldWorld) (who : Who) (event : Event X) → IsSound H t → refusal_of H t.world who.worker event ≡ None → reply_of t.world who.worker event ≡ reply.Stored
      → cell_refusal H limit t who.worker event ≡ None → IsAsked H t who.worker event → IsSound H (told_after H t (entry_of who event reply.Stored))
  sound-next {X} limit low t who event sound free is none asked =
      stays_sound H limit t (entry_of who event reply.Stored ∷ []) low sound (follows, tt) (asked, tt)
    where
      follows : FollowsTold H limit t (entry_of who event reply.Stored)
      follows = inl (sym (ap₂ (λ o c. answered (option_or o c) (reply_of t.world who.worker event)) free none ∙ is))
