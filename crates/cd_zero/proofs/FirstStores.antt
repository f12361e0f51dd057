-- The first state of a store that held nothing.
use Rattle.std.proofs.Common.{◌≡◌, ℕ, List, [], ◌∷◌, cond, length, Option, Some, None, refl, sym, ap, ◌∙◌, subst, arith}
use Rattle.std.specs.Prelude.{IfSome}
use Rattle.std.specs.Ordering.{nat_cmp}
use Rattle.std.specs.Cmp.Lexicographic.{slice_cmp}
use Rattle.std.specs.List.{filter_map}
use Rattle.std.specs.FinMap as finite
use Rattle.cd_base.specs.declared.hash.Hash256.{Hash256}
use Rattle.cd_block.specs.declared.block.BlockId.{BlockId}
use Rattle.cd_cell.specs.PreparedView.{PreparedView}
use Rattle.cd_cell.specs.Tree.{Tree}
use Rattle.cd_keeper.specs.declared.keeper.Keeper.{Ghosts as KeeperGhosts}
use Rattle.cd_keeper.specs.Contents.{Contents, no_contents}
use Rattle.cd_event.specs.declared.entry.Entry.{Entry}
use Rattle.cd_event.specs.declared.entry.Reply.TheVariants as reply
use Rattle.cd_event.specs.declared.event.Event.TheVariants.{Zero}
use Rattle.cd_event.specs.declared.names.Who.{Who}
use Rattle.cd_event.specs.Replies.{entry_of}
use Rattle.cd_record.specs.declared.limits.TheConstants.{GREATEST_COUNT}
use Rattle.cd_world.specs.declared.world.World.{World}
use Rattle.cd_world.specs.Changes.{settling, settled}
use Rattle.cd_world.specs.Image.{IsContentsOf}
use Rattle.cd_world.specs.Told.{ToldWorld, shown, made, told_after, told_replay}
use Rattle.cd_world.specs.Unfolded.{told_in}
use Rattle.cd_world.proofs.PinsStay.{same_id-self}
use Rattle.cd_core.specs.Cores.{IsHeld, opened}
use Rattle.cd_restart.specs.Stored.{blocks_in, descr_of}
use Rattle.cd_restart.specs.OpenEnds.{IsSettledTo}
use Rattle.cd_restart.specs.Opened.{world_of}
use Rattle.cd_command.specs.Opening.{LeadsTo}
use Rattle.cd_zero.specs.Zero as zero

nothing-long : {A : Type 0} (xs : List A) → length xs ≡ 0 → xs ≡ []
nothing-long [] none = refl
nothing-long (x ∷ xs) none = absurd (omega (arith, none))

-- no contents describe no blocks
no-blocks : blocks_in no_contents ≡ []
no-blocks = ap (filter_map descr_of) (nothing-long (finite.entries no_contents.descs)
    (sym (finite.len-entries no_contents.descs) ∙ finite.len-empty (slice_cmp nat_cmp) (List ℕ)))

-- so they are opened as the world without blocks
none-opened : settled (world_of (blocks_in no_contents)) ≡ opened []
none-opened = ap (λ bs. settled (world_of bs)) no-blocks

module _ (H : List ℕ → Hash256) where
  -- the world after a state was stored
  stored-world : (X : Type 0) (t : ToldWorld) (who : Who) (id : BlockId) (p : PreparedView) (state : Tree) → t.world ≡ opened [] → made H p [] ≡ state
      → shown (told_after H {X = X} t (entry_of who (Zero id [] p) reply.Stored)) ≡ zero.world_of id state
  stored-world X t who id p state bare stands =
      ap (λ (v : World). shown (told_after H {X = X} (record { world = v; state = t.state }) (entry_of who (Zero id [] p) reply.Stored))) bare
      ∙ ap (λ s. zero.world_of id s) (ap (λ b. cond b (made H p []) (t.state id)) (same_id-self id) ∙ stands)

  module _ {K X : Type 0} (k : KeeperGhosts K) (journal : List (Entry X)) (old now : K) (leads : LeadsTo H k journal old now) (who : Who) where
    -- where the one entry is that of a stored state, the keeper holds its world
    pub first-stored : (id : BlockId) (p : PreparedView) (state : Tree) → made H p [] ≡ state → journal ≡ entry_of who (Zero id [] p) reply.Stored ∷ []
        → k.held old ≡ Some no_contents → IfSome (k.held now) (IsContentsOf H (zero.world_of id state))
    first-stored id p state stands is none =
        let start = leads.opened in
        let told = subst (λ (h : Option Contents). IfSome h (λ contents. leads.world ≡ settled (world_of (blocks_in contents)))) none (only (λ contents. IsSettledTo H k contents (settled (world_of (blocks_in contents))) (settling (world_of (blocks_in contents))) old leads.mid) (k.held old) start.told) in
        by (k.held leads.mid) (told ∙ none-opened) refl (let on = leads.on in on.told)
      where
        only : (P : Contents → Type 0) (o : Option Contents) → IfSome o (λ contents. (leads.world ≡ settled (world_of (blocks_in contents))) × P contents)
            → IfSome o (λ contents. leads.world ≡ settled (world_of (blocks_in contents)))
        only P None so = tt
        only P (Some contents) so = so.0

        by : (o : Option Contents) → leads.world ≡ opened [] → k.held leads.mid ≡ o
            → IfSome o (λ contents. IsHeld k.held H k.trail GREATEST_COUNT (told_in contents leads.world) journal leads.mid now)
            → IfSome (k.held now) (IsContentsOf H (zero.world_of id state))
        by None bare said told = subst (λ (o : Option Contents). IfSome o (IsContentsOf H (zero.world_of id state))) (sym ((let on = leads.on in on.silent) said)) tt
        by (Some contents) bare said told =
            let so = told.holds in
            let are = so.are in
            let world : shown (told_replay H (told_in contents leads.world) journal) ≡ zero.world_of id state =
            ap (λ es. shown (told_replay H (told_in contents leads.world) es)) is ∙ stored-world X (told_in contents leads.world) who id p state bare stands in
            subst (λ (o : Option Contents). IfSome o (IsContentsOf H (zero.world_of id state))) (sym so.is_held)
            (subst (λ w. IsContentsOf H w so.contents) world are.are)
