-- A worker's merges, by its own entries and pins: what they are over, and why they are refused.
use Rattle.std.proofs.Common.{◌≡◌, ℕ, ◌≤◌, Bool, true, false, cond, not, List, [], ◌∷◌, map, All, Option, Some, None, refl, sym, ap, ap₂, ◌∙◌, subst, ⊎_elim}
use Rattle.std.specs.Prelude.{Result, Err, IfSome, IsSome, is_some, nat_eq, ◌&&◌, ◌||◌}
use Rattle.std.specs.List.{list_any}
use Rattle.std.specs.Option.{option_map, option_or, option_and_then, option_to_list}
use Rattle.std.proofs.lemmas.Bool.{true≢false, and_parts, and_from, le-leb}
use Rattle.std.proofs.lemmas.List.Elements.{All-from_recursion, All-contains}
use Rattle.std.proofs.lemmas.Option.{none-some, same_Some}
use Rattle.cd_base.specs.declared.hash.Hash256.{Hash256}
use Rattle.cd_block.specs.declared.block.BlockId.{BlockId}
use Rattle.cd_block.specs.declared.description.Descr.{Descr}
use Rattle.cd_block.specs.Description.{IsDescrFit}
use Rattle.cd_block.specs.Lineage.{lineage_fault}
use Rattle.cd_cell.specs.declared.info.ChildInfo.{ChildInfo}
use Rattle.cd_cell.specs.declared.limits.TheConstants.{GREATEST_DEPTH}
use Rattle.cd_cell.specs.Equality.{same_hash, same_hash-Decides}
use Rattle.cd_cell.specs.Infos.{rep_of_info, height_of_info}
use Rattle.cd_cell.specs.Joined.{joined_tree}
use Rattle.cd_cell.specs.Listings.{Fits}
use Rattle.cd_cell.specs.PreparedView.{PreparedView}
use Rattle.cd_cell.specs.Tree.{Tree, info_of, rep_of}
use Rattle.cd_keeper.specs.Contents.{Contents}
use Rattle.cd_event.specs.declared.entry.Entry.{Entry}
use Rattle.cd_event.specs.declared.entry.Reply.TheVariants as reply
use Rattle.cd_event.specs.declared.event.Event.{Event}
use Rattle.cd_event.specs.declared.event.Event.TheVariants.{Zero, Pin, Look, Merge, Unpin, Expire}
use Rattle.cd_event.specs.declared.names.Who.{Who}
use Rattle.cd_event.specs.declared.refusal.Refusal.{Refusal}
use Rattle.cd_event.specs.declared.refusal.Refusal.TheVariants as refusal
use Rattle.cd_event.specs.Pins.{Named, find_pin, is_live, are_live, Holds, joined_root, MayMerge, IsOfOther}
use Rattle.cd_event.specs.declared.faults.LookFault.{LookFault}
use Rattle.cd_event.specs.declared.faults.LookFault.TheVariants as look
use Rattle.cd_event.specs.Replies.{entry_of, look_reply}
use Rattle.cd_world.specs.declared.world.PinRow.{PinRow}
use Rattle.cd_world.specs.declared.world.World.{World}
use Rattle.cd_world.specs.Following.{Follows, IsOfCells, MayRefuse}
use Rattle.cd_world.specs.Machine.{root_info, rows_at, two_rows, blocks_of, old_info, is_over, refused_if, no_pin, unmergeable, answered, refusal_of, reply_of, is_refused}
use Rattle.cd_world.specs.OldTrees.{old_tree}
use Rattle.cd_world.specs.Standing.{has_id, block_at, is_pin, pin_at}
use Rattle.cd_world.specs.Told.{ToldWorld, told_replay, AllFollowTold}
use Rattle.cd_world.proofs.OldInfos.{old_tree-known}
use Rattle.cd_world.proofs.PinsStay.{false_from}
use Rattle.cd_world.proofs.Searches.{any-found, find-passes, find-contains}
use Rattle.cd_core.specs.declared.start.CoreStart.{CoreStart}
use Rattle.cd_core.specs.Cores.{IsCore, world_after, told_start}
use Rattle.cd_core.specs.Effects.{MayStoreOver}
use Rattle.cd_core.specs.Workers.{made_by, named_by}
use Rattle.cd_core.proofs.OwnPins.{told_now, tracks, sound-now}
use Rattle.cd_core.proofs.Tracking.{IsNamed}

-- ---- values and old trees

-- a value that is over a tree names its root
over-old : (p : PreparedView) (k : ChildInfo) → is_over p (Some k) ≡ true → p.old ≡ Some (rep_of_info k)
over-old p k over = let parts = and_parts _ _ over in by p.old parts.1
  where
    by : (o : Option Hash256) → list_any (λ stated. same_hash stated (rep_of_info k)) (option_to_list o) ≡ true → o ≡ Some (rep_of_info k)
    by None e = absurd (true≢false (sym e))
    by (Some stated) e = whether (same_hash stated (rep_of_info k)) refl e
      where
        whether : (b : Bool) → same_hash stated (rep_of_info k) ≡ b → (b || false) ≡ true → Some stated ≡ Some (rep_of_info k)
        whether true is f = ap {B = Option Hash256} Some ((same_hash-Decides stated (rep_of_info k)).0 is)
        whether false is f = absurd (true≢false (sym f))

-- one that names it is over it
old-over : (p : PreparedView) (k : ChildInfo) → height_of_info k ≤ GREATEST_DEPTH → p.old ≡ Some (rep_of_info k) → is_over p (Some k) ≡ true
old-over p k low names =
    and_from _ _ (le-leb (height_of_info k) GREATEST_DEPTH low)
    (ap (λ (o : Option Hash256). list_any (λ stated. same_hash stated (rep_of_info k)) (option_to_list o)) names
    ∙ ap (λ b. b || false) ((same_hash-Decides (rep_of_info k) (rep_of_info k)).1 refl))

-- ---- refusals

same-refusal : (r s : Refusal) → reply.Refused r ≡ reply.Refused s → r ≡ s
same-refusal r s e = cc e

pub unpinned-refused : (o : Option PinRow) → no_pin o ≡ Some refusal.NoPin → o ≡ None
unpinned-refused None e = refl
unpinned-refused (Some row) e = absurd (none-some refusal.NoPin e)

module _ (H : List ℕ → Hash256) where
  -- a merge whose pin is missing
  pub pinless-merge : (w : World) (id : BlockId) (p : PreparedView) (o : Option (List PinRow)) → unmergeable H w id p o ≡ Some refusal.NoPin → o ≡ None
  pinless-merge w id p None e = refl
  pinless-merge w id p (Some rows) e = absurd (by (is_over p (old_info H (map (block_at w) (blocks_of rows)))) (is_some (block_at w id)) (lineage_fault id (blocks_of rows)) e)
    where
      by : (over there : Bool) (o : Option _) → option_or (refused_if (not over) refusal.WrongPin) (option_or (refused_if there refusal.Known) (option_map (λ fault. refusal.Lineage fault) o)) ≡ Some refusal.NoPin → ⊥
      by false there o f = absurd cc
      by true true o f = absurd cc
      by true false None f = absurd cc
      by true false (Some fault) f = absurd cc

  -- a merge over another state
  pub wrong-merge : (w : World) (id : BlockId) (p : PreparedView) (o : Option (List PinRow)) → unmergeable H w id p o ≡ Some refusal.WrongPin
      → (rows : List PinRow) × (o ≡ Some rows) × (is_over p (old_info H (map (block_at w) (blocks_of rows))) ≡ false)
  wrong-merge w id p None e = absurd cc
  wrong-merge w id p (Some rows) e = (rows, refl, by (is_over p (old_info H (map (block_at w) (blocks_of rows)))) (is_some (block_at w id)) (lineage_fault id (blocks_of rows)) e)
    where
      by : (over there : Bool) (o : Option _) → option_or (refused_if (not over) refusal.WrongPin) (option_or (refused_if there refusal.Known) (option_map (λ fault. refusal.Lineage fault) o)) ≡ Some refusal.WrongPin → over ≡ false
      by false there o f = refl
      by true true o f = absurd cc
      by true false None f = absurd cc
      by true false (Some fault) f = absurd cc

module _ {X : Type 0} (H : List ℕ → Hash256) where
  unrefused-reply : (w : World) (who : ℕ) (event : Event X) → is_refused (reply_of w who event) ≡ false
  unrefused-reply w who (Zero id tops p) = refl
  unrefused-reply w who (Pin id) = refl
  unrefused-reply w who (Look pin asked) = refl
  unrefused-reply w who (Merge pin other id tops p) = refl
  unrefused-reply w who (Unpin pin) = refl
  unrefused-reply w who (Expire id) = refl

  -- what neither the cells nor the keeper refuse is refused by the world
  pub world-refused : (w : World) (e : Entry X) (r : Refusal) → Follows H w e → e.reply ≡ reply.Refused r → (IsOfCells r → ⊥) → (r ≡ refusal.Keeper → ⊥) → refusal_of H w e.who.worker e.event ≡ Some r
  world-refused w e r follows is uncelled unkept = ⊎_elim
      (λ same. by (refusal_of H w e.who.worker e.event) follows.0 refl follows.1 (sym is ∙ same))
      (λ failed. absurd (unkept (same-refusal r refusal.Keeper (sym is ∙ failed.reply))))
      follows.2
    where
      by : (o cells : Option Refusal) → refusal_of H w e.who.worker e.event ≡ o → MayRefuse e.event cells → reply.Refused r ≡ answered (option_or o cells) (reply_of w e.who.worker e.event) → refusal_of H w e.who.worker e.event ≡ Some r
      by (Some s) cells at of same = at ∙ ap {B = Option Refusal} Some (sym (same-refusal r s same))
      by None (Some s) at of same = absurd (uncelled (subst IsOfCells (sym (same-refusal r s same)) of.1))
      by None None at of same = absurd (true≢false (ap is_refused same ∙ unrefused-reply w e.who.worker e.event))

-- ---- a worker's pins

module _ {X : Type 0} (H : List ℕ → Hash256) (worker : ℕ) {K : Type 0} (held : K → Option Contents) (trail : K → Option (List Contents)) (batches faults : K → ℕ) (start : CoreStart K) (es : List (Entry X)) (k : K)
    (core : IsCore held H trail batches faults start es k) where
  abbrev w : World
  w = world_after start es

  abbrev ms : List (Entry X)
  ms = made_by worker es

  abbrev ns : List Named
  ns = named_by H held worker start es

  -- a pin that isn't there isn't live
  pub none-live : (n : ℕ) → pin_at w worker n ≡ None → is_live n ms ≡ false
  none-live n none = false_from (is_live n ms) (λ alive.
      let all = tracks H worker held trail batches faults start es k core in
      let is = all.live n alive in
      let on = is.is_held in
      none-some is.row (sym none ∙ on.is_row))

  -- a pin for whose lack an event is refused isn't live
  pub pinless : (who : Who) (event : Event X) (pin : ℕ) → who.worker ≡ worker → ((v : World) (n : ℕ) → refusal_of H v n event ≡ no_pin (pin_at v n pin))
      → Follows H w (entry_of {H = X} who event (reply.Refused refusal.NoPin)) → is_live pin ms ≡ false
  pinless who event pin whose is follows =
      none-live pin (subst (λ (n : ℕ). pin_at w n pin ≡ None) whose (unpinned-refused (pin_at w who.worker pin) (sym (is w who.worker) ∙ world-refused H w (entry_of {H = X} who event (reply.Refused refusal.NoPin)) refusal.NoPin follows refl (λ x. x) (λ e. cc e))))

  pub look-pinless : (who : Who) (pin asked : ℕ) → who.worker ≡ worker → {A : Type 0} (answer : Result A LookFault) → answer ≡ Err look.NoPin
      → IfSome (look_reply answer) (λ r. Follows H w (entry_of {H = X} who (Look pin asked) r)) → is_live pin ms ≡ false
  look-pinless who pin asked whose {A} answer is follows =
      pinless who (Look pin asked) pin whose (λ v n. refl) (subst (λ (a : Result A LookFault). IfSome (look_reply a) (λ r. Follows H w (entry_of {H = X} who (Look pin asked) r))) is follows)

  -- a pin that is there is live, and was named with its block
  named-row : (n : ℕ) (row : PinRow) → pin_at w worker n ≡ Some row → (is_live n ms ≡ true) × ((is : IsNamed worker w (told_now H worker held start es) ns n) × (is.row ≡ row))
  named-row n row at =
      let all = tracks H worker held trail batches faults start es k core in
      let alive = all.back n (any-found (is_pin worker n) (is_pin worker n) w.pins row at (find-passes (is_pin worker n) w.pins row at)) in
      let is = all.live n alive in
      let on = is.is_held in
      (alive, (is, same_Some is.row row (sym on.is_row ∙ at)))

  -- and holds the tree of its block
  holds-row : (n : ℕ) (row : PinRow) (u : ToldWorld) → told_now H worker held start es ≡ Some u → pin_at w worker n ≡ Some row → Holds ms ns n (u.state row.block)
  holds-row n row u told at =
      let both = named-row n row at in
      let is = both.1.0 in
      record {
        live = both.0;
        told = ap (option_and_then (λ m. m.tree)) is.found ∙ is.tree ∙ ap (option_map (λ (v : ToldWorld). v.state (is.row).block)) told
            ∙ ap {B = Option Tree} (λ (r : PinRow). Some (u.state r.block)) both.1.1;
      }

  block-of : (n : ℕ) (row : PinRow) → pin_at w worker n ≡ Some row → IsSome (block_at w row.block)
  block-of n row at =
      let both = named-row n row at in
      let is = both.1.0 in
      let on = is.is_held in
      subst (λ (r : PinRow). IsSome (block_at w r.block)) both.1.1 (ap is_some on.is_block)

  -- ---- what a merge asks

  over-tree : (u : ToldWorld) → told_now H worker held start es ≡ Some u → (p : PreparedView) (blocks : List BlockId) (tree : Tree) → All (λ q. IsSome (block_at w q)) blocks → old_tree (map u.state blocks) ≡ Some tree
      → is_over p (old_info H (map (block_at u.world) blocks)) ≡ true → p.old ≡ Some (rep_of H tree)
  over-tree u told p blocks tree there is over =
      let both = sound-now H worker held trail batches faults start es k core u told in
      let there_u = subst (λ (v : World). All (λ q. IsSome (block_at v q)) blocks) (sym both.1) there in
      over-old p (info_of H tree) (sym (ap (is_over p) (old_tree-known H u blocks both.0 there_u ∙ ap (option_map (info_of H)) is)) ∙ over)

  pub may-store : (pin : ℕ) (other : Option ℕ) (p : PreparedView) → MayMerge H ms ns pin other p → MayStoreOver held H start es worker pin other p
  may-store pin other p may = by (told_start held start) refl
    where
      fits : (u : ToldWorld) → told_now H worker held start es ≡ Some u → (q : Option ℕ) → MayMerge H ms ns pin q p → (rows : List PinRow) → rows_at u.world worker pin q ≡ Some rows
          → is_over p (old_info H (map (block_at u.world) (blocks_of rows))) ≡ true → Fits H p.root p.cells (map u.state (blocks_of rows))
      fits u told None asked rows at over = one (pin_at u.world worker pin) refl at
        where
          one : (o : Option PinRow) → pin_at u.world worker pin ≡ o → option_map (λ row. row ∷ []) o ≡ Some rows → Fits H p.root p.cells (map u.state (blocks_of rows))
          one None is e = absurd (none-some rows e)
          one (Some r) is e =
              let same = same_Some (r ∷ []) rows e in
              let both = sound-now H worker held trail batches faults start es k core u told in
              let at_r : pin_at w worker pin ≡ Some r = subst (λ (v : World). pin_at v worker pin ≡ Some r) both.1 is in
              let over_r = subst (λ (rs : List PinRow). is_over p (old_info H (map (block_at u.world) (blocks_of rs))) ≡ true) (sym same) over in
              let names = over-tree u told p (r.block ∷ []) (u.state r.block) (All-from_recursion (λ q. IsSome (block_at w q)) (r.block ∷ []) (block-of pin r at_r, tt)) refl over_r in
              subst (λ (rs : List PinRow). Fits H p.root p.cells (map u.state (blocks_of rs))) same (asked (u.state r.block) (holds-row pin r u told at_r) names)
      fits u told (Some second) asked rows at over = two (nat_eq pin second) (pin_at u.world worker pin) (pin_at u.world worker second) refl refl at
        where
          two : (b : Bool) (o q : Option PinRow) → pin_at u.world worker pin ≡ o → pin_at u.world worker second ≡ q → cond b None (two_rows o q) ≡ Some rows → Fits H p.root p.cells (map u.state (blocks_of rows))
          two true o q is also e = absurd (none-some rows e)
          two false None q is also e = absurd (none-some rows e)
          two false (Some r) None is also e = absurd (none-some rows e)
          two false (Some r) (Some s) is also e =
              let same = same_Some (r ∷ s ∷ []) rows e in
              let both = sound-now H worker held trail batches faults start es k core u told in
              let at_r : pin_at w worker pin ≡ Some r = subst (λ (v : World). pin_at v worker pin ≡ Some r) both.1 is in
              let at_s : pin_at w worker second ≡ Some s = subst (λ (v : World). pin_at v worker second ≡ Some s) both.1 also in
              let over_rs = subst (λ (rs : List PinRow). is_over p (old_info H (map (block_at u.world) (blocks_of rs))) ≡ true) (sym same) over in
              let names = over-tree u told p (r.block ∷ s.block ∷ []) (joined_tree (u.state r.block) (u.state s.block))
              (All-from_recursion (λ q. IsSome (block_at w q)) (r.block ∷ s.block ∷ []) (block-of pin r at_r, (block-of second s at_s, tt))) refl over_rs in
              subst (λ (rs : List PinRow). Fits H p.root p.cells (map u.state (blocks_of rs))) same
              (asked (u.state r.block) (u.state s.block) (holds-row pin r u told at_r) (holds-row second s u told at_s) names)

      by : (o : Option ToldWorld) → told_start held start ≡ o → IfSome o (λ t. AllFollowTold H start.limit t es → (rows : List PinRow)
          → let now = told_replay H t es in rows_at now.world worker pin other ≡ Some rows
          → is_over p (old_info H (map (block_at now.world) (blocks_of rows))) ≡ true
          → Fits H p.root p.cells (map now.state (blocks_of rows)))
      by None at = tt
      by (Some t) at = λ follow rows is over. fits (told_replay H t es) (ap (option_map (λ u. told_replay H u es)) at) other may rows is over

  -- ---- why a merge is refused

  pub none-are_live : (pin : ℕ) (other : Option ℕ) → rows_at w worker pin other ≡ None → are_live pin other ms ≡ false
  none-are_live pin None none = none-live pin (by (pin_at w worker pin) none)
    where
      by : (o : Option PinRow) → option_map (λ row. row ∷ []) o ≡ None → o ≡ None
      by None e = refl
      by (Some row) e = absurd cc
  none-are_live pin (Some second) none = by (nat_eq pin second) (pin_at w worker pin) (pin_at w worker second) refl refl none
    where
      off : (a b c : Bool) → (b ≡ false) → (a && b && c) ≡ false
      off true b c e = ap (λ x. x && c) e
      off false b c e = refl

      off-last : (a b c : Bool) → (c ≡ false) → (a && b && c) ≡ false
      off-last true true c e = e
      off-last true false c e = refl
      off-last false b c e = refl

      by : (b : Bool) (o q : Option PinRow) → pin_at w worker pin ≡ o → pin_at w worker second ≡ q → cond b None (two_rows o q) ≡ None → (not b && is_live pin ms && is_live second ms) ≡ false
      by true o q is also e = refl
      by false None q is also e = off true (is_live pin ms) (is_live second ms) (none-live pin is)
      by false (Some r) None is also e = off-last true (is_live pin ms) (is_live second ms) (none-live second also)
      by false (Some r) (Some s) is also e = absurd cc

  -- what was named with a pin that is there
  name-of : (n : ℕ) (row : PinRow) (m : Named) → pin_at w worker n ≡ Some row → find_pin ns n ≡ Some m → (d : Descr) × (block_at w row.block ≡ Some d) × (m.root ≡ root_info d)
  name-of n row m at found =
      let both = named-row n row at in
      let is = both.1.0 in
      let on = is.is_held in
      let same : is.name ≡ m = same_Some is.name m (sym is.found ∙ found) in
      (is.block, subst (λ (r : PinRow). block_at w r.block ≡ Some is.block) both.1.1 on.is_block, ap (λ (x : Named). x.root) (sym same) ∙ is.root)

  pub of-other : (pin : ℕ) (other : Option ℕ) (p : PreparedView) (rows : List PinRow) → rows_at w worker pin other ≡ Some rows → is_over p (old_info H (map (block_at w) (blocks_of rows))) ≡ false
      → IsOfOther H ns pin other p.old
  of-other pin None p rows at over = λ m found names. by m found names (pin_at w worker pin) refl at
    where
      by : (m : Named) → find_pin ns pin ≡ Some m → p.old ≡ Some (rep_of_info m.root) → (o : Option PinRow) → pin_at w worker pin ≡ o → option_map (λ row. row ∷ []) o ≡ Some rows → ⊥
      by m found names None is e = absurd (none-some rows e)
      by m found names (Some r) is e =
          let same = same_Some (r ∷ []) rows e in
          let of_name = name-of pin r m is found in
          let d = of_name.0 in
          let writable = core.writable in
          let fit = All-contains IsDescrFit w.blocks d writable.fit (find-contains (has_id r.block) w.blocks d of_name.1) in
          let is_old : p.old ≡ Some (rep_of_info (root_info d)) = names ∙ ap {B = Option Hash256} (λ (i : ChildInfo). Some (rep_of_info i)) of_name.2 in
          let not_over : is_over p (Some (root_info d)) ≡ false =
          sym (ap (λ (o : Option Descr). is_over p (old_info H (o ∷ []))) of_name.1) ∙ ap (λ (rs : List PinRow). is_over p (old_info H (map (block_at w) (blocks_of rs)))) same ∙ over in
          true≢false (sym (old-over p (root_info d) fit.depth is_old) ∙ not_over)
  of-other pin (Some second) p rows at over = λ m n found also_found low names. by m n found also_found low names (nat_eq pin second) (pin_at w worker pin) (pin_at w worker second) refl refl at
    where
      by : (m n : Named) → find_pin ns pin ≡ Some m → find_pin ns second ≡ Some n → height_of_info (joined_root H m.root n.root) ≤ GREATEST_DEPTH → p.old ≡ Some (rep_of_info (joined_root H m.root n.root))
          → (b : Bool) (o q : Option PinRow) → pin_at w worker pin ≡ o → pin_at w worker second ≡ q → cond b None (two_rows o q) ≡ Some rows → ⊥
      by m n found also_found low names true o q is also e = absurd (none-some rows e)
      by m n found also_found low names false None q is also e = absurd (none-some rows e)
      by m n found also_found low names false (Some r) None is also e = absurd (none-some rows e)
      by m n found also_found low names false (Some r) (Some s) is also e =
          let same = same_Some (r ∷ s ∷ []) rows e in
          let left = name-of pin r m is found in
          let right = name-of second s n also also_found in
          let root : joined_root H m.root n.root ≡ joined_root H (root_info left.0) (root_info right.0) = ap₂ (joined_root H) left.2 right.2 in
          let not_over : is_over p (Some (joined_root H (root_info left.0) (root_info right.0))) ≡ false =
          sym (ap₂ (λ (o q : Option Descr). is_over p (old_info H (o ∷ q ∷ []))) left.1 right.1) ∙ ap (λ (rs : List PinRow). is_over p (old_info H (map (block_at w) (blocks_of rs)))) same ∙ over in
          true≢false (sym (old-over p (joined_root H m.root n.root) low names) ∙ ap (λ (i : ChildInfo). is_over p (Some i)) root ∙ not_over)

  -- and so of an answer
  pub merge-pinless : (who : Who) (pin : ℕ) (other : Option ℕ) (id : BlockId) (tops : List BlockId) (p : PreparedView) → who.worker ≡ worker
      → Follows H w (entry_of {H = X} who (Merge pin other id tops p) (reply.Refused refusal.NoPin)) → are_live pin other ms ≡ false
  merge-pinless who pin other id tops p whose follows =
      let e = entry_of {H = X} who (Merge pin other id tops p) (reply.Refused refusal.NoPin) in
      none-are_live pin other (subst (λ (n : ℕ). rows_at w n pin other ≡ None) whose (pinless-merge H w id p (rows_at w who.worker pin other) (world-refused H w e refusal.NoPin follows refl (λ x. x) (λ x. cc x))))

  pub merge-wrong : (who : Who) (pin : ℕ) (other : Option ℕ) (id : BlockId) (tops : List BlockId) (p : PreparedView) → who.worker ≡ worker
      → Follows H w (entry_of {H = X} who (Merge pin other id tops p) (reply.Refused refusal.WrongPin)) → IsOfOther H ns pin other p.old
  merge-wrong who pin other id tops p whose follows =
      let e = entry_of {H = X} who (Merge pin other id tops p) (reply.Refused refusal.WrongPin) in
      let found = wrong-merge H w id p (rows_at w who.worker pin other) (world-refused H w e refusal.WrongPin follows refl (λ x. x) (λ x. cc x)) in
      of-other pin other p found.0 (subst (λ (n : ℕ). rows_at w n pin other ≡ Some found.0) whose found.1) found.2
