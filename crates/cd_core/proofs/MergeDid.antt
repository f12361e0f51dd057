-- What the work of a merge did.
use Rattle.std.proofs.Common.{◌≡◌, ℕ, ◌+◌, ◌*◌, ◌≤◌, Bool, true, false, not, List, [], ◌∷◌, ◌++◌, length, map, All, Option, Some, None, refl, sym, ap, ◌∙◌, subst, arith}
use Rattle.std.specs.Prelude.{Result, Ok, Err, is_some, IsSome}
use Rattle.std.specs.List.{filter, list_any, AllByRecursion, IsDistinct}
use Rattle.std.specs.Option.{unwrap_or}
use Rattle.std.proofs.lemmas.Bool.{true≢false}
use Rattle.std.proofs.lemmas.List.{length-map}
use Rattle.std.proofs.lemmas.List.Elements.{All-contains, recursion_from_All, All-from_recursion}
use Rattle.std.proofs.lemmas.Option.{none-some}
use Rattle.cd_base.specs.declared.hash.Hash256.{Hash256}
use Rattle.cd_base.specs.Counts.{Rose}
use Rattle.cd_block.specs.declared.block.BlockId.{BlockId}
use Rattle.cd_block.specs.declared.description.Descr.{Descr}
use Rattle.cd_block.specs.Block.{IsBlockId, key_of}
use Rattle.cd_block.specs.Description.{IsDescr, IsDescrFit}
use Rattle.cd_cell.specs.Listings.{Fits}
use Rattle.cd_cell.specs.PreparedView.{PreparedView}
use Rattle.cd_cell.specs.Tree.{Tree}
use Rattle.cd_keeper.specs.Contents.{Contents, changed}
use Rattle.cd_keeper.specs.Keeping.{KeepsHeld}
use Rattle.cd_keeper.specs.NoKeyTwice.{same_key}
use Rattle.cd_keeper.specs.Shown.{hash_bytes}
use Rattle.cd_record.specs.declared.limits.TheConstants.{GREATEST_COUNT}
use Rattle.cd_event.specs.declared.names.Who.{Who}
use Rattle.cd_event.specs.declared.event.Event.{Event}
use Rattle.cd_event.specs.declared.event.Event.TheVariants.{Merge}
use Rattle.cd_event.specs.declared.entry.Reply.TheVariants as reply
use Rattle.cd_event.specs.declared.refusal.Refusal.{Refusal}
use Rattle.cd_event.specs.declared.refusal.Refusal.TheVariants as refusal
use Rattle.cd_event.specs.declared.faults.MergeFault.{MergeFault}
use Rattle.cd_event.specs.declared.faults.MergeFault.TheVariants as merge
use Rattle.cd_event.specs.declared.answers.Stored.{Stored}
use Rattle.cd_event.specs.Replies.{merge_reply, merge_refusal}
use Rattle.cd_world.specs.declared.world.World.{World}
use Rattle.cd_world.specs.declared.world.PinRow.{PinRow}
use Rattle.cd_world.specs.World.{Block}
use Rattle.cd_world.specs.Changes.{stored, with_block, without_pins}
use Rattle.cd_world.specs.Image.{IsContentsOf}
use Rattle.cd_world.specs.Machine.{rows_at, merge_rows, blocks_of, old_info, is_over, refused_if, unmergeable, refusal_of}
use Rattle.cd_world.specs.Soundness.{IsStorable, IsAsked}
use Rattle.cd_world.specs.Standing.{block_at}
use Rattle.cd_world.specs.Told.{ToldWorld, block_of, shown, with_state, with_stored, cell_refusal, storing_refusal, IsSound}
use Rattle.cd_world.specs.Told.{made as made_tree}
use Rattle.cd_world.proofs.Orders.{All-from_Contains}
use Rattle.cd_world.proofs.PinsStay.{none_of, or_first, or_second}
use Rattle.cd_world.proofs.TidyWorlds.{there-found}
use Rattle.cd_count.specs.declared.count_fault.CountFault.{CountFault}
use Rattle.cd_count.specs.declared.count_fault.CountFault.TheVariants as count
use Rattle.cd_count.specs.Changes.{Rows, states, rep_bytes, AreTogether, AreAdded, AreCounted, AreDeadCells}
use Rattle.cd_count.specs.PlanRows.{descr_puts}
use Rattle.cd_count.specs.Reading.{IsCaused}
use Rattle.cd_core.specs.Cores.{IsWritable, Holds}
use Rattle.cd_core.specs.Effects.{goes_in_turn, merge_collects, ended_by, AreEnded}
use Rattle.cd_core.specs.Merging.{IsOfParents, AreGoing, AreFitting, IsDropping, IsDropRead}
use Rattle.cd_core.specs.Steps.{Did}
use Rattle.cd_core.specs.Storing.{merge_of, IsJudged, IsPlanMade}
use Rattle.cd_core.proofs.Apart.{keys-apart-in}
use Rattle.cd_core.proofs.DescrTables.{key}
use Rattle.cd_core.proofs.Doings.{memory-did, refused-did, failed-did, clashed-did, batch-did, holds-still}
use Rattle.cd_core.proofs.Ended.{keeps-itself}
use Rattle.cd_core.proofs.InTurn.{once-going, filter-off}
use Rattle.cd_core.proofs.Keepings.{keeps-on, applied-later}
use Rattle.cd_core.proofs.Leading.{bytes-changed}
use Rattle.cd_core.proofs.Merged.{ended, gone, together-ended, gone-before, roots-ended, merged-leads}
use Rattle.cd_core.proofs.Stores.{fresh-keys, sound-next}
use Rattle.cd_core.proofs.Writable.{IsAskedPlainly, written-stored, writable-with_block}

-- ---- what a world that refuses nothing has

module _ (H : List ℕ → Hash256) (w : World) (p : PreparedView) where
  -- a tree is known over no more than two blocks, which are there
  pub over-known : (qs : List BlockId) → is_over p (old_info H (map (block_at w) qs)) ≡ true → (length qs ≤ 2) × All (λ q. IsSome (block_at w q)) qs
  over-known [] over = absurd (true≢false (sym over))
  over-known (a ∷ []) over = by (block_at w a) refl over
    where
      by : (o : Option Descr) → block_at w a ≡ o → is_over p (old_info H (o ∷ [])) ≡ true → (length (a ∷ []) ≤ 2) × All (λ q. IsSome (block_at w q)) (a ∷ [])
      by None at e = absurd (true≢false (sym e))
      by (Some d) at e = (omega arith, All-from_recursion (λ q. IsSome (block_at w q)) (a ∷ []) (ap is_some at, tt))
  over-known (a ∷ b ∷ []) over = by (block_at w a) (block_at w b) refl refl over
    where
      by : (o q : Option Descr) → block_at w a ≡ o → block_at w b ≡ q → is_over p (old_info H (o ∷ q ∷ [])) ≡ true → (length (a ∷ b ∷ []) ≤ 2) × All (λ x. IsSome (block_at w x)) (a ∷ b ∷ [])
      by None None at also e = absurd (true≢false (sym e))
      by None (Some e') at also e = absurd (true≢false (sym e))
      by (Some d) None at also e = absurd (true≢false (sym e))
      by (Some d) (Some e') at also e = (omega arith, All-from_recursion (λ x. IsSome (block_at w x)) (a ∷ b ∷ []) (ap is_some at, (ap is_some also, tt)))
  over-known (a ∷ b ∷ c ∷ qs) over = by (block_at w a) (block_at w b) over
    where
      by : (o q : Option Descr) → is_over p (old_info H (o ∷ q ∷ block_at w c ∷ map (block_at w) qs)) ≡ true → (length (a ∷ b ∷ c ∷ qs) ≤ 2) × All (λ x. IsSome (block_at w x)) (a ∷ b ∷ c ∷ qs)
      by None None e = absurd (true≢false (sym e))
      by None (Some e') e = absurd (true≢false (sym e))
      by (Some d) None e = absurd (true≢false (sym e))
      by (Some d) (Some e') e = absurd (true≢false (sym e))

module _ (H : List ℕ → Hash256) (w : World) (id : BlockId) (p : PreparedView) (rows : List PinRow) (free : unmergeable H w id p (Some rows) ≡ None) where
  pub fresh-by : block_at w id ≡ None
  fresh-by = none_of w id (or_first _ _ (or_second _ _ free))

  pub over-by : is_over p (old_info H (map (block_at w) (blocks_of rows))) ≡ true
  over-by = by (is_over p (old_info H (map (block_at w) (blocks_of rows)))) (or_first _ _ free)
    where
      by : (b : Bool) → refused_if (not b) refusal.WrongPin ≡ None → b ≡ true
      by true e = refl
      by false e = absurd (none-some refusal.WrongPin (sym e))

  pub few-parents : length (blocks_of rows) ≤ 2
  few-parents = let known = over-known H w p (blocks_of rows) over-by in known.0

  pub parents-there : All (λ q. IsSome (block_at w q)) (blocks_of rows)
  parents-there = let known = over-known H w p (blocks_of rows) over-by in known.1

keys-are : (ds : List Descr) → map key_of (map (λ (d : Descr). d.id) ds) ≡ map key ds
keys-are [] = refl
keys-are (d ∷ ds) = ap (λ (ks : List (List ℕ)). key d ∷ ks) (keys-are ds)

-- where no block goes a plan stays as it is
pub none-dropping : {K : Type 0} (held : K → Option Contents) (H : List ℕ → Hash256) (k : K) (plan : Rows) (roots : List Hash256) → roots ≡ [] → IsDropping held H k plan roots plan
none-dropping held H k plan roots none t grown left come gone news h added together named = by gone together (named ∙ ap (map hash_bytes) none)
  where
    by : (gone : List Block) → AreTogether H left.blocks gone grown.blocks → map (rep_bytes H) (states gone) ≡ [] → (dead : List Tree) × AreCounted H (shown t) grown left come gone news dead plan
    by [] went empty = (
      [],
      record {
        came = added.came;
        went = went;
        clash_free = added.clash_free;
        new = added.new;
        ended = added.ended;
        rows_are = added.rows_are;
        once = added.once;
      },
    )
    by (b ∷ bs) went empty = absurd (cc empty)

module _ {K : Type 0} (X : Type 0) (held : K → Option Contents) (H : List ℕ → Hash256) (trail : K → Option (List Contents)) (batches faults : K → ℕ)
    (limit : ℕ) (w : World) (k : K) (who : Who) (pin : ℕ) (other : Option ℕ) (id : BlockId) (tops : List BlockId) (p : PreparedView) (ready : IsWritable w) where
  abbrev event : Event X
  event = Merge pin other id tops p

  abbrev refused : Option Refusal
  refused = refusal_of H w who.worker event

  abbrev DidSo : Result Stored MergeFault → World → K → Type 0
  DidSo answer w' k' = Did held H trail batches faults limit w k who event (merge_reply answer) w' k'

  -- a pin is missing
  pub pin-missing : rows_at w who.worker pin other ≡ None → DidSo (Err merge.NoPin) w k
  pin-missing none = refused-did held H trail batches faults limit w k k who event refusal.NoPin ready (ap (unmergeable H w id p) none) refl (keeps-itself held trail batches k) refl

  -- the world refuses it
  pub merge-refused : (rows : List PinRow) → rows_at w who.worker pin other ≡ Some rows → (fault : MergeFault) → IsOfParents fault → merge_refusal fault ≡ unmergeable H w id p (Some rows) → DidSo (Err fault) w k
  merge-refused rows at fault kind is = by fault kind (is ∙ sym (ap (unmergeable H w id p) at))
    where
      by : (f : MergeFault) → IsOfParents f → merge_refusal f ≡ refused → DidSo (Err f) w k
      by merge.WrongPin kind is = refused-did held H trail batches faults limit w k k who event refusal.WrongPin ready (sym is) refl (keeps-itself held trail batches k) refl
      by merge.Known kind is = refused-did held H trail batches faults limit w k k who event refusal.Known ready (sym is) refl (keeps-itself held trail batches k) refl
      by (merge.Lineage fault) kind is = refused-did held H trail batches faults limit w k k who event (refusal.Lineage fault) ready (sym is) refl (keeps-itself held trail batches k) refl
      by merge.NoPin kind is = absurd kind
      by (merge.Clash hash stored offered) kind is = absurd kind
      by (merge.CountFull hash n) kind is = absurd kind
      by merge.Keeper kind is = absurd kind
      by merge.Memory kind is = absurd kind

  -- the cells refuse it, the keeper fails, or memory is wanting
  pub merge-planless : (T : Type 0) (k' : K) (fault : CountFault) (given : MergeFault) → given ≡ merge_of fault → refused ≡ None → KeepsHeld held trail batches k k' → faults k ≤ faults k' → IsCaused (faults k) (faults k') fault
      → ((t : ToldWorld) → t.world ≡ w → Holds held H t k → IsJudged {T = T} (cell_refusal H limit t who.worker event) (Err fault)) → DidSo (Err given) w k'
  merge-planless T k' fault given is free keeps later caused cells = subst (λ (f : MergeFault). DidSo (Err f) w k') (sym is) (planless T k' fault free keeps later caused cells)
    where
      planless : (T : Type 0) (k' : K) (fault : CountFault) → refused ≡ None → KeepsHeld held trail batches k k' → faults k ≤ faults k' → IsCaused (faults k) (faults k') fault
          → ((t : ToldWorld) → t.world ≡ w → Holds held H t k → IsJudged {T = T} (cell_refusal H limit t who.worker event) (Err fault)) → DidSo (Err (merge_of fault)) w k'
      planless T k' (count.Clash hash stored offered) free keeps later caused cells =
          clashed-did held H trail batches faults limit w k k' who event (refusal.Clash hash stored offered) ready free refl (tt, tt) keeps caused cells
      planless T k' (count.CountFull hash n) free keeps later caused cells =
          clashed-did held H trail batches faults limit w k k' who event (refusal.CountFull hash n) ready free refl (tt, tt) keeps caused cells
      planless T k' count.Keeper free keeps later caused cells = failed-did held H trail batches faults limit w k k' who event ready free refl keeps later caused
      planless T k' count.Memory free keeps later caused cells = memory-did held H trail batches faults limit w k k' who event ready keeps caused

  -- the keeper fails the batch, or memory is wanting
  pub merge-failed : (w' : World) (k1 k2 : K) → w' ≡ w → refused ≡ None → KeepsHeld held trail batches k k1 → KeepsHeld held trail batches k1 k2 → faults k1 ≡ faults k → faults k1 ≤ faults k2 → Rose (faults k1) (faults k2) → DidSo (Err merge.Keeper) w' k2
  merge-failed w' k1 k2 is free first then same later rose =
      subst (λ (v : World). DidSo (Err merge.Keeper) v k2) (sym is)
      (failed-did held H trail batches faults limit w k k2 who event ready free refl (keeps-on held trail batches k k1 k2 first then)
      (subst (λ n. n ≤ faults k2) same later) (subst (λ n. Rose n (faults k2)) same rose))

  pub merge-wanting : (w' : World) (k1 k2 : K) → w' ≡ w → KeepsHeld held trail batches k k1 → KeepsHeld held trail batches k1 k2 → faults k1 ≡ faults k → faults k2 ≡ faults k1 → DidSo (Err merge.Memory) w' k2
  merge-wanting w' k1 k2 is first then same after =
      subst (λ (v : World). DidSo (Err merge.Memory) v k2) (sym is)
      (memory-did held H trail batches faults limit w k k2 who event ready (keeps-on held trail batches k k1 k2 first then) (after ∙ same))

  -- what a plan tells of the block over these parents
  abbrev pub Judges : (T : Type 0) → Result T CountFault → List BlockId → Type 0
  Judges T result parents = (t : ToldWorld) → t.world ≡ w → Holds held H t k → Fits H p.root p.cells (map t.state parents)
      → IsJudged (storing_refusal H limit t (with_stored H t id parents tops p) p.cells) result

  abbrev pub Plans : Rows → List BlockId → Type 0
  Plans plan parents = (t : ToldWorld) → t.world ≡ w → Holds held H t k → Fits H p.root p.cells (map t.state parents)
      → let v = with_stored H t id parents tops p in (news : List Tree) × AreAdded H (shown t) (shown v) (block_of v (stored id parents tops p) ∷ []) news plan

  -- ---- where the world refuses nothing

  module _ (rows : List PinRow) (at : rows_at w who.worker pin other ≡ Some rows) (free : unmergeable H w id p (Some rows) ≡ None) where
    abbrev parents : List BlockId
    parents = blocks_of rows

    abbrev v : ToldWorld → ToldWorld
    v t = with_stored H t id parents tops p

    pub unrefused : refused ≡ None
    unrefused = ap (unmergeable H w id p) at ∙ free

    rows-here : merge_rows w who.worker pin other ≡ rows
    rows-here = ap (λ o. unwrap_or o []) at

    rows-in : (t : ToldWorld) → t.world ≡ w → merge_rows t.world who.worker pin other ≡ rows
    rows-in t is = ap (λ (x : World). merge_rows x who.worker pin other) is ∙ rows-here

    fresh-in : (t : ToldWorld) → t.world ≡ w → block_at t.world id ≡ None
    fresh-in t is = ap (λ (x : World). block_at x id) is ∙ fresh-by H w id p rows free

    fits-in : AreFitting held H w k who.worker pin other p → (t : ToldWorld) → t.world ≡ w → Holds held H t k → Fits H p.root p.cells (map t.state parents)
    fits-in fits t is h = fits t rows is h at (over-by H w id p rows free)

    -- what the cells refuse
    judged-in : {T : Type 0} (t : ToldWorld) → t.world ≡ w → (result : Result T CountFault) → IsJudged (storing_refusal H limit t (v t) p.cells) result → IsJudged (cell_refusal H limit t who.worker event) result
    judged-in t is result judged =
        subst (λ (rs : List PinRow). IsJudged (storing_refusal H limit t (with_stored H t id (blocks_of rs) tops p) p.cells) result) (sym (rows-in t is)) judged

    pub merge-judged : (T : Type 0) (k' : K) (fault : CountFault) (given : MergeFault) → given ≡ merge_of fault → AreFitting held H w k who.worker pin other p
        → KeepsHeld held trail batches k k' → faults k ≤ faults k' → IsCaused (faults k) (faults k') fault
        → (ps : List BlockId) → ps ≡ parents → Judges T (Err fault) ps → DidSo (Err given) w k'
    merge-judged T k' fault given is fits keeps later caused ps are judges =
        let judged = subst (Judges T (Err fault)) are judges in
        merge-planless T k' fault given is unrefused keeps later caused (λ t same h. judged-in {T = T} t same (Err fault) (judged t same h (fits-in fits t same h)))

    -- the pins' blocks are there
    named : AllByRecursion IsBlockId parents
    named = recursion_from_All IsBlockId parents (All-from_Contains IsBlockId parents (λ q h.
        let some = All-contains (λ (x : BlockId). IsSome (block_at w x)) parents q (parents-there H w id p rows free) h in
        let there = there-found w q some in
        let is = All-contains IsDescr w.blocks there.0 ready.are there.1 in
        subst IsBlockId there.2 is.id))

    few : length parents ≤ 2
    few = few-parents H w id p rows free

    -- the new block's description
    written-merged : IsStorable H id tops p → IsDescrFit (stored id parents tops p) × IsDescr (stored id parents tops p)
    written-merged storable = written-stored H id parents tops p storable few named

    pub merge-writable : IsStorable H id tops p → (ps : List BlockId) → ps ≡ parents → (d : Descr) → d ≡ stored id ps tops p → (w' : World) → w' ≡ with_block w d → IsWritable w'
    merge-writable storable ps are d is_d w' went =
        let is : d ≡ stored id parents tops p = is_d ∙ ap (λ (qs : List BlockId). stored id qs tops p) are in
        subst IsWritable (sym (went ∙ ap (with_block w) is)) (writable-with_block w (stored id parents tops p) ready (fresh-by H w id p rows free) (written-merged storable))

    -- the keys of the blocks that go and of the one that comes
    pub merge-once : IsStorable H id tops p → (ps : List BlockId) → ps ≡ parents → (d : Descr) → d ≡ stored id ps tops p → (roots : List Hash256) (ids : List BlockId) → AreGoing w rows roots ids w.blocks
        → IsDistinct same_key (map key_of ids ++ key_of d.id ∷ [])
    merge-once storable ps are d is_d roots ids going =
        let comes = stored id parents tops p in
        let is : d ≡ comes = is_d ∙ ap (λ (qs : List BlockId). stored id qs tops p) are in
        let apart = fresh-keys H w comes (fresh-by H w id p rows free) (written-merged storable).1 (λ x h. All-contains IsDescr w.blocks x ready.are h) in
        subst (λ (xs : List BlockId). IsDistinct same_key (map key_of xs ++ key_of d.id ∷ [])) (sym going.ids_are)
        (subst (λ (x : Descr). IsDistinct same_key (map key_of (map (λ y. y.id) (filter (goes_in_turn w rows) w.blocks)) ++ key_of x.id ∷ [])) (sym is)
        (once-going (goes_in_turn w rows) comes w.blocks (keys-apart-in w ready) apart))

    -- nothing is read besides where none goes
    pub merge-quiet : (roots : List Hash256) (ids : List BlockId) → AreGoing w rows roots ids w.blocks → (start before now most : ℕ) → before ≤ start + most → (roots ≡ [] → now ≡ before)
        → merge_collects w who.worker pin other ≡ false → now ≤ start + most
    merge-quiet roots ids going start before now most low still none =
        let off : list_any (goes_in_turn w rows) w.blocks ≡ false = ap (λ (rs : List PinRow). list_any (goes_in_turn w rs) w.blocks) (sym rows-here) ∙ none in
        let empty : roots ≡ [] = going.roots_are ∙ ap (map (λ (d : Descr). d.root)) (filter-off (goes_in_turn w rows) w.blocks off) in
        subst (λ n. n ≤ start + most) (sym (still empty)) low

    asked-plainly : IsStorable H id tops p → IsAskedPlainly H w who.worker event
    asked-plainly storable = subst (λ (rs : List PinRow). IsStorable H id tops p × (length (blocks_of rs) ≤ 2) × AllByRecursion IsBlockId (blocks_of rs)) (sym rows-here) (storable, few, named)

    asked-in : IsStorable H id tops p → AreFitting held H w k who.worker pin other p → (t : ToldWorld) → t.world ≡ w → Holds held H t k → IsAsked H t who.worker event
    asked-in storable fits t is h = (
      storable,
      λ rs at_t over. fits t rs is h
          (subst (λ (x : World). rows_at x who.worker pin other ≡ Some rs) is at_t)
          (subst (λ (x : World). is_over p (old_info H (map (block_at x) (blocks_of rs))) ≡ true) is over),
    )

    -- a plan of it, by which the pins' blocks go
    module _ (fits : AreFitting held H w k who.worker pin other p) (k1 : K) (keeps : KeepsHeld held trail batches k k1) (plan : Rows) (roots : List Hash256) (ids : List BlockId) (going : AreGoing w rows roots ids w.blocks)
        (ps : List BlockId) (are : ps ≡ parents) (plans : Plans plan ps) where
      planned : Plans plan parents
      planned = subst (Plans plan) are plans

      roots-in : (t : ToldWorld) (h : Holds held H t k) (is : t.world ≡ w) → map (rep_bytes H) (states (gone H (v t) rows)) ≡ map hash_bytes roots
      roots-in t h is =
          let so = h.are in
          roots-ended H t id parents tops p so.sound (subst IsWritable (sym is) ready) (fresh-in t is) rows
          ∙ ap (λ (x : World). map hash_bytes (map (λ (d : Descr). d.root) (filter (goes_in_turn x rows) x.blocks))) is ∙ ap (map hash_bytes) (sym going.roots_are)

      pub merge-stored : limit ≤ GREATEST_COUNT → IsStorable H id tops p → faults k1 ≡ faults k → (after : Rows) (k2 : K) (answer : Stored) (w' : World) (d : Descr) → d ≡ stored id ps tops p
          → w' ≡ without_pins (with_block w d) rows → IsDropping held H k1 plan roots after → IsPlanMade held trail batches after d ids k1 k2 → faults k2 ≡ faults k1
          → (T : Type 0) (x : T) → Judges T (Ok x) ps → DidSo (Ok answer) w' k2
      merge-stored low storable same after k2 answer w' d is_stored went drops made later T x judges =
          let judged = subst (Judges T (Ok x)) are judges in
          let is_d : d ≡ stored id parents tops p = is_stored ∙ ap (λ (qs : List BlockId). stored id qs tops p) are in
          batch-did held H trail batches faults limit low w w' k k2 who event reply.Stored ready (asked-plainly storable) unrefused refl refl
          (went ∙ ap (λ (x : Descr). without_pins (with_block w x) rows) is_d ∙ sym (ap (λ (rs : List PinRow). without_pins (with_block w (stored id (blocks_of rs) tops p)) rs) rows-here))
          refl made.change (applied-later held trail batches made.change k k1 k2 keeps made.applied) (later ∙ same) (λ t contents is told so.
          let h : Holds held H t k = record { contents = contents; is_held = told; are = so } in
          let fitting = fits-in fits t is h in
          let none = judged-in {T = T} t is (Ok x) (judged t is h fitting) in
          let asks = asked-in storable fits t is h in
          let free_t : refusal_of H t.world who.worker event ≡ None = ap (λ (x : World). refusal_of H x who.worker event) is ∙ unrefused in
          let next = sound-next H limit low t who event so.sound free_t refl none asks in
          let sound_u : IsSound H (ended H (v t) rows) =
          subst (λ (rs : List PinRow). IsSound H (record { world = without_pins (with_block t.world (stored id (blocks_of rs) tops p)) rs; state = with_state id (made_tree H p (map t.state (blocks_of rs))) t.state })) (rows-in t is) next in
          let added = planned t is h fitting in
          let counted = drops t (shown (v t)) (shown (ended H (v t) rows)) (block_of (v t) (stored id parents tops p) ∷ []) (gone H (v t) rows) added.0
          (holds-still held H trail batches faults t k k1 keeps h) added.1 (together-ended H (v t) rows) (roots-in t h is) in
          let dropped : made.change.drop_descs ≡ map key (filter (goes_in_turn t.world rows) t.world.blocks) =
          made.drops ∙ ap (map key_of) going.ids_are ∙ keys-are (filter (goes_in_turn w rows) w.blocks) ∙ sym (ap (λ (x : World). map key (filter (goes_in_turn x rows) x.blocks)) is) in
          let leads = merged-leads H t id parents tops p so.sound (subst IsWritable (sym is) ready) (fresh-in t is) rows sound_u added.0 counted.0 after counted.1
          made.change made.cells (made.puts ∙ ap (λ (x : Descr). descr_puts (x ∷ [])) is_d) dropped contents so.are in (
            none,
            asks,
            subst (λ (rs : List PinRow). IsContentsOf H (shown (record { world = without_pins (with_block t.world (stored id (blocks_of rs) tops p)) rs; state = with_state id (made_tree H p (map t.state (blocks_of rs))) t.state })) (changed made.change contents)) (sym (rows-in t is)) leads,
            bytes-changed made.change contents so.bytes made.bytes,
          ))

      -- what is read besides, as they go
      pub merge-reads : (start before now most : ℕ) → before ≤ start + most → IsDropRead held H k1 plan roots before now → (t : ToldWorld) (dead : List Tree) → t.world ≡ w → Holds held H t k
          → AreEnded H t (merge_rows t.world who.worker pin other) id tops p dead → now ≤ start + (most + (4 * length dead + length (ended_by t (merge_rows t.world who.worker pin other))))
      merge-reads start before now most low read t dead is h ends =
          let so = h.are in
          let fitting = fits-in fits t is h in
          let added = planned t is h fitting in
          let of_rows : AreEnded H t rows id tops p dead = subst (λ (rs : List PinRow). AreEnded H t rs id tops p dead) (rows-in t is) ends in
          let same : gone H (v t) rows ≡ ended_by t rows = gone-before H t id parents tops p so.sound (subst IsWritable (sym is) ready) (fresh-in t is) rows in
          let of_gone = subst (λ (bs : List Block). let all = shown (v t) in AreDeadCells H all.blocks bs dead) (sym same) of_rows in
          let named_roots = roots-in t h is in
          let read_all : now ≤ before + (4 * length dead + length roots) =
          read t (shown (v t)) (shown (ended H (v t) rows)) (block_of (v t) (stored id parents tops p) ∷ []) (gone H (v t) rows) added.0 dead (holds-still held H trail batches faults t k k1 keeps h) added.1
          (together-ended H (v t) rows) named_roots of_gone in
          let many : length roots ≡ length (ended_by t rows) =
          ap length going.roots_are ∙ length-map (filter (goes_in_turn w rows) w.blocks) (λ (d : Descr). d.root)
          ∙ sym (ap (λ (x : World). length (filter (goes_in_turn x rows) x.blocks)) is) ∙ sym (length-map (filter (goes_in_turn t.world rows) t.world.blocks) (block_of t)) in
          subst (λ (rs : List PinRow). now ≤ start + (most + (4 * length dead + length (ended_by t rs)))) (sym (rows-in t is)) (omega (arith, low, read_all, many))
