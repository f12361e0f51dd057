-- A block with a live pin stays, and its tree never changes.
use Rattle.std.proofs.Common.{◌≡◌, ℕ, Bool, true, false, cond, not, List, [], ◌∷◌, Option, Some, None, refl, sym, ap, ◌∙◌, subst, inl, inr}
use Rattle.std.specs.Prelude.{find, filter, is_some, nat_eq, ◌&&◌, ◌||◌, if◌then◌else◌}
use Rattle.std.specs.Option.{option_map, option_or, option_to_list, unwrap_or}
use Rattle.std.specs.List.{list_any}
use Rattle.std.specs.Ordering.{is_lt}
use Rattle.std.specs.Bool.{Decides}
use Rattle.std.specs.Cmp.Lexicographic.{bytes_decides}
use Rattle.std.proofs.lemmas.Bool.{and_parts, and_from, true≢false}
use Rattle.std.proofs.lemmas.Bool.Decides.{Decides-eqb, Decides-int_eq}
use Rattle.std.proofs.lemmas.List.Folds.{find-append}
use Rattle.std.proofs.lemmas.Option.{none-some, same_Some}
use Rattle.cd_base.specs.declared.hash.Hash256.{Hash256}
use Rattle.cd_block.specs.declared.block.BlockId.{BlockId}
use Rattle.cd_block.specs.declared.description.Descr.{Descr}
use Rattle.cd_block.specs.Block.{id_cmp}
use Rattle.cd_event.specs.declared.event.Event.{Event}
use Rattle.cd_event.specs.declared.event.Event.TheVariants.{Zero, Pin, Look, Merge, Unpin, Expire}
use Rattle.cd_event.specs.declared.entry.Entry.{Entry}
use Rattle.cd_event.specs.declared.refusal.Refusal.{Refusal}
use Rattle.cd_event.specs.declared.refusal.Refusal.TheVariants as refusal
use Rattle.cd_world.specs.declared.world.World.{World}
use Rattle.cd_world.specs.declared.world.PinRow.{PinRow}
use Rattle.cd_world.specs.Standing.{same_id, block_at, kept_at, is_pin, pin_at, is_pinned, is_expired}
use Rattle.cd_world.specs.Changes.{placed, with_block, stored, row_of, pins_without, goes_with, without_pin, without_pins, goes_at_once, marked, without_expired}
use Rattle.cd_world.specs.Machine.{two_rows, rows_at, blocks_of, known, refusal_of, unmergeable, unless_expired, moved, is_refused, after, replay, answered, reply_of}
use Rattle.cd_world.specs.Following.{Follows, AllFollow}
use Rattle.cd_world.specs.Told.{ToldWorld, with_state, stated, told_after, told_replay}
use Rattle.cd_world.specs.Pinning.{IsStill, ends, ends_pin, NoneEnds, IsHeld}
use Rattle.cd_world.proofs.Searches.{find-passes, find-filter, find-map, any-found}

-- ---- ids

pub same_id-Decides : (a b : BlockId) → Decides (same_id a b) (a ≡ b)
same_id-Decides a b =
    let chain = Decides-int_eq a.shard_id.workchain b.shard_id.workchain in
    let shard = Decides-eqb a.shard_id.shard b.shard_id.shard in
    let seqno = Decides-eqb a.seqno b.seqno in
    let root = bytes_decides a.root.0 b.root.0 in
    let file = bytes_decides a.file.0 b.file.0 in (
      λ h.
          let halves = and_parts _ _ h in
          let front = and_parts _ _ halves.0 in
          let shards = and_parts _ _ front.0 in
          let back = and_parts _ _ halves.1 in
          λ i. record {
            shard_id = record { workchain = chain.0 shards.0 i; shard = shard.0 shards.1 i };
            seqno = seqno.0 front.1 i;
            root = record { 0 = root.0 back.0 i };
            file = record { 0 = file.0 back.1 i };
          },
      λ e. and_from _ _
          (and_from _ _ (and_from _ _ (chain.1 (ap (λ (x : BlockId). x.shard_id.workchain) e)) (shard.1 (ap (λ (x : BlockId). x.shard_id.shard) e))) (seqno.1 (ap (λ (x : BlockId). x.seqno) e)))
          (and_from _ _ (root.1 (ap (λ (x : BlockId). x.root.0) e)) (file.1 (ap (λ (x : BlockId). x.file.0) e))),
    )

pub same_id-self : (a : BlockId) → same_id a a ≡ true
same_id-self a = (same_id-Decides a a).1 refl

pub false_from : (b : Bool) → (b ≡ true → ⊥) → b ≡ false
false_from true f = absurd (f refl)
false_from false f = refl

-- ---- changes of a world, and what stands in it

find-placed : (p : Descr → Bool) (d : Descr) (xs : List Descr) → p d ≡ false → find p (placed d xs) ≡ find p xs
find-placed p d [] unlike = ap (λ b. cond b (Some d) None) unlike
find-placed p d (x ∷ xs) unlike = elim (is_lt (id_cmp d.id x.id)) as (λ b. find p (cond b (d ∷ x ∷ xs) (x ∷ placed d xs)) ≡ find p (x ∷ xs)) [
  | true ↦ ap (λ b. cond b (Some d) (find p (x ∷ xs))) unlike
  | false ↦ ap (λ rest. cond (p x) (Some x) rest) (find-placed p d xs unlike)
]

pub block_at-other : (w : World) (d : Descr) (q : BlockId) → same_id d.id q ≡ false → block_at (with_block w d) q ≡ block_at w q
block_at-other w d q unlike = find-placed (λ x. same_id x.id q) d w.blocks unlike

pub none_of : (w : World) (id : BlockId) → known w id ≡ None → block_at w id ≡ None
none_of w id k = elim (block_at w id) as (λ o. cond (is_some o) (Some refusal.Known) None ≡ None → o ≡ None) [ None ↦ λ e. refl | Some d ↦ λ e. cc ] k

module _ (w : World) (worker pin : ℕ) (row : PinRow) (d : Descr) (h : IsHeld w worker pin row d) where
  row_is : is_pin worker pin row ≡ true
  row_is = find-passes (is_pin worker pin) w.pins row h.is_row

  id_is : d.id ≡ row.block
  id_is = (same_id-Decides d.id row.block).0 (find-passes (λ x. same_id x.id row.block) w.blocks d h.is_block)

  -- a stored block has another id
  stays_beside : (b : Descr) → block_at w b.id ≡ None → IsHeld (with_block w b) worker pin row d
  stays_beside b none = record {
    is_row = h.is_row;
    is_block =
        let other : same_id b.id row.block ≡ false = false_from (same_id b.id row.block) (λ same. none-some d (sym none ∙ ap (block_at w) ((same_id-Decides b.id row.block).0 same) ∙ h.is_block)) in
        block_at-other w b row.block other ∙ h.is_block;
  }

  -- another pin ends
  stays_without : (r : PinRow) → is_pin r.worker r.pin row ≡ false → IsHeld (without_pin w r) worker pin row d
  stays_without r unlike =
      let kept : find (is_pin worker pin) (pins_without r w.pins) ≡ Some row = find-filter (is_pin worker pin) (λ x. not (is_pin r.worker r.pin x)) w.pins row h.is_row (ap not unlike) in
      let stays : goes_with w r d ≡ false = false_from (goes_with w r d) (λ goes.
      let parts = and_parts _ _ goes in
      let more = and_parts _ _ parts.0 in
      let same : d.id ≡ r.block = (same_id-Decides d.id r.block).0 more.0 in
      let there : is_pinned (pins_without r w.pins) r.block ≡ true = any-found (is_pin worker pin) (λ x. same_id x.block r.block) (pins_without r w.pins) row kept (ap (λ q. same_id q r.block) (sym id_is ∙ same) ∙ same_id-self r.block) in
      true≢false (sym parts.1 ∙ ap not there)) in
      record {
        is_row = kept;
        is_block = find-filter (λ x. same_id x.id row.block) (λ x. not (goes_with w r x)) w.blocks d h.is_block (ap not stays);
      }

  -- blocks expire
  stays_expired : (m : Descr) → IsHeld (without_expired w m) worker pin row (marked m d)
  stays_expired m =
      let there : is_pinned w.pins d.id ≡ true = any-found (is_pin worker pin) (λ x. same_id x.block d.id) w.pins row h.is_row (ap (λ q. same_id row.block q) id_is ∙ same_id-self row.block) in
      let stays : goes_at_once w m d ≡ false = false_from (goes_at_once w m d) (λ goes. let parts = and_parts _ _ goes in true≢false (sym parts.1 ∙ ap not there)) in
      let kept = find-filter (λ x. same_id x.id row.block) (λ x. not (goes_at_once w m x)) w.blocks d h.is_block (ap not stays) in
      record {
        is_row = h.is_row;
        is_block = find-map (λ x. same_id x.id row.block) (marked m) (same_mark m) (filter (λ x. not (goes_at_once w m x)) w.blocks) ∙ ap (option_map (marked m)) kept;
      }
    where
      same_mark : (m x : Descr) → same_id (marked m x).id row.block ≡ same_id x.id row.block
      same_mark m x = elim (is_expired m x) as (λ b. same_id (cond b (record x { leaving = true }) x).id row.block ≡ same_id x.id row.block) [ true ↦ refl | false ↦ refl ]

still_marked : (m d : Descr) → IsStill d (marked m d)
still_marked m d = elim (is_expired m d) as (λ b. IsStill d (cond b (record d { leaving = true }) d)) [ true ↦ refl | false ↦ refl ]

pub or_first : (o p : Option Refusal) → option_or o p ≡ None → o ≡ None
or_first None p e = refl
or_first (Some r) p e = cc

pub or_second : (o p : Option Refusal) → option_or o p ≡ None → p ≡ None
or_second None p e = e
or_second (Some r) p e = cc

abbrev Now : World → ℕ → ℕ → PinRow → Descr → Type 0
Now w worker pin row d = (now : Descr) × IsHeld w worker pin row now × IsStill d now

-- the pin is none of these
abbrev pub IsNone_of : PinRow → List PinRow → Type 0
IsNone_of row [] = Unit {0}
IsNone_of row (r ∷ rows) = (is_pin r.worker r.pin row ≡ false) × IsNone_of row rows

-- other pins end
stays_ended : (w : World) (worker pin : ℕ) (row : PinRow) (d : Descr) (rows : List PinRow) → IsNone_of row rows → IsHeld w worker pin row d → IsHeld (without_pins w rows) worker pin row d
stays_ended w worker pin row d [] others h = h
stays_ended w worker pin row d (r ∷ rows) others h = stays_ended (without_pin w r) worker pin row d rows others.1 (stays_without w worker pin row d h r others.0)

-- a pin that is found under another number, or is another worker's
unlike_found : (w : World) (who number worker pin : ℕ) (row r : PinRow) → (nat_eq who worker && nat_eq number pin) ≡ false → is_pin worker pin row ≡ true → pin_at w who number ≡ Some r → is_pin r.worker r.pin row ≡ false
unlike_found w who number worker pin row r unlike row_is is =
    false_from (is_pin r.worker r.pin row) (λ same.
    let theirs = and_parts _ _ (find-passes (is_pin who number) w.pins r is) in
    let ours = and_parts _ _ row_is in
    let both = and_parts _ _ same in
    let numbers : number ≡ pin = sym ((Decides-eqb r.pin number).0 theirs.0) ∙ sym ((Decides-eqb row.pin r.pin).0 both.0) ∙ (Decides-eqb row.pin pin).0 ours.0 in
    let workers : who ≡ worker = sym ((Decides-eqb r.worker who).0 theirs.1) ∙ sym ((Decides-eqb row.worker r.worker).0 both.1) ∙ (Decides-eqb row.worker worker).0 ours.1 in
    true≢false (sym (and_from _ _ ((Decides-eqb who worker).1 workers) ((Decides-eqb number pin).1 numbers)) ∙ unlike))

-- of a test that fails, each way to pass it fails
and_first : (a b c : Bool) → (a && (b || c)) ≡ false → (a && b) ≡ false
and_first false b c e = refl
and_first true false c e = refl
and_first true true c e = e

and_second : (a b c : Bool) → (a && (b || c)) ≡ false → (a && c) ≡ false
and_second false b c e = refl
and_second true false c e = e
and_second true true c e = cc

-- the pins that a merge ends
rows_none_of : (w : World) (who number worker pin : ℕ) (other : Option ℕ) (row : PinRow) (rows : List PinRow)
    → (nat_eq who worker && (nat_eq number pin || list_any (λ n. nat_eq n pin) (option_to_list other))) ≡ false → is_pin worker pin row ≡ true
    → rows_at w who number other ≡ Some rows → IsNone_of row rows
rows_none_of w who number worker pin None row rows unlike row_is is = by (pin_at w who number) refl is
  where
    by : (o : Option PinRow) → pin_at w who number ≡ o → option_map (λ r. r ∷ []) o ≡ Some rows → IsNone_of row rows
    by None at e = absurd (none-some rows e)
    by (Some r) at e =
        subst (IsNone_of row) (same_Some (r ∷ []) rows e)
        (unlike_found w who number worker pin row r (and_first (nat_eq who worker) (nat_eq number pin) false unlike) row_is at, tt)
rows_none_of w who number worker pin (Some second) row rows unlike row_is is = by (nat_eq number second) (pin_at w who number) (pin_at w who second) refl refl is
  where
    first_part : (nat_eq who worker && nat_eq number pin) ≡ false
    first_part = and_first (nat_eq who worker) (nat_eq number pin) (nat_eq second pin || false) unlike

    second_part : (nat_eq who worker && nat_eq second pin) ≡ false
    second_part = and_first (nat_eq who worker) (nat_eq second pin) false (and_second (nat_eq who worker) (nat_eq number pin) (nat_eq second pin || false) unlike)

    by : (b : Bool) (o p : Option PinRow) → pin_at w who number ≡ o → pin_at w who second ≡ p → (if b then None else two_rows o p) ≡ Some rows → IsNone_of row rows
    by true o p at at' e = absurd (none-some rows e)
    by false None p at at' e = absurd (none-some rows e)
    by false (Some r) None at at' e = absurd (none-some rows e)
    by false (Some r) (Some q) at at' e =
        subst (IsNone_of row) (same_Some (r ∷ q ∷ []) rows e)
        (unlike_found w who number worker pin row r first_part row_is at, (unlike_found w who second worker pin row q second_part row_is at', tt))

still_on : (a b c : Descr) → IsStill a b → IsStill b c → IsStill a c
still_on a b c p q = q ∙ ap (λ (x : Descr). record x { leaving = c.leaving }) p

state_other : (id q : BlockId) (tree : _) (state : BlockId → _) → same_id q id ≡ false → with_state id tree state q ≡ state q
state_other id q tree state unlike = ap (λ b. cond b tree (state q)) unlike

apart : (w : World) (id : BlockId) (q : BlockId) (d : Descr) → block_at w id ≡ None → block_at w q ≡ Some d → same_id q id ≡ false
apart w id q d none some = false_from (same_id q id) (λ same. none-some d (sym none ∙ ap (block_at w) (sym ((same_id-Decides q id).0 same)) ∙ some))

module _ (H : List ℕ → Hash256) {X : Type 0} where
  -- what isn't refused is refused by no part
  pub not_refused : (w : World) (e : Entry X) → Follows H w e → is_refused e.reply ≡ false → refusal_of H w e.who.worker e.event ≡ None
  not_refused w e f unlike = elim f.2 [
    | inl same ↦ elim (refusal_of H w e.who.worker e.event) as (λ o. e.reply ≡ answered (option_or o f.0) (reply_of w e.who.worker e.event) → o ≡ None) [
      | None ↦ λ s. refl
      | Some r ↦ λ s. absurd (true≢false (sym (ap is_refused s) ∙ unlike))
    ] same
    | inr failed ↦ absurd (true≢false (sym (ap is_refused failed.reply) ∙ unlike))
  ]

  stays_moved : (w : World) (who : ℕ) (event : Event X) (worker pin : ℕ) (row : PinRow) (d : Descr)
      → refusal_of H w who event ≡ None → (nat_eq who worker && ends pin event) ≡ false → IsHeld w worker pin row d → Now (moved w who event) worker pin row d
  stays_moved w who (Zero id tops p) worker pin row d free unlike h = (d, stays_beside w worker pin row d h (stored id [] tops p) (none_of w id (or_first _ _ free)), refl)
  stays_moved w who (Pin id) worker pin row d free unlike h =
      (d, record { is_row = find-append (is_pin worker pin) w.pins (row_of w.next who id ∷ []) ∙ ap (λ o. option_or o (find (is_pin worker pin) (row_of w.next who id ∷ []))) h.is_row; is_block = h.is_block }, refl)
  stays_moved w who (Look number asked) worker pin row d free unlike h = (d, h, refl)
  stays_moved w who (Merge number other id tops p) worker pin row d free unlike h = by (rows_at w who number other) refl free
    where
      by : (o : Option (List PinRow)) → rows_at w who number other ≡ o → unmergeable H w id p o ≡ None → let rows = unwrap_or o [] in Now (without_pins (with_block w (stored id (blocks_of rows) tops p)) rows) worker pin row d
      by None at f = absurd cc
      by (Some rows) at f =
          let none = none_of w id (or_first _ _ (or_second _ _ f)) in
          let beside = stays_beside w worker pin row d h (stored id (blocks_of rows) tops p) none in
          (d, stays_ended (with_block w (stored id (blocks_of rows) tops p)) worker pin row d rows (rows_none_of w who number worker pin other row rows unlike (row_is w worker pin row d h) at) beside, refl)
  stays_moved w who (Unpin number) worker pin row d free unlike h = by (pin_at w who number) refl
    where
      by : (o : Option PinRow) → pin_at w who number ≡ o → Now (without_pins w (option_to_list o)) worker pin row d
      by None at = (d, h, refl)
      by (Some r) at = (d, stays_without w worker pin row d h r (unlike_found w who number worker pin row r unlike (row_is w worker pin row d h) at), refl)
  stays_moved w who (Expire id) worker pin row d free unlike h = elim (kept_at w id) as (λ o. Now (unless_expired w o) worker pin row d) [
    | None ↦ (d, h, refl)
    | Some m ↦ (marked m d, stays_expired w worker pin row d h m, still_marked m d)
  ]

  pub stays_one : (w : World) (e : Entry X) (worker pin : ℕ) (row : PinRow) (d : Descr) → Follows H w e → ends_pin worker pin e ≡ false → IsHeld w worker pin row d → Now (after w e) worker pin row d
  stays_one w e worker pin row d f unlike h = elim (is_refused e.reply) as (λ b. is_refused e.reply ≡ b → (not b && (nat_eq e.who.worker worker && ends pin e.event)) ≡ false → Now (cond b w (moved w e.who.worker e.event)) worker pin row d) [
    | true ↦ λ is n. (d, h, refl)
    | false ↦ λ is n. stays_moved w e.who.worker e.event worker pin row d (not_refused w e f is) n h
  ] refl unlike

  pub stays : (w : World) (es : List (Entry X)) (worker pin : ℕ) (row : PinRow) (d : Descr) → AllFollow H w es → NoneEnds worker pin es → IsHeld w worker pin row d → Now (replay w es) worker pin row d
  stays w [] worker pin row d f unlike h = (d, h, refl)
  stays w (e ∷ es) worker pin row d f unlike h =
      let one = stays_one w e worker pin row d f.0 unlike.0 h in
      let rest = stays (after w e) es worker pin row one.0 f.1 unlike.1 one.1 in
      (rest.0, rest.1, still_on d one.0 rest.0 one.2 rest.2)

  -- ---- trees

  tree_moved : (t : ToldWorld) (who : ℕ) (event : Event X) (q : BlockId) (d : Descr) → refusal_of H t.world who event ≡ None → block_at t.world q ≡ Some d → stated H t who event q ≡ t.state q
  tree_moved t who (Zero id tops p) q d free is = state_other id q _ t.state (apart t.world id q d (none_of t.world id (or_first _ _ free)) is)
  tree_moved t who (Pin id) q d free is = refl
  tree_moved t who (Look number asked) q d free is = refl
  tree_moved t who (Merge number other id tops p) q d free is = state_other id q _ t.state (apart t.world id q d none is)
    where
      known_free : (o : Option (List PinRow)) → unmergeable H t.world id p o ≡ None → block_at t.world id ≡ None
      known_free None e = absurd cc
      known_free (Some rows) e = none_of t.world id (or_first _ _ (or_second _ _ e))

      none : block_at t.world id ≡ None
      none = known_free (rows_at t.world who number other) free
  tree_moved t who (Unpin number) q d free is = refl
  tree_moved t who (Expire id) q d free is = refl

  -- the tree of a block that is there stays, whatever an entry does
  pub tree_after : (t : ToldWorld) (e : Entry X) (q : BlockId) (d : Descr) → Follows H t.world e → block_at t.world q ≡ Some d → (told_after H t e).state q ≡ t.state q
  tree_after t e q d f is = elim (is_refused e.reply) as (λ b. is_refused e.reply ≡ b → (cond b t.state (stated H t e.who.worker e.event)) q ≡ t.state q) [
    | true ↦ λ r. refl
    | false ↦ λ r. tree_moved t e.who.worker e.event q d (not_refused t.world e f r) is
  ] refl

  pub tree_stays : (t : ToldWorld) (es : List (Entry X)) (worker pin : ℕ) (row : PinRow) (d : Descr) → AllFollow H t.world es → NoneEnds worker pin es → IsHeld t.world worker pin row d
      → (told_replay H t es).state row.block ≡ t.state row.block
  tree_stays t [] worker pin row d f unlike h = refl
  tree_stays t (e ∷ es) worker pin row d f unlike h =
      let one = stays_one t.world e worker pin row d f.0 unlike.0 h in
      tree_stays (told_after H t e) es worker pin row one.0 f.1 unlike.1 one.1 ∙ tree_after t e row.block d f.0 h.is_block
