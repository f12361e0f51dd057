-- A tidy world stays tidy.
use Rattle.std.proofs.Common.{◌≡◌, ℕ, ◌+◌, ◌<◌, ◌≤◌, Bool, true, false, cond, not, List, [], ◌∷◌, Option, Some, None, Contains, refl, sym, ap, ap₂, ◌∙◌, subst, arith}
use Rattle.std.specs.Prelude.{nat_eq, nat_lt, is_some, IsSome}
use Rattle.std.specs.Option.{option_to_list, option_and_then, unwrap_or}
use Rattle.std.specs.List.{filter}
use Rattle.std.proofs.lemmas.Bool.{and_parts, true≢false, ltb-true}
use Rattle.std.proofs.lemmas.Bool.Decides.{Decides-eqb}
use Rattle.std.proofs.lemmas.List.Elements.{All-contains, All-weaker, All-push}
use Rattle.std.proofs.lemmas.List.Folds.{list_any_at}
use Rattle.std.proofs.lemmas.List.Sums.{sum_by-append}
use Rattle.cd_base.specs.declared.hash.Hash256.{Hash256}
use Rattle.cd_block.specs.declared.block.BlockId.{BlockId}
use Rattle.cd_block.specs.declared.description.Descr.{Descr}
use Rattle.cd_block.specs.Block.{id_cmp}
use Rattle.cd_event.specs.declared.event.Event.{Event}
use Rattle.cd_event.specs.declared.event.Event.TheVariants.{Zero, Pin, Look, Merge, Unpin, Expire}
use Rattle.cd_event.specs.declared.entry.Entry.{Entry}
use Rattle.cd_event.specs.declared.refusal.Refusal.TheVariants as refusal
use Rattle.cd_cell.proofs.Subtrees.{Contains-mapped}
use Rattle.cd_world.specs.declared.limits.TheConstants.{MOST_PINS}
use Rattle.cd_world.specs.declared.world.World.{World}
use Rattle.cd_world.specs.declared.world.PinRow.{PinRow}
use Rattle.cd_world.specs.Standing.{has_id, block_at, unless_leaving, kept_at, pin_at, is_of_worker, pins_of, names_block, is_pinned, is_pin, is_expired, IsBeforeBlock, IsBeforePin, IsTidy}
use Rattle.cd_world.specs.Changes.{with_block, stored, row_of, with_pin, pins_without, goes_with, without_pin, without_pins, goes_at_once, marked, without_expired}
use Rattle.cd_world.specs.Machine.{rows_at, blocks_of, refused_if, unpinnable, unmergeable, refusal_of, unless_expired, moved, is_refused, after, replay}
use Rattle.cd_world.specs.Following.{Follows, AllFollow}
use Rattle.cd_world.proofs.Searches.{find-passes, find-contains, find-some}
use Rattle.cd_world.proofs.Orders.{Contains-filter, Contains-filtered, count_by-filter, AllPairs-from_order, order_from_AllPairs, InOrder-filter, InOrder-map, InOrder-push, InOrder-placed, All-from_Contains, Contains-placed_old}
use Rattle.cd_world.proofs.PinsStay.{same_id-Decides, same_id-self, false_from, none_of, or_first, or_second, not_refused}

-- ---- blocks that are there

-- a block with this id is there
abbrev pub IsThere : World → BlockId → Type 0
IsThere w id = (d : Descr) × Contains w.blocks d × (d.id ≡ id)

pub there-found : (w : World) (id : BlockId) → IsSome (block_at w id) → IsThere w id
there-found w id some = by (block_at w id) refl some
  where
    by : (o : Option Descr) → block_at w id ≡ o → IsSome o → IsThere w id
    by None e s = absurd cc
    by (Some d) e s = (d, find-contains (has_id id) w.blocks d e, (same_id-Decides d.id id).0 (find-passes (has_id id) w.blocks d e))

pub found-there : (w : World) (id : BlockId) → IsThere w id → IsSome (block_at w id)
found-there w id there = find-some (has_id id) w.blocks there.0 there.1 ((same_id-Decides (there.0).id id).1 there.2)

pub pinned-contains : (pins : List PinRow) (r : PinRow) → Contains pins r → is_pinned pins r.block ≡ true
pinned-contains pins r h = list_any_at (names_block r.block) pins h.0 r h.1 (ap (names_block r.block) h.2 ∙ same_id-self r.block)

pub id-marked : (m d : Descr) → (marked m d).id ≡ d.id
id-marked m d = by (is_expired m d)
  where
    by : (b : Bool) → (cond b (record d { leaving = true }) d).id ≡ d.id
    by true = refl
    by false = refl

-- the block of a pin that stays is there still
there-without_pin : (w : World) (row r : PinRow) → Contains (pins_without row w.pins) r → IsThere w r.block → IsThere (without_pin w row) r.block
there-without_pin w row r stays there =
    let d = there.0 in
    let kept : goes_with w row d ≡ false = false_from (goes_with w row d) (λ goes.
    let parts = and_parts _ _ goes in
    let same : d.id ≡ row.block = (same_id-Decides d.id row.block).0 (and_parts _ _ parts.0).0 in
    let pinned : is_pinned (pins_without row w.pins) row.block ≡ true = subst (λ (q : BlockId). is_pinned (pins_without row w.pins) q ≡ true) (sym there.2 ∙ same) (pinned-contains (pins_without row w.pins) r stays) in
    true≢false (sym parts.1 ∙ ap not pinned)) in
    (d, Contains-filtered (λ x. not (goes_with w row x)) w.blocks d there.1 (ap not kept), there.2)

there-without_expired : (w : World) (m : Descr) (r : PinRow) → Contains w.pins r → IsThere w r.block → IsThere (without_expired w m) r.block
there-without_expired w m r pin there =
    let d = there.0 in
    let pinned : is_pinned w.pins d.id ≡ true = subst (λ (q : BlockId). is_pinned w.pins q ≡ true) (sym there.2) (pinned-contains w.pins r pin) in
    let kept : goes_at_once w m d ≡ false = false_from (goes_at_once w m d) (λ goes. let parts = and_parts _ _ goes in true≢false (sym parts.1 ∙ ap not pinned)) in
    (marked m d, Contains-mapped (marked m) (filter (λ x. not (goes_at_once w m x)) w.blocks) d (Contains-filtered (λ x. not (goes_at_once w m x)) w.blocks d there.1 (ap not kept)), id-marked m d ∙ there.2)

-- ---- each change keeps a world tidy

module _ (w : World) (tidy : IsTidy w) where
  -- each pin's block is there
  pub there-pinned : (r : PinRow) → Contains w.pins r → IsThere w r.block
  there-pinned r h = there-found w r.block (All-contains (λ r. IsSome (block_at w r.block)) w.pins r tidy.on_blocks h)

  pub tidy-with_block : (d : Descr) → block_at w d.id ≡ None → IsTidy (with_block w d)
  tidy-with_block d none = record {
    ordered = AllPairs-from_order IsBeforeBlock _ (InOrder-placed d w.blocks (order_from_AllPairs IsBeforeBlock w.blocks tidy.ordered) (λ x in' same.
        let some = found-there w d.id (x, in', sym same) in
        true≢false (sym some ∙ ap is_some none)));
    numbered = tidy.numbered;
    below = tidy.below;
    on_blocks = All-from_Contains (λ r. IsSome (block_at (with_block w d) r.block)) w.pins (λ r in'.
        let there = there-pinned r in' in
        found-there (with_block w d) r.block (there.0, Contains-placed_old d w.blocks there.0 there.1, there.2));
    few = tidy.few;
  }

  pub tidy-with_pin : (worker : ℕ) (id : BlockId) → IsThere w id → pins_of w worker < MOST_PINS → IsTidy (with_pin w worker id)
  tidy-with_pin worker id there room = record {
    ordered = tidy.ordered;
    numbered = AllPairs-from_order IsBeforePin _ (InOrder-push IsBeforePin w.pins (row_of w.next worker id) (order_from_AllPairs IsBeforePin w.pins tidy.numbered) (λ r in'. All-contains (λ r. r.pin < w.next) w.pins r tidy.below in'));
    below = All-push (λ r. r.pin < w.next + 1) w.pins (row_of w.next worker id) (All-weaker (λ r. r.pin < w.next) (λ r. r.pin < w.next + 1) (λ r h. omega arith) w.pins tidy.below) (omega arith);
    on_blocks = All-push (λ r. IsSome (block_at w r.block)) w.pins (row_of w.next worker id) tidy.on_blocks (found-there w id there);
    few = λ other. subst (λ n. n ≤ MOST_PINS) (sym (sum_by-append (λ r. cond (is_of_worker other r) 1 0) w.pins (row_of w.next worker id ∷ []))) (by other (nat_eq worker other) refl);
  }
    where
      by : (other : ℕ) (b : Bool) → nat_eq worker other ≡ b → pins_of w other + (0 + cond b 1 0) ≤ MOST_PINS
      by other true same =
          let whose : worker ≡ other = (Decides-eqb worker other).0 same in
          let fewer : pins_of w other < MOST_PINS = subst (λ n. pins_of w n < MOST_PINS) whose room in
          omega (arith, fewer)
      by other false apart = omega (arith, tidy.few other)

  pub tidy-without_pin : (row : PinRow) → IsTidy (without_pin w row)
  tidy-without_pin row =
      let stays : PinRow → Bool = λ r. not (is_pin row.worker row.pin r) in
      record {
        ordered = AllPairs-from_order IsBeforeBlock _ (InOrder-filter IsBeforeBlock (λ d. not (goes_with w row d)) w.blocks (order_from_AllPairs IsBeforeBlock w.blocks tidy.ordered));
        numbered = AllPairs-from_order IsBeforePin _ (InOrder-filter IsBeforePin stays w.pins (order_from_AllPairs IsBeforePin w.pins tidy.numbered));
        below = All-from_Contains (λ r. r.pin < w.next) _ (λ r in'. All-contains (λ r. r.pin < w.next) w.pins r tidy.below (Contains-filter stays w.pins r in').0);
        on_blocks = All-from_Contains (λ r. IsSome (block_at (without_pin w row) r.block)) _ (λ r in'.
            found-there (without_pin w row) r.block (there-without_pin w row r in' (there-pinned r (Contains-filter stays w.pins r in').0)));
        few = λ worker. omega (arith, count_by-filter stays (is_of_worker worker) w.pins, tidy.few worker);
      }

  pub tidy-without_expired : (m : Descr) → IsTidy (without_expired w m)
  tidy-without_expired m = record {
    ordered = AllPairs-from_order IsBeforeBlock _ (InOrder-map IsBeforeBlock (marked m) keeps _ (InOrder-filter IsBeforeBlock (λ d. not (goes_at_once w m d)) w.blocks (order_from_AllPairs IsBeforeBlock w.blocks tidy.ordered)));
    numbered = tidy.numbered;
    below = tidy.below;
    on_blocks = All-from_Contains (λ r. IsSome (block_at (without_expired w m) r.block)) w.pins (λ r in'.
        found-there (without_expired w m) r.block (there-without_expired w m r in' (there-pinned r in')));
    few = tidy.few;
  }
    where
      keeps : (a b : Descr) → IsBeforeBlock a b → IsBeforeBlock (marked m a) (marked m b)
      keeps a b before = ap₂ id_cmp (id-marked m a) (id-marked m b) ∙ before

pub tidy-without_pins : (w : World) (rows : List PinRow) → IsTidy w → IsTidy (without_pins w rows)
tidy-without_pins w [] tidy = tidy
tidy-without_pins w (row ∷ rows) tidy = tidy-without_pins (without_pin w row) rows (tidy-without_pin w tidy row)

-- ---- the machine keeps a world tidy

module _ (H : List ℕ → Hash256) {X : Type 0} where
  tidy_moved : (w : World) (worker : ℕ) (event : Event X) → refusal_of H w worker event ≡ None → IsTidy w → IsTidy (moved w worker event)
  tidy_moved w worker (Zero id tops p) free tidy = tidy-with_block w tidy (stored id [] tops p) (none_of w id (or_first _ _ free))
  tidy_moved w worker (Pin id) free tidy = by (block_at w id) refl free
    where
      room : (b : Bool) → nat_lt (pins_of w worker) MOST_PINS ≡ b → refused_if (not b) refusal.PinsFull ≡ None → pins_of w worker < MOST_PINS
      room true e f = ltb-true _ _ e
      room false e f = absurd cc

      kept : (d : Descr) (b : Bool) → unpinnable w worker (cond b None (Some d)) ≡ None → pins_of w worker < MOST_PINS
      kept d true f = absurd cc
      kept d false f = room (nat_lt (pins_of w worker) MOST_PINS) refl f

      by : (o : Option Descr) → block_at w id ≡ o → unpinnable w worker (option_and_then unless_leaving o) ≡ None → IsTidy (with_pin w worker id)
      by None at f = absurd cc
      by (Some d) at f = tidy-with_pin w tidy worker id (there-found w id (ap is_some at)) (kept d d.leaving f)
  tidy_moved w worker (Look pin asked) free tidy = tidy
  tidy_moved w worker (Merge pin other id tops p) free tidy = by (rows_at w worker pin other) free
    where
      by : (o : Option (List PinRow)) → unmergeable H w id p o ≡ None → let rows = unwrap_or o [] in IsTidy (without_pins (with_block w (stored id (blocks_of rows) tops p)) rows)
      by None f = absurd cc
      by (Some rows) f = tidy-without_pins (with_block w (stored id (blocks_of rows) tops p)) rows (tidy-with_block w tidy (stored id (blocks_of rows) tops p) (none_of w id (or_first _ _ (or_second _ _ f))))
  tidy_moved w worker (Unpin pin) free tidy = tidy-without_pins w (option_to_list (pin_at w worker pin)) tidy
  tidy_moved w worker (Expire id) free tidy = by (kept_at w id)
    where
      by : (o : Option Descr) → IsTidy (unless_expired w o)
      by None = tidy
      by (Some m) = tidy-without_expired w tidy m

  pub tidy_after : (w : World) (e : Entry X) → IsTidy w → Follows H w e → IsTidy (after w e)
  tidy_after w e tidy follows = by (is_refused e.reply) refl
    where
      by : (b : Bool) → is_refused e.reply ≡ b → IsTidy (cond b w (moved w e.who.worker e.event))
      by true is = tidy
      by false is = tidy_moved w e.who.worker e.event (not_refused H w e follows is) tidy

  pub tidy_replay : (w : World) (es : List (Entry X)) → IsTidy w → AllFollow H w es → IsTidy (replay w es)
  tidy_replay w [] tidy follow = tidy
  tidy_replay w (e ∷ es) tidy follow = tidy_replay (after w e) es (tidy_after w e tidy follow.0) follow.1
