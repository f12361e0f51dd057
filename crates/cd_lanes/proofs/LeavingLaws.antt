-- A block that is leaving has a pin.
use Rattle.std.proofs.Common.{◌≡◌, ◌⊎◌, inl, inr, ⊎_elim, ℕ, Bool, true, false, cond, not, ◌||◌, List, [], ◌∷◌, filter, Option, Some, None, Contains, refl, sym, ap, subst, ◌∙◌, arith}
use Rattle.std.specs.Prelude.{nat_eq, if◌then◌else◌}
use Rattle.std.specs.List.{list_any}
use Rattle.std.specs.Option.{option_map, option_to_list, unwrap_or}
use Rattle.std.proofs.lemmas.Bool.{and_parts, and_from, true≢false}
use Rattle.std.proofs.lemmas.Bool.Decides.{Decides-eqb}
use Rattle.std.proofs.lemmas.List.Folds.{list_any-append}
use Rattle.std.proofs.lemmas.Option.{none-some, same_Some}
use Rattle.cd_base.specs.declared.hash.Hash256.{Hash256}
use Rattle.cd_block.specs.declared.block.BlockId.{BlockId}
use Rattle.cd_block.specs.declared.description.Descr.{Descr}
use Rattle.cd_cell.proofs.Subtrees.{Contains-first, Contains-later, Contains-cases, Contains-nil, Contains-map}
use Rattle.cd_event.specs.declared.entry.Entry.{Entry}
use Rattle.cd_event.specs.declared.event.Event.{Event}
use Rattle.cd_event.specs.declared.event.Event.TheVariants.{Zero, Pin, Look, Merge, Unpin, Expire}
use Rattle.cd_world.specs.declared.world.PinRow.{PinRow}
use Rattle.cd_world.specs.declared.world.World.{World}
use Rattle.cd_world.specs.Changes.{stored, row_of, with_block, with_pin, pins_without, goes_with, without_pin, without_pins, goes_at_once, marked, without_expired}
use Rattle.cd_world.specs.Following.{Follows, AllFollow}
use Rattle.cd_world.specs.Machine.{rows_at, two_rows, blocks_of, refusal_of, unmergeable, unless_expired, moved, is_refused, after, replay}
use Rattle.cd_world.specs.Standing.{kept_at, pin_at, is_pin, names_block, is_pinned, is_expired, IsBeforePin, IsTidy}
use Rattle.cd_world.proofs.Orders.{InOrder, order_from_AllPairs, Contains-filter, Contains-placed}
use Rattle.cd_world.proofs.PinsStay.{same_id-Decides, not_refused}
use Rattle.cd_world.proofs.Searches.{find-contains}
use Rattle.cd_world.proofs.TidyWorlds.{id-marked, tidy_after}

-- each leaving block has a pin
abbrev pub LeavingPinned : World → Type 0
LeavingPinned w = (d : Descr) → Contains w.blocks d → d.leaving ≡ true → is_pinned w.pins d.id ≡ true

-- ---- the pins of one number

-- each pin of this worker and number is on this pin's block
abbrev IsOnlyOf : World → PinRow → Type 0
IsOnlyOf w row = (r : PinRow) → Contains w.pins r → is_pin row.worker row.pin r ≡ true → r.block ≡ row.block

one_number : (pins : List PinRow) → InOrder IsBeforePin pins → (r s : PinRow) → Contains pins r → Contains pins s → r.pin ≡ s.pin → r ≡ s
one_number [] up r s in-r in-s same = absurd (Contains-nil r in-r)
one_number (x ∷ xs) up r s in-r in-s same = ⊎_elim
    (λ here. ⊎_elim (λ also. sym here ∙ also) (λ later. absurd (let lt = up.0 s later in omega (arith, lt, same, ap (λ (p : PinRow). p.pin) here))) (Contains-cases x xs s in-s))
    (λ there. ⊎_elim (λ also. absurd (let lt = up.0 r there in omega (arith, lt, same, ap (λ (p : PinRow). p.pin) also))) (λ later. one_number xs up.1 r s there later same) (Contains-cases x xs s in-s))
    (Contains-cases x xs r in-r)

only_of : (w : World) (row : PinRow) → IsTidy w → Contains w.pins row → IsOnlyOf w row
only_of w row tidy there r in' is =
    ap (λ (p : PinRow). p.block) (one_number w.pins (order_from_AllPairs IsBeforePin w.pins tidy.numbered) r row in' there ((Decides-eqb r.pin row.pin).0 (and_parts _ _ is).0))

pub only_found : (w : World) (who number : ℕ) (row : PinRow) → IsTidy w → pin_at w who number ≡ Some row → IsOnlyOf w row
only_found w who number row tidy at = only_of w row tidy (find-contains (is_pin who number) w.pins row at)

-- the same of some pins
abbrev AreOnly : World → List PinRow → Type 0
AreOnly w [] = Unit {0}
AreOnly w (row ∷ rows) = IsOnlyOf w row × AreOnly w rows

only_later : (w : World) (row : PinRow) (rows : List PinRow) → AreOnly w rows → AreOnly (without_pin w row) rows
only_later w row [] only = tt
only_later w row (s ∷ rows) only = (
  λ r in' is. only.0 r (Contains-filter (λ x. not (is_pin row.worker row.pin x)) w.pins r in').0 is,
  only_later w row rows only.1,
)

only_merged : (w : World) (who number : ℕ) (other : Option ℕ) (rows : List PinRow) → IsTidy w → rows_at w who number other ≡ Some rows → AreOnly w rows
only_merged w who number None rows tidy is = by (pin_at w who number) refl is
  where
    by : (o : Option PinRow) → pin_at w who number ≡ o → option_map (λ r. r ∷ []) o ≡ Some rows → AreOnly w rows
    by None at e = absurd (none-some rows e)
    by (Some r) at e = subst (AreOnly w) (same_Some (r ∷ []) rows e) (only_found w who number r tidy at, tt)
only_merged w who number (Some second) rows tidy is = by (nat_eq number second) (pin_at w who number) (pin_at w who second) refl refl is
  where
    by : (b : Bool) (o p : Option PinRow) → pin_at w who number ≡ o → pin_at w who second ≡ p → (if b then None else two_rows o p) ≡ Some rows → AreOnly w rows
    by true o p at also e = absurd (none-some rows e)
    by false None p at also e = absurd (none-some rows e)
    by false (Some r) None at also e = absurd (none-some rows e)
    by false (Some r) (Some s) at also e = subst (AreOnly w) (same_Some (r ∷ s ∷ []) rows e) (only_found w who number r tidy at, (only_found w who second s tidy also, tt))

-- ---- each change

-- one that passes stays among those that are kept, or is one that goes
record Gone {A : Type 0} (p stays : A → Bool) (xs : List A) : Type 0 where
  pub one : A
  pub listed : Contains xs one
  pub passes : p one ≡ true
  pub goes : stays one ≡ false

any_kept : {A : Type 0} (p stays : A → Bool) (xs : List A) → list_any p xs ≡ true → (list_any p (filter stays xs) ≡ true) ⊎ Gone p stays xs
any_kept p stays [] some = absurd (true≢false (sym some))
any_kept {A} p stays (x ∷ xs) some = by (any_kept p stays xs) (p x) (stays x) refl refl some
  where
    Kept : Bool → Type 0
    Kept b = list_any p (cond b (x ∷ filter stays xs) (filter stays xs)) ≡ true

    later : Gone p stays xs → Gone p stays (x ∷ xs)
    later g = record { one = g.one; listed = Contains-later x xs g.one g.listed; passes = g.passes; goes = g.goes }

    by : (list_any p xs ≡ true → (list_any p (filter stays xs) ≡ true) ⊎ Gone p stays xs) → (a b : Bool) → p x ≡ a → stays x ≡ b → (a || list_any p xs) ≡ true → Kept b ⊎ Gone p stays (x ∷ xs)
    by rest true true is stay e = inl (ap (λ c. c || list_any p (filter stays xs)) is)
    by rest true false is stay e = inr (record { one = x; listed = Contains-first x xs; passes = is; goes = stay })
    by rest false true is stay e = ⊎_elim (λ kept. inl (ap (λ c. c || list_any p (filter stays xs)) is ∙ kept)) (λ g. inr (later g)) (rest e)
    by rest false false is stay e = ⊎_elim (λ kept. inl kept) (λ g. inr (later g)) (rest e)

not_false : (b : Bool) → not b ≡ false → b ≡ true
not_false true e = refl
not_false false e = absurd (true≢false e)

leaving-without_pin : (w : World) (row : PinRow) → IsOnlyOf w row → LeavingPinned w → LeavingPinned (without_pin w row)
leaving-without_pin w row only pinned d in' leaving =
    let from = Contains-filter (λ x. not (goes_with w row x)) w.blocks d in' in
    ⊎_elim (λ kept. kept)
    (λ (g : Gone (names_block d.id) (λ r. not (is_pin row.worker row.pin r)) w.pins).
    let same : row.block ≡ d.id = sym (only g.one g.listed (not_false (is_pin row.worker row.pin g.one) g.goes)) ∙ (same_id-Decides (let r = g.one in r.block) d.id).0 g.passes in
    by same from.1 (is_pinned (pins_without row w.pins) row.block) refl)
    (any_kept (names_block d.id) (λ r. not (is_pin row.worker row.pin r)) w.pins (pinned d from.0 leaving))
  where
    by : row.block ≡ d.id → not (goes_with w row d) ≡ true → (b : Bool) → is_pinned (pins_without row w.pins) row.block ≡ b → is_pinned (pins_without row w.pins) d.id ≡ true
    by same stays true is = ap (is_pinned (pins_without row w.pins)) (sym same) ∙ is
    by same stays false is =
        let goes : goes_with w row d ≡ true = and_from _ _ (and_from _ _ ((same_id-Decides d.id row.block).1 (sym same)) leaving) (ap not is) in
        absurd (true≢false (sym stays ∙ ap not goes))

leaving-without_pins : (w : World) (rows : List PinRow) → AreOnly w rows → LeavingPinned w → LeavingPinned (without_pins w rows)
leaving-without_pins w [] only pinned = pinned
leaving-without_pins w (row ∷ rows) only pinned =
    leaving-without_pins (without_pin w row) rows (only_later w row rows only.1) (leaving-without_pin w row only.0 pinned)

leaving-with_block : (w : World) (d : Descr) → d.leaving ≡ false → LeavingPinned w → LeavingPinned (with_block w d)
leaving-with_block w d kept pinned x in' leaving =
    ⊎_elim (λ same. absurd (true≢false (sym leaving ∙ ap (λ (y : Descr). y.leaving) (sym same) ∙ kept))) (λ old. pinned x old leaving) (Contains-placed d w.blocks x in')

leaving-with_pin : (w : World) (worker : ℕ) (id : BlockId) → LeavingPinned w → LeavingPinned (with_pin w worker id)
leaving-with_pin w worker id pinned d in' leaving =
    let more = row_of w.next worker id ∷ [] in
    list_any-append (names_block d.id) w.pins more ∙ ap (λ b. b || list_any (names_block d.id) more) (pinned d in' leaving)

leaving-without_expired : (w : World) (m : Descr) → LeavingPinned w → LeavingPinned (without_expired w m)
leaving-without_expired w m pinned y in' leaving =
    let from = Contains-map (marked m) (filter (λ x. not (goes_at_once w m x)) w.blocks) y in' in
    let x = from.0 in
    let stays = Contains-filter (λ d. not (goes_at_once w m d)) w.blocks x from.1 in
    ap (is_pinned w.pins) (sym (ap (λ (d : Descr). d.id) from.2) ∙ id-marked m x) ∙ marks x stays.0 stays.1 (is_expired m x) refl (ap (λ (d : Descr). d.leaving) from.2 ∙ leaving)
  where
    expires : (x : Descr) → not (goes_at_once w m x) ≡ true → is_expired m x ≡ true → (b : Bool) → is_pinned w.pins x.id ≡ b → b ≡ true
    expires x stays is true at = refl
    expires x stays is false at = absurd (true≢false (sym stays ∙ ap not (and_from _ _ is (ap not at))))

    marks : (x : Descr) → Contains w.blocks x → not (goes_at_once w m x) ≡ true → (b : Bool) → is_expired m x ≡ b → (cond b (record x { leaving = true }) x).leaving ≡ true → is_pinned w.pins x.id ≡ true
    marks x there stays true is e = expires x stays is (is_pinned w.pins x.id) refl
    marks x there stays false is e = pinned x there e

-- ---- the machine

module _ (H : List ℕ → Hash256) {X : Type 0} where
  leaving_moved : (w : World) (who : ℕ) (event : Event X) → refusal_of H w who event ≡ None → IsTidy w → LeavingPinned w → LeavingPinned (moved w who event)
  leaving_moved w who (Zero id tops p) free tidy pinned = leaving-with_block w (stored id [] tops p) refl pinned
  leaving_moved w who (Pin id) free tidy pinned = leaving-with_pin w who id pinned
  leaving_moved w who (Look number asked) free tidy pinned = pinned
  leaving_moved w who (Merge number other id tops p) free tidy pinned = by (rows_at w who number other) refl free
    where
      by : (o : Option (List PinRow)) → rows_at w who number other ≡ o → unmergeable H w id p o ≡ None → let rows = unwrap_or o [] in LeavingPinned (without_pins (with_block w (stored id (blocks_of rows) tops p)) rows)
      by None at f = absurd cc
      by (Some rows) at f = leaving-without_pins (with_block w (stored id (blocks_of rows) tops p)) rows (only_merged w who number other rows tidy at) (leaving-with_block w (stored id (blocks_of rows) tops p) refl pinned)
  leaving_moved w who (Unpin number) free tidy pinned = by (pin_at w who number) refl
    where
      by : (o : Option PinRow) → pin_at w who number ≡ o → LeavingPinned (without_pins w (option_to_list o))
      by None at = pinned
      by (Some row) at = leaving-without_pins w (row ∷ []) (only_found w who number row tidy at, tt) pinned
  leaving_moved w who (Expire id) free tidy pinned = by (kept_at w id)
    where
      by : (o : Option Descr) → LeavingPinned (unless_expired w o)
      by None = pinned
      by (Some m) = leaving-without_expired w m pinned

  leaving_after : (w : World) (e : Entry X) → Follows H w e → IsTidy w → LeavingPinned w → LeavingPinned (after w e)
  leaving_after w e follows tidy pinned = by (is_refused e.reply) refl
    where
      by : (b : Bool) → is_refused e.reply ≡ b → LeavingPinned (cond b w (moved w e.who.worker e.event))
      by true is = pinned
      by false is = leaving_moved w e.who.worker e.event (not_refused H w e follows is) tidy pinned

  pub leaving_replay : (w : World) (es : List (Entry X)) → AllFollow H w es → IsTidy w → LeavingPinned w → LeavingPinned (replay w es)
  leaving_replay w [] follow tidy pinned = pinned
  leaving_replay w (e ∷ es) follow tidy pinned = leaving_replay (after w e) es follow.1 (tidy_after H w e tidy follow.0) (leaving_after w e follow.0 tidy pinned)
