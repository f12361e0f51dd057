-- A worker's pins by its own entries are its pins in the world, whatever others do.
use Rattle.std.proofs.Common.{◌≡◌, ℕ, ◌≤◌, Bool, true, false, cond, not, List, [], ◌∷◌, ◌++◌, map, Option, Some, None, refl, sym, ap, ap₂, ◌∙◌, subst, subst₂, inl, inr, ⊎_elim, ◌⊎◌, arith, append_assoc, append-nil}
use Rattle.std.specs.Prelude.{◌||◌, ◌&&◌, nat_eq, find, filter, IfSome}
use Rattle.std.specs.List.{list_any}
use Rattle.std.specs.Option.{option_map, option_or, option_to_list, unwrap_or, option_and_then}
use Rattle.std.proofs.lemmas.Bool.{true≢false, and_parts, and_from}
use Rattle.std.proofs.lemmas.Bool.Decides.{Decides-eqb}
use Rattle.std.proofs.lemmas.List.Folds.{find-append, list_any-append}
use Rattle.std.proofs.lemmas.List.Sums.{fold-append}
use Rattle.std.proofs.lemmas.Option.{none-some, same_Some}
use Rattle.cd_base.specs.declared.hash.Hash256.{Hash256}
use Rattle.cd_block.specs.declared.block.BlockId.{BlockId}
use Rattle.cd_block.specs.declared.description.Descr.{Descr}
use Rattle.cd_cell.specs.Tree.{Tree}
use Rattle.cd_event.specs.declared.entry.Entry.{Entry}
use Rattle.cd_event.specs.declared.entry.Reply.{Reply}
use Rattle.cd_event.specs.declared.entry.Reply.TheVariants as reply
use Rattle.cd_event.specs.declared.event.Event.{Event}
use Rattle.cd_event.specs.declared.event.Event.TheVariants.{Zero, Pin, Look, Merge, Unpin, Expire}
use Rattle.cd_event.specs.declared.refusal.Refusal.{Refusal}
use Rattle.cd_event.specs.declared.refusal.Refusal.TheVariants as refusal
use Rattle.cd_event.specs.Pins.{Named, find_pin, gives, is_live, live_after}
use Rattle.cd_event.specs.Pins.{ends as ends_so}
use Rattle.cd_world.specs.declared.world.PinRow.{PinRow}
use Rattle.cd_world.specs.declared.world.World.{World}
use Rattle.cd_world.specs.Changes.{row_of, with_block, with_pin, stored, without_pin, without_pins}
use Rattle.cd_world.specs.Following.{Follows, AllFollow}
use Rattle.cd_world.specs.Machine.{root_info, rows_at, two_rows, blocks_of, no_pin, unpinnable, unmergeable, unless_expired, refusal_of, reply_of, moved, is_refused, after, replay, answered}
use Rattle.cd_world.specs.Pinning.{ends, ends_pin, IsHeld}
use Rattle.cd_world.specs.Standing.{is_pin, pin_at, block_at, kept_at, unless_leaving}
use Rattle.cd_world.specs.Told.{ToldWorld, told_after, told_replay}
use Rattle.cd_world.proofs.PinsStay.{false_from, not_refused, stays_one, tree_after}
use Rattle.cd_world.proofs.Searches.{find-passes}
use Rattle.cd_core.proofs.Journaling.{next-without_pins}
use Rattle.cd_core.specs.Workers.{is_own, made_by, given, named_from}

-- ---- tests

or-cases : (a b : Bool) → (a || b) ≡ true → (a ≡ true) ⊎ (b ≡ true)
or-cases true b e = inl refl
or-cases false b e = inr e

or-left : (a b : Bool) → a ≡ true → (a || b) ≡ true
or-left true b e = refl
or-left false b e = absurd (true≢false (sym e))

or-right : (a b : Bool) → b ≡ true → (a || b) ≡ true
or-right true b e = refl
or-right false b e = e

or-off : (b : Bool) → (b || false) ≡ b
or-off true = refl
or-off false = refl

and-off : (b : Bool) → (b && false) ≡ false
and-off true = refl
and-off false = refl

and-on : (b : Bool) → (b && true) ≡ b
and-on true = refl
and-on false = refl

not-true : (b : Bool) → not b ≡ true → b ≡ false
not-true true e = absurd (true≢false (sym e))
not-true false e = refl

-- ---- pins in a world

any-filtered : {A : Type 0} (p q : A → Bool) (xs : List A) → list_any p (filter q xs) ≡ true → list_any p xs ≡ true
any-filtered p q [] e = e
any-filtered p q (x ∷ xs) e = by (any-filtered p q xs) (q x) e
  where
    by : (list_any p (filter q xs) ≡ true → list_any p xs ≡ true) → (b : Bool) → list_any p (cond b (x ∷ filter q xs) (filter q xs)) ≡ true → list_any p (x ∷ xs) ≡ true
    by rest true f = ⊎_elim (or-left (p x) (list_any p xs)) (λ later. or-right (p x) (list_any p xs) (rest later)) (or-cases (p x) (list_any p (filter q xs)) f)
    by rest false f = or-right (p x) (list_any p xs) (rest f)

none-left : {A : Type 0} (p : A → Bool) (xs : List A) → list_any p (filter (λ x. not (p x)) xs) ≡ false
none-left p [] = refl
none-left p (x ∷ xs) = by (none-left p xs) (p x) refl
  where
    by : list_any p (filter (λ y. not (p y)) xs) ≡ false → (b : Bool) → p x ≡ b → list_any p (cond (not b) (x ∷ filter (λ y. not (p y)) xs) (filter (λ y. not (p y)) xs)) ≡ false
    by rest true e = rest
    by rest false e = ap (λ b. b || list_any p (filter (λ y. not (p y)) xs)) e ∙ rest

none-found : {A : Type 0} (p : A → Bool) (xs : List A) → list_any p xs ≡ false → find p xs ≡ None
none-found p [] e = refl
none-found p (x ∷ xs) e = by (none-found p xs) (p x) e
  where
    by : (list_any p xs ≡ false → find p xs ≡ None) → (b : Bool) → (b || list_any p xs) ≡ false → cond b (Some x) (find p xs) ≡ None
    by rest true f = absurd (true≢false f)
    by rest false f = rest f

-- what is found goes before what comes after
found-append : {A : Type 0} (p : A → Bool) (xs ys : List A) (x : A) → find p xs ≡ Some x → find p (xs ++ ys) ≡ Some x
found-append p xs ys x at = find-append p xs ys ∙ ap (λ o. option_or o (find p ys)) at

-- a kept block is there
pub kept-there : (w : World) (id : BlockId) (d : Descr) → kept_at w id ≡ Some d → block_at w id ≡ Some d
kept-there w id d kept = by (block_at w id) kept
  where
    unleft : (x : Descr) (b : Bool) → cond b None (Some x) ≡ Some d → Some x ≡ Some d
    unleft x true e = absurd (none-some d e)
    unleft x false e = e

    by : (o : Option Descr) → option_and_then unless_leaving o ≡ Some d → o ≡ Some d
    by None e = absurd (none-some d e)
    by (Some x) e = unleft x x.leaving e

-- a refusal gives no pin
refused-gives : (r : Reply) (n : ℕ) → is_refused r ≡ true → gives r n ≡ false
refused-gives (reply.Refused r) n e = refl
refused-gives reply.Stored n e = absurd (true≢false (sym e))
refused-gives (reply.Pinned pin) n e = absurd (true≢false (sym e))
refused-gives reply.Looked n e = absurd (true≢false (sym e))
refused-gives (reply.Unpinned collected) n e = absurd (true≢false (sym e))
refused-gives (reply.Expired gone) n e = absurd (true≢false (sym e))

module _ (worker : ℕ) where
  abbrev pub has_pin : World → ℕ → Bool
  has_pin w n = list_any (is_pin worker n) w.pins

  -- a pin that was given stands in the world, on the block that was named with it
  pub record IsNamed (w : World) (t : Option ToldWorld) (ns : List Named) (n : ℕ) : Type 0 where
    pub row : PinRow
    pub block : Descr
    pub is_held : IsHeld w worker n row block
    pub name : Named
    pub found : find_pin ns n ≡ Some name
    pub root : name.root ≡ root_info block
    pub tree : name.tree ≡ option_map (λ u. u.state row.block) t

  -- The pins that are live by the worker's entries are those that it has in the world. Numbers from the next on were
  -- given to none.
  pub record Tracks {X : Type 0} (w : World) (t : Option ToldWorld) (ms : List (Entry X)) (ns : List Named) : Type 0 where
    pub live : (n : ℕ) → is_live n ms ≡ true → IsNamed w t ns n
    pub back : (n : ℕ) → has_pin w n ≡ true → is_live n ms ≡ true
    pub fresh : (n : ℕ) → w.next ≤ n → find_pin ns n ≡ None

  has-without_pins : (w : World) (rows : List PinRow) (n : ℕ) → has_pin (without_pins w rows) n ≡ true → has_pin w n ≡ true
  has-without_pins w [] n e = e
  has-without_pins w (row ∷ rows) n e =
      any-filtered (is_pin worker n) (λ r. not (is_pin row.worker row.pin r)) w.pins (has-without_pins (without_pin w row) rows n e)

  -- a pin that ended is there no more
  ended-gone : (w : World) (row : PinRow) (n : ℕ) → is_pin worker n row ≡ true → has_pin (without_pin w row) n ≡ false
  ended-gone w row n is =
      let parts = and_parts _ _ is in
      let number : row.pin ≡ n = (Decides-eqb row.pin n).0 parts.0 in
      let whose : row.worker ≡ worker = (Decides-eqb row.worker worker).0 parts.1 in
      ap₂ (λ (a b : ℕ). list_any (is_pin worker n) (filter (λ r. not (is_pin a b r)) w.pins)) whose number ∙ none-left (is_pin worker n) w.pins

  ended-before : (w : World) (row : PinRow) (rows : List PinRow) (n : ℕ) → is_pin worker n row ≡ true → has_pin (without_pins (without_pin w row) rows) n ≡ true → ⊥
  ended-before w row rows n is e = true≢false (sym (has-without_pins (without_pin w row) rows n e) ∙ ended-gone w row n is)

  -- of a worker's pins one that is named so ends
  named-so : (who number n : ℕ) (row : PinRow) → is_pin who number row ≡ true → (nat_eq who worker && nat_eq number n) ≡ true → is_pin worker n row ≡ true
  named-so who number n row is same =
      let parts = and_parts _ _ same in
      subst (λ (a : ℕ). is_pin a n row ≡ true) ((Decides-eqb who worker).0 parts.0) (subst (λ (b : ℕ). is_pin who b row ≡ true) ((Decides-eqb number n).0 parts.1) is)

  -- the pins of a merge end
  rows-gone : (w : World) (who number : ℕ) (other : Option ℕ) (n : ℕ) (rows : List PinRow) (b : World) → rows_at w who number other ≡ Some rows
      → (nat_eq who worker && (nat_eq number n || list_any (λ m. nat_eq m n) (option_to_list other))) ≡ true → has_pin (without_pins b rows) n ≡ true → ⊥
  rows-gone w who number None n rows b at same there = by (pin_at w who number) refl at
    where
      one : (nat_eq who worker && nat_eq number n) ≡ true
      one = ap (λ x. nat_eq who worker && x) (sym (or-off (nat_eq number n))) ∙ same

      by : (o : Option PinRow) → pin_at w who number ≡ o → option_map (λ row. row ∷ []) o ≡ Some rows → ⊥
      by None is e = absurd (none-some rows e)
      by (Some r) is e =
          ended-before b r [] n (named-so who number n r (find-passes (is_pin who number) w.pins r is) one)
          (subst (λ (rs : List PinRow). has_pin (without_pins b rs) n ≡ true) (sym (same_Some (r ∷ []) rows e)) there)
  rows-gone w who number (Some second) n rows b at same there = by (nat_eq number second) (pin_at w who number) (pin_at w who second) refl refl at
    where
      parts : (nat_eq who worker ≡ true) × ((nat_eq number n || (nat_eq second n || false)) ≡ true)
      parts = and_parts _ _ same

      by : (c : Bool) (o q : Option PinRow) → pin_at w who number ≡ o → pin_at w who second ≡ q → cond c None (two_rows o q) ≡ Some rows → ⊥
      by true o q is also e = absurd (none-some rows e)
      by false None q is also e = absurd (none-some rows e)
      by false (Some r) None is also e = absurd (none-some rows e)
      by false (Some r) (Some s) is also e =
          let left : has_pin (without_pins b (r ∷ s ∷ [])) n ≡ true = subst (λ (rs : List PinRow). has_pin (without_pins b rs) n ≡ true) (sym (same_Some (r ∷ s ∷ []) rows e)) there in
          ⊎_elim
          (λ first. ended-before b r (s ∷ []) n (named-so who number n r (find-passes (is_pin who number) w.pins r is) (and_from _ _ parts.0 first)) left)
          (λ then. ended-before (without_pin b r) s [] n (named-so who second n s (find-passes (is_pin who second) w.pins s also) (and_from _ _ parts.0 (sym (or-off (nat_eq second n)) ∙ then))) left)
          (or-cases (nat_eq number n) (nat_eq second n || false) parts.1)

  module _ (H : List ℕ → Hash256) {X : Type 0} where
    -- a pin that is there after an event was given by it, or was there before and isn't ended by it
    abbrev ComesFrom : World → ℕ → Event X → ℕ → Type 0
    ComesFrom w who event n = ((nat_eq who worker && gives (reply_of w who event) n) ≡ true) ⊎ ((has_pin w n ≡ true) × ((nat_eq who worker && ends n event) ≡ false))

    stays-there : (w : World) (who : ℕ) (event : Event X) (n : ℕ) → ends n event ≡ false → has_pin w n ≡ true → ComesFrom w who event n
    stays-there w who event n none there = inr (there, ap (λ b. nat_eq who worker && b) none ∙ and-off (nat_eq who worker))

    has-moved : (w : World) (who : ℕ) (event : Event X) (n : ℕ) → refusal_of H w who event ≡ None → has_pin (moved w who event) n ≡ true → ComesFrom w who event n
    has-moved w who (Zero id tops p) n free there = stays-there w who (Zero id tops p) n refl there
    has-moved w who (Pin id) n free there =
        ⊎_elim (stays-there w who (Pin id) n refl)
        (λ new.
        let parts = and_parts (nat_eq w.next n) (nat_eq who worker) (sym (or-off (nat_eq w.next n && nat_eq who worker)) ∙ new) in
        inl (and_from (nat_eq who worker) (nat_eq w.next n) parts.1 parts.0))
        (or-cases (has_pin w n) (list_any (is_pin worker n) (row_of w.next who id ∷ [])) (sym (list_any-append (is_pin worker n) w.pins (row_of w.next who id ∷ [])) ∙ there))
    has-moved w who (Look number asked) n free there = stays-there w who (Look number asked) n refl there
    has-moved w who (Merge number other id tops p) n free there = by (rows_at w who number other) refl free there
      where
        named : Bool
        named = nat_eq number n || list_any (λ m. nat_eq m n) (option_to_list other)

        by : (o : Option (List PinRow)) → rows_at w who number other ≡ o → unmergeable H w id p o ≡ None
            → (let rows = unwrap_or o [] in has_pin (without_pins (with_block w (stored id (blocks_of rows) tops p)) rows) n ≡ true) → ComesFrom w who (Merge number other id tops p) n
        by None at f h = absurd cc
        by (Some rows) at f h = inr (
          has-without_pins (with_block w (stored id (blocks_of rows) tops p)) rows n h,
          false_from (nat_eq who worker && (nat_eq number n || list_any (λ m. nat_eq m n) (option_to_list other))) (λ same.
              rows-gone w who number other n rows (with_block w (stored id (blocks_of rows) tops p)) at same h),
        )
    has-moved w who (Unpin number) n free there = by (pin_at w who number) refl free there
      where
        by : (o : Option PinRow) → pin_at w who number ≡ o → no_pin o ≡ None → has_pin (without_pins w (option_to_list o)) n ≡ true → ComesFrom w who (Unpin number) n
        by None at f h = absurd cc
        by (Some r) at f h = inr (
          has-without_pins w (r ∷ []) n h,
          false_from (nat_eq who worker && nat_eq number n) (λ same. ended-before w r [] n (named-so who number n r (find-passes (is_pin who number) w.pins r at) same) h),
        )
    has-moved w who (Expire id) n free there = by (kept_at w id) there
      where
        by : (o : Option Descr) → has_pin (unless_expired w o) n ≡ true → ComesFrom w who (Expire id) n
        by None h = stays-there w who (Expire id) n refl h
        by (Some m) h = stays-there w who (Expire id) n refl h

    -- ---- replies

    -- what isn't refused is answered as the machine does
    pub replied : (w : World) (e : Entry X) → Follows H w e → is_refused e.reply ≡ false → e.reply ≡ reply_of w e.who.worker e.event
    replied w e follows unlike = ⊎_elim
        (λ same. same ∙ by (option_or (refusal_of H w e.who.worker e.event) follows.0) refl same)
        (λ failed. absurd (true≢false (sym (ap is_refused failed.reply) ∙ unlike)))
        follows.2
      where
        by : (o : Option Refusal) → option_or (refusal_of H w e.who.worker e.event) follows.0 ≡ o → e.reply ≡ answered (option_or (refusal_of H w e.who.worker e.event) follows.0) (reply_of w e.who.worker e.event)
            → answered (option_or (refusal_of H w e.who.worker e.event) follows.0) (reply_of w e.who.worker e.event) ≡ reply_of w e.who.worker e.event
        by None is same = ap (λ o. answered o (reply_of w e.who.worker e.event)) is
        by (Some r) is same = absurd (true≢false (sym (ap is_refused (same ∙ ap (λ o. answered o (reply_of w e.who.worker e.event)) is)) ∙ unlike))

    -- a reply ends what its event asks to end
    ends-same : (w : World) (who : ℕ) (event : Event X) (n : ℕ) → ends_so event (reply_of w who event) n ≡ ends n event
    ends-same w who (Zero id tops p) n = refl
    ends-same w who (Pin id) n = refl
    ends-same w who (Look number asked) n = refl
    ends-same w who (Merge number None id tops p) n = refl
    ends-same w who (Merge number (Some other) id tops p) n = ap (λ b. nat_eq number n || b) (sym (or-off (nat_eq other n)))
    ends-same w who (Unpin number) n = refl
    ends-same w who (Expire id) n = refl

    -- a pin is given by a pinning alone
    given-pin : (w : World) (who : ℕ) (event : Event X) (n : ℕ) → gives (reply_of w who event) n ≡ true → (id : BlockId) × (event ≡ Pin id) × (n ≡ w.next)
    given-pin w who (Zero id tops p) n e = absurd (true≢false (sym e))
    given-pin w who (Pin id) n e = (id, refl, sym ((Decides-eqb w.next n).0 e))
    given-pin w who (Look number asked) n e = absurd (true≢false (sym e))
    given-pin w who (Merge number other id tops p) n e = absurd (true≢false (sym e))
    given-pin w who (Unpin number) n e = absurd (true≢false (sym e))
    given-pin w who (Expire id) n e = absurd (true≢false (sym e))

    -- a refused event gives and ends nothing
    refused-ends : (event : Event X) (r : Reply) (n : ℕ) → is_refused r ≡ true → ends_so event r n ≡ false
    refused-ends (Merge number other id tops p) (reply.Refused r) n e = refl
    refused-ends (Unpin number) (reply.Refused r) n e = refl
    refused-ends (Zero id tops p) (reply.Refused r) n e = refl
    refused-ends (Pin id) (reply.Refused r) n e = refl
    refused-ends (Look number asked) (reply.Refused r) n e = refl
    refused-ends (Expire id) (reply.Refused r) n e = refl
    refused-ends event reply.Stored n e = absurd (true≢false (sym e))
    refused-ends event (reply.Pinned pin) n e = absurd (true≢false (sym e))
    refused-ends event reply.Looked n e = absurd (true≢false (sym e))
    refused-ends event (reply.Unpinned collected) n e = absurd (true≢false (sym e))
    refused-ends event (reply.Expired gone) n e = absurd (true≢false (sym e))

    pub refused-names : (w : World) (t : Option ToldWorld) (event : Event X) (r : Reply) → is_refused r ≡ true → given w t event r ≡ []
    refused-names w t (Pin id) (reply.Refused r) e = refl
    refused-names w t (Zero id tops p) (reply.Refused r) e = refl
    refused-names w t (Look number asked) (reply.Refused r) e = refl
    refused-names w t (Merge number other id tops p) (reply.Refused r) e = refl
    refused-names w t (Unpin number) (reply.Refused r) e = refl
    refused-names w t (Expire id) (reply.Refused r) e = refl
    refused-names w t event reply.Stored e = absurd (true≢false (sym e))
    refused-names w t event (reply.Pinned pin) e = absurd (true≢false (sym e))
    refused-names w t event reply.Looked e = absurd (true≢false (sym e))
    refused-names w t event (reply.Unpinned collected) e = absurd (true≢false (sym e))
    refused-names w t event (reply.Expired gone) e = absurd (true≢false (sym e))

    names-fresh : (w : World) (t : Option ToldWorld) (who : ℕ) (event : Event X) (n : ℕ) → (let v = moved w who event in v.next) ≤ n → find_pin (given w t event (reply_of w who event)) n ≡ None
    names-fresh w t who (Zero id tops p) n late = refl
    names-fresh w t who (Pin id) n late = by (kept_at w id)
      where
        other : nat_eq w.next n ≡ false
        other = false_from (nat_eq w.next n) (λ same. let is = (Decides-eqb w.next n).0 same in omega (arith, late, is))

        by : (o : Option Descr) → find_pin (map (λ (d : Descr). let m : Named = record { number = w.next; root = root_info d; tree = option_map (λ u. u.state id) t } in m) (option_to_list o)) n ≡ None
        by None = refl
        by (Some d) = ap {B = Option Named} (λ b. cond b (Some (record { number = w.next; root = root_info d; tree = option_map (λ u. u.state id) t })) None) other
    names-fresh w t who (Look number asked) n late = refl
    names-fresh w t who (Merge number other id tops p) n late = refl
    names-fresh w t who (Unpin number) n late = refl
    names-fresh w t who (Expire id) n late = refl

    next-later : (w : World) (who : ℕ) (event : Event X) → w.next ≤ (let v = moved w who event in v.next)
    next-later w who (Zero id tops p) = omega arith
    next-later w who (Pin id) = omega arith
    next-later w who (Look number asked) = omega arith
    next-later w who (Merge number other id tops p) =
        let rows = unwrap_or (rows_at w who number other) [] in omega (arith, next-without_pins (with_block w (stored id (blocks_of rows) tops p)) rows)
    next-later w who (Unpin number) = omega (arith, next-without_pins w (option_to_list (pin_at w who number)))
    next-later w who (Expire id) = by (kept_at w id)
      where
        by : (o : Option Descr) → w.next ≤ (let v = unless_expired w o in v.next)
        by None = omega arith
        by (Some m) = omega arith

    -- ---- one entry more

    abbrev own : Entry X → List (Entry X)
    own e = cond (is_own worker e) (e ∷ []) []

    abbrev names : World → Option ToldWorld → Entry X → List Named
    names w t e = cond (is_own worker e) (given w t e.event e.reply) []

    -- whether a pin is live once an entry more was made
    live-step : (ms : List (Entry X)) (e : Entry X) (n : ℕ)
        → is_live n (ms ++ own e) ≡ ((is_own worker e && gives e.reply n) || (is_live n ms && not (is_own worker e && ends_so e.event e.reply n)))
    live-step ms e n = by (is_own worker e)
      where
        by : (b : Bool) → is_live n (ms ++ cond b (e ∷ []) []) ≡ ((b && gives e.reply n) || (is_live n ms && not (b && ends_so e.event e.reply n)))
        by true = fold-append (live_after n) false ms (e ∷ [])
        by false = ap (is_live n) (append-nil ms) ∙ sym (and-on (is_live n ms))

    module _ (w : World) (t : Option ToldWorld) (ms : List (Entry X)) (ns : List Named) (e : Entry X) (tracks : Tracks w t ms ns) (over : IfSome t (λ u. u.world ≡ w)) (follows : Follows H w e) where
      abbrev t' : Option ToldWorld
      t' = option_map (λ u. told_after H u e) t

      -- the tree of a block that is there stays
      trees-same : (q : BlockId) (d : Descr) → block_at w q ≡ Some d → option_map (λ u. u.state q) t ≡ option_map (λ u. u.state q) t'
      trees-same q d at = by t over
        where
          by : (o : Option ToldWorld) → IfSome o (λ u. u.world ≡ w) → option_map (λ u. u.state q) o ≡ option_map (λ u. u.state q) (option_map (λ u. told_after H u e) o)
          by None is_over = refl
          by (Some u) is_over =
              ap {B = Option Tree} Some (sym (tree_after H u e q d (subst (λ (v : World). Follows H v e) (sym is_over) follows) (ap (λ (v : World). block_at v q) is_over ∙ at)))

      -- a pin that the entry doesn't end stays as it was named
      stays-named : (n : ℕ) → ends_pin worker n e ≡ false → IsNamed w t ns n → IsNamed (after w e) t' (ns ++ names w t e) n
      stays-named n unlike is =
          let held = is.is_held in
          let now = stays_one H w e worker n is.row is.block follows unlike held in
          record {
            row = is.row;
            block = now.0;
            is_held = now.1;
            name = is.name;
            found = found-append (λ m. nat_eq m.number n) ns (names w t e) is.name is.found;
            root = is.root ∙ sym (ap root_info now.2);
            tree = is.tree ∙ trees-same (is.row).block is.block held.is_block;
          }

      tracks-refused : is_refused e.reply ≡ true → Tracks (after w e) t' (ms ++ own e) (ns ++ names w t e)
      tracks-refused refused =
          let still : after w e ≡ w = ap (λ b. cond b w (moved w e.who.worker e.event)) refused in
          let none : names w t e ≡ [] = ap (λ (xs : List Named). cond (is_own worker e) xs []) (refused-names w t e.event e.reply refused) ∙ either (is_own worker e) in
          let same : (n : ℕ) → is_live n (ms ++ own e) ≡ is_live n ms = λ n.
          live-step ms e n ∙ ap₂ (λ a b. (is_own worker e && a) || (is_live n ms && not (is_own worker e && b))) (refused-gives e.reply n refused) (refused-ends e.event e.reply n refused)
          ∙ ap₂ (λ a b. a || (is_live n ms && not b)) (and-off (is_own worker e)) (and-off (is_own worker e)) ∙ and-on (is_live n ms) in
          record {
            live = λ n alive. stays-named n (ap (λ b. not b && (nat_eq e.who.worker worker && ends n e.event)) refused) (tracks.live n (sym (same n) ∙ alive));
            back = λ n there. same n ∙ tracks.back n (subst (λ (v : World). has_pin v n ≡ true) still there);
            fresh = λ n late. ap (λ (xs : List Named). find_pin xs n) (ap (λ (ys : List Named). ns ++ ys) none ∙ append-nil ns) ∙ tracks.fresh n (subst (λ (v : World). v.next ≤ n) still late);
          }
        where
          either : (b : Bool) → cond {A = List Named} b [] [] ≡ []
          either true = refl
          either false = refl

      module _ (unlike : is_refused e.reply ≡ false) where
        free : refusal_of H w e.who.worker e.event ≡ None
        free = not_refused H w e follows unlike

        is_reply : e.reply ≡ reply_of w e.who.worker e.event
        is_reply = replied w e follows unlike

        moved-on : after w e ≡ moved w e.who.worker e.event
        moved-on = ap (λ b. cond b w (moved w e.who.worker e.event)) unlike

        ends-now : (n : ℕ) → ends_so e.event e.reply n ≡ ends n e.event
        ends-now n = ap (λ r. ends_so e.event r n) is_reply ∙ ends-same w e.who.worker e.event n

        -- a pin that the entry gives
        new-named : (n : ℕ) → is_own worker e ≡ true → gives e.reply n ≡ true → IsNamed (after w e) t' (ns ++ names w t e) n
        new-named n mine gave = by (given-pin w e.who.worker e.event n (sym (ap (λ r. gives r n) is_reply) ∙ gave))
          where
            by : ((id : BlockId) × (e.event ≡ Pin id) × (n ≡ w.next)) → IsNamed (after w e) t' (ns ++ names w t e) n
            by of_pin = found (kept_at w of_pin.0) refl (sym (ap (refusal_of H w e.who.worker) of_pin.1) ∙ free)
              where
                id : BlockId
                id = of_pin.0

                late : w.next ≤ n
                late = omega (arith, of_pin.2)

                none-there : has_pin w n ≡ false
                none-there = false_from (has_pin w n) (λ there. let named = tracks.live n (tracks.back n there) in none-some named.name (sym (tracks.fresh n late) ∙ named.found))

                number : nat_eq w.next n ≡ true
                number = (Decides-eqb w.next n).1 (sym of_pin.2)

                found : (o : Option Descr) → kept_at w id ≡ o → unpinnable w e.who.worker o ≡ None → IsNamed (after w e) t' (ns ++ names w t e) n
                found None at f = absurd (none-some refusal.UnknownBlock (sym f))
                found (Some d) at f =
                    let row = row_of w.next e.who.worker id in
                    let name : Named = record { number = w.next; root = root_info d; tree = option_map (λ u. u.state id) t } in
                    let is_block = kept-there w id d at in
                    let goes : after w e ≡ with_pin w e.who.worker id = moved-on ∙ ap (moved w e.who.worker) of_pin.1 in
                    let is_row : pin_at (with_pin w e.who.worker id) worker n ≡ Some row =
                    find-append (is_pin worker n) w.pins (row ∷ []) ∙ ap (λ o. option_or o (find (is_pin worker n) (row ∷ []))) (none-found (is_pin worker n) w.pins none-there)
                    ∙ ap {B = Option PinRow} (λ b. cond b (Some row) None) (and_from _ _ number mine) in
                    let named : names w t e ≡ name ∷ [] =
                    ap (λ b. cond b (given w t e.event e.reply) []) mine ∙ ap (given w t e.event) is_reply ∙ ap (λ (ev : Event X). given w t ev (reply_of w e.who.worker ev)) of_pin.1
                    ∙ ap (λ (o : Option Descr). map (λ (x : Descr). let m : Named = record { number = w.next; root = root_info x; tree = option_map (λ u. u.state id) t } in m) (option_to_list o)) at in
                    record {
                      row = row;
                      block = d;
                      is_held = subst (λ (v : World). IsHeld v worker n row d) (sym goes) (record { is_row = is_row; is_block = is_block });
                      name = name;
                      found = find-append (λ m. nat_eq m.number n) ns (names w t e) ∙ ap (λ o. option_or o (find_pin (names w t e) n)) (tracks.fresh n late)
                          ∙ ap (λ (xs : List Named). find_pin xs n) named ∙ ap {B = Option Named} (λ b. cond b (Some name) None) number;
                      root = refl;
                      tree = trees-same id d is_block;
                    }

        tracks-moved : Tracks (after w e) t' (ms ++ own e) (ns ++ names w t e)
        tracks-moved = record {
          live = λ n alive. ⊎_elim
              (λ gave. let parts = and_parts (is_own worker e) (gives e.reply n) gave in new-named n parts.0 parts.1)
              (λ kept.
              let parts = and_parts (is_live n ms) (not (is_own worker e && ends_so e.event e.reply n)) kept in
              let off : (is_own worker e && ends n e.event) ≡ false = ap (λ b. is_own worker e && b) (sym (ends-now n)) ∙ not-true (is_own worker e && ends_so e.event e.reply n) parts.1 in
              stays-named n (ap (λ b. not b && (is_own worker e && ends n e.event)) unlike ∙ off) (tracks.live n parts.0))
              (or-cases (is_own worker e && gives e.reply n) (is_live n ms && not (is_own worker e && ends_so e.event e.reply n)) (sym (live-step ms e n) ∙ alive));
          back = λ n there. live-step ms e n ∙ ⊎_elim
              (λ gave. or-left (is_own worker e && gives e.reply n) (is_live n ms && not (is_own worker e && ends_so e.event e.reply n)) (ap (λ r. is_own worker e && gives r n) is_reply ∙ gave))
              (λ old. or-right (is_own worker e && gives e.reply n) (is_live n ms && not (is_own worker e && ends_so e.event e.reply n)) (and_from (is_live n ms) (not (is_own worker e && ends_so e.event e.reply n)) (tracks.back n old.0) (ap not (ap (λ b. is_own worker e && b) (ends-now n) ∙ old.1))))
              (has-moved w e.who.worker e.event n free (subst (λ (v : World). has_pin v n ≡ true) moved-on there));
          fresh = λ n late. fresh-later n (subst (λ (v : World). v.next ≤ n) moved-on late);
        }
          where
            fresh-later : (n : ℕ) → (let v = moved w e.who.worker e.event in v.next) ≤ n → find_pin (ns ++ names w t e) n ≡ None
            fresh-later n late =
                find-append (λ m. nat_eq m.number n) ns (names w t e)
                ∙ ap (λ o. option_or o (find_pin (names w t e) n)) (tracks.fresh n (omega (arith, next-later w e.who.worker e.event, late)))
                ∙ ap (λ r. find_pin (cond (is_own worker e) (given w t e.event r) []) n) is_reply ∙ of_own (is_own worker e)
              where
                of_own : (b : Bool) → find_pin (cond b (given w t e.event (reply_of w e.who.worker e.event)) []) n ≡ None
                of_own true = names-fresh w t e.who.worker e.event n late
                of_own false = refl

      tracks-after : Tracks (after w e) t' (ms ++ own e) (ns ++ names w t e)
      tracks-after = by (is_refused e.reply) refl
        where
          by : (b : Bool) → is_refused e.reply ≡ b → Tracks (after w e) t' (ms ++ own e) (ns ++ names w t e)
          by true is = tracks-refused is
          by false is = tracks-moved is

    made-first : (e : Entry X) (es : List (Entry X)) → made_by worker (e ∷ es) ≡ own e ++ made_by worker es
    made-first e es = by (is_own worker e)
      where
        by : (b : Bool) → cond b (e ∷ made_by worker es) (made_by worker es) ≡ cond b (e ∷ []) [] ++ made_by worker es
        by true = refl
        by false = refl

    over-after : (w : World) (t : Option ToldWorld) (e : Entry X) → IfSome t (λ u. u.world ≡ w) → IfSome (option_map (λ u. told_after H u e) t) (λ u. u.world ≡ after w e)
    over-after w None e over = tt
    over-after w (Some u) e over = ap (λ (v : World). after v e) over

    -- the entries of a journal keep track
    pub tracks-on : (es : List (Entry X)) (w : World) (t : Option ToldWorld) (ms : List (Entry X)) (ns : List Named) → Tracks w t ms ns → IfSome t (λ u. u.world ≡ w) → AllFollow H w es
        → Tracks (replay w es) (option_map (λ u. told_replay H u es) t) (ms ++ made_by worker es) (ns ++ named_from H worker w t es)
    tracks-on [] w t ms ns tracks over follow =
        subst₂ (λ (xs : List (Entry X)) (ys : List Named). Tracks w (option_map (λ u. u) t) xs ys) (sym (append-nil ms)) (sym (append-nil ns)) (subst (λ o. Tracks w o ms ns) (itself t) tracks)
      where
        itself : (o : Option ToldWorld) → o ≡ option_map (λ u. u) o
        itself None = refl
        itself (Some u) = refl
    tracks-on (e ∷ es) w t ms ns tracks over follow =
        let rest = tracks-on es (after w e) (option_map (λ u. told_after H u e) t) (ms ++ own e) (ns ++ names w t e) (tracks-after w t ms ns e tracks over follow.0) (over-after w t e over) follow.1 in
        subst (λ o. Tracks (replay (after w e) es) o (ms ++ made_by worker (e ∷ es)) (ns ++ named_from H worker w t (e ∷ es))) (joined t)
        (subst₂ (λ (xs : List (Entry X)) (ys : List Named). Tracks (replay (after w e) es) (option_map (λ u. told_replay H u es) (option_map (λ u. told_after H u e) t)) xs ys)
        (append_assoc ms (own e) (made_by worker es) ∙ ap (λ (xs : List (Entry X)). ms ++ xs) (sym (made-first e es)))
        (append_assoc ns (names w t e) (named_from H worker (after w e) (option_map (λ u. told_after H u e) t) es)) rest)
      where
        joined : (o : Option ToldWorld) → option_map (λ u. told_replay H u es) (option_map (λ u. told_after H u e) o) ≡ option_map (λ u. told_replay H u (e ∷ es)) o
        joined None = refl
        joined (Some u) = refl

    -- a world without pins, of whose worker there are no entries yet
    pub tracks-none : (w : World) (t : Option ToldWorld) → w.pins ≡ [] → Tracks {X = X} w t [] []
    tracks-none w t none = record {
      live = λ n alive. absurd (true≢false (sym alive));
      back = λ n there. absurd (true≢false (sym there ∙ ap (list_any (is_pin worker n)) none));
      fresh = λ n late. refl;
    }
