-- What a turn tells of a worker, by the entries that its seat has seen: entries of others change nothing that it knows.
use Rattle.std.proofs.Common.{◌≡◌, ◌⊎◌, ℕ, ◌+◌, ◌<◌, ◌≤◌, Bool, true, false, cond, List, [], ◌∷◌, ◌++◌, Option, Some, None, refl, sym, ap, ◌∙◌, subst, arith, append_assoc, append-nil, zero-add, ⊎_elim, inl, inr, ne_eqb}
use Rattle.std.specs.Prelude.{All, Result, IfOk, MatchResult}
use Rattle.std.specs.Option.{option_map}
use Rattle.std.proofs.lemmas.Bool.{true≢false}
use Rattle.std.proofs.lemmas.List.Elements.{All-nil, All-cons, All-head, All-tail, All-append, filter-append}
use Rattle.std.proofs.lemmas.List.Sums.{sum_by-append}
use Rattle.cd_base.specs.declared.hash.Hash256.{Hash256}
use Rattle.cd_block.specs.declared.block.BlockId.{BlockId}
use Rattle.cd_cell.specs.PreparedView.{PreparedView}
use Rattle.cd_keeper.specs.Contents.{Contents}
use Rattle.cd_event.specs.declared.answers.Pinned.{Pinned}
use Rattle.cd_event.specs.declared.entry.Entry.{Entry}
use Rattle.cd_event.specs.declared.entry.Reply.{Reply}
use Rattle.cd_event.specs.declared.event.Event.{Event}
use Rattle.cd_event.specs.declared.event.Event.TheVariants.{Pin}
use Rattle.cd_event.specs.declared.faults.PinFault.{PinFault}
use Rattle.cd_event.specs.declared.names.At.{At}
use Rattle.cd_event.specs.declared.names.Who.{Who}
use Rattle.cd_event.specs.Pins.{Named, AddsPin, AreStates, MayMerge}
use Rattle.cd_event.specs.Replies.{entry_of, entries_of, who_of, pin_reply}
use Rattle.cd_event.specs.Turning.{is_keeper, RisesOnly}
use Rattle.cd_gate.specs.Gates.{GateView, SeatView, MayPrecede}
use Rattle.cd_gate.specs.Histories.{GrewByOthers}
use Rattle.cd_world.specs.declared.world.World.{World}
use Rattle.cd_world.specs.Machine.{after}
use Rattle.cd_world.specs.Told.{ToldWorld, told_after}
use Rattle.cd_core.specs.declared.start.CoreStart.{CoreStart}
use Rattle.cd_core.specs.Cores.{IsCore, told_start, failures}
use Rattle.cd_core.specs.Effects.{IsPinOf, MayStoreOver}
use Rattle.cd_core.specs.Workers.{is_own, made_by, given, named_from, named_by}
use Rattle.cd_core.proofs.OwnPins.{named_from-append, made-append, named-still, pin-named, states-now}
use Rattle.cd_core.proofs.OwnMerges.{may-store}
use Rattle.cd_shared.specs.SharedTurns.{worker_of, IsJournal, IsCoreTurn, SeatGoesOn}
use Rattle.cd_shared.specs.Going.{IsApart}

-- ---- faults, counted by a worker's own entries

rises : (b : Bool) (n m : ℕ) → m ≡ n + cond b 1 0 → RisesOnly b n m
rises true n m is = record { later = omega (arith, is); steady = λ e. absurd (true≢false e); rose = λ e. omega (arith, is) }
rises false n m is = record { later = omega (arith, is); steady = λ e. omega (arith, is); rose = λ e. absurd (true≢false (sym e)) }

module _ {X : Type 0} where
  failures-rise : (made : List (Entry X)) (who : Who) (event : Event X) (answer : Option Reply)
      → RisesOnly (is_keeper answer) (failures made) (failures (made ++ entries_of who event answer))
  failures-rise made who event None = rises false (failures made) _ (ap (failures {X = X}) (append-nil made) ∙ omega arith)
  failures-rise made who event (Some reply) =
      rises (is_keeper (Some reply)) (failures made) _
      (sum_by-append (λ (e : Entry X). cond {A = ℕ} (is_keeper (Some e.reply)) 1 0) made (entry_of who event reply ∷ [])
      ∙ ap (λ n. failures made + n) (zero-add (cond {A = ℕ} (is_keeper (Some reply)) 1 0)))

-- ---- entries of others

module _ {X : Type 0} (H : List ℕ → Hash256) (lowest end : ℕ) (some : lowest < end) where
  abbrev IsOther : Entry X → Type 0
  IsOther e = (worker_of e < lowest) ⊎ (end ≤ worker_of e)

  other : (e : Entry X) → IsOther e → is_own lowest e ≡ false
  other e out = ne_eqb e.who.worker lowest (λ same. ⊎_elim
      (λ (low : worker_of e < lowest). let none : ⊥ = omega (arith, same, low) in none)
      (λ (high : end ≤ worker_of e). let none : ⊥ = omega (arith, same, high, some) in none)
      out)

  none-made : (added : List (Entry X)) → All IsOther added → made_by lowest added ≡ []
  none-made [] all = refl
  none-made (e ∷ es) all =
      ap (λ b. cond b (e ∷ made_by lowest es) (made_by lowest es)) (other e (All-head IsOther e es all))
      ∙ none-made es (All-tail IsOther e es all)

  none-named : (w : World) (t : Option ToldWorld) (added : List (Entry X)) → All IsOther added → named_from H lowest w t added ≡ []
  none-named w t [] all = refl
  none-named w t (e ∷ es) all =
      let t' = option_map (λ u. told_after H u e) t in
      ap (λ b. cond b (given w t e.event e.reply) [] ++ named_from H lowest (after w e) t' es) (other e (All-head IsOther e es all))
      ∙ none-named (after w e) t' es (All-tail IsOther e es all)

  pub made-before : (seen before : List (Entry X)) → GrewByOthers worker_of lowest end seen before → made_by lowest before ≡ made_by lowest seen
  made-before seen before others =
      ap (made_by lowest) others.1 ∙ filter-append (is_own lowest) seen others.0
      ∙ ap (λ (es : List (Entry X)). made_by lowest seen ++ es) (none-made others.0 others.2) ∙ append-nil (made_by lowest seen)

  module _ {K : Type 0} (held : K → Option Contents) (start : CoreStart K) where
    pub named-before : (seen before : List (Entry X)) → GrewByOthers worker_of lowest end seen before
        → named_by H held lowest start before ≡ named_by H held lowest start seen
    named-before seen before others =
        ap (named_by H held lowest start) others.1
        ∙ named_from-append H lowest start.world.value (told_start held start) seen others.0
        ∙ ap (λ (ns : List Named). named_by H held lowest start seen ++ ns) (none-named _ _ others.0 others.2)
        ∙ append-nil (named_by H held lowest start seen)

    -- what may be said of a worker's entries and pins before a turn may be said of those that it has seen
    pub as-seen : (P : List (Entry X) → List Named → Type 0) (seen before : List (Entry X)) → GrewByOthers worker_of lowest end seen before
        → P (made_by lowest before) (named_by H held lowest start before) → P (made_by lowest seen) (named_by H held lowest start seen)
    as-seen P seen before others p =
        subst (λ (ms : List (Entry X)). P ms (named_by H held lowest start seen)) (made-before seen before others)
        (subst (λ (ns : List Named). P (made_by lowest before) ns) (named-before seen before others) p)

    pub before-seen : (P : List (Entry X) → List Named → Type 0) (seen before : List (Entry X)) → GrewByOthers worker_of lowest end seen before
        → P (made_by lowest seen) (named_by H held lowest start seen) → P (made_by lowest before) (named_by H held lowest start before)
    before-seen P seen before others p =
        subst (λ (ms : List (Entry X)). P ms (named_by H held lowest start before)) (sym (made-before seen before others))
        (subst (λ (ns : List Named). P (made_by lowest seen) ns) (sym (named-before seen before others)) p)

-- ---- what a merge asks

module _ {K X : Type 0} (held : K → Option Contents) (H : List ℕ → Hash256) (trail : K → Option (List Contents)) (batches faults : K → ℕ) where
  pub may-merge : (s t : SeatView (Entry X) (CoreStart K)) → s ≡ t → s.lowest < s.end → (f g : GateView (CoreStart K)) → f ≡ g
      → (before : List (Entry X)) → GrewByOthers worker_of s.lowest s.end s.seen before → (worker : ℕ) → worker ≡ t.lowest
      → (pin : ℕ) (other : Option ℕ) (p : PreparedView)
      → MayMerge H (made_by t.lowest t.seen) (named_by H held t.lowest g.start t.seen) pin other p
      → IsJournal held H trail batches faults f.start before → MayStoreOver held H f.start before worker pin other p
  may-merge s t same some f g same_gate before others worker whose pin other p may journal =
      let asked : MayMerge H (made_by s.lowest s.seen) (named_by H held s.lowest f.start s.seen) pin other p =
      subst (λ (z : SeatView (Entry X) (CoreStart K)). MayMerge H (made_by z.lowest z.seen) (named_by H held z.lowest f.start z.seen) pin other p) (sym same)
      (subst (λ (z : GateView (CoreStart K)). MayMerge H (made_by t.lowest t.seen) (named_by H held t.lowest z.start t.seen) pin other p) (sym same_gate) may) in
      subst (λ (n : ℕ). MayStoreOver held H f.start before n pin other p) (ap (λ (z : SeatView (Entry X) (CoreStart K)). z.lowest) same ∙ sym whose)
      (may-store H s.lowest held trail batches faults f.start before journal.keeper journal.core pin other p
      (before-seen H s.lowest s.end some held f.start (λ ms ns. MayMerge H ms ns pin other p) s.seen before others asked))

-- ---- what a turn tells

-- a worker's own entry was added, and what it knew stays
pub record OwnTurn {X S : Type 0} (s t : SeatView (Entry X) S) (at : At) (event : Event X) (answer : Option Reply) : Type 0 where
  pub same_worker : t.lowest ≡ s.lowest
  pub went : SeatGoesOn s t
  pub entry : made_by t.lowest t.seen ≡ made_by s.lowest s.seen ++ entries_of (who_of at s.lowest) event answer
  pub caused : RisesOnly (is_keeper answer) (failures (made_by s.lowest s.seen)) (failures (made_by t.lowest t.seen))

module _ {K X : Type 0} (held : K → Option Contents) (H : List ℕ → Hash256) (trail : K → Option (List Contents)) (batches faults : K → ℕ) (start : CoreStart K) (s t : SeatView (Entry X) (CoreStart K))
    (same : t ≡ record s { seen = t.seen }) (some : s.lowest < s.end) (before : List (Entry X)) (precede : MayPrecede worker_of s before) (at : At) (event : Event X) (answer : Option Reply)
    (turn : IsCoreTurn held H trail batches faults start before (who_of at s.lowest) event answer t.seen) where
  abbrev who : Who
  who = who_of at s.lowest

  same-lowest : t.lowest ≡ s.lowest
  same-lowest = ap (λ (v : SeatView (Entry X) (CoreStart K)). v.lowest) same

  apart-own : (o : Option Reply) → All (IsApart s) (entries_of who event o)
  apart-own None = All-nil (IsApart s)
  apart-own (Some reply) = All-cons (IsApart s) (entry_of who event reply) [] (inl refl) (All-nil (IsApart s))

  apart-others : (added : List (Entry X)) → All (λ e. (worker_of e < s.lowest) ⊎ (s.end ≤ worker_of e)) added → All (IsApart s) added
  apart-others [] all = All-nil (IsApart s)
  apart-others (e ∷ es) all =
      All-cons (IsApart s) e es (inr (All-head (λ (e : Entry X). (worker_of e < s.lowest) ⊎ (s.end ≤ worker_of e)) e es all))
      (apart-others es (All-tail (λ (e : Entry X). (worker_of e < s.lowest) ⊎ (s.end ≤ worker_of e)) e es all))

  went : SeatGoesOn s t
  went =
      let others = precede.others in
      let adds = turn.adds in
      record {
        same = same;
        more = others.0 ++ entries_of who event answer;
        seen = adds.entry ∙ ap (λ (es : List (Entry X)). es ++ entries_of who event answer) others.1 ∙ append_assoc s.seen others.0 (entries_of who event answer);
        apart = All-append (IsApart s) others.0 (entries_of who event answer) (apart-others others.0 others.2) (apart-own answer);
      }

  made-now : made_by t.lowest t.seen ≡ made_by s.lowest s.seen ++ entries_of who event answer
  made-now =
      let adds = turn.adds in
      ap (λ n. made_by n t.seen) same-lowest ∙ ap (made_by s.lowest) adds.entry ∙ made-append H s.lowest before who event answer refl
      ∙ ap (λ (es : List (Entry X)). es ++ entries_of who event answer) (made-before H s.lowest s.end some s.seen before precede.others)

  pub own-turn : OwnTurn s t at event answer
  own-turn = record {
    same_worker = same-lowest;
    went = went;
    entry = made-now;
    caused = subst (λ (ms : List (Entry X)). RisesOnly (is_keeper answer) (failures (made_by s.lowest s.seen)) (failures ms)) (sym made-now)
        (failures-rise (made_by s.lowest s.seen) who event answer);
  }

  -- what gives no pin names none
  pub named-stays : ((w : World) (o : Option ToldWorld) (r : Reply) → answer ≡ Some r → given w o event r ≡ [])
      → named_by H held t.lowest start t.seen ≡ named_by H held s.lowest start s.seen
  named-stays none =
      let adds = turn.adds in
      ap (λ n. named_by H held n start t.seen) same-lowest ∙ ap (named_by H held s.lowest start) adds.entry
      ∙ named-still H s.lowest held start before who event answer none ∙ named-before H s.lowest s.end some held start s.seen before precede.others

  -- before the turn
  pub known : (P : List (Entry X) → List Named → Type 0) → ((keeper : K) → (core : IsCore held H trail batches faults start before keeper) → P (made_by s.lowest before) (named_by H held s.lowest start before))
      → P (made_by s.lowest s.seen) (named_by H held s.lowest start s.seen)
  known P tells =
      let was = turn.was in
      as-seen H s.lowest s.end some held start P s.seen before precede.others (tells was.keeper was.core)

  pub states-before : AreStates H (made_by s.lowest s.seen) (named_by H held s.lowest start s.seen)
  states-before = known (AreStates H) (λ keeper core. states-now H s.lowest held trail batches faults start before keeper core)

  pub states-after : AreStates H (made_by t.lowest t.seen) (named_by H held t.lowest start t.seen)
  states-after = let is = turn.is in states-now H t.lowest held trail batches faults start t.seen is.keeper is.core

module _ {K X : Type 0} (held : K → Option Contents) (H : List ℕ → Hash256) (trail : K → Option (List Contents)) (batches faults : K → ℕ) (start : CoreStart K) (s t : SeatView (Entry X) (CoreStart K))
    (same : t ≡ record s { seen = t.seen }) (some : s.lowest < s.end) (before : List (Entry X)) (precede : MayPrecede worker_of s before) (at : At) where
  -- a pin more is named
  pub pin-names : (id : BlockId) (answer : Result Pinned PinFault) → IsCoreTurn held H trail batches faults start before (who_of at s.lowest) (Pin id) (pin_reply answer) t.seen
      → IfOk answer (IsPinOf held H start before id)
      → MatchResult answer (AddsPin H (named_by H held s.lowest start s.seen) (named_by H held t.lowest start t.seen))
      (λ _. named_by H held t.lowest start t.seen ≡ named_by H held s.lowest start s.seen)
  pin-names id answer turn root =
      let adds = turn.adds in
      let was = turn.was in
      let low : t.lowest ≡ s.lowest = ap (λ (v : SeatView (Entry X) (CoreStart K)). v.lowest) same in
      let named = pin-named H s.lowest held trail batches faults start before was.keeper was.core start t.seen (who_of at s.lowest) id answer refl refl adds.entry adds.follows root in
      subst (λ (n : ℕ). MatchResult answer (AddsPin H (named_by H held s.lowest start s.seen) (named_by H held n start t.seen)) (λ _. named_by H held n start t.seen ≡ named_by H held s.lowest start s.seen)) (sym low)
      (subst (λ (ns : List Named). MatchResult answer (AddsPin H ns (named_by H held s.lowest start t.seen)) (λ _. named_by H held s.lowest start t.seen ≡ ns)) (named-before H s.lowest s.end some held start s.seen before precede.others) named)
