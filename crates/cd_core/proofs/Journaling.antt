-- What a call did, as one entry more of the journal.
use Rattle.std.proofs.Common.{◌≡◌, ℕ, ◌+◌, ◌-◌, ◌^◌, ◌<◌, ◌≤◌, map, Bool, true, false, cond, List, [], ◌∷◌, ◌++◌, length, Option, Some, None, refl, sym, ap, ◌∙◌, subst, arith, append_assoc, append-nil, length-append, zero-add}
use Rattle.std.proofs.lemmas.List.Sums.{sum_by-append}
use Rattle.std.specs.Prelude.{min, IfSome, Result, Ok, Err, IfOk}
use Rattle.std.specs.Option.{option_map, option_to_list}
use Rattle.cd_base.specs.declared.hash.Hash256.{Hash256}
use Rattle.cd_base.specs.Counts.{one_more}
use Rattle.cd_block.specs.declared.description.Descr.{Descr}
use Rattle.cd_keeper.specs.Contents.{Contents}
use Rattle.cd_keeper.specs.Keeping.{KeepsHeld, longer}
use Rattle.cd_event.specs.declared.names.Who.{Who}
use Rattle.cd_event.specs.declared.event.Event.{Event}
use Rattle.cd_event.specs.declared.event.Event.TheVariants.{Zero, Pin, Look, Merge, Unpin, Expire}
use Rattle.cd_event.specs.declared.entry.Entry.{Entry}
use Rattle.cd_event.specs.declared.entry.Reply.{Reply}
use Rattle.cd_event.specs.Replies.{entry_of, entries_of}
use Rattle.cd_event.specs.Turning.{is_keeper, RisesOnly}
use Rattle.cd_world.specs.declared.world.World.{World}
use Rattle.cd_world.specs.declared.world.PinRow.{PinRow}
use Rattle.cd_world.specs.Standing.{kept_at, pin_at}
use Rattle.cd_world.specs.Changes.{with_block, stored, without_pin, without_pins}
use Rattle.cd_world.specs.Machine.{merge_rows, blocks_of, is_refused, makes_batch, moved, after, replay, unless_expired}
use Rattle.cd_world.specs.Following.{Follows}
use Rattle.cd_world.specs.Told.{ToldWorld, shown, told_after, told_replay, FollowsTold}
use Rattle.cd_world.specs.Image.{IsContentsOf}
use Rattle.cd_world.specs.Trail.{worlds_after, AreContentsOf}
use Rattle.cd_world.specs.Unfolded.{told_in}
use Rattle.cd_world.proofs.Replays.{replay-append, all_follow-join, told_replay-append, told_replay-world, told_follow-join, worlds_after-append}
use Rattle.cd_core.specs.declared.start.CoreStart.{CoreStart}
use Rattle.cd_core.specs.Cores.{IsCore, IsHeld, Holds, IsWritable, world_after, told_start, failures, batched}
use Rattle.cd_core.specs.Effects.{Adds, AreSeen}
use Rattle.cd_cell.specs.FaceView.{FaceView}
use Rattle.cd_event.specs.declared.faults.LookFault.{LookFault}
use Rattle.cd_world.specs.Told.{seen}
use Rattle.cd_core.specs.Steps.{Did, DidTold, moved_by}

-- ---- the next pin's number

pub next-without_pins : (w : World) (rows : List PinRow) → (let v = without_pins w rows in v.next) ≡ w.next
next-without_pins w [] = refl
next-without_pins w (row ∷ rows) = next-without_pins (without_pin w row) rows

next-expired : (w : World) (m : Option Descr) → (let v = unless_expired w m in v.next) ≡ w.next
next-expired w None = refl
next-expired w (Some m) = refl

module _ {X : Type 0} where
  next-moved : (w : World) (worker : ℕ) (event : Event X) → (let v = moved w worker event in v.next) ≤ w.next + 1
  next-moved w worker (Zero id tops p) = omega arith
  next-moved w worker (Pin id) = omega arith
  next-moved w worker (Look pin asked) = omega arith
  next-moved w worker (Merge pin other id tops p) =
      let rows = merge_rows w worker pin other in
      omega (arith, next-without_pins (with_block w (stored id (blocks_of rows) tops p)) rows)
  next-moved w worker (Unpin pin) = omega (arith, next-without_pins w (option_to_list (pin_at w worker pin)))
  next-moved w worker (Expire id) = omega (arith, next-expired w (kept_at w id))

  next-after : (w : World) (e : Entry X) → (let v = after w e in v.next) ≤ w.next + 1
  next-after w e = elim (is_refused e.reply) as (λ b. (let v = cond b w (moved w e.who.worker e.event) in v.next) ≤ w.next + 1) [
    | true ↦ omega arith
    | false ↦ next-moved w e.who.worker e.event
  ]

  failures-append : (es fs : List (Entry X)) → failures (es ++ fs) ≡ failures es + failures fs
  failures-append es fs = sum_by-append (λ (e : Entry X). cond {A = ℕ} (is_keeper (Some e.reply)) 1 0) es fs

  batched-append : (es fs : List (Entry X)) (n : ℕ) → batched (es ++ fs) n ≡ batched fs (batched es n)
  batched-append [] fs n = refl
  batched-append (e ∷ es) fs n = batched-append es fs (cond (makes_batch e.reply) (one_more n) n)

-- a count of faults that rose where one failure more is counted
faults-step : (b : Bool) (f₀ n old new : ℕ) → min (f₀ + n) (2 ^ 64 - 1) ≤ old → RisesOnly b old new → min (f₀ + (n + cond b 1 0)) (2 ^ 64 - 1) ≤ new
faults-step true f₀ n old new low rises = let r : min (old + 1) (2 ^ 64 - 1) ≤ new = rises.rose refl in omega arith
faults-step false f₀ n old new low rises = let up = rises.later in omega arith

if_some : {A : Type 0} (o : Option A) (P Q R : A → Type 0) → ((x : A) → P x → Q x → R x) → IfSome o P → IfSome o Q → IfSome o R
if_some None P Q R f p q = tt
if_some (Some x) P Q R f p q = f x p q

-- ---- trails

module _ (H : List ℕ → Hash256) where
  contents-append : (ts us : List ToldWorld) (cs ds : List Contents) → AreContentsOf H ts cs → AreContentsOf H us ds → AreContentsOf H (ts ++ us) (cs ++ ds)
  contents-append [] us [] ds p q = q
  contents-append [] us (c ∷ cs) ds p q = absurd p
  contents-append (t ∷ ts) us [] ds p q = absurd p
  contents-append (t ∷ ts) us (c ∷ cs) ds p q = (p.0, contents-append ts us cs ds p.1 q)

  one-content : (b : Bool) (t : ToldWorld) (c : Contents) → IsContentsOf H (shown t) c → AreContentsOf H (cond b (t ∷ []) [] ++ []) (cond b (c ∷ []) [])
  one-content true t c is = (is, tt)
  one-content false t c is = tt

trail-step : (before : Option (List Contents)) (xs : List Contents) (b : Bool) (c : Contents)
    → cond b (longer (option_map (λ cs. cs ++ xs) before) (Some c)) (option_map (λ cs. cs ++ xs) before) ≡ option_map (λ cs. cs ++ (xs ++ cond b (c ∷ []) [])) before
trail-step None xs true c = refl
trail-step None xs false c = refl
trail-step (Some cs) xs true c = ap {B = Option (List Contents)} Some (append_assoc cs xs (c ∷ []))
trail-step (Some cs) xs false c = ap {B = Option (List Contents)} (λ ys. Some (cs ++ ys)) (sym (append-nil xs))

module _ {K : Type 0} (held : K → Option Contents) (start : CoreStart K) where
  -- the told world that a core began with is over its world
  if_told : (P Q : ToldWorld → Type 0) → ((t : ToldWorld) → t.world ≡ start.world.value → P t → Q t) → IfSome (told_start held start) P → IfSome (told_start held start) Q
  if_told P Q f p = elim (held start.keeper.value) as (λ o. IfSome (option_map (λ contents. told_in contents start.world.value) o) P → IfSome (option_map (λ contents. told_in contents start.world.value) o) Q) [
    | None ↦ λ q. tt
    | Some contents ↦ λ q. f (told_in contents start.world.value) refl q
  ] p

-- ---- one entry more

module _ {K X : Type 0} (held : K → Option Contents) (H : List ℕ → Hash256) (trail : K → Option (List Contents)) (batches faults : K → ℕ) where
  abbrev Is : CoreStart K → List (Entry X) → K → Type 0
  Is start es k = IsCore held H trail batches faults start es k

  abbrev Done : CoreStart K → World → K → Who → Event X → Option Reply → World → K → Type 0
  Done start w k who event answer w' k' = Did held H trail batches faults start.limit w k who event answer w' k'

  held-step : (limit : ℕ) (t : ToldWorld) (es : List (Entry X)) (who : Who) (event : Event X) (reply : Reply) (k₀ k k' : K)
      → IsHeld held H trail limit t es k₀ k → DidTold held H trail limit (told_replay H t es) who event (Some reply) k k'
      → IsHeld held H trail limit t (es ++ entry_of who event reply ∷ []) k₀ k'
  held-step limit t es who event reply k₀ k k' is did =
      let e : Entry X = entry_of who event reply in
      let on : told_replay H t (es ++ e ∷ []) ≡ told_after H (told_replay H t es) e = told_replay-append H t es (e ∷ []) in
      let now = did.holds in
      let so = now.are in
      let was = is.trailed in
      let b = makes_batch reply in
      record {
        follow = told_follow-join H limit t es (e ∷ []) is.follow (did.follows, tt);
        holds = subst (λ u. Holds held H u k') (sym on) now;
        trailed = record {
          more = was.more ++ cond b (now.contents ∷ []) [];
          is_trail = did.trailed
              ∙ ap (λ o. cond b (longer (trail k) o) (trail k)) now.is_held
              ∙ ap (λ o. cond b (longer o (Some now.contents)) o) was.is_trail
              ∙ trail-step (trail k₀) was.more b now.contents;
          are = subst (λ ts. AreContentsOf H ts (was.more ++ cond b (now.contents ∷ []) [])) (sym (worlds_after-append H t es (e ∷ [])))
              (contents-append H (worlds_after H t es) _ was.more _ was.are (one-content H b (told_after H (told_replay H t es) e) now.contents so.are));
        };
      }

  still-step : (limit : ℕ) (t : ToldWorld) (es : List (Entry X)) (who : Who) (event : Event X) (k₀ k k' : K)
      → IsHeld held H trail limit t es k₀ k → DidTold held H trail limit (told_replay H t es) who event None k k' → IsHeld held H trail limit t es k₀ k'
  still-step limit t es who event k₀ k k' is did =
      let was = is.trailed in
      record {
        follow = is.follow;
        holds = did.holds;
        trailed = record { more = was.more; is_trail = did.trailed ∙ was.is_trail; are = was.are };
      }

  told-world : (start : CoreStart K) (es : List (Entry X)) (w : World) → w ≡ world_after start es → (t : ToldWorld) → t.world ≡ start.world.value → (let u = told_replay H t es in u.world) ≡ w
  told-world start es w same t is = told_replay-world H t es ∙ ap (λ v. replay v es) is ∙ sym same

  pub core-step : (start : CoreStart K) (es : List (Entry X)) (w w' : World) (k k' : K) (who : Who) (event : Event X) (answer : Option Reply)
      → w ≡ world_after start es → Is start es k → Done start w k who event answer w' k' → Is start (es ++ entries_of who event answer) k'
  core-step start es w w' k k' who event None same is did = subst (λ fs. Is start fs k') (sym (append-nil es)) (record {
    no_pins = is.no_pins;
    follow = is.follow;
    writable = is.writable;
    numbered = is.numbered;
    limited = is.limited;
    is_batches = did.batched ∙ is.is_batches;
    is_faults = let low = is.is_faults in let up = did.caused in omega (arith, up.later);
    silent = λ none. did.silent (is.silent none);
    told = if_told held start (λ t. IsHeld held H trail start.limit t es start.keeper.value k) _
        (λ t at h. still-step start.limit t es who event start.keeper.value k k' h (did.told (told_replay H t es) (told-world start es w same t at) h.holds)) is.told;
  })
  core-step start es w w' k k' who event (Some reply) same is did =
      let e : Entry X = entry_of who event reply in
      let on : world_after start (es ++ e ∷ []) ≡ after (world_after start es) e = replay-append start.world.value es (e ∷ []) in
      let moved_on : world_after start (es ++ e ∷ []) ≡ w' = on ∙ ap (λ v. after v e) (sym same) ∙ sym did.world in
      record {
        no_pins = is.no_pins;
        follow = all_follow-join H start.world.value es (e ∷ []) is.follow (subst (λ v. Follows H v e) same did.follows, tt);
        writable = subst IsWritable (sym moved_on) did.writable;
        numbered = omega (arith, ap (λ (v : World). v.next) on, next-after (world_after start es) e, is.numbered, length-append es (e ∷ []));
        limited = is.limited;
        is_batches = did.batched ∙ ap (λ n. cond (makes_batch reply) (one_more n) n) is.is_batches ∙ sym (batched-append es (e ∷ []) (batches start.keeper.value));
        is_faults = subst (λ n. min (faults start.keeper.value + n) (2 ^ 64 - 1) ≤ faults k')
            (ap (λ n. failures es + n) (sym (zero-add (cond {A = ℕ} (is_keeper (Some reply)) 1 0))) ∙ sym (failures-append es (e ∷ [])))
            (faults-step (is_keeper (Some reply)) (faults start.keeper.value) (failures es) (faults k) (faults k') is.is_faults did.caused);
        silent = λ none. did.silent (is.silent none);
        told = if_told held start (λ t. IsHeld held H trail start.limit t es start.keeper.value k) _
            (λ t at h. held-step start.limit t es who event reply start.keeper.value k k' h (did.told (told_replay H t es) (told-world start es w same t at) h.holds)) is.told;
      }

  pub adds-step : (start : CoreStart K) (es fs : List (Entry X)) (w w' : World) (k k' : K) (who : Who) (event : Event X) (answer : Option Reply)
      → w ≡ world_after start es → Is start es k → Done start w k who event answer w' k' → fs ≡ es ++ entries_of who event answer
      → Adds held H start es who event answer fs
  adds-step start es fs w w' k k' who event answer same is did at = record {
    entry = at;
    follows = subst (λ v. IfSome answer (λ reply. Follows H v (entry_of who event reply))) same did.follows;
    told = by answer did;
  }
    where
      by : (o : Option Reply) → Done start w k who event o w' k' → IfSome o (λ reply. IfSome (told_start held start) (λ t. FollowsTold H start.limit (told_replay H t es) (entry_of who event reply)))
      by None d = tt
      by (Some reply) d = if_told held start (λ t. IsHeld held H trail start.limit t es start.keeper.value k) _
          (λ t at h. let s = d.told (told_replay H t es) (told-world start es w same t at) h.holds in s.follows) is.told

  -- the world and the entries after a call
  abbrev pub Keeps : World → CoreStart K → List (Entry X) → K → Type 0
  Keeps w start es k = (w ≡ world_after start es) × IsCore held H trail batches faults start es k

  pub keeps-step : (start : CoreStart K) (es fs : List (Entry X)) (w w' : World) (k k' : K) (who : Who) (event : Event X) (answer : Option Reply)
      → Keeps w start es k → Done start w k who event answer w' k' → fs ≡ es ++ entries_of who event answer → Keeps w' start fs k'
  keeps-step start es fs w w' k k' who event answer is did at =
      subst (λ gs. Keeps w' start gs k') (sym at)
      (did.world ∙ by answer, core-step start es w w' k k' who event answer is.0 is.1 did)
    where
      by : (o : Option Reply) → moved_by w who event o ≡ world_after start (es ++ entries_of who event o)
      by None = is.0 ∙ ap (world_after start) (sym (append-nil es))
      by (Some reply) = ap (λ v. after v (entry_of who event reply)) is.0 ∙ sym (replay-append start.world.value es (entry_of who event reply ∷ []))

  -- ---- what a call may rely on

  pub ready-of : (w : World) (start : CoreStart K) (es : List (Entry X)) (k : K) → Keeps w start es k → IsWritable w
  ready-of w start es k is = let core = is.1 in subst IsWritable (sym is.0) core.writable

  pub next-fits : (w : World) (start : CoreStart K) (es fs : List (Entry X)) (k : K) (room : Entry X) → Keeps w start es k → fs ≡ es ++ room ∷ [] → length fs < 2 ^ 64 → w.next + 1 < 2 ^ 64
  next-fits w start es fs k room is at fits =
      let core = is.1 in
      let few = core.numbered in
      let same = ap (λ (v : World). v.next) is.0 in
      let long = ap length at in
      omega (arith, length-append es (room ∷ []))

  -- where the keeper tells
  pub told-now : (P : ToldWorld → Type 0) (w : World) (start : CoreStart K) (es : List (Entry X)) (k : K) → Keeps w start es k
      → ((u : ToldWorld) → u.world ≡ w → Holds held H u k → P u) → IfSome (told_start held start) (λ t. P (told_replay H t es))
  told-now P w start es k is f =
      let core = is.1 in
      if_told held start (λ t. IsHeld held H trail start.limit t es start.keeper.value k) (λ t. P (told_replay H t es))
      (λ t at h. f (told_replay H t es) (told-world start es w is.0 t at) h.holds) core.told

  pub seen-now : {A : Type 0} (items : A → List (Option FaceView)) (w : World) (start : CoreStart K) (es : List (Entry X)) (k : K) (hashes : List Hash256) (answer : Result A LookFault) → Keeps w start es k
      → IfOk answer (λ found. (u : ToldWorld) → Holds held H u k → items found ≡ map (seen H u) hashes)
      → IfOk answer (λ found. AreSeen held H start es hashes (items found))
  seen-now items w start es k hashes (Ok found) is told = told-now (λ u. items found ≡ map (seen H u) hashes) w start es k is (λ u same h. told u h)
  seen-now items w start es k hashes (Err fault) is told = tt

  -- a call on the keeper that changes nothing that it holds
  pub kept-core : (w : World) (start : CoreStart K) (es : List (Entry X)) (k k' : K) → Keeps w start es k → KeepsHeld held trail batches k k' → faults k ≤ faults k' → Keeps w start es k'
  kept-core w start es k k' is keeps later =
      let core = is.1 in (
        is.0,
        record {
          no_pins = core.no_pins;
          follow = core.follow;
          writable = core.writable;
          numbered = core.numbered;
          limited = core.limited;
          is_batches = keeps.same_batches ∙ core.is_batches;
          is_faults = let low = core.is_faults in omega (arith, later);
          silent = λ none. keeps.same_held ∙ core.silent none;
          told = if_told held start (λ t. IsHeld held H trail start.limit t es start.keeper.value k) (λ t. IsHeld held H trail start.limit t es start.keeper.value k')
              (λ t at h.
              let now = h.holds in
              let was = h.trailed in
              record {
                follow = h.follow;
                holds = record { contents = now.contents; is_held = keeps.same_held ∙ now.is_held; are = now.are };
                trailed = record { more = was.more; is_trail = keeps.same_trail ∙ was.is_trail; are = was.are };
              }) core.told;
        },
      )
