-- What a worker's entries and pins tell of a core.
use Rattle.std.proofs.Common.{◌≡◌, ℕ, Bool, true, false, cond, List, [], ◌∷◌, ◌++◌, map, flat_map, Option, Some, None, Contains, refl, sym, ap, ap₂, ◌∙◌, subst, arith, append_assoc, append-nil, ⊎_elim}
use Rattle.std.specs.Prelude.{Result, Ok, Err, IfOk, OnOk, MatchResult, IfSome, IsSome, nat_eq, slice_get, is_some}
use Rattle.std.specs.Option.{option_map, option_and_then, option_to_list}
use Rattle.std.proofs.lemmas.Bool.Decides.{Decides-eqb}
use Rattle.std.proofs.lemmas.List.Elements.{All-contains, All-from_recursion, filter-append}
use Rattle.std.proofs.lemmas.Option.{none-some, same_Some, slice_get-map}
use Rattle.cd_base.specs.declared.hash.Hash256.{Hash256}
use Rattle.cd_block.specs.declared.block.BlockId.{BlockId}
use Rattle.cd_block.specs.declared.description.Descr.{Descr}
use Rattle.cd_block.specs.Description.{IsDescrFit}
use Rattle.cd_cell.specs.declared.info.ChildInfo.{ChildInfo}
use Rattle.cd_cell.specs.FaceView.{FaceView}
use Rattle.cd_cell.specs.Tree.{Tree, subtrees, face_of, info_of, mask_of, IsWellFormed}
use Rattle.cd_cell.specs.Export.{AreClashFree}
use Rattle.cd_cell.proofs.Subtrees.{Contains-cases, Contains-mapped, Contains-nil, flat_map-cases, flat_map-listed}
use Rattle.cd_keeper.specs.Contents.{Contents}
use Rattle.cd_event.specs.declared.answers.Pinned.{Pinned}
use Rattle.cd_event.specs.declared.entry.Entry.{Entry}
use Rattle.cd_event.specs.declared.entry.Reply.{Reply}
use Rattle.cd_event.specs.declared.entry.Reply.TheVariants as reply
use Rattle.cd_event.specs.declared.event.Event.{Event}
use Rattle.cd_event.specs.declared.event.Event.TheVariants.{Pin}
use Rattle.cd_event.specs.declared.names.Who.{Who}
use Rattle.cd_event.specs.Pins.{Named, Holds, IsPlain, IsState, AreStates, AddsPin}
use Rattle.cd_event.specs.declared.faults.PinFault.{PinFault}
use Rattle.cd_event.specs.declared.refusal.Refusal.{Refusal}
use Rattle.cd_event.specs.Replies.{entry_of, entries_of, pin_refusal, pin_reply, refused}
use Rattle.cd_event.specs.Turning.{AreHeldFaces}
use Rattle.cd_world.specs.declared.world.PinRow.{PinRow}
use Rattle.cd_world.specs.declared.world.World.{World}
use Rattle.cd_world.specs.Following.{Follows}
use Rattle.cd_world.specs.Machine.{root_info, old_info, is_refused, replay, after}
use Rattle.cd_world.specs.Pinning.{IsHeld}
use Rattle.cd_world.specs.Standing.{has_id, block_at, kept_at}
use Rattle.cd_world.specs.Told.{ToldWorld, states_of, seen, told_after, told_replay, IsSound, IsSoundBlock}
use Rattle.cd_world.specs.Unfolded.{told_in}
use Rattle.cd_world.proofs.EqualImages.{cell_is_held}
use Rattle.cd_world.proofs.OldInfos.{old_tree-known}
use Rattle.cd_world.proofs.PinsStay.{same_id-Decides}
use Rattle.cd_world.proofs.Replays.{told_replay-world}
use Rattle.cd_world.proofs.Searches.{find-passes, find-contains}
use Rattle.cd_core.specs.declared.start.CoreStart.{CoreStart}
use Rattle.cd_core.specs.Cores.{CoreView, IsCore, world_after, told_start}
use Rattle.cd_core.specs.Cores.{IsHeld as KeepsAll}
use Rattle.cd_core.specs.Effects.{IsPinOf, AreSeen}
use Rattle.cd_core.specs.Workers.{GoesOn, is_own, made_by, naming, given, named_from, named_by}
use Rattle.cd_core.proofs.Tracking.{Tracks, IsNamed, tracks-on, tracks-none, replied, refused-names, kept-there}

-- the trees of some are free of clashes among those of all
clear-among : (H : List ℕ → Hash256) (some all : List Tree) → ((s : Tree) → Contains some s → Contains all s) → AreClashFree H all → AreClashFree H some
clear-among H some all among clear a b in-a in-b same = clear a b (into a in-a) (into b in-b) same
  where
    into : (s : Tree) → Contains (flat_map subtrees some) s → Contains (flat_map subtrees all) s
    into s h = let from = flat_map-cases some s h in flat_map-listed all from.0 s (among from.0 from.1) from.2

-- what is said of a result or of an option's value
pub ok-then : {A E : Type 0} (r : Result A E) (P Q : A → Type 0) → ((x : A) → P x → Q x) → IfOk r P → IfOk r Q
ok-then (Ok x) P Q f p = f x p
ok-then (Err e) P Q f p = tt

pub on-ok-always : {A E : Type 0} (r : Result A E) (P : Type 0) → P → OnOk r P
on-ok-always (Ok x) P p = p
on-ok-always (Err e) P p = tt

pub some-of : {A : Type 0} (o : Option A) (x : A) (P : A → Type 0) → o ≡ Some x → P x → IfSome o P
some-of {A} o x P is p = let Q : Option A → Type 0 = λ y. IfSome y P in subst Q (sym is) p

refused-is : (o : Option Refusal) (r : Reply) → refused o ≡ Some r → is_refused r ≡ true
refused-is None r e = absurd (none-some r e)
refused-is (Some why) r e = ap is_refused (sym (same_Some (reply.Refused why) r e))

module _ {X : Type 0} (H : List ℕ → Hash256) (worker : ℕ) where
  -- ---- one entry more

  pub named_from-append : (w : World) (t : Option ToldWorld) (es fs : List (Entry X))
      → named_from H worker w t (es ++ fs) ≡ named_from H worker w t es ++ named_from H worker (replay w es) (option_map (λ u. told_replay H u es) t) fs
  named_from-append w t [] fs = ap (λ o. named_from H worker w o fs) (itself t)
    where
      itself : (o : Option ToldWorld) → o ≡ option_map (λ u. u) o
      itself None = refl
      itself (Some u) = refl
  named_from-append w t (e ∷ es) fs =
      let t' = option_map (λ u. told_after H u e) t in
      let here = cond (is_own worker e) (given w t e.event e.reply) [] in
      ap (λ (ns : List Named). here ++ ns) (named_from-append (after w e) t' es fs ∙ ap (λ o. named_from H worker (after w e) t' es ++ named_from H worker (replay (after w e) es) o fs) (joined t))
      ∙ sym (append_assoc here (named_from H worker (after w e) t' es) (named_from H worker (replay (after w e) es) (option_map (λ u. told_replay H u (e ∷ es)) t) fs))
    where
      joined : (o : Option ToldWorld) → option_map (λ u. told_replay H u es) (option_map (λ u. told_after H u e) o) ≡ option_map (λ u. told_replay H u (e ∷ es)) o
      joined None = refl
      joined (Some u) = refl

  -- a worker's own entry is one of those that it made
  pub made-append : (es : List (Entry X)) (who : Who) (event : Event X) (answer : Option Reply) → who.worker ≡ worker
      → made_by worker (es ++ entries_of who event answer) ≡ made_by worker es ++ entries_of who event answer
  made-append es who event answer whose = filter-append (is_own worker) es (entries_of who event answer) ∙ ap (λ (fs : List (Entry X)). made_by worker es ++ fs) (own-made answer)
    where
      own-made : (o : Option Reply) → made_by worker (entries_of who event o) ≡ entries_of who event o
      own-made None = refl
      own-made (Some r) = ap (λ b. cond b (entry_of who event r ∷ []) []) ((Decides-eqb who.worker worker).1 whose)

  -- a call goes on with the worker's own entry
  pub goes-by : {K : Type 0} (old new : CoreView K X) (who : Who) (event : Event X) (answer : Option Reply) → who.worker ≡ worker → new.start ≡ old.start → new.journal ≡ old.journal ++ entries_of who event answer → GoesOn worker old new
  goes-by old new who event answer whose start entry = record { start = start; more = entries_of who event answer; own = made-append [] who event answer whose; journal = entry }

  module _ {K : Type 0} (held : K → Option Contents) where
    abbrev pub told_now : CoreStart K → List (Entry X) → Option ToldWorld
    told_now start es = option_map (λ u. told_replay H u es) (told_start held start)

    -- what gives no pin names none
    pub named-still : (start : CoreStart K) (es : List (Entry X)) (who : Who) (event : Event X) (answer : Option Reply)
        → ((w : World) (t : Option ToldWorld) (r : Reply) → answer ≡ Some r → given w t event r ≡ [])
        → named_by H held worker start (es ++ entries_of who event answer) ≡ named_by H held worker start es
    named-still start es who event None none = ap (named_by H held worker start) (append-nil es)
    named-still start es who event (Some r) none =
        named_from-append start.world.value (told_start held start) es (entry_of who event r ∷ [])
        ∙ ap (λ (ns : List Named). named_by H held worker start es ++ (cond (nat_eq who.worker worker) ns [] ++ [])) (none (world_after start es) (told_now start es) r refl)
        ∙ ap (λ (ns : List Named). named_by H held worker start es ++ ns) (either (nat_eq who.worker worker)) ∙ append-nil (named_by H held worker start es)
      where
        either : (b : Bool) → cond {A = List Named} b [] [] ++ [] ≡ []
        either true = refl
        either false = refl

    pub named-kept : (start start' : CoreStart K) (es es' : List (Entry X)) (who : Who) (event : Event X) (answer : Option Reply) → start' ≡ start → es' ≡ es ++ entries_of who event answer
        → ((w : World) (t : Option ToldWorld) (r : Reply) → answer ≡ Some r → given w t event r ≡ []) → named_by H held worker start' es' ≡ named_by H held worker start es
    named-kept start start' es es' who event answer same entry none =
        ap₂ (λ (s : CoreStart K) (fs : List (Entry X)). named_by H held worker s fs) same entry ∙ named-still start es who event answer none

    -- ---- a core

    module _ (trail : K → Option (List Contents)) (batches faults : K → ℕ) (start : CoreStart K) (es : List (Entry X)) (k : K) (core : IsCore held H trail batches faults start es k) where
      abbrev w : World
      w = world_after start es

      abbrev ms : List (Entry X)
      ms = made_by worker es

      abbrev ns : List Named
      ns = named_by H held worker start es

      pub tracks : Tracks worker w (told_now start es) ms ns
      tracks = tracks-on worker H es start.world.value (told_start held start) [] [] (tracks-none worker H start.world.value (told_start held start) core.no_pins) (over (held start.keeper.value)) core.follow
        where
          over : (o : Option Contents) → IfSome (option_map (λ contents. told_in contents start.world.value) o) (λ u. u.world ≡ start.world.value)
          over None = tt
          over (Some contents) = refl

      -- the told world is sound
      pub sound-now : (u : ToldWorld) → told_now start es ≡ Some u → IsSound H u × (u.world ≡ w)
      sound-now u at = by (held start.keeper.value) core.told at
        where
          by : (o : Option Contents) → (let t = option_map (λ contents. told_in contents start.world.value) o in IfSome t (λ t. KeepsAll held H trail start.limit t es start.keeper.value k) → option_map (λ u. told_replay H u es) t ≡ Some u → IsSound H u × (u.world ≡ w))
          by None told is = absurd (none-some u is)
          by (Some contents) told is =
              let t = told_in contents start.world.value in
              let same : told_replay H t es ≡ u = same_Some (told_replay H t es) u is in
              let holds = told.holds in
              let so = holds.are in
              (subst (IsSound H) same so.sound, ap (λ (v : ToldWorld). v.world) (sym same) ∙ told_replay-world H t es)

      -- a block that is there, with its tree
      record IsTreeOf (u : ToldWorld) (q : BlockId) (d : Descr) : Type 0 where
        pub listed : Contains (states_of u) (u.state q)
        pub state : IsState H (u.state q)
        pub root : info_of H (u.state q) ≡ root_info d

      tree-of : (u : ToldWorld) (q : BlockId) (d : Descr) → told_now start es ≡ Some u → block_at w q ≡ Some d → IsTreeOf u q d
      tree-of u q d at there =
          let both = sound-now u at in
          let sound = both.0 in
          let there_u : block_at u.world q ≡ Some d = ap (λ (v : World). block_at v q) both.1 ∙ there in
          let inside = find-contains (has_id q) u.world.blocks d there_u in
          let same : d.id ≡ q = (same_id-Decides d.id q).0 (find-passes (has_id q) u.world.blocks d there_u) in
          let block = All-contains (IsSoundBlock H u.state) u.world.blocks d sound.blocks inside in
          let listed : Contains (states_of u) (u.state q) = subst (λ (id : BlockId). Contains (states_of u) (u.state id)) same (Contains-mapped (λ (x : Descr). u.state x.id) u.world.blocks d inside) in
          let known = old_tree-known H u (q ∷ []) sound (All-from_recursion (λ (x : BlockId). IsSome (block_at u.world x)) (q ∷ []) (ap is_some there_u, tt)) in
          record {
            listed = listed;
            state = record {
              good = subst (λ (id : BlockId). IsWellFormed H (u.state id)) same block.good;
              clear = clear-among H (u.state q ∷ []) (states_of u) (λ s h. subst (Contains (states_of u)) (only (u.state q) s h) listed) sound.clear;
              plain = subst (λ (id : BlockId). mask_of H (u.state id) ≡ 0) same block.plain;
            };
            root = sym (same_Some (root_info d) (info_of H (u.state q)) (sym (ap (λ (o : Option Descr). old_info H (o ∷ [])) there_u) ∙ known));
          }
        where
          only : (a s : Tree) → Contains (a ∷ []) s → a ≡ s
          only a s h = ⊎_elim (λ same. same) (λ later. absurd (Contains-nil s later)) (Contains-cases a [] s h)

      -- ---- pins

      -- the state of a live pin is a told tree of the world
      record IsHeldTree (n : ℕ) (tree : Tree) : Type 0 where
        pub world : ToldWorld
        pub told : told_now start es ≡ Some world
        pub row : PinRow
        pub block : Descr
        pub is_held : IsHeld w worker n row block
        pub is_state : world.state row.block ≡ tree

      held-tree : (n : ℕ) (tree : Tree) → Holds ms ns n tree → IsHeldTree n tree
      held-tree n tree h =
          let is = tracks.live n h.live in
          let named : (is.name).tree ≡ Some tree = sym (ap (option_and_then (λ m. m.tree)) is.found) ∙ h.told in
          by (told_now start es) refl is (sym is.tree ∙ named)
        where
          by : (o : Option ToldWorld) → told_now start es ≡ o → (is : IsNamed worker w (told_now start es) ns n) → option_map (λ u. u.state (is.row).block) (told_now start es) ≡ Some tree → IsHeldTree n tree
          by None at is e = absurd (none-some tree (sym (ap (option_map (λ (u : ToldWorld). u.state (is.row).block)) at) ∙ e))
          by (Some u) at is e = record {
            world = u;
            told = at;
            row = is.row;
            block = is.block;
            is_held = is.is_held;
            is_state = same_Some (u.state (is.row).block) tree (sym (ap (option_map (λ (v : ToldWorld). v.state (is.row).block)) at) ∙ e);
          }

      pub states-now : AreStates H ms ns
      states-now = record {
        each = λ n t h.
            let is = held-tree n t h in
            let on = is.is_held in
            let of_tree = tree-of is.world (is.row).block is.block is.told on.is_block in
            subst (IsState H) is.is_state of_tree.state;
        together = λ m n a b h g.
            let one = held-tree m a h in
            let two = held-tree n b g in
            let on_one = one.is_held in
            let on_two = two.is_held in
            let u = one.world in
            let first = tree-of u (one.row).block one.block one.told on_one.is_block in
            let same : two.world ≡ u = same_Some two.world u (sym two.told ∙ one.told) in
            let second = tree-of u (two.row).block two.block one.told on_two.is_block in
            let is_b : u.state (two.row).block ≡ b = ap (λ (v : ToldWorld). v.state (two.row).block) (sym same) ∙ two.is_state in
            let both = sound-now u one.told in
            let sound = both.0 in
            clear-among H (a ∷ b ∷ []) (states_of u) (λ s h. ⊎_elim
            (λ is. subst (Contains (states_of u)) (one.is_state ∙ is) first.listed)
            (λ later. ⊎_elim (λ is. subst (Contains (states_of u)) (is_b ∙ is) second.listed) (λ none. absurd (Contains-nil s none)) (Contains-cases b [] s later))
            (Contains-cases a (b ∷ []) s h)) sound.clear;
      }

      -- faces that were found are those of the live pins' states
      pub faces-now : (hashes : List Hash256) (found : List (Option FaceView)) → AreSeen held H start es hashes found → AreHeldFaces H ms ns hashes found
      faces-now hashes found are n t h i s inside at =
          let is = held-tree n t h in
          let on = is.is_held in
          let u = is.world in
          let both = sound-now u is.told in
          let sound = both.0 in
          let of_tree = tree-of u (is.row).block is.block is.told on.is_block in
          let seen_all : found ≡ map (seen H u) hashes = by (told_start held start) u is.told are in
          let listed : Contains (states_of u) t = subst (Contains (states_of u)) is.is_state of_tree.listed in
          let cell = cell_is_held H u sound.clear s (flat_map-listed (states_of u) t s listed inside) in
          ap (λ (xs : List (Option FaceView)). slice_get xs i) seen_all ∙ slice_get-map (seen H u) hashes i ∙ ap (option_map (seen H u)) at
          ∙ ap {B = Option (Option FaceView)} (λ o. Some (option_map (face_of H) o)) cell
        where
          by : (o : Option ToldWorld) (u : ToldWorld) → option_map (λ v. told_replay H v es) o ≡ Some u → IfSome o (λ t. found ≡ map (seen H (told_replay H t es)) hashes) → found ≡ map (seen H u) hashes
          by None u is e = absurd (none-some u is)
          by (Some t) u is e = e ∙ ap (λ v. map (seen H v) hashes) (same_Some (told_replay H t es) u is)

      -- a pin more
      pub adds-pin : (who : Who) (id : BlockId) (pinned : Pinned) → who.worker ≡ worker → IsPinOf held H start es id pinned
          → Follows H w (entry_of {H = X} who (Pin id) (reply.Pinned pinned.pin)) → AddsPin H ns (named_by H held worker start (es ++ entry_of who (Pin id) (reply.Pinned pinned.pin) ∷ [])) pinned
      adds-pin who id pinned whose of_pin follows =
          let d = of_pin.0 in
          let kept = of_pin.1 in
          let writable = core.writable in
          let there = kept-there w id d kept in
          let number : pinned.pin ≡ w.next = pinned-same pinned.pin w.next (replied worker H w (entry_of who (Pin id) (reply.Pinned pinned.pin)) follows refl) in
          let fit = All-contains IsDescrFit w.blocks d writable.fit (find-contains (has_id id) w.blocks d there) in
          record {
            tree = option_map (λ u. u.state id) (told_now start es);
            added = named_from-append start.world.value (told_start held start) es (entry_of who (Pin id) (reply.Pinned pinned.pin) ∷ [])
                ∙ ap (λ (ms : List Named). ns ++ ms) (named-one d kept of_pin.2);
            fresh = tracks.fresh pinned.pin (omega (arith, number));
            plain = subst IsPlain (sym of_pin.2) (record { mask = refl; hashes = refl; depths = refl; shallow = fit.depth });
            state = by d there (told_now start es) refl of_pin.2;
          }
        where
          pinned-same : (m n : ℕ) → reply.Pinned m ≡ reply.Pinned n → m ≡ n
          pinned-same m n e = cc e

          named-one : (d : Descr) → kept_at w id ≡ Some d → pinned.root ≡ root_info d
              → cond (nat_eq who.worker worker) (naming w (told_now start es) pinned.pin id) [] ++ [] ≡ (record { number = pinned.pin; root = pinned.root; tree = option_map (λ u. u.state id) (told_now start es) }) ∷ []
          named-one d kept root =
              ap (λ b. cond b (naming w (told_now start es) pinned.pin id) [] ++ []) ((Decides-eqb who.worker worker).1 whose)
              ∙ ap (λ (o : Option Descr). map (λ (x : Descr). let m : Named = record { number = pinned.pin; root = root_info x; tree = option_map (λ u. u.state id) (told_now start es) } in m) (option_to_list o) ++ []) kept
              ∙ ap (λ (r : ChildInfo). (let m : Named = record { number = pinned.pin; root = r; tree = option_map (λ u. u.state id) (told_now start es) } in m) ∷ []) (sym root)

          by : (d : Descr) → block_at w id ≡ Some d → (o : Option ToldWorld) → told_now start es ≡ o → pinned.root ≡ root_info d → IfSome (option_map (λ u. u.state id) o) (λ t. IsState H t × (info_of H t ≡ pinned.root))
          by d there None at root = tt
          by d there (Some u) at root = let of_tree = tree-of u id d at there in (of_tree.state, of_tree.root ∙ sym root)

      -- and so a pinning names it, where it is answered
      pub pin-named : (start' : CoreStart K) (es' : List (Entry X)) (who : Who) (id : BlockId) (answer : Result Pinned PinFault) → who.worker ≡ worker → start' ≡ start → es' ≡ es ++ entries_of who (Pin id) (pin_reply answer)
          → IfSome (pin_reply answer) (λ r. Follows H w (entry_of {H = X} who (Pin id) r)) → IfOk answer (IsPinOf held H start es id)
          → MatchResult answer (AddsPin H ns (named_by H held worker start' es')) (λ _. named_by H held worker start' es' ≡ ns)
      pin-named start' es' who id (Ok pinned) whose same entry follows of_pin =
          subst (λ (ms : List Named). AddsPin H ns ms pinned) (sym (ap₂ (λ (s : CoreStart K) (fs : List (Entry X)). named_by H held worker s fs) same entry)) (adds-pin who id pinned whose of_pin follows)
      pin-named start' es' who id (Err fault) whose same entry follows of_pin =
          named-kept start start' es es' who (Pin id) (pin_reply (Err fault)) same entry (λ v t r e. refused-names worker H {X = X} v t (Pin id) r (refused-is (pin_refusal fault) r e))
