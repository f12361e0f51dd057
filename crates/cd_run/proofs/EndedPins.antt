-- Where the keeper fails none of its entries, a task leaves no pin live, and so do all tasks of a feed.
use Rattle.std.proofs.Common.{◌≡◌, ℕ, ◌+◌, ◌<◌, ◌==◌, Bool, true, false, cond, not, ◌&&◌, ◌||◌, List, [], ◌∷◌, ◌++◌, length, fold, filter, slice_get, Option, Some, None, refl, sym, ap, subst, ◌∙◌, ne_eqb}
use Rattle.std.proofs.lemmas.Bool.{true≢false}
use Rattle.std.proofs.lemmas.List.Elements.{filter-append}
use Rattle.std.proofs.lemmas.List.Sums.{fold-append}
use Rattle.std.proofs.lemmas.Option.{none-some}
use Rattle.cd_base.specs.declared.hash.Hash256.{Hash256}
use Rattle.cd_block.specs.declared.block.BlockId.{BlockId}
use Rattle.cd_cell.specs.PreparedView.{PreparedView}
use Rattle.cd_cell.specs.Tree.{Tree}
use Rattle.cd_event.specs.declared.names.Who.{Who}
use Rattle.cd_event.specs.declared.entry.Entry.{Entry}
use Rattle.cd_event.specs.declared.entry.Reply.TheVariants as reply
use Rattle.cd_event.specs.declared.event.Event.TheVariants as event
use Rattle.cd_event.specs.declared.refusal.Refusal.{Refusal}
use Rattle.cd_event.specs.Looks.{looks, failed_look}
use Rattle.cd_event.specs.Pins.{Named, is_live, live_after}
use Rattle.cd_event.specs.Replies.{entry_of}
use Rattle.cd_event.specs.Turning.{is_keeper}
use Rattle.cd_feed.specs.declared.feed.Phase.{Phase}
use Rattle.cd_feed.specs.declared.feed.Task.{Task}
use Rattle.cd_feed.specs.declared.feed.Task.TheVariants as task
use Rattle.cd_run.specs.declared.outcome.Outcome.{Outcome}
use Rattle.cd_run.specs.declared.outcome.TaskRefusal.{TaskRefusal}
use Rattle.cd_run.specs.Runs.{ZeroRun, ExpireRun, UnmergedRun, BlockRun, UnjoinedRun, MergedRun, LooksRun, PinRun, IsFewFor, IsAnyNumber, TaskEvents, both_looks, has_failed, pinned_as, not_pinned, unpinned_as, zero_unprepared, zero_stored, zero_refused, expired, expire_refused, old_unseen, unprepared, unmerged, block_unread, parent_not_pinned, block_stored, block_refused, left_unseen, right_unseen, not_joined, join_refused, merged_unread, left_not_pinned, right_not_pinned, merged_stored, merged_refused, looked, look_failed, block_not_pinned, let_go}
use Rattle.cd_run.specs.Finds.{ReadFinds, SliceFinds, ServeFinds}
use Rattle.cd_run.specs.Covers.{name, of_worker, WorkerEvents, PartEvents, CutByPhases}
use Rattle.cd_run.proofs.Lists.{filter-none, All-map, get-below}
use Rattle.cd_run.proofs.StageLaws.{failed_both, failed_last}

-- ---- tests

and_true : (b : Bool) → (b && true) ≡ b
and_true true = refl
and_true false = refl

first_off : (a b : Bool) → (a || b) ≡ false → a ≡ false
first_off true b e = e
first_off false b e = refl

last_off : (a b : Bool) → (a || b) ≡ false → b ≡ false
last_off true b e = cc
last_off false b e = e

-- a pin that was given, and then ended
one_off : (p : Bool) → ((p || false) && not p) ≡ false
one_off true = refl
one_off false = refl

merged_off : (p : Bool) → ((p || false) && not (p || false)) ≡ false
merged_off true = refl
merged_off false = refl

kept_off : (p : Bool) → (((p || false) && true) && not p) ≡ false
kept_off true = refl
kept_off false = refl

-- two of them
both_off : (p q : Bool) → ((q || ((p || false) && true)) && not (p || q)) ≡ false
both_off true true = refl
both_off true false = refl
both_off false true = refl
both_off false false = refl

each_off : (p q : Bool) → (((q || ((p || false) && true)) && not p) && not q) ≡ false
each_off true true = refl
each_off true false = refl
each_off false true = refl
each_off false false = refl

-- ---- no entry failed

module _ {H : Type 0} where
  none_failed : (es fs : List (Entry H)) → es ≡ fs → has_failed es ≡ false → has_failed fs ≡ false
  none_failed es fs is good = ap has_failed (sym is) ∙ good

  never : (es fs : List (Entry H)) (A : Type 0) → es ≡ fs → has_failed fs ≡ true → has_failed es ≡ false → A
  never es fs A is bad good = absurd (true≢false (sym bad ∙ none_failed es fs is good))

  first_part : (es fs : List (Entry H)) → has_failed (es ++ fs) ≡ false → has_failed es ≡ false
  first_part es fs good = first_off (has_failed es) (has_failed fs) (sym (failed_both es fs) ∙ good)

  last_part : (es fs : List (Entry H)) → has_failed (es ++ fs) ≡ false → has_failed fs ≡ false
  last_part es fs good = last_off (has_failed es) (has_failed fs) (sym (failed_both es fs) ∙ good)

  none_of_some : (p : Entry H → Bool) (es : List (Entry H)) → has_failed es ≡ false → has_failed (filter p es) ≡ false
  none_of_some p [] good = refl
  none_of_some p (e ∷ es) good = by (p e) (none_of_some p es (last_off (is_keeper (Some e.reply)) (has_failed es) good))
    where
      by : (b : Bool) → has_failed (filter p es) ≡ false → has_failed (cond b (e ∷ filter p es) (filter p es)) ≡ false
      by true rest = ap (λ c. c || has_failed (filter p es)) (first_off (is_keeper (Some e.reply)) (has_failed es) good) ∙ rest
      by false rest = rest

module _ (H : Type 0) (digest : List ℕ → Hash256) (n : ℕ) where
  -- entries that leave the pin of this number as it is
  abbrev Stays : List (Entry H) → Type 0
  Stays es = (b : Bool) → fold (live_after n) b es ≡ b

  stays_looks : (who : Who) (pin : ℕ) (asked : List ℕ) → Stays (looks who pin asked)
  stays_looks who pin [] b = refl
  stays_looks who pin (a ∷ as') b = ap (λ c. fold (live_after n) c (looks who pin as')) (and_true b) ∙ stays_looks who pin as' b

  stays_both : (es fs : List (Entry H)) → Stays es → Stays fs → Stays (es ++ fs)
  stays_both es fs first then b = fold-append (live_after n) b es fs ∙ ap (λ c. fold (live_after n) c fs) (first b) ∙ then b

  stays_refused : (who : Who) (pin : ℕ) (other : Option ℕ) (id : BlockId) (tops : List BlockId) (p : PreparedView) (r : Refusal) → Stays (entry_of who (event.Merge pin other id tops p) (reply.Refused r) ∷ [])
  stays_refused who pin other id tops p r b = and_true b

  stays_unmerged : (who : Who) (m : Named) (u : Tree) (id : BlockId) (tops : List BlockId) (es : List (Entry H)) (why : TaskRefusal) → UnmergedRun digest who m u id tops es why → has_failed es ≡ false → Stays es
  stays_unmerged who m u id tops es why (old_unseen asked last is a) good =
      never es (looks who m.number asked ++ failed_look who m.number last ∷ []) (Stays es) is (failed_last (looks who m.number asked) (failed_look who m.number last ∷ []) refl) good
  stays_unmerged who m u id tops es why (unprepared asked a is) good = subst Stays (sym is) (stays_looks who m.number asked)
  stays_unmerged who m u id tops es why (unmerged asked p r a is b) good =
      subst Stays (sym is) (stays_both (looks who m.number asked) (entry_of who (event.Merge m.number None id tops p) (reply.Refused r) ∷ []) (stays_looks who m.number asked) (stays_refused who m.number None id tops p r))

  stays_both_looks : (who : Who) (m k : Named) (left right : List ℕ) → Stays (both_looks who m k left right)
  stays_both_looks who m k left right = stays_both (looks who m.number left) (looks who k.number right) (stays_looks who m.number left) (stays_looks who k.number right)

  stays_unjoined : (who : Who) (m k : Named) (u : Tree) (id : BlockId) (tops : List BlockId) (es : List (Entry H)) (why : TaskRefusal) → UnjoinedRun digest who m k u id tops es why → has_failed es ≡ false → Stays es
  stays_unjoined who m k u id tops es why (left_unseen asked last is a) good =
      never es (looks who m.number asked ++ failed_look who m.number last ∷ []) (Stays es) is (failed_last (looks who m.number asked) (failed_look who m.number last ∷ []) refl) good
  stays_unjoined who m k u id tops es why (right_unseen left right last is a) good =
      never es (both_looks who m k left right ++ failed_look who k.number last ∷ []) (Stays es) is (failed_last (both_looks who m k left right) (failed_look who k.number last ∷ []) refl) good
  stays_unjoined who m k u id tops es why (not_joined left right a is) good = subst Stays (sym is) (stays_both_looks who m k left right)
  stays_unjoined who m k u id tops es why (join_refused left right p r a is b) good =
      subst Stays (sym is) (stays_both (both_looks who m k left right) (entry_of who (event.Merge m.number (Some k.number) id tops p) (reply.Refused r) ∷ []) (stays_both_looks who m k left right) (stays_refused who m.number (Some k.number) id tops p r))

  stays_looked : (Few : ℕ → Type 0) (Finds : Option Tree → Outcome → Type 0) (who : Who) (m : Named) (es : List (Entry H)) (end : Outcome) → LooksRun Few Finds who m es end → has_failed es ≡ false → Stays es
  stays_looked Few Finds who m es end (looked asked few finds is) good = subst Stays (sym is) (stays_looks who m.number asked)
  stays_looked Few Finds who m es end (look_failed asked last few is a) good =
      never es (looks who m.number asked ++ failed_look who m.number last ∷ []) (Stays es) is (failed_last (looks who m.number asked) (failed_look who m.number last ∷ []) refl) good

  -- behind such entries come the last ones
  behind : (b : Bool) (rest last : List (Entry H)) → Stays rest → fold (live_after n) b last ≡ false → fold (live_after n) b (rest ++ last) ≡ false
  behind b rest last stays off = fold-append (live_after n) b rest last ∙ ap (λ c. fold (live_after n) c last) (stays b) ∙ off

  -- ---- tasks

  zero_ends : (who : Who) (id : BlockId) (tops : List BlockId) (bag : List ℕ) (es : List (Entry H)) (end : Outcome) → ZeroRun digest who id tops bag es end → is_live n es ≡ false
  zero_ends who id tops bag es end (zero_unprepared why a is c) = ap (is_live n) is
  zero_ends who id tops bag es end (zero_stored p a is c) = ap (is_live n) is
  zero_ends who id tops bag es end (zero_refused p r why a is c d) = ap (is_live n) is

  expire_ends : (who : Who) (id : BlockId) (es : List (Entry H)) (end : Outcome) → ExpireRun who id es end → is_live n es ≡ false
  expire_ends who id es end (expired gone is c) = ap (is_live n) is
  expire_ends who id es end (expire_refused r why is a b) = ap (is_live n) is

  block_ends : (pins : List Named) (who : Who) (id parent : BlockId) (tops : List BlockId) (bag : List ℕ) (es : List (Entry H)) (end : Outcome) → BlockRun digest pins who id parent tops bag es end → has_failed es ≡ false → is_live n es ≡ false
  block_ends pins who id parent tops bag es end (block_unread why a is c) good = ap (is_live n) is
  block_ends pins who id parent tops bag es end (parent_not_pinned u r why a is c d) good = ap (is_live n) is
  block_ends pins who id parent tops bag es end (block_stored u m rest a f run is) good =
      ap (is_live n) is ∙ ap (fold (live_after n) ((m.number == n) || false)) run.entries_are
      ∙ behind ((m.number == n) || false) (looks who m.number run.asked) (entry_of who (event.Merge m.number None id tops run.prepared) reply.Stored ∷ []) (stays_looks who m.number run.asked) (merged_off (m.number == n))
  block_ends pins who id parent tops bag es end (block_refused u m rest why None a f run is b) good =
      never es (pinned_as who parent m.number ∷ (rest ++ unpinned_as who m.number None ∷ [])) (is_live n es ≡ false) is (failed_last rest (unpinned_as who m.number None ∷ []) refl) good
  block_ends pins who id parent tops bag es end (block_refused u m rest why (Some collected) a f run is b) good =
      let last = unpinned_as who m.number (Some collected) ∷ [] in
      let fine = first_part rest last (none_failed es (pinned_as who parent m.number ∷ (rest ++ last)) is good) in
      ap (is_live n) is ∙ behind ((m.number == n) || false) rest last (stays_unmerged who m u id tops rest why run fine) (one_off (m.number == n))

  merged_ends : (pins : List Named) (who : Who) (id left right : BlockId) (tops : List BlockId) (bag : List ℕ) (es : List (Entry H)) (end : Outcome) → MergedRun digest pins who id left right tops bag es end → has_failed es ≡ false → is_live n es ≡ false
  merged_ends pins who id left right tops bag es end (merged_unread why a is c) good = ap (is_live n) is
  merged_ends pins who id left right tops bag es end (left_not_pinned u r why a is c d) good = ap (is_live n) is
  merged_ends pins who id left right tops bag es end (right_not_pinned u m r why None a f is b c) good =
      never es (pinned_as who left m.number ∷ (not_pinned who right r ∷ unpinned_as who m.number None ∷ [])) (is_live n es ≡ false) is (failed_last {H = H} (not_pinned who right r ∷ []) (unpinned_as who m.number None ∷ []) refl) good
  merged_ends pins who id left right tops bag es end (right_not_pinned u m r why (Some collected) a f is b c) good = ap (is_live n) is ∙ kept_off (m.number == n)
  merged_ends pins who id left right tops bag es end (merged_stored u m k rest a f g run is) good =
      ap (is_live n) is ∙ ap (fold (live_after n) ((k.number == n) || (((m.number == n) || false) && true))) run.entries_are
      ∙ behind ((k.number == n) || (((m.number == n) || false) && true)) (both_looks who m k run.left run.right) (entry_of who (event.Merge m.number (Some k.number) id tops run.prepared) reply.Stored ∷ [])
      (stays_both_looks who m k run.left run.right) (both_off (m.number == n) (k.number == n))
  merged_ends pins who id left right tops bag es end (merged_refused u m k rest why None second a f g run is b) good =
      never es (pinned_as who left m.number ∷ (pinned_as who right k.number ∷ (rest ++ unpinned_as who m.number None ∷ (unpinned_as who k.number second ∷ [])))) (is_live n es ≡ false) is
      (failed_last rest (unpinned_as who m.number None ∷ (unpinned_as who k.number second ∷ [])) refl) good
  merged_ends pins who id left right tops bag es end (merged_refused u m k rest why (Some collected) None a f g run is b) good =
      never es (pinned_as who left m.number ∷ (pinned_as who right k.number ∷ (rest ++ unpinned_as who m.number (Some collected) ∷ (unpinned_as who k.number None ∷ [])))) (is_live n es ≡ false) is
      (failed_last rest (unpinned_as who m.number (Some collected) ∷ (unpinned_as who k.number None ∷ [])) refl) good
  merged_ends pins who id left right tops bag es end (merged_refused u m k rest why (Some collected) (Some gone) a f g run is b) good =
      let last = unpinned_as who m.number (Some collected) ∷ (unpinned_as who k.number (Some gone) ∷ []) in
      let fine = first_part rest last (none_failed es (pinned_as who left m.number ∷ (pinned_as who right k.number ∷ (rest ++ last))) is good) in
      ap (is_live n) is ∙ behind ((k.number == n) || (((m.number == n) || false) && true)) rest last (stays_unjoined who m k u id tops rest why run fine) (each_off (m.number == n) (k.number == n))

  pin_ends : (Few : ℕ → Type 0) (Finds : Option Tree → Outcome → Type 0) (pins : List Named) (who : Who) (id : BlockId) (es : List (Entry H)) (end : Outcome) → PinRun Few Finds pins who id es end → has_failed es ≡ false → is_live n es ≡ false
  pin_ends Few Finds pins who id es end (block_not_pinned r why is a b) good = ap (is_live n) is
  pin_ends Few Finds pins who id es end (let_go m rest way None f run is a) good =
      never es (pinned_as who id m.number ∷ (rest ++ unpinned_as who m.number None ∷ [])) (is_live n es ≡ false) is (failed_last rest (unpinned_as who m.number None ∷ []) refl) good
  pin_ends Few Finds pins who id es end (let_go m rest way (Some collected) f run is a) good =
      let last = unpinned_as who m.number (Some collected) ∷ [] in
      let fine = first_part rest last (none_failed es (pinned_as who id m.number ∷ (rest ++ last)) is good) in
      ap (is_live n) is ∙ behind ((m.number == n) || false) rest last (stays_looked Few Finds who m rest way run fine) (one_off (m.number == n))

  pub task_ends : (pins : List Named) (who : Who) (job : Task) (es : List (Entry H)) → TaskEvents digest pins who job es → has_failed es ≡ false → is_live n es ≡ false
  task_ends pins who (task.Zero id tops bag) es (end, run) good = zero_ends who id tops bag es end run
  task_ends pins who (task.Block id parent tops bag) es (end, run) good = block_ends pins who id parent tops bag es end run good
  task_ends pins who (task.Expire id) es (end, run) good = expire_ends who id es end run
  task_ends pins who (task.Read id path) es (end, run) good = pin_ends (IsFewFor path) (ReadFinds digest path) pins who id es end run good
  task_ends pins who (task.Slice id max) es (end, run) good = pin_ends IsAnyNumber (SliceFinds digest max) pins who id es end run good
  task_ends pins who (task.Serve id max) es (end, run) good = pin_ends IsAnyNumber (ServeFinds digest) pins who id es end run good
  task_ends pins who (task.Merged id left right tops bag) es (end, run) good = merged_ends pins who id left right tops bag es end run good

  -- ---- all tasks of a worker, of a phase and of a feed

  worker_ends : (pins : List Named) (p w m : ℕ) (jobs : List Task) (es : List (Entry H)) → WorkerEvents digest pins p w m jobs es → has_failed es ≡ false → is_live n es ≡ false
  worker_ends pins p w m [] es is good = ap (is_live n) is
  worker_ends pins p w m (job ∷ jobs) es (xs, ys, events, rest, is) good =
      let fine = none_failed es (xs ++ ys) is good in
      ap (is_live n) is ∙ fold-append (live_after n) false xs ys ∙ ap (λ c. fold (live_after n) c ys) (task_ends pins (name p w m) job xs events (first_part xs ys fine))
      ∙ worker_ends pins p w (m + 1) jobs ys rest (last_part xs ys fine)

  part_ends : (pins : ℕ → List Named) (p : ℕ) (workers : List (List Task)) (part : List (Entry H)) → PartEvents digest pins p workers part → has_failed part ≡ false → (w : ℕ) → is_live n (of_worker w part) ≡ false
  part_ends pins p workers part of good w = by (slice_get workers w) refl
    where
      by : (o : Option (List Task)) → slice_get workers w ≡ o → is_live n (of_worker w part) ≡ false
      by (Some jobs) at = worker_ends (pins w) p w 0 jobs (of_worker w part) (of.each w jobs at) (none_of_some (λ e. e.who.worker == w) part good)
      by None at = ap (is_live n) (filter-none (λ e. e.who.worker == w) part (All-map (λ e. e.who.worker < length workers) (λ e. (e.who.worker == w) ≡ false) part
          (λ e lt. ne_eqb e.who.worker w (λ same. let found = get-below workers e.who.worker lt in none-some found.0 (sym at ∙ ap (slice_get workers) (sym same) ∙ found.1))) of.only))

  pub cut_ends : (pins : ℕ → List Named) (p : ℕ) (phases : List Phase) (journal : List (Entry H)) → CutByPhases digest pins p phases journal → has_failed journal ≡ false → (w : ℕ) → is_live n (of_worker w journal) ≡ false
  cut_ends pins p [] journal is good w = ap (λ l. is_live n (of_worker w l)) is
  cut_ends pins p (phase ∷ phases) journal (part, rest, events, cut, is) good w =
      let fine = none_failed journal (part ++ rest) is good in
      ap (λ l. is_live n (of_worker w l)) is ∙ ap (is_live n) (filter-append (λ e. e.who.worker == w) part rest)
      ∙ fold-append (live_after n) false (of_worker w part) (of_worker w rest) ∙ ap (λ c. fold (live_after n) c (of_worker w rest)) (part_ends pins p phase.workers part events (first_part part rest fine) w)
      ∙ cut_ends pins (p + 1) phases rest cut (last_part part rest fine) w
