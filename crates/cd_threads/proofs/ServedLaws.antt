-- What the lanes of a phase leave of the clients.
use Rattle.std.proofs.Common.{◌≡◌, ◌≢◌, ⊎_elim, inl, inr, ℕ, zero, suc, ◌+◌, ◌<◌, ◌≤◌, Bool, List, [], ◌∷◌, length, map, get_or, All, Option, Some, sym, ap, subst, ◌∙◌, arith}
use Rattle.std.specs.Prelude.{slice_get, slice_index_or, sum_by}
use Rattle.std.specs.List.{AllByRecursion}
use Rattle.std.specs.Option.{option_map}
use Rattle.std.proofs.lemmas.Bool.{cases_lt, cases_eq}
use Rattle.std.proofs.lemmas.List.Elements.{All-nil, All-map, All-get_or, All-from_recursion}
use Rattle.std.proofs.lemmas.List.{get_or_default}
use Rattle.std.proofs.lemmas.List.Sums.{sum_by-append}
use Rattle.std.proofs.lemmas.Option.{none-some, same_Some, slice_get-map, slice_get_within, slice_get-get_or}
use Rattle.cd_base.specs.declared.hash.Hash256.{Hash256}
use Rattle.cd_event.specs.declared.entry.Entry.{Entry}
use Rattle.cd_event.specs.Pins.{Named}
use Rattle.cd_fan.specs.Fans.{HaveGotBytes}
use Rattle.cd_feed.specs.declared.feed.Task.{Task}
use Rattle.cd_feed.specs.Feeds.{IsWorkerFit}
use Rattle.cd_run.specs.declared.outcome.Outcome.{Outcome}
use Rattle.cd_lanes.specs.Lanes.{serves, AreUnserved, IsServed, LeavesAll}
use Rattle.cd_lanes.specs.Left.{IsOneOf, LeftByOne, WorkerServed, serves_of}
use Rattle.cd_lanes.proofs.ClientLaws.{unserved_worker}
use Rattle.cd_lanes.proofs.LeftLaws.{sum_above}
use Rattle.cd_phases.specs.declared.lane.Lane.{Lane}
use Rattle.cd_phases.specs.Sides.{TasksRan, IsReady, LaneRan}
use Rattle.cd_threads.specs.Serving.{IsUnused, LaneDid, LaneServed}

pub head_of : {A : Type 0} → (xs : List A) → 0 < length xs → A
head_of [] some = absurd (omega arith)
head_of (x ∷ xs) some = x

-- where no end is told, one of the parts left them so all the same
pub untold : {X E C : Type 0} (Idle : E → Type 0) (Is : ℕ → X → E → List C → List C → Type 0) (parts : List X) (ends : List E) (old new : List C) → LeftByOne Idle Is parts ends old new → LeftByOne Idle Is parts [] old new
untold Idle Is parts ends old new left = ⊎_elim (λ (still : (new ≡ old) × All Idle ends). inl (still.0, All-nil Idle))
    (λ (s : IsOneOf Is parts ends old new). inr (record { place = s.place; part = s.part; at = s.at; end = s.end; ended = λ e at. absurd (none-some e at); is = s.is })) left

module _ {S V C : Type 0} {B : V → Type 0} (got : C → Option (List ℕ)) (steady : C → Bool) (digest : List ℕ → Hash256) (named : S → List Named) (workers : List (List Task)) where
  abbrev outcomes_of : Lane S V B → List Outcome
  outcomes_of l = l.outcomes.items

  -- by the pins of the workers
  pub served_whole : (pins : ℕ → List Named) (lanes : List (Lane S V B)) → ((k : ℕ) (d : Lane S V B) → k < length workers → named (slice_index_or lanes k d).seat ≡ pins k) → (any : Lane S V B)
      → (ends : List (List Outcome)) (old new : List C) → LeftByOne AreUnserved (LaneServed got steady digest named lanes) workers ends old new → LeftByOne AreUnserved (WorkerServed got steady digest pins) workers ends old new
  served_whole pins lanes same any ends old new left = ⊎_elim (λ (still : (new ≡ old) × All AreUnserved ends). inl still)
      (λ (s : IsOneOf (LaneServed got steady digest named lanes) workers ends old new). inr (record {
        place = s.place;
        part = s.part;
        at = s.at;
        end = s.end;
        ended = s.ended;
        is = subst (λ (l : List Named). IsServed got steady digest l s.part s.end old new) (same s.place any (slice_get_within workers s.place s.part s.at)) (s.is any);
      })) left

  module _ (clients : Lane S V B → List C) (server : ℕ) (others : (k : ℕ) → k < length workers → k ≢ server → serves (slice_index_or workers k []) ≡ 0) (began ended now : List (Lane S V B)) (beside : length now ≡ length workers)
      (served : (k : ℕ) (d : Lane S V B) → k < length workers → LeavesAll got steady digest (named (slice_index_or ended k d).seat) (slice_index_or workers k []) (outcomes_of (slice_index_or ended k d)) (clients (slice_index_or began k d)) (clients (slice_index_or ended k d)))
      (kept : (k : ℕ) (d : Lane S V B) → k < length workers → ((slice_index_or now k d).seat ≡ (slice_index_or ended k d).seat) × ((slice_index_or now k d).outcomes ≡ (slice_index_or ended k d).outcomes))
      (old new : List C) (given : (d : Lane S V B) → server < length workers → clients (slice_index_or began server d) ≡ old) (taken : (d : Lane S V B) → server < length workers → new ≡ clients (slice_index_or ended server d))
      (absent : length workers ≤ server → new ≡ old) where
    abbrev Served : ℕ → List Task → List Outcome → List C → List C → Type 0
    Served = LaneServed got steady digest named now

    abbrev ends : List (List Outcome)
    ends = map outcomes_of now

    outcomes_are : (k : ℕ) (d : Lane S V B) → k < length workers → outcomes_of (slice_index_or now k d) ≡ outcomes_of (slice_index_or ended k d)
    outcomes_are k d lt = ap (λ v. v.items) (kept k d lt).1

    -- no other worker has a serve
    unserved_at : (k : ℕ) (d : Lane S V B) → k < length workers → k ≢ server → AreUnserved (outcomes_of (slice_index_or now k d))
    unserved_at k d lt other = subst AreUnserved (sym (outcomes_are k d lt)) (⊎_elim
        (λ (still : (clients (slice_index_or ended k d) ≡ clients (slice_index_or began k d)) × AreUnserved (outcomes_of (slice_index_or ended k d))). still.1)
        (λ (s : IsServed got steady digest (named (slice_index_or ended k d).seat) (slice_index_or workers k []) (outcomes_of (slice_index_or ended k d)) (clients (slice_index_or began k d)) (clients (slice_index_or ended k d))).
        absurd (unserved_worker got steady digest (λ _. named (slice_index_or ended k d).seat) k (slice_index_or workers k []) (outcomes_of (slice_index_or ended k d)) (clients (slice_index_or began k d)) (clients (slice_index_or ended k d)) (others k lt other) s))
        (served k d lt))

    all_unserved : ((d : Lane S V B) → server < length workers → AreUnserved (outcomes_of (slice_index_or now server d))) → All AreUnserved ends
    all_unserved here = All-map AreUnserved outcomes_of now (λ k d lt.
        let within : k < length workers = omega (arith, beside, lt) in
        ⊎_elim (λ (same : k ≡ server). subst (λ n. AreUnserved (outcomes_of (slice_index_or now n d))) (sym same) (here d (subst (λ n. n < length workers) same within)))
        (λ (other : k ≢ server). unserved_at k d within other) (cases_eq k server))

    left_by : (any : Lane S V B) → server < length workers → LeftByOne AreUnserved Served workers ends old new
    left_by any lt = ⊎_elim
        (λ (still : (clients (slice_index_or ended server any) ≡ clients (slice_index_or began server any)) × AreUnserved (outcomes_of (slice_index_or ended server any))).
        inl (
          taken any lt ∙ still.0 ∙ given any lt,
          all_unserved (λ d in_range. subst AreUnserved (ap outcomes_of (get_or_default now server any d (omega (arith, beside, lt)))) (subst AreUnserved (sym (outcomes_are server any lt)) still.1)),
        ))
        (λ (s : IsServed got steady digest (named (slice_index_or ended server any).seat) (slice_index_or workers server []) (outcomes_of (slice_index_or ended server any)) (clients (slice_index_or began server any)) (clients (slice_index_or ended server any))).
        inr (record {
          place = server;
          part = slice_index_or workers server [];
          at = slice_get-get_or workers server [] lt;
          end = outcomes_of (slice_index_or now server any);
          ended = λ e at. sym (same_Some (outcomes_of (slice_index_or now server any)) e (sym here ∙ at));
          is = λ d. subst (λ (l : Lane S V B). IsServed got steady digest (named l.seat) (slice_index_or workers server []) (outcomes_of (slice_index_or now server any)) old new)
              (get_or_default now server any d (omega (arith, beside, lt))) (lane_served s);
        }))
        (served server any lt)
      where
        here : slice_get ends server ≡ Some (outcomes_of (slice_index_or now server any))
        here = slice_get-map outcomes_of now server ∙ ap (option_map outcomes_of) (slice_get-get_or now server any (omega (arith, beside, lt)))

        lane_served : IsServed got steady digest (named (slice_index_or ended server any).seat) (slice_index_or workers server []) (outcomes_of (slice_index_or ended server any)) (clients (slice_index_or began server any)) (clients (slice_index_or ended server any))
            → IsServed got steady digest (named (slice_index_or now server any).seat) (slice_index_or workers server []) (outcomes_of (slice_index_or now server any)) old new
        lane_served s = subst (λ (t : S). IsServed got steady digest (named t) (slice_index_or workers server []) (outcomes_of (slice_index_or now server any)) old new) (sym (kept server any lt).0)
            (subst (λ (es : List Outcome). IsServed got steady digest (named (slice_index_or ended server any).seat) (slice_index_or workers server []) es old new) (sym (outcomes_are server any lt))
            (subst (λ (cs : List C). IsServed got steady digest (named (slice_index_or ended server any).seat) (slice_index_or workers server []) (outcomes_of (slice_index_or ended server any)) cs new) (given any lt)
            (subst (λ (cs : List C). IsServed got steady digest (named (slice_index_or ended server any).seat) (slice_index_or workers server []) (outcomes_of (slice_index_or ended server any)) (clients (slice_index_or began server any)) cs) (sym (taken any lt)) s)))

    lanes_left : (any : Lane S V B) → LeftByOne AreUnserved Served workers ends old new
    lanes_left any = ⊎_elim (λ (lt : server < length workers). left_by any lt)
        (λ (le : length workers ≤ server). inl (absent le, all_unserved (λ d lt. absurd (omega (arith, lt, le))))) (cases_lt server (length workers))

    -- without a serve nothing is touched
    lanes_untouched : (any : Lane S V B) → ((k : ℕ) (d : Lane S V B) → k < length workers → serves (slice_index_or workers k []) ≡ 0 → clients (slice_index_or ended k d) ≡ clients (slice_index_or began k d)) → serves_of workers ≡ 0 → new ≡ old
    lanes_untouched any still none = ⊎_elim
        (λ (lt : server < length workers).
        let above = sum_above serves workers server (slice_index_or workers server []) (slice_get-get_or workers server [] lt) in
        taken any lt ∙ still server any lt (omega (arith, above, none)) ∙ given any lt)
        absent (cases_lt server (length workers))

-- ---- one lane, whose clients are exchanged before its worker begins and after it ended

module _ {S V : Type 0} {B : V → Type 0} (k : ℕ) (jobs : List Task) (a began ended b : Lane S V B) (put : began ≡ record a { clients = began.clients }) where
  lane_did : {H : Type 0} (digest : List ℕ → Hash256) (worker faults : S → ℕ) (made : S → List (Entry H)) (goes : S → S → Type 0) (named : S → List Named) (phase : ℕ) → b ≡ record ended { clients = b.clients } → a.worker ≡ k
      → TasksRan digest worker faults made goes named ended.memory phase began.worker jobs ended.outcomes.items began.seat ended.seat → LaneDid digest worker faults made goes named phase k jobs a b
  lane_did digest worker faults made goes named phase taken place ran =
      subst (λ (l : Lane S V B). TasksRan digest worker faults made goes named l.memory phase k jobs l.outcomes.items a.seat l.seat) (sym taken)
      (subst (λ (n : ℕ). TasksRan digest worker faults made goes named ended.memory phase n jobs ended.outcomes.items a.seat ended.seat) place
      (subst (λ (l : Lane S V B). TasksRan digest worker faults made goes named ended.memory phase l.worker jobs ended.outcomes.items l.seat ended.seat) put ran))

  lane_ready : {C : Type 0} (worker : S → ℕ) (clients : Lane S V B → List C) (got : C → Option (List ℕ)) → IsUnused worker k a → IsWorkerFit jobs → serves jobs ≤ 1 → (1 ≤ serves jobs → HaveGotBytes got 0 (clients began)) → IsReady worker clients got jobs began
  lane_ready worker clients got unused fit one fresh = record {
    fit = fit;
    one = one;
    its_worker = ap (λ (l : Lane S V B). worker l.seat) put ∙ unused.its_worker ∙ sym (ap (λ (l : Lane S V B). l.worker) put ∙ unused.place);
    no_ends = ap (λ (l : Lane S V B). l.outcomes.items) put ∙ unused.no_ends;
    no_want = ap (λ (l : Lane S V B). l.memory) put ∙ unused.no_want;
    fresh = fresh;
  }

-- ---- the worker with a serve

-- a sum is no less than any two of its parts
two_above : {X : Type 0} (f : X → ℕ) (xs : List X) (i j : ℕ) (d : X) → i < j → j < length xs → f (get_or xs i d) + f (get_or xs j d) ≤ sum_by f xs
two_above f [] i j d lt within = absurd (omega arith)
two_above f (x ∷ xs) i zero d lt within = absurd (omega arith)
two_above f (x ∷ xs) zero (suc j) d lt within =
    let above = sum_above f xs j (get_or xs j d) (slice_get-get_or xs j d (omega arith)) in
    omega (arith, sum_by-append f (x ∷ []) xs, above)
two_above f (x ∷ xs) (suc i) (suc j) d lt within =
    let above = two_above f xs i j d (omega arith) (omega arith) in
    omega (arith, sum_by-append f (x ∷ []) xs, above)

n_below : (n k : ℕ) → n ≤ k → k ≢ n → n < k
n_below n k le other = grind arith

-- where one has a serve, and none before it, no other has one
pub no_other : (workers : List (List Task)) (n k : ℕ) → serves_of workers ≤ 1 → 1 ≤ serves (slice_index_or workers n []) → n < length workers
    → ((i : ℕ) → i < n → serves (slice_index_or workers i []) ≡ 0) → k < length workers → k ≢ n → serves (slice_index_or workers k []) ≡ 0
no_other workers n k one has lt none within other = ⊎_elim (λ (low : k < n). none k low)
    (λ (high : n ≤ k). let two = two_above serves workers n k [] (n_below n k high other) within in omega (arith, two, has, one)) (cases_lt k n)

-- ---- all lanes

-- one of some lanes, if it is there, was given other clients, and those that it had were taken out
pub record Swapped {S V C : Type 0} {B : V → Type 0} (clients : Lane S V B → List C) (server : ℕ) (old new : List (Lane S V B)) (put out : List C) : Type 0 where
  pub count : length new ≡ length old
  pub same : (k : ℕ) (d : Lane S V B) → k < length old → slice_index_or new k d ≡ record (slice_index_or old k d) { clients = (slice_index_or new k d).clients }
  pub given : (d : Lane S V B) → server < length old → clients (slice_index_or new server d) ≡ put
  pub taken : (d : Lane S V B) → server < length old → out ≡ clients (slice_index_or old server d)
  pub absent : length old ≤ server → out ≡ put

module _ {S V C : Type 0} {B : V → Type 0} (clients : Lane S V B → List C) (got : C → Option (List ℕ)) (workers : List (List Task)) (server : ℕ) (others : (k : ℕ) → k < length workers → k ≢ server → serves (slice_index_or workers k []) ≡ 0)
    (before began : List (Lane S V B)) (old mid : List C) (first : Swapped clients server before began old mid) (one_each : length before ≡ length workers) where
  pub ready : (worker : S → ℕ) → AllByRecursion IsWorkerFit workers → serves_of workers ≤ 1 → (1 ≤ serves_of workers → HaveGotBytes got 0 old) → ((k : ℕ) (d : Lane S V B) → k < length before → IsUnused worker k (slice_index_or before k d))
      → (k : ℕ) (d : Lane S V B) → k < length began → IsReady worker clients got (slice_index_or workers k []) (slice_index_or began k d)
  ready worker fit one fresh unused k d lt =
      let had : k < length before = omega (arith, first.count, lt) in
      let within : k < length workers = omega (arith, one_each, had) in
      let above = sum_above serves workers k (slice_index_or workers k []) (slice_get-get_or workers k [] within) in
      lane_ready k (slice_index_or workers k []) (slice_index_or before k d) (slice_index_or began k d) (slice_index_or began k d) (slice_index_or began k d) (first.same k d had) worker clients got (unused k d had)
      (All-get_or IsWorkerFit workers k [] within (All-from_recursion IsWorkerFit workers fit)) (omega (arith, above, one))
      (λ some. ⊎_elim
      (λ (is : k ≡ server). subst (λ (n : ℕ). HaveGotBytes got 0 (clients (slice_index_or began n d))) (sym is) (subst (HaveGotBytes got 0) (sym (first.given d (subst (λ n. n < length before) is had))) (fresh (omega (arith, above, some)))))
      (λ (other : k ≢ server). absurd (omega (arith, some, others k within other)))
      (cases_eq k server))

  module _ {H : Type 0} (steady : C → Bool) (digest : List ℕ → Hash256) (worker faults : S → ℕ) (made : S → List (Entry H)) (goes : S → S → Type 0) (named : S → List Named) (phase : ℕ) (ended now : List (Lane S V B)) (new : List C) (second : Swapped clients server ended now mid new)
      (beside : length ended ≡ length began) (ran : (k : ℕ) (d : Lane S V B) → k < length began → LaneRan digest worker faults made goes named clients got steady phase (slice_index_or workers k []) (slice_index_or began k d) (slice_index_or ended k d)) where
    counts : (length ended ≡ length workers) × (length now ≡ length workers) × (length began ≡ length workers)
    counts = (beside ∙ first.count ∙ one_each, second.count ∙ beside ∙ first.count ∙ one_each, first.count ∙ one_each)

    pub did : (k : ℕ) (d : Lane S V B) → k < length before → (let l = slice_index_or before k d in l.worker) ≡ k → LaneDid digest worker faults made goes named phase k (slice_index_or workers k []) (slice_index_or before k d) (slice_index_or now k d)
    did k d lt place = lane_did k (slice_index_or workers k []) (slice_index_or before k d) (slice_index_or began k d) (slice_index_or ended k d) (slice_index_or now k d) (first.same k d lt) digest worker faults made goes named phase
        (second.same k d (omega (arith, counts.0, one_each, lt))) place (let r = ran k d (omega (arith, first.count, lt)) in r.ran)

    kept : (k : ℕ) (d : Lane S V B) → k < length workers → ((slice_index_or now k d).seat ≡ (slice_index_or ended k d).seat) × ((slice_index_or now k d).outcomes ≡ (slice_index_or ended k d).outcomes)
    kept k d lt = let is = second.same k d (omega (arith, counts.0, lt)) in (ap (λ (l : Lane S V B). l.seat) is, ap (λ (l : Lane S V B). l.outcomes) is)

    pub left : Lane S V B → LeftByOne AreUnserved (LaneServed got steady digest named now) workers (map (λ l. l.outcomes.items) now) old new
    left any = lanes_left got steady digest named workers clients server others began ended now counts.1 (λ k d lt. let r = ran k d (omega (arith, counts.2, lt)) in r.served) kept old new
        (λ d lt. first.given d (omega (arith, one_each, lt))) (λ d lt. second.taken d (omega (arith, counts.0, lt))) (λ le. second.absent (omega (arith, counts.0, le)) ∙ first.absent (omega (arith, one_each, le))) any

    pub untouched : Lane S V B → serves_of workers ≡ 0 → new ≡ old
    untouched any none = lanes_untouched got steady digest named workers clients server others began ended now counts.1 (λ k d lt. let r = ran k d (omega (arith, counts.2, lt)) in r.served) kept old new
        (λ d lt. first.given d (omega (arith, one_each, lt))) (λ d lt. second.taken d (omega (arith, counts.0, lt))) (λ le. second.absent (omega (arith, counts.0, le)) ∙ first.absent (omega (arith, one_each, le)))
        any (λ k d lt. let r = ran k d (omega (arith, counts.2, lt)) in r.untouched) none
