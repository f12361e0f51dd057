-- A feed that is read is spelled so, and what is spelled so is read.
use Rattle.std.proofs.Common.{◌≡◌, ℕ, zero, suc, ◌+◌, ◌-◌, ◌*◌, ◌^◌, ◌<◌, ◌≤◌, Bool, true, false, cond, eqb, List, [], ◌∷◌, ◌++◌, length, subst, Result, Ok, Err, refl, sym, ap, ◌∙◌, append_assoc, arith}
use Rattle.std.specs.List.{flat_map, sum_by, AllByRecursion}
use Rattle.std.proofs.lemmas.Bool.{eqb-true}
use Rattle.std.proofs.lemmas.List.{append-nil, nil_from_length}
use Rattle.std.proofs.lemmas.List.Concat.{flat_map-cons}
use Rattle.std.proofs.lemmas.List.Sums.{sum_by-cons}
use Rattle.cd_base.specs.Numbers.{IsBytes, big}
use Rattle.std.specs.Prelude.{IfOk}
use Rattle.cd_base.specs.Reading.{number_at, require, GivesUnless}
use Rattle.cd_base.proofs.ReadingLaws.{by_ok, by_test, ok_is, kept_by_test, Takes, Takes-none, Takes-then, Takes-same, number_takes, number_again}
use Rattle.cd_feed.specs.declared.feed.Task.{Task}
use Rattle.cd_feed.specs.declared.feed.Phase.{Phase}
use Rattle.cd_feed.specs.declared.feed.Feed.{Feed}
use Rattle.cd_feed.specs.declared.feed_fault.FeedFault.{FeedFault}
use Rattle.cd_feed.specs.declared.feed_fault.FeedFault.TheVariants.{Magic, Cut, Limit, Extra, Memory, Task as TaskFault}
use Rattle.cd_feed.specs.Feeds.{task_text, worker_text, phase_text, feed_text, IsTask, IsTaskFit, IsWorkerFit, IsPhase, IsPhaseFit, IsFeed, IsFeedFit, worker_serves, phase_serves, feed_serves}
use Rattle.cd_feed.specs.FeedReading.{Rest, each_from, limited_at, task_at, tasks_at, worker_at, workers_at, phase_at, phases_at, feed_in}
use Rattle.cd_feed.proofs.FieldLaws.{within_takes, within_again}
use Rattle.cd_feed.proofs.TaskLaws.{bit, served_after, Reads, IsGoodTask, task_serves, task_takes, task_again}

-- ---- facts of each value, two at a time

both_parts : {X : Type 0} (P Q : X → Type 0) (xs : List X) → AllByRecursion (λ x. P x × Q x) xs → AllByRecursion P xs × AllByRecursion Q xs
both_parts P Q [] h = (tt, tt)
both_parts P Q (x ∷ xs) h = let t = both_parts P Q xs h.1 in ((h.0.0, t.0), (h.0.1, t.1))

both_from : {X : Type 0} (P Q : X → Type 0) (xs : List X) → AllByRecursion P xs → AllByRecursion Q xs → AllByRecursion (λ x. P x × Q x) xs
both_from P Q [] p q = tt
both_from P Q (x ∷ xs) p q = ((p.0, q.0), both_from P Q xs p.1 q.1)

-- ---- how Serves add up

bit_after : (served : Bool) (n : ℕ) → bit served + n ≤ 1 → bit (served_after served n) ≡ bit served + n
unfolding bit served_after
bit_after served zero le = omega arith
bit_after true (suc n) le = absurd (omega arith)
bit_after false (suc n) le = omega arith

after_true : (n : ℕ) → served_after true n ≡ true
unfolding served_after
after_true zero = refl
after_true (suc n) = refl

after_both : (served : Bool) (a b : ℕ) → served_after (served_after served a) b ≡ served_after served (a + b)
unfolding served_after
after_both served zero b = let same : 0 + b ≡ b = omega arith in rw same refl
after_both served (suc a) b = let some : suc a + b ≡ suc (a + b) = omega arith in rw some (after_true b)

-- ---- values one behind another

module _ {X : Type 0} (one : ℕ → Rest → Result (X × Rest) FeedFault) (text : X → List ℕ) (serves : X → ℕ) (P : X → Type 0) where
  abbrev pub ReadsAll : Rest → ℕ → List X × Rest → Type 0
  ReadsAll before count x = Reads (flat_map text) (sum_by serves) (AllByRecursion P) before x.0 x.1 × (length x.0 ≡ count)

  pub from_takes : ((i : ℕ) (before : Rest) (x : X × Rest) → IsBytes before.bytes → one i before ≡ Ok x → Reads text serves P before x.0 x.1)
      → (count i : ℕ) (before : Rest) (x : List X × Rest) → IsBytes before.bytes → each_from one i count before ≡ Ok x → ReadsAll before count x
  unfolding each_from
  from_takes step zero i before x fits e =
      subst (ReadsAll before 0) (ok_is ([], before) x e)
      (record { takes = Takes-none before.bytes fits; served = omega arith; holds = tt }, refl)
  from_takes step (suc count) i before x fits e =
      by_ok (one i before) _ x e (λ first e0 k0.
      by_ok (each_from one (i + 1) count first.1) _ x k0 (λ others e1 k1.
      let t = step i before first fits e0 in
      let o = from_takes step count (i + 1) first.1 others t.takes.rest_fits e1 in
      let both = Takes-then before.bytes (text first.0) first.1.bytes (flat_map text others.0) others.1.bytes t.takes o.0.takes in
      subst (ReadsAll before (suc count)) (ok_is (first.0 ∷ others.0, others.1) x k1) (
        record {
          takes = rw flat_map-cons both;
          served = rw (sum_by-cons serves first.0 others.0) (omega (arith, t.served, o.0.served));
          holds = (t.holds, o.0.holds);
        },
        ap suc o.1,
      )))

  pub from_again : ((i : ℕ) (served : Bool) (x : X) (rest : List ℕ) → P x → bit served + serves x ≤ 1
      → one i (record { served = served; bytes = text x ++ rest }) ≡ Ok (x, record { served = served_after served (serves x); bytes = rest }))
      → (xs : List X) (i : ℕ) (served : Bool) (rest : List ℕ) → AllByRecursion P xs → bit served + sum_by serves xs ≤ 1
      → each_from one i (length xs) (record { served = served; bytes = flat_map text xs ++ rest }) ≡ Ok (xs, record { served = served_after served (sum_by serves xs); bytes = rest })
  unfolding each_from served_after
  from_again step [] i served rest fit once = refl
  from_again step (x ∷ xs) i served rest fit once =
      let sum : sum_by serves (x ∷ xs) ≡ serves x + sum_by serves xs = sum_by-cons serves x xs in
      let regrouped : flat_map text (x ∷ xs) ++ rest ≡ text x ++ (flat_map text xs ++ rest) = ap (λ (w : List ℕ). w ++ rest) (flat_map-cons text x xs) ∙ append_assoc (text x) (flat_map text xs) rest in
      let here : bit served + serves x ≤ 1 = omega (arith, sum, once) in
      let there : bit (served_after served (serves x)) + sum_by serves xs ≤ 1 = omega (arith, sum, once, bit_after served (serves x) here) in
      ap (λ (w : List ℕ). each_from one i (suc (length xs)) (record { served = served; bytes = w })) regrouped
      ∙ rw (step i served x (flat_map text xs ++ rest) fit.0 here, from_again step xs (i + 1) (served_after served (serves x)) rest fit.1 there, sum) (ap (λ after. Ok (x ∷ xs, record { served = after; bytes = rest })) (after_both served (serves x) (sum_by serves xs)))

-- ---- workers

abbrev IsGoodWorker : List Task → Type 0
IsGoodWorker tasks = AllByRecursion IsTask tasks × IsWorkerFit tasks

worker_takes : (total phase worker : ℕ) (before : Rest) (x : List Task × Rest) → IsBytes before.bytes → worker_at total phase worker before ≡ Ok x
    → Reads worker_text worker_serves IsGoodWorker before x.0 x.1
unfolding worker_at worker_text worker_serves
worker_takes total phase worker before x fits e =
    by_ok (limited_at total 2 0 4096 before.bytes) _ x e (λ count e0 k0.
    let t = within_takes (Cut total) _ 2 0 4096 before.bytes count fits e0 in
    let o = from_takes (λ task. task_at total (TaskFault phase worker task)) task_text task_serves IsGoodTask (λ task. task_takes total (TaskFault phase worker task))
    count.0 0 (record { served = before.served; bytes = count.1 }) x t.0.rest_fits k0 in
    let number = Takes-same before.bytes (big 2 count.0) (big 2 (length x.0)) count.1 (ap (big 2) (sym o.1)) t.0 in
    let parts = both_parts IsTask IsTaskFit x.0 o.0.holds in
    record {
      takes = Takes-then before.bytes (big 2 (length x.0)) count.1 (flat_map task_text x.0) x.1.bytes number o.0.takes;
      served = o.0.served;
      holds = (parts.0, record { few = omega (arith, o.1, t.2); tasks = parts.1 });
    })

worker_again : (total phase worker : ℕ) (served : Bool) (tasks : List Task) (rest : List ℕ) → IsGoodWorker tasks → bit served + worker_serves tasks ≤ 1
    → worker_at total phase worker (record { served = served; bytes = worker_text tasks ++ rest }) ≡ Ok (tasks, record { served = served_after served (worker_serves tasks); bytes = rest })
unfolding worker_at worker_text worker_serves
worker_again total phase worker served tasks rest good once =
    rw (
      append_assoc (big 2 (length tasks)) (flat_map task_text tasks) rest,
      within_again (Cut total) (Limit (total - length (big 2 (length tasks) ++ (flat_map task_text tasks ++ rest)))) 2 0 4096 (length tasks) (flat_map task_text tasks ++ rest) (omega (arith, good.1.few)) (omega arith) good.1.few,
    )
    (from_again (λ task. task_at total (TaskFault phase worker task)) task_text task_serves IsGoodTask
    (λ task seen x behind holds le. task_again x total (TaskFault phase worker task) seen behind holds.0 holds.1 le)
    tasks 0 served rest (both_from IsTask IsTaskFit tasks good.0 good.1.tasks) once)

-- ---- phases

abbrev IsGoodPhase : Phase → Type 0
IsGoodPhase p = IsPhase p × IsPhaseFit p

phase_takes : (total phase : ℕ) (before : Rest) (x : Phase × Rest) → IsBytes before.bytes → phase_at total phase before ≡ Ok x
    → Reads phase_text phase_serves IsGoodPhase before x.0 x.1
unfolding phase_at phase_text phase_serves IsPhase
phase_takes total phase before x fits e =
    by_ok (limited_at total 2 1 16 before.bytes) _ x e (λ count e0 k0.
    by_ok (workers_at total phase count.0 (record { served = before.served; bytes = count.1 })) _ x k0 (λ workers e1 k1.
    let t = within_takes (Cut total) _ 2 1 16 before.bytes count fits e0 in
    let o = from_takes (worker_at total phase) worker_text worker_serves IsGoodWorker (worker_takes total phase)
    count.0 0 (record { served = before.served; bytes = count.1 }) workers t.0.rest_fits e1 in
    let number = Takes-same before.bytes (big 2 count.0) (big 2 (length workers.0)) count.1 (ap (big 2) (sym o.1)) t.0 in
    let parts = both_parts (AllByRecursion IsTask) IsWorkerFit workers.0 o.0.holds in
    subst (λ (y : Phase × Rest). Reads phase_text phase_serves IsGoodPhase before y.0 y.1) (ok_is (record { workers = workers.0 }, workers.1) x k1)
    (record {
      takes = Takes-then before.bytes (big 2 (length workers.0)) count.1 (flat_map worker_text workers.0) workers.1.bytes number o.0.takes;
      served = o.0.served;
      holds = (parts.0, record { some = omega (arith, o.1, t.1); few = omega (arith, o.1, t.2); workers = parts.1 });
    })))

phase_again : (total phase : ℕ) (served : Bool) (p : Phase) (rest : List ℕ) → IsGoodPhase p → bit served + phase_serves p ≤ 1
    → phase_at total phase (record { served = served; bytes = phase_text p ++ rest }) ≡ Ok (p, record { served = served_after served (phase_serves p); bytes = rest })
unfolding phase_at phase_text phase_serves IsPhase
phase_again total phase served p rest good once =
    rw (
      append_assoc (big 2 (length p.workers)) (flat_map worker_text p.workers) rest,
      within_again (Cut total) (Limit (total - length (big 2 (length p.workers) ++ (flat_map worker_text p.workers ++ rest)))) 2 1 16 (length p.workers) (flat_map worker_text p.workers ++ rest) (omega (arith, good.1.few)) good.1.some good.1.few,
      from_again (worker_at total phase) worker_text worker_serves IsGoodWorker (worker_again total phase)
          p.workers 0 served rest (both_from (AllByRecursion IsTask) IsWorkerFit p.workers good.0 good.1.workers) once,
    )
    refl

-- ---- feeds

pub feed_takes : (bytes : List ℕ) (f : Feed) → IsBytes bytes → feed_in bytes ≡ Ok f → IsFeed f × IsFeedFit f × (bytes ≡ feed_text f)
unfolding feed_in feed_text feed_serves IsFeed bit
feed_takes bytes f fits e =
    by_ok (number_at (Cut (length bytes)) 4 bytes) _ f e (λ magic e0 k0.
    by_test (eqb magic.0 0x63646631) Magic _ f k0 (λ known k1.
    by_ok (limited_at (length bytes) 2 0 4096 magic.1) _ f k1 (λ count e1 k2.
    by_ok (phases_at (length bytes) count.0 count.1) _ f k2 (λ phases e2 k3.
    by_ok (each_from (phase_at (length bytes)) 0 count.0 (record { served = false; bytes = count.1 })) _ phases e2 (λ read e3 k4.
    let g = kept_by_test (eqb (length phases.1) 0) (Extra (length bytes - length phases.1)) (record { phases = phases.0 }) f k3 in
    let is : (read.0, read.1.bytes) ≡ phases = ok_is _ _ k4 in
    let t = number_takes (Cut (length bytes)) 4 bytes magic fits e0 in
    let u = within_takes (Cut (length bytes)) _ 2 0 4096 magic.1 count t.0.rest_fits e1 in
    let o = from_takes (phase_at (length bytes)) phase_text phase_serves IsGoodPhase (phase_takes (length bytes))
    count.0 0 (record { served = false; bytes = count.1 }) read u.0.rest_fits e3 in
    let nothing : read.1.bytes ≡ [] = ap (λ x. x.1) is ∙ nil_from_length phases.1 (eqb-true _ _ g.0) in
    let number = Takes-same magic.1 (big 2 count.0) (big 2 (length read.0)) count.1 (ap (big 2) (sym o.1)) u.0 in
    let behind = Takes-then magic.1 (big 2 (length read.0)) count.1 (flat_map phase_text read.0) read.1.bytes number o.0.takes in
    let head = Takes-same bytes (big 4 magic.0) (big 4 0x63646631) magic.1 (ap (big 4) (eqb-true _ _ known)) t.0 in
    let all = Takes-then bytes (big 4 0x63646631) magic.1 (big 2 (length read.0) ++ flat_map phase_text read.0) read.1.bytes head behind in
    let parts = both_parts IsPhase IsPhaseFit read.0 o.0.holds in
    let made : Feed = record { phases = read.0 } in
    let read_is : made ≡ f = ap (λ (x : List Phase × List ℕ). record { phases = x.0 }) is ∙ g.1 in
    let text : bytes ≡ feed_text made = all.parts ∙ ap (λ (w : List ℕ). big 4 0x63646631 ++ (big 2 (length read.0) ++ flat_map phase_text read.0) ++ w) nothing ∙ append-nil _ in
    let few : length read.0 ≤ 4096 = omega (arith, o.1, u.2) in
    let serves : feed_serves made ≤ 1 = omega (arith, o.0.served, bit_small read.1.served) in
    subst (λ (y : Feed). IsFeed y × IsFeedFit y × (bytes ≡ feed_text y)) read_is (parts.0, record { few = few; phases = parts.1; serves = serves }, text))))))
  where
    bit_small : (b : Bool) → bit b ≤ 1
    bit_small true = omega arith
    bit_small false = omega arith

pub feed_again : (f : Feed) → IsFeed f → IsFeedFit f → feed_in (feed_text f) ≡ Ok f
unfolding feed_in feed_text feed_serves IsFeed bit
feed_again f known fit =
    let total = length (feed_text f) in
    let phases : each_from (phase_at total) 0 (length f.phases) (record { served = false; bytes = flat_map phase_text f.phases }) ≡ Ok (f.phases, record { served = served_after false (feed_serves f); bytes = [] }) =
    ap (λ (w : List ℕ). each_from (phase_at total) 0 (length f.phases) (record { served = false; bytes = w })) (sym (append-nil (flat_map phase_text f.phases)))
    ∙ from_again (phase_at total) phase_text phase_serves IsGoodPhase (phase_again total) f.phases 0 false [] (both_from IsPhase IsPhaseFit f.phases known fit.phases) (omega (arith, fit.serves)) in
    let behind = flat_map phase_text f.phases in
    rw (
      number_again (Cut total) 4 0x63646631 (big 2 (length f.phases) ++ behind) (omega arith),
      within_again (Cut total) (Limit (total - length (big 2 (length f.phases) ++ behind))) 2 0 4096 (length f.phases) behind (omega (arith, fit.few)) (omega arith) fit.few,
      phases,
    ) refl

pub feed_text_injective : (a b : Feed) → IsFeed a → IsFeedFit a → IsFeed b → IsFeedFit b → feed_text a ≡ feed_text b → a ≡ b
feed_text_injective a b ka fa kb fb same = ok_is a b (sym (feed_again a ka fa) ∙ ap feed_in same ∙ feed_again b kb fb)

pub is_found : (bytes : List ℕ) (r : Result Feed FeedFault) → IsBytes bytes → GivesUnless Memory (λ f. f) r (feed_in bytes)
    → IfOk r (λ f. IsFeed f × IsFeedFit f × (bytes ≡ feed_text f))
is_found bytes (Ok f) fits e = feed_takes bytes f fits e
is_found bytes (Err d) fits e = tt
