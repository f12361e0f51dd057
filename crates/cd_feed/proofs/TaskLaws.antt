-- A task that is read is the task that was written, and what was written is read again.
use Rattle.std.proofs.Common.{◌≡◌, ℕ, zero, suc, ◌+◌, ◌<◌, ◌≤◌, Bool, true, false, cond, eqb, List, [], ◌∷◌, ◌++◌, length, subst, Result, Ok, Err, refl, sym, ap, ◌∙◌, append_assoc, arith}
use Rattle.std.specs.Prelude.{◌||◌, ◌&&◌, not}
use Rattle.std.specs.List.{flat_map, AllByRecursion}
use Rattle.std.proofs.lemmas.Bool.{eqb-true}
use Rattle.std.proofs.lemmas.List.{append-nil}
use Rattle.cd_base.specs.Numbers.{IsBytes, big}
use Rattle.cd_base.specs.Reading.{byte_at, require}
use Rattle.cd_base.proofs.NumberLaws.{IsBytes-cons}
use Rattle.cd_base.proofs.ReadingLaws.{by_ok, by_test, ok_is, Takes, Takes-then, byte_takes}
use Rattle.cd_block.specs.declared.block.BlockId.{BlockId}
use Rattle.cd_block.specs.Block.{IsBlockId, key_of}
use Rattle.cd_block.specs.Description.{ids_text}
use Rattle.cd_feed.specs.declared.feed.Task.{Task}
use Rattle.cd_feed.specs.declared.feed.Task.TheVariants.{Zero, Block, Expire, Read, Slice, Serve, Merged}
use Rattle.cd_feed.specs.declared.feed_fault.FeedFault.{FeedFault}
use Rattle.cd_feed.specs.declared.feed_fault.FeedFault.TheVariants.{Cut}
use Rattle.cd_feed.specs.Feeds.{bag_text, path_text, task_text, is_serve, IsTask, IsTaskFit}
use Rattle.cd_feed.specs.FeedReading.{Rest, id_at, tops_at, bag_at, path_at, max_at, zero_at, block_at, expire_at, read_at, slice_at, serve_at, merged_at, fields_at, task_at}
use Rattle.cd_feed.proofs.FieldLaws.{id_takes, id_again, tops_takes, tops_again, bag_takes, bag_again, path_takes, path_again, max_takes, max_again}

Takes-cons : (byte : ℕ) (bytes text rest : List ℕ) → byte < 256 → Takes bytes text rest → Takes (byte ∷ bytes) (byte ∷ text) rest
Takes-cons byte bytes text rest small t = record {
  parts = ap (λ (w : List ℕ). byte ∷ w) t.parts;
  text_fits = IsBytes-cons byte text small t.text_fits;
  rest_fits = t.rest_fits;
}

-- a task that was read behind its kind byte
record IsRead (kind : ℕ) (bytes : List ℕ) (task : Task) (rest : List ℕ) : Type 0 where
  takes : Takes (kind ∷ bytes) (task_text task) rest
  known : IsTask task
  fit : IsTaskFit task
  serves : is_serve task ≡ eqb kind 6

abbrev IsReadPair : ℕ → List ℕ → Task × List ℕ → Type 0
IsReadPair kind bytes x = IsRead kind bytes x.0 x.1

zero_takes : (total : ℕ) (fault : FeedFault) (bytes : List ℕ) (x : Task × List ℕ) → IsBytes bytes → zero_at total fault bytes ≡ Ok x → IsReadPair 1 bytes x
unfolding zero_at task_text is_serve IsTask IsTaskFit
zero_takes total fault bytes x fits e =
    by_ok (id_at total bytes) _ x e (λ id e0 k0.
    by_ok (tops_at total fault id.0 id.1) _ x k0 (λ tops e1 k1.
    by_ok (bag_at total tops.1) _ x k1 (λ bag e2 k2.
    let t = id_takes total bytes id fits e0 in
    let u = tops_takes total fault id.0 id.1 tops t.0.rest_fits e1 in
    let v = bag_takes total tops.1 bag u.0.rest_fits e2 in
    let text = Takes-then bytes (key_of id.0) id.1 _ bag.1 t.0 (Takes-then id.1 (ids_text tops.0) tops.1 (bag_text bag.0) bag.1 u.0 v.0) in
    subst (IsReadPair 1 bytes) (ok_is (Zero id.0 tops.0 bag.0, bag.1) x k2)
    (record { takes = Takes-cons 1 bytes _ bag.1 (omega arith) text; known = (t.1, u.2); fit = (u.1, v.1); serves = refl }))))

block_takes : (total : ℕ) (fault : FeedFault) (bytes : List ℕ) (x : Task × List ℕ) → IsBytes bytes → block_at total fault bytes ≡ Ok x → IsReadPair 2 bytes x
unfolding block_at task_text is_serve IsTask IsTaskFit
block_takes total fault bytes x fits e =
    by_ok (id_at total bytes) _ x e (λ id e0 k0.
    by_ok (id_at total id.1) _ x k0 (λ parent e1 k1.
    by_ok (tops_at total fault id.0 parent.1) _ x k1 (λ tops e2 k2.
    by_ok (bag_at total tops.1) _ x k2 (λ bag e3 k3.
    let t = id_takes total bytes id fits e0 in
    let p = id_takes total id.1 parent t.0.rest_fits e1 in
    let u = tops_takes total fault id.0 parent.1 tops p.0.rest_fits e2 in
    let v = bag_takes total tops.1 bag u.0.rest_fits e3 in
    let text = Takes-then bytes (key_of id.0) id.1 _ bag.1 t.0 (Takes-then id.1 (key_of parent.0) parent.1 _ bag.1 p.0
    (Takes-then parent.1 (ids_text tops.0) tops.1 (bag_text bag.0) bag.1 u.0 v.0)) in
    subst (IsReadPair 2 bytes) (ok_is (Block id.0 parent.0 tops.0 bag.0, bag.1) x k3)
    (record { takes = Takes-cons 2 bytes _ bag.1 (omega arith) text; known = (t.1, p.1, u.2); fit = (u.1, v.1); serves = refl })))))

expire_takes : (total : ℕ) (bytes : List ℕ) (x : Task × List ℕ) → IsBytes bytes → expire_at total bytes ≡ Ok x → IsReadPair 3 bytes x
unfolding expire_at task_text is_serve IsTask IsTaskFit
expire_takes total bytes x fits e =
    by_ok (id_at total bytes) _ x e (λ id e0 k0.
    let t = id_takes total bytes id fits e0 in
    subst (IsReadPair 3 bytes) (ok_is (Expire id.0, id.1) x k0)
    (record { takes = Takes-cons 3 bytes (key_of id.0) id.1 (omega arith) t.0; known = t.1; fit = tt; serves = refl }))

read_takes : (total : ℕ) (fault : FeedFault) (bytes : List ℕ) (x : Task × List ℕ) → IsBytes bytes → read_at total fault bytes ≡ Ok x → IsReadPair 4 bytes x
unfolding read_at task_text is_serve IsTask IsTaskFit
read_takes total fault bytes x fits e =
    by_ok (id_at total bytes) _ x e (λ id e0 k0.
    by_ok (path_at total fault id.1) _ x k0 (λ path e1 k1.
    let t = id_takes total bytes id fits e0 in
    let u = path_takes total fault id.1 path t.0.rest_fits e1 in
    subst (IsReadPair 4 bytes) (ok_is (Read id.0 path.0, path.1) x k1)
    (record { takes = Takes-cons 4 bytes _ path.1 (omega arith) (Takes-then bytes (key_of id.0) id.1 (path_text path.0) path.1 t.0 u.0); known = t.1; fit = u.1; serves = refl })))

slice_takes : (total : ℕ) (fault : FeedFault) (bytes : List ℕ) (x : Task × List ℕ) → IsBytes bytes → slice_at total fault bytes ≡ Ok x → IsReadPair 5 bytes x
unfolding slice_at task_text is_serve IsTask IsTaskFit
slice_takes total fault bytes x fits e =
    by_ok (id_at total bytes) _ x e (λ id e0 k0.
    by_ok (max_at total fault id.1) _ x k0 (λ max e1 k1.
    let t = id_takes total bytes id fits e0 in
    let u = max_takes total fault id.1 max t.0.rest_fits e1 in
    subst (IsReadPair 5 bytes) (ok_is (Slice id.0 max.0, max.1) x k1)
    (record { takes = Takes-cons 5 bytes _ max.1 (omega arith) (Takes-then bytes (key_of id.0) id.1 (big 4 max.0) max.1 t.0 u.0); known = t.1; fit = u.1; serves = refl })))

serve_takes : (total : ℕ) (fault : FeedFault) (bytes : List ℕ) (x : Task × List ℕ) → IsBytes bytes → serve_at total fault bytes ≡ Ok x → IsReadPair 6 bytes x
unfolding serve_at task_text is_serve IsTask IsTaskFit
serve_takes total fault bytes x fits e =
    by_ok (id_at total bytes) _ x e (λ id e0 k0.
    by_ok (max_at total fault id.1) _ x k0 (λ max e1 k1.
    let t = id_takes total bytes id fits e0 in
    let u = max_takes total fault id.1 max t.0.rest_fits e1 in
    subst (IsReadPair 6 bytes) (ok_is (Serve id.0 max.0, max.1) x k1)
    (record { takes = Takes-cons 6 bytes _ max.1 (omega arith) (Takes-then bytes (key_of id.0) id.1 (big 4 max.0) max.1 t.0 u.0); known = t.1; fit = u.1; serves = refl })))

merged_takes : (total : ℕ) (fault : FeedFault) (bytes : List ℕ) (x : Task × List ℕ) → IsBytes bytes → merged_at total fault bytes ≡ Ok x → IsReadPair 7 bytes x
unfolding merged_at task_text is_serve IsTask IsTaskFit
merged_takes total fault bytes x fits e =
    by_ok (id_at total bytes) _ x e (λ id e0 k0.
    by_ok (id_at total id.1) _ x k0 (λ left e1 k1.
    by_ok (id_at total left.1) _ x k1 (λ right e2 k2.
    by_ok (tops_at total fault id.0 right.1) _ x k2 (λ tops e3 k3.
    by_ok (bag_at total tops.1) _ x k3 (λ bag e4 k4.
    let t = id_takes total bytes id fits e0 in
    let l = id_takes total id.1 left t.0.rest_fits e1 in
    let r = id_takes total left.1 right l.0.rest_fits e2 in
    let u = tops_takes total fault id.0 right.1 tops r.0.rest_fits e3 in
    let v = bag_takes total tops.1 bag u.0.rest_fits e4 in
    let text = Takes-then bytes (key_of id.0) id.1 _ bag.1 t.0 (Takes-then id.1 (key_of left.0) left.1 _ bag.1 l.0 (Takes-then left.1 (key_of right.0) right.1 _ bag.1 r.0
    (Takes-then right.1 (ids_text tops.0) tops.1 (bag_text bag.0) bag.1 u.0 v.0))) in
    subst (IsReadPair 7 bytes) (ok_is (Merged id.0 left.0 right.0 tops.0 bag.0, bag.1) x k4)
    (record { takes = Takes-cons 7 bytes _ bag.1 (omega arith) text; known = (t.1, l.1, r.1, u.2); fit = (u.1, v.1); serves = refl }))))))

-- the fields of a kind, or those of another one
by_kind : (kind n : ℕ) (bytes : List ℕ) (here there : Result (Task × List ℕ) FeedFault) (x : Task × List ℕ) → (here ≡ Ok x → IsReadPair n bytes x) → (there ≡ Ok x → IsReadPair kind bytes x)
    → cond (eqb kind n) here there ≡ Ok x → IsReadPair kind bytes x
by_kind kind n bytes here there x is else e = chosen (eqb kind n) refl e
  where
    chosen : (b : Bool) → eqb kind n ≡ b → cond b here there ≡ Ok x → IsReadPair kind bytes x
    chosen true same e = subst (λ k. IsReadPair k bytes x) (sym (eqb-true kind n same)) (is e)
    chosen false same e = else e

fields_takes : (total : ℕ) (fault : FeedFault) (kind : ℕ) (bytes : List ℕ) (x : Task × List ℕ) → IsBytes bytes → fields_at total fault kind bytes ≡ Ok x → IsReadPair kind bytes x
unfolding fields_at
fields_takes total fault kind bytes x fits e =
    by_kind kind 1 bytes _ _ x (zero_takes total fault bytes x fits) (
    by_kind kind 2 bytes _ _ x (block_takes total fault bytes x fits) (
    by_kind kind 3 bytes _ _ x (expire_takes total bytes x fits) (
    by_kind kind 4 bytes _ _ x (read_takes total fault bytes x fits) (
    by_kind kind 5 bytes _ _ x (slice_takes total fault bytes x fits) (
    by_kind kind 6 bytes _ _ x (serve_takes total fault bytes x fits) (
    by_kind kind 7 bytes _ _ x (merged_takes total fault bytes x fits) (λ none. absurd cc))))))) e

-- ---- what is left behind a value, by the Serves that it has

unfoldable pub bit : Bool → ℕ
bit false = 0
bit true = 1

unfoldable pub served_after : Bool → ℕ → Bool
served_after served zero = served
served_after served (suc n) = true

-- a value that was read: its text, its Serves, and what is so of it
pub record Reads {X : Type 0} (text : X → List ℕ) (serves : X → ℕ) (P : X → Type 0) (before : Rest) (x : X) (after : Rest) : Type 0 where
  pub takes : Takes before.bytes (text x) after.bytes
  pub served : bit after.served ≡ bit before.served + serves x
  pub holds : P x

abbrev pub IsGoodTask : Task → Type 0
IsGoodTask task = IsTask task × IsTaskFit task

abbrev pub task_serves : Task → ℕ
task_serves task = cond (is_serve task) 1 0

bit_or : (served is : Bool) → not (is && served) ≡ true → bit (served || is) ≡ bit served + cond is 1 0
unfolding bit
bit_or false false e = refl
bit_or false true e = refl
bit_or true false e = refl
bit_or true true e = absurd cc

pub task_takes : (total : ℕ) (fault : FeedFault) (before : Rest) (x : Task × Rest) → IsBytes before.bytes → task_at total fault before ≡ Ok x → Reads task_text task_serves IsGoodTask before x.0 x.1
unfolding task_at
task_takes total fault before x fits e =
    by_ok (byte_at (Cut total) before.bytes) _ x e (λ kind e0 k0.
    by_test (not (eqb kind.0 6 && before.served)) fault _ x k0 (λ free k1.
    by_ok (fields_at total fault kind.0 kind.1) _ x k1 (λ task e2 k2.
    let b = byte_takes (Cut total) before.bytes kind fits e0 in
    let r = fields_takes total fault kind.0 kind.1 task b.rest_fits e2 in
    let takes : Takes before.bytes (task_text task.0) task.1 = subst (λ (w : List ℕ). Takes w (task_text task.0) task.1) (sym b.parts) r.takes in
    let served : bit (before.served || eqb kind.0 6) ≡ bit before.served + task_serves task.0 = bit_or before.served (eqb kind.0 6) free ∙ ap (λ is. bit before.served + cond is 1 0) (sym r.serves) in
    subst (λ (y : Task × Rest). Reads task_text task_serves IsGoodTask before y.0 y.1) (ok_is (task.0, record { served = before.served || eqb kind.0 6; bytes = task.1 }) x k2)
    (record { takes = takes; served = served; holds = (r.known, r.fit) }))))

-- ---- what was written is read again

or_none : (b : Bool) → (b || false) ≡ b
or_none true = refl
or_none false = refl

abbrev pub IsReadAgain : Task → Type 0
IsReadAgain task = (total : ℕ) (fault : FeedFault) (served : Bool) (rest : List ℕ) → IsTask task → IsTaskFit task → bit served + task_serves task ≤ 1
    → task_at total fault (record { served = served; bytes = task_text task ++ rest }) ≡ Ok (task, record { served = served_after served (task_serves task); bytes = rest })

zero_again : (id : BlockId) (tops : List BlockId) (bag : List ℕ) → IsReadAgain (Zero id tops bag)
unfolding task_at byte_at fields_at zero_at task_text is_serve IsTask IsTaskFit served_after
zero_again id tops bag total fault served rest known fit once =
    let grouped : (key_of id ++ (ids_text tops ++ bag_text bag)) ++ rest ≡ key_of id ++ (ids_text tops ++ (bag_text bag ++ rest)) = simp append_assoc in
    rw (grouped, id_again total id (ids_text tops ++ (bag_text bag ++ rest)) known.0, tops_again total fault id tops (bag_text bag ++ rest) fit.0 known.1, bag_again total bag rest fit.1, or_none served) refl

block_again : (id parent : BlockId) (tops : List BlockId) (bag : List ℕ) → IsReadAgain (Block id parent tops bag)
unfolding task_at byte_at fields_at block_at task_text is_serve IsTask IsTaskFit served_after
block_again id parent tops bag total fault served rest known fit once =
    let grouped : (key_of id ++ (key_of parent ++ (ids_text tops ++ bag_text bag))) ++ rest ≡ key_of id ++ (key_of parent ++ (ids_text tops ++ (bag_text bag ++ rest))) = simp append_assoc in
    rw (
      grouped,
      id_again total id (key_of parent ++ (ids_text tops ++ (bag_text bag ++ rest))) known.0,
      id_again total parent (ids_text tops ++ (bag_text bag ++ rest)) known.1,
      tops_again total fault id tops (bag_text bag ++ rest) fit.0 known.2,
      bag_again total bag rest fit.1,
      or_none served,
    ) refl

expire_again : (id : BlockId) → IsReadAgain (Expire id)
unfolding task_at byte_at fields_at expire_at task_text is_serve IsTask IsTaskFit served_after
expire_again id total fault served rest known fit once = rw (id_again total id rest known, or_none served) refl

read_again : (id : BlockId) (path : List ℕ) → IsReadAgain (Read id path)
unfolding task_at byte_at fields_at read_at task_text is_serve IsTask IsTaskFit served_after
read_again id path total fault served rest known fit once =
    rw (append_assoc (key_of id) (path_text path) rest, id_again total id (path_text path ++ rest) known, path_again total fault path rest fit, or_none served) refl

slice_again : (id : BlockId) (max : ℕ) → IsReadAgain (Slice id max)
unfolding task_at byte_at fields_at slice_at task_text is_serve IsTask IsTaskFit served_after
slice_again id max total fault served rest known fit once =
    rw (append_assoc (key_of id) (big 4 max) rest, id_again total id (big 4 max ++ rest) known, max_again total fault max rest fit, or_none served) refl

serve_again : (id : BlockId) (max : ℕ) → IsReadAgain (Serve id max)
unfolding task_at byte_at fields_at serve_at task_text is_serve IsTask IsTaskFit served_after bit
serve_again id max total fault true rest known fit once = absurd (omega arith)
serve_again id max total fault false rest known fit once =
    rw (append_assoc (key_of id) (big 4 max) rest, id_again total id (big 4 max ++ rest) known, max_again total fault max rest fit) refl

merged_again : (id left right : BlockId) (tops : List BlockId) (bag : List ℕ) → IsReadAgain (Merged id left right tops bag)
unfolding task_at byte_at fields_at merged_at task_text is_serve IsTask IsTaskFit served_after
merged_again id left right tops bag total fault served rest known fit once =
    let grouped : (key_of id ++ (key_of left ++ (key_of right ++ (ids_text tops ++ bag_text bag)))) ++ rest
    ≡ key_of id ++ (key_of left ++ (key_of right ++ (ids_text tops ++ (bag_text bag ++ rest)))) = simp append_assoc in
    rw (
      grouped,
      id_again total id (key_of left ++ (key_of right ++ (ids_text tops ++ (bag_text bag ++ rest)))) known.0,
      id_again total left (key_of right ++ (ids_text tops ++ (bag_text bag ++ rest))) known.1,
      id_again total right (ids_text tops ++ (bag_text bag ++ rest)) known.2,
      tops_again total fault id tops (bag_text bag ++ rest) fit.0 known.3,
      bag_again total bag rest fit.1,
      or_none served,
    ) refl

pub task_again : (task : Task) → IsReadAgain task
task_again (Zero id tops bag) = zero_again id tops bag
task_again (Block id parent tops bag) = block_again id parent tops bag
task_again (Expire id) = expire_again id
task_again (Read id path) = read_again id path
task_again (Slice id max) = slice_again id max
task_again (Serve id max) = serve_again id max
task_again (Merged id left right tops bag) = merged_again id left right tops bag
