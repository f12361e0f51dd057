-- A field of a feed that is read is the field that was written, and what was written is read again.
use Rattle.std.proofs.Common.{◌≡◌, ℕ, zero, suc, ◌+◌, ◌*◌, ◌-◌, ◌^◌, ◌<◌, ◌≤◌, Bool, true, false, cond, ltb, eqb, List, [], ◌∷◌, ◌++◌, length, get_or, subst, Result, Ok, Err, refl, sym, ap, ◌∙◌, append_assoc, arith}
use Rattle.std.specs.Prelude.{◌||◌, ◌&&◌, not, IsTrue}
use Rattle.std.specs.List.{flat_map, AllByRecursion}
use Rattle.std.proofs.lemmas.Bool.{ltb-false, lt-ltb, le-ltb, or_parts, or_from}
use Rattle.cd_base.specs.Numbers.{IsBytes, big}
use Rattle.cd_base.specs.Reading.{number_at, part_at, each_at}
use Rattle.cd_base.proofs.NumberLaws.{IsBytes-append, IsBytes-cons}
use Rattle.cd_base.proofs.ReadingLaws.{by_ok, ok_is, no_fault, Takes, Takes-then, Takes-same, part_takes, part_again, number_takes, number_again, each_takes, each_again, big-one}
use Rattle.cd_block.specs.declared.block.BlockId.{BlockId}
use Rattle.cd_block.specs.Shard.{is_master}
use Rattle.cd_block.specs.Block.{IsBlockId, key_of, id_of}
use Rattle.cd_block.specs.Description.{ids_text}
use Rattle.cd_block.proofs.Keys.{length-key_of, key_of-id_of, id_of-key_of, IsBlockId-id_of}
use Rattle.cd_feed.specs.declared.feed_fault.FeedFault.{FeedFault}
use Rattle.cd_feed.specs.declared.feed_fault.FeedFault.TheVariants.{Cut, Limit}
use Rattle.cd_feed.specs.Feeds.{bag_text, path_text, IsTopsFit, IsBagFit, IsPathFit, IsMaxFit}
use Rattle.cd_feed.specs.FeedReading.{within_at, limited_at, id_at, tops_at, bag_at, path_at, max_at}

-- ---- numbers within a range

pub within_takes : (cut fault : FeedFault) (len least most : ℕ) (bytes : List ℕ) (x : ℕ × List ℕ) → IsBytes bytes → within_at cut fault len least most bytes ≡ Ok x
    → Takes bytes (big len x.0) x.1 × (least ≤ x.0) × (x.0 ≤ most)
unfolding within_at
within_takes cut fault len least most bytes x fits e =
    by_ok (number_at cut len bytes) _ x e (λ number e0 k0.
    let t = number_takes cut len bytes number fits e0 in
    let g = no_fault (ltb number.0 least || ltb most number.0) fault number x k0 in
    let in_range = or_parts (ltb number.0 least) (ltb most number.0) g.0 in
    subst (λ (y : ℕ × List ℕ). Takes bytes (big len y.0) y.1 × (least ≤ y.0) × (y.0 ≤ most)) g.1 (t.0, ltb-false _ _ in_range.0, ltb-false _ _ in_range.1))

pub within_again : (cut fault : FeedFault) (len least most value : ℕ) (rest : List ℕ) → value < 256 ^ len → least ≤ value → value ≤ most
    → within_at cut fault len least most (big len value ++ rest) ≡ Ok (value, rest)
unfolding within_at
within_again cut fault len least most value rest fits low high =
    rw (number_again cut len value rest fits, or_from (ltb value least) (ltb most value) (le-ltb value least low) (le-ltb most value high)) refl

-- ---- ids

pub id_takes : (total : ℕ) (bytes : List ℕ) (x : BlockId × List ℕ) → IsBytes bytes → id_at total bytes ≡ Ok x → Takes bytes (key_of x.0) x.1 × IsBlockId x.0
unfolding id_at
id_takes total bytes x fits e =
    by_ok (part_at (Cut total) 80 bytes) _ x e (λ key e0 k0.
    let t = part_takes (Cut total) 80 bytes key fits e0 in
    let taken : Takes bytes (key_of (id_of key.0)) key.1 = Takes-same bytes key.0 (key_of (id_of key.0)) key.1 (sym (key_of-id_of key.0 t.1 t.0.text_fits)) t.0 in
    subst (λ (y : BlockId × List ℕ). Takes bytes (key_of y.0) y.1 × IsBlockId y.0) (ok_is (id_of key.0, key.1) x k0)
    (taken, IsBlockId-id_of key.0 t.1 t.0.text_fits))

pub id_again : (total : ℕ) (id : BlockId) (rest : List ℕ) → IsBlockId id → id_at total (key_of id ++ rest) ≡ Ok (id, rest)
unfolding id_at
id_again total id rest known = rw (part_again (Cut total) 80 (key_of id) rest (length-key_of id known), id_of-key_of id known) refl

-- ---- tops

-- a byte of a number, and what stands behind it
counted : (bytes rest behind text : List ℕ) (n count : ℕ) → count < 256 → n ≡ count → Takes bytes (big 1 count) rest → Takes rest text behind → Takes bytes (n ∷ text) behind
counted bytes rest behind text n count small is t u =
    let joined : big 1 count ++ text ≡ n ∷ text = ap (λ (w : List ℕ). w ++ text) (big-one count small) ∙ ap (λ v. v ∷ text) (sym is) in
    Takes-same bytes (big 1 count ++ text) (n ∷ text) behind joined (Takes-then bytes (big 1 count) rest text behind t u)

master_by : (n : ℕ) (b : Bool) → (ltb 0 n && not b) ≡ false → 0 < n → IsTrue b
master_by zero b e lt = absurd (omega arith)
master_by (suc n) true e lt = refl
master_by (suc n) false e lt = sym (sym (ap (λ v. v && not false) (lt-ltb 0 (suc n) lt)) ∙ e)

pub tops_takes : (total : ℕ) (fault : FeedFault) (id : BlockId) (bytes : List ℕ) (x : List BlockId × List ℕ) → IsBytes bytes → tops_at total fault id bytes ≡ Ok x
    → Takes bytes (ids_text x.0) x.1 × IsTopsFit id x.0 × AllByRecursion IsBlockId x.0
unfolding tops_at ids_text
tops_takes total fault id bytes x fits e =
    by_ok (limited_at total 1 0 64 bytes) _ x e (λ count e0 k0.
    let t = within_takes (Cut total) (Limit (total - length bytes)) 1 0 64 bytes count fits e0 in
    let g = passed (ltb 0 count.0 && not (is_master id.shard_id)) fault (each_at (id_at total) count.0 count.1) x k0 in
    let o = each_takes (id_at total) key_of IsBlockId (id_takes total) count.0 count.1 x t.0.rest_fits g.1 in
    let on_master : 0 < length x.0 → IsTrue (is_master id.shard_id) = λ some. master_by count.0 (is_master id.shard_id) g.0 (omega (arith, o.1)) in
    (counted bytes count.1 x.1 (flat_map key_of x.0) (length x.0) count.0 (omega (arith, t.2)) o.1 t.0 o.0, record { few = omega (arith, o.1, t.2); on_master = on_master }, o.2))
  where
    passed : {A : Type 0} (b : Bool) (d : FeedFault) (r : Result A FeedFault) (y : A) → cond b (Err d) r ≡ Ok y → (b ≡ false) × (r ≡ Ok y)
    passed true d r y e = absurd cc
    passed false d r y e = (refl, e)

no_tops_barred : (n : ℕ) (b : Bool) → (0 < n → IsTrue b) → (ltb 0 n && not b) ≡ false
no_tops_barred zero b h = refl
no_tops_barred (suc n) true h = ap (λ v. v && not true) (lt-ltb 0 (suc n) (omega arith))
no_tops_barred (suc n) false h = let barred : IsTrue false = h (omega arith) in absurd cc

pub tops_again : (total : ℕ) (fault : FeedFault) (id : BlockId) (tops : List BlockId) (rest : List ℕ) → IsTopsFit id tops → AllByRecursion IsBlockId tops
    → tops_at total fault id (ids_text tops ++ rest) ≡ Ok (tops, rest)
unfolding tops_at ids_text
tops_again total fault id tops rest fit known =
    let small : length tops < 256 = omega (arith, fit.few) in
    let text = length tops ∷ (flat_map key_of tops ++ rest) in
    let number : limited_at total 1 0 64 text ≡ Ok (length tops, flat_map key_of tops ++ rest) =
    ap (within_at (Cut total) (Limit (total - length text)) 1 0 64) (sym (ap (λ (w : List ℕ). w ++ (flat_map key_of tops ++ rest)) (big-one (length tops) small)))
    ∙ within_again (Cut total) (Limit (total - length text)) 1 0 64 (length tops) (flat_map key_of tops ++ rest) (omega arith) (omega arith) fit.few in
    rw (number, no_tops_barred (length tops) (is_master id.shard_id) fit.on_master) (each_again (id_at total) key_of IsBlockId (id_again total) tops rest known)

-- ---- bags

pub bag_takes : (total : ℕ) (bytes : List ℕ) (x : List ℕ × List ℕ) → IsBytes bytes → bag_at total bytes ≡ Ok x → Takes bytes (bag_text x.0) x.1 × IsBagFit x.0
unfolding bag_at bag_text
bag_takes total bytes x fits e =
    by_ok (limited_at total 4 0 67108864 bytes) _ x e (λ len e0 k0.
    let t = within_takes (Cut total) (Limit (total - length bytes)) 4 0 67108864 bytes len fits e0 in
    let p = part_takes (Cut total) len.0 len.1 x t.0.rest_fits k0 in
    let both = Takes-then bytes (big 4 len.0) len.1 x.0 x.1 t.0 p.0 in
    (Takes-same bytes (big 4 len.0 ++ x.0) (big 4 (length x.0) ++ x.0) x.1 (ap (λ n. big 4 n ++ x.0) (sym p.1)) both, omega (arith, p.1, t.2)))

pub bag_again : (total : ℕ) (bag rest : List ℕ) → IsBagFit bag → bag_at total (bag_text bag ++ rest) ≡ Ok (bag, rest)
unfolding bag_at bag_text
bag_again total bag rest fit =
    let regrouped : (big 4 (length bag) ++ bag) ++ rest ≡ big 4 (length bag) ++ (bag ++ rest) = append_assoc (big 4 (length bag)) bag rest in
    rw (regrouped, within_again (Cut total) (Limit (total - length (big 4 (length bag) ++ (bag ++ rest)))) 4 0 67108864 (length bag) (bag ++ rest) (omega arith) (omega arith) fit)
    (part_again (Cut total) (length bag) bag rest refl)

-- ---- paths

steps_are : (path : List ℕ) → AllByRecursion (λ step. step ≤ 3) path → flat_map (big 1) path ≡ path
steps_are [] h = refl
steps_are (step ∷ path) h = ap (λ (w : List ℕ). w ++ flat_map (big 1) path) (big-one step (omega (arith, h.0))) ∙ ap (λ (w : List ℕ). step ∷ w) (steps_are path h.1)

step_takes : (cut fault : FeedFault) (bytes : List ℕ) (x : ℕ × List ℕ) → IsBytes bytes → within_at cut fault 1 0 3 bytes ≡ Ok x → Takes bytes (big 1 x.0) x.1 × (x.0 ≤ 3)
step_takes cut fault bytes x fits e = let t = within_takes cut fault 1 0 3 bytes x fits e in (t.0, t.2)

pub path_takes : (total : ℕ) (fault : FeedFault) (bytes : List ℕ) (x : List ℕ × List ℕ) → IsBytes bytes → path_at total fault bytes ≡ Ok x → Takes bytes (path_text x.0) x.1 × IsPathFit x.0
unfolding path_at path_text
path_takes total fault bytes x fits e =
    by_ok (limited_at total 1 0 64 bytes) _ x e (λ len e0 k0.
    let t = within_takes (Cut total) (Limit (total - length bytes)) 1 0 64 bytes len fits e0 in
    let o = each_takes (within_at (Cut total) fault 1 0 3) (big 1) (λ step. step ≤ 3) (step_takes (Cut total) fault) len.0 len.1 x t.0.rest_fits k0 in (
      counted bytes len.1 x.1 x.0 (length x.0) len.0 (omega (arith, t.2)) o.1 t.0 (Takes-same len.1 (flat_map (big 1) x.0) x.0 x.1 (steps_are x.0 o.2) o.0),
      record { short = omega (arith, o.1, t.2); steps = o.2 },
    ))

step_again : (cut fault : FeedFault) (step : ℕ) (rest : List ℕ) → step ≤ 3 → within_at cut fault 1 0 3 (big 1 step ++ rest) ≡ Ok (step, rest)
step_again cut fault step rest le = within_again cut fault 1 0 3 step rest (omega arith) (omega arith) le

pub path_again : (total : ℕ) (fault : FeedFault) (path rest : List ℕ) → IsPathFit path → path_at total fault (path_text path ++ rest) ≡ Ok (path, rest)
unfolding path_at path_text
path_again total fault path rest fit =
    let small : length path < 256 = omega (arith, fit.short) in
    let text = length path ∷ (path ++ rest) in
    let number : limited_at total 1 0 64 text ≡ Ok (length path, path ++ rest) =
    ap (within_at (Cut total) (Limit (total - length text)) 1 0 64) (sym (ap (λ (w : List ℕ). w ++ (path ++ rest)) (big-one (length path) small)))
    ∙ within_again (Cut total) (Limit (total - length text)) 1 0 64 (length path) (path ++ rest) (omega arith) (omega arith) fit.short in
    let steps : each_at (within_at (Cut total) fault 1 0 3) (length path) (path ++ rest) ≡ Ok (path, rest) =
    ap (λ (w : List ℕ). each_at (within_at (Cut total) fault 1 0 3) (length path) (w ++ rest)) (sym (steps_are path fit.steps))
    ∙ each_again (within_at (Cut total) fault 1 0 3) (big 1) (λ step. step ≤ 3) (step_again (Cut total) fault) path rest fit.steps in
    rw number steps

-- ---- the greatest length of a slice

pub max_takes : (total : ℕ) (fault : FeedFault) (bytes : List ℕ) (x : ℕ × List ℕ) → IsBytes bytes → max_at total fault bytes ≡ Ok x → Takes bytes (big 4 x.0) x.1 × IsMaxFit x.0
unfolding max_at
max_takes total fault bytes x fits e = let t = within_takes (Cut total) fault 4 1 2097152 bytes x fits e in (t.0, record { some = t.1; most = t.2 })

pub max_again : (total : ℕ) (fault : FeedFault) (max : ℕ) (rest : List ℕ) → IsMaxFit max → max_at total fault (big 4 max ++ rest) ≡ Ok (max, rest)
unfolding max_at
max_again total fault max rest fit = within_again (Cut total) fault 4 1 2097152 max rest (omega (arith, fit.most)) fit.some fit.most
