-- What the plan of a block that comes stands on.
use Rattle.std.proofs.Common.{◌≡◌, ℕ, suc, ◌<◌, ◌≤◌, ◌&&◌, Bool, true, false, cond, filter, find, List, [], ◌∷◌, length, map, Contains, Option, Some, None, IfSome, IsSome, nat_lt, refl, sym, ap, ◌∙◌, subst, arith, ⊎_elim}
use Rattle.std.specs.Prelude.{slice_index_or, Result, Ok, Err}
use Rattle.cd_count.specs.declared.count_fault.CountFault.{CountFault}
use Rattle.cd_count.specs.declared.count_fault.CountFault.TheVariants.{Clash, CountFull, Keeper, Memory}
use Rattle.cd_count.specs.Clashes.{IsOutside, RefusesClash, RefusesFull}
use Rattle.std.specs.Option.{option_map, option_or, option_and_then, option_map_or, unwrap_or}
use Rattle.std.specs.List.{AllByRecursion, IsDistinct}
use Rattle.std.specs.Str.{bytes_eq}
use Rattle.std.specs.Ordering.{nat_cmp, is_lt}
use Rattle.std.specs.Cmp.Lexicographic.{slice_cmp}
use Rattle.std.specs.Map.{lookup}
use Rattle.std.specs.BTreeMap as tree
use Rattle.std.proofs.lemmas.Bool.{ltb-false}
use Rattle.std.proofs.lemmas.Option.{none-some, same_Some}
use Rattle.std.proofs.lemmas.Slice.Eq.{bytes_eq-Decides}
use Rattle.cd_base.specs.declared.hash.Hash256.{Hash256}
use Rattle.cd_cell.specs.declared.new_cell.NewCell.{NewCell}
use Rattle.cd_cell.specs.FaceView.{FaceView}
use Rattle.cd_cell.specs.Fit.{IsFaceFit}
use Rattle.cd_cell.specs.GoodFace.{IsGoodFace}
use Rattle.cd_cell.specs.Listings.{no_cell, new_cell_of, IsValid}
use Rattle.cd_cell.specs.declared.info.ChildInfo.{ChildInfo}
use Rattle.cd_cell.specs.Tree.{Tree, face_of, subtrees}
use Rattle.cd_cell.specs.Export.{hash_cmp}
use Rattle.cd_cell.proofs.Subtrees.{Contains-nil, Contains-first, Contains-later, Contains-cases, flat_map-listed, flat_map-cases}
use Rattle.cd_cell.proofs.ListTests.{filter-Contains}
use Rattle.cd_keeper.specs.Contents.{Contents}
use Rattle.cd_event.specs.declared.refusal.Refusal.{Refusal}
use Rattle.cd_event.specs.declared.refusal.Refusal.TheVariants as refusal
use Rattle.cd_record.specs.declared.record.Record.{Record}
use Rattle.cd_nodes.specs.Plans as plans
use Rattle.cd_world.specs.World.{Block, World}
use Rattle.cd_world.specs.Told as told
use Rattle.cd_world.specs.Told.{ToldWorld, shown}
use Rattle.cd_count.specs.declared.rows.Row.{Row}
use Rattle.cd_count.specs.Changes.{states, rep_bytes, held_under, AreAdded}
use Rattle.cd_count.specs.Bringing.{unheld, IsBrought, HaveCome}
use Rattle.cd_count.specs.PlanRows.{row_of, rows_of, IsRowFit, AreRowsFit}
use Rattle.cd_count.specs.PlanSteps.{RowMap, first_row, count_of_row}
use Rattle.cd_record.specs.declared.limits.TheConstants.{GREATEST_COUNT}
use Rattle.cd_count.specs.Limits.{within_limit}
use Rattle.cd_count.specs.PlanGiving.{is_another, rises_over, IsRowRight, AreListed, IsRowGood, AreRowsGood}
use Rattle.cd_count.specs.PlanWorlds.{record_of_cell, IsReadable}
use Rattle.cd_count.specs.Reading.{stored_in}
use Rattle.cd_count.proofs.Changes.{new_cells_listed}
use Rattle.cd_count.proofs.Nothing.{same, none-dead}

-- the faces of a valid list are fit
pub all-fit : (cells : List NewCell) → ((k : ℕ) → k < length cells → IsGoodFace (slice_index_or cells k no_cell).face) → AllByRecursion (λ c. IsFaceFit c.face) cells
all-fit [] good = tt
all-fit (c ∷ cs) good = (let first = good 0 (omega arith) in first.fit, all-fit cs (λ k h. good (suc k) (omega (arith, h))))

-- the hashes of a valid list are distinct
unlike : (c : NewCell) (cs : List NewCell) → ((j : ℕ) → j < length cs → c.hash ≡ (slice_index_or cs j no_cell).hash → ⊥) → AllByRecursion (λ y. bytes_eq c.hash.0 y ≡ false) (map (λ x. x.hash.0) cs)
unlike c [] apart = tt
unlike c (x ∷ xs) apart = (by (bytes_eq c.hash.0 x.hash.0) refl, unlike c xs (λ j l e. apart (suc j) (omega (arith, l)) e))
  where
    by : (b : Bool) → bytes_eq c.hash.0 x.hash.0 ≡ b → bytes_eq c.hash.0 x.hash.0 ≡ false
    by false e = e
    by true e = let same = (bytes_eq-Decides c.hash.0 x.hash.0).0 e in absurd (apart 0 (omega arith) (λ i. record { 0 = same i }))

all-unlike : (cells : List NewCell) → ((i j : ℕ) → i < length cells → j < length cells → (slice_index_or cells i no_cell).hash ≡ (slice_index_or cells j no_cell).hash → i ≡ j)
    → IsDistinct bytes_eq (map (λ x. x.hash.0) cells)
unfolding IsDistinct
all-unlike [] apart = tt
all-unlike (c ∷ cs) apart = (
  unlike c cs (λ j l e. let never = apart 0 (suc j) (omega arith) (omega (arith, l)) e in omega (arith, never)),
  all-unlike cs (λ i j li lj e. let same = apart (suc i) (suc j) (omega (arith, li)) (omega (arith, lj)) e in omega (arith, same)),
)

-- no cell is listed yet
pub none-listed : (stored : List ℕ → Option Record) (rows : RowMap) → rows.entries ≡ [] → AreListed stored [] rows
none-listed stored rows empty = record {
  counts = λ q. ap (λ (o : Option Row). count_of_row stored (option_or o (option_map first_row (stored q)))) (none (record { 0 = q }));
  right = λ q r is. right q r (stored q) refl (sym (ap (λ (o : Option Row). option_or o (option_map first_row (stored q))) (none (record { 0 = q }))) ∙ is);
  present = λ c h. absurd (Contains-nil c h);
}
  where
    none : (q : Hash256) → tree.get hash_cmp rows q ≡ None
    none q = ap (λ (es : List (Hash256 × Row)). lookup (tree.is_at (hash_cmp q)) es) empty

    right : (q : List ℕ) (r : Row) (o : Option Record) → stored q ≡ o → option_map first_row o ≡ Some r → IsRowRight stored [] q r
    right q r None at is = absurd (none-some r is)
    right q r (Some x) at is =
        let row : first_row x ≡ r = same_Some (first_row x) r is in
        record {
          count = ap (λ (y : Row). y.stored) (sym row) ∙ sym (ap (option_map (λ (y : Record). y.count)) at);
          face = λ y found. ap (λ (z : Row). z.face) (sym row) ∙ ap (λ (z : Record). z.face) (same_Some x y (sym at ∙ found));
          new = λ nothing. absurd (none-some x (sym nothing ∙ at));
        }

module _ (H : List ℕ → Hash256) where
  keys-named : (listed : List Tree) → map (λ x. x.hash.0) (map (new_cell_of H) listed) ≡ map (rep_bytes H) listed
  keys-named [] = refl
  keys-named (t ∷ ts) = ap (λ ks. rep_bytes H t ∷ ks) (keys-named ts)

  -- and so are those of the trees that it lists
  pub valid-distinct : (root : ChildInfo) (cells : List NewCell) → IsValid H root cells → (listed : List Tree) → map (new_cell_of H) listed ≡ cells → IsDistinct bytes_eq (map (rep_bytes H) listed)
  valid-distinct root cells valid listed named =
      subst (IsDistinct bytes_eq) (sym (ap (map (λ (x : NewCell). x.hash.0)) named) ∙ keys-named listed) (all-unlike cells valid.distinct)

  -- the plan of the rows once a block came
  pub come-added : (old grown : World) (block : Block) (cells : List NewCell) (listed : List Tree) → (so : IsBrought H old grown block cells listed) → IsDistinct bytes_eq (map (rep_bytes H) listed) → (rows : RowMap)
      → HaveCome H old grown block (unheld H old listed) (rows_of rows.entries) → plans.HasNoKeyTwice (slice_cmp nat_cmp) (rows_of rows.entries)
      → AreAdded H old grown (block ∷ []) (unheld H old listed) (rows_of rows.entries)
  come-added old grown block cells listed so distinct rows have once = record {
    came = so.came;
    went = same H grown so.clear;
    clash_free = so.clear;
    new = new_cells_listed H old (block ∷ []) grown.blocks listed so.came distinct
        (λ c h. flat_map-listed (states (block ∷ [])) block.state c (Contains-first block.state []) (so.within c h))
        (λ c h. so.every c (of_block c (flat_map-cases (states (block ∷ [])) c h)));
    ended = none-dead H grown so.clear;
    rows_are = have;
    once = once;
  }
    where
      of_block : (c : Tree) → (r : Tree) × Contains (block.state ∷ []) r × Contains (subtrees r) c → Contains (subtrees block.state) c
      of_block c found = ⊎_elim (λ (is : block.state ≡ found.0). subst (λ (t : Tree). Contains (subtrees t) c) (sym is) found.2) (λ no. absurd (Contains-nil found.0 no)) (Contains-cases block.state [] found.0 found.1)

  module _ (contents : Contents) (old : ToldWorld) (readable : IsReadable H (shown old) contents) where
    abbrev S : List ℕ → Option Record
    S = stored_in contents

    mapped : (q : List ℕ) (offered : FaceView) (o : Option Tree) → told.is_other H (option_map (face_of H) o) offered ≡ is_another (option_map (record_of_cell H (shown old) q) o) offered
    mapped q offered None = refl
    mapped q offered (Some t) = refl

    -- what is stored tells clashes as what is held
    other-is : (c : NewCell) → told.is_other H (told.seen H old c.hash) c.face ≡ is_another (S c.hash.0) c.face
    other-is c = mapped c.hash.0 c.face (held_under H (shown old) c.hash.0) ∙ ap (λ (o : Option Record). is_another o c.face) (sym (readable c.hash.0))

    pub clash-from : (cells : List NewCell) (least : Option NewCell) → least ≡ told.least H (filter (λ c. is_another (S c.hash.0) c.face) cells)
        → told.first_clash H old cells ≡ option_and_then (told.clash_with H old) least
    clash-from cells least is =
        ap (λ (p : NewCell → Bool). option_and_then (told.clash_with H old) (told.least H (filter p cells))) (λ i c. other-is c i) ∙ ap (option_and_then (told.clash_with H old)) (sym is)

    -- the least is one of them
    least-in : (cells : List NewCell) (c : NewCell) → told.least H cells ≡ Some c → Contains cells c
    least-in [] c is = absurd (none-some c is)
    least-in (x ∷ xs) c is = by (least-in xs) (told.least H xs) refl (same_Some (told.lesser H x (told.least H xs)) c is)
      where
        pick : ((d : NewCell) → told.least H xs ≡ Some d → Contains xs d) → (d : NewCell) (b : Bool) → told.least H xs ≡ Some d → cond b d x ≡ c → Contains (x ∷ xs) c
        pick rest d true at s = Contains-later x xs c (rest c (at ∙ ap (λ (y : NewCell). Some y) s))
        pick rest d false at s = subst (Contains (x ∷ xs)) s (Contains-first x xs)

        by : ((d : NewCell) → told.least H xs ≡ Some d → Contains xs d) → (o : Option NewCell) → told.least H xs ≡ o → told.lesser H x o ≡ c → Contains (x ∷ xs) c
        by rest None at s = subst (Contains (x ∷ xs)) s (Contains-first x xs)
        by rest (Some d) at s = pick rest d (is_lt (hash_cmp d.hash x.hash)) at s

    -- the clash that is answered
    pub clash-is : (cells : List NewCell) (c : NewCell) (rows : RowMap) → AreListed S cells rows → Some c ≡ told.least H (filter (λ c. is_another (S c.hash.0) c.face) cells)
        → told.first_clash H old cells ≡ Some (refusal.Clash c.hash (option_map_or (λ (r : Row). r.face) (tree.get hash_cmp rows c.hash) c.face) c.face)
    clash-is cells c rows are is =
        clash-from cells (Some c) is ∙ by (held_under H (shown old) c.hash.0) refl
      where
        inside : Contains cells c × (is_another (S c.hash.0) c.face ≡ true)
        inside = filter-Contains (λ (x : NewCell). is_another (S x.hash.0) x.face) cells c (least-in (filter (λ (x : NewCell). is_another (S x.hash.0) x.face) cells) c (sym is))

        face-row : (t : Tree) (o : Option Row) → tree.get hash_cmp rows c.hash ≡ o → IsSome o → S c.hash.0 ≡ Some (record_of_cell H (shown old) c.hash.0 t) → face_of H t ≡ option_map_or (λ (r : Row). r.face) o c.face
        face-row t None at some stored = absurd cc
        face-row t (Some r) at some stored =
            let right = are.right c.hash.0 r (ap (λ (o : Option Row). option_or o (option_map first_row (S c.hash.0))) at) in
            sym (right.face (record_of_cell H (shown old) c.hash.0 t) stored)

        by : (o : Option Tree) → held_under H (shown old) c.hash.0 ≡ o
            → option_map (λ face. refusal.Clash c.hash face c.face) (option_map (face_of H) (held_under H (shown old) c.hash.0)) ≡ Some (refusal.Clash c.hash (option_map_or (λ (r : Row). r.face) (tree.get hash_cmp rows c.hash) c.face) c.face)
        by None at = absurd (let never : is_another (S c.hash.0) c.face ≡ false = ap (λ (o : Option Record). is_another o c.face) (readable c.hash.0 ∙ ap (option_map (record_of_cell H (shown old) c.hash.0)) at) in cc (never, inside.1))
        by (Some t) at =
            ap (λ (o : Option Tree). option_map (λ face. refusal.Clash c.hash face c.face) (option_map (face_of H) o)) at
            ∙ ap (λ (f : FaceView). Some (refusal.Clash c.hash f c.face)) (face-row t (tree.get hash_cmp rows c.hash) refl (are.present c inside.0) (readable c.hash.0 ∙ ap (option_map (record_of_cell H (shown old) c.hash.0)) at))

-- rows of which none rises over the limit have counts in range
row-fit : (limit : ℕ) → limit ≤ GREATEST_COUNT → (r : Row) → rises_over limit r ≡ false → IsRowGood (row_of r) → IsRowFit (row_of r)
row-fit limit small r low good = record { face = good.face; few = by (nat_lt limit r.count) refl r.stored good.few low }
  where
    by : (b : Bool) → nat_lt limit r.count ≡ b → (o : Option ℕ) → IfSome o (λ n. n ≤ GREATEST_COUNT) → (b && nat_lt (unwrap_or o 0) r.count) ≡ false → r.count ≤ GREATEST_COUNT
    by false at o few none = let l = ltb-false limit r.count at in omega arith
    by true at None few none = let l = ltb-false 0 r.count none in omega arith
    by true at (Some n) few none = let l = ltb-false n r.count none in omega arith

pub fit-within : (limit : ℕ) → limit ≤ GREATEST_COUNT → (es : List (Hash256 × Row)) → within_limit (find (λ e. rises_over limit e.1) es) ≡ Ok tt → AreRowsGood (rows_of es) → AreRowsFit (rows_of es)
fit-within limit small [] is good = tt
fit-within limit small (e ∷ es) is good = by (rises_over limit e.1) refl is (fit-within limit small es)
  where
    by : (b : Bool) → rises_over limit e.1 ≡ b → within_limit (cond b (Some e) (find (λ x. rises_over limit x.1) es)) ≡ Ok tt
        → (within_limit (find (λ x. rises_over limit x.1) es) ≡ Ok tt → AreRowsGood (rows_of es) → AreRowsFit (rows_of es)) → AreRowsFit (rows_of (e ∷ es))
    by true at s rest = absurd cc
    by false at s rest = (row-fit limit small e.1 at good.0, rest s good.1)

-- faults from outside refuse nothing
pub outside-refuses : {T : Type 0} (first : Option Refusal) (fault : CountFault) (result : Result T CountFault) → result ≡ Err fault → IsOutside fault → RefusesClash first result
outside-refuses {T} first fault result is out = subst (λ (r : Result T CountFault). RefusesClash first r) (sym is) (refuses fault out)
  where
    refuses : (f : CountFault) → IsOutside f → RefusesClash {T = T} first (Err f)
    refuses Keeper out = tt
    refuses Memory out = tt
    refuses (Clash hash stored offered) out = absurd out
    refuses (CountFull hash count) out = absurd out

-- a count over the limit is no clash
pub limit-refuses : {T : Type 0} (first : Option Refusal) (o : Option (Hash256 × Row)) (fault : CountFault) (result : Result T CountFault)
    → within_limit o ≡ Err fault → result ≡ Err fault → first ≡ None → RefusesClash first result
limit-refuses first None fault result e is none = absurd cc
limit-refuses {T} first (Some x) fault result e is none =
    let same_fault : CountFull x.0 x.1.count ≡ fault = cc in
    subst (λ (r : Result T CountFault). RefusesClash first r) (ap (λ (f : CountFault). Err f) same_fault ∙ sym is) none

-- ---- the same of counts

pub clash-fills : {T : Type 0} (first : Option Refusal) (hash : Hash256) (stored offered : FaceView) (fault : CountFault) (result : Result T CountFault)
    → result ≡ Err fault → fault ≡ Clash hash stored offered → RefusesFull first result
clash-fills {T} first hash stored offered fault result is clash = subst (λ (r : Result T CountFault). RefusesFull first r) (sym (is ∙ ap (λ (f : CountFault). Err f) clash)) tt

pub outside-fills : {T : Type 0} (first : Option Refusal) (fault : CountFault) (result : Result T CountFault) → result ≡ Err fault → IsOutside fault → RefusesFull first result
outside-fills {T} first fault result is out = subst (λ (r : Result T CountFault). RefusesFull first r) (sym is) (refuses fault out)
  where
    refuses : (f : CountFault) → IsOutside f → RefusesFull {T = T} first (Err f)
    refuses Keeper out = tt
    refuses Memory out = tt
    refuses (Clash hash stored offered) out = absurd out
    refuses (CountFull hash count) out = absurd out

pub limit-fills : {T : Type 0} (first : Option Refusal) (o : Option (Hash256 × Row)) (fault : CountFault) (result : Result T CountFault)
    → within_limit o ≡ Err fault → result ≡ Err fault → first ≡ option_map (λ (e : Hash256 × Row). refusal.CountFull e.0 e.1.count) o → RefusesFull first result
limit-fills first None fault result e is first_is = absurd cc
limit-fills {T} first (Some x) fault result e is first_is =
    let same_fault : CountFull x.0 x.1.count ≡ fault = cc in
    subst (λ (r : Result T CountFault). RefusesFull first r) (ap (λ (f : CountFault). Err f) same_fault ∙ sym is) first_is

pub within-fills : (first : Option Refusal) (o : Option (Hash256 × Row)) → within_limit o ≡ Ok tt → first ≡ option_map (λ (e : Hash256 × Row). refusal.CountFull e.0 e.1.count) o → first ≡ None
within-fills first None e is = is
within-fills first (Some x) e is = absurd cc
