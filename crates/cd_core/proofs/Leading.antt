-- What a batch leads to: a keeper's records stay lists of bytes.
use Rattle.std.proofs.Common.{◌≡◌, ℕ, Bool, true, false, cond, List, [], ◌∷◌, Some, None, sym, ◌∙◌, subst}
use Rattle.std.specs.Ordering.{nat_cmp, eq_by_cmp}
use Rattle.std.specs.Cmp.Lexicographic.{slice_cmp, nat_list_cmp_total}
use Rattle.std.specs.FinMap as finite
use Rattle.std.specs.FinMap.{get, get-insert, get-remove}
use Rattle.std.proofs.lemmas.Option.{none-some, same_Some}
use Rattle.cd_base.specs.Numbers.{IsBytes}
use Rattle.cd_keeper.specs.Contents.{Table, Contents, Change, put_all, drop_all, changed}
use Rattle.cd_world.specs.ToldTrees.{HasBytes}
use Rattle.cd_count.specs.PlanRows.{AreOfBytes}

-- each value of a table is a list of bytes
abbrev IsOfBytes : Table → Type 0
IsOfBytes table = (key value : List ℕ) → get table key ≡ Some value → IsBytes value

bytes-insert : (table : Table) (k v : List ℕ) → IsOfBytes table → IsBytes v → IsOfBytes (finite.insert table k v)
bytes-insert table k v are is key value at = by (eq_by_cmp (slice_cmp nat_cmp) key k) (sym (get-insert nat_list_cmp_total table k v key) ∙ at)
  where
    by : (b : Bool) → cond b (Some v) (get table key) ≡ Some value → IsBytes value
    by true e = subst IsBytes (same_Some v value e) is
    by false e = are key value e

bytes-remove : (table : Table) (k : List ℕ) → IsOfBytes table → IsOfBytes (finite.remove table k)
bytes-remove table k are key value at = by (eq_by_cmp (slice_cmp nat_cmp) key k) (sym (get-remove nat_list_cmp_total table k key) ∙ at)
  where
    by : (b : Bool) → cond b None (get table key) ≡ Some value → IsBytes value
    by true e = absurd (none-some value e)
    by false e = are key value e

bytes-put_all : (es : List (List ℕ × List ℕ)) (table : Table) → IsOfBytes table → AreOfBytes es → IsOfBytes (put_all table es)
bytes-put_all [] table are all = are
bytes-put_all (e ∷ es) table are all = bytes-put_all es (finite.insert table e.0 e.1) (bytes-insert table e.0 e.1 are all.0) all.1

bytes-drop_all : (ks : List (List ℕ)) (table : Table) → IsOfBytes table → IsOfBytes (drop_all table ks)
bytes-drop_all [] table are = are
bytes-drop_all (k ∷ ks) table are = bytes-drop_all ks (finite.remove table k) (bytes-remove table k are)

-- a batch of bytes leaves bytes
pub bytes-changed : (change : Change) (contents : Contents) → HasBytes contents → AreOfBytes change.put_cells → HasBytes (changed change contents)
bytes-changed change contents are puts =
    bytes-put_all change.put_cells (drop_all contents.cells change.drop_cells) (bytes-drop_all change.drop_cells contents.cells are) puts
