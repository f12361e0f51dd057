-- Puts and drops of different keys may come in either order.
use Rattle.std.proofs.Common.{◌≡◌, ℕ, Bool, true, false, cond, List, [], ◌∷◌, ◌++◌, Some, None, refl, sym, ap, ◌∙◌}
use Rattle.std.specs.Cmp.Lexicographic.{nat_list_cmp_total}
use Rattle.std.specs.FinMap as finite
use Rattle.std.specs.List.{AllByRecursion, IsDistinct}
use Rattle.std.specs.Map.{keys_of}
use Rattle.std.proofs.lemmas.Bool.{or_parts}
use Rattle.std.proofs.lemmas.Map.Keys.{IsDistinct-head, IsDistinct-tail}
use Rattle.cd_keeper.specs.Contents.{Table, Change, put_all, drop_all, changed}
use Rattle.cd_keeper.specs.NoKeyTwice.{HasNoKeyTwice, IsNew, same_key}
use Rattle.cd_keeper.proofs.TableLaws.{same_table, same_key-equiv}

in_turn : {A : Type 0} (a b : Bool) (x y z : A) → (a ≡ true → b ≡ false) → cond a x (cond b y z) ≡ cond b y (cond a x z)
in_turn true b x y z other = rw (other refl) refl
in_turn false b x y z other = refl

remove-insert-other : (table : Table) (key value drop : List ℕ) → same_key drop key ≡ false → finite.remove (finite.insert table key value) drop ≡ finite.insert (finite.remove table drop) key value
remove-insert-other table key value drop other = same_table _ _ (λ q.
    finite.get-remove nat_list_cmp_total _ drop q
    ∙ ap (cond (same_key q drop) None) (finite.get-insert nat_list_cmp_total table key value q)
    ∙ in_turn (same_key q drop) (same_key q key) None (Some value) (finite.get table q) (λ same. same_key-equiv.congr q drop key same ∙ other)
    ∙ sym (finite.get-insert nat_list_cmp_total _ key value q ∙ ap (cond (same_key q key) (Some value)) (finite.get-remove nat_list_cmp_total table drop q)))

remove-put_all : (table : Table) (puts : List (List ℕ × List ℕ)) (drop : List ℕ) → IsNew drop (keys_of puts) → finite.remove (put_all table puts) drop ≡ put_all (finite.remove table drop) puts
remove-put_all table [] drop new = refl
remove-put_all table (e ∷ puts) drop new =
    let parts = or_parts (same_key drop e.0) _ new in
    remove-put_all (finite.insert table e.0 e.1) puts drop parts.1 ∙ ap (λ t. put_all t puts) (remove-insert-other table e.0 e.1 drop parts.0)

new-from_apart : (key : List ℕ) (keys : List (List ℕ)) → AllByRecursion (λ other. same_key key other ≡ false) keys → IsNew key keys
new-from_apart key [] all = refl
new-from_apart key (k ∷ keys) all = rw (all.0) (new-from_apart key keys all.1)

later-apart : (key : List ℕ) (front back : List (List ℕ)) → AllByRecursion (λ other. same_key key other ≡ false) (front ++ back) → AllByRecursion (λ other. same_key key other ≡ false) back
later-apart key [] back all = all
later-apart key (k ∷ front) back all = later-apart key front back all.1

-- drops after puts of other keys are drops before them
pub drop_all-put_all : (table : Table) (puts : List (List ℕ × List ℕ)) (drops : List (List ℕ)) → IsDistinct same_key (drops ++ keys_of puts) → drop_all (put_all table puts) drops ≡ put_all (drop_all table drops) puts
drop_all-put_all table puts [] distinct = refl
drop_all-put_all table puts (drop ∷ drops) distinct =
    let apart = later-apart drop drops (keys_of puts) (IsDistinct-head same_key drop (drops ++ keys_of puts) distinct) in
    ap (λ t. drop_all t drops) (remove-put_all table puts drop (new-from_apart drop (keys_of puts) apart))
    ∙ drop_all-put_all (finite.remove table drop) puts drops (IsDistinct-tail same_key drop (drops ++ keys_of puts) distinct)

-- a change whose puts come first
pub changed-puts_first : (change : Change) (cells descs : Table) → HasNoKeyTwice change → record { cells = drop_all (put_all cells change.put_cells) change.drop_cells; descs = drop_all (put_all descs change.put_descs) change.drop_descs } ≡ changed change record { cells = cells; descs = descs }
changed-puts_first change cells descs once = λ i. record {
  cells = drop_all-put_all cells change.put_cells change.drop_cells once.cells i;
  descs = drop_all-put_all descs change.put_descs change.drop_descs once.descs i;
}
