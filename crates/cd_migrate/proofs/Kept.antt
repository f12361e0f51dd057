-- A migration keeps the world whose contents it rewrites.
use Rattle.std.proofs.Common.{◌≡◌, ℕ, ◌*◌, ◌≤◌, Bool, true, false, cond, List, [], ◌∷◌, map, take, length, Option, Some, None, Result, Ok, Err, Contains, refl, sym, ap, ◌∙◌, subst, ⊎_elim, ◌⊎◌, inl, inr, arith}
use Rattle.std.specs.Prelude.{◌&&◌, is_ok}
use Rattle.std.specs.Ordering.{nat_cmp, eq_by_cmp}
use Rattle.std.specs.Option.{option_map}
use Rattle.std.specs.Cmp.Lexicographic.{slice_cmp, nat_list_cmp_total}
use Rattle.std.specs.FinMap as finite
use Rattle.std.specs.FinMap.{slice_cmp-IsAntisymmetric, nat_cmp-IsAntisymmetric}
use Rattle.std.proofs.lemmas.Bool.{true≢false}
use Rattle.std.proofs.lemmas.Option.{same_Some}
use Rattle.std.proofs.lemmas.List.{take_all}
use Rattle.std.proofs.lemmas.List.Elements.{All-contains, recursion_from_All, All-take, All-weaker, All-map, All-contains_itself}
use Rattle.cd_base.specs.declared.hash.Hash256.{Hash256}
use Rattle.cd_record.specs.declared.record.Record.{Record}
use Rattle.cd_record.specs.declared.record_fault.RecordFault.{RecordFault}
use Rattle.cd_record.specs.RecordReading.{record_in}
use Rattle.cd_keeper.specs.Contents.{Table, Contents, put_all}
use Rattle.cd_cell.proofs.Subtrees.{Contains-first, Contains-later, Contains-cases, Contains-map, Contains-mapped, Contains-nil}
use Rattle.cd_world.specs.Image as text
use Rattle.cd_world.specs.Image.{is_version_1, plain_record, plain_cells, plain, image_of, IsContentsOf, IsPlain}
use Rattle.cd_world.proofs.Held.{same_bytes, bytes_tie}
use Rattle.cd_world.proofs.Plain.{ArePlain, plain_record-text, get-plain_cells, plain-changed, contents-plain}
use Rattle.cd_world.proofs.Orders.{Contains-filter, Contains-filtered}
use Rattle.cd_world.proofs.Tables.{table-get, table-got}
use Rattle.cd_migrate.specs.declared.limits.TheConstants.{BATCH_RECORDS}
use Rattle.cd_migrate.specs.Rewritten.{Entry, is_old, is_old_text, renewed, old_entries, rewritten, after_batches, all_batches}
use Rattle.cd_migrate.specs.Walking.{only_puts}
use Rattle.cd_migrate.specs.Worlds.{KeepsTheWorld, GivesTheImage}

same_tables : (s t : Table) → ((q : List ℕ) → finite.get s q ≡ finite.get t q) → s ≡ t
same_tables s t at = finite.same_map nat_list_cmp_total (slice_cmp-IsAntisymmetric nat_cmp-IsAntisymmetric) s t at

-- what isn't rewritten stays
other-stays : (bytes : List ℕ) → is_old_text bytes ≡ false → plain_record bytes ≡ bytes
other-stays bytes other = by (is_version_1 bytes) (record_in bytes) other
  where
    by : (old : Bool) (r : Result Record RecordFault) → (old && is_ok r) ≡ false → cond old (text.renewed bytes r) bytes ≡ bytes
    by true (Ok r) is = absurd (true≢false is)
    by true (Err e) is = refl
    by false r is = refl

-- a text in version 2 stays
plain-twice : (bytes : List ℕ) → plain_record (plain_record bytes) ≡ plain_record bytes
plain-twice bytes = by (is_version_1 bytes) (record_in bytes) (other-stays bytes)
  where
    by : (old : Bool) (r : Result Record RecordFault) → ((old && is_ok r) ≡ false → plain_record bytes ≡ bytes) → plain_record (cond old (text.renewed bytes r) bytes) ≡ cond old (text.renewed bytes r) bytes
    by true (Ok r) stays = plain_record-text r.count r.face
    by true (Err e) stays = stays refl
    by false r stays = stays refl

-- putting what stands there changes nothing
put-same : (t : Table) (key value : List ℕ) → finite.get t key ≡ Some value → finite.insert t key value ≡ t
put-same t key value is = same_tables (finite.insert t key value) t (λ q. finite.get-insert nat_list_cmp_total t key value q ∙ by q (eq_by_cmp (slice_cmp nat_cmp) q key) refl)
  where
    by : (q : List ℕ) (b : Bool) → eq_by_cmp (slice_cmp nat_cmp) q key ≡ b → cond b (Some value) (finite.get t q) ≡ finite.get t q
    by q true same = sym is ∙ ap (finite.get t) (sym (same_bytes q key same))
    by q false other = refl

put-all-same : (puts : List Entry) (t : Table) → ((e : Entry) → Contains puts e → finite.get t e.0 ≡ Some e.1) → put_all t puts ≡ t
put-all-same [] t there = refl
put-all-same (e ∷ puts) t there =
    ap (λ s. put_all s puts) (put-same t e.0 e.1 (there e (Contains-first e puts)))
    ∙ put-all-same puts t (λ x h. there x (Contains-later e puts x h))

-- what stands there after puts is one of them, or stood there before and no put has its key
got-put : (puts : List Entry) (t : Table) (q v : List ℕ) → finite.get (put_all t puts) q ≡ Some v
    → ((e : Entry) × Contains puts e × (e.1 ≡ v)) ⊎ ((finite.get t q ≡ Some v) × ((e : Entry) → Contains puts e → e.0 ≡ q → ⊥))
got-put [] t q v is = inr (is, λ e h same. Contains-nil e h)
got-put (e ∷ puts) t q v is = by (got-put puts (finite.insert t e.0 e.1) q v is)
  where
    before : (b : Bool) → eq_by_cmp (slice_cmp nat_cmp) q e.0 ≡ b → cond b (Some e.1) (finite.get t q) ≡ Some v → ((x : Entry) → Contains puts x → x.0 ≡ q → ⊥)
        → ((x : Entry) × Contains (e ∷ puts) x × (x.1 ≡ v)) ⊎ ((finite.get t q ≡ Some v) × ((x : Entry) → Contains (e ∷ puts) x → x.0 ≡ q → ⊥))
    before true tied at none = inl (e, Contains-first e puts, same_Some e.1 v at)
    before false other at none =
        inr (at, λ x h same. ⊎_elim (λ first. absurd (true≢false (sym (bytes_tie q e.0 (sym same ∙ ap (λ (y : Entry). y.0) (sym first))) ∙ other))) (λ later. none x later same) (Contains-cases e puts x h))

    by : ((x : Entry) × Contains puts x × (x.1 ≡ v)) ⊎ ((finite.get (finite.insert t e.0 e.1) q ≡ Some v) × ((x : Entry) → Contains puts x → x.0 ≡ q → ⊥))
        → ((x : Entry) × Contains (e ∷ puts) x × (x.1 ≡ v)) ⊎ ((finite.get t q ≡ Some v) × ((x : Entry) → Contains (e ∷ puts) x → x.0 ≡ q → ⊥))
    by (inl put) = inl (put.0, Contains-later e puts put.0 put.1, put.2)
    by (inr kept) = before (eq_by_cmp (slice_cmp nat_cmp) q e.0) refl (sym (finite.get-insert nat_list_cmp_total t e.0 e.1 q) ∙ kept.0) kept.1

module _ (contents : Contents) where
  old-there : (e : Entry) → Contains (old_entries contents) e → finite.get contents.cells e.0 ≡ Some e.1
  old-there e h = table-get contents.cells e (Contains-filter is_old (finite.entries contents.cells) e h).0

  -- in version 2 they are the same contents
  pub plain-rewritten : (n : ℕ) → plain (rewritten n contents) ≡ plain contents
  plain-rewritten n =
      let some = take n (old_entries contents) in
      let plain_puts : ArePlain (map renewed some) =
      recursion_from_All (λ (e : Entry). plain_record e.1 ≡ e.1) (map renewed some)
      (All-map (λ (e : Entry). plain_record e.1 ≡ e.1) renewed some (All-weaker (Contains some) (λ (e : Entry). plain_record (plain_record e.1) ≡ plain_record e.1) (λ e h. plain-twice e.1) some (All-contains_itself some))) in
      let there : (e : Entry) → Contains (map renewed some) e → finite.get (plain_cells contents.cells) e.0 ≡ Some e.1 =
      λ e h.
      let from = Contains-map renewed some e h in
      let old = All-contains (Contains (old_entries contents)) some from.0 (All-take (Contains (old_entries contents)) n (old_entries contents) (All-contains_itself (old_entries contents))) from.1 in
      subst (λ (x : Entry). finite.get (plain_cells contents.cells) x.0 ≡ Some x.1) from.2
      (get-plain_cells contents.cells (renewed from.0).0 ∙ ap (option_map plain_record) (old-there from.0 old)) in
      plain-changed (only_puts (map renewed some)) contents plain_puts
      ∙ ap (λ (t : Table). let c : Contents = record { cells = t; descs = contents.descs } in c) (put-all-same (map renewed some) (plain_cells contents.cells) there)

  -- and once all are rewritten, no record of version 1 is left
  pub rewritten-plain : (n : ℕ) → length (old_entries contents) ≤ n → IsPlain (rewritten n contents)
  rewritten-plain n all = record { same = ap (λ (t : Table). let c : Contents = record { cells = t; descs = contents.descs } in c) (same_tables (plain_cells whole) whole (λ q. get-plain_cells whole q ∙ each q (finite.get whole q) refl)) }
    where
      puts : List Entry
      puts = map renewed (take n (old_entries contents))

      whole : Table
      whole = put_all contents.cells puts

      stays : (q v : List ℕ) → finite.get whole q ≡ Some v → plain_record v ≡ v
      stays q v is = ⊎_elim
          (λ put.
          let from = Contains-map renewed (take n (old_entries contents)) put.0 put.1 in
          subst (λ bs. plain_record bs ≡ bs) (ap (λ (e : Entry). e.1) from.2 ∙ put.2) (plain-twice from.0.1))
          (λ kept.
          let entry = table-got contents.cells q v kept.0 in
          other-stays v (old_put entry.0 entry.1 entry.2 entry.3 (λ e h. kept.1 e h) (is_old_text v) refl))
          (got-put puts contents.cells q v is)
        where
          old_put : (e : Entry) → Contains (finite.entries contents.cells) e → q ≡ e.0 → e.1 ≡ v → ((x : Entry) → Contains puts x → x.0 ≡ q → ⊥) → (b : Bool) → is_old_text v ≡ b → b ≡ false
          old_put e h key value none true old =
              absurd (none (renewed e)
              (Contains-mapped renewed (take n (old_entries contents)) e (subst (λ xs. Contains xs e) (sym (take_all n (old_entries contents) all)) (Contains-filtered is_old (finite.entries contents.cells) e h (subst (λ bs. is_old_text bs ≡ true) (sym value) old))))
              (sym key))
          old_put e h key value none false other = refl

      each : (q : List ℕ) (o : Option (List ℕ)) → finite.get whole q ≡ o → option_map plain_record (finite.get whole q) ≡ finite.get whole q
      each q None is = ap (option_map plain_record) is ∙ sym is
      each q (Some v) is = ap (option_map plain_record) is ∙ ap Some (stays q v is) ∙ sym is

module _ (H : List ℕ → Hash256) where
  pub keeps_the_world : KeepsTheWorld H
  keeps_the_world world contents n are = record { plainly = plain-rewritten contents n ∙ are.plainly }

  pub gives_the_image : GivesTheImage H
  gives_the_image world contents are =
      contents-plain H world (after_batches (all_batches contents) contents) (keeps_the_world world contents (BATCH_RECORDS * all_batches contents) are)
      (rewritten-plain contents (BATCH_RECORDS * all_batches contents) (omega arith))
