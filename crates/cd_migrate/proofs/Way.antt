-- Steps of a migration: a record more, a batch more, and its end.
use Rattle.std.proofs.Common.{◌≡◌, ℕ, suc, ◌+◌, ◌-◌, ◌*◌, ◌<◌, ◌≤◌, Bool, true, false, not, cond, List, [], ◌∷◌, ◌++◌, map, take, drop, filter, length, All, Option, Some, None, Result, Ok, Err, Contains, refl, sym, ap, ap₂, ◌∙◌, subst, ⊎_elim, if◌then◌else◌, arith}
use Rattle.std.specs.Prelude.{IfSome, IfOk, OnOk, OnErr}
use Rattle.std.specs.List.{list_any}
use Rattle.std.specs.FinMap as finite
use Rattle.std.proofs.lemmas.Bool.{true≢false}
use Rattle.std.proofs.lemmas.Option.{none-some, same_Some}
use Rattle.std.proofs.lemmas.List.{map-append, length-append, drop-append-le, length-drop, length-map, take_all, append-nil}
use Rattle.std.proofs.lemmas.List.Elements.{filter-append, filter_passes, All-filter, All-take, All-contains, All-map, All-weaker, All-contains_itself, Contains-push_cases}
use Rattle.std.proofs.lemmas.List.Folds.{list_any_none}
use Rattle.std.proofs.Math.ListN.{drop_of_length-le}
use Rattle.cd_base.specs.declared.hash.Hash256.{Hash256}
use Rattle.cd_keeper.specs.Contents.{Contents, Change, changed, is_above, next_entry}
use Rattle.cd_keeper.specs.Keeping.{KeepsHeld, IsApplied}
use Rattle.cd_keeper.specs.NoKeyTwice.{same_key, cell_keys, IsNew}
use Rattle.cd_world.specs.Image.{plain_record}
use Rattle.cd_world.specs.Walks.{above}
use Rattle.cd_world.proofs.Held.{same_bytes}
use Rattle.cd_world.proofs.Walks.{next-some, next-none}
use Rattle.cd_world.proofs.Tables.{table-in_order, not_before_itself, less_of}
use Rattle.cd_migrate.specs.declared.limits.TheConstants.{BATCH_RECORDS}
use Rattle.cd_migrate.specs.declared.migrated.Migrated.{Migrated}
use Rattle.cd_migrate.specs.declared.migrate_fault.MigrateFault.{MigrateFault}
use Rattle.cd_migrate.specs.declared.migrating.Migration.{Migration}
use Rattle.cd_migrate.specs.Rewritten.{Entry, is_old, is_old_text, renewed, old_entries, after_batches, all_batches, at_most_last, migrated_of, AreMade}
use Rattle.cd_migrate.specs.Walking.{upto, only_puts, bound_of, olds_met, IsApart, IsUnderWay, IsPart}
use Rattle.cd_migrate.proofs.MetEntries.{not_above, met-left, met-more, met-all, met-none, left-put_all}
use Rattle.cd_migrate.proofs.Batches.{met, made-none, made-kept, made-more, rewritten-more, met-few, met-parts, take-met}

-- ---- whether a record was of version 1

pub no-text : (b : Bool) (text : List ℕ) → None ≡ (if b then Some text else None) → b ≡ false
no-text true text is = absurd (none-some text is)
no-text false text is = refl

pub a-text : (b : Bool) (text new : List ℕ) → Some new ≡ (if b then Some text else None) → (b ≡ true) × (new ≡ text)
a-text true text new is = (refl, same_Some new text is)
a-text false text new is = absurd (none-some new (sym is))

pub on-ok : {T E P Q R : Type 0} (r : Result T E) → OnOk r P → OnOk r Q → (P → Q → R) → OnOk r R
on-ok (Ok x) p q f = f p q
on-ok (Err e) p q f = tt

pub if_some-is : {A : Type 0} (P : A → Type 0) (o : Option A) → ((x : A) → o ≡ Some x → P x) → IfSome o P
if_some-is P None f = tt
if_some-is P (Some x) f = f x refl

pub if_ok-told : {A T E : Type 0} (Q : A → T → Type 0) (o : Option A) (r : Result T E) → IfSome o (λ x. IfOk r (Q x)) → IfOk r (λ y. IfSome o (λ x. Q x y))
if_ok-told Q None (Ok y) h = tt
if_ok-told Q (Some x) (Ok y) h = h
if_ok-told Q o (Err e) h = tt

passed : (b : Bool) → not b ≡ true → b ≡ false
passed true e = absurd (true≢false (sym e))
passed false e = refl

-- ---- the batch

module _ (m : Migration) (apart : IsApart m) (hash : Hash256) (high : is_above (bound_of m) hash.0 ≡ true) where
  abbrev puts : List Entry
  puts = let batch = m.batch in batch.put_cells

  pub is-new : IsNew hash.0 (cell_keys m.batch)
  is-new =
      ap (λ (change : Change). list_any (same_key hash.0) (cell_keys change)) apart.only
      ∙ list_any_none (same_key hash.0) (map (λ (e : Entry). e.0) puts)
      (All-map (λ k. same_key hash.0 k ≡ false) (λ (e : Entry). e.0) puts
      (All-weaker (Contains puts) (λ (e : Entry). same_key hash.0 e.0 ≡ false) (λ e h. other e h (same_key hash.0 e.0) refl) puts (All-contains_itself puts)))
    where
      other : (e : Entry) → Contains puts e → (b : Bool) → same_key hash.0 e.0 ≡ b → b ≡ false
      other e h true same = absurd (true≢false (sym high ∙ ap (is_above (bound_of m)) (same_bytes hash.0 e.0 same) ∙ apart.met e h))
      other e h false same = refl

  pub apart-kept : (done : Migrated) → IsApart record { after = Some hash; batch = m.batch; done = done }
  apart-kept done = record { only = apart.only; met = λ e h. not_above (bound_of m) e.0 hash.0 (apart.met e h) high }

  not_itself : is_above (Some hash.0) hash.0 ≡ false
  not_itself = by (is_above (Some hash.0) hash.0) refl
    where
      by : (b : Bool) → is_above (Some hash.0) hash.0 ≡ b → b ≡ false
      by true e = absurd (not_before_itself hash.0 (less_of _ e))
      by false e = refl

  pub apart-more : (text : List ℕ) (batch : Change) (done : Migrated) → batch ≡ (let old = m.batch in record old { put_cells = puts ++ (hash.0, text) ∷ [] }) → IsApart record { after = Some hash; batch = batch; done = done }
  apart-more text batch done is = record {
    only = is ∙ ap (λ (old : Change). record old { put_cells = puts ++ (hash.0, text) ∷ [] }) apart.only ∙ sym (ap (λ (b : Change). only_puts b.put_cells) is);
    met = λ e h. ⊎_elim
        (λ old. not_above (bound_of m) e.0 hash.0 (apart.met e old) high)
        (λ same. subst (λ (x : Entry). is_above (Some hash.0) x.0 ≡ false) same not_itself)
        (Contains-push_cases puts (hash.0, text) e (subst (λ (b : Change). Contains b.put_cells e) is h));
  }

-- ---- steps

pub part-again : {S T U : Type 0} (held : S → Option Contents) (trail : S → Option (List Contents)) (batches : S → ℕ) (contents : Contents) (start new : S) (fault : MigrateFault) → IsPart held trail batches {T = T} contents start new (Err fault)
    → (r : Result U MigrateFault) (e : MigrateFault) → r ≡ Err e → IsPart held trail batches contents start new r
part-again held trail batches contents start new fault part r e is =
    subst (IsPart held trail batches contents start new) (sym is) record { n = part.n; made = part.made; so_far = part.so_far }

module _ {S : Type 0} (held : S → Option Contents) (trail : S → Option (List Contents)) (batches : S → ℕ) (contents : Contents) (start : S) where
  pub way-begins : held start ≡ Some contents → IsUnderWay held trail batches contents start start record { after = None; batch = only_puts []; done = record { records = 0; rewritten = 0 } }
  way-begins is =
      let none : upto None (finite.entries contents.cells) ≡ [] = met-none (finite.entries contents.cells) in
      let olds : filter is_old (upto None (finite.entries contents.cells)) ≡ [] = ap (filter is_old) none in
      record {
        n = 0;
        made = made-none held trail batches contents start is;
        puts = sym (ap (λ xs. map renewed (drop (BATCH_RECORDS * 0) xs)) olds);
        low = (let few = ap length olds in omega (arith, few));
        few = (let few = ap length olds in omega (arith, few));
        records = sym (ap (λ xs. at_most_last (length xs)) none);
        rewritten = sym (ap (λ xs. at_most_last (length xs)) olds);
      }

  -- a batch more, of the records that were met since the last one
  more : (n : ℕ) (now new : S) (bound : Option (List ℕ)) (change : Change) → AreMade held trail batches n contents start now
      → change ≡ only_puts (map renewed (drop (BATCH_RECORDS * n) (met contents bound))) → BATCH_RECORDS * n ≤ length (met contents bound)
      → IsApplied held trail batches change now new → take (BATCH_RECORDS * suc n) (old_entries contents) ≡ met contents bound
      → AreMade held trail batches (suc n) contents start new
  more n now new bound change made is low applied whole =
      made-more held trail batches contents n start now new change made applied
      (ap (λ (ch : Change). changed ch (after_batches n contents)) is
      ∙ rewritten-more contents (BATCH_RECORDS * n) (BATCH_RECORDS * suc n) (drop (BATCH_RECORDS * n) (met contents bound)) (whole ∙ sym (met-parts contents bound (BATCH_RECORDS * n) low)))

  module _ (now : S) (m : Migration) (way : IsUnderWay held trail batches contents start now m) where
    abbrev after : Option (List ℕ)
    after = bound_of m

    abbrev es : List Entry
    es = finite.entries contents.cells

    abbrev olds : List Entry
    olds = olds_met contents m

    few-batches : way.n ≤ all_batches contents
    few-batches = (let low = way.low in let few = met-few contents after in omega (arith, low, few))

    -- a refusal leaves the batches so far
    pub part-refused : (new : S) → KeepsHeld held trail batches now new → {T : Type 0} (r : Result T MigrateFault) (e : MigrateFault) → r ≡ Err e → IsPart held trail batches contents start new r
    part-refused new keeps r e is =
        subst (IsPart held trail batches contents start new) (sym is)
        record { n = way.n; made = made-kept held trail batches contents way.n start now new way.made keeps; so_far = few-batches }

    pub part-left : (new : S) → KeepsHeld held trail batches now new → {T : Type 0} (r : Result T MigrateFault) → OnErr r (IsPart held trail batches contents start new r)
    part-left new keeps (Ok x) = tt
    part-left new keeps (Err e) = record { n = way.n; made = made-kept held trail batches contents way.n start now new way.made keeps; so_far = few-batches }

    -- what fails leaves them too
    pub part-after : (new : S) {T : Type 0} (r : Result T MigrateFault) → OnErr r (KeepsHeld held trail batches now new) → OnErr r (IsPart held trail batches contents start new r)
    part-after new (Ok x) keeps = tt
    part-after new (Err e) keeps = part-left new keeps (Err e)

    pub way-kept : (new : S) → KeepsHeld held trail batches now new → IsUnderWay held trail batches contents start new m
    way-kept new keeps = record {
      n = way.n;
      made = made-kept held trail batches contents way.n start now new way.made keeps;
      puts = way.puts;
      low = way.low;
      few = way.few;
      records = way.records;
      rewritten = way.rewritten;
    }

    -- ---- what the keeper gives next

    -- what was rewritten isn't above what was met
    same_left : (bound : Option (List ℕ)) → ((k : List ℕ) → is_above after k ≡ false → is_above bound k ≡ false) → let now_held = after_batches way.n contents in above bound (finite.entries now_held.cells) ≡ above bound es
    same_left bound lower =
        let n = BATCH_RECORDS * way.n in
        let low : All (λ (e : Entry). is_above bound e.0 ≡ false) olds =
        All-filter is_old (λ (e : Entry). is_above bound e.0 ≡ false) (upto after es)
        (All-weaker (λ (e : Entry). not (is_above after e.0) ≡ true) (λ (e : Entry). is_above bound e.0 ≡ false) (λ e passes. lower e.0 (passed (is_above after e.0) passes)) (upto after es) (filter_passes (λ (e : Entry). not (is_above after e.0)) es)) in
        let first : All (λ (e : Entry). is_above bound e.0 ≡ false) (take n (old_entries contents)) =
        subst (All (λ (e : Entry). is_above bound e.0 ≡ false)) (sym (take-met contents after n way.low)) (All-take (λ (e : Entry). is_above bound e.0 ≡ false) n olds low) in
        left-put_all bound (map renewed (take n (old_entries contents))) contents.cells
        (λ e h. All-contains (λ (x : Entry). is_above bound x.0 ≡ false) (map renewed (take n (old_entries contents))) e (All-map (λ (x : Entry). is_above bound x.0 ≡ false) renewed (take n (old_entries contents)) first) h)

    pub next-met : (hash : Hash256) (bytes : List ℕ) → is_above after hash.0 ≡ true → IfSome (held now) (λ x. Some (hash.0, bytes) ≡ next_entry x.cells after) → above after es ≡ (hash.0, bytes) ∷ above (Some hash.0) es
    next-met hash bytes high told =
        let now_held = after_batches way.n contents in
        let next = subst (λ o. IfSome o (λ (x : Contents). Some (hash.0, bytes) ≡ next_entry x.cells after)) way.made.made told in
        sym (same_left after (λ k low. low)) ∙ next-some now_held.cells after (hash.0, bytes) (sym next)
        ∙ ap (λ xs. (hash.0, bytes) ∷ xs) (same_left (Some hash.0) (λ k low. not_above after k hash.0 low high))

    pub none-left : IfSome (held now) (λ x. None ≡ next_entry x.cells after) → above after es ≡ []
    none-left told =
        let now_held = after_batches way.n contents in
        let next = subst (λ o. IfSome o (λ (x : Contents). None ≡ next_entry x.cells after)) way.made.made told in
        sym (same_left after (λ k low. low)) ∙ next-none now_held.cells after (sym next)

    pub met-within : length (upto after es) ≤ length es
    met-within = (let all = ap length (met-left after es (table-in_order contents.cells)) in let sum = length-append (upto after es) (above after es) in omega (arith, all, sum))

    pub met-count : (hash : Hash256) (bytes : List ℕ) → above after es ≡ (hash.0, bytes) ∷ above (Some hash.0) es → length (upto (Some hash.0) es) ≡ length (upto after es) + 1
    met-count hash bytes next = ap length (met-more after es (hash.0, bytes) (table-in_order contents.cells) next) ∙ length-append (upto after es) ((hash.0, bytes) ∷ [])

    module _ (hash : Hash256) (bytes : List ℕ) (next : above after es ≡ (hash.0, bytes) ∷ above (Some hash.0) es) (done : Migrated) (records : let old = m.done in done.records ≡ at_most_last (old.records + 1)) where
      one_met : upto (Some hash.0) es ≡ upto after es ++ (hash.0, bytes) ∷ []
      one_met = met-more after es (hash.0, bytes) (table-in_order contents.cells) next

      records-more : done.records ≡ at_most_last (length (upto (Some hash.0) es))
      records-more =
          (let old = way.records in let long = length-append (upto after es) ((hash.0, bytes) ∷ []) in let is = ap length one_met in omega (arith, records, old, long, is))

      -- of another version
      module _ (other : is_old_text bytes ≡ false) where
        same_olds : filter is_old (upto (Some hash.0) es) ≡ olds
        same_olds = ap (filter is_old) one_met ∙ filter-append is_old (upto after es) ((hash.0, bytes) ∷ []) ∙ ap (λ b. olds ++ cond b ((hash.0, bytes) ∷ []) []) other ∙ append-nil olds

        pub way-passed : (let old = m.done in done.rewritten ≡ old.rewritten) → IsUnderWay held trail batches contents start now record { after = Some hash; batch = m.batch; done = done }
        way-passed rewritten = record {
          n = way.n;
          made = way.made;
          puts = way.puts ∙ sym (ap (λ xs. map renewed (drop (BATCH_RECORDS * way.n) xs)) same_olds);
          low = subst (λ xs. BATCH_RECORDS * way.n ≤ length xs) (sym same_olds) way.low;
          few = subst (λ xs. length xs < BATCH_RECORDS * way.n + BATCH_RECORDS) (sym same_olds) way.few;
          records = records-more;
          rewritten = rewritten ∙ way.rewritten ∙ sym (ap (λ xs. at_most_last (length xs)) same_olds);
        }

      -- of version 1
      module _ (old_text : is_old_text bytes ≡ true) (batch : Change) (apart : IsApart m)
          (pushed : batch ≡ (let old = m.batch in record old { put_cells = old.put_cells ++ (hash.0, plain_record bytes) ∷ [] }))
          (rewritten : let old = m.done in done.rewritten ≡ at_most_last (old.rewritten + 1)) where
        more_olds : filter is_old (upto (Some hash.0) es) ≡ olds ++ (hash.0, bytes) ∷ []
        more_olds = ap (filter is_old) one_met ∙ filter-append is_old (upto after es) ((hash.0, bytes) ∷ []) ∙ ap (λ b. olds ++ cond b ((hash.0, bytes) ∷ []) []) old_text

        long : length (filter is_old (upto (Some hash.0) es)) ≡ length olds + 1
        long = ap length more_olds ∙ length-append olds ((hash.0, bytes) ∷ [])

        puts_are : let b = batch in b.put_cells ≡ map renewed (drop (BATCH_RECORDS * way.n) (filter is_old (upto (Some hash.0) es)))
        puts_are =
            ap (λ (b : Change). b.put_cells) pushed
            ∙ ap (λ xs. xs ++ (hash.0, plain_record bytes) ∷ []) way.puts
            ∙ sym (ap (λ xs. map renewed (drop (BATCH_RECORDS * way.n) xs)) more_olds
            ∙ ap (map renewed) (drop-append-le (BATCH_RECORDS * way.n) olds ((hash.0, bytes) ∷ []) way.low)
            ∙ map-append renewed (drop (BATCH_RECORDS * way.n) olds) ((hash.0, bytes) ∷ []))

        counted : let b = batch in length b.put_cells ≡ length olds + 1 - BATCH_RECORDS * way.n
        counted =
            ap length puts_are
            ∙ length-map (drop (BATCH_RECORDS * way.n) (filter is_old (upto (Some hash.0) es))) renewed
            ∙ length-drop (BATCH_RECORDS * way.n) (filter is_old (upto (Some hash.0) es))
            ∙ ap (λ n. n - BATCH_RECORDS * way.n) long

        rewritten-more' : done.rewritten ≡ at_most_last (length (filter is_old (upto (Some hash.0) es)))
        rewritten-more' = (let old = way.rewritten in omega (arith, rewritten, old, long))

        pub way-taken : (let b = batch in length b.put_cells < BATCH_RECORDS) → IsUnderWay held trail batches contents start now record { after = Some hash; batch = batch; done = done }
        way-taken free = record {
          n = way.n;
          made = way.made;
          puts = puts_are;
          low = (let low = way.low in omega (arith, low, long));
          few = (let low = way.low in omega (arith, free, counted, low, long));
          records = records-more;
          rewritten = rewritten-more';
        }

        pushed_only : batch ≡ only_puts (let b = batch in b.put_cells)
        pushed_only =
            pushed ∙ ap (λ (old : Change). record old { put_cells = (let b = m.batch in b.put_cells) ++ (hash.0, plain_record bytes) ∷ [] }) apart.only
            ∙ sym (ap (λ (b : Change). only_puts b.put_cells) pushed)

        pub way-written : (new : S) → BATCH_RECORDS ≤ (let b = batch in length b.put_cells) → IsApplied held trail batches batch now new → IsUnderWay held trail batches contents start new record { after = Some hash; batch = only_puts []; done = done }
        way-written new full applied =
            let low = way.low in
            let few = way.few in
            let whole : length olds + 1 ≡ BATCH_RECORDS * suc way.n = omega (arith, full, counted, low, few) in
            record {
              n = suc way.n;
              made = more way.n now new (Some hash.0) batch way.made
                  (pushed_only ∙ ap only_puts puts_are) (omega (arith, whole, long)) applied
                  (take-met contents (Some hash.0) (BATCH_RECORDS * suc way.n) (omega (arith, whole, long)) ∙ take_all (BATCH_RECORDS * suc way.n) (filter is_old (upto (Some hash.0) es)) (omega (arith, whole, long)));
              puts = sym (ap (map renewed) (drop_of_length-le (filter is_old (upto (Some hash.0) es)) (omega (arith, whole, long))));
              low = omega (arith, whole, long);
              few = omega (arith, whole, long);
              records = records-more;
              rewritten = rewritten-more';
            }

    -- ---- the end, where all were met

    module _ (none : above after es ≡ []) where
      all_met : olds ≡ old_entries contents
      all_met = ap (filter is_old) (met-all after es (table-in_order contents.cells) none)

      pub numbers-are : m.done ≡ migrated_of contents
      numbers-are =
          ap₂ (λ a b. let d : Migrated = record { records = a; rewritten = b } in d)
          (way.records ∙ ap (λ xs. at_most_last (length xs)) (met-all after es (table-in_order contents.cells) none))
          (way.rewritten ∙ ap (λ xs. at_most_last (length xs)) all_met)

      left : let batch = m.batch in length batch.put_cells ≡ length (old_entries contents) - BATCH_RECORDS * way.n
      left =
          ap length way.puts
          ∙ length-map (drop (BATCH_RECORDS * way.n) olds) renewed
          ∙ length-drop (BATCH_RECORDS * way.n) olds
          ∙ ap (λ xs. length xs - BATCH_RECORDS * way.n) all_met

      -- no record is left for a batch
      pub part-ended : (let batch = m.batch in length batch.put_cells ≡ 0) → IsPart held trail batches contents start now (Ok m.done)
      part-ended empty = record {
        n = way.n;
        made = way.made;
        so_far = (let low = way.low in let all = ap length all_met in omega (arith, empty, left, low, all));
      }

      -- and the last batch was made
      pub part-last : (new : S) → IsApart m → (let batch = m.batch in 0 < length batch.put_cells) → IsApplied held trail batches m.batch now new → IsPart held trail batches contents start new (Ok m.done)
      part-last new apart some applied =
          let low = way.low in
          let few = way.few in
          let all = ap length all_met in
          record {
            n = suc way.n;
            made = more way.n now new after m.batch way.made (apart.only ∙ ap only_puts way.puts) low applied
                (take_all (BATCH_RECORDS * suc way.n) (old_entries contents) (omega (arith, low, few, all)) ∙ sym all_met);
            so_far = omega (arith, some, left, low, few, all);
          }
