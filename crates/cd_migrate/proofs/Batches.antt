-- Batches one after another: what was put so far, and one batch more.
use Rattle.std.proofs.Common.{◌≡◌, ℕ, suc, ◌≤◌, List, ◌++◌, map, take, drop, filter, length, Option, Some, refl, sym, ap, ap₂, ◌∙◌, arith}
use Rattle.std.specs.Option.{option_map}
use Rattle.std.specs.FinMap as finite
use Rattle.std.proofs.lemmas.List.{map-append, take-append-le, take-append-drop, length-append}
use Rattle.std.proofs.lemmas.List.Elements.{filter-append}
use Rattle.std.proofs.lemmas.List.Sums.{fold-append}
use Rattle.cd_base.specs.Counts.{one_more}
use Rattle.cd_keeper.specs.Contents.{Table, Contents, Change, changed, put_all}
use Rattle.cd_keeper.specs.Keeping.{longer, KeepsHeld, IsApplied}
use Rattle.cd_world.specs.Walks.{above}
use Rattle.cd_world.proofs.Tables.{table-in_order}
use Rattle.cd_migrate.specs.Rewritten.{Entry, is_old, renewed, old_entries, rewritten, after_batches, AreMade}
use Rattle.cd_migrate.specs.Walking.{upto, only_puts}
use Rattle.cd_migrate.proofs.MetEntries.{met-left}

-- records more are rewritten by a batch that puts them
pub rewritten-more : (contents : Contents) (m n : ℕ) (more : List Entry) → take n (old_entries contents) ≡ take m (old_entries contents) ++ more
    → changed (only_puts (map renewed more)) (rewritten m contents) ≡ rewritten n contents
rewritten-more contents m n more is =
    let put : Table → List ℕ × List ℕ → Table = λ t e. finite.insert t e.0 e.1 in
    ap (λ t. let c : Contents = record { cells = t; descs = contents.descs } in c)
    (sym (fold-append put contents.cells (map renewed (take m (old_entries contents))) (map renewed more))
    ∙ ap (put_all contents.cells) (sym (map-append renewed (take m (old_entries contents)) more) ∙ ap (map renewed) (sym is)))

module _ {S : Type 0} (held : S → Option Contents) (trail : S → Option (List Contents)) (batches : S → ℕ) (contents : Contents) where
  pub made-none : (k : S) → held k ≡ Some contents → AreMade held trail batches 0 contents k k
  made-none k is = record { made = is; trailed = refl; counted = refl }

  pub made-kept : (n : ℕ) (old now new : S) → AreMade held trail batches n contents old now → KeepsHeld held trail batches now new → AreMade held trail batches n contents old new
  made-kept n old now new made keeps = record {
    made = keeps.same_held ∙ made.made;
    trailed = keeps.same_trail ∙ made.trailed;
    counted = keeps.same_batches ∙ made.counted;
  }

  pub made-more : (n : ℕ) (old now new : S) (change : Change) → AreMade held trail batches n contents old now → IsApplied held trail batches change now new
      → changed change (after_batches n contents) ≡ after_batches (suc n) contents → AreMade held trail batches (suc n) contents old new
  made-more n old now new change made applied is =
      let after : held new ≡ Some (after_batches (suc n) contents) = applied.made ∙ ap (option_map (changed change)) made.made ∙ ap Some is in
      record {
        made = after;
        trailed = applied.trailed ∙ ap₂ longer made.trailed after;
        counted = applied.counted ∙ ap one_more made.counted;
      }

-- ---- the records of version 1 that were met

module _ (contents : Contents) (after : Option (List ℕ)) where
  abbrev es : List Entry
  es = finite.entries contents.cells

  abbrev pub met : List Entry
  met = filter is_old (upto after es)

  -- they are the first ones
  pub met-first : met ++ filter is_old (above after es) ≡ old_entries contents
  met-first = sym (filter-append is_old (upto after es) (above after es)) ∙ ap (filter is_old) (met-left after es (table-in_order contents.cells))

  pub met-few : length met ≤ length (old_entries contents)
  met-few = (let long = ap length met-first in let sum = length-append met (filter is_old (above after es)) in omega (arith, long, sum))

  pub take-met : (n : ℕ) → n ≤ length met → take n (old_entries contents) ≡ take n met
  take-met n within = ap (take n) (sym met-first) ∙ take-append-le n met (filter is_old (above after es)) within

  -- n of them, and the rest of them
  pub met-parts : (n : ℕ) → n ≤ length met → take n (old_entries contents) ++ drop n met ≡ met
  met-parts n within = ap (λ xs. xs ++ drop n met) (take-met n within) ∙ take-append-drop n met
