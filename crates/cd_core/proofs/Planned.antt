-- What a plan tells of a state that is to be stored.
use Rattle.std.proofs.Common.{◌≡◌, ℕ, List, [], ◌∷◌, map, All, Option, Some, None, IfSome, Contains, sym, ap, ap₂, ◌∙◌, subst}
use Rattle.std.specs.Prelude.{Result, Ok, Err, IfOk, IsSome}
use Rattle.std.specs.Option.{option_or}
use Rattle.std.proofs.lemmas.List.Elements.{All-contains}
use Rattle.cd_base.specs.declared.hash.Hash256.{Hash256}
use Rattle.cd_block.specs.declared.block.BlockId.{BlockId}
use Rattle.cd_cell.specs.Infos.{rep_of_info}
use Rattle.cd_cell.specs.Tree.{Tree, rep_of}
use Rattle.cd_cell.specs.Listings.{Fits}
use Rattle.cd_cell.specs.PreparedView.{PreparedView}
use Rattle.cd_event.specs.declared.refusal.Refusal.{Refusal}
use Rattle.cd_world.specs.declared.world.World.{World}
use Rattle.cd_world.specs.World as trees
use Rattle.cd_world.specs.World.{Block}
use Rattle.cd_world.specs.Standing.{block_at}
use Rattle.cd_world.specs.Changes.{stored}
use Rattle.cd_world.specs.Told.{ToldWorld, block_of, shown, with_stored, first_clash, first_overflow, storing_refusal, IsSound}
use Rattle.cd_world.specs.Soundness.{IsStorable}
use Rattle.cd_world.proofs.TidyWorlds.{IsThere, there-found}
use Rattle.cd_count.specs.declared.count_fault.CountFault.{CountFault}
use Rattle.cd_count.specs.declared.count_fault.CountFault.TheVariants as count
use Rattle.cd_count.specs.Changes.{Rows, AreAdded}
use Rattle.cd_count.specs.Bringing.{IsBrought, unheld}
use Rattle.cd_count.specs.Clashes.{RefusesClash, RefusesFull}
use Rattle.cd_core.specs.Storing.{IsJudged}
use Rattle.cd_core.proofs.Brought.{listed, brought, rep-come}

-- what is said of an option's value
pub of-some : {A : Type 0} (o : Option A) (x : A) (P : A → Type 0) → o ≡ Some x → IfSome o P → P x
of-some {A} o x P is h = let Q : Option A → Type 0 = λ y. IfSome y P in subst Q is h

judged-by : {T : Type 0} (first second : Option Refusal) (result : Result T CountFault) → RefusesClash first result → (first ≡ None → RefusesFull second result) → IsJudged (option_or first second) result
judged-by first second (Ok plan) clash full = ap₂ option_or clash (full clash)
judged-by first second (Err (count.Clash hash stored offered)) clash full = ap (λ o. option_or o second) clash
judged-by first second (Err (count.CountFull hash n)) clash full = ap₂ option_or clash (full clash)
judged-by first second (Err count.Keeper) clash full = tt
judged-by first second (Err count.Memory) clash full = tt

module _ (H : List ℕ → Hash256) (w : World) (id : BlockId) (parents tops : List BlockId) (p : PreparedView) (storable : IsStorable H id tops p)
    (free : block_at w id ≡ None) (there : All (λ q. IsSome (block_at w q)) parents) where
  fresh-in : (t : ToldWorld) → t.world ≡ w → block_at t.world id ≡ None
  fresh-in t is = ap (λ x. block_at x id) is ∙ free

  there-in : (t : ToldWorld) → t.world ≡ w → (q : BlockId) → Contains parents q → IsThere t.world q
  there-in t is q h = there-found t.world q (let P : World → Type 0 = λ x. IsSome (block_at x q) in subst P (sym is) (All-contains (λ q. IsSome (block_at w q)) parents q there h))

  module _ (t : ToldWorld) (is : t.world ≡ w) (sound : IsSound H t) (fits : Fits H p.root p.cells (map t.state parents)) where
    abbrev grown : ToldWorld
    grown = with_stored H t id parents tops p

    abbrev come : Block
    come = block_of grown (stored id parents tops p)

    comes : (none : first_clash H t p.cells ≡ None) → IsBrought H (shown t) (shown grown) come p.cells (listed H t sound id parents tops p storable (fresh-in t is) (there-in t is) fits none)
    comes none = brought H t sound id parents tops p storable (fresh-in t is) (there-in t is) fits none

    pub judged : (limit : ℕ) {T : Type 0} (result : Result T CountFault) → RefusesClash (first_clash H t p.cells) result
        → ((u : ToldWorld) (block : Block) (ts : List Tree) → IsBrought H (shown t) (shown u) block p.cells ts → rep_of H block.state ≡ rep_of_info p.root → RefusesFull (first_overflow H limit t u) result)
        → IsJudged (storing_refusal H limit t grown p.cells) result
    judged limit result clash full = judged-by (first_clash H t p.cells) (first_overflow H limit t grown) result clash (λ none.
        full grown come _ (comes none) (rep-come H t sound id parents tops p storable (fresh-in t is) (there-in t is) fits none))

    pub planned : (plan : Rows) → first_clash H t p.cells ≡ None
        → ((u : trees.World) (block : Block) (ts : List Tree) → IsBrought H (shown t) u block p.cells ts → rep_of H block.state ≡ rep_of_info p.root → AreAdded H (shown t) u (block ∷ []) (unheld H (shown t) ts) plan)
        → (news : List Tree) × AreAdded H (shown t) (shown grown) (come ∷ []) news plan
    planned plan none added =
        (_, added (shown grown) come _ (comes none) (rep-come H t sound id parents tops p storable (fresh-in t is) (there-in t is) fits none))

-- what is said of a result's value, by what is known of the result
pub by-ok : {A E : Type 0} (r : Result A E) (P Q : A → Type 0) (C : Result A E → Type 0) → C r → ((x : A) → C (Ok x) → P x → Q x) → IfOk r P → IfOk r Q
by-ok (Ok x) P Q C c f p = f x c p
by-ok (Err e) P Q C c f p = tt
