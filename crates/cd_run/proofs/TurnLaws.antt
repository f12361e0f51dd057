-- Stages after one another, and the pins that stay live.
use Rattle.std.proofs.Common.{◌≡◌, ℕ, Bool, true, false, ◌||◌, List, [], ◌∷◌, ◌++◌, refl, sym, ap, subst, ◌∙◌, append_assoc, arith, eq-eqb}
use Rattle.std.specs.Prelude.{fold, ◌&&◌}
use Rattle.std.proofs.lemmas.List.Sums.{fold-append}
use Rattle.cd_base.specs.Counts.{Rose}
use Rattle.cd_block.specs.declared.block.BlockId.{BlockId}
use Rattle.cd_event.specs.declared.names.Who.{Who}
use Rattle.cd_event.specs.declared.entry.Entry.{Entry}
use Rattle.cd_event.specs.Pins.{Named, is_live, live_after}
use Rattle.cd_event.specs.Looks.{looks, failed_look}
use Rattle.cd_event.specs.Turning.{RisesOnly}
use Rattle.cd_run.specs.Runs.{has_failed, pinned_as}
use Rattle.cd_run.specs.Stages.{Stage}
use Rattle.cd_run.proofs.StageLaws.{failed_both}

-- ---- stages

rises_then : (a b : Bool) (l m n : ℕ) → RisesOnly a l m → RisesOnly b m n → RisesOnly (a || b) l n
rises_then true b l m n first next = record {
  later = let p = first.later in let q = next.later in omega arith;
  steady = λ never. cc;
  rose = λ failed. let r : Rose l m = first.rose refl in let q = next.later in omega arith;
}
rises_then false b l m n first next =
    let same : m ≡ l = first.steady refl in
    record {
      later = let q = next.later in omega arith;
      steady = λ none. next.steady none ∙ same;
      rose = λ failed. let r : Rose m n = next.rose failed in omega arith;
    }

module _ {S H : Type 0} (worker faults : S → ℕ) (made : S → List (Entry H)) (goes : S → S → Type 0) (named : S → List Named) where
  pub stage_map : (pins : List Named) (A B : List (Entry H) → Type 0) (x y : S) → ((es : List (Entry H)) → A es → B es) → Stage worker faults made goes named pins A x y → Stage worker faults made goes named pins B x y
  stage_map pins A B x y so stage = record {
    same_worker = stage.same_worker;
    went = stage.went;
    pinned = stage.pinned;
    entries = stage.entries;
    added = stage.added;
    caused = stage.caused;
    are = so stage.entries stage.are;
  }

  pub stage_then : ((x y z : S) → goes x y → goes y z → goes x z) → (ps qs : List Named) (A B C : List (Entry H) → Type 0) (x y z : S)
      → Stage worker faults made goes named ps A x y → Stage worker faults made goes named qs B y z
      → ((es fs : List (Entry H)) → A es → B fs → C (es ++ fs)) → Stage worker faults made goes named (ps ++ qs) C x z
  stage_then further ps qs A B C x y z first next both = record {
    same_worker = next.same_worker ∙ first.same_worker;
    went = further x y z first.went next.went;
    pinned = next.pinned ∙ (ap (λ l. l ++ qs) first.pinned ∙ append_assoc (named x) ps qs);
    entries = first.entries ++ next.entries;
    added = next.added ∙ (ap (λ l. l ++ next.entries) first.added ∙ append_assoc (made x) first.entries next.entries);
    caused = subst (λ b. RisesOnly b (faults x) (faults z)) (sym (failed_both first.entries next.entries)) (rises_then (has_failed first.entries) (has_failed next.entries) _ _ _ first.caused next.caused);
    are = both first.entries next.entries first.are next.are;
  }

-- ---- live pins

pub still : (b : Bool) → (false || (b && true)) ≡ b
still true = refl
still false = refl

-- some entries neither give nor end the pin of this number
abbrev pub Keeps : {H : Type 0} → ℕ → List (Entry H) → Type 0
Keeps n es = (live : Bool) → fold (live_after n) live es ≡ live

module _ (H : Type 0) (n : ℕ) where
  pub keeps_looks : (who : Who) (pin : ℕ) (asked : List ℕ) → Keeps {H = H} n (looks who pin asked)
  keeps_looks who pin [] live = refl
  keeps_looks who pin (k ∷ ks) live = ap (λ b. fold (live_after {H = H} n) b (looks who pin ks)) (still live) ∙ keeps_looks who pin ks live

  pub keeps_failed : (who : Who) (pin last : ℕ) → Keeps {H = H} n (failed_look who pin last ∷ [])
  keeps_failed who pin last live = still live

  pub keeps_both : (es fs : List (Entry H)) → Keeps n es → Keeps n fs → Keeps n (es ++ fs)
  keeps_both es fs first next live = fold-append (live_after n) live es fs ∙ (ap (λ l. fold (live_after n) l fs) (first live) ∙ next live)

module _ {H : Type 0} (n : ℕ) where
  pub live_on : (made es : List (Entry H)) → Keeps n es → is_live n made ≡ true → is_live n (made ++ es) ≡ true
  live_on made es keeps live = fold-append (live_after n) false made es ∙ (keeps (is_live n made) ∙ live)

  -- a pin that was just given is live
  pub live_pinned : (who : Who) (id : BlockId) (made : List (Entry H)) → is_live n (made ++ pinned_as who id n ∷ []) ≡ true
  live_pinned who id made = fold-append (live_after n) false made (pinned_as who id n ∷ []) ∙ ap (λ b. b || (is_live n made && true)) (eq-eqb n n refl)
