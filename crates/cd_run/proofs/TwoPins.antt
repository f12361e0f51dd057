-- Two pins, one after the other.
use Rattle.std.proofs.Common.{◌≡◌, ℕ, ◌==◌, Bool, true, false, List, [], ◌∷◌, ◌++◌, Some, None, refl, sym, ap, subst, ◌∙◌, cond, eq-eqb, eqb-true}
use Rattle.std.specs.Prelude.{◌&&◌, ◌||◌}
use Rattle.std.proofs.lemmas.Option.{none-some}
use Rattle.cd_base.specs.declared.hash.Hash256.{Hash256}
use Rattle.cd_block.specs.declared.block.BlockId.{BlockId}
use Rattle.cd_event.specs.declared.names.Who.{Who}
use Rattle.cd_event.specs.declared.answers.Pinned.{Pinned}
use Rattle.cd_event.specs.declared.entry.Entry.{Entry}
use Rattle.cd_event.specs.Pins.{Named, find_pin, is_live}
use Rattle.cd_run.specs.Runs.{pinned_as}
use Rattle.cd_run.specs.Merging.{named_as, Pins}
use Rattle.cd_run.specs.Joining.{BothPins}
use Rattle.cd_run.proofs.TurnLaws.{Keeps, still, live_on, stage_then}

find_more : (pins more : List Named) (n : ℕ) (m : Named) → find_pin pins n ≡ Some m → find_pin (pins ++ more) n ≡ Some m
find_more [] more n m found = absurd (none-some m found)
find_more (x ∷ pins) more n m found = elim (x.number == n) as (λ b. cond b (Some x) (find_pin pins n) ≡ Some m → cond b (Some x) (find_pin (pins ++ more) n) ≡ Some m) [
  | true ↦ λ f. f
  | false ↦ λ f. find_more pins more n m f
] found

-- two numbers of which one was found and the other wasn't
apart_from : (pins : List Named) (a b : ℕ) (m : Named) → find_pin pins a ≡ Some m → find_pin pins b ≡ None → (a == b) ≡ false
apart_from pins a b m found fresh = by (a == b) refl
  where
    by : (c : Bool) → (a == b) ≡ c → c ≡ false
    by false e = refl
    by true e = let same : a ≡ b = eqb-true a b e in absurd (none-some m (sym fresh ∙ (ap (find_pin pins) (sym same) ∙ found)))

module _ {S H : Type 0} (digest : List ℕ → Hash256) (worker faults : S → ℕ) (made : S → List (Entry H)) (goes : S → S → Type 0) (named : S → List Named)
    (who : Who) (left right : BlockId) where
  -- the second pin behind the first one
  pub both_pins : ((x y z : S) → goes x y → goes y z → goes x z) → (old mid new : S) (first second : Pinned) → Pins digest worker faults made goes named who left old mid first
      → Pins digest worker faults made goes named who right mid new second → BothPins digest worker faults made goes named who left right old new (record { left = first; right = second })
  both_pins further old mid new first second one two = record {
    a = one.tree;
    b = two.tree;
    are_pinned = record {
      left = record {
        live = subst (λ l. is_live first.pin l ≡ true) (sym two.stage.added)
            (live_on first.pin (made mid) two.stage.entries (subst (Keeps first.pin) (sym two.stage.are) (keeps_pinned first.pin (apart_from (named mid) first.pin second.pin _ one.is_pinned.found two.fresh))) one.is_pinned.live);
        found = subst (λ l. find_pin l first.pin ≡ Some (named_as first one.tree)) (sym two.stage.pinned) (find_more (named mid) (named_as second two.tree ∷ []) first.pin _ one.is_pinned.found);
        plain = one.is_pinned.plain;
        state = one.is_pinned.state;
      };
      right = two.is_pinned;
      apart = apart_from (named mid) first.pin second.pin _ one.is_pinned.found two.fresh;
    };
    stage = stage_then worker faults made goes named further (named_as first one.tree ∷ []) (named_as second two.tree ∷ []) _ _
        (λ es. es ≡ pinned_as who left first.pin ∷ (pinned_as who right second.pin ∷ [])) old mid new one.stage two.stage (λ es fs is are. λ i. is i ++ are i);
  }
    where
      -- another pin that is given leaves this one as it is
      keeps_pinned : (k : ℕ) → (k == second.pin) ≡ false → Keeps {H = H} k (pinned_as who right second.pin ∷ [])
      keeps_pinned k apart live = given (second.pin == k) live (turned k second.pin apart)
        where
          given : (b live : Bool) → b ≡ false → (b || (live && true)) ≡ live
          given true live off = absurd (cc off)
          given false live off = still live

          turned : (m n : ℕ) → (m == n) ≡ false → (n == m) ≡ false
          turned m n off = by (n == m) refl
            where
              by : (b : Bool) → (n == m) ≡ b → b ≡ false
              by false e = refl
              by true e = let same : n ≡ m = eqb-true n m e in let never : true ≡ false = sym (eq-eqb m n (sym same)) ∙ off in cc
