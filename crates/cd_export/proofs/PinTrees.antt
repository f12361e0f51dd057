-- The one pin that a serve gets holds the state of its block.
use Rattle.std.proofs.Common.{◌≡◌, ⊎_elim, ℕ, ◌==◌, Bool, true, false, cond, List, [], ◌∷◌, ◌++◌, map, Option, Some, None, refl, sym, ap, ap₂, subst, append-nil}
use Rattle.std.specs.Option.{option_map, option_to_list}
use Rattle.std.proofs.lemmas.Option.{none-some, same_Some}
use Rattle.cd_base.specs.declared.hash.Hash256.{Hash256}
use Rattle.cd_block.specs.declared.block.BlockId.{BlockId}
use Rattle.cd_block.specs.declared.description.Descr.{Descr}
use Rattle.cd_event.specs.declared.entry.Entry.{Entry}
use Rattle.cd_event.specs.declared.entry.Reply.{Reply}
use Rattle.cd_event.specs.declared.entry.Reply.TheVariants as reply
use Rattle.cd_event.specs.declared.event.Event.{Event}
use Rattle.cd_event.specs.declared.event.Event.TheVariants as event
use Rattle.cd_event.specs.declared.refusal.Refusal.{Refusal}
use Rattle.cd_event.specs.Looks.{looks, failed_look}
use Rattle.cd_event.specs.Pins.{Named, find_pin}
use Rattle.cd_event.specs.Replies.{entry_of}
use Rattle.cd_run.specs.Runs.{unpinned_as, not_pinned}
use Rattle.cd_world.specs.declared.world.World.{World}
use Rattle.cd_world.specs.Machine.{root_info, after}
use Rattle.cd_world.specs.Standing.{kept_at}
use Rattle.cd_world.specs.Told.{ToldWorld, told_after}
use Rattle.cd_core.specs.Workers.{given, is_own, named_from}
use Rattle.cd_command.specs.Naming.{first_task}
use Rattle.cd_export.specs.ExportCall.{AreBegun, served, unserved}

own-none : (b : Bool) (pins : List Named) → pins ≡ [] → cond b pins [] ≡ []
own-none true pins none = none
own-none false pins none = refl

module _ (X : Type 0) where
  -- ---- entries that give no pin

  abbrev IsNoPin : Event X → Type 0
  IsNoPin (event.Pin id) = ⊥
  IsNoPin _ = Unit {0}

  abbrev NoPins : List (Entry X) → Type 0
  NoPins [] = Unit {0}
  NoPins (e ∷ es) = IsNoPin e.event × NoPins es

  none-looked : (pin : ℕ) (asked : List ℕ) (es : List (Entry X)) → NoPins es → NoPins (looks first_task pin asked ++ es)
  none-looked pin [] es none = none
  none-looked pin (n ∷ ns) es none = (tt, none-looked pin ns es none)

  none-first : (es fs : List (Entry X)) → NoPins (es ++ fs) → NoPins es
  none-first [] fs none = tt
  none-first (e ∷ es) fs none = (none.0, none-first es fs none.1)

  none-served : (pin : ℕ) (asked : List ℕ) (answer : Option Bool) → NoPins (looks first_task pin asked ++ unpinned_as first_task pin answer ∷ [])
  none-served pin asked answer = none-looked pin asked (unpinned_as first_task pin answer ∷ []) (tt, tt)

  none-unserved : (pin : ℕ) (asked : List ℕ) (last : ℕ) (answer : Option Bool)
      → NoPins ((looks first_task pin asked ++ failed_look first_task pin last ∷ []) ++ unpinned_as first_task pin answer ∷ [])
  none-unserved pin [] last answer = (tt, (tt, tt))
  none-unserved pin (n ∷ ns) last answer = (tt, none-unserved pin ns last answer)

  given-none : (w : World) (t : Option ToldWorld) (e : Event X) (r : Reply) → IsNoPin e → given w t e r ≡ []
  given-none w t (event.Pin id) r none = absurd none
  given-none w t (event.Zero id tops p) r none = refl
  given-none w t (event.Look pin asked) r none = refl
  given-none w t (event.Merge pin other id tops p) r none = refl
  given-none w t (event.Unpin pin) r none = refl
  given-none w t (event.Expire id) r none = refl

  module _ (H : List ℕ → Hash256) where
    named-none : (w : World) (t : Option ToldWorld) (es : List (Entry X)) → NoPins es → named_from H 0 w t es ≡ []
    named-none w t [] none = refl
    named-none w t (e ∷ es) none = ap₂ (λ (p q : List Named). p ++ q)
        (own-none (is_own 0 e) (given w t e.event e.reply) (given-none w t e.event e.reply none.0))
        (named-none (after w e) (option_map (λ u. told_after H u e) t) es none.1)

    module _ (id : BlockId) (w : World) (t : Option ToldWorld) (n : ℕ) (m : Named) where
      abbrev IsIts : Type 0
      IsIts = m.tree ≡ option_map (λ u. u.state id) t

      named-its : (number : ℕ) (o : Option Descr)
          → find_pin (map (λ d. record { number = number; root = root_info d; tree = option_map (λ u. u.state id) t }) (option_to_list o)) n ≡ Some m → IsIts
      named-its number None found = absurd (none-some m found)
      named-its number (Some d) found = by (number == n) found
        where
          by : (b : Bool) → cond b (Some (record { number = number; root = root_info d; tree = option_map (λ u. u.state id) t })) None ≡ Some m → IsIts
          by true is = sym (ap (λ (x : Named). x.tree) (same_Some (record { number = number; root = root_info d; tree = option_map (λ u. u.state id) t }) m is))
          by false is = absurd (none-some m is)

      given-its : (r : Reply) → find_pin (given {X = X} w t (event.Pin id) r) n ≡ Some m → IsIts
      given-its (reply.Pinned number) found = named-its number (kept_at w id) found
      given-its reply.Stored found = absurd (none-some m found)
      given-its reply.Looked found = absurd (none-some m found)
      given-its (reply.Unpinned collected) found = absurd (none-some m found)
      given-its (reply.Expired gone) found = absurd (none-some m found)
      given-its (reply.Refused why) found = absurd (none-some m found)

      abbrev pins : Reply → Entry X
      pins r = entry_of first_task (event.Pin id) r

      first-its : (r : Reply) (e : Entry X) (es : List (Entry X)) → e ≡ pins r → NoPins es
          → find_pin (named_from H 0 w t (e ∷ es)) n ≡ Some m → IsIts
      first-its r e es is none found = given-its r
          (subst (λ (l : List Named). find_pin l n ≡ Some m) (append-nil (given {X = X} w t (event.Pin id) r))
          (subst (λ (l : List Named). find_pin (given {X = X} w t (event.Pin id) r ++ l) n ≡ Some m)
          (named-none (after w (pins r)) (option_map (λ u. told_after H u (pins r)) t) es none)
          (subst (λ (f : Entry X). find_pin (named_from H 0 w t (f ∷ es)) n ≡ Some m) is found)))

      begun-its : (r : Reply) (e : Entry X) (es rest ys : List (Entry X)) → NoPins ys → (e ∷ es) ++ rest ≡ pins r ∷ ys
          → find_pin (named_from H 0 w t (e ∷ es)) n ≡ Some m → IsIts
      begun-its r e es rest ys none is found =
          let first : e ≡ pins r = cc in
          let others : es ++ rest ≡ ys = cc in
          first-its r e es first (none-first es rest (subst NoPins (sym others) none)) found

      -- whatever entries a serve has made
      pub its-tree : (es : List (Entry X)) → AreBegun id es → find_pin (named_from H 0 w t es) n ≡ Some m → IsIts
      its-tree [] begun found = absurd (none-some m found)
      its-tree (e ∷ es) begun found = ⊎_elim
          (λ (a : (why : Refusal) × ((e ∷ es) ++ begun.0 ≡ not_pinned first_task id why ∷ [])). begun-its (reply.Refused a.0) e es begun.0 [] tt a.1 found)
          (⊎_elim
          (λ (a : (pin : ℕ) × (asked : List ℕ) × (answer : Option Bool) × ((e ∷ es) ++ begun.0 ≡ served id pin asked answer)).
          begun-its (reply.Pinned a.0) e es begun.0 (looks first_task a.0 a.1 ++ unpinned_as first_task a.0 a.2 ∷ []) (none-served a.0 a.1 a.2) a.3 found)
          (λ (a : (pin : ℕ) × (asked : List ℕ) × (last : ℕ) × (answer : Option Bool) × ((e ∷ es) ++ begun.0 ≡ unserved id pin asked last answer)).
          begun-its (reply.Pinned a.0) e es begun.0 ((looks first_task a.0 a.1 ++ failed_look first_task a.0 a.2 ∷ []) ++ unpinned_as first_task a.0 a.3 ∷ []) (none-unserved a.0 a.1 a.2 a.3) a.4 found))
          begun.1
