-- Each client is one over a file, and tells nothing.
use Rattle.std.proofs.Common.{◌≡◌, ◌⊎◌, inl, inr, ℕ, List, length, get_or, Option, None, IfSome, refl, sym, subst}
use Rattle.celldb.proofs.run_to.OwnLists.{own-1}
use Rattle.celldb.proofs.run_to.Goals as goal

none-told : {F : Unit {0} ⊎ ⊥ → Type 0} (got : (v : Unit {0} ⊎ ⊥) → F v → Option (List ℕ)) → ((x : F (inl tt)) → got (inl tt) x ≡ None)
    → (v : Unit {0} ⊎ ⊥) (x : F v) → IfSome (got v x) (λ bytes. length bytes ≡ 0)
none-told got none (inl u) x = subst (λ o. IfSome o (λ bytes. length bytes ≡ 0)) (sym (none x)) tt
none-told got none (inr never) x = absurd never

pub run-requires-clause-fresh : goal.run-requires-clause-fresh
run-requires-clause-fresh g c κs within = λ k d lt. let b = get_or c.loop-path.clients.items k d in
    none-told (λ v x. (own-1.entry v).1.got x) (λ x. refl) b.vtable b.value
