use Rattle.std.proofs.Common.{◌≡◌, true, List, [], ◌∷◌, length, refl, sym, ◌∙◌, arith}
use Rattle.std.specs.Prelude.{nat_eq}
use Rattle.std.proofs.lemmas.Bool.Decides.{Decides-eqb}
use Rattle.cd_base.specs.declared.hash.Hash256.{Hash256}
use Rattle.cd_core.proofs.MergeDid.{none-dropping}
use Rattle.cd_core.proofs.merging.plan_ended.Goals as goal

none-listed : (roots : List Hash256) → nat_eq (length roots) 0 ≡ true → roots ≡ []
none-listed [] e = refl
none-listed (r ∷ rs) e = absurd (let none = (Decides-eqb (length (r ∷ rs)) 0).0 e in omega (arith, none))

pub returns-then-is_empty-clause-dropped : goal.returns-then-is_empty-clause-dropped
returns-then-is_empty-clause-dropped g c =
    none-dropping g.K.Keeper.held g.H.Hash32.digest_of c.args.keeper.now c.args.plan c.args.roots.now (none-listed c.args.roots.now (sym c.is_empty.ensures ∙ c.if-is_empty.true))
