use Rattle.std.proofs.Common.{◌≡◌, ◌+◌, [], ◌∷◌, length, sum, Option, Some, None, refl, arith}
use Rattle.std.specs.Prelude.{IfSome}
use Rattle.cd_event.specs.Turning.{counted}
use Rattle.cd_event.proofs.pin_look.PinLookLookUp.look.Goals as goal

-- a fact of each value that an option may have
if_some : {A : Type 0} (o : Option A) (P : A → Type 0) → ((x : A) → o ≡ Some x → P x) → IfSome o P
if_some None P fact = tt
if_some (Some x) P fact = fact x refl

pub returns-in-Ok-clause-faces : goal.returns-in-Ok-clause-faces
returns-in-Ok-clause-faces g c = if_some _ _ (λ t told. c.in-Ok.ensures.faces c.args.self.now.pin t (record { live = c.requires.ready; told = told }))

-- one look more
pub returns-in-Ok-clause-hands_on : goal.returns-in-Ok-clause-hands_on
returns-in-Ok-clause-hands_on g c =
    let turned = c.in-Ok.ensures.turned in
    let count : c.counted-self.result ≡ counted c.args.self.now.asked (sum (length c.args.hashes.now ∷ [])) = omega (arith, c.counted-self.ensures) in (
      refl,
      refl,
      refl,
      record {
        same = record { same_worker = turned.same_worker; went = turned.went; same_named = c.in-Ok.ensures.named; caused = turned.caused };
        asked = length c.args.hashes.now ∷ [];
        added = turned.entry;
        counts = count;
      },
    )

-- and one that failed
pub returns-in-Err-Keeper-clause-hands_on : goal.returns-in-Err-Keeper-clause-hands_on
returns-in-Err-Keeper-clause-hands_on g c =
    let turned = rw c.in-Err-Keeper.field-0-is at c.in-Err-Keeper.ensures.turned in
    let count : c.counted-self-in-Err-Keeper.result ≡ counted c.args.self.now.asked (sum [] + length c.args.hashes.now) = omega (arith, c.counted-self-in-Err-Keeper.ensures) in (
      refl,
      refl,
      refl,
      record {
        same = record { same_worker = turned.same_worker; went = turned.went; same_named = c.in-Err-Keeper.ensures.named; caused = turned.caused };
        asked = [];
        last = length c.args.hashes.now;
        added = turned.entry;
        counts = count;
      },
    )
