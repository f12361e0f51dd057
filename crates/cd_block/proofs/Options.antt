-- What a step that answered a value shows.
use Rattle.std.proofs.Common.{◌≡◌, Bool, true, false, cond, Option, Some, None, refl, inl, inr}
use Rattle.std.specs.Prelude.{◌⊎◌}
use Rattle.std.specs.Option.{option_map}
use Rattle.cd_block.specs.Parsing.{◌>>=◌}

pub chosen : {A : Type 0} (b : Bool) (x y z : A) → cond b x y ≡ z → ((b ≡ true) × (x ≡ z)) ⊎ ((b ≡ false) × (y ≡ z))
chosen true x y z e = inl (refl, e)
chosen false x y z e = inr (refl, e)

pub some_is : {A : Type 0} (x y : A) → Some x ≡ Some y → x ≡ y
some_is x y e = cc

-- a value behind a test
pub guarded : {A : Type 0} (b : Bool) (x y : A) → cond b (Some x) None ≡ Some y → (b ≡ true) × (x ≡ y)
guarded true x y e = (refl, cc)
guarded false x y e = absurd cc

pub refused : {A : Type 0} (b : Bool) (o : Option A) (y : A) → cond b None o ≡ Some y → (b ≡ false) × (o ≡ Some y)
refused true o y e = absurd cc
refused false o y e = (refl, e)

pub map_some : {A B : Type 0} (f : A → B) (o : Option A) (y : B) → option_map f o ≡ Some y → (x : A) × (o ≡ Some x) × (f x ≡ y)
map_some f None y e = absurd cc
map_some f (Some x) y e = (x, refl, cc)

pub bind_some : {A B : Type 0} (o : Option A) (f : A → Option B) (y : B) → (o >>= f) ≡ Some y → (x : A) × (o ≡ Some x) × (f x ≡ Some y)
bind_some None f y e = absurd cc
bind_some (Some x) f y e = (x, refl, e)

-- the same for a proof that goes on with the value
pub by_some : {A B P : Type 0} (o : Option A) (f : A → Option B) (y : B) → (o >>= f) ≡ Some y → ((x : A) → o ≡ Some x → f x ≡ Some y → P) → P
by_some None f y e k = absurd cc
by_some (Some x) f y e k = k x refl e
