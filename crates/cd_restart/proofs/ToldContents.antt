-- What holds where contents are told, by what holds of them.
use Rattle.std.specs.Prelude.{Option, Some, None, IfSome}

pub if_some-map : {A : Type 0} (P Q : A → Type 0) (o : Option A) → IfSome o P → ((x : A) → P x → Q x) → IfSome o Q
if_some-map P Q None p f = tt
if_some-map P Q (Some x) p f = f x p

pub if_some-both : {A : Type 0} (P Q R : A → Type 0) (o : Option A) → IfSome o P → IfSome o Q → ((x : A) → P x → Q x → R x) → IfSome o R
if_some-both P Q R None p q f = tt
if_some-both P Q R (Some x) p q f = f x p q

pub if_some-all : {A : Type 0} (P : A → Type 0) (o : Option A) → ((x : A) → P x) → IfSome o P
if_some-all P None f = tt
if_some-all P (Some x) f = f x
