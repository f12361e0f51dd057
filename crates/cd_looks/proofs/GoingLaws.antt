-- What lies between two states of a look.
use Rattle.std.proofs.Common.{◌≡◌, ℕ, ◌+◌, ◌≤◌, Bool, true, false, Option, Some, None, Result, Ok, Err, refl, sym, ap, ◌∙◌, subst, arith}
use Rattle.cd_event.specs.Turning.{AskedAfter, HandsOn, RisesOnly, counted}
use Rattle.cd_looks.specs.Answers.{AskedAtMost}

pub asked_at_most : {A E : Type 0} (result : Result A E) (count before now : ℕ) → AskedAfter result count before now → AskedAtMost count before now
asked_at_most (Ok found) count before now is = (omega arith, omega arith)
asked_at_most (Err fault) count before now most = most

-- ---- hashes asked

pub asked_nothing : (count before now : ℕ) → now ≡ before → AskedAtMost count before now
asked_nothing count before now same = (omega arith, omega arith)

pub asked_more : (m n count before mid now : ℕ) → m + n ≤ count → AskedAtMost m before mid → AskedAtMost n mid now → AskedAtMost count before now
asked_more m n count before mid now within first then = (omega (arith, first.0, then.0), omega (arith, first.0, first.1, then.0, then.1))

pub went_on : {S : Type 0} (goes fails : S → S → Type 0) → ((x y z : S) → goes x y → goes y z → goes x z) → ((x y z : S) → goes x y → fails y z → fails x z)
    → (failed : Bool) (x y z : S) → goes x y → HandsOn goes fails failed y z → HandsOn goes fails failed x z
went_on goes fails further later false x y z first then = further x y z first then
went_on goes fails further later true x y z first then = later x y z first then

pub rises_from : (failed : Bool) (a b c : ℕ) → b ≡ a → RisesOnly failed b c → RisesOnly failed a c
rises_from failed a b c same rises = subst (λ n. RisesOnly failed n c) same rises

pub steady_rises : (before now : ℕ) → now ≡ before → RisesOnly false before now
steady_rises before now same = record { later = omega arith; steady = λ _. same; rose = λ never. cc }
