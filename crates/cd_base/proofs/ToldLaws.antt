-- One call after another on what a source has left and a sink has taken.
use Rattle.std.proofs.Common.{◌≡◌, ℕ, ◌+◌, ◌<◌, Option, Some, None, IfSome, List, ◌++◌, length, take, drop, refl, ap, sym, ◌∙◌, append_assoc, append-nil, arith, length-append}
use Rattle.std.proofs.Math.Seq.{take-add}
use Rattle.std.specs.Io.KnownBytes.{prepend_known, append_known}
use Rattle.cd_base.specs.Told.{Gave, IsAtEnd, Got}

pub prepend_known-append : (first second : List ℕ) (told : Option (List ℕ)) → prepend_known first (prepend_known second told) ≡ prepend_known (first ++ second) told
prepend_known-append first second None = refl
prepend_known-append first second (Some left) = ap Some (sym (append_assoc first second left))

pub append_known-append : (told : Option (List ℕ)) (first second : List ℕ) → append_known (append_known told first) second ≡ append_known told (first ++ second)
append_known-append None first second = refl
append_known-append (Some taken) first second = ap Some (append_assoc taken first second)

-- what two reads gave, one after the other
pub Gave-append : (old mid new : Option (List ℕ)) (first second : List ℕ) → Gave old mid first → Gave mid new second → Gave old new (first ++ second)
Gave-append old mid new first second h k =
    h ∙ ap (prepend_known first) k ∙ prepend_known-append first second new

-- what two writes took, one after the other
pub Got-append : (old mid new : Option (List ℕ)) (first second : List ℕ) → Got old mid first → Got mid new second → Got old new (first ++ second)
Got-append old mid new first second h k =
    k ∙ ap (λ told. append_known told second) h ∙ append_known-append old first second

-- two writes that took the front of a piece, and then the front of the rest
pub Got-take : (old mid new : Option (List ℕ)) (piece : List ℕ) (n m : ℕ) → Got old mid (take n piece) → Got mid new (take m (drop n piece)) → Got old new (take (n + m) piece)
Got-take old mid new piece n m h k =
    Got-append old mid new (take n piece) (take m (drop n piece)) h k ∙ ap (append_known old) (sym (take-add n m piece))

-- what was given up to the end is all that was left
pub Gave-all : (old new : Option (List ℕ)) (bytes : List ℕ) → Gave old new bytes → IsAtEnd new → IfSome old (λ left. left ≡ bytes)
Gave-all None new bytes h e = tt
Gave-all (Some left) None bytes h e = cc
Gave-all (Some left) (Some more) bytes h e =
    let parts : left ≡ bytes ++ more = cc in
    parts ∙ ap (λ m. bytes ++ m) e ∙ append-nil bytes

-- more than a limit was left where more was given
pub Gave-more : (limit : ℕ) (old new : Option (List ℕ)) (bytes : List ℕ) → Gave old new bytes → limit < length bytes → IfSome old (λ left. limit < length left)
Gave-more limit None new bytes h m = tt
Gave-more limit (Some left) None bytes h m = cc
Gave-more limit (Some left) (Some more) bytes h m =
    let parts : left ≡ bytes ++ more = cc in
    omega (arith, simp length-append at (ap length parts))
