-- Values that are read one behind another by their numbers, as a loop reads them.
use Rattle.std.proofs.Common.{◌≡◌, ℕ, ◌+◌, ◌-◌, suc, ◌<◌, ◌≤◌, List, [], ◌∷◌, ◌++◌, Result, Ok, Err, refl, sym, ap, ◌∙◌, append_assoc, arith}
use Rattle.std.proofs.lemmas.List.{append-nil}
use Rattle.cd_base.specs.Reading.{◌>>=◌}
use Rattle.cd_feed.specs.FeedReading.{each_from}

-- what was read before, and what is still read
abbrev pub behind : {F X S : Type 0} → List X → Result (List X × S) F → Result (List X × S) F
behind front read = read >>= λ x. Ok (front ++ x.0, x.1)

module _ {F X S : Type 0} (one : ℕ → S → Result (X × S) F) where
  regroup : (front : List X) (first : X) (read : Result (List X × S) F) → behind front (read >>= λ x. Ok (first ∷ x.0, x.1)) ≡ behind (front ++ first ∷ []) read
  regroup front first (Ok x) = ap (λ (xs : List X). Ok (xs, x.1)) (simp append_assoc)
  regroup front first (Err f) = refl

  pub from_goes_on : (front : List X) (count i : ℕ) (rest after : S) (first : X) (total : Result (List X × S) F) → i < count → one i rest ≡ Ok (first, after)
      → behind front (each_from one i (count - i) rest) ≡ total → behind (front ++ first ∷ []) (each_from one (i + 1) (count - (i + 1)) after) ≡ total
  unfolding each_from
  from_goes_on front count i rest after first total lt h so_far =
      let k : count - i ≡ suc (count - (i + 1)) = omega arith in
      let goes : behind front (each_from one i (count - i) rest) ≡ behind (front ++ first ∷ []) (each_from one (i + 1) (count - (i + 1)) after) = rw (k, h) (regroup front first (each_from one (i + 1) (count - (i + 1)) after)) in
      sym goes ∙ so_far

  pub from_stops : (f : F) (front : List X) (count i : ℕ) (rest : S) (total : Result (List X × S) F) → i < count → one i rest ≡ Err f
      → behind front (each_from one i (count - i) rest) ≡ total → total ≡ Err f
  unfolding each_from
  from_stops f front count i rest total lt h so_far =
      let k : count - i ≡ suc (count - (i + 1)) = omega arith in
      let stops : behind front (each_from one i (count - i) rest) ≡ Err f = rw (k, h) refl in
      sym so_far ∙ stops

  pub from_done : (front : List X) (count i : ℕ) (rest : S) (total : Result (List X × S) F) → count ≤ i → behind front (each_from one i (count - i) rest) ≡ total → total ≡ Ok (front, rest)
  unfolding each_from
  from_done front count i rest total le so_far =
      let k : count - i ≡ 0 = omega arith in
      let done : behind front (each_from one i (count - i) rest) ≡ Ok (front, rest) = rw k (ap (λ (xs : List X). Ok (xs, rest)) (append-nil front)) in
      sym so_far ∙ done
