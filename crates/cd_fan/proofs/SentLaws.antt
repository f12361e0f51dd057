-- Laws of what clients got so far of a text, and of their ends.
use Rattle.std.proofs.Common.{◌≡◌, ℕ, ◌+◌, ◌-◌, ◌%◌, ◌<◌, ◌≤◌, ◌⊎◌, inl, inr, ⊎_elim, List, ◌++◌, ◌∷◌, [], length, take, drop, min, get_or, replicate, refl, sym, ap, subst, ◌∙◌, arith, length-append}
use Rattle.std.specs.Prelude.{All, Option, count_by, cond}
use Rattle.std.proofs.Math.Seq.{take-add}
use Rattle.std.proofs.lemmas.Bool.{cases_lt}
use Rattle.std.proofs.lemmas.List.Folds.{sum_by-replicate}
use Rattle.std.proofs.lemmas.Option.{IfSome_then}
use Rattle.std.proofs.lemmas.List.{take_min, take_all, length-take}
use Rattle.cd_fan.specs.declared.client_end.ClientEnd.{ClientEnd}
use Rattle.cd_fan.specs.declared.client_end.ClientEnd.TheVariants.{Done}
use Rattle.cd_fan.specs.Ends.{is_done}
use Rattle.cd_fan.specs.Fans.{HaveGot, HaveGotPart, HaveGotBytes, IsEnd}
use Rattle.cd_fan.specs.Turns.{IsServed}
use Rattle.cd_slices.specs.Windows.{part_of}

-- ---- the text so far

-- a piece of the text behind what was sent of it
pub sent-more : (text sent piece : List ℕ) (offset max now : ℕ) → sent ≡ take offset text → piece ≡ part_of text offset max → now ≡ offset + length piece → sent ++ piece ≡ take now text
sent-more text sent piece offset max now sent_is piece_is now_is =
    let rest = drop offset text in
    let short : take (length (take max rest)) rest ≡ take max rest = ap (λ (n : ℕ). take n rest) (length-take max rest) ∙ take_min max rest in
    (λ i. sent_is i ++ piece_is i)
    ∙ (ap (λ (l : List ℕ). take offset text ++ l) (sym short)
    ∙ (sym (take-add offset (length (take max rest)) text)
    ∙ ap (λ (n : ℕ). take n text) (ap (λ (l : List ℕ). offset + length l) (sym piece_is) ∙ sym now_is)))

-- what each client that tells has got: the pieces so far
pub record IsSent {C : Type 0} (clients : List C) (told : C → Option (List ℕ)) (offset : ℕ) (text : List ℕ → Type 0) : Type 0 where
  pub sent : List ℕ
  pub long : length sent ≡ offset
  pub have : HaveGot told sent clients
  pub part : (whole : List ℕ) → text whole → sent ≡ take offset whole

module _ {C : Type 0} (clients : List C) (told : C → Option (List ℕ)) (text : List ℕ → Type 0) where
  pub sent-nothing : HaveGotBytes told 0 clients → IsSent clients told 0 text
  sent-nothing fresh = record {
    sent = [];
    long = refl;
    have = λ k d in'. IfSome_then (told (get_or clients k d)) (fresh k d in') empty;
    part = λ whole is. refl;
  }
    where
      empty : (bytes : List ℕ) → length bytes ≡ 0 → bytes ≡ []
      empty [] none = refl
      empty (b ∷ bytes) none = absurd (omega arith)

  module _ (offset : ℕ) (is : IsSent clients told offset text) where
    pub sent-bytes : HaveGotBytes told offset clients
    sent-bytes k d in' = IfSome_then (told (get_or clients k d)) (is.have k d in') (λ bytes same. ap length same ∙ is.long)

    pub sent-part : (whole : List ℕ) → text whole → HaveGotPart told whole clients
    sent-part whole is-text k d in' = IfSome_then (told (get_or clients k d)) (is.have k d in') (λ bytes same. (offset, same ∙ is.part whole is-text))

    -- at the end of the text they have got all of it
    pub sent-all : (whole : List ℕ) → text whole → length whole ≤ offset → HaveGot told whole clients
    sent-all whole is-text past k d in' = IfSome_then (told (get_or clients k d)) (is.have k d in') (λ bytes same. same ∙ (is.part whole is-text ∙ take_all offset whole past))

    -- one piece more
    pub sent-further : (new : List C) (max now : ℕ) (piece : List ℕ) → ((sent : List ℕ) → HaveGot told sent clients → HaveGot told (sent ++ piece) new)
        → now ≡ offset + length piece → ((whole : List ℕ) → text whole → piece ≡ part_of whole offset max) → IsSent new told now text
    sent-further new max now piece got now_is piece_is = record {
      sent = is.sent ++ piece;
      long = length-append is.sent piece ∙ (ap (λ (n : ℕ). n + length piece) is.long ∙ sym now_is);
      have = got is.sent is.have;
      part = λ whole is-text. sent-more whole is.sent piece offset max now (is.part whole is-text) (piece_is whole is-text) now_is;
    }

-- who has got all has got a prefix
pub got-part : {C : Type 0} (clients : List C) (told : C → Option (List ℕ)) (text : List ℕ) → HaveGot told text clients → HaveGotPart told text clients
got-part clients told text got k d in' = IfSome_then (told (get_or clients k d)) (got k d in') (λ bytes same. (length text, same ∙ sym (take_all (length text) text (omega arith))))

-- ---- the ends

pub all-done : (count : ℕ) (bytes : ℕ) → count_by is_done (replicate count (Done bytes)) ≡ count
all-done count bytes = let sum = sum_by-replicate (λ (e : ClientEnd). cond (is_done e) 1 0) count (Done bytes) in omega (arith, sum)

-- where a turn begins, by the bytes that were handed out
abbrev pub IsTurnAt : ℕ → ℕ → ℕ → Type 0
IsTurnAt len max offset = (offset ≡ len) ⊎ ((offset < len) × (offset % max ≡ 0))

pub ends-served : (len max offset left : ℕ) (old new : List ClientEnd) → IsTurnAt len max offset → IsServed offset old new left → All (IsEnd len max) old → All (IsEnd len max) new
ends-served len max offset left old new at served all k d in' =
    let there : k < length old = omega (arith, in', served.count) in
    ⊎_elim
    (λ stays. subst (IsEnd len max) (sym stays) (all k d there))
    (λ failed. subst (IsEnd len max) (sym failed.1) at)
    (served.each k d there)

-- a piece ends behind a whole number of pieces, or at the end of the text
pub turn-further : (len max offset piece : ℕ) → 1 ≤ max → offset < len → offset % max ≡ 0 → piece ≡ min max (len - offset) → IsTurnAt len max (offset + piece)
turn-further len max offset piece some low at is =
    ⊎_elim
    (λ more.
    let whole : piece ≡ max = omega arith in
    inr (omega arith, ap (λ (n : ℕ). (offset + n) % max) whole ∙ further max offset some at))
    (λ last. inl (omega arith))
    (cases_lt max (len - offset))
  where
    further : (max offset : ℕ) → 1 ≤ max → offset % max ≡ 0 → (offset + max) % max ≡ 0
    further max offset some at = grind arith
