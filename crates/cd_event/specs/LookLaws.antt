-- Inner: looks under one pin, one after another.
use Rattle.std.proofs.Common.{◌≡◌, ℕ, ◌+◌, ◌≤◌, Bool, true, false, List, [], ◌∷◌, ◌++◌, sum, refl, sym, ap, ◌∙◌, append-nil, append_assoc, arith}
use Rattle.std.proofs.lemmas.List.{map-append}
use Rattle.std.proofs.lemmas.List.Sums.{sum_by-append}
use Rattle.cd_base.specs.Counts.{Rose}
use Rattle.cd_event.specs.declared.names.Who.{Who}
use Rattle.cd_event.specs.declared.names.At.{At}
use Rattle.cd_event.specs.declared.entry.Entry.{Entry}
use Rattle.cd_event.specs.declared.entry.Reply.TheVariants as reply
use Rattle.cd_event.specs.Replies.{who_of}
use Rattle.cd_event.specs.Pins.{Named}
use Rattle.cd_event.specs.Turning.{counted}
use Rattle.cd_event.specs.Looks.{looks, look_with, failed_look, SamePins, LooksOn, LooksAndFails}

counted-none : (a : ℕ) → a ≡ counted a 0
counted-none a = omega arith

counted-more : (a n m : ℕ) → counted (counted a n) m ≡ counted a (n + m)
counted-more a n m = omega arith

rose_later : (a b c : ℕ) → b ≡ a → Rose b c → Rose a c
rose_later a b c same rose = omega arith

later_on : (a b c : ℕ) → a ≤ b → b ≤ c → a ≤ c
later_on a b c p q = omega arith

module _ {S H : Type 0} (worker faults : S → ℕ) (made : S → List (Entry H)) (goes : S → S → Type 0) (named : S → List Named) where
  same_further : ((x y z : S) → goes x y → goes y z → goes x z) → (failed : Bool) (x y z : S) → SamePins worker faults made goes named false x y → SamePins worker faults made goes named failed y z
      → SamePins worker faults made goes named failed x z
  same_further on failed x y z a b = record {
    same_worker = b.same_worker ∙ a.same_worker;
    went = on x y z a.went b.went;
    same_named = b.same_named ∙ a.same_named;
    caused = record {
      later = later_on _ _ _ a.caused.later b.caused.later;
      steady = λ not_failed. b.caused.steady not_failed ∙ a.caused.steady refl;
      rose = λ has_failed. rose_later _ _ _ (a.caused.steady refl) (b.caused.rose has_failed);
    };
  }

  pub looks_stay : ((x : S) → goes x x) → (who : Who) (pin : ℕ) (x : S) (asked : ℕ) → LooksOn worker faults made goes named who pin x x asked asked
  looks_stay nowhere who pin x asked = record {
    same = record { same_worker = refl; went = nowhere x; same_named = refl; caused = record { later = omega arith; steady = λ _. refl; rose = λ never. cc } };
    asked = [];
    added = sym (append-nil (made x));
    counts = counted-none asked;
  }

  pub looks_further : ((x y z : S) → goes x y → goes y z → goes x z) → (at at' : At) (pin pin' : ℕ) (x y z : S) (a b c : ℕ)
      → at' ≡ at → pin' ≡ pin
      → LooksOn worker faults made goes named (who_of at (worker x)) pin x y a b
      → LooksOn worker faults made goes named (who_of at' (worker y)) pin' y z b c
      → LooksOn worker faults made goes named (who_of at (worker x)) pin x z a c
  looks_further on at at' pin pin' x y z a b c same_at same_pin first then = record {
    same = same_further on false x y z first.same then.same;
    asked = first.asked ++ then.asked;
    added = then.added ∙ ((λ i. first.added i ++ looks (who_of (same_at i) (first.same.same_worker i)) (same_pin i) then.asked)
        ∙ (append_assoc (made x) _ _ ∙ ap (λ l. made x ++ l) (sym (map-append (look_with reply.Looked (who_of at (worker x)) pin) first.asked then.asked))));
    counts = then.counts ∙ (ap (λ n. counted n (sum then.asked)) first.counts ∙ (counted-more a (sum first.asked) (sum then.asked) ∙ ap (counted a) (sym (sum_by-append (λ (n : ℕ). n) first.asked then.asked))));
  }

  pub looks_fail_later : ((x y z : S) → goes x y → goes y z → goes x z) → (at at' : At) (pin pin' : ℕ) (x y z : S) (a b c : ℕ)
      → at' ≡ at → pin' ≡ pin
      → LooksOn worker faults made goes named (who_of at (worker x)) pin x y a b
      → LooksAndFails worker faults made goes named (who_of at' (worker y)) pin' y z b c
      → LooksAndFails worker faults made goes named (who_of at (worker x)) pin x z a c
  looks_fail_later on at at' pin pin' x y z a b c same_at same_pin first then = record {
    same = same_further on true x y z first.same then.same;
    asked = first.asked ++ then.asked;
    last = then.last;
    added = then.added ∙ ((λ i. let who = who_of (same_at i) (first.same.same_worker i) in first.added i ++ (looks who (same_pin i) then.asked ++ failed_look who (same_pin i) then.last ∷ []))
        ∙ (append_assoc (made x) _ _ ∙ ap (λ l. made x ++ l)
        (sym (append_assoc (looks (who_of at (worker x)) pin first.asked) (looks (who_of at (worker x)) pin then.asked) _)
        ∙ ap (λ l. l ++ failed_look (who_of at (worker x)) pin then.last ∷ []) (sym (map-append (look_with reply.Looked (who_of at (worker x)) pin) first.asked then.asked)))));
    counts = then.counts ∙ (ap (λ n. counted n (sum then.asked + then.last)) first.counts
        ∙ (counted-more a (sum first.asked) (sum then.asked + then.last) ∙ ap (counted a) (regroup first.asked then.asked then.last)));
  }
    where
      regroup : (xs ys : List ℕ) (n : ℕ) → sum xs + (sum ys + n) ≡ sum (xs ++ ys) + n
      regroup xs ys n = let e = sum_by-append (λ (n : ℕ). n) xs ys in omega arith
