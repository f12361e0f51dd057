-- Inner: a seat that goes on, and goes on again.
use Rattle.std.proofs.Common.{◌≡◌, ◌⊎◌, ◌<◌, ◌≤◌, List, [], ◌++◌, refl, sym, ap, ◌∙◌, subst, append_assoc, append-nil}
use Rattle.std.specs.Prelude.{All}
use Rattle.std.proofs.lemmas.List.Elements.{All-nil, All-append}
use Rattle.cd_event.specs.declared.entry.Entry.{Entry}
use Rattle.cd_gate.specs.Gates.{SeatView}
use Rattle.cd_shared.specs.SharedTurns.{worker_of, SeatGoesOn}

module _ {X S : Type 0} where
  abbrev pub IsApart : SeatView (Entry X) S → Entry X → Type 0
  IsApart s e = (worker_of e ≡ s.lowest) ⊎ ((worker_of e < s.lowest) ⊎ (s.end ≤ worker_of e))

  abbrev with_seen : List (Entry X) → SeatView (Entry X) S → SeatView (Entry X) S
  with_seen seen s = record s { seen = seen }

  pub seat_stays : (s : SeatView (Entry X) S) → SeatGoesOn s s
  seat_stays s = record { same = refl; more = []; seen = sym (append-nil s.seen); apart = All-nil (IsApart s) }

  pub seat_further : (s t u : SeatView (Entry X) S) → SeatGoesOn s t → SeatGoesOn t u → SeatGoesOn s u
  seat_further s t u first then = record {
    same = then.same ∙ ap (with_seen u.seen) first.same;
    more = first.more ++ then.more;
    seen = then.seen ∙ ap (λ (es : List (Entry X)). es ++ then.more) first.seen
        ∙ append_assoc s.seen first.more then.more;
    apart = All-append (IsApart s) first.more then.more first.apart
        (subst (λ (v : SeatView (Entry X) S). All (IsApart v) then.more) first.same then.apart);
  }
