-- Looks after looks.
use Rattle.std.proofs.Common.{◌≡◌, ℕ, true, List, [], ◌∷◌, ◌++◌, length, Option, Some, sym, ap, subst, ◌∙◌, append-nil, append_assoc}
use Rattle.std.proofs.lemmas.List.{map-append}
use Rattle.cd_base.specs.declared.hash.Hash256.{Hash256}
use Rattle.cd_cell.specs.FaceView.{FaceView}
use Rattle.cd_event.specs.declared.names.Who.{Who}
use Rattle.cd_event.specs.declared.entry.Entry.{Entry}
use Rattle.cd_event.specs.declared.entry.Reply.TheVariants as reply
use Rattle.cd_event.specs.Pins.{Named, is_live, state_of}
use Rattle.cd_event.specs.Looks.{looks, look_with, failed_look}
use Rattle.cd_event.specs.Turning.{AreHeldFaces}
use Rattle.cd_run.specs.declared.words.Stop.{Stop}
use Rattle.cd_run.specs.declared.words.Stop.TheVariants as stop
use Rattle.cd_run.specs.Stages.{Stage}
use Rattle.cd_run.specs.Merging.{OnlyLooks, StopsLooks}
use Rattle.cd_run.proofs.TurnLaws.{Keeps, keeps_looks, live_on}
use Rattle.cd_run.proofs.FaceLaws.{faces-append}

module _ {H : Type 0} (who : Who) (pin : ℕ) where
  pub looks_both : (es fs : List (Entry H)) → OnlyLooks who pin es → OnlyLooks who pin fs → OnlyLooks who pin (es ++ fs)
  looks_both es fs first next = (first.0 ++ next.0, (λ i. first.1 i ++ next.1 i) ∙ sym (map-append (look_with {H = H} reply.Looked who pin) first.0 next.0))

  pub looks_more : (why : Stop) (es fs : List (Entry H)) → OnlyLooks who pin es → StopsLooks who pin why fs → StopsLooks who pin why (es ++ fs)
  looks_more (stop.Refused why) es fs first next =
      let asked = next.1.0 in
      let last = next.1.1.0 in (
        next.0,
        (
          first.0 ++ asked,
          (
            last,
            (λ i. first.1 i ++ next.1.1.1 i)
                ∙ (sym (append_assoc (looks who pin first.0) (looks who pin asked) (failed_look who pin last ∷ []))
                ∙ ap (λ l. l ++ failed_look who pin last ∷ []) (sym (map-append (look_with {H = H} reply.Looked who pin) first.0 asked))),
          ),
        ),
      )
  looks_more stop.Memory es fs first next = looks_both es fs first next

  pub keeps_only : (n : ℕ) (es : List (Entry H)) → OnlyLooks who pin es → Keeps n es
  keeps_only n es only = subst (Keeps n) (sym only.1) (keeps_looks H n who pin only.0)

-- faces that were found in turn, while the pins stayed
pub held_more : {S H : Type 0} (digest : List ℕ → Hash256) (worker faults : S → ℕ) (made : S → List (Entry H)) (goes : S → S → Type 0) (named : S → List Named)
    (who : Who) (pin : ℕ) (old mid : S) (hs gs : List Hash256) (fs es : List (Option FaceView)) → length fs ≡ length hs
    → Stage worker faults made goes named [] (OnlyLooks who pin) old mid → AreHeldFaces digest (made old) (named old) hs fs → AreHeldFaces digest (made mid) (named mid) gs es
    → AreHeldFaces digest (made old) (named old) (hs ++ gs) (fs ++ es)
held_more digest worker faults made goes named who pin old mid hs gs fs es count stage first next n t holds =
    faces-append digest t hs gs fs es count (first n t holds)
    (next n t (record {
      live = subst (λ l. is_live n l ≡ true) (sym stage.added) (live_on n (made old) stage.entries (keeps_only who pin n stage.entries stage.are) holds.live);
      told = subst (λ l. state_of l n ≡ Some t) (sym (stage.pinned ∙ append-nil (named old))) holds.told;
    }))
