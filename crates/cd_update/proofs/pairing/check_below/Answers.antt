-- The root comes first, and then the visits behind it.
use Rattle.std.proofs.Common.{◌≡◌, ◌<◌, All, Option, Some, None, drop, length, refl, ap, sym, subst, ◌∙◌}
use Rattle.std.specs.Option.{option_or, option_map}
use Rattle.std.proofs.lemmas.List.Elements.{All-drop}
use Rattle.cd_cell.specs.Updates.{old_half}
use Rattle.cd_update.specs.Answers.{PairAnswers}
use Rattle.cd_update.specs.Nodes.{IsShown}
use Rattle.cd_update.specs.Visits.{place_of, visited}
use Rattle.cd_update.specs.Pairing.{misfit_at, misfit_among}
use Rattle.cd_update.proofs.BagNodes.{some-visits}
use Rattle.cd_update.proofs.BelowVisits.{misfit-below-half}
use Rattle.cd_update.proofs.HalfVisits.{or-refused, refused-as}
use Rattle.cd_update.proofs.pairing.check_below.Goals as goal

map-or : {A B : Type 0} (f : A → B) (o p : Option A) → option_or (option_map f o) (option_map f p) ≡ option_map f (option_or o p)
map-or f None p = refl
map-or f (Some x) p = refl

unmapped : {A B : Type 0} (f : A → B) (o : Option A) → option_map f o ≡ None → o ≡ None
unmapped f None e = refl
unmapped f (Some x) e = absurd (cc e)

pub behind_first-requires : goal.behind_first-requires
behind_first-requires g c =
    let half = c.args.half.now in
    let walked = half.walked in
    subst (λ vs. 0 < length vs) (sym c.visits.ensures.value)
    (some-visits g.H.Hash32.digest_of half.bag.now walked.is_bag half.walk.visits.items half.start.node walked.first.entry walked.nodes)

pub check_visits-requires : goal.check_visits-requires
check_visits-requires g c =
    let shows = IsShown g.H.Hash32.digest_of c.args.half.now.bag.now in
    subst (All shows) (sym c.behind_first.ensures) (All-drop shows 1 c.visits.result.now c.visits.ensures.shown)

pub returns-in-Err : goal.returns-in-Err
returns-in-Err g c u is_half =
    let H = g.H.Hash32.digest_of in
    let half = c.args.half.now in
    let first = misfit_at H (λ h. Some c.args.top.now) (place_of half.bag.now half.start.node) in
    let later = misfit_among H (visited half.bag.now (drop 1 half.walk.visits.items)) c.args.faces.now in
    let fault = c.in-Err.fault in
    let mapped = option_map (λ x. old_half x) in
    refused-as fault (option_or (mapped first) (mapped later)) (mapped _)
    (map-or (λ x. old_half x) first later ∙ ap mapped (misfit-below-half half.walked is_half c.args.top.now c.args.faces.now refl))
    (or-refused fault (mapped first) (mapped later) c.in-Err.ensures)

pub returns : goal.returns
returns g c u is_half =
    let H = g.H.Hash32.digest_of in
    let half = c.args.half.now in
    let first = misfit_at H (λ h. Some c.args.top.now) (place_of half.bag.now half.start.node) in
    let later = misfit_among H (visited half.bag.now c.behind_first.result.now) c.args.faces.now in
    let none : first ≡ None = unmapped (λ x. old_half x) first c.in_default.ensures in
    let whole : later ≡ _ =
    ap (λ o. option_or o later) (sym none)
    ∙ misfit-below-half half.walked is_half c.args.top.now c.args.faces.now (c.behind_first.ensures ∙ ap (drop 1) c.visits.ensures.value)
    in
    subst (λ o. PairAnswers (option_map (λ x. old_half x) o) c.check_visits.result) whole c.check_visits.ensures
