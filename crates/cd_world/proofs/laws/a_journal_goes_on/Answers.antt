use Rattle.cd_world.proofs.Replays.{replay-append, all_follow-join, all_follow-first, all_follow-later, told_replay-append, told_follow-join, told_follow-first, told_follow-later, images-append}
use Rattle.cd_world.proofs.laws.a_journal_goes_on.Goals as goal

pub returns-clause-replay : goal.returns-clause-replay
returns-clause-replay g c = replay-append

pub returns-clause-follows : goal.returns-clause-follows
returns-clause-follows g c w xs ys =
    let H = g.H.Hash32.digest_of in
    (λ f. (all_follow-first H w xs ys f, all_follow-later H w xs ys f), λ f. all_follow-join H w xs ys f.0 f.1)

pub returns-clause-told_replay : goal.returns-clause-told_replay
returns-clause-told_replay g c = told_replay-append g.H.Hash32.digest_of

pub returns-clause-told_follows : goal.returns-clause-told_follows
returns-clause-told_follows g c limit t xs ys =
    let H = g.H.Hash32.digest_of in
    (λ f. (told_follow-first H limit t xs ys f, told_follow-later H limit t xs ys f), λ f. told_follow-join H limit t xs ys f.0 f.1)

pub returns-clause-trail : goal.returns-clause-trail
returns-clause-trail g c = images-append g.H.Hash32.digest_of
