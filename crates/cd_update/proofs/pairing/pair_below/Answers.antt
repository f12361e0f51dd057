-- The root is compared first, and then the half's root with its face and each visit behind; over an old tree both are what the tree tells.
use Rattle.std.proofs.Common.{ap, subst, ◌∙◌}
use Rattle.std.proofs.lemmas.Result.{IfOk-weaker}
use Rattle.cd_cell.specs.Equality.{same_info}
use Rattle.cd_update.specs.EachOnce.{each_once}
use Rattle.cd_update.specs.Answers.{PairAnswers}
use Rattle.cd_update.specs.Pairing.{beside, wanted_hashes_below}
use Rattle.cd_update.specs.PairingBelow.{misfit_under}
use Rattle.cd_update.specs.UpdateTrees.{tree_of, old_half_of}
use Rattle.cd_update.proofs.OldTrees.{refusal-tree_below, known-tree_below}
use Rattle.cd_update.proofs.HalfVisits.{refused-as, update-tree}
use Rattle.cd_update.proofs.PairedHalves.{paired-end, refused-root, refused-cell, not-refused}
use Rattle.cd_update.proofs.pairing.pair_below.Goals as goal

pub returns-in-Err-clause-refused : goal.returns-in-Err-clause-refused
returns-in-Err-clause-refused g c =
    let H = g.H.Hash32.digest_of in
    let it = c.args.update.now in
    let is = update-tree H it.bag.now it.root it.is_bag it.is_update in
    refused-root is c.args.root.now (misfit_under H c.args.top.now (beside (wanted_hashes_below H (tree_of it)) c.args.faces.now) (old_half_of it)) c.in-Err.fault c.in-Err.ensures.refused

pub returns-in-Err-clause-refused_tree : goal.returns-in-Err-clause-refused_tree
returns-in-Err-clause-refused_tree g c t are =
    let H = g.H.Hash32.digest_of in
    let it = c.args.update.now in
    let is = update-tree H it.bag.now it.root it.is_bag it.is_update in
    refused-as c.in-Err.fault _ _ (refusal-tree_below H (tree_of it) is.well is.kind t c.args.root.now c.args.top.now c.args.faces.now are) (returns-in-Err-clause-refused g c)

pub returns-in-Err-check_below-clause-refused : goal.returns-in-Err-check_below-clause-refused
returns-in-Err-check_below-clause-refused g c =
    let H = g.H.Hash32.digest_of in
    let it = c.args.update.now in
    let is = update-tree H it.bag.now it.root it.is_bag it.is_update in
    refused-cell is c.args.root.now (misfit_under H c.args.top.now (beside (wanted_hashes_below H (tree_of it)) c.args.faces.now) (old_half_of it)) c.in-Ok.ensures.refused c.in-Err-check_below.fault
    (c.in-Err-check_below.ensures (tree_of it) c.in-Ok.ensures.half)

pub returns-in-Err-check_below-clause-refused_tree : goal.returns-in-Err-check_below-clause-refused_tree
returns-in-Err-check_below-clause-refused_tree g c t are =
    let H = g.H.Hash32.digest_of in
    let it = c.args.update.now in
    let is = update-tree H it.bag.now it.root it.is_bag it.is_update in
    refused-as c.in-Err-check_below.fault _ _ (refusal-tree_below H (tree_of it) is.well is.kind t c.args.root.now c.args.top.now c.args.faces.now are) (returns-in-Err-check_below-clause-refused g c)

pub returns-clause-refused : goal.returns-clause-refused
returns-clause-refused g c =
    let H = g.H.Hash32.digest_of in
    let it = c.args.update.now in
    let is = update-tree H it.bag.now it.root it.is_bag it.is_update in
    paired-end c.known_of.result _
    (not-refused is c.args.root.now (misfit_under H c.args.top.now (beside (wanted_hashes_below H (tree_of it)) c.args.faces.now) (old_half_of it)) c.in-Ok.ensures.refused (c.in_default.ensures (tree_of it) c.in-Ok.ensures.half))
    c.known_of.ensures.memory

pub returns-clause-infos : goal.returns-clause-infos
returns-clause-infos g c = c.known_of.ensures.infos (tree_of c.args.update.now) c.in-Ok.ensures.half

pub returns-clause-refused_tree : goal.returns-clause-refused_tree
returns-clause-refused_tree g c t are =
    let H = g.H.Hash32.digest_of in
    let it = c.args.update.now in
    let is = update-tree H it.bag.now it.root it.is_bag it.is_update in
    subst (λ o. PairAnswers o c.known_of.result) (refusal-tree_below H (tree_of it) is.well is.kind t c.args.root.now c.args.top.now c.args.faces.now are) (returns-clause-refused g c)

pub returns-clause-tree : goal.returns-clause-tree
returns-clause-tree g c t are =
    let H = g.H.Hash32.digest_of in
    let it = c.args.update.now in
    let is = update-tree H it.bag.now it.root it.is_bag it.is_update in
    let none = not-refused is c.args.root.now (misfit_under H c.args.top.now (beside (wanted_hashes_below H (tree_of it)) c.args.faces.now) (old_half_of it)) c.in-Ok.ensures.refused (c.in_default.ensures (tree_of it) c.in-Ok.ensures.half) in
    IfOk-weaker c.known_of.result _ _
    (λ known met. met ∙ ap (each_once same_info) (known-tree_below H (tree_of it) is.well is.kind t c.args.root.now c.args.top.now c.args.faces.now are none))
    (returns-clause-infos g c)
