use Rattle.std.proofs.Common.{◌≡◌, ℕ, List, [], ◌∷◌, filter, find, Option, Some, None, IfSome, refl, sym, ap, ◌∙◌, subst, arith}
use Rattle.std.specs.Prelude.{Err}
use Rattle.std.proofs.lemmas.Result.{err_from_is_err_and}
use Rattle.std.specs.List.{AllByRecursion}
use Rattle.std.specs.List.Sorted.{IsStrictlySortedBy}
use Rattle.std.specs.Map.{keys_of}
use Rattle.std.specs.Option.{option_map}
use Rattle.std.specs.BTreeMap as tree
use Rattle.cd_base.specs.declared.hash.Hash256.{Hash256}
use Rattle.cd_cell.specs.declared.new_cell.NewCell.{NewCell}
use Rattle.cd_cell.specs.declared.info.ChildInfo.{ChildInfo}
use Rattle.cd_cell.specs.Export.{hash_cmp}
use Rattle.cd_cell.specs.Listings.{IsValid}
use Rattle.cd_cell.specs.Fit.{IsFaceFit}
use Rattle.cd_cell.specs.Infos.{rep_of_info}
use Rattle.cd_cell.specs.Tree.{Tree, rep_of}
use Rattle.cd_keeper.specs.Contents.{Contents}
use Rattle.cd_world.specs.World.{Block, World}
use Rattle.cd_world.specs.Told as told
use Rattle.cd_world.specs.Told.{ToldWorld, shown}
use Rattle.cd_count.specs.declared.rows.Row.{Row}
use Rattle.cd_count.specs.declared.count_fault.CountFault.{CountFault}
use Rattle.cd_count.specs.Changes.{AreAdded, Rows}
use Rattle.cd_count.specs.Bringing.{unheld, IsBrought, HaveCome}
use Rattle.cd_count.specs.Clashes.{RefusesClash, RefusesFull}
use Rattle.cd_count.specs.PlanGiving.{is_another, AreListed, AreRowsGood, rises_over}
use Rattle.cd_count.specs.PlanRows.{rows_of}
use Rattle.cd_count.specs.Reading.{stored_in}
use Rattle.cd_count.specs.SoundContents.{AreSoundContents}
use Rattle.cd_count.proofs.BatchKeys.{once-sorted}
use Rattle.cd_count.proofs.Readable.{readable}
use Rattle.cd_count.proofs.Steps.{if_both, if_some, if_some-map}
use Rattle.cd_count.proofs.Comes.{all-fit, none-listed, come-added, clash-from, clash-is, fit-within, outside-refuses, limit-refuses, valid-distinct, clash-fills, outside-fills, limit-fills, within-fills}
use Rattle.cd_count.proofs.Overflows.{overflow-is}
use Rattle.cd_count.proofs.plan.plan_add.Goals as goal

pub list_cells-requires : goal.list_cells-requires
list_cells-requires g c =
    let valid = c.cells-cells.ensures.kept in
    record { fit = subst (λ (cs : List NewCell). AllByRecursion (λ x. IsFaceFit x.face) cs) (sym c.cells-cells.ensures.value) (all-fit c.args.prepared.now.cells valid.good) }

abbrev Listed : List NewCell → Contents → tree.BTreeMap Hash256 Row → tree.BTreeMap Hash256 Row → Type 0
Listed cells contents before after = AreListed (stored_in contents) [] before → AreListed (stored_in contents) cells after

abbrev Least : List NewCell → Contents → Option NewCell → Type 0
Least cells contents least = (H : List ℕ → Hash256) → least ≡ told.least H (filter (λ x. is_another (stored_in contents x.hash.0) x.face) cells)

pub returns-in-Some-clause-clash : goal.returns-in-Some-clause-clash
returns-in-Some-clause-clash g c =
    let H = g.H.Hash32.digest_of in
    let cells = c.cells-cells.result.now in
    let cell = c.in-Some.cell.now in
    let rows = c.list_cells.new.rows in
    let so = c.in_ok-cell.ensures in
    if_both (λ (contents : Contents). Listed cells contents c.new-rows.result rows) (λ (contents : Contents). Least cells contents (option_map (λ r. r.now) c.in_ok-cell.field-0))
    (λ (contents : Contents). (old : ToldWorld) → AreSoundContents H old contents → RefusesClash {T = Rows} (told.first_clash H old c.args.prepared.now.cells) (Rattle.std.proofs.Common.Err c.clash_of.result))
    (g.K.Keeper.held c.args.keeper.now) so.listed so.least
    (λ contents listed least old sound.
    let is = clash-is H contents old (readable H old contents sound) cells cell rows (listed (none-listed (stored_in contents) c.new-rows.result c.new-rows.ensures.empty))
    (sym (ap (option_map (λ r. r.now)) c.in-Some.is) ∙ least H) in
    subst (λ (fault : CountFault). RefusesClash {T = Rows} (told.first_clash H old c.args.prepared.now.cells) (Rattle.std.proofs.Common.Err fault)) (sym c.clash_of.ensures)
    (ap (told.first_clash H old) (sym c.cells-cells.ensures.value) ∙ is))

pub returns-in_err-cell-clause-clash : goal.returns-in_err-cell-clause-clash
returns-in_err-cell-clause-clash g c =
    let gives = err_from_is_err_and c.from_residual.result c.from_residual.ensures.1 in
    let is : c.from_residual.result ≡ Err c.in_err-cell.field-0.0 = cc (gives.1, gives.2) in
    let so = c.in_err-cell.ensures in
    if_some (λ (contents : Contents). (old : ToldWorld) → AreSoundContents g.H.Hash32.digest_of old contents → RefusesClash (told.first_clash g.H.Hash32.digest_of old c.args.prepared.now.cells) c.from_residual.result)
    (g.K.Keeper.held c.args.keeper.now)
    (λ contents old sound. outside-refuses (told.first_clash g.H.Hash32.digest_of old c.args.prepared.now.cells) c.in_err-cell.field-0.0 c.from_residual.result is so.outside)

pub returns-in_err-add_rows-clause-clash : goal.returns-in_err-add_rows-clause-clash
returns-in_err-add_rows-clause-clash g c =
    let gives = err_from_is_err_and c.from_residual-in_err-add_rows.result c.from_residual-in_err-add_rows.ensures.1 in
    let is : c.from_residual-in_err-add_rows.result ≡ Err c.in_err-add_rows.field-0.0 = cc (gives.1, gives.2) in
    let so = c.in_err-add_rows.ensures in
    if_some (λ (contents : Contents). (old : ToldWorld) → AreSoundContents g.H.Hash32.digest_of old contents → RefusesClash (told.first_clash g.H.Hash32.digest_of old c.args.prepared.now.cells) c.from_residual-in_err-add_rows.result)
    (g.K.Keeper.held c.args.keeper.now)
    (λ contents old sound. outside-refuses (told.first_clash g.H.Hash32.digest_of old c.args.prepared.now.cells) c.in_err-add_rows.field-0.0 c.from_residual-in_err-add_rows.result is so.outside)

pub returns-in_err-check_limit-clause-clash : goal.returns-in_err-check_limit-clause-clash
returns-in_err-check_limit-clause-clash g c =
    let H = g.H.Hash32.digest_of in
    let cells = c.cells-cells.result.now in
    let result = c.from_residual-in_err-check_limit.result in
    let gives = err_from_is_err_and result c.from_residual-in_err-check_limit.ensures.1 in
    let is : result ≡ Err c.in_err-check_limit.field-0.0 = cc (gives.1, gives.2) in
    if_some-map (λ (contents : Contents). Least cells contents (option_map (λ r. r.now) c.in_ok-cell.field-0))
    (λ (contents : Contents). (old : ToldWorld) → AreSoundContents H old contents → RefusesClash (told.first_clash H old c.args.prepared.now.cells) result)
    (g.K.Keeper.held c.args.keeper.now) c.in_ok-cell.ensures.least
    (λ contents least old sound.
    limit-refuses (told.first_clash H old c.args.prepared.now.cells) (find (λ e. rises_over c.args.limit e.1) c.add_rows.new.rows.entries) c.in_err-check_limit.field-0.0 result
    (sym c.check_limit.ensures ∙ c.in_err-check_limit.was) is
    (ap (told.first_clash H old) (sym c.cells-cells.ensures.value)
    ∙ clash-from H contents old (readable H old contents sound) cells None (sym (ap (option_map (λ r. r.now)) c.in_default.is) ∙ least H)))

pub invariant_of-result : goal.invariant_of-result
invariant_of-result g c =
    let listed = c.in_ok-cell.ensures in
    let added = c.in_ok-add_rows.ensures in
    fit-within c.args.limit c.requires c.add_rows.new.rows.entries (sym c.check_limit.ensures ∙ c.in_ok-check_limit.was)
    (added.good (listed.good (subst (λ (es : List (Hash256 × Row)). AreRowsGood (rows_of es)) (sym c.new-rows.ensures.empty) tt)))

abbrev Given : List NewCell → tree.BTreeMap Hash256 Row → Hash256 → tree.BTreeMap Hash256 Row → Contents → Type 0
Given cells rows root rows' contents = (H : List ℕ → Hash256) (old : ToldWorld) (grown : World) (block : Block) (listed : List Tree)
    → AreSoundContents H old contents → IsBrought H (shown old) grown block cells listed
    → AreListed (stored_in contents) cells rows → rep_of H block.state ≡ root
    → HaveCome H (shown old) grown block (unheld H (shown old) listed) (rows_of rows'.entries)

abbrev Added : (List ℕ → Hash256) → ChildInfo → List NewCell → tree.BTreeMap Hash256 Row → Contents → Type 0
Added H info cells rows' contents = (old : ToldWorld) (grown : World) (block : Block) (listed : List Tree) → AreSoundContents H old contents
    → IsBrought H (shown old) grown block cells listed → rep_of H block.state ≡ rep_of_info info
    → AreAdded H (shown old) grown (block ∷ []) (unheld H (shown old) listed) (rows_of rows'.entries)

abbrev Full : (List ℕ → Hash256) → ChildInfo → List NewCell → (ToldWorld → ToldWorld → Type 0) → Contents → Type 0
Full H info cells refuses contents = (old grown : ToldWorld) (block : Block) (listed : List Tree) → AreSoundContents H old contents
    → IsBrought H (shown old) (shown grown) block cells listed → rep_of H block.state ≡ rep_of_info info → refuses old grown

all-added : (H : List ℕ → Hash256) (held : Option Contents) (info : ChildInfo) (cells0 cells : List NewCell) (rows0 rows rows' : tree.BTreeMap Hash256 Row) (root : Hash256)
    → cells ≡ cells0 → IsValid H info cells0 → root ≡ rep_of_info info → rows0.entries ≡ [] → IsStrictlySortedBy hash_cmp (keys_of rows'.entries)
    → IfSome held (λ contents. Listed cells contents rows0 rows) → IfSome held (Given cells rows root rows') → IfSome held (Added H info cells0 rows')
all-added H held info cells0 cells rows0 rows rows' root same valid root_is empty sorted listed given =
    if_both (λ (contents : Contents). Listed cells contents rows0 rows) (Given cells rows root rows') (Added H info cells0 rows') held listed given
    (λ contents at_first given old grown block listed sound brought is.
    let brought0 = subst (λ (cs : List NewCell). IsBrought H (shown old) grown block cs listed) (sym same) brought in
    come-added H (shown old) grown block cells listed brought0 (valid-distinct H info cells0 valid listed brought.named) rows'
    (given H old grown block listed sound brought0 (at_first (none-listed (stored_in contents) rows0 empty)) (is ∙ sym root_is))
    (once-sorted rows'.entries sorted))

pub returns-clause-added : goal.returns-clause-added
returns-clause-added g c =
    let so = c.in_ok-cell.ensures in
    all-added g.H.Hash32.digest_of (g.K.Keeper.held c.args.keeper.now) c.args.prepared.now.root c.args.prepared.now.cells c.cells-cells.result.now
    c.new-rows.result c.list_cells.new.rows c.add_rows.new.rows c.rep-root.result
    c.cells-cells.ensures.value c.cells-cells.ensures.kept (c.rep-root.ensures ∙ ap rep_of_info c.root.ensures.value) c.new-rows.ensures.empty c.len.ensures.ordered
    so.listed (subst (λ (o : Option Contents). IfSome o (Given c.cells-cells.result.now c.list_cells.new.rows c.rep-root.result c.add_rows.new.rows)) so.keeps.same_held c.in_ok-add_rows.ensures.given)

pub returns-clause-full : goal.returns-clause-full
returns-clause-full g c =
    let H = g.H.Hash32.digest_of in
    let so = c.in_ok-cell.ensures in
    let rows' = c.add_rows.new.rows in
    if_some-map (Added H c.args.prepared.now.root c.args.prepared.now.cells rows')
    (Full H c.args.prepared.now.root c.args.prepared.now.cells (λ old grown. told.first_overflow H c.args.limit old grown ≡ None))
    (g.K.Keeper.held c.args.keeper.now)
    (all-added H (g.K.Keeper.held c.args.keeper.now) c.args.prepared.now.root c.args.prepared.now.cells c.cells-cells.result.now
    c.new-rows.result c.list_cells.new.rows rows' c.rep-root.result
    c.cells-cells.ensures.value c.cells-cells.ensures.kept (c.rep-root.ensures ∙ ap rep_of_info c.root.ensures.value) c.new-rows.ensures.empty c.len.ensures.ordered
    so.listed (subst (λ (o : Option Contents). IfSome o (Given c.cells-cells.result.now c.list_cells.new.rows c.rep-root.result rows')) so.keeps.same_held c.in_ok-add_rows.ensures.given))
    (λ contents added old grown block listed sound brought is.
    within-fills (told.first_overflow H c.args.limit old grown) (find (λ e. rises_over c.args.limit e.1) rows'.entries) (sym c.check_limit.ensures ∙ c.in_ok-check_limit.was)
    (overflow-is H c.args.limit old grown block (unheld H (shown old) listed) rows'.entries (added old (shown grown) block listed sound brought is) c.len.ensures.ordered))

pub returns-in_err-check_limit-clause-full : goal.returns-in_err-check_limit-clause-full
returns-in_err-check_limit-clause-full g c =
    let H = g.H.Hash32.digest_of in
    let so = c.in_ok-cell.ensures in
    let rows' = c.add_rows.new.rows in
    let result = c.from_residual-in_err-check_limit.result in
    let gives = err_from_is_err_and result c.from_residual-in_err-check_limit.ensures.1 in
    let is_err : result ≡ Err c.in_err-check_limit.field-0.0 = cc (gives.1, gives.2) in
    if_some-map (Added H c.args.prepared.now.root c.args.prepared.now.cells rows')
    (Full H c.args.prepared.now.root c.args.prepared.now.cells (λ old grown. RefusesFull (told.first_overflow H c.args.limit old grown) result))
    (g.K.Keeper.held c.args.keeper.now)
    (all-added H (g.K.Keeper.held c.args.keeper.now) c.args.prepared.now.root c.args.prepared.now.cells c.cells-cells.result.now
    c.new-rows.result c.list_cells.new.rows rows' c.rep-root.result
    c.cells-cells.ensures.value c.cells-cells.ensures.kept (c.rep-root.ensures ∙ ap rep_of_info c.root.ensures.value) c.new-rows.ensures.empty c.len.ensures.ordered
    so.listed (subst (λ (o : Option Contents). IfSome o (Given c.cells-cells.result.now c.list_cells.new.rows c.rep-root.result rows')) so.keeps.same_held c.in_ok-add_rows.ensures.given))
    (λ contents added old grown block listed sound brought is.
    limit-fills (told.first_overflow H c.args.limit old grown) (find (λ e. rises_over c.args.limit e.1) rows'.entries) c.in_err-check_limit.field-0.0 result
    (sym c.check_limit.ensures ∙ c.in_err-check_limit.was) is_err
    (overflow-is H c.args.limit old grown block (unheld H (shown old) listed) rows'.entries (added old (shown grown) block listed sound brought is) c.len.ensures.ordered))

pub returns-in-Some-clause-full : goal.returns-in-Some-clause-full
returns-in-Some-clause-full g c =
    let H = g.H.Hash32.digest_of in
    if_some (Full H c.args.prepared.now.root c.args.prepared.now.cells (λ old grown. RefusesFull {T = Rows} (told.first_overflow H c.args.limit old grown) (Rattle.std.proofs.Common.Err c.clash_of.result)))
    (g.K.Keeper.held c.args.keeper.now)
    (λ contents old grown block listed sound brought is. clash-fills {T = Rows} (told.first_overflow H c.args.limit old grown) _ _ _ c.clash_of.result (Rattle.std.proofs.Common.Err c.clash_of.result) refl c.clash_of.ensures)

pub returns-in_err-cell-clause-full : goal.returns-in_err-cell-clause-full
returns-in_err-cell-clause-full g c =
    let H = g.H.Hash32.digest_of in
    let gives = err_from_is_err_and c.from_residual.result c.from_residual.ensures.1 in
    let is_err : c.from_residual.result ≡ Err c.in_err-cell.field-0.0 = cc (gives.1, gives.2) in
    if_some (Full H c.args.prepared.now.root c.args.prepared.now.cells (λ old grown. RefusesFull (told.first_overflow H c.args.limit old grown) c.from_residual.result))
    (g.K.Keeper.held c.args.keeper.now)
    (λ contents old grown block listed sound brought is. outside-fills (told.first_overflow H c.args.limit old grown) c.in_err-cell.field-0.0 c.from_residual.result is_err c.in_err-cell.ensures.outside)

pub returns-in_err-add_rows-clause-full : goal.returns-in_err-add_rows-clause-full
returns-in_err-add_rows-clause-full g c =
    let H = g.H.Hash32.digest_of in
    let result = c.from_residual-in_err-add_rows.result in
    let gives = err_from_is_err_and result c.from_residual-in_err-add_rows.ensures.1 in
    let is_err : result ≡ Err c.in_err-add_rows.field-0.0 = cc (gives.1, gives.2) in
    if_some (Full H c.args.prepared.now.root c.args.prepared.now.cells (λ old grown. RefusesFull (told.first_overflow H c.args.limit old grown) result))
    (g.K.Keeper.held c.args.keeper.now)
    (λ contents old grown block listed sound brought is. outside-fills (told.first_overflow H c.args.limit old grown) c.in_err-add_rows.field-0.0 result is_err c.in_err-add_rows.ensures.outside)

pub returns-clause-clash : goal.returns-clause-clash
returns-clause-clash g c =
    let H = g.H.Hash32.digest_of in
    let cells = c.cells-cells.result.now in
    if_some-map (λ (contents : Contents). Least cells contents (option_map (λ r. r.now) c.in_ok-cell.field-0))
    (λ (contents : Contents). (old : ToldWorld) → AreSoundContents H old contents → told.first_clash H old c.args.prepared.now.cells ≡ None)
    (g.K.Keeper.held c.args.keeper.now) c.in_ok-cell.ensures.least
    (λ contents least old sound.
    ap (told.first_clash H old) (sym c.cells-cells.ensures.value)
    ∙ clash-from H contents old (readable H old contents sound) cells None (sym (ap (option_map (λ r. r.now)) c.in_default.is) ∙ least H))
