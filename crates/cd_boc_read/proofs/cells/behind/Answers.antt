use Rattle.std.proofs.Common.{None, Some}
use Rattle.std.proofs.lemmas.Slice.Eq.{strip_prefix_is}
use Rattle.std.proofs.lemmas.Bool.Decides.{Decides-eqb}
use Rattle.cd_boc_read.proofs.StoredTexts.{first_differs, second_differs, third_differs, last_piece}
use Rattle.cd_boc_read.proofs.cells.behind.Goals as goal

pub returns-in_default : goal.returns-in_default
returns-in_default c =
    let x = c.args in
    first_differs x.a.now x.b.now x.c.now x.d.now x.bytes.now (strip_prefix_is Decides-eqb x.bytes.now x.a.now None c.in_default.ensures.cases)

pub returns-in_default-strip_prefix : goal.returns-in_default-strip_prefix
returns-in_default-strip_prefix c =
    let x = c.args in
    let one = c.in-Some.one in
    second_differs x.a.now x.b.now x.c.now x.d.now x.bytes.now one.now (strip_prefix_is Decides-eqb x.bytes.now x.a.now (Some one) c.in-Some.ensures.cases)
    (strip_prefix_is Decides-eqb one.now x.b.now None c.in_default-strip_prefix.ensures.cases)

pub returns-in_default-strip_prefix-2 : goal.returns-in_default-strip_prefix-2
returns-in_default-strip_prefix-2 c =
    let x = c.args in
    let one = c.in-Some.one in
    let two = c.in-Some-strip_prefix.two in
    third_differs x.a.now x.b.now x.c.now x.d.now x.bytes.now one.now (strip_prefix_is Decides-eqb x.bytes.now x.a.now (Some one) c.in-Some.ensures.cases)
    two.now (strip_prefix_is Decides-eqb one.now x.b.now (Some two) c.in-Some-strip_prefix.ensures.cases)
    (strip_prefix_is Decides-eqb two.now x.c.now None c.in_default-strip_prefix-2.ensures.cases)

pub returns : goal.returns
returns c =
    let x = c.args in
    let one = c.in-Some.one in
    let two = c.in-Some-strip_prefix.two in
    let three = c.in-Some-strip_prefix-2.three in
    last_piece x.a.now x.b.now x.c.now x.d.now x.bytes.now one.now (strip_prefix_is Decides-eqb x.bytes.now x.a.now (Some one) c.in-Some.ensures.cases)
    two.now (strip_prefix_is Decides-eqb one.now x.b.now (Some two) c.in-Some-strip_prefix.ensures.cases)
    three.now (strip_prefix_is Decides-eqb two.now x.c.now (Some three) c.in-Some-strip_prefix-2.ensures.cases)
    c.strip_prefix-4.result (strip_prefix_is Decides-eqb three.now x.d.now c.strip_prefix-4.result c.strip_prefix-4.ensures.cases)
