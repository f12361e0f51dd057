use Rattle.std.proofs.Common.{rules, ◌<◌, ap, sym, subst, arith}
use Rattle.cd_gate.proofs.Keeps.{joins_pair, settles_longer}
use Rattle.cd_gate.proofs.Turning.{grown_is, grown_mine, grown_theirs}
use Rattle.cd_gate.proofs.steps.take_in.Goals as goal

pub join_seat-requires : goal.join_seat-requires
join_seat-requires g c =
    let t = g.T.Journaled in
    let key = c.args.table.now.key in
    let p = c.args.seat.now in
    let q = c.args.other in
    let rests = c.requires.rests in
    let others = c.requires.other_rests in
    (search rules, search rules, others.nothing, search rules, joins_pair t.number t.entries t.start (t.start key.first.value) key.workers p.id p.me.0 q.id q.me.0 rests.idle others.idle rests.some others.some c.requires.adjacent)

pub load-requires : goal.load-requires
load-requires g c =
    let t = g.T.Journaled in
    let key = c.args.table.now.key in
    let p = c.args.seat.now in
    let q = c.args.other in
    let is = c.join_seat.ensures.2 in
    let next = c.requires.adjacent in
    let a = c.requires.rests.some in
    let b = c.requires.other_rests.some in
    let wide : p.me.0.lowest < q.me.0.end = omega arith in
    (search rules, search rules, settles_longer t.number t.entries t.start (t.start key.first.value) key.workers c.args.table.now.table_id.slots c.join_seat.new.seat.id c.join_seat.new.seat.me q.me.0.lowest q.me.0.seen (ap (λ m. m.0.role) is) (subst (λ m. m.0.lowest < m.0.end) (sym is) wide))

pub returns-clause-grown : goal.returns-clause-grown
returns-clause-grown g c =
    let t = g.T.Journaled in
    let q = c.args.other.me.0 in
    let is = c.join_seat.ensures.2 in
    let kept = c.load.ensures.2 q.lowest q.seen (ap (λ m. m.0.role) is) in
    grown_is t.number t.entries t.start c.args.seat.now.me c.join_seat.new.seat.me c.load.new.seat.me q c.requires.rests.nothing is kept.0

pub returns-clause-mine : goal.returns-clause-mine
returns-clause-mine g c =
    let t = g.T.Journaled in
    let q = c.args.other.me.0 in
    let is = c.join_seat.ensures.2 in
    let kept = c.load.ensures.2 q.lowest q.seen (ap (λ m. m.0.role) is) in
    let now = grown_is t.number t.entries t.start c.args.seat.now.me c.join_seat.new.seat.me c.load.new.seat.me q c.requires.rests.nothing is kept.0 in
    grown_mine t.number t.entries t.start c.args.seat.now.me c.join_seat.new.seat.me c.load.new.seat.me q c.requires.adjacent is now kept.1

pub returns-clause-theirs : goal.returns-clause-theirs
returns-clause-theirs g c =
    let t = g.T.Journaled in
    let q = c.args.other.me.0 in
    let is = c.join_seat.ensures.2 in
    let kept = c.load.ensures.2 q.lowest q.seen (ap (λ m. m.0.role) is) in
    let now = grown_is t.number t.entries t.start c.args.seat.now.me c.join_seat.new.seat.me c.load.new.seat.me q c.requires.rests.nothing is kept.0 in
    grown_theirs t.number t.entries t.start c.args.seat.now.me c.join_seat.new.seat.me c.load.new.seat.me q is now kept.2
