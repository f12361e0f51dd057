use Rattle.std.proofs.Common.{◌≡◌, ◌<◌, ◌+◌, false, length, get_or, refl, sym, ap, subst, ◌∙◌, arith, append-nil, length-drop, true≢false, ◌-◌}
use Rattle.cd_gate.specs.Gates.{SeatView, IsSeatOf}
use Rattle.cd_event.specs.declared.entry.Entry.{Entry}
use Rattle.cd_core.specs.declared.start.CoreStart.{CoreStart}
use Rattle.cd_threads.specs.Seats.{KnowsSame}
use Rattle.cd_threads.proofs.SeatLaws.{next_at, rest_next, of_joined, knows_itself, each_next, more_taken, last_joined, it_knows, still_knows}
use Rattle.cd_threads.proofs.joining.join_lanes.Goals.{then-want, else-want}
use Rattle.cd_threads.proofs.joining.join_lanes.Goals as goal

pub loop-place-init : goal.loop-place-init
loop-place-init g c = record {
  rest = refl;
  of = c.requires.first.0;
  lowest = c.requires.first.1;
  end = c.requires.beside;
  first = knows_itself g.H.Hash32.digest_of g.K.Keeper.held c.args.db.now.start 0 c.args.first.seen;
  knows = λ k d lt. absurd (omega (arith, lt));
  alone = λ _. refl;
  last = λ d k e. absurd (omega (arith, e));
  ends = sym (append-nil c.args.ends.now.items);
  room = c.requires.room;
  want = λ _ k d lt. absurd (omega (arith, lt));
}

pub join-requires-clause-other : goal.join-requires-clause-other
join-requires-clause-other g c =
    let n = c.loop-place._place in
    let all = c.args.lanes.items in
    let x = c.remove-seat.result in
    let lt : n < length all = omega (arith, c.loop-place-test.true, c.len-place-end.ensures, c.args.lanes.ok.0) in
    let next : get_or all n x ≡ x = next_at all c.loop-place.rest.items n c.loop-place.invariant.rest x lt c.remove-seat.ensures.value x in
    subst (IsSeatOf c.args.db.now) (sym c.into_seat.ensures)
    (subst (λ l. IsSeatOf c.args.db.now l.seat.seat) next (c.requires.each n x lt).of)

pub join-requires-clause-adjacent : goal.join-requires-clause-adjacent
join-requires-clause-adjacent g c =
    let n = c.loop-place._place in
    let all = c.args.lanes.items in
    let x = c.remove-seat.result in
    let lt : n < length all = omega (arith, c.loop-place-test.true, c.len-place-end.ensures, c.args.lanes.ok.0) in
    let next : get_or all n x ≡ x = next_at all c.loop-place.rest.items n c.loop-place.invariant.rest x lt c.remove-seat.ensures.value x in
    ap (λ (v : SeatView (Entry g.row.H.Denot) (CoreStart g.row.K.Denot)). v.lowest) c.into_seat.ensures
    ∙ (subst (λ l. l.seat.seat.lowest ≡ n + 1) next (c.requires.each n x lt).lowest ∙ sym (c.loop-place.invariant.end lt))

pub loop-place-preserved : goal.loop-place-preserved
loop-place-preserved g c =
    let inv = c.loop-place.invariant in
    let n = c.loop-place._place in
    let all = c.args.lanes.items in
    let x = c.remove-seat.result in
    let whole = c.loop-place.whole in
    let now = c.join.new.seat in
    let o = c.into_seat.result in
    let digest = g.H.Hash32.digest_of in
    let held = g.K.Keeper.held in
    let start = c.args.db.now.start in
    let lt : n < length all = omega (arith, c.loop-place-test.true, c.len-place-end.ensures, c.args.lanes.ok.0) in
    let next : (d : _) → get_or all n d ≡ x = next_at all c.loop-place.rest.items n inv.rest x lt c.remove-seat.ensures.value in
    let lowest : x.seat.seat.lowest ≡ n + 1 = subst (λ l. l.seat.seat.lowest ≡ n + 1) (next x) (c.requires.each n x lt).lowest in
    let some : x.seat.seat.lowest < x.seat.seat.end = subst (λ l. l.seat.seat.lowest < l.seat.seat.end) (next x) (c.requires.each n x lt).some in
    let end : now.end ≡ o.end = ap (λ (v : SeatView (Entry g.row.H.Denot) (CoreStart g.row.K.Denot)). v.end) c.join.ensures.seat in
    let left : length c.loop-place.rest.items ≡ length all - n = ap length inv.rest ∙ length-drop n all in
    let now_left : length c.remove-seat.new.self.items ≡ length c.loop-place.rest.items - 1 = ap length c.remove-seat.ensures.items ∙ length-drop 1 c.loop-place.rest.items in
    let neither : c.if-want.want ≡ false → (c.loop-place.want ≡ false) × (x.memory ≡ false) = λ none. elim c.if-want.branch
    [ then-want w ↦ absurd (true≢false (sym w.if-want.true ∙ (sym w.want-is ∙ none))) | else-want w ↦ (w.if-want.false, sym w.want-is ∙ none) ] in
    record {
      rest = rest_next all c.loop-place.rest.items n inv.rest c.remove-seat.new.self.items c.remove-seat.ensures.items;
      of = of_joined c.args.db.now whole inv.of now o c.join.ensures.seat;
      lowest = ap (λ (v : SeatView (Entry g.row.H.Denot) (CoreStart g.row.K.Denot)). v.lowest) c.join.ensures.seat ∙ inv.lowest;
      end = λ more. end ∙ (ap (λ (v : SeatView (Entry g.row.H.Denot) (CoreStart g.row.K.Denot)). v.end) c.into_seat.ensures
          ∙ subst (λ l. l.seat.seat.end ≡ n + 1 + 1) (next x) ((c.requires.each n x lt).end (omega (arith, more))));
      first = still_knows digest held start whole now c.join.ensures.mine inv.lowest n 0 (inv.end lt) (omega arith) c.args.first.seen inv.first;
      knows = each_next all c.loop-place.rest.items n inv.rest (λ k l. KnowsSame digest held start (k + 1) l.seat.seat.seen now.seen) x next
          (λ k d low. still_knows digest held start whole now c.join.ensures.mine inv.lowest n (k + 1) (inv.end lt) (omega (arith, low)) (get_or all k d).seat.seat.seen (inv.knows k d low))
          (it_knows digest held start (λ l. l.seat.seat) all n x next now o c.into_seat.ensures lowest c.join.ensures.theirs some);
      alone = λ e. absurd (omega (arith, e));
      last = last_joined digest held start (λ l. l.seat.seat) all n x next now o c.into_seat.ensures lowest c.join.ensures.theirs end;
      ends = more_taken all c.loop-place.rest.items n inv.rest (λ l. l.outcomes) x lt (next x) c.args.ends.now.items c.push_reserved.new.self.items c.loop-place.ends.items inv.ends c.push_reserved.ensures.items;
      room = omega (arith, inv.room, left, now_left, lt, c.push_reserved.ensures.len, c.push_reserved.ensures.capacity);
      want = λ none. each_next all c.loop-place.rest.items n inv.rest (λ _ l. l.memory ≡ false) x next
          (λ k d low. inv.want (neither none).0 k d low)
          (neither none).1;
    }

pub returns-clause-last : goal.returns-clause-last
returns-clause-last g c d k e =
    c.loop-place.invariant.last d k (omega (arith, c.loop-place-test.false, c.loop-place.auto._place-end, c.len-place-end.ensures, c.args.lanes.ok.0, e))
