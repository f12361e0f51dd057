use Rattle.std.proofs.Common.{◌≡◌, ◌+◌, ◌++◌, length, take, refl, arith, length-append, length-take}
use Rattle.std.proofs.lemmas.Grind.{common_steps}
use Rattle.cd_base.specs.Told.{Gave, IsAtEnd}
use Rattle.cd_base.proofs.ToldLaws.{Gave-append, Gave-all, Gave-more}
use Rattle.cd_base.proofs.whole.read_all.Goals as goal

pub returns-then-count-eq0-clause-whole : goal.returns-then-count-eq0-clause-whole
returns-then-count-eq0-clause-whole g c =
    let left = g.S.Source.left in
    let gave : Gave (left c.args.source.now) (left c.read.new.self) c.loop-bytes.bytes.items = grind (arith, common_steps) in
    let end : IsAtEnd (left c.read.new.self) = c.in_ok-count.ensures.end c.if-count-eq0.true in
    record {
      gave = gave;
      end = end;
      all = Gave-all _ _ _ gave end;
      within = omega arith;
    }

pub returns-then-room-count-clause-stopped : goal.returns-then-room-count-clause-stopped
returns-then-room-count-clause-stopped g c =
    let bytes = c.loop-bytes.bytes.items ++ take c.in_ok-count.count c.read.new.into in
    let gave = Gave-append _ _ _ _ _ c.loop-bytes.invariant.gave c.in_ok-count.ensures.bytes in
    let are : length bytes ≡ c.args.limit + 1 = grind (arith, length-append, length-take, c.in_ok-count.ensures.bound) in (
      refl,
      record {
        gave = record { bytes = bytes; gave = gave; are = are };
        more = Gave-more c.args.limit _ _ bytes gave (omega arith);
      },
    )

pub returns-then-is_err-clause-stopped : goal.returns-then-is_err-clause-stopped
returns-then-is_err-clause-stopped g c = record {
  bytes = c.loop-bytes.bytes.items ++ take c.in_ok-count.count c.read.new.into;
  gave = Gave-append _ _ _ _ _ c.loop-bytes.invariant.gave c.in_ok-count.ensures.bytes;
  are = grind (arith, length-append, length-take, c.in_ok-count.ensures.bound);
}
