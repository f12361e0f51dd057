use Rattle.std.proofs.Common.{◌<◌, List, length, All, IfSome, IfNone, sym, subst, IsPermutation}
use Rattle.cd_cell.specs.ClashSearch.{NumberedHash, AllAgree, IsFirstClash}
use Rattle.cd_cell.proofs.ClashLaws.{keys-within, found-is}
use Rattle.cd_cell.proofs.clashes.least_clash.Goals as goal

pub first_clash-requires : goal.first_clash-requires
first_clash-requires c =
    let fs = c.args.faces.now in
    let infos = c.args.infos.now in
    let keys = c.sort_unstable.new.self.items in
    let moved = subst (λ (ks : List NumberedHash). IsPermutation ks keys) c.in_ok-keys.ensures c.sort_unstable.ensures.permutation in
    subst (λ (ks : List NumberedHash). All (λ (key : NumberedHash). key.1 < length fs) ks) (sym c.deref.ensures.value) (keys-within fs infos c.requires.counted keys moved)

pub returns : goal.returns
returns c =
    let fs = c.args.faces.now in
    let infos = c.args.infos.now in
    let keys = c.sort_unstable.new.self.items in
    let moved = subst (λ (ks : List NumberedHash). IsPermutation ks keys) c.in_ok-keys.ensures c.sort_unstable.ensures.permutation in
    let none = subst (λ (ks : List NumberedHash). IfNone c.first_clash.result (AllAgree fs ks (length ks))) c.deref.ensures.value c.first_clash.ensures.none in
    let some = subst (λ (ks : List NumberedHash). IfSome c.first_clash.result (IsFirstClash fs ks)) c.deref.ensures.value c.first_clash.ensures.some in
    found-is fs infos c.requires.counted keys moved c.sort_unstable.ensures.sorted c.first_clash.result none some
