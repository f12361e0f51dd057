use Rattle.std.proofs.Common.{refl}
use Rattle.cd_restart.proofs.FreeOfFaults.{no_fault}
use Rattle.cd_restart.proofs.SoundStores.{no_scan_fault, blocks-are}
use Rattle.cd_restart.proofs.StoredWorlds as stored
use Rattle.cd_restart.proofs.laws.a_scan_is_exact.Goals as goal

pub returns : goal.returns
returns g c =
    let H = g.H.Hash32.digest_of in
    let long = g.met.H.Hash32.has_32_bytes in
    record {
      whole = λ contents fits none.
          let each = no_fault H contents none in
          record {
            sound = stored.sound H contents fits each;
            alone = refl;
            are = stored.contents-are H contents fits each;
          };
      only = λ contents t fits store.
          (no_scan_fault H long contents t fits store.sound store.are, blocks-are H long contents t fits store.sound store.are);
    }
