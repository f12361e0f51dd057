-- Steps of settling, one after another.
use Rattle.std.proofs.Common.{◌≡◌, ℕ, List, [], ◌∷◌, ◌++◌, map, Option, Some, None, refl, sym, ap, ◌∙◌, subst, append_assoc, append-nil}
use Rattle.std.specs.Option.{option_map}
use Rattle.cd_base.specs.declared.hash.Hash256.{Hash256}
use Rattle.cd_block.specs.declared.block.BlockId.{BlockId}
use Rattle.cd_keeper.specs.declared.keeper.Keeper.{Ghosts as KeeperGhosts}
use Rattle.cd_keeper.specs.Contents.{Contents}
use Rattle.cd_keeper.specs.Keeping.{longer}
use Rattle.cd_world.specs.declared.world.World.{World}
use Rattle.cd_world.specs.Image.{IsContentsOf}
use Rattle.cd_world.specs.Told.{ToldWorld, shown}
use Rattle.cd_world.specs.Trail.{AreContentsOf}
use Rattle.cd_world.specs.Machine.{replay}
use Rattle.cd_core.specs.declared.start.CoreStart.{CoreStart}
use Rattle.cd_core.specs.Cores.{CoreView, Holds, world_of}
use Rattle.cd_core.specs.Settling.{Settles, without_leaving}
use Rattle.cd_restart.specs.Settled.{told_at, IsOnTheWay, IsSettling}
use Rattle.cd_restart.proofs.SettledWorlds.{way-start, way-step}

no-longer : (trail : Option (List Contents)) → trail ≡ option_map (λ cs. cs ++ []) trail
no-longer None = refl
no-longer (Some cs) = ap {B = Option (List Contents)} Some (sym (append-nil cs))

one-longer : (trail : Option (List Contents)) (more : List Contents) (c : Contents) → longer (option_map (λ cs. cs ++ more) trail) (Some c) ≡ option_map (λ cs. cs ++ (more ++ c ∷ [])) trail
one-longer None more c = refl
one-longer (Some cs) more c = ap {B = Option (List Contents)} Some (append_assoc cs more (c ∷ []))

map-push : {A B : Type 0} (f : A → B) (xs : List A) (x : A) → map f xs ++ f x ∷ [] ≡ map f (xs ++ x ∷ [])
map-push f [] x = refl
map-push f (y ∷ ys) x = ap (λ zs. f y ∷ zs) (map-push f ys x)

module _ (H : List ℕ → Hash256) where
  contents-push : (ts : List ToldWorld) (cs : List Contents) (t : ToldWorld) (c : Contents) → AreContentsOf H ts cs → IsContentsOf H (shown t) c → AreContentsOf H (ts ++ t ∷ []) (cs ++ c ∷ [])
  contents-push [] [] t c are is = (is, tt)
  contents-push [] (d ∷ ds) t c are is = absurd are
  contents-push (u ∷ us) [] t c are is = absurd are
  contents-push (u ∷ us) (d ∷ ds) t c are is = (are.0, contents-push us ds t c are.1 is)

  module _ {K X : Type 0} (k : KeeperGhosts K) where
    pub settling-start : (core : CoreView K X) → IsSettling H k core core []
    settling-start core = record {
      way = way-start (world_of core);
      limit = refl;
      silent = λ none. none;
      told = λ t same h. record {
        holds = subst (λ w. Holds k.held H (told_at t w) core.keeper) same h;
        more = [];
        is_trail = no-longer (k.trail core.keeper);
        are = tt;
      };
    }

    pub settling-more : (first left now : CoreView K X) (passed : List World) (id : BlockId) → now.journal ≡ [] → IsSettling H k first left passed → Settles k.held H k.trail k.batches left now id
        → IsSettling H k first now (passed ++ without_leaving (world_of left) ∷ [])
    settling-more first left now passed id none so step =
        let world : world_of now ≡ without_leaving (world_of left) = ap (λ es. replay now.start.world.value es) none ∙ step.world in
        record {
          way = subst (λ w. IsOnTheWay (world_of first) w (passed ++ without_leaving (world_of left) ∷ [])) (sym world)
              (way-step (world_of first) (world_of left) passed step.block so.way step.first);
          limit = step.limit ∙ so.limit;
          silent = λ untold. step.silent (so.silent untold);
          told = λ t same h.
              let was = so.told t same h in
              let drop = step.told (told_at t (world_of left)) refl was.holds in
              let holds = drop.holds in
              let are = holds.are in
              record {
                holds = subst (λ w. Holds k.held H (told_at t w) now.keeper) (sym world) holds;
                more = was.more ++ holds.contents ∷ [];
                is_trail = drop.trailed ∙ ap (longer (k.trail left.keeper)) holds.is_held ∙ ap (λ o. longer o (Some holds.contents)) was.is_trail ∙ one-longer (k.trail first.keeper) was.more holds.contents;
                are = subst (λ ts. AreContentsOf H ts (was.more ++ holds.contents ∷ [])) (map-push (told_at t) passed (without_leaving (world_of left)))
                    (contents-push (map (told_at t) passed) was.more (told_at t (without_leaving (world_of left))) holds.contents was.are are.are);
              };
        }

    -- what a call leaves as it is
    pub settling-same : (first left now : CoreView K X) (passed : List World) → now.start ≡ left.start → now.journal ≡ left.journal → k.held now.keeper ≡ k.held left.keeper → k.trail now.keeper ≡ k.trail left.keeper
        → IsSettling H k first left passed → IsSettling H k first now passed
    settling-same first left now passed start journal held trail so =
        let world : world_of now ≡ world_of left = λ i. replay (start i).world.value (journal i) in
        record {
          way = subst (λ w. IsOnTheWay (world_of first) w passed) (sym world) so.way;
          limit = ap (λ (s : CoreStart K). s.limit) start ∙ so.limit;
          silent = λ untold. held ∙ so.silent untold;
          told = λ t same h.
              let was = so.told t same h in
              let holds = was.holds in
              record {
                holds = subst (λ w. Holds k.held H (told_at t w) now.keeper) (sym world) (record { contents = holds.contents; is_held = held ∙ holds.is_held; are = holds.are });
                more = was.more;
                is_trail = trail ∙ was.is_trail;
                are = was.are;
              };
        }
