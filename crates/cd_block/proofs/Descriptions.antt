-- A description that is read is spelled so, and what is spelled so is read.
use Rattle.std.proofs.Common.{cond, zero, suc, ◌≡◌, ℕ, ◌≤◌, ◌<◌, Bool, true, false, eqb, List, [], ◌∷◌, ◌++◌, length, Result, Ok, Err, refl, sym, ap, subst, ◌∙◌, append_assoc, arith}
use Rattle.std.specs.Prelude.{IfOk, IsTrue}
use Rattle.std.specs.List.{flat_map, AllByRecursion}
use Rattle.std.specs.Int.{w16, to_be_bytes, from_bool}
use Rattle.std.proofs.lemmas.Bool.{eqb-true}
use Rattle.std.proofs.lemmas.List.{append-nil, nil_from_length}
use Rattle.cd_block.specs.declared.shard.ShardId.{ShardId}
use Rattle.cd_block.specs.declared.block.BlockId.{BlockId}
use Rattle.cd_block.specs.declared.description.Descr.{Descr}
use Rattle.cd_block.specs.declared.description.DescrFault.{DescrFault}
use Rattle.cd_block.specs.declared.description.DescrFault.TheVariants.{Cut, Extra}
use Rattle.cd_block.specs.Shard.{is_master}
use Rattle.cd_block.specs.Block.{IsBlockId, key_of, id_of}
use Rattle.cd_block.specs.Description.{ids_text, descr_text, IsDescr, IsDescrFit}
use Rattle.cd_block.specs.Reading.{Gives, version_at, small_at, depth_at, id_at, most_tops, descr_in}
use Rattle.cd_base.specs.Numbers.{IsBytes}
use Rattle.cd_block.proofs.Keys.{key_of-id_of, id_of-key_of, IsBlockId-id_of}
use Rattle.cd_base.specs.Reading.{part_at, each_at}
use Rattle.cd_base.proofs.ReadingLaws.{by_ok, ok_is, kept_by_test, part_takes, part_again}
use Rattle.cd_block.proofs.DescrFields.{version_takes, version_again, small_takes, small_again, depth_takes, depth_again, ids_take, ids_again}

abbrev made : BlockId → ℕ → List BlockId → List ℕ → ℕ → List BlockId → Descr
made id leaving parents root depth tops = record {
  id = id;
  parents = parents;
  root = record { 0 = root };
  depth = depth;
  tops = tops;
  leaving = eqb leaving 1;
}

-- the fields one behind the other
joined : ℕ → List BlockId → List ℕ → ℕ → List BlockId → List ℕ
joined leaving parents root depth tops =
    1 ∷ leaving ∷ length parents ∷ (flat_map key_of parents ++ (root ++ (to_be_bytes w16 depth ++ length tops ∷ flat_map key_of tops)))

text_is : (d : Descr) → descr_text d ≡ joined (from_bool d.leaving) d.parents d.root.0 d.depth d.tops
unfolding descr_text ids_text joined
text_is d = ap (λ (rest : List ℕ). 1 ∷ from_bool d.leaving ∷ length d.parents ∷ rest) (grouped (flat_map key_of d.parents) d.root.0 (to_be_bytes w16 d.depth) (length d.tops ∷ flat_map key_of d.tops))
  where
    grouped : (a b c e : List ℕ) → ((a ++ b) ++ c) ++ e ≡ a ++ (b ++ (c ++ e))
    grouped a b c e = simp append_assoc

-- a truth as a byte
bit-le : (b : Bool) → from_bool b ≤ 1
bit-le true = omega arith
bit-le false = omega arith

bit-back : (b : Bool) → eqb (from_bool b) 1 ≡ b
bit-back true = refl
bit-back false = refl

bit_is : (n : ℕ) → n ≤ 1 → from_bool (eqb n 1) ≡ n
bit_is zero le = refl
bit_is (suc zero) le = refl
bit_is (suc (suc n)) le = absurd (omega arith)

-- ---- what is spelled is read

enough_tops : (s : ShardId) (n : ℕ) → n ≤ 64 → (0 < n → IsTrue (is_master s)) → n ≤ most_tops s
unfolding most_tops
enough_tops s zero le h = omega arith
enough_tops s (suc n) le h = rw (h (omega arith)) le

joined-read : (key : List ℕ) (id : BlockId) (leaving : ℕ) (parents : List BlockId) (root : List ℕ) (depth : ℕ) (tops : List BlockId)
    → id_of key ≡ id → leaving ≤ 1 → length parents ≤ 2 → AllByRecursion IsBlockId parents → length root ≡ 32 → depth ≤ 1024
    → length tops ≤ most_tops id.shard_id → AllByRecursion IsBlockId tops
    → descr_in key (joined leaving parents root depth tops) ≡ Ok (made id leaving parents root depth tops)
unfolding descr_in joined
joined-read key id leaving parents root depth tops eid lf lp kp lr ld lt kt =
    let last : each_at id_at (length tops) (flat_map key_of tops) ≡ Ok (tops, []) = ap (each_at id_at (length tops)) (sym (append-nil (flat_map key_of tops))) ∙ ids_again tops [] kt in
    let after_root = to_be_bytes w16 depth ++ length tops ∷ flat_map key_of tops in
    rw (
      eid,
      version_again (leaving ∷ length parents ∷ (flat_map key_of parents ++ (root ++ after_root))),
      small_again 1 leaving (length parents ∷ (flat_map key_of parents ++ (root ++ after_root))) lf,
      small_again 2 (length parents) (flat_map key_of parents ++ (root ++ after_root)) lp,
      ids_again parents (root ++ after_root) kp,
      part_again Cut 32 root after_root lr,
      depth_again depth (length tops ∷ flat_map key_of tops) ld,
      small_again (most_tops id.shard_id) (length tops) (flat_map key_of tops) lt,
      last,
    ) refl

pub descr_again : (d : Descr) → IsDescr d → IsDescrFit d → descr_in (key_of d.id) (descr_text d) ≡ Ok d
descr_again d known fit =
    ap (descr_in (key_of d.id)) (text_is d)
    ∙ joined-read (key_of d.id) d.id (from_bool d.leaving) d.parents d.root.0 d.depth d.tops (id_of-key_of d.id known.id) (bit-le d.leaving) fit.parents
    known.parents known.root.len fit.depth (enough_tops d.id.shard_id (length d.tops) fit.tops fit.tops_on_master) known.tops
    ∙ ap (λ leaving. Ok (record d { leaving = leaving })) (bit-back d.leaving)

-- ---- what is read is spelled so

tops_by : (b : Bool) (n : ℕ) → n ≤ cond b 64 0 → (n ≤ 64) × (0 < n → IsTrue b)
tops_by true n le = (le, λ _. refl)
tops_by false n le = (omega arith, λ some. absurd (omega arith))

tops_fit : (s : ShardId) (n : ℕ) → n ≤ most_tops s → (n ≤ 64) × (0 < n → IsTrue (is_master s))
unfolding most_tops
tops_fit s n le = tops_by (is_master s) n le

IsBytes-tail : (x : ℕ) (bytes rest : List ℕ) → bytes ≡ x ∷ rest → IsBytes bytes → IsBytes rest
IsBytes-tail x bytes rest e fits = λ i. rw e at (fits (suc i))

same_cons : (a b : ℕ) (xs ys : List ℕ) → a ≡ b → xs ≡ ys → ◌≡◌ {A = List ℕ} (a ∷ xs) (b ∷ ys)
same_cons a b xs ys e f = rw (e, f) refl

abbrev pub IsRead : List ℕ → List ℕ → Descr → Type 0
IsRead key value d = IsDescr d × IsDescrFit d × (key ≡ key_of d.id) × (value ≡ descr_text d)

descr_takes : (key value : List ℕ) (d : Descr) → length key ≡ 80 → IsBytes key → IsBytes value → descr_in key value ≡ Ok d → IsRead key value d
unfolding descr_in joined
descr_takes key value d len fk fv e =
    by_ok (version_at value) _ d e (λ flags e0 k0.
    by_ok (small_at 1 flags) _ d k0 (λ leaving e1 k1.
    by_ok (small_at 2 leaving.1) _ d k1 (λ parent_count e2 k2.
    by_ok (each_at id_at parent_count.0 parent_count.1) _ d k2 (λ parents e3 k3.
    by_ok (part_at Cut 32 parents.1) _ d k3 (λ root e4 k4.
    by_ok (depth_at root.1) _ d k4 (λ depth e5 k5.
    by_ok (small_at (most_tops (id_of key).shard_id) depth.1) _ d k5 (λ top_count e6 k6.
    by_ok (each_at id_at top_count.0 top_count.1) _ d k6 (λ tops e7 k7.
    let g = kept_by_test (eqb (length tops.1) 0) Extra (made (id_of key) leaving.0 parents.0 root.0 depth.0 tops.0) d k7 in
    let t0 = version_takes value flags e0 in
    let t1 = small_takes 1 flags leaving e1 in
    let t2 = small_takes 2 leaving.1 parent_count e2 in
    let f0 = IsBytes-tail 1 value flags t0 fv in
    let f1 = IsBytes-tail leaving.0 flags leaving.1 t1.0 f0 in
    let f2 = IsBytes-tail parent_count.0 leaving.1 parent_count.1 t2.0 f1 in
    let t3 = ids_take parent_count.0 parent_count.1 parents f2 e3 in
    let t4 = part_takes Cut 32 parents.1 root t3.0.rest_fits e4 in
    let t5 = depth_takes root.1 depth t4.0.rest_fits e5 in
    let t6 = small_takes (most_tops (id_of key).shard_id) depth.1 top_count e6 in
    let t7 = ids_take top_count.0 top_count.1 tops (IsBytes-tail top_count.0 depth.1 top_count.1 t6.0 t5.0.rest_fits) e7 in
    let nothing : tops.1 ≡ [] = nil_from_length tops.1 (eqb-true _ _ g.0) in
    let last : top_count.1 ≡ flat_map key_of tops.0 = t7.0.parts ∙ ap (λ (x : List ℕ). flat_map key_of tops.0 ++ x) nothing ∙ append-nil (flat_map key_of tops.0) in
    let value_is : value ≡ joined leaving.0 parents.0 root.0 depth.0 tops.0 =
    t0 ∙ ap (λ (x : List ℕ). 1 ∷ x) (t1.0 ∙ ap (λ (x : List ℕ). leaving.0 ∷ x) (t2.0
    ∙ same_cons parent_count.0 (length parents.0) parent_count.1 _ (sym t3.1) (t3.0.parts
    ∙ ap (λ (x : List ℕ). flat_map key_of parents.0 ++ x) (t4.0.parts
    ∙ ap (λ (x : List ℕ). root.0 ++ x) (t5.0.parts
    ∙ ap (λ (x : List ℕ). to_be_bytes w16 depth.0 ++ x) (t6.0 ∙ same_cons top_count.0 (length tops.0) top_count.1 _ (sym t7.1) last)))))) in
    let fit = tops_fit (id_of key).shard_id top_count.0 t6.1 in
    let read : IsRead key value (made (id_of key) leaving.0 parents.0 root.0 depth.0 tops.0) = (
      record { id = IsBlockId-id_of key len fk; parents = t3.2; root = record { len = t4.1; bytes = t4.0.text_fits }; tops = t7.2 },
      record { parents = omega (arith, t3.1, t2.1); depth = t5.1; tops = omega (arith, t7.1, fit.0); tops_on_master = λ some. fit.1 (omega (arith, t7.1)) },
      sym (key_of-id_of key len fk),
      value_is ∙ ap (λ bit. joined bit parents.0 root.0 depth.0 tops.0) (sym (bit_is leaving.0 t1.1)) ∙ sym (text_is (made (id_of key) leaving.0 parents.0 root.0 depth.0 tops.0)),
    ) in
    subst (IsRead key value) g.1 read))))))))

pub is_found : (key value : List ℕ) (r : Result Descr DescrFault) → length key ≡ 80 → IsBytes key → IsBytes value → Gives (λ d. d) r (descr_in key value) → IfOk r (IsRead key value)
is_found key value (Ok d) len fk fv given = descr_takes key value d len fk fv given
is_found key value (Err e) len fk fv given = tt

-- a block has one description of each text
pub descr_text_injective : (a b : Descr) → IsDescr a → IsDescrFit a → IsDescr b → IsDescrFit b → key_of a.id ≡ key_of b.id → descr_text a ≡ descr_text b → a ≡ b
descr_text_injective a b ka fa kb fb ek et =
    ok_is a b (sym (descr_again a ka fa) ∙ rw (ek, et) (descr_again b kb fb))
