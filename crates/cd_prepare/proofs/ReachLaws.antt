-- Laws of what is reached from a root: entries are gone over from the root on, and what each reached one names is reached.
use Rattle.std.proofs.Common.{◌≡◌, ℕ, zero, suc, ◌+◌, ◌<◌, ◌≤◌, Bool, true, false, List, [], ◌∷◌, ◌++◌, length, get_or, take, replicate, slice_set, cond, get_or-take, Contains, refl, ap, sym, ◌∙◌, subst, inl, inr, ⊎_elim, ◌⊎◌, arith}
use Rattle.std.proofs.lemmas.Bool.{true≢false, cases_lt, cases_order}
use Rattle.std.proofs.lemmas.List.{length-map, length-set, length-replicate, get_or_default, get_or-set_same, get_or-set_other}
use Rattle.std.proofs.lemmas.List.Elements.{Contains-get_or, Contains-append_cases, Contains-append_left, Contains-append_right}
use Rattle.cd_base.specs.declared.hash.Hash256.{Hash256}
use Rattle.cd_cell.specs.declared.info.ChildInfo.{ChildInfo}
use Rattle.cd_cell.specs.FaceView.{FaceView}
use Rattle.cd_cell.specs.CellFaults.{kid_at}
use Rattle.cd_cell.specs.Tree.{Tree, children, subtrees, info_of}
use Rattle.cd_cell.specs.Bags.{bag_cell, face_at, ref_at, IsBag}
use Rattle.cd_cell.proofs.Subtrees.{Contains-first, Contains-cases, Contains-nil, Contains-map, Contains-mapped, subtree-itself, kids-face_of, subtrees-subtree, child-is-subtree, subtrees-cases}
use Rattle.cd_cell.proofs.BagLaws.{children-bag, face_of-bag, info_of-bag}
use Rattle.cd_cell.specs.declared.export_key.ExportKey.{ExportKey}
use Rattle.cd_cell.specs.Keys.{export_key}
use Rattle.cd_prepare.specs.Reached.{is_marked, keys_with, entry_key_at, AreReached}

-- ---- marks and keys

marked-within : (marks : List Bool) (k : ℕ) → is_marked marks k ≡ true → k < length marks
marked-within [] k h = absurd (true≢false (sym h))
marked-within (m ∷ ms) zero h = omega arith
marked-within (m ∷ ms) (suc k) h = let later = marked-within ms k h in omega arith

marked-none : (n k : ℕ) → is_marked (replicate n false) k ≡ false
marked-none zero k = refl
marked-none (suc n) zero = refl
marked-none (suc n) (suc k) = marked-none n k

marked-set : (marks : List Bool) (r : ℕ) → r < length marks → is_marked (slice_set marks r true) r ≡ true
marked-set marks r in' = get_or-set_same marks r true false in'

marked-cases : (marks : List Bool) (r k : ℕ) → is_marked (slice_set marks r true) k ≡ true → (k ≡ r) ⊎ (is_marked marks k ≡ true)
marked-cases marks r k h =
    ⊎_elim
    inl
    (λ apart. inr (sym (get_or-set_other marks r k true false (λ same. ⊎_elim (λ l. omega arith) (λ l. omega arith) apart)) ∙ h))
    (cases_order k r)

marked-kept : (marks : List Bool) (r k : ℕ) → is_marked marks k ≡ true → is_marked (slice_set marks r true) k ≡ true
marked-kept marks r k h =
    ⊎_elim
    (λ same. subst (λ n. is_marked (slice_set marks r true) n ≡ true) (sym same) (marked-set marks r (omega (arith, marked-within marks k h, same))))
    (λ apart. get_or-set_other marks r k true false (λ same. ⊎_elim (λ l. omega arith) (λ l. omega arith) apart) ∙ h)
    (cases_order k r)

keys_with-kept : (marks : List Bool) (keys : List ExportKey) (key x : ExportKey) → Contains keys x → Contains (keys_with marks keys key) x
keys_with-kept marks keys key x h = elim (is_marked marks key.number) as (λ b. Contains (cond b keys (keys ++ key ∷ [])) x) [ true ↦ h | false ↦ Contains-append_left keys (key ∷ []) x h ]

keys_with-new : (marks : List Bool) (keys : List ExportKey) (key : ExportKey) → (is_marked marks key.number ≡ true → Contains keys key) → Contains (keys_with marks keys key) key
keys_with-new marks keys key old = go (is_marked marks key.number) old
  where
    go : (b : Bool) → (b ≡ true → Contains keys key) → Contains (cond b keys (keys ++ key ∷ [])) key
    go true old = old refl
    go false old = Contains-append_right keys (key ∷ []) key (Contains-first key [])

keys_with-cases : (marks : List Bool) (keys : List ExportKey) (key x : ExportKey) → Contains (keys_with marks keys key) x → (key ≡ x) ⊎ Contains keys x
keys_with-cases marks keys key x h = go (is_marked marks key.number) h
  where
    go : (b : Bool) → Contains (cond b keys (keys ++ key ∷ [])) x → (key ≡ x) ⊎ Contains keys x
    go true h = inr h
    go false h = ⊎_elim inr (λ last. ⊎_elim inl (λ none. absurd (Contains-nil x none)) (Contains-cases key [] x last)) (Contains-append_cases keys (key ∷ []) x h)

-- ---- the walk

module _ (H : List ℕ → Hash256) (cells : List FaceView) (refs : List (List ℕ)) (root : ℕ) where
  abbrev cell : ℕ → Tree
  cell k = bag_cell cells refs k

  -- the root is marked, and with each marked entry before one the entries that it names, and these first ones of that
  -- one; the marked entries have their keys, and their cells are below the root
  pub record IsWalked (done part : ℕ) (marks : List Bool) (keys : List ExportKey) : Type 0 where
    pub long : length marks ≡ length cells
    pub rooted : is_marked marks root ≡ true
    pub after : (k : ℕ) → is_marked marks k ≡ true → root ≤ k
    pub held : (k : ℕ) → is_marked marks k ≡ true → Contains keys (entry_key_at H cells refs k)
    pub keyed : (key : ExportKey) → Contains keys key → key ≡ entry_key_at H cells refs key.number
    pub marked : (key : ExportKey) → Contains keys key → is_marked marks key.number ≡ true
    pub below : (k : ℕ) → is_marked marks k ≡ true → Contains (subtrees (cell root)) (cell k)
    pub closed : (k p : ℕ) → k < done → is_marked marks k ≡ true → p < length (face_at cells k).kids → is_marked marks (ref_at refs k p) ≡ true
    pub here : (p : ℕ) → p < part → is_marked marks (ref_at refs done p) ≡ true

  pub IsWalked-first : (marks' : List Bool) (keys' : List ExportKey) (info : ChildInfo) → root < length cells → info ≡ info_of H (cell root) → marks' ≡ slice_set (replicate (length cells) false) root true → keys' ≡ keys_with (replicate (length cells) false) [] (export_key info root) → IsWalked root 0 marks' keys'
  IsWalked-first marks' keys' info in' shown marks_are keys_are =
      let none = replicate (length cells) false in
      let room : root < length none = omega (arith, length-replicate (length cells) false) in
      let only : (k : ℕ) → is_marked marks' k ≡ true → k ≡ root =
      λ k h.
      ⊎_elim (λ same. same) (λ old. absurd (true≢false (sym old ∙ marked-none (length cells) k)))
      (marked-cases none root k (subst (λ ms. is_marked ms k ≡ true) marks_are h))
      in
      let first : keys' ≡ entry_key_at H cells refs root ∷ [] =
      keys_are ∙ ap (λ b. cond b [] (export_key info root ∷ [])) (marked-none (length cells) root) ∙ ap (λ (x : ChildInfo). export_key x root ∷ []) shown
      in
      let one : (key : ExportKey) → Contains keys' key → entry_key_at H cells refs root ≡ key =
      λ key h. ⊎_elim (λ same. same) (λ later. absurd (Contains-nil key later)) (Contains-cases (entry_key_at H cells refs root) [] key (subst (λ ks. Contains ks key) first h))
      in
      let rooted : is_marked marks' root ≡ true = ap (λ ms. is_marked ms root) marks_are ∙ marked-set none root room in
      record {
        long = ap length marks_are ∙ length-set none root true ∙ length-replicate (length cells) false;
        rooted = rooted;
        after = λ k h. let same = only k h in omega arith;
        held =
            λ k h.
            subst (λ n. Contains keys' (entry_key_at H cells refs n)) (sym (only k h))
            (subst (λ ks. Contains ks (entry_key_at H cells refs root)) (sym first) (Contains-first (entry_key_at H cells refs root) []));
        keyed = λ key h. let same = one key h in sym same ∙ ap (entry_key_at H cells refs) (ap (λ (x : ExportKey). x.number) same);
        marked = λ key h. subst (λ n. is_marked marks' n ≡ true) (ap (λ (x : ExportKey). x.number) (one key h)) rooted;
        below = λ k h. subst (λ n. Contains (subtrees (cell root)) (cell n)) (sym (only k h)) (subtree-itself (cell root));
        closed = λ k p low h in-kids. let same = only k h in absurd (omega arith);
        here = λ p low. absurd (omega arith);
      }

  -- an entry is past, where it isn't marked or all that it names is
  IsWalked-past : (done part : ℕ) (marks : List Bool) (keys : List ExportKey) → ((p : ℕ) → is_marked marks done ≡ true → p < length (face_at cells done).kids → is_marked marks (ref_at refs done p) ≡ true) → IsWalked done part marks keys → IsWalked (done + 1) 0 marks keys
  IsWalked-past done part marks keys named walked =
      record {
        long = walked.long;
        rooted = walked.rooted;
        after = walked.after;
        held = walked.held;
        keyed = walked.keyed;
        marked = walked.marked;
        below = walked.below;
        closed =
            λ k p low h in-kids.
            ⊎_elim
            (λ before. walked.closed k p before h in-kids)
            (λ past.
            let same : k ≡ done = omega arith in
            subst (λ n. is_marked marks (ref_at refs n p) ≡ true) (sym same)
            (named p (subst (λ n. is_marked marks n ≡ true) same h) (subst (λ n. p < length (face_at cells n).kids) same in-kids)))
            (cases_lt k done);
        here = λ p low. absurd (omega arith);
      }

  pub IsWalked-next : (done part : ℕ) (marks : List Bool) (keys : List ExportKey) → length (face_at cells done).kids ≤ part → IsWalked done part marks keys → IsWalked (done + 1) 0 marks keys
  IsWalked-next done part marks keys all walked = IsWalked-past done part marks keys (λ p h in-kids. walked.here p (omega (arith, in-kids))) walked

  pub IsWalked-skip : (done : ℕ) (marks : List Bool) (keys : List ExportKey) → is_marked marks done ≡ false → IsWalked done 0 marks keys → IsWalked (done + 1) 0 marks keys
  IsWalked-skip done marks keys none walked = IsWalked-past done 0 marks keys (λ p h in-kids. absurd (true≢false (sym h ∙ none))) walked

  module _ (roots : List ℕ) (bag : IsBag H cells refs roots) where
    -- the numbers of an entry's children
    abbrev numbers : ℕ → List ℕ
    numbers k = take (length (face_at cells k).kids) (get_or refs k [])

    length-numbers : (k : ℕ) → k < length cells → length (face_at cells k).kids ≡ length (numbers k)
    length-numbers k in' =
        ap (λ f. length f.kids) (sym (face_of-bag H cells refs roots bag k))
        ∙ ap length (kids-face_of H (cell k))
        ∙ length-map (children (cell k)) (info_of H)
        ∙ ap length (children-bag H cells refs roots bag k in')
        ∙ length-map (numbers k) cell

    child-at : (k p : ℕ) → k < length cells → p < length (face_at cells k).kids → Contains (children (cell k)) (cell (ref_at refs k p))
    child-at k p in' in-kids =
        let listed = Contains-get_or (numbers k) p 0 (omega (arith, length-numbers k in')) in
        let named = subst (Contains (numbers k)) (get_or-take (length (face_at cells k).kids) (get_or refs k []) p 0 in-kids) listed in
        subst (λ cs. Contains cs (cell (ref_at refs k p))) (sym (children-bag H cells refs roots bag k in')) (Contains-mapped cell (numbers k) (ref_at refs k p) named)

    child-from : (k : ℕ) (c : Tree) → k < length cells → Contains (children (cell k)) c → (p : ℕ) × (p < length (face_at cells k).kids) × (cell (ref_at refs k p) ≡ c)
    child-from k c in' h =
        let named = Contains-map cell (numbers k) c (subst (λ cs. Contains cs c) (children-bag H cells refs roots bag k in') h) in
        let p = named.1.0 in
        let in-kids : p < length (face_at cells k).kids = omega (arith, named.1.1, length-numbers k in') in
        let number : named.0 ≡ ref_at refs k p =
        sym named.1.2 ∙ get_or_default (numbers k) p named.0 0 named.1.1 ∙ get_or-take (length (face_at cells k).kids) (get_or refs k []) p 0 in-kids
        in
        (p, in-kids, ap cell (sym number) ∙ named.2)

    pub IsWalked-more : (done part : ℕ) (marks marks' : List Bool) (keys keys' : List ExportKey) (info : ChildInfo) → done < length cells → part < length (face_at cells done).kids → is_marked marks done ≡ true → info ≡ kid_at (face_at cells done) part → marks' ≡ slice_set marks (ref_at refs done part) true → keys' ≡ keys_with marks keys (export_key info (ref_at refs done part)) → IsWalked done part marks keys → IsWalked done (part + 1) marks' keys' × (is_marked marks' done ≡ true)
    IsWalked-more done part marks marks' keys keys' info in' in-kids mine shown marks_are keys_are walked =
        let r = ref_at refs done part in
        let r_later : done < r = bag.later done part in' in-kids in
        let room : r < length marks = omega (arith, bag.there done part in' in-kids, walked.long) in
        let shows : info ≡ info_of H (cell r) = shown ∙ bag.shown done part in' in-kids ∙ sym (info_of-bag H cells refs roots bag r) in
        let added : keys' ≡ keys_with marks keys (entry_key_at H cells refs r) = keys_are ∙ ap (λ (x : ChildInfo). keys_with marks keys (export_key x r)) shows in
        let new : is_marked marks' r ≡ true = ap (λ ms. is_marked ms r) marks_are ∙ marked-set marks r room in
        let kept : (k : ℕ) → is_marked marks k ≡ true → is_marked marks' k ≡ true = λ k h. ap (λ ms. is_marked ms k) marks_are ∙ marked-kept marks r k h in
        let cases : (k : ℕ) → is_marked marks' k ≡ true → (k ≡ r) ⊎ (is_marked marks k ≡ true) =
        λ k h. marked-cases marks r k (subst (λ ms. is_marked ms k ≡ true) marks_are h)
        in
        let key_kept : (key : ExportKey) → Contains keys key → Contains keys' key = λ key h. subst (λ ks. Contains ks key) (sym added) (keys_with-kept marks keys (entry_key_at H cells refs r) key h) in
        let key_cases : (key : ExportKey) → Contains keys' key → (entry_key_at H cells refs r ≡ key) ⊎ Contains keys key =
        λ key h. keys_with-cases marks keys (entry_key_at H cells refs r) key (subst (λ ks. Contains ks key) added h)
        in (
          record {
            long = ap length marks_are ∙ length-set marks r true ∙ walked.long;
            rooted = kept root walked.rooted;
            after = λ k h. ⊎_elim (λ same. let low = walked.after done mine in omega arith) (λ old. walked.after k old) (cases k h);
            held =
                λ k h.
                ⊎_elim
                (λ same.
                subst (λ n. Contains keys' (entry_key_at H cells refs n)) (sym same)
                (subst (λ ks. Contains ks (entry_key_at H cells refs r)) (sym added) (keys_with-new marks keys (entry_key_at H cells refs r) (λ old. walked.held r old))))
                (λ old. key_kept (entry_key_at H cells refs k) (walked.held k old))
                (cases k h);
            keyed =
                λ key h.
                ⊎_elim
                (λ same. sym same ∙ ap (entry_key_at H cells refs) (ap (λ (x : ExportKey). x.number) same))
                (λ old. walked.keyed key old)
                (key_cases key h);
            marked =
                λ key h.
                ⊎_elim
                (λ same. subst (λ n. is_marked marks' n ≡ true) (ap (λ (x : ExportKey). x.number) same) new)
                (λ old. kept key.number (walked.marked key old))
                (key_cases key h);
            below =
                λ k h.
                ⊎_elim
                (λ same.
                subst (λ n. Contains (subtrees (cell root)) (cell n)) (sym same)
                (subtrees-subtree (cell root) (cell done) (cell r) (walked.below done mine) (child-is-subtree (cell done) (cell r) (child-at done part in' in-kids))))
                (λ old. walked.below k old)
                (cases k h);
            closed =
                λ k p low h in-k.
                ⊎_elim
                (λ same. absurd (omega arith))
                (λ old. kept (ref_at refs k p) (walked.closed k p low old in-k))
                (cases k h);
            here =
                λ p low.
                ⊎_elim
                (λ before. kept (ref_at refs done p) (walked.here p before))
                (λ past.
                let same : p ≡ part = omega arith in
                subst (λ n. is_marked marks' (ref_at refs done n) ≡ true) (sym same) new)
                (cases_lt p part);
          },
          kept done mine,
        )

    -- each cell below a marked entry's cell is that of a marked entry
    subtree-marked : (marks : List Bool) → ((k p : ℕ) → k < length cells → is_marked marks k ≡ true → p < length (face_at cells k).kids → is_marked marks (ref_at refs k p) ≡ true) → (m k : ℕ) (s : Tree) → k < length cells → length cells ≤ m + k → is_marked marks k ≡ true → Contains (subtrees (cell k)) s → (j : ℕ) × (is_marked marks j ≡ true) × (cell j ≡ s)
    subtree-marked marks closed zero k s in' fuel mine h = absurd (omega arith)
    subtree-marked marks closed (suc m) k s in' fuel mine h =
        ⊎_elim
        (λ same. (k, mine, same))
        (λ below.
        let child = child-from k below.0 in' below.1 in
        let r = ref_at refs k child.0 in
        let r_later : k < r = bag.later k child.0 in' child.1 in
        subtree-marked marks closed m r s (bag.there k child.0 in' child.1) (omega arith) (closed k child.0 in' mine child.1)
        (subst (λ c. Contains (subtrees c) s) (sym child.2) below.2))
        (subtrees-cases (cell k) s h)

    pub AreReached-walked : (done : ℕ) (marks : List Bool) (keys : List ExportKey) → length cells ≤ done → IsWalked done 0 marks keys → AreReached H cells refs root keys
    AreReached-walked done marks keys all walked =
        record {
          there = λ key h. let low = marked-within marks key.number (walked.marked key h) in omega (arith, walked.long);
          keyed = walked.keyed;
          below = λ key h. walked.below key.number (walked.marked key h);
          whole =
              λ s h.
              let low = marked-within marks root walked.rooted in
              let found = subtree-marked marks (λ k p in'. walked.closed k p (omega arith)) (length cells) root s (omega (arith, walked.long)) (omega arith) walked.rooted h in
              (found.0, walked.held found.0 found.1, found.2);
        }
