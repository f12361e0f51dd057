-- Children that are read are spelled so, and what was written of children is read again.
use Rattle.std.proofs.Common.{◌≡◌, ℕ, zero, suc, ◌+◌, ◌*◌, ◌^◌, ◌<◌, ◌≤◌, Bool, false, List, [], ◌∷◌, ◌++◌, length, get_or, take, drop, Ok, refl, sym, ap, subst, ◌∙◌, append_assoc, arith}
use Rattle.std.specs.Prelude.{if◌then◌else◌}
use Rattle.std.specs.List.{flat_map, AllByRecursion}
use Rattle.std.proofs.Math.Nat.{mul-le-mul_left}
use Rattle.std.specs.Int.{w16, to_be_bytes, from_be_bytes}
use Rattle.std.proofs.lemmas.List.Concat.{flat_map-cons}
use Rattle.std.proofs.lemmas.List.{length-take, length-drop}
use Rattle.std.proofs.lemmas.Nat.{be_bytes_2, from_be_bytes-to_be_bytes_2}
use Rattle.cd_base.specs.declared.hash.Hash256.{Hash256}
use Rattle.cd_base.specs.Numbers.{IsBytes}
use Rattle.cd_base.specs.Reading.{part_at, each_at}
use Rattle.cd_base.proofs.NumberLaws.{IsBytes-take, IsBytes-drop, IsBytes-cons}
use Rattle.cd_base.proofs.ReadingLaws.{by_ok, ok_is, Takes, Takes-then, part_takes, part_again, each_takes, each_again}
use Rattle.cd_cell.specs.declared.info.ChildInfo.{ChildInfo}
use Rattle.cd_cell.specs.Masks.{is_significant, bit_count}
use Rattle.cd_cell.specs.Infos.{info_hash, info_depth, no_hash}
use Rattle.cd_cell.specs.Steady.{IsSteady}
use Rattle.cd_cell.specs.StoredText.{levels_of, hash_text, depth_text, stored_hashes, stored_depths}
use Rattle.cd_record.specs.RecordText.{kid_text}
use Rattle.cd_record.specs.Records.{IsInfo}
use Rattle.cd_record.specs.RecordReading.{mask_at, kid_at, place_at_level, hash_in, depth_in, info_in}
use Rattle.cd_base.proofs.ListLaws.{flat_map-filter}
use Rattle.cd_record.proofs.StoredLevels.{place_at_level-below, place_at_level-lt, length-levels_of, value-at, length-pieces, piece-at, pieces-of_levels}
use Rattle.cd_record.specs.declared.record_fault.RecordFault.TheVariants.{Cut}
use Rattle.cd_record.proofs.Fields.{mask_takes, mask_again}

-- ---- what is written tells the child

four_of : {X : Type 0} (xs : List X) (d : X) → length xs ≡ 4 → get_or xs 0 d ∷ get_or xs 1 d ∷ get_or xs 2 d ∷ get_or xs 3 d ∷ [] ≡ xs
four_of [] d long = absurd (omega arith)
four_of (a ∷ []) d long = absurd (omega arith)
four_of (a ∷ b ∷ []) d long = absurd (omega arith)
four_of (a ∷ b ∷ c ∷ []) d long = absurd (omega arith)
four_of (a ∷ b ∷ c ∷ e ∷ []) d long = refl
four_of (a ∷ b ∷ c ∷ e ∷ f ∷ xs) d long = absurd (omega arith)

module _ (k : ChildInfo) (steady : IsSteady k) (info : IsInfo k) where
  small : k.mask < 8
  small = omega (arith, steady.small)

  hash-found : (l : ℕ) → l ≤ 3 → hash_in k.mask (stored_hashes k) l ≡ info_hash k l
  unfolding stored_hashes
  hash-found l le =
      let whole : List ℕ → Hash256 = λ xs. record { 0 = xs } in
      ap whole (piece-at 32 (hash_text k) (levels_of k.mask) (place_at_level k.mask l) info.bytes (place_at_level-lt k.mask l small le))
      ∙ value-at k.mask (info_hash k) small steady.hashes l le

  depth-found : (l : ℕ) → l ≤ 3 → depth_in k.mask (stored_depths k) l ≡ info_depth k l
  unfolding stored_depths
  depth-found l le =
      ap (from_be_bytes w16) (piece-at 2 (depth_text k) (levels_of k.mask) (place_at_level k.mask l) (λ p. refl) (place_at_level-lt k.mask l small le))
      ∙ from_be_bytes-to_be_bytes_2 (info_depth k (get_or (levels_of k.mask) (place_at_level k.mask l) 0)) (info.numbers (get_or (levels_of k.mask) (place_at_level k.mask l) 0))
      ∙ value-at k.mask (info_depth k) small steady.depths l le

  info-found : info_in k.mask (stored_hashes k) (stored_depths k) ≡ k
  info-found =
      let hashes : hash_in k.mask (stored_hashes k) 0 ∷ hash_in k.mask (stored_hashes k) 1 ∷ hash_in k.mask (stored_hashes k) 2 ∷ hash_in k.mask (stored_hashes k) 3 ∷ [] ≡ k.hashes =
      rw (hash-found 0 (omega arith), hash-found 1 (omega arith), hash-found 2 (omega arith), hash-found 3 (omega arith)) (four_of k.hashes no_hash info.hashes) in
      let depths : depth_in k.mask (stored_depths k) 0 ∷ depth_in k.mask (stored_depths k) 1 ∷ depth_in k.mask (stored_depths k) 2 ∷ depth_in k.mask (stored_depths k) 3 ∷ [] ≡ k.depths =
      rw (depth-found 0 (omega arith), depth-found 1 (omega arith), depth-found 2 (omega arith), depth-found 3 (omega arith)) (four_of k.depths 0 info.depths) in
      let with_hashes : List Hash256 → ChildInfo = λ hs. record { mask = k.mask; hashes = hs; depths = depth_in k.mask (stored_depths k) 0 ∷ depth_in k.mask (stored_depths k) 1 ∷ depth_in k.mask (stored_depths k) 2 ∷ depth_in k.mask (stored_depths k) 3 ∷ [] } in
      let with_depths : List ℕ → ChildInfo = λ ds. record { mask = k.mask; hashes = k.hashes; depths = ds } in
      ap with_hashes hashes ∙ ap with_depths depths

  length-stored_hashes : length (stored_hashes k) ≡ 32 * (bit_count k.mask + 1)
  unfolding stored_hashes
  length-stored_hashes = length-pieces 32 (hash_text k) (levels_of k.mask) info.bytes ∙ ap (λ n. 32 * n) (length-levels_of k.mask small)

  length-stored_depths : length (stored_depths k) ≡ 2 * (bit_count k.mask + 1)
  unfolding stored_depths
  length-stored_depths = length-pieces 2 (depth_text k) (levels_of k.mask) (λ l. refl) ∙ ap (λ n. 2 * n) (length-levels_of k.mask small)

  pub kid_again : (rest : List ℕ) → kid_at (kid_text k ++ rest) ≡ Ok (k, rest)
  unfolding kid_at kid_text
  kid_again rest =
      let grouped : (stored_hashes k ++ stored_depths k) ++ rest ≡ stored_hashes k ++ (stored_depths k ++ rest) = append_assoc (stored_hashes k) (stored_depths k) rest in
      ap (λ (b : List ℕ). kid_at (k.mask ∷ b)) grouped
      ∙ rw (mask_again k.mask (stored_hashes k ++ (stored_depths k ++ rest)) steady.small, part_again Cut (32 * (bit_count k.mask + 1)) (stored_hashes k) (stored_depths k ++ rest) length-stored_hashes, part_again Cut (2 * (bit_count k.mask + 1)) (stored_depths k) rest length-stored_depths, info-found) refl

-- ---- what is read is spelled so

same_levels : (p : ℕ → Bool) (f g : ℕ → List ℕ) → f 0 ≡ g 0 → f 1 ≡ g 1 → f 2 ≡ g 2 → f 3 ≡ g 3
    → flat_map (λ l. if p l then f l else []) (0 ∷ 1 ∷ 2 ∷ 3 ∷ []) ≡ flat_map (λ l. if p l then g l else []) (0 ∷ 1 ∷ 2 ∷ 3 ∷ [])
same_levels p f g a b c d = rw (a, b, c, d) refl

-- hashes and depths at the significant levels are all that is stored of what they tell
module _ (mask : ℕ) (hashes depths : List ℕ) (small : mask < 8) (long : length hashes ≡ 32 * (bit_count mask + 1)) (deep : length depths ≡ 2 * (bit_count mask + 1)) (hashes_fit : IsBytes hashes) (depths_fit : IsBytes depths) where
  -- the piece of a level is there
  length-piece : (n l : ℕ) (bytes : List ℕ) → length bytes ≡ n * (bit_count mask + 1) → l ≤ 3 → length (take n (drop (n * place_at_level mask l) bytes)) ≡ n
  length-piece n l bytes len le =
      let below : n * (place_at_level mask l + 1) ≤ n * (bit_count mask + 1) = mul-le-mul_left n (omega (arith, place_at_level-lt mask l small le, length-levels_of mask small)) in
      let more : n * (place_at_level mask l + 1) ≡ n * place_at_level mask l + n = omega arith in
      omega (arith, length-take n (drop (n * place_at_level mask l) bytes), length-drop (n * place_at_level mask l) bytes, below, more, len)

  told-hashes : stored_hashes (info_in mask hashes depths) ≡ hashes
  unfolding stored_hashes
  told-hashes =
      let levels : List ℕ = 0 ∷ 1 ∷ 2 ∷ 3 ∷ [] in
      flat_map-filter (is_significant mask) (hash_text (info_in mask hashes depths)) levels
      ∙ sym (flat_map-filter (is_significant mask) (λ l. take 32 (drop (32 * place_at_level mask l) hashes)) levels)
      ∙ pieces-of_levels 32 mask hashes small long

  told-depth : (l : ℕ) → l ≤ 3 → to_be_bytes w16 (depth_in mask depths l) ≡ take 2 (drop (2 * place_at_level mask l) depths)
  told-depth l le =
      let piece = take 2 (drop (2 * place_at_level mask l) depths) in
      be_bytes_2 piece (from_be_bytes w16 piece) (length-piece 2 l depths deep le) (IsBytes-take 2 _ (IsBytes-drop (2 * place_at_level mask l) depths depths_fit)) refl

  told-depths : stored_depths (info_in mask hashes depths) ≡ depths
  unfolding stored_depths
  told-depths =
      let levels : List ℕ = 0 ∷ 1 ∷ 2 ∷ 3 ∷ [] in
      let each = same_levels (is_significant mask) (depth_text (info_in mask hashes depths)) (λ l. take 2 (drop (2 * place_at_level mask l) depths)) (told-depth 0 (omega arith)) (told-depth 1 (omega arith)) (told-depth 2 (omega arith)) (told-depth 3 (omega arith)) in
      flat_map-filter (is_significant mask) (depth_text (info_in mask hashes depths)) levels
      ∙ each
      ∙ sym (flat_map-filter (is_significant mask) (λ l. take 2 (drop (2 * place_at_level mask l) depths)) levels)
      ∙ pieces-of_levels 2 mask depths small deep

  same_hash_below : (l : ℕ) → l < 3 → is_significant mask (l + 1) ≡ false → info_hash (info_in mask hashes depths) (l + 1) ≡ info_hash (info_in mask hashes depths) l
  same_hash_below zero lt not_own = let at : ℕ → Hash256 = λ p. record { 0 = take 32 (drop (32 * p) hashes) } in ap at (place_at_level-below mask 0 lt small not_own)
  same_hash_below (suc zero) lt not_own = let at : ℕ → Hash256 = λ p. record { 0 = take 32 (drop (32 * p) hashes) } in ap at (place_at_level-below mask 1 lt small not_own)
  same_hash_below (suc (suc zero)) lt not_own = let at : ℕ → Hash256 = λ p. record { 0 = take 32 (drop (32 * p) hashes) } in ap at (place_at_level-below mask 2 lt small not_own)
  same_hash_below (suc (suc (suc l))) lt not_own = absurd (omega arith)

  same_depth_below : (l : ℕ) → l < 3 → is_significant mask (l + 1) ≡ false → info_depth (info_in mask hashes depths) (l + 1) ≡ info_depth (info_in mask hashes depths) l
  same_depth_below zero lt not_own = ap (λ p. from_be_bytes w16 (take 2 (drop (2 * p) depths))) (place_at_level-below mask 0 lt small not_own)
  same_depth_below (suc zero) lt not_own = ap (λ p. from_be_bytes w16 (take 2 (drop (2 * p) depths))) (place_at_level-below mask 1 lt small not_own)
  same_depth_below (suc (suc zero)) lt not_own = ap (λ p. from_be_bytes w16 (take 2 (drop (2 * p) depths))) (place_at_level-below mask 2 lt small not_own)
  same_depth_below (suc (suc (suc l))) lt not_own = absurd (omega arith)

  told-steady : IsSteady (info_in mask hashes depths)
  told-steady = record { small = omega arith; hashes = same_hash_below; depths = same_depth_below }

  told-bytes : (l : ℕ) → length (info_hash (info_in mask hashes depths) l).0 ≡ 32
  told-bytes zero = length-piece 32 0 hashes long (omega arith)
  told-bytes (suc zero) = length-piece 32 1 hashes long (omega arith)
  told-bytes (suc (suc zero)) = length-piece 32 2 hashes long (omega arith)
  told-bytes (suc (suc (suc zero))) = length-piece 32 3 hashes long (omega arith)
  told-bytes (suc (suc (suc (suc l)))) = refl

  told-number : (l : ℕ) → depth_in mask depths l < 2 ^ 16
  told-number l =
      let piece = take 2 (drop (2 * place_at_level mask l) depths) in
      let fits : IsBytes piece = IsBytes-take 2 _ (IsBytes-drop (2 * place_at_level mask l) depths depths_fit) in
      omega (arith, fits 0, fits 1)

  told-numbers : (l : ℕ) → info_depth (info_in mask hashes depths) l < 2 ^ 16
  told-numbers zero = told-number 0
  told-numbers (suc zero) = told-number 1
  told-numbers (suc (suc zero)) = told-number 2
  told-numbers (suc (suc (suc zero))) = told-number 3
  told-numbers (suc (suc (suc (suc l)))) = omega arith

  told-info : IsInfo (info_in mask hashes depths)
  told-info = record { hashes = refl; depths = refl; bytes = told-bytes; numbers = told-numbers }

-- what a stored child is
pub record IsKid (kid : ChildInfo) : Type 0 where
  pub steady : IsSteady kid
  pub info : IsInfo kid

kid_takes : (bytes : List ℕ) (x : ChildInfo × List ℕ) → IsBytes bytes → kid_at bytes ≡ Ok x → Takes bytes (kid_text x.0) x.1 × IsKid x.0
unfolding kid_at kid_text
kid_takes bytes x fits e =
    by_ok (mask_at bytes) _ x e (λ mask e0 k0.
    by_ok (part_at Cut (32 * (bit_count mask.0 + 1)) mask.1) _ x k0 (λ hashes e1 k1.
    by_ok (part_at Cut (2 * (bit_count mask.0 + 1)) hashes.1) _ x k1 (λ depths e2 k2.
    let t0 = mask_takes bytes mask fits e0 in
    let t1 = part_takes Cut (32 * (bit_count mask.0 + 1)) mask.1 hashes t0.0.rest_fits e1 in
    let t2 = part_takes Cut (2 * (bit_count mask.0 + 1)) hashes.1 depths t1.0.rest_fits e2 in
    let small : mask.0 < 8 = omega (arith, t0.1) in
    let both = Takes-then mask.1 hashes.0 hashes.1 depths.0 depths.1 t1.0 t2.0 in
    let hs = told-hashes mask.0 hashes.0 depths.0 small t1.1 t2.1 t1.0.text_fits t2.0.text_fits in
    let ds = told-depths mask.0 hashes.0 depths.0 small t1.1 t2.1 t1.0.text_fits t2.0.text_fits in
    let same : mask.0 ∷ hashes.0 ++ depths.0 ≡ mask.0 ∷ stored_hashes (info_in mask.0 hashes.0 depths.0) ++ stored_depths (info_in mask.0 hashes.0 depths.0) = rw (hs, ds) refl in
    let whole : Takes bytes (mask.0 ∷ hashes.0 ++ depths.0) depths.1 = record {
      parts = t0.0.parts ∙ ap (λ (w : List ℕ). mask.0 ∷ w) both.parts;
      text_fits = IsBytes-cons mask.0 (hashes.0 ++ depths.0) t0.0.small both.text_fits;
      rest_fits = both.rest_fits;
    } in
    subst (λ (y : ChildInfo × List ℕ). Takes bytes (kid_text y.0) y.1 × IsKid y.0) (ok_is (info_in mask.0 hashes.0 depths.0, depths.1) x k2) (
      subst (λ (w : List ℕ). Takes bytes w depths.1) same whole,
      record {
        steady = told-steady mask.0 hashes.0 depths.0 small t1.1 t2.1 t1.0.text_fits t2.0.text_fits;
        info = told-info mask.0 hashes.0 depths.0 small t1.1 t2.1 t1.0.text_fits t2.0.text_fits;
      },
    ))))

pub kids_take : (count : ℕ) (bytes : List ℕ) (x : List ChildInfo × List ℕ) → IsBytes bytes → each_at kid_at count bytes ≡ Ok x
    → Takes bytes (flat_map kid_text x.0) x.1 × (length x.0 ≡ count) × AllByRecursion IsKid x.0
kids_take = each_takes kid_at kid_text IsKid kid_takes

pub kids_again : (kids : List ChildInfo) (rest : List ℕ) → AllByRecursion IsKid kids → each_at kid_at (length kids) (flat_map kid_text kids ++ rest) ≡ Ok (kids, rest)
kids_again = each_again kid_at kid_text IsKid (λ kid rest fit. kid_again kid fit.steady fit.info rest)

-- children, each steady and each a child info
pub all_kids : (kids : List ChildInfo) → AllByRecursion IsSteady kids → AllByRecursion IsInfo kids → AllByRecursion IsKid kids
all_kids [] steady infos = tt
all_kids (kid ∷ kids) steady infos = (record { steady = steady.0; info = infos.0 }, all_kids kids steady.1 infos.1)

pub all_steady : (kids : List ChildInfo) → AllByRecursion IsKid kids → AllByRecursion IsSteady kids
all_steady [] fit = tt
all_steady (kid ∷ kids) fit = (fit.0.steady, all_steady kids fit.1)

pub all_infos : (kids : List ChildInfo) → AllByRecursion IsKid kids → AllByRecursion IsInfo kids
all_infos [] fit = tt
all_infos (kid ∷ kids) fit = (fit.0.info, all_infos kids fit.1)
