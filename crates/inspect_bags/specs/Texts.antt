-- Trusted: what is printed of bags: the text of what is said of bytes, that of what a root shows, and the texts of lines.
use Rattle.std.specs.Prelude.{◌≡◌, ◌⊎◌, ℕ, List, [], ◌∷◌, ◌++◌, Option, None, Some, codes}
use Rattle.std.specs.List.{flat_map}
use Rattle.std.specs.Fmt.{decimal}
use Rattle.hex.specs.Hex.{encode_lower}
use Rattle.cd_base.specs.declared.hash.Hash256.{Hash256}
use Rattle.cd_cell.specs.declared.info.ChildInfo.{ChildInfo}
use Rattle.cd_cell.specs.Infos.{info_hash, info_depth}
use Rattle.cd_boc_read.specs.declared.bag_fault.BagFault.TheVariants.{Clash}
use Rattle.inspect_lines.specs.Lines.{IsLineOf, IsMadeOf, SaysOfLine, lines_in}
use Rattle.inspect_bags.specs.Verdicts.{IsTrueOf, IsExport, AreRootsOf}
use Rattle.inspect_bags.specs.declared.verdict.Verdict.{Verdict}
use Rattle.inspect_bags.specs.declared.verdict.Verdict.TheVariants.{Good, Refused}

-- the text of what is said of bytes; that of most faults isn't told
abbrev pub verdict_text : Verdict → Option (List ℕ)
verdict_text (Good roots cells) = Some (codes "ok roots " ++ decimal roots ++ codes " cells " ++ decimal cells)
verdict_text (Refused (Clash hash)) = Some (codes "Clash { hash: " ++ encode_lower hash.0 ++ codes " }")
verdict_text (Refused _) = None

-- what is shown at each of the levels 0 to 3
abbrev pub at_levels : (ℕ → List ℕ) → List ℕ
at_levels shown = codes " " ++ shown 0 ++ codes " " ++ shown 1 ++ codes " " ++ shown 2 ++ codes " " ++ shown 3

unfoldable pub hashes_text : ChildInfo → List ℕ
hashes_text info = at_levels (λ level. encode_lower (info_hash info level).0)

unfoldable pub depths_text : ChildInfo → List ℕ
depths_text info = at_levels (λ level. decimal (info_depth info level))

-- the text of what a root shows: its mask, and its hashes and depths at all levels
abbrev pub levels_text : ChildInfo → List ℕ
levels_text info =
    (codes "mask " ++ decimal info.mask ++ codes " hashes") ++ hashes_text info ++ codes " depths" ++ depths_text info

-- the lines of what roots show
abbrev pub lines_of_infos : List ChildInfo → List ℕ
lines_of_infos = flat_map (λ info. levels_text info ++ 10 ∷ [])

module _ (H : List ℕ → Hash256) where
  -- a line that says of bytes what is so
  abbrev pub SaysOf : List ℕ → List ℕ → Type 0
  SaysOf bytes part = (verdict : Verdict) × IsTrueOf H bytes verdict × IsLineOf (verdict_text verdict) part

  -- the export text of the bag of one tree that bytes are, or a line that says of them what is so
  abbrev pub ExportsOrSays : List ℕ → List ℕ → Type 0
  ExportsOrSays bytes text = IsExport H bytes text ⊎ SaysOf bytes text

  -- a line for each root of the bag that bytes are, with what it shows, or a line that says of them what is so
  abbrev pub ShowsOrSays : List ℕ → List ℕ → Type 0
  ShowsOrSays bytes text =
      ((infos : List ChildInfo) × AreRootsOf H bytes infos × (text ≡ lines_of_infos infos))
      ⊎ SaysOf bytes text

  -- a text that has a line for each line of an input, which says what is so of the bytes that it has in hexadecimal
  abbrev pub SaysOfLines : List ℕ → List ℕ → Type 0
  SaysOfLines input = IsMadeOf (SaysOfLine SaysOf) (lines_in input)

  -- a text that has for each line of an input the lines of the roots of the bag that it has in hexadecimal
  abbrev pub ShowsRootsOfLines : List ℕ → List ℕ → Type 0
  ShowsRootsOfLines input = IsMadeOf (SaysOfLine ShowsOrSays) (lines_in input)
