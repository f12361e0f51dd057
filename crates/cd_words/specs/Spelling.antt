-- Trusted: the values that options may have.
use Rattle.std.specs.Prelude.{◌≡◌, ℕ, ◌≤◌, List, Ok}
use Rattle.std.specs.Fmt.{decimal}
use Rattle.hex.specs.Hex.{decode_sized}
use Rattle.cd_base.specs.declared.hash.Hash256.{Hash256}
use Rattle.cd_block.specs.Block.{IsBlockId}
use Rattle.cd_block.specs.Spelling.{id_text}
use Rattle.cd_block.specs.declared.block.BlockId.{BlockId}
use Rattle.cd_words.specs.declared.names.OptionName.{OptionName}
use Rattle.cd_words.specs.declared.names.OptionName.TheVariants as option

-- a number within bounds, in decimal digits without a needless leading zero
pub record IsNumber (least greatest : ℕ) (text : List ℕ) (n : ℕ) : Type 0 where
  pub text_is : text ≡ decimal n
  pub low : least ≤ n
  pub high : n ≤ greatest

-- a hash in 64 hexadecimal digits of either case
abbrev pub IsHex : List ℕ → Hash256 → Type 0
IsHex text hash = decode_sized text 32 ≡ Ok hash.0

-- the one spelling of a block's name
pub record IsId (text : List ℕ) (id : BlockId) : Type 0 where
  pub text_is : text ≡ id_text id
  pub known : IsBlockId id

-- the numbers that each option may have
abbrev pub IsWorkchain : List ℕ → ℕ → Type 0
IsWorkchain = IsNumber 0 2147483647

abbrev pub IsMax : List ℕ → ℕ → Type 0
IsMax = IsNumber 1 2097152

abbrev pub IsFeedNumber : List ℕ → ℕ → Type 0
IsFeedNumber = IsNumber 0 18446744073709551615

-- the text is a value that the option may have; a path is any text
abbrev pub HasSpelling : OptionName → List ℕ → Type 0
HasSpelling option.Workchain text = (n : ℕ) × IsWorkchain text n
HasSpelling option.File text = (hash : Hash256) × IsHex text hash
HasSpelling option.Id text = (id : BlockId) × IsId text id
HasSpelling option.Max text = (n : ℕ) × IsMax text n
HasSpelling option.Number text = (n : ℕ) × IsFeedNumber text n
HasSpelling option.Db text = Unit {0}
HasSpelling option.To text = Unit {0}
