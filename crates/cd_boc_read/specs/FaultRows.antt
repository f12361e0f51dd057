-- Trusted: what each fault says of the bytes that are no bag, in the order in which faults are told, and what was right
-- before it (`before`). Fields of the bytes are those of `Places`; the words on cells are those of the grammar.
use Rattle.std.specs.Prelude.{◌≡◌, ◌≢◌, ℕ, ◌+◌, ◌/◌, ◌%◌, ◌<◌, ◌≤◌, ◌⊎◌, true, List, length, map, take, drop, slice_index, slice_index_or, Some, IsSome, IsSomeAnd}
use Rattle.cd_base.specs.Numbers.{from_little}
use Rattle.cd_base.specs.Checksum.{crc32c}
use Rattle.cd_base.specs.declared.hash.Hash256.{Hash256}
use Rattle.cd_cell.specs.declared.limits.TheConstants.{MOST_CELLS}
use Rattle.cd_cell.specs.declared.cell_fault.CellFault.{CellFault}
use Rattle.cd_cell.specs.CellFaults.{first_byte, face_fault}
use Rattle.cd_cell.specs.StoredText.{stored_text}
use Rattle.cd_cell.specs.Tree.{Tree, mask_of, info_of, face_of}
use Rattle.cd_cell.specs.Unfolding.{unfold_from, unfolding_of}
use Rattle.cd_cell.specs.Clashes.{clash_of}
use Rattle.cd_boc_write.specs.Frames.{Frame, frame_text}
use Rattle.cd_boc_write.specs.CellTexts.{Text, entries_of_texts}
use Rattle.cd_boc_read.specs.declared.bag_fault.BagFault.{BagFault}
use Rattle.cd_boc_read.specs.declared.bag_fault.BagFault.TheVariants.{Magic, Flags, Sizes, Cut, Roots, Absent, Limit, RootIndex, Extra, Crc, Descriptor, Length, Completion, Order, Index, PrunedHashes, Cell, MaskDiffers, StoredHash, Clash, Memory}
use Rattle.cd_boc_read.specs.Grammar.{IsBagOf, end_of_entry}
use Rattle.cd_boc_read.specs.Reading.{are_flags, are_sizes}
use Rattle.cd_boc_read.specs.Places.{number_in, stated_shape, stated_cells, stated_roots, stated_absent, stated_total, roots_start, stated_root, index_start, stated_entry, data_end, bag_end, stated_start, stated_first, stated_second, stated_last, stated_ref}

module _ (bytes : List ℕ) where
  -- ---- what is right of the bytes before a fault comes

  abbrev pub IsMagicRight : Type 0
  IsMagicRight = number_in 0 4 bytes ≡ 0xb5ee9c72

  -- the two zero bits are zero, and cache bits come with an index alone
  abbrev pub AreFlagsRight : Type 0
  AreFlagsRight = are_flags (slice_index bytes 4) ≡ true

  -- the magic number, the flags, and the sizes of numbers and offsets
  pub record IsShapeRight : Type 0 where
    pub magic : IsMagicRight
    pub flags : AreFlagsRight
    pub sizes : are_sizes (slice_index bytes 4 % 8) (slice_index bytes 5) ≡ true

  abbrev pub AreRootsCounted : Type 0
  AreRootsCounted = (1 ≤ stated_roots bytes) × (stated_roots bytes ≤ stated_cells bytes)

  -- besides, the four numbers
  pub record AreCountsRight : Type 0 where
    pub shape : IsShapeRight
    pub rooted : AreRootsCounted
    pub none : stated_absent bytes ≡ 0
    pub few : stated_cells bytes ≤ MOST_CELLS

  -- besides, the roots
  pub record IsHeaderRight : Type 0 where
    pub counts : AreCountsRight
    pub roots : (root : ℕ) → root < stated_roots bytes → stated_root bytes root < stated_cells bytes

  -- ---- the frame

  -- the first four bytes are another number than b5ee9c72
  pub record IsOtherMagic (value : ℕ) : Type 0 where
    pub there : 4 ≤ length bytes
    pub stated : value ≡ number_in 0 4 bytes
    pub other : value ≢ 0xb5ee9c72

  -- of the flag byte a zero bit is set, or cache bits come without an index
  pub record AreWrongFlags (value : ℕ) : Type 0 where
    pub before : IsMagicRight
    pub there : 6 ≤ length bytes
    pub stated : value ≡ slice_index bytes 4
    pub wrong : (value / 8 % 4 ≢ 0) ⊎ ((value / 32 % 2 ≡ 1) × (value / 128 % 2 ≢ 1))

  -- the size of a number isn't 1 to 4, or that of an offset not 1 to 8
  pub record AreWrongSizes (size off_bytes : ℕ) : Type 0 where
    pub before : IsMagicRight × AreFlagsRight
    pub there : 6 ≤ length bytes
    pub size_is : size ≡ slice_index bytes 4 % 8
    pub off_bytes_is : off_bytes ≡ slice_index bytes 5
    pub wrong : (size ≡ 0) ⊎ (4 < size) ⊎ (off_bytes ≡ 0) ⊎ (8 < off_bytes)

  -- the bytes end before the bag does
  pub record IsCut (at : ℕ) : Type 0 where
    pub end : at ≡ length bytes
    pub short : length bytes < bag_end bytes

  -- there are no roots, or more than cells
  pub record AreWrongRoots (roots cells : ℕ) : Type 0 where
    pub before : IsShapeRight
    pub there : roots_start bytes ≤ length bytes
    pub roots_are : roots ≡ stated_roots bytes
    pub cells_are : cells ≡ stated_cells bytes
    pub wrong : (roots ≡ 0) ⊎ (cells < roots)

  -- some cells are absent
  pub record AreAbsent (absent : ℕ) : Type 0 where
    pub before : IsShapeRight × AreRootsCounted
    pub there : roots_start bytes ≤ length bytes
    pub stated : absent ≡ stated_absent bytes
    pub some : absent ≢ 0

  -- there are more than 1,048,576 cells
  pub record IsOverLimit (cells : ℕ) : Type 0 where
    pub before : IsShapeRight × AreRootsCounted × (stated_absent bytes ≡ 0)
    pub there : roots_start bytes ≤ length bytes
    pub stated : cells ≡ stated_cells bytes
    pub over : MOST_CELLS < cells

  -- this root is the first one that is no cell
  pub record IsRootOfNoCell (root : ℕ) : Type 0 where
    pub before : AreCountsRight
    pub there : index_start bytes ≤ length bytes
    pub named : root < stated_roots bytes
    pub none : stated_cells bytes ≤ stated_root bytes root
    pub first : (earlier : ℕ) → earlier < root → stated_root bytes earlier < stated_cells bytes

  -- bytes are left behind the bag
  pub record IsExtra (at : ℕ) : Type 0 where
    pub before : IsHeaderRight
    pub end : at ≡ bag_end bytes
    pub left : bag_end bytes < length bytes

  -- the checksum that is stated isn't that of all bytes before it
  pub record IsWrongChecksum (stated real : ℕ) : Type 0 where
    pub before : IsHeaderRight
    pub announced : (stated_shape bytes).has_crc ≡ true
    pub whole : bag_end bytes ≡ length bytes
    pub stated_is : stated ≡ from_little (drop (data_end bytes) bytes)
    pub real_is : real ≡ crc32c (take (data_end bytes) bytes)
    pub differ : stated ≢ real

  -- ---- the texts of the cells

  -- the cell has more than four references
  pub record IsWrongDescriptor (cell : ℕ) : Type 0 where
    pub before : IsHeaderRight
    pub number : cell < stated_cells bytes
    pub there : stated_start bytes cell + 2 ≤ stated_total bytes
    pub many : 4 < stated_first bytes cell % 8

  -- the text of the cell passes the end of the cell data, or behind that of the last cell bytes are left
  pub record IsWrongLength (stated used cell : ℕ) : Type 0 where
    pub before : IsHeaderRight
    pub stated_is : stated ≡ stated_total bytes
    pub used_is : used ≡ stated_start bytes cell
    pub wrong :
        ((cell < stated_cells bytes) × (stated_total bytes < stated_start bytes (cell + 1)))
        ⊎ ((cell ≡ stated_cells bytes) × (used < stated_total bytes))

  -- the last data byte has no bit before its completion, or no completion
  pub record IsWrongCompletion (cell : ℕ) : Type 0 where
    pub before : IsHeaderRight
    pub number : cell < stated_cells bytes
    pub there : stated_start bytes (cell + 1) ≤ stated_total bytes
    pub cut : stated_second bytes cell % 2 ≡ 1
    pub none : (stated_last bytes cell ≡ 0) ⊎ (stated_last bytes cell ≡ 0x80)

  -- a reference names no cell behind this one
  pub record IsWrongOrder (cell : ℕ) : Type 0 where
    pub before : IsHeaderRight
    pub number : cell < stated_cells bytes
    pub there : stated_start bytes (cell + 1) ≤ stated_total bytes
    pub place : ℕ
    pub counted : place < stated_first bytes cell % 8
    pub wrong : (stated_ref bytes cell place ≤ cell) ⊎ (stated_cells bytes ≤ stated_ref bytes cell place)

  -- the entry of the index isn't the end of the cell's text
  pub record IsWrongIndex (cell : ℕ) : Type 0 where
    pub before : IsHeaderRight
    pub number : cell < stated_cells bytes
    pub there : stated_start bytes (cell + 1) ≤ stated_total bytes
    pub announced : (stated_shape bytes).has_index ≡ true
    pub differ : end_of_entry (stated_shape bytes) (stated_entry bytes cell) ≢ stated_start bytes (cell + 1)

-- ---- the cells

-- the bytes are a frame round the texts of some cells
pub record AreFramed (bytes : List ℕ) (frame : Frame) (texts : List Text) : Type 0 where
  pub bag : IsBagOf frame texts
  pub whole : bytes ≡ frame_text frame

-- of such bytes the cell with this number, and its text
pub record IsCellOf (bytes : List ℕ) (cell : ℕ) (text : Text) (tree : Tree) : Type 0 where
  pub frame : Frame
  pub texts : List Text
  pub framed : AreFramed bytes frame texts
  pub number : cell < length texts
  pub text_is : text ≡ slice_index_or texts cell text
  pub tree_is : tree ≡ unfolding_of (entries_of_texts texts) cell

module _ (H : List ℕ → Hash256) (bytes : List ℕ) where
  -- hashes are stored of an exotic cell whose first data byte is that of a pruned branch
  pub record StoresPruned (cell : ℕ) : Type 0 where
    pub text : Text
    pub tree : Tree
    pub is : IsCellOf bytes cell text tree
    pub exotic : text.entry.exotic ≡ true
    pub stored : IsSome text.stored
    pub pruned : first_byte (face_of H tree) ≡ 1

  -- the cell isn't well-formed
  pub record IsMalformed (cell : ℕ) (fault : CellFault) : Type 0 where
    pub text : Text
    pub tree : Tree
    pub is : IsCellOf bytes cell text tree
    pub refused : face_fault (face_of H tree) ≡ Some fault

  -- the mask that the text states isn't the cell's
  pub record IsOtherMask (cell : ℕ) : Type 0 where
    pub text : Text
    pub tree : Tree
    pub is : IsCellOf bytes cell text tree
    pub differ : text.mask ≢ mask_of H tree

  -- what is stored isn't what the cell shows
  pub record IsOtherHash (cell : ℕ) : Type 0 where
    pub text : Text
    pub tree : Tree
    pub is : IsCellOf bytes cell text tree
    pub differ : IsSomeAnd text.stored (λ stored. stored ≢ stored_text (info_of H tree))

  -- two different cells have this hash, and it is the least such hash
  pub record IsLeastClash (hash : Hash256) : Type 0 where
    pub frame : Frame
    pub texts : List Text
    pub framed : AreFramed bytes frame texts
    pub clash : clash_of H (map (face_of H) (unfold_from 0 (entries_of_texts texts))) ≡ Some hash

  -- ---- the rows, in order

  abbrev pub Holds : BagFault → Type 0
  Holds (Magic value) = IsOtherMagic bytes value
  Holds (Flags value) = AreWrongFlags bytes value
  Holds (Sizes size off_bytes) = AreWrongSizes bytes size off_bytes
  Holds (Cut at) = IsCut bytes at
  Holds (Roots roots cells) = AreWrongRoots bytes roots cells
  Holds (Absent absent) = AreAbsent bytes absent
  Holds (Limit cells) = IsOverLimit bytes cells
  Holds (RootIndex root) = IsRootOfNoCell bytes root
  Holds (Extra at) = IsExtra bytes at
  Holds (Crc stated real) = IsWrongChecksum bytes stated real
  Holds (Descriptor cell) = IsWrongDescriptor bytes cell
  Holds (Length stated used cell) = IsWrongLength bytes stated used cell
  Holds (Completion cell) = IsWrongCompletion bytes cell
  Holds (Order cell) = IsWrongOrder bytes cell
  Holds (Index cell) = IsWrongIndex bytes cell
  Holds (PrunedHashes cell) = StoresPruned cell
  Holds (Cell cell fault) = IsMalformed cell fault
  Holds (MaskDiffers cell) = IsOtherMask cell
  Holds (StoredHash cell) = IsOtherHash cell
  Holds (Clash hash) = IsLeastClash hash
  -- want of memory is no fault of the bytes
  Holds Memory = ⊥
