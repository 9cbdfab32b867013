-- What a table is: the bytes that hold a list of entries, in blocks with any lawful sharing and any
-- lawful restarts.
use Rattle.std.specs.Prelude.{◌≡◌, ◌≢◌, ℕ, ◌<◌, ◌≤◌, List, [], ◌∷◌, ◌++◌, length, slice_index}
use Rattle.std.specs.Prelude.{Ok}
use Rattle.std.specs.List.{AllByRecursion}
use Rattle.std.specs.declared.cmp.Ordering.TheVariants.{Less, Greater}
use Rattle.block.specs.EncodedEntry.{Entry, IsBlock}
use Rattle.block.specs.BuilderView.{last_key}
use Rattle.ikey.specs.Key.{internal_key_reading}
use Rattle.ikey.specs.Order.{internal_cmp}
use Rattle.ikey.specs.Comparator.{KeyOrder}
use Rattle.table.specs.declared.handle.BlockHandle.{BlockHandle}
use Rattle.table.specs.declared.footer.Footer.{Footer}
use Rattle.table.specs.Handle.{handle_bytes}
use Rattle.table.specs.Trailer.{stored_block}
use Rattle.table.specs.Footer.{handles_bytes, magic}
use Rattle.table.specs.EntryTests.{first_key, HaveKeys}
use Rattle.table.specs.EntriesFrom.{EntriesRise}
use Rattle.table.specs.TableContents.{DataBlock, entries_of, table_reading}
use Rattle.table.specs.declared.table_check.TheConstants.{MAX_TABLE_LEN, MAX_VALUE_LEN}
use Rattle.table.specs.declared.footer.TheConstants.{FOOTER_LEN, HANDLES_LEN}

-- a block of these entries is stored where the handle says, before the 48 bytes of a footer
pub record IsStoredAt (bytes : List ℕ) (handle : BlockHandle) (entries : List Entry) : Type 0 where
  pub before : List ℕ
  pub contents : List ℕ
  pub behind : List ℕ
  pub whole : bytes ≡ before ++ (stored_block contents ++ behind)
  pub offset : length before ≡ handle.offset
  pub size : length contents ≡ handle.size
  pub footer : FOOTER_LEN ≤ length behind
  pub block : IsBlock contents entries

-- the last 48 bytes are a footer: two handles, anything up to 40 bytes, and the magic
pub record EndsWith (bytes : List ℕ) (footer : Footer) : Type 0 where
  pub before : List ℕ
  pub padding : List ℕ
  pub whole : bytes ≡ before ++ ((handles_bytes footer ++ padding) ++ magic)
  pub len : length (handles_bytes footer ++ padding) ≡ HANDLES_LEN

-- an entry of the index names a data block: its key is an internal key, and its value is the handle
-- of a block that has an entry
pub record IsNamed (bytes : List ℕ) (e : Entry) (b : DataBlock) : Type 0 where
  pub handle : BlockHandle
  pub key : e.key ≡ b.index_key
  pub is_key : internal_key_reading e.key ≡ Ok e.key
  pub value : e.value ≡ handle_bytes handle.offset handle.size
  pub block : IsStoredAt bytes handle b.entries
  pub some : 0 < length b.entries

-- the entries of the index name these blocks, one each
abbrev pub AreNamed : List ℕ → List Entry → List DataBlock → Type 0
AreNamed bytes [] [] = Unit {0}
AreNamed bytes (e ∷ es) (b ∷ bs) = IsNamed bytes e b × AreNamed bytes es bs
AreNamed bytes _ _ = ⊥

-- a key of the index is below the first key of the next block, if there is one
abbrev pub IsBelowNextBlock : KeyOrder → List ℕ → List DataBlock → Type 0
IsBelowNextBlock cmp key [] = Unit {0}
IsBelowNextBlock cmp key (b ∷ bs) = internal_cmp cmp key (first_key b.entries) ≡ Less

-- each key of the index is at or above its block's last key, and below the next block's first key
abbrev pub AreBetween : KeyOrder → List DataBlock → Type 0
AreBetween cmp [] = Unit {0}
AreBetween cmp (b ∷ bs) = (internal_cmp cmp (last_key [] b.entries) b.index_key ≢ Greater)
    × IsBelowNextBlock cmp b.index_key bs × AreBetween cmp bs

-- The bytes are a table of these entries. The metaindex is a block of any entries. A cross-check of
-- `table_reading`, which takes the parts out of the bytes: this says of which parts the bytes are
-- joined. `reads_tables` is the law that both agree on bytes, for the order of any comparator. Both
-- rest on `internal_key_reading` and `internal_cmp`.
pub record IsTable (cmp : KeyOrder) (bytes : List ℕ) (entries : List Entry) : Type 0 where
  pub footer : Footer
  pub ignored : List Entry
  pub index : List Entry
  pub blocks : List DataBlock
  pub small : length bytes ≤ MAX_TABLE_LEN
  pub ends : EndsWith bytes footer
  pub metaindex_block : IsStoredAt bytes footer.metaindex ignored
  pub index_block : IsStoredAt bytes footer.index index
  pub named : AreNamed bytes index blocks
  pub some : 0 < length blocks
  pub between : AreBetween cmp blocks
  pub whole : entries_of blocks ≡ entries
  pub keys : HaveKeys entries
  pub values : AllByRecursion (λ e. length e.value ≤ MAX_VALUE_LEN) entries
  pub rising : EntriesRise cmp entries

-- each number is a byte
abbrev pub AreBytes : List ℕ → Type 0
AreBytes bytes = (i : ℕ) → slice_index bytes i < 256

-- Bytes read as a list of entries exactly if they are a table of it.
pub record ReadsTables (cmp : KeyOrder) : Type 0 where
  pub found : (bytes : List ℕ) (entries : List Entry) → AreBytes bytes →
      table_reading cmp bytes ≡ Ok entries → IsTable cmp bytes entries
  pub only : (bytes : List ℕ) (entries : List Entry) → IsTable cmp bytes entries →
      table_reading cmp bytes ≡ Ok entries
