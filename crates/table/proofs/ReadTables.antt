-- What is known of bytes that read as a table, step by step.
use Rattle.std.proofs.Common.{◌≡◌, ℕ, List, [], Result, Ok, refl, sym, ap, subst, ◌∙◌}
use Rattle.std.specs.Prelude.{IsOk}
use Rattle.std.specs.Result.{is_ok}
use Rattle.std.specs.Cmp.{IsTotalOrder}
use Rattle.std.specs.declared.cmp.Ordering.{Ordering}
use Rattle.coding.specs.declared.fault.Fault.{Fault}
use Rattle.coding.proofs.Binds.{done, bind_ok, ok_is}
use Rattle.coding.proofs.Bytes.{IsBytes}
use Rattle.block.specs.EncodedEntry.{Entry}
use Rattle.block.specs.BuilderView.{last_key}
use Rattle.table.specs.EntryTests.{first_key}
use Rattle.table.specs.IndexReading.{IndexEntry, index_reading}
use Rattle.table.specs.TableContents.{DataBlock, data_reading, index_in, blocks_of, entries_of, Contents, contents_of, contents_reading}
use Rattle.table.specs.Tallies.{tally_of}
use Rattle.table.specs.declared.bounds.Bounds.{Bounds}
use Rattle.table.specs.SoundTables.{HasBounds, HasBoundsRead, IsChecked}
use Rattle.table.proofs.CheckedTables.{blocks_by, entries_read}
use Rattle.table.proofs.KeyBytes.{table_keys}
use Rattle.table.proofs.Tables.{reads_tables}

-- the steps of the reading
pub record ReadSteps (cmp : List ℕ → List ℕ → Ordering) (bytes : List ℕ) (x : Contents) : Type 0 where
  pub named : List Entry
  pub index : List IndexEntry
  pub blocks : List DataBlock
  pub index_block : index_in bytes ≡ Ok named
  pub index_entries : index_reading bytes named ≡ Ok index
  pub data_blocks : data_reading cmp index ≡ Ok blocks
  pub same : entries_of blocks ≡ x.entries

pub read_steps : (cmp : List ℕ → List ℕ → Ordering) (bytes : List ℕ) (x : Contents) → contents_reading cmp bytes ≡ Ok x → ReadSteps cmp bytes x
read_steps cmp bytes x h =
    let a = bind_ok (blocks_of cmp bytes) (λ blocks. done (contents_of bytes blocks)) x h in
    let n = bind_ok (index_in bytes) _ a.0 (sym (blocks_by cmp bytes) ∙ a.1) in
    let i = bind_ok (index_reading bytes n.0) _ a.0 n.2 in
    record {
      named = n.0;
      index = i.0;
      blocks = a.0;
      index_block = n.1;
      index_entries = i.1;
      data_blocks = i.2;
      same = ap (λ (y : Contents). y.entries) (ok_is (contents_of bytes a.0) x a.2);
    }

pub index_read : (cmp : List ℕ → List ℕ → Ordering) (bytes : List ℕ) (bounds : Bounds) → HasBoundsRead cmp bytes bounds → IsOk (index_in bytes)
index_read cmp bytes bounds h = ap is_ok (read_steps cmp bytes h.contents h.read).index_block

-- the table has these bounds, with the index block of these entries
pub bounds_read : (cmp : List ℕ → List ℕ → Ordering) (total : IsTotalOrder cmp) (bytes : List ℕ) (named : List Entry) (bounds : Bounds) → IsBytes bytes → HasBoundsRead cmp bytes bounds → index_in bytes ≡ Ok named
    → HasBounds cmp bytes named bounds
bounds_read cmp total bytes named bounds fits h is =
    let s = read_steps cmp bytes h.contents h.read in
    let same : s.named ≡ named = ok_is s.named named (sym s.index_block ∙ is) in
    let found : IsChecked cmp bytes named bounds.smallest bounds.largest =
    record {
      index = s.index;
      blocks = s.blocks;
      index_block = is;
      index_entries = subst (λ (es : List Entry). index_reading bytes es ≡ Ok s.index) same s.index_entries;
      data_blocks = s.data_blocks;
      first = h.first ∙ ap first_key (sym s.same);
      last = h.last ∙ ap (last_key []) (sym s.same);
    } in
    record {
      checked = found;
      keys = table_keys cmp bytes (entries_of s.blocks) fits ((reads_tables cmp total).found bytes (entries_of s.blocks) fits (entries_read cmp bytes h.contents h.read ∙ ap (λ (es : List Entry). done es) (sym s.same)));
      tally = h.tally ∙ ap tally_of (sym s.same);
    }
