-- Bytes read as a table exactly if they are one.
use Rattle.std.proofs.Common.{◌≡◌, ℕ, ◌-◌, ◌^◌, ◌<◌, ◌≤◌, Bool, true, nat_le, List, [], ◌∷◌, length, drop, None, Ok, refl, sym, ap, subst, ◌∙◌, arith}
use Rattle.std.specs.List.{AllByRecursion}
use Rattle.std.specs.Cmp.{IsTotalOrder}
use Rattle.std.specs.declared.cmp.Ordering.{Ordering}
use Rattle.std.proofs.lemmas.Bool.{leb-true, le-leb}
use Rattle.coding.specs.Answers.{◌>>=◌}
use Rattle.coding.specs.declared.fault.FaultName.TheVariants.{Size, Short, Empty, Index}
use Rattle.coding.proofs.Binds.{done, bind_ok, ok_is}
use Rattle.block.specs.EncodedEntry.{Entry}
use Rattle.table.specs.declared.footer.Footer.{Footer}
use Rattle.table.specs.Footer.{footer_reading}
use Rattle.table.specs.TestResult.{test_result}
use Rattle.table.specs.EntryTests.{is_some_list, entries_test, HaveKeys}
use Rattle.table.specs.EntriesFrom.{EntriesRise}
use Rattle.table.specs.IndexReading.{IndexEntry, stored_at, block_in, index_reading}
use Rattle.table.specs.TableContents.{DataBlock, blocks_reading, index_fits, data_reading, index_in, blocks_of, entries_of, table_reading}
use Rattle.table.specs.TableBytes.{IsStoredAt, EndsWith, IsTable, AreBytes, ReadsTables}
use Rattle.table.proofs.CheckedTables.{blocks_by, read_block, read_data}
use Rattle.table.proofs.EntryTests.{passed, have_keys, all_tests, rising}
use Rattle.table.proofs.StoredTables.{bind_is, stands_read, stands_fit, read_stands, ends_read, read_ends, long_footer}
use Rattle.table.proofs.NamedBlocks.{Holds, named_read, blocks_read, read_named, tests_of, values_of, fits_between, between_fits}

-- ---- the index

-- what stands before the data blocks are read
record HasIndex (bytes : List ℕ) (index : List Entry) : Type 0 where
  footer : Footer
  ignored : List Entry
  small : length bytes ≤ 2 ^ 30
  ends : EndsWith bytes footer
  metaindex_block : IsStoredAt bytes footer.metaindex ignored
  index_block : IsStoredAt bytes footer.index index

index_found : (bytes : List ℕ) (index : List Entry) → AreBytes bytes → index_in bytes ≡ Ok index → HasIndex bytes index
index_found bytes index fits h =
    let a = bind_ok (test_result (nat_le (length bytes) (2 ^ 30)) Size) _ index h in
    let b = bind_ok (test_result (nat_le 48 (length bytes)) Short) _ index a.2 in
    let f = bind_ok (footer_reading (drop (length bytes - 48) bytes)) _ index b.2 in
    let m = bind_ok (stored_at bytes f.0.metaindex) _ index f.2 in
    let i = bind_ok (stored_at bytes f.0.index) _ index m.2 in
    let q = bind_ok (block_in m.0) (λ _. block_in i.0) index i.2 in
    record {
      footer = f.0;
      ignored = q.0;
      small = leb-true (length bytes) (2 ^ 30) (passed (nat_le (length bytes) (2 ^ 30)) Size a.0 a.1);
      ends = read_ends bytes f.0 (leb-true 48 (length bytes) (passed (nat_le 48 (length bytes)) Short b.0 b.1)) f.1;
      metaindex_block = read_stands bytes f.0.metaindex m.0 q.0 fits m.1 q.1;
      index_block = read_stands bytes f.0.index i.0 index fits i.1 q.2;
    }

index_read : (bytes : List ℕ) (index : List Entry) → HasIndex bytes index → index_in bytes ≡ Ok index
index_read bytes index k =
    let m = stands_read bytes k.footer.metaindex k.ignored k.metaindex_block in
    let i = stands_read bytes k.footer.index index k.index_block in
    let footer = ends_read bytes k.footer k.ends (stands_fit bytes k.footer.metaindex k.ignored k.small k.metaindex_block) (stands_fit bytes k.footer.index index k.small k.index_block) in
    ap (λ (b : Bool). test_result b Size >>= λ _. test_result (nat_le 48 (length bytes)) Short >>= λ _. footer_reading (drop (length bytes - 48) bytes) >>= λ f. stored_at bytes f.metaindex >>= λ x. stored_at bytes f.index >>= λ y. block_in x >>= λ _. block_in y) (le-leb (length bytes) (2 ^ 30) k.small)
    ∙ ap (λ (b : Bool). test_result b Short >>= λ _. footer_reading (drop (length bytes - 48) bytes) >>= λ f. stored_at bytes f.metaindex >>= λ x. stored_at bytes f.index >>= λ y. block_in x >>= λ _. block_in y) (le-leb 48 (length bytes) (long_footer bytes k.footer k.ends))
    ∙ bind_is (footer_reading (drop (length bytes - 48) bytes)) k.footer (λ f. stored_at bytes f.metaindex >>= λ x. stored_at bytes f.index >>= λ y. block_in x >>= λ _. block_in y) (done index) footer
    (bind_is (stored_at bytes k.footer.metaindex) m.bytes_there (λ x. stored_at bytes k.footer.index >>= λ y. block_in x >>= λ _. block_in y) (done index) m.at
    (bind_is (stored_at bytes k.footer.index) i.bytes_there (λ y. block_in m.bytes_there >>= λ _. block_in y) (done index) i.at
    (bind_is (block_in m.bytes_there) k.ignored (λ _. block_in i.bytes_there) (done index) m.entries i.entries)))

-- ---- the whole

some_blocks : (cmp : List ℕ → List ℕ → Ordering) (index : List IndexEntry) (blocks : List DataBlock) → is_some_list index ≡ true → blocks_reading cmp None index ≡ Ok blocks → 0 < length blocks
some_blocks cmp [] blocks some h = absurd cc
some_blocks cmp (i ∷ is) blocks some h =
    let r = read_block cmp None i is blocks h in
    subst (λ (bs : List DataBlock). 0 < length bs) r.same (omega arith)

some_index : (index : List IndexEntry) (blocks : List DataBlock) → Holds index blocks → 0 < length blocks → is_some_list index ≡ true
some_index [] [] h some = absurd (omega arith)
some_index [] (b ∷ bs) h some = absurd h
some_index (i ∷ is) bs h some = refl

found : (cmp : List ℕ → List ℕ → Ordering) → IsTotalOrder cmp → (bytes : List ℕ) (entries : List Entry) → AreBytes bytes → table_reading cmp bytes ≡ Ok entries → IsTable cmp bytes entries
found cmp total bytes entries fits h =
    let t = bind_ok (blocks_of cmp bytes) (λ blocks. Ok (entries_of blocks)) entries h in
    let a = bind_ok (index_in bytes) (λ q. index_reading bytes q >>= λ index. data_reading cmp index) t.0 (sym (blocks_by cmp bytes) ∙ t.1) in
    let b = bind_ok (index_reading bytes a.0) (λ index. data_reading cmp index) t.0 a.2 in
    let d = read_data cmp b.0 t.0 b.2 in
    let k = index_found bytes a.0 fits a.1 in
    let whole : entries_of t.0 ≡ entries = ok_is (entries_of t.0) entries t.2 in
    let tests = all_tests cmp None b.0 t.0 d.read in
    record {
      footer = k.footer;
      ignored = k.ignored;
      index = a.0;
      blocks = t.0;
      small = k.small;
      ends = k.ends;
      metaindex_block = k.metaindex_block;
      index_block = k.index_block;
      named = read_named cmp bytes a.0 None b.0 t.0 fits b.1 d.read;
      some = some_blocks cmp b.0 t.0 d.some d.read;
      between = (fits_between cmp None t.0 d.fits).1;
      whole = whole;
      keys = subst HaveKeys whole (have_keys cmp None (entries_of t.0) tests);
      values = subst (λ (es : List Entry). AllByRecursion (λ e. length e.value ≤ 16777215) es) whole (values_of cmp None (entries_of t.0) tests);
      rising = subst (EntriesRise cmp) whole (rising cmp None (entries_of t.0) total tests);
    }

only : (cmp : List ℕ → List ℕ → Ordering) (bytes : List ℕ) (entries : List Entry) → IsTable cmp bytes entries → table_reading cmp bytes ≡ Ok entries
only cmp bytes entries t =
    let index = index_read bytes t.index (record { footer = t.footer; ignored = t.ignored; small = t.small; ends = t.ends; metaindex_block = t.metaindex_block; index_block = t.index_block }) in
    let n = named_read bytes t.index t.blocks t.small t.named in
    let tests : entries_test cmp None (entries_of t.blocks) ≡ Ok tt = subst (λ (es : List Entry). entries_test cmp None es ≡ Ok tt) (sym t.whole) (tests_of cmp None entries t.keys t.values tt t.rising) in
    let read : blocks_reading cmp None n.index ≡ Ok t.blocks = blocks_read cmp None n.index t.blocks n.holds tests in
    let inside : data_reading cmp n.index ≡ Ok t.blocks =
    ap (λ (b : Bool). test_result b Empty >>= λ _. blocks_reading cmp None n.index >>= λ bs. test_result (index_fits cmp None bs) Index >>= λ _. Ok bs) (some_index n.index t.blocks n.holds t.some)
    ∙ bind_is (blocks_reading cmp None n.index) t.blocks (λ bs. test_result (index_fits cmp None bs) Index >>= λ _. Ok bs) (done t.blocks) read
    (ap (λ (b : Bool). test_result b Index >>= λ _. done t.blocks) (between_fits cmp None t.blocks tt t.between)) in
    let blocks : blocks_of cmp bytes ≡ Ok t.blocks = blocks_by cmp bytes
    ∙ bind_is (index_in bytes) t.index (λ q. index_reading bytes q >>= λ is. data_reading cmp is) (done t.blocks) index
    (bind_is (index_reading bytes t.index) n.index (λ is. data_reading cmp is) (done t.blocks) n.read inside) in
    bind_is (blocks_of cmp bytes) t.blocks (λ bs. Ok (entries_of bs)) (done entries) blocks (ap (λ (es : List Entry). done es) t.whole)

pub reads_tables : (cmp : List ℕ → List ℕ → Ordering) → IsTotalOrder cmp → ReadsTables cmp
reads_tables cmp total = record { found = found cmp total; only = only cmp }
