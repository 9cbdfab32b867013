-- Parts of a table's file, as a folder tells them.
use Rattle.std.proofs.Common.{◌≡◌, ℕ, ◌+◌, ◌-◌, ◌≤◌, ◌^◌, nat_le, Bool, true, false, List, length, take, drop, Option, Some, None, Result, Ok, if◌then◌else◌, refl, sym, ap, ◌∙◌, inl, inr, arith}
use Rattle.std.proofs.lemmas.List.{length-drop, take_all}
use Rattle.std.proofs.lemmas.Bool.{leb-true}
use Rattle.table.proofs.Binds.{bind_ok, done, failed, ok_is}
use Rattle.table.specs.Answers.{◌>>=◌, fault}
use Rattle.table.specs.fault.Fault.{Fault}
use Rattle.table.specs.fault.FaultName.TheVariants.{Range, Short, Size}
use Rattle.block.specs.EncodedEntry.{Entry}
use Rattle.folder.specs.Folder.{TellsSame}
use Rattle.folder.specs.Names.{old_table_name, table_name}
use Rattle.table.specs.Footer.{footer_reading}
use Rattle.table.specs.Handle.{handle_reading}
use Rattle.table.specs.declared.footer.Footer.{Footer}
use Rattle.table.specs.declared.handle.BlockHandle.{BlockHandle}
use Rattle.reads.specs.Tables.{NumberedContents}
use Rattle.table.specs.IndexWalk.{block_named}
use Rattle.table.specs.IndexReading.{block_in, one_handle, stored_at}
use Rattle.table.specs.TestResult.{test_result}
use Rattle.table.specs.TableContents.{index_in}
use Rattle.table.proofs.Walks.{block_named-by}
use Rattle.table.proofs.EntryTests.{passed}
use Rattle.scan.specs.SearchAnswers.{IsFileOfBytes, index_handle, len_with_trailer}
use Rattle.scan.specs.FolderTables.{HoldTables, HoldsTable, TellsJust}
use Rattle.scan.specs.declared.file_parts.TableFile.{TableFile}

-- ---- what is told

-- what is told later
pub just_later : (old new : List ℕ → Option (List ℕ) → Type 0) (name : List ℕ) (held : Option (List ℕ)) → TellsSame old new → TellsJust old name held → TellsJust new name held
just_later old new name held same h other told = h other ((same name other).1 told)

pub table_later : (old new : List ℕ → Option (List ℕ) → Type 0) (number : ℕ) (bytes : List ℕ) → TellsSame old new → HoldsTable old number bytes → HoldsTable new number bytes
table_later old new number bytes same (inl h) = inl (just_later old new (table_name number) (Some bytes) same h)
table_later old new number bytes same (inr h) = inr (just_later old new (table_name number) None same h.0, just_later old new (old_table_name number) (Some bytes) same h.1)

pub tables_later : (old new : List ℕ → Option (List ℕ) → Type 0) (tables : List NumberedContents) → TellsSame old new → HoldTables old tables → HoldTables new tables
tables_later old new tables same h number table is = table_later old new number table.bytes same (h number table is)

pub file_later : (old new : List ℕ → Option (List ℕ) → Type 0) (file : TableFile) (bytes : List ℕ) → TellsSame old new → IsFileOfBytes old file bytes → IsFileOfBytes new file bytes
file_later old new file bytes same h = (just_later old new _ (Some bytes) same h.0, h.1)

-- ---- a stored block

-- the length of one that is there
pub stored_there : (bytes : List ℕ) (handle : BlockHandle) (stored : List ℕ) → stored_at bytes handle ≡ Ok stored → len_with_trailer (length bytes) handle ≡ Ok (handle.size + 5)
stored_there bytes handle stored h = by_test (nat_le (handle.offset + handle.size + 5 + 48) (length bytes)) h
  where
    by_test : (b : Bool) → (if b then done (take (handle.size + 5) (drop handle.offset bytes)) else failed (fault Range)) ≡ Ok stored → (if b then done (handle.size + 5) else failed (fault Range)) ≡ Ok (handle.size + 5)
    by_test true is = refl
    by_test false is = absurd (cc is)

-- ---- the index

pub record IndexThere (bytes : List ℕ) (names : List Entry) : Type 0 where
  pub long : 48 ≤ length bytes
  pub handle : BlockHandle
  pub read : index_handle (length bytes) (drop (length bytes - 48) bytes) ≡ Ok handle
  pub stored : List ℕ
  pub place : stored_at bytes handle ≡ Ok stored
  pub block : block_in stored ≡ Ok names

pub index_there : (bytes : List ℕ) (names : List Entry) → index_in bytes ≡ Ok names → IndexThere bytes names
index_there bytes names h =
    let small = bind_ok (test_result (nat_le (length bytes) (2 ^ 30)) Size) _ names h in
    let long = bind_ok (test_result (nat_le 48 (length bytes)) Short) _ names small.2 in
    let footer = bind_ok (footer_reading (drop (length bytes - 48) bytes)) _ names long.2 in
    let metaindex = bind_ok (stored_at bytes footer.0.metaindex) _ names footer.2 in
    let index = bind_ok (stored_at bytes footer.0.index) _ names metaindex.2 in
    let ignored = bind_ok (block_in metaindex.0) _ names index.2 in
    let one = stored_there bytes footer.0.metaindex metaindex.0 metaindex.1 in
    let two = stored_there bytes footer.0.index index.0 index.1 in
    record {
      long = leb-true 48 (length bytes) (passed _ Short long.0 long.1);
      handle = footer.0.index;
      read =
          ap (λ (r : Result Footer Fault). r >>= λ f. len_with_trailer (length bytes) f.metaindex >>= λ a. len_with_trailer (length bytes) f.index >>= λ b. done f.index) footer.1
          ∙ ap (λ (r : Result ℕ Fault). r >>= λ a. len_with_trailer (length bytes) footer.0.index >>= λ b. done footer.0.index) one
          ∙ ap (λ (r : Result ℕ Fault). r >>= λ b. done footer.0.index) two;
      stored = index.0;
      place = index.1;
      block = ignored.2;
    }

-- the footer is what the file ends with
pub footer_is : (bytes part : List ℕ) → 48 ≤ length bytes → part ≡ take 48 (drop (length bytes - 48) bytes) → part ≡ drop (length bytes - 48) bytes
footer_is bytes part long is =
    let one = length-drop (length bytes - 48) bytes in
    is ∙ take_all 48 (drop (length bytes - 48) bytes) (omega (arith, one))

-- ---- a data block

pub record NamedThere (bytes value : List ℕ) (entries : List Entry) : Type 0 where
  pub handle : BlockHandle
  pub spelled : one_handle (handle_reading value) ≡ Ok handle
  pub stored : List ℕ
  pub place : stored_at bytes handle ≡ Ok stored
  pub block : block_in stored ≡ Ok entries

pub named_there : (bytes value : List ℕ) (entries : List Entry) → block_named bytes value ≡ Ok entries → NamedThere bytes value entries
named_there bytes value entries h =
    let handle = bind_ok (one_handle (handle_reading value)) (λ handle. stored_at bytes handle >>= λ there. block_in there) entries (sym (block_named-by bytes value) ∙ h) in
    let there = bind_ok (stored_at bytes handle.0) block_in entries handle.2 in
    record { handle = handle.0; spelled = handle.1; stored = there.0; place = there.1; block = there.2 }

-- a step's value is its definition's
pub value_is : {A : Type 0} (answer : Result A Fault) (x y : A) → Ok x ≡ answer → answer ≡ Ok y → x ≡ y
value_is answer x y h is = ok_is x y (h ∙ is)

pub not_refused : {A : Type 0} (answer : Result A Fault) (e : Fault) (y : A) → failed e ≡ answer → answer ≡ Ok y → ⊥
not_refused answer e y h is = no_value (h ∙ is)
  where
    no_value : failed e ≡ done y → ⊥
    no_value both = cc both
