-- What is ahead in a table, by its index.
use Rattle.std.proofs.Common.{◌≡◌, ◌<◌, ℕ, Bool, true, false, cond, List, [], ◌∷◌, ◌++◌, length, drop, Option, Some, None, Ok, refl, sym, ap, subst, ◌∙◌}
use Rattle.std.specs.Prelude.{slice_get}
use Rattle.std.specs.List.{AllByRecursion}
use Rattle.std.specs.Cmp.{IsTotalOrder}
use Rattle.std.specs.Option.{is_some, option_map}
use Rattle.std.specs.Ordering.{is_lt}
use Rattle.std.specs.declared.cmp.Ordering.{Ordering}
use Rattle.std.proofs.lemmas.Option.{none-some, same_Some}
use Rattle.table.proofs.Binds.{bind_ok, ok_is}
use Rattle.block.specs.EncodedEntry.{Entry}
use Rattle.block.specs.BuilderView.{last_key}
use Rattle.table.specs.Order.{internal_cmp}
use Rattle.table.specs.CheckedContents.{contents_in}
use Rattle.table.specs.IndexWalk.{Indexes, NamesBlock, all_named, block_named, entries_named}
use Rattle.table.specs.EntriesFrom.{EntriesRise, entries_from}
use Rattle.table.specs.EntryTests.{HaveKeys, first_key}
use Rattle.table.specs.IndexReading.{index_reading}
use Rattle.table.specs.SoundTables.{IsChecked}
use Rattle.table.specs.TableContents.{Contents, blocks_of, contents_of, contents_reading, data_reading, entries_of, index_in}
use Rattle.table.proofs.CheckedTables.{blocks_by, contents_are}
use Rattle.table.proofs.Walks.{indexes, names_from}

-- ---- the first entry from a key on

-- in a list, or else in the next one
module _ (cmp : List ℕ → List ℕ → Ordering) (target : List ℕ) where
  pub past : (es rest : List Entry) → slice_get (entries_from cmp target es) 0 ≡ None → entries_from cmp target (es ++ rest) ≡ entries_from cmp target rest
  past [] rest none = refl
  past (e ∷ es) rest none = by_test (is_lt (internal_cmp cmp e.key target)) none (past es rest)
    where
      by_test : (b : Bool) → slice_get (cond b (entries_from cmp target es) (e ∷ es)) 0 ≡ None → (slice_get (entries_from cmp target es) 0 ≡ None → entries_from cmp target (es ++ rest) ≡ entries_from cmp target rest)
          → cond b (entries_from cmp target (es ++ rest)) (e ∷ (es ++ rest)) ≡ entries_from cmp target rest
      by_test true none more = more none
      by_test false none more = absurd (none-some _ (sym none))

  pub here : (es rest : List Entry) (found : Entry) → slice_get (entries_from cmp target es) 0 ≡ Some found → slice_get (entries_from cmp target (es ++ rest)) 0 ≡ Some found
  here [] rest found some = absurd (none-some _ some)
  here (e ∷ es) rest found some = by_test (is_lt (internal_cmp cmp e.key target)) some (here es rest found)
    where
      by_test : (b : Bool) → slice_get (cond b (entries_from cmp target es) (e ∷ es)) 0 ≡ Some found → (slice_get (entries_from cmp target es) 0 ≡ Some found → slice_get (entries_from cmp target (es ++ rest)) 0 ≡ Some found)
          → slice_get (cond b (entries_from cmp target (es ++ rest)) (e ∷ (es ++ rest))) 0 ≡ Some found
      by_test true some more = more some
      by_test false some more = some

  pub from_rises : (es : List Entry) → EntriesRise cmp es → EntriesRise cmp (entries_from cmp target es)
  from_rises [] h = tt
  from_rises (e ∷ es) h = by_test (is_lt (internal_cmp cmp e.key target)) (from_rises es h.1)
    where
      by_test : (b : Bool) → EntriesRise cmp (entries_from cmp target es) → EntriesRise cmp (cond b (entries_from cmp target es) (e ∷ es))
      by_test true more = more
      by_test false more = h

-- ---- the index of a table

pub record HasIndex (cmp : List ℕ → List ℕ → Ordering) (table : Contents) : Type 0 where
  pub names : List Entry
  pub read : index_in table.bytes ≡ Ok names
  pub indexes : Indexes cmp table.bytes names table.entries

pub has_index : (cmp : List ℕ → List ℕ → Ordering) (table : Contents) → IsTotalOrder cmp → contents_reading cmp table.bytes ≡ Ok table → HasIndex cmp table
has_index cmp table total h =
    let blocks = bind_ok (blocks_of cmp table.bytes) (λ bs. Ok (contents_of table.bytes bs)) table h in
    let names = bind_ok (index_in table.bytes) _ blocks.0 (sym (blocks_by cmp table.bytes) ∙ blocks.1) in
    let index = bind_ok (index_reading table.bytes names.0) (data_reading cmp) blocks.0 names.2 in
    let is : contents_in cmp table.bytes ≡ table = contents_are cmp table.bytes blocks.0 blocks.1 ∙ ok_is _ _ blocks.2 in
    let checked : IsChecked cmp table.bytes names.0 (first_key (entries_of blocks.0)) (last_key [] (entries_of blocks.0)) = record {
      index = index.0;
      blocks = blocks.0;
      index_block = names.1;
      index_entries = index.1;
      data_blocks = index.2;
      first = refl;
      last = refl;
    } in
    record { names = names.0; read = names.1; indexes = indexes cmp table.bytes names.0 _ _ table total checked is }

-- the entries of the index from a key on name all blocks that may hold it
pub record NamesAhead (cmp : List ℕ → List ℕ → Ordering) (bytes target : List ℕ) (names entries : List Entry) : Type 0 where
  pub named : AllByRecursion (NamesBlock cmp bytes) (entries_from cmp target names)
  pub reached : entries_from cmp target (all_named bytes (entries_from cmp target names)) ≡ entries_from cmp target entries

pub names_ahead : (cmp : List ℕ → List ℕ → Ordering) (bytes target : List ℕ) (names entries : List Entry) → IsTotalOrder cmp → Indexes cmp bytes names entries → NamesAhead cmp bytes target names entries
names_ahead cmp bytes target names entries total h =
    let ahead = names_from cmp bytes target names total h.named in
    record { named = ahead.0; reached = ahead.1 ∙ ap (entries_from cmp target) h.whole }

-- ---- entry by entry of the index

-- what is left of the index from a start on, and what is found in it
pub record Ahead (cmp : List ℕ → List ℕ → Ordering) (bytes target : List ℕ) (start index : List Entry) : Type 0 where
  pub named : AllByRecursion (NamesBlock cmp bytes) index
  pub left : entries_from cmp target (all_named bytes index) ≡ entries_from cmp target (all_named bytes start)

-- the block of its first entry
pub record Head (cmp : List ℕ → List ℕ → Ordering) (bytes value : List ℕ) (index : List Entry) : Type 0 where
  pub entries : List Entry
  pub block : block_named bytes value ≡ Ok entries
  pub keys : HaveKeys entries
  pub some : 0 < length entries
  pub parts : all_named bytes index ≡ entries ++ all_named bytes (drop 1 index)
  pub others : AllByRecursion (NamesBlock cmp bytes) (drop 1 index)

pub head_of : (cmp : List ℕ → List ℕ → Ordering) (bytes value : List ℕ) (index : List Entry) → AllByRecursion (NamesBlock cmp bytes) index → option_map (λ e. e.value) (slice_get index 0) ≡ Some value → Head cmp bytes value index
head_of cmp bytes value [] named first = absurd (none-some value first)
head_of cmp bytes value (i ∷ is) named first = record {
  entries = entries_named bytes i;
  block = ap (block_named bytes) (sym (same_Some i.value value first)) ∙ named.0.block;
  keys = named.0.keys;
  some = named.0.some;
  parts = refl;
  others = named.1;
}

-- nothing is found in it
pub goes_on : (cmp : List ℕ → List ℕ → Ordering) (bytes target value : List ℕ) (start index after : List Entry) (found : Option Entry) → Ahead cmp bytes target start index → (h : Head cmp bytes value index)
    → found ≡ slice_get (entries_from cmp target h.entries) 0 → found ≡ None → after ≡ drop 1 index → Ahead cmp bytes target start after
goes_on cmp bytes target value start index after found a h is none next =
    subst (Ahead cmp bytes target start) (sym next) (record {
      named = h.others;
      left =
          sym (past cmp target h.entries (all_named bytes (drop 1 index)) (sym is ∙ none))
          ∙ sym (ap (entries_from cmp target) h.parts)
          ∙ a.left;
    })

-- something is
pub is_found : (cmp : List ℕ → List ℕ → Ordering) (bytes target value : List ℕ) (start index : List Entry) (found : Option Entry) (e : Entry) → Ahead cmp bytes target start index → (h : Head cmp bytes value index)
    → found ≡ slice_get (entries_from cmp target h.entries) 0 → found ≡ Some e → found ≡ slice_get (entries_from cmp target (all_named bytes start)) 0
is_found cmp bytes target value start index found e a h is some =
    some
    ∙ sym (here cmp target h.entries (all_named bytes (drop 1 index)) e (sym is ∙ some))
    ∙ sym (ap (λ (es : List Entry). slice_get (entries_from cmp target es) 0) h.parts)
    ∙ ap (λ (es : List Entry). slice_get es 0) a.left

none_of : (o : Option Entry) → false ≡ is_some o → o ≡ None
none_of None h = refl
none_of (Some e) h = absurd (cc h)

-- the same by a test of what is found
pub passed : (cmp : List ℕ → List ℕ → Ordering) (bytes target value : List ℕ) (start index after : List Entry) (found : Option Entry) → Ahead cmp bytes target start index → (h : Head cmp bytes value index)
    → found ≡ slice_get (entries_from cmp target h.entries) 0 → false ≡ is_some found → after ≡ drop 1 index → Ahead cmp bytes target start after
passed cmp bytes target value start index after found a h is none next = goes_on cmp bytes target value start index after found a h is (none_of found none) next

pub reached : (cmp : List ℕ → List ℕ → Ordering) (bytes target value : List ℕ) (start index : List Entry) (found : Option Entry) → Ahead cmp bytes target start index → (h : Head cmp bytes value index)
    → found ≡ slice_get (entries_from cmp target h.entries) 0 → true ≡ is_some found → found ≡ slice_get (entries_from cmp target (all_named bytes start)) 0
reached cmp bytes target value start index None a h is some = absurd (cc some)
reached cmp bytes target value start index (Some e) a h is some = is_found cmp bytes target value start index (Some e) e a h is refl
