-- How long a table is, by the lengths of its data blocks.
use Rattle.std.proofs.Common.{◌≡◌, ◌≢◌, ℕ, zero, suc, ◌+◌, ◌-◌, ◌%◌, ◌^◌, ◌<◌, ◌≤◌, true, cond, eqb, List, [], ◌∷◌, ◌++◌, length, drop, get_or, min, refl, sym, ap, subst, ◌∙◌, append_assoc, append-nil, inl, inr, arith}
use Rattle.std.specs.Prelude.{Some, None, slice_get}
use Rattle.std.specs.List.{AllByRecursion}
use Rattle.std.specs.Option.{option_map}
use Rattle.std.specs.declared.cmp.Ordering.{Ordering}
use Rattle.std.proofs.lemmas.Bool.{cases_lt, lt-ltb, le-ltb}
use Rattle.std.proofs.lemmas.List.{length-append, drop_more}
use Rattle.std.proofs.lemmas.List.Sums.{sum_by-cons, sum_by-drop_more}
use Rattle.std.proofs.Math.ListN.{drop_of_length-le}
use Rattle.std.proofs.Math.Nat.{mod-one}
use Rattle.coding.specs.Varint.{varint}
use Rattle.coding.specs.Saturated.{saturated}
use Rattle.ikey.specs.ShortenedKeys.{internal_separator_of, internal_successor_of}
use Rattle.block.specs.EncodedEntry.{Entry, encoded_entry_bytes}
use Rattle.block.specs.BlockFormat.{block}
use Rattle.block.specs.BuilderView.{last_key}
use Rattle.block.proofs.Written.{piece_at_restart}
use Rattle.table.specs.Handle.{handle_bytes}
use Rattle.table.specs.Trailer.{stored_block}
use Rattle.table.proofs.Stored.{length-stored}
use Rattle.table.specs.declared.options.Options.{Options}
use Rattle.table.specs.EntryTests.{first_key}
use Rattle.table.specs.Table.{IndexKeys, index_key, index_keys, index_from, handle_entry, closing_bytes, stored_blocks, table, table_of_blocks}
use Rattle.cut.specs.declared.planned_block.PlannedBlock.{PlannedBlock}
use Rattle.cut.specs.Lengths.{added_len}
use Rattle.cut.specs.BlockInProgress.{last_entry_key}
use Rattle.cut.specs.PlannedBlocks.{block_lists}
use Rattle.cut.specs.OutputInProgress.{entries_in_blocks, stored_len, HasLen, ArePlanned}
use Rattle.keep.specs.Sizes.{encoded_entry_size}
use Rattle.cut.specs.TableLength.{capped_length, lens_of, planned_index_key, planned_index_entries, index_sizes, table_size}
use Rattle.cut.proofs.Metered.{ended_is, length-piece}
use Rattle.cut.proofs.MeteredLengths.{lengths_law}
use Rattle.ikey.specs.Comparator.{ShortKeys}

-- ---- an index block

whole_piece : (before : List ℕ) (e : Entry) → length (encoded_entry_bytes (piece_at_restart true before e)) ≡ encoded_entry_size 0 (length e.key) (length e.value)
whole_piece before e = length-piece (piece_at_restart true before e)

added_at : (place : ℕ) (before : List ℕ) (e : Entry) → place ≡ 0 → length (encoded_entry_bytes (piece_at_restart (eqb place 0) before e)) + cond (eqb place 0) 4 0 ≡ encoded_entry_size 0 (length e.key) (length e.value) + 4
added_at place before e none = rw none (ap (λ (n : ℕ). n + 4) (whole_piece before e))

added_first : (place : ℕ) (e : Entry) → place ≡ 0 → length (encoded_entry_bytes (piece_at_restart (eqb place 0) [] e)) + 0 ≡ encoded_entry_size 0 (length e.key) (length e.value)
added_first place e none = rw none (omega (arith, whole_piece [] e))

index_more : (x : Entry) (xs es : List Entry) → length (block 1 ((x ∷ xs) ++ es)) ≡ length (block 1 (x ∷ xs)) + index_sizes es
index_more x xs [] = ap (λ (q : List Entry). length (block 1 q)) (append-nil (x ∷ xs)) ∙ omega arith
index_more x xs (e ∷ es) =
    let added : added_len 1 (x ∷ xs) e ≡ encoded_entry_size 0 (length e.key) (length e.value) + 4 = added_at (length (x ∷ xs) % 1) (last_key x.key xs) e (mod-one (length (x ∷ xs))) in
    ap (λ (q : List Entry). length (block 1 q)) (sym (append_assoc (x ∷ xs) (e ∷ []) es))
    ∙ index_more x (xs ++ e ∷ []) es
    ∙ omega (arith, lengths_law.more 1 (x ∷ xs) e, added)

pub length-index : (es : List Entry) → es ≢ [] → length (block 1 es) ≡ 4 + index_sizes es
length-index [] some = absurd (some refl)
length-index (e ∷ es) some =
    let first : added_len 1 [] e ≡ encoded_entry_size 0 (length e.key) (length e.value) = added_first (0 % 1) e (mod-one 0) in
    index_more e [] es ∙ omega (arith, lengths_law.more 1 [] e, lengths_law.none 1, first)

-- ---- the lengths of planned blocks

pub lens_more : (blocks : List PlannedBlock) (i : ℕ) (b : PlannedBlock) → i < length blocks → get_or blocks i b ≡ b → lens_of (drop i blocks) ≡ b.len + 5 + lens_of (drop (i + 1) blocks)
lens_more blocks i b lt is = sum_by-drop_more (λ (x : PlannedBlock). x.len + 5) blocks i b lt ∙ ap (λ (x : PlannedBlock). x.len + 5 + lens_of (drop (i + 1) blocks)) is

pub index_step : (keys : IndexKeys) (at : ℕ) (blocks : List PlannedBlock) (i : ℕ) (b : PlannedBlock) → i < length blocks → get_or blocks i b ≡ b
    → planned_index_entries keys at (drop i blocks) ≡ handle_entry (planned_index_key keys (drop i blocks)) at b.len ∷ planned_index_entries keys (at + b.len + 5) (drop (i + 1) blocks)
index_step keys at blocks i b lt is =
    let front : drop i blocks ≡ b ∷ drop (i + 1) blocks = drop_more blocks i b lt ∙ ap (λ (x : PlannedBlock). x ∷ drop (i + 1) blocks) is in
    ap (planned_index_entries keys at) front ∙ sym (ap (λ (bs : List PlannedBlock). handle_entry (planned_index_key keys bs) at b.len ∷ planned_index_entries keys (at + b.len + 5) (drop (i + 1) blocks)) front)

pub length-handle : (offset size : ℕ) → length (handle_bytes offset size) ≡ length (varint offset) + length (varint size)
unfolding handle_bytes
length-handle offset size = length-append (varint offset) (varint size)

-- what is added up, and what is left of an index
pub record IsIndexLen (keys : IndexKeys) (blocks : List PlannedBlock) (i offset len : ℕ) : Type 0 where
  pub sizes : saturated (len + index_sizes (planned_index_entries keys offset (drop i blocks))) ≡ saturated (4 + index_sizes (planned_index_entries keys 0 blocks))
  pub offset_is : offset + lens_of (drop i blocks) ≡ lens_of blocks
  pub fits : len ≤ 2 ^ 64 - 1

more_saturated : (len piece rest all : ℕ) → saturated (len + (piece + 4 + rest)) ≡ all → saturated (min (min (len + saturated piece) (2 ^ 64 - 1) + 4) (2 ^ 64 - 1) + rest) ≡ all
more_saturated len piece rest all h = omega arith

pub index_len_more : (keys : IndexKeys) (blocks : List PlannedBlock) (i offset len : ℕ) (b : PlannedBlock) (key : List ℕ) (handle : ℕ) → i < length blocks → get_or blocks i b ≡ b → key ≡ planned_index_key keys (drop i blocks)
    → handle ≡ length (varint offset) + length (varint b.len) → IsIndexLen keys blocks i offset len
    → IsIndexLen keys blocks (i + 1) (offset + (b.len + 5)) (min (min (len + saturated (encoded_entry_size 0 (length key) handle)) (2 ^ 64 - 1) + 4) (2 ^ 64 - 1))
index_len_more keys blocks i offset len b key handle lt is key_is handle_is h =
    let rest = planned_index_entries keys (offset + b.len + 5) (drop (i + 1) blocks) in
    let place : offset + b.len + 5 ≡ offset + (b.len + 5) = omega arith in
    let value : length (handle_bytes offset b.len) ≡ handle = length-handle offset b.len ∙ sym handle_is in
    let piece : encoded_entry_size 0 (length (planned_index_key keys (drop i blocks))) (length (handle_bytes offset b.len)) ≡ encoded_entry_size 0 (length key) handle =
    ap (λ (k : List ℕ). encoded_entry_size 0 (length k) (length (handle_bytes offset b.len))) (sym key_is) ∙ ap (encoded_entry_size 0 (length key)) value in
    let step : index_sizes (planned_index_entries keys offset (drop i blocks)) ≡ encoded_entry_size 0 (length key) handle + 4 + index_sizes rest =
    ap index_sizes (index_step keys offset blocks i b lt is) ∙ ap (λ (n : ℕ). n + 4 + index_sizes rest) piece in
    record {
      sizes =
          ap (λ (at : ℕ). saturated (min (min (len + saturated (encoded_entry_size 0 (length key) handle)) (2 ^ 64 - 1) + 4) (2 ^ 64 - 1) + index_sizes (planned_index_entries keys at (drop (i + 1) blocks)))) (sym place)
          ∙ more_saturated len (encoded_entry_size 0 (length key) handle) (index_sizes rest) (saturated (4 + index_sizes (planned_index_entries keys 0 blocks))) (sym (ap (λ (n : ℕ). saturated (len + n)) step) ∙ h.sizes);
      offset_is = omega (arith, h.offset_is, lens_more blocks i b lt is);
      fits = omega arith;
    }

index_some : (keys : IndexKeys) (at : ℕ) (blocks : List PlannedBlock) → blocks ≢ [] → planned_index_entries keys at blocks ≢ []
index_some keys at [] some = λ _. some refl
index_some keys at (b ∷ bs) some = λ none. absurd (cc)

pub index_len_all : (keys : IndexKeys) (blocks : List PlannedBlock) (i offset len : ℕ) → blocks ≢ [] → length blocks ≤ i → IsIndexLen keys blocks i offset len → saturated (length (block 1 (planned_index_entries keys 0 blocks))) ≡ len
index_len_all keys blocks i offset len some le h =
    let none : drop i blocks ≡ [] = drop_of_length-le blocks le in
    let left : index_sizes (planned_index_entries keys offset (drop i blocks)) ≡ 0 = ap (λ (bs : List PlannedBlock). index_sizes (planned_index_entries keys offset bs)) none in
    omega (arith, h.sizes, h.fits, left, length-index (planned_index_entries keys 0 blocks) (index_some keys 0 blocks some))

-- ---- the keys of the index

pub some_ended : (q : List Entry) → q ≢ [] → last_entry_key q ≡ None → ⊥
some_ended [] some none = some refl
some_ended (x ∷ xs) some none = (let no : Some (last_key x.key xs) ≡ None = sym (ended_is x xs) ∙ none in cc)

ended_last : (q : List Entry) (last : List ℕ) → Some last ≡ last_entry_key q → last_key [] q ≡ last
ended_last [] last is = absurd (cc)
ended_last (x ∷ xs) last is = (let both : Some last ≡ Some (last_key x.key xs) = is ∙ ended_is x xs in cc)

first_next : (q behind : List Entry) (next : List ℕ) → q ≢ [] → option_map (λ (e : Entry). e.key) (slice_get (q ++ behind) 0) ≡ Some next → first_key q ≡ next
first_next [] behind next some is = absurd (some refl)
first_next (e ∷ es) behind next some is = (let both : Some e.key ≡ Some next = is in cc)

pub some_at : (blocks : List PlannedBlock) (i : ℕ) (b : PlannedBlock) → i < length blocks → AllByRecursion (λ (x : PlannedBlock). x.entries.entries ≢ []) blocks → get_or blocks i b ≡ b → b.entries.entries ≢ []
some_at [] i b lt h is = absurd (omega arith)
some_at (x ∷ xs) zero b lt h is = subst (λ (y : PlannedBlock). y.entries.entries ≢ []) is h.0
some_at (x ∷ xs) (suc i) b lt h is = some_at xs i b (omega arith) h.1 is

front_is : (blocks : List PlannedBlock) (i : ℕ) (b : PlannedBlock) → i < length blocks → get_or blocks i b ≡ b → drop i blocks ≡ b ∷ drop (i + 1) blocks
front_is blocks i b lt is = drop_more blocks i b lt ∙ ap (λ (x : PlannedBlock). x ∷ drop (i + 1) blocks) is

module _ (cmp : List ℕ → List ℕ → Ordering) (short_keys : ShortKeys) where
  pub key_last : (blocks : List PlannedBlock) (i : ℕ) (b : PlannedBlock) (last : List ℕ) → i + 1 ≡ length blocks → get_or blocks i b ≡ b → Some last ≡ last_entry_key b.entries.entries
      → internal_successor_of cmp short_keys.successor last ≡ planned_index_key (index_keys cmp short_keys) (drop i blocks)
  unfolding index_keys
  key_last blocks i b last end is ends =
      let keys = index_keys cmp short_keys in
      let front : drop i blocks ≡ b ∷ [] = front_is blocks i b (omega arith) is ∙ ap (λ (bs : List PlannedBlock). b ∷ bs) (drop_of_length-le blocks (omega arith)) in
      sym (ap (planned_index_key keys) front ∙ ap (internal_successor_of cmp short_keys.successor) (ended_last b.entries.entries last ends))

  pub key_next : (blocks : List PlannedBlock) (i : ℕ) (b n : PlannedBlock) (last next : List ℕ) → i + 1 < length blocks → get_or blocks i b ≡ b → get_or blocks (i + 1) n ≡ n → Some last ≡ last_entry_key b.entries.entries
      → n.entries.entries ≢ [] → option_map (λ (e : Entry). e.key) (slice_get (n.entries.entries ++ n.entries.behind) 0) ≡ Some next
      → internal_separator_of cmp short_keys.separator last next ≡ planned_index_key (index_keys cmp short_keys) (drop i blocks)
  unfolding index_keys
  key_next blocks i b n last next lt is next_is ends some first =
      let keys = index_keys cmp short_keys in
      let front : drop i blocks ≡ b ∷ n ∷ drop (i + 1 + 1) blocks = front_is blocks i b (omega arith) is ∙ ap (λ (bs : List PlannedBlock). b ∷ bs) (front_is blocks (i + 1) n lt next_is) in
      sym (
      ap (planned_index_key keys) front
      ∙ ap (λ (k : List ℕ). internal_separator_of cmp short_keys.separator k (first_key n.entries.entries)) (ended_last b.entries.entries last ends)
      ∙ ap (internal_separator_of cmp short_keys.separator last) (first_next n.entries.entries n.entries.behind next some first)
      )

-- ---- if no length is saturated

pub exact_one : (o : Options) (b : PlannedBlock) → HasLen o b → b.len ≤ 2 ^ 30 → b.len ≡ length (block o.restart_interval b.entries.entries)
exact_one o b h le = omega arith

module _ (o : Options) where
  pub stored_cons : (p : List Entry) (ps : List (List Entry)) → stored_len o.restart_interval (p ∷ ps) ≡ length (block o.restart_interval p) + 5 + stored_len o.restart_interval ps
  stored_cons p ps = omega (arith, length-append (stored_block (block o.restart_interval p)) (stored_blocks o.restart_interval ps), length-stored (block o.restart_interval p))

  pub stored_exact : (blocks : List PlannedBlock) → AllByRecursion (HasLen o) blocks → lens_of blocks ≤ 2 ^ 30 → stored_len o.restart_interval (block_lists blocks) ≡ lens_of blocks
  stored_exact [] h le = refl
  stored_exact (b ∷ bs) h le =
      let all = sum_by-cons (λ (x : PlannedBlock). x.len + 5) b bs in
      let one = exact_one o b h.0 (omega arith) in
      omega (arith, stored_cons b.entries.entries (block_lists bs), stored_exact bs h.1 (omega arith), one, all)

  pub stored_more : (blocks : List PlannedBlock) → AllByRecursion (HasLen o) blocks → lens_of blocks ≤ stored_len o.restart_interval (block_lists blocks)
  stored_more [] h = omega arith
  stored_more (b ∷ bs) h =
      let all = sum_by-cons (λ (x : PlannedBlock). x.len + 5) b bs in
      let one : b.len ≤ length (block o.restart_interval b.entries.entries) = omega (arith, h.0) in
      omega (arith, stored_cons b.entries.entries (block_lists bs), stored_more bs h.1, one, all)

  pub index_exact : (keys : IndexKeys) (at : ℕ) (blocks : List PlannedBlock) → AllByRecursion (HasLen o) blocks → lens_of blocks ≤ 2 ^ 30 → planned_index_entries keys at blocks ≡ index_from keys o.restart_interval at (block_lists blocks)
  index_exact keys at [] h le = refl
  index_exact keys at (b ∷ bs) h le =
      let all = sum_by-cons (λ (x : PlannedBlock). x.len + 5) b bs in
      let one = exact_one o b h.0 (omega arith) in
      ap (λ (es : List Entry). handle_entry (index_key keys b.entries.entries (block_lists bs)) at b.len ∷ es) (index_exact keys (at + b.len + 5) bs h.1 (omega arith))
      ∙ ap (λ (n : ℕ). handle_entry (index_key keys b.entries.entries (block_lists bs)) at n ∷ index_from keys o.restart_interval (at + n + 5) (block_lists bs)) one

  -- ---- the whole table

  module _ (keys : IndexKeys) where
    -- the length of the table of planned blocks
    abbrev whole : List PlannedBlock → ℕ
    whole blocks = stored_len o.restart_interval (block_lists blocks) + (length (block 1 (index_from keys o.restart_interval 0 (block_lists blocks))) + 66)

    length-whole : (blocks : List PlannedBlock) → length (table_of_blocks keys o.restart_interval (block_lists blocks)) ≡ whole blocks
    length-whole blocks =
        let stored_bytes = stored_blocks o.restart_interval (block_lists blocks) in
        let index = index_from keys o.restart_interval 0 (block_lists blocks) in
        length-append stored_bytes (closing_bytes (length stored_bytes) index) ∙ ap (λ (n : ℕ). length stored_bytes + n) (lengths_law.closed (length stored_bytes) index)

pub length-table : (cmp : List ℕ → List ℕ → Ordering) (short_keys : ShortKeys) (o : Options) (blocks : List PlannedBlock) → ArePlanned o blocks
    → length (table cmp short_keys o (entries_in_blocks blocks))
    ≡ stored_len o.restart_interval (block_lists blocks) + (length (block 1 (index_from (index_keys cmp short_keys) o.restart_interval 0 (block_lists blocks))) + 66)
unfolding table
length-table cmp short_keys o blocks h =
    let keys = index_keys cmp short_keys in
    ap (λ (ps : List (List Entry)). length (table_of_blocks keys o.restart_interval ps)) (sym h.cut) ∙ length-whole o keys blocks

-- the size that is added up is that of the table
pub size_is : (cmp : List ℕ → List ℕ → Ordering) (short_keys : ShortKeys) (o : Options) (blocks : List PlannedBlock) → ArePlanned o blocks
    → table_size (index_keys cmp short_keys) blocks ≡ capped_length (length (table cmp short_keys o (entries_in_blocks blocks)))
size_is cmp short_keys o blocks h =
    let keys = index_keys cmp short_keys in
    let whole = length-table cmp short_keys o blocks h in
    elim (cases_lt (2 ^ 30) (lens_of blocks)) [
      | inl over ↦ rw (lt-ltb (2 ^ 30) (lens_of blocks) over) (omega (arith, whole, stored_more o blocks h.lens))
      | inr within ↦
          let exact : length (block 1 (planned_index_entries keys 0 blocks)) ≡ length (block 1 (index_from keys o.restart_interval 0 (block_lists blocks))) = ap (λ (es : List Entry). length (block 1 es)) (index_exact o keys 0 blocks h.lens within) in
          rw (le-ltb (2 ^ 30) (lens_of blocks) within) (omega (arith, whole, stored_exact o blocks h.lens within, exact))
    ]

pub size_over : (keys : IndexKeys) (blocks : List PlannedBlock) (size : ℕ) → size ≡ saturated (lens_of blocks) → 2 ^ 30 < size → table_size keys blocks ≡ 2 ^ 30 + 1
size_over keys blocks size is over = rw (lt-ltb (2 ^ 30) (lens_of blocks) (omega arith)) refl

pub size_within : (keys : IndexKeys) (blocks : List PlannedBlock) (size index : ℕ) → size ≡ saturated (lens_of blocks) → size ≤ 2 ^ 30 → saturated (length (block 1 (planned_index_entries keys 0 blocks))) ≡ index
    → table_size keys blocks ≡ min (min (size + 66 + index) (2 ^ 64 - 1)) (2 ^ 30 + 1)
size_within keys blocks size index is within index_is = rw (le-ltb (2 ^ 30) (lens_of blocks) (omega arith)) (omega arith)
