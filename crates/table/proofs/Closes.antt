-- The table of what a builder keeps.
use Rattle.std.proofs.Common.{◌≡◌, ℕ, ◌+◌, ◌<◌, Bool, true, false, cond, List, [], ◌∷◌, ◌++◌, length, refl, sym, ap, subst, ◌∙◌, zero-add, arith}
use Rattle.std.proofs.lemmas.List.{append-nil, map-append}
use Rattle.std.specs.List.{sum_by}
use Rattle.std.proofs.lemmas.List.Sums.{sum_by-append}
use Rattle.std.specs.Prelude.{◌↔◌}
use Rattle.std.specs.Ordering.{is_lt}
use Rattle.std.specs.declared.cmp.Ordering.{Ordering}
use Rattle.std.specs.declared.cmp.Ordering.TheVariants.{Less}
use Rattle.ikey.specs.Order.{internal_cmp}
use Rattle.ikey.proofs.Ordered.{is_lt-true}
use Rattle.block.specs.EncodedEntry.{Entry}
use Rattle.block.specs.BlockFormat.{block}
use Rattle.block.specs.BuilderView.{last_key}
use Rattle.table.specs.Trailer.{stored_block}
use Rattle.table.specs.declared.options.Options.{Options}
use Rattle.table.specs.declared.flushed_block.FlushedBlock.{FlushedBlock}
use Rattle.table.specs.DataBlocks.{is_full, open_block, data_blocks, flushed_len, flushed}
use Rattle.table.specs.Table.{IndexKeys, handle_entry, index_from, stored_blocks, closing_bytes, table_of_blocks}
use Rattle.table.specs.EntryTests.{first_key}
use Rattle.table.specs.FlushedBlocks.{flushed_block_at, index_entries, index_before}
use Rattle.table.specs.BuilderView.{IsAboveLast}
use Rattle.table.specs.BuilderState.{IsTableBuilder, entries_so_far, entries_of_parts}
use Rattle.table.proofs.Flushes.{stored_blocks-push, index_from-push}
use Rattle.table.proofs.Builds.{entries_so_far-built}

-- the data blocks of what is kept
data_blocks-built : {keys : IndexKeys} {o : Options} {parts : List (List Entry)} {bytes : List ℕ} {index : List FlushedBlock} {interval : ℕ} {entries : List Entry} → IsTableBuilder keys o parts bytes index interval entries → data_blocks o (entries_so_far bytes index entries) ≡ parts ++ open_block entries
data_blocks-built {o = o} h = ap (data_blocks o) (entries_so_far-built h ∙ sym (append-nil _)) ∙ h.cut []

-- ---- the flushed size

flushed_len-open : (o : Options) (entries : List Entry) (full : Bool) → is_full o entries ≡ full → sum_by (flushed_len o) (open_block entries) ≡ cond full (length (block o.restart_interval entries) + 5) 0
flushed_len-open o [] true e = absurd (cc)
flushed_len-open o [] false e = refl
flushed_len-open o (x ∷ xs) true e = rw e (zero-add _)
flushed_len-open o (x ∷ xs) false e = rw e refl

pub flushed-kept : (keys : IndexKeys) (o : Options) (bytes : List ℕ) (index : List FlushedBlock) (interval : ℕ) (entries : List Entry) (parts : List (List Entry)) (full : Bool) → IsTableBuilder keys o parts bytes index interval entries → is_full o entries ≡ full
    → flushed o (entries_so_far bytes index entries) ≡ length bytes + cond full (length (block interval entries) + 5) 0
unfolding flushed
flushed-kept keys o bytes index interval entries parts full h e =
    ap (sum_by (flushed_len o)) (data_blocks-built h)
    ∙ sum_by-append (flushed_len o) parts (open_block entries)
    ∙ ap (λ (n : ℕ). n + sum_by (flushed_len o) (open_block entries)) h.flushed_is
    ∙ ap (λ (n : ℕ). length bytes + n) (flushed_len-open o entries full e)
    ∙ ap (λ (n : ℕ). length bytes + cond full (length (block n entries) + 5) 0) (sym h.interval_is)

-- ---- the table

-- what is written of bytes of data blocks and their index
abbrev pub closed : List ℕ → List FlushedBlock → List ℕ
closed bytes index = bytes ++ closing_bytes (length bytes) (index_entries index)

pub closed_is : (bytes bytes' : List ℕ) (index index' : List FlushedBlock) → bytes' ≡ bytes → index' ≡ index → closed bytes' index' ≡ closed bytes index
closed_is bytes bytes' index index' bytes_are index_is = rw (bytes_are, index_is) refl

-- the last block is not empty
table-last : (keys : IndexKeys) (o : Options) (parts : List (List Entry)) (p : List Entry) (bytes : List ℕ) (entries : List Entry) → bytes ≡ stored_blocks o.restart_interval parts ++ stored_block (block o.restart_interval p)
    → entries ≡ index_entries (index_before keys o.restart_interval 0 parts (first_key p)) ++ handle_entry (keys.above (last_key [] p)) (0 + length (stored_blocks o.restart_interval parts)) (length (block o.restart_interval p)) ∷ []
    → bytes ++ closing_bytes (length bytes) entries ≡ table_of_blocks keys o.restart_interval (parts ++ p ∷ [])
table-last keys o parts p bytes entries bytes_are entries_are =
    let r : ℕ = o.restart_interval in
    let whole : bytes ≡ stored_blocks r (parts ++ p ∷ []) = bytes_are ∙ sym (stored_blocks-push r parts p) in
    let listed : entries ≡ index_from keys r 0 (parts ++ p ∷ []) = entries_are ∙ sym (index_from-push keys r 0 parts p) in
    ap (λ (x : List ℕ). x ++ closing_bytes (length x) entries) whole
    ∙ ap (λ (x : List Entry). stored_blocks r (parts ++ p ∷ []) ++ closing_bytes (length (stored_blocks r (parts ++ p ∷ []))) x) listed

open_block-some : (entries : List Entry) → 0 < length entries → open_block entries ≡ entries ∷ []
open_block-some [] some = absurd (omega arith)
open_block-some (e ∷ es) some = refl

pub closes_last : (keys : IndexKeys) (o : Options) (bytes : List ℕ) (index : List FlushedBlock) (interval : ℕ) (entries : List Entry) (parts : List (List Entry)) → IsTableBuilder keys o parts bytes index interval entries → 0 < length entries
    → closed (bytes ++ stored_block (block interval entries)) (index ++ flushed_block_at (keys.above (last_key [] entries)) (length bytes) (length (block interval entries)) ∷ []) ≡ table_of_blocks keys o.restart_interval (data_blocks o (entries_so_far bytes index entries))
closes_last keys o bytes index interval entries parts h some =
    let r : ℕ = o.restart_interval in
    let b : List ℕ = block interval entries in
    let same : b ≡ block r entries = ap (λ (n : ℕ). block n entries) h.interval_is in
    let place : length bytes ≡ 0 + length (stored_blocks r parts) = ap length h.bytes_are ∙ sym (zero-add _) in
    let written : bytes ++ stored_block b ≡ stored_blocks r parts ++ stored_block (block r entries) = ap (λ (x : List ℕ). x ++ stored_block b) h.bytes_are ∙ ap (λ (x : List ℕ). stored_blocks r parts ++ stored_block x) same in
    let listed : index_entries (index ++ flushed_block_at (keys.above (last_key [] entries)) (length bytes) (length b) ∷ []) ≡ index_entries (index_before keys r 0 parts (first_key entries)) ++ handle_entry (keys.above (last_key [] entries)) (0 + length (stored_blocks r parts)) (length (block r entries)) ∷ [] =
    map-append (λ (i : FlushedBlock). handle_entry i.key i.handle.offset i.handle.size) index (flushed_block_at (keys.above (last_key [] entries)) (length bytes) (length b) ∷ [])
    ∙ ap (λ (x : List FlushedBlock). index_entries x ++ handle_entry (keys.above (last_key [] entries)) (length bytes) (length b) ∷ []) h.index_is
    ∙ ap (λ (n : ℕ). index_entries (index_before keys r 0 parts (first_key entries)) ++ handle_entry (keys.above (last_key [] entries)) n (length b) ∷ []) place
    ∙ ap (λ (x : List ℕ). index_entries (index_before keys r 0 parts (first_key entries)) ++ handle_entry (keys.above (last_key [] entries)) (0 + length (stored_blocks r parts)) (length x) ∷ []) same in
    table-last keys o parts entries (bytes ++ stored_block b) (index_entries (index ++ flushed_block_at (keys.above (last_key [] entries)) (length bytes) (length b) ∷ [])) written listed
    ∙ ap (λ (x : List (List Entry)). table_of_blocks keys r (parts ++ x)) (sym (open_block-some entries some))
    ∙ ap (table_of_blocks keys r) (sym (data_blocks-built h))

open_block-none : (entries : List Entry) → length entries ≡ 0 → open_block entries ≡ []
open_block-none [] none = refl
open_block-none (e ∷ es) none = absurd (omega arith)

-- without entries there is no block
pub closes_none : (keys : IndexKeys) (o : Options) (bytes : List ℕ) (index : List FlushedBlock) (interval : ℕ) (entries : List Entry) (parts : List (List Entry)) → IsTableBuilder keys o parts bytes index interval entries → length entries ≡ 0
    → closed bytes index ≡ table_of_blocks keys o.restart_interval (data_blocks o (entries_so_far bytes index entries))
closes_none keys o bytes index interval entries parts h none =
    let r : ℕ = o.restart_interval in
    let nothing : parts ≡ [] = h.begun none in
    let blocks : data_blocks o (entries_so_far bytes index entries) ≡ [] = data_blocks-built h ∙ ap (λ (x : List (List Entry)). x ++ open_block entries) nothing ∙ open_block-none entries none in
    let written : bytes ≡ [] = h.bytes_are ∙ ap (stored_blocks r) nothing in
    let listed : index ≡ [] = h.index_is ∙ ap (λ (x : List (List Entry)). index_before keys r 0 x (first_key entries)) nothing in
    ap (λ (x : List ℕ). closed x index) written ∙ ap (closed []) listed ∙ ap (table_of_blocks keys r) (sym blocks)

pub some_length : (entries : List Entry) → (entries ≡ [] → false ≡ true) → 0 < length entries
some_length [] some = absurd (let no : false ≡ true = some refl in cc)
some_length (e ∷ es) some = omega arith

-- ---- the last key

-- what a comparison with the last key tells
pub less_by_test : (told : Bool) (o p : Ordering) → told ≡ is_lt o → o ≡ p → (told ≡ true) ↔ (p ≡ Less)
less_by_test told o p told_is same = (λ t. is_lt-true p (ap is_lt (sym same) ∙ sym told_is ∙ t), λ less. told_is ∙ ap is_lt (same ∙ less))

last_key-append : (before : List ℕ) (q : List Entry) (e : Entry) (es : List Entry) → last_key before (q ++ e ∷ es) ≡ last_key e.key es
last_key-append before [] e es = refl
last_key-append before (x ∷ xs) e es = last_key-append x.key xs e es

above_by : (cmp : List ℕ → List ℕ → Ordering) (q : List Entry) (e : Entry) (es : List Entry) (key : List ℕ) → IsAboveLast cmp (q ++ e ∷ es) key ↔ (internal_cmp cmp (last_key e.key es) key ≡ Less)
above_by cmp [] e es key = (λ h. h, λ h. h)
above_by cmp (x ∷ xs) e es key =
    let same = last_key-append x.key xs e es in
    (λ h. subst (λ (k : List ℕ). internal_cmp cmp k key ≡ Less) same h, λ h. subst (λ (k : List ℕ). internal_cmp cmp k key ≡ Less) (sym same) h)

above_some : (cmp : List ℕ → List ℕ → Ordering) (q entries : List Entry) (key : List ℕ) → 0 < length entries → IsAboveLast cmp (q ++ entries) key ↔ (internal_cmp cmp (last_key [] entries) key ≡ Less)
above_some cmp q [] key some = absurd (omega arith)
above_some cmp q (e ∷ es) key some = above_by cmp q e es key

-- a key is above the last of what is kept exactly if it is above the last key of the open block
pub above_kept : (cmp : List ℕ → List ℕ → Ordering) (keys : IndexKeys) (o : Options) (bytes : List ℕ) (index : List FlushedBlock) (interval : ℕ) (entries : List Entry) (key : List ℕ) (parts : List (List Entry)) → IsTableBuilder keys o parts bytes index interval entries → 0 < length entries
    → IsAboveLast cmp (entries_so_far bytes index entries) key ↔ (internal_cmp cmp (last_key [] entries) key ≡ Less)
above_kept cmp keys o bytes index interval entries key parts h some =
    rw (entries_so_far-built h) (above_some cmp (entries_of_parts parts) entries key some)

none_joined : (parts : List (List Entry)) (entries : List Entry) → parts ≡ [] → length entries ≡ 0 → entries_of_parts parts ++ entries ≡ []
none_joined parts [] nothing none = ap (λ (x : List (List Entry)). entries_of_parts x ++ []) nothing
none_joined parts (e ∷ es) nothing none = absurd (omega arith)

-- and each key is above none
pub above_none : (cmp : List ℕ → List ℕ → Ordering) (keys : IndexKeys) (o : Options) (bytes : List ℕ) (index : List FlushedBlock) (interval : ℕ) (entries : List Entry) (key : List ℕ) (parts : List (List Entry)) → IsTableBuilder keys o parts bytes index interval entries → length entries ≡ 0
    → IsAboveLast cmp (entries_so_far bytes index entries) key
above_none cmp keys o bytes index interval entries key parts h none =
    rw (entries_so_far-built h ∙ none_joined parts entries (h.begun none) none) tt
