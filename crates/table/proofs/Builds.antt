-- What a builder of tables keeps, with one more entry.
use Rattle.std.proofs.Common.{◌≡◌, ℕ, ◌+◌, ◌^◌, ◌<◌, ◌≤◌, true, false, List, [], ◌∷◌, ◌++◌, length, map, refl, sym, ap, subst, ◌∙◌, append_assoc, arith}
use Rattle.std.specs.List.{AllByRecursion}
use Rattle.std.proofs.lemmas.List.{length-append, length_push}
use Rattle.std.proofs.lemmas.Bool.{leb-false}
use Rattle.std.proofs.lemmas.List.Sums.{sum_by-append}
use Rattle.ikey.specs.Key.{IsInternalKey}
use Rattle.block.specs.EncodedEntry.{Entry}
use Rattle.block.specs.BlockFormat.{block}
use Rattle.block.specs.BuilderView.{BlockBuilding, last_key, with_entry}
use Rattle.block.proofs.Built.{last_key-push}
use Rattle.block.proofs.Sizes.{length-block-nil, fits_with_entry}
use Rattle.table.specs.Trailer.{stored_block}
use Rattle.table.proofs.Stored.{length-stored}
use Rattle.table.specs.declared.options.Options.{Options}
use Rattle.table.specs.declared.flushed_block.FlushedBlock.{FlushedBlock}
use Rattle.table.specs.Options.{AreInLimits}
use Rattle.table.specs.DataBlocks.{is_full, blocks_after, data_blocks, flushed_len}
use Rattle.table.specs.Table.{IndexKeys, stored_blocks}
use Rattle.table.specs.EntryTests.{first_key}
use Rattle.table.specs.FlushedBlocks.{flushed_block_at, index_before}
use Rattle.table.specs.BuilderState.{entries_so_far, entries_of_parts, blocks_in, IsTableBuilder, IsAnyTableBuilder}
use Rattle.table.proofs.BlockEntries.{blocks_in-stored, sizes-index_before}
use Rattle.table.proofs.Flushes.{stored_blocks-push, entries_of_parts-push, index_before-push}

-- what is kept gives the entries back
pub entries_so_far-built : {keys : IndexKeys} {o : Options} {parts : List (List Entry)} {bytes : List ℕ} {index : List FlushedBlock} {interval : ℕ} {entries : List Entry} → IsTableBuilder keys o parts bytes index interval entries → entries_so_far bytes index entries ≡ entries_of_parts parts ++ entries
unfolding entries_so_far
entries_so_far-built {keys = keys} {o = o} {parts = parts} {bytes = bytes} {index = index} {entries = entries} h =
    let sizes = ap (map (λ (i : FlushedBlock). i.handle.size)) h.index_is ∙ sizes-index_before keys o.restart_interval 0 parts (first_key entries) in
    let blocks : blocks_in bytes (map (λ (i : FlushedBlock). i.handle.size) index) ≡ parts =
    ap (blocks_in bytes) sizes ∙ ap (λ (x : List ℕ). blocks_in x (map (λ p. length (block o.restart_interval p)) parts)) h.bytes_are ∙ blocks_in-stored o.restart_interval parts h.parts_fit in
    ap (λ (x : List (List Entry)). entries_of_parts x ++ entries) blocks

pub IsBuilt-nil : (keys : IndexKeys) (o : Options) (interval : ℕ) → AreInLimits o → interval ≡ o.restart_interval → IsTableBuilder keys o [] [] [] interval []
unfolding data_blocks
IsBuilt-nil keys o interval limits interval_is = record {
  limits = limits;
  interval_is = interval_is;
  bytes_are = refl;
  index_is = refl;
  begun = λ _. refl;
  cut = λ more. refl;
  flushed_is = refl;
  parts_fit = tt;
  entries_fit = omega (arith, length-block-nil o.restart_interval);
  last_lawful = λ some. absurd (omega arith);
}

-- ---- the next entry goes into the open block

-- the first key of blocks that is open doesn't change
index_before-grown : (keys : IndexKeys) (r : ℕ) (parts : List (List Entry)) (entries : List Entry) (e : Entry) → (length entries ≡ 0 → parts ≡ []) → index_before keys r 0 parts (first_key entries) ≡ index_before keys r 0 parts (first_key (entries ++ e ∷ []))
index_before-grown keys r parts [] e begun =
    let none : parts ≡ [] = begun refl in
    ap (λ (x : List (List Entry)). index_before keys r 0 x []) none ∙ ap (λ (x : List (List Entry)). index_before keys r 0 x e.key) (sym none)
index_before-grown keys r parts (x ∷ xs) e begun = refl

blocks_after-grown : (o : Options) (entries : List Entry) (e : Entry) (more : List Entry) → is_full o entries ≡ false → blocks_after o entries (e ∷ more) ≡ blocks_after o (entries ++ e ∷ []) more
blocks_after-grown o entries e more part = rw part refl

blocks_after-flushed : (o : Options) (entries : List Entry) (e : Entry) (more : List Entry) → is_full o entries ≡ true → blocks_after o entries (e ∷ more) ≡ entries ∷ blocks_after o (e ∷ []) more
blocks_after-flushed o entries e more full = rw full refl

pub IsBuilt-grown : {keys : IndexKeys} {o : Options} {parts : List (List Entry)} {bytes : List ℕ} {index : List FlushedBlock} {interval : ℕ} {entries : List Entry} (e : Entry) → IsTableBuilder keys o parts bytes index interval entries
    → is_full o entries ≡ false → IsInternalKey e.key → length (block o.restart_interval (entries ++ e ∷ [])) ≤ 2 ^ 31 → IsTableBuilder keys o parts bytes index interval (entries ++ e ∷ [])
IsBuilt-grown {keys = keys} {o = o} {parts = parts} {entries = entries} e h part lawful fits = record {
  limits = h.limits;
  interval_is = h.interval_is;
  bytes_are = h.bytes_are;
  index_is = h.index_is ∙ index_before-grown keys o.restart_interval parts entries e h.begun;
  begun = λ none. absurd (omega (arith, length_push entries e));
  cut = λ more.
      let grouped : (entries_of_parts parts ++ (entries ++ e ∷ [])) ++ more ≡ (entries_of_parts parts ++ entries) ++ (e ∷ more) =
      ap (λ (x : List Entry). x ++ more) (sym (append_assoc (entries_of_parts parts) entries (e ∷ []))) ∙ append_assoc (entries_of_parts parts ++ entries) (e ∷ []) more in
      ap (data_blocks o) grouped ∙ h.cut (e ∷ more) ∙ ap (λ (x : List (List Entry)). parts ++ x) (blocks_after-grown o entries e more part);
  flushed_is = h.flushed_is;
  parts_fit = h.parts_fit;
  entries_fit = fits;
  last_lawful = λ _. subst IsInternalKey (sym (last_key-push [] entries e)) lawful;
}

-- ---- the open block is flushed, and the next entry begins another

AllByRecursion-push : (P : List Entry → Type 0) (xs : List (List Entry)) (y : List Entry) → AllByRecursion P xs → P y → AllByRecursion P (xs ++ y ∷ [])
AllByRecursion-push P [] y h p = (p, tt)
AllByRecursion-push P (x ∷ xs) y h p = (h.0, AllByRecursion-push P xs y h.1 p)

flushed_len-full : (o : Options) (entries : List Entry) → is_full o entries ≡ true → flushed_len o entries ≡ length (block o.restart_interval entries) + 5
flushed_len-full o entries full = rw full refl

pub IsBuilt-flushed : {keys : IndexKeys} {o : Options} {parts : List (List Entry)} {bytes : List ℕ} {index : List FlushedBlock} {interval : ℕ} {entries : List Entry} (e : Entry) (interval' : ℕ) → IsTableBuilder keys o parts bytes index interval entries → interval' ≡ o.restart_interval
    → is_full o entries ≡ true → IsInternalKey e.key → length (block o.restart_interval (e ∷ [])) ≤ 2 ^ 31
    → IsTableBuilder keys o (parts ++ entries ∷ []) (bytes ++ stored_block (block interval entries)) (index ++ flushed_block_at (keys.between (last_key [] entries) e.key) (length bytes) (length (block interval entries)) ∷ []) interval' (e ∷ [])
IsBuilt-flushed {keys = keys} {o = o} {parts = parts} {bytes = bytes} {index = index} {interval = interval} {entries = entries} e interval' h interval_same full lawful fits =
    let r : ℕ = o.restart_interval in
    let b : List ℕ = block interval entries in
    let same : b ≡ block r entries = ap (λ (n : ℕ). block n entries) h.interval_is in
    let len : length b ≡ length (block r entries) = ap length same in
    let place : 0 + length (stored_blocks r parts) ≡ length bytes = omega (arith, ap length h.bytes_are) in
    record {
      limits = h.limits;
      interval_is = interval_same;
      bytes_are = ap (λ (x : List ℕ). x ++ stored_block b) h.bytes_are ∙ ap (λ (x : List ℕ). stored_blocks r parts ++ stored_block x) same ∙ sym (stored_blocks-push r parts entries);
      index_is =
          ap (λ (x : List FlushedBlock). x ++ flushed_block_at (keys.between (last_key [] entries) e.key) (length bytes) (length b) ∷ []) h.index_is
          ∙ ap (λ (n : ℕ). index_before keys r 0 parts (first_key entries) ++ flushed_block_at (keys.between (last_key [] entries) e.key) n (length b) ∷ []) (sym place)
          ∙ ap (λ (n : ℕ). index_before keys r 0 parts (first_key entries) ++ flushed_block_at (keys.between (last_key [] entries) e.key) (0 + length (stored_blocks r parts)) n ∷ []) len
          ∙ sym (index_before-push keys r 0 parts entries e.key);
      begun = λ none. absurd (omega arith);
      cut = λ more.
          let grouped : (entries_of_parts (parts ++ entries ∷ []) ++ e ∷ []) ++ more ≡ (entries_of_parts parts ++ entries) ++ (e ∷ more) =
          ap (λ (x : List Entry). (x ++ e ∷ []) ++ more) (entries_of_parts-push parts entries) ∙ append_assoc (entries_of_parts parts ++ entries) (e ∷ []) more in
          ap (data_blocks o) grouped
          ∙ h.cut (e ∷ more)
          ∙ ap (λ (x : List (List Entry)). parts ++ x) (blocks_after-flushed o entries e more full)
          ∙ sym (append_assoc parts (entries ∷ []) (blocks_after o (e ∷ []) more));
      flushed_is = sum_by-append (flushed_len o) parts (entries ∷ []) ∙ omega (arith, h.flushed_is, flushed_len-full o entries full, length-append bytes (stored_block b), length-stored b, len);
      parts_fit = AllByRecursion-push (λ p. length (block r p) ≤ 2 ^ 31) parts entries h.parts_fit h.entries_fit;
      entries_fit = fits;
      last_lawful = λ _. lawful;
    }

-- ---- with one more entry, however it was added

-- What is kept, and that it is of the entries before and one more.
pub record Adds (keys : IndexKeys) (o : Options) (before : List Entry) (key value : List ℕ) (o' : Options) (bytes : List ℕ) (index : List FlushedBlock) (latest : BlockBuilding) : Type 0 where
  pub kept : IsAnyTableBuilder keys o' bytes index latest
  pub options : o' ≡ o
  pub entries : entries_so_far bytes index latest.entries ≡ with_entry before key value

-- an open block has less than the block size, or no entry
open_len : (o : Options) (entries : List Entry) → AreInLimits o → is_full o entries ≡ false → length (block o.restart_interval entries) ≤ 4194304
open_len o [] limits part = omega (arith, length-block-nil o.restart_interval)
open_len o (e ∷ es) limits part = omega (arith, limits.block_size_le, leb-false o.block_size (length (block o.restart_interval (e ∷ es))) part)

-- a block with one more entry whose key and value are within their limits
next_fits : (b : BlockBuilding) (key value : List ℕ) → length (block b.interval b.entries) ≤ 4194304 → length key ≤ 65535 + 8 → length value < 2 ^ 24 → length (block b.interval (with_entry b.entries key value)) ≤ 2 ^ 31
next_fits b key value len key_fits value_fits = fits_with_entry b key value (omega arith)

-- so has one without an entry
pub first_fits : (b : BlockBuilding) (key value : List ℕ) → b.entries ≡ [] → IsInternalKey key → length value < 2 ^ 24 → length (block b.interval (with_entry b.entries key value)) ≤ 2 ^ 31
first_fits b key value none lawful value_fits =
    next_fits b key value (rw none (omega (arith, length-block-nil b.interval))) lawful.fits value_fits

pub open_fits : (keys : IndexKeys) (o : Options) (bytes : List ℕ) (index : List FlushedBlock) (latest : BlockBuilding) (key value : List ℕ) → IsAnyTableBuilder keys o bytes index latest → is_full o latest.entries ≡ false → IsInternalKey key → length value < 2 ^ 24
    → length (block latest.interval (with_entry latest.entries key value)) ≤ 2 ^ 31
open_fits keys o bytes index latest key value kept part lawful value_fits =
    let h = kept.1 in
    next_fits latest key value (subst (λ (n : ℕ). length (block n latest.entries) ≤ 4194304) (sym h.interval_is) (open_len o latest.entries h.limits part)) lawful.fits value_fits

-- the next entry goes into the open block
pub grows : (keys : IndexKeys) (o : Options) (bytes : List ℕ) (index : List FlushedBlock) (latest : BlockBuilding) (key value : List ℕ) (o' : Options) (bytes' : List ℕ) (index' : List FlushedBlock) (latest' : BlockBuilding)
    → IsAnyTableBuilder keys o bytes index latest → is_full o latest.entries ≡ false → IsInternalKey key → length value < 2 ^ 24
    → o' ≡ o → bytes' ≡ bytes → index' ≡ index → latest' ≡ record { interval = latest.interval; entries = with_entry latest.entries key value }
    → Adds keys o (entries_so_far bytes index latest.entries) key value o' bytes' index' latest'
grows keys o bytes index latest key value o' bytes' index' latest' kept part lawful value_fits o_is bytes_are index_is latest_is =
    let h = kept.1 in
    let e : Entry = record { key = key; value = value } in
    let fits = open_fits keys o bytes index latest key value kept part lawful value_fits in
    let next = IsBuilt-grown e h part lawful (subst (λ (n : ℕ). length (block n (with_entry latest.entries key value)) ≤ 2 ^ 31) h.interval_is fits) in
    rw (o_is, bytes_are, index_is, latest_is) (record {
      kept = (kept.0, next);
      options = refl;
      entries = entries_so_far-built next ∙ sym (append_assoc (entries_of_parts kept.0) latest.entries (e ∷ [])) ∙ ap (λ (x : List Entry). x ++ e ∷ []) (sym (entries_so_far-built h));
    })

-- the open block is flushed, and the next entry begins another
pub flushes : (keys : IndexKeys) (o : Options) (bytes : List ℕ) (index : List FlushedBlock) (latest : BlockBuilding) (key value : List ℕ) (o' : Options) (bytes' : List ℕ) (index' : List FlushedBlock) (latest' : BlockBuilding)
    → IsAnyTableBuilder keys o bytes index latest → is_full o latest.entries ≡ true → IsInternalKey key → length value < 2 ^ 24
    → o' ≡ o → bytes' ≡ bytes ++ stored_block (block latest.interval latest.entries) → index' ≡ index ++ flushed_block_at (keys.between (last_key [] latest.entries) key) (length bytes) (length (block latest.interval latest.entries)) ∷ []
    → latest' ≡ record { interval = o.restart_interval; entries = with_entry [] key value }
    → Adds keys o (entries_so_far bytes index latest.entries) key value o' bytes' index' latest'
flushes keys o bytes index latest key value o' bytes' index' latest' kept full lawful value_fits o_is bytes_are index_is latest_is =
    let h = kept.1 in
    let e : Entry = record { key = key; value = value } in
    let fits = first_fits (record { interval = o.restart_interval; entries = [] }) key value refl lawful value_fits in
    let next = IsBuilt-flushed e o.restart_interval h refl full lawful fits in
    rw (o_is, bytes_are, index_is, latest_is) (record {
      kept = (kept.0 ++ latest.entries ∷ [], next);
      options = refl;
      entries = entries_so_far-built next ∙ ap (λ (x : List Entry). x ++ e ∷ []) (entries_of_parts-push kept.0 latest.entries ∙ sym (entries_so_far-built h));
    })
