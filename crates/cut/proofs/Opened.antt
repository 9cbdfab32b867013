-- What is kept of an output that takes the next entry.
use Rattle.std.proofs.Common.{◌≡◌, ℕ, zero, suc, ◌+◌, ◌-◌, ◌^◌, ◌<◌, ◌≤◌, Bool, true, false, List, [], ◌∷◌, ◌++◌, length, take, drop, min, refl, sym, ap, subst, ◌∙◌, append_assoc, append-nil, inl, inr, arith}
use Rattle.std.specs.Prelude.{Option, Some, None, slice_get, nat_le, not, ◌&&◌}
use Rattle.std.specs.List.{AllByRecursion, last_or, sum_by}
use Rattle.std.specs.Option.{option_map}
use Rattle.std.specs.Str.{bytes_eq}
use Rattle.std.proofs.lemmas.Bool.{false≢true, cases_lt, le-leb, lt-leb}
use Rattle.std.proofs.lemmas.List.{length-append}
use Rattle.std.proofs.lemmas.List.Concat.{flat_map-append}
use Rattle.std.proofs.lemmas.List.Sums.{sum_by-append, sum_by-cons}
use Rattle.coding.specs.Saturated.{saturated}
use Rattle.ikey.specs.Key.{user_of}
use Rattle.block.specs.EncodedEntry.{Entry}
use Rattle.block.specs.BlockFormat.{block}
use Rattle.block.specs.BuilderView.{last_key}
use Rattle.table.specs.Trailer.{stored_block}
use Rattle.table.proofs.Stored.{length-stored}
use Rattle.table.specs.declared.options.Options.{Options}
use Rattle.table.specs.DataBlocks.{is_full, open_block, blocks_after, data_blocks, flushed, flushed_len}
use Rattle.table.specs.Table.{stored_blocks}
use Rattle.cut.specs.declared.planned_block.PlannedBlock.{PlannedBlock}
use Rattle.keep.specs.MergedLists.{entries_of_lists}
use Rattle.cut.specs.BlockInProgress.{BlockInProgress, block_after_entries, last_entry_key}
use Rattle.cut.specs.Outputs.{ends_before, outputs_after}
use Rattle.cut.specs.PlannedBlocks.{block_lists}
use Rattle.cut.specs.OutputInProgress.{entries_in_blocks, stored_len, HasLen, IsFlushed, ends_by, IsOpen}
use Rattle.cut.proofs.Grouped.{all_more}
use Rattle.cut.proofs.Metered.{ended_is}
use Rattle.cut.proofs.MeteredLengths.{lengths_law}

-- ---- the last key

-- ---- lists

pub parts_push : (blocks : List PlannedBlock) (b : PlannedBlock) → block_lists (blocks ++ b ∷ []) ≡ block_lists blocks ++ b.entries.entries ∷ []
parts_push [] b = refl
parts_push (x ∷ xs) b = ap (λ (ps : List (List Entry)). x.entries.entries ∷ ps) (parts_push xs b)

pub entries_push : (blocks : List PlannedBlock) (b : PlannedBlock) → entries_in_blocks (blocks ++ b ∷ []) ≡ entries_in_blocks blocks ++ b.entries.entries
entries_push blocks b =
    ap entries_of_lists (parts_push blocks b)
    ∙ flat_map-append (λ (q : List Entry). q) (block_lists blocks) (b.entries.entries ∷ [])
    ∙ ap (λ (q : List Entry). entries_in_blocks blocks ++ q) (append-nil b.entries.entries)

-- the last key of some entries is that of those after others
last_behind : (a b : Option Entry) (p : List Entry) (x : Entry) (xs : List Entry) → last_or a (p ++ x ∷ xs) ≡ last_or b (x ∷ xs)
last_behind a b [] x xs = refl
last_behind a b (y ∷ ys) x xs = last_behind (Some y) b ys x xs

pub ended_behind : (p q : List Entry) → (q ≡ [] → ⊥) → last_entry_key (p ++ q) ≡ last_entry_key q
ended_behind p [] some = absurd (some refl)
ended_behind p (x ∷ xs) some = ap (option_map (λ (e : Entry). e.key)) (last_behind None None p x xs)

-- entries that take in one more are some
pub some_taken : (n : ℕ) (q es : List Entry) → 0 < n → n ≤ length es → q ++ take n es ≡ [] → ⊥
some_taken zero q es some within none = absurd (omega arith)
some_taken (suc n) q [] some within none = absurd (omega arith)
some_taken (suc n) q (e ∷ es) some within none = omega (arith, ap length none, length-append q (e ∷ take n es))

module _ (o : Options) where
  -- ---- data blocks

  -- a full block ends, whatever comes after it
  flush : (p rest : List Entry) → is_full o p ≡ true → blocks_after o p rest ≡ p ∷ blocks_after o [] rest
  flush [] rest full = absurd (false≢true full)
  flush (x ∷ xs) [] full = refl
  flush (x ∷ xs) (e ∷ es) full = rw full refl

  grow : (p : List Entry) (e : Entry) (rest : List Entry) → is_full o p ≡ false → blocks_after o p (e ∷ rest) ≡ blocks_after o (p ++ e ∷ []) rest
  grow p e rest part = rw part refl

  -- the entries of blocks and the open one, with one entry more
  more : (blocks : List PlannedBlock) (q : List Entry) (e : Entry) (rest : List Entry) → (entries_in_blocks blocks ++ (q ++ e ∷ [])) ++ rest ≡ (entries_in_blocks blocks ++ q) ++ e ∷ rest
  more blocks q e rest =
      ap (λ (es : List Entry). es ++ rest) (sym (append_assoc (entries_in_blocks blocks) q (e ∷ []))) ∙ append_assoc (entries_in_blocks blocks ++ q) (e ∷ []) rest

  one_more : (blocks : List PlannedBlock) (q : List Entry) (e : Entry) → is_full o q ≡ false → ((rest : List Entry) → blocks_after o [] ((entries_in_blocks blocks ++ q) ++ rest) ≡ block_lists blocks ++ blocks_after o q rest) → (rest : List Entry)
      → blocks_after o [] ((entries_in_blocks blocks ++ (q ++ e ∷ [])) ++ rest) ≡ block_lists blocks ++ blocks_after o (q ++ e ∷ []) rest
  one_more blocks q e part cuts rest =
      ap (blocks_after o []) (more blocks q e rest) ∙ cuts (e ∷ rest) ∙ ap (λ (ps : List (List Entry)). block_lists blocks ++ ps) (grow q e rest part)

  -- the data blocks begin with these, however many entries come after the open ones
  abbrev Cut_by : List PlannedBlock → List Entry → Type 0
  Cut_by blocks q = (rest : List Entry) → blocks_after o [] ((entries_in_blocks blocks ++ q) ++ rest) ≡ block_lists blocks ++ blocks_after o q rest

  -- the same with n entries more, if the open block is full before none of them
  more_by : (blocks : List PlannedBlock) (n : ℕ) (q es : List Entry) → ((m : ℕ) → m < n → is_full o (q ++ take m es) ≡ false) → Cut_by blocks q → Cut_by blocks (q ++ take n es)
  more_by blocks zero q es part cuts = subst (Cut_by blocks) (sym (append-nil q)) cuts
  more_by blocks (suc n) q [] part cuts = subst (Cut_by blocks) (sym (append-nil q)) cuts
  more_by blocks (suc n) q (e ∷ es) part cuts =
      let first : is_full o q ≡ false = ap (is_full o) (sym (append-nil q)) ∙ part 0 (omega arith) in
      let later : (m : ℕ) → m < n → is_full o ((q ++ e ∷ []) ++ take m es) ≡ false = λ m lt. ap (is_full o) (append_assoc q (e ∷ []) (take m es)) ∙ part (suc m) (omega (arith, lt)) in
      subst (Cut_by blocks) (append_assoc q (e ∷ []) (take n es)) (more_by blocks n (q ++ e ∷ []) es later (one_more blocks q e first cuts))

  -- ---- no entry

  -- ---- entries more

  -- before the first of them the open block is not full either
  pub parts_by : (before : BlockInProgress) (n : ℕ) → is_full o before.entries ≡ false → ((m : ℕ) → 0 < m → m < n → is_full o (block_after_entries m before).entries ≡ false) → (m : ℕ) → m < n → is_full o (block_after_entries m before).entries ≡ false
  parts_by before n first part zero lt = ap (is_full o) (append-nil before.entries) ∙ first
  parts_by before n first part (suc m) lt = part (suc m) (omega arith) lt

  pub open_grown : (blocks : List PlannedBlock) (size : ℕ) (last key : Option (List ℕ)) (before after : BlockInProgress) (n : ℕ) → IsOpen o blocks size last before → after ≡ block_after_entries n before
      → ((m : ℕ) → m < n → is_full o (block_after_entries m before).entries ≡ false) → is_full o after.entries ≡ false → key ≡ last_entry_key (entries_in_blocks blocks ++ after.entries) → IsOpen o blocks size key after
  open_grown blocks size last key before after n h is parts part key_is =
      record {
        limits = h.limits;
        interval = ap (λ (m : BlockInProgress). m.interval) is ∙ h.interval;
        part = part;
        full = h.full;
        lens = h.lens;
        cuts = subst (Cut_by blocks) (sym (ap (λ (m : BlockInProgress). m.entries) is)) (more_by blocks n before.entries before.behind parts h.cuts);
        flushed_is = h.flushed_is;
        last_is = key_is;
      }

  -- both sums stop at the largest number
  sum_saturated : (whole before len : ℕ) → whole ≡ before + (len + 5) → min (min (saturated before + saturated len) (2 ^ 64 - 1) + 5) (2 ^ 64 - 1) ≡ saturated whole
  sum_saturated whole before len is = omega arith

  stored_push : (blocks : List PlannedBlock) (size : ℕ) (b : PlannedBlock) → size ≡ saturated (stored_len o.restart_interval (block_lists blocks)) → HasLen o b
      → min (min (size + b.len) (2 ^ 64 - 1) + 5) (2 ^ 64 - 1) ≡ saturated (stored_len o.restart_interval (block_lists (blocks ++ b ∷ [])))
  stored_push blocks size b size_is len_is =
      ap (λ (n : ℕ). min (min (n + b.len) (2 ^ 64 - 1) + 5) (2 ^ 64 - 1)) size_is
      ∙ ap (λ (n : ℕ). min (min (saturated (stored_len o.restart_interval (block_lists blocks)) + n) (2 ^ 64 - 1) + 5) (2 ^ 64 - 1)) len_is
      ∙ sum_saturated (stored_len o.restart_interval (block_lists (blocks ++ b ∷ []))) (stored_len o.restart_interval (block_lists blocks)) (length (block o.restart_interval b.entries.entries))
      (ap (stored_len o.restart_interval) (parts_push blocks b) ∙ lengths_law.stored o.restart_interval (block_lists blocks) b.entries.entries)

  pub open_flushed : (blocks : List PlannedBlock) (size : ℕ) (last key : Option (List ℕ)) (before full after : BlockInProgress) (n : ℕ) (b : PlannedBlock) → IsOpen o blocks size last before → full ≡ block_after_entries n before
      → ((m : ℕ) → m < n → is_full o (block_after_entries m before).entries ≡ false) → is_full o full.entries ≡ true → b.entries.entries ≡ full.entries → b.len ≡ saturated (length (block full.interval full.entries))
      → after ≡ record { interval = full.interval; entries = []; behind = full.behind } → key ≡ last_entry_key (entries_in_blocks blocks ++ full.entries)
      → IsOpen o (blocks ++ b ∷ []) (min (min (size + b.len) (2 ^ 64 - 1) + 5) (2 ^ 64 - 1)) key after
  open_flushed blocks size last key before full after n b h is parts reaches entries_are len after_is key_is =
      let q : List Entry = b.entries.entries in
      let none : after.entries ≡ [] = ap (λ (m : BlockInProgress). m.entries) after_is in
      let interval : full.interval ≡ o.restart_interval = ap (λ (m : BlockInProgress). m.interval) is ∙ h.interval in
      let has_len : HasLen o b = len ∙ ap (λ (r : ℕ). saturated (length (block r full.entries))) interval ∙ ap (λ (es : List Entry). saturated (length (block o.restart_interval es))) (sym entries_are) in
      let grew : Cut_by blocks q = subst (Cut_by blocks) (sym (entries_are ∙ ap (λ (m : BlockInProgress). m.entries) is)) (more_by blocks n before.entries before.behind parts h.cuts) in
      let entries : entries_in_blocks (blocks ++ b ∷ []) ++ after.entries ≡ entries_in_blocks blocks ++ q =
      ap (λ (xs : List Entry). entries_in_blocks (blocks ++ b ∷ []) ++ xs) none ∙ append-nil (entries_in_blocks (blocks ++ b ∷ [])) ∙ entries_push blocks b in
      let whole : is_full o q ≡ true = ap (is_full o) entries_are ∙ reaches in
      record {
        limits = h.limits;
        interval = ap (λ (m : BlockInProgress). m.interval) after_is ∙ interval;
        part = ap (is_full o) none;
        full = all_more (IsFlushed o) blocks b h.full whole;
        lens = all_more (HasLen o) blocks b h.lens has_len;
        cuts = λ rest.
            ap (λ (xs : List Entry). blocks_after o [] (xs ++ rest)) entries
            ∙ grew rest
            ∙ ap (λ (ps : List (List Entry)). block_lists blocks ++ ps) (flush q rest whole)
            ∙ sym (append_assoc (block_lists blocks) (q ∷ []) (blocks_after o [] rest))
            ∙ sym (ap (λ (ps : List (List Entry)). ps ++ blocks_after o [] rest) (parts_push blocks b))
            ∙ sym (ap (λ (xs : List Entry). block_lists (blocks ++ b ∷ []) ++ blocks_after o xs rest) none);
        flushed_is = stored_push blocks size b h.flushed_is has_len;
        last_is = key_is ∙ sym (ap last_entry_key entries ∙ ap (λ (xs : List Entry). last_entry_key (entries_in_blocks blocks ++ xs)) entries_are);
      }

  -- ---- all data blocks

  pub blocks_open : (blocks : List PlannedBlock) (size : ℕ) (last : Option (List ℕ)) (open_one : BlockInProgress) → IsOpen o blocks size last open_one → data_blocks o (entries_in_blocks blocks ++ open_one.entries) ≡ block_lists blocks ++ open_block open_one.entries
  unfolding data_blocks
  blocks_open blocks size last open_one h = ap (blocks_after o []) (sym (append-nil (entries_in_blocks blocks ++ open_one.entries))) ∙ h.cuts []

  some_block : (q : List Entry) → (q ≡ [] → ⊥) → open_block q ≡ q ∷ []
  some_block [] some = absurd (some refl)
  some_block (e ∷ es) some = refl

  pub blocks_some : (blocks : List PlannedBlock) (size : ℕ) (last : Option (List ℕ)) (open_one : BlockInProgress) (b : PlannedBlock) → IsOpen o blocks size last open_one → (open_one.entries ≡ [] → ⊥) → b.entries.entries ≡ open_one.entries
      → block_lists (blocks ++ b ∷ []) ≡ data_blocks o (entries_in_blocks blocks ++ open_one.entries)
  blocks_some blocks size last open_one b h some is =
      parts_push blocks b
      ∙ ap (λ (q : List Entry). block_lists blocks ++ q ∷ []) is
      ∙ sym (blocks_open blocks size last open_one h ∙ ap (λ (ps : List (List Entry)). block_lists blocks ++ ps) (some_block open_one.entries some))

  pub blocks_none : (blocks : List PlannedBlock) (size : ℕ) (last : Option (List ℕ)) (open_one : BlockInProgress) → IsOpen o blocks size last open_one → open_one.entries ≡ [] → block_lists blocks ≡ data_blocks o (entries_in_blocks blocks ++ open_one.entries)
  blocks_none blocks size last open_one h none =
      sym (blocks_open blocks size last open_one h ∙ ap (λ (q : List Entry). block_lists blocks ++ open_block q) none ∙ append-nil (block_lists blocks))

  -- ---- the flushed size

  stored_sum : (blocks : List PlannedBlock) → AllByRecursion (IsFlushed o) blocks → stored_len o.restart_interval (block_lists blocks) ≡ sum_by (flushed_len o) (block_lists blocks)
  stored_sum [] full = refl
  stored_sum (b ∷ bs) full =
      let p : List Entry = b.entries.entries in
      let one : flushed_len o p ≡ length (block o.restart_interval p) + 5 = rw full.0 refl in
      length-append (stored_block (block o.restart_interval p)) (stored_blocks o.restart_interval (block_lists bs))
      ∙ ap (λ (n : ℕ). n + stored_len o.restart_interval (block_lists bs)) (length-stored (block o.restart_interval p) ∙ sym one)
      ∙ ap (λ (n : ℕ). flushed_len o p + n) (stored_sum bs full.1)
      ∙ sym (sum_by-cons (flushed_len o) p (block_lists bs))

  open_sum : (q : List Entry) → is_full o q ≡ false → sum_by (flushed_len o) (open_block q) ≡ 0
  open_sum [] part = refl
  open_sum (e ∷ es) part = sum_by-cons (flushed_len o) (e ∷ es) [] ∙ rw part refl

  flushed_open : (blocks : List PlannedBlock) (size : ℕ) (last : Option (List ℕ)) (open_one : BlockInProgress) → IsOpen o blocks size last open_one → flushed o (entries_in_blocks blocks ++ open_one.entries) ≡ stored_len o.restart_interval (block_lists blocks)
  unfolding flushed
  flushed_open blocks size last open_one h =
      ap (sum_by (flushed_len o)) (blocks_open blocks size last open_one h)
      ∙ sum_by-append (flushed_len o) (block_lists blocks) (open_block open_one.entries)
      ∙ omega (arith, open_sum open_one.entries h.part, stored_sum blocks h.full)

  -- ---- where the output ends

  -- a limit of at most 2 ^ 30 is reached by a length exactly if the saturated length reaches it
  reached : (limit n : ℕ) → limit ≤ 2 ^ 30 → nat_le limit (saturated n) ≡ nat_le limit n
  reached limit n le =
      elim (cases_lt n limit) [
        | inl below ↦ lt-leb limit (saturated n) (omega arith) ∙ sym (lt-leb limit n below)
        | inr above ↦ le-leb limit (saturated n) (omega arith) ∙ sym (le-leb limit n above)
      ]

  ends_some : (x : Entry) (xs : List Entry) (n : ℕ) (last : List ℕ) (e : Entry) → o.file_size ≤ 2 ^ 30 → n ≡ saturated (flushed o (x ∷ xs)) → Some last ≡ last_entry_key (x ∷ xs)
      → ends_before o (x ∷ xs) e ≡ (nat_le o.file_size n && not (bytes_eq (user_of last) (user_of e.key)))
  ends_some x xs n last e le n_is last_is =
      let key : last ≡ last_key x.key xs = (let both : Some last ≡ Some (last_key x.key xs) = last_is ∙ ended_is x xs in cc) in
      let size : nat_le o.file_size (flushed o (x ∷ xs)) ≡ nat_le o.file_size n = sym (ap (nat_le o.file_size) n_is ∙ reached o.file_size (flushed o (x ∷ xs)) le) in
      ap (λ (b : Bool). b && not (bytes_eq (user_of (last_key x.key xs)) (user_of e.key))) size ∙ ap (λ (k : List ℕ). nat_le o.file_size n && not (bytes_eq (user_of k) (user_of e.key))) (sym key)

  ends_none : (q : List Entry) (e : Entry) → None ≡ last_entry_key q → ends_before o q e ≡ false
  ends_none [] e h = refl
  ends_none (x ∷ xs) e h = absurd (let no : None ≡ Some (last_key x.key xs) = h ∙ ended_is x xs in cc)

  ends_by_last : (q : List Entry) (n : ℕ) (last : List ℕ) (e : Entry) → o.file_size ≤ 2 ^ 30 → n ≡ saturated (flushed o q) → Some last ≡ last_entry_key q
      → ends_before o q e ≡ (nat_le o.file_size n && not (bytes_eq (user_of last) (user_of e.key)))
  ends_by_last [] n last e le n_is last_is = absurd (let no : Some last ≡ None = last_is in cc)
  ends_by_last (x ∷ xs) n last e le n_is last_is = ends_some x xs n last e le n_is last_is

  -- whether the output of what is kept ends before the first of the entries after
  pub ends_not : (blocks : List PlannedBlock) (size : ℕ) (open_one : BlockInProgress) → IsOpen o blocks size None open_one → ends_by o (entries_in_blocks blocks ++ open_one.entries) open_one.behind ≡ false
  ends_not blocks size open_one h = by_behind open_one.behind
    where
      by_behind : (behind : List Entry) → ends_by o (entries_in_blocks blocks ++ open_one.entries) behind ≡ false
      by_behind [] = refl
      by_behind (e ∷ es) = ends_none (entries_in_blocks blocks ++ open_one.entries) e h.last_is

  pub ends_part : (blocks : List PlannedBlock) (size : ℕ) (last : List ℕ) (open_one : BlockInProgress) → IsOpen o blocks size (Some last) open_one → nat_le o.file_size size ≡ false
      → ends_by o (entries_in_blocks blocks ++ open_one.entries) open_one.behind ≡ false
  ends_part blocks size last open_one h below = by_behind open_one.behind
    where
      by_behind : (behind : List Entry) → ends_by o (entries_in_blocks blocks ++ open_one.entries) behind ≡ false
      by_behind [] = refl
      by_behind (e ∷ es) =
          ends_by_last (entries_in_blocks blocks ++ open_one.entries) size last e h.limits.file_size_le (h.flushed_is ∙ ap saturated (sym (flushed_open blocks size (Some last) open_one h))) h.last_is
          ∙ rw below refl

  pub ends_last : (blocks : List PlannedBlock) (size : ℕ) (last next : List ℕ) (open_one : BlockInProgress) → IsOpen o blocks size (Some last) open_one → 0 < length open_one.behind
      → option_map (λ (e : Entry). e.key) (slice_get open_one.behind 0) ≡ Some next
      → ends_by o (entries_in_blocks blocks ++ open_one.entries) open_one.behind ≡ (nat_le o.file_size size && not (bytes_eq (user_of last) (user_of next)))
  ends_last blocks size last next open_one h some next_is = by_behind open_one.behind some next_is
    where
      by_behind : (behind : List Entry) → 0 < length behind → option_map (λ (e : Entry). e.key) (slice_get behind 0) ≡ Some next
          → ends_by o (entries_in_blocks blocks ++ open_one.entries) behind ≡ (nat_le o.file_size size && not (bytes_eq (user_of last) (user_of next)))
      by_behind [] some next_is = absurd (omega arith)
      by_behind (e ∷ es) some next_is =
          let key : e.key ≡ next = cc in
          ends_by_last (entries_in_blocks blocks ++ open_one.entries) size last e h.limits.file_size_le (h.flushed_is ∙ ap saturated (sym (flushed_open blocks size (Some last) open_one h))) h.last_is
          ∙ ap (λ (k : List ℕ). nat_le o.file_size size && not (bytes_eq (user_of last) (user_of k))) key

  -- ---- where the output goes on

  goes_by : (n : ℕ) (q es : List Entry) → ((m : ℕ) → m < n → ends_by o (q ++ take m es) (drop m es) ≡ false) → (rest : List Entry) → outputs_after o (q ++ take n es) rest ≡ outputs_after o q (take n es ++ rest)
  goes_by zero q es on rest = ap (λ (xs : List Entry). outputs_after o xs rest) (append-nil q)
  goes_by (suc n) q [] on rest = ap (λ (xs : List Entry). outputs_after o xs rest) (append-nil q)
  goes_by (suc n) q (e ∷ es) on rest =
      let first : ends_before o q e ≡ false = ap (λ (xs : List Entry). ends_before o xs e) (sym (append-nil q)) ∙ on 0 (omega arith) in
      let later : (m : ℕ) → m < n → ends_by o ((q ++ e ∷ []) ++ take m es) (drop m es) ≡ false =
      λ m lt. ap (λ (xs : List Entry). ends_by o xs (drop m es)) (append_assoc q (e ∷ []) (take m es)) ∙ on (suc m) (omega (arith, lt)) in
      let step : outputs_after o q (e ∷ (take n es ++ rest)) ≡ outputs_after o (q ++ e ∷ []) (take n es ++ rest) = rw first refl in
      ap (λ (xs : List Entry). outputs_after o xs rest) (sym (append_assoc q (e ∷ []) (take n es))) ∙ goes_by n (q ++ e ∷ []) es later rest ∙ sym step

  ends_below : (blocks : List PlannedBlock) (size : ℕ) (last : Option (List ℕ)) (open_one : BlockInProgress) → IsOpen o blocks size last open_one → nat_le o.file_size size ≡ false → ends_by o (entries_in_blocks blocks ++ open_one.entries) open_one.behind ≡ false
  ends_below blocks size None open_one h below = ends_not blocks size open_one h
  ends_below blocks size (Some last) open_one h below = ends_part blocks size last open_one h below

  -- the output goes on with all entries that are taken in, if more than one is taken in only below the maximal file size
  pub left_taken : (blocks : List PlannedBlock) (size : ℕ) (last : Option (List ℕ)) (before : BlockInProgress) (n : ℕ) → IsOpen o blocks size last before
      → ((m : ℕ) → m < n → is_full o (block_after_entries m before).entries ≡ false) → ends_by o (entries_in_blocks blocks ++ before.entries) before.behind ≡ false → (1 < n → size < o.file_size) → (rest : List Entry)
      → outputs_after o ((entries_in_blocks blocks ++ before.entries) ++ take n before.behind) rest ≡ outputs_after o (entries_in_blocks blocks ++ before.entries) (take n before.behind ++ rest)
  left_taken blocks size last before n h parts first below rest = goes_by n (entries_in_blocks blocks ++ before.entries) before.behind on rest
    where
      on : (m : ℕ) → m < n → ends_by o ((entries_in_blocks blocks ++ before.entries) ++ take m before.behind) (drop m before.behind) ≡ false
      on zero lt = ap (λ (xs : List Entry). ends_by o xs before.behind) (append-nil (entries_in_blocks blocks ++ before.entries)) ∙ first
      on (suc m) lt =
          let k : BlockInProgress = block_after_entries (suc m) before in
          let open_one : IsOpen o blocks size (last_entry_key (entries_in_blocks blocks ++ k.entries)) k =
          open_grown blocks size last (last_entry_key (entries_in_blocks blocks ++ k.entries)) before k (suc m) h refl (λ i below_m. parts i (omega (arith, below_m, lt))) (parts (suc m) lt) refl in
          ap (λ (xs : List Entry). ends_by o xs (drop (suc m) before.behind)) (append_assoc (entries_in_blocks blocks) before.entries (take (suc m) before.behind))
          ∙ ends_below blocks size (last_entry_key (entries_in_blocks blocks ++ k.entries)) k open_one (lt-leb o.file_size size (below (omega (arith, lt))))
