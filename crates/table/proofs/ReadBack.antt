-- The table that is written of a list is a table of that list.
use Rattle.std.proofs.Common.{◌≡◌, ◌≢◌, ℕ, ◌+◌, ◌-◌, ◌^◌, ◌<◌, ◌≤◌, List, [], ◌∷◌, ◌++◌, length, replicate, refl, sym, ap, subst, ◌∙◌, append_assoc, arith}
use Rattle.std.specs.List.{AllByRecursion}
use Rattle.std.specs.declared.cmp.Ordering.{Ordering}
use Rattle.std.specs.declared.cmp.Ordering.TheVariants.{Less, Greater}
use Rattle.std.proofs.lemmas.List.{length-append, length-replicate}
use Rattle.ikey.specs.Key.{IsInternalKey}
use Rattle.ikey.specs.Comparator.{IsBetween}
use Rattle.ikey.specs.Order.{internal_cmp}
use Rattle.ikey.proofs.Keys.{internal_key_reading-Ok}
use Rattle.block.specs.EncodedEntry.{Entry}
use Rattle.block.specs.BlockFormat.{block}
use Rattle.block.specs.BuilderView.{last_key}
use Rattle.block.proofs.Written.{block_reads_back}
use Rattle.block.proofs.Sizes.{length-block-nil}
use Rattle.table.specs.Trailer.{stored_block}
use Rattle.table.specs.Footer.{handles_bytes, footer_bytes, magic}
use Rattle.table.specs.declared.footer.Footer.{Footer}
use Rattle.table.proofs.Stored.{length-stored}
use Rattle.table.proofs.Footers.{length-handles_bytes, length-footer_bytes}
use Rattle.table.specs.declared.options.Options.{Options}
use Rattle.table.specs.DataBlocks.{data_blocks, AreDataBlocks}
use Rattle.table.specs.BuilderState.{entries_of_parts}
use Rattle.table.specs.Table.{IndexKeys, index_key, index_from, stored_blocks, metaindex, footer_at, closing_bytes, table_of_blocks}
use Rattle.table.specs.EntryTests.{first_key, HaveKeys}
use Rattle.table.specs.EntriesFrom.{EntriesRise}
use Rattle.table.specs.TableContents.{DataBlock, entries_of}
use Rattle.table.specs.TableBytes.{IsStoredAt, EndsWith, AreNamed, AreBetween, IsTable}
use Rattle.table.specs.ReadBackLaw.{IsWritable}
use Rattle.table.proofs.Indexes.{length-closing}
use Rattle.table.proofs.Cuts.{are_data_blocks}

-- what is asked of the keys of an index
pub record KeepOrder (cmp : List ℕ → List ℕ → Ordering) (keys : IndexKeys) : Type 0 where
  pub lawful_between : (a b : List ℕ) → IsInternalKey a → IsInternalKey (keys.between a b)
  pub lawful_above : (a : List ℕ) → IsInternalKey a → IsInternalKey (keys.above a)
  pub between : (a b : List ℕ) → internal_cmp cmp a b ≡ Less → IsBetween (internal_cmp cmp) a b (keys.between a b)
  pub above : (a : List ℕ) → internal_cmp cmp a (keys.above a) ≢ Greater

-- each of the parts has an entry
abbrev HaveEntries : List (List Entry) → Type 0
HaveEntries parts = AllByRecursion (λ p. p ≢ []) parts

-- the data blocks as they are read
abbrev blocks_of_parts : IndexKeys → List (List Entry) → List DataBlock
blocks_of_parts keys [] = []
blocks_of_parts keys (p ∷ ps) = record { index_key = index_key keys p ps; entries = p } ∷ blocks_of_parts keys ps

-- each key of the index is an internal key
abbrev AreLawful : IndexKeys → List (List Entry) → Type 0
AreLawful keys [] = Unit {0}
AreLawful keys (p ∷ ps) = IsInternalKey (index_key keys p ps) × AreLawful keys ps

-- ---- the data blocks and their index

some_entry : (p : List Entry) → p ≢ [] → 0 < length p
some_entry [] some = absurd (some refl)
some_entry (e ∷ es) some = omega arith

-- the index of blocks that stand in bytes names them
are_named : (keys : IndexKeys) (r : ℕ) (bytes : List ℕ) (parts : List (List Entry)) (a c : List ℕ) (at : ℕ) → bytes ≡ a ++ (stored_blocks r parts ++ c) → at ≡ length a → 48 ≤ length c → length bytes ≤ 2 ^ 30 → AreLawful keys parts → HaveEntries parts
    → AreNamed bytes (index_from keys r at parts) (blocks_of_parts keys parts)
are_named keys r bytes [] a c at whole at_is room small lawful some = tt
are_named keys r bytes (p ∷ ps) a c at whole at_is room small lawful some =
    let b : List ℕ = block r p in
    let rest : List ℕ = stored_blocks r ps in
    let here : bytes ≡ a ++ (stored_block b ++ (rest ++ c)) = whole ∙ ap (λ (x : List ℕ). a ++ x) (append_assoc (stored_block b) rest c) in
    let there : bytes ≡ (a ++ stored_block b) ++ (rest ++ c) = here ∙ sym (append_assoc a (stored_block b) (rest ++ c)) in
    let len : length bytes ≡ length a + (length b + 5) + length rest + length c = omega (arith, ap length here, length-append a (stored_block b ++ (rest ++ c)), length-append (stored_block b) (rest ++ c), length-append rest c, length-stored b) in (
      record {
        handle = record { offset = at; size = length b };
        key = refl;
        is_key = internal_key_reading-Ok (index_key keys p ps) lawful.0;
        value = refl;
        block = record {
          before = a;
          contents = b;
          behind = rest ++ c;
          whole = here;
          offset = sym at_is;
          size = refl;
          footer = omega (arith, length-append rest c);
          block = block_reads_back r p (omega arith);
        };
        some = some_entry p some.0;
      },
      are_named keys r bytes ps (a ++ stored_block b) c (at + length b + 5) there (omega (arith, length-append a (stored_block b), length-stored b)) room small lawful.1 some.1,
    )

-- ---- the index keys lie between the blocks

-- of keys that rise, the first of a part is above the last of the part before it
rising_across : (cmp : List ℕ → List ℕ → Ordering) (p n rest : List Entry) → p ≢ [] → n ≢ [] → EntriesRise cmp (p ++ (n ++ rest)) → internal_cmp cmp (last_key [] p) (first_key n) ≡ Less
rising_across cmp [] n rest some next h = absurd (some refl)
rising_across cmp (e ∷ []) [] rest some next h = absurd (next refl)
rising_across cmp (e ∷ []) (x ∷ xs) rest some next h = h.0.0
rising_across cmp (e ∷ f ∷ es) n rest some next h =
    rising_across cmp (f ∷ es) n rest (λ no. absurd (cc)) next h.1

rising_behind : (cmp : List ℕ → List ℕ → Ordering) (p rest : List Entry) → EntriesRise cmp (p ++ rest) → EntriesRise cmp rest
rising_behind cmp [] rest h = h
rising_behind cmp (e ∷ es) rest h = rising_behind cmp es rest h.1

are_between : (cmp : List ℕ → List ℕ → Ordering) (keys : IndexKeys) (parts : List (List Entry)) → KeepOrder cmp keys → HaveEntries parts → EntriesRise cmp (entries_of_parts parts) → AreBetween cmp (blocks_of_parts keys parts)
are_between cmp keys [] laws some h = tt
are_between cmp keys (p ∷ []) laws some h = (laws.above (last_key [] p), tt, tt)
are_between cmp keys (p ∷ n ∷ ps) laws some h =
    let order = rising_across cmp p n (entries_of_parts ps) some.0 some.1.0 h in
    let lies = laws.between (last_key [] p) (first_key n) order in
    (lies.at_least, lies.below, are_between cmp keys (n ∷ ps) laws some.1 (rising_behind cmp p (entries_of_parts (n ∷ ps)) h))

-- ---- the keys of the index are internal keys

pub all_split : (P : Entry → Type 0) (es fs : List Entry) → AllByRecursion P (es ++ fs) → AllByRecursion P es × AllByRecursion P fs
all_split P [] fs h = (tt, h)
all_split P (e ∷ es) fs h = let rest = all_split P es fs h.1 in ((h.0, rest.0), rest.1)

last_of : (key : List ℕ) (es : List Entry) → IsInternalKey key → AllByRecursion (λ e. IsInternalKey e.key) es → IsInternalKey (last_key key es)
last_of key [] k h = k
last_of key (e ∷ es) k h = last_of e.key es h.0 h.1

last_lawful : (p : List Entry) → p ≢ [] → AllByRecursion (λ e. IsInternalKey e.key) p → IsInternalKey (last_key [] p)
last_lawful [] some h = absurd (some refl)
last_lawful (e ∷ es) some h = last_of e.key es h.0 h.1

key_lawful : (cmp : List ℕ → List ℕ → Ordering) (keys : IndexKeys) (p : List Entry) (ps : List (List Entry)) → KeepOrder cmp keys → IsInternalKey (last_key [] p) → IsInternalKey (index_key keys p ps)
key_lawful cmp keys p [] laws h = laws.lawful_above (last_key [] p) h
key_lawful cmp keys p (n ∷ ns) laws h = laws.lawful_between (last_key [] p) (first_key n) h

keys_lawful : (cmp : List ℕ → List ℕ → Ordering) (keys : IndexKeys) (parts : List (List Entry)) → KeepOrder cmp keys → HaveEntries parts → AllByRecursion (λ e. IsInternalKey e.key) (entries_of_parts parts) → AreLawful keys parts
keys_lawful cmp keys [] laws some h = tt
keys_lawful cmp keys (p ∷ ps) laws some h =
    let s = all_split (λ e. IsInternalKey e.key) p (entries_of_parts ps) h in
    (key_lawful cmp keys p ps laws (last_lawful p some.0 s.0), keys_lawful cmp keys ps laws some.1 s.1)

keys_read : (q : List Entry) → AllByRecursion (λ e. IsInternalKey e.key) q → HaveKeys q
keys_read [] h = tt
keys_read (e ∷ es) h = (internal_key_reading-Ok e.key h.0, keys_read es h.1)

-- ---- the parts

parts_joined : (o : Options) (q : List Entry) (parts : List (List Entry)) → AreDataBlocks o q parts → (entries_of_parts parts ≡ q) × HaveEntries parts
parts_joined o q [] h = (sym h, tt)
parts_joined o q (p ∷ ps) h =
    let rest = parts_joined o h.0 ps h.3 in
    (ap (λ (x : List Entry). p ++ x) rest.0 ∙ sym h.1, (h.2.some, rest.1))

entries_again : (keys : IndexKeys) (parts : List (List Entry)) → entries_of (blocks_of_parts keys parts) ≡ entries_of_parts parts
entries_again keys [] = refl
entries_again keys (p ∷ ps) = ap (λ (x : List Entry). p ++ x) (entries_again keys ps)

some_blocks : (keys : IndexKeys) (parts : List (List Entry)) → entries_of_parts parts ≢ [] → 0 < length (blocks_of_parts keys parts)
some_blocks keys [] some = absurd (some refl)
some_blocks keys (p ∷ ps) some = omega arith

-- ---- the end

ends_with : (bytes before : List ℕ) (f : Footer) → bytes ≡ before ++ footer_bytes f → EndsWith bytes f
unfolding footer_bytes
ends_with bytes before f whole =
    let zeros : List ℕ = replicate (40 - length (handles_bytes f)) 0 in
    record {
      before = before;
      padding = zeros;
      whole = whole ∙ ap (λ (x : List ℕ). before ++ x) (sym (append_assoc (handles_bytes f) zeros magic));
      len = omega (arith, length-append (handles_bytes f) zeros, length-replicate {A = ℕ} (40 - length (handles_bytes f)) 0, length-handles_bytes f);
    }

-- what stands after the data blocks
record Closed (bytes stored_bytes : List ℕ) (index : List Entry) (f : Footer) : Type 0 where
  ends : EndsWith bytes f
  metaindex_block : IsStoredAt bytes f.metaindex []
  index_block : IsStoredAt bytes f.index index

is_closed : (bytes front : List ℕ) (index : List Entry) → bytes ≡ front ++ closing_bytes (length front) index → length bytes ≤ 2 ^ 30 → Closed bytes front index (footer_at (length front) (length (block 1 index)))
unfolding closing_bytes
is_closed bytes front index whole small =
    let m : List ℕ = stored_block metaindex in
    let b : List ℕ = block 1 index in
    let f : Footer = footer_at (length front) (length b) in
    let last : List ℕ = footer_bytes f in
    let none : length metaindex ≡ 8 = length-block-nil 1 in
    let footer_len : length last ≡ 48 = length-footer_bytes f in
    let len : length bytes ≡ length front + (length metaindex + 5) + (length b + 5) + 48 =
    omega (arith, ap length whole, length-append front (m ++ (stored_block b ++ last)), length-append m (stored_block b ++ last), length-append (stored_block b) last, length-stored metaindex, length-stored b) in
    let before : bytes ≡ (front ++ m) ++ (stored_block b ++ last) = whole ∙ sym (append_assoc front m (stored_block b ++ last)) in
    let all : bytes ≡ ((front ++ m) ++ stored_block b) ++ last = before ∙ sym (append_assoc (front ++ m) (stored_block b) last) in
    record {
      ends = ends_with bytes ((front ++ m) ++ stored_block b) f all;
      metaindex_block = record {
        before = front;
        contents = metaindex;
        behind = stored_block b ++ last;
        whole = whole;
        offset = refl;
        size = refl;
        footer = omega (arith, length-append (stored_block b) last);
        block = block_reads_back 1 [] (omega arith);
      };
      index_block = record {
        before = front ++ m;
        contents = b;
        behind = last;
        whole = before;
        offset = omega (arith, length-append front m, length-stored metaindex);
        size = refl;
        footer = omega arith;
        block = block_reads_back 1 index (omega arith);
      };
    }

-- ---- the whole

pub is_table : (cmp : List ℕ → List ℕ → Ordering) (keys : IndexKeys) (o : Options) (q : List Entry) (bytes : List ℕ) → KeepOrder cmp keys → IsWritable cmp q → bytes ≡ table_of_blocks keys o.restart_interval (data_blocks o q) → length bytes ≤ 2 ^ 30 → IsTable cmp bytes q
is_table cmp keys o q bytes laws w whole small =
    let r : ℕ = o.restart_interval in
    let parts : List (List Entry) = data_blocks o q in
    let front : List ℕ = stored_blocks r parts in
    let index : List Entry = index_from keys r 0 parts in
    let cut = parts_joined o q parts (are_data_blocks o q) in
    let lawful = keys_lawful cmp keys parts laws cut.1 (subst (AllByRecursion (λ e. IsInternalKey e.key)) (sym cut.0) w.keys) in
    let end = is_closed bytes front index whole small in
    record {
      footer = footer_at (length front) (length (block 1 index));
      ignored = [];
      index = index;
      blocks = blocks_of_parts keys parts;
      small = small;
      ends = end.ends;
      metaindex_block = end.metaindex_block;
      index_block = end.index_block;
      named = are_named keys r bytes parts [] (closing_bytes (length front) index) 0 whole refl (omega (arith, length-closing (length front) index)) small lawful cut.1;
      some = some_blocks keys parts (λ none. w.some (sym cut.0 ∙ none));
      between = are_between cmp keys parts laws cut.1 (subst (EntriesRise cmp) (sym cut.0) w.rising);
      whole = entries_again keys parts ∙ cut.0;
      keys = keys_read q w.keys;
      values = w.values;
      rising = w.rising;
    }
