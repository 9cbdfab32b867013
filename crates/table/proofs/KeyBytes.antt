-- The keys of a table are lists of bytes, so they are internal keys.
use Rattle.std.proofs.Common.{ℕ, zero, suc, List, [], ◌∷◌, ◌++◌, length, take, refl, subst}
use Rattle.std.specs.List.{AllByRecursion, flat_map}
use Rattle.std.specs.declared.cmp.Ordering.{Ordering}
use Rattle.std.proofs.lemmas.List.{take_at, drop_at}
use Rattle.coding.specs.Varint.{varint}
use Rattle.coding.proofs.Bytes.{IsBytes, IsBytes-take, IsBytes-drop}
use Rattle.block.specs.EncodedEntry.{Entry, EncodedEntry, IsBlock, encoded_entry_bytes, entries_after, key_after, restart_bytes, restarts_of}
use Rattle.table.specs.Trailer.{stored_block, trailer_bytes}
use Rattle.ikey.proofs.Keys.{IsInternalKey-reading}
use Rattle.table.specs.EntryTests.{HaveKeys, HaveInternalKeys}
use Rattle.table.specs.TableBytes.{AreNamed, IsTable}
use Rattle.table.specs.TableContents.{DataBlock, entries_of}

-- ---- parts of bytes

left_bytes : (xs ys : List ℕ) → IsBytes (xs ++ ys) → IsBytes xs
left_bytes xs ys h = subst IsBytes (take_at xs ys (length xs) refl) (IsBytes-take (length xs) (xs ++ ys) h)

right_bytes : (xs ys : List ℕ) → IsBytes (xs ++ ys) → IsBytes ys
right_bytes xs ys h = subst IsBytes (drop_at xs ys (length xs) refl) (IsBytes-drop (length xs) (xs ++ ys) h)

both_bytes : (xs ys : List ℕ) → IsBytes xs → IsBytes ys → IsBytes (xs ++ ys)
both_bytes [] ys h k i = k i
both_bytes (x ∷ xs) ys h k zero = h zero
both_bytes (x ∷ xs) ys h k (suc i) = both_bytes xs ys (λ j. h (suc j)) k i

-- ---- the keys of a block

-- each key is bytes
abbrev AreBytesKeys : List Entry → Type 0
AreBytesKeys es = AllByRecursion (λ e. IsBytes e.key) es

encoded_keys : (before : List ℕ) (ps : List EncodedEntry) → IsBytes before → IsBytes (flat_map encoded_entry_bytes ps) → AreBytesKeys (entries_after before ps)
encoded_keys before [] b h = tt
encoded_keys before (p ∷ ps) b h =
    let own = left_bytes (encoded_entry_bytes p) (flat_map encoded_entry_bytes ps) h in
    let rest = p.unshared ++ p.value in
    let behind = right_bytes (varint (length p.value)) rest (right_bytes (varint (length p.unshared)) (varint (length p.value) ++ rest) (right_bytes (varint p.shared) (varint (length p.unshared) ++ (varint (length p.value) ++ rest)) own)) in
    let key = both_bytes (take p.shared before) p.unshared (IsBytes-take p.shared before b) (left_bytes p.unshared p.value behind) in
    (key, encoded_keys (key_after before p) ps key (right_bytes (encoded_entry_bytes p) (flat_map encoded_entry_bytes ps) h))

block_keys : (bytes : List ℕ) (es : List Entry) → IsBytes bytes → IsBlock bytes es → AreBytesKeys es
block_keys bytes es h (ps, of, whole, is) =
    let all : IsBytes (flat_map encoded_entry_bytes ps ++ restart_bytes (restarts_of ps)) = subst IsBytes whole h in
    subst AreBytesKeys is (encoded_keys [] ps (IsBytes-take 0 bytes h) (left_bytes (flat_map encoded_entry_bytes ps) (restart_bytes (restarts_of ps)) all))

-- ---- the keys of a table

joined_keys : (xs ys : List Entry) → AreBytesKeys xs → AreBytesKeys ys → AreBytesKeys (xs ++ ys)
joined_keys [] ys h k = k
joined_keys (x ∷ xs) ys h k = (h.0, joined_keys xs ys h.1 k)

named_keys : (bytes : List ℕ) (es : List Entry) (bs : List DataBlock) → IsBytes bytes → AreNamed bytes es bs → AreBytesKeys (entries_of bs)
named_keys bytes [] [] fits h = tt
named_keys bytes [] (b ∷ bs) fits h = absurd h
named_keys bytes (e ∷ es) [] fits h = absurd h
named_keys bytes (e ∷ es) (b ∷ bs) fits h =
    let s = h.0.block in
    let behind = right_bytes s.before (stored_block s.contents ++ s.behind) (subst IsBytes s.whole fits) in
    let contents = left_bytes s.contents (trailer_bytes s.contents) (left_bytes (stored_block s.contents) s.behind behind) in
    joined_keys b.entries (entries_of bs) (block_keys s.contents b.entries contents s.block) (named_keys bytes es bs fits h.1)

internal_keys : (es : List Entry) → AreBytesKeys es → HaveKeys es → HaveInternalKeys es
internal_keys [] h keys = tt
internal_keys (e ∷ es) h keys = (IsInternalKey-reading e.key e.key h.0 keys.0, internal_keys es h.1 keys.1)

-- the keys of a table are internal keys
pub table_keys : (cmp : List ℕ → List ℕ → Ordering) (bytes : List ℕ) (entries : List Entry) → IsBytes bytes → IsTable cmp bytes entries → HaveInternalKeys entries
table_keys cmp bytes entries fits t = internal_keys entries (subst AreBytesKeys t.whole (named_keys bytes t.index t.blocks fits t.named)) t.keys
