-- Stored blocks and a footer in a table's bytes, as places and as readings.
use Rattle.std.proofs.Common.{◌≡◌, ℕ, ◌+◌, ◌-◌, ◌^◌, ◌<◌, ◌≤◌, Bool, true, false, not, cond, nat_le, nat_eq, List, [], ◌++◌, length, take, drop, Option, Some, None, Result, Ok, Err, refl, sym, ap, subst, ◌∙◌, arith, append_assoc}
use Rattle.std.specs.List.{starts_with}
use Rattle.std.proofs.lemmas.Bool.{leb-true, le-leb}
use Rattle.std.proofs.lemmas.List.{append-nil, length-append, length-drop, length-take-le, take_at, drop_at, take-append-drop, nil_from_length}
use Rattle.std.proofs.lemmas.Option.{same_Some}
use Rattle.std.proofs.lemmas.Slice.Eq.{bytes_eq-Decides}
use Rattle.std.specs.Option.{ok_or}
use Rattle.coding.specs.Answers.{and_then, fault, ◌>>=◌}
use Rattle.coding.specs.declared.fault.Fault.{Fault}
use Rattle.coding.specs.declared.fault.FaultName.TheVariants.{Magic, Handle, Range}
use Rattle.coding.proofs.Binds.{done, bind_ok, ok_is}
use Rattle.block.specs.EncodedEntry.{Entry}
use Rattle.coding.proofs.Bytes.{IsBytes-take, IsBytes-drop}
use Rattle.table.specs.declared.handle.BlockHandle.{BlockHandle}
use Rattle.table.specs.declared.footer.Footer.{Footer}
use Rattle.table.specs.Handle.{handle_bytes, handle_reading, HandleBehind}
use Rattle.table.specs.Trailer.{stored_block, stored_reading}
use Rattle.table.specs.Footer.{handles_bytes, magic, handles_reading, footer_reading}
use Rattle.table.proofs.Handles.{handle_reading-spelled, reads_handle}
use Rattle.table.proofs.Stored.{length-stored, stored_again, only_stored}
use Rattle.table.proofs.Footers.{read_by, footer_reading-by}
use Rattle.block.specs.BlockReading.{block_reading}
use Rattle.table.specs.IndexReading.{stored_at, block_in}
use Rattle.table.specs.TableBytes.{IsStoredAt, EndsWith, AreBytes}
use Rattle.block.proofs.BlockReadings.{reads_blocks}
use Rattle.block.proofs.Pieces.{and_then_some}

-- a step that did not fail
pub bind_is : {A B : Type 0} (r : Result A Fault) (x : A) (f : A → Result B Fault) (y : Result B Fault) → r ≡ Ok x → f x ≡ y → (r >>= f) ≡ y
bind_is {A} r x f y e h = ap (λ (s : Result A Fault). s >>= f) e ∙ h

guard : {A : Type 0} (b : Bool) (x y : A) (d : Fault) → cond b (done x) (Err d) ≡ Ok y → (b ≡ true) × (x ≡ y)
guard true x y d h = (refl, ok_is x y h)
guard false x y d h = absurd cc

-- ---- a stored block

-- the bytes of a block that stands at a handle
pub record ReadAt (bytes : List ℕ) (handle : BlockHandle) (q : List Entry) : Type 0 where
  pub bytes_there : List ℕ
  pub at : stored_at bytes handle ≡ Ok bytes_there
  pub entries : block_in bytes_there ≡ Ok q

pub stands_read : (bytes : List ℕ) (handle : BlockHandle) (q : List Entry) → IsStoredAt bytes handle q → ReadAt bytes handle q
stands_read bytes handle q s =
    let there : List ℕ = stored_block s.contents in
    let long : length there ≡ length s.contents + 5 = length-stored s.contents in
    let len : length bytes ≡ length s.before + (length there + length s.behind) = omega (arith, ap length s.whole, length-append s.before (there ++ s.behind), length-append there s.behind) in
    let test : nat_le (handle.offset + handle.size + 5 + 48) (length bytes) ≡ true = le-leb (handle.offset + handle.size + 5 + 48) (length bytes) (omega (arith, long, len, s.offset, s.size, s.footer)) in
    let dropped : drop handle.offset bytes ≡ there ++ s.behind = ap (drop handle.offset) s.whole ∙ drop_at s.before (there ++ s.behind) handle.offset s.offset in
    let taken : take (handle.size + 5) (drop handle.offset bytes) ≡ there = ap (take (handle.size + 5)) dropped ∙ take_at there s.behind (handle.size + 5) (omega (arith, long, s.size)) in
    record {
      bytes_there = there;
      at = ap (λ (b : Bool). cond b (done (take (handle.size + 5) (drop handle.offset bytes))) (Err (fault Range))) test ∙ ap (λ (t : List ℕ). done t) taken;
      entries = bind_is (stored_reading there) s.contents block_reading (done q) (stored_again s.contents) (reads_blocks.only s.contents q s.block);
    }

-- a handle of a block has numbers of 64 bits
pub record Fits (handle : BlockHandle) : Type 0 where
  pub offset : handle.offset < 2 ^ 64
  pub size : handle.size < 2 ^ 64

pub stands_fit : (bytes : List ℕ) (handle : BlockHandle) (q : List Entry) → length bytes ≤ 2 ^ 30 → IsStoredAt bytes handle q → Fits handle
stands_fit bytes handle q small s =
    let len : length bytes ≡ length s.before + (length (stored_block s.contents) + length s.behind) = omega (arith, ap length s.whole, length-append s.before (stored_block s.contents ++ s.behind), length-append (stored_block s.contents) s.behind) in
    record { offset = omega (arith, len, s.offset, small); size = omega (arith, len, length-stored s.contents, s.size, small) }

pub read_stands : (bytes : List ℕ) (handle : BlockHandle) (there : List ℕ) (q : List Entry) → AreBytes bytes → stored_at bytes handle ≡ Ok there → block_in there ≡ Ok q → IsStoredAt bytes handle q
read_stands bytes handle there q fits at h =
    let o = handle.offset in
    let n = handle.size + 5 in
    let g = guard (nat_le (handle.offset + handle.size + 5 + 48) (length bytes)) (take n (drop o bytes)) there (fault Range) at in
    let le : handle.offset + handle.size + 5 + 48 ≤ length bytes = leb-true (handle.offset + handle.size + 5 + 48) (length bytes) g.0 in
    let a = bind_ok (stored_reading there) block_reading q h in
    let long : length there ≡ n = sym (ap length g.1) ∙ length-take-le n (drop o bytes) (omega (arith, length-drop o bytes, le)) in
    let lawful : AreBytes there = subst AreBytes g.1 (IsBytes-take n (drop o bytes) (IsBytes-drop o bytes fits)) in
    let same : there ≡ stored_block a.0 = only_stored there a.0 (omega (arith, long)) lawful a.1 in
    record {
      before = take o bytes;
      contents = a.0;
      behind = drop n (drop o bytes);
      whole = sym (take-append-drop o bytes) ∙ ap (λ (t : List ℕ). take o bytes ++ t) (sym (take-append-drop n (drop o bytes)) ∙ ap (λ (t : List ℕ). t ++ drop n (drop o bytes)) (g.1 ∙ same));
      offset = length-take-le o bytes (omega (arith, le));
      size = omega (arith, long, ap length same, length-stored a.0);
      footer = omega (arith, le, length-drop o bytes, length-drop n (drop o bytes));
      block = reads_blocks.found a.0 q a.2;
    }

-- ---- the footer

abbrev after_metaindex : HandleBehind → Option Footer
after_metaindex metaindex = and_then (handle_reading metaindex.rest) (λ index. Some (record { metaindex = metaindex.handle; index = index.handle }))

handles_again : (f : Footer) (rest : List ℕ) → Fits f.metaindex → Fits f.index → handles_reading (handles_bytes f ++ rest) ≡ Some f
handles_again f rest a b =
    let second : List ℕ = handle_bytes f.index.offset f.index.size ++ rest in
    let parts : handles_bytes f ++ rest ≡ handle_bytes f.metaindex.offset f.metaindex.size ++ second = append_assoc (handle_bytes f.metaindex.offset f.metaindex.size) (handle_bytes f.index.offset f.index.size) rest in
    ap (λ (r : Option HandleBehind). and_then r after_metaindex) (handle_reading-spelled (handles_bytes f ++ rest) f.metaindex.offset f.metaindex.size second a.offset a.size parts)
    ∙ ap (λ (r : Option HandleBehind). and_then r (λ index. Some (record { metaindex = f.metaindex; index = index.handle }))) (handle_reading-spelled second f.index.offset f.index.size rest b.offset b.size refl)

pub ends_read : (bytes : List ℕ) (f : Footer) → EndsWith bytes f → Fits f.metaindex → Fits f.index → footer_reading (drop (length bytes - 48) bytes) ≡ Ok f
ends_read bytes f e a b =
    let handles : List ℕ = handles_bytes f ++ e.padding in
    let len : length bytes ≡ length e.before + 48 = omega (arith, ap length e.whole, length-append e.before (handles ++ magic), length-append handles magic, e.len) in
    let tail : drop (length bytes - 48) bytes ≡ handles ++ magic = ap (drop (length bytes - 48)) e.whole ∙ drop_at e.before (handles ++ magic) (length bytes - 48) (omega (arith, len)) in
    ap footer_reading tail ∙ footer_reading-by (handles ++ magic)
    ∙ ap (λ (t : List ℕ). read_by t (drop 40 (handles ++ magic))) (take_at handles magic 40 e.len)
    ∙ ap (read_by handles) (drop_at handles magic 40 e.len)
    ∙ ap (λ (o : Option Footer). ok_or o (fault Handle)) (handles_again f e.padding a b)

pub long_footer : (bytes : List ℕ) (f : Footer) → EndsWith bytes f → 48 ≤ length bytes
long_footer bytes f e =
    let handles : List ℕ = handles_bytes f ++ e.padding in
    omega (arith, ap length e.whole, length-append e.before (handles ++ magic), length-append handles magic, e.len)

not_refused : (b : Bool) (d : Fault) (r : Result Footer Fault) (f : Footer) → cond (not b) (Err d) r ≡ Ok f → (b ≡ true) × (r ≡ Ok f)
not_refused true d r f h = (refl, h)
not_refused false d r f h = absurd cc

is_there : (o : Option Footer) (d : Fault) (f : Footer) → ok_or o d ≡ Ok f → o ≡ Some f
is_there None d f h = absurd cc
is_there (Some x) d f h = ap (λ (y : Footer). Some y) (ok_is x f h)

-- two handles that are read stand at the front
record Handles (bytes : List ℕ) (f : Footer) : Type 0 where
  rest : List ℕ
  parts : bytes ≡ handles_bytes f ++ rest

handles_of : (bytes : List ℕ) (f : Footer) → handles_reading bytes ≡ Some f → Handles bytes f
handles_of bytes f h =
    let a = and_then_some (handle_reading bytes) after_metaindex f h in
    let b = and_then_some (handle_reading a.0.rest) (λ index. Some (record { metaindex = a.0.handle; index = index.handle })) f a.2 in
    let m = reads_handle bytes a.0.handle.offset a.0.handle.size a.0.rest a.1 in
    let i = reads_handle a.0.rest b.0.handle.offset b.0.handle.size b.0.rest b.1 in
    subst (Handles bytes) (same_Some _ _ b.2)
    (record {
      rest = b.0.rest;
      parts = m.parts ∙ ap (λ (t : List ℕ). handle_bytes a.0.handle.offset a.0.handle.size ++ t) i.parts
          ∙ sym (append_assoc (handle_bytes a.0.handle.offset a.0.handle.size) (handle_bytes b.0.handle.offset b.0.handle.size) b.0.rest);
    })

pub read_ends : (bytes : List ℕ) (f : Footer) → 48 ≤ length bytes → footer_reading (drop (length bytes - 48) bytes) ≡ Ok f → EndsWith bytes f
read_ends bytes f long h =
    let t : List ℕ = drop (length bytes - 48) bytes in
    let len : length t ≡ 48 = omega (arith, length-drop (length bytes - 48) bytes, long) in
    let a = not_refused (starts_with nat_eq (drop 40 t) magic) (fault Magic) (ok_or (handles_reading (take 40 t)) (fault Handle)) f (sym (footer_reading-by t) ∙ h) in
    let last_len : length (drop 40 t) ≡ 8 = omega (arith, length-drop 40 t, len) in
    let none : drop 8 (drop 40 t) ≡ [] = nil_from_length (drop 8 (drop 40 t)) (omega (arith, length-drop 8 (drop 40 t), last_len)) in
    let begins : magic ≡ take 8 (drop 40 t) = (bytes_eq-Decides magic (take 8 (drop 40 t))).0 a.0 in
    let last : drop 40 t ≡ magic = sym (take-append-drop 8 (drop 40 t)) ∙ ap (λ (x : List ℕ). take 8 (drop 40 t) ++ x) none ∙ append-nil (take 8 (drop 40 t)) ∙ sym begins in
    let two = handles_of (take 40 t) f (is_there (handles_reading (take 40 t)) (fault Handle) f a.1) in
    record {
      before = take (length bytes - 48) bytes;
      padding = two.rest;
      whole = sym (take-append-drop (length bytes - 48) bytes) ∙ ap (λ (x : List ℕ). take (length bytes - 48) bytes ++ x) (sym (take-append-drop 40 t) ∙ ap (λ (x : List ℕ). take 40 t ++ x) last ∙ ap (λ (x : List ℕ). x ++ magic) two.parts);
      len = sym (ap length two.parts) ∙ length-take-le 40 t (omega (arith, len));
    }
