-- The index block of a table that was checked, found again.
use Rattle.std.proofs.Common.{◌≡◌, ℕ, ◌-◌, ◌^◌, ◌≤◌, nat_le, Bool, true, false, List, length, drop, Result, Ok, Err, refl, sym, ap, subst, ◌∙◌}
use Rattle.std.proofs.lemmas.Bool.{leb-true}
use Rattle.std.specs.Prelude.{IsOk}
use Rattle.std.specs.declared.cmp.Ordering.{Ordering}
use Rattle.coding.specs.declared.fault.Fault.{Fault}
use Rattle.coding.specs.declared.fault.FaultName.TheVariants.{Size, Short}
use Rattle.coding.proofs.Binds.{done, bind_ok, ok_is}
use Rattle.block.specs.EncodedEntry.{Entry, IsBlock}
use Rattle.block.specs.BlockReading.{block_reading}
use Rattle.block.proofs.BlockReadings.{reads_blocks}
use Rattle.table.specs.Footer.{footer_reading}
use Rattle.table.specs.Trailer.{stored_reading}
use Rattle.table.specs.declared.footer.Footer.{Footer}
use Rattle.table.specs.TestResult.{test_result}
use Rattle.table.specs.IndexReading.{stored_at, block_in}
use Rattle.table.specs.TableContents.{index_in, blocks_of, Contents, contents_of, contents_reading}

-- the index block of these entries, step by step
pub record IndexThere (bytes : List ℕ) (entries : List Entry) : Type 0 where
  pub footer : Footer
  pub stored : List ℕ
  pub contents : List ℕ
  pub long : 48 ≤ length bytes
  pub read : footer_reading (drop (length bytes - 48) bytes) ≡ Ok footer
  pub at : stored_at bytes footer.index ≡ Ok stored
  pub tests : stored_reading stored ≡ Ok contents
  pub block : IsBlock contents entries

long_by : (b : Bool) (x : Unit {0}) → test_result b Short ≡ Ok x → b ≡ true
long_by true x h = refl
long_by false x h = absurd cc

pub index_there : (bytes : List ℕ) (q : List Entry) → index_in bytes ≡ Ok q → IndexThere bytes q
index_there bytes q h =
    let a = bind_ok (test_result (nat_le (length bytes) (2 ^ 30)) Size) _ q h in
    let b = bind_ok (test_result (nat_le 48 (length bytes)) Short) _ q a.2 in
    let f = bind_ok (footer_reading (drop (length bytes - 48) bytes)) _ q b.2 in
    let m = bind_ok (stored_at bytes f.0.metaindex) _ q f.2 in
    let i = bind_ok (stored_at bytes f.0.index) _ q m.2 in
    let n = bind_ok (block_in m.0) _ q i.2 in
    let s = bind_ok (stored_reading i.0) block_reading q n.2 in
    record {
      footer = f.0;
      stored = i.0;
      contents = s.0;
      long = leb-true 48 (length bytes) (long_by (nat_le 48 (length bytes)) b.0 b.1);
      read = f.1;
      at = i.1;
      tests = s.1;
      block = reads_blocks.found s.0 q s.2;
    }

-- the index block of bytes that have one
pub record SomeIndex (bytes : List ℕ) : Type 0 where
  pub entries : List Entry
  pub whole : index_in bytes ≡ Ok entries
  pub there : IndexThere bytes entries

pub some_index : (bytes : List ℕ) → IsOk (index_in bytes) → SomeIndex bytes
some_index bytes ok = by (index_in bytes) refl ok
  where
    by : (r : Result (List Entry) Fault) → index_in bytes ≡ r → IsOk r → SomeIndex bytes
    by (Ok q) is h = record { entries = q; whole = is; there = index_there bytes q is }
    by (Err e) is h = absurd cc

-- what bytes hold has these bytes
pub own_bytes : (cmp : List ℕ → List ℕ → Ordering) (bytes : List ℕ) (x : Contents) → contents_reading cmp bytes ≡ Ok x → x.bytes ≡ bytes
own_bytes cmp bytes x h =
    let a = bind_ok (blocks_of cmp bytes) (λ blocks. done (contents_of bytes blocks)) x h in
    sym (ap (λ (y : Contents). y.bytes) (ok_is (contents_of bytes a.0) x a.2))

-- a reading that answered a value is not refused
pub not_refused : {A : Type 0} (r : Result A Fault) (x : A) (e : Fault) → r ≡ Ok x → r ≡ Err e → ⊥
not_refused r x e a b = let no : done x ≡ Err e = sym a ∙ b in cc

-- no footer, and no index block, is refused
pub footer_read : (bytes : List ℕ) (e : Fault) → IsOk (index_in bytes) → footer_reading (drop (length bytes - 48) bytes) ≡ Err e → ⊥
footer_read bytes e ok h = let s = some_index bytes ok in not_refused (footer_reading (drop (length bytes - 48) bytes)) s.there.footer e s.there.read h

pub index_stored : (bytes : List ℕ) (footer : Footer) (e : Fault) → IsOk (index_in bytes) → footer_reading (drop (length bytes - 48) bytes) ≡ Ok footer → stored_at bytes footer.index ≡ Err e → ⊥
index_stored bytes footer e ok read h =
    let s = some_index bytes ok in
    let same : footer ≡ s.there.footer = ok_is footer s.there.footer (sym read ∙ s.there.read) in
    not_refused (stored_at bytes footer.index) s.there.stored e (ap (λ (f : Footer). stored_at bytes f.index) same ∙ s.there.at) h

-- the stored index block that is found again
pub record FoundIndex (bytes stored : List ℕ) : Type 0 where
  pub contents : List ℕ
  pub entries : List Entry
  pub tests : stored_reading stored ≡ Ok contents
  pub block : IsBlock contents entries
  pub whole : index_in bytes ≡ Ok entries

pub found_index : (bytes : List ℕ) (footer : Footer) (stored : List ℕ) → IsOk (index_in bytes) → footer_reading (drop (length bytes - 48) bytes) ≡ Ok footer → stored_at bytes footer.index ≡ Ok stored → FoundIndex bytes stored
found_index bytes footer stored ok read at =
    let s = some_index bytes ok in
    let same : s.there.footer ≡ footer = ok_is s.there.footer footer (sym s.there.read ∙ read) in
    let there : s.there.stored ≡ stored = ok_is s.there.stored stored (sym s.there.at ∙ ap (λ (f : Footer). stored_at bytes f.index) same ∙ at) in
    subst (FoundIndex bytes) there (record { contents = s.there.contents; entries = s.entries; tests = s.there.tests; block = s.there.block; whole = s.whole })
