-- Files whose tables are what the version states of them.
use Rattle.std.proofs.Common.{◌≡◌, ℕ, ◌-◌, true, ◌&&◌, List, [], length, Option, Some, None, Result, Ok, Err, refl, sym, ap, subst, ◌∙◌, inl, inr}
use Rattle.std.specs.Prelude.{nat_eq, slice_get}
use Rattle.std.specs.Option.{ok_or, option_map, option_map_or, option_or}
use Rattle.std.specs.Str.{bytes_eq}
use Rattle.std.proofs.lemmas.Bool.Decides.{Decides-eqb}
use Rattle.std.proofs.lemmas.Slice.Eq.{bytes_eq-Decides}
use Rattle.std.proofs.lemmas.Bool.{and_parts}
use Rattle.table.specs.Answers.{◌>>=◌, fault}
use Rattle.table.specs.fault.Fault.{Fault}
use Rattle.table.specs.fault.FaultName.TheVariants.{Missing}
use Rattle.table.proofs.Binds.{bind_ok, done, ok_is}
use Rattle.table.specs.Comparator.{KeyOrder}
use Rattle.table.specs.EncodedEntry.{Entry}
use Rattle.reads.specs.BuilderView.{last_key}
use Rattle.table.specs.TableContents.{Contents, DataBlock, blocks_of, contents_of, contents_reading, data_reading, index_in}
use Rattle.table.specs.EntryTests.{first_key}
use Rattle.table.specs.IndexReading.{IndexEntry, index_reading}
use Rattle.table.proofs.CheckedTables.{HasEntry, blocks_by, first_is, last_is, some_entry}
use Rattle.folder.specs.meta.FileMeta.{FileMeta}
use Rattle.folder.specs.Calls.{Files}
use Rattle.folder.specs.LoadedTables.{IsTableAnswer}
use Rattle.folder.specs.Names.{old_table_name, table_name}
use Rattle.folder.specs.ReadsAs.{IsFileIn}
use Rattle.checks.specs.HeldTables.{IsTableIn}
use Rattle.checks.proofs.FoundTables.{own_bytes}
use Rattle.faults.proofs.FaultAnswers.{no_value}
use Rattle.faults.specs.FileFaults.{file_reading, largest_of, smallest_of, table_held}
use Rattle.faults.specs.KeyFaults.{is_as_stated, is_sound}

-- ---- the bytes of a table

held_some : (o : Option (List ℕ)) (e : Fault) (bytes : List ℕ) → ok_or o e ≡ done bytes → o ≡ Some bytes
held_some None e bytes h = absurd (no_value e bytes h)
held_some (Some b) e bytes h = ap (λ (x : List ℕ). Some x) (ok_is b bytes h)

module _ (files : Files) where
  pub held_answer : (n : ℕ) (bytes : List ℕ) → table_held files n ≡ Some bytes → IsTableAnswer (IsFileIn files) n (Ok bytes)
  held_answer n bytes h = by (files (table_name n)) refl h
    where
      by : (o : Option (List ℕ)) → files (table_name n) ≡ o → option_or o (files (old_table_name n)) ≡ Some bytes → IsTableAnswer (IsFileIn files) n (Ok bytes)
      by None e k = inr (e, k)
      by (Some b) e k = inl (e ∙ k)

  pub held_is : (n : ℕ) (bytes : List ℕ) → IsTableAnswer (IsFileIn files) n (Ok bytes) → table_held files n ≡ Some bytes
  held_is n bytes (inl h) = ap (λ (o : Option (List ℕ)). option_or o (files (old_table_name n))) h
  held_is n bytes (inr h) = ap (λ (o : Option (List ℕ)). option_or o (files (old_table_name n))) h.0 ∙ h.1

-- ---- what it holds

pub table_entry : (cmp : KeyOrder) (bytes : List ℕ) (t : Contents) → contents_reading cmp bytes ≡ Ok t → HasEntry t.entries
table_entry cmp bytes t h =
    let blocks = bind_ok (blocks_of cmp bytes) (λ (blocks : List DataBlock). Ok (contents_of bytes blocks)) t h in
    let named = bind_ok (index_in bytes) (λ (entries : List Entry). index_reading bytes entries >>= λ index. data_reading cmp index) blocks.0 (sym (blocks_by cmp bytes) ∙ blocks.1) in
    let index = bind_ok (index_reading bytes named.0) (λ (index : List IndexEntry). data_reading cmp index) blocks.0 named.2 in
    subst (λ (es : List Entry). HasEntry es) (ap (λ (c : Contents). c.entries) (ok_is (contents_of bytes blocks.0) t blocks.2)) (some_entry cmp index.0 blocks.0 index.2)

key_some : (o : Option Entry) (key : List ℕ) → option_map (λ e. e.key) o ≡ Some key → Some (option_map_or (λ (e : Entry). e.key) o []) ≡ option_map (λ e. e.key) o
key_some None key h = absurd cc
key_some (Some e) key h = refl

pub smallest_there : (x : Contents) → HasEntry x.entries → Some (smallest_of x) ≡ option_map (λ e. e.key) (slice_get x.entries 0)
smallest_there x has = key_some (slice_get x.entries 0) (first_key x.entries) (first_is x.entries has)

pub largest_there : (x : Contents) → HasEntry x.entries → Some (largest_of x) ≡ option_map (λ e. e.key) (slice_get x.entries (length x.entries - 1))
largest_there x has = key_some (slice_get x.entries (length x.entries - 1)) (last_key [] x.entries) (last_is x.entries has)

-- ---- a file and its table

module _ (cmp : KeyOrder) (files : Files) where
  pub table_of_reading : (n : ℕ) (x : Contents) → file_reading cmp files n ≡ Ok x → IsTableIn cmp files n x
  table_of_reading n x h =
      let parts = bind_ok (ok_or (table_held files n) (fault Missing)) (contents_reading cmp) x h in
      let same : parts.0 ≡ x.bytes = own_bytes cmp parts.0 x parts.2 in
      record {
        there = subst (λ (b : List ℕ). IsTableAnswer (IsFileIn files) n (Ok b)) same (held_answer files n parts.0 (held_some (table_held files n) (fault Missing) parts.0 parts.1));
        read = subst (λ (b : List ℕ). contents_reading cmp b ≡ Ok x) same parts.2;
      }

  pub reading_of_table : (n : ℕ) (x : Contents) → IsTableIn cmp files n x → file_reading cmp files n ≡ Ok x
  reading_of_table n x h = ap (λ (o : Option (List ℕ)). ok_or o (fault Missing) >>= contents_reading cmp) (held_is files n x.bytes h.there) ∙ h.read

  -- the table of a sound file
  pub record IsHeldFile (f : FileMeta) : Type 0 where
    pub contents : Contents
    pub reading : file_reading cmp files f.number ≡ Ok contents
    pub size : f.size ≡ length contents.bytes
    pub smallest : f.smallest ≡ smallest_of contents
    pub largest : f.largest ≡ largest_of contents

  held_by : (f : FileMeta) (r : Result Contents Fault) → file_reading cmp files f.number ≡ r → is_as_stated f r ≡ true → IsHeldFile f
  held_by f (Err e) is h = absurd cc
  held_by f (Ok x) is h =
      let one = and_parts (nat_eq f.size (length x.bytes)) (bytes_eq f.smallest (smallest_of x) && bytes_eq f.largest (largest_of x)) h in
      let two = and_parts (bytes_eq f.smallest (smallest_of x)) (bytes_eq f.largest (largest_of x)) one.1 in
      record {
        contents = x;
        reading = is;
        size = (Decides-eqb f.size (length x.bytes)).0 one.0;
        smallest = (bytes_eq-Decides f.smallest (smallest_of x)).0 two.0;
        largest = (bytes_eq-Decides f.largest (largest_of x)).0 two.1;
      }

  pub sound_held : (f : FileMeta) → is_sound cmp files f ≡ true → IsHeldFile f
  sound_held f h = held_by f (file_reading cmp files f.number) refl h

  pub held_table : (f : FileMeta) (h : IsHeldFile f) → IsTableIn cmp files f.number h.contents
  held_table f h = table_of_reading f.number h.contents h.reading

  pub held_entry : (f : FileMeta) (h : IsHeldFile f) → HasEntry h.contents.entries
  held_entry f h = table_entry cmp h.contents.bytes h.contents (held_table f h).read

  pub first_there : (f : FileMeta) (h : IsHeldFile f) → Some f.smallest ≡ option_map (λ e. e.key) (slice_get h.contents.entries 0)
  first_there f h = ap (λ (k : List ℕ). Some k) h.smallest ∙ smallest_there h.contents (held_entry f h)

  pub last_there : (f : FileMeta) (h : IsHeldFile f) → Some f.largest ≡ option_map (λ e. e.key) (slice_get h.contents.entries (length h.contents.entries - 1))
  last_there f h = ap (λ (k : List ℕ). Some k) h.largest ∙ largest_there h.contents (held_entry f h)
