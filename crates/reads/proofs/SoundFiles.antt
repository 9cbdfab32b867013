-- What is asked of each file alone.
use Rattle.std.proofs.Common.{◌≡◌, ℕ, ◌-◌, Bool, true, ◌&&◌, List, length, Option, Some, None, Ok, sym, ap, subst, ◌∙◌}
use Rattle.std.specs.Prelude.{◌↔◌, IsTrue, slice_get, nat_eq}
use Rattle.std.specs.Cmp.{IsTotalOrder}
use Rattle.std.specs.Option.{option_map}
use Rattle.std.specs.Str.{bytes_eq}
use Rattle.std.specs.declared.cmp.Ordering.{Ordering}
use Rattle.std.proofs.lemmas.Bool.Decides.{Decides-ltb, Decides-eqb, Decides-and}
use Rattle.std.proofs.lemmas.Option.{same_Some}
use Rattle.std.proofs.lemmas.Slice.Eq.{bytes_eq-Decides}
use Rattle.ikey.specs.Answers.{◌>>=◌}
use Rattle.ikey.proofs.Binds.{bind_ok, ok_is}
use Rattle.table.specs.TableContents.{Contents, contents_reading, blocks_of, data_reading, entries_of, index_in}
use Rattle.table.specs.IndexReading.{index_reading}
use Rattle.table.specs.EntriesFrom.{EntriesRise}
use Rattle.table.proofs.CheckedTables.{blocks_by, entries_read, read_data}
use Rattle.table.proofs.EntryTests.{all_tests, rising}
use Rattle.edit.specs.declared.meta.FileMeta.{FileMeta}
use Rattle.reads.specs.Tables.{NumberedContents, table_of_number}
use Rattle.reads.specs.Lawful.{IsBelowNextFile}
use Rattle.reads.specs.FileChecks.{IsStatedFile, is_below, matches_metadata}

below_decides : (next : Option ℕ) (n : ℕ) → (is_below next n ≡ true → IsBelowNextFile next n) × (IsBelowNextFile next n → is_below next n ≡ true)
below_decides None n = (λ e. absurd cc, λ h. absurd h)
below_decides (Some next) n = Decides-ltb n next

abbrev some_key : List ℕ → Option (List ℕ)
some_key key = Some key

-- the keys of the first and of the last entry
abbrev pub FirstIs : Contents → List ℕ → Type 0
FirstIs t key = Some key ≡ option_map (λ e. e.key) (slice_get t.entries 0)

abbrev pub LastIs : Contents → List ℕ → Type 0
LastIs t key = Some key ≡ option_map (λ e. e.key) (slice_get t.entries (length t.entries - 1))

-- the entries of a table that is read rise
entries_rise : (cmp : List ℕ → List ℕ → Ordering) → IsTotalOrder cmp → (bytes : List ℕ) (t : Contents) → contents_reading cmp bytes ≡ Ok t → EntriesRise cmp t.entries
entries_rise cmp total bytes t accepted =
    let r = bind_ok (blocks_of cmp bytes) (λ blocks. Ok (entries_of blocks)) t.entries (entries_read cmp bytes t accepted) in
    let a = bind_ok (index_in bytes) (λ q. index_reading bytes q >>= λ index. data_reading cmp index) r.0 (sym (blocks_by cmp bytes) ∙ r.1) in
    let b = bind_ok (index_reading bytes a.0) (λ index. data_reading cmp index) r.0 a.2 in
    let d = read_data cmp b.0 r.0 b.2 in
    let whole : entries_of r.0 ≡ t.entries = ok_is (entries_of r.0) t.entries r.2 in
    subst (EntriesRise cmp) whole (rising cmp None (entries_of r.0) total (all_tests cmp None b.0 r.0 d.read))

module _ (cmp : List ℕ → List ℕ → Ordering) (tables : List NumberedContents) (next : Option ℕ) (f : FileMeta) (t : Contents) (smallest largest : List ℕ) (there : table_of_number tables f.number ≡ Some t) (accepted : contents_reading cmp t.bytes ≡ Ok t) (first : FirstIs t smallest) (last : LastIs t largest) where
  stated_decides : (matches_metadata next f (length t.bytes) smallest largest ≡ true → IsBelowNextFile next f.number × ((f.size ≡ length t.bytes) × ((f.smallest ≡ smallest) × (f.largest ≡ largest))))
      × (IsBelowNextFile next f.number × ((f.size ≡ length t.bytes) × ((f.smallest ≡ smallest) × (f.largest ≡ largest))) → matches_metadata next f (length t.bytes) smallest largest ≡ true)
  stated_decides =
      Decides-and (is_below next f.number) (nat_eq f.size (length t.bytes) && (bytes_eq f.smallest smallest && bytes_eq f.largest largest)) (below_decides next f.number)
      (Decides-and (nat_eq f.size (length t.bytes)) (bytes_eq f.smallest smallest && bytes_eq f.largest largest) (Decides-eqb f.size (length t.bytes))
      (Decides-and (bytes_eq f.smallest smallest) (bytes_eq f.largest largest) (bytes_eq-Decides f.smallest smallest) (bytes_eq-Decides f.largest largest)))

  one_table : (is : IsStatedFile cmp tables next f) → is.table ≡ t
  one_table is = same_Some is.table t (sym is.there ∙ there)

  stated_of : IsTotalOrder cmp → matches_metadata next f (length t.bytes) smallest largest ≡ true → IsStatedFile cmp tables next f
  stated_of total stated =
      let parts = stated_decides.0 stated in
      record {
        table = t;
        there = there;
        accepted = accepted;
        rising = entries_rise cmp total t.bytes t accepted;
        size = parts.1.0;
        smallest = sym first ∙ ap some_key (sym parts.1.1.0);
        largest = sym last ∙ ap some_key (sym parts.1.1.1);
        below_next = parts.0;
      }

  of_stated : IsStatedFile cmp tables next f → matches_metadata next f (length t.bytes) smallest largest ≡ true
  of_stated stated =
      let is : stated.table ≡ t = one_table stated in
      let size : f.size ≡ length t.bytes = stated.size ∙ ap (λ (c : Contents). length c.bytes) is in
      let small : f.smallest ≡ smallest = same_Some f.smallest smallest (sym stated.smallest ∙ ap (λ (c : Contents). option_map (λ e. e.key) (slice_get c.entries 0)) is ∙ sym first) in
      let large : f.largest ≡ largest = same_Some f.largest largest (sym stated.largest ∙ ap (λ (c : Contents). option_map (λ e. e.key) (slice_get c.entries (length c.entries - 1))) is ∙ sym last) in
      stated_decides.1 (stated.below_next, (size, (small, large)))

  pub stated_tests : IsTotalOrder cmp → (b : Bool) → b ≡ matches_metadata next f (length t.bytes) smallest largest → IsTrue b ↔ IsStatedFile cmp tables next f
  stated_tests total b is = (λ e. stated_of total (sym is ∙ e), λ h. is ∙ of_stated h)
