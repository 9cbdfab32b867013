-- What is known of inputs that were checked.
use Rattle.std.proofs.Common.{◌≡◌, ℕ, ◌+◌, ◌<◌, Bool, true, false, ◌&&◌, List, [], ◌∷◌, ◌++◌, map, take, drop, length, get_or, Result, Ok, refl, sym, ap, subst, ◌∙◌}
use Rattle.std.specs.Prelude.{nat_eq, not, if◌then◌else◌}
use Rattle.std.specs.List.{AllByRecursion, list_all}
use Rattle.std.specs.Str.{bytes_eq}
use Rattle.std.specs.declared.cmp.Ordering.{Ordering}
use Rattle.std.proofs.lemmas.Bool.{and_parts}
use Rattle.std.proofs.lemmas.List.{drop_more, map-append, take_more}
use Rattle.std.proofs.lemmas.Slice.Eq.{bytes_eq-Decides}
use Rattle.ikey.specs.Answers.{◌>>=◌}
use Rattle.ikey.specs.fault.Fault.{Fault}
use Rattle.ikey.specs.fault.FaultName.TheVariants.{Bounds}
use Rattle.edit.proofs.Binds.{done, bind_ok, ok_is}
use Rattle.edit.specs.declared.meta.FileMeta.{FileMeta}
use Rattle.reads.specs.EncodedEntry.{Entry}
use Rattle.reads.specs.BuilderView.{last_key}
use Rattle.table.specs.EntryTests.{first_key}
use Rattle.table.specs.SoundTables.{HasBoundsRead}
use Rattle.table.specs.TableContents.{Contents, contents_reading}
use Rattle.table.specs.Tallies.{tally_of}
use Rattle.table.specs.declared.tally.Tally.{Tally}
use Rattle.table.specs.TestResult.{test_result}
use Rattle.table.proofs.EntryTests.{passed}
use Rattle.compact.specs.Inputs.{input_reading, inputs_reading, result_at_input, table_matches_metadata}
use Rattle.c_api.specs.Files.{meta_at}
use Rattle.c_api.specs.InputTables.{AreRead, IsRead, bounds_at, entries_at, entries_read, tally_in}
use Rattle.c_api.specs.Merges.{table_at}
use Rattle.c_api.specs.Places.{part_at}
use Rattle.c_api.specs.Requests.{files_of, input_file}
use Rattle.c_api.specs.Tables.{counts_of}
use Rattle.c_api.specs.declared.input.Input.{Input}
use Rattle.c_api.specs.declared.place.Place.{Place}

-- what is told of a tally tells it
twins_told : (b : Bool) → not (nat_eq (if b then 1 else 0) 0) ≡ b
twins_told true = refl
twins_told false = refl

abbrev with_twins : Tally → Bool → Tally
with_twins t twins = record t { has_twins = twins }

tally_told : (t : Tally) → tally_in (counts_of t) ≡ t
tally_told t = ap (with_twins t) (twins_told t.has_twins)

module _ (cmp : List ℕ → List ℕ → Ordering) (keys tables : List ℕ) (i : Input) where
  abbrev meta : FileMeta
  meta = meta_at keys i.file

  abbrev bytes : List ℕ
  bytes = part_at tables i.table

  -- what the check of an input found
  pub record Found : Type 0 where
    pub contents : Contents
    pub read : contents_reading cmp bytes ≡ Ok contents
    pub stated : table_matches_metadata meta contents ≡ true
    pub counted : i.counts ≡ counts_of (tally_of contents.entries)
    pub entries : input_reading cmp meta bytes ≡ Ok contents.entries

  pub found : IsRead cmp keys tables i → Found
  found h =
      let a = bind_ok (input_reading cmp meta bytes) (λ entries. done (counts_of (tally_of entries))) i.counts h in
      let b = bind_ok (contents_reading cmp bytes) _ a.0 a.1 in
      let c = bind_ok (test_result (table_matches_metadata meta b.0) Bounds) _ a.0 b.2 in
      let same : b.0.entries ≡ a.0 = ok_is b.0.entries a.0 c.2 in
      record {
        contents = b.0;
        read = b.1;
        stated = passed (table_matches_metadata meta b.0) Bounds c.0 c.1;
        counted = sym (ok_is (counts_of (tally_of a.0)) i.counts a.2) ∙ ap (λ (es : List Entry). counts_of (tally_of es)) (sym same);
        entries = a.1 ∙ ap (λ (es : List Entry). done es) (sym same);
      }

  -- its bounds are those of its table
  pub bounds_found : IsRead cmp keys tables i → HasBoundsRead cmp bytes (bounds_at keys i)
  bounds_found h =
      let f = found h in
      let es : List Entry = f.contents.entries in
      let rest = and_parts (nat_eq meta.size (length f.contents.bytes)) (bytes_eq meta.smallest (first_key es) && bytes_eq meta.largest (last_key [] es)) f.stated in
      let both = and_parts (bytes_eq meta.smallest (first_key es)) (bytes_eq meta.largest (last_key [] es)) rest.1 in
      record {
        contents = f.contents;
        read = f.read;
        first = (bytes_eq-Decides meta.smallest (first_key es)).0 both.0;
        last = (bytes_eq-Decides meta.largest (last_key [] es)).0 both.1;
        tally = ap tally_in f.counted ∙ tally_told (tally_of es);
      }

  -- its entries are those of its table
  pub entries_found : IsRead cmp keys tables i → (t : Contents) → contents_reading cmp bytes ≡ Ok t → entries_at cmp keys tables i ≡ t.entries
  entries_found h t is =
      let f = found h in
      ap entries_read f.entries ∙ ap (λ (c : Contents). c.entries) (ok_is f.contents t (sym f.read ∙ is))

  pub entries_ok : IsRead cmp keys tables i → input_reading cmp meta bytes ≡ Ok (entries_at cmp keys tables i)
  entries_ok h =
      let f = found h in
      f.entries ∙ ap (λ (es : List Entry). done es) (sym (ap entries_read f.entries))

-- the entries of all of them
pub inputs_found : (cmp : List ℕ → List ℕ → Ordering) (keys tables : List ℕ) (place : ℕ) (is : List Input) → AreRead cmp keys tables is
    → inputs_reading cmp place (map (input_file keys) (files_of is)) (map (table_at tables) is) ≡ Ok (map (entries_at cmp keys tables) is)
inputs_found cmp keys tables place [] h = refl
inputs_found cmp keys tables place (i ∷ is) h =
    ap (λ (own : Result (List Entry) Fault). result_at_input place own >>= λ entries. inputs_reading cmp (place + 1) (map (input_file keys) (files_of is)) (map (table_at tables) is) >>= λ rest. Ok (entries ∷ rest))
    (entries_ok cmp keys tables i h.0)
    ∙ ap (λ (rest : Result (List (List Entry)) Fault). rest >>= λ others. Ok (entries_at cmp keys tables i ∷ others)) (inputs_found cmp keys tables (place + 1) is h.1)

-- one of a list, and those behind it
pub one_of : {X : Type 0} (P : X → Type 0) (all : List X) (i : ℕ) (d : X) → i < length all → AllByRecursion P (drop i all) → P (get_or all i d) × AllByRecursion P (drop (i + 1) all)
one_of P all i d lt h = subst (AllByRecursion P) (drop_more all i d lt) h

pub one_tested : {X : Type 0} (p : X → Bool) (all : List X) (i : ℕ) (d : X) → i < length all → list_all p (drop i all) ≡ true → (p (get_or all i d) ≡ true) × (list_all p (drop (i + 1) all) ≡ true)
one_tested p all i d lt h = and_parts (p (get_or all i d)) (list_all p (drop (i + 1) all)) (sym (ap (list_all p) (drop_more all i d lt)) ∙ h)

-- one more of a list, as it is seen
pub map_taken : {X Y : Type 0} (f : X → Y) (all : List X) (i : ℕ) (d : X) → i < length all → map f (take (i + 1) all) ≡ map f (take i all) ++ f (get_or all i d) ∷ []
map_taken f all i d lt = ap (map f) (take_more all i d lt) ∙ map-append f (take i all) (get_or all i d ∷ [])

abbrev no_place : Place
no_place = record { from = 0; len = 0 }

abbrev pub no_input : Input
no_input = record {
  file = record { level = 0; number = 0; size = 0; smallest = no_place; largest = no_place };
  table = no_place;
  counts = record { entries = 0; oldest = 0; newest = 0; has_twins = 0 };
}
