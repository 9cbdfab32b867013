-- The version after a compaction is lawful, and holds what is kept.
use Rattle.std.proofs.Common.{◌≡◌, ◌≢◌, ℕ, ◌+◌, ◌-◌, ◌<◌, ◌≤◌, false, not, List, [], ◌∷◌, length, get_or, Result, Ok, refl, sym, ap, subst, ◌∙◌, inl, inr, arith}
use Rattle.std.specs.Prelude.{◌⊎◌, Contains}
use Rattle.std.specs.List.{All}
use Rattle.std.specs.List.Sorted.{IsPermutation}
use Rattle.std.specs.Cmp.{IsTotalOrder}
use Rattle.std.specs.declared.cmp.Ordering.{Ordering}
use Rattle.std.specs.declared.cmp.Ordering.TheVariants.{Less}
use Rattle.std.proofs.lemmas.List.Elements.{All-contains, Contains-get_or}
use Rattle.std.proofs.lemmas.List.Sorted.{IsPermutation-refl}
use Rattle.ikey.specs.Comparator.{ShortKeys, IsExact}
use Rattle.ikey.specs.Order.{internal_cmp}
use Rattle.ikey.specs.fault.Fault.{Fault}
use Rattle.table.specs.EncodedEntry.{Entry}
use Rattle.reads.specs.BuilderView.{last_key}
use Rattle.table.specs.CheckedContents.{contents_in}
use Rattle.table.specs.EntryTests.{first_key}
use Rattle.table.specs.TableContents.{table_reading}
use Rattle.table.proofs.CheckedTables.{entries_read}
use Rattle.edit.specs.Version.{State}
use Rattle.edit.specs.declared.meta.NewFile.{NewFile}
use Rattle.edit.proofs.Tested.{not_is_true}
use Rattle.pick.specs.declared.picked_inputs.InputFile.{InputFile}
use Rattle.reads.specs.Lawful.{IsLawful, IsFileOf, IsBelowNextFile, AreDisjoint}
use Rattle.reads.specs.Tables.{NumberedContents}
use Rattle.reads.proofs.Members.{later_in, first_in, from_filter}
use Rattle.compact.specs.ClosedInputs.{is_input}
use Rattle.compact.proofs.FileKeys.{below_upto, from_smallest, keys_total, to_largest, upto_below}
use Rattle.keep.specs.DropRule.{kept}
use Rattle.keep.specs.Readable.{Readable, readable_of}
use Rattle.compact.specs.OutputTables.{Output}
use Rattle.compact.specs.Request.{RequestView}
use Rattle.compact.specs.EditOf.{edit_of, new_file, new_files}
use Rattle.compact.specs.OneThread.{Answer}
use Rattle.compact.specs.GetsAfter.{staying_files, HoldKept}
use Rattle.compact.specs.EditAfter.{version_after}
use Rattle.compact.specs.RequestOverVersion.{IsOver, AreWritten, HoldOutputs}
use Rattle.compact.specs.SurvivingReads.{tables_after, VersionAfterLaw}
use Rattle.compact.proofs.AppliedEdit.{IsOutputOf, edited, files_are, numbered_to, side_of, stays_there}
use Rattle.compact.proofs.VersionInputs.{below_first}
use Rattle.compact.proofs.Lookups.{LiesBelow, outputs_apart}
use Rattle.compact.proofs.SafeInputs.{AreSafe, picked_safe}
use Rattle.compact.proofs.Sides.{users_below}
use Rattle.compact.specs.KeptOutputs.{AreInOrder, KeptOutputs, ReadAsBefore, TakePlace}
use Rattle.compact.proofs.ReplacedInputs.{IsFromInput, output_from}
use Rattle.compact.proofs.ReplacedInputs as replaced

-- ---- the ends of entries

pub record HasEnds (es : List Entry) : Type 0 where
  pub first : Entry
  pub first_there : Contains es first
  pub first_key_is : first.key ≡ first_key es
  pub last : Entry
  pub last_there : Contains es last
  pub last_key_is : last.key ≡ last_key [] es

last_in : (e : Entry) (es : List Entry) → (x : Entry) × Contains (e ∷ es) x × (x.key ≡ last_key e.key es)
last_in e [] = (e, first_in e [], refl)
last_in e (f ∷ es) = let rest = last_in f es in (rest.0, later_in e (f ∷ es) rest.0 rest.1, rest.2)

pub has_ends : (es : List Entry) → es ≢ [] → HasEnds es
has_ends [] some = absurd (some refl)
has_ends (e ∷ es) some = let l = last_in e es in record { first = e; first_there = first_in e es; first_key_is = refl; last = l.0; last_there = l.1; last_key_is = l.2 }

abbrev entries_answer : List Entry → Result (List Entry) Fault
entries_answer es = Ok es

module _ (cmp : List ℕ → List ℕ → Ordering) (total : IsTotalOrder cmp) (exact : IsExact cmp) (short_keys : ShortKeys)
    (v : State) (tables : List NumberedContents) (r : RequestView) (answer : Answer)
    (lawful : IsLawful cmp v tables) (safe : AreSafe cmp v tables r.picked) (over : IsOver v tables r)
    (held : HoldOutputs cmp short_keys tables r answer) where
  abbrev outputs : List Output
  outputs = held.outputs

  abbrev after : State
  after = version_after v r held.outputs

  abbrev readable : Readable
  readable = readable_of r.snapshots r.last_sequence

  abbrev kept_ones : List Entry
  kept_ones = kept cmp (readable_of r.snapshots r.last_sequence) r.picked.deeper held.union

  written_read : (q : Output) → AreWritten cmp q.bytes q.entries → table_reading cmp q.bytes ≡ Ok q.entries
  written_read q w = entries_read cmp q.bytes (contents_in cmp q.bytes) w.reads ∙ ap (λ (es : List Entry). entries_answer es) w.holds

  kept_outputs : KeptOutputs cmp tables r.picked readable
  kept_outputs = record {
    union = held.union;
    outputs = held.outputs;
    is_union = held.is_union;
    holds_kept = subst (IsPermutation kept_ones) (sym held.holds_kept) (IsPermutation-refl kept_ones);
    read = λ k d lt. written_read (get_or held.outputs k d) (held.written k d lt);
  }

  -- ---- the files after

  abbrev IsOutput : NewFile → Type 0
  IsOutput f = IsOutputOf (r.picked.level + 1) held.outputs f

  side : (f : NewFile) → Contains after.files f → Contains (staying_files v r.picked) f ⊎ IsOutput f
  side f at =
      side_of (r.picked.level + 1) (staying_files v r.picked) held.outputs after.files (files_are cmp total v tables r held.outputs lawful safe.placed over.numbers held.numbered) f at

  there : (f : NewFile) → Contains (staying_files v r.picked) f → Contains v.files f
  there f at = stays_there cmp total v tables r.picked lawful safe.placed f at

  out : (f : NewFile) → Contains (staying_files v r.picked) f → is_input r.picked f.meta.number ≡ false
  out f at = not_is_true (is_input r.picked f.meta.number) (from_filter (λ (g : NewFile). not (is_input r.picked g.meta.number)) v.files f at).1

  from_output : (q : Output) → Contains outputs q → (x : Entry) → Contains q.entries x → IsFromInput tables r.picked x
  unfolding kept_outputs
  from_output q at x i = output_from cmp tables r.picked readable kept_outputs q at x i

  file_of_input : (i : InputFile) → Contains r.picked.files i → IsFileOf cmp tables i.meta
  file_of_input i at =
      let f = safe.placed i at in
      subst (IsFileOf cmp tables) f.is (All-contains (λ (x : NewFile). IsFileOf cmp tables x.meta) v.files f.file lawful.files f.there)

  -- ---- numbers

  below_side : (f : NewFile) → Contains (staying_files v r.picked) f ⊎ IsOutput f → f.meta.number < r.first_number + length outputs
  below_side f (inl i) = let lt = below_first cmp v tables lawful r.first_number over.numbers f (there f i) in omega (arith, lt)
  below_side f (inr x) = subst (λ (g : NewFile). g.meta.number < r.first_number + length outputs) x.2 (numbered_to r.first_number held.outputs held.numbered x.0 x.1)

  below_after : All (λ (f : NewFile). IsBelowNextFile after.next_file f.meta.number) after.files
  below_after k d lt = let f = get_or after.files k d in below_side f (side f (Contains-get_or after.files k d lt))

  -- ---- ranges

  ends : (q : Output) → Contains outputs q → HasEnds q.entries
  ends q at = has_ends q.entries (All-contains (λ (x : Output). AreWritten cmp x.bytes x.entries) outputs q held.written at).some

  -- a file that stays at the outputs' level lies before an output or after it
  beside : (f : NewFile) → Contains (staying_files v r.picked) f → f.level ≡ r.picked.level + 1 → (q : Output) → Contains outputs q
      → (internal_cmp cmp f.meta.largest (first_key q.entries) ≡ Less) ⊎ (internal_cmp cmp (last_key [] q.entries) f.meta.smallest ≡ Less)
  beside f i own q at =
      elim (safe.beside f (there f i) (out f i) own) [
        | inl before ↦ inl (of_first before)
        | inr behind ↦ inr (of_last behind)
      ]
    where
      e : HasEnds q.entries
      e = ends q at

      of_first : All (λ (x : InputFile). internal_cmp cmp f.meta.largest x.meta.smallest ≡ Less) r.picked.files → internal_cmp cmp f.meta.largest (first_key q.entries) ≡ Less
      of_first before =
          let from = from_output q at (ends q at).first (ends q at).first_there in
          let lt = All-contains (λ (x : InputFile). internal_cmp cmp f.meta.largest x.meta.smallest ≡ Less) r.picked.files from.input before from.there_in in
          subst (λ (k : List ℕ). internal_cmp cmp f.meta.largest k ≡ Less) (ends q at).first_key_is
          (below_upto (internal_cmp cmp) (keys_total cmp total) f.meta.largest from.input.meta.smallest (ends q at).first.key lt (from_smallest cmp total tables from.input.meta (file_of_input from.input from.there_in) (ends q at).first from.held_by))

      of_last : All (λ (x : InputFile). internal_cmp cmp x.meta.largest f.meta.smallest ≡ Less) r.picked.files → internal_cmp cmp (last_key [] q.entries) f.meta.smallest ≡ Less
      of_last behind =
          let from = from_output q at (ends q at).last (ends q at).last_there in
          let lt = All-contains (λ (x : InputFile). internal_cmp cmp x.meta.largest f.meta.smallest ≡ Less) r.picked.files from.input behind from.there_in in
          subst (λ (k : List ℕ). internal_cmp cmp k f.meta.smallest ≡ Less) (ends q at).last_key_is
          (upto_below (internal_cmp cmp) (keys_total cmp total) (ends q at).last.key from.input.meta.largest f.meta.smallest (to_largest cmp total tables from.input.meta (file_of_input from.input from.there_in) (ends q at).last from.held_by) lt)

  -- of two outputs one ends before the other begins
  output_before : (q s : Output) → Contains outputs q → Contains outputs s → LiesBelow cmp q s → internal_cmp cmp (last_key [] q.entries) (first_key s.entries) ≡ Less
  output_before q s at also below =
      let users = below (ends q at).last (ends s also).first (ends q at).last_there (ends s also).first_there in
      subst (λ (k : List ℕ). internal_cmp cmp k (first_key s.entries) ≡ Less) (ends q at).last_key_is
      (subst (λ (k : List ℕ). internal_cmp cmp (ends q at).last.key k ≡ Less) (ends s also).first_key_is (users_below cmp total (ends q at).last.key (ends s also).first.key users))

  apart : (q s : Output) → Contains outputs q → Contains outputs s → (q.number ≡ s.number → ⊥) → LiesBelow cmp q s ⊎ LiesBelow cmp s q
  apart q s at also differ =
      elim (outputs_apart cmp held.outputs held.users q s at also) [
        | inl same ↦ absurd (differ (ap (λ (x : Output). x.number) same))
        | inr below ↦ below
      ]

  disjoint_sides : (f g : NewFile) → f.level ≡ g.level → 0 < f.level → f.meta.number ≢ g.meta.number → Contains (staying_files v r.picked) f ⊎ IsOutput f → Contains (staying_files v r.picked) g ⊎ IsOutput g → AreDisjoint cmp f.meta g.meta
  disjoint_sides f g same deep differ (inl i) (inl j) = lawful.disjoint f g (there f i) (there g j) same deep differ
  disjoint_sides f g same deep differ (inl i) (inr y) =
      let own : f.level ≡ r.picked.level + 1 = same ∙ sym (ap (λ (h : NewFile). h.level) y.2) in
      subst (λ (h : NewFile). AreDisjoint cmp f.meta h.meta) y.2 (beside f i own y.0 y.1)
  disjoint_sides f g same deep differ (inr x) (inl j) =
      let own : g.level ≡ r.picked.level + 1 = sym same ∙ sym (ap (λ (h : NewFile). h.level) x.2) in
      subst (λ (h : NewFile). AreDisjoint cmp h.meta g.meta) x.2 (elim (beside g j own x.0 x.1) [ inl before ↦ inr before | inr behind ↦ inl behind ])
  disjoint_sides f g same deep differ (inr x) (inr y) =
      let numbers : x.0.number ≡ y.0.number → ⊥ = λ e. differ (sym (ap (λ (h : NewFile). h.meta.number) x.2) ∙ (e ∙ ap (λ (h : NewFile). h.meta.number) y.2)) in
      subst (λ (h : NewFile). AreDisjoint cmp h.meta g.meta) x.2
      (subst (λ (h : NewFile). AreDisjoint cmp (new_file (r.picked.level + 1) x.0).meta h.meta) y.2
      (elim (apart x.0 y.0 x.1 y.1 numbers) [ inl below ↦ inl (output_before x.0 y.0 x.1 y.1 below) | inr above ↦ inr (output_before y.0 x.0 y.1 x.1 above) ]))

  -- ---- the version after

  place : TakePlace cmp v tables r.picked readable answer (edit_of r (new_files r held.outputs)) after
  unfolding kept_outputs
  place = record {
    held = kept_outputs;
    answer_tables = held.answer_tables;
    deleted = refl;
    added = refl;
    applies = edited cmp total v tables r held.outputs lawful safe.placed over.numbers held.numbered;
  }

  order : AreInOrder cmp after
  order = record { below_next = below_after; disjoint = λ f g i j same deep differ. disjoint_sides f g same deep differ (side f i) (side g j) }

  pub lawful_after : IsLawful cmp after (tables_after cmp r.picked answer tables)
  lawful_after = replaced.lawful_after cmp total exact v tables r.picked readable answer (edit_of r (new_files r held.outputs)) after lawful safe place order

  pub holds_after : HoldKept v tables r.picked kept_ones after (tables_after cmp r.picked answer tables)
  unfolding place kept_outputs
  holds_after = replaced.holds_after cmp total exact v tables r.picked readable answer (edit_of r (new_files r held.outputs)) after lawful safe place

  pub reads_as_before : All (λ (f : NewFile). f.level ≤ 6) v.files → ReadAsBefore cmp v tables r.picked readable answer after
  reads_as_before low = replaced.read_as_before cmp total exact v tables r.picked readable answer (edit_of r (new_files r held.outputs)) after lawful safe place order low

pub stands_after : (cmp : List ℕ → List ℕ → Ordering) → IsTotalOrder cmp → IsExact cmp → (short_keys : ShortKeys) → VersionAfterLaw cmp short_keys
stands_after cmp total exact short_keys = record {
  lawful = λ v tables level r answer lawful low picked over held. lawful_after cmp total exact short_keys v tables r answer lawful (picked_safe cmp total v tables level r.picked lawful low picked) over held;
  holds = λ v tables level r answer lawful low picked over held. holds_after cmp total exact short_keys v tables r answer lawful (picked_safe cmp total v tables level r.picked lawful low picked) over held;
}
