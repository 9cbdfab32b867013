-- What an edited version asks of an installation is there.
use Rattle.std.proofs.Common.{◌≡◌, ◌≢◌, ◌⊎◌, ◌<◌, ◌^◌, ℕ, nat_eq, nat_lt, Bool, true, false, not, ◌&&◌, List, [], ◌∷◌, Option, Some, None, is_some, Result, Ok, Err, refl, sym, ap, subst, ◌∙◌, inl, inr, arith, if◌then◌else◌}
use Rattle.std.specs.List.{list_all}
use borrow.Author.Tests.{lt-ltb, ltb-true}
use Rattle.std.specs.Option.{option_map, option_map_or, option_or, ok_or}
use Rattle.install.proofs.Numbers.{after_edit, in_files, in_version, numbers_in, small_added, is_itself as is_number}
use Rattle.install.proofs.Options.{made, option_parts}
use Rattle.std.specs.Str.{bytes_eq}
use Rattle.std.specs.declared.cmp.Ordering.{Ordering}
use Rattle.edit.specs.Answers.{fault, ◌>>=◌}
use Rattle.edit.specs.fault.Fault.{Fault}
use Rattle.edit.specs.fault.FaultName.TheVariants.{Apply, Comparator}
use Rattle.logrec.proofs.Logs.{log_again}
use Rattle.edit.specs.Edit.{Edit, IsEdit, edit_bytes}
use Rattle.edit.specs.Version.{State, IsState, applied, applied_by, are_apart, are_new, empty_state, files_after, has_number, has_place, undeleted_files, names_another}
use Rattle.edit.specs.VersionOrder.{snapshot_of, unnumbered_version}
use Rattle.edit.specs.declared.meta.NewFile.{NewFile}
use Rattle.folder.specs.FreeNames.{IsFree}
use Rattle.folder.specs.Levels.{file_numbers}
use Rattle.folder.specs.Manifest.{IsManifestAnswer, is_complete, order_name, order_of, version_after_edits, version_from}
use Rattle.folder.specs.Names.{manifest_name, old_table_name, table_name, temporary_name}
use Rattle.folder.specs.ReadsAs.{IsOneOf}
use Rattle.folder.specs.declared.order.Order.{Order}
use Rattle.folder.specs.declared.order.Order.TheVariants.{Bytewise, Shortlex}
use Rattle.folder.proofs.NameEnds.{ends_apart, low_apart, manifest_end, old_table_end, table_end, temporary_end}
use Rattle.folder.proofs.NameLemmas.{manifest_alike, table_alike}
use Rattle.folder.proofs.WrittenLemmas.{AllOther}
use Rattle.install.specs.Install.{IsEditedBy, manifest_bytes, numbers_of}
use Rattle.install.proofs.Moments.{Apart}
use Rattle.install.proofs.Outputs.{AreApart, filed}
use Rattle.install.proofs.Switch.{Setting, manifest_no_temporary, table_no_current, temporary_no_current, manifest_no_current}
use Rattle.std.proofs.lemmas.Bool.{and_parts as both_true}
use Rattle.install.proofs.Names.{table_no_temporary}

-- no two numbers are one
abbrev pub AreDistinct : List ℕ → Type 0
AreDistinct [] = Unit {0}
AreDistinct (n ∷ numbers) = (IsOneOf numbers n → ⊥) × AreDistinct numbers

not_true : (a : Bool) → not a ≡ true → a ≡ false
not_true true h = absurd (cc h)
not_true false h = refl

has_it : (files : List NewFile) (n : ℕ) → IsOneOf (numbers_in files) n → has_number files n ≡ true
has_it [] n m = absurd m
has_it (f ∷ files) n (inl same) = let e : nat_eq n f.meta.number ≡ true = subst (λ (k : ℕ). nat_eq n k ≡ true) same (is_number n) in rw e refl
has_it (f ∷ files) n (inr m) = let e = has_it files n m in grind (arith, e)

apart_distinct : (files : List NewFile) → are_apart files ≡ true → AreDistinct (numbers_in files)
apart_distinct [] h = tt
apart_distinct (f ∷ files) h =
    let parts = both_true (not (has_number files f.meta.number)) (are_apart files) h in
    (λ m. cc (not_true _ parts.0, has_it files f.meta.number m), apart_distinct files parts.1)

some_tested : {A : Type 0} (b : Bool) (x y : A) (other : Option A) → other ≡ None → (if b then Some x else other) ≡ Some y → b ≡ true
some_tested true x y other is h = refl
some_tested false x y other is h = absurd (cc (is, h))

same_or : {A : Type 0} (o a b : Option A) → is_some o ≡ true → option_or o a ≡ option_or o b
same_or None a b h = absurd (cc h)
same_or (Some x) a b h = refl

pub some_or : {A : Type 0} (o a : Option A) → is_some o ≡ true → is_some (option_or o a) ≡ true
some_or None a h = absurd (cc h)
some_or (Some x) a h = refl

-- an edit that sets all numbers makes the same of a version without them
unnumbered_edited : (v next : State) (e : Edit) → applied v e ≡ Some next → is_some e.log_number ≡ true → is_some e.previous_log ≡ true → is_some e.next_file ≡ true → is_some e.last_sequence ≡ true → applied (unnumbered_version v) e ≡ Some next
unnumbered_edited v next e h log' previous' free' last' =
    let parts = option_parts (made v e) (files_after v.files e.deleted e.added) next h in
    let one = same_or e.log_number None v.log_number log' in
    let two = same_or e.previous_log None v.previous_log previous' in
    let three = same_or e.next_file None v.next_file free' in
    let four = same_or e.last_sequence None v.last_sequence last' in
    let same : made (unnumbered_version v) e parts.0 ≡ made v e parts.0 = cc (one, two, three, four) in
    ap (option_map (made (unnumbered_version v) e)) parts.1 ∙ ap (λ (s : State). Some s) (same ∙ parts.2)

-- it makes a version that is complete
edited_complete : (v next : State) (e : Edit) (number free : ℕ) → applied v e ≡ Some next → is_some e.log_number ≡ true → is_some e.last_sequence ≡ true → e.next_file ≡ Some free → number < free → is_complete number next ≡ true
edited_complete v next e number free h log' last' is below =
    let parts = option_parts (made v e) (files_after v.files e.deleted e.added) next h in
    let one : is_some next.log_number ≡ true = subst (λ (s : State). is_some s.log_number ≡ true) parts.2 (some_or e.log_number v.log_number log') in
    let two : is_some next.last_sequence ≡ true = subst (λ (s : State). is_some s.last_sequence ≡ true) parts.2 (some_or e.last_sequence v.last_sequence last') in
    let free' : next.next_file ≡ Some free = sym (ap (λ (s : State). s.next_file) parts.2) ∙ ap (λ (o : Option ℕ). option_or o v.next_file) is in
    let three : option_map_or (nat_lt number) next.next_file false ≡ true = ap (λ (o : Option ℕ). option_map_or (nat_lt number) o false) free' ∙ lt-ltb number free below in
    rw (one, two, three) refl

bind_ok : {A B : Type 0} (r : Result A Fault) (x : A) (f : A → Result B Fault) → r ≡ Ok x → (r >>= f) ≡ f x
bind_ok r x f h = ap (λ (s : Result _ Fault). s >>= f) h

-- an edit that names no comparator is applied by any
unnamed_applied : (name : List ℕ) (v next : State) (e : Edit) → e.comparator ≡ None → applied v e ≡ Some next → applied_by name v e ≡ Ok next
unnamed_applied name v next e unnamed h =
    let none' : names_another name e ≡ false = ap (λ (o : Option (List ℕ)). option_map_or (λ other. not (bytes_eq other name)) o false) unnamed in
    ap (λ (b : Bool). if b then Err (fault Comparator) else ok_or (applied v e) (fault Apply)) none' ∙ ap (λ (o : Option State). ok_or o (fault Apply)) h

named_applied : (order : Order) (cmp : List ℕ → List ℕ → Ordering) (v w : State) → applied empty_state (snapshot_of (order_name order) cmp v) ≡ Some w → applied_by (order_name order) empty_state (snapshot_of (order_name order) cmp v) ≡ Ok w
named_applied Bytewise cmp v w h = ap (λ (o : Option State). ok_or o (fault Apply)) h
named_applied Shortlex cmp v w h = ap (λ (o : Option State). ok_or o (fault Apply)) h

named_order : (order : Order) (cmp : List ℕ → List ℕ → Ordering) (v : State) (edits : List Edit) → order_of (snapshot_of (order_name order) cmp v ∷ edits) ≡ Ok order
named_order Bytewise cmp v edits = refl
named_order Shortlex cmp v edits = refl

-- the snapshot and the edit give the next version
pub from_snapshot : (order : Order) (cmp : List ℕ → List ℕ → Ordering) (v next : State) (e : Edit) (number : ℕ) → applied empty_state (snapshot_of (order_name order) cmp v) ≡ Some (unnumbered_version v) → e.comparator ≡ None
    → applied (unnumbered_version v) e ≡ Some next → is_complete number next ≡ true → Ok (order, next) ≡ version_from number (snapshot_of (order_name order) cmp v ∷ e ∷ [])
from_snapshot order cmp v next e number again unnamed edited complete =
    let name = order_name order in
    let snap = snapshot_of name cmp v in
    let edits = snap ∷ e ∷ [] in
    let last' = λ (w : State). version_after_edits name w [] in
    let two : version_after_edits name (unnumbered_version v) (e ∷ []) ≡ Ok next = bind_ok {A = State} (applied_by name (unnumbered_version v) e) next (λ w. version_after_edits name w []) (unnamed_applied name (unnumbered_version v) next e unnamed edited) in
    let after : version_after_edits name empty_state edits ≡ Ok next = bind_ok {A = State} (applied_by name empty_state snap) (unnumbered_version v) (λ w. version_after_edits name w (e ∷ [])) (named_applied order cmp v (unnumbered_version v) again) ∙ two in
    sym (bind_ok {A = Order} (order_of edits) order (λ o. version_after_edits (order_name o) empty_state edits >>= λ w. if is_complete number w then Ok (o, w) else Err (fault Apply)) (named_order order cmp v (e ∷ []))
    ∙ (bind_ok {A = State} (version_after_edits name empty_state edits) next (λ w. if is_complete number w then Ok (order, w) else Err (fault Apply)) after
    ∙ ap (λ (b : Bool). if b then Ok (order, next) else Err (fault Apply)) complete))

-- the manifest gives the next version
manifest_answers_next : (order : Order) (cmp : List ℕ → List ℕ → Ordering) (v next : State) (e : Edit) (number : ℕ) (bytes : List ℕ) → IsEdit (edit_bytes (snapshot_of (order_name order) cmp v)) (snapshot_of (order_name order) cmp v) → IsEdit bytes e
    → Ok (order, next) ≡ version_from number (snapshot_of (order_name order) cmp v ∷ e ∷ []) → IsManifestAnswer number (manifest_bytes (order_name order) cmp v bytes) (Ok (order, next))
manifest_answers_next order cmp v next e number bytes one two from =
    let records = edit_bytes (snapshot_of (order_name order) cmp v) ∷ bytes ∷ [] in
    (Ok records, (sym (log_again records), (Ok (snapshot_of (order_name order) cmp v ∷ e ∷ []), ((one, (two, tt)), from))))

-- a name of other ends than the tables' and the manifests'
other_filed : (outputs : List (ℕ × List ℕ)) (done : List (List ℕ × List ℕ)) (name : List ℕ) → ((n : ℕ) → table_name n ≢ name) → AllOther name done → AllOther name (filed outputs done)
other_filed [] done name h other = other
other_filed (t ∷ outputs) done name h other = other_filed outputs ((table_name t.0, t.1) ∷ done) name h (h t.0, other)

-- the tables' names are apart
pub outputs_apart : (cmp : List ℕ → List ℕ → Ordering) (v : State) (outputs : List (ℕ × List ℕ)) (done : List (List ℕ × List ℕ)) → ((n : ℕ) → IsOneOf (numbers_of outputs) n → IsFree cmp v (table_name n) × (n < 2 ^ 64) × AllOther (table_name n) done)
    → AreDistinct (numbers_of outputs) → AreApart cmp v outputs done
outputs_apart cmp v [] done h distinct = tt
outputs_apart cmp v (t ∷ outputs) done h distinct =
    let here = h t.0 (inl refl) in (
      here.0,
      here.2,
      outputs_apart cmp v outputs ((table_name t.0, t.1) ∷ done) (λ n m.
          let there = h n (inr m) in
          (there.0, there.1, (λ same. let e : t.0 ≡ n = table_alike t.0 n here.1 there.1 same in distinct.0 (subst (λ (k : ℕ). IsOneOf (numbers_of outputs) k) (sym e) m), there.2))) distinct.1,
    )

-- a manifest that completes the version has a number below the first free one
pub complete_below : (v : State) (m least : ℕ) → v.next_file ≡ Some least → is_complete m v ≡ true → m < least
complete_below v m least is h =
    let last' = (both_true (is_some v.log_number && is_some v.last_sequence) (option_map_or (nat_lt m) v.next_file false) h).1 in
    ltb-true m least (sym (ap (λ (o : Option ℕ). option_map_or (nat_lt m) o false) is) ∙ last')

module _ (cmp : List ℕ → List ℕ → Ordering) (order : Order) (v next : State) (number : ℕ) (outputs : List (ℕ × List ℕ)) (bytes : List ℕ) (h : IsEditedBy cmp v number outputs bytes next) (small : number < 2 ^ 64) where
  pub output_small : (n : ℕ) → IsOneOf (numbers_of outputs) n → n < 2 ^ 64
  output_small n m = small_added bytes h.edit h.read n (subst (λ (ns : List ℕ). IsOneOf ns n) (sym h.added) m)

  -- the files of the next version are outputs, or were there
  there : IsState v.pointers v.files → (n : ℕ) → IsOneOf (file_numbers cmp next) n → IsOneOf (numbers_of outputs) n ⊎ IsOneOf (file_numbers cmp v) n
  there state n m = elim (after_edit v next h.edit h.edited n (in_files cmp next n m)) [
    | inl new' ↦ inl (subst (λ (ns : List ℕ). IsOneOf ns n) h.added new')
    | inr old ↦ inr (in_version cmp v n state.levels.file_levels old)
  ]

  table_free : (n : ℕ) → IsOneOf (numbers_of outputs) n → IsFree cmp v (table_name n)
  table_free n m = record {
    current = table_no_current n;
    manifest = λ k s c. low_apart (table_name n) (manifest_name k) 98 (table_end n) (manifest_end k s) (omega arith);
    table = λ k was same. let e : n ≡ k = table_alike n k (output_small n m) (omega (arith, h.below k was, h.manifest_above)) same in absurd (omega (arith, h.below k was, h.above n m));
    old_table = λ k was. ends_apart (table_name n) (old_table_name k) 98 116 (table_end n) (old_table_end k) (λ e. omega (arith, e));
  }

  temporary_free : IsFree cmp v (temporary_name number)
  temporary_free = record {
    current = temporary_no_current number;
    manifest = λ k s c. low_apart (temporary_name number) (manifest_name k) 112 (temporary_end number) (manifest_end k s) (omega arith);
    table = λ k was. ends_apart (temporary_name number) (table_name k) 112 98 (temporary_end number) (table_end k) (λ e. omega (arith, e));
    old_table = λ k was. ends_apart (temporary_name number) (old_table_name k) 112 116 (temporary_end number) (old_table_end k) (λ e. omega (arith, e));
  }

  manifest_free : IsFree cmp v (manifest_name number)
  manifest_free = record {
    current = manifest_no_current number small;
    manifest = λ k s c same. let e : number ≡ k = manifest_alike number k small s same in absurd (omega (arith, complete_below v k h.least h.first_free c, h.manifest_above));
    table = λ k was same. low_apart (table_name k) (manifest_name number) 98 (table_end k) (manifest_end number small) (omega arith) (sym same);
    old_table = λ k was same. low_apart (old_table_name k) (manifest_name number) 116 (old_table_end k) (manifest_end number small) (omega arith) (sym same);
  }

  pub distinct : AreDistinct (numbers_of outputs)
  distinct =
      let parts = option_parts (made v h.edit) (files_after v.files h.edit.deleted h.edit.added) next h.edited in
      let tests = some_tested (list_all (has_place v.files) h.edit.deleted && are_new (undeleted_files h.edit.deleted v.files) h.edit.added) _ parts.0 None refl parts.1 in
      let new' = (both_true (list_all (has_place v.files) h.edit.deleted) (are_new (undeleted_files h.edit.deleted v.files) h.edit.added) tests).1 in
      subst AreDistinct h.added (apart_distinct h.edit.added (both_true (are_apart h.edit.added) _ new').0)

  pub outputs_free : AreApart cmp v outputs []
  outputs_free = outputs_apart cmp v outputs [] (λ n m. (table_free n m, output_small n m, tt)) distinct

  pub apart_of : (manifest : List ℕ) → Apart cmp v outputs number manifest
  apart_of manifest = record {
    outputs_apart = outputs_free;
    manifest_free = manifest_free;
    manifest_other = other_filed outputs [] (manifest_name number) (λ n. low_apart (table_name n) (manifest_name number) 98 (table_end n) (manifest_end number small) (omega arith)) tt;
    temporary_free = temporary_free;
    temporary_other = (manifest_no_temporary number number small, other_filed outputs [] (temporary_name number) (λ n. table_no_temporary n number) tt);
  }

  pub setting_of : (tables : List (ℕ × List ℕ)) → IsState v.pointers v.files → applied empty_state (snapshot_of (order_name order) cmp v) ≡ Some (unnumbered_version v) → IsEdit (edit_bytes (snapshot_of (order_name order) cmp v)) (snapshot_of (order_name order) cmp v)
      → Setting cmp order v next tables outputs number (manifest_bytes (order_name order) cmp v bytes)
  setting_of tables state again reads = record {
    small = small;
    answer = manifest_answers_next order cmp v next h.edit number bytes reads h.read
        (from_snapshot order cmp v next h.edit number again h.no_name (unnumbered_edited v next h.edit h.edited h.log_number h.previous_log (rw h.next_file refl) h.last_sequence)
        (edited_complete v next h.edit number h.next_free h.edited h.log_number h.last_sequence h.next_file h.manifest_below));
    there = there state;
    free = temporary_free;
  }
