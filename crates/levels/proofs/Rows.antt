-- Parts that are compacted one after the other, each as if the ones before it had been installed.
use Rattle.std.proofs.Common.{◌≡◌, ◌≢◌, ℕ, ◌+◌, ◌<◌, ◌≤◌, ◌^◌, nat_eq, Bool, true, false, ◌&&◌, ◌==◌, List, [], ◌∷◌, ◌++◌, map, Some, None, Option, Ok, is_some, refl, sym, ap, subst, ◌∙◌, inl, inr, arith, append_assoc, eqb-true}
use Rattle.std.specs.Prelude.{◌⊎◌, Contains, unwrap_or}
use Rattle.std.specs.List.{All, AllByRecursion, list_all}
use Rattle.std.specs.Cmp.{IsTotalOrder}
use Rattle.std.specs.declared.cmp.Ordering.{Ordering}
use Rattle.std.proofs.lemmas.Bool.{eq-eqb}
use Rattle.std.proofs.lemmas.List.{append-nil, map-append}
use Rattle.std.proofs.lemmas.List.Elements.{All-contains, Contains-get_or}
use Rattle.edit.specs.Comparator.{IsExact, ShortKeys}
use Rattle.edit.specs.Edit.{Edit, IsEdit, deleted_cmp}
use Rattle.edit.specs.Version.{IsState, State, applied, has_place, is_deleted, is_same_place, place_of}
use Rattle.edit.specs.declared.meta.DeletedFile.{DeletedFile}
use Rattle.edit.specs.declared.meta.NewFile.{NewFile}
use Rattle.edit.proofs.Edits.{one_edit}
use Rattle.folder.specs.Levels.{file_numbers}
use Rattle.folder.specs.ReadsAs.{IsOneOf}
use Rattle.install.specs.Install.{next_version_tables, numbers_of, table_bytes_of}
use Rattle.install.proofs.Numbers.{after_edit, among_append, in_files, in_version}
use Rattle.pick.specs.PickedInputs.{PickedInputs}
use Rattle.pick.specs.declared.picked_inputs.InputFile.{InputFile}
use Rattle.keep.specs.Lawful.{IsBelowNextFile, IsLawful}
use Rattle.keep.specs.Readable.{is_read, readable_of}
use Rattle.keep.specs.Tables.{NumberedContents}
use Rattle.keep.specs.Gets.{get_of}
use Rattle.reads.proofs.FallingEntries.{of_each}
use Rattle.keep.proofs.Members.{first_in, from_map, later_in, none_in}
use Rattle.table.specs.ReadBackLaw.{ReadBackLaw}
use Rattle.checks.specs.LawfulTables.{IsLawfulTables}
use Rattle.checks.proofs.LawfulLemmas.{sound_checked, sound_lawful}
use Rattle.compact.specs.EditOf.{deletion_of}
use Rattle.compact.specs.InputsOver.{AreInputsOver, as_file}
use Rattle.compact.specs.OneThread.{Answer}
use Rattle.compact.specs.PassedRequest.{PassedLaw}
use Rattle.compact.specs.declared.settings.Settings.{Settings}
use Rattle.compact.proofs.AppliedEdit.{all_only, all_tests, none_tests}
use Rattle.compact.proofs.Closing.{any_at}
use Rattle.compact.proofs.SafeInputs.{closed_safe}
use Rattle.store.specs.Compaction.{EditedVersion}
use Rattle.store.specs.FolderRequest.{compaction_from, last_of, manifest_of}
use Rattle.store.specs.OutputRanges.{IsOldOrOutput}
use Rattle.store.proofs.ClosedJoint.{below_next}
use Rattle.store.proofs.TablesAfter.{HasNumber, number_of, one_number}
use Rattle.install.specs.JoinedEdits.{joined_edit}
use Rattle.levels.specs.WholeAnswer.{edits_of, next_last, part_result, tables_of}
use Rattle.install.proofs.DeletedSets.{tied}
use Rattle.install.proofs.JoinedBytes.{edits_join}
use Rattle.levels.proofs.JoinedFiles.{joined_applies}
use Rattle.levels.proofs.LaidTables.{laid_before, laid_twice}
use Rattle.levels.proofs.PartStep.{Stepped, added_numbers, edit_next, after, count_is, numbers_within, own_edit, part_answered, same_request, stays_in, stepped, thread_at}
use Rattle.levels.proofs.PartsBase.{ShareNoFile}
use Rattle.levels.specs.ApartParts.{StandApart}
use Rattle.levels.proofs.StayingInputs.{still_apart}

abbrev some_state : State → Option State
some_state v = Some v

same_state : (v w : State) → some_state v ≡ some_state w → v ≡ w
same_state v w h = cc h

same_bytes : (files : List InputFile) (f g : ℕ → List ℕ) → ((i : InputFile) → Contains files i → f i.meta.number ≡ g i.meta.number) → map (λ (i : InputFile). f i.meta.number) files ≡ map (λ (i : InputFile). g i.meta.number) files
same_bytes [] f g h = refl
same_bytes (i ∷ files) f g h =
    ap (λ (b : List ℕ). b ∷ map (λ (j : InputFile). f j.meta.number) files) (h i (first_in i files))
    ∙ ap (λ (bs : List (List ℕ)). g i.meta.number ∷ bs) (same_bytes files f g (λ j at. h j (later_in i files j at)))

pub numbers_joined : (one two : List (ℕ × List ℕ)) → numbers_of (one ++ two) ≡ numbers_of one ++ numbers_of two
numbers_joined [] two = refl
numbers_joined (t ∷ one) two = ap (λ (ns : List ℕ). t.0 ∷ ns) (numbers_joined one two)

pub other_place : (f : NewFile) (d : DeletedFile) → d.number < f.meta.number → is_same_place (place_of f) d ≡ false
other_place f d lt = by (nat_eq f.meta.number d.number) refl
  where
    and_false : (b : Bool) → (b && false) ≡ false
    and_false true = refl
    and_false false = refl

    by : (b : Bool) → nat_eq f.meta.number d.number ≡ b → is_same_place (place_of f) d ≡ false
    by true e = absurd (let same = eqb-true f.meta.number d.number e in omega (arith, same, lt))
    by false e = ap (λ (b : Bool). (f.level == d.level) && b) e ∙ and_false (f.level == d.level)

module _ (cmp : List ℕ → List ℕ → Ordering) (total : IsTotalOrder cmp) (exact : IsExact cmp) (short_keys : ShortKeys) (reads_back : ReadBackLaw cmp short_keys) (passes : PassedLaw cmp)
    (v : State) (loaded : List (ℕ × List ℕ)) (tables : List NumberedContents) (s : Settings) (level : ℕ) (five : level ≤ 5)
    (log : unwrap_or v.log_number 0 < 2 ^ 64) (previous : unwrap_or v.previous_log 0 < 2 ^ 64) where
  -- a part that stands apart, and has the tables that it has in the first version
  pub record Remains (w : State) (held : List (ℕ × List ℕ)) (q : PickedInputs) : Type 0 where
    pub stands : StandApart cmp w level q
    pub bytes : (i : InputFile) → Contains q.files i → table_bytes_of held i.meta.number ≡ table_bytes_of loaded i.meta.number

  -- A version that answers as the first one does. Its next file is this number, and the rest of the
  -- parts stand apart in it.
  pub record Stands (w : State) (held : List (ℕ × List ℕ)) (last : ℕ) (rest : List PickedInputs) : Type 0 where
    pub own : List NumberedContents
    pub sound : IsLawfulTables cmp w held (Ok own)
    pub gets : (user : List ℕ) (at : ℕ) → is_read (readable_of s.snapshots (last_of v)) at ≡ true → get_of w own user at ≡ get_of v tables user at
    pub log_is : unwrap_or w.log_number 0 ≡ unwrap_or v.log_number 0
    pub previous_is : unwrap_or w.previous_log 0 ≡ unwrap_or v.previous_log 0
    pub last_is : last_of w ≡ last_of v
    pub next_file : w.next_file ≡ Some last
    pub low : All (λ (f : NewFile). f.level ≤ 6) w.files
    pub rises : manifest_of v ≤ last
    pub remain : (q : PickedInputs) → Contains rest q → Remains w held q

  module _ (w : State) (held : List (ℕ × List ℕ)) (last : ℕ) (p : PickedInputs) (rest : List PickedInputs) (here : Stands w held last (p ∷ rest)) (share : ShareNoFile (p ∷ rest))
      (a : Answer) (answered : part_result cmp short_keys v loaded s last p ≡ Ok a) where
    lawful : IsLawful cmp w here.own
    lawful = sound_lawful cmp w held here.own here.sound

    mine : Remains w held p
    mine = here.remain p (first_in p rest)

    manifest_is : manifest_of w ≡ last
    manifest_is = ap (λ (o : Option ℕ). unwrap_or o 0) here.next_file

    above : manifest_of w < last + 1
    above = let is = manifest_is in omega (arith, is)

    above_first : manifest_of v < last + 1
    above_first = let le = here.rises in omega (arith, le)

    own_answer : compaction_from (Some (last + 1)) cmp short_keys w held p s ≡ Ok a
    own_answer =
        sym (same_request cmp short_keys v w loaded held p s (last + 1) above_first above (same_bytes p.files (table_bytes_of loaded) (table_bytes_of held) (λ i at. sym (mine.bytes i at))) here.log_is here.previous_is here.last_is)
        ∙ part_answered cmp short_keys v loaded s last p a answered

    pub step : Stepped cmp (last + 1) w held here.own p s a
    step =
        stepped cmp total exact short_keys reads_back passes (last + 1) w held here.own p s a above (sound_checked cmp w held here.own here.sound) lawful here.low
        (closed_safe cmp total w here.own p lawful mine.stands.over)
        (subst (λ (n : ℕ). n < 2 ^ 64) (sym here.log_is) log) (subst (λ (n : ℕ). n < 2 ^ 64) (sym here.previous_is) previous)
        (thread_at cmp short_keys w held p s (last + 1) a above own_answer)

    abbrev pub next : State
    next = after step

    abbrev pub next_held : List (ℕ × List ℕ)
    next_held = next_version_tables cmp next a.tables held

    edit_same : own_edit step ≡ step.edited.edited.edited.edit
    edit_same = one_edit a.edit (own_edit step) step.edited.edited.edited.edit step.is_edit step.edited.edited.edited.read

    next_same : step.edited.edited.next ≡ next
    next_same = same_state step.edited.edited.next next (sym step.edited.edited.edited.edited ∙ ap (applied w) (sym edit_same) ∙ step.applies)

    within : (f : NewFile) → Contains next.files f → IsOldOrOutput cmp w p f
    within f at =
        All-contains (IsOldOrOutput cmp w p) next.files f (subst (λ (x : State). All (IsOldOrOutput cmp w p) x.files) next_same step.edited.within) at

    next_sound : IsLawfulTables cmp next next_held (Ok step.edited.edited.answers.tables_next)
    next_sound = subst (λ (x : State). IsLawfulTables cmp x (next_version_tables cmp x a.tables held) (Ok step.edited.edited.answers.tables_next)) next_same step.edited.edited.answers.lawful

    next_gets : (user : List ℕ) (at : ℕ) → is_read (readable_of s.snapshots (last_of v)) at ≡ true → get_of next step.edited.edited.answers.tables_next user at ≡ get_of v tables user at
    next_gets user at is =
        sym (ap (λ (x : State). get_of x step.edited.edited.answers.tables_next user at) next_same)
        ∙ step.edited.edited.answers.gets user at (ap (λ (n : ℕ). is_read (readable_of s.snapshots n) at) here.last_is ∙ is)
        ∙ here.gets user at is

    next_low : All (λ (f : NewFile). f.level ≤ 6) next.files
    next_low k d lt =
        elim (within _ (Contains-get_or next.files k d lt)) [
          | inl old ↦ All-contains (λ (f : NewFile). f.level ≤ 6) w.files _ here.low old.0
          | inr new ↦ (let is = new.0 in let own = mine.stands.own in omega (arith, is, own, five))
        ]

    pub next_last_is : next.next_file ≡ Some (next_last last a)
    next_last_is = ap (λ (n : ℕ). Some (last + 1 + n)) (sym (count_is step))

    -- the numbers of the outputs
    pub output_within : (n : ℕ) → IsOneOf (numbers_of a.tables) n → (last < n) × (n < next_last last a)
    output_within n at = let x = numbers_within step n at in let count = count_is step in (omega (arith, x.0), omega (arith, x.1, count))

    pub next_small : next_last last a < 2 ^ 64
    next_small = let few = step.few in let count = count_is step in omega (arith, few, count)

    old_number : (f : NewFile) → Contains w.files f → f.meta.number < last
    old_number f at = below_next w.next_file last f.meta.number here.next_file (All-contains (λ (x : NewFile). IsBelowNextFile w.next_file x.meta.number) w.files f lawful.below_next at)

    remain_next : (q : PickedInputs) → Contains rest q → Remains next next_held q
    remain_next q at =
        let theirs = here.remain q (later_in p rest q at) in
        let apart = still_apart cmp total w here.own lawful level p q mine.stands theirs.stands (share.0 q at) next within step.edited.edited.answers.tables_next (sound_lawful cmp next next_held step.edited.edited.answers.tables_next next_sound) (stays_in step) in
        record {
          stands = apart;
          bytes = λ i there.
              let old = old_number (as_file i) (theirs.stands.over.files i there) in
              laid_before cmp next a.tables held i.meta.number (in_version cmp next i.meta.number next_low (one_number next.files (as_file i) (apart.over.files i there)))
              (λ own. let x = output_within i.meta.number own in omega (arith, old, x.0))
              ∙ theirs.bytes i there;
        }

    pub next_stands : Stands next next_held (next_last last a) rest
    next_stands = record {
      own = step.edited.edited.answers.tables_next;
      sound = next_sound;
      gets = next_gets;
      log_is = here.log_is;
      previous_is = here.previous_is;
      last_is = here.last_is;
      next_file = next_last_is;
      low = next_low;
      rises = let le = here.rises in omega (arith, le);
      remain = remain_next;
    }

    -- ---- its edit

    pub from_deleted : (d : DeletedFile) → Contains (own_edit step).deleted d → (i : InputFile) × Contains p.files i × (deletion_of i ≡ d)
    from_deleted d at = elim (all_only deleted_cmp tied [] (map deletion_of p.files) d at) [
      | inl none ↦ absurd (none_in d none)
      | inr there ↦ (let x = from_map deletion_of p.files d there in (x.source, x.there, x.is))
    ]

  -- ---- the edits as one

  -- Answers were joined: their edits together make the version that they make one after the other,
  -- with the tables that one installation of all of them leaves.
  pub record Joined (answers : List Answer) (w : State) (held : List (ℕ × List ℕ)) (last : ℕ) : Type 0 where
    pub edit : Edit
    pub read : IsEdit (edits_of answers) edit
    pub makes : applied v edit ≡ Some w
    pub unnamed : edit.comparator ≡ None
    pub log_set : is_some edit.log_number ≡ true
    pub previous_set : is_some edit.previous_log ≡ true
    pub last_set : is_some edit.last_sequence ≡ true
    pub next_set : edit.next_file ≡ Some last
    pub added : map (λ (f : NewFile). f.meta.number) edit.added ≡ numbers_of (tables_of answers)
    pub numbers : (n : ℕ) → IsOneOf (numbers_of (tables_of answers)) n → (manifest_of v < n) × (n < last)
    pub laid : held ≡ next_version_tables cmp w (tables_of answers) loaded
    pub small : last < 2 ^ 64
    pub higher : manifest_of v < last

  -- the first of them
  pub joined_first : (p : PickedInputs) (rest : List PickedInputs) (here : Stands v loaded (manifest_of v) (p ∷ rest)) (share : ShareNoFile (p ∷ rest)) (a : Answer) (answered : part_result cmp short_keys v loaded s (manifest_of v) p ≡ Ok a)
      → Joined (a ∷ []) (next v loaded (manifest_of v) p rest here share a answered) (next_held v loaded (manifest_of v) p rest here share a answered) (next_last (manifest_of v) a)
  joined_first p rest here share a answered =
      let t = step v loaded (manifest_of v) p rest here share a answered in
      let one : tables_of (a ∷ []) ≡ a.tables = append-nil a.tables in
      record {
        edit = own_edit t;
        read = subst (λ (b : List ℕ). IsEdit b (own_edit t)) (sym (append-nil a.edit)) t.is_edit;
        makes = t.applies;
        unnamed = refl;
        log_set = refl;
        previous_set = refl;
        last_set = refl;
        next_set = edit_next t;
        added = added_numbers t ∙ sym (ap numbers_of one);
        numbers = λ n at. output_within v loaded (manifest_of v) p rest here share a answered n (subst (λ (ts : List (ℕ × List ℕ)). IsOneOf (numbers_of ts) n) one at);
        laid = ap (λ (ts : List (ℕ × List ℕ)). next_version_tables cmp (after t) ts loaded) (sym one);
        small = next_small v loaded (manifest_of v) p rest here share a answered;
        higher = omega arith;
      }

  tables_more : (answers : List Answer) (a : Answer) → tables_of (answers ++ a ∷ []) ≡ tables_of answers ++ a.tables
  tables_more [] a = append-nil a.tables
  tables_more (b ∷ answers) a = ap (λ (ts : List (ℕ × List ℕ)). b.tables ++ ts) (tables_more answers a) ∙ sym (append_assoc b.tables (tables_of answers) a.tables)

  edits_more : (answers : List Answer) (a : Answer) → edits_of (answers ++ a ∷ []) ≡ edits_of answers ++ a.edit
  edits_more [] a = append-nil a.edit
  edits_more (b ∷ answers) a = ap (λ (bs : List ℕ). b.edit ++ bs) (edits_more answers a) ∙ sym (append_assoc b.edit (edits_of answers) a.edit)

  own_place : (i : InputFile) (d : DeletedFile) → deletion_of i ≡ d → is_same_place (place_of (as_file i)) d ≡ true
  own_place i d is =
      subst (λ (x : DeletedFile). is_same_place (place_of (as_file i)) x ≡ true) is (
      ap (λ (b : Bool). b && (nat_eq i.meta.number i.meta.number)) (eq-eqb i.level i.level refl) ∙ eq-eqb i.meta.number i.meta.number refl
      )

  -- and each later one, of which the inputs are files of the first version
  pub joined_on : (answers : List Answer) (w : State) (held : List (ℕ × List ℕ)) (last : ℕ) (joined : Joined answers w held last) (state : IsState v.pointers v.files) (lawful_first : IsLawful cmp v tables)
      (p : PickedInputs) (rest : List PickedInputs) (here : Stands w held last (p ∷ rest)) (share : ShareNoFile (p ∷ rest)) (first : AreInputsOver cmp v p) (a : Answer) (answered : part_result cmp short_keys v loaded s last p ≡ Ok a)
      → Joined (answers ++ a ∷ []) (next w held last p rest here share a answered) (next_held w held last p rest here share a answered) (next_last last a)
  joined_on answers w held last joined state lawful_first p rest here share first a answered =
      let t = step w held last p rest here share a answered in
      let f = own_edit t in
      let more = tables_more answers a in
      let numbers = ap numbers_of more ∙ numbers_joined (tables_of answers) a.tables in
      record {
        edit = joined_edit joined.edit f;
        read = subst (λ (b : List ℕ). IsEdit b (joined_edit joined.edit f)) (sym (edits_more answers a)) (edits_join (edits_of answers) a.edit joined.edit f joined.read t.is_edit);
        makes = joined_applies v w (after t) joined.edit f state joined.makes t.applies places apart;
        unnamed = joined.unnamed;
        log_set = refl;
        previous_set = refl;
        last_set = refl;
        next_set = edit_next t;
        added =
            map-append (λ (x : NewFile). x.meta.number) joined.edit.added f.added
            ∙ ap (λ (ns : List ℕ). ns ++ map (λ (x : NewFile). x.meta.number) f.added) joined.added
            ∙ ap (λ (ns : List ℕ). numbers_of (tables_of answers) ++ ns) (added_numbers t)
            ∙ sym numbers;
        numbers = λ n at. elim (among_append (numbers_of (tables_of answers)) (numbers_of a.tables) n (subst (λ (ns : List ℕ). IsOneOf ns n) numbers at)) [
          | inl old ↦ (let x = joined.numbers n old in (x.0, omega (arith, x.1)))
          | inr new ↦ (let x = output_within w held last p rest here share a answered n new in let le = here.rises in (omega (arith, x.0, le), x.1))
        ];
        laid =
            ap (next_version_tables cmp (after t) a.tables) joined.laid
            ∙ laid_twice cmp w (after t) (tables_of answers) a.tables loaded from
            (λ n new old. let x = output_within w held last p rest here share a answered n new in let y = joined.numbers n old in omega (arith, x.0, y.1))
            ∙ ap (λ (ts : List (ℕ × List ℕ)). next_version_tables cmp (after t) ts loaded) (sym more);
        small = next_small w held last p rest here share a answered;
        higher = let lt = joined.higher in omega (arith, lt);
      }
    where
      first_below : (i : InputFile) → Contains p.files i → i.meta.number < manifest_of v
      first_below i at = by v.next_file (All-contains (λ (x : NewFile). IsBelowNextFile v.next_file x.meta.number) v.files (as_file i) lawful_first.below_next (first.files i at))
        where
          by : (o : Option ℕ) → IsBelowNextFile o i.meta.number → i.meta.number < unwrap_or o 0
          by None h = absurd h
          by (Some n) h = h

      places : list_all (has_place v.files) (own_edit (step w held last p rest here share a answered)).deleted ≡ true
      places = all_tests (has_place v.files) (own_edit (step w held last p rest here share a answered)).deleted (λ d at.
          let i = from_deleted w held last p rest here share a answered d at in
          any_at (λ (x : NewFile). is_same_place (place_of x) d) v.files (as_file i.0) (first.files i.0 i.1) (own_place i.0 d i.2))

      added_above : (x : NewFile) → Contains joined.edit.added x → manifest_of v < x.meta.number
      added_above x at = (joined.numbers x.meta.number (subst (λ (ns : List ℕ). IsOneOf ns x.meta.number) joined.added (one_number joined.edit.added x at))).0

      apart : AllByRecursion (λ (x : NewFile). is_deleted (own_edit (step w held last p rest here share a answered)).deleted x ≡ false) joined.edit.added
      apart = of_each (λ (x : NewFile). is_deleted (own_edit (step w held last p rest here share a answered)).deleted x ≡ false) joined.edit.added (λ x at.
          none_tests (is_same_place (place_of x)) (own_edit (step w held last p rest here share a answered)).deleted (λ d there.
          let i = from_deleted w held last p rest here share a answered d there in
          let low = first_below i.0 i.1 in
          let high = added_above x at in
          let is : i.0.meta.number ≡ d.number = ap (λ (y : DeletedFile). y.number) i.2 in
          other_place x d (omega (arith, low, high, is))))

      from : (n : ℕ) → IsOneOf (file_numbers cmp (after (step w held last p rest here share a answered))) n → IsOneOf (numbers_of a.tables) n ⊎ IsOneOf (file_numbers cmp w) n
      from n at = elim (after_edit w (after (step w held last p rest here share a answered)) (own_edit (step w held last p rest here share a answered)) (step w held last p rest here share a answered).applies n (in_files cmp (after (step w held last p rest here share a answered)) n at)) [
        | inl new ↦ inl (subst (λ (ns : List ℕ). IsOneOf ns n) (added_numbers (step w held last p rest here share a answered)) new)
        | inr old ↦ inr (in_version cmp w n here.low old)
      ]

  -- ---- the edited version

  pub edited_version : (answers : List Answer) (w : State) (held : List (ℕ × List ℕ)) (last : ℕ) (rest : List PickedInputs) → Joined answers w held last → Stands w held last rest → IsLawful cmp v tables → v.next_file ≡ Some (manifest_of v) → 0 < manifest_of v
      → (bytes : List ℕ) (e : Edit) → IsEdit (edits_of answers) e → IsEdit bytes e → EditedVersion cmp v loaded tables s (record { tables = tables_of answers; edit = bytes })
  edited_version answers w held last rest joined here lawful_first free some bytes e read again =
      let same : joined.edit ≡ e = one_edit (edits_of answers) joined.edit e joined.read read in
      let manifest : manifest_of w ≡ last = ap (λ (o : Option ℕ). unwrap_or o 0) here.next_file in
      let higher = joined.higher in
      let small = joined.small in
      record {
        next = w;
        edited = record {
          edit = joined.edit;
          read = subst (IsEdit bytes) (sym same) again;
          no_name = joined.unnamed;
          log_number = joined.log_set;
          previous_log = joined.previous_set;
          last_sequence = joined.last_set;
          edited = joined.makes;
          added = joined.added;
          least = manifest_of v;
          first_free = free;
          below = λ n at.
              let f : HasNumber v.files n = number_of v.files n (in_files cmp v n at) in
              below_next v.next_file (manifest_of v) n free (subst (IsBelowNextFile v.next_file) (sym f.is) (All-contains (λ (x : NewFile). IsBelowNextFile v.next_file x.meta.number) v.files f.file lawful_first.below_next f.there));
          above = λ n at. let x = joined.numbers n at in omega (arith, x.0);
          manifest_above = omega arith;
          next_free = last;
          next_file = joined.next_set;
          manifest_below = higher;
        };
        last = here.last_is;
        some = some;
        rises = omega (arith, manifest, higher);
        small = omega (arith, manifest, small);
        answers = record { tables_next = here.own; lawful = subst (λ (ts : List (ℕ × List ℕ)). IsLawfulTables cmp w ts (Ok here.own)) joined.laid here.sound; gets = here.gets };
      }

  -- ---- rows, from the first version on

  -- what is known after the first parts, of which the rest remains
  abbrev pub Known : List Answer → ℕ → List PickedInputs → Type 0
  Known done last rest = ((done ≡ []) × (last ≡ manifest_of v) × Stands v loaded last rest)
      ⊎ ((w : State) × (held : List (ℕ × List ℕ)) × Joined done w held last × Stands w held last rest)

  pub known_on : (done : List Answer) (last : ℕ) (p : PickedInputs) (rest : List PickedInputs) (a : Answer) → IsState v.pointers v.files → IsLawful cmp v tables → Known done last (p ∷ rest) → ShareNoFile (p ∷ rest) → AreInputsOver cmp v p
      → part_result cmp short_keys v loaded s last p ≡ Ok a → Known (done ++ a ∷ []) (next_last last a) rest
  known_on done last p rest a state lawful_first (inr (w, held, joined, here)) share first answered =
      inr (
        next w held last p rest here share a answered,
        next_held w held last p rest here share a answered,
        joined_on done w held last joined state lawful_first p rest here share first a answered,
        next_stands w held last p rest here share a answered,
      )
  known_on done last p rest a state lawful_first (inl (none, is, here)) share first answered =
      subst (λ (d : List Answer). Known (d ++ a ∷ []) (next_last last a) rest) (sym none)
      (subst (λ (m : ℕ). Known (a ∷ []) (next_last m a) rest) (sym is) (inr (
        next v loaded (manifest_of v) p rest (subst (λ (k : ℕ). Stands v loaded k (p ∷ rest)) is here) share a (subst (λ (k : ℕ). part_result cmp short_keys v loaded s k p ≡ Ok a) is answered),
        next_held v loaded (manifest_of v) p rest (subst (λ (k : ℕ). Stands v loaded k (p ∷ rest)) is here) share a (subst (λ (k : ℕ). part_result cmp short_keys v loaded s k p ≡ Ok a) is answered),
        joined_first p rest (subst (λ (k : ℕ). Stands v loaded k (p ∷ rest)) is here) share a (subst (λ (k : ℕ). part_result cmp short_keys v loaded s k p ≡ Ok a) is answered),
        next_stands v loaded (manifest_of v) p rest (subst (λ (k : ℕ). Stands v loaded k (p ∷ rest)) is here) share a (subst (λ (k : ℕ). part_result cmp short_keys v loaded s k p ≡ Ok a) is answered),
      )))

  -- the edits of some answers together make the edited version
  pub known_edited : (done : List Answer) (last : ℕ) (rest : List PickedInputs) → Known done last rest → done ≢ [] → IsLawful cmp v tables → v.next_file ≡ Some (manifest_of v) → 0 < manifest_of v
      → (bytes : List ℕ) (e : Edit) → IsEdit (edits_of done) e → IsEdit bytes e → EditedVersion cmp v loaded tables s (record { tables = tables_of done; edit = bytes })
  known_edited done last rest (inl (none, is, here)) there lawful_first free some bytes e read again = absurd (there none)
  known_edited done last rest (inr (w, held, joined, here)) there lawful_first free some bytes e read again =
      edited_version done w held last rest joined here lawful_first free some bytes e read again

  -- and they read as one
  pub known_read : (done : List Answer) (last : ℕ) (rest : List PickedInputs) → Known done last rest → done ≢ [] → (e : Edit) × IsEdit (edits_of done) e
  known_read done last rest (inl (none, is, here)) there = absurd (there none)
  known_read done last rest (inr (w, held, joined, here)) there = (joined.edit, joined.read)
