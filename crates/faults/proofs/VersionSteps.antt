-- What is told of a version: of its files, and then of its user keys.
use Rattle.std.proofs.Common.{◌≡◌, ℕ, ◌+◌, ◌-◌, ◌^◌, min, Bool, true, false, List, [], ◌++◌, length, map, get_or, Option, Result, Ok, IsErrAnd, refl, sym, ap, subst, ◌∙◌, append-nil, inl, inr, arith}
use Rattle.std.specs.Prelude.{◌⊎◌, Contains}
use Rattle.std.specs.BTreeSet.{insert_key}
use Rattle.std.specs.List.{filter, fold}
use Rattle.std.specs.Cmp.{IsTotalOrder}
use Rattle.std.proofs.lemmas.Bool.{and_parts}
use Rattle.std.proofs.lemmas.List.Elements.{Contains-append_cases, Contains-get_or}
use Rattle.table.specs.Answers.{UnlessMemory}
use Rattle.table.specs.fault.Fault.{Fault}
use Rattle.table.specs.Comparator.{IsExact, KeyOrder}
use Rattle.reads.specs.Ranges.{IsCover}
use Rattle.folder.specs.Version.{State}
use Rattle.folder.specs.meta.FileMeta.{FileMeta}
use Rattle.folder.specs.meta.NewFile.{NewFile}
use Rattle.folder.proofs.Inserted.{from_all}
use Rattle.folder.specs.Calls.{Files}
use Rattle.folder.specs.OpenAnswer.{FolderAnswers, IsStopped}
use Rattle.reads.proofs.Levels.{contains_in, is_in}
use Rattle.reads.proofs.Members.{from_filter, from_map}
use Rattle.reads.specs.FileList.{newer_number}
use Rattle.faults.specs.VersionFault.{VersionFault, OfKey}
use Rattle.faults.specs.AllFaults.{AreFaultsTold, all_files, told_count}
use Rattle.faults.specs.FileFaults.{faults_of_files}
use Rattle.faults.specs.Findings.{FoundFile, faults_of_found, found_file, searched_found}
use Rattle.faults.specs.KeyFaults.{is_deep, is_sound, is_top, metas_where, misplaced_keys, read_file, searched_entries, searched_files, searched_of}
use Rattle.faults.specs.RangeKeys.{AreSoundIn, keys_from}
use Rattle.faults.specs.ToldFaults.{IsBegun, IsPart, IsTold}
use Rattle.faults.specs.declared.fault_count.FaultCount.{FaultCount}
use Rattle.faults.proofs.FaultAnswers.{stopped_answer}
use Rattle.faults.proofs.FindingLemmas.{faults_same, searched_same}
use Rattle.faults.proofs.MisplacedLemmas.{ranges_are}
use Rattle.faults.proofs.SearchLemmas.{falling_total}
use Rattle.faults.proofs.TellingLemmas.{begun_at, count_most, none_told, part_then, told_begun, told_more, told_stops}

-- ---- the files that are searched are sound

module _ (cmp : KeyOrder) (files : Files) (all : List NewFile) where
  abbrev Sound : FileMeta → Type 0
  Sound f = is_sound cmp files f ≡ true

  sound_where : (test : NewFile → Bool) → ((f : NewFile) → test f ≡ true → Sound f.meta) → (m : FileMeta) → Contains (metas_where test all) m → Sound m
  sound_where test of m at =
      let from = from_map (λ (f : NewFile). f.meta) (filter test all) m at in
      subst Sound from.is (of from.source (from_filter test all from.source from.there).1)

  top_sound : (m : FileMeta) → Contains (metas_where (is_top cmp files) all) m → Sound m
  top_sound = sound_where (is_top cmp files) (λ f h. (and_parts _ (is_sound cmp files f.meta) h).1)

  deep_sound : (m : FileMeta) → Contains (metas_where (is_deep cmp files) all) m → Sound m
  deep_sound = sound_where (is_deep cmp files) (λ f h. (and_parts _ (is_sound cmp files f.meta) h).1)

  sorted_from : (tops : List FileMeta) (m : FileMeta) → Contains (fold (insert_key newer_number) [] tops) m → Contains tops m
  sorted_from tops m at = elim (from_all newer_number falling_total [] tops m (is_in (fold (insert_key newer_number) [] tops) m at)) [
    | inl none ↦ absurd none
    | inr there ↦ contains_in tops m there
  ]

  pub all_sound : AreSoundIn cmp files (searched_files cmp files all)
  all_sound k d lt =
      let tops = metas_where (is_top cmp files) all in
      let deep = metas_where (is_deep cmp files) all in
      let m : FileMeta = get_or (searched_files cmp files all) k d in
      elim (Contains-append_cases (fold (insert_key newer_number) [] tops) deep m (Contains-get_or (searched_files cmp files all) k d lt)) [
        | inl top ↦ top_sound m (sorted_from tops m top)
        | inr other ↦ deep_sound m other
      ]

-- ---- what is told

none_more : (n : ℕ) → 0 + n ≡ n
none_more n = omega arith

module _ {T : Type 0} (tells : T → VersionFault → Bool → T → Type 0) (faults : List VersionFault) (old new : T) (before now : ℕ) where
  pub faults_told : (r : Result ℕ Fault) (after : FaultCount) → r ≡ Ok after.count → IsTold tells faults old 0 new after → AreFaultsTold tells faults old new before now r
  faults_told r after is h = record {
    told = h.part.told;
    untold = h.untold;
    parts = h.part.parts;
    goes = after.goes;
    taker = h.part.taker;
    answer = subst (λ (a : Result ℕ Fault). FolderAnswers (λ count. count) before now a (λ answer. (answer ≡ Ok (told_count h.part.told)) × ((h.untold ≡ []) ⊎ (after.goes ≡ false)))) (sym is)
        (ap (λ (n : ℕ). let a : Result ℕ Fault = Ok n in a) (h.part.counted ∙ count_most 0 h.part.told (omega arith) ∙ ap (λ (n : ℕ). min n (2 ^ 64 - 1)) (none_more (length h.part.told))), h.ended);
  }

  pub faults_begun : (r : Result ℕ Fault) (e : Fault) → IsErrAnd r (λ f. f ≡ e) → IsBegun tells faults old 0 new → UnlessMemory e (IsStopped before now e) → AreFaultsTold tells faults old new before now r
  faults_begun r e is h stopped = record {
    told = h.part.told;
    untold = h.untold;
    parts = h.part.parts;
    goes = h.after.goes;
    taker = h.part.taker;
    answer = stopped_answer (λ count. count) before now r (λ answer. (answer ≡ Ok (told_count h.part.told)) × ((h.untold ≡ []) ⊎ (h.after.goes ≡ false))) e is stopped;
  }

-- ---- of the files, and then of the keys

abbrev begins : FaultCount
begins = record { count = 0; goes = true }

module _ (cmp : KeyOrder) (files : Files) (v : State) where
  abbrev all_of : List NewFile
  all_of = all_files cmp v

  abbrev IsFound : List FoundFile → Type 0
  IsFound found = found ≡ map (found_file cmp files) all_of

  pub found_is : (lent : List NewFile) (tested found : List FoundFile) → lent ≡ all_of → tested ≡ map (found_file cmp files) lent → found ≡ tested → IsFound found
  found_is lent tested found order is same = same ∙ is ∙ ap (map (found_file cmp files)) order

  module _ {T : Type 0} (tells : T → VersionFault → Bool → T → Type 0) (old : T) (before : ℕ) where
    abbrev front : List VersionFault
    front = faults_of_files cmp files v.next_file all_of

    abbrev keys : List VersionFault
    keys = map OfKey (misplaced_keys cmp (searched_entries cmp files all_of))

    abbrev whole : List VersionFault
    whole = front ++ keys

    start : IsPart tells whole old 0 whole old begins
    start = none_told tells whole old begins refl

    -- a refusal before any file
    pub refused_first : (now : ℕ) (r : Result ℕ Fault) (e : Fault) → IsErrAnd r (λ f. f ≡ e) → UnlessMemory e (IsStopped before now e) → AreFaultsTold tells whole old old before now r
    refused_first now r e is stopped = faults_begun tells whole old old before now r e is (begun_at tells whole whole old old 0 begins start refl) stopped

    module _ (next : Option ℕ) (found : List FoundFile) (own : next ≡ v.next_file) (is_found : IsFound found) where
      front_is : faults_of_found cmp next found ≡ front
      front_is = ap (λ (n : Option ℕ). faults_of_found cmp n found) own ∙ ap (faults_of_found cmp v.next_file) is_found ∙ faults_same cmp files v.next_file all_of

      -- one among the files
      pub refused_files : (new : T) (now : ℕ) (r : Result ℕ Fault) (e : Fault) → IsErrAnd r (λ f. f ≡ e) → IsBegun tells (faults_of_found cmp next found) old 0 new → UnlessMemory e (IsStopped before now e) → AreFaultsTold tells whole old new before now r
      refused_files new now r e is h stopped =
          faults_begun tells whole old new before now r e is (told_begun tells whole front keys old old new 0 begins refl start (subst (λ (fs : List VersionFault). IsBegun tells fs old 0 new) front_is h)) stopped

      module _ (mid : T) (m : FaultCount) (told : IsTold tells (faults_of_found cmp next found) old 0 mid m) where
        files_told : IsTold tells front old 0 mid m
        files_told = subst (λ (fs : List VersionFault). IsTold tells fs old 0 mid m) front_is told

        -- the taker said to stop there
        pub stopped_files : (now : ℕ) → m.goes ≡ false → AreFaultsTold tells whole old mid before now (Ok m.count)
        stopped_files now stops = faults_told tells whole old mid before now (Ok m.count) m refl (told_stops tells whole front keys old old mid 0 begins refl start m files_told stops)

        module _ (more : m.goes ≡ true) where
          files_done : IsPart tells whole old 0 keys mid m
          files_done = told_more tells whole front keys old old mid 0 begins refl start m files_told more

          -- a refusal before any key
          pub refused_between : (now : ℕ) (r : Result ℕ Fault) (e : Fault) → IsErrAnd r (λ f. f ≡ e) → UnlessMemory e (IsStopped before now e) → AreFaultsTold tells whole old mid before now r
          refused_between now r e is stopped = faults_begun tells whole old mid before now r e is (begun_at tells whole keys old mid 0 m files_done more) stopped

          module _ (total : IsTotalOrder cmp) (exact : IsExact cmp) (boundaries : List (List ℕ)) (cover : IsCover cmp boundaries) (metas : List FileMeta) (searched : metas ≡ searched_files cmp files all_of) where
            abbrev ranges : List VersionFault
            ranges = map OfKey (keys_from cmp boundaries (misplaced_keys cmp (searched_of (map (read_file cmp files) metas))) 0 (length boundaries + 1))

            keys_are : ranges ≡ keys
            keys_are =
                ap (λ (ms : List FileMeta). map OfKey (keys_from cmp boundaries (misplaced_keys cmp (searched_of (map (read_file cmp files) ms))) 0 (length boundaries + 1))) searched
                ∙ ap (map OfKey) (ranges_are cmp total exact (searched_entries cmp files all_of) boundaries cover)

            last_part : IsPart tells whole old 0 (keys ++ []) mid m
            last_part = subst (λ (fs : List VersionFault). IsPart tells whole old 0 fs mid m) (sym (append-nil keys)) files_done

            -- one among the keys
            pub refused_keys : (new : T) (now : ℕ) (r : Result ℕ Fault) (e : Fault) → IsErrAnd r (λ f. f ≡ e) → IsBegun tells ranges mid m.count new → UnlessMemory e (IsStopped before now e) → AreFaultsTold tells whole old new before now r
            refused_keys new now r e is k stopped =
                faults_begun tells whole old new before now r e is (told_begun tells whole keys [] old mid new 0 m more last_part (subst (λ (fs : List VersionFault). IsBegun tells fs mid m.count new) keys_are k)) stopped

            -- all of the keys, or the taker said to stop
            pub told_keys : (new : T) (now : ℕ) (after : FaultCount) → IsTold tells ranges mid m.count new after → AreFaultsTold tells whole old new before now (Ok after.count)
            told_keys new now after k =
                let h : IsTold tells keys mid m.count new after = subst (λ (fs : List VersionFault). IsTold tells fs mid m.count new after) keys_are k in
                faults_told tells whole old new before now (Ok after.count) after refl (record {
                  untold = h.untold ++ [];
                  part = part_then tells whole keys [] old mid new 0 m more last_part after h.untold h.part;
                  ended = elim h.ended [ inl all ↦ inl (append-nil h.untold ∙ all) | inr stops ↦ inr stops ];
                })

  -- the files that are searched
  module _ (found : List FoundFile) (is_found : IsFound found) (metas : List FileMeta) (own : metas ≡ searched_found found) where
    pub metas_are : metas ≡ searched_files cmp files all_of
    metas_are = own ∙ ap searched_found is_found ∙ searched_same cmp files all_of

    pub metas_sound : AreSoundIn cmp files metas
    metas_sound = subst (AreSoundIn cmp files) (sym metas_are) (all_sound cmp files all_of)
