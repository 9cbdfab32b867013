-- What is wrong with files, by what is found of their tables and by what these hold.
use Rattle.std.proofs.Common.{◌≡◌, ℕ, ◌+◌, ◌-◌, ◌<◌, Bool, true, false, cond, List, [], ◌∷◌, ◌++◌, length, map, take, drop, get_or, Option, Some, None, Result, Ok, Err, refl, sym, ap, subst, ◌∙◌, arith}
use Rattle.std.specs.Prelude.{◌&&◌, nat_eq, not, unwrap_or}
use Rattle.std.specs.List.{AllByRecursion, IsDistinct, filter, fold}
use Rattle.std.specs.BTreeSet.{insert_key}
use Rattle.std.specs.Option.{option_map, option_map_or}
use Rattle.std.proofs.lemmas.List.{length-drop, take_all}
use Rattle.table.specs.fault.Fault.{Fault}
use Rattle.table.specs.Comparator.{KeyOrder}
use Rattle.table.specs.EncodedEntry.{Entry}
use Rattle.table.specs.TableContents.{Contents}
use Rattle.folder.specs.meta.FileMeta.{FileMeta}
use Rattle.folder.specs.meta.NewFile.{NewFile}
use Rattle.folder.proofs.SortedFiles.{same_number}
use Rattle.folder.specs.Calls.{Files}
use Rattle.reads.specs.FileList.{same_file, newer_number, level_file_in}
use Rattle.reads.specs.StatedFiles.{is_below}
use Rattle.faults.specs.VersionFault.{VersionFault, OfFile}
use Rattle.faults.specs.FileFaults.{faults_of_files, file_faults, file_reading, overlap_faults, table_faults, unless}
use Rattle.faults.specs.KeyFaults.{is_as_stated, is_deep, is_top, metas_where, searched_files}
use Rattle.faults.specs.Findings.{FoundFile, faults_of_found, finding_faults, finding_of, found_faults, found_file, found_in, is_deep_found, is_sound_finding, is_top_found, metas_found, searched_found}
use Rattle.faults.specs.declared.file_fault.FileFault.{FileFault}
use Rattle.faults.specs.declared.file_fault.FileFault.TheVariants.{NotBelow}
use Rattle.faults.specs.declared.table_test.TestedFile.{TestedFile}
use Rattle.faults.specs.ToldFaults.{IsPart, IsTold}
use Rattle.faults.specs.declared.fault_count.FaultCount.{FaultCount}
use Rattle.faults.proofs.TellingLemmas.{next_of, told_more, told_stops}

-- the key of an entry that is there
pub key_there : (o : Option Entry) (key : List ℕ) → Some key ≡ option_map (λ e. e.key) o → key ≡ option_map_or (λ (e : Entry). e.key) o []
key_there o key h = ap (λ (p : Option (List ℕ)). option_map_or (λ (k : List ℕ). k) p []) h ∙ by o
  where
    by : (o : Option Entry) → option_map_or (λ (k : List ℕ). k) (option_map (λ (e : Entry). e.key) o) [] ≡ option_map_or (λ (e : Entry). e.key) o []
    by None = refl
    by (Some e) = refl

-- ---- one file

finding_same : (f : FileMeta) (r : Result Contents Fault) → finding_faults f (finding_of f r) ≡ table_faults f r
finding_same f (Ok x) = refl
finding_same f (Err e) = refl

pub sound_same : (f : FileMeta) (r : Result Contents Fault) → is_sound_finding f (finding_of f r) ≡ is_as_stated f r
sound_same f (Ok x) = refl
sound_same f (Err e) = refl

module _ (cmp : KeyOrder) (files : Files) where
  abbrev found : NewFile → FoundFile
  found f = found_file cmp files f

  abbrev own_file : FoundFile → NewFile
  own_file g = g.file

  files_again : (fs : List NewFile) → map own_file (map found fs) ≡ fs
  files_again [] = refl
  files_again (f ∷ fs) = ap (λ (gs : List NewFile). f ∷ gs) (files_again fs)

  found_same : (next : Option ℕ) (f : NewFile) (behind : List NewFile) → found_faults cmp next (found f) behind ≡ file_faults cmp files next f behind
  found_same next f behind = ap (λ (fs : List FileFault). unless (is_below next f.meta.number) (NotBelow (unwrap_or next 0)) ++ (fs ++ overlap_faults cmp f behind)) (finding_same f.meta (file_reading cmp files f.meta.number))

  -- ---- all files

  pub faults_same : (next : Option ℕ) (fs : List NewFile) → faults_of_found cmp next (map found fs) ≡ faults_of_files cmp files next fs
  faults_same next [] = refl
  faults_same next (f ∷ fs) =
      let rest : List VersionFault = faults_of_found cmp next (map found fs) in
      ap (λ (gs : List NewFile). map (OfFile f.meta.number) (found_faults cmp next (found f) gs) ++ rest) (files_again fs)
      ∙ ap (λ (xs : List FileFault). map (OfFile f.meta.number) xs ++ rest) (found_same next f fs)
      ∙ ap (λ (ys : List VersionFault). map (OfFile f.meta.number) (file_faults cmp files next f fs) ++ ys) (faults_same next fs)

  -- ---- those that are searched

  metas_same : (test : FoundFile → Bool) (own : NewFile → Bool) → ((f : NewFile) → test (found f) ≡ own f) → (fs : List NewFile) → metas_found test (map found fs) ≡ metas_where own fs
  metas_same test own same [] = refl
  metas_same test own same (f ∷ fs) =
      ap (λ (b : Bool). map (λ (g : FoundFile). g.file.meta) (cond b (found f ∷ filter test (map found fs)) (filter test (map found fs)))) (same f)
      ∙ by (own f) (metas_same test own same fs)
    where
      by : (b : Bool) → metas_found test (map found fs) ≡ metas_where own fs
          → map (λ (g : FoundFile). g.file.meta) (cond b (found f ∷ filter test (map found fs)) (filter test (map found fs))) ≡ map (λ (g : NewFile). g.meta) (cond b (f ∷ filter own fs) (filter own fs))
      by true rest = ap (λ (ms : List FileMeta). f.meta ∷ ms) rest
      by false rest = rest

  top_same : (f : NewFile) → is_top_found (found f) ≡ is_top cmp files f
  top_same f = ap (λ (b : Bool). nat_eq f.level 0 && b) (sound_same f.meta (file_reading cmp files f.meta.number))

  deep_same : (f : NewFile) → is_deep_found (found f) ≡ is_deep cmp files f
  deep_same f = ap (λ (b : Bool). not (nat_eq f.level 0) && b) (sound_same f.meta (file_reading cmp files f.meta.number))

  pub searched_same : (fs : List NewFile) → searched_found (map found fs) ≡ searched_files cmp files fs
  searched_same fs =
      ap (λ (ms : List FileMeta). fold (insert_key newer_number) [] ms ++ metas_found is_deep_found (map found fs)) (metas_same is_top_found (is_top cmp files) top_same fs)
      ∙ ap (λ (ms : List FileMeta). fold (insert_key newer_number) [] (metas_where (is_top cmp files) fs) ++ ms) (metas_same is_deep_found (is_deep cmp files) deep_same fs)

-- ---- files that were tested

pub files_found : (ts : List TestedFile) → map (λ (t : TestedFile). level_file_in t.file) ts ≡ map (λ (f : FoundFile). f.file) (map found_in ts)
files_found [] = refl
files_found (t ∷ ts) = ap (λ (fs : List NewFile). level_file_in t.file ∷ fs) (files_found ts)

-- the faults of the next file, and of those after it
next_file : (cmp : KeyOrder) (next : Option ℕ) (tested : List TestedFile) (i : ℕ) (t : TestedFile) (faults : List FileFault) → i < length tested → t ≡ get_or tested i t
    → found_faults cmp next (found_in t) (map (λ (t : TestedFile). level_file_in t.file) (take (length tested - (i + 1)) (drop (i + 1) tested))) ≡ faults
    → faults_of_found cmp next (map found_in (drop i tested)) ≡ map (OfFile t.file.meta.now.number) faults ++ faults_of_found cmp next (map found_in (drop (i + 1) tested))
next_file cmp next tested i t faults lt is own =
    let behind : List TestedFile = drop (i + 1) tested in
    let rest : List VersionFault = faults_of_found cmp next (map found_in behind) in
    let whole : take (length tested - (i + 1)) behind ≡ behind = take_all (length tested - (i + 1)) behind (omega (arith, length-drop (i + 1) tested)) in
    ap (faults_of_found cmp next) (next_of found_in tested i t lt is)
    ∙ ap (λ (fs : List NewFile). map (OfFile t.file.meta.now.number) (found_faults cmp next (found_in t) fs) ++ rest) (sym (files_found behind))
    ∙ ap (λ (ts : List TestedFile). map (OfFile t.file.meta.now.number) (found_faults cmp next (found_in t) (map (λ (t : TestedFile). level_file_in t.file) ts)) ++ rest) (sym whole)
    ∙ ap (λ (xs : List FileFault). map (OfFile t.file.meta.now.number) xs ++ rest) own

module _ {T : Type 0} (tells : T → VersionFault → Bool → T → Type 0) (cmp : KeyOrder) (next : Option ℕ) (tested : List TestedFile) (i : ℕ) (t : TestedFile) (faults : List FileFault) (lt : i < length tested) (is : t ≡ get_or tested i t)
    (own : found_faults cmp next (found_in t) (map (λ (t : TestedFile). level_file_in t.file) (take (length tested - (i + 1)) (drop (i + 1) tested))) ≡ faults) (old now new : T) (m n : FaultCount) (goes : m.goes ≡ true) where
  abbrev all : List VersionFault
  all = faults_of_found cmp next (map found_in tested)

  abbrev from : ℕ → List VersionFault
  from k = faults_of_found cmp next (map found_in (drop k tested))

  abbrev front : List VersionFault
  front = map (OfFile t.file.meta.now.number) faults

  module _ (p : IsPart tells all old 0 (from i) now m) (q : IsTold tells front now m.count new n) where
    there : IsPart tells all old 0 (front ++ from (i + 1)) now m
    there = subst (λ (fs : List VersionFault). IsPart tells all old 0 fs now m) (next_file cmp next tested i t faults lt is own) p

    -- all of the next file was told, and more is wanted
    pub next_files : n.goes ≡ true → IsPart tells all old 0 (from (i + 1)) new n
    next_files more = told_more tells all front (from (i + 1)) old now new 0 m goes there n q more

    -- the taker said to stop there
    pub files_stop : n.goes ≡ false → IsTold tells all old 0 new n
    files_stop stops = told_stops tells all front (from (i + 1)) old now new 0 m goes there n q stops

-- ---- their numbers

others_kept : {X : Type 0} (own : X → NewFile) (test : X → Bool) (f : NewFile) (xs : List X) → AllByRecursion (λ g. same_file f g ≡ false) (map own xs) → AllByRecursion (λ m. same_number f.meta m ≡ false) (map (λ x. (own x).meta) (filter test xs))
others_kept own test f [] h = tt
others_kept {X} own test f (x ∷ xs) h = by (test x) (others_kept own test f xs h.1)
  where
    by : (b : Bool) → AllByRecursion (λ m. same_number f.meta m ≡ false) (map (λ y. (own y).meta) (filter test xs))
        → AllByRecursion (λ m. same_number f.meta m ≡ false) (map (λ y. (own y).meta) (cond b (x ∷ filter test xs) (filter test xs)))
    by true rest = (h.0, rest)
    by false rest = rest

-- files whose numbers differ are so too if some are left out
pub distinct_kept : {X : Type 0} (own : X → NewFile) (test : X → Bool) (xs : List X) → IsDistinct same_file (map own xs) → IsDistinct same_number (map (λ x. (own x).meta) (filter test xs))
unfolding IsDistinct
distinct_kept own test [] h = tt
distinct_kept {X} own test (x ∷ xs) h = by (test x) (distinct_kept own test xs h.1)
  where
    by : (b : Bool) → IsDistinct same_number (map (λ y. (own y).meta) (filter test xs)) → IsDistinct same_number (map (λ y. (own y).meta) (cond b (x ∷ filter test xs) (filter test xs)))
    by true rest = (others_kept own test (own x) xs h.0, rest)
    by false rest = rest
