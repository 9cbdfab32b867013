-- The answers of parts whose tables were written, one after the other.
use Rattle.std.proofs.Common.{◌≡◌, ℕ, zero, suc, ◌+◌, ◌-◌, ◌<◌, ◌≤◌, ◌^◌, Bool, true, List, [], ◌∷◌, ◌++◌, append_assoc, length, map, slice_get, Some, None, Option, Result, Ok, Err, refl, sym, ap, subst, ◌∙◌, inl, inr, arith}
use Rattle.std.specs.Prelude.{Contains, nat_lt, unwrap_or}
use Rattle.std.specs.List.{All}
use Rattle.std.specs.Cmp.{IsTotalOrder}
use Rattle.std.specs.declared.cmp.Ordering.{Ordering}
use Rattle.std.proofs.lemmas.Bool.Decides.{nat_tests}
use Rattle.std.proofs.lemmas.List.{append-nil, map-append}
use Rattle.std.proofs.lemmas.List.Elements.{All-contains}
use Rattle.std.proofs.lemmas.Grind.{flat_map-append}
use Rattle.edit.specs.Key.{IsInternalKey}
use Rattle.edit.specs.Answers.{◌>>=◌}
use Rattle.edit.specs.fault.Fault.{Fault}
use Rattle.edit.specs.fault.FaultName.TheVariants.{Numbers}
use Rattle.edit.specs.Comparator.{IsExact, ShortKeys}
use Rattle.edit.specs.Version.{IsState, State}
use Rattle.edit.specs.declared.meta.NewFile.{NewFile}
use Rattle.folder.specs.Calls.{Done, Files, Step, Tells}
use Rattle.folder.specs.CallSequence.{TellsThrough}
use Rattle.folder.specs.ReadsAs.{ReadsAs}
use Rattle.folder.specs.declared.folder.Folder.{Ghosts}
use Rattle.folder.specs.declared.order.Order.{Order}
use Rattle.install.specs.GroupedInstallation.{tables_of_groups}
use Rattle.install.specs.Install.{table_calls}
use Rattle.install.proofs.Edited.{outputs_free}
use Rattle.install.proofs.Outputs.{AreApart}
use Rattle.pick.specs.Parts.{ArePartsBy, IsPartsAnswer, part_inputs, part_key}
use Rattle.pick.specs.PickedInputs.{PickedInputs}
use Rattle.keep.specs.Lawful.{IsBelowNextFile, IsLawful}
use Rattle.keep.specs.Tables.{NumberedContents}
use Rattle.keep.specs.TestResult.{test_result}
use Rattle.keep.proofs.Members.{first_in, from_map, later_in, none_in}
use Rattle.table.specs.ReadBackLaw.{ReadBackLaw}
use Rattle.checks.specs.LawfulTables.{IsLawfulTables}
use Rattle.checks.proofs.LawfulLemmas.{sound_lawful}
use Rattle.compact.specs.InputsOver.{AreInputsOver, as_file}
use Rattle.compact.specs.OneThread.{Answer}
use Rattle.compact.specs.PassedRequest.{PassedLaw}
use Rattle.compact.specs.declared.settings.Settings.{Settings}
use Rattle.store.specs.FolderRequest.{compaction_from, manifest_of, request_from}
use Rattle.store.specs.InputsCompaction.{input_numbers}
use Rattle.levels.specs.WholeRuns.{GroupedAnswer}
use Rattle.store.specs.PickedOutcome.{IsPickedCompacted}
use Rattle.store.proofs.ClosedJoint.{some_input}
use Rattle.store.proofs.Flow.{loaded_in}
use Rattle.store.proofs.PartFiles.{AreParts, ArePlaced, answered}
use Rattle.store.proofs.PlacedInputs.{same_compaction}
use Rattle.levels.specs.PartsEnd.{last_after}
use Rattle.levels.specs.WholeAnswer.{edits_of, next_last, part_result, parts_result, tables_of}
use Rattle.levels.specs.WholeRuns.{ArePartLinks, answers_in, groups_in}
use Rattle.levels.proofs.FewOutputs.{first_told}
use Rattle.levels.proofs.PartsBase.{ShareNoFile, stands_apart}
use Rattle.levels.proofs.SelectedParts.{AreAmong, among_placed, among_share, in_all}
use Rattle.levels.proofs.Rows.{Known, edited_version, known_on}
use Rattle.levels.specs.ApartParts.{StandApart}
use Rattle.levels.proofs.TablesStand.{read_after}

-- ---- answers of the first parts

module _ (cmp : List ℕ → List ℕ → Ordering) (short_keys : ShortKeys) (v : State) (loaded : List (ℕ × List ℕ)) (s : Settings) where
  -- these are the answers of the first of these parts
  abbrev pub AreAnswered : ℕ → List PickedInputs → List Answer → Type 0
  AreAnswered last parts [] = Unit {0}
  AreAnswered last [] (a ∷ answers) = ⊥
  AreAnswered last (p ∷ parts) (a ∷ answers) = (part_result cmp short_keys v loaded s last p ≡ Ok a) × AreAnswered (next_last last a) parts answers

  abbrev after_first : ℕ → List PickedInputs → Answer → Result (List Answer) Fault
  after_first last parts a = parts_result cmp short_keys v loaded s (next_last last a) parts >>= λ rest. Ok (a ∷ rest)

  no_more : (n : ℕ) → zero ≡ suc n → ⊥
  no_more n h = cc

  one_less : (m n : ℕ) → suc m ≡ suc n → m ≡ n
  one_less m n h = cc

  -- of all parts, if there are as many
  pub all_answered : (last : ℕ) (parts : List PickedInputs) (answers : List Answer) → length answers ≡ length parts → AreAnswered last parts answers → parts_result cmp short_keys v loaded s last parts ≡ Ok answers
  all_answered last [] [] same h = refl
  all_answered last [] (a ∷ answers) same h = absurd h
  all_answered last (p ∷ parts) [] same h = absurd (no_more (length parts) same)
  all_answered last (p ∷ parts) (a ∷ answers) same h =
      ap (λ (r : Result Answer Fault). r >>= after_first last parts) h.0
      ∙ ap (λ (r : Result (List Answer) Fault). r >>= λ rest. Ok (a ∷ rest)) (all_answered (next_last last a) parts answers (one_less (length answers) (length parts) same) h.1)

  same_part : (q p : PickedInputs) → Some q ≡ Some p → q ≡ p
  same_part q p h = cc h

  no_part : (p : PickedInputs) (k : ℕ) → slice_get [] k ≡ Some p → ⊥
  no_part p k h = cc h

  -- the refusal of the next part is that of all
  pub next_refused : (last : ℕ) (parts : List PickedInputs) (answers : List Answer) (p : PickedInputs) (e : Fault) → AreAnswered last parts answers → slice_get parts (length answers) ≡ Some p
      → part_result cmp short_keys v loaded s (last_after last answers) p ≡ Err e → parts_result cmp short_keys v loaded s last parts ≡ Err e
  next_refused last [] [] p e h next refused = absurd (no_part p zero next)
  next_refused last (q ∷ parts) [] p e h next refused =
      ap (λ (x : PickedInputs). part_result cmp short_keys v loaded s last x >>= after_first last parts) (same_part q p next)
      ∙ ap (λ (r : Result Answer Fault). r >>= after_first last parts) refused
  next_refused last [] (a ∷ answers) p e h next refused = absurd h
  next_refused last (q ∷ parts) (a ∷ answers) p e h next refused =
      ap (λ (r : Result Answer Fault). r >>= after_first last parts) h.0
      ∙ ap (λ (r : Result (List Answer) Fault). r >>= λ rest. Ok (a ∷ rest)) (next_refused (next_last last a) parts answers p e h.1 next refused)

-- a number is left before a part that is answered
pub answered_part : (cmp : List ℕ → List ℕ → Ordering) (short_keys : ShortKeys) (v : State) (loaded : List (ℕ × List ℕ)) (s : Settings) (last : ℕ) (p : PickedInputs) (a : Answer)
    → compaction_from (Some (last + 1)) cmp short_keys v loaded p s ≡ Ok a → part_result cmp short_keys v loaded s last p ≡ Ok a
answered_part cmp short_keys v loaded s last p a h =
    ap (λ (b : Bool). test_result b Numbers >>= λ _. compaction_from (Some (last + 1)) cmp short_keys v loaded p s) left ∙ h
  where
    left : nat_lt last (2 ^ 64 - 1) ≡ true
    left = let few = (first_told cmp short_keys v loaded p s (last + 1) a h).few in let lt : last < 2 ^ 64 - 1 = omega (arith, few) in grind (arith, nat_tests, lt)

groups_joined : (one two : List (List (ℕ × List ℕ))) → table_calls (one ++ two) ≡ table_calls one ++ table_calls two
groups_joined one two = map-append _ one two

-- ---- all parts of a level set one key

pub one_key : (cmp : List ℕ → List ℕ → Ordering) (v : State) (level : ℕ) (parts : List PickedInputs) → IsPartsAnswer cmp v level (Ok parts) → (p q : PickedInputs) → Contains parts p → Contains parts q → p.pointer.key ≡ q.pointer.key
one_key cmp v level parts h p q at to = by (part_key cmp v level) told.by_key
  where
    told : AreParts cmp v level parts
    told = answered cmp v level parts h

    by : (key : Option (List ℕ)) → ArePartsBy cmp v level key parts → p.pointer.key ≡ q.pointer.key
    by None none = absurd (none_in p (subst (λ (l : List PickedInputs). Contains l p) none at))
    by (Some key) are =
        let x = from_map (part_inputs cmp v level key) are.parts p (subst (λ (l : List PickedInputs). Contains l p) are.these at) in
        let y = from_map (part_inputs cmp v level key) are.parts q (subst (λ (l : List PickedInputs). Contains l q) are.these to) in
        sym (ap (λ (z : PickedInputs). z.pointer.key) x.is) ∙ ap (λ (z : PickedInputs). z.pointer.key) y.is

next_is : (next : Option ℕ) (number : ℕ) → IsBelowNextFile next number → (next ≡ Some (unwrap_or next 0)) × (0 < unwrap_or next 0)
next_is None number h = absurd h
next_is (Some n) number h = (refl, omega (arith, h))

-- ---- rows of links

module _ (cmp : List ℕ → List ℕ → Ordering) (total : IsTotalOrder cmp) (exact : IsExact cmp) (short_keys : ShortKeys) (reads_back : ReadBackLaw cmp short_keys) (passes : PassedLaw cmp)
    {F : Type 0} (g : Ghosts F) (order : Order) (first : F) (files : Files) (told : Tells (g.tells first) files)
    (v : State) (loaded : List (ℕ × List ℕ)) (tables : List NumberedContents) (reads : ReadsAs cmp order v loaded files) (sound : IsLawfulTables cmp v loaded (Ok tables)) (state : IsState v.pointers v.files)
    (log : unwrap_or v.log_number 0 < 2 ^ 64) (previous : unwrap_or v.previous_log 0 < 2 ^ 64)
    (s : Settings) (level : ℕ) (five : level ≤ 5) where
  lawful : IsLawful cmp v tables
  lawful = sound_lawful cmp v loaded tables sound

  abbrev pub KnownRow : List Answer → ℕ → List PickedInputs → Type 0
  KnownRow done last rest = Known cmp total exact short_keys reads_back passes v loaded tables s level five log previous done last rest

  -- a part as it stands in the version
  pub record IsPlacedPart (p : PickedInputs) : Type 0 where
    pub over : AreInputsOver cmp v p
    pub placed : ArePlaced v p

  -- what was compacted of inputs that were read later is the answer of the version
  pub same_answer : (now : Files) → ReadsAs cmp order v loaded now → (at : F) → Tells (g.tells at) now → (p : PickedInputs) → ArePlaced v p → (n : ℕ) (a : Answer)
      → IsPickedCompacted (Some n) cmp short_keys (g.tells at) v s p a → compaction_from (Some n) cmp short_keys v loaded p s ≡ Ok a
  same_answer now still at tells p placed n a h =
      sym (same_compaction cmp total now v loaded tables still.loaded sound p placed h.loaded (loaded_in (g.tells at) now (input_numbers p.files) (Ok h.loaded) tells h.read) (Some n) short_keys s)
      ∙ h.answered

  module _ (free : v.next_file ≡ Some (manifest_of v)) (some : 0 < manifest_of v) where
    -- the names of the tables so far are free
    pub free_names : (done : List Answer) (last : ℕ) (rest : List PickedInputs) (groups : List (List (ℕ × List ℕ))) → KnownRow done last rest → tables_of_groups groups ≡ tables_of done → AreApart cmp v (tables_of_groups groups) []
    free_names done last rest groups (inl (none, is, here)) joined =
        subst (λ (ts : List (ℕ × List ℕ)). AreApart cmp v ts []) (sym (joined ∙ ap tables_of none)) tt
    free_names done last rest groups (inr (w, held, row, here)) joined =
        let edited = edited_version cmp total exact short_keys reads_back passes v loaded tables s level five log previous done w held last rest row here lawful free some (edits_of done) row.edit row.read row.read in
        let small = edited.small in
        let rises = edited.rises in
        subst (λ (ts : List (ℕ × List ℕ)). AreApart cmp v ts []) (sym joined) (outputs_free cmp order v edited.next (manifest_of v) (tables_of done) (edits_of done) edited.edited (omega (arith, small, rises)))

    pub record RowEnd (done : List Answer) (groups : List (List (ℕ × List ℕ))) (last : ℕ) (parts : List PickedInputs) (links : List GroupedAnswer) : Type 0 where
      pub rest : List PickedInputs
      pub known : KnownRow (done ++ answers_in links) (last_after last (answers_in links)) rest
      pub answered : AreAnswered cmp short_keys v loaded s last parts (answers_in links)
      pub joined : tables_of_groups (groups ++ groups_in links) ≡ tables_of (done ++ answers_in links)

    pub row_on : (done : List Answer) (groups : List (List (ℕ × List ℕ))) (last : ℕ) (parts : List PickedInputs) (links : List GroupedAnswer) → KnownRow done last parts → tables_of_groups groups ≡ tables_of done → ShareNoFile parts
        → ((p : PickedInputs) → Contains parts p → IsPlacedPart p) → (so_far : List Step) → so_far ≡ map Done (table_calls groups) → ArePartLinks g first so_far cmp short_keys v s last parts links → RowEnd done groups last parts links
    row_on done groups last parts [] known joined share placed so_far is chain = record {
      rest = parts;
      known = subst (λ (d : List Answer). KnownRow d last parts) (sym (append-nil done)) known;
      answered = tt;
      joined = ap tables_of_groups (append-nil groups) ∙ joined ∙ sym (ap tables_of (append-nil done));
    }
    row_on done groups last [] (l ∷ links) known joined share placed so_far is chain = absurd chain
    row_on done groups last (p ∷ parts) (l ∷ links) known joined share placed so_far is chain =
        let link = chain.0 in
        let mine = placed p (first_in p parts) in
        let apart = free_names done last (p ∷ parts) groups known joined in
        let now = read_after cmp order v loaded groups apart files (g.tells first) (g.tells link.at) told reads (subst (λ (t : List Step). TellsThrough t (g.tells first) (g.tells link.at)) is link.made.change) in
        let answer = answered_part cmp short_keys v loaded s last p l.answer (same_answer now.0 now.2 link.at now.1 p mine.placed (last + 1) l.answer link.compacted) in
        let one = known_on cmp total exact short_keys reads_back passes v loaded tables s level five log previous done last p parts l.answer state lawful known share mine.over answer in
        let more : tables_of_groups (groups ++ l.groups) ≡ tables_of (done ++ l.answer ∷ []) =
        flat_map-append _ groups l.groups ∙ ap (λ (ts : List (ℕ × List ℕ)). ts ++ tables_of_groups l.groups) joined ∙ ap (λ (ts : List (ℕ × List ℕ)). tables_of done ++ ts) (link.together ∙ sym (append-nil l.answer.tables))
        ∙ sym (flat_map-append _ done (l.answer ∷ [])) in
        let calls : so_far ++ map Done (table_calls l.groups) ≡ map Done (table_calls (groups ++ l.groups)) =
        ap (λ (t : List Step). t ++ map Done (table_calls l.groups)) is ∙ sym (map-append Done (table_calls groups) (table_calls l.groups)) ∙ sym (ap (map Done) (groups_joined groups l.groups)) in
        let end = row_on (done ++ l.answer ∷ []) (groups ++ l.groups) (next_last last l.answer) parts links one more share.1 (λ q at. placed q (later_in p parts q at)) (so_far ++ map Done (table_calls l.groups)) calls chain.1 in
        record {
          rest = end.rest;
          known = subst (λ (d : List Answer). KnownRow d (last_after (next_last last l.answer) (answers_in links)) end.rest) (append_assoc done (l.answer ∷ []) (answers_in links)) end.known;
          answered = (answer, end.answered);
          joined = ap tables_of_groups (sym (append_assoc groups l.groups (groups_in links))) ∙ end.joined ∙ ap tables_of (append_assoc done (l.answer ∷ []) (answers_in links));
        }

  -- ---- from the first link on

  module _ (parts : List PickedInputs) (are : AreAmong cmp v level parts) where
    pub record WholeRow (links : List GroupedAnswer) : Type 0 where
      pub free : v.next_file ≡ Some (manifest_of v)
      pub some : 0 < manifest_of v
      pub rest : List PickedInputs
      pub known : KnownRow (answers_in links) (last_after (manifest_of v) (answers_in links)) rest
      pub answered : AreAnswered cmp short_keys v loaded s (manifest_of v) parts (answers_in links)
      pub joined : tables_of_groups (groups_in links) ≡ tables_of (answers_in links)
      pub names : AreApart cmp v (tables_of_groups (groups_in links)) []

    low : All (λ (f : NewFile). f.level ≤ 6) v.files
    low = state.levels.file_levels

  pub whole_row : (parts : List PickedInputs) (are : AreAmong cmp v level parts) (l : GroupedAnswer) (links : List GroupedAnswer) → ArePartLinks g first [] cmp short_keys v s (manifest_of v) parts (l ∷ links) → WholeRow parts are (l ∷ links)
  whole_row [] are l links chain = absurd chain
  whole_row (p ∷ parts) are l links chain =
      let link = chain.0 in
      let own : (q : PickedInputs) → Contains (p ∷ parts) q → Contains are.all q = in_all cmp v level (p ∷ parts) are in
      let key : (q : PickedInputs) → Contains (p ∷ parts) q → IsInternalKey q.pointer.key =
      λ q at. subst IsInternalKey (one_key cmp v level are.all are.are p q (own p (first_in p parts)) (own q at)) link.pointer in
      let apart : (q : PickedInputs) → Contains (p ∷ parts) q → StandApart cmp v level q =
      λ q at. stands_apart cmp total v tables lawful (low (p ∷ parts) are) level are.all are.are q (own q at) (key q at) in
      let placed = among_placed cmp v level total (p ∷ parts) are in
      let mine = placed p (first_in p parts) in
      let now = read_after cmp order v loaded [] tt files (g.tells first) (g.tells link.at) told reads link.made.change in
      let told_first = first_told cmp short_keys v loaded p s (manifest_of v + 1) l.answer (same_answer now.0 now.2 link.at now.1 p mine (manifest_of v + 1) l.answer link.compacted) in
      let i = some_input p.files (passes (request_from (manifest_of v + 1) v loaded p s) told_first.tested).some in
      let next = next_is v.next_file i.0.meta.number (All-contains (λ (x : NewFile). IsBelowNextFile v.next_file x.meta.number) v.files (as_file i.0) lawful.below_next ((apart p (first_in p parts)).over.files i.0 i.1)) in
      let start : KnownRow [] (manifest_of v) (p ∷ parts) = inl (
        refl,
        refl,
        record {
          own = tables;
          sound = sound;
          gets = λ user at is. refl;
          log_is = refl;
          previous_is = refl;
          last_is = refl;
          next_file = next.0;
          low = low (p ∷ parts) are;
          rises = omega arith;
          remain = λ q at. record { stands = apart q at; bytes = λ j there. refl };
        },
      ) in
      let end = row_on next.0 next.1 [] [] (manifest_of v) (p ∷ parts) (l ∷ links) start refl (among_share cmp total v tables lawful level (p ∷ parts) are) (λ q at. record { over = (apart q at).over; placed = placed q at }) [] refl chain in
      record {
        free = next.0;
        some = next.1;
        rest = end.rest;
        known = end.known;
        answered = end.answered;
        joined = end.joined;
        names = free_names next.0 next.1 (answers_in (l ∷ links)) (last_after (manifest_of v) (answers_in (l ∷ links))) end.rest (groups_in (l ∷ links)) end.known end.joined;
      }
