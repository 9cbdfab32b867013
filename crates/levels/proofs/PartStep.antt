-- One part that is compacted: its outputs, its edit, and the version after it.
use Rattle.std.proofs.Common.{◌≡◌, ℕ, ◌+◌, ◌-◌, ◌<◌, ◌≤◌, ◌^◌, Bool, true, false, not, if◌then◌else◌, List, [], ◌∷◌, ◌++◌, length, map, Some, None, Option, Result, Ok, sym, ap, subst, ◌∙◌, inl, inr, arith}
use Rattle.std.specs.Prelude.{◌&&◌, Contains, nat_le, nat_lt, unwrap_or}
use Rattle.std.specs.List.{All}
use Rattle.std.specs.List.Sorted.{IsPermutation}
use Rattle.std.specs.Option.{ok_or}
use Rattle.std.specs.Cmp.{IsTotalOrder}
use Rattle.std.specs.declared.cmp.Ordering.{Ordering}
use Rattle.std.proofs.lemmas.Bool.Decides.{nat_tests}
use Rattle.std.proofs.lemmas.List.{length-map}
use Rattle.std.proofs.lemmas.List.Elements.{Contains-append_left}
use Rattle.std.proofs.lemmas.List.Sorted.{Contains-permutation}
use Rattle.edit.proofs.Binds.{bind_ok}
use Rattle.edit.specs.Answers.{fault, ◌>>=◌}
use Rattle.edit.specs.fault.Fault.{Fault}
use Rattle.edit.specs.fault.FaultName.TheVariants.{Numbers, SplitCount, Workers}
use Rattle.edit.specs.Comparator.{IsExact, ShortKeys}
use Rattle.edit.specs.Edit.{Edit, IsEdit}
use Rattle.edit.specs.Version.{State, applied}
use Rattle.edit.specs.declared.meta.NewFile.{NewFile}
use Rattle.folder.specs.ReadsAs.{IsOneOf}
use Rattle.install.specs.Install.{numbers_of, table_bytes_of}
use Rattle.pick.specs.PickedInputs.{PickedInputs}
use Rattle.pick.specs.declared.picked_inputs.InputFile.{InputFile}
use Rattle.keep.specs.Lawful.{IsLawful}
use Rattle.keep.specs.Tables.{NumberedContents}
use Rattle.keep.specs.TestResult.{test_result}
use Rattle.keep.proofs.Members.{in_filter}
use Rattle.table.specs.ReadBackLaw.{ReadBackLaw}
use Rattle.checks.specs.TableReadings.{tables_reading}
use Rattle.compact.specs.ClosedInputs.{is_input}
use Rattle.compact.specs.EditAfter.{AreNumberedFrom, version_after}
use Rattle.compact.specs.EditOf.{edit_of, new_file, new_files}
use Rattle.compact.specs.GetsAfter.{staying_files}
use Rattle.compact.specs.OneThread.{Answer, compaction_result, one_thread}
use Rattle.compact.specs.OutputTables.{Output, numbered_tables}
use Rattle.compact.specs.PassedRequest.{PassedLaw}
use Rattle.compact.specs.Request.{RequestView}
use Rattle.compact.specs.declared.settings.Settings.{Settings}
use Rattle.compact.proofs.AppliedEdit.{edited, files_are}
use Rattle.compact.proofs.SafeInputs.{AreSafe}
use Rattle.compact.proofs.SurvivingReads.{edit_is}
use Rattle.store.specs.ClosedLaws.{EditedWithin}
use Rattle.store.specs.FolderRequest.{compaction_from, first_output, last_of, manifest_of, numbered_request, request_from}
use Rattle.store.proofs.ClosedJoint.{held, over, safe_installed, new_numbers}
use Rattle.levels.specs.WholeAnswer.{part_result}

-- ---- which request is answered

abbrev request_by : PickedInputs → Settings → ℕ → List (List ℕ) → ℕ → ℕ → ℕ → RequestView
request_by p s number given log previous last = record {
  picked = p;
  tables = given;
  snapshots = s.snapshots;
  first_number = number;
  log_number = log;
  previous_log = previous;
  last_sequence = last;
  options = s.options;
}

-- what is answered to a request, by all on which it rests
abbrev answer_by : (List ℕ → List ℕ → Ordering) → ShortKeys → PickedInputs → Settings → Option ℕ → List (List ℕ) → ℕ → ℕ → ℕ → Result Answer Fault
answer_by cmp short_keys p s first given log previous last =
    test_result (nat_le 1 s.ranges && nat_le s.ranges 4096) SplitCount >>= λ _.
    (ok_or first (fault Numbers) >>= λ number. Ok (request_by p s number given log previous last)) >>= λ r.
    compaction_result cmp short_keys s.workers r

above_next : (v : State) (n : ℕ) → manifest_of v < n → first_output v (Some n) ≡ Some n
above_next v n lt = ap (λ (b : Bool). if b then Some n else None) told
  where
    told : nat_lt (manifest_of v) n ≡ true
    told = grind (arith, nat_tests, lt)

-- the same request of two versions has one answer
pub same_request : (cmp : List ℕ → List ℕ → Ordering) (short_keys : ShortKeys) (v w : State) (loaded held : List (ℕ × List ℕ)) (p : PickedInputs) (s : Settings) (n : ℕ) → manifest_of v < n → manifest_of w < n
    → map (λ (i : InputFile). table_bytes_of loaded i.meta.number) p.files ≡ map (λ (i : InputFile). table_bytes_of held i.meta.number) p.files
    → unwrap_or w.log_number 0 ≡ unwrap_or v.log_number 0 → unwrap_or w.previous_log 0 ≡ unwrap_or v.previous_log 0 → last_of w ≡ last_of v
    → compaction_from (Some n) cmp short_keys v loaded p s ≡ compaction_from (Some n) cmp short_keys w held p s
same_request cmp short_keys v w loaded held p s n low high bytes log previous last =
    let given = map (λ (i : InputFile). table_bytes_of loaded i.meta.number) p.files in
    let others = map (λ (i : InputFile). table_bytes_of held i.meta.number) p.files in
    ap (λ (o : Option ℕ). answer_by cmp short_keys p s o given (unwrap_or v.log_number 0) (unwrap_or v.previous_log 0) (last_of v)) (above_next v n low ∙ sym (above_next w n high))
    ∙ ap (λ (g : List (List ℕ)). answer_by cmp short_keys p s (first_output w (Some n)) g (unwrap_or v.log_number 0) (unwrap_or v.previous_log 0) (last_of v)) bytes
    ∙ ap (λ (m : ℕ). answer_by cmp short_keys p s (first_output w (Some n)) others m (unwrap_or v.previous_log 0) (last_of v)) (sym log)
    ∙ ap (λ (m : ℕ). answer_by cmp short_keys p s (first_output w (Some n)) others (unwrap_or w.log_number 0) m (last_of v)) (sym previous)
    ∙ ap (λ (m : ℕ). answer_by cmp short_keys p s (first_output w (Some n)) others (unwrap_or w.log_number 0) (unwrap_or w.previous_log 0) m) (sym last)

-- the answer is that of one thread
pub thread_at : (cmp : List ℕ → List ℕ → Ordering) (short_keys : ShortKeys) (v : State) (loaded : List (ℕ × List ℕ)) (p : PickedInputs) (s : Settings) (n : ℕ) (answer : Answer)
    → manifest_of v < n → compaction_from (Some n) cmp short_keys v loaded p s ≡ Ok answer → one_thread cmp short_keys (request_from n v loaded p s) ≡ Ok answer
thread_at cmp short_keys v loaded p s n answer high h =
    let one = bind_ok (test_result (nat_le 1 s.ranges && nat_le s.ranges 4096) SplitCount) (λ _. numbered_request (Some n) v loaded p s >>= λ r. compaction_result cmp short_keys s.workers r) answer h in
    let request : numbered_request (Some n) v loaded p s ≡ Ok (request_from n v loaded p s) =
    ap (λ (o : Option ℕ). ok_or o (fault Numbers) >>= λ (m : ℕ). Ok (request_from m v loaded p s)) (above_next v n high) in
    let two : compaction_result cmp short_keys s.workers (request_from n v loaded p s) ≡ Ok answer =
    sym (ap (λ (x : Result RequestView Fault). x >>= λ r. compaction_result cmp short_keys s.workers r) request) ∙ one.2 in
    (bind_ok (test_result (nat_le 1 s.workers && nat_le s.workers 64) Workers) (λ _. one_thread cmp short_keys (request_from n v loaded p s)) answer two).2

-- a part's answer is that of its compaction
pub part_answered : (cmp : List ℕ → List ℕ → Ordering) (short_keys : ShortKeys) (v : State) (loaded : List (ℕ × List ℕ)) (s : Settings) (last : ℕ) (p : PickedInputs) (answer : Answer)
    → part_result cmp short_keys v loaded s last p ≡ Ok answer → compaction_from (Some (last + 1)) cmp short_keys v loaded p s ≡ Ok answer
part_answered cmp short_keys v loaded s last p answer h =
    (bind_ok (test_result (nat_lt last (2 ^ 64 - 1)) Numbers) (λ _. compaction_from (Some (last + 1)) cmp short_keys v loaded p s) answer h).2

-- ---- numbers of outputs

pub numbered_within : (first : ℕ) (outputs : List Output) (n : ℕ) → AreNumberedFrom first outputs → IsOneOf (numbers_of (numbered_tables outputs)) n → (first ≤ n) × (n < first + length outputs)
numbered_within first [] n h m = absurd m
numbered_within first (q ∷ outputs) n h (inl same) = let is : q.number ≡ first = h.0 in (omega (arith, same, is), omega (arith, same, is))
numbered_within first (q ∷ outputs) n h (inr m) = let rest = numbered_within (first + 1) outputs n h.1 m in (omega (arith, rest.0), omega (arith, rest.1))

-- ---- the step

pub record Stepped (cmp : List ℕ → List ℕ → Ordering) (n : ℕ) (v : State) (loaded : List (ℕ × List ℕ)) (tables : List NumberedContents) (p : PickedInputs) (s : Settings) (answer : Answer) : Type 0 where
  pub outputs : List Output
  pub numbered : AreNumberedFrom n outputs
  pub few : n + length outputs < 2 ^ 64
  pub tables_are : answer.tables ≡ numbered_tables outputs
  pub is_edit : IsEdit answer.edit (edit_of (request_from n v loaded p s) (new_files (request_from n v loaded p s) outputs))
  pub applies : applied v (edit_of (request_from n v loaded p s) (new_files (request_from n v loaded p s) outputs)) ≡ Some (version_after v (request_from n v loaded p s) outputs)
  pub permutes : IsPermutation (staying_files v p ++ new_files (request_from n v loaded p s) outputs) (version_after v (request_from n v loaded p s) outputs).files
  pub edited : EditedWithin cmp v loaded tables p s answer

module _ (cmp : List ℕ → List ℕ → Ordering) (total : IsTotalOrder cmp) (exact : IsExact cmp) (short_keys : ShortKeys) (reads_back : ReadBackLaw cmp short_keys) (passes : PassedLaw cmp)
    (n : ℕ) (v : State) (loaded : List (ℕ × List ℕ)) (tables : List NumberedContents) (p : PickedInputs) (s : Settings) (answer : Answer) (high : manifest_of v < n)
    (checked : tables_reading cmp loaded ≡ Ok tables) (lawful : IsLawful cmp v tables) (low : All (λ (f : NewFile). f.level ≤ 6) v.files) (safe : AreSafe cmp v tables p)
    (log : unwrap_or v.log_number 0 < 2 ^ 64) (previous : unwrap_or v.previous_log 0 < 2 ^ 64)
    (answers : one_thread cmp short_keys (request_from n v loaded p s) ≡ Ok answer) where
  pub stepped : Stepped cmp n v loaded tables p s answer
  stepped =
      let r = request_from n v loaded p s in
      let h = held cmp total exact short_keys reads_back passes n v loaded tables p s answer high checked lawful low safe log previous answers in
      let o = over cmp total exact short_keys reads_back passes n v loaded tables p s answer high checked lawful low safe log previous answers in
      record {
        outputs = h.outputs;
        numbered = h.numbered;
        few = h.few;
        tables_are = h.answer_tables;
        is_edit = edit_is cmp total exact short_keys v tables r answer lawful low safe o h;
        applies = edited cmp total v tables r h.outputs lawful safe.placed o.numbers h.numbered;
        permutes = files_are cmp total v tables r h.outputs lawful safe.placed o.numbers h.numbered;
        edited = safe_installed cmp total exact short_keys reads_back passes n v loaded tables p s answer high checked lawful low safe log previous answers;
      }

-- what stays is in the version after
module _ {cmp : List ℕ → List ℕ → Ordering} {n : ℕ} {v : State} {loaded : List (ℕ × List ℕ)} {tables : List NumberedContents} {p : PickedInputs} {s : Settings} {answer : Answer} (t : Stepped cmp n v loaded tables p s answer) where
  abbrev r : RequestView
  r = request_from n v loaded p s

  abbrev pub after : State
  after = version_after v r t.outputs

  abbrev pub own_edit : Edit
  own_edit = edit_of r (new_files r t.outputs)

  pub stays_in : (f : NewFile) → Contains v.files f → is_input p f.meta.number ≡ false → Contains after.files f
  stays_in f at other =
      Contains-permutation (staying_files v p ++ new_files r t.outputs) after.files f t.permutes
      (Contains-append_left (staying_files v p) (new_files r t.outputs) f (in_filter (λ (x : NewFile). not (is_input p x.meta.number)) v.files f (ap not other) at))

  pub count_is : length answer.tables ≡ length t.outputs
  count_is = ap length t.tables_are ∙ length-map t.outputs (λ (w : Output). (w.number, w.bytes))

  pub numbers_within : (m : ℕ) → IsOneOf (numbers_of answer.tables) m → (n ≤ m) × (m < n + length t.outputs)
  numbers_within m at = numbered_within n t.outputs m t.numbered (subst (λ (ts : List (ℕ × List ℕ)). IsOneOf (numbers_of ts) m) t.tables_are at)

  pub added_numbers : map (λ (f : NewFile). f.meta.number) own_edit.added ≡ numbers_of answer.tables
  added_numbers = new_numbers (p.level + 1) t.outputs ∙ sym (ap numbers_of t.tables_are)

  -- the next file that the edit sets
  pub edit_next : own_edit.next_file ≡ Some (n + length answer.tables)
  edit_next = ap (λ (k : ℕ). Some (n + k)) (length-map t.outputs (new_file (p.level + 1)) ∙ sym count_is)
