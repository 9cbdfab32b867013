-- The tables that are found in a folder after those of some outcomes were written.
use Rattle.std.proofs.Common.{◌≡◌, ◌⊎◌, ℕ, nat_eq, Bool, true, false, List, [], ◌∷◌, ◌++◌, map, Option, Some, Ok, refl, sym, ap, subst, ◌∙◌, inl, inr, arith}
use Rattle.std.specs.List.{AllZip}
use Rattle.std.proofs.lemmas.Bool.{eqb-true, eq-eqb}
use Rattle.std.proofs.lemmas.List.{append-nil}
use Rattle.edit.specs.Comparator.{KeyOrder}
use Rattle.edit.specs.Version.{State}
use Rattle.folder.specs.Calls.{Call, Done, Files, FolderView, Step, Tells, ToldFiles}
use Rattle.folder.specs.CallSequence.{AreMade, TellsThrough}
use Rattle.folder.specs.Crash.{World, open_world}
use Rattle.folder.specs.Levels.{file_numbers}
use Rattle.folder.specs.LoadedTables.{IsTableAnswer, IsTableOf}
use Rattle.folder.specs.Names.{table_name}
use Rattle.folder.specs.ReadsAs.{IsFileIn, IsOneOf, ReadsAs, StandsAs}
use Rattle.folder.specs.WrittenFiles.{IsWritten}
use Rattle.folder.specs.declared.order.Order.{Order}
use Rattle.folder.proofs.CrashLemmas.{left_reads, shown_left}
use Rattle.folder.proofs.WrittenLemmas.{AllWritten, leads_none}
use Rattle.install.specs.GroupedInstallation.{tables_of_groups}
use Rattle.install.specs.Install.{next_version_tables, numbers_of, table_bytes_of, table_calls}
use Rattle.install.proofs.Moments.{made_by}
use Rattle.install.proofs.Numbers.{after_edit, in_files, in_version}
use Rattle.store.specs.FolderRequest.{manifest_of}
use Rattle.install.proofs.Edited.{outputs_free}
use Rattle.install.proofs.Outputs.{AreApart, filed, loaded_at, loads, tables_passed}
use Rattle.levels.proofs.LaidTables.{passed_by}
use Rattle.adoption.specs.TakenOutcomes.{AreTakenInTurn, Given, edits_in, given_tables, groups_of}
use Rattle.adoption.proofs.TakenTurns.{AreOneEdit, edited_in_turn, groups_joined, one_edit_of}

kept_written : (tables : List (ℕ × List ℕ)) (done : List (List ℕ × List ℕ)) (w : World) → AllWritten (filed tables done) w → AllWritten done w
kept_written [] done w h = h
kept_written (t ∷ tables) done w h = (kept_written tables ((table_name t.0, t.1) ∷ done) w h).1

-- each of the tables is found under its name
found_written : (tables more : List (ℕ × List ℕ)) (done : List (List ℕ × List ℕ)) (w : World) (n : ℕ) → AllWritten (filed tables done) w → IsOneOf (numbers_of tables) n → w.shown.files (table_name n) ≡ Some (table_bytes_of (tables ++ more) n)
found_written [] more done w n h m = absurd m
found_written (t ∷ tables) more done w n h m = by (nat_eq n t.0) refl m (found_written tables more ((table_name t.0, t.1) ∷ done) w n h)
  where
    own : IsWritten w (table_name t.0, t.1)
    own = (kept_written tables ((table_name t.0, t.1) ∷ done) w h).0

    by : (b : Bool) → nat_eq n t.0 ≡ b → (n ≡ t.0) ⊎ IsOneOf (numbers_of tables) n → (IsOneOf (numbers_of tables) n → w.shown.files (table_name n) ≡ Some (table_bytes_of (tables ++ more) n)) → w.shown.files (table_name n) ≡ Some (table_bytes_of ((t ∷ tables) ++ more) n)
    by true e m on = ap (λ (k : ℕ). w.shown.files (table_name k)) (eqb-true n t.0 e) ∙ (own.held ∙ rw e refl)
    by false e (inl same) on = (let both : true ≡ false = sym (eq-eqb n t.0 same) ∙ e in absurd (cc both))
    by false e (inr later) on = on later ∙ rw e refl

-- what is read after the tables of some groups were written, and that they are found
pub record TablesAfter (cmp : KeyOrder) (order : Order) (v : State) (loaded : List (ℕ × List ℕ)) (tables : List (ℕ × List ℕ)) (new : ToldFiles) : Type 0 where
  pub now : Files
  pub told : Tells new now
  pub reads : ReadsAs cmp order v loaded now
  pub found : (n : ℕ) → IsOneOf (numbers_of tables) n → now (table_name n) ≡ Some (table_bytes_of (tables ++ loaded) n)

pub tables_after : (cmp : KeyOrder) (order : Order) (v : State) (loaded : List (ℕ × List ℕ)) (groups : List (List (ℕ × List ℕ))) → AreApart cmp v (tables_of_groups groups) []
    → (files : Files) (old new : ToldFiles) → Tells old files → ReadsAs cmp order v loaded files → TellsThrough (map Done (table_calls groups)) old new → TablesAfter cmp order v loaded (tables_of_groups groups) new
tables_after cmp order v loaded groups apart files old new told reads change =
    let s : FolderView = record { files = files; synced = λ name. true } in
    let last = change s told in
    let stands : StandsAs cmp order v loaded (open_world s) = record { reads = reads; settled = λ name rests. record { kept = inl refl; left = refl } } in
    let steps = map Done (table_calls groups) in
    let made : AreMade (table_calls groups) steps = made_by {T = Unit {0}} {E = Unit {0}} (table_calls groups) steps (Ok tt) refl in
    let end = open_world last.0 in
    elim (tables_passed cmp order v loaded groups [] [] steps (open_world s) end stands apart tt (subst (λ (c : List Call). AreMade c steps) (sym (append-nil (table_calls groups))) made) (shown_left steps s last.0 last.1)) [
      | inl still ↦ absurd (still.1 (ap (map Done) (sym (append-nil (table_calls groups)))))
      | inr one ↦
          let is : end ≡ one.world = leads_none one.world end one.more one.made one.leads in
          record {
            now = last.0.files;
            told = last.2;
            reads = left_reads cmp order v loaded end (subst (StandsAs cmp order v loaded) (sym is) one.stands);
            found = λ n m. found_written (tables_of_groups groups) loaded [] end n (subst (AllWritten (filed (tables_of_groups groups) [])) (sym is) one.written) m;
          }
    ]

-- the names of the tables of outcomes are free
pub names_apart : (cmp : KeyOrder) (order : Order) (first v : State) (outcomes : List Given) → AreTakenInTurn cmp first outcomes v → AreApart cmp first (tables_of_groups (groups_of outcomes)) []
names_apart cmp order first v [] turn = tt
names_apart cmp order first v (o ∷ before) turn =
    let one = one_edit_of cmp first v o before turn in
    let edited = edited_in_turn cmp first v (o ∷ before) one one.edit (edits_in (o ∷ before)) one.read one.read in
    subst (λ (ts : List (ℕ × List ℕ)). AreApart cmp first ts []) (sym (groups_joined (o ∷ before))) (outputs_free cmp order first v (manifest_of first) (given_tables (o ∷ before)) (edits_in (o ∷ before)) edited one.low)

-- the tables of the version that outcomes leave are there
pub loaded_in_turn : (cmp : KeyOrder) (first v : State) (outcomes : List Given) → AreOneEdit cmp first outcomes v → (now : Files) (loaded : List (ℕ × List ℕ)) → AllZip (IsTableOf (IsFileIn now)) (file_numbers cmp first) loaded
    → ((n : ℕ) → IsOneOf (numbers_of (given_tables outcomes)) n → now (table_name n) ≡ Some (table_bytes_of (given_tables outcomes ++ loaded) n))
    → AllZip (IsTableOf (IsFileIn now)) (file_numbers cmp v) (next_version_tables cmp v (given_tables outcomes) loaded)
loaded_in_turn cmp first v outcomes one now loaded read found =
    loads (IsFileIn now) (file_numbers cmp v) (table_bytes_of (given_tables outcomes ++ loaded)) at
  where
    old : (n : ℕ) → IsOneOf (file_numbers cmp first) n → IsTableAnswer (IsFileIn now) n (Ok (table_bytes_of (given_tables outcomes ++ loaded) n))
    old n m =
        let none : IsOneOf (numbers_of (given_tables outcomes)) n → ⊥ = λ own. let x = one.numbers n own in let lt = one.below n m in omega (arith, x.0, lt) in
        subst (λ (b : List ℕ). IsTableAnswer (IsFileIn now) n (Ok b)) (sym (passed_by (given_tables outcomes) loaded n none)) (loaded_at (IsFileIn now) (file_numbers cmp first) loaded n read m)

    at : (n : ℕ) → IsOneOf (file_numbers cmp v) n → IsTableAnswer (IsFileIn now) n (Ok (table_bytes_of (given_tables outcomes ++ loaded) n))
    at n m = elim (after_edit first v one.edit one.makes n (in_files cmp v n m)) [
      | inl new ↦ inl (found n (subst (λ (ns : List ℕ). IsOneOf ns n) one.added new))
      | inr was ↦ old n (in_version cmp first n one.state.levels.file_levels was)
    ]
