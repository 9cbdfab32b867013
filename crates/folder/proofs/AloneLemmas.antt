-- Files that read as a version are opened and loaded as that version and no other. What is opened
-- and loaded is what the files read as.
use Rattle.std.proofs.Common.{◌≡◌, ℕ, List, [], ◌∷◌, ◌++◌, codes, Option, Some, None, Result, Ok, Err, refl, sym, ap, subst, ◌∙◌, inl, inr}
use Rattle.std.proofs.lemmas.Option.{none-some, same_Some}
use Rattle.std.specs.List.{AllZip}
use Rattle.std.specs.declared.cmp.Ordering.{Ordering}
use Rattle.ikey.specs.Answers.{Follows, IsThen}
use Rattle.ikey.specs.fault.Fault.{Fault}
use Rattle.logrec.specs.LogReader.{records_of}
use Rattle.edit.specs.Edit.{Edit, IsEdit}
use Rattle.edit.specs.Version.{State}
use Rattle.edit.proofs.Edits.{not_both, one_edit}
use Rattle.folder.specs.Calls.{Files, Tells}
use Rattle.folder.specs.Levels.{file_numbers}
use Rattle.folder.specs.LoadedTables.{IsLoaded, IsTableAnswer, IsTableOf}
use Rattle.folder.specs.Manifest.{AreEdits, IsEditsAnswer, IsManifestAnswer, version_from}
use Rattle.folder.specs.Names.{IsNumberAnswer, current_text, manifest_name, old_table_name, table_name}
use Rattle.folder.specs.OpenAnswer.{IsFileReading, IsOpened}
use Rattle.folder.specs.ReadsAs.{ReadsAs, IsFileIn}
use Rattle.folder.specs.declared.order.Order.{Order}
use Rattle.folder.proofs.CrashLemmas.{ManifestParts, manifest_parts}
use Rattle.folder.proofs.NameLemmas.{texts_alike}
use Rattle.folder.proofs.ReadsLemmas.{Opened, first_is, opened_parts, opens}

edits_alone : (records : List (List ℕ)) (a b : List Edit) → AreEdits records a → AreEdits records b → b ≡ a
edits_alone [] [] [] h k = refl
edits_alone [] [] (y ∷ b) h k = absurd k
edits_alone [] (x ∷ a) b h k = absurd h
edits_alone (r ∷ records) [] b h k = absurd h
edits_alone (r ∷ records) (x ∷ a) [] h k = absurd k
edits_alone (r ∷ records) (x ∷ a) (y ∷ b) h k = let one = one_edit r y x k.0 h.0 in let rest = edits_alone records a b h.1 k.1 in cc (one, rest)

edit_there : (before : List (List ℕ)) (bytes : List ℕ) (behind : List (List ℕ)) (edits : List Edit) → AreEdits (before ++ bytes ∷ behind) edits → (e : Edit) × IsEdit bytes e
edit_there [] bytes behind [] h = absurd h
edit_there [] bytes behind (e ∷ edits) h = (e, h.0)
edit_there (r ∷ before) bytes behind [] h = absurd h
edit_there (r ∷ before) bytes behind (e ∷ edits) h = edit_there before bytes behind edits h.1

module _ (number : ℕ) (bytes : List ℕ) (order : Order) (v : State) (m : ManifestParts number bytes order v) where
  edits_answer : (records : List (List ℕ)) (second : Result (List Edit) Fault) (r : Result (Order × State) Fault) → records ≡ m.records → IsEditsAnswer records second → Follows (λ edits answer. answer ≡ version_from number edits) second r → r ≡ Ok (order, v)
  edits_answer records (Ok edits) r same is follows =
      let one : edits ≡ m.edits = edits_alone m.records m.edits edits m.read (subst (λ (x : List (List ℕ)). AreEdits x edits) same is) in
      follows ∙ (ap (version_from number) one ∙ sym m.from)
  edits_answer records (Err e) r same is follows =
      let there = edit_there is.before is.bytes is.behind m.edits (subst (λ (x : List (List ℕ)). AreEdits x m.edits) (sym same ∙ is.parts) m.read) in
      absurd (not_both is.bytes e there.0 is.refused there.1)

  manifest_alone : (r : Result (Order × State) Fault) (first : Result (List (List ℕ)) Fault) → first ≡ records_of bytes → Follows (λ records. IsThen (IsEditsAnswer records) (λ edits answer. answer ≡ version_from number edits)) first r → r ≡ Ok (order, v)
  manifest_alone r (Ok records) is follows = let same : records ≡ m.records = cc (is, m.log) in edits_answer records follows.0 r same follows.1.0 follows.1.1
  manifest_alone r (Err e) is follows = absurd (cc (is, m.log))

module _ (tells : List ℕ → Option (List ℕ) → Type 0) (files : Files) (tell : Tells tells files) (order : Order) (v : State) (o : Opened files order v) where
  third : (n : ℕ) (r : Result (Order × State) Fault) (h : Result (List ℕ) Fault) → n ≡ o.number → IsFileReading tells (manifest_name n) h → Follows (IsManifestAnswer n) h r → r ≡ Ok (order, v)
  third n r (Ok bytes) same held follows =
      let one : bytes ≡ o.bytes = same_Some _ _ (sym ((tell (manifest_name n) (Some bytes)).0 held) ∙ (ap (λ (k : ℕ). files (manifest_name k)) same ∙ o.manifest)) in
      let answer = subst (λ (b : List ℕ). IsManifestAnswer n b r) one follows in
      let answer' = subst (λ (k : ℕ). IsManifestAnswer k o.bytes r) same answer in
      manifest_alone o.number o.bytes order v (manifest_parts o.number o.bytes order v o.answer) r answer'.0 answer'.1.0 answer'.1.1
  third n r (Err e) same held follows = absurd (none-some _ (sym ((tell (manifest_name n) None).0 held.0) ∙ (ap (λ (k : ℕ). files (manifest_name k)) same ∙ o.manifest)))

  second : (current : List ℕ) (r : Result (Order × State) Fault) (n : Result ℕ Fault) → current ≡ current_text o.number → IsNumberAnswer current n → Follows (λ number. IsThen (IsFileReading tells (manifest_name number)) (IsManifestAnswer number)) n r → r ≡ Ok (order, v)
  second current r (Ok n) same is follows = third n r follows.0 (texts_alike n o.number is.0 o.small (sym is.1 ∙ same)) follows.1.0 follows.1.1
  second current r (Err e) same is follows = absurd (is.0 o.number o.small same)

  first : (r : Result (Order × State) Fault) (c : Result (List ℕ) Fault) → IsFileReading tells (codes "CURRENT") c → Follows (λ current. IsThen (IsNumberAnswer current) (λ number. IsThen (IsFileReading tells (manifest_name number)) (IsManifestAnswer number))) c r → r ≡ Ok (order, v)
  first r (Ok current) held follows = second current r follows.0 (same_Some _ _ (sym ((tell (codes "CURRENT") (Some current)).0 held) ∙ o.current)) follows.1.0 follows.1.1
  first r (Err e) held follows = absurd (none-some _ (sym ((tell (codes "CURRENT") None).0 held.0) ∙ o.current))

-- opening answers that version
pub opened_alone : (cmp : List ℕ → List ℕ → Ordering) (order : Order) (v : State) (tables : List (ℕ × List ℕ)) (tells : List ℕ → Option (List ℕ) → Type 0) (files : Files) → Tells tells files → ReadsAs cmp order v tables files
    → (r : Result (Order × State) Fault) → IsOpened tells r → r ≡ Ok (order, v)
opened_alone cmp order v tables tells files tell h r is = first tells files tell order v (opened_parts files order v h.opened) r is.0 is.1.0 is.1.1

table_alone : (files : Files) (n : ℕ) (a b : List ℕ) → IsTableAnswer (IsFileIn files) n (Ok a) → IsTableAnswer (IsFileIn files) n (Ok b) → b ≡ a
table_alone files n a b (inl h) (inl k) = same_Some _ _ (sym k ∙ h)
table_alone files n a b (inl h) (inr k) = absurd (none-some _ (sym k.0 ∙ h))
table_alone files n a b (inr h) (inl k) = absurd (none-some _ (sym h.0 ∙ k))
table_alone files n a b (inr h) (inr k) = same_Some _ _ (sym k.1 ∙ h.1)

table_held : (tells : List ℕ → Option (List ℕ) → Type 0) (files : Files) → Tells tells files → (n : ℕ) (bytes : List ℕ) → IsTableAnswer tells n (Ok bytes) → IsTableAnswer (IsFileIn files) n (Ok bytes)
table_held tells files tell n bytes (inl h) = inl ((tell _ _).0 h)
table_held tells files tell n bytes (inr h) = inr ((tell _ _).0 h.0, (tell _ _).0 h.1)

tables_alone : (tells : List ℕ → Option (List ℕ) → Type 0) (files : Files) → Tells tells files → (numbers : List ℕ) (a b : List (ℕ × List ℕ)) → AllZip (IsTableOf (IsFileIn files)) numbers a → AllZip (IsTableOf tells) numbers b → b ≡ a
tables_alone tells files tell [] [] [] h k = refl
tables_alone tells files tell [] [] (y ∷ b) h k = absurd k
tables_alone tells files tell [] (x ∷ a) b h k = absurd h
tables_alone tells files tell (n ∷ numbers) [] b h k = absurd h
tables_alone tells files tell (n ∷ numbers) (x ∷ a) [] h k = absurd k
tables_alone tells files tell (n ∷ numbers) (x ∷ a) (y ∷ b) h k =
    let bytes : y.1 ≡ x.1 = table_alone files n x.1 y.1 h.0.1 (table_held tells files tell n y.1 k.0.1) in
    let number : y.0 ≡ x.0 = k.0.0 ∙ sym h.0.0 in
    let one : y ≡ x = ap (λ (t : List ℕ). (y.0, t)) bytes ∙ ap (λ (m : ℕ). (m, x.1)) number in
    let rest = tables_alone tells files tell numbers a b h.1 k.1 in
    ap (λ (t : ℕ × List ℕ). t ∷ b) one ∙ ap (λ (ts : List (ℕ × List ℕ)). x ∷ ts) rest

table_there : (files : Files) (before : List ℕ) (n : ℕ) (behind : List ℕ) (tables : List (ℕ × List ℕ)) → AllZip (IsTableOf (IsFileIn files)) (before ++ n ∷ behind) tables → (bytes : List ℕ) × IsTableAnswer (IsFileIn files) n (Ok bytes)
table_there files [] n behind [] h = absurd h
table_there files [] n behind (t ∷ tables) h = (t.1, h.0.1)
table_there files (k ∷ before) n behind [] h = absurd h
table_there files (k ∷ before) n behind (t ∷ tables) h = table_there files before n behind tables h.1

not_missing : (files : Files) (n : ℕ) (bytes : List ℕ) → IsTableAnswer (IsFileIn files) n (Ok bytes) → files (table_name n) ≡ None → files (old_table_name n) ≡ None → ⊥
not_missing files n bytes (inl h) a b = none-some _ (sym a ∙ h)
not_missing files n bytes (inr h) a b = none-some _ (sym b ∙ h.1)

-- loading answers those tables
pub loaded_alone : (cmp : List ℕ → List ℕ → Ordering) (order : Order) (v : State) (tables : List (ℕ × List ℕ)) (tells : List ℕ → Option (List ℕ) → Type 0) (files : Files) → Tells tells files → ReadsAs cmp order v tables files
    → (r : Result (List (ℕ × List ℕ)) Fault) → IsLoaded tells (file_numbers cmp v) r → r ≡ Ok tables
loaded_alone cmp order v tables tells files tell h (Ok ts) is = ap (λ (t : List (ℕ × List ℕ)). Ok t) (tables_alone tells files tell (file_numbers cmp v) tables ts h.loaded is)
loaded_alone cmp order v tables tells files tell h (Err e) is =
    let there = table_there files is.before is.number is.behind tables (subst (λ (n : List ℕ). AllZip (IsTableOf (IsFileIn files)) n tables) is.parts h.loaded) in
    absurd (not_missing files is.number there.0 there.1 ((tell _ _).0 is.missing.0) ((tell _ _).0 is.missing.1))

-- what is opened is what the files are opened as
held_opened : (tells : List ℕ → Option (List ℕ) → Type 0) (files : Files) → Tells tells files → (order : Order) (v : State) → IsOpened tells (Ok (order, v)) → Opened files order v
held_opened tells files tell order v h =
    let one = first_is _ _ _ h in
    let two = first_is _ _ _ one.1.1 in
    let three = first_is _ _ _ two.1.1 in
    record {
      number = two.0;
      bytes = three.0;
      small = two.1.0.0;
      current = (tell _ _).0 one.1.0 ∙ ap (λ (t : List ℕ). Some t) two.1.0.1;
      manifest = (tell _ _).0 three.1.0;
      answer = three.1.1;
    }

tables_held : (tells : List ℕ → Option (List ℕ) → Type 0) (files : Files) → Tells tells files → (numbers : List ℕ) (tables : List (ℕ × List ℕ)) → AllZip (IsTableOf tells) numbers tables → AllZip (IsTableOf (IsFileIn files)) numbers tables
tables_held tells files tell [] [] h = tt
tables_held tells files tell [] (t ∷ tables) h = absurd h
tables_held tells files tell (n ∷ numbers) [] h = absurd h
tables_held tells files tell (n ∷ numbers) (t ∷ tables) h = ((h.0.0, table_held tells files tell n t.1 h.0.1), tables_held tells files tell numbers tables h.1)

-- what is opened and loaded is what the files read as
pub reads_back : (cmp : List ℕ → List ℕ → Ordering) (order : Order) (v : State) (tables : List (ℕ × List ℕ)) (tells : List ℕ → Option (List ℕ) → Type 0) (files : Files) → Tells tells files
    → IsOpened tells (Ok (order, v)) → IsLoaded tells (file_numbers cmp v) (Ok tables) → ReadsAs cmp order v tables files
reads_back cmp order v tables tells files tell one two = record {
  opened = opens files order v (held_opened tells files tell order v one);
  loaded = tables_held tells files tell (file_numbers cmp v) tables two;
}
