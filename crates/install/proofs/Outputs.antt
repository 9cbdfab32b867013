-- The tables of an installation, as files with their names, and where they are found again.
use Rattle.std.proofs.Common.{◌≡◌, ◌≢◌, ◌⊎◌, ℕ, nat_eq, Bool, true, false, List, [], ◌∷◌, ◌++◌, map, unwrap_or, Option, Some, Ok, refl, sym, ap, subst, ◌∙◌, inl, inr}
use Rattle.std.proofs.lemmas.Bool.{eqb-true}
use Rattle.std.specs.List.{AllZip}
use Rattle.std.specs.Map.{lookup}
use Rattle.std.specs.declared.cmp.Ordering.{Ordering}
use Rattle.edit.specs.Version.{State}
use Rattle.folder.specs.Calls.{AreTorn, Call, Done, Files, Step, Written, with_contents, with_synced, with_value, with_written}
use Rattle.folder.specs.CallSequence.{AreMade}
use Rattle.folder.specs.Crash.{Leads, MayHold, World}
use Rattle.folder.specs.FreeNames.{IsFree}
use Rattle.folder.specs.LoadedTables.{IsTableAnswer, IsTableOf}
use Rattle.folder.specs.Names.{table_name}
use Rattle.folder.specs.ReadsAs.{IsOneOf, StandsAs}
use Rattle.folder.specs.TableFiles.{named_tables}
use Rattle.folder.specs.declared.order.Order.{Order}
use Rattle.folder.proofs.CrashLemmas.{stands_made, stands_still}
use Rattle.folder.proofs.WrittenLemmas.{AllOther, AllWritten, IsShort, Passed, file_stands, leads_first, leads_none, short_behind, short_none, short_tried, written_still}
use Rattle.install.specs.Install.{table_bytes_of, numbers_of, table_calls}
use Rattle.install.specs.GroupedInstallation.{tables_of_groups}
use Rattle.install.proofs.Numbers.{is_itself as same_number}

-- the tables as files, before other files
abbrev pub filed : List (ℕ × List ℕ) → List (List ℕ × List ℕ) → List (List ℕ × List ℕ)
filed [] done = done
filed (t ∷ tables) done = filed tables ((table_name t.0, t.1) ∷ done)

-- each table's name is free, and none of the files before has it
abbrev pub AreApart : (List ℕ → List ℕ → Ordering) → State → List (ℕ × List ℕ) → List (List ℕ × List ℕ) → Type 0
AreApart cmp v [] done = Unit {0}
AreApart cmp v (t ∷ tables) done = IsFree cmp v (table_name t.0) × AllOther (table_name t.0) done × AreApart cmp v tables ((table_name t.0, t.1) ∷ done)

pub filed_joined : (one two : List (ℕ × List ℕ)) (done : List (List ℕ × List ℕ)) → filed (one ++ two) done ≡ filed two (filed one done)
filed_joined [] two done = refl
filed_joined (t ∷ one) two done = filed_joined one two ((table_name t.0, t.1) ∷ done)

apart_parts : (cmp : List ℕ → List ℕ → Ordering) (v : State) (one two : List (ℕ × List ℕ)) (done : List (List ℕ × List ℕ)) → AreApart cmp v (one ++ two) done → AreApart cmp v one done × AreApart cmp v two (filed one done)
apart_parts cmp v [] two done h = (tt, h)
apart_parts cmp v (t ∷ one) two done h = let rest = apart_parts cmp v one two ((table_name t.0, t.1) ∷ done) h.2 in ((h.0, h.1, rest.0), rest.1)

module _ (cmp : List ℕ → List ℕ → Ordering) (order : Order) (v : State) (tables : List (ℕ × List ℕ)) where
  -- all tables of a group are written
  tables_stand : (outputs : List (ℕ × List ℕ)) (done : List (List ℕ × List ℕ)) (start w : World) → StandsAs cmp order v tables start → AreApart cmp v outputs done → AllWritten done start → w.shown ≡ with_written start.shown (named_tables outputs)
      → MayHold (named_tables outputs) start.left w.left → StandsAs cmp order v tables w × AllWritten (filed outputs done) w
  tables_stand [] done start w h apart all shown left = (stands_still cmp order v tables start w h shown left, written_still done start w shown all)
  tables_stand (t ∷ outputs) done start w h apart all shown left =
      let name = table_name t.0 in
      let next : World = record { shown = with_synced (with_contents start.shown name (Some t.1)) name; left = with_value start.left name left.0 } in
      let one = file_stands cmp order v tables name t.1 done start next left.0 h apart.0 apart.1 all refl refl in
      tables_stand outputs ((name, t.1) ∷ done) next w one.0 apart.2 one.1 shown left.1

  -- each of them was written, or torn, or not begun
  tables_torn : (outputs : List (ℕ × List ℕ)) (done : List (List ℕ × List ℕ)) (start w : World) → StandsAs cmp order v tables start → AreApart cmp v outputs done → AreTorn (named_tables outputs) start.shown w.shown
      → MayHold (named_tables outputs) start.left w.left → StandsAs cmp order v tables w
  tables_torn [] done start w h apart shown left = stands_still cmp order v tables start w h shown left
  tables_torn (t ∷ outputs) done start w h apart shown left =
      let name = table_name t.0 in
      let next : World = record { shown = with_contents start.shown name shown.0; left = with_value start.left name left.0 } in
      tables_torn outputs ((name, t.1) ∷ done) next w (stands_made cmp order v tables start next name shown.0 left.0 h apart.0 refl refl) apart.2 shown.1 left.1

  -- one group
  group_passed : (outputs : List (ℕ × List ℕ)) (done : List (List ℕ × List ℕ)) (rest : List Call) (steps : List Step) (start w : World) → StandsAs cmp order v tables start → AreApart cmp v outputs done → AllWritten done start
      → AreMade (Written (named_tables outputs) ∷ rest) steps → Leads start steps w → (StandsAs cmp order v tables w × IsShort steps (Written (named_tables outputs) ∷ rest)) ⊎ Passed cmp order v tables (Written (named_tables outputs) ∷ []) rest (filed outputs done) steps w
  group_passed outputs done rest steps start w h apart all (inl none') l =
      inl (subst (StandsAs cmp order v tables) (sym (leads_none start w steps none' l)) h, short_none steps (Written (named_tables outputs)) rest none')
  group_passed outputs done rest steps start w h apart all (inr (inl one)) l =
      let l' = leads_first start w steps [] _ one l in
      inl (subst (StandsAs cmp order v tables) (sym l'.2) (tables_torn outputs done start l'.0 h apart l'.1.0 l'.1.1), short_tried steps (Written (named_tables outputs)) rest one)
  group_passed outputs done rest steps start w h apart all (inr (inr more)) l =
      let l' = leads_first start w steps more.0 _ more.1 l in
      let one = tables_stand outputs done start l'.0 h apart all l'.1.0 l'.1.1 in
      inr (record { world = l'.0; more = more.0; stands = one.0; written = one.1; made = more.2; leads = l'.2; whole = more.1 })

  -- The groups in their order. After each the version before stands, and the tables so far are written.
  pub tables_passed : (groups : List (List (ℕ × List ℕ))) (done : List (List ℕ × List ℕ)) (rest : List Call) (steps : List Step) (start w : World) → StandsAs cmp order v tables start → AreApart cmp v (tables_of_groups groups) done → AllWritten done start
      → AreMade (table_calls groups ++ rest) steps → Leads start steps w → (StandsAs cmp order v tables w × IsShort steps (table_calls groups ++ rest)) ⊎ Passed cmp order v tables (table_calls groups) rest (filed (tables_of_groups groups) done) steps w
  tables_passed [] done rest steps start w h apart all made l =
      inr (record { world = start; more = steps; stands = h; written = all; made = made; leads = l; whole = refl })
  tables_passed (g ∷ groups) done rest steps start w h apart all made l =
      let call = Written (named_tables g) in
      let parts = apart_parts cmp v g (tables_of_groups groups) done apart in
      elim (group_passed g done (table_calls groups ++ rest) steps start w h parts.0 all made l) [
        | inl still ↦ inl still
        | inr one ↦ elim (tables_passed groups (filed g done) rest one.more one.world w one.stands parts.1 one.written one.made one.leads) [
          | inl still ↦ inl (still.0, short_behind steps one.more call (table_calls groups ++ rest) one.whole still.1)
          | inr two ↦ inr (record {
            world = two.world;
            more = two.more;
            stands = two.stands;
            written = subst (λ (files : List (List ℕ × List ℕ)). AllWritten files two.world) (sym (filed_joined g (tables_of_groups groups) done)) two.written;
            made = two.made;
            leads = two.leads;
            whole = one.whole ∙ ap (λ (s : List Step). Done call ∷ s) two.whole;
          })
        ]
      ]

-- each table is held under its name
abbrev pub AllHeld : List (ℕ × List ℕ) → Files → Type 0
AllHeld [] files = Unit {0}
AllHeld (t ∷ tables) files = (files (table_name t.0) ≡ Some t.1) × AllHeld tables files

-- what holds of the files holds of the tables and of those before
pub filed_parts : (outputs : List (ℕ × List ℕ)) (done : List (List ℕ × List ℕ)) (w : World) → AllWritten (filed outputs done) w → AllHeld outputs w.shown.files × AllWritten done w
filed_parts [] done w h = (tt, h)
filed_parts (t ∷ outputs) done w h = let parts = filed_parts outputs ((table_name t.0, t.1) ∷ done) w h in ((parts.1.0.held, parts.0), parts.1.1)

-- the table of each output was synced
abbrev pub AllSynced : List (ℕ × List ℕ) → (List ℕ → Bool) → Type 0
AllSynced [] synced = Unit {0}
AllSynced (t ∷ tables) synced = (synced (table_name t.0) ≡ true) × AllSynced tables synced

pub filed_synced : (outputs : List (ℕ × List ℕ)) (done : List (List ℕ × List ℕ)) (w : World) → AllWritten (filed outputs done) w → AllSynced outputs w.shown.synced × AllWritten done w
filed_synced [] done w h = (tt, h)
filed_synced (t ∷ outputs) done w h = let parts = filed_synced outputs ((table_name t.0, t.1) ∷ done) w h in ((parts.1.0.synced, parts.0), parts.1.1)

-- a fact of the names of all outputs is one of each
pub synced_at : (outputs : List (ℕ × List ℕ)) (synced : List ℕ → Bool) (n : ℕ) → AllSynced outputs synced → IsOneOf (numbers_of outputs) n → synced (table_name n) ≡ true
synced_at [] synced n h m = absurd m
synced_at (t ∷ outputs) synced n h (inl same) = subst (λ (k : ℕ). synced (table_name k) ≡ true) (sym same) h.0
synced_at (t ∷ outputs) synced n h (inr m) = synced_at outputs synced n h.1 m

pub held_same : (outputs : List (ℕ × List ℕ)) (files now : Files) → ((n : ℕ) → IsOneOf (numbers_of outputs) n → now (table_name n) ≡ files (table_name n)) → AllHeld outputs files → AllHeld outputs now
held_same [] files now same h = tt
held_same (t ∷ outputs) files now same h = (same t.0 (inl refl) ∙ h.0, held_same outputs files now (λ n m. same n (inr m)) h.1)

pub test_cases : (b : Bool) → (b ≡ true) ⊎ (b ≡ false)
test_cases true = inl refl
test_cases false = inr refl

-- the first table of a number, or those after
lookup_here : (n : ℕ) (t : ℕ × List ℕ) (tables : List (ℕ × List ℕ)) → nat_eq n t.0 ≡ true → lookup (nat_eq n) (t ∷ tables) ≡ Some t.1
lookup_here n t tables h = rw h refl

lookup_there : (n : ℕ) (t : ℕ × List ℕ) (tables : List (ℕ × List ℕ)) → nat_eq n t.0 ≡ false → lookup (nat_eq n) (t ∷ tables) ≡ lookup (nat_eq n) tables
lookup_there n t tables h = rw h refl

other_number : (n m : ℕ) → nat_eq n m ≡ false → n ≢ m
other_number n m h same = let e : nat_eq n m ≡ true = subst (λ (k : ℕ). nat_eq n k ≡ true) same (same_number n) in cc

-- an output is held under its name with the bytes of its number
pub output_held : (outputs tables : List (ℕ × List ℕ)) (files : Files) (n : ℕ) → AllHeld outputs files → IsOneOf (numbers_of outputs) n → files (table_name n) ≡ Some (table_bytes_of (outputs ++ tables) n)
output_held [] tables files n h m = absurd m
output_held (t ∷ outputs) tables files n h m =
    elim (test_cases (nat_eq n t.0)) [
      | inl here ↦
          let same : n ≡ t.0 = eqb-true n t.0 here in
          let bytes : table_bytes_of (t ∷ outputs ++ tables) n ≡ t.1 = ap (λ (o : Option (List ℕ)). unwrap_or o []) (lookup_here n t (outputs ++ tables) here) in
          ap (λ (k : ℕ). files (table_name k)) same ∙ (h.0 ∙ ap (λ (b : List ℕ). Some b) (sym bytes))
      | inr there ↦
          let bytes : table_bytes_of (t ∷ outputs ++ tables) n ≡ table_bytes_of (outputs ++ tables) n = ap (λ (o : Option (List ℕ)). unwrap_or o []) (lookup_there n t (outputs ++ tables) there) in
          let m' : IsOneOf (numbers_of outputs) n = elim m [ inl same ↦ absurd (other_number n t.0 there same) | inr other ↦ other ] in
          output_held outputs tables files n h.1 m' ∙ ap (λ (b : List ℕ). Some b) (sym bytes)
    ]

-- a number is an output's, or is found among the tables before
pub among_outputs : (outputs tables : List (ℕ × List ℕ)) (n : ℕ) → IsOneOf (numbers_of outputs) n ⊎ (table_bytes_of (outputs ++ tables) n ≡ table_bytes_of tables n)
among_outputs [] tables n = inr refl
among_outputs (t ∷ outputs) tables n =
    elim (test_cases (nat_eq n t.0)) [
      | inl here ↦ inl (inl (eqb-true n t.0 here))
      | inr there ↦ elim (among_outputs outputs tables n) [
        | inl m ↦ inl (inr m)
        | inr same ↦ inr (ap (λ (o : Option (List ℕ)). unwrap_or o []) (lookup_there n t (outputs ++ tables) there) ∙ same)
      ]
    ]

-- the table of a number that was loaded
pub loaded_at : (tells : List ℕ → Option (List ℕ) → Type 0) (numbers : List ℕ) (tables : List (ℕ × List ℕ)) (n : ℕ) → AllZip (IsTableOf tells) numbers tables → IsOneOf numbers n → IsTableAnswer tells n (Ok (table_bytes_of tables n))
loaded_at tells [] [] n h m = absurd m
loaded_at tells [] (t ∷ tables) n h m = absurd h
loaded_at tells (k ∷ numbers) [] n h m = absurd h
loaded_at tells (k ∷ numbers) (t ∷ tables) n h m =
    elim (test_cases (nat_eq n t.0)) [
      | inl here ↦
          let same : n ≡ k = eqb-true n t.0 here ∙ h.0.0 in
          let bytes : table_bytes_of (t ∷ tables) n ≡ t.1 = ap (λ (o : Option (List ℕ)). unwrap_or o []) (lookup_here n t tables here) in
          subst (λ (b : List ℕ). IsTableAnswer tells n (Ok b)) (sym bytes) (subst (λ (j : ℕ). IsTableAnswer tells j (Ok t.1)) (sym same) h.0.1)
      | inr there ↦
          let bytes : table_bytes_of (t ∷ tables) n ≡ table_bytes_of tables n = ap (λ (o : Option (List ℕ)). unwrap_or o []) (lookup_there n t tables there) in
          let m' : IsOneOf numbers n = elim m [ inl same ↦ absurd (other_number n t.0 there (same ∙ sym h.0.0)) | inr other ↦ other ] in
          subst (λ (b : List ℕ). IsTableAnswer tells n (Ok b)) (sym bytes) (loaded_at tells numbers tables n h.1 m')
    ]

-- tables with their numbers are loaded if each is the table of its number
pub loads : (tells : List ℕ → Option (List ℕ) → Type 0) (numbers : List ℕ) (of : ℕ → List ℕ) → ((n : ℕ) → IsOneOf numbers n → IsTableAnswer tells n (Ok (of n))) → AllZip (IsTableOf tells) numbers (map (λ (n : ℕ). (n, of n)) numbers)
loads tells [] of h = tt
loads tells (n ∷ numbers) of h = ((refl, h n (inl refl)), loads tells numbers of (λ k m. h k (inr m)))
