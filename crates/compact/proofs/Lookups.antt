-- The tables of a version after: those of the outputs, and those that stay.
use Rattle.std.proofs.Common.{◌≡◌, ℕ, Bool, true, false, not, cond, eqb, List, [], ◌∷◌, ◌++◌, map, Some, Option, refl, sym, ap, subst, ◌∙◌, inl, inr}
use Rattle.std.specs.Prelude.{◌⊎◌, Contains}
use Rattle.std.specs.List.{filter, find, AllByRecursion}
use Rattle.std.specs.Option.{option_map}
use Rattle.std.specs.declared.cmp.Ordering.{Ordering}
use Rattle.std.specs.declared.cmp.Ordering.TheVariants.{Less}
use Rattle.std.proofs.lemmas.Bool.{eqb-true, eq-eqb}
use Rattle.ikey.specs.Key.{user_of}
use Rattle.edit.specs.Version.{are_apart, has_number}
use Rattle.edit.specs.declared.meta.NewFile.{NewFile}
use Rattle.edit.proofs.Tested.{both_true, not_is_true}
use Rattle.table.specs.EncodedEntry.{Entry}
use Rattle.table.specs.CheckedContents.{contents_in}
use Rattle.pick.specs.PickedInputs.{PickedInputs}
use Rattle.pick.proofs.Lists.{false_true}
use Rattle.reads.specs.Tables.{NumberedContents, table_of_number}
use Rattle.reads.proofs.FallingEntries.{each_of}
use Rattle.reads.proofs.Members.{first_or_later, later_in, first_in, none_in, from_map, in_flat_map, in_map}
use Rattle.reads.specs.MergedLists.{entries_of_lists}
use Rattle.compact.specs.ClosedInputs.{is_input}
use Rattle.cut.specs.Outputs.{UsersRise}
use Rattle.compact.specs.OutputTables.{Output, numbered_tables}
use Rattle.compact.specs.EditOf.{new_file}
use Rattle.compact.specs.RequestOverVersion.{output_entries}
use Rattle.compact.specs.SurvivingReads.{output_table}
use Rattle.compact.proofs.AppliedEdit.{none_of, not_equal}

find_past : {X : Type 0} (test : X → Bool) (xs ys : List X) → ((x : X) → Contains xs x → test x ≡ false) → find test (xs ++ ys) ≡ find test ys
find_past test [] ys h = refl
find_past test (x ∷ xs) ys h = rw (h x (first_in x xs)) (find_past test xs ys (λ y at. h y (later_in x xs y at)))

find_kept : {X : Type 0} (test keep : X → Bool) → ((x : X) → test x ≡ true → keep x ≡ true) → (xs : List X) → find test (filter keep xs) ≡ find test xs
find_kept test keep h [] = refl
find_kept test keep h (x ∷ xs) = by (test x) (keep x) refl refl (find_kept test keep h xs)
  where
    by : (a b : Bool) → test x ≡ a → keep x ≡ b → find test (filter keep xs) ≡ find test xs → find test (cond b (x ∷ filter keep xs) (filter keep xs)) ≡ cond a (Some x) (find test xs)
    by true true e k rest = rw e refl
    by true false e k rest = false_true (keep x) (h x e) k
    by false true e k rest = rw e rest
    by false false e k rest = rest

module _ (cmp : List ℕ → List ℕ → Ordering) where
  -- an output's table is found under its number
  find_output : (level : ℕ) (outputs : List Output) → are_apart (map (new_file level) outputs) ≡ true → (q : Output) → Contains outputs q → (rest : List NumberedContents)
      → find (λ (t : NumberedContents). eqb t.number q.number) (map (output_table cmp) (numbered_tables outputs) ++ rest) ≡ Some (output_table cmp (q.number, q.bytes))
  find_output level [] apart q at rest = absurd (none_in q at)
  find_output level (p ∷ ps) apart q at rest = by_place (first_or_later p ps q at) (λ later. find_output level ps parts.1 q later rest)
    where
      tables : List NumberedContents
      tables = map (output_table cmp) (numbered_tables ps) ++ rest

      parts : (not (has_number (map (new_file level) ps) p.number) ≡ true) × (are_apart (map (new_file level) ps) ≡ true)
      parts = both_true (not (has_number (map (new_file level) ps) p.number)) (are_apart (map (new_file level) ps)) apart

      own : q ≡ p → find (λ (t : NumberedContents). eqb t.number q.number) (output_table cmp (p.number, p.bytes) ∷ tables) ≡ Some (output_table cmp (q.number, q.bytes))
      own same =
          let hit : eqb p.number q.number ≡ true = eq-eqb p.number q.number (ap (λ (x : Output). x.number) (sym same)) in
          rw hit (ap (λ (x : Output). Some (output_table cmp (x.number, x.bytes))) (sym same))

      by_place : (q ≡ p) ⊎ Contains ps q → (Contains ps q → find (λ (t : NumberedContents). eqb t.number q.number) tables ≡ Some (output_table cmp (q.number, q.bytes)))
          → find (λ (t : NumberedContents). eqb t.number q.number) (output_table cmp (p.number, p.bytes) ∷ tables) ≡ Some (output_table cmp (q.number, q.bytes))
      by_place (inl same) later_found = own same
      by_place (inr later) later_found =
          let miss : eqb p.number q.number ≡ false =
          none_of (λ (f : NewFile). eqb p.number f.meta.number) (map (new_file level) ps) (not_is_true (has_number (map (new_file level) ps) p.number) parts.0) (new_file level q) (in_map (new_file level) ps q later) in
          rw miss (later_found later)

  pub output_found : (level : ℕ) (outputs : List Output) → are_apart (map (new_file level) outputs) ≡ true → (q : Output) → Contains outputs q → (rest : List NumberedContents)
      → table_of_number (map (output_table cmp) (numbered_tables outputs) ++ rest) q.number ≡ Some (contents_in cmp q.bytes)
  output_found level outputs apart q at rest = ap (λ (o : Option NumberedContents). option_map (λ (t : NumberedContents). t.contents) o) (find_output level outputs apart q at rest)

  -- a table that stays is found as before
  pub other_found : (outputs : List Output) (p : PickedInputs) (tables : List NumberedContents) (n : ℕ) → ((q : Output) → Contains outputs q → q.number ≡ n → ⊥) → is_input p n ≡ false
      → table_of_number (map (output_table cmp) (numbered_tables outputs) ++ filter (λ (t : NumberedContents). not (is_input p t.number)) tables) n ≡ table_of_number tables n
  other_found outputs p tables n other out =
      ap (λ (o : Option NumberedContents). option_map (λ (t : NumberedContents). t.contents) o)
      (find_past (λ (t : NumberedContents). eqb t.number n) (map (output_table cmp) (numbered_tables outputs)) (filter (λ (t : NumberedContents). not (is_input p t.number)) tables) no_output
      ∙ find_kept (λ (t : NumberedContents). eqb t.number n) (λ (t : NumberedContents). not (is_input p t.number)) stays tables)
    where
      no_output : (t : NumberedContents) → Contains (map (output_table cmp) (numbered_tables outputs)) t → eqb t.number n ≡ false
      no_output t at =
          let x = from_map (output_table cmp) (numbered_tables outputs) t at in
          let q = from_map (λ (y : Output). (y.number, y.bytes)) outputs x.source x.there in
          let is : q.source.number ≡ t.number = ap (λ (y : ℕ × List ℕ). y.0) q.is ∙ ap (λ (y : NumberedContents). y.number) x.is in
          not_equal t.number n (λ same. other q.source q.there (is ∙ same))

      stays : (t : NumberedContents) → eqb t.number n ≡ true → not (is_input p t.number) ≡ true
      stays t h = ap (λ (k : ℕ). not (is_input p k)) (eqb-true t.number n h) ∙ ap not out

  -- ---- outputs are apart

  -- the user keys of an output are below those of another
  abbrev pub LiesBelow : Output → Output → Type 0
  LiesBelow p q = (x y : Entry) → Contains p.entries x → Contains q.entries y → cmp (user_of x.key) (user_of y.key) ≡ Less

  pub outputs_apart : (outputs : List Output) → UsersRise cmp (output_entries outputs) → (p q : Output) → Contains outputs p → Contains outputs q → (p ≡ q) ⊎ (LiesBelow p q ⊎ LiesBelow q p)
  outputs_apart [] rise p q i j = absurd (none_in p i)
  outputs_apart (z ∷ outputs) rise p q i j = by_places (first_or_later z outputs p i) (first_or_later z outputs q j) (λ k l. outputs_apart outputs rise.1 p q k l)
    where
      below : (w : Output) → Contains outputs w → (x y : Entry) → Contains z.entries x → Contains w.entries y → cmp (user_of x.key) (user_of y.key) ≡ Less
      below w at x y own other =
          let all = in_flat_map (λ (l : List Entry). l) (output_entries outputs) w.entries y (in_map (λ (u : Output). u.entries) outputs w at) other in
          each_of (λ (f : Entry). cmp (user_of x.key) (user_of f.key) ≡ Less) (entries_of_lists (output_entries outputs)) (each_of (λ (e : Entry). AllByRecursion (λ f. cmp (user_of e.key) (user_of f.key) ≡ Less) (entries_of_lists (output_entries outputs))) z.entries rise.0 x own) y all

      by_places : (p ≡ z) ⊎ Contains outputs p → (q ≡ z) ⊎ Contains outputs q → (Contains outputs p → Contains outputs q → (p ≡ q) ⊎ (LiesBelow p q ⊎ LiesBelow q p)) → (p ≡ q) ⊎ (LiesBelow p q ⊎ LiesBelow q p)
      by_places (inl e) (inl k) rest = inl (e ∙ sym k)
      by_places (inl e) (inr k) rest = inr (inl (λ x y own other. below q k x y (subst (λ (w : Output). Contains w.entries x) e own) other))
      by_places (inr e) (inl k) rest = inr (inr (λ x y own other. below p e x y (subst (λ (w : Output). Contains w.entries x) k own) other))
      by_places (inr e) (inr k) rest = rest e k
