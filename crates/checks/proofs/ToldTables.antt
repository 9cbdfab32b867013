-- Tables that are read and checked in one job, as a folder tells them.
use Rattle.std.proofs.Common.{◌≡◌, ℕ, List, [], ◌∷◌, Option, Some, None, Result, Ok, Err, IfOk, IfSome, ap₂, refl, sym, subst, ◌∙◌, inl, inr}
use Rattle.std.specs.Global.{Vec}
use Rattle.std.specs.List.{All, AllZip}
use Rattle.std.specs.declared.cmp.Ordering.{Ordering}
use Rattle.std.proofs.lemmas.List.Elements.{All-cons, All-nil, All-weaker}
use Rattle.ikey.specs.fault.Fault.{Fault}
use Rattle.folder.specs.Calls.{ToldFiles}
use Rattle.folder.specs.Folder.{IsToldBy}
use Rattle.folder.specs.LoadedTables.{IsTableAnswer}
use Rattle.folder.specs.Names.{old_table_name, table_name}
use Rattle.reads.specs.Tables.{NumberedContents}
use Rattle.reads.proofs.Members.{first_in, later_in}
use Rattle.checks.specs.HeldTables.{AreHeldBy, IsTableBy}
use Rattle.checks.specs.TablePlaces.{HasKept, IsToldPlace, place_numbers}
use Rattle.checks.specs.HeldBytes.{IsToldTable}

-- the table of a number, as whatever tells more tells it
pub answered_by : (one other : ToldFiles) → IsToldBy one other → (n : ℕ) (bytes : List ℕ) → IsTableAnswer one n (Ok bytes) → IsTableAnswer other n (Ok bytes)
answered_by one other by n bytes (inl there) = inl (by (table_name n) (Some bytes) there)
answered_by one other by n bytes (inr there) = inr (by (table_name n) None there.0, by (old_table_name n) (Some bytes) there.1)

module _ (cmp : List ℕ → List ℕ → Ordering) where
  table_by : (one other : ToldFiles) → IsToldBy one other → (t : NumberedContents) (n : ℕ) → IsToldTable cmp one t n → IsToldTable cmp other t n
  table_by one other by t n h = record { numbered = h.numbered; there = answered_by one other by n t.contents.bytes h.there; read = h.read }

  place_by : (one other : ToldFiles) → IsToldBy one other → (kept : Option NumberedContents) (n : ℕ) → IfSome kept (λ t. IsToldTable cmp one t n) → IfSome kept (λ t. IsToldTable cmp other t n)
  place_by one other by None n h = tt
  place_by one other by (Some t) n h = table_by one other by t n h

  told_by : (one other : ToldFiles) → IsToldBy one other → (places : List (ℕ × Option NumberedContents)) (numbers : List ℕ) → AllZip (IsToldPlace cmp one) places numbers → AllZip (IsToldPlace cmp other) places numbers
  told_by one other by [] [] h = tt
  told_by one other by [] (n ∷ numbers) h = absurd h
  told_by one other by (p ∷ places) [] h = absurd h
  told_by one other by (p ∷ places) (n ∷ numbers) h = ((h.0.0, place_by one other by p.1 n h.0.1), told_by one other by places numbers h.1)

  -- as whatever tells more tells them
  pub places_by : (one other : ToldFiles) → IsToldBy one other → (numbers : List ℕ) (r : Result (Vec (ℕ × Option NumberedContents)) Fault) → IfOk r (λ v. AllZip (IsToldPlace cmp one) v.items numbers) → IfOk r (λ v. AllZip (IsToldPlace cmp other) v.items numbers)
  places_by one other by numbers (Ok v) h = told_by one other by v.items numbers h
  places_by one other by numbers (Err e) h = tt

  module _ (tells : ToldFiles) where
    abbrev pub AreToldPlaces : List (ℕ × Option NumberedContents) → List ℕ → Type 0
    AreToldPlaces places numbers = AllZip (IsToldPlace cmp tells) places numbers

    pub places_numbers : (places : List (ℕ × Option NumberedContents)) (numbers : List ℕ) → AreToldPlaces places numbers → place_numbers places ≡ numbers
    places_numbers [] [] h = refl
    places_numbers [] (n ∷ numbers) h = absurd h
    places_numbers (p ∷ places) [] h = absurd h
    places_numbers (p ∷ places) (n ∷ numbers) h = ap₂ (λ (k : ℕ) (ks : List ℕ). k ∷ ks) h.0.0 (places_numbers places numbers h.1)

    -- the tables that places have
    abbrev pub tables_had : List (ℕ × Option NumberedContents) → List NumberedContents
    tables_had [] = []
    tables_had ((n, None) ∷ places) = tables_had places
    tables_had ((n, Some t) ∷ places) = t ∷ tables_had places

    abbrev IsOf : NumberedContents → Type 0
    IsOf t = IsTableBy cmp tells t.number t.contents

    pub had_held : (places : List (ℕ × Option NumberedContents)) (numbers : List ℕ) → AreToldPlaces places numbers → AreHeldBy cmp tells (tables_had places)
    had_held [] numbers h = All-nil IsOf
    had_held (p ∷ places) [] h = absurd h
    had_held ((m, None) ∷ places) (n ∷ numbers) h = had_held places numbers h.1
    had_held ((m, Some t) ∷ places) (n ∷ numbers) h =
        All-cons IsOf t (tables_had places) (record { there = subst (λ (k : ℕ). IsTableAnswer tells k (Ok t.contents.bytes)) (sym h.0.1.numbered) h.0.1.there; read = h.0.1.read }) (had_held places numbers h.1)

    kept_more : (t : NumberedContents) (had : List NumberedContents) (p : ℕ × Option NumberedContents) → HasKept had p → HasKept (t ∷ had) p
    kept_more t had (n, None) h = tt
    kept_more t had (n, Some x) h = (h.0, later_in t had x h.1)

    pub had_kept : (places : List (ℕ × Option NumberedContents)) (numbers : List ℕ) → AreToldPlaces places numbers → All (HasKept (tables_had places)) places
    had_kept [] numbers h = All-nil (HasKept [])
    had_kept (p ∷ places) [] h = absurd h
    had_kept ((m, None) ∷ places) (n ∷ numbers) h = All-cons (HasKept (tables_had places)) (m, None) places tt (had_kept places numbers h.1)
    had_kept ((m, Some t) ∷ places) (n ∷ numbers) h =
        All-cons (HasKept (t ∷ tables_had places)) (m, Some t) places (h.0.1.numbered ∙ sym h.0.0, first_in t (tables_had places))
        (All-weaker (HasKept (tables_had places)) (HasKept (t ∷ tables_had places)) (kept_more t (tables_had places)) places (had_kept places numbers h.1))
