-- Held tables, as a folder tells them.
use Rattle.std.proofs.Common.{◌≡◌, ℕ, List, [], ◌∷◌, Option, Some, None, Result, Ok, Err, IfOk, IfSome, sym, subst}
use Rattle.std.specs.List.{All, AllZip}
use Rattle.std.specs.Option.{MatchOption}
use Rattle.std.specs.declared.cmp.Ordering.{Ordering}
use Rattle.std.proofs.lemmas.List.Elements.{All-cons, All-contains, All-head, All-nil, All-tail}
use Rattle.ikey.proofs.Binds.{ok_is}
use Rattle.ikey.specs.fault.Fault.{Fault}
use Rattle.table.specs.TableContents.{Contents}
use Rattle.folder.specs.Calls.{Files, Tells, ToldFiles}
use Rattle.folder.specs.Folder.{IsToldBy, TellsSame}
use Rattle.folder.specs.LoadedTables.{IsTableAnswer, IsTableOf}
use Rattle.folder.specs.ReadsAs.{IsFileIn}
use Rattle.reads.specs.Tables.{NumberedContents}
use Rattle.checks.specs.HeldTables.{AreHeldBy, AreHeldIn, IsTableBy}
use Rattle.checks.specs.TableAnswers.{IsInvalid, IsRead}
use Rattle.checks.specs.TablePlaces.{HasKept, placed_tables}
use Rattle.checks.specs.TableReadings.{tables_reading}
use Rattle.checks.proofs.FoundTables.{again, checked_parts, own_bytes}
use Rattle.checks.proofs.ToldTables.{answered_by}

module _ (cmp : List ℕ → List ℕ → Ordering) where
  -- whatever tells more tells them too
  table_more : (one other : ToldFiles) → IsToldBy one other → (n : ℕ) (x : Contents) → IsTableBy cmp one n x → IsTableBy cmp other n x
  table_more one other by n x h = record { there = answered_by one other by n x.bytes h.there; read = h.read }

  pub held_more : (one other : ToldFiles) → IsToldBy one other → (tables : List NumberedContents) → AreHeldBy cmp one tables → AreHeldBy cmp other tables
  held_more one other by tables h = λ k d lt. table_more one other by _ _ (h k d lt)

  -- those of the files that a folder tells
  pub held_in : (tells : ToldFiles) (files : Files) → Tells tells files → (tables : List NumberedContents) → AreHeldBy cmp tells tables → AreHeldIn cmp files tables
  held_in tells files told tables h = held_more tells (IsFileIn files) (λ name held. (told name held).0) tables h

  -- what holds of held tables of any folder, as of those of files
  pub held_on : (tells : ToldFiles) (files : Files) → Tells tells files → (tables others : List NumberedContents) → (AreHeldBy cmp tells tables → AreHeldBy cmp tells others) → AreHeldIn cmp files tables → AreHeldIn cmp files others
  held_on tells files told tables others f are = held_in tells files told others (f (held_more (IsFileIn files) tells (λ name held. (told name held).1) tables are))

  -- a folder that tells the same as before
  pub held_same : (old new : ToldFiles) → TellsSame old new → (tables : List NumberedContents) → AreHeldBy cmp old tables → AreHeldBy cmp new tables
  held_same old new same tables h = held_more old new (λ name held. (same name held).0) tables h

  -- what holds of a folder holds of one that tells the same
  pub held_through : (old mid : ToldFiles) → TellsSame old mid → (tables others : List NumberedContents) → (AreHeldBy cmp mid tables → AreHeldBy cmp mid others) → AreHeldBy cmp old tables → AreHeldBy cmp old others
  held_through old mid same tables others f are = held_more mid old (λ name held. (same name held).1) others (f (held_same old mid same tables are))

  module _ (tells : ToldFiles) where
    abbrev IsOf : NumberedContents → Type 0
    IsOf t = IsTableBy cmp tells t.number t.contents

    pub none_held : AreHeldBy cmp tells []
    none_held = All-nil IsOf

    -- tables that were loaded, and then checked
    loaded_held : (numbers : List ℕ) (loaded : List (ℕ × List ℕ)) (tables : List NumberedContents) → AllZip (IsTableOf tells) numbers loaded → tables_reading cmp loaded ≡ Ok tables → AreHeldBy cmp tells tables
    loaded_held [] [] tables h read = subst (AreHeldBy cmp tells) (ok_is [] tables read) (All-nil IsOf)
    loaded_held [] (t ∷ loaded) tables h read = absurd h
    loaded_held (n ∷ numbers) [] tables h read = absurd h
    loaded_held (n ∷ numbers) (t ∷ loaded) tables h read =
        let parts = checked_parts cmp t loaded tables read in
        let own : IsTableAnswer tells t.0 (Ok t.1) = subst (λ (k : ℕ). IsTableAnswer tells k (Ok t.1)) (sym h.0.0) h.0.1 in
        subst (AreHeldBy cmp tells) parts.whole
        (All-cons IsOf (record { number = t.0; contents = parts.contents }) parts.behind (record {
          there = subst (λ (b : List ℕ). IsTableAnswer tells t.0 (Ok b)) (own_bytes cmp t.1 parts.contents parts.read) own;
          read = again cmp t.1 parts.contents parts.read;
        }) (loaded_held numbers loaded parts.behind h.1 parts.rest))

    pub read_held : {V : Type 0} (view : V → List NumberedContents) (numbers : List ℕ) (loaded : List (ℕ × List ℕ)) → AllZip (IsTableOf tells) numbers loaded → (r : Result (Option V) Fault)
        → IfOk r (λ found. MatchOption found (IsInvalid cmp loaded) (λ v. IsRead cmp loaded (view v))) → IfOk r (λ found. IfSome found (λ v. AreHeldBy cmp tells (view v)))
    read_held view numbers loaded there (Ok None) h = tt
    read_held view numbers loaded there (Ok (Some v)) h = loaded_held numbers loaded (view v) there h
    read_held view numbers loaded there (Err e) h = tt

    -- those that are kept, and those that are read beside them
    pub placed_held : (held : List NumberedContents) → AreHeldBy cmp tells held → (places : List (ℕ × Option NumberedContents)) (fresh : List NumberedContents) → All (HasKept held) places → AreHeldBy cmp tells fresh → AreHeldBy cmp tells (placed_tables places fresh)
    placed_held held are [] fresh kept h = All-nil IsOf
    placed_held held are ((n, Some t) ∷ places) fresh kept h =
        All-cons IsOf t (placed_tables places fresh) (All-contains IsOf held t are (All-head (HasKept held) (n, Some t) places kept).1)
        (placed_held held are places fresh (All-tail (HasKept held) (n, Some t) places kept) h)
    placed_held held are ((n, None) ∷ places) [] kept h = placed_held held are places [] (All-tail (HasKept held) (n, None) places kept) h
    placed_held held are ((n, None) ∷ places) (t ∷ fresh) kept h =
        All-cons IsOf t (placed_tables places fresh) (All-head IsOf t fresh h) (placed_held held are places fresh (All-tail (HasKept held) (n, None) places kept) (All-tail IsOf t fresh h))
