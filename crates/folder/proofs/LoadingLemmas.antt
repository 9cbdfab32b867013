-- What the levels of a version have, and the tables of its files, one after the other.
use Rattle.std.proofs.Common.{◌≡◌, ℕ, ◌+◌, ◌-◌, ◌<◌, suc, List, [], ◌∷◌, ◌++◌, length, map, take, drop, get_or, Option, Some, None, Result, Ok, Err, refl, sym, ap, ◌∙◌, inl, inr, arith, append_assoc, drop-cons}
use Rattle.std.proofs.lemmas.List.{take_more, take-append-drop, map-append}
use Rattle.std.specs.Global.{Vec}
use Rattle.std.specs.List.{AllZip}
use Rattle.ikey.specs.fault.Fault.{Fault}
use Rattle.folder.specs.Folder.{TellsSame}
use Rattle.folder.specs.Levels.{by_level}
use Rattle.folder.specs.LoadedTables.{IsLoaded, IsTableAnswer, IsTableOf}
use Rattle.folder.proofs.ManifestLemmas.{zip_push}

-- one level more
pub level_more : {A : Type 0} (of : ℕ → List A) (so_far piece after total : List A) (level : ℕ) → level < 7 → after ≡ so_far ++ piece → piece ≡ of level
    → so_far ++ by_level of level (7 - level) ≡ total → after ++ by_level of (level + 1) (7 - (level + 1)) ≡ total
level_more {A = A} of so_far piece after total level low made is before =
    let rest = by_level of (level + 1) (7 - (level + 1)) in
    let left : 7 - level ≡ suc (7 - (level + 1)) = omega arith in
    let first : by_level of level (7 - level) ≡ of level ++ rest = ap (by_level of level) left in
    ap (λ (t : List A). t ++ rest) (made ∙ ap (λ (t : List A). so_far ++ t) is) ∙ append_assoc so_far (of level) rest ∙ sym (ap (λ (t : List A). so_far ++ t) first) ∙ before

-- one map after another
pub map_fused : {A B C : Type 0} (f : A → B) (h : B → C) (xs : List A) → map (λ x. h (f x)) xs ≡ map h (map f xs)
map_fused f h [] = refl
map_fused f h (x ∷ xs) = ap (λ t. h (f x) ∷ t) (map_fused f h xs)

-- one number more
pub numbers_more : {A : Type 0} (of : A → ℕ) (files : List A) (i : ℕ) (file : A) (first so_far after : List ℕ) → i < length files → file ≡ get_or files i file → after ≡ so_far ++ of file ∷ []
    → so_far ≡ first ++ map of (take i files) → after ≡ first ++ map of (take (i + 1) files)
numbers_more {A = A} of files i file first so_far after within is pushed before =
    let front : take (i + 1) files ≡ take i files ++ file ∷ [] = take_more files i file within ∙ ap (λ (x : A). take i files ++ x ∷ []) (sym is) in
    let mapped : map of (take (i + 1) files) ≡ map of (take i files) ++ of file ∷ [] = ap (map of) front ∙ map-append of (take i files) (file ∷ []) in
    pushed ∙ ap (λ (xs : List ℕ). xs ++ of file ∷ []) before ∙ append_assoc first (map of (take i files)) (of file ∷ []) ∙ sym (ap (λ (xs : List ℕ). first ++ xs) mapped)

-- what is told at last is what was told at first
pub told_since : (one two three : List ℕ → Option (List ℕ) → Type 0) → TellsSame one two → TellsSame two three → TellsSame one three
told_since one two three a b name held = (λ h. (b name held).0 ((a name held).0 h), λ h. (a name held).1 ((b name held).1 h))

-- a table told later
pub table_before : (old new : List ℕ → Option (List ℕ) → Type 0) (number : ℕ) (r : Result (List ℕ) Fault) → TellsSame old new → IsTableAnswer new number r → IsTableAnswer old number r
table_before old new number (Ok bytes) same (inl h) = inl ((same _ (Some bytes)).1 h)
table_before old new number (Ok bytes) same (inr h) = inr ((same _ None).1 h.0, (same _ (Some bytes)).1 h.1)
table_before old new number (Err e) same h = ((same _ None).1 h.0, (same _ None).1 h.1, h.2)

-- a table as its number and its bytes
abbrev pub table_of : ℕ × Vec ℕ → ℕ × List ℕ
table_of t = (t.0, t.1.items)

-- one table more
pub tables_more : (tells : List ℕ → Option (List ℕ) → Type 0) (numbers : List ℕ) (i : ℕ) (tables after : List (ℕ × Vec ℕ)) (bytes : Vec ℕ) → i < length numbers → after ≡ tables ++ (get_or numbers i 0, bytes) ∷ []
    → AllZip (IsTableOf tells) (take i numbers) (map table_of tables) → IsTableAnswer tells (get_or numbers i 0) (Ok bytes.items) → AllZip (IsTableOf tells) (take (i + 1) numbers) (map table_of after)
tables_more tells numbers i tables after bytes within made all one =
    let number = get_or numbers i 0 in
    let front : take (i + 1) numbers ≡ take i numbers ++ number ∷ [] = take_more numbers i 0 within in
    let mapped : map table_of after ≡ map table_of tables ++ (number, bytes.items) ∷ [] = ap (map table_of) made ∙ map-append table_of tables ((number, bytes) ∷ []) in
    rw (front, mapped) (zip_push (IsTableOf tells) (take i numbers) (map table_of tables) number (number, bytes.items) all (refl, one))

-- the next table isn't there
pub missing_there : (tells : List ℕ → Option (List ℕ) → Type 0) (numbers : List ℕ) (i : ℕ) (tables : List (ℕ × Vec ℕ)) (e : Fault) → i < length numbers
    → AllZip (IsTableOf tells) (take i numbers) (map table_of tables) → IsTableAnswer tells (get_or numbers i 0) (Err e) → IsLoaded tells numbers (Err e)
missing_there tells numbers i tables e within all h = record {
  before = take i numbers;
  tables = map table_of tables;
  number = get_or numbers i 0;
  behind = drop (suc i) numbers;
  parts = sym (take-append-drop i numbers) ∙ ap (λ (t : List ℕ). take i numbers ++ t) (drop-cons numbers i 0 within);
  read = all;
  missing = h;
}

-- tables that are read later
zip_before : (old new : List ℕ → Option (List ℕ) → Type 0) (numbers : List ℕ) (tables : List (ℕ × List ℕ)) → TellsSame old new → AllZip (IsTableOf new) numbers tables → AllZip (IsTableOf old) numbers tables
zip_before old new [] [] same h = tt
zip_before old new [] (t ∷ tables) same h = absurd h
zip_before old new (n ∷ numbers) [] same h = absurd h
zip_before old new (n ∷ numbers) (t ∷ tables) same h = ((h.0.0, table_before old new n (Ok t.1) same h.0.1), zip_before old new numbers tables same h.1)

pub loaded_before : (old new : List ℕ → Option (List ℕ) → Type 0) (numbers : List ℕ) (r : Result (List (ℕ × List ℕ)) Fault) → TellsSame old new → IsLoaded new numbers r → IsLoaded old numbers r
loaded_before old new numbers (Ok tables) same h = zip_before old new numbers tables same h
loaded_before old new numbers (Err e) same h = record {
  before = h.before;
  tables = h.tables;
  number = h.number;
  behind = h.behind;
  parts = h.parts;
  read = zip_before old new h.before h.tables same h.read;
  missing = table_before old new h.number (Err e) same h.missing;
}
