-- Tables as files: those before a place and those after it.
use Rattle.std.proofs.Common.{◌≡◌, ℕ, ◌+◌, ◌<◌, suc, List, [], ◌∷◌, ◌++◌, take, drop, length, get_or, refl, sym, ap, ◌∙◌, drop-cons}
use Rattle.std.proofs.lemmas.List.{take_more, take-append-drop}
use Rattle.std.specs.Global.{Vec}
use Rattle.folder.specs.Names.{table_name}
use Rattle.folder.specs.TableFiles.{table_files}

tables_append : (xs ys : List (ℕ × Vec ℕ)) → table_files (xs ++ ys) ≡ table_files xs ++ table_files ys
tables_append [] ys = refl
tables_append (x ∷ xs) ys = ap (λ (fs : List (List ℕ × List ℕ)). (table_name x.0, x.1.items) ∷ fs) (tables_append xs ys)

-- the tables before a place, the one at it and those after
pub tables_around : (tables : List (ℕ × Vec ℕ)) (i : ℕ) (t : ℕ × Vec ℕ) → i < length tables → t ≡ get_or tables i t
    → table_files (take i tables) ++ (table_name t.0, t.1.items) ∷ table_files (drop (suc i) tables) ≡ table_files tables
tables_around tables i t h is =
    let behind : drop i tables ≡ t ∷ drop (suc i) tables = drop-cons tables i t h ∙ ap (λ (x : ℕ × Vec ℕ). x ∷ drop (suc i) tables) (sym is) in
    let parts : take i tables ++ t ∷ drop (suc i) tables ≡ tables = ap (λ (x : List (ℕ × Vec ℕ)). take i tables ++ x) (sym behind) ∙ take-append-drop i tables in
    sym (tables_append (take i tables) (t ∷ drop (suc i) tables)) ∙ ap table_files parts

-- one table more
pub tables_on : (tables : List (ℕ × Vec ℕ)) (i : ℕ) (t : ℕ × Vec ℕ) → i < length tables → t ≡ get_or tables i t
    → table_files (take i tables) ++ (table_name t.0, t.1.items) ∷ [] ≡ table_files (take (i + 1) tables)
tables_on tables i t h is =
    let more : take (i + 1) tables ≡ take i tables ++ t ∷ [] = take_more tables i t h ∙ ap (λ (x : ℕ × Vec ℕ). take i tables ++ x ∷ []) (sym is) in
    sym (tables_append (take i tables) (t ∷ [])) ∙ ap table_files (sym more)
