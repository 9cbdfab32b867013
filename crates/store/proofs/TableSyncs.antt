-- Calls that sync tables, in parts.
use Rattle.std.proofs.Common.{◌≡◌, ℕ, ◌+◌, ◌-◌, ◌<◌, suc, List, [], ◌∷◌, ◌++◌, map, take, drop, length, get_or, sym, ap, ◌∙◌, drop-cons, arith}
use Rattle.std.proofs.lemmas.List.{map-append, take_more, take-append-drop}
use Rattle.std.proofs.lemmas.List.Concat.{flat_map-append}
use Rattle.folder.specs.Calls.{Call, Synced}
use Rattle.folder.specs.Levels.{by_level}
use Rattle.folder.specs.Names.{old_table_name, table_name}
use Rattle.store.specs.VersionSync.{table_syncs}

abbrev both_names : ℕ → List Call
both_names number = Synced (table_name number) ∷ Synced (old_table_name number) ∷ []

pub syncs_append : (xs ys : List ℕ) → table_syncs (xs ++ ys) ≡ table_syncs xs ++ table_syncs ys
syncs_append xs ys = flat_map-append both_names xs ys

module _ {A : Type 0} (number : A → ℕ) (files : List A) (i : ℕ) (file : A) (within : i < length files) (is : file ≡ get_or files i file) where
  -- the files before a place, the one at it and those after it
  pub files_around : table_syncs (map number (take i files)) ++ (table_syncs (number file ∷ []) ++ table_syncs (map number (drop (suc i) files))) ≡ table_syncs (map number files)
  files_around =
      let rest = drop (suc i) files in
      let from : drop i files ≡ file ∷ rest = drop-cons files i file within ∙ ap (λ (x : A). x ∷ rest) (sym is) in
      let parts : take i files ++ file ∷ rest ≡ files = ap (λ (xs : List A). take i files ++ xs) (sym from) ∙ take-append-drop i files in
      ap (λ (t : List Call). table_syncs (map number (take i files)) ++ t) (sym (syncs_append (number file ∷ []) (map number rest)))
      ∙ sym (syncs_append (map number (take i files)) (number file ∷ map number rest))
      ∙ ap table_syncs (sym (map-append number (take i files) (file ∷ rest)))
      ∙ ap (λ (xs : List A). table_syncs (map number xs)) parts

  -- one file more
  pub files_on : table_syncs (map number (take i files)) ++ table_syncs (number file ∷ []) ≡ table_syncs (map number (take (i + 1) files))
  files_on =
      let more : take (i + 1) files ≡ take i files ++ file ∷ [] = take_more files i file within ∙ ap (λ (x : A). take i files ++ x ∷ []) (sym is) in
      sym (syncs_append (map number (take i files)) (number file ∷ []))
      ∙ ap table_syncs (sym (map-append number (take i files) (file ∷ [])))
      ∙ ap (λ (xs : List A). table_syncs (map number xs)) (sym more)

-- numbers so far, those of a level, and those of the levels after it
pub levels_around : (of : ℕ → List ℕ) (numbers piece total : List ℕ) (level : ℕ) → level < 7 → piece ≡ of level → numbers ++ by_level of level (7 - level) ≡ total
    → table_syncs numbers ++ (table_syncs piece ++ table_syncs (by_level of (level + 1) (7 - (level + 1)))) ≡ table_syncs total
levels_around of numbers piece total level low is all =
    let rest = by_level of (level + 1) (7 - (level + 1)) in
    let left : 7 - level ≡ suc (7 - (level + 1)) = omega arith in
    let first : by_level of level (7 - level) ≡ of level ++ rest = ap (by_level of level) left in
    let whole : by_level of level (7 - level) ≡ piece ++ rest = first ∙ ap (λ (t : List ℕ). t ++ rest) (sym is) in
    ap (λ (t : List Call). table_syncs numbers ++ t) (sym (syncs_append piece rest))
    ∙ sym (syncs_append numbers (piece ++ rest))
    ∙ ap (λ (t : List ℕ). table_syncs (numbers ++ t)) (sym whole)
    ∙ ap table_syncs all

-- numbers so far, and those of the levels that are left
pub levels_left : (of : ℕ → List ℕ) (numbers total : List ℕ) (level : ℕ) → numbers ++ by_level of level (7 - level) ≡ total
    → table_syncs numbers ++ table_syncs (by_level of level (7 - level)) ≡ table_syncs total
levels_left of numbers total level all = sym (syncs_append numbers (by_level of level (7 - level))) ∙ ap table_syncs all
