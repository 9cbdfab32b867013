-- The tables of some files of a folder, found under their numbers.
use Rattle.std.proofs.Common.{◌≡◌, ℕ, List, [], ◌∷◌, ◌++◌, map, Ok, Err, refl, sym, ap, subst, ◌∙◌, inl, inr}
use Rattle.std.proofs.lemmas.Option.{none-some, same_Some}
use Rattle.folder.specs.fault.Fault.{Fault}
use Rattle.folder.specs.meta.FileMeta.{FileMeta}
use Rattle.folder.specs.Calls.{Files}
use Rattle.folder.specs.LoadedTables.{IsLoaded, IsTableAnswer}
use Rattle.folder.specs.ReadsAs.{IsFileIn, IsOneOf}
use Rattle.install.specs.Install.{table_bytes_of}
use Rattle.pick.proofs.Lists.{IsIn}
use Rattle.install.proofs.Outputs.{loaded_at}

-- a file's number is one of their numbers
pub number_among : (files : List FileMeta) (f : FileMeta) → IsIn files f → IsOneOf (map (λ (x : FileMeta). x.number) files) f.number
number_among [] f i = absurd i
number_among (g ∷ files) f (inl same) = inl (ap (λ (x : FileMeta). x.number) same)
number_among (g ∷ files) f (inr i) = inr (number_among files f i)

-- a folder's files hold one table of a number
pub one_table : (files : Files) (n : ℕ) (a b : List ℕ) → IsTableAnswer (IsFileIn files) n (Ok a) → IsTableAnswer (IsFileIn files) n (Ok b) → b ≡ a
one_table files n a b (inl h) (inl k) = same_Some _ _ (sym k ∙ h)
one_table files n a b (inl h) (inr k) = absurd (none-some _ (sym k.0 ∙ h))
one_table files n a b (inr h) (inl k) = absurd (none-some _ (sym h.0 ∙ k))
one_table files n a b (inr h) (inr k) = same_Some _ _ (sym k.1 ∙ h.1)

-- a table that is there isn't missing
there_not_missing : (files : Files) (n : ℕ) (bytes : List ℕ) (e : Fault) → IsTableAnswer (IsFileIn files) n (Ok bytes) → IsTableAnswer (IsFileIn files) n (Err e) → ⊥
there_not_missing files n bytes e (inl h) missing = none-some _ (sym missing.0 ∙ h)
there_not_missing files n bytes e (inr h) missing = none-some _ (sym missing.1 ∙ h.1)

one_of_parts : (before : List ℕ) (n : ℕ) (behind : List ℕ) → IsOneOf (before ++ n ∷ behind) n
one_of_parts [] n behind = inl refl
one_of_parts (k ∷ before) n behind = inr (one_of_parts before n behind)

-- if the tables of all numbers are there, none of some of them is missing
pub none_missing : (files : Files) (all numbers : List ℕ) (tables : List (ℕ × List ℕ)) (e : Fault) → IsLoaded (IsFileIn files) all (Ok tables) → ((n : ℕ) → IsOneOf numbers n → IsOneOf all n)
    → IsLoaded (IsFileIn files) numbers (Err e) → ⊥
none_missing files all numbers tables e loaded among missing =
    let one = subst (λ (ns : List ℕ). IsOneOf ns missing.number) (sym missing.parts) (one_of_parts missing.before missing.number missing.behind) in
    there_not_missing files missing.number (table_bytes_of tables missing.number) e (loaded_at (IsFileIn files) all tables missing.number loaded (among missing.number one)) missing.missing

-- the tables of some of the numbers have the bytes of those of all
pub same_bytes : (files : Files) (all numbers : List ℕ) (tables own : List (ℕ × List ℕ)) (n : ℕ) → IsLoaded (IsFileIn files) all (Ok tables) → IsLoaded (IsFileIn files) numbers (Ok own)
    → IsOneOf all n → IsOneOf numbers n → table_bytes_of own n ≡ table_bytes_of tables n
same_bytes files all numbers tables own n loaded read i j =
    one_table files n (table_bytes_of tables n) (table_bytes_of own n) (loaded_at (IsFileIn files) all tables n loaded i) (loaded_at (IsFileIn files) numbers own n read j)
