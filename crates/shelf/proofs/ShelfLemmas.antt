-- What a call on a folder in memory changes of what may be read.
use Rattle.std.proofs.Common.{◌≡◌, ℕ, ◌+◌, ◌<◌, suc, Bor, true, false, List, [], ◌∷◌, ◌++◌, length, map, take, drop, get_or, Option, Some, None, Result, Ok, Err, IsErrAnd, refl, sym, ap, subst, ◌∙◌, inl, inr, if◌then◌else◌, add-one, drop-cons}
use Rattle.std.specs.Global.{Vec}
use Rattle.std.specs.Str.{bytes_eq}
use Rattle.folder.specs.Calls.{AreTorn, Call, Created, Done, Files, FolderSynced, FolderView, Removed, Renamed, Step, Synced, Tells, TellsAfter, Tried, Written, step_of, with_moved, with_value, with_renamed, with_contents, with_synced, with_written}
use Rattle.shelf.specs.Alters.{Alters, AltersEach, with_files}
use Rattle.folder.specs.Names.{table_name}
use Rattle.shelf.specs.Shelf.{ShelfCalls, ShelfView, files_after_steps, files_in, held_by}
use Rattle.folder.specs.TableFiles.{table_files}
use Rattle.folder.specs.declared.folder.FolderFault.{FolderFault}
use Rattle.shelf.specs.declared.shelf_step.ShelfStep.{ShelfStep}
use Rattle.folder.proofs.PutLemmas.{put_other, put_same, same_name}
use Rattle.shelf.proofs.TableLemmas.{tables_around, tables_on}

-- lent files by their names and bytes
abbrev pub lent : List (Bor (List ℕ) × Bor (List ℕ)) → List (List ℕ × List ℕ)
lent files = map (λ (f : Bor (List ℕ) × Bor (List ℕ)). (f.0.now, f.1.now)) files

-- files that hold the same under each name
abbrev Alike : Files → Files → Type 0
Alike a b = (name : List ℕ) → a name ≡ b name

put_alike : (a b : Files) (name : List ℕ) (held : Option (List ℕ)) → Alike a b → Alike (with_value a name held) (with_value b name held)
put_alike a b name held same other = ap (λ (x : Option (List ℕ)). if bytes_eq other name then held else x) (same other)

-- what is put in place of itself
put_back : (a : Files) (name : List ℕ) → Alike (with_value a name (a name)) a
put_back a name other = elim (same_name other name) [
  | inl is ↦ subst (λ (n : List ℕ). with_value a name (a name) n ≡ a n) (sym is) (put_same a name (a name))
  | inr differs ↦ put_other a name (a name) other differs
]

moved_alike : (a b : Files) (from to : List ℕ) → Alike a b → Alike (with_moved None a from to) (with_moved None b from to)
moved_alike a b from to same other =
    ap (λ (x : Option (List ℕ)). if bytes_eq other to then x else with_value a from None other) (same from)
    ∙ ap (λ (x : Option (List ℕ)). if bytes_eq other to then b from else x) (put_alike a b from None same other)

is_at : (a b : Files) → a ≡ b → Alike a b
is_at a b e name = ap (λ (f : Files). f name) e

-- just the files that are held may be read
abbrev pub told : Files → List ℕ → Option (List ℕ) → Type 0
told files name held = files name ≡ held

tells_alike : (a b : Files) → Alike b a → Tells (told a) b
tells_alike a b same name held = (λ h. same name ∙ h, λ h. sym (same name) ∙ h)

alike_told : (a b : Files) → Tells (told a) b → Alike b a
alike_told a b tells name = (tells name (a name)).0 refl

-- files that were written, or torn, over files that hold the same
written_alike : (files : List (List ℕ × List ℕ)) (s : FolderView) (old : Files) → Alike s.files old → Alike (with_written s files).files (with_files old files)
written_alike [] s old same = same
written_alike (file ∷ files) s old same = written_alike files (with_synced (with_contents s file.0 (Some file.1)) file.0) (with_value old file.0 (Some file.1)) (put_alike s.files old file.0 (Some file.1) same)

torn_alike : (files : List (List ℕ × List ℕ)) (s : FolderView) (old new : Files) → Alike s.files old → AltersEach files old new → (next : FolderView) × AreTorn files s next × Alike next.files new
torn_alike [] s old new same is = (s, refl, λ n. same n ∙ sym (is_at new old is n))
torn_alike (file ∷ files) s old new same (inl h) =
    let held = s.files file.0 in
    let rest = torn_alike files (with_contents s file.0 held) old new (λ n. put_back s.files file.0 n ∙ same n) h in
    (rest.0, (held, rest.1), rest.2)
torn_alike (file ∷ files) s old new same (inr h) =
    let rest = torn_alike files (with_contents s file.0 h.0) (with_value old file.0 h.0) new (put_alike s.files old file.0 h.0 same) h.1 in
    (rest.0, (h.0, rest.1), rest.2)

alters_tells : (step : Step) (old new : Files) → Alters step old new → TellsAfter step (told old) (told new)
alters_tells (Done (Created name bytes)) old new is s tells =
    let next = with_contents s name (Some bytes) in
    (next, refl, tells_alike new next.files (λ n. put_alike s.files old name (Some bytes) (alike_told old s.files tells) n ∙ sym (is_at new _ is n)))
alters_tells (Tried (Created name bytes)) old new (inl is) s tells =
    let next = with_contents s name (s.files name) in
    (next, (s.files name, refl), tells_alike new next.files (λ n. put_back s.files name n ∙ (alike_told old s.files tells n ∙ sym (is_at new old is n))))
alters_tells (Tried (Created name bytes)) old new (inr is) s tells =
    let next = with_contents s name is.0 in
    (next, (is.0, refl), tells_alike new next.files (λ n. put_alike s.files old name is.0 (alike_told old s.files tells) n ∙ sym (is_at new _ is.1 n)))
alters_tells (Done (Written files)) old new is s tells =
    let next = with_written s files in
    (next, refl, tells_alike new next.files (λ n. written_alike files s old (alike_told old s.files tells) n ∙ sym (is_at new _ is n)))
alters_tells (Tried (Written files)) old new is s tells =
    let torn = torn_alike files s old new (alike_told old s.files tells) is in
    (torn.0, torn.1, tells_alike new torn.0.files torn.2)
alters_tells (Done (Renamed from to)) old new is s tells =
    let next = with_renamed s from to in
    (next, refl, tells_alike new next.files (λ n. moved_alike s.files old from to (alike_told old s.files tells) n ∙ sym (is_at new _ is n)))
alters_tells (Tried (Renamed from to)) old new (inl is) s tells =
    (s, inl refl, tells_alike new s.files (λ n. alike_told old s.files tells n ∙ sym (is_at new old is n)))
alters_tells (Tried (Renamed from to)) old new (inr is) s tells =
    let next = with_renamed s from to in
    (next, inr refl, tells_alike new next.files (λ n. moved_alike s.files old from to (alike_told old s.files tells) n ∙ sym (is_at new _ is n)))
alters_tells (Done (Removed name)) old new is s tells =
    let next = with_contents s name None in
    (next, refl, tells_alike new next.files (λ n. put_alike s.files old name None (alike_told old s.files tells) n ∙ sym (is_at new _ is n)))
alters_tells (Tried (Removed name)) old new (inl is) s tells =
    (s, inl refl, tells_alike new s.files (λ n. alike_told old s.files tells n ∙ sym (is_at new old is n)))
alters_tells (Tried (Removed name)) old new (inr is) s tells =
    let next = with_contents s name None in
    (next, inr refl, tells_alike new next.files (λ n. put_alike s.files old name None (alike_told old s.files tells) n ∙ sym (is_at new _ is n)))
alters_tells (Done (Synced name)) old new is s tells =
    (with_synced s name, refl, tells_alike new s.files (λ n. alike_told old s.files tells n ∙ sym (is_at new old is n)))
alters_tells (Tried (Synced name)) old new is s tells = (s, refl, tells_alike new s.files (λ n. alike_told old s.files tells n ∙ sym (is_at new old is n)))
alters_tells (Done FolderSynced) old new is s tells = (s, refl, tells_alike new s.files (λ n. alike_told old s.files tells n ∙ sym (is_at new old is n)))
alters_tells (Tried FolderSynced) old new is s tells = (s, refl, tells_alike new s.files (λ n. alike_told old s.files tells n ∙ sym (is_at new old is n)))

-- what a call that writes changes of what may be read
pub wrote : (step : Step) (start : List (List ℕ × List ℕ)) (before after : ShelfCalls) (old : ShelfView) → record { start = start; made = before } ≡ old → ((files : Files) → Alters step (files_after_steps before.steps files) (files_after_steps after.steps files))
    → TellsAfter step (told (held_by old)) (told (files_after_steps after.steps (files_in start)))
wrote step start before after old is change =
    let at = files_in start in
    subst (λ (s : ShelfView). TellsAfter step (told (held_by s)) (told (files_after_steps after.steps at))) is
    (alters_tells step (files_after_steps before.steps at) (files_after_steps after.steps at) (change at))

-- the same if that is handed on
pub handed_on : {U : Type 0} (call : Call) (r q : Result U FolderFault) (tells : List ℕ → Option (List ℕ) → Type 0) (start : List (List ℕ × List ℕ)) (before after : ShelfCalls) → r ≡ q → after.steps ≡ before.steps
    → TellsAfter (step_of call q) tells (told (files_after_steps before.steps (files_in start))) → TellsAfter (step_of call r) tells (told (files_after_steps after.steps (files_in start)))
handed_on {U = U} call r q tells start before after same is h =
    subst (λ (s : List ShelfStep). TellsAfter (step_of call r) tells (told (files_after_steps s (files_in start)))) (sym is)
    (subst (λ (x : Result U FolderFault). TellsAfter (step_of call x) tells (told (files_after_steps before.steps (files_in start)))) (sym same) h)

abbrev pub no_file : Bor (List ℕ) × Bor (List ℕ)
no_file = (record { ref_ptr = (0, 0); now = [] }, record { ref_ptr = (0, 0); now = [] })

here : (name key bytes : List ℕ) (rest : List (List ℕ × List ℕ)) → bytes_eq name key ≡ true → files_in ((key, bytes) ∷ rest) name ≡ Some bytes
here name key bytes rest is = rw is refl

later : (name key bytes : List ℕ) (rest : List (List ℕ × List ℕ)) → bytes_eq name key ≡ false → files_in ((key, bytes) ∷ rest) name ≡ files_in rest name
later name key bytes rest is = rw is refl

drop_at : (files : List (Bor (List ℕ) × Bor (List ℕ))) (i : ℕ) → i < length files → drop i files ≡ get_or files i no_file ∷ drop (i + 1) files
drop_at files i within = rw add-one (drop-cons files i no_file within)

-- the file at a place has the name
pub found_here : (files : List (Bor (List ℕ) × Bor (List ℕ))) (i : ℕ) (name : List ℕ) → i < length files → bytes_eq name (get_or files i no_file).0.now ≡ true
    → files_in (lent (drop i files)) name ≡ Some (get_or files i no_file).1.now
found_here files i name within is =
    let file = get_or files i no_file in
    ap (λ (fs : List (Bor (List ℕ) × Bor (List ℕ))). files_in (lent fs) name) (drop_at files i within) ∙ here name file.0.now file.1.now (lent (drop (i + 1) files)) is

-- the file at a place has another name
pub found_later : (files : List (Bor (List ℕ) × Bor (List ℕ))) (i : ℕ) (name : List ℕ) → i < length files → bytes_eq name (get_or files i no_file).0.now ≡ false
    → files_in (lent (drop i files)) name ≡ files_in (lent (drop (i + 1) files)) name
found_later files i name within is =
    let file = get_or files i no_file in
    ap (λ (fs : List (Bor (List ℕ) × Bor (List ℕ))). files_in (lent fs) name) (drop_at files i within) ∙ later name file.0.now file.1.now (lent (drop (i + 1) files)) is

-- ---- files that are written one after the other

-- a call's failure that `?` hands on
pub tried_of : {U : Type 0} (P : FolderFault → Type 0) (call : Call) (r : Result U FolderFault) → IsErrAnd r P → step_of call r ≡ Tried call
tried_of P call (Ok x) h = absurd h
tried_of P call (Err e) h = refl

-- one file is made, and then synced or not
pub then_synced : {U : Type 0} (name bytes : List ℕ) (r : Result U FolderFault) (old made new : Files) → made ≡ with_value old name (Some bytes) → Alters (step_of (Synced name) r) made new → Alters (step_of (Written ((name, bytes) ∷ [])) r) old new
then_synced name bytes (Ok x) old made new first second = second ∙ first
then_synced name bytes (Err e) old made new first second = inr (Some bytes, second ∙ first)

with_files_then : (one two : List (List ℕ × List ℕ)) (old : Files) → with_files old (one ++ two) ≡ with_files (with_files old one) two
with_files_then [] two old = refl
with_files_then (file ∷ one) two old = with_files_then one two (with_value old file.0 (Some file.1))

pub unaltered : (files : List (List ℕ × List ℕ)) (old new : Files) → new ≡ old → AltersEach files old new
unaltered [] old new is = is
unaltered (file ∷ files) old new is = inl (unaltered files old new is)

-- the first files are written, one is torn, and the others stay as they were
altered_then : (one : List (List ℕ × List ℕ)) (file : List ℕ × List ℕ) (rest : List (List ℕ × List ℕ)) (old new : Files) → AltersEach (file ∷ []) (with_files old one) new → AltersEach (one ++ file ∷ rest) old new
altered_then [] file rest old new (inl is) = inl (unaltered rest old new is)
altered_then [] file rest old new (inr h) = inr (h.0, unaltered rest (with_value old file.0 h.0) new h.1)
altered_then (other ∷ one) file rest old new h = inr (Some other.1, altered_then one file rest (with_value old other.0 (Some other.1)) new h)

-- one table more is written
pub one_more : (tables : List (ℕ × Vec ℕ)) (i : ℕ) (t : ℕ × Vec ℕ) (old made new : Files) → i < length tables → t ≡ get_or tables i t → made ≡ with_files old (table_files (take i tables))
    → new ≡ with_value made (table_name t.0) (Some t.1.items) → new ≡ with_files old (table_files (take (i + 1) tables))
one_more tables i t old made new within is so_far one =
    one
    ∙ (ap (λ (m : Files). with_value m (table_name t.0) (Some t.1.items)) so_far
    ∙ (sym (with_files_then (table_files (take i tables)) ((table_name t.0, t.1.items) ∷ []) old)
    ∙ ap (with_files old) (tables_on tables i t within is)))

-- one table more is torn, and no other follows
pub one_failed : (tables : List (ℕ × Vec ℕ)) (i : ℕ) (t : ℕ × Vec ℕ) (old made new : Files) → i < length tables → t ≡ get_or tables i t → made ≡ with_files old (table_files (take i tables))
    → AltersEach ((table_name t.0, t.1.items) ∷ []) made new → AltersEach (table_files tables) old new
one_failed tables i t old made new within is so_far torn =
    subst (λ (fs : List (List ℕ × List ℕ)). AltersEach fs old new) (tables_around tables i t within is)
    (altered_then (table_files (take i tables)) (table_name t.0, t.1.items) (table_files (drop (suc i) tables)) old new
    (subst (λ (m : Files). AltersEach ((table_name t.0, t.1.items) ∷ []) m new) so_far torn))
