-- The names under which tables are there, and their lines.
use Rattle.std.proofs.Common.{◌≡◌, ◌⊎◌, ℕ, List, [], ◌∷◌, ◌++◌, Option, Some, None, Result, Ok, Err, IfErr, OnOk, codes, refl, sym, ap, subst, ◌∙◌, append_assoc}
use Rattle.std.specs.Prelude.{is_some}
use Rattle.std.specs.List.{flat_map}
use Rattle.std.specs.Option.{option_map}
use Rattle.std.proofs.lemmas.List.{append-nil}
use Rattle.folder.proofs.Binds.{ok_is}
use Rattle.folder.specs.Answers.{UnlessMemory, fault, ◌>>=◌}
use Rattle.folder.specs.fault.Fault.{Fault}
use Rattle.folder.specs.fault.FaultName.TheVariants.{Memory}
use Rattle.folder.specs.Calls.{Files, Tells}
use Rattle.folder.specs.Folder.{TellsPart}
use Rattle.folder.specs.Names.{current_text, manifest_name}
use Rattle.folder.specs.OpenAnswer.{FolderAnswers, IsStopped}
use Rattle.store.specs.FilesToCompact.{name_line, name_there, names_there}
use Rattle.store.specs.NameLines.{line_after, lines_after}
use Rattle.store.proofs.Flow.{no_refusal, refusal}

-- ---- one name

mapped_some : {X Y : Type 0} (f : X → Y) (o : Option X) → is_some (option_map f o) ≡ is_some o
mapped_some f None = refl
mapped_some f (Some x) = refl

-- a read of a part tells whether a file is there
pub part_there : {X : Type 0} (tells : List ℕ → Option (List ℕ) → Type 0) (files : Files) (name : List ℕ) (offset len : ℕ) (view : X → List ℕ) (part : Option X) → Tells tells files → TellsPart tells name offset len (option_map view part)
    → is_some part ≡ is_some (files name)
part_there tells files name offset len view part told h =
    sym (mapped_some view part) ∙ sym (ap (λ (o : Option (List ℕ)). is_some o) h.1.1) ∙ mapped_some _ h.0 ∙ sym (ap (λ (o : Option (List ℕ)). is_some o) ((told name h.0).0 h.1.0))

-- ---- several names

-- a line of a name that was found
pub line_told : {X : Type 0} (files : Files) (text after name : List ℕ) (number : ℕ) (before now : ℕ) (r : Result X Fault) → Ok name ≡ name_there files number → OnOk r (after ≡ text ++ name_line name) → IfErr r (λ e. e ≡ fault Memory)
    → FolderAnswers (λ _. after) before now r (λ (a : Result (List ℕ) Fault). a ≡ line_after files text number)
line_told files text after name number before now (Ok x) found written memory = ap (λ (t : List ℕ). Ok t) written ∙ ap (λ (a : Result (List ℕ) Fault). a >>= λ n. Ok (text ++ name_line n)) found
line_told files text after name number before now (Err e) found written memory =
    subst (λ (f : Fault). UnlessMemory f (IsStopped before now f ⊎ (refusal f ≡ line_after files text number))) (sym memory) tt

-- its line is written, and the others are left
pub line_written : (files : Files) (text after : List ℕ) (number : ℕ) (numbers : List ℕ) → Ok after ≡ line_after files text number → lines_after files text (number ∷ numbers) ≡ lines_after files after numbers
line_written files text after number numbers = by (name_there files number) (names_there files numbers)
  where
    by : (r : Result (List ℕ) Fault) (rest : Result (List (List ℕ)) Fault) → Ok after ≡ (r >>= λ name. Ok (text ++ name_line name))
        → ((r >>= λ name. rest >>= λ names. Ok (name ∷ names)) >>= λ names. Ok (text ++ flat_map name_line names)) ≡ (rest >>= λ names. Ok (after ++ flat_map name_line names))
    by (Ok name) (Ok names) h =
        let same : after ≡ text ++ name_line name = ok_is after (text ++ name_line name) h in
        ap (λ (t : List ℕ). Ok t) (sym (append_assoc text (name_line name) (flat_map name_line names)) ∙ ap (λ (t : List ℕ). t ++ flat_map name_line names) (sym same))
    by (Ok name) (Err e) h = refl
    by (Err e) rest h = absurd (no_refusal after e h)

-- it isn't there
pub line_refused : (files : Files) (text : List ℕ) (number : ℕ) (numbers : List ℕ) (e : Fault) → refusal e ≡ line_after files text number → lines_after files text (number ∷ numbers) ≡ refusal e
line_refused files text number numbers e = by (name_there files number)
  where
    by : (r : Result (List ℕ) Fault) → refusal e ≡ (r >>= λ name. Ok (text ++ name_line name))
        → ((r >>= λ name. names_there files numbers >>= λ names. Ok (name ∷ names)) >>= λ names. Ok (text ++ flat_map name_line names)) ≡ refusal e
    by (Ok name) h = absurd (no_refusal (text ++ name_line name) e (sym h))
    by (Err d) h = sym h

-- none is left
pub no_lines : (files : Files) (text : List ℕ) → lines_after files text [] ≡ Ok text
no_lines files text = ap (λ (t : List ℕ). Ok t) (append-nil text)

-- ---- all lines

-- the lines of CURRENT, the manifest and these numbers
abbrev pub all_lines : Files → ℕ → List ℕ → Result (List ℕ) Fault
all_lines files manifest numbers = names_there files numbers >>= λ names. Ok (flat_map name_line (codes "CURRENT" ∷ manifest_name manifest ∷ names))

-- after CURRENT and the manifest
pub after_opened : (manifest : ℕ) (r : Result (List (List ℕ)) Fault)
    → (r >>= λ names. Ok ((codes "CURRENT\n" ++ current_text manifest) ++ flat_map name_line names)) ≡ (r >>= λ names. Ok (flat_map name_line (codes "CURRENT" ∷ manifest_name manifest ∷ names)))
after_opened manifest (Ok names) = ap (λ (t : List ℕ). Ok t) (append_assoc (codes "CURRENT\n") (current_text manifest) (flat_map name_line names))
after_opened manifest (Err e) = refl
