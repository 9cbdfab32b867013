-- Tables that are checked are what the bytes of the inputs read as.
use Rattle.std.proofs.Common.{◌≡◌, ℕ, ◌+◌, Bool, true, List, [], ◌∷◌, map, Result, Ok, length, refl, sym, ap, ◌∙◌}
use Rattle.std.specs.Prelude.{◌&&◌, nat_eq}
use Rattle.std.specs.Str.{bytes_eq}
use Rattle.std.specs.declared.cmp.Ordering.{Ordering}
use Rattle.std.proofs.lemmas.Bool.Decides.{Decides-eqb}
use Rattle.std.proofs.lemmas.Slice.Eq.{bytes_eq-Decides}
use Rattle.ikey.specs.Answers.{◌>>=◌}
use Rattle.ikey.specs.fault.Fault.{Fault}
use Rattle.table.specs.EncodedEntry.{Entry}
use Rattle.table.specs.TableContents.{Contents}
use Rattle.edit.specs.declared.meta.FileMeta.{FileMeta}
use Rattle.pick.specs.declared.picked_inputs.InputFile.{InputFile}
use Rattle.reads.specs.Lawful.{IsFileOf}
use Rattle.reads.specs.Tables.{NumberedContents}
use Rattle.compact.specs.Inputs.{result_at_input, table_matches_metadata, inputs_reading}
use Rattle.compact.specs.CheckedInputs.{AreInputs}
use Rattle.compact.proofs.InputAnswers.{read_stated, stated_by}

pub read_inputs : (cmp : List ℕ → List ℕ → Ordering) (place : ℕ) (files : List InputFile) (tables : List Contents) → AreInputs cmp files tables
    → inputs_reading cmp place files (map (λ (t : Contents). t.bytes) tables) ≡ Ok (map (λ (t : Contents). t.entries) tables)
read_inputs cmp place [] [] h = refl
read_inputs cmp place [] (t ∷ ts) h = absurd h
read_inputs cmp place (i ∷ is) [] h = absurd h
read_inputs cmp place (i ∷ is) (t ∷ ts) h =
    ap (λ (own : Result (List Entry) Fault). result_at_input place own >>= λ entries. inputs_reading cmp (place + 1) is (map (λ (x : Contents). x.bytes) ts) >>= λ rest. Ok (entries ∷ rest))
    (read_stated cmp i.meta t.bytes t h.0 h.1.0)
    ∙ ap (λ (rest : Result (List (List Entry)) Fault). rest >>= λ others. Ok (t.entries ∷ others)) (read_inputs cmp (place + 1) is ts h.1.1)

all_three : (a b c : Bool) → a ≡ true → b ≡ true → c ≡ true → (a && (b && c)) ≡ true
all_three a b c h k l = ap (λ x. x && (b && c)) h ∙ ap (λ x. x && c) k ∙ l

-- a file of a lawful version is what the version states
pub stated_lawful : (cmp : List ℕ → List ℕ → Ordering) (tables : List NumberedContents) (f : FileMeta) (h : IsFileOf cmp tables f) → table_matches_metadata f h.table ≡ true
stated_lawful cmp tables f h =
    sym (stated_by f h.table h.table.bytes f.smallest f.largest refl (sym h.smallest) (sym h.largest))
    ∙ all_three (nat_eq f.size (length h.table.bytes)) (bytes_eq f.smallest f.smallest) (bytes_eq f.largest f.largest)
    ((Decides-eqb f.size (length h.table.bytes)).1 h.size) ((bytes_eq-Decides f.smallest f.smallest).1 refl) ((bytes_eq-Decides f.largest f.largest).1 refl)
