-- The data blocks of a plan, encoded and collected one after the other.
use Rattle.std.proofs.Common.{◌≡◌, ◌+◌, ◌≤◌, ℕ, List, [], ◌∷◌, ◌++◌, map, take, sym, ap, ◌∙◌, arith}
use Rattle.std.specs.Prelude.{slice_get, Some}
use Rattle.std.specs.Global.{Vec}
use Rattle.std.proofs.lemmas.List.{map-append, length-map, take_all}
use Rattle.block.specs.EncodedEntry.{Entry}
use Rattle.block.specs.BlockFormat.{block}
use Rattle.keep.proofs.Leasts.{take_next}
use Rattle.table.specs.declared.options.Options.{Options}
use Rattle.table.specs.Trailer.{stored_block}
use Rattle.cut.specs.Plan.{parts, jobs, encoded_blocks}

-- the bytes of pieces
abbrev pub bytes_in : List (Vec ℕ) → List (List ℕ)
bytes_in ps = map (λ (p : Vec ℕ). p.items) ps

-- one more block is encoded
pub one_collected : (o : Options) (qs : List (List Entry)) (ps ps' : List (Vec ℕ)) (p : Vec ℕ) (job : ℕ) → bytes_in ps ≡ take job (encoded_blocks o qs)
    → slice_get (encoded_blocks o qs) job ≡ Some p.items → ps' ≡ ps ++ p ∷ [] → bytes_in ps' ≡ take (job + 1) (encoded_blocks o qs)
one_collected o qs ps ps' p job so_far here more =
    ap bytes_in more ∙ map-append (λ (x : Vec ℕ). x.items) ps (p ∷ [])
    ∙ ap (λ (xs : List (List ℕ)). xs ++ p.items ∷ []) so_far
    ∙ sym (take_next (encoded_blocks o qs) job p.items here)

-- all are
pub all_collected : (o : Options) (qs : List (List Entry)) (ps : List (Vec ℕ)) (job : ℕ) → bytes_in ps ≡ take job (encoded_blocks o qs) → jobs o qs ≤ job → bytes_in ps ≡ encoded_blocks o qs
all_collected o qs ps job so_far end = so_far ∙ take_all job (encoded_blocks o qs) (omega (arith, end, length-map (parts o qs) (λ (p : List Entry). stored_block (block o.restart_interval p))))
