-- Parts of files.
use Rattle.std.proofs.Common.{◌≡◌, ℕ, ◌≤◌, List, length, take, drop, replicate, ◌++◌, Option, Some, None, Result, Ok, Err, refl, sym, ap, subst, ◌∙◌}
use Rattle.std.specs.Global.{Vec}
use Rattle.std.specs.Prelude.{IfOk, IfSome}
use Rattle.std.specs.Option.{option_map}
use Rattle.std.proofs.Math.Seq.{drop-append_seam}
use Rattle.std.proofs.lemmas.List.{length-replicate, take_all}
use Rattle.folder.specs.Folder.{TellsPart, part_of}
use Rattle.folder.specs.declared.folder.FolderFault.{FolderFault}

-- bytes that stand at an offset are that part
stands : (offset len : ℕ) (bytes : List ℕ) → length bytes ≤ len → part_of offset len (replicate offset 0 ++ bytes) ≡ bytes
stands offset len bytes fits =
    let before : List ℕ = replicate offset 0 in
    let behind : drop offset (before ++ bytes) ≡ bytes = ap (λ (n : ℕ). drop n (before ++ bytes)) (sym (length-replicate offset 0)) ∙ drop-append_seam before bytes in
    ap (take len) behind ∙ take_all len bytes fits

-- a folder that tells nothing may give any part that isn't too long
pub any_part : (name : List ℕ) (offset len : ℕ) (part : Option (Vec ℕ)) → IfSome part (λ bytes. length bytes.items ≤ len) → TellsPart (λ name held. Unit {0}) name offset len (option_map (λ bytes. bytes.items) part)
any_part name offset len None fits = (None, (tt, refl))
any_part name offset len (Some bytes) fits = (Some (replicate offset 0 ++ bytes.items), (tt, ap (λ (b : List ℕ). Some b) (stands offset len bytes.items fits)))

-- the same of a part that is counted
pub counted_part : {E : Type 0} (name : List ℕ) (offset len : ℕ) (answer : Result (Option (Vec ℕ)) E) (r : Result (Option (Vec ℕ)) FolderFault) → IfOk answer (λ part. IfSome part (λ bytes. length bytes.items ≤ len)) → IfOk r (λ part. answer ≡ Ok part)
    → IfOk r (λ part. TellsPart (λ name held. Unit {0}) name offset len (option_map (λ bytes. bytes.items) part))
counted_part {E = E} name offset len answer (Ok part) fits same = any_part name offset len part (subst (λ (a : Result (Option (Vec ℕ)) E). IfOk a (λ part. IfSome part (λ bytes. length bytes.items ≤ len))) same fits)
counted_part name offset len answer (Err e) fits same = tt
