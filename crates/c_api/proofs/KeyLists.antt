-- User keys in arrays.
use Rattle.std.proofs.Common.{◌≡◌, ℕ, Option, ◌<◌, List, [], length, get_or, Some, None, Result, Ok, Err, sym, subst, ◌∙◌}
use Rattle.std.specs.Prelude.{slice_get, IfOk}
use Rattle.std.specs.declared.cmp.Ordering.{Ordering}
use Rattle.std.proofs.lemmas.Option.{slice_get-get_or}
use Rattle.ikey.specs.Answers.{EqualOrMemory}
use Rattle.ikey.specs.fault.Fault.{Fault}
use Rattle.table.specs.TableContents.{Contents}
use Rattle.edit.proofs.Binds.{ok_is}
use Rattle.split.specs.SplitChoice.{IsChoice, index_sample_of}
use Rattle.c_api.specs.Boundaries.{AskedBoundaries, KeyArrays, arrays_of_keys, tables_read}
use Rattle.c_api.specs.Held.{TellChosen, keys_in}
use Rattle.c_api.specs.declared.key_arrays.KeyArrays as declared

-- a place within a list has an element
pub some_key : (xs : List (List ℕ)) (i : ℕ) → i < length xs → slice_get xs i ≡ None → ⊥
some_key xs i lt h = let no : ◌≡◌ {A = Option (List ℕ)} None (Some (get_or xs i [])) = sym h ∙ slice_get-get_or xs i [] lt in absurd cc

-- what the arrays of chosen boundaries answer
module _ (cmp : List ℕ → List ℕ → Ordering) (m : AskedBoundaries) (bs : List (List ℕ)) (r : Result declared.KeyArrays Fault) (same : EqualOrMemory keys_in r (Ok (arrays_of_keys bs))) where
  pub of_tells : (tables : List Contents) → tables ≡ tables_read cmp m.tables m.inputs → length bs < m.want → IsChoice cmp (index_sample_of m.want tables) m.want bs → IfOk r (λ a. TellChosen cmp m (keys_in a))
  of_tells tables is few chosen = by r same
    where
      by : (r : Result declared.KeyArrays Fault) → EqualOrMemory keys_in r (Ok (arrays_of_keys bs)) → IfOk r (λ a. TellChosen cmp m (keys_in a))
      by (Ok a) k = (bs, (few, subst (λ (ts : List Contents). IsChoice cmp (index_sample_of m.want ts) m.want bs) is chosen), sym (ok_is (arrays_of_keys bs) (keys_in a) k))
      by (Err e) k = tt
