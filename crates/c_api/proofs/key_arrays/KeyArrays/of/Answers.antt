use Rattle.std.proofs.Common.{◌≡◌, ◌<◌, ◌++◌, ◌∷◌, [], ℕ, List, length, sym, ap, ◌∙◌, arith}
use Rattle.std.specs.Option.{option_map}
use Rattle.std.specs.Prelude.{slice_get, Some}
use Rattle.c_api.proofs.RunLists.{flat_map_got, map_got}
use Rattle.c_api.proofs.key_arrays.KeyArrays.of.Goals as goal

pub loop-number-preserved : goal.loop-number-preserved
loop-number-preserved g c =
    let all : List (List ℕ) = c.args.split.now in
    let i = c.loop-number.number in
    let key : List ℕ = c.boundary-key.result.now in
    let lt : i < length all = omega (arith, c.loop-number-test.true, c.len-number-end.ensures.number) in
    let own : option_map (λ (k : List ℕ). k) (slice_get all i) ≡ Some key = ap (option_map (λ (k : List ℕ). k)) c.boundary-key.ensures in
    let here : option_map length (slice_get all i) ≡ Some (length key) = ap (option_map length) c.boundary-key.ensures in
    record {
      bytes = c.in_ok-extend_from_slice.ensures.items ∙ ap (λ (bs : List ℕ). bs ++ key) c.loop-number.invariant.bytes ∙ sym (flat_map_got (λ (k : List ℕ). k) all i [] key lt own);
      lengths = c.in_ok-push.ensures.items ∙ ap (λ (ls : List ℕ). ls ++ length key ∷ []) c.loop-number.invariant.lengths ∙ sym (map_got length all i [] (length key) lt here);
    }
