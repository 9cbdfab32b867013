use Rattle.std.proofs.Common.{◌≡◌, Option, Some, List, [], ◌∷◌, ℕ, map, refl, sym, ap, ◌∙◌}
use Rattle.std.specs.Option.{option_map}
use Rattle.clap.specs.Words.{found_of}
use Rattle.clap.proofs.WalkLemmas.{raw_values-rows}
use Rattle.usage.proofs.key_lines.key_source.Goals as goal

-- each of the texts is read
read_each : {Y Z : Type 0} (read : List ℕ → Z) (text : Y → List ℕ) (texts : List Y) → map read (map text texts) ≡ map (λ y. read (text y)) texts
read_each read text [] = refl
read_each read text (y ∷ texts) = ap (λ (rest : List _). read (text y) ∷ rest) (read_each read text texts)

-- the keys are those of all texts that are given
given : {Y Z : Type 0} (read : List ℕ → Z) (text : Y → List ℕ) (texts : List Y) (all : Option (List (List ℕ))) (keys : List Z) → Some (map text texts) ≡ all → map (λ y. read (text y)) texts ≡ keys → option_map (map read) all ≡ Some keys
given read text texts all keys is are = ap (option_map (map read)) (sym is) ∙ ap Some (read_each read text texts ∙ are)

-- src/key_lines.rt:69:1
pub returns-in_ok-keys_in-in-Some-false : goal.returns-in_ok-keys_in-in-Some-false
returns-in_ok-keys_in-in-Some-false c =
    (sym c.in-Some-false.ensures', given _ (λ t. t.now) c.in-Some-false.texts.now _ _ (c.in-Some-false.ensures ∙ raw_values-rows (found_of c.args.values.now) _) c.in_ok-keys_in-in-Some-false.ensures)

-- src/key_lines.rt:69:1
pub returns-in-None-true : goal.returns-in-None-true
returns-in-None-true c = (sym c.in-None-true.ensures', sym (c.in-None-true.ensures ∙ raw_values-rows (found_of c.args.values.now) _))
