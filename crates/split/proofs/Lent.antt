-- The user keys of tables' indexes, in a list for each table.
use Rattle.std.proofs.Common.{◌≡◌, ℕ, List, map, ap, ◌∙◌}
use Rattle.std.specs.List.{flat_map}
use Rattle.std.proofs.lemmas.List.Folds.{flat_map-map}
use Rattle.table.specs.TableContents.{Contents}
use Rattle.split.specs.SplitChoice.{index_users_of}

pub lent_users : (tables : List Contents) (lists : List (List (List ℕ))) → lists ≡ map (λ table. table.index_users) tables → flat_map (λ list. list) lists ≡ index_users_of tables
lent_users tables lists is = ap (flat_map (λ (list : List (List ℕ)). list)) is ∙ flat_map-map (λ (list : List (List ℕ)). list) (λ (table : Contents). table.index_users) tables
