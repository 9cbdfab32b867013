-- Entries of one user key and one sequence.
use Rattle.std.specs.Prelude.{ℕ, ◌≤◌, Bool, List}
use Rattle.std.specs.List.{count_by}
use Rattle.std.specs.Ordering.{is_eq}
use Rattle.block.specs.EncodedEntry.{Entry}
use Rattle.ikey.specs.Bytewise.{bytewise_cmp}
use Rattle.merge.specs.Union.{key_version_cmp}

-- whether an entry has the user key and the sequence of a key
abbrev pub has_version : List ℕ → Entry → Bool
has_version key e = is_eq (key_version_cmp bytewise_cmp e.key key)

-- how many entries have the user key and the sequence of a key
abbrev pub version_count : List ℕ → List Entry → ℕ
version_count key es = count_by (has_version key) es

-- one user key has one sequence twice
abbrev pub HasRepeat : List Entry → Type 0
HasRepeat es = (key : List ℕ) × (2 ≤ version_count key es)
