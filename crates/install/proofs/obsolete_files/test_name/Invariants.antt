use Rattle.std.proofs.Common.{◌≡◌, ◌<◌, ◌^◌, ℕ, get_or}
use Rattle.install.specs.ObsoleteFile.{name_of}
use Rattle.install.specs.declared.file_kind.FileKind.TheVariants.{Table}
use Rattle.install.proofs.obsolete_files.test_name.Given as goal

-- the name is none of the kinds so far
abbrev pub invariant-loop-kind : goal.invariant-loop-kind
invariant-loop-kind l = (k : ℕ) → k < l.kind-index → (n : ℕ) → n < 2 ^ 64 → l.name ≡ name_of (get_or l.kind-items k Table) n → ⊥
