-- What options have that pass their test.
use Rattle.std.proofs.Common.{◌≡◌, ℕ, ◌≤◌, ◌^◌, Bool, true, false, refl, arith}
use Rattle.std.specs.Prelude.{◌&&◌, nat_le}
use Rattle.std.proofs.lemmas.Bool.Decides.{nat_tests}
use Rattle.table.specs.declared.options.Options.{Options}
use Rattle.table.specs.Options.{are_in_limits, AreInLimits}

low : (m n : ℕ) → nat_le m n ≡ true → m ≤ n
low m n h = grind (arith, nat_tests)

six : (a b c d e f : Bool) → (a && b && c && d && e && f) ≡ true → (a ≡ true) × (b ≡ true) × (c ≡ true) × (d ≡ true) × (e ≡ true) × (f ≡ true)
six true true true true true true h = (refl, refl, refl, refl, refl, refl)
six false b c d e f h = absurd cc
six true false c d e f h = absurd cc
six true true false d e f h = absurd cc
six true true true false e f h = absurd cc
six true true true true false f h = absurd cc
six true true true true true false h = absurd cc

-- options that pass the test are within their limits
pub limits_told : (o : Options) → are_in_limits o ≡ true → AreInLimits o
limits_told o e =
    let t = six (nat_le 1 o.block_size) (nat_le o.block_size 4194304) (nat_le 1 o.restart_interval) (nat_le o.restart_interval 1024) (nat_le 1 o.file_size) (nat_le o.file_size (2 ^ 30)) e in
    record {
      block_size_some = low 1 o.block_size t.0;
      block_size_le = low o.block_size 4194304 t.1;
      interval_some = low 1 o.restart_interval t.2;
      interval_le = low o.restart_interval 1024 t.3;
      file_size_some = low 1 o.file_size t.4;
      file_size_le = low o.file_size (2 ^ 30) t.5;
    }
