-- Each table has what its definition says, at each of the 256 bytes: shown by computing.
use Rattle.std.proofs.Common.{◌≡◌, ℕ, zero, suc, ◌+◌, ◌<◌, Bool, true, ◌&&◌, nat_eq, get_or, List, [], ◌∷◌, length, refl, arith, ap, sym, ◌∙◌}
use Rattle.std.proofs.lemmas.Bool.{and_parts, eqb-true}
use Rattle.coding.specs.CrcRegister.{register_after_step, register_after_steps}
use Rattle.coding.specs.declared.crc.tables.TheConstants.{AFTER_ONE, AFTER_THIRTEEN, AFTER_FOURTEEN, AFTER_FIFTEEN, AFTER_SIXTEEN}

-- the list holds f i, f (i + 1), ..
abbrev lists_from : (ℕ → ℕ) → ℕ → List ℕ → Bool
lists_from f i [] = true
lists_from f i (x ∷ xs) = nat_eq x (f i) && lists_from f (suc i) xs

get_or-lists_from : (f : ℕ → ℕ) (i : ℕ) (xs : List ℕ) → lists_from f i xs ≡ true → (k : ℕ) → k < length xs → get_or xs k 0 ≡ f (i + k)
get_or-lists_from f i [] h k inside = absurd (omega arith)
get_or-lists_from f i (x ∷ xs) h zero inside =
    let here : i + 0 ≡ i = omega arith in
    eqb-true x (f i) (and_parts (nat_eq x (f i)) (lists_from f (suc i) xs) h).0 ∙ ap f (sym here)
get_or-lists_from f i (x ∷ xs) h (suc k) inside =
    let there : suc i + k ≡ i + suc k = omega arith in
    get_or-lists_from f (suc i) xs (and_parts (nat_eq x (f i)) (lists_from f (suc i) xs) h).1 k (omega arith) ∙ ap f there

at_byte : (f : ℕ → ℕ) (xs : List ℕ) → lists_from f 0 xs ≡ true → length xs ≡ 256 → (b : ℕ) → b < 256 → get_or xs b 0 ≡ f b
at_byte f xs h whole b small =
    let same : 0 + b ≡ b = omega arith in
    get_or-lists_from f 0 xs h b (omega arith) ∙ ap f same

pub after_one : (b : ℕ) → b < 256 → get_or AFTER_ONE b 0 ≡ register_after_steps 8 b
unfolding register_after_step register_after_steps
after_one = at_byte (register_after_steps 8) AFTER_ONE refl refl

pub after_thirteen : (b : ℕ) → b < 256 → get_or AFTER_THIRTEEN b 0 ≡ register_after_steps 104 b
unfolding register_after_step register_after_steps
after_thirteen = at_byte (register_after_steps 104) AFTER_THIRTEEN refl refl

pub after_fourteen : (b : ℕ) → b < 256 → get_or AFTER_FOURTEEN b 0 ≡ register_after_steps 112 b
unfolding register_after_step register_after_steps
after_fourteen = at_byte (register_after_steps 112) AFTER_FOURTEEN refl refl

pub after_fifteen : (b : ℕ) → b < 256 → get_or AFTER_FIFTEEN b 0 ≡ register_after_steps 120 b
unfolding register_after_step register_after_steps
after_fifteen = at_byte (register_after_steps 120) AFTER_FIFTEEN refl refl

pub after_sixteen : (b : ℕ) → b < 256 → get_or AFTER_SIXTEEN b 0 ≡ register_after_steps 128 b
unfolding register_after_step register_after_steps
after_sixteen = at_byte (register_after_steps 128) AFTER_SIXTEEN refl refl
