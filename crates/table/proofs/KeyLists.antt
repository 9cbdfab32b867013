-- Keys, one after the other: one more of them, and one that is read.
use Rattle.std.proofs.Common.{◌≡◌, ℕ, zero, suc, ◌+◌, ◌-◌, ◌<◌, ◌≤◌, List, [], ◌∷◌, ◌++◌, length, get_or, take, drop, refl, sym, ap, subst, ◌∙◌, arith}
use Rattle.std.proofs.lemmas.List.{take-append-le, drop-append-le, length-append, length-drop, drop-drop}
use Rattle.table.specs.KeyLists.{cut_at, AreKeyEnds, key_start}

-- there is a key for each end
pub counted : (from : ℕ) (ends bytes : List ℕ) → length (cut_at from ends bytes) ≡ length ends
counted from [] bytes = refl
counted from (end ∷ ends) bytes = ap (λ (n : ℕ). suc n) (counted end ends (drop (end - from) bytes))

take_all : (n : ℕ) (xs : List ℕ) → n ≡ length xs → take n xs ≡ xs
take_all zero [] is = refl
take_all zero (x ∷ xs) is = absurd (omega arith)
take_all (suc n) [] is = absurd (omega arith)
take_all (suc n) (x ∷ xs) is = ap (λ (l : List ℕ). x ∷ l) (take_all n xs (omega arith))

drop_all : (n : ℕ) (xs : List ℕ) → n ≡ length xs → drop n xs ≡ []
drop_all zero [] is = refl
drop_all zero (x ∷ xs) is = absurd (omega arith)
drop_all (suc n) [] is = absurd (omega arith)
drop_all (suc n) (x ∷ xs) is = drop_all n xs (omega arith)

-- one more key stands after the others
pub cut_pushed : (from : ℕ) (ends bytes key : List ℕ) (to : ℕ) → AreKeyEnds from ends bytes → to ≡ from + length bytes + length key → cut_at from (ends ++ to ∷ []) (bytes ++ key) ≡ cut_at from ends bytes ++ key ∷ []
cut_pushed from [] bytes key to are is =
    let none : length bytes ≡ 0 = ap length are in
    let alone : bytes ++ key ≡ key = ap (λ (l : List ℕ). l ++ key) are in
    ap (λ (k : List ℕ). k ∷ []) (ap (take (to - from)) alone ∙ take_all (to - from) key (omega arith))
cut_pushed from (end ∷ ends) bytes key to are is =
    let within : end - from ≤ length bytes = omega (arith, are.0, are.1) in
    let rest = cut_pushed end ends (drop (end - from) bytes) key to are.2 (omega (arith, are.0, are.1, length-drop (end - from) bytes)) in
    rw (take-append-le (end - from) bytes key within, drop-append-le (end - from) bytes key within, rest) refl

pub ends_pushed : (from : ℕ) (ends bytes key : List ℕ) (to : ℕ) → AreKeyEnds from ends bytes → to ≡ from + length bytes + length key → AreKeyEnds from (ends ++ to ∷ []) (bytes ++ key)
ends_pushed from [] bytes key to are is =
    let none : length bytes ≡ 0 = ap length are in
    let alone : bytes ++ key ≡ key = ap (λ (l : List ℕ). l ++ key) are in
    subst (λ (l : List ℕ). (from ≤ to) × (to ≤ from + length l) × (drop (to - from) l ≡ [])) (sym alone)
    (omega arith, omega arith, drop_all (to - from) key (omega arith))
ends_pushed from (end ∷ ends) bytes key to are is =
    let within : end - from ≤ length bytes = omega (arith, are.0, are.1) in
    let rest = ends_pushed end ends (drop (end - from) bytes) key to are.2 (omega (arith, are.0, are.1, length-drop (end - from) bytes)) in
    (are.0, omega (arith, are.1, length-append bytes key), subst (AreKeyEnds end (ends ++ to ∷ [])) (sym (drop-append-le (end - from) bytes key within)) rest)

-- it begins where the key before it ends
pub start_is : (from : ℕ) (ends : List ℕ) (i : ℕ) → i < length ends → key_start from ends (suc i) ≡ get_or ends i 0
start_is from [] i less = absurd (omega arith)
start_is from (end ∷ ends) zero less = refl
start_is from (end ∷ ends) (suc i) less = start_is end ends i (omega arith)

-- where the key at a place lies
pub record IsCutAt (from : ℕ) (ends bytes : List ℕ) (i start : ℕ) : Type 0 where
  pub begins : from ≤ start
  pub ends_behind : start ≤ get_or ends i 0
  pub within : get_or ends i 0 ≤ from + length bytes
  pub key : get_or (cut_at from ends bytes) i [] ≡ take (get_or ends i 0 - start) (drop (start - from) bytes)

pub cut_found : (from : ℕ) (ends bytes : List ℕ) (i : ℕ) → AreKeyEnds from ends bytes → i < length ends → IsCutAt from ends bytes i (key_start from ends i)
cut_found from [] bytes i are less = absurd (omega arith)
cut_found from (end ∷ ends) bytes zero are less =
    let here : 0 ≡ from - from = omega arith in
    record {
      begins = omega arith;
      ends_behind = are.0;
      within = are.1;
      key = ap (λ (n : ℕ). take (end - from) (drop n bytes)) here;
    }
cut_found from (end ∷ ends) bytes (suc i) are less =
    let start = key_start end ends i in
    let rest = cut_found end ends (drop (end - from) bytes) i are.2 (omega arith) in
    let farther : end - from + (start - end) ≡ start - from = omega (arith, are.0, rest.begins) in
    record {
      begins = omega (arith, are.0, rest.begins);
      ends_behind = rest.ends_behind;
      within = omega (arith, are.0, are.1, rest.within, length-drop (end - from) bytes);
      key = rest.key ∙ ap (take (get_or ends i 0 - start)) (drop-drop (start - end) (end - from) bytes ∙ ap (λ (n : ℕ). drop n bytes) farther);
    }

-- the same, of all bytes
pub cut_is : (ends bytes : List ℕ) (i : ℕ) → AreKeyEnds 0 ends bytes → i < length ends → take (get_or ends i 0 - key_start 0 ends i) (drop (key_start 0 ends i) bytes) ≡ get_or (cut_at 0 ends bytes) i []
cut_is ends bytes i are less =
    let start = key_start 0 ends i in
    let found = cut_found 0 ends bytes i are less in
    let here : start ≡ start - 0 = omega arith in
    ap (λ (n : ℕ). take (get_or ends i 0 - start) (drop n bytes)) here ∙ sym found.key
