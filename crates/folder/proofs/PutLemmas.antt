-- A folder with one name changed, or one moved.
use Rattle.std.proofs.Common.{◌≡◌, ◌≢◌, ◌⊎◌, ℕ, Bool, true, false, List, refl, ◌∙◌, inl, inr, if◌then◌else◌}
use Rattle.std.proofs.lemmas.Slice.Eq.{bytes_eq-Decides}
use Rattle.std.specs.Str.{bytes_eq}
use Rattle.folder.specs.Calls.{with_moved, with_value}

cond_yes : {A : Type 0} (b : Bool) (x y : A) → b ≡ true → (if b then x else y) ≡ x
cond_yes b x y h = rw h refl

cond_no : {A : Type 0} (b : Bool) (P : Type 0) (x y : A) → (b ≡ true → P) → (P → ⊥) → (if b then x else y) ≡ y
cond_no true P x y holds fails = absurd (fails (holds refl))
cond_no false P x y holds fails = refl

by_test : (b : Bool) (P : Type 0) → (b ≡ true → P) → (P → b ≡ true) → P ⊎ (P → ⊥)
by_test true P holds back = inl (holds refl)
by_test false P holds back = inr (λ p. cc (back p))

-- two names are one or not
pub same_name : (a b : List ℕ) → (a ≡ b) ⊎ (a ≢ b)
same_name a b = by_test (bytes_eq a b) (a ≡ b) (bytes_eq-Decides a b).0 (bytes_eq-Decides a b).1

pub put_same : {A : Type 0} (of : List ℕ → A) (name : List ℕ) (x : A) → with_value of name x name ≡ x
put_same of name x = cond_yes (bytes_eq name name) x (of name) ((bytes_eq-Decides name name).1 refl)

pub put_other : {A : Type 0} (of : List ℕ → A) (name : List ℕ) (x : A) (other : List ℕ) → other ≢ name → with_value of name x other ≡ of other
put_other of name x other fails = cond_no (bytes_eq other name) (other ≡ name) x (of other) (bytes_eq-Decides other name).0 fails

pub moved_to : {A : Type 0} (nothing : A) (of : List ℕ → A) (from to : List ℕ) → with_moved nothing of from to to ≡ of from
moved_to nothing of from to = put_same (with_value of from nothing) to (of from)

pub moved_other : {A : Type 0} (nothing : A) (of : List ℕ → A) (from to name : List ℕ) → name ≢ from → name ≢ to → with_moved nothing of from to name ≡ of name
moved_other nothing of from to name a b = put_other (with_value of from nothing) to (of from) name b ∙ put_other of from nothing name a
