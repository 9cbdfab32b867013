-- The obsolete ones of names, one name after the other.
use Rattle.std.proofs.Common.{◌≡◌, ◌+◌, ◌<◌, ℕ, suc, Bor, List, [], ◌∷◌, ◌++◌, drop, get_or, length, map, take, refl, sym, ap, subst, ◌∙◌, inl, inr, arith, drop-cons}
use Rattle.std.proofs.Math.Seq.{take-length}
use Rattle.std.proofs.lemmas.List.{map-append, take-append-drop, take_more}
use Rattle.std.specs.declared.cmp.Ordering.{Ordering}
use Rattle.edit.specs.Version.{State}
use Rattle.folder.specs.Calls.{Removed}
use Rattle.install.specs.ObsoleteFile.{AreObsolete, IsObsoleteFile}

abbrev pub no_name : Bor (List ℕ)
no_name = record { ref_ptr = (0, 0); now = [] }

-- names that were lent
abbrev pub texts : List (Bor (List ℕ)) → List (List ℕ)
texts names = map (λ (n : Bor (List ℕ)). n.now) names

module _ (cmp : List ℕ → List ℕ → Ordering) (v : State) (manifest : ℕ) where
  -- one more that is obsolete
  pub obsolete_more : (names obsolete : List (List ℕ)) (name : List ℕ) → AreObsolete cmp v manifest names obsolete → IsObsoleteFile cmp v manifest name → AreObsolete cmp v manifest (names ++ name ∷ []) (obsolete ++ name ∷ [])
  obsolete_more [] obsolete name h is = inl (is, ([], ap (λ (t : List (List ℕ)). t ++ name ∷ []) h, refl))
  obsolete_more (x ∷ names) obsolete name (inl h) is = inl (h.0, (h.1.0 ++ name ∷ [], ap (λ (t : List (List ℕ)). t ++ name ∷ []) h.1.1, obsolete_more names h.1.0 name h.1.2 is))
  obsolete_more (x ∷ names) obsolete name (inr h) is = inr (h.0, obsolete_more names obsolete name h.1 is)

  -- one more that is not
  pub needed_more : (names obsolete : List (List ℕ)) (name : List ℕ) → AreObsolete cmp v manifest names obsolete → (IsObsoleteFile cmp v manifest name → ⊥) → AreObsolete cmp v manifest (names ++ name ∷ []) obsolete
  needed_more [] obsolete name h other = inr (other, h)
  needed_more (x ∷ names) obsolete name (inl h) other = inl (h.0, (h.1.0, h.1.1, needed_more names h.1.0 name h.1.2 other))
  needed_more (x ∷ names) obsolete name (inr h) other = inr (h.0, needed_more names obsolete name h.1 other)

-- names up to the next place
pub names_on : {A : Type 0} (f : A → List ℕ) (names : List A) (i : ℕ) (d : A) → i < length names → map f (take (i + 1) names) ≡ map f (take i names) ++ f (get_or names i d) ∷ []
names_on f names i d h = ap (map f) (take_more names i d h) ∙ map-append f (take i names) (get_or names i d ∷ [])

-- a name that was tested, beside the others
pub step_obsolete : {A : Type 0} (cmp : List ℕ → List ℕ → Ordering) (v : State) (manifest : ℕ) (f : A → List ℕ) (names : List A) (i : ℕ) (x : A) (obsolete next : List (Bor (List ℕ))) (text pushed : Bor (List ℕ)) → i < length names → x ≡ get_or names i x
    → text.now ≡ f x → pushed.now ≡ f x → next ≡ obsolete ++ pushed ∷ [] → IsObsoleteFile cmp v manifest text.now → AreObsolete cmp v manifest (map f (take i names)) (texts obsolete) → AreObsolete cmp v manifest (map f (take (i + 1) names)) (texts next)
step_obsolete cmp v manifest f names i x obsolete next text pushed l at one two is o h =
    let more : map f (take (i + 1) names) ≡ map f (take i names) ++ f x ∷ [] = names_on f names i x l ∙ ap (λ y. map f (take i names) ++ f y ∷ []) (sym at) in
    let found : texts next ≡ texts obsolete ++ f x ∷ [] = ap texts is ∙ (map-append (λ (n : Bor (List ℕ)). n.now) obsolete (pushed ∷ []) ∙ ap (λ (t : List ℕ). texts obsolete ++ t ∷ []) two) in
    subst (λ (t : List (List ℕ)). AreObsolete cmp v manifest (map f (take (i + 1) names)) t) (sym found)
    (subst (λ (t : List (List ℕ)). AreObsolete cmp v manifest t (texts obsolete ++ f x ∷ [])) (sym more)
    (obsolete_more cmp v manifest (map f (take i names)) (texts obsolete) (f x) h (subst (IsObsoleteFile cmp v manifest) one o)))

pub step_needed : {A : Type 0} (cmp : List ℕ → List ℕ → Ordering) (v : State) (manifest : ℕ) (f : A → List ℕ) (names : List A) (i : ℕ) (x : A) (obsolete next : List (Bor (List ℕ))) (text : Bor (List ℕ)) → i < length names → x ≡ get_or names i x
    → text.now ≡ f x → next ≡ obsolete → (IsObsoleteFile cmp v manifest text.now → ⊥) → AreObsolete cmp v manifest (map f (take i names)) (texts obsolete) → AreObsolete cmp v manifest (map f (take (i + 1) names)) (texts next)
step_needed cmp v manifest f names i x obsolete next text l at one is other h =
    let more : map f (take (i + 1) names) ≡ map f (take i names) ++ f x ∷ [] = names_on f names i x l ∙ ap (λ y. map f (take i names) ++ f y ∷ []) (sym at) in
    subst (λ (t : List (Bor (List ℕ))). AreObsolete cmp v manifest (map f (take (i + 1) names)) (texts t)) (sym is)
    (subst (λ (t : List (List ℕ)). AreObsolete cmp v manifest t (texts obsolete)) (sym more)
    (needed_more cmp v manifest (map f (take i names)) (texts obsolete) (f x) h (λ o. other (subst (IsObsoleteFile cmp v manifest) (sym one) o))))

-- names before a place, the one at it and those after
pub names_around : {A : Type 0} (f : A → List ℕ) (names : List A) (i : ℕ) (d : A) → i < length names → map f (take i names) ++ f (get_or names i d) ∷ map f (drop (suc i) names) ≡ map f names
names_around f names i d h =
    sym (map-append f (take i names) (get_or names i d ∷ drop (suc i) names)) ∙ ap (map f) (ap (λ t. take i names ++ t) (sym (drop-cons names i d h)) ∙ take-append-drop i names)

-- the calls that remove them
pub calls_on : (names : List (Bor (List ℕ))) (i : ℕ) → i < length names → map Removed (texts (take i names)) ++ Removed (get_or names i no_name).now ∷ [] ≡ map Removed (texts (take (i + 1) names))
calls_on names i h = sym (ap (map Removed) (names_on (λ (n : Bor (List ℕ)). n.now) names i no_name h) ∙ map-append Removed (texts (take i names)) ((get_or names i no_name).now ∷ []))

pub calls_around : (names : List (Bor (List ℕ))) (i : ℕ) → i < length names
    → map Removed (texts (take i names)) ++ (Removed (get_or names i no_name).now ∷ map Removed (texts (drop (suc i) names))) ≡ map Removed (texts names)
calls_around names i h =
    sym (map-append Removed (texts (take i names)) ((get_or names i no_name).now ∷ texts (drop (suc i) names))) ∙ ap (map Removed) (names_around (λ (n : Bor (List ℕ)). n.now) names i no_name h)

pub all_taken : (names : List (Bor (List ℕ))) (i : ℕ) → i ≡ length names → map Removed (texts (take i names)) ≡ map Removed (texts names)
all_taken names i h = ap (λ (t : List (Bor (List ℕ))). map Removed (texts t)) (ap (λ (k : ℕ). take k names) h ∙ take-length names)

pub no_texts : (names : List (Bor (List ℕ))) → length names ≡ 0 → texts names ≡ []
no_texts [] h = refl
no_texts (n ∷ names) h = absurd (omega (arith, h))

pub some_texts : (names : List (Bor (List ℕ))) → (length names ≡ 0 → ⊥) → texts names ≡ [] → ⊥
some_texts [] h e = h refl
some_texts (n ∷ names) h e = cc e
