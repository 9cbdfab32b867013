-- Reading texts as numbers, one after the other.
use Rattle.std.proofs.Common.{◌≡◌, ℕ, suc, ◌+◌, ◌<◌, List, [], ◌∷◌, ◌++◌, length, map, take, get_or, Result, Ok, IfOk, refl, sym, ap, subst, ◌∙◌, arith}
use Rattle.std.specs.Borrow.{Bor}
use Rattle.std.specs.Global.{Vec}
use Rattle.std.specs.Str.Parse.{digits_value}
use Rattle.std.proofs.Math.Seq.{take-length, take-suc}
use Rattle.std.proofs.lemmas.List.{map-append}
use Rattle.std.proofs.lemmas.List.Elements.{All-append, All-cons, All-nil}
use Rattle.clap.specs.Words.{Text}
use Rattle.usage.specs.CompactLine.{AreNumbers}
use Rattle.texts.specs.Text.{IsNumberText}

abbrev pub texts_of : List (Bor Text) → List Text
texts_of numerals = map (λ n. n.now) numerals

module _ (numerals : List (Bor Text)) (i : ℕ) (d : Bor Text) (lt : i < length numerals) where
  abbrev text : Text
  text = (get_or numerals i d).now

  next : texts_of (take (i + 1) numerals) ≡ texts_of (take i numerals) ++ text ∷ []
  next =
      let more : i + 1 ≡ suc i = omega arith in
      ap (λ (k : ℕ). texts_of (take k numerals)) more ∙ ap texts_of (take-suc numerals i d lt) ∙ map-append (λ (m : Bor Text). m.now) (take i numerals) (get_or numerals i d ∷ [])

  -- a number more
  pub read_more : (numbers after : List ℕ) (number : ℕ) → AreNumbers (texts_of (take i numerals)) numbers → IsNumberText text → number ≡ digits_value 10 text → after ≡ numbers ++ number ∷ []
      → AreNumbers (texts_of (take (i + 1) numerals)) after
  read_more numbers after number so_far numeral read made =
      subst (λ (texts : List Text). AreNumbers texts after) (sym next) (
        All-append IsNumberText (texts_of (take i numerals)) (text ∷ []) so_far.0 (All-cons IsNumberText text [] numeral (All-nil IsNumberText)),
        made ∙ ap (λ (m : ℕ). numbers ++ m ∷ []) read ∙ ap (λ (ms : List ℕ). ms ++ digits_value 10 text ∷ []) so_far.1
            ∙ sym (map-append (digits_value 10) (texts_of (take i numerals)) (text ∷ [])),
      )

-- the texts that were collected
pub collected_texts : {E : Type 0} (r : Result (Vec (Bor Text)) E) (numerals : Vec (Bor Text)) (texts : List Text) → r ≡ Ok numerals → IfOk r (λ v. texts_of v.items ≡ texts)
    → texts_of numerals.items ≡ texts
collected_texts {E} r numerals texts is h = subst (λ (x : Result (Vec (Bor Text)) E). IfOk x (λ v. texts_of v.items ≡ texts)) is h
