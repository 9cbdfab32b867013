-- One key: under what a dropped entry lies.
use Rattle.std.proofs.Common.{◌≡◌, ℕ, ◌<◌, ◌≤◌, Bool, true, false, List, [], ◌∷◌, ◌++◌, refl, sym, ap, subst, ◌∙◌, inl, inr, ⊎_elim, append_assoc, append-nil, arith}
use Rattle.std.specs.Prelude.{◌⊎◌, nat_lt, nat_le, nat_eq, ◌&&◌, not, if◌then◌else◌, Contains, Option, Some, None}
use Rattle.std.specs.List.{list_any, list_all, last_or}
use Rattle.std.specs.declared.cmp.Ordering.{Ordering}
use Rattle.std.proofs.lemmas.Bool.{leb-true, le-leb, lt-ltb, and_parts, and_cases, and_from, or_cases, not-true, not-false, leb-false, false≢true, both_ways}
use Rattle.std.proofs.lemmas.List.Elements.{Contains-push}
use Rattle.ikey.specs.Key.{user_of, sequence_of, kind_of}
use Rattle.reads.specs.EncodedEntry.{Entry}
use Rattle.reads.specs.meta.FileMeta.{FileMeta}
use Rattle.pick.specs.Ranges.{is_in_none}
use Rattle.keep.specs.Readable.{Readable, is_read}
use Rattle.keep.specs.DropRule.{is_same_user, is_deletion, is_snapshot_between, is_hidden, is_obsolete, keeps, kept_after, kept}
use Rattle.reads.specs.NewestFirst.{SequencesFall, AreOf}
use Rattle.keep.specs.OneKey.{Hides, IsUnderKept, IsUnderDeletion, OneKeyLaw}
use Rattle.keep.proofs.OneKey.{listed_has, all_hidden, falls_behind, answers}

-- what stands before an entry in a list that goes on after others
later_of : (xs ys : List Entry) (user : List ℕ) → AreOf user (xs ++ ys) → AreOf user ys
later_of [] ys user h = h
later_of (x ∷ xs) ys user h = later_of xs ys user h.1

module _ (cmp : List ℕ → List ℕ → Ordering) (r : Readable) (deeper : List FileMeta) where
  abbrev kb : Option Entry → List Entry → List Entry
  kb before es = kept_after cmp r deeper before es

  kept_more : (before : Option Entry) (xs ys : List Entry) → kb before (xs ++ ys) ≡ kb before xs ++ kb (last_or before xs) ys
  kept_more before [] ys = refl
  kept_more before (x ∷ xs) ys =
      let own : List Entry = if keeps cmp r deeper before x then x ∷ [] else [] in
      ap (λ (zs : List Entry). own ++ zs) (kept_more (Some x) xs ys) ∙ sym (append_assoc own (kb (Some x) xs) (kb (last_or (Some x) xs) ys))

  kept_one : (k : Bool) (before : Option Entry) (e : Entry) → keeps cmp r deeper before e ≡ k → kb before (e ∷ []) ≡ (if k then e ∷ [] else [])
  kept_one true before e h = ap (λ b. (if b then e ∷ [] else []) ++ []) h
  kept_one false before e h = ap (λ b. (if b then e ∷ [] else []) ++ []) h

  last_push : (before : Option Entry) (xs : List Entry) (e : Entry) → last_or before (xs ++ e ∷ []) ≡ Some e
  last_push before [] e = refl
  last_push before (x ∷ xs) e = last_push (Some x) xs e

  -- the entries end in a deletion that nothing needs, and what is under it
  record EndsIn (done : List Entry) : Type 0 where
    above : List Entry
    deletion : Entry
    under : List Entry
    split : done ≡ above ++ deletion ∷ under
    obsolete : is_obsolete cmp r deeper deletion ≡ true

  -- why no readable sequence needs what comes after the last of these entries unless it sees a kept one of them first
  abbrev Why : List Entry → Entry → Type 0
  Why done p = IsUnderKept cmp r deeper done p ⊎ EndsIn done

  abbrev Told : List Entry → Type 0
  Told done = (p : Entry) → last_or None done ≡ Some p → Why done p

  -- a readable sequence that sees a hidden entry sees the one before it
  sees_both : (p e : Entry) (at : ℕ) → is_hidden r (Some p) e ≡ true → is_read r at ≡ true → sequence_of e.key ≤ at → sequence_of p.key ≤ at
  sees_both p e at h read seen = by_test (nat_le (sequence_of p.key) at) refl
    where
      outer : ((is_same_user p e && nat_le (sequence_of p.key) r.floor) ≡ true) × (not (list_any (is_snapshot_between p e) r.listed) ≡ true)
      outer = and_parts (is_same_user p e && nat_le (sequence_of p.key) r.floor) (not (list_any (is_snapshot_between p e) r.listed)) h

      low : sequence_of p.key ≤ r.floor
      low = leb-true (sequence_of p.key) r.floor (and_parts (is_same_user p e) (nat_le (sequence_of p.key) r.floor) outer.0).1

      by_test : (b : Bool) → nat_le (sequence_of p.key) at ≡ b → sequence_of p.key ≤ at
      by_test true is = leb-true (sequence_of p.key) at is
      by_test false is =
          let unseen : at < sequence_of p.key = leb-false (sequence_of p.key) at is in
          elim (or_cases (list_any (nat_eq at) r.listed) (nat_le r.floor at) read) as (λ _. sequence_of p.key ≤ at) [
            | inl listed ↦ absurd (both_ways (list_any (is_snapshot_between p e) r.listed) (not-true (list_any (is_snapshot_between p e) r.listed) outer.1)
                (listed_has (is_snapshot_between p e) at r.listed listed (and_from (nat_le (sequence_of e.key) at) (nat_lt at (sequence_of p.key)) (le-leb (sequence_of e.key) at seen) (lt-ltb at (sequence_of p.key) unseen))))
            | inr high ↦ let up : r.floor ≤ at = leb-true r.floor at high in omega (arith, low, up)
          ]

  hides_through : (k p e : Entry) → is_hidden r (Some p) e ≡ true → Hides r k p → Hides r k e
  hides_through k p e h hides at read seen = hides at read (sees_both p e at h read seen)

  -- an entry that is hidden after others
  under_others : (done : List Entry) (before : Option Entry) (e : Entry) → last_or None done ≡ before → Told done → is_hidden r before e ≡ true → IsUnderKept cmp r deeper done e ⊎ EndsIn done
  under_others done None e last told h = absurd (false≢true h)
  under_others done (Some p) e last told h =
      ⊎_elim (λ kept_one. inl (kept_one.0, kept_one.1, hides_through kept_one.0 p e h kept_one.2)) (λ ends. inr ends) (told p last)

  ends_more : (done : List Entry) (e : Entry) → EndsIn done → EndsIn (done ++ e ∷ [])
  ends_more done e h = record {
    above = h.above;
    deletion = h.deletion;
    under = h.under ++ e ∷ [];
    split = ap (λ (xs : List Entry). xs ++ e ∷ []) h.split ∙ append_assoc h.above (h.deletion ∷ h.under) (e ∷ []);
    obsolete = h.obsolete;
  }

  dropped_by : (done : List Entry) (e : Entry) → Told done → keeps cmp r deeper (last_or None done) e ≡ false → IsUnderKept cmp r deeper done e ⊎ EndsIn (done ++ e ∷ [])
  dropped_by done e told h =
      elim (and_cases (not (is_hidden r (last_or None done) e)) (not (is_obsolete cmp r deeper e)) h) as (λ _. IsUnderKept cmp r deeper done e ⊎ EndsIn (done ++ e ∷ [])) [
        | inl hidden ↦ ⊎_elim (λ kept_one. inl kept_one) (λ ends. inr (ends_more done e ends))
            (under_others done (last_or None done) e refl told (not-false (is_hidden r (last_or None done) e) hidden))
        | inr needless ↦ inr (record { above = done; deletion = e; under = []; split = refl; obsolete = not-false (is_obsolete cmp r deeper e) needless })
      ]

  kept_push : (k : Bool) (done : List Entry) (e : Entry) → keeps cmp r deeper (last_or None done) e ≡ k → kept cmp r deeper (done ++ e ∷ []) ≡ kept cmp r deeper done ++ (if k then e ∷ [] else [])
  kept_push k done e h = kept_more None done (e ∷ []) ∙ ap (λ (xs : List Entry). kb None done ++ xs) (kept_one k (last_or None done) e h)

  one_more : (done : List Entry) (e : Entry) (k : Bool) → keeps cmp r deeper (last_or None done) e ≡ k → Told done → Why (done ++ e ∷ []) e
  one_more done e true h told = inl (e, subst (λ (xs : List Entry). Contains xs e) (sym (kept_push true done e h)) (Contains-push (kept cmp r deeper done) e), λ at read seen. seen)
  one_more done e false h told =
      ⊎_elim (λ kept_one. inl (kept_one.0, subst (λ (xs : List Entry). Contains xs kept_one.0) (sym (kept_push false done e h ∙ append-nil (kept cmp r deeper done))) kept_one.1, kept_one.2))
      (λ ends. inr ends) (dropped_by done e told h)

  inside : (p e : Entry) → Some e ≡ Some p → e ≡ p
  inside p e h = cc

  told_more : (done rest : List Entry) → Told done → Told (done ++ rest)
  told_more done [] told = subst Told (sym (append-nil done)) told
  told_more done (e ∷ rest) told =
      subst Told (append_assoc done (e ∷ []) rest)
      (told_more (done ++ e ∷ []) rest
      (λ p last. subst (Why (done ++ e ∷ [])) (inside p e (sym (last_push None done e) ∙ last)) (one_more done e (keeps cmp r deeper (last_or None done) e) refl told)))

  told_all : (done : List Entry) → Told done
  told_all done = told_more [] done (λ p last. absurd cc)

  and_false : (a b : Bool) → b ≡ false → (a && b) ≡ false
  and_false true b h = h
  and_false false b h = refl

  -- after a deletion that nothing needs, nothing is kept
  nothing_left : (user : List ℕ) (above : List Entry) (d : Entry) (under : List Entry) → AreOf user (above ++ d ∷ under) → SequencesFall (above ++ d ∷ under) → is_obsolete cmp r deeper d ≡ true
      → kept cmp r deeper (above ++ d ∷ under) ≡ kept cmp r deeper above
  nothing_left user above d under of falls o =
      let a = is_deletion (kind_of d.key) in
      let b = nat_le (sequence_of d.key) r.floor in
      let c = list_all (nat_le (sequence_of d.key)) r.listed in
      let abc = and_parts ((a && b) && c) (is_in_none cmp deeper (user_of d.key)) o in
      let ab = and_parts (a && b) c abc.0 in
      let both = and_parts a b ab.0 in
      let own = later_of above (d ∷ under) user of in
      let dropped : keeps cmp r deeper (last_or None above) d ≡ false = and_false (not (is_hidden r (last_or None above) d)) (not (is_obsolete cmp r deeper d)) (ap not o) in
      let none : kb (Some d) under ≡ [] = all_hidden cmp r deeper user d under own.0 own.1 (falls_behind above (d ∷ under) falls) both.1 ab.1 in
      kept_more None above (d ∷ under)
      ∙ ap (λ k. kb None above ++ ((if k then d ∷ [] else []) ++ kb (Some d) under)) dropped
      ∙ ap (λ (xs : List Entry). kb None above ++ xs) none
      ∙ append-nil (kb None above)

  under_deletion : (user : List ℕ) (front : List Entry) (e : Entry) (back : List Entry) → AreOf user (front ++ e ∷ back) → SequencesFall (front ++ e ∷ back) → EndsIn (front ++ e ∷ []) → IsUnderDeletion cmp r deeper (front ++ e ∷ []) (front ++ e ∷ back)
  under_deletion user front e back of falls h =
      let whole : front ++ e ∷ back ≡ h.above ++ h.deletion ∷ (h.under ++ back) =
      sym (append_assoc front (e ∷ []) back) ∙ ap (λ (xs : List Entry). xs ++ back) h.split ∙ append_assoc h.above (h.deletion ∷ h.under) back in
      record {
        above = h.above;
        deletion = h.deletion;
        under = h.under;
        split = h.split;
        obsolete = h.obsolete;
        nothing =
            ap (kept cmp r deeper) whole
            ∙ nothing_left user h.above h.deletion (h.under ++ back) (subst (AreOf user) whole of) (subst SequencesFall whole falls) h.obsolete;
      }

  dropped : (user : List ℕ) (front : List Entry) (e : Entry) (back : List Entry) → AreOf user (front ++ e ∷ back) → SequencesFall (front ++ e ∷ back) → keeps cmp r deeper (last_or None front) e ≡ false
      → IsUnderKept cmp r deeper front e ⊎ IsUnderDeletion cmp r deeper (front ++ e ∷ []) (front ++ e ∷ back)
  dropped user front e back of falls h =
      ⊎_elim (λ kept_one. inl kept_one) (λ ends. inr (under_deletion user front e back of falls ends)) (dropped_by front e (told_all front) h)

pub one_key_law : (cmp : List ℕ → List ℕ → Ordering) → OneKeyLaw cmp
one_key_law cmp = record { dropped = dropped cmp; answers = answers cmp }
