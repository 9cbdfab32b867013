-- Entries that fall in each range of user keys fall.
use Rattle.std.proofs.Common.{◌≡◌, ◌≢◌, ℕ, ◌+◌, ◌<◌, ◌≤◌, Bool, true, false, cond, List, [], ◌∷◌, length, get_or, None, Some, Result, Ok, Err, IfOk, refl, sym, ap, subst, ◌∙◌, arith}
use Rattle.std.specs.Prelude.{◌↔◌, zero, suc, Contains, filter}
use Rattle.std.specs.List.{list_all}
use Rattle.std.specs.declared.cmp.Ordering.{Ordering}
use Rattle.std.proofs.lemmas.List.Elements.{All-contains, Contains-get_or}
use Rattle.std.proofs.lemmas.Bool.{both_ways}
use Rattle.ikey.specs.Answers.{fault}
use Rattle.ikey.specs.fault.Fault.{Fault}
use Rattle.ikey.specs.fault.FaultName.TheVariants.{Memory}
use Rattle.ikey.proofs.Refusals.{only_memory}
use Rattle.board.specs.RunAnswer.{IsRefused, fault_of_run}
use Rattle.board.specs.declared.pool.RunFault.{RunFault}
use Rattle.ikey.specs.Key.{IsInternalKey, user_of}
use Rattle.table.specs.EncodedEntry.{Entry}
use Rattle.reads.specs.MergedLists.{entries_of_lists}
use Rattle.split.specs.Ranges.{KeyRange, range_at, IsIn, IsCover}
use Rattle.merge.specs.InRange.{is_in_range, entries_in, HoldsLaw}
use Rattle.reads.specs.TableOrder.{IsNewer, IsNewerIn, AreFalling, AreFallingIn}
use Rattle.reads.proofs.Members.{in_filter, from_filter}
use Rattle.reads.proofs.Pairs.{Pairs, pairs_from, pairs_to}
use Rattle.reads.proofs.Ranged.{all_fall, fall_in}
use Rattle.checks.specs.CommonRange.{IsInBoth, TellsRange}

-- ---- entries of a kind of user keys, and those entries alone

module _ (p : List ℕ → Bool) (P : List ℕ → Type 0) (tells : (user : List ℕ) → (p user ≡ true) ↔ P user) where
  abbrev own : Entry → Bool
  own e = p (user_of e.key)

  abbrev kept : List Entry → List Entry
  kept es = filter own es

  newer_kept : (es : List Entry) → Pairs (IsNewerIn P) es → Pairs IsNewer (kept es)
  newer_kept [] h = tt
  newer_kept (e ∷ es) h = by (own e) refl (newer_kept es h.1)
    where
      by : (b : Bool) → own e ≡ b → Pairs IsNewer (kept es) → Pairs IsNewer (cond b (e ∷ kept es) (kept es))
      by true is rest = (λ c at. h.0 c (from_filter own es c at).0 ((tells (user_of e.key)).0 is), rest)
      by false is rest = rest

  newer_back : (es : List Entry) → Pairs IsNewer (kept es) → Pairs (IsNewerIn P) es
  newer_back [] h = tt
  newer_back (e ∷ es) h = by (own e) refl h (newer_back es)
    where
      by : (b : Bool) → own e ≡ b → Pairs IsNewer (cond b (e ∷ kept es) (kept es)) → (Pairs IsNewer (kept es) → Pairs (IsNewerIn P) es) → Pairs (IsNewerIn P) (e ∷ es)
      by true is k rest = (λ c at of_kind same. k.0 c (in_filter own es c (ap p (sym same) ∙ is) at) same, rest k.1)
      by false is k rest = (λ c at of_kind. absurd (both_ways (own e) is ((tells (user_of e.key)).1 of_kind)), rest k)

  -- lists that have the same entries of the kind fall together
  pub same_fall : (xs ys : List Entry) → kept xs ≡ kept ys → AreFallingIn P xs → AreFallingIn P ys
  same_fall xs ys same h = record {
    keys = λ k d lt of_kind.
        let e : Entry = get_or ys k d in
        let there : Contains (kept ys) e = in_filter own ys e ((tells (user_of e.key)).1 of_kind) (Contains-get_or ys k d lt) in
        let from = from_filter own xs e (subst (λ (es : List Entry). Contains es e) (sym same) there) in
        All-contains (λ (x : Entry). P (user_of x.key) → IsInternalKey x.key) xs e h.keys from.0 of_kind;
    newer = pairs_to (IsNewerIn P) ys (newer_back ys (subst (Pairs IsNewer) same (newer_kept xs (pairs_from (IsNewerIn P) xs h.newer))));
  }

-- the same of a range, by the test of user keys
pub same_in_range : (cmp : List ℕ → List ℕ → Ordering) → HoldsLaw cmp → (range : KeyRange) (xs ys : List Entry) → entries_in cmp range xs ≡ entries_in cmp range ys → AreFallingIn (IsIn cmp range) xs → AreFallingIn (IsIn cmp range) ys
same_in_range cmp holds range xs ys same h = same_fall (is_in_range cmp range) (IsIn cmp range) (holds range) xs ys same h

-- ---- all ranges

-- what falls in a kind of user keys falls in each kind that it holds
pub other_kind : (P Q : List ℕ → Type 0) → ((user : List ℕ) → Q user → P user) → (es : List Entry) → AreFallingIn P es → AreFallingIn Q es
other_kind P Q to es h = record {
  keys = λ k d lt at. h.keys k d lt (to (user_of (get_or es k d).key) at);
  newer = λ i j d lt below at. h.newer i j d lt below (to (user_of (get_or es i d).key) at);
}

-- entries that fall in what a range has of each range of a cover fall in that range
fall_in_all : (cmp : List ℕ → List ℕ → Ordering) (within : KeyRange) (boundaries : List (List ℕ)) → IsCover cmp boundaries → (es : List Entry)
    → ((i : ℕ) → i ≤ length boundaries → AreFallingIn (IsInBoth cmp within (range_at boundaries i)) es) → AreFallingIn (IsIn cmp within) es
fall_in_all cmp within boundaries cover es h = record {
  keys = λ k d lt at. let one = cover.each_once (user_of (get_or es k d).key) in (h one.number one.below).keys k d lt (at, one.within);
  newer = λ i j d lt below at. let one = cover.each_once (user_of (get_or es i d).key) in (h one.number one.below).newer i j d lt below (at, one.within);
}

-- entries that fall in each range of a cover fall
pub fall_in_each : (cmp : List ℕ → List ℕ → Ordering) (boundaries : List (List ℕ)) → IsCover cmp boundaries → (es : List Entry)
    → ((i : ℕ) → i ≤ length boundaries → AreFallingIn (IsIn cmp (range_at boundaries i)) es) → AreFalling es
fall_in_each cmp boundaries cover es h = record {
  keys = λ k d lt. let one = cover.each_once (user_of (get_or es k d).key) in (h one.number one.below).keys k d lt one.within;
  newer = λ i j d lt below. let one = cover.each_once (user_of (get_or es i d).key) in (h one.number one.below).newer i j d lt below one.within;
}

each_true : (outs : List Bool) → list_all (λ b. b) outs ≡ true → (i : ℕ) (d : Bool) → i < length outs → get_or outs i d ≡ true
each_true [] all i d lt = absurd (omega arith)
each_true (true ∷ outs) all zero d lt = refl
each_true (true ∷ outs) all (suc i) d lt = each_true outs all i d (omega arith)
each_true (false ∷ outs) all i d lt = absurd cc

some_false : (outs : List Bool) → list_all (λ b. b) outs ≡ false → (i : ℕ) × (i < length outs) × (get_or outs i true ≡ false)
some_false [] all = absurd cc
some_false (true ∷ outs) all = let found = some_false outs all in (suc found.0, omega (arith, found.1), found.2)
some_false (false ∷ outs) all = (zero, omega arith, refl)

-- what the walks of all ranges tell
module _ (cmp : List ℕ → List ℕ → Ordering) (within : KeyRange) (boundaries : List (List ℕ)) (cover : IsCover cmp boundaries) (lists : List (List Entry)) (outs : List Bool) (len : length outs ≡ length boundaries + 1)
    (each : (i : ℕ) (d : Bool) → i < length boundaries + 1 → TellsRange cmp within boundaries lists i (get_or outs i d)) where
  pub all_told : (b : Bool) → list_all (λ b. b) outs ≡ b → (b ≡ true) ↔ AreFallingIn (IsIn cmp within) (entries_of_lists lists)
  all_told true all = (λ e. fall_in_all cmp within boundaries cover (entries_of_lists lists) (λ i le. (each i true (omega arith)).0 (each_true outs all i true (omega (arith, len)))), λ h. refl)
  all_told false all = (
    λ e. absurd cc,
    λ h.
        let found = some_false outs all in
        let told : get_or outs found.0 true ≡ true = (each found.0 true (omega (arith, len, found.1))).1 (other_kind (IsIn cmp within) (IsInBoth cmp within (range_at boundaries found.0)) (λ user both. both.0) (entries_of_lists lists) h) in
        absurd (both_ways (get_or outs found.0 true) found.2 told),
  )

-- a labour that states no refusal fails only if out of memory
pub only_memory_left : {O V : Type 0} (gives : ℕ → O → Type 0) (jobs : ℕ) (result : Result V RunFault) (e : RunFault) → result ≡ Err e
    → ((job : ℕ) (f : Fault) → result ≡ Err (RunFault.Job job f) → IsRefused (λ j. None) gives jobs job f)
    → result ≢ Err RunFault.Workers → fault_of_run e ≡ fault Memory
only_memory_left gives jobs result (RunFault.Job job f) is refused few = only_memory f (None ≡ Some f) (λ no. absurd cc) (refused job f is).refused
only_memory_left gives jobs result RunFault.Workers is refused few = absurd (few is)
only_memory_left gives jobs result RunFault.Memory is refused few = refl

-- what falls in the range of all user keys falls
pub fall_everywhere : (cmp : List ℕ → List ℕ → Ordering) (range : KeyRange) → range.lower ≡ None → range.upper ≡ None → (es : List Entry) (r : Result Bool Fault) → IfOk r (λ (b : Bool). (b ≡ true) ↔ AreFallingIn (IsIn cmp range) es) → IfOk r (λ (b : Bool). (b ≡ true) ↔ AreFalling es)
fall_everywhere cmp range lower upper es (Ok b) h = (λ e. all_fall cmp range lower upper es (h.0 e), λ falls. h.1 (fall_in (IsIn cmp range) es falls))
fall_everywhere cmp range lower upper es (Err e) h = tt
