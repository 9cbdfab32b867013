-- The keys of a file's entries are from its smallest to its largest key.
use Rattle.std.proofs.Common.{◌≡◌, ℕ, ◌-◌, ◌<◌, true, List, [], ◌∷◌, length, Some, refl, sym, ap, subst, ◌∙◌, inl, inr, eq-or-lt_of_le}
use Rattle.std.specs.Prelude.{Contains, slice_get}
use Rattle.std.specs.Option.{option_map}
use Rattle.std.specs.Cmp.{IsTotalOrder}
use Rattle.std.specs.Ordering.{is_le, ordering_then, ordering_reverse, nat_cmp}
use Rattle.std.specs.declared.cmp.Ordering.{Ordering}
use Rattle.std.specs.declared.cmp.Ordering.TheVariants.{Less, Equal, Greater}
use Rattle.std.proofs.lemmas.List.Elements.{All-contains}
use Rattle.ikey.specs.Key.{user_of, sequence_of, kind_of, kind_number}
use Rattle.ikey.specs.Order.{internal_cmp}
use Rattle.ikey.proofs.Ordered.{internal_cmp-total}
use Rattle.table.specs.EncodedEntry.{Entry}
use Rattle.table.specs.EntriesFrom.{EntriesRise}
use Rattle.edit.specs.Version.{State}
use Rattle.edit.specs.declared.meta.FileMeta.{FileMeta}
use Rattle.edit.specs.declared.meta.NewFile.{NewFile}
use Rattle.pick.specs.Ranges.{is_at_most, holds_user}
use Rattle.reads.specs.Tables.{NumberedContents, table_entries, all_entries}
use Rattle.reads.specs.Lawful.{IsFileOf, IsLawful, AreNewer}
use Rattle.pick.proofs.Lists.{and_both}
use Rattle.pick.proofs.UserOrders.{le_refl}
use Rattle.reads.proofs.Members.{first_in, in_flat_map}
use Rattle.reads.proofs.Orders.{later_older, not_before_itself}
use Rattle.reads.proofs.Answers.{entries_are, first_or_above, last_or_below}
use Rattle.reads.proofs.Newer.{newer_of}
use Rattle.reads.proofs.Got.{same_entry}

then_le : (o p : Ordering) → is_le (ordering_then o p) ≡ true → is_le o ≡ true
then_le Less p e = refl
then_le Equal p e = refl
then_le Greater p e = absurd cc

module _ (R : List ℕ → List ℕ → Ordering) (total : IsTotalOrder R) where
  -- a key at most another that is below a third is below it
  upto_by : (o : Ordering) (a b c : List ℕ) → R a b ≡ o → is_le o ≡ true → R b c ≡ Less → R a c ≡ Less
  upto_by Less a b c e h lt = total.trans a b c e lt
  upto_by Equal a b c e h lt = total.congr a b c e ∙ lt
  upto_by Greater a b c e h lt = absurd cc

  pub upto_below : (a b c : List ℕ) → is_at_most R a b ≡ true → R b c ≡ Less → R a c ≡ Less
  upto_below a b c h lt = upto_by (R a b) a b c refl h lt

  below_by : (o : Ordering) (a b c : List ℕ) → R b c ≡ o → is_le o ≡ true → R a b ≡ Less → R a c ≡ Less
  below_by Less a b c e h lt = total.trans a b c lt e
  below_by Equal a b c e h lt = total.antisymm a c ∙ ap ordering_reverse (sym (total.congr b c a e)) ∙ sym (total.antisymm a b) ∙ lt
  below_by Greater a b c e h lt = absurd cc

  pub below_upto : (a b c : List ℕ) → R a b ≡ Less → is_at_most R b c ≡ true → R a c ≡ Less
  below_upto a b c lt h = below_by (R b c) a b c refl h lt

  -- what is below another isn't at least it
  pub below_not_upto : (a b : List ℕ) → R a b ≡ Less → is_at_most R b a ≡ true → ⊥
  below_not_upto a b lt h = not_before_itself R total a (below_upto a b a lt h)

  -- keys at most each other are tied
  tied_by : (o : Ordering) (a b : List ℕ) → R a b ≡ o → is_le o ≡ true → is_at_most R b a ≡ true → R a b ≡ Equal
  tied_by Less a b e h k = absurd (below_not_upto a b e k)
  tied_by Equal a b e h k = e
  tied_by Greater a b e h k = absurd cc

  pub tied_both : (a b : List ℕ) → is_at_most R a b ≡ true → is_at_most R b a ≡ true → R a b ≡ Equal
  tied_both a b h k = tied_by (R a b) a b refl h k

  pub tied_back : (a b : List ℕ) → R a b ≡ Equal → is_at_most R b a ≡ true
  tied_back a b e = ap is_le (total.antisymm b a ∙ ap ordering_reverse e)

  pub same_upto : (a b : List ℕ) → a ≡ b → is_at_most R a b ≡ true
  same_upto a b e = subst (λ (k : List ℕ). is_at_most R a k ≡ true) e (le_refl R total a)

-- a key is another one or before it
abbrev pub IsUpTo : (List ℕ → List ℕ → Ordering) → List ℕ → List ℕ → Type 0
IsUpTo cmp a b = is_at_most (internal_cmp cmp) a b ≡ true

module _ (cmp : List ℕ → List ℕ → Ordering) (total : IsTotalOrder cmp) where
  abbrev pub keys_total : IsTotalOrder (internal_cmp cmp)
  keys_total = internal_cmp-total total

  -- the user keys of internal keys that rise don't fall
  pub user_upto : (a b : List ℕ) → IsUpTo cmp a b → is_at_most cmp (user_of a) (user_of b) ≡ true
  unfolding internal_cmp
  user_upto a b h = then_le (cmp (user_of a) (user_of b)) (ordering_then (nat_cmp (sequence_of b) (sequence_of a)) (nat_cmp (kind_number (kind_of b)) (kind_number (kind_of a)))) h

  pub less_upto : (a b : List ℕ) → internal_cmp cmp a b ≡ Less → IsUpTo cmp a b
  less_upto a b e = ap is_le e

  module _ (tables : List NumberedContents) (f : FileMeta) (is : IsFileOf cmp tables f) where
    held : (e : Entry) → Contains (table_entries tables f.number) e → Contains is.table.entries e
    held e at = subst (λ (es : List Entry). Contains es e) (entries_are tables f.number is.table is.there) at

    pub from_smallest : (e : Entry) → Contains (table_entries tables f.number) e → IsUpTo cmp f.smallest e.key
    from_smallest e at =
        elim (first_or_above cmp total is.table.entries f.smallest e is.rising is.smallest (held e at)) [
          | inl same ↦ same_upto (internal_cmp cmp) keys_total f.smallest e.key (sym same)
          | inr later ↦ less_upto f.smallest e.key later
        ]

    pub to_largest : (e : Entry) → Contains (table_entries tables f.number) e → IsUpTo cmp e.key f.largest
    to_largest e at =
        elim (last_or_below cmp total is.table.entries f.largest e is.rising is.largest (held e at)) [
          | inl same ↦ same_upto (internal_cmp cmp) keys_total e.key f.largest same
          | inr earlier ↦ less_upto e.key f.largest earlier
        ]

    pub range_rises : IsUpTo cmp f.smallest f.largest
    range_rises = of_first is.table.entries is.rising is.smallest is.largest
      where
        of_first : (es : List Entry) → EntriesRise cmp es → option_map (λ e. e.key) (slice_get es 0) ≡ Some f.smallest → option_map (λ e. e.key) (slice_get es (length es - 1)) ≡ Some f.largest → IsUpTo cmp f.smallest f.largest
        of_first [] rising first last = absurd cc
        of_first (e ∷ es) rising first last =
            let same : e.key ≡ f.smallest = cc in
            elim (last_or_below cmp total (e ∷ es) f.largest e rising last (first_in e es)) [
              | inl is ↦ same_upto (internal_cmp cmp) keys_total f.smallest f.largest (sym same ∙ is)
              | inr earlier ↦ less_upto f.smallest f.largest (subst (λ (k : List ℕ). internal_cmp cmp k f.largest ≡ Less) same earlier)
            ]

    -- a file's range holds the user keys of its entries
    pub user_from : (e : Entry) → Contains (table_entries tables f.number) e → is_at_most cmp (user_of f.smallest) (user_of e.key) ≡ true
    user_from e at = user_upto f.smallest e.key (from_smallest e at)

    pub user_to : (e : Entry) → Contains (table_entries tables f.number) e → is_at_most cmp (user_of e.key) (user_of f.largest) ≡ true
    user_to e at = user_upto e.key f.largest (to_largest e at)

    pub holds_own : (e : Entry) → Contains (table_entries tables f.number) e → holds_user cmp (user_of e.key) f ≡ true
    holds_own e at = and_both (is_at_most cmp (user_of f.smallest) (user_of e.key)) (is_at_most cmp (user_of e.key) (user_of f.largest)) (user_from e at) (user_to e at)

  -- a file of a lawful version that ends before another begins has the newer entries
  pub before_newer : (v : State) (tables : List NumberedContents) → IsLawful cmp v tables → (f g : NewFile) → Contains v.files f → Contains v.files g → internal_cmp cmp f.meta.largest g.meta.smallest ≡ Less
      → AreNewer (table_entries tables f.meta.number) (table_entries tables g.meta.number)
  before_newer v tables lawful f g at there before = newer_of (table_entries tables f.meta.number) (table_entries tables g.meta.number) newer
    where
      is_file : (h : NewFile) → Contains v.files h → IsFileOf cmp tables h.meta
      is_file h i = All-contains (λ (x : NewFile). IsFileOf cmp tables x.meta) v.files h lawful.files i

      in_all : (h : NewFile) (e : Entry) → Contains v.files h → Contains (table_entries tables h.meta.number) e → Contains (all_entries tables v.files) e
      in_all h e i j = in_flat_map (λ (x : NewFile). table_entries tables x.meta.number) v.files h e i j

      newer : (a b : Entry) → Contains (table_entries tables f.meta.number) a → Contains (table_entries tables g.meta.number) b → user_of a.key ≡ user_of b.key → sequence_of b.key < sequence_of a.key
      newer a b i j same =
          let lt : internal_cmp cmp a.key b.key ≡ Less = upto_below (internal_cmp cmp) keys_total a.key f.meta.largest b.key (to_largest tables f.meta (is_file f at) a i)
          (below_upto (internal_cmp cmp) keys_total f.meta.largest g.meta.smallest b.key before (from_smallest tables g.meta (is_file g there) b j)) in
          elim (eq-or-lt_of_le (later_older cmp total a.key b.key lt same)) [
            | inl tied ↦ absurd (not_before_itself (internal_cmp cmp) keys_total a.key
                (subst (λ (e : Entry). internal_cmp cmp a.key e.key ≡ Less) (sym (same_entry (all_entries tables v.files) a b lawful.sequences_once (in_all f a at i) (in_all g b there j) same (sym tied))) lt))
            | inr less ↦ less
          ]
