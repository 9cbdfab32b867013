-- The entries of files that stay come before those of files that are taken.
use Rattle.std.proofs.Common.{◌≡◌, ℕ, Bool, true, false, not, cond, List, [], ◌∷◌, ◌++◌, refl, sym, ap, ◌∙◌, append_assoc, arith}
use Rattle.std.specs.Prelude.{Contains}
use Rattle.std.specs.List.{filter, flat_map}
use Rattle.std.specs.Cmp.{IsTotalOrder}
use Rattle.std.specs.declared.cmp.Ordering.{Ordering}
use Rattle.std.proofs.lemmas.List.Elements.{filter-append}
use Rattle.std.proofs.lemmas.Grind.{flat_map-append}
use Rattle.table.specs.EncodedEntry.{Entry}
use Rattle.edit.specs.Version.{State}
use Rattle.edit.specs.declared.meta.FileMeta.{FileMeta}
use Rattle.reads.specs.Lawful.{IsLawful}
use Rattle.reads.specs.Tables.{NumberedContents, table_entries}
use Rattle.reads.proofs.Members.{first_in, later_in, from_filter, from_flat_map}
use Rattle.reads.proofs.Pairs.{Pairs}
use Rattle.compact.specs.InputsTogether.{entries_read}
use Rattle.compact.proofs.FallingOrder.{is_of, of_user}
use Rattle.compact.proofs.ReadOrder.{IsNewer}

pub read-append : (tables : List NumberedContents) (user : List ℕ) (xs ys : List FileMeta) → entries_read tables user (xs ++ ys) ≡ entries_read tables user xs ++ entries_read tables user ys
read-append tables user xs ys =
    let of : FileMeta → List Entry = λ m. table_entries tables m.number in
    ap (filter (is_of user)) (flat_map-append of xs ys) ∙ filter-append (is_of user) (flat_map of xs) (flat_map of ys)

pub nothing_in : {A : Type 0} (xs : List A) → ((x : A) → Contains xs x → ⊥) → xs ≡ []
nothing_in [] h = refl
nothing_in (x ∷ xs) h = absurd (h x (first_in x xs))

-- two lists that aren't both there may be swapped
swapped : (a b c : List Entry) → ((x y : Entry) → Contains a x → Contains b y → ⊥) → a ++ (b ++ c) ≡ b ++ (a ++ c)
swapped [] b c h = refl
swapped (x ∷ a) [] c h = refl
swapped (x ∷ a) (y ∷ b) c h = absurd (h x y (first_in x a) (first_in y b))

-- the file that an entry of a user key is from
pub record IsRead (tables : List NumberedContents) (user : List ℕ) (files : List FileMeta) (e : Entry) : Type 0 where
  pub file : FileMeta
  pub there : Contains files file
  pub held : Contains (table_entries tables file.number) e
  pub own : is_of user e ≡ true

pub from_read : (tables : List NumberedContents) (user : List ℕ) (files : List FileMeta) (e : Entry) → Contains (entries_read tables user files) e → IsRead tables user files e
from_read tables user files e at =
    let kept = from_filter (is_of user) (flat_map (λ (m : FileMeta). table_entries tables m.number) files) e at in
    let from = from_flat_map (λ (m : FileMeta). table_entries tables m.number) files e kept.0 in
    record { file = from.source; there = from.there; held = from.held; own = kept.1 }

module _ (cmp : List ℕ → List ℕ → Ordering) (total : IsTotalOrder cmp) (v : State) (tables : List NumberedContents) (lawful : IsLawful cmp v tables) (user : List ℕ) (taken : FileMeta → Bool) where
  abbrev stays : FileMeta → Bool
  stays f = not (taken f)

  abbrev read : List FileMeta → List Entry
  read files = entries_read tables user files

  abbrev own : FileMeta → List Entry
  own f = filter (is_of user) (table_entries tables f.number)

  parted_by : (f : FileMeta) (files : List FileMeta) (b : Bool) → taken f ≡ b → ((x y : Entry) → Contains (own f) x → Contains (read (filter stays files)) y → taken f ≡ true → ⊥)
      → read files ≡ read (filter stays files) ++ read (filter taken files)
      → own f ++ read files ≡ read (cond (not b) (f ∷ filter stays files) (filter stays files)) ++ read (cond b (f ∷ filter taken files) (filter taken files))
  parted_by f files true e apart rest =
      ap (λ (l : List Entry). own f ++ l) rest
      ∙ swapped (own f) (read (filter stays files)) (read (filter taken files)) (λ x y i j. apart x y i j e)
      ∙ ap (λ (l : List Entry). read (filter stays files) ++ l) (sym (filter-append (is_of user) (table_entries tables f.number) (flat_map (λ (m : FileMeta). table_entries tables m.number) (filter taken files))))
  parted_by f files false e apart rest =
      ap (λ (l : List Entry). own f ++ l) rest
      ∙ sym (append_assoc (own f) (read (filter stays files)) (read (filter taken files)))
      ∙ ap (λ (l : List Entry). l ++ read (filter taken files)) (sym (filter-append (is_of user) (table_entries tables f.number) (flat_map (λ (m : FileMeta). table_entries tables m.number) (filter stays files))))

  -- if the files are in order, and those that stay are newer than those that are taken
  pub parted : (files : List FileMeta) → Pairs (IsNewer cmp total v tables lawful) files
      → ((f g : FileMeta) → Contains files f → Contains files g → taken f ≡ false → taken g ≡ true → IsNewer cmp total v tables lawful f g)
      → read files ≡ read (filter stays files) ++ read (filter taken files)
  parted [] order newer = refl
  parted (f ∷ files) order newer =
      filter-append (is_of user) (table_entries tables f.number) (flat_map (λ (m : FileMeta). table_entries tables m.number) files)
      ∙ parted_by f files (taken f) refl apart (parted files order.1 (λ a b i j. newer a b (later_in f files a i) (later_in f files b j)))
    where
      left : (b : Bool) → not b ≡ true → b ≡ false
      left true h = absurd cc
      left false h = refl

      apart : (x y : Entry) → Contains (own f) x → Contains (read (filter stays files)) y → taken f ≡ true → ⊥
      apart x y i j e =
          let of_x = from_filter (is_of user) (table_entries tables f.number) x i in
          let of_y = from_read tables user (filter stays files) y j in
          let kept = from_filter stays files of_y.file of_y.there in
          let same = of_user user x of_x.1 ∙ sym (of_user user y of_y.own) in
          let down = order.0 of_y.file kept.0 x y of_x.0 of_y.held same in
          let up = newer of_y.file f (later_in f files of_y.file kept.0) (first_in f files) (left (taken of_y.file) kept.1) e y x of_y.held of_x.0 (sym same) in
          absurd (omega (arith, down, up))
