-- Entries that are newer than those of another list.
use Rattle.std.proofs.Common.{◌≡◌, ◌<◌, List, get_or}
use Rattle.std.specs.Prelude.{Contains}
use Rattle.std.specs.List.{All}
use Rattle.std.proofs.lemmas.List.Elements.{All-contains, Contains-get_or}
use Rattle.ikey.specs.Key.{user_of, sequence_of}
use Rattle.table.specs.EncodedEntry.{Entry}
use Rattle.reads.specs.Lawful.{AreNewer}
use Rattle.reads.specs.TableOrder.{IsNewer}

pub newer_at : (xs ys : List Entry) → AreNewer xs ys → (a b : Entry) → Contains xs a → Contains ys b → user_of a.key ≡ user_of b.key → sequence_of b.key < sequence_of a.key
newer_at xs ys newer a b i j same =
    let all : All (IsNewer a) ys = All-contains (λ (x : Entry). All (IsNewer x) ys) xs a newer i in
    let here : IsNewer a b = All-contains (IsNewer a) ys b all j in
    here same

pub newer_of : (xs ys : List Entry) → ((a b : Entry) → Contains xs a → Contains ys b → user_of a.key ≡ user_of b.key → sequence_of b.key < sequence_of a.key) → AreNewer xs ys
newer_of xs ys h i d lt j c below = h (get_or xs i d) (get_or ys j c) (Contains-get_or xs i d lt) (Contains-get_or ys j c below)
