use Rattle.std.proofs.Common.{◌≡◌, ◌++◌, ◌∷◌, [], ℕ, List, map, length, drop, refl, sym, ap, subst, ◌∙◌, arith}
use Rattle.std.proofs.lemmas.List.{append-nil, map_push, nil_from_length, length-drop}
use Rattle.coding.proofs.Binds.{done}
use Rattle.block.specs.EncodedEntry.{Entry}
use Rattle.ikey.specs.Key.{user_of}
use Rattle.table.specs.EntryTests.{HaveKeys}
use Rattle.table.specs.TableContents.{Contents}
use Rattle.table.proofs.CheckedTables.{users_are}
use Rattle.table.proofs.Walks.{indexes, keys_behind, named_keys, none_valid, users_go_on, users_named}
use Rattle.table.proofs.sound_table.SoundTable.index_users.Goals as goal

-- the user keys of entries
abbrev users_in : List Entry → List (List ℕ)
users_in entries = map (λ e. user_of e.key) entries

pub loop-alloc-init : goal.loop-alloc-init
loop-alloc-init g c =
    let cmp = g.C.Comparator.cmp in
    let t = c.self.inside in
    let x = indexes cmp t.bytes.now t.index.entries t.bounds.smallest t.bounds.largest c.args.self.now g.met.C.Comparator.total c.self.invariant.checked c.self.view_is in
    record {
      users = rw c.new-users.ensures.items refl;
      keys = subst HaveKeys (sym c.in_ok-entries.ensures.all) (named_keys cmp c.args.self.now.bytes t.index.entries x.named);
    }

pub loop-alloc-preserved : goal.loop-alloc-preserved
loop-alloc-preserved g c =
    let q = c.loop-alloc.entries in
    let front : List (List ℕ) = map (λ user. user.items) c.loop-alloc.users.items in
    let user : List ℕ = c.user.result.now in
    let pushed : map (λ u. u.items) c.push.new.self.items ≡ front ++ user ∷ [] =
    ap (map (λ u. u.items)) c.in_ok-push.ensures.items
    ∙ map_push (λ u. u.items) c.loop-alloc.users.items c.in_ok-from_slice.field-0
    ∙ ap (λ (k : List ℕ). front ++ k ∷ []) c.in_ok-from_slice.ensures.items in
    let on : (front ++ user ∷ []) ++ users_in (drop 1 q) ≡ users_in c.in_ok-entries.entries =
    users_go_on front q c.first_key.result.bytes.now user (users_in c.in_ok-entries.entries) (omega arith) c.first_key.ensures c.user.ensures c.loop-alloc.invariant.users in
    record {
      users = subst (λ (us : List (List ℕ)). us ++ users_in c.advance.new.self ≡ users_in c.in_ok-entries.entries) (sym pushed)
          (subst (λ (es : List Entry). (front ++ user ∷ []) ++ users_in es ≡ users_in c.in_ok-entries.entries) (sym c.in_ok-advance.ensures.ok) on);
      keys = subst HaveKeys (sym c.in_ok-advance.ensures.ok) (keys_behind q c.loop-alloc.invariant.keys);
    }

pub returns : goal.returns
returns g c =
    let t = c.self.inside in
    let k = c.self.invariant.checked in
    let front : List (List ℕ) = map (λ user. user.items) c.loop-alloc.users.items in
    let ended : c.loop-alloc.entries ≡ [] = nil_from_length c.loop-alloc.entries (none_valid c.valid.result c.loop-alloc.entries c.valid.ensures.1 c.loop-alloc-test.false) in
    let none : front ++ users_in c.loop-alloc.entries ≡ front = ap (λ (es : List Entry). front ++ users_in es) ended ∙ append-nil front in
    ap (λ (us : List (List ℕ)). done us)
    (ap (λ (x : Contents). x.index_users) (sym c.self.view_is)
    ∙ users_are g.C.Comparator.cmp t.bytes.now t.index.entries t.bounds.smallest t.bounds.largest k
    ∙ sym (users_named t.bytes.now t.index.entries k.index k.index_entries)
    ∙ ap users_in (sym c.in_ok-entries.ensures.all)
    ∙ sym c.loop-alloc.invariant.users
    ∙ none)

pub first_key-requires-clause-some : goal.first_key-requires-clause-some
first_key-requires-clause-some g c = c.valid.ensures.0 c.loop-alloc-test.true

pub first_key-requires-clause-keys : goal.first_key-requires-clause-keys
first_key-requires-clause-keys g c = c.loop-alloc.invariant.keys

pub advance-requires : goal.advance-requires
advance-requires g c = c.valid.ensures.0 c.loop-alloc-test.true

pub loop-alloc-smaller : goal.loop-alloc-smaller
loop-alloc-smaller g c =
    let some = c.valid.ensures.0 c.loop-alloc-test.true in
    omega (arith, some, ap length c.in_ok-advance.ensures.ok, length-drop 1 c.loop-alloc.entries)
