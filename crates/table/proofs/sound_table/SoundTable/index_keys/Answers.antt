use Rattle.std.proofs.Common.{◌≡◌, ◌++◌, ◌∷◌, [], ℕ, List, map, length, drop, refl, sym, ap, subst, ◌∙◌, arith}
use Rattle.std.proofs.lemmas.List.{append-nil, nil_from_length, length-drop}
use Rattle.coding.proofs.Binds.{done}
use Rattle.block.specs.EncodedEntry.{Entry}
use Rattle.ikey.specs.Key.{user_of}
use Rattle.table.specs.EntryTests.{HaveKeys}
use Rattle.table.specs.TableContents.{Contents}
use Rattle.table.proofs.CheckedTables.{users_are}
use Rattle.table.proofs.Walks.{indexes, keys_behind, named_keys, none_valid, users_go_on, users_named}
use Rattle.table.proofs.sound_table.SoundTable.index_keys.Goals as goal

-- the user keys of entries
abbrev users_in : List Entry → List (List ℕ)
users_in entries = map (λ e. user_of e.key) entries

pub loop-users-init : goal.loop-users-init
loop-users-init g c =
    let cmp = g.C.Comparator.cmp in
    let t = c.self.inside in
    let x = indexes cmp t.bytes.now t.index.entries t.bounds.smallest t.bounds.largest c.args.self.now g.met.C.Comparator.total c.self.invariant.checked c.self.view_is in
    record {
      users = rw c.new-users.ensures refl;
      keys = subst HaveKeys (sym c.in_ok-entries.ensures.all) (named_keys cmp c.args.self.now.bytes t.index.entries x.named);
    }

pub loop-users-preserved : goal.loop-users-preserved
loop-users-preserved g c =
    let q = c.loop-users.entries in
    let front : List (List ℕ) = c.loop-users.users in
    let user : List ℕ = c.user.result.now in
    let on : (front ++ user ∷ []) ++ users_in (drop 1 q) ≡ users_in c.in_ok-entries.entries =
    users_go_on front q c.first_key.result.bytes.now user (users_in c.in_ok-entries.entries) (omega arith) c.first_key.ensures c.user.ensures c.loop-users.invariant.users in
    record {
      users = subst (λ (us : List (List ℕ)). us ++ users_in c.advance.new.self ≡ users_in c.in_ok-entries.entries) (sym c.in_ok-push.ensures.ok)
          (subst (λ (es : List Entry). (front ++ user ∷ []) ++ users_in es ≡ users_in c.in_ok-entries.entries) (sym c.in_ok-advance.ensures.ok) on);
      keys = subst HaveKeys (sym c.in_ok-advance.ensures.ok) (keys_behind q c.loop-users.invariant.keys);
    }

pub returns : goal.returns
returns g c =
    let t = c.self.inside in
    let k = c.self.invariant.checked in
    let front : List (List ℕ) = c.loop-users.users in
    let ended : c.loop-users.entries ≡ [] = nil_from_length c.loop-users.entries (none_valid c.valid.result c.loop-users.entries c.valid.ensures.1 c.loop-users-test.false) in
    let none : front ++ users_in c.loop-users.entries ≡ front = ap (λ (es : List Entry). front ++ users_in es) ended ∙ append-nil front in
    ap (λ (us : List (List ℕ)). done us)
    (ap (λ (x : Contents). x.index_users) (sym c.self.view_is)
    ∙ users_are g.C.Comparator.cmp t.bytes.now t.index.entries t.bounds.smallest t.bounds.largest k
    ∙ sym (users_named t.bytes.now t.index.entries k.index k.index_entries)
    ∙ ap users_in (sym c.in_ok-entries.ensures.all)
    ∙ sym c.loop-users.invariant.users
    ∙ none)

pub first_key-requires-clause-some : goal.first_key-requires-clause-some
first_key-requires-clause-some g c = c.valid.ensures.0 c.loop-users-test.true

pub first_key-requires-clause-keys : goal.first_key-requires-clause-keys
first_key-requires-clause-keys g c = c.loop-users.invariant.keys

pub advance-requires : goal.advance-requires
advance-requires g c = c.valid.ensures.0 c.loop-users-test.true

pub loop-users-smaller : goal.loop-users-smaller
loop-users-smaller g c =
    let some = c.valid.ensures.0 c.loop-users-test.true in
    omega (arith, some, ap length c.in_ok-advance.ensures.ok, length-drop 1 c.loop-users.entries)
