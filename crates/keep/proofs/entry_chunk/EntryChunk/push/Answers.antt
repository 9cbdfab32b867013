use Rattle.std.proofs.Common.{◌≡◌, ◌+◌, ◌*◌, ◌<◌, ◌≤◌, ℕ, List, [], ◌∷◌, ◌++◌, length, sym, ap, subst, ◌∙◌, rules, arith, length-append}
use Rattle.std.specs.Prelude.{nat_eq}
use Rattle.std.specs.List.{common_prefix_len}
use Rattle.reads.specs.EncodedEntry.{Entry}
use Rattle.reads.specs.BuilderView.{last_key}
use Rattle.keep.specs.declared.kept_entry.KeptEntry.{KeptEntry}
use Rattle.keep.specs.KeyBuffer.{entries_at}
use Rattle.keep.proofs.KeyBuffers.{entries_push, keys_push, keys_bound, length-entries}
use Rattle.keep.proofs.entry_chunk.EntryChunk.push.Goals as goal

pub invariant_of-self-2 : goal.invariant_of-self-2
invariant_of-self-2 c =
    let was = c.self.inside in
    let key : List ℕ = c.args.key.bytes.now in
    let k : KeptEntry = record { end = c.len-end.result; shared = c.args.shared; value = c.args.value; sum = c.next_sum.result } in
    let keys : c.extend_from_slice.new.self.items ≡ was.keys.items ++ key = search rules in
    let kept : c.push.new.self.items ≡ was.kept.items ++ k ∷ [] = search rules in
    let end : k.end ≡ length (was.keys.items ++ key) = search rules in
    let shared : 0 < length (entries_at 0 was.keys.items was.kept.items) → k.shared ≡ common_prefix_len nat_eq (last_key [] (entries_at 0 was.keys.items was.kept.items)) key =
    λ some. c.requires.shared (subst (λ (es : List Entry). 0 < length es) c.self.view_is some) ∙ ap (λ (es : List Entry). common_prefix_len nat_eq (last_key [] es) key) (sym c.self.view_is) in
    rw (keys, kept) (keys_push was.keys.items key was.kept.items k c.self.invariant end c.args.key.lawful shared (search rules))

pub returns-clause-ok : goal.returns-clause-ok
returns-clause-ok c =
    let was = c.self.inside in
    let key : List ℕ = c.args.key.bytes.now in
    let k : KeptEntry = record { end = c.len-end.result; shared = c.args.shared; value = c.args.value; sum = c.next_sum.result } in
    let keys : c.extend_from_slice.new.self.items ≡ was.keys.items ++ key = search rules in
    let kept : c.push.new.self.items ≡ was.kept.items ++ k ∷ [] = search rules in
    let end : k.end ≡ length (was.keys.items ++ key) = search rules in
    ap (λ bytes. entries_at 0 bytes c.push.new.self.items) keys
    ∙ ap (λ ks. entries_at 0 (was.keys.items ++ key) ks) kept
    ∙ entries_push 0 was.keys.items key was.kept.items k c.self.invariant.ends end
    ∙ ap (λ (es : List Entry). es ++ record { key = key; value = c.args.value.now } ∷ []) c.self.view_is

pub overflow_cast-entry : goal.overflow_cast-entry
overflow_cast-entry c =
    let was = c.self.inside in
    let key : List ℕ = c.args.key.bytes.now in
    let keys : c.extend_from_slice.new.self.items ≡ was.keys.items ++ key = search rules in
    let end : c.len-end.result ≡ length (was.keys.items ++ key) = search rules in
    let fits : length key ≤ 65543 = c.args.key.lawful.fits in
    let bound : length was.keys.items ≤ 0 + 65543 * length was.kept.items = keys_bound 0 was.keys.items was.kept.items c.self.invariant.ends c.self.invariant.internal in
    let count : length was.kept.items ≡ length c.args.self.now = sym (length-entries 0 was.keys.items was.kept.items) ∙ ap length c.self.view_is in
    omega (arith, end, fits, bound, count, c.requires.room, length-append was.keys.items key)
