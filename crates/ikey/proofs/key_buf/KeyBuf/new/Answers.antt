use Rattle.std.proofs.Common.{◌≡◌, subst, rules}
use Rattle.ikey.specs.Key.{internal_key, tag_bytes, IsInternalKey}
use Rattle.ikey.proofs.Keys.{IsInternalKey-internal_key}
use Rattle.ikey.proofs.key_buf.KeyBuf.new.Goals as goal

pub invariant_of-result : goal.invariant_of-result
unfolding internal_key tag_bytes
invariant_of-result c =
    let made : internal_key c.args.user.now c.args.sequence c.args.kind ≡ c.extend_from_slice-2.new.self.items = search rules in
    subst IsInternalKey made (IsInternalKey-internal_key c.args.user.now c.args.sequence c.args.kind c.requires.user_fits c.requires.sequence_fits)

pub returns : goal.returns
unfolding internal_key tag_bytes
returns c = search rules
