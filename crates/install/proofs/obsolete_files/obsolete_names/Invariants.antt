use Rattle.std.proofs.Common.{map, string_bytes, take}
use Rattle.folder.specs.Orders.{order_cmp}
use Rattle.install.specs.ObsoleteFile.{AreObsolete}
use Rattle.install.proofs.obsolete_files.obsolete_names.Given as goal

-- the obsolete ones of the names so far
abbrev pub invariant-loop-name : goal.invariant-loop-name
invariant-loop-name l =
    AreObsolete (order_cmp l.opened.order) l.opened.version l.opened.manifest (map string_bytes (take l.name-index l.names)) (map (λ n. n.now) l.obsolete.items)
