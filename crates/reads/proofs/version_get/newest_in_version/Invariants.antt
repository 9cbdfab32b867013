use Rattle.ikey.specs.Key.{user_of, sequence_of}
use Rattle.reads.specs.Lawful.{IsLawful}
use Rattle.reads.proofs.Versions.{NoneBefore}
use Rattle.reads.proofs.version_get.newest_in_version.Given as goal

-- no entry of the levels so far is visible
abbrev pub invariant-loop-level : goal.invariant-loop-level
invariant-loop-level g l =
    IsLawful g.C.Comparator.cmp l.version l.tables → NoneBefore l.tables l.version.files (user_of l.target.bytes.now) (sequence_of l.target.bytes.now) l.level
