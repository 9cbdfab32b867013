use Rattle.std.proofs.Common.{take}
use Rattle.std.specs.List.{All, flat_map}
use Rattle.std.specs.Option.{option_map}
use Rattle.ikey.specs.Key.{user_of, sequence_of}
use Rattle.reads.specs.Tables.{table_entries}
use Rattle.reads.specs.Visible.{visible_in, IsAnswer}
use Rattle.reads.specs.Lawful.{IsFileOf}
use Rattle.reads.proofs.version_get.newest_at_level.Given as goal

-- the newest so far is that of the files so far
abbrev pub invariant-loop-file : goal.invariant-loop-file
invariant-loop-file g l =
    All (λ f. IsFileOf g.C.Comparator.cmp l.tables f.now) l.files
    → IsAnswer (flat_map (λ f. table_entries l.tables f.now.number) (take l.file-index l.files)) (user_of l.target.bytes.now) (sequence_of l.target.bytes.now) (option_map visible_in l.newest)
