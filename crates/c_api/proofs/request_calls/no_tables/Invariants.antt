use Rattle.std.proofs.Common.{◌≡◌, map, take}
use Rattle.c_api.specs.Requests.{no_table}
use Rattle.c_api.proofs.request_calls.no_tables.Given as goal

-- the files so far have an empty table each
abbrev pub invariant-loop-file : goal.invariant-loop-file
invariant-loop-file l = map (λ t. t.now) l.tables.items ≡ map no_table (take l.file-index l.files)
