use Rattle.std.proofs.Common.{◌≡◌, drop}
use Rattle.std.specs.Prelude.{string_bytes}
use Rattle.folder.specs.Calls.{Files, Tells}
use Rattle.folder.specs.Reports.{OnlyReads}
use Rattle.store.specs.InputsCompaction.{input_numbers}
use Rattle.store.specs.NameLines.{lines_after}
use Rattle.store.proofs.needed_files.push_names.Given as goal

-- the text so far and the lines of the inputs that are left are all
abbrev pub invariant-loop-input : goal.invariant-loop-input
invariant-loop-input g l =
    let tells = g.F.Folder.tells in
    let failed = g.F.Folder.failed in
    record {
      left : (files : Files) → Tells (tells l.fn.folder) files → lines_after files (string_bytes l.fn.text) (input_numbers l.inputs) ≡ lines_after files (string_bytes l.text) (input_numbers (drop l.input-index l.inputs));
      reads : OnlyReads g.F.Folder l.fn.folder l.folder;
      failures : failed l.folder ≡ failed l.fn.folder;
    }
