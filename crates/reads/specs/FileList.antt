-- The files of a version, one after the other.
use Rattle.std.specs.Prelude.{◌≡◌, nat_eq, Bool, true, List, Contains}
use Rattle.std.specs.List.{IsDistinct}
use Rattle.std.specs.Ordering.{nat_cmp}
use Rattle.std.specs.declared.cmp.Ordering.{Ordering}
use Rattle.edit.specs.Version.{are_apart}
use Rattle.edit.specs.declared.meta.FileMeta.{FileMeta}
use Rattle.edit.specs.declared.meta.NewFile.{NewFile}
use Rattle.reads.specs.declared.level_file.LevelFile.{LevelFile}

-- a file and its level
abbrev pub level_file_in : LevelFile → NewFile
level_file_in f = record { level = f.level; meta = f.meta.now }

-- whether two files have one number
abbrev pub same_file : NewFile → NewFile → Bool
same_file f g = nat_eq f.meta.number g.meta.number

-- of two files the one of the higher number first
abbrev pub newer_number : FileMeta → FileMeta → Ordering
newer_number f g = nat_cmp g.number f.number

-- the listed files are all files of a version, each once, and no two have one number
pub record AreAll (files listed : List NewFile) : Type 0 where
  pub apart : are_apart files ≡ true
  pub distinct : IsDistinct same_file listed
  pub all : (f : NewFile) → Contains files f → Contains listed f
  pub only : (f : NewFile) → Contains listed f → Contains files f
