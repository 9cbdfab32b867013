-- What came of the tables of a source.
use Rattle.std.proofs.Common.{◌≡◌}
use Rattle.folder.specs.Calls.{Step, TellsAfter, ToldFiles}
use Rattle.folder.specs.Folder.{TellsSame}

-- a step from what tells the same
pub tells_from : (step : Step) (old mid new : ToldFiles) → TellsSame old mid → TellsAfter step mid new → TellsAfter step old new
tells_from step old mid new same after s tells = after s (λ name held. (λ (told : mid name held). (tells name held).0 ((same name held).1 told), λ (is : s.files name ≡ held). (same name held).0 ((tells name held).1 is)))
