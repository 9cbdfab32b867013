use Rattle.std.proofs.Common.{◌≡◌, [], drop, ap, arith}
use Rattle.std.proofs.Math.ListN.{drop_of_length-le}
use Rattle.cut.specs.TableLength.{lens_of}
use Rattle.cut.proofs.table_len.stored_len.Goals as goal

pub returns : goal.returns
returns c =
    let none : drop c.loop-block.block-index c.args.blocks.now ≡ [] = drop_of_length-le c.args.blocks.now (omega arith) in
    omega (arith, ap lens_of none, c.loop-block.invariant.sum, c.loop-block.invariant.fits)
