use Rattle.std.proofs.Common.{refl}
use borrow.Rule.Simd.Lanes.{act2}
use borrow.Table.Row.{s_int}
use lib.Lanes.{top}
use mir.Syntax.{w8, wrap_add, mask, lt, unsigned}
use mir.Val.{hbits}
use Rattle.texts.proofs.DigitChunks.{digits_chosen}
use Rattle.texts.proofs.digits.digits_of.Goals as goal

pub returns : goal.returns
returns c =
    digits_chosen (act2 wrap_add (s_int w8) (s_int w8) (s_int w8)) (top (hbits w8)) (act2 (mask (lt unsigned)) (s_int w8) (s_int w8) (s_int w8))
    16 c.args.numbers refl c.requires c.fits-numbers.0
