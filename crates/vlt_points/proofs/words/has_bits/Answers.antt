use Rattle.vlt_points.proofs.Texts.{bits_are}
use Rattle.vlt_points.proofs.words.has_bits.Goals as goal

pub returns : goal.returns
returns c = bits_are c.args.mask c.ranges.mask.fits
