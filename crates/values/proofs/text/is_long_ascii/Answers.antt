use Rattle.std.proofs.Common.{sym, arith}
use Rattle.std.proofs.lemmas.List.{length-take-le}
use Rattle.values.proofs.text.is_long_ascii.Goals as goal

pub slice_bounds-is_ascii-end : goal.slice_bounds-is_ascii-end
slice_bounds-is_ascii-end c = sym (length-take-le 64 c.args.bytes.now (omega (arith, c.requires)))
