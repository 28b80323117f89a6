use Rattle.std.proofs.Common.{arith}
use Rattle.ctype_format.specs.View.{parts_file}
use Rattle.ctype_bin.proofs.DecodesByProductions.{spellable}
use Rattle.ctype_bin.proofs.sections.file_of.Goals as goal

pub of-requires : goal.of-requires
of-requires c = ∣ spellable c.args.bytes.now (parts_file c.in_ok-types.types c.in_ok-types.exports) (λ i. omega (arith, c.type_inv.bytes i)) c.in_ok-types.ensures ∣₁
