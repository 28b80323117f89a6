use Rattle.std.proofs.Common.{arith, length}
use Rattle.ctype_bin.proofs.ReadsExactly.PlainProductions.{stays_small, IsBytes-take}
use Rattle.ctype_bin.proofs.ReadsExactly.Files.{exact-type_section}
use Rattle.ctype_bin.proofs.sections.types_within.Goals as goal

pub in_section-requires : goal.in_section-requires
in_section-requires c =
    let fits = IsBytes-take c.args.size c.args.bytes.now (λ i. omega (arith, c.type_inv.bytes i)) in
    let inside = exact-type_section.stays c.split_at.result.0.now c.in-Err-Stuck.stuck (rw c.split_at.ensures.front fits) (rw c.in-Err-Stuck.field-0-is at c.in-Err-Stuck.ensures) in
    stays_small c.split_at.result.0.now c.in-Err-Stuck.stuck (length c.split_at.result.1.now) inside (omega (arith, c.split_at.ensures.front_len, c.split_at.ensures.back_len))
