use Rattle.std.proofs.Common.{arith}
use Rattle.ctype_bin.specs.FileView.{raw_component_view}
use Rattle.ctype_bin.proofs.DecodesByProductions.{all_spelt, only_those, all_faulty}
use Rattle.ctype_bin.proofs.decoding.decode.Goals as goal

pub returns-clause-spelt : goal.returns-clause-spelt
returns-clause-spelt c = all_spelt raw_component_view c.args.bytes.now (λ i. omega (arith, c.type_inv.bytes i)) c.decode_bytes.result c.decode_bytes.ensures

pub returns-clause-only : goal.returns-clause-only
returns-clause-only c = only_those raw_component_view c.args.bytes.now c.decode_bytes.result c.decode_bytes.ensures

pub returns-clause-first : goal.returns-clause-first
returns-clause-first c = all_faulty raw_component_view c.args.bytes.now (λ i. omega (arith, c.type_inv.bytes i)) c.decode_bytes.result c.decode_bytes.ensures
