use Rattle.canonical_abi.proofs.ReadValues.ReadsExactly.{denoting-tells, reading-tells}
use Rattle.canonical_abi.proofs.laws.computes_exactly.Goals as goal

pub returns : goal.returns
returns c = record {
  held = λ t m a. reading-tells t m a;
  denoted = λ limit ts m flats. denoting-tells limit ts m flats;
}
