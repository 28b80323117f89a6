-- CanonicalABI.md, "Flattening": what a contract sees of a list of flat kinds.
use Rattle.std.specs.Prelude.{List}
use Rattle.canonical_abi.specs.declared.flat.CoreKind.{CoreKind}

-- flat kinds, in their order
pub record ListOfKinds : Type 0 where
  pub items : List CoreKind
