-- The types of a table are types that a package can have.
use Rattle.std.specs.Prelude.{IsTrue}
use Rattle.canonical_abi.specs.Types.{IsStandard}
use Rattle.canonical_abi.specs.Headline.{IsStandardFunction}
use Rattle.tables.specs.Tables.{is_type}
use Rattle.tables.specs.Closed.{closed_type, IsFunction, function_type}
use Rattle.tables.specs.declared.tables.ValType.{ValType}
use Rattle.tables.specs.declared.tables.FunctionId.{FunctionId}
use Rattle.tables.specs.declared.tables.Resolve.{Resolve}

-- a type of the package: a primitive, string or a row that is no function
abbrev pub IsTypeOf : Resolve → ValType → Type 0
IsTypeOf r v = IsTrue (is_type r.definitions v)

-- each closed type, and the type of each function, has parts wherever it must, and no more than the limits
pub record HasStandardTypes (r : Resolve) : Type 0 where
  pub types : (v : ValType) → IsTypeOf r v → IsStandard (closed_type r v)
  pub functions : (f : FunctionId) → IsFunction r f → IsStandardFunction (function_type r f)
