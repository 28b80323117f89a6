-- The types of a function's parameters and of its result, as its package names them.
use Rattle.std.specs.Prelude.{List, [], map, Option, Some, None}
use Rattle.tables.specs.declared.tables.ValType.{ValType}
use Rattle.tables.specs.declared.tables.Function.{Function}

-- the types of a function's parameters and result, by their ids in the table
pub record Signature : Type 0 where
  pub params : List ValType
  pub result : Option ValType

-- the types of a function, or no parameters and no result if there is no function
abbrev pub function_signature : Option Function → Signature
function_signature None = record { params = []; result = None }
function_signature (Some f) = record { params = map (λ p. p.ty) f.params; result = f.result }
