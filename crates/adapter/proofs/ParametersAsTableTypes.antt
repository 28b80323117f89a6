-- A function's parameters and its result, as types of the table.
use Rattle.std.proofs.Common.{◌≡◌, List, [], ◌∷◌, Option, Some, None, MatchOption, map, refl, ap}
use Rattle.std.specs.Option.{option_to_list}
use Rattle.canonical_abi.specs.Types.{ClosedType}
use Rattle.tables.specs.Closed.{closed_val, closed_params}
use Rattle.tables.specs.declared.tables.Parameter.{Parameter}
use Rattle.tables.specs.declared.tables.ValType.{ValType}

pub same_types : (o : Option ValType) (ts : List ValType) → MatchOption o (ts ≡ []) (λ t. ts ≡ t ∷ []) → ts ≡ option_to_list o
same_types None ts h = h
same_types (Some t) ts h = h

pub params_in : (rows : List ClosedType) (ps : List Parameter) → closed_params rows ps ≡ map (closed_val rows) (map (λ p. p.ty) ps)
params_in rows [] = refl
params_in rows (p ∷ ps) = ap (λ ts. closed_val rows p.ty ∷ ts) (params_in rows ps)
