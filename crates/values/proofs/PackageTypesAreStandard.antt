-- Types of a package stand in its table, and are standard.
use Rattle.std.proofs.Common.{List, [], ◌∷◌}
use Rattle.std.proofs.lemmas.Bool.{and_parts, and_from}
use Rattle.canonical_abi.specs.Types.{IsStandard, AreStandardFields}
use Rattle.tables.specs.Closed.{closed_type}
use Rattle.tables.specs.Standard.{IsTypeOf}
use Rattle.tables.specs.declared.tables.Resolve.{Resolve}
use Rattle.tables.specs.declared.tables.ValType.{ValType}
use Rattle.tables.proofs.HasStandardTypes.{type-below, type-standard, all-standard}
use Rattle.values.specs.Members.{fields_of_types, AreAllInside, AreTypesOf}
use Rattle.values.specs.Types.{IsInside}

pub known-inside : (r : Resolve) (v : ValType) → IsTypeOf r v → IsInside r v
known-inside r v h = type-below r.definitions v h

pub known-standard : (r : Resolve) (v : ValType) → IsTypeOf r v → IsStandard (closed_type r v)
known-standard r v h = type-standard r v h

pub all-known-inside : (r : Resolve) (types : List ValType) → AreTypesOf r types → AreAllInside r types
all-known-inside r [] h = h
all-known-inside r (v ∷ types) h = let both = and_parts _ _ h in and_from _ _ (known-inside r v both.0) (all-known-inside r types both.1)

pub all-known-standard : (r : Resolve) (types : List ValType) → AreTypesOf r types → AreStandardFields (fields_of_types r types)
all-known-standard r types h = all-standard r types h
