-- A head that is read of a value is one of its type; a type of the package stands in its table.
use Rattle.std.proofs.Common.{ℕ, List, inl, inr, refl, ap, sym}
use Rattle.std.proofs.Math.Nat.{mod-lt}
use Rattle.std.proofs.Math.Pow.{pow_pos}
use Rattle.canonical_abi.specs.Reading.{low_bits}
use Rattle.canonical_abi.specs.Types.{ClosedType, prim_type, string_type, list_type, record_type, variant_type, flags_type}
use Rattle.lift_lower.specs.Heads.{HeadHolds, HeadLifts, IsHeadOf}
use Rattle.lift_lower.specs.declared.heads.Head.{Head}
use Rattle.tables.specs.Standard.{IsTypeOf}
use Rattle.tables.specs.declared.tables.Resolve.{Resolve}
use Rattle.tables.specs.declared.tables.ValType.{ValType}
use Rattle.values.proofs.PackageTypesAreStandard.{known-inside}
use Rattle.values.specs.Types.{IsInside}

pub inside : (r : Resolve) (v : ValType) → IsTypeOf r v → IsInside r v
inside r v known = known-inside r v known

pub stored_head : (t : ClosedType) (m : List ℕ) (a : ℕ) (h : Head) → HeadHolds t m a h → IsHeadOf t h
stored_head (prim_type p) m a h head = rw head.1 (ap prim_type (sym head.2))
stored_head string_type m a h head = rw head.0 (inl refl)
stored_head (list_type u) m a h head = rw head.0 (inr (u, refl))
stored_head (record_type fs) m a h head = rw head (fs, refl)
stored_head (variant_type cs) m a h head = rw head.1 (cs, refl, head.0)
stored_head (flags_type n) m a h head = rw head (n, refl, mod-lt _ (pow_pos n))

pub flat_head : (t : ClosedType) (m fs : List ℕ) (h : Head) → HeadLifts t m fs h → IsHeadOf t h
unfolding low_bits
flat_head (prim_type p) m fs h head = rw head.1 (ap prim_type (sym head.2))
flat_head string_type m fs h head = rw head.0 (inl refl)
flat_head (list_type u) m fs h head = rw head.0 (inr (u, refl))
flat_head (record_type ts) m fs h head = rw head (ts, refl)
flat_head (variant_type cs) m fs h head = rw head.1 (cs, refl, head.0)
flat_head (flags_type n) m fs h head = rw head (n, refl, mod-lt _ (pow_pos n))
