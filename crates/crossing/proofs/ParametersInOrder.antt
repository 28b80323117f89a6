-- A function's parameters, each at its place.
use Rattle.std.proofs.Common.{◌≡◌, ◌<◌, ℕ, zero, suc, List, [], ◌∷◌, Some, length, map, get_or, sym, ap, ◌∙◌, subst, arith}
use Rattle.std.proofs.lemmas.Bool.{and_parts}
use Rattle.std.proofs.lemmas.List.{length-map, get_or-map}
use Rattle.canonical_abi.specs.Types.{nth_field}
use Rattle.tables.specs.Closed.{closed_type}
use Rattle.tables.specs.declared.tables.Parameter.{Parameter}
use Rattle.tables.specs.declared.tables.Resolve.{Resolve}
use Rattle.tables.specs.declared.tables.ValType.{ValType}
use Rattle.values.specs.Members.{fields_of_types, AreAllInside}
use Rattle.values.specs.Types.{IsInside}
use Rattle.values.proofs.FieldsFromAPlace.{nth-type}

inside-at : (r : Resolve) (types : List ValType) (i : ℕ) (e : ValType) → i < length types → AreAllInside r types → IsInside r (get_or types i e)
inside-at r [] i e t h = absurd (omega arith)
inside-at r (y ∷ types) zero e t h = (and_parts _ _ h).0
inside-at r (y ∷ types) (suc i) e t h = inside-at r types i e (omega arith) (and_parts _ _ h).1

-- the type of the parameter at a place
pub parameter-at : (params : List Parameter) (i : ℕ) (p : Parameter) → i < length params → p ≡ get_or params i p → p.ty ≡ get_or (map (λ p. p.ty) params) i p.ty
parameter-at params i p t is = ap (λ q. q.ty) is ∙ sym (get_or-map (λ p. p.ty) params i p p.ty t)

pub parameter-inside : (r : Resolve) (params : List Parameter) (i : ℕ) (p : Parameter) → i < length params → p ≡ get_or params i p → AreAllInside r (map (λ p. p.ty) params) → IsInside r p.ty
parameter-inside r params i p t is all =
    let q : ValType → Type 0 = λ v. IsInside r v in
    subst q (sym (parameter-at params i p t is)) (inside-at r (map (λ p. p.ty) params) i p.ty (omega (arith, t, length-map params (λ p. p.ty))) all)

-- it is the field at that place of their record
pub parameter-field : (r : Resolve) (params : List Parameter) (i : ℕ) (p : Parameter) → i < length params → p ≡ get_or params i p
    → nth_field (fields_of_types r (map (λ p. p.ty) params)) i ≡ Some (closed_type r p.ty)
parameter-field r params i p t is =
    nth-type r (map (λ p. p.ty) params) i p.ty (omega (arith, t, length-map params (λ p. p.ty))) ∙ ap (λ v. Some (closed_type r v)) (sym (parameter-at params i p t is))
