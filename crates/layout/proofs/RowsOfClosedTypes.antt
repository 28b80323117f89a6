-- The rows that are made of earlier rows are those of the closed types.
use Rattle.std.proofs.Common.{◌≡◌, ℕ, zero, suc, ◌+◌, max, List, [], ◌∷◌, ◌++◌, Option, None, Some, length, map, fold, get_or, refl, ap, sym, ◌∙◌, arith}
use Rattle.std.proofs.lemmas.List.{append_assoc, append-nil}
use Rattle.std.specs.Option.{option_map}
use Rattle.canonical_abi.specs.Types.{ClosedType, string_type, list_type, record_type, variant_type, fields_of, cases_of, case_count, depth, fields_depth, cases_depth, result_fields}
use Rattle.canonical_abi.specs.Layout.{Extent, extent_of, field_extents, payload_extents, flat_kinds, field_kinds, payload_kinds, join}
use Rattle.canonical_abi.specs.declared.flat.CoreKind.{CoreKind}
use Rattle.canonical_abi.specs.declared.flat.CoreKind.TheVariants.{I32}
use Rattle.tables.specs.Closed.{closed_val, closed_kind, closed_definition}
use Rattle.tables.specs.declared.tables.ValType.{ValType}
use Rattle.tables.specs.declared.tables.ValType.TheVariants as val
use Rattle.tables.specs.declared.tables.TypeDefKind.{TypeDefKind}
use Rattle.tables.specs.declared.tables.TypeDefKind.TheVariants as kind
use Rattle.tables.specs.declared.tables.Definition.{Definition}
use Rattle.tables.specs.declared.tables.Definition.TheVariants as row
use Rattle.layout.specs.Kinds.{kinds_of, append_kinds, join_kinds}
use Rattle.layout.specs.Layout.{row_of, capped}
use Rattle.layout.specs.Parts.{payloads}
use Rattle.layout.specs.Rows.{row_in, rows_at, choices_at, extents, deepest, record_row, variant_row, list_row, kind_row, definition_row, result_in}
use Rattle.layout.specs.declared.rows.Row.{Row}
use Rattle.layout.specs.declared.kinds.Kinds.{Kinds}
use Rattle.layout.proofs.JoinsOfFlatKinds.{join-nil, join-assoc}
use Rattle.layout.proofs.FlatKindsCutAtSixteen.{append_kinds-of, join_kinds-of}

pub get_or-rows : (ts : List ClosedType) (i : ℕ) → get_or (map row_of ts) i (row_of string_type) ≡ row_of (get_or ts i string_type)
get_or-rows [] i = refl
get_or-rows (t ∷ ts) zero = refl
get_or-rows (t ∷ ts) (suc i) = get_or-rows ts i

pub row_in-of : (ts : List ClosedType) (v : ValType) → row_in (map row_of ts) v ≡ row_of (closed_val ts v)
row_in-of ts (val.Primitive p) = refl
row_in-of ts val.String = refl
row_in-of ts (val.Id t) = get_or-rows ts t.0

choice-of : (ts : List ClosedType) (c : Option ValType) → option_map (row_in (map row_of ts)) c ≡ option_map row_of (option_map (closed_val ts) c)
choice-of ts None = refl
choice-of ts (Some v) = ap (λ (r : Row). Some r) (row_in-of ts v)

module _ {A : Type 0} (ts : List ClosedType) where
  pub rows_at-of : (ty : A → ValType) (xs : List A) → rows_at (map row_of ts) ty xs ≡ map row_of (map (λ x. closed_val ts (ty x)) xs)
  rows_at-of ty [] = refl
  rows_at-of ty (x ∷ xs) = rw (row_in-of ts (ty x), rows_at-of ty xs) refl

  choices_at-of : (payload : A → Option ValType) (xs : List A)
      → choices_at (map row_of ts) payload xs ≡ map (option_map row_of) (map (λ x. option_map (closed_val ts) (payload x)) xs)
  choices_at-of payload [] = refl
  choices_at-of payload (x ∷ xs) = rw (choice-of ts (payload x), choices_at-of payload xs) refl

-- ---- records

extents-of : (cs : List ClosedType) → extents (map row_of cs) ≡ field_extents (fields_of cs)
extents-of [] = refl
extents-of (c ∷ cs) = ap (λ (xs : List Extent). extent_of c ∷ xs) (extents-of cs)

pub kinds-of : (ks : List CoreKind) (cs : List ClosedType)
    → fold (λ ks r. append_kinds ks r.kinds) (kinds_of ks) (map row_of cs) ≡ kinds_of (ks ++ field_kinds (fields_of cs))
kinds-of ks [] = ap kinds_of (sym (append-nil ks))
kinds-of ks (c ∷ cs) =
    ap (λ (k : Kinds). fold (λ ks r. append_kinds ks r.kinds) k (map row_of cs)) (append_kinds-of ks (flat_kinds c))
    ∙ kinds-of (ks ++ flat_kinds c) cs ∙ ap kinds_of (append_assoc ks (flat_kinds c) (field_kinds (fields_of cs)))

deepest-of : (n : ℕ) (cs : List ClosedType) → fold (λ n r. max n r.depth) n (map row_of cs) ≡ max n (capped (fields_depth (fields_of cs)))
deepest-of n [] = omega arith
deepest-of n (c ∷ cs) = deepest-of (max n (capped (depth c))) cs ∙ omega arith

pub record_row-of : (cs : List ClosedType) → record_row (map row_of cs) ≡ row_of (record_type (fields_of cs))
record_row-of cs =
    let deep : capped (deepest (map row_of cs) + 1) ≡ capped (suc (fields_depth (fields_of cs))) = omega (arith, deepest-of 0 cs) in
    rw (extents-of cs, kinds-of [] cs, deep) refl

-- ---- variants

payload_extents-of : (os : List (Option ClosedType)) → extents (payloads (map (option_map row_of) os)) ≡ payload_extents (cases_of os)
payload_extents-of [] = refl
payload_extents-of (None ∷ os) = payload_extents-of os
payload_extents-of (Some t ∷ os) = ap (λ (xs : List Extent). extent_of t ∷ xs) (payload_extents-of os)

cases-of : (os : List (Option ClosedType)) → length (map (option_map row_of) os) ≡ case_count (cases_of os)
cases-of [] = refl
cases-of (None ∷ os) = ap suc (cases-of os)
cases-of (Some t ∷ os) = ap suc (cases-of os)

payload_kinds-of : (ks : List CoreKind) (os : List (Option ClosedType))
    → fold (λ ks r. join_kinds ks r.kinds) (kinds_of ks) (payloads (map (option_map row_of) os)) ≡ kinds_of (join ks (payload_kinds (cases_of os)))
payload_kinds-of ks [] = ap kinds_of (sym (join-nil ks))
payload_kinds-of ks (None ∷ os) = payload_kinds-of ks os
payload_kinds-of ks (Some t ∷ os) =
    ap (λ (k : Kinds). fold (λ ks r. join_kinds ks r.kinds) k (payloads (map (option_map row_of) os))) (join_kinds-of ks (flat_kinds t))
    ∙ payload_kinds-of (join ks (flat_kinds t)) os ∙ ap kinds_of (join-assoc ks (flat_kinds t) (payload_kinds (cases_of os)))

payload_depth-of : (n : ℕ) (os : List (Option ClosedType)) → fold (λ n r. max n r.depth) n (payloads (map (option_map row_of) os)) ≡ max n (capped (cases_depth (cases_of os)))
payload_depth-of n [] = omega arith
payload_depth-of n (None ∷ os) = payload_depth-of n os
payload_depth-of n (Some t ∷ os) = payload_depth-of (max n (capped (depth t))) os ∙ omega arith

variant_row-of : (os : List (Option ClosedType)) → variant_row (map (option_map row_of) os) ≡ row_of (variant_type (cases_of os))
variant_row-of os =
    let deep : capped (deepest (payloads (map (option_map row_of) os)) + 1) ≡ capped (suc (cases_depth (cases_of os))) = omega (arith, payload_depth-of 0 os) in
    rw (payload_extents-of os, cases-of os, payload_kinds-of [] os, append_kinds-of (I32 ∷ []) (payload_kinds (cases_of os)), deep) refl

-- ---- definitions

list_row-of : (t : ClosedType) → list_row (row_of t) ≡ row_of (list_type t)
list_row-of t = let deep : capped (capped (depth t) + 1) ≡ capped (suc (depth t)) = omega arith in rw deep refl

kind_row-of : (ts : List ClosedType) (k : TypeDefKind) → kind_row (map row_of ts) k ≡ row_of (closed_kind ts k)
kind_row-of ts (kind.Use t) = row_in-of ts (val.Id t)
kind_row-of ts (kind.Alias v) = row_in-of ts v
kind_row-of ts (kind.List v) = ap list_row (row_in-of ts v) ∙ list_row-of (closed_val ts v)
kind_row-of ts (kind.Option v) = ap variant_row (choices_at-of ts (λ c. c) (None ∷ Some v ∷ [])) ∙ variant_row-of (None ∷ Some (closed_val ts v) ∷ [])
kind_row-of ts (kind.Result ok error) = ap variant_row (choices_at-of ts (λ c. c) (ok ∷ error ∷ [])) ∙ variant_row-of (option_map (closed_val ts) ok ∷ option_map (closed_val ts) error ∷ [])
kind_row-of ts (kind.Tuple vs) = ap record_row (rows_at-of ts (λ v. v) vs) ∙ record_row-of (map (λ v. closed_val ts v) vs)
kind_row-of ts (kind.Record fs) = ap record_row (rows_at-of ts (λ f. f.ty) fs) ∙ record_row-of (map (λ f. closed_val ts f.ty) fs)
kind_row-of ts (kind.Variant cs) = ap variant_row (choices_at-of ts (λ c. c.ty) cs) ∙ variant_row-of (map (λ c. option_map (closed_val ts) c.ty) cs)
kind_row-of ts (kind.Enum names) = ap variant_row (choices_at-of ts (λ n. None) names) ∙ variant_row-of (map (λ n. None) names)
kind_row-of ts (kind.Flags names) = refl

pub definition_row-of : (ts : List ClosedType) (d : Definition) → definition_row (map row_of ts) d ≡ row_of (closed_definition ts d)
definition_row-of ts (row.Type d) = kind_row-of ts d.kind
definition_row-of ts (row.Function f) = ap record_row (rows_at-of ts (λ p. p.ty) f.params) ∙ record_row-of (map (λ p. closed_val ts p.ty) f.params)

-- ---- results

result-of : (ts : List ClosedType) (v : Option ValType) → result_in (map row_of ts) v ≡ kinds_of (field_kinds (result_fields (option_map (closed_val ts) v)))
result-of ts None = refl
result-of ts (Some v) = ap (λ (r : Row). r.kinds) (row_in-of ts v) ∙ ap kinds_of (sym (append-nil (flat_kinds (closed_val ts v))))
