-- Without their labels, the labelled types of a table are its closed types.
use Rattle.std.proofs.Common.{◌≡◌, ℕ, zero, suc, List, [], ◌∷◌, ◌++◌, map, get_or, Option, Some, None, refl, ap, ◌∙◌}
use Rattle.std.specs.Option.{option_map}
use Rattle.std.proofs.lemmas.List.{map-append}
use Rattle.canonical_abi.specs.Types.{ClosedType, string_type, record_type, variant_type, fields_of, cases_of, Cases, plain_case}
use Rattle.canonical_abi.specs.Labelled.{Label, LabelledType, labelled_string, closed, closed_members, closed_fields, closed_cases, closed_payload, plain_cases}
use Rattle.tables.specs.Closed.{closed_val, closed_kind, closed_definition, closed_rows}
use Rattle.tables.specs.declared.tables.ValType.{ValType}
use Rattle.tables.specs.declared.tables.ValType.TheVariants as val
use Rattle.tables.specs.declared.tables.TypeDefKind.{TypeDefKind}
use Rattle.tables.specs.declared.tables.TypeDefKind.TheVariants as kind
use Rattle.tables.specs.declared.tables.Field.{Field}
use Rattle.tables.specs.declared.tables.Case.{Case}
use Rattle.tables.specs.declared.tables.Parameter.{Parameter}
use Rattle.tables.specs.declared.tables.Definition.{Definition}
use Rattle.tables.specs.declared.tables.Definition.TheVariants as row
use Rattle.tables.specs.declared.tables.Resolve.{Resolve}
use Rattle.tables.specs.Labelled.{labelled_val, labelled_payload, labelled_members, labelled_fields, labelled_cases, labelled_params, labelled_kind, labelled_definition, labelled_rows, ErasesToClosed}

get-erased : (ls : List LabelledType) (i : ℕ) → closed (get_or ls i labelled_string) ≡ get_or (map closed ls) i string_type
get-erased [] i = refl
get-erased (l ∷ ls) zero = refl
get-erased (l ∷ ls) (suc i) = get-erased ls i

val-erased : (ls : List LabelledType) (v : ValType) → closed (labelled_val ls v) ≡ closed_val (map closed ls) v
val-erased ls (val.Primitive p) = refl
val-erased ls val.String = refl
val-erased ls (val.Id t) = get-erased ls t.0

payload-erased : (ls : List LabelledType) (v : Option ValType) (cs : Cases) (os : List (Option ClosedType)) → cs ≡ cases_of os
    → closed_payload (labelled_payload ls v) cs ≡ cases_of (option_map (closed_val (map closed ls)) v ∷ os)
payload-erased ls None cs os e = ap plain_case e
payload-erased ls (Some v) cs os e = rw (val-erased ls v, e) refl

members-erased : (ls : List LabelledType) (vs : List ValType) → closed_members (labelled_members ls vs) ≡ fields_of (map (closed_val (map closed ls)) vs)
members-erased ls [] = refl
members-erased ls (v ∷ vs) = rw (val-erased ls v, members-erased ls vs) refl

fields-erased : (ls : List LabelledType) (fs : List Field) → closed_fields (labelled_fields ls fs) ≡ fields_of (map (λ f. closed_val (map closed ls) f.ty) fs)
fields-erased ls [] = refl
fields-erased ls (f ∷ fs) = rw (val-erased ls f.ty, fields-erased ls fs) refl

params-erased : (ls : List LabelledType) (fs : List Parameter) → closed_fields (labelled_params ls fs) ≡ fields_of (map (λ f. closed_val (map closed ls) f.ty) fs)
params-erased ls [] = refl
params-erased ls (f ∷ fs) = rw (val-erased ls f.ty, params-erased ls fs) refl

cases-erased : (ls : List LabelledType) (cs : List Case) → closed_cases (labelled_cases ls cs) ≡ cases_of (map (λ c. option_map (closed_val (map closed ls)) c.ty) cs)
cases-erased ls [] = refl
cases-erased ls (c ∷ cs) = payload-erased ls c.ty _ _ (cases-erased ls cs)

names-erased : (ls : List Label) → plain_cases ls ≡ cases_of (map (λ n. None) ls)
names-erased [] = refl
names-erased (l ∷ ls) = ap plain_case (names-erased ls)

kind-erased : (ls : List LabelledType) (k : TypeDefKind) → closed (labelled_kind ls k) ≡ closed_kind (map closed ls) k
kind-erased ls (kind.Use t) = val-erased ls (val.Id t)
kind-erased ls (kind.Alias v) = val-erased ls v
kind-erased ls (kind.List v) = rw (val-erased ls v) refl
kind-erased ls (kind.Option v) = rw (val-erased ls v) refl
kind-erased ls (kind.Result ok error) = ap variant_type (payload-erased ls ok _ _ (payload-erased ls error _ _ refl))
kind-erased ls (kind.Tuple vs) = ap record_type (members-erased ls vs)
kind-erased ls (kind.Record fs) = ap record_type (fields-erased ls fs)
kind-erased ls (kind.Variant cs) = ap variant_type (cases-erased ls cs)
kind-erased ls (kind.Enum names) = ap variant_type (names-erased names)
kind-erased ls (kind.Flags names) = refl

definition-erased : (ls : List LabelledType) (d : Definition) → closed (labelled_definition ls d) ≡ closed_definition (map closed ls) d
definition-erased ls (row.Type d) = kind-erased ls d.kind
definition-erased ls (row.Function f) = ap record_type (params-erased ls f.params)

rows-erased : (ls : List LabelledType) (ds : List Definition) → map closed (labelled_rows ls ds) ≡ closed_rows (map closed ls) ds
rows-erased ls [] = refl
rows-erased ls (d ∷ ds) =
    let one : map closed (ls ++ labelled_definition ls d ∷ []) ≡ map closed ls ++ closed_definition (map closed ls) d ∷ [] =
    map-append closed ls (labelled_definition ls d ∷ []) ∙ ap (λ t. map closed ls ++ t ∷ []) (definition-erased ls d) in
    rows-erased (ls ++ labelled_definition ls d ∷ []) ds ∙ ap (λ ts. closed_rows ts ds) one

pub erases : (r : Resolve) → ErasesToClosed r
erases r = λ v. val-erased (labelled_rows [] r.definitions) v ∙ ap (λ ts. closed_val ts v) (rows-erased [] r.definitions)
