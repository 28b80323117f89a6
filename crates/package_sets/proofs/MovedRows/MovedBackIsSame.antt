-- What is put into another table, and from there back: what it was.
use Rattle.std.proofs.Common.{◌≡◌, ℕ, Bool, true, List, [], ◌∷◌, map, Option, None, Some, refl, ap, sym, ◌∙◌, arith}
use Rattle.std.specs.Prelude.{Contains}
use Rattle.std.specs.Option.{option_map}
use Rattle.std.specs.List.{list_all}
use Rattle.std.proofs.lemmas.List.Elements.{Contains-append_right}
use Rattle.package_form.proofs.AllAndContains.{contains-unmap}
use Rattle.tables.specs.Tables.{option_all, kind_all, definition_all}
use Rattle.tables.proofs.ClosedTypesRowByRow.{split}
use Rattle.tables.specs.declared.tables.TypeId.{TypeId}
use Rattle.tables.specs.declared.tables.FunctionId.{FunctionId}
use Rattle.tables.specs.declared.tables.ValType.{ValType}
use Rattle.tables.specs.declared.tables.ValType.TheVariants as val
use Rattle.tables.specs.declared.tables.TypeDefKind.{TypeDefKind}
use Rattle.tables.specs.declared.tables.TypeDefKind.TheVariants as kind
use Rattle.tables.specs.declared.tables.TypeName.{TypeName}
use Rattle.tables.specs.declared.tables.TypeDef.{TypeDef}
use Rattle.tables.specs.declared.tables.Parameter.{Parameter}
use Rattle.tables.specs.declared.tables.Owner.{Owner}
use Rattle.tables.specs.declared.tables.Owner.TheVariants as owner
use Rattle.tables.specs.declared.tables.Function.{Function}
use Rattle.tables.specs.declared.tables.Definition.{Definition}
use Rattle.tables.specs.declared.tables.Definition.TheVariants as row
use Rattle.tables.specs.Names.{owner_of}
use Rattle.set_rows.specs.Moved.{Renaming, put_id, put_function_id, put_val, put_field, put_case, put_parameter, put_kind, put_name, put_type, put_owner, put_function, put_row, has_type, has_function, put_types, put_functions}
use Rattle.package_sets.proofs.KeptParts.KeptIsPackageByPackage.{filter-all, all-from}

-- an owner that comes back
abbrev pub IsBack : Renaming → Renaming → Option Owner → Type 0
IsBack f g None = Unit {0}
IsBack f g (Some (owner.Interface i)) = g.interfaces (f.interfaces i.0) ≡ i.0
IsBack f g (Some (owner.World w)) = g.worlds (f.worlds w.0) ≡ w.0

module _ (f g : Renaming) (within : ValType → Bool) (each : (t : ℕ) → within (val.Id (record { 0 = t })) ≡ true → g.rows (f.rows t) ≡ t) where
  val-back : (v : ValType) → within v ≡ true → put_val g (put_val f v) ≡ v
  val-back (val.Primitive p) h = refl
  val-back val.String h = refl
  val-back (val.Id t) h = ap (λ (n : ℕ). val.Id (record { 0 = n })) (each t.0 h)

  option-back : (v : Option ValType) → option_all within v ≡ true → option_map (put_val g) (option_map (put_val f) v) ≡ v
  option-back None h = refl
  option-back (Some v) h = ap Some (val-back v h)

  list-back : {A : Type 0} (to back : A → A) (all : A → Bool) → ((x : A) → all x ≡ true → back (to x) ≡ x) → (xs : List A) → list_all all xs ≡ true → map back (map to xs) ≡ xs
  list-back to back all one [] h = refl
  list-back to back all one (x ∷ xs) h = let p = split (all x) (list_all all xs) h in let e = one x p.0 in let r = list-back to back all one xs p.1 in cc

  kind-back : (k : TypeDefKind) → kind_all within k ≡ true → put_kind g (put_kind f k) ≡ k
  kind-back (kind.Use t) h = ap (λ (n : ℕ). kind.Use (record { 0 = n })) (each t.0 h)
  kind-back (kind.Alias v) h = ap kind.Alias (val-back v h)
  kind-back (kind.List v) h = ap kind.List (val-back v h)
  kind-back (kind.Option v) h = ap kind.Option (val-back v h)
  kind-back (kind.Result ok error) h =
      let p = split (option_all within ok) (option_all within error) h in
      let x = option-back ok p.0 in
      let y = option-back error p.1 in
      cc
  kind-back (kind.Tuple vs) h = ap kind.Tuple (list-back (put_val f) (put_val g) within val-back vs h)
  kind-back (kind.Record fs) h = ap kind.Record (list-back (put_field f) (put_field g) (λ x. within x.ty) (λ x e. ap (λ (v : ValType). record { name = x.name; ty = v }) (val-back x.ty e)) fs h)
  kind-back (kind.Variant cs) h =
      ap kind.Variant (list-back (put_case f) (put_case g) (λ x. option_all within x.ty) (λ x e. ap (λ (v : Option ValType). record { name = x.name; ty = v }) (option-back x.ty e)) cs h)
  kind-back (kind.Enum ns) h = refl
  kind-back (kind.Flags ns) h = refl

  name-back : (n : Option TypeName) → IsBack f g (option_map (λ x. owner.Interface x.interface) n) → option_map (put_name g) (option_map (put_name f) n) ≡ n
  name-back None h = refl
  name-back (Some n) h = ap (λ (i : ℕ). Some (record { interface = record { 0 = i }; name = n.name })) h

  owner-back : (o : Owner) → IsBack f g (Some o) → put_owner g (put_owner f o) ≡ o
  owner-back (owner.Interface i) h = ap (λ (n : ℕ). owner.Interface (record { 0 = n })) h
  owner-back (owner.World w) h = ap (λ (n : ℕ). owner.World (record { 0 = n })) h

  type-back : (d : TypeDef) → IsBack f g (owner_of (row.Type d)) → kind_all within d.kind ≡ true → put_type g (put_type f d) ≡ d
  type-back d o h =
      ap (λ (n : Option TypeName). record { name = n; kind = put_kind g (put_kind f d.kind) }) (name-back d.name o)
      ∙ ap (λ (k : TypeDefKind). record { name = d.name; kind = k }) (kind-back d.kind h)

  function-back : (d : Function) → IsBack f g (Some d.owner) → definition_all within (row.Function d) ≡ true → put_function g (put_function f d) ≡ d
  function-back d o h =
      let p = split (list_all (λ x. within x.ty) d.params) (option_all within d.result) h in
      let params : map (put_parameter g) (map (put_parameter f) d.params) ≡ d.params =
      list-back (put_parameter f) (put_parameter g) (λ x. within x.ty) (λ x e. ap (λ (v : ValType). record { name = x.name; ty = v }) (val-back x.ty e)) d.params p.0 in
      ap (λ (x : Owner). record { owner = x; name = d.name; params = map (put_parameter g) (map (put_parameter f) d.params); result = option_map (put_val g) (option_map (put_val f) d.result) }) (owner-back d.owner o)
      ∙ (ap (λ (x : List Parameter). record { owner = d.owner; name = d.name; params = x; result = option_map (put_val g) (option_map (put_val f) d.result) }) params
      ∙ ap (λ (x : Option ValType). record { owner = d.owner; name = d.name; params = d.params; result = x }) (option-back d.result p.1))

  pub row-back : (d : Definition) → IsBack f g (owner_of d) → definition_all within d ≡ true → put_row g (put_row f d) ≡ d
  row-back (row.Type d) o h = ap row.Type (type-back d o h)
  row-back (row.Function d) o h = ap row.Function (function-back d o h)

-- ids that are all kept, in both tables
module _ (f g : Renaming) where
  abbrev pub ComesBack : ℕ → Type 0
  ComesBack t = (f.keeps t ≡ true) × (g.keeps (f.rows t) ≡ true) × (g.rows (f.rows t) ≡ t)

  pub types-back : (ts : List TypeId) → ((t : TypeId) → Contains ts t → ComesBack t.0) → put_types g (put_types f ts) ≡ ts
  types-back ts h =
      ap (λ (xs : List TypeId). put_types g (map (put_id f) xs)) (filter-all (has_type f) ts (all-from (has_type f) ts (λ t c. (h t c).0)))
      ∙ (ap (map (put_id g)) (filter-all (has_type g) (map (put_id f) ts) (all-from (has_type g) (map (put_id f) ts) (λ t c. kept t c))) ∙ ids ts h)
    where
      kept : (t : TypeId) → Contains (map (put_id f) ts) t → has_type g t ≡ true
      kept t c = let u = contains-unmap (put_id f) ts t c in ap (λ (x : TypeId). g.keeps x.0) (sym u.2) ∙ (h u.0 u.1).1

      ids : (ts : List TypeId) → ((t : TypeId) → Contains ts t → ComesBack t.0) → map (put_id g) (map (put_id f) ts) ≡ ts
      ids [] h = refl
      ids (t ∷ ts) h =
          ap (λ (n : ℕ). record { 0 = n } ∷ map (put_id g) (map (put_id f) ts)) (h t (0, omega arith, refl)).2
          ∙ ap (λ (xs : List TypeId). t ∷ xs) (ids ts (λ x c. h x (Contains-append_right (t ∷ []) ts x c)))

  pub functions-back : (ts : List FunctionId) → ((t : FunctionId) → Contains ts t → ComesBack t.0) → put_functions g (put_functions f ts) ≡ ts
  functions-back ts h =
      ap (λ (xs : List FunctionId). put_functions g (map (put_function_id f) xs)) (filter-all (has_function f) ts (all-from (has_function f) ts (λ t c. (h t c).0)))
      ∙ (ap (map (put_function_id g)) (filter-all (has_function g) (map (put_function_id f) ts) (all-from (has_function g) (map (put_function_id f) ts) (λ t c. kept t c))) ∙ ids ts h)
    where
      kept : (t : FunctionId) → Contains (map (put_function_id f) ts) t → has_function g t ≡ true
      kept t c = let u = contains-unmap (put_function_id f) ts t c in ap (λ (x : FunctionId). g.keeps x.0) (sym u.2) ∙ (h u.0 u.1).1

      ids : (ts : List FunctionId) → ((t : FunctionId) → Contains ts t → ComesBack t.0) → map (put_function_id g) (map (put_function_id f) ts) ≡ ts
      ids [] h = refl
      ids (t ∷ ts) h =
          ap (λ (n : ℕ). record { 0 = n } ∷ map (put_function_id g) (map (put_function_id f) ts)) (h t (0, omega arith, refl)).2
          ∙ ap (λ (xs : List FunctionId). t ∷ xs) (ids ts (λ x c. h x (Contains-append_right (t ∷ []) ts x c)))
