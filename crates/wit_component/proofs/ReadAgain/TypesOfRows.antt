-- Types that are written over the type index of each row, and read over the row of each type index, are themselves again.
use Rattle.std.proofs.Common.{◌≡◌, ℕ, Bool, true, false, List, [], ◌∷◌, ◌++◌, map, flat_map, slice_index, Option, None, Some, refl, ap, sym, ◌∙◌}
use Rattle.std.specs.List.{list_all}
use Rattle.std.specs.Option.{option_map}
use Rattle.std.proofs.lemmas.List.Folds.{list_all-append}
use Rattle.ctype_format.specs.Raw.{Defined, Prim, Record, Variant, ListOf, Tuple, FlagSet, Enumeration, OptionOf, ResultOf}
use Rattle.tables.specs.declared.tables.Primitive.{Primitive}
use Rattle.tables.specs.declared.tables.Primitive.TheVariants as primitive
use Rattle.tables.specs.declared.tables.TypeId.{TypeId}
use Rattle.tables.specs.declared.tables.ValType.{ValType}
use Rattle.tables.specs.declared.tables.ValType.TheVariants as val
use Rattle.tables.specs.declared.tables.TypeDefKind.{TypeDefKind}
use Rattle.tables.specs.declared.tables.TypeDefKind.TheVariants as kind
use Rattle.tables.specs.declared.tables.Parameter.{Parameter}
use Rattle.tables.specs.declared.tables.Field.{Field}
use Rattle.tables.specs.declared.tables.Case.{Case}
use Rattle.component_reader.specs.Types.{both_found, all_found, primitive_type, row_at, val_type, optional_type, field_named, field_read, parameter_named, parameter_read, case_named, case_read, kind_defined}
use Rattle.package_form.specs.References.{type_references, references_if, field_references, case_references, parameter_references, kind_references}
use Rattle.wit_component.specs.Rows.{raw_primitive, valtype_of, field_of, parameter_of, case_of, defined_of}
use Rattle.tables.proofs.ClosedTypesRowByRow.{split}

primitive-reread : (p : Primitive) → primitive_type (raw_primitive p) ≡ val.Primitive p
primitive-reread primitive.Bool = refl
primitive-reread primitive.S8 = refl
primitive-reread primitive.U8 = refl
primitive-reread primitive.S16 = refl
primitive-reread primitive.U16 = refl
primitive-reread primitive.S32 = refl
primitive-reread primitive.U32 = refl
primitive-reread primitive.S64 = refl
primitive-reread primitive.U64 = refl
primitive-reread primitive.Char = refl

-- the kind has a definition of its own
abbrev pub is_defined : TypeDefKind → Bool
is_defined (kind.Use t) = false
is_defined (kind.Alias (val.Id t)) = false
is_defined _ = true

-- each of these types has the property, by which it is found again
module _ (written : List ℕ) (read : List (Option TypeId)) (p : TypeId → Bool) (known : (t : TypeId) → p t ≡ true → row_at read (slice_index written t.0) ≡ Some t) where
  val-reread : (v : ValType) → list_all p (type_references v) ≡ true → val_type read (valtype_of written v) ≡ Some v
  val-reread (val.Primitive q) h = ap (λ (v : ValType). Some v) (primitive-reread q)
  val-reread val.String h = refl
  val-reread (val.Id t) h = ap (option_map (λ (u : TypeId). val.Id u)) (known t (split (p t) true h).0)

  pub if-reread : (v : Option ValType) → list_all p (references_if v) ≡ true → optional_type read (option_map (valtype_of written) v) ≡ Some v
  if-reread None h = refl
  if-reread (Some v) h = ap (option_map (λ (w : ValType). Some w)) (val-reread v h)

  parted : (ts us : List TypeId) → list_all p (ts ++ us) ≡ true → (list_all p ts ≡ true) × (list_all p us ≡ true)
  parted ts us h = split (list_all p ts) (list_all p us) (sym (list_all-append p ts us) ∙ h)

  all-reread : {A B : Type 0} (f : A → B) (g : B → Option A) (refs : A → List TypeId) → ((x : A) → list_all p (refs x) ≡ true → g (f x) ≡ Some x)
      → (xs : List A) → list_all p (flat_map refs xs) ≡ true → all_found g (map f xs) ≡ Some xs
  all-reread f g refs e [] h = refl
  all-reread {A} f g refs e (x ∷ xs) h =
      let s = parted (refs x) (flat_map refs xs) h in
      ap (λ (o : Option A). both_found (λ y ys. y ∷ ys) o (all_found g (map f xs))) (e x s.0)
      ∙ ap (λ (o : Option (List A)). both_found (λ y ys. y ∷ ys) (Some x) o) (all-reread f g refs e xs s.1)

  field-reread : (f : Field) → list_all p (field_references f) ≡ true → field_read read (field_of written f) ≡ Some f
  field-reread f h = ap (option_map (field_named f.name)) (val-reread f.ty h)

  parameter-reread : (f : Parameter) → list_all p (parameter_references f) ≡ true → parameter_read read (parameter_of written f) ≡ Some f
  parameter-reread f h = ap (option_map (parameter_named f.name)) (val-reread f.ty h)

  case-reread : (c : Case) → list_all p (case_references c) ≡ true → case_read read (case_of written c) ≡ Some c
  case-reread c h = ap (option_map (case_named c.name)) (if-reread c.ty h)

  pub parameters-reread : (ps : List Parameter) → list_all p (flat_map parameter_references ps) ≡ true → all_found (parameter_read read) (map (parameter_of written) ps) ≡ Some ps
  parameters-reread ps h = all-reread (parameter_of written) (parameter_read read) parameter_references parameter-reread ps h

  result-reread : (v w : Option ValType) → list_all p (references_if v ++ references_if w) ≡ true
      → both_found (λ (x y : Option ValType). kind.Result x y) (optional_type read (option_map (valtype_of written) v)) (optional_type read (option_map (valtype_of written) w)) ≡ Some (kind.Result v w)
  result-reread v w h =
      let s = parted (references_if v) (references_if w) h in
      ap (λ (o : Option (Option ValType)). both_found (λ (x y : Option ValType). kind.Result x y) o (optional_type read (option_map (valtype_of written) w))) (if-reread v s.0)
      ∙ ap (λ (o : Option (Option ValType)). both_found (λ (x y : Option ValType). kind.Result x y) (Some v) o) (if-reread w s.1)

  -- a kind's definition, which is that kind
  pub kind-reread : (k : TypeDefKind) → is_defined k ≡ true → list_all p (kind_references k) ≡ true
      → (d : Defined) × (defined_of written k ≡ Some d) × (kind_defined read d ≡ Some k)
  kind-reread (kind.Use t) is h = absurd (cc)
  kind-reread (kind.Alias (val.Id t)) is h = absurd (cc)
  kind-reread (kind.Alias (val.Primitive q)) is h = (Prim (raw_primitive q), refl, ap (λ (v : ValType). Some (kind.Alias v)) (primitive-reread q))
  kind-reread (kind.Alias val.String) is h = (_, refl, refl)
  kind-reread (kind.List v) is h = (ListOf (valtype_of written v), refl, ap (option_map (λ (w : ValType). kind.List w)) (val-reread v h))
  kind-reread (kind.Option v) is h = (OptionOf (valtype_of written v), refl, ap (option_map (λ (w : ValType). kind.Option w)) (val-reread v h))
  kind-reread (kind.Result v w) is h = (ResultOf (option_map (valtype_of written) v) (option_map (valtype_of written) w), refl, result-reread v w h)
  kind-reread (kind.Tuple vs) is h =
      (Tuple (map (valtype_of written) vs), refl, ap (option_map (λ (ws : List ValType). kind.Tuple ws)) (all-reread (valtype_of written) (val_type read) type_references val-reread vs h))
  kind-reread (kind.Record fs) is h =
      (Record (map (field_of written) fs), refl, ap (option_map (λ (gs : List Field). kind.Record gs)) (all-reread (field_of written) (field_read read) field_references field-reread fs h))
  kind-reread (kind.Variant cs) is h =
      (Variant (map (case_of written) cs), refl, ap (option_map (λ (gs : List Case). kind.Variant gs)) (all-reread (case_of written) (case_read read) case_references case-reread cs h))
  kind-reread (kind.Enum ns) is h = (Enumeration ns, refl, refl)
  kind-reread (kind.Flags ns) is h = (FlagSet ns, refl, refl)
