-- What the rows of an interface refer to, seen from its definitions.
use Rattle.std.proofs.Common.{◌≡◌, ℕ, List, [], ◌∷◌, ◌++◌, flat_map, map, Option, None, Some, refl}
use Rattle.std.specs.Prelude.{slice_index_or}
use Rattle.std.specs.Option.{option_map}
use Rattle.wit_tokens.specs.Syntax.{Ty, Prim, Named, ListOf, OptionOf, TupleOf, ResultOf, Tys, none, more, MaybeTy, Absent, Present, TypeBody as Body, Alias, Record, Variant, Enumeration, FlagSet, Member, CaseOf}
use Rattle.wit_tokens.specs.declared.wit_syntax.ast.Primitive.{Primitive as Keyword}
use Rattle.wit_tokens.specs.declared.wit_syntax.ast.Primitive.TheVariants as keyword
use Rattle.tables.specs.Package.{Tree, PrimTree, TextTree, Reference, ListTree, RecordTree, VariantTree, FlagsTree, no_fields, field, Choices, no_choices, empty, holding, read_val, read_choice, read_tuple, read_fields, read_params, read_cases, read_kind, read_enum, TreeFields}
use Rattle.tables.specs.declared.tables.TypeId.{TypeId}
use Rattle.tables.specs.declared.tables.ValType.{ValType}
use Rattle.tables.specs.declared.tables.ValType.TheVariants as val
use Rattle.tables.specs.declared.tables.TypeDefKind.{TypeDefKind}
use Rattle.tables.specs.declared.tables.TypeDefKind.TheVariants as kind
use Rattle.tables.specs.declared.tables.Field.{Field}
use Rattle.tables.specs.declared.tables.Case.{Case}
use Rattle.tables.specs.declared.tables.Parameter.{Parameter}
use Rattle.tree_meaning.specs.Resolved.{primitive_tree, fields_of_labelled, unlabelled, choice, choices_of, resolved, resolved_all, resolved_maybe, resolved_if, member_meaning, case_meaning, definition_meaning}
use Rattle.package_form.specs.References.{type_references, references_if, field_references, case_references, parameter_references, kind_references}

abbrev pub Every : {A : Type 0} → (A → Type 0) → List A → Type 0
Every P [] = Unit {0}
Every P (x ∷ xs) = P x × Every P xs

pub every-append : {A : Type 0} (P : A → Type 0) (xs ys : List A) → Every P xs → Every P ys → Every P (xs ++ ys)
every-append P [] ys h q = q
every-append P (x ∷ xs) ys h q = (h.0, every-append P xs ys h.1 q)

pub every-front : {A : Type 0} (P : A → Type 0) (xs ys : List A) → Every P (xs ++ ys) → Every P xs
every-front P [] ys h = tt
every-front P (x ∷ xs) ys h = (h.0, every-front P xs ys h.1)

pub every-back : {A : Type 0} (P : A → Type 0) (xs ys : List A) → Every P (xs ++ ys) → Every P ys
every-back P [] ys h = h
every-back P (x ∷ xs) ys h = every-back P xs ys h.1

pub every-mono : {A : Type 0} (P Q : A → Type 0) → ((x : A) → P x → Q x) → (xs : List A) → Every P xs → Every Q xs
every-mono P Q f [] h = tt
every-mono P Q f (x ∷ xs) h = (f x h.0, every-mono P Q f xs h.1)

pub every-flat : {A B : Type 0} (P : B → Type 0) (g : A → List B) (xs : List A) → Every (λ x. Every P (g x)) xs → Every P (flat_map g xs)
every-flat P g [] h = tt
every-flat P g (x ∷ xs) h = every-append P (g x) (flat_map g xs) h.0 (every-flat P g xs h.1)

-- all references in the tree are to names of the interface of this name
abbrev mutual
  pub Refers : List ℕ → Tree → Type 0
  Refers i (PrimTree p) = Unit {0}
  Refers i TextTree = Unit {0}
  Refers i (Reference k) = k.interface ≡ i
  Refers i (ListTree t) = Refers i t
  Refers i (RecordTree form fs) = FieldsRefer i fs
  Refers i (VariantTree form cs) = ChoicesRefer i cs
  Refers i (FlagsTree ns) = Unit {0}

  pub FieldsRefer : List ℕ → TreeFields → Type 0
  FieldsRefer i no_fields = Unit {0}
  FieldsRefer i (field n t fs) = Refers i t × FieldsRefer i fs

  pub ChoicesRefer : List ℕ → Choices → Type 0
  ChoicesRefer i no_choices = Unit {0}
  ChoicesRefer i (empty n cs) = ChoicesRefer i cs
  ChoicesRefer i (holding n t cs) = Refers i t × ChoicesRefer i cs

abbrev pub RefersIf : List ℕ → Option Tree → Type 0
RefersIf i None = Unit {0}
RefersIf i (Some t) = Refers i t

-- ---- what the syntax stands for

module _ (i : List ℕ) where
  primitive-refers : (p : Keyword) → Refers i (primitive_tree p)
  primitive-refers keyword.Bool = tt
  primitive-refers keyword.S8 = tt
  primitive-refers keyword.U8 = tt
  primitive-refers keyword.S16 = tt
  primitive-refers keyword.U16 = tt
  primitive-refers keyword.S32 = tt
  primitive-refers keyword.U32 = tt
  primitive-refers keyword.S64 = tt
  primitive-refers keyword.U64 = tt
  primitive-refers keyword.Char = tt
  primitive-refers keyword.String = tt

  choice-refers : (n : List ℕ) (t : Option Tree) (cs : Choices) → RefersIf i t → ChoicesRefer i cs → ChoicesRefer i (choice n t cs)
  choice-refers n None cs h q = q
  choice-refers n (Some t) cs h q = (h, q)

  mutual
    pub type-refers : (t : Ty) → Refers i (resolved i t)
    type-refers (Prim p) = primitive-refers p
    type-refers (Named n) = refl
    type-refers (ListOf t) = type-refers t
    type-refers (OptionOf t) = (type-refers t, tt)
    type-refers (TupleOf ts) = types-refer ts
    type-refers (ResultOf ok error) = choice-refers _ (resolved_maybe i ok) _ (maybe-refers ok) (choice-refers _ (resolved_maybe i error) _ (maybe-refers error) tt)

    types-refer : (ts : Tys) → FieldsRefer i (unlabelled (resolved_all i ts))
    types-refer none = tt
    types-refer (more t ts) = (type-refers t, types-refer ts)

    maybe-refers : (t : MaybeTy) → RefersIf i (resolved_maybe i t)
    maybe-refers Absent = tt
    maybe-refers (Present t) = type-refers t

  pub if-refers : (t : Option Ty) → RefersIf i (resolved_if i t)
  if-refers None = tt
  if-refers (Some t) = type-refers t

  pub members-refer : (ms : List Member) → FieldsRefer i (fields_of_labelled (map (member_meaning i) ms))
  members-refer [] = tt
  members-refer (m ∷ ms) = (type-refers m.ty, members-refer ms)

  cases-refer : (cs : List CaseOf) → ChoicesRefer i (choices_of (map (case_meaning i) cs))
  cases-refer [] = tt
  cases-refer (c ∷ cs) = choice-refers c.name (resolved_if i c.payload) _ (if-refers c.payload) (cases-refer cs)

  labels-refer : (ns : List (List ℕ)) → ChoicesRefer i (read_enum ns)
  labels-refer [] = tt
  labels-refer (n ∷ ns) = labels-refer ns

  pub body-refers : (d : Body) → Refers i (definition_meaning i d)
  body-refers (Alias t) = type-refers t
  body-refers (Record ms) = members-refer ms
  body-refers (Variant cs) = cases-refer cs
  body-refers (Enumeration ns) = labels-refer ns
  body-refers (FlagSet ns) = tt

-- ---- what a row reads as

-- the tree of the row of this id
abbrev pub tree_of : List Tree → TypeId → Tree
tree_of trees t = slice_index_or trees t.0 TextTree

abbrev pub IdRefers : List ℕ → List Tree → TypeId → Type 0
IdRefers i trees t = Refers i (tree_of trees t)

module _ (i : List ℕ) (trees : List Tree) where
  val-ids : (v : ValType) → Refers i (read_val trees v) → Every (IdRefers i trees) (type_references v)
  val-ids (val.Primitive p) h = tt
  val-ids val.String h = tt
  val-ids (val.Id t) h = (h, tt)

  first-choice : (n : List ℕ) (v : Option ValType) (cs : Choices) → ChoicesRefer i (read_choice trees n v cs)
      → Every (IdRefers i trees) (references_if v) × ChoicesRefer i cs
  first-choice n None cs h = (tt, h)
  first-choice n (Some v) cs h = (val-ids v h.0, h.1)

  tuple-ids : (vs : List ValType) → FieldsRefer i (read_tuple trees vs) → Every (IdRefers i trees) (flat_map type_references vs)
  tuple-ids [] h = tt
  tuple-ids (v ∷ vs) h = every-append (IdRefers i trees) (type_references v) (flat_map type_references vs) (val-ids v h.0) (tuple-ids vs h.1)

  fields-ids : (fs : List Field) → FieldsRefer i (read_fields trees fs) → Every (IdRefers i trees) (flat_map field_references fs)
  fields-ids [] h = tt
  fields-ids (f ∷ fs) h = every-append (IdRefers i trees) (type_references f.ty) (flat_map field_references fs) (val-ids f.ty h.0) (fields-ids fs h.1)

  pub params-ids : (ps : List Parameter) → FieldsRefer i (read_params trees ps) → Every (IdRefers i trees) (flat_map parameter_references ps)
  params-ids [] h = tt
  params-ids (p ∷ ps) h = every-append (IdRefers i trees) (type_references p.ty) (flat_map parameter_references ps) (val-ids p.ty h.0) (params-ids ps h.1)

  cases-ids : (cs : List Case) → ChoicesRefer i (read_cases trees cs) → Every (IdRefers i trees) (flat_map case_references cs)
  cases-ids [] h = tt
  cases-ids (c ∷ cs) h =
      let x = first-choice c.name c.ty (read_cases trees cs) h in
      every-append (IdRefers i trees) (references_if c.ty) (flat_map case_references cs) x.0 (cases-ids cs x.1)

  pub if-ids : (v : Option ValType) → RefersIf i (option_map (read_val trees) v) → Every (IdRefers i trees) (references_if v)
  if-ids None h = tt
  if-ids (Some v) h = val-ids v h

  pub kind-ids : (k : TypeDefKind) → Refers i (read_kind trees k) → Every (IdRefers i trees) (kind_references k)
  kind-ids (kind.Use t) h = tt
  kind-ids (kind.Alias v) h = val-ids v h
  kind-ids (kind.List v) h = val-ids v h
  kind-ids (kind.Option v) h = val-ids v h.0
  kind-ids (kind.Result ok error) h =
      let x = first-choice _ ok _ h in
      let y = first-choice _ error _ x.1 in
      every-append (IdRefers i trees) (references_if ok) (references_if error) x.0 y.0
  kind-ids (kind.Tuple vs) h = tuple-ids vs h
  kind-ids (kind.Record fs) h = fields-ids fs h
  kind-ids (kind.Variant cs) h = cases-ids cs h
  kind-ids (kind.Enum ns) h = tt
  kind-ids (kind.Flags ns) h = tt
