-- The names of the members of rows are those of what the rows define.
use Rattle.std.proofs.Common.{◌≡◌, ℕ, true, cond, is_some, List, [], ◌∷◌, ◌++◌, map, Option, None, Some, refl, ap, sym, subst, ◌∙◌, All}
use Rattle.std.specs.List.{list_all}
use Rattle.wit_tokens.specs.Syntax.{Ty, Prim, Named, ListOf, OptionOf, TupleOf, ResultOf, TypeBody as Body, Alias, Record, Variant, Enumeration, FlagSet, Member, CaseOf}
use Rattle.wit_tokens.specs.declared.wit_syntax.ast.Primitive.{Primitive as Keyword}
use Rattle.wit_tokens.specs.declared.wit_syntax.ast.Primitive.TheVariants as keyword
use Rattle.tables.specs.Package.{Plain, AsTuple, AsEnum, AsOption, AsResult, Tree, PrimTree, TextTree, Reference, ListTree, RecordTree, VariantTree, FlagsTree, no_fields, field, Choices, no_choices, empty, holding, Meaning, IsUse, IsType, IsFunction, NamedDefinition, reference, meaning_of, read_choice, read_fields, read_params, read_cases, read_enum, TreeFields}
use Rattle.tables.specs.declared.tables.ValType.{ValType}
use Rattle.tables.specs.declared.tables.TypeName.{TypeName}
use Rattle.tables.specs.declared.tables.TypeDefKind.{TypeDefKind}
use Rattle.tables.specs.declared.tables.TypeDefKind.TheVariants as kind
use Rattle.tables.specs.declared.tables.Field.{Field}
use Rattle.tables.specs.declared.tables.Case.{Case}
use Rattle.tables.specs.declared.tables.Parameter.{Parameter}
use Rattle.tables.specs.declared.tables.Definition.{Definition}
use Rattle.tables.specs.declared.tables.Definition.TheVariants as row
use Rattle.package_form.specs.Postfix.{is_inner}
use Rattle.package_form.specs.Scope.{AreDistinct}
use Rattle.tree_meaning.specs.Declarations.{TypeItem, FunctionItem, member_name, tree_case_name, definition_scopes}
use Rattle.tree_meaning.specs.Resolved.{primitive_tree, fields_of_labelled, choice, choices_of, resolved, resolved_if, member_meaning, case_meaning, definition_meaning, type_meaning, meaning_of_function}
use Rattle.package_form.proofs.AllAndContains.{all-head, all-cons, all-none}
use Rattle.package_form.specs.Naming.{field_name, case_name, parameter_name, kind_members, row_members}
use Rattle.tables.proofs.ClosedTypesRowByRow.{split}
use Rattle.tree_meaning.proofs.TableRows.{RowsAre}
use Rattle.tree_meaning.proofs.tree_forms.RowsCutByDefinition.{TypeMeans, Means}
use Rattle.tree_meaning.proofs.RowsOfEachInterface.{is_inner_row}
use Rattle.tree_meaning.proofs.NamesOfScopeAreApart.{none-distinct}

abbrev pub field_names : TreeFields → List (List ℕ)
field_names no_fields = []
field_names (field n t fs) = n ∷ field_names fs

abbrev pub choice_names : Choices → List (List ℕ)
choice_names no_choices = []
choice_names (empty n cs) = n ∷ choice_names cs
choice_names (holding n t cs) = n ∷ choice_names cs

-- of a record, a variant, an enum or flags
abbrev pub tree_names : Tree → List (List ℕ)
tree_names (PrimTree p) = []
tree_names TextTree = []
tree_names (Reference k) = []
tree_names (ListTree t) = []
tree_names (RecordTree Plain fs) = field_names fs
tree_names (RecordTree AsTuple fs) = []
tree_names (RecordTree AsEnum fs) = []
tree_names (RecordTree AsOption fs) = []
tree_names (RecordTree AsResult fs) = []
tree_names (VariantTree Plain cs) = choice_names cs
tree_names (VariantTree AsTuple cs) = []
tree_names (VariantTree AsEnum cs) = choice_names cs
tree_names (VariantTree AsOption cs) = []
tree_names (VariantTree AsResult cs) = []
tree_names (FlagsTree ns) = ns

abbrev pub member_names : Meaning → List (List ℕ)
member_names (IsUse t) = []
member_names (IsType t) = tree_names t
member_names (IsFunction fs result) = field_names fs

abbrev pub HasDistinctMembers : NamedDefinition → Type 0
HasDistinctMembers x = AreDistinct (member_names x.meaning)

-- ---- of what the syntax stands for

primitive-names : (p : Keyword) → tree_names (primitive_tree p) ≡ []
primitive-names keyword.Bool = refl
primitive-names keyword.S8 = refl
primitive-names keyword.U8 = refl
primitive-names keyword.S16 = refl
primitive-names keyword.U16 = refl
primitive-names keyword.S32 = refl
primitive-names keyword.U32 = refl
primitive-names keyword.S64 = refl
primitive-names keyword.U64 = refl
primitive-names keyword.Char = refl
primitive-names keyword.String = refl

module _ (i : List ℕ) where
  type-names : (t : Ty) → tree_names (resolved i t) ≡ []
  type-names (Prim p) = primitive-names p
  type-names (Named n) = refl
  type-names (ListOf t) = refl
  type-names (OptionOf t) = refl
  type-names (TupleOf ts) = refl
  type-names (ResultOf ok error) = refl

  choice-name : (n : List ℕ) (t : Option Tree) (cs : Choices) → choice_names (choice n t cs) ≡ n ∷ choice_names cs
  choice-name n None cs = refl
  choice-name n (Some t) cs = refl

  fields-names : (ms : List Member) → field_names (fields_of_labelled (map (member_meaning i) ms)) ≡ map member_name ms
  fields-names [] = refl
  fields-names (m ∷ ms) = ap (λ (ns : List (List ℕ)). m.name ∷ ns) (fields-names ms)

  cases-names : (cs : List CaseOf) → choice_names (choices_of (map (case_meaning i) cs)) ≡ map tree_case_name cs
  cases-names [] = refl
  cases-names (c ∷ cs) = choice-name c.name (resolved_if i c.payload) _ ∙ ap (λ (ns : List (List ℕ)). c.name ∷ ns) (cases-names cs)

  labels-names : (ns : List (List ℕ)) → choice_names (read_enum ns) ≡ ns
  labels-names [] = refl
  labels-names (n ∷ ns) = ap (λ (ms : List (List ℕ)). n ∷ ms) (labels-names ns)

  body-distinct : (d : Body) → All AreDistinct (definition_scopes d) → AreDistinct (tree_names (definition_meaning i d))
  body-distinct (Alias t) h = subst AreDistinct (sym (type-names t)) none-distinct
  body-distinct (Record ms) h = subst AreDistinct (sym (fields-names ms)) (all-head AreDistinct (map member_name ms) [] h)
  body-distinct (Variant cs) h = subst AreDistinct (sym (cases-names cs)) (all-head AreDistinct (map tree_case_name cs) [] h)
  body-distinct (Enumeration ns) h = subst AreDistinct (sym (labels-names ns)) (all-head AreDistinct ns [] h)
  body-distinct (FlagSet ns) h = all-head AreDistinct ns [] h

  pub type-distinct : (t : TypeItem) → All AreDistinct (definition_scopes t.definition) → HasDistinctMembers (type_meaning i t)
  type-distinct t h = body-distinct t.definition h

  pub function-distinct : (f : FunctionItem) → AreDistinct (map member_name f.function.params) → HasDistinctMembers (meaning_of_function i f)
  function-distinct f h = subst AreDistinct (sym (fields-names f.function.params)) h

-- ---- of what a row reads as

module _ (trees : List Tree) where
  read-choice : (n : List ℕ) (v : Option ValType) (cs : Choices) → choice_names (read_choice trees n v cs) ≡ n ∷ choice_names cs
  read-choice n None cs = refl
  read-choice n (Some v) cs = refl

  read-fields : (fs : List Field) → field_names (read_fields trees fs) ≡ map field_name fs
  read-fields [] = refl
  read-fields (f ∷ fs) = ap (λ (ns : List (List ℕ)). f.name ∷ ns) (read-fields fs)

  read-params : (ps : List Parameter) → field_names (read_params trees ps) ≡ map parameter_name ps
  read-params [] = refl
  read-params (p ∷ ps) = ap (λ (ns : List (List ℕ)). p.name ∷ ns) (read-params ps)

  read-cases : (cs : List Case) → choice_names (read_cases trees cs) ≡ map case_name cs
  read-cases [] = refl
  read-cases (c ∷ cs) = read-choice c.name c.ty (read_cases trees cs) ∙ ap (λ (ns : List (List ℕ)). c.name ∷ ns) (read-cases cs)

  read-labels : (ns : List (List ℕ)) → choice_names (read_enum ns) ≡ ns
  read-labels [] = refl
  read-labels (n ∷ ns) = ap (λ (ms : List (List ℕ)). n ∷ ms) (read-labels ns)

  kind-distinct : (k : TypeDefKind) → AreDistinct (member_names (meaning_of trees k)) → AreDistinct (kind_members k)
  kind-distinct (kind.Use t) h = none-distinct
  kind-distinct (kind.Alias v) h = none-distinct
  kind-distinct (kind.List v) h = none-distinct
  kind-distinct (kind.Option v) h = none-distinct
  kind-distinct (kind.Result ok error) h = none-distinct
  kind-distinct (kind.Tuple vs) h = none-distinct
  kind-distinct (kind.Record fs) h = subst AreDistinct (read-fields fs) h
  kind-distinct (kind.Variant cs) h = subst AreDistinct (read-cases cs) h
  kind-distinct (kind.Enum names) h = subst AreDistinct (read-labels names) h
  kind-distinct (kind.Flags names) h = h

  inner-distinct : (k : TypeDefKind) → is_inner k ≡ true → AreDistinct (kind_members k)
  inner-distinct (kind.Use t) e = none-distinct
  inner-distinct (kind.Alias v) e = none-distinct
  inner-distinct (kind.List v) e = none-distinct
  inner-distinct (kind.Option v) e = none-distinct
  inner-distinct (kind.Result ok error) e = none-distinct
  inner-distinct (kind.Tuple vs) e = none-distinct
  inner-distinct (kind.Record fs) e = absurd (cc)
  inner-distinct (kind.Variant cs) e = absurd (cc)
  inner-distinct (kind.Enum names) e = absurd (cc)
  inner-distinct (kind.Flags names) e = absurd (cc)

  row-distinct : (ns : List (List ℕ)) (d : Definition) → is_inner_row d ≡ true → Means ns HasDistinctMembers trees d → AreDistinct (row_members d)
  row-distinct ns (row.Type d) e h = by d.name e h
    where
      by : (o : Option TypeName) → cond (is_some o) true (is_inner d.kind) ≡ true → TypeMeans ns HasDistinctMembers trees o d.kind → AreDistinct (kind_members d.kind)
      by None e h = inner-distinct d.kind e
      by (Some n) e h = kind-distinct d.kind h
  row-distinct ns (row.Function f) e h = subst AreDistinct (read-params f.params) h

-- .. in all rows
pub rows-distinct : (ns : List (List ℕ)) (trees : List Tree) (ds : List Definition) → list_all is_inner_row ds ≡ true → RowsAre ns (Means ns HasDistinctMembers) trees ds
    → All AreDistinct (map row_members ds)
rows-distinct ns trees [] e h = all-none AreDistinct
rows-distinct ns trees (d ∷ ds) e h =
    let s = split (is_inner_row d) (list_all is_inner_row ds) e in
    all-cons AreDistinct (row_members d) (map row_members ds) (row-distinct trees ns d s.0 h.0) (rows-distinct ns (trees ++ reference ns trees d ∷ []) ds s.1 h.1)
