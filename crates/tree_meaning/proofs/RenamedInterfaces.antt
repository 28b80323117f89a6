-- Interfaces that get other names: definitions by name get them too, whatever rows they are read from.
use Rattle.std.proofs.Common.{◌≡◌, ℕ, zero, suc, List, [], ◌∷◌, ◌++◌, Option, None, Some, map, flat_map, get_or, slice_get, refl, ap, sym, ◌∙◌}
use Rattle.std.specs.Prelude.{slice_index_or}
use Rattle.std.specs.Option.{option_map}
use Rattle.std.proofs.lemmas.List.{map-append}
use Rattle.wit_tokens.specs.Syntax.{Ty, Prim, Named, ListOf, OptionOf, TupleOf, ResultOf, Tys, none, more, MaybeTy, Absent, Present, TypeBody as Body, Alias, Record, Variant, Enumeration, FlagSet, Member, CaseOf}
use Rattle.wit_tokens.specs.declared.wit_syntax.ast.Primitive.{Primitive as Keyword}
use Rattle.wit_tokens.specs.declared.wit_syntax.ast.Primitive.TheVariants as keyword
use Rattle.tables.specs.Package.{Key, key_of, Tree, PrimTree, TextTree, Reference, ListTree, RecordTree, VariantTree, FlagsTree, no_fields, field, Choices, no_choices, empty, holding, Plain, AsTuple, AsResult, AsEnum, Meaning, IsUse, IsType, IsFunction, NamedDefinition, read_val, read_choice, read_tuple, read_fields, read_params, read_cases, read_enum, read_kind, reference, reference_by, meaning_of, named_function, function_meaning as called, named_by, definition_of, definitions_from, references, ItemMeaning, WithInterface, WithFunction, function_item, item_meaning, TreeFields}
use Rattle.tables.specs.PackageNames.{own_name}
use Rattle.tables.specs.Tables.{function_of}
use Rattle.tables.specs.declared.tables.ValType.{ValType}
use Rattle.tables.specs.declared.tables.ValType.TheVariants as val
use Rattle.tables.specs.declared.tables.TypeDefKind.{TypeDefKind}
use Rattle.tables.specs.declared.tables.TypeDefKind.TheVariants as kind
use Rattle.tables.specs.declared.tables.TypeName.{TypeName}
use Rattle.tables.specs.declared.tables.Field.{Field}
use Rattle.tables.specs.declared.tables.Case.{Case}
use Rattle.tables.specs.declared.tables.Parameter.{Parameter}
use Rattle.tables.specs.declared.tables.Owner.{Owner}
use Rattle.tables.specs.declared.tables.Owner.TheVariants as owner
use Rattle.tables.specs.declared.tables.Function.{Function}
use Rattle.tables.specs.declared.tables.Direction.{Direction}
use Rattle.tables.specs.declared.tables.WorldItemKind.{WorldItemKind}
use Rattle.tables.specs.declared.tables.WorldItemKind.TheVariants as item
use Rattle.tables.specs.declared.tables.WorldItem.{WorldItem}
use Rattle.tables.specs.declared.tables.Definition.{Definition}
use Rattle.tables.specs.declared.tables.Definition.TheVariants as row
use Rattle.tree_meaning.specs.Declarations.{UsedItem, use_interface, TypeItem, FunctionItem, InterfaceTree, ItemTree, InterfaceNamed, ForeignNamed, FunctionOf}
use Rattle.tree_meaning.specs.Resolved.{primitive_tree, fields_of_labelled, unlabelled, choice, choices_of, option_tree, resolved, resolved_all, resolved_maybe, resolved_if, member_meaning, case_meaning, definition_meaning, use_meaning, meaning_of_function, no_type, in_order, interface_meaning, direction_meaning, tree_item_meaning}

-- each interface gets another name; none has none
module _ (to : List ℕ → List ℕ) (none-kept : to [] ≡ []) where
  abbrev renamed_key : Key → Key
  renamed_key k = record { interface = to k.interface; name = k.name }

  abbrev mutual
    renamed : Tree → Tree
    renamed (PrimTree p) = PrimTree p
    renamed TextTree = TextTree
    renamed (Reference k) = Reference (renamed_key k)
    renamed (ListTree t) = ListTree (renamed t)
    renamed (RecordTree form fs) = RecordTree form (renamed_fields fs)
    renamed (VariantTree form cs) = VariantTree form (renamed_choices cs)
    renamed (FlagsTree labels) = FlagsTree labels

    renamed_fields : TreeFields → TreeFields
    renamed_fields no_fields = no_fields
    renamed_fields (field label t fs) = field label (renamed t) (renamed_fields fs)

    renamed_choices : Choices → Choices
    renamed_choices no_choices = no_choices
    renamed_choices (empty label cs) = empty label (renamed_choices cs)
    renamed_choices (holding label t cs) = holding label (renamed t) (renamed_choices cs)

  abbrev renamed_meaning : Meaning → Meaning
  renamed_meaning (IsUse t) = IsUse (renamed t)
  renamed_meaning (IsType t) = IsType (renamed t)
  renamed_meaning (IsFunction fs result) = IsFunction (renamed_fields fs) (option_map renamed result)

  abbrev pub renamed_definition : NamedDefinition → NamedDefinition
  renamed_definition d = record { key = renamed_key d.key; meaning = renamed_meaning d.meaning }

  -- ---- what rows read as

  name-at : (ns : List (List ℕ)) (k : ℕ) → get_or (map to ns) k [] ≡ to (get_or ns k [])
  name-at [] k = sym none-kept
  name-at (n ∷ ns) zero = refl
  name-at (n ∷ ns) (suc k) = name-at ns k

  tree-at : (ts : List Tree) (k : ℕ) → get_or (map renamed ts) k TextTree ≡ renamed (get_or ts k TextTree)
  tree-at [] k = refl
  tree-at (t ∷ ts) zero = refl
  tree-at (t ∷ ts) (suc k) = tree-at ts k

  val-same : (ts : List Tree) (v : ValType) → read_val (map renamed ts) v ≡ renamed (read_val ts v)
  val-same ts (val.Primitive p) = refl
  val-same ts val.String = refl
  val-same ts (val.Id t) = tree-at ts t.0

  if-same : (ts : List Tree) (v : Option ValType) → option_map (read_val (map renamed ts)) v ≡ option_map renamed (option_map (read_val ts) v)
  if-same ts None = refl
  if-same ts (Some v) = ap (λ (t : Tree). Some t) (val-same ts v)

  choice-same : (ts : List Tree) (label : List ℕ) (v : Option ValType) (cs ds : Choices) → cs ≡ renamed_choices ds
      → read_choice (map renamed ts) label v cs ≡ renamed_choices (read_choice ts label v ds)
  choice-same ts label None cs ds e = ap (empty label) e
  choice-same ts label (Some v) cs ds e = let a = val-same ts v in cc

  tuple-same : (ts : List Tree) (vs : List ValType) → read_tuple (map renamed ts) vs ≡ renamed_fields (read_tuple ts vs)
  tuple-same ts [] = refl
  tuple-same ts (v ∷ vs) = let a = val-same ts v in let b = tuple-same ts vs in cc

  fields-same : (ts : List Tree) (fs : List Field) → read_fields (map renamed ts) fs ≡ renamed_fields (read_fields ts fs)
  fields-same ts [] = refl
  fields-same ts (f ∷ fs) = let a = val-same ts f.ty in let b = fields-same ts fs in cc

  params-same : (ts : List Tree) (ps : List Parameter) → read_params (map renamed ts) ps ≡ renamed_fields (read_params ts ps)
  params-same ts [] = refl
  params-same ts (p ∷ ps) = let a = val-same ts p.ty in let b = params-same ts ps in cc

  cases-same : (ts : List Tree) (cs : List Case) → read_cases (map renamed ts) cs ≡ renamed_choices (read_cases ts cs)
  cases-same ts [] = refl
  cases-same ts (c ∷ cs) = choice-same ts c.name c.ty (read_cases (map renamed ts) cs) (read_cases ts cs) (cases-same ts cs)

  enum-same : (ns : List (List ℕ)) → read_enum ns ≡ renamed_choices (read_enum ns)
  enum-same [] = refl
  enum-same (n ∷ ns) = ap (empty n) (enum-same ns)

  kind-same : (ts : List Tree) (k : TypeDefKind) → read_kind (map renamed ts) k ≡ renamed (read_kind ts k)
  kind-same ts (kind.Use t) = val-same ts (val.Id t)
  kind-same ts (kind.Alias v) = val-same ts v
  kind-same ts (kind.List v) = ap ListTree (val-same ts v)
  kind-same ts (kind.Option v) = let a = val-same ts v in cc
  kind-same ts (kind.Result ok error) =
      ap (VariantTree AsResult) (choice-same ts _ ok _ _ (choice-same ts _ error no_choices no_choices refl))
  kind-same ts (kind.Tuple vs) = ap (RecordTree AsTuple) (tuple-same ts vs)
  kind-same ts (kind.Record fs) = ap (RecordTree Plain) (fields-same ts fs)
  kind-same ts (kind.Variant cs) = ap (VariantTree Plain) (cases-same ts cs)
  kind-same ts (kind.Enum ns) = ap (VariantTree AsEnum) (enum-same ns)
  kind-same ts (kind.Flags ns) = refl

  meaning-same : (ts : List Tree) (k : TypeDefKind) → meaning_of (map renamed ts) k ≡ renamed_meaning (meaning_of ts k)
  meaning-same ts (kind.Use t) = ap IsUse (kind-same ts (kind.Use t))
  meaning-same ts (kind.Alias v) = ap IsType (kind-same ts (kind.Alias v))
  meaning-same ts (kind.List v) = ap IsType (kind-same ts (kind.List v))
  meaning-same ts (kind.Option v) = ap IsType (kind-same ts (kind.Option v))
  meaning-same ts (kind.Result ok error) = ap IsType (kind-same ts (kind.Result ok error))
  meaning-same ts (kind.Tuple vs) = ap IsType (kind-same ts (kind.Tuple vs))
  meaning-same ts (kind.Record fs) = ap IsType (kind-same ts (kind.Record fs))
  meaning-same ts (kind.Variant cs) = ap IsType (kind-same ts (kind.Variant cs))
  meaning-same ts (kind.Enum ns) = ap IsType (kind-same ts (kind.Enum ns))
  meaning-same ts (kind.Flags ns) = ap IsType (kind-same ts (kind.Flags ns))

  key-same : (ns : List (List ℕ)) (n : TypeName) → key_of (map to ns) n ≡ renamed_key (key_of ns n)
  key-same ns n = ap (λ (i : List ℕ). record { interface = i; name = n.name }) (name-at ns n.interface.0)

  row-same : (ns : List (List ℕ)) (ts : List Tree) (d : Definition) → reference (map to ns) (map renamed ts) d ≡ renamed (reference ns ts d)
  row-same ns ts (row.Type d) = by d.name
    where
      by : (o : Option TypeName) → reference_by (map to ns) o (read_kind (map renamed ts) d.kind) ≡ renamed (reference_by ns o (read_kind ts d.kind))
      by None = kind-same ts d.kind
      by (Some n) = ap Reference (key-same ns n)
  row-same ns ts (row.Function f) = ap (RecordTree Plain) (params-same ts f.params)

  named-same : (ns : List (List ℕ)) (ts : List Tree) (o : Option TypeName) (k : TypeDefKind) → named_by (map to ns) (map renamed ts) o k ≡ map renamed_definition (named_by ns ts o k)
  named-same ns ts None k = refl
  named-same ns ts (Some n) k = let a = key-same ns n in let b = meaning-same ts k in cc

  function-same : (ns : List (List ℕ)) (o : Owner) (name : List ℕ) (m : Meaning) → named_function (map to ns) o name (renamed_meaning m) ≡ map renamed_definition (named_function ns o name m)
  function-same ns (owner.Interface i) name m = ap (λ (n : List ℕ). record { key = record { interface = n; name = name }; meaning = renamed_meaning m } ∷ []) (name-at ns i.0)
  function-same ns (owner.World w) name m = refl

  definition-same : (ns : List (List ℕ)) (ts : List Tree) (d : Definition) → definition_of (map to ns) (map renamed ts) d ≡ map renamed_definition (definition_of ns ts d)
  definition-same ns ts (row.Type d) = named-same ns ts d.name d.kind
  definition-same ns ts (row.Function f) =
      let b = params-same ts f.params in
      let c = if-same ts f.result in
      let means : called (map renamed ts) f ≡ renamed_meaning (called ts f) = cc in
      ap (named_function (map to ns) f.owner f.name) means ∙ function-same ns f.owner f.name (called ts f)

  pub references-same : (ns : List (List ℕ)) (ts : List Tree) (ds : List Definition) → references (map to ns) (map renamed ts) ds ≡ map renamed (references ns ts ds)
  references-same ns ts [] = refl
  references-same ns ts (d ∷ ds) =
      let more : map renamed ts ++ reference (map to ns) (map renamed ts) d ∷ [] ≡ map renamed (ts ++ reference ns ts d ∷ []) =
      ap (λ (t : Tree). map renamed ts ++ t ∷ []) (row-same ns ts d) ∙ sym (map-append renamed ts (reference ns ts d ∷ [])) in
      ap (λ (us : List Tree). references (map to ns) us ds) more ∙ references-same ns (ts ++ reference ns ts d ∷ []) ds

  -- ---- what items of worlds read as

  abbrev pub renamed_item : ItemMeaning → ItemMeaning
  renamed_item (WithInterface way n) = WithInterface way (to n)
  renamed_item (WithFunction way n fs result) = WithFunction way n (renamed_fields fs) (option_map renamed result)

  read-item : (ns : List (List ℕ)) (ts : List Tree) (rows : List Definition) (way : Direction) (k : WorldItemKind)
      → item_meaning (map to ns) (map renamed ts) rows way k ≡ renamed_item (item_meaning ns ts rows way k)
  read-item ns ts rows way (item.Interface i) = ap (WithInterface way) (name-at ns i.0)
  read-item ns ts rows way (item.Function f) = by (function_of (slice_get rows f.0))
    where
      by : (o : Option Function) → function_item (map renamed ts) way o ≡ renamed_item (function_item ts way o)
      by None = ap (WithInterface way) (sym none-kept)
      by (Some g) =
          ap (λ (fs : TreeFields). WithFunction way g.name fs (option_map (read_val (map renamed ts)) g.result)) (params-same ts g.params)
          ∙ ap (WithFunction way g.name (renamed_fields (read_params ts g.params))) (if-same ts g.result)

  pub read-items : (ns : List (List ℕ)) (ts : List Tree) (rows : List Definition) (is : List WorldItem)
      → map (λ i. item_meaning (map to ns) (map renamed ts) rows i.direction i.kind) is ≡ map renamed_item (map (λ i. item_meaning ns ts rows i.direction i.kind) is)
  read-items ns ts rows [] = refl
  read-items ns ts rows (i ∷ is) =
      ap (λ (m : ItemMeaning). m ∷ map (λ j. item_meaning (map to ns) (map renamed ts) rows j.direction j.kind) is) (read-item ns ts rows i.direction i.kind)
      ∙ ap (λ (ms : List ItemMeaning). renamed_item (item_meaning ns ts rows i.direction i.kind) ∷ ms) (read-items ns ts rows is)

  pub definitions-same : (ns : List (List ℕ)) (ts : List Tree) (ds : List Definition) → definitions_from (map to ns) (map renamed ts) ds ≡ map renamed_definition (definitions_from ns ts ds)
  definitions-same ns ts [] = refl
  definitions-same ns ts (d ∷ ds) =
      let more : map renamed ts ++ reference (map to ns) (map renamed ts) d ∷ [] ≡ map renamed (ts ++ reference ns ts d ∷ []) =
      ap (λ (t : Tree). map renamed ts ++ t ∷ []) (row-same ns ts d) ∙ sym (map-append renamed ts (reference ns ts d ∷ [])) in
      ap (λ (xs : List NamedDefinition). xs ++ definitions_from (map to ns) (map renamed ts ++ reference (map to ns) (map renamed ts) d ∷ []) ds) (definition-same ns ts d)
      ∙ ap (λ (us : List Tree). map renamed_definition (definition_of ns ts d) ++ definitions_from (map to ns) us ds) more
      ∙ ap (λ (xs : List NamedDefinition). map renamed_definition (definition_of ns ts d) ++ xs) (definitions-same ns (ts ++ reference ns ts d ∷ []) ds)
      ∙ sym (map-append renamed_definition (definition_of ns ts d) (definitions_from ns (ts ++ reference ns ts d ∷ []) ds))

  -- ---- what the syntax stands for

  prim-same : (p : Keyword) → primitive_tree p ≡ renamed (primitive_tree p)
  prim-same keyword.Bool = refl
  prim-same keyword.S8 = refl
  prim-same keyword.U8 = refl
  prim-same keyword.S16 = refl
  prim-same keyword.U16 = refl
  prim-same keyword.S32 = refl
  prim-same keyword.U32 = refl
  prim-same keyword.S64 = refl
  prim-same keyword.U64 = refl
  prim-same keyword.Char = refl
  prim-same keyword.String = refl

  choice-renamed : (label : List ℕ) (o p : Option Tree) (cs ds : Choices) → o ≡ option_map renamed p → cs ≡ renamed_choices ds → choice label o cs ≡ renamed_choices (choice label p ds)
  choice-renamed label o None cs ds e f = let a : choice label o cs ≡ choice label None cs = ap (λ x. choice label x cs) e in cc
  choice-renamed label o (Some t) cs ds e f = let a : choice label o cs ≡ choice label (Some (renamed t)) cs = ap (λ x. choice label x cs) e in cc

  unlabelled-same : (us ts : List Tree) → us ≡ map renamed ts → unlabelled us ≡ renamed_fields (unlabelled ts)
  unlabelled-same us ts e = ap unlabelled e ∙ by ts
    where
      by : (ts : List Tree) → unlabelled (map renamed ts) ≡ renamed_fields (unlabelled ts)
      by [] = refl
      by (t ∷ ts) = ap (field [] (renamed t)) (by ts)

  mutual
    type-renamed : (i : List ℕ) (t : Ty) → resolved (to i) t ≡ renamed (resolved i t)
    type-renamed i (Prim p) = prim-same p
    type-renamed i (Named n) = refl
    type-renamed i (ListOf t) = ap ListTree (type-renamed i t)
    type-renamed i (OptionOf t) = ap option_tree (type-renamed i t)
    type-renamed i (TupleOf ts) = ap (RecordTree AsTuple) (unlabelled-same (resolved_all (to i) ts) (resolved_all i ts) (types-renamed i ts))
    type-renamed i (ResultOf ok error) =
        ap (VariantTree AsResult)
        (choice-renamed _ (resolved_maybe (to i) ok) (resolved_maybe i ok) _ _ (maybe-renamed i ok)
        (choice-renamed _ (resolved_maybe (to i) error) (resolved_maybe i error) no_choices no_choices (maybe-renamed i error) refl))

    types-renamed : (i : List ℕ) (ts : Tys) → resolved_all (to i) ts ≡ map renamed (resolved_all i ts)
    types-renamed i none = refl
    types-renamed i (more t ts) = let a = type-renamed i t in let b = types-renamed i ts in cc

    maybe-renamed : (i : List ℕ) (t : MaybeTy) → resolved_maybe (to i) t ≡ option_map renamed (resolved_maybe i t)
    maybe-renamed i Absent = refl
    maybe-renamed i (Present t) = ap (λ (x : Tree). Some x) (type-renamed i t)

  if-renamed : (i : List ℕ) (t : Option Ty) → resolved_if (to i) t ≡ option_map renamed (resolved_if i t)
  if-renamed i None = refl
  if-renamed i (Some t) = ap (λ (x : Tree). Some x) (type-renamed i t)

  members-renamed : (i : List ℕ) (ms : List Member) → fields_of_labelled (map (member_meaning (to i)) ms) ≡ renamed_fields (fields_of_labelled (map (member_meaning i) ms))
  members-renamed i [] = refl
  members-renamed i (m ∷ ms) = let a = type-renamed i m.ty in let b = members-renamed i ms in cc

  cases-renamed : (i : List ℕ) (cs : List CaseOf) → choices_of (map (case_meaning (to i)) cs) ≡ renamed_choices (choices_of (map (case_meaning i) cs))
  cases-renamed i [] = refl
  cases-renamed i (c ∷ cs) = choice-renamed c.name (resolved_if (to i) c.payload) (resolved_if i c.payload) _ _ (if-renamed i c.payload) (cases-renamed i cs)

  enumerated-same : (ns : List (List ℕ)) → read_enum ns ≡ renamed_choices (read_enum ns)
  enumerated-same [] = refl
  enumerated-same (n ∷ ns) = ap (empty n) (enumerated-same ns)

  body-renamed : (i : List ℕ) (d : Body) → definition_meaning (to i) d ≡ renamed (definition_meaning i d)
  body-renamed i (Alias t) = type-renamed i t
  body-renamed i (Record ms) = ap (RecordTree Plain) (members-renamed i ms)
  body-renamed i (Variant cs) = ap (VariantTree Plain) (cases-renamed i cs)
  body-renamed i (Enumeration ns) = ap (VariantTree AsEnum) (enumerated-same ns)
  body-renamed i (FlagSet ns) = refl

  abbrev pub item_under : ItemTree → ItemTree
  item_under (InterfaceNamed way i) = InterfaceNamed way (to i)
  item_under (ForeignNamed way q i) = InterfaceNamed way (to (own_name q i))
  item_under (FunctionOf way f) = FunctionOf way f

  -- a function of a world is of no interface
  pub item-renamed : (i : ItemTree) → tree_item_meaning (item_under i) ≡ renamed_item (tree_item_meaning i)
  item-renamed (InterfaceNamed way n) = refl
  item-renamed (ForeignNamed way q n) = refl
  item-renamed (FunctionOf way f) =
      let ms = f.function.params in
      let params : fields_of_labelled (map (member_meaning []) ms) ≡ renamed_fields (fields_of_labelled (map (member_meaning []) ms)) =
      ap (λ (i : List ℕ). fields_of_labelled (map (member_meaning i) ms)) (sym none-kept) ∙ members-renamed [] ms in
      let result : resolved_if [] f.function.result ≡ option_map renamed (resolved_if [] f.function.result) =
      ap (λ (i : List ℕ). resolved_if i f.function.result) (sym none-kept) ∙ if-renamed [] f.function.result in
      ap (λ (fs : TreeFields). WithFunction (direction_meaning way) f.name fs (resolved_if [] f.function.result)) params
      ∙ ap (WithFunction (direction_meaning way) f.name (renamed_fields (fields_of_labelled (map (member_meaning []) ms)))) result

  -- the interface, and those that it uses, under their new names
  abbrev pub used_under : UsedItem → UsedItem
  used_under u = record { «package» = None; interface = to (use_interface u); name = u.name; local = u.local }

  abbrev pub interface_under : InterfaceTree → InterfaceTree
  interface_under i = record { name = to i.name; uses = map used_under i.uses; types = i.types; functions = i.functions }

  uses-renamed : (i : List ℕ) (us : List UsedItem) → map (use_meaning (to i)) (map used_under us) ≡ map renamed_definition (map (use_meaning i) us)
  uses-renamed i [] = refl
  uses-renamed i (u ∷ us) = ap (λ (ds : List NamedDefinition). renamed_definition (use_meaning i u) ∷ ds) (uses-renamed i us)

  types-in-order : (i : List ℕ) (types : List TypeItem) (order : List ℕ) → in_order (to i) types order ≡ map renamed_definition (in_order i types order)
  types-in-order i types [] = refl
  types-in-order i types (k ∷ order) = let a = body-renamed i (slice_index_or types k no_type).definition in let b = types-in-order i types order in cc

  functions-renamed : (i : List ℕ) (fs : List FunctionItem) → map (meaning_of_function (to i)) fs ≡ map renamed_definition (map (meaning_of_function i) fs)
  functions-renamed i [] = refl
  functions-renamed i (f ∷ fs) =
      let a = members-renamed i f.function.params in let b = if-renamed i f.function.result in let c = functions-renamed i fs in cc

  pub meaning-renamed : (i : InterfaceTree) (order : List ℕ) → interface_meaning (interface_under i) order ≡ map renamed_definition (interface_meaning i order)
  meaning-renamed i order =
      let A = map (use_meaning i.name) i.uses in
      let B = in_order i.name i.types order in
      let C = map (meaning_of_function i.name) i.functions in
      let a = uses-renamed i.name i.uses in
      let b = types-in-order i.name i.types order in
      let c = functions-renamed i.name i.functions in
      let whole : interface_meaning (interface_under i) order ≡ map renamed_definition A ++ (map renamed_definition B ++ map renamed_definition C) = cc in
      whole ∙ ap (λ (ds : List NamedDefinition). map renamed_definition A ++ ds) (sym (map-append renamed_definition B C)) ∙ sym (map-append renamed_definition A (B ++ C))

  pub flat-renamed : (f : ℕ → List NamedDefinition) (ks : List ℕ) → map renamed_definition (flat_map f ks) ≡ flat_map (λ k. map renamed_definition (f k)) ks
  flat-renamed f [] = refl
  flat-renamed f (k ∷ ks) = map-append renamed_definition (f k) (flat_map f ks) ∙ ap (λ (ds : List NamedDefinition). map renamed_definition (f k) ++ ds) (flat-renamed f ks)
