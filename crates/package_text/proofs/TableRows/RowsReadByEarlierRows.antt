-- What a row reads as, by the rows before it alone.
use Rattle.std.proofs.Common.{◌≡◌, ◌+◌, ℕ, List, [], ◌∷◌, ◌++◌, length, flat_map, get_or, slice_get, refl, sym, ap, subst, ◌∙◌, append_assoc, length-append, arith}
use Rattle.std.specs.Prelude.{Bool, true, false, not, Option, None, Some, is_some, if◌then◌else◌}
use Rattle.std.specs.List.{list_all}
use Rattle.std.specs.Option.{option_map}
use Rattle.std.proofs.lemmas.Bool.{and_parts, false≢true, ltb-true}
use Rattle.canonical_abi.specs.Labelled.{ok_label, error_label}
use Rattle.tables.specs.Tables.{option_all, kind_all, is_below, definition_below, are_earlier}
use Rattle.tables.specs.Package.{Tree, TextTree, VariantTree, AsResult, Choices, no_choices, NamedDefinition, IsUse, IsType, read_val, read_choice, read_tuple, read_fields, read_params, read_cases, read_kind, meaning_of, function_meaning, reference, references, named_by, named_function, definition_of, definitions_from}
use Rattle.tables.specs.declared.tables.ValType.{ValType}
use Rattle.tables.specs.declared.tables.ValType.TheVariants as val
use Rattle.tables.specs.declared.tables.TypeDefKind.{TypeDefKind}
use Rattle.tables.specs.declared.tables.TypeDefKind.TheVariants as kind
use Rattle.tables.specs.declared.tables.TypeName.{TypeName}
use Rattle.tables.specs.declared.tables.Parameter.{Parameter}
use Rattle.tables.specs.declared.tables.Field.{Field}
use Rattle.tables.specs.declared.tables.Case.{Case}
use Rattle.tables.specs.declared.tables.Function.{Function}
use Rattle.tables.specs.declared.tables.Definition.{Definition}
use Rattle.tables.specs.declared.tables.Definition.TheVariants as row
use Rattle.package_form.specs.Form.{is_named}
use Rattle.package_form.specs.Ids.{places_where}
use Rattle.tree_meaning.proofs.TableRows.{trees-kept, references-append, references-length}
use Rattle.package_text.specs.Tree.{definitions_in}

module _ (ns : List (List ℕ)) (front rest : List Definition) where
  abbrev few : List Tree
  few = references ns [] front

  abbrev all : List Tree
  all = references ns [] (front ++ rest)

  abbrev Below : ValType → Type 0
  Below v = is_below (length front) v ≡ true

  val-front : (v : ValType) → is_below (length front) v ≡ true → read_val (references ns [] (front ++ rest)) v ≡ read_val (references ns [] front) v
  val-front (val.Primitive p) h = refl
  val-front val.String h = refl
  val-front (val.Id t) h =
      ap (λ (ts : List Tree). get_or ts t.0 TextTree) (references-append ns [] front rest)
      ∙ trees-kept ns (references ns [] front) rest t.0 (let l = ltb-true t.0 (length front) h in omega (arith, l, references-length ns [] front))

  if-front : (v : Option ValType) → option_all (is_below (length front)) v ≡ true → option_map (read_val all) v ≡ option_map (read_val few) v
  if-front None h = refl
  if-front (Some v) h = ap (λ (t : Tree). Some t) (val-front v h)

  choice-front : (n : List ℕ) (v : Option ValType) → option_all (is_below (length front)) v ≡ true → (cs ds : Choices) → cs ≡ ds → read_choice all n v cs ≡ read_choice few n v ds
  choice-front n None h cs ds e = let f = e in cc
  choice-front n (Some v) h cs ds e = let f = e in let x = val-front v h in cc

  tuple-front : (vs : List ValType) → list_all (is_below (length front)) vs ≡ true → read_tuple all vs ≡ read_tuple few vs
  tuple-front [] h = refl
  tuple-front (v ∷ vs) h =
      let t = and_parts (is_below (length front) v) (list_all (is_below (length front)) vs) h in
      let x = val-front v t.0 in let y = tuple-front vs t.1 in cc

  fields-front : (fs : List Field) → list_all (λ f. is_below (length front) f.ty) fs ≡ true → read_fields all fs ≡ read_fields few fs
  fields-front [] h = refl
  fields-front (f ∷ fs) h =
      let t = and_parts (is_below (length front) f.ty) (list_all (λ f. is_below (length front) f.ty) fs) h in
      let x = val-front f.ty t.0 in let y = fields-front fs t.1 in cc

  pub params-front : (ps : List Parameter) → list_all (λ p. is_below (length front) p.ty) ps ≡ true → read_params all ps ≡ read_params few ps
  params-front [] h = refl
  params-front (p ∷ ps) h =
      let t = and_parts (is_below (length front) p.ty) (list_all (λ p. is_below (length front) p.ty) ps) h in
      let x = val-front p.ty t.0 in let y = params-front ps t.1 in cc

  cases-front : (cs : List Case) → list_all (λ c. option_all (is_below (length front)) c.ty) cs ≡ true → read_cases all cs ≡ read_cases few cs
  cases-front [] h = refl
  cases-front (c ∷ cs) h =
      let t = and_parts (option_all (is_below (length front)) c.ty) (list_all (λ c. option_all (is_below (length front)) c.ty) cs) h in
      choice-front c.name c.ty t.0 _ _ (cases-front cs t.1)

  pub kind-front : (k : TypeDefKind) → kind_all (is_below (length front)) k ≡ true → read_kind all k ≡ read_kind few k
  kind-front (kind.Use t) h = val-front (val.Id t) h
  kind-front (kind.Alias v) h = val-front v h
  kind-front (kind.List v) h = let x = val-front v h in cc
  kind-front (kind.Option v) h = let x = val-front v h in cc
  kind-front (kind.Result ok error) h =
      let t = and_parts (option_all (is_below (length front)) ok) (option_all (is_below (length front)) error) h in
      ap (VariantTree AsResult) (choice-front ok_label ok t.0 _ _ (choice-front error_label error t.1 no_choices no_choices refl))
  kind-front (kind.Tuple vs) h = let x = tuple-front vs h in cc
  kind-front (kind.Record fs) h = let x = fields-front fs h in cc
  kind-front (kind.Variant cs) h = let x = cases-front cs h in cc
  kind-front (kind.Enum names) h = refl
  kind-front (kind.Flags names) h = refl

  meaning-front : (k : TypeDefKind) → kind_all (is_below (length front)) k ≡ true → meaning_of all k ≡ meaning_of few k
  meaning-front (kind.Use t) h = ap IsUse (val-front (val.Id t) h)
  meaning-front (kind.Alias v) h = ap IsType (kind-front (kind.Alias v) h)
  meaning-front (kind.List v) h = ap IsType (kind-front (kind.List v) h)
  meaning-front (kind.Option v) h = ap IsType (kind-front (kind.Option v) h)
  meaning-front (kind.Result ok error) h = ap IsType (kind-front (kind.Result ok error) h)
  meaning-front (kind.Tuple vs) h = ap IsType (kind-front (kind.Tuple vs) h)
  meaning-front (kind.Record fs) h = ap IsType (kind-front (kind.Record fs) h)
  meaning-front (kind.Variant cs) h = ap IsType (kind-front (kind.Variant cs) h)
  meaning-front (kind.Enum names) h = refl
  meaning-front (kind.Flags names) h = refl

  named-front : (m : Option TypeName) (k : TypeDefKind) → kind_all (is_below (length front)) k ≡ true → named_by ns all m k ≡ named_by ns few m k
  named-front None k h = refl
  named-front (Some n) k h = let x = meaning-front k h in cc

  pub function-front : (f : Function) → definition_below (length front) (row.Function f) ≡ true → function_meaning (references ns [] (front ++ rest)) f ≡ function_meaning (references ns [] front) f
  function-front f h =
      let t = and_parts (list_all (λ p. is_below (length front) p.ty) f.params) (option_all (is_below (length front)) f.result) h in
      let x = params-front f.params t.0 in
      let y = if-front f.result t.1 in
      cc

  -- a row that names rows before it means what it does by these
  pub definition-front : (d : Definition) → definition_below (length front) d ≡ true → definition_of ns (references ns [] (front ++ rest)) d ≡ definition_of ns (references ns [] front) d
  definition-front (row.Type d) h = named-front d.name d.kind h
  definition-front (row.Function f) h = ap (named_function ns f.owner f.name) (function-front f h)

none-named : (ns : List (List ℕ)) (trees : List Tree) (d : Definition) → is_named d ≡ false → definition_of ns trees d ≡ []
none-named ns trees (row.Function f) h = absurd (false≢true (sym h))
none-named ns trees (row.Type d) h = by d.name h
  where
    by : (m : Option TypeName) → not (not (is_some m)) ≡ false → named_by ns trees m d.kind ≡ []
    by None h = refl
    by (Some n) h = absurd (false≢true (sym h))

front-below : (n : ℕ) (front : List Definition) (d : Definition) (rest : List Definition) → are_earlier n (front ++ d ∷ rest) ≡ true → definition_below (n + length front) d ≡ true
front-below n [] d rest h = subst (λ m. definition_below m d ≡ true) (omega arith) (and_parts (definition_below n d) (are_earlier (n + 1) rest) h).0
front-below n (f ∷ front) d rest h =
    subst (λ m. definition_below m d ≡ true) (omega arith) (front-below (n + 1) front d rest (and_parts (definition_below n f) (are_earlier (n + 1) (front ++ d ∷ rest)) h).1)

-- a row of a table names rows before it
pub row-below : (front : List Definition) (d : Definition) (rest : List Definition) → are_earlier 0 (front ++ d ∷ rest) ≡ true → definition_below (length front) d ≡ true
row-below front d rest h = subst (λ m. definition_below m d ≡ true) (omega arith) (front-below 0 front d rest h)

pub get-there : {A : Type 0} (front : List A) (d : A) (rest : List A) → slice_get (front ++ d ∷ rest) (length front) ≡ Some d
get-there [] d rest = refl
get-there (f ∷ front) d rest = get-there front d rest

-- the definitions at the places of rows with names are those of the rows
pub places-mean : (ns : List (List ℕ)) (rows : List Definition) → are_earlier 0 rows ≡ true → (front xs rest : List Definition) → rows ≡ front ++ (xs ++ rest)
    → flat_map (λ k. definitions_in ns (references ns [] rows) (slice_get rows k)) (places_where is_named (length front) xs) ≡ definitions_from ns (references ns [] front) xs
places-mean ns rows earlier front [] rest e = refl
places-mean ns rows earlier front (x ∷ xs) rest e =
    let long : length (front ++ x ∷ []) ≡ length front + 1 = length-append front (x ∷ []) in
    let others = places-mean ns rows earlier (front ++ x ∷ []) xs rest (e ∙ sym (append_assoc front (x ∷ []) (xs ++ rest))) in
    let on : flat_map (λ k. definitions_in ns (references ns [] rows) (slice_get rows k)) (places_where is_named (length front + 1) xs) ≡ definitions_from ns (references ns [] front ++ reference ns (references ns [] front) x ∷ []) xs =
    ap (λ n. flat_map (λ k. definitions_in ns (references ns [] rows) (slice_get rows k)) (places_where is_named n xs)) (sym long)
    ∙ (others ∙ ap (λ (ts : List Tree). definitions_from ns ts xs) (references-append ns [] front (x ∷ []))) in
    let here : definition_of ns (references ns [] rows) x ≡ definition_of ns (references ns [] front) x =
    ap (λ (ds : List Definition). definition_of ns (references ns [] ds) x) e ∙ definition-front ns front (x ∷ (xs ++ rest)) x (row-below front x (xs ++ rest) (subst (λ (ds : List Definition). are_earlier 0 ds ≡ true) e earlier)) in
    by (is_named x) refl here on
  where
    by : (b : Bool) → is_named x ≡ b → definition_of ns (references ns [] rows) x ≡ definition_of ns (references ns [] front) x
        → flat_map (λ k. definitions_in ns (references ns [] rows) (slice_get rows k)) (places_where is_named (length front + 1) xs) ≡ definitions_from ns (references ns [] front ++ reference ns (references ns [] front) x ∷ []) xs
        → flat_map (λ k. definitions_in ns (references ns [] rows) (slice_get rows k)) (if b then length front ∷ places_where is_named (length front + 1) xs else places_where is_named (length front + 1) xs)
        ≡ definition_of ns (references ns [] front) x ++ definitions_from ns (references ns [] front ++ reference ns (references ns [] front) x ∷ []) xs
    by true n here on =
        let got : slice_get rows (length front) ≡ Some x = ap (λ (ds : List Definition). slice_get ds (length front)) e ∙ get-there front x (xs ++ rest) in
        let one : definitions_in ns (references ns [] rows) (slice_get rows (length front)) ≡ definition_of ns (references ns [] front) x = ap (definitions_in ns (references ns [] rows)) got ∙ here in
        ap (λ (ys : List NamedDefinition). ys ++ flat_map (λ k. definitions_in ns (references ns [] rows) (slice_get rows k)) (places_where is_named (length front + 1) xs)) one
        ∙ ap (λ (ys : List NamedDefinition). definition_of ns (references ns [] front) x ++ ys) on
    by false n here on =
        on ∙ ap (λ (ys : List NamedDefinition). ys ++ definitions_from ns (references ns [] front ++ reference ns (references ns [] front) x ∷ []) xs) (sym (none-named ns (references ns [] front) x n))
