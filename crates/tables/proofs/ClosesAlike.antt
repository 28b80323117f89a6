-- A definition closed over its names is the definition closed over the table.
use Rattle.std.proofs.Common.{◌≡◌, ℕ, zero, suc, Bool, true, false, cond, ◌||◌, List, [], ◌∷◌, ◌++◌, Option, None, Some, map, length, get_or, refl, ap, sym, subst, ◌∙◌, arith}
use Rattle.std.specs.Option.{option_map}
use Rattle.std.proofs.lemmas.List.{length-append, append-nil}
use Rattle.std.proofs.lemmas.Slice.Eq.{bytes_eq-Decides}
use Rattle.canonical_abi.specs.Types.{ClosedType, string_type, list_type, record_type, variant_type, fields_of, cases_of}
use Rattle.canonical_abi.specs.Types as closed
use Rattle.tables.specs.Closed.{closed_val, closed_kind, closed_params, closed_definition, closed_rows}
use Rattle.tables.specs.Package.{ClosesAlike, HasDistinctTypes, IsDistinctName, Key, key_of, is_same_key, is_known, lookup, environment_entry, environment, Environment, meaning_of, named_by, named_function, function_meaning, definitions_from, reference_by, references, interface_names, Tree, TextTree, Reference, RecordTree, Plain, Choices, closed_tree, closed_choices, read_val, read_choice, read_tuple, read_fields, read_params, read_cases, read_enum, read_kind, closed_tree_fields}
use Rattle.tables.specs.declared.tables.ValType.{ValType}
use Rattle.tables.specs.declared.tables.ValType.TheVariants as val
use Rattle.tables.specs.declared.tables.TypeDefKind.{TypeDefKind}
use Rattle.tables.specs.declared.tables.TypeDefKind.TheVariants as kind
use Rattle.tables.specs.declared.tables.TypeName.{TypeName}
use Rattle.tables.specs.declared.tables.Parameter.{Parameter}
use Rattle.tables.specs.declared.tables.Field.{Field}
use Rattle.tables.specs.declared.tables.Case.{Case}
use Rattle.tables.specs.declared.tables.Owner.{Owner}
use Rattle.tables.specs.declared.tables.Owner.TheVariants as owner
use Rattle.tables.specs.declared.tables.Function.{Function}
use Rattle.tables.specs.declared.tables.Definition.{Definition}
use Rattle.tables.specs.declared.tables.Definition.TheVariants as row
use Rattle.tables.specs.declared.tables.Resolve.{Resolve}

-- the rows' closed types are those of the trees that they read as
abbrev Agree : Environment → List Tree → List ClosedType → Type 0
Agree env trees rows = (k : ℕ) → closed_tree env (get_or trees k TextTree) ≡ get_or rows k string_type

module _ (env : Environment) (trees : List Tree) (rows : List ClosedType) (agree : Agree env trees rows) where
  val-closed : (v : ValType) → closed_tree env (read_val trees v) ≡ closed_val rows v
  val-closed (val.Primitive p) = refl
  val-closed val.String = refl
  val-closed (val.Id t) = agree t.0

  tuple-closed : (vs : List ValType) → closed_tree_fields env (read_tuple trees vs) ≡ fields_of (map (λ v. closed_val rows v) vs)
  tuple-closed [] = refl
  tuple-closed (v ∷ vs) = rw (val-closed v, tuple-closed vs) refl

  fields-closed : (fs : List Field) → closed_tree_fields env (read_fields trees fs) ≡ fields_of (map (λ f. closed_val rows f.ty) fs)
  fields-closed [] = refl
  fields-closed (f ∷ fs) = rw (val-closed f.ty, fields-closed fs) refl

  params-closed : (ps : List Parameter) → closed_tree_fields env (read_params trees ps) ≡ fields_of (closed_params rows ps)
  params-closed [] = refl
  params-closed (p ∷ ps) = rw (val-closed p.ty, params-closed ps) refl

  choice-closed : (label : List ℕ) (c : Option ValType) (cs : Choices) (os : List (Option ClosedType)) → closed_choices env cs ≡ cases_of os
      → closed_choices env (read_choice trees label c cs) ≡ cases_of (option_map (closed_val rows) c ∷ os)
  choice-closed label None cs os e = ap (λ (c : closed.Cases). closed.plain_case c) e
  choice-closed label (Some v) cs os e = rw (val-closed v, e) refl

  cases-closed : (cs : List Case) → closed_choices env (read_cases trees cs) ≡ cases_of (map (λ c. option_map (closed_val rows) c.ty) cs)
  cases-closed [] = refl
  cases-closed (c ∷ cs) = choice-closed c.name c.ty (read_cases trees cs) (map (λ c. option_map (closed_val rows) c.ty) cs) (cases-closed cs)

  enum-closed : (ns : List (List ℕ)) → closed_choices env (read_enum ns) ≡ cases_of (map (λ n. None) ns)
  enum-closed [] = refl
  enum-closed (n ∷ ns) = ap (λ (c : closed.Cases). closed.plain_case c) (enum-closed ns)

  kind-closed : (k : TypeDefKind) → closed_tree env (read_kind trees k) ≡ closed_kind rows k
  kind-closed (kind.Use t) = val-closed (val.Id t)
  kind-closed (kind.Alias v) = val-closed v
  kind-closed (kind.List v) = ap (λ (t : ClosedType). list_type t) (val-closed v)
  kind-closed (kind.Option v) = ap (λ (t : ClosedType). variant_type (closed.plain_case (closed.case_with t closed.no_case))) (val-closed v)
  kind-closed (kind.Result ok error) =
      ap (λ (c : closed.Cases). variant_type c) (choice-closed _ ok _ (option_map (closed_val rows) error ∷ []) (choice-closed _ error _ [] refl))
  kind-closed (kind.Tuple vs) = rw (tuple-closed vs) refl
  kind-closed (kind.Record fs) = rw (fields-closed fs) refl
  kind-closed (kind.Variant cs) = rw (cases-closed cs) refl
  kind-closed (kind.Enum names) = rw (enum-closed names) refl
  kind-closed (kind.Flags names) = refl

  function-closed : (f : Function) → closed_tree env (RecordTree Plain (read_params trees f.params)) ≡ closed_definition rows (row.Function f)
  function-closed f = ap (λ (fs : closed.Fields). record_type fs) (params-closed f.params)

abbrev keys : Environment → List Key
keys [] = []
keys (e ∷ es) = e.0 ∷ keys es

-- trees as a table's rows make them, over an environment that has their names
data Reads (env : Environment) : List Tree → List ClosedType → Type 0 where
  none : Reads env [] []
  named : {ts : List Tree} {cs : List ClosedType} (n : Key) (c : ClosedType) → Reads env ts cs → is_known (keys env) n ≡ true → lookup env n ≡ c
      → Reads env (ts ++ Reference n ∷ []) (cs ++ c ∷ [])
  plain : {ts : List Tree} {cs : List ClosedType} (k : TypeDefKind) → Reads env ts cs
      → Reads env (ts ++ read_kind ts k ∷ []) (cs ++ closed_kind cs k ∷ [])
  called : {ts : List Tree} {cs : List ClosedType} (f : Function) → Reads env ts cs
      → Reads env (ts ++ RecordTree Plain (read_params ts f.params) ∷ []) (cs ++ closed_definition cs (row.Function f) ∷ [])

pushed : (env : Environment) (ts : List Tree) (cs : List ClosedType) (t : Tree) (c : ClosedType) → length ts ≡ length cs → Agree env ts cs → closed_tree env t ≡ c
    → Agree env (ts ++ t ∷ []) (cs ++ c ∷ [])
pushed env [] [] t c l agree e zero = e
pushed env [] [] t c l agree e (suc k) = refl
pushed env [] (d ∷ cs) t c l agree e k = absurd (cc)
pushed env (u ∷ ts) [] t c l agree e k = absurd (cc)
pushed env (u ∷ ts) (d ∷ cs) t c l agree e zero = agree 0
pushed env (u ∷ ts) (d ∷ cs) t c l agree e (suc k) = pushed env ts cs t c (cc) (λ j. agree (suc j)) e k

length-push : {A B : Type 0} (xs : List A) (ys : List B) (x : A) (y : B) → length xs ≡ length ys → length (xs ++ x ∷ []) ≡ length (ys ++ y ∷ [])
length-push xs ys x y h = omega (arith, length-append xs (x ∷ []), length-append ys (y ∷ []))

same_length : {env : Environment} {ts : List Tree} {cs : List ClosedType} → Reads env ts cs → length ts ≡ length cs
same_length none = refl
same_length (named {ts} {cs} n c r known is) = length-push ts cs (Reference n) c (same_length r)
same_length (plain {ts} {cs} k r) = length-push ts cs (read_kind ts k) (closed_kind cs k) (same_length r)
same_length (called {ts} {cs} f r) = length-push ts cs (RecordTree Plain (read_params ts f.params)) (closed_definition cs (row.Function f)) (same_length r)

agree_by : {env : Environment} {ts : List Tree} {cs : List ClosedType} → Reads env ts cs → Agree env ts cs
agree_by none k = refl
agree_by {env} (named {ts} {cs} n c r known is) k = pushed env ts cs (Reference n) c (same_length r) (λ j. agree_by r j) is k
agree_by {env} (plain {ts} {cs} kind r) k =
    pushed env ts cs (read_kind ts kind) (closed_kind cs kind) (same_length r) (λ j. agree_by r j) (kind-closed env ts cs (λ j. agree_by r j) kind) k
agree_by {env} (called {ts} {cs} f r) k =
    pushed env ts cs (RecordTree Plain (read_params ts f.params)) (closed_definition cs (row.Function f)) (same_length r) (λ j. agree_by r j)
    (function-closed env ts cs (λ j. agree_by r j) f) k

lookup_front : (env es : Environment) (n : Key) → is_known (keys env) n ≡ true → lookup (env ++ es) n ≡ lookup env n
lookup_front [] es n h = absurd (cc)
lookup_front (e ∷ env) es n h = go (is_same_key e.0 n) h (λ g. lookup_front env es n g)
  where
    go : (b : Bool) → (b || is_known (keys env) n) ≡ true → (is_known (keys env) n ≡ true → lookup (env ++ es) n ≡ lookup env n) → cond b e.1 (lookup (env ++ es) n) ≡ cond b e.1 (lookup env n)
    go true h rest = refl
    go false h rest = rest h

known_front : (env es : Environment) (n : Key) → is_known (keys env) n ≡ true → is_known (keys (env ++ es)) n ≡ true
known_front [] es n h = absurd (cc)
known_front (e ∷ env) es n h = go (is_same_key e.0 n) h (λ g. known_front env es n g)
  where
    go : (b : Bool) → (b || is_known (keys env) n) ≡ true → (is_known (keys env) n ≡ true → is_known (keys (env ++ es)) n ≡ true) → (b || is_known (keys (env ++ es)) n) ≡ true
    go true h rest = refl
    go false h rest = rest h

extended : {env : Environment} {ts : List Tree} {cs : List ClosedType} (es : Environment) → Reads env ts cs → Reads (env ++ es) ts cs
extended es none = none
extended {env} es (named n c r known is) = named n c (extended es r) (known_front env es n known) (lookup_front env es n known ∙ is)
extended es (plain k r) = plain k (extended es r)
extended es (called f r) = called f (extended es r)

same_key : (n : Key) → is_same_key n n ≡ true
same_key n = rw ((bytes_eq-Decides n.interface n.interface).1 refl, (bytes_eq-Decides n.name n.name).1 refl) refl

keys-push : (env : Environment) (n : Key) (c : ClosedType) → keys (env ++ (n, c) ∷ []) ≡ keys env ++ n ∷ []
keys-push [] n c = refl
keys-push (e ∷ env) n c = ap (λ (ms : List Key). e.0 ∷ ms) (keys-push env n c)

known_last : (env : Environment) (n : Key) (c : ClosedType) → is_known (keys (env ++ (n, c) ∷ [])) n ≡ true
known_last [] n c = rw (same_key n) refl
known_last (e ∷ env) n c = go (is_same_key e.0 n) (known_last env n c)
  where
    go : (b : Bool) → is_known (keys (env ++ (n, c) ∷ [])) n ≡ true → (b || is_known (keys (env ++ (n, c) ∷ [])) n) ≡ true
    go true h = refl
    go false h = h

lookup_last : (env : Environment) (n : Key) (c : ClosedType) → is_known (keys env) n ≡ false → lookup (env ++ (n, c) ∷ []) n ≡ c
lookup_last [] n c h = rw (same_key n) refl
lookup_last (e ∷ env) n c h = go (is_same_key e.0 n) h (λ g. lookup_last env n c g)
  where
    go : (b : Bool) → (b || is_known (keys env) n) ≡ false → (is_known (keys env) n ≡ false → lookup (env ++ (n, c) ∷ []) n ≡ c)
        → cond b e.1 (lookup (env ++ (n, c) ∷ []) n) ≡ c
    go true h rest = absurd (cc)
    go false h rest = rest h

-- a type's name adds its closed type
entry-of : (env : Environment) (ts : List Tree) (n : Key) (k : TypeDefKind) → environment_entry env n (meaning_of ts k) ≡ (n, closed_tree env (read_kind ts k)) ∷ []
entry-of env ts n (kind.Use t) = refl
entry-of env ts n (kind.Alias v) = refl
entry-of env ts n (kind.List v) = refl
entry-of env ts n (kind.Option v) = refl
entry-of env ts n (kind.Result ok error) = refl
entry-of env ts n (kind.Tuple vs) = refl
entry-of env ts n (kind.Record fs) = refl
entry-of env ts n (kind.Variant cs) = refl
entry-of env ts n (kind.Enum names) = refl
entry-of env ts n (kind.Flags names) = refl

module _ (interfaces : List (List ℕ)) where
  abbrev Rest : List Definition → Type 0
  Rest ds = (env : Environment) (ts : List Tree) (cs : List ClosedType) → Reads env ts cs → HasDistinctTypes interfaces ds (keys env)
      → Reads (environment env (definitions_from interfaces ts ds)) (references interfaces ts ds) (closed_rows cs ds)

  type-step : (ds : List Definition) (env : Environment) (ts : List Tree) (cs : List ClosedType) (k : TypeDefKind) (name : Option TypeName) → Reads env ts cs
      → IsDistinctName interfaces (keys env) name (HasDistinctTypes interfaces ds) → Rest ds
      → Reads (environment env (named_by interfaces ts name k ++ definitions_from interfaces (ts ++ reference_by interfaces name (read_kind ts k) ∷ []) ds))
      (references interfaces (ts ++ reference_by interfaces name (read_kind ts k) ∷ []) ds) (closed_rows (cs ++ closed_kind cs k ∷ []) ds)
  type-step ds env ts cs k None r h rest = rest env (ts ++ read_kind ts k ∷ []) (cs ++ closed_kind cs k ∷ []) (plain k r) h
  type-step ds env ts cs k (Some n) r h rest =
      let key = key_of interfaces n in
      let c = closed_tree env (read_kind ts k) in
      let more : Reads (env ++ (key, c) ∷ []) (ts ++ Reference key ∷ []) (cs ++ closed_kind cs k ∷ []) =
      named key (closed_kind cs k) (extended ((key, c) ∷ []) r) (known_last env key c) (lookup_last env key c h.0 ∙ kind-closed env ts cs (agree_by r) k) in
      let distinct : HasDistinctTypes interfaces ds (keys (env ++ (key, c) ∷ [])) = rw (keys-push env key c) h.1 in
      let whole = rest (env ++ (key, c) ∷ []) (ts ++ Reference key ∷ []) (cs ++ closed_kind cs k ∷ []) more distinct in
      let family : Environment → Type 0 = λ es. Reads (environment (env ++ es) (definitions_from interfaces (ts ++ Reference key ∷ []) ds)) (references interfaces (ts ++ Reference key ∷ []) ds) (closed_rows (cs ++ closed_kind cs k ∷ []) ds) in
      subst family (sym (entry-of env ts key k)) whole

  steps : (ds : List Definition) → Rest ds
  steps [] env ts cs r h = r
  steps (row.Type d ∷ ds) env ts cs r h = type-step ds env ts cs d.kind d.name r h (steps ds)
  steps (row.Function f ∷ ds) env ts cs r h =
      function-step f.owner (steps ds env (ts ++ RecordTree Plain (read_params ts f.params) ∷ []) (cs ++ closed_definition cs (row.Function f) ∷ []) (called f r) h)
    where
      us : List Tree
      us = ts ++ RecordTree Plain (read_params ts f.params) ∷ []

      function-step : (o : Owner) → Reads (environment env (definitions_from interfaces us ds)) (references interfaces us ds) (closed_rows (cs ++ closed_definition cs (row.Function f) ∷ []) ds)
          → Reads (environment env (named_function interfaces o f.name (function_meaning ts f) ++ definitions_from interfaces us ds)) (references interfaces us ds) (closed_rows (cs ++ closed_definition cs (row.Function f) ∷ []) ds)
      function-step (owner.Interface i) h =
          subst (λ (es : Environment). Reads (environment es (definitions_from interfaces us ds)) (references interfaces us ds) (closed_rows (cs ++ closed_definition cs (row.Function f) ∷ []) ds)) (sym (append-nil env)) h
      function-step (owner.World w) h = h

pub closes_alike : (r : Resolve) → ClosesAlike r
closes_alike r distinct v = val-closed _ _ _ (agree_by (steps (interface_names r) r.definitions [] [] [] none distinct)) v
