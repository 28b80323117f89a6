-- A type labelled by its names is the type labelled by the table.
use Rattle.std.proofs.Common.{◌≡◌, ℕ, zero, suc, Bool, true, false, cond, ◌||◌, List, [], ◌∷◌, ◌++◌, Option, None, Some, length, get_or, refl, ap, sym, subst, ◌∙◌, arith}
use Rattle.std.proofs.lemmas.List.{length-append, append-nil}
use Rattle.std.proofs.lemmas.Slice.Eq.{bytes_eq-Decides}
use Rattle.canonical_abi.specs.Labelled.{Label, ok_label, error_label, LabelledType, labelled_string, labelled_list, labelled_option, labelled_tuple, labelled_record, labelled_variant, labelled_enum, LabelledTypes, LabelledFields, LabelledCases}
use Rattle.tables.specs.Labelled.{labelled_val, labelled_payload, labelled_members, labelled_fields, labelled_cases, labelled_params, labelled_kind, labelled_definition, labelled_rows}
use Rattle.tables.specs.Package.{HasDistinctTypes, IsDistinctName, Key, key_of, is_same_key, is_known, meaning_of, named_by, named_function, function_meaning, definitions_from, reference_by, references, interface_names, Tree, TextTree, Reference, RecordTree, Plain, Choices, no_choices, read_val, read_choice, read_tuple, read_fields, read_params, read_cases, read_enum, read_kind}
use Rattle.tables.specs.declared.tables.ValType.{ValType}
use Rattle.tables.specs.declared.tables.ValType.TheVariants as val
use Rattle.tables.specs.declared.tables.TypeDefKind.{TypeDefKind}
use Rattle.tables.specs.declared.tables.TypeDefKind.TheVariants as kind
use Rattle.tables.specs.declared.tables.TypeName.{TypeName}
use Rattle.tables.specs.declared.tables.Parameter.{Parameter}
use Rattle.tables.specs.declared.tables.Field.{Field}
use Rattle.tables.specs.declared.tables.Case.{Case}
use Rattle.tables.specs.declared.tables.Owner.{Owner}
use Rattle.tables.specs.declared.tables.Owner.TheVariants as owner
use Rattle.tables.specs.declared.tables.Function.{Function}
use Rattle.tables.specs.declared.tables.Definition.{Definition}
use Rattle.tables.specs.declared.tables.Definition.TheVariants as row
use Rattle.tables.specs.declared.tables.Resolve.{Resolve}
use Rattle.value_json.specs.ByNames.{LabelsAlike, LabelledNames, labelled_name, choice_labels, labelled_tree, first_payload, second_payload, tree_members, tree_fields, tree_cases, labelled_entry, labelled_names}

-- the rows' labelled types are those of the trees that they read as
abbrev Agree : LabelledNames → List Tree → List LabelledType → Type 0
Agree names trees rows = (k : ℕ) → labelled_tree names (get_or trees k TextTree) ≡ get_or rows k labelled_string

module _ (names : LabelledNames) (trees : List Tree) (rows : List LabelledType) (agree : Agree names trees rows) where
  of-val : (v : ValType) → labelled_tree names (read_val trees v) ≡ labelled_val rows v
  of-val (val.Primitive p) = refl
  of-val val.String = refl
  of-val (val.Id t) = agree t.0

  of-tuple : (vs : List ValType) → tree_members names (read_tuple trees vs) ≡ labelled_members rows vs
  of-tuple [] = refl
  of-tuple (v ∷ vs) = rw (of-val v, of-tuple vs) refl

  of-fields : (fs : List Field) → tree_fields names (read_fields trees fs) ≡ labelled_fields rows fs
  of-fields [] = refl
  of-fields (f ∷ fs) = rw (of-val f.ty, of-fields fs) refl

  of-params : (ps : List Parameter) → tree_fields names (read_params trees ps) ≡ labelled_params rows ps
  of-params [] = refl
  of-params (p ∷ ps) = rw (of-val p.ty, of-params ps) refl

  of-cases : (cs : List Case) → tree_cases names (read_cases trees cs) ≡ labelled_cases rows cs
  of-cases [] = refl
  of-cases (c ∷ cs) = by c.ty (of-cases cs)
    where
      by : (o : Option ValType) → tree_cases names (read_cases trees cs) ≡ labelled_cases rows cs
          → tree_cases names (read_choice trees c.name o (read_cases trees cs)) ≡ labelled_cases rows (record c { ty = o } ∷ cs)
      by None e = rw e refl
      by (Some v) e = rw (of-val v, e) refl

  of-enum : (ns : List Label) → choice_labels (read_enum ns) ≡ ns
  of-enum [] = refl
  of-enum (n ∷ ns) = ap (λ (ls : List Label). n ∷ ls) (of-enum ns)

  of-first : (l : Label) (o : Option ValType) (cs : Choices) → first_payload names (read_choice trees l o cs) ≡ labelled_payload rows o
  of-first l None cs = refl
  of-first l (Some v) cs = rw (of-val v) refl

  of-second : (l : Label) (o : Option ValType) (cs : Choices) → second_payload names (read_choice trees l o cs) ≡ first_payload names cs
  of-second l None cs = refl
  of-second l (Some v) cs = refl

  of-kind : (k : TypeDefKind) → labelled_tree names (read_kind trees k) ≡ labelled_kind rows k
  of-kind (kind.Use t) = of-val (val.Id t)
  of-kind (kind.Alias v) = of-val v
  of-kind (kind.List v) = ap (λ (t : LabelledType). labelled_list t) (of-val v)
  of-kind (kind.Option v) = ap (λ (t : LabelledType). labelled_option t) (of-val v)
  of-kind (kind.Result ok error) =
      let rest = read_choice trees error_label error no_choices in
      let first = of-first ok_label ok rest in
      let second = of-second ok_label ok rest ∙ of-first error_label error no_choices in
      rw (first, second) refl
  of-kind (kind.Tuple vs) = ap (λ (ts : LabelledTypes). labelled_tuple ts) (of-tuple vs)
  of-kind (kind.Record fs) = ap (λ (xs : LabelledFields). labelled_record xs) (of-fields fs)
  of-kind (kind.Variant cs) = ap (λ (xs : LabelledCases). labelled_variant xs) (of-cases cs)
  of-kind (kind.Enum ns) = ap (λ (ls : List Label). labelled_enum ls) (of-enum ns)
  of-kind (kind.Flags ns) = refl

  of-function : (f : Function) → labelled_tree names (RecordTree Plain (read_params trees f.params)) ≡ labelled_definition rows (row.Function f)
  of-function f = ap (λ (fs : LabelledFields). labelled_record fs) (of-params f.params)

abbrev keys : LabelledNames → List Key
keys [] = []
keys (e ∷ es) = e.0 ∷ keys es

-- trees as a table's rows make them, where all their names are told
data Reads (names : LabelledNames) : List Tree → List LabelledType → Type 0 where
  none : Reads names [] []
  named : {ts : List Tree} {ls : List LabelledType} (n : Key) (l : LabelledType) → Reads names ts ls → is_known (keys names) n ≡ true → labelled_name names n ≡ l
      → Reads names (ts ++ Reference n ∷ []) (ls ++ l ∷ [])
  plain : {ts : List Tree} {ls : List LabelledType} (k : TypeDefKind) → Reads names ts ls
      → Reads names (ts ++ read_kind ts k ∷ []) (ls ++ labelled_kind ls k ∷ [])
  called : {ts : List Tree} {ls : List LabelledType} (f : Function) → Reads names ts ls
      → Reads names (ts ++ RecordTree Plain (read_params ts f.params) ∷ []) (ls ++ labelled_definition ls (row.Function f) ∷ [])

pushed : (names : LabelledNames) (ts : List Tree) (ls : List LabelledType) (t : Tree) (l : LabelledType) → length ts ≡ length ls → Agree names ts ls → labelled_tree names t ≡ l
    → Agree names (ts ++ t ∷ []) (ls ++ l ∷ [])
pushed names [] [] t l h agree e zero = e
pushed names [] [] t l h agree e (suc k) = refl
pushed names [] (m ∷ ls) t l h agree e k = absurd (cc)
pushed names (u ∷ ts) [] t l h agree e k = absurd (cc)
pushed names (u ∷ ts) (m ∷ ls) t l h agree e zero = agree 0
pushed names (u ∷ ts) (m ∷ ls) t l h agree e (suc k) = pushed names ts ls t l (cc) (λ j. agree (suc j)) e k

length-push : {A B : Type 0} (xs : List A) (ys : List B) (x : A) (y : B) → length xs ≡ length ys → length (xs ++ x ∷ []) ≡ length (ys ++ y ∷ [])
length-push xs ys x y h = omega (arith, length-append xs (x ∷ []), length-append ys (y ∷ []))

same_length : {names : LabelledNames} {ts : List Tree} {ls : List LabelledType} → Reads names ts ls → length ts ≡ length ls
same_length none = refl
same_length (named {ts} {ls} n l r known is) = length-push ts ls (Reference n) l (same_length r)
same_length (plain {ts} {ls} k r) = length-push ts ls (read_kind ts k) (labelled_kind ls k) (same_length r)
same_length (called {ts} {ls} f r) = length-push ts ls (RecordTree Plain (read_params ts f.params)) (labelled_definition ls (row.Function f)) (same_length r)

agree_by : {names : LabelledNames} {ts : List Tree} {ls : List LabelledType} → Reads names ts ls → Agree names ts ls
agree_by none k = refl
agree_by {names} (named {ts} {ls} n l r known is) k = pushed names ts ls (Reference n) l (same_length r) (λ j. agree_by r j) is k
agree_by {names} (plain {ts} {ls} kind r) k =
    pushed names ts ls (read_kind ts kind) (labelled_kind ls kind) (same_length r) (λ j. agree_by r j) (of-kind names ts ls (λ j. agree_by r j) kind) k
agree_by {names} (called {ts} {ls} f r) k =
    pushed names ts ls (RecordTree Plain (read_params ts f.params)) (labelled_definition ls (row.Function f)) (same_length r) (λ j. agree_by r j)
    (of-function names ts ls (λ j. agree_by r j) f) k

name_front : (names es : LabelledNames) (n : Key) → is_known (keys names) n ≡ true → labelled_name (names ++ es) n ≡ labelled_name names n
name_front [] es n h = absurd (cc)
name_front (e ∷ names) es n h = go (is_same_key e.0 n) h (λ g. name_front names es n g)
  where
    go : (b : Bool) → (b || is_known (keys names) n) ≡ true → (is_known (keys names) n ≡ true → labelled_name (names ++ es) n ≡ labelled_name names n)
        → cond b e.1 (labelled_name (names ++ es) n) ≡ cond b e.1 (labelled_name names n)
    go true h rest = refl
    go false h rest = rest h

known_front : (names es : LabelledNames) (n : Key) → is_known (keys names) n ≡ true → is_known (keys (names ++ es)) n ≡ true
known_front [] es n h = absurd (cc)
known_front (e ∷ names) es n h = go (is_same_key e.0 n) h (λ g. known_front names es n g)
  where
    go : (b : Bool) → (b || is_known (keys names) n) ≡ true → (is_known (keys names) n ≡ true → is_known (keys (names ++ es)) n ≡ true) → (b || is_known (keys (names ++ es)) n) ≡ true
    go true h rest = refl
    go false h rest = rest h

extended : {names : LabelledNames} {ts : List Tree} {ls : List LabelledType} (es : LabelledNames) → Reads names ts ls → Reads (names ++ es) ts ls
extended es none = none
extended {names} es (named n l r known is) = named n l (extended es r) (known_front names es n known) (name_front names es n known ∙ is)
extended es (plain k r) = plain k (extended es r)
extended es (called f r) = called f (extended es r)

same_key : (n : Key) → is_same_key n n ≡ true
same_key n = rw ((bytes_eq-Decides n.interface n.interface).1 refl, (bytes_eq-Decides n.name n.name).1 refl) refl

keys-push : (names : LabelledNames) (n : Key) (l : LabelledType) → keys (names ++ (n, l) ∷ []) ≡ keys names ++ n ∷ []
keys-push [] n l = refl
keys-push (e ∷ names) n l = ap (λ (ms : List Key). e.0 ∷ ms) (keys-push names n l)

known_last : (names : LabelledNames) (n : Key) (l : LabelledType) → is_known (keys (names ++ (n, l) ∷ [])) n ≡ true
known_last [] n l = rw (same_key n) refl
known_last (e ∷ names) n l = go (is_same_key e.0 n) (known_last names n l)
  where
    go : (b : Bool) → is_known (keys (names ++ (n, l) ∷ [])) n ≡ true → (b || is_known (keys (names ++ (n, l) ∷ [])) n) ≡ true
    go true h = refl
    go false h = h

name_last : (names : LabelledNames) (n : Key) (l : LabelledType) → is_known (keys names) n ≡ false → labelled_name (names ++ (n, l) ∷ []) n ≡ l
name_last [] n l h = rw (same_key n) refl
name_last (e ∷ names) n l h = go (is_same_key e.0 n) h (λ g. name_last names n l g)
  where
    go : (b : Bool) → (b || is_known (keys names) n) ≡ false → (is_known (keys names) n ≡ false → labelled_name (names ++ (n, l) ∷ []) n ≡ l)
        → cond b e.1 (labelled_name (names ++ (n, l) ∷ []) n) ≡ l
    go true h rest = absurd (cc)
    go false h rest = rest h

-- a type's name adds its labelled type
entry-of : (names : LabelledNames) (ts : List Tree) (n : Key) (k : TypeDefKind) → labelled_entry names n (meaning_of ts k) ≡ (n, labelled_tree names (read_kind ts k)) ∷ []
entry-of names ts n (kind.Use t) = refl
entry-of names ts n (kind.Alias v) = refl
entry-of names ts n (kind.List v) = refl
entry-of names ts n (kind.Option v) = refl
entry-of names ts n (kind.Result ok error) = refl
entry-of names ts n (kind.Tuple vs) = refl
entry-of names ts n (kind.Record fs) = refl
entry-of names ts n (kind.Variant cs) = refl
entry-of names ts n (kind.Enum ns) = refl
entry-of names ts n (kind.Flags ns) = refl

module _ (interfaces : List (List ℕ)) where
  abbrev Rest : List Definition → Type 0
  Rest ds = (names : LabelledNames) (ts : List Tree) (ls : List LabelledType) → Reads names ts ls → HasDistinctTypes interfaces ds (keys names)
      → Reads (labelled_names names (definitions_from interfaces ts ds)) (references interfaces ts ds) (labelled_rows ls ds)

  type-step : (ds : List Definition) (names : LabelledNames) (ts : List Tree) (ls : List LabelledType) (k : TypeDefKind) (name : Option TypeName) → Reads names ts ls
      → IsDistinctName interfaces (keys names) name (HasDistinctTypes interfaces ds) → Rest ds
      → Reads (labelled_names names (named_by interfaces ts name k ++ definitions_from interfaces (ts ++ reference_by interfaces name (read_kind ts k) ∷ []) ds))
      (references interfaces (ts ++ reference_by interfaces name (read_kind ts k) ∷ []) ds) (labelled_rows (ls ++ labelled_kind ls k ∷ []) ds)
  type-step ds names ts ls k None r h rest = rest names (ts ++ read_kind ts k ∷ []) (ls ++ labelled_kind ls k ∷ []) (plain k r) h
  type-step ds names ts ls k (Some n) r h rest =
      let key = key_of interfaces n in
      let l = labelled_tree names (read_kind ts k) in
      let more : Reads (names ++ (key, l) ∷ []) (ts ++ Reference key ∷ []) (ls ++ labelled_kind ls k ∷ []) =
      named key (labelled_kind ls k) (extended ((key, l) ∷ []) r) (known_last names key l) (name_last names key l h.0 ∙ of-kind names ts ls (agree_by r) k) in
      let distinct : HasDistinctTypes interfaces ds (keys (names ++ (key, l) ∷ [])) = rw (keys-push names key l) h.1 in
      let whole = rest (names ++ (key, l) ∷ []) (ts ++ Reference key ∷ []) (ls ++ labelled_kind ls k ∷ []) more distinct in
      let family : LabelledNames → Type 0 = λ es. Reads (labelled_names (names ++ es) (definitions_from interfaces (ts ++ Reference key ∷ []) ds)) (references interfaces (ts ++ Reference key ∷ []) ds) (labelled_rows (ls ++ labelled_kind ls k ∷ []) ds) in
      subst family (sym (entry-of names ts key k)) whole

  steps : (ds : List Definition) → Rest ds
  steps [] names ts ls r h = r
  steps (row.Type d ∷ ds) names ts ls r h = type-step ds names ts ls d.kind d.name r h (steps ds)
  steps (row.Function f ∷ ds) names ts ls r h =
      function-step f.owner (steps ds names (ts ++ RecordTree Plain (read_params ts f.params) ∷ []) (ls ++ labelled_definition ls (row.Function f) ∷ []) (called f r) h)
    where
      us : List Tree
      us = ts ++ RecordTree Plain (read_params ts f.params) ∷ []

      function-step : (o : Owner) → Reads (labelled_names names (definitions_from interfaces us ds)) (references interfaces us ds) (labelled_rows (ls ++ labelled_definition ls (row.Function f) ∷ []) ds)
          → Reads (labelled_names names (named_function interfaces o f.name (function_meaning ts f) ++ definitions_from interfaces us ds)) (references interfaces us ds) (labelled_rows (ls ++ labelled_definition ls (row.Function f) ∷ []) ds)
      function-step (owner.Interface i) h =
          subst (λ (es : LabelledNames). Reads (labelled_names es (definitions_from interfaces us ds)) (references interfaces us ds) (labelled_rows (ls ++ labelled_definition ls (row.Function f) ∷ []) ds)) (sym (append-nil names)) h
      function-step (owner.World w) h = h

pub labels_alike : (r : Resolve) → LabelsAlike r
labels_alike r distinct v = of-val _ _ _ (agree_by (steps (interface_names r) r.definitions [] [] [] none distinct)) v
