-- Whether rows are standard is told by their definitions by name.
use Rattle.std.proofs.Common.{◌≡◌, ◌+◌, ℕ, suc, List, [], ◌∷◌, ◌++◌, length, map, flat_map, refl, sym, ap, ◌∙◌, arith}
use Rattle.std.specs.Prelude.{Bool, true, false, not, ◌&&◌, nat_lt, if◌then◌else◌, sum, Option, None, Some, is_some}
use Rattle.std.specs.List.{list_all}
use Rattle.std.proofs.lemmas.Bool.{and_parts, false≢true}
use Rattle.tables.specs.Tables.{option_all, kind_all, definition_all, is_type, is_within, is_standard_kind, is_standard, are_standard}
use Rattle.tables.specs.Package.{Tree, TextTree, PrimTree, Reference, ListTree, VariantTree, RecordTree, FlagsTree, Choices, no_fields, field, no_choices, empty, holding, Meaning, IsUse, IsType, IsFunction, read_val, read_choice, read_tuple, read_fields, read_cases, read_enum, read_kind, meaning_of, references, named_by, TreeFields}
use Rattle.tables.specs.declared.tables.ValType.{ValType}
use Rattle.tables.specs.declared.tables.TypeDefKind.{TypeDefKind}
use Rattle.tables.specs.declared.tables.TypeDefKind.TheVariants as kind
use Rattle.tables.specs.declared.tables.TypeName.{TypeName}
use Rattle.tables.specs.declared.tables.Field.{Field}
use Rattle.tables.specs.declared.tables.Case.{Case}
use Rattle.tables.specs.declared.tables.Definition.{Definition}
use Rattle.tables.specs.declared.tables.Definition.TheVariants as row
use Rattle.package_form.specs.Postfix.{is_unnamed, unnamed, unnamed_if, unnamed_parameter, parts, parts_of, aliased, aliased_by, is_inner, Leaves}
use Rattle.package_form.specs.Ids.{is_use}
use Rattle.package_form.specs.Unused.{is_alias}
use Rattle.tree_meaning.proofs.tree_forms.WeightsByName.{nodes, nodes_in, nodes_if, total, sum-append, total-append, params-count, if-count, whole-count, val-count, Weights, sizes, Agree, by-name}
use Rattle.tree_meaning.proofs.TableRows.{IsTyped, not-use}
use Rattle.tree_meaning.proofs.AllDefinitions.{all_from, all_of}

-- ---- types that no text has

abbrev pub fields_length : TreeFields → ℕ
fields_length no_fields = 0
fields_length (field label t fs) = suc (fields_length fs)

abbrev pub choices_length : Choices → ℕ
choices_length no_choices = 0
choices_length (empty label cs) = suc (choices_length cs)
choices_length (holding label t cs) = suc (choices_length cs)

-- the top of a tree has parts wherever it must, and no more than the limits
abbrev pub is_standard_tree : Tree → Bool
is_standard_tree (PrimTree p) = true
is_standard_tree TextTree = true
is_standard_tree (Reference k) = true
is_standard_tree (ListTree t) = true
is_standard_tree (RecordTree form fs) = nat_lt 0 (fields_length fs)
is_standard_tree (VariantTree form cs) = is_within (choices_length cs) 100000
is_standard_tree (FlagsTree labels) = is_within (length labels) 32

abbrev pub one_unless : Bool → ℕ
one_unless b = if b then 0 else 1

abbrev pub bad : Tree → ℕ
bad t = one_unless (is_standard_tree t)

abbrev pub bad_row : Definition → ℕ
bad_row d = one_unless (is_standard d)

abbrev pub bad_meaning : Meaning → ℕ
bad_meaning (IsUse t) = 0
bad_meaning (IsType t) = nodes bad t
bad_meaning (IsFunction fs result) = nodes_in bad fs + nodes_if bad result

abbrev pub faults : Weights
faults = record { node = bad; row = bad_row; size = bad_meaning }

module _ (trees : List Tree) where
  choice-long : (label : List ℕ) (v : Option ValType) (cs : Choices) → choices_length (read_choice trees label v cs) ≡ suc (choices_length cs)
  choice-long label None cs = refl
  choice-long label (Some v) cs = refl

  tuple-long : (vs : List ValType) → fields_length (read_tuple trees vs) ≡ length vs
  tuple-long [] = refl
  tuple-long (v ∷ vs) = ap suc (tuple-long vs)

  fields-long : (fs : List Field) → fields_length (read_fields trees fs) ≡ length fs
  fields-long [] = refl
  fields-long (f ∷ fs) = ap suc (fields-long fs)

  cases-long : (cs : List Case) → choices_length (read_cases trees cs) ≡ length cs
  cases-long [] = refl
  cases-long (c ∷ cs) = choice-long c.name c.ty (read_cases trees cs) ∙ ap suc (cases-long cs)

  enum-long : (ns : List (List ℕ)) → choices_length (read_enum ns) ≡ length ns
  enum-long [] = refl
  enum-long (n ∷ ns) = ap suc (enum-long ns)

  result-long : (ok error : Option ValType) → is_standard_tree (read_kind trees (kind.Result ok error)) ≡ true
  result-long ok error =
      ap (λ n. is_within n 100000) (choice-long (111 ∷ 107 ∷ []) ok (read_choice trees (101 ∷ 114 ∷ 114 ∷ 111 ∷ 114 ∷ []) error no_choices)
      ∙ ap suc (choice-long (101 ∷ 114 ∷ 114 ∷ 111 ∷ 114 ∷ []) error no_choices))

  -- a type is standard just where its tree's top is
  pub standard-top : (k : TypeDefKind) → is_use k ≡ false → is_alias k ≡ false → is_standard_kind k ≡ is_standard_tree (read_kind trees k)
  standard-top (kind.Use t) u a = absurd (false≢true (sym u))
  standard-top (kind.Alias v) u a = absurd (false≢true (sym a))
  standard-top (kind.List v) u a = refl
  standard-top (kind.Option v) u a = refl
  standard-top (kind.Result ok error) u a = sym (result-long ok error)
  standard-top (kind.Tuple vs) u a = ap (λ n. nat_lt 0 n) (sym (tuple-long vs))
  standard-top (kind.Record fs) u a = ap (λ n. nat_lt 0 n) (sym (fields-long fs))
  standard-top (kind.Variant cs) u a = ap (λ n. is_within n 100000) (sym (cases-long cs))
  standard-top (kind.Enum ns) u a = ap (λ n. is_within n 100000) (sym (enum-long ns))
  standard-top (kind.Flags ns) u a = refl

not-alias : (k : TypeDefKind) → is_inner k ≡ true → is_alias k ≡ false
not-alias (kind.Alias v) h = absurd (false≢true h)
not-alias _ h = refl

module _ (ns : List (List ℕ)) (rows rest : List Definition) where
  abbrev front : List Tree
  front = references ns [] rows

  abbrev final : List Tree
  final = references ns [] (rows ++ rest)

  count : (v : ValType) → is_type rows v ≡ true → nodes bad (read_val front v) ≡ total bad final (unnamed rows v)
  count = val-count bad ns rows rest

  other : (k : TypeDefKind) → kind_all (is_type rows) k ≡ true → is_use k ≡ false → is_alias k ≡ false → nodes bad (read_kind front k) ≡ one_unless (is_standard_kind k) + total bad final (parts rows k)
  other k h u b = whole-count bad rows front final count k h u b ∙ ap (λ x. one_unless x + total bad final (parts rows k)) (sym (standard-top front k u b))

  kind-whole : (k : TypeDefKind) → kind_all (is_type rows) k ≡ true → aliased rows k ≡ [] → bad_meaning (meaning_of front k) ≡ one_unless (is_standard_kind k) + total bad final (parts rows k)
  kind-whole (kind.Use t) h a = refl
  kind-whole (kind.Alias v) h a = count v h ∙ ap (total bad final) a
  kind-whole (kind.List v) h a = other (kind.List v) h refl refl
  kind-whole (kind.Option v) h a = other (kind.Option v) h refl refl
  kind-whole (kind.Result ok error) h a = other (kind.Result ok error) h refl refl
  kind-whole (kind.Tuple vs) h a = other (kind.Tuple vs) h refl refl
  kind-whole (kind.Record fs) h a = other (kind.Record fs) h refl refl
  kind-whole (kind.Variant cs) h a = other (kind.Variant cs) h refl refl
  kind-whole (kind.Enum ns) h a = other (kind.Enum ns) h refl refl
  kind-whole (kind.Flags ns) h a = other (kind.Flags ns) h refl refl

  pub bad-whole : (d : Definition) → definition_all (is_type rows) d ≡ true → is_unnamed d ≡ false → aliased_by rows d ≡ []
      → sizes faults (all_of ns front d) ≡ bad_row d + total bad final (parts_of rows d)
  bad-whole (row.Type d) h u a = by d.name refl
    where
      by : (m : Option TypeName) → d.name ≡ m → sizes faults (named_by ns front d.name d.kind) ≡ one_unless (is_standard_kind d.kind) + total bad final (parts rows d.kind)
      by None e = absurd (let x = ap (λ (m : Option TypeName). not (is_some m)) e in let y = u in cc)
      by (Some n) e =
          let c = kind-whole d.kind h a in
          ap (λ m. sizes faults (named_by ns front m d.kind)) e ∙ (let z : sizes faults (named_by ns front (Some n) d.kind) ≡ 0 + bad_meaning (meaning_of front d.kind) = refl in z ∙ omega (arith, c))
  bad-whole (row.Function f) h u a =
      let t = and_parts (list_all (λ q. is_type rows q.ty) f.params) (option_all (is_type rows) f.result) h in
      let p = params-count bad rows front final count f.params t.0 in
      let r = if-count bad rows front final count f.result t.1 in
      let s = total-append bad final (flat_map (unnamed_parameter rows) f.params) (unnamed_if rows f.result) in
      omega (arith, p, r, s)

pub agree : Agree faults
agree = record {
  inner = λ trees k i. ap one_unless (standard-top trees k (not-use k i) (not-alias k i));
  whole = λ ns rows rest d h u a. bad-whole ns rows rest d h u a;
}

one-none : (b : Bool) (n : ℕ) → one_unless b + n ≡ 0 → (b ≡ true) × (n ≡ 0)
one-none true n e = (refl, omega (arith, e))
one-none false n e = absurd (omega (arith, e))

bad-front : (d : Definition) (ds : List Definition) → sum (map bad_row (d ∷ ds)) ≡ one_unless (is_standard d) + sum (map bad_row ds)
bad-front d ds = sum-append (one_unless (is_standard d) ∷ []) (map bad_row ds) ∙ omega arith

bad-none : (rows : List Definition) → sum (map bad_row rows) ≡ 0 → are_standard rows ≡ true
bad-none [] e = refl
bad-none (d ∷ ds) e =
    let t = one-none (is_standard d) (sum (map bad_row ds)) (sym (bad-front d ds) ∙ e) in
    ap (λ b. b && are_standard ds) t.0 ∙ bad-none ds t.1

none-bad : (rows : List Definition) → are_standard rows ≡ true → sum (map bad_row rows) ≡ 0
none-bad [] h = refl
none-bad (d ∷ ds) h =
    let t = and_parts (is_standard d) (are_standard ds) h in
    let r = none-bad ds t.1 in
    bad-front d ds ∙ (ap (λ b. one_unless b + sum (map bad_row ds)) t.0 ∙ omega (arith, r))

-- Whether rows are standard is told by their definitions by name.
pub standard-by-name : (ns ms : List (List ℕ)) (rows others : List Definition) → IsTyped rows → Leaves rows [] → IsTyped others → Leaves others []
    → all_from ns [] rows ≡ all_from ms [] others → are_standard rows ≡ true → are_standard others ≡ true
standard-by-name ns ms rows others t p u q e h =
    bad-none others (by-name faults agree ms others u q ∙ (ap (sizes faults) (sym e) ∙ (sym (by-name faults agree ns rows t p) ∙ none-bad rows h)))
