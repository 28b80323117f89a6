-- The tree of a table whose names are labels, and whose types nest as in a text, has a text.
use Rattle.std.proofs.Common.{◌≡◌, ◌+◌, ◌<◌, ◌≤◌, ℕ, suc, List, [], ◌∷◌, ◌++◌, length, map, flat_map, get_or, refl, sym, ap, subst, ◌∙◌, append_assoc, append-nil, length-append, arith, All}
use Rattle.std.specs.Prelude.{Bool, true, false, not, is_some, ◌&&◌, ◌||◌, nat_lt, Option, None, Some, if◌then◌else◌}
use Rattle.std.specs.List.{list_all, AllByRecursion}
use Rattle.std.specs.Option.{option_map}
use Rattle.std.specs.Str.{bytes_eq}
use Rattle.std.proofs.lemmas.Bool.{and_parts, ltb-true, ltb-false, leb-true, false≢true}
use Rattle.std.proofs.lemmas.List.{length-map}
use Rattle.atoms.specs.Label.{IsLabel}
use Rattle.tables.specs.Tables.{option_all, is_standard_kind, are_earlier}
use Rattle.tables.specs.Package.{Tree, Meaning, IsUse, NamedDefinition, read_val, read_choice, read_fields, read_params, read_cases, read_enum, read_kind, meaning_of, function_meaning, reference, references, named_by, named_function, definition_of, definitions_from}
use Rattle.tables.specs.declared.tables.ValType.{ValType}
use Rattle.tables.specs.declared.tables.TypeId.{TypeId}
use Rattle.tables.specs.declared.tables.ValType.TheVariants as val
use Rattle.tables.specs.declared.tables.TypeDef.{TypeDef}
use Rattle.tables.specs.declared.tables.TypeDefKind.{TypeDefKind}
use Rattle.tables.specs.declared.tables.TypeDefKind.TheVariants as kind
use Rattle.tables.specs.declared.tables.TypeName.{TypeName}
use Rattle.tables.specs.declared.tables.Parameter.{Parameter}
use Rattle.tables.specs.declared.tables.Field.{Field}
use Rattle.tables.specs.declared.tables.Case.{Case}
use Rattle.tables.specs.declared.tables.Function.{Function}
use Rattle.tables.specs.declared.tables.Owner.{Owner}
use Rattle.tables.specs.declared.tables.Owner.TheVariants as owner
use Rattle.tables.specs.declared.tables.Definition.{Definition}
use Rattle.tables.specs.declared.tables.Definition.TheVariants as row
use Rattle.tables.specs.declared.tables.Interface.{Interface}
use Rattle.wit_tokens.specs.Lexing.{limit}
use Rattle.wit_tokens.specs.Syntax.{Ty, Alias, ty_depth}
use Rattle.wit_tokens.specs.declared.token.Punctuation.TheVariants as mark
use Rattle.wit_print.specs.Words.{mark_word}
use Rattle.wit_print.specs.Canonical.{blank, ty_words, member_words, parameter_words, result_words, field_words, case_words, label_words, lined_words, definition_words, entry_words, file_entry_words, items_words}
use Rattle.wit_print.specs.Printable.{IsPrintableType, IsPrintableOption, IsPrintableMember, IsPrintableCase, ArePrintable, IsLabelOrNone, IsPrintableDefinition, IsPrintableEntry, IsPrintableFileEntry, IsPrintablePath}
use Rattle.package_form.specs.Entries.{labels_of}
use Rattle.package_form.specs.Ids.{is_use, is_owned_by, is_of_worlds}
use Rattle.package_form.specs.Postfix.{IsPostfix}
use Rattle.package_form.specs.Form.{ids_of, is_own_name, is_nameless}
use Rattle.package_form.specs.References.{row_references}
use Rattle.package_form.specs.Naming.{field_name, case_name, parameter_name, kind_members, name_if}
use Rattle.package_form.proofs.AllAndContains.{all-get, all-head, all-tail}
use Rattle.tree_meaning.specs.Resolves.{fits, fits_if, member_fits, case_fits, body_fits, entry_fits, interface_fits, is_behind}
use Rattle.tree_meaning.proofs.TableRows.{references-append}
use Rattle.tree_meaning.proofs.ReferencesOfDefinitions.{Every, every-append}
use Rattle.package_text.specs.Written.{ty_of, members_in, cases_in, labels_in, body_of}
use Rattle.package_text.specs.Tree.{local_of}
use Rattle.package_text.proofs.WrittenTrees.PathsSpelledByNames.{path_named}
use Rattle.package_text.proofs.WrittenTrees.TreeByNames.{use_entry, entry_by, entry_of}
use Rattle.package_text.proofs.WrittenTrees.WrittenStandsForTree.{labels-back}
use Rattle.package_text.proofs.TableRows.RowsReadAsTrees.{is_own, is_local_kind, type-meaning, IsNamed, IsOwned}
use Rattle.package_text.proofs.WrittenTrees.PartsOfInterfaces.{stands-at, got, written}
use Rattle.package_text.proofs.TableRows.RowsReadByEarlierRows.{places-mean}
use Rattle.package_text.proofs.TableRows.RowsNameEarlierRows.{IsTold, row-told}
use Rattle.package_text.proofs.ResolvedTrees.TreesNameEarlierTrees.{home-here}
use Rattle.package_text.proofs.TableRows.AreRegions.{is_behind_row, AreRegions, no_region, and_region, home}
use Rattle.package_text.proofs.TableRows.RowsAreLocal.{inside}
use Rattle.package_text.proofs.ResolvedTrees.ScopesOfTheTree.{alias-written}
use Rattle.package_text.proofs.PrintableTrees.ListsFitTheText.{weight, weight-append, lined-long, lined-each, braced-each, listed-long, listed-each, is_worded, ty-spelt}
use Rattle.package_text.proofs.PrintableTrees.TypesAreSpelled.{AreSpelt, val-spelt, kind-spelt, AreWritten, standard-here, names-here, members-here, spelt-before}

by-recursion : {A : Type 0} (P : A → Type 0) (xs : List A) → All P xs → AllByRecursion P xs
by-recursion P [] h = tt
by-recursion P (x ∷ xs) h = (all-head P x xs h, by-recursion P xs (all-tail P x xs h))

type-printable : (space : List ℕ) (t : Ty) → is_worded t ≡ true → fits t ≡ true → weight (ty_words space t) ≤ limit → IsPrintableType t
type-printable space t s f l = record { spelt = ty-spelt space t s l; nested = leb-true (ty_depth t) 64 f }

alias-printable : (n : List ℕ) (t : Ty) → is_worded t ≡ true → fits t ≡ true → weight (definition_words n (Alias t)) ≤ limit → IsPrintableType t
alias-printable n t s f l = let a = weight-append (ty_words blank t) (mark_word [] mark.Semicolon ∷ []) in type-printable blank t s f (omega (arith, l, a))

labels-printable : (names : List (List ℕ)) → 0 < length names → All IsLabel names → weight (lined_words label_words names) ≤ limit → ArePrintable IsLabel names
labels-printable names n l room = let long = lined-long label_words names in record { some = n; few = omega (arith, long, room); each = by-recursion IsLabel names l }

members-some : (trees : List Tree) (fs : List Field) → 0 < length fs → 0 < length (members_in (read_fields trees fs))
members-some trees [] n = absurd (omega (arith, n))
members-some trees (f ∷ fs) n = omega arith

cases-some : (trees : List Tree) (cs : List Case) → 0 < length cs → 0 < length (cases_in (read_cases trees cs))
cases-some trees [] n = absurd (omega (arith, n))
cases-some trees (c ∷ cs) n = by c.ty
  where
    by : (o : Option ValType) → 0 < length (cases_in (read_choice trees c.name o (read_cases trees cs)))
    by None = omega arith
    by (Some v) = omega arith

-- ---- one row

module _ (ns : List (List ℕ)) (front : List Definition) (k : ℕ) (so-far : AreSpelt ns front) where
  abbrev trees : List Tree
  trees = references ns [] front

  fields-printable : (fs : List Field) → list_all (λ f. is_own front k f.ty) fs ≡ true → All IsLabel (map field_name fs) → list_all member_fits (members_in (read_fields trees fs)) ≡ true
      → Every (λ m. weight (field_words m) ≤ limit) (members_in (read_fields trees fs)) → AllByRecursion IsPrintableMember (members_in (read_fields trees fs))
  fields-printable [] h l f q = tt
  fields-printable (x ∷ fs) h l f q =
      let t = and_parts (is_own front k x.ty) (list_all (λ f. is_own front k f.ty) fs) h in
      let u = and_parts (fits (ty_of (read_val trees x.ty))) (list_all member_fits (members_in (read_fields trees fs))) f in
      let room = q.0 in (
        record { label = all-head IsLabel x.name (map field_name fs) l; type = type-printable blank (ty_of (read_val trees x.ty)) (val-spelt ns front k so-far x.ty t.0) u.0 (omega (arith, room)) },
        fields-printable fs t.1 (all-tail IsLabel x.name (map field_name fs) l) u.1 q.1,
      )

  params-printable : (ps : List Parameter) → list_all (λ p. is_own front k p.ty) ps ≡ true → All IsLabel (map parameter_name ps) → list_all member_fits (members_in (read_params trees ps)) ≡ true
      → Every (λ m. (s : List ℕ) × (weight (member_words s m) ≤ limit)) (members_in (read_params trees ps)) → AllByRecursion IsPrintableMember (members_in (read_params trees ps))
  params-printable [] h l f q = tt
  params-printable (x ∷ ps) h l f q =
      let t = and_parts (is_own front k x.ty) (list_all (λ p. is_own front k p.ty) ps) h in
      let u = and_parts (fits (ty_of (read_val trees x.ty))) (list_all member_fits (members_in (read_params trees ps))) f in
      let room = q.0.1 in (
        record { label = all-head IsLabel x.name (map parameter_name ps) l; type = type-printable blank (ty_of (read_val trees x.ty)) (val-spelt ns front k so-far x.ty t.0) u.0 (omega (arith, room)) },
        params-printable ps t.1 (all-tail IsLabel x.name (map parameter_name ps) l) u.1 q.1,
      )

  if-printable : (v : Option ValType) → option_all (is_own front k) v ≡ true → fits_if (option_map ty_of (option_map (read_val trees) v)) ≡ true
      → weight (result_words (option_map ty_of (option_map (read_val trees) v))) ≤ limit → IsPrintableOption (option_map ty_of (option_map (read_val trees) v))
  if-printable None h f l = tt
  if-printable (Some v) h f l = type-printable blank (ty_of (read_val trees v)) (val-spelt ns front k so-far v h) f (omega (arith, l))

  cases-printable : (cs : List Case) → list_all (λ c. option_all (is_own front k) c.ty) cs ≡ true → All IsLabel (map case_name cs) → list_all case_fits (cases_in (read_cases trees cs)) ≡ true
      → Every (λ c. weight (case_words c) ≤ limit) (cases_in (read_cases trees cs)) → AllByRecursion IsPrintableCase (cases_in (read_cases trees cs))
  cases-printable [] h l f q = tt
  cases-printable (c ∷ cs) h l f q =
      let t = and_parts (option_all (is_own front k) c.ty) (list_all (λ c. option_all (is_own front k) c.ty) cs) h in
      by c.ty t.0 (all-head IsLabel c.name (map case_name cs) l) (cases-printable cs t.1 (all-tail IsLabel c.name (map case_name cs) l)) f q
      (λ v own g room. type-printable [] (ty_of (read_val trees v)) (val-spelt ns front k so-far v own) g room)
    where
      by : (o : Option ValType) → option_all (is_own front k) o ≡ true → IsLabel c.name
          → (list_all case_fits (cases_in (read_cases (references ns [] front) cs)) ≡ true → Every (λ c. weight (case_words c) ≤ limit) (cases_in (read_cases (references ns [] front) cs))
          → AllByRecursion IsPrintableCase (cases_in (read_cases (references ns [] front) cs)))
          → list_all case_fits (cases_in (read_choice (references ns [] front) c.name o (read_cases (references ns [] front) cs))) ≡ true
          → Every (λ c. weight (case_words c) ≤ limit) (cases_in (read_choice (references ns [] front) c.name o (read_cases (references ns [] front) cs)))
          → ((v : ValType) → is_own front k v ≡ true → fits (ty_of (read_val (references ns [] front) v)) ≡ true → weight (ty_words [] (ty_of (read_val (references ns [] front) v))) ≤ limit
          → IsPrintableType (ty_of (read_val (references ns [] front) v)))
          → AllByRecursion IsPrintableCase (cases_in (read_choice (references ns [] front) c.name o (read_cases (references ns [] front) cs)))
      by None own label on f q one = (record { label = label; payload = tt }, on f q.1)
      by (Some v) own label on f q one =
          let u = and_parts (fits (ty_of (read_val (references ns [] front) v))) (list_all case_fits (cases_in (read_cases (references ns [] front) cs))) f in
          let room = q.0 in
          let a = weight-append (ty_words [] (ty_of (read_val (references ns [] front) v))) (mark_word [] mark.CloseParenthesis ∷ []) in
          (record { label = label; payload = one v own u.0 (omega (arith, room, a)) }, on u.1 q.1)

  -- the definition that is written for a type
  body-printable : (n : List ℕ) (d : TypeDefKind) → is_use d ≡ false → ((v : ValType) → d ≡ kind.Alias v → body_of (read_val trees v) ≡ Alias (ty_of (read_val trees v))) → is_local_kind ns front k d ≡ true
      → is_standard_kind d ≡ true → All IsLabel (kind_members d) → body_fits (body_of (read_kind trees d)) ≡ true → weight (definition_words n (body_of (read_kind trees d))) ≤ limit
      → IsPrintableDefinition (body_of (read_kind trees d))
  body-printable n (kind.Use t) u a h s l f q = absurd (false≢true (sym u))
  body-printable n (kind.Alias v) u a h s l f q =
      subst IsPrintableDefinition (sym (a v refl))
      (alias-printable n (ty_of (read_val trees v)) (val-spelt ns front k so-far v h) (ap body_fits (sym (a v refl)) ∙ f) (subst (λ b. weight (definition_words n b) ≤ limit) (a v refl) q))
  body-printable n (kind.List v) u a h s l f q = alias-printable n (ty_of (read_kind trees (kind.List v))) (kind-spelt ns front k so-far (kind.List v) h s) f q
  body-printable n (kind.Option v) u a h s l f q = alias-printable n (ty_of (read_kind trees (kind.Option v))) (kind-spelt ns front k so-far (kind.Option v) h s) f q
  body-printable n (kind.Result ok error) u a h s l f q = alias-printable n (ty_of (read_kind trees (kind.Result ok error))) (kind-spelt ns front k so-far (kind.Result ok error) h s) f q
  body-printable n (kind.Tuple vs) u a h s l f q = alias-printable n (ty_of (read_kind trees (kind.Tuple vs))) (kind-spelt ns front k so-far (kind.Tuple vs) h s) f q
  body-printable n (kind.Record fs) u a h s l f q =
      let room : weight (lined_words field_words (members_in (read_fields trees fs))) ≤ limit = omega (arith, q) in
      let long = lined-long field_words (members_in (read_fields trees fs)) in
      record { some = members-some trees fs (ltb-true 0 (length fs) s); few = omega (arith, long, room); each = fields-printable fs h l f (lined-each field_words limit (members_in (read_fields trees fs)) room) }
  body-printable n (kind.Variant cs) u a h s l f q =
      let room : weight (lined_words case_words (cases_in (read_cases trees cs))) ≤ limit = omega (arith, q) in
      let long = lined-long case_words (cases_in (read_cases trees cs)) in
      record { some = cases-some trees cs (ltb-true 0 (length cs) (and_parts (nat_lt 0 (length cs)) _ s).0); few = omega (arith, long, room); each = cases-printable cs h l f (lined-each case_words limit (cases_in (read_cases trees cs)) room) }
  body-printable n (kind.Enum names) u a h s l f q =
      let room : weight (lined_words label_words (labels_in (read_enum names))) ≤ limit = omega (arith, q) in
      subst (λ (ms : List (List ℕ)). ArePrintable IsLabel ms) (sym (labels-back names))
      (labels-printable names (ltb-true 0 (length names) (and_parts (nat_lt 0 (length names)) _ s).0) l (subst (λ (ms : List (List ℕ)). weight (lined_words label_words ms) ≤ limit) (labels-back names) room))
  body-printable n (kind.Flags names) u a h s l f q =
      labels-printable names (ltb-true 0 (length names) (and_parts (nat_lt 0 (length names)) _ s).0) l (omega (arith, q))

local-label : (n l : List ℕ) → IsLabel l → IsLabelOrNone (local_of n l)
local-label n l h = by (bytes_eq n l)
  where
    by : (b : Bool) → IsLabelOrNone (if b then None else Some l)
    by true = tt
    by false = h

use-of : (c : TypeDefKind) → is_use c ≡ true → (t : TypeId) × (c ≡ kind.Use t)
use-of (kind.Use t) h = (t, refl)
use-of _ h = absurd (false≢true h)

one-within : 1 ≤ limit
unfolding limit
one-within = omega arith

-- what is written for it under this name has a text, where it nests as in a text and a text has room for it
abbrev pub PrintsAs : List ℕ → Meaning → Type 0
PrintsAs n m = entry_fits (entry_by n m) ≡ true → weight (entry_words (entry_by n m)) ≤ limit → IsPrintableEntry (entry_by n m)

abbrev pub PrintsIfFits : NamedDefinition → Type 0
PrintsIfFits x = PrintsAs x.key.name x.meaning

pub entries-printable : (ds : List NamedDefinition) → Every PrintsIfFits ds → list_all entry_fits (map entry_of ds) ≡ true → Every (λ e. weight (entry_words e) ≤ limit) (map entry_of ds) → AllByRecursion IsPrintableEntry (map entry_of ds)
entries-printable [] h f q = tt
entries-printable (d ∷ ds) h f q =
    let t = and_parts (entry_fits (entry_of d)) (list_all entry_fits (map entry_of ds)) f in (h.0 t.0 q.0, entries-printable ds h.1 t.1 q.1)

definitions-fewer : (ns : List (List ℕ)) (ts : List Tree) (ds : List Definition) → length (definitions_from ns ts ds) ≤ length ds
definitions-fewer ns ts [] = omega arith
definitions-fewer ns ts (d ∷ ds) =
    let next = ts ++ reference ns ts d ∷ [] in
    let one = by d in
    let others = definitions-fewer ns next ds in
    let parts = length-append (definition_of ns ts d) (definitions_from ns next ds) in
    omega (arith, one, others, parts)
  where
    named : (m : Option TypeName) (k : TypeDefKind) → length (named_by ns ts m k) ≤ 1
    named None k = omega arith
    named (Some n) k = omega arith

    called : (v : Owner) (n : List ℕ) (m : Meaning) → length (named_function ns v n m) ≤ 1
    called (owner.Interface i) n m = omega arith
    called (owner.World v) n m = omega arith

    by : (c : Definition) → length (definition_of ns ts c) ≤ 1
    by (row.Type c) = named c.name c.kind
    by (row.Function f) = called f.owner f.name (function_meaning ts f)

module _ (ns : List (List ℕ)) (rows : List Definition) (at : ℕ → ℕ) (earlier : are_earlier 0 rows ≡ true) (o : IsOwned ns rows at) (p : IsPostfix rows) (w : AreWritten rows)
    (homes : (front : List Definition) (d : Definition) (rest : List Definition) → rows ≡ front ++ d ∷ rest → is_behind d ≡ false → IsPrintablePath (path_named (get_or ns (at (length front)) []))) where
  -- a type that a use names is of an interface whose path has a text, and its name is a label
  use-labels : (front rest : List Definition) → rows ≡ front ++ rest → (m : TypeName) → IsNamed front m.interface.0 m.name → IsPrintablePath (path_named (get_or ns m.interface.0 [])) × IsLabel m.name
  use-labels front rest e m (t, d, n, s, q, i, same) =
      let x = home-here ns rows at o p front rest t d n e s q in
      let y = stands-at front t (row.Type d) s in
      let flat : rows ≡ y.0 ++ row.Type d ∷ (y.1 ++ rest) = e ∙ (ap (λ (ds : List Definition). ds ++ rest) y.2 ∙ append_assoc y.0 (row.Type d ∷ y.1) rest) in
      let name : All IsLabel (name_if (Some n)) = subst (λ (a : Option TypeName). All IsLabel (name_if a)) q (names-here rows w y.0 (row.Type d) (y.1 ++ rest) flat) in
      (subst (λ j. IsPrintablePath (path_named (get_or ns j []))) (ap at y.3 ∙ (sym x.0 ∙ i)) (homes y.0 (row.Type d) (y.1 ++ rest) flat (ap (λ (a : Option TypeName). not (is_some a)) q)), subst IsLabel same (all-head IsLabel n.name [] name))

  use-printable : (front rest : List Definition) → rows ≡ front ++ rest → (l : List ℕ) → IsLabel l → (t : Tree) → IsTold ns front (at (length front)) (IsUse t) → IsPrintableEntry (use_entry t l)
  use-printable front rest e l label t (m, q, lt, named) =
      let x = use-labels front rest e m named in
      subst (λ (u : Tree). IsPrintableEntry (use_entry u l)) (sym q)
      (x.0, record { some = omega arith; few = one-within; each = (record { label = x.1; local = local-label m.name l label }, tt) })

  module _ (front : List Definition) (d : TypeDef) (rest : List Definition) (e : rows ≡ front ++ row.Type d ∷ rest) where
    -- a type with a name, which is no used name
    type-printed : (n : TypeName) → d.name ≡ Some n → IsLabel n.name → is_use d.kind ≡ false → PrintsAs n.name (meaning_of (references ns [] front) d.kind)
    type-printed n q label u =
        let k = at (length front) in
        let l = and_parts (is_own_name (at (length front)) d.name) (is_local_kind ns front (at (length front)) d.kind) (o.local front (row.Type d) rest e) in
        subst (PrintsAs n.name) (sym (type-meaning ns front k d.kind u))
        (λ f room. (
          label,
          body-printable ns front k (spelt-before ns rows at o w front (row.Type d ∷ rest) e) n.name d.kind u (alias-written ns rows at earlier o p front (row.Type d) rest e n q) l.1
              (standard-here rows w front (row.Type d) rest e) (members-here rows w front (row.Type d) rest e) f room,
        ))

    named-printed : (n : TypeName) → d.name ≡ Some n → IsLabel n.name → IsTold ns front (at (length front)) (meaning_of (references ns [] front) d.kind) → PrintsAs n.name (meaning_of (references ns [] front) d.kind)
    named-printed n q label told = by (is_use d.kind) refl
      where
        by : (b : Bool) → is_use d.kind ≡ b → PrintsAs n.name (meaning_of (references ns [] front) d.kind)
        by true u =
            let x = use-of d.kind u in
            subst (λ (c : TypeDefKind). IsTold ns front (at (length front)) (meaning_of (references ns [] front) c) → PrintsAs n.name (meaning_of (references ns [] front) c)) (sym x.1)
            (λ h f room. use-printable front (row.Type d ∷ rest) e n.name label (read_val (references ns [] front) (val.Id x.0)) h) told
        by false u = type-printed n q label u

    type-row-printable : Every PrintsIfFits (definition_of ns (references ns [] front) (row.Type d))
    type-row-printable = by d.name refl (row-told ns rows at o p front (row.Type d) rest e) (names-here rows w front (row.Type d) rest e)
      where
        by : (m : Option TypeName) → d.name ≡ m → Every (λ x. IsTold ns front (at (length front)) x.meaning) (named_by ns (references ns [] front) m d.kind) → All IsLabel (name_if m)
            → Every PrintsIfFits (named_by ns (references ns [] front) m d.kind)
        by None q told h = tt
        by (Some n) q told h = (named-printed n q (all-head IsLabel n.name [] h) told.0, tt)

  pub function-printed : (front : List Definition) (f : Function) (rest : List Definition) → rows ≡ front ++ row.Function f ∷ rest → PrintsAs f.name (function_meaning (references ns [] front) f)
  function-printed front f rest e nested room =
      let k = at (length front) in
      let trees = references ns [] front in
      let so-far = spelt-before ns rows at o w front (row.Function f ∷ rest) e in
      let t = and_parts (is_owned_by k f.owner || is_of_worlds f.owner) (list_all (λ p. is_own front k p.ty) f.params && option_all (is_own front k) f.result) (o.local front (row.Function f) rest e) in
      let u = and_parts (list_all (λ p. is_own front k p.ty) f.params) (option_all (is_own front k) f.result) t.1 in
      let g = and_parts (list_all member_fits (members_in (read_params trees f.params))) (fits_if (option_map ty_of (option_map (read_val trees) f.result))) nested in
      let params = members_in (read_params trees f.params) in
      let result = option_map ty_of (option_map (read_val trees) f.result) in
      let whole = weight-append (parameter_words [] params) (result_words result ++ mark_word [] mark.Semicolon ∷ []) in
      let last = weight-append (result_words result) (mark_word [] mark.Semicolon ∷ []) in
      let inside : weight (parameter_words [] params) ≤ limit = omega (arith, room, whole) in
      let long = listed-long member_words (mark_word [] mark.CloseParenthesis) (omega arith) [] params in (
        all-head IsLabel f.name [] (names-here rows w front (row.Function f) rest e),
        record {
          few = omega (arith, long, inside);
          params = params-printable ns front k so-far f.params u.0 (members-here rows w front (row.Function f) rest e) g.0
              (listed-each member_words (mark_word [] mark.CloseParenthesis) (omega arith) limit [] params inside);
          result = if-printable ns front k so-far f.result u.1 g.1 (omega (arith, room, whole, last));
        },
      )

  row-printable : (front : List Definition) (d : Definition) (rest : List Definition) → rows ≡ front ++ d ∷ rest → Every PrintsIfFits (definition_of ns (references ns [] front) d)
  row-printable front (row.Type d) rest e = type-row-printable front d rest e
  row-printable front (row.Function f) rest e = by f.owner (function-printed front f rest e)
    where
      by : (v : Owner) → PrintsAs f.name (function_meaning (references ns [] front) f) → Every PrintsIfFits (named_function ns v f.name (function_meaning (references ns [] front) f))
      by (owner.Interface i) h = (h, tt)
      by (owner.World v) h = tt

  rows-printable : (front xs rest : List Definition) → rows ≡ front ++ (xs ++ rest) → Every PrintsIfFits (definitions_from ns (references ns [] front) xs)
  rows-printable front [] rest e = tt
  rows-printable front (x ∷ xs) rest e =
      every-append PrintsIfFits (definition_of ns (references ns [] front) x) (definitions_from ns (references ns [] front ++ reference ns (references ns [] front) x ∷ []) xs)
      (row-printable front x (xs ++ rest) e)
      (subst (λ (ts : List Tree). Every PrintsIfFits (definitions_from ns ts xs)) (references-append ns [] front (x ∷ []))
      (rows-printable (front ++ x ∷ []) xs rest (e ∙ sym (append_assoc front (x ∷ []) (xs ++ rest)))))

  -- what is written for the interfaces
  pub files-printable : (k : ℕ) (pre : List Definition) (is : List Interface) (post : List Definition) → AreRegions rows at k pre is post → rows ≡ pre ++ post → length rows ≤ limit
      → All IsLabel (labels_of is) → list_all interface_fits (map (written ns rows at earlier o p) is) ≡ true → weight (items_words (map (written ns rows at earlier o p) is)) ≤ limit → AllByRecursion IsPrintableFileEntry (map (written ns rows at earlier o p) is)
  files-printable _ _ _ _ (no_region k pre back behind home) e few labels nested room = tt
  files-printable _ _ _ _ (and_region k pre own post i is ends ids uses types locals here more) e few labels nested room =
      let ds = flat_map (got ns rows at earlier o p) (ids_of i) in
      let told : flat_map (got ns rows at earlier o p) (ids_of i) ≡ definitions_from ns (references ns [] pre) own = ap (flat_map (got ns rows at earlier o p)) ids ∙ places-mean ns rows earlier pre own post e in
      let f = and_parts (list_all entry_fits (map entry_of ds)) (list_all interface_fits (map (written ns rows at earlier o p) is)) nested in
      let split = weight-append (file_entry_words (written ns rows at earlier o p i)) (items_words (map (written ns rows at earlier o p) is)) in
      let each = entries-printable ds (subst (Every PrintsIfFits) (sym told) (rows-printable pre own post e)) f.0 (braced-each entry_words limit (map entry_of ds) (omega (arith, room, split))) in
      let long = ap length e in
      let parts = length-append pre (own ++ post) in
      let inner = length-append own post in
      let fewer = definitions-fewer ns (references ns [] pre) own in
      let same = ap length told in
      let mapped = length-map ds entry_of in (
        (all-head IsLabel i.name (labels_of is) labels, omega (arith, few, long, parts, inner, fewer, same, mapped), each),
        files-printable (suc k) (pre ++ own) is post more (e ∙ sym (append_assoc pre own post)) few (all-tail IsLabel i.name (labels_of is) labels) f.1 (omega (arith, room, split)),
      )

-- each row with a name, but for functions of worlds, is of one of the interfaces
pub regions-homes : (rows : List Definition) (at : ℕ → ℕ) (k : ℕ) (pre : List Definition) (is : List Interface) (post : List Definition) → AreRegions rows at k pre is post → rows ≡ pre ++ post
    → (front : List Definition) (d : Definition) (rest : List Definition) → rows ≡ front ++ d ∷ rest → length pre ≤ length front → is_behind d ≡ false → at (length front) < k + length is
regions-homes rows at _ _ _ _ (no_region k pre back behind home) e front d rest f l h =
    let a = ap length e in
    let b = ap length f in
    let c = length-append pre back in
    let g = length-append front (d ∷ rest) in
    let x = inside pre back [] front d rest (ap (λ (xs : List Definition). pre ++ xs) (append-nil back) ∙ (sym e ∙ f)) l (omega (arith, a, b, c, g)) in
    let t = and_parts (is_behind d) (list_all (is_nameless rows) (row_references d)) (all-get (is_behind_row rows) back x.0 d behind x.1) in
    absurd (false≢true (sym h ∙ t.0))
regions-homes rows at _ _ _ _ (and_region k pre own post i is ends ids uses types locals here more) e front d rest f l h =
    by (nat_lt (length front) (length (pre ++ own))) refl (λ m. regions-homes rows at (suc k) (pre ++ own) is post more (e ∙ sym (append_assoc pre own post)) front d rest f m h)
  where
    by : (b : Bool) → nat_lt (length front) (length (pre ++ own)) ≡ b → (length (pre ++ own) ≤ length front → at (length front) < suc k + length is) → at (length front) < k + length (i ∷ is)
    by true u on = let q = here (length front) l (ltb-true (length front) (length (pre ++ own)) u) in omega (arith, q)
    by false u on = let q = on (ltb-false (length front) (length (pre ++ own)) u) in omega (arith, q)
