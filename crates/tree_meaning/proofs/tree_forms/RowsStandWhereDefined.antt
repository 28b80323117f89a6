-- A table whose definitions are those of its interfaces, one interface after the other, has its rows where they stand.
use Rattle.std.proofs.Common.{◌≡◌, ℕ, ◌+◌, ◌-◌, Bool, true, false, not, List, [], ◌∷◌, ◌++◌, map, take, drop, length, Some, refl, ap, sym, subst, ◌∙◌, arith, length-append, append_assoc, append-nil, All}
use Rattle.std.specs.List.{list_all}
use Rattle.std.specs.Str.{bytes_eq}
use Rattle.std.proofs.Math.Seq.{drop-append_seam, take-append_seam}
use Rattle.std.proofs.lemmas.Slice.Eq.{bytes_eq-Decides}
use Rattle.tables.specs.Tables.{type_of, is_type, definition_all, definition_below, are_earlier}
use Rattle.tables.specs.Package.{Tree, NamedDefinition, reference, references}
use Rattle.tables.specs.declared.tables.TypeId.{TypeId}
use Rattle.tables.specs.declared.tables.FunctionId.{FunctionId}
use Rattle.tables.specs.declared.tables.Definition.{Definition}
use Rattle.tables.specs.declared.tables.Definition.TheVariants as row
use Rattle.tables.specs.declared.tables.Interface.{Interface}
use Rattle.package_form.specs.Ids.{places_where, is_in, is_use, is_use_in, is_type_in, is_function_in, type_id, function_id, interface_in}
use Rattle.package_form.proofs.AllAndContains.{all-mono}
use Rattle.package_form.specs.Form.{is_named, ids_of, is_use_type, is_use_at, has_ids, is_local}
use Rattle.package_form.specs.Ends.{behind_types, behind_functions, end_of, rows_of}
use Rattle.package_form.specs.Unused.{are_used}
use Rattle.tables.proofs.ClosedTypesRowByRow.{split, both}
use Rattle.tree_meaning.proofs.TableRows.{ends_named, RowsAre, places-append, references-append, references-length, below-at, at-true}
use Rattle.tree_meaning.proofs.tree_forms.RowsCutByDefinition.{rows-mono, Means, means-mono, rows-mean}
use Rattle.tree_meaning.proofs.ReferencesOfDefinitions.{Every, every-mono}
use Rattle.tree_meaning.proofs.RowsOfEachInterface.{is_inner_row, RowRefers, walk-none}
use Rattle.tree_meaning.proofs.tree_forms.InterfaceOfEachRow.{MeansAny}
use Rattle.tree_meaning.proofs.tree_forms.RowsReferToOwnTypes.{any-refers, local}
use Rattle.tree_meaning.proofs.tree_forms.IdsArePlacesOfNamedRows.{places-same, places-none, places-all, types-end, functions-end, IsElsewhere, elsewhere, IsUseRow, IsTypeRow, IsFunctionRow, rows-every}
use Rattle.tree_meaning.proofs.tree_forms.InterfaceBlocks.{Block, IsBlock}
use Rattle.tree_meaning.proofs.AllDefinitions.{all_from}

-- what is known of the whole table
pub record IsTable (rows : List Definition) : Type 0 where
  pub earlier : are_earlier 0 rows ≡ true
  pub typed : list_all (definition_all (is_type rows)) rows ≡ true
  pub inner : list_all is_inner_row rows ≡ true

module _ (ns : List (List ℕ)) (rows : List Definition) (table : IsTable rows) (j : ℕ) (b : Block) (block : IsBlock ns j b) where
  grown : (pre : List Definition) (d : Definition) → references ns [] (pre ++ d ∷ []) ≡ references ns [] pre ++ reference ns (references ns [] pre) d ∷ []
  grown pre d = references-append ns [] pre (d ∷ [])

  all-local : (pre S T : List Definition) → rows ≡ pre ++ (S ++ T) → RowsAre ns (Means ns (MeansAny ns j b.name)) (references ns [] pre) S
      → RowsAre ns (RowRefers ns rows b.name) (references ns [] pre) S → list_all (is_local rows j) S ≡ true
  all-local pre [] T e m r = refl
  all-local pre (d ∷ S) T e m r =
      let below = subst (λ (k : ℕ). definition_below k d ≡ true) (let z : 0 + length pre ≡ length pre = omega arith in z)
      (below-at 0 pre d (S ++ T) (subst (λ (xs : List Definition). are_earlier 0 xs ≡ true) e table.earlier)) in
      let typed = at-true (definition_all (is_type rows)) pre d (S ++ T) (subst (λ (xs : List Definition). list_all (definition_all (is_type rows)) xs ≡ true) e table.typed) in
      let inner = at-true is_inner_row pre d (S ++ T) (subst (λ (xs : List Definition). list_all is_inner_row xs ≡ true) e table.inner) in
      let again = all-local (pre ++ d ∷ []) S T (e ∙ sym (append_assoc pre (d ∷ []) (S ++ T)))
      (subst (λ (ts : List Tree). RowsAre ns (Means ns (MeansAny ns j b.name)) ts S) (sym (grown pre d)) m.1)
      (subst (λ (ts : List Tree). RowsAre ns (RowRefers ns rows b.name) ts S) (sym (grown pre d)) r.1) in
      both (is_local rows j d) (list_all (is_local rows j) S) (local ns rows j b.name block.place block.some pre (d ∷ S ++ T) e table.inner d below typed inner m.0 r.0) again

  -- a part of the block: its uses, its types or its functions
  pub record Part (Q : NamedDefinition → Type 0) (pre S T : List Definition) : Type 0 where
    pub means : RowsAre ns (Means ns Q) (references ns [] pre) S
    pub locals : list_all (is_local rows j) S ≡ true
    pub on : are_used rows (length pre + length S) [] T ≡ true

  pub part : (Q : NamedDefinition → Type 0) → ((x : NamedDefinition) → Q x → MeansAny ns j b.name x) → (A : List NamedDefinition) → All Q A
      → (pre S T : List Definition) → rows ≡ pre ++ (S ++ T) → all_from ns (references ns [] pre) S ≡ A → ends_named S ≡ true
      → are_used rows (length pre) [] (S ++ T) ≡ true → Part Q pre S T
  part Q any A all pre S T e first ends used =
      let trees = references ns [] pre in
      let means = rows-mean ns Q trees S (subst (All Q) (sym first) all) in
      let anys = rows-mean ns (MeansAny ns j b.name) trees S (subst (All (MeansAny ns j b.name)) (sym first) (all-mono Q (MeansAny ns j b.name) any A all)) in
      let named = rows-mono ns (Means ns (MeansAny ns j b.name)) _ (any-refers ns rows j b.name block.place block.some) trees S anys in
      let len : length trees ≡ length pre = references-length ns [] pre ∙ omega arith in
      let walked = walk-none ns rows b.name trees (length pre) S T len used ends named in
      record { means = means; locals = all-local pre S T e anys walked.each; on = walked.on }

  pub at-key : (Q : NamedDefinition → Type 0) → ((x : NamedDefinition) → Q x → x.key.interface ≡ b.name) → (pre S T : List Definition) → Part Q pre S T → (k : ℕ) → (k ≡ j → ⊥) → Every (IsElsewhere k) S
  at-key Q key pre S T p k other =
      rows-every ns (Means ns (λ x. x.key.interface ≡ b.name)) (IsElsewhere k) (elsewhere ns k j b.name block.place other) (references ns [] pre) S
      (rows-mono ns (Means ns Q) (Means ns (λ x. x.key.interface ≡ b.name)) (means-mono ns Q (λ x. x.key.interface ≡ b.name) key) (references ns [] pre) S p.means)

-- ---- the places of an interface's rows

drop-map : (xs : List ℕ) → map (λ (t : TypeId). t.0) (map type_id xs) ≡ xs
drop-map [] = refl
drop-map (x ∷ xs) = ap (λ (ys : List ℕ). x ∷ ys) (drop-map xs)

drop-functions : (xs : List ℕ) → map (λ (t : FunctionId). t.0) (map function_id xs) ≡ xs
drop-functions [] = refl
drop-functions (x ∷ xs) = ap (λ (ys : List ℕ). x ∷ ys) (drop-functions xs)

five : (P : Definition → Bool) (a b c d e : List Definition) → places_where P 0 (a ++ (b ++ (c ++ (d ++ e))))
    ≡ places_where P 0 a ++ (places_where P (length a) b ++ (places_where P (length a + length b) c ++ (places_where P (length a + length b + length c) d ++ places_where P (length a + length b + length c + length d) e)))
five P a b c d e =
    places-append P 0 a (b ++ (c ++ (d ++ e))) ∙ ap (λ (ps : List ℕ). places_where P 0 a ++ ps)
    (ap (λ (k : ℕ). places_where P k (b ++ (c ++ (d ++ e)))) (let z : 0 + length a ≡ length a = omega arith in z)
    ∙ places-append P (length a) b (c ++ (d ++ e)) ∙ ap (λ (ps : List ℕ). places_where P (length a) b ++ ps)
    (places-append P (length a + length b) c (d ++ e) ∙ ap (λ (ps : List ℕ). places_where P (length a + length b) c ++ ps)
    (places-append P (length a + length b + length c) d e)))

only-second : (A B C D E X : List ℕ) → A ≡ [] → B ≡ X → C ≡ [] → D ≡ [] → E ≡ [] → A ++ (B ++ (C ++ (D ++ E))) ≡ X
only-second A B C D E X a b c d e = rw (a, b, c, d, e) (append-nil X)

only-third : (A B C D E X : List ℕ) → A ≡ [] → B ≡ [] → C ≡ X → D ≡ [] → E ≡ [] → A ++ (B ++ (C ++ (D ++ E))) ≡ X
only-third A B C D E X a b c d e = rw (a, b, c, d, e) (append-nil X)

only-fourth : (A B C D E X : List ℕ) → A ≡ [] → B ≡ [] → C ≡ [] → D ≡ X → E ≡ [] → A ++ (B ++ (C ++ (D ++ E))) ≡ X
only-fourth A B C D E X a b c d e = rw (a, b, c, d, e) (append-nil X)

pub same-bytes : (xs ys : List ℕ) → xs ≡ ys → bytes_eq xs ys ≡ true
same-bytes xs ys e = (bytes_eq-Decides xs ys).1 e

-- rows in front of an interface's, its own, and those behind
pub record Places (rows : List Definition) (j : ℕ) (pre U V W T : List Definition) : Type 0 where
  pub parts : rows ≡ pre ++ (U ++ (V ++ (W ++ T)))
  pub before : Every (IsElsewhere j) pre
  pub uses : Every (IsUseRow j) U
  pub types : Every (IsTypeRow j) V
  pub functions : Every (IsFunctionRow j) W
  pub after : Every (IsElsewhere j) T
  pub uses_end : ends_named U ≡ true
  pub types_end : ends_named V ≡ true
  pub functions_end : ends_named W ≡ true

module _ (rows : List Definition) (j : ℕ) (pre U V W T : List Definition) (h : Places rows j pre U V W T) (name : List ℕ) where
  abbrev i : Interface
  i = interface_in rows j name

  uses-are : i.uses ≡ map type_id (places_where is_named (length pre) U)
  uses-are = ap (λ (ps : List ℕ). map type_id ps) (ap (places_where (is_use_in j) 0) h.parts ∙ five (is_use_in j) pre U V W T
      ∙ only-second _ _ _ _ _ _ (places-none (is_use_in j) 0 pre (every-mono (IsElsewhere j) (λ d. is_use_in j d ≡ false) (λ d q. q.used) pre h.before))
      (places-same (is_use_in j) is_named (length pre) U (every-mono (IsUseRow j) (λ d. is_use_in j d ≡ is_named d) (λ d q. q.used) U h.uses))
      (places-none (is_use_in j) _ V (every-mono (IsTypeRow j) (λ d. is_use_in j d ≡ false) (λ d q. q.used) V h.types))
      (places-none (is_use_in j) _ W (every-mono (IsFunctionRow j) (λ d. is_use_in j d ≡ false) (λ d q. q.used) W h.functions))
      (places-none (is_use_in j) _ T (every-mono (IsElsewhere j) (λ d. is_use_in j d ≡ false) (λ d q. q.used) T h.after)))

  types-are : i.types ≡ map type_id (places_where is_named (length pre + length U) V)
  types-are = ap (λ (ps : List ℕ). map type_id ps) (ap (places_where (is_type_in j) 0) h.parts ∙ five (is_type_in j) pre U V W T
      ∙ only-third _ _ _ _ _ _ (places-none (is_type_in j) 0 pre (every-mono (IsElsewhere j) (λ d. is_type_in j d ≡ false) (λ d q. q.typed) pre h.before))
      (places-none (is_type_in j) _ U (every-mono (IsUseRow j) (λ d. is_type_in j d ≡ false) (λ d q. q.typed) U h.uses))
      (places-same (is_type_in j) is_named (length pre + length U) V (every-mono (IsTypeRow j) (λ d. is_type_in j d ≡ is_named d) (λ d q. q.typed) V h.types))
      (places-none (is_type_in j) _ W (every-mono (IsFunctionRow j) (λ d. is_type_in j d ≡ false) (λ d q. q.typed) W h.functions))
      (places-none (is_type_in j) _ T (every-mono (IsElsewhere j) (λ d. is_type_in j d ≡ false) (λ d q. q.typed) T h.after)))

  functions-are : i.functions ≡ map function_id (places_where is_named (length pre + length U + length V) W)
  functions-are = ap (λ (ps : List ℕ). map function_id ps) (ap (places_where (is_function_in j) 0) h.parts ∙ five (is_function_in j) pre U V W T
      ∙ only-fourth _ _ _ _ _ _ (places-none (is_function_in j) 0 pre (every-mono (IsElsewhere j) (λ d. is_function_in j d ≡ false) (λ d q. q.function) pre h.before))
      (places-none (is_function_in j) _ U (every-mono (IsUseRow j) (λ d. is_function_in j d ≡ false) (λ d q. q.function) U h.uses))
      (places-none (is_function_in j) _ V (every-mono (IsTypeRow j) (λ d. is_function_in j d ≡ false) (λ d q. q.function) V h.types))
      (places-same (is_function_in j) is_named (length pre + length U + length V) W (every-mono (IsFunctionRow j) (λ d. is_function_in j d ≡ is_named d) (λ d q. q.function) W h.functions))
      (places-none (is_function_in j) _ T (every-mono (IsElsewhere j) (λ d. is_function_in j d ≡ false) (λ d q. q.function) T h.after)))

  abbrev S : List Definition
  S = U ++ (V ++ W)

  pub end-is : end_of (length pre) i ≡ length pre + length U + length V + length W
  end-is =
      ap (λ (ts : List TypeId). behind_functions (behind_types (behind_types (length pre) ts) i.types) i.functions) uses-are
      ∙ ap (λ (k : ℕ). behind_functions (behind_types k i.types) i.functions) (types-end (length pre) U h.uses_end)
      ∙ ap (λ (ts : List TypeId). behind_functions (behind_types (length pre + length U) ts) i.functions) types-are
      ∙ ap (λ (k : ℕ). behind_functions k i.functions) (types-end (length pre + length U) V h.types_end)
      ∙ ap (λ (fs : List FunctionId). behind_functions (length pre + length U + length V) fs) functions-are
      ∙ functions-end (length pre + length U + length V) W h.functions_end

  long : length S ≡ length U + length V + length W
  long = omega (arith, length-append U (V ++ W), length-append V W)

  whole : rows ≡ pre ++ (S ++ T)
  whole = h.parts ∙ ap (λ (xs : List Definition). pre ++ xs) (sym (append_assoc U (V ++ W) T ∙ ap (λ (xs : List Definition). U ++ xs) (append_assoc V W T)))

  pub rows-are : rows_of rows (length pre) i ≡ S
  rows-are =
      let size : end_of (length pre) i - length pre ≡ length S = omega (arith, end-is, long) in
      ap (λ (k : ℕ). take k (drop (length pre) rows)) size
      ∙ ap (λ (xs : List Definition). take (length S) (drop (length pre) xs)) whole
      ∙ ap (take (length S)) (drop-append_seam pre (S ++ T)) ∙ take-append_seam S T

  ids-are : ids_of i ≡ places_where is_named (length pre) S
  ids-are =
      ap (λ (ts : List TypeId). map (λ (t : TypeId). t.0) ts ++ (map (λ (t : TypeId). t.0) i.types ++ map (λ (f : FunctionId). f.0) i.functions)) uses-are
      ∙ ap (λ (ps : List ℕ). ps ++ (map (λ (t : TypeId). t.0) i.types ++ map (λ (f : FunctionId). f.0) i.functions)) (drop-map (places_where is_named (length pre) U))
      ∙ ap (λ (ts : List TypeId). places_where is_named (length pre) U ++ (map (λ (t : TypeId). t.0) ts ++ map (λ (f : FunctionId). f.0) i.functions)) types-are
      ∙ ap (λ (ps : List ℕ). places_where is_named (length pre) U ++ (ps ++ map (λ (f : FunctionId). f.0) i.functions)) (drop-map (places_where is_named (length pre + length U) V))
      ∙ ap (λ (fs : List FunctionId). places_where is_named (length pre) U ++ (places_where is_named (length pre + length U) V ++ map (λ (f : FunctionId). f.0) fs)) functions-are
      ∙ ap (λ (ps : List ℕ). places_where is_named (length pre) U ++ (places_where is_named (length pre + length U) V ++ ps)) (drop-functions (places_where is_named (length pre + length U + length V) W))
      ∙ sym (places-append is_named (length pre) U (V ++ W) ∙ ap (λ (ps : List ℕ). places_where is_named (length pre) U ++ ps) (places-append is_named (length pre + length U) V W))

  use-test : (d : Definition) → IsUseRow j d → is_named d ≡ true → is_use_type (type_of (Some d)) ≡ true
  use-test (row.Type d) q n = (split (is_in j d.name) (is_use d.kind) (q.used ∙ n)).1
  use-test (row.Function f) q n = absurd (let e : false ≡ true = q.used ∙ n in cc)

  type-test : (d : Definition) → IsTypeRow j d → is_named d ≡ true → not (is_use_type (type_of (Some d))) ≡ true
  type-test (row.Type d) q n = (split (is_in j d.name) (not (is_use d.kind)) (q.typed ∙ n)).1
  type-test (row.Function f) q n = absurd (let e : false ≡ true = q.typed ∙ n in cc)

  uses-test : list_all (is_use_at rows) i.uses ≡ true
  uses-test =
      ap (list_all (is_use_at rows)) uses-are
      ∙ places-all rows is_named (λ o. is_use_type (type_of o)) pre U (V ++ (W ++ T)) h.parts (every-mono (IsUseRow j) (λ d. is_named d ≡ true → is_use_type (type_of (Some d)) ≡ true) use-test U h.uses)

  types-test : list_all (λ t. not (is_use_at rows t)) i.types ≡ true
  types-test =
      let at : rows ≡ (pre ++ U) ++ (V ++ (W ++ T)) = h.parts ∙ sym (append_assoc pre U (V ++ (W ++ T))) in
      let len : length pre + length U ≡ length (pre ++ U) = sym (length-append pre U) in
      ap (list_all (λ t. not (is_use_at rows t))) (types-are ∙ ap (λ (k : ℕ). map type_id (places_where is_named k V)) len)
      ∙ places-all rows is_named (λ o. not (is_use_type (type_of o))) (pre ++ U) V (W ++ T) at (every-mono (IsTypeRow j) (λ d. is_named d ≡ true → not (is_use_type (type_of (Some d))) ≡ true) type-test V h.types)

  pub ids-stand : has_ids rows (length pre) i ≡ true
  ids-stand =
      both (bytes_eq (ids_of i) (places_where is_named (length pre) (rows_of rows (length pre) i))) _
      (same-bytes _ _ (ids-are ∙ ap (places_where is_named (length pre)) (sym rows-are)))
      (both (list_all (is_use_at rows) i.uses) _ uses-test types-test)
