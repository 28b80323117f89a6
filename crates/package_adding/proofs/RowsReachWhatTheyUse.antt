-- What a row of a table uses: the row defines a used name just where it reaches the interface of the name that it stands for.
use Rattle.std.proofs.Common.{◌≡◌, ℕ, ◌+◌, ◌<◌, true, List, [], ◌∷◌, ◌++◌, length, take, get_or, slice_get, Option, None, Some, refl, ap, sym, subst, ◌∙◌, arith, append_assoc, Contains, inl, inr}
use Rattle.std.specs.Prelude.{cond, is_some, slice_index_or}
use Rattle.std.specs.List.{list_all}
use Rattle.std.proofs.lemmas.Bool.{ltb-true}
use Rattle.package_form.specs.Postfix.{is_inner}
use Rattle.package_form.specs.Reached.{used_by, name_of, name_at, named_interface, reached_by_row}
use Rattle.package_form.proofs.AllAndContains.{contains-here, contains-left, contains-right, contains-either, get-front}
use Rattle.package_form.proofs.NamesMetOneByOne.{split-at}
use Rattle.tree_meaning.proofs.AllDefinitions.{all_of, all_from, any_function, owner_name}
use Rattle.tree_meaning.proofs.NamesOfScopeAreApart.{only}
use Rattle.tree_meaning.proofs.TableRows.{below-at, at-true}
use Rattle.tree_meaning.proofs.tree_forms.RowsStandWhereDefined.{IsTable}
use Rattle.tree_meaning.proofs.tree_forms.InterfaceOfEachRow.{IsPlace, use-kind, tree-at}
use Rattle.tree_meaning.proofs.tree_forms.RowsReferToOwnTypes.{name-there}
use Rattle.tree_meaning.proofs.RowsOfEachInterface.{is_inner_row}
use Rattle.tables.specs.Package.{Tree, TextTree, Reference, Key, IsUse, NamedDefinition, key_of, read_kind, meaning_of, named_by, named_function, function_meaning, definition_of, definitions_from, reference, reference_by, references}
use Rattle.tables.specs.Tables.{type_of, is_type, definition_all, definition_below, are_earlier}
use Rattle.tables.specs.declared.tables.Owner.{Owner}
use Rattle.tables.specs.declared.tables.Owner.TheVariants as owner
use Rattle.tables.specs.declared.tables.TypeDef.{TypeDef}
use Rattle.tables.specs.declared.tables.TypeDefKind.{TypeDefKind}
use Rattle.tables.specs.declared.tables.TypeDefKind.TheVariants as kind
use Rattle.tables.specs.declared.tables.TypeId.{TypeId}
use Rattle.tables.specs.declared.tables.TypeName.{TypeName}
use Rattle.tables.specs.declared.tables.Definition.{Definition}
use Rattle.tables.specs.declared.tables.Definition.TheVariants as row

-- a list around one of its elements
pub parted-at : {A : Type 0} (xs : List A) (x : A) → Contains xs x → (pre : List A) × (post : List A) × (xs ≡ pre ++ x ∷ post)
parted-at xs x c = let r = split-at xs c.0 x c.1 (sym c.2) in (take c.0 xs, r.0, r.1 ∙ append_assoc (take c.0 xs) (x ∷ []) r.0)

-- a definition is one of all
module _ (ns : List (List ℕ)) (x : NamedDefinition) where
  one-of-all : (trees : List Tree) (d : Definition) → Contains (definition_of ns trees d) x → Contains (all_of ns trees d) x
  one-of-all trees (row.Type d) c = c
  one-of-all trees (row.Function f) c = by f.owner c
    where
      by : (o : Owner) → Contains (named_function ns o f.name (function_meaning trees f)) x
          → Contains (record { key = record { interface = owner_name ns o; name = f.name }; meaning = function_meaning trees f } ∷ []) x
      by (owner.Interface i) q = q
      by (owner.World w) q = absurd (omega (arith, q.1))

  pub among-all : (trees : List Tree) (ds : List Definition) → Contains (definitions_from ns trees ds) x → Contains (all_from ns trees ds) x
  among-all trees [] c = c
  among-all trees (d ∷ ds) c =
      let rest = trees ++ reference ns trees d ∷ [] in
      elim (contains-either (definition_of ns trees d) (definitions_from ns rest ds) x c) [
        | inl h ↦ contains-left (all_of ns trees d) (all_from ns rest ds) x (one-of-all trees d h)
        | inr h ↦ contains-right (all_of ns trees d) (all_from ns rest ds) x (among-all rest ds h)
      ]

module _ (ns : List (List ℕ)) (rows : List Definition) (table : IsTable rows) (pre : List Definition) (d : Definition) (post : List Definition) (parts : rows ≡ pre ++ d ∷ post) where
  abbrev trees : List Tree
  trees = references ns [] pre

  below : definition_below (length pre) d ≡ true
  below = subst (λ (k : ℕ). definition_below k d ≡ true) (let z : 0 + length pre ≡ length pre = omega arith in z)
      (below-at 0 pre d post (subst (λ (xs : List Definition). are_earlier 0 xs ≡ true) parts table.earlier))

  typed : definition_all (is_type rows) d ≡ true
  typed = at-true (definition_all (is_type rows)) pre d post (subst (λ (xs : List Definition). list_all (definition_all (is_type rows)) xs ≡ true) parts table.typed)

  inner : is_inner_row d ≡ true
  inner = at-true is_inner_row pre d post (subst (λ (xs : List Definition). list_all is_inner_row xs ≡ true) parts table.inner)

  -- ---- a use reaches the interface that it is of

  type-reaches : (o : Option TypeName) (c : TypeDefKind) → definition_below (length pre) (row.Type (record { name = o; kind = c })) ≡ true
      → definition_all (is_type rows) (row.Type (record { name = o; kind = c })) ≡ true → (x : NamedDefinition) (target : Key) (k : ℕ) → Contains (named_by ns trees o c) x
      → x.meaning ≡ IsUse (Reference target) → IsPlace ns k target.interface → Contains (reached_by_row rows (row.Type (record { name = o; kind = c }))) k
  type-reaches None c b t x target k q means place = absurd (omega (arith, q.1))
  type-reaches (Some n) c b t x target k q means place =
      let m : meaning_of trees c ≡ IsUse (Reference target) = ap (λ (y : NamedDefinition). y.meaning) (only (record { key = key_of ns n; meaning = meaning_of trees c }) x q) ∙ means in
      let u = use-kind trees c (Reference target) m in
      let less = ltb-true u.0.0 (length pre) (subst (λ (z : TypeDefKind). definition_below (length pre) (row.Type (record { name = Some n; kind = z })) ≡ true) u.1 b) in
      let is = subst (λ (z : TypeDefKind). definition_all (is_type rows) (row.Type (record { name = Some n; kind = z })) ≡ true) u.1 t in
      let named = name-there ns rows pre (d ∷ post) parts table.inner u.0 target k less is u.2 place in
      let there : Contains (named_interface (name_at rows (Some u.0))) k =
      subst (λ (o : Option TypeName). Contains (named_interface o) k) (sym named.1) (subst (λ (j : ℕ). Contains (j ∷ []) k) (sym named.2) (contains-here k [])) in
      subst (λ (z : TypeDefKind). Contains (named_interface (name_at rows (used_by z))) k) (sym u.1) there

  pub row-reaches : (x : NamedDefinition) (target : Key) (k : ℕ) → Contains (all_of ns trees d) x → x.meaning ≡ IsUse (Reference target)
      → IsPlace ns k target.interface → Contains (reached_by_row rows d) k
  row-reaches x target k c means place = by d below typed c
    where
      by : (y : Definition) → definition_below (length pre) y ≡ true → definition_all (is_type rows) y ≡ true → Contains (all_of ns trees y) x → Contains (reached_by_row rows y) k
      by (row.Type y) b t q = type-reaches y.name y.kind b t x target k q means place
      by (row.Function f) b t q = let m = ap (λ (z : NamedDefinition). z.meaning) (only (any_function ns trees f) x q) ∙ means in absurd (cc)

  -- ---- what is reached is used

  pub record IsUseAt (y : Definition) (k : ℕ) : Type 0 where
    pub used : NamedDefinition
    pub target : Key
    pub defines : Contains (definition_of ns trees y) used
    pub means : used.meaning ≡ IsUse (Reference target)
    pub of : target.interface ≡ get_or ns k []

  used-row : (n : TypeName) (t : TypeId) (k : ℕ) → t.0 < length pre → (y : TypeDef) → slice_get rows t.0 ≡ Some (row.Type y) → (o : Option TypeName) → y.name ≡ o
      → Contains (named_interface o) k → IsUseAt (row.Type (record { name = Some n; kind = kind.Use t })) k
  used-row n t k less y at None e q = absurd (omega (arith, q.1))
  used-row n t k less y at (Some m) e q =
      let here : slice_get pre t.0 ≡ Some (row.Type y) = sym (get-front pre (d ∷ post) t.0 less) ∙ (ap (λ (xs : List Definition). slice_get xs t.0) (sym parts) ∙ at) in
      let x = tree-at ns [] pre t.0 y here in
      let same : t.0 ≡ 0 + t.0 = omega arith in
      let tree : slice_index_or trees t.0 TextTree ≡ Reference (key_of ns m) =
      ap (λ (j : ℕ). slice_index_or trees j TextTree) same ∙ (x.1 ∙ ap (λ (z : Option TypeName). reference_by ns z (read_kind x.0 y.kind)) e) in
      record {
        used = record { key = key_of ns n; meaning = meaning_of trees (kind.Use t) };
        target = key_of ns m;
        defines = contains-here _ [];
        means = ap (λ (z : Tree). IsUse z) tree;
        of = ap (λ (j : ℕ). get_or ns j []) (only m.interface.0 k q);
      }

  used-name : (n : TypeName) (t : TypeId) (k : ℕ) → t.0 < length pre → (o : Option Definition) → slice_get rows t.0 ≡ o → Contains (named_interface (name_of (type_of o))) k
      → IsUseAt (row.Type (record { name = Some n; kind = kind.Use t })) k
  used-name n t k less None e q = absurd (omega (arith, q.1))
  used-name n t k less (Some (row.Function f)) e q = absurd (omega (arith, q.1))
  used-name n t k less (Some (row.Type y)) e q = used-row n t k less y e y.name refl q

  type-uses : (o : Option TypeName) (c : TypeDefKind) (k : ℕ) → definition_below (length pre) (row.Type (record { name = o; kind = c })) ≡ true → cond (is_some o) true (is_inner c) ≡ true
      → Contains (named_interface (name_at rows (used_by c))) k → IsUseAt (row.Type (record { name = o; kind = c })) k
  type-uses None (kind.Use t) k b i q = absurd (cc)
  type-uses (Some n) (kind.Use t) k b i q = used-name n t k (ltb-true t.0 (length pre) b) (slice_get rows t.0) refl q
  type-uses o _ k b i q = absurd (omega (arith, q.1))

  pub reached-used : (k : ℕ) → Contains (reached_by_row rows d) k → IsUseAt d k
  reached-used k c = by d below inner c
    where
      by : (y : Definition) → definition_below (length pre) y ≡ true → is_inner_row y ≡ true → Contains (reached_by_row rows y) k → IsUseAt y k
      by (row.Type y) b i q = type-uses y.name y.kind k b i q
      by (row.Function f) b i q = absurd (omega (arith, q.1))
