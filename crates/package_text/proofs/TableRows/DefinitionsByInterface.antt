-- The definitions of a table whose rows stand interface by interface, in each its uses, its types and its functions.
use Rattle.std.proofs.Common.{◌≡◌, ◌⊎◌, inl, inr, ℕ, List, [], ◌∷◌, ◌++◌, length, refl, sym, ap, subst, ◌∙◌, append_assoc, get_or}
use Rattle.std.specs.Prelude.{Bool, true, false, not, ◌&&◌, ◌||◌, Option, None, Some, is_some}
use Rattle.std.proofs.lemmas.Bool.{and_parts, false≢true}
use Rattle.tables.specs.Package.{Tree, NamedDefinition, reference, references, named_by, definition_of, definitions_from}
use Rattle.tables.specs.declared.tables.TypeDefKind.{TypeDefKind}
use Rattle.tables.specs.declared.tables.TypeDefKind.TheVariants as kind
use Rattle.tables.specs.declared.tables.TypeName.{TypeName}
use Rattle.tables.specs.declared.tables.Definition.{Definition}
use Rattle.tables.specs.declared.tables.Definition.TheVariants as row
use Rattle.package_form.specs.Postfix.{is_unnamed, parts_of, aliased_by, inner_row, Leaves, begin, inner, whole, IsPostfix}
use Rattle.package_form.specs.Ids.{is_use}
use Rattle.package_form.specs.Form.{is_own_name}
use Rattle.package_text.proofs.ResolvedTrees.TreeResolvesInPlace.{Each, none_left, and_next, UseOf, TypeOf, FunctionOf}
use Rattle.package_text.proofs.TableRows.RowsReadAsTrees.{is_local_kind, IsOwned, parts-ready, use-row, type-row, function-row}

-- ---- rows before a row with a name

abbrev IsSplit : {A : Type 0} → List A → A → List A → A → List A → Type 0
IsSplit {A = A} xs x front d rest = ((xs ≡ front) × (x ≡ d)) ⊎ ((more : List A) × (xs ≡ front ++ d ∷ more))

snoc-split : {A : Type 0} (xs : List A) (x : A) (front : List A) (d : A) (rest : List A) → xs ++ x ∷ [] ≡ front ++ d ∷ rest → IsSplit xs x front d rest
snoc-split [] x [] d rest e = inl (refl, cc)
snoc-split [] x (f ∷ []) d rest e = absurd cc
snoc-split [] x (f ∷ g ∷ fs) d rest e = absurd cc
snoc-split (y ∷ ys) x [] d rest e = let h : y ≡ d = cc in inr (ys, ap (λ z. z ∷ ys) h)
snoc-split (y ∷ ys) x (f ∷ fs) d rest e =
    let h : y ≡ f = cc in
    let t : ys ++ x ∷ [] ≡ fs ++ d ∷ rest = cc in
    elim (snoc-split ys x fs d rest t) [
      | inl p ↦ inl (ap (λ z. z ∷ ys) h ∙ ap (λ zs. f ∷ zs) p.0, p.1)
      | inr p ↦ inr (p.0, ap (λ z. z ∷ ys) h ∙ ap (λ zs. f ∷ zs) p.1)
    ]

abbrev pub TakesAll : List Definition → Definition → Type 0
TakesAll front d = Leaves front (parts_of front d) × (aliased_by front d ≡ [])

-- a row with a name takes all that is still to be used before it
pub leaves-at : (rows : List Definition) (unused : List ℕ) → Leaves rows unused → (front : List Definition) (d : Definition) (rest : List Definition) → rows ≡ front ++ d ∷ rest → is_unnamed d ≡ false → TakesAll front d
leaves-at _ _ begin [] d rest e u = absurd cc
leaves-at _ _ begin (f ∷ fs) d rest e u = absurd cc
leaves-at _ _ (inner rows unused k i before) front d rest e u = elim (snoc-split rows (inner_row k) front d rest e) [
  | inl p ↦ absurd (false≢true (sym u ∙ ap is_unnamed (sym p.1)))
  | inr p ↦ leaves-at rows _ before front d p.0 p.1 u
]
leaves-at _ _ (whole rows c v a before) front d rest e u = elim (snoc-split rows c front d rest e) [
  | inl p ↦ subst (λ xs. TakesAll xs d) p.0 (subst (TakesAll rows) p.1 (before, a))
  | inr p ↦ leaves-at rows _ before front d p.0 p.1 u
]

-- ---- sections

abbrev pub is_use_row : Definition → Bool
is_use_row (row.Type d) = is_use d.kind || not (is_some d.name)
is_use_row (row.Function f) = false

abbrev pub is_type_row : Definition → Bool
is_type_row (row.Type d) = not (is_use d.kind)
is_type_row (row.Function f) = false

abbrev pub is_function_row : Definition → Bool
is_function_row (row.Type d) = not (is_some d.name)
is_function_row (row.Function f) = true

pub definitions-split : (ns : List (List ℕ)) (ts : List Tree) (xs ys : List Definition) → definitions_from ns ts (xs ++ ys) ≡ definitions_from ns ts xs ++ definitions_from ns (references ns ts xs) ys
definitions-split ns ts [] ys = refl
definitions-split ns ts (x ∷ xs) ys =
    ap (λ zs. definition_of ns ts x ++ zs) (definitions-split ns (ts ++ reference ns ts x ∷ []) xs ys) ∙ sym (append_assoc (definition_of ns ts x) _ _)

module _ (ns : List (List ℕ)) (all : List Definition) (at : ℕ → ℕ) (o : IsOwned ns all at) (p : IsPostfix all) where
  -- what one row of a section means
  abbrev pub Means : (List ℕ → NamedDefinition → Type 0) → List Definition → Definition → Type 0
  Means P front d = Each (P (get_or ns (at (length front)) [])) (definition_of ns (references ns [] front) d)

  use-named : (front : List Definition) (k : ℕ) (m : Option TypeName) (d : TypeDefKind) → is_own_name k m && is_local_kind ns front k d ≡ true → (is_use d || not (is_some m)) ≡ true
      → Each (UseOf (get_or ns k [])) (named_by ns (references ns [] front) m d)
  use-named front k None d l h = none_left
  use-named front k (Some n) (kind.Use t) l h =
      let s = and_parts (is_own_name k (Some n)) (is_local_kind ns front k (kind.Use t)) l in and_next _ [] (use-row ns front k n t s.0 s.1) none_left
  use-named front k (Some n) _ l h = absurd (false≢true h)

  pub use-means : (front : List Definition) (d : Definition) (rest : List Definition) → all ≡ front ++ d ∷ rest → is_use_row d ≡ true → Means UseOf front d
  use-means front (row.Function f) rest e h = absurd (false≢true h)
  use-means front (row.Type d) rest e h = use-named front (at (length front)) d.name d.kind (o.local front (row.Type d) rest e) h

  not-false : (b : Bool) → not b ≡ true → b ≡ false
  not-false true h = absurd (false≢true h)
  not-false false h = refl

  pub type-means : (front : List Definition) (d : Definition) (rest : List Definition) → all ≡ front ++ d ∷ rest → is_type_row d ≡ true → Means TypeOf front d
  type-means front (row.Function f) rest e h = absurd (false≢true h)
  type-means front (row.Type d) rest e h = by d.name refl
    where
      by : (m : Option TypeName) → d.name ≡ m → Each (TypeOf (get_or ns (at (length front)) [])) (named_by ns (references ns [] front) m d.kind)
      by None q = none_left
      by (Some n) q =
          let before = leaves-at all [] p front (row.Type d) rest e (ap (λ m. not (is_some m)) q) in
          let l = and_parts (is_own_name (at (length front)) d.name) (is_local_kind ns front (at (length front)) d.kind) (o.local front (row.Type d) rest e) in
          and_next _ [] (type-row ns front (at (length front)) n d.kind (ap (is_own_name (at (length front))) (sym q) ∙ l.0) (not-false (is_use d.kind) h) before.1 l.1
          (parts-ready ns all at o front (row.Type d) before.0 rest e)) none_left

  pub function-means : (front : List Definition) (d : Definition) (rest : List Definition) → all ≡ front ++ d ∷ rest → is_function_row d ≡ true → Means FunctionOf front d
  function-means front (row.Type d) rest e h = by d.name h
    where
      by : (m : Option TypeName) → not (is_some m) ≡ true → Each (FunctionOf (get_or ns (at (length front)) [])) (named_by ns (references ns [] front) m d.kind)
      by None q = none_left
      by (Some n) q = absurd (false≢true q)
  function-means front (row.Function f) rest e h =
      let before = leaves-at all [] p front (row.Function f) rest e refl in
      function-row ns front (at (length front)) f (o.local front (row.Function f) rest e) (parts-ready ns all at o front (row.Function f) before.0 rest e)
