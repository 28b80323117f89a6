-- The rows of a table, cut behind the row with a name that stands for a definition.
use Rattle.std.proofs.Common.{◌≡◌, ℕ, true, false, not, List, [], ◌∷◌, ◌++◌, Option, None, Some, refl, ap, ◌∙◌, All}
use Rattle.tables.specs.Package.{Tree, NamedDefinition, reference, references, meaning_of, key_of}
use Rattle.tables.specs.declared.tables.TypeDefKind.{TypeDefKind}
use Rattle.tables.specs.declared.tables.TypeName.{TypeName}
use Rattle.tables.specs.declared.tables.Definition.{Definition}
use Rattle.tables.specs.declared.tables.Definition.TheVariants as row
use Rattle.package_form.specs.Postfix.{is_unnamed}
use Rattle.package_form.proofs.AllAndContains.{all-head, all-tail}
use Rattle.tree_meaning.proofs.AllDefinitions.{all_from, any_function}
use Rattle.tree_meaning.proofs.TableRows.{ends_named, RowsAre}

pub rows-mono : (ns : List (List ℕ)) (P Q : List Tree → Definition → Type 0) → ((trees : List Tree) (d : Definition) → P trees d → Q trees d)
    → (trees : List Tree) (ds : List Definition) → RowsAre ns P trees ds → RowsAre ns Q trees ds
rows-mono ns P Q f trees [] h = tt
rows-mono ns P Q f trees (d ∷ ds) h = (f trees d h.0, rows-mono ns P Q f (trees ++ reference ns trees d ∷ []) ds h.1)

-- what a row with a name defines has the property
abbrev pub TypeMeans : List (List ℕ) → (NamedDefinition → Type 0) → List Tree → Option TypeName → TypeDefKind → Type 0
TypeMeans ns Q trees None k = Unit {0}
TypeMeans ns Q trees (Some n) k = Q (record { key = key_of ns n; meaning = meaning_of trees k })

abbrev pub Means : List (List ℕ) → (NamedDefinition → Type 0) → List Tree → Definition → Type 0
Means ns Q trees (row.Type d) = TypeMeans ns Q trees d.name d.kind
Means ns Q trees (row.Function f) = Q (any_function ns trees f)

module _ (ns : List (List ℕ)) (P Q : NamedDefinition → Type 0) (f : (x : NamedDefinition) → P x → Q x) where
  type-mono : (trees : List Tree) (o : Option TypeName) (k : TypeDefKind) → TypeMeans ns P trees o k → TypeMeans ns Q trees o k
  type-mono trees None k h = tt
  type-mono trees (Some n) k h = f _ h

  pub means-mono : (trees : List Tree) (d : Definition) → Means ns P trees d → Means ns Q trees d
  means-mono trees (row.Type d) h = type-mono trees d.name d.kind h
  means-mono trees (row.Function g) h = f _ h

module _ (ns : List (List ℕ)) (Q : NamedDefinition → Type 0) where
  type-means : (trees : List Tree) (o : Option TypeName) (k : TypeDefKind) (ds : List Definition)
      → All Q (all_from ns trees (row.Type (record { name = o; kind = k }) ∷ ds))
      → TypeMeans ns Q trees o k × All Q (all_from ns (trees ++ reference ns trees (row.Type (record { name = o; kind = k })) ∷ []) ds)
  type-means trees None k ds h = (tt, h)
  type-means trees (Some n) k ds h = (all-head Q _ _ h, all-tail Q _ _ h)

  pub rows-mean : (trees : List Tree) (ds : List Definition) → All Q (all_from ns trees ds) → RowsAre ns (Means ns Q) trees ds
  rows-mean trees [] h = tt
  rows-mean trees (row.Type d ∷ ds) h = let x = type-means trees d.name d.kind ds h in (x.0, rows-mean (trees ++ reference ns trees (row.Type d) ∷ []) ds x.1)
  rows-mean trees (row.Function f ∷ ds) h = (all-head Q _ _ h, rows-mean (trees ++ reference ns trees (row.Function f) ∷ []) ds (all-tail Q _ _ h))

pub heads : {A : Type 0} {x y : A} {xs ys : List A} → x ∷ xs ≡ y ∷ ys → x ≡ y
heads e = cc

pub tails : {A : Type 0} {x y : A} {xs ys : List A} → x ∷ xs ≡ y ∷ ys → xs ≡ ys
tails e = cc

-- rows that define these, and then others
pub record Cut (ns : List (List ℕ)) (trees : List Tree) (ds : List Definition) (A B : List NamedDefinition) : Type 0 where
  pub front : List Definition
  pub back : List Definition
  pub parts : ds ≡ front ++ back
  pub first : all_from ns trees front ≡ A
  pub then_ : all_from ns (references ns trees front) back ≡ B
  pub ends : ends_named front ≡ true

module _ (ns : List (List ℕ)) where
  ends-more : (d : Definition) (ds : List Definition) → is_unnamed d ≡ false → ends_named ds ≡ true → ends_named (d ∷ ds) ≡ true
  ends-more d [] u h = ap not u
  ends-more d (e ∷ ds) u h = h

  with-named : (trees : List Tree) (d : Definition) (ds : List Definition) (x a : NamedDefinition) (A B : List NamedDefinition) → is_unnamed d ≡ false
      → ((cs : List Definition) → all_from ns trees (d ∷ cs) ≡ x ∷ all_from ns (trees ++ reference ns trees d ∷ []) cs)
      → x ≡ a → Cut ns (trees ++ reference ns trees d ∷ []) ds A B → Cut ns trees (d ∷ ds) (a ∷ A) B
  with-named trees d ds x a A B u one is c = record {
    front = d ∷ c.front;
    back = c.back;
    parts = ap (λ (es : List Definition). d ∷ es) c.parts;
    first = one c.front ∙ ap (λ (ys : List NamedDefinition). x ∷ ys) c.first ∙ ap (λ (y : NamedDefinition). y ∷ A) is;
    then_ = c.then_;
    ends = ends-more d c.front u c.ends;
  }

  with-unnamed : (trees : List Tree) (d : Definition) (ds : List Definition) (a : NamedDefinition) (A B : List NamedDefinition)
      → ((cs : List Definition) → all_from ns trees (d ∷ cs) ≡ all_from ns (trees ++ reference ns trees d ∷ []) cs)
      → Cut ns (trees ++ reference ns trees d ∷ []) ds (a ∷ A) B → Cut ns trees (d ∷ ds) (a ∷ A) B
  with-unnamed trees d ds a A B none c = record {
    front = d ∷ c.front;
    back = c.back;
    parts = ap (λ (es : List Definition). d ∷ es) c.parts;
    first = none c.front ∙ c.first;
    then_ = c.then_;
    ends = by c.front c.first c.ends;
  }
    where
      by : (cs : List Definition) → all_from ns (trees ++ reference ns trees d ∷ []) cs ≡ a ∷ A → ends_named cs ≡ true → ends_named (d ∷ cs) ≡ true
      by [] e h = absurd (cc)
      by (c ∷ cs) e h = h

  type-cut : (trees : List Tree) (o : Option TypeName) (k : TypeDefKind) (ds : List Definition) (a : NamedDefinition) (A B : List NamedDefinition)
      → ((ts : List Tree) (C : List NamedDefinition) → all_from ns ts ds ≡ C ++ B → Cut ns ts ds C B)
      → all_from ns trees (row.Type (record { name = o; kind = k }) ∷ ds) ≡ (a ∷ A) ++ B
      → Cut ns trees (row.Type (record { name = o; kind = k }) ∷ ds) (a ∷ A) B
  type-cut trees None k ds a A B again e = with-unnamed trees _ ds a A B (λ cs. refl) (again _ (a ∷ A) e)
  type-cut trees (Some n) k ds a A B again e =
      with-named trees _ ds (record { key = key_of ns n; meaning = meaning_of trees k }) a A B refl (λ cs. refl) (heads e) (again _ A (tails e))

  pub cut : (trees : List Tree) (ds : List Definition) (A B : List NamedDefinition) → all_from ns trees ds ≡ A ++ B → Cut ns trees ds A B
  cut trees ds [] B e = record { front = []; back = ds; parts = refl; first = refl; then_ = e; ends = refl }
  cut trees [] (a ∷ A) B e = absurd (cc)
  cut trees (row.Type d ∷ ds) (a ∷ A) B e = type-cut trees d.name d.kind ds a A B (λ ts C q. cut ts ds C B q) e
  cut trees (row.Function f ∷ ds) (a ∷ A) B e = with-named trees (row.Function f) ds (any_function ns trees f) a A B refl (λ cs. refl) (heads e) (cut _ ds A B (tails e))
