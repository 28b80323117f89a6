-- The rows of a table: what is read of them, and where they stand.
use Rattle.std.proofs.Common.{◌≡◌, ℕ, suc, ◌+◌, Bool, true, List, [], ◌∷◌, ◌++◌, length, refl, subst, ◌∙◌, arith, length-append, zero, ◌-◌, Some, slice_get, false, cond, Option, ap, sym, append_assoc, ◌==◌, not, ◌<◌, append-nil, get_or}
use Rattle.std.specs.List.{list_all}
use Rattle.tables.specs.Tables.{definition_below, are_earlier, definition_all, is_type}
use Rattle.tables.specs.Package.{Tree, reference, references, TextTree, Reference, read_kind, reference_by, key_of}
use Rattle.tables.specs.declared.tables.Definition.{Definition}
use Rattle.tables.proofs.ClosedTypesRowByRow.{split, both}
use Rattle.std.proofs.lemmas.List.{length-map, get_or_append_left}
use Rattle.package_form.specs.Ids.{interfaces_from, places_where, is_use}
use Rattle.tree_meaning.specs.Resolves.{in_package, interfaces_behind}
use Rattle.std.proofs.lemmas.Bool.Decides.{nat_tests}
use Rattle.package_form.specs.Postfix.{is_unnamed, is_inner}
use Rattle.std.proofs.lemmas.Bool.{false≢true}
use Rattle.tables.specs.declared.tables.TypeDefKind.{TypeDefKind}
use Rattle.tables.specs.declared.tables.TypeDefKind.TheVariants as kind
use Rattle.std.proofs.Math.Seq.{get_or-append_seam}
use Rattle.tables.specs.declared.tables.TypeName.{TypeName}
use Rattle.tables.specs.declared.tables.TypeDef.{TypeDef}
use Rattle.tables.specs.declared.tables.Definition.TheVariants as row
use Rattle.tree_meaning.proofs.AllDefinitions.{all_from, all_of}

-- ---- facts of the table

pub references-append : (ns : List (List ℕ)) (trees : List Tree) (ds es : List Definition) → references ns trees (ds ++ es) ≡ references ns (references ns trees ds) es
references-append ns trees [] es = refl
references-append ns trees (d ∷ ds) es = references-append ns (trees ++ reference ns trees d ∷ []) ds es

pub references-length : (ns : List (List ℕ)) (trees : List Tree) (ds : List Definition) → length (references ns trees ds) ≡ length trees + length ds
references-length ns trees [] = omega arith
references-length ns trees (d ∷ ds) = references-length ns (trees ++ reference ns trees d ∷ []) ds ∙ omega (arith, length-append trees (reference ns trees d ∷ []))

pub below-at : (n : ℕ) (pre : List Definition) (d : Definition) (post : List Definition) → are_earlier n (pre ++ d ∷ post) ≡ true → definition_below (n + length pre) d ≡ true
below-at n [] d post h = subst (λ (k : ℕ). definition_below k d ≡ true) (omega arith) (split (definition_below n d) (are_earlier (n + 1) post) h).0
below-at n (c ∷ pre) d post h =
    subst (λ (k : ℕ). definition_below k d ≡ true) (let e : n + 1 + length pre ≡ n + suc (length pre) = omega arith in e)
    (below-at (n + 1) pre d post (split (definition_below n c) (are_earlier (n + 1) (pre ++ d ∷ post)) h).1)

pub at-true : {A : Type 0} (p : A → Bool) (pre : List A) (x : A) (post : List A) → list_all p (pre ++ x ∷ post) ≡ true → p x ≡ true
at-true p [] x post h = (split (p x) (list_all p post) h).0
at-true p (y ∷ pre) x post h = at-true p pre x post (split (p y) (list_all p (pre ++ x ∷ post)) h).1

-- what stands in a table stands there when more rows come behind it
pub get-some : (rows more : List Definition) (n : ℕ) (d : Definition) → slice_get rows n ≡ Some d → slice_get (rows ++ more) n ≡ Some d
get-some [] more n d e = absurd (cc)
get-some (x ∷ rows) more zero d e = e
get-some (x ∷ rows) more (suc n) d e = get-some rows more n d e

pub interfaces-length : (rows : List Definition) (i : ℕ) (ns : List (List ℕ)) → length (interfaces_from rows i ns) ≡ length ns
interfaces-length rows i [] = refl
interfaces-length rows i (n ∷ ns) = ap suc (interfaces-length rows (i + 1) ns)

-- ---- the ids of a package's interfaces, row by row

pub behind-length : (n i : ℕ) (rows : List Definition) (ns : List (List ℕ)) → length (interfaces_behind n i rows ns) ≡ length ns
behind-length n i rows ns = length-map (interfaces_from rows i ns) (in_package n) ∙ interfaces-length rows i ns

-- ---- ids are of their kind

get-here : {A : Type 0} (xs ys : List A) (y : A) (n : ℕ) → n ≡ length xs → slice_get (xs ++ y ∷ ys) n ≡ Some y
get-here [] ys y n h = rw h refl
get-here (x ∷ xs) ys y zero h = absurd (omega arith)
get-here (x ∷ xs) ys y (suc n) h = get-here xs ys y n (omega arith)

module _ (is : Definition → Bool) (kept : Option Definition → Bool) (right : (d : Definition) → is d ≡ true → kept (Some d) ≡ true) (rows : List Definition) where
  pub kept-all : (pre ds : List Definition) (n : ℕ) → rows ≡ pre ++ ds → n ≡ length pre → list_all (λ m. kept (slice_get rows m)) (places_where is n ds) ≡ true
  kept-all pre [] n e h = refl
  kept-all pre (d ∷ ds) n e h = by (is d) refl (kept-all (pre ++ d ∷ []) ds (n + 1) (e ∙ sym (append_assoc pre (d ∷ []) ds)) (omega (arith, h, length-append pre (d ∷ []))))
    where
      at : slice_get rows n ≡ Some d
      at = ap (λ (xs : List Definition). slice_get xs n) e ∙ get-here pre ds d n h

      by : (b : Bool) → is d ≡ b → list_all (λ m. kept (slice_get rows m)) (places_where is (n + 1) ds) ≡ true
          → list_all (λ m. kept (slice_get rows m)) (cond b (n ∷ places_where is (n + 1) ds) (places_where is (n + 1) ds)) ≡ true
      by true q rest = both (kept (slice_get rows n)) (list_all (λ m. kept (slice_get rows m)) (places_where is (n + 1) ds)) (ap kept at ∙ right d q) rest
      by false q rest = rest

pub is-that : (m j : ℕ) → m ≡ j → (m == j) ≡ true
is-that m j e = grind (arith, nat_tests)

cond-append : (b : Bool) (n : ℕ) (xs ys : List ℕ) → cond b (n ∷ xs ++ ys) (xs ++ ys) ≡ cond b (n ∷ xs) xs ++ ys
cond-append true n xs ys = refl
cond-append false n xs ys = refl

pub places-append : (P : Definition → Bool) (n : ℕ) (ds es : List Definition) → places_where P n (ds ++ es) ≡ places_where P n ds ++ places_where P (n + length ds) es
places-append P n [] es = ap (λ (k : ℕ). places_where P k es) (omega arith)
places-append P n (d ∷ ds) es =
    let again = places-append P (n + 1) ds es in
    let at : n + 1 + length ds ≡ n + suc (length ds) = omega arith in
    ap (λ (ps : List ℕ). cond (P d) (n ∷ ps) ps) (again ∙ ap (λ (k : ℕ). places_where P (n + 1) ds ++ places_where P k es) at)
    ∙ cond-append (P d) n (places_where P (n + 1) ds) (places_where P (n + suc (length ds)) es)

pub get-seam : (xs : List Definition) (x : Definition) (ys : List Definition) → slice_get (xs ++ x ∷ ys) (length xs) ≡ Some x
get-seam [] x ys = refl
get-seam (y ∷ xs) x ys = get-seam xs x ys

-- ---- the place behind the last

abbrev pub behind : ℕ → List ℕ → ℕ
behind n [] = n
behind n (p ∷ ps) = behind (p + 1) ps

-- the last of these rows has a name, if there is any
abbrev pub ends_named : List Definition → Bool
ends_named [] = true
ends_named (d ∷ []) = not (is_unnamed d)
ends_named (d ∷ e ∷ ds) = ends_named (e ∷ ds)

-- each row has the property, over the trees of the rows before it
abbrev pub RowsAre : (List (List ℕ)) → (List Tree → Definition → Type 0) → List Tree → List Definition → Type 0
RowsAre ns P trees [] = Unit {0}
RowsAre ns P trees (d ∷ ds) = P trees d × RowsAre ns P (trees ++ reference ns trees d ∷ []) ds

pub not-use : (k : TypeDefKind) → is_inner k ≡ true → is_use k ≡ false
not-use (kind.Use t) h = absurd (false≢true h)
not-use _ h = refl

-- ---- the trees of a table

pub trees-kept : (ns : List (List ℕ)) (trees : List Tree) (ds : List Definition) (n : ℕ) → n < length trees → get_or (references ns trees ds) n TextTree ≡ get_or trees n TextTree
trees-kept ns trees [] n l = refl
trees-kept ns trees (d ∷ ds) n l =
    trees-kept ns (trees ++ reference ns trees d ∷ []) ds n (grind (arith, length-append)) ∙ get_or_append_left trees (reference ns trees d ∷ []) TextTree n l

pub definitions-append : (ns : List (List ℕ)) (trees : List Tree) (ds : List Definition) (d : Definition) → all_from ns trees (ds ++ d ∷ []) ≡ all_from ns trees ds ++ all_of ns (references ns trees ds) d
definitions-append ns trees [] d = append-nil (all_of ns trees d)
definitions-append ns trees (c ∷ ds) d =
    ap (λ xs. all_of ns trees c ++ xs) (definitions-append ns (trees ++ reference ns trees c ∷ []) ds d)
    ∙ sym (append_assoc (all_of ns trees c) _ _)

-- a row with a name is referred to by it
pub name-tree : (ns : List (List ℕ)) (trees : List Tree) (ds : List Definition) (k : ℕ) (d : TypeDef) (n : TypeName) → slice_get ds k ≡ Some (row.Type d) → d.name ≡ Some n
    → get_or (references ns trees ds) (length trees + k) TextTree ≡ Reference (key_of ns n)
name-tree ns trees [] k d n e q = absurd cc
name-tree ns trees (c ∷ ds) zero d n e q =
    let is : c ≡ row.Type d = cc in
    let x : Tree = reference ns trees c in
    let named : x ≡ Reference (key_of ns n) = ap (reference ns trees) is ∙ ap (λ m. reference_by ns m (read_kind trees d.kind)) q in
    ap (λ i. get_or (references ns (trees ++ x ∷ []) ds) i TextTree) (omega arith)
    ∙ (trees-kept ns (trees ++ x ∷ []) ds (length trees) (grind (arith, length-append)) ∙ (get_or-append_seam trees x [] TextTree ∙ named))
name-tree ns trees (c ∷ ds) (suc k) d n e q =
    ap (λ i. get_or (references ns (trees ++ reference ns trees c ∷ []) ds) i TextTree) (grind (arith, length-append))
    ∙ name-tree ns (trees ++ reference ns trees c ∷ []) ds k d n e q

-- each row names types before it
abbrev pub IsTyped : List Definition → Type 0
IsTyped rows = (front : List Definition) (d : Definition) (rest : List Definition) → rows ≡ front ++ d ∷ rest → definition_all (is_type front) d ≡ true

-- the tree at the end of these rows
pub tree-here : (ns : List (List ℕ)) (rows rest : List Definition) (d : Definition) → get_or (references ns [] (rows ++ d ∷ rest)) (length rows) TextTree ≡ reference ns (references ns [] rows) d
tree-here ns rows rest d =
    let front : List Tree = references ns [] rows in
    let x : Tree = reference ns front d in
    let long : length front ≡ length rows = references-length ns [] rows ∙ omega arith in
    ap (λ (xs : List Tree). get_or xs (length rows) TextTree) (references-append ns [] rows (d ∷ rest))
    ∙ (trees-kept ns (front ++ x ∷ []) rest (length rows) (grind (arith, long, length-append))
    ∙ (ap (λ i. get_or (front ++ x ∷ []) i TextTree) (sym long) ∙ get_or-append_seam front x [] TextTree))
