-- The ids of an interface are the places of its rows with names.
use Rattle.std.proofs.Common.{◌≡◌, ◌≢◌, ℕ, ◌+◌, Bool, true, false, cond, not, ◌&&◌, ◌==◌, List, [], ◌∷◌, ◌++◌, map, length, slice_get, Option, None, Some, refl, ap, sym, subst, ◌∙◌, arith, length-append, append_assoc}
use Rattle.std.specs.List.{list_all}
use Rattle.std.proofs.lemmas.Bool.Decides.{nat_tests}
use Rattle.tables.specs.Package.{Tree, Reference, reference}
use Rattle.tables.specs.declared.tables.TypeId.{TypeId}
use Rattle.tables.specs.declared.tables.TypeDefKind.{TypeDefKind}
use Rattle.tables.specs.declared.tables.TypeName.{TypeName}
use Rattle.tables.specs.declared.tables.Owner.{Owner}
use Rattle.tables.specs.declared.tables.Owner.TheVariants as owner
use Rattle.tables.specs.declared.tables.Definition.{Definition}
use Rattle.tables.specs.declared.tables.Definition.TheVariants as row
use Rattle.package_form.specs.Ids.{places_where, is_in, is_use, is_use_in, is_type_in, is_owned_by, is_function_in, type_id, function_id}
use Rattle.package_form.specs.Form.{is_named}
use Rattle.package_form.specs.Ends.{behind_types, behind_functions}
use Rattle.tables.proofs.ClosedTypesRowByRow.{both}
use Rattle.tree_meaning.proofs.TableRows.{ends_named, RowsAre, is-that, get-seam, behind}
use Rattle.tree_meaning.proofs.tree_forms.RowsCutByDefinition.{TypeMeans, Means}
use Rattle.tree_meaning.proofs.ReferencesOfDefinitions.{Every}
use Rattle.tree_meaning.proofs.tree_forms.InterfaceOfEachRow.{IsPlace, MeansUse, MeansType, MeansFunction, use-kind, type-kind, no-function}
use Rattle.tree_meaning.proofs.AllDefinitions.{owner_name}

-- ---- places

pub places-same : (P Q : Definition → Bool) (n : ℕ) (ds : List Definition) → Every (λ d. P d ≡ Q d) ds → places_where P n ds ≡ places_where Q n ds
places-same P Q n [] h = refl
places-same P Q n (d ∷ ds) h = ap (λ (b : Bool). cond b (n ∷ places_where P (n + 1) ds) (places_where P (n + 1) ds)) h.0
    ∙ ap (λ (ps : List ℕ). cond (Q d) (n ∷ ps) ps) (places-same P Q (n + 1) ds h.1)

pub places-none : (P : Definition → Bool) (n : ℕ) (ds : List Definition) → Every (λ d. P d ≡ false) ds → places_where P n ds ≡ []
places-none P n [] h = refl
places-none P n (d ∷ ds) h = ap (λ (b : Bool). cond b (n ∷ places_where P (n + 1) ds) (places_where P (n + 1) ds)) h.0 ∙ places-none P (n + 1) ds h.1

-- what a test says of the rows at these places
pub places-all : (rows : List Definition) (P : Definition → Bool) (q : Option Definition → Bool) (pre S T : List Definition) → rows ≡ pre ++ (S ++ T)
    → Every (λ d. P d ≡ true → q (Some d) ≡ true) S → list_all (λ (t : TypeId). q (slice_get rows t.0)) (map type_id (places_where P (length pre) S)) ≡ true
places-all rows P q pre [] T e h = refl
places-all rows P q pre (d ∷ S) T e h =
    let len : length (pre ++ d ∷ []) ≡ length pre + 1 = length-append pre (d ∷ []) in
    let again = places-all rows P q (pre ++ d ∷ []) S T (e ∙ sym (append_assoc pre (d ∷ []) (S ++ T))) h.1 in
    let later = ap (λ (k : ℕ). list_all (λ (t : TypeId). q (slice_get rows t.0)) (map type_id (places_where P k S))) (sym len) ∙ again in
    let at : slice_get rows (length pre) ≡ Some d = ap (λ (xs : List Definition). slice_get xs (length pre)) e ∙ get-seam pre d (S ++ T) in
    by (P d) (λ q. h.0 q) later at
  where
    by : (b : Bool) → (b ≡ true → q (Some d) ≡ true) → list_all (λ (t : TypeId). q (slice_get rows t.0)) (map type_id (places_where P (length pre + 1) S)) ≡ true
        → slice_get rows (length pre) ≡ Some d
        → list_all (λ (t : TypeId). q (slice_get rows t.0)) (map type_id (cond b (length pre ∷ places_where P (length pre + 1) S) (places_where P (length pre + 1) S))) ≡ true
    by true is later at = both (q (slice_get rows (length pre))) _ (ap q at ∙ is refl) later
    by false is later at = later

behind-types : (n : ℕ) (ps : List ℕ) → behind_types n (map type_id ps) ≡ behind n ps
behind-types n [] = refl
behind-types n (p ∷ ps) = behind-types (p + 1) ps

behind-functions : (n : ℕ) (ps : List ℕ) → behind_functions n (map function_id ps) ≡ behind n ps
behind-functions n [] = refl
behind-functions n (p ∷ ps) = behind-functions (p + 1) ps

behind-some : (n start : ℕ) (d : Definition) (ds : List Definition) → ends_named (d ∷ ds) ≡ true → behind n (places_where is_named start (d ∷ ds)) ≡ start + length (d ∷ ds)
behind-some n start d [] h = ap (λ (b : Bool). behind n (cond b (start ∷ []) [])) h
behind-some n start d (e ∷ ds) h = by (is_named d)
    (λ k. behind-some k (start + 1) e ds h)
  where
    by : (b : Bool) → ((k : ℕ) → behind k (places_where is_named (start + 1) (e ∷ ds)) ≡ start + 1 + length (e ∷ ds))
        → behind n (cond b (start ∷ places_where is_named (start + 1) (e ∷ ds)) (places_where is_named (start + 1) (e ∷ ds))) ≡ start + length (d ∷ e ∷ ds)
    by true again = again (start + 1) ∙ omega arith
    by false again = again n ∙ omega arith

pub behind-all : (start : ℕ) (ds : List Definition) → ends_named ds ≡ true → behind start (places_where is_named start ds) ≡ start + length ds
behind-all start [] h = omega arith
behind-all start (d ∷ ds) h = behind-some start start d ds h

pub types-end : (start : ℕ) (ds : List Definition) → ends_named ds ≡ true → behind_types start (map type_id (places_where is_named start ds)) ≡ start + length ds
types-end start ds h = behind-types start (places_where is_named start ds) ∙ behind-all start ds h

pub functions-end : (start : ℕ) (ds : List Definition) → ends_named ds ≡ true → behind_functions start (map function_id (places_where is_named start ds)) ≡ start + length ds
functions-end start ds h = behind-functions start (places_where is_named start ds) ∙ behind-all start ds h

-- ---- which rows are of an interface

-- the row is of no list of interface k
pub record IsElsewhere (k : ℕ) (d : Definition) : Type 0 where
  pub used : is_use_in k d ≡ false
  pub typed : is_type_in k d ≡ false
  pub function : is_function_in k d ≡ false

pub not-that : (m k : ℕ) → (k ≡ m → ⊥) → (m == k) ≡ false
not-that m k h = by (m == k) refl
  where
    by : (b : Bool) → (m == k) ≡ b → (m == k) ≡ false
    by true e = absurd (h (sym (let q : m ≡ k = grind (arith, nat_tests) in q)))
    by false e = e

pub none-and : (a b : Bool) → a ≡ false → (a && b) ≡ false
none-and a b e = ap (λ (x : Bool). x && b) e

module _ (ns : List (List ℕ)) where
  type-elsewhere : (k m : ℕ) (i : List ℕ) → IsPlace ns m i → (k ≡ m → ⊥) → (trees : List Tree) (o : Option TypeName) (c : TypeDefKind)
      → TypeMeans ns (λ x. x.key.interface ≡ i) trees o c → is_in k o ≡ false
  type-elsewhere k m i place other trees None c h = refl
  type-elsewhere k m i place other trees (Some n) c h = not-that n.interface.0 k (λ e. other (e ∙ place n.interface.0 h))

  owner-elsewhere : (k m : ℕ) (i : List ℕ) → IsPlace ns m i → (k ≡ m → ⊥) → (w : Owner) → owner_name ns w ≡ i → is_owned_by k w ≡ false
  owner-elsewhere k m i place other (owner.Interface x) h = not-that x.0 k (λ e. other (e ∙ place x.0 h))
  owner-elsewhere k m i place other (owner.World w) h = refl

  pub elsewhere : (k m : ℕ) (i : List ℕ) → IsPlace ns m i → (k ≡ m → ⊥) → (trees : List Tree) (d : Definition) → Means ns (λ x. x.key.interface ≡ i) trees d → IsElsewhere k d
  elsewhere k m i place other trees (row.Type d) h =
      let out = type-elsewhere k m i place other trees d.name d.kind h in
      record { used = none-and (is_in k d.name) (is_use d.kind) out; typed = none-and (is_in k d.name) (not (is_use d.kind)) out; function = refl }
  elsewhere k m i place other trees (row.Function f) h = record { used = refl; typed = refl; function = owner-elsewhere k m i place other f.owner h }

-- the tests of a row among the uses, the types or the functions of interface j
pub record IsUseRow (j : ℕ) (d : Definition) : Type 0 where
  pub used : is_use_in j d ≡ is_named d
  pub typed : is_type_in j d ≡ false
  pub function : is_function_in j d ≡ false

pub record IsTypeRow (j : ℕ) (d : Definition) : Type 0 where
  pub used : is_use_in j d ≡ false
  pub typed : is_type_in j d ≡ is_named d
  pub function : is_function_in j d ≡ false

pub record IsFunctionRow (j : ℕ) (d : Definition) : Type 0 where
  pub used : is_use_in j d ≡ false
  pub typed : is_type_in j d ≡ false
  pub function : is_function_in j d ≡ is_named d

module _ (ns : List (List ℕ)) (j : ℕ) (i : List ℕ) (place : IsPlace ns j i) (some : i ≢ []) where
  use-type : (trees : List Tree) (o : Option TypeName) (k : TypeDefKind) → TypeMeans ns (MeansUse ns j i) trees o k → IsUseRow j (row.Type (record { name = o; kind = k }))
  use-type trees None k h = record { used = refl; typed = refl; function = refl }
  use-type trees (Some n) k h =
      let e = use-kind trees k (Reference h.target) h.meaning in
      let here = is-that n.interface.0 j (place n.interface.0 h.key) in
      subst (λ (c : TypeDefKind). IsUseRow j (row.Type (record { name = Some n; kind = c }))) (sym e.1)
      (record { used = ap (λ (b : Bool). b && true) here; typed = ap (λ (b : Bool). b && false) here; function = refl })

  pub use-row : (trees : List Tree) (d : Definition) → Means ns (MeansUse ns j i) trees d → IsUseRow j d
  use-row trees (row.Type d) h = use-type trees d.name d.kind h
  use-row trees (row.Function f) h = absurd (let e = h.meaning in cc)

  type-type : (trees : List Tree) (o : Option TypeName) (k : TypeDefKind) → TypeMeans ns (MeansType i) trees o k → IsTypeRow j (row.Type (record { name = o; kind = k }))
  type-type trees None k h = record { used = refl; typed = refl; function = refl }
  type-type trees (Some n) k h =
      let e = type-kind trees k h.tree h.meaning in
      let here = is-that n.interface.0 j (place n.interface.0 h.key) in
      record {
        used = ap (λ (b : Bool). b && is_use k) here ∙ e.0;
        typed = ap (λ (b : Bool). b && not (is_use k)) here ∙ ap not e.0;
        function = refl;
      }

  pub type-row : (trees : List Tree) (d : Definition) → Means ns (MeansType i) trees d → IsTypeRow j d
  type-row trees (row.Type d) h = type-type trees d.name d.kind h
  type-row trees (row.Function f) h = absurd (let e = h.meaning in cc)

  function-type : (trees : List Tree) (o : Option TypeName) (k : TypeDefKind) → TypeMeans ns (MeansFunction i) trees o k → IsFunctionRow j (row.Type (record { name = o; kind = k }))
  function-type trees None k h = record { used = refl; typed = refl; function = refl }
  function-type trees (Some n) k h = absurd (no-function trees k h.params h.result h.meaning)

  function-owner : (w : Owner) → owner_name ns w ≡ i → is_owned_by j w ≡ true
  function-owner (owner.Interface k) e = is-that k.0 j (place k.0 e)
  function-owner (owner.World w) e = absurd (some (sym e))

  pub function-row : (trees : List Tree) (d : Definition) → Means ns (MeansFunction i) trees d → IsFunctionRow j d
  function-row trees (row.Type d) h = function-type trees d.name d.kind h
  function-row trees (row.Function f) h = record { used = refl; typed = refl; function = function-owner f.owner h.key }

pub rows-every : (ns : List (List ℕ)) (P : List Tree → Definition → Type 0) (Q : Definition → Type 0) → ((trees : List Tree) (d : Definition) → P trees d → Q d)
    → (trees : List Tree) (ds : List Definition) → RowsAre ns P trees ds → Every Q ds
rows-every ns P Q f trees [] h = tt
rows-every ns P Q f trees (d ∷ ds) h = (f trees d h.0, rows-every ns P Q f (trees ++ reference ns trees d ∷ []) ds h.1)
