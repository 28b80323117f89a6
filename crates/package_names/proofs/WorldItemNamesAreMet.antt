-- The names of a world's items, each met on its side.
use Rattle.std.proofs.Common.{◌≡◌, ◌⊎◌, inl, inr, ℕ, ◌+◌, ◌<◌, ◌≤◌, true, false, List, [], ◌∷◌, ◌++◌, map, flat_map, length, take, get_or, refl, ap, sym, subst, ◌∙◌, slice_get, Option, None, Some, Contains, All, Result, Ok, Err, OnOk, IfErr}
use Rattle.std.proofs.lemmas.List.{map-append, append-nil, get_or_default, take_all}
use Rattle.tables.specs.Package.{ItemMeaning, read_params}
use Rattle.tables.specs.Package as tree
use Rattle.tables.specs.declared.error.ResolveError.{ResolveError}
use Rattle.tables.specs.declared.error.ResolveError.TheVariants as error
use Rattle.tables.specs.declared.tables.Direction.{Direction}
use Rattle.tables.specs.declared.tables.Direction.TheVariants as direction
use Rattle.tables.specs.declared.tables.Parameter.{Parameter}
use Rattle.tables.specs.declared.tables.FunctionId.{FunctionId}
use Rattle.tables.specs.declared.tables.Function.{Function}
use Rattle.tables.specs.declared.tables.Definition.{Definition}
use Rattle.tables.specs.declared.tables.WorldItemKind.{WorldItemKind}
use Rattle.tables.specs.declared.tables.WorldItemKind.TheVariants as item
use Rattle.tables.specs.Tables.{function_of, is_there, is_function_of}
use Rattle.package_form.specs.Scope.{lowered, AreDistinct}
use Rattle.package_form.specs.Distinct.{AreMet, RefusesNames, RefusesScopes}
use Rattle.package_names.specs.Sides.{AreMetOnSides, RefusesSides}
use Rattle.package_form.specs.Naming.{is_direction, item_direction, item_name, item_parameters, world_scopes, name_in, field_labels, parameter_name}
use Rattle.package_names.specs.declared.distinct.Sides.{Sides}
use Rattle.package_form.proofs.AllAndContains.{flat_map-append, flat_map-one, all-append, all-cons, all-none, map-more, contains-here, contains-later, contains-map, contains-at}
use Rattle.package_form.proofs.NamesMetOneByOne.{met-none, met-push, refuses-end, refuses-more, refuses-scope, split-at}

names-end : (way : Direction) (is : List ItemMeaning) (i : ItemMeaning) → flat_map (name_in way) (is ++ i ∷ []) ≡ flat_map (name_in way) is ++ name_in way i
names-end way is i = flat_map-append (name_in way) is (i ∷ []) ∙ ap (λ (ns : List (List ℕ)). flat_map (name_in way) is ++ ns) (flat_map-one (name_in way) i)

-- an item of this side is met there; one of the other side adds nothing
met-here : (way : Direction) (is : List ItemMeaning) (i : ItemMeaning) (old new : List (List ℕ)) → is_direction way (item_direction i) ≡ true → AreMet (flat_map (name_in way) is) old
    → ¬ Contains old (lowered (item_name i)) → new ≡ old ++ lowered (item_name i) ∷ [] → AreMet (flat_map (name_in way) (is ++ i ∷ [])) new
met-here way is i old new here h fresh more =
    let named : name_in way i ≡ item_name i ∷ [] = rw here refl in
    subst (λ (ns : List (List ℕ)). AreMet ns new) (sym (names-end way is i ∙ ap (λ (ns : List (List ℕ)). flat_map (name_in way) is ++ ns) named))
    (met-push (flat_map (name_in way) is) (item_name i) old new h fresh more)

met-there : (way : Direction) (is : List ItemMeaning) (i : ItemMeaning) (old : List (List ℕ)) → is_direction way (item_direction i) ≡ false → AreMet (flat_map (name_in way) is) old
    → AreMet (flat_map (name_in way) (is ++ i ∷ [])) old
met-there way is i old there h =
    let none : name_in way i ≡ [] = rw there refl in
    subst (λ (ns : List (List ℕ)). AreMet ns old) (sym (names-end way is i ∙ ap (λ (ns : List (List ℕ)). flat_map (name_in way) is ++ ns) none ∙ append-nil (flat_map (name_in way) is))) h

refused-here : (way : Direction) (is : List ItemMeaning) (i : ItemMeaning) (old : List (List ℕ)) (e : ResolveError) → is_direction way (item_direction i) ≡ true
    → AreMet (flat_map (name_in way) is) old → (e ≡ error.NoMemory) ⊎ ((e ≡ error.Duplicate (item_name i)) × Contains old (lowered (item_name i)))
    → RefusesNames (flat_map (name_in way) (is ++ i ∷ [])) e
refused-here way is i old e here h q =
    let named : name_in way i ≡ item_name i ∷ [] = rw here refl in
    subst (λ (ns : List (List ℕ)). RefusesNames ns e) (sym (names-end way is i ∙ ap (λ (ns : List (List ℕ)). flat_map (name_in way) is ++ ns) named))
    (refuses-end (flat_map (name_in way) is) (item_name i) old e h q)

abbrev sides : List (List ℕ) → List (List ℕ) → Sides
sides imports exports = record { imports = imports; exports = exports }

-- the outcome of meeting a name, as `NameTable::meet` tells it
pub record Meets {T : Type 0} (r : Result T ResolveError) (old : List (List ℕ)) (n : List ℕ) (new : List (List ℕ)) : Type 0 where
  pub fresh : OnOk r (¬ Contains old (lowered n))
  pub ok : OnOk r (new ≡ old ++ lowered n ∷ [])
  pub err : IfErr r (λ e. (e ≡ error.NoMemory) ⊎ ((e ≡ error.Duplicate n) × Contains old (lowered n)))

abbrev Met : {T : Type 0} → Result T ResolveError → Direction → List ℕ → Sides → Sides → Type 0
Met r way n old new = OnOk r ((items : List ItemMeaning) (i : ItemMeaning) → item_direction i ≡ way → item_name i ≡ n → AreMetOnSides items old → AreMetOnSides (items ++ i ∷ []) new)

abbrev Refused : {T : Type 0} → Result T ResolveError → Direction → List ℕ → Sides → Type 0
Refused r way n old = IfErr r (λ e. (items : List ItemMeaning) (i : ItemMeaning) → item_direction i ≡ way → item_name i ≡ n → AreMetOnSides items old → RefusesSides (items ++ i ∷ []) e)

pub import-met : {T : Type 0} (r : Result T ResolveError) (old : Sides) (n : List ℕ) (new : List (List ℕ)) → Meets r old.imports n new
    → Met r direction.Import n old (record { imports = new; exports = old.exports })
import-met (Err e) old n new m = tt
import-met (Ok x) old n new m = λ items i way named h. record {
  imports = met-here direction.Import items i old.imports new (ap (is_direction direction.Import) way) h.imports
      (subst (λ (a : List ℕ). ¬ Contains old.imports (lowered a)) (sym named) m.fresh) (subst (λ (a : List ℕ). new ≡ old.imports ++ lowered a ∷ []) (sym named) m.ok);
  exports = met-there direction.Export items i old.exports (ap (is_direction direction.Export) way) h.exports;
}

pub export-met : {T : Type 0} (r : Result T ResolveError) (old : Sides) (n : List ℕ) (new : List (List ℕ)) → Meets r old.exports n new
    → Met r direction.Export n old (record { imports = old.imports; exports = new })
export-met (Err e) old n new m = tt
export-met (Ok x) old n new m = λ items i way named h. record {
  imports = met-there direction.Import items i old.imports (ap (is_direction direction.Import) way) h.imports;
  exports = met-here direction.Export items i old.exports new (ap (is_direction direction.Export) way) h.exports
      (subst (λ (a : List ℕ). ¬ Contains old.exports (lowered a)) (sym named) m.fresh) (subst (λ (a : List ℕ). new ≡ old.exports ++ lowered a ∷ []) (sym named) m.ok);
}

abbrev Told : ResolveError → List (List ℕ) → List ℕ → Type 0
Told e old n = (e ≡ error.NoMemory) ⊎ ((e ≡ error.Duplicate n) × Contains old (lowered n))

pub import-refused : {T : Type 0} (r : Result T ResolveError) (old : Sides) (n : List ℕ) (new : List (List ℕ)) → Meets r old.imports n new → Refused r direction.Import n old
import-refused (Ok x) old n new m = tt
import-refused (Err e) old n new m = λ items i way named h.
    inl (refused-here direction.Import items i old.imports e (ap (is_direction direction.Import) way) h.imports (subst (Told e old.imports) (sym named) m.err))

pub export-refused : {T : Type 0} (r : Result T ResolveError) (old : Sides) (n : List ℕ) (new : List (List ℕ)) → Meets r old.exports n new → Refused r direction.Export n old
export-refused (Ok x) old n new m = tt
export-refused (Err e) old n new m = λ items i way named h.
    inr (refused-here direction.Export items i old.exports e (ap (is_direction direction.Export) way) h.exports (subst (Told e old.exports) (sym named) m.err))

-- ---- the parameters of a function

pub labels-read : (ts : List tree.Tree) (ps : List Parameter) → field_labels (read_params ts ps) ≡ map parameter_name ps
labels-read ts [] = refl
labels-read ts (p ∷ ps) = ap (λ (ns : List (List ℕ)). p.name ∷ ns) (labels-read ts ps)

-- ---- all items

module _ {A : Type 0} (g : A → ItemMeaning) (xs : List A) (k : ℕ) (x : A) (l : k < length xs) (is : x ≡ get_or xs k x) where
  pub items-more : map g (take (k + 1) xs) ≡ map g (take k xs) ++ g x ∷ []
  items-more = map-more g xs k x l is

  pub items-split : (rest : List A) × (map g xs ≡ (map g (take k xs) ++ g x ∷ []) ++ map g rest)
  items-split =
      let r = split-at xs k x l is in (r.0, ap (map g) r.1 ∙ map-append g (take k xs ++ x ∷ []) r.0 ∙ ap (λ (ys : List ItemMeaning). ys ++ map g r.0) (map-append g (take k xs) (x ∷ [])))

  -- a name that its side has before is one of all the items' names of this side
  pub refuses-world : (name : List ℕ) (e : ResolveError) → RefusesSides (map g (take k xs) ++ g x ∷ []) e → RefusesScopes (world_scopes (record { name = name; items = map g xs })) e
  refuses-world name e h = by h
    where
      names : Direction → List (List ℕ)
      names way = flat_map (name_in way) (map g xs)

      parts : List (List (List ℕ))
      parts = map item_parameters (map g xs)

      scopes : List (List (List ℕ))
      scopes = names direction.Import ∷ names direction.Export ∷ parts

      side : (way : Direction) → RefusesNames (flat_map (name_in way) (map g (take k xs) ++ g x ∷ [])) e → RefusesNames (names way) e
      side way q =
          let r = items-split in
          subst (λ (ns : List (List ℕ)). RefusesNames ns e) (sym (ap (flat_map (name_in way)) r.1 ∙ flat_map-append (name_in way) (map g (take k xs) ++ g x ∷ []) (map g r.0)))
          (refuses-more _ (flat_map (name_in way) (map g r.0)) e q)

      by : RefusesSides (map g (take k xs) ++ g x ∷ []) e → RefusesScopes (world_scopes (record { name = name; items = map g xs })) e
      by (inl q) = refuses-scope (names direction.Import) scopes e (contains-here (names direction.Import) (names direction.Export ∷ parts)) (side direction.Import q)
      by (inr q) =
          refuses-scope (names direction.Export) scopes e (contains-later (names direction.Import) (names direction.Export) (names direction.Export ∷ parts) (contains-here (names direction.Export) parts)) (side direction.Export q)

  pub refuses-item-parameters : (name : List ℕ) (e : ResolveError) → RefusesNames (item_parameters (g x)) e → RefusesScopes (world_scopes (record { name = name; items = map g xs })) e
  refuses-item-parameters name e h =
      let imports = flat_map (name_in direction.Import) (map g xs) in
      let exports = flat_map (name_in direction.Export) (map g xs) in
      let parts = map item_parameters (map g xs) in
      refuses-scope (item_parameters (g x)) (imports ∷ exports ∷ parts) e
      (contains-later imports (item_parameters (g x)) (exports ∷ parts) (contains-later exports (item_parameters (g x)) parts
      (contains-map item_parameters (map g xs) (g x) (contains-map g xs x (contains-at xs k x l is))))) h

-- ---- one item after the other

pub sides-met-none : (s : Sides) → s.imports ≡ [] → s.exports ≡ [] → AreMetOnSides [] s
sides-met-none s i e = record { imports = met-none s.imports i; exports = met-none s.exports e }

module _ {A : Type 0} (g : A → ItemMeaning) (xs : List A) (k : ℕ) (d : A) (l : k < length xs) where
  same-at : get_or xs k d ≡ get_or xs k (get_or xs k d)
  same-at = get_or_default xs k d (get_or xs k d) l

  pub refused-name-at : (ys : List A) (name : List ℕ) (e : ResolveError) → xs ≡ ys → RefusesSides (map g (take k xs) ++ g (get_or xs k d) ∷ []) e
      → RefusesScopes (world_scopes (record { name = name; items = map g ys })) e
  refused-name-at ys name e same h =
      subst (λ (zs : List A). RefusesScopes (world_scopes (record { name = name; items = map g zs })) e) same (refuses-world g xs k (get_or xs k d) l same-at name e h)

  pub refused-parameters-at : (ys : List A) (name : List ℕ) (e : ResolveError) → xs ≡ ys → RefusesNames (item_parameters (g (get_or xs k d))) e
      → RefusesScopes (world_scopes (record { name = name; items = map g ys })) e
  refused-parameters-at ys name e same h =
      subst (λ (zs : List A). RefusesScopes (world_scopes (record { name = name; items = map g zs })) e) same (refuses-item-parameters g xs k (get_or xs k d) l same-at name e h)

  pub sides-more : (s : Sides) → AreMetOnSides (map g (take k xs) ++ g (get_or xs k d) ∷ []) s → AreMetOnSides (map g (take (k + 1) xs)) s
  sides-more s h = subst (λ (is : List ItemMeaning). AreMetOnSides is s) (sym (items-more g xs k (get_or xs k d) l same-at)) h

  pub parameters-more : All AreDistinct (map item_parameters (map g (take k xs))) → AreDistinct (item_parameters (g (get_or xs k d))) → All AreDistinct (map item_parameters (map g (take (k + 1) xs)))
  parameters-more h p =
      subst (λ (is : List ItemMeaning). All AreDistinct (map item_parameters is)) (sym (items-more g xs k (get_or xs k d) l same-at))
      (subst (λ (ss : List (List (List ℕ))). All AreDistinct ss) (sym (map-append item_parameters (map g (take k xs)) (g (get_or xs k d) ∷ [])))
      (all-append AreDistinct (map item_parameters (map g (take k xs))) (item_parameters (g (get_or xs k d)) ∷ []) h (all-cons AreDistinct _ [] p (all-none AreDistinct))))

-- all items were met
pub whole-world : {A : Type 0} (g : A → ItemMeaning) (xs ys : List A) (k : ℕ) (name : List ℕ) (s : Sides) → length xs ≤ k → xs ≡ ys → AreMetOnSides (map g (take k xs)) s
    → All AreDistinct (map item_parameters (map g (take k xs))) → All AreDistinct (world_scopes (record { name = name; items = map g ys }))
whole-world g xs ys k name s l same m p =
    subst (λ zs. All AreDistinct (world_scopes (record { name = name; items = map g zs }))) (take_all k xs l ∙ same)
    (all-cons AreDistinct imports (exports ∷ parts) m.imports.distinct (all-cons AreDistinct exports parts m.exports.distinct p))
  where
    imports : List (List ℕ)
    imports = flat_map (name_in direction.Import) (map g (take k xs))

    exports : List (List ℕ)
    exports = flat_map (name_in direction.Export) (map g (take k xs))

    parts : List (List (List ℕ))
    parts = map item_parameters (map g (take k xs))

-- an item is told with its direction
pub direction-told : (ns : List (List ℕ)) (ts : List tree.Tree) (rows : List Definition) (way : Direction) (k : WorldItemKind) → item_direction (tree.item_meaning ns ts rows way k) ≡ way
direction-told ns ts rows way (item.Interface i) = refl
direction-told ns ts rows way (item.Function f) = by (function_of (slice_get rows f.0))
  where
    by : (o : Option Function) → item_direction (tree.function_item ts way o) ≡ way
    by None = refl
    by (Some g) = refl

-- the parameters of a function item
module _ (ns : List (List ℕ)) (ts : List tree.Tree) (rows : List Definition) (way : Direction) (k : WorldItemKind) (f : FunctionId) (is : k ≡ item.Function f) where
  parameters-told : (g : Function) → function_of (slice_get rows f.0) ≡ Some g → item_parameters (tree.item_meaning ns ts rows way k) ≡ map parameter_name g.params
  parameters-told g e =
      ap (λ (x : WorldItemKind). item_parameters (tree.item_meaning ns ts rows way x)) is
      ∙ ap (λ (o : Option Function). item_parameters (tree.function_item ts way o)) e ∙ labels-read ts g.params

  pub parameters-met : {T : Type 0} (r : Result T ResolveError) (g : Function) → function_of (slice_get rows f.0) ≡ Some g → OnOk r (AreDistinct (map parameter_name g.params))
      → OnOk r (AreDistinct (item_parameters (tree.item_meaning ns ts rows way k)))
  parameters-met r g e h = subst (λ (names : List (List ℕ)). OnOk r (AreDistinct names)) (sym (parameters-told g e)) h

  pub parameters-refused : {T : Type 0} (r : Result T ResolveError) (g : Function) → function_of (slice_get rows f.0) ≡ Some g → IfErr r (RefusesNames (map parameter_name g.params))
      → IfErr r (RefusesNames (item_parameters (tree.item_meaning ns ts rows way k)))
  parameters-refused r g e h = subst (λ (names : List (List ℕ)). IfErr r (RefusesNames names)) (sym (parameters-told g e)) h

pub function-there : (place : ℕ) (o : Option Function) → is_function_of place o ≡ true → is_there o ≡ true
function-there place None h = h
function-there place (Some g) h = refl

pub item-met : {T : Type 0} (r : Result T ResolveError) (old new : Sides) (way : Direction) (n : List ℕ) (m : ItemMeaning) → item_direction m ≡ way → item_name m ≡ n → Met r way n old new
    → OnOk r ((items : List ItemMeaning) → AreMetOnSides items old → AreMetOnSides (items ++ m ∷ []) new)
item-met (Ok x) old new way n m d e h = λ items a. h items m d e a
item-met (Err e) old new way n m d q h = tt

pub item-refused : {T : Type 0} (r : Result T ResolveError) (old : Sides) (way : Direction) (n : List ℕ) (m : ItemMeaning) → item_direction m ≡ way → item_name m ≡ n → Refused r way n old
    → IfErr r (λ e. (items : List ItemMeaning) → AreMetOnSides items old → RefusesSides (items ++ m ∷ []) e)
item-refused (Ok x) old way n m d e h = tt
item-refused (Err e) old way n m d q h = λ items a. h items m d q a
