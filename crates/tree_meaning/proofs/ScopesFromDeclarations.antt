-- The scopes of a syntax tree, seen from what its interfaces declare.
use Rattle.std.proofs.Common.{◌≡◌, ℕ, List, [], ◌∷◌, ◌++◌, map, flat_map, filter_map, refl, ap, sym, subst, append_assoc, All}
use Rattle.wit_tokens.specs.Syntax.{PathTo, UsedAs, Entry, Uses, Defines, Declares, FileEntry, AnInterface, AWorld}
use Rattle.package_form.specs.Scope.{AreDistinct}
use Rattle.tree_meaning.specs.Declarations.{UsedItem, TypeItem, FunctionItem, InterfaceTree, local_name, used_item, entry_uses, entry_types, entry_functions, interface_of, use_local, type_name, member_name, definition_scopes, entry_names, entry_scopes}
use Rattle.tree_meaning.specs.Scopes.{interface_scopes}
use Rattle.tables.specs.PackageNames.{PackageParts}
use Rattle.package_form.proofs.AllAndContains.{all-head, all-tail, all-none, all-cons, all-left, all-right}
use Rattle.tree_meaning.proofs.ReferencesOfDefinitions.{Every, every-append, every-front, every-back}
use Rattle.tree_meaning.proofs.NamesOfScopeAreApart.{AreOthers, IsFresh, AreApart, are-apart, apart-back, apart-insert, apart-exchange}

abbrev pub function_name : FunctionItem → List ℕ
function_name f = f.name

-- the names of an interface's uses, types and functions
abbrev pub item_names : InterfaceTree → List (List ℕ)
item_names i = map use_local i.uses ++ (map type_name i.types ++ map function_name i.functions)

pub record HasDistinctParts (i : InterfaceTree) : Type 0 where
  pub names : AreApart (item_names i)
  pub types : All (λ t. All AreDistinct (definition_scopes t.definition)) i.types
  pub functions : All (λ f. AreDistinct (map member_name f.function.params)) i.functions

-- ---- names: uses first, then types, then functions

abbrev uses_in : List Entry → List (List ℕ)
uses_in es = map use_local (flat_map entry_uses es)

abbrev types_in : List Entry → List (List ℕ)
types_in es = map type_name (flat_map entry_types es)

abbrev functions_in : List Entry → List (List ℕ)
functions_in es = map function_name (flat_map entry_functions es)

abbrev parts : List Entry → List (List ℕ)
parts es = uses_in es ++ (types_in es ++ functions_in es)

used-first : (i : PathTo) (us : List UsedAs) (rest : List UsedItem) (ns : List (List ℕ)) → map use_local (map (used_item i) us ++ rest) ++ ns ≡ map local_name us ++ (map use_local rest ++ ns)
used-first i [] rest ns = refl
used-first i (u ∷ us) rest ns = ap (λ (ms : List (List ℕ)). local_name u ∷ ms) (used-first i us rest ns)

every-insert : (P : List ℕ → Type 0) (n : List ℕ) (xs ys : List (List ℕ)) → P n → Every P (xs ++ ys) → Every P (xs ++ n ∷ ys)
every-insert P n xs ys p h = every-append P xs (n ∷ ys) (every-front P xs ys h) (p, every-back P xs ys h)

every-part : (P : List ℕ → Type 0) (es : List Entry) → Every P (flat_map entry_names es) → Every P (parts es)
every-part P [] h = tt
every-part P (Uses at i us ∷ es) h =
    subst (Every P) (sym (used-first i us (flat_map entry_uses es) (types_in es ++ functions_in es)))
    (every-append P (map local_name us) (parts es) (every-front P (map local_name us) (flat_map entry_names es) h) (every-part P es (every-back P (map local_name us) (flat_map entry_names es) h)))
every-part P (Defines at n d ∷ es) h = every-insert P n (uses_in es) (types_in es ++ functions_in es) h.0 (every-part P es h.1)
every-part P (Declares at n f ∷ es) h =
    subst (Every P) (append_assoc (uses_in es) (types_in es) (n ∷ functions_in es))
    (every-insert P n (uses_in es ++ types_in es) (functions_in es) h.0 (subst (Every P) (sym (append_assoc (uses_in es) (types_in es) (functions_in es))) (every-part P es h.1)))

parts-apart : (es : List Entry) → AreApart (flat_map entry_names es) → AreApart (parts es)
parts-apart [] h = tt
parts-apart (Uses at i us ∷ es) h =
    subst AreApart (sym (used-first i us (flat_map entry_uses es) (types_in es ++ functions_in es)))
    (apart-exchange (map local_name us) (flat_map entry_names es) (parts es) h (λ P. every-part P es) (parts-apart es (apart-back (map local_name us) (flat_map entry_names es) h)))
parts-apart (Defines at n d ∷ es) h = apart-insert n (uses_in es) (types_in es ++ functions_in es) (every-part (AreOthers n) es h.0) (parts-apart es h.1)
parts-apart (Declares at n f ∷ es) h =
    let behind = sym (append_assoc (uses_in es) (types_in es) (functions_in es)) in
    subst AreApart (append_assoc (uses_in es) (types_in es) (n ∷ functions_in es))
    (apart-insert n (uses_in es ++ types_in es) (functions_in es) (subst (λ ns. IsFresh ns n) behind (every-part (AreOthers n) es h.0)) (subst AreApart behind (parts-apart es h.1)))

-- ---- members

types-distinct : (es : List Entry) → All AreDistinct (flat_map entry_scopes es) → All (λ (t : TypeItem). All AreDistinct (definition_scopes t.definition)) (flat_map entry_types es)
types-distinct [] h = all-none _
types-distinct (Uses at p us ∷ es) h = types-distinct es h
types-distinct (Defines at n d ∷ es) h =
    all-cons (λ (t : TypeItem). All AreDistinct (definition_scopes t.definition)) (record { name = n; definition = d }) (flat_map entry_types es)
    (all-left AreDistinct (definition_scopes d) (flat_map entry_scopes es) h) (types-distinct es (all-right AreDistinct (definition_scopes d) (flat_map entry_scopes es) h))
types-distinct (Declares at n f ∷ es) h = types-distinct es (all-tail AreDistinct (map member_name f.params) (flat_map entry_scopes es) h)

functions-distinct : (es : List Entry) → All AreDistinct (flat_map entry_scopes es) → All (λ (f : FunctionItem). AreDistinct (map member_name f.function.params)) (flat_map entry_functions es)
functions-distinct [] h = all-none _
functions-distinct (Uses at p us ∷ es) h = functions-distinct es h
functions-distinct (Defines at n d ∷ es) h = functions-distinct es (all-right AreDistinct (definition_scopes d) (flat_map entry_scopes es) h)
functions-distinct (Declares at n f ∷ es) h =
    all-cons (λ (g : FunctionItem). AreDistinct (map member_name g.function.params)) (record { name = n; function = f }) (flat_map entry_functions es)
    (all-head AreDistinct (map member_name f.params) (flat_map entry_scopes es) h) (functions-distinct es (all-tail AreDistinct (map member_name f.params) (flat_map entry_scopes es) h))

pub interfaces-distinct : (p : PackageParts) (es : List FileEntry) → All AreDistinct (flat_map (interface_scopes p) es) → All HasDistinctParts (filter_map interface_of es)
interfaces-distinct p [] h = all-none HasDistinctParts
interfaces-distinct p (AnInterface n xs ∷ es) h =
    let here = all-left AreDistinct (interface_scopes p (AnInterface n xs)) (flat_map (interface_scopes p) es) h in
    let members = all-tail AreDistinct (flat_map entry_names xs) (flat_map entry_scopes xs) here in
    all-cons HasDistinctParts _ (filter_map interface_of es)
    (record {
      names = parts-apart xs (are-apart (flat_map entry_names xs) (all-head AreDistinct (flat_map entry_names xs) (flat_map entry_scopes xs) here));
      types = types-distinct xs members;
      functions = functions-distinct xs members;
    })
    (interfaces-distinct p es (all-right AreDistinct (interface_scopes p (AnInterface n xs)) (flat_map (interface_scopes p) es) h))
interfaces-distinct p (AWorld at n ws ∷ es) h =
    interfaces-distinct p es (all-right AreDistinct (interface_scopes p (AWorld at n ws)) (flat_map (interface_scopes p) es) h)
