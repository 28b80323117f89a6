-- The trees of the interfaces of a table: each names what stands before it.
use Rattle.std.proofs.Common.{◌≡◌, ◌+◌, ◌-◌, ◌<◌, ◌≤◌, ℕ, zero, suc, List, [], ◌∷◌, ◌++◌, length, map, flat_map, filter_map, get_or, slice_get, refl, sym, ap, subst, ◌∙◌, append_assoc, append-nil, length-append, arith, All, Contains}
use Rattle.std.specs.Prelude.{Bool, true, false, nat_lt, Option, None, Some}
use Rattle.std.specs.List.{list_all}
use Rattle.std.proofs.lemmas.Bool.{and_parts, eqb-true, ltb-true, ltb-false}
use Rattle.tables.specs.Tables.{are_earlier, is_placed}
use Rattle.tables.specs.Package.{Tree, Meaning, IsUse, IsType, IsFunction, NamedDefinition, meaning_of, function_meaning, reference, references, key_of, named_by, named_function, definition_of, definitions_from}
use Rattle.tables.specs.declared.tables.TypeId.{TypeId}
use Rattle.tables.specs.declared.tables.FunctionId.{FunctionId}
use Rattle.tables.specs.declared.tables.TypeDef.{TypeDef}
use Rattle.tables.specs.declared.tables.TypeDefKind.{TypeDefKind}
use Rattle.tables.specs.declared.tables.TypeDefKind.TheVariants as kind
use Rattle.tables.specs.declared.tables.TypeName.{TypeName}
use Rattle.tables.specs.declared.tables.Owner.{Owner}
use Rattle.tables.specs.declared.tables.Owner.TheVariants as owner
use Rattle.tables.specs.declared.tables.Definition.{Definition}
use Rattle.tables.specs.declared.tables.Definition.TheVariants as row
use Rattle.tables.specs.declared.tables.Interface.{Interface}
use Rattle.package_form.specs.Entries.{labels_of}
use Rattle.package_form.specs.Naming.{name_if}
use Rattle.package_form.specs.Postfix.{IsPostfix}
use Rattle.package_form.specs.Form.{is_own_name, ids_of}
use Rattle.package_form.proofs.AllAndContains.{all-head, all-tail, all-mono, contains-here, contains-later, contains-left, contains-right, contains-flat, flat_map-append, flat_map-one, get-front}
use Rattle.atoms.specs.Label.{IsLabel}
use Rattle.wit_tokens.specs.Syntax.{PathTo, Local}
use Rattle.tree_meaning.specs.Imports.{Imports}
use Rattle.tree_meaning.specs.Resolves.{IsKnownIn}
use Rattle.tree_meaning.specs.Declarations.{path_package, path_interface, InterfaceTree, interface_of, interface_tree, type_names, named_definition, names_in_function}
use Rattle.tree_meaning.proofs.TableRows.{references-append}
use Rattle.tree_meaning.proofs.ReferencesOfDefinitions.{every-mono}
use Rattle.package_text.specs.Written.{body_of}
use Rattle.package_text.specs.Tree.{function_by}
use Rattle.package_text.proofs.WrittenTrees.TreeByNames.{entry_of}
use Rattle.package_text.proofs.TableRows.RowsReadAsTrees.{IsNamed, is_local_kind, IsOwned}
use Rattle.package_text.proofs.TableRows.RowsNameEarlierRows.{IsTold, row-told}
use Rattle.package_text.proofs.WrittenTrees.PathsSpelledByNames.{path_named, label-path}
use Rattle.package_text.proofs.ResolvedTrees.TreesNameWhatIsKnown.{type_given, gives, HasType, type-more, IsKnownBy, AreKnownBy, known-append, IsKnownTree, part-types, part-known, AreKnownTrees}
use Rattle.package_text.proofs.TableRows.AreRegions.{AreRegions, no_region, and_region}
use Rattle.package_text.proofs.WrittenTrees.PartsOfInterfaces.{stands-at, got, written, part-from}

-- ---- lists

pub got-behind : {A : Type 0} (xs ys : List A) (n : ℕ) → length xs ≤ n → slice_get (xs ++ ys) n ≡ slice_get ys (n - length xs)
got-behind [] ys n l = ap (slice_get ys) (omega arith)
got-behind (x ∷ xs) ys zero l = absurd (omega (arith, l))
got-behind (x ∷ xs) ys (suc n) l = got-behind xs ys n (omega (arith, l)) ∙ ap (slice_get ys) (omega arith)

pub contains-got : {A : Type 0} (xs : List A) (n : ℕ) (x : A) → slice_get xs n ≡ Some x → Contains xs x
contains-got [] n x e = absurd cc
contains-got (y ∷ xs) zero x e = let same : y ≡ x = cc in subst (Contains (y ∷ xs)) same (contains-here y xs)
contains-got (y ∷ xs) (suc n) x e = contains-later y x xs (contains-got xs n x e)

-- ---- what rows give

-- the name that a row gives a type
abbrev pub row_gives : Definition → List (List ℕ)
row_gives (row.Type d) = name_if d.name
row_gives (row.Function f) = []

kind-gives : (n : List ℕ) (ts : List Tree) (k : TypeDefKind) → type_given n (meaning_of ts k) ≡ n ∷ []
kind-gives n ts (kind.Use t) = refl
kind-gives n ts (kind.Alias v) = refl
kind-gives n ts (kind.List v) = refl
kind-gives n ts (kind.Option v) = refl
kind-gives n ts (kind.Result ok error) = refl
kind-gives n ts (kind.Tuple vs) = refl
kind-gives n ts (kind.Record fs) = refl
kind-gives n ts (kind.Variant cs) = refl
kind-gives n ts (kind.Enum names) = refl
kind-gives n ts (kind.Flags names) = refl

pub definition-gives : (ns : List (List ℕ)) (ts : List Tree) (d : Definition) → flat_map gives (definition_of ns ts d) ≡ row_gives d
definition-gives ns ts (row.Type d) = by d.name
  where
    by : (m : Option TypeName) → flat_map gives (named_by ns ts m d.kind) ≡ name_if m
    by None = refl
    by (Some n) = ap (λ (ms : List (List ℕ)). ms ++ []) (kind-gives n.name ts d.kind)
definition-gives ns ts (row.Function f) = by f.owner
  where
    by : (o : Owner) → flat_map gives (named_function ns o f.name (function_meaning ts f)) ≡ []
    by (owner.Interface i) = refl
    by (owner.World w) = refl

pub rows-give : (ns : List (List ℕ)) (ts : List Tree) (ds : List Definition) → flat_map gives (definitions_from ns ts ds) ≡ flat_map row_gives ds
rows-give ns ts [] = refl
rows-give ns ts (d ∷ ds) =
    flat_map-append gives (definition_of ns ts d) (definitions_from ns (ts ++ reference ns ts d ∷ []) ds)
    ∙ (ap (λ (ms : List (List ℕ)). ms ++ flat_map gives (definitions_from ns (ts ++ reference ns ts d ∷ []) ds)) (definition-gives ns ts d)
    ∙ ap (λ (ms : List (List ℕ)). row_gives d ++ ms) (rows-give ns (ts ++ reference ns ts d ∷ []) ds))

-- ---- one interface

module _ (ns : List (List ℕ)) (rows : List Definition) (at : ℕ → ℕ) (o : IsOwned ns rows at) (p : IsPostfix rows) where
  -- a row of this name stands in its interface, before the end of these rows
  pub home-here : (front more : List Definition) (t : ℕ) (d : TypeDef) (m : TypeName) → rows ≡ front ++ more → slice_get front t ≡ Some (row.Type d) → d.name ≡ Some m
      → (m.interface.0 ≡ at t) × (t < length front)
  home-here front more t d m e s q =
      let x = stands-at front t (row.Type d) s in
      let flat : rows ≡ x.0 ++ row.Type d ∷ (x.1 ++ more) = e ∙ (ap (λ (ds : List Definition). ds ++ more) x.2 ∙ append_assoc x.0 (row.Type d ∷ x.1) more) in
      let own = (and_parts (is_own_name (at (length x.0)) d.name) (is_local_kind ns x.0 (at (length x.0)) d.kind) (o.local x.0 (row.Type d) (x.1 ++ more) flat)).0 in
      let here : m.interface.0 ≡ at (length x.0) = eqb-true m.interface.0 (at (length x.0)) (ap (is_own_name (at (length x.0))) (sym q) ∙ own) in
      let long = ap length x.2 in
      let parts = length-append x.0 (row.Type d ∷ x.1) in
      (here ∙ ap at x.3, omega (arith, long, parts, x.3))

  -- all rows before are of interfaces before
  abbrev pub IsPast : ℕ → List Definition → Type 0
  IsPast k pre = (n : ℕ) → n < length pre → at n < k

  abbrev pub IsHere : ℕ → List Definition → List Definition → Type 0
  IsHere k pre own = (n : ℕ) → length pre ≤ n → n < length (pre ++ own) → at n ≡ k

  module _ (k : ℕ) (pre : List Definition) (past : IsPast k pre) where
    -- a type of this interface is given by one of its rows
    own-named : (own more : List Definition) → rows ≡ (pre ++ own) ++ more → (n : List ℕ) → IsNamed (pre ++ own) k n → Contains (flat_map row_gives own) n
    own-named own more e n (t, d, m, s, q, i, same) =
        let x = home-here (pre ++ own) more t d m e s q in
        by (nat_lt t (length pre)) refl x.0
      where
        by : (b : Bool) → nat_lt t (length pre) ≡ b → m.interface.0 ≡ at t → Contains (flat_map row_gives own) n
        by true h home = absurd (let l = past t (ltb-true t (length pre) h) in omega (arith, l, home, i))
        by false h home =
            let got : slice_get own (t - length pre) ≡ Some (row.Type d) = sym (got-behind pre own t (ltb-false t (length pre) h)) ∙ s in
            contains-flat row_gives own (row.Type d) n (contains-got own (t - length pre) (row.Type d) got)
            (subst (λ (o : Option TypeName). Contains (name_if o) n) (sym q) (subst (Contains (m.name ∷ [])) same (contains-here m.name [])))

    -- a type of an interface before is one of a row before
    past-named : (own more : List Definition) → rows ≡ (pre ++ own) ++ more → IsHere k pre own → (j : ℕ) (n : List ℕ) → j < k → IsNamed (pre ++ own) j n → IsNamed pre j n
    past-named own more e here j n l (t, d, m, s, q, i, same) =
        let x = home-here (pre ++ own) more t d m e s q in
        by (nat_lt t (length pre)) refl x.0 x.1
      where
        by : (b : Bool) → nat_lt t (length pre) ≡ b → m.interface.0 ≡ at t → t < length (pre ++ own) → IsNamed pre j n
        by true h home u = (t, d, m, sym (get-front pre own t (ltb-true t (length pre) h)) ∙ s, q, i, same)
        by false h home u = absurd (let a = here t (ltb-false t (length pre) h) u in omega (arith, a, home, i, l))

    module _ (known : Imports) (before : List InterfaceTree) (rooms : (m : TypeName) → IsNamed pre m.interface.0 m.name → HasType known before (key_of ns m)) where
      told-known : (own more : List Definition) → rows ≡ (pre ++ own) ++ more → IsHere k pre own → at (length (pre ++ own)) ≡ k → (x : Meaning) → IsTold ns (pre ++ own) (at (length (pre ++ own))) x
          → IsKnownBy known before (flat_map row_gives own) x
      told-known own more e here end (IsUse t) (m, q, l, named) =
          (key_of ns m, q, rooms m (past-named own more e here m.interface.0 m.name (omega (arith, l, end)) named))
      told-known own more e here end (IsType t) h =
          all-mono (IsNamed (pre ++ own) k) (Contains (flat_map row_gives own)) (own-named own more e) (named_definition (body_of t))
          (subst (λ j. All (IsNamed (pre ++ own) j) (named_definition (body_of t))) end h)
      told-known own more e here end (IsFunction fs result) h =
          all-mono (IsNamed (pre ++ own) k) (Contains (flat_map row_gives own)) (own-named own more e) (names_in_function (function_by fs result))
          (subst (λ j. All (IsNamed (pre ++ own) j) (names_in_function (function_by fs result))) end h)

      rows-known : (own xs rest : List Definition) → rows ≡ (pre ++ own) ++ (xs ++ rest) → IsHere k pre (own ++ xs) → AreKnownBy known before (flat_map row_gives own) (definitions_from ns (references ns [] (pre ++ own)) xs)
      rows-known own [] rest e here = tt
      rows-known own (x ∷ xs) rest e here =
          let front = pre ++ own in
          let ts = references ns [] (pre ++ own) in
          let long = length-append pre own in
          let longer = length-append pre (own ++ x ∷ xs) in
          let inner = length-append own (x ∷ xs) in
          let end : at (length (pre ++ own)) ≡ k = here (length (pre ++ own)) (omega (arith, long)) (omega (arith, long, longer, inner)) in
          let so-far : IsHere k pre own = λ n l u. here n l (omega (arith, u, long, longer, inner)) in
          let now = every-mono (λ y. IsTold ns (pre ++ own) (at (length (pre ++ own))) y.meaning) (λ y. IsKnownBy known before (flat_map row_gives own) y.meaning)
          (λ y h. told-known own (x ∷ (xs ++ rest)) e so-far end y.meaning h) (definition_of ns ts x) (row-told ns rows at o p front x (xs ++ rest) e) in
          let next-front : pre ++ (own ++ x ∷ []) ≡ (pre ++ own) ++ x ∷ [] = sym (append_assoc pre own (x ∷ [])) in
          let flat : rows ≡ (pre ++ (own ++ x ∷ [])) ++ (xs ++ rest) =
          e ∙ (sym (append_assoc (pre ++ own) (x ∷ []) (xs ++ rest)) ∙ ap (λ (ds : List Definition). ds ++ (xs ++ rest)) (sym next-front)) in
          let on = rows-known (own ++ x ∷ []) xs rest flat (subst (IsHere k pre) (sym (append_assoc own (x ∷ []) xs)) here) in
          let given : flat_map row_gives (own ++ x ∷ []) ≡ flat_map row_gives own ++ flat_map gives (definition_of ns ts x) =
          flat_map-append row_gives own (x ∷ []) ∙ ap (λ (ms : List (List ℕ)). flat_map row_gives own ++ ms) (flat_map-one row_gives x ∙ sym (definition-gives ns ts x)) in
          let trees : references ns [] (pre ++ (own ++ x ∷ [])) ≡ references ns [] (pre ++ own) ++ reference ns (references ns [] (pre ++ own)) x ∷ [] =
          ap (references ns []) next-front ∙ references-append ns [] (pre ++ own) (x ∷ []) in
          known-append known before (flat_map row_gives own) (definition_of ns ts x) (definitions_from ns (ts ++ reference ns ts x ∷ []) xs) now
          (subst (λ ms. AreKnownBy known before ms (definitions_from ns (ts ++ reference ns ts x ∷ []) xs)) given
          (subst (λ us. AreKnownBy known before (flat_map row_gives (own ++ x ∷ [])) (definitions_from ns us xs)) trees on))

-- ---- all interfaces

module _ (known : Imports) (ns : List (List ℕ)) (rows : List Definition) (at : ℕ → ℕ) (earlier : are_earlier 0 rows ≡ true) (o : IsOwned ns rows at) (p : IsPostfix rows) where
  abbrev uses_at : Interface → List NamedDefinition
  uses_at i = flat_map (got ns rows at earlier o p) (map (λ (t : TypeId). t.0) i.uses)

  abbrev types_at : Interface → List NamedDefinition
  types_at i = flat_map (got ns rows at earlier o p) (map (λ (t : TypeId). t.0) i.types)

  abbrev functions_at : Interface → List NamedDefinition
  functions_at i = flat_map (got ns rows at earlier o p) (map (λ (f : FunctionId). f.0) i.functions)

  -- what is written for an interface
  abbrev tree_at : ℕ → Interface → InterfaceTree
  tree_at k i = interface_tree (get_or ns k []) (map entry_of (uses_at i ++ (types_at i ++ functions_at i)))

  pub trees-from : (k : ℕ) (pre : List Definition) (is : List Interface) (post : List Definition) → AreRegions rows at k pre is post → rows ≡ pre ++ post → list_all (is_placed rows) is ≡ true
      → ((j : ℕ) → get_or ns (k + j) [] ≡ get_or (labels_of is) j []) → All IsLabel (labels_of is) → IsPast ns rows at o p k pre
      → (before : List InterfaceTree) → ((m : TypeName) → IsNamed pre m.interface.0 m.name → HasType known before (key_of ns m))
      → AreKnownTrees known before (filter_map interface_of (map (written ns rows at earlier o p) is))
  trees-from _ _ _ _ (no_region k pre back behind home) e placed names labels past before rooms = tt
  trees-from _ _ _ _ (and_region k pre own post i is ends ids uses types locals here more) e placed names labels past before rooms =
      let U = uses_at i in
      let T = types_at i in
      let F = functions_at i in
      let s = and_parts (is_placed rows i) (list_all (is_placed rows) is) placed in
      let part = part-from ns rows at earlier o p k pre own post i ids uses types here e s.0 in
      let name : get_or ns k [] ≡ i.name = ap (λ j. get_or ns j []) (omega arith) ∙ names 0 in
      let flat : rows ≡ (pre ++ own) ++ post = e ∙ sym (append_assoc pre own post) in
      let none = append-nil pre in
      let told : AreKnownBy known before [] (definitions_from ns (references ns [] (pre ++ [])) own) =
      rows-known ns rows at o p k pre past known before rooms [] own post (e ∙ ap (λ (ds : List Definition). ds ++ (own ++ post)) (sym none)) here in
      let told' : AreKnownBy known before [] (U ++ (T ++ F)) =
      subst (AreKnownBy known before []) (part.means ∙ part.written) (subst (λ (ds : List Definition). AreKnownBy known before [] (definitions_from ns (references ns [] ds) own)) none told) in
      let mine : interface_tree i.name (map entry_of (flat_map (got ns rows at earlier o p) (ids_of i))) ≡ tree_at k i =
      ap (λ (ds : List NamedDefinition). interface_tree i.name (map entry_of ds)) part.written ∙ ap (λ (n : List ℕ). interface_tree n (map entry_of (U ++ (T ++ F)))) (sym name) in
      let first : IsKnownTree known before (tree_at k i) = part-known known before (get_or ns k []) U T F part.uses part.types part.functions told' in
      let given : type_names (tree_at k i) ≡ flat_map row_gives own =
      part-types known before (get_or ns k []) U T F part.uses part.types part.functions ∙ (ap (flat_map gives) (sym (part.means ∙ part.written)) ∙ rows-give ns (references ns [] pre) own) in
      let others = trees-from (suc k) (pre ++ own) is post more flat s.1 (λ j. ap (λ n. get_or ns n []) (omega arith) ∙ names (suc j)) (all-tail IsLabel i.name (labels_of is) labels) (past-more k pre own past here)
      (before ++ tree_at k i ∷ []) (rooms-more k pre own post flat past here before (tree_at k i) refl given (subst IsLabel (sym name) (all-head IsLabel i.name (labels_of is) labels)) rooms) in
      subst (λ (t : InterfaceTree). AreKnownTrees known before (t ∷ filter_map interface_of (map (written ns rows at earlier o p) is))) (sym mine) (first, others)
    where
      past-more : (k : ℕ) (pre own : List Definition) → IsPast ns rows at o p k pre → IsHere ns rows at o p k pre own → IsPast ns rows at o p (suc k) (pre ++ own)
      past-more k pre own past here n l = by (nat_lt n (length pre)) refl
        where
          by : (b : Bool) → nat_lt n (length pre) ≡ b → at n < suc k
          by true h = let q = past n (ltb-true n (length pre) h) in omega (arith, q)
          by false h = let q = here n (ltb-false n (length pre) h) l in omega (arith, q)

      rooms-more : (k : ℕ) (pre own post : List Definition) → rows ≡ (pre ++ own) ++ post → IsPast ns rows at o p k pre → IsHere ns rows at o p k pre own → (before : List InterfaceTree) (tree : InterfaceTree)
          → tree.name ≡ get_or ns k [] → type_names tree ≡ flat_map row_gives own → IsLabel (get_or ns k []) → ((m : TypeName) → IsNamed pre m.interface.0 m.name → HasType known before (key_of ns m))
          → (m : TypeName) → IsNamed (pre ++ own) m.interface.0 m.name → HasType known (before ++ tree ∷ []) (key_of ns m)
      rooms-more k pre own post flat past here before tree name given label rooms m (t, d, n, s, q, i, same) = by (nat_lt t (length pre)) refl
        where
          by : (b : Bool) → nat_lt t (length pre) ≡ b → HasType known (before ++ tree ∷ []) (key_of ns m)
          by true h =
              type-more known before (before ++ tree ∷ []) (λ j c. contains-left before (tree ∷ []) j c) (key_of ns m)
              (rooms m (t, d, n, sym (get-front pre own t (ltb-true t (length pre) h)) ∙ s, q, i, same))
          by false h =
              let home = home-here ns rows at o p (pre ++ own) post t d n flat s q in
              let this : m.interface.0 ≡ k = sym i ∙ (home.0 ∙ here t (ltb-false t (length pre) h) home.1) in
              let has = own-named ns rows at o p k pre past own post flat m.name (t, d, n, s, q, i ∙ this, same) in
              let path : path_named (get_or ns m.interface.0 []) ≡ Local (get_or ns k []) = ap (λ j. path_named (get_or ns j [])) this ∙ label-path (get_or ns k []) label in
              subst (λ (x : PathTo). IsKnownIn known (before ++ tree ∷ []) (path_package x) (path_interface x) m.name) (sym path)
              (tree, contains-right before (tree ∷ []) tree (contains-here tree []), name, subst (λ (ms : List (List ℕ)). Contains ms m.name) (sym given) has)
