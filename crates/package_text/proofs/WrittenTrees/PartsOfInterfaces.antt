-- What is written for the interfaces of a table in the form of packages: parts in package order.
use Rattle.std.proofs.Common.{◌≡◌, ◌+◌, ◌<◌, ◌≤◌, ℕ, zero, suc, List, [], ◌∷◌, ◌++◌, length, map, flat_map, get_or, slice_get, refl, sym, ap, subst, ◌∙◌, append_assoc, length-append, arith}
use Rattle.std.specs.Prelude.{Bool, true, false, not, ◌&&◌, Option, None, Some, is_some, if◌then◌else◌}
use Rattle.std.specs.List.{list_all}
use Rattle.std.proofs.lemmas.Bool.{and_parts, false≢true, or_left}
use Rattle.tables.specs.Tables.{are_earlier, type_of, function_of, is_there, is_type_id, is_function_id, is_placed}
use Rattle.tables.specs.Package.{Tree, NamedDefinition, function_meaning, named_by, named_function, reference, references, definition_of, definitions_from}
use Rattle.tables.specs.declared.tables.TypeId.{TypeId}
use Rattle.tables.specs.declared.tables.FunctionId.{FunctionId}
use Rattle.tables.specs.declared.tables.Definition.{Definition}
use Rattle.tables.specs.declared.tables.Definition.TheVariants as row
use Rattle.tables.specs.declared.tables.Interface.{Interface}
use Rattle.wit_tokens.specs.Syntax.{FileEntry, AnInterface}
use Rattle.package_form.specs.Entries.{labels_of}
use Rattle.package_form.specs.Postfix.{IsPostfix}
use Rattle.package_form.specs.Ids.{places_where, is_use, is_of_worlds}
use Rattle.package_form.specs.Form.{is_named, ids_of, is_use_type, is_use_at, is_nameless}
use Rattle.package_form.specs.References.{row_references}
use Rattle.tables.specs.declared.tables.TypeName.{TypeName}
use Rattle.tables.specs.declared.tables.Owner.{Owner}
use Rattle.tables.specs.declared.tables.Owner.TheVariants as owner
use Rattle.package_form.proofs.AllAndContains.{flat_map-append}
use Rattle.tree_meaning.proofs.TableRows.{references-append}
use Rattle.package_text.specs.Tree.{definitions_in}
use Rattle.package_text.proofs.WrittenTrees.TreeByNames.{entry_of}
use Rattle.package_text.proofs.ResolvedTrees.TreeResolvesInPlace.{Each, none_left, and_next, each-append, each-map, UseOf, TypeOf, FunctionOf, AreParts, no_part, and_part}
use Rattle.package_text.proofs.TableRows.RowsReadAsTrees.{IsOwned, each-front, each-back}
use Rattle.package_text.proofs.TableRows.DefinitionsByInterface.{is_use_row, is_type_row, is_function_row, definitions-split, use-means, type-means, function-means}
use Rattle.package_text.proofs.TableRows.RowsReadByEarlierRows.{definition-front, row-below, places-mean}
use Rattle.tree_meaning.specs.Resolves.{is_behind}
use Rattle.package_text.proofs.TableRows.AreRegions.{is_behind_row, AreRegions, no_region, and_region}

-- a row that is got stands behind those before it
abbrev pub Stands : List Definition → ℕ → Definition → Type 0
Stands rows n d = (front : List Definition) × (rest : List Definition) × (rows ≡ front ++ d ∷ rest) × (length front ≡ n)

pub stands-at : (rows : List Definition) (n : ℕ) (d : Definition) → slice_get rows n ≡ Some d → Stands rows n d
stands-at [] n d e = absurd cc
stands-at (x ∷ rows) zero d e = let h : x ≡ d = cc in ([], rows, ap (λ (y : Definition). y ∷ rows) h, refl)
stands-at (x ∷ rows) (suc n) d e =
    let s = stands-at rows n d e in (x ∷ s.0, s.1, ap (λ (ys : List Definition). x ∷ ys) s.2, ap suc s.3)

-- the places of an interface's rows
abbrev InPart : ℕ → ℕ → ℕ → Type 0
InPart s l n = (s ≤ n) × (n < s + l)

places-within : (P : Definition → Bool) (s l : ℕ) (own : List Definition) (m : ℕ) → s ≤ m → m + length own ≡ s + l → Each (InPart s l) (places_where P m own)
places-within P s l [] m h e = none_left
places-within P s l (x ∷ own) m h e = by (P x) (places-within P s l own (m + 1) (omega (arith, h)) (omega (arith, e)))
  where
    by : (b : Bool) → Each (InPart s l) (places_where P (m + 1) own) → Each (InPart s l) (if b then m ∷ places_where P (m + 1) own else places_where P (m + 1) own)
    by true r = and_next m _ (h, omega (arith, e)) r
    by false r = r

-- rows of worlds are no definitions
pub behind-none : (ns : List (List ℕ)) (ts : List Tree) (rows back : List Definition) → list_all (is_behind_row rows) back ≡ true → definitions_from ns ts back ≡ []
behind-none ns ts rows [] h = refl
behind-none ns ts rows (d ∷ ds) h =
    let s = and_parts (is_behind_row rows d) (list_all (is_behind_row rows) ds) h in
    let t = and_parts (is_behind d) (list_all (is_nameless rows) (row_references d)) s.0 in
    ap (λ (xs : List NamedDefinition). xs ++ definitions_from ns (ts ++ reference ns ts d ∷ []) ds) (one d t.0) ∙ behind-none ns (ts ++ reference ns ts d ∷ []) rows ds s.1
  where
    one : (c : Definition) → is_behind c ≡ true → definition_of ns ts c ≡ []
    one (row.Type c) q = by c.name q
      where
        by : (m : Option TypeName) → not (is_some m) ≡ true → named_by ns ts m c.kind ≡ []
        by None u = refl
        by (Some m) u = absurd (false≢true u)
    one (row.Function f) q = by f.owner q
      where
        by : (o : Owner) → is_of_worlds o ≡ true → named_function ns o f.name (function_meaning ts f) ≡ []
        by (owner.Interface i) u = absurd (false≢true u)
        by (owner.World w) u = refl

module _ (ns : List (List ℕ)) (rows : List Definition) (at : ℕ → ℕ) (earlier : are_earlier 0 rows ≡ true) (o : IsOwned ns rows at) (p : IsPostfix rows) where
  abbrev pub got : ℕ → List NamedDefinition
  got n = definitions_in ns (references ns [] rows) (slice_get rows n)

  -- a row of interface k that passes a test
  abbrev Good : (Definition → Bool) → ℕ → ℕ → Type 0
  Good test k n = (at n ≡ k) × (d : Definition) × (slice_get rows n ≡ Some d) × (test d ≡ true)

  abbrev MeansAll : (List ℕ → NamedDefinition → Type 0) → (Definition → Bool) → Type 0
  MeansAll P test = (front : List Definition) (d : Definition) (rest : List Definition) → rows ≡ front ++ d ∷ rest → test d ≡ true
      → Each (P (get_or ns (at (length front)) [])) (definition_of ns (references ns [] front) d)

  place-means : (P : List ℕ → NamedDefinition → Type 0) (test : Definition → Bool) → MeansAll P test → (k n : ℕ) → Good test k n → Each (P (get_or ns k [])) (got n)
  place-means P test means k n (h, d, e, t) =
      let s = stands-at rows n d e in
      let there : definitions_in ns (references ns [] rows) (slice_get rows n) ≡ definition_of ns (references ns [] s.0) d =
      ap (definitions_in ns (references ns [] rows)) e
      ∙ (ap (λ (ds : List Definition). definition_of ns (references ns [] ds) d) s.2 ∙ definition-front ns s.0 (d ∷ s.1) d (row-below s.0 d s.1 (subst (λ (ds : List Definition). are_earlier 0 ds ≡ true) s.2 earlier))) in
      let home : at (length s.0) ≡ k = ap at s.3 ∙ h in
      subst (Each (P (get_or ns k []))) (sym there) (subst (λ j. Each (P (get_or ns j [])) (definition_of ns (references ns [] s.0) d)) home (means s.0 d s.1 s.2 t))

  places-mean-all : (P : List ℕ → NamedDefinition → Type 0) (test : Definition → Bool) → MeansAll P test → (k : ℕ) (ids : List ℕ) → Each (Good test k) ids → Each (P (get_or ns k [])) (flat_map got ids)
  places-mean-all P test means k _ none_left = none_left
  places-mean-all P test means k _ (and_next n ids g e) = each-append (P (get_or ns k [])) (got n) (flat_map got ids) (place-means P test means k n g) (places-mean-all P test means k ids e)

  -- ---- the ids of an interface

  use-good : (k n : ℕ) → at n ≡ k → (x : Option Definition) → slice_get rows n ≡ x → is_use_type (type_of x) ≡ true → Good is_use_row k n
  use-good k n h None e u = absurd (false≢true u)
  use-good k n h (Some (row.Type d)) e u = (h, row.Type d, e, or_left (is_use d.kind) (not (is_some d.name)) u)
  use-good k n h (Some (row.Function f)) e u = absurd (false≢true u)

  type-good : (k n : ℕ) → at n ≡ k → (x : Option Definition) → slice_get rows n ≡ x → not (is_use_type (type_of x)) ≡ true → is_there (type_of x) ≡ true → Good is_type_row k n
  type-good k n h None e u t = absurd (false≢true t)
  type-good k n h (Some (row.Type d)) e u t = (h, row.Type d, e, u)
  type-good k n h (Some (row.Function f)) e u t = absurd (false≢true t)

  function-good : (k n : ℕ) → at n ≡ k → (x : Option Definition) → slice_get rows n ≡ x → is_there (function_of x) ≡ true → Good is_function_row k n
  function-good k n h None e t = absurd (false≢true t)
  function-good k n h (Some (row.Type d)) e t = absurd (false≢true t)
  function-good k n h (Some (row.Function f)) e t = (h, row.Function f, e, refl)

  uses-good : (k : ℕ) (ts : List TypeId) → Each (λ n. at n ≡ k) (map (λ (t : TypeId). t.0) ts) → list_all (is_use_at rows) ts ≡ true → Each (Good is_use_row k) (map (λ (t : TypeId). t.0) ts)
  uses-good k [] h u = none_left
  uses-good k (t ∷ ts) (and_next _ _ h hs) u =
      let s = and_parts (is_use_at rows t) (list_all (is_use_at rows) ts) u in
      and_next t.0 _ (use-good k t.0 h (slice_get rows t.0) refl s.0) (uses-good k ts hs s.1)

  types-good : (k : ℕ) (ts : List TypeId) → Each (λ n. at n ≡ k) (map (λ (t : TypeId). t.0) ts) → list_all (λ t. not (is_use_at rows t)) ts ≡ true → list_all (is_type_id rows) ts ≡ true
      → Each (Good is_type_row k) (map (λ (t : TypeId). t.0) ts)
  types-good k [] h u i = none_left
  types-good k (t ∷ ts) (and_next _ _ h hs) u i =
      let s = and_parts (not (is_use_at rows t)) (list_all (λ t. not (is_use_at rows t)) ts) u in
      let j = and_parts (is_type_id rows t) (list_all (is_type_id rows) ts) i in
      and_next t.0 _ (type-good k t.0 h (slice_get rows t.0) refl s.0 j.0) (types-good k ts hs s.1 j.1)

  functions-good : (k : ℕ) (fs : List FunctionId) → Each (λ n. at n ≡ k) (map (λ (f : FunctionId). f.0) fs) → list_all (is_function_id rows) fs ≡ true → Each (Good is_function_row k) (map (λ (f : FunctionId). f.0) fs)
  functions-good k [] h i = none_left
  functions-good k (f ∷ fs) (and_next _ _ h hs) i =
      let j = and_parts (is_function_id rows f) (list_all (is_function_id rows) fs) i in
      and_next f.0 _ (function-good k f.0 h (slice_get rows f.0) refl j.0) (functions-good k fs hs j.1)

  -- ---- the interfaces

  abbrev pub written : Interface → FileEntry
  written i = AnInterface i.name (map entry_of (flat_map got (ids_of i)))

  -- what is written for interface k, whose rows these are: its uses, its types and its functions
  pub record IsPart (k : ℕ) (pre own : List Definition) (i : Interface) : Type 0 where
    pub uses : Each (UseOf (get_or ns k [])) (flat_map got (map (λ (t : TypeId). t.0) i.uses))
    pub types : Each (TypeOf (get_or ns k [])) (flat_map got (map (λ (t : TypeId). t.0) i.types))
    pub functions : Each (FunctionOf (get_or ns k [])) (flat_map got (map (λ (f : FunctionId). f.0) i.functions))
    pub written : flat_map got (ids_of i) ≡ flat_map got (map (λ (t : TypeId). t.0) i.uses) ++ (flat_map got (map (λ (t : TypeId). t.0) i.types) ++ flat_map got (map (λ (f : FunctionId). f.0) i.functions))
    pub means : definitions_from ns (references ns [] pre) own ≡ flat_map got (ids_of i)

  pub part-from : (k : ℕ) (pre own post : List Definition) (i : Interface) → ids_of i ≡ places_where is_named (length pre) own → list_all (is_use_at rows) i.uses ≡ true
      → list_all (λ t. not (is_use_at rows t)) i.types ≡ true → ((n : ℕ) → length pre ≤ n → n < length (pre ++ own) → at n ≡ k) → rows ≡ pre ++ (own ++ post) → is_placed rows i ≡ true → IsPart k pre own i
  part-from k pre own post i ids uses types here e placed =
      let us = map (λ (t : TypeId). t.0) i.uses in
      let ts = map (λ (t : TypeId). t.0) i.types in
      let fs = map (λ (f : FunctionId). f.0) i.functions in
      let long = length-append pre own in
      let q = and_parts (list_all (is_type_id rows) i.uses) (list_all (is_type_id rows) i.types && list_all (is_function_id rows) i.functions) placed in
      let q' = and_parts (list_all (is_type_id rows) i.types) (list_all (is_function_id rows) i.functions) q.1 in
      let within : Each (InPart (length pre) (length own)) (places_where is_named (length pre) own) = places-within is_named (length pre) (length own) own (length pre) (omega arith) refl in
      let all : Each (λ n. at n ≡ k) (us ++ (ts ++ fs)) =
      subst (Each (λ n. at n ≡ k)) (sym ids) (each-map (InPart (length pre) (length own)) (λ n. at n ≡ k) (λ n w. here n w.0 (omega (arith, w.1, long))) (places_where is_named (length pre) own) within) in
      record {
        uses = places-mean-all UseOf is_use_row (use-means ns rows at o p) k us (uses-good k i.uses (each-front (λ n. at n ≡ k) us (ts ++ fs) all) uses);
        types = places-mean-all TypeOf is_type_row (type-means ns rows at o p) k ts
            (types-good k i.types (each-front (λ n. at n ≡ k) ts fs (each-back (λ n. at n ≡ k) us (ts ++ fs) all)) types q'.0);
        functions = places-mean-all FunctionOf is_function_row (function-means ns rows at o p) k fs
            (functions-good k i.functions (each-back (λ n. at n ≡ k) ts fs (each-back (λ n. at n ≡ k) us (ts ++ fs) all)) q'.1);
        written = flat_map-append got us (ts ++ fs) ∙ ap (λ (xs : List NamedDefinition). flat_map got us ++ xs) (flat_map-append got ts fs);
        means = sym (places-mean ns rows earlier pre own post e) ∙ ap (flat_map got) (sym ids);
      }

  pub parts-from : (k : ℕ) (pre : List Definition) (is : List Interface) (post : List Definition) → AreRegions rows at k pre is post → rows ≡ pre ++ post → list_all (is_placed rows) is ≡ true
      → ((j : ℕ) → get_or ns (k + j) [] ≡ get_or (labels_of is) j []) → AreParts (map written is) (definitions_from ns (references ns [] pre) post)
  parts-from _ _ _ _ (no_region k pre back behind home) e placed names = subst (λ (ds : List NamedDefinition). AreParts [] ds) (sym (behind-none ns (references ns [] pre) rows back behind)) no_part
  parts-from _ _ _ _ (and_region k pre own post i is ends ids uses types locals here more) e placed names =
      let U = flat_map got (map (λ (t : TypeId). t.0) i.uses) in
      let T = flat_map got (map (λ (t : TypeId). t.0) i.types) in
      let F = flat_map got (map (λ (f : FunctionId). f.0) i.functions) in
      let s = and_parts (is_placed rows i) (list_all (is_placed rows) is) placed in
      let part = part-from k pre own post i ids uses types here e s.0 in
      let name : get_or ns k [] ≡ i.name = ap (λ j. get_or ns j []) (omega arith) ∙ names 0 in
      let flat : rows ≡ (pre ++ own) ++ post = e ∙ sym (append_assoc pre own post) in
      let others = parts-from (suc k) (pre ++ own) is post more flat s.1 (λ j. ap (λ n. get_or ns n []) (omega arith) ∙ names (suc j)) in
      let whole : definitions_from ns (references ns [] pre) (own ++ post) ≡ (U ++ (T ++ F)) ++ definitions_from ns (references ns [] (pre ++ own)) post =
      definitions-split ns (references ns [] pre) own post
      ∙ (ap (λ (xs : List NamedDefinition). xs ++ definitions_from ns (references ns (references ns [] pre) own) post) (part.means ∙ part.written)
      ∙ ap (λ (trees : List Tree). (U ++ (T ++ F)) ++ definitions_from ns trees post) (sym (references-append ns [] pre own))) in
      subst (λ (ds : List NamedDefinition). AreParts (map written (i ∷ is)) ds) (sym whole)
      (subst (λ (ds : List NamedDefinition). AreParts (AnInterface i.name (map entry_of ds) ∷ map written is) ((U ++ (T ++ F)) ++ definitions_from ns (references ns [] (pre ++ own)) post)) (sym part.written)
      (and_part i.name U T F (subst (λ n. Each (UseOf n) U) name part.uses) (subst (λ n. Each (TypeOf n) T) name part.types) (subst (λ n. Each (FunctionOf n) F) name part.functions) (map written is) _ others))
