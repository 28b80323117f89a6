-- The scopes of imports: each name stands for that type of the import.
use Rattle.std.proofs.Common.{◌≡◌, ℕ, zero, suc, ◌+◌, ◌<◌, ◌==◌, Bool, true, false, cond, List, [], ◌∷◌, ◌++◌, Option, None, Some, map, take, length, get_or, slice_get, refl, ap, sym, ◌∙◌, subst, arith, All, ◌⊎◌, inl, inr}
use Rattle.std.specs.Prelude.{MatchOption}
use Rattle.std.proofs.lemmas.Bool.{eqb-true}
use Rattle.std.proofs.lemmas.List.{map-append, length-append, length-map, get_or-map, get_or_default, get_or_append_left, get_or_at}
use Rattle.tables.specs.Tables.{is_there, type_of}
use Rattle.tables.specs.Package.{Reference, TextTree, references, reference}
use Rattle.tables.specs.declared.tables.TypeId.{TypeId}
use Rattle.tables.specs.declared.tables.TypeDef.{TypeDef}
use Rattle.tables.specs.declared.tables.TypeName.{TypeName}
use Rattle.tables.specs.declared.tables.InterfaceId.{InterfaceId}
use Rattle.tables.specs.declared.tables.Definition.{Definition}
use Rattle.tables.specs.declared.tables.Definition.TheVariants as row
use Rattle.tables.specs.declared.tables.Interface.{Interface}
use Rattle.tables.specs.declared.tables.Resolve.{Resolve}
use Rattle.package_form.specs.Entries.{Table}
use Rattle.package_form.specs.Postfix.{is_unnamed_row, one_if}
use Rattle.package_form.specs.Reached.{name_of}
use Rattle.package_form.specs.Scoped.{NameEntry}
use Rattle.package_form.proofs.AllAndContains.{all-append, all-cons, all-none, map-more}
use Rattle.package_form.proofs.NamesMetOneByOne.{below_or_at, take-more}
use Rattle.tree_meaning.specs.Imports.{Import, no_import, import_at, name_within, type_within, types_within, interfaces_of}
use Rattle.tree_meaning.specs.Building.{IsEntry, label_at, table_trees}
use Rattle.tree_scopes.specs.KnownScopes.{IsScope, ArePlaced, HaveImportNames, scope_names}
use Rattle.tree_scopes.specs.declared.known.KnownTypes.{KnownTypes}
use Rattle.tree_meaning.proofs.ImportsFoundByName.{imports-at, imports-length}
use Rattle.tree_meaning.proofs.TableRows.{tree-here}

-- ---- the row of a name

get-split : (rows : List Definition) (n : ℕ) (d : Definition) → slice_get rows n ≡ Some d
    → (pre : List Definition) × (rest : List Definition) × (rows ≡ pre ++ d ∷ rest) × (length pre ≡ n)
get-split [] n d e = absurd (cc)
get-split (x ∷ rows) zero d e = let is : x ≡ d = cc in ([], rows, ap (λ (y : Definition). y ∷ rows) is, refl)
get-split (x ∷ rows) (suc n) d e =
    let r = get-split rows n d e in
    (x ∷ r.0, r.1, ap (λ (ds : List Definition). x ∷ ds) r.2, ap suc r.3)

-- the name that the row has in interface k
pub record IsNamedRow (rows : List Definition) (k : ℕ) (t : TypeId) (n : List ℕ) : Type 0 where
  pub kind : TypeDef
  pub name : TypeName
  pub at : slice_get rows t.0 ≡ Some (row.Type kind)
  pub has : kind.name ≡ Some name
  pub within : name.interface.0 ≡ k
  pub is : name.name ≡ n

pub named-row : (rows : List Definition) (k : ℕ) (t : TypeId) (n : List ℕ) → type_within rows k t ≡ Some n → IsNamedRow rows k t n
named-row rows k t n e = by (slice_get rows t.0) refl e
  where
    named : (d : TypeDef) (o : Option TypeName) → slice_get rows t.0 ≡ Some (row.Type d) → d.name ≡ o → name_within k o ≡ Some n → IsNamedRow rows k t n
    named d None at f g = absurd (cc)
    named d (Some m) at f g = here (m.interface.0 == k) refl g
      where
        here : (b : Bool) → (m.interface.0 == k) ≡ b → cond b (Some m.name) None ≡ Some n → IsNamedRow rows k t n
        here true q r = let is : m.name ≡ n = cc in record { kind = d; name = m; at = at; has = f; within = eqb-true m.interface.0 k q; is = is }
        here false q r = absurd (cc)

    by : (o : Option Definition) → slice_get rows t.0 ≡ o → name_within k (name_of (type_of o)) ≡ Some n → IsNamedRow rows k t n
    by None at g = absurd (cc)
    by (Some (row.Type d)) at g = named d d.name at refl g
    by (Some (row.Function f)) at g = absurd (cc)

pub is-entry : (t : Table) (rows : List Definition) (k : InterfaceId) (id : TypeId) (n : List ℕ) → t.rows ≡ rows → type_within rows k.0 id ≡ Some n → IsEntry t (label_at t k.0) (record { name = n; id = id })
unfolding table_trees
is-entry t rows k id n same e =
    let h = named-row rows k.0 id n e in
    let at : slice_get t.rows id.0 ≡ Some (row.Type h.kind) = ap (λ (ds : List Definition). slice_get ds id.0) same ∙ h.at in
    let s = get-split t.rows id.0 (row.Type h.kind) at in
    let told : reference t.interfaces (references t.interfaces [] s.0) (row.Type h.kind) ≡ Reference (record { interface = label_at t k.0; name = n }) = rw h.has (rw (h.within, h.is) refl) in
    record {
      stands = record {
        typed = ap (λ (o : Option Definition). is_there (type_of o)) at;
        reads = ap (λ (m : ℕ). get_or (references t.interfaces [] t.rows) m TextTree) (sym s.3)
            ∙ ap (λ (ds : List Definition). get_or (references t.interfaces [] ds) (length s.0) TextTree) s.2 ∙ tree-here t.interfaces s.0 s.1 (row.Type h.kind) ∙ told;
      };
      named = ap (λ (o : Option Definition). one_if (is_unnamed_row o) id.0) at ∙ rw h.has refl;
    }

-- ---- one more type of an import

pub match-some : {A : Type 0} (o : Option A) (N : Type 0) (P : A → Type 0) → MatchOption o N P → (x : A) → o ≡ Some x → P x
match-some None N P h x e = absurd (cc)
match-some (Some y) N P h x e = let is : y ≡ x = cc in subst P is h

pub match-none : {A : Type 0} (o : Option A) (N : Type 0) (P : A → Type 0) → MatchOption o N P → ((x : A) → o ≡ Some x → ⊥) → N
match-none None N P h e = h
match-none (Some y) N P h e = absurd (e y refl)

pub take-at : {A : Type 0} (xs : List A) (k : ℕ) (d : A) → k < length xs → take (k + 1) xs ≡ take k xs ++ get_or xs k d ∷ []
take-at xs k d l = take-more xs k (get_or xs k d) l (get_or_default xs k d (get_or xs k d) l)

pub scope-more : (t : Table) (rows : List Definition) (s after : KnownTypes) (id : TypeId) (n : List ℕ) → t.rows ≡ rows → type_within rows s.interface.0 id ≡ Some n
    → after ≡ record { interface = s.interface; entries = s.entries ++ record { name = n; id = id } ∷ [] } → IsScope t s → IsScope t after
scope-more t rows s after id n same e is h =
    let P = IsEntry t (label_at t s.interface.0) in
    let x : NameEntry = record { name = n; id = id } in
    subst (IsScope t) (sym is) (record { each = all-append P s.entries (x ∷ []) h.each (all-cons P x [] (is-entry t rows s.interface id n same e) (all-none P)) })

-- ---- the scopes of the first imports

pub record ScopesSoFar (r : Resolve) (k : ℕ) (scopes : List KnownTypes) : Type 0 where
  pub count : length scopes ≡ k
  pub names : map scope_names scopes ≡ map (λ x. x.types) (take k (interfaces_of r))
  pub placed : ArePlaced scopes
  pub scoped : (t : Table) → t.rows ≡ r.definitions → All (IsScope t) scopes

pub scopes-more : (r : Resolve) (k : ℕ) (scopes after : List KnownTypes) (s : KnownTypes) (i : Interface) → k < length r.interfaces → i ≡ get_or r.interfaces k i → ScopesSoFar r k scopes
    → scope_names s ≡ types_within r.definitions k i → s.interface.0 ≡ k → ((t : Table) → t.rows ≡ r.definitions → IsScope t s) → after ≡ scopes ++ s ∷ [] → ScopesSoFar r (k + 1) after
scopes-more r k scopes after s i l at h names place scoped more = subst (ScopesSoFar r (k + 1)) (sym more) (record {
  count = omega (arith, length-append scopes (s ∷ []), h.count);
  names =
      let ks = interfaces_of r in
      let counted : length ks ≡ length r.interfaces = imports-length r.packages r.definitions 0 r.interfaces in
      let zero_plus : 0 + k ≡ k = omega arith in
      let types : (import_at ks k).types ≡ types_within r.definitions k i =
      ap (λ (x : Import). x.types) (imports-at r.packages r.definitions 0 r.interfaces k no_import i l)
      ∙ ap (λ (n : ℕ). types_within r.definitions n (get_or r.interfaces k i)) zero_plus ∙ ap (types_within r.definitions k) (sym at) in
      map-append scope_names scopes (s ∷ []) ∙ ap (λ (ns : List (List (List ℕ))). ns ++ scope_names s ∷ []) h.names
      ∙ ap (λ (ns : List (List ℕ)). map (λ (x : Import). x.types) (take k ks) ++ ns ∷ []) (names ∙ sym types)
      ∙ sym (map-more (λ (x : Import). x.types) ks k (import_at ks k) (omega (arith, l, counted)) (get_or_default ks k no_import (import_at ks k) (omega (arith, l, counted))));
  placed = λ m d q. by m d (below_or_at m k (omega (arith, q, length-append scopes (s ∷ []), h.count)));
  scoped = λ t e. all-append (IsScope t) scopes (s ∷ []) (h.scoped t e) (all-cons (IsScope t) s [] (scoped t e) (all-none (IsScope t)));
})
  where
    by : (m : ℕ) (d : KnownTypes) → (m < k) ⊎ (m ≡ k) → (get_or (scopes ++ s ∷ []) m d).interface.0 ≡ m
    by m d (inl q) = ap (λ (x : KnownTypes). x.interface.0) (get_or_append_left scopes (s ∷ []) d m (omega (arith, q, h.count))) ∙ h.placed m d (omega (arith, q, h.count))
    by m d (inr q) = ap (λ (x : KnownTypes). x.interface.0) (get_or_at scopes s [] d m (h.count ∙ sym q)) ∙ place ∙ sym q

-- ---- what the scopes have

module _ (r : Resolve) (scopes : List KnownTypes) (h : HaveImportNames r scopes) where
  pub scopes-long : length scopes ≡ length (interfaces_of r)
  scopes-long = sym (length-map scopes scope_names) ∙ ap length h ∙ length-map (interfaces_of r) (λ (x : Import). x.types)

  pub scope-types : (k : ℕ) (s : KnownTypes) → k < length scopes → scope_names (get_or scopes k s) ≡ (import_at (interfaces_of r) k).types
  scope-types k s l =
      sym (get_or-map scope_names scopes k s [] l) ∙ ap (λ (ns : List (List (List ℕ))). get_or ns k []) h
      ∙ get_or-map (λ (x : Import). x.types) (interfaces_of r) k no_import [] (omega (arith, l, scopes-long))
