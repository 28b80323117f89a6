-- An interface that is reached is one where reaching starts, or a used name of another stands for a type of it.
use Rattle.std.proofs.Common.{◌≡◌, ◌<◌, ◌⊎◌, inl, inr, ℕ, ◌+◌, Bool, true, false, not, List, [], ◌∷◌, length, get_or, slice_get, Option, None, Some, refl, ap, sym, subst, ◌∙◌, arith, true≢false, eqb-true}
use Rattle.std.specs.Prelude.{Contains, flat_map, is_some}
use Rattle.std.specs.Option.{option_map}
use Rattle.std.specs.List.{list_all, items_where_true}
use Rattle.std.proofs.lemmas.List.{get_or_default}
use Rattle.std.proofs.lemmas.Option.{slice_get_within}
use Rattle.package_form.specs.Postfix.{is_unnamed_row, IsPostfix}
use Rattle.package_form.specs.References.{row_references}
use Rattle.package_form.specs.Reached.{used_by, used_in, name_of, name_at, named_interface, reached_by_row, reached_by_world, reached}
use Rattle.package_form.specs.Form.{is_own_name, is_own_type, is_own, is_earlier_name, is_earlier_type, is_earlier, uses_earlier, is_owned, is_local, is_nameless, is_of_world, is_world_row}
use Rattle.package_form.proofs.AllAndContains.{contains-here, contains-left, contains-unmap, contains-flat}
use Rattle.tables.specs.Tables.{type_of}
use Rattle.tables.proofs.ClosedTypesRowByRow.{split}
use Rattle.tables.specs.declared.tables.TypeId.{TypeId}
use Rattle.tables.specs.declared.tables.TypeDef.{TypeDef}
use Rattle.tables.specs.declared.tables.TypeDefKind.{TypeDefKind}
use Rattle.tables.specs.declared.tables.TypeDefKind.TheVariants as kind
use Rattle.tables.specs.declared.tables.TypeName.{TypeName}
use Rattle.tables.specs.declared.tables.Owner.{Owner}
use Rattle.tables.specs.declared.tables.Owner.TheVariants as owner
use Rattle.tables.specs.declared.tables.Definition.{Definition}
use Rattle.tables.specs.declared.tables.Definition.TheVariants as row
use Rattle.tables.specs.declared.tables.Resolve.{Resolve}
use Rattle.set_rows.specs.Moved.{Renaming, put_id, put_kind, put_name, put_row}
use Rattle.set_rows.specs.Owners.{owners, names}
use Rattle.package_sets.specs.Part.{IsPart, IsTableOf, of_world}
use Rattle.set_rows.specs.Places.{place}
use Rattle.set_rows.specs.Reaches.{Start, IsStart, Reaches, of_start, of_row, owner_at, is_marked, AreReached}
use Rattle.set_rows.specs.Renamed.{renaming}
use Rattle.package_sets.specs.Set.{IsSet}
use Rattle.set_rows.specs.declared.moved.Moved.{Moved}
use Rattle.package_sets.proofs.OwnedRows.WorldsAreApart.{named-as, used-earlier, used-named, nameless-unnamed, part-owner}
use Rattle.package_sets.proofs.OwnedRows.EachRowHasAnOwner.{owner-some, belongs, IsOfInterface, IsOfWorld}
use Rattle.set_rows.proofs.KeptElementsAndPlaces.{kept-at}
use Rattle.package_sets.proofs.KeptParts.PropertiesOfKept.{list-at}
use Rattle.package_sets.proofs.GrowingLists.{map-get, contains-get, get-contains}
use Rattle.package_sets.proofs.KeptParts.KeptIsATable.{mark-at}

-- a used name stays one
put-used-by : (to : Renaming) (k : TypeDefKind) (u : TypeId) → used_by k ≡ Some u → used_by (put_kind to k) ≡ Some (put_id to u)
put-used-by to (kind.Use t) u e = let same : t ≡ u = cc in ap (λ (x : TypeId). Some (put_id to x)) same
put-used-by to (kind.Alias v) u e = absurd (cc)
put-used-by to (kind.List v) u e = absurd (cc)
put-used-by to (kind.Option v) u e = absurd (cc)
put-used-by to (kind.Result ok error) u e = absurd (cc)
put-used-by to (kind.Tuple vs) u e = absurd (cc)
put-used-by to (kind.Record fs) u e = absurd (cc)
put-used-by to (kind.Variant cs) u e = absurd (cc)
put-used-by to (kind.Enum ns) u e = absurd (cc)
put-used-by to (kind.Flags ns) u e = absurd (cc)

put-used : (to : Renaming) (d : Definition) (u : TypeId) → used_in d ≡ Some u → used_in (put_row to d) ≡ Some (put_id to u)
put-used to (row.Type d) u e = put-used-by to d.kind u e
put-used to (row.Function f) u e = absurd (cc)

-- the type that a used name stands for has a name
record HasName (rows : List Definition) (u : ℕ) : Type 0 where
  pub type : TypeDef
  pub name : TypeName
  pub stands : slice_get rows u ≡ Some (row.Type type)
  pub named : type.name ≡ Some name

earlier-named : (rows : List Definition) (x : ℕ) (u : TypeId) → is_earlier rows x u ≡ true → HasName rows u.0
earlier-named rows x u h = by (slice_get rows u.0) refl h
  where
    by : (o : Option Definition) → slice_get rows u.0 ≡ o → is_earlier_type x (type_of o) ≡ true → HasName rows u.0
    by None e z = absurd (true≢false (sym z))
    by (Some (row.Function f)) e z = absurd (true≢false (sym z))
    by (Some (row.Type d)) e z = name d.name refl z
      where
        name : (n : Option TypeName) → d.name ≡ n → is_earlier_name x n ≡ true → HasName rows u.0
        name None g y = absurd (true≢false (sym y))
        name (Some m) g y = record { type = d; name = m; stands = e; named = g }

use-named : (rows : List Definition) (x : ℕ) (d : Definition) (u : TypeId) → is_owned rows x d ≡ true → used_in d ≡ Some u → HasName rows u.0
use-named rows x (row.Function f) u h e = absurd (cc)
use-named rows x (row.Type d) u h e = earlier-named rows x u (used-earlier rows x d.kind u e (split (is_own_name x d.name) (uses_earlier rows x d.kind) h).1)

name-owned : (rows : List Definition) (u : ℕ) (h : HasName rows u) → get_or (owners rows) u None ≡ Some (owner.Interface h.name.interface)
name-owned rows u h = owner-some rows u (row.Type h.type) (owner.Interface h.name.interface) h.stands (ap (option_map (λ (y : TypeName). owner.Interface y.interface)) h.named)

-- a row that a row of an interface refers to has no name, or is of that interface
own-row : (rows : List Definition) (x : ℕ) (u : TypeId) → is_own rows x u ≡ true → (is_unnamed_row (slice_get rows u.0) ≡ true) ⊎ (get_or (owners rows) u.0 None ≡ Some (owner.Interface (record { 0 = x })))
own-row rows x u h = by (slice_get rows u.0) refl h
  where
    Is : Type 0
    Is = (is_unnamed_row (slice_get rows u.0) ≡ true) ⊎ (get_or (owners rows) u.0 None ≡ Some (owner.Interface (record { 0 = x })))

    by : (o : Option Definition) → slice_get rows u.0 ≡ o → is_own_type x (type_of o) ≡ true → Is
    by None e z = absurd (true≢false (sym z))
    by (Some (row.Function f)) e z = absurd (true≢false (sym z))
    by (Some (row.Type d)) e z = name d.name refl z
      where
        name : (n : Option TypeName) → d.name ≡ n → is_own_name x n ≡ true → Is
        name None g y = inl (ap is_unnamed_row e ∙ ap (λ (m : Option TypeName). not (is_some m)) g)
        name (Some m) g y =
            let same : m.interface.0 ≡ x = eqb-true m.interface.0 x y in
            inr (name-owned rows u.0 (record { type = d; name = m; stands = e; named = g }) ∙ ap (λ (n : ℕ). Some (owner.Interface (record { 0 = n }))) same)

-- a row of a world names no row of an interface
of-world-alone : (s : Resolve) → IsPostfix s.definitions → (k b j : ℕ) (d : Definition) (u : TypeId) → slice_get s.definitions k ≡ Some d → is_world_row s.definitions b d ≡ true → get_or (owners s.definitions) k None ≡ of_world b
    → Contains (names d) u → get_or (owners s.definitions) u.0 None ≡ Some (owner.Interface (record { 0 = j })) → ⊥
of-world-alone s postfix k b j d u e local owned c of = by (named-as d u c)
  where
    p : (is_of_world b d ≡ true) × (list_all (is_nameless s.definitions) (row_references d) ≡ true)
    p = split (is_of_world b d) (list_all (is_nameless s.definitions) (row_references d)) local

    used : (x : Definition) → slice_get s.definitions k ≡ Some x → is_of_world b x ≡ true → used_in x ≡ Some u → ⊥
    used (row.Function f) f-at y z = cc
    used (row.Type x) x-at y z = used-named s.definitions [] postfix k (row.Type x) u x-at z y

    by : Contains (row_references d) u ⊎ (used_in d ≡ Some u) → ⊥
    by (inr z) = used d e p.0 z
    by (inl z) =
        let at = contains-get (row_references d) u z in
        let unnamed = nameless-unnamed s.definitions u (list-at (is_nameless s.definitions) (row_references d) at.0 u p.1 at.1) in
        let is : of_world b ≡ Some (owner.Interface (record { 0 = j })) = sym owned ∙ (sym (part-owner s.definitions postfix s.earlier k d u e z unnamed) ∙ of) in
        cc

-- From where reaching starts: an interface of which it starts is one that is reached by what is kept, or given.
module _ (s : Resolve) (from : Start) (to : Moved) (p : IsPart s to) (a : AreReached s from p.marks) (r : Resolve) (t : IsTableOf s to r) (set : IsSet s) (postfix : IsPostfix s.definitions) (Given : ℕ → Type 0)
    (starts : (j : ℕ) → j < length s.interfaces → IsStart s from (Some (owner.Interface (record { 0 = j }))) → Contains (reached r.definitions r.worlds) (place to.interfaces j) ⊎ Given j) where
  abbrev os : List (Option Owner)
  os = owners s.definitions

  abbrev of_interface : ℕ → Option Owner
  of_interface j = Some (owner.Interface (record { 0 = j }))

  -- what is reached is kept
  row-kept : (k j : ℕ) → k < length s.definitions → get_or os k None ≡ of_interface j → Reaches s from (of_interface j) → get_or to.rows k false ≡ true
  row-kept k j l e h = mark-at s to p k l ∙ (ap (is_marked p.marks) e ∙ a.complete (of_interface j) h)

  row-there : (k : ℕ) (d : Definition) → slice_get s.definitions k ≡ Some d → get_or to.rows k false ≡ true → slice_get r.definitions (place to.rows k) ≡ Some (put_row (renaming to) d)
  row-there k d e h =
      ap (λ (ds : List Definition). slice_get ds (place to.rows k)) t.definitions
      ∙ map-get (put_row (renaming to)) (items_where_true to.rows s.definitions) (place to.rows k) d (kept-at to.rows s.definitions k d h e)

  -- a used name that is kept reaches what it did
  use-reaches : (k : ℕ) (d : Definition) (u : TypeId) (h : HasName s.definitions u.0) → slice_get s.definitions k ≡ Some d → used_in d ≡ Some u → get_or to.rows k false ≡ true → get_or to.rows u.0 false ≡ true
      → Contains (reached r.definitions r.worlds) (place to.interfaces h.name.interface.0)
  use-reaches k d u h e q stays named =
      contains-left (flat_map (reached_by_row r.definitions) r.definitions) (flat_map reached_by_world r.worlds) (place to.interfaces h.name.interface.0)
      (contains-flat (reached_by_row r.definitions) r.definitions (put_row (renaming to) d) (place to.interfaces h.name.interface.0)
      (get-contains r.definitions (place to.rows k) (put_row (renaming to) d) (row-there k d e stays))
      (subst (λ (ns : List ℕ). Contains ns (place to.interfaces h.name.interface.0)) (sym is) (contains-here (place to.interfaces h.name.interface.0) [])))
    where
      is : reached_by_row r.definitions (put_row (renaming to) d) ≡ place to.interfaces h.name.interface.0 ∷ []
      is =
          ap (λ (o : Option TypeId). named_interface (name_at r.definitions o)) (put-used (renaming to) d u q)
          ∙ (ap (λ (o : Option Definition). named_interface (name_of (type_of o))) (row-there u.0 (row.Type h.type) h.stands named)
          ∙ ap (λ (o : Option TypeName). named_interface (option_map (put_name (renaming to)) o)) h.named)

  abbrev IsCited : ℕ → Type 0
  IsCited j = Contains (reached r.definitions r.worlds) (place to.interfaces j) ⊎ Given j

  -- a row that is reached and names one of the interface: it's of the interface itself, or a used name
  row-cites : (k : ℕ) (d : Definition) (j x : ℕ) (u : TypeId) → slice_get s.definitions k ≡ Some d → is_local s.definitions x d ≡ true → get_or os k None ≡ of_interface x
      → Reaches s from (of_interface x) → Reaches s from (of_interface j) → Contains (names d) u → get_or os u.0 None ≡ of_interface j
      → (get_or os k None ≡ of_interface j → IsCited j) → IsCited j
  row-cites k d j x u e local owned h there c of rest = by (named-as d u c)
    where
      both : (is_owned s.definitions x d ≡ true) × (list_all (is_own s.definitions x) (row_references d) ≡ true)
      both = split (is_owned s.definitions x d) (list_all (is_own s.definitions x) (row_references d)) local

      by : Contains (row_references d) u ⊎ (used_in d ≡ Some u) → IsCited j
      by (inl z) =
          let at = contains-get (row_references d) u z in
          elim (own-row s.definitions x u (list-at (is_own s.definitions x) (row_references d) at.0 u both.1 at.1)) [
            | inl m ↦ rest (sym (part-owner s.definitions postfix s.earlier k d u e z m) ∙ of)
            | inr m ↦ rest (owned ∙ (sym m ∙ of))
          ]
      by (inr z) =
          let name = use-named s.definitions x d u both.0 z in
          let is : Some (owner.Interface name.name.interface) ≡ of_interface j = sym (name-owned s.definitions u.0 name) ∙ of in
          let same : name.name.interface.0 ≡ j = cc in
          inl (subst (λ (m : ℕ). Contains (reached r.definitions r.worlds) (place to.interfaces m)) same (use-reaches k d u name e z (row-kept k x (slice_get_within s.definitions k d e) owned h) (row-kept u.0 j (slice_get_within s.definitions u.0 (row.Type name.type) name.stands) of there)))

  cites : (o : Option Owner) → Reaches s from o → (j : ℕ) → o ≡ of_interface j → j < length s.interfaces → IsCited j
  cites o (of_start _ h) j q l = starts j l (subst (IsStart s from) q h)
  cites o (of_row k d _ e h c) j q l = by (λ g. cites (get_or os k None) h j g l) (belongs s.definitions 0 0 s.interfaces 0 s.worlds set.stands k d (omega arith) e)
    where
      u : (x : TypeId) × Contains (names d) x × (owner_at os x ≡ o)
      u = contains-unmap (owner_at os) (names d) o c

      by : (get_or os k None ≡ of_interface j → IsCited j) → IsOfInterface s.definitions 0 (0 + length s.interfaces) k d ⊎ IsOfWorld s.definitions 0 (0 + length s.worlds) k d → IsCited j
      by rest (inl b) = row-cites k d j b.interface u.0 e b.local b.owned (subst (Reaches s from) b.owned h) (subst (Reaches s from) q (of_row k d o e h c)) u.1 (u.2 ∙ q) rest
      by rest (inr b) = absurd (of-world-alone s postfix k b.world j d u.0 e b.local b.owned u.1 (u.2 ∙ q))

  -- an interface that is kept was given, or what is kept reaches it
  pub kept-cited : (j : ℕ) → j < length s.interfaces → get_or to.interfaces j false ≡ true → IsCited j
  kept-cited j l h = cites (of_interface j) (a.sound (of_interface j) marked) j refl l
    where
      marked : is_marked p.marks (of_interface j) ≡ true
      marked = get_or_default p.marks.interfaces j true false (omega (arith, l, p.count)) ∙ (ap (λ (bs : List Bool). get_or bs j false) (sym p.interfaces_are) ∙ h)
