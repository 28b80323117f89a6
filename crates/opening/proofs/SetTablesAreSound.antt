-- A set's rows are told by their names.
use Rattle.std.proofs.Common.{◌≡◌, ◌<◌, inl, inr, ℕ, zero, suc, true, not, ◌&&◌, List, [], ◌∷◌, ◌++◌, length, map, get_or, slice_get, Option, None, Some, refl, sym, ap, subst, ◌∙◌, arith}
use Rattle.std.specs.Prelude.{All, is_some, nat_le, nat_lt}
use Rattle.std.specs.List.{list_all}
use Rattle.std.specs.Option.{option_map}
use Rattle.std.proofs.lemmas.Bool.{and_parts, false≢true, ltb-true}
use Rattle.std.proofs.lemmas.List.{length-map}
use Rattle.package_form.specs.Form.{is_earlier, is_earlier_name, is_earlier_type, is_own_name, is_of_world, is_owned, is_own, is_nameless, uses_earlier}
use Rattle.package_form.specs.Laws.{IsLabelled}
use Rattle.package_form.specs.Postfix.{is_unnamed_row, one_if, unnamed}
use Rattle.package_form.specs.References.{row_references}
use Rattle.package_form.proofs.FullNamesStandForInterfaces.{package-there}
use Rattle.package_form.proofs.PostfixIsDecided.{postfix-used}
use Rattle.package_sets.specs.SetForm.{IsInSetForm}
use Rattle.package_sets.proofs.OwnedRows.EachRowHasAnOwner.{belongs}
use Rattle.package_sets.proofs.GrowingLists.{behind-get, front-get}
use Rattle.package_sets.proofs.OwnedRows.RowsAreOwned.{all-owned}
use Rattle.package_sets.proofs.MovedRows.MovedRowsKeepMeaning.{IsOwnedWithin}
use Rattle.package_text.proofs.OneTablePerTree.SameNamesSameRows.{IsSound}
use Rattle.tables.specs.Names.{owner_of}
use Rattle.tables.specs.Names.{full_name, full_name_in}
use Rattle.tables.specs.Package.{interface_names}
use Rattle.tables.specs.PackageNames.{PackageParts}
use Rattle.tables.specs.Tables.{are_grouped, type_of}
use Rattle.tables.specs.declared.tables.Definition.{Definition}
use Rattle.tables.specs.declared.tables.Definition.TheVariants as row
use Rattle.tables.specs.declared.tables.Interface.{Interface}
use Rattle.tables.specs.declared.tables.Owner.{Owner}
use Rattle.tables.specs.declared.tables.Owner.TheVariants as owner
use Rattle.tables.specs.declared.tables.Resolve.{Resolve}
use Rattle.tables.specs.declared.tables.TypeDef.{TypeDef}
use Rattle.tables.specs.declared.tables.TypeDefKind.{TypeDefKind}
use Rattle.tables.specs.declared.tables.TypeDefKind.TheVariants as kind
use Rattle.tables.specs.declared.tables.TypeId.{TypeId}
use Rattle.tables.specs.declared.tables.TypeName.{TypeName}
use Rattle.tables.specs.declared.tables.ValType.TheVariants as val
use Rattle.tree_meaning.proofs.RowsOfEachInterface.{is_inner_row, used-inner}
use Rattle.tree_meaning.proofs.TypedRows.{earlier-typed}
use Rattle.package_sets.proofs.DistinctNames.SetNamesStandForOne.{one-interface, types-apart}

filled : (xs ys : List ℕ) (x : ℕ) → xs ++ x ∷ ys ≡ [] → ⊥
filled [] ys x e = absurd cc
filled (y ∷ xs) ys x e = absurd cc

module _ (r : Resolve) (form : IsInSetForm r) (labels : All IsLabelled r.interfaces) where
  pub counted : length (interface_names r) ≡ length r.interfaces
  counted = length-map r.interfaces (full_name r)

  pub names-apart : (i j : ℕ) → i < length (interface_names r) → j < length (interface_names r) → get_or (interface_names r) i [] ≡ get_or (interface_names r) j [] → i ≡ j
  names-apart i j l m e = (one-interface r form labels).each i j (omega (arith, l, counted)) (omega (arith, m, counted)) e

  filled-from : (first : ℕ) (is : List Interface) → are_grouped (length r.packages) first is ≡ true → (i : ℕ) → i < length is → get_or (map (full_name r) is) i [] ≡ [] → ⊥
  filled-from first [] h i l e = omega (arith, l)
  filled-from first (x ∷ xs) h zero l e =
      let s = and_parts (nat_le first x.«package».0 && nat_lt x.«package».0 (length r.packages)) (are_grouped (length r.packages) x.«package».0 xs) h in
      let q = package-there r.packages x.«package».0 (ltb-true x.«package».0 (length r.packages) (and_parts (nat_le first x.«package».0) (nat_lt x.«package».0 (length r.packages)) s.0).1) in
      filled q.0.namespace _ 58 (ap (λ (o : Option PackageParts). full_name_in o x.name) (sym q.1) ∙ e)
  filled-from first (x ∷ xs) h (suc i) l e =
      filled-from x.«package».0 xs (and_parts (nat_le first x.«package».0 && nat_lt x.«package».0 (length r.packages)) (are_grouped (length r.packages) x.«package».0 xs) h).1 i (omega (arith, l)) e

  pub names-filled : (i : ℕ) → i < length (interface_names r) → get_or (interface_names r) i [] ≡ [] → ⊥
  names-filled i l e = filled-from 0 r.interfaces r.grouped i (omega (arith, l, counted)) e

  inners : list_all is_inner_row r.definitions ≡ true
  inners = used-inner r.definitions 0 [] r.definitions (postfix-used r.definitions r.earlier form.postfix)

  at-seam : (front rest : List Definition) (d : Definition) → r.definitions ≡ front ++ d ∷ rest → slice_get r.definitions (length front) ≡ Some d
  at-seam front rest d e = ap (λ (ds : List Definition). slice_get ds (length front)) e ∙ (ap (slice_get (front ++ d ∷ rest)) (omega arith) ∙ behind-get front (d ∷ rest) 0)

  in-front : (front rest : List Definition) → r.definitions ≡ front ++ rest → (k : ℕ) (d : Definition) → slice_get front k ≡ Some d → slice_get r.definitions k ≡ Some d
  in-front front rest e k d h = ap (λ (ds : List Definition). slice_get ds k) e ∙ front-get front rest k d h

  inner-at : (front rest : List Definition) (d : Definition) → r.definitions ≡ front ++ d ∷ rest → is_inner_row d ≡ true
  inner-at front rest d e = at front (subst (λ (ds : List Definition). list_all is_inner_row ds ≡ true) e inners)
    where
      at : (front : List Definition) → list_all is_inner_row (front ++ d ∷ rest) ≡ true → is_inner_row d ≡ true
      at [] h = (and_parts (is_inner_row d) (list_all is_inner_row rest) h).0
      at (x ∷ xs) h = at xs (and_parts (is_inner_row x) (list_all is_inner_row (xs ++ d ∷ rest)) h).1

  named-use : (front rest : List Definition) → r.definitions ≡ front ++ rest → (k : ℕ) (t : TypeId) → is_earlier r.definitions k t ≡ true → unnamed front (val.Id t) ≡ []
  named-use front rest e k t h = by (slice_get front t.0) refl
    where
      named : (m : Option TypeName) (c : TypeDefKind) → is_earlier_name k m ≡ true → one_if (is_unnamed_row (Some (row.Type (record { name = m; kind = c })))) t.0 ≡ []
      named None c q = absurd (false≢true q)
      named (Some n) c q = refl

      by : (o : Option Definition) → slice_get front t.0 ≡ o → one_if (is_unnamed_row o) t.0 ≡ []
      by None q = refl
      by (Some (row.Function f)) q = refl
      by (Some (row.Type d)) q = named d.name d.kind (sym (ap (λ (o : Option Definition). is_earlier_type k (type_of o)) (in-front front rest e t.0 (row.Type d) q)) ∙ h)

  -- a used name is no row of a world, which has no name
  no-use : (m : Option TypeName) (t : TypeId) → is_inner_row (row.Type (record { name = m; kind = kind.Use t })) ≡ true → not (is_some m) ≡ true → ⊥
  no-use None t h n = false≢true h
  no-use (Some x) t h n = false≢true n

  owned-at : (front rest : List Definition) (d : Definition) → r.definitions ≡ front ++ d ∷ rest → IsOwnedWithin (length r.interfaces) (owner_of d)
  owned-at front rest d e = all-owned r form.rows.stands (length front) d (at-seam front rest d e)

  pub sound : IsSound (interface_names r) r.definitions
  sound = record {
    typed = earlier-typed r.definitions r.earlier r.typed;
    inners = inners;
    keys = types-apart r form labels;
    uses = uses;
    homes = λ front d n rest e k.
        let o = owned-at front rest (row.Type d) e in
        let l : n.interface.0 < length r.interfaces = subst (λ (m : Option TypeName). IsOwnedWithin (length r.interfaces) (option_map (λ x. owner.Interface x.interface) m)) k o in
        omega (arith, l, counted);
    owners = λ front f i rest e k.
        let o = owned-at front rest (row.Function f) e in
        let l : i.0 < length r.interfaces = subst (λ (x : Owner). IsOwnedWithin (length r.interfaces) (Some x)) k o in
        omega (arith, l, counted);
  }
    where
      uses : (front : List Definition) (d : TypeDef) (t : TypeId) (rest : List Definition) → r.definitions ≡ front ++ row.Type d ∷ rest → d.kind ≡ kind.Use t → unnamed front (val.Id t) ≡ []
      uses front d t rest e k = elim (belongs r.definitions 0 0 r.interfaces 0 r.worlds form.rows.stands (length front) (row.Type d) (omega arith) (at-seam front rest (row.Type d) e)) [
        | inl h ↦
            let s = and_parts (is_owned r.definitions h.interface (row.Type d)) (list_all (is_own r.definitions h.interface) (row_references (row.Type d))) h.local in
            let q = and_parts (is_own_name h.interface d.name) (uses_earlier r.definitions h.interface d.kind) s.0 in
            named-use front (row.Type d ∷ rest) e h.interface t (subst (λ (c : TypeDefKind). uses_earlier r.definitions h.interface c ≡ true) k q.1)
        | inr h ↦
            let s = and_parts (is_of_world h.world (row.Type d)) (list_all (is_nameless r.definitions) (row_references (row.Type d))) h.local in
            let i = subst (λ (c : TypeDefKind). is_inner_row (row.Type (record { name = d.name; kind = c })) ≡ true) k (inner-at front rest (row.Type d) e) in
            absurd (no-use d.name t i s.0)
      ]
