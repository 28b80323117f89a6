-- A row that refers to types of its own interface alone, told by the rows before it.
use Rattle.std.proofs.Common.{◌≡◌, ℕ, List, [], ◌∷◌, ◌++◌, length, flat_map, slice_get, refl, sym, ap, subst, ◌∙◌}
use Rattle.std.specs.Prelude.{Bool, true, false, not, ◌&&◌, Option, None, Some, is_some}
use Rattle.std.specs.List.{list_all}
use Rattle.std.proofs.lemmas.Bool.{and_parts, or_left, or_right, false≢true, ltb-true}
use Rattle.std.proofs.lemmas.List.Folds.{list_all-append}
use Rattle.tables.specs.Tables.{option_all, kind_all, is_below, definition_below, type_of}
use Rattle.tables.specs.declared.tables.TypeId.{TypeId}
use Rattle.tables.specs.declared.tables.ValType.{ValType}
use Rattle.tables.specs.declared.tables.ValType.TheVariants as val
use Rattle.tables.specs.declared.tables.TypeName.{TypeName}
use Rattle.tables.specs.declared.tables.TypeDefKind.{TypeDefKind}
use Rattle.tables.specs.declared.tables.TypeDefKind.TheVariants as kind
use Rattle.tables.specs.declared.tables.Parameter.{Parameter}
use Rattle.tables.specs.declared.tables.Field.{Field}
use Rattle.tables.specs.declared.tables.Case.{Case}
use Rattle.tables.specs.declared.tables.Definition.{Definition}
use Rattle.tables.specs.declared.tables.Definition.TheVariants as row
use Rattle.package_form.specs.Ids.{is_owned_by, is_of_worlds, is_use}
use Rattle.package_form.specs.References.{type_references, references_if, field_references, case_references, parameter_references, kind_references, row_references}
use Rattle.package_form.specs.Form.{is_own_name, is_own_type, is_own, is_earlier_type, uses_earlier, is_owned, is_local, is_nameless_type, is_nameless}
use Rattle.tables.specs.declared.tables.TypeDef.{TypeDef}
use Rattle.tree_meaning.proofs.RowsOfEachInterface.{is_inner_row}
use Rattle.package_text.proofs.TableRows.AreRegions.{is_behind_row}
use Rattle.package_form.proofs.AllAndContains.{list-grows, get-front}
use Rattle.package_text.proofs.TableRows.RowsReadAsTrees.{is_own_row, is_earlier_row, is_local_kind}
use Rattle.package_text.proofs.TableRows.RowsReadAsTrees as by_front

own-row : (k : ℕ) (o : Option Definition) → is_own_type k (type_of o) ≡ true → is_own_row k o ≡ true
own-row k None h = h
own-row k (Some (row.Type d)) h = h
own-row k (Some (row.Function f)) h = h

earlier-row : (k : ℕ) (o : Option Definition) → is_earlier_type k (type_of o) ≡ true → is_earlier_row k o ≡ true
earlier-row k None h = h
earlier-row k (Some (row.Type d)) h = h
earlier-row k (Some (row.Function f)) h = h

module _ (ns : List (List ℕ)) (front rest : List Definition) (k : ℕ) where
  abbrev Owns : List TypeId → Type 0
  Owns ts = list_all (is_own (front ++ rest) k) ts ≡ true

  abbrev below : ValType → Bool
  below v = is_below (length front) v

  owns-both : (xs ys : List TypeId) → list_all (is_own (front ++ rest) k) (xs ++ ys) ≡ true
      → (list_all (is_own (front ++ rest) k) xs ≡ true) × (list_all (is_own (front ++ rest) k) ys ≡ true)
  owns-both xs ys h = and_parts (list_all (is_own (front ++ rest) k) xs) (list_all (is_own (front ++ rest) k) ys) (sym (list_all-append (is_own (front ++ rest) k) xs ys) ∙ h)

  val-own : (v : ValType) → below v ≡ true → Owns (type_references v) → by_front.is_own front k v ≡ true
  val-own (val.Primitive p) b h = refl
  val-own val.String b h = refl
  val-own (val.Id t) b h =
      let here = (and_parts (is_own (front ++ rest) k t) true h).0 in
      own-row k (slice_get front t.0) (subst (λ (o : Option Definition). is_own_type k (type_of o) ≡ true) (get-front front rest t.0 (ltb-true t.0 (length front) b)) here)

  if-own : (v : Option ValType) → option_all below v ≡ true → Owns (references_if v) → option_all (by_front.is_own front k) v ≡ true
  if-own None b h = refl
  if-own (Some v) b h = val-own v b h

  all-own : (vs : List ValType) → list_all below vs ≡ true → Owns (flat_map type_references vs) → list_all (by_front.is_own front k) vs ≡ true
  all-own [] b h = refl
  all-own (v ∷ vs) b h =
      let s = and_parts (below v) (list_all below vs) b in
      let t = owns-both (type_references v) (flat_map type_references vs) h in
      ap (λ x. x && list_all (by_front.is_own front k) vs) (val-own v s.0 t.0) ∙ all-own vs s.1 t.1

  fields-own : (fs : List Field) → list_all (λ f. below f.ty) fs ≡ true → Owns (flat_map field_references fs) → list_all (λ f. by_front.is_own front k f.ty) fs ≡ true
  fields-own [] b h = refl
  fields-own (f ∷ fs) b h =
      let s = and_parts (below f.ty) (list_all (λ f. below f.ty) fs) b in
      let t = owns-both (field_references f) (flat_map field_references fs) h in
      ap (λ x. x && list_all (λ f. by_front.is_own front k f.ty) fs) (val-own f.ty s.0 t.0) ∙ fields-own fs s.1 t.1

  params-own : (ps : List Parameter) → list_all (λ p. below p.ty) ps ≡ true → Owns (flat_map parameter_references ps) → list_all (λ p. by_front.is_own front k p.ty) ps ≡ true
  params-own [] b h = refl
  params-own (p ∷ ps) b h =
      let s = and_parts (below p.ty) (list_all (λ p. below p.ty) ps) b in
      let t = owns-both (parameter_references p) (flat_map parameter_references ps) h in
      ap (λ x. x && list_all (λ p. by_front.is_own front k p.ty) ps) (val-own p.ty s.0 t.0) ∙ params-own ps s.1 t.1

  cases-own : (cs : List Case) → list_all (λ c. option_all below c.ty) cs ≡ true → Owns (flat_map case_references cs) → list_all (λ c. option_all (by_front.is_own front k) c.ty) cs ≡ true
  cases-own [] b h = refl
  cases-own (c ∷ cs) b h =
      let s = and_parts (option_all below c.ty) (list_all (λ c. option_all below c.ty) cs) b in
      let t = owns-both (case_references c) (flat_map case_references cs) h in
      ap (λ x. x && list_all (λ c. option_all (by_front.is_own front k) c.ty) cs) (if-own c.ty s.0 t.0) ∙ cases-own cs s.1 t.1

  -- a type names rows of its own; a use names a type of an earlier interface
  kind-local : (d : TypeDefKind) → kind_all below d ≡ true → uses_earlier (front ++ rest) k d ≡ true → Owns (kind_references d) → is_local_kind ns front k d ≡ true
  kind-local (kind.Use t) b u h =
      earlier-row k (slice_get front t.0) (subst (λ (o : Option Definition). is_earlier_type k (type_of o) ≡ true) (get-front front rest t.0 (ltb-true t.0 (length front) b)) u)
  kind-local (kind.Alias v) b u h = val-own v b h
  kind-local (kind.List v) b u h = val-own v b h
  kind-local (kind.Option v) b u h = val-own v b h
  kind-local (kind.Result ok error) b u h =
      let s = and_parts (option_all below ok) (option_all below error) b in
      let t = owns-both (references_if ok) (references_if error) h in
      ap (λ x. x && option_all (by_front.is_own front k) error) (if-own ok s.0 t.0) ∙ if-own error s.1 t.1
  kind-local (kind.Tuple vs) b u h = all-own vs b h
  kind-local (kind.Record fs) b u h = fields-own fs b h
  kind-local (kind.Variant cs) b u h = cases-own cs b h
  kind-local (kind.Enum names) b u h = refl
  kind-local (kind.Flags names) b u h = refl

  pub local-here : (d : Definition) → definition_below (length front) d ≡ true → is_local (front ++ rest) k d ≡ true → by_front.is_local ns front k d ≡ true
  local-here (row.Type d) b h =
      let s = and_parts (is_owned (front ++ rest) k (row.Type d)) (list_all (is_own (front ++ rest) k) (kind_references d.kind)) h in
      let t = and_parts (is_own_name k d.name) (uses_earlier (front ++ rest) k d.kind) s.0 in
      ap (λ x. x && is_local_kind ns front k d.kind) t.0 ∙ kind-local d.kind b t.1 s.1
  local-here (row.Function f) b h =
      let s = and_parts (is_owned_by k f.owner) (list_all (is_own (front ++ rest) k) (row_references (row.Function f))) h in
      let t = owns-both (flat_map parameter_references f.params) (references_if f.result) s.1 in
      let c = and_parts (list_all (λ p. below p.ty) f.params) (option_all below f.result) b in
      ap (λ x. x && (list_all (λ p. by_front.is_own front k p.ty) f.params && option_all (by_front.is_own front k) f.result)) (or_left (is_owned_by k f.owner) (is_of_worlds f.owner) s.0)
      ∙ (ap (λ x. x && option_all (by_front.is_own front k) f.result) (params-own f.params c.0 t.0) ∙ if-own f.result c.1 t.1)

  uses-none : (d : TypeDefKind) → is_use d ≡ false → uses_earlier (front ++ rest) k d ≡ true
  uses-none (kind.Use t) h = absurd (false≢true (sym h))
  uses-none _ h = refl

  nameless-own : (o : Option TypeDef) → is_nameless_type o ≡ true → is_own_type k o ≡ true
  nameless-own None h = h
  nameless-own (Some d) h = by d.name h
    where
      by : (n : Option TypeName) → not (is_some n) ≡ true → is_own_name k n ≡ true
      by None q = refl
      by (Some n) q = absurd (false≢true q)

  -- a row of a world refers to rows without names, which each interface may
  pub world-here : (d : Definition) → definition_below (length front) d ≡ true → is_inner_row d ≡ true → is_behind_row (front ++ rest) d ≡ true → by_front.is_local ns front k d ≡ true
  world-here (row.Type d) b u h =
      let s = and_parts (not (is_some d.name)) (list_all (is_nameless (front ++ rest)) (kind_references d.kind)) h in
      let own = list-grows (is_nameless (front ++ rest)) (is_own (front ++ rest) k) (λ t. nameless-own (type_of (slice_get (front ++ rest) t.0))) (kind_references d.kind) s.1 in
      ap (λ x. x && is_local_kind ns front k d.kind) (nameless-own (Some d) s.0) ∙ kind-local d.kind b (uses-none d.kind (inner-use d.name d.kind s.0 u)) own
    where
      inner-use : (n : Option TypeName) (c : TypeDefKind) → not (is_some n) ≡ true → is_inner_row (row.Type (record { name = n; kind = c })) ≡ true → is_use c ≡ false
      inner-use (Some n) c q u = absurd (false≢true q)
      inner-use None (kind.Use t) q u = absurd (false≢true u)
      inner-use None _ q u = refl
  world-here (row.Function f) b u h =
      let s = and_parts (is_of_worlds f.owner) (list_all (is_nameless (front ++ rest)) (row_references (row.Function f))) h in
      let own = list-grows (is_nameless (front ++ rest)) (is_own (front ++ rest) k) (λ t. nameless-own (type_of (slice_get (front ++ rest) t.0))) (row_references (row.Function f)) s.1 in
      let t = owns-both (flat_map parameter_references f.params) (references_if f.result) own in
      let c = and_parts (list_all (λ p. below p.ty) f.params) (option_all below f.result) b in
      ap (λ x. x && (list_all (λ p. by_front.is_own front k p.ty) f.params && option_all (by_front.is_own front k) f.result)) (or_right (is_owned_by k f.owner) (is_of_worlds f.owner) s.0)
      ∙ (ap (λ x. x && option_all (by_front.is_own front k) f.result) (params-own f.params c.0 t.0) ∙ if-own f.result c.1 t.1)
