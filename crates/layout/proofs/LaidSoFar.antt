-- What stands directly in definitions while they are laid out.
use Rattle.std.proofs.Common.{◌≡◌, ℕ, zero, suc, ◌+◌, ◌<◌, ◌≤◌, inl, inr, IsTrue, List, [], ◌∷◌, ◌++◌, Option, None, Some, length, map, take, get_or, All, refl, ap, sym, subst, ◌∙◌, arith}
use Rattle.std.specs.Option.{option_map}
use Rattle.std.proofs.lemmas.Bool.{cases_lt, ltb-true}
use Rattle.std.proofs.lemmas.List.{length-append, length-map, length-take, get_or_append_left, get_or_at}
use Rattle.std.proofs.lemmas.List.Elements.{All-append}
use Rattle.canonical_abi.specs.Layout.{Extent, extent_of, places_from, payload_at}
use Rattle.tables.specs.Tables.{is_below, kind_below, definition_below}
use Rattle.tables.specs.Closed.{closed_type}
use Rattle.tables.specs.declared.tables.ValType.{ValType}
use Rattle.tables.specs.declared.tables.ValType.TheVariants as val
use Rattle.tables.specs.declared.tables.TypeDefKind.{TypeDefKind}
use Rattle.tables.specs.declared.tables.TypeDefKind.TheVariants as kind
use Rattle.tables.specs.declared.tables.Definition.{Definition}
use Rattle.tables.specs.declared.tables.Definition.TheVariants as row
use Rattle.tables.specs.declared.tables.Resolve.{Resolve}
use Rattle.tables.proofs.ClosedTypesRowByRow.{is_below-later}
use Rattle.layout.specs.Parts.{payloads, final_type, behind_alias, is_end, is_no_name, AreEnded, record_parts, variant_parts, kind_parts, definition_parts, parts_from}
use Rattle.layout.specs.Layout.{IsSound}
use Rattle.layout.specs.Rows.{row_in, rows_at, choices_at, extent_at, extents, definition_row, IsLimitedDefinition}
use Rattle.layout.specs.Standing.{Parts}
use Rattle.layout.specs.Standing as parts
use Rattle.layout.specs.declared.rows.Row.{Row}
use Rattle.layout.proofs.MeasuresAgree.{rows-agree, definition-agrees, length-parts, parts-more}
use Rattle.layout.proofs.RowsSoFar.{RowsSoFar, rows-none, length-rows, next-below, rows-more}

-- ---- records and variants

module _ {A : Type 0} (rows : List Row) where
  extents-at : (ty : A → ValType) (xs : List A) → extents (rows_at rows ty xs) ≡ map (extent_at rows) (map ty xs)
  extents-at ty [] = refl
  extents-at ty (x ∷ xs) = ap (λ (es : List Extent). extent_at rows (ty x) ∷ es) (extents-at ty xs)

  payloads-at : (pay : A → Option ValType) (xs : List A) → extents (payloads (choices_at rows pay xs)) ≡ payloads (map (option_map (extent_at rows)) (map pay xs))
  payloads-at pay [] = refl
  payloads-at pay (x ∷ xs) = by (pay x) (payloads-at pay xs)
    where
      by : (o : Option ValType) → extents (payloads (choices_at rows pay xs)) ≡ payloads (map (option_map (extent_at rows)) (map pay xs))
          → extents (payloads (option_map (row_in rows) o ∷ choices_at rows pay xs)) ≡ payloads (option_map (extent_at rows) o ∷ map (option_map (extent_at rows)) (map pay xs))
      by None rest = rest
      by (Some v) rest = ap (λ (es : List Extent). extent_at rows v ∷ es) rest

  pub record-laid : (ty : A → ValType) (xs : List A) (vs : List ValType) (ps : List ℕ) → vs ≡ map ty xs → ps ≡ places_from 0 (extents (rows_at rows ty xs))
      → parts.Record vs ps ≡ record_parts (extent_at rows) (map ty xs)
  record-laid ty xs vs ps types places =
      ap (λ (us : List ValType). parts.Record us ps) types
      ∙ ap (λ (qs : List ℕ). parts.Record (map ty xs) qs) (places ∙ ap (places_from 0) (extents-at ty xs))

  pub variant-laid : (pay : A → Option ValType) (xs : List A) (os : List (Option ValType)) (p : ℕ) → os ≡ map pay xs → p ≡ payload_at (length xs) (extents (payloads (choices_at rows pay xs)))
      → parts.Variant p os ≡ variant_parts (extent_at rows) (map pay xs)
  variant-laid pay xs os p types place =
      ap (λ (us : List (Option ValType)). parts.Variant p us) types
      ∙ ap (λ (q : ℕ). parts.Variant q (map pay xs))
      (place ∙ ap (payload_at (length xs)) (payloads-at pay xs)
      ∙ ap (λ (n : ℕ). payload_at n (payloads (map (option_map (extent_at rows)) (map pay xs)))) (sym (length-map xs pay)))

-- ---- what names stand for

abbrev pub none_such : Parts
none_such = parts.Same val.String

is_end-later : (ps qs : List Parts) (v : ValType) → IsTrue (is_below (length ps) v) → IsTrue (is_end ps v) → IsTrue (is_end (ps ++ qs) v)
is_end-later ps qs (val.Primitive p) b h = refl
is_end-later ps qs val.String b h = refl
is_end-later ps qs (val.Id t) b h =
    subst (λ (p : Parts). IsTrue (is_no_name p)) (sym (get_or_append_left ps qs none_such t.0 (ltb-true t.0 (length ps) b))) h

ended-more : (ps : List Parts) (p : Parts) → AreEnded ps → ((v : ValType) → p ≡ parts.Same v → IsTrue (is_below (length ps) v) × IsTrue (is_end ps v)) → AreEnded (ps ++ p ∷ [])
ended-more ps p ended ends = record {
  each = λ k v h e. elim (cases_lt k (length ps)) [
    | inl l ↦
        let old = ended.each k v l (sym (get_or_append_left ps (p ∷ []) none_such k l) ∙ e) in
        (old.0, is_end-later ps (p ∷ []) v (is_below-later k (length ps) v (omega arith) old.0) old.1)
    | inr g ↦
        let same : k ≡ length ps = omega (arith, length-append ps (p ∷ [])) in
        let new = ends v (sym (get_or_at ps p [] none_such k (sym same)) ∙ e) in
        (subst (λ (n : ℕ). IsTrue (is_below n v)) (sym same) new.0, is_end-later ps (p ∷ []) v new.0 new.1)
  ];
}

pub end-ends : (ps : List Parts) (v : ValType) → AreEnded ps → IsTrue (is_below (length ps) v) → IsTrue (is_below (length ps) (final_type ps v)) × IsTrue (is_end ps (final_type ps v))
end-ends ps (val.Primitive p) ended b = (refl, refl)
end-ends ps val.String ended b = (refl, refl)
end-ends ps (val.Id t) ended b = by (get_or ps t.0 none_such) refl
  where
    by : (p : Parts) → get_or ps t.0 none_such ≡ p → IsTrue (is_below (length ps) (behind_alias t p)) × IsTrue (is_end ps (behind_alias t p))
    by (parts.Same v) e =
        let l = ltb-true t.0 (length ps) b in
        let old = ended.each t.0 v l e in
        (is_below-later t.0 (length ps) v (omega (arith, l)) old.0, old.1)
    by (parts.List v) e = (b, ap is_no_name e)
    by (parts.Record vs os) e = (b, ap is_no_name e)
    by (parts.Variant p os) e = (b, ap is_no_name e)
    by (parts.Flags n) e = (b, ap is_no_name e)

name-ends : (ps : List Parts) (w : ValType) → AreEnded ps → IsTrue (is_below (length ps) w) → (v : ValType) → parts.Same (final_type ps w) ≡ parts.Same v → IsTrue (is_below (length ps) v) × IsTrue (is_end ps v)
name-ends ps w ended b v e =
    let ends = end-ends ps w ended b in
    let same : final_type ps w ≡ v = cc in
    (subst (λ (u : ValType). IsTrue (is_below (length ps) u)) same ends.0, subst (λ (u : ValType). IsTrue (is_end ps u)) same ends.1)

kind-ends : (extent : ValType → Extent) (ps : List Parts) (k : TypeDefKind) → AreEnded ps → IsTrue (kind_below (length ps) k)
    → (v : ValType) → kind_parts extent ps k ≡ parts.Same v → IsTrue (is_below (length ps) v) × IsTrue (is_end ps v)
kind-ends extent ps (kind.Use t) ended b v e = name-ends ps (val.Id t) ended b v e
kind-ends extent ps (kind.Alias w) ended b v e = name-ends ps w ended b v e
kind-ends extent ps (kind.List w) ended b v e = absurd (cc)
kind-ends extent ps (kind.Option w) ended b v e = absurd (cc)
kind-ends extent ps (kind.Result ok error) ended b v e = absurd (cc)
kind-ends extent ps (kind.Tuple vs) ended b v e = absurd (cc)
kind-ends extent ps (kind.Record fs) ended b v e = absurd (cc)
kind-ends extent ps (kind.Variant cs) ended b v e = absurd (cc)
kind-ends extent ps (kind.Enum names) ended b v e = absurd (cc)
kind-ends extent ps (kind.Flags names) ended b v e = absurd (cc)

definition-ends : (extent : ValType → Extent) (ps : List Parts) (d : Definition) → AreEnded ps → IsTrue (definition_below (length ps) d)
    → (v : ValType) → definition_parts extent ps d ≡ parts.Same v → IsTrue (is_below (length ps) v) × IsTrue (is_end ps v)
definition-ends extent ps (row.Type d) ended b v e = kind-ends extent ps d.kind ended b v e
definition-ends extent ps (row.Function f) ended b v e = absurd (cc)

-- ---- the first i definitions

abbrev room : Resolve → ValType → Extent
room r v = extent_of (closed_type r v)

sound-one : (x : Row) → IsSound x → All IsSound (x ∷ [])
sound-one x h zero d q = h
sound-one x h (suc k) d q = absurd (omega arith)

pub record LaidSoFar (r : Resolve) (i : ℕ) (rows : List Row) (ps : List Parts) : Type 0 where
  pub so_far : RowsSoFar r i rows
  pub parts_are : ps ≡ parts_from (λ v. extent_of (closed_type r v)) [] (take i r.definitions)
  pub ended : AreEnded ps

pub laid-none : (r : Resolve) → LaidSoFar r 0 [] []
laid-none r = record { so_far = rows-none r; parts_are = refl; ended = record { each = λ k v h. absurd (omega arith) } }

pub length-laid : (r : Resolve) (i : ℕ) (rows : List Row) (ps : List Parts) → i ≤ length r.definitions → LaidSoFar r i rows ps → length ps ≡ i
length-laid r i rows ps h laid = ap length laid.parts_are ∙ length-parts (room r) [] (take i r.definitions) ∙ omega (arith, length-take i r.definitions)

module _ (r : Resolve) (i : ℕ) (rows : List Row) (ps : List Parts) (d : Definition) (h : i < length r.definitions) (is : d ≡ get_or r.definitions i d) (laid : LaidSoFar r i rows ps) where
  pub laid-more : (x : Row) (p : Parts) (rows' : List Row) (ps' : List Parts) → x ≡ definition_row rows d → p ≡ definition_parts (extent_at rows) ps d
      → IsSound x → IsLimitedDefinition d x → rows' ≡ rows ++ x ∷ [] → ps' ≡ ps ++ p ∷ [] → LaidSoFar r (i + 1) rows' ps'
  laid-more x p rows' ps' x_is p_is sound limited more more_parts =
      let below = next-below r i rows d h is laid.so_far in
      let count = length-rows r i rows (omega arith) laid.so_far in
      let counted = length-laid r i rows ps (omega arith) laid in
      let here : IsTrue (definition_below i d) = subst (λ (n : ℕ). IsTrue (definition_below n d)) count below in
      let whole : p ≡ definition_parts (room r) ps d =
      p_is ∙ definition-agrees i (extent_at rows) (room r) (rows-agree r i rows (omega arith) laid.so_far.rows_are) ps d here in
      let at_ps : IsTrue (definition_below (length ps) d) = subst (λ (n : ℕ). IsTrue (definition_below n d)) (sym counted) here in
      let ends : AreEnded (ps ++ definition_parts (room r) ps d ∷ []) = ended-more ps (definition_parts (room r) ps d) laid.ended (definition-ends (room r) ps d laid.ended at_ps) in
      let all : All IsSound rows' = subst (λ (xs : List Row). All IsSound xs) (sym more) (All-append IsSound rows (x ∷ []) laid.so_far.sound (sound-one x sound)) in
      record {
        so_far = rows-more r i rows d h is laid.so_far x rows' x_is sound limited more all;
        parts_are = more_parts
            ∙ ap (λ (q : Parts). ps ++ q ∷ []) (whole ∙ ap (definition_parts (room r) ps) is)
            ∙ ap (λ (qs : List Parts). qs ++ definition_parts (room r) qs (get_or r.definitions i d) ∷ []) laid.parts_are
            ∙ sym (parts-more (room r) r.definitions i d h);
        ended = subst AreEnded (ap (λ (q : Parts). ps ++ q ∷ []) (sym whole) ∙ sym more_parts) ends;
      }
