-- What stands directly in the rows of a table stands for their closed types.
use Rattle.std.proofs.Common.{◌≡◌, ℕ, zero, suc, ◌+◌, ◌<◌, ◌≤◌, IsTrue, List, [], ◌∷◌, ◌++◌, Option, None, Some, length, map, take, drop, get_or, refl, ap, sym, subst, ◌∙◌, add-one, arith, ◌⊎◌, inl, inr}
use Rattle.std.specs.Option.{option_map}
use Rattle.std.specs.List.{list_all}
use Rattle.std.proofs.lemmas.Bool.{cases_lt, ltb-true, lt-ltb}
use Rattle.std.proofs.lemmas.List.{length-append, length-take, get_or_append_left, get_or_at, take_all, take-append-drop}
use Rattle.std.proofs.lemmas.Simd.{map-map}
use Rattle.canonical_abi.specs.Types.{ClosedType, string_type, list_type, record_type, variant_type, fields_of, cases_of, case_count}
use Rattle.canonical_abi.specs.Layout.{Extent, extent_of, field_extents, payload_extents, places_from, payload_at}
use Rattle.tables.specs.Tables.{is_below, option_below, kind_below, definition_below}
use Rattle.tables.specs.Closed.{closed_val, closed_kind, closed_definition, closed_rows, closed_types, closed_type}
use Rattle.tables.specs.declared.tables.ValType.{ValType}
use Rattle.tables.specs.declared.tables.ValType.TheVariants as val
use Rattle.tables.specs.declared.tables.TypeDefKind.{TypeDefKind}
use Rattle.tables.specs.declared.tables.TypeDefKind.TheVariants as kind
use Rattle.tables.specs.declared.tables.Definition.{Definition}
use Rattle.tables.specs.declared.tables.Definition.TheVariants as row
use Rattle.tables.specs.declared.tables.Resolve.{Resolve}
use Rattle.tables.proofs.ClosedTypesRowByRow.{split, earlier-at, closed-at, closed_val-stays}
use Rattle.layout.specs.Parts.{payloads, behind_alias, final_type, record_parts, variant_parts, kind_parts, definition_parts, parts_from}
use Rattle.layout.specs.Queries.{PartsStand}
use Rattle.layout.specs.Standing.{Parts}
use Rattle.layout.specs.Standing as parts
use Rattle.layout.proofs.MeasuresAgree.{Agree, types-agree, payload-agrees, payloads-agree, mapped, mapped-options, no-payloads, length-parts, parts-more, parts_from-append}
use Rattle.layout.proofs.LaidSoFar.{none_such}

-- ---- closed types by the whole table

kind-stays : (n : ℕ) (ts us : List ClosedType) → Agree n (closed_val ts) (closed_val us) → (k : TypeDefKind) → IsTrue (kind_below n k) → closed_kind ts k ≡ closed_kind us k
kind-stays n ts us agree (kind.Use t) h = agree (val.Id t) h
kind-stays n ts us agree (kind.Alias v) h = agree v h
kind-stays n ts us agree (kind.List v) h = ap (λ (t : ClosedType). list_type t) (agree v h)
kind-stays n ts us agree (kind.Option v) h = ap (λ (t : ClosedType). variant_type (cases_of (None ∷ Some t ∷ []))) (agree v h)
kind-stays n ts us agree (kind.Result ok error) h =
    let hs = split (option_below n ok) (option_below n error) h in
    ap (λ (o : Option ClosedType). variant_type (cases_of (o ∷ option_map (closed_val ts) error ∷ []))) (payload-agrees n (closed_val ts) (closed_val us) agree ok hs.0)
    ∙ ap (λ (o : Option ClosedType). variant_type (cases_of (option_map (closed_val us) ok ∷ o ∷ []))) (payload-agrees n (closed_val ts) (closed_val us) agree error hs.1)
kind-stays n ts us agree (kind.Tuple vs) h = ap (λ (xs : List ClosedType). record_type (fields_of xs)) (types-agree n (closed_val ts) (closed_val us) agree vs h)
kind-stays n ts us agree (kind.Record fs) h =
    ap (λ (xs : List ClosedType). record_type (fields_of xs))
    (sym (map-map (closed_val ts) (λ f. f.ty) fs) ∙ types-agree n (closed_val ts) (closed_val us) agree (map (λ f. f.ty) fs) (mapped n (λ f. f.ty) fs h) ∙ map-map (closed_val us) (λ f. f.ty) fs)
kind-stays n ts us agree (kind.Variant cs) h =
    ap (λ (xs : List (Option ClosedType)). variant_type (cases_of xs))
    (sym (map-map (option_map (closed_val ts)) (λ c. c.ty) cs) ∙ payloads-agree n (closed_val ts) (closed_val us) agree (map (λ c. c.ty) cs) (mapped-options n (λ c. c.ty) cs h) ∙ map-map (option_map (closed_val us)) (λ c. c.ty) cs)
kind-stays n ts us agree (kind.Enum names) h = refl
kind-stays n ts us agree (kind.Flags names) h = refl

definition-stays : (n : ℕ) (ts us : List ClosedType) → Agree n (closed_val ts) (closed_val us) → (d : Definition) → IsTrue (definition_below n d) → closed_definition ts d ≡ closed_definition us d
definition-stays n ts us agree (row.Type d) h = kind-stays n ts us agree d.kind h
definition-stays n ts us agree (row.Function f) h =
    ap (λ (xs : List ClosedType). record_type (fields_of xs))
    (sym (map-map (closed_val ts) (λ p. p.ty) f.params)
    ∙ types-agree n (closed_val ts) (closed_val us) agree (map (λ p. p.ty) f.params) (mapped n (λ p. p.ty) f.params (split (list_all (λ p. is_below n p.ty) f.params) (option_below n f.result) h).0)
    ∙ map-map (closed_val us) (λ p. p.ty) f.params)

-- row k is the definition's closed type by the whole table
closed-whole : (r : Resolve) (k : ℕ) (d : Definition) → k < length r.definitions → IsTrue (definition_below k (get_or r.definitions k d))
    → get_or (closed_types r) k string_type ≡ closed_definition (closed_types r) (get_or r.definitions k d)
closed-whole r k d h below =
    closed-at r.definitions k d h
    ∙ definition-stays k (closed_rows [] (take k r.definitions)) (closed_types r) (λ v b. closed_val-stays r.definitions k v (omega arith) b) (get_or r.definitions k d) below

-- ---- parts by kinds

module _ (c : ValType → ClosedType) (n : ℕ) where
  abbrev room : ValType → Extent
  room v = extent_of (c v)

  fields-room : (vs : List ValType) → map room vs ≡ field_extents (fields_of (map c vs))
  fields-room [] = refl
  fields-room (v ∷ vs) = ap (λ (xs : List Extent). room v ∷ xs) (fields-room vs)

  payloads-room : (os : List (Option ValType)) → payloads (map (option_map room) os) ≡ payload_extents (cases_of (map (option_map c) os))
  payloads-room [] = refl
  payloads-room (None ∷ os) = payloads-room os
  payloads-room (Some v ∷ os) = ap (λ (xs : List Extent). room v ∷ xs) (payloads-room os)

  count-cases : (os : List (Option ValType)) → length os ≡ case_count (cases_of (map (option_map c) os))
  count-cases [] = refl
  count-cases (None ∷ os) = ap suc (count-cases os)
  count-cases (Some v ∷ os) = ap suc (count-cases os)

  record-stands : (vs : List ValType) (t : ClosedType) → t ≡ record_type (fields_of (map c vs)) → IsTrue (list_all (is_below n) vs) → PartsStand c n (record_parts room vs) t
  record-stands vs t e h = (e, ap (places_from 0) (fields-room vs), h)

  variant-stands : (os : List (Option ValType)) (t : ClosedType) → t ≡ variant_type (cases_of (map (option_map c) os)) → IsTrue (list_all (option_below n) os) → PartsStand c n (variant_parts room os) t
  variant-stands os t e h =
      (e, ap (λ (k : ℕ). payload_at k (payloads (map (option_map room) os))) (count-cases os) ∙ ap (payload_at (case_count (cases_of (map (option_map c) os)))) (payloads-room os), h)

kind-stands : (ts : List ClosedType) (n : ℕ) (ps : List Parts) (k : TypeDefKind) → IsTrue (kind_below n k)
    → ((v : ValType) → IsTrue (is_below n v) → closed_val ts (final_type ps v) ≡ closed_val ts v)
    → PartsStand (closed_val ts) n (kind_parts (λ v. extent_of (closed_val ts v)) ps k) (closed_kind ts k)
kind-stands ts n ps (kind.Use t) h ends = sym (ends (val.Id t) h)
kind-stands ts n ps (kind.Alias v) h ends = sym (ends v h)
kind-stands ts n ps (kind.List v) h ends = (refl, h)
kind-stands ts n ps (kind.Option v) h ends = variant-stands (closed_val ts) n (None ∷ Some v ∷ []) _ refl (rw h refl)
kind-stands ts n ps (kind.Result ok error) h ends =
    let hs = split (option_below n ok) (option_below n error) h in
    variant-stands (closed_val ts) n (ok ∷ error ∷ []) _ refl (rw (hs.0, hs.1) refl)
kind-stands ts n ps (kind.Tuple vs) h ends = record-stands (closed_val ts) n vs _ refl h
kind-stands ts n ps (kind.Record fs) h ends =
    record-stands (closed_val ts) n (map (λ f. f.ty) fs) _ (ap (λ (xs : List ClosedType). record_type (fields_of xs)) (sym (map-map (closed_val ts) (λ f. f.ty) fs))) (mapped n (λ f. f.ty) fs h)
kind-stands ts n ps (kind.Variant cs) h ends =
    variant-stands (closed_val ts) n (map (λ c. c.ty) cs) _ (ap (λ (xs : List (Option ClosedType)). variant_type (cases_of xs)) (sym (map-map (option_map (closed_val ts)) (λ c. c.ty) cs))) (mapped-options n (λ c. c.ty) cs h)
kind-stands ts n ps (kind.Enum names) h ends =
    variant-stands (closed_val ts) n (map (λ n. None) names) _ (ap (λ (xs : List (Option ClosedType)). variant_type (cases_of xs)) (sym (map-map (option_map (closed_val ts)) (λ n. None) names))) (no-payloads n names)
kind-stands ts n ps (kind.Flags names) h ends = refl

definition-stands : (ts : List ClosedType) (n : ℕ) (ps : List Parts) (d : Definition) → IsTrue (definition_below n d)
    → ((v : ValType) → IsTrue (is_below n v) → closed_val ts (final_type ps v) ≡ closed_val ts v)
    → PartsStand (closed_val ts) n (definition_parts (λ v. extent_of (closed_val ts v)) ps d) (closed_definition ts d)
definition-stands ts n ps (row.Type d) h ends = kind-stands ts n ps d.kind h ends
definition-stands ts n ps (row.Function f) h ends =
    record-stands (closed_val ts) n (map (λ p. p.ty) f.params) _ (ap (λ (xs : List ClosedType). record_type (fields_of xs)) (sym (map-map (closed_val ts) (λ p. p.ty) f.params)))
    (mapped n (λ p. p.ty) f.params (split (list_all (λ p. is_below n p.ty) f.params) (option_below n f.result) h).0)

-- ---- the whole table

parts-front : (e : ValType → Extent) (ps : List Parts) (ds : List Definition) (k : ℕ) → k < length ps → get_or (parts_from e ps ds) k none_such ≡ get_or ps k none_such
parts-front e ps [] k h = refl
parts-front e ps (d ∷ ds) k h =
    parts-front e (ps ++ definition_parts e ps d ∷ []) ds k (omega (arith, length-append ps (definition_parts e ps d ∷ [])))
    ∙ get_or_append_left ps (definition_parts e ps d ∷ []) none_such k h

module _ (r : Resolve) where
  abbrev pub front : ℕ → List Parts
  front i = parts_from (λ v. extent_of (closed_type r v)) [] (take i r.definitions)

  pub length-front : (i : ℕ) → i ≤ length r.definitions → length (front i) ≡ i
  length-front i h = length-parts (λ v. extent_of (closed_type r v)) [] (take i r.definitions) ∙ omega (arith, length-take i r.definitions)

  -- names end at types that are closed alike, among the first i
  abbrev EndsAlike : ℕ → Type 0
  EndsAlike i = (v : ValType) → IsTrue (is_below i v) → closed_type r (final_type (front i) v) ≡ closed_type r v

  -- what stands in definition k, which is d
  stands-in : (k : ℕ) (d : Definition) → k < length r.definitions → EndsAlike k
      → PartsStand (closed_type r) k (definition_parts (λ v. extent_of (closed_type r v)) (front k) (get_or r.definitions k d)) (get_or (closed_types r) k string_type)
  stands-in k d h ends =
      let same : 0 + k ≡ k = omega arith in
      let at = earlier-at 0 r.definitions k d r.earlier h in
      let below : IsTrue (definition_below k (get_or r.definitions k d)) = rw same at at in
      subst (λ (t : ClosedType). PartsStand (closed_type r) k (definition_parts (λ v. extent_of (closed_type r v)) (front k) (get_or r.definitions k d)) t)
      (sym (closed-whole r k d h below))
      (definition-stands (closed_types r) k (front k) (get_or r.definitions k d) below ends)

  -- a name that is made of these parts ends alike
  followed-alike : (t : ℕ) (p : Parts) (n : ℕ) → PartsStand (closed_type r) n p (get_or (closed_types r) t string_type) → closed_type r (behind_alias (record { 0 = t }) p) ≡ get_or (closed_types r) t string_type
  followed-alike t (parts.Same v) n h = sym h
  followed-alike t (parts.List v) n h = refl
  followed-alike t (parts.Record vs ps) n h = refl
  followed-alike t (parts.Variant p os) n h = refl
  followed-alike t (parts.Flags k) n h = refl

  pub front-more : (i : ℕ) (d : Definition) → i < length r.definitions
      → front (suc i) ≡ front i ++ definition_parts (λ v. extent_of (closed_type r v)) (front i) (get_or r.definitions i d) ∷ []
  front-more i d h = ap front (sym (add-one i)) ∙ parts-more (λ v. extent_of (closed_type r v)) r.definitions i d h

  ends-alike : (i : ℕ) (d : Definition) → i ≤ length r.definitions → EndsAlike i
  ends-alike i d h (val.Primitive p) b = refl
  ends-alike i d h val.String b = refl
  ends-alike zero d h (val.Id t) b = absurd (omega (arith, ltb-true t.0 0 b))
  ends-alike (suc i) d h (val.Id t) b = by (cases_lt t.0 i) (λ v c. ends-alike i d (omega arith) v c)
    where
      by : (t.0 < i) ⊎ (i ≤ t.0) → EndsAlike i → closed_type r (final_type (front (suc i)) (val.Id t)) ≡ closed_type r (val.Id t)
      by (inl l) rest =
          let within : t.0 < length (front i) = omega (arith, length-front i (omega arith)) in
          let same : get_or (front (suc i)) t.0 none_such ≡ get_or (front i) t.0 none_such =
          ap (λ (ps : List Parts). get_or ps t.0 none_such) (front-more i d (omega arith)) ∙ get_or_append_left (front i) _ none_such t.0 within in
          ap (λ (p : Parts). closed_type r (behind_alias t p)) same ∙ rest (val.Id t) (lt-ltb t.0 i l)
      by (inr g) rest =
          let here : i ≡ t.0 = omega (arith, ltb-true t.0 (suc i) b) in
          let p = definition_parts (λ v. extent_of (closed_type r v)) (front i) (get_or r.definitions i d) in
          let at : length (front i) ≡ t.0 = length-front i (omega arith) ∙ here in
          let same : get_or (front (suc i)) t.0 none_such ≡ p =
          ap (λ (ps : List Parts). get_or ps t.0 none_such) (front-more i d (omega arith)) ∙ get_or_at (front i) p [] none_such t.0 at in
          let alike : closed_type r (behind_alias (record { 0 = i }) p) ≡ get_or (closed_types r) i string_type = followed-alike i p i (stands-in i d (omega arith) rest) in
          ap (λ (q : Parts). closed_type r (behind_alias t q)) same
          ∙ subst (λ (j : ℕ). closed_type r (behind_alias (record { 0 = j }) p) ≡ get_or (closed_types r) j string_type) here alike

  abbrev pub whole : List Parts
  whole = parts_from (λ v. extent_of (closed_type r v)) [] r.definitions

  pub ends-whole : (d : Definition) (v : ValType) → IsTrue (is_below (length r.definitions) v) → closed_type r (final_type whole v) ≡ closed_type r v
  ends-whole d v b =
      let all : front (length r.definitions) ≡ whole = ap (λ (ds : List Definition). parts_from (λ v. extent_of (closed_type r v)) [] ds) (take_all (length r.definitions) r.definitions (omega arith)) in
      ap (λ (ps : List Parts). closed_type r (final_type ps v)) (sym all) ∙ ends-alike (length r.definitions) d (omega arith) v b

  pub parts-at : (k : ℕ) (d : Definition) → k < length r.definitions → get_or whole k none_such ≡ definition_parts (λ v. extent_of (closed_type r v)) (front k) (get_or r.definitions k d)
  parts-at k d h =
      let e = λ (v : ValType). extent_of (closed_type r v) in
      let p = definition_parts e (front k) (get_or r.definitions k d) in
      let split_whole : whole ≡ parts_from e (front (k + 1)) (drop (k + 1) r.definitions) =
      ap (λ (ds : List Definition). parts_from e [] ds) (sym (take-append-drop (k + 1) r.definitions)) ∙ parts_from-append e [] (take (k + 1) r.definitions) (drop (k + 1) r.definitions) in
      let count : length (front (k + 1)) ≡ k + 1 = length-front (k + 1) (omega arith) in
      ap (λ (ps : List Parts). get_or ps k none_such) split_whole
      ∙ parts-front e (front (k + 1)) (drop (k + 1) r.definitions) k (omega arith)
      ∙ ap (λ (ps : List Parts). get_or ps k none_such) (parts-more e r.definitions k d h)
      ∙ get_or_at (front k) p [] none_such k (length-front k (omega arith))

  -- the parts of each definition stand for its closed type
  pub parts-stand : (k : ℕ) (d : Definition) → k < length r.definitions → PartsStand (closed_type r) k (get_or whole k none_such) (get_or (closed_types r) k string_type)
  parts-stand k d h =
      subst (λ (p : Parts). PartsStand (closed_type r) k p (get_or (closed_types r) k string_type)) (sym (parts-at k d h)) (stands-in k d h (ends-alike k d (omega arith)))
