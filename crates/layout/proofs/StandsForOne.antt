-- What is told of a type by its parts is what the definition that it stands for has.
use Rattle.std.proofs.Common.{◌≡◌, ℕ, zero, suc, ◌+◌, ◌<◌, ◌≤◌, IsTrue, List, [], ◌∷◌, Option, None, Some, length, map, get_or, slice_get, refl, ap, sym, subst, ◌∙◌, arith, ◌⊎◌, inl, inr}
use Rattle.std.specs.Option.{option_map, option_and_then}
use Rattle.std.specs.Int.{next_multiple_of}
use Rattle.std.proofs.lemmas.Bool.{cases_lt, ltb-true, lt-ltb}
use Rattle.std.proofs.lemmas.List.{length-map, get_or_append_left, get_or_at, take_all}
use Rattle.std.proofs.lemmas.Option.{slice_get-get_or}
use Rattle.canonical_abi.specs.Layout.{Extent, extent_of, places_from}
use Rattle.tables.specs.Tables.{is_below, kind_below, definition_below}
use Rattle.tables.specs.Closed.{closed_type}
use Rattle.tables.specs.declared.tables.ValType.{ValType}
use Rattle.tables.specs.declared.tables.ValType.TheVariants as val
use Rattle.tables.specs.declared.tables.TypeDefKind.{TypeDefKind}
use Rattle.tables.specs.declared.tables.TypeDefKind.TheVariants as kind
use Rattle.tables.specs.declared.tables.Definition.{Definition}
use Rattle.tables.specs.declared.tables.Definition.TheVariants as row
use Rattle.tables.specs.declared.tables.Resolve.{Resolve}
use Rattle.tables.proofs.ClosedTypesRowByRow.{earlier-at}
use Rattle.layout.specs.Layout.{LayoutTable, layouts_of}
use Rattle.layout.specs.Parts.{behind_alias, final_type, is_end, is_no_name, kind_parts, definition_parts, parts_from}
use Rattle.layout.specs.Queries.{shape_by, shape_of, field_info_by, field_info_of, field_placed, case_info_by, case_at, case_info_of}
use Rattle.layout.specs.Named.{kind_named, kind_members, kind_cases, kind_shape, definition_named, named_in, StandsFor, itself, named, OfNamed, StandsForOne, definition_members, definition_cases, definition_shape, own_shape, own_member, own_case}
use Rattle.layout.specs.Standing.{Parts}
use Rattle.layout.specs.declared.queries.Shape.{Shape}
use Rattle.layout.specs.declared.queries.Shape.TheVariants as shape
use Rattle.layout.specs.declared.queries.FieldInfo.{FieldInfo}
use Rattle.layout.specs.declared.queries.CaseInfo.{CaseInfo}
use Rattle.layout.proofs.LaidSoFar.{none_such}
use Rattle.layout.proofs.PartsStandForClosedTypes.{front, length-front, front-more, whole, parts-at}
use Rattle.layout.proofs.PartsTellClosedTypes.{some_definition, count-rows, IsEndOf}

-- ---- the definition

module _ (ds : List Definition) where
  -- a type that is no name, and a type that names another, stand for one
  of-none : (v f : ValType) → named_in ds v ≡ None → StandsFor ds v f → v ≡ f
  of-none v f n (itself u m) = refl
  of-none v f n (named u w g m rest) = absurd (cc)

  one : (v e f : ValType) → StandsFor ds v e → StandsFor ds v f → e ≡ f
  one v e f (itself u n) other = of-none u f n other
  one v e f (named u w g n rest) other = by other n (λ b. one w g b rest)
    where
      by : {a b : ValType} → StandsFor ds a b → named_in ds a ≡ Some w → ((x : ValType) → StandsFor ds w x → g ≡ x) → g ≡ b
      by (itself a m) k alike = absurd (cc)
      by (named a x b m after) k alike =
          let same : x ≡ w = cc in
          alike b (subst (λ (y : ValType). StandsFor ds y b) same after)

pub stands-for-one : (r : Resolve) → StandsForOne r
stands-for-one r = one r.definitions

-- ---- the parts of one definition

module _ (extent : ValType → Extent) (ps : List Parts) where
  shape-made : (d : Definition) → IsTrue (is_no_name (definition_parts extent ps d)) → definition_shape d ≡ Some (shape_by (definition_parts extent ps d))
  shape-made (row.Function f) h = ap (λ (n : ℕ). Some (shape.Record n)) (sym (length-map f.params (λ p. p.ty)))
  shape-made (row.Type d) h = by d.kind h
    where
      by : (k : TypeDefKind) → IsTrue (is_no_name (kind_parts extent ps k)) → kind_shape k ≡ Some (shape_by (kind_parts extent ps k))
      by (kind.Use t) h = absurd (cc)
      by (kind.Alias v) h = absurd (cc)
      by (kind.List v) h = refl
      by (kind.Option v) h = refl
      by (kind.Result ok error) h = refl
      by (kind.Tuple vs) h = refl
      by (kind.Record fs) h = ap (λ (n : ℕ). Some (shape.Record n)) (sym (length-map fs (λ f. f.ty)))
      by (kind.Variant cs) h = ap (λ (n : ℕ). Some (shape.Variant n)) (sym (length-map cs (λ c. c.ty)))
      by (kind.Enum names) h = ap (λ (n : ℕ). Some (shape.Variant n)) (sym (length-map names (λ n. None)))
      by (kind.Flags names) h = refl

  placed-member : (vs : List ValType) (n i : ℕ) → option_map (λ f. f.ty) (field_placed (slice_get vs i) (slice_get (places_from n (map extent vs)) i)) ≡ slice_get vs i
  placed-member [] n i = refl
  placed-member (v ∷ vs) n zero = refl
  placed-member (v ∷ vs) n (suc i) = placed-member vs (next_multiple_of n (extent v).align + (extent v).size) i

  member-made : (d : Definition) (i : ℕ) → slice_get (definition_members d) i ≡ option_map (λ f. f.ty) (field_info_by (definition_parts extent ps d) i)
  member-made (row.Function f) i = sym (placed-member (map (λ p. p.ty) f.params) 0 i)
  member-made (row.Type d) i = by d.kind
    where
      by : (k : TypeDefKind) → slice_get (kind_members k) i ≡ option_map (λ f. f.ty) (field_info_by (kind_parts extent ps k) i)
      by (kind.Use t) = refl
      by (kind.Alias v) = refl
      by (kind.List v) = refl
      by (kind.Option v) = refl
      by (kind.Result ok error) = refl
      by (kind.Tuple vs) = sym (placed-member vs 0 i)
      by (kind.Record fs) = sym (placed-member (map (λ f. f.ty) fs) 0 i)
      by (kind.Variant cs) = refl
      by (kind.Enum names) = refl
      by (kind.Flags names) = refl

  placed-case : (p : ℕ) (o : Option (Option ValType)) → o ≡ option_map (λ c. c.payload) (option_map (case_at p) o)
  placed-case p None = refl
  placed-case p (Some o) = refl

  case-made : (d : Definition) (i : ℕ) → slice_get (definition_cases d) i ≡ option_map (λ c. c.payload) (case_info_by (definition_parts extent ps d) i)
  case-made (row.Function f) i = refl
  case-made (row.Type d) i = by d.kind
    where
      by : (k : TypeDefKind) → slice_get (kind_cases k) i ≡ option_map (λ c. c.payload) (case_info_by (kind_parts extent ps k) i)
      by (kind.Use t) = refl
      by (kind.Alias v) = refl
      by (kind.List v) = refl
      by (kind.Option v) = placed-case _ (slice_get (None ∷ Some v ∷ []) i)
      by (kind.Result ok error) = placed-case _ (slice_get (ok ∷ error ∷ []) i)
      by (kind.Tuple vs) = refl
      by (kind.Record fs) = refl
      by (kind.Variant cs) = placed-case _ (slice_get (map (λ c. c.ty) cs) i)
      by (kind.Enum names) = placed-case _ (slice_get (map (λ n. None) names) i)
      by (kind.Flags names) = refl

-- ---- the end of each name

module _ (r : Resolve) where
  abbrev room : ValType → Extent
  room v = extent_of (closed_type r v)

  -- each of the first i types stands for its end
  abbrev StandAll : ℕ → Type 0
  StandAll i = (v : ValType) → IsTrue (is_below i v) → StandsFor r.definitions v (final_type (front r i) v)

  at-row : (t : ℕ) (d : Definition) → t < length r.definitions → slice_get r.definitions t ≡ Some (get_or r.definitions t d)
  at-row t d h = slice_get-get_or r.definitions t d h

  named-here : (i : ℕ) (d : Definition) → i < length r.definitions → definition_named (get_or r.definitions i d) ≡ named_in r.definitions (val.Id (record { 0 = i }))
  named-here i d h = sym (ap (option_and_then definition_named) (at-row i d h))

  -- definition i stands for the end that its parts tell
  stands-next : (i : ℕ) (e : Definition) → IsTrue (definition_below i e) → named_in r.definitions (val.Id (record { 0 = i })) ≡ definition_named e → StandAll i
      → StandsFor r.definitions (val.Id (record { 0 = i })) (behind_alias (record { 0 = i }) (definition_parts room (front r i) e))
  stands-next i (row.Function f) b n rest = itself (val.Id (record { 0 = i })) n
  stands-next i (row.Type d) b n rest = by d.kind b n
    where
      by : (k : TypeDefKind) → IsTrue (kind_below i k) → named_in r.definitions (val.Id (record { 0 = i })) ≡ kind_named k
          → StandsFor r.definitions (val.Id (record { 0 = i })) (behind_alias (record { 0 = i }) (kind_parts room (front r i) k))
      by (kind.Use t) b n = named _ _ _ n (rest (val.Id t) b)
      by (kind.Alias v) b n = named _ _ _ n (rest v b)
      by (kind.List v) b n = itself _ n
      by (kind.Option v) b n = itself _ n
      by (kind.Result ok error) b n = itself _ n
      by (kind.Tuple vs) b n = itself _ n
      by (kind.Record fs) b n = itself _ n
      by (kind.Variant cs) b n = itself _ n
      by (kind.Enum names) b n = itself _ n
      by (kind.Flags names) b n = itself _ n

  stand-all : (i : ℕ) (d : Definition) → i ≤ length r.definitions → StandAll i
  stand-all i d h (val.Primitive p) b = itself (val.Primitive p) refl
  stand-all i d h val.String b = itself val.String refl
  stand-all zero d h (val.Id t) b = absurd (omega (arith, ltb-true t.0 0 b))
  stand-all (suc i) d h (val.Id t) b = by (cases_lt t.0 i) (λ v c. stand-all i d (omega arith) v c)
    where
      by : (t.0 < i) ⊎ (i ≤ t.0) → StandAll i → StandsFor r.definitions (val.Id t) (final_type (front r (suc i)) (val.Id t))
      by (inl l) rest =
          let within : t.0 < length (front r i) = omega (arith, length-front r i (omega arith)) in
          let same : get_or (front r (suc i)) t.0 none_such ≡ get_or (front r i) t.0 none_such =
          ap (λ (ps : List Parts). get_or ps t.0 none_such) (front-more r i d (omega arith)) ∙ get_or_append_left (front r i) _ none_such t.0 within in
          subst (λ (p : Parts). StandsFor r.definitions (val.Id t) (behind_alias t p)) (sym same) (rest (val.Id t) (lt-ltb t.0 i l))
      by (inr g) rest =
          let here : i ≡ t.0 = omega (arith, ltb-true t.0 (suc i) b) in
          let p = definition_parts room (front r i) (get_or r.definitions i d) in
          let at : length (front r i) ≡ t.0 = length-front r i (omega arith) ∙ here in
          let same : get_or (front r (suc i)) t.0 none_such ≡ p =
          ap (λ (ps : List Parts). get_or ps t.0 none_such) (front-more r i d (omega arith)) ∙ get_or_at (front r i) p [] none_such t.0 at in
          let none : 0 + i ≡ i = omega arith in
          let earlier = earlier-at 0 r.definitions i d r.earlier (omega arith) in
          let below : IsTrue (definition_below i (get_or r.definitions i d)) = rw none at earlier in
          let stands : StandsFor r.definitions (val.Id (record { 0 = i })) (behind_alias (record { 0 = i }) p) =
          stands-next i (get_or r.definitions i d) below (sym (named-here i d (omega arith))) rest in
          subst (λ (q : Parts). StandsFor r.definitions (val.Id t) (behind_alias t q)) (sym same)
          (subst (λ (j : ℕ). StandsFor r.definitions (val.Id (record { 0 = j })) (behind_alias (record { 0 = j }) p)) here stands)

  stands-whole : (d : Definition) (v : ValType) → IsTrue (is_below (length r.definitions) v) → StandsFor r.definitions v (final_type (whole r) v)
  stands-whole d v b =
      let all : front r (length r.definitions) ≡ whole r = ap (λ (ds : List Definition). parts_from room [] ds) (take_all (length r.definitions) r.definitions (omega arith)) in
      subst (λ (ps : List Parts). StandsFor r.definitions v (final_type ps v)) all (stand-all (length r.definitions) d (omega arith) v b)

  -- ---- what stands directly in a type that is no name

  module _ (d : Definition) where
    shape-own : (v : ValType) → IsTrue (is_below (length r.definitions) v) → IsTrue (is_end (whole r) v) → own_shape r.definitions v ≡ Some (shape_of (whole r) v)
    shape-own (val.Primitive p) b h = refl
    shape-own val.String b h = refl
    shape-own (val.Id t) b h =
        let l : t.0 < length r.definitions = ltb-true t.0 (length r.definitions) b in
        let at = parts-at r t.0 d l in
        let no_name : IsTrue (is_no_name (definition_parts room (front r t.0) (get_or r.definitions t.0 d))) = subst (λ (p : Parts). IsTrue (is_no_name p)) at h in
        ap (option_and_then definition_shape) (at-row t.0 d l)
        ∙ shape-made room (front r t.0) (get_or r.definitions t.0 d) no_name
        ∙ ap (λ (p : Parts). Some (shape_by p)) (sym at)

    member-own : (v : ValType) (i : ℕ) → IsTrue (is_below (length r.definitions) v) → own_member r.definitions v i ≡ option_map (λ f. f.ty) (field_info_of (whole r) v i)
    member-own (val.Primitive p) i b = refl
    member-own val.String i b = refl
    member-own (val.Id t) i b =
        let l : t.0 < length r.definitions = ltb-true t.0 (length r.definitions) b in
        ap (option_and_then (λ e. slice_get (definition_members e) i)) (at-row t.0 d l)
        ∙ member-made room (front r t.0) (get_or r.definitions t.0 d) i
        ∙ ap (λ (p : Parts). option_map (λ f. f.ty) (field_info_by p i)) (sym (parts-at r t.0 d l))

    case-own : (v : ValType) (i : ℕ) → IsTrue (is_below (length r.definitions) v) → own_case r.definitions v i ≡ option_map (λ c. c.payload) (case_info_of (whole r) v i)
    case-own (val.Primitive p) i b = refl
    case-own val.String i b = refl
    case-own (val.Id t) i b =
        let l : t.0 < length r.definitions = ltb-true t.0 (length r.definitions) b in
        ap (option_and_then (λ e. slice_get (definition_cases e) i)) (at-row t.0 d l)
        ∙ case-made room (front r t.0) (get_or r.definitions t.0 d) i
        ∙ ap (λ (p : Parts). option_map (λ c. c.payload) (case_info_by p i)) (sym (parts-at r t.0 d l))

  -- ---- answers of a made table

  here : (v : ValType) → IsTrue (is_below (length (layouts_of r).rows) v) → IsTrue (is_below (length r.definitions) v)
  here v b = subst (λ (n : ℕ). IsTrue (is_below n v)) (sym (count-rows r)) b

  stands : (v e : ValType) → IsEndOf (layouts_of r) v e → StandsFor r.definitions v e
  stands v e h = subst (StandsFor r.definitions v) (sym h.is) (stands-whole some_definition v (here v h.within))

  abbrev ShapeAnswer : LayoutTable → Type 0
  ShapeAnswer t = (v e : ValType) (s : Shape) → IsEndOf t v e → s ≡ shape_of t.parts e → OfNamed r v (λ w. own_shape r.definitions w ≡ Some s)

  shape-here : ShapeAnswer (layouts_of r)
  shape-here v e s h is = (e, (stands v e h, shape-own some_definition e (here e h.below) h.end ∙ ap (λ (x : Shape). Some x) (sym is)))

  pub own-shape : (t : LayoutTable) → t ≡ layouts_of r → ShapeAnswer t
  own-shape t same = subst ShapeAnswer (sym same) shape-here

  abbrev MemberAnswer : LayoutTable → Type 0
  MemberAnswer t = (v e : ValType) (i : ℕ) (x : Option FieldInfo) → IsEndOf t v e → x ≡ field_info_of t.parts e i → OfNamed r v (λ w. own_member r.definitions w i ≡ option_map (λ f. f.ty) x)

  member-here : MemberAnswer (layouts_of r)
  member-here v e i x h is = (e, (stands v e h, member-own some_definition e i (here e h.below) ∙ ap (option_map (λ f. f.ty)) (sym is)))

  pub own-member : (t : LayoutTable) → t ≡ layouts_of r → MemberAnswer t
  own-member t same = subst MemberAnswer (sym same) member-here

  abbrev CaseAnswer : LayoutTable → Type 0
  CaseAnswer t = (v e : ValType) (i : ℕ) (x : Option CaseInfo) → IsEndOf t v e → x ≡ case_info_of t.parts e i → OfNamed r v (λ w. own_case r.definitions w i ≡ option_map (λ c. c.payload) x)

  case-here : CaseAnswer (layouts_of r)
  case-here v e i x h is = (e, (stands v e h, case-own some_definition e i (here e h.below) ∙ ap (option_map (λ c. c.payload)) (sym is)))

  pub own-case : (t : LayoutTable) → t ≡ layouts_of r → CaseAnswer t
  own-case t same = subst CaseAnswer (sym same) case-here
