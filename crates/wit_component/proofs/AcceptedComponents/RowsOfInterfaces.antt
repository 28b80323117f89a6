-- Over the rows of an interface: its declarations have their indices in range.
use Rattle.std.proofs.Common.{◌≡◌, ◌⊎◌, ℕ, zero, suc, ◌+◌, ◌-◌, ◌<◌, ◌≤◌, Bool, true, false, cond, not, ◌==◌, List, [], ◌∷◌, ◌++◌, take, drop, length, slice_get, Option, None, Some, is_some, refl, sym, ap, subst, ◌∙◌, arith, inl, inr}
use Rattle.std.specs.List.{list_all}
use Rattle.std.proofs.lemmas.List.{length-append}
use Rattle.ctype_format.specs.View.{decls_of}
use Rattle.ctype_format.specs.Formed.{All}
use Rattle.ctype_bin.specs.InRange.{DeclsInRange}
use Rattle.tables.specs.Tables.{type_of, definition_below, are_earlier}
use Rattle.tables.specs.declared.tables.TypeDef.{TypeDef}
use Rattle.tables.specs.declared.tables.TypeDefKind.{TypeDefKind}
use Rattle.tables.specs.declared.tables.TypeDefKind.TheVariants as kind
use Rattle.tables.specs.declared.tables.TypeName.{TypeName}
use Rattle.tables.specs.declared.tables.Definition.{Definition}
use Rattle.tables.specs.declared.tables.Definition.TheVariants as row
use Rattle.package_form.specs.Postfix.{is_unnamed, one_if, is_inner}
use Rattle.package_form.specs.Ids.{is_use, places_where}
use Rattle.package_form.specs.References.{row_references}
use Rattle.wit_component.specs.Rows.{Place, place_after, declarations_of, places_after}
use Rattle.wit_component.specs.Component.{instance_export, row_alias, aliases_of}
use Rattle.package_form.specs.Reached.{name_of, used_by, name_at}
use Rattle.package_form.specs.Form.{is_own_name, is_own, is_earlier_name, is_earlier_type, uses_earlier, is_owned, is_local, is_named, is_use_type}
use Rattle.package_form.specs.Unused.{inner_rows, can_use, closes, is_next, unused_after, are_used}
use Rattle.package_form.proofs.LaterRowsChangeNothing.{row-before}
use Rattle.tables.proofs.ClosedTypesRowByRow.{split}
use Rattle.package_form.proofs.PostfixIsDecided.{ends, is-none}
use Rattle.wit_component.proofs.AcceptedComponents.DeclaredRows.{is_use_def, CanStand, IsKnown, row-range}
use Rattle.wit_component.proofs.AcceptedComponents.StatesBeforeRows.{State, closed-stands, own-name, row-known, state-next}

-- ---- a row that is a used name

-- the place behind the last of these, or start
abbrev pub behind : ℕ → List ℕ → ℕ
behind start [] = start
behind start (p ∷ ps) = behind (p + 1) ps

pub get-drop : (rows : List Definition) (n : ℕ) (d : Definition) (ds : List Definition) → drop n rows ≡ d ∷ ds → (slice_get rows n ≡ Some d) × (drop (suc n) rows ≡ ds)
get-drop [] zero d ds e = absurd (cc)
get-drop [] (suc n) d ds e = absurd (cc)
get-drop (x ∷ rows) zero d ds e = (let h : x ≡ d = cc in ap Some h, let h : rows ≡ ds = cc in h)
get-drop (x ∷ rows) (suc n) d ds e = get-drop rows n d ds e

-- its type is one of an earlier interface, which has a name
one-export : (k : ℕ) (o : Option TypeName) → is_earlier_name k o ≡ true → length (instance_export o) ≡ 1
one-export k None h = absurd (cc)
one-export k (Some m) h = refl

earlier-export : (k : ℕ) (o : Option TypeDef) → is_earlier_type k o ≡ true → length (instance_export (name_of o)) ≡ 1
earlier-export k None h = absurd (cc)
earlier-export k (Some d) h = one-export k d.name h

kind-alias : (rows : List Definition) (k : ℕ) (x : TypeDefKind) → is_use x ≡ true → uses_earlier rows k x ≡ true → length (instance_export (name_at rows (used_by x))) ≡ 1
kind-alias rows k (kind.Use t) is h = earlier-export k (type_of (slice_get rows t.0)) h
kind-alias rows k (kind.Alias v) is h = absurd (cc)
kind-alias rows k (kind.List v) is h = absurd (cc)
kind-alias rows k (kind.Option v) is h = absurd (cc)
kind-alias rows k (kind.Result v w) is h = absurd (cc)
kind-alias rows k (kind.Tuple vs) is h = absurd (cc)
kind-alias rows k (kind.Record fs) is h = absurd (cc)
kind-alias rows k (kind.Variant cs) is h = absurd (cc)
kind-alias rows k (kind.Enum ns) is h = absurd (cc)
kind-alias rows k (kind.Flags ns) is h = absurd (cc)

-- a used name has one alias in the component type
use-alias : (rows : List Definition) (k : ℕ) (d : Definition) → is_use_def d ≡ true → is_local rows k d ≡ true → length (row_alias rows d) ≡ 1
use-alias rows k (row.Type d) is local =
    let owned = (split (is_owned rows k (row.Type d)) (list_all (is_own rows k) (row_references (row.Type d))) local).0 in
    kind-alias rows k d.kind is (split (is_own_name k d.name) (uses_earlier rows k d.kind) owned).1
use-alias rows k (row.Function f) is local = absurd (cc)

kind-plain : (rows : List Definition) (x : TypeDefKind) → is_use x ≡ true → (inner_rows rows (row.Type (record { name = None; kind = x })) ≡ []) × (is_inner x ≡ false)
kind-plain rows (kind.Use t) is = (refl, refl)
kind-plain rows (kind.Alias v) is = absurd (cc)
kind-plain rows (kind.List v) is = absurd (cc)
kind-plain rows (kind.Option v) is = absurd (cc)
kind-plain rows (kind.Result v w) is = absurd (cc)
kind-plain rows (kind.Tuple vs) is = absurd (cc)
kind-plain rows (kind.Record fs) is = absurd (cc)
kind-plain rows (kind.Variant cs) is = absurd (cc)
kind-plain rows (kind.Enum ns) is = absurd (cc)
kind-plain rows (kind.Flags ns) is = absurd (cc)

-- it is made of no row
use-plain : (rows : List Definition) (d : Definition) → is_use_def d ≡ true → inner_rows rows d ≡ []
use-plain rows (row.Type d) is = (kind-plain rows d.kind is).0
use-plain rows (row.Function f) is = absurd (cc)

no-name : (o : Option TypeName) → not (is_some o) ≡ true → o ≡ None
no-name None h = refl
no-name (Some n) h = absurd (cc)

-- and it has a name
pub use-named : (d : Definition) → is_use_def d ≡ true → CanStand d → is_unnamed d ≡ true → ⊥
use-named (row.Type d) is stands none = let a = stands (no-name d.name none) in let b = (kind-plain [] d.kind is).1 in absurd (cc)
use-named (row.Function f) is stands none = absurd (cc)

pub named-closes : (d : Definition) (left : ℕ) → is_unnamed d ≡ false → closes d left ≡ true → left ≡ 0
named-closes (row.Type d) left named h = is-none left (subst (λ (b : Bool). cond b (is_inner d.kind) (left == 0) ≡ true) named h)
named-closes (row.Function f) left named h = is-none left h

-- ---- the walk

module _ (rows : List Definition) (k count : ℕ) where
  abbrev pub is_use_place : ℕ → Bool
  is_use_place n = is_use_type (type_of (slice_get rows n))

  use-here : (d : Definition) → is_use_type (type_of (Some d)) ≡ is_use_def d
  use-here (row.Type d) = refl
  use-here (row.Function f) = refl

  -- The uses stand first: none is left, or only they stood so far, or rows without names are to be used before the next name.
  abbrev pub Phase : Place → List ℕ → List ℕ → List Definition → Type 0
  Phase at unused uses ds = (uses ≡ []) ⊎ (((unused ≡ []) × (at.used + length (aliases_of rows ds) ≡ count)) ⊎ (0 < length unused))

  -- before rows ds of interface k, the first of which stands at place n; es are the rows of later interfaces
  pub record Walk (n : ℕ) (at : Place) (unused uses others : List ℕ) (last : ℕ) (ds es : List Definition) : Type 0 where
    pub here : drop n rows ≡ ds ++ es
    pub local : list_all (is_local rows k) ds ≡ true
    pub earlier : are_earlier n (ds ++ es) ≡ true
    pub used : are_used rows n unused (ds ++ es) ≡ true
    pub ids : uses ++ others ≡ places_where is_named n ds
    pub are_uses : list_all is_use_place uses ≡ true
    pub are_others : list_all (λ p. not (is_use_place p)) others ≡ true
    pub phase : Phase at unused uses ds
    pub last_before : last ≤ n
    pub last_whole : last ≡ n → unused ≡ []
    pub end : behind last (uses ++ others) ≡ n + length ds
    pub state : State rows k n at unused

  -- behind the rows
  pub record Walked (n : ℕ) (at : Place) (es : List Definition) : Type 0 where
    pub here : drop n rows ≡ es
    pub earlier : are_earlier n es ≡ true
    pub used : are_used rows n [] es ≡ true
    pub state : State rows k n at []

  -- what is known of the row, and the walk behind it
  pub record Step (n : ℕ) (at : Place) (unused : List ℕ) (d : Definition) (ds es : List Definition) : Type 0 where
    pub known : All (IsKnown at.indices at.types) (row_references d)
    pub alias : is_use_def d ≡ true → at.used < count
    pub uses : List ℕ
    pub others : List ℕ
    pub last : ℕ
    pub walk : Walk (n + 1) (place_after at d) (unused_after n unused (inner_rows rows d) d) uses others last ds es

  module _ (n : ℕ) (at : Place) (unused uses others : List ℕ) (last : ℕ) (d : Definition) (ds es : List Definition) (w : Walk n at unused uses others last (d ∷ ds) es) where
    abbrev inner : List ℕ
    inner = inner_rows rows d

    abbrev left : ℕ
    left = length unused - length inner

    abbrev after : List ℕ
    after = unused_after n unused inner d

    abbrev later : List ℕ
    later = places_where is_named (n + 1) ds

    here : (slice_get rows n ≡ Some d) × (drop (suc n) rows ≡ ds ++ es)
    here = get-drop rows n d (ds ++ es) w.here

    local : (is_local rows k d ≡ true) × (list_all (is_local rows k) ds ≡ true)
    local = split (is_local rows k d) (list_all (is_local rows k) ds) w.local

    -- its types are the interface's, and so is its name
    own : (list_all (is_own rows k) (row_references d) ≡ true) × ((m : TypeName) → name_of (type_of (Some d)) ≡ Some m → m.interface.0 ≡ k)
    own = let s = split (is_owned rows k d) (list_all (is_own rows k) (row_references d)) local.0 in (s.1, λ m e. own-name rows k d m s.0 e)

    earlier : (definition_below n d ≡ true) × (are_earlier (n + 1) (ds ++ es) ≡ true)
    earlier = split (definition_below n d) (are_earlier (n + 1) (ds ++ es)) w.earlier

    used : (is_next unused inner d ≡ true) × (are_used rows (n + 1) after (ds ++ es) ≡ true)
    used = split (is_next unused inner d) (are_used rows (n + 1) after (ds ++ es)) w.used

    cut : (unused ≡ take left unused ++ inner) × (closes d left ≡ true)
    cut = let s = split _ _ (split (can_use d inner) _ used.0).1 in (ends unused inner s.0, s.1)

    stands : CanStand d
    stands = closed-stands d left cut.1

    known : All (IsKnown at.indices at.types) (row_references d)
    known = row-known rows k n at unused w.state d here.0 own.0 own.1 stands (row-before n d earlier.0) cut.0

    use-at : is_use_place n ≡ is_use_def d
    use-at = ap (λ (o : Option Definition). is_use_type (type_of o)) here.0 ∙ use-here d

    onward : (us os : List ℕ) (last' : ℕ) → us ++ os ≡ later → list_all is_use_place us ≡ true → list_all (λ p. not (is_use_place p)) os ≡ true → Phase (place_after at d) after us ds
        → last' ≤ n + 1 → (last' ≡ n + 1 → after ≡ []) → behind last' (us ++ os) ≡ n + 1 + length ds → Walk (n + 1) (place_after at d) after us os last' ds es
    onward us os last' ids u o phase before whole end = record {
      here = let e : n + 1 ≡ suc n = omega arith in ap (λ m. drop m rows) e ∙ here.1;
      local = local.1;
      earlier = earlier.1;
      used = used.1;
      ids = ids;
      are_uses = u;
      are_others = o;
      phase = phase;
      last_before = before;
      last_whole = whole;
      end = end;
      state = state-next rows k n at unused w.state d here.0 own.0 own.1 stands cut.0;
    }

    -- ---- a row with a name

    module _ (named : is_unnamed d ≡ false) where
      none-left : left ≡ 0
      none-left = named-closes d left named cut.1

      none-after : after ≡ []
      none-after = ap (λ m. take m unused ++ one_if (is_unnamed d) n) none-left ∙ ap (λ b. one_if b n) named

      named-ids : uses ++ others ≡ n ∷ later
      named-ids = w.ids ∙ ap (λ (b : Bool). cond (not b) (n ∷ later) later) named

      count-on : behind last (n ∷ later) ≡ n + length (d ∷ ds) → behind (n + 1) later ≡ n + 1 + length ds
      count-on e = omega (arith, e)

      -- where nothing was unused, all rows so far were uses
      use-phase : (a : ℕ) (us : List ℕ) → Phase at unused (a ∷ us) (d ∷ ds) → is_use_def d ≡ true → at.used + length (aliases_of rows (d ∷ ds)) ≡ count
      use-phase a us (inl e) uses_it = absurd (cc)
      use-phase a us (inr (inl h)) uses_it = h.1
      use-phase a us (inr (inr lt)) uses_it =
          let none : length inner ≡ 0 = ap (λ (ns : List ℕ). length ns) (use-plain rows d uses_it) in
          absurd (omega (arith, none, lt, none-left))

      alias-count : is_use_def d ≡ true → length (aliases_of rows (d ∷ ds)) ≡ 1 + length (aliases_of rows ds)
      alias-count uses_it = let one = use-alias rows k d uses_it local.0 in omega (arith, one, length-append (row_alias rows d) (aliases_of rows ds))

      named-step : (us os : List ℕ) → us ++ os ≡ n ∷ later → list_all is_use_place us ≡ true → list_all (λ p. not (is_use_place p)) os ≡ true → Phase at unused us (d ∷ ds)
          → behind last (us ++ os) ≡ n + length (d ∷ ds) → Step n at unused d ds es
      named-step [] os ids u o phase end =
          let s = split (not (is_use_place n)) (list_all (λ p. not (is_use_place p)) later) (subst (λ (ps : List ℕ). list_all (λ p. not (is_use_place p)) ps ≡ true) ids o) in
          record {
            known = known;
            alias = λ uses_it. let here : is_use_place n ≡ true = use-at ∙ uses_it in let no : not true ≡ true = subst (λ (b : Bool). not b ≡ true) here s.0 in absurd (cc);
            uses = [];
            others = later;
            last = n + 1;
            walk = onward [] later (n + 1) refl refl s.1 (inl refl) (omega arith) (λ e. none-after) (count-on (sym (ap (behind last) ids) ∙ end));
          }
      named-step (a ∷ us) os ids u o phase end =
          let at_n : a ≡ n = cc in
          let rest : us ++ os ≡ later = cc in
          let s = split (is_use_place a) (list_all is_use_place us) u in
          let uses_it : is_use_def d ≡ true = sym use-at ∙ ap is_use_place (sym at_n) ∙ s.0 in
          let all : at.used + length (aliases_of rows (d ∷ ds)) ≡ count = use-phase a us phase uses_it in
          let more : length (aliases_of rows (d ∷ ds)) ≡ 1 + length (aliases_of rows ds) = alias-count uses_it in
          record {
            known = known;
            alias = λ uses_it. omega (arith, all, more);
            uses = us;
            others = os;
            last = n + 1;
            walk = onward us os (n + 1) rest s.1 o (inr (inl (none-after, omega (arith, all, more)))) (omega arith) (λ e. none-after)
                (ap (behind (n + 1)) rest ∙ count-on (sym (ap (behind last) ids) ∙ end));
          }

    -- ---- a row without a name

    unnamed-step : is_unnamed d ≡ true → Step n at unused d ds es
    unnamed-step unnamed =
        let ids : uses ++ others ≡ later = w.ids ∙ ap (λ (b : Bool). cond (not b) (n ∷ later) later) unnamed in
        let one : length (one_if (is_unnamed d) n) ≡ 1 = ap (λ (b : Bool). length (one_if b n)) unnamed in
        let more : 0 < length after = omega (arith, one, length-append (take left unused) (one_if (is_unnamed d) n)) in
        let before = w.last_before in
        let end = w.end in
        record {
          known = known;
          alias = λ uses_it. absurd (use-named d uses_it stands unnamed);
          uses = uses;
          others = others;
          last = last;
          walk = onward uses others last ids w.are_uses w.are_others (inr (inr more)) (omega (arith, before)) (λ e. absurd (omega (arith, before, e))) (omega (arith, end));
        }

    step : Step n at unused d ds es
    step = by (is_unnamed d) refl
      where
        by : (b : Bool) → is_unnamed d ≡ b → Step n at unused d ds es
        by true e = unnamed-step e
        by false e = named-step e uses others (named-ids e) w.are_uses w.are_others w.phase w.end

  pub walked : (ds es : List Definition) (n : ℕ) (at : Place) (unused uses others : List ℕ) (last : ℕ) → Walk n at unused uses others last ds es
      → DeclsInRange (0 ∷ count ∷ []) at.types 0 (decls_of (declarations_of at ds)) × Walked (n + length ds) (places_after at ds) es
  unfolding DeclsInRange
  walked [] es n at unused uses others last w =
      let end : last ≡ n + 0 = ap (behind last) (sym w.ids) ∙ w.end in
      let none : unused ≡ [] = w.last_whole (omega (arith, end)) in
      let same : n ≡ n + 0 = omega arith in (
        tt,
        subst (λ (m : ℕ). Walked m at es) same (record {
          here = w.here;
          earlier = w.earlier;
          used = subst (λ (ns : List ℕ). are_used rows n ns es ≡ true) none w.used;
          state = subst (λ (ns : List ℕ). State rows k n at ns) none w.state;
        }),
      )
  walked (d ∷ ds) es n at unused uses others last w =
      let s = step n at unused uses others last d ds es w in
      let rest = walked ds es (n + 1) (place_after at d) (unused_after n unused (inner_rows rows d) d) s.uses s.others s.last s.walk in
      let same : n + 1 + length ds ≡ n + length (d ∷ ds) = omega arith in
      (row-range count 0 at d (declarations_of (place_after at d) ds) s.known s.alias rest.0, subst (λ (m : ℕ). Walked m (places_after (place_after at d) ds) es) same rest.1)
