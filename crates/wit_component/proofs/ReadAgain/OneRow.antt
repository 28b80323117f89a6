-- One row's declarations, read again.
use Rattle.std.proofs.Common.{◌≡◌, ℕ, zero, suc, ◌+◌, ◌<◌, Bool, true, false, cond, List, [], ◌∷◌, ◌++◌, length, flat_map, slice_get, slice_index, Option, None, Some, refl, ap, sym, subst, ◌∙◌, append-nil, eq-eqb, ne_eqb, arith}
use Rattle.std.specs.List.{list_all}
use Rattle.std.specs.Option.{option_map}
use Rattle.std.proofs.lemmas.List.Folds.{list_all-append}
use Rattle.atoms.specs.Label.{is_label}
use Rattle.ctype_format.specs.Raw.{Defined, Define, Func, Decl, Entry, Export, none}
use Rattle.ctype_format.specs.View.{decls_of}
use Rattle.ctype_format.specs.declared.raw.RawDescription.TheVariants as described
use Rattle.package_form.specs.Postfix.{is_unnamed_row, is_inner, inner_row}
use Rattle.package_form.specs.Ids.{type_id, function_id}
use Rattle.tables.specs.declared.tables.TypeId.{TypeId}
use Rattle.tables.specs.declared.tables.ValType.{ValType}
use Rattle.tables.specs.declared.tables.ValType.TheVariants as val
use Rattle.tables.specs.declared.tables.TypeDefKind.{TypeDefKind}
use Rattle.tables.specs.declared.tables.TypeDefKind.TheVariants as kind
use Rattle.tables.specs.declared.tables.TypeName.{TypeName}
use Rattle.tables.specs.declared.tables.Parameter.{Parameter}
use Rattle.tables.specs.declared.tables.Owner.TheVariants as owner
use Rattle.tables.specs.declared.tables.Function.{Function}
use Rattle.tables.specs.declared.tables.Definition.{Definition}
use Rattle.tables.specs.declared.tables.Definition.TheVariants as definition
use Rattle.component_reader.specs.Instance.{if_found, AType, AFunction, InstanceRead, awaiting, with_unnamed, settled, settled_as, named_row, with_named, with_index, alias_to, renamed, type_exported, exported_read, function_row, defined_read, decl_read, decls_read}
use Rattle.component_reader.specs.Types.{both_found, row_at, optional_type, kind_defined}
use Rattle.package_form.specs.References.{parameter_references, references_if, kind_references, row_references}
use Rattle.package_form.specs.Reached.{name_at}
use Rattle.wit_component.specs.Rows.{Place, valtype_of, signature_of, definition_declared, definition_index, definition_if, defined_of, outer_alias, row_declarations, defined_types, place_after}
use Rattle.wit_component.proofs.AlikeRows.{IsAlike, same, uses}
use Rattle.wit_component.proofs.ReadAgain.KeptAfterOneRow.{unnamed-kept, defined-kept, renamed-kept, function-kept}
use Rattle.tables.proofs.ClosedTypesRowByRow.{split}
use Rattle.wit_component.proofs.ReadAgain.ReadableRows.{is_inside, IsReadable, inner, defines, renames, used, function, definition_indexed, row_after, with_function, IsRowOf, nameless, type_of_it, function_of_it, IsSettled, rests, awaits, HasRead}
use Rattle.wit_component.proofs.ReadAgain.TypesOfRows.{is_defined, kind-reread, parameters-reread, if-reread}

pub inner-defined : (what : TypeDefKind) → is_inner what ≡ true → is_defined what ≡ true
inner-defined (kind.Use t) h = absurd (cc)
inner-defined (kind.Alias v) h = absurd (cc)
inner-defined _ h = refl

defined-index : (at : Place) (what : TypeDefKind) → is_defined what ≡ true → definition_index at what ≡ at.types
defined-index at (kind.Alias (val.Id t)) h = absurd (cc)
defined-index at _ h = refl

defined-one : (what : TypeDefKind) → is_defined what ≡ true → defined_types what ≡ 1
defined-one (kind.Alias (val.Id t)) h = absurd (cc)
defined-one _ h = refl

pub indexed-defined : (what : TypeDefKind) → is_defined what ≡ true → (s : InstanceRead) → definition_indexed what s ≡ with_index s
indexed-defined (kind.Alias (val.Id t)) h s = absurd (cc)
indexed-defined _ h s = refl

defined-alone : (at : Place) (what : TypeDefKind) (d : Defined) → is_defined what ≡ true → defined_of at.indices what ≡ Some d → definition_declared at what ≡ Entry (Define d) ∷ []
defined-alone at (kind.Use t) d h e = absurd (cc)
defined-alone at _ d h e = ap definition_if e

pub settled-is : (table : List Definition) (s s1 : InstanceRead) → IsSettled table s s1 → settled s ≡ Some s1
settled-is table _ _ (rests s e) = ap (settled_as s) e
settled-is table _ _ (awaits s what e) = refl

row-at-end : (xs : List (Option TypeId)) (t : TypeId) (i : ℕ) → i ≡ length xs → row_at (xs ++ Some t ∷ []) i ≡ Some t
row-at-end [] t zero e = refl
row-at-end [] t (suc i) e = absurd (omega arith)
row-at-end (x ∷ xs) t zero e = absurd (omega arith)
row-at-end (x ∷ xs) t (suc i) e = row-at-end xs t i (omega arith)

-- a function's signature, of an interface or of a world
pub signature-read : (table : List Definition) (start k : ℕ) (at : Place) (s s1 : InstanceRead) → IsSettled table s s1 → HasRead table start k at s1 → (f : Function)
    → list_all (is_inside table start (length at.indices)) (row_references (definition.Function f)) ≡ true
    → if_found (settled s) (defined_read (Func (signature_of at.indices f))) ≡ Some (awaiting s1 (AFunction f.params f.result))
signature-read table start k at s s1 settles has f refs =
    let p = is_inside table start (length at.indices) in
    let both = split (list_all p (flat_map parameter_references f.params)) (list_all p (references_if f.result)) (sym (list_all-append p (flat_map parameter_references f.params) (references_if f.result)) ∙ refs) in
    ap (λ (o : Option InstanceRead). if_found o (defined_read (Func (signature_of at.indices f)))) (settled-is table s s1 settles)
    ∙ ap (λ (o : Option (List Parameter)). option_map (awaiting s1) (both_found AFunction o (optional_type s1.indices (option_map (valtype_of at.indices) f.result)))) (parameters-reread at.indices s1.indices p has.known f.params both.0)
    ∙ ap (λ (o : Option (Option ValType)). option_map (awaiting s1) (both_found AFunction (Some f.params) o)) (if-reread at.indices s1.indices p has.known f.result both.1)

module _ (table : List Definition) (around : List (Option TypeId)) (start k : ℕ) where
  -- one declaration, and two
  one-read : (d : Decl) (s s2 : InstanceRead) → decl_read around k d s ≡ Some s2 → decls_read around k (decls_of (d ∷ [])) s ≡ Some s2
  one-read d s s2 e = ap (λ (o : Option InstanceRead). if_found o (decls_read around k none)) e

  two-read : (d e : Decl) (s s2 s3 : InstanceRead) → decl_read around k d s ≡ Some s2 → decl_read around k e s2 ≡ Some s3
      → decls_read around k (decls_of (d ∷ e ∷ [])) s ≡ Some s3
  two-read d e s s2 s3 p q = ap (λ (o : Option InstanceRead). if_found o (decls_read around k (decls_of (e ∷ [])))) p ∙ one-read e s2 s3 q

  define-read : (d : Defined) (what : TypeDefKind) (s s1 : InstanceRead) → settled s ≡ Some s1 → kind_defined s1.indices d ≡ Some what
      → decl_read around k (Entry (Define d)) s ≡ Some (awaiting s1 (AType what))
  define-read d what s s1 e q =
      ap (λ (o : Option InstanceRead). if_found o (λ (s : InstanceRead). option_map (λ what. awaiting s (AType what)) (kind_defined s.indices d))) e
      ∙ ap (option_map (λ (what : TypeDefKind). awaiting s1 (AType what))) q

  -- the export of what was defined last
  export-read : (x : List ℕ) (what : TypeDefKind) (i : ℕ) (s : InstanceRead) → is_label x ≡ true → i ≡ length s.indices
      → decl_read around k (Export x (described.TypeEqual i)) (awaiting s (AType what)) ≡ Some (with_named k x what (with_index s))
  export-read x what i s label e =
      ap (λ (b : Bool). cond b (exported_read k x (described.TypeEqual i) (awaiting s (AType what))) None) label
      ∙ ap (λ (b : Bool). cond b (Some (with_named k x what (with_index s))) (renamed k x i (with_unnamed s what))) (eq-eqb i (length s.indices) e)

  renamed-read : (x : List ℕ) (t : TypeId) (i : ℕ) (s s1 : InstanceRead) → IsSettled table s s1 → is_label x ≡ true
      → row_at s1.indices i ≡ Some t → is_unnamed_row (slice_get table t.0) ≡ false
      → decl_read around k (Export x (described.TypeEqual i)) s ≡ Some (with_named k x (alias_to t) s1)
  renamed-read x t i _ _ (rests s e) label found named =
      ap (λ (b : Bool). cond b (exported_read k x (described.TypeEqual i) s) None) label
      ∙ ap (type_exported k x i s) e
      ∙ ap (option_map (λ (t : TypeId). with_named k x (alias_to t) s)) found
  renamed-read x t i _ _ (awaits s what e) label found named =
      ap (λ (b : Bool). cond b (exported_read k x (described.TypeEqual i) (awaiting s (AType what))) None) label
      ∙ ap (λ (b : Bool). cond b (Some (with_named k x what (with_index s))) (renamed k x i (with_unnamed s what))) (ne_eqb i (length s.indices) other)
      ∙ ap (option_map (λ (t : TypeId). with_named k x (alias_to t) (with_unnamed s what))) found
    where
      other : i ≡ length s.indices → ⊥
      other q =
          let last : Some t ≡ Some (type_id (length s.rows)) = sym found ∙ row-at-end s.indices (type_id (length s.rows)) i q in
          let is : t.0 ≡ length s.rows = ap (λ (o : Option TypeId). place o) last in
          let clash : true ≡ false = sym e ∙ ap (λ (n : ℕ). is_unnamed_row (slice_get table n)) (sym is) ∙ named in
          absurd (cc)
        where
          place : Option TypeId → ℕ
          place None = 0
          place (Some t) = t.0

  -- what is read of a row: it again, or a used name of another type of the same name
  pub record IsRowRead (at : Place) (s s1 : InstanceRead) (d : Definition) : Type 0 where
    pub row : Definition
    pub own : IsRowOf k row
    pub alike : IsAlike table (length at.indices) d row
    pub state : InstanceRead
    pub read : decls_read around k (decls_of (row_declarations at d)) s ≡ Some state
    pub settled : IsSettled table state (row_after k row s1)
    pub kept : HasRead table start k (place_after at d) (row_after k row s1)

  module _ (at : Place) (s s1 : InstanceRead) (settles : IsSettled table s s1) (has : HasRead table start k at s1) where
    inner-read : (what : TypeDefKind) → slice_get table (length at.indices) ≡ Some (inner_row what) → is_inner what ≡ true
        → list_all (is_inside table start (length at.indices)) (kind_references what) ≡ true → IsRowRead at s s1 (inner_row what)
    inner-read what here is refs =
        let p = kind-reread at.indices s1.indices (is_inside table start (length at.indices)) has.known what (inner-defined what is) refs in
        let alone : row_declarations at (inner_row what) ≡ Entry (Define p.0) ∷ [] =
        append-nil (definition_declared at what) ∙ defined-alone at what p.0 (inner-defined what is) p.1 in
        record {
          row = inner_row what;
          own = nameless what is;
          alike = same (inner_row what);
          state = awaiting s1 (AType what);
          read = ap (λ ds. decls_read around k (decls_of ds) s) alone ∙ one-read (Entry (Define p.0)) s (awaiting s1 (AType what)) (define-read p.0 what s s1 (settled-is table s s1 settles) p.2);
          settled = awaits s1 what (ap (λ n. is_unnamed_row (slice_get table n)) has.rows ∙ ap is_unnamed_row here);
          kept = unnamed-kept table start k at s1 has what (ap (λ n. n + 0) (defined-one what (inner-defined what is))) here;
        }

    defines-read : (x : List ℕ) (what : TypeDefKind) → slice_get table (length at.indices) ≡ Some (named_row k x what) → is_label x ≡ true → is_defined what ≡ true
        → list_all (is_inside table start (length at.indices)) (kind_references what) ≡ true → IsRowRead at s s1 (named_row k x what)
    defines-read x what here label is refs =
        let p = kind-reread at.indices s1.indices (is_inside table start (length at.indices)) has.known what is refs in
        let index : definition_index at what ≡ length s1.indices = defined-index at what is ∙ sym has.types in
        let alone : row_declarations at (named_row k x what) ≡ Entry (Define p.0) ∷ Export x (described.TypeEqual (definition_index at what)) ∷ [] =
        ap (λ ds. ds ++ Export x (described.TypeEqual (definition_index at what)) ∷ []) (defined-alone at what p.0 is p.1) in
        record {
          row = named_row k x what;
          own = type_of_it x what;
          alike = same (named_row k x what);
          state = with_named k x what (with_index s1);
          read = ap (λ ds. decls_read around k (decls_of ds) s) alone
              ∙ two-read (Entry (Define p.0)) (Export x (described.TypeEqual (definition_index at what))) s (awaiting s1 (AType what)) (with_named k x what (with_index s1))
              (define-read p.0 what s s1 (settled-is table s s1 settles) p.2) (export-read x what (definition_index at what) s1 label index);
          settled = subst (λ s2. IsSettled table (with_named k x what (with_index s1)) (with_named k x what s2)) (sym (indexed-defined what is s1))
              (rests (with_named k x what (with_index s1)) refl);
          kept = subst (λ s2. HasRead table start k (place_after at (named_row k x what)) (with_named k x what s2)) (sym (indexed-defined what is s1))
              (defined-kept table start k at s1 has x what (defined-one what is) here what);
        }

    renames-read : (x : List ℕ) (t : TypeId) → slice_get table (length at.indices) ≡ Some (named_row k x (alias_to t)) → is_label x ≡ true → is_inside table start (length at.indices) t ≡ true → is_unnamed_row (slice_get table t.0) ≡ false
        → IsRowRead at s s1 (named_row k x (alias_to t))
    renames-read x t here label inside named = record {
      row = named_row k x (alias_to t);
      own = type_of_it x (alias_to t);
      alike = same (named_row k x (alias_to t));
      state = with_named k x (alias_to t) s1;
      read = one-read (Export x (described.TypeEqual (slice_index at.indices t.0))) s (with_named k x (alias_to t) s1)
          (renamed-read x t (slice_index at.indices t.0) s s1 settles label (has.known t inside) named);
      settled = rests (with_named k x (alias_to t) s1) refl;
      kept = renamed-kept table start k at s1 has x t here;
    }

    used-read : (x : List ℕ) (t u : TypeId) (y : TypeName) → slice_get table (length at.indices) ≡ Some (named_row k x (kind.Use t)) → is_label x ≡ true → row_at around at.used ≡ Some u
        → name_at table (Some t) ≡ Some y → name_at table (Some u) ≡ Some y → u.0 < start → IsRowRead at s s1 (named_row k x (kind.Use t))
    used-read x t u y here label found named other below = record {
      row = named_row k x (kind.Use u);
      own = type_of_it x (kind.Use u);
      alike = uses (Some (record { interface = record { 0 = k }; name = x })) t u y named other (omega (arith, has.begins));
      state = with_named k x (kind.Use u) (with_index s1);
      read = two-read (outer_alias at.used) (Export x (described.TypeEqual at.types)) s (awaiting s1 (AType (kind.Use u))) (with_named k x (kind.Use u) (with_index s1))
          (ap (λ (o : Option InstanceRead). if_found o (λ (s : InstanceRead). option_map (λ t. awaiting s (AType (kind.Use t))) (row_at around at.used))) (settled-is table s s1 settles)
          ∙ ap (option_map (λ (t : TypeId). awaiting s1 (AType (kind.Use t)))) found)
          (export-read x (kind.Use u) at.types s1 label (sym has.types));
      settled = rests (with_named k x (kind.Use u) (with_index s1)) refl;
      kept = defined-kept table start k at s1 has x (kind.Use t) refl here (kind.Use u);
    }

    function-read : (x : List ℕ) (ps : List Parameter) (result : Option ValType) → slice_get table (length at.indices) ≡ Some (function_row k x ps result) → is_label x ≡ true
        → list_all (is_inside table start (length at.indices)) (row_references (function_row k x ps result)) ≡ true → IsRowRead at s s1 (function_row k x ps result)
    function-read x ps result here label refs =
        let f : Function = record { owner = owner.Interface (record { 0 = k }); name = x; params = ps; result = result } in
        record {
          row = function_row k x ps result;
          own = function_of_it x ps result;
          alike = same (function_row k x ps result);
          state = with_function k x ps result s1;
          read = two-read (Entry (Func (signature_of at.indices f))) (Export x (described.Function at.types)) s (awaiting s1 (AFunction ps result)) (with_function k x ps result s1)
              (signature-read table start k at s s1 settles has f refs)
              (ap (λ (b : Bool). cond b (Some (with_function k x ps result s1)) None) label);
          settled = rests (with_function k x ps result s1) refl;
          kept = function-kept table start k at s1 has f (s1.functions ++ function_id (length s1.rows) ∷ []) here;
        }

    pub row-read : (d : Definition) → slice_get table (length at.indices) ≡ Some d → IsReadable table around start k (length at.indices) at.used d → IsRowRead at s s1 d
    row-read _ here (inner what is refs) = inner-read what here is refs
    row-read _ here (defines x what label is refs) = defines-read x what here label is refs
    row-read _ here (renames x t label inside named) = renames-read x t here label inside named
    row-read _ here (used x t u y label found named other below) = used-read x t u y here label found named other below
    row-read _ here (function x ps result label refs) = function-read x ps result here label refs
