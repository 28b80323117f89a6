-- What rows mean that are kept: what they meant.
use Rattle.std.proofs.Common.{◌≡◌, ◌<◌, ◌⊎◌, inl, inr, ℕ, suc, ◌+◌, Bool, true, false, ◌&&◌, List, [], ◌∷◌, ◌++◌, length, map, get_or, if◌then◌else◌, nat_lt, Option, None, Some, refl, ap, sym, subst, ◌∙◌, arith, true≢false}
use Rattle.std.specs.Option.{option_map}
use Rattle.std.specs.List.{list_all, items_where_true}
use Rattle.std.proofs.lemmas.Bool.{ltb-true}
use Rattle.std.proofs.lemmas.List.{get_or_append_left, length_push}
use Rattle.std.proofs.Math.Seq.{get_or-append_seam}
use Rattle.tables.specs.Tables.{is_below, option_all, kind_all, definition_all}
use Rattle.tables.specs.Package.{Tree, TextTree, VariantTree, RecordTree, Plain, AsResult, IsUse, IsType, Meaning, Choices, no_choices, read_val, read_choice, read_tuple, read_fields, read_params, read_cases, read_kind, meaning_of, reference, reference_by, references, key_of, named_by, named_function, definition_of, definitions_from, Reference}
use Rattle.tables.proofs.ClosedTypesRowByRow.{split}
use Rattle.set_rows.specs.Places.{place}
use Rattle.tables.specs.Names.{owner_of}
use Rattle.set_rows.specs.Renamed.{renaming}
use Rattle.set_rows.specs.Moved.{put_val, put_field, put_case, put_parameter, put_kind, put_name, put_owner, put_row}
use Rattle.package_sets.specs.Restricted.{definitions_where}
use Rattle.set_rows.specs.declared.moved.Moved.{Moved}
use Rattle.set_rows.proofs.KeptElementsAndPlaces.{place-before, kept-none}
use Rattle.set_rows.proofs.PlacesOfMarked.{place-yes, place-no}
use Rattle.tables.specs.declared.tables.ValType.{ValType}
use Rattle.tables.specs.declared.tables.ValType.TheVariants as val
use Rattle.tables.specs.declared.tables.TypeDefKind.{TypeDefKind}
use Rattle.tables.specs.declared.tables.TypeDefKind.TheVariants as kind
use Rattle.tables.specs.declared.tables.TypeName.{TypeName}
use Rattle.tables.specs.declared.tables.Parameter.{Parameter}
use Rattle.tables.specs.declared.tables.Field.{Field}
use Rattle.tables.specs.declared.tables.Case.{Case}
use Rattle.tables.specs.declared.tables.Owner.{Owner}
use Rattle.tables.specs.declared.tables.Owner.TheVariants as owner
use Rattle.tables.specs.declared.tables.Definition.{Definition}
use Rattle.tables.specs.declared.tables.Definition.TheVariants as row

-- the type stands before place n, in a row that is kept
abbrev pub is_there : List Bool → ValType → Bool
is_there bs (val.Primitive p) = true
is_there bs val.String = true
is_there bs (val.Id t) = get_or bs t.0 false

abbrev pub is_kept : List Bool → ℕ → ValType → Bool
is_kept bs n v = is_below n v && is_there bs v

-- what rows have that are kept is what they have at their places there
pub record AgreesOr {A : Type 0} (other : A) (bs : List Bool) (old new : List A) : Type 0 where
  pub count : length new ≡ place bs (length old)
  pub same : (t : ℕ) → t < length old → get_or bs t false ≡ true → get_or new (place bs t) other ≡ get_or old t other

-- .. of trees
abbrev pub Agrees : List Bool → List Tree → List Tree → Type 0
Agrees bs old new = AgreesOr TextTree bs old new

module _ (to : Moved) (old new : List Tree) (a : Agrees to.rows old new) where
  val-same : (v : ValType) → is_kept to.rows (length old) v ≡ true → read_val new (put_val (renaming to) v) ≡ read_val old v
  val-same (val.Primitive p) h = refl
  val-same val.String h = refl
  val-same (val.Id t) h = let p = split (nat_lt t.0 (length old)) (get_or to.rows t.0 false) h in a.same t.0 (ltb-true t.0 (length old) p.0) p.1

  choice-same : (label : List ℕ) (v : Option ValType) (cs ds : Choices) → option_all (is_kept to.rows (length old)) v ≡ true → cs ≡ ds
      → read_choice new label (option_map (put_val (renaming to)) v) cs ≡ read_choice old label v ds
  choice-same label None cs ds h e = let x = e in cc
  choice-same label (Some v) cs ds h e = let x = val-same v h in let y = e in cc

  tuple-same : (vs : List ValType) → list_all (is_kept to.rows (length old)) vs ≡ true → read_tuple new (map (put_val (renaming to)) vs) ≡ read_tuple old vs
  tuple-same [] h = refl
  tuple-same (v ∷ vs) h = let t = split (is_kept to.rows (length old) v) (list_all (is_kept to.rows (length old)) vs) h in let x = val-same v t.0 in let y = tuple-same vs t.1 in cc

  fields-same : (fs : List Field) → list_all (λ f. is_kept to.rows (length old) f.ty) fs ≡ true → read_fields new (map (put_field (renaming to)) fs) ≡ read_fields old fs
  fields-same [] h = refl
  fields-same (f ∷ fs) h = let t = split (is_kept to.rows (length old) f.ty) (list_all (λ f. is_kept to.rows (length old) f.ty) fs) h in let x = val-same f.ty t.0 in let y = fields-same fs t.1 in cc

  pub params-same : (fs : List Parameter) → list_all (λ f. is_kept to.rows (length old) f.ty) fs ≡ true → read_params new (map (put_parameter (renaming to)) fs) ≡ read_params old fs
  params-same [] h = refl
  params-same (f ∷ fs) h = let t = split (is_kept to.rows (length old) f.ty) (list_all (λ f. is_kept to.rows (length old) f.ty) fs) h in let x = val-same f.ty t.0 in let y = params-same fs t.1 in cc

  cases-same : (cs : List Case) → list_all (λ c. option_all (is_kept to.rows (length old)) c.ty) cs ≡ true → read_cases new (map (put_case (renaming to)) cs) ≡ read_cases old cs
  cases-same [] h = refl
  cases-same (c ∷ cs) h =
      let t = split (option_all (is_kept to.rows (length old)) c.ty) (list_all (λ c. option_all (is_kept to.rows (length old)) c.ty) cs) h in
      choice-same c.name c.ty _ _ t.0 (cases-same cs t.1)

  kind-same : (k : TypeDefKind) → kind_all (is_kept to.rows (length old)) k ≡ true → read_kind new (put_kind (renaming to) k) ≡ read_kind old k
  kind-same (kind.Use t) h = val-same (val.Id t) h
  kind-same (kind.Alias v) h = val-same v h
  kind-same (kind.List v) h = let x = val-same v h in cc
  kind-same (kind.Option v) h = let x = val-same v h in cc
  kind-same (kind.Result ok error) h =
      let t = split (option_all (is_kept to.rows (length old)) ok) (option_all (is_kept to.rows (length old)) error) h in
      ap (VariantTree AsResult) (choice-same _ ok _ _ t.0 (choice-same _ error no_choices no_choices t.1 refl))
  kind-same (kind.Tuple vs) h = let x = tuple-same vs h in cc
  kind-same (kind.Record fs) h = let x = fields-same fs h in cc
  kind-same (kind.Variant cs) h = let x = cases-same cs h in cc
  kind-same (kind.Enum names) h = refl
  kind-same (kind.Flags names) h = refl

  meaning-same : (k : TypeDefKind) → kind_all (is_kept to.rows (length old)) k ≡ true → meaning_of new (put_kind (renaming to) k) ≡ meaning_of old k
  meaning-same (kind.Use t) h = ap IsUse (val-same (val.Id t) h)
  meaning-same (kind.Alias v) h = ap IsType (kind-same (kind.Alias v) h)
  meaning-same (kind.List v) h = ap IsType (kind-same (kind.List v) h)
  meaning-same (kind.Option v) h = ap IsType (kind-same (kind.Option v) h)
  meaning-same (kind.Result ok error) h = ap IsType (kind-same (kind.Result ok error) h)
  meaning-same (kind.Tuple vs) h = ap IsType (kind-same (kind.Tuple vs) h)
  meaning-same (kind.Record fs) h = ap IsType (kind-same (kind.Record fs) h)
  meaning-same (kind.Variant cs) h = ap IsType (kind-same (kind.Variant cs) h)
  meaning-same (kind.Enum names) h = refl
  meaning-same (kind.Flags names) h = refl

  pub result-same : (v : Option ValType) → option_all (is_kept to.rows (length old)) v ≡ true → option_map (read_val new) (option_map (put_val (renaming to)) v) ≡ option_map (read_val old) v
  result-same None h = refl
  result-same (Some v) h = ap Some (val-same v h)

-- an interface that is kept, or that isn't there, has its name there
abbrev pub NamesAgree : (Option Owner → Bool) → Moved → List (List ℕ) → List (List ℕ) → Type 0
NamesAgree has to ns ms = (i : ℕ) → has (Some (owner.Interface (record { 0 = i }))) ≡ true → get_or ms (place to.interfaces i) [] ≡ get_or ns i []

module _ (has : Option Owner → Bool) (to : Moved) (ns ms : List (List ℕ)) (old new : List Tree) (e : NamesAgree has to ns ms) (a : Agrees to.rows old new) where
  key-same : (n : TypeName) → has (Some (owner.Interface n.interface)) ≡ true → key_of ms (put_name (renaming to) n) ≡ key_of ns n
  key-same n h = ap (λ (i : List ℕ). record { interface = i; name = n.name }) (e n.interface.0 h)

  reference-by-same : (n : Option TypeName) (s t : Tree) → has (option_map (λ x. owner.Interface x.interface) n) ≡ true → s ≡ t → reference_by ms (option_map (put_name (renaming to)) n) s ≡ reference_by ns n t
  reference-by-same None s t h q = q
  reference-by-same (Some n) s t h q = ap Reference (key-same n h)

  pub reference-same : (d : Definition) → has (owner_of d) ≡ true → definition_all (is_kept to.rows (length old)) d ≡ true → reference ms new (put_row (renaming to) d) ≡ reference ns old d
  reference-same (row.Type d) o h = reference-by-same d.name _ _ o (kind-same to old new a d.kind h)
  reference-same (row.Function f) o h =
      ap (RecordTree Plain) (params-same to old new a f.params (split (list_all (λ q. is_kept to.rows (length old) q.ty) f.params) (option_all (is_kept to.rows (length old)) f.result) h).0)

  named-same : (n : Option TypeName) (k : TypeDefKind) → has (option_map (λ x. owner.Interface x.interface) n) ≡ true → meaning_of new (put_kind (renaming to) k) ≡ meaning_of old k
      → named_by ms new (option_map (put_name (renaming to)) n) (put_kind (renaming to) k) ≡ named_by ns old n k
  named-same None k h m = refl
  named-same (Some n) k h m = let x = key-same n h in let y = m in cc

  function-same : (o : Owner) (name : List ℕ) (x y : Meaning) → has (Some o) ≡ true → x ≡ y → named_function ms (put_owner (renaming to) o) name x ≡ named_function ns o name y
  function-same (owner.World w) name x y h q = refl
  function-same (owner.Interface i) name x y h q = let p = e i.0 h in let z = q in cc

  pub definition-same : (d : Definition) → has (owner_of d) ≡ true → definition_all (is_kept to.rows (length old)) d ≡ true → definition_of ms new (put_row (renaming to) d) ≡ definition_of ns old d
  definition-same (row.Type d) o h = named-same d.name d.kind o (meaning-same to old new a d.kind h)
  definition-same (row.Function f) o h =
      let t = split (list_all (λ q. is_kept to.rows (length old) q.ty) f.params) (option_all (is_kept to.rows (length old)) f.result) h in
      let y = params-same to old new a f.params t.0 in
      let z = result-same to old new a f.result t.1 in
      function-same f.owner f.name _ _ o (cc)

-- one more row, kept or not
pub agrees-kept : {A : Type 0} (other : A) (bs : List Bool) (old new : List A) (x y : A) → AgreesOr other bs old new → get_or bs (length old) false ≡ true → y ≡ x → AgreesOr other bs (old ++ x ∷ []) (new ++ y ∷ [])
agrees-kept other bs old new x y a h e = record {
  count = length_push new y ∙ (ap (λ n. n + 1) a.count ∙ (sym (place-yes bs (length old) h) ∙ ap (place bs) (sym (length_push old x ∙ omega arith))));
  same = λ t l k. keep t (cases t l) k;
}
  where
    cases : (t : ℕ) → t < length (old ++ x ∷ []) → (t < length old) ⊎ (t ≡ length old)
    cases t l = grind (arith, l, length_push old x)

    keep : (t : ℕ) → (t < length old) ⊎ (t ≡ length old) → get_or bs t false ≡ true → get_or (new ++ y ∷ []) (place bs t) other ≡ get_or (old ++ x ∷ []) t other
    keep t (inl l) k =
        let within : place bs t < length new = omega (arith, a.count, place-before bs t (length old) l k) in
        get_or_append_left new (y ∷ []) other (place bs t) within ∙ (a.same t l k ∙ sym (get_or_append_left old (x ∷ []) other t l))
    keep t (inr q) k =
        let here : place bs (length old) ≡ length new = sym a.count in
        ap (λ n. get_or (new ++ y ∷ []) (place bs n) other) q
        ∙ (ap (λ n. get_or (new ++ y ∷ []) n other) here ∙ (get_or-append_seam new y [] other ∙ (e ∙ (sym (get_or-append_seam old x [] other) ∙ ap (λ n. get_or (old ++ x ∷ []) n other) (sym q)))))

pub agrees-over : {A : Type 0} (other : A) (bs : List Bool) (old new : List A) (x : A) → AgreesOr other bs old new → get_or bs (length old) false ≡ false → AgreesOr other bs (old ++ x ∷ []) new
agrees-over other bs old new x a h = record {
  count = a.count ∙ (sym (place-no bs (length old) h) ∙ ap (place bs) (sym (length_push old x ∙ omega arith)));
  same = λ t l k. keep t (cases t l) k;
}
  where
    cases : (t : ℕ) → t < length (old ++ x ∷ []) → (t < length old) ⊎ (t ≡ length old)
    cases t l = grind (arith, l, length_push old x)

    keep : (t : ℕ) → (t < length old) ⊎ (t ≡ length old) → get_or bs t false ≡ true → get_or new (place bs t) other ≡ get_or (old ++ x ∷ []) t other
    keep t (inl l) k = a.same t l k ∙ sym (get_or_append_left old (x ∷ []) other t l)
    keep t (inr q) k = absurd (true≢false (sym k ∙ (ap (λ n. get_or bs n false) q ∙ h)))

-- the rows from here on: each that is kept is of an owner with the property and names rows that are kept; one that isn't, and has a name, is of
-- an owner without
pub record AreRight (has : Option Owner → Bool) (bs : List Bool) (n : ℕ) (d : Definition) : Type 0 where
  pub owned : get_or bs n false ≡ true → has (owner_of d) ≡ true
  pub named : get_or bs n false ≡ true → definition_all (is_kept bs n) d ≡ true
  pub without : get_or bs n false ≡ false → (has (owner_of d) ≡ false) ⊎ (owner_of d ≡ None)

pub nameless : (ns : List (List ℕ)) (ts : List Tree) (d : Definition) → owner_of d ≡ None → definition_of ns ts d ≡ []
nameless ns ts (row.Function f) e = absurd (cc)
nameless ns ts (row.Type d) e = by d.name refl
  where
    by : (n : Option TypeName) → d.name ≡ n → named_by ns ts d.name d.kind ≡ []
    by None q = rw q refl
    by (Some n) q = let z : option_map (λ x. owner.Interface x.interface) d.name ≡ None = e in absurd (some-not (sym (ap (option_map (λ x. owner.Interface x.interface)) q) ∙ z))
      where
        some-not : {A : Type 0} {x : A} → Some x ≡ None → ⊥
        some-not h = cc

skipped : (has : Option Owner → Bool) (ns : List (List ℕ)) (ts : List Tree) (d : Definition) → (has (owner_of d) ≡ false) ⊎ (owner_of d ≡ None)
    → (if has (owner_of d) then definition_of ns ts d else []) ≡ []
skipped has ns ts d (inl h) = rw h refl
skipped has ns ts d (inr h) = by (has (owner_of d)) refl
  where
    by : (b : Bool) → has (owner_of d) ≡ b → (if has (owner_of d) then definition_of ns ts d else []) ≡ []
    by true e = rw e (nameless ns ts d h)
    by false e = rw e refl

abbrev pub AllRight : (Option Owner → Bool) → List Bool → ℕ → List Definition → Type 0
AllRight has bs n [] = Unit {0}
AllRight has bs n (d ∷ ds) = AreRight has bs n d × AllRight has bs (n + 1) ds

taken : (has : Option Owner → Bool) (ns : List (List ℕ)) (ts : List Tree) (d : Definition) → has (owner_of d) ≡ true → (if has (owner_of d) then definition_of ns ts d else []) ≡ definition_of ns ts d
taken has ns ts d h = rw h refl

-- the marks from here on
abbrev pub AreMarksFrom : List Bool → ℕ → List Bool → Type 0
AreMarksFrom rows n bs = (k : ℕ) → get_or rows (n + k) false ≡ get_or bs k false

pub marks-here : (rows : List Bool) (n : ℕ) (b : Bool) (bs : List Bool) → AreMarksFrom rows n (b ∷ bs) → get_or rows n false ≡ b
marks-here rows n b bs m = ap (λ k. get_or rows k false) (omega arith) ∙ m 0

pub marks-next : (rows : List Bool) (n m : ℕ) (b : Bool) (bs : List Bool) → m ≡ n + 1 → AreMarksFrom rows n (b ∷ bs) → AreMarksFrom rows m bs
marks-next rows n m b bs e h = λ k. ap (λ j. get_or rows j false) (at k) ∙ h (suc k)
  where
    at : (k : ℕ) → m + k ≡ n + suc k
    at k = omega arith

-- what rows mean that are kept is what they meant
pub definitions-kept : (has : Option Owner → Bool) (to : Moved) (ns ms : List (List ℕ)) → NamesAgree has to ns ms → (bs : List Bool) (old new : List Tree) (ds : List Definition) → length bs ≡ length ds
    → Agrees to.rows old new → AreMarksFrom to.rows (length old) bs → AllRight has to.rows (length old) ds
    → definitions_from ms new (map (put_row (renaming to)) (items_where_true bs ds)) ≡ definitions_where has ns old ds
definitions-kept has to ns ms e bs old new [] count a marks right = ap (λ (xs : List Definition). definitions_from ms new (map (put_row (renaming to)) xs)) (kept-none bs)
definitions-kept has to ns ms e [] old new (d ∷ ds) count a marks right = absurd (omega (arith, count))
definitions-kept has to ns ms e (true ∷ bs) old new (d ∷ ds) count a marks right =
    let here = marks-here to.rows (length old) true bs marks in
    let x = reference ns old d in
    let y = reference ms new (put_row (renaming to) d) in
    let one = length_push old x in
    let same = reference-same has to ns ms old new e a d (right.0.owned here) (right.0.named here) in
    let rest = definitions-kept has to ns ms e bs (old ++ x ∷ []) (new ++ y ∷ []) ds (omega (arith, count)) (agrees-kept TextTree to.rows old new x y a here same)
    (marks-next to.rows (length old) (length (old ++ x ∷ [])) true bs one marks) (subst (λ n. AllRight has to.rows n ds) (sym one) right.1) in
    let first = definition-same has to ns ms old new e a d (right.0.owned here) (right.0.named here) in
    ap (λ ys. ys ++ definitions_from ms (new ++ y ∷ []) (map (put_row (renaming to)) (items_where_true bs ds))) (first ∙ sym (taken has ns old d (right.0.owned here)))
    ∙ ap (λ ys. (if has (owner_of d) then definition_of ns old d else []) ++ ys) rest
definitions-kept has to ns ms e (false ∷ bs) old new (d ∷ ds) count a marks right =
    let here = marks-here to.rows (length old) false bs marks in
    let x = reference ns old d in
    let one = length_push old x in
    let rest = definitions-kept has to ns ms e bs (old ++ x ∷ []) new ds (omega (arith, count)) (agrees-over TextTree to.rows old new x a here)
    (marks-next to.rows (length old) (length (old ++ x ∷ [])) false bs one marks) (subst (λ n. AllRight has to.rows n ds) (sym one) right.1) in
    rest ∙ ap (λ ys. ys ++ definitions_where has ns (old ++ x ∷ []) ds) (sym (skipped has ns old d (right.0.without here)))

-- .. and so are their trees
pub trees-kept : (has : Option Owner → Bool) (to : Moved) (ns ms : List (List ℕ)) → NamesAgree has to ns ms → (bs : List Bool) (old new : List Tree) (ds : List Definition) → length bs ≡ length ds
    → Agrees to.rows old new → AreMarksFrom to.rows (length old) bs → AllRight has to.rows (length old) ds
    → Agrees to.rows (references ns old ds) (references ms new (map (put_row (renaming to)) (items_where_true bs ds)))
trees-kept has to ns ms e bs old new [] count a marks right = subst (λ (xs : List Definition). Agrees to.rows old (references ms new (map (put_row (renaming to)) xs))) (sym (kept-none bs)) a
trees-kept has to ns ms e [] old new (d ∷ ds) count a marks right = absurd (omega (arith, count))
trees-kept has to ns ms e (true ∷ bs) old new (d ∷ ds) count a marks right =
    let here = marks-here to.rows (length old) true bs marks in
    let x = reference ns old d in
    let y = reference ms new (put_row (renaming to) d) in
    let one = length_push old x in
    let same = reference-same has to ns ms old new e a d (right.0.owned here) (right.0.named here) in
    trees-kept has to ns ms e bs (old ++ x ∷ []) (new ++ y ∷ []) ds (omega (arith, count)) (agrees-kept TextTree to.rows old new x y a here same)
    (marks-next to.rows (length old) (length (old ++ x ∷ [])) true bs one marks) (subst (λ n. AllRight has to.rows n ds) (sym one) right.1)
trees-kept has to ns ms e (false ∷ bs) old new (d ∷ ds) count a marks right =
    let here = marks-here to.rows (length old) false bs marks in
    let x = reference ns old d in
    let one = length_push old x in
    trees-kept has to ns ms e bs (old ++ x ∷ []) new ds (omega (arith, count)) (agrees-over TextTree to.rows old new x a here)
    (marks-next to.rows (length old) (length (old ++ x ∷ [])) false bs one marks) (subst (λ n. AllRight has to.rows n ds) (sym one) right.1)
