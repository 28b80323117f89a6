-- The closed types of rows that are kept are those that they were.
use Rattle.std.proofs.Common.{◌≡◌, ℕ, zero, suc, Bool, true, false, ◌&&◌, List, [], ◌∷◌, ◌++◌, length, map, get_or, slice_get, Option, None, Some, refl, ap, sym, subst, ◌∙◌, arith, true≢false, nat_lt}
use Rattle.std.specs.Prelude.{Contains, filter}
use Rattle.std.specs.Option.{option_map}
use Rattle.std.specs.List.{list_all, items_where_true}
use Rattle.std.proofs.lemmas.Bool.{ltb-true}
use Rattle.std.proofs.lemmas.List.{length_push}
use Rattle.std.proofs.lemmas.Option.{slice_get_within, slice_get-get_or, get_or_from_slice_get}
use Rattle.canonical_abi.specs.Types.{ClosedType, string_type, list_type, record_type, variant_type, fields_of, cases_of}
use Rattle.package_form.proofs.AllAndContains.{contains-unmap}
use Rattle.tables.specs.Tables.{option_all, kind_all, definition_all, function_of, is_there as is_some, is_function_id, is_placed, is_type_id}
use Rattle.tables.specs.Closed.{closed_val, closed_kind, closed_params, closed_definition, closed_rows, closed_types, function_at, type_of_function, function_type}
use Rattle.tables.specs.Names.{full_name, function_name, IsNamed}
use Rattle.tables.proofs.ClosedTypesRowByRow.{split, length-closed_rows}
use Rattle.tables.specs.declared.tables.FunctionId.{FunctionId}
use Rattle.tables.specs.declared.tables.ValType.{ValType}
use Rattle.tables.specs.declared.tables.ValType.TheVariants as val
use Rattle.tables.specs.declared.tables.TypeDefKind.{TypeDefKind}
use Rattle.tables.specs.declared.tables.TypeDefKind.TheVariants as kind
use Rattle.tables.specs.declared.tables.Function.{Function}
use Rattle.tables.specs.declared.tables.Definition.{Definition}
use Rattle.tables.specs.declared.tables.Definition.TheVariants as row
use Rattle.tables.specs.declared.tables.Interface.{Interface}
use Rattle.tables.specs.declared.tables.Resolve.{Resolve}
use Rattle.tables.specs.declared.tables.Owner.{Owner}
use Rattle.set_rows.specs.Places.{place}
use Rattle.set_rows.specs.Reaches.{is_marked}
use Rattle.set_rows.specs.Renamed.{renaming}
use Rattle.set_rows.specs.Moved.{put_val, put_field, put_case, put_parameter, put_kind, put_row, put_function, put_function_id, has_function, put_interface}
use Rattle.package_sets.specs.Part.{IsPart}
use Rattle.set_rows.specs.declared.moved.Moved.{Moved}
use Rattle.set_rows.proofs.KeptElementsAndPlaces.{kept-none, kept-at}
use Rattle.package_sets.proofs.KeptParts.PropertiesOfKept.{list-at}
use Rattle.set_rows.proofs.PlacesOfMarked.{place-none}
use Rattle.package_sets.proofs.KeptParts.KeptRowsKeepMeaning.{AgreesOr, agrees-kept, agrees-over, is_kept, AllRight, AreMarksFrom, marks-here, marks-next}
use Rattle.package_sets.proofs.KeptParts.KeptIsATable as table
use Rattle.package_sets.proofs.GrowingLists.{map-get}

abbrev ClosedAgrees : List Bool → List ClosedType → List ClosedType → Type 0
ClosedAgrees bs old new = AgreesOr string_type bs old new

list-as : {A B : Type 0} (put : A → A) (f : A → Bool) (g h : A → B) → ((x : A) → f x ≡ true → g (put x) ≡ h x) → (xs : List A) → list_all f xs ≡ true → map g (map put xs) ≡ map h xs
list-as put f g h one [] q = refl
list-as put f g h one (x ∷ xs) q = let p = split (f x) (list_all f xs) q in let e = one x p.0 in let r = list-as put f g h one xs p.1 in cc

module _ (to : Moved) (old new : List ClosedType) (a : AgreesOr string_type to.rows old new) where
  abbrev here : ValType → Bool
  here v = is_kept to.rows (length old) v

  val-closed : (v : ValType) → here v ≡ true → closed_val new (put_val (renaming to) v) ≡ closed_val old v
  val-closed (val.Primitive p) h = refl
  val-closed val.String h = refl
  val-closed (val.Id t) h = let p = split (nat_lt t.0 (length old)) (get_or to.rows t.0 false) h in a.same t.0 (ltb-true t.0 (length old) p.0) p.1

  pub option-closed : (v : Option ValType) → option_all here v ≡ true → option_map (closed_val new) (option_map (put_val (renaming to)) v) ≡ option_map (closed_val old) v
  option-closed None h = refl
  option-closed (Some v) h = ap Some (val-closed v h)

  kind-closed : (k : TypeDefKind) → kind_all here k ≡ true → closed_kind new (put_kind (renaming to) k) ≡ closed_kind old k
  kind-closed (kind.Use t) h = val-closed (val.Id t) h
  kind-closed (kind.Alias v) h = val-closed v h
  kind-closed (kind.List v) h = ap list_type (val-closed v h)
  kind-closed (kind.Option v) h = ap (λ t. variant_type (cases_of (None ∷ Some t ∷ []))) (val-closed v h)
  kind-closed (kind.Result ok error) h =
      let p = split (option_all here ok) (option_all here error) h in
      let x = option-closed ok p.0 in
      let y = option-closed error p.1 in
      ap (λ t. variant_type (cases_of (t ∷ option_map (closed_val new) (option_map (put_val (renaming to)) error) ∷ []))) x ∙ ap (λ t. variant_type (cases_of (option_map (closed_val old) ok ∷ t ∷ []))) y
  kind-closed (kind.Tuple vs) h = ap (λ ts. record_type (fields_of ts)) (list-as (put_val (renaming to)) here (closed_val new) (closed_val old) val-closed vs h)
  kind-closed (kind.Record fs) h =
      ap (λ ts. record_type (fields_of ts)) (list-as (put_field (renaming to)) (λ f. here f.ty) (λ f. closed_val new f.ty) (λ f. closed_val old f.ty) (λ f. val-closed f.ty) fs h)
  kind-closed (kind.Variant cs) h =
      ap (λ ts. variant_type (cases_of ts)) (list-as (put_case (renaming to)) (λ c. option_all here c.ty) (λ c. option_map (closed_val new) c.ty) (λ c. option_map (closed_val old) c.ty) (λ c. option-closed c.ty) cs h)
  kind-closed (kind.Enum names) h = refl
  kind-closed (kind.Flags names) h = refl

  pub params-closed : (f : Function) → list_all (λ q. here q.ty) f.params ≡ true → closed_params new (map (put_parameter (renaming to)) f.params) ≡ closed_params old f.params
  params-closed f h = list-as (put_parameter (renaming to)) (λ q. here q.ty) (λ q. closed_val new q.ty) (λ q. closed_val old q.ty) (λ q. val-closed q.ty) f.params h

  definition-closed : (d : Definition) → definition_all here d ≡ true → closed_definition new (put_row (renaming to) d) ≡ closed_definition old d
  definition-closed (row.Type d) h = kind-closed d.kind h
  definition-closed (row.Function f) h = ap (λ ts. record_type (fields_of ts)) (params-closed f (split (list_all (λ q. here q.ty) f.params) (option_all here f.result) h).0)

closed-kept : (has : Option Owner → Bool) (to : Moved) (bs : List Bool) (old new : List ClosedType) (ds : List Definition) → length bs ≡ length ds → ClosedAgrees to.rows old new
    → AreMarksFrom to.rows (length old) bs → AllRight has to.rows (length old) ds → ClosedAgrees to.rows (closed_rows old ds) (closed_rows new (map (put_row (renaming to)) (items_where_true bs ds)))
closed-kept has to bs old new [] count a marks right = subst (λ (xs : List Definition). ClosedAgrees to.rows old (closed_rows new (map (put_row (renaming to)) xs))) (sym (kept-none bs)) a
closed-kept has to [] old new (d ∷ ds) count a marks right = absurd (omega (arith, count))
closed-kept has to (true ∷ bs) old new (d ∷ ds) count a marks right =
    let here-is = marks-here to.rows (length old) true bs marks in
    let x = closed_definition old d in
    let y = closed_definition new (put_row (renaming to) d) in
    let one = length_push old x in
    let same = definition-closed to old new a d (right.0.named here-is) in
    closed-kept has to bs (old ++ x ∷ []) (new ++ y ∷ []) ds (omega (arith, count)) (agrees-kept string_type to.rows old new x y a here-is same)
    (marks-next to.rows (length old) (length (old ++ x ∷ [])) true bs one marks) (subst (λ n. AllRight has to.rows n ds) (sym one) right.1)
closed-kept has to (false ∷ bs) old new (d ∷ ds) count a marks right =
    let here-is = marks-here to.rows (length old) false bs marks in
    let x = closed_definition old d in
    let one = length_push old x in
    closed-kept has to bs (old ++ x ∷ []) new ds (omega (arith, count)) (agrees-over string_type to.rows old new x a here-is)
    (marks-next to.rows (length old) (length (old ++ x ∷ [])) false bs one marks) (subst (λ n. AllRight has to.rows n ds) (sym one) right.1)

-- an element that is kept stood among all, with a mark
pub kept-from : {A : Type 0} (bs : List Bool) (xs : List A) (x : A) → Contains (items_where_true bs xs) x → (k : ℕ) × (get_or bs k false ≡ true) × (slice_get xs k ≡ Some x)
kept-from [] xs x (k, h, e) = absurd (omega arith)
kept-from (b ∷ bs) [] x (k, h, e) = absurd (omega arith)
kept-from (true ∷ bs) (y ∷ xs) x (zero, h, e) = (0, refl, ap Some e)
kept-from (true ∷ bs) (y ∷ xs) x (suc k, h, e) = let r = kept-from bs xs x (k, omega (arith, h), e) in (suc r.0, r.1, r.2)
kept-from (false ∷ bs) (y ∷ xs) x c = let r = kept-from bs xs x c in (suc r.0, r.1, r.2)

pub contains-kept : {A : Type 0} (p : A → Bool) (xs : List A) (x : A) → Contains (filter p xs) x → Contains xs x × (p x ≡ true)
contains-kept p [] x (k, h, e) = absurd (omega arith)
contains-kept p (y ∷ xs) x c = by (p y) refl (λ d. contains-kept p xs x d)
  where
    later : Contains xs x × (p x ≡ true) → Contains (y ∷ xs) x × (p x ≡ true)
    later ((k, h, e), q) = ((suc k, omega (arith, h), e), q)

    by : (b : Bool) → p y ≡ b → (Contains (filter p xs) x → Contains xs x × (p x ≡ true)) → Contains (y ∷ xs) x × (p x ≡ true)
    by false e r = later (r (rw e at c))
    by true e r = first (rw e at c)
      where
        first : Contains (y ∷ filter p xs) x → Contains (y ∷ xs) x × (p x ≡ true)
        first (zero, h, q) = ((0, omega arith, q), ap p (sym q) ∙ e)
        first (suc k, h, q) = later (r (k, omega (arith, h), q))

-- an interface's function is a function of the table
functions-at : (ds : List Definition) (i : Interface) (f : FunctionId) → is_placed ds i ≡ true → Contains i.functions f → is_function_id ds f ≡ true
functions-at ds i f h (k, l, e) =
    let p = split (list_all (is_type_id ds) i.uses) (list_all (is_type_id ds) i.types && list_all (is_function_id ds) i.functions) h in
    let q = split (list_all (is_type_id ds) i.types) (list_all (is_function_id ds) i.functions) p.1 in
    list-at (is_function_id ds) i.functions k f q.1 (slice_get-get_or i.functions k f l ∙ ap Some e)

module _ (s : Resolve) (to : Moved) (n : IsPart s to) (r : Resolve) (is : r.interfaces ≡ map (put_interface (renaming to)) (items_where_true to.interfaces s.interfaces)) (ds : r.definitions ≡ map (put_row (renaming to)) (items_where_true to.rows s.definitions)) (names : (k : ℕ) (i : Interface) → get_or to.interfaces k false ≡ true → slice_get s.interfaces k ≡ Some i → full_name r (put_interface (renaming to) i) ≡ full_name s i) where
  closed-agrees : ClosedAgrees to.rows (closed_types s) (closed_types r)
  closed-agrees = subst (λ (xs : List Definition). ClosedAgrees to.rows (closed_types s) (closed_rows [] xs)) (sym ds)
      (closed-kept (is_marked n.marks) to to.rows [] [] s.definitions (table.count-rows s to n) (record { count = sym (place-none to.rows); same = λ t h. absurd (omega arith) })
      (λ k. ap (λ j. get_or to.rows j false) (omega arith)) (table.rights s to n))

  -- a function that is kept is there as it was
  at-there : (f : FunctionId) (g : Function) → slice_get s.definitions f.0 ≡ Some (row.Function g) → get_or to.rows f.0 false ≡ true → function_at r (put_function_id (renaming to) f) ≡ Some (put_function (renaming to) g)
  at-there f g d k =
      ap (λ (xs : List Definition). function_of (slice_get xs (place to.rows f.0))) ds
      ∙ ap function_of (map-get (put_row (renaming to)) (items_where_true to.rows s.definitions) (place to.rows f.0) (row.Function g) (kept-at to.rows s.definitions f.0 (row.Function g) k d))

  type-there : (f : FunctionId) (g : Function) → slice_get s.definitions f.0 ≡ Some (row.Function g) → get_or to.rows f.0 false ≡ true → function_type r (put_function_id (renaming to) f) ≡ function_type s f
  type-there f g d k =
      let count : length (closed_types s) ≡ length s.definitions = omega (arith, length-closed_rows [] s.definitions) in
      let all = table.kept-all s to n f.0 (length (closed_types s)) (row.Function g) (omega (arith, count, slice_get_within s.definitions f.0 (row.Function g) d)) d k in
      let p = split (list_all (λ q. is_kept to.rows (length (closed_types s)) q.ty) g.params) (option_all (is_kept to.rows (length (closed_types s))) g.result) all in
      let x = params-closed to (closed_types s) (closed_types r) closed-agrees g p.0 in
      let y = option-closed to (closed_types s) (closed_types r) closed-agrees g.result p.1 in
      let z = at-there f g d k in
      let w : function_at s f ≡ Some g = ap function_of d in
      ap (type_of_function (closed_types r)) z ∙ (record-same x y ∙ sym (ap (type_of_function (closed_types s)) w))
    where
      record-same : closed_params (closed_types r) (put_function (renaming to) g).params ≡ closed_params (closed_types s) g.params
          → option_map (closed_val (closed_types r)) (put_function (renaming to) g).result ≡ option_map (closed_val (closed_types s)) g.result
          → type_of_function (closed_types r) (Some (put_function (renaming to) g)) ≡ type_of_function (closed_types s) (Some g)
      record-same x y = cc

  -- what a name stands for in the answer it stands for in the set, with the same type
  pub functions-same : (iface name : List ℕ) (f : FunctionId) → IsNamed r iface name f → (g : FunctionId) × IsNamed s iface name g × (function_type r f ≡ function_type s g)
  functions-same iface name f (i, c, e, (d, h)) =
      let u = contains-unmap (put_interface (renaming to)) (items_where_true to.interfaces s.interfaces) i (subst (λ (xs : List Interface). Contains xs i) is c) in
      let k = kept-from to.interfaces s.interfaces u.0 u.1 in
      let v = contains-unmap (put_function_id (renaming to)) (filter (has_function (renaming to)) u.0.functions) f (subst (λ (x : Interface). Contains x.functions f) (sym u.2) d) in
      let w = contains-kept (has_function (renaming to)) u.0.functions v.0 v.1 in
      let function = functions-at s.definitions u.0 v.0 (list-at (is_placed s.definitions) s.interfaces k.0 u.0 s.placed k.2) w.0 in
      let named : iface ≡ full_name s u.0 = e ∙ (ap (full_name r) (sym u.2) ∙ names k.0 u.0 k.1 k.2) in
      (v.0, (u.0, (k.0, slice_get_within s.interfaces k.0 u.0 k.2, get_or_from_slice_get s.interfaces k.0 u.0 u.0 k.2), named, (w.0, same-name v.0 f v.2 w.1 function h)), same-type v.0 f v.2 w.1 function)
    where
      same-name : (g f : FunctionId) → put_function_id (renaming to) g ≡ f → get_or to.rows g.0 false ≡ true → is_function_id s.definitions g ≡ true → function_name r f ≡ Some name → function_name s g ≡ Some name
      same-name g f e k p q = by (slice_get s.definitions g.0) refl p
        where
          by : (o : Option Definition) → slice_get s.definitions g.0 ≡ o → is_some (function_of o) ≡ true → function_name s g ≡ Some name
          by None d z = absurd (true≢false (sym z))
          by (Some (row.Type t)) d z = absurd (true≢false (sym z))
          by (Some (row.Function x)) d z =
              let a : function_at r f ≡ Some (put_function (renaming to) x) = ap (function_at r) (sym e) ∙ at-there g x d k in
              ap (option_map (λ (y : Function). y.name)) (ap function_of d) ∙ (sym (ap (option_map (λ (y : Function). y.name)) a) ∙ q)

      same-type : (g f : FunctionId) → put_function_id (renaming to) g ≡ f → get_or to.rows g.0 false ≡ true → is_function_id s.definitions g ≡ true → function_type r f ≡ function_type s g
      same-type g f e k p = by (slice_get s.definitions g.0) refl p
        where
          by : (o : Option Definition) → slice_get s.definitions g.0 ≡ o → is_some (function_of o) ≡ true → function_type r f ≡ function_type s g
          by None d z = absurd (true≢false (sym z))
          by (Some (row.Type t)) d z = absurd (true≢false (sym z))
          by (Some (row.Function x)) d z = ap (function_type r) (sym e) ∙ type-there g x d k
