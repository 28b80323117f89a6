-- Where names differ, a name of an interface stands for one function.
use Rattle.std.proofs.Common.{◌≡◌, ℕ, zero, suc, ◌+◌, ◌-◌, ◌<◌, ◌≤◌, Bool, true, false, cond, ◌&&◌, List, [], ◌∷◌, map, flat_map, drop, length, get_or, slice_get, Option, None, Some, refl, ap, sym, subst, ◌∙◌, arith, All, Contains, inl, inr}
use Rattle.std.specs.Option.{option_map}
use Rattle.std.specs.List.{list_all}
use Rattle.std.proofs.lemmas.List.{length-take, get_or-map, get_or_default}
use Rattle.std.proofs.lemmas.Slice.Eq.{bytes_eq-Decides}
use Rattle.tables.specs.Tables.{function_of}
use Rattle.tables.specs.Names.{full_name}
use Rattle.tables.specs.Package.{interface_names}
use Rattle.tables.specs.declared.tables.FunctionId.{FunctionId}
use Rattle.tables.specs.declared.tables.Function.{Function}
use Rattle.tables.specs.declared.tables.Definition.{Definition}
use Rattle.tables.specs.declared.tables.Definition.TheVariants as row
use Rattle.tables.specs.declared.tables.Interface.{Interface}
use Rattle.tables.specs.declared.tables.Resolve.{Resolve}
use Rattle.tables.proofs.ClosedTypesRowByRow.{split}
use Rattle.package_form.specs.Scope.{AreDistinct}
use Rattle.package_form.specs.Ends.{end_of, rows_of}
use Rattle.package_form.specs.Ids.{places_where, function_id}
use Rattle.package_form.specs.Form.{is_named, ids_of, is_local, has_ids, are_interfaces}
use Rattle.package_form.specs.Naming.{row_names, rows_scopes, interfaces_scopes}
use Rattle.package_form.specs.Laws.{NamesOneFunction}
use Rattle.package_form.proofs.AllAndContains.{all-head, all-left, all-right, contains-here, contains-right, contains-map, compared}
use Rattle.package_form.proofs.FullNamesStandForInterfaces.{HasOneOfEachInterface}
use Rattle.package_form.proofs.ScopesAreDistinct.{interfaces-distinct}
use Rattle.package_form.proofs.NamesStandForOneRow.{twice, in-rows, forms-on}

-- ---- the place of a function

below-all : (is : Definition → Bool) (n : ℕ) (ds : List Definition) (x : ℕ) → Contains (places_where is n ds) x → (n ≤ x) × (x < n + length ds)
below-all is n [] x c = absurd (omega (arith, c.1))
below-all is n (d ∷ ds) x c = by (is d) (λ h. let q = below-all is (n + 1) ds x h in (omega (arith, q.0), omega (arith, q.1))) c
  where
    by : (b : Bool) → (Contains (places_where is (n + 1) ds) x → (n ≤ x) × (x < n + length (d ∷ ds)))
        → Contains (cond b (n ∷ places_where is (n + 1) ds) (places_where is (n + 1) ds)) x → (n ≤ x) × (x < n + length (d ∷ ds))
    by true later (zero, l, e) = (omega (arith, e), omega (arith, e))
    by true later (suc k, l, e) = later (k, omega (arith, l), e)
    by false later h = later h

-- a function of this name stands at this place
abbrev IsFunctionAt : List Definition → FunctionId → List ℕ → Type 0
IsFunctionAt rows f n = (h : Function) × (slice_get rows f.0 ≡ Some (row.Function h)) × (h.name ≡ n)

function-at : (rows : List Definition) (f : FunctionId) (n : List ℕ) → option_map (λ (g : Function). g.name) (function_of (slice_get rows f.0)) ≡ Some n → IsFunctionAt rows f n
function-at rows f n e = by (slice_get rows f.0) e
  where
    by : (o : Option Definition) → option_map (λ (g : Function). g.name) (function_of o) ≡ Some n → (h : Function) × (o ≡ Some (row.Function h)) × (h.name ≡ n)
    by None q = absurd (cc)
    by (Some (row.Type d)) q = absurd (cc)
    by (Some (row.Function h)) q = (h, refl, cc)

module _ (rows : List Definition) where
  function-range : (start : ℕ) (i : Interface) (f : FunctionId) → has_ids rows start i ≡ true → Contains i.functions f → (start ≤ f.0) × (f.0 < end_of start i)
  function-range start i f h c =
      let same = (bytes_eq-Decides (ids_of i) (places_where is_named start (rows_of rows start i))).0 (split _ _ h).0 in
      let here : Contains (ids_of i) f.0 =
      contains-right (map (λ t. t.0) i.uses) _ f.0 (contains-right (map (λ t. t.0) i.types) _ f.0 (contains-map (λ (g : FunctionId). g.0) i.functions f c)) in
      let q = below-all is_named start (rows_of rows start i) f.0 (subst (λ (ns : List ℕ). Contains ns f.0) same here) in
      (q.0, omega (arith, q.0, q.1, length-take (end_of start i - start) (drop start rows)))

  -- two functions of one interface with one name are one
  one-here : (start : ℕ) (i : Interface) (f g : FunctionId) (n : List ℕ) → has_ids rows start i ≡ true → AreDistinct (flat_map row_names (rows_of rows start i))
      → Contains i.functions f → Contains i.functions g → IsFunctionAt rows f n → IsFunctionAt rows g n → f.0 ≡ g.0
  one-here start i f g n h d cf cg x y =
      let a = function-range start i f h cf in
      let b = function-range start i g h cg in
      let xs : slice_get (rows_of rows start i) (f.0 - start) ≡ Some (row.Function x.0) = in-rows rows start i f.0 a.0 a.1 ∙ x.1 in
      let ys : slice_get (rows_of rows start i) (g.0 - start) ≡ Some (row.Function y.0) = in-rows rows start i g.0 b.0 b.1 ∙ y.1 in
      let xn : Contains (row_names (row.Function x.0)) n = subst (Contains (row_names (row.Function x.0))) x.2 (contains-here x.0.name []) in
      let yn : Contains (row_names (row.Function y.0)) n = subst (Contains (row_names (row.Function y.0))) y.2 (contains-here y.0.name []) in
      elim (compared f.0 g.0) [
        | inl q ↦ absurd (twice (rows_of rows start i) (f.0 - start) (g.0 - start) _ _ n (omega (arith, q, a.0)) xs ys xn yn d)
        | inr q ↦ elim q [
          | inl r ↦ absurd (twice (rows_of rows start i) (g.0 - start) (f.0 - start) _ _ n (omega (arith, r, b.0)) ys xs yn xn d)
          | inr r ↦ r
        ]
      ]

  one-of : (k start : ℕ) (is : List Interface) → are_interfaces rows k start is ≡ true → All AreDistinct (interfaces_scopes rows start is) → (i : Interface) → Contains is i
      → (f g : FunctionId) (n : List ℕ) → Contains i.functions f → Contains i.functions g → IsFunctionAt rows f n → IsFunctionAt rows g n → f.0 ≡ g.0
  one-of k start [] a d i c f g n cf cg x y = absurd (omega (arith, c.1))
  one-of k start (h ∷ is) a d i (zero, l, e) f g n cf cg x y =
      let ids = (split (has_ids rows start h) _ (split (has_ids rows start h && list_all (is_local rows k) (rows_of rows start h)) _ a).0).0 in
      let scope = all-head AreDistinct _ _ (all-left AreDistinct (rows_scopes (rows_of rows start h)) (interfaces_scopes rows (end_of start h) is) d) in
      one-here start h f g n ids scope (subst (λ (z : Interface). Contains z.functions f) (sym e) cf) (subst (λ (z : Interface). Contains z.functions g) (sym e) cg) x y
  one-of k start (h ∷ is) a d i (suc b, l, e) f g n cf cg x y =
      one-of (k + 1) (end_of start h) is (forms-on rows k start h is a)
      (all-right AreDistinct (rows_scopes (rows_of rows start h)) (interfaces_scopes rows (end_of start h) is) d) i (b, omega (arith, l), e) f g n cf cg x y

-- ---- full names

same-interface : (r : Resolve) → HasOneOfEachInterface r → (i j : Interface) → Contains r.interfaces i → Contains r.interfaces j → full_name r i ≡ full_name r j → i ≡ j
same-interface r one i j ci cj e =
    let m = ci.0 in
    let n = cj.0 in
    let named : get_or (interface_names r) m [] ≡ get_or (interface_names r) n [] =
    get_or-map (full_name r) r.interfaces m i [] ci.1 ∙ ap (full_name r) ci.2 ∙ e ∙ ap (full_name r) (sym cj.2) ∙ sym (get_or-map (full_name r) r.interfaces n j [] cj.1) in
    let at = one.each m n ci.1 cj.1 named in
    sym ci.2 ∙ ap (λ (k : ℕ). get_or r.interfaces k i) at ∙ get_or_default r.interfaces n i j cj.1 ∙ cj.2

pub one-function : (r : Resolve) → HasOneOfEachInterface r → NamesOneFunction r
one-function r one form distinct iface name f g x y =
    let same = same-interface r one x.0 y.0 x.1 y.1 (sym x.2 ∙ y.2) in
    ap function_id (one-of r.definitions 0 0 r.interfaces form.interfaces (interfaces-distinct r distinct) x.0 x.1 f g name x.3.0 (subst (λ (z : Interface). Contains z.functions g) (sym same) y.3.0)
    (function-at r.definitions f name x.3.1) (function-at r.definitions g name y.3.1))
