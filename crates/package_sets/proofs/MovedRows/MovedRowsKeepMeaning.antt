-- Rows that are put into another table at other places: what they mean there is what they meant.
use Rattle.std.proofs.Common.{◌≡◌, ◌<◌, ◌⊎◌, inl, inr, ℕ, zero, suc, ◌+◌, true, List, [], ◌∷◌, ◌++◌, length, map, get_or, slice_get, Option, None, Some, refl, sym, ap, subst, ◌∙◌, append_assoc, arith}
use Rattle.std.specs.Option.{option_map}
use Rattle.std.specs.List.{list_all}
use Rattle.std.proofs.lemmas.Bool.{and_parts, ltb-true}
use Rattle.std.proofs.lemmas.List.{get_or_append_left, length_push}
use Rattle.std.proofs.Math.Seq.{get_or-append_seam}
use Rattle.std.proofs.lemmas.Option.{slice_get_within}
use Rattle.tables.specs.Tables.{option_all, is_below, kind_below, definition_below, are_earlier}
use Rattle.tables.specs.Package.{Tree, TextTree, VariantTree, RecordTree, Plain, AsResult, IsUse, IsType, Meaning, Choices, no_choices, read_val, read_choice, read_tuple, read_fields, read_params, read_cases, read_kind, meaning_of, reference, reference_by, references, key_of, named_by, named_function, definition_of, definitions_from, Reference}
use Rattle.tables.specs.Names.{owner_of}
use Rattle.set_rows.specs.Moved.{Renaming, put_val, put_field, put_case, put_parameter, put_kind, put_name, put_owner, put_type, put_function, put_row}
use Rattle.tables.specs.declared.tables.ValType.{ValType}
use Rattle.tables.specs.declared.tables.ValType.TheVariants as val
use Rattle.tables.specs.declared.tables.TypeDefKind.{TypeDefKind}
use Rattle.tables.specs.declared.tables.TypeDefKind.TheVariants as kind
use Rattle.tables.specs.declared.tables.TypeName.{TypeName}
use Rattle.tables.specs.declared.tables.TypeDef.{TypeDef}
use Rattle.tables.specs.declared.tables.Function.{Function}
use Rattle.tables.specs.declared.tables.Parameter.{Parameter}
use Rattle.tables.specs.declared.tables.Field.{Field}
use Rattle.tables.specs.declared.tables.Case.{Case}
use Rattle.tables.specs.declared.tables.Owner.{Owner}
use Rattle.tables.specs.declared.tables.Owner.TheVariants as owner
use Rattle.tables.specs.declared.tables.Definition.{Definition}
use Rattle.tables.specs.declared.tables.Definition.TheVariants as row

-- each tree of the one is that of the other at its place
pub record AreThere (place : ℕ → ℕ) (old new : List Tree) : Type 0 where
  pub within : (t : ℕ) → t < length old → place t < length new
  pub same : (t : ℕ) → t < length old → get_or new (place t) TextTree ≡ get_or old t TextTree

module _ (p : Renaming) (old new : List Tree) (a : AreThere p.rows old new) where
  val-same : (v : ValType) → is_below (length old) v ≡ true → read_val new (put_val p v) ≡ read_val old v
  val-same (val.Primitive x) h = refl
  val-same val.String h = refl
  val-same (val.Id t) h = a.same t.0 (ltb-true t.0 (length old) h)

  choice-same : (label : List ℕ) (v : Option ValType) (cs ds : Choices) → option_all (is_below (length old)) v ≡ true → cs ≡ ds → read_choice new label (option_map (put_val p) v) cs ≡ read_choice old label v ds
  choice-same label None cs ds h e = let x = e in cc
  choice-same label (Some v) cs ds h e = let x = val-same v h in let y = e in cc

  tuple-same : (vs : List ValType) → list_all (is_below (length old)) vs ≡ true → read_tuple new (map (put_val p) vs) ≡ read_tuple old vs
  tuple-same [] h = refl
  tuple-same (v ∷ vs) h = let t = and_parts (is_below (length old) v) (list_all (is_below (length old)) vs) h in let x = val-same v t.0 in let y = tuple-same vs t.1 in cc

  fields-same : (fs : List Field) → list_all (λ f. is_below (length old) f.ty) fs ≡ true → read_fields new (map (put_field p) fs) ≡ read_fields old fs
  fields-same [] h = refl
  fields-same (f ∷ fs) h = let t = and_parts (is_below (length old) f.ty) (list_all (λ f. is_below (length old) f.ty) fs) h in let x = val-same f.ty t.0 in let y = fields-same fs t.1 in cc

  pub params-same : (fs : List Parameter) → list_all (λ f. is_below (length old) f.ty) fs ≡ true → read_params new (map (put_parameter p) fs) ≡ read_params old fs
  params-same [] h = refl
  params-same (f ∷ fs) h = let t = and_parts (is_below (length old) f.ty) (list_all (λ f. is_below (length old) f.ty) fs) h in let x = val-same f.ty t.0 in let y = params-same fs t.1 in cc

  cases-same : (cs : List Case) → list_all (λ c. option_all (is_below (length old)) c.ty) cs ≡ true → read_cases new (map (put_case p) cs) ≡ read_cases old cs
  cases-same [] h = refl
  cases-same (c ∷ cs) h =
      let t = and_parts (option_all (is_below (length old)) c.ty) (list_all (λ c. option_all (is_below (length old)) c.ty) cs) h in
      choice-same c.name c.ty _ _ t.0 (cases-same cs t.1)

  kind-same : (k : TypeDefKind) → kind_below (length old) k ≡ true → read_kind new (put_kind p k) ≡ read_kind old k
  kind-same (kind.Use t) h = val-same (val.Id t) h
  kind-same (kind.Alias v) h = val-same v h
  kind-same (kind.List v) h = let x = val-same v h in cc
  kind-same (kind.Option v) h = let x = val-same v h in cc
  kind-same (kind.Result ok error) h =
      let t = and_parts (option_all (is_below (length old)) ok) (option_all (is_below (length old)) error) h in
      ap (VariantTree AsResult) (choice-same _ ok _ _ t.0 (choice-same _ error no_choices no_choices t.1 refl))
  kind-same (kind.Tuple vs) h = let x = tuple-same vs h in cc
  kind-same (kind.Record fs) h = let x = fields-same fs h in cc
  kind-same (kind.Variant cs) h = let x = cases-same cs h in cc
  kind-same (kind.Enum names) h = refl
  kind-same (kind.Flags names) h = refl

  meaning-same : (k : TypeDefKind) → kind_below (length old) k ≡ true → meaning_of new (put_kind p k) ≡ meaning_of old k
  meaning-same (kind.Use t) h = ap IsUse (val-same (val.Id t) h)
  meaning-same (kind.Alias v) h = ap IsType (kind-same (kind.Alias v) h)
  meaning-same (kind.List v) h = ap IsType (kind-same (kind.List v) h)
  meaning-same (kind.Option v) h = ap IsType (kind-same (kind.Option v) h)
  meaning-same (kind.Result ok error) h = ap IsType (kind-same (kind.Result ok error) h)
  meaning-same (kind.Tuple vs) h = ap IsType (kind-same (kind.Tuple vs) h)
  meaning-same (kind.Record fs) h = ap IsType (kind-same (kind.Record fs) h)
  meaning-same (kind.Variant cs) h = ap IsType (kind-same (kind.Variant cs) h)
  meaning-same (kind.Enum names) h = refl
  meaning-same (kind.Flags names) h = refl

  pub result-same : (v : Option ValType) → option_all (is_below (length old)) v ≡ true → option_map (read_val new) (option_map (put_val p) v) ≡ option_map (read_val old) v
  result-same None h = refl
  result-same (Some v) h = ap Some (val-same v h)

-- ---- each of so many interfaces has its name in the other table

abbrev pub HaveNames : ℕ → Renaming → List (List ℕ) → List (List ℕ) → Type 0
HaveNames count p ns ms = (i : ℕ) → i < count → get_or ms (p.interfaces i) [] ≡ get_or ns i []

-- the owner is a world, or one of so many interfaces
abbrev pub IsOwnedWithin : ℕ → Option Owner → Type 0
IsOwnedWithin count None = Unit {0}
IsOwnedWithin count (Some (owner.World w)) = Unit {0}
IsOwnedWithin count (Some (owner.Interface i)) = i.0 < count

abbrev pub AreOwnedWithin : ℕ → List Definition → Type 0
AreOwnedWithin count ds = (k : ℕ) (d : Definition) → slice_get ds k ≡ Some d → IsOwnedWithin count (owner_of d)

module _ (count : ℕ) (p : Renaming) (ns ms : List (List ℕ)) (e : HaveNames count p ns ms) (old new : List Tree) (a : AreThere p.rows old new) where
  key-same : (n : TypeName) → n.interface.0 < count → key_of ms (put_name p n) ≡ key_of ns n
  key-same n h = ap (λ (i : List ℕ). record { interface = i; name = n.name }) (e n.interface.0 h)

  reference-by-same : (n : Option TypeName) (s t : Tree) → IsOwnedWithin count (option_map (λ x. owner.Interface x.interface) n) → s ≡ t → reference_by ms (option_map (put_name p) n) s ≡ reference_by ns n t
  reference-by-same None s t h q = q
  reference-by-same (Some n) s t h q = ap Reference (key-same n h)

  pub reference-same : (d : Definition) → IsOwnedWithin count (owner_of d) → definition_below (length old) d ≡ true → reference ms new (put_row p d) ≡ reference ns old d
  reference-same (row.Type d) o h = reference-by-same d.name _ _ o (kind-same p old new a d.kind h)
  reference-same (row.Function f) o h =
      ap (RecordTree Plain) (params-same p old new a f.params (and_parts (list_all (λ q. is_below (length old) q.ty) f.params) (option_all (is_below (length old)) f.result) h).0)

  named-same : (n : Option TypeName) (k : TypeDefKind) → IsOwnedWithin count (option_map (λ x. owner.Interface x.interface) n) → meaning_of new (put_kind p k) ≡ meaning_of old k
      → named_by ms new (option_map (put_name p) n) (put_kind p k) ≡ named_by ns old n k
  named-same None k h m = refl
  named-same (Some n) k h m = let x = key-same n h in let y = m in cc

  function-same : (o : Owner) (name : List ℕ) (x y : Meaning) → IsOwnedWithin count (Some o) → x ≡ y → named_function ms (put_owner p o) name x ≡ named_function ns o name y
  function-same (owner.World w) name x y h q = refl
  function-same (owner.Interface i) name x y h q = let z = e i.0 h in let w = q in cc

  pub definition-same : (d : Definition) → IsOwnedWithin count (owner_of d) → definition_below (length old) d ≡ true → definition_of ms new (put_row p d) ≡ definition_of ns old d
  definition-same (row.Type d) o h = named-same d.name d.kind o (meaning-same p old new a d.kind h)
  definition-same (row.Function f) o h =
      let t = and_parts (list_all (λ q. is_below (length old) q.ty) f.params) (option_all (is_below (length old)) f.result) h in
      let y = params-same p old new a f.params t.0 in
      let z = result-same p old new a f.result t.1 in
      function-same f.owner f.name _ _ o (cc)

-- ---- rows that stand one behind the other there too

-- one more row at the end of both
pub there-next : (place : ℕ → ℕ) (old new : List Tree) (x y : Tree) → AreThere place old new → place (length old) ≡ length new → y ≡ x → AreThere place (old ++ x ∷ []) (new ++ y ∷ [])
there-next place old new x y a here e = record {
  within = λ t l. grow t (cases t l);
  same = λ t l. keep t (cases t l);
}
  where
    cases : (t : ℕ) → t < length (old ++ x ∷ []) → (t < length old) ⊎ (t ≡ length old)
    cases t l = grind (arith, l, length_push old x)

    grow : (t : ℕ) → (t < length old) ⊎ (t ≡ length old) → place t < length (new ++ y ∷ [])
    grow t (inl l) = omega (arith, a.within t l, length_push new y)
    grow t (inr q) = subst (λ n. place n < length (new ++ y ∷ [])) (sym q) (omega (arith, here, length_push new y))

    keep : (t : ℕ) → (t < length old) ⊎ (t ≡ length old) → get_or (new ++ y ∷ []) (place t) TextTree ≡ get_or (old ++ x ∷ []) t TextTree
    keep t (inl l) = get_or_append_left new (y ∷ []) TextTree (place t) (a.within t l) ∙ (a.same t l ∙ sym (get_or_append_left old (x ∷ []) TextTree t l))
    keep t (inr q) =
        ap (λ n. get_or (new ++ y ∷ []) (place n) TextTree) q
        ∙ (ap (λ n. get_or (new ++ y ∷ []) n TextTree) here ∙ (get_or-append_seam new y [] TextTree ∙ (e ∙ (sym (get_or-append_seam old x [] TextTree) ∙ ap (λ n. get_or (old ++ x ∷ []) n TextTree) (sym q)))))

-- a row that stands there already
pub there-found : (place : ℕ → ℕ) (old new : List Tree) (x : Tree) → AreThere place old new → place (length old) < length new → get_or new (place (length old)) TextTree ≡ x → AreThere place (old ++ x ∷ []) new
there-found place old new x a here e = record {
  within = λ t l. grow t (cases t l);
  same = λ t l. keep t (cases t l);
}
  where
    cases : (t : ℕ) → t < length (old ++ x ∷ []) → (t < length old) ⊎ (t ≡ length old)
    cases t l = grind (arith, l, length_push old x)

    grow : (t : ℕ) → (t < length old) ⊎ (t ≡ length old) → place t < length new
    grow t (inl l) = a.within t l
    grow t (inr q) = subst (λ n. place n < length new) (sym q) here

    keep : (t : ℕ) → (t < length old) ⊎ (t ≡ length old) → get_or new (place t) TextTree ≡ get_or (old ++ x ∷ []) t TextTree
    keep t (inl l) = a.same t l ∙ sym (get_or_append_left old (x ∷ []) TextTree t l)
    keep t (inr q) = ap (λ n. get_or new (place n) TextTree) q ∙ (e ∙ (sym (get_or-append_seam old x [] TextTree) ∙ ap (λ n. get_or (old ++ x ∷ []) n TextTree) (sym q)))

-- the rows from here on stand one behind the other there too, as many as there are
abbrev pub StandBehind : (ℕ → ℕ) → ℕ → ℕ → ℕ → Type 0
StandBehind place from to count = (k : ℕ) → k < count → place (from + k) ≡ to + k

module _ (count : ℕ) (p : Renaming) (ns ms : List (List ℕ)) (e : HaveNames count p ns ms) where
  behind-next : (old new : List Tree) (x y : Tree) (n : ℕ) → StandBehind p.rows (length old) (length new) (suc n) → StandBehind p.rows (length (old ++ x ∷ [])) (length (new ++ y ∷ [])) n
  behind-next old new x y n b k l =
      let one : length (old ++ x ∷ []) + k ≡ length old + suc k = omega (arith, length_push old x) in
      let other : length new + suc k ≡ length (new ++ y ∷ []) + k = omega (arith, length_push new y) in
      ap p.rows one ∙ (b (suc k) (omega arith) ∙ other)

  here : (old new : List Tree) (n : ℕ) → StandBehind p.rows (length old) (length new) (suc n) → p.rows (length old) ≡ length new
  here old new n b = ap p.rows (omega arith) ∙ (b 0 (omega arith) ∙ omega arith)

  pub definitions-there : (old new : List Tree) (ds : List Definition) → AreThere p.rows old new → StandBehind p.rows (length old) (length new) (length ds) → AreOwnedWithin count ds
      → are_earlier (length old) ds ≡ true → definitions_from ms new (map (put_row p) ds) ≡ definitions_from ns old ds
  definitions-there old new [] a b o h = refl
  definitions-there old new (d ∷ ds) a b o h =
      let t = and_parts (definition_below (length old) d) (are_earlier (length old + 1) ds) h in
      let x = reference ns old d in
      let y = reference ms new (put_row p d) in
      let same : y ≡ x = reference-same count p ns ms e old new a d (o 0 d refl) t.0 in
      let first : definition_of ms new (put_row p d) ≡ definition_of ns old d = definition-same count p ns ms e old new a d (o 0 d refl) t.0 in
      let rest = definitions-there (old ++ x ∷ []) (new ++ y ∷ []) ds (there-next p.rows old new x y a (here old new (length ds) b) same) (behind-next old new x y (length ds) b)
      (λ k c q. o (suc k) c q) (subst (λ n. are_earlier n ds ≡ true) (sym (length_push old x)) t.1) in
      ap (λ zs. zs ++ definitions_from ms (new ++ y ∷ []) (map (put_row p) ds)) first ∙ ap (λ zs. definition_of ns old d ++ zs) rest

  pub trees-there : (old new : List Tree) (ds : List Definition) → AreThere p.rows old new → StandBehind p.rows (length old) (length new) (length ds) → AreOwnedWithin count ds
      → are_earlier (length old) ds ≡ true → AreThere p.rows (references ns old ds) (references ms new (map (put_row p) ds))
  trees-there old new [] a b o h = a
  trees-there old new (d ∷ ds) a b o h =
      let t = and_parts (definition_below (length old) d) (are_earlier (length old + 1) ds) h in
      let x = reference ns old d in
      let y = reference ms new (put_row p d) in
      let same : y ≡ x = reference-same count p ns ms e old new a d (o 0 d refl) t.0 in
      trees-there (old ++ x ∷ []) (new ++ y ∷ []) ds (there-next p.rows old new x y a (here old new (length ds) b) same) (behind-next old new x y (length ds) b)
      (λ k c q. o (suc k) c q) (subst (λ n. are_earlier n ds ≡ true) (sym (length_push old x)) t.1)

-- ---- rows at their own places

abbrev pub in_place : Renaming
in_place = record { packages = λ k. k; interfaces = λ k. k; worlds = λ k. k; rows = λ k. k; keeps = λ k. true }

map-same : {A : Type 0} (f : A → A) → ((x : A) → f x ≡ x) → (xs : List A) → map f xs ≡ xs
map-same f h [] = refl
map-same f h (x ∷ xs) = ap (λ y. y ∷ map f xs) (h x) ∙ ap (λ ys. x ∷ ys) (map-same f h xs)

option-same : {A : Type 0} (f : A → A) → ((x : A) → f x ≡ x) → (o : Option A) → option_map f o ≡ o
option-same f h None = refl
option-same f h (Some x) = ap Some (h x)

val-stays : (v : ValType) → put_val in_place v ≡ v
val-stays (val.Primitive x) = refl
val-stays val.String = refl
val-stays (val.Id t) = refl

kind-stays : (k : TypeDefKind) → put_kind in_place k ≡ k
kind-stays (kind.Use t) = refl
kind-stays (kind.Alias v) = ap kind.Alias (val-stays v)
kind-stays (kind.List v) = ap kind.List (val-stays v)
kind-stays (kind.Option v) = ap kind.Option (val-stays v)
kind-stays (kind.Result ok error) = let x = option-same (put_val in_place) val-stays ok in let y = option-same (put_val in_place) val-stays error in cc
kind-stays (kind.Tuple vs) = ap kind.Tuple (map-same (put_val in_place) val-stays vs)
kind-stays (kind.Record fs) = ap kind.Record (map-same (put_field in_place) (λ f. ap (λ (v : ValType). record { name = f.name; ty = v }) (val-stays f.ty)) fs)
kind-stays (kind.Variant cs) = ap kind.Variant (map-same (put_case in_place) (λ c. ap (λ (v : Option ValType). record { name = c.name; ty = v }) (option-same (put_val in_place) val-stays c.ty)) cs)
kind-stays (kind.Enum names) = refl
kind-stays (kind.Flags names) = refl

owner-stays : (o : Owner) → put_owner in_place o ≡ o
owner-stays (owner.Interface i) = refl
owner-stays (owner.World w) = refl

pub params-stay : (qs : List Parameter) → map (put_parameter in_place) qs ≡ qs
params-stay qs = map-same (put_parameter in_place) (λ q. ap (λ (v : ValType). record { name = q.name; ty = v }) (val-stays q.ty)) qs

pub result-stays : (v : Option ValType) → option_map (put_val in_place) v ≡ v
result-stays v = option-same (put_val in_place) val-stays v

type-stays : (d : TypeDef) → put_type in_place d ≡ d
type-stays d =
    ap (λ (n : Option TypeName). record { name = n; kind = put_kind in_place d.kind }) (option-same (put_name in_place) (λ n. refl) d.name)
    ∙ ap (λ (k : TypeDefKind). record { name = d.name; kind = k }) (kind-stays d.kind)

function-stays : (f : Function) → put_function in_place f ≡ f
function-stays f =
    ap (λ (o : Owner). record { owner = o; name = f.name; params = map (put_parameter in_place) f.params; result = option_map (put_val in_place) f.result }) (owner-stays f.owner)
    ∙ (ap (λ (qs : List Parameter). record { owner = f.owner; name = f.name; params = qs; result = option_map (put_val in_place) f.result })
    (params-stay f.params)
    ∙ ap (λ (v : Option ValType). record { owner = f.owner; name = f.name; params = f.params; result = v }) (result-stays f.result))

pub row-stays : (d : Definition) → put_row in_place d ≡ d
row-stays (row.Type d) = ap row.Type (type-stays d)
row-stays (row.Function f) = ap row.Function (function-stays f)

-- ---- the trees of rows that others follow

pub length-references : (ns : List (List ℕ)) (ts : List Tree) (ds : List Definition) → length (references ns ts ds) ≡ length ts + length ds
length-references ns ts [] = omega arith
length-references ns ts (d ∷ ds) = omega (arith, length-references ns (ts ++ reference ns ts d ∷ []) ds, length_push ts (reference ns ts d))

pub tree-stays : (ns : List (List ℕ)) (ts : List Tree) (ds : List Definition) (t : ℕ) → t < length ts → get_or (references ns ts ds) t TextTree ≡ get_or ts t TextTree
tree-stays ns ts [] t l = refl
tree-stays ns ts (d ∷ ds) t l =
    let x = reference ns ts d in
    tree-stays ns (ts ++ x ∷ []) ds t (omega (arith, length_push ts x)) ∙ get_or_append_left ts (x ∷ []) TextTree t l

-- a row's tree, by the trees of all rows
pub tree-at : (count : ℕ) (ns : List (List ℕ)) (ts : List Tree) (ds : List Definition) (k : ℕ) (d : Definition) → are_earlier (length ts) ds ≡ true → slice_get ds k ≡ Some d → IsOwnedWithin count (owner_of d)
    → get_or (references ns ts ds) (length ts + k) TextTree ≡ reference ns (references ns ts ds) d
tree-at count ns ts [] k d h e o = absurd (cc)
tree-at count ns ts (c ∷ ds) zero d h e o =
    let same : c ≡ d = cc in
    let t = and_parts (definition_below (length ts) c) (are_earlier (length ts + 1) ds) h in
    let x = reference ns ts c in
    let all = references ns (ts ++ x ∷ []) ds in
    let stay : AreThere (λ n. n) ts all = record {
      within = λ n l. omega (arith, l, length-references ns (ts ++ x ∷ []) ds, length_push ts x);
      same = λ n l. tree-stays ns (ts ++ x ∷ []) ds n (omega (arith, l, length_push ts x)) ∙ get_or_append_left ts (x ∷ []) TextTree n l;
    } in
    let whole : reference ns all (put_row in_place c) ≡ x = reference-same count in_place ns ns (λ i l. refl) ts all stay c (subst (λ (z : Definition). IsOwnedWithin count (owner_of z)) (sym same) o) t.0 in
    ap (λ n. get_or all n TextTree) (omega arith)
    ∙ (tree-stays ns (ts ++ x ∷ []) ds (length ts) (omega (arith, length_push ts x))
    ∙ (get_or-append_seam ts x [] TextTree ∙ (sym whole ∙ ap (reference ns all) (row-stays c ∙ same))))
tree-at count ns ts (c ∷ ds) (suc k) d h e o =
    let t = and_parts (definition_below (length ts) c) (are_earlier (length ts + 1) ds) h in
    let x = reference ns ts c in
    ap (λ n. get_or (references ns (ts ++ x ∷ []) ds) n TextTree) (omega (arith, length_push ts x))
    ∙ tree-at count ns (ts ++ x ∷ []) ds k d (subst (λ n. are_earlier n ds ≡ true) (sym (length_push ts x)) t.1) e o

-- the trees of rows that others follow stand there too
pub trees-stay : (ns : List (List ℕ)) (ts : List Tree) (ds : List Definition) → AreThere (λ n. n) ts (references ns ts ds)
trees-stay ns ts ds = record {
  within = λ n l. omega (arith, l, length-references ns ts ds);
  same = λ n l. tree-stays ns ts ds n l;
}

pub references-append : (ns : List (List ℕ)) (ts : List Tree) (ds es : List Definition) → references ns ts (ds ++ es) ≡ references ns (references ns ts ds) es
references-append ns ts [] es = refl
references-append ns ts (d ∷ ds) es = references-append ns (ts ++ reference ns ts d ∷ []) ds es

pub definitions-append : (ns : List (List ℕ)) (ts : List Tree) (ds es : List Definition) → definitions_from ns ts (ds ++ es) ≡ definitions_from ns ts ds ++ definitions_from ns (references ns ts ds) es
definitions-append ns ts [] es = refl
definitions-append ns ts (d ∷ ds) es =
    ap (λ zs. definition_of ns ts d ++ zs) (definitions-append ns (ts ++ reference ns ts d ∷ []) ds es)
    ∙ sym (append_assoc (definition_of ns ts d) (definitions_from ns (ts ++ reference ns ts d ∷ []) ds) (definitions_from ns (references ns (ts ++ reference ns ts d ∷ []) ds) es))

-- ---- where there are more names, what has one keeps it

module _ (count : ℕ) (ns ms : List (List ℕ)) (e : HaveNames count in_place ns ms) where
  same-row : (ts : List Tree) (d : Definition) → IsOwnedWithin count (owner_of d) → definition_below (length ts) d ≡ true
      → (reference ms ts d ≡ reference ns ts d) × (definition_of ms ts d ≡ definition_of ns ts d)
  same-row ts d o h =
      let here : AreThere (λ n. n) ts ts = record { within = λ n l. l; same = λ n l. refl } in (
        ap (reference ms ts) (sym (row-stays d)) ∙ reference-same count in_place ns ms e ts ts here d o h,
        ap (definition_of ms ts) (sym (row-stays d)) ∙ definition-same count in_place ns ms e ts ts here d o h,
      )

  pub references-stay : (ts : List Tree) (ds : List Definition) → AreOwnedWithin count ds → are_earlier (length ts) ds ≡ true → references ms ts ds ≡ references ns ts ds
  references-stay ts [] o h = refl
  references-stay ts (d ∷ ds) o h =
      let t = and_parts (definition_below (length ts) d) (are_earlier (length ts + 1) ds) h in
      let x = reference ns ts d in
      ap (λ (y : Tree). references ms (ts ++ y ∷ []) ds) (same-row ts d (o 0 d refl) t.0).0
      ∙ references-stay (ts ++ x ∷ []) ds (λ k c z. o (suc k) c z) (subst (λ n. are_earlier n ds ≡ true) (sym (length_push ts x)) t.1)

  pub definitions-stay : (ts : List Tree) (ds : List Definition) → AreOwnedWithin count ds → are_earlier (length ts) ds ≡ true → definitions_from ms ts ds ≡ definitions_from ns ts ds
  definitions-stay ts [] o h = refl
  definitions-stay ts (d ∷ ds) o h =
      let t = and_parts (definition_below (length ts) d) (are_earlier (length ts + 1) ds) h in
      let x = reference ns ts d in
      let same = same-row ts d (o 0 d refl) t.0 in
      ap (λ (y : Tree). definition_of ms ts d ++ definitions_from ms (ts ++ y ∷ []) ds) same.0
      ∙ (ap (λ zs. zs ++ definitions_from ms (ts ++ x ∷ []) ds) same.1
      ∙ ap (λ zs. definition_of ns ts d ++ zs) (definitions-stay (ts ++ x ∷ []) ds (λ k c z. o (suc k) c z) (subst (λ n. are_earlier n ds ≡ true) (sym (length_push ts x)) t.1)))

-- ---- rows that stand there already

-- the trees of rows that stand there, each at its place, are those
pub imports-there : (count many : ℕ) (p : Renaming) (ns ms : List (List ℕ)) → HaveNames count p ns ms → (rows : List Definition) → are_earlier 0 rows ≡ true → AreOwnedWithin many rows
    → (old : List Tree) (ds : List Definition) → AreThere p.rows old (references ms [] rows)
    → ((k : ℕ) (d : Definition) → slice_get ds k ≡ Some d → slice_get rows (p.rows (length old + k)) ≡ Some (put_row p d)) → AreOwnedWithin count ds → are_earlier (length old) ds ≡ true
    → AreThere p.rows (references ns old ds) (references ms [] rows)
imports-there count many p ns ms e rows g w old [] a at o h = a
imports-there count many p ns ms e rows g w old (d ∷ ds) a at o h =
    let t = and_parts (definition_below (length old) d) (are_earlier (length old + 1) ds) h in
    let x = reference ns old d in
    let all = references ms [] rows in
    let none : length old + 0 ≡ length old = omega arith in
    let this : slice_get rows (p.rows (length old)) ≡ Some (put_row p d) = ap (λ n. slice_get rows (p.rows n)) (sym none) ∙ at 0 d refl in
    let within : p.rows (length old) < length all = omega (arith, slice_get_within rows (p.rows (length old)) (put_row p d) this, length-references ms [] rows) in
    let tree : get_or all (p.rows (length old)) TextTree ≡ x =
    ap (λ n. get_or all n TextTree) (omega arith)
    ∙ (tree-at many ms [] rows (p.rows (length old)) (put_row p d) g this (w (p.rows (length old)) (put_row p d) this) ∙ reference-same count p ns ms e old all a d (o 0 d refl) t.0) in
    imports-there count many p ns ms e rows g w (old ++ x ∷ []) ds (there-found p.rows old all x a within tree)
    (λ k c z. ap (λ n. slice_get rows (p.rows n)) (next k x) ∙ at (suc k) c z) (λ k c z. o (suc k) c z) (subst (λ n. are_earlier n ds ≡ true) (sym (length_push old x)) t.1)
  where
    next : (k : ℕ) (x : Tree) → length (old ++ x ∷ []) + k ≡ length old + suc k
    next k x = omega (arith, length_push old x)
