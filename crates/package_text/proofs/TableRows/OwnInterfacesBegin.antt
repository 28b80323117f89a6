-- Where the own interfaces of a closed table begin, behind its imports and their rows.
use Rattle.std.proofs.Common.{◌≡◌, ◌+◌, ◌-◌, ◌<◌, ◌≤◌, ℕ, suc, List, [], ◌∷◌, ◌++◌, length, map, get_or, slice_get, refl, sym, ap, subst, ◌∙◌, append_assoc, append-nil, length-append, arith, inl, inr, All}
use Rattle.std.specs.Prelude.{Bool, true, false, not, ◌&&◌, nat_le, nat_lt, Option, None, Some, cond}
use Rattle.std.specs.List.{list_all, filter}
use Rattle.std.proofs.lemmas.Bool.{and_parts, eqb-true, eq-eqb, ltb-true, lt-ltb, leb-true, cases_lt, false≢true}
use Rattle.std.proofs.lemmas.List.Folds.{list_all-append}
use Rattle.std.proofs.lemmas.List.{length-map, map-append}
use Rattle.std.proofs.lemmas.Option.{slice_get-get_or}
use Rattle.atoms.specs.Label.{IsLabel}
use Rattle.tables.specs.PackageNames.{PackageParts}
use Rattle.tables.specs.Names.{full_name_in}
use Rattle.tables.specs.Tables.{are_grouped}
use Rattle.tables.specs.declared.tables.TypeName.{TypeName}
use Rattle.tables.specs.declared.tables.Owner.{Owner}
use Rattle.tables.specs.declared.tables.Owner.TheVariants as owner
use Rattle.tables.specs.declared.tables.Definition.{Definition}
use Rattle.tables.specs.declared.tables.Definition.TheVariants as row
use Rattle.tables.specs.declared.tables.Interface.{Interface}
use Rattle.tables.specs.declared.tables.Resolve.{Resolve}
use Rattle.tables.proofs.ClosedTypesRowByRow.{both}
use Rattle.package_form.specs.Closed.{own_package}
use Rattle.package_form.specs.Reached.{is_interface_of}
use Rattle.package_form.specs.Entries.{labels_of}
use Rattle.package_form.specs.Ends.{interfaces_end}
use Rattle.package_form.specs.Ids.{is_owned_by}
use Rattle.package_form.specs.References.{row_references}
use Rattle.package_form.specs.Form.{is_own_name, is_own, uses_earlier, is_owned, is_local, IsInPackageForm}
use Rattle.package_form.proofs.AllAndContains.{all-right, list-grows}
use Rattle.tree_meaning.specs.Resolves.{is_name_of, is_owned_among, is_of_interfaces}
use Rattle.tree_meaning.specs.Imports.{nameless}
use Rattle.tree_meaning.proofs.ImportsFoundByName.{get_or-append-right}
use Rattle.package_text.specs.Tree.{other_package, name_here, own_names, interfaces_of_package, own_parts}
use Rattle.package_text.proofs.TableRows.AreRegions.{AreRegions, no_region, and_region, home, regions-from}

pub form-regions : (r : Resolve) → IsInPackageForm r → AreRegions r.definitions (home 0 0 r.interfaces) 0 [] r.interfaces r.definitions
form-regions r f = regions-from r.definitions (home 0 0 r.interfaces) 0 [] r.definitions r.interfaces r.worlds refl f.parted f.interfaces f.worlds (λ n l. refl)

-- ---- interfaces

abbrev is_other : ℕ → Interface → Bool
is_other own i = not (is_interface_of own i)

-- behind one of the last package stand those of the last package
last-on : (count first : ℕ) (is : List Interface) → are_grouped count first is ≡ true → count - 1 ≤ first → list_all (is_interface_of (count - 1)) is ≡ true
last-on count first [] h l = refl
last-on count first (i ∷ is) h l =
    let s = and_parts (nat_le first i.«package».0 && nat_lt i.«package».0 count) (are_grouped count i.«package».0 is) h in
    let t = and_parts (nat_le first i.«package».0) (nat_lt i.«package».0 count) s.0 in
    let low = leb-true first i.«package».0 t.0 in
    let high = ltb-true i.«package».0 count t.1 in
    both _ _ (eq-eqb i.«package».0 (count - 1) (omega (arith, low, high, l))) (last-on count i.«package».0 is s.1 (omega (arith, low, l)))

pub kept-all : {A : Type 0} (p : A → Bool) (xs : List A) → list_all p xs ≡ true → filter p xs ≡ xs
kept-all p [] h = refl
kept-all {A = A} p (x ∷ xs) h =
    let s = and_parts (p x) (list_all p xs) h in
    ap (λ (b : Bool). cond b (x ∷ filter p xs) (filter p xs)) s.0 ∙ ap (λ (ys : List A). x ∷ ys) (kept-all p xs s.1)

-- the interfaces of other packages stand first
abbrev Parted : ℕ → List Interface → Type 0
Parted own is = (front : List Interface) × (is ≡ front ++ filter (is_interface_of own) is) × (list_all (is_other own) front ≡ true)

parted-at : (count first : ℕ) (is : List Interface) → are_grouped count first is ≡ true → Parted (count - 1) is
parted-at count first [] h = ([], refl, refl)
parted-at count first (i ∷ is) h = by (is_interface_of (count - 1) i) refl (parted-at count i.«package».0 is (and_parts (nat_le first i.«package».0 && nat_lt i.«package».0 count) (are_grouped count i.«package».0 is) h).1)
  where
    rest : are_grouped count i.«package».0 is ≡ true
    rest = (and_parts (nat_le first i.«package».0 && nat_lt i.«package».0 count) (are_grouped count i.«package».0 is) h).1

    by : (b : Bool) → is_interface_of (count - 1) i ≡ b → Parted (count - 1) is
        → (front : List Interface) × (i ∷ is ≡ front ++ cond b (i ∷ filter (is_interface_of (count - 1)) is) (filter (is_interface_of (count - 1)) is)) × (list_all (is_other (count - 1)) front ≡ true)
    by true e on =
        let here = eqb-true i.«package».0 (count - 1) e in
        ([], sym (ap (λ (js : List Interface). i ∷ js) (kept-all (is_interface_of (count - 1)) is (last-on count i.«package».0 is rest (omega (arith, here))))), refl)
    by false e on = (i ∷ on.0, ap (λ (js : List Interface). i ∷ js) on.1, both _ _ (ap not e) on.2)

-- ---- their rows

-- a row of interface k is one of an interface before the n-th
local-of : (rows : List Definition) (k n : ℕ) (d : Definition) → k < n → is_local rows k d ≡ true → is_of_interfaces n d ≡ true
local-of rows k n (row.Type d) l h =
    by d.name (and_parts (is_own_name k d.name) (uses_earlier rows k d.kind) (and_parts (is_owned rows k (row.Type d)) (list_all (is_own rows k) (row_references (row.Type d))) h).0).0
  where
    by : (m : Option TypeName) → is_own_name k m ≡ true → is_name_of n m ≡ true
    by None q = refl
    by (Some m) q = let e = eqb-true m.interface.0 k q in lt-ltb m.interface.0 n (omega (arith, e, l))
local-of rows k n (row.Function f) l h = by f.owner (and_parts (is_owned_by k f.owner) (list_all (is_own rows k) (row_references (row.Function f))) h).0
  where
    by : (o : Owner) → is_owned_by k o ≡ true → is_owned_among n o ≡ true
    by (owner.Interface i) q = let e = eqb-true i.0 k q in lt-ltb i.0 n (omega (arith, e, l))
    by (owner.World w) q = absurd (false≢true q)

record IsSplit (rows : List Definition) (at : ℕ → ℕ) (k : ℕ) (pre post : List Definition) (front own : List Interface) : Type 0 where
  before : List Definition
  behind : List Definition
  whole : pre ++ post ≡ before ++ behind
  ends : length before ≡ interfaces_end (length pre) front
  longer : length pre ≤ length before
  added : (own : List Definition) × (before ≡ pre ++ own) × (list_all (is_of_interfaces (k + length front)) own ≡ true)
  regions : AreRegions rows at (k + length front) before own behind
  past : (n : ℕ) → length pre ≤ n → n < length before → at n < k + length front

split-regions : (rows : List Definition) (at : ℕ → ℕ) (front own : List Interface) (k : ℕ) (pre : List Definition) (is : List Interface) (post : List Definition) → AreRegions rows at k pre is post
    → is ≡ front ++ own → IsSplit rows at k pre post front own
split-regions rows at [] own k pre is post g e = record {
  before = pre;
  behind = post;
  whole = refl;
  ends = refl;
  longer = omega arith;
  added = ([], sym (append-nil pre), refl);
  regions = subst (λ (n : ℕ). AreRegions rows at n pre own post) (omega arith) (subst (λ (js : List Interface). AreRegions rows at k pre js post) e g);
  past = λ n l m. absurd (omega (arith, l, m));
}
split-regions rows at (f ∷ fs) own _ _ _ _ (no_region k pre back b home) e = absurd cc
split-regions rows at (f ∷ fs) own _ _ _ _ (and_region k pre mine post i is ends ids uses types locals here more) e =
    let rest : is ≡ fs ++ own = cc in
    let same : i ≡ f = cc in
    let s = split-regions rows at fs own (suc k) (pre ++ mine) is post more rest in
    let long = length-append pre mine in
    record {
      before = s.before;
      behind = s.behind;
      whole = sym (append_assoc pre mine post) ∙ s.whole;
      ends = s.ends ∙ (ap (λ n. interfaces_end n fs) (sym ends) ∙ ap (λ (j : Interface). interfaces_end (length pre) (j ∷ fs)) same);
      longer = omega (arith, s.longer, long);
      added = (
        mine ++ s.added.0,
        s.added.1 ∙ append_assoc pre mine s.added.0,
        list_all-append (is_of_interfaces (k + suc (length fs))) mine s.added.0
            ∙ both _ _ (list-grows (is_local rows k) (is_of_interfaces (k + suc (length fs))) (λ d. local-of rows k (k + suc (length fs)) d (omega arith)) mine locals)
            (subst (λ (n : ℕ). list_all (is_of_interfaces n) s.added.0 ≡ true) (omega arith) s.added.2),
      );
      regions = subst (λ (n : ℕ). AreRegions rows at n s.before own s.behind) (omega arith) s.regions;
      past = λ n l m. elim (cases_lt n (length (pre ++ mine))) [
        | inl u ↦ let q = here n l u in omega (arith, q)
        | inr u ↦ let q = s.past n u m in omega (arith, q)
      ];
    }

-- ---- a table in form

pub record Begins (r : Resolve) : Type 0 where
  pub front : List Interface
  pub others : list_all (λ i. not (is_interface_of (own_package r.packages) i)) front ≡ true
  pub interfaces : r.interfaces ≡ front ++ interfaces_of_package r
  pub before : List Definition
  pub behind : List Definition
  pub rows : r.definitions ≡ before ++ behind
  pub ends : length before ≡ interfaces_end 0 front
  pub regions : AreRegions r.definitions (home 0 0 r.interfaces) (length front) before (interfaces_of_package r) behind
  pub past : (n : ℕ) → n < length before → home 0 0 r.interfaces n < length front
  pub owned : list_all (is_of_interfaces (length front)) before ≡ true

pub begins : (r : Resolve) → IsInPackageForm r → Begins r
begins r f =
    let p = parted-at (length r.packages) 0 r.interfaces r.grouped in
    let s = split-regions r.definitions (home 0 0 r.interfaces) p.0 (interfaces_of_package r) 0 [] r.interfaces r.definitions (form-regions r f) p.1 in
    record {
      front = p.0;
      others = p.2;
      interfaces = p.1;
      before = s.before;
      behind = s.behind;
      rows = s.whole;
      ends = s.ends;
      regions = subst (λ (n : ℕ). AreRegions r.definitions (home 0 0 r.interfaces) n s.before (interfaces_of_package r) s.behind) (omega arith) s.regions;
      past = λ n l. let q = s.past n (omega arith) l in omega (arith, q);
      owned = subst (λ (ds : List Definition). list_all (is_of_interfaces (length p.0)) ds ≡ true) (sym s.added.1) (subst (λ (n : ℕ). list_all (is_of_interfaces n) s.added.0 ≡ true) (omega arith) s.added.2);
    }

-- rows behind are of this interface or of later ones
pub at-least : (rows : List Definition) (at : ℕ → ℕ) (k : ℕ) (pre : List Definition) (is : List Interface) (post : List Definition) → AreRegions rows at k pre is post → k ≤ at (length pre)
at-least rows at _ _ _ _ (no_region k pre back behind home) = let h = home (length pre) (omega arith) in omega (arith, h)
at-least rows at _ _ _ _ (and_region k pre own post i is ends ids uses types locals here more) = elim (cases_lt (length pre) (length (pre ++ own))) [
  | inl u ↦ let h = here (length pre) (omega arith) u in omega (arith, h)
  | inr u ↦
      let long = length-append pre own in
      let same : length (pre ++ own) ≡ length pre = omega (arith, u, long) in
      let h = at-least rows at (suc k) (pre ++ own) is post more in
      let here' = ap at same in
      omega (arith, h, here')
]

-- ---- names

module _ (r : Resolve) where
  -- an own interface goes by its label
  pub none-other : (i : Interface) → is_interface_of (own_package r.packages) i ≡ true → other_package r i ≡ None
  none-other i h = ap (λ (b : Bool). cond b None (slice_get r.packages i.«package».0)) h

  own-labels : (is : List Interface) → map (name_here r) (filter (is_interface_of (own_package r.packages)) is) ≡ labels_of (filter (is_interface_of (own_package r.packages)) is)
  own-labels [] = refl
  own-labels (i ∷ is) = by (is_interface_of (own_package r.packages) i) refl (own-labels is)
    where
      by : (b : Bool) → is_interface_of (own_package r.packages) i ≡ b
          → map (name_here r) (filter (is_interface_of (own_package r.packages)) is) ≡ labels_of (filter (is_interface_of (own_package r.packages)) is)
          → map (name_here r) (cond b (i ∷ filter (is_interface_of (own_package r.packages)) is) (filter (is_interface_of (own_package r.packages)) is))
          ≡ labels_of (cond b (i ∷ filter (is_interface_of (own_package r.packages)) is) (filter (is_interface_of (own_package r.packages)) is))
      by true e on =
          ap (λ (o : Option PackageParts). full_name_in o i.name ∷ map (name_here r) (filter (is_interface_of (own_package r.packages)) is)) (none-other i e) ∙ ap (λ (ns : List (List ℕ)). i.name ∷ ns) on
      by false e on = on

  module _ (b : Begins r) where
    pub names-parted : own_names r ≡ map (name_here r) b.front ++ labels_of (interfaces_of_package r)
    names-parted =
        ap (map (name_here r)) b.interfaces
        ∙ (map-append (name_here r) b.front (interfaces_of_package r) ∙ ap (λ (ns : List (List ℕ)). map (name_here r) b.front ++ ns) (own-labels r.interfaces))

    -- the own interfaces stand behind the others
    pub own-at : (j : ℕ) → get_or (own_names r) (length b.front + j) [] ≡ get_or (labels_of (interfaces_of_package r)) j []
    own-at j =
        ap (λ (ns : List (List ℕ)). get_or ns (length b.front + j) []) names-parted
        ∙ get_or-append-right (map (name_here r) b.front) (labels_of (interfaces_of_package r)) [] (length b.front) j (sym (length-map b.front (name_here r)))

    -- labels are those of the own interfaces too
    pub own-are-labels : All IsLabel (labels_of r.interfaces) → All IsLabel (labels_of (interfaces_of_package r))
    own-are-labels h =
        all-right IsLabel (labels_of b.front) (labels_of (interfaces_of_package r)) (subst (All IsLabel) (ap labels_of b.interfaces ∙ map-append (λ (i : Interface). i.name) b.front (interfaces_of_package r)) h)

-- the own package is there
pub own-there : (ps : List PackageParts) → 0 < length ps → slice_get ps (own_package ps) ≡ Some (own_parts ps)
own-there ps l = slice_get-get_or ps (own_package ps) nameless (omega (arith, l))
