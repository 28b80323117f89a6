-- The path that a name spells: a full name that to an interface of another package, a label that to an own one.
use Rattle.std.proofs.Common.{◌≡◌, ◌<◌, ℕ, zero, suc, List, [], ◌∷◌, ◌++◌, length, map, get_or, slice_get, refl, sym, ap, subst, ◌∙◌, append-nil, arith, All}
use Rattle.std.specs.Prelude.{Bool, true, false, ◌&&◌, ◌||◌, ◌==◌, Option, None, Some, if◌then◌else◌}
use Rattle.std.proofs.lemmas.Bool.{and_parts, or_right, false≢true, eqb-true, eq-eqb, ne_eqb}
use Rattle.atoms.specs.Label.{IsLabel, is_label}
use Rattle.atoms.specs.FullName.{Lacks, is_package_label, is_version_or_none, version_suffix}
use Rattle.atoms.proofs.FullNamesHaveOneReading.{label_lacks, package_lacks}
use Rattle.atoms.proofs.FullNamesHaveOneReading as marks
use Rattle.wit_tokens.specs.Syntax.{PathTo, Local, Foreign}
use Rattle.wit_print.specs.Printable.{IsPrintablePath}
use Rattle.tables.specs.PackageNames.{PackageParts, own_name}
use Rattle.tables.specs.Names.{full_name_in}
use Rattle.tables.specs.declared.tables.Interface.{Interface}
use Rattle.tables.specs.declared.tables.Resolve.{Resolve}
use Rattle.package_form.specs.Closed.{own_package}
use Rattle.package_form.specs.Reached.{is_interface_of}
use Rattle.package_form.specs.Entries.{labels_of}
use Rattle.package_form.specs.Form.{is_package_name, has_full_names}
use Rattle.package_form.proofs.AllAndContains.{all-head, all-tail, all-get}
use Rattle.tree_meaning.specs.Declarations.{path_package, path_interface}
use Rattle.package_text.specs.Tree.{other_package, path_in, path_to, path_if, path_at, name_here, own_names}
use Rattle.package_text.proofs.PrintableTrees.VersionsAreOneToken.{version-printable}

-- ---- the first mark of a text

abbrev has : ℕ → List ℕ → Bool
has mark [] = false
has mark (c ∷ cs) = c == mark || has mark cs

abbrev until : ℕ → List ℕ → List ℕ
until mark [] = []
until mark (c ∷ cs) = if c == mark then [] else c ∷ until mark cs

abbrev past : ℕ → List ℕ → List ℕ
past mark [] = []
past mark (c ∷ cs) = if c == mark then cs else past mark cs

whole : (mark : ℕ) (t : List ℕ) → has mark t ≡ true → until mark t ++ mark ∷ past mark t ≡ t
whole mark [] h = absurd (false≢true h)
whole mark (c ∷ cs) h = by (c == mark) refl h (λ q. whole mark cs q)
  where
    by : (b : Bool) → (c == mark) ≡ b → (b || has mark cs) ≡ true → (has mark cs ≡ true → until mark cs ++ mark ∷ past mark cs ≡ cs)
        → (if b then [] else c ∷ until mark cs) ++ mark ∷ (if b then cs else past mark cs) ≡ c ∷ cs
    by true e q on = ap (λ (n : ℕ). n ∷ cs) (sym (eqb-true c mark e))
    by false e q on = ap (λ (xs : List ℕ). c ∷ xs) (on q)

not-first : (mark c : ℕ) (cs : List ℕ) → Lacks mark (c ∷ cs) → (c == mark) ≡ false
not-first mark c cs h = ne_eqb c mark (λ e. h 0 (omega arith) e)

has-not : (mark : ℕ) (t : List ℕ) → Lacks mark t → has mark t ≡ false
has-not mark [] h = refl
has-not mark (c ∷ cs) h = ap (λ b. b || has mark cs) (not-first mark c cs h) ∙ has-not mark cs (marks.behind mark c cs h)

has-there : (mark : ℕ) (xs ys : List ℕ) → has mark (xs ++ mark ∷ ys) ≡ true
has-there mark [] ys = ap (λ b. b || has mark ys) (eq-eqb mark mark refl)
has-there mark (c ∷ cs) ys = or_right (c == mark) (has mark (cs ++ mark ∷ ys)) (has-there mark cs ys)

until-there : (mark : ℕ) (xs ys : List ℕ) → Lacks mark xs → until mark (xs ++ mark ∷ ys) ≡ xs
until-there mark [] ys h = ap (λ b. if b then [] else mark ∷ until mark ys) (eq-eqb mark mark refl)
until-there mark (c ∷ cs) ys h =
    ap (λ b. if b then [] else c ∷ until mark (cs ++ mark ∷ ys)) (not-first mark c cs h) ∙ ap (λ (xs : List ℕ). c ∷ xs) (until-there mark cs ys (marks.behind mark c cs h))

past-there : (mark : ℕ) (xs ys : List ℕ) → Lacks mark xs → past mark (xs ++ mark ∷ ys) ≡ ys
past-there mark [] ys h = ap (λ b. if b then ys else past mark ys) (eq-eqb mark mark refl)
past-there mark (c ∷ cs) ys h =
    ap (λ b. if b then cs ++ mark ∷ ys else past mark (cs ++ mark ∷ ys)) (not-first mark c cs h) ∙ past-there mark cs ys (marks.behind mark c cs h)

-- ---- paths

version_in : List ℕ → Option (List ℕ)
version_in t = if has 64 t then Some (past 64 t) else None

label_in : List ℕ → List ℕ
label_in t = if has 64 t then until 64 t else t

pub path_named : List ℕ → PathTo
path_named n =
    if has 58 n && has 47 (past 58 n)
    then Foreign (until 58 n) (until 47 (past 58 n)) (version_in (past 47 (past 58 n))) (label_in (past 47 (past 58 n)))
    else Local n

last-whole : (t : List ℕ) → label_in t ++ version_suffix (version_in t) ≡ t
unfolding version_in label_in
last-whole t = by (has 64 t) refl
  where
    by : (b : Bool) → has 64 t ≡ b → (if b then until 64 t else t) ++ version_suffix (if b then Some (past 64 t) else None) ≡ t
    by true e = whole 64 t e
    by false e = append-nil t

-- a path is spelt by its name
pub named-back : (n : List ℕ) → full_name_in (path_package (path_named n)) (path_interface (path_named n)) ≡ n
unfolding path_named
named-back n = by (has 58 n) (has 47 (past 58 n)) refl refl
  where
    by : (b c : Bool) → has 58 n ≡ b → has 47 (past 58 n) ≡ c
        → full_name_in (path_package (if b && c then Foreign (until 58 n) (until 47 (past 58 n)) (version_in (past 47 (past 58 n))) (label_in (past 47 (past 58 n))) else Local n))
        (path_interface (if b && c then Foreign (until 58 n) (until 47 (past 58 n)) (version_in (past 47 (past 58 n))) (label_in (past 47 (past 58 n))) else Local n)) ≡ n
    by true true e f =
        ap (λ (x : List ℕ). until 58 n ++ 58 ∷ (until 47 (past 58 n) ++ 47 ∷ x)) (last-whole (past 47 (past 58 n)))
        ∙ (ap (λ (x : List ℕ). until 58 n ++ 58 ∷ x) (whole 47 (past 58 n) f) ∙ whole 58 n e)
    by true false e f = refl
    by false c e f = refl

pub label-path : (n : List ℕ) → IsLabel n → path_named n ≡ Local n
unfolding path_named
label-path n h =
    ap (λ b. if b && has 47 (past 58 n) then Foreign (until 58 n) (until 47 (past 58 n)) (version_in (past 47 (past 58 n))) (label_in (past 47 (past 58 n))) else Local n)
    (has-not 58 n (label_lacks 58 n refl h))

last-parts : (i : List ℕ) (v : Option (List ℕ)) → IsLabel i → (version_in (i ++ version_suffix v) ≡ v) × (label_in (i ++ version_suffix v) ≡ i)
unfolding version_in label_in
last-parts i None h =
    let none : has 64 (i ++ []) ≡ false = ap (has 64) (append-nil i) ∙ has-not 64 i (label_lacks 64 i refl h) in
    (ap (λ b. if b then Some (past 64 (i ++ [])) else None) none, ap (λ b. if b then until 64 (i ++ []) else i ++ []) none ∙ append-nil i)
last-parts i (Some v) h =
    let lacks = label_lacks 64 i refl h in
    let there = has-there 64 i v in (
      ap (λ b. if b then Some (past 64 (i ++ 64 ∷ v)) else None) there ∙ ap (λ (x : List ℕ). Some x) (past-there 64 i v lacks),
      ap (λ b. if b then until 64 (i ++ 64 ∷ v) else i ++ 64 ∷ v) there ∙ until-there 64 i v lacks,
    )

pub full-path : (p : PackageParts) (i : List ℕ) → is_package_name p ≡ true → IsLabel i → path_named (own_name p i) ≡ Foreign p.namespace p.name p.version i
unfolding path_named
full-path p i h l =
    let s = and_parts (is_package_label p.namespace) (is_package_label p.name && is_version_or_none p.version) h in
    let t = and_parts (is_package_label p.name) (is_version_or_none p.version) s.1 in
    let z : List ℕ = i ++ version_suffix p.version in
    let y : List ℕ = p.name ++ 47 ∷ z in
    let x : List ℕ = p.namespace ++ 58 ∷ y in
    let space = package_lacks 58 p.namespace refl s.0 in
    let named = package_lacks 47 p.name refl t.0 in
    let behind : past 58 x ≡ y = past-there 58 p.namespace y space in
    let last : past 47 (past 58 x) ≡ z = ap (past 47) behind ∙ past-there 47 p.name z named in
    let marked : (has 58 x && has 47 (past 58 x)) ≡ true =
    ap (λ b. b && has 47 (past 58 x)) (has-there 58 p.namespace y) ∙ (ap (has 47) behind ∙ has-there 47 p.name z) in
    let parts = last-parts i p.version l in
    let a : until 58 x ≡ p.namespace = until-there 58 p.namespace y space in
    let b : until 47 (past 58 x) ≡ p.name = ap (until 47) behind ∙ until-there 47 p.name z named in
    let c : version_in (past 47 (past 58 x)) ≡ p.version = ap version_in last ∙ parts.0 in
    let d : label_in (past 47 (past 58 x)) ≡ i = ap label_in last ∙ parts.1 in
    ap (λ m. if m then Foreign (until 58 x) (until 47 (past 58 x)) (version_in (past 47 (past 58 x))) (label_in (past 47 (past 58 x))) else Local x) marked
    ∙ (λ j. Foreign (a j) (b j) (c j) (d j))

-- ---- the interfaces of a table

package-label : (t : List ℕ) → is_package_label t ≡ true → is_label t ≡ true
unfolding is_package_label
package-label t h = (and_parts (is_label t) _ h).0

module _ (r : Resolve) (full : has_full_names r ≡ true) where
  -- where an interface is of another package, that package has a name
  pub other-named : (i : Interface) (p : PackageParts) → other_package r i ≡ Some p → (slice_get r.packages i.«package».0 ≡ Some p) × (is_package_name p ≡ true)
  other-named i p e = by (is_interface_of (own_package r.packages) i) e
    where
      by : (b : Bool) → (if b then None else slice_get r.packages i.«package».0) ≡ Some p → (slice_get r.packages i.«package».0 ≡ Some p) × (is_package_name p ≡ true)
      by true q = absurd cc
      by false q = (q, all-get is_package_name r.packages i.«package».0 p full q)

  pub path-spelt : (i : Interface) → IsLabel i.name → path_to r i ≡ path_named (name_here r i)
  path-spelt i l = by (other_package r i) refl
    where
      by : (o : Option PackageParts) → other_package r i ≡ o → path_in o i.name ≡ path_named (full_name_in o i.name)
      by None e = sym (label-path i.name l)
      by (Some p) e = sym (full-path p i.name (other-named i p e).1 l)

  path-printable : (i : Interface) → IsLabel i.name → IsPrintablePath (path_to r i)
  path-printable i l = by (other_package r i) refl
    where
      by : (o : Option PackageParts) → other_package r i ≡ o → IsPrintablePath (path_in o i.name)
      by None e = l
      by (Some p) e =
          let s = and_parts (is_package_label p.namespace) (is_package_label p.name && is_version_or_none p.version) (other-named i p e).1 in
          let t = and_parts (is_package_label p.name) (is_version_or_none p.version) s.1 in
          (package-label p.namespace s.0, package-label p.name t.0, version-printable p.version t.1, l)

  spelt-from : (is : List Interface) → All IsLabel (labels_of is) → (j : ℕ) → j < length is → path_if r (slice_get is j) ≡ path_named (get_or (map (name_here r) is) j [])
  spelt-from [] h j l = absurd (omega (arith, l))
  spelt-from (i ∷ is) h zero l = path-spelt i (all-head IsLabel i.name (labels_of is) h)
  spelt-from (i ∷ is) h (suc j) l = spelt-from is (all-tail IsLabel i.name (labels_of is) h) j (omega (arith, l))

  printable-from : (is : List Interface) → All IsLabel (labels_of is) → (j : ℕ) → j < length is → IsPrintablePath (path_if r (slice_get is j))
  printable-from [] h j l = absurd (omega (arith, l))
  printable-from (i ∷ is) h zero l = path-printable i (all-head IsLabel i.name (labels_of is) h)
  printable-from (i ∷ is) h (suc j) l = printable-from is (all-tail IsLabel i.name (labels_of is) h) j (omega (arith, l))

  module _ (labels : All IsLabel (labels_of r.interfaces)) where
    -- the path to an interface is that of the name that it goes by
    pub paths-spelt : (j : ℕ) → j < length r.interfaces → path_at r j ≡ path_named (get_or (own_names r) j [])
    paths-spelt = spelt-from r.interfaces labels

    pub paths-printable : (j : ℕ) → j < length r.interfaces → IsPrintablePath (path_named (get_or (own_names r) j []))
    paths-printable j l = subst IsPrintablePath (paths-spelt j l) (printable-from r.interfaces labels j l)
