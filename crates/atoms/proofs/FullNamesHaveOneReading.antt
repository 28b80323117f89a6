-- A full name has one reading: its parts are told by the first mark of each kind.
use Rattle.std.specs.Result.{IsErrAnd}
use Rattle.std.specs.Option.{MatchOption}
use Rattle.std.proofs.lemmas.Result.{err_from_is_err_and}
use Rattle.std.proofs.Common.{◌≡◌, ◌⊎◌, inl, inr, Result, IfSome, IfNone, MatchResult, ℕ, zero, suc, Bool, true, false, not, ◌&&◌, List, [], ◌∷◌, ◌++◌, Option, None, Some, IsTrue, refl, sym, ap, ◌∙◌, subst, arith}
use Rattle.std.specs.List.{list_all}
use Rattle.atoms.specs.Label.{is_upper, is_label}
use Rattle.atoms.specs.FullName.{NameParts, is_package_label, name_text, package_text, Lacks, IsName, IsFullName}
use Rattle.atoms.specs.declared.error.AtomError.{AtomError}
use Rattle.atoms.specs.declared.error.AtomError.TheVariants as error
use Rattle.atoms.proofs.LabelsInOnePass.{is_label_byte, label_bytes}

is_true : (b : Bool) → IsTrue b → b ≡ true
is_true b h = h

pub first : (a b : Bool) → (a && b) ≡ true → a ≡ true
first true b h = refl
first false b h = absurd cc

pub second : (a b : Bool) → (a && b) ≡ true → b ≡ true
second true b h = h
second false b h = absurd cc

-- a text of label bytes lacks any other mark
lacks_other : (mark : ℕ) (text : List ℕ) → is_label_byte mark ≡ false → list_all is_label_byte text ≡ true → Lacks mark text
lacks_other mark [] other h i below e = omega arith
lacks_other mark (c ∷ cs) other h zero below e =
    let is : is_label_byte c ≡ true = first (is_label_byte c) (list_all is_label_byte cs) h in
    let no : is_label_byte c ≡ false = ap is_label_byte e ∙ other in
    let clash : true ≡ false = sym is ∙ no in cc
lacks_other mark (c ∷ cs) other h (suc i) below e =
    lacks_other mark cs other (second (is_label_byte c) (list_all is_label_byte cs) h) i (omega arith) e

pub label_lacks : (mark : ℕ) (text : List ℕ) → is_label_byte mark ≡ false → IsTrue (is_label text) → Lacks mark text
label_lacks mark text other h = lacks_other mark text other (label_bytes text (is_true (is_label text) h))

pub package_lacks : (mark : ℕ) (text : List ℕ) → is_label_byte mark ≡ false → IsTrue (is_package_label text) → Lacks mark text
unfolding is_package_label
package_lacks mark text other h =
    lacks_other mark text other (label_bytes text (first (is_label text) (list_all (λ c. not (is_upper c)) text) (is_true (is_package_label text) h)))

-- a text with the mark doesn't lack it
pub has_mark : (mark : ℕ) (xs ys : List ℕ) → Lacks mark (xs ++ mark ∷ ys) → ⊥
has_mark mark [] ys h = h 0 (omega arith) refl
has_mark mark (x ∷ xs) ys h = has_mark mark xs ys (λ i below e. h (suc i) (omega arith) e)

pub behind : (mark x : ℕ) (xs : List ℕ) → Lacks mark (x ∷ xs) → Lacks mark xs
behind mark x xs h i below e = h (suc i) (omega arith) e

-- what stands before the first mark and behind it is told by the text
pub cut_once : (mark : ℕ) (xs ys us vs : List ℕ) → Lacks mark xs → Lacks mark ys → xs ++ mark ∷ us ≡ ys ++ mark ∷ vs → (xs ≡ ys) × (us ≡ vs)
cut_once mark [] [] us vs h k e = (refl, cc)
cut_once mark [] (y ∷ ys) us vs h k e = absurd (k 0 (omega arith) (let same : mark ≡ y = cc in sym same))
cut_once mark (x ∷ xs) [] us vs h k e = absurd (h 0 (omega arith) (let same : x ≡ mark = cc in same))
cut_once mark (x ∷ xs) (y ∷ ys) us vs h k e =
    let head : x ≡ y = cc in
    let tail : xs ++ mark ∷ us ≡ ys ++ mark ∷ vs = cc in
    let rest = cut_once mark xs ys us vs (behind mark x xs h) (behind mark y ys k) tail in
    (let same = rest.0 in cc, rest.1)

-- ---- the parts of a full name

pub no_namespace : (text : List ℕ) (parts : NameParts) → IsFullName text parts → Lacks 58 text → ⊥
no_namespace text parts h lacks = has_mark 58 parts.namespace (package_text parts) (subst (Lacks 58) h.spelt lacks)

pub namespace_cut : (text before rest : List ℕ) (parts : NameParts) → IsFullName text parts → text ≡ before ++ 58 ∷ rest → Lacks 58 before → (before ≡ parts.namespace) × (rest ≡ package_text parts)
namespace_cut text before rest parts h e lacks =
    cut_once 58 before parts.namespace rest (package_text parts) lacks (package_lacks 58 parts.namespace refl h.namespace) (sym e ∙ h.spelt)

pub no_package : (rest : List ℕ) (parts : NameParts) → rest ≡ package_text parts → Lacks 47 rest → ⊥
no_package rest parts e lacks = has_mark 47 parts.package_name (name_text parts) (subst (Lacks 47) e lacks)

pub package_cut : (text rest before last : List ℕ) (parts : NameParts) → IsFullName text parts → rest ≡ package_text parts → rest ≡ before ++ 47 ∷ last → Lacks 47 before
    → (before ≡ parts.package_name) × (last ≡ name_text parts)
package_cut text rest before last parts h e f lacks =
    cut_once 47 before parts.package_name last (name_text parts) lacks (package_lacks 47 parts.package_name refl h.package_name) (sym f ∙ e)

-- ---- the name and its version

pub no_version : (text name : List ℕ) (version : Option (List ℕ)) → IsName text name version → Lacks 64 text → (text ≡ name) × (version ≡ None)
no_version text name None h lacks = (h.spelt ∙ no_more name, refl)
  where
    no_more : (xs : List ℕ) → xs ++ [] ≡ xs
    no_more [] = refl
    no_more (x ∷ xs) = ap (λ l. x ∷ l) (no_more xs)
no_version text name (Some version) h lacks = absurd (has_mark 64 name version (subst (Lacks 64) h.spelt lacks))

pub version_cut : (text before rest name : List ℕ) (version : Option (List ℕ)) → IsName text name version → text ≡ before ++ 64 ∷ rest → Lacks 64 before → (before ≡ name) × (Some rest ≡ version)
version_cut text before rest name None h e lacks =
    absurd (has_mark 64 before rest (subst (Lacks 64) (sym (h.spelt ∙ no_more name) ∙ e) (label_lacks 64 name refl h.label)))
  where
    no_more : (xs : List ℕ) → xs ++ [] ≡ xs
    no_more [] = refl
    no_more (x ∷ xs) = ap (λ l. x ∷ l) (no_more xs)
version_cut text before rest name (Some version) h e lacks =
    let c = cut_once 64 before name rest version lacks (label_lacks 64 name refl h.label) (sym e ∙ h.spelt) in (c.0, ap (λ v. Some v) c.1)

pub same_parts : (namespace named name : List ℕ) (version : Option (List ℕ)) (parts : NameParts) → namespace ≡ parts.namespace → named ≡ parts.package_name → name ≡ parts.name → version ≡ parts.version
    → record { namespace = namespace; package_name = named; name = name; version = version } ≡ parts
same_parts namespace named name version parts e f g h = rw (e, f, g, h) refl

-- ---- outcomes

pub of_some : {A : Type 0} (N : Type 0) (P : A → Type 0) (r : Option A) → MatchOption r N P → IfSome r P
of_some N P None h = tt
of_some N P (Some x) h = h

pub of_none : {A : Type 0} (N : Type 0) (P : A → Type 0) (r : Option A) → MatchOption r N P → IfNone r N
of_none N P None h = h
of_none N P (Some x) h = tt

memory : (P : Type 0) (e : AtomError) → (e ≡ error.NoMemory) ⊎ ((e ≡ error.BadName) × (P → ⊥)) → P → e ≡ error.NoMemory
memory P e (inl m) holds = m
memory P e (inr b) holds = absurd (b.1 holds)

-- a part that was read as bad is no such part, so that the fault was want of memory
pub fails : {X : Type 0} (P : Type 0) (Y : X → Type 0) (r : Result X AtomError) (e : AtomError) → IsErrAnd r (λ y. y ≡ e)
    → (e ≡ error.NoMemory) ⊎ ((e ≡ error.BadName) × (P → ⊥)) → P → MatchResult r Y (λ f. f ≡ error.NoMemory)
fails P Y r e is cases holds = let p = err_from_is_err_and r is in rw p.1 (p.2 ∙ memory P e cases holds)

-- the same where the part was told by a clause of its own
pub fails_as : {X : Type 0} (Y : X → Type 0) (r : Result X AtomError) (e : AtomError) → IsErrAnd r (λ y. y ≡ e) → e ≡ error.NoMemory → MatchResult r Y (λ f. f ≡ error.NoMemory)
fails_as Y r e is want = let p = err_from_is_err_and r is in rw p.1 (p.2 ∙ want)
