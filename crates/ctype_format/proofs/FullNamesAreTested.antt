-- The test of a full name tells whether a text has the parts of one.
use Rattle.std.proofs.Common.{◌≡◌, IsTrue, ℕ, Bool, true, false, ◌&&◌, List, [], ◌∷◌, ◌++◌, Option, None, Some, Result, Ok, Err, refl, sym, ap, subst, ◌∙◌, arith, eqb, cond}
use Rattle.std.specs.Prelude.{MatchResult, IsUtf8, is_ok, ◌||◌}
use Rattle.std.specs.Str.{is_utf8}
use Rattle.std.proofs.lemmas.Str.{is_utf8-from_IsUtf8, IsUtf8-from_is_utf8}
use Rattle.std.proofs.lemmas.Bool.{eq-eqb, ne_eqb, eqb-true}
use Rattle.std.proofs.lemmas.List.{append-nil}
use Rattle.std.proofs.lemmas.Option.{same_Some}
use Rattle.atoms.specs.Label.{is_label}
use Rattle.atoms.specs.FullName.{NameParts, Lacks, IsName, IsFullName, is_package_label, is_version, version_suffix, name_text, package_text}
use Rattle.atoms.specs.declared.error.AtomError.TheVariants as error
use Rattle.atoms.proofs.FullNamesHaveOneReading.{label_lacks, package_lacks, behind, first, second}
use Rattle.ctype_format.specs.Names.{cut_at, behind_first, is_versioned, is_versioned_name, is_packaged, is_spaced, is_full_name, is_extern_name}

-- ---- cutting a text

other : (mark c : ℕ) (cs : List ℕ) → Lacks mark (c ∷ cs) → eqb c mark ≡ false
other mark c cs h = ne_eqb c mark (λ same. h 0 (omega arith) same)

cut_found : (mark : ℕ) (front back : List ℕ) → Lacks mark front → cut_at mark (front ++ mark ∷ back) ≡ Some (front, back)
cut_found mark [] back h = rw (eq-eqb mark mark refl) refl
cut_found mark (c ∷ front) back h = rw (other mark c front h, cut_found mark front back (behind mark c front h)) refl

cut_none : (mark : ℕ) (text : List ℕ) → Lacks mark text → cut_at mark text ≡ None
cut_none mark [] h = refl
cut_none mark (c ∷ text) h = rw (other mark c text h, cut_none mark text (behind mark c text h)) refl

cut_is : (mark : ℕ) (text : List ℕ) (x : List ℕ × List ℕ) → cut_at mark text ≡ Some x → text ≡ x.0 ++ mark ∷ x.1
cut_is mark [] x e = absurd cc
cut_is mark (c ∷ cs) x e = by (λ y is. cut_is mark cs y is) (eqb c mark) refl e
  where
    within : ((y : List ℕ × List ℕ) → cut_at mark cs ≡ Some y → cs ≡ y.0 ++ mark ∷ y.1) → (o : Option (List ℕ × List ℕ)) → cut_at mark cs ≡ o → behind_first c o ≡ Some x → c ∷ cs ≡ x.0 ++ mark ∷ x.1
    within again None is h = absurd cc
    within again (Some y) is h = subst (λ (z : List ℕ × List ℕ). c ∷ cs ≡ z.0 ++ mark ∷ z.1) (same_Some (c ∷ y.0, y.1) x h) (ap (λ (t : List ℕ). c ∷ t) (again y is))

    by : ((y : List ℕ × List ℕ) → cut_at mark cs ≡ Some y → cs ≡ y.0 ++ mark ∷ y.1) → (b : Bool) → eqb c mark ≡ b → cond b (Some ([], cs)) (behind_first c (cut_at mark cs)) ≡ Some x → c ∷ cs ≡ x.0 ++ mark ∷ x.1
    by again true is h = subst (λ (z : List ℕ × List ℕ). c ∷ cs ≡ z.0 ++ mark ∷ z.1) (same_Some ([], cs) x h) (ap (λ (d : ℕ). d ∷ cs) (eqb-true c mark is))
    by again false is h = within again (cut_at mark cs) refl h

-- ---- a full name passes the test

name_passes : (text name : List ℕ) (version : Option (List ℕ)) → IsName text name version → is_versioned_name text ≡ true
name_passes text name None h =
    let is : text ≡ name = h.spelt ∙ append-nil name in
    let labelled : IsTrue (is_label text) = subst (λ (t : List ℕ). IsTrue (is_label t)) (sym is) h.label in
    rw (cut_none 64 text (label_lacks 64 text refl labelled)) labelled
name_passes text name (Some version) h =
    let cut : cut_at 64 text ≡ Some (name, version) = ap (cut_at 64) h.spelt ∙ cut_found 64 name version (label_lacks 64 name refl h.label) in
    let l : is_label name ≡ true = h.label in
    let v : is_version version ≡ true = h.reads in
    rw cut (rw (l, v) refl)

pub full_name_passes : (text : List ℕ) (parts : NameParts) → IsFullName text parts → is_full_name text ≡ true
unfolding is_full_name
full_name_passes text parts h =
    let cut : cut_at 58 text ≡ Some (parts.namespace, package_text parts) = ap (cut_at 58) h.spelt ∙ cut_found 58 parts.namespace (package_text parts) (package_lacks 58 parts.namespace refl h.namespace) in
    let next : cut_at 47 (package_text parts) ≡ Some (parts.package_name, name_text parts) = cut_found 47 parts.package_name (name_text parts) (package_lacks 47 parts.package_name refl h.package_name) in
    let a : is_package_label parts.namespace ≡ true = h.namespace in
    let b : is_package_label parts.package_name ≡ true = h.package_name in
    let c : is_versioned_name (name_text parts) ≡ true = name_passes (name_text parts) parts.name parts.version h.name in
    rw cut (rw (a, next) (rw (b, c) refl))

-- ---- what passes the test is a full name

name_parts : (text : List ℕ) → is_versioned_name text ≡ true → (name : List ℕ) × (version : Option (List ℕ)) × IsName text name version
name_parts text h = by (cut_at 64 text) refl h
  where
    by : (o : Option (List ℕ × List ℕ)) → cut_at 64 text ≡ o → is_versioned text o ≡ true → (name : List ℕ) × (version : Option (List ℕ)) × IsName text name version
    by None is h = (text, None, record { spelt = sym (append-nil text); label = h; reads = refl })
    by (Some x) is h = (x.0, Some x.1, record { spelt = cut_is 64 text x is; label = first (is_label x.0) (is_version x.1) h; reads = second (is_label x.0) (is_version x.1) h })

packaged_parts : (text : List ℕ) → is_packaged (cut_at 47 text) ≡ true → (named : List ℕ) × (rest : List ℕ) × (text ≡ named ++ 47 ∷ rest) × IsTrue (is_package_label named) × (is_versioned_name rest ≡ true)
packaged_parts text h = by (cut_at 47 text) refl h
  where
    by : (o : Option (List ℕ × List ℕ)) → cut_at 47 text ≡ o → is_packaged o ≡ true → (named : List ℕ) × (rest : List ℕ) × (text ≡ named ++ 47 ∷ rest) × IsTrue (is_package_label named) × (is_versioned_name rest ≡ true)
    by None is h = absurd cc
    by (Some x) is h = (x.0, x.1, cut_is 47 text x is, first (is_package_label x.0) (is_versioned_name x.1) h, second (is_package_label x.0) (is_versioned_name x.1) h)

spaced_parts : (text : List ℕ) → is_spaced (cut_at 58 text) ≡ true → (space : List ℕ) × (rest : List ℕ) × (text ≡ space ++ 58 ∷ rest) × IsTrue (is_package_label space) × (is_packaged (cut_at 47 rest) ≡ true)
spaced_parts text h = by (cut_at 58 text) refl h
  where
    by : (o : Option (List ℕ × List ℕ)) → cut_at 58 text ≡ o → is_spaced o ≡ true → (space : List ℕ) × (rest : List ℕ) × (text ≡ space ++ 58 ∷ rest) × IsTrue (is_package_label space) × (is_packaged (cut_at 47 rest) ≡ true)
    by None is h = absurd cc
    by (Some x) is h = (x.0, x.1, cut_is 58 text x is, first (is_package_label x.0) (is_packaged (cut_at 47 x.1)) h, second (is_package_label x.0) (is_packaged (cut_at 47 x.1)) h)

pub full_name_parts : (text : List ℕ) → is_full_name text ≡ true → (parts : NameParts) × IsFullName text parts
unfolding is_full_name
full_name_parts text h =
    let s = spaced_parts text h in
    let p = packaged_parts s.1 s.4 in
    let n = name_parts p.1 p.4 in
    let parts : NameParts = record { namespace = s.0; package_name = p.0; name = n.0; version = n.1 } in
    let spelt : text ≡ s.0 ++ 58 ∷ (p.0 ++ 47 ∷ (n.0 ++ version_suffix n.1)) = s.2 ∙ ap (λ (t : List ℕ). s.0 ++ 58 ∷ t) (p.2 ∙ ap (λ (t : List ℕ). p.0 ++ 47 ∷ t) n.2.spelt) in
    (parts, record { spelt = spelt; namespace = s.3; package_name = p.3; name = subst (λ (t : List ℕ). IsName t n.0 n.1) n.2.spelt n.2 })

-- what was refused as no full name is none
pub refused : (text : List ℕ) → ((parts : NameParts) → IsFullName text parts → error.BadName ≡ error.NoMemory) → is_full_name text ≡ false
refused text only = by (is_full_name text) refl
  where
    by : (b : Bool) → is_full_name text ≡ b → is_full_name text ≡ false
    by false is = is
    by true is = let p = full_name_parts text is in let clash : error.BadName ≡ error.NoMemory = only p.0 p.1 in cc

-- ---- UTF-8

not_utf8 : (bytes : List ℕ) → ¬ (IsUtf8 bytes) → is_utf8 bytes ≡ false
not_utf8 bytes none = by (is_utf8 bytes) refl
  where
    by : (b : Bool) → is_utf8 bytes ≡ b → is_utf8 bytes ≡ false
    by false is = is
    by true is = absurd (none (IsUtf8-from_is_utf8 bytes is))

pub utf8_tested : {A E : Type 0} (bytes : List ℕ) (P : A → Type 0) (Q : E → Type 0) (r : Result A E) → MatchResult r (λ s. P s × IsUtf8 bytes) (λ e. ¬ (IsUtf8 bytes) × Q e) → is_ok r ≡ is_utf8 bytes
utf8_tested bytes P Q (Ok s) h = sym (is_utf8-from_IsUtf8 bytes h.1)
utf8_tested bytes P Q (Err e) h = sym (not_utf8 bytes h.0)

pub extern_full : (text : List ℕ) → is_label text ≡ false → IsUtf8 text → is_extern_name text ≡ is_full_name text
unfolding is_extern_name
extern_full text out utf8 = rw (out, is_utf8-from_IsUtf8 text utf8) refl

pub extern_none : (text : List ℕ) → is_label text ≡ false → ¬ (IsUtf8 text) → is_extern_name text ≡ false
unfolding is_extern_name
extern_none text out none = rw (out, not_utf8 text none) refl

pub label_passes : (text : List ℕ) → is_label text ≡ true → is_extern_name text ≡ true
unfolding is_extern_name
label_passes text is = rw is refl

pub extern_passes : (text : List ℕ) → IsUtf8 text → is_full_name text ≡ true → is_extern_name text ≡ true
unfolding is_extern_name
extern_passes text utf8 is = rw (is_utf8-from_IsUtf8 text utf8, is) (by (is_label text))
  where
    by : (b : Bool) → (b || true) ≡ true
    by true = refl
    by false = refl
