-- Worked examples: labels, full names, versions and LEB128 numbers, and what is none of them.
use Rattle.std.proofs.Common.{◌≡◌, ℕ, ◌<◌, ◌≤◌, ◌++◌, true, false, List, [], ◌∷◌, length, replicate, get_or, Option, Some, None, Ok, Err, codes, refl, ap, arith}
use Rattle.std.specs.Prelude.{⊤, is_ok}
use Rattle.semver.specs.Parse.{version_parts}
use Rattle.semver.proofs.OnLiterals.{semver_on_literals}
use Rattle.atoms.specs.Label.{is_label, IsLabel}
use Rattle.atoms.specs.FullName.{NameParts, is_package_label, is_version, is_version_or_none, version_suffix, name_text, package_text, full_name_text, IsFullName}
use Rattle.atoms.specs.FullNameView.{name_parts_of}
use Rattle.atoms.specs.declared.full_name.FullName.{FullName}
use Rattle.atoms.specs.Leb128.{EndsEarly, sum_from, SpellsU32, SpellsS33, groups_at}
use Rattle.atoms.specs.declared.error.AtomError.TheVariants.{Truncated, Overlong}

-- what an example unfolds to compute labels, names and versions that are written out
unfoldable pub names_on_literals : ⊤
unfolding semver_on_literals is_label is_package_label is_version
names_on_literals = tt

-- ---- labels

label-lower : is_label (codes "get-all2-z") ≡ true
unfolding names_on_literals
label-lower = refl

-- each word has a case of its own
label-both : IsLabel (codes "AZ09-a-Z")
unfolding names_on_literals
label-both = refl

label-mixed : is_label (codes "getAll") ≡ false
unfolding names_on_literals
label-mixed = refl

label-mixed-upper : is_label (codes "URl") ≡ false
unfolding names_on_literals
label-mixed-upper = refl

label-two-hyphens : is_label (codes "a--b") ≡ false
unfolding names_on_literals
label-two-hyphens = refl

label-hyphen-first : is_label (codes "-a") ≡ false
unfolding names_on_literals
label-hyphen-first = refl

label-hyphen-last : IsLabel (codes "a-") → ⊥
unfolding names_on_literals
label-hyphen-last h = let e : false ≡ true = h in cc

label-digit-first : is_label (codes "1a") ≡ false
unfolding names_on_literals
label-digit-first = refl

-- a digit begins no word
label-digit-word : is_label (codes "A-1") ≡ false
unfolding names_on_literals
label-digit-word = refl

label-empty : is_label [] ≡ false
unfolding names_on_literals
label-empty = refl

label-underscore : is_label (codes "a_b") ≡ false
unfolding names_on_literals
label-underscore = refl

-- next to the letters and the digits: @ [ ` { / :
label-around : (is_label (codes "a@") ≡ false) × (is_label (codes "A[") ≡ false) × (is_label (codes "a`") ≡ false) × (is_label (codes "a{") ≡ false) × (is_label (codes "a/") ≡ false) × (is_label (codes "a:") ≡ false)
unfolding names_on_literals
label-around = (refl, refl, refl, refl, refl, refl)

label-255 : is_label (replicate 255 97) ≡ true
unfolding names_on_literals
label-255 = refl

label-256 : is_label (replicate 256 97) ≡ false
unfolding names_on_literals
label-256 = refl

package-label : is_package_label (codes "a1-b") ≡ true
unfolding names_on_literals
package-label = refl

package-upper : is_package_label (codes "a-B") ≡ false
unfolding names_on_literals
package-upper = refl

package-no-label : is_package_label (codes "a-") ≡ false
unfolding names_on_literals
package-no-label = refl

-- ---- versions

version-plain : is_version (codes "1.0.10") ≡ true
unfolding names_on_literals
version-plain = refl

version-long : is_version (codes "1.2.3-rc.1+build.05") ≡ true
unfolding names_on_literals
version-long = refl

version-two : is_version (codes "1.0") ≡ false
unfolding names_on_literals
version-two = refl

version-zero : is_version (codes "1.01.0") ≡ false
unfolding names_on_literals
version-zero = refl

version-v : is_version (codes "v1.0.0") ≡ false
unfolding names_on_literals
version-v = refl

-- 255 bytes are not too many
version-255 : (text : List ℕ) → length text ≡ 255 → is_version text ≡ is_ok (version_parts text)
unfolding names_on_literals
version-255 text h = rw h refl

version-256 : is_version (codes "1.0.0-" ++ replicate 250 97) ≡ false
unfolding names_on_literals
version-256 = refl

no-version : is_version_or_none None ≡ true
no-version = refl

some-version : is_version_or_none (Some (codes "1")) ≡ false
unfolding names_on_literals
some-version = refl

-- ---- full names

abbrev parts : Option (List ℕ) → NameParts
parts v = record { namespace = codes "wasi"; package_name = codes "io-x2"; name = codes "POLL"; version = v }

full-name : IsFullName (codes "wasi:io-x2/POLL") (parts None)
unfolding names_on_literals
full-name = record { spelt = refl; namespace = refl; package_name = refl; name = record { spelt = refl; label = refl; reads = refl } }

full-name-version : IsFullName (codes "wasi:io-x2/POLL@0.2.0") (parts (Some (codes "0.2.0")))
unfolding names_on_literals
full-name-version = record { spelt = refl; namespace = refl; package_name = refl; name = record { spelt = refl; label = refl; reads = refl } }

full-name-pieces : (version_suffix (Some (codes "0.2.0")) ≡ codes "@0.2.0") × (name_text (parts (Some (codes "0.2.0"))) ≡ codes "POLL@0.2.0") × (package_text (parts None) ≡ codes "io-x2/POLL") × (full_name_text (parts None) ≡ codes "wasi:io-x2/POLL")
full-name-pieces = (refl, refl, refl, refl)

-- the name of another interface
full-name-other : IsFullName (codes "wasi:io-x2/POLE") (parts None) → ⊥
full-name-other h = let e : get_or (codes "wasi:io-x2/POLE") 14 0 ≡ get_or (full_name_text (parts None)) 14 0 = ap (λ (t : List ℕ). get_or t 14 0) h.spelt in omega (arith, e)

-- a version is a part of the name
full-name-unversioned : IsFullName (codes "wasi:io-x2/POLL") (parts (Some (codes "0.2.0"))) → ⊥
full-name-unversioned h = let e : length (codes "wasi:io-x2/POLL") ≡ length (full_name_text (parts (Some (codes "0.2.0")))) = ap (λ (t : List ℕ). length t) h.spelt in omega (arith, e)

-- a namespace and a package have no upper case
full-name-upper-namespace : IsFullName (codes "A:b/c") (record { namespace = codes "A"; package_name = codes "b"; name = codes "c"; version = None }) → ⊥
unfolding names_on_literals
full-name-upper-namespace h = let e : false ≡ true = h.namespace in cc

full-name-upper-package : IsFullName (codes "a:B/c") (record { namespace = codes "a"; package_name = codes "B"; name = codes "c"; version = None }) → ⊥
unfolding names_on_literals
full-name-upper-package h = let e : false ≡ true = h.package_name in cc

full-name-bad-name : IsFullName (codes "a:b/c_d") (record { namespace = codes "a"; package_name = codes "b"; name = codes "c_d"; version = None }) → ⊥
unfolding names_on_literals
full-name-bad-name h = let e : false ≡ true = h.name.label in cc

full-name-bad-version : IsFullName (codes "a:b/c@1") (record { namespace = codes "a"; package_name = codes "b"; name = codes "c"; version = Some (codes "1") }) → ⊥
unfolding names_on_literals
full-name-bad-version h = let e : false ≡ true = h.name.reads in cc

-- the parts of a program's value
full-name-value : (n : FullName) → n.namespace ≡ codes "a" → n.«package» ≡ codes "b" → n.name ≡ codes "C" → n.version ≡ None → full_name_text (name_parts_of n) ≡ codes "a:b/C"
full-name-value n namespace package_name name version = rw (namespace, package_name, name, version) refl

full-name-value-version : (n : FullName) → n.version ≡ None → (name_parts_of n).version ≡ Some (codes "1.0.0") → ⊥
full-name-value-version n version h = let e = rw version at h in cc

-- ---- LEB128: 624485 is e5 8e 26

leb-three : SpellsU32 (0xE5 ∷ 0x8E ∷ 0x26 ∷ []) 624485
leb-three = record { ends = (omega arith, omega arith, (omega arith, omega arith, omega arith)); short = omega arith; fifth = omega arith; value = refl }

leb-greatest : SpellsU32 (0xFF ∷ 0xFF ∷ 0xFF ∷ 0xFF ∷ 0x0F ∷ []) 0xFFFFFFFF
leb-greatest = record { ends = (omega arith, omega arith, (omega arith, omega arith, (omega arith, omega arith, (omega arith, omega arith, omega arith)))); short = omega arith; fifth = omega arith; value = refl }

-- a spelling may be longer than it needs to be
leb-long-zero : SpellsU32 (0x80 ∷ 0x00 ∷ []) 0
leb-long-zero = record { ends = (omega arith, omega arith, omega arith); short = omega arith; fifth = omega arith; value = refl }

-- 33 bits
leb-too-large : (n : ℕ) → SpellsU32 (0xFF ∷ 0xFF ∷ 0xFF ∷ 0xFF ∷ 0x10 ∷ []) n → ⊥
leb-too-large n h = let e : 0x10 < 16 = h.fifth in omega (arith, e)

leb-six : (n : ℕ) → SpellsU32 (0x80 ∷ 0x80 ∷ 0x80 ∷ 0x80 ∷ 0x80 ∷ 0x00 ∷ []) n → ⊥
leb-six n h = let e : 6 ≤ 5 = h.short in omega (arith, e)

leb-other : SpellsU32 (0x80 ∷ 0x01 ∷ []) 1 → ⊥
leb-other h = let e : 1 ≡ sum_from 0 (0x80 ∷ 0x01 ∷ []) = h.value in omega (arith, e)

-- bit 7 of the last byte is set
leb-open : (n : ℕ) → SpellsU32 (0xE5 ∷ []) n → ⊥
leb-open n h = let e : 0xE5 < 128 = h.ends in omega (arith, e)

leb-none : (n : ℕ) → SpellsU32 [] n → ⊥
leb-none n h = h.ends

-- a sign that is clear, and one that is set
leb-sign : SpellsS33 (0x3F ∷ []) 63
leb-sign = record { ends = omega arith; short = omega arith; fifth = omega arith; value = refl }

leb-negative : (n : ℕ) → SpellsS33 (0x40 ∷ []) n → ⊥
leb-negative n h = let e : 0x40 < 64 = h.ends in omega (arith, e)

leb-64 : SpellsS33 (0xC0 ∷ 0x00 ∷ []) 64
leb-64 = record { ends = (omega arith, omega arith, omega arith); short = omega arith; fifth = omega arith; value = refl }

leb-early : EndsEarly SpellsU32 (0xE5 ∷ 0x8E ∷ [])
leb-early = (0x26 ∷ [], 624485, omega arith, leb-three)

-- a number that is whole ends nowhere early
leb-whole : EndsEarly SpellsU32 (0x05 ∷ []) → ⊥
leb-whole ([], n, some, h) = absurd (omega (arith, some))
leb-whole (c ∷ cs, n, some, h) = let e : 128 ≤ 0x05 = h.ends.0 in omega (arith, e)

leb-read : groups_at 128 4 (0xE5 ∷ 0x8E ∷ 0x26 ∷ 0x99 ∷ []) ≡ Ok (624485, 3)
unfolding groups_at
leb-read = refl

leb-read-truncated : groups_at 128 4 (0xE5 ∷ 0x8E ∷ []) ≡ Err Truncated
unfolding groups_at
leb-read-truncated = refl

leb-read-large : groups_at 128 4 (0xFF ∷ 0xFF ∷ 0xFF ∷ 0xFF ∷ 0x10 ∷ []) ≡ Err Overlong
unfolding groups_at
leb-read-large = refl

leb-read-greatest : groups_at 128 4 (0xFF ∷ 0xFF ∷ 0xFF ∷ 0xFF ∷ 0x0F ∷ []) ≡ Ok (0xFFFFFFFF, 5)
unfolding groups_at
leb-read-greatest = refl

leb-read-negative : groups_at 64 4 (0x40 ∷ []) ≡ Err Overlong
unfolding groups_at
leb-read-negative = refl
