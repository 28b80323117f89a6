-- Sections and the file are read exactly.
use Rattle.std.proofs.Common.{◌≡◌, ℕ, zero, suc, false, List, [], ◌∷◌, ◌++◌, Option, Some, None, refl, subst, arith}
use Rattle.std.specs.Prelude.{◌||◌, ◌==◌}
use Rattle.atoms.specs.Production.{give, by_option, unless_some, at_end, next, passes}
use Rattle.atoms.specs.Exactness.{Anything, Unless}
use Rattle.atoms.proofs.productions.ProductionsReadExactly as laws
use Rattle.atoms.proofs.productions.ProductionsReadExactly.{exact-then, exact-bind, exact-last, exact-give, exact-never, exact-when, exact-times, exact-run, exact-end}
use Rattle.ctype_format.specs.declared.error.Fault.TheVariants.{UnknownOpcode, BadSection, NotComponent}
use Rattle.ctype_format.specs.declared.error.Stuck.TheVariants.{End, Past}
use Rattle.ctype_format.specs.declared.scope.Scope.{Scope}
use Rattle.ctype_bin.specs.Exactness.{ExactBytes, ExactToEnd, Inside, within}
use Rattle.ctype_format.specs.Bytes.{Bytes, byte, only_bytes, unless, u32, sized, remaining, ended}
use Rattle.ctype_format.specs.Grammar.{zero_byte, index, utf8, extern_name, new_scope, type}
use Rattle.ctype_format.specs.File as f
use Rattle.ctype_bin.proofs.ReadsExactly.PlainProductions.{exact-byte, exact-only, exact-remaining}
use Rattle.ctype_bin.proofs.ReadsExactly.Numbers.{exact-u32}
use Rattle.ctype_bin.proofs.ReadsExactly.SizedParts.{exact-sized}
use Rattle.ctype_bin.proofs.ReadsExactly.Types.{exact-index, exact-zero, exact-utf8, exact-extern, exact-type}

pub exact-exactly : (bytes : List ℕ) → ExactBytes (f.exactly bytes)
unfolding f.exactly
exact-exactly [] = exact-give within 0
exact-exactly (b ∷ bs) = exact-then within (only_bytes byte (λ x. unless (x == b) NotComponent)) (λ first. f.exactly bs) (exact-only byte _ exact-byte) (λ first. exact-exactly bs)

-- ---- custom sections

pub exact-content : ExactToEnd f.custom_content
unfolding f.custom_content
exact-content = exact-then within utf8 (λ text. remaining) exact-utf8 (λ text. exact-remaining)

exact-custom : ExactBytes f.custom
unfolding f.custom
exact-custom = exact-then within u32 (λ size. sized (λ missing. End) size f.custom_content) exact-u32 (λ size. exact-sized (λ missing. End) size f.custom_content exact-content (λ x. refl) (λ n bytes. tt))

exact-head : (id : ℕ) → ExactBytes (f.head id)
unfolding f.head
exact-head id = exact-then within (only_bytes byte (λ b. unless (b == 0 || b == id) (BadSection b))) _ (exact-only byte _ exact-byte) (λ b.
    exact-when within (b == 0) f.skipped f.announced (exact-then within f.custom _ exact-custom (λ c. exact-give within None)) (exact-then within u32 _ exact-u32 (λ size. exact-give within (Some size))))

exact-by : (p : Bytes ℕ) → ExactBytes p → (o : Option ℕ) → ExactBytes (by_option o p give)
exact-by p ep None = ep
exact-by p ep (Some x) = exact-give within x

exact-section : (id n : ℕ) → ExactBytes (f.section id n)
unfolding f.section
exact-section id zero = exact-never within ended (λ bytes. tt)
exact-section id (suc n) = exact-then within (f.head id) (λ size. by_option size (f.section id n) give) (exact-head id) (exact-by (f.section id n) (exact-section id n))

trailing_inside : (bytes : List ℕ) → Inside (f.trailing_fault bytes) bytes
trailing_inside [] = tt
trailing_inside (b ∷ bs) = omega arith

exact-ended : ExactToEnd (at_end f.trailing_fault)
exact-ended = exact-end within f.trailing_fault (λ bytes some. trailing_inside bytes)

exact-unless : (p : Bytes ℕ) → ExactToEnd p → (c : Option ℕ) → ExactToEnd (unless_some c p (at_end f.trailing_fault))
exact-unless p ep (Some x) = ep
exact-unless p ep None = exact-ended

exact-trailing : (n : ℕ) → ExactToEnd (f.trailing n)
unfolding f.trailing
exact-trailing zero = exact-never within ended (λ bytes. tt)
exact-trailing (suc n) = exact-bind within f.custom_next (λ more. unless_some more (f.trailing n) (at_end f.trailing_fault))
    (laws.exact-optional within (λ b. b == 0) (λ b. f.custom) (λ b. exact-custom)) (exact-unless (f.trailing n) (exact-trailing n)) off
  where
    off : (c : Option ℕ) (y : ℕ) (text rest : List ℕ) → (unless_some c (f.trailing n) (at_end f.trailing_fault)).spells text y → next rest ≡ None → Unless (λ b. b == 0) Anything c (next (text ++ rest))
    off (Some x) y text rest s end = tt
    off None y text rest s end =
        let e : rest ≡ text ++ rest = (rw s.0 refl) in
        subst (λ (r : List ℕ). passes (λ b. b == 0) (next r) ≡ false) e (rw end refl)

-- ---- the file

exact-entry : (scope : Scope) → ExactBytes (f.entry_of_type scope)
unfolding f.entry_of_type
exact-entry scope = exact-then within (type f.max_scope_depth [] scope) _ (exact-type f.max_scope_depth [] scope) (λ t. exact-give within _)

pub exact-type_section : ExactBytes f.type_section
unfolding f.type_section
exact-type_section = exact-then within u32 _ exact-u32 (λ n. exact-run within f.entry_of_type exact-entry n (new_scope 0))

exact-exported : (types : ℕ) → ExactBytes (f.exported types)
unfolding f.exported
exact-exported types = exact-then within extern_name _ exact-extern (λ text. exact-then within (only_bytes byte (λ b. unless (b == 3) (UnknownOpcode b))) _ (exact-only byte _ exact-byte) (λ sort. exact-then within (index types) _ (exact-index types) (λ i. exact-then within zero_byte _ exact-zero (λ close. exact-give within _))))

pub exact-export_section : (types : ℕ) → ExactBytes (f.export_section types)
unfolding f.export_section
exact-export_section types = exact-then within u32 _ exact-u32 (λ n. exact-times within n (f.exported types) (exact-exported types))

pub exact-file : ExactToEnd f.component_file
unfolding f.component_file
exact-file =
    exact-then within (f.exactly f.preamble) _ (exact-exactly f.preamble) (λ mark.
    exact-then within (f.section 7 f.max_length) _ (exact-section 7 f.max_length) (λ size.
    exact-then within (sized Past size f.type_section) _ (exact-sized Past size f.type_section exact-type_section (λ x. tt) (λ n bytes. tt)) (λ types.
    exact-then within (f.section 11 f.max_length) _ (exact-section 11 f.max_length) (λ more.
    exact-then within (sized Past more (f.export_section types.1.types)) _ (exact-sized Past more (f.export_section types.1.types) (exact-export_section types.1.types) (λ x. tt) (λ n bytes. tt)) (λ exports.
    exact-last within (f.trailing f.max_length) (λ rest. record { types = types.0; exports = exports }) (exact-trailing f.max_length) (λ x n h. h))))))
