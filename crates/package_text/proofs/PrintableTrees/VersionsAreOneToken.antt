-- A version of SemVer is one token of a text behind its `@`.
use Rattle.std.proofs.Common.{◌≡◌, ◌<◌, ◌^◌, ℕ, suc, List, [], ◌∷◌, ◌++◌, length, Result, Ok, Err, refl, sym, ap, subst, ◌∙◌, append-nil, arith}
use Rattle.std.specs.Prelude.{Bool, true, false, ◌&&◌, ◌==◌, nat_lt, nat_le, is_ok, Option, None, Some, if◌then◌else◌}
use Rattle.std.specs.List.{list_all}
use Rattle.std.specs.Fmt.{decimal}
use Rattle.std.specs.Str.{IsAscii}
use Rattle.std.specs.Str.Parse.{AllDigits}
use Rattle.std.proofs.lemmas.Bool.{and_parts, false≢true, ltb-true, le-leb, ne_eqb}
use Rattle.std.proofs.lemmas.Bool.Decides.{nat_tests}
use Rattle.std.proofs.lemmas.Fmt.{decimal_is_IsNumeral}
use Rattle.std.specs.Char.{digit_value}
use Rattle.std.proofs.lemmas.Str.Parse.{digit_from_value}
use Rattle.std.proofs.lemmas.Str.{IsUtf8-from_ascii, is_utf8-from_IsUtf8}
use Rattle.std.proofs.lemmas.Str.Ascii.{IsAscii-nil, IsAscii-cons}
use Rattle.atoms.specs.Label.{is_digit}
use Rattle.atoms.specs.FullName.{is_version, is_version_or_none}
use Rattle.semver.specs.Grammar.{is_identifier_byte, is_build_identifier, is_pre_identifier, is_pre_release, is_build}
use Rattle.semver.specs.Identifiers.{marked}
use Rattle.semver.specs.Order.{parts}
use Rattle.semver.specs.OrderLaws.{join_dots, join-parts, parts-shape}
use Rattle.semver.specs.Parse.{Parts, version_parts}
use Rattle.semver.specs.declared.error.Error.{Error}
use Rattle.semver.proofs.Grammar.{version_parts-sound}
use Rattle.package_form.proofs.AllAndContains.{list-grows}
use Rattle.wit_tokens.specs.Lexing.{begins_digit, dotted, is_in_version, version_run}
use Rattle.wit_print.specs.Printable.{IsPrintableVersion, IsPrintableVersionOrNone}

-- a version's bytes, the last of which is no dot
record IsWhole (v : List ℕ) : Type 0 where
  some : 0 < length v
  bytes : list_all is_in_version v ≡ true
  runs : version_run v ≡ length v

-- ---- bytes

identifier-in : (c : ℕ) → is_identifier_byte c ≡ true → is_in_version c ≡ true
identifier-in c h = grind (arith, nat_tests)

identifier-no-dot : (c : ℕ) → is_identifier_byte c ≡ true → (c == 46) ≡ false
identifier-no-dot c h = grind (arith, nat_tests)

digit-identifies : (c : ℕ) → is_digit c ≡ true → is_identifier_byte c ≡ true
digit-identifies c h = grind (arith, nat_tests)

version-low : (c : ℕ) → is_in_version c ≡ true → c < 128
version-low c h = grind (arith, nat_tests)

version-ascii : (v : List ℕ) → list_all is_in_version v ≡ true → IsAscii v
version-ascii [] h = IsAscii-nil
version-ascii (c ∷ v) h =
    let t = and_parts (is_in_version c) (list_all is_in_version v) h in IsAscii-cons c v (version-low c t.0) (version-ascii v t.1)

-- ---- runs

not-dropped : (b : Bool) (n : ℕ) → (if b && false then 0 else n) ≡ n
not-dropped true n = refl
not-dropped false n = refl

whole-next : (c : ℕ) (v : List ℕ) → is_in_version c ≡ true → IsWhole v → IsWhole (c ∷ v)
whole-next c v h w = record {
  some = omega arith;
  bytes = ap (λ b. b && list_all is_in_version v) h ∙ w.bytes;
  runs = ap (λ b. if b then dotted c (version_run v) else 0) h
      ∙ (ap (dotted c) w.runs ∙ (ap (λ b. if c == 46 && b then 0 else suc (length v)) (ne_eqb (length v) 0 (λ e. let l = w.some in omega (arith, e, l))) ∙ not-dropped (c == 46) (suc (length v))));
}

whole-last : (c : ℕ) → is_identifier_byte c ≡ true → IsWhole (c ∷ [])
whole-last c h = record {
  some = omega arith;
  bytes = ap (λ b. b && true) (identifier-in c h);
  runs = ap (λ b. if b then dotted c 0 else 0) (identifier-in c h) ∙ ap (λ b. if b && 0 == 0 then 0 else 1) (identifier-no-dot c h);
}

whole-append : (xs ys : List ℕ) → list_all is_in_version xs ≡ true → IsWhole ys → IsWhole (xs ++ ys)
whole-append [] ys h w = w
whole-append (x ∷ xs) ys h w =
    let t = and_parts (is_in_version x) (list_all is_in_version xs) h in whole-next x (xs ++ ys) t.0 (whole-append xs ys t.1 w)

plain-in : (xs : List ℕ) → list_all is_identifier_byte xs ≡ true → list_all is_in_version xs ≡ true
plain-in xs h = list-grows is_identifier_byte is_in_version identifier-in xs h

whole-plain : (xs : List ℕ) → 0 < length xs → list_all is_identifier_byte xs ≡ true → IsWhole xs
whole-plain [] n h = absurd (omega (arith, n))
whole-plain (c ∷ []) n h = whole-last c (and_parts (is_identifier_byte c) true h).0
whole-plain (c ∷ d ∷ xs) n h =
    let t = and_parts (is_identifier_byte c) (list_all is_identifier_byte (d ∷ xs)) h in whole-next c (d ∷ xs) (identifier-in c t.0) (whole-plain (d ∷ xs) (omega arith) t.1)

dotted-whole : (ps : List (List ℕ)) → 0 < length ps → list_all is_build_identifier ps ≡ true → IsWhole (join_dots ps)
unfolding join_dots
dotted-whole [] n h = absurd (omega (arith, n))
dotted-whole (p ∷ []) n h =
    let t = and_parts (nat_lt 0 (length p)) (list_all is_identifier_byte p) (and_parts (is_build_identifier p) true h).0 in whole-plain p (ltb-true 0 (length p) t.0) t.1
dotted-whole (p ∷ q ∷ ps) n h =
    let s = and_parts (is_build_identifier p) (list_all is_build_identifier (q ∷ ps)) h in
    let t = and_parts (nat_lt 0 (length p)) (list_all is_identifier_byte p) s.0 in
    whole-append p (46 ∷ join_dots (q ∷ ps)) (plain-in p t.1) (whole-next 46 (join_dots (q ∷ ps)) refl (dotted-whole (q ∷ ps) (omega arith) s.1))

-- ---- what stands behind the numbers

-- nothing, or what ends in no dot
data IsTail : List ℕ → Type 0 where
  nothing : IsTail []
  something : (v : List ℕ) → IsWhole v → IsTail v

whole-tail : (xs ys : List ℕ) → IsWhole xs → IsTail ys → IsWhole (xs ++ ys)
whole-tail xs _ w nothing = subst IsWhole (sym (append-nil xs)) w
whole-tail xs _ w (something v t) = whole-append xs v w.bytes t

identified : (t : List ℕ) → list_all is_build_identifier (parts t) ≡ true → IsWhole t
identified t h =
    let s = parts-shape t in
    subst IsWhole (join-parts t) (dotted-whole (parts t) (let long = ap length s.2 in omega (arith, long)) h)

build-tail : (t : List ℕ) → is_build t ≡ true → IsTail (marked 43 t)
build-tail [] h = nothing
build-tail (b ∷ t) h = something (43 ∷ b ∷ t) (whole-next 43 (b ∷ t) refl (identified (b ∷ t) h))

pre-tail : (t u : List ℕ) → is_pre_release t ≡ true → IsTail u → IsTail (marked 45 t ++ u)
pre-tail [] u h tail = tail
pre-tail (b ∷ t) u h tail =
    let builds = list-grows is_pre_identifier is_build_identifier (λ p q. (and_parts (is_build_identifier p) _ q).0) (parts (b ∷ t)) h in
    something (45 ∷ b ∷ (t ++ u)) (whole-next 45 (b ∷ (t ++ u)) refl (whole-tail (b ∷ t) u (identified (b ∷ t) builds) tail))

-- ---- numbers

digit-told : (c : ℕ) → digit_value c < 10 → is_digit c ≡ true
digit-told c l = let r = digit_from_value c l in ap (λ b. b && nat_le c 57) (le-leb 48 c r.0) ∙ le-leb c 57 r.1

digits-all : (ds : List ℕ) → AllDigits 10 ds → list_all is_digit ds ≡ true
digits-all [] h = refl
digits-all (c ∷ ds) h = ap (λ b. b && list_all is_digit ds) (digit-told c h.0) ∙ digits-all ds h.1

record IsNumber (n : List ℕ) : Type 0 where
  some : 0 < length n
  digits : list_all is_digit n ≡ true

number : (n : ℕ) → n < 2 ^ 64 → IsNumber (decimal n)
number n l = let d = (decimal_is_IsNumeral n l).0 in record { some = d.0; digits = digits-all (decimal n) d.1 }

number-whole : (xs : List ℕ) → IsNumber xs → IsWhole xs
number-whole xs n = whole-plain xs n.some (list-grows is_digit is_identifier_byte digit-identifies xs n.digits)

begins : (xs ys : List ℕ) → IsNumber xs → begins_digit (xs ++ ys) ≡ true
begins [] ys n = absurd (let l = n.some in omega (arith, l))
begins (x ∷ xs) ys n = (and_parts (is_digit x) (list_all is_digit xs) n.digits).0

version-told : (v : List ℕ) → is_version v ≡ true → IsPrintableVersion v
unfolding is_version
version-told v h = by (version_parts v) refl (and_parts (nat_le (length v) 255) (is_ok (version_parts v)) h).1
  where
    told : (p : Parts) → version_parts v ≡ Ok p → IsPrintableVersion v
    told p e =
        let s = version_parts-sound v p e in
        let a = number p.0 s.1.0 in
        let b = number p.1 s.1.1 in
        let c = number p.2 s.1.2 in
        let last = whole-tail (decimal p.2) (marked 45 p.3 ++ marked 43 p.4) (number-whole (decimal p.2) c) (pre-tail p.3 (marked 43 p.4) s.1.3 (build-tail p.4 s.1.4)) in
        let middle = whole-append (decimal p.1) _ (number-whole (decimal p.1) b).bytes (whole-next 46 _ refl last) in
        let whole : IsWhole v = subst IsWhole s.0 (whole-append (decimal p.0) _ (number-whole (decimal p.0) a).bytes (whole-next 46 _ refl middle)) in
        record {
          version = ap (λ b. b && is_version v) (is_utf8-from_IsUtf8 v (IsUtf8-from_ascii v (version-ascii v whole.bytes))) ∙ h;
          begins = subst (λ t. begins_digit t ≡ true) s.0 (begins (decimal p.0) _ a);
          runs = whole.runs;
        }

    by : (r : Result Parts Error) → version_parts v ≡ r → is_ok r ≡ true → IsPrintableVersion v
    by (Ok p) e q = told p e
    by (Err x) e q = absurd (false≢true q)

pub version-printable : (v : Option (List ℕ)) → is_version_or_none v ≡ true → IsPrintableVersionOrNone v
version-printable None h = tt
version-printable (Some v) h = version-told v h
