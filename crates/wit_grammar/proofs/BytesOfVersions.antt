-- When bytes are the text of a version.
use Rattle.std.proofs.Common.{◌≡◌, ℕ, Bool, true, false, List, refl}
use Rattle.std.specs.Prelude.{◌&&◌}
use Rattle.std.specs.Str.{IsUtf8, is_utf8}
use Rattle.std.proofs.lemmas.Str.{IsUtf8-from_is_utf8, is_utf8-from_IsUtf8}
use Rattle.atoms.specs.FullName.{is_version}
use Rattle.wit_grammar.specs.Grammar.{is_version_text}

pub bad_version : (text : List ℕ) → (IsUtf8 text → ⊥) → false ≡ is_version_text text
bad_version text h = by (is_utf8 text) refl
  where
    by : (u : Bool) → is_utf8 text ≡ u → false ≡ (u && is_version text)
    by true e = absurd (h (IsUtf8-from_is_utf8 text e))
    by false e = refl

pub good_version : (text : List ℕ) (b : Bool) → IsUtf8 text → b ≡ is_version text → b ≡ is_version_text text
good_version text b u e = rw (is_utf8-from_IsUtf8 text u) e
