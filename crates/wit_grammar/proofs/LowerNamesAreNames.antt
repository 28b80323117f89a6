-- A name in lower case is a name.
use Rattle.std.proofs.Common.{◌≡◌, IsTrue, Bool, true, false, refl}
use Rattle.std.specs.Prelude.{◌&&◌, not}
use Rattle.std.specs.List.{list_all}
use Rattle.atoms.specs.Label.{is_label, is_upper}
use Rattle.atoms.specs.FullName.{is_package_label}
use Rattle.wit_tokens.specs.declared.token.TokenKind.TheVariants as kind
use Rattle.wit_tokens.specs.Tokens.{Lexeme}
use Rattle.wit_grammar.specs.Faults.{is}
use Rattle.wit_grammar.specs.Grammar.{is_name, is_lower_name}

front : (a b c : Bool) → (a && (b && c)) ≡ true → (a && b) ≡ true
front true true c h = refl
front true false c h = h
front false b c h = h

pub named : (t : Lexeme) → is_lower_name t ≡ true → IsTrue (is_name t)
unfolding is_name is_lower_name is_package_label
named t h = front (is kind.Identifier t) (is_label t.text) (list_all (λ c. not (is_upper c)) t.text) h
