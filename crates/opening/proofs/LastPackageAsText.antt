-- The canonical text of a set's last package, and reading.
use Rattle.std.proofs.Common.{◌≡◌, ◌≤◌, List, ℕ, length, Result, Ok, refl, ap, ◌∙◌}
use Rattle.std.specs.Prelude.{false}
use Rattle.std.specs.Str.{IsUtf8}
use Rattle.std.proofs.Math.Logic.{∥∥₁_map}
use Rattle.wit_tokens.specs.Lexing.{limit}
use Rattle.wit_tokens.specs.declared.error.TextError.{TextError}
use Rattle.wit_tokens.specs.declared.error.TextError.TheVariants as text_error
use Rattle.wit_tokens.specs.Syntax.{File}
use Rattle.wit_grammar.specs.Faults.{Fails}
use Rattle.tables.specs.declared.tables.Definition.TheVariants as row
use Rattle.tables.specs.declared.tables.Resolve.{Resolve}
use Rattle.tables.proofs.ClosedTypesRowByRow.{get-at}
use Rattle.layout.specs.Layout.{AreWithin}
use Rattle.package_text.specs.Text.{text_of}
use Rattle.package_text.specs.Laws.{IsShallow}
use Rattle.opening.specs.Opening.{IsLast, IsPrintedAs}
use Rattle.opening.specs.Sets.{is_binary}

pub shallow : (r : Resolve) → AreWithin r → IsShallow r
shallow r w k d e = let at = get-at r.definitions k (row.Type d) e in (w.each k (row.Type d) at.0 (at.1 (row.Type d))).0

-- reading fails for want of memory alone
pub only-memory : (e : TextError) (f : File) → Fails {Y = File} e (Ok f) → e ≡ text_error.NoMemory
only-memory text_error.NoMemory f h = refl
only-memory (text_error.BadChar s) f h = absurd cc
only-memory (text_error.OpenComment s) f h = absurd cc
only-memory (text_error.Expected x s) f h = absurd cc
only-memory (text_error.Unsupported x s) f h = absurd cc
only-memory (text_error.Depth s) f h = absurd cc
only-memory text_error.Limit f h = absurd cc

-- what is read is this tree
abbrev IsSameRead : Result File TextError → Result File TextError → Type 0
IsSameRead a b = a ≡ b

pub read-tree : (f g : File) → IsSameRead (Ok f) (Ok g) → f ≡ g
read-tree f g h = cc

text-begins : (r : Resolve) → is_binary (text_of r) ≡ false
text-begins r = refl

-- what is printed of the last package
pub printed-as : (bytes : List ℕ) (r closed : Resolve) → bytes ≡ text_of closed → IsUtf8 bytes → length bytes ≤ limit → IsLast r closed → ∥ AreWithin r ∥₁ → ∥ IsPrintedAs bytes r ∥₁
printed-as bytes r closed is utf8 short last within = ∥∥₁_map within (λ w. record { begins = ap is_binary is ∙ text-begins closed; closed = closed; last = last; text = is; utf8 = utf8; short = short; within = w })
