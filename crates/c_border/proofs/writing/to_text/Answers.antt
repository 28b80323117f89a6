use Rattle.std.proofs.Common.{◌≡◌, ◌∙◌, List, ℕ, inl, subst, sym}
use Rattle.std.specs.Option.{option_map}
use Rattle.std.specs.String.{string_bytes}
use Rattle.opening.specs.Opening.{IsCanonicalText, IsPrintedAs}
use Rattle.c_border.specs.Written.{WritesText}
use Rattle.c_border.proofs.writing.to_text.Goals as goal

pub returns-in-Ok : goal.returns-in-Ok
returns-in-Ok c =
    let p = c.in-Some.«package».now in
    let whole : c.as_bytes.result.now ≡ string_bytes c.in-Ok.text = c.as_bytes.ensures.value ∙ c.as_str.ensures.value in
    let canonical = subst (λ (xs : List ℕ). IsCanonicalText p.resolve xs) (sym whole) c.in-Ok.ensures.ok in
    let printed = subst (λ (xs : List ℕ). ∥ IsPrintedAs xs p.resolve ∥₁) (sym whole) c.in-Ok.ensures.printed in
    subst (λ o. WritesText (option_map (λ p. p.now) o) c.args.out.now c.tell_bytes.result c.tell_bytes.new.out) (sym c.in-Some.is) (inl (c.as_bytes.result.now, (canonical, printed), c.tell_bytes.ensures))
