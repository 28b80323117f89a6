use Rattle.std.proofs.Common.{◌≡◌, ◌++◌, List, ℕ, inr, rules, arith, refl, sym, subst}
use Rattle.std.proofs.Math.Logic.{∥∥₁_map}
use Rattle.std.proofs.lemmas.Grind.{common_steps}
use Rattle.std.proofs.lemmas.Str.{IsUtf8-string_bytes}
use Rattle.std.specs.String.{string_bytes}
use Rattle.package_form.specs.Form.{IsInPackageForm}
use Rattle.package_text.specs.Text.{text_of}
use Rattle.tables.specs.declared.tables.Resolve.{Resolve}
use Rattle.wit_tokens.specs.Lexing as lexing
use Rattle.opening.specs.Opening.{IsLast}
use Rattle.opening.proofs.LastPackageAsText.{printed-as}
use Rattle.opening.proofs.package.Package.to_text.Goals as goal

pub print-requires : goal.print-requires
print-requires c = subst (λ (r : Resolve). ∥ IsInPackageForm r ∥₁) (sym c.table.ensures) (∥∥₁_map c.in_ok-last.ensures.form (λ f. f.0))

pub returns-clause-ok : goal.returns-clause-ok
returns-clause-ok c =
    let whole = subst (λ (front : List ℕ). string_bytes c.print.new.out ≡ front ++ text_of c.table.result.now) c.new-text.ensures.bytes c.in_ok-print.ensures.ok in
    (c.table.result.now, subst (IsLast c.args.self.now.resolve) (sym c.table.ensures) c.in_ok-last.ensures.last, whole)

pub returns-clause-short : goal.returns-clause-short
unfolding lexing.limit
returns-clause-short c = first_of (search rules, grind (arith, common_steps))

pub returns-then-len-gt-MAX_INPUT-clause-err : goal.returns-then-len-gt-MAX_INPUT-clause-err
unfolding lexing.limit
returns-then-len-gt-MAX_INPUT-clause-err c =
    let whole = subst (λ (front : List ℕ). string_bytes c.print.new.out ≡ front ++ text_of c.table.result.now) c.new-text.ensures.bytes c.in_ok-print.ensures.ok in
    inr (refl, (string_bytes c.print.new.out, (c.table.result.now, subst (IsLast c.args.self.now.resolve) (sym c.table.ensures) c.in_ok-last.ensures.last, whole), first_of (search rules, grind (arith, common_steps))))

pub returns-clause-printed : goal.returns-clause-printed
returns-clause-printed c =
    let p = c.args.self.now in
    let ok = returns-clause-ok c in
    printed-as _ p.resolve ok.0 ok.2 (IsUtf8-string_bytes c.print.new.out) (returns-clause-short c) ok.1 p.within
