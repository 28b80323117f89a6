use Rattle.std.proofs.Common.{◌+◌, ℕ, Option, Some, Result, Ok, Err, IfErr, length, ap, sym, ◌∙◌}
use Rattle.std.specs.Option.{option_map}
use Rattle.wit_tokens.specs.View.{path_view}
use Rattle.wit_tokens.specs.declared.wit_syntax.ast.Path.{Path}
use Rattle.tree_meaning.specs.Imports.{interfaces_of}
use Rattle.tree_meaning.specs.Resolves.{path_place}
use Rattle.tree_meaning.proofs.ImportsFoundByName.{imports-length}
use Rattle.tree_scopes.proofs.paths.interface_place.Goals as goal

if-any-err : {A E P : Type 0} → (r : Result A E) → P → IfErr r (λ _. P)
if-any-err (Ok x) p = tt
if-any-err (Err e) p = p

pub returns-in_ok-place_behind-in-Some-clause-ok : goal.returns-in_ok-place_behind-in-Some-clause-ok
returns-in_ok-place_behind-in-Some-clause-ok c =
    let r = c.args.imports.now in
    let ks = interfaces_of r in
    let found = ap (λ (o : Option ℕ). option_map (λ j. length ks + j) o) (sym c.place_of.ensures ∙ c.in-Some.is) in
    let same = ap (λ (n : ℕ). Some (n + c.in-Some.place)) (imports-length r.packages r.definitions 0 r.interfaces) in
    let at = ap (λ (n : ℕ). Some n) c.in_ok-place_behind-in-Some.ensures.ok in
    at ∙ sym same ∙ sym found ∙ sym (ap (λ (q : Path). path_place ks c.args.names.now (path_view q)) c.in-Local.is)

pub returns-in_err-place_behind-in-Some-clause-err : goal.returns-in_err-place_behind-in-Some-clause-err
returns-in_err-place_behind-in-Some-clause-err c =
    let r = c.args.imports.now in
    let ks = interfaces_of r in
    let found = ap (λ (o : Option ℕ). option_map (λ j. length ks + j) o) (sym c.place_of.ensures ∙ c.in-Some.is) in
    let same = ap (λ (n : ℕ). Some (n + c.in-Some.place)) (imports-length r.packages r.definitions 0 r.interfaces) in
    if-any-err c.from_residual.result (
      length r.interfaces + c.in-Some.place,
      ap (λ (q : Path). path_place ks c.args.names.now (path_view q)) c.in-Local.is ∙ found ∙ same,
      c.in_err-place_behind-in-Some.ensures.err,
    )
