-- Why a text asks for nothing is why its requests are not told.
use Rattle.std.proofs.Common.{ℕ, List, Err, refl, inl, subst}
use Rattle.std.proofs.lemmas.Result.{err_from_is_err_and}
use Rattle.package_values.specs.Calls.{TextAsks}
use Rattle.tables.specs.Closed.{function_type}
use Rattle.c_border.specs.Json.{parameters_of}
use Rattle.c_border.proofs.CallsOfFunctions.{of-function, asks-not}
use Rattle.c_border.proofs.json.JsonCall.requests.Goals as goal

pub returns-in_err-asked : goal.returns-in_err-asked
returns-in_err-asked c =
    let r = c.in_ok-package.package.now.resolve in
    let f = c.in_ok-package.func in
    let said = c.in-Ok.ensures.cases in
    let p = err_from_is_err_and c.from_residual-in_err-asked.result c.from_residual-in_err-asked.ensures.1 in
    let asks = subst (λ (bytes : List ℕ). TextAsks r (parameters_of r f) (function_type r f) bytes (Err c.in_err-asked.field-0.0)) said.0 c.in_err-asked.ensures in
    rw (p.1, p.2) (of-function _ _ c.in_ok-package.package.now f _ _ (Err c.in_err-asked.field-0.0) c.in_ok-package.ensures.ok (inl (said.1, (asks-not r f c.args.text.now c.args.limit c.in_err-asked.field-0.0 asks, refl))))
