-- What is told of a function of a package, by its number.
use Rattle.std.proofs.Common.{ℕ, List, Result, Err, Option, Some, None, inl, subst}
use Rattle.host_calls.specs.declared.error.CallError.{CallError}
use Rattle.host_calls.specs.declared.error.CallError.TheVariants as error
use Rattle.opening.specs.declared.package.Package.{Package}
use Rattle.package_values.specs.Calls.{TextAsks}
use Rattle.package_values.specs.declared.json.JsonError.TheVariants as json
use Rattle.tables.specs.Closed.{IsFunction, function_type}
use Rattle.tables.specs.declared.tables.FunctionId.{FunctionId}
use Rattle.tables.specs.declared.tables.Resolve.{Resolve}
use Rattle.c_border.specs.Functions.{HasFunction, OfFunction}
use Rattle.c_border.specs.Json.{AsksNotOfText, parameters_of}

-- what the package and the function tell is what is told of its number
pub of-function : (opened : Option Package) (number : ℕ) (p : Package) (f : FunctionId) (Tells : Resolve → FunctionId → Result ℕ CallError → Type 0) (unchanged : Type 0)
    (done : Result ℕ CallError) → HasFunction opened number p f → Tells p.resolve f done → OfFunction opened number Tells unchanged done
of-function None number p f Tells unchanged done h told = absurd h
of-function (Some q) number p f Tells unchanged done h told = inl (
  subst (λ g. IsFunction q.resolve g) h.1 (subst (λ (x : Package). IsFunction x.resolve f) h.0 h.2),
  subst (λ g. Tells q.resolve g done) h.1 (subst (λ (x : Package). Tells x.resolve f done) h.0 told),
)

-- a text whose requests are not told has none that are told within a limit
pub asks-not : (r : Resolve) (f : FunctionId) (text : List ℕ) (limit : ℕ) (e : CallError) → TextAsks r (parameters_of r f) (function_type r f) text (Err e) → AsksNotOfText r f text limit e
asks-not r f text limit (error.Fault fault) h = h
asks-not r f text limit error.AboveLimit (json.BadJson, refuses, same) = cc
asks-not r f text limit error.AboveLimit (json.NotThisType, refuses, same) = cc
asks-not r f text limit error.AboveLimit (json.NoMemory, refuses, same) = cc
asks-not r f text limit error.NoFunction h = h
asks-not r f text limit error.NoMemory h = h
asks-not r f text limit error.NotOpen h = h
asks-not r f text limit (error.NoRoom count) h = h
asks-not r f text limit error.BadBlock h = h
asks-not r f text limit (error.OtherBlock index) h = h
asks-not r f text limit error.BadLengths h = h
asks-not r f text limit error.NotThere h = h
asks-not r f text limit error.LongBinary h = h
asks-not r f text limit error.LongText h = h
asks-not r f text limit error.BadJson h = h
asks-not r f text limit error.NotThisType h = h
