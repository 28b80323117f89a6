-- What can be read has no fault, so reading it fails only for want of memory.
use Rattle.std.proofs.Common.{◌≡◌, ℕ, List, map, Option, Result, Ok, Err, sym, ◌∙◌, subst}
use Rattle.std.specs.Prelude.{IfOk, IfErr, option_to_list}
use Rattle.std.specs.Option.{option_map}
use Rattle.canonical_abi.specs.Flat.{Denotes, DenotesFault}
use Rattle.canonical_abi.specs.Layout.{max_flat_results}
use Rattle.canonical_abi.specs.Types.{Fields, FunctionType, result_fields}
use Rattle.canonical_abi.specs.Values.{Value}
use Rattle.canonical_abi.specs.declared.flat.Flat.{Flat}
use Rattle.canonical_abi.specs.declared.trap.Fault.{Fault}
use Rattle.canonical_abi.specs.declared.trap.Fault.TheVariants.{Trap, NoMemory}
use Rattle.canonical_abi.specs.declared.trap.Step.TheVariants.{Take}
use Rattle.canonical_abi.specs.declared.trap.TrapKind.{TrapKind}
use Rattle.canonical_abi.proofs.ReadValues.ReadsExactly.{denoting-tells}
use Rattle.lift_lower.specs.NoValue.{AnswerStands}
use Rattle.adapter.specs.declared.asking.request.Request.{Request}
use Rattle.host_calls.specs.Calling.{LeaveAsks}
use Rattle.host_calls.specs.Values.{flat_of}
use Rattle.host_calls.specs.declared.error.CallError.TheVariants as error
use Rattle.host_calls.specs.declared.value.Value as core
use Rattle.values.specs.Val.{value_of}
use Rattle.values.specs.declared.val.Val.{Val}
use Rattle.host_values.specs.Reading.{IsResultFault, ResultIsNotRead}

ok-err : {A : Type 0} {x : A} {k : TrapKind} → ◌≡◌ {A = Result A TrapKind} (Ok x) (Err k) → ⊥
ok-err e = cc

pub not-both : (limit : ℕ) (ts : Fields) (m : List ℕ) (flats : List Flat) (vs : List Value) (k : TrapKind) → Denotes limit ts m flats vs → DenotesFault limit ts m flats k → ⊥
not-both limit ts m flats vs k h d =
    let t = denoting-tells limit ts m flats in
    ok-err (sym (t.ok_only vs h) ∙ t.err_only k d)

-- what is answered of a result is told as its value or as its fault
pub lifted-or-faulty : (f : FunctionType) (m : List ℕ) (flats : List Flat) (ts : Fields) (r : Result (Option Val) Fault) → ts ≡ result_fields f.result
    → AnswerStands {X = Option Val} Take (λ v. Denotes max_flat_results ts m flats (option_to_list (option_map value_of v))) (DenotesFault max_flat_results ts m flats) r
    → IfOk r (λ v. Denotes max_flat_results (result_fields f.result) m flats (option_to_list (option_map value_of v))) × IfErr r (IsResultFault f flats m)
lifted-or-faulty f m flats ts (Ok v) same h = (subst (λ us. Denotes max_flat_results us m flats (option_to_list (option_map value_of v))) same h, tt)
lifted-or-faulty f m flats ts (Err (Trap t)) same h = (tt, (h.0, subst (λ us. DenotesFault max_flat_results us m flats t.kind) same h.1))
lifted-or-faulty f m flats ts (Err NoMemory) same h = (tt, tt)

module _ (f : FunctionType) (answer : List core.Value) (m : List ℕ) (limit : ℕ) where
  -- whose requests were told
  pub only-memory : (old new : List Request) (count : ℕ) (n : List ℕ) (flats : List Flat) (fault : Fault)
      → LeaveAsks f answer m limit old (Ok count) new → m ≡ n → flats ≡ map flat_of answer → IsResultFault f flats n fault → ResultIsNotRead f answer m limit (error.Fault fault)
  only-memory old new count n flats (Trap t) (read, (vs, h, over, counted, few)) bytes are (step, d) =
      let ts = result_fields f.result in
      absurd (not-both max_flat_results ts n flats vs t.kind (subst (λ x. Denotes max_flat_results ts x flats vs) bytes (subst (λ x. Denotes max_flat_results ts m x vs) (sym are) h)) d)
  only-memory old new count n flats NoMemory asks bytes are d = tt
