use Rattle.std.proofs.Common.{◌≡◌, ℕ, ◌<◌, ◌^◌, [], ◌∷◌, Option, Err, length, get_or, ap, sym, subst}
use Rattle.canonical_abi.specs.Types.{Fields, field, no_field, result_fields}
use Rattle.canonical_abi.specs.Flat.{Denotes, DenotesFault}
use Rattle.canonical_abi.specs.Layout.{max_flat_results}
use Rattle.canonical_abi.specs.Reading.{denoting}
use Rattle.canonical_abi.specs.declared.trap.Step.TheVariants.{Take}
use Rattle.canonical_abi.proofs.ReadValues.ReadsExactly.{denoting-tells}
use Rattle.std.specs.Option.{option_map}
use Rattle.tables.specs.Closed.{closed_type}
use Rattle.lift_lower.specs.NoValue.{AnswerStands}
use Rattle.values.specs.Val.{value_of}
use Rattle.values.specs.declared.val.Val.{Val}
use Rattle.lift_lower.proofs.HeldValuesAreTyped.{denotes-typed}
use Rattle.lift_lower.proofs.ListsAreLoaded.{fails-stand}
use Rattle.std.specs.Prelude.{option_to_list}
use Rattle.lift_lower.proofs.lifting.lift_result.Goals as goal

pub returns-in-Ok-clause-value : goal.returns-in-Ok-clause-value
returns-in-Ok-clause-value g c =
    let ts = field (closed_type c.args.table.now c.in-Some.ty) no_field in
    let m = (g.G.Guest.memory c.args.guest.now).bytes in
    rw c.in-Some.is ((denoting-tells max_flat_results ts m c.args.flats.now).ok (value_of c.in-Ok.value ∷ []) (rw c.bytes.ensures at c.in-Ok.ensures.value))

pub returns-in-Err-clause-value : goal.returns-in-Err-clause-value
returns-in-Err-clause-value g c =
    let ts = field (closed_type c.args.table.now c.in-Some.ty) no_field in
    let m = (g.G.Guest.memory c.args.guest.now).bytes in
    let same : ts ≡ result_fields (option_map (closed_type c.args.table.now) c.args.ty) = ap (λ o. result_fields (option_map (closed_type c.args.table.now) o)) (sym c.in-Some.is) in
    let P : Fields → Option Val → Type 0 = λ us v. Denotes max_flat_results us m c.args.flats.now (option_to_list (option_map value_of v)) in
    subst (λ us. AnswerStands Take (P us) (DenotesFault max_flat_results us m c.args.flats.now) (Err c.at-in-Err.result)) same
    (fails-stand Take c.in-Err.no_value c.at-in-Err.result (denoting max_flat_results ts m c.args.flats.now) (P ts) (DenotesFault max_flat_results ts m c.args.flats.now) c.at-in-Err.ensures (rw c.bytes.ensures at c.in-Err.ensures.value) (λ k e. (denoting-tells max_flat_results ts m c.args.flats.now).err k e))

pub returns-in-Ok-clause-typed : goal.returns-in-Ok-clause-typed
returns-in-Ok-clause-typed g c =
    let m = (g.G.Guest.memory c.args.guest.now).bytes in
    let bytes : (i : ℕ) → get_or m i 0 < 256 = rw (← c.bytes.ensures) c.lift_value.ensures.bytes in
    let short : length m < 2 ^ 32 = rw (← c.len-len.ensures) c.len-len.type_inv in
    denotes-typed m bytes short max_flat_results (result_fields (option_map (closed_type c.args.table.now) c.args.ty)) c.args.flats.now (value_of c.in-Ok.value ∷ []) (returns-in-Ok-clause-value g c)
