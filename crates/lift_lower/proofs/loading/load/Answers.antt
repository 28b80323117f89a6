use Rattle.std.proofs.Common.{◌≡◌, ℕ, ◌<◌, ◌^◌, Ok, length, get_or, subst}
use Rattle.canonical_abi.specs.Memory.{HoldsInBlock, FaultyInBlock}
use Rattle.canonical_abi.specs.declared.trap.Step.TheVariants.{Take}
use Rattle.tables.specs.Closed.{closed_type}
use Rattle.lift_lower.specs.Loading.{reading_block}
use Rattle.lift_lower.specs.NoValue.{FailsAs}
use Rattle.values.specs.Val.{value_of}
use Rattle.lift_lower.proofs.ListsAreLoaded.{block-tells, fails-stand}
use Rattle.lift_lower.proofs.loading.load.Goals as goal
use Rattle.lift_lower.proofs.HeldValuesAreTyped.{holds-typed}

pub returns-in-Ok-clause-value : goal.returns-in-Ok-clause-value
returns-in-Ok-clause-value g c =
    let t = closed_type c.args.resolve.now c.args.ty in
    let m = (g.G.Guest.memory c.args.guest.now).bytes in
    (block-tells t m c.args.at).ok (value_of c.in-Ok.value) (subst (λ q. reading_block (closed_type q c.args.ty) m c.args.at ≡ Ok (value_of c.in-Ok.value)) c.new.ensures (rw c.bytes.ensures at c.in-Ok.ensures.value))

pub returns-in-Err-clause-value : goal.returns-in-Err-clause-value
returns-in-Err-clause-value g c =
    let t = closed_type c.args.resolve.now c.args.ty in
    let m = (g.G.Guest.memory c.args.guest.now).bytes in
    fails-stand Take c.in-Err.no_value c.at.result (reading_block t m c.args.at) (λ v. HoldsInBlock t m c.args.at (value_of v)) (FaultyInBlock t m c.args.at) c.at.ensures (subst (λ q. FailsAs c.in-Err.no_value (reading_block (closed_type q c.args.ty) m c.args.at)) c.new.ensures (rw c.bytes.ensures at c.in-Err.ensures.value)) (λ k e. (block-tells t m c.args.at).err k e)

pub returns-in-Ok-clause-typed : goal.returns-in-Ok-clause-typed
returns-in-Ok-clause-typed g c =
    let m = (g.G.Guest.memory c.args.guest.now).bytes in
    let bytes : (i : ℕ) → get_or m i 0 < 256 = rw (← c.bytes.ensures) c.load_block.ensures.bytes in
    let short : length m < 2 ^ 32 = rw (← c.len-len.ensures) c.len-len.type_inv in
    holds-typed m bytes short (closed_type c.args.resolve.now c.args.ty) c.args.at (value_of c.in-Ok.value) (returns-in-Ok-clause-value g c).1
