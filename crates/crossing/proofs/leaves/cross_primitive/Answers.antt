use Rattle.std.proofs.Common.{[], ◌∷◌, refl, subst, arith}
use Rattle.std.specs.Int.{to_le_bytes}
use Rattle.canonical_abi.specs.Types.{Prim, prim_type}
use Rattle.canonical_abi.specs.Layout.{prim_width}
use Rattle.canonical_abi.specs.Storing.{number_in}
use Rattle.canonical_abi.specs.Trace.{write, EventLeads}
use Rattle.values.specs.Scalar.{value_in}
use Rattle.lift_lower.proofs.HeldValuesAreTyped.{holds-typed}
use Rattle.values.specs.Bytes.{AreBytes}
use Rattle.tables.specs.Closed.{prim_of}
use Rattle.crossing.proofs.leaves.cross_primitive.Goals as goal

pub returns-in-Ok : goal.returns-in-Ok
returns-in-Ok g c =
    let m = c.args.source.now in
    let bytes : AreBytes m = λ i. (c.type_inv.source i).fits in
    let p = prim_of c.args.primitive in
    let s = c.in-Ok.scalar in
    let v = value_in s in
    let A = g.G.Guest.allocates in
    let P : Prim → Type 0 = λ q. EventLeads A (g.G.Guest.memory c.args.guest.now) (write c.args.at.to (to_le_bytes (prim_width q) (number_in (prim_width q) v))) (g.G.Guest.memory c.write_scalar.new.guest) in
    let led = subst P c.in-Ok.ensures.typed c.write_scalar.ensures.led in
    λ n. record {
      events = write c.args.at.to (to_le_bytes (prim_width p) (number_in (prim_width p) v)) ∷ [];
      scripted = (v, c.in-Ok.ensures.value, (holds-typed m bytes c.requires.short (prim_type p) c.args.at.from v c.in-Ok.ensures.value, refl));
      leads = (g.G.Guest.memory c.write_scalar.new.guest, led, refl);
      no_shorter = omega (arith, c.write_scalar.ensures.same_length);
      counted = omega arith;
    }
