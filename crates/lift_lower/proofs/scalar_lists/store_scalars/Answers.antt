use Rattle.std.proofs.Common.{◌≡◌, ◌+◌, ◌-◌, ◌*◌, map, take, drop, length, sym, ◌∙◌, subst, arith}
use Rattle.std.proofs.lemmas.List.{length-map}
use Rattle.std.specs.List.{AllByRecursion}
use Rattle.canonical_abi.specs.Layout.{prim_width}
use Rattle.canonical_abi.specs.Trace.{EventLeads, write}
use Rattle.canonical_abi.specs.Types.{prim_type}
use Rattle.canonical_abi.specs.Values.{Value, HasType}
use Rattle.tables.specs.Closed.{prim_of}
use Rattle.values.specs.Val.{value_of}
use Rattle.lift_lower.specs.ScalarLists.{bytes_of_scalars}
use Rattle.lift_lower.proofs.ScalarListBytes.{chunk-more, map-slice, all-slice}
use Rattle.lift_lower.proofs.scalar_lists.store_scalars.Goals as goal

pub write_chunk-requires-clause-typed : goal.write_chunk-requires-clause-typed
write_chunk-requires-clause-typed g c =
    let P : Value → Type 0 = λ v. HasType v (prim_type (prim_of c.args.primitive)) in
    let vs = map value_of c.args.items.now in
    let d = c.loop-done.done in
    let k = c.min-end.result - d in
    subst (λ us. AllByRecursion P us) (sym (map-slice value_of k d c.args.items.now)) (all-slice P k d vs c.requires.typed)

pub loop-done-preserved : goal.loop-done-preserved
loop-done-preserved g c =
    let A = g.G.Guest.allocates in
    let w = prim_width (prim_of c.args.primitive) in
    let vs = map value_of c.args.items.now in
    let start = c.args.start in
    let d = c.loop-done.done in
    let n = c.min-end.result in
    let old = g.G.Guest.memory c.args.guest.now in
    let mid = g.G.Guest.memory c.loop-done.guest in
    let new = g.G.Guest.memory c.write_chunk.new.guest in
    let count : length vs ≡ length c.args.items.now = length-map c.args.items.now value_of in
    let led = subst (λ s. EventLeads A mid (write (start + d * s) (bytes_of_scalars w (take (n - d) (drop d vs)))) new) c.scalar_bytes-step.ensures.value
    (subst (λ us. EventLeads A mid (write (start + d * c.scalar_bytes-step.result) (bytes_of_scalars w us)) new) (map-slice value_of (n - d) d c.args.items.now) c.write_chunk.ensures.led) in (
      omega (arith, c.min-end.ensures),
      chunk-more A w start vs d n old mid new (omega (arith, c.min-end.ensures, c.loop-done-test.true)) (omega (arith, c.min-end.ensures, count)) c.loop-done.invariant.1 led,
      c.write_chunk.ensures.same_length ∙ c.loop-done.invariant.2,
    )
