use Rattle.std.proofs.Common.{ℕ, List, sym, subst}
use Rattle.canonical_abi.specs.Layout.{align, size}
use Rattle.canonical_abi.specs.Memory.{BlockHolds}
use Rattle.canonical_abi.specs.Types.{ClosedType, no_field, field, record_type}
use Rattle.tables.specs.Closed.{closed_type}
use Rattle.lift_lower.proofs.OneFieldRecords.{alone-align, alone-size}
use Rattle.lift_lower.proofs.placing.is_area.Goals as goal

-- the block of a type is that of a record with it alone
alone : (t : ClosedType) (m : List ℕ) (at : ℕ) → BlockHolds m at (align t) (size t) → BlockHolds m at (align (record_type (field t no_field))) (size (record_type (field t no_field)))
alone t m at h = subst (λ (a : ℕ). BlockHolds m at a (size (record_type (field t no_field)))) (sym (alone-align t)) (subst (λ (n : ℕ). BlockHolds m at (align t) n) (sym (alone-size t)) h)

back : (t : ClosedType) (m : List ℕ) (at : ℕ) → BlockHolds m at (align (record_type (field t no_field))) (size (record_type (field t no_field))) → BlockHolds m at (align t) (size t)
back t m at h = subst (λ (a : ℕ). BlockHolds m at a (size t)) (alone-align t) (subst (λ (n : ℕ). BlockHolds m at (align (record_type (field t no_field))) n) (alone-size t) h)

pub returns-in-None-Some : goal.returns-in-None-Some
returns-in-None-Some g c =
    let t = closed_type c.args.table.now c.in-Some.ty in
    let m = (g.G.Guest.memory c.args.guest.now).bytes in
    let block = c.is_block.ensures m (sym c.len.ensures) in
    rw (c.in-Some.is, c.in-None-Some.is-1) (
      λ yes. (c.in-None-Some.ensures.spilled, alone t m c.in-None-Some.at (block.0 yes)),
      λ is. block.1 (back t m c.in-None-Some.at is.1),
    )
