use Rattle.package_diff.proofs.NumbersStandForTypes.{table-kept}
use Rattle.package_diff.proofs.calling.Versions.of.Goals as goal

pub invariant_of-result : goal.invariant_of-result
invariant_of-result c =
    let kept = table-kept c.rows_of.new.self.known.keys c.rows_of-2.new.self.known.keys c.args.old.table.now c.in_ok-old_rows.old_rows.items c.in_ok-new_rows.ensures.extends c.in_ok-old_rows.ensures.rows in
    record { old_stands = ∣ kept ∣₁; new_stands = ∣ c.in_ok-new_rows.ensures.rows ∣₁ }
