-- The flags of the range are those between its first unit and its last one, as far as there are any.
use Rattle.std.proofs.Common.{rules, ◌≡◌, ◌⊎◌, ◌*◌, ◌/◌, ◌≤◌, false, subst, sym, ap, ◌∙◌, length, arith}
use Rattle.std.specs.Prelude.{min}
use Rattle.memory.proofs.LiveUnits.{all_alike, not_alike, is_true}
use Rattle.memory.proofs.units.Units.are_all.Goals as goal

pub returns : goal.returns
returns c =
    let xs = c.args.self.now.live.items in
    let end_is : c.min-end.result ≡ min (length xs) (c.args.to / 8) = search rules in
    let start_is : c.min-start.result ≡ min c.min-end.result (c.args.from / 8) = search rules in
    let within : (c.args.live ≡ false) ⊎ (c.args.to ≤ 8 * length xs) = search rules in
    let same = c.deref.ensures.value in (
      λ t. all_alike xs c.args.from c.args.to c.min-end.result c.min-start.result c.args.live c.requires.begins c.requires.ends within end_is start_is (rw same at (c.are_alike.ensures.all t)),
      λ all. is_true c.are_alike.result (λ f. (let o = rw same at (c.are_alike.ensures.other f) in
          not_alike xs c.args.from c.args.to c.min-end.result c.min-start.result c.args.live c.requires.begins c.requires.ends within end_is start_is o.0 o.1 o.2 all)),
    )
