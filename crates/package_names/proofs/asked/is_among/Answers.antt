use Rattle.std.proofs.Common.{◌≡◌, true, sym, arith, ◌∙◌}
use Rattle.std.specs.Str.{bytes_eq}
use Rattle.package_names.proofs.NamesAskedOfPackages.{any-at}
use Rattle.package_names.proofs.asked.is_among.Goals as goal

pub returns-then-eq : goal.returns-then-eq
returns-then-eq c =
    let x = c.other-item.result in
    let n = c.args.name.now in
    let same : bytes_eq n x.now ≡ true = (let e = rw (c.as_bytes.ensures.is, c.as_bytes-in-loop-other.ensures.is) at c.eq.ensures in sym e ∙ c.if-eq.true) in
    sym (any-at n c.args.names.now c.loop-other.other-index x (omega arith) c.other-item.is same)
