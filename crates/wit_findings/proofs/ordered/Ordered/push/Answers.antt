use Rattle.std.proofs.Common.{◌≡◌, ◌+◌, ◌≤◌, ◌<◌, arith, refl}
use Rattle.wit_findings.proofs.Listing.{one_more}
use Rattle.wit_findings.proofs.ordered.Ordered.push.Goals as goal

pub invariant_of-self : goal.invariant_of-self
invariant_of-self c = record {
  listed = one_more c.args.self.now.text.now c.args.self.now.next c.args.self.now.edited (c.args.finding.start + 1) c.end_behind-edited.result c.args.self.now.list.items c.push.new.self.items
      _ c.in-Ok.ensures.items c.args.self.now.listed (omega arith) (omega arith) (omega arith) (omega arith) c.kept.ensures c.end_behind-edited.ensures;
}
