use Rattle.std.proofs.Common.{MatchOption, subst}
use Rattle.tables.specs.declared.tables.FunctionId.{FunctionId}
use Rattle.package_changes.specs.Pairs.{IsPartner}
use Rattle.package_changes.proofs.PartnersByNames.{NoPartner, judged-removed}
use Rattle.package_changes.proofs.judging.judged_place.Goals as goal

pub returns-in-None-clause-judged : goal.returns-in-None-clause-judged
returns-in-None-clause-judged c =
    let r = c.args.comparer.now.old.table.now in
    let s = c.args.comparer.now.new.table.now in
    let p = c.args.place in
    let o = c.in_ok-new.new in
    let older = subst (λ a. MatchOption o (NoPartner a c.args.pairs.now.new.now p) (IsPartner a c.args.pairs.now.new.now p)) c.requires.old c.in_ok-new.ensures.pair in
    let newer = subst (λ b. MatchOption o (NoPartner r b p) (IsPartner r b p)) c.requires.new older in
    judged-removed r s p c.role_of-role.result o c.role_of-role.ensures newer c.in-None.is
