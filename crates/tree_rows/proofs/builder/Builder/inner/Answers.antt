use Rattle.tree_rows.proofs.OneRowMore.{inner-lowers, is-inner}
use Rattle.tree_rows.proofs.builder.Builder.inner.Goals as goal

pub returns-in_ok-id-in_default : goal.returns-in_ok-id-in_default
returns-in_ok-id-in_default c = λ first tree l.
    inner-lowers first c.args.self.now c.define.new.self c.args.kind c.in_ok-id-in_default.id tree c.in_ok-id-in_default.ensures.0
    c.in_ok-id-in_default.ensures.1 (is-inner c.args.kind (λ v e. c.in_default.not-Alias v e) l.inner) l
