use Rattle.std.proofs.Common.{ℕ, sym, subst}
use Rattle.std.specs.Global.{Vec}
use Rattle.opening.specs.Opening.{IsCanonicalText}
use Rattle.words.specs.declared.asked.Job.{Job}
use Rattle.witcall.specs.Running.{IsOutputOfJob}
use Rattle.witcall.proofs.running.made.Goals as goal

pub returns-in_ok-to_text-in-Text-clause-ok : goal.returns-in_ok-to_text-in-Text-clause-ok
returns-in_ok-to_text-in-Text-clause-ok c =
    let r = c.args.«package».now.resolve in
    let written = subst (λ (v : Vec ℕ). IsCanonicalText r v.items) (sym c.into_bytes-in-Text.ensures.value) c.in_ok-to_text-in-Text.ensures.ok in
    subst (λ (job : Job). IsOutputOfJob job r c.into_bytes-in-Text.result.items) (sym c.in-Text.is) written
