-- A package is opened behind the earlier ones.
use Rattle.std.proofs.Common.{ap, [], ◌∷◌, ◌++◌, ◌∙◌}
use Rattle.opening.specs.Sets.{all_bytes}
use Rattle.witcall.specs.Running.{all_items}
use Rattle.witcall.proofs.InputsAfterEarlierOnes.{opens, refuses}
use Rattle.witcall.proofs.running.opened_behind.Goals as goal

pub returns-clause-ok : goal.returns-clause-ok
returns-clause-ok c =
    opens (all_bytes c.as_slice.result.now) (all_items c.args.earlier.now ++ c.args.last.now ∷ []) (ap all_bytes c.as_slice.ensures.value ∙ c.in_ok-inputs.ensures) c.open_set.result c.open_set.ensures.ok

pub returns-clause-err : goal.returns-clause-err
returns-clause-err c =
    refuses (all_bytes c.as_slice.result.now) (all_items c.args.earlier.now ++ c.args.last.now ∷ []) (ap all_bytes c.as_slice.ensures.value ∙ c.in_ok-inputs.ensures) c.open_set.result c.open_set.ensures.err
