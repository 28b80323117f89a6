use Rattle.canonical_abi.specs.Call.{exact}
use Rattle.canonical_abi.proofs.Calls.TameCallKeepsPromise.{tame-call-keeps-promise}
use Rattle.canonical_abi.proofs.Calls.TameLinkKeepsPromise.{tame-link-keeps-promise}
use Rattle.canonical_abi.proofs.laws.tame_memories_are_promised.Goals as goal

pub returns-clause-typed : goal.returns-clause-typed
returns-clause-typed g c = λ f arguments old result new standard call.
    tame-call-keeps-promise _ g.C.Guest.releases g.E.Guest.releases exact f arguments old result new standard call (record { caller = g.met.C.Tame.is_tame; callee = g.met.E.Tame.is_tame })

pub returns-clause-flat : goal.returns-clause-flat
returns-clause-flat g c = λ f flats old result ways new standard call area.
    tame-link-keeps-promise _ g.C.Guest.releases g.E.Guest.releases exact f flats old result ways new standard call (record { caller = g.met.C.Tame.is_tame; callee = g.met.E.Tame.is_tame }) area
