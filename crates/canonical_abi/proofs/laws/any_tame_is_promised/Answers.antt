use Rattle.canonical_abi.specs.AnyTame.{AnyTameGrant, AnyTameRelease}
use Rattle.canonical_abi.specs.Call.{exact}
use Rattle.canonical_abi.specs.Tame.{IsTame}
use Rattle.canonical_abi.proofs.Calls.TameCallKeepsPromise.{tame-call-keeps-promise}
use Rattle.canonical_abi.proofs.Calls.TameLinkKeepsPromise.{tame-link-keeps-promise}
use Rattle.canonical_abi.proofs.laws.any_tame_is_promised.Goals as goal

tame : IsTame AnyTameGrant AnyTameRelease
tame = record {
  granted = λ old align size at new is step. step;
  full = λ old align size new step. step;
  taken = λ old at size new step. step;
  not_taken = λ old at size new step. step;
}

pub returns : goal.returns
returns g c = record {
  typed = λ f arguments old result new standard call. tame-call-keeps-promise _ AnyTameRelease AnyTameRelease exact f arguments old result new standard call (record { caller = tame; callee = tame });
  flat = λ f flats old result ways new standard call area. tame-link-keeps-promise _ AnyTameRelease AnyTameRelease exact f flats old result ways new standard call (record { caller = tame; callee = tame }) area;
}
