use Rattle.canonical_abi.specs.AnyHonest.{AnyGrant, AnyRelease}
use Rattle.canonical_abi.specs.Call.{exact}
use Rattle.canonical_abi.specs.Guest.{IsHonest}
use Rattle.canonical_abi.proofs.Calls.CallKeepsPromise.{keeps-promise}
use Rattle.canonical_abi.proofs.Calls.LinkKeepsPromise.{link-keeps-promise}
use Rattle.canonical_abi.proofs.laws.any_honest_is_promised.Goals as goal

honest : IsHonest AnyGrant AnyRelease
honest = record {
  granted = λ old align size at new is step. step;
  full = λ old align size new step. step;
  taken = λ old at size new step. step;
  not_taken = λ old at size new step. step;
}

pub returns : goal.returns
returns g c = record {
  typed = λ f arguments old result new standard call. keeps-promise _ AnyRelease AnyRelease exact f arguments old result new standard call (record { caller = honest; callee = honest });
  flat = λ f flats old result ways new standard call area. link-keeps-promise _ AnyRelease AnyRelease exact f flats old result ways new standard call (record { caller = honest; callee = honest }) area;
}
