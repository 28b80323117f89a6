-- What is stored over an honest guest is held in the end.
use Rattle.std.proofs.Common.{inl, inr}
use Rattle.canonical_abi.specs.Guest.{Allocation, Release, IsHonest}
use Rattle.canonical_abi.specs.Laws.{KeepsTraces, StoredIsHeld}
use Rattle.canonical_abi.proofs.Traces.TracesLeaveImages.{leaves_image}
use Rattle.canonical_abi.proofs.Traces.WhatTracesKeep.{runs-keep}
use Rattle.canonical_abi.proofs.StoredValues.WritesOwnPlaceAndBlocks.{stores-own, stores-aligned}
use Rattle.canonical_abi.proofs.StoredValues.StoredBytesStand.{stores-carrying}
use Rattle.canonical_abi.proofs.StoredValues.StandingIsHeld.{stores-held}

pub keeps-traces : (allocates : Allocation) (releases : Release) → IsHonest allocates releases → KeepsTraces allocates
keeps-traces allocates releases honest es old new aligned leads =
    (runs-keep allocates releases honest es old new aligned leads, leaves_image allocates releases old new es honest aligned leads)

pub stored-is-held : (allocates : Allocation) (releases : Release) → IsHonest allocates releases → StoredIsHeld allocates
stored-is-held allocates releases honest t v at es old new standard small live stores leads =
    let aligned = stores-aligned t at v es stores in
    let c = stores-carrying allocates releases honest t at v es stores old new live aligned leads in
    record {
      holds = stores-held new.bytes small t standard at v es stores c;
      carries = c;
      own = λ x w out. elim (stores-own t at v es stores x w) [ inl i ↦ i | inr g ↦ absurd (out g) ];
      image = leaves_image allocates releases old new es honest aligned leads;
      keeps = runs-keep allocates releases honest es old new aligned leads;
    }
