-- A result that is passed over an honest guest is denoted, or held in the return area.
use Rattle.std.proofs.Common.{◌∷◌, inl, inr, refl}
use Rattle.canonical_abi.specs.Types.{record_type}
use Rattle.canonical_abi.specs.Guest.{Allocation, Release, IsHonest}
use Rattle.canonical_abi.specs.Trace.{node}
use Rattle.canonical_abi.specs.Laws.{ResultIsHeld}
use Rattle.canonical_abi.proofs.Traces.TracesLeaveImages.{leaves_image}
use Rattle.canonical_abi.proofs.Traces.WhatTracesKeep.{runs-keep}
use Rattle.canonical_abi.proofs.StoredValues.WritesOwnPlaceAndBlocks.{stores-own, fields-aligned}
use Rattle.canonical_abi.proofs.StoredValues.StoredBytesStand.{record-carrying}
use Rattle.canonical_abi.proofs.StoredValues.StandingIsHeld.{fields-held}
use Rattle.canonical_abi.proofs.FlatValues.LoweredIsDenoted.{lowered-is-denoted}

pub result-is-held : (allocates : Allocation) (releases : Release) → IsHonest allocates releases → ResultIsHeld allocates
result-is-held allocates releases honest limit ts area vs es flats old new standard small live (inl s) leads =
    inl (s.0, lowered-is-denoted allocates releases honest limit ts vs es flats old new standard small (inl s) leads)
result-is-held allocates releases honest limit ts area vs es flats old new standard small live (inr s) leads =
    let aligned = fields-aligned ts area 0 vs es s.1 in
    let c = record-carrying allocates releases honest ts area vs es s.1 old new (live s.0) aligned leads in
    inr (
      s.0,
      s.2,
      record {
        holds = fields-held new.bytes small ts standard area 0 vs es s.1 c;
        carries = c;
        own = λ x w out. elim (stores-own (record_type ts) area _ (node ∷ es) (vs, es, refl, refl, s.1) x w) [ inl i ↦ i | inr g ↦ absurd (out g) ];
        image = leaves_image allocates releases old new es honest aligned leads;
        keeps = runs-keep allocates releases honest es old new aligned leads;
      },
    )
