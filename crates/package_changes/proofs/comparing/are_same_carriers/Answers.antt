use Rattle.std.proofs.Common.{◌≡◌, ap, sym, ◌∙◌}
use Rattle.package_changes.specs.Likeness.{are_same_kinds}
use Rattle.package_changes.proofs.CarriersAlike.{kinds-told, tag_eq}
use lib.Pointwise.{pointwise}
use Rattle.package_changes.proofs.comparing.are_same_carriers.Goals as goal

pub returns-in-Flat-Flat : goal.returns-in-Flat-Flat
returns-in-Flat-Flat c =
    rw (c.in-Flat-Flat.is-0, c.in-Flat-Flat.is-1) (
    c.eq.ensures ∙ kinds-told c.as_slice.result.now c.as_slice-in-Flat-Flat.result.now
    ∙ ap (λ ks. are_same_kinds ks c.as_slice-in-Flat-Flat.result.now) c.as_slice.ensures.value
    ∙ ap (are_same_kinds c.in-Flat-Flat.kinds.items) c.as_slice-in-Flat-Flat.ensures.value
    )
