use Rattle.wit_component.proofs.SameDeclarations.{component-types, instance-types}
use Rattle.wit_component.proofs.same_declarations.+same.Goals as goal

pub is_same_type-returns-in-Component-other : goal.is_same_type-returns-in-Component-other
is_same_type-returns-in-Component-other t c =
    component-types _ _ c.in-Component.some c.in-Component-other.other _ _ _ c.as_slice.ensures.value c.as_slice-in-Component-other.ensures.value c.are_same_decls.ensures
    c.in-Component.is c.in-Component-other.is

pub is_same_type-returns-in-Instance-other : goal.is_same_type-returns-in-Instance-other
is_same_type-returns-in-Instance-other t c =
    instance-types _ _ c.in-Instance.some c.in-Instance-other.other _ _ _ c.as_slice-in-Instance-other.ensures.value c.as_slice-in-Instance-other-2.ensures.value c.are_same_decls-in-Instance-other.ensures
    c.in-Instance.is c.in-Instance-other.is
