use Rattle.std.proofs.Common.{◌≡◌, true, not, arith, sym, ap, ◌∙◌}
use denote.Enum.Bare.{sameb}
use Rattle.canonical_abi.specs.Layout.{prim_kind}
use Rattle.canonical_abi.specs.contracts.flat.CoreKind.{the_type}
use Rattle.canonical_abi.specs.declared.flat.CoreKind.{CoreKind}
use Rattle.canonical_abi.specs.declared.flat.CoreKind.TheVariants.{I32, I64}
use Rattle.canonical_abi.specs.declared.flat.Flat.TheVariants as flat
use Rattle.tables.specs.declared.tables.Primitive.TheVariants as primitive
use Rattle.tables.specs.declared.tables.ValType.TheVariants as val
use Rattle.values.proofs.ScalarLists.{kind_at}
use Rattle.values.proofs.scalars.kinds_fit.Goals as goal

-- a test for a difference fails at equal kinds
same_kind : (a b : CoreKind) → not (sameb the_type a b) ≡ true → a ≡ b → ⊥
same_kind I32 I32 test same = cc
same_kind I32 I64 test same = cc
same_kind I64 I32 test same = cc
same_kind I64 I64 test same = cc

pub returns-then-ne : goal.returns-then-ne
returns-then-ne c = (
  λ no. cc,
  λ fits.
      let same = kind_at c.loop-i.i c.args.types.now c.args.flats.now (flat.I32 0) (val.Primitive primitive.Bool) fits (omega arith) in
      absurd (same_kind _ _ (sym c.ne.ensures ∙ c.if-ne.true) (c.kind.ensures ∙ same ∙ ap prim_kind (sym c.primitive_of.ensures) ∙ sym c.core_kind.ensures)),
)
