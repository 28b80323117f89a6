use Rattle.std.proofs.Common.{◌≡◌, ◌<◌, None, map, length, get_or, sym, subst}
use Rattle.value_text.specs.Cases.{IsAnyCase, IsCase, cases_of_kind, label_case}
use Rattle.value_text.proofs.Carried.{any-inside, case-there, label-inside, label-there}
use Rattle.value_text.proofs.cases.named_case.Goals as goal

pub bounds-as_slice-number : goal.bounds-as_slice-number
bounds-as_slice-number c =
    let any = subst (λ k. IsAnyCase (cases_of_kind k) c.args.number) c.in-Variant.is c.requires in
    subst (λ xs. c.args.number < length xs) (sym c.as_slice.ensures) (any-inside c.in-Variant.cases c.args.number any)

pub bounds-as_slice-number-in-Enum : goal.bounds-as_slice-number-in-Enum
bounds-as_slice-number-in-Enum c =
    let any = subst (λ k. IsAnyCase (cases_of_kind k) c.args.number) c.in-Enum.is c.requires in
    subst (λ xs. c.args.number < length xs) (sym c.as_slice-in-Enum.ensures) (label-inside c.in-Enum.labels c.args.number any)

pub returns-in-Variant : goal.returns-in-Variant
returns-in-Variant c =
    let n = c.args.number in
    let cs = c.in-Variant.cases in
    let x = c.index-as_slice-number.result in
    let any = subst (λ k. IsAnyCase (cases_of_kind k) n) c.in-Variant.is c.requires in
    let there = case-there cs n x (any-inside cs n any) (subst (λ xs. x ≡ get_or xs n x) c.as_slice.ensures c.index-as_slice-number.is) in
    subst (λ k. IsCase (cases_of_kind k) n c.as_str.result.now x.ty) (sym c.in-Variant.is) (subst (λ l. IsCase cs n l x.ty) (sym c.as_str.ensures.is) there)

pub returns-in-Enum : goal.returns-in-Enum
returns-in-Enum c =
    let n = c.args.number in
    let ls = c.in-Enum.labels in
    let x = c.index-as_slice-number-in-Enum.result in
    let any = subst (λ k. IsAnyCase (cases_of_kind k) n) c.in-Enum.is c.requires in
    let there = label-there ls n x (label-inside ls n any) (subst (λ xs. x ≡ get_or xs n x) c.as_slice-in-Enum.ensures c.index-as_slice-number-in-Enum.is) in
    subst (λ k. IsCase (cases_of_kind k) n c.as_str-in-Enum.result.now None) (sym c.in-Enum.is) (subst (λ l. IsCase (map label_case ls) n l None) (sym c.as_str-in-Enum.ensures.is) there)
