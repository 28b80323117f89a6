use Rattle.std.proofs.Common.{arith}
use Rattle.std.proofs.lemmas.Result.{err_from_is_err_and}
use Rattle.wit_text.proofs.TokensTellTheText.{of_all, lex_faulty, lex_refuses, all_found, only_those, all_faulty}
use Rattle.wit_text.proofs.file.parse.Goals as goal

pub returns-in_err-list-clause-only : goal.returns-in_err-list-clause-only
returns-in_err-list-clause-only c =
    let p = err_from_is_err_and c.from_residual.result c.from_residual.ensures.1 in
    rw (p.1, p.2) (lex_refuses c.args.text.now c.in_err-list.field-0.0 (c.texts_have_one_lexing.ensures.bad c.args.text.now) (c.texts_have_one_lexing.ensures.unclosed c.args.text.now) c.in_err-list.ensures.err)

pub returns-in_err-list-clause-fault : goal.returns-in_err-list-clause-fault
returns-in_err-list-clause-fault c =
    let p = err_from_is_err_and c.from_residual.result c.from_residual.ensures.1 in
    rw (p.1, p.2) (lex_faulty c.args.text.now c.in_err-list.field-0.0 c.in_err-list.ensures.err)

pub invariant_of-tokens : goal.invariant_of-tokens
invariant_of-tokens c = record {
  named = rw (c.as_bytes.ensures.value, c.as_slice.ensures.value) c.in_ok-list.ensures.named;
  few = rw c.as_slice.ensures.value (omega (arith, c.in_ok-list.ensures.few, c.in_ok-list.ensures.ok.0));
}

pub returns-clause-found : goal.returns-clause-found
returns-clause-found c =
    let told = of_all _ c.args.text.now c.in_ok-list.list.items c.file.result c.as_bytes.ensures.value c.as_slice.ensures.value c.file.ensures in
    all_found c.args.text.now c.in_ok-list.list.items c.in_ok-list.ensures.ok.0 c.in_ok-list.ensures.ok.1 (c.texts_have_one_lexing.ensures.one c.args.text.now) c.file.result told

pub returns-clause-only : goal.returns-clause-only
returns-clause-only c =
    let told = of_all _ c.args.text.now c.in_ok-list.list.items c.file.result c.as_bytes.ensures.value c.as_slice.ensures.value c.file.ensures in
    only_those c.args.text.now c.in_ok-list.list.items c.in_ok-list.ensures.ok.0 c.in_ok-list.ensures.ok.1 (c.texts_have_one_lexing.ensures.one c.args.text.now) c.file.result told

pub returns-clause-fault : goal.returns-clause-fault
returns-clause-fault c =
    let told = of_all _ c.args.text.now c.in_ok-list.list.items c.file.result c.as_bytes.ensures.value c.as_slice.ensures.value c.file.ensures in
    all_faulty c.args.text.now c.in_ok-list.list.items c.in_ok-list.ensures.ok.0 c.in_ok-list.ensures.ok.1 (c.texts_have_one_lexing.ensures.one c.args.text.now) c.file.result told
