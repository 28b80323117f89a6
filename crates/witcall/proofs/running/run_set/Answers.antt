use Rattle.std.proofs.Common.{◌≡◌, true, false, Err, refl, sym, ap, ◌∙◌, inl, inr}
use Rattle.std.proofs.lemmas.Result.{err_from_is_err_and}
use Rattle.witcall.proofs.MadeFromReaders.{makes, refuses-opening, refuses-making}
use Rattle.witcall.specs.Running.{all_items, RunRefuses}
use Rattle.witcall.specs.declared.refused.Refused.TheVariants.{Open}
use Rattle.witcall.proofs.BytesWrittenBySlices.{appended, begun}
use Rattle.witcall.proofs.running.run_set.Goals as goal

pub returns-in_err-last-clause-err : goal.returns-in_err-last-clause-err
returns-in_err-last-clause-err g c =
    let p = err_from_is_err_and c.from_residual.result c.from_residual.ensures.1 in
    rw (p.1, p.2) (inl c.in_err-last.ensures.err)

pub returns-in_err-package-clause-err : goal.returns-in_err-package-clause-err
returns-in_err-package-clause-err g c =
    let p = err_from_is_err_and c.from_residual-in_err-package.result c.from_residual-in_err-package.ensures.1 in
    let before = all_items c.args.earlier.now in
    let e = c.in_err-package.field-0.0 in
    let refused : RunRefuses before (g.R.Source.remaining c.args.reader.now) c.args.job (Open e) = elim c.in_err-package.ensures.err [
      | inl is ↦ inl (inr is)
      | inr h ↦ refuses-opening before _ c.args.job c.in_ok-last.last.items _ c.in_ok-last.ensures.bytes c.as_slice.ensures.value _ h
    ] in
    rw (p.1, p.2) refused

pub returns-in_err-whole-clause-err : goal.returns-in_err-whole-clause-err
returns-in_err-whole-clause-err g c =
    let p = err_from_is_err_and c.from_residual-in_err-whole.result c.from_residual-in_err-whole.ensures.1 in
    let opened = c.in_ok-package.«package» in
    rw (p.1, p.2)
    (refuses-making (all_items c.args.earlier.now) _ c.args.job c.in_ok-last.last.items _ c.in_ok-last.ensures.bytes c.as_slice.ensures.value opened.resolve c.in_ok-package.ensures.ok _
    c.in_err-whole.ensures.err)

pub returns-in_err-write_bytes-clause-begun : goal.returns-in_err-write_bytes-clause-begun
returns-in_err-write_bytes-clause-begun g c = λ write.
    let part = begun _ _ _ c.in_ok-whole.whole.items c.as_slice-2.ensures.value c.in_err-write_bytes.ensures.begun in
    let opened = c.in_ok-package.«package» in
    let made = makes (all_items c.args.earlier.now) _ c.args.job c.in_ok-last.last.items _ c.in_ok-last.ensures.bytes c.as_slice.ensures.value opened.resolve c.in_ok-package.ensures.ok _ _
    c.in_ok-whole.ensures.ok refl in
    (_, part.0, made, part.1, part.2)

pub returns-in_err-write_bytes-clause-err : goal.returns-in_err-write_bytes-clause-err
returns-in_err-write_bytes-clause-err g c =
    let p = err_from_is_err_and c.from_residual-in_err-write_bytes.result c.from_residual-in_err-write_bytes.ensures.1 in
    let opened = c.in_ok-package.«package» in
    rw (p.1, p.2, c.in_err-write_bytes.ensures.err) (
      _,
      makes (all_items c.args.earlier.now) _ c.args.job c.in_ok-last.last.items _ c.in_ok-last.ensures.bytes c.as_slice.ensures.value opened.resolve c.in_ok-package.ensures.ok _
          c.in_ok-whole.whole.items c.in_ok-whole.ensures.ok refl,
    )

pub returns-clause-ok : goal.returns-clause-ok
returns-clause-ok g c =
    let opened = c.in_ok-package.«package» in (
      _,
      makes (all_items c.args.earlier.now) _ c.args.job c.in_ok-last.last.items _ c.in_ok-last.ensures.bytes c.as_slice.ensures.value opened.resolve c.in_ok-package.ensures.ok _
          c.in_ok-whole.whole.items c.in_ok-whole.ensures.ok refl,
      appended _ _ _ c.in_ok-whole.whole.items c.as_slice-2.ensures.value c.in_ok-write_bytes.ensures.ok,
    )

pub returns-in_err-package-clause-whole : goal.returns-in_err-package-clause-whole
returns-in_err-package-clause-whole g c = λ ok memory. (c.in_ok-last.last.items, c.in_ok-last.ensures.bytes, c.in_ok-last.ensures.rest)

pub returns-in_err-whole-clause-whole : goal.returns-in_err-whole-clause-whole
returns-in_err-whole-clause-whole g c = λ ok memory. (c.in_ok-last.last.items, c.in_ok-last.ensures.bytes, c.in_ok-last.ensures.rest)

pub returns-in_err-write_bytes-clause-whole : goal.returns-in_err-write_bytes-clause-whole
returns-in_err-write_bytes-clause-whole g c = λ ok memory. (c.in_ok-last.last.items, c.in_ok-last.ensures.bytes, c.in_ok-last.ensures.rest)

pub returns-clause-whole : goal.returns-clause-whole
returns-clause-whole g c = λ ok memory. (c.in_ok-last.last.items, c.in_ok-last.ensures.bytes, c.in_ok-last.ensures.rest)

pub returns-in_err-last-clause-whole : goal.returns-in_err-last-clause-whole
returns-in_err-last-clause-whole g c = λ ok memory.
    let p = err_from_is_err_and c.from_residual.result c.from_residual.ensures.1 in
    elim c.in_err-last.ensures.err [
      | inl h ↦ let bad : true ≡ false = sym (c.in_err-last.ensures.failed h.0 (ap Err h.1)).0 ∙ ok in absurd (cc)
      | inr is ↦ absurd (memory (p.1 ∙ ap Err (p.2 ∙ ap Open is)))
    ]

pub returns-in_err-write_bytes-clause-unbroken : goal.returns-in_err-write_bytes-clause-unbroken
returns-in_err-write_bytes-clause-unbroken g c = λ failed.
    let p = err_from_is_err_and c.from_residual-in_err-write_bytes.result c.from_residual-in_err-write_bytes.ensures.1 in
    p.1 ∙ ap Err (p.2 ∙ c.in_err-write_bytes.ensures.err)
