use Rattle.std.proofs.Common.{◌≡◌, true, false, Err, ap, sym, ◌∙◌}
use Rattle.ctype_format.specs.declared.error.BinError.TheVariants.{NoMemory}
use Rattle.ctype_bin.specs.FileView.{raw_component_view}
use Rattle.ctype_bin.proofs.BytesPastTheLimit.{of_known, of_read, some_read}
use Rattle.ctype_bin.proofs.decoding.decode_from.Goals as goal

pub returns-in-Ok-clause-decoded : goal.returns-in-Ok-clause-decoded
returns-in-Ok-clause-decoded g c =
    of_known raw_component_view c.decode.result (g.R.Source.remaining c.args.reader.now) c.in-Ok.bytes.items c.in-Ok.ensures.bytes (rw c.deref.ensures.value at c.decode.ensures.exact)

pub returns-in-Ok-clause-cut : goal.returns-in-Ok-clause-cut
returns-in-Ok-clause-cut g c =
    of_read raw_component_view c.decode.result (g.R.Source.remaining c.args.reader.now) c.in-Ok.bytes.items c.in-Ok.ensures.bytes (rw c.deref.ensures.value at c.decode.ensures.exact)

pub returns-in-Err-Failed-clause-cut : goal.returns-in-Err-Failed-clause-cut
returns-in-Err-Failed-clause-cut g c = some_read raw_component_view (Err NoMemory) (g.R.Source.remaining c.args.reader.now) (λ bytes. tt)

pub returns-in-Err-NoMemory-clause-cut : goal.returns-in-Err-NoMemory-clause-cut
returns-in-Err-NoMemory-clause-cut g c = some_read raw_component_view (Err NoMemory) (g.R.Source.remaining c.args.reader.now) (λ bytes. tt)

pub returns-in-Ok-clause-rest : goal.returns-in-Ok-clause-rest
returns-in-Ok-clause-rest g c = λ lasts there. (c.in-Ok.bytes.items, c.in-Ok.ensures.bytes, c.in-Ok.ensures.rest)

pub returns-in-Err-Failed-clause-rest : goal.returns-in-Err-Failed-clause-rest
returns-in-Err-Failed-clause-rest g c = λ lasts there.
    let failed = c.in-Err-Failed.ensures.failed c.in-Err-Failed.count (ap Err c.in-Err-Failed.field-0-is) in
    let bad : true ≡ false = sym failed.0 ∙ lasts in absurd (cc)
