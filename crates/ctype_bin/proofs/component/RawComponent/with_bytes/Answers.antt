use Rattle.std.proofs.Common.{◌≡◌, []}
use Rattle.ctype_format.specs.View.{parts_file}
use Rattle.ctype_format.specs.Writing.{file_bytes}
use Rattle.ctype_format.specs.Formed.{FormedFile}
use Rattle.ctype_bin.proofs.DecodesByProductions.{written_bytes}
use Rattle.ctype_bin.proofs.AcceptedIsSpelt.Files.{file_spelt}
use Rattle.ctype_bin.proofs.component.RawComponent.with_bytes.Goals as goal

pub of-requires : goal.of-requires
of-requires c =
    let f = parts_file c.args.types c.args.exports in
    let formed : FormedFile f = rw (c.as_slice.ensures.value, c.as_slice-2.ensures.value) at c.in_ok-bytes.ensures.formed in
    ∣ (file_bytes f, file_spelt f formed c.requires) ∣₁

pub returns-clause-spelling : goal.returns-clause-spelling
returns-clause-spelling c =
    let f = parts_file c.args.types c.args.exports in
    let formed : FormedFile f = rw (c.as_slice.ensures.value, c.as_slice-2.ensures.value) at c.in_ok-bytes.ensures.formed in
    let bytes : c.in_ok-bytes.bytes.items ≡ file_bytes f = rw (c.as_slice.ensures.value, c.as_slice-2.ensures.value) at c.in_ok-bytes.ensures.bytes in
    ∣ written_bytes f (file_bytes f, file_spelt f formed c.requires) [] c.in_ok-bytes.bytes.items bytes ∣₁
