use Rattle.ctype_format.proofs.WrittenDeclarationsAsLists.{file_is, file_formed}
use Rattle.ctype_bin.proofs.encoding.spelling.Goals as goal

pub returns-clause-bytes : goal.returns-clause-bytes
returns-clause-bytes c =
    file_is c.args.types.now c.args.exports.now c.put_types.new.out.items c.put_exports.new.out.items c.in_ok-bytes.bytes.items c.put_section.new.out.items c.put_section-2.new.out.items
    (rw c.new-type_section.ensures.items at c.in_ok-put_types.ensures.bytes)
    (rw c.new-export_section.ensures.items at c.in_ok-put_exports.ensures.bytes)
    c.in_ok-bytes.ensures.items
    (rw c.as_slice.ensures.value at c.in_ok-put_section.ensures.bytes)
    (rw c.as_slice-2.ensures.value at c.in_ok-put_section-2.ensures.bytes)

pub returns-clause-formed : goal.returns-clause-formed
returns-clause-formed c =
    file_formed c.args.types.now c.args.exports.now c.put_types.new.out.items c.put_exports.new.out.items
    (rw c.new-type_section.ensures.items at c.in_ok-put_types.ensures.bytes)
    (rw c.new-export_section.ensures.items at c.in_ok-put_exports.ensures.bytes)
    c.in_ok-put_types.ensures.formed c.in_ok-put_exports.ensures.formed
    (rw c.as_slice.ensures.value at c.in_ok-put_section.ensures.formed)
    (rw c.as_slice-2.ensures.value at c.in_ok-put_section-2.ensures.formed)
