use Rattle.std.proofs.Common.{ℕ, map, sym, subst}
use Rattle.canonical_abi.specs.Labelled.{closed}
use Rattle.canonical_abi.specs.Layout.{size}
use Rattle.canonical_abi.specs.Memory.{Holds, EachHolds}
use Rattle.canonical_abi.specs.Reading.{number_of, low_bits}
use Rattle.tables.specs.Labelled.{labelled_type}
use Rattle.value_text.proofs.Carried.{list-put}
use Rattle.value_text.proofs.held.Held.write_flat_list.Goals as goal

pub returns : goal.returns
returns c = λ v h.
    let (block, vs, each, is) = h in
    let l = labelled_type c.args.self.now.types.now c.args.element in
    let m = c.args.self.now.memory.now in
    let ns = map number_of c.args.flats.now in
    let P : ℕ → ℕ → Type 0 = λ s n. EachHolds (Holds (closed l) m) (size (closed l)) s n vs in
    let counted = subst (P (low_bits ns 0 32)) (sym c.low_word-count.ensures) each in
    let here = subst (λ s. P s c.low_word-count.result) (sym c.low_word-start.ensures) counted in
    list-put c.args.self.now.limit m ns c.args.room.now c.args.at c.write_elements.result c.write_elements.new.room l v vs is (c.write_elements.ensures vs here)
