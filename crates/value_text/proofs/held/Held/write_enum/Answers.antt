use Rattle.std.proofs.Common.{length, sym, subst}
use Rattle.json.specs.Print.{quoted}
use Rattle.serde_json.specs.Written.{compact_text}
use Rattle.value_text.specs.Puts.{PutsWithin}
use Rattle.value_text.proofs.Elements.{is-at}
use Rattle.value_text.proofs.HeldInTurn.{discriminant-fits, count-labels, enum-number, enum-data}
use Rattle.canonical_abi.specs.Labelled.{plain_cases}
use Rattle.value_text.proofs.held.Held.write_enum.Goals as goal

pub case_at-number-requires : goal.case_at-number-requires
case_at-number-requires c =
    discriminant-fits (plain_cases c.args.labels.now) (length c.args.labels.now) c.args.from (length c.args.self.now.memory.now) (count-labels c.args.labels.now) c.requires.fits

pub bounds-labels-number : goal.bounds-labels-number
bounds-labels-number c =
    let (v, h) = c.requires.holds in
    (enum-number c.args.labels.now c.args.self.now.memory.now c.args.from c.case_at-number.result v c.case_at-number.ensures h).0

pub returns : goal.returns
returns c = λ v h.
    let ls = c.args.labels.now in
    let number = c.case_at-number.result in
    let l = c.index-labels-number.result in
    let (less, is) = enum-number ls c.args.self.now.memory.now c.args.from number v c.case_at-number.ensures h in
    let named = subst (λ q. PutsWithin c.args.self.now.limit (quoted q) c.args.room.now c.args.at c.put_quoted.result c.put_quoted.new.room) c.as_str.ensures.is c.put_quoted.ensures in
    subst (λ d. PutsWithin c.args.self.now.limit (compact_text d) c.args.room.now c.args.at c.put_quoted.result c.put_quoted.new.room) (sym (enum-data ls number l v (is-at ls number l less c.index-labels-number.is) is)) named
