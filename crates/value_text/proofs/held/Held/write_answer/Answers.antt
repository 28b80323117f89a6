use Rattle.std.proofs.Common.{List, sym, ap, ◌∙◌, subst, option_to_list}
use Rattle.canonical_abi.specs.Flat.{Denotes}
use Rattle.canonical_abi.specs.Layout.{max_flat_results}
use Rattle.canonical_abi.specs.Values.{Value}
use Rattle.values.specs.Members.{fields_of_types}
use Rattle.value_text.specs.Flats.{result_text}
use Rattle.value_text.specs.Puts.{PutsWithin}
use Rattle.value_text.proofs.Spilled.{on-some, if-none, alone-flat, alone-spilled}
use Rattle.value_text.proofs.held.Held.write_answer.Goals as goal

pub write_flat-requires-clause-flat : goal.write_flat-requires-clause-flat
write_flat-requires-clause-flat c =
    let r = c.args.self.now.types.now in
    let m = c.args.self.now.memory.now in
    let flats = c.args.flats.now in
    let ty = c.in-Some.ty in
    let fits = on-some c.count_within.result _ (sym c.is_some.ensures ∙ c.if-is_some.true) c.count_within.ensures.flat in
    let (vs, den) = subst (λ o. (vs : List Value) × Denotes max_flat_results (fields_of_types r (option_to_list o)) m flats vs) c.in-Some.is c.requires.denoted in
    (alone-flat r ty m flats vs fits den).0

pub write_flat-requires-clause-carried : goal.write_flat-requires-clause-carried
write_flat-requires-clause-carried c =
    let r = c.args.self.now.types.now in
    let m = c.args.self.now.memory.now in
    let flats = c.args.flats.now in
    let ty = c.in-Some.ty in
    let fits = on-some c.count_within.result _ (sym c.is_some.ensures ∙ c.if-is_some.true) c.count_within.ensures.flat in
    let (vs, den) = subst (λ o. (vs : List Value) × Denotes max_flat_results (fields_of_types r (option_to_list o)) m flats vs) c.in-Some.is c.requires.denoted in
    let (less, (v, lifts, text)) = alone-flat r ty m flats vs fits den in (v, lifts)

pub write_at-requires-clause-fits : goal.write_at-requires-clause-fits
write_at-requires-clause-fits c =
    let r = c.args.self.now.types.now in
    let m = c.args.self.now.memory.now in
    let flats = c.args.flats.now in
    let ty = c.in-Some.ty in
    let fits = if-none c.count_within.result _ (sym c.is_some.ensures ∙ c.if-is_some.false) c.count_within.ensures.spilled in
    let (vs, den) = subst (λ o. (vs : List Value) × Denotes max_flat_results (fields_of_types r (option_to_list o)) m flats vs) c.in-Some.is c.requires.denoted in
    (alone-spilled r ty m flats vs c.low_word.result c.low_word.ensures fits den).0

pub write_at-requires-clause-holds : goal.write_at-requires-clause-holds
write_at-requires-clause-holds c =
    let r = c.args.self.now.types.now in
    let m = c.args.self.now.memory.now in
    let flats = c.args.flats.now in
    let ty = c.in-Some.ty in
    let fits = if-none c.count_within.result _ (sym c.is_some.ensures ∙ c.if-is_some.false) c.count_within.ensures.spilled in
    let (vs, den) = subst (λ o. (vs : List Value) × Denotes max_flat_results (fields_of_types r (option_to_list o)) m flats vs) c.in-Some.is c.requires.denoted in
    let (less, (v, holds, text)) = alone-spilled r ty m flats vs c.low_word.result c.low_word.ensures fits den in (v, holds)

pub returns-then-is_some : goal.returns-then-is_some
returns-then-is_some c = λ vs denoted.
    let r = c.args.self.now.types.now in
    let m = c.args.self.now.memory.now in
    let flats = c.args.flats.now in
    let ty = c.in-Some.ty in
    let fits = on-some c.count_within.result _ (sym c.is_some.ensures ∙ c.if-is_some.true) c.count_within.ensures.flat in
    let den = subst (λ o. Denotes max_flat_results (fields_of_types r (option_to_list o)) m flats vs) c.in-Some.is denoted in
    let (less, (v, lifts, text)) = alone-flat r ty m flats vs fits den in
    subst (λ x. PutsWithin c.args.self.now.limit x c.args.room.now 0 c.write_flat.result c.write_flat.new.room) (sym (ap (λ o. result_text r o vs) c.in-Some.is ∙ text)) (c.write_flat.ensures v lifts)

pub returns-else-is_some : goal.returns-else-is_some
returns-else-is_some c = λ vs denoted.
    let r = c.args.self.now.types.now in
    let m = c.args.self.now.memory.now in
    let flats = c.args.flats.now in
    let ty = c.in-Some.ty in
    let fits = if-none c.count_within.result _ (sym c.is_some.ensures ∙ c.if-is_some.false) c.count_within.ensures.spilled in
    let den = subst (λ o. Denotes max_flat_results (fields_of_types r (option_to_list o)) m flats vs) c.in-Some.is denoted in
    let (less, (v, holds, text)) = alone-spilled r ty m flats vs c.low_word.result c.low_word.ensures fits den in
    subst (λ x. PutsWithin c.args.self.now.limit x c.args.room.now 0 c.write_at.result c.write_at.new.room) (sym (ap (λ o. result_text r o vs) c.in-Some.is ∙ text)) (c.write_at.ensures v holds)
