use Rattle.std.proofs.Common.{inr, refl, ap, arith}
use Rattle.std.proofs.lemmas.Str.{is_utf8-from_IsUtf8, IsUtf8-from_is_utf8, IsUtf8-from_ascii}
use Rattle.canonical_abi.specs.Values.{string_value}
use Rattle.canonical_abi.proofs.Traces.WhatTracesKeep.{not-true}
use Rattle.values.proofs.text.text_in.Goals as goal

pub returns-in-Some-clause-text : goal.returns-in-Some-clause-text
returns-in-Some-clause-text c = (omega arith, is_utf8-from_IsUtf8 _ c.in-Some.ensures.some.0, ap string_value c.in-Some.ensures.some.1)

pub returns-in-None-clause-fault : goal.returns-in-None-clause-fault
returns-in-None-clause-fault c = inr (omega arith, not-true (λ b. c.in-None.ensures.none (IsUtf8-from_is_utf8 _ b)), refl)

pub from_utf8_unchecked-requires : goal.from_utf8_unchecked-requires
from_utf8_unchecked-requires c = IsUtf8-from_ascii _ (c.if-are_ascii.ensures refl)

pub returns-then-are_ascii-clause-text : goal.returns-then-are_ascii-clause-text
returns-then-are_ascii-clause-text c = (omega arith, is_utf8-from_IsUtf8 _ (IsUtf8-from_ascii _ (c.if-are_ascii.ensures refl)), ap string_value c.from_utf8_unchecked.ensures)
