-- What is told of a text.
use Rattle.std.specs.Prelude.{◌≡◌, ℕ, ◌<◌, ◌≤◌, List, length, None, option_to_list, flat_map, All, AllPairs}
use Rattle.text_edits.specs.declared.edit.Edit.{Edit}
use Rattle.text_edits.specs.Splices.{AreApart, end_of}
use Rattle.wit_findings.specs.declared.finding.Finding.{Finding}

-- a finding is about bytes of a text of so many
abbrev pub IsIn : ℕ → Finding → Type 0
IsIn len f = (f.start ≤ f.end) × (f.end ≤ len)

-- a finding begins before another one
abbrev pub IsBefore : Finding → Finding → Type 0
IsBefore f g = f.start < g.start

-- a finding is about bytes of a text, and has no edit
abbrev pub IsPlainIn : List ℕ → Finding → Type 0
IsPlainIn text f = IsIn (length text) f × (f.edit ≡ None)

-- the edits of findings
abbrev pub edits_in : List Finding → List Edit
edits_in fs = flat_map (λ (f : Finding). option_to_list f.edit) fs

-- Findings of a text: each is about bytes of it, no two begin at one byte, and they are in its order. Their edits are
-- between characters of the text, in its order and apart.
pub record AreFindingsOf (text : List ℕ) (fs : List Finding) : Type 0 where
  pub within : All (IsIn (length text)) fs
  pub ordered : AllPairs IsBefore fs
  pub edits : AreApart text (edits_in fs)

-- findings of a text so far, the last of which begins before a place, and the last edit of which ends at one
abbrev pub AreListed : List ℕ → ℕ → ℕ → List Finding → Type 0
AreListed text next edited fs =
    All (IsIn (length text)) fs × All (λ (f : Finding). f.start < next) fs × AllPairs IsBefore fs
    × (edited ≡ end_of 0 (edits_in fs)) × AreApart text (edits_in fs)
