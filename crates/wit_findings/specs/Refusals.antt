-- The error of an opening as a finding.
use Rattle.std.specs.Prelude.{◌≡◌, ℕ, None}
use Rattle.wit_tokens.specs.declared.error.TextError.{TextError}
use Rattle.wit_tokens.specs.declared.error.TextError.TheVariants as error
use Rattle.wit_findings.specs.declared.finding.Finding.{Finding}

-- the number of an error
abbrev pub number_of : TextError → ℕ
number_of (error.BadChar s) = 30
number_of (error.OpenComment s) = 31
number_of (error.Expected k s) = 32
number_of (error.Unsupported f s) = 33
number_of (error.Depth s) = 34
number_of error.NoMemory = 35
number_of error.Limit = 36

-- where an error begins: behind the most bytes that a text may have, if it is about no token
abbrev pub start_of : TextError → ℕ
start_of (error.BadChar s) = s.start
start_of (error.OpenComment s) = s.start
start_of (error.Expected k s) = s.start
start_of (error.Unsupported f s) = s.start
start_of (error.Depth s) = s.start
start_of error.NoMemory = 1048576
start_of error.Limit = 1048576

-- where an error ends
abbrev pub end_of : TextError → ℕ
end_of (error.BadChar s) = s.end
end_of (error.OpenComment s) = s.end
end_of (error.Expected k s) = s.end
end_of (error.Unsupported f s) = s.end
end_of (error.Depth s) = s.end
end_of error.NoMemory = 1048576
end_of error.Limit = 1048576

-- a finding is an error of an opening
pub record IsRefusal (e : TextError) (f : Finding) : Type 0 where
  pub number : f.number ≡ number_of e
  pub start : f.start ≡ start_of e
  pub end : f.end ≡ end_of e
  pub edit : f.edit ≡ None
