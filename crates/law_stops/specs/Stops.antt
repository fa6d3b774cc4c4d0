-- What is shown of the aborts of a command.
use Rattle.std.specs.Prelude.{◌≡◌, ℕ, true, false}
use Rattle.law_facts.specs.History.{History}

-- of each command the rule has what the rule of counts has
abbrev pub HighsAgree : History → Type 0
HighsAgree h = (s q : ℕ) → (h.stopping s).highs q ≡ h.high q

-- a further fact of replies, which no other gives once one was put: none says something else where one said that the command was stopped
abbrev pub EndsAgree : History → Type 0
EndsAgree h = (s : ℕ) → (h.stopping s).life.stopped ≡ true → (h.stopping s).life.other ≡ false
