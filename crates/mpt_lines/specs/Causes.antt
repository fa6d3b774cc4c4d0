-- The printed words of the causes.
use Rattle.std.specs.Prelude.{ℕ, List, codes}
use Rattle.mpt_lines.specs.declared.fault.Cause.{Cause}
use Rattle.mpt_lines.specs.declared.fault.Cause.TheVariants.{Unended, Form, Range, Order, Again, Many, Name, Hex}

-- the word that is printed for a cause
abbrev pub cause_word : Cause → List ℕ
cause_word Unended = codes "unended"
cause_word Form = codes "form"
cause_word Range = codes "range"
cause_word Order = codes "order"
cause_word Again = codes "again"
cause_word Many = codes "many"
cause_word Name = codes "name"
cause_word Hex = codes "hex"
