-- How a contract sees a controller.
use Rattle.std.specs.Prelude.{ℕ, ◌≤◌, List, length}
use Rattle.mpt_trace.specs.declared.entry.Entry.{Entry}
use Rattle.mpt_rules.specs.Ioc.Parts.{Ioc}

pub record IocSeen : Type 0 where
  -- the record of the controller's rules
  pub part : Ioc
  -- what it still has to tell, the next first
  pub told : List Entry
  -- how many items more each of its lists takes without memory
  pub room : ℕ

-- there are 16 expanders at most
abbrev pub HasFewExpanders : List ℕ → Type 0
HasFewExpanders phys = length phys ≤ 16
