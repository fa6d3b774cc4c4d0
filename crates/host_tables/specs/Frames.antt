-- The host's reply frames.
use Rattle.std.specs.Prelude.{ℕ, List}
use Rattle.mpt_rules.specs.declared.host_frame.HostFrame.{HostFrame}

-- where each is, by its number from 0, and how many were returned, modulo 80
pub record Frames : Type 0 where
  pub frames : List HostFrame
  pub returned : ℕ
