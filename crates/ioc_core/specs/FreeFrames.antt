-- The reply frames that the controller may use.
use Rattle.std.specs.Prelude.{ℕ, ◌≤◌, ◌==◌, nat_lt, Bool, true, ◌≡◌, List, count_by}
use Rattle.std.specs.List.{list_all}
use Rattle.mpi_names.specs.declared.memory.TheConstants.{REPLY_FRAMES}

-- one of the reply frames
abbrev pub is_frame : ℕ → Bool
is_frame frame = nat_lt frame REPLY_FRAMES

-- each is one of the 64, and none stands there twice
pub record AreFreeFrames (frames : List ℕ) : Type 0 where
  pub known : list_all is_frame frames ≡ true
  pub once : (frame : ℕ) → count_by (λ f. f == frame) frames ≤ 1
