use Rattle.law_starts.proofs.StartsKept.{sound_stands}
use Rattle.law_starts.proofs.laws.doors_stay_sound.Goals as goal

pub returns : goal.returns
returns c = sound_stands
