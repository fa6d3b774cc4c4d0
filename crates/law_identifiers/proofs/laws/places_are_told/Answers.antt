use Rattle.law_identifiers.proofs.PlacesTold.{frames_told, smids_told}
use Rattle.law_identifiers.proofs.laws.places_are_told.Goals as goal

pub returns : goal.returns
returns c = record { smids = smids_told; frames = frames_told }
