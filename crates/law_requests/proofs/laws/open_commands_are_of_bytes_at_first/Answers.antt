use Rattle.law_requests.proofs.BytesKept.{bytes_first}
use Rattle.law_requests.proofs.laws.open_commands_are_of_bytes_at_first.Goals as goal

pub returns : goal.returns
returns c = bytes_first
