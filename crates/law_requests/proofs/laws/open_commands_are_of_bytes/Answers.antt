use Rattle.law_requests.proofs.BytesKept.{bytes_kept}
use Rattle.law_requests.proofs.laws.open_commands_are_of_bytes.Goals as goal

pub returns : goal.returns
returns c = λ w h c a f bytes. bytes_kept w h f bytes c a
