use Rattle.law_notices.proofs.Noticed.{noticed}
use Rattle.law_notices.proofs.laws.notices_lead.Goals as goal

pub returns : goal.returns
returns c = λ w h x f plain z a. noticed w h x f plain z a
