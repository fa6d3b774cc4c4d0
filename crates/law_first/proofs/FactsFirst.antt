-- All facts hold of the first world of any setting.
use Rattle.law_facts.specs.Facts.{FactsAtFirst}
use Rattle.law_first.proofs.ClockFirst.{clock_first}
use Rattle.law_first.proofs.DisksFirst.{disks_first}
use Rattle.law_first.proofs.DoorbellFirst.{doorbell_first}
use Rattle.law_first.proofs.FlightsFirst.{flights_first}
use Rattle.law_first.proofs.HandlesFirst.{handles_first}
use Rattle.law_first.proofs.LimitsFirst.{limits_first}
use Rattle.law_first.proofs.MessagesFirst.{messages_first}
use Rattle.law_first.proofs.NoticesFirst.{notices_first}
use Rattle.law_first.proofs.PathsFirst.{paths_first}
use Rattle.law_first.proofs.TiesFirst.{ties_first}

pub facts_first : FactsAtFirst
facts_first s i =
    record {
      limits = limits_first s i;
      clock = clock_first s;
      doorbell = doorbell_first s;
      flights = flights_first s i;
      handles = handles_first s;
      notices = notices_first s i;
      messages = messages_first s;
      paths = paths_first s;
      disks = disks_first s;
      ties = ties_first s;
    }
