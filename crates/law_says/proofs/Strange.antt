-- Nothing that comes up is strange.
use Rattle.std.proofs.Common.{◌≡◌, ℕ, List, ◌∷◌, Option, None, refl, ap}
use Rattle.mpt_trace.specs.declared.item.Up.{Up}
use Rattle.mpt_trace.specs.declared.item.Up.TheVariants as up
use Rattle.mpt_rules.specs.declared.why.Why.{Why}
use Rattle.mpt_rules.specs.Host.Strange.{why_strange}
use Rattle.mpt_rules.specs.Host.Takes.{takes_unless}
use Rattle.mpt_rules.specs.Law.{NothingIsStrange}
use Rattle.mpt_rules.specs.World.State.{World, up_on}
use Rattle.law_facts.specs.Facts.{Facts, SaysOfWorld}
use Rattle.law_facts.specs.History.{History}
use Rattle.law_says.specs.Premises.{DescriptorsStand}
use Rattle.law_says.proofs.Marks.{marks_say}
use Rattle.law_says.proofs.Places.{frames_say, identifiers_say, whole_say}
use Rattle.law_says.proofs.Queues.{queues_say}
use Rattle.law_says.proofs.Replies.{replies_say}
use Rattle.law_says.proofs.Values.{values_say}

module _ (w : World) (h : History) (f : Facts w h) (stands : DescriptorsStand w) where
  no_why : (queue : ℕ) (item : Up) (rest : List Up) → up_on w queue ≡ item ∷ rest → why_strange w.host queue item ≡ None
  no_why queue (up.Value value) rest e = values_say w h f queue value rest e
  no_why queue (up.Reply d frame page sense) rest e = replies_say w h f stands queue d frame page sense rest e
  no_why queue (up.Mark generation) rest e = marks_say w h f queue generation rest e
  no_why queue up.Calm rest e = refl

  pub strange_say : NothingIsStrange w
  strange_say queue item rest e = ap (λ (y : Option Why). (takes_unless w.host queue item y).answer) (no_why queue item rest e)

  pub facts_say : SaysOfWorld w
  facts_say = record { identifiers = identifiers_say w h f; frames = frames_say w h f; strange = strange_say; faults = whole_say w h f; queues = queues_say w h f }
