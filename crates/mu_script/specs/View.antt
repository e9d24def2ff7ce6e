-- What an event in memory says, without where it lies.
use Rattle.mu_model_script.specs.Tokens.{Content, Hex, Made}
use Rattle.mu_model_script.specs.Event.{Event, Node, Pair, Old, Say, Deliver, Time, Cut, Tear, Active, Phase}
use Rattle.mu_script.specs.declared.events.Content.{Content as HeldContent}
use Rattle.mu_script.specs.declared.events.Content.TheVariants.{Hex as HeldHex, Made as HeldMade}
use Rattle.mu_script.specs.declared.events.Event.{Event as HeldEvent}
use Rattle.mu_script.specs.declared.events.Event.TheVariants.{Node as HeldNode, Pair as HeldPair, Old as HeldOld, Say as HeldSay, Deliver as HeldDeliver, Time as HeldTime, Cut as HeldCut, Tear as HeldTear, Active as HeldActive, Phase as HeldPhase}

abbrev pub content : HeldContent → Content
content (HeldHex octets) = Hex octets.items
content (HeldMade seed size) = Made seed size

abbrev pub event : HeldEvent → Event
event (HeldNode address group pages version held) = Node address group pages version (content held)
event (HeldPair address group pages version held second_version second_held) =
    Pair address group pages version (content held) second_version (content second_held)
event (HeldOld address group pages version held) = Old address group pages version (content held)
event (HeldSay from to payload) = Say from to payload.items
event (HeldDeliver packet address) = Deliver packet address
event (HeldTime address ms) = Time address ms
event (HeldCut address) = Cut address
event (HeldTear address number pattern) = Tear address number pattern
event (HeldActive address) = Active address
event (HeldPhase address) = Phase address
