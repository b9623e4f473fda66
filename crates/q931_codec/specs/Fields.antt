-- A received message has the fields of an outgoing one.
use Rattle.std.specs.Prelude.{◌≡◌, ℕ, List, [], ◌∷◌, Option, Some, None, is_some, option_map}
use Rattle.q931_elements.specs.InformationElement.{first_of}
use Rattle.q931_codec.specs.Identifiers as identifier
use Rattle.q931_codec.specs.declared.contents.ChannelIdentification.TheVariants.{Exclusive}
use Rattle.q931_codec.specs.declared.message.Message.{Message}
use Rattle.q931_codec.specs.Contents.{cause_in, call_state_in, channel_in, restart_in}
use Rattle.q931_codec.specs.Outgoing.{OutgoingMessage}

-- no contents if they are empty, otherwise the contents
abbrev pub contents_given : List ℕ → Option (List ℕ)
contents_given [] = None
contents_given (octet ∷ octets) = Some (octet ∷ octets)

pub record HasFields (m : Message) (o : OutgoingMessage) : Type 0 where
  pub flag : m.flag ≡ o.flag
  pub reference : m.reference ≡ o.reference
  pub kind : m.kind ≡ o.kind
  pub complete : is_some (first_of identifier.sending_complete m.elements) ≡ o.complete
  pub bearer : first_of identifier.bearer_capability m.elements ≡ contents_given o.bearer
  pub cause : cause_in m.elements ≡ o.cause
  pub state : call_state_in m.elements ≡ o.state
  pub channel : channel_in m.elements ≡ option_map Exclusive o.channel
  pub progress : is_some (first_of identifier.progress_indicator m.elements) ≡ o.progress
  pub calling : first_of identifier.calling_party_number m.elements ≡ contents_given o.calling
  pub called : first_of identifier.called_party_number m.elements ≡ contents_given o.called
  pub restart : restart_in m.elements ≡ o.restart
  pub low : first_of identifier.low_layer_compatibility m.elements ≡ contents_given o.low
  pub high : first_of identifier.high_layer_compatibility m.elements ≡ contents_given o.high
