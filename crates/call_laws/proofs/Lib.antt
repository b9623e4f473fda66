pub mod EarlierFrameLemmas
pub mod ExpirySendLemmas
pub mod ExpirySinceLemmas
pub mod ExpiryChangeLemmas
pub mod ExpiryCircuitLemmas
pub mod FabricLemmas
pub mod HuntingLemmas
pub mod ConfirmedLineLemmas
pub mod RecordOrderLemmas
pub mod NoCallEndedLemmas
pub mod GrantedNailLemmas
pub mod ReferenceLemmas
pub mod ProgressLemmas
pub mod RestartedLegLemmas
pub mod RestartedLineLemmas
pub mod DroppedLineLemmas
pub mod ResumedLineLemmas
pub mod LinkStateLemmas
mod RemovedSlotLemmas
mod ChannelConditionLemmas
mod RaisedConditionLemmas
mod UnconfirmedLemmas
mod OwedStillLemmas
mod OwedEventLemmas
mod OwedSlotLemmas
mod OwedTrackLemmas
mod ConditionCountLemmas
mod OwedExactLemmas
mod ResumedSendLemmas
mod EnquiryReplyLemmas
pub mod LinkedLegLemmas
pub mod OutageLemmas
pub mod UnfailingLinkLemmas
pub mod LostLegLemmas
pub mod LostRecordLemmas
pub mod LastingCallLemmas
pub mod RecordedCallLemmas
pub mod RecordedMessageLemmas
pub mod LineRestartLemmas
pub mod LineRestartSendLemmas
mod OwedLineLemmas
pub mod FrameRecordLemmas
pub mod FullPortLemmas
pub mod DigitsLawLemmas
