pub mod TraceWords
pub mod TraceFields
pub mod TraceTimers
pub mod TraceLines
pub mod TraceGrammar
pub mod TraceHeading
pub mod TraceDraft
pub mod TracePlain
