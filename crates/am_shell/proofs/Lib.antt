pub mod ClockLemmas
pub mod QuestionLemmas
pub mod RunLemmas
pub mod ServeLemmas
pub mod ServingLemmas
pub mod StoreLemmas
