pub mod AnnouncedLemmas
pub mod FieldLemmas
pub mod FramingLemmas
pub mod WaitLemmas
pub mod WindowLemmas
